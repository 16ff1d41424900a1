use denote.RattleType.{RattleType}
use denote.Param.Send.{IsSend}
use Rattle.lock_place.specs.contracts.room.Room.{the_row}
use Rattle.lock_place.proofs.Sent.{room_keyless}

pub send : (T : RattleType) → IsSend T → IsSend (the_row T)
send T s = record { owned = λ d vs. ((λ vss. (tt, (tt, tt))), room_keyless T s d.at d.room_id); leaving = λ k f vs. tt }
