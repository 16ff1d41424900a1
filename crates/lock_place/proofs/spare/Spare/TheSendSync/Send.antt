use denote.RattleType.{RattleType}
use denote.Param.Send.{IsSend}
use Rattle.lock_place.specs.contracts.spare.Spare.{the_row}
use Rattle.lock_place.proofs.Sent.{spare_keyless}

pub send : (T : RattleType) → IsSend T → IsSend (the_row T)
send T s = record { owned = λ d vs. ((λ vss. (tt, ((λ uss. (tt, tt)), tt))), spare_keyless T s d.room_id d.deed d.value); leaving = λ k f vs. tt }
