use denote.RattleType.{RattleType}
use denote.Param.Send.{IsSend}
use Rattle.lock_place.specs.contracts.rested.Rested.{the_row}
use Rattle.lock_place.proofs.Sent.{rested_keyless}

pub send : (T : RattleType) → IsSend T → IsSend (the_row T)
send T s = record { owned = λ d vs. ((λ vss. (tt, ((λ uss. (tt, tt)), tt))), rested_keyless T s d.room_id d.value d.deed d.is_ticket); leaving = λ k f vs. tt }
