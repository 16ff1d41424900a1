use denote.RattleType.{RattleType}
use denote.Param.Send.{IsSend, IsSync, part_keyless}
use Rattle.lock_place.specs.contracts.rested.Rested.{the_row}
use Rattle.lock_place.proofs.Sent.{rested_keyless}

pub sync : (T : RattleType) → IsSend T → IsSync (the_row T)
sync T s = let whole : IsSend (the_row T) = record { owned = λ d vs. ((λ vss. (tt, ((λ uss. (tt, tt)), tt))), rested_keyless T s d.room_id d.value d.deed d.is_ticket); leaving = λ k f vs. tt } in record { shared = λ d b o ν q. part_keyless (the_row T) whole q d b o }
