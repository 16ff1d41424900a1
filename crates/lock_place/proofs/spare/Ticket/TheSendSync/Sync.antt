use denote.Param.Send.{IsSend, IsSync, part_keyless}
use Rattle.lock_place.specs.contracts.spare.Ticket.{the_row}

pub sync : IsSync the_row
sync = let whole : IsSend the_row = record { owned = λ d vs. ((λ vss. (tt, ((λ uss. (tt, tt)), tt))), (tt, tt)); leaving = λ k f vs. tt } in record { shared = λ d b o ν q. part_keyless the_row whole q d b o }
