use Rattle.std.proofs.Common.{rules, ap}
use Rattle.words_access.proofs.Beside.{shut_out, no_step}
use Rattle.words_access.proofs.twins.never_beside.Goals as goal

pub join_seat-requires : goal.join_seat-requires
join_seat-requires g c = (search rules, search rules, search rules, search rules, shut_out _ _ _ _ _ _ _ _ c.requires.writes c.requires.reads)

pub load-requires : goal.load-requires
load-requires g c = let joined = c.join_seat.ensures.2 in
    (search rules, search rules, no_step _ _ _ _ _ _ (ap (λ m. m.0.writes) joined) (ap (λ m. m.0.marks) joined))
