use Rattle.std.proofs.Common.{rules, ◌∷◌, sym, ap, ◌∙◌}
use Rattle.atomic_table.specs.Table.{rest}
use Rattle.words_mutex.proofs.Alone.{twins}
use Rattle.words_mutex.proofs.Keeps.{laid_down}
use Rattle.words_mutex.proofs.twins.never_two.Goals as goal

pub load-requires : goal.load-requires
load-requires g c = let right = c.requires.right in
    (search rules, search rules, laid_down _ _ _ _ _ _ _ _ _ right.0 c.requires.hold.1 (right.1 ∙ ap (λ l. (1, right.0) ∷ l) (sym (ap rest right.1))))

pub join_seat-requires : goal.join_seat-requires
join_seat-requires g c = let then = c.load.ensures in
    (search rules, search rules, ap (λ m. m.1) then.2 ∙ ap rest c.requires.right.1, search rules, twins _ _ _ _ _ _ _ _ _ _ _ c.requires.hold.0 (ap (λ m. m.0.holds) then.2 ∙ c.requires.hold.1))
