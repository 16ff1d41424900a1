use Rattle.std.proofs.Common.{[], ◌∷◌, ◌++◌, sym, ap, ◌∙◌, subst}
use Rattle.atomic_table.specs.Table.{opening}
use Rattle.words_barrier.specs.Rule.{Ruled, first_view}
use Rattle.words_barrier.proofs.Keeps.{opens}
use Rattle.lock_queue.specs.Queues.{listed_by}
use Rattle.barrier_core.specs.Lists.{listed_of}
use Rattle.barrier_core.proofs.raw.empty_table.Goals as goal

pub new-requires-2 : goal.new-requires-2
new-requires-2 c = let made = c.new.ensures in
    subst (λ xs. Ruled listed_of (opening (0 ∷ 0 ∷ []) xs first_view)) (sym (c.push_reserved.ensures.items ∙ ap (λ xs. xs ++ c.new.result ∷ []) c.in_ok-slots.ensures.items))
    (opens _ listed_of c.new.result (ap listed_by made))
