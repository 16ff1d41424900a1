-- A semaphore begins with a list that nobody has joined.
use Rattle.std.proofs.Common.{refl, sym, ap, ◌∙◌, subst, List, [], ◌∷◌, ◌++◌}
use Rattle.atomic_table.specs.Table.{opening}
use Rattle.words_permits.specs.Rule.{Ruled}
use Rattle.words_permits.specs.Seats.{first_view}
use Rattle.words_permits.proofs.Keeps.{opens}
use Rattle.semaphore_core.specs.Entries.{waiters_in}
use Rattle.semaphore_core.specs.Queues.{queue_waiters, queue_marked}
use Rattle.semaphore_core.specs.declared.queue.Queue.{Queue}
use Rattle.semaphore_core.proofs.raw.full_table.Goals as goal

pub new-requires-2 : goal.new-requires-2
new-requires-2 c =
    let k = c.args.permits in
    let items = c.push_reserved.ensures.items ∙ ap (λ (l : List Queue). l ++ c.new.result ∷ []) c.in_ok-slots.ensures.items in
    subst (λ (l : List Queue). Ruled queue_waiters queue_marked k (opening (k ∷ 0 ∷ k ∷ []) l first_view)) (sym items)
    (opens Queue queue_waiters queue_marked k k c.new.result refl c.ranges.permits.fits (ap waiters_in c.new.ensures))
