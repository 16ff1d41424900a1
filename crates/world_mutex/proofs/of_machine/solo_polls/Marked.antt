-- A notification for nobody new.
use Rattle.world_mutex.proofs.Prelude.{◌≡◌, ℕ, ◌-◌, ◌<◌, List, ap, ◌∙◌, arith, Entry, notified, mark_waiting, Notified, marked_count}
use Rattle.lock_event.proofs.Marks.{mark_waiting-none}

-- a list in which some entry is marked is left as it is by one more notification
pub same_marks : (l : List (Entry ℕ)) → 0 < marked_count l → notified l 1 ≡ l
same_marks l some = let none : 1 - marked_count l ≡ 0 = omega (arith, some) in ap (λ n. mark_waiting Notified n l) none ∙ mark_waiting-none Notified l
