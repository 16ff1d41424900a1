-- A release takes a second step, which leaves some entry of the list marked, unless the list is empty.
use Rattle.world_mutex.proofs.Prelude.{◌≡◌, ℕ, ◌<◌, Bool, true, length, IsSomeAnd, Option, ap, ◌∙◌, marked_count, notified_marked, End, Step, LockCall, Place, Holding, Clear, start_of, step_of, is_releasing, entries_after, Mutex, course_at, reveal, place_at, Acts, HasBegun}
use Rattle.world_mutex.specs.machine.Conduct.{IsLegal}

starts_clear : (P : Place → Type 0) (x : Place) → IsSomeAnd (start_of LockCall.Release x) P → P Clear
starts_clear P Holding h = h
starts_clear P _ h = absurd h

-- a release goes on after its first step
pub release_goes : (memory : Bool) (p : ℕ) (s : Step) (old new : Mutex) → HasBegun memory p LockCall.Release s old new → s ≡ Step.More
release_goes memory p s old new d =
    let acts : Acts memory p Clear d.next (reveal old.behind) (reveal new.behind) = starts_clear _ (place_at (reveal old.behind).places p) d.does in
    d.step ∙ ap step_of acts.next_is

-- and its second one notifies
pub released_marks : (memory : Bool) (p : ℕ) (d : Option End) (s : Step) (old new : Mutex) → is_releasing (course_at old.courses p) ≡ true → IsLegal memory p d s old new → 0 < length new.entries → 0 < marked_count new.entries
released_marks memory p d s old new releasing g = notified_marked old.entries new.entries (g.entries ∙ ap (λ z. entries_after p z old.entries) (g.releases releasing))
