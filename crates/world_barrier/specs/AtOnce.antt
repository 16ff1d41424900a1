-- What the first step of a poll decides at once.
use Rattle.std.specs.Prelude.{◌≡◌, ℕ, ◌+◌, ◌<◌, ◌==◌, ◌↔◌, ◌⊎◌, if◌then◌else◌, Bool, true, false, Some}
use Rattle.lock_event.specs.Lists.{is_marked_at}
use Rattle.world_base.specs.queue.Parties.{is_party, entries_of}
use Rattle.world_base.specs.declared.moves.Answer.{Answer}
use Rattle.world_base.specs.declared.moves.Answer.TheVariants as answer
use Rattle.world_base.specs.declared.moves.Call.TheVariants as call
use Rattle.world_base.specs.declared.moves.Move.{Move}
use Rattle.world_base.specs.declared.moves.What.{What}
use Rattle.world_base.specs.declared.moves.What.TheVariants.{Begin}
use Rattle.world_base.specs.declared.standing.Rest.TheVariants.{Idle, Pending, Finished}
use Rattle.world_base.specs.Standings.{Standing, outside}
use Rattle.world_barrier.specs.State.{World, standing_of, is_free}
use Rattle.std.specs.Prelude.{◌≢◌}
use Rattle.lock_event.specs.Lists.{notified}
use Rattle.world_base.specs.declared.standing.Within.{Within}
use Rattle.world_base.specs.Standings.{inside, is_possible}
use Rattle.world_base.specs.Frame.{is_drop}
use Rattle.world_base.specs.Steps.{leaves, list_after}
use Rattle.world_barrier.specs.State.{is_starved}

-- How many entries a party has in both lists.
abbrev pub entries_in : World → ℕ → ℕ
entries_in w p = entries_of p w.lock_list + entries_of p w.list

-- The first poll of a wait, or one after a refusal, counted or not: then it has no entry.
abbrev pub is_first_poll : Standing → What → ℕ → Bool
is_first_poll (outside Idle) (Begin call.Wait inputs) n = true
is_first_poll (outside Finished) (Begin call.Wait inputs) n = true
is_first_poll (outside Pending) (Begin call.Poll inputs) n = n == 0
is_first_poll s _ n = false

-- The poll of a pending wait.
abbrev pub is_later_poll : Standing → What → Bool
is_later_poll (outside Pending) (Begin call.Poll inputs) = true
is_later_poll s _ = false

-- A step of the drop of a wait, its first one or a later one.
abbrev pub is_dropping : Standing → What → Bool
is_dropping (outside rest) what = is_drop what
is_dropping (inside within (Some answer.GivenBack)) what = true
is_dropping s what = false

-- The first step of a first poll takes the inner lock exactly where nobody holds it and nobody is starved for it. It goes on, whether it took it or not.
pub record TakesAtOnce (old : World) (m : Move) (a : Answer) (new : World) : Type 0 where
  pub takes : (new.lock.holder ≡ Some m.party) ↔ (is_free old.lock ≡ true)
  pub goes_on : a ≡ answer.Stepped

-- A wait in the inner lock's list, or in its generation's, goes on exactly where it has been notified there, and else is pending still.
pub record AnswersAtOnce (old : World) (m : Move) (a : Answer) (new : World) : Type 0 where
  pub first_poll : is_first_poll (standing_of old m.party) m.what (entries_in old m.party) ≡ true → TakesAtOnce old m a new
  pub locking : is_later_poll (standing_of old m.party) m.what ≡ true → 0 < entries_of m.party old.lock_list → a ≡ (if is_marked_at (is_party m.party) old.lock_list then answer.Stepped else answer.Pending)
  pub listed : is_later_poll (standing_of old m.party) m.what ≡ true → 0 < entries_of m.party old.list → a ≡ (if is_marked_at (is_party m.party) old.list then answer.Stepped else answer.Pending)
  -- The drop of a wait in the inner lock's list that isn't starved is one step: it leaves, and hands on there what it was told.
  pub abandons : is_drop m.what ≡ true → standing_of old m.party ≡ outside Pending → 0 < entries_of m.party old.lock_list → is_starved old.lock m.party ≡ false → (a ≡ answer.GivenBack) × (new.lock_list ≡ list_after m.party leaves old.lock_list)
  -- The drop of one that doesn't stand there is one step too, and does nothing there; and a drop notifies nobody there but by leaving.
  pub abandons_other : is_drop m.what ≡ true → entries_of m.party old.lock_list ≡ 0 → is_possible a ≡ true → (a ≡ answer.GivenBack) × (new.lock_list ≡ old.lock_list)
  pub only_leaves : is_dropping (standing_of old m.party) m.what ≡ true → (new.lock_list ≡ old.lock_list) ⊎ (new.lock_list ≡ list_after m.party leaves old.lock_list)
  -- A wait that is to be refused, has no more to do with the inner lock, and isn't starved for it, notifies one there as it ends.
  pub refuses : (within : Within) (r : ℕ) → standing_of old m.party ≡ inside within (Some (answer.Refused r)) → old.lock.holder ≢ Some m.party → entries_of m.party old.lock_list ≡ 0 → is_starved old.lock m.party ≡ false → is_possible a ≡ true
      → (a ≡ answer.Refused r) × (new.lock_list ≡ notified old.lock_list 1)
