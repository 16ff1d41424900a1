-- How often permits that are available may be passed over: whole polls of notified parties, one after the other, each carried out while the others stand still.
use Rattle.std.specs.Prelude.{◌≡◌, ℕ, ◌+◌, ◌<◌, ◌≤◌, ◌⊎◌, true, false, length}
use Rattle.lock_event.specs.Lists.{marked_count, is_marked_at}
use Rattle.world_base.specs.queue.Parties.{is_party, entries_of}
use Rattle.world_base.specs.declared.moves.Answer.{Answer}
use Rattle.world_base.specs.declared.moves.Answer.TheVariants as answer
use Rattle.world_base.specs.declared.moves.Call.{Call}
use Rattle.world_base.specs.declared.moves.Call.TheVariants as call
use Rattle.world_base.specs.declared.moves.Got.TheVariants.{Plain}
use Rattle.world_base.specs.declared.moves.Inputs.{Inputs}
use Rattle.world_base.specs.declared.moves.What.TheVariants.{Begin}
use Rattle.world_base.specs.declared.standing.Rest.TheVariants.{Pending}
use Rattle.world_base.specs.Standings.{outside}
use Rattle.world_base.specs.Frame.{is_refusal}
use Rattle.world_base.specs.Bounds as bounds
use Rattle.world_semaphore.specs.machine.Seats.{guard_of}
use Rattle.world_semaphore.specs.State.{World, share_at, has_permits, held, available, standing_of, size_of}
use Rattle.world_semaphore.specs.Legal.{wanted_in}
use Rattle.world_semaphore.specs.AtOnce.{is_first_poll}
use Rattle.world_semaphore.specs.Laws.{IsFreeAndWanted}
use Rattle.world_semaphore.specs.Whole.{IsWholeCall}

-- A solo poll is of a pending party whose entry is marked, and it finds memory.
abbrev pub IsSolo : World → ℕ → Inputs → Type 0
IsSolo w p inputs = bounds.IsSolo (standing_of w p) w.entries p inputs

-- The poll took the permits that its future is for: it is ready, and its party has them.
pub record Takes (p permits : ℕ) (a : Answer) (v : World) : Type 0 where
  pub ready : a ≡ answer.Ready Plain
  pub permits_had : share_at v.state p ≡ guard_of permits

-- The poll was in vain, and hands over: it waits on in a list as long as before, nothing else of the state has changed, and if so many permits are available as somebody listed waits for, then there are enough for whoever is notified.
pub record HandsOver (w : World) (a : Answer) (v : World) : Type 0 where
  pub pending : a ≡ answer.Pending
  pub state : v.state ≡ w.state
  pub as_long : length v.entries ≡ length w.entries
  pub enough : IsFreeAndWanted v → (q : ℕ) → is_marked_at (is_party q) v.entries ≡ true → size_of v q ≤ available v.state

-- What a whole call promises beside its end.
pub record Promises (w : World) (p : ℕ) (c : Call) (inputs : Inputs) (a : Answer) (v : World) : Type 0 where
  -- A first poll is ready where as many permits are available as it is for.
  pub first : is_first_poll (standing_of w p) (Begin c inputs) (entries_of p w.entries) ≡ true → wanted_in (Begin c inputs) (size_of w p) ≤ available w.state → a ≡ answer.Ready Plain
  -- So is any later poll, a solo poll too, and takes them.
  pub later : c ≡ call.Poll → standing_of w p ≡ outside Pending → size_of w p ≤ available w.state → Takes p (size_of w p) a v
  -- Where some entry was marked before a later poll or the drop of a pending future, some is afterwards, whatever the answer, if so many permits are available as somebody listed waits for.
  pub passes_on : (c ≡ call.Poll) ⊎ (c ≡ call.Drop) → standing_of w p ≡ outside Pending → 0 < marked_count w.entries → IsFreeAndWanted v → 0 < marked_count v.entries
  -- A refused poll of a party that stood in the list hands on what it was told in the same way.
  pub hands_on : c ≡ call.Poll → standing_of w p ≡ outside Pending → 0 < entries_of p w.entries → is_refusal a ≡ true → IsFreeAndWanted v → 0 < marked_count v.entries
  -- A solo poll for which there are too few permits hands over to one for whom there are enough.
  pub hands_over : c ≡ call.Poll → IsSolo w p inputs → available w.state < size_of w p → HandsOver w a v

-- A whole solo poll, where as many permits are available as somebody listed waits for, that takes none.
pub record PassesOver (w : World) (p : ℕ) (inputs : Inputs) (a : Answer) (v : World) : Type 0 where
  pub solo : IsSolo w p inputs
  pub free : IsFreeAndWanted w
  pub whole : IsWholeCall w p call.Poll inputs a v
  pub not_taken : has_permits v.state p ≡ false

-- A whole poll of a party that was notified.
pub record PollsTold (w : World) (p : ℕ) (inputs : Inputs) (a : Answer) (v : World) : Type 0 where
  pub pending : standing_of w p ≡ outside Pending
  pub marked : is_marked_at (is_party p) w.entries ≡ true
  pub whole : IsWholeCall w p call.Poll inputs a v

-- After so many of them as many permits more are had, and the list is as much shorter; and while there were more permits, and somebody waits, there is a next party to poll.
pub record Drained (polls : ℕ) (w v : World) : Type 0 where
  pub had : held v.state ≡ held w.state + polls
  pub left : length v.entries + polls ≡ length w.entries
  pub next : polls < available w.state → 0 < length v.entries → bounds.SomeMarked (standing_of v) v.entries

-- Where everybody listed waits for one permit, as many polls of notified parties in turn as permits are available, and parties wait, give each its own.
abbrev pub Drains : World → Type 0
Drains w = ((p : ℕ) → 0 < entries_of p w.entries → size_of w p ≡ 1) → (polls : ℕ) (v : World) → polls ≤ available w.state → bounds.PolledInTurn PollsTold polls w v → Drained polls w v

-- What holds at rest where as many permits are available as somebody listed waits for: some entry is marked, of a party that is pending; and fewer solo polls in turn pass the permits over than the list has entries, and one at most: the first or the second one takes.
pub record IsBounded (w : World) : Type 0 where
  pub some_marked : bounds.SomeMarked (standing_of w) w.entries
  pub one_takes : bounds.OneTakes PassesOver (λ v. v.entries) w
  pub second_takes : (n : ℕ) (v : World) → bounds.PolledInTurn PassesOver n w v → n ≤ 1
