-- What the first step of a call decides at once.
use Rattle.std.specs.Prelude.{◌≡◌, ℕ, ◌+◌, ◌<◌, ◌≤◌, ◌==◌, ◌||◌, ◌⊎◌, if◌then◌else◌, Bool, true, false, Some, nat_le}
use Rattle.weighted_event.specs.Weights.{fitted}
use Rattle.world_base.specs.queue.Parties.{entries_of}
use Rattle.world_base.specs.declared.moves.Answer.{Answer}
use Rattle.world_base.specs.declared.moves.Answer.TheVariants as answer
use Rattle.world_base.specs.declared.moves.Call.TheVariants as call
use Rattle.world_base.specs.declared.moves.Got.TheVariants.{Plain}
use Rattle.world_base.specs.declared.moves.Move.{Move}
use Rattle.world_base.specs.declared.moves.What.{What}
use Rattle.world_base.specs.declared.moves.What.TheVariants.{Begin}
use Rattle.lock_program.specs.declared.refusal.Refusal.TheVariants as refusal
use Rattle.world_base.specs.declared.standing.Kind.TheVariants as kind
use Rattle.world_base.specs.declared.standing.Rest.{Rest}
use Rattle.world_base.specs.declared.standing.Rest.TheVariants.{Idle, Pending, Holding, Finished}
use Rattle.world_base.specs.Frame.{is_drop}
use Rattle.world_base.specs.declared.standing.Within.{Within}
use Rattle.world_base.specs.Standings.{Standing, outside, inside, is_possible, refused, decision}
use Rattle.world_semaphore.specs.machine.Effects.{changes, takes, gives_back, forgets, raises, gives}
use Rattle.world_semaphore.specs.machine.Seats.{nothing_owed, a_look, a_fit}
use Rattle.world_semaphore.specs.State.{World, share_at, has_permits, available, standing_of, size_of, debt_of}
use Rattle.world_semaphore.specs.Legal.{state_after, added_in, is_forget, wanted}

abbrev pub is_try : What → Bool
is_try (Begin (call.TryAcquire k) inputs) = true
is_try _ = false

-- The first poll of a future, or one after a refusal that left it as when it was made; n is the number of the party's entries.
abbrev pub is_first_poll : Standing → What → ℕ → Bool
is_first_poll (outside Idle) (Begin (call.Acquire k) inputs) n = true
is_first_poll (outside Finished) (Begin (call.Acquire k) inputs) n = true
is_first_poll (outside Pending) (Begin call.Poll inputs) n = n == 0
is_first_poll s _ n = false

-- Any poll of a future that hasn't been ready.
abbrev pub is_poll : Standing → What → Bool
is_poll (outside Idle) (Begin (call.Acquire k) inputs) = true
is_poll (outside Finished) (Begin (call.Acquire k) inputs) = true
is_poll (outside Pending) (Begin call.Poll inputs) = true
is_poll s _ = false

-- As many permits are available as the move's call is for.
abbrev pub is_enough : World → Move → Bool
is_enough w m = nat_le (wanted w m) (available w.state)

-- An add raises the limit exactly where that doesn't pass its greatest value, and is granted; else it is refused and nothing changes.
pub record AddsAtOnce (n : ℕ) (old : World) (m : Move) (a : Answer) (new : World) : Type 0 where
  pub fits : old.state.limit + n ≤ old.most → (new.state ≡ state_after m.party (changes (raises n)) old.state) × (decision a (standing_of new m.party) ≡ Some (answer.Granted Plain))
  pub past : old.most < old.state.limit + n → (a ≡ refused refusal.Permits) × (new ≡ old)

-- Once it has raised the limit, an add gives what it raised it by, and then tells of what is available since.
pub record GivesInTurn (old : World) (m : Move) (a : Answer) (new : World) : Type 0 where
  pub given : debt_of old m.party ≡ nothing_owed → (a ≡ answer.Stepped) × (new.state ≡ state_after m.party (changes (gives (share_at old.state m.party).under_way)) old.state) × (debt_of new m.party ≡ a_fit (available new.state))
  pub told : (n : ℕ) → debt_of old m.party ≡ a_fit n → (a ≡ answer.Granted Plain) × (new.entries ≡ fitted (size_of old) n old.entries)

-- A party that is to be answered so owes a look or to tell of so many. It looks, and owes to tell of what it found; or it tells, and has that answer.
pub record TellsInTurn (b : Answer) (old : World) (m : Move) (a : Answer) (new : World) : Type 0 where
  pub owes : (debt_of old m.party ≡ a_look) ⊎ ((n : ℕ) × (debt_of old m.party ≡ a_fit n))
  pub looks : debt_of old m.party ≡ a_look → (a ≡ answer.Stepped) × (new.state ≡ old.state) × (new.entries ≡ old.entries) × (debt_of new m.party ≡ a_fit (available old.state))
  pub tells : (n : ℕ) → debt_of old m.party ≡ a_fit n → (a ≡ b) × (new.entries ≡ fitted (size_of old) n old.entries)

-- A possible try is granted exactly where as many permits are available as it is for, and else answers None; the first step of any poll takes its permits exactly where as many are available, and then the poll is to be ready, a first poll at once.
pub record AnswersAtOnce (old : World) (m : Move) (a : Answer) (new : World) : Type 0 where
  pub tried : is_try m.what ≡ true → is_possible a ≡ true → (a ≡ (if is_enough old m then answer.Granted Plain else answer.None)) × (has_permits new.state m.party ≡ is_enough old m)
  pub polled : is_poll (standing_of old m.party) m.what ≡ true → has_permits new.state m.party ≡ is_enough old m
  pub taken : is_poll (standing_of old m.party) m.what ≡ true → is_enough old m ≡ true → decision a (standing_of new m.party) ≡ Some (answer.Ready Plain)
  pub ready : is_first_poll (standing_of old m.party) m.what (entries_of m.party old.entries) ≡ true → a ≡ (if is_enough old m then answer.Ready Plain else answer.Stepped)
  -- Neither does anything else.
  pub looks : is_try m.what || is_poll (standing_of old m.party) m.what ≡ true → is_possible a ≡ true
      → (new.state ≡ (if is_enough old m then state_after m.party (changes (takes (wanted old m))) old.state else old.state)) × (new.entries ≡ old.entries)
  -- An add, a forget and the drop of a guard do at once what they are for.
  pub added : (n : ℕ) → added_in m.what ≡ Some n → is_possible a ≡ true → AddsAtOnce n old m a new
  pub forgotten : is_forget m.what ≡ true → is_possible a ≡ true → (a ≡ answer.GivenBack) × (new.state ≡ state_after m.party (changes (forgets (size_of old m.party))) old.state)
  pub returned : is_drop m.what ≡ true → standing_of old m.party ≡ outside Holding
      → (a ≡ answer.Stepped) × (new.state ≡ state_after m.party (changes (gives_back (size_of old m.party))) old.state) × (debt_of new m.party ≡ a_fit (available new.state))
  -- Then such a drop tells of what is available, and so does the drop of a notified future, once it has looked, and an add, once it has given.
  pub tells : (was : Rest) → standing_of old m.party ≡ inside (record { kind = kind.Drop; was = was }) (Some answer.GivenBack) → is_possible a ≡ true → TellsInTurn answer.GivenBack old m a new
  pub gives : standing_of old m.party ≡ inside (record { kind = kind.Add; was = Idle }) (Some (answer.Granted Plain)) → is_possible a ≡ true → GivesInTurn old m a new
  -- So does a poll that took a notification and is to be refused for memory, or to wait on.
  pub refuses : (within : Within) → standing_of old m.party ≡ inside within (Some (refused refusal.Memory)) → is_possible a ≡ true → TellsInTurn (refused refusal.Memory) old m a new
  pub waits : (within : Within) → standing_of old m.party ≡ inside within (Some answer.Pending) → is_possible a ≡ true → TellsInTurn answer.Pending old m a new
