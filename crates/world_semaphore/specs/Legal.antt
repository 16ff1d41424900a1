-- What one move may do to a semaphore, and how it may be answered.
use Rattle.std.specs.Prelude.{◌≡◌, ◌≢◌, ℕ, ◌+◌, ◌<◌, ◌≤◌, ◌||◌, Bool, true, false, length, Option, Some, None, slice_set}
use Rattle.lock_event.specs.declared.event.Mark.TheVariants.{Waiting}
use Rattle.world_base.specs.queue.Parties.{entries_of}
use Rattle.world_base.specs.declared.moves.Answer.{Answer}
use Rattle.world_base.specs.declared.moves.Answer.TheVariants as answer
use Rattle.world_base.specs.declared.moves.Call.TheVariants as call
use Rattle.world_base.specs.declared.moves.Got.{Got}
use Rattle.world_base.specs.declared.moves.Got.TheVariants.{Plain}
use Rattle.world_base.specs.declared.moves.Move.{Move}
use Rattle.world_base.specs.declared.moves.What.{What}
use Rattle.world_base.specs.declared.moves.What.TheVariants.{Begin}
use Rattle.lock_program.specs.declared.refusal.Refusal.{Refusal}
use Rattle.lock_program.specs.declared.refusal.Refusal.TheVariants as refusal
use Rattle.world_base.specs.declared.standing.Kind.{Kind}
use Rattle.world_base.specs.declared.standing.Kind.TheVariants as kind
use Rattle.world_base.specs.declared.standing.Rest.TheVariants.{Idle, Pending, Holding, Finished}
use Rattle.world_base.specs.declared.standing.Within.{Within}
use Rattle.world_base.specs.Standings.{Standing, outside, inside, inputs_of, is_possible, is_decided, is_outside, may_end}
use Rattle.world_base.specs.Frame as frame
use Rattle.world_base.specs.Frame.{is_drop, is_giving_back, is_refusal}
use Rattle.world_semaphore.specs.machine.Seats.{nothing_had, guard_of, under_way_of, nothing_owed, a_fit}
use Rattle.world_semaphore.specs.machine.Effects.{Effect, changes, does, joins, fits, takes, gives_back, forgets, raises, gives, limit_after, share_after, entries_after, gives_something_back, gives_up}
use Rattle.world_semaphore.specs.machine.Machine.{knows}
use Rattle.world_semaphore.specs.machine.Owing.{Owes}
use Rattle.world_semaphore.specs.State.{State, World, share_at, available, standing_of, size_of, debt_of, mark_of}

-- The call that a move belongs to, where its party may make it.
abbrev pub call_of : World → Move → Option Within
call_of = frame.call_of standing_of (λ w p. knows)

-- The step from old to new decides its party's call on this answer.
abbrev pub DecidesOn : World → Move → Answer → World → Answer → Type 0
DecidesOn = frame.DecidesOn standing_of

-- ---- Which moves are possible

abbrev pub IsPossible : World → Move → Answer → World → Type 0
IsPossible = frame.IsPossible standing_of (λ w p. knows)

-- ---- What changes

abbrev pub state_after : ℕ → Effect → State → State
state_after p (changes c) s = record { limit = limit_after c s.limit; shares = slice_set s.shares p (share_after c (share_at s p)) }
state_after p _ s = s

-- How many permits a move begins to add; whether it begins to forget some.
abbrev pub added_in : What → Option ℕ
added_in (Begin (call.AddPermits n) inputs) = Some n
added_in _ = None

abbrev pub is_forget : What → Bool
is_forget (Begin call.Forget inputs) = true
is_forget _ = false

abbrev pub is_poll_call : Kind → Bool
is_poll_call kind.FirstPoll = true
is_poll_call kind.LaterPoll = true
is_poll_call _ = false

-- For how many permits the call is that a move belongs to, of a party whose future, guard or call was for so many.
abbrev pub wanted_in : What → ℕ → ℕ
wanted_in (Begin (call.Acquire k) inputs) s = k
wanted_in (Begin (call.TryAcquire k) inputs) s = k
wanted_in _ s = s

abbrev pub wanted : World → Move → ℕ
wanted w m = wanted_in m.what (size_of w m.party)

-- Where a change may be made. Permits are taken as many as the call is for, where as many are available; a drop gives back what its party's guard has, and a forget ends it; an add raises the limit if that doesn't pass its greatest value, and gives what it raised it by. Only a party whose call is decided tells others, and of so many permits as it owes to tell of.
abbrev pub IsAllowed : World → Move → Effect → Type 0
IsAllowed w m (changes (takes k)) = (wanted w m ≡ k) × (k ≤ available w.state) × (share_at w.state m.party ≡ nothing_had)
IsAllowed w m (changes (gives_back k)) = (share_at w.state m.party ≡ guard_of k) × (is_drop m.what ≡ true)
IsAllowed w m (changes (forgets k)) = (share_at w.state m.party ≡ guard_of k) × (is_forget m.what ≡ true)
IsAllowed w m (changes (raises n)) = (added_in m.what ≡ Some n) × (w.state.limit + n ≤ w.most) × (share_at w.state m.party ≡ nothing_had)
IsAllowed w m (changes (gives n)) = share_at w.state m.party ≡ under_way_of n
IsAllowed w m (does (fits a)) = (debt_of w m.party ≡ a_fit a) × (is_decided (standing_of w m.party) ≡ true)
IsAllowed w m _ = Unit {0}

-- A move changes one thing of the state or does one list function, never both, and moves no other party. A join has found memory; a party whose call is decided only gives back, and no other gives anything up.
pub record ChangesOneThing (old : World) (m : Move) (new : World) : Type 0 where
  pub effect : Effect
  pub allowed : IsAllowed old m effect
  pub state : new.state ≡ state_after m.party effect old.state
  pub entries : new.entries ≡ entries_after (size_of old) m.party effect old.entries
  pub most : new.most ≡ old.most
  pub opening_permits : new.opening_permits ≡ old.opening_permits
  pub others : (q : ℕ) → q ≢ m.party → standing_of new q ≡ standing_of old q
  pub parties : length new.standings ≡ length old.standings
  pub found_memory : effect ≡ does joins → (inputs_of m.what).memory ≡ true
  pub parting : is_decided (standing_of old m.party) || is_giving_back m.what ≡ true → gives_something_back effect ≡ true
  pub giving_up : gives_up effect ≡ true → is_decided (standing_of old m.party) || is_giving_back m.what ≡ true

-- For how many permits a party's future, guard or call is after a move: an acquire says it, and it stays so until a drop or a forget.
abbrev pub size_after : What → Answer → ℕ → ℕ
size_after what answer.NotPossible s = s
size_after (Begin (call.Acquire k) inputs) a s = k
size_after (Begin (call.TryAcquire k) inputs) answer.None s = s
size_after (Begin (call.TryAcquire k) inputs) a s = k
size_after (Begin call.Drop inputs) a s = 0
size_after (Begin call.Forget inputs) a s = 0
size_after what a s = s

pub record KnowsSizes (old : World) (m : Move) (a : Answer) (new : World) : Type 0 where
  pub own : size_of new m.party ≡ size_after m.what a (size_of old m.party)
  pub others : (q : ℕ) → q ≢ m.party → size_of new q ≡ size_of old q

-- What a possible move does to what parties owe.
pub record KnowsDebts (old : World) (m : Move) (new : World) : Type 0 where
  pub own : Owes m.party (debt_of old m.party) (debt_of new m.party) old.entries new.entries (available new.state) (size_of old)
  pub others : (q : ℕ) → q ≢ m.party → debt_of new q ≡ debt_of old q

-- ---- What an answer says, where its call is decided

-- Ready says that its party has the permits that its future was for; neither Ready nor Granted carries a value.
pub record Carries (old : World) (m : Move) (a : Answer) (new : World) : Type 0 where
  pub ready : (got : Got) → DecidesOn old m a new (answer.Ready got) → (got ≡ Plain) × (share_at new.state m.party ≡ guard_of (wanted old m))
  pub granted : (got : Got) → DecidesOn old m a new (answer.Granted got) → got ≡ Plain

-- A poll that is decided on Pending leaves its party waiting in the list. It is so before that answer only where the party has to tell others of permits.
pub record Waits (old : World) (m : Move) (a : Answer) (new : World) : Type 0 where
  pub waiting : DecidesOn old m a new answer.Pending → mark_of new m.party ≡ Some Waiting
  pub listed : a ≡ answer.Pending → entries_of m.party new.entries ≡ 1
  pub before : (within : Within) → standing_of new m.party ≡ inside within (Some answer.Pending) → (n : ℕ) × (debt_of new m.party ≡ a_fit n)

-- Why a call of a semaphore may be refused: a join found no memory, for the move's input said so, and nothing else happened; an add would pass the greatest limit, and nothing changed; or the future had been ready before.
abbrev pub IsCause : World → Move → World → Refusal → Type 0
IsCause old m new refusal.Memory = ((inputs_of m.what).memory ≡ false) × (entries_of m.party old.entries ≡ 0) × (new.entries ≡ old.entries) × (new.state ≡ old.state)
IsCause old m new refusal.Permits = (n : ℕ) × (added_in m.what ≡ Some n) × (old.most < old.state.limit + n) × (new ≡ old)
IsCause old m new refusal.Finished = new ≡ old
IsCause old m new _ = ⊥

abbrev pub IsRefusedForCause : World → Move → Answer → World → Type 0
IsRefusedForCause = frame.IsRefusedForCause standing_of IsCause

-- ---- What parties have

-- What a party has by how it stands: outside every call it has a guard exactly if it stands as one that holds it, of the permits that it is for, and unless it is pending it is in no list; until its call is decided it has nothing, and only a poll goes on so; once it is to be ready it has its permits, while it adds it has no guard, and while it gives back, waits or is refused it has nothing.
abbrev pub HasItsOwn : World → ℕ → Standing → Type 0
HasItsOwn w p (outside Idle) = (entries_of p w.entries ≡ 0) × (share_at w.state p ≡ nothing_had) × (size_of w p ≡ 0)
HasItsOwn w p (outside Finished) = (entries_of p w.entries ≡ 0) × (share_at w.state p ≡ nothing_had) × (size_of w p ≡ 0)
HasItsOwn w p (outside Holding) = (entries_of p w.entries ≡ 0) × (share_at w.state p ≡ guard_of (size_of w p))
HasItsOwn w p (outside Pending) = share_at w.state p ≡ nothing_had
HasItsOwn w p (inside within None) = (share_at w.state p ≡ nothing_had) × (is_poll_call within.kind ≡ true)
HasItsOwn w p (inside within (Some (answer.Ready got))) = share_at w.state p ≡ guard_of (size_of w p)
HasItsOwn w p (inside within (Some (answer.Granted got))) = (share_at w.state p).held ≡ None
HasItsOwn w p (inside within (Some a)) = share_at w.state p ≡ nothing_had
HasItsOwn w p _ = Unit {0}

-- Each party has what its standing says, its call is decided only on an answer with which such a call may end, and outside every call it owes nothing; and after a refusal its future is as when it was made, in no list.
pub record LeavesClear (m : Move) (a : Answer) (new : World) : Type 0 where
  pub each : (p : ℕ) → HasItsOwn new p (standing_of new p)
  pub decided : (p : ℕ) (within : Within) (b : Answer) → standing_of new p ≡ inside within (Some b) → may_end within.kind b ≡ true
  pub paid : (p : ℕ) → is_outside (standing_of new p) ≡ true → debt_of new p ≡ nothing_owed
  pub refused : is_refusal a ≡ true → entries_of m.party new.entries ≡ 0

-- ---- How a call ends

abbrev pub EndsProperly : World → Move → Answer → World → Type 0
EndsProperly = frame.EndsProperly standing_of (λ w p. knows) Holding

-- ---- The legal step

-- From the old World the move may be answered so, and lead to the new World.
pub record Legal (old : World) (m : Move) (a : Answer) (new : World) : Type 0 where
  pub possible : IsPossible old m a new
  pub one_change : ChangesOneThing old m new
  pub knows_sizes : KnowsSizes old m a new
  pub knows_debts : is_possible a ≡ true → KnowsDebts old m new
  pub carries : Carries old m a new
  pub waits : Waits old m a new
  pub refused_for_cause : IsRefusedForCause old m a new
  pub leaves_clear : LeavesClear m a new
  pub ends_properly : EndsProperly old m a new
