-- What one move may do to a read-write lock, and how it may be answered.
use Rattle.std.specs.Prelude.{◌≡◌, ◌≢◌, ℕ, ◌<◌, ◌≤◌, ◌==◌, ◌&&◌, ◌||◌, ◌↔◌, ◌⊎◌, if◌then◌else◌, not, nat_lt, Bool, true, false, List, length, Option, Some, None, slice_set}
use Rattle.lock_event.specs.declared.event.Entry.{Entry}
use Rattle.lock_event.specs.declared.event.Mark.TheVariants.{Waiting}
use Rattle.world_base.specs.declared.moves.Answer.{Answer}
use Rattle.world_base.specs.declared.moves.Answer.TheVariants as answer
use Rattle.world_base.specs.declared.moves.Call.{Call}
use Rattle.world_base.specs.declared.moves.Call.TheVariants as call
use Rattle.world_base.specs.declared.moves.Got.TheVariants.{Value}
use Rattle.world_base.specs.declared.moves.Move.{Move}
use Rattle.world_base.specs.declared.moves.What.{What}
use Rattle.world_base.specs.declared.moves.What.TheVariants.{Begin}
use Rattle.lock_program.specs.declared.refusal.Refusal.{Refusal}
use Rattle.lock_program.specs.declared.refusal.Refusal.TheVariants as refusal
use Rattle.world_base.specs.declared.standing.Kind.TheVariants as kind
use Rattle.world_base.specs.declared.standing.Rest.TheVariants.{Idle, Pending, Holding, Finished}
use Rattle.world_base.specs.declared.standing.Within.{Within}
use Rattle.world_base.specs.Accounts.{sought_after}
use Rattle.world_base.specs.Frame as frame
use Rattle.world_base.specs.Frame.{is_drop, is_giving_back, is_refusal, put_in}
use Rattle.world_base.specs.Rights.{Right, read, upgradable, write}
use Rattle.world_base.specs.Rosters.{how_many}
use Rattle.world_base.specs.Standings.{Standing, outside, inside, forgotten, inputs_of, is_possible, is_decided, decision, refused}
use Rattle.world_base.specs.Steps.{Effect, nothing, does, joins, leaves, list_after}
use Rattle.world_rwlock.specs.State.{ListName, list_of, Turn, passes, is_upgradable, waits_to_write, writes, World, standing_of, sought_by, reads, how_many_read, is_marked, is_turn_free, HasTurn, entries_in, told_in, is_upgrader, IsClear}
use Rattle.world_rwlock.specs.Changes.{Change, state_after, entries_after, IsAllowed, gives_back, gives_up}
use Rattle.world_base.specs.Standings.{IsUndecided}
use Rattle.world_base.specs.Standings.{may_end}
use Rattle.world_rwlock.specs.State.{is_starved, is_for_turn, for_the_turn, for_no_readers, for_no_writer, has_to_tell}
use Rattle.lock_event.specs.Lists.{is_marked_at, notified}
use Rattle.world_base.specs.queue.Parties.{is_party}
use Rattle.world_base.specs.queue.Parties.{entries_of}
use Rattle.world_base.specs.Steps.{asked}

-- The calls of a read-write lock, by the right that the party's guard is for: a guard's own calls are known of that guard alone.
abbrev pub knows : Option Right → Call → Bool
knows s call.Read = true
knows s call.UpgradableRead = true
knows s call.Write = true
knows s call.TryRead = true
knows s call.TryUpgradableRead = true
knows s call.TryWrite = true
knows s call.Poll = true
knows s call.Drop = true
knows (Some upgradable) call.Upgrade = true
knows (Some upgradable) call.TryUpgrade = true
knows (Some upgradable) call.Downgrade = true
knows (Some write) call.Downgrade = true
knows (Some write) call.DowngradeToUpgradable = true
knows (Some write) (call.Put v) = true
knows s _ = false

abbrev pub knows_of : World → ℕ → Call → Bool
knows_of w p = knows (sought_by w p)

-- The call that a move belongs to, where its party may make it.
abbrev pub call_of : World → Move → Option Within
call_of = frame.call_of standing_of knows_of

-- The step from old to new decides its party's call on this answer.
abbrev pub DecidesOn : World → Move → Answer → World → Answer → Type 0
DecidesOn = frame.DecidesOn standing_of

-- ---- Which moves are possible

abbrev pub IsPossible : World → Move → Answer → World → Type 0
IsPossible = frame.IsPossible standing_of knows_of

-- ---- What changes

-- A move changes one thing of the state where it may, or does one list function, never both, and moves no other party. A join has found memory, and what is refused for want of it, or since too many are starved, does nothing else. A party whose call is decided only gives back, and none gives anything up before, but in a call that is for that.
pub record ChangesOneThing (old : World) (m : Move) (a : Answer) (new : World) : Type 0 where
  pub effect : Effect Change ListName
  pub state : new.state ≡ state_after m.party effect old.state
  pub allowed : IsAllowed m.party effect old
  pub lists : (list : ListName) → list_of new list ≡ entries_after m.party effect list (list_of old list)
  pub starved_limit : new.starved_limit ≡ old.starved_limit
  pub readers_limit : new.readers_limit ≡ old.readers_limit
  pub opening_value : new.opening_value ≡ old.opening_value
  pub sought : new.sought ≡ slice_set old.sought m.party (sought_after (sought_by old m.party) m.what a)
  pub others : (q : ℕ) → q ≢ m.party → standing_of new q ≡ standing_of old q
  pub parties : length new.standings ≡ length old.standings
  pub found_memory : (list : ListName) → effect ≡ does list joins → (inputs_of m.what).memory ≡ true
  pub refused_idly : DecidesOn old m a new (refused refusal.Memory) → effect ≡ nothing
  pub starved_idly : DecidesOn old m a new (refused refusal.Starved) → effect ≡ nothing
  pub parting : is_decided (standing_of old m.party) || is_drop m.what ≡ true → gives_back effect ≡ true
  pub giving_up : gives_up effect ≡ true → is_decided (standing_of old m.party) || is_giving_back m.what ≡ true

-- ---- What parties have

-- Just this right, and no other: a reader hasn't the turn, an upgradable party has it and reads, a writer has it and doesn't.
abbrev pub HasJust : World → ℕ → Right → Type 0
HasJust w p read = (reads w p ≡ true) × (HasTurn w.state.turn p → ⊥)
HasJust w p upgradable = (reads w p ≡ true) × (w.state.turn ≡ is_upgradable p)
HasJust w p write = (reads w p ≡ false) × (w.state.turn ≡ writes p)
HasJust w p _ = ⊥

-- The party has just the right that its call, future or guard is for.
abbrev pub HasSought : World → ℕ → Type 0
HasSought w p = (r : Right) × (sought_by w p ≡ Some r) × HasJust w p r

abbrev pub HasNothing : World → ℕ → Type 0
HasNothing w p = (reads w p ≡ false) × (HasTurn w.state.turn p → ⊥)

-- Outside every call a guard has just its right, a future has nothing but that it may wait to write if it seeks to, and only a future is in a list, starved, or an upgrade's. Until its call is decided a party has no right, and it waits to write only if it seeks to. A drop and a downgrade are decided at their first step, and a guard that is downgraded reads from then on; whoever gives back is starved no more once it stands in the turn's list no more.
abbrev pub HasItsOwn : World → ℕ → Standing → Type 0
HasItsOwn w p (outside Idle) = IsClear w p × HasNothing w p × (is_upgrader w p ≡ false)
HasItsOwn w p (outside Finished) = IsClear w p × HasNothing w p × (is_upgrader w p ≡ false)
HasItsOwn w p (outside Holding) = IsClear w p × HasSought w p × (is_upgrader w p ≡ false)
HasItsOwn w p (outside Pending) = (reads w p ≡ false) × (((w.state.turn ≡ waits_to_write p) × (sought_by w p ≡ Some write)) ⊎ ((HasTurn w.state.turn p → ⊥) × (is_upgrader w p ≡ false)))
HasItsOwn w p (inside within None) = (reads w p ≡ false) × (w.state.turn ≢ is_upgradable p) × (w.state.turn ≢ writes p) × (w.state.turn ≡ waits_to_write p → sought_by w p ≡ Some write) × (within.kind ≢ kind.Drop) × (within.kind ≢ kind.Downgrade)
HasItsOwn w p (inside within (Some answer.GivenBack)) = (within.kind ≡ kind.Downgrade → reads w p ≡ true) × (entries_of p w.turn_list ≡ 0 → is_starved w p ≡ false)
HasItsOwn w p (inside within (Some a)) = within.kind ≡ kind.Downgrade → reads w p ≡ true
HasItsOwn w p forgotten = Unit {0}

-- Each party has what its standing says, and its call is decided only on an answer with which such a call may end; and after a refusal its future is as when it was made, in no list, not starved and without the turn, but that of an upgrade, which goes on waiting to write.
pub record LeavesClear (old : World) (m : Move) (a : Answer) (new : World) : Type 0 where
  pub each : (p : ℕ) → HasItsOwn new p (standing_of new p)
  pub decided : (p : ℕ) (within : Within) (b : Answer) → standing_of new p ≡ inside within (Some b) → may_end within.kind b ≡ true
  pub refused : is_refusal a ≡ true → IsClear new m.party
  pub gives_up_turn : is_refusal a ≡ true → is_upgrader old m.party ≡ false → HasTurn new.state.turn m.party → ⊥
  pub keeps_turn : is_refusal a ≡ true → is_upgrader old m.party ≡ true → new.state.turn ≡ waits_to_write m.party

-- ---- What an answer says, where its call is decided

-- Ready and Granted carry the value, and their party has just the right that its call is for.
pub record Carries (old : World) (m : Move) (a : Answer) (new : World) : Type 0 where
  pub ready : (got : _) → DecidesOn old m a new (answer.Ready got) → (got ≡ Value new.state.value) × HasSought new m.party
  pub granted : (got : _) → DecidesOn old m a new (answer.Granted got) → (got ≡ Value new.state.value) × HasSought new m.party

-- The list in which a party waits for what it wants next: a read's until no writer is; an upgradable read's for the turn; a write's for the turn, and with it until no reader is left.
abbrev pub list_for : Option Right → Turn → ℕ → World → List (Entry ℕ)
list_for (Some read) t p w = w.no_writer
list_for (Some write) (waits_to_write q) p w = if q == p then w.no_readers else w.turn_list
list_for s t p w = w.turn_list

-- Pending: the party stands waiting in the list of what it wants next. No call is decided on Pending before that answer.
pub record Waits (m : Move) (a : Answer) (new : World) : Type 0 where
  pub waiting : a ≡ answer.Pending → told_in (list_for (sought_by new m.party) new.state.turn m.party new) m.party ≡ Some Waiting
  pub not_before : (within : Within) → standing_of new m.party ≢ inside within (Some answer.Pending)

-- Which limit a party meets, by what it takes: a read that of the readers, where nobody waits to write or writes; an upgradable read that of the readers once it has the turn, and until then that of the starved; a write that of the starved, until it has the turn.
abbrev pub MayMeet : Option Right → World → ℕ → Refusal → Type 0
MayMeet (Some read) w p refusal.Readers = is_marked w.state.turn ≡ false
MayMeet (Some upgradable) w p refusal.Readers = HasTurn w.state.turn p
MayMeet (Some upgradable) w p refusal.Starved = HasTurn w.state.turn p → ⊥
MayMeet (Some write) w p refusal.Starved = HasTurn w.state.turn p → ⊥
MayMeet s w p r = ⊥

-- Why a call may be refused: a join found no memory, for the move's input said so, and whoever has just taken the turn looks before it joins; there are as many starved parties as there may be, of which it is none, past its call's first step, and its lists are as before; there are as many readers as there may be, and it takes what that limit is for; or the future had been ready before.
abbrev pub IsCause : World → Move → World → Refusal → Type 0
IsCause old m new refusal.Memory = ((inputs_of m.what).memory ≡ false) × (entries_in old m.party ≡ 0) × ((list : ListName) → list_of new list ≡ list_of old list) × (old.state.turn ≢ passes m.party)
IsCause old m new refusal.Starved = (how_many old.state.starved ≡ old.starved_limit) × MayMeet (sought_by new m.party) old m.party refusal.Starved × (is_starved old m.party ≡ false) × IsUndecided (standing_of old m.party) × ((list : ListName) → list_of new list ≡ list_of old list)
IsCause old m new refusal.Readers = (old.readers_limit ≤ how_many_read old) × MayMeet (sought_by new m.party) old m.party refusal.Readers
IsCause old m new refusal.Finished = new ≡ old
IsCause old m new _ = ⊥

abbrev pub IsRefusedForCause : World → Move → Answer → World → Type 0
IsRefusedForCause = frame.IsRefusedForCause standing_of IsCause

-- ---- The value

-- A put of the writer is granted and leaves its value; nothing else changes the value.
pub record IsValueKept (old : World) (m : Move) (a : Answer) (new : World) : Type 0 where
  pub put : (v : ℕ) → put_in m.what ≡ Some v → is_possible a ≡ true → (a ≡ answer.Granted (Value v)) × (new.state.value ≡ v)
  pub kept : (put_in m.what ≡ None) ⊎ (a ≡ answer.NotPossible) → new.state.value ≡ old.state.value

-- ---- How a call ends

abbrev pub EndsProperly : World → Move → Answer → World → Type 0
EndsProperly = frame.EndsProperly standing_of knows_of Holding

-- ---- Upgrades

-- A future is an upgrade's from the answer Waiting on, as long as its calls aren't decided.
pub record KeepsUpgrades (old : World) (m : Move) (a : Answer) (new : World) : Type 0 where
  pub begins : a ≡ answer.Waiting → is_upgrader new m.party ≡ true
  pub pending : a ≢ answer.Waiting → standing_of new m.party ≡ outside Pending → is_upgrader new m.party ≡ is_upgrader old m.party
  pub undecided : (within : Within) → standing_of new m.party ≡ inside within None → is_upgrader new m.party ≡ is_upgrader old m.party
  pub others : (q : ℕ) → q ≢ m.party → is_upgrader new q ≡ is_upgrader old q

-- ---- The legal step

-- From the old World the move may be answered so, and lead to the new World.
pub record Legal (old : World) (m : Move) (a : Answer) (new : World) : Type 0 where
  pub possible : IsPossible old m a new
  pub one_change : ChangesOneThing old m a new
  pub carries : Carries old m a new
  pub waits : Waits m a new
  pub refused_for_cause : IsRefusedForCause old m a new
  pub leaves_clear : LeavesClear old m a new
  pub value_kept : IsValueKept old m a new
  pub ends_properly : EndsProperly old m a new
  pub keeps_upgrades : KeepsUpgrades old m a new

-- ---- Whom a party tells of what it gave up

-- Whoever gives the turn up, clears the writer's bit, or stops reading as the last, by a drop or wherever it doesn't set the bit itself, goes on, and has to tell one of those that wait for that. It goes on until it has told exactly one of them; of the turn it tells at its next step. Nobody but such a party comes to have to tell, and no other party comes to have to, or is freed of it, by its step.
pub record TellsOnRelease (old : World) (m : Move) (a : Answer) (new : World) : Type 0 where
  pub turn : HasTurn old.state.turn m.party → (HasTurn new.state.turn m.party → ⊥) → (a ≡ answer.Stepped) × (has_to_tell for_the_turn new m.party ≡ true)
  pub bit : HasTurn old.state.turn m.party → is_marked old.state.turn ≡ true → is_marked new.state.turn ≡ false → (a ≡ answer.Stepped) × (has_to_tell for_no_writer new m.party ≡ true)
  pub last_reader : reads old m.party ≡ true → how_many_read new ≡ 0 → (is_drop m.what ≡ true) ⊎ (is_marked new.state.turn ≡ is_marked old.state.turn) → (a ≡ answer.Stepped) × (has_to_tell for_no_readers new m.party ≡ true)
  pub tells : (list : ListName) → has_to_tell list old m.party ≡ true → is_possible a ≡ true → (list_of new list ≡ notified (list_of old list) 1) ⊎ ((a ≡ answer.Stepped) × (has_to_tell list new m.party ≡ true))
  pub tells_at_once : has_to_tell for_the_turn old m.party ≡ true → is_possible a ≡ true → new.turn_list ≡ notified old.turn_list 1
  pub only_turn : has_to_tell for_the_turn old m.party ≡ false → has_to_tell for_the_turn new m.party ≡ true → HasTurn old.state.turn m.party × (HasTurn new.state.turn m.party → ⊥)
  pub only_bit : has_to_tell for_no_writer old m.party ≡ false → has_to_tell for_no_writer new m.party ≡ true → HasTurn old.state.turn m.party × (is_marked old.state.turn ≡ true) × (is_marked new.state.turn ≡ false)
  pub only_last : has_to_tell for_no_readers old m.party ≡ false → has_to_tell for_no_readers new m.party ≡ true → (reads old m.party ≡ true) × (how_many_read new ≡ 0)
  pub others : (list : ListName) (q : ℕ) → q ≢ m.party → has_to_tell list new q ≡ has_to_tell list old q

-- ---- Immediate answers

-- A reader may enter: nobody waits to write or writes, and there are fewer readers than there may be.
abbrev pub may_read : World → Bool
may_read w = not (is_marked w.state.turn) && nat_lt (how_many_read w) w.readers_limit

abbrev pub granted_if : Bool → World → Answer
granted_if b w = if b then answer.Granted (Value w.state.value) else answer.None

-- A try that first takes the turn: an upgradable read's, or a write's.
abbrev pub is_try_for_turn : What → Bool
is_try_for_turn (Begin call.TryUpgradableRead inputs) = true
is_try_for_turn (Begin call.TryWrite inputs) = true
is_try_for_turn _ = false

-- A party in such a try that has just taken the turn for this right.
abbrev pub IsTryWithTurn : World → Move → Right → Type 0
IsTryWithTurn w m r = (within : Within) × (standing_of w m.party ≡ inside within None) × (within.kind ≡ kind.Try) × (w.state.turn ≡ passes m.party) × (sought_by w m.party ≡ Some r)

-- A first poll, or one after a refusal that left the future as when it was made, of a future for this right; n is the number of the party's entries.
abbrev pub is_first_poll : Right → Standing → Option Right → What → ℕ → Bool
is_first_poll read (outside Idle) s (Begin call.Read inputs) n = true
is_first_poll read (outside Finished) s (Begin call.Read inputs) n = true
is_first_poll read (outside Pending) (Some read) (Begin call.Poll inputs) n = n == 0
is_first_poll upgradable (outside Idle) s (Begin call.UpgradableRead inputs) n = true
is_first_poll upgradable (outside Finished) s (Begin call.UpgradableRead inputs) n = true
is_first_poll upgradable (outside Pending) (Some upgradable) (Begin call.Poll inputs) n = n == 0
is_first_poll write (outside Idle) s (Begin call.Write inputs) n = true
is_first_poll write (outside Finished) s (Begin call.Write inputs) n = true
is_first_poll write (outside Pending) (Some write) (Begin call.Poll inputs) n = n == 0
is_first_poll r s _ what n = false

abbrev pub is_first : World → Move → Right → Bool
is_first w m r = is_first_poll r (standing_of w m.party) (sought_by w m.party) m.what (entries_in w m.party)

-- A step joins, asks, leaves and notifies in no list, and counts nobody as starved.
pub record LeavesLists (old new : World) : Type 0 where
  pub turn_list : new.turn_list ≡ old.turn_list
  pub no_writer : new.no_writer ≡ old.no_writer
  pub no_readers : new.no_readers ≡ old.no_readers
  pub starved : new.state.starved ≡ old.state.starved

-- A poll asks in this list: it goes on exactly where its party has been notified, and else is pending still.
abbrev pub AsksIn : ℕ → List (Entry ℕ) → Answer → List (Entry ℕ) → Type 0
AsksIn p old a new = (a ≡ (if is_marked_at (is_party p) old then answer.Stepped else answer.Pending)) × (new ≡ asked p old)

-- The tries are granted exactly where the right is free. One that needs the turn takes it first, exactly where nobody has it and nobody is starved for it, and is decided at its next step: granted exactly where readers are below their limit, or no reader is left. The first step of a first poll takes on the same condition as that of its try, and a read is then ready.
pub record AnswersAtOnce (old : World) (m : Move) (a : Answer) (new : World) : Type 0 where
  pub try_read : (inputs : _) → m.what ≡ Begin call.TryRead inputs → is_possible a ≡ true → a ≡ granted_if (may_read old) old
  pub try_upgrade : (inputs : _) → m.what ≡ Begin call.TryUpgrade inputs → is_possible a ≡ true → a ≡ granted_if (how_many_read old == 1) old
  pub try_turn : is_try_for_turn m.what ≡ true → is_possible a ≡ true
      → (a ≡ (if is_turn_free old.state then answer.Stepped else answer.None)) × ((new.state.turn ≡ passes m.party) ↔ (is_turn_free old.state ≡ true))
  -- Such a try that has taken the turn isn't decided yet.
  pub try_goes_on : is_try_for_turn m.what ≡ true → is_possible a ≡ true → is_turn_free old.state ≡ true → decision a (standing_of new m.party) ≡ None
  pub try_upgradable : IsTryWithTurn old m upgradable → is_possible a ≡ true → (a ≡ answer.Granted (Value old.state.value)) ↔ (how_many_read old < old.readers_limit)
  pub try_upgradable_decided : IsTryWithTurn old m upgradable → is_possible a ≡ true → decision a (standing_of new m.party) ≡ Some (granted_if (nat_lt (how_many_read old) old.readers_limit) old)
  pub try_write : IsTryWithTurn old m write → is_possible a ≡ true → (a ≡ answer.Granted (Value old.state.value)) ↔ (how_many_read old ≡ 0)
  pub try_write_decided : IsTryWithTurn old m write → is_possible a ≡ true → decision a (standing_of new m.party) ≡ Some (granted_if (how_many_read old == 0) old)
  pub first_read : is_first old m read ≡ true → (reads new m.party ≡ true) ↔ (may_read old ≡ true)
  pub first_read_ready : is_first old m read ≡ true → may_read old ≡ true → a ≡ answer.Ready (Value old.state.value)
  -- Where nobody writes or waits to but as many read as may, a first read is refused at once.
  pub first_read_full : is_first old m read ≡ true → is_marked old.state.turn ≡ false → old.readers_limit ≤ how_many_read old → a ≡ refused refusal.Readers
  pub first_upgradable : is_first old m upgradable ≡ true → (new.state.turn ≡ passes m.party) ↔ (is_turn_free old.state ≡ true)
  pub first_write : is_first old m write ≡ true → is_upgrader old m.party ≡ false → (new.state.turn ≡ passes m.party) ↔ (is_turn_free old.state ≡ true)
  -- A try, and the first step of a first poll, do nothing in the lists.
  pub try_read_looks : (inputs : _) → m.what ≡ Begin call.TryRead inputs → is_possible a ≡ true → LeavesLists old new
  pub try_upgrade_looks : (inputs : _) → m.what ≡ Begin call.TryUpgrade inputs → is_possible a ≡ true → LeavesLists old new
  pub try_turn_looks : is_try_for_turn m.what ≡ true → is_possible a ≡ true → LeavesLists old new
  pub first_read_looks : is_first old m read ≡ true → LeavesLists old new
  pub first_upgradable_looks : is_first old m upgradable ≡ true → LeavesLists old new
  pub first_write_looks : is_first old m write ≡ true → is_upgrader old m.party ≡ false → LeavesLists old new
  -- A poll of a party that waits for the turn, or to read, asks in that list first.
  pub listed_for_turn : (inputs : _) → m.what ≡ Begin call.Poll inputs → standing_of old m.party ≡ outside Pending → 0 < entries_of m.party old.turn_list → AsksIn m.party old.turn_list a new.turn_list
  pub listed_to_read : (inputs : _) → m.what ≡ Begin call.Poll inputs → standing_of old m.party ≡ outside Pending → 0 < entries_of m.party old.no_writer → AsksIn m.party old.no_writer a new.no_writer
  -- The drop of a party that waits for the turn and isn't starved, or that waits to read, is one step: it leaves, and hands on there what it was told.
  pub abandons_turn : is_drop m.what ≡ true → standing_of old m.party ≡ outside Pending → 0 < entries_of m.party old.turn_list → is_starved old m.party ≡ false → (a ≡ answer.GivenBack) × (new.turn_list ≡ list_after m.party leaves old.turn_list)
  pub abandons_reading : is_drop m.what ≡ true → standing_of old m.party ≡ outside Pending → 0 < entries_of m.party old.no_writer → (a ≡ answer.GivenBack) × (new.no_writer ≡ list_after m.party leaves old.no_writer)
  -- So is that of a future that stands in no list, but of an upgrade, and it does nothing in the lists.
  pub abandons_unlisted : is_drop m.what ≡ true → standing_of old m.party ≡ outside Pending → entries_in old m.party ≡ 0 → is_upgrader old m.party ≡ false → (a ≡ answer.GivenBack) × LeavesLists old new
  -- A call for the turn that is to be refused, has not the turn, stands in its list no more and isn't starved for it, notifies one there as it ends; and so does a read that is to be refused, among those that wait to read.
  pub refuses_turn : (within : Within) (r : ℕ) → standing_of old m.party ≡ inside within (Some (answer.Refused r)) → is_for_turn (sought_by old m.party) ≡ true → (HasTurn old.state.turn m.party → ⊥) → entries_of m.party old.turn_list ≡ 0 → is_starved old m.party ≡ false → is_possible a ≡ true
      → (a ≡ answer.Refused r) × (new.turn_list ≡ notified old.turn_list 1)
  pub refuses_read : (within : Within) (r : ℕ) → standing_of old m.party ≡ inside within (Some (answer.Refused r)) → sought_by old m.party ≡ Some read → entries_of m.party old.no_writer ≡ 0 → is_possible a ≡ true
      → (a ≡ answer.Refused r) × (new.no_writer ≡ notified old.no_writer 1)
  -- What is given up is told of.
  pub gives_up : TellsOnRelease old m a new
