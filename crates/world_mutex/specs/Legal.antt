-- What one move may do to a mutex, and how it may be answered.
use Rattle.std.specs.Prelude.{◌≡◌, ◌≢◌, ℕ, ◌<◌, ◌==◌, ◌||◌, ◌↔◌, ◌⊎◌, if◌then◌else◌, Bool, true, false, List, length, Option, Some, None, slice_set}
use Rattle.lock_event.specs.declared.event.Entry.{Entry}
use Rattle.lock_event.specs.declared.event.Mark.TheVariants.{Waiting}
use Rattle.lock_event.specs.Lists.{notified, is_marked_at}
use Rattle.world_base.specs.queue.Parties.{is_party, entries_of}
use Rattle.world_base.specs.declared.moves.Answer.{Answer}
use Rattle.world_base.specs.declared.moves.Answer.TheVariants as answer
use Rattle.world_base.specs.declared.moves.Call.TheVariants as call
use Rattle.world_base.specs.declared.moves.Got.TheVariants.{Value}
use Rattle.world_base.specs.declared.moves.Move.{Move}
use Rattle.world_base.specs.declared.moves.What.{What}
use Rattle.world_base.specs.declared.moves.What.TheVariants.{Begin}
use Rattle.lock_program.specs.declared.refusal.Refusal.{Refusal}
use Rattle.lock_program.specs.declared.refusal.Refusal.TheVariants as refusal
use Rattle.world_base.specs.declared.standing.Kind.TheVariants as kind
use Rattle.world_base.specs.declared.standing.Rest.TheVariants.{Idle, Pending, Holding, Finished}
use Rattle.world_base.specs.declared.standing.Within.{Within}
use Rattle.world_base.specs.Standings.{Standing, outside, inside, inputs_of, is_possible, is_decided, may_end, IsUndecided}
use Rattle.world_base.specs.Frame as frame
use Rattle.world_base.specs.Frame.{is_drop, is_refusal, put_in}
use Rattle.world_base.specs.Steps.{Effect, nothing, changes, does, joins, leaves, notifies, notifies_additionally, asked, list_after, is_parting}
use Rattle.world_base.specs.Rosters.{how_many}
use Rattle.world_mutex.specs.Guarded.{knows}
use Rattle.world_mutex.specs.State.{State, World, standing_of, is_starved, is_free, mark_of, IsClear}
use Rattle.std.specs.Prelude.{nat_lt}
use Rattle.world_base.specs.declared.standing.Rest.{Rest}

-- The call that a move belongs to, where its party may make it.
abbrev pub call_of : World → Move → Option Within
call_of = frame.call_of standing_of (λ w p. knows)

-- The step from old to new decides its party's call on this answer.
abbrev pub DecidesOn : World → Move → Answer → World → Answer → Type 0
DecidesOn = frame.DecidesOn standing_of

-- ---- Which moves are possible

abbrev pub IsPossible : World → Move → Answer → World → Type 0
IsPossible = frame.IsPossible standing_of (λ w p. knows)

-- ---- What changes

-- The changes of the state: the party takes the lock or gives it back, is counted as starved or no more, or leaves a value.
pub data Change : Type 0 where
  takes : Change
  releases : Change
  starves : Change
  recovers : Change
  puts : ℕ → Change

-- A mutex has one list: of the parties that wait for the lock.
pub data ListName : Type 0 where
  for_the_lock : ListName

abbrev pub state_after : ℕ → Effect Change ListName → State → State
state_after p (changes takes) s = record { holder = Some p; starved = s.starved; value = s.value }
state_after p (changes releases) s = record { holder = None; starved = s.starved; value = s.value }
state_after p (changes starves) s = record { holder = s.holder; starved = slice_set s.starved p true; value = s.value }
state_after p (changes recovers) s = record { holder = s.holder; starved = slice_set s.starved p false; value = s.value }
state_after p (changes (puts v)) s = record { holder = s.holder; starved = s.starved; value = v }
state_after p _ s = s

abbrev pub entries_after : ℕ → Effect Change ListName → List (Entry ℕ) → List (Entry ℕ)
entries_after p (does for_the_lock f) l = list_after p f l
entries_after p _ l = l

-- Once its call is decided, a party only gives back: the lock, its starved count, its entry, a notification.
abbrev pub gives_back : Effect Change ListName → Bool
gives_back nothing = true
gives_back (changes releases) = true
gives_back (changes recovers) = true
gives_back (changes _) = false
gives_back (does list f) = is_parting f

-- What gives something up: the lock, the starved count, or a place in the list without asking there.
abbrev pub gives_up : Effect Change ListName → Bool
gives_up (changes releases) = true
gives_up (changes recovers) = true
gives_up (does list leaves) = true
gives_up _ = false

-- A party that notifies notifies for one, and not beside one that was notified before.
abbrev pub notifies_one : Effect Change ListName → Bool
notifies_one (does list (notifies n)) = n == 1
notifies_one (does list (notifies_additionally n)) = false
notifies_one _ = true

abbrev pub is_held : Rest → Bool
is_held Holding = true
is_held _ = false

-- Who may notify, by how it stands, whether it is starved, and how many entries it has: a party whose poll isn't decided and that gives way, in no list before it is counted as starved, and listed after that; one that is to be refused; and who has given the lock back.
abbrev pub may_tell : Standing → Bool → ℕ → Bool
may_tell (inside within None) starved n = if starved then nat_lt 0 n else n == 0
may_tell (inside within (Some (answer.Refused r))) starved n = true
may_tell (inside within (Some answer.GivenBack)) starved n = is_held within.was
may_tell s starved n = false

-- A move changes one thing of the state or does one list function, never both, and moves no other party. A join has found memory; a party whose call is decided only gives back, and no other gives anything up.
pub record ChangesOneThing (old : World) (m : Move) (new : World) : Type 0 where
  pub effect : Effect Change ListName
  pub state : new.state ≡ state_after m.party effect old.state
  pub entries : new.entries ≡ entries_after m.party effect old.entries
  pub limit : new.limit ≡ old.limit
  pub opening_value : new.opening_value ≡ old.opening_value
  pub others : (q : ℕ) → q ≢ m.party → standing_of new q ≡ standing_of old q
  pub parties : length new.standings ≡ length old.standings
  pub found_memory : (list : ListName) → effect ≡ does list joins → (inputs_of m.what).memory ≡ true
  pub parting : is_decided (standing_of old m.party) || is_drop m.what ≡ true → gives_back effect ≡ true
  pub giving_up : gives_up effect ≡ true → is_decided (standing_of old m.party) || is_drop m.what ≡ true
  pub notice : notifies_one effect ≡ true
  pub tells : (list : ListName) (n : ℕ) → effect ≡ does list (notifies n) → may_tell (standing_of old m.party) (is_starved old.state m.party) (entries_of m.party old.entries) ≡ true

-- ---- Who may have the lock

-- A party that has the lock and didn't have it before took it where nobody held it, and nobody was starved or it was itself.
abbrev pub IsTakenFairly : World → World → Type 0
IsTakenFairly old new = (p : ℕ) → new.state.holder ≡ Some p → old.state.holder ≢ Some p
    → (old.state.holder ≡ None) × ((how_many old.state.starved ≡ 0) ⊎ (is_starved old.state p ≡ true))

-- The other parties keep what they have: the lock, and whether they are starved. A party becomes starved only below the limit.
pub record OthersKeepTheirs (old : World) (m : Move) (new : World) : Type 0 where
  pub lock : (q : ℕ) → q ≢ m.party → (new.state.holder ≡ Some q) ↔ (old.state.holder ≡ Some q)
  pub starved : (q : ℕ) → q ≢ m.party → is_starved new.state q ≡ is_starved old.state q
  pub limit : is_starved old.state m.party ≡ false → is_starved new.state m.party ≡ true → how_many old.state.starved < old.limit

-- ---- What an answer says, where its call is decided

-- Ready and Granted carry the value, and their party holds the lock.
pub record Carries (old : World) (m : Move) (a : Answer) (new : World) : Type 0 where
  pub ready : (got : _) → DecidesOn old m a new (answer.Ready got) → (got ≡ Value new.state.value) × (new.state.holder ≡ Some m.party)
  pub granted : (got : _) → DecidesOn old m a new (answer.Granted got) → (got ≡ Value new.state.value) × (new.state.holder ≡ Some m.party)

-- Pending: the party stands waiting in the list. No call is decided on Pending before that answer.
pub record Waits (m : Move) (a : Answer) (new : World) : Type 0 where
  pub waiting : a ≡ answer.Pending → mark_of new m.party ≡ Some Waiting
  pub not_before : (within : Within) → standing_of new m.party ≢ inside within (Some answer.Pending)

-- Why a call of a mutex may be refused: a join found no memory, for the move's input said so, and nothing else happened; a party that isn't starved was to be counted so, past its call's first step, where there are as many as there may be, and nothing else happened; or the future had been ready before.
abbrev pub IsCause : World → Move → World → Refusal → Type 0
IsCause old m new refusal.Memory = ((inputs_of m.what).memory ≡ false) × (entries_of m.party old.entries ≡ 0) × (new.entries ≡ old.entries) × (new.state ≡ old.state)
IsCause old m new refusal.Starved = (how_many old.state.starved ≡ old.limit) × (is_starved old.state m.party ≡ false) × IsUndecided (standing_of old m.party) × (new.entries ≡ old.entries) × (new.state ≡ old.state)
IsCause old m new refusal.Finished = new ≡ old
IsCause old m new _ = ⊥

abbrev pub IsRefusedForCause : World → Move → Answer → World → Type 0
IsRefusedForCause = frame.IsRefusedForCause standing_of IsCause

-- ---- What parties have

-- What a party has by how it stands: outside every call it holds the lock exactly if it stands as its holder, and unless it is pending it is in no list and not starved; one that is pending is starved only where it stands in the list. Inside a call it holds the lock exactly if the call is decided on being ready; a drop is decided at its first step, and whoever gives back is starved no more once it stands in no list.
abbrev pub HasItsOwn : World → ℕ → Standing → Type 0
HasItsOwn w p (outside Idle) = IsClear w p × (w.state.holder ≢ Some p)
HasItsOwn w p (outside Finished) = IsClear w p × (w.state.holder ≢ Some p)
HasItsOwn w p (outside Holding) = IsClear w p × (w.state.holder ≡ Some p)
HasItsOwn w p (outside Pending) = (w.state.holder ≢ Some p) × (entries_of p w.entries ≡ 0 → is_starved w.state p ≡ false)
HasItsOwn w p (inside within None) = (w.state.holder ≢ Some p) × (within.kind ≢ kind.Drop)
HasItsOwn w p (inside within (Some (answer.Ready got))) = w.state.holder ≡ Some p
HasItsOwn w p (inside within (Some answer.GivenBack)) = (w.state.holder ≢ Some p) × (entries_of p w.entries ≡ 0 → is_starved w.state p ≡ false)
HasItsOwn w p (inside within (Some a)) = w.state.holder ≢ Some p
HasItsOwn w p _ = Unit {0}

-- Each party has what its standing says, and its call is decided only on an answer with which such a call may end; and after a refusal its future is as when it was made, in no list and not starved.
pub record LeavesClear (m : Move) (a : Answer) (new : World) : Type 0 where
  pub each : (p : ℕ) → HasItsOwn new p (standing_of new p)
  pub decided : (p : ℕ) (within : Within) (b : Answer) → standing_of new p ≡ inside within (Some b) → may_end within.kind b ≡ true
  pub refused : is_refusal a ≡ true → IsClear new m.party

-- ---- The value

-- A put of the holder is granted and leaves its value; nothing else changes the value.
pub record IsValueKept (old : World) (m : Move) (a : Answer) (new : World) : Type 0 where
  pub put : (v : ℕ) → put_in m.what ≡ Some v → is_possible a ≡ true → (a ≡ answer.Granted (Value v)) × (new.state.value ≡ v)
  pub kept : (put_in m.what ≡ None) ⊎ (a ≡ answer.NotPossible) → new.state.value ≡ old.state.value

-- ---- How a call ends

abbrev pub EndsProperly : World → Move → Answer → World → Type 0
EndsProperly = frame.EndsProperly standing_of (λ w p. knows) Holding

-- ---- The legal step

-- From the old World the move may be answered so, and lead to the new World.
pub record Legal (old : World) (m : Move) (a : Answer) (new : World) : Type 0 where
  pub possible : IsPossible old m a new
  pub one_change : ChangesOneThing old m new
  pub taken_fairly : IsTakenFairly old new
  pub others_keep : OthersKeepTheirs old m new
  pub carries : Carries old m a new
  pub waits : Waits m a new
  pub refused_for_cause : IsRefusedForCause old m a new
  pub leaves_clear : LeavesClear m a new
  pub value_kept : IsValueKept old m a new
  pub ends_properly : EndsProperly old m a new

-- ---- Immediate answers

abbrev pub is_try : What → Bool
is_try (Begin call.TryLock inputs) = true
is_try _ = false

-- The first poll of a future, or one after a refusal that left it as when it was made; n is the number of the party's entries.
abbrev pub is_first_poll : Standing → What → ℕ → Bool
is_first_poll (outside Idle) (Begin call.Lock inputs) n = true
is_first_poll (outside Finished) (Begin call.Lock inputs) n = true
is_first_poll (outside Pending) (Begin call.Poll inputs) n = n == 0
is_first_poll s _ n = false

-- A later poll of a party that has been pending.
abbrev pub is_later_poll : Standing → What → Bool
is_later_poll (outside Pending) (Begin call.Poll inputs) = true
is_later_poll s _ = false

-- A possible try is granted exactly where the lock is free, and else answers None; the first step of a first poll takes the lock exactly where it is free, and is ready then.
pub record AnswersAtOnce (old : World) (m : Move) (a : Answer) (new : World) : Type 0 where
  pub at_once : is_try m.what ≡ true → is_possible a ≡ true → a ≡ (if is_free old.state then answer.Granted (Value old.state.value) else answer.None)
  pub ready : is_first_poll (standing_of old m.party) m.what (entries_of m.party old.entries) ≡ true → a ≡ (if is_free old.state then answer.Ready (Value old.state.value) else answer.Stepped)
  pub first_poll : is_first_poll (standing_of old m.party) m.what (entries_of m.party old.entries) ≡ true
      → (new.state.holder ≡ Some m.party) ↔ (is_free old.state ≡ true)
  -- Neither does anything else.
  pub looks : is_try m.what || is_first_poll (standing_of old m.party) m.what (entries_of m.party old.entries) ≡ true → is_possible a ≡ true
      → (new.state ≡ (if is_free old.state then state_after m.party (changes takes) old.state else old.state)) × (new.entries ≡ old.entries)
  -- A poll of a party in the list goes on exactly where it has been notified, and else is pending still: it asks, and does nothing else.
  pub listed : is_later_poll (standing_of old m.party) m.what ≡ true → 0 < entries_of m.party old.entries
      → (a ≡ (if is_marked_at (is_party m.party) old.entries then answer.Stepped else answer.Pending)) × (new.state ≡ old.state) × (new.entries ≡ asked m.party old.entries)
  -- The drop of a guard gives the lock back, and then notifies.
  pub released : is_drop m.what ≡ true → standing_of old m.party ≡ outside Holding → (a ≡ answer.Stepped) × (new.state ≡ state_after m.party (changes releases) old.state)
  pub notifies : standing_of old m.party ≡ inside (record { kind = kind.Drop; was = Holding }) (Some answer.GivenBack) → is_possible a ≡ true → (a ≡ answer.GivenBack) × (new.entries ≡ notified old.entries 1)
  -- The drop of a future in the list that isn't starved is one step: it leaves, and hands on there what it was told.
  pub abandons : is_drop m.what ≡ true → standing_of old m.party ≡ outside Pending → 0 < entries_of m.party old.entries → is_starved old.state m.party ≡ false → (a ≡ answer.GivenBack) × (new.state ≡ old.state) × (new.entries ≡ list_after m.party leaves old.entries)
  -- A poll that is to be refused notifies as it ends, once its party stands in no list and isn't starved.
  pub refuses : (within : Within) (r : ℕ) → standing_of old m.party ≡ inside within (Some (answer.Refused r)) → entries_of m.party old.entries ≡ 0 → is_starved old.state m.party ≡ false → is_possible a ≡ true
      → (a ≡ answer.Refused r) × (new.entries ≡ notified old.entries 1)
