-- What one move may do to a barrier, and how it may be answered.
use Rattle.std.specs.Prelude.{◌≡◌, ◌≢◌, ℕ, ◌+◌, ◌<◌, ◌≤◌, ◌||◌, ◌↔◌, ◌⊎◌, Bool, true, false, length, Option, Some, None}
use Rattle.lock_event.specs.declared.event.Mark.TheVariants.{Waiting}
use Rattle.lock_event.specs.Lists.{notified}
use Rattle.world_base.specs.queue.Parties.{entries_of}
use Rattle.world_base.specs.declared.moves.Answer.{Answer}
use Rattle.world_base.specs.declared.moves.Answer.TheVariants as answer
use Rattle.world_base.specs.declared.moves.Got.{Got}
use Rattle.world_base.specs.declared.moves.Got.TheVariants as got
use Rattle.world_base.specs.declared.moves.Move.{Move}
use Rattle.lock_program.specs.declared.refusal.Refusal.{Refusal}
use Rattle.lock_program.specs.declared.refusal.Refusal.TheVariants as refusal
use Rattle.world_base.specs.declared.standing.Rest.TheVariants.{Idle, Pending, Holding, Finished}
use Rattle.world_base.specs.declared.standing.Within.{Within}
use Rattle.world_base.specs.Frame as frame
use Rattle.world_base.specs.Frame.{is_drop, is_refusal}
use Rattle.world_base.specs.Rosters.{how_many}
use Rattle.world_base.specs.Standings.{Standing, outside, inside, forgotten, inputs_of, is_decided, is_possible}
use Rattle.world_base.specs.Steps.{Effect, changes, does, joins, asks, leaves, notifies, notifies_additionally}
use Rattle.world_barrier.specs.program.Effects.{everyone}
use Rattle.world_barrier.specs.machine.Machine.{knows}
use Rattle.world_barrier.specs.machine.Waits.{Wait, no_wait, uncounted, counted}
use Rattle.world_barrier.specs.declared.world.ListName.{ListName}
use Rattle.world_barrier.specs.declared.world.ListName.TheVariants.{Lock, Generation}
use Rattle.world_barrier.specs.Numbers.{Leads, IsFinished, generations_of}
use Rattle.world_barrier.specs.State.{World, list_in, standing_of, wait_of, is_starved, is_held_by, has_to_tell, told_in, IsClear}
use Rattle.world_barrier.specs.Changes.{Change, takes, releases, starves, recovers, arrives, lock_after, arrivals_after, lock_list_after, generation_list_after, wait_after, gives_back, gives_up}
use Rattle.world_base.specs.Standings.{IsUndecided}

-- The call that a move belongs to, where its party may make it.
abbrev pub call_of : World → Move → Option Within
call_of = frame.call_of standing_of (λ w p. knows)

-- The step from old to new decides its party's call on this answer.
abbrev pub DecidesOn : World → Move → Answer → World → Answer → Type 0
DecidesOn = frame.DecidesOn standing_of

-- ---- Which moves are possible

abbrev pub IsPossible : World → Move → Answer → World → Type 0
IsPossible = frame.IsPossible standing_of (λ w p. knows)

-- ---- What changes

-- The inner lock may be taken by this party: nobody holds it, and nobody is starved or the party is.
abbrev pub MayTake : World → ℕ → Type 0
MayTake w p = (w.lock.holder ≡ None) × ((how_many w.lock.starved ≡ 0) ⊎ (is_starved w.lock p ≡ true))

-- The party's wait is counted.
abbrev pub IsCounted : World → ℕ → Type 0
IsCounted w p = (a : ℕ) × (wait_of w p ≡ counted a)

-- The number of the next arrival.
abbrev pub next_arrival : World → ℕ
next_arrival w = w.arrivals + 1

-- The arrival of this party may be counted: it holds the inner lock, its wait isn't counted yet, it stands in the list already unless it leads, and no generation past the limit is finished.
pub record MayArrive (w : World) (p : ℕ) : Type 0 where
  pub holds : w.lock.holder ≡ Some p
  pub uncounted : wait_of w p ≡ uncounted
  pub joined : Leads w.size (next_arrival w) ⊎ (entries_of p w.list ≡ 1)
  pub within : generations_of w.size (next_arrival w) ≤ w.generations_limit

-- The party has to wait for its generation: as an arrival that is to be counted and won't lead, or as a counted one whose generation isn't finished.
abbrev pub HasToWait : World → Wait → Type 0
HasToWait w uncounted = Leads w.size (next_arrival w) → ⊥
HasToWait w (counted a) = IsFinished w.size a w.arrivals → ⊥
HasToWait w no_wait = ⊥

-- The party's wait is counted, and its arrival leads.
abbrev pub IsLeader : World → ℕ → Type 0
IsLeader w p = (a : ℕ) × (wait_of w p ≡ counted a) × Leads w.size a

-- The party stands in the list as a counted one.
abbrev pub IsInList : World → ℕ → Type 0
IsInList w p = IsCounted w p × (entries_of p w.list ≡ 1)

-- In the inner lock's list one notifies one, and not beside one that was notified before; the holder notifies nobody, and a party that stands there only if it is starved.
pub record MayTell (w : World) (p n : ℕ) : Type 0 where
  pub one : n ≡ 1
  pub without_lock : w.lock.holder ≡ Some p → ⊥
  pub starved : 0 < entries_of p w.lock_list → is_starved w.lock p ≡ true

-- Where a change may be made. The inner lock is taken fairly, and released by its holder, once its call is decided or once it stands counted in the list. Only the holder joins the list, where it has to wait, and only a leader that holds the lock notifies there, all at once. Whoever asks there is counted, and only a drop leaves.
abbrev pub IsAllowed : World → Move → Effect Change ListName → Type 0
IsAllowed w m (changes takes) = MayTake w m.party
IsAllowed w m (changes releases) = (w.lock.holder ≡ Some m.party) × ((is_decided (standing_of w m.party) ≡ true) ⊎ IsInList w m.party)
IsAllowed w m (changes starves) = (is_starved w.lock m.party ≡ false) × (how_many w.lock.starved < w.starved_limit)
IsAllowed w m (changes recovers) = is_starved w.lock m.party ≡ true
IsAllowed w m (changes arrives) = MayArrive w m.party
IsAllowed w m (does Generation joins) = (w.lock.holder ≡ Some m.party) × HasToWait w (wait_of w m.party)
IsAllowed w m (does Generation asks) = IsCounted w m.party
IsAllowed w m (does Generation leaves) = is_drop m.what ≡ true
IsAllowed w m (does Generation (notifies n)) = (n ≡ everyone) × (w.lock.holder ≡ Some m.party) × IsLeader w m.party
IsAllowed w m (does Generation (notifies_additionally n)) = ⊥
IsAllowed w m (does Lock (notifies n)) = MayTell w m.party n
IsAllowed w m (does Lock (notifies_additionally n)) = ⊥
IsAllowed w m _ = Unit {0}

-- A move makes one change or does one list function, never both, and moves no other party. Arrivals are counted one by one, each for its party's own wait, and no drop takes one back. A join has found memory; a party whose call is decided only gives back, and no other gives anything up but the holder of the inner lock.
pub record ChangesOneThing (old : World) (m : Move) (a : Answer) (new : World) : Type 0 where
  pub effect : Effect Change ListName
  pub allowed : IsAllowed old m effect
  pub lock : new.lock ≡ lock_after m.party effect old.lock
  pub arrivals : new.arrivals ≡ arrivals_after effect old.arrivals
  pub lock_list : new.lock_list ≡ lock_list_after m.party effect old.lock_list
  pub list : new.list ≡ generation_list_after m.party effect old.list
  pub wait : wait_of new m.party ≡ wait_after effect old.arrivals m.what a (wait_of old m.party)
  pub other_waits : (q : ℕ) → q ≢ m.party → wait_of new q ≡ wait_of old q
  pub others : (q : ℕ) → q ≢ m.party → standing_of new q ≡ standing_of old q
  pub parties : length new.standings ≡ length old.standings
  pub size : new.size ≡ old.size
  pub starved_limit : new.starved_limit ≡ old.starved_limit
  pub generations_limit : new.generations_limit ≡ old.generations_limit
  pub found_memory : (list : ListName) → effect ≡ does list joins → (inputs_of m.what).memory ≡ true
  pub parting : is_decided (standing_of old m.party) || is_drop m.what ≡ true → gives_back effect ≡ true
  pub giving_up : gives_up effect ≡ true → (is_decided (standing_of old m.party) || is_drop m.what) || is_held_by old.lock.holder m.party ≡ true

-- ---- The inner lock

-- A party that has the inner lock and didn't have it before took it where nobody held it, and nobody was starved or it was itself.
abbrev pub IsTakenFairly : World → World → Type 0
IsTakenFairly old new = (p : ℕ) → new.lock.holder ≡ Some p → old.lock.holder ≢ Some p → MayTake old p

-- The other parties keep what they have: the inner lock, and whether they are starved.
pub record OthersKeepTheirs (old : World) (m : Move) (new : World) : Type 0 where
  pub lock : (q : ℕ) → q ≢ m.party → (new.lock.holder ≡ Some q) ↔ (old.lock.holder ≡ Some q)
  pub starved : (q : ℕ) → q ≢ m.party → is_starved new.lock q ≡ is_starved old.lock q

-- Whoever releases the inner lock goes on, and has to tell: its next step tells exactly one of those that wait for the lock, if there is any, and does nothing else there. Nothing but a release makes a party have to tell, and no other party's step.
pub record TellsOnRelease (old : World) (m : Move) (a : Answer) (new : World) : Type 0 where
  pub releases : old.lock.holder ≡ Some m.party → new.lock.holder ≢ Some m.party → (a ≡ answer.Stepped) × (has_to_tell new m.party ≡ true)
  pub tells : has_to_tell old m.party ≡ true → is_possible a ≡ true → (new.lock_list ≡ notified old.lock_list 1) × (has_to_tell new m.party ≡ false)
  pub only_then : has_to_tell old m.party ≡ false → has_to_tell new m.party ≡ true → old.lock.holder ≡ Some m.party
  pub others : (q : ℕ) → q ≢ m.party → has_to_tell new q ≡ has_to_tell old q

-- ---- What an answer says, where its call is decided

-- What a leader's or a follower's answer says of an arrival: that it leads; or that it doesn't, and its generation is finished.
abbrev pub IsAnswered : Bool → ℕ → ℕ → ℕ → Type 0
IsAnswered true size a arrivals = Leads size a
IsAnswered false size a arrivals = (Leads size a → ⊥) × IsFinished size a arrivals

-- Its arrival has just been counted, as this one.
pub record HasJustArrived (old : World) (m : Move) (new : World) : Type 0 where
  pub number : new.arrivals ≡ next_arrival old
  pub counted : wait_of new m.party ≡ counted new.arrivals

-- A wait is ready to lead where its arrival has just been counted and leads; and to follow where its arrival doesn't lead, and its generation is finished.
abbrev pub Carried : Got → World → Move → World → Type 0
Carried (got.Leader true) old m new = HasJustArrived old m new × Leads new.size new.arrivals
Carried (got.Leader false) old m new = (a : ℕ) × (wait_of new m.party ≡ counted a) × IsAnswered false new.size a new.arrivals
Carried _ old m new = ⊥

pub record Carries (old : World) (m : Move) (a : Answer) (new : World) : Type 0 where
  pub ready : (g : Got) → DecidesOn old m a new (answer.Ready g) → Carried g old m new
  -- Whose arrival is counted and leads, its call is to be ready as the leader's: so no generation is finished without one, and none has two.
  pub led : new.arrivals ≡ next_arrival old → Leads new.size new.arrivals → DecidesOn old m a new (answer.Ready (got.Leader true))

-- Pending: the party stands waiting in the list of the inner lock, or, if it is counted, in its generation's. No call is decided on Pending before that answer.
pub record Waits (m : Move) (a : Answer) (new : World) : Type 0 where
  pub waiting : a ≡ answer.Pending → (told_in Lock new m.party ≡ Some Waiting) ⊎ (IsCounted new m.party × (told_in Generation new m.party ≡ Some Waiting))
  pub not_before : (within : Within) → standing_of new m.party ≢ inside within (Some answer.Pending)

-- ---- Refusals

-- Nothing happened to the barrier, its inner lock and its lists, and the party's wait is as counted as before.
pub record IsAsBefore (old : World) (m : Move) (new : World) : Type 0 where
  pub arrivals : new.arrivals ≡ old.arrivals
  pub lock : new.lock ≡ old.lock
  pub lists : (list : ListName) → list_in list new ≡ list_in list old
  pub wait : wait_of new m.party ≡ wait_of old m.party

-- A join found no memory: the party stood in no list, and if it held the inner lock then it had to wait.
pub record IsOutOfMemory (old : World) (m : Move) (new : World) : Type 0 where
  pub input : (inputs_of m.what).memory ≡ false
  pub needed : old.lock.holder ≡ Some m.party → HasToWait old (wait_of old m.party)
  pub unlisted : (list : ListName) → entries_of m.party (list_in list old) ≡ 0
  pub unchanged : IsAsBefore old m new

-- As many parties are starved as may be, the party is none of them and hasn't the inner lock, its call is begun and isn't decided, and nothing else happened.
pub record IsOutOfStarved (old : World) (m : Move) (new : World) : Type 0 where
  pub limit : how_many old.lock.starved ≡ old.starved_limit
  pub without_lock : old.lock.holder ≢ Some m.party
  pub unstarved : is_starved old.lock m.party ≡ false
  pub undecided : IsUndecided (standing_of old m.party)
  pub unchanged : IsAsBefore old m new

-- The arrival that isn't counted would lead, where as many generations are finished as may be.
pub record IsOutOfGenerations (old : World) (m : Move) (new : World) : Type 0 where
  pub uncounted : wait_of old m.party ≡ uncounted
  pub leads : Leads old.size (next_arrival old)
  pub limit : generations_of old.size old.arrivals ≡ old.generations_limit
  pub unchanged : IsAsBefore old m new

-- Why a wait may be refused: a join found no memory, for the move's input said so; there are as many starved parties as there may be; its arrival would finish a generation past the limit; or the future had been ready before.
abbrev pub IsCause : World → Move → World → Refusal → Type 0
IsCause old m new refusal.Memory = IsOutOfMemory old m new
IsCause old m new refusal.Starved = IsOutOfStarved old m new
IsCause old m new refusal.Generations = IsOutOfGenerations old m new
IsCause old m new refusal.Finished = new ≡ old
IsCause old m new _ = ⊥

abbrev pub IsRefusedForCause : World → Move → Answer → World → Type 0
IsRefusedForCause = frame.IsRefusedForCause standing_of IsCause

-- ---- What parties have

-- A party with no wait is in no list, isn't starved, and doesn't hold the inner lock.
pub record HasNothing (w : World) (p : ℕ) : Type 0 where
  pub clear : IsClear w p
  pub wait : wait_of w p ≡ no_wait

-- A dropped wait gives back its place in the list of the inner lock, and before that it is counted as starved no more; it never had the lock, and has left its generation's list.
pub record GivesUp (w : World) (p : ℕ) : Type 0 where
  pub lock : w.lock.holder ≢ Some p
  pub uncounted : entries_of p w.lock_list ≡ 0 → is_starved w.lock p ≡ false
  pub list : entries_of p w.list ≡ 0
  pub wait : wait_of w p ≡ no_wait

-- What a party has by how it stands: outside every call nobody holds the inner lock; and once its call is to be ready, its arrival is as it is to be answered.
abbrev pub HasItsOwn : World → ℕ → Standing → Type 0
HasItsOwn w p (outside Idle) = HasNothing w p
HasItsOwn w p (outside Finished) = HasNothing w p
HasItsOwn w p (outside Holding) = ⊥
HasItsOwn w p (outside Pending) = (w.lock.holder ≢ Some p) × (wait_of w p ≢ no_wait)
HasItsOwn w p forgotten = w.lock.holder ≢ Some p
HasItsOwn w p (inside within (Some (answer.Ready (got.Leader leads)))) = (a : ℕ) × (wait_of w p ≡ counted a) × IsAnswered leads w.size a w.arrivals
HasItsOwn w p (inside within (Some answer.GivenBack)) = GivesUp w p
HasItsOwn w p (inside within _) = wait_of w p ≢ no_wait

-- Each party has what its standing says; a wait that isn't counted stands in its generation's list only while its party holds the inner lock, to be counted; and after a refusal its party has nothing but its wait.
pub record LeavesClear (m : Move) (a : Answer) (new : World) : Type 0 where
  pub each : (p : ℕ) → HasItsOwn new p (standing_of new p)
  pub uncounted : (p : ℕ) → wait_of new p ≡ uncounted → new.lock.holder ≢ Some p → entries_of p new.list ≡ 0
  pub refused : is_refusal a ≡ true → IsClear new m.party

-- ---- How a call ends

abbrev pub EndsProperly : World → Move → Answer → World → Type 0
EndsProperly = frame.EndsProperly standing_of (λ w p. knows) Finished

-- ---- The legal step

-- From the old World the move may be answered so, and lead to the new World.
pub record Legal (old : World) (m : Move) (a : Answer) (new : World) : Type 0 where
  pub possible : IsPossible old m a new
  pub one_change : ChangesOneThing old m a new
  pub taken_fairly : IsTakenFairly old new
  pub others_keep : OthersKeepTheirs old m new
  pub tells_on_release : TellsOnRelease old m a new
  pub carries : Carries old m a new
  pub waits : Waits m a new
  pub refused_for_cause : IsRefusedForCause old m a new
  pub leaves_clear : LeavesClear m a new
  pub ends_properly : EndsProperly old m a new
