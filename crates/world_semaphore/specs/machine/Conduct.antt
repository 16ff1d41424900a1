-- What a step of a party's call does to a semaphore.
use Rattle.std.specs.Prelude.{◌≡◌, ◌≢◌, ℕ, ◌+◌, ◌<◌, ◌≤◌, ◌⊎◌, ◌↔◌, ◌==◌, Bool, true, false, length, Option, Some, None, is_some}
use Rattle.lock_event.specs.Lists.{without, mark_at}
use Rattle.weighted_event.specs.Weights.{fitted}
use Rattle.lock_event.specs.declared.event.Mark.TheVariants.{Waiting}
use Rattle.lock_program.specs.declared.end.End.{End}
use Rattle.lock_program.specs.declared.end.End.TheVariants.{Got, Granted, Pending, NotFree, GivenBack, Refused}
use Rattle.lock_program.specs.declared.mutex.Step.{Step}
use Rattle.lock_program.specs.declared.mutex.Step.TheVariants as step
use Rattle.lock_program.specs.declared.refusal.Refusal.TheVariants as refusal
use Rattle.sync_program.specs.declared.permits.SemaphoreCall.{SemaphoreCall}
use Rattle.sync_program.specs.declared.permits.SemaphoreCall.TheVariants as call
use Rattle.world_base.specs.queue.Parties.{is_party, entries_of}
use Rattle.world_semaphore.specs.machine.Course.{Course, out, unlisted, waiting, holding, adding, decided, is_polling, is_adding, is_dropping, size, share, debt, decision}
use Rattle.world_semaphore.specs.machine.Effects.{Effect, changes, does, takes, gives_back, forgets, raises, gives, joins, fits, share_then, words_after, entries_after, gives_something_back, gives_up}
use Rattle.world_semaphore.specs.machine.Owing.{Owes}
use Rattle.world_semaphore.specs.machine.Permits.{Permits, course_at, size_of}
use Rattle.world_semaphore.specs.machine.Seats.{nothing_had, guard_of, under_way_of, a_look, a_fit}

-- For how many permits a call is that begins at this course, and the end on which it is decided as it begins.
abbrev pub wanted_by : SemaphoreCall → Course → ℕ
wanted_by (call.Acquire k) x = k
wanted_by (call.TryAcquire k) x = k
wanted_by (call.AddPermits n) x = n
wanted_by _ x = size x

abbrev pub decided_by : SemaphoreCall → Option End
decided_by call.Forget = Some GivenBack
decided_by call.Drop = Some GivenBack
decided_by _ = None

-- The end on which a call is decided once a step has led here.
abbrev pub decided_then : Step → Course → Option End
decided_then step.More to = decision to
decided_then (step.End e) to = Some e

-- ---- Where a step leads

-- A poll for so many permits goes on, or ends so.
abbrev pub Polls : ℕ → Step → Course → Type 0
Polls k step.More to = (is_polling to ≡ true) × (size to ≡ k)
Polls k (step.End Got) to = to ≡ holding k
Polls k (step.End Pending) to = to ≡ waiting k
Polls k (step.End (Refused refusal.Memory)) to = to ≡ unlisted k
Polls k _ to = ⊥

abbrev pub Tries : ℕ → Step → Course → Type 0
Tries k (step.End Granted) to = to ≡ holding k
Tries k (step.End NotFree) to = to ≡ out
Tries k _ to = ⊥

abbrev pub Adds : Step → Course → Type 0
Adds step.More to = is_adding to ≡ true
Adds (step.End Granted) to = to ≡ out
Adds (step.End (Refused refusal.Permits)) to = to ≡ out
Adds _ to = ⊥

abbrev pub Drops : Step → Course → Type 0
Drops step.More to = is_dropping to ≡ true
Drops (step.End GivenBack) to = to ≡ out
Drops _ to = ⊥

-- Where the first step of a call for so many permits may lead.
abbrev pub Begins : SemaphoreCall → ℕ → Step → Course → Type 0
Begins (call.Acquire n) k s to = Polls k s to
Begins call.Poll k s to = Polls k s to
Begins (call.TryAcquire n) k s to = Tries k s to
Begins (call.AddPermits n) k s to = Adds s to
Begins call.Drop k s to = Drops s to
Begins call.Forget k s to = (s ≡ step.End GivenBack) × (to ≡ out)

-- Where a further step may lead.
pub record GoesOn (at : Course) (s : Step) (to : Course) : Type 0 where
  pub polls : is_polling at ≡ true → Polls (size at) s to
  pub adds : is_adding at ≡ true → Adds s to
  pub drops : is_dropping at ≡ true → Drops s to

-- ---- What it changes

-- Where a change may be made by a call for k permits, decided so. Permits are taken as many as it is for, where as many are available; what a guard has is given back or forgotten once that is decided; an add raises the limit below its greatest value, and gives what it raised it by; and only a party whose call is decided tells others, of so many permits as it owes to tell of.
abbrev pub IsAllowed : ℕ → ℕ → Option End → Effect → Permits → Type 0
IsAllowed p k d (changes (takes n)) m = (n ≡ k) × (n ≤ m.words.available) × (share (course_at m.courses p) ≡ nothing_had)
IsAllowed p k d (changes (gives_back n)) m = (share (course_at m.courses p) ≡ guard_of n) × (d ≡ Some GivenBack)
IsAllowed p k d (changes (forgets n)) m = (share (course_at m.courses p) ≡ guard_of n) × (d ≡ Some GivenBack)
IsAllowed p k d (changes (raises n)) m = (n ≡ k) × (m.words.limit + n ≤ m.words.most) × (share (course_at m.courses p) ≡ nothing_had)
IsAllowed p k d (changes (gives n)) m = share (course_at m.courses p) ≡ under_way_of n
IsAllowed p k d (does (fits a)) m = (debt (course_at m.courses p) ≡ a_fit a) × (is_some d ≡ true)
IsAllowed p k d _ m = Unit {0}

-- Why a call for k permits may be decided on this end: its party has them; it stands waiting in the list; fewer were available; its join found no memory, or the limit can't be raised, and nothing changed.
abbrev pub IsReason : Bool → ℕ → ℕ → Permits → Permits → End → Type 0
IsReason memory p k old new Got = share (course_at new.courses p) ≡ guard_of k
IsReason memory p k old new Pending = mark_at (is_party p) new.entries ≡ Some Waiting
IsReason memory p k old new NotFree = old.words.available < k
IsReason memory p k old new (Refused refusal.Memory) = (memory ≡ false) × (entries_of p old.entries ≡ 0) × (new.entries ≡ old.entries) × (new.words ≡ old.words)
IsReason memory p k old new (Refused refusal.Permits) = (old.words.most < old.words.limit + k) × (new.entries ≡ old.entries) × (new.words ≡ old.words)
IsReason memory p k old new (Refused _) = ⊥
IsReason memory p k old new _ = Unit {0}

-- A step of a call for k permits changes one thing of the words and of what its party has where it may, or does one list function, never both, and moves no other party. A join has found memory. A call that was decided only gives back, and keeps its decision; one that wasn't gives nothing up; one that is decided now has its reason; and what its party owes is told of in turn.
pub record IsLegal (memory : Bool) (p k : ℕ) (decided : Option End) (s : Step) (old new : Permits) : Type 0 where
  pub effect : Effect
  pub allowed : IsAllowed p k decided effect old
  pub words : new.words ≡ words_after effect old.words
  pub share : share (course_at new.courses p) ≡ share_then effect (share (course_at old.courses p))
  pub entries : new.entries ≡ entries_after (size_of old) p effect old.entries
  pub found_memory : effect ≡ does joins → memory ≡ true
  pub parties : length new.courses ≡ length old.courses
  pub others : (q : ℕ) → q ≢ p → course_at new.courses q ≡ course_at old.courses q
  pub kept : (e : End) → decided ≡ Some e → (decided_then s (course_at new.courses p) ≡ Some e) × (gives_something_back effect ≡ true)
  pub holds_on : decided ≡ None → gives_up effect ≡ false
  pub reason : (e : End) → decided ≡ None → decided_then s (course_at new.courses p) ≡ Some e → IsReason memory p k old new e
  pub debts : Owes p (debt (course_at old.courses p)) (debt (course_at new.courses p)) old.entries new.entries new.words.available (size_of old)

-- ---- What it does at once

-- A poll or a try; such a one of a party that stands in no list, n of whose entries are there; and the end of one that takes its permits.
abbrev pub is_take : SemaphoreCall → Bool
is_take (call.Acquire k) = true
is_take (call.TryAcquire k) = true
is_take call.Poll = true
is_take _ = false

abbrev pub is_fresh : SemaphoreCall → ℕ → Bool
is_fresh call.Poll n = n == 0
is_fresh c n = is_take c

abbrev pub taken_by : SemaphoreCall → End
taken_by (call.TryAcquire k) = Granted
taken_by _ = Got

-- The first step of a poll and of a try takes exactly where as many permits are available as it is for, and does nothing else; a first poll and a try are over then, and a try in vain is over too. An add raises the limit if it may; a forget is over at once; and a guard's drop gives back, and tells of what is available next.
pub record ActsAtOnce (c : SemaphoreCall) (p k : ℕ) (s : Step) (old new : Permits) : Type 0 where
  pub takes : is_take c ≡ true → (share (course_at new.courses p) ≡ guard_of k) ↔ (k ≤ old.words.available)
  pub looks : is_take c ≡ true → new.entries ≡ old.entries
  pub decides : is_take c ≡ true → k ≤ old.words.available → decided_then s (course_at new.courses p) ≡ Some (taken_by c)
  pub ends : is_fresh c (entries_of p old.entries) ≡ true → k ≤ old.words.available → s ≡ step.End (taken_by c)
  pub adds : (n : ℕ) → c ≡ call.AddPermits n → old.words.limit + n ≤ old.words.most → course_at new.courses p ≡ adding n
  pub forgets : c ≡ call.Forget → new.words.limit + k ≡ old.words.limit
  pub returns : c ≡ call.Drop → course_at old.courses p ≡ holding k → (new.words.available ≡ old.words.available + k) × (course_at new.courses p ≡ decided GivenBack 0 false (a_fit new.words.available))

-- An add that has raised the limit gives, and then tells; and a call that is decided leaves the list where it took its permits there, looks where it owes that, and tells last.
pub record TellsInTurn (p : ℕ) (s : Step) (old new : Permits) : Type 0 where
  pub gives : (n : ℕ) → course_at old.courses p ≡ adding n → (new.words.available ≡ old.words.available + n) × (course_at new.courses p ≡ decided Granted 0 false (a_fit new.words.available))
  pub leaves : decision (course_at old.courses p) ≡ Some Got → 0 < entries_of p old.entries → new.entries ≡ without (is_party p) old.entries
  pub looks : (e : End) (k : ℕ) → course_at old.courses p ≡ decided e k false a_look → (new.words ≡ old.words) × (new.entries ≡ old.entries) × (course_at new.courses p ≡ decided e k false (a_fit old.words.available))
  pub tells : (e : End) (k a : ℕ) (listed : Bool) → course_at old.courses p ≡ decided e k listed (a_fit a) → (listed ≡ false) ⊎ (e ≡ Pending) → (s ≡ step.End e) × (new.entries ≡ fitted (size_of old) a old.entries)
