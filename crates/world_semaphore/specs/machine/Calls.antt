-- A step of a party's call on a semaphore, and all that those may know of it who build on one; and calls that are carried out alone, each from its first step to its end before another party moves.
use Rattle.std.specs.Prelude.{◌≡◌, ◌≢◌, ℕ, zero, suc, ◌<◌, ◌≤◌, Bool, true, length}
use Rattle.lock_event.specs.Lists.{is_marked_at, marked_count}
use Rattle.lock_program.specs.declared.end.End.{End}
use Rattle.lock_program.specs.declared.end.End.TheVariants.{Got, Pending, Refused}
use Rattle.lock_program.specs.declared.mutex.Step.{Step}
use Rattle.lock_program.specs.declared.mutex.Step.TheVariants as step
use Rattle.lock_program.specs.declared.refusal.Refusal.TheVariants.{Memory}
use Rattle.sync_program.specs.declared.permits.SemaphoreCall.{SemaphoreCall}
use Rattle.sync_program.specs.declared.permits.SemaphoreCall.TheVariants as call
use Rattle.world_base.specs.queue.Parties.{is_party, entries_of}
use Rattle.world_semaphore.specs.machine.Conduct.{IsLegal, Begins, GoesOn, ActsAtOnce, TellsInTurn, wanted_by, decided_by}
use Rattle.world_semaphore.specs.machine.Course.{waiting, holding, decision, may_begin}
use Rattle.world_semaphore.specs.machine.Done.{HasBegun, HasGoneOn}
use Rattle.world_semaphore.specs.machine.Permits.{Permits, course_at, size_of, steps_left, left_after, IsAtRest, IsFreeAndWanted}

-- The greatest number of steps that a call takes if its party moves alone.
abbrev pub most_steps : SemaphoreCall → ℕ
most_steps (call.Acquire k) = 5
most_steps call.Poll = 7
most_steps (call.AddPermits n) = 3
most_steps call.Drop = 3
most_steps _ = 1

-- The first step of a call, for k permits. What was done behind it, `done`, is there for the promise on calls alone.
pub record BeginsCall (memory : Bool) (p : ℕ) (c : SemaphoreCall) (k : ℕ) (s : Step) (old new : Permits) : Type 0 where
  pub leads : Begins c k s (course_at new.courses p)
  pub legal : IsLegal memory p k (decided_by c) s old new
  pub at_once : ActsAtOnce c p k s old new
  pub bounded : left_after s new p < most_steps c
  pub done : HasBegun c memory p s old new

abbrev pub PermitsBegin : Bool → ℕ → SemaphoreCall → Step → Permits → Permits → Type 0
PermitsBegin memory p c s old new = BeginsCall memory p c (wanted_by c (course_at old.courses p)) s old new

-- A further step. It leaves fewer steps to do, so that a party that moves alone ends its call, whatever the others were about.
pub record PermitsGoOn (memory : Bool) (p : ℕ) (s : Step) (old new : Permits) : Type 0 where
  pub leads : GoesOn (course_at old.courses p) s (course_at new.courses p)
  pub legal : IsLegal memory p (size_of old p) (decision (course_at old.courses p)) s old new
  pub in_turn : TellsInTurn p s old new
  pub falls : left_after s new p < steps_left old p
  pub done : HasGoneOn memory p s old new

-- ---- Calls alone

-- A party inside a call goes on with it alone, always or never finding memory, until the call ends so and leaves this semaphore.
pub data GoesOnAlone (memory : Bool) (p : ℕ) (e : End) (new : Permits) : Permits → Type 0 where
  last : (old : Permits) → HasGoneOn memory p (step.End e) old new → GoesOnAlone memory p e new old
  further : (old mid : Permits) → HasGoneOn memory p step.More old mid → GoesOnAlone memory p e new mid → GoesOnAlone memory p e new old

-- A party's call is carried out alone, always or never finding memory: it begins at the old semaphore, ends so, and leaves the new one.
pub data CallsAlone (c : SemaphoreCall) (memory : Bool) (p : ℕ) (e : End) (new : Permits) : Permits → Type 0 where
  at_once : (old : Permits) → HasBegun c memory p (step.End e) old new → CallsAlone c memory p e new old
  begun : (old mid : Permits) → HasBegun c memory p step.More old mid → GoesOnAlone memory p e new mid → CallsAlone c memory p e new old

-- A party that is pending, and has been notified.
abbrev pub IsCalled : Permits → ℕ → Type 0
IsCalled m p = (course_at m.courses p ≡ waiting (size_of m p)) × (is_marked_at (is_party p) m.entries ≡ true)

-- The poll was in vain, and hands over: its party waits on in a list as long as before, the words haven't changed, and if so many permits are available as somebody listed waits for, then there are enough for whoever is notified.
pub record HandsOver (old : Permits) (e : End) (new : Permits) : Type 0 where
  pub pending : e ≡ Pending
  pub words : new.words ≡ old.words
  pub as_long : length new.entries ≡ length old.entries
  pub enough : (q : ℕ) → is_marked_at (is_party q) new.entries ≡ true → size_of new q ≤ new.words.available

-- So many polls in a row, each carried out alone by a party that is pending and has been notified, finding memory, where as many permits are available as somebody listed waits for, and none of which takes.
abbrev pub PollsInTurn : ℕ → Permits → Permits → Type 0
PollsInTurn zero old new = new ≡ old
PollsInTurn (suc n) old new = (p : ℕ) × (e : End) × (mid : Permits) × IsCalled old p × IsFreeAndWanted old × (e ≢ Got) × CallsAlone call.Poll true p e mid old × PollsInTurn n mid new

-- What calls do that are carried out alone.
pub record Alone (m : Permits) : Type 0 where
  -- A poll of a pending party for which enough are available takes them, whether it finds memory or not.
  pub takes : (memory : Bool) (p : ℕ) (e : End) (new : Permits) → may_begin call.Poll (course_at m.courses p) ≡ true → size_of m p ≤ m.words.available → CallsAlone call.Poll memory p e new m → (e ≡ Got) × (course_at new.courses p ≡ holding (size_of m p))
  -- Where some entry was marked before a call, some is afterwards, if so many permits are available as somebody listed waits for;
  pub passes_on : (c : SemaphoreCall) (memory : Bool) (p : ℕ) (e : End) (new : Permits) → CallsAlone c memory p e new m → 0 < marked_count m.entries → IsFreeAndWanted new → 0 < marked_count new.entries
  -- and so it is after a refused poll of a party that stood in the list.
  pub hands_on : (memory : Bool) (p : ℕ) (new : Permits) → 0 < entries_of p m.entries → CallsAlone call.Poll memory p (Refused Memory) new m → IsFreeAndWanted new → 0 < marked_count new.entries
  -- A notified party for which there are too few hands over to one for which there are enough.
  pub hands_over : (p : ℕ) (e : End) (new : Permits) → IsCalled m p → m.words.available < size_of m p → CallsAlone call.Poll true p e new m → HandsOver m e new
  -- At rest, where as many are available as somebody listed waits for, some party has been notified; and the first or the second poll takes.
  pub some_called : IsAtRest m.courses → IsFreeAndWanted m → (p : ℕ) × IsCalled m p
  pub second_takes : (n : ℕ) (new : Permits) → PollsInTurn n m new → n ≤ 1
