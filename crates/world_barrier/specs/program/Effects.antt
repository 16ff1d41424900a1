-- What an action is: a change of how far the barrier is, a list function, or a step on the inner lock; and what it finds.
use Rattle.std.specs.Prelude.{◌≡◌, ℕ, ◌+◌, ◌<◌, Bool, true, false, List, length}
use Rattle.lock_event.specs.declared.event.Entry.{Entry}
use Rattle.lock_event.specs.Lists.{is_marked_at}
use Rattle.world_base.specs.queue.Parties.{is_party, entries_of}
use Rattle.world_base.specs.queue.Queues.{Queue}
use Rattle.world_base.specs.declared.moves.Inputs.{Inputs}
use Rattle.world_base.specs.Steps.{joins, asks, leaves, notifies, list_after}
use Rattle.world_mutex.specs.machine.Course.{may_begin}
use Rattle.world_mutex.specs.machine.Mutex.{Mutex, course_at}
use Rattle.sync_program.specs.declared.barrier.Action.{Action}
use Rattle.sync_program.specs.declared.barrier.Action.TheVariants as act
use Rattle.sync_program.specs.declared.barrier.Found.{Found}
use Rattle.sync_program.specs.declared.barrier.Found.TheVariants as found
use Rattle.world_barrier.specs.declared.program.words.Progress.{Progress}
use Rattle.world_barrier.specs.declared.program.words.Words.{Words}
use Rattle.world_barrier.specs.program.Words.{FindsLook, FindsCheck, progress, with_progress}

-- more than any list has entries
abbrev pub everyone : ℕ
everyone = 18446744073709551615

-- how far the barrier is after an action: an arrival is counted, which finishes its generation or doesn't
abbrev pub words_after : Action → Words → Words
words_after act.Arrive w = with_progress w (progress w.progress.generation (w.progress.count + 1))
words_after act.Complete w = with_progress w (progress (w.progress.generation + 1) 0)
words_after _ w = w

-- the party's arrival after it: how far the barrier is then, if it was counted by it
abbrev pub arrival_after : Action → Words → Progress → Progress
arrival_after act.Arrive w a = (words_after act.Arrive w).progress
arrival_after act.Complete w a = (words_after act.Complete w).progress
arrival_after _ w a = a

-- the barrier's list after an action that found this
abbrev pub entries_after : ℕ → Action → Found → List (Entry ℕ) → List (Entry ℕ)
entries_after p act.Join found.Done l = list_after p joins l
entries_after p act.Ask f l = list_after p asks l
entries_after p act.Leave f l = list_after p leaves l
entries_after p act.NotifyAll f l = list_after p (notifies everyone) l
entries_after p _ f l = l

abbrev pub FindsJoin : Bool → Found → Type 0
FindsJoin memory found.Done = memory ≡ true
FindsJoin memory found.NoMemory = memory ≡ false
FindsJoin memory _ = ⊥

abbrev pub FindsAsk : ℕ → Found → List (Entry ℕ) → Type 0
FindsAsk p found.Yes l = is_marked_at (is_party p) l ≡ true
FindsAsk p found.No l = is_marked_at (is_party p) l ≡ false
FindsAsk p _ l = ⊥

abbrev pub IsDone : Found → Type 0
IsDone found.Done = Unit {0}
IsDone _ = ⊥

abbrev pub IsLockStep : Found → Type 0
IsLockStep (found.Lock s) = Unit {0}
IsLockStep _ = ⊥

-- what an action's finding says of the inputs, of how far the barrier and the party's arrival are, and of the list
abbrev pub Finds : Inputs → ℕ → Action → Found → Words → Progress → List (Entry ℕ) → Type 0
Finds i p act.Look f w a l = FindsLook f w
Finds i p act.Check f w a l = FindsCheck a f w
Finds i p act.Join f w a l = FindsJoin i.memory f
Finds i p act.Ask f w a l = FindsAsk p f l
Finds i p (act.Begin c) f w a l = IsLockStep f
Finds i p act.Go f w a l = IsLockStep f
Finds i p _ f w a l = IsDone f

-- what an action needs of the words, the list and the inner lock
abbrev pub CanDo : ℕ → Action → Words → Queue → Mutex → Type 0
CanDo p act.Arrive w q m = w.progress.count + 1 < w.size
CanDo p act.Complete w q m = w.progress.generation < w.most
CanDo p act.Join w q m = (p < q.parties) × (entries_of p q.entries ≡ 0)
CanDo p act.Ask w q m = (p < q.parties) × (0 < entries_of p q.entries)
CanDo p act.Leave w q m = (p < q.parties) × (0 < entries_of p q.entries)
CanDo p (act.Begin c) w q m = (p < length m.courses) × (may_begin c (course_at m.courses p) ≡ true)
CanDo p act.Go w q m = p < length m.courses
CanDo p _ w q m = Unit {0}
