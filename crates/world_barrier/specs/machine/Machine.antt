-- A barrier: how far it is, where each party stands and which arrival it has, who waits in its list, and the inner lock; and what one action does to it.
use Rattle.std.specs.Prelude.{◌≡◌, ℕ, ◌+◌, ◌<◌, ◌≤◌, ◌&&◌, Bool, true, false, List, [], length, Some, slice_index_or, slice_set, replicate}
use Rattle.std.specs.List.{sum_by}
use Rattle.lock_event.specs.declared.event.Entry.{Entry}
use Rattle.lock_event.specs.Lists.{marked_count, is_marked_at, IsMarkedFirst}
use Rattle.world_base.specs.queue.Parties.{is_party, entries_of, is_unmarked}
use Rattle.world_base.specs.queue.Queues.{Queue}
use Rattle.world_base.specs.declared.moves.Answer.{Answer}
use Rattle.world_base.specs.declared.moves.Answer.TheVariants as answer
use Rattle.world_base.specs.declared.moves.Call.{Call}
use Rattle.world_base.specs.declared.moves.Call.TheVariants as call
use Rattle.world_base.specs.declared.moves.Inputs.{Inputs}
use Rattle.world_base.specs.declared.moves.What.{What}
use Rattle.world_base.specs.declared.standing.Kind.{Kind}
use Rattle.world_base.specs.declared.standing.Kind.TheVariants as kind
use Rattle.world_base.specs.declared.standing.Rest.{Rest}
use Rattle.world_base.specs.declared.standing.Rest.TheVariants as rest
use Rattle.world_base.specs.declared.standing.Stage.{Stage}
use Rattle.world_base.specs.declared.standing.Stage.TheVariants.{Outside, Inside, Forgotten}
use Rattle.world_base.specs.declared.standing.Within.{Within}
use Rattle.world_base.specs.Standings.{inputs_of}
use Rattle.world_base.specs.table.Ends.{answer_of}
use Rattle.world_base.specs.table.Resting.{AreAtRest}
use Rattle.world_mutex.specs.machine.Mutex.{Mutex, new_mutex, course_at, IsMutex, holders, steps_left as lock_steps_left}
use Rattle.sync_program.specs.declared.barrier.Aim.TheVariants as aim
use Rattle.sync_program.specs.declared.barrier.Found.{Found}
use Rattle.world_barrier.specs.program.Program.{Next}
use Rattle.lock_program.specs.declared.end.Next.TheVariants as next
use Rattle.sync_program.specs.declared.barrier.Place.{Place}
use Rattle.sync_program.specs.declared.barrier.Place.TheVariants.{EnterLock, WaitLock, CancelLock, CancellingLock, CancelLeave, Abandon}
use Rattle.sync_program.specs.declared.barrier.Position.{Position}
use Rattle.sync_program.specs.declared.barrier.Position.TheVariants.{Out, Made, Locking, Waiting, At}
use Rattle.world_barrier.specs.declared.program.words.Progress.{Progress}
use Rattle.world_barrier.specs.declared.program.words.Words.{Words}
use Rattle.world_barrier.specs.program.Words.{progress, new_words, IsSound, IsPast, IsWithin, IsFollower}
use Rattle.world_barrier.specs.program.Program.{place_for, action_of, next_of, position_after, got_left}
use Rattle.world_barrier.specs.program.Effects.{Finds, words_after, arrival_after, entries_after}
use Rattle.world_barrier.specs.program.Locks.{OnLock}
use Rattle.world_barrier.specs.machine.Ranks.{left, left_at, left_then}
use Rattle.world_barrier.specs.machine.Roles.{fits_lock, listed, in_lock, follows, is_late, will_tell, Sure, HasOutcome, is_resting}

-- what contracts see of a barrier
pub record Barrier : Type 0 where
  pub words : Words
  pub positions : List Position
  pub arrivals : List Progress
  pub entries : List (Entry ℕ)
  pub lock : Mutex

abbrev pub position_at : List Position → ℕ → Position
position_at xs p = slice_index_or xs p Out

-- the party's last arrival; one that never arrived has the number 0
abbrev pub arrival_at : List Progress → ℕ → Progress
arrival_at rs p = slice_index_or rs p (progress 0 0)

abbrev pub HasArrived : Progress → Type 0
HasArrived a = 0 < a.generation + a.count

-- Two parties never have the same arrival, once they have one.
abbrev pub AreApart : List Progress → Type 0
AreApart rs = (p q : ℕ) → HasArrived (arrival_at rs p) → arrival_at rs p ≡ arrival_at rs q → p ≡ q

-- nobody has arrived, and every party is out
abbrev pub new_barrier : ℕ → ℕ → ℕ → ℕ → Barrier
new_barrier parties size starved most = record { words = new_words size most; positions = replicate parties Out; arrivals = replicate parties (progress 0 0); entries = []; lock = new_mutex parties starved }

-- ---- What always holds

-- Each entry is marked whose party's generation is finished; unless somebody is about to mark them all, or the party isn't counted yet.
abbrev pub AllTold : Words → List Position → List Progress → List (Entry ℕ) → Type 0
AllTold w xs rs l = ((q : ℕ) → will_tell (position_at xs q) ≡ false) → (p : ℕ) → is_unmarked p l ≡ true → is_late (position_at xs p) ≡ false → (arrival_at rs p).generation ≡ w.progress.generation

pub record IsKept (w : Words) (xs : List Position) (rs : List Progress) (q : Queue) (m : Mutex) : Type 0 where
  pub sound : IsSound w
  -- each party's place goes with its course in the inner lock
  pub links : (p : ℕ) → fits_lock (in_lock (position_at xs p)) (course_at m.courses p) ≡ true
  -- each listed party has one entry, and no other party has one
  pub owners : (p : ℕ) → entries_of p q.entries ≡ listed (position_at xs p)
  pub in_list : sum_by listed xs ≡ length q.entries
  pub past : (p : ℕ) → IsPast (arrival_at rs p) w.progress
  pub apart : AreApart rs
  pub within : (p : ℕ) → IsWithin w.size (arrival_at rs p)
  pub followers : (p : ℕ) → follows (position_at xs p) ≡ true → IsFollower w.size (arrival_at rs p)
  pub sure : (p : ℕ) → Sure (position_at xs p) (arrival_at rs p) w
  pub outcomes : (p : ℕ) → HasOutcome (position_at xs p) (arrival_at rs p) w
  pub told : AllTold w xs rs q.entries
  pub arrivals : length rs ≡ length xs
  pub courses : length m.courses ≡ length xs
  pub parties : q.parties ≡ length xs
  pub few : length xs ≤ 4294967295

-- every party is outside the programs
abbrev pub IsAtRest : List Position → Type 0
IsAtRest xs = AreAtRest is_resting xs

-- What callers may rest on: the inner lock is a mutex, in which each party stands as its place says; no arrival is ahead of the barrier, no two parties have the same one, and a follower's didn't finish its generation; a wait that is over led, or follows one that finished its generation; a party's entries are told by where it stands. At rest nobody has the inner lock, and where somebody is listed there some entry is marked. Whenever nobody has the inner lock, every entry of the barrier's list is marked whose party's generation is finished.
pub record IsBarrier (s : Barrier) : Type 0 where
  pub sound : IsSound s.words
  pub lock : IsMutex s.lock
  pub links : (p : ℕ) → fits_lock (in_lock (position_at s.positions p)) (course_at s.lock.courses p) ≡ true
  pub owners : (p : ℕ) → entries_of p s.entries ≡ listed (position_at s.positions p)
  pub in_order : IsMarkedFirst s.entries
  pub as_many : length s.arrivals ≡ length s.positions
  pub past : (p : ℕ) → IsPast (arrival_at s.arrivals p) s.words.progress
  pub apart : AreApart s.arrivals
  pub within : (p : ℕ) → IsWithin s.words.size (arrival_at s.arrivals p)
  pub followers : (p : ℕ) → follows (position_at s.positions p) ≡ true → IsFollower s.words.size (arrival_at s.arrivals p)
  pub sure : (p : ℕ) → Sure (position_at s.positions p) (arrival_at s.arrivals p) s.words
  pub outcomes : (p : ℕ) → HasOutcome (position_at s.positions p) (arrival_at s.arrivals p) s.words
  pub lock_free : IsAtRest s.positions → holders s.lock ≡ 0
  pub lock_wakes : IsAtRest s.positions → 0 < length s.lock.entries → 0 < marked_count s.lock.entries
  pub told : holders s.lock ≡ 0 → (p : ℕ) → 0 < entries_of p s.entries → (arrival_at s.arrivals p).generation < s.words.progress.generation → is_marked_at (is_party p) s.entries ≡ true

-- ---- Which parties stand where

-- The calls of a barrier.
abbrev pub knows : Call → Bool
knows call.Wait = true
knows call.Poll = true
knows call.Drop = true
knows _ = false

-- a place in the program of a drop, and in that of a poll
abbrev pub is_cancelling : Place → Bool
is_cancelling CancelLock = true
is_cancelling CancellingLock = true
is_cancelling CancelLeave = true
is_cancelling Abandon = true
is_cancelling _ = false

abbrev pub is_polling : Place → Bool
is_polling CancelLock = false
is_polling CancellingLock = false
is_polling CancelLeave = false
is_polling Abandon = false
is_polling _ = true

abbrev pub is_abandoning : Place → Bool
is_abandoning Abandon = true
is_abandoning _ = false

-- a place at which a party may stand inside a call, which is begun
abbrev pub is_begun : Place → Bool
is_begun (EnterLock aim.Arrive) = false
is_begun (WaitLock a) = false
is_begun CancelLock = false
is_begun CancelLeave = false
is_begun Abandon = false
is_begun _ = true

-- a place in the program of a call of this kind, begun by a party that stood so
abbrev pub runs : Kind → Rest → Place → Bool
runs kind.FirstPoll rest.Idle x = is_polling x
runs kind.FirstPoll rest.Finished x = is_polling x
runs kind.LaterPoll rest.Pending x = is_polling x
runs kind.Drop rest.Pending x = is_cancelling x
runs kind.Drop rest.Finished x = is_abandoning x
runs _ _ x = false

-- a position of a pending party
abbrev pub is_pending : Position → Bool
is_pending (Made a) = true
is_pending (Locking a) = true
is_pending Waiting = true
is_pending _ = false

abbrev pub is_out : Position → Bool
is_out Out = true
is_out _ = false

-- a stage that goes with where the party stands
abbrev pub goes_with : Stage → Position → Bool
goes_with (Outside rest.Idle) x = is_out x
goes_with (Outside rest.Finished) x = is_out x
goes_with (Outside rest.Pending) x = is_pending x
goes_with (Inside w) (At x) = is_begun x && runs w.kind w.was x
goes_with Forgotten x = is_resting x
goes_with _ _ = false

-- A party at this stage may stand where it does.
abbrev pub Stands : Barrier → ℕ → Stage → Type 0
Stands s p stage = goes_with stage (position_at s.positions p) ≡ true

-- ---- How long a call takes

-- The party's own entry is marked.
abbrev pub is_own_marked : Barrier → ℕ → Bool
is_own_marked s p = is_marked_at (is_party p) s.entries

-- How many steps are left from a place to this party of this barrier, if the others stand still.
abbrev pub left_from : Place → Barrier → ℕ → ℕ
left_from x s p = left x (is_own_marked s p) (lock_steps_left s.lock p)

-- How many steps the party's call still takes at most if only this party moves, whatever the count, the list and the inner lock are.
abbrev pub steps_left : Barrier → ℕ → ℕ
steps_left s p = left_at (position_at s.positions p) (is_own_marked s p) (lock_steps_left s.lock p)

-- How many steps are left after a step that has decided this.
abbrev pub left_after : Next → Barrier → ℕ → ℕ
left_after n s p = left_then n (is_own_marked s p) (lock_steps_left s.lock p)

-- ---- One action

-- what a call's next is answered
abbrev pub answer_by : Next → Answer
answer_by (next.Do x) = answer.Stepped
answer_by (next.End e x) = answer_of (got_left x) e

-- A party does the action of this place, which finds this, and goes where its program says.
pub record Acts (inputs : Inputs) (p : ℕ) (from : Place) (found : Found) (s t : Barrier) : Type 0 where
  pub finds : Finds inputs p (action_of from) found s.words (arrival_at s.arrivals p) s.entries
  pub words : t.words ≡ words_after (action_of from) s.words
  pub arrivals : t.arrivals ≡ slice_set s.arrivals p (arrival_after (action_of from) s.words (arrival_at s.arrivals p))
  pub entries : t.entries ≡ entries_after p (action_of from) found s.entries
  pub lock : OnLock inputs p (action_of from) found s.lock t.lock
  pub positions : t.positions ≡ slice_set s.positions p (position_after (next_of from found))

-- A move of the party, answered so.
pub record Moves (s : Barrier) (p : ℕ) (w : Within) (what : What) (a : Answer) (t : Barrier) : Type 0 where
  pub from : Place
  pub starts : place_for what (position_at s.positions p) ≡ Some from
  pub runs : runs w.kind w.was from ≡ true
  pub found : Found
  pub acts : Acts (inputs_of what) p from found s t
  -- it leaves fewer steps of the call, so that a party that moves alone ends it
  pub falls : left_after (next_of from found) t p < left_from from s p
  pub answer : a ≡ answer_by (next_of from found)
