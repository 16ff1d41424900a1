-- A semaphore: its words, where each party stands, and who waits in its list; and what one action does to it.
use Rattle.std.specs.Prelude.{◌≡◌, ℕ, ◌+◌, ◌<◌, ◌≤◌, ◌&&◌, Bool, true, false, List, [], length, Some, slice_index_or, slice_set, replicate}
use Rattle.std.specs.List.{sum_by}
use Rattle.lock_event.specs.declared.event.Entry.{Entry}
use Rattle.lock_event.specs.Lists.{marked_count}
use Rattle.weighted_event.specs.Weights.{is_wanted}
use Rattle.world_base.specs.queue.Parties.{entries_of}
use Rattle.world_base.specs.queue.Weighted.{WeightedQueue, weight_in}
use Rattle.world_base.specs.declared.moves.Answer.{Answer}
use Rattle.world_base.specs.declared.moves.Answer.TheVariants.{Stepped}
use Rattle.world_base.specs.declared.moves.Call.{Call}
use Rattle.world_base.specs.declared.moves.Call.TheVariants as call
use Rattle.world_base.specs.declared.moves.Got.TheVariants.{Plain}
use Rattle.world_base.specs.declared.moves.What.{What}
use Rattle.world_base.specs.declared.standing.Kind.{Kind}
use Rattle.world_base.specs.declared.standing.Kind.TheVariants as kind
use Rattle.world_base.specs.declared.standing.Rest.{Rest}
use Rattle.world_base.specs.declared.standing.Rest.TheVariants as rest
use Rattle.world_base.specs.declared.standing.Stage.{Stage}
use Rattle.world_base.specs.declared.standing.Stage.TheVariants.{Outside, Inside}
use Rattle.world_base.specs.declared.standing.Within.{Within}
use Rattle.world_base.specs.Standings.{inputs_of}
use Rattle.world_base.specs.table.Ends.{answer_of}
use Rattle.world_base.specs.table.Resting.{AreAtRest}
use Rattle.sync_program.specs.declared.permits.Found.{Found}
use Rattle.world_semaphore.specs.machine.Program.{Next}
use Rattle.lock_program.specs.declared.end.Next.TheVariants as next
use Rattle.sync_program.specs.declared.permits.Place.{Place}
use Rattle.sync_program.specs.declared.permits.Place.TheVariants.{Take, Retake, Join, Ask, Remove, Load, HandOn, PassOn, RefuseFit, Try, Lower, GiveBack, Raise, GiveAdded, FitAdded, CancelRemove, CancelLoad, FitGivenBack, Abandon}
use Rattle.sync_program.specs.declared.permits.Position.{Position}
use Rattle.sync_program.specs.declared.permits.Position.TheVariants.{Out, Unlisted, Waiting, Holding, At}
use Rattle.world_semaphore.specs.declared.machine.words.Words.{Words}
use Rattle.world_semaphore.specs.machine.Program.{place_for, action_of, next_of, position_after}
use Rattle.world_semaphore.specs.machine.Seats.{seat_of, seated, permits_at, under_way_at, listed, waits_for, waits, owes, size_of, size_at, is_short_at, is_short, is_resting}
use Rattle.world_base.specs.queue.Debts.{IsOwed}
use Rattle.world_semaphore.specs.machine.Effects.{Finds, effect_of, words, words_after, entries_after}
use Rattle.world_semaphore.specs.machine.Tally.{IsSound, tally_of, counts_of}

-- what contracts see of a semaphore
pub record Semaphore : Type 0 where
  pub words : Words
  pub positions : List Position
  pub entries : List (Entry ℕ)

abbrev pub position_at : List Position → ℕ → Position
position_at xs p = slice_index_or xs p Out

-- with so many permits, and every party out
abbrev pub new_semaphore : ℕ → ℕ → ℕ → Semaphore
new_semaphore parties permits most = record { words = words permits permits most; positions = replicate parties Out; entries = [] }

-- for how many permits each party's future, guard or call is
abbrev pub sizes_of : List Position → ℕ → ℕ
sizes_of xs p = size_at (position_at xs p)

-- ---- What always holds

pub record IsKept (w : Words) (xs : List Position) (q : WeightedQueue) : Type 0 where
  pub sound : (s : ℕ) → 0 < s → IsSound s (tally_of w q.entries) (counts_of s xs)
  -- each listed party has one entry, of its size, and no other party has one
  pub owners : (p : ℕ) → entries_of p q.entries ≡ listed (position_at xs p)
  pub weighs : (p : ℕ) → listed (position_at xs p) ≡ 1 → weight_in q.weights p ≡ sizes_of xs p
  -- whoever found too few wants some
  pub some : (p : ℕ) → is_short (position_at xs p) ≡ true → 0 < sizes_of xs p
  pub as_many : q.parties ≡ length xs
  pub weighed : length q.weights ≡ length xs

-- every party is outside the programs
abbrev pub IsAtRest : List Position → Type 0
IsAtRest xs = AreAtRest is_resting xs

-- What callers may rest on: permits that are available, held and under way make up the limit; a party's entries are told by where it stands; whoever found too few permits wants some; at most one entry is marked; where as many permits are available as somebody waits for who has looked, some entry is marked or somebody owes the list as many; and at rest, where as many are available as some listed party wants, some entry is marked.
pub record IsSemaphore (s : Semaphore) : Type 0 where
  pub balanced : s.words.available + sum_by permits_at s.positions + sum_by under_way_at s.positions ≡ s.words.limit
  pub limited : s.words.limit ≤ s.words.most
  pub owners : (p : ℕ) → entries_of p s.entries ≡ listed (position_at s.positions p)
  pub some : (p : ℕ) → is_short (position_at s.positions p) ≡ true → 0 < sizes_of s.positions p
  pub one_marked : marked_count s.entries ≤ 1
  pub owed : (k : ℕ) → 0 < k → IsOwed (k ≤ s.words.available) (sum_by (waits k) s.positions) (sum_by (owes k) s.positions) (marked_count s.entries)
  pub wakes : IsAtRest s.positions → is_wanted (sizes_of s.positions) s.words.available s.entries ≡ true → 0 < marked_count s.entries

-- ---- Which parties stand where

-- The calls of a semaphore.
abbrev pub knows : Call → Bool
knows (call.Acquire k) = true
knows (call.TryAcquire k) = true
knows (call.AddPermits n) = true
knows call.Poll = true
knows call.Drop = true
knows call.Forget = true
knows _ = false

-- a place in the program of a poll, of a guard's drop, of an add, and of the drop of a pending future
abbrev pub is_polling : Place → Bool
is_polling (Take k listed told) = true
is_polling (Retake k) = true
is_polling (Join k told) = true
is_polling (Ask k told) = true
is_polling (Remove k more) = true
is_polling (Load k) = true
is_polling (HandOn k a) = true
is_polling (PassOn k a) = true
is_polling (RefuseFit k a) = true
is_polling _ = false

abbrev pub is_returning : Place → Bool
is_returning (GiveBack k) = true
is_returning (FitGivenBack a) = true
is_returning _ = false

abbrev pub is_adding : Place → Bool
is_adding (Raise n) = true
is_adding (GiveAdded n) = true
is_adding (FitAdded a) = true
is_adding _ = false

abbrev pub is_cancelling : Place → Bool
is_cancelling CancelRemove = true
is_cancelling CancelLoad = true
is_cancelling (FitGivenBack a) = true
is_cancelling Abandon = true
is_cancelling _ = false

abbrev pub is_trying : Place → Bool
is_trying (Try k) = true
is_trying _ = false

abbrev pub is_forgetting : Place → Bool
is_forgetting (Lower k) = true
is_forgetting _ = false

-- a place in the program of a call of this kind, begun by a party that stood so
abbrev pub runs : Kind → Rest → Place → Bool
runs kind.FirstPoll rest.Idle x = is_polling x
runs kind.LaterPoll rest.Pending x = is_polling x
runs kind.Try rest.Idle x = is_trying x
runs kind.Add rest.Idle x = is_adding x
runs kind.Drop rest.Pending x = is_cancelling x
runs kind.Drop rest.Holding x = is_returning x
runs kind.Forget rest.Holding x = is_forgetting x
runs _ _ x = false

-- a place that a call has come to, and not one at which it only begins
abbrev pub is_begun : Place → Bool
is_begun (Take k false false) = false
is_begun (Retake k) = false
is_begun (Try k) = false
is_begun (Lower k) = false
is_begun (GiveBack k) = false
is_begun (Raise n) = false
is_begun CancelRemove = false
is_begun Abandon = false
is_begun _ = true

-- a stage that goes with where the party stands
abbrev pub goes_with : Stage → Position → Bool
goes_with (Outside rest.Idle) Out = true
goes_with (Outside rest.Pending) (Unlisted k) = true
goes_with (Outside rest.Pending) (Waiting k) = true
goes_with (Outside rest.Holding) (Holding k) = true
goes_with (Inside w) (At x) = is_begun x && runs w.kind w.was x
goes_with _ _ = false

abbrev pub Stands : Semaphore → ℕ → Stage → Type 0
Stands s p stage = goes_with stage (position_at s.positions p) ≡ true

-- A party that stands so may act at this place: it has and owes there what it did, waits there for as many if for any, and is short there of as many.
pub record StandsAt (from : Place) (x : Position) : Type 0 where
  pub same : seat_of from ≡ seated x
  pub waits : (s : ℕ) → waits_for s from ≤ waits s x
  pub short : is_short_at from ≡ true → (is_short x ≡ true) × (size_of from ≡ size_at x)

-- ---- One action

-- what a call's next is answered
abbrev pub answer_by : Next → Answer
answer_by (next.Do x) = Stepped
answer_by (next.End e x) = answer_of Plain e

-- A party does the action of this place, which finds this, and goes where its program says.
pub record Acts (memory : Bool) (p : ℕ) (from : Place) (found : Found) (s t : Semaphore) : Type 0 where
  pub finds : Finds memory p (action_of from) found s.words s.entries
  pub words : t.words ≡ words_after (effect_of (action_of from) found) s.words
  pub entries : t.entries ≡ entries_after (sizes_of s.positions) p (effect_of (action_of from) found) s.entries
  pub positions : t.positions ≡ slice_set s.positions p (position_after (next_of from found))

-- So it does, and this comes next.
pub record ActsSo (memory : Bool) (p : ℕ) (from : Place) (next : Next) (s t : Semaphore) : Type 0 where
  pub found : Found
  pub acts : Acts memory p from found s t
  pub next_is : next ≡ next_of from found

-- A move of the party, answered so.
pub record Moves (s : Semaphore) (p : ℕ) (w : Within) (what : What) (a : Answer) (t : Semaphore) : Type 0 where
  pub from : Place
  pub starts : place_for what (position_at s.positions p) ≡ Some from
  pub runs : runs w.kind w.was from ≡ true
  pub found : Found
  pub acts : Acts (inputs_of what).memory p from found s t
  pub answer : a ≡ answer_by (next_of from found)
