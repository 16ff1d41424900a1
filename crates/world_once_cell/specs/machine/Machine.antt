-- A once-cell: what is in it, where each party stands, and who waits in its lists; and what one action does to it.
use Rattle.std.specs.Prelude.{◌≡◌, ℕ, ◌<◌, ◌≤◌, ◌==◌, ◌&&◌, Bool, true, false, List, [], length, Option, Some, slice_index_or, slice_set, replicate}
use Rattle.std.specs.List.{sum_by}
use Rattle.lock_event.specs.declared.event.Entry.{Entry}
use Rattle.lock_event.specs.Lists.{marked_count, IsMarkedFirst}
use Rattle.world_base.specs.queue.Parties.{entries_of, is_unmarked}
use Rattle.world_base.specs.queue.Debts.{IsOwed}
use Rattle.world_base.specs.queue.Queues.{Queue}
use Rattle.world_base.specs.declared.moves.Answer.{Answer}
use Rattle.world_base.specs.declared.moves.Answer.TheVariants as answer
use Rattle.world_base.specs.declared.moves.Call.{Call}
use Rattle.world_base.specs.declared.moves.Call.TheVariants as call
use Rattle.world_base.specs.declared.moves.Inputs.{Inputs}
use Rattle.world_base.specs.declared.moves.What.{What}
use Rattle.world_base.specs.declared.standing.Kind.{Kind}
use Rattle.world_base.specs.declared.standing.Kind.TheVariants as kind
use Rattle.world_base.specs.declared.standing.Rest.{Rest}
use Rattle.world_base.specs.declared.standing.Rest.TheVariants as rest
use Rattle.world_base.specs.declared.standing.Stage.{Stage}
use Rattle.world_base.specs.declared.standing.Stage.TheVariants.{Outside, Inside, Forgotten}
use Rattle.world_base.specs.declared.standing.Within.{Within}
use Rattle.world_base.specs.Standings.{inputs_of}
use Rattle.world_base.specs.table.Ends.{answer_of}
use Rattle.world_base.specs.table.Resting.{AreAtRest}
use Rattle.world_once_cell.specs.declared.program.words.Content.{Content}
use Rattle.world_once_cell.specs.declared.program.words.Content.TheVariants as content
use Rattle.world_once_cell.specs.program.Program.{Found, got_left}
use Rattle.sync_program.specs.declared.once_cell.ListName.{ListName}
use Rattle.sync_program.specs.declared.once_cell.ListName.TheVariants.{Active, Passive}
use Rattle.world_once_cell.specs.program.Program.{Next}
use Rattle.lock_program.specs.declared.end.Next.TheVariants as next
use Rattle.world_once_cell.specs.program.Program.{Place}
use Rattle.sync_program.specs.declared.once_cell.Place.TheVariants.{Claim, ClaimListed, JoinActive, AskActive, LeaveToMake, Make, Fill, NotifyActive, NotifyPassive, Fail, FailNotify, LeaveFull, RefuseActive, Look, JoinPassive, LookListed, AskPassive, LeavePassive, RefusePassive, Try, TryFill, TryNotifyActive, TryNotifyPassive, CancelMake, CancelNotify, CancelLeave, Abandon}
use Rattle.world_once_cell.specs.program.Program.{Position}
use Rattle.sync_program.specs.declared.once_cell.Position.TheVariants.{Out, ToMake, WaitingToMake, Making, ToWait, Waiting, At}
use Rattle.world_once_cell.specs.program.Program.{place_for, action_of, next_of, position_after}
use Rattle.world_once_cell.specs.machine.Seats.{makes_at, in_active, in_passive_at, waits, owes, value_known, is_late, will_tell, is_resting}
use Rattle.world_once_cell.specs.program.Effects.{Finds, effect_of, content_after, active_after, passive_after, everyone}
use Rattle.world_once_cell.specs.program.Words.{refilled}
use Rattle.world_once_cell.specs.machine.Tally.{IsSound, tally_of, counts_of}

-- what contracts see of a once-cell
pub record OnceCell : Type 0 where
  pub content : Content
  pub positions : List Position
  pub active : List (Entry ℕ)
  pub passive : List (Entry ℕ)

abbrev pub position_at : List Position → ℕ → Position
position_at xs p = slice_index_or xs p Out

-- empty, and every party out
abbrev pub new_cell : ℕ → OnceCell
new_cell parties = record { content = content.Empty; positions = replicate parties Out; active = []; passive = [] }

-- ---- What always holds

-- Whether this party makes the cell's value.
abbrev pub is_maker : Content → ℕ → Bool
is_maker (content.BeingMade q) p = q == p
is_maker _ p = false

-- Once the cell is full, each entry of this list is marked, but of parties that haven't seen it yet or are about to leave; unless somebody is about to mark them all.
abbrev pub AllTold : ListName → Content → List Position → List (Entry ℕ) → Type 0
AllTold list c xs l = (v : ℕ) → c ≡ content.Full v → ((q : ℕ) → will_tell list (position_at xs q) ≡ false) → (p : ℕ) → is_unmarked p l ≡ true → is_late list (position_at xs p) ≡ true

pub record IsKept (c : Content) (xs : List Position) (active passive : Queue) : Type 0 where
  pub sound : IsSound (tally_of c active.entries) (counts_of xs)
  -- whoever makes the value is where makers stand
  pub makers : (p : ℕ) → makes_at (position_at xs p) ≡ is_maker c p
  pub active_told : AllTold Active c xs active.entries
  pub passive_told : AllTold Passive c xs passive.entries
  -- each listed party has one entry, and no other party has one
  pub active_owners : (p : ℕ) → entries_of p active.entries ≡ in_active (position_at xs p)
  pub passive_owners : (p : ℕ) → entries_of p passive.entries ≡ in_passive_at (position_at xs p)
  pub passive_listed : sum_by in_passive_at xs ≡ length passive.entries
  pub active_parties : active.parties ≡ length xs
  pub passive_parties : passive.parties ≡ length xs
  pub few : length xs ≤ 4294967295

-- every party is outside the programs
abbrev pub IsAtRest : List Position → Type 0
IsAtRest xs = AreAtRest is_resting xs

-- What callers may rest on: one party at most makes, and stands where makers do; a party's entries are told by where it stands; at rest, where the cell is empty and somebody is listed in `active`, some entry there is marked. Whenever the cell is empty and somebody waits in `active`, some entry there is marked or somebody owes it a notification or a look. Where the cell is full and nobody is about to tell a list, every entry there is marked but of parties that haven't looked yet or are about to leave. No more stand in `passive` than can be notified at once.
pub record IsCell (s : OnceCell) : Type 0 where
  pub makers : (p : ℕ) → makes_at (position_at s.positions p) ≡ is_maker s.content p
  pub active_owners : (p : ℕ) → entries_of p s.active ≡ in_active (position_at s.positions p)
  pub passive_owners : (p : ℕ) → entries_of p s.passive ≡ in_passive_at (position_at s.positions p)
  pub active_in_order : IsMarkedFirst s.active
  pub passive_in_order : IsMarkedFirst s.passive
  pub owed : IsOwed (s.content ≡ content.Empty) (sum_by waits s.positions) (sum_by owes s.positions) (marked_count s.active)
  pub wakes : IsAtRest s.positions → s.content ≡ content.Empty → 0 < length s.active → 0 < marked_count s.active
  pub active_told : AllTold Active s.content s.positions s.active
  pub passive_few : length s.passive ≤ everyone
  pub passive_told : AllTold Passive s.content s.positions s.passive

-- ---- Which parties stand where

-- The calls of a cell.
abbrev pub knows : Call → Bool
knows call.Initialize = true
knows (call.Set v) = true
knows call.Wait = true
knows (call.TrySet v) = true
knows call.Poll = true
knows call.Drop = true
knows _ = false

-- a place in the program of a poll, of a try, and of a drop
abbrev pub is_polling : Place → Bool
is_polling (Claim k told) = true
is_polling (ClaimListed k) = true
is_polling (JoinActive k told) = true
is_polling (AskActive k) = true
is_polling (LeaveToMake k) = true
is_polling (Make k) = true
is_polling (Fill v) = true
is_polling (NotifyActive v) = true
is_polling (NotifyPassive v) = true
is_polling Fail = true
is_polling FailNotify = true
is_polling (LeaveFull k v) = true
is_polling (RefuseActive k) = true
is_polling (Look told) = true
is_polling (JoinPassive told) = true
is_polling LookListed = true
is_polling AskPassive = true
is_polling (LeavePassive v) = true
is_polling RefusePassive = true
is_polling _ = false

abbrev pub is_trying : Place → Bool
is_trying (Try v) = true
is_trying (TryFill v) = true
is_trying (TryNotifyActive v) = true
is_trying (TryNotifyPassive v) = true
is_trying _ = false

abbrev pub is_cancelling : Place → Bool
is_cancelling CancelMake = true
is_cancelling CancelNotify = true
is_cancelling (CancelLeave list) = true
is_cancelling Abandon = true
is_cancelling _ = false

abbrev pub is_abandoning : Place → Bool
is_abandoning Abandon = true
is_abandoning _ = false

-- a place in the program of a call of this kind, begun by a party that stood so
abbrev pub runs : Kind → Rest → Place → Bool
runs kind.FirstPoll rest.Idle x = is_polling x
runs kind.FirstPoll rest.Finished x = is_polling x
runs kind.LaterPoll rest.Pending x = is_polling x
runs kind.Try rest.Idle x = is_trying x
runs kind.Try rest.Finished x = is_trying x
runs kind.Drop rest.Pending x = is_cancelling x
runs kind.Drop rest.Finished x = is_abandoning x
runs _ _ x = false

-- a place that a call has come to, and not one at which it only begins
abbrev pub is_begun : Place → Bool
is_begun (Claim k false) = false
is_begun (Look false) = false
is_begun (Try v) = false
is_begun CancelMake = false
is_begun (CancelLeave list) = false
is_begun Abandon = false
is_begun _ = true

-- a position of a pending party
abbrev pub is_pending : Position → Bool
is_pending (ToMake k) = true
is_pending (WaitingToMake k) = true
is_pending (Making k) = true
is_pending ToWait = true
is_pending Waiting = true
is_pending _ = false

abbrev pub is_out : Position → Bool
is_out Out = true
is_out _ = false

-- a stage that goes with where the party stands
abbrev pub goes_with : Stage → Position → Bool
goes_with (Outside rest.Idle) x = is_out x
goes_with (Outside rest.Finished) x = is_out x
goes_with (Outside rest.Pending) x = is_pending x
goes_with (Inside w) (At x) = is_begun x && runs w.kind w.was x
goes_with Forgotten x = is_resting x
goes_with _ _ = false

-- A party at this stage may stand where it does, and what it knows of the cell's value is so.
pub record Stands (s : OnceCell) (p : ℕ) (stage : Stage) : Type 0 where
  pub goes : goes_with stage (position_at s.positions p) ≡ true
  pub value : (v : ℕ) → value_known (position_at s.positions p) ≡ Some v → s.content ≡ content.Full v

-- ---- The value, from outside every call

-- The cell with another value, or without the one that it had; one that isn't full stays as it is.
abbrev pub with_value : OnceCell → Option ℕ → OnceCell
with_value s v = record s { content = refilled s.content v }

-- ---- One action

-- what a call's next is answered
abbrev pub answer_by : Next → Answer
answer_by (next.Do x) = answer.Stepped
answer_by (next.End e x) = answer_of (got_left x) e

-- A party does the action of this place, which finds this, and goes where its program says.
pub record Acts (inputs : Inputs) (p : ℕ) (from : Place) (found : Found) (s t : OnceCell) : Type 0 where
  pub finds : Finds inputs p (action_of from) found s.content s.active s.passive
  pub content : t.content ≡ content_after p (effect_of (action_of from) found) s.content
  pub active : t.active ≡ active_after p (effect_of (action_of from) found) s.active
  pub passive : t.passive ≡ passive_after p (effect_of (action_of from) found) s.passive
  pub positions : t.positions ≡ slice_set s.positions p (position_after (next_of from found))

-- A move of the party, answered so.
pub record Moves (s : OnceCell) (p : ℕ) (w : Within) (what : What) (a : Answer) (t : OnceCell) : Type 0 where
  pub from : Place
  pub starts : place_for what (position_at s.positions p) ≡ Some from
  pub runs : runs w.kind w.was from ≡ true
  pub found : Found
  pub acts : Acts (inputs_of what) p from found s t
  pub answer : a ≡ answer_by (next_of from found)
