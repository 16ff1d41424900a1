-- Runs of a once-cell that no user would accept. Each record is one wrong run: what its steps would be, if it were legal.
use Rattle.std.specs.Prelude.{◌≡◌, ◌≢◌, ℕ, ◌<◌, ◌≤◌, ◌⊎◌, true, false, length, Some, None}
use Rattle.lock_event.specs.Lists.{marked_count, mark_at, is_marked_at}
use Rattle.world_base.specs.queue.Parties.{is_party, entries_of}
use Rattle.world_base.specs.declared.moves.Answer.{Answer}
use Rattle.world_base.specs.declared.moves.Answer.TheVariants as answer
use Rattle.world_base.specs.declared.moves.Call.{Call}
use Rattle.world_base.specs.declared.moves.Call.TheVariants as call
use Rattle.world_base.specs.declared.moves.Got.{Got}
use Rattle.world_base.specs.declared.moves.Got.TheVariants as got
use Rattle.world_base.specs.declared.moves.Inputs.{Inputs}
use Rattle.world_base.specs.declared.moves.Made.TheVariants as made
use Rattle.world_base.specs.declared.moves.Move.{Move}
use Rattle.world_base.specs.declared.moves.What.TheVariants.{Begin, Go}
use Rattle.lock_program.specs.declared.refusal.Refusal.TheVariants as refusal
use Rattle.world_base.specs.declared.standing.Kind.TheVariants as kind
use Rattle.world_base.specs.declared.standing.Rest.TheVariants.{Pending}
use Rattle.world_base.specs.declared.standing.Within.{Within}
use Rattle.world_base.specs.Frame.{is_drop, is_refusal}
use Rattle.world_base.specs.Standings.{outside, inside, inputs_of, is_outside, is_decided, is_possible, is_stepped, refused}
use Rattle.world_base.specs.Steps.{does, joins, notifies}
use Rattle.sync_program.specs.declared.once_cell.ListName.{ListName}
use Rattle.sync_program.specs.declared.once_cell.ListName.TheVariants.{Passive}
use Rattle.world_once_cell.specs.declared.program.words.Content.TheVariants.{Empty, BeingMade, Full}
use Rattle.world_once_cell.specs.machine.Seats.{initializes, sets, waits_only, fills_with, failed}
use Rattle.world_once_cell.specs.machine.Machine.{is_maker}
use Rattle.world_once_cell.specs.AtOnce.{AnswersAtOnce, is_try, is_poll, is_first_making, is_first_wait}
use Rattle.world_once_cell.specs.Bound.{IsSolo, Promises}
use Rattle.world_once_cell.specs.Laws.{IsSound, is_due}
use Rattle.world_once_cell.specs.Legal.{Legal, DecidesOn}
use Rattle.world_once_cell.specs.State.{World, list_in, is_empty, standing_of, task_of}
use Rattle.world_once_cell.specs.Tasks.{task_then, list_for, is_open}
use Rattle.world_base.specs.Ending.{GoesOnFor}
use Rattle.world_once_cell.specs.Steps.{Steps}
use Rattle.world_once_cell.specs.Whole.{EndsSoon}

-- A move of a party, and what it leads to.
pub record Step : Type 0 where
  pub old : World
  pub move : Move
  pub answer : Answer
  pub new : World

abbrev pub IsLegal : Step → Type 0
IsLegal s = Legal s.old s.move s.answer s.new

abbrev pub IsAtOnce : Step → Type 0
IsAtOnce s = AnswersAtOnce s.old s.move s.answer s.new

-- A whole call, and where it ends.
pub record Whole : Type 0 where
  pub old : World
  pub party : ℕ
  pub call : Call
  pub inputs : Inputs
  pub answer : Answer
  pub new : World

abbrev pub Keeps : Whole → Type 0
Keeps c = Promises c.old c.party c.call c.inputs c.answer c.new

-- A second value enters a full cell, or its value goes.
pub record EntersTwice : Type 0 where
  pub step : Step
  pub value : ℕ
  pub full : step.old.cell ≡ Full value
  pub other : step.new.cell ≢ Full value
  pub legal : IsLegal step

-- The making ends and no value enters, though the maker has neither failed nor is dropped.
pub record EndsByNothing : Type 0 where
  pub step : Step
  pub maker : ℕ
  pub making : step.old.cell ≡ BeingMade maker
  pub ended : step.new.cell ≡ Empty
  pub not_dropped : is_drop step.move.what ≡ false
  pub not_failed : task_of step.old maker ≢ failed
  pub legal : IsLegal step

-- The cell is filled with another value than the one that its maker gave.
pub record FillsAnother : Type 0 where
  pub step : Step
  pub given : ℕ
  pub entered : ℕ
  pub other : entered ≢ given
  pub gave : task_of step.old step.move.party ≡ fills_with given
  pub unfilled : is_empty step.old.cell ≡ false
  pub making : is_maker step.old.cell step.move.party ≡ true
  pub fills : step.new.cell ≡ Full entered
  pub legal : IsLegal step

-- The maker gives one value by the move's input, and its party goes on with another.
pub record MakesAnother : Type 0 where
  pub step : Step
  pub inputs : Inputs
  pub given : ℕ
  pub kept : ℕ
  pub other : kept ≢ given
  pub goes : step.move.what ≡ Go inputs
  pub gave : inputs.made ≡ made.Value given
  pub asked : task_of step.old step.move.party ≡ initializes
  pub possible : is_possible step.answer ≡ true
  pub still_open : is_open (standing_of step.new step.move.party) ≡ true
  pub goes_on : task_of step.new step.move.party ≡ fills_with kept
  pub legal : IsLegal step

-- A party is to be ready with a value that isn't in the cell.
pub record ReadyTooSoon : Type 0 where
  pub step : Step
  pub value : ℕ
  pub decides : DecidesOn step.old step.move step.answer step.new (answer.Ready (got.Value value))
  pub not_full : step.new.cell ≢ Full value
  pub legal : IsLegal step

-- A first initialisation finds the cell empty, and is answered Pending without being its maker.
pub record WaitsWithoutMaking : Type 0 where
  pub whole : Whole
  pub first : is_first_making (standing_of whole.old whole.party) (Begin whole.call whole.inputs) (task_of whole.old whole.party) (entries_of whole.party whole.old.active) (is_maker whole.old.cell whole.party) ≡ true
  pub empty : whole.old.cell ≡ Empty
  pub pending : whole.answer ≡ answer.Pending
  pub no_maker : whole.new.cell ≢ BeingMade whole.party
  pub kept : Keeps whole

-- An initialisation that isn't the maker is answered Pending, and doesn't stand in `active`.
pub record WaitsInPassive : Type 0 where
  pub step : Step
  pub pending : step.answer ≡ answer.Pending
  pub task : task_of step.new step.move.party ≡ initializes
  pub no_maker : step.new.cell ≢ BeingMade step.move.party
  pub unlisted : mark_at (is_party step.move.party) step.new.active ≡ None
  pub legal : IsLegal step

-- A wait is answered Pending, and doesn't stand in `passive`.
pub record WaitsInActive : Type 0 where
  pub step : Step
  pub pending : step.answer ≡ answer.Pending
  pub task : task_of step.new step.move.party ≡ waits_only
  pub unlisted : mark_at (is_party step.move.party) step.new.passive ≡ None
  pub legal : IsLegal step

-- A try is answered None though the cell is empty.
pub record TriesInVain : Type 0 where
  pub step : Step
  pub tries : is_try step.move.what ≡ true
  pub empty : is_empty step.old.cell ≡ true
  pub none : step.answer ≡ answer.None
  pub legal : IsAtOnce step

-- A try goes on, as to wait, though the cell isn't empty.
pub record TriesWhileMade : Type 0 where
  pub step : Step
  pub tries : is_try step.move.what ≡ true
  pub taken : is_empty step.old.cell ≡ false
  pub goes_on : step.answer ≡ answer.Stepped
  pub legal : IsAtOnce step

-- A set finds the cell full, and is ready with the cell's value: the value handed in is lost.
pub record LosesItsOwn : Type 0 where
  pub step : Step
  pub own : ℕ
  pub value : ℕ
  pub set : task_then step.move.what (task_of step.old step.move.party) ≡ sets own
  pub decides : DecidesOn step.old step.move step.answer step.new (answer.Ready (got.Value value))
  pub legal : IsLegal step

-- A dropped maker leaves the cell being made.
pub record StaysMade : Type 0 where
  pub step : Step
  pub drops : is_drop step.move.what ≡ true
  pub possible : is_possible step.answer ≡ true
  pub making : is_maker step.old.cell step.move.party ≡ true
  pub left : step.new.cell ≡ BeingMade step.move.party
  pub legal : IsAtOnce step

-- A maker is dropped, others wait to make, and nobody is told.
pub record TellsNobody : Type 0 where
  pub whole : Whole
  pub drops : whole.call ≡ call.Drop
  pub was_pending : standing_of whole.old whole.party ≡ outside Pending
  pub making : is_maker whole.old.cell whole.party ≡ true
  pub some : 0 < length whole.new.active
  pub none_told : marked_count whole.new.active ≡ 0
  pub kept : Keeps whole

-- A notified party polls alone, where the cell is empty, and waits again.
pub record PassesOverInVain : Type 0 where
  pub whole : Whole
  pub polls : whole.call ≡ call.Poll
  pub solo : IsSolo whole.old whole.party whole.inputs
  pub empty : whole.old.cell ≡ Empty
  pub pending : whole.answer ≡ answer.Pending
  pub no_maker : whole.new.cell ≢ BeingMade whole.party
  pub kept : Keeps whole

-- A listed party's poll is refused, and nobody else is told: what it was told is lost.
pub record KeepsItsTold : Type 0 where
  pub whole : Whole
  pub list : ListName
  pub polls : whole.call ≡ call.Poll
  pub was_pending : standing_of whole.old whole.party ≡ outside Pending
  pub listed : 0 < entries_of whole.party (list_in list whole.old)
  pub refused : is_refusal whole.answer ≡ true
  pub some : 0 < length (list_in list whole.new)
  pub none_told : marked_count (list_in list whole.new) ≡ 0
  pub kept : Keeps whole

-- The cell is full and nobody who filled it has still to tell, and a party outside every call stands in a list and hasn't been told, though somebody may be inside a call.
pub record LeftUntold : Type 0 where
  pub world : World
  pub value : ℕ
  pub list : ListName
  pub party : ℕ
  pub full : world.cell ≡ Full value
  pub none_tells : (q n : ℕ) → task_of world q ≢ fills_with n
  pub stands : is_outside (standing_of world party) ≡ true
  pub listed : 0 < entries_of party (list_in list world)
  pub unmarked : is_marked_at (is_party party) (list_in list world) ≡ false
  pub sound : IsSound world

-- A drop or a try goes on undecided after its first step, as if to take or make something yet.
pub record GoesOnUndecided : Type 0 where
  pub step : Step
  pub within : Within
  pub undecided : standing_of step.new step.move.party ≡ inside within None
  pub kind : (within.kind ≡ kind.Drop) ⊎ (within.kind ≡ kind.Try)
  pub legal : IsLegal step

-- A dropped future that is still under way has an entry in a list yet.
pub record DropsListed : Type 0 where
  pub step : Step
  pub within : Within
  pub list : ListName
  pub dropped : standing_of step.new step.move.party ≡ inside within (Some answer.GivenBack)
  pub listed : 0 < entries_of step.move.party (list_in list step.new)
  pub legal : IsLegal step

-- A pending maker stands in a list too, so that it takes a notification that is for another.
pub record MakesAndWaits : Type 0 where
  pub step : Step
  pub list : ListName
  pub pending : standing_of step.new step.move.party ≡ outside Pending
  pub making : is_maker step.new.cell step.move.party ≡ true
  pub listed : 0 < entries_of step.move.party (list_in list step.new)
  pub legal : IsLegal step

-- The maker is refused for memory, though it has nothing to join.
pub record RefusesMaker : Type 0 where
  pub step : Step
  pub making : is_maker step.old.cell step.move.party ≡ true
  pub refusal : DecidesOn step.old step.move step.answer step.new (refused refusal.Memory)
  pub legal : IsLegal step

-- A party whose call isn't decided marks one in a list, though it has made nothing empty and isn't refused.
pub record MarksUndecided : Type 0 where
  pub step : Step
  pub list : ListName
  pub many : ℕ
  pub undecided : is_decided (standing_of step.old step.move.party) ≡ false
  pub legal : IsLegal step
  pub marks : legal.one_change.effect ≡ does list (notifies many)

-- A try is to be granted, and the cell is empty.
pub record GrantsNothing : Type 0 where
  pub step : Step
  pub within : Within
  pub got : Got
  pub granted : standing_of step.new step.move.party ≡ inside within (Some (answer.Granted got))
  pub empty : step.new.cell ≡ Empty
  pub legal : IsLegal step

-- A set that found the cell full is to have another value back than its own.
pub record HasAnotherBack : Type 0 where
  pub step : Step
  pub within : Within
  pub own : ℕ
  pub back : ℕ
  pub other : back ≢ own
  pub set : task_of step.new step.move.party ≡ sets own
  pub taken : standing_of step.new step.move.party ≡ inside within (Some (answer.Ready (got.Taken back)))
  pub legal : IsLegal step

-- A call is ready with its maker's failure and nobody has been told who would make, though some wait; whoever else is inside a call.
pub record FailsUntold : Type 0 where
  pub step : Step
  pub failed : step.answer ≡ answer.Ready got.Failed
  pub some : 0 < length step.new.active
  pub none_told : marked_count step.new.active ≡ 0
  pub legal : IsLegal step

-- A drop that was under way ends, as a maker's does, and nobody has been told who would make, though some wait; whoever else is inside a call.
pub record DropsUntold : Type 0 where
  pub step : Step
  pub within : Within
  pub dropped : standing_of step.old step.move.party ≡ inside within (Some answer.GivenBack)
  pub possible : is_possible step.answer ≡ true
  pub some : 0 < length step.new.active
  pub none_told : marked_count step.new.active ≡ 0
  pub legal : IsLegal step

-- A party was told and is to be refused for memory, and its call ends with nobody else told who waits for the same; whoever else is inside a call.
pub record RefusedUntold : Type 0 where
  pub step : Step
  pub within : Within
  pub list : ListName
  pub refusal : standing_of step.old step.move.party ≡ inside within (Some (refused refusal.Memory))
  pub its : list_for (task_of step.old step.move.party) ≡ Some list
  pub possible : is_possible step.answer ≡ true
  pub some : 0 < length (list_in list step.new)
  pub none_told : marked_count (list_in list step.new) ≡ 0
  pub legal : IsLegal step

-- A notified party polls, and waits at once without a look at the cell.
pub record WaitsThoughTold : Type 0 where
  pub step : Step
  pub list : ListName
  pub polls : is_poll step.move.what ≡ true
  pub was_pending : standing_of step.old step.move.party ≡ outside Pending
  pub listed : 0 < entries_of step.move.party (list_in list step.old)
  pub marked : is_marked_at (is_party step.move.party) (list_in list step.old) ≡ true
  pub pending : step.answer ≡ answer.Pending
  pub legal : IsAtOnce step

-- A listed party that hasn't been told polls, and doesn't wait on.
pub record GoesOnUntold : Type 0 where
  pub step : Step
  pub list : ListName
  pub polls : is_poll step.move.what ≡ true
  pub was_pending : standing_of step.old step.move.party ≡ outside Pending
  pub listed : 0 < entries_of step.move.party (list_in list step.old)
  pub unmarked : is_marked_at (is_party step.move.party) (list_in list step.old) ≡ false
  pub goes_on : step.answer ≢ answer.Pending
  pub legal : IsAtOnce step

-- A notified party polls alone on a full cell, and waits again, or is refused for memory, which it doesn't need.
pub record WaitsForFull : Type 0 where
  pub whole : Whole
  pub list : ListName
  pub value : ℕ
  pub polls : whole.call ≡ call.Poll
  pub was_pending : standing_of whole.old whole.party ≡ outside Pending
  pub marked : is_marked_at (is_party whole.party) (list_in list whole.old) ≡ true
  pub full : whole.old.cell ≡ Full value
  pub in_vain : (whole.answer ≡ answer.Pending) ⊎ (whole.answer ≡ refused refusal.Memory)
  pub kept : Keeps whole

-- A notified party polls alone on an empty cell, and is refused for memory, which it doesn't need.
pub record RefusedToMake : Type 0 where
  pub whole : Whole
  pub polls : whole.call ≡ call.Poll
  pub was_pending : standing_of whole.old whole.party ≡ outside Pending
  pub marked : is_marked_at (is_party whole.party) whole.old.active ≡ true
  pub empty : whole.old.cell ≡ Empty
  pub is_refused : whole.answer ≡ refused refusal.Memory
  pub kept : Keeps whole

-- The cell is empty, a party outside every call waits to make its value, and nobody there has been told, nor does anybody have to tell or to look, though somebody may be inside a call, as a wait is.
pub record LeftToNobody : Type 0 where
  pub world : World
  pub party : ℕ
  pub empty : world.cell ≡ Empty
  pub stands : is_outside (standing_of world party) ≡ true
  pub listed : 0 < entries_of party world.active
  pub none_told : marked_count world.active ≡ 0
  pub none_due : (q : ℕ) → is_due (standing_of world q) (task_of world q) ≡ false
  pub sound : IsSound world

-- A party that is to be ready with a value tells one party of its own choice, though it made nothing empty and isn't refused.
pub record TellsAnyone : Type 0 where
  pub step : Step
  pub within : Within
  pub value : ℕ
  pub list : ListName
  pub many : ℕ
  pub ready : standing_of step.old step.move.party ≡ inside within (Some (answer.Ready (got.Value value)))
  pub legal : IsLegal step
  pub tells : legal.one_change.effect ≡ does list (notifies many)

-- A dropped maker, or one that failed, tells a wait, which may not make, in place of one that would.
pub record TellsPassive : Type 0 where
  pub step : Step
  pub within : Within
  pub many : ℕ
  pub decided : (standing_of step.old step.move.party ≡ inside within (Some answer.GivenBack)) ⊎ (standing_of step.old step.move.party ≡ inside within (Some (answer.Ready got.Failed)))
  pub legal : IsLegal step
  pub tells : legal.one_change.effect ≡ does Passive (notifies many)

-- An initialisation that has begun to make, and stands in no list, goes on with a value at hand, and doesn't ask for it: what its maker gave is lost.
pub record LosesWhatWasMade : Type 0 where
  pub step : Step
  pub within : Within
  pub value : ℕ
  pub undecided : standing_of step.old step.move.party ≡ inside within None
  pub possible : is_possible step.answer ≡ true
  pub making : is_maker step.old.cell step.move.party ≡ true
  pub task : task_of step.old step.move.party ≡ initializes
  pub unlisted : entries_of step.move.party step.old.active ≡ 0
  pub gave : (inputs_of step.move.what).made ≡ made.Value value
  pub lost : task_of step.new step.move.party ≢ fills_with value
  pub legal : IsAtOnce step

-- The first step of a first wait changes the list of those that wait, before it has looked at the cell.
pub record JoinsUnlooked : Type 0 where
  pub step : Step
  pub first : is_first_wait (standing_of step.old step.move.party) step.move.what (task_of step.old step.move.party) (entries_of step.move.party step.old.passive) ≡ true
  pub joined : step.new.passive ≢ step.old.passive
  pub legal : IsAtOnce step

-- A told party polls and looks at the cell, and what it was told stays in the list, so that another that waits isn't told meanwhile.
pub record KeepsItsMark : Type 0 where
  pub step : Step
  pub list : ListName
  pub polls : is_poll step.move.what ≡ true
  pub was_pending : standing_of step.old step.move.party ≡ outside Pending
  pub listed : 0 < entries_of step.move.party (list_in list step.old)
  pub marked : is_marked_at (is_party step.move.party) (list_in list step.old) ≡ true
  pub stays : marked_count (list_in list step.new) ≡ marked_count (list_in list step.old)
  pub legal : IsAtOnce step

-- The drop of a party that doesn't make goes on after its first step.
pub record DropsOn : Type 0 where
  pub step : Step
  pub drops : is_drop step.move.what ≡ true
  pub other : is_maker step.old.cell step.move.party ≡ false
  pub goes_on : step.answer ≡ answer.Stepped
  pub legal : IsAtOnce step

-- A maker gave its value, and its party goes on without filling the cell.
pub record LingersWithValue : Type 0 where
  pub step : Step
  pub value : ℕ
  pub possible : is_possible step.answer ≡ true
  pub making : is_maker step.old.cell step.move.party ≡ true
  pub gave : task_of step.old step.move.party ≡ fills_with value
  pub unfilled : step.new.cell ≢ Full value
  pub legal : IsAtOnce step

-- A maker failed, and its party goes on to make.
pub record MakesAfterFailure : Type 0 where
  pub step : Step
  pub possible : is_possible step.answer ≡ true
  pub making : is_maker step.old.cell step.move.party ≡ true
  pub failed : task_of step.old step.move.party ≡ failed
  pub goes_on : step.new.cell ≡ BeingMade step.move.party
  pub legal : IsAtOnce step

-- The maker joins a list, as if to wait for the value that it makes itself.
pub record MakerJoins : Type 0 where
  pub step : Step
  pub list : ListName
  pub making : is_maker step.old.cell step.move.party ≡ true
  pub legal : IsLegal step
  pub joined : legal.one_change.effect ≡ does list joins

-- The cell is being made by a party that there isn't, so that nobody ever fills it.
pub record MadeByNobody : Type 0 where
  pub world : World
  pub party : ℕ
  pub making : world.cell ≡ BeingMade party
  pub past : length world.standings ≤ party
  pub sound : IsSound world

-- The call of a party whose value entered ends, and one that only waits hasn't been told, whoever else is inside a call.
pub record FillsUntold : Type 0 where
  pub step : Step
  pub value : ℕ
  pub waiter : ℕ
  pub possible : is_possible step.answer ≡ true
  pub ended : is_stepped step.answer ≡ false
  pub filled : task_of step.old step.move.party ≡ fills_with value
  pub listed : 0 < entries_of waiter step.new.passive
  pub unmarked : is_marked_at (is_party waiter) step.new.passive ≡ false
  pub legal : IsAtOnce step

-- Two parties fill the cell, or one is about to while another has still to tell that it did.
pub record TwoTellers : Type 0 where
  pub world : World
  pub first : ℕ
  pub second : ℕ
  pub one : ℕ
  pub another : ℕ
  pub fills : task_of world first ≡ fills_with one
  pub fills_too : task_of world second ≡ fills_with another
  pub apart : first ≢ second
  pub sound : IsSound world

-- A call that is decided, as that of a guard's drop that has given its right back, goes on after three further steps of its own, whatever others did in between.
pub record EndsLate : Type 0 where
  pub party : ℕ
  pub steps : ℕ
  pub old : World
  pub new : World
  pub decided : is_decided (standing_of old party) ≡ true
  pub goes_on : GoesOnFor Steps standing_of party steps 3 old new
  pub soon : EndsSoon old
