-- Wake-ups of a read-write lock, and overtaking, that no user would accept. Each record is one wrong run.
use Rattle.std.specs.Prelude.{◌≡◌, ◌≢◌, ℕ, ◌+◌, ◌<◌, ◌≤◌, true, false, List, [], ◌∷◌, length, Some}
use Rattle.lock_event.specs.Lists.{marked_count}
use Rattle.world_base.specs.queue.Parties.{entries_of}
use Rattle.world_base.specs.declared.moves.Answer.TheVariants as answer
use Rattle.world_base.specs.declared.moves.Call.TheVariants as call
use Rattle.world_base.specs.declared.moves.Inputs.{Inputs}
use Rattle.world_base.specs.declared.moves.Move.{Move}
use Rattle.world_base.specs.declared.moves.What.TheVariants.{Begin}
use Rattle.lock_program.specs.declared.refusal.Refusal.TheVariants.{Memory, Starved}
use Rattle.lock_program.specs.declared.refusal.Refusal.TheVariants.{Readers}
use Rattle.world_base.specs.declared.standing.Rest.TheVariants.{Pending}
use Rattle.world_base.specs.declared.standing.Within.{Within}
use Rattle.world_base.specs.Frame.{is_drop, is_refusal}
use Rattle.world_base.specs.Rights.{read, upgradable, write}
use Rattle.world_base.specs.Standings.{outside, inside, is_possible, refused}
use Rattle.world_base.specs.Rosters.{how_many}
use Rattle.world_rwlock.specs.Bound.{IsSoloForTurn, IsToldToRead, IsSoloToWrite}
use Rattle.world_rwlock.specs.Legal.{may_read, is_first}
use Rattle.world_rwlock.specs.State.{ListName, list_of, nobody, is_marked, HasTurn, World, standing_of, sought_by, reads, how_many_read, is_starved, entries_in, is_upgrader}
use Rattle.world_base.specs.Standings.{is_outside, is_decided}
use Rattle.world_base.specs.Steps.{does, notifies, notifies_additionally}
use Rattle.world_rwlock.specs.Laws.{is_at_rest, IsSound, IsDueForTurn, IsDueToReaders, IsDueToWriter, is_due_for_turn, is_due_to_readers, is_refused}
use Rattle.world_rwlock.specs.Legal.{LeavesLists, is_try_for_turn}
use Rattle.world_rwlock.specs.State.{is_for_turn, for_the_turn, for_no_readers, for_no_writer, has_to_tell}
use Rattle.world_rwlock.specs.Changes.{starves}
use Rattle.world_base.specs.declared.moves.Got.{Got}
use Rattle.world_base.specs.Steps.{changes}
use Rattle.world_rwlock.specs.Bound.{IsFirstForTurn}
use Rattle.world_base.specs.Overtaking as overtaking
use Rattle.world_base.specs.Overtaking.{before, how_many_inside}
use Rattle.world_rwlock.specs.Overtaking.{HasItsTurn, IsOvertakenSeldom, IsOvertakenSeldomInSteps}
use Rattle.world_rwlock.specs.Steps.{Steps}
use Rattle.world_rwlock.specs.Whole.{IsWholeCall}
use Rattle.world_base.specs.Ending.{GoesOnFor}
use Rattle.world_base.specs.Bounds.{PolledInTurn}
use Rattle.world_rwlock.specs.Bound.{PollsToRead, LetsReadersIn}
use Rattle.world_rwlock.specs.Whole.{EndsSoon}
use Rattle.world_base.specs.Patience.{StepsInPeace, IsInPeace}
use Rattle.world_rwlock.specs.Waking.{StarvesForCause}
use Rattle.world_base.specs.queue.Parties.{is_party}
use Rattle.lock_event.specs.Lists.{is_marked_at, notified}
use Rattle.test_definitions.specs.ReadWrite.{Step, IsLegal, IsAtOnce, Whole, Keeps}

-- A party tells more than one in a list, as a try in vain that tells nine.
pub record TellsMany : Type 0 where
  pub step : Step
  pub list : ListName
  pub many : ℕ
  pub more : many ≢ 1
  pub legal : IsLegal step
  pub notifies : legal.one_change.effect ≡ does list (notifies many)

-- Parties are told beside those that were told and haven't looked yet.
pub record TellsMore : Type 0 where
  pub step : Step
  pub list : ListName
  pub more : ℕ
  pub legal : IsLegal step
  pub tells : legal.one_change.effect ≡ does list (notifies_additionally more)

-- A party tells the one that waits to write, though it has nothing to tell there,
pub record WakesAWriter : Type 0 where
  pub step : Step
  pub many : ℕ
  pub idle : has_to_tell for_no_readers step.old step.move.party ≡ false
  pub legal : IsLegal step
  pub notifies : legal.one_change.effect ≡ does for_no_readers (notifies many)

-- or one of those that wait to read, though it doesn't seek to read itself: so a writer and a reader would wake each other for ever, while a third reads;
pub record WakesAReader : Type 0 where
  pub step : Step
  pub many : ℕ
  pub sought : sought_by step.old step.move.party ≢ Some read
  pub idle : has_to_tell for_no_writer step.old step.move.party ≡ false
  pub legal : IsLegal step
  pub notifies : legal.one_change.effect ≡ does for_no_writer (notifies many)

-- or, in the turn's list, though it doesn't seek the turn.
pub record WakesForTheTurn : Type 0 where
  pub step : Step
  pub many : ℕ
  pub sought : is_for_turn (sought_by step.old step.move.party) ≡ false
  pub idle : has_to_tell for_the_turn step.old step.move.party ≡ false
  pub legal : IsLegal step
  pub notifies : legal.one_change.effect ≡ does for_the_turn (notifies many)

-- A party comes to have to tell the one that waits to write, though others read on.
pub record NotTheLast : Type 0 where
  pub step : Step
  pub idle : has_to_tell for_no_readers step.old step.move.party ≡ false
  pub tells : has_to_tell for_no_readers step.new step.move.party ≡ true
  pub others : 0 < how_many_read step.new
  pub legal : IsAtOnce step

-- A party that stands in the turn's list, and isn't starved, tells the next there before it waits.
pub record WakesTheNext : Type 0 where
  pub step : Step
  pub many : ℕ
  pub unstarved : is_starved step.old step.move.party ≡ false
  pub listed : 0 < entries_of step.move.party step.old.turn_list
  pub legal : IsLegal step
  pub notifies : legal.one_change.effect ≡ does for_the_turn (notifies many)

-- The turn is free, a party outside every call waits for it, and nobody there has been told, nor has anybody to tell or to look.
pub record SleepsThoughFree : Type 0 where
  pub world : World
  pub party : ℕ
  pub free : world.state.turn ≡ nobody
  pub stands : is_outside (standing_of world party) ≡ true
  pub listed : 0 < entries_of party world.turn_list
  pub none_told : marked_count world.turn_list ≡ 0
  pub none_due : (q : ℕ) → IsDueForTurn world q → ⊥
  pub sound : IsSound world

-- So of readers where nobody waits to write or writes,
pub record SleepsThoughReadable : Type 0 where
  pub world : World
  pub party : ℕ
  pub free : is_marked world.state.turn ≡ false
  pub stands : is_outside (standing_of world party) ≡ true
  pub listed : 0 < entries_of party world.no_writer
  pub none_told : marked_count world.no_writer ≡ 0
  pub none_due : (q : ℕ) → IsDueToReaders world q → ⊥
  pub sound : IsSound world

-- and of the one that waits to write where no reader is left.
pub record SleepsThoughWritable : Type 0 where
  pub world : World
  pub party : ℕ
  pub free : how_many_read world ≡ 0
  pub stands : is_outside (standing_of world party) ≡ true
  pub listed : 0 < entries_of party world.no_readers
  pub none_told : marked_count world.no_readers ≡ 0
  pub none_due : (q : ℕ) → IsDueToWriter world q → ⊥
  pub sound : IsSound world

-- So beside calls that are decided: whoever would be due there has its answer, isn't refused and has nothing to tell there, so the one that waits sleeps beside somebody's drop. For the turn,
pub record SleepsBesideADrop : Type 0 where
  pub world : World
  pub party : ℕ
  pub free : world.state.turn ≡ nobody
  pub stands : is_outside (standing_of world party) ≡ true
  pub listed : 0 < entries_of party world.turn_list
  pub none_told : marked_count world.turn_list ≡ 0
  pub decided : (q : ℕ) → is_due_for_turn (standing_of world q) (sought_by world q) ≡ true → is_decided (standing_of world q) ≡ true
  pub none_refused : (q : ℕ) → is_refused (standing_of world q) ≡ false
  pub none_tells : (q : ℕ) → has_to_tell for_the_turn world q ≡ false
  pub sound : IsSound world

-- to read,
pub record ReadsBesideADrop : Type 0 where
  pub world : World
  pub party : ℕ
  pub free : is_marked world.state.turn ≡ false
  pub stands : is_outside (standing_of world party) ≡ true
  pub listed : 0 < entries_of party world.no_writer
  pub none_told : marked_count world.no_writer ≡ 0
  pub decided : (q : ℕ) → is_due_to_readers (standing_of world q) (sought_by world q) ≡ true → is_decided (standing_of world q) ≡ true
  pub none_refused : (q : ℕ) → is_refused (standing_of world q) ≡ false
  pub none_tells : (q : ℕ) → has_to_tell for_no_writer world q ≡ false
  pub sound : IsSound world

-- and to write.
pub record WritesBesideADrop : Type 0 where
  pub world : World
  pub party : ℕ
  pub free : how_many_read world ≡ 0
  pub stands : is_outside (standing_of world party) ≡ true
  pub listed : 0 < entries_of party world.no_readers
  pub none_told : marked_count world.no_readers ≡ 0
  pub none_tells : (q : ℕ) → has_to_tell for_no_readers world q ≡ false
  pub sound : IsSound world

-- A whole call is refused for too many starved parties, though there were none, and the party hasn't waited for too long.
pub record StarvedForNothing : Type 0 where
  pub whole : Whole
  pub patient : whole.inputs.starving ≡ false
  pub unstarved : how_many whole.old.state.starved ≡ 0
  pub refused : whole.answer ≡ refused Starved
  pub kept : Keeps whole

-- A call waits for the turn at its end and has told another there, while nobody is starved nor has waited for too long: so two parties wake each other for ever over what neither of them gets.
pub record WakesInARing : Type 0 where
  pub whole : Whole
  pub other : ℕ
  pub patient : whole.inputs.starving ≡ false
  pub none_starved : how_many whole.old.state.starved ≡ 0
  pub pending : whole.answer ≡ answer.Pending
  pub listed : 0 < entries_of whole.party whole.new.turn_list
  pub another : other ≢ whole.party
  pub untold : is_marked_at (is_party other) whole.old.turn_list ≡ false
  pub told : is_marked_at (is_party other) whole.new.turn_list ≡ true
  pub kept : Keeps whole

-- A party that waits for the turn and wasn't notified polls, and its call goes on: it may be refused, and lose its place.
pub record PollsUntold : Type 0 where
  pub step : Step
  pub inputs : Inputs
  pub polls : step.move.what ≡ Begin call.Poll inputs
  pub waits : standing_of step.old step.move.party ≡ outside Pending
  pub listed : 0 < entries_of step.move.party step.old.turn_list
  pub untold : is_marked_at (is_party step.move.party) step.old.turn_list ≡ false
  pub goes_on : step.answer ≡ answer.Stepped
  pub legal : IsAtOnce step

-- So does one that waits to read.
pub record PollsUntoldToRead : Type 0 where
  pub step : Step
  pub inputs : Inputs
  pub polls : step.move.what ≡ Begin call.Poll inputs
  pub waits : standing_of step.old step.move.party ≡ outside Pending
  pub listed : 0 < entries_of step.move.party step.old.no_writer
  pub untold : is_marked_at (is_party step.move.party) step.old.no_writer ≡ false
  pub goes_on : step.answer ≡ answer.Stepped
  pub legal : IsAtOnce step

-- A try to read tells another of those that wait to.
pub record TriesAndTells : Type 0 where
  pub step : Step
  pub inputs : Inputs
  pub tries : step.move.what ≡ Begin call.TryRead inputs
  pub possible : is_possible step.answer ≡ true
  pub told : 0 < marked_count step.new.no_writer
  pub none_told : marked_count step.old.no_writer ≡ 0
  pub legal : IsAtOnce step

-- A call for the turn that is to be refused, and has nothing to do with the turn any more, goes on or ends, and some other that waits for the turn is notified by nobody.
pub record RefusedSilently : Type 0 where
  pub step : Step
  pub within : Within
  pub why : ℕ
  pub refused : standing_of step.old step.move.party ≡ inside within (Some (answer.Refused why))
  pub for_turn : is_for_turn (sought_by step.old step.move.party) ≡ true
  pub without : HasTurn step.old.state.turn step.move.party → ⊥
  pub unlisted : entries_of step.move.party step.old.turn_list ≡ 0
  pub unstarved : is_starved step.old step.move.party ≡ false
  pub possible : is_possible step.answer ≡ true
  pub none_told : step.new.turn_list ≢ notified step.old.turn_list 1
  pub legal : IsAtOnce step

-- So does a read among those that wait to read.
pub record RefusedToReadSilently : Type 0 where
  pub step : Step
  pub within : Within
  pub why : ℕ
  pub refused : standing_of step.old step.move.party ≡ inside within (Some (answer.Refused why))
  pub to_read : sought_by step.old step.move.party ≡ Some read
  pub unlisted : entries_of step.move.party step.old.no_writer ≡ 0
  pub possible : is_possible step.answer ≡ true
  pub none_told : step.new.no_writer ≢ notified step.old.no_writer 1
  pub legal : IsAtOnce step

-- Steps of other parties than this one lead from one World to another.
abbrev pub Meanwhile : ℕ → List Step → World → World → Type 0
Meanwhile p [] w v = v ≡ w
Meanwhile p (s ∷ ss) w v = (s.old ≡ w) × (s.move.party ≢ p) × IsAtOnce s × Meanwhile p ss s.new v

-- The drop of the last reader is over at its first step, and the one that waits to write is told by nobody.
pub record DropsLastSilently : Type 0 where
  pub step : Step
  pub drops : is_drop step.move.what ≡ true
  pub read : reads step.old step.move.party ≡ true
  pub last : how_many_read step.new ≡ 0
  pub ended : step.answer ≢ answer.Stepped
  pub legal : IsAtOnce step

-- A step gives the turn up, and its call is over: those that wait for the turn are told by nobody.
pub record EndsWithoutTurn : Type 0 where
  pub step : Step
  pub had : HasTurn step.old.state.turn step.move.party
  pub lost : HasTurn step.new.state.turn step.move.party → ⊥
  pub ended : step.answer ≢ answer.Stepped
  pub legal : IsAtOnce step

-- A step clears the writer's bit, and its call is over: those that wait to read are told by nobody.
pub record EndsWithoutBit : Type 0 where
  pub step : Step
  pub had : HasTurn step.old.state.turn step.move.party
  pub was : is_marked step.old.state.turn ≡ true
  pub now : is_marked step.new.state.turn ≡ false
  pub ended : step.answer ≢ answer.Stepped
  pub legal : IsAtOnce step

-- A party gives the turn up, others move, and its next step tells nobody that waits for the turn, or two.
pub record ReleasesUntold : Type 0 where
  pub first : Step
  pub between : List Step
  pub next : Step
  pub had : HasTurn first.old.state.turn first.move.party
  pub lost : HasTurn first.new.state.turn first.move.party → ⊥
  pub meanwhile : Meanwhile first.move.party between first.new next.old
  pub same : next.move.party ≡ first.move.party
  pub possible : is_possible next.answer ≡ true
  pub untold : next.new.turn_list ≢ notified next.old.turn_list 1
  pub legal : IsAtOnce first
  pub legal_too : IsAtOnce next

-- The last reader goes, others move, and its call ends by a step that doesn't tell the one that waits to write.
pub record LastReaderUntold : Type 0 where
  pub first : Step
  pub between : List Step
  pub next : Step
  pub drops : is_drop first.move.what ≡ true
  pub read : reads first.old first.move.party ≡ true
  pub last : how_many_read first.new ≡ 0
  pub meanwhile : Meanwhile first.move.party between first.new next.old
  pub same : next.move.party ≡ first.move.party
  pub possible : is_possible next.answer ≡ true
  pub ended : next.answer ≢ answer.Stepped
  pub untold : next.new.no_readers ≢ notified next.old.no_readers 1
  pub legal : IsAtOnce first
  pub legal_too : IsAtOnce next

-- A notified reader polls alone, where it may read, and is refused for want of memory: it needs none.
pub record RefusedToReadUnneeded : Type 0 where
  pub whole : Whole
  pub polls : whole.call ≡ call.Poll
  pub told : IsToldToRead whole.old whole.party
  pub free : may_read whole.old ≡ true
  pub is_refused : whole.answer ≡ refused Memory
  pub kept : Keeps whole

-- A party that waits until no reader is left polls alone where none is, and is refused so.
pub record RefusedToWriteUnneeded : Type 0 where
  pub whole : Whole
  pub polls : whole.call ≡ call.Poll
  pub solo : IsSoloToWrite whole.old whole.party
  pub free : how_many_read whole.old ≡ 0
  pub is_refused : whole.answer ≡ refused Memory
  pub kept : Keeps whole

-- A party that was notified for the turn polls alone where that is free, nobody is starved and nobody reads, and is refused so: it has nobody to wait for.
pub record RefusedTurnUnneeded : Type 0 where
  pub whole : Whole
  pub polls : whole.call ≡ call.Poll
  pub was_pending : standing_of whole.old whole.party ≡ outside Pending
  pub marked : is_marked_at (is_party whole.party) whole.old.turn_list ≡ true
  pub free : whole.old.state.turn ≡ nobody
  pub below : 0 < whole.old.readers_limit
  pub none_read : how_many_read whole.old ≡ 0
  pub none_starved : how_many whole.old.state.starved ≡ 0
  pub is_refused : whole.answer ≡ refused Memory
  pub kept : Keeps whole

-- A try that needs the turn moves somebody in a list, or counts somebody as starved: so one that finds the turn taken wakes a waiter.
pub record TriesTurnAndTells : Type 0 where
  pub step : Step
  pub tries : is_try_for_turn step.move.what ≡ true
  pub possible : is_possible step.answer ≡ true
  pub tells : LeavesLists step.old step.new → ⊥
  pub legal : IsAtOnce step

-- So does the first step of a first poll that needs it.
pub record EntersTurnAndTells : Type 0 where
  pub step : Step
  pub first : is_first step.old step.move upgradable ≡ true
  pub tells : LeavesLists step.old step.new → ⊥
  pub legal : IsAtOnce step

-- The last reader stops reading at a later step of its drop, and has nobody to tell of it.
pub record StopsLastSilently : Type 0 where
  pub step : Step
  pub read : reads step.old step.move.party ≡ true
  pub last : how_many_read step.new ≡ 0
  pub unmarked : is_marked step.new.state.turn ≡ is_marked step.old.state.turn
  pub silent : has_to_tell for_no_readers step.new step.move.party ≡ false
  pub legal : IsAtOnce step

-- A plain read is counted as starved for the turn, so that a try finds that nobody may have it.
pub record ReadStarves : Type 0 where
  pub step : Step
  pub reader : sought_by step.old step.move.party ≡ Some read
  pub legal : IsLegal step
  pub counts : legal.one_change.effect ≡ changes starves

-- Another reader than the moving party loses its right, as where an upgrade clears the number of readers.
pub record ReaderLost : Type 0 where
  pub step : Step
  pub reader : ℕ
  pub another : reader ≢ step.move.party
  pub read : reads step.old reader ≡ true
  pub lost : reads step.new reader ≡ false
  pub legal : IsLegal step

-- ---- Whoever has waited for too long for the turn

-- A first poll for the turn is refused for too many starved parties, though there were none.
pub record StarvedUnwaited : Type 0 where
  pub whole : Whole
  pub first : IsFirstForTurn whole.old whole.party whole.call whole.inputs
  pub none_starved : how_many whole.old.state.starved ≡ 0
  pub is_refused : whole.answer ≡ refused Starved
  pub kept : Keeps whole

-- Or it ends starved, though it hasn't waited.
pub record CountsUnwaited : Type 0 where
  pub whole : Whole
  pub first : IsFirstForTurn whole.old whole.party whole.call whole.inputs
  pub none_starved : how_many whole.old.state.starved ≡ 0
  pub starved : is_starved whole.new whole.party ≡ true
  pub kept : Keeps whole

-- A newcomer's first poll is ready while another is starved, whatever it counted itself as on the way.
pub record OvertakesStarved : Type 0 where
  pub whole : Whole
  pub first : IsFirstForTurn whole.old whole.party whole.call whole.inputs
  pub some_starved : 0 < how_many whole.old.state.starved
  pub got : Got
  pub ready : whole.answer ≡ answer.Ready got
  pub kept : Keeps whole

-- Or some other call that nobody told of the turn gets it then.
pub record TakesTurnUntold : Type 0 where
  pub whole : Whole
  pub some_starved : 0 < how_many whole.old.state.starved
  pub without : HasTurn whole.old.state.turn whole.party → ⊥
  pub untold : whole.call ≡ call.Poll → (standing_of whole.old whole.party ≡ outside Pending) × (is_marked_at (is_party whole.party) whole.old.turn_list ≡ true) → ⊥
  pub takes : HasTurn whole.new.state.turn whole.party
  pub kept : Keeps whole

-- At rest a notified party that isn't starved takes the turn before a starved one.
pub record TakesTurnBeforeStarved : Type 0 where
  pub whole : Whole
  pub polls : whole.call ≡ call.Poll
  pub solo : IsSoloForTurn whole.old whole.party whole.inputs
  pub free : whole.old.state.turn ≡ nobody
  pub at_rest : is_at_rest whole.old ≡ true
  pub patient : is_starved whole.old whole.party ≡ false
  pub some_starved : 0 < how_many whole.old.state.starved
  pub unrefused : is_refusal whole.answer ≡ false
  pub takes : HasTurn whole.new.state.turn whole.party
  pub kept : Keeps whole

-- A notified party that has waited for too long finds the turn taken, and room for one more starved party, and it isn't counted as one: newcomers may overtake it for ever.
pub record NeverStarved : Type 0 where
  pub whole : Whole
  pub polls : whole.call ≡ call.Poll
  pub solo : IsSoloForTurn whole.old whole.party whole.inputs
  pub long : whole.inputs.starving ≡ true
  pub room : how_many whole.old.state.starved < whole.old.starved_limit
  pub taken : whole.old.state.turn ≢ nobody
  pub patient : is_starved whole.new whole.party ≡ false
  pub kept : Keeps whole

-- A party that gives up its wait for the turn has left the list, and is counted as starved still.
pub record LeavesCounted : Type 0 where
  pub step : Step
  pub party : ℕ
  pub within : Within
  pub gives_back : standing_of step.new party ≡ inside within (Some answer.GivenBack)
  pub unlisted : entries_of party step.new.turn_list ≡ 0
  pub starved : is_starved step.new party ≡ true
  pub legal : IsLegal step

-- The drop of a future goes on that waits for the turn and isn't starved, or that waits to read, so that what it was told reaches nobody for some steps.
pub record DropDawdles : Type 0 where
  pub step : Step
  pub drops : is_drop step.move.what ≡ true
  pub pending : standing_of step.old step.move.party ≡ outside Pending
  pub listed : 0 < entries_of step.move.party step.old.turn_list
  pub unstarved : is_starved step.old step.move.party ≡ false
  pub goes_on : step.answer ≡ answer.Stepped
  pub legal : IsAtOnce step

pub record ReadersDropDawdles : Type 0 where
  pub step : Step
  pub drops : is_drop step.move.what ≡ true
  pub pending : standing_of step.old step.move.party ≡ outside Pending
  pub listed : 0 < entries_of step.move.party step.old.no_writer
  pub goes_on : step.answer ≡ answer.Stepped
  pub legal : IsAtOnce step

-- The drop of a future that stands in no list, and is no upgrade's, goes on.
pub record UnlistedDropDawdles : Type 0 where
  pub step : Step
  pub drops : is_drop step.move.what ≡ true
  pub pending : standing_of step.old step.move.party ≡ outside Pending
  pub unlisted : entries_in step.old step.move.party ≡ 0
  pub plain : is_upgrader step.old step.move.party ≡ false
  pub goes_on : step.answer ≡ answer.Stepped
  pub legal : IsAtOnce step

-- It notifies one of those that wait for the turn, whom it has nothing to tell.
pub record UnlistedDropTells : Type 0 where
  pub step : Step
  pub drops : is_drop step.move.what ≡ true
  pub pending : standing_of step.old step.move.party ≡ outside Pending
  pub unlisted : entries_in step.old step.move.party ≡ 0
  pub plain : is_upgrader step.old step.move.party ≡ false
  pub tells : marked_count step.old.turn_list < marked_count step.new.turn_list
  pub legal : IsAtOnce step

-- A starved write that is told of the free turn doesn't take it, however many read.
pub record WritePassesOver : Type 0 where
  pub whole : Whole
  pub polls : whole.call ≡ call.Poll
  pub solo : IsSoloForTurn whole.old whole.party whole.inputs
  pub writes : sought_by whole.old whole.party ≡ Some write
  pub free : whole.old.state.turn ≡ nobody
  pub starved : is_starved whole.old whole.party ≡ true
  pub without : HasTurn whole.new.state.turn whole.party → ⊥
  pub kept : Keeps whole

-- Two parties are told at once in one list, of one turn or of one right to write.
pub record TwoTold : Type 0 where
  pub world : World
  pub list : ListName
  pub two : 1 < marked_count (list_of world list)
  pub sound : IsSound world

-- A party that is starved for the turn, with one entry before its own, is overtaken twice by whole calls of others.
pub record OvertakenTwice : Type 0 where
  pub party : ℕ
  pub calls : ℕ
  pub old : World
  pub new : World
  pub one_before : before party old.turn_list ≡ 1
  pub overtaken : overtaking.Overtaken IsWholeCall (λ w. w.turn_list) is_starved HasItsTurn party calls 2 old new
  pub seldom : IsOvertakenSeldom old

-- One that stands first in the list, while nobody is inside a call, is overtaken by steps of others, in whatever order they come.
pub record OvertakenInTheMidst : Type 0 where
  pub party : ℕ
  pub steps : ℕ
  pub old : World
  pub new : World
  pub first : before party old.turn_list ≡ 0
  pub idle : how_many_inside old.standings ≡ 0
  pub overtaken : overtaking.OvertakenInSteps Steps (λ w. w.turn_list) is_starved HasItsTurn (λ w. w.standings) party steps 1 old new
  pub seldom : IsOvertakenSeldomInSteps old

-- A call that is decided, as that of a guard's drop that has given its right back, goes on after four further steps of its own, whatever others did in between.
pub record EndsLate : Type 0 where
  pub party : ℕ
  pub steps : ℕ
  pub old : World
  pub new : World
  pub decided : is_decided (standing_of old party) ≡ true
  pub goes_on : GoesOnFor Steps standing_of party steps 4 old new
  pub soon : EndsSoon old

-- Nobody writes or waits to write, and two notified readers poll in turn, below the readers' limit; and only one more reads then.
pub record ReadersLeftOut : Type 0 where
  pub old : World
  pub new : World
  pub at_rest : is_at_rest old ≡ true
  pub unmarked : is_marked old.state.turn ≡ false
  pub below : how_many_read old + 2 ≤ old.readers_limit
  pub polled : PolledInTurn PollsToRead 2 old new
  pub read : how_many_read new ≡ how_many_read old + 1
  pub lets_in : is_at_rest old ≡ true → LetsReadersIn old

-- Or one of them polls, others wait to read still, and nobody there is told.
pub record NoNextReader : Type 0 where
  pub old : World
  pub new : World
  pub at_rest : is_at_rest old ≡ true
  pub unmarked : is_marked old.state.turn ≡ false
  pub below : how_many_read old + 1 ≤ old.readers_limit
  pub polled : PolledInTurn PollsToRead 1 old new
  pub some : 0 < length new.no_writer
  pub none_told : (p : ℕ) → is_marked_at (is_party p) new.no_writer ≡ false
  pub lets_in : is_at_rest old ≡ true → LetsReadersIn old

-- A party comes to have to tell those that wait for the turn, and hasn't given it up: so each drop of a reader would wake one of them.
pub record OwesNoTurn : Type 0 where
  pub step : Step
  pub had : has_to_tell for_the_turn step.old step.move.party ≡ false
  pub has : has_to_tell for_the_turn step.new step.move.party ≡ true
  pub without : HasTurn step.old.state.turn step.move.party → ⊥
  pub legal : IsAtOnce step

-- Or those that wait to read, beside a writer or one that waits to write.
pub record OwesNoBit : Type 0 where
  pub step : Step
  pub had : has_to_tell for_no_writer step.old step.move.party ≡ false
  pub has : has_to_tell for_no_writer step.new step.move.party ≡ true
  pub marked : is_marked step.new.state.turn ≡ true
  pub legal : IsAtOnce step

-- As many read as may, nobody writes or waits to write, and a notified reader waits again: so two of them wake each other for ever.
pub record WaitsAtTheLimit : Type 0 where
  pub whole : Whole
  pub polls : whole.call ≡ call.Poll
  pub told : IsToldToRead whole.old whole.party
  pub unmarked : is_marked whole.old.state.turn ≡ false
  pub full : whole.old.readers_limit ≤ how_many_read whole.old
  pub unrefused : whole.answer ≢ refused Readers
  pub kept : Keeps whole

-- So does the first poll of a read, and may join the list.
pub record JoinsAtTheLimit : Type 0 where
  pub step : Step
  pub first : is_first step.old step.move read ≡ true
  pub unmarked : is_marked step.old.state.turn ≡ false
  pub full : step.old.readers_limit ≤ how_many_read step.old
  pub unrefused : step.answer ≢ refused Readers
  pub legal : IsAtOnce step

-- A party that was outside every call is counted as starved for the turn, though its clock said nothing, and nobody was starved where it stepped.
pub record StarvedUnasked : Type 0 where
  pub party : ℕ
  pub steps : ℕ
  pub old : World
  pub new : World
  pub outside : is_outside (standing_of old party) ≡ true
  pub plain : is_starved old party ≡ false
  pub in_peace : StepsInPeace Steps standing_of (λ w. w.state.starved) party steps old new
  pub starved : is_starved new party ≡ true
  pub cause : StarvesForCause old

-- Or it is refused so, as one too many of the starved, by one more such step.
pub record RefusedUnasked : Type 0 where
  pub party : ℕ
  pub steps : ℕ
  pub old : World
  pub mid : World
  pub move : Move
  pub new : World
  pub outside : is_outside (standing_of old party) ≡ true
  pub plain : is_starved old party ≡ false
  pub in_peace : StepsInPeace Steps standing_of (λ w. w.state.starved) party steps old mid
  pub own : move.party ≡ party
  pub last : IsInPeace Steps standing_of (λ w. w.state.starved) party mid move
  pub refused : Steps mid move (refused Starved) new
  pub cause : StarvesForCause old
