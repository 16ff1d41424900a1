-- Calls of a read-write lock that no user would accept: what they take, and how they end. Each record is one wrong run: what its step would be, if it were legal.
use Rattle.std.specs.Prelude.{◌≡◌, ◌≢◌, ℕ, ◌<◌, true, false, [], length, Some, None}
use Rattle.lock_event.specs.Lists.{marked_count}
use Rattle.world_base.specs.queue.Parties.{entries_of}
use Rattle.world_base.specs.declared.moves.Answer.{Answer}
use Rattle.world_base.specs.declared.moves.Answer.TheVariants as answer
use Rattle.world_base.specs.declared.moves.Call.{Call}
use Rattle.world_base.specs.declared.moves.Call.TheVariants as call
use Rattle.world_base.specs.declared.moves.Inputs.{Inputs}
use Rattle.world_base.specs.declared.moves.Move.{Move}
use Rattle.world_base.specs.declared.moves.What.TheVariants.{Begin, Go}
use Rattle.lock_program.specs.declared.refusal.Refusal.TheVariants.{Memory, Readers, Starved}
use Rattle.world_base.specs.declared.standing.Kind.TheVariants.{Downgrade, Drop}
use Rattle.world_base.specs.declared.standing.Rest.{Rest}
use Rattle.world_base.specs.declared.standing.Rest.TheVariants.{Pending, Holding}
use Rattle.world_base.specs.declared.standing.Within.{Within}
use Rattle.world_base.specs.Frame.{is_refusal}
use Rattle.world_base.specs.Rights.{Right, read, upgradable, write}
use Rattle.world_base.specs.Standings.{outside, inside, decision, is_possible, refused}
use Rattle.world_base.specs.Rosters.{how_many}
use Rattle.world_rwlock.specs.Bound.{IsSoloForTurn, IsToldToRead, IsSoloToWrite, Promises}
use Rattle.world_rwlock.specs.Legal.{DecidesOn, list_for, may_read, is_first, IsTryWithTurn, Legal, AnswersAtOnce}
use Rattle.world_rwlock.specs.State.{ListName, list_of, nobody, passes, waits_to_write, is_marked, HasTurn, is_turn_free, World, standing_of, sought_by, reads, how_many_read, told_in, is_starved, is_upgrader}
use Rattle.world_base.specs.Standings.{may_end}
use Rattle.world_rwlock.specs.Legal.{is_try_for_turn}
use Rattle.world_base.specs.Steps.{changes}
use Rattle.world_base.specs.Overtaking.{before}
use Rattle.lock_event.specs.Lists.{notified}

-- A move of a party, and what it leads to.
pub record Step : Type 0 where
  pub old : World
  pub move : Move
  pub answer : Answer
  pub new : World

abbrev pub IsLegal : Step → Type 0
IsLegal s = Legal s.old s.move s.answer s.new

abbrev pub IsAtOnce : Step → Type 0
IsAtOnce s = AnswersAtOnce s.old s.move s.answer s.new

-- A whole call, and where it ends.
pub record Whole : Type 0 where
  pub old : World
  pub party : ℕ
  pub call : Call
  pub inputs : Inputs
  pub answer : Answer
  pub new : World

abbrev pub Keeps : Whole → Type 0
Keeps c = Promises c.old c.party c.call c.inputs c.answer c.new

-- It is the first poll of a future for this right.
abbrev pub IsFirst : Whole → Right → Type 0
IsFirst c r = is_first c.old (record { party = c.party; what = Begin c.call c.inputs }) r ≡ true

-- A try to read is answered None though it may read.
pub record TriesInVain : Type 0 where
  pub step : Step
  pub inputs : Inputs
  pub tries : step.move.what ≡ Begin call.TryRead inputs
  pub free : may_read step.old ≡ true
  pub none : step.answer ≡ answer.None
  pub legal : IsAtOnce step

-- A first poll of a read that may begin is pending.
pub record ReadsUnready : Type 0 where
  pub step : Step
  pub first : is_first step.old step.move read ≡ true
  pub free : may_read step.old ≡ true
  pub pending : step.answer ≡ answer.Pending
  pub legal : IsAtOnce step

-- A party is answered Pending and doesn't stand in the list of what it wants: nobody will ever wake it.
pub record WaitsUnlisted : Type 0 where
  pub step : Step
  pub pending : step.answer ≡ answer.Pending
  pub unlisted : told_in (list_for (sought_by step.new step.move.party) step.new.state.turn step.move.party step.new) step.move.party ≡ None
  pub legal : IsLegal step

-- A party's call is decided on Pending while it goes on, so that it may leave its list before it ends.
pub record PendsTooEarly : Type 0 where
  pub step : Step
  pub within : Within
  pub decided : standing_of step.new step.move.party ≡ inside within (Some answer.Pending)
  pub legal : IsLegal step

-- A call is refused for memory at its first step, which is no join.
pub record RefusedAtFirst : Type 0 where
  pub step : Step
  pub rest : Rest
  pub begins : standing_of step.old step.move.party ≡ outside rest
  pub refused : DecidesOn step.old step.move step.answer step.new (refused Memory)
  pub legal : IsLegal step

-- A step changes who has the turn, and decides that its call is refused for memory.
pub record RefusedHavingMoved : Type 0 where
  pub step : Step
  pub moved : step.new.state.turn ≢ step.old.state.turn
  pub refused : DecidesOn step.old step.move step.answer step.new (refused Memory)
  pub legal : IsLegal step

-- A pending read holds the writer's bit and the turn.
pub record ReadsWithTheBit : Type 0 where
  pub step : Step
  pub pending : standing_of step.new step.move.party ≡ outside Pending
  pub seeks : sought_by step.new step.move.party ≡ Some read
  pub waits : step.new.state.turn ≡ waits_to_write step.move.party
  pub legal : IsLegal step

-- A party takes the turn, and leaves it in a call that isn't decided.
pub record LetsGoUndecided : Type 0 where
  pub step : Step
  pub within : Within
  pub inputs : Inputs
  pub undecided : standing_of step.old step.move.party ≡ inside within None
  pub goes : step.move.what ≡ Go inputs
  pub had : step.old.state.turn ≡ passes step.move.party
  pub left : step.new.state.turn ≡ nobody
  pub legal : IsLegal step

-- A party that waits to write clears the writer's bit in a call that isn't decided, so that readers come in, and it is to wait anew.
pub record UnmarksUndecided : Type 0 where
  pub step : Step
  pub within : Within
  pub inputs : Inputs
  pub undecided : standing_of step.old step.move.party ≡ inside within None
  pub goes : step.move.what ≡ Go inputs
  pub had : step.old.state.turn ≡ waits_to_write step.move.party
  pub cleared : is_marked step.new.state.turn ≡ false
  pub legal : IsLegal step

-- A party stops reading in a call that isn't decided, and not to write.
pub record StopsReadingUndecided : Type 0 where
  pub step : Step
  pub within : Within
  pub inputs : Inputs
  pub undecided : standing_of step.old step.move.party ≡ inside within None
  pub goes : step.move.what ≡ Go inputs
  pub had : reads step.old step.move.party ≡ true
  pub stopped : reads step.new step.move.party ≡ false
  pub unmarked : is_marked step.new.state.turn ≡ false
  pub legal : IsLegal step

-- A downgrade begins undecided: its party neither reads nor writes then, others come in, and it may meet the limit of the readers.
pub record DowngradesUndecided : Type 0 where
  pub step : Step
  pub within : Within
  pub undecided : standing_of step.new step.move.party ≡ inside within None
  pub kind : within.kind ≡ Downgrade
  pub legal : IsLegal step

-- A drop begins undecided, so that it may take something again before it ends.
pub record DropsUndecided : Type 0 where
  pub step : Step
  pub within : Within
  pub undecided : standing_of step.new step.move.party ≡ inside within None
  pub kind : within.kind ≡ Drop
  pub legal : IsLegal step

-- A downgrade frees the lock and takes it again as a reader, so that another writer comes between.
pub record DowngradesThroughNothing : Type 0 where
  pub step : Step
  pub within : Within
  pub to_come : Answer
  pub downgrades : standing_of step.new step.move.party ≡ inside within (Some to_come)
  pub kind : within.kind ≡ Downgrade
  pub reads_not : reads step.new step.move.party ≡ false
  pub legal : IsLegal step

-- A party without a pending future, with a guard or idle, is told to be an upgrade's, so that a later refusal would leave it the turn.
pub record OtherIsUpgrade : Type 0 where
  pub step : Step
  pub rest : Rest
  pub stands : standing_of step.new step.move.party ≡ outside rest
  pub not_pending : rest ≢ Pending
  pub upgrade : is_upgrader step.new step.move.party ≡ true
  pub legal : IsLegal step

-- A party that has nothing and asks for nothing has the turn: it writes, say, or waits to, and nobody else can.
pub record IdleHasTurn : Type 0 where
  pub step : Step
  pub rest : Rest
  pub stands : standing_of step.new step.move.party ≡ outside rest
  pub not_pending : rest ≢ Pending
  pub not_holding : rest ≢ Holding
  pub has_turn : HasTurn step.new.state.turn step.move.party
  pub legal : IsLegal step

-- A try to write that has the turn and finds a reader goes on, to be granted later.
pub record TriesOn : Type 0 where
  pub step : Step
  pub tries : IsTryWithTurn step.old step.move write
  pub goes : is_possible step.answer ≡ true
  pub undecided : decision step.answer (standing_of step.new step.move.party) ≡ None
  pub legal : IsAtOnce step

-- A write is refused because readers are at their limit.
pub record WriteMeetsReaders : Type 0 where
  pub step : Step
  pub seeks : sought_by step.new step.move.party ≡ Some write
  pub refused : DecidesOn step.old step.move step.answer step.new (refused Readers)
  pub legal : IsLegal step

-- A read is refused because the starved are at theirs.
pub record ReadMeetsStarved : Type 0 where
  pub step : Step
  pub seeks : sought_by step.new step.move.party ≡ Some read
  pub refused : DecidesOn step.old step.move step.answer step.new (refused Starved)
  pub legal : IsLegal step

-- A party that has just taken the turn is refused for memory, though it hasn't looked yet whether it has to join.
pub record LacksMemoryWithTurn : Type 0 where
  pub step : Step
  pub passes : step.old.state.turn ≡ passes step.move.party
  pub refused : DecidesOn step.old step.move step.answer step.new (refused Memory)
  pub legal : IsLegal step

-- A read is refused because readers are at their limit, beside a writer, for which it only has to wait.
pub record ReadMeetsReadersBesideWriter : Type 0 where
  pub step : Step
  pub seeks : sought_by step.new step.move.party ≡ Some read
  pub writer : is_marked step.old.state.turn ≡ true
  pub refused : DecidesOn step.old step.move step.answer step.new (refused Readers)
  pub legal : IsLegal step

-- An upgradable read that hasn't the turn is refused because readers are at their limit: it is to wait for the turn, and they may be fewer by then.
pub record MeetsReadersWithoutTurn : Type 0 where
  pub step : Step
  pub seeks : sought_by step.new step.move.party ≡ Some upgradable
  pub without : HasTurn step.old.state.turn step.move.party → ⊥
  pub refused : DecidesOn step.old step.move step.answer step.new (refused Readers)
  pub legal : IsLegal step

-- A party that has the turn is refused because the starved are at their limit: a write, say, that only has to wait until no reader is left.
pub record MeetsStarvedWithTurn : Type 0 where
  pub step : Step
  pub has_turn : HasTurn step.old.state.turn step.move.party
  pub refused : DecidesOn step.old step.move step.answer step.new (refused Starved)
  pub legal : IsLegal step

-- A notified party polls alone, where the turn is free, nobody is starved and readers are below their limit, and hasn't the turn then: so it may do for ever, or two parties tell each other in turn.
pub record PassesTurnInVain : Type 0 where
  pub whole : Whole
  pub polls : whole.call ≡ call.Poll
  pub solo : IsSoloForTurn whole.old whole.party whole.inputs
  pub free : whole.old.state.turn ≡ nobody
  pub below : how_many_read whole.old < whole.old.readers_limit
  pub unstarved : how_many whole.old.state.starved ≡ 0
  pub not_taken : HasTurn whole.new.state.turn whole.party → ⊥
  pub kept : Keeps whole

-- A notified reader polls alone, where it may read, and waits again.
pub record PassesReadingInVain : Type 0 where
  pub whole : Whole
  pub polls : whole.call ≡ call.Poll
  pub told : IsToldToRead whole.old whole.party
  pub free : may_read whole.old ≡ true
  pub pending : whole.answer ≡ answer.Pending
  pub kept : Keeps whole

-- A party that waits until no reader is left polls alone where none is, and waits again.
pub record PassesWritingInVain : Type 0 where
  pub whole : Whole
  pub polls : whole.call ≡ call.Poll
  pub solo : IsSoloToWrite whole.old whole.party
  pub free : how_many_read whole.old ≡ 0
  pub pending : whole.answer ≡ answer.Pending
  pub kept : Keeps whole

-- An upgrade polls alone where no reader is left, for the first time say, and waits.
pub record UpgradeWaitsForNobody : Type 0 where
  pub whole : Whole
  pub polls : whole.call ≡ call.Poll
  pub was_pending : standing_of whole.old whole.party ≡ outside Pending
  pub upgrade : is_upgrader whole.old whole.party ≡ true
  pub free : how_many_read whole.old ≡ 0
  pub pending : whole.answer ≡ answer.Pending
  pub kept : Keeps whole

-- A first poll of an upgradable read, whole, isn't ready though the turn is free and readers are below their limit.
pub record UpgradableUnready : Type 0 where
  pub whole : Whole
  pub first : IsFirst whole upgradable
  pub free : is_turn_free whole.old.state ≡ true
  pub below : how_many_read whole.old < whole.old.readers_limit
  pub pending : whole.answer ≡ answer.Pending
  pub kept : Keeps whole

-- Nor one of a write, though the turn is free and nobody reads.
pub record WriteUnready : Type 0 where
  pub whole : Whole
  pub first : IsFirst whole write
  pub new_write : is_upgrader whole.old whole.party ≡ false
  pub free : is_turn_free whole.old.state ≡ true
  pub alone : how_many_read whole.old ≡ 0
  pub pending : whole.answer ≡ answer.Pending
  pub kept : Keeps whole

-- A party is counted as starved for the turn, though nobody was and it hasn't waited for too long.
pub record StarvesUnasked : Type 0 where
  pub whole : Whole
  pub patient : whole.inputs.starving ≡ false
  pub unstarved : how_many whole.old.state.starved ≡ 0
  pub starved : is_starved whole.new whole.party ≡ true
  pub kept : Keeps whole

-- A listed party's poll is refused, and nobody else in its list is told: what it was told is lost.
pub record KeepsItsTold : Type 0 where
  pub list : ListName
  pub whole : Whole
  pub polls : whole.call ≡ call.Poll
  pub pending : standing_of whole.old whole.party ≡ outside Pending
  pub listed : 0 < entries_of whole.party (list_of whole.old list)
  pub refused : is_refusal whole.answer ≡ true
  pub some : 0 < length (list_of whole.new list)
  pub none_told : marked_count (list_of whole.new list) ≡ 0
  pub kept : Keeps whole

-- A try to write, or to read upgradably, takes the free turn and is decided on None by the same step, whatever it would find.
pub record TriesTurnInVain : Type 0 where
  pub step : Step
  pub tries : is_try_for_turn step.move.what ≡ true
  pub possible : is_possible step.answer ≡ true
  pub free : is_turn_free step.old.state ≡ true
  pub none : decision step.answer (standing_of step.new step.move.party) ≡ Some answer.None
  pub legal : IsAtOnce step

-- A step takes the turn, and decides that its call is refused for too many starved parties.
pub record StarvedHavingTaken : Type 0 where
  pub step : Step
  pub took : step.new.state.turn ≢ step.old.state.turn
  pub refused : DecidesOn step.old step.move step.answer step.new (refused Starved)
  pub legal : IsLegal step

-- A party is refused for too many starved parties of which it is one.
pub record StarvedTwice : Type 0 where
  pub step : Step
  pub starved : is_starved step.old step.move.party ≡ true
  pub refused : DecidesOn step.old step.move step.answer step.new (refused Starved)
  pub legal : IsLegal step

-- So is a call at its first step, which counts nobody.
pub record StarvedAtFirst : Type 0 where
  pub step : Step
  pub rest : Rest
  pub begins : standing_of step.old step.move.party ≡ outside rest
  pub refused : DecidesOn step.old step.move step.answer step.new (refused Starved)
  pub legal : IsLegal step

-- A call is decided on an answer with which it never ends, as a read on being granted.
pub record DecidesInVain : Type 0 where
  pub step : Step
  pub party : ℕ
  pub within : Within
  pub by : Answer
  pub decided : standing_of step.new party ≡ inside within (Some by)
  pub never : may_end within.kind by ≡ false
  pub legal : IsLegal step
