-- What a party at a place has and owes, each as 1 or 0, so that sums over the parties count them.
use Rattle.std.specs.Prelude.{ℕ, ◌+◌, Bool, true, false}
use Rattle.world_base.specs.queue.Debts.{Roles}
pub use Rattle.world_mutex.specs.machine.Course.{bit}
use Rattle.world_mutex.specs.machine.Course.{Course as TurnCourse, is_out, is_holding, is_taking, is_waiting, is_releasing, is_cancelling}
use Rattle.sync_program.specs.declared.rwlock.Ending.TheVariants as ending
use Rattle.sync_program.specs.declared.rwlock.Place.{Place}
use Rattle.sync_program.specs.declared.rwlock.Place.TheVariants.{Out, Made, Reading, Upgradable, Writing, LookNoWriter, AskNoWriter, PassOn, LeaveNoWriter, RefuseLeave, RefuseNotify, CancelRead, WaitTurn, TakeTurn, CancelTurn, CancellingTurn, ReleaseTurn, ReleasingTurn, Add, TryUpgrade, Upgrade, Mark, TryWrite, JoinNoReaders, LookNoReaders, AskNoReaders, AwaitNoReaders, LookUnlisted, LeaveNoReaders, DropRead, DropReadNotify, DropUpgradable, DropUpgradableNotify, DropWrite, CancelAwait, Unmark, UnmarkNotify, Down, DownNotify, DowngradeNotify}

-- it is counted among the readers
abbrev pub reads : Place → ℕ
reads Reading = 1
reads Upgradable = 1
reads LeaveNoWriter = 1
reads TryUpgrade = 1
reads Upgrade = 1
reads DropRead = 1
reads DropUpgradable = 1
reads (ReleaseTurn ending.Reading) = 1
reads (ReleaseTurn ending.NotifyReaders) = 1
reads (ReleasingTurn ending.Reading) = 1
reads (ReleasingTurn ending.NotifyReaders) = 1
reads DownNotify = 1
reads DowngradeNotify = 1
reads _ = 0

-- it has the turn, and the bit stands for it: it waits to write, or writes
abbrev pub marks : Place → ℕ
marks (JoinNoReaders upgrade) = 1
marks (LookNoReaders upgrade) = 1
marks (AskNoReaders upgrade) = 1
marks (AwaitNoReaders upgrade) = 1
marks (LookUnlisted upgrade) = 1
marks LeaveNoReaders = 1
marks Writing = 1
marks DropWrite = 1
marks CancelAwait = 1
marks (Unmark refused) = 1
marks (Down keeps) = 1
marks _ = 0

-- it has the turn, and the bit doesn't stand for it
abbrev pub only_turns : Place → ℕ
only_turns (ReleaseTurn e) = 1
only_turns (Add trying) = 1
only_turns Upgradable = 1
only_turns TryUpgrade = 1
only_turns Upgrade = 1
only_turns Mark = 1
only_turns TryWrite = 1
only_turns DropUpgradable = 1
only_turns DropUpgradableNotify = 1
only_turns (UnmarkNotify refused) = 1
only_turns DownNotify = 1
only_turns _ = 0

-- it has the turn, whether the bit stands for it or not
abbrev pub has_turn : Place → ℕ
has_turn p = only_turns p + marks p

-- it writes, or has found that it may
abbrev pub writes : Place → ℕ
writes Writing = 1
writes LeaveNoReaders = 1
writes DropWrite = 1
writes (Down keeps) = 1
writes _ = 0

-- it stands in the list of those that wait for no writer
abbrev pub in_no_writer : Place → ℕ
in_no_writer (LookNoWriter told) = 1
in_no_writer AskNoWriter = 1
in_no_writer LeaveNoWriter = 1
in_no_writer (RefuseLeave told) = 1
in_no_writer CancelRead = 1
in_no_writer _ = 0

-- and has looked at the word since it joined
abbrev pub waits_no_writer : Place → ℕ
waits_no_writer AskNoWriter = 1
waits_no_writer CancelRead = 1
waits_no_writer _ = 0

-- its program still has to notify there
abbrev pub owes_no_writer : Place → ℕ
owes_no_writer PassOn = 1
owes_no_writer (RefuseNotify refusal) = 1
owes_no_writer (ReleaseTurn ending.NotifyReaders) = 1
owes_no_writer (ReleasingTurn ending.NotifyReaders) = 1
owes_no_writer (UnmarkNotify refused) = 1
owes_no_writer DownNotify = 1
owes_no_writer DowngradeNotify = 1
owes_no_writer _ = 0

-- it stands in the list of those that wait for no readers
abbrev pub in_no_readers : Place → ℕ
in_no_readers (LookNoReaders upgrade) = 1
in_no_readers (AskNoReaders upgrade) = 1
in_no_readers (AwaitNoReaders upgrade) = 1
in_no_readers LeaveNoReaders = 1
in_no_readers CancelAwait = 1
in_no_readers _ = 0

-- and has looked at the word since it joined
abbrev pub waits_no_readers : Place → ℕ
waits_no_readers (AskNoReaders upgrade) = 1
waits_no_readers (AwaitNoReaders upgrade) = 1
waits_no_readers CancelAwait = 1
waits_no_readers _ = 0

-- its program still has to notify there
abbrev pub owes_no_readers : Place → ℕ
owes_no_readers DropReadNotify = 1
owes_no_readers DropUpgradableNotify = 1
owes_no_readers _ = 0

-- the roles on the two lists
abbrev pub for_no_writer : Roles Place
for_no_writer = record { listed = in_no_writer; waits = waits_no_writer; owes = owes_no_writer }

abbrev pub for_no_readers : Roles Place
for_no_readers = record { listed = in_no_readers; waits = waits_no_readers; owes = owes_no_readers }

-- how a party that stands here stands in the turn's mutex
abbrev pub fits_turn : Place → TurnCourse → Bool
fits_turn (WaitTurn p) t = is_waiting t
fits_turn (TakeTurn p) t = is_taking t
fits_turn CancelTurn t = is_waiting t
fits_turn CancellingTurn t = is_cancelling t
fits_turn (ReleaseTurn e) t = is_holding t
fits_turn (ReleasingTurn e) t = is_releasing t
fits_turn (Add trying) t = is_holding t
fits_turn Upgradable t = is_holding t
fits_turn TryUpgrade t = is_holding t
fits_turn Upgrade t = is_holding t
fits_turn Mark t = is_holding t
fits_turn TryWrite t = is_holding t
fits_turn (JoinNoReaders upgrade) t = is_holding t
fits_turn (LookNoReaders upgrade) t = is_holding t
fits_turn (AskNoReaders upgrade) t = is_holding t
fits_turn (AwaitNoReaders upgrade) t = is_holding t
fits_turn (LookUnlisted upgrade) t = is_holding t
fits_turn LeaveNoReaders t = is_holding t
fits_turn Writing t = is_holding t
fits_turn DropUpgradable t = is_holding t
fits_turn DropUpgradableNotify t = is_holding t
fits_turn DropWrite t = is_holding t
fits_turn CancelAwait t = is_holding t
fits_turn (Unmark refused) t = is_holding t
fits_turn (UnmarkNotify refused) t = is_holding t
fits_turn (Down keeps) t = is_holding t
fits_turn DownNotify t = is_holding t
fits_turn _ t = is_out t

-- it is inside no program
abbrev pub is_resting : Place → Bool
is_resting Out = true
is_resting (Made wanted) = true
is_resting Reading = true
is_resting Upgradable = true
is_resting Writing = true
is_resting AskNoWriter = true
is_resting (WaitTurn purpose) = true
is_resting (AwaitNoReaders upgrade) = true
is_resting (LookUnlisted true) = true
is_resting _ = false
