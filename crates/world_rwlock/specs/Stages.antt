-- At which places of a read-write lock's programs a party may stand at each stage, and what it seeks there.
use Rattle.std.specs.Prelude.{◌&&◌, Bool, true, false, Option, Some, None}
use Rattle.lock_program.specs.declared.refusal.Refusal.{Refusal}
use Rattle.lock_program.specs.declared.refusal.Refusal.TheVariants as refusal
use Rattle.world_base.specs.declared.standing.Kind.{Kind}
use Rattle.world_base.specs.declared.standing.Kind.TheVariants as kind
use Rattle.world_base.specs.declared.standing.Rest.{Rest}
use Rattle.world_base.specs.declared.standing.Rest.TheVariants.{Idle, Pending, Holding, Finished}
use Rattle.world_base.specs.declared.standing.Stage.{Stage}
use Rattle.world_base.specs.declared.standing.Stage.TheVariants.{Outside, Inside, Forgotten}
use Rattle.world_base.specs.Rights.{Right, read, upgradable, write}
use Rattle.sync_program.specs.declared.rwlock.Wanted.TheVariants as wanted
use Rattle.sync_program.specs.declared.rwlock.Purpose.{Purpose}
use Rattle.sync_program.specs.declared.rwlock.Purpose.TheVariants as purpose
use Rattle.sync_program.specs.declared.rwlock.Ending.{Ending}
use Rattle.sync_program.specs.declared.rwlock.Ending.TheVariants as ending
use Rattle.sync_program.specs.declared.rwlock.Place.{Place}
use Rattle.sync_program.specs.declared.rwlock.Place.TheVariants as place
use Rattle.world_rwlock.specs.machine.Roles.{is_resting}

-- ---- What is sought

abbrev pub right_for : Purpose → Right
right_for purpose.UpgradableRead = upgradable
right_for purpose.Write = write

-- by how a release of the turn ends
abbrev pub sought_until : Ending → Option Right
sought_until ending.GivenBack = None
sought_until (ending.NotFree p) = Some (right_for p)
sought_until ending.RefuseReaders = Some upgradable
sought_until ending.RefuseMemory = Some write
sought_until ending.Reading = Some read
sought_until ending.NotifyReaders = Some read

-- the right that a party at this place seeks, or has
abbrev pub sought_at : Place → Option Right
sought_at (place.Made wanted.Read) = Some read
sought_at (place.Made wanted.UpgradableRead) = Some upgradable
sought_at (place.Made wanted.Write) = Some write
sought_at place.Reading = Some read
sought_at place.Upgradable = Some upgradable
sought_at place.Writing = Some write
sought_at (place.EnterRead told) = Some read
sought_at (place.JoinNoWriter told) = Some read
sought_at (place.LookNoWriter told) = Some read
sought_at place.AskNoWriter = Some read
sought_at place.PassOn = Some read
sought_at place.LeaveNoWriter = Some read
sought_at (place.RefuseLeave told) = Some read
sought_at (place.RefuseNotify r) = Some read
sought_at place.TryRead = Some read
sought_at (place.EnterTurn p) = Some (right_for p)
sought_at (place.WaitTurn p) = Some (right_for p)
sought_at (place.TakeTurn p) = Some (right_for p)
sought_at (place.TryTurn p) = Some (right_for p)
sought_at (place.ReleaseTurn e) = sought_until e
sought_at (place.ReleasingTurn e) = sought_until e
sought_at (place.Add trying) = Some upgradable
sought_at place.TryUpgrade = Some write
sought_at place.Upgrade = Some write
sought_at place.Mark = Some write
sought_at place.TryWrite = Some write
sought_at (place.JoinNoReaders upgrade) = Some write
sought_at (place.LookNoReaders upgrade) = Some write
sought_at (place.AskNoReaders upgrade) = Some write
sought_at (place.AwaitNoReaders upgrade) = Some write
sought_at (place.LookUnlisted upgrade) = Some write
sought_at place.LeaveNoReaders = Some write
sought_at (place.Unmark true) = Some write
sought_at (place.UnmarkNotify true) = Some write
sought_at (place.Down true) = Some upgradable
sought_at (place.Down false) = Some read
sought_at place.DownNotify = Some upgradable
sought_at place.DowngradeNotify = Some read
sought_at _ = None

-- ---- Which places go with a stage

-- what the programs are for; no call has a place that strays
pub data Course : Type 0 where
  polls : Course
  tries : Course
  drops : Course
  downgrades : Course
  upgrades : Course
  tries_upgrade : Course
  strays : Course

abbrev pub course_until : Ending → Course
course_until ending.GivenBack = drops
course_until (ending.NotFree p) = tries
course_until ending.RefuseReaders = polls
course_until ending.RefuseMemory = polls
course_until ending.Reading = downgrades
course_until ending.NotifyReaders = downgrades

abbrev pub course_refusing : Refusal → Course
course_refusing refusal.Memory = polls
course_refusing refusal.Readers = polls
course_refusing _ = strays

abbrev pub course_of : Place → Course
course_of (place.RefuseNotify r) = course_refusing r
course_of place.TryRead = tries
course_of (place.TryTurn p) = tries
course_of (place.Add true) = tries
course_of place.TryWrite = tries
course_of (place.ReleaseTurn e) = course_until e
course_of (place.ReleasingTurn e) = course_until e
course_of place.Out = drops
course_of (place.Made w) = strays
course_of place.CancelRead = drops
course_of place.CancelTurn = drops
course_of place.CancellingTurn = drops
course_of place.DropRead = drops
course_of place.DropReadNotify = drops
course_of place.DropUpgradable = drops
course_of place.DropUpgradableNotify = drops
course_of place.DropWrite = drops
course_of place.CancelAwait = drops
course_of (place.Unmark false) = drops
course_of (place.UnmarkNotify false) = drops
course_of (place.Down keeps) = downgrades
course_of place.DownNotify = downgrades
course_of place.DowngradeNotify = downgrades
course_of place.Upgrade = upgrades
course_of place.TryUpgrade = tries_upgrade
course_of _ = polls

-- the calls of a kind, begun by a party that stood so, are of this course
abbrev pub is_on_course : Kind → Rest → Course → Bool
is_on_course kind.FirstPoll Idle polls = true
is_on_course kind.LaterPoll Pending polls = true
is_on_course kind.Try Idle tries = true
is_on_course kind.Drop Pending drops = true
is_on_course kind.Drop Holding drops = true
is_on_course kind.Downgrade Holding downgrades = true
is_on_course kind.Upgrade Holding upgrades = true
is_on_course kind.TryUpgrade Holding tries_upgrade = true
is_on_course _ _ _ = false

-- a party may stand here between two actions of a call; at the others it is outside every call, or a call begins
abbrev pub is_inside : Place → Bool
is_inside place.Out = false
is_inside (place.Made w) = false
is_inside place.Reading = false
is_inside place.Upgradable = false
is_inside place.Writing = false
is_inside place.Upgrade = false
is_inside place.TryUpgrade = false
is_inside (place.Down keeps) = false
is_inside place.TryRead = false
is_inside (place.TryTurn p) = false
is_inside place.CancelAwait = false
is_inside _ = true

abbrev pub is_out : Place → Bool
is_out place.Out = true
is_out _ = false

-- a party with a future stands here
abbrev pub is_future : Place → Bool
is_future (place.Made w) = true
is_future place.AskNoWriter = true
is_future (place.WaitTurn p) = true
is_future (place.AwaitNoReaders upgrade) = true
is_future (place.LookUnlisted true) = true
is_future _ = false

-- a party with a guard stands here
abbrev pub is_guard : Place → Bool
is_guard place.Reading = true
is_guard place.Upgradable = true
is_guard place.Writing = true
is_guard _ = false

-- a stage that goes with a place
abbrev pub goes_with : Stage → Place → Bool
goes_with (Outside Idle) x = is_out x
goes_with (Outside Pending) x = is_future x
goes_with (Outside Holding) x = is_guard x
goes_with (Outside Finished) x = false
goes_with (Inside w) x = is_inside x && is_on_course w.kind w.was (course_of x)
goes_with Forgotten x = is_resting x
