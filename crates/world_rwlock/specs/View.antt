-- How callers see what stands behind a read-write lock's World.
use Rattle.std.specs.Prelude.{ℕ, ◌==◌, Bool, true, false, List, map, Option, Some, None}
use Rattle.lock_program.specs.declared.refusal.Refusal.TheVariants.{Memory, Readers}
use Rattle.world_base.specs.declared.moves.Answer.{Answer}
use Rattle.world_base.specs.declared.moves.Answer.TheVariants as answer
use Rattle.world_base.specs.declared.moves.Got.TheVariants.{Value}
use Rattle.world_base.specs.declared.standing.Stage.{Stage}
use Rattle.world_base.specs.Standings.{Standing, refused}
use Rattle.world_base.specs.table.Stages.{stands_as}
use Rattle.world_base.specs.table.Tables.{Table}
use Rattle.world_base.specs.table.Views.{standings}
use Rattle.world_mutex.specs.machine.Course.{Course as TurnCourse, decision}
use Rattle.lock_program.specs.declared.end.End.{End as TurnEnd}
use Rattle.lock_program.specs.declared.end.End.TheVariants as turn_end
use Rattle.world_mutex.specs.machine.Mutex.{course_at as turn_at, holder_of, starved_of}
use Rattle.sync_program.specs.declared.rwlock.Ending.{Ending}
use Rattle.sync_program.specs.declared.rwlock.Ending.TheVariants as ending
use Rattle.sync_program.specs.declared.rwlock.Place.{Place}
use Rattle.sync_program.specs.declared.rwlock.Place.TheVariants as place
use Rattle.world_rwlock.specs.machine.Roles as roles
use Rattle.world_rwlock.specs.machine.Machine.{RwLock, place_at}
use Rattle.world_rwlock.specs.Guarded.{Guarded}
use Rattle.world_rwlock.specs.Stages.{sought_at}
use Rattle.world_rwlock.specs.State.{Turn, nobody, passes, is_upgradable, waits_to_write, writes, World, Owing, nothing_owed}

-- ---- The state

-- for what a party has the turn
pub data Share : Type 0 where
  passing : Share
  upgrading : Share
  waiting : Share
  writing : Share

abbrev pub turn_as : ℕ → Share → Turn
turn_as p passing = passes p
turn_as p upgrading = is_upgradable p
turn_as p waiting = waits_to_write p
turn_as p writing = writes p

-- for what a party has the turn that stands here, if it has it
abbrev pub share_of : Place → Share
share_of place.Upgradable = upgrading
share_of place.TryUpgrade = upgrading
share_of place.Upgrade = upgrading
share_of place.DropUpgradable = upgrading
share_of (place.ReleaseTurn ending.Reading) = upgrading
share_of place.DownNotify = upgrading
share_of (place.JoinNoReaders upgrade) = waiting
share_of (place.LookNoReaders upgrade) = waiting
share_of (place.AskNoReaders upgrade) = waiting
share_of (place.AwaitNoReaders upgrade) = waiting
share_of (place.LookUnlisted upgrade) = waiting
share_of place.CancelAwait = waiting
share_of (place.Unmark refused) = waiting
share_of place.Writing = writing
share_of place.LeaveNoReaders = writing
share_of place.DropWrite = writing
share_of (place.Down keeps) = writing
share_of _ = passing

abbrev pub turn_by : Option ℕ → List Place → Turn
turn_by None ps = nobody
turn_by (Some p) ps = turn_as p (share_of (place_at ps p))

abbrev pub is_reading : Place → Bool
is_reading x = roles.reads x == 1

-- a party stands here whose future is an upgrade's
abbrev pub is_upgrade : Place → Bool
is_upgrade (place.JoinNoReaders upgrade) = upgrade
is_upgrade (place.LookNoReaders upgrade) = upgrade
is_upgrade (place.AskNoReaders upgrade) = upgrade
is_upgrade (place.AwaitNoReaders upgrade) = upgrade
is_upgrade (place.LookUnlisted upgrade) = upgrade
is_upgrade _ = false

-- what a party has still to tell of that stands here; a writer that goes on as a reader gives the turn up before it tells the readers
abbrev pub tells_readers : Ending → Bool
tells_readers ending.NotifyReaders = true
tells_readers _ = false

abbrev pub owing_at : Place → Owing
owing_at place.DropReadNotify = record { turn = false; readers = false; writer = true }
owing_at place.DropUpgradableNotify = record { turn = false; readers = false; writer = true }
owing_at (place.UnmarkNotify refused) = record { turn = false; readers = true; writer = false }
owing_at place.DownNotify = record { turn = false; readers = true; writer = false }
owing_at place.DowngradeNotify = record { turn = false; readers = true; writer = false }
owing_at (place.ReleaseTurn e) = record { turn = false; readers = tells_readers e; writer = false }
owing_at (place.ReleasingTurn e) = record { turn = true; readers = tells_readers e; writer = false }
owing_at _ = nothing_owed

-- ---- The standings

-- a refusal that is decided in the turn's program decides the call; that the turn was got there doesn't
abbrev pub refused_by : Option TurnEnd → Option Answer
refused_by (Some (turn_end.Refused r)) = Some (refused r)
refused_by _ = None

abbrev pub verdict_until : Ending → Answer
verdict_until ending.GivenBack = answer.GivenBack
verdict_until (ending.NotFree p) = answer.None
verdict_until ending.RefuseReaders = refused Readers
verdict_until ending.RefuseMemory = refused Memory
verdict_until ending.Reading = answer.GivenBack
verdict_until ending.NotifyReaders = answer.GivenBack

-- the answer that a call will give whose party stands here, and so in the turn, over this value, if it is decided
abbrev pub verdict : ℕ → Place → TurnCourse → Option Answer
verdict v place.LeaveNoWriter t = Some (answer.Ready (Value v))
verdict v place.LeaveNoReaders t = Some (answer.Ready (Value v))
verdict v (place.RefuseLeave told) t = Some (refused Readers)
verdict v (place.RefuseNotify r) t = Some (refused r)
verdict v (place.TakeTurn p) t = refused_by (decision t)
verdict v (place.ReleaseTurn e) t = Some (verdict_until e)
verdict v (place.ReleasingTurn e) t = Some (verdict_until e)
verdict v (place.Unmark true) t = Some (refused Memory)
verdict v (place.UnmarkNotify true) t = Some (refused Memory)
verdict v place.Out t = Some answer.GivenBack
verdict v place.CancelRead t = Some answer.GivenBack
verdict v place.CancelTurn t = Some answer.GivenBack
verdict v place.CancellingTurn t = Some answer.GivenBack
verdict v place.DropRead t = Some answer.GivenBack
verdict v place.DropReadNotify t = Some answer.GivenBack
verdict v place.DropUpgradable t = Some answer.GivenBack
verdict v place.DropUpgradableNotify t = Some answer.GivenBack
verdict v place.DropWrite t = Some answer.GivenBack
verdict v place.CancelAwait t = Some answer.GivenBack
verdict v (place.Unmark false) t = Some answer.GivenBack
verdict v (place.UnmarkNotify false) t = Some answer.GivenBack
verdict v place.DownNotify t = Some answer.GivenBack
verdict v place.DowngradeNotify t = Some answer.GivenBack
verdict v _ t = None

-- how a party stands at this stage that is here, and so in the turn
abbrev pub standing_at : ℕ → Stage → Place → TurnCourse → Standing
standing_at v s x t = stands_as (verdict v x t) s

-- by party
abbrev pub verdict_of : Guarded → ℕ → Option Answer
verdict_of x p = verdict x.value (place_at x.lock.places p) (turn_at x.lock.turn.courses p)

abbrev pub seen : RwLock → List Stage → ℕ → ℕ → World
seen l ss opening v = record {
  state = record { readers = map is_reading l.places; turn = turn_by (holder_of l.turn) l.places; starved = starved_of l.turn; value = v };
  turn_list = l.turn.entries;
  no_readers = l.no_readers;
  no_writer = l.no_writer;
  standings = standings (verdict_of (record { lock = l; value = v })) ss;
  sought = map sought_at l.places;
  upgraders = map is_upgrade l.places;
  owing = map owing_at l.places;
  starved_limit = l.turn.limit;
  readers_limit = l.limit;
  opening_value = opening;
  behind = record { machine = record { lock = l; value = v }; stages = ss; opening = opening };
}

-- a table as callers see it
abbrev pub view_of : Table Guarded → World
view_of t = seen t.machine.lock t.stages t.opening t.machine.value
