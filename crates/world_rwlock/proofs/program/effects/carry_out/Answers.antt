-- What each action does: all else stays as it was.
use Rattle.std.proofs.Common.{refl, ap}
use Rattle.world_rwlock.proofs.program.effects.carry_out.Goals as goal

pub returns-in-Nothing : goal.returns-in-Nothing
returns-in-Nothing c = rw c.in-Nothing.is (record { word = refl; no_writer = refl; no_readers = refl; parties_w = refl; parties_r = refl; turn = refl; memory = _ })

pub returns-in-Read : goal.returns-in-Read
returns-in-Read c = rw c.in-Read.is (record { word = c.read.ensures; no_writer = refl; no_readers = refl; parties_w = refl; parties_r = refl; turn = refl; memory = _ })

pub returns-in-Add : goal.returns-in-Add
returns-in-Add c = rw c.in-Add.is (record { word = c.add.ensures; no_writer = refl; no_readers = refl; parties_w = refl; parties_r = refl; turn = refl; memory = _ })

pub returns-in-Off : goal.returns-in-Off
returns-in-Off c = rw c.in-Off.is (record { word = c.off.ensures; no_writer = refl; no_readers = refl; parties_w = refl; parties_r = refl; turn = refl; memory = _ })

pub returns-in-Load : goal.returns-in-Load
returns-in-Load c = rw c.in-Load.is (record { word = c.load.ensures; no_writer = refl; no_readers = refl; parties_w = refl; parties_r = refl; turn = refl; memory = _ })

pub returns-in-Mark : goal.returns-in-Mark
returns-in-Mark c = rw c.in-Mark.is (record { word = c.mark.ensures; no_writer = refl; no_readers = refl; parties_w = refl; parties_r = refl; turn = refl; memory = _ })

pub returns-in-TryWrite : goal.returns-in-TryWrite
returns-in-TryWrite c = rw c.in-TryWrite.is (record { word = c.try_write.ensures; no_writer = refl; no_readers = refl; parties_w = refl; parties_r = refl; turn = refl; memory = _ })

pub returns-in-TryUpgrade : goal.returns-in-TryUpgrade
returns-in-TryUpgrade c = rw c.in-TryUpgrade.is (record { word = c.try_upgrade.ensures; no_writer = refl; no_readers = refl; parties_w = refl; parties_r = refl; turn = refl; memory = _ })

pub returns-in-Upgrade : goal.returns-in-Upgrade
returns-in-Upgrade c = rw c.in-Upgrade.is (record { word = c.upgrade.ensures; no_writer = refl; no_readers = refl; parties_w = refl; parties_r = refl; turn = refl; memory = _ })

pub returns-in-Down : goal.returns-in-Down
returns-in-Down c = rw c.in-Down.is (record { word = c.down.ensures; no_writer = refl; no_readers = refl; parties_w = refl; parties_r = refl; turn = refl; memory = _ })

pub returns-in-Unmark : goal.returns-in-Unmark
returns-in-Unmark c = rw c.in-Unmark.is (record { word = c.unmark.ensures; no_writer = refl; no_readers = refl; parties_w = refl; parties_r = refl; turn = refl; memory = _ })

pub returns-in-JoinNoWriter : goal.returns-in-JoinNoWriter
returns-in-JoinNoWriter c = rw c.in-JoinNoWriter.is (record { word = refl; no_writer = c.join.ensures.list; no_readers = refl; parties_w = c.join.ensures.parties; parties_r = refl; turn = refl; memory = c.join.ensures.memory })

pub returns-in-AskNoWriter : goal.returns-in-AskNoWriter
returns-in-AskNoWriter c = rw c.in-AskNoWriter.is (record { word = refl; no_writer = c.ask.ensures.list; no_readers = refl; parties_w = c.ask.ensures.parties; parties_r = refl; turn = refl; memory = _ })

pub returns-in-LeaveNoWriter : goal.returns-in-LeaveNoWriter
returns-in-LeaveNoWriter c = rw c.in-LeaveNoWriter.is (record { word = refl; no_writer = ap (λ q. q.entries) c.leave.ensures; no_readers = refl; parties_w = ap (λ q. q.parties) c.leave.ensures; parties_r = refl; turn = refl; memory = _ })

pub returns-in-NotifyNoWriter : goal.returns-in-NotifyNoWriter
returns-in-NotifyNoWriter c = rw c.in-NotifyNoWriter.is (record { word = refl; no_writer = ap (λ q. q.entries) c.notify.ensures; no_readers = refl; parties_w = ap (λ q. q.parties) c.notify.ensures; parties_r = refl; turn = refl; memory = _ })

pub returns-in-JoinNoReaders : goal.returns-in-JoinNoReaders
returns-in-JoinNoReaders c = rw c.in-JoinNoReaders.is (record { word = refl; no_writer = refl; no_readers = c.join-in-JoinNoReaders.ensures.list; parties_w = refl; parties_r = c.join-in-JoinNoReaders.ensures.parties; turn = refl; memory = c.join-in-JoinNoReaders.ensures.memory })

pub returns-in-AskNoReaders : goal.returns-in-AskNoReaders
returns-in-AskNoReaders c = rw c.in-AskNoReaders.is (record { word = refl; no_writer = refl; no_readers = c.ask-in-AskNoReaders.ensures.list; parties_w = refl; parties_r = c.ask-in-AskNoReaders.ensures.parties; turn = refl; memory = _ })

pub returns-in-LeaveNoReaders : goal.returns-in-LeaveNoReaders
returns-in-LeaveNoReaders c = rw c.in-LeaveNoReaders.is (record { word = refl; no_writer = refl; no_readers = ap (λ q. q.entries) c.leave-in-LeaveNoReaders.ensures; parties_w = refl; parties_r = ap (λ q. q.parties) c.leave-in-LeaveNoReaders.ensures; turn = refl; memory = _ })

pub returns-in-NotifyNoReaders : goal.returns-in-NotifyNoReaders
returns-in-NotifyNoReaders c = rw c.in-NotifyNoReaders.is (record { word = refl; no_writer = refl; no_readers = ap (λ q. q.entries) c.notify-in-NotifyNoReaders.ensures; parties_w = refl; parties_r = ap (λ q. q.parties) c.notify-in-NotifyNoReaders.ensures; turn = refl; memory = _ })

pub returns-in-Begin : goal.returns-in-Begin
returns-in-Begin c = rw c.in-Begin.is (record { word = refl; no_writer = refl; no_readers = refl; parties_w = refl; parties_r = refl; turn = c.begin.ensures; memory = _ })

pub returns-in-Go : goal.returns-in-Go
returns-in-Go c = rw c.in-Go.is (record { word = refl; no_writer = refl; no_readers = refl; parties_w = refl; parties_r = refl; turn = c.go.ensures; memory = _ })
