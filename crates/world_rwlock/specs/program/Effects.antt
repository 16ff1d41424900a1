-- What an action needs of a read-write lock.
use Rattle.std.specs.Prelude.{◌≡◌, ℕ, ◌<◌, true, length}
use Rattle.world_base.specs.queue.Parties.{entries_of}
use Rattle.world_base.specs.queue.Queues.{Queue}
use Rattle.world_mutex.specs.machine.Mutex.{Mutex, course_at}
use Rattle.world_mutex.specs.machine.Course.{may_begin}
use Rattle.world_rwlock.specs.declared.program.word.Word.{Word}
use Rattle.sync_program.specs.declared.rwlock.Action.{Action}
use Rattle.sync_program.specs.declared.rwlock.Action.TheVariants as act

-- what an action needs of the word, of the two lists and of the turn
abbrev pub CanDo : ℕ → Action → Word → Queue → Queue → Mutex → Type 0
CanDo p act.Off w l m t = 0 < w.readers
CanDo p act.Upgrade w l m t = 0 < w.readers
CanDo p act.Down w l m t = w.readers ≡ 0
CanDo p act.JoinNoWriter w l m t = (p < l.parties) × (entries_of p l.entries ≡ 0)
CanDo p act.AskNoWriter w l m t = (p < l.parties) × (0 < entries_of p l.entries)
CanDo p act.LeaveNoWriter w l m t = (p < l.parties) × (0 < entries_of p l.entries)
CanDo p act.JoinNoReaders w l m t = (p < m.parties) × (entries_of p m.entries ≡ 0)
CanDo p act.AskNoReaders w l m t = (p < m.parties) × (0 < entries_of p m.entries)
CanDo p act.LeaveNoReaders w l m t = (p < m.parties) × (0 < entries_of p m.entries)
CanDo p (act.Begin c) w l m t = (p < length t.courses) × (may_begin c (course_at t.courses p) ≡ true)
CanDo p act.Go w l m t = p < length t.courses
CanDo p _ w l m t = Unit {0}
