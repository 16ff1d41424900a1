use Rattle.std.proofs.Common.{◌≡◌, true, false}
use Rattle.access_core.specs.Accesses.{IsInCall, IsOf}
use Rattle.lock_program.specs.declared.end.Next.TheVariants as next
use Rattle.sync_program.specs.declared.rwlock.Place.TheVariants as at
use Rattle.rwlock_core.specs.Courses.{next_in}
use Rattle.rwlock_core.proofs.rwlock.RawRwLock.await_on.Given as goal

abbrev pub invariant-loop : goal.invariant-loop
invariant-loop g l = IsOf l.fn.self.access l.seat × ((l.seat.marks ≡ true) × (l.seat.reads ≡ false) × (l.seat.writes ≡ false) × (l.seat.owes_readers ≡ false) × (l.seat.in_readers ≡ false) × (l.seat.in_writer ≡ false) × (l.seat.fresh ≡ false)) × IsInCall l.fn.seat l.seat × (next_in l.course ≡ next.Do (at.LookUnlisted l.fn.upgrade)) × (l.cx ≡ l.fn.cx)
