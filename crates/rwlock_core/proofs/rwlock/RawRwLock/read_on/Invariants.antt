use Rattle.std.proofs.Common.{◌≡◌, true}
use Rattle.access_core.specs.Accesses.{IsInCall, IsOf, IsIdle}
use Rattle.lock_program.specs.declared.end.Next.TheVariants as next
use Rattle.sync_program.specs.declared.rwlock.Place.TheVariants as at
use Rattle.rwlock_core.specs.Courses.{next_in}
use Rattle.rwlock_core.proofs.rwlock.RawRwLock.read_on.Given as goal

abbrev pub invariant-loop : goal.invariant-loop
invariant-loop g l = IsOf l.fn.self.access l.seat × IsInCall l.fn.seat l.seat × IsIdle l.seat × (next_in l.course ≡ next.Do (at.EnterRead true)) × (l.cx ≡ l.fn.cx)
