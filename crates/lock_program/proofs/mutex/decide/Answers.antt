-- A first poll that finds no free lock joins the list, and a starved party that finds no memory takes its count off.
use Rattle.std.proofs.Common.{◌≡◌, false, refl}
use Rattle.lock_program.specs.Mutex.{next_of}
use Rattle.lock_program.specs.declared.mutex.Found.{Found}
use Rattle.lock_program.specs.declared.mutex.Found.TheVariants as found
use Rattle.lock_program.specs.declared.end.Next.TheVariants as next
use Rattle.lock_program.specs.declared.mutex.Place.TheVariants as at
use Rattle.lock_program.proofs.mutex.decide.Goals as goal

joins : (f : Found) → (f ≡ found.Free → ⊥) → next.Do (at.Join false) ≡ next_of at.Enter f
joins found.Free is_not = absurd (is_not refl)
joins _ is_not = refl

takes_off : (f : Found) → (f ≡ found.Done → ⊥) → next.Do at.RefuseUncount ≡ next_of at.JoinStarved f
takes_off found.Done is_not = absurd (is_not refl)
takes_off _ is_not = refl

pub returns-in_default : goal.returns-in_default
returns-in_default c = rw c.in-Enter.is (joins c.args.found c.in_default.not-Free)

pub returns-in_default-found-3 : goal.returns-in_default-found-3
returns-in_default-found-3 c = rw c.in-JoinStarved.is (takes_off c.args.found c.in_default-found-3.not-Done)
