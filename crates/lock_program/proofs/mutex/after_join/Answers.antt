-- A refused party that was told hands its notification on.
use Rattle.std.proofs.Common.{◌≡◌, true, refl}
use Rattle.lock_program.specs.Mutex.{after_join}
use Rattle.lock_program.specs.declared.mutex.Found.{Found}
use Rattle.lock_program.specs.declared.mutex.Found.TheVariants as found
use Rattle.lock_program.specs.declared.end.Next.TheVariants as next
use Rattle.lock_program.specs.declared.mutex.Place.TheVariants as at
use Rattle.lock_program.proofs.mutex.after_join.Goals as goal

hands_on : (f : Found) → (f ≡ found.Done → ⊥) → next.Do at.RefuseNotifyMemory ≡ after_join true f
hands_on found.Done is_not = absurd (is_not refl)
hands_on found.Free is_not = refl
hands_on (found.Held starving) is_not = refl
hands_on found.SomeStarved is_not = refl
hands_on found.AtLimit is_not = refl
hands_on found.NoMemory is_not = refl
hands_on found.Yes is_not = refl
hands_on found.No is_not = refl

pub returns-in_default : goal.returns-in_default
returns-in_default c = rw c.if-told.true (hands_on c.args.found c.in_default.not-Done)
