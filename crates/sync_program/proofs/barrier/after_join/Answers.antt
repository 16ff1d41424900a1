-- A party that found no memory is not counted.
use Rattle.std.proofs.Common.{◌≡◌, refl}
use Rattle.sync_program.specs.declared.barrier.Aim.TheVariants as aim
use Rattle.sync_program.specs.declared.barrier.Ending.TheVariants as ending
use Rattle.sync_program.specs.declared.barrier.Found.{Found}
use Rattle.sync_program.specs.declared.barrier.Found.TheVariants as found
use Rattle.lock_program.specs.declared.end.Next.TheVariants as next
use Rattle.sync_program.specs.declared.barrier.Place.TheVariants.{Join, ReleaseLock}
use Rattle.sync_program.specs.Barrier.{next_of}
use Rattle.sync_program.proofs.barrier.after_join.Goals as goal

denied : (f : Found) → (f ≡ found.Done → ⊥) → next.Do (ReleaseLock (ending.RefuseMemory aim.Arrive)) ≡ next_of Join f
denied found.Done h = absurd (h refl)
denied _ h = refl

pub returns-in_default : goal.returns-in_default
returns-in_default c = denied c.args.found c.in_default.not-Done
