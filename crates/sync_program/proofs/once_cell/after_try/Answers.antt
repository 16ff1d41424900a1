-- A try of an empty cell makes at once, and any other ends.
use Rattle.std.proofs.Common.{◌≡◌, refl}
use Rattle.sync_program.specs.OnceCell.{next_of}
use Rattle.sync_program.specs.declared.once_cell.Found.{Found}
use Rattle.sync_program.specs.declared.once_cell.Found.TheVariants as found
use Rattle.lock_program.specs.declared.end.Next.TheVariants as next
use Rattle.sync_program.specs.declared.once_cell.Left.TheVariants as left
use Rattle.sync_program.specs.declared.once_cell.Place.TheVariants as at
use Rattle.sync_program.specs.declared.once_cell.Position.TheVariants as position
use Rattle.lock_program.specs.declared.end.End.TheVariants as end
use Rattle.sync_program.proofs.once_cell.after_try.Goals as goal

not_empty : {V : Type 0} → (value : V) (f : Found V) → (f ≡ found.Empty → ⊥) → next.End end.NotFree (left.Outside position.Out) ≡ next_of (at.Try value) f
not_empty value found.Empty is_not = absurd (is_not refl)
not_empty value found.Done is_not = refl
not_empty value found.BeingMade is_not = refl
not_empty value (found.Full v) is_not = refl
not_empty value found.NotYet is_not = refl
not_empty value (found.Made v) is_not = refl
not_empty value found.Failed is_not = refl
not_empty value found.NoMemory is_not = refl
not_empty value found.Yes is_not = refl
not_empty value found.No is_not = refl

pub returns-in-Empty : goal.returns-in-Empty
returns-in-Empty g c = rw c.in-Empty.is refl

pub returns-in_default : goal.returns-in_default
returns-in_default g c = not_empty c.args.value c.args.found c.in_default.not-Empty
