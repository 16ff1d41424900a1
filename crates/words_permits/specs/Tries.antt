-- What a try answers, by cases.
use Rattle.std.specs.Prelude.{ℕ}
use Rattle.words_permits.specs.declared.found.Taking.{Taking}
use Rattle.words_permits.specs.declared.found.Taking.TheVariants as taking
use Rattle.words_permits.specs.declared.found.Raising.{Raising}
use Rattle.words_permits.specs.declared.found.Raising.TheVariants as raising

abbrev pub OnTaking : Taking → (ℕ → Type 0) → (ℕ → Type 0) → Type 0 → Type 0
OnTaking (taking.Left a) does short not = does a
OnTaking (taking.Short a) does short not = short a
OnTaking taking.Changed does short not = not

abbrev pub OnRaising : Raising → Type 0 → Type 0 → Type 0 → Type 0
OnRaising raising.Raised does past not = does
OnRaising raising.PastLimit does past not = past
OnRaising raising.Changed does past not = not
