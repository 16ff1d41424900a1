-- What is known of lists that are about to be given back.
use Rattle.std.proofs.Common.{◌≡◌, ℕ, ◌∷◌, refl, sym, ap, ◌∙◌, subst, inl}
use Rattle.atomic_table.specs.Table.{Me, rest}
use Rattle.words_base.specs.Lists.{Listed, Stays}
use Rattle.words_base.proofs.Holding.{same_out}
use Rattle.words_access.specs.Steps.{IsHeld, Out, CanStay}
use Rattle.words_access.specs.declared.view.View.{View}
use Rattle.access_core.specs.Contents.{readers_of, writer_of, Says, Changes, CanGive}
use Rattle.access_core.specs.declared.lists.Lists.{Lists}
use Rattle.access_core.specs.declared.lists.Side.{Side}
use Rattle.access_core.specs.declared.lists.Side.TheVariants as sides

-- a list that is as it was
same_stays : (old new : Listed) → new ≡ old → Stays old new
same_stays old new is = subst (λ l. Stays old l) (sym is) (record { entries = refl; fewer = λ n h. h; told = λ some. inl some })

module _ (m : Me Lists View) (held : IsHeld readers_of writer_of m) (now left : Lists) (n : ℕ) (e : m.1 ≡ (0, now) ∷ rest m.1) (says : Says left n) where
  -- the same lists
  same : held.0 ≡ now
  same = same_out held.0 now m.1 (rest m.1) held.4 e

  abbrev After : Me Lists View
  After = (m.0, (0, left) ∷ rest m.1)

  out : Out readers_of writer_of After n left
  out = (held.1, refl, says.0, says.1)

  -- what became of a list since it was lent became of it since the seat took it out
  readers : (Becomes : Listed → Listed → Type 0) → Becomes (readers_of now) (readers_of left) → Becomes m.0.readers (readers_of left)
  readers Becomes = subst (λ l. Becomes l (readers_of left)) (ap readers_of (sym same) ∙ sym held.2)

  writer : (Becomes : Listed → Listed → Type 0) → Becomes (writer_of now) (writer_of left) → Becomes m.0.writer (writer_of left)
  writer Becomes = subst (λ l. Becomes l (writer_of left)) (ap writer_of (sym same) ∙ sym held.3)

  readers_same : readers_of left ≡ readers_of now → Stays m.0.readers (readers_of left)
  readers_same is = readers Stays (same_stays (readers_of now) (readers_of left) is)

  writer_same : writer_of left ≡ writer_of now → Stays m.0.writer (writer_of left)
  writer_same is = writer Stays (same_stays (writer_of now) (writer_of left) is)

  pub gives : (Becomes : Listed → Listed → Type 0) (side : Side) → Changes Becomes side now left → CanGive Becomes side After n
  gives Becomes sides.Readers f = (left, out, readers Becomes f.0, writer_same f.1)
  gives Becomes sides.Writer f = (left, out, readers_same f.1, writer Becomes f.0)

  pub stays : (side : Side) → Changes Stays side now left → CanStay readers_of writer_of After n
  stays sides.Readers f = gives Stays sides.Readers f
  stays sides.Writer f = gives Stays sides.Writer f

  -- the same, of the seat's own entry
  pub own : (Becomes : ℕ → Listed → Listed → Type 0) (side : Side) (k : ℕ) → m.0.entry ≡ k → Changes (Becomes k) side now left → CanGive (Becomes m.0.entry) side After n
  own Becomes side k is f = subst (λ j. CanGive (Becomes j) side After n) (sym is) (gives (Becomes k) side f)
