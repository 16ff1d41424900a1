-- What is known of a list that is about to be given back.
use Rattle.std.proofs.Common.{◌≡◌, ℕ, ◌∷◌, refl, sym, ap, ◌∙◌, subst}
use Rattle.atomic_table.specs.Table.{Me, rest}
use Rattle.words_base.specs.Lists.{Listed, Stays, Joins, Leaves}
use Rattle.words_base.proofs.Holding.{same_out}
use Rattle.words_barrier.specs.Steps.{IsHeld, Out, CanJoin, CanLeave, CanStay}
use Rattle.words_barrier.specs.declared.view.View.{View}
use Rattle.barrier_core.specs.Lists.{listed_of, Says}
use Rattle.barrier_core.specs.declared.list.Entries.{Entries}

module _ (m : Me Entries View) (held : IsHeld listed_of m) (now left : Entries) (n : ℕ) (e : m.1 ≡ (0, now) ∷ rest m.1) (says : Says left n) where
  -- what the seat knows of the list
  listed-now : listed_of now ≡ m.0.list
  listed-now = ap listed_of (same_out now held.0 m.1 (rest m.1) e held.3) ∙ sym held.2

  abbrev After : Me Entries View
  After = (m.0, (0, left) ∷ rest m.1)

  out : Out listed_of After n left
  out = (held.1, refl, says.0, says.1)

  pub stays : Stays (listed_of now) (listed_of left) → CanStay listed_of After n
  stays f = (left, out, subst (λ (l : Listed). Stays l (listed_of left)) listed-now f)

  pub joins : (k : ℕ) → Joins k (listed_of now) (listed_of left) → CanJoin listed_of After n k
  joins k f = (left, out, subst (λ (l : Listed). Joins k l (listed_of left)) listed-now f)

  pub leaves : (k : ℕ) → m.0.entry ≡ k → Leaves k (listed_of now) (listed_of left) → CanLeave listed_of After n
  leaves k own f = (left, out, subst (λ (j : ℕ). Leaves j m.0.list (listed_of left)) (sym own) (subst (λ (l : Listed). Leaves k l (listed_of left)) listed-now f))
