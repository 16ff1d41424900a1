-- Which seats are so, as one seat's view changes.
use Rattle.std.proofs.Common.{◌≡◌, ℕ, zero, suc, List, [], ◌∷◌, ◌++◌, set, sym, refl, ◌∙◌, subst, ◌⊎◌, inl, inr}
use mathlib.Core.Option.{some, some-injective, some-ne-none}
use mathlib.Core.Logic.{dite}
use native.Mathlib.Decide.{ℕ_discrete}
use lib.ListN.{get_elem?}
use Rattle.atomic_table.proofs.Lists.{set_else, at_longer}
use Rattle.words_base.specs.Waiting.{SomeSeat, AreOf}

module _ {V : Type 0} where
  there : (l : List V) (i : ℕ) (v w : V) → get_elem? l i ≡ some v → get_elem? (set l i w) i ≡ some w
  there [] i v w e = absurd (some-ne-none v (sym e))
  there (x ∷ xs) zero v w e = refl
  there (x ∷ xs) (suc i) v w e = there xs i v w e

  module _ (l : List V) (i : ℕ) (v : V) (at : get_elem? l i ≡ some v) where
    -- the seat's own view is so now
    pub own : (P : V → Type 0) (w : V) → P w → SomeSeat P (set l i w)
    own P w p = (i, w, there l i v w at, p)

    -- it was the seat's own, or another's, which stays
    pub apart : (P : V → Type 0) → SomeSeat P l → P v ⊎ ((w : V) → SomeSeat P (set l i w))
    apart P c = dite (ℕ_discrete c.0 i)
        (λ same. inl (subst P (some-injective c.1 v (sym (subst (λ j. get_elem? l j ≡ some c.1) same c.2) ∙ at)) c.3))
        (λ ne. inr (λ w. (c.0, c.1, set_else l i c.0 w ne ∙ c.2, c.3)))

    pub stays : (P : V → Type 0) (w : V) → (P v → P w) → SomeSeat P l → SomeSeat P (set l i w)
    stays P w good c = ⊎_elim' (apart P c)
      where
        ⊎_elim' : P v ⊎ ((u : V) → SomeSeat P (set l i u)) → SomeSeat P (set l i w)
        ⊎_elim' (inl p) = own P w (good p)
        ⊎_elim' (inr other) = other w

    -- it wasn't the seat's own
    pub own_else : (P : V → Type 0) (w : V) → (P v → ⊥) → SomeSeat P l → SomeSeat P (set l i w)
    own_else P w not = stays P w (λ p. absurd (not p))

    pub all_stay : (P : ℕ → V → Type 0) (waiting : List ℕ) (w : V) → ((n : ℕ) → P n v → P n w) → AreOf P waiting l → AreOf P waiting (set l i w)
    all_stay P waiting w good all n h = stays (P n) w (good n) (all n h)

  -- one seat more
  pub some-longer : (P : V → Type 0) (l : List V) (w : V) → SomeSeat P l → SomeSeat P (l ++ w ∷ [])
  some-longer P l w c = (c.0, c.1, at_longer l (w ∷ []) c.0 c.1 c.2, c.3)
