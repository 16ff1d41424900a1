-- What one seat's change does to the sums over all views.
use Rattle.std.proofs.Common.{◌≡◌, ℕ, zero, suc, ◌+◌, ◌≤◌, Bool, false, List, [], ◌∷◌, ◌++◌, set, sym, ap, arith}
use mathlib.Core.Option.{some, some-injective, some-ne-none}
use lib.ListN.{get_elem?}
use Rattle.words_base.specs.Sums.{weight, number, total}

module _ {V : Type 0} where
  pub number-set : (flag : V → Bool) (l : List V) (i : ℕ) (v w : V) → get_elem? l i ≡ some v → number flag (set l i w) + weight (flag v) ≡ number flag l + weight (flag w)
  number-set flag [] i v w e = absurd (some-ne-none v (sym e))
  number-set flag (x ∷ xs) zero v w e = let is : weight (flag x) ≡ weight (flag v) = ap (λ (m : V). weight (flag m)) (some-injective x v e) in omega arith
  number-set flag (x ∷ xs) (suc i) v w e = let r = number-set flag xs i v w e in omega arith

  pub number-at : (flag : V → Bool) (l : List V) (i : ℕ) (v : V) → get_elem? l i ≡ some v → weight (flag v) ≤ number flag l
  number-at flag [] i v e = absurd (some-ne-none v (sym e))
  number-at flag (x ∷ xs) zero v e = let is : weight (flag x) ≡ weight (flag v) = ap (λ (m : V). weight (flag m)) (some-injective x v e) in omega arith
  number-at flag (x ∷ xs) (suc i) v e = let r = number-at flag xs i v e in omega arith

  pub number-snoc : (flag : V → Bool) (l : List V) (w : V) → number flag (l ++ w ∷ []) ≡ number flag l + weight (flag w)
  number-snoc flag [] w = omega arith
  number-snoc flag (x ∷ xs) w = let r = number-snoc flag xs w in omega arith

  -- a new view without the flag
  pub number-none : (flag : V → Bool) (l : List V) (w : V) → flag w ≡ false → number flag (l ++ w ∷ []) ≡ number flag l
  number-none flag [] w e = let is : weight (flag w) ≡ 0 = ap weight e in omega arith
  number-none flag (x ∷ xs) w e = ap (λ (n : ℕ). weight (flag x) + n) (number-none flag xs w e)

  pub total-set : (f : V → ℕ) (l : List V) (i : ℕ) (v w : V) → get_elem? l i ≡ some v → total f (set l i w) + f v ≡ total f l + f w
  total-set f [] i v w e = absurd (some-ne-none v (sym e))
  total-set f (x ∷ xs) zero v w e = let is : f x ≡ f v = ap f (some-injective x v e) in omega arith
  total-set f (x ∷ xs) (suc i) v w e = let r = total-set f xs i v w e in omega arith

  pub total-at : (f : V → ℕ) (l : List V) (i : ℕ) (v : V) → get_elem? l i ≡ some v → f v ≤ total f l
  total-at f [] i v e = absurd (some-ne-none v (sym e))
  total-at f (x ∷ xs) zero v e = let is : f x ≡ f v = ap f (some-injective x v e) in omega arith
  total-at f (x ∷ xs) (suc i) v e = let r = total-at f xs i v e in omega arith

  pub total-snoc : (f : V → ℕ) (l : List V) (w : V) → total f (l ++ w ∷ []) ≡ total f l + f w
  total-snoc f [] w = omega arith
  total-snoc f (x ∷ xs) w = let r = total-snoc f xs w in omega arith
