-- Who is to pay what a waiting list is owed: where something free is waited for, an entry is marked or some party owes.
use Rattle.world_base.proofs.Prelude.{◌≡◌, ℕ, zero, suc, ◌<◌, ◌⊎◌, inl, inr, List, [], ◌∷◌, length, get_or, refl, arith, sum_by, sum_by-cons, get_or-le-sum_by}
use Rattle.world_base.specs.queue.Debts.{IsOwed}

module _ {P : Type 0} (d : P) where
  -- where some term of a sum isn't nothing, one party of the table has it
  pub some_term : (f : P → ℕ) (xs : List P) → 0 < sum_by f xs → (p : ℕ) × (p < length xs) × (0 < f (get_or xs p d))
  some_term f [] h = absurd (omega arith)
  some_term f (x ∷ xs) h = by_first (f x) refl (some_term f xs) where
    by_first : (n : ℕ) → f x ≡ n → (0 < sum_by f xs → (p : ℕ) × (p < length xs) × (0 < f (get_or xs p d))) → (p : ℕ) × (p < length (x ∷ xs)) × (0 < f (get_or (x ∷ xs) p d))
    by_first (suc n) e more = (0, omega arith, omega (arith, e))
    by_first zero e more = let found = more (omega (arith, e, sum_by-cons f x xs)) in (suc found.0, omega (arith, found.1), found.2)

  -- An entry is marked, or some party owes the list something.
  pub marked_or_owed : (free : Type 0) (waits owes : P → ℕ) (xs : List P) (marked p : ℕ) → IsOwed free (sum_by waits xs) (sum_by owes xs) marked → free → p < length xs → 0 < waits (get_or xs p d)
      → (0 < marked) ⊎ ((q : ℕ) × (q < length xs) × (0 < owes (get_or xs q d)))
  marked_or_owed free waits owes xs (suc n) p owed is_free there waiting = inl (omega arith)
  marked_or_owed free waits owes xs zero p owed is_free there waiting =
      let among : 0 < sum_by waits xs = omega (arith, waiting, get_or-le-sum_by waits xs p d there) in
      let owing : 0 < sum_by owes xs = omega (arith, owed is_free among) in
      inr (some_term owes xs owing)
