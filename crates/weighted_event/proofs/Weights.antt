-- What `fit` does to a list.
use Rattle.std.proofs.Common.{◌≡◌, ℕ, ◌+◌, ◌<◌, ◌≤◌, true, false, List, [], ◌∷◌, refl, arith}
use Rattle.lock_event.specs.declared.event.Entry.{Entry}
use Rattle.lock_event.specs.Lists.{marked_count}
use Rattle.weighted_event.specs.Weights.{fit_first, fitted, is_wanted}

module _ {K : Type 0} (w : K → ℕ) (a : ℕ) where
  first_marks : (l : List (Entry K)) → is_wanted w a l ≡ true → 0 < marked_count (fit_first w a l)
  first_marks [] h = absurd (cc h)
  first_marks (e ∷ es) h = grind (arith, first_marks es)

  -- whoever is wanted leaves a mark
  pub fitted_marks : (l : List (Entry K)) → is_wanted w a l ≡ true → 0 < marked_count (fitted w a l)
  fitted_marks l h = grind (arith, first_marks l h)

  first_one : (l : List (Entry K)) → marked_count (fit_first w a l) ≤ marked_count l + 1
  first_one [] = omega arith
  first_one (e ∷ es) = grind (arith, first_one es)

  pub fitted_one : (l : List (Entry K)) → marked_count l ≤ 1 → marked_count (fitted w a l) ≤ 1
  fitted_one l h = grind (arith, first_one l, h)

  first_none : (l : List (Entry K)) → is_wanted w a l ≡ false → fit_first w a l ≡ l
  first_none [] h = refl
  first_none (e ∷ es) h = grind (arith, first_none es)

  -- where nobody is wanted nothing happens
  pub fitted_none : (l : List (Entry K)) → is_wanted w a l ≡ false → fitted w a l ≡ l
  fitted_none l h = grind (arith, first_none l h)
