-- What looks leave that go on until one finds the lock held.
use Rattle.std.proofs.Common.{◌≡◌, ◌≢◌, ℕ, ◌%◌, true, sym, ap, ◌∙◌, arith}
use native.Mathlib.Decide.{ℕ_discrete}
use mathlib.Core.Logic.{dite}
use Rattle.atomic_table.specs.Table.{Me}
use Rattle.words_mutex.specs.Seats.{saw_held_of, saw_of}
use Rattle.words_mutex.specs.Steps.{Looked}
use Rattle.words_mutex.specs.declared.view.View.{View}

module _ {S : Type 0} where
  -- what a look that finds the lock held would leave, whatever it was that it found
  abbrev pub seen_of : Me S View → Me S View
  seen_of m = (saw_held_of 0 m.0, m.1)

  pub goes_on : (m m' : Me S View) (r : ℕ) → Looked m r m' → r % 2 ≢ 1 → seen_of m' ≡ seen_of m
  goes_on m m' r looked odd = dite (ℕ_discrete r 0) (λ z. ap seen_of (looked.2 z)) (λ ne. ap seen_of (looked.1 (omega (arith, odd)) ne))

  pub has : (m m₀ : Me S View) → seen_of m ≡ seen_of m₀ → (m₀.0.starved ≡ true → m₀.0.listed ≡ true) → m.0.starved ≡ true → m.0.listed ≡ true
  has m m₀ e h s = ap (λ (n : Me S View). n.0.listed) e ∙ h (sym (ap (λ (n : Me S View). n.0.starved) e) ∙ s)

  -- the look that finds the lock held, after those that didn't
  pub finds : (m m' m₀ : Me S View) (r : ℕ) → Looked m r m' → r % 2 ≡ 1 → seen_of m ≡ seen_of m₀ → m' ≡ (saw_held_of m'.0.found m₀.0, m₀.1)
  finds m m' m₀ r looked odd e = let is = looked.0 odd in
      is ∙ ap (λ (n : Me S View). (saw_of r n.0, n.1)) e ∙ ap (λ k. (saw_held_of k m₀.0, m₀.1)) (sym (ap (λ (n : Me S View). n.0.found) is))
