-- Which seats have a flag.
use Rattle.std.proofs.Common.{◌≡◌, ℕ, zero, suc, ◌+◌, ◌%◌, ◌≤◌, ◌&&◌, leb, bit_or, Bool, true, false, List, [], ◌∷◌, sym, refl, ap, ◌∙◌, subst, arith, ⊎_elim, ◌⊎◌, inl, inr}
use Rattle.std.proofs.lemmas.Bool.{le-leb}
use Rattle.std.specs.Int.Bits.{or_add_and}
use Rattle.std.proofs.lemmas.Nat.{and_mask}
use Rattle.words_base.proofs.MutexWord.{or_one}
use mathlib.Core.Option.{some, some-injective, some-ne-none}
use lib.ListN.{get_elem?}
use Rattle.words_base.specs.Sums.{weight, number}
use Rattle.words_base.proofs.Sums.{number-at}
use Rattle.words_mutex.specs.Rule.{SaysEmpty}

pub never : {P : Type 0} → false ≡ true → P
never e = absurd (cc)

pub by_flag : (b : Bool) → (b ≡ true) ⊎ (b ≡ false)
by_flag true = inl refl
by_flag false = inr refl

pub and_true : (b c : Bool) → c ≡ true → (b && c) ≡ b
and_true true c e = e
and_true false c e = refl

pub and_false : (b c : Bool) → c ≡ false → (b && c) ≡ false
and_false true c e = e
and_false false c e = refl

pub many-owes : (n : ℕ) (b : Bool) → 4 ≤ n → (b && leb 4 n) ≡ b
many-owes n b e = and_true b (leb 4 n) (le-leb 4 n e)

-- the two lowest bits are set
or_three : (x : ℕ) → bit_or x 3 + x % 4 ≡ x + 3
or_three x = ap (λ n. bit_or x 3 + n) (sym (and_mask x 2)) ∙ or_add_and x 3

-- what setting the lowest bits of the list's word leaves
abbrev pub SetsLow : ℕ → Type 0
SetsLow k = (n : ℕ) → (bit_or n k % 2 ≡ 1) × (SaysEmpty (bit_or n k) → SaysEmpty n)

pub sets-one : SetsLow 1
sets-one n = let z : ℕ = bit_or n 1 in let is : z + n % 2 ≡ n + 1 = or_one n in (omega arith, λ below. omega arith)

pub sets-three : SetsLow 3
sets-three n = let z : ℕ = bit_or n 3 in let is : z + n % 4 ≡ n + 3 = or_three n in (omega arith, λ below. omega arith)

module _ {V : Type 0} (flag : V → Bool) where
  abbrev pub Some : List V → Type 0
  Some l = (i : ℕ) × (v : V) × (get_elem? l i ≡ some v) × (flag v ≡ true)

  some-by : (x : V) (xs : List V) (b : Bool) → flag x ≡ b → 1 ≤ number flag (x ∷ xs) → (1 ≤ number flag xs → Some xs) → Some (x ∷ xs)
  some-by x xs true e h more = (0, x, refl, e)
  some-by x xs false e h more = let w : weight (flag x) ≡ 0 = ap weight e in let m = more (omega arith) in (suc m.0, m.1, m.2, m.3)

  pub number-some : (l : List V) → 1 ≤ number flag l → Some l
  number-some [] h = absurd (omega arith)
  number-some (x ∷ xs) h = some-by x xs (flag x) refl h (λ h'. number-some xs h')

  -- where no seat has the flag, their number is 0
  pub number-no : (l : List V) → ((i : ℕ) (v : V) → get_elem? l i ≡ some v → flag v ≡ false) → number flag l ≡ 0
  number-no [] none = refl
  number-no (x ∷ xs) none = let w : weight (flag x) ≡ 0 = ap weight (none 0 x refl) in let m = number-no xs (λ i v e. none (suc i) v e) in omega arith

  -- where none has the flag, this one hasn't
  pub number-zero : (l : List V) (i : ℕ) (v : V) → get_elem? l i ≡ some v → number flag l ≡ 0 → flag v ≡ false
  number-zero l i v at none = ⊎_elim (λ is. let m = number-at flag l i v at in let w : weight (flag v) ≡ 1 = ap weight is in absurd (omega arith)) (λ not. not) (by_flag (flag v))

module _ {V : Type 0} (f g : V → Bool) where
  abbrev Within : List V → Type 0
  Within l = (i : ℕ) (v : V) → get_elem? l i ≡ some v → f v ≡ true → g v ≡ true

  weight-le : (a b : Bool) → (a ≡ true → b ≡ true) → weight a ≤ weight b
  weight-le true b h = subst (λ (c : Bool). 1 ≤ weight c) (sym (h refl)) (omega arith)
  weight-le false b h = omega arith

  -- who has the one has the other
  pub number-within : (l : List V) → Within l → number f l ≤ number g l
  number-within [] all = omega arith
  number-within (x ∷ xs) all = let r = number-within xs (λ i v e. all (suc i) v e) in let w = weight-le (f x) (g x) (all 0 x refl) in omega arith

  -- and one has the other alone
  pub number-below : (l : List V) → Within l → (i : ℕ) (v : V) → get_elem? l i ≡ some v → g v ≡ true → f v ≡ false → number f l + 1 ≤ number g l
  number-below [] all i v e is not = absurd (some-ne-none v (sym e))
  number-below (x ∷ xs) all zero v e is not =
      let same = some-injective x v e in let r = number-within xs (λ i u h. all (suc i) u h) in
      let w : weight (f x) ≡ 0 = ap (λ (u : V). weight (f u)) same ∙ ap weight not in let w' : weight (g x) ≡ 1 = ap (λ (u : V). weight (g u)) same ∙ ap weight is in omega arith
  number-below (x ∷ xs) all (suc i) v e is not = let r = number-below xs (λ j u h. all (suc j) u h) i v e is not in let w = weight-le (f x) (g x) (all 0 x refl) in omega arith
