-- The bits of the word of the lists, and which seats have a flag.
use Rattle.std.proofs.Common.{◌≡◌, ℕ, suc, ◌+◌, ◌%◌, bit_or, Bool, true, false, List, [], ◌∷◌, sym, refl, ap, ◌∙◌, arith}
use Rattle.std.specs.Int.Bits.{or_add_and}
use Rattle.std.proofs.lemmas.Nat.{and_mask}
use Rattle.words_base.proofs.MutexWord.{or_one}
use mathlib.Core.Option.{some}
use lib.ListN.{get_elem?}
use Rattle.words_base.specs.Sums.{weight, number}
use Rattle.words_cell.specs.Rule.{SaysEmpty}

pub never : {P : Type 0} → false ≡ true → P
never e = absurd (cc)

-- the two lowest bits are set
or_three : (x : ℕ) → bit_or x 3 + x % 4 ≡ x + 3
or_three x = ap (λ n. bit_or x 3 + n) (sym (and_mask x 2)) ∙ or_add_and x 3

-- what setting the lowest bits of the lists' word leaves
abbrev pub SetsLow : ℕ → Type 0
SetsLow k = (n : ℕ) → (bit_or n k % 2 ≡ 1) × (SaysEmpty (bit_or n k) → SaysEmpty n)

pub sets-one : SetsLow 1
sets-one n = let z : ℕ = bit_or n 1 in let is : z + n % 2 ≡ n + 1 = or_one n in (omega arith, λ below. omega arith)

pub sets-three : SetsLow 3
sets-three n = let z : ℕ = bit_or n 3 in let is : z + n % 4 ≡ n + 3 = or_three n in (omega arith, λ below. omega arith)

-- where no seat has the flag, their number is 0
pub number-no : {V : Type 0} (flag : V → Bool) (l : List V) → ((i : ℕ) (v : V) → get_elem? l i ≡ some v → flag v ≡ false) → number flag l ≡ 0
number-no flag [] none = refl
number-no flag (x ∷ xs) none = let w : weight (flag x) ≡ 0 = ap weight (none 0 x refl) in let m = number-no flag xs (λ i v e. none (suc i) v e) in omega arith
