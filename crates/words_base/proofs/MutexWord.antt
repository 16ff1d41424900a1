-- How each kind of step keeps the word of a mutex, which may stand beside other words: i is its place, and the seat id goes from the view v to the view w.
use Rattle.std.proofs.Common.{◌≡◌, ◌≢◌, ℕ, ◌+◌, ◌*◌, ◌-◌, ◌/◌, ◌%◌, ◌^◌, ◌<◌, ◌≤◌, Bool, true, false, List, [], ◌∷◌, ◌++◌, length, get_or, set, sym, ap, ◌∙◌, subst, arith, length-set, get_or-set_same, get_or-set_other, bit_or}
use Rattle.std.specs.Int.Bits.{or_add_and}
use Rattle.std.proofs.lemmas.Nat.{and_mask}
use mathlib.Core.Option.{some}
use lib.ListN.{get_elem?}
use Rattle.words_base.specs.Sums.{weight, number}
use Rattle.words_base.specs.MutexWord.{IsWord}
use Rattle.words_base.proofs.Sums.{number-set, number-at, number-none}

-- the lowest bit is set
pub or_one : (x : ℕ) → bit_or x 1 + x % 2 ≡ x + 1
or_one x = ap (λ n. bit_or x 1 + n) (sym (and_mask x 1)) ∙ or_add_and x 1

module _ {V : Type 0} (holds starved : V → Bool) (most i : ℕ) where
  abbrev W : List ℕ → List V → Type 0
  W = IsWord holds starved most i

  placed : (ws : List ℕ) (vs : List V) (n : ℕ) → i < length ws → number holds vs ≤ 1 → number starved vs ≤ most → n ≡ number holds vs + 2 * number starved vs → W (set ws i n) vs
  placed ws vs n wide one few is = (subst (λ (z : ℕ). i < z) (sym (length-set ws i n)) wide, one, few, get_or-set_same ws i n 0 wide ∙ is)

  -- a new seat has no right
  pub comes : (ws : List ℕ) (vs : List V) (w : V) → W ws vs → holds w ≡ false → starved w ≡ false → W ws (vs ++ w ∷ [])
  comes ws vs w r h s = let hs = number-none holds vs w h in let ss = number-none starved vs w s in let one = r.1 in let few = r.2 in let is = r.3 in (r.0, omega arith, omega arith, omega arith)

  module _ (ws : List ℕ) (vs : List V) (id : ℕ) (v w : V) (r : W ws vs) (at : get_elem? vs id ≡ some v) where
    abbrev x : ℕ
    x = get_or ws i 0

    abbrev after : List V
    after = set vs id w

    -- the word and the flags are as they were
    pub stays : holds w ≡ holds v → starved w ≡ starved v → W (set ws i x) after
    stays h s = let hs = number-set holds vs id v w at in let ss = number-set starved vs id v w at in let h' : weight (holds w) ≡ weight (holds v) = ap weight h in let s' : weight (starved w) ≡ weight (starved v) = ap weight s in
        let one = r.1 in let few = r.2 in let is = r.3 in placed ws after x r.0 (omega arith) (omega arith) (omega arith)

    -- another word changes
    pub beside : (j n : ℕ) → i ≢ j → holds w ≡ holds v → starved w ≡ starved v → W (set ws j n) after
    beside j n else h s = let hs = number-set holds vs id v w at in let ss = number-set starved vs id v w at in let h' : weight (holds w) ≡ weight (holds v) = ap weight h in let s' : weight (starved w) ≡ weight (starved v) = ap weight s in
        let one = r.1 in let few = r.2 in let is = r.3 in let there : get_or (set ws j n) i 0 ≡ x = get_or-set_other ws j i n 0 else in
        (subst (λ (z : ℕ). i < z) (sym (length-set ws j n)) r.0, omega arith, omega arith, there ∙ (let it : x ≡ number holds after + 2 * number starved after = omega arith in it))

    -- from an even word nobody holds
    pub nobody : x % 2 ≡ 0 → number holds vs ≡ 0
    nobody even = let one = r.1 in let is = r.3 in omega arith

    -- the seat gets the lock, which is free
    pub gets : x % 2 ≡ 0 → holds w ≡ true → starved w ≡ starved v → W (set ws i (x + 1)) after × (number holds after ≡ 1)
    gets even h s = let hs = number-set holds vs id v w at in let ss = number-set starved vs id v w at in let h' : weight (holds w) ≡ 1 = ap weight h in let s' : weight (starved w) ≡ weight (starved v) = ap weight s in
        let none = nobody even in let mine = number-at holds vs id v at in let few = r.2 in let is = r.3 in (placed ws after (x + 1) r.0 (omega arith) (omega arith) (omega arith), omega arith)

    -- the seat gives the lock back
    pub clears : x < 2 ^ 64 → holds v ≡ true → holds w ≡ false → starved w ≡ starved v → W (set ws i ((x + (2 ^ 64 - 1)) % 2 ^ 64)) after
    clears fits h n s = let hs = number-set holds vs id v w at in let ss = number-set starved vs id v w at in let h' : weight (holds v) ≡ 1 = ap weight h in let n' : weight (holds w) ≡ 0 = ap weight n in let s' : weight (starved w) ≡ weight (starved v) = ap weight s in
        let one = r.1 in let few = r.2 in let is = r.3 in let small : x < 18446744073709551616 = fits in
        let less : (x + 18446744073709551615) % 18446744073709551616 ≡ number holds after + 2 * number starved after = omega arith in
        placed ws after ((x + (2 ^ 64 - 1)) % 2 ^ 64) r.0 (omega arith) (omega arith) less

    -- the seat is counted, below the limit
    pub counts : x / 2 < most → holds w ≡ holds v → starved v ≡ false → starved w ≡ true → W (set ws i (x + 2)) after
    counts below h n s = let hs = number-set holds vs id v w at in let ss = number-set starved vs id v w at in let h' : weight (holds w) ≡ weight (holds v) = ap weight h in let n' : weight (starved v) ≡ 0 = ap weight n in let s' : weight (starved w) ≡ 1 = ap weight s in
        let one = r.1 in let is = r.3 in let few : number starved vs < most = omega arith in placed ws after (x + 2) r.0 (omega arith) (omega arith) (omega arith)

    -- the seat's count goes off
    pub uncounts : x < 2 ^ 64 → holds w ≡ holds v → starved v ≡ true → starved w ≡ false → W (set ws i ((x + (2 ^ 64 - 2)) % 2 ^ 64)) after
    uncounts fits h n s = let hs = number-set holds vs id v w at in let ss = number-set starved vs id v w at in let h' : weight (holds w) ≡ weight (holds v) = ap weight h in let n' : weight (starved v) ≡ 1 = ap weight n in let s' : weight (starved w) ≡ 0 = ap weight s in
        let one = r.1 in let few = r.2 in let is = r.3 in let small : x < 18446744073709551616 = fits in
        let less : (x + 18446744073709551614) % 18446744073709551616 ≡ number holds after + 2 * number starved after = omega arith in
        placed ws after ((x + (2 ^ 64 - 2)) % 2 ^ 64) r.0 (omega arith) (omega arith) less
