-- A call that is decided ends within the steps that are left of it, where no step of another makes them more.
use Rattle.world_base.proofs.Prelude.{◌≡◌, ◌≢◌, ℕ, zero, suc, ◌<◌, ◌≤◌, inl, inr, Bool, true, Option, Some, None, refl, arith, ap, sym, ◌∙◌, subst, Answer, Call, Inputs, Move, What, Begin, Go, Rest, Within, Standing, inside, is_decided, call_in, call_of, decision, StandsAfter, IsPossible, EndsProperly, going_on}
use Rattle.world_base.proofs.Equations.{decided_inside, inside_begins}
use Rattle.world_base.specs.Ending.{GoesOnFor, EndsWithin}
use Rattle.std.proofs.Math.Decide.{ℕ_discrete}

-- what is answered Stepped to a party inside a call is its next step, and leaves it inside
stays_inside : (ready : Rest) (u : Within) (t : Standing) → StandsAfter ready u Answer.Stepped t → (d : Option Answer) × (t ≡ inside u d)
stays_inside ready u t s = s

module _ {W : Type 0} (Steps : W → Move → Answer → W → Type 0) (standing_of : W → ℕ → Standing) (knows : W → ℕ → Call → Bool) (ready : Rest) (left : W → ℕ → ℕ) (most : ℕ)
    (possible : (w : W) (m : Move) (a : Answer) (v : W) → Steps w m a v → IsPossible standing_of knows w m a v)
    (ends : (w : W) (m : Move) (a : Answer) (v : W) → Steps w m a v → EndsProperly standing_of knows ready w m a v)
    (others : (w : W) (m : Move) (a : Answer) (v : W) → Steps w m a v → (q : ℕ) → q ≢ m.party → standing_of v q ≡ standing_of w q)
    (falls : (w : W) (p : ℕ) (i : Inputs) (v : W) → Steps w (going_on p i) Answer.Stepped v → is_decided (standing_of w p) ≡ true → is_decided (standing_of v p) ≡ true → left v p < left w p)
    (keeps : (w : W) (m : Move) (a : Answer) (v : W) → Steps w m a v → (q : ℕ) → q ≢ m.party → is_decided (standing_of w q) ≡ true → left v q ≤ left w q)
    (few : (w : W) (m : Move) (a : Answer) (v : W) → Steps w m a v → (q : ℕ) → is_decided (standing_of w q) ≡ true → left w q ≤ most)
    (some : (w : W) (m : Move) (a : Answer) (v : W) → Steps w m a v → (q : ℕ) → (0 < left w q) × (0 < left v q)) where
  -- after a step of its own that is answered Stepped a party is decided still, with fewer steps left
  own : (w : W) (what : What) (p : ℕ) (v : W) → Steps w (record { party = p; what = what }) Answer.Stepped v → is_decided (standing_of w p) ≡ true → (left v p < left w p) × (is_decided (standing_of v p) ≡ true)
  own w (Begin c i) p v s decided =
      let d = decided_inside (standing_of w p) decided in
      let none : call_of standing_of knows w (record { party = p; what = Begin c i }) ≡ None = inside_begins (knows w p) d.0 (Some d.1) (standing_of w p) c i d.2 in
      let not : Answer.Stepped ≡ Answer.NotPossible = (possible w (record { party = p; what = Begin c i }) Answer.Stepped v s).exactly.1 none in
      absurd (cc (not))
  own w (Go i) p v s decided =
      let d = decided_inside (standing_of w p) decided in
      let called : call_of standing_of knows w (going_on p i) ≡ Some d.0 = ap (λ z. call_in (knows w p) z (Go i)) d.2 in
      let proper = ends w (going_on p i) Answer.Stepped v s in
      let still = stays_inside ready d.0 (standing_of v p) (proper.stands d.0 called) in
      let same : decision Answer.Stepped (standing_of v p) ≡ Some d.1 = proper.as_decided d.0 d.1 d.2 refl in
      let kept : still.0 ≡ Some d.1 = sym (ap (decision Answer.Stepped) still.1) ∙ same in
      let on : is_decided (standing_of v p) ≡ true = ap is_decided (still.1 ∙ ap (inside d.0) kept) in
      (falls w p i v s decided on, on)

  -- a step of another, or one that isn't possible
  other : (w : W) (m : Move) (a : Answer) (v : W) (p : ℕ) → Steps w m a v → is_decided (standing_of w p) ≡ true → (m.party ≡ p → a ≡ Answer.NotPossible) → (left v p ≤ left w p) × (is_decided (standing_of v p) ≡ true)
  other w m a v p s decided not = elim (ℕ_discrete m.party p) as (λ _. (left v p ≤ left w p) × (is_decided (standing_of v p) ≡ true)) [
    | yes is ↦ (let same : v ≡ w = (possible w m a v s).unchanged (not is) in (omega (arith, ap (λ x. left x p) same), ap (λ x. is_decided (standing_of x p)) same ∙ decided))
    | no is ↦ (let apart : p ≢ m.party = λ e. is (sym e) in (keeps w m a v s p apart decided, ap is_decided (others w m a v s p apart) ∙ decided))
  ]

  -- no more of its own steps than are left
  within_left : (p steps n : ℕ) (w v : W) → 0 < left w p → is_decided (standing_of w p) ≡ true → GoesOnFor Steps standing_of p steps n w v → n < left w p
  within_left p zero n w v here decided h = omega (arith, h.0, here)
  within_left p (suc steps) n w v here decided h =
      let m : Move = h.0 in
      let a : Answer = h.1 in
      let mid : W = h.2 in
      let s : Steps w m a mid = h.3 in
      let k : ℕ = h.4 in
      let next : 0 < left mid p = (some w m a mid s p).1 in
      elim h.6 as (λ _. n < left w p) [
        | inl by ↦ (let kept = other w m a mid p s decided by.0 in let later : k < left mid p = within_left p steps k mid v next kept.1 h.5 in omega (arith, by.1, kept.0, later))
        | inr by ↦ (
            let M : ℕ → Type 0 = λ q. Steps w (record { party = q; what = m.what }) Answer.Stepped mid in
            let A : Answer → Type 0 = λ b. Steps w m b mid in
            let fell = own w m.what p mid (subst M by.0 (subst A by.1 s)) decided in
            let later : k < left mid p = within_left p steps k mid v next fell.1 h.5 in
            omega (arith, by.2, fell.0, later))
      ]

  pub ends_within : 0 < most → (w : W) → EndsWithin Steps standing_of most w
  ends_within positive w p zero n v decided h = omega (arith, h.0, positive)
  ends_within positive w p (suc steps) n v decided h =
      let here : 0 < left w p = (some w h.0 h.1 h.2 h.3 p).0 in
      let at_most : left w p ≤ most = few w h.0 h.1 h.2 h.3 p decided in
      let counted : n < left w p = within_left p (suc steps) n w v here decided h in
      omega (arith, at_most, counted)
