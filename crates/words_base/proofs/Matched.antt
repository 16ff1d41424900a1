-- The entries of a list and the seats that stand in it, as one seat's view changes.
use Rattle.std.proofs.Common.{◌≡◌, ◌≢◌, ℕ, zero, suc, ◌≤◌, Bool, true, false, List, [], ◌∷◌, ◌++◌, length, set, sym, refl, ap, ◌∙◌, subst, arith, ⊎_elim}
use mathlib.Core.Option.{some, some-injective, some-ne-none}
use lib.ListN.{get_elem?}
use Rattle.atomic_table.proofs.Lists.{at_set, at_snoc}
use Rattle.words_base.specs.Sums.{weight, number}
use Rattle.words_base.specs.Waiting.{Has, all_but, Matched}
use Rattle.words_base.proofs.Waiting.{joined_by, in_joined, at_end, left_by, others_stay, shorter}
use Rattle.words_base.proofs.Views as views

module _ {V : Type 0} (IsOf : ℕ → V → Type 0) where
  -- nobody stands in an empty list
  pub nobody_stands : (first : V) (entries : List ℕ) → entries ≡ [] → ((n : ℕ) → IsOf n first → ⊥) → Matched IsOf entries (first ∷ [])
  nobody_stands first entries none away = record {
    each = λ n h. absurd (subst (Has n) none h);
    there = λ n i v e is. absurd (only i v e n is);
    apart = λ n i j v w e f is also. absurd (only i v e n is);
  }
    where
      only : (i : ℕ) (v : V) → get_elem? (first ∷ []) i ≡ some v → (n : ℕ) → IsOf n v → ⊥
      only zero v e n is = away n (subst (IsOf n) (sym (some-injective first v e)) is)
      only (suc i) v e n is = some-ne-none v (sym e)

  -- one seat more, which doesn't stand in it
  pub longer : (entries : List ℕ) (l : List V) (w : V) → ((n : ℕ) → IsOf n w → ⊥) → Matched IsOf entries l → Matched IsOf entries (l ++ w ∷ [])
  longer entries l w away m = record {
    each = λ n h. views.some-longer (IsOf n) l w (m.each n h);
    there = λ n i v e is. m.there n i v (old n i v e is) is;
    apart = λ n i j v u e f is also. m.apart n i j v u (old n i v e is) (old n j u f also) is also;
  }
    where
      old : (n i : ℕ) (v : V) → get_elem? (l ++ w ∷ []) i ≡ some v → IsOf n v → get_elem? l i ≡ some v
      old n i v e is = ⊎_elim (λ o. o) (λ same. absurd (away n (subst (IsOf n) (sym same) is))) (at_snoc l w v i e)

  module _ (entries : List ℕ) (l : List V) (id : ℕ) (v : V) (at : get_elem? l id ≡ some v) (m : Matched IsOf entries l) where
    -- the seat stands in it as it did
    pub kept : (w : V) → ((n : ℕ) → IsOf n v → IsOf n w) → ((n : ℕ) → IsOf n w → IsOf n v) → Matched IsOf entries (set l id w)
    kept w to from = record {
      each = λ n h. views.stays l id v at (IsOf n) w (to n) (m.each n h);
      there = λ n i u e is. let o = was n i u e is in m.there n i o.0 o.1 o.2;
      apart = λ n i j u x e f is also. let o = was n i u e is in let p = was n j x f also in m.apart n i j o.0 p.0 o.1 p.1 o.2 p.2;
    }
      where
        was : (n i : ℕ) (u : V) → get_elem? (set l id w) i ≡ some u → IsOf n u → (o : V) × (get_elem? l i ≡ some o) × IsOf n o
        was n i u e is = ⊎_elim (λ here. (v, subst (λ j. get_elem? l j ≡ some v) (sym here.0) at, from n (subst (IsOf n) (sym here.1) is))) (λ else. (u, else.1, is)) (at_set l id i w u e)

    -- the seat has joined it at the end
    pub joined : (k : ℕ) (w : V) → ((n : ℕ) → IsOf n v → ⊥) → IsOf k w → ((n : ℕ) → IsOf n w → n ≡ k) → (Has k entries → ⊥) → Matched IsOf (entries ++ k ∷ []) (set l id w)
    joined k w away mine only fresh = record {
      each = λ n h. ⊎_elim (λ old. views.own_else l id v at (IsOf n) w (away n) (m.each n old)) (λ new. views.own l id v at (IsOf n) w (subst (λ j. IsOf j w) (sym new) mine)) (joined_by k entries n h);
      there = λ n i u e is. ⊎_elim (λ here. subst (λ j. Has j (entries ++ k ∷ [])) (sym (only n (subst (IsOf n) (sym here.1) is))) (at_end k entries)) (λ else. in_joined n k entries (m.there n i u else.1 is)) (at_set l id i w u e);
      apart = λ n i j u x e f is also. ⊎_elim
          (λ here. ⊎_elim (λ too. here.0 ∙ sym too.0) (λ else. absurd (twice n j x else.1 also (only n (subst (IsOf n) (sym here.1) is)))) (at_set l id j w x f))
          (λ else. ⊎_elim (λ here. absurd (twice n i u else.1 is (only n (subst (IsOf n) (sym here.1) also)))) (λ too. m.apart n i j u x else.1 too.1 is also) (at_set l id j w x f))
          (at_set l id i w u e);
    }
      where
        twice : (n i : ℕ) (u : V) → get_elem? l i ≡ some u → IsOf n u → n ≡ k → ⊥
        twice n i u e is same = fresh (subst (λ j. Has j entries) same (m.there n i u e is))

    -- the seat has left it
    pub left : (k : ℕ) (w : V) → IsOf k v → ((n : ℕ) → IsOf n v → n ≡ k) → ((n : ℕ) → IsOf n w → ⊥) → Matched IsOf (all_but k entries) (set l id w)
    left k w mine only gone = record {
      each = λ n h. let o = left_by k entries n h in views.own_else l id v at (IsOf n) w (λ is. o.1 (only n is)) (m.each n o.0);
      there = λ n i u e is. let o = other n i u e is in others_stay k n entries (λ same. o.0 (m.apart n i id u v o.1 at is (subst (λ j. IsOf j v) (sym same) mine))) (m.there n i u o.1 is);
      apart = λ n i j u x e f is also. m.apart n i j u x (other n i u e is).1 (other n j x f also).1 is also;
    }
      where
        other : (n i : ℕ) (u : V) → get_elem? (set l id w) i ≡ some u → IsOf n u → (i ≢ id) × (get_elem? l i ≡ some u)
        other n i u e is = ⊎_elim (λ here. absurd (gone n (subst (IsOf n) (sym here.1) is))) (λ else. else) (at_set l id i w u e)

-- No more seats stand in a list than it has entries.
module _ {V : Type 0} (stands : V → Bool) (entry : V → ℕ) where
  abbrev There : List ℕ → List V → Type 0
  There entries l = (i : ℕ) (v : V) → get_elem? l i ≡ some v → stands v ≡ true → Has (entry v) entries

  abbrev Apart : List V → Type 0
  Apart l = (i j : ℕ) (v w : V) → get_elem? l i ≡ some v → get_elem? l j ≡ some w → stands v ≡ true → stands w ≡ true → entry v ≡ entry w → i ≡ j

  few_by : (entries : List ℕ) (x : V) (xs : List V) (b : Bool) → stands x ≡ b → There entries (x ∷ xs) → Apart (x ∷ xs) → ((es : List ℕ) → There es xs → number stands xs ≤ length es) → number stands (x ∷ xs) ≤ length entries
  few_by entries x xs true is all apart more =
      let one : weight (stands x) ≡ 1 = ap weight is in let s = shorter (entry x) entries (all 0 x refl is) in
      let rest = more (all_but (entry x) entries) (λ i v e st. others_stay (entry x) (entry v) entries (λ same. absurd (let z = apart (suc i) 0 v x e refl st is same in omega (arith, z))) (all (suc i) v e st)) in omega arith
  few_by entries x xs false is all apart more = let none : weight (stands x) ≡ 0 = ap weight is in let rest = more entries (λ i v e st. all (suc i) v e st) in omega arith

  few : (entries : List ℕ) (l : List V) → There entries l → Apart l → number stands l ≤ length entries
  few entries [] all apart = omega arith
  few entries (x ∷ xs) all apart = few_by entries x xs (stands x) refl all apart
      (λ es there. few es xs there (λ i j v w e f a b same. let z = apart (suc i) (suc j) v w e f a b same in omega (arith, z)))

  pub at_most : (entries : List ℕ) (l : List V) → Matched (λ n v. (stands v ≡ true) × (entry v ≡ n)) entries l → number stands l ≤ length entries
  at_most entries l m = few entries l (λ i v e st. m.there (entry v) i v e (st, refl)) (λ i j v w e f a b same. m.apart (entry v) i j v w e f (a, refl) (b, sym same))
