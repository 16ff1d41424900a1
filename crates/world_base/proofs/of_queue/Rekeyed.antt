-- The list as its parties see it goes through the same list functions.
use Rattle.world_base.proofs.Prelude.{◌≡◌, ◌≢◌, ℕ, ◌+◌, ◌-◌, ◌<◌, Bool, List, [], ◌∷◌, length, zero, suc, slice_get, refl, ap, arith, sym, ◌∙◌, Option, Some, None, nat_tests, Mark, Waiting, Notified, Additional, Entry, entry, joined, notified, passed_on, without, is_marked_at, mark_at, mark_waiting, marked_count, key_at, rekeyed, is_party, entries_of}

module _ {K L : Type 0} (f : K → L) where
  pub length-rekeyed : (l : List (Entry K)) → length (rekeyed f l) ≡ length l
  length-rekeyed [] = refl
  length-rekeyed (e ∷ es) = grind (arith, length-rekeyed es)

  -- the entry at a place, with its key as the parties see it
  pub slice_get-rekeyed : (l : List (Entry K)) (i : ℕ) (e : Entry K) → slice_get l i ≡ Some e → slice_get (rekeyed f l) i ≡ Some (entry (f e.key) e.mark)
  slice_get-rekeyed [] i e h = absurd (cc)
  slice_get-rekeyed (x ∷ xs) zero e h = ap (λ (y : Entry K). Some (entry (f y.key) y.mark)) (cc)
  slice_get-rekeyed (x ∷ xs) (suc i) e h = slice_get-rekeyed xs i e h

  pub marked_count-rekeyed : (l : List (Entry K)) → marked_count (rekeyed f l) ≡ marked_count l
  marked_count-rekeyed [] = refl
  marked_count-rekeyed (e ∷ es) = grind (arith, marked_count-rekeyed es)

  pub rekeyed-joined : (l : List (Entry K)) (k : K) → rekeyed f (joined l k) ≡ joined (rekeyed f l) (f k)
  rekeyed-joined [] k = refl
  rekeyed-joined (e ∷ es) k = grind (arith, rekeyed-joined es k)

  pub rekeyed-mark_waiting : (m : Mark) (n : ℕ) (l : List (Entry K)) → rekeyed f (mark_waiting m n l) ≡ mark_waiting m n (rekeyed f l)
  rekeyed-mark_waiting m n [] = refl
  rekeyed-mark_waiting m n (e ∷ es) = grind (arith, rekeyed-mark_waiting m n es, rekeyed-mark_waiting m (n - 1) es)

  pub rekeyed-notified : (l : List (Entry K)) (n : ℕ) → rekeyed f (notified l n) ≡ notified (rekeyed f l) n
  rekeyed-notified l n = rekeyed-mark_waiting Notified (n - marked_count l) l ∙ ap (λ k. mark_waiting Notified (n - k) (rekeyed f l)) (sym (marked_count-rekeyed l))

  pub rekeyed-passed_on : (m : Option Mark) (l : List (Entry K)) → rekeyed f (passed_on m l) ≡ passed_on m (rekeyed f l)
  rekeyed-passed_on None l = refl
  rekeyed-passed_on (Some Waiting) l = refl
  rekeyed-passed_on (Some Notified) l = rekeyed-notified l 1
  rekeyed-passed_on (Some Additional) l = rekeyed-mark_waiting Additional 1 l

-- one party's entry, by its name and by its number
module _ {K : Type 0} (f : K → ℕ) (test : K → Bool) (p : ℕ) where
  -- the entry that passes the test is the party's only one
  pub record IsOnly (l : List (Entry K)) : Type 0 where
    pub key : K
    pub here : key_at test l ≡ Some key
    pub its : f key ≡ p
    pub alone : entries_of p (rekeyed f l) ≡ 1

  pub none_left : (l : List (Entry K)) (k : K) → key_at test l ≡ Some k → f k ≡ p → 0 < entries_of p (rekeyed f l)
  none_left [] k h e = absurd (cc)
  none_left (x ∷ xs) k h e = grind (arith, nat_tests, none_left xs k)

  pub rekeyed-without : (l : List (Entry K)) (k : K) → key_at test l ≡ Some k → f k ≡ p → entries_of p (rekeyed f l) ≡ 1 → rekeyed f (without test l) ≡ without (is_party p) (rekeyed f l)
  rekeyed-without [] k h e one = refl
  rekeyed-without (x ∷ xs) k h e one = grind (arith, nat_tests, rekeyed-without xs k, none_left xs k)

  pub mark_at-rekeyed : (l : List (Entry K)) (k : K) → key_at test l ≡ Some k → f k ≡ p → entries_of p (rekeyed f l) ≡ 1 → mark_at (is_party p) (rekeyed f l) ≡ mark_at test l
  mark_at-rekeyed [] k h e one = absurd (cc)
  mark_at-rekeyed (x ∷ xs) k h e one = grind (arith, nat_tests, mark_at-rekeyed xs k, none_left xs k)

  pub is_marked_at-rekeyed : (l : List (Entry K)) (k : K) → key_at test l ≡ Some k → f k ≡ p → entries_of p (rekeyed f l) ≡ 1 → is_marked_at (is_party p) (rekeyed f l) ≡ is_marked_at test l
  is_marked_at-rekeyed [] k h e one = absurd (cc)
  is_marked_at-rekeyed (x ∷ xs) k h e one = grind (arith, nat_tests, is_marked_at-rekeyed xs k, none_left xs k)

-- how many entries each party has
pub entries_of-joined : (j p : ℕ) (l : List (Entry ℕ)) → entries_of j (joined l p) ≡ entries_of j (entry p Waiting ∷ l)
entries_of-joined j p [] = refl
entries_of-joined j p (e ∷ es) = grind (arith, nat_tests, entries_of-joined j p es)

pub entries_of-mark_waiting : (j : ℕ) (m : Mark) (n : ℕ) (l : List (Entry ℕ)) → entries_of j (mark_waiting m n l) ≡ entries_of j l
entries_of-mark_waiting j m n [] = refl
entries_of-mark_waiting j m n (e ∷ es) = grind (arith, entries_of-mark_waiting j m n es, entries_of-mark_waiting j m (n - 1) es)

pub entries_of-passed_on : (j : ℕ) (m : Option Mark) (l : List (Entry ℕ)) → entries_of j (passed_on m l) ≡ entries_of j l
entries_of-passed_on j None l = refl
entries_of-passed_on j (Some Waiting) l = refl
entries_of-passed_on j (Some Notified) l = entries_of-mark_waiting j Notified (1 - marked_count l) l
entries_of-passed_on j (Some Additional) l = entries_of-mark_waiting j Additional 1 l

pub entries_of-without_own : (p : ℕ) (l : List (Entry ℕ)) → 0 < entries_of p l → entries_of p (without (is_party p) l) + 1 ≡ entries_of p l
entries_of-without_own p [] h = absurd (omega arith)
entries_of-without_own p (e ∷ es) h = grind (arith, nat_tests, entries_of-without_own p es)

pub entries_of-without_other : (j p : ℕ) (l : List (Entry ℕ)) → j ≢ p → entries_of j (without (is_party p) l) ≡ entries_of j l
entries_of-without_other j p [] h = refl
entries_of-without_other j p (e ∷ es) h = grind (arith, nat_tests, entries_of-without_other j p es)
