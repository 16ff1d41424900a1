-- The first of a list of which something is so, and how many there are: for any list of parties, whatever is said of each.
use Rattle.world_mutex.proofs.Prelude.{◌≡◌, ℕ, ◌+◌, ◌-◌, ◌≤◌, Bool, true, false, List, [], ◌∷◌, map, get_or, zero, suc, refl, arith, ap, sym, ◌∙◌, subst, Option, Some, None, if◌then◌else◌, set, sum_by, sum_by-cons, Entry, some_eq, unstarved_in, how_many, is_on, first_from}
use Rattle.std.specs.Prelude.{◌==◌, is_some}
use Rattle.world_mutex.specs.machine.Course.{bit}

pub is_one : (b : Bool) → bit b ≡ 1 → b ≡ true
is_one true h = refl
is_one false h = absurd (omega arith)

pub is_zero : (b : Bool) → bit b ≡ 0 → b ≡ false
is_zero true h = absurd (omega arith)
is_zero false h = refl

-- the entries of those of which it isn't so are as many in their roster
one_if : (b : Bool) → (if b then 1 else 0) ≡ bit b
one_if true = refl
one_if false = refl

none_if : (b : Bool) → (if b then 0 else 1) ≡ 1 - bit b
none_if true = refl
none_if false = refl

-- it is said of each as 1 or 0, and of none past the list
module _ {A : Type 0} (has : A → ℕ) (none : A) (bits : (x : A) → bit (has x == 1) ≡ has x) (nothing : has none ≡ 0) where
  abbrev test : A → Bool
  test x = has x == 1

  abbrev at : List A → ℕ → A
  at xs p = get_or xs p none

  pub on_at : (xs : List A) (p : ℕ) → get_or (map test xs) p false ≡ test (at xs p)
  on_at [] p = sym (is_zero (test none) (bits none ∙ nothing))
  on_at (x ∷ xs) zero = refl
  on_at (x ∷ xs) (suc p) = on_at xs p

  -- where it is said of none, it isn't said of this one
  pub none_there : (xs : List A) (p : ℕ) → sum_by has xs ≡ 0 → has (at xs p) ≡ 0
  none_there [] p e = nothing
  none_there (x ∷ xs) zero e = omega (arith, sum_by-cons has x xs, e)
  none_there (x ∷ xs) (suc p) e = none_there xs p (omega (arith, sum_by-cons has x xs, e))

  pub none_on : (xs : List A) (p : ℕ) → sum_by has xs ≡ 0 → get_or (map test xs) p false ≡ false
  none_on xs p none = on_at xs p ∙ is_zero (test (at xs p)) (bits (at xs p) ∙ none_there xs p none)

  pub how_many_on : (xs : List A) → how_many (map test xs) ≡ sum_by has xs
  how_many_on [] = refl
  how_many_on (x ∷ xs) = omega (arith, one_if (test x), sum_by-cons has x xs, bits x, how_many_on xs)

  pub off_listed : (xs : List A) (es : List (Entry ℕ)) → unstarved_in (map test xs) es ≡ sum_by (λ e. 1 - has (at xs e.key)) es
  off_listed xs [] = refl
  off_listed xs (e ∷ es) =
      let x : A = at xs e.key in
      let here : (if is_on (map test xs) e.key then 0 else 1) ≡ 1 - has x =
      ap (λ b. if b then 0 else 1) (on_at xs e.key) ∙ (none_if (test x) ∙ ap (λ c. 1 - c) (bits x)) in
      omega (arith, here, sum_by-cons (λ e. 1 - has (at xs e.key)) e es, off_listed xs es)

  nobody_here : (n : ℕ) (x : A) (xs : List A) → has x ≡ 0 → first_from test n (x ∷ xs) ≡ first_from test (n + 1) xs
  nobody_here n x xs h = rw (is_zero (test x) (bits x ∙ h)) refl

  held_here : (n : ℕ) (x : A) (xs : List A) → has x ≡ 1 → first_from test n (x ∷ xs) ≡ Some n
  held_here n x xs h = rw (is_one (test x) (bits x ∙ h)) refl

  pub none_held : (n : ℕ) (xs : List A) → sum_by has xs ≡ 0 → first_from test n xs ≡ None
  none_held n [] h = refl
  none_held n (x ∷ xs) h =
      let sum = sum_by-cons has x xs in
      nobody_here n x xs (omega arith) ∙ none_held (n + 1) xs (omega arith)

  some_hold : (xs : List A) (p : ℕ) → has (at xs p) ≡ 1 → 1 ≤ sum_by has xs
  some_hold [] p h = absurd (omega (arith, nothing))
  some_hold (x ∷ xs) zero h = let sum = sum_by-cons has x xs in omega arith
  some_hold (x ∷ xs) (suc p) h =
      let sum = sum_by-cons has x xs in
      let more : 1 ≤ sum_by has xs = some_hold xs p h in
      omega arith

  pub held_at : (n : ℕ) (xs : List A) (p : ℕ) → has (at xs p) ≡ 1 → sum_by has xs ≤ 1 → first_from test n xs ≡ Some (n + p)
  held_at n [] p h one = absurd (omega (arith, nothing))
  held_at n (x ∷ xs) zero h one = held_here n x xs h ∙ ap Some (omega arith)
  held_at n (x ∷ xs) (suc p) h one =
      let sum = sum_by-cons has x xs in
      let more : 1 ≤ sum_by has xs = some_hold xs p h in
      nobody_here n x xs (omega arith) ∙ (held_at (n + 1) xs p h (omega arith) ∙ ap Some (omega arith))

  nobody : (b : Bool) (n : ℕ) (xs : List A) → (if b then Some n else first_from test (n + 1) xs) ≡ None → (b ≡ false) × (first_from test (n + 1) xs ≡ None)
  nobody true n xs h = absurd (cc)
  nobody false n xs h = (refl, h)

  pub none_holds : (n : ℕ) (xs : List A) → first_from test n xs ≡ None → sum_by has xs ≡ 0
  none_holds n [] h = refl
  none_holds n (x ∷ xs) h =
      let r = nobody (test x) n xs h in
      let out : has x ≡ 0 = sym (bits x) ∙ ap bit r.0 in
      omega (arith, sum_by-cons has x xs, none_holds (n + 1) xs r.1)

  pick : (b : Bool) (n : ℕ) (x : A) (xs : List A) (k : ℕ) → test x ≡ b → (if b then Some n else first_from test (n + 1) xs) ≡ Some k
      → (first_from test (n + 1) xs ≡ Some k → (p : ℕ) × (k ≡ (n + 1) + p) × (has (at xs p) ≡ 1))
      → (p : ℕ) × (k ≡ n + p) × (has (at (x ∷ xs) p) ≡ 1)
  pick true n x xs k is h more = let e : n ≡ k = some_eq h in (0, omega arith, sym (bits x) ∙ ap bit is)
  pick false n x xs k is h more = let r = more h in (suc r.0, omega (arith, r.1), r.2)

  pub holder_place : (n : ℕ) (xs : List A) (k : ℕ) → first_from test n xs ≡ Some k → (p : ℕ) × (k ≡ n + p) × (has (at xs p) ≡ 1)
  holder_place n [] k h = absurd (cc)
  holder_place n (x ∷ xs) k h = pick (test x) n x xs k refl h (holder_place (n + 1) xs k)

  pub same_holder : (n : ℕ) (xs : List A) (p : ℕ) (to : A) → test to ≡ test (at xs p) → first_from test n (set xs p to) ≡ first_from test n xs
  same_holder n [] p to h = refl
  same_holder n (x ∷ xs) zero to h = rw h refl
  same_holder n (x ∷ xs) (suc p) to h = ap (λ o. if test x then Some n else o) (same_holder (n + 1) xs p to h)

  pub is_held_by : (xs : List A) (p : ℕ) → first_from test 0 xs ≡ Some p → has (at xs p) ≡ 1
  is_held_by xs p h =
      let found = holder_place 0 xs p h in
      let same : found.0 ≡ p = omega (arith, found.1) in
      let P : ℕ → Type 0 = λ j. has (at xs j) ≡ 1 in
      subst P same found.2

  pub holds_it : (xs : List A) (p : ℕ) → sum_by has xs ≤ 1 → has (at xs p) ≡ 1 → first_from test 0 xs ≡ Some p
  holds_it xs p one h = held_at 0 xs p h one ∙ ap Some (omega arith)

  some_seen : (o : Option ℕ) → (o ≡ None → ⊥) → true ≡ is_some o
  some_seen None h = absurd (h refl)
  some_seen (Some p) h = refl

  pub held_seen : (b : Bool) (xs : List A) → bit b ≡ sum_by has xs → b ≡ is_some (first_from test 0 xs)
  held_seen true xs h = some_seen (first_from test 0 xs) (λ none. let no = none_holds 0 xs none in absurd (omega arith))
  held_seen false xs h = sym (ap is_some (none_held 0 xs (sym h)))
