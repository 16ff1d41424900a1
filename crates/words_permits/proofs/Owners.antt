-- Seats of which something is so, as one of them changes; and who stands in a list.
use Rattle.std.proofs.Common.{◌≡◌, ◌≢◌, eq-eqb, true≢false, ℕ, zero, suc, ◌<◌, ◌≤◌, ◌⊎◌, inl, inr, ⊎_elim, Bool, true, false, List, [], ◌∷◌, ◌++◌, set, sym, refl, ap, ◌∙◌, subst, arith, ne_eqb}
use mathlib.Core.Option.{some, some-injective, some-ne-none}
use mathlib.Core.Logic.{dite}
use native.Mathlib.Decide.{ℕ_discrete}
use lib.ListN.{get_elem?}
use Rattle.atomic_table.proofs.Lists.{set_else, at_longer, at_snoc}
use Rattle.words_base.specs.Sums.{weight, number}
use Rattle.words_base.proofs.Sums.{number-snoc}
use Rattle.words_base.specs.Waiting as waiting
use Rattle.words_base.specs.Waiting.{unless}
use Rattle.words_permits.specs.Rule.{SomeSeat}
use Rattle.words_permits.specs.Waiters.{Waiter, StandsIn, last_or, is_of, numbers, all_but, HasNo, AreWaiters}
use Rattle.words_permits.specs.declared.view.View.{View}

pub set_at : {A : Type 0} (l : List A) (i : ℕ) (v w : A) → get_elem? l i ≡ some v → get_elem? (set l i w) i ≡ some w
set_at [] i v w e = absurd (some-ne-none v (sym e))
set_at (x ∷ xs) zero v w e = refl
set_at (x ∷ xs) (suc i) v w e = set_at xs i v w e

module _ (P Q : View → Type 0) where
  -- one seat has another view
  pub some-set : (l : List View) (id : ℕ) (v w : View) → get_elem? l id ≡ some v → (P v → Q w) → ((u : View) → P u → Q u) → SomeSeat l P → SomeSeat (set l id w) Q
  some-set l id v w at mine others p = dite (ℕ_discrete p.0 id)
      (λ same. let is : p.1 ≡ v = some-injective p.1 v (sym p.2 ∙ (ap (λ (k : ℕ). get_elem? l k) same ∙ at)) in (id, w, set_at l id v w at, mine (subst P is p.3)))
      (λ ne. (p.0, p.1, set_else l id p.0 w ne ∙ p.2, others p.1 p.3))

module _ (P : View → Type 0) where
  pub some-mine : (l : List View) (id : ℕ) (v w : View) → get_elem? l id ≡ some v → P w → SomeSeat (set l id w) P
  some-mine l id v w at p = (id, w, set_at l id v w at, p)

  pub some-snoc : (l : List View) (w : View) → SomeSeat l P → SomeSeat (l ++ w ∷ []) P
  some-snoc l w p = (p.0, p.1, at_longer l (w ∷ []) p.0 p.1 p.2, p.3)

-- who stands in a list that one has joined
pub stands-snoc : (l : List Waiter) (w e : Waiter) → StandsIn (l ++ w ∷ []) e → StandsIn l e ⊎ (w ≡ e)
stands-snoc l w e s = ⊎_elim (λ old. inl (s.0, old)) (λ new. inr new) (at_snoc l w e s.0 s.1)

pub nobody-stands : (l : List Waiter) (e : Waiter) → l ≡ [] → StandsIn l e → {P : Type 0} → P
nobody-stands l e empty s = absurd (some-ne-none e (sym s.1 ∙ ap (λ (m : List Waiter). get_elem? m s.0) empty))

pub last-snoc : (d : Waiter) (l : List Waiter) (w : Waiter) → last_or d (l ++ w ∷ []) ≡ w
last-snoc d [] w = refl
last-snoc d (x ∷ xs) w = last-snoc x xs w

weight-le : (b : Bool) → weight b ≤ 1
weight-le true = omega arith
weight-le false = omega arith

-- one joins whose number no entry has
pub sound-snoc : (l : List Waiter) (w : Waiter) → AreWaiters l → HasNo w.entry l → 0 < w.weight → AreWaiters (l ++ w ∷ [])
sound-snoc l w sound absent counts = (
  (λ e s. ⊎_elim (λ old. sound.0 e old) (λ new. subst (λ (u : Waiter). 0 < u.weight) new counts) (stands-snoc l w e s)),
  λ n. let k = number-snoc (is_of n) l w in let one = sound.1 n in let small = weight-le (is_of n w) in
      dite (ℕ_discrete w.entry n)
      (λ same. let z : number (is_of n) l ≡ 0 = subst (λ (m : ℕ). number (is_of m) l ≡ 0) same absent in omega arith)
      (λ ne. let z : weight (is_of n w) ≡ 0 = ap weight (ne_eqb w.entry n ne) in omega arith),
)

-- the numbers of a list that one has joined, and of one that one has left
pub numbers-snoc : (l : List Waiter) (w : Waiter) → numbers (l ++ w ∷ []) ≡ numbers l ++ w.entry ∷ []
numbers-snoc [] w = refl
numbers-snoc (x ∷ xs) w = ap (λ (ns : List ℕ). x.entry ∷ ns) (numbers-snoc xs w)

numbers_head : (b : Bool) (x : Waiter) (l : List Waiter) (ns : List ℕ) → numbers l ≡ ns → numbers (unless b x l) ≡ unless b x.entry ns
numbers_head true x l ns same = same
numbers_head false x l ns same = ap (λ (ms : List ℕ). x.entry ∷ ms) same

pub numbers-but : (n : ℕ) (l : List Waiter) → numbers (all_but n l) ≡ waiting.all_but n (numbers l)
numbers-but n [] = refl
numbers-but n (x ∷ xs) = numbers_head (is_of n x) x (all_but n xs) (waiting.all_but n (numbers xs)) (numbers-but n xs)

-- no entry has the number: nor has the list of numbers
pub new-number : (n : ℕ) (l : List Waiter) → HasNo n l → waiting.IsNew n (numbers l)
new-number n [] none h = h
new-number n (x ∷ xs) none h = ⊎_elim (λ here. let w : weight (is_of n x) ≡ 1 = ap weight (eq-eqb x.entry n here) in absurd (omega arith)) (λ later. new-number n xs (let z : number (is_of n) xs ≡ 0 = omega arith in z) later) h

-- whoever is left stood there, and has another number
left_head : (n : ℕ) (b : Bool) (x : Waiter) (l r : List Waiter) → is_of n x ≡ b → ((w : Waiter) → StandsIn r w → StandsIn l w × (w.entry ≢ n)) → (w : Waiter) → StandsIn (unless b x r) w → StandsIn (x ∷ l) w × (w.entry ≢ n)
left_head n true x l r is all w s = let o = all w s in ((suc o.0.0, o.0.1), o.1)
left_head n false x l r is all w s = ⊎_elim (λ here. ((0, ap some here), λ same. true≢false (sym (eq-eqb x.entry n (ap (λ (u : Waiter). u.entry) here ∙ same)) ∙ is))) (λ later. let o = all w later in ((suc o.0.0, o.0.1), o.1)) (front x r w s)
  where
    front : (x : Waiter) (r : List Waiter) (w : Waiter) → StandsIn (x ∷ r) w → (x ≡ w) ⊎ StandsIn r w
    front x r w (zero, e) = inl (some-injective x w e)
    front x r w (suc k, e) = inr (k, e)

pub left-by : (n : ℕ) (l : List Waiter) (w : Waiter) → StandsIn (all_but n l) w → StandsIn l w × (w.entry ≢ n)
left-by n [] w s = absurd (some-ne-none w (sym s.1))
left-by n (x ∷ xs) w s = left_head n (is_of n x) x xs (all_but n xs) refl (left-by n xs) w s

-- no number comes to stand there more often
fewer_head : (test : Waiter → Bool) (b : Bool) (x : Waiter) (l r : List Waiter) → number test r ≤ number test l → number test (unless b x r) ≤ number test (x ∷ l)
fewer_head test true x l r few = omega arith
fewer_head test false x l r few = omega arith

fewer-but : (test : Waiter → Bool) (n : ℕ) (l : List Waiter) → number test (all_but n l) ≤ number test l
fewer-but test n [] = omega arith
fewer-but test n (x ∷ xs) = fewer_head test (is_of n x) x xs (all_but n xs) (fewer-but test n xs)

pub sound-but : (n : ℕ) (l : List Waiter) → AreWaiters l → AreWaiters (all_but n l)
sound-but n l sound = ((λ w s. sound.0 w (left-by n l w s).0), λ k. let f = fewer-but (is_of k) n l in let one = sound.1 k in omega arith)

-- nobody leaves where no entry has the number
same_head : (n : ℕ) (b : Bool) (x : Waiter) (l r : List Waiter) → is_of n x ≡ b → weight (is_of n x) ≡ 0 → r ≡ l → unless b x r ≡ x ∷ l
same_head n true x l r is none same = let w : weight (is_of n x) ≡ 1 = ap weight is in absurd (omega arith)
same_head n false x l r is none same = ap (λ (m : List Waiter). x ∷ m) same

pub all-stay : (n : ℕ) (l : List Waiter) → HasNo n l → all_but n l ≡ l
all-stay n [] none = refl
all-stay n (x ∷ xs) none = same_head n (is_of n x) x xs (all_but n xs) refl (let z : weight (is_of n x) ≡ 0 = omega arith in z) (all-stay n xs (let z : number (is_of n) xs ≡ 0 = omega arith in z))
