-- Lists of numbers that one has joined, or left.
use Rattle.std.proofs.Common.{◌≡◌, ◌≢◌, ℕ, ◌+◌, ◌≤◌, ◌==◌, Bool, true, false, true≢false, List, [], ◌∷◌, ◌++◌, length, refl, sym, ap, ◌∙◌, arith, inl, inr, ⊎_elim, eq-eqb}
use Rattle.std.proofs.lemmas.Bool.{eqb-true}
use Rattle.words_base.specs.Waiting.{Has, JoinedBy, LeftBy, unless, all_but, last_of}

pub joined_by : (x : ℕ) (l : List ℕ) → JoinedBy x l (l ++ x ∷ [])
joined_by x [] n h = ⊎_elim (λ e. inr (sym e)) (λ z. absurd z) h
joined_by x (k ∷ ks) n h = ⊎_elim (λ e. inl (inl e)) (λ r. ⊎_elim (λ a. inl (inr a)) (λ b. inr b) (joined_by x ks n r)) h

pub in_joined : (n x : ℕ) (l : List ℕ) → Has n l → Has n (l ++ x ∷ [])
in_joined n x [] h = absurd h
in_joined n x (k ∷ ks) h = ⊎_elim (λ here. inl here) (λ later. inr (in_joined n x ks later)) h

pub at_end : (x : ℕ) (l : List ℕ) → Has x (l ++ x ∷ [])
at_end x [] = inl refl
at_end x (k ∷ ks) = inr (at_end x ks)

last-cons : (k : ℕ) (x : ℕ) (l : List ℕ) → last_of (k ∷ l ++ x ∷ []) ≡ last_of (l ++ x ∷ [])
last-cons k x [] = refl
last-cons k x (y ∷ ys) = refl

pub last-pushed : (x : ℕ) (l : List ℕ) → last_of (l ++ x ∷ []) ≡ x
last-pushed x [] = refl
last-pushed x (k ∷ ks) = last-cons k x ks ∙ last-pushed x ks

pub length-pushed : (x : ℕ) (l : List ℕ) → length (l ++ x ∷ []) ≡ length l + 1
length-pushed x [] = refl
length-pushed x (k ∷ ks) = let r = length-pushed x ks in omega arith

-- whoever is left was there, and isn't the one that has left
left_head : (k n x : ℕ) (b : Bool) (l r : List ℕ) → (x == k) ≡ b → (Has n r → Has n l × (n ≢ k)) → Has n (unless b x r) → Has n (x ∷ l) × (n ≢ k)
left_head k n x true l r is all h = let a = all h in (inr a.0, a.1)
left_head k n x false l r is all h = ⊎_elim (λ here. (inl here, λ mine. true≢false (sym (eq-eqb x k (here ∙ mine)) ∙ is))) (λ later. let a = all later in (inr a.0, a.1)) h

pub left_by : (k : ℕ) (l : List ℕ) → LeftBy k l (all_but k l)
left_by k [] n h = absurd h
left_by k (x ∷ xs) n h = left_head k n x (x == k) xs (all_but k xs) refl (left_by k xs n) h

-- and each other is left
kept_head : (k n x : ℕ) (b : Bool) (l r : List ℕ) → (x == k) ≡ b → n ≢ k → (Has n l → Has n r) → Has n (x ∷ l) → Has n (unless b x r)
kept_head k n x true l r is other all h = ⊎_elim (λ here. absurd (other (sym here ∙ eqb-true x k is))) (λ later. all later) h
kept_head k n x false l r is other all h = ⊎_elim (λ here. inl here) (λ later. inr (all later)) h

pub others_stay : (k n : ℕ) (l : List ℕ) → n ≢ k → Has n l → Has n (all_but k l)
others_stay k n [] other h = h
others_stay k n (x ∷ xs) other h = kept_head k n x (x == k) xs (all_but k xs) refl other (others_stay k n xs other) h

-- it is no longer, and shorter if the number was there
length_head : (x : ℕ) (b : Bool) (l r : List ℕ) → length r ≤ length l → length (unless b x r) ≤ length (x ∷ l)
length_head x true l r few = omega arith
length_head x false l r few = omega arith

pub no-longer : (k : ℕ) (l : List ℕ) → length (all_but k l) ≤ length l
no-longer k [] = omega arith
no-longer k (x ∷ xs) = length_head x (x == k) xs (all_but k xs) (no-longer k xs)

less_head : (k x : ℕ) (b : Bool) (l r : List ℕ) → (x == k) ≡ b → length r ≤ length l → (Has k l → length r + 1 ≤ length l) → Has k (x ∷ l) → length (unless b x r) + 1 ≤ length (x ∷ l)
less_head k x true l r is few less h = omega arith
less_head k x false l r is few less h = ⊎_elim (λ here. absurd (true≢false (sym (eq-eqb x k here) ∙ is))) (λ later. let m = less later in omega arith) h

pub shorter : (k : ℕ) (l : List ℕ) → Has k l → length (all_but k l) + 1 ≤ length l
shorter k [] h = absurd h
shorter k (x ∷ xs) h = less_head k x (x == k) xs (all_but k xs) refl (no-longer k xs) (shorter k xs) h

-- nobody has left where the number wasn't there
same_head : (k x : ℕ) (b : Bool) (l r : List ℕ) → (x == k) ≡ b → (Has k (x ∷ l) → ⊥) → r ≡ l → unless b x r ≡ x ∷ l
same_head k x true l r is none same = absurd (none (inl (eqb-true x k is)))
same_head k x false l r is none same = ap (λ m. x ∷ m) same

pub all_stay : (k : ℕ) (l : List ℕ) → (Has k l → ⊥) → all_but k l ≡ l
all_stay k [] none = refl
all_stay k (x ∷ xs) none = same_head k x (x == k) xs (all_but k xs) refl none (all_stay k xs (λ h. none (inr h)))
