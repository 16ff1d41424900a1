-- What is seen of each party of a machine, in lists.
use Rattle.world_base.proofs.Prelude.{◌≡◌, ℕ, zero, suc, ◌<◌, ◌≤◌, List, [], ◌∷◌, map, length, get_or, replicate, refl, arith, ap, sym, set, sum_by, sum_by-cons}

pub mapped_at : {A B : Type 0} (f : A → B) (xs : List A) (q : ℕ) (d : A) → get_or (map f xs) q (f d) ≡ f (get_or xs q d)
mapped_at f [] q d = refl
mapped_at f (x ∷ xs) zero d = refl
mapped_at f (x ∷ xs) (suc q) d = mapped_at f xs q d

pub sum_mapped : {A B : Type 0} (f : A → B) (g : B → ℕ) (xs : List A) → sum_by g (map f xs) ≡ sum_by (λ x. g (f x)) xs
sum_mapped f g [] = refl
sum_mapped f g (x ∷ xs) = omega (arith, sum_by-cons g (f x) (map f xs), sum_by-cons (λ y. g (f y)) x xs, sum_mapped f g xs)

-- where all are alike
pub mapped_alike : {A B : Type 0} (f : A → B) (n : ℕ) (x : A) → map f (replicate n x) ≡ replicate n (f x)
mapped_alike f zero x = refl
mapped_alike f (suc n) x = ap (λ l. f x ∷ l) (mapped_alike f n x)

-- past the last
pub past_last : {A : Type 0} (xs : List A) (q : ℕ) (d : A) → length xs ≤ q → get_or xs q d ≡ d
past_last [] q d h = refl
past_last (x ∷ xs) zero d h = absurd (omega arith)
past_last (x ∷ xs) (suc q) d h = past_last xs q d (omega arith)

-- an element is put where it stands already
pub set_same : {A : Type 0} (l : List A) (p : ℕ) (d y : A) → get_or l p d ≡ y → p < length l → set l p y ≡ l
set_same [] p d y e h = refl
set_same (x ∷ xs) zero d y e h = ap (λ z. z ∷ xs) (sym e)
set_same (x ∷ xs) (suc p) d y e h = ap (λ l. x ∷ l) (set_same xs p d y e (omega arith))
