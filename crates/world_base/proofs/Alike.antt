-- A list of one value over and over, as each table of parties begins.
use Rattle.world_base.proofs.Prelude.{◌≡◌, ℕ, zero, suc, get_or, replicate, refl, arith, sum_by, sum_by-cons}

pub all_alike : {A : Type 0} (x : A) (n p : ℕ) → get_or (replicate n x) p x ≡ x
all_alike x zero p = refl
all_alike x (suc n) zero = refl
all_alike x (suc n) (suc p) = all_alike x n p

pub none_of_all : {A : Type 0} (f : A → ℕ) (x : A) → f x ≡ 0 → (n : ℕ) → sum_by f (replicate n x) ≡ 0
none_of_all f x none zero = refl
none_of_all f x none (suc n) = omega (arith, sum_by-cons f x (replicate n x), none, none_of_all f x none n)
