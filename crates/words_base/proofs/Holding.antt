-- What lies in the slot that a seat took last.
use Rattle.std.proofs.Common.{◌≡◌, ℕ, List, [], ◌∷◌, sym, ap, ◌∙◌}
use Rattle.atomic_table.specs.Table.{rest}

-- It is one thing.
pub same_out : {S : Type 0} (x y : S) (l r : List (ℕ × S)) → l ≡ (0, x) ∷ r → l ≡ (0, y) ∷ rest l → x ≡ y
same_out {S} x y l r e f = ap (λ (k : List (ℕ × S)). first x k) (sym e ∙ f)
  where
    first : S → List (ℕ × S) → S
    first z [] = z
    first z (k ∷ ks) = k.1
