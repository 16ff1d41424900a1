-- A World at rest stays at rest where a party comes out of its call.
use Rattle.world_base.proofs.Prelude.{◌≡◌, ℕ, zero, suc, ◌&&◌, Bool, true, List, [], ◌∷◌, refl, set, list_all, Stage, is_outside_stage}
use Rattle.world_base.proofs.Equations.{both}

and_so : (a b : Bool) → a ≡ true → b ≡ true → a && b ≡ true
and_so a b ha hb = rw (ha, hb) refl

-- one more party outside leaves all outside
pub still_outside : (ss : List Stage) (p : ℕ) (s : Stage) → is_outside_stage s ≡ true → list_all is_outside_stage ss ≡ true → list_all is_outside_stage (set ss p s) ≡ true
still_outside [] p s h all = refl
still_outside (x ∷ xs) zero s h all = and_so (is_outside_stage s) (list_all is_outside_stage xs) h (both (is_outside_stage x) (list_all is_outside_stage xs) all).1
still_outside (x ∷ xs) (suc p) s h all =
    let two = both (is_outside_stage x) (list_all is_outside_stage xs) all in
    and_so (is_outside_stage x) (list_all is_outside_stage (set xs p s)) two.0 (still_outside xs p s h two.1)
