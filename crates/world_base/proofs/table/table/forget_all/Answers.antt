-- One stage more is as it is forgotten.
use Rattle.world_base.proofs.Prelude.{◌≡◌, ℕ, zero, suc, ◌+◌, ◌<◌, ◌++◌, List, [], ◌∷◌, map, length, get_or, take, drop, ap, ◌∙◌, add-one, arith, rules, set, Idle, Outside, forgets}
use Rattle.world_base.proofs.table.table.forget_all.Goals as goal

one_more : {A : Type 0} (f : A → A) (xs : List A) (i : ℕ) (y d : A) → i < length xs → y ≡ f (get_or xs i d)
    → take (suc i) (set xs i y) ++ map f (drop (suc i) (set xs i y)) ≡ take i xs ++ map f (drop i xs)
one_more f [] i y d h e = absurd (omega arith)
one_more f (x ∷ xs) zero y d h e = ap (λ z. z ∷ map f xs) e
one_more f (x ∷ xs) (suc i) y d h e = ap (λ l. x ∷ l) (one_more f xs i y d (omega arith) e)

mapped_more : {A : Type 0} (f : A → A) (xs : List A) (i : ℕ) (y d : A) → i < length xs → y ≡ f (get_or xs i d)
    → take (i + 1) (set xs i y) ++ map f (drop (i + 1) (set xs i y)) ≡ take i xs ++ map f (drop i xs)
mapped_more f xs i y d h e = rw (add-one i) (one_more f xs i y d h e)

pub loop-stage-preserved : goal.loop-stage-preserved
loop-stage-preserved c = mapped_more forgets c.loop-stage.stage-items c.loop-stage.stage-index _ (Outside Idle) (omega arith) (search rules) ∙ c.loop-stage.invariant
