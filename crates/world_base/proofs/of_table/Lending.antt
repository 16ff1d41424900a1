-- Each party may stand where it does once a value was lent.
use Rattle.world_base.proofs.Prelude.{◌≡◌, true, ℕ, zero, suc, ◌+◌, ◌<◌, List, [], ◌∷◌, length, map, Option, refl, ap, sym, ◌∙◌, subst, Answer, Idle, Pending, Holding, Finished, Stage, Outside, Inside, Forgotten, forgets, is_outside_stage, list_all, stage_at, stands_as, standings_from, standings, IsTable}
use Rattle.world_base.proofs.Equations.{both}
use Rattle.world_base.specs.table.Lending.{forgotten_then}
use Rattle.world_base.proofs.of_table.Views.{outside_at}

-- how many parties there are, and which of them are forgotten
pub length-forgotten : (ss : List Stage) → length (map forgets ss) ≡ length ss
length-forgotten [] = refl
length-forgotten (s ∷ ss) = ap suc (length-forgotten ss)

pub forgotten_at : (ss : List Stage) (p : ℕ) → stage_at (map forgets ss) p ≡ forgets (stage_at ss p)
forgotten_at [] p = refl
forgotten_at (s ∷ ss) zero = refl
forgotten_at (s ∷ ss) (suc p) = forgotten_at ss p

pub still_fits : {M : Type 0} (parties : M → ℕ) (Stands : M → ℕ → Stage → Type 0) (x y : M) (ss : List Stage)
    → parties y ≡ parties x → ((p : ℕ) (s : Stage) → is_outside_stage s ≡ true → Stands x p s → Stands y p (forgets s)) → list_all is_outside_stage ss ≡ true → IsTable parties Stands x ss → IsTable parties Stands y (map forgets ss)
still_fits parties Stands x y ss as_many stays resting t = record {
  as_many = length-forgotten ss ∙ (t.as_many ∙ sym as_many);
  stands = λ p within. subst (Stands y p) (sym (forgotten_at ss p)) (stays p (stage_at ss p) (outside_at ss resting p) (t.stands p (subst (λ n. p < n) (length-forgotten ss) within)));
}

-- and callers see that
forgets_one : (d e : Option Answer) (s : Stage) → is_outside_stage s ≡ true → stands_as e (forgets s) ≡ forgotten_then (stands_as d s)
forgets_one d e (Outside Idle) h = refl
forgets_one d e (Outside Pending) h = refl
forgets_one d e (Outside Holding) h = refl
forgets_one d e (Outside Finished) h = refl
forgets_one d e (Inside w) h = absurd (cc)
forgets_one d e Forgotten h = refl

from_lent : (n : ℕ) (verdict verdict' : ℕ → Option Answer) (ss : List Stage) → list_all is_outside_stage ss ≡ true → standings_from n verdict' (map forgets ss) ≡ map forgotten_then (standings_from n verdict ss)
from_lent n verdict verdict' [] h = refl
from_lent n verdict verdict' (s ∷ ss) h =
    let two = both (is_outside_stage s) (list_all is_outside_stage ss) h in
    ap (λ z. z ∷ standings_from (n + 1) verdict' (map forgets ss)) (forgets_one (verdict n) (verdict' n) s two.0) ∙ ap (λ l. forgotten_then (stands_as (verdict n) s) ∷ l) (from_lent (n + 1) verdict verdict' ss two.1)

pub lent_seen : (verdict verdict' : ℕ → Option Answer) (ss : List Stage) → list_all is_outside_stage ss ≡ true → standings verdict' (map forgets ss) ≡ map forgotten_then (standings verdict ss)
lent_seen verdict verdict' ss h = from_lent 0 verdict verdict' ss h
