-- How callers see the parties once the machine has acted for one of them, in any World on a table.
use Rattle.world_base.proofs.Prelude.{◌≡◌, ◌≢◌, ℕ, ◌<◌, Bool, true, length, get_or, Option, Some, ap, sym, ◌∙◌, subst, get_or-set_same, get_or-set_other, length-set, set, Answer, Call, Move, Rest, Forgotten, Within, call_of, IsPossible, EndsProperly, Standing, inside, forgotten, is_possible, decision, StandsAfter, stage_at, stands_as, stage_after, Table, standings}
use Rattle.world_base.proofs.Equations.{some_eq, none_some}
use Rattle.world_base.proofs.of_table.Calls.{decided_after, decision_seen}
use Rattle.world_base.proofs.of_table.Views.{standings_at, length-standings}

module _ {M : Type 0} (verdict : M → ℕ → Option Answer) where
  abbrev pub standing_in : Table M → ℕ → Standing
  standing_in t q = get_or (standings (verdict t.machine) t.stages) q forgotten

  pub stood : (t : Table M) (q : ℕ) → standing_in t q ≡ stands_as (verdict t.machine q) (stage_at t.stages q)
  stood t q = standings_at (verdict t.machine) t.stages q

  module _ (ready : Rest) (t u : Table M) (p : ℕ) (w : Within) (a : Answer) (inside : p < length t.stages) (stages : u.stages ≡ set t.stages p (stage_after ready w a)) where
    pub stands : standing_in u p ≡ stands_as (verdict u.machine p) (stage_after ready w a)
    stands = stood u p ∙ ap (stands_as (verdict u.machine p)) (ap (λ ss. stage_at ss p) stages ∙ get_or-set_same t.stages p (stage_after ready w a) Forgotten inside)

    pub others_stand : (q : ℕ) → q ≢ p → verdict u.machine q ≡ verdict t.machine q → standing_in u q ≡ standing_in t q
    others_stand q apart same = stood u q ∙ (ap (λ d. stands_as d (stage_at u.stages q)) same
        ∙ (ap (stands_as (verdict t.machine q)) (ap (λ ss. stage_at ss q) stages ∙ get_or-set_other t.stages p q (stage_after ready w a) Forgotten apart) ∙ sym (stood t q)))

    pub as_many : length (standings (verdict u.machine) u.stages) ≡ length (standings (verdict t.machine) t.stages)
    as_many = length-standings (verdict u.machine) u.stages ∙ (ap length stages ∙ (length-set t.stages p (stage_after ready w a) ∙ sym (length-standings (verdict t.machine) t.stages)))

    pub decides : decision a (standing_in u p) ≡ decided_after a (verdict u.machine p)
    decides = ap (decision a) stands ∙ decision_seen ready w a (verdict u.machine p)

-- the clauses that speak of no primitive, of a move that belongs to this call
module _ {W : Type 0} (standing_of : W → ℕ → Standing) (knows : W → ℕ → Call → Bool) (ready : Rest) (old : W) (m : Move) (a : Answer) (new : W) (w : Within) (called : call_of standing_of knows old m ≡ Some w) (possible : is_possible a ≡ true) where
  never : a ≡ Answer.NotPossible → ⊥
  never e = let no : is_possible Answer.NotPossible ≡ true = ap is_possible (sym e) ∙ possible in cc (no)

  pub possible_so : IsPossible standing_of knows old m a new
  possible_so = record { exactly = ((λ e. absurd (never e)), (λ e. absurd (none_some (sym e ∙ called)))); unchanged = λ e. absurd (never e) }

  pub ends_so : StandsAfter ready w a (standing_of new m.party) → ((v : Within) (b : Answer) → standing_of old m.party ≡ inside v (Some b) → decision a (standing_of new m.party) ≡ Some b) → EndsProperly standing_of knows ready old m a new
  ends_so stands kept = record {
    stands = λ v e. (let P : Within → Type 0 = λ v. StandsAfter ready v a (standing_of new m.party) in subst P (some_eq (sym called ∙ e)) stands);
    as_decided = λ v b e h. kept v b e;
  }
