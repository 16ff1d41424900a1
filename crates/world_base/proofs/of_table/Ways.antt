-- How a move comes about, and what that says of a whole call.
use Rattle.world_base.proofs.Prelude.{◌≡◌, ℕ, Bool, true, false, Option, Some, None, refl, sym, subst, Answer, Call, Move, What, Refusal, Rest, Within, refused, stage_at, call_at, polls_again, Table, Acted, Does, IsStep}
use Rattle.world_base.proofs.of_any_world.Runs.{Onward}

module _ {M : Type 0} (knows : M → ℕ → Call → Bool) (ready : Rest) (Acts : M → ℕ → Within → What → Answer → M → Type 0) where
  -- It isn't possible, polls a future that has been ready, or is carried out by the machine.
  pub data Way (t u : Table M) (m : Move) (a : Answer) : Type 0 where
    impossible : call_at (knows t.machine m.party) (stage_at t.stages m.party) m.what ≡ None → a ≡ Answer.NotPossible → u ≡ t → Way t u m a
    over : (w : Within) → call_at (knows t.machine m.party) (stage_at t.stages m.party) m.what ≡ Some w → polls_again (stage_at t.stages m.party) m.what ≡ true → a ≡ refused Refusal.Finished → u ≡ t → Way t u m a
    acts : (w : Within) → call_at (knows t.machine m.party) (stage_at t.stages m.party) m.what ≡ Some w → polls_again (stage_at t.stages m.party) m.what ≡ false → Acted knows ready Acts w t m a u → Way t u m a

  module _ (t u : Table M) (m : Move) (a : Answer) where
    by_call : (o : Option Within) (b : Bool) → call_at (knows t.machine m.party) (stage_at t.stages m.party) m.what ≡ o → polls_again (stage_at t.stages m.party) m.what ≡ b → Does knows ready Acts o b t m a u → Way t u m a
    by_call None b e f d = impossible e d.0 d.1
    by_call (Some w) true e f d = over w e f d.0 d.1
    by_call (Some w) false e f d = acts w e f d

    pub way : IsStep knows ready Acts t m a u → Way t u m a
    way step = by_call (call_at (knows t.machine m.party) (stage_at t.stages m.party) m.what) (polls_again (stage_at t.stages m.party) m.what) refl refl step

    -- what holds of each of them holds of a move
    pub by_way : (P : Answer → Table M → Type 0)
        → (call_at (knows t.machine m.party) (stage_at t.stages m.party) m.what ≡ None → P Answer.NotPossible t)
        → ((w : Within) → call_at (knows t.machine m.party) (stage_at t.stages m.party) m.what ≡ Some w → polls_again (stage_at t.stages m.party) m.what ≡ true → P (refused Refusal.Finished) t)
        → ((w : Within) → call_at (knows t.machine m.party) (stage_at t.stages m.party) m.what ≡ Some w → polls_again (stage_at t.stages m.party) m.what ≡ false → Acted knows ready Acts w t m a u → P a u)
        → Way t u m a → P a u
    by_way P none again acted (impossible e ea eu) = let Q : Answer → Type 0 = λ b. P b t in subst (P a) (sym eu) (subst Q (sym ea) (none e))
    by_way P none again acted (over w e f ea eu) = let Q : Answer → Type 0 = λ b. P b t in subst (P a) (sym eu) (subst Q (sym ea) (again w e f))
    by_way P none again acted (acts w e f k) = acted w e f k

    -- a move that the machine doesn't carry out ends a call, if it is in one
    pub onward : {W : Type 0} (Going : W → Type 0) (AtEnd : Answer → W → Type 0) (see : Table M → W) → AtEnd Answer.NotPossible (see t) → AtEnd (refused Refusal.Finished) (see t)
        → ((w : Within) → call_at (knows t.machine m.party) (stage_at t.stages m.party) m.what ≡ Some w → polls_again (stage_at t.stages m.party) m.what ≡ false → Acted knows ready Acts w t m a u → Onward Going AtEnd a (see u))
        → IsStep knows ready Acts t m a u → Onward Going AtEnd a (see u)
    onward Going AtEnd see none again acted step = by_way (λ b x. Onward Going AtEnd b (see x))
        (λ e. record { going = λ s. absurd (cc (s)); ended = λ n. none })
        (λ w e f. record { going = λ s. absurd (cc (s)); ended = λ n. again })
        acted (way step)

    -- what the machine carries out, by the call that the move belongs to
    pub acted : (w : Within) → call_at (knows t.machine m.party) (stage_at t.stages m.party) m.what ≡ Some w → polls_again (stage_at t.stages m.party) m.what ≡ false → IsStep knows ready Acts t m a u → Acted knows ready Acts w t m a u
    acted w e f step =
        let C : Option Within → Type 0 = λ o. Does knows ready Acts o (polls_again (stage_at t.stages m.party) m.what) t m a u in
        let B : Bool → Type 0 = λ b. Does knows ready Acts (Some w) b t m a u in
        subst B f (subst C e step)
