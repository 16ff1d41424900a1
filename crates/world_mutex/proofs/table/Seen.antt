-- What callers see of a machine, party by party.
use Rattle.world_mutex.proofs.Prelude.{◌≡◌, ℕ, Some, refl, arith, Answer, some_eq, stage_at, stands_as, Table, End, Place, decision, holds, listed, Guarded, standing_of, answer_on, verdict, view_of}
use Rattle.world_base.proofs.of_table.Acting.{stood}

pub stands_seen : (t : Table Guarded) (q : ℕ) → standing_of (view_of t) q ≡ stands_as (verdict t.machine q) (stage_at t.stages q)
stands_seen t q = stood verdict t q

-- ---- what a call is decided on

-- never on Pending, and on having the lock only where the party has it
pub never_pending : (x : Place) → decision x ≡ Some End.Pending → ⊥
never_pending Place.Leave e = cc (some_eq e)
never_pending (Place.Uncount listed) e = cc (some_eq e)
never_pending _ e = cc

pub pending_undecided : (v : ℕ) (x : Place) → answer_on v (decision x) ≡ Some Answer.Pending → ⊥
pending_undecided v Place.Leave h = absurd (cc)
pending_undecided v (Place.Uncount listed) h = absurd (cc)
pending_undecided v Place.RefuseUncount h = absurd (cc)
pending_undecided v (Place.RefuseLeave told) h = absurd (cc)
pending_undecided v Place.RefuseNotifyMemory h = absurd (cc)
pending_undecided v Place.RefuseNotifyStarved h = absurd (cc)
pending_undecided v Place.Clear h = absurd (cc)
pending_undecided v Place.ReleaseNotify h = absurd (cc)
pending_undecided v Place.CancelUncount h = absurd (cc)
pending_undecided v Place.CancelLeave h = absurd (cc)
pending_undecided v Place.Out h = absurd (cc)
pending_undecided v _ h = absurd (cc)

-- what a party without the lock is decided on doesn't carry the value
pub verdict_same : (v w : ℕ) (x : Place) → holds x ≡ 0 → answer_on v (decision x) ≡ answer_on w (decision x)
verdict_same v w Place.Leave h = absurd (omega arith)
verdict_same v w (Place.Uncount listed) h = absurd (omega arith)
verdict_same v w Place.RefuseUncount h = refl
verdict_same v w (Place.RefuseLeave told) h = refl
verdict_same v w Place.RefuseNotifyMemory h = refl
verdict_same v w Place.RefuseNotifyStarved h = refl
verdict_same v w Place.Clear h = refl
verdict_same v w Place.ReleaseNotify h = refl
verdict_same v w Place.CancelUncount h = refl
verdict_same v w Place.CancelLeave h = refl
verdict_same v w Place.Out h = refl
verdict_same v w _ h = refl
