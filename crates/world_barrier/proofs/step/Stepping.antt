-- A table's step as callers see it.
use Rattle.world_barrier.proofs.Prelude.{◌≡◌, ℕ, Bool, true, false, Some, None, refl, ap, sym, ◌∙◌, subst, Answer, Call, Move, Refusal, Rest, Within, call_in, refused, is_poll_after_ready, some_eq, stage_at, call_at, polls_again, Table, Acted, call_seen, again_seen, way, by_way, Place, Barrier, IsBarrier, Moves, knows, position_at, standing_of, verdict_in, view_of, call_of, Legal, AnswersAtOnce, IsBarrierTable, TableSteps, Stands, Steps}
use Rattle.world_barrier.proofs.table.Seen as seen
use Rattle.world_barrier.proofs.step.Idle as idle
use Rattle.world_barrier.proofs.step.Owns.{well}
use Rattle.world_barrier.proofs.step.Here.{Here, turn}
use Rattle.world_barrier.proofs.step.Acting.{Acting, legal}
use Rattle.world_barrier.proofs.step.AtOnce.{at_once}

abbrev pub known_calls : Barrier → ℕ → Call → Bool
known_calls s p = knows

module _ (t u : Table Barrier) (m : Move) (a : Answer) (tl : IsBarrier t.machine) (tf : IsBarrierTable t) (ul : IsBarrier u.machine) (uf : IsBarrierTable u) where
  carried : (w : Within) → call_at knows (stage_at t.stages m.party) m.what ≡ Some w → polls_again (stage_at t.stages m.party) m.what ≡ false → Acted known_calls Rest.Finished Moves w t m a u → Acting t u m a w
  carried w e f d =
      let turned = turn (stage_at t.stages m.party) m.what w (position_at t.machine.positions m.party) (tf.stands m.party d.inside) e f in
      let same : turned.from ≡ d.acts.from = some_eq (sym turned.starts ∙ d.acts.starts) in
      let P : Place → Type 0 = Here (stage_at t.stages m.party) m.what w (position_at t.machine.positions m.party) in
      record {
        inside = d.inside;
        old_laws = tl;
        old_fits = tf;
        new_laws = ul;
        new_fits = uf;
        call = e;
        first = f;
        from = d.acts.from;
        found = d.acts.found;
        here = subst P same turned.here;
        starts = d.acts.starts;
        runs = d.acts.runs;
        acts = d.acts.acts;
        answer = d.acts.answer;
        stages = d.stages;
        opening = d.opening;
      }

  -- what holds where nothing is done, and where the machine acted, holds of each step
  pub by_step : (P : Answer → Table Barrier → Type 0) → (call_at knows (stage_at t.stages m.party) m.what ≡ None → P Answer.NotPossible t)
      → ((w : Within) → call_at knows (stage_at t.stages m.party) m.what ≡ Some w → polls_again (stage_at t.stages m.party) m.what ≡ true → P (refused Refusal.Finished) t)
      → ((w : Within) → Acting t u m a w → P a u) → TableSteps t m a u → P a u
  by_step P none again act step = by_way known_calls Rest.Finished Moves t u m a P none again (λ w e f d. act w (carried w e f d)) (way known_calls Rest.Finished Moves t u m a step)

  stands : (x : Table Barrier) → IsBarrier x.machine → IsBarrierTable x → Stands (view_of x)
  stands x laws fits = record { seen = refl; laws = laws; fits = fits }

  call_is : call_of (view_of t) m ≡ call_at knows (stage_at t.stages m.party) m.what
  call_is = ap (λ z. call_in knows z m.what) (seen.standing_seen t m.party) ∙ call_seen knows (verdict_in t.machine m.party) (stage_at t.stages m.party) m.what

  again_is : is_poll_after_ready (standing_of (view_of t) m.party) m.what ≡ polls_again (stage_at t.stages m.party) m.what
  again_is = ap (λ z. is_poll_after_ready z m.what) (seen.standing_seen t m.party) ∙ again_seen (verdict_in t.machine m.party) (stage_at t.stages m.party) m.what

  abbrev Good : Answer → Table Barrier → Type 0
  Good b x = Legal (view_of t) m b (view_of x) × AnswersAtOnce (view_of t) m b (view_of x)

  good : TableSteps t m a u → Good a u
  good step = by_step Good
      (λ e. (idle.impossible (view_of t) m (well t tl tf) (call_is ∙ e), idle.impossible_at_once (view_of t) m (well t tl tf) (call_is ∙ e)))
      (λ w e f. (idle.over (view_of t) m (well t tl tf) (again_is ∙ f), idle.over_at_once (view_of t) m (well t tl tf) (again_is ∙ f)))
      (λ w k. (legal t u m a w k, at_once t u m a w k)) step

  pub stepped : TableSteps t m a u → Steps (view_of t) m a (view_of u)
  stepped step =
      let both = good step in
      record { legal = both.0; at_once = both.1; did = record { stood = stands t tl tf; step = step; stands = stands u ul uf } }
