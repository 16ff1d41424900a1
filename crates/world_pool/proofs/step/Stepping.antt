-- A table's step as callers see it.
use Rattle.world_pool.proofs.Prelude.{◌≡◌, ℕ, Bool, true, false, Some, None, refl, ap, sym, ◌∙◌, subst, arith, false≢true, none_some, Answer, Call, Move, What, Begin, Refusal, Rest, Within, Standing, outside, call_in, refused, is_poll_after_ready, some_eq, stage_at, call_at, polls_again, Table, Acted, call_seen, again_seen, way, by_way, Place, Pool, IsPool, Moves, knows, position_at, World, standing_of, verdict_in, view_of, call_of, Legal, ChangesOneThing, HasItsOwn, AnswersAtOnce, is_first_take, is_lease_drop, IsPoolTable, TableSteps, StandsWell, Steps}
use Rattle.world_base.proofs.of_table.Idle as idle
use Rattle.world_base.proofs.of_table.Idle.{Idle}
use Rattle.world_pool.specs.AtOnce.{is_try}
use Rattle.world_pool.specs.Legal.{nothing}
use Rattle.world_pool.proofs.of_machine.Starts.{Fits, starts}
use Rattle.world_pool.proofs.table.Seen as seen
use Rattle.world_pool.proofs.step.Owns.{owns}
use Rattle.world_pool.proofs.step.Acting.{Acting, legal}
use Rattle.world_pool.proofs.step.AtOnce.{at_once}

abbrev pub known_calls : Pool → ℕ → Call → Bool
known_calls s p = knows

-- which moves are possible
take_possible : (s : Standing) (what : What) → is_first_take s what ≡ true → call_in knows s what ≡ None → ⊥
take_possible (outside Rest.Idle) (Begin Call.Take i) h e = cc e
take_possible _ _ h e = cc h

try_possible : (s : Standing) (what : What) → is_try s what ≡ true → call_in knows s what ≡ None → ⊥
try_possible (outside Rest.Idle) (Begin Call.TryTake i) h e = cc e
try_possible _ _ h e = cc h

drop_possible : (s : Standing) (what : What) → is_lease_drop s what ≡ true → call_in knows s what ≡ None → ⊥
drop_possible (outside Rest.Holding) (Begin Call.Drop i) h e = cc e
drop_possible _ _ h e = cc h

-- a poll after ready is nothing else
record Again (s : Standing) (what : What) : Type 0 where
  take : is_first_take s what ≡ false
  try : is_try s what ≡ false
  drop : is_lease_drop s what ≡ false

again : (s : Standing) (what : What) → is_poll_after_ready s what ≡ true → Again s what
again (outside Rest.Holding) (Begin Call.Poll i) h = record { take = refl; try = refl; drop = refl }
again (outside Rest.Finished) (Begin Call.Poll i) h = record { take = refl; try = refl; drop = refl }
again _ _ h = absurd (cc h)

module _ (w : World) (m : Move) (well : (p : ℕ) → HasItsOwn w p (standing_of w p)) where
  abbrev s : Standing
  s = standing_of w m.party

  still : ChangesOneThing w m w
  still = record { effect = nothing; does = (refl, refl, (refl, refl)); others = λ q apart. refl; other_leases = λ q apart. refl; parties = refl; made = refl; starved_limit = refl }

  abbrev Still : Answer → Type 0
  Still = Idle standing_of (λ x p. knows) Rest.Holding (λ x n y r. y ≡ x) w m refl

  impossible : call_of w m ≡ None → Legal w m Answer.NotPossible w
  impossible none = let k : Still Answer.NotPossible = idle.impossible standing_of (λ x p. knows) Rest.Holding (λ x n y r. y ≡ x) w m refl none in record {
    possible = k.possible;
    one_change = still;
    carries = record { ready = λ g e. absurd (cc e); granted = λ g e. absurd (cc e); only_so = λ some first held. absurd (some none) };
    each = well;
    ends_properly = record { stands = λ within e first. absurd (none_some (sym none ∙ e)); after_ready = λ e. absurd (idle.again_possible knows refl s m.what e none) };
  }

  impossible_at_once : call_of w m ≡ None → AnswersAtOnce w m Answer.NotPossible w
  impossible_at_once none = record {
    vain = λ d. (let e = idle.same_decides s Answer.NotPossible Answer.None d in absurd (cc e));
    takes = λ h. absurd (take_possible s m.what h none);
    tries = λ h. absurd (try_possible s m.what h none);
    in_vain = λ h. absurd (try_possible s m.what h none);
    drops = λ h. absurd (drop_possible s m.what h none);
  }

  over : is_poll_after_ready s m.what ≡ true → Legal w m (refused Refusal.Finished) w
  over h = let k : Still (refused Refusal.Finished) = idle.over standing_of (λ x p. knows) Rest.Holding (λ x n y r. y ≡ x) w m refl h refl in record {
    possible = k.possible;
    one_change = still;
    carries = record { ready = λ g e. absurd (cc e); granted = λ g e. absurd (cc e); only_so = λ some first held. absurd (false≢true (sym first ∙ h)) };
    each = well;
    ends_properly = record { stands = λ within e first. absurd (false≢true (sym first ∙ h)); after_ready = λ e. (refl, refl) };
  }

  over_at_once : is_poll_after_ready s m.what ≡ true → AnswersAtOnce w m (refused Refusal.Finished) w
  over_at_once h = let so = again s m.what h in record {
    vain = λ d. (let e = idle.same_decides s (refused Refusal.Finished) Answer.None d in absurd (cc e));
    takes = λ g. absurd (false≢true (sym so.take ∙ g));
    tries = λ g. absurd (false≢true (sym so.try ∙ g));
    in_vain = λ g. absurd (false≢true (sym so.try ∙ g));
    drops = λ g. absurd (false≢true (sym so.drop ∙ g));
  }

module _ (t u : Table Pool) (m : Move) (a : Answer) (tl : IsPool t.machine) (tf : IsPoolTable t) (ul : IsPool u.machine) (uf : IsPoolTable u) where
  pub carried : (w : Within) → call_at knows (stage_at t.stages m.party) m.what ≡ Some w → polls_again (stage_at t.stages m.party) m.what ≡ false → Acted known_calls Rest.Holding Moves w t m a u → Acting t u m a w
  carried w e f d =
      let begun = starts (stage_at t.stages m.party) m.what w (position_at t.machine.positions m.party) (tf.stands m.party d.inside) e f in
      let same : begun.from ≡ d.acts.from = some_eq (sym begun.starts ∙ d.acts.starts) in
      record {
        inside = d.inside;
        known = omega (arith, d.inside, tf.as_many);
        old_laws = tl;
        old_fits = tf;
        new_laws = ul;
        new_fits = uf;
        call = e;
        first = f;
        from = d.acts.from;
        found = d.acts.found;
        starts = d.acts.starts;
        fits = (let P : Place → Type 0 = Fits w (position_at t.machine.positions m.party) in subst P same begun.fits);
        acts = d.acts.acts;
        answer = d.acts.answer;
        stages = d.stages;
      }

  call_is : call_of (view_of t) m ≡ call_at knows (stage_at t.stages m.party) m.what
  call_is = ap (λ z. call_in knows z m.what) (seen.standing_seen t m.party) ∙ call_seen knows (verdict_in t.machine m.party) (stage_at t.stages m.party) m.what

  again_is : is_poll_after_ready (standing_of (view_of t) m.party) m.what ≡ polls_again (stage_at t.stages m.party) m.what
  again_is = ap (λ z. is_poll_after_ready z m.what) (seen.standing_seen t m.party) ∙ again_seen (verdict_in t.machine m.party) (stage_at t.stages m.party) m.what

  abbrev Good : Answer → Table Pool → Type 0
  Good b x = Legal (view_of t) m b (view_of x) × AnswersAtOnce (view_of t) m b (view_of x)

  good : TableSteps t m a u → Good a u
  good step = by_way known_calls Rest.Holding Moves t u m a Good
      (λ e. (impossible (view_of t) m (owns t tl tf) (call_is ∙ e), impossible_at_once (view_of t) m (owns t tl tf) (call_is ∙ e)))
      (λ w e f. (over (view_of t) m (owns t tl tf) (again_is ∙ f), over_at_once (view_of t) m (owns t tl tf) (again_is ∙ f)))
      (λ w e f d. (let k = carried w e f d in (legal t u m a w k, at_once t u m a w k))) (way known_calls Rest.Holding Moves t u m a step)

  stands : (x : Table Pool) → IsPool x.machine → IsPoolTable x → StandsWell (view_of x)
  stands x laws fits = record { seen = refl; laws = laws; fits = fits }

  pub stepped : TableSteps t m a u → Steps (view_of t) m a (view_of u)
  stepped step =
      let both = good step in
      record { legal = both.0; at_once = both.1; did = record { stood = stands t tl tf; step = step; stands = stands u ul uf } }
