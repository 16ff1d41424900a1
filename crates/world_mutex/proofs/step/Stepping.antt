-- A table's step as callers see it.
use Rattle.world_mutex.proofs.Prelude.{◌≡◌, ℕ, Bool, false, List, Option, Some, None, refl, arith, ap, sym, ◌∙◌, subst, set, Answer, Call, Value, Move, What, Rest, Stage, Outside, Forgotten, Within, is_poll_after_ready, put_in, call_in, some_eq, stage_at, call_at, polls_again, stage_after, Table, Acted, set_same, way, by_way, Place, IsMutex, Guarded, knows, Moves, MovesBy, Carries, with_value, place_of, call_of, standing_of, IsMutexTable, TableSteps, Stands, Steps, verdict, view_of}
use Rattle.world_base.proofs.of_table.Calls.{call_seen, again_seen}
use Rattle.world_mutex.proofs.step.Acting.{Acting, legal}
use Rattle.world_mutex.proofs.table.Acts.{landed}
use Rattle.world_mutex.proofs.step.AtOnce.{at_once}
use Rattle.world_mutex.proofs.step.Here.{Here, here}
use Rattle.world_mutex.proofs.step.Idle as idle
use Rattle.world_mutex.proofs.step.Idle.{StandsWell, IsGood}
use Rattle.world_mutex.proofs.step.Putting.{putting}
use Rattle.world_mutex.proofs.step.Owns as owns
use Rattle.world_mutex.proofs.table.Seen as seen
use Rattle.world_mutex.proofs.table.Turns.{puts}

abbrev pub known_calls : Guarded → ℕ → Call → Bool
known_calls g p = knows

same_table : (x y : Guarded) (ss rs : List Stage) (n k : ℕ) → x ≡ y → ss ≡ rs → n ≡ k → Path (Table Guarded) (record { machine = x; stages = ss; opening = n }) (record { machine = y; stages = rs; opening = k })
same_table x y ss rs n k e d g = cc

module _ (t u : Table Guarded) (m : Move) (a : Answer) (tl : IsMutex t.machine.lock) (tf : IsMutexTable t) (ul : IsMutex u.machine.lock) (uf : IsMutexTable u) where
  abbrev s : Stage
  s = stage_at t.stages m.party

  -- what the machine carries out is a put, or the lock's
  pub carried : (w : Within) → call_at knows s m.what ≡ Some w → polls_again s m.what ≡ false → Acted known_calls Rest.Holding Moves w t m a u → put_in m.what ≡ None → Acting t u m a w
  carried w e f d none =
      let P : Option ℕ → Type 0 = λ o. MovesBy o t.machine m.party w m.what a u.machine in
      let k : Carries t.machine m.party w m.what a u.machine = subst P none d.acts in
      let fits = tf.stands m.party d.inside in
      let turn = here s m.what w (place_of t.machine m.party) fits e f none in
      let H : Place → Type 0 = λ y. Here s m.what w (place_of t.machine m.party) y in
      record {
        inside = d.inside;
        old_laws = tl;
        old_fits = tf;
        new_laws = ul;
        new_fits = uf;
        call = e;
        first = f;
        none = none;
        carries = k;
        here = subst H (some_eq (sym turn.starts ∙ k.starts)) turn.holds;
        lands = landed t.machine m.party w m.what a u.machine (omega (arith, d.inside, tf.as_many)) (record { stage = s; stands = fits; call = e; first = f }) k none;
        stages = d.stages;
        opening = d.opening;
      }

  well : StandsWell (view_of t)
  well = record { each = owns.each t tl tf; ends = owns.ends_well t tl tf; never_pending = owns.not_pending t tl tf }

  call_is : call_of (view_of t) m ≡ call_at knows s m.what
  call_is = ap (λ z. call_in knows z m.what) (seen.stands_seen t m.party) ∙ call_seen knows (verdict t.machine m.party) s m.what

  again_is : is_poll_after_ready (standing_of (view_of t) m.party) m.what ≡ polls_again s m.what
  again_is = ap (λ z. is_poll_after_ready z m.what) (seen.stands_seen t m.party) ∙ again_seen (verdict t.machine m.party) s m.what

  put_good : (w : Within) (n : ℕ) → call_at knows s m.what ≡ Some w → Acted known_calls Rest.Holding Moves w t m a u → put_in m.what ≡ Some n → IsGood (view_of t) m a (view_of u)
  put_good w n e d put =
      let is = puts s m.what w n e put in
      let P : Option ℕ → Type 0 = λ o. MovesBy o t.machine m.party w m.what a u.machine in
      let k : MovesBy (Some n) t.machine m.party w m.what a u.machine = subst P put d.acts in
      let S : Answer → Type 0 = λ b. u.stages ≡ set t.stages m.party (stage_after Rest.Holding w b) in
      let V : Within → Type 0 = λ v. u.stages ≡ set t.stages m.party (stage_after Rest.Holding v (Answer.Granted (Value n))) in
      let stages : u.stages ≡ t.stages = subst V is.is (subst S k.0 d.stages) ∙ set_same t.stages m.party Forgotten (Outside Rest.Holding) is.stage d.inside in
      let same : u ≡ record { machine = with_value t.machine n; stages = t.stages; opening = t.opening } = same_table _ _ _ _ _ _ k.1 stages d.opening in
      let W : What → Type 0 = λ what. IsGood (view_of t) (record { party = m.party; what = what }) (Answer.Granted (Value n)) (view_of (record { machine = with_value t.machine n; stages = t.stages; opening = t.opening })) in
      let A : Answer → Type 0 = λ b. IsGood (view_of t) m b (view_of (record { machine = with_value t.machine n; stages = t.stages; opening = t.opening })) in
      let U : Table Guarded → Type 0 = λ y. IsGood (view_of t) m a (view_of y) in
      subst U (sym same) (subst A (sym k.0) (subst W (sym is.move) (putting t n m.party is.inputs tl tf is.stage)))

  acted_good : (w : Within) → call_at knows s m.what ≡ Some w → polls_again s m.what ≡ false → Acted known_calls Rest.Holding Moves w t m a u → (o : Option ℕ) → put_in m.what ≡ o → IsGood (view_of t) m a (view_of u)
  acted_good w e f d (Some n) put = put_good w n e d put
  acted_good w e f d None none = let k = carried w e f d none in record { legal = legal t u m a w k; at_once = at_once t u m a w k }

  good : TableSteps t m a u → IsGood (view_of t) m a (view_of u)
  good step = by_way known_calls Rest.Holding Moves t u m a (λ b y. IsGood (view_of t) m b (view_of y))
      (λ e. idle.impossible (view_of t) m well (call_is ∙ e))
      (λ w e f. idle.over (view_of t) m well (again_is ∙ f))
      (λ w e f d. acted_good w e f d (put_in m.what) refl)
      (way known_calls Rest.Holding Moves t u m a step)

  stands : (x : Table Guarded) → IsMutex x.machine.lock → IsMutexTable x → Stands (view_of x)
  stands x laws fits = record { seen = refl; laws = laws; fits = fits }

  pub stepped : TableSteps t m a u → Steps (view_of t) m a (view_of u)
  stepped step = let both = good step in record { legal = both.legal; at_once = both.at_once; did = record { stood = stands t tl tf; step = step; stands = stands u ul uf } }
