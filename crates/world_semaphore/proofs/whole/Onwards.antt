-- What each action of a party's whole call keeps holds along it, and what the last one says holds at its end.
use Rattle.world_semaphore.proofs.Prelude.{◌≡◌, ◌≢◌, ℕ, ◌⊎◌, inl, inr, true, false, Some, None, refl, arith, ap, sym, ◌∙◌, subst, Answer, Call, Inputs, What, Begin, Go, Rest, Stage, Outside, Inside, Forgotten, Within, outside, inputs_of, is_stepped, going_on, moves_of, answers_of, beginning, by_stage_or_past, past_last, outside_stage, stage_at, call_at, polls_again, Table, Place, Position, Out, At, Next, place_for, next_of, position_after, verdict, Semaphore, knows, goes_with, answer_by, position_at, World, standing_of, Steps, view_of, Known, HoldsWell, learn, Runs}
use Rattle.world_base.proofs.of_any_world.Runs.{Onward, along}
use Rattle.lock_program.specs.declared.end.Next.TheVariants as next
use Rattle.lock_program.specs.declared.end.End.{End}
use Rattle.world_semaphore.proofs.of_machine.laws.Kept.{after}
use Rattle.world_semaphore.proofs.table.Seen as seen
use Rattle.world_semaphore.proofs.step.Acting.{Acting}
use Rattle.world_semaphore.proofs.step.Acting as acting
use Rattle.world_semaphore.proofs.step.Stepping.{by_step}
use Rattle.world_semaphore.proofs.whole.Whole.{from_turn}

-- a call that goes on has come to a place
stepped_at : (n : Next) → answer_by n ≡ Answer.Stepped → (z : Place) × (position_after n ≡ At z)
stepped_at (next.Do z) e = (z, refl)
stepped_at (next.End End.Got x) e = absurd (cc e)
stepped_at (next.End End.Granted x) e = absurd (cc e)
stepped_at (next.End End.Pending x) e = absurd (cc e)
stepped_at (next.End End.NotFree x) e = absurd (cc e)
stepped_at (next.End End.Waiting x) e = absurd (cc e)
stepped_at (next.End End.GivenBack x) e = absurd (cc e)
stepped_at (next.End (End.Refused r) x) e = absurd (cc e)

unstepped : (a : Answer) → (a ≡ Answer.Stepped → ⊥) → is_stepped a ≡ false
unstepped Answer.Stepped n = absurd (n refl)
unstepped _ n = refl

-- a party at a place can go on
goes_there : (s : Stage) (y : Place) (i : Inputs) → goes_with s (At y) ≡ true → call_at knows s (Go i) ≡ None → ⊥
goes_there (Inside w) y i g none = cc none
goes_there (Outside Rest.Idle) y i g none = cc g
goes_there (Outside Rest.Pending) y i g none = cc g
goes_there (Outside Rest.Holding) y i g none = cc g
goes_there (Outside Rest.Finished) y i g none = cc g
goes_there Forgotten y i g none = cc g

never_again : (s : Stage) (i : Inputs) → polls_again s (Go i) ≡ true → ⊥
never_again (Outside Rest.Holding) i h = cc h
never_again (Outside Rest.Finished) i h = cc h
never_again (Outside Rest.Idle) i h = cc h
never_again (Outside Rest.Pending) i h = cc h
never_again (Inside w) i h = cc h
never_again Forgotten i h = cc h

-- a pending party can poll and drop
begins_there : (c : Call) (i : Inputs) → (c ≡ Call.Poll) ⊎ (c ≡ Call.Drop) → (call_at knows (Outside Rest.Pending) (Begin c i) ≡ None → ⊥) × (polls_again (Outside Rest.Pending) (Begin c i) ≡ true → ⊥)
begins_there Call.Poll i which = ((λ h. cc), (λ h. cc))
begins_there Call.Drop i which = ((λ h. cc), (λ h. cc))
begins_there c i (inl e) = absurd (cc e)
begins_there c i (inr e) = absurd (cc e)

at_same : (x y : Place) → At x ≡ At y → x ≡ y
at_same x y e = cc e

module _ (p : ℕ) (i : Inputs) (G : Place → Table Semaphore → Type 0) (E : Answer → Table Semaphore → Type 0)
    (acts : (t u : Table Semaphore) (what : What) (a : Answer) (w : Within) (k : Acting t u (record { party = p; what = what }) a w) → inputs_of what ≡ i → G k.from t
    → ((z : Place) → after k.from k.found ≡ At z → G z u) × (is_stepped (answer_by (next_of k.from k.found)) ≡ false → E a u)) where
  abbrev Going : World → Type 0
  Going x = (y : Place) × (position_at x.behind.machine.positions p ≡ At y) × G y x.behind

  abbrev AtEnd : Answer → World → Type 0
  AtEnd a x = E a x.behind

  acted : (t u : Table Semaphore) (what : What) (a : Answer) (w : Within) (k : Acting t u (record { party = p; what = what }) a w) → inputs_of what ≡ i → G k.from t → Onward Going AtEnd a (view_of u)
  acted t u what a w k is g =
      let both = acts t u what a w k is g in
      record {
        going = λ e. (let z = stepped_at (next_of k.from k.found) (sym k.answer ∙ e) in (z.0, acting.lands t u (record { party = p; what = what }) a w k ∙ z.1, both.0 z.0 z.1));
        ended = λ n. both.1 (unstepped (answer_by (next_of k.from k.found)) (λ e. n (k.answer ∙ e)));
      }

  -- both speak of what stands behind the World alone
  seen_as : (a : Answer) (v : World) → Onward Going AtEnd a (view_of v.behind) → Onward Going AtEnd a v
  seen_as a v o = record { going = o.going; ended = o.ended }

  goes_on : (x : World) (b : Answer) (y : World) → Going x → Steps x (going_on p i) b y → Onward Going AtEnd b y
  goes_on x b y g s =
      let t : Table Semaphore = x.behind in
      let u : Table Semaphore = y.behind in
      seen_as b y (by_step t u (going_on p i) b s.did.stood.laws s.did.stood.fits s.did.stands.laws s.did.stands.fits (λ c z. Onward Going AtEnd c (view_of z))
      (λ e. absurd (by_stage_or_past t.stages p ⊥
      (λ past. (let out : Out ≡ At g.0 = sym (past_last t.machine.positions p Out (omega (arith, past, s.did.stood.fits.as_many))) ∙ g.1 in cc out))
      (λ inside. (let P : Position → Type 0 = λ z. goes_with (stage_at t.stages p) z ≡ true in goes_there (stage_at t.stages p) g.0 i (subst P g.1 (s.did.stood.fits.stands p inside)) e))))
      (λ w e f. absurd (never_again (stage_at t.stages p) i f))
      (λ w k. acted t u (Go i) b w k refl (let P : Place → Type 0 = λ z. G z t in subst P (at_same g.0 k.from (sym g.1 ∙ from_turn t u (going_on p i) b w k)) g.2)) s.did.step)

  module _ (c : Call) (which : (c ≡ Call.Poll) ⊎ (c ≡ Call.Drop)) where
    begun : (w : World) (b : Answer) (y : World) → standing_of w p ≡ outside Rest.Pending → ((from : Place) → place_for (Begin c i) (position_at w.behind.machine.positions p) ≡ Some from → G from w.behind) → Steps w (beginning p c i) b y → Onward Going AtEnd b y
    begun w b y pending starts s =
        let t : Table Semaphore = w.behind in
        let u : Table Semaphore = y.behind in
        let stands : standing_of (view_of t) p ≡ outside Rest.Pending = ap (λ z. standing_of z p) (sym s.did.stood.seen) ∙ pending in
        let stage : stage_at t.stages p ≡ Outside Rest.Pending = outside_stage (verdict (position_at t.machine.positions p)) (stage_at t.stages p) Rest.Pending (sym (seen.stands_seen t p) ∙ stands) in
        seen_as b y (by_step t u (beginning p c i) b s.did.stood.laws s.did.stood.fits s.did.stands.laws s.did.stands.fits (λ a z. Onward Going AtEnd a (view_of z))
        (λ e. absurd ((begins_there c i which).0 (ap (λ z. call_at knows z (Begin c i)) (sym stage) ∙ e)))
        (λ w e f. absurd ((begins_there c i which).1 (ap (λ z. polls_again z (Begin c i)) (sym stage) ∙ f)))
        (λ w k. acted t u (Begin c i) b w k refl (starts k.from k.starts)) s.did.step)

    -- the whole call of a pending party
    pub along_acts : (known : Known) (w : World) (n : ℕ) (a : Answer) (v : World) → Runs known w (moves_of p c i n) (answers_of n a) v → a ≢ Answer.Stepped → standing_of w p ≡ outside Rest.Pending
        → ((from : Place) → place_for (Begin c i) (position_at w.behind.machine.positions p) ≡ Some from → G from w.behind) → E a v.behind
    along_acts known w n a v runs ended pending starts = along Steps learn HoldsWell p i Going AtEnd goes_on known n w (beginning p c i) a v (λ b x s. begun w b x pending starts s) ended runs
