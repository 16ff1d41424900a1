-- A party's whole call, step by step, as its barrier's machine carries it out.
use Rattle.world_barrier.proofs.Prelude.{◌≡◌, ◌≢◌, ℕ, zero, suc, ◌<◌, ◌≤◌, inl, inr, Bool, true, false, List, [], ◌∷◌, length, Some, refl, sym, ap, ◌∙◌, subst, arith, get_or-set_same, get_or-set_other, set, Answer, Call, Got, Inputs, Move, What, Begin, Go, Rest, Stage, Outside, Inside, Forgotten, Within, Account, accounts_after, inputs_of, is_outside_stage, going_on, moves_of, answers_of, some_eq, beginning, Onward, along, End, answer_of, stage_at, call_at, polls_again, stage_after, Table, Acted, inside_or_past, acted, Found, Next, Place, Position, Out, At, progress, place_for, action_of, next_of, position_after, position_left, got_left, arrival_after, Barrier, IsBarrier, Acts, Moves, knows, goes_with, position_at, arrival_at, answer_by, World, IsBarrierTable, TableSteps, Steps, Runs, HoldsWell}
use Rattle.lock_program.specs.declared.end.Next.TheVariants as next
use Rattle.world_barrier.proofs.whole.Served.{Step, Then}

abbrev pub known_calls : Barrier → ℕ → Call → Bool
known_calls s p = knows

-- ---- where a party stands

past_out : (xs : List Position) (p : ℕ) → length xs ≤ p → position_at xs p ≡ Out
past_out [] p h = refl
past_out (x ∷ xs) zero h = absurd (omega (arith, h))
past_out (x ∷ xs) (suc p) h = past_out xs p (omega (arith, h))

inside_stage : (s : Stage) (x : Place) → goes_with s (At x) ≡ true → (w : Within) × (s ≡ Inside w)
inside_stage (Inside w) x h = (w, refl)
inside_stage (Outside Rest.Idle) x h = absurd (cc h)
inside_stage (Outside Rest.Finished) x h = absurd (cc h)
inside_stage (Outside Rest.Pending) x h = absurd (cc h)
inside_stage (Outside Rest.Holding) x h = absurd (cc h)
inside_stage Forgotten x h = absurd (cc h)

-- a party that is at a place is inside a call
pub is_inside : (t : Table Barrier) (p : ℕ) (x : Place) → IsBarrierTable t → position_at t.machine.positions p ≡ At x → (w : Within) × (stage_at t.stages p ≡ Inside w)
is_inside t p x tf here = elim (inside_or_past t.stages p) as (λ _. (w : Within) × (stage_at t.stages p ≡ Inside w)) [
  | inl known ↦ inside_stage (stage_at t.stages p) x (ap (goes_with (stage_at t.stages p)) (sym here) ∙ tf.stands p known)
  | inr past ↦ (let out : position_at t.machine.positions p ≡ Out = past_out t.machine.positions p (omega (arith, past.0, tf.as_many)) in
      let never : Out ≡ At x = sym out ∙ here in absurd (cc never))
]

-- ---- one step

-- what it did
pub record Did (t : Table Barrier) (p : ℕ) (what : What) (from : Place) (a : Answer) (u : Table Barrier) : Type 0 where
  pub within : Within
  pub known : p < length t.stages
  pub found : Found
  pub step : Step (inputs_of what) p from found t.machine u.machine
  pub answer : a ≡ answer_by (next_of from found)
  pub stages : u.stages ≡ set t.stages p (stage_after Rest.Finished within a)

pub acts_so : (i : Inputs) (p : ℕ) (from : Place) (f : Found) (x y : Barrier) → Acts i p from f x y → p < length x.positions → length x.arrivals ≡ length x.positions → Step i p from f x y
acts_so i p from f x y k known many = record {
  finds = k.finds;
  words = k.words;
  arrival = ap (λ rs. arrival_at rs p) k.arrivals ∙ get_or-set_same x.arrivals p (arrival_after (action_of from) x.words (arrival_at x.arrivals p)) (progress 0 0) (omega (arith, known, many));
  entries = k.entries;
  lock = k.lock;
  to = ap (λ ps. position_at ps p) k.positions ∙ get_or-set_same x.positions p (position_after (next_of from f)) Out known;
}

module _ (t u : Table Barrier) (p : ℕ) (a : Answer) (tl : IsBarrier t.machine) (tf : IsBarrierTable t) where
  pub did : (what : What) (s : Stage) (w : Within) (from : Place) → stage_at t.stages p ≡ s → call_at knows s what ≡ Some w → polls_again s what ≡ false → place_for what (position_at t.machine.positions p) ≡ Some from
      → TableSteps t (record { party = p; what = what }) a u → Did t p what from a u
  did what s w from at called first starts step = (
      let m : Move = record { party = p; what = what } in
      let d : Acted known_calls Rest.Finished Moves w t m a u = acted known_calls Rest.Finished Moves t u m a w (ap (λ z. call_at knows z what) at ∙ called) (ap (λ z. polls_again z what) at ∙ first) step in
      let known : p < length t.machine.positions = omega (arith, d.inside, tf.as_many) in
      let same : d.acts.from ≡ from = some_eq (sym d.acts.starts ∙ starts) in
      let P : Place → Type 0 = λ x. Step (inputs_of what) p x d.acts.found t.machine u.machine in
      record {
        within = w;
        known = d.inside;
        found = d.acts.found;
        step = subst P same (acts_so (inputs_of what) p d.acts.from d.acts.found t.machine u.machine d.acts.acts known tl.as_many);
        answer = d.acts.answer ∙ ap (λ x. answer_by (next_of x d.acts.found)) same;
        stages = d.stages;
      }
      )

  -- of a party that is inside its call
  pub went : (i : Inputs) (x : Place) → position_at t.machine.positions p ≡ At x → TableSteps t (going_on p i) a u → Did t p (Go i) x a u
  went i x here step = let inside = is_inside t p x tf here in did (Go i) (Inside inside.0) inside.0 x inside.1 refl refl (ap (place_for (Go i)) here) step

-- ---- the whole call

ends_not : (g : Got) (e : End) → answer_of g e ≡ Answer.Stepped → ⊥
ends_not g End.Got h = cc h
ends_not g End.Granted h = cc h
ends_not g End.Pending h = cc h
ends_not g End.NotFree h = cc h
ends_not g End.Waiting h = cc h
ends_not g End.GivenBack h = cc h
ends_not g (End.Refused r) h = cc h

-- What goes on so from place to place, and comes to that where the call ends; the others stay where they were at this table.
module _ (t : Table Barrier) (p : ℕ) (i : Inputs) (Going : Position → Barrier → Type 0) (AtEnd : Answer → Position → Barrier → Type 0) where
  abbrev pub Elsewhere : World → Type 0
  Elsewhere x = (q : ℕ) → q ≢ p → stage_at x.behind.stages q ≡ stage_at t.stages q

  pub record GoesAt (x : World) : Type 0 where
    pub going : Going (position_at x.behind.machine.positions p) x.behind.machine
    pub elsewhere : Elsewhere x

  pub record EndsAt (a : Answer) (x : World) : Type 0 where
    pub ended : AtEnd a (position_at x.behind.machine.positions p) x.behind.machine
    pub elsewhere : Elsewhere x
    pub outside : is_outside_stage (stage_at x.behind.stages p) ≡ true

  ends_at : (n : Next) (a : Answer) (v : World) (e : Answer) (z : Position) → a ≡ e → position_at v.behind.machine.positions p ≡ z → AtEnd e z v.behind.machine → AtEnd a (position_at v.behind.machine.positions p) v.behind.machine
  ends_at n a v e z is to h = let P : Answer → Type 0 = λ b. AtEnd b (position_at v.behind.machine.positions p) v.behind.machine in let Q : Position → Type 0 = λ y. AtEnd e y v.behind.machine in subst P (sym is) (subst Q (sym to) h)

  outside_then : (w : Within) (g : Got) (e : End) → is_outside_stage (stage_after Rest.Finished w (answer_of g e)) ≡ true
  outside_then w g End.Got = refl
  outside_then w g End.Granted = refl
  outside_then w g End.Pending = refl
  outside_then w g End.NotFree = refl
  outside_then w g End.Waiting = refl
  outside_then w g End.GivenBack = refl
  outside_then w g (End.Refused r) = refl

  on_by : (n : Next) (a : Answer) (v : World) (w : Within) → a ≡ answer_by n → position_at v.behind.machine.positions p ≡ position_after n → Elsewhere v → stage_at v.behind.stages p ≡ stage_after Rest.Finished w a → Then Going AtEnd n v.behind.machine → Onward GoesAt EndsAt a v
  on_by (next.Do place) a v w is to others own h = record { going = λ e. record { going = (let P : Position → Type 0 = λ z. Going z v.behind.machine in subst P (sym to) h); elsewhere = others }; ended = λ n. absurd (n is) }
  on_by (next.End e x) a v w is to others own h = record {
    going = λ s. absurd (ends_not (got_left x) e (sym is ∙ s));
    ended = λ n. record { ended = ends_at (next.End e x) a v (answer_of (got_left x) e) (position_left x) is to h; elsewhere = others; outside = ap is_outside_stage (own ∙ ap (stage_after Rest.Finished w) is) ∙ outside_then w (got_left x) e };
  }

  -- each step from inside leads on
  abbrev pub LeadsOn : Type 0
  LeadsOn = (x y : Barrier) (from : Place) (f : Found) → IsBarrier x → IsBarrier y → position_at x.positions p ≡ At from → Going (At from) x → Step i p from f x y → Then Going AtEnd (next_of from f) y

  abbrev pub AreInside : Type 0
  AreInside = (z : Position) (x : Barrier) → Going z x → (y : Place) × (z ≡ At y)

  pub by_step : (x v : World) (what : What) (from : Place) (a : Answer) → Elsewhere x → (d : Did x.behind p what from a v.behind) → Then Going AtEnd (next_of from d.found) v.behind.machine → Onward GoesAt EndsAt a v
  by_step x v what from a before d h =
      let others : Elsewhere v = λ q apart. ap (λ ss. stage_at ss q) d.stages ∙ (get_or-set_other x.behind.stages p q (stage_after Rest.Finished d.within a) Forgotten apart ∙ before q apart) in
      on_by (next_of from d.found) a v d.within d.answer d.step.to others (ap (λ ss. stage_at ss p) d.stages ∙ get_or-set_same x.behind.stages p (stage_after Rest.Finished d.within a) Forgotten d.known) h

  module _ (inside : AreInside) (leads : LeadsOn) where
    pub onward : (x : World) (a : Answer) (v : World) → GoesAt x → Steps x (going_on p i) a v → Onward GoesAt EndsAt a v
    onward x a v so s =
        let place = inside (position_at x.behind.machine.positions p) x.behind.machine so.going in
        let d = went x.behind v.behind p a s.did.stood.laws s.did.stood.fits i place.0 place.1 s.did.step in
        let P : Position → Type 0 = λ z. Going z x.behind.machine in
        by_step x v (Go i) place.0 a so.elsewhere d (leads x.behind.machine v.behind.machine place.0 d.found s.did.stood.laws s.did.stands.laws place.1 (subst P place.1 so.going) d.step)

    -- from its first step, at this place, to its end
    pub whole : (known : ℕ → Account) (w : World) (c : Call) (n : ℕ) (a : Answer) (v : World) (s : Stage) (within : Within) (from : Place) → w.behind ≡ t → stage_at w.behind.stages p ≡ s → call_at knows s (Begin c i) ≡ Some within → polls_again s (Begin c i) ≡ false
        → place_for (Begin c i) (position_at w.behind.machine.positions p) ≡ Some from → ((f : Found) (y : Barrier) → IsBarrier y → Step i p from f w.behind.machine y → Then Going AtEnd (next_of from f) y)
        → Runs known w (moves_of p c i n) (answers_of n a) v → a ≢ Answer.Stepped → EndsAt a v
    whole known w c n a v s within from is at called first starts begins runs ended =
        along Steps accounts_after HoldsWell p i GoesAt EndsAt onward known n w (beginning p c i) a v
        (λ b x step. (let d = did w.behind x.behind p b step.did.stood.laws step.did.stood.fits (Begin c i) s within from at called first starts step.did.step in
        by_step w x (Begin c i) from b (λ q apart. ap (λ (y : Table Barrier). stage_at y.stages q) is) d (begins d.found x.behind.machine step.did.stands.laws d.step)))
        ended runs
