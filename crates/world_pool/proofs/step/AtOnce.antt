-- What the first step of a call decides at once.
use Rattle.world_pool.proofs.Prelude.{◌≡◌, ℕ, ◌<◌, ◌≤◌, inl, inr, true, Option, Some, refl, arith, ap, sym, ◌∙◌, subst, some_eq, none_some, false≢true, Answer, Call, Inputs, Move, What, Begin, Rest, Stage, Outside, Inside, Forgotten, Within, Standing, outside, inputs_of, Table, stage_at, stands_as, End, Step, Permits, permit_course, Found, Place, Acquire, TryPermit, Lose, Position, Out, Leased, action_of, next_of, place_for, OnPermits, OnItems, fits_permits, in_permits, is_leased, Pool, position_at, lease_at, answer_by, goes_with, standing_of, view_of, verdict_in, AnswersAtOnce, is_first_take, is_lease_drop}
use Rattle.std.specs.Prelude.{◌↔◌}
use Rattle.std.proofs.lemmas.Bool.{cases_lt}
use Rattle.world_semaphore.specs.machine.Conduct.{Tries}
use Rattle.world_semaphore.specs.machine.Course as permit
use Rattle.world_semaphore.specs.machine.Seats.{Share, guard_of}
use Rattle.world_pool.specs.AtOnce.{is_try}
use Rattle.world_pool.proofs.table.Seen as seen
use Rattle.world_pool.proofs.step.Acting.{Acting, loss}
use Rattle.world_pool.proofs.step.Vain.{vain_so}

-- where such a call begins
take_from : (s : Standing) (what : What) (x : Position) (from : Place) → is_first_take s what ≡ true → place_for what x ≡ Some from → from ≡ Acquire
take_from (outside Rest.Idle) (Begin Call.Take i) Out from h e = sym (some_eq e)
take_from (outside Rest.Idle) (Begin Call.Take i) _ from h e = absurd (none_some e)
take_from _ _ x from h e = absurd (cc)

try_from : (s : Standing) (what : What) (x : Position) (from : Place) → is_try s what ≡ true → place_for what x ≡ Some from → from ≡ TryPermit
try_from (outside Rest.Idle) (Begin Call.TryTake i) Out from h e = sym (some_eq e)
try_from (outside Rest.Idle) (Begin Call.TryTake i) _ from h e = absurd (none_some e)
try_from _ _ x from h e = absurd (cc)

drop_from : (d : Option Answer) (s : Stage) (what : What) (x : Position) (from : Place) → is_lease_drop (stands_as d s) what ≡ true → goes_with s x ≡ true → place_for what x ≡ Some from → (from ≡ Lose) × (x ≡ Leased)
drop_from d (Outside Rest.Holding) (Begin Call.Drop i) Leased from h g e = (sym (some_eq e), refl)
drop_from d (Outside Rest.Holding) (Begin Call.Drop i) _ from h g e = absurd (false≢true g)
drop_from d (Outside _) what x from h g e = absurd (cc)
drop_from d (Inside w) what x from h g e = absurd (cc)
drop_from d Forgotten what x from h g e = absurd (cc)

-- a try of the semaphore that found no permit has none
no_guard : permit.share permit.out ≡ guard_of 1 → ⊥
no_guard e = none_some (ap (λ (z : Share). z.held) e)

module _ (i : Inputs) (p : ℕ) (t u : Permits) where
  abbrev Takes : Type 0
  Takes = (permit.share (permit_course u.courses p) ≡ guard_of 1) ↔ (1 ≤ t.words.available)

  acquires : (f : Found) → OnPermits i p (action_of Acquire) f t u → Takes
  acquires (Found.Permit s) h = h.at_once.takes refl
  acquires _ h = absurd h

  tries : (f : Found) → OnPermits i p (action_of TryPermit) f t u → Takes
  tries (Found.Permit s) h = h.at_once.takes refl
  tries _ h = absurd h

  vain : (l : Option ℕ) (s : Step) → Tries 1 s (permit_course u.courses p) → Takes → (answer_by (next_of TryPermit (Found.Permit s)) l ≡ Answer.None) ↔ (t.words.available < 1)
  vain l (Step.End End.Granted) led takes = (let some = takes.0 (rw led refl) in ((λ e. absurd (cc e)), (λ less. absurd (omega arith))))
  vain l (Step.End End.NotFree) led takes = ((λ e. elim (cases_lt t.words.available 1) as (λ _. t.words.available < 1) [ inl less ↦ less | inr more ↦ absurd (no_guard (rw led at (takes.1 (omega arith)))) ]), (λ less. refl))
  vain l _ led takes = absurd led

  vainly : (l : Option ℕ) (f : Found) → OnPermits i p (action_of TryPermit) f t u → (answer_by (next_of TryPermit f) l ≡ Answer.None) ↔ (t.words.available < 1)
  vainly l (Found.Permit s) h = vain l s h.leads (h.at_once.takes refl)
  vainly l _ h = absurd h

module _ (t u : Table Pool) (m : Move) (a : Answer) (w : Within) (k : Acting t u m a w) where
  abbrev p : ℕ
  p = m.party

  abbrev P : Place → Type 0
  P x = OnPermits (inputs_of m.what) p (action_of x) k.found t.machine.permits u.machine.permits

  pub at_once : AnswersAtOnce (view_of t) m a (view_of u)
  at_once = record {
    takes = λ h. (let from = take_from (standing_of (view_of t) p) m.what (position_at t.machine.positions p) k.from h k.starts in acquires (inputs_of m.what) p t.machine.permits u.machine.permits k.found (subst P from k.acts.permits));
    tries = λ h. (let from = try_from (standing_of (view_of t) p) m.what (position_at t.machine.positions p) k.from h k.starts in tries (inputs_of m.what) p t.machine.permits u.machine.permits k.found (subst P from k.acts.permits));
    in_vain = λ h. (
        let from = try_from (standing_of (view_of t) p) m.what (position_at t.machine.positions p) k.from h k.starts in
        let l = lease_at u.machine.leases p in
        let both = vainly (inputs_of m.what) p t.machine.permits u.machine.permits l k.found (subst P from k.acts.permits) in
        let same : a ≡ answer_by (next_of TryPermit k.found) l = k.answer ∙ ap (λ x. answer_by (next_of x k.found) l) from in
        ((λ e. both.0 (sym same ∙ e)), (λ less. same ∙ both.1 less)));
    vain = λ d. vain_so t u m a w k d;
    drops = λ h. (
        let here = drop_from (verdict_in t.machine p) (stage_at t.stages p) m.what (position_at t.machine.positions p) k.from (ap (λ z. is_lease_drop z m.what) (sym (seen.standing_seen t p)) ∙ h) (k.old_fits.stands p k.inside) k.starts in
        let I : Place → Type 0 = λ x. OnItems (action_of x) t.machine.items (lease_at t.machine.leases p) u.machine.items (lease_at u.machine.leases p) in
        let F : Position → Type 0 = λ x. fits_permits (in_permits x) (permit_course t.machine.permits.courses p) ≡ true in (
          k.answer ∙ ap (λ x. answer_by (next_of x k.found) (lease_at u.machine.leases p)) here.0,
          loss t u m a w k k.found (subst P here.0 k.acts.permits) (subst I here.0 k.acts.items) (subst F here.1 (k.old_laws.permits p)) (k.old_laws.leases p ∙ ap is_leased here.1),
        ));
  }
