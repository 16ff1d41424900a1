-- What parties have, by where they stand.
use Rattle.world_barrier.proofs.Prelude.{◌≡◌, ◌≢◌, ℕ, ◌≤◌, true, false, Option, Some, None, refl, arith, ap, sym, ◌∙◌, subst, entries_of, Answer, Rest, Stage, Outside, Inside, Forgotten, Within, inside, is_outside, some_eq, none_some, both, stage_at, stands_as, Table, by_stage_or_past_at, by_stage_or_past, Course, holds, is_out, is_releasing, decision, End, course_at, out_unlisted, out_free, out_unstarved, waiting_free, releasing_free, holding_holds, Aim, Ending, Place, EnterLock, WaitLock, TakeLock, Look, Join, Arrive, Complete, NotifyAll, Check, JoinAgain, ReleaseLock, ReleasingLock, Ask, CancelLock, CancellingLock, CancelLeave, Abandon, Position, Out, Made, Locking, Waiting, At, Progress, arrivals_at, fits_lock, in_lock, InLock, listed, HasOutcome, Outcome, holds_there, Wait, no_wait, uncounted, counted, wait_for, wait_until, wait_at, refused_by, verdict_until, verdict_of, verdict, Barrier, IsBarrier, goes_with, is_begun, runs, position_at, arrival_at, ListName, Lock, Generation, World, list_in, standing_of, wait_of, has_to_tell, IsClear, view_of, HasItsOwn, IsBarrierTable}
use Rattle.world_base.proofs.of_table.Mapped.{past_last}
use Rattle.world_mutex.proofs.of_machine.callers.Holders as sees
use Rattle.world_barrier.proofs.table.Seen as seen
use Rattle.world_barrier.proofs.step.Locks.{cancelling_free, cancelling_listed, out_quiet, waiting_quiet}
use Rattle.world_barrier.proofs.Numbers as numbers

-- whoever has a wait has one
waits_for : (a : Aim) (n : ℕ) → wait_for a n ≢ no_wait
waits_for Aim.Arrive n e = cc e
waits_for Aim.Check n e = cc e

waits_until : (e : Ending) (n : ℕ) → wait_until e n ≢ no_wait
waits_until Ending.Wait n h = cc h
waits_until Ending.Follow n h = cc h
waits_until Ending.Lead n h = cc h
waits_until Ending.RefuseGenerations n h = cc h
waits_until (Ending.RefuseMemory a) n h = waits_for a n h

-- a wait that isn't counted stands in the list only to be counted
listed_until : (e : Ending) (n : ℕ) → wait_until e n ≡ uncounted → listed (At (ReleaseLock e)) ≡ 0
listed_until Ending.Wait n h = absurd (cc h)
listed_until Ending.Follow n h = refl
listed_until Ending.Lead n h = refl
listed_until Ending.RefuseGenerations n h = refl
listed_until (Ending.RefuseMemory a) n h = refl

pub unlisted_by : (x : Position) (n : ℕ) → wait_at x n ≡ uncounted → (in_lock x ≡ holds_there → ⊥) → listed x ≡ 0
unlisted_by Out n e free = refl
unlisted_by (Made a) n e free = refl
unlisted_by (Locking a) n e free = refl
unlisted_by Waiting n e free = absurd (cc e)
unlisted_by (At Arrive) n e free = absurd (free refl)
unlisted_by (At (ReleaseLock k)) n e free = listed_until k n e
unlisted_by (At (ReleasingLock k)) n e free = listed_until k n e
unlisted_by (At Ask) n e free = absurd (cc e)
unlisted_by (At CancelLeave) n e free = absurd (cc e)
unlisted_by (At _) n e free = refl

-- no party is listed twice
pub at_most_once : (x : Position) → listed x ≤ 1
at_most_once (At (ReleaseLock Ending.Wait)) = omega arith
at_most_once (At (ReleaseLock Ending.Follow)) = omega arith
at_most_once (At (ReleaseLock Ending.Lead)) = omega arith
at_most_once (At (ReleaseLock Ending.RefuseGenerations)) = omega arith
at_most_once (At (ReleaseLock (Ending.RefuseMemory a))) = omega arith
at_most_once (At (ReleasingLock Ending.Wait)) = omega arith
at_most_once (At (ReleasingLock Ending.Follow)) = omega arith
at_most_once (At (ReleasingLock Ending.Lead)) = omega arith
at_most_once (At (ReleasingLock Ending.RefuseGenerations)) = omega arith
at_most_once (At (ReleasingLock (Ending.RefuseMemory a))) = omega arith
at_most_once (At _) = omega arith
at_most_once _ = omega arith

-- no call is decided on Pending
refused_never : (o : Option End) → refused_by o ≡ Some Answer.Pending → ⊥
refused_never None e = none_some e
refused_never (Some (End.Refused r)) e = cc (some_eq e)
refused_never (Some _) e = none_some e

until_never : (e : Ending) → verdict_until e ≡ Some Answer.Pending → ⊥
until_never Ending.Wait h = none_some h
until_never Ending.Follow h = cc (some_eq h)
until_never Ending.Lead h = cc (some_eq h)
until_never Ending.RefuseGenerations h = cc (some_eq h)
until_never (Ending.RefuseMemory a) h = cc (some_eq h)

pub never_pending : (y : Place) (c : Course) → verdict_of y c ≡ Some Answer.Pending → ⊥
never_pending (TakeLock a) c e = refused_never (decision c) e
never_pending (ReleaseLock k) c e = until_never k e
never_pending (ReleasingLock k) c e = until_never k e
never_pending NotifyAll c e = cc (some_eq e)
never_pending CancelLock c e = cc (some_eq e)
never_pending CancellingLock c e = cc (some_eq e)
never_pending CancelLeave c e = cc (some_eq e)
never_pending Abandon c e = cc (some_eq e)
never_pending _ c e = none_some e

pends_by : (s : Stage) (x : Position) (c : Course) (u : Within) → stands_as (verdict x c) s ≡ inside u (Some Answer.Pending) → ⊥
pends_by (Outside r) x c u e = cc
pends_by (Inside w) (At y) c u e = never_pending y c (cc)
pends_by (Inside w) _ c u e = cc
pends_by Forgotten x c u e = cc

-- what holds of any World that stands
pub record Standing_well (w : World) : Type 0 where
  pub each : (p : ℕ) → HasItsOwn w p (standing_of w p)
  pub uncounted : (p : ℕ) → wait_of w p ≡ uncounted → w.lock.holder ≢ Some p → entries_of p w.list ≡ 0
  pub never_pending : (p : ℕ) (u : Within) → standing_of w p ≢ inside u (Some Answer.Pending)
  pub told_before : (p : ℕ) → has_to_tell w p ≡ true → is_outside (standing_of w p) ≡ false

module _ (t : Table Barrier) (laws : IsBarrier t.machine) (fits : IsBarrierTable t) where
  abbrev w : World
  w = view_of t

  abbrev x_of : ℕ → Position
  x_of q = position_at t.machine.positions q

  abbrev c_of : ℕ → Course
  c_of q = course_at t.machine.lock.courses q

  abbrev a_of : ℕ → Progress
  a_of q = arrival_at t.machine.arrivals q

  abbrev num : ℕ → ℕ
  num q = arrivals_at t.machine.words.size (a_of q)

  pub not_holder : (q : ℕ) → holds (c_of q) ≡ 0 → w.lock.holder ≢ Some q
  not_holder q free h = let one = sees.is_held_by t.machine.lock.courses q h in absurd (omega arith)

  pub is_holder : (q : ℕ) → holds (c_of q) ≡ 1 → w.lock.holder ≡ Some q
  is_holder q one = sees.holds_it t.machine.lock.courses q laws.lock.one_holder one

  pub holds_lock : (q : ℕ) → in_lock (x_of q) ≡ holds_there → w.lock.holder ≡ Some q
  holds_lock q e = is_holder q (holding_holds (c_of q) (let P : InLock → Type 0 = λ l. fits_lock l (c_of q) ≡ true in subst P e (laws.links q)))

  pub clear_at : (q : ℕ) → is_out (c_of q) ≡ true → listed (x_of q) ≡ 0 → IsClear w q
  clear_at q o none = record {
    lists = λ list. in_list list;
    starved = sees.starved_at t.machine.lock.courses q ∙ out_unstarved (c_of q) o;
    lock = not_holder q (out_free (c_of q) o);
  } where
    in_list : (list : ListName) → entries_of q (list_in list w) ≡ 0
    in_list Lock = laws.lock.owners q ∙ out_unlisted (c_of q) o
    in_list Generation = laws.owners q ∙ none

  -- what is known of a party that stands here
  record Facts (q : ℕ) (x : Position) : Type 0 where
    link : fits_lock (in_lock x) (c_of q) ≡ true
    wait : wait_of w q ≡ wait_at x (num q)
    owner : entries_of q w.list ≡ listed x
    outcome : HasOutcome x (a_of q) t.machine.words
    clear : in_lock x ≡ in_lock Out → listed x ≡ 0 → IsClear w q

  facts : (q : ℕ) (x : Position) → x_of q ≡ x → Facts q x
  facts q x e = record {
    link = (let P : Position → Type 0 = λ y. fits_lock (in_lock y) (c_of q) ≡ true in subst P e (laws.links q));
    wait = seen.wait_seen t q ∙ ap (λ y. wait_at y (num q)) e;
    owner = laws.owners q ∙ ap listed e;
    outcome = (let P : Position → Type 0 = λ y. HasOutcome y (a_of q) t.machine.words in subst P e (laws.outcomes q));
    clear = λ o l. clear_at q (let P : InLock → Type 0 = λ z. fits_lock z (c_of q) ≡ true in subst P (ap in_lock e ∙ o) (laws.links q)) (ap listed e ∙ l);
  }

  waits_there : (q : ℕ) (v : Wait) → wait_of w q ≡ v → v ≢ no_wait → wait_of w q ≢ no_wait
  waits_there q v e some none = some (sym e ∙ none)

  led : (q : ℕ) (u : Within) → wait_of w q ≡ counted (num q) → Outcome Ending.Lead (a_of q) t.machine.words → HasItsOwn w q (inside u (verdict_until Ending.Lead))
  led q u e o = (num q, e, numbers.leads t.machine.words.size (a_of q) o.0)

  followed : (q : ℕ) (u : Within) → wait_of w q ≡ counted (num q) → Outcome Ending.Follow (a_of q) t.machine.words → HasItsOwn w q (inside u (verdict_until Ending.Follow))
  followed q u e o = (num q, e, (numbers.follower_follows t.machine.words.size (a_of q) o.0, numbers.is_finished t.machine.words.size (a_of q) t.machine.words.progress o.0 o.1))

  refused_owns : (q : ℕ) (u : Within) (o : Option End) → wait_of w q ≢ no_wait → HasItsOwn w q (inside u (refused_by o))
  refused_owns q u None h = h
  refused_owns q u (Some (End.Refused r)) h = h
  refused_owns q u (Some _) h = h

  ending_owns : (q : ℕ) (u : Within) (e : Ending) → wait_of w q ≡ wait_until e (num q) → Outcome e (a_of q) t.machine.words → HasItsOwn w q (inside u (verdict_until e))
  ending_owns q u Ending.Wait e o = waits_there q _ e (waits_until Ending.Wait (num q))
  ending_owns q u Ending.Follow e o = followed q u e o
  ending_owns q u Ending.Lead e o = led q u e o
  ending_owns q u Ending.RefuseGenerations e o = waits_there q _ e (waits_until Ending.RefuseGenerations (num q))
  ending_owns q u (Ending.RefuseMemory a) e o = waits_there q _ e (waits_for a (num q))

  place_owns : (q : ℕ) (u : Within) (y : Place) → is_begun y ≡ true → Facts q (At y) → HasItsOwn w q (inside u (verdict_of y (c_of q)))
  place_owns q u (EnterLock a) b k = waits_there q _ k.wait (waits_for a (num q))
  place_owns q u (WaitLock a) b k = absurd (cc b)
  place_owns q u (TakeLock a) b k = refused_owns q u (decision (c_of q)) (waits_there q _ k.wait (waits_for a (num q)))
  place_owns q u NotifyAll b k = led q u k.wait k.outcome
  place_owns q u (ReleaseLock e) b k = ending_owns q u e k.wait k.outcome
  place_owns q u (ReleasingLock e) b k = ending_owns q u e k.wait k.outcome
  place_owns q u CancelLock b k = absurd (cc b)
  place_owns q u CancellingLock b k = record { lock = not_holder q (cancelling_free (c_of q) k.link); uncounted = λ none. (let own = laws.lock.owners q in let one = cancelling_listed (c_of q) k.link in absurd (omega arith)); list = k.owner; wait = k.wait }
  place_owns q u CancelLeave b k = absurd (cc b)
  place_owns q u Abandon b k = absurd (cc b)
  place_owns q u Look b k = waits_there q _ k.wait (λ e. cc e)
  place_owns q u Join b k = waits_there q _ k.wait (λ e. cc e)
  place_owns q u Arrive b k = waits_there q _ k.wait (λ e. cc e)
  place_owns q u Complete b k = waits_there q _ k.wait (λ e. cc e)
  place_owns q u Check b k = waits_there q _ k.wait (λ e. cc e)
  place_owns q u JoinAgain b k = waits_there q _ k.wait (λ e. cc e)
  place_owns q u Ask b k = waits_there q _ k.wait (λ e. cc e)

  rests_free : (q : ℕ) (x : Position) → goes_with Forgotten x ≡ true → Facts q x → holds (c_of q) ≡ 0
  rests_free q Out g k = out_free (c_of q) k.link
  rests_free q (Made a) g k = out_free (c_of q) k.link
  rests_free q (Locking a) g k = waiting_free (c_of q) k.link
  rests_free q Waiting g k = out_free (c_of q) k.link
  rests_free q (At y) g k = absurd (cc g)

  owns_by : (q : ℕ) (s : Stage) (x : Position) → goes_with s x ≡ true → Facts q x → HasItsOwn w q (stands_as (verdict x (c_of q)) s)
  owns_by q (Outside Rest.Idle) Out g k = record { clear = k.clear refl refl; wait = k.wait }
  owns_by q (Outside Rest.Idle) _ g k = absurd (cc g)
  owns_by q (Outside Rest.Finished) Out g k = record { clear = k.clear refl refl; wait = k.wait }
  owns_by q (Outside Rest.Finished) _ g k = absurd (cc g)
  owns_by q (Outside Rest.Pending) (Made a) g k = (not_holder q (rests_free q (Made a) refl k), waits_there q _ k.wait (waits_for a (num q)))
  owns_by q (Outside Rest.Pending) (Locking a) g k = (not_holder q (rests_free q (Locking a) refl k), waits_there q _ k.wait (waits_for a (num q)))
  owns_by q (Outside Rest.Pending) Waiting g k = (not_holder q (rests_free q Waiting refl k), waits_there q _ k.wait (λ e. cc e))
  owns_by q (Outside Rest.Pending) _ g k = absurd (cc g)
  owns_by q (Outside Rest.Holding) x g k = absurd (cc g)
  owns_by q (Inside u) (At y) g k = place_owns q u y (both (is_begun y) (runs u.kind u.was y) g).0 k
  owns_by q (Inside u) _ g k = absurd (cc g)
  owns_by q Forgotten x g k = not_holder q (rests_free q x g k)

  past_is_out : (q : ℕ) → stage_at t.stages q ≡ Forgotten → goes_with Forgotten (x_of q) ≡ true
  past_is_out q e = by_stage_or_past t.stages q (goes_with Forgotten (x_of q) ≡ true)
      (λ past. ap (goes_with Forgotten) (past_last t.machine.positions q Out (omega (arith, past, fits.as_many))))
      (λ inside. (let P : Stage → Type 0 = λ s. goes_with s (x_of q) ≡ true in subst P e (fits.stands q inside)))

  goes_so : (q : ℕ) → goes_with (stage_at t.stages q) (x_of q) ≡ true
  goes_so q = by_stage_or_past_at t.stages q (goes_with (stage_at t.stages q) (x_of q) ≡ true)
      (λ past. ap (λ s. goes_with s (x_of q)) past ∙ past_is_out q past) (λ inside. fits.stands q inside)

  -- who has to tell is inside a call
  tells_inside : (q : ℕ) (s : Stage) (x : Position) → goes_with s x ≡ true → fits_lock (in_lock x) (c_of q) ≡ true → is_releasing (c_of q) ≡ true → is_outside (stands_as (verdict x (c_of q)) s) ≡ false
  tells_inside q (Inside u) x g link h = refl
  tells_inside q _ Out g link h = absurd (out_quiet (c_of q) link h)
  tells_inside q _ (Made a) g link h = absurd (out_quiet (c_of q) link h)
  tells_inside q _ (Locking a) g link h = absurd (waiting_quiet (c_of q) link h)
  tells_inside q _ Waiting g link h = absurd (out_quiet (c_of q) link h)
  tells_inside q (Outside Rest.Idle) (At y) g link h = absurd (cc g)
  tells_inside q (Outside Rest.Pending) (At y) g link h = absurd (cc g)
  tells_inside q (Outside Rest.Holding) (At y) g link h = absurd (cc g)
  tells_inside q (Outside Rest.Finished) (At y) g link h = absurd (cc g)
  tells_inside q Forgotten (At y) g link h = absurd (cc g)

  pub told_inside : (q : ℕ) → has_to_tell w q ≡ true → is_outside (standing_of w q) ≡ false
  told_inside q h = ap is_outside (seen.standing_seen t q) ∙ tells_inside q (stage_at t.stages q) (x_of q) (goes_so q) (laws.links q) (sym (seen.telling_seen t q) ∙ h)

  pub told_without : (q : ℕ) → has_to_tell w q ≡ true → w.lock.holder ≢ Some q
  told_without q h = not_holder q (releasing_free (c_of q) (sym (seen.telling_seen t q) ∙ h))

  pub each_has : (q : ℕ) → HasItsOwn w q (standing_of w q)
  each_has q = subst (HasItsOwn w q) (sym (seen.standing_seen t q)) (owns_by q (stage_at t.stages q) (x_of q) (goes_so q) (facts q (x_of q) refl))

  pub unlisted : (q : ℕ) → wait_of w q ≡ uncounted → w.lock.holder ≢ Some q → entries_of q w.list ≡ 0
  unlisted q e free = laws.owners q ∙ unlisted_by (x_of q) (num q) (sym (seen.wait_seen t q) ∙ e) (λ h. free (holds_lock q h))

  pub well : Standing_well w
  well = record {
    each = each_has;
    uncounted = unlisted;
    never_pending = λ q u e. pends_by (stage_at t.stages q) (x_of q) (c_of q) u (sym (seen.standing_seen t q) ∙ e);
    told_before = told_inside;
  }
