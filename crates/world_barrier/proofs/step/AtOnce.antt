-- What the first step of a poll decides at once.
use Rattle.world_barrier.proofs.Prelude.{◌≡◌, ℕ, ◌+◌, ◌<◌, ◌==◌, ◌&&◌, ◌⊎◌, inl, inr, if◌then◌else◌, Bool, true, false, Option, Some, None, is_none, refl, arith, ap, sym, ◌∙◌, subst, nat_tests, is_marked_at, is_party, entries_of, Answer, Inputs, Move, Call, What, Begin, Within, how_many, Standing, outside, inputs_of, some_eq, none_some, stage_at, stands_as, inside_as, Table, Course, is_waiting, listed_there, LockStep, course_at, holders, starved, out_unlisted, waiting_listed, Aim, Found, Place, EnterLock, WaitLock, Ask, Position, Out, Made, Locking, Waiting, At, Progress, place_for, action_of, next_of, after_lock, Finds, FindsAsk, OnLock, fits_lock, in_lock, listed, verdict, Barrier, position_at, arrival_at, answer_by, World, standing_of, is_free, view_of, TakesAtOnce, AnswersAtOnce, entries_in, is_first_poll, is_later_poll, ◌≢◌, notified, Go, Refusal, Stage, Inside, inside, refused, call_at, End as LockEnd, decision, starved_there as counted, bit, holding_holds, IsLegal, MayDo, may_tell, is_dropping, true≢false, Effect, nothing, changes, does, joins, asks, notifies, notifies_additionally, Ending, TakeLock, ReleaseLock, ReleasingLock, NotifyAll, CancelLock, CancellingLock, CancelLeave, Abandon, after_release, released, knows, refused_by, verdict_of, verdict_until, is_starved}
use Rattle.world_base.specs.declared.standing.Rest.TheVariants.{Pending}
use Rattle.world_mutex.proofs.of_machine.callers.Holders as sees
use Rattle.world_barrier.proofs.step.Here.{HasEntries, enters_lock}
use Rattle.world_barrier.proofs.step.Owns.{at_most_once}
use Rattle.world_barrier.proofs.step.Acting as acting
use Rattle.world_barrier.proofs.step.Acting.{Acting}
use Rattle.world_mutex.specs.machine.Effects.{entries_after as lock_entries_after}
use Rattle.world_base.specs.Frame.{is_drop}
use Rattle.world_base.specs.Steps.{leaves, list_after}
use Rattle.world_mutex.specs.machine.Course as course
use Rattle.world_mutex.specs.machine.Effects as mutex

-- a free inner lock
free_by : (h : Option ℕ) (n : ℕ) → is_none h && (n == 0) ≡ true → (h ≡ None) × (n ≡ 0)
free_by None n e = (refl, grind (arith, nat_tests))
free_by (Some q) n e = absurd (cc e)

is_free_by : (h : Option ℕ) (n : ℕ) → h ≡ None → n ≡ 0 → is_none h && (n == 0) ≡ true
is_free_by h n e f = rw (e, f) refl

some_entries : (x : Position) (c : Course) (e l : ℕ) → fits_lock (in_lock x) c ≡ true → e ≡ listed_there c → l ≡ listed x → HasEntries x (e + l)
some_entries (Locking a) c e l link is own = let one = waiting_listed c link in omega arith
some_entries Waiting c e l link is own = let none = out_unlisted c link in omega arith
some_entries Out c e l link is own = tt
some_entries (Made a) c e l link is own = tt
some_entries (At y) c e l link is own = tt

-- whether it got the inner lock or not, the poll goes on
got_on : (a : Aim) → answer_by (after_lock a (Found.Lock (LockStep.End LockEnd.Got))) ≡ Answer.Stepped
got_on Aim.Arrive = refl
got_on Aim.Check = refl

goes_on : (a : Aim) (s : LockStep) → (s ≡ LockStep.More) ⊎ (s ≡ LockStep.End LockEnd.Got) → answer_by (after_lock a (Found.Lock s)) ≡ Answer.Stepped
goes_on a s (inl goes) = ap (λ z. answer_by (after_lock a (Found.Lock z))) goes
goes_on a s (inr gets) = ap (λ z. answer_by (after_lock a (Found.Lock z))) gets ∙ got_on a

-- a poll in the inner lock's list goes on where it was told
told_on : (a : Aim) (told : Bool) → answer_by (after_lock a (Found.Lock (if told then LockStep.More else LockStep.End LockEnd.Pending))) ≡ (if told then Answer.Stepped else Answer.Pending)
told_on a true = refl
told_on a false = refl

-- the poll of a party in the inner lock's list begins to take the lock there
begins_there : (s : Standing) (what : What) (x : Position) (c : Course) (from : Place) → is_later_poll s what ≡ true → place_for what x ≡ Some from → fits_lock (in_lock x) c ≡ true → 0 < listed_there c → (b : Aim) × (from ≡ WaitLock b) × (is_waiting c ≡ true)
begins_there (outside Pending) (Begin Call.Poll i) (Locking b) c from h e link some = (b, sym (some_eq e), link)
begins_there (outside Pending) (Begin Call.Poll i) (Made b) c from h e link some = let none = out_unlisted c link in absurd (omega arith)
begins_there (outside Pending) (Begin Call.Poll i) Waiting c from h e link some = let none = out_unlisted c link in absurd (omega arith)
begins_there (outside Pending) (Begin Call.Poll i) Out c from h e link some = absurd (none_some e)
begins_there (outside Pending) (Begin Call.Poll i) (At y) c from h e link some = absurd (none_some e)
begins_there _ _ x c from h e link some = absurd (cc h)

-- so does its drop
drops_there : (what : What) (x : Position) (c : Course) (from : Place) → is_drop what ≡ true → place_for what x ≡ Some from → fits_lock (in_lock x) c ≡ true → 0 < listed_there c → (from ≡ CancelLock) × (is_waiting c ≡ true)
drops_there (Begin Call.Drop i) (Locking b) c from h e link some = (sym (some_eq e), link)
drops_there (Begin Call.Drop i) (Made b) c from h e link some = let none = out_unlisted c link in absurd (omega arith)
drops_there (Begin Call.Drop i) Waiting c from h e link some = let none = out_unlisted c link in absurd (omega arith)
drops_there (Begin Call.Drop i) Out c from h e link some = let none = out_unlisted c link in absurd (omega arith)
drops_there (Begin Call.Drop i) (At y) c from h e link some = absurd (none_some e)
drops_there _ x c from h e link some = absurd (cc h)

-- one that doesn't stand there, and has nothing to do there
drops_off : (what : What) (x : Position) (c : Course) (from : Place) → is_drop what ≡ true → place_for what x ≡ Some from → fits_lock (in_lock x) c ≡ true → listed_there c ≡ 0 → (from ≡ CancelLeave) ⊎ (from ≡ Abandon)
drops_off (Begin Call.Drop i) (Locking b) c from h e link none = let one = waiting_listed c link in absurd (omega arith)
drops_off (Begin Call.Drop i) (Made b) c from h e link none = inr (sym (some_eq e))
drops_off (Begin Call.Drop i) Waiting c from h e link none = inl (sym (some_eq e))
drops_off (Begin Call.Drop i) Out c from h e link none = inr (sym (some_eq e))
drops_off (Begin Call.Drop i) (At y) c from h e link none = absurd (none_some e)
drops_off _ x c from h e link none = absurd (cc h)

-- a drop's first step, and a further one: in the inner lock it waits, or is leaving
record Drops (c : Course) (from : Place) : Type 0 where
  verdict : verdict_of from c ≡ Some Answer.GivenBack
  waits : from ≡ CancelLock → is_waiting c ≡ true
  cancels : from ≡ CancellingLock → course.is_cancelling c ≡ true

begins_drop : (what : What) (x : Position) (c : Course) (from : Place) → is_drop what ≡ true → place_for what x ≡ Some from → fits_lock (in_lock x) c ≡ true → Drops c from
begins_drop (Begin Call.Drop i) (Locking b) c from h e link = let P : Place → Type 0 = Drops c in subst P (some_eq e) (record { verdict = refl; waits = λ g. link; cancels = λ g. absurd (cc g) })
begins_drop (Begin Call.Drop i) (Made b) c from h e link = let P : Place → Type 0 = Drops c in subst P (some_eq e) (record { verdict = refl; waits = λ g. absurd (cc g); cancels = λ g. absurd (cc g) })
begins_drop (Begin Call.Drop i) Waiting c from h e link = let P : Place → Type 0 = Drops c in subst P (some_eq e) (record { verdict = refl; waits = λ g. absurd (cc g); cancels = λ g. absurd (cc g) })
begins_drop (Begin Call.Drop i) Out c from h e link = let P : Place → Type 0 = Drops c in subst P (some_eq e) (record { verdict = refl; waits = λ g. absurd (cc g); cancels = λ g. absurd (cc g) })
begins_drop (Begin Call.Drop i) (At y) c from h e link = absurd (none_some e)
begins_drop _ x c from h e link = absurd (cc h)

goes_on_drop : (y : Place) (c : Course) → fits_lock (in_lock (At y)) c ≡ true → verdict_of y c ≡ Some Answer.GivenBack → Drops c y
goes_on_drop y c link v = record {
  verdict = v;
  waits = λ e. (let P : Place → Type 0 = λ z. fits_lock (in_lock (At z)) c ≡ true in subst P e link);
  cancels = λ e. (let P : Place → Type 0 = λ z. fits_lock (in_lock (At z)) c ≡ true in subst P e link);
}

dropping : (s : Standing) (what : What) → is_dropping s what ≡ true → (is_drop what ≡ true) ⊎ ((u : Within) × (s ≡ inside u (Some Answer.GivenBack)))
dropping (outside r) what h = inl h
dropping (inside u (Some Answer.GivenBack)) what h = inr (u, refl)
dropping _ what h = absurd (cc h)

never_given : (o : Option LockEnd) → refused_by o ≡ Some Answer.GivenBack → ⊥
never_given (Some (LockEnd.Refused r)) e = cc e
never_given _ e = none_some e

until_given : (e : Ending) → verdict_until e ≡ Some Answer.GivenBack → ⊥
until_given Ending.Wait d = none_some d
until_given _ d = cc d

-- who waits or leaves notifies nobody there
silent : (c : Course) → (is_waiting c ≡ true) ⊎ (course.is_cancelling c ≡ true) → may_tell c ≡ false
silent (course.waiting s) h = refl
silent (course.cancelling s) h = refl
silent _ (inl h) = absurd (cc h)
silent _ (inr h) = absurd (cc h)

cancels_back : (c : Course) → course.is_cancelling c ≡ true → decision c ≡ Some LockEnd.GivenBack
cancels_back (course.cancelling s) h = refl
cancels_back _ h = absurd (cc h)

waits_plain : (c : Course) → is_waiting c ≡ true → counted c ≡ 0 → c ≡ course.waiting false
waits_plain (course.waiting true) w h = absurd (omega (arith, h))
waits_plain (course.waiting false) w h = refl
waits_plain _ w h = absurd (cc w)

-- ---- a refused party

going_here : (w : Within) (s : Stage) (u : Within) (what : What) (x : Position) (from : Place) → call_at knows s what ≡ Some w → s ≡ Inside u → place_for what x ≡ Some from → x ≡ At from
going_here w s u (Begin c i) x from e is starts = let C : Stage → Type 0 = λ z. call_at knows z (Begin c i) ≡ Some w in absurd (none_some (subst C is e))
going_here w s u (Go i) (At y) from e is starts = ap At (some_eq starts)
going_here w s u (Go i) _ from e is starts = absurd (none_some starts)

refused_as : (o : Option LockEnd) (r : ℕ) → refused_by o ≡ Some (Answer.Refused r) → (why : Refusal) × (o ≡ Some (LockEnd.Refused why)) × (refused why ≡ Answer.Refused r)
refused_as None r e = absurd (none_some e)
refused_as (Some (LockEnd.Refused why)) r e = (why, refl, some_eq e)
refused_as (Some _) r e = absurd (none_some e)

released_as : (e : Ending) (r : ℕ) → verdict_until e ≡ Some (Answer.Refused r) → answer_by (released e) ≡ Answer.Refused r
released_as Ending.Wait r d = absurd (none_some d)
released_as Ending.Follow r d = absurd (cc d)
released_as Ending.Lead r d = absurd (cc d)
released_as Ending.RefuseGenerations r d = some_eq d
released_as (Ending.RefuseMemory a) r d = some_eq d

module _ (t u : Table Barrier) (m : Move) (a : Answer) (w : Within) (k : Acting t u m a w) where
  abbrev p : ℕ
  p = m.party

  abbrev x : Position
  x = position_at t.machine.positions p

  abbrev c : Course
  c = course_at t.machine.lock.courses p

  abbrev i : Inputs
  i = inputs_of m.what

  abbrev mine : Progress
  mine = arrival_at t.machine.arrivals p

  abbrev old : World
  old = view_of t

  abbrev new : World
  new = view_of u

  counted_so : how_many old.lock.starved ≡ starved t.machine.lock
  counted_so = sees.how_many_counted t.machine.lock.courses

  free_old : is_free old.lock ≡ true → (holders t.machine.lock ≡ 0) × (starved t.machine.lock ≡ 0)
  free_old h = let f = free_by old.lock.holder (how_many old.lock.starved) h in (sees.none_holds 0 t.machine.lock.courses f.0, sym counted_so ∙ f.1)

  old_free : (holders t.machine.lock ≡ 0) × (starved t.machine.lock ≡ 0) → is_free old.lock ≡ true
  old_free h = is_free_by old.lock.holder (how_many old.lock.starved) (sees.none_held 0 t.machine.lock.courses h.0) (counted_so ∙ h.1)

  by_step : (b : Aim) (f : Found) → OnLock i p (action_of (EnterLock b)) f t.machine.lock u.machine.lock → a ≡ answer_by (next_of (EnterLock b) f) → TakesAtOnce old m a new
  by_step b (Found.Lock s) l e = record {
    takes = ((λ h. old_free ((l.at_once.takes refl).0 h)), (λ h. (l.at_once.takes refl).1 (free_old h)));
    goes_on = rw e (goes_on b s (l.first refl));
  }
  by_step b _ l e = absurd l

  by_place : (y : Place) → enters_lock y ≡ true → k.from ≡ y → TakesAtOnce old m a new
  by_place (EnterLock b) h e =
      let P : Place → Type 0 = λ y. OnLock i p (action_of y) k.found t.machine.lock u.machine.lock in
      by_step b k.found (subst P e k.acts.lock) (k.answer ∙ ap (λ y. answer_by (next_of y k.found)) e)
  by_place _ h e = absurd (cc h)

  entries_so : HasEntries x (entries_in old p)
  entries_so = some_entries x c (entries_of p t.machine.lock.entries) (entries_of p t.machine.entries) (k.old_laws.links p) (k.old_laws.lock.owners p) (k.old_laws.owners p)

  first : is_first_poll (standing_of old p) m.what (entries_in old p) ≡ true → TakesAtOnce old m a new
  first h = by_place k.from (k.here.first c (entries_in old p) (ap (λ z. is_first_poll z m.what (entries_in old p)) (sym (acting.stood t u m a w k)) ∙ h) entries_so) refl

  asked : (f : Found) → FindsAsk p f t.machine.entries → answer_by (next_of Ask f) ≡ (if is_marked_at (is_party p) t.machine.entries then Answer.Stepped else Answer.Pending)
  asked Found.Yes e = rw e refl
  asked Found.No e = rw e refl
  asked _ e = absurd e

  listed_once : 0 < entries_of p t.machine.entries → listed x ≡ 1
  listed_once some = let few = at_most_once x in let own = k.old_laws.owners p in omega arith

  listed_so : is_later_poll (standing_of old p) m.what ≡ true → 0 < entries_of p old.list → a ≡ (if is_marked_at (is_party p) old.list then Answer.Stepped else Answer.Pending)
  listed_so h some =
      let h' : is_later_poll (stands_as (verdict x c) (stage_at t.stages p)) m.what ≡ true = ap (λ z. is_later_poll z m.what) (sym (acting.stood t u m a w k)) ∙ h in
      let at : k.from ≡ Ask = k.here.later c h' (listed_once some) in
      let P : Place → Type 0 = λ y. Finds i p (action_of y) k.found (t.machine.words) mine t.machine.entries in
      k.answer ∙ (ap (λ y. answer_by (next_of y k.found)) at ∙ asked k.found (subst P at k.acts.finds))

  abbrev marked_there : Bool
  marked_there = is_marked_at (is_party p) t.machine.lock.entries

  locking_by : (b : Aim) (f : Found) → 0 < entries_of p t.machine.lock.entries → OnLock i p (action_of (WaitLock b)) f t.machine.lock u.machine.lock → a ≡ answer_by (next_of (WaitLock b) f) → a ≡ (if marked_there then Answer.Stepped else Answer.Pending)
  locking_by b (Found.Lock s) some l e = e ∙ (ap (λ z. answer_by (after_lock b (Found.Lock z))) (l.at_once.listed refl some).step ∙ told_on b marked_there)
  locking_by b _ some l e = absurd l

  locking_so : is_later_poll (standing_of old p) m.what ≡ true → 0 < entries_of p old.lock_list → a ≡ (if is_marked_at (is_party p) old.lock_list then Answer.Stepped else Answer.Pending)
  locking_so h some =
      let own = k.old_laws.lock.owners p in
      let there = begins_there (standing_of old p) m.what x c k.from h k.starts (k.old_laws.links p) (omega arith) in
      let P : Place → Type 0 = λ y. OnLock i p (action_of y) k.found t.machine.lock u.machine.lock in
      locking_by there.0 k.found some (subst P there.1 k.acts.lock) (k.answer ∙ ap (λ y. answer_by (next_of y k.found)) there.1)

  dropped_by : (f : Found) → c ≡ course.waiting false → OnLock i p (action_of CancelLock) f t.machine.lock u.machine.lock → (answer_by (next_of CancelLock f) ≡ Answer.GivenBack) × (u.machine.lock.entries ≡ list_after p leaves t.machine.lock.entries)
  dropped_by (Found.Lock s) waits l = let it = l.abandons refl waits in (ap (λ z. answer_by (next_of CancelLock (Found.Lock z))) it.0, it.1)
  dropped_by _ waits l = absurd l

  abandons_so : is_drop m.what ≡ true → 0 < entries_of p old.lock_list → is_starved old.lock p ≡ false → (a ≡ Answer.GivenBack) × (new.lock_list ≡ list_after p leaves old.lock_list)
  abandons_so drops some plain =
      let own = k.old_laws.lock.owners p in
      let there = drops_there m.what x c k.from drops k.starts (k.old_laws.links p) (omega arith) in
      let uncounted : counted c ≡ 0 = sym (sees.counted_bit c) ∙ ap bit (sym (sees.starved_at t.machine.lock.courses p) ∙ plain) in
      let P : Place → Type 0 = λ y. OnLock i p (action_of y) k.found t.machine.lock u.machine.lock in
      let it = dropped_by k.found (waits_plain c there.1 uncounted) (subst P there.0 k.acts.lock) in
      (k.answer ∙ (ap (λ y. answer_by (next_of y k.found)) there.0 ∙ it.0), it.1)

  other_by : (k.from ≡ CancelLeave) ⊎ (k.from ≡ Abandon) → (a ≡ Answer.GivenBack) × (new.lock_list ≡ old.lock_list)
  other_by (inl at) = let P : Place → Type 0 = λ y. OnLock i p (action_of y) k.found t.machine.lock u.machine.lock in
      (k.answer ∙ ap (λ y. answer_by (next_of y k.found)) at, ap (λ l. l.entries) (subst P at k.acts.lock))
  other_by (inr at) = let P : Place → Type 0 = λ y. OnLock i p (action_of y) k.found t.machine.lock u.machine.lock in
      (k.answer ∙ ap (λ y. answer_by (next_of y k.found)) at, ap (λ l. l.entries) (subst P at k.acts.lock))

  other_so : is_drop m.what ≡ true → entries_of p old.lock_list ≡ 0 → (a ≡ Answer.GivenBack) × (new.lock_list ≡ old.lock_list)
  other_so drops none = other_by (drops_off m.what x c k.from drops k.starts (k.old_laws.links p) (sym (k.old_laws.lock.owners p) ∙ none))

  abbrev Quiet : Type 0
  Quiet = (new.lock_list ≡ old.lock_list) ⊎ (new.lock_list ≡ list_after p leaves old.lock_list)

  quiet_effect : (d : Effect mutex.Change mutex.ListName) → mutex.gives_back d ≡ true → MayDo p d t.machine.lock → may_tell c ≡ false → new.lock_list ≡ lock_entries_after p d old.lock_list → Quiet
  quiet_effect nothing g may h e = inl e
  quiet_effect (changes x) g may h e = inl e
  quiet_effect (does mutex.for_the_lock joins) g may h e = absurd (cc g)
  quiet_effect (does mutex.for_the_lock asks) g may h e = absurd (cc g)
  quiet_effect (does mutex.for_the_lock leaves) g may h e = inr e
  quiet_effect (does mutex.for_the_lock (notifies n)) g may h e = absurd (true≢false (sym may.1 ∙ h))
  quiet_effect (does mutex.for_the_lock (notifies_additionally n)) g may h e = absurd may

  quiet_step : (decided : Option LockEnd) (s : LockStep) → IsLegal i.memory p decided s t.machine.lock u.machine.lock → decided ≡ Some LockEnd.GivenBack → may_tell c ≡ false → Quiet
  quiet_step decided s l is h = quiet_effect l.effect (l.kept LockEnd.GivenBack is).1 l.allowed h l.entries

  quiet_by : (y : Place) (f : Found) → Drops c y → OnLock i p (action_of y) f t.machine.lock u.machine.lock → Quiet
  quiet_by CancelLock (Found.Lock s) d l = quiet_step (Some LockEnd.GivenBack) s l.legal refl (silent c (inl (d.waits refl)))
  quiet_by CancelLock _ d l = absurd l
  quiet_by CancellingLock (Found.Lock s) d l = quiet_step (decision c) s l.legal (cancels_back c (d.cancels refl)) (silent c (inr (d.cancels refl)))
  quiet_by CancellingLock _ d l = absurd l
  quiet_by CancelLeave f d l = inl (ap (λ z. z.entries) l)
  quiet_by Abandon f d l = inl (ap (λ z. z.entries) l)
  quiet_by (TakeLock b) f d l = absurd (never_given (decision c) d.verdict)
  quiet_by NotifyAll f d l = (let v = d.verdict in absurd (cc v))
  quiet_by (ReleaseLock e) f d l = absurd (until_given e d.verdict)
  quiet_by (ReleasingLock e) f d l = absurd (until_given e d.verdict)
  quiet_by _ f d l = absurd (none_some d.verdict)

  quiet_from : (is_drop m.what ≡ true) ⊎ ((within : Within) × (standing_of old p ≡ inside within (Some Answer.GivenBack))) → Drops c k.from
  quiet_from (inl drops) = begins_drop m.what x c k.from drops k.starts (k.old_laws.links p)
  quiet_from (inr (within, at)) =
      let stood : stands_as (verdict x c) (stage_at t.stages p) ≡ inside within (Some Answer.GivenBack) = sym (acting.stood t u m a w k) ∙ at in
      let there = inside_as (verdict x c) (stage_at t.stages p) within (Some Answer.GivenBack) stood in
      let here : x ≡ At k.from = going_here w (stage_at t.stages p) within m.what x k.from k.call there.0 k.starts in
      let F : Position → Type 0 = λ z. fits_lock (in_lock z) c ≡ true in
      goes_on_drop k.from c (subst F here (k.old_laws.links p)) (ap (λ z. verdict z c) (sym here) ∙ there.1)

  -- where a refused party notifies
  refuses_by : (y : Place) (f : Found) (r : ℕ) → fits_lock (in_lock (At y)) c ≡ true → OnLock i p (action_of y) f t.machine.lock u.machine.lock → verdict_of y c ≡ Some (Answer.Refused r) → old.lock.holder ≢ Some p → listed_there c ≡ 0 → counted c ≡ 0
      → (answer_by (next_of y f) ≡ Answer.Refused r) × (u.machine.lock.entries ≡ notified t.machine.lock.entries 1)
  refuses_by (TakeLock b) (Found.Lock s) r link l d apart none plain =
      let why = refused_as (decision c) r d in
      let it = l.legal.refuses why.0 why.1 none plain in
      (ap (λ z. answer_by (after_lock b (Found.Lock z))) it.1 ∙ why.2, l.legal.entries ∙ ap (λ z. lock_entries_after p z t.machine.lock.entries) it.0)
  refuses_by (TakeLock b) _ r link l d apart none plain = absurd l
  refuses_by (ReleaseLock e) f r link l d apart none plain = absurd (apart (sees.holds_it t.machine.lock.courses p k.old_laws.lock.one_holder (holding_holds c link)))
  refuses_by (ReleasingLock e) (Found.Lock s) r link l d apart none plain =
      let ends = (l.leads.releases link).0 in
      (ap (λ z. answer_by (after_release e (Found.Lock z))) ends ∙ released_as e r d, l.legal.entries ∙ ap (λ z. lock_entries_after p z t.machine.lock.entries) (l.legal.releases link))
  refuses_by (ReleasingLock e) _ r link l d apart none plain = absurd l
  refuses_by NotifyAll f r link l d apart none plain = absurd (cc d)
  refuses_by CancelLock f r link l d apart none plain = absurd (cc d)
  refuses_by CancellingLock f r link l d apart none plain = absurd (cc d)
  refuses_by CancelLeave f r link l d apart none plain = absurd (cc d)
  refuses_by Abandon f r link l d apart none plain = absurd (cc d)
  refuses_by _ f r link l d apart none plain = absurd (none_some d)

  refuses_so : (within : Within) (r : ℕ) → standing_of old p ≡ inside within (Some (Answer.Refused r)) → old.lock.holder ≢ Some p → entries_of p old.lock_list ≡ 0 → is_starved old.lock p ≡ false → (a ≡ Answer.Refused r) × (new.lock_list ≡ notified old.lock_list 1)
  refuses_so within r at apart none plain =
      let stood : stands_as (verdict x c) (stage_at t.stages p) ≡ inside within (Some (Answer.Refused r)) = sym (acting.stood t u m a w k) ∙ at in
      let there = inside_as (verdict x c) (stage_at t.stages p) within (Some (Answer.Refused r)) stood in
      let here : x ≡ At k.from = going_here w (stage_at t.stages p) within m.what x k.from k.call there.0 k.starts in
      let F : Position → Type 0 = λ z. fits_lock (in_lock z) c ≡ true in
      let unlisted : listed_there c ≡ 0 = sym (k.old_laws.lock.owners p) ∙ none in
      let uncounted : counted c ≡ 0 = sym (sees.counted_bit c) ∙ ap bit (sym (sees.starved_at t.machine.lock.courses p) ∙ plain) in
      let it = refuses_by k.from k.found r (subst F here (k.old_laws.links p)) k.acts.lock (ap (λ z. verdict z c) (sym here) ∙ there.1) apart unlisted uncounted in
      (k.answer ∙ it.0, it.1)

  pub at_once : AnswersAtOnce old m a new
  at_once = record { first_poll = first; locking = locking_so; listed = listed_so; abandons = λ drops pending some plain. abandons_so drops some plain; abandons_other = λ drops none possible. other_so drops none; only_leaves = λ h. quiet_by k.from k.found (quiet_from (dropping (standing_of old p) m.what h)) k.acts.lock; refuses = λ within r at apart none plain possible. refuses_so within r at apart none plain }
