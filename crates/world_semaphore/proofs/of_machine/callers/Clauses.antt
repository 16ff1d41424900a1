-- What an action of a party is, as those see it who build on a semaphore.
use Rattle.world_semaphore.proofs.Prelude.{◌≡◌, ◌≢◌, ℕ, ◌<◌, Bool, true, false, List, length, Option, Some, None, is_some, refl, arith, ap, sym, ◌∙◌, subst, none_some, some_eq, get_or-set_same, get_or-set_other, length-set, Entry, mark_at, is_party, entries_of, Refusal, Found, No, Next, Place, Ask, Position, Out, Words, action_of, next_of, Seat, seat_of, share_of, debt_at, Effect, nothing, changes, does, joins, asks, removes, fits, takes, gives_back, forgets, raises, gives, effect_of, Finds, words_after, entries_after, gives_something_back, gives_up, Semaphore, IsSemaphore, Acts, position_at, sizes_of, ℕ_discrete, guard_of}
use Rattle.lock_event.specs.declared.event.Mark.TheVariants.{Waiting}
use Rattle.lock_program.specs.declared.end.End.{End}
use Rattle.lock_program.specs.declared.end.End.TheVariants.{Got, Granted, Pending, NotFree, Refused}
use Rattle.world_base.proofs.of_queue.Told.{waits_at}
use Rattle.world_semaphore.proofs.of_machine.callers.Rows.{Judged, Why, judged, size_for, wants, ends_so, kept_after}
use Rattle.world_semaphore.proofs.of_machine.callers.Sights.{seen_at, length_seen, share_seen, debt_seen, size_seen, end_of}
use Rattle.world_semaphore.proofs.of_machine.laws.Entries.{fitted-agree}
use Rattle.world_semaphore.proofs.of_machine.laws.Kept.{after}
use Rattle.world_semaphore.proofs.step.Acting.{join_unlisted, room_found}
use Rattle.world_semaphore.proofs.step.Debts.{owed, owes_so}
use Rattle.world_semaphore.proofs.step.Rows.{AllowedAt, SharesSo, is_ask, row}
use Rattle.world_semaphore.specs.machine.Conduct.{IsLegal, IsAllowed, IsReason, decided_then}
use Rattle.world_semaphore.specs.machine.Course as course
use Rattle.world_semaphore.specs.machine.Course.{Course}
use Rattle.world_semaphore.specs.machine.Effects.{share_then}
use Rattle.world_semaphore.specs.machine.Done.{step_of}
use Rattle.world_semaphore.specs.machine.Machine.{ActsSo, StandsAt}
use Rattle.world_semaphore.specs.machine.Permits.{course_at, size_of}
use Rattle.world_semaphore.specs.machine.Seen.{course_of, AreKept, seen, is_kept}

-- A party acted at this place, and this came next.
pub record Did (memory : Bool) (p : ℕ) (from : Place) (next : Next) (s t : Semaphore) : Type 0 where
  pub acts : ActsSo memory p from next s t
  pub laws : IsSemaphore s
  pub laws_then : IsSemaphore t
  pub kept : AreKept s.positions
  pub known : p < length s.positions
  pub stands : StandsAt from (position_at s.positions p)

module _ (memory : Bool) (w : Words) (x : Place) (f : Found) (n : Next) where
  pub kept_on : (v o : Option End) (e : End) → Judged memory w x f n v o → v ≡ Some e → (o ≡ Some e) × (gives_something_back (effect_of (action_of x) f) ≡ true)
  kept_on (Some d) o e j is = (j.0 ∙ is, j.1)
  kept_on None o e j is = absurd (none_some is)

  pub why : (v o : Option End) (e : End) → Judged memory w x f n v o → v ≡ None → o ≡ Some e → Why memory w x f n e
  why (Some d) o e j none is = absurd (cc none)
  why None None e j none is = absurd (none_some is)
  why None (Some d) e j none is = let P : End → Type 0 = Why memory w x f n in subst P (some_eq is) j

-- who asked in vain waits
pended : (memory : Bool) (p : ℕ) (w : Words) (l es : List (Entry ℕ)) (size : ℕ → ℕ) (y : Place) (f : Found) → is_ask y ≡ true → f ≡ No → Finds memory p (action_of y) f w l → es ≡ entries_after size p (effect_of (action_of y) f) l → entries_of p l ≡ (seat_of y).listed → mark_at (is_party p) es ≡ Some Waiting
pended memory p w l es size (Ask n told) f is_so ef finds is own =
    let P : Found → Type 0 = λ f. Finds memory p (action_of (Ask n told)) f w l → es ≡ entries_after size p (effect_of (action_of (Ask n told)) f) l → mark_at (is_party p) es ≡ Some Waiting in
    let base : P No = λ marked same. (let kept : es ≡ l = same ∙ rw marked refl in rw kept (waits_at p l own marked)) in
    subst P (sym ef) base finds is
pended memory p w l es size _ f is_so ef finds is own = absurd (cc is_so)

not_up : (d : Effect) (v : Option End) → (gives_up d ≡ true → is_some v ≡ true) → v ≡ None → gives_up d ≡ false
not_up d v h none = by_case (gives_up d) refl where
  by_case : (b : Bool) → gives_up d ≡ b → b ≡ false
  by_case false is = refl
  by_case true is = let some : is_some v ≡ true = h is in absurd (cc (some, none))

module _ (memory : Bool) (p : ℕ) (from : Place) (next : Next) (s t : Semaphore) (did : Did memory p from next s t) where
  abbrev xs : List Position
  xs = s.positions

  abbrev x : Position
  x = position_at xs p

  abbrev found : Found
  found = did.acts.found

  abbrev to : Position
  to = after from found

  abbrev effect : Effect
  effect = effect_of (action_of from) found

  acts : Acts memory p from found s t
  acts = did.acts.acts

  pub lands : position_at t.positions p ≡ to
  lands = ap (λ ps. position_at ps p) acts.positions ∙ get_or-set_same xs p to Out did.known

  pub stays : (q : ℕ) → q ≢ p → position_at t.positions q ≡ position_at xs q
  stays q apart = ap (λ ps. position_at ps q) acts.positions ∙ get_or-set_other xs p q to Out apart

  pub course_old : course_at (seen s).courses p ≡ course_of x
  course_old = seen_at xs p

  pub course_new : course_at (seen t).courses p ≡ course_of to
  course_new = seen_at t.positions p ∙ ap course_of lands

  pub share_old : course.share (course_at (seen s).courses p) ≡ (seat_of from).share
  share_old = ap course.share course_old ∙ (share_seen x ∙ ap (λ (z : Seat). z.share) (sym did.stands.same))

  pub share_new : course.share (course_at (seen t).courses p) ≡ share_of to
  share_new = ap course.share course_new ∙ share_seen to

  pub debt_old : course.debt (course_at (seen s).courses p) ≡ (seat_of from).debt
  debt_old = ap course.debt course_old ∙ (debt_seen x ∙ ap (λ (z : Seat). z.debt) (sym did.stands.same))

  debt_new : course.debt (course_at (seen t).courses p) ≡ debt_at to
  debt_new = ap course.debt course_new ∙ debt_seen to

  pub size_old : (q : ℕ) → size_of (seen s) q ≡ sizes_of xs q
  size_old q = ap course.size (seen_at xs q) ∙ size_seen (position_at xs q) (did.kept q)

  pub then_kept : AreKept t.positions
  then_kept q = elim (ℕ_discrete q p) as (λ _. is_kept (position_at t.positions q) ≡ true) [
    | yes is ↦ (let P : ℕ → Type 0 = λ j. is_kept (position_at t.positions j) ≡ true in subst P (sym is) (ap is_kept lands ∙ kept_after from found))
    | no apart ↦ ap is_kept (stays q apart) ∙ did.kept q
  ]

  pub own : entries_of p s.entries ≡ (seat_of from).listed
  own = did.laws.owners p ∙ ap (λ (z : Seat). z.listed) (sym did.stands.same)

  pub entries_seen : t.entries ≡ entries_after (size_of (seen s)) p effect s.entries
  entries_seen = acts.entries ∙ same_sizes effect where
    same_sizes : (d : Effect) → entries_after (sizes_of xs) p d s.entries ≡ entries_after (size_of (seen s)) p d s.entries
    same_sizes nothing = refl
    same_sizes (changes c) = refl
    same_sizes (does joins) = refl
    same_sizes (does asks) = refl
    same_sizes (does removes) = refl
    same_sizes (does (fits c)) = fitted-agree (sizes_of xs) (size_of (seen s)) c s.entries (λ q some. sym (size_old q))

  share_so : (d : Effect) → SharesSo d (seat_of from).share (share_of to) → share_of to ≡ share_then d (seat_of from).share
  share_so (changes c) h = h
  share_so nothing h = h
  share_so (does f) h = h

  pub then_decided : decided_then (step_of next) (course_at (seen t).courses p) ≡ decided_then (step_of (next_of from found)) (course_of to)
  then_decided = ap (λ n. decided_then (step_of n) (course_at (seen t).courses p)) did.acts.next_is ∙ ap (decided_then (step_of (next_of from found))) course_new

  module _ (k : ℕ) (d : Option End) (ends : end_of from ≡ d) (size : end_of from ≡ None → size_for from ≡ k) where
    allowed_so : (c : Effect) → c ≡ effect → AllowedAt c from s.words → IsAllowed p k d c (seen s)
    allowed_so nothing is h = tt
    allowed_so (changes (takes n)) is h = let so = wants from n h.0 in (so.0 ∙ size so.1, h.1, share_old ∙ h.2)
    allowed_so (changes (gives_back n)) is h = (share_old ∙ ap (λ y. (seat_of y).share) h, sym ends ∙ ap end_of h)
    allowed_so (changes (forgets n)) is h = (share_old ∙ ap (λ y. (seat_of y).share) h, sym ends ∙ ap end_of h)
    allowed_so (changes (raises n)) is h = (sym (ap size_for h.0) ∙ size (ap end_of h.0), h.1, share_old ∙ ap (λ y. (seat_of y).share) h.0)
    allowed_so (changes (gives n)) is h = share_old ∙ ap (λ y. (seat_of y).share) h
    allowed_so (does joins) is h = tt
    allowed_so (does asks) is h = tt
    allowed_so (does removes) is h = tt
    allowed_so (does (fits c)) is h = (debt_old ∙ h.0, ap is_some (sym ends) ∙ (sym (ends_so from) ∙ h.1))

    reason_so : (e : End) → end_of from ≡ None → Why memory s.words from found (next_of from found) e → IsReason memory p k (seen s) (seen t) e
    reason_so Got none y = share_new ∙ (y ∙ ap guard_of (size none))
    reason_so Granted none y = tt
    reason_so Pending none y = pended memory p s.words s.entries t.entries (sizes_of xs) from found y.0 y.1 acts.finds acts.entries own
    reason_so NotFree none y = omega (arith, y, size none)
    reason_so (Refused Refusal.Memory) none y = (y.0, own ∙ join_unlisted from y.1, acts.entries ∙ ap (λ (c : Effect). entries_after (sizes_of xs) p c s.entries) y.2, acts.words ∙ ap (λ (c : Effect). words_after c s.words) y.2)
    reason_so (Refused Refusal.Permits) none y = (omega (arith, y.0, size none), acts.entries ∙ ap (λ (c : Effect). entries_after (sizes_of xs) p c s.entries) y.1, acts.words ∙ ap (λ (c : Effect). words_after c s.words) y.1)
    reason_so (Refused _) none y = absurd y
    reason_so _ none y = tt

    pub is_legal : IsLegal memory p k d (step_of next) (seen s) (seen t)
    is_legal =
        let r = row memory p s.words s.entries from found acts.finds in
        let j = judged memory p s.words s.entries from found acts.finds in
        record {
          effect = effect;
          allowed = allowed_so effect refl r.allowed;
          words = acts.words;
          share = share_new ∙ (share_so effect r.shares ∙ ap (share_then effect) (sym share_old));
          entries = entries_seen;
          found_memory = λ e. room_found memory effect r.room e;
          parties = length_seen t.positions ∙ (ap length acts.positions ∙ (length-set xs p to ∙ sym (length_seen xs)));
          others = λ q apart. seen_at t.positions q ∙ (ap course_of (stays q apart) ∙ sym (seen_at xs q));
          kept = λ e is. (let so = kept_on memory s.words from found (next_of from found) (end_of from) (decided_then (step_of (next_of from found)) (course_of to)) e j (ends ∙ is) in (then_decided ∙ so.0, so.1));
          holds_on = λ none. not_up effect (end_of from) (λ up. sym (ends_so from) ∙ r.held_on up) (ends ∙ none);
          reason = λ e none is. reason_so e (ends ∙ none) (why memory s.words from found (next_of from found) (end_of from) (decided_then (step_of (next_of from found)) (course_of to)) e j (ends ∙ none) (sym then_decided ∙ is));
          debts = owes_so p (seat_of from).debt (debt_at to) s.entries (entries_after (size_of (seen s)) p effect s.entries) (words_after effect s.words).available (size_of (seen s)) (sym debt_old) (sym debt_new) (sym entries_seen) (ap (λ (v : Words). v.available) (sym acts.words)) (owed memory p s.words s.entries (size_of (seen s)) from found acts.finds own);
        }
