-- A step of a party's call, and all that those may know of it who build on a semaphore.
use Rattle.world_semaphore.proofs.Prelude.{◌≡◌, ℕ, ◌<◌, Bool, true, Some, refl, arith, ap, sym, ◌∙◌, subst, length, is_marked_at, is_party, Next, Place, Position, At, position_after, next_of, action_of, effect_of, entries_after, Semaphore, IsSemaphore, position_at, sizes_of, is_begun, Option, is_polling}
use Rattle.lock_program.specs.declared.end.Next.TheVariants as comes
use Rattle.lock_program.specs.declared.mutex.Step.{Step}
use Rattle.lock_program.specs.declared.end.End.{End}
use Rattle.sync_program.specs.declared.permits.SemaphoreCall.{SemaphoreCall}
use Rattle.sync_program.specs.Permits.{start_of}
use Rattle.world_semaphore.proofs.of_machine.callers.AtOnce.{at_once, in_turn}
use Rattle.world_semaphore.proofs.of_machine.callers.Clauses.{Did, is_legal}
use Rattle.world_semaphore.proofs.of_machine.callers.Clauses as clauses
use Rattle.world_semaphore.proofs.of_machine.callers.Openings.{IsBegun, begun, stands}
use Rattle.world_semaphore.proofs.of_machine.callers.Rows.{polls, adds, drops, is_poll, is_add, is_drop, kept_after, size_begun}
use Rattle.world_semaphore.proofs.of_machine.callers.Sights.{seen_at, length_seen, end_seen, rank_seen, size_seen}
use Rattle.world_semaphore.proofs.whole.Whole.{LeftBy, fewer}
use Rattle.world_semaphore.specs.machine.Calls.{BeginsCall, PermitsBegin, PermitsGoOn}
use Rattle.world_semaphore.specs.machine.Conduct.{GoesOn, Polls, wanted_by, decided_by, Begins, Drops, Adds}
use Rattle.world_semaphore.specs.machine.Course as course
use Rattle.world_semaphore.specs.machine.Course.{Course}
use Rattle.world_semaphore.specs.machine.Done.{HasActed, goes_on_at, step_of}
use Rattle.world_semaphore.specs.machine.Machine.{ActsSo, StandsAt}
use Rattle.world_semaphore.specs.machine.Permits.{Permits, course_at, size_of, left_after}
use Rattle.world_semaphore.specs.machine.Ranks.{left}
use Rattle.world_semaphore.specs.machine.Seats.{size_of as size_there}
use Rattle.world_semaphore.specs.machine.Seen.{course_of, is_kept, AreKept, seen}

-- a party that is seen is there
pub known_there : (s : Semaphore) (m : Permits) (p : ℕ) → seen s ≡ m → p < length m.courses → p < length s.positions
known_there s m p e h = omega (arith, h, ap (λ (x : Permits). length x.courses) e, length_seen s.positions)

-- a party inside a call may act at its place
pub at_place : (x : Position) (from : Place) → x ≡ At from → StandsAt from x
at_place x from e = let P : Position → Type 0 = λ y. StandsAt from y in subst P (sym e) (record { same = refl; waits = λ s. omega arith; short = λ h. (h, refl) })

pub did_so : (memory : Bool) (p : ℕ) (from : Place) (next : Next) (s t : Semaphore) (m : Permits) → seen s ≡ m → p < length m.courses → AreKept s.positions → IsSemaphore s → IsSemaphore t → StandsAt from (position_at s.positions p) → ActsSo memory p from next s t → Did memory p from next s t
did_so memory p from next s t m e known kept laws laws_then stands acts = record { acts = acts; laws = laws; laws_then = laws_then; kept = kept; known = known_there s m p e known; stands = stands }

module _ (memory : Bool) (p : ℕ) (from : Place) (next : Next) (s t : Semaphore) (did : Did memory p from next s t) where
  abbrev x : Position
  x = position_at s.positions p

  -- how many steps are left then
  left_so : (n : Next) (b : Bool) (m : Permits) → is_kept (position_after n) ≡ true → course_at m.courses p ≡ course_of (position_after n) → is_marked_at (is_party p) m.entries ≡ b → left_after (step_of n) m p ≡ LeftBy n b
  left_so (comes.Do z) b m kept is marks = ap (λ c. course.left c (is_marked_at (is_party p) m.entries)) is ∙ (ap (course.left (course_of (At z))) marks ∙ rank_seen (At z) b kept)
  left_so (comes.End End.Got y) b m kept is marks = refl
  left_so (comes.End End.Granted y) b m kept is marks = refl
  left_so (comes.End End.Pending y) b m kept is marks = refl
  left_so (comes.End End.NotFree y) b m kept is marks = refl
  left_so (comes.End End.Waiting y) b m kept is marks = refl
  left_so (comes.End End.GivenBack y) b m kept is marks = refl
  left_so (comes.End (End.Refused r) y) b m kept is marks = refl

  less : left_after (step_of next) (seen t) p < left from (is_marked_at (is_party p) s.entries)
  less =
      let n : Next = next_of from did.acts.found in
      let b : Bool = is_marked_at (is_party p) (entries_after (sizes_of s.positions) p (effect_of (action_of from) did.acts.found) s.entries) in
      let few : LeftBy n b < left from (is_marked_at (is_party p) s.entries) = fewer memory (sizes_of s.positions) p s.words s.entries from did.acts.found did.acts.acts.finds (clauses.own memory p from next s t did) in
      let same : left_after (step_of n) (seen t) p ≡ LeftBy n b = left_so n b (seen t) (kept_after from did.acts.found) (clauses.course_new memory p from next s t did) (ap (is_marked_at (is_party p)) did.acts.acts.entries) in
      omega (arith, few, same, ap (λ z. left_after (step_of z) (seen t) p) did.acts.next_is)

  has_acted : (starts : Position → Option Place) → starts x ≡ Some from → HasActed starts memory p (step_of next) (seen s) (seen t)
  has_acted starts e = record { before = s; after = t; old_is = refl; new_is = refl; known = did.known; kept = did.kept; kept_then = clauses.then_kept memory p from next s t did; laws = did.laws; laws_then = did.laws_then; from = from; starts_at = e; next = next; acts = did.acts; step = refl }

  pub begins : (c : SemaphoreCall) → start_of c x ≡ Some from → PermitsBegin memory p c (step_of next) (seen s) (seen t)
  begins c starts =
      let b : IsBegun c x from = begun c x from starts in
      let k : ℕ = wanted_by c (course_of x) in
      let Q : Course → Type 0 = λ z. BeginsCall memory p c (wanted_by c z) (step_of next) (seen s) (seen t) in
      subst Q (sym (seen_at s.positions p)) (record {
        leads = leads_so c k b;
        legal = is_legal memory p from next s t did k (decided_by c) b.decided b.size;
        at_once = at_once memory p from next s t did c b;
        bounded = (let few = b.few (is_marked_at (is_party p) s.entries) in omega (arith, less, few));
        done = has_acted (start_of c) starts;
      }) where
        leads_so : (c : SemaphoreCall) (k : ℕ) → IsBegun c x from → Begins c (wanted_by c (course_of x)) (step_of next) (course_at (seen t).courses p)
        leads_so c k b =
            let A : Step → Type 0 = λ z. Begins c (wanted_by c (course_of x)) z (course_at (seen t).courses p) in
            let B : Course → Type 0 = λ z. Begins c (wanted_by c (course_of x)) (step_of (next_of from did.acts.found)) z in
            subst A (sym (ap step_of did.acts.next_is)) (subst B (sym (clauses.course_new memory p from next s t did)) (b.leads did.acts.found))

  module _ (at : x ≡ At from) where
    begun_there : is_begun from ≡ true
    begun_there = ap is_kept (sym at) ∙ did.kept p

    here : course_at (seen s).courses p ≡ course_of (At from)
    here = seen_at s.positions p ∙ ap course_of at

    size_is : size_of (seen s) p ≡ size_there from
    size_is = ap course.size here ∙ size_seen (At from) begun_there

    abbrev n : Next
    n = next_of from did.acts.found

    -- what is so of where the place leads is so of where the step led
    led : (P : Step → Course → Type 0) → P (step_of n) (course_of (position_after n)) → P (step_of next) (course_at (seen t).courses p)
    led P h =
        let A : Step → Type 0 = λ z. P z (course_at (seen t).courses p) in
        let B : Course → Type 0 = λ z. P (step_of n) z in
        subst A (sym (ap step_of did.acts.next_is)) (subst B (sym (clauses.course_new memory p from next s t did)) h)

    leads : GoesOn (course_at (seen s).courses p) (step_of next) (course_at (seen t).courses p)
    leads = record {
      polls = λ h. led (Polls (size_of (seen s) p)) (polled (is_poll from begun_there (ap course.is_polling (sym here) ∙ h)));
      adds = λ h. led Adds (adds from did.acts.found (is_add from begun_there (ap course.is_adding (sym here) ∙ h)));
      drops = λ h. led Drops (dropped (ap course.is_dropping (sym here) ∙ h));
    } where
      polled : is_polling from ≡ true → Polls (size_of (seen s) p) (step_of n) (course_of (position_after n))
      polled h = let P : ℕ → Type 0 = λ k. Polls k (step_of n) (course_of (position_after n)) in subst P (sym size_is) (polls from did.acts.found h)

      dropped : course.is_dropping (course_of (At from)) ≡ true → Drops (step_of n) (course_of (position_after n))
      dropped h = drops from did.acts.found (is_drop from begun_there h)

    pub goes_on : PermitsGoOn memory p (step_of next) (seen s) (seen t)
    goes_on = record {
      leads = leads;
      legal = is_legal memory p from next s t did (size_of (seen s) p) (course.decision (course_at (seen s).courses p)) (sym (ap course.decision here ∙ end_seen from begun_there)) (λ none. size_begun from begun_there ∙ sym size_is);
      in_turn = in_turn memory p from next s t did at begun_there;
      falls = (let rank = rank_seen (At from) (is_marked_at (is_party p) s.entries) begun_there in omega (arith, less, rank, ap (λ c. course.left c (is_marked_at (is_party p) s.entries)) here));
      done = has_acted goes_on_at (ap goes_on_at at);
    }
