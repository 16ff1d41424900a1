-- An action of a party is a legal step, as callers see it.
use Rattle.world_barrier.proofs.Prelude.{◌≡◌, ◌≢◌, ℕ, ◌<◌, ◌||◌, ◌⊎◌, inl, inr, Bool, true, false, List, length, Option, Some, None, is_some, refl, arith, ap, sym, ◌∙◌, subst, get_or-set_same, get_or-set_other, set, Answer, Inputs, Move, What, Refusal, Rest, Stage, Within, Standing, inside, inputs_of, call_in, is_possible, is_stepped, is_decided, may_end, refused, IsUndecided, is_drop, is_poll_after_ready, is_refusal, number_of, is_on, Effect, nothing, changes, does, some_eq, none_some, stage_at, stands_as, call_at, polls_again, stage_after, Table, call_seen, again_seen, stands_seen, decided_after, decision_seen, Course, Mutex, course_at, Action, Aim, Found, Next, Place, Arrive, Complete, Position, Out, Made, At, Progress, Words, progress, arrivals_at, place_for, action_of, next_of, position_after, words_after, arrival_after, OnLock, fits_lock, in_lock, listed, Wait, wait_at, verdict_of, verdict, Barrier, IsBarrier, Acts, knows, runs, position_at, arrival_at, answer_by, ListName, World, standing_of, wait_of, is_starved, is_held_by, IsClear, verdict_in, view_of, Change, takes, releases, starves, recovers, arrives, lock_after, wait_then, wait_after, call_of, DecidesOn, MayTake, IsAllowed, ChangesOneThing, TellsOnRelease, IsTakenFairly, Carried, Carries, Waits, IsCause, IsRefusedForCause, LeavesClear, EndsProperly, Legal, IsBarrierTable, is_counting, is_releasing}
use Rattle.world_base.specs.Standings.{decision}
use Rattle.world_base.proofs.of_table.Acting as acting
use Rattle.world_barrier.proofs.of_machine.stages.Links.{lock_others}
use Rattle.world_barrier.proofs.table.Seen as seen
use Rattle.world_barrier.proofs.step.Here.{Here, may_begin_at}
use Rattle.world_barrier.proofs.step.Locks.{wait_by}
use Rattle.world_barrier.proofs.step.Telling as telling
use Rattle.world_barrier.proofs.step.Owns as owns
use Rattle.world_barrier.proofs.step.Turns as turns
use Rattle.world_barrier.proofs.step.Turns.{said}
use Rattle.world_barrier.proofs.step.Rows.{row}
use Rattle.world_barrier.proofs.step.Endings.{said_so, possible_by, said_then, ends_by, wait_goes}

-- ---- By the effect

wait_effect : (d : Effect Change ListName) (k : ℕ) (what : What) (n : Next) (b : Wait) → wait_by d k (answer_by n) (wait_then what Answer.Stepped b) ≡ wait_after d k what (answer_by n) b
wait_effect (changes arrives) k what n b = refl
wait_effect (changes _) k what n b = sym (wait_goes what n b)
wait_effect nothing k what n b = sym (wait_goes what n b)
wait_effect (does list f) k what n b = sym (wait_goes what n b)

some_party : (p q : ℕ) → Some p ≡ Some q → q ≡ p
some_party p q e = sym (some_eq e)

module _ (old : World) (m : Move) (new : World) where
  abbrev Locked : Effect Change ListName → Type 0
  Locked d = new.lock ≡ lock_after m.party d old.lock

  its_holder : (d : Effect Change ListName) → Locked d → new.lock.holder ≡ (lock_after m.party d old.lock).holder
  its_holder d e = ap (λ s. s.holder) e

  its_starved : (d : Effect Change ListName) → Locked d → new.lock.starved ≡ (lock_after m.party d old.lock).starved
  its_starved d e = ap (λ s. s.starved) e

  fairly : (d : Effect Change ListName) → IsAllowed old m d → Locked d → IsTakenFairly old new
  fairly (changes takes) may e q now before = let P : ℕ → Type 0 = MayTake old in subst P (some_eq (sym (its_holder (changes takes) e) ∙ now)) may
  fairly (changes releases) may e q now before = absurd (none_some (sym (its_holder (changes releases) e) ∙ now))
  fairly (changes starves) may e q now before = absurd (before (sym (its_holder (changes starves) e) ∙ now))
  fairly (changes recovers) may e q now before = absurd (before (sym (its_holder (changes recovers) e) ∙ now))
  fairly (changes arrives) may e q now before = absurd (before (sym (its_holder (changes arrives) e) ∙ now))
  fairly nothing may e q now before = absurd (before (sym (its_holder nothing e) ∙ now))
  fairly (does list f) may e q now before = absurd (before (sym (its_holder (does list f) e) ∙ now))

  abbrev Same : ℕ → Type 0
  Same q = ((new.lock.holder ≡ Some q) → (old.lock.holder ≡ Some q)) × ((old.lock.holder ≡ Some q) → (new.lock.holder ≡ Some q))

  still : (d : Effect Change ListName) (q : ℕ) → new.lock.holder ≡ old.lock.holder → Same q
  still d q e = ((λ h. sym e ∙ h), (λ h. e ∙ h))

  keep_lock : (d : Effect Change ListName) → IsAllowed old m d → Locked d → (q : ℕ) → q ≢ m.party → Same q
  keep_lock (changes takes) may e q apart = ((λ h. absurd (apart (some_party m.party q (sym (its_holder (changes takes) e) ∙ h)))), (λ h. absurd (none_some (sym may.0 ∙ h))))
  keep_lock (changes releases) may e q apart = ((λ h. absurd (none_some (sym (its_holder (changes releases) e) ∙ h))), (λ h. absurd (apart (some_party m.party q (sym may.0 ∙ h)))))
  keep_lock (changes starves) may e q apart = still (changes starves) q (its_holder (changes starves) e)
  keep_lock (changes recovers) may e q apart = still (changes recovers) q (its_holder (changes recovers) e)
  keep_lock (changes arrives) may e q apart = still (changes arrives) q (its_holder (changes arrives) e)
  keep_lock nothing may e q apart = still nothing q (its_holder nothing e)
  keep_lock (does list f) may e q apart = still (does list f) q (its_holder (does list f) e)

  keep_starved : (d : Effect Change ListName) → Locked d → (q : ℕ) → q ≢ m.party → is_starved new.lock q ≡ is_starved old.lock q
  keep_starved (changes starves) e q apart = ap (λ l. is_on l q) (its_starved (changes starves) e) ∙ get_or-set_other old.lock.starved m.party q true false apart
  keep_starved (changes recovers) e q apart = ap (λ l. is_on l q) (its_starved (changes recovers) e) ∙ get_or-set_other old.lock.starved m.party q false false apart
  keep_starved (changes takes) e q apart = ap (λ l. is_on l q) (its_starved (changes takes) e)
  keep_starved (changes releases) e q apart = ap (λ l. is_on l q) (its_starved (changes releases) e)
  keep_starved (changes arrives) e q apart = ap (λ l. is_on l q) (its_starved (changes arrives) e)
  keep_starved nothing e q apart = ap (λ l. is_on l q) (its_starved nothing e)
  keep_starved (does list f) e q apart = ap (λ l. is_on l q) (its_starved (does list f) e)

-- what was decided, and what is decided now
module _ (t u : Table Barrier) (m : Move) (w : Within) (starts : Bool) where
  abbrev Judged : Option Answer → Option Answer → Type 0
  Judged = turns.Judged t u m w starts

  kept_on : (v o : Option Answer) (b : Answer) → Judged v o → v ≡ Some b → o ≡ Some b
  kept_on (Some d) o b j e = j ∙ e
  kept_on None o b j e = absurd (none_some e)

  reasoned : (v o : Option Answer) (b : Answer) → Judged v o → ((d : Answer) → v ≡ Some d → d ≡ Answer.GivenBack) → o ≡ Some b → (b ≡ Answer.GivenBack) ⊎ turns.Reason t u m w starts b
  reasoned (Some d) o b j late e = inl (some_eq (sym e ∙ j) ∙ late d refl)
  reasoned None None b j late e = absurd (none_some e)
  reasoned None (Some d) b j late e = let P : Answer → Type 0 = turns.Reason t u m w starts in inr (subst P (some_eq e) j)

  pended : (v o : Option Answer) → Judged v o → (v ≡ Some Answer.Pending → ⊥) → o ≡ Some Answer.Pending → turns.Reason t u m w starts Answer.Pending
  pended (Some d) o j late e = absurd (late (sym j ∙ e))
  pended None None j late e = absurd (none_some e)
  pended None (Some d) j late e = let P : Answer → Type 0 = turns.Reason t u m w starts in subst P (some_eq e) j

-- ---- What no action changes

size_kept : (x : Place) (v : Words) → (words_after (action_of x) v).size ≡ v.size
size_kept Arrive v = refl
size_kept Complete v = refl
size_kept _ v = refl

most_kept : (x : Place) (v : Words) → (words_after (action_of x) v).most ≡ v.most
most_kept Arrive v = refl
most_kept Complete v = refl
most_kept _ v = refl

lock_limit : (i : Inputs) (p : ℕ) (t u : Mutex) (a : Action) (f : Found) → OnLock i p a f t u → u.limit ≡ t.limit
lock_limit i p t u (Action.Begin c) (Found.Lock n) e = e.legal.limit
lock_limit i p t u (Action.Begin c) _ e = absurd e
lock_limit i p t u Action.Go (Found.Lock n) e = e.legal.limit
lock_limit i p t u Action.Go _ e = absurd e
lock_limit i p t u _ f e = ap (λ (l : Mutex). l.limit) e

undecided_inside : (s : Standing) (w : Within) (o : Option Answer) → s ≡ inside w o → is_decided s ≡ false → IsUndecided s
undecided_inside s w None e h = (w, e)
undecided_inside s w (Some b) e h = let is : is_decided s ≡ true = ap is_decided e in absurd (cc (is, h))

not_either : (a b : Bool) → a || b ≡ false → a ≡ false
not_either true b h = h
not_either false b h = refl

module _ (t u : Table Barrier) (m : Move) (a : Answer) (w : Within) where
  abbrev p : ℕ
  p = m.party

  abbrev xs : List Position
  xs = t.machine.positions

  abbrev x : Position
  x = position_at xs p

  abbrev s : Stage
  s = stage_at t.stages p

  abbrev c : Course
  c = course_at t.machine.lock.courses p

  abbrev d : Course
  d = course_at u.machine.lock.courses p

  abbrev old : World
  old = view_of t

  abbrev new : World
  new = view_of u

  abbrev i : Inputs
  i = inputs_of m.what

  abbrev mine : Progress
  mine = arrival_at t.machine.arrivals p

  abbrev num : ℕ
  num = arrivals_at t.machine.words.size mine

  -- a move that the machine carries out
  pub record Acting : Type 0 where
    pub inside : p < length t.stages
    pub old_laws : IsBarrier t.machine
    pub old_fits : IsBarrierTable t
    pub new_laws : IsBarrier u.machine
    pub new_fits : IsBarrierTable u
    pub call : call_at knows s m.what ≡ Some w
    pub first : polls_again s m.what ≡ false
    pub from : Place
    pub found : Found
    pub here : Here s m.what w x from
    pub starts : place_for m.what x ≡ Some from
    pub runs : runs w.kind w.was from ≡ true
    pub acts : Acts i p from found t.machine u.machine
    pub answer : a ≡ answer_by (next_of from found)
    pub stages : u.stages ≡ set t.stages p (stage_after Rest.Finished w a)
    pub opening : u.opening ≡ t.opening

  module _ (k : Acting) where
    abbrev from : Place
    from = k.from

    abbrev n : Next
    n = next_of from k.found

    abbrev to : Position
    to = position_after n

    abbrev news : Progress
    news = arrival_after (action_of from) t.machine.words mine

    there : p < length xs
    there = omega (arith, k.inside, k.old_fits.as_many)

    many : p < length t.machine.arrivals
    many = omega (arith, there, k.old_laws.as_many)

    pub lands_at : position_at u.machine.positions p ≡ to
    lands_at = ap (λ ps. position_at ps p) k.acts.positions ∙ get_or-set_same xs p to Out there

    pub stays : (q : ℕ) → q ≢ p → position_at u.machine.positions q ≡ position_at xs q
    stays q apart = ap (λ ps. position_at ps q) k.acts.positions ∙ get_or-set_other xs p q to Out apart

    pub arrived_at : arrival_at u.machine.arrivals p ≡ news
    arrived_at = ap (λ rs. arrival_at rs p) k.acts.arrivals ∙ get_or-set_same t.machine.arrivals p news (progress 0 0) many

    arrival_stays : (q : ℕ) → q ≢ p → arrival_at u.machine.arrivals q ≡ arrival_at t.machine.arrivals q
    arrival_stays q apart = ap (λ rs. arrival_at rs q) k.acts.arrivals ∙ get_or-set_other t.machine.arrivals p q news (progress 0 0) apart

    course_stays : (q : ℕ) → q ≢ p → course_at u.machine.lock.courses q ≡ course_at t.machine.lock.courses q
    course_stays q apart = lock_others i p t.machine.lock u.machine.lock (action_of from) k.found k.acts.lock q apart

    pub same_size : u.machine.words.size ≡ t.machine.words.size
    same_size = ap (λ (v : Words). v.size) k.acts.words ∙ size_kept from t.machine.words

    pub stood : standing_of old p ≡ stands_as (verdict x c) s
    stood = seen.standing_seen t p

    pub stands : standing_of new p ≡ stands_as (verdict to d) (stage_after Rest.Finished w a)
    stands = acting.stands verdict_in Rest.Finished t u p w a k.inside k.stages ∙ ap (λ y. stands_as (verdict y d) (stage_after Rest.Finished w a)) lands_at

    same_verdict : (q : ℕ) → q ≢ p → verdict_in u.machine q ≡ verdict_in t.machine q
    same_verdict q apart = ap (λ y. verdict y (course_at u.machine.lock.courses q)) (stays q apart) ∙ ap (verdict (position_at xs q)) (course_stays q apart)

    pub others_stand : (q : ℕ) → q ≢ p → standing_of new q ≡ standing_of old q
    others_stand q apart = acting.others_stand verdict_in Rest.Finished t u p w a k.inside k.stages q apart (same_verdict q apart)

    pub decides : decision a (standing_of new p) ≡ said n d
    decides = ap (decision a) stands ∙ (decision_seen Rest.Finished w a (verdict to d) ∙ (ap (λ b. decided_after b (verdict to d)) k.answer ∙ said_so n d))

    pub wait_old : wait_of old p ≡ wait_at x num
    wait_old = seen.wait_seen t p

    pub wait_new : wait_of new p ≡ wait_at to (arrivals_at t.machine.words.size news)
    wait_new =
        seen.wait_seen u p ∙ (ap (λ y. wait_at y (arrivals_at u.machine.words.size (arrival_at u.machine.arrivals p))) lands_at
        ∙ (ap (λ r. wait_at to (arrivals_at u.machine.words.size r)) arrived_at ∙ ap (λ z. wait_at to (arrivals_at z news)) same_size))

    other_waits : (q : ℕ) → q ≢ p → wait_of new q ≡ wait_of old q
    other_waits q apart =
        seen.wait_seen u q ∙ (ap (λ y. wait_at y (arrivals_at u.machine.words.size (arrival_at u.machine.arrivals q))) (stays q apart)
        ∙ (ap (λ r. wait_at (position_at xs q) (arrivals_at u.machine.words.size r)) (arrival_stays q apart)
        ∙ (ap (λ z. wait_at (position_at xs q) (arrivals_at z (arrival_at t.machine.arrivals q))) same_size ∙ sym (seen.wait_seen t q))))

    link : fits_lock (in_lock (At from)) c ≡ true
    link = ap (λ l. fits_lock l c) k.here.fits.lock ∙ k.old_laws.links p

    known : turns.Known t u m w from k.found
    known = record {
      finds = k.acts.finds;
      words_then = k.acts.words;
      entries_then = k.acts.entries;
      lock = k.acts.lock;
      link = link;
      owner = k.old_laws.owners p ∙ sym k.here.fits.stands;
      sure = k.here.fits.sure mine t.machine.words (k.old_laws.sure p);
      follower = λ h. k.old_laws.followers p (k.here.fits.counted h);
      outcome = k.here.fits.outcome mine t.machine.words (k.old_laws.outcomes p);
      before = λ h. wait_old ∙ k.here.before num h;
      going = λ h. stood ∙ k.here.going h c;
      drops = k.here.drops;
      after = wait_new;
    }

    r : turns.RowAt t u m w from k.found
    r = row t u m w k.old_laws from k.found known

    decided_there : is_decided (standing_of old p) || is_drop m.what ≡ is_some (verdict_of from c)
    decided_there = ap (λ z. is_decided z || is_drop m.what) stood ∙ k.here.decides c

    own_wait : wait_of new p ≡ wait_after r.effect old.arrivals m.what a (wait_of old p)
    own_wait =
        r.wait ∙ (ap (wait_by r.effect old.arrivals (answer_by n)) (sym (k.here.wait num)) ∙ (ap (λ b. wait_by r.effect old.arrivals (answer_by n) (wait_then m.what Answer.Stepped b)) (sym wait_old)
        ∙ (wait_effect r.effect old.arrivals m.what n (wait_of old p) ∙ ap (λ b. wait_after r.effect old.arrivals m.what b (wait_of old p)) (sym k.answer))))

    one_change : ChangesOneThing old m a new
    one_change = record {
      effect = r.effect;
      allowed = r.allowed;
      lock = r.lock;
      arrivals = r.arrivals;
      lock_list = r.lock_list;
      list = r.list;
      wait = own_wait;
      other_waits = other_waits;
      others = others_stand;
      parties = acting.as_many verdict_in Rest.Finished t u p w a k.inside k.stages;
      size = same_size;
      starved_limit = lock_limit i p t.machine.lock u.machine.lock (action_of from) k.found k.acts.lock;
      generations_limit = ap (λ (v : Words). v.most) k.acts.words ∙ most_kept from t.machine.words;
      found_memory = r.memory;
      parting = λ h. r.parting (sym decided_there ∙ h);
      giving_up = λ h. ap (λ b. b || is_held_by old.lock.holder p) decided_there ∙ r.giving_up h;
    }

    abbrev starts_here : Bool
    starts_here = may_begin_at from

    -- what is decided now, and was not before, has its reason, or is given back
    reason : (b : Answer) → DecidesOn old m a new b → (b ≡ Answer.GivenBack) ⊎ turns.Reason t u m w starts_here b
    reason b e = reasoned t u m w starts_here (verdict_of from c) (said n d) b r.judged (k.here.undecided c (sym (ap is_decided stood) ∙ e.0)) (sym decides ∙ e.1)

    carries : Carries old m a new
    carries = record {
      ready = λ g e. elim (reason (Answer.Ready g) e) as (λ _. Carried g old m new) [ inl b ↦ absurd (cc b) | inr y ↦ y ];
      led = λ e leads. (let l = r.led e leads in (not_either (is_decided (standing_of old p)) (is_drop m.what) (decided_there ∙ ap is_some l.0), decides ∙ l.1));
    }

    waits : Waits m a new
    waits = record {
      waiting = λ e. pended t u m w starts_here (verdict_of from c) (said n d) r.judged (owns.never_pending from c) (said_then n d Answer.Pending refl (sym k.answer ∙ e));
      not_before = λ v e. (owns.well u k.new_laws k.new_fits).never_pending p v e;
    }

    -- who is refused for too many starved parties was about to be counted
    pub counts : DecidesOn old m a new (refused Refusal.Starved) → is_counting c ≡ true
    counts e = elim (reason (refused Refusal.Starved) e) as (λ _. is_counting c ≡ true) [ inl b ↦ absurd (cc b) | inr y ↦ y.2 refl ]

    refused_for_cause : IsRefusedForCause old m a new
    refused_for_cause = record {
      cause = λ z e. elim (reason (Answer.Refused z) e) as (λ _. (b : Refusal) × (z ≡ number_of b) × IsCause old m new b) [ inl b ↦ absurd (cc b) | inr y ↦ y.0 ];
      memory = λ e. elim (reason (refused Refusal.Memory) e) as (λ _. IsUndecided (standing_of old p)) [ inl b ↦ absurd (cc b) | inr y ↦ undecided_inside (standing_of old p) w (verdict_of from c) (stood ∙ k.here.going y.1 c) e.0 ];
      after_ready = (
        (λ e. absurd (r.not_over (sym k.answer ∙ e))),
        (λ e. let never : polls_again s m.what ≡ true = sym (again_seen (verdict x c) s m.what) ∙ (ap (λ z. is_poll_after_ready z m.what) (sym stood) ∙ e) in absurd (cc (k.first, never))),
      );
    }

    cleared : (for : Aim) → to ≡ Made for → IsClear new p
    cleared for e =
        let at : position_at u.machine.positions p ≡ Made for = lands_at ∙ e in
        let P : Position → Type 0 = λ y. fits_lock (in_lock y) d ≡ true in
        owns.clear_at u k.new_laws k.new_fits p (subst P at (k.new_laws.links p)) (ap listed at)

    leaves_clear : LeavesClear m a new
    leaves_clear = record {
      each = (owns.well u k.new_laws k.new_fits).each;
      uncounted = (owns.well u k.new_laws k.new_fits).uncounted;
      refused = λ h. (let z = r.clear (ap is_refusal (sym k.answer) ∙ h) in cleared z.0 z.1);
    }

    called : call_of old m ≡ Some w
    called = ap (λ z. call_in knows z m.what) stood ∙ (call_seen knows (verdict x c) s m.what ∙ k.call)

    pub is_possible_now : is_possible a ≡ true
    is_possible_now = ap is_possible k.answer ∙ possible_by n

    may_end_so : is_stepped a ≡ false → may_end w.kind a ≡ true
    may_end_so h = ap (may_end w.kind) k.answer ∙ ends_by w.kind w.was from k.found k.runs (sym (ap is_stepped k.answer) ∙ h)

    ends_properly : EndsProperly old m a new
    ends_properly = acting.ends_so standing_of (λ y q. knows) Rest.Finished old m a new w called is_possible_now (rw stands (stands_seen Rest.Finished w a (verdict to d) is_possible_now may_end_so))
        (λ v b e. decides ∙ kept_on t u m w starts_here (verdict_of from c) (said n d) b r.judged (k.here.kept c v b (sym stood ∙ e)))

    tells_on_release : TellsOnRelease old m a new
    tells_on_release = record {
      releases = λ has lost. (let y = telling.released_by i p t.machine.lock u.machine.lock k.old_laws.lock.one_holder from k.found link k.acts.lock has lost in (k.answer ∙ y.0, seen.telling_seen u p ∙ y.1));
      tells = λ tells possible. (let y = telling.tells_by i p t.machine.lock u.machine.lock k.old_laws.lock.one_holder from k.found link k.acts.lock (sym (seen.telling_seen t p) ∙ tells) in (y.0, seen.telling_seen u p ∙ y.1));
      only_then = λ not tells. telling.only_by i p t.machine.lock u.machine.lock k.old_laws.lock.one_holder from k.found link k.acts.lock (sym (seen.telling_seen t p) ∙ not) (sym (seen.telling_seen u p) ∙ tells);
      others = λ q apart. seen.telling_seen u q ∙ (ap is_releasing (course_stays q apart) ∙ sym (seen.telling_seen t q));
    }

    pub legal : Legal old m a new
    legal = record {
      possible = acting.possible_so standing_of (λ y q. knows) Rest.Finished old m a new w called is_possible_now;
      one_change = one_change;
      taken_fairly = fairly old m new r.effect r.allowed r.lock;
      others_keep = record { lock = keep_lock old m new r.effect r.allowed r.lock; starved = keep_starved old m new r.effect r.lock };
      tells_on_release = tells_on_release;
      carries = carries;
      waits = waits;
      refused_for_cause = refused_for_cause;
      leaves_clear = leaves_clear;
      ends_properly = ends_properly;
    }
