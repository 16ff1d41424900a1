-- What calls do that are carried out alone.
use Rattle.world_semaphore.proofs.Prelude.{◌≡◌, ℕ, ◌<◌, ◌≤◌, ◌⊎◌, inl, inr, Bool, true, false, Option, Some, None, refl, arith, ap, sym, ◌∙◌, subst, ℕ_discrete, some_eq, none_some, marked_count, fitted, entries_of, is_refusal, is_stepped, Plain, Refusal, Action, Next, Place, Take, Join, Ask, Remove, Load, HandOn, PassOn, RefuseFit, GiveAdded, FitAdded, CancelLoad, FitGivenBack, Abandon, Position, Out, At, Words, action_of, next_of, position_after, Debt, a_look, a_fit, seat_of, size_at, listed, effect_of, Finds, words_after, entries_after, Semaphore, position_at, sizes_of, is_begun, answer_by}
use Rattle.lock_program.specs.declared.end.End.{End}
use Rattle.lock_program.specs.declared.end.End.TheVariants.{Got, Granted, Pending, GivenBack, Refused}
use Rattle.lock_program.specs.declared.end.Next.TheVariants as comes
use Rattle.lock_program.specs.declared.mutex.Step.{Step}
use Rattle.lock_program.specs.declared.mutex.Step.TheVariants as step
use Rattle.sync_program.specs.declared.permits.SemaphoreCall.{SemaphoreCall}
use Rattle.sync_program.specs.Permits.{start_of}
use Rattle.world_base.specs.table.Ends.{answer_of}
use Rattle.world_semaphore.proofs.of_machine.callers.Clauses.{Did}
use Rattle.world_semaphore.proofs.of_machine.callers.Clauses as clauses
use Rattle.world_semaphore.proofs.of_machine.callers.Laws.{is_permits}
use Rattle.world_semaphore.proofs.of_machine.callers.Openings.{opened, stands}
use Rattle.world_semaphore.proofs.of_machine.callers.Rows.{kept_after}
use Rattle.world_semaphore.proofs.of_machine.callers.Sights.{seen_at, debt_seen, size_seen}
use Rattle.world_semaphore.proofs.of_machine.callers.Steps.{at_place, begins, goes_on}
use Rattle.world_semaphore.proofs.of_machine.laws.Entries.{entries_of-fitted, fitted_marks, wanted_so}
use Rattle.world_semaphore.proofs.whole.Covers.{Covered, EndsCovered, CoversBy, covers}
use Rattle.world_semaphore.proofs.whole.Passing.{tells_size, fit_done, is_quiet, quietly}
use Rattle.world_semaphore.specs.machine.Calls.{PermitsBegin, PermitsGoOn, GoesOnAlone, CallsAlone, last, further, at_once, begun}
use Rattle.world_semaphore.specs.machine.Conduct.{Polls, decided_then}
use Rattle.world_semaphore.specs.machine.Course as course
use Rattle.world_semaphore.specs.machine.Course.{Course, out, unlisted, waiting, holding, polling, adding, decided}
use Rattle.world_semaphore.specs.machine.Done.{HasBegun, HasGoneOn, goes_on_at, step_of}
use Rattle.world_semaphore.specs.machine.Permits.{Permits, IsPermits, IsFreeAndWanted, course_at, size_of}
use Rattle.world_semaphore.specs.machine.Seen.{course_in, course_of, is_kept, AreKept, seen}

-- ---- the place of a course

pub is_look : Debt → Bool
is_look a_look = true
is_look _ = false

pub amount : Debt → Option ℕ
amount (a_fit a) = Some a
amount _ = None

abbrev pub place_of : Course → Place
place_of (polling k true false d) = Take k true (is_look d)
place_of (polling k true true d) = Ask k (amount d)
place_of (polling k false false d) = Take k false true
place_of (polling k false true d) = Join k (amount d)
place_of (adding n) = GiveAdded n
place_of (decided Got k true d) = Remove k (amount d)
place_of (decided Got k false a_look) = Load k
place_of (decided Got k false (a_fit a)) = HandOn k a
place_of (decided Pending k l (a_fit a)) = PassOn k a
place_of (decided (Refused r) k l (a_fit a)) = RefuseFit k a
place_of (decided Granted k l (a_fit a)) = FitAdded a
place_of (decided GivenBack k l a_look) = CancelLoad
place_of (decided GivenBack k l (a_fit a)) = FitGivenBack a
place_of _ = Abandon

back : (y : Place) → is_begun y ≡ true → place_of (course_in y) ≡ y
unfolding is_look amount
back (Take k true true) h = refl
back (Take k true false) h = refl
back (Take k false true) h = refl
back (Take k false false) h = absurd (cc h)
back (Join k None) h = refl
back (Join k (Some a)) h = refl
back (Ask k None) h = refl
back (Ask k (Some a)) h = refl
back (Remove k None) h = refl
back (Remove k (Some a)) h = refl
back (Load k) h = refl
back (HandOn k a) h = refl
back (PassOn k a) h = refl
back (RefuseFit k a) h = refl
back (GiveAdded n) h = refl
back (FitAdded a) h = refl
back CancelLoad h = refl
back (FitGivenBack a) h = refl
back _ h = absurd (cc h)

-- ---- one step

-- the machine acted for a party that stood so; and where it told others, it stood there
pub record Acted (memory : Bool) (p : ℕ) (s : Step) (old new : Permits) : Type 0 where
  pub before : Semaphore
  pub after : Semaphore
  pub old_is : old ≡ seen before
  pub new_is : new ≡ seen after
  pub kept_then : AreKept after.positions
  pub from : Place
  pub next : Next
  pub did : Did memory p from next before after
  pub step : s ≡ step_of next
  pub tells : (c : ℕ) → action_of from ≡ Action.Fit c → position_at before.positions p ≡ At from

pub went_at : (x : Position) (from : Place) → goes_on_at x ≡ Some from → x ≡ At from
went_at (At y) from e = ap At (some_eq e)
went_at Out from e = absurd (none_some e)
went_at (Position.Unlisted k) from e = absurd (none_some e)
went_at (Position.Waiting k) from e = absurd (none_some e)
went_at (Position.Holding k) from e = absurd (none_some e)

abbrev pub NeverTells : SemaphoreCall → Position → Place → Type 0
NeverTells c x from = (a : ℕ) → action_of from ≡ Action.Fit a → ⊥

pub never_tells : (c : SemaphoreCall) (x : Position) (from : Place) → start_of c x ≡ Some from → NeverTells c x from
never_tells = opened NeverTells (record {
  acquire = λ k a e. cc e;
  try = λ k a e. cc e;
  add = λ k a e. cc e;
  poll = λ k a e. cc e;
  poll_listed = λ k a e. cc e;
  abandon = λ k a e. cc e;
  cancel = λ k a e. cc e;
  give_back = λ k a e. cc e;
  forget = λ k a e. cc e;
})

module _ {memory : Bool} {p : ℕ} {s : Step} {old new : Permits} where
  abbrev pub begun_acted : (c : SemaphoreCall) → HasBegun c memory p s old new → Acted memory p s old new
  begun_acted c h = record {
    before = h.before;
    after = h.after;
    old_is = h.old_is;
    new_is = h.new_is;
    kept_then = h.kept_then;
    from = h.from;
    next = h.next;
    did = record { acts = h.acts; laws = h.laws; laws_then = h.laws_then; kept = h.kept; known = h.known; stands = stands c (position_at h.before.positions p) h.from h.starts_at };
    step = h.step;
    tells = λ a e. absurd (never_tells c (position_at h.before.positions p) h.from h.starts_at a e);
  }

  abbrev pub gone_acted : HasGoneOn memory p s old new → Acted memory p s old new
  gone_acted h =
      let at : position_at h.before.positions p ≡ At h.from = went_at (position_at h.before.positions p) h.from h.starts_at in
      record {
        before = h.before;
        after = h.after;
        old_is = h.old_is;
        new_is = h.new_is;
        kept_then = h.kept_then;
        from = h.from;
        next = h.next;
        did = record { acts = h.acts; laws = h.laws; laws_then = h.laws_then; kept = h.kept; known = h.known; stands = at_place (position_at h.before.positions p) h.from at };
        step = h.step;
        tells = λ a e. at;
      }

  -- all that is known of a step is known of one that was done
  begun_so : (c : SemaphoreCall) → HasBegun c memory p s old new → PermitsBegin memory p c s old new
  begun_so c h =
      let a = begun_acted c h in
      let A : Permits → Type 0 = λ z. PermitsBegin memory p c s z new in
      let B : Permits → Type 0 = λ z. PermitsBegin memory p c s (seen h.before) z in
      let C : Step → Type 0 = λ z. PermitsBegin memory p c z (seen h.before) (seen h.after) in
      subst A (sym h.old_is) (subst B (sym h.new_is) (subst C (sym h.step) (begins memory p h.from h.next h.before h.after a.did c h.starts_at)))

  gone_so : HasGoneOn memory p s old new → PermitsGoOn memory p s old new
  gone_so h =
      let a = gone_acted h in
      let A : Permits → Type 0 = λ z. PermitsGoOn memory p s z new in
      let B : Permits → Type 0 = λ z. PermitsGoOn memory p s (seen h.before) z in
      let C : Step → Type 0 = λ z. PermitsGoOn memory p z (seen h.before) (seen h.after) in
      subst A (sym h.old_is) (subst B (sym h.new_is) (subst C (sym h.step) (goes_on memory p h.from h.next h.before h.after a.did (went_at (position_at h.before.positions p) h.from h.starts_at))))

-- ---- along a call

module _ (memory : Bool) (p : ℕ) (G : Permits → Type 0) (E : End → Permits → Type 0) where
  abbrev pub On : Step → Permits → Type 0
  On s m = (s ≡ step.More → G m) × ((e : End) → s ≡ step.End e → E e m)

  module _ (go : (s : Step) (old new : Permits) → HasGoneOn memory p s old new → G old → On s new) where
    along : (e : End) (new m : Permits) → GoesOnAlone memory p e new m → G m → E e new
    along e new m (last old h) g = (go (step.End e) m new h g).1 e refl
    along e new m (further old mid h rest) g = along e new mid rest ((go step.More m mid h g).0 refl)

    pub whole : (c : SemaphoreCall) (e : End) (new m : Permits) → ((s : Step) (mid : Permits) → HasBegun c memory p s m mid → On s mid) → CallsAlone c memory p e new m → E e new
    whole c e new m start (at_once old h) = (start (step.End e) new h).1 e refl
    whole c e new m start (begun old mid h rest) = along e new mid rest ((start step.More mid h).0 refl)

-- what comes next, told by the step
pub more_at : (n : Next) → step_of n ≡ step.More → (z : Place) × (position_after n ≡ At z)
more_at (comes.Do z) e = (z, refl)
more_at (comes.End d x) e = absurd (cc e)

pub ended_so : (n : Next) (e : End) → step_of n ≡ step.End e → answer_by n ≡ answer_of Plain e
ended_so (comes.Do z) e is = absurd (cc is)
ended_so (comes.End d x) e is = ap (answer_of Plain) (cc is)

pub unstepped : (e : End) → is_stepped (answer_of Plain e) ≡ false
unstepped Got = refl
unstepped Granted = refl
unstepped Pending = refl
unstepped End.NotFree = refl
unstepped End.Waiting = refl
unstepped GivenBack = refl
unstepped (Refused r) = refl

-- ---- a poll that takes

module _ (memory : Bool) (p k : ℕ) where
  abbrev Taking : Permits → Type 0
  Taking m = (course.is_polling (course_at m.courses p) ≡ true) × (course.size (course_at m.courses p) ≡ k) × (course.decision (course_at m.courses p) ≡ Some Got)

  abbrev Taken : End → Permits → Type 0
  Taken e m = (e ≡ Got) × (course_at m.courses p ≡ holding k)

  led : (s : Step) (m : Permits) → Polls k s (course_at m.courses p) → decided_then s (course_at m.courses p) ≡ Some Got → On memory p Taking Taken s m
  led s m leads got = (
    (λ e. (let P : Step → Type 0 = λ z. Polls k z (course_at m.courses p) × (decided_then z (course_at m.courses p) ≡ Some Got) in let so = subst P e (leads, got) in (so.0.0, so.0.1, so.1))),
    (λ d e. (let P : Step → Type 0 = λ z. Polls k z (course_at m.courses p) × (decided_then z (course_at m.courses p) ≡ Some Got) in let so : P (step.End d) = subst P e (leads, got) in
        let is : d ≡ Got = some_eq so.1 in let Q : End → Type 0 = λ z. Polls k (step.End z) (course_at m.courses p) in (is, subst Q is so.0))),
  )

  took : (s : Step) (old new : Permits) → HasGoneOn memory p s old new → Taking old → On memory p Taking Taken s new
  took s old new h g =
      let so = gone_so h in
      let P : ℕ → Type 0 = λ n. Polls n s (course_at new.courses p) in
      led s new (subst P g.1 (so.leads.polls g.0)) (so.legal.kept Got g.2).0

  begins_taking : (s : Step) (old new : Permits) → size_of old p ≡ k → k ≤ old.words.available → HasBegun SemaphoreCall.Poll memory p s old new → On memory p Taking Taken s new
  begins_taking s old new size few h =
      let so = begun_so SemaphoreCall.Poll h in
      let P : ℕ → Type 0 = λ n. Polls n s (course_at new.courses p) in
      led s new (subst P size so.leads) (so.at_once.decides refl (omega (arith, size, few)))

pub takes : (m : Permits) (memory : Bool) (p : ℕ) (e : End) (new : Permits) → size_of m p ≤ m.words.available → CallsAlone SemaphoreCall.Poll memory p e new m → (e ≡ Got) × (course_at new.courses p ≡ holding (size_of m p))
takes m memory p e new few call = whole memory p (Taking memory p (size_of m p)) (Taken memory p (size_of m p)) (took memory p (size_of m p)) SemaphoreCall.Poll e new m (λ s mid h. begins_taking memory p (size_of m p) s m mid refl few h) call

-- ---- a notification is passed on

abbrev pub MarksWanted : Permits → Type 0
MarksWanted m = IsFreeAndWanted m → 0 < marked_count m.entries

module _ (memory : Bool) (p : ℕ) where
  abbrev IsCovered : Permits → Type 0
  IsCovered m = Covered (course.debt (course_at m.courses p)) (marked_count m.entries) m.words.available

  module _ (s : Step) (old new : Permits) (h : Acted memory p s old new) where
    abbrev S : Semaphore
    S = h.before

    abbrev T : Semaphore
    T = h.after

    abbrev n : Next
    n = next_of h.from h.did.acts.found

    abbrev sizes : ℕ → ℕ
    sizes = sizes_of S.positions

    finds : Finds memory p (action_of h.from) h.did.acts.found S.words S.entries
    finds = h.did.acts.acts.finds

    own : entries_of p S.entries ≡ (seat_of h.from).listed
    own = clauses.own memory p h.from h.next S T h.did

    laws_then : IsPermits (seen T)
    laws_then = is_permits T h.kept_then h.did.laws_then

    -- what is so of the machine is so of what is seen of it
    seen_then : (P : Permits → Type 0) → P (seen T) → P new
    seen_then P x = subst P (sym h.new_is) x

    pub next_step : s ≡ step_of n
    next_step = h.step ∙ ap step_of h.did.acts.next_is

    covered_so : IsCovered old → CoversBy h.from (marked_count (entries_after sizes p (effect_of (action_of h.from) h.did.acts.found) S.entries)) (words_after (effect_of (action_of h.from) h.did.acts.found) S.words).available n
    covered_so c =
        let P : Permits → Type 0 = λ z. IsCovered z in
        let Q : Debt → Type 0 = λ d. Covered d (marked_count S.entries) S.words.available in
        covers memory p S.words S.entries sizes h.from h.did.acts.found finds own (subst Q (clauses.debt_old memory p h.from h.next S T h.did) (subst P h.old_is c))

    marks_are : marked_count T.entries ≡ marked_count (entries_after sizes p (effect_of (action_of h.from) h.did.acts.found) S.entries)
    marks_are = ap marked_count h.did.acts.acts.entries

    available_is : T.words.available ≡ (words_after (effect_of (action_of h.from) h.did.acts.found) S.words).available
    available_is = ap (λ (v : Words). v.available) h.did.acts.acts.words

    course_then : (z : Place) → position_after n ≡ At z → course_at (seen T).courses p ≡ course_in z
    course_then z e = clauses.course_new memory p h.from h.next S T h.did ∙ ap course_of e

    on_then : IsCovered old → (z : Place) → position_after n ≡ At z → IsCovered (seen T)
    on_then c z e =
        let so = (covered_so c).0 z e in
        let A : ℕ → Type 0 = λ b. Covered (seat_of z).debt b (words_after (effect_of (action_of h.from) h.did.acts.found) S.words).available in
        let B : ℕ → Type 0 = λ b. Covered (seat_of z).debt (marked_count T.entries) b in
        let C : Debt → Type 0 = λ d. Covered d (marked_count T.entries) T.words.available in
        subst C (sym (ap course.debt (course_then z e) ∙ debt_seen (At z))) (subst B (sym available_is) (subst A (sym marks_are) so))

    -- who tells others stands for as many permits as before
    pub same_sizes : (c : ℕ) → action_of h.from ≡ Action.Fit c → (q : ℕ) → sizes_of T.positions q ≡ sizes q
    same_sizes c e q = elim (ℕ_discrete q p) as (λ _. sizes_of T.positions q ≡ sizes q) [
      | yes is ↦ (let P : ℕ → Type 0 = λ j. sizes_of T.positions j ≡ sizes j in
          subst P (sym is) (ap size_at (clauses.lands memory p h.from h.next S T h.did) ∙ (tells_size h.from h.did.acts.found c e ∙ sym (ap size_at (h.tells c e)))))
      | no apart ↦ ap size_at (clauses.stays memory p h.from h.next S T h.did q apart)
    ]

    pub told_then : (c : ℕ) → action_of h.from ≡ Action.Fit c → T.entries ≡ fitted sizes c S.entries
    told_then c e =
        let F : Action → Type 0 = λ b. Finds memory p b h.did.acts.found S.words S.entries × (T.entries ≡ entries_after sizes p (effect_of b h.did.acts.found) S.entries) in
        let so : F (Action.Fit c) = subst F e (finds, h.did.acts.acts.entries) in
        fit_done memory p c h.did.acts.found S.words sizes S.entries T.entries so.0 so.1

    pub size_there : (q : ℕ) → size_of (seen T) q ≡ sizes_of T.positions q
    size_there q = ap course.size (seen_at T.positions q) ∙ size_seen (position_at T.positions q) (h.kept_then q)

    by_end : EndsCovered h.from (marked_count T.entries) T.words.available → MarksWanted (seen T)
    by_end (inl marked) free = marked
    by_end (inr (inl none)) free = let some = laws_then.some_wanted free.0 free.1 in absurd (omega (arith, none, some, free.2))
    by_end (inr (inr told)) free =
        let c = T.words.available in
        let es : T.entries ≡ fitted sizes c S.entries = told_then c told in
        let there : 0 < entries_of free.0 S.entries = omega (arith, free.1, ap (entries_of free.0) es, entries_of-fitted sizes c free.0 S.entries) in
        let few : sizes free.0 ≤ c = omega (arith, free.2, same_sizes c told free.0, size_there free.0) in
        omega (arith, fitted_marks sizes c S.entries (wanted_so sizes c free.0 S.entries there few), ap marked_count es)

    marks_then : IsCovered old → (e : End) → s ≡ step.End e → MarksWanted (seen T)
    marks_then c e is =
        let over : is_stepped (answer_by n) ≡ false = ap is_stepped (ended_so n e (sym next_step ∙ is)) ∙ unstepped e in
        let A : ℕ → Type 0 = λ b. EndsCovered h.from b (words_after (effect_of (action_of h.from) h.did.acts.found) S.words).available in
        let B : ℕ → Type 0 = λ b. EndsCovered h.from (marked_count T.entries) b in
        by_end (subst B (sym available_is) (subst A (sym marks_are) ((covered_so c).1 over)))

    pub passed : IsCovered old → On memory p IsCovered (λ e m. MarksWanted m) s new
    passed c = (
      (λ e. (let z = more_at n (sym next_step ∙ e) in seen_then IsCovered (on_then c z.0 z.1))),
      (λ e is. seen_then MarksWanted (marks_then c e is)),
    )

    -- ---- a party that took no notification

    kept_here : (z : Place) → position_after n ≡ At z → is_begun z ≡ true
    kept_here z e = let P : Position → Type 0 = λ y. is_kept y ≡ true in subst P e (kept_after h.from h.did.acts.found)

    pub place_there : (z : Place) → position_after n ≡ At z → place_of (course_at (seen T).courses p) ≡ z
    place_there z e = ap place_of (course_then z e) ∙ back z (kept_here z e)

    abbrev pub IsHanding : Permits → Type 0
    IsHanding m = (is_quiet (place_of (course_at m.courses p)) ≡ true) ⊎ IsCovered m

    abbrev pub Hands : End → Permits → Type 0
    Hands e m = e ≡ Refused Refusal.Memory → MarksWanted m

    pub handed : (is_quiet h.from ≡ true) ⊎ IsCovered old → On memory p IsHanding Hands s new
    handed (inl quiet) =
        let q = quietly h.from h.did.acts.found quiet in (
          (λ e. (let z = more_at n (sym next_step ∙ e) in seen_then IsHanding (elim (q.going z.0 z.1) as (λ _. IsHanding (seen T)) [
            | inl h ↦ inl (ap is_quiet (place_there z.0 z.1) ∙ h)
            | inr h ↦ inr (inr (inl (ap course.debt (course_then z.0 z.1) ∙ (debt_seen (At z.0) ∙ h))))
          ]))),
          (λ e is refused. (let never : is_refusal (answer_of Plain e) ≡ false = ap is_refusal (sym (ended_so n e (sym next_step ∙ is))) ∙ q.ends in let P : End → Type 0 = λ z. is_refusal (answer_of Plain z) ≡ false in let h : is_refusal (answer_of Plain (Refused Refusal.Memory)) ≡ false = subst P refused never in absurd (cc h))),
        )
    handed (inr c) =
        let so = passed c in ((λ e. inr (so.0 e)), (λ e is refused. so.1 e is))

pub passes_on : (m : Permits) (c : SemaphoreCall) (memory : Bool) (p : ℕ) (e : End) (new : Permits) → CallsAlone c memory p e new m → 0 < marked_count m.entries → MarksWanted new
passes_on m c memory p e new call some = whole memory p (IsCovered memory p) (λ e m. MarksWanted m) (λ s old new h g. passed memory p s old new (gone_acted h) g) c e new m (λ s mid h. passed memory p s m mid (begun_acted c h) (inl some)) call

abbrev QuietlyPolled : SemaphoreCall → Position → Place → Type 0
QuietlyPolled c x from = c ≡ SemaphoreCall.Poll → 0 < listed x → is_quiet from ≡ true

quietly_polled : (c : SemaphoreCall) (x : Position) (from : Place) → start_of c x ≡ Some from → QuietlyPolled c x from
quietly_polled = opened QuietlyPolled (record {
  acquire = λ k e l. absurd (cc e);
  try = λ k e l. absurd (cc e);
  add = λ k e l. absurd (cc e);
  poll = λ k e l. absurd (omega (arith, l));
  poll_listed = λ k e l. refl;
  abandon = λ k e l. absurd (cc e);
  cancel = λ k e l. absurd (cc e);
  give_back = λ k e l. absurd (cc e);
  forget = λ k e l. absurd (cc e);
})

module _ {memory : Bool} {p : ℕ} {s : Step} {old new : Permits} where
  -- the place of a party that goes on is its course's
  pub going_at : (h : HasGoneOn memory p s old new) → place_of (course_at old.courses p) ≡ h.from
  going_at h =
      let at : position_at h.before.positions p ≡ At h.from = went_at (position_at h.before.positions p) h.from h.starts_at in
      ap (λ (m : Permits). place_of (course_at m.courses p)) h.old_is ∙ (ap place_of (seen_at h.before.positions p ∙ ap course_of at) ∙ back h.from (let P : Position → Type 0 = λ y. is_kept y ≡ true in subst P at (h.kept p)))

abbrev Handing : Bool → ℕ → Permits → Type 0
Handing memory p x = (is_quiet (place_of (course_at x.courses p)) ≡ true) ⊎ IsCovered memory p x

abbrev IsHanded : End → Permits → Type 0
IsHanded e x = e ≡ Refused Refusal.Memory → MarksWanted x

pub hands_on : (m : Permits) (memory : Bool) (p : ℕ) (new : Permits) → 0 < entries_of p m.entries → CallsAlone SemaphoreCall.Poll memory p (Refused Refusal.Memory) new m → MarksWanted new
hands_on m memory p new there call = whole memory p (Handing memory p) IsHanded go SemaphoreCall.Poll (Refused Refusal.Memory) new m first call refl where
  go : (s : Step) (old new : Permits) (h : HasGoneOn memory p s old new) → Handing memory p old → On memory p (Handing memory p) IsHanded s new
  go s old new h (inl quiet) = handed memory p s old new (gone_acted h) (inl (ap is_quiet (sym (going_at h)) ∙ quiet))
  go s old new h (inr c) = handed memory p s old new (gone_acted h) (inr c)

  first : (s : Step) (mid : Permits) (h : HasBegun SemaphoreCall.Poll memory p s m mid) → On memory p (Handing memory p) IsHanded s mid
  first s mid h =
      let stood : 0 < listed (position_at h.before.positions p) = omega (arith, there, ap (λ (z : Permits). entries_of p z.entries) h.old_is, h.laws.owners p) in
      handed memory p s m mid (begun_acted SemaphoreCall.Poll h) (inl (quietly_polled SemaphoreCall.Poll (position_at h.before.positions p) h.from h.starts_at refl stood))
