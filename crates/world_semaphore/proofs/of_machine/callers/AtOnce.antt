-- What a call's first step does at once, and what is told in turn.
use Rattle.world_semaphore.proofs.Prelude.{none_some, ◌≡◌, ℕ, ◌+◌, ◌<◌, ◌≤◌, ◌⊎◌, inl, inr, ◌↔◌, Bool, true, false, List, Some, refl, arith, ap, sym, ◌∙◌, subst, get_or, get_or-le-sum_by, sum_by, Entry, without, fitted, is_party, entries_of, Found, Done, Left, Short, Available, PastLimit, Yes, No, Next, Place, Take, Retake, Remove, Load, HandOn, PassOn, RefuseFit, Try, Lower, GiveBack, Raise, GiveAdded, FitAdded, CancelLoad, FitGivenBack, Position, Out, At, Words, action_of, next_of, Share, guard_of, nothing_had, permits_of, permits_at, a_look, a_fit, seat_of, share_of, listed, effect_of, Finds, FindsPermits, words_after, entries_after, Semaphore, is_begun, position_at}
use Rattle.lock_program.specs.declared.end.End.{End}
use Rattle.lock_program.specs.declared.end.End.TheVariants.{Got, Granted, Pending, GivenBack}
use Rattle.lock_program.specs.declared.mutex.Step.TheVariants as step
use Rattle.sync_program.specs.declared.permits.SemaphoreCall.{SemaphoreCall}
use Rattle.world_semaphore.proofs.of_machine.callers.Clauses.{Did}
use Rattle.world_semaphore.proofs.of_machine.callers.Clauses as clauses
use Rattle.world_semaphore.proofs.of_machine.callers.Openings.{IsBegun}
use Rattle.world_semaphore.proofs.of_machine.laws.Kept.{after}
use Rattle.world_semaphore.specs.machine.Conduct.{ActsAtOnce, TellsInTurn, wanted_by, decided_then, is_take, is_fresh, taken_by}
use Rattle.world_semaphore.specs.machine.Course as course
use Rattle.world_semaphore.specs.machine.Course.{decided, adding, holding}
use Rattle.world_semaphore.specs.machine.Done.{step_of}
use Rattle.world_semaphore.specs.machine.Permits.{course_at, size_of}
use Rattle.world_semaphore.specs.machine.Seen.{course_in, course_of, seen}

-- ---- a look at the permits

-- where so many are available
record Looked (n available : ℕ) (y : Place) (f : Found) : Type 0 where
  pub shares : (share_of (after y f) ≡ guard_of n) ↔ (n ≤ available)
  pub same : (size : ℕ → ℕ) (p : ℕ) (l : List (Entry ℕ)) → entries_after size p (effect_of (action_of y) f) l ≡ l
  pub decides : n ≤ available → (decided_then (step_of (next_of y f)) (course_of (after y f)) ≡ Some Got) ⊎ ((y ≡ Try n) × (step_of (next_of y f) ≡ step.End Granted))
  pub ends : n ≤ available → (y ≡ Take n false false) ⊎ (y ≡ Try n) → ((y ≡ Take n false false) × (step_of (next_of y f) ≡ step.End Got)) ⊎ ((y ≡ Try n) × (step_of (next_of y f) ≡ step.End Granted))

never_had : (n : ℕ) → nothing_had ≡ guard_of n → ⊥
never_had n e = none_some (ap (λ (z : Share). z.held) e)

looked : (n available : ℕ) (y : Place) (f : Found) → (y ≡ Take n false false) ⊎ ((y ≡ Retake n) ⊎ (y ≡ Try n)) → FindsPermits n f available → Looked n available y f
looked n a y f (inl e) finds = let P : Place → Type 0 = λ z. Looked n a z f in subst P (sym e) (fresh f finds) where
  fresh : (f : Found) → FindsPermits n f a → Looked n a (Take n false false) f
  fresh (Left c) h = record { shares = ((λ e. omega (arith, h)), (λ e. refl)); same = λ size p l. refl; decides = λ e. inl refl; ends = λ e w. inl (refl, refl) }
  fresh (Short c) h = let is = h.0 in let few = h.1 in record { shares = ((λ e. absurd (never_had n e)), (λ e. absurd (omega arith))); same = λ size p l. refl; decides = λ e. absurd (omega arith); ends = λ e w. absurd (omega arith) }
  fresh _ h = absurd h
looked n a y f (inr (inl e)) finds = let P : Place → Type 0 = λ z. Looked n a z f in subst P (sym e) (again f finds) where
  again : (f : Found) → FindsPermits n f a → Looked n a (Retake n) f
  again (Left c) h = record { shares = ((λ e. omega (arith, h)), (λ e. refl)); same = λ size p l. refl; decides = λ e. inl refl; ends = λ e w. absurd (never w) } where
    never : (Retake n ≡ Take n false false) ⊎ (Retake n ≡ Try n) → ⊥
    never (inl e) = cc e
    never (inr e) = cc e
  again (Short c) h = let is = h.0 in let few = h.1 in record { shares = ((λ e. absurd (never_had n e)), (λ e. absurd (omega arith))); same = λ size p l. refl; decides = λ e. absurd (omega arith); ends = λ e w. absurd (omega arith) }
  again _ h = absurd h
looked n a y f (inr (inr e)) finds = let P : Place → Type 0 = λ z. Looked n a z f in subst P (sym e) (tried f finds) where
  tried : (f : Found) → FindsPermits n f a → Looked n a (Try n) f
  tried (Left c) h = record { shares = ((λ e. omega (arith, h)), (λ e. refl)); same = λ size p l. refl; decides = λ e. inr (refl, refl); ends = λ e w. inr (refl, refl) }
  tried (Short c) h = let is = h.0 in let few = h.1 in record { shares = ((λ e. absurd (never_had n e)), (λ e. absurd (omega arith))); same = λ size p l. refl; decides = λ e. absurd (omega arith); ends = λ e w. absurd (omega arith) }
  tried _ h = absurd h

finds_so : (memory : Bool) (p n : ℕ) (w : Words) (l : List (Entry ℕ)) (y : Place) (f : Found) → (y ≡ Take n false false) ⊎ ((y ≡ Retake n) ⊎ (y ≡ Try n)) → Finds memory p (action_of y) f w l → FindsPermits n f w.available
finds_so memory p n w l y f (inl e) h = let P : Place → Type 0 = λ z. Finds memory p (action_of z) f w l in subst P e h
finds_so memory p n w l y f (inr (inl e)) h = let P : Place → Type 0 = λ z. Finds memory p (action_of z) f w l in subst P e h
finds_so memory p n w l y f (inr (inr e)) h = let P : Place → Type 0 = λ z. Finds memory p (action_of z) f w l in subst P e h

-- ---- an add, a forget, and the drop of a guard

raised : (memory : Bool) (p n : ℕ) (w : Words) (l : List (Entry ℕ)) (f : Found) → Finds memory p (action_of (Raise n)) f w l → w.limit + n ≤ w.most → course_of (after (Raise n) f) ≡ adding n
raised memory p n w l Done e fits = refl
raised memory p n w l PastLimit e fits = absurd (omega (arith, e, fits))
raised memory p n w l _ e fits = absurd e

lowered : (memory : Bool) (p n : ℕ) (w : Words) (l : List (Entry ℕ)) (f : Found) → Finds memory p (action_of (Lower n)) f w l → n ≤ w.limit → (words_after (effect_of (action_of (Lower n)) f) w).limit + n ≡ w.limit
lowered memory p n w l Done e few = omega (arith, few)
lowered memory p n w l _ e few = absurd e

returned : (memory : Bool) (p n : ℕ) (w : Words) (l : List (Entry ℕ)) (f : Found) → Finds memory p (action_of (GiveBack n)) f w l → ((words_after (effect_of (action_of (GiveBack n)) f) w).available ≡ w.available + n) × (course_of (after (GiveBack n) f) ≡ decided GivenBack 0 false (a_fit (words_after (effect_of (action_of (GiveBack n)) f) w).available))
returned memory p n w l (Available a) e = (refl, ap (λ c. decided GivenBack 0 false (a_fit c)) e)
returned memory p n w l _ e = absurd e

module _ (memory : Bool) (p : ℕ) (from : Place) (next : Next) (s t : Semaphore) (did : Did memory p from next s t) where
  abbrev x : Position
  x = position_at s.positions p

  abbrev found : Found
  found = did.acts.found

  finds : Finds memory p (action_of from) found s.words s.entries
  finds = did.acts.acts.finds

  step_is : step_of next ≡ step_of (next_of from found)
  step_is = ap step_of did.acts.next_is

  has_few : (n : ℕ) → from ≡ Lower n → n ≤ s.words.limit
  has_few n e =
      let one : permits_at (get_or s.positions p Out) ≤ sum_by permits_at s.positions = get_or-le-sum_by permits_at s.positions p Out did.known in
      let here : permits_at (get_or s.positions p Out) ≡ n = ap permits_of (sym (ap (λ z. z.share) did.stands.same) ∙ ap (λ y. (seat_of y).share) e) in
      omega (arith, one, here, did.laws.balanced)

  module _ (c : SemaphoreCall) (b : IsBegun c x from) where
    abbrev k : ℕ
    k = wanted_by c (course_of x)

    look : is_take c ≡ true → (n : ℕ) × (k ≡ n) × Looked n s.words.available from found
    look h = let so = b.takes h in (so.0, so.2, looked so.0 s.words.available from found so.1 (finds_so memory p so.0 s.words s.entries from found so.1 finds))

    pub at_once : ActsAtOnce c p k (step_of next) (seen s) (seen t)
    at_once = record {
      takes = λ h. (let so = look h in (
        (λ e. (let few = so.2.shares.0 (sym (clauses.share_new memory p from next s t did) ∙ (e ∙ ap guard_of so.1)) in omega (arith, few, so.1))),
        (λ few. clauses.share_new memory p from next s t did ∙ (so.2.shares.1 (omega (arith, few, so.1)) ∙ ap guard_of (sym so.1))),
      ));
      looks = λ h. (let so = look h in clauses.entries_seen memory p from next s t did ∙ so.2.same (size_of (seen s)) p s.entries);
      decides = λ h few. clauses.then_decided memory p from next s t did ∙ decided_as h few;
      ends = λ h few. step_is ∙ ended_as h few;
      adds = λ n e fits. clauses.course_new memory p from next s t did ∙ by_place (λ y. course_of (after y found) ≡ adding n) (Raise n) (b.adds n e) (λ f. raised memory p n s.words s.entries found f fits);
      forgets = λ e. (let so = lowered_at (b.forgets e) in omega (arith, so, ap (λ (v : Words). v.limit) did.acts.acts.words));
      returns = λ e is. (let so = returned_at (b.returns k e (sym (clauses.course_old memory p from next s t did) ∙ is)) in
          (omega (arith, so.0, ap (λ (v : Words). v.available) did.acts.acts.words), clauses.course_new memory p from next s t did ∙ (so.1 ∙ ap (λ (v : Words). decided GivenBack 0 false (a_fit v.available)) (sym did.acts.acts.words))));
    } where
      by_place : (P : Place → Type 0) (y : Place) → from ≡ y → (Finds memory p (action_of y) found s.words s.entries → P y) → P from
      by_place P y e h = let Q : Place → Type 0 = λ z. Finds memory p (action_of z) found s.words s.entries in subst P (sym e) (h (subst Q e finds))

      lowered_at : from ≡ Lower k → (words_after (effect_of (action_of from) found) s.words).limit + k ≡ s.words.limit
      lowered_at e = by_place (λ y. (words_after (effect_of (action_of y) found) s.words).limit + k ≡ s.words.limit) (Lower k) e (λ f. lowered memory p k s.words s.entries found f (has_few k e))

      returned_at : from ≡ GiveBack k → ((words_after (effect_of (action_of from) found) s.words).available ≡ s.words.available + k) × (course_of (after from found) ≡ decided GivenBack 0 false (a_fit (words_after (effect_of (action_of from) found) s.words).available))
      returned_at e = by_place (λ y. ((words_after (effect_of (action_of y) found) s.words).available ≡ s.words.available + k) × (course_of (after y found) ≡ decided GivenBack 0 false (a_fit (words_after (effect_of (action_of y) found) s.words).available))) (GiveBack k) e (λ f. returned memory p k s.words s.entries found f)

      decided_as : is_take c ≡ true → k ≤ s.words.available → decided_then (step_of (next_of from found)) (course_of (after from found)) ≡ Some (taken_by c)
      decided_as h few = let so = look h in elim (so.2.decides (omega (arith, few, so.1))) as (λ _. decided_then (step_of (next_of from found)) (course_of (after from found)) ≡ Some (taken_by c)) [
        | inl got ↦ got ∙ ap Some (sym (by_kind h got))
        | inr tried ↦ ap (λ z. decided_then z (course_of (after from found))) tried.1 ∙ ap Some (sym (b.ends so.0 tried.0))
      ] where
        granted_got : (n : ℕ) → from ≡ Try n → decided_then (step_of (next_of from found)) (course_of (after from found)) ≡ Some Got → ⊥
        granted_got n e got = never found (let P : Place → Type 0 = λ y. decided_then (step_of (next_of y found)) (course_of (after y found)) ≡ Some Got in subst P e got) where
          never : (f : Found) → decided_then (step_of (next_of (Try n) f)) (course_of (after (Try n) f)) ≡ Some Got → ⊥
          never (Left a) g = cc g
          never _ g = cc g

        by_kind : is_take c ≡ true → decided_then (step_of (next_of from found)) (course_of (after from found)) ≡ Some Got → taken_by c ≡ Got
        by_kind h got = let so = b.takes h in elim so.1 as (λ _. taken_by c ≡ Got) [ inl e ↦ b.gets so.0 (inl e) | inr e ↦ elim e as (λ _. taken_by c ≡ Got) [ inl r ↦ b.gets so.0 (inr r) | inr r ↦ absurd (granted_got so.0 r got) ] ]

      ended_as : is_fresh c (entries_of p s.entries) ≡ true → k ≤ s.words.available → step_of (next_of from found) ≡ step.End (taken_by c)
      ended_as h few =
          let so = b.fresh (entries_of p s.entries) (did.laws.owners p) h in
          let l = looked so.0 s.words.available from found (either so.1) (finds_so memory p so.0 s.words s.entries from found (either so.1) finds) in
          elim (l.ends (omega (arith, few, so.2)) so.1) as (λ _. step_of (next_of from found) ≡ step.End (taken_by c)) [
            | inl got ↦ got.1 ∙ ap step.End (sym (b.gets so.0 (inl got.0)))
            | inr tried ↦ tried.1 ∙ ap step.End (sym (b.ends so.0 tried.0))
          ] where
            either : {n : ℕ} → (from ≡ Take n false false) ⊎ (from ≡ Try n) → (from ≡ Take n false false) ⊎ ((from ≡ Retake n) ⊎ (from ≡ Try n))
            either (inl e) = inl e
            either (inr e) = inr (inr e)

-- ---- what is told in turn

module _ (memory : Bool) (p : ℕ) (w : Words) (es : List (Entry ℕ)) (size : ℕ → ℕ) where
  gives : (y : Place) (f : Found) (n : ℕ) → is_begun y ≡ true → course_in y ≡ adding n → Finds memory p (action_of y) f w es → ((words_after (effect_of (action_of y) f) w).available ≡ w.available + n) × (course_of (after y f) ≡ decided Granted 0 false (a_fit (words_after (effect_of (action_of y) f) w).available))
  gives (GiveAdded m) (Available a) n b e h = let same : m ≡ n = cc e in (ap (λ c. w.available + c) same, ap (λ c. decided Granted 0 false (a_fit c)) h)
  gives (GiveAdded m) _ n b e h = absurd h
  gives (Take k false told) f n b e h = absurd (cc e)
  gives (Take k true told) f n b e h = absurd (cc e)
  gives _ f n b e h = absurd (cc e)

  leaves : (y : Place) (f : Found) → is_begun y ≡ true → course.decision (course_in y) ≡ Some Got → 0 < (seat_of y).listed → Finds memory p (action_of y) f w es → entries_after size p (effect_of (action_of y) f) es ≡ without (is_party p) es
  leaves (Remove k more) Yes b e l h = refl
  leaves (Remove k more) No b e l h = refl
  leaves (Remove k more) _ b e l h = absurd h
  leaves (Load k) f b e l h = absurd (omega (arith, l))
  leaves (HandOn k a) f b e l h = absurd (omega (arith, l))
  leaves (Take k false told) f b e l h = absurd (cc e)
  leaves (Take k true told) f b e l h = absurd (cc e)
  leaves _ f b e l h = absurd (cc e)

  looks : (y : Place) (f : Found) (d : End) (k : ℕ) → is_begun y ≡ true → course_in y ≡ decided d k false a_look → Finds memory p (action_of y) f w es → (words_after (effect_of (action_of y) f) w ≡ w) × (entries_after size p (effect_of (action_of y) f) es ≡ es) × (course_of (after y f) ≡ decided d k false (a_fit w.available))
  looks (Load n) (Available a) d k b e h = (refl, refl, (let same : decided Got n false (a_fit w.available) ≡ decided d k false (a_fit w.available) = cc e in ap (λ c. decided Got n false (a_fit c)) h ∙ same))
  looks (Load n) _ d k b e h = absurd h
  looks CancelLoad (Available a) d k b e h = (refl, refl, (let same : decided GivenBack 0 false (a_fit w.available) ≡ decided d k false (a_fit w.available) = cc e in ap (λ c. decided GivenBack 0 false (a_fit c)) h ∙ same))
  looks CancelLoad _ d k b e h = absurd h
  looks (Take n false told) f d k b e h = absurd (cc e)
  looks (Take n true told) f d k b e h = absurd (cc e)
  looks _ f d k b e h = absurd (cc e)

  got_pending : (d : End) (l : Bool) → d ≡ Got → l ≡ true → (l ≡ false) ⊎ (d ≡ Pending) → ⊥
  got_pending d l got listed (inl e) = cc (listed, e)
  got_pending d l got listed (inr e) = cc (got, e)

  tells : (y : Place) (f : Found) (d : End) (k a : ℕ) (l : Bool) → is_begun y ≡ true → course_in y ≡ decided d k l (a_fit a) → (l ≡ false) ⊎ (d ≡ Pending) → Finds memory p (action_of y) f w es → (step_of (next_of y f) ≡ step.End d) × (entries_after size p (effect_of (action_of y) f) es ≡ fitted size a es)
  tells (HandOn n c) Done d k a l b e q h = (ap step.End (cc e), ap (λ m. fitted size m es) (cc e))
  tells (HandOn n c) _ d k a l b e q h = absurd h
  tells (PassOn n c) Done d k a l b e q h = (ap step.End (cc e), ap (λ m. fitted size m es) (cc e))
  tells (PassOn n c) _ d k a l b e q h = absurd h
  tells (RefuseFit n c) Done d k a l b e q h = (ap step.End (cc e), ap (λ m. fitted size m es) (cc e))
  tells (RefuseFit n c) _ d k a l b e q h = absurd h
  tells (FitAdded c) Done d k a l b e q h = (ap step.End (cc e), ap (λ m. fitted size m es) (cc e))
  tells (FitAdded c) _ d k a l b e q h = absurd h
  tells (FitGivenBack c) Done d k a l b e q h = (ap step.End (cc e), ap (λ m. fitted size m es) (cc e))
  tells (FitGivenBack c) _ d k a l b e q h = absurd h
  tells (Remove n more) f d k a l b e q h = absurd (got_pending d l (cc e) (cc e) q)
  tells (Take n false told) f d k a l b e q h = absurd (cc e)
  tells (Take n true told) f d k a l b e q h = absurd (cc e)
  tells _ f d k a l b e q h = absurd (cc e)

module _ (memory : Bool) (p : ℕ) (from : Place) (next : Next) (s t : Semaphore) (did : Did memory p from next s t) (at : position_at s.positions p ≡ At from) (begun : is_begun from ≡ true) where
  here : course_at (seen s).courses p ≡ course_in from
  here = clauses.course_old memory p from next s t did ∙ ap course_of at

  abbrev f : Found
  f = did.acts.found

  words_are : t.words ≡ words_after (effect_of (action_of from) f) s.words
  words_are = did.acts.acts.words

  pub in_turn : TellsInTurn p (step_of next) (seen s) (seen t)
  in_turn = record {
    gives = λ n e. (let so = gives memory p s.words s.entries (size_of (seen s)) from f n begun (sym here ∙ e) did.acts.acts.finds in
        (ap (λ (v : Words). v.available) words_are ∙ so.0, clauses.course_new memory p from next s t did ∙ (so.1 ∙ ap (λ (v : Words). decided Granted 0 false (a_fit v.available)) (sym words_are))));
    leaves = λ e some. clauses.entries_seen memory p from next s t did ∙ leaves memory p s.words s.entries (size_of (seen s)) from f begun (ap course.decision (sym here) ∙ e) (omega (arith, some, clauses.own memory p from next s t did)) did.acts.acts.finds;
    looks = λ e k is. (let so = looks memory p s.words s.entries (size_of (seen s)) from f e k begun (sym here ∙ is) did.acts.acts.finds in
        (words_are ∙ so.0, clauses.entries_seen memory p from next s t did ∙ so.1, clauses.course_new memory p from next s t did ∙ so.2));
    tells = λ e k a l is q. (let so = tells memory p s.words s.entries (size_of (seen s)) from f e k a l begun (sym here ∙ is) q did.acts.acts.finds in
        (ap step_of did.acts.next_is ∙ so.0, clauses.entries_seen memory p from next s t did ∙ so.1));
  }
