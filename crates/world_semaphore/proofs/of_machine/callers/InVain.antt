-- A party that was told in vain hands over, and polls that are carried out one after the other.
use Rattle.world_semaphore.proofs.Prelude.{◌≡◌, ◌≢◌, ℕ, zero, suc, ◌<◌, ◌≤◌, ◌⊎◌, inl, inr, true, false, List, length, Some, refl, arith, ap, sym, ◌∙◌, subst, Entry, is_marked_at, marked_count, is_party, entries_of, marked_listed, Answer, is_stepped, Plain, Action, Next, Place, Take, Retake, Join, Ask, PassOn, Position, Words, action_of, next_of, Effect, nothing, changes, does, effect_of, words_after, entries_after, Semaphore, position_at, sizes_of, Effect}
use Rattle.lock_program.specs.declared.end.End.{End}
use Rattle.lock_program.specs.declared.end.End.TheVariants.{Got, Granted, Pending, GivenBack, Refused}
use Rattle.lock_program.specs.declared.mutex.Step.{Step}
use Rattle.lock_program.specs.declared.mutex.Step.TheVariants as step
use Rattle.sync_program.specs.declared.permits.SemaphoreCall.{SemaphoreCall}
use Rattle.sync_program.specs.Permits.{start_of}
use Rattle.world_base.specs.table.Ends.{answer_of}
use Rattle.world_base.proofs.of_table.Resting.{one_at_rest}
use Rattle.world_semaphore.proofs.bound.Bound.{some_marked}
use Rattle.world_semaphore.proofs.of_machine.callers.Clauses.{Did}
use Rattle.world_semaphore.proofs.of_machine.callers.Clauses as clauses
use Rattle.world_semaphore.proofs.of_machine.callers.Alone.{On, whole, Acted, begun_acted, gone_acted, place_of, more_at, ended_so, unstepped, next_step, told_then, same_sizes, size_there, place_there, going_at, takes, passes_on, hands_on}
use Rattle.world_semaphore.proofs.of_machine.callers.Openings.{opened}
use Rattle.world_semaphore.proofs.of_machine.callers.Sights.{seen_at}
use Rattle.world_semaphore.proofs.of_machine.laws.Entries.{length-fitted}
use Rattle.world_semaphore.proofs.whole.Handing.{IsVain, Vain, vain, told_enough, is_change}
use Rattle.world_semaphore.proofs.whole.Promises.{one_marked}
use Rattle.world_semaphore.specs.machine.Calls.{CallsAlone, IsCalled, HandsOver, PollsInTurn, Alone}
use Rattle.world_semaphore.specs.machine.Course as course
use Rattle.world_semaphore.specs.machine.Course.{Course, out, unlisted, waiting, holding, polling, adding, decided}
use Rattle.world_semaphore.specs.machine.Done.{HasBegun, HasGoneOn}
use Rattle.world_semaphore.specs.machine.Permits.{Permits, IsPermits, course_at, size_of}
use Rattle.world_semaphore.specs.machine.Seen.{course_of, seen}

-- ---- a party that was told in vain

module _ (k a size : ℕ) (short : a < k) (p : ℕ) where
  pub record IsHandingOver (y : Place) (m : Permits) : Type 0 where
    pub few : m.words.available ≡ a
    pub vain : IsVain k a size y (length m.entries) (marked_count m.entries) (is_marked_at (is_party p) m.entries)

  abbrev GoesInVain : Words → Permits → Type 0
  GoesInVain w m = (m.words ≡ w) × IsHandingOver (place_of (course_at m.courses p)) m

  pub record HasHanded (w : Words) (e : End) (m : Permits) : Type 0 where
    pub pending : e ≡ Pending
    pub words : m.words ≡ w
    pub as_long : length m.entries ≡ size
    pub enough : (q : ℕ) → is_marked_at (is_party q) m.entries ≡ true → size_of m q ≤ a

  tells_vain : (x : Place) (l : List (Entry ℕ)) → action_of x ≡ Action.Fit a → IsVain k a size x (length l) (marked_count l) (is_marked_at (is_party p) l) → (length l ≡ size) × (marked_count l ≡ 0)
  tells_vain (PassOn n c) l e h = (h.2, h.3)
  tells_vain (Take n true told) l e h = absurd (cc e)
  tells_vain (Take n false told) l e h = absurd (cc e)
  tells_vain (Retake n) l e h = absurd (cc e)
  tells_vain (Join n told) l e h = absurd (cc e)
  tells_vain (Ask n told) l e h = absurd (cc e)
  tells_vain _ l e h = absurd h

  same_words : (w : Words) (d : Effect) → is_change d ≡ false → words_after d w ≡ w
  same_words w nothing h = refl
  same_words w (changes c) h = absurd (cc h)
  same_words w (does f) h = refl

  pending_so : (e : End) → answer_of Plain e ≡ Answer.Pending → e ≡ Pending
  pending_so Pending h = refl
  pending_so Got h = absurd (cc h)
  pending_so Granted h = absurd (cc h)
  pending_so End.NotFree h = absurd (cc h)
  pending_so End.Waiting h = absurd (cc h)
  pending_so GivenBack h = absurd (cc h)
  pending_so (Refused r) h = absurd (cc h)

  module _ (w : Words) (s : Step) (old new : Permits) (h : Acted true p s old new) (same : old.words ≡ w) (g : IsHandingOver h.from old) where
    abbrev S : Semaphore
    S = h.before

    abbrev T : Semaphore
    T = h.after

    abbrev n : Next
    n = next_of h.from h.did.acts.found

    here : IsHandingOver h.from (seen S)
    here = let P : Permits → Type 0 = IsHandingOver h.from in subst P h.old_is g

    row : Vain k a size h.from h.did.acts.found (length (entries_after (sizes_of S.positions) p (effect_of (action_of h.from) h.did.acts.found) S.entries)) (marked_count (entries_after (sizes_of S.positions) p (effect_of (action_of h.from) h.did.acts.found) S.entries)) (is_marked_at (is_party p) (entries_after (sizes_of S.positions) p (effect_of (action_of h.from) h.did.acts.found) S.entries))
    row = vain k a size p S.words S.entries (sizes_of S.positions) here.few short h.from h.did.acts.found h.did.acts.acts.finds (clauses.own true p h.from h.next S T h.did) here.vain

    words_so : T.words ≡ S.words
    words_so = h.did.acts.acts.words ∙ same_words S.words (effect_of (action_of h.from) h.did.acts.found) row.unchanged

    words_then : T.words ≡ w
    words_then = words_so ∙ (ap (λ (m : Permits). m.words) (sym h.old_is) ∙ same)

    few_then : T.words.available ≡ a
    few_then = ap (λ (v : Words). v.available) words_so ∙ here.few

    over : (e : End) → s ≡ step.End e → HasHanded w e (seen T)
    over e is =
        let ended = ended_so n e (sym (next_step true p s old new h) ∙ is) in
        let so = row.ends (ap is_stepped ended ∙ unstepped e) in
        let es = told_then true p s old new h a so.0 in
        let list = tells_vain h.from S.entries so.0 here.vain in
        record {
          pending = pending_so e (sym ended ∙ so.1);
          words = words_then;
          as_long = ap length es ∙ (length-fitted (sizes_of S.positions) a S.entries ∙ list.0);
          enough = λ q marked. omega (arith, told_enough (sizes_of S.positions) a q S.entries list.1 (sym (ap (is_marked_at (is_party q)) es) ∙ marked), same_sizes true p s old new h a so.0 q, size_there true p s old new h q);
        }

    pub handing : On true p (GoesInVain w) (HasHanded w) s new
    handing = (
      (λ e. (let z = more_at n (sym (next_step true p s old new h) ∙ e) in
          let P : Place → Type 0 = λ y. IsVain k a size y (length T.entries) (marked_count T.entries) (is_marked_at (is_party p) T.entries) in
          let Q : List (Entry ℕ) → Type 0 = λ l. IsVain k a size z.0 (length l) (marked_count l) (is_marked_at (is_party p) l) in
          let R : Permits → Type 0 = GoesInVain w in
          subst R (sym h.new_is) (words_then, record { few = few_then; vain = subst P (sym (place_there true p s old new h z.0 z.1)) (subst Q (sym h.did.acts.acts.entries) (row.going z.0 z.1)) }))),
      (λ e is. (let P : Permits → Type 0 = HasHanded w e in subst P (sym h.new_is) (over e is))),
    )

waiting_retakes : (c : SemaphoreCall) (x : Position) (from : Place) → start_of c x ≡ Some from → c ≡ SemaphoreCall.Poll → (k : ℕ) → course_of x ≡ waiting k → from ≡ Retake k
waiting_retakes = opened (λ c x from. c ≡ SemaphoreCall.Poll → (k : ℕ) → course_of x ≡ waiting k → from ≡ Retake k) (record {
  acquire = λ n e k is. absurd (cc e);
  try = λ n e k is. absurd (cc e);
  add = λ n e k is. absurd (cc e);
  poll = λ n e k is. absurd (cc is);
  poll_listed = λ n e k is. cc is;
  abandon = λ n e k is. absurd (cc e);
  cancel = λ n e k is. absurd (cc e);
  give_back = λ n e k is. absurd (cc e);
  forget = λ n e k is. absurd (cc e);
})

pub hands_over : (m : Permits) → marked_count m.entries ≤ 1 → (p : ℕ) (e : End) (new : Permits) → IsCalled m p → m.words.available < size_of m p → CallsAlone SemaphoreCall.Poll true p e new m → HandsOver m e new
hands_over m few_marked p e new called short call =
    let k = size_of m p in
    let a = m.words.available in
    let size = length m.entries in
    let done = whole true p (GoesInVain k a size short p m.words) (HasHanded k a size short p m.words) go SemaphoreCall.Poll e new m first call in
    record { pending = done.pending; words = done.words; as_long = done.as_long; enough = λ q marked. omega (arith, done.enough q marked, ap (λ (v : Words). v.available) done.words) } where
      go : (s : Step) (old new : Permits) (h : HasGoneOn true p s old new) → GoesInVain (size_of m p) m.words.available (length m.entries) short p m.words old → On true p (GoesInVain (size_of m p) m.words.available (length m.entries) short p m.words) (HasHanded (size_of m p) m.words.available (length m.entries) short p m.words) s new
      go s old new h g = let P : Place → Type 0 = λ y. IsHandingOver (size_of m p) m.words.available (length m.entries) short p y old in handing (size_of m p) m.words.available (length m.entries) short p m.words s old new (gone_acted h) g.0 (subst P (going_at h) g.1)

      first : (s : Step) (mid : Permits) (h : HasBegun SemaphoreCall.Poll true p s m mid) → On true p (GoesInVain (size_of m p) m.words.available (length m.entries) short p m.words) (HasHanded (size_of m p) m.words.available (length m.entries) short p m.words) s mid
      first s mid h =
          let is : course_of (position_at h.before.positions p) ≡ waiting (size_of m p) = sym (seen_at h.before.positions p) ∙ (ap (λ (z : Permits). course_at z.courses p) (sym h.old_is) ∙ called.0) in
          let from : Retake (size_of m p) ≡ h.from = sym (waiting_retakes SemaphoreCall.Poll (position_at h.before.positions p) h.from h.starts_at refl (size_of m p) is) in
          let P : Place → Type 0 = λ y. IsHandingOver (size_of m p) m.words.available (length m.entries) short p y m in
          handing (size_of m p) m.words.available (length m.entries) short p m.words s m mid (begun_acted SemaphoreCall.Poll h) refl (subst P from (record { few = refl; vain = (refl, refl, called.1, one_marked p m.entries called.1 few_marked) }))

-- ---- polls in turn

rests_waiting : (c : Course) → course.is_resting c ≡ true → 0 < course.listed c → c ≡ waiting (course.size c)
rests_waiting (waiting k) h l = refl
rests_waiting out h l = absurd (omega (arith, l))
rests_waiting (unlisted k) h l = absurd (omega (arith, l))
rests_waiting (holding k) h l = absurd (omega (arith, l))
rests_waiting _ h l = absurd (cc h)

fewer_or_not : (k n : ℕ) → (k ≤ n) ⊎ (n < k)
fewer_or_not k n = grind arith

-- a poll that is passed over is for more than there are
passed_over : (m : Permits) (p : ℕ) (e : End) (mid : Permits) → e ≢ Got → CallsAlone SemaphoreCall.Poll true p e mid m → m.words.available < size_of m p
passed_over m p e mid vain call = elim (fewer_or_not (size_of m p) m.words.available) as (λ _. m.words.available < size_of m p) [
  | inl few ↦ absurd (vain (takes m true p e mid few call).0)
  | inr more ↦ more
]

one_at_most : (m : Permits) → marked_count m.entries ≤ 1 → (n : ℕ) (new : Permits) → PollsInTurn n m new → n ≤ 1
one_at_most m few zero new t = omega arith
one_at_most m few (suc zero) new t = omega arith
one_at_most m few (suc (suc n)) new t =
    let first = hands_over m few t.0 t.1 t.2 t.3 (passed_over m t.0 t.1 t.2 t.5 t.6) t.6 in
    let next = t.7 in
    absurd (omega (arith, first.enough next.0 next.3.1, passed_over t.2 next.0 next.1 next.2 next.5 next.6))

pub alone : (m : Permits) → IsPermits m → Alone m
alone m laws = record {
  takes = λ memory p e new can few call. takes m memory p e new few call;
  passes_on = λ c memory p e new call some. passes_on m c memory p e new call some;
  hands_on = λ memory p r new there call. hands_on m memory p r new there call;
  hands_over = hands_over m laws.one_told;
  some_called = λ rest free. (
      let who = some_marked m.entries (λ q. once q) (laws.wakes rest free) in
      let there : 0 < course.listed (course_at m.courses who.0) = omega (arith, marked_listed who.0 m.entries who.1, laws.owners who.0) in
      (who.0, (rests_waiting (course_at m.courses who.0) (one_at_rest course.is_resting out refl m.courses rest who.0) there, who.1))
      );
  second_takes = one_at_most m laws.one_told;
} where
  one_or_none : (c : Course) → course.listed c ≤ 1
  one_or_none (waiting k) = omega arith
  one_or_none (polling k true l d) = omega arith
  one_or_none (polling k false l d) = omega arith
  one_or_none (decided e k true d) = omega arith
  one_or_none (decided e k false d) = omega arith
  one_or_none _ = omega arith

  once : (q : ℕ) → entries_of q m.entries ≤ 1
  once q = omega (arith, laws.owners q, one_or_none (course_at m.courses q))
