-- What the calls on a list do to who stands in it.
use Rattle.std.proofs.Common.{◌≡◌, ℕ, zero, suc, ◌<◌, ◌≤◌, Bool, true, false, ◌||◌, ◌==◌, if◌then◌else◌, List, [], ◌∷◌, ◌++◌, refl, sym, ap, ◌∙◌, subst, arith, MatchBool, Result, Ok, Err, IfOk, Option, None, ◌+◌}
use Rattle.std.proofs.lemmas.Bool.{eqb-true, le-leb, leb-true}
use mathlib.Core.Option.{some, some-injective, some-ne-none}
use lib.ListN.{get_elem?}
use Rattle.lock_event.specs.declared.event.Entry.{Entry}
use Rattle.lock_event.specs.declared.event.EntryId.{EntryId}
use Rattle.lock_event.specs.declared.event.Slot.{Slot}
use Rattle.weighted_event.specs.declared.weighted.Load.{Load}
use Rattle.lock_event.specs.declared.event.Mark.TheVariants.{Notified}
use Rattle.lock_event.specs.Lists.{entry, is_marked, marked_count, joined, without, with_key, is_listed, is_marked_at}
use Rattle.weighted_event.specs.Loads.{weight_of, laden, weight_at, lightened, without_marked_waker}
use Rattle.lock_event.specs.Slots.{has_id}
use Rattle.weighted_event.specs.Weights.{is_enough, fit_first, fitted, is_wanted}
use Rattle.lock_event.proofs.Counts.{marked_count-without_waiting}
use Rattle.weighted_event.proofs.Weights.{fitted_none}
use Rattle.lock_event.proofs.Marks.{marked_count-joined, marked_count-with_key}
use Rattle.words_base.specs.Sums.{weight, number}
use Rattle.words_permits.specs.Waiters.{Waiter, waiter, is_of, StandsIn, HasNo, all_but}
use Rattle.words_base.specs.Waiting.{unless}
use Rattle.words_permits.proofs.Owners.{all-stay}
use Rattle.semaphore_core.specs.Entries.{waiters_in, HasJoined, HasLeft, IsGone, IsUnchanged, IsTold}

apart : (a b : Bool) → (a || b) ≡ false → (a ≡ false) × (b ≡ false)
apart true b h = absurd (cc)
apart false b h = (refl, h)

or_left : (b c : Bool) → b ≡ true → (b || c) ≡ true
or_left true c is = refl
or_left false c is = absurd (cc)

or_right : (b c : Bool) → c ≡ true → (b || c) ≡ true
or_right true c is = refl
or_right false c is = is

module _ {W : Type 0} where
  -- ---- joining
  waiters-joined : (es : List (Entry (Slot (Load W)))) (id : EntryId) (k : ℕ) (w : Option W) → waiters_in (joined es (laden id k w)) ≡ waiters_in es ++ waiter id.number k ∷ []
  waiters-joined [] id k w = refl
  waiters-joined (e ∷ es) id k w = ap (λ (l : List Waiter). waiter e.key.id.number (weight_of e.key) ∷ l) (waiters-joined es id k w)

  has-no : (es : List (Entry (Slot (Load W)))) (id : EntryId) → is_listed (has_id id) es ≡ false → HasNo id.number (waiters_in es)
  has-no [] id absent = refl
  has-no (e ∷ es) id absent = let h = apart (has_id id e.key) (is_listed (has_id id) es) absent in let w : weight (has_id id e.key) ≡ 0 = ap weight h.0 in let r = has-no es id h.1 in omega arith

  pub has-joined : (old new : List (Entry (Slot (Load W)))) (id : EntryId) (k : ℕ) → new ≡ joined old (laden id k None) → is_listed (has_id id) old ≡ false → HasJoined old new id.number k
  has-joined old new id k is fresh = (ap waiters_in is ∙ waiters-joined old id k None, ap marked_count is ∙ marked_count-joined old (laden id k None), has-no old id fresh)

  -- ---- what an entry keeps
  waiters-with_key : (es : List (Entry (Slot (Load W)))) (id : EntryId) (w : Option W) → waiters_in (with_key (has_id id) (laden id (weight_at id es) w) es) ≡ waiters_in es
  waiters-with_key [] id w = refl
  waiters-with_key (e ∷ es) id w = by (waiters-with_key es id w) (has_id id e.key) refl
    where
      by : waiters_in (with_key (has_id id) (laden id (weight_at id es) w) es) ≡ waiters_in es → (b : Bool) → has_id id e.key ≡ b → waiters_in (if b then entry (laden id (if b then weight_of e.key else weight_at id es) w) e.mark ∷ es else e ∷ with_key (has_id id) (laden id (if b then weight_of e.key else weight_at id es) w) es) ≡ waiters_in (e ∷ es)
      by r true is = ap (λ (n : ℕ). waiter n (weight_of e.key) ∷ waiters_in es) (sym (eqb-true e.key.id.number id.number is))
      by r false is = ap (λ (l : List Waiter). waiter e.key.id.number (weight_of e.key) ∷ l) r

  pub same-keyed : (old new : List (Entry (Slot (Load W)))) (id : EntryId) (w : Option W) → new ≡ with_key (has_id id) (laden id (weight_at id old) w) old → IsUnchanged old new
  same-keyed old new id w is = (ap waiters_in is ∙ waiters-with_key old id w, ap marked_count is ∙ marked_count-with_key (has_id id) (laden id (weight_at id old) w) old)

  pub same-twice : (old mid new : List (Entry (Slot (Load W)))) → IsUnchanged old mid → IsUnchanged mid new → IsUnchanged old new
  same-twice old mid new a b = (b.0 ∙ a.0, b.1 ∙ a.1)

  pub joined-keyed : (old mid new : List (Entry (Slot (Load W)))) (n k : ℕ) → HasJoined old mid n k → IsUnchanged mid new → HasJoined old new n k
  joined-keyed old mid new n k a b = (b.0 ∙ a.0, b.1 ∙ a.1, a.2)

  -- ---- leaving
  -- where no two entries have one number
  only_head : (b : Bool) (e : Entry (Slot (Load W))) (es fs : List (Entry (Slot (Load W)))) (n : ℕ) → (b ≡ true → HasNo n (waiters_in es)) → (b ≡ false → waiters_in fs ≡ all_but n (waiters_in es))
      → waiters_in (if b then es else e ∷ fs) ≡ unless b (waiter e.key.id.number (weight_of e.key)) (all_but n (waiters_in es))
  only_head true e es fs n none rest = sym (all-stay n (waiters_in es) (none refl))
  only_head false e es fs n none rest = ap (λ (l : List Waiter). waiter e.key.id.number (weight_of e.key) ∷ l) (rest refl)

  only-without : (es : List (Entry (Slot (Load W)))) (id : EntryId) → number (is_of id.number) (waiters_in es) ≤ 1 → waiters_in (without (has_id id) es) ≡ all_but id.number (waiters_in es)
  only-without [] id one = refl
  only-without (e ∷ es) id one = only_head (has_id id e.key) e es (without (has_id id) es) id.number
      (λ is. let w : weight (has_id id e.key) ≡ 1 = ap weight is in omega (arith, one, w))
      (λ is. let w : weight (has_id id e.key) ≡ 0 = ap weight is in only-without es id (omega (arith, one, w)))

  pub gone-without : (old new : List (Entry (Slot (Load W)))) (id : EntryId) → new ≡ without (has_id id) old → IsGone old new id.number
  gone-without old new id is sound = ap waiters_in is ∙ only-without old id (sound.1 id.number)

  -- nor is one left that wasn't there
  pub gone-unlisted : (old new : List (Entry (Slot (Load W)))) (id : EntryId) → is_listed (has_id id) old ≡ false → new ≡ old → IsGone old new id.number
  gone-unlisted old new id absent is sound = ap waiters_in is ∙ sym (all-stay id.number (waiters_in old) (has-no old id absent))

  -- whoever leaves without asking
  pub withdrawn : (id : EntryId) (old new : List (Entry (Slot (Load W)))) (b : Bool) → b ≡ is_marked_at (has_id id) old → new ≡ without (has_id id) old → MatchBool b (IsGone old new id.number) (HasLeft old new id.number)
  withdrawn id old new true marked is = gone-without old new id is
  withdrawn id old new false marked is = (gone-without old new id is, ap marked_count is ∙ marked_count-without_waiting (has_id id) old (sym marked))

  -- ---- telling
  abbrev its : Slot (Load W) → ℕ
  its = weight_of

  waiters-fit_first : (a : ℕ) (es : List (Entry (Slot (Load W)))) → waiters_in (fit_first its a es) ≡ waiters_in es
  waiters-fit_first a [] = refl
  waiters-fit_first a (e ∷ es) = by (waiters-fit_first a es) (is_marked e.mark) (is_enough its a e)
    where
      by : waiters_in (fit_first its a es) ≡ waiters_in es → (b c : Bool) → waiters_in (if b then e ∷ fit_first its a es else (if c then entry e.key Notified ∷ es else e ∷ fit_first its a es)) ≡ waiters_in (e ∷ es)
      by r true c = ap (λ (l : List Waiter). waiter e.key.id.number (weight_of e.key) ∷ l) r
      by r false true = refl
      by r false false = ap (λ (l : List Waiter). waiter e.key.id.number (weight_of e.key) ∷ l) r

  waiters-fitted : (a : ℕ) (es : List (Entry (Slot (Load W)))) → (waiters_in (fitted its a es) ≡ waiters_in es) × (marked_count es ≤ marked_count (fitted its a es))
  waiters-fitted a es = by (marked_count es == 0) refl
    where
      by : (b : Bool) → (marked_count es == 0) ≡ b → (waiters_in (if b then fit_first its a es else es) ≡ waiters_in es) × (marked_count es ≤ marked_count (if b then fit_first its a es else es))
      by true is = (waiters-fit_first a es, let z : marked_count es ≡ 0 = eqb-true (marked_count es) 0 is in omega arith)
      by false is = (refl, omega arith)

  waiters-lighter : (es : List (Entry (Slot (Load W)))) → waiters_in (without_marked_waker es) ≡ waiters_in es
  waiters-lighter [] = refl
  waiters-lighter (e ∷ es) = by (waiters-lighter es) (is_marked e.mark)
    where
      by : waiters_in (without_marked_waker es) ≡ waiters_in es → (b : Bool) → waiters_in (if b then lightened e ∷ es else e ∷ without_marked_waker es) ≡ waiters_in (e ∷ es)
      by r true = refl
      by r false = ap (λ (l : List Waiter). waiter e.key.id.number (weight_of e.key) ∷ l) r

  marks-lighter : (es : List (Entry (Slot (Load W)))) → marked_count (without_marked_waker es) ≡ marked_count es
  marks-lighter [] = refl
  marks-lighter (e ∷ es) = grind (arith, marks-lighter es)

  wanted : (a : ℕ) (es : List (Entry (Slot (Load W)))) (k : ℕ) (w : Waiter) → get_elem? (waiters_in es) k ≡ some w → w.weight ≤ a → is_wanted its a es ≡ true
  wanted a [] k w e few = absurd (some-ne-none w (sym e))
  wanted a (x ∷ es) zero w e few = or_left (is_enough its a x) (is_wanted its a es) (le-leb (weight_of x.key) a (subst (λ (n : ℕ). n ≤ a) (sym (ap (λ (u : Waiter). u.weight) (some-injective (waiter x.key.id.number (weight_of x.key)) w e))) few))
  wanted a (x ∷ es) (suc k) w e few = or_right (is_enough its a x) (is_wanted its a es) (wanted a es k w e few)

  -- whom they are enough for
  wanted-by : (a : ℕ) (es : List (Entry (Slot (Load W)))) → is_wanted its a es ≡ true → (w : Waiter) × StandsIn (waiters_in es) w × (w.weight ≤ a)
  wanted-by a [] is = absurd (cc)
  wanted-by a (x ∷ es) is = by (λ rest. wanted-by a es rest) (is_enough its a x) refl is
    where
      by : (is_wanted its a es ≡ true → (w : Waiter) × StandsIn (waiters_in es) w × (w.weight ≤ a)) → (b : Bool) → is_enough its a x ≡ b → (b || is_wanted its a es) ≡ true → (w : Waiter) × StandsIn (waiters_in (x ∷ es)) w × (w.weight ≤ a)
      by r true enough is = (waiter x.key.id.number (weight_of x.key), (0, refl), leb-true (weight_of x.key) a enough)
      by r false enough is = let w = r is in (w.0, (suc w.1.0, w.1.1), w.2)

  -- of nobody's being notified before, and one's after
  chosen : (a : ℕ) (old : List (Entry (Slot (Load W)))) (b : Bool) → is_wanted its a old ≡ b → marked_count old ≡ 0 → 1 ≤ marked_count (fitted its a old) → (w : Waiter) × StandsIn (waiters_in old) w × (w.weight ≤ a)
  chosen a old true is before after = wanted-by a old is
  chosen a old false is before after = let m : marked_count (fitted its a old) ≡ marked_count old = ap marked_count (fitted_none its a old is) in absurd (omega arith)

  pub told : (a : ℕ) (old mid new : List (Entry (Slot (Load W)))) → mid ≡ fitted its a old → (is_wanted its a old ≡ true → 0 < marked_count mid) → new ≡ without_marked_waker mid → IsTold old new a
  told a old mid new fit tells light =
      let f = waiters-fitted a old in
      let same : waiters_in new ≡ waiters_in old = ap waiters_in light ∙ (waiters-lighter mid ∙ (ap waiters_in fit ∙ f.0)) in
      let marks : marked_count new ≡ marked_count mid = ap marked_count light ∙ marks-lighter mid in
      let more : marked_count old ≤ marked_count mid = subst (λ (m : List (Entry (Slot (Load W)))). marked_count old ≤ marked_count m) (sym fit) f.1 in (
        same,
        omega arith,
        (λ w s few. let o : StandsIn (waiters_in old) w = subst (λ (m : List Waiter). StandsIn m w) same s in let t = tells (wanted a old o.0 w o.1 few) in omega arith),
        λ before after.
            let some : 1 ≤ marked_count (fitted its a old) = let m : marked_count mid ≡ marked_count (fitted its a old) = ap marked_count fit in omega arith in
            let c = chosen a old (is_wanted its a old) refl before some in (c.0, subst (λ (m : List Waiter). StandsIn m c.0) (sym same) c.1, c.2),
      )

  -- whoever has joined, if somebody has
  pub joined-ok : {B : Type 0} (old new : List (Entry (Slot (Load W)))) (k : ℕ) (r : Result EntryId B) → IfOk r (λ id. new ≡ joined old (laden id k None)) → IfOk r (λ id. is_listed (has_id id) old ≡ false) → IfOk r (λ id. HasJoined old new id.number k)
  joined-ok old new k (Ok id) is fresh = has-joined old new id k is fresh
  joined-ok old new k (Err e) is fresh = tt
