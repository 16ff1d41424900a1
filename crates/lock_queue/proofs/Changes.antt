-- What the calls on a list do to those that wait in it.
use Rattle.words_base.specs.Waiting.{Has, NoneWaits, Fewer, StaysTold, unless, last_of}
use Rattle.words_base.specs.Lists.{HandsOn, Joins, Leaves, Pays, PaysAll, Stays}
use Rattle.std.proofs.Common.{◌≡◌, ◌≢◌, ℕ, ◌+◌, ◌-◌, ◌<◌, ◌≤◌, ◌==◌, ◌||◌, if◌then◌else◌, Bool, true, false, not, List, [], ◌∷◌, ◌++◌, length, refl, sym, ap, ◌∙◌, subst, arith, ◌⊎◌, inl, inr, ⊎_elim, Option, Some, None, Result, Ok, Err, IfOk, eq-eqb, ne_eqb, true≢false}
use mathlib.Core.Logic.{dite}
use native.Mathlib.Decide.{ℕ_discrete}
use Rattle.lock_event.specs.declared.event.Entry.{Entry}
use Rattle.lock_event.specs.declared.event.EntryId.{EntryId}
use Rattle.lock_event.specs.declared.event.Mark.{Mark}
use Rattle.lock_event.specs.declared.event.Mark.TheVariants.{Waiting, Notified, Additional}
use Rattle.lock_event.specs.declared.event.Slot.{Slot}
use Rattle.lock_event.specs.declared.event.Asked.{Asked}
use Rattle.lock_event.specs.declared.event.Asked.TheVariants as asked
use Rattle.lock_event.specs.Lists.{is_marked, marked_count, entry, joined, mark_waiting, notified, notified_additionally, left, passed_on, without, with_key, mark_at, is_listed}
use Rattle.lock_event.specs.Slots.{without_waker, has_id, slot_of, is_due, emptied, HasAsked}
use Rattle.lock_event.proofs.Counts.{marked_count-notified}
use Rattle.lock_event.proofs.Marks.{length-mark_waiting, marked_count-joined, marked_count-with_key}
use Rattle.lock_queue.specs.Entries.{waiting_in}
use Rattle.lock_queue.specs.Queues.{Becomes}
use Rattle.lock_queue.specs.Sizes.{IsOneMore}
use Rattle.lock_queue.proofs.Sizing.{keyed_size, joined_size, notified_size, stays_notified, waker_size}
use Rattle.words_base.proofs.Waiting.{joined_by, last-pushed}
use Rattle.lock_queue.proofs.Numbers.{numbers-mark, numbers-without_waker, numbers-with_key, numbers-joined, is_new, left_by_id, asked_by_id}

-- ---- numbers
pub fewer_same : (l : List ℕ) → Fewer l l
fewer_same l n h = h

pub fewer_of : (old new : List ℕ) → new ≡ old → Fewer old new
fewer_of old new e n h = subst (Has n) e h

skip : (b : Bool) (k : ℕ) (l : List ℕ) → Fewer (unless b k l) l
skip true k l n h = h
skip false k l n h = inr h

both : (b : Bool) (k : ℕ) (old new : List ℕ) → Fewer old new → Fewer (unless b k old) (unless b k new)
both true k old new all n h = all n h
both false k old new all n h = ⊎_elim (λ e. inl e) (λ r. inr (all n r)) h

marks : (b : Bool) (k : ℕ) (old new : List ℕ) → Fewer old new → Fewer (unless b k old) new
marks b k old new all n h = skip b k old n (all n h)

pushed : (b : Bool) (k x : ℕ) (l : List ℕ) → unless b k (l ++ x ∷ []) ≡ unless b k l ++ x ∷ []
pushed true k x l = refl
pushed false k x l = refl

module _ {W : Type 0} where
  abbrev number : Entry (Slot W) → ℕ
  number e = e.key.id.number

  abbrev Less : List (Entry (Slot W)) → List (Entry (Slot W)) → Type 0
  Less old new = Fewer (waiting_in old) (waiting_in new)

  -- ---- marking
  mark_head : (m : Mark) (e : Entry (Slot W)) (es fs gs : List (Entry (Slot W))) (b z : Bool) → is_marked m ≡ true → is_marked e.mark ≡ b → Less es fs → Less es gs
      → Fewer (unless b (number e) (waiting_in es)) (waiting_in (if b || z then e ∷ fs else entry e.key m ∷ gs))
  mark_head m e es fs gs true z told is a b = subst (λ c. Fewer (waiting_in es) (unless c (number e) (waiting_in fs))) (sym is) a
  mark_head m e es fs gs false true told is a b = subst (λ c. Fewer (number e ∷ waiting_in es) (unless c (number e) (waiting_in fs))) (sym is) (both false (number e) (waiting_in es) (waiting_in fs) a)
  mark_head m e es fs gs false false told is a b = subst (λ c. Fewer (number e ∷ waiting_in es) (unless c (number e) (waiting_in gs))) (sym told) (λ n h. inr (b n h))

  fewer-mark : (m : Mark) (n : ℕ) (es : List (Entry (Slot W))) → is_marked m ≡ true → Less es (mark_waiting m n es)
  fewer-mark m n [] told = λ k h. h
  fewer-mark m n (e ∷ es) told = mark_head m e es (mark_waiting m n es) (mark_waiting m (n - 1) es) (is_marked e.mark) (n == 0) told refl (fewer-mark m n es told) (fewer-mark m (n - 1) es told)

  none_head : (m : Mark) (e : Entry (Slot W)) (fs gs : List (Entry (Slot W))) (b z : Bool) → is_marked m ≡ true → is_marked e.mark ≡ b → z ≡ false → NoneWaits (waiting_in fs) → NoneWaits (waiting_in gs)
      → NoneWaits (waiting_in (if b || z then e ∷ fs else entry e.key m ∷ gs))
  none_head m e fs gs true z told is not a b = subst (λ c. NoneWaits (unless c (number e) (waiting_in fs))) (sym is) a
  none_head m e fs gs false true told is not a b = absurd (true≢false not)
  none_head m e fs gs false false told is not a b = subst (λ c. NoneWaits (unless c (number e) (waiting_in gs))) (sym told) b

  all-mark : (m : Mark) (n : ℕ) (es : List (Entry (Slot W))) → is_marked m ≡ true → length es ≤ n → NoneWaits (waiting_in (mark_waiting m n es))
  all-mark m n [] told many = λ k h. h
  all-mark m n (e ∷ es) told many = none_head m e (mark_waiting m n es) (mark_waiting m (n - 1) es) (is_marked e.mark) (n == 0) told refl (ne_eqb n 0 (λ z. omega (arith, z, many))) (all-mark m n es told (omega arith)) (all-mark m (n - 1) es told (omega arith))

  pub all_told : (es : List (Entry (Slot W))) → Becomes PaysAll es (notified_additionally es (length es))
  all_told es = record { none_waits = all-mark Additional (length es) es refl (omega arith); entries = numbers-mark Additional (length es) es }

  few-marked : (es : List (Entry (Slot W))) → marked_count es ≤ length es
  few-marked [] = omega arith
  few-marked (e ∷ es) = grind (arith, few-marked es)

  -- as many as wait are marked
  rest_head : (m : Mark) (e : Entry (Slot W)) (n : ℕ) (es fs gs : List (Entry (Slot W))) (b z : Bool) → is_marked m ≡ true → is_marked e.mark ≡ b → (n == 0) ≡ z → marked_count es ≤ length es
      → length (e ∷ es) ≤ (if b then 1 + marked_count es else marked_count es) + n → (length es ≤ marked_count es + n → NoneWaits (waiting_in fs)) → (length es ≤ marked_count es + (n - 1) → NoneWaits (waiting_in gs))
      → NoneWaits (waiting_in (if b || z then e ∷ fs else entry e.key m ∷ gs))
  rest_head m e n es fs gs true z told is at few many a b = subst (λ c. NoneWaits (unless c (number e) (waiting_in fs))) (sym is) (a (omega arith))
  rest_head m e n es fs gs false true told is at few many a b = let none : n ≡ 0 = grind arith in absurd (omega arith)
  rest_head m e n es fs gs false false told is at few many a b = subst (λ c. NoneWaits (unless c (number e) (waiting_in gs))) (sym told) (b (omega arith))

  rest-mark : (m : Mark) (n : ℕ) (es : List (Entry (Slot W))) → is_marked m ≡ true → length es ≤ marked_count es + n → NoneWaits (waiting_in (mark_waiting m n es))
  rest-mark m n [] told many = λ k h. h
  rest-mark m n (e ∷ es) told many = rest_head m e n es (mark_waiting m n es) (mark_waiting m (n - 1) es) (is_marked e.mark) (n == 0) told refl refl (few-marked es) many (rest-mark m n es told) (rest-mark m (n - 1) es told)

  pub each_told : (es : List (Entry (Slot W))) → Becomes PaysAll es (notified es (length es))
  each_told es = let f = few-marked es in record { none_waits = rest-mark Notified (length es - marked_count es) es refl (omega arith); entries = numbers-mark Notified (length es - marked_count es) es }

  -- ---- no entries
  empty_waits : (es : List (Entry (Slot W))) → length es ≡ 0 → NoneWaits (waiting_in es)
  empty_waits [] e = λ n h. h
  empty_waits (x ∷ xs) e = absurd (omega arith)

  told-from : (es new : List (Entry (Slot W))) → length new ≡ length es → (0 < length es → 0 < marked_count new) → (0 < marked_count new) ⊎ NoneWaits (waiting_in new)
  told-from es new same some = dite (ℕ_discrete (length new) 0) (λ z. inr (empty_waits new z)) (λ ne. inl (some (omega arith)))

  pub one_told : (es : List (Entry (Slot W))) → Becomes Pays es (notified es 1)
  one_told es = record { few = (notified_size es).2; fewer = fewer-mark Notified (1 - marked_count es) es refl; settled = told-from es (notified es 1) (length-mark_waiting Notified (1 - marked_count es) es) (marked_count-notified es); entries = numbers-mark Notified (1 - marked_count es) es }

  -- ---- taking a waker
  waker_head : (b : Bool) (e : Entry (Slot W)) (es fs : List (Entry (Slot W))) → waiting_in fs ≡ waiting_in es → waiting_in (if b then emptied e ∷ es else e ∷ fs) ≡ unless (is_marked e.mark) (number e) (waiting_in es)
  waker_head true e es fs same = refl
  waker_head false e es fs same = ap (unless (is_marked e.mark) (number e)) same

  waits-without_waker : (es : List (Entry (Slot W))) → waiting_in (without_waker es) ≡ waiting_in es
  waits-without_waker [] = refl
  waits-without_waker (e ∷ es) = waker_head (is_due e) e es (without_waker es) (waits-without_waker es)

  stays_told : (old new : List (Entry (Slot W))) → marked_count old ≤ marked_count new → StaysTold (marked_count old) (waiting_in new) (marked_count new)
  stays_told old new more some = inl (omega arith)

  pub kept_without_waker : (es : List (Entry (Slot W))) → Becomes Stays es (without_waker es)
  kept_without_waker es = let m = (waker_size es).1 in
      record { fewer = fewer_of (waiting_in es) (waiting_in (without_waker es)) (waits-without_waker es); told = stays_told es (without_waker es) (omega arith); entries = numbers-without_waker es }

  pub kept_same : (es : List (Entry (Slot W))) → Becomes Stays es es
  kept_same es = record { fewer = λ n h. h; told = λ some. inl some; entries = refl }

  pub kept_on : (a b c : List (Entry (Slot W))) → Becomes Stays a b → Becomes Stays b c → Becomes Stays a c
  kept_on a b c f g = record { fewer = λ n h. f.fewer n (g.fewer n h); told = λ some. ⊎_elim (λ m. g.told m) (λ none. inr (λ n h. none n (g.fewer n h))) (f.told some); entries = g.entries ∙ f.entries }

  pub told_on : (a b c : List (Entry (Slot W))) → Becomes PaysAll a b → Becomes Stays b c → Becomes PaysAll a c
  told_on a b c t g = record { none_waits = λ n h. t.none_waits n (g.fewer n h); entries = g.entries ∙ t.entries }

  -- what was so of the list before a waker was taken out
  pub told_without_waker : (old es : List (Entry (Slot W))) → Becomes Pays old es → Becomes Pays old (without_waker es)
  told_without_waker old es t = let w = waits-without_waker es in let m = (waker_size es).1 in
      record { few = ⊎_elim (λ a. inl (omega arith)) (λ b. inr (omega arith)) t.few; fewer = λ n h. t.fewer n (subst (Has n) w h); settled = ⊎_elim (λ some. inl (omega arith)) (λ none. inr (λ n h. none n (subst (Has n) w h))) t.settled; entries = numbers-without_waker es ∙ t.entries }

  pub left_without_waker : (old es : List (Entry (Slot W))) (k : ℕ) → Becomes (HandsOn k) old es → Becomes (HandsOn k) old (without_waker es)
  left_without_waker old es k t = let w = waits-without_waker es in let m = (waker_size es).1 in record {
    leaves = record { left = λ n h. t.leaves.left n (subst (Has n) w h); entries = numbers-without_waker es ∙ t.leaves.entries };
    told = λ some. ⊎_elim (λ more. inl (omega arith)) (λ none. inr (λ n h. none n (subst (Has n) w h))) (t.told some);
  }

  -- ---- leaving
  out_head : (b : Bool) (e : Entry (Slot W)) (es fs : List (Entry (Slot W))) → Less es fs → Fewer (unless (is_marked e.mark) (number e) (waiting_in es)) (waiting_in (if b then es else e ∷ fs))
  out_head true e es fs all = skip (is_marked e.mark) (number e) (waiting_in es)
  out_head false e es fs all = both (is_marked e.mark) (number e) (waiting_in es) (waiting_in fs) all

  fewer-without : (test : Slot W → Bool) (es : List (Entry (Slot W))) → Less es (without test es)
  fewer-without test [] = λ n h. h
  fewer-without test (e ∷ es) = out_head (test e.key) e es (without test es) (fewer-without test es)

  fewer-passed_on : (mark : Option Mark) (es : List (Entry (Slot W))) → Less es (passed_on mark es)
  fewer-passed_on None es = λ n h. h
  fewer-passed_on (Some Waiting) es = λ n h. h
  fewer-passed_on (Some Notified) es = fewer-mark Notified (1 - marked_count es) es refl
  fewer-passed_on (Some Additional) es = fewer-mark Additional 1 es refl

  fewer-left : (test : Slot W → Bool) (es : List (Entry (Slot W))) → Less es (left test es)
  fewer-left test es n h = fewer-without test es n (fewer-passed_on (mark_at test es) (without test es) n h)

  told-left : (test : Slot W → Bool) (es : List (Entry (Slot W))) → StaysTold (marked_count es) (waiting_in (left test es)) (marked_count (left test es))
  told-left test es some = dite (ℕ_discrete (length (left test es)) 0) (λ z. inr (empty_waits (left test es) z)) (λ ne. inl (stays_notified test es (omega arith) some))

  gone_head : (id : EntryId) (e : Entry (Slot W)) (es : List (Entry (Slot W))) (b c : Bool) → has_id id e.key ≡ b → (b || is_listed (has_id id) es) ≡ false → (is_listed (has_id id) es ≡ false → (n : ℕ) → Has n (waiting_in es) → n ≢ id.number)
      → (n : ℕ) → Has n (unless c (number e) (waiting_in es)) → n ≢ id.number
  gone_head id e es true c is away rest = absurd (true≢false away)
  gone_head id e es false true is away rest = λ n h. rest away n h
  gone_head id e es false false is away rest = λ n h. ⊎_elim (λ same. λ mine. true≢false (sym (eq-eqb (number e) id.number (same ∙ mine)) ∙ is)) (λ r. rest away n r) h

  not_there : (id : EntryId) (es : List (Entry (Slot W))) → is_listed (has_id id) es ≡ false → (n : ℕ) → Has n (waiting_in es) → n ≢ id.number
  not_there id [] away = λ n h. absurd h
  not_there id (e ∷ es) away = gone_head id e es (has_id id e.key) (is_marked e.mark) refl away (not_there id es)

  -- it has left, and no entry has the number
  pub left_once : (id : EntryId) (es new : List (Entry (Slot W))) → new ≡ left (has_id id) es → is_listed (has_id id) new ≡ false → Becomes (HandsOn id.number) es new
  left_once id es new is away =
      let fewer : Less es new = subst (Less es) (sym is) (fewer-left (has_id id) es) in
      record { leaves = record { left = λ n h. (fewer n h, not_there id new away n h); entries = left_by_id id es new is away }; told = subst (λ l. StaysTold (marked_count es) (waiting_in l) (marked_count l)) (sym is) (told-left (has_id id) es) }

  -- ---- asking
  key_head : (id : EntryId) (w : Option W) (b : Bool) (e : Entry (Slot W)) (es fs : List (Entry (Slot W))) → has_id id e.key ≡ b → Less es fs
      → Fewer (unless (is_marked e.mark) (number e) (waiting_in es)) (waiting_in (if b then entry (slot_of id w) e.mark ∷ es else e ∷ fs))
  key_head id w true e es fs is all = let same : number e ≡ id.number = grind arith in subst (λ k. Fewer (unless (is_marked e.mark) (number e) (waiting_in es)) (unless (is_marked e.mark) k (waiting_in es))) same (fewer_same (unless (is_marked e.mark) (number e) (waiting_in es)))
  key_head id w false e es fs is all = both (is_marked e.mark) (number e) (waiting_in es) (waiting_in fs) all

  fewer-with_key : (id : EntryId) (w : Option W) (es : List (Entry (Slot W))) → Less es (with_key (has_id id) (slot_of id w) es)
  fewer-with_key id w [] = λ n h. h
  fewer-with_key id w (e ∷ es) = key_head id w (has_id id e.key) e es (with_key (has_id id) (slot_of id w) es) refl (fewer-with_key id w es)

  pub kept_keyed : (id : EntryId) (w : Option W) (es : List (Entry (Slot W))) → Becomes Stays es (with_key (has_id id) (slot_of id w) es)
  kept_keyed id w es = let m = marked_count-with_key (has_id id) (slot_of id w) es in record { fewer = fewer-with_key id w es; told = stays_told es (with_key (has_id id) (slot_of id w) es) (omega arith); entries = numbers-with_key id w es }

  fewer_asked : (id : EntryId) (w : Option W) (old new : List (Entry (Slot W))) (a : Asked W) → HasAsked id w old a new → Less old new
  fewer_asked id w old new (asked.Notified kept unused) h = subst (λ (l : List (Entry (Slot W))). Less old l) (sym h.1) (fewer-without (has_id id) old)
  fewer_asked id w old new (asked.Waiting kept) h = subst (λ (l : List (Entry (Slot W))). Less old l) (sym h.2) (fewer-with_key id w old)
  fewer_asked id w old new (asked.Unlisted unused) h = subst (λ (l : List (Entry (Slot W))). Less old l) (sym h.1) (fewer_same (waiting_in old))

  -- whoever has asked and didn't wait has left, and no entry has the number
  pub gone_once : (id : EntryId) (w : Option W) (old new : List (Entry (Slot W))) (a : Asked W) → HasAsked id w old a new → is_listed (has_id id) new ≡ false → Becomes (Leaves id.number) old new
  gone_once id w old new a asked away = record { left = λ n h. (fewer_asked id w old new a asked n h, not_there id new away n h); entries = asked_by_id id w old new a asked away }

  -- ---- joining
  waits-joined : (k : Slot W) (es : List (Entry (Slot W))) → waiting_in (joined es k) ≡ waiting_in es ++ k.id.number ∷ []
  waits-joined k [] = refl
  waits-joined k (e ∷ es) = ap (unless (is_marked e.mark) (number e)) (waits-joined k es) ∙ pushed (is_marked e.mark) (number e) k.id.number (waiting_in es)

  has-joined : (k : Slot W) (es : List (Entry (Slot W))) → is_listed (has_id k.id) es ≡ false → Becomes (Joins k.id.number) es (joined es k) × IsOneMore es (joined es k)
  has-joined k es none = let w = waits-joined k es in let m = marked_count-joined es k in
      (record { joined = λ n h. joined_by k.id.number (waiting_in es) n (subst (Has n) w h); last = ap last_of w ∙ last-pushed k.id.number (waiting_in es); notified = omega arith; fresh = is_new k.id es none; entries = numbers-joined k es }, joined_size k es)

  pub joined_ok : {B : Type 0} (old new : List (Entry (Slot W))) (r : Result EntryId B) → IfOk r (λ id. new ≡ joined old (slot_of id None)) → IfOk r (λ id. is_listed (has_id id) old ≡ false) → IfOk r (λ id. Becomes (Joins id.number) old new × IsOneMore old new)
  joined_ok old new (Ok id) is none = subst (λ (l : List (Entry (Slot W))). Becomes (Joins id.number) old l × IsOneMore old l) (sym is) (has-joined (slot_of id None) old none)
  joined_ok old new (Err e) is none = tt

  -- ---- joining with a waker
  rekeyed_head : (id : EntryId) (w : Option W) (b : Bool) (e : Entry (Slot W)) (es fs : List (Entry (Slot W))) → has_id id e.key ≡ b → waiting_in fs ≡ waiting_in es
      → waiting_in (if b then entry (slot_of id w) e.mark ∷ es else e ∷ fs) ≡ unless (is_marked e.mark) (number e) (waiting_in es)
  rekeyed_head id w true e es fs is same = let mine : id.number ≡ number e = grind arith in ap (λ k. unless (is_marked e.mark) k (waiting_in es)) mine
  rekeyed_head id w false e es fs is same = ap (unless (is_marked e.mark) (number e)) same

  waits-with_key : (id : EntryId) (w : Option W) (es : List (Entry (Slot W))) → waiting_in (with_key (has_id id) (slot_of id w) es) ≡ waiting_in es
  waits-with_key id w [] = refl
  waits-with_key id w (e ∷ es) = rekeyed_head id w (has_id id e.key) e es (with_key (has_id id) (slot_of id w) es) refl (waits-with_key id w es)

  rekeyed : (id : EntryId) (w : Option W) (old mid : List (Entry (Slot W))) (k : ℕ) → Becomes (Joins k) old mid × IsOneMore old mid → Becomes (Joins k) old (with_key (has_id id) (slot_of id w) mid) × IsOneMore old (with_key (has_id id) (slot_of id w) mid)
  rekeyed id w old mid k j = let same = waits-with_key id w mid in let m = marked_count-with_key (has_id id) (slot_of id w) mid in
      let s = keyed_size (has_id id) (slot_of id w) mid in let i = j.0 in let more = i.notified in
      (record { joined = λ n h. i.joined n (subst (Has n) same h); last = ap last_of same ∙ i.last; notified = omega (arith, more, m); fresh = i.fresh; entries = numbers-with_key id w mid ∙ i.entries }, (s.0 ∙ j.1.0, s.1 ∙ j.1.1))

  pub joined_keyed : (id : EntryId) (w : Option W) (old mid : List (Entry (Slot W))) → mid ≡ joined old (slot_of id None) → is_listed (has_id id) old ≡ false → Becomes (Joins id.number) old (with_key (has_id id) (slot_of id w) mid) × IsOneMore old (with_key (has_id id) (slot_of id w) mid)
  joined_keyed id w old mid is none = rekeyed id w old mid id.number (subst (λ (l : List (Entry (Slot W))). Becomes (Joins id.number) old l × IsOneMore old l) (sym is) (has-joined (slot_of id None) old none))
