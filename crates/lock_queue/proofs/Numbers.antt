-- What the calls on a list do to the numbers of its entries.
use Rattle.words_base.specs.Waiting.{Has, unless, all_but}
use Rattle.words_base.proofs.Waiting.{all_stay}
use Rattle.std.proofs.Common.{◌≡◌, ◌≢◌, ℕ, ◌-◌, ◌==◌, ◌||◌, if◌then◌else◌, Bool, true, false, List, [], ◌∷◌, ◌++◌, length, suc, refl, sym, ap, ◌∙◌, subst, inr, ⊎_elim, Option, Some, None, eq-eqb, true≢false}
use Rattle.std.proofs.lemmas.Bool.{eqb-true}
use Rattle.lock_event.specs.declared.event.Entry.{Entry}
use Rattle.lock_event.specs.declared.event.EntryId.{EntryId}
use Rattle.lock_event.specs.declared.event.Mark.{Mark}
use Rattle.lock_event.specs.declared.event.Mark.TheVariants.{Waiting, Notified, Additional}
use Rattle.lock_event.specs.declared.event.Slot.{Slot}
use Rattle.lock_event.specs.declared.event.Asked.{Asked}
use Rattle.lock_event.specs.declared.event.Asked.TheVariants as asked
use Rattle.lock_event.specs.Lists.{is_marked, marked_count, entry, joined, mark_waiting, left, passed_on, without, with_key, mark_at, is_listed}
use Rattle.lock_event.specs.Slots.{without_waker, has_id, slot_of, is_due, emptied, HasAsked}
use Rattle.lock_queue.specs.Entries.{numbers_in}

-- no entry has this number
abbrev NoneIs : ℕ → List ℕ → Type 0
NoneIs k l = (n : ℕ) → Has n l → n ≢ k

module _ {W : Type 0} where
  abbrev number : Entry (Slot W) → ℕ
  number e = e.key.id.number

  pub length-numbers : (es : List (Entry (Slot W))) → length (numbers_in es) ≡ length es
  length-numbers [] = refl
  length-numbers (e ∷ es) = ap suc (length-numbers es)

  mark_head : (b : Bool) (m : Mark) (e : Entry (Slot W)) (es fs gs : List (Entry (Slot W))) → numbers_in fs ≡ numbers_in es → numbers_in gs ≡ numbers_in es → numbers_in (if b then e ∷ fs else entry e.key m ∷ gs) ≡ number e ∷ numbers_in es
  mark_head true m e es fs gs f g = ap (λ l. number e ∷ l) f
  mark_head false m e es fs gs f g = ap (λ l. number e ∷ l) g

  pub numbers-mark : (m : Mark) (n : ℕ) (es : List (Entry (Slot W))) → numbers_in (mark_waiting m n es) ≡ numbers_in es
  numbers-mark m n [] = refl
  numbers-mark m n (e ∷ es) = mark_head (is_marked e.mark || (n == 0)) m e es (mark_waiting m n es) (mark_waiting m (n - 1) es) (numbers-mark m n es) (numbers-mark m (n - 1) es)

  waker_head : (b : Bool) (e : Entry (Slot W)) (es fs : List (Entry (Slot W))) → numbers_in fs ≡ numbers_in es → numbers_in (if b then emptied e ∷ es else e ∷ fs) ≡ number e ∷ numbers_in es
  waker_head true e es fs f = refl
  waker_head false e es fs f = ap (λ l. number e ∷ l) f

  pub numbers-without_waker : (es : List (Entry (Slot W))) → numbers_in (without_waker es) ≡ numbers_in es
  numbers-without_waker [] = refl
  numbers-without_waker (e ∷ es) = waker_head (is_due e) e es (without_waker es) (numbers-without_waker es)

  key_head : (id : EntryId) (w : Option W) (b : Bool) (e : Entry (Slot W)) (es fs : List (Entry (Slot W))) → has_id id e.key ≡ b → numbers_in fs ≡ numbers_in es
      → numbers_in (if b then entry (slot_of id w) e.mark ∷ es else e ∷ fs) ≡ number e ∷ numbers_in es
  key_head id w true e es fs is f = ap (λ n. n ∷ numbers_in es) (sym (eqb-true (number e) id.number is))
  key_head id w false e es fs is f = ap (λ l. number e ∷ l) f

  pub numbers-with_key : (id : EntryId) (w : Option W) (es : List (Entry (Slot W))) → numbers_in (with_key (has_id id) (slot_of id w) es) ≡ numbers_in es
  numbers-with_key id w [] = refl
  numbers-with_key id w (e ∷ es) = key_head id w (has_id id e.key) e es (with_key (has_id id) (slot_of id w) es) refl (numbers-with_key id w es)

  pub numbers-joined : (k : Slot W) (es : List (Entry (Slot W))) → numbers_in (joined es k) ≡ numbers_in es ++ k.id.number ∷ []
  numbers-joined k [] = refl
  numbers-joined k (e ∷ es) = ap (λ l. number e ∷ l) (numbers-joined k es)

  numbers-passed_on : (mark : Option Mark) (es : List (Entry (Slot W))) → numbers_in (passed_on mark es) ≡ numbers_in es
  numbers-passed_on None es = refl
  numbers-passed_on (Some Waiting) es = refl
  numbers-passed_on (Some Notified) es = numbers-mark Notified (1 - marked_count es) es
  numbers-passed_on (Some Additional) es = numbers-mark Additional 1 es

  -- ---- leaving
  away_head : (id : EntryId) (e : Entry (Slot W)) (es : List (Entry (Slot W))) (b : Bool) → has_id id e.key ≡ b → (b || is_listed (has_id id) es) ≡ false → (is_listed (has_id id) es ≡ false → (n : ℕ) → Has n (numbers_in es) → n ≢ id.number)
      → (n : ℕ) → Has n (number e ∷ numbers_in es) → n ≢ id.number
  away_head id e es true is away rest = absurd (true≢false away)
  away_head id e es false is away rest = λ n h. ⊎_elim (λ same. λ mine. true≢false (sym (eq-eqb (number e) id.number (same ∙ mine)) ∙ is)) (λ r. rest away n r) h

  away : (id : EntryId) (es : List (Entry (Slot W))) → is_listed (has_id id) es ≡ false → (n : ℕ) → Has n (numbers_in es) → n ≢ id.number
  away id [] none = λ n h. absurd h
  away id (e ∷ es) none = away_head id e es (has_id id e.key) refl none (away id es)

  pub is_new : (id : EntryId) (es : List (Entry (Slot W))) → is_listed (has_id id) es ≡ false → Has id.number (numbers_in es) → ⊥
  is_new id es none h = away id es none id.number h refl

  without_head : (id : EntryId) (e : Entry (Slot W)) (es fs : List (Entry (Slot W))) (b : Bool) → NoneIs id.number (numbers_in (if b then es else e ∷ fs)) → (NoneIs id.number (numbers_in fs) → numbers_in fs ≡ all_but id.number (numbers_in es))
      → numbers_in (if b then es else e ∷ fs) ≡ unless b (number e) (all_but id.number (numbers_in es))
  without_head id e es fs true none rest = sym (all_stay id.number (numbers_in es) (λ h. none id.number h refl))
  without_head id e es fs false none rest = ap (λ l. number e ∷ l) (rest (λ n h. none n (inr h)))

  numbers-without : (id : EntryId) (es : List (Entry (Slot W))) → NoneIs id.number (numbers_in (without (has_id id) es)) → numbers_in (without (has_id id) es) ≡ all_but id.number (numbers_in es)
  numbers-without id [] none = refl
  numbers-without id (e ∷ es) none = without_head id e es (without (has_id id) es) (has_id id e.key) none (numbers-without id es)

  without_by : (id : EntryId) (old new : List (Entry (Slot W))) → numbers_in new ≡ numbers_in (without (has_id id) old) → is_listed (has_id id) new ≡ false → numbers_in new ≡ all_but id.number (numbers_in old)
  without_by id old new is none = is ∙ numbers-without id old (λ n h. away id new none n (subst (Has n) (sym is) h))

  same_by : (id : EntryId) (old new : List (Entry (Slot W))) → numbers_in new ≡ numbers_in old → is_listed (has_id id) new ≡ false → numbers_in new ≡ all_but id.number (numbers_in old)
  same_by id old new is none = is ∙ sym (all_stay id.number (numbers_in old) (λ h. away id new none id.number (subst (Has id.number) (sym is) h) refl))

  -- it has left, and no entry has the id
  pub left_by_id : (id : EntryId) (old new : List (Entry (Slot W))) → new ≡ left (has_id id) old → is_listed (has_id id) new ≡ false → numbers_in new ≡ all_but id.number (numbers_in old)
  left_by_id id old new is none = without_by id old new (ap numbers_in is ∙ numbers-passed_on (mark_at (has_id id) old) (without (has_id id) old)) none

  -- whoever has asked and isn't there has left, or was not there
  pub asked_by_id : (id : EntryId) (w : Option W) (old new : List (Entry (Slot W))) (a : Asked W) → HasAsked id w old a new → is_listed (has_id id) new ≡ false → numbers_in new ≡ all_but id.number (numbers_in old)
  asked_by_id id w old new (asked.Notified kept unused) h none = without_by id old new (ap numbers_in h.1) none
  asked_by_id id w old new (asked.Waiting kept) h none = same_by id old new (ap numbers_in h.2 ∙ numbers-with_key id w old) none
  asked_by_id id w old new (asked.Unlisted unused) h none = same_by id old new (ap numbers_in h.1) none
