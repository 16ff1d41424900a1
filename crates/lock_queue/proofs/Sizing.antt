-- What the calls on a list do to its sizes.
use Rattle.std.proofs.Common.{◌≡◌, ℕ, ◌+◌, ◌-◌, ◌≤◌, Bool, List, [], ◌∷◌, length, refl, ◌∙◌, arith, ⊎_elim, inl, inr}
use mathlib.Core.Logic.{dite}
use native.Mathlib.Decide.{ℕ_discrete}
use Rattle.lock_event.specs.declared.event.Mark.{Mark}
use Rattle.lock_event.specs.declared.event.Entry.{Entry}
use Rattle.lock_event.specs.declared.event.Mark.TheVariants.{Notified}
use Rattle.lock_event.specs.declared.event.Slot.{Slot}
use Rattle.lock_event.specs.Lists.{marked_count, joined, mark_waiting, notified, left, without, with_key, mark_at}
use Rattle.lock_event.specs.Slots.{without_waker}
use Rattle.lock_event.proofs.Counts.{length-joined, marked_count-notified, marked_count-left, length-passed_on}
use Rattle.lock_event.proofs.Marks.{length-mark_waiting, marked_count-joined, marked_count-with_key}
use Rattle.lock_queue.specs.Sizes.{IsOneMore, IsOneNotified, StaysNotified, IsSameSize}

module _ {K : Type 0} where
  -- no more than n get a mark
  at_most : (mark : Mark) (n : ℕ) (es : List (Entry K)) → marked_count (mark_waiting mark n es) ≤ marked_count es + n
  at_most mark n [] = omega arith
  at_most mark n (e ∷ es) = grind (arith, at_most mark n es, at_most mark (n - 1) es)

  pub notified_size : (es : List (Entry K)) → IsOneNotified es (notified es 1)
  notified_size es = let l = length-mark_waiting Notified (1 - marked_count es) es in let m = at_most Notified (1 - marked_count es) es in
      (l, (λ some. marked_count-notified es (omega arith)), dite (ℕ_discrete (marked_count es) 0) (λ none. inr (omega arith)) (λ some. inl (omega arith)))

  pub stays_notified : (test : K → Bool) (es : List (Entry K)) → StaysNotified es (left test es)
  stays_notified test es some were = let l = length-passed_on (mark_at test es) (without test es) in marked_count-left test es (omega arith) were

  length-with_key : (test : K → Bool) (k : K) (es : List (Entry K)) → length (with_key test k es) ≡ length es
  length-with_key test k [] = refl
  length-with_key test k (e ∷ es) = grind (arith, length-with_key test k es)

  pub keyed_size : (test : K → Bool) (k : K) (es : List (Entry K)) → IsSameSize es (with_key test k es)
  keyed_size test k es = (length-with_key test k es, marked_count-with_key test k es)

  pub joined_size : (k : K) (es : List (Entry K)) → IsOneMore es (joined es k)
  joined_size k es = (length-joined es k, marked_count-joined es k)

module _ {W : Type 0} where
  marked-without_waker : (es : List (Entry (Slot W))) → marked_count (without_waker es) ≡ marked_count es
  marked-without_waker [] = refl
  marked-without_waker (e ∷ es) = grind (arith, marked-without_waker es)

  length-without_waker : (es : List (Entry (Slot W))) → length (without_waker es) ≡ length es
  length-without_waker [] = refl
  length-without_waker (e ∷ es) = grind (arith, length-without_waker es)

  -- a waker is taken out
  pub waker_size : (es : List (Entry (Slot W))) → IsSameSize es (without_waker es)
  waker_size es = (length-without_waker es, marked-without_waker es)

  pub notified_without_waker : (old es : List (Entry (Slot W))) → IsOneNotified old es → IsOneNotified old (without_waker es)
  notified_without_waker old es t = let l = length-without_waker es in let m = marked-without_waker es in let k = t.0 in (l ∙ k, (λ some. let h = t.1 (omega arith) in omega arith), ⊎_elim (λ a. inl (omega arith)) (λ b. inr (omega arith)) t.2)

  pub gone_without_waker : (old es : List (Entry (Slot W))) → StaysNotified old es → StaysNotified old (without_waker es)
  gone_without_waker old es t some were = let l = length-without_waker es in let m = marked-without_waker es in let h = t (omega arith) were in omega arith
