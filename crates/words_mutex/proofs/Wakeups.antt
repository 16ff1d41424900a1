-- What the rule says of a free lock.
use Rattle.std.proofs.Common.{◌≡◌, ℕ, ◌+◌, ◌<◌, ◌≤◌, List, length, sym, ap, subst, ◌∙◌, arith, ◌⊎◌, inl, inr, ⊎_elim}
use mathlib.Core.Logic.{dite}
use native.Mathlib.Decide.{ℕ_discrete}
use Rattle.atomic_table.specs.Table.{State}
use Rattle.lock_place.specs.Held.{RoomId}
use Rattle.words_base.specs.Sums.{number}
use Rattle.words_base.specs.Waiting.{Matched}
use Rattle.words_mutex.specs.Rule.{is_holder, is_owing, is_fresh, has_list_out, IsEntryOf, Ruled}
use Rattle.words_mutex.specs.Laws.{IsFree, IsListHome, Lies, SomeOwes, ManyAreToLook, IsAtRest}
use Rattle.words_mutex.specs.declared.view.View.{View}
use Rattle.words_mutex.proofs.Flags.{number-some, number-no}

module _ {S : Type 0} (entries_of : S → List ℕ) (marked_of : S → ℕ) (is_right : RoomId → ℕ → S → Type 0) (room : RoomId) (deed : ℕ) (s : State S View) (r : Ruled entries_of marked_of is_right room deed s) where
  pub standing : IsListHome s → (list : S) × Lies s list × Matched IsEntryOf (entries_of list) s.views
  standing even = let h = r.home (sym r.list_word.2 ∙ even) in (h.0, h.1, subst (λ es. Matched IsEntryOf es s.views) (sym h.2) r.matched)

module _ {S : Type 0} (entries_of : S → List ℕ) (marked_of : S → ℕ) (is_right : RoomId → ℕ → S → Type 0) (room : RoomId) (deed : ℕ) (s : State S View) (r : Ruled entries_of marked_of is_right room deed s) (is_free : IsFree s) where
  abbrev len_of : S → ℕ
  len_of list = length (entries_of list)

  nobody : number is_holder s.views ≡ 0
  nobody = let one = r.word.1 in let is = r.word.3 in omega arith

  owing : (marked : ℕ) → marked ≡ r.marked → 1 ≤ r.marked + (number is_holder s.views + number is_owing s.views) → (0 < marked) ⊎ SomeOwes s
  owing marked m many = let none = nobody in dite (ℕ_discrete (number is_owing s.views) 0) (λ idle. inl (omega arith)) (λ ne. inr (number-some is_owing s.views (omega arith)))

  pub running : IsListHome s → (list : S) × Lies s list × ((0 < marked_of list) ⊎ (SomeOwes s ⊎ ManyAreToLook s (len_of list)))
  running even = let h = r.home (sym r.list_word.2 ∙ even) in (
    h.0,
    h.1,
    ⊎_elim (λ a. ⊎_elim (λ m. inl m) (λ o. inr (inl o)) (owing (marked_of h.0) h.3 a)) (λ b. inr (inr (let l : len_of h.0 ≡ length r.entries = ap length h.2 in omega arith))) r.wakes,
  )

  pub at_rest : IsAtRest s → (list : S) × Lies s list × (0 < len_of list → 0 < marked_of list)
  at_rest rest =
      let out = number-no has_list_out s.views (λ i v e. (rest i v e).2) in let h = r.home out in let none = nobody in
      let idle = number-no is_owing s.views (λ i v e. (rest i v e).0) in let seen = number-no is_fresh s.views (λ i v e. (rest i v e).1) in
      (h.0, h.1, λ listed. let l : len_of h.0 ≡ length r.entries = ap length h.2 in let m = h.3 in ⊎_elim (λ a. omega arith) (λ b. absurd (omega arith)) r.wakes)
