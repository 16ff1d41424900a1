-- What the rule says of who waits.
use Rattle.std.proofs.Common.{◌≡◌, ℕ, ◌<◌, ◌≤◌, true, List, sym, ◌∙◌, subst, arith, ◌⊎◌, inl, inr, ⊎_elim}
use Rattle.atomic_table.specs.Table.{State}
use Rattle.words_mutex.proofs.Flags.{never, number-no}
use Rattle.words_base.specs.Waiting.{Matched}
use Rattle.words_permits.specs.Rule.{has_list_out, SomeSeat, IsFreshIn, IsNumberOf, AreOfSeats, Ruled}
use Rattle.words_permits.specs.Laws.{available, IsListHome, Lies, IsAtRest}
use Rattle.words_permits.specs.Waiters.{Waiter, StandsIn, numbers}
use Rattle.words_permits.specs.declared.view.View.{View}

module _ {S : Type 0} (waiters_of : S → List Waiter) (marked_of : S → ℕ) (start : ℕ) (s : State S View) (r : Ruled waiters_of marked_of start s) where
  pub running : IsListHome s → (list : S) × Lies s list × ((0 < marked_of list) ⊎ (SomeSeat s.views (λ v. v.owes ≡ true) ⊎ ((w : Waiter) → StandsIn (waiters_of list) w → w.weight ≤ available s → SomeSeat s.views (IsFreshIn w))))
  running even = let h = r.home (sym r.is_out ∙ even) in (
    h.0,
    h.1,
    ⊎_elim (λ m. inl (let k = h.3 in omega arith))
        (λ more. inr (⊎_elim (λ o. inl (o.0, o.1, o.2, o.3.0)) (λ each. inr (λ w stands few. each w (subst (λ (l : List Waiter). StandsIn l w) h.2 stands) few)) more)) r.wakes,
  )

  pub at_rest : IsAtRest s → (list : S) × Lies s list × ((w : Waiter) → StandsIn (waiters_of list) w → w.weight ≤ available s → 0 < marked_of list)
  at_rest rest =
      let out = number-no has_list_out s.views (λ i v e. (rest i v e).2) in let h = r.home out in (
        h.0,
        h.1,
        λ w stands few. ⊎_elim (λ m. let k = h.3 in omega arith)
            (λ more. ⊎_elim (λ o. never (sym (rest o.0 o.1 o.2).0 ∙ o.3.0))
            (λ each. let o = each w (subst (λ (l : List Waiter). StandsIn l w) h.2 stands) few in never (sym (rest o.0 o.1 o.2).1 ∙ o.3.1)) more) r.wakes,
      )

  pub standing : IsListHome s → (list : S) × Lies s list × AreOfSeats s.views (waiters_of list) × Matched IsNumberOf (numbers (waiters_of list)) s.views
  standing even = let h = r.home (sym r.is_out ∙ even) in (h.0, h.1, subst (AreOfSeats s.views) (sym h.2) r.standing, subst (λ (l : List Waiter). Matched IsNumberOf (numbers l) s.views) (sym h.2) r.matched)
