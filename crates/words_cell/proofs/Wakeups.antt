-- What the rule says of an empty and of a full cell.
use Rattle.std.proofs.Common.{◌≡◌, ℕ, ◌<◌, Bool, List, sym, ◌∙◌, subst, ◌⊎◌, inl, inr, ⊎_elim}
use Rattle.atomic_table.specs.Table.{State}
use Rattle.words_base.specs.Sums.{number}
use Rattle.words_base.specs.Lists.{Listed}
use Rattle.words_base.specs.Waiting.{NoneWaits, AreOf, Matched}
use Rattle.words_cell.specs.Rule.{has_lists_out, Ruled, IsActiveEntryOf, IsPassiveEntryOf, IsFreshActive, IsFreshPassive, LosesNoneEmpty, LosesNoneFull}
use Rattle.words_cell.specs.Laws.{IsEmpty, IsFull, AreListsHome, Lie, IsAtRest}
use Rattle.words_cell.specs.declared.view.View.{View}
use Rattle.words_cell.proofs.Flags.{never, number-no}

module _ {S : Type 0} (active_of passive_of : S → Listed) (start : Bool) (s : State S View) (r : Ruled active_of passive_of start s) where
  module _ (out : number has_lists_out s.views ≡ 0) where
    empty_home : IsEmpty s → (lists : S) × Lie s lists × LosesNoneEmpty (active_of lists) s.views
    empty_home is = let h = r.home out in (h.0, h.1, subst (λ l. LosesNoneEmpty l s.views) (sym h.2) (r.empty is))

    full_home : IsFull s → (lists : S) × Lie s lists × LosesNoneFull (active_of lists) (passive_of lists) s.views
    full_home is = let h = r.home out in (h.0, h.1, subst (λ l. LosesNoneFull l (passive_of h.0) s.views) (sym h.2) (subst (λ l. LosesNoneFull r.active l s.views) (sym h.3) (r.filled is)))

  pub standing : AreListsHome s → (lists : S) × Lie s lists × Matched IsActiveEntryOf (active_of lists).entries s.views × Matched IsPassiveEntryOf (passive_of lists).entries s.views
  standing even = let h = r.home (sym r.list_word.1 ∙ even) in (
    h.0,
    h.1,
    subst (λ (l : Listed). Matched IsActiveEntryOf l.entries s.views) (sym h.2) r.active_match,
    subst (λ (l : Listed). Matched IsPassiveEntryOf l.entries s.views) (sym h.3) r.passive_match,
  )

  pub empty : IsEmpty s → AreListsHome s → (lists : S) × Lie s lists × LosesNoneEmpty (active_of lists) s.views
  empty is even = empty_home (sym r.list_word.1 ∙ even) is

  pub full : IsFull s → AreListsHome s → (lists : S) × Lie s lists × LosesNoneFull (active_of lists) (passive_of lists) s.views
  full is even = full_home (sym r.list_word.1 ∙ even) is

  module _ (rest : IsAtRest s) where
    nobody_out : number has_lists_out s.views ≡ 0
    nobody_out = number-no has_lists_out s.views (λ i v e. (rest i v e).4)

    none-active : (waiting : List ℕ) → AreOf IsFreshActive waiting s.views → NoneWaits waiting
    none-active waiting all n h = let c = all n h in never (sym ((rest c.0 c.1 c.2).3) ∙ c.3.0)

    none-passive : (waiting : List ℕ) → AreOf IsFreshPassive waiting s.views → NoneWaits waiting
    none-passive waiting all n h = let c = all n h in never (sym ((rest c.0 c.1 c.2).3) ∙ c.3.0)

    pub empty_at_rest : IsEmpty s → (lists : S) × Lie s lists × ((0 < (active_of lists).notified) ⊎ NoneWaits (active_of lists).waiting)
    empty_at_rest is = let h = empty_home nobody_out is in (
      h.0,
      h.1,
      ⊎_elim (λ m. inl m)
          (λ b. ⊎_elim (λ c. ⊎_elim (λ o. never (sym ((rest c.0 c.1 c.2).0) ∙ o)) (λ o. never (sym ((rest c.0 c.1 c.2).1) ∙ o)) c.3) (λ all. inr (none-active (active_of h.0).waiting all)) b) h.2,
    )

    pub full_at_rest : IsFull s → (lists : S) × Lie s lists × NoneWaits (active_of lists).waiting × NoneWaits (passive_of lists).waiting
    full_at_rest is = let h = full_home nobody_out is in (
      h.0,
      h.1,
      ⊎_elim (λ c. never (sym ((rest c.0 c.1 c.2).1) ∙ c.3)) (λ all. none-active (active_of h.0).waiting all) (h.2).0,
      ⊎_elim (λ c. never (sym ((rest c.0 c.1 c.2).2) ∙ c.3)) (λ all. none-passive (passive_of h.0).waiting all) (h.2).1,
    )
