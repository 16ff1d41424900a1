-- What the rule says of who waits for a generation.
use Rattle.std.proofs.Common.{◌≡◌, sym, ◌∙◌, subst, ⊎_elim}
use Rattle.atomic_table.specs.Table.{State}
use Rattle.words_base.specs.Sums.{number}
use Rattle.words_base.specs.Lists.{Listed}
use Rattle.words_base.specs.Waiting.{AreOf, Matched}
use Rattle.words_barrier.specs.Rule.{has_list_out, Ruled, IsEntryOf, LosesNone}
use Rattle.words_barrier.specs.Laws.{finished, IsListHome, Lies, IsOfThis, IsAtRest}
use Rattle.words_barrier.specs.declared.view.View.{View}
use Rattle.words_barrier.proofs.Flags.{never, number-no}

module _ {S : Type 0} (listed_of : S → Listed) (s : State S View) (r : Ruled listed_of s) where
  at_home : number has_list_out s.views ≡ 0 → (list : S) × Lies s list × LosesNone (finished s) (listed_of list).waiting s.views
  at_home out = let h = r.home out in (h.0, h.1, subst (λ (l : Listed). LosesNone (finished s) l.waiting s.views) (sym h.2) r.wakes)

  pub running : IsListHome s → (list : S) × Lies s list × LosesNone (finished s) (listed_of list).waiting s.views
  running even = at_home (sym r.list_word.1 ∙ even)

  pub at_rest : IsAtRest s → (list : S) × Lies s list × AreOf (IsOfThis s) (listed_of list).waiting s.views
  at_rest rest = let h = at_home (number-no has_list_out s.views (λ i v e. (rest i v e).2)) in (
    h.0,
    h.1,
    ⊎_elim (λ c. never (sym ((rest c.0 c.1 c.2).0) ∙ c.3))
        (λ all. λ n t. let c = all n t in (c.0, c.1, c.2, (c.3.0, c.3.1, ⊎_elim (λ f. never (sym ((rest c.0 c.1 c.2).1) ∙ f)) (λ e. e) c.3.2))) h.2,
  )

  pub standing : IsListHome s → (list : S) × Lies s list × Matched IsEntryOf (listed_of list).entries s.views
  standing even = let h = r.home (sym r.list_word.1 ∙ even) in (h.0, h.1, subst (λ (l : Listed). Matched IsEntryOf l.entries s.views) (sym h.2) r.matched)
