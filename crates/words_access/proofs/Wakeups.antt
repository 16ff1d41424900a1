-- What the rule says of the lists, and of who is inside.
use Rattle.std.proofs.Common.{◌≡◌, sym, refl, ◌∙◌, subst, arith, inl, inr, ⊎_elim}
use Rattle.atomic_table.specs.Table.{State}
use Rattle.words_base.specs.Sums.{weight, number}
use Rattle.words_base.specs.Waiting.{Matched}
use Rattle.words_base.proofs.Sums.{number-at}
use Rattle.words_base.specs.Lists.{Listed, IsSettled}
use Rattle.words_access.specs.Rule.{has_lists_out, marks_of, Ruled, IsEntryOfReaders, IsEntryOfWriter, IsFreshReader, IsFreshWriter, OwesReaders, TellsWriter, LosesNone}
use Rattle.words_access.specs.Laws.{IsBitClear, AreReadersGone, NobodyWrites, AreListsHome, Lie, IsAtRest, NobodyWaitsToWrite, OwesWriter}
use Rattle.words_access.specs.declared.view.View.{View}
use Rattle.words_access.proofs.Flags.{never, number-no, off}

module _ {S : Type 0} (readers_of writer_of : S → Listed) (s : State S View) (r : Ruled readers_of writer_of s) where
  module _ (out : number has_lists_out s.views ≡ 0) where
    readers_home : IsBitClear s → (lists : S) × Lie s lists × LosesNone OwesReaders IsFreshReader (readers_of lists) s.views
    readers_home is = let h = r.home out in (h.0, h.1, subst (λ l. LosesNone OwesReaders IsFreshReader l s.views) (sym h.2) (r.clear is))

    owing : (list : Listed) → NobodyWrites s → LosesNone TellsWriter IsFreshWriter list s.views → LosesNone OwesWriter IsFreshWriter list s.views
    owing list none l = ⊎_elim (λ m. inl m) (λ b. inr (⊎_elim (λ c. inl (c.0, c.1, c.2, ⊎_elim (λ o. o) (λ w. never (sym (none c.0 c.1 c.2) ∙ w)) c.3)) (λ all. inr all) b)) l

    writer_home : AreReadersGone s → NobodyWrites s → (lists : S) × Lie s lists × LosesNone OwesWriter IsFreshWriter (writer_of lists) s.views
    writer_home is none = let h = r.home out in (h.0, h.1, owing (writer_of h.0) none (subst (λ l. LosesNone TellsWriter IsFreshWriter l s.views) (sym h.3) (r.left is)))

  pub standing : AreListsHome s → (lists : S) × Lie s lists × Matched IsEntryOfReaders (readers_of lists).entries s.views × Matched IsEntryOfWriter (writer_of lists).entries s.views
  standing even = let h = r.home (sym r.list_word.1 ∙ even) in (
    h.0,
    h.1,
    subst (λ (l : Listed). Matched IsEntryOfReaders l.entries s.views) (sym h.2) r.readers_match,
    subst (λ (l : Listed). Matched IsEntryOfWriter l.entries s.views) (sym h.3) r.writer_matches,
  )

  pub readers : IsBitClear s → AreListsHome s → (lists : S) × Lie s lists × LosesNone OwesReaders IsFreshReader (readers_of lists) s.views
  readers is even = readers_home (sym r.list_word.1 ∙ even) is

  pub writer : AreReadersGone s → NobodyWrites s → AreListsHome s → (lists : S) × Lie s lists × LosesNone OwesWriter IsFreshWriter (writer_of lists) s.views
  writer is none even = writer_home (sym r.list_word.1 ∙ even) is none

  pub nobody_else : IsBitClear s → NobodyWaitsToWrite s
  nobody_else is i v e = let m = number-at marks_of s.views i v e in let m0 : weight (marks_of v) ≡ weight v.marks = refl in let word = r.state.word in let one = r.state.one_marks in let n = (r.nested i v e).1 in off v.in_writer (omega arith)

  module _ (rest : IsAtRest s) where
    nobody_out : number has_lists_out s.views ≡ 0
    nobody_out = number-no has_lists_out s.views (λ i v e. (rest i v e).3)

    pub readers_at_rest : IsBitClear s → (lists : S) × Lie s lists × IsSettled (readers_of lists)
    readers_at_rest is = let h = readers_home nobody_out is in (
      h.0,
      h.1,
      ⊎_elim (λ m. inl m) (λ b. ⊎_elim (λ c. never (sym ((rest c.0 c.1 c.2).0) ∙ c.3)) (λ all. inr (λ n k. let c = all n k in never (sym ((rest c.0 c.1 c.2).2) ∙ c.3.0))) b) h.2,
    )

    pub writer_at_rest : AreReadersGone s → NobodyWrites s → (lists : S) × Lie s lists × IsSettled (writer_of lists)
    writer_at_rest is none = let h = writer_home nobody_out is none in (
      h.0,
      h.1,
      ⊎_elim (λ m. inl m) (λ b. ⊎_elim (λ c. never (sym ((rest c.0 c.1 c.2).1) ∙ c.3)) (λ all. inr (λ n k. let c = all n k in never (sym ((rest c.0 c.1 c.2).2) ∙ c.3.0))) b) h.2,
    )
