-- One seat never writes while another reads.
use Rattle.std.proofs.Common.{◌≡◌, ℕ, true, false, sym, ap, ◌∙◌, arith}
use Rattle.atomic_table.specs.Table.{Me, Joins, Allows}
use Rattle.atomic_table.proofs.Lists.{set_else}
use Rattle.words_base.specs.Sums.{weight}
use Rattle.words_base.specs.Lists.{Listed}
use Rattle.words_access.specs.Rule.{Ruled}
use Rattle.words_access.specs.Seats.{both_of}
use Rattle.words_access.specs.declared.view.View.{View}
use Rattle.words_access.proofs.Flags.{never}
use Rattle.words_access.proofs.Keeps.{alone_with}

module _ (S : Type 0) (readers_of writer_of : S → Listed) where
  -- they are no two seats of one table, so they may be joined as anything
  pub shut_out : (id : ℕ) (v : View) (other : ℕ) (w spent : View) → v.writes ≡ true → w.reads ≡ true → Joins (Ruled readers_of writer_of) id v other w (both_of v w) spent
  shut_out id v other w spent writes reads s r at apart them =
      let there = sym (set_else s.views id other (both_of v w) apart) ∙ them in
      let alone = alone_with S readers_of writer_of s r id other v w (λ e. apart (sym e)) at there writes in never (sym alone.0 ∙ reads)

  -- a seat that writes and has not set the bit makes no step: it has none of the views that the rule allows
  pub no_step : (slots id : ℕ) (me : Me S View) → me.0.writes ≡ true → me.0.marks ≡ false → Allows (Ruled readers_of writer_of) slots id me 0 (λ n. n) (λ _ _. ⊥)
  no_step slots id me writes clear s r _ at _ =
      let below = (r.nested id me.0 at).0 in let one : weight me.0.writes ≡ 1 = ap weight writes in let none : weight me.0.marks ≡ 0 = ap weight clear in absurd (omega arith)
