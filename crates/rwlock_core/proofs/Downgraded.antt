-- A writer that has become a reader, and has notified: nothing else has changed for it.
use Rattle.std.proofs.Common.{◌≡◌, Bool, false, sym, ap, ◌∙◌}
use Rattle.access_core.specs.Accesses.{Seated, with_down, with_downgrade, with_ease, with_paid, with_relief}
use Rattle.access_core.specs.declared.lists.Side.TheVariants as sides

module _ (s : Seated) (readers : s.owes_readers ≡ false) where
  pub paid : with_paid sides.Readers (with_down s) ≡ with_downgrade s
  paid = ap (λ (x : Bool). record (with_downgrade s) { owes_readers = x }) (sym readers)

  -- the same, if another seat has its duty
  pub relieved : with_relief (with_down s) ≡ with_downgrade s
  relieved = paid

  pub eased : s.owes_writer ≡ false → with_ease (with_down s) ≡ with_downgrade s
  eased writer = ap (λ (y : Bool). record (with_downgrade s) { owes_readers = false; owes_writer = y }) (sym writer) ∙ paid
