use Rattle.std.proofs.Common.{rules}
use Rattle.words_cell.proofs.Allowed.{sits}
use Rattle.cell_core.proofs.cell.RawCell.sit.Goals as goal

pub load_new_seat-requires : goal.load_new_seat-requires
load_new_seat-requires g c = (search rules, sits _ _ _ _ _ _)
