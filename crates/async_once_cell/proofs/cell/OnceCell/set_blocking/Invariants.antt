-- The value that is set is the one that is handed in.
use Rattle.std.proofs.Common.{Some}
use Rattle.async_once_cell.proofs.cell.OnceCell.set_blocking.Given as goal

abbrev pub ghosts-set_in : goal.ghosts-set_in
ghosts-set_in g a = record { origin = Some a.value }
