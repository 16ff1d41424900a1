-- A step of a once-cell keeps the number that its World was made with.
use Rattle.std.specs.Prelude.{◌≡◌}
use Rattle.std.proofs.Common.{ap}
use Rattle.world_base.specs.declared.moves.Answer.{Answer}
use Rattle.world_base.specs.declared.moves.Move.{Move}
use Rattle.world_once_cell.specs.State.{World, new_world, opening_of}
use Rattle.world_once_cell.specs.Legal.{Legal}

-- The opening World is the same before and after a legal step.
pub opening_kept : (old : World) (m : Move) (a : Answer) (new : World) → Legal old m a new → opening_of new ≡ opening_of old
opening_kept old m a new l = ap new_world l.one_change.parties
