-- One step of a once-cell's World: what its callers see, and what its table did behind it.
use Rattle.std.specs.Prelude.{◌≡◌, length}
use Rattle.world_base.specs.declared.moves.Answer.{Answer}
use Rattle.world_base.specs.declared.moves.Move.{Move}
use Rattle.world_base.specs.declared.standing.Rest.TheVariants.{Finished}
use Rattle.world_base.specs.table.Tables.{Table, IsTable, IsStep}
use Rattle.world_base.specs.table.Worlds.{DidOn, StepsBy}
use Rattle.world_once_cell.specs.machine.Machine.{OnceCell, IsCell, knows, Moves, Stands as StandsThere}
use Rattle.world_once_cell.specs.State.{World, HasOneTeller}
use Rattle.world_once_cell.specs.View.{view_of}
use Rattle.world_once_cell.specs.Legal.{Legal}
use Rattle.world_once_cell.specs.AtOnce.{AnswersAtOnce}

abbrev pub IsCellTable : Table OnceCell → Type 0
IsCellTable t = IsTable (λ (s : OnceCell). length s.positions) StandsThere t.machine t.stages

abbrev pub TableSteps : Table OnceCell → Move → Answer → Table OnceCell → Type 0
TableSteps = IsStep (λ (s : OnceCell) p. knows) Finished Moves

-- the World is seen as what stands behind it
pub record Stands (w : World) : Type 0 where
  pub seen : w ≡ view_of w.behind
  pub cell : IsCell w.behind.machine
  pub fits : IsCellTable w.behind
  pub one_teller : HasOneTeller w

-- what the table did
abbrev pub Did : World → Move → Answer → World → Type 0
Did = DidOn (λ (w : World). w.behind) TableSteps Stands

-- From the old World the move may be answered so, and lead to the new World: a legal step, whose immediate answers are right, and which its table did.
abbrev pub Steps : World → Move → Answer → World → Type 0
Steps = StepsBy Legal AnswersAtOnce Did
