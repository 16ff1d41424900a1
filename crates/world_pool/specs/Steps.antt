-- One step of a pool's World: what its callers see, and what its table did behind it.
use Rattle.std.specs.Prelude.{length}
use Rattle.world_base.specs.declared.moves.Answer.{Answer}
use Rattle.world_base.specs.declared.moves.Move.{Move}
use Rattle.world_base.specs.declared.standing.Rest.TheVariants.{Holding}
use Rattle.world_base.specs.table.Tables.{Table, IsTable, IsStep}
use Rattle.world_base.specs.table.Worlds.{StandsOn, DidOn, StepsBy}
use Rattle.world_pool.specs.machine.Machine.{Pool, IsPool, knows, Moves, Stands as StandsThere}
use Rattle.world_pool.specs.State.{World}
use Rattle.world_pool.specs.View.{view_of}
use Rattle.world_pool.specs.Legal.{Legal}
use Rattle.world_pool.specs.AtOnce.{AnswersAtOnce}

abbrev pub IsPoolTable : Table Pool → Type 0
IsPoolTable t = IsTable (λ (s : Pool). length s.positions) StandsThere t.machine t.stages

abbrev pub TableSteps : Table Pool → Move → Answer → Table Pool → Type 0
TableSteps = IsStep (λ (s : Pool) p. knows) Holding Moves

-- the World is seen as what stands behind it
abbrev pub Stands : World → Type 0
Stands = StandsOn (λ (w : World). w.behind) view_of IsPool IsPoolTable

-- what the table did
abbrev pub Did : World → Move → Answer → World → Type 0
Did = DidOn (λ (w : World). w.behind) TableSteps Stands

-- From the old World the move may be answered so, and lead to the new World: a legal step, whose immediate answers are right, and which its table did.
abbrev pub Steps : World → Move → Answer → World → Type 0
Steps = StepsBy Legal AnswersAtOnce Did
