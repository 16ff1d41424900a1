-- One step of a read-write lock's World: what its callers see, and what its table did behind it.
use Rattle.world_base.specs.declared.moves.Answer.{Answer}
use Rattle.world_base.specs.declared.moves.Move.{Move}
use Rattle.world_base.specs.declared.standing.Rest.TheVariants.{Holding}
use Rattle.world_base.specs.table.Tables.{Table, IsTable, IsStep}
use Rattle.world_base.specs.table.Worlds.{StandsOn, DidOn, StepsBy}
use Rattle.world_rwlock.specs.machine.Acts.{IsRwLock}
use Rattle.world_rwlock.specs.Guarded.{Guarded, parties, knows, Stands as StandsThere, Moves}
use Rattle.world_rwlock.specs.State.{World}
use Rattle.world_rwlock.specs.View.{view_of}
use Rattle.world_rwlock.specs.Legal.{Legal, AnswersAtOnce}

abbrev pub IsRwLockTable : Table Guarded → Type 0
IsRwLockTable t = IsTable parties StandsThere t.machine t.stages

abbrev pub TableSteps : Table Guarded → Move → Answer → Table Guarded → Type 0
TableSteps = IsStep knows Holding Moves

-- the World is seen as what stands behind it
abbrev pub Stands : World → Type 0
Stands = StandsOn (λ (w : World). w.behind) view_of (λ (g : Guarded). IsRwLock g.lock) IsRwLockTable

-- what the table did
abbrev pub Did : World → Move → Answer → World → Type 0
Did = DidOn (λ (w : World). w.behind) TableSteps Stands

-- From the old World the move may be answered so, and lead to the new World: a legal step, whose immediate answers are right, and which its table did.
abbrev pub Steps : World → Move → Answer → World → Type 0
Steps = StepsBy Legal AnswersAtOnce Did
