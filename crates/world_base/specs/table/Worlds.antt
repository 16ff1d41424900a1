-- One step of a World over a table: what its callers see, and what the table did behind it. All Worlds share this.
use Rattle.std.specs.Prelude.{◌≡◌}
use Rattle.world_base.specs.declared.moves.Answer.{Answer}
use Rattle.world_base.specs.declared.moves.Move.{Move}
use Rattle.world_base.specs.table.Tables.{Table}

-- The World is seen as what stands behind it: a machine under its laws, in whose table each party may stand where it does.
pub record StandsOn {W M : Type 0} (behind : W → Table M) (view_of : Table M → W) (IsLawful : M → Type 0) (Fits : Table M → Type 0) (w : W) : Type 0 where
  pub seen : w ≡ view_of (behind w)
  pub laws : IsLawful (behind w).machine
  pub fits : Fits (behind w)

-- What the table did, between Worlds that stand.
pub record DidOn {W M : Type 0} (behind : W → Table M) (TableSteps : Table M → Move → Answer → Table M → Type 0) (Stands : W → Type 0) (old : W) (m : Move) (a : Answer) (new : W) : Type 0 where
  pub stood : Stands old
  pub step : TableSteps (behind old) m a (behind new)
  pub stands : Stands new

-- From the old World the move may be answered so, and lead to the new World: a legal step, whose immediate answers are right, and which its table did.
pub record StepsBy {W : Type 0} (Legal AnswersAtOnce Did : W → Move → Answer → W → Type 0) (old : W) (m : Move) (a : Answer) (new : W) : Type 0 where
  pub legal : Legal old m a new
  pub at_once : AnswersAtOnce old m a new
  pub did : Did old m a new
