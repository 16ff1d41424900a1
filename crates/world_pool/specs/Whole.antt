-- How many steps a whole call of a pool takes.
use Rattle.std.specs.Prelude.{ℕ}
use Rattle.world_base.specs.declared.moves.Answer.{Answer}
use Rattle.world_base.specs.declared.moves.Call.{Call}
use Rattle.world_base.specs.declared.moves.Call.TheVariants as call
use Rattle.world_base.specs.declared.moves.Inputs.{Inputs}
use Rattle.world_base.specs.Whole as whole
use Rattle.world_pool.specs.machine.Machine.{steps_left}
use Rattle.world_pool.specs.State.{World, standing_of}
use Rattle.world_pool.specs.Runs.{RunsOn}

-- The greatest number of steps that a call of a pool takes if its party moves alone: 20 for a take, 18 for a give, 22 for a later poll of either, 5 for a try and for a drop, 1 for any other.
abbrev pub most_steps_of : Call → ℕ
most_steps_of call.Take = 20
most_steps_of call.TryTake = 5
most_steps_of call.Give = 18
most_steps_of call.Poll = 22
most_steps_of call.Drop = 5
most_steps_of _ = 1

-- The call is begun and carried out to its end, whose answer this is.
abbrev pub IsWholeCall : World → ℕ → Call → Inputs → Answer → World → Type 0
IsWholeCall = whole.IsWholeCall RunsOn standing_of most_steps_of

-- How many steps are left at most of the call that a party is in.
abbrev pub steps_left_of : World → ℕ → ℕ
steps_left_of w p = steps_left w.behind.machine p
