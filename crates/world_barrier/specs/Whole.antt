-- How many steps a whole call of a barrier takes.
use Rattle.std.specs.Prelude.{ℕ}
use Rattle.world_base.specs.declared.moves.Answer.{Answer}
use Rattle.world_base.specs.declared.moves.Call.{Call}
use Rattle.world_base.specs.declared.moves.Call.TheVariants as call
use Rattle.world_base.specs.declared.moves.Inputs.{Inputs}
use Rattle.world_base.specs.Ending.{EndsWithin}
use Rattle.world_base.specs.Whole as whole
use Rattle.world_barrier.specs.machine.Machine.{steps_left}
use Rattle.world_barrier.specs.State.{World, standing_of}
use Rattle.world_barrier.specs.Runs.{RunsOn}
use Rattle.world_barrier.specs.Steps.{Steps}

-- The greatest number of steps that a call of a barrier takes if its party moves alone: 18 for a poll, 2 for a drop, 1 for any other.
abbrev pub most_steps_of : Call → ℕ
most_steps_of call.Wait = 18
most_steps_of call.Poll = 18
most_steps_of call.Drop = 2
most_steps_of _ = 1

-- The call is begun and carried out to its end, whose answer this is.
abbrev pub IsWholeCall : World → ℕ → Call → Inputs → Answer → World → Type 0
IsWholeCall = whole.IsWholeCall RunsOn standing_of most_steps_of

-- A call that is decided ends within three further steps of its own, however others step.
abbrev pub EndsSoon : World → Type 0
EndsSoon = EndsWithin Steps standing_of 3

-- How many steps are left at most of the call that a party is in.
abbrev pub steps_left_of : World → ℕ → ℕ
steps_left_of w p = steps_left w.behind.machine p
