-- How many steps a whole call of a once-cell takes.
use Rattle.std.specs.Prelude.{ℕ}
use Rattle.world_base.specs.declared.moves.Answer.{Answer}
use Rattle.world_base.specs.declared.moves.Call.{Call}
use Rattle.world_base.specs.declared.moves.Call.TheVariants as call
use Rattle.world_base.specs.declared.moves.Inputs.{Inputs}
use Rattle.world_base.specs.Ending.{EndsWithin}
use Rattle.world_base.specs.Whole as whole
use Rattle.world_once_cell.specs.machine.Ranks.{steps_left}
use Rattle.world_once_cell.specs.State.{World, standing_of}
use Rattle.world_once_cell.specs.Runs.{RunsOn}
use Rattle.world_once_cell.specs.Steps.{Steps}

-- The greatest number of steps that a call of a cell takes if its party moves alone: 8 for a first poll of an initialisation or a set, 4 for one of a wait, 9 for a later poll, 4 for a try, 2 for a drop, 1 for any other.
abbrev pub most_steps_of : Call → ℕ
most_steps_of call.Initialize = 8
most_steps_of (call.Set v) = 8
most_steps_of call.Wait = 4
most_steps_of call.Poll = 9
most_steps_of (call.TrySet v) = 4
most_steps_of call.Drop = 2
most_steps_of _ = 1

-- The call is begun and carried out to its end, whose answer this is.
abbrev pub IsWholeCall : World → ℕ → Call → Inputs → Answer → World → Type 0
IsWholeCall = whole.IsWholeCall RunsOn standing_of most_steps_of

-- A call that is decided ends within three further steps of its own, however others step.
abbrev pub EndsSoon : World → Type 0
EndsSoon = EndsWithin Steps standing_of 3

-- How many steps are left at most of the call that a party is in.
abbrev pub steps_left_of : World → ℕ → ℕ
steps_left_of w p = steps_left w.behind.machine p
