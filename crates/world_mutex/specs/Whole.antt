-- How many steps a whole call of a mutex takes.
use Rattle.std.specs.Prelude.{ℕ}
use Rattle.world_base.specs.declared.moves.Answer.{Answer}
use Rattle.world_base.specs.declared.moves.Call.{Call}
use Rattle.world_base.specs.declared.moves.Call.TheVariants as call
use Rattle.world_base.specs.declared.moves.Inputs.{Inputs}
use Rattle.world_base.specs.Ending.{EndsWithin}
use Rattle.world_base.specs.Whole as whole
use Rattle.world_mutex.specs.machine.Ranks.{steps_left}
use Rattle.world_mutex.specs.State.{World, standing_of}
use Rattle.world_mutex.specs.Runs.{RunsOn}
use Rattle.world_mutex.specs.Steps.{Steps}

-- The greatest number of steps that a call of a mutex takes if its party moves alone: 12 for a poll, 2 for a drop, 1 for any other.
abbrev pub most_steps_of : Call → ℕ
most_steps_of call.Lock = 12
most_steps_of call.Poll = 12
most_steps_of call.Drop = 2
most_steps_of _ = 1

-- The call is begun and carried out to its end, whose answer this is.
abbrev pub IsWholeCall : World → ℕ → Call → Inputs → Answer → World → Type 0
IsWholeCall = whole.IsWholeCall RunsOn standing_of most_steps_of

-- A call that is decided ends within two further steps of its own, however others step.
abbrev pub EndsSoon : World → Type 0
EndsSoon = EndsWithin Steps standing_of 2

-- How many steps are left at most of the call that a party is in.
abbrev pub steps_left_of : World → ℕ → ℕ
steps_left_of w p = steps_left w.behind.machine.lock p
