-- How many steps a whole call of a read-write lock takes.
use Rattle.std.specs.Prelude.{ℕ}
use Rattle.world_base.specs.declared.moves.Answer.{Answer}
use Rattle.world_base.specs.declared.moves.Call.{Call}
use Rattle.world_base.specs.declared.moves.Inputs.{Inputs}
use Rattle.world_base.specs.Ending.{EndsWithin}
use Rattle.world_base.specs.Whole as whole
use Rattle.world_rwlock.specs.machine.Ranks.{steps_left, most_steps}
use Rattle.world_rwlock.specs.State.{World, standing_of}
use Rattle.world_rwlock.specs.Runs.{RunsOn}
use Rattle.world_rwlock.specs.Steps.{Steps}

-- The greatest number of steps that a call of a read-write lock takes if its party moves alone: 4 for a read, 15 for an upgradable read, 18 for a write and for a later poll, 4 for a try that takes the turn, 5 for a drop, 4 for a downgrade, 2 for one to an upgradable read, 1 for any other.
abbrev pub most_steps_of : Call → ℕ
most_steps_of = most_steps

-- The call is begun and carried out to its end, whose answer this is.
abbrev pub IsWholeCall : World → ℕ → Call → Inputs → Answer → World → Type 0
IsWholeCall = whole.IsWholeCall RunsOn standing_of most_steps_of

-- A call that is decided ends within four further steps of its own, however others step.
abbrev pub EndsSoon : World → Type 0
EndsSoon = EndsWithin Steps standing_of 4

-- How many steps are left at most of the call that a party is in.
abbrev pub steps_left_of : World → ℕ → ℕ
steps_left_of w p = steps_left w.behind.machine.lock p
