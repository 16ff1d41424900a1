-- How often a starved party of a mutex may be overtaken while it waits in the list: by whole calls of others, one after the other, and by their steps as they come.
use Rattle.std.specs.Prelude.{◌≡◌, ℕ, Bool, Some}
use Rattle.world_base.specs.Overtaking as base
use Rattle.world_mutex.specs.State.{World, is_starved}
use Rattle.world_mutex.specs.Steps.{Steps}
use Rattle.world_mutex.specs.Whole.{IsWholeCall}

abbrev pub starved_in : World → ℕ → Bool
starved_in w q = is_starved w.state q

abbrev pub Holds : World → ℕ → Type 0
Holds w p = w.state.holder ≡ Some p

-- No more of their calls get the lock than entries stood before its own, until it moves itself.
abbrev pub IsOvertakenSeldom : World → Type 0
IsOvertakenSeldom = base.IsOvertakenSeldom IsWholeCall (λ w. w.entries) starved_in Holds

-- However the others step, no more of them get the lock than entries stood before its own and parties were inside calls, until it moves itself.
abbrev pub IsOvertakenSeldomInSteps : World → Type 0
IsOvertakenSeldomInSteps = base.IsOvertakenSeldomInSteps Steps (λ w. w.entries) starved_in Holds (λ w. w.standings)
