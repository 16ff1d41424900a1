-- How often a party that is starved for the turn may be overtaken while it waits in its list: by whole calls of others, one after the other, and by their steps as they come.
use Rattle.std.specs.Prelude.{ℕ}
use Rattle.world_base.specs.Overtaking as base
use Rattle.world_rwlock.specs.State.{World, HasTurn, is_starved}
use Rattle.world_rwlock.specs.Steps.{Steps}
use Rattle.world_rwlock.specs.Whole.{IsWholeCall}

abbrev pub HasItsTurn : World → ℕ → Type 0
HasItsTurn w p = HasTurn w.state.turn p

-- No more of their calls get the turn than entries stood before its own, until it moves itself.
abbrev pub IsOvertakenSeldom : World → Type 0
IsOvertakenSeldom = base.IsOvertakenSeldom IsWholeCall (λ w. w.turn_list) is_starved HasItsTurn

-- However the others step, no more of them get the turn than entries stood before its own and parties were inside calls, until it moves itself.
abbrev pub IsOvertakenSeldomInSteps : World → Type 0
IsOvertakenSeldomInSteps = base.IsOvertakenSeldomInSteps Steps (λ w. w.turn_list) is_starved HasItsTurn (λ w. w.standings)
