-- How often a party that is starved for the inner lock may be overtaken while it waits in its list: by steps of others as they come.
use Rattle.std.specs.Prelude.{◌≡◌, ℕ, Bool, Some}
use Rattle.world_base.specs.Overtaking as base
use Rattle.world_barrier.specs.State.{World, is_starved}
use Rattle.world_barrier.specs.Steps.{Steps}

abbrev pub starved_in : World → ℕ → Bool
starved_in w q = is_starved w.lock q

abbrev pub HoldsLock : World → ℕ → Type 0
HoldsLock w p = w.lock.holder ≡ Some p

-- However the others step, no more of them get the inner lock than entries stood before its own and parties were inside calls, until it moves itself.
abbrev pub IsOvertakenSeldomInSteps : World → Type 0
IsOvertakenSeldomInSteps = base.IsOvertakenSeldomInSteps Steps (λ w. w.lock_list) starved_in HoldsLock (λ w. w.standings)
