-- What holds of a call for the turn between whose steps others step: nobody is counted as starved for nothing.
use Rattle.world_base.specs.Patience as base
use Rattle.world_rwlock.specs.State.{World, standing_of}
use Rattle.world_rwlock.specs.Steps.{Steps}

-- Who hasn't waited for too long, and meets nobody that is starved for the turn where it steps, isn't counted as starved, nor refused as one too many of them.
abbrev pub StarvesForCause : World → Type 0
StarvesForCause = base.StarvesForCause Steps standing_of (λ w. w.state.starved)
