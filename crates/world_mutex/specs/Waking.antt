-- What holds of a poll between whose steps others step: waiting parties don't wake one another over and over, and nobody is counted as starved for nothing.
use Rattle.std.specs.Prelude.{◌≡◌, ℕ, ◌<◌, ◌⊎◌, true, false, Some}
use Rattle.lock_event.specs.Lists.{marked_count}
use Rattle.lock_program.specs.declared.refusal.Refusal.TheVariants.{Starved}
use Rattle.world_base.specs.declared.moves.Answer.{Answer}
use Rattle.world_base.specs.declared.moves.Inputs.{Inputs}
use Rattle.world_base.specs.declared.moves.Move.{Move}
use Rattle.world_base.specs.Ending.{GoesOnFor}
use Rattle.world_base.specs.Patience as base
use Rattle.world_base.specs.Standings.{IsUndecided, decision, refused}
use Rattle.world_base.specs.Whole.{going_on}
use Rattle.world_mutex.specs.State.{World, standing_of, is_starved}
use Rattle.world_mutex.specs.Steps.{Steps}

-- A step of a party whose poll isn't decided, and that isn't starved, by which one entry more is marked.
pub record Wakes (w : World) (m : Move) (a : Answer) (v : World) : Type 0 where
  pub step : Steps w m a v
  pub undecided : IsUndecided (standing_of w m.party)
  pub unstarved : is_starved w.state m.party ≡ false
  pub wakes : marked_count w.entries < marked_count v.entries

-- Whatever others do then, by its next step such a party is counted as starved, or to be refused as one too many of those.
abbrev pub CountsWhoWakes : World → Type 0
CountsWhoWakes w = (m : Move) (a : Answer) (v : World) → Wakes w m a v → (steps : ℕ) (u : World) → GoesOnFor Steps standing_of m.party steps 0 v u
    → (inputs : Inputs) (b : Answer) (x : World) → Steps u (going_on m.party inputs) b x → (is_starved x.state m.party ≡ true) ⊎ (decision b (standing_of x m.party) ≡ Some (refused Starved))

-- Who hasn't waited for too long, and meets nobody that is starved where it steps, isn't counted as starved, nor refused as one too many of them.
abbrev pub StarvesForCause : World → Type 0
StarvesForCause = base.StarvesForCause Steps standing_of (λ w. w.state.starved)
