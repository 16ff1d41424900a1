-- A table of parties over a machine, and what one move does to it.
use Rattle.std.specs.Prelude.{◌≡◌, ◌≢◌, ℕ, ◌<◌, Bool, true, false, List, length, Option, Some, None, slice_set, replicate}
use Rattle.world_base.specs.declared.moves.Answer.{Answer}
use Rattle.world_base.specs.declared.moves.Answer.TheVariants.{NotPossible}
use Rattle.world_base.specs.declared.moves.Call.{Call}
use Rattle.world_base.specs.declared.moves.Move.{Move}
use Rattle.world_base.specs.declared.moves.What.{What}
use Rattle.lock_program.specs.declared.refusal.Refusal.TheVariants as refusal
use Rattle.world_base.specs.declared.standing.Rest.{Rest}
use Rattle.world_base.specs.declared.standing.Rest.TheVariants.{Idle}
use Rattle.world_base.specs.declared.standing.Stage.{Stage}
use Rattle.world_base.specs.declared.standing.Stage.TheVariants.{Outside}
use Rattle.world_base.specs.declared.standing.Within.{Within}
use Rattle.world_base.specs.Standings.{refused}
use Rattle.world_base.specs.table.Stages.{stage_at, call_at, polls_again, stage_after}

-- A machine, at which stage each party is, and the number that the World was made with.
pub record Table (M : Type 0) : Type 0 where
  pub machine : M
  pub stages : List Stage
  pub opening : ℕ

-- As it is made, with every party idle.
abbrev pub new_table : {M : Type 0} → M → ℕ → ℕ → Table M
new_table x parties opening = record { machine = x; stages = replicate parties (Outside Idle); opening = opening }

-- Each party may stand where it does.
pub record IsTable {M : Type 0} (parties : M → ℕ) (Stands : M → ℕ → Stage → Type 0) (x : M) (ss : List Stage) : Type 0 where
  pub as_many : length ss ≡ parties x
  pub stands : (p : ℕ) → p < length ss → Stands x p (stage_at ss p)

-- The party stands as its new stage says, and all others as before.
pub record Keeps {M : Type 0} (parties : M → ℕ) (Stands : M → ℕ → Stage → Type 0) (x : M) (p : ℕ) (t : Stage) (y : M) : Type 0 where
  pub as_many : parties y ≡ parties x
  pub own : Stands y p t
  pub others : (q : ℕ) (s : Stage) → q ≢ p → Stands x q s → Stands y q s

-- The move belongs to this call of the party, at a stage at which it may stand, and polls no future that has been ready.
pub record Called {M : Type 0} (knows : M → ℕ → Call → Bool) (Stands : M → ℕ → Stage → Type 0) (x : M) (p : ℕ) (w : Within) (what : What) : Type 0 where
  pub stage : Stage
  pub stands : Stands x p stage
  pub call : call_at (knows x p) stage what ≡ Some w
  pub first : polls_again stage what ≡ false

module _ {M : Type 0} (knows : M → ℕ → Call → Bool) (ready : Rest) (Acts : M → ℕ → Within → What → Answer → M → Type 0) where
  -- The machine acts once for the party, within this call, and the answer says at which stage the party is then.
  pub record Acted (w : Within) (t : Table M) (m : Move) (a : Answer) (u : Table M) : Type 0 where
    pub inside : m.party < length t.stages
    pub acts : Acts t.machine m.party w m.what a u.machine
    pub stages : u.stages ≡ slice_set t.stages m.party (stage_after ready w a)
    pub opening : u.opening ≡ t.opening

  abbrev pub Does : Option Within → Bool → Table M → Move → Answer → Table M → Type 0
  Does None again t m a u = (a ≡ NotPossible) × (u ≡ t)
  Does (Some w) true t m a u = (a ≡ refused refusal.Finished) × (u ≡ t)
  Does (Some w) false t m a u = Acted w t m a u

  -- From t the move may be answered so, and lead to u.
  abbrev pub IsStep : Table M → Move → Answer → Table M → Type 0
  IsStep t m a u = Does (call_at (knows t.machine m.party) (stage_at t.stages m.party) m.what) (polls_again (stage_at t.stages m.party) m.what) t m a u
