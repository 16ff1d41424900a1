-- The clauses of a legal step that speak of no primitive: which moves are possible, why a call is refused, and how calls end.
use Rattle.std.specs.Prelude.{◌≡◌, ℕ, ◌↔◌, if◌then◌else◌, Bool, true, false, Option, Some, None}
use Rattle.world_base.specs.declared.moves.Answer.{Answer}
use Rattle.world_base.specs.declared.moves.Answer.TheVariants as answer
use Rattle.world_base.specs.declared.moves.Call.{Call}
use Rattle.world_base.specs.declared.moves.Call.TheVariants as call
use Rattle.world_base.specs.declared.moves.Move.{Move}
use Rattle.world_base.specs.declared.moves.What.{What}
use Rattle.world_base.specs.declared.moves.What.TheVariants.{Begin}
use Rattle.lock_program.specs.declared.refusal.Refusal.{Refusal}
use Rattle.lock_program.specs.declared.refusal.Refusal.TheVariants as refusal
use Rattle.world_base.specs.declared.standing.Rest.{Rest}
use Rattle.world_base.specs.declared.standing.Rest.TheVariants.{Holding, Finished}
use Rattle.world_base.specs.declared.standing.Within.{Within}
use Rattle.lock_program.specs.Refusals.{number_of}
use Rattle.world_base.specs.Standings.{Standing, outside, inside, call_in, is_possible, refused, leaves_as_it_was, StandsAfter, Decides, IsUndecided, decision}

-- ---- What a move asks for

abbrev pub is_drop : What → Bool
is_drop (Begin call.Drop inputs) = true
is_drop _ = false

-- A call on what a party has: a drop, a downgrade, a forget. From its first step on it only gives back.
abbrev pub is_giving_back : What → Bool
is_giving_back (Begin call.Drop inputs) = true
is_giving_back (Begin call.Downgrade inputs) = true
is_giving_back (Begin call.DowngradeToUpgradable inputs) = true
is_giving_back (Begin call.Forget inputs) = true
is_giving_back _ = false

abbrev pub put_in : What → Option ℕ
put_in (Begin (call.Put v) inputs) = Some v
put_in _ = None

-- A poll of a party that holds a right, or whose future has been ready.
abbrev pub is_poll_after_ready : Standing → What → Bool
is_poll_after_ready (outside Holding) (Begin call.Poll inputs) = true
is_poll_after_ready (outside Finished) (Begin call.Poll inputs) = true
is_poll_after_ready s _ = false

-- A refusal after which the future is as when it was made.
abbrev pub is_refusal : Answer → Bool
is_refusal (answer.Refused n) = if leaves_as_it_was n then false else true
is_refusal _ = false

-- ---- The clauses, by how the parties of a World stand

-- The call that a move belongs to, where its party may make it; `knows` tells which calls a World knows of a party, by the guard that it has.
abbrev pub call_of : {W : Type 0} → (W → ℕ → Standing) → (W → ℕ → Call → Bool) → W → Move → Option Within
call_of standing_of knows w m = call_in (knows w m.party) (standing_of w m.party) m.what

-- The step from old to new decides its party's call on this answer.
abbrev pub DecidesOn : {W : Type 0} → (W → ℕ → Standing) → W → Move → Answer → W → Answer → Type 0
DecidesOn standing_of old m a new b = Decides (standing_of old m.party) a (standing_of new m.party) b

-- A move is answered NotPossible exactly where its party may not make it, and then nothing changes.
pub record IsPossible {W : Type 0} (standing_of : W → ℕ → Standing) (knows : W → ℕ → Call → Bool) (old : W) (m : Move) (a : Answer) (new : W) : Type 0 where
  pub exactly : (a ≡ answer.NotPossible) ↔ (call_of standing_of knows old m ≡ None)
  pub unchanged : a ≡ answer.NotPossible → new ≡ old

-- A refusal has its cause; only a call that is begun and isn't decided is refused for want of memory; and exactly a poll after ready is refused as that.
pub record IsRefusedForCause {W : Type 0} (standing_of : W → ℕ → Standing) (IsCause : W → Move → W → Refusal → Type 0) (old : W) (m : Move) (a : Answer) (new : W) : Type 0 where
  pub cause : (n : ℕ) → DecidesOn standing_of old m a new (answer.Refused n) → (r : Refusal) × (n ≡ number_of r) × IsCause old m new r
  pub memory : DecidesOn standing_of old m a new (refused refusal.Memory) → IsUndecided (standing_of old m.party)
  pub after_ready : (a ≡ refused refusal.Finished) ↔ (is_poll_after_ready (standing_of old m.party) m.what ≡ true)

-- A possible move leaves its party inside its call exactly if it is answered Stepped, and else outside, by an answer with which such a call may end; a call that is decided ends with the answer that it is decided on. `ready` is how a party of this World stands whose future has been ready.
pub record EndsProperly {W : Type 0} (standing_of : W → ℕ → Standing) (knows : W → ℕ → Call → Bool) (ready : Rest) (old : W) (m : Move) (a : Answer) (new : W) : Type 0 where
  pub stands : (within : Within) → call_of standing_of knows old m ≡ Some within → StandsAfter ready within a (standing_of new m.party)
  pub as_decided : (within : Within) (b : Answer) → standing_of old m.party ≡ inside within (Some b) → is_possible a ≡ true → decision a (standing_of new m.party) ≡ Some b
