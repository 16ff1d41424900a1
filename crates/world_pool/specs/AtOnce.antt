-- What the first step of a call decides at once.
use Rattle.std.specs.Prelude.{◌≡◌, ◌≤◌, ◌<◌, ◌⊎◌, ◌↔◌, Bool, true, false}
use Rattle.world_base.specs.declared.moves.Answer.{Answer}
use Rattle.world_base.specs.declared.moves.Answer.TheVariants as answer
use Rattle.world_base.specs.declared.moves.Call.TheVariants as call
use Rattle.world_base.specs.declared.moves.Move.{Move}
use Rattle.world_base.specs.declared.moves.What.{What}
use Rattle.world_base.specs.declared.moves.What.TheVariants.{Begin}
use Rattle.world_base.specs.declared.standing.Rest.TheVariants.{Idle, Holding}
use Rattle.world_base.specs.Standings.{Standing, outside, Decides}
use Rattle.world_mutex.specs.machine.Mutex.{holders, starved}
use Rattle.world_pool.specs.State.{World, standing_of, available, HasPermit}
use Rattle.world_pool.specs.Legal.{Loses}

abbrev pub is_first_take : Standing → What → Bool
is_first_take (outside Idle) (Begin call.Take inputs) = true
is_first_take s what = false

abbrev pub is_try : Standing → What → Bool
is_try (outside Idle) (Begin call.TryTake inputs) = true
is_try s what = false

abbrev pub is_lease_drop : Standing → What → Bool
is_lease_drop (outside Holding) (Begin call.Drop inputs) = true
is_lease_drop s what = false

-- Whoever's call is decided on None found no permit available, or the list's lock held or somebody starved for it.
abbrev pub IsInVain : World → Type 0
IsInVain w = (available w < 1) ⊎ ((holders w.lock ≡ 1) ⊎ (0 < starved w.lock))

-- The first step of a take, and of a try, takes a permit exactly where one is available. A try in vain is over then. The drop of a lease is one step, which loses its item.
pub record AnswersAtOnce (old : World) (m : Move) (a : Answer) (new : World) : Type 0 where
  pub takes : is_first_take (standing_of old m.party) m.what ≡ true → HasPermit new m.party ↔ (1 ≤ available old)
  pub tries : is_try (standing_of old m.party) m.what ≡ true → HasPermit new m.party ↔ (1 ≤ available old)
  pub in_vain : is_try (standing_of old m.party) m.what ≡ true → (a ≡ answer.None) ↔ (available old < 1)
  pub vain : Decides (standing_of old m.party) a (standing_of new m.party) answer.None → IsInVain old
  pub drops : is_lease_drop (standing_of old m.party) m.what ≡ true → (a ≡ answer.GivenBack) × Loses old m new
