-- A step of a read-write lock keeps the numbers that its World was made with.
use Rattle.std.specs.Prelude.{◌≡◌, length}
use Rattle.std.proofs.Common.{ap, ◌∙◌}
use Rattle.world_base.specs.declared.moves.Answer.{Answer}
use Rattle.world_base.specs.declared.moves.Move.{Move}
use Rattle.world_rwlock.specs.State.{World, new_world, opening_of}
use Rattle.world_rwlock.specs.Legal.{Legal}

-- The opening World is the same before and after a legal step.
pub opening_kept : (old : World) (m : Move) (a : Answer) (new : World) → Legal old m a new → opening_of new ≡ opening_of old
opening_kept old m a new l =
    ap (λ p. new_world p new.starved_limit new.readers_limit new.opening_value) l.one_change.parties
    ∙ (ap (λ n. new_world (length old.standings) n new.readers_limit new.opening_value) l.one_change.starved_limit
    ∙ (ap (λ n. new_world (length old.standings) old.starved_limit n new.opening_value) l.one_change.readers_limit
    ∙ ap (new_world (length old.standings) old.starved_limit old.readers_limit) l.one_change.opening_value))
