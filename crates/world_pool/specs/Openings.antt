-- A step of a pool keeps the numbers that its World was made with.
use Rattle.std.specs.Prelude.{◌≡◌, length}
use Rattle.std.proofs.Common.{ap, ◌∙◌}
use Rattle.world_base.specs.declared.moves.Answer.{Answer}
use Rattle.world_base.specs.declared.moves.Move.{Move}
use Rattle.world_pool.specs.State.{World, new_world, opening_of, made}
use Rattle.world_pool.specs.Legal.{Legal}

-- The opening World is the same before and after a legal step.
pub opening_kept : (old : World) (m : Move) (a : Answer) (new : World) → Legal old m a new → opening_of new ≡ opening_of old
opening_kept old m a new l =
    ap (λ n. new_world n (made new) new.lock.limit) l.one_change.parties
    ∙ (ap (λ n. new_world (length old.standings) n new.lock.limit) l.one_change.made
    ∙ ap (new_world (length old.standings) (made old)) l.one_change.starved_limit)
