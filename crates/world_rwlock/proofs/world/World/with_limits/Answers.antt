-- A new table is seen as a new World.
use Rattle.world_rwlock.proofs.Prelude.{◌≡◌, ℕ, ap, ◌∙◌, new_table, new_world, view_of}
use Rattle.world_rwlock.proofs.table.Opening.{starts_new}
use Rattle.world_rwlock.proofs.world.World.with_limits.Goals as goal

same_limits : (parties value s t r q : ℕ) → s ≡ t → r ≡ q → new_world parties s r value ≡ new_world parties t q value
same_limits parties value s t r q e f = cc

pub returns-in-Ok-new-clause-opening : goal.returns-in-Ok-new-clause-opening
returns-in-Ok-new-clause-opening c =
    ap view_of c.in-Ok-new.ensures
    ∙ (ap (λ x. view_of (new_table x c.args.parties c.args.value)) c.in-Ok.ensures
    ∙ (starts_new c.args.parties _ _ c.args.value ∙ same_limits c.args.parties c.args.value _ _ _ _ c.min-starved.ensures c.min-readers.ensures))
