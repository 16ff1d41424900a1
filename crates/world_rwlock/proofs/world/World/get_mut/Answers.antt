-- A value is put in the World as in its table.
use Rattle.world_rwlock.proofs.Prelude.{◌≡◌, true, refl, ap, sym, ◌∙◌, list_all, is_outside_stage, rest_seen, is_at_rest, verdict_of}
use Rattle.world_rwlock.specs.Lending.{world_with}
use Rattle.world_rwlock.proofs.laws.Sound.{put_seen}
use Rattle.world_rwlock.proofs.world.World.get_mut.Goals as goal

pub value_mut-requires : goal.value_mut-requires
value_mut-requires c =
    let t = c.self.inside.table in
    sym (rest_seen (verdict_of t.machine) t.stages) ∙ (ap is_at_rest c.self.view_is ∙ c.requires)

pub returns : goal.returns
returns c =
    let t = c.self.inside.table in
    let resting : list_all is_outside_stage t.stages ≡ true = sym (rest_seen (verdict_of t.machine) t.stages) ∙ (ap is_at_rest c.self.view_is ∙ c.requires) in
    ((refl, λ v. put_seen t v resting ∙ ap (λ w. world_with w v) c.self.view_is), record { lends = tt; value = c.value_mut.ensures.value ∙ ap (λ w. w.state.value) c.self.view_is })
