-- A value is put in the World as in its table.
use Rattle.world_mutex.proofs.Prelude.{◌≡◌, true, refl, ap, sym, ◌∙◌, list_all, is_outside_stage, rest_seen, is_at_rest, verdict}
use Rattle.world_mutex.specs.Lending.{world_with}
use Rattle.world_mutex.proofs.laws.Sound.{put_seen}
use Rattle.world_mutex.proofs.world.World.get_mut.Goals as goal

pub value_mut-requires : goal.value_mut-requires
value_mut-requires c = sym (rest_seen (verdict c.self.inside.table.machine) c.self.inside.table.stages) ∙ (ap is_at_rest c.self.view_is ∙ c.requires)

pub returns : goal.returns
returns c =
    let resting : list_all is_outside_stage c.self.inside.table.stages ≡ true = sym (rest_seen (verdict c.self.inside.table.machine) c.self.inside.table.stages) ∙ (ap is_at_rest c.self.view_is ∙ c.requires) in
    ((refl, λ v. put_seen c.self.inside.table v resting ∙ ap (λ w. world_with w v) c.self.view_is), record { lends = tt; value = c.value_mut.ensures.value ∙ ap (λ w. w.state.value) c.self.view_is })
