-- Whoever stood outside every call where the value is lent may stand there forgotten.
use Rattle.std.specs.Prelude.{◌≡◌, true, refl}
use Rattle.world_base.specs.declared.standing.Rest.TheVariants as rest
use Rattle.world_base.specs.declared.standing.Stage.{Stage}
use Rattle.world_base.specs.declared.standing.Stage.TheVariants.{Outside, Inside, Forgotten}
use Rattle.world_base.specs.Standings.{is_outside_stage, forgets}
use Rattle.lock_program.specs.declared.mutex.Place.{Place}
use Rattle.lock_program.specs.declared.mutex.Place.TheVariants.{Out, Holding, Ask, AskStarved}
use Rattle.world_mutex.specs.Guarded.{goes_with}

pub stays_so : (s : Stage) (x : Place) → is_outside_stage s ≡ true → goes_with s x ≡ true → goes_with (forgets s) x ≡ true
stays_so (Outside rest.Idle) x o g = g
stays_so (Outside rest.Pending) Out o g = refl
stays_so (Outside rest.Pending) Ask o g = refl
stays_so (Outside rest.Pending) AskStarved o g = refl
stays_so (Outside rest.Pending) _ o g = absurd (cc)
stays_so (Outside rest.Holding) Holding o g = refl
stays_so (Outside rest.Holding) _ o g = absurd (cc)
stays_so (Outside rest.Finished) x o g = g
stays_so (Inside w) x o g = absurd (cc)
stays_so Forgotten x o g = g
