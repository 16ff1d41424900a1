-- Whoever is forgotten when the number is lent may stand as it does.
use Rattle.std.specs.Prelude.{◌≡◌, ℕ, true}
use Rattle.std.proofs.Common.{refl}
use Rattle.std.proofs.lemmas.Bool.{false≢true}
use Rattle.world_base.specs.declared.standing.Rest.TheVariants.{Idle, Pending, Holding, Finished}
use Rattle.world_base.specs.declared.standing.Stage.{Stage}
use Rattle.world_base.specs.declared.standing.Stage.TheVariants.{Outside, Inside, Forgotten}
use Rattle.world_base.specs.Standings.{forgets, is_outside_stage}
use Rattle.sync_program.specs.declared.rwlock.Place.{Place}
use Rattle.sync_program.specs.declared.rwlock.Place.TheVariants as place
use Rattle.world_rwlock.specs.machine.Roles.{is_resting}
use Rattle.world_rwlock.specs.Guarded.{Guarded, parties, place_of, with_value, Stands}
use Rattle.world_rwlock.specs.Stages.{is_future, is_guard}

pub future_rests : (x : Place) → is_future x ≡ true → is_resting x ≡ true
future_rests (place.Made w) h = refl
future_rests place.AskNoWriter h = refl
future_rests (place.WaitTurn p) h = refl
future_rests (place.AwaitNoReaders upgrade) h = refl
future_rests (place.LookUnlisted true) h = refl
future_rests _ h = absurd (false≢true h)

pub guard_rests : (x : Place) → is_guard x ≡ true → is_resting x ≡ true
guard_rests place.Reading h = refl
guard_rests place.Upgradable h = refl
guard_rests place.Writing h = refl
guard_rests _ h = absurd (false≢true h)

pub as_many : (x : Guarded) (v : ℕ) → parties (with_value x v) ≡ parties x
as_many x v = refl

pub stays : (x : Guarded) (v p : ℕ) (s : Stage) → is_outside_stage s ≡ true → Stands x p s → Stands (with_value x v) p (forgets s)
stays x v p (Outside Idle) out h = h
stays x v p (Outside Pending) out h = future_rests (place_of x p) h
stays x v p (Outside Holding) out h = guard_rests (place_of x p) h
stays x v p (Outside Finished) out h = h
stays x v p (Inside w) out h = absurd (false≢true out)
stays x v p Forgotten out h = h
