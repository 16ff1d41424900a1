-- What follows from a step of the World.
use Rattle.world_pool.proofs.laws.WorldLaws as law
use Rattle.world_pool.proofs.whole.Promises.{keeps_promise}
use Rattle.world_pool.proofs.world.WorldAnyWorld.step_laws.Goals as goal

pub returns : goal.returns
returns c = record {
  told_at_first = law.told_at_first;
  goes_well = law.goes_well;
  begins = law.begins_few;
  falls = law.falls;
  ends_outside = law.ends_outside;
  keeps_promise = keeps_promise;
}
