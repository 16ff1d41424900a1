-- A new semaphore, as it is seen.
use Rattle.world_semaphore.proofs.Prelude.{ap, ◌∙◌}
use Rattle.world_semaphore.proofs.of_machine.callers.Laws.{seen_new, kept_new}
use Rattle.world_semaphore.specs.machine.Seen.{seen}
use Rattle.world_semaphore.proofs.machine.permits.Permits.new.Goals as goal

pub returns : goal.returns
returns c = ap seen c.in_ok-machine.ensures ∙ seen_new c.args.parties c.args.permits c.args.most

pub invariant_of-result : goal.invariant_of-result
invariant_of-result c = kept_new c.in_ok-machine.machine c.args.parties c.args.permits c.args.most c.in_ok-machine.ensures
