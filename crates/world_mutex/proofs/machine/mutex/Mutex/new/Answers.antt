-- A new mutex, as it is seen.
use Rattle.world_mutex.proofs.Prelude.{ap, ◌∙◌, seen}
use Rattle.world_mutex.proofs.of_machine.legal.Sights.{seen_new}
use Rattle.world_mutex.proofs.machine.mutex.Mutex.new.Goals as goal

pub returns : goal.returns
returns c = ap seen c.in_ok-machine.ensures ∙ seen_new c.args.parties c.args.limit
