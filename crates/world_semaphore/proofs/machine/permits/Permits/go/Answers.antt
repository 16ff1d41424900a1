-- What the machine did, said of the semaphore.
use Rattle.world_semaphore.proofs.Prelude.{◌≡◌, At, sym, ◌∙◌, position_at}
use Rattle.world_semaphore.proofs.of_machine.callers.Clauses.{Did, then_kept}
use Rattle.world_semaphore.proofs.of_machine.callers.Steps.{did_so, at_place, goes_on}
use Rattle.world_semaphore.proofs.machine.permits.Permits.go.Goals as goal

pub invariant_of-self : goal.invariant_of-self
invariant_of-self c =
    let at : position_at c.self.inside.machine.positions c.args.party ≡ At c.in-At.from = sym c.position.ensures ∙ c.in-At.is in
    let did : Did c.args.memory c.args.party c.in-At.from c.take_step-next.result c.self.inside.machine c.take_step-next.new.self = did_so _ _ _ _ _ _ _ c.self.view_is c.requires.known c.self.invariant c.laws.ensures c.laws-2.ensures (at_place _ c.in-At.from at) c.take_step-next.ensures in
    then_kept c.args.memory c.args.party c.in-At.from c.take_step-next.result c.self.inside.machine c.take_step-next.new.self did

pub returns : goal.returns
returns c =
    let at : position_at c.self.inside.machine.positions c.args.party ≡ At c.in-At.from = sym c.position.ensures ∙ c.in-At.is in
    let did : Did c.args.memory c.args.party c.in-At.from c.take_step-next.result c.self.inside.machine c.take_step-next.new.self = did_so _ _ _ _ _ _ _ c.self.view_is c.requires.known c.self.invariant c.laws.ensures c.laws-2.ensures (at_place _ c.in-At.from at) c.take_step-next.ensures in
    rw c.step_after.ensures (rw (← c.self.view_is) (goes_on c.args.memory c.args.party c.in-At.from c.take_step-next.result c.self.inside.machine c.take_step-next.new.self did at))
