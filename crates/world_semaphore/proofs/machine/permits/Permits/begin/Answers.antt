-- What the machine did, said of the semaphore.
use Rattle.world_semaphore.proofs.Prelude.{◌≡◌, Some, ap, sym, ◌∙◌, position_at}
use Rattle.sync_program.specs.Permits.{start_of}
use Rattle.world_semaphore.proofs.of_machine.callers.Clauses.{Did, then_kept}
use Rattle.world_semaphore.proofs.of_machine.callers.Openings.{stands}
use Rattle.world_semaphore.proofs.of_machine.callers.Steps.{did_so, begins}
use Rattle.world_semaphore.proofs.machine.permits.Permits.begin.Goals as goal

pub take_step-begun-requires-clause-stands : goal.take_step-begun-requires-clause-stands
take_step-begun-requires-clause-stands c = stands c.args.call (position_at c.self.inside.machine.positions c.args.party) c.in-Some.from (ap (start_of c.args.call) (sym c.position.ensures) ∙ (sym c.start.ensures ∙ c.in-Some.is))

pub invariant_of-self : goal.invariant_of-self
invariant_of-self c =
    let starts : start_of c.args.call (position_at c.self.inside.machine.positions c.args.party) ≡ Some c.in-Some.from = ap (start_of c.args.call) (sym c.position.ensures) ∙ (sym c.start.ensures ∙ c.in-Some.is) in
    let did : Did c.args.memory c.args.party c.in-Some.from c.take_step-begun.result c.self.inside.machine c.take_step-begun.new.self = did_so _ _ _ _ _ _ _ c.self.view_is c.requires.known c.self.invariant c.laws.ensures c.laws-2.ensures (stands c.args.call _ c.in-Some.from starts) c.take_step-begun.ensures in
    then_kept c.args.memory c.args.party c.in-Some.from c.take_step-begun.result c.self.inside.machine c.take_step-begun.new.self did

pub returns : goal.returns
returns c =
    let starts : start_of c.args.call (position_at c.self.inside.machine.positions c.args.party) ≡ Some c.in-Some.from = ap (start_of c.args.call) (sym c.position.ensures) ∙ (sym c.start.ensures ∙ c.in-Some.is) in
    let did : Did c.args.memory c.args.party c.in-Some.from c.take_step-begun.result c.self.inside.machine c.take_step-begun.new.self = did_so _ _ _ _ _ _ _ c.self.view_is c.requires.known c.self.invariant c.laws.ensures c.laws-2.ensures (stands c.args.call _ c.in-Some.from starts) c.take_step-begun.ensures in
    rw c.step_after.ensures (rw (← c.self.view_is) (begins c.args.memory c.args.party c.in-Some.from c.take_step-begun.result c.self.inside.machine c.take_step-begun.new.self did c.args.call starts))
