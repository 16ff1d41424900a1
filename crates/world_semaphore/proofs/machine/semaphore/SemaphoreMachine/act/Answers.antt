-- A move of one party is one action of its program, whose place is the one at which its call begins or goes on.
use Rattle.world_semaphore.proofs.Prelude.{◌≡◌, ap, sym, ◌∙◌, subst, Bool, inputs_of, Inputs, answer_by, Acts}
use Rattle.world_semaphore.proofs.of_machine.laws.Locks.{began, keeps}
use Rattle.world_semaphore.proofs.machine.semaphore.SemaphoreMachine.act.Goals as goal

pub take_step-requires-clause-stands : goal.take_step-requires-clause-stands
take_step-requires-clause-stands c =
    let xs = c.args.self.now.positions in
    let start = began xs c.args.party c.index.result.now c.args._within c.args.what c.requires.called.stage c.in-Some.from c.requires.known (rw (← ap (λ s. s.positions) c.self.view_is) c.index.ensures) (sym c.place_for.ensures ∙ c.in-Some.is)
    c.requires.called.stands c.requires.called.call c.requires.called.first in
    start.fits.stands

pub returns-clause-acts : goal.returns-clause-acts
returns-clause-acts c =
    let xs = c.args.self.now.positions in
    let start = began xs c.args.party c.index.result.now c.args._within c.args.what c.requires.called.stage c.in-Some.from c.requires.known (rw (← ap (λ s. s.positions) c.self.view_is) c.index.ensures) (sym c.place_for.ensures ∙ c.in-Some.is)
    c.requires.called.stands c.requires.called.call c.requires.called.first in
    let memory : c.inputs.result.memory ≡ (inputs_of c.args.what).memory = ap (λ (i : Inputs). i.memory) c.inputs.ensures in
    let A : Bool → Type 0 = λ m. Acts m c.args.party c.in-Some.from c.take_step.ensures.found c.args.self.now c.take_step.new.self in
    record {
      from = c.in-Some.from;
      starts = start.starts;
      runs = start.fits.runs;
      found = c.take_step.ensures.found;
      acts = subst A memory c.take_step.ensures.acts;
      answer = c.answer_to.ensures ∙ ap answer_by c.take_step.ensures.next_is;
    }

pub returns-clause-keeps : goal.returns-clause-keeps
returns-clause-keeps c =
    let m = returns-clause-acts c in
    rw m.answer (keeps c.args.self.now _ c.args.party c.args._within m.from m.found c.requires.known m.runs m.acts.positions)
