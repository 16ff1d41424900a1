-- An action of one party is one of its program, and keeps what always holds of the cell.
use Rattle.world_once_cell.proofs.Prelude.{◌≡◌, ◌<◌, length, ap, sym, ◌∙◌, set, queue, action_of, position_after, Finds, effect_of, content_after, active_after, passive_after, answer_by, IsKept, content_of}
use Rattle.world_once_cell.specs.machine.Machine.{Stands}
use Rattle.world_once_cell.proofs.of_machine.laws.Kept.{after}
use Rattle.world_once_cell.proofs.of_machine.laws.Locks.{began, locked, keeps}
use Rattle.world_once_cell.proofs.of_machine.laws.Taken.{settled}
use Rattle.world_once_cell.proofs.machine.cell.OnceCellMachine.act.Goals as goal

pub invariant_of-self : goal.invariant_of-self
invariant_of-self c =
    let xs = c.self.inside.positions.items in
    let known : c.args.party < length xs = rw (ap (λ s. length s.positions) c.self.view_is) c.requires.known in
    let stood : Stands (record { content = content_of c.self.inside.words; positions = xs; active = c.self.inside.active.entries; passive = c.self.inside.passive.entries }) c.args.party c.requires.called.stage = rw (← c.self.view_is) at c.requires.called.stands in
    let start = began xs c.args.party c.index.result.now c.args._within c.args.what c.requires.called.stage c.in-Some.from known c.index.ensures (sym c.place_for.ensures ∙ c.in-Some.is)
    stood.goes c.requires.called.call c.requires.called.first in
    let to : c.after.result ≡ after c.in-Some.from c.carry_out-found.result = c.after.ensures ∙ ap position_after c.decide-next.ensures in
    let settled_words : content_of c.settle.new.self ≡ content_of c.self.inside.words = c.settle.ensures.content in
    let words : content_of c.carry_out-found.new.words ≡ content_after c.args.party (effect_of (action_of c.in-Some.from) c.carry_out-found.result) (content_of c.self.inside.words) = rw settled_words at (rw c.action_at.ensures at c.carry_out-found.ensures.words) in
    let active : c.carry_out-found.new.active ≡ queue c.self.inside.active.parties (active_after c.args.party (effect_of (action_of c.in-Some.from) c.carry_out-found.result) c.self.inside.active.entries) = rw c.action_at.ensures at c.carry_out-found.ensures.active in
    let passive : c.carry_out-found.new.passive ≡ queue c.self.inside.passive.parties (passive_after c.args.party (effect_of (action_of c.in-Some.from) c.carry_out-found.result) c.self.inside.passive.entries) = rw c.action_at.ensures at c.carry_out-found.ensures.passive in
    let finds : Finds c.inputs.result c.args.party (action_of c.in-Some.from) c.carry_out-found.result (content_of c.self.inside.words) c.self.inside.active.entries c.self.inside.passive.entries = rw settled_words at (rw c.action_at.ensures at c.carry_out-found.ensures.finds) in
    let kept : IsKept (content_of c.self.inside.words) xs c.self.inside.active c.self.inside.passive = settled xs c.self.inside.active c.self.inside.passive c.self.inside.words c.self.invariant in
    rw (c.carry_out-found.ensures.kept, to, words, active, passive)
    (locked c.args.party (content_of c.self.inside.words) xs c.self.inside.active c.self.inside.passive c.inputs.result c.args._within c.in-Some.from c.carry_out-found.result kept known start.fits finds)

pub returns-clause-acts : goal.returns-clause-acts
returns-clause-acts c =
    let xs = c.self.inside.positions.items in
    let known : c.args.party < length xs = rw (ap (λ s. length s.positions) c.self.view_is) c.requires.known in
    let stood : Stands (record { content = content_of c.self.inside.words; positions = xs; active = c.self.inside.active.entries; passive = c.self.inside.passive.entries }) c.args.party c.requires.called.stage = rw (← c.self.view_is) at c.requires.called.stands in
    let start = began xs c.args.party c.index.result.now c.args._within c.args.what c.requires.called.stage c.in-Some.from known c.index.ensures (sym c.place_for.ensures ∙ c.in-Some.is)
    stood.goes c.requires.called.call c.requires.called.first in
    let to : c.after.result ≡ after c.in-Some.from c.carry_out-found.result = c.after.ensures ∙ ap position_after c.decide-next.ensures in
    let settled_words : content_of c.settle.new.self ≡ content_of c.self.inside.words = c.settle.ensures.content in
    let words : content_of c.carry_out-found.new.words ≡ content_after c.args.party (effect_of (action_of c.in-Some.from) c.carry_out-found.result) (content_of c.self.inside.words) = rw settled_words at (rw c.action_at.ensures at c.carry_out-found.ensures.words) in
    let active : c.carry_out-found.new.active ≡ queue c.self.inside.active.parties (active_after c.args.party (effect_of (action_of c.in-Some.from) c.carry_out-found.result) c.self.inside.active.entries) = rw c.action_at.ensures at c.carry_out-found.ensures.active in
    let passive : c.carry_out-found.new.passive ≡ queue c.self.inside.passive.parties (passive_after c.args.party (effect_of (action_of c.in-Some.from) c.carry_out-found.result) c.self.inside.passive.entries) = rw c.action_at.ensures at c.carry_out-found.ensures.passive in
    let finds : Finds c.inputs.result c.args.party (action_of c.in-Some.from) c.carry_out-found.result (content_of c.self.inside.words) c.self.inside.active.entries c.self.inside.passive.entries = rw settled_words at (rw c.action_at.ensures at c.carry_out-found.ensures.finds) in
    let kept : IsKept (content_of c.self.inside.words) xs c.self.inside.active c.self.inside.passive = settled xs c.self.inside.active c.self.inside.passive c.self.inside.words c.self.invariant in
    rw (← c.self.view_is)
    (record {
      from = c.in-Some.from;
      starts = start.starts;
      runs = start.fits.runs;
      found = c.carry_out-found.result;
      acts = record {
        finds = rw c.inputs.ensures at finds;
        content = words;
        active = ap (λ q. q.entries) active;
        passive = ap (λ q. q.entries) passive;
        positions = ap (set xs c.args.party) to;
      };
      answer = c.answer_to.ensures ∙ ap answer_by c.decide-next.ensures;
    })

pub returns-clause-keeps : goal.returns-clause-keeps
returns-clause-keeps c =
    let xs = c.self.inside.positions.items in
    let known : c.args.party < length xs = rw (ap (λ s. length s.positions) c.self.view_is) c.requires.known in
    let stood : Stands (record { content = content_of c.self.inside.words; positions = xs; active = c.self.inside.active.entries; passive = c.self.inside.passive.entries }) c.args.party c.requires.called.stage = rw (← c.self.view_is) at c.requires.called.stands in
    let start = began xs c.args.party c.index.result.now c.args._within c.args.what c.requires.called.stage c.in-Some.from known c.index.ensures (sym c.place_for.ensures ∙ c.in-Some.is)
    stood.goes c.requires.called.call c.requires.called.first in
    let to : c.after.result ≡ after c.in-Some.from c.carry_out-found.result = c.after.ensures ∙ ap position_after c.decide-next.ensures in
    let settled_words : content_of c.settle.new.self ≡ content_of c.self.inside.words = c.settle.ensures.content in
    let words : content_of c.carry_out-found.new.words ≡ content_after c.args.party (effect_of (action_of c.in-Some.from) c.carry_out-found.result) (content_of c.self.inside.words) = rw settled_words at (rw c.action_at.ensures at c.carry_out-found.ensures.words) in
    let active : c.carry_out-found.new.active ≡ queue c.self.inside.active.parties (active_after c.args.party (effect_of (action_of c.in-Some.from) c.carry_out-found.result) c.self.inside.active.entries) = rw c.action_at.ensures at c.carry_out-found.ensures.active in
    let passive : c.carry_out-found.new.passive ≡ queue c.self.inside.passive.parties (passive_after c.args.party (effect_of (action_of c.in-Some.from) c.carry_out-found.result) c.self.inside.passive.entries) = rw c.action_at.ensures at c.carry_out-found.ensures.passive in
    let finds : Finds c.inputs.result c.args.party (action_of c.in-Some.from) c.carry_out-found.result (content_of c.self.inside.words) c.self.inside.active.entries c.self.inside.passive.entries = rw settled_words at (rw c.action_at.ensures at c.carry_out-found.ensures.finds) in
    let kept : IsKept (content_of c.self.inside.words) xs c.self.inside.active c.self.inside.passive = settled xs c.self.inside.active c.self.inside.passive c.self.inside.words c.self.invariant in
    let answered = c.answer_to.ensures ∙ ap answer_by c.decide-next.ensures in
    rw (← c.self.view_is) (rw answered
    (keeps (record { content = content_of c.self.inside.words; positions = xs; active = c.self.inside.active.entries; passive = c.self.inside.passive.entries }) _ c.args.party c.inputs.result c.args._within c.in-Some.from c.carry_out-found.result c.requires.called.stage known start.fits stood kept.makers finds (ap (set xs c.args.party) to) words))
