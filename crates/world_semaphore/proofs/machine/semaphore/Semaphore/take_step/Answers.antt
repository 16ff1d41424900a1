-- An action of one party is one of its program, and keeps what always holds of the semaphore.
use Rattle.world_semaphore.proofs.Prelude.{◌≡◌, ◌<◌, length, ap, ◌∙◌, set, weighted_queue, weight_in, action_of, position_after, Finds, effect_of, words_after, entries_after, weights_after, position_at}
use Rattle.world_semaphore.specs.machine.Machine.{StandsAt}
use Rattle.world_semaphore.proofs.of_machine.laws.CanDo.{can_do}
use Rattle.world_semaphore.proofs.of_machine.laws.Kept.{after}
use Rattle.world_semaphore.proofs.of_machine.laws.Locks.{locked, alike}
use Rattle.world_semaphore.proofs.machine.semaphore.Semaphore.take_step.Goals as goal

pub carry_out-found-requires : goal.carry_out-found-requires
carry_out-found-requires c =
    let xs = c.self.inside.positions.items in
    let known : c.args.party < length xs = rw (ap (λ s. length s.positions) c.self.view_is) c.requires.known in
    let stands : StandsAt c.args.from (position_at xs c.args.party) = rw (ap (λ s. s.positions) c.self.view_is) c.requires.stands in
    rw c.action_at.ensures (can_do c.args.party c.self.inside.words xs c.self.inside.list c.self.invariant known c.args.from stands.same)

pub invariant_of-self : goal.invariant_of-self
invariant_of-self c =
    let xs = c.self.inside.positions.items in
    let known : c.args.party < length xs = rw (ap (λ s. length s.positions) c.self.view_is) c.requires.known in
    let stands : StandsAt c.args.from (position_at xs c.args.party) = rw (ap (λ s. s.positions) c.self.view_is) c.requires.stands in
    let to : c.after.result ≡ after c.args.from c.carry_out-found.result = c.after.ensures ∙ ap position_after c.decide-next.ensures in
    let words : c.carry_out-found.new.words ≡ words_after (effect_of (action_of c.args.from) c.carry_out-found.result) c.self.inside.words = rw c.action_at.ensures at c.carry_out-found.ensures.words in
    let list : c.carry_out-found.new.list ≡ weighted_queue c.self.inside.list.parties (entries_after (weight_in c.self.inside.list.weights) c.args.party (effect_of (action_of c.args.from) c.carry_out-found.result) c.self.inside.list.entries) (weights_after c.args.party (action_of c.args.from) c.carry_out-found.result c.self.inside.list.weights) = rw c.action_at.ensures at c.carry_out-found.ensures.list in
    let finds : Finds c.args.memory c.args.party (action_of c.args.from) c.carry_out-found.result c.self.inside.words c.self.inside.list.entries = rw c.action_at.ensures at c.carry_out-found.ensures.finds in
    rw (to, words, list)
    (locked c.args.party c.self.inside.words xs c.self.inside.list c.args.memory c.self.invariant c.args.from c.carry_out-found.result known stands.same stands.waits stands.short finds)

pub returns : goal.returns
returns c =
    let xs = c.self.inside.positions.items in
    let to : c.after.result ≡ after c.args.from c.carry_out-found.result = c.after.ensures ∙ ap position_after c.decide-next.ensures in
    let words : c.carry_out-found.new.words ≡ words_after (effect_of (action_of c.args.from) c.carry_out-found.result) c.self.inside.words = rw c.action_at.ensures at c.carry_out-found.ensures.words in
    let list : c.carry_out-found.new.list ≡ weighted_queue c.self.inside.list.parties (entries_after (weight_in c.self.inside.list.weights) c.args.party (effect_of (action_of c.args.from) c.carry_out-found.result) c.self.inside.list.entries) (weights_after c.args.party (action_of c.args.from) c.carry_out-found.result c.self.inside.list.weights) = rw c.action_at.ensures at c.carry_out-found.ensures.list in
    let finds : Finds c.args.memory c.args.party (action_of c.args.from) c.carry_out-found.result c.self.inside.words c.self.inside.list.entries = rw c.action_at.ensures at c.carry_out-found.ensures.finds in
    rw (← c.self.view_is)
    (record {
      found = c.carry_out-found.result;
      acts = record {
        finds = finds;
        words = words;
        entries = ap (λ q. q.entries) list ∙ alike c.args.party c.self.inside.words xs c.self.inside.list c.args.memory c.self.invariant (effect_of (action_of c.args.from) c.carry_out-found.result);
        positions = ap (set xs c.args.party) to;
      };
      next_is = c.decide-next.ensures;
    })
