-- An action of one party is one of its program, and keeps what always holds of the barrier.
use Rattle.world_barrier.proofs.Prelude.{◌≡◌, ◌<◌, true, length, ap, sym, ◌∙◌, set, queue, progress, action_of, position_after, OnLock, Finds, words_after, arrival_after, entries_after, answer_by, goes_with, position_at, arrival_at}
use Rattle.world_barrier.proofs.of_machine.laws.Rows.{after}
use Rattle.world_barrier.proofs.of_machine.stages.Starts.{Began, began, read_at}
use Rattle.world_barrier.proofs.of_machine.laws.CanDo.{entries_are}
use Rattle.world_barrier.proofs.of_machine.falls.Falls.{falls}
use Rattle.world_barrier.proofs.of_machine.laws.Kept.{kept, keeps}
use Rattle.world_barrier.proofs.machine.barrier.BarrierMachine.act.Goals as goal

-- what the action did, in the words of the lemmas
record Did (c : goal.After-answer_to) : Type 0 where
  known : c.args.party < length c.self.inside.positions.items
  start : Began c.self.inside.positions.items c.args.party c.args._within c.args.what c.in-Some.from
  to : c.after.result ≡ after c.in-Some.from c.carry_out-found.result
  finds : Finds c.inputs.result c.args.party (action_of c.in-Some.from) c.carry_out-found.result c.self.inside.words (arrival_at c.self.inside.arrivals.items c.args.party) c.self.inside.list.entries
  words : c.carry_out-found.new.words ≡ words_after (action_of c.in-Some.from) c.self.inside.words
  arrival : c.carry_out-found.new.arrival ≡ arrival_after (action_of c.in-Some.from) c.self.inside.words (arrival_at c.self.inside.arrivals.items c.args.party)
  list : c.carry_out-found.new.list ≡ queue c.self.inside.list.parties (entries_after c.args.party (action_of c.in-Some.from) c.carry_out-found.result c.self.inside.list.entries)
  lock : OnLock c.inputs.result c.args.party (action_of c.in-Some.from) c.carry_out-found.result c.self.inside.lock c.carry_out-found.new.lock

did : (c : goal.After-answer_to) → Did c
did c =
    let xs = c.self.inside.positions.items in
    let rs = c.self.inside.arrivals.items in
    let known : c.args.party < length xs = rw (ap (λ s. length s.positions) c.self.view_is) c.requires.known in
    let many : c.args.party < length rs = rw c.self.invariant.arrivals known in
    let stands : goes_with c.requires.called.stage (position_at xs c.args.party) ≡ true = rw (← c.self.view_is) at c.requires.called.stands in
    let here : c.index-2.result.now ≡ arrival_at rs c.args.party = read_at rs c.args.party c.index-2.result.now (progress 0 0) many c.index-2.ensures in
    record {
      known = known;
      start = began xs c.args.party c.index.result.now c.args._within c.args.what c.requires.called.stage c.in-Some.from known c.index.ensures (sym c.place_for.ensures ∙ c.in-Some.is) stands c.requires.called.call c.requires.called.first;
      to = c.after.ensures ∙ ap position_after c.decide-next.ensures;
      finds = rw here at (rw c.action_at.ensures at c.carry_out-found.ensures.finds);
      words = rw c.action_at.ensures at c.carry_out-found.ensures.words;
      arrival = rw here at (rw c.action_at.ensures at c.carry_out-found.ensures.arrival);
      list = rw c.action_at.ensures at c.carry_out-found.ensures.list;
      lock = rw c.action_at.ensures at c.carry_out-found.ensures.lock;
    }

pub invariant_of-self : goal.invariant_of-self
invariant_of-self c =
    let d = did c in
    rw (d.to, d.words, d.arrival, d.list)
    (kept c.inputs.result c.args.party c.self.inside.words c.self.inside.positions.items c.self.inside.arrivals.items c.self.inside.list c.self.inside.lock c.carry_out-found.new.lock c.args._within c.in-Some.from c.carry_out-found.result
    c.self.invariant c.laws.ensures d.known d.start.fits d.finds d.lock)

pub returns-clause-acts : goal.returns-clause-acts
returns-clause-acts c =
    let d = did c in
    rw (← c.self.view_is)
    (record {
      from = c.in-Some.from;
      starts = d.start.starts;
      runs = d.start.fits.runs;
      found = c.carry_out-found.result;
      acts = record {
        finds = rw c.inputs.ensures at d.finds;
        words = d.words;
        arrivals = ap (set c.self.inside.arrivals.items c.args.party) d.arrival;
        entries = ap (λ q. q.entries) d.list;
        lock = rw c.inputs.ensures at d.lock;
        positions = ap (set c.self.inside.positions.items c.args.party) d.to;
      };
      falls = rw d.list (falls c.inputs.result c.args.party c.self.inside.words (arrival_at c.self.inside.arrivals.items c.args.party) c.self.inside.list.entries c.self.inside.lock c.carry_out-found.new.lock c.in-Some.from c.carry_out-found.result d.finds d.lock
          (entries_are c.args.party c.self.inside.words c.self.inside.positions.items c.self.inside.arrivals.items c.self.inside.list c.self.inside.lock c.self.invariant d.known c.args._within c.in-Some.from d.start.fits));
      answer = c.answer_to.ensures ∙ ap answer_by c.decide-next.ensures;
    })

pub returns-clause-keeps : goal.returns-clause-keeps
returns-clause-keeps c =
    let d = did c in
    let answered = c.answer_to.ensures ∙ ap answer_by c.decide-next.ensures in
    rw (← c.self.view_is) (rw answered
    (keeps c.inputs.result (record { words = c.self.inside.words; positions = c.self.inside.positions.items; arrivals = c.self.inside.arrivals.items; entries = c.self.inside.list.entries; lock = c.self.inside.lock }) _ c.args.party c.args._within c.in-Some.from c.carry_out-found.result c.requires.called.stage
    d.known d.start.fits (c.self.invariant.links c.args.party) d.lock (ap (set c.self.inside.positions.items c.args.party) d.to)))
