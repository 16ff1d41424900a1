-- An action of one party is one of its program, and keeps what always holds of the pool.
use Rattle.world_pool.proofs.Prelude.{◌≡◌, ◌<◌, true, None, length, arith, ap, sym, ◌∙◌, set, get_or-set_same, vec_capacity, action_of, next_of, position_after, OnPermits, OnLock, OnItems, answer_by, goes_with, position_at, lease_at, Pool}
use Rattle.world_pool.proofs.of_machine.Starts.{Began, began, read_at}
use Rattle.world_pool.proofs.of_machine.Falls.{falls}
use Rattle.world_pool.proofs.of_machine.Kept.{can_items, kept, keeps}
use Rattle.world_pool.proofs.machine.pool.PoolMachine.act.Goals as goal

pub on_items-requires : goal.on_items-requires
on_items-requires c =
    let xs = c.self.inside.positions.items in
    let ls = c.self.inside.leases.items in
    let s : Pool = record { items = c.self.inside.items.items; leases = ls; positions = xs; permits = c.self.inside.permits; lock = c.self.inside.lock } in
    let known : c.args.party < length xs = rw (ap (λ (s : Pool). length s.positions) c.self.view_is) c.requires.known in
    let inside : c.args.party < length ls = rw c.self.invariant.as_many known in
    let stands : goes_with c.requires.called.stage (position_at xs c.args.party) ≡ true = rw (← c.self.view_is) at c.requires.called.stands in
    let b = began xs c.args.party c.index.result.now c.args._within c.args.what c.requires.called.stage c.in-Some.from known c.index.ensures (sym c.place_for.ensures ∙ c.in-Some.is) stands c.requires.called.call c.requires.called.first in
    let here : c.index-2.result.now ≡ lease_at ls c.args.party = read_at ls c.args.party c.index-2.result.now None inside c.index-2.ensures in
    rw (c.action_at-action.ensures, here) (can_items c.args.party s (vec_capacity c.self.inside.items) c.self.invariant c.laws.ensures known c.args._within c.in-Some.from b.fits)

-- what the action did, in the words of the lemmas
abbrev before : goal.After-answer_to → Pool
before c = record { items = c.self.inside.items.items; leases = c.self.inside.leases.items; positions = c.self.inside.positions.items; permits = c.self.inside.permits; lock = c.self.inside.lock }

abbrev then : goal.After-answer_to → Pool
then c = record { items = c.on_items.new.items.items; leases = set c.self.inside.leases.items c.args.party c.on_items.new.lease; positions = set c.self.inside.positions.items c.args.party (position_after (next_of c.in-Some.from c.on_locks-found.result)); permits = c.on_locks-found.new.permits; lock = c.on_locks-found.new.lock }

record Did (c : goal.After-answer_to) : Type 0 where
  known : c.args.party < length c.self.inside.positions.items
  inside : c.args.party < length c.self.inside.leases.items
  begins : Began c.self.inside.positions.items c.args.party c.args._within c.args.what c.in-Some.from
  to : c.after.result ≡ position_after (next_of c.in-Some.from c.on_locks-found.result)
  permits : OnPermits c.inputs.result c.args.party (action_of c.in-Some.from) c.on_locks-found.result c.self.inside.permits c.on_locks-found.new.permits
  lock : OnLock c.inputs.result c.args.party (action_of c.in-Some.from) c.on_locks-found.result c.self.inside.lock c.on_locks-found.new.lock
  items : OnItems (action_of c.in-Some.from) c.self.inside.items.items (lease_at c.self.inside.leases.items c.args.party) c.on_items.new.items.items c.on_items.new.lease

did : (c : goal.After-answer_to) → Did c
did c =
    let xs = c.self.inside.positions.items in
    let ls = c.self.inside.leases.items in
    let known : c.args.party < length xs = rw (ap (λ (s : Pool). length s.positions) c.self.view_is) c.requires.known in
    let inside : c.args.party < length ls = rw c.self.invariant.as_many known in
    let stands : goes_with c.requires.called.stage (position_at xs c.args.party) ≡ true = rw (← c.self.view_is) at c.requires.called.stands in
    let here : c.index-2.result.now ≡ lease_at ls c.args.party = read_at ls c.args.party c.index-2.result.now None inside c.index-2.ensures in
    record {
      known = known;
      inside = inside;
      begins = began xs c.args.party c.index.result.now c.args._within c.args.what c.requires.called.stage c.in-Some.from known c.index.ensures (sym c.place_for.ensures ∙ c.in-Some.is) stands c.requires.called.call c.requires.called.first;
      to = c.after.ensures ∙ ap position_after c.decide-next.ensures;
      permits = rw c.action_at-action.ensures at c.on_locks-found.ensures.permits;
      lock = rw c.action_at-action.ensures at c.on_locks-found.ensures.lock;
      items = rw here at (rw c.action_at-action.ensures at c.on_items.ensures.items);
    }

pub invariant_of-self : goal.invariant_of-self
invariant_of-self c =
    let d = did c in
    rw d.to
    (kept c.inputs.result c.args.party (before c) (vec_capacity c.self.inside.items) c.self.invariant c.laws.ensures d.known c.args._within c.in-Some.from d.begins.fits c.on_locks-found.result
    c.on_locks-found.new.permits c.on_locks-found.new.lock c.on_items.new.items.items c.on_items.new.lease d.permits d.lock d.items (vec_capacity c.on_items.new.items) (omega (arith, c.on_items.ensures.room)))

pub returns-clause-acts : goal.returns-clause-acts
returns-clause-acts c =
    let d = did c in
    let own : lease_at (set c.self.inside.leases.items c.args.party c.on_items.new.lease) c.args.party ≡ c.on_items.new.lease = get_or-set_same c.self.inside.leases.items c.args.party c.on_items.new.lease None d.inside in
    rw (← c.self.view_is)
    (record {
      from = c.in-Some.from;
      starts = d.begins.starts;
      runs = d.begins.fits.runs;
      found = c.on_locks-found.result;
      acts = record {
        permits = rw c.inputs.ensures at d.permits;
        lock = rw c.inputs.ensures at d.lock;
        items = rw own d.items;
        leases = ap (set c.self.inside.leases.items c.args.party) (sym own);
        positions = ap (set c.self.inside.positions.items c.args.party) d.to;
      };
      falls = falls c.inputs.result c.args.party c.self.inside.permits c.on_locks-found.new.permits c.self.inside.lock c.on_locks-found.new.lock c.in-Some.from c.on_locks-found.result d.permits d.lock;
      answer = rw own (c.answer_to.ensures ∙ ap (λ n. answer_by n c.on_items.new.lease) c.decide-next.ensures);
    })

pub returns-clause-keeps : goal.returns-clause-keeps
returns-clause-keeps c =
    let d = did c in
    let answered = c.answer_to.ensures ∙ ap (λ n. answer_by n c.on_items.new.lease) c.decide-next.ensures in
    rw (← c.self.view_is) (rw (answered, d.to)
    (keeps c.inputs.result c.args.party (before c) (vec_capacity c.self.inside.items) c.self.invariant c.laws.ensures d.known c.args._within c.in-Some.from d.begins.fits c.on_locks-found.result
    c.on_locks-found.new.permits c.on_locks-found.new.lock c.on_items.new.items.items c.on_items.new.lease d.permits d.lock d.items))
