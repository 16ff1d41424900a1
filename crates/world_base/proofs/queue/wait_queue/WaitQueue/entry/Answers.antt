use Rattle.world_base.proofs.Prelude.{◌≤◌, ap, arith, length, sym, slice_get_past, party_of}
use Rattle.world_base.proofs.of_queue.Rekeyed.{length-rekeyed, slice_get-rekeyed}
use Rattle.world_base.proofs.queue.wait_queue.WaitQueue.entry.Goals as goal

pub entry-entry-requires : goal.entry-entry-requires
entry-entry-requires c =
    let seen = ap (λ q. length q.entries) c.self.view_is in
    omega (arith, seen, length-rekeyed party_of c.self.inside.list.entries, c.len.ensures, c.if-index-len.true)

pub returns-then-index-len : goal.returns-then-index-len
returns-then-index-len c =
    let there = slice_get-rekeyed party_of c.self.inside.list.entries c.args.index c.entry-entry.result.now c.entry-entry.ensures in
    rw (← c.self.view_is, c.party.ensures) (sym there)

pub returns-else-index-len : goal.returns-else-index-len
returns-else-index-len c =
    let past : length c.args.self.now.entries ≤ c.args.index = omega (arith, c.len.ensures, c.if-index-len.false) in
    sym (slice_get_past c.args.self.now.entries c.args.index past)
