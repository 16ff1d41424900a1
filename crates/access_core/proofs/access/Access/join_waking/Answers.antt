use Rattle.words_base.specs.Lists.{Joins}
use Rattle.access_core.proofs.Returning.{gives, stays}
use Rattle.access_core.proofs.access.Access.join_waking.Goals as goal

pub give_joined-found-requires-clause-lists : goal.give_joined-found-requires-clause-lists
give_joined-found-requires-clause-lists g c = gives c.take_out-found.new.inner.me c.take_out-found.ensures.held c.slot_mut-lists.result.now c.join_waking-joined.new.self c.says-word.result c.slot_mut-lists.ensures.value c.says-word.ensures (Joins c.in-Ok.id.number) c.args.side c.in-Ok.ensures.joined

pub give_same-found-requires-clause-lists : goal.give_same-found-requires-clause-lists
give_same-found-requires-clause-lists g c = stays c.take_out-found.new.inner.me c.take_out-found.ensures.held c.slot_mut-lists.result.now c.join_waking-joined.new.self c.says-word.result c.slot_mut-lists.ensures.value c.says-word.ensures c.args.side c.in-Err.ensures.refused
