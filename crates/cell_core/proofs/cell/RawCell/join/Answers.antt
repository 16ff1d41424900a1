use Rattle.cell_core.proofs.Returning.{joins, stays}
use Rattle.cell_core.proofs.cell.RawCell.join.Goals as goal

pub give_joined-found-requires-clause-lists : goal.give_joined-found-requires-clause-lists
give_joined-found-requires-clause-lists g c = joins c.take_out-found.new.inner.me c.take_out-found.ensures.held c.slot_mut-lists.result.now c.join-joined.new.self c.says-word.result c.slot_mut-lists.ensures.value c.says-word.ensures c.args.list c.in-Ok.id.number c.in-Ok.ensures.joined

pub give_same-found-requires-clause-lists : goal.give_same-found-requires-clause-lists
give_same-found-requires-clause-lists g c = stays c.take_out-found.new.inner.me c.take_out-found.ensures.held c.slot_mut-lists.result.now c.join-joined.new.self c.says-word.result c.slot_mut-lists.ensures.value c.says-word.ensures c.in-Err.ensures.refused
