use Rattle.cell_core.proofs.Returning.{stays}
use Rattle.cell_core.proofs.cell.RawCell.pay_next.Goals as goal

pub give_same-found-requires-clause-lists : goal.give_same-found-requires-clause-lists
give_same-found-requires-clause-lists g c = stays c.take_out-found.new.inner.me c.take_out-found.ensures.held c.slot_mut-lists.result.now c.next_due-due.new.self c.says-word.result c.slot_mut-lists.ensures.value c.says-word.ensures c.next_due-due.ensures
