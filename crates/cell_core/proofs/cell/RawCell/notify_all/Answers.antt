use Rattle.cell_core.proofs.Returning.{pays_all}
use Rattle.cell_core.proofs.cell.RawCell.notify_all.Goals as goal

pub give_all_notified-found-requires-clause-lists : goal.give_all_notified-found-requires-clause-lists
give_all_notified-found-requires-clause-lists g c = pays_all c.take_out-found.new.inner.me c.take_out-found.ensures.held c.slot_mut-lists.result.now c.notify_all-due.new.self c.says-word.result c.slot_mut-lists.ensures.value c.says-word.ensures c.args.list c.notify_all-due.ensures
