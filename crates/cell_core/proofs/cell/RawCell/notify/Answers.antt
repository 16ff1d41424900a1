use Rattle.cell_core.proofs.Returning.{pays}
use Rattle.cell_core.proofs.cell.RawCell.notify.Goals as goal

pub give_notified-found-requires-clause-lists : goal.give_notified-found-requires-clause-lists
give_notified-found-requires-clause-lists g c = pays c.take_out-found.new.inner.me c.take_out-found.ensures.held c.slot_mut-lists.result.now c.notify-due.new.self c.says-word.result c.slot_mut-lists.ensures.value c.says-word.ensures c.args.list c.notify-due.ensures
