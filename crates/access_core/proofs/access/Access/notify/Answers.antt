use Rattle.words_base.specs.Lists.{Pays}
use Rattle.access_core.proofs.Returning.{gives}
use Rattle.access_core.proofs.access.Access.notify.Goals as goal

pub give_paid-found-requires-clause-lists : goal.give_paid-found-requires-clause-lists
give_paid-found-requires-clause-lists g c = gives c.take_out-found.new.inner.me c.take_out-found.ensures.held c.slot_mut-lists.result.now c.notify-due.new.self c.says-word.result c.slot_mut-lists.ensures.value c.says-word.ensures Pays c.args.side c.notify-due.ensures
