use Rattle.std.proofs.Common.{ap, ◌∙◌}
use Rattle.barrier_core.proofs.Returning.{stays, leaves}
use Rattle.barrier_core.proofs.raw.RawBarrier.ask.Goals as goal

pub give_same-found-requires-clause-list : goal.give_same-found-requires-clause-list
give_same-found-requires-clause-list g c = stays c.take_out-found.new.inner.me c.take_out-found.ensures.held c.slot_mut-list.result.now (record c.slot_mut-list.result.now { queue = c.ask-heard.new.self }) c.says-word.result c.slot_mut-list.ensures.value c.says-word.ensures c.in-Waits.ensures.asked.0

pub give_gone-found-requires-clause-list : goal.give_gone-found-requires-clause-list
give_gone-found-requires-clause-list g c = leaves c.take_out-found.new.inner.me c.take_out-found.ensures.held c.slot_mut-list.result.now (record c.slot_mut-list.result.now { queue = c.ask-heard.new.self }) c.says-word.result c.slot_mut-list.ensures.value c.says-word.ensures c.args.id.number (c.take_out-found.ensures.same.5 ∙ ap (λ s. s.entry) c.seat.view_is ∙ c.requires.own.1) c.in-Told.ensures.asked
