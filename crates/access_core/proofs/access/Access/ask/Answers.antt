use Rattle.std.proofs.Common.{ap, ◌∙◌}
use Rattle.words_base.specs.Lists.{Leaves}
use Rattle.access_core.proofs.Returning.{own, stays}
use Rattle.access_core.proofs.access.Access.ask.Goals as goal

pub give_same-found-requires-clause-lists : goal.give_same-found-requires-clause-lists
give_same-found-requires-clause-lists g c = stays c.take_out-found.new.inner.me c.take_out-found.ensures.held c.slot_mut-lists.result.now c.ask-heard.new.self c.says-word.result c.slot_mut-lists.ensures.value c.says-word.ensures c.args.side c.in-Waits.ensures.asked

pub give_told-found-requires-clause-lists : goal.give_told-found-requires-clause-lists
give_told-found-requires-clause-lists g c = own c.take_out-found.new.inner.me c.take_out-found.ensures.held c.slot_mut-lists.result.now c.ask-heard.new.self c.says-word.result c.slot_mut-lists.ensures.value c.says-word.ensures Leaves c.args.side c.args.id.number (c.take_out-found.ensures.same.8 ∙ ap (λ s. s.entry) c.seat.view_is ∙ c.requires.stands.1) c.in-Told.ensures.asked
