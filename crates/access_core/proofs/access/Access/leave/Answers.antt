use Rattle.std.proofs.Common.{ap, ◌∙◌}
use Rattle.words_base.specs.Lists.{HandsOn}
use Rattle.access_core.proofs.Returning.{own}
use Rattle.access_core.proofs.access.Access.leave.Goals as goal

pub give_left-found-requires-clause-lists : goal.give_left-found-requires-clause-lists
give_left-found-requires-clause-lists g c = own c.take_out-found.new.inner.me c.take_out-found.ensures.held c.slot_mut-lists.result.now c.leave-kept.new.self c.says-word.result c.slot_mut-lists.ensures.value c.says-word.ensures HandsOn c.args.side c.args.id.number (c.take_out-found.ensures.same.8 ∙ ap (λ s. s.entry) c.seat.view_is ∙ c.requires.stands.1) c.leave-kept.ensures
