use Rattle.std.proofs.Common.{ap, ◌∙◌}
use Rattle.cell_core.proofs.Returning.{leaves}
use Rattle.cell_core.proofs.cell.RawCell.leave.Goals as goal

pub give_gone-found-requires-clause-lists : goal.give_gone-found-requires-clause-lists
give_gone-found-requires-clause-lists g c = leaves c.take_out-found.new.inner.me c.take_out-found.ensures.held c.slot_mut-lists.result.now c.leave-kept.new.self c.says-word.result c.slot_mut-lists.ensures.value c.says-word.ensures c.args.list c.args.id.number c.leave-kept.ensures (c.take_out-found.ensures.same.4 ∙ ap (λ s. s.in_active) c.seat.view_is ∙ c.requires.stands.0, c.take_out-found.ensures.same.5 ∙ ap (λ s. s.in_passive) c.seat.view_is ∙ c.requires.stands.1, c.take_out-found.ensures.same.7 ∙ ap (λ s. s.entry) c.seat.view_is ∙ c.requires.stands.2)
