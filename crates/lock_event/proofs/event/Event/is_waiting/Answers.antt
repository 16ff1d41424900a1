use Rattle.std.proofs.Common.{not, sym, ap, ◌∙◌}
use Rattle.lock_event.proofs.Ids.{not_waiting, named}
use Rattle.lock_event.proofs.event.Event.is_waiting.Goals as goal

pub returns-then-contains : goal.returns-then-contains
returns-then-contains g c =
    rw (← ap (λ v. v.entries) c.self.view_is) (ap not c.is_marked.ensures ∙ sym (named c.args.id c.self.inside.line.entries c.at.result.now c.at.ensures).waits)

pub returns-else-contains : goal.returns-else-contains
returns-else-contains g c =
    rw (← ap (λ v. v.entries) c.self.view_is) (c.if-contains.false ∙ sym (not_waiting c.args.id c.self.inside.line.entries (sym c.contains.ensures ∙ c.if-contains.false)))
