use Rattle.std.proofs.Common.{sym, ap, ◌∙◌}
use Rattle.lock_event.proofs.Ids.{is_listed-in}
use Rattle.weighted_event.proofs.weighted.WeightedEvent.contains.Goals as goal

pub returns : goal.returns
returns g c = rw (← ap (λ v. v.entries) c.self.view_is) (c.contains.ensures ∙ sym (is_listed-in c.args.id c.self.inside.chain.entries))
