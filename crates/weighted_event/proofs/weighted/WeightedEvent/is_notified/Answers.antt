use Rattle.std.proofs.Common.{◌≡◌, true, sym, ap, ◌∙◌}
use Rattle.lock_event.specs.Lists.{is_listed}
use Rattle.lock_event.specs.Slots.{has_id}
use Rattle.lock_event.proofs.Ids.{is_listed-in, named}
use Rattle.weighted_event.proofs.weighted.WeightedEvent.is_notified.Goals as goal

pub at-requires : goal.at-requires
at-requires g c =
    let view = ap (λ v. v.entries) c.self.view_is in
    let listed : is_listed (has_id c.args.id) c.self.inside.chain.entries ≡ true = rw view c.requires in
    sym (is_listed-in c.args.id c.self.inside.chain.entries) ∙ listed

pub returns : goal.returns
returns g c =
    rw (← ap (λ v. v.entries) c.self.view_is) (c.is_marked.ensures ∙ sym (named c.args.id c.self.inside.chain.entries c.at.result.now c.at.ensures).marked)
