use Rattle.std.proofs.Common.{◌≡◌, true, false, IfSome, ap, ◌∙◌}
use Rattle.lock_event.specs.Lists.{is_marked}
use Rattle.lock_event.specs.Chains.{is_in, at_slot}
use Rattle.lock_event.proofs.Lines.{IsTracked-waker_if}
use Rattle.lock_event.proofs.line.Line.waker_mut.Goals as goal

pub invariant_of-self-lent : goal.invariant_of-self-lent
invariant_of-self-lent g c w =
    let listed : is_in c.args.key c.self.inside.chain.entries ≡ true = ap (λ v. is_in c.args.key v.entries) c.self.view_is ∙ c.requires.listed in
    let waits : IfSome (at_slot c.args.key c.self.inside.chain.entries) (λ e. is_marked e.mark ≡ false) = rw (ap (λ v. v.entries) c.self.view_is) c.requires.waits in
    IsTracked-waker_if c.args.key w c.self.inside.chain.entries c.self.inside.waiting c.self.inside.due c.self.inside.marked c.self.invariant listed waits
