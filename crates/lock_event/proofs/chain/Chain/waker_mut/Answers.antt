use Rattle.std.proofs.Common.{◌≡◌, true, refl, ap, ◌∙◌}
use Rattle.lock_event.specs.Chained.{Chained}
use Rattle.lock_event.specs.Chains.{entries_of, is_in, rewritten, with_waker}
use Rattle.lock_event.proofs.Chains.{IsChain-rewritten, entries_of-chain, closed, node_at}
use Rattle.lock_event.proofs.Lent.{put_changes}
use Rattle.lock_event.proofs.chain.Chain.waker_mut.Goals as goal

pub invariant_of-self-lent : goal.invariant_of-self-lent
invariant_of-self-lent g c w =
    let s = c.self.inside.slots.nodes in
    let listed : is_in c.args.key (entries_of s c.self.inside.first) ≡ true = ap (λ v. is_in c.args.key v.entries) c.self.view_is ∙ c.requires in
    let at = node_at s c.self.inside.first c.self.inside.last _ c.args.key c.self.invariant listed in
    closed _ _ _ _ (IsChain-rewritten s _ c.args.key (with_waker w) (λ e. refl) (put_changes s c.args.key w at.0 at.1) c.self.inside.first c.self.inside.last _ c.self.invariant)

pub returns : goal.returns
returns g c =
    let s = c.self.inside.slots.nodes in
    let view = ap (λ v. v.entries) c.self.view_is in
    let listed : is_in c.args.key (entries_of s c.self.inside.first) ≡ true = ap (λ v. is_in c.args.key v.entries) c.self.view_is ∙ c.requires in
    let at = node_at s c.self.inside.first c.self.inside.last _ c.args.key c.self.invariant listed in (
      (
        refl,
        λ w.
            ap {B = Chained g.row.W.Denot} (λ es. record { entries = es; room = s.capacity; visits = c.self.inside.slots.visits }) (entries_of-chain _ _ _ _ (IsChain-rewritten s _ c.args.key (with_waker w) (λ e. refl) (put_changes s c.args.key w at.0 at.1) c.self.inside.first c.self.inside.last _ c.self.invariant))
            ∙ ap {A = Chained g.row.W.Denot} {B = Chained g.row.W.Denot} (λ v. record v { entries = rewritten c.args.key (with_waker w) v.entries }) c.self.view_is,
      ),
      record { writes_back = tt; waker = rw (← view, at.2) (rw at.1 at c.waker_mut.ensures.waker) },
    )
