-- Each number grows by what the move counts.
use Rattle.std.proofs.Common.{ℕ, ◌<◌, ap, arith, subst, sym, ◌∙◌}
use Rattle.lock_audit.specs.Ledgers.{Cut}
use Rattle.lock_audit.proofs.Counting.{each_equal}
use Rattle.lock_audit.proofs.tokens.Totals.count.Goals as goal

pub returns-clause-totals : goal.returns-clause-totals
returns-clause-totals g c = rw (← c.self.view_is)
    (each_equal _ _
    (omega (arith, c.add.ensures.total))
    (omega (arith, c.add-2.ensures.total, c.calls.ensures))
    (omega (arith, c.add-3.ensures.total, c.grants.ensures))
    (omega (arith, c.add-4.ensures.total, c.refusals.ensures))
    (omega (arith, c.add-5.ensures.total, c.gives_back.ensures))
    (omega (arith, c.add-6.ensures.total, c.granted.ensures)))

pub returns-clause-numbers : goal.returns-clause-numbers
returns-clause-numbers g c = rw (← c.tokens.view_is)
    (each_equal _ _
    (omega (arith, c.add.ensures.amount))
    (omega (arith, c.add-2.ensures.amount, c.calls.ensures))
    (omega (arith, c.add-3.ensures.amount, c.grants.ensures))
    (omega (arith, c.add-4.ensures.amount, c.refusals.ensures))
    (omega (arith, c.add-5.ensures.amount, c.gives_back.ensures))
    (omega (arith, c.add-6.ensures.amount, c.granted.ensures)))

pub add-requires : goal.add-requires
add-requires g c = subst (λ (n : ℕ). 0 < n) (sym (ap {A = Cut} (λ t. t.parts) c.tokens.view_is)) c.requires

pub add-requires-2 : goal.add-requires-2
add-requires-2 g c = subst (λ (n : ℕ). 0 < n) (sym (c.tokens.invariant.0 ∙ ap {A = Cut} (λ t. t.parts) c.tokens.view_is)) c.requires

pub add-requires-3 : goal.add-requires-3
add-requires-3 g c = subst (λ (n : ℕ). 0 < n) (sym (c.tokens.invariant.1 ∙ ap {A = Cut} (λ t. t.parts) c.tokens.view_is)) c.requires

pub add-requires-4 : goal.add-requires-4
add-requires-4 g c = subst (λ (n : ℕ). 0 < n) (sym (c.tokens.invariant.2 ∙ ap {A = Cut} (λ t. t.parts) c.tokens.view_is)) c.requires

pub add-requires-5 : goal.add-requires-5
add-requires-5 g c = subst (λ (n : ℕ). 0 < n) (sym (c.tokens.invariant.3 ∙ ap {A = Cut} (λ t. t.parts) c.tokens.view_is)) c.requires

pub add-requires-6 : goal.add-requires-6
add-requires-6 g c = subst (λ (n : ℕ). 0 < n) (sym (c.tokens.invariant.4 ∙ ap {A = Cut} (λ t. t.parts) c.tokens.view_is)) c.requires
