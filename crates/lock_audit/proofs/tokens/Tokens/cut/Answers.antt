-- A part with nothing is cut off each ledger, and nothing is left on it.
use Rattle.std.proofs.Common.{ap, arith, refl, sym, ◌∙◌}
use Rattle.lock_audit.specs.Ledgers.{Cut}
use Rattle.lock_audit.specs.Numbers.{Numbers}
use Rattle.lock_audit.proofs.Counting.{each_equal}
use Rattle.lock_audit.proofs.tokens.Tokens.cut.Goals as goal

pub returns-clause-numbers : goal.returns-clause-numbers
returns-clause-numbers g c = each_equal _ _ c.split_off.ensures.amount c.split_off-2.ensures.amount c.split_off-3.ensures.amount c.split_off-4.ensures.amount c.split_off-5.ensures.amount c.split_off-6.ensures.amount

pub returns-clause-left_numbers : goal.returns-clause-left_numbers
returns-clause-left_numbers g c =
    let none = ap {A = Cut} (λ t. t.numbers) c.self.view_is ∙ c.requires.nothing in
    each_equal _ _
    (omega (arith, c.split_off.ensures.amount_left, ap (λ (n : Numbers). n.moves) none))
    (omega (arith, c.split_off-2.ensures.amount_left, ap (λ (n : Numbers). n.calls) none))
    (omega (arith, c.split_off-3.ensures.amount_left, ap (λ (n : Numbers). n.grants) none))
    (omega (arith, c.split_off-4.ensures.amount_left, ap (λ (n : Numbers). n.refusals) none))
    (omega (arith, c.split_off-5.ensures.amount_left, ap (λ (n : Numbers). n.gives_back) none))
    (omega (arith, c.split_off-6.ensures.amount_left, ap (λ (n : Numbers). n.granted) none))

pub split_off-requires : goal.split_off-requires
split_off-requires g c =
    let none = ap (λ (n : Numbers). n.moves) (ap {A = Cut} (λ t. t.numbers) c.self.view_is ∙ c.requires.nothing) in
    record { has_parts = omega (arith, c.requires.some, ap {A = Cut} (λ t. t.parts) c.self.view_is); has_amount = omega arith; left_backed = λ _. sym none; given_backed = λ _. refl }

pub split_off-requires-2 : goal.split_off-requires-2
split_off-requires-2 g c =
    let none = ap (λ (n : Numbers). n.calls) (ap {A = Cut} (λ t. t.numbers) c.self.view_is ∙ c.requires.nothing) in
    record { has_parts = omega (arith, c.requires.some, ap {A = Cut} (λ t. t.parts) c.self.view_is, c.self.invariant.0); has_amount = omega arith; left_backed = λ _. sym none; given_backed = λ _. refl }

pub split_off-requires-3 : goal.split_off-requires-3
split_off-requires-3 g c =
    let none = ap (λ (n : Numbers). n.grants) (ap {A = Cut} (λ t. t.numbers) c.self.view_is ∙ c.requires.nothing) in
    record { has_parts = omega (arith, c.requires.some, ap {A = Cut} (λ t. t.parts) c.self.view_is, c.self.invariant.1); has_amount = omega arith; left_backed = λ _. sym none; given_backed = λ _. refl }

pub split_off-requires-4 : goal.split_off-requires-4
split_off-requires-4 g c =
    let none = ap (λ (n : Numbers). n.refusals) (ap {A = Cut} (λ t. t.numbers) c.self.view_is ∙ c.requires.nothing) in
    record { has_parts = omega (arith, c.requires.some, ap {A = Cut} (λ t. t.parts) c.self.view_is, c.self.invariant.2); has_amount = omega arith; left_backed = λ _. sym none; given_backed = λ _. refl }

pub split_off-requires-5 : goal.split_off-requires-5
split_off-requires-5 g c =
    let none = ap (λ (n : Numbers). n.gives_back) (ap {A = Cut} (λ t. t.numbers) c.self.view_is ∙ c.requires.nothing) in
    record { has_parts = omega (arith, c.requires.some, ap {A = Cut} (λ t. t.parts) c.self.view_is, c.self.invariant.3); has_amount = omega arith; left_backed = λ _. sym none; given_backed = λ _. refl }

pub split_off-requires-6 : goal.split_off-requires-6
split_off-requires-6 g c =
    let none = ap (λ (n : Numbers). n.granted) (ap {A = Cut} (λ t. t.numbers) c.self.view_is ∙ c.requires.nothing) in
    record { has_parts = omega (arith, c.requires.some, ap {A = Cut} (λ t. t.parts) c.self.view_is, c.self.invariant.4); has_amount = omega arith; left_backed = λ _. sym none; given_backed = λ _. refl }
