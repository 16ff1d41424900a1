use Rattle.std.proofs.Common.{◌≡◌, ◌≢◌, ℕ, IsSomeAnd, List, Option, Some, None, IfSome, get_or, refl, sym, ap, ◌∙◌}
use Rattle.std.proofs.lemmas.Option.{none-some, same_Some}
use Rattle.weighted_event.specs.declared.row.Item.{Item}
use Rattle.weighted_event.specs.Rows.{AreApart}
use Rattle.weighted_event.proofs.Kept.{noted, held_at, somewhere, past_one, Held}
use Rattle.weighted_event.proofs.row.place_of.Goals as goal

pub returns-then-key-places-clause-there : goal.returns-then-key-places-clause-there
returns-then-key-places-clause-there c = (noted c.args.items.now c.args.places.now c.args.key c.requires.apart c.requires.noted c.requires.listed c.if-key-places.true).there

pub returns-then-key-places-clause-out : goal.returns-then-key-places-clause-out
returns-then-key-places-clause-out c = (noted c.args.items.now c.args.places.now c.args.key c.requires.apart c.requires.noted c.requires.listed c.if-key-places.true).out

-- who was found
its : (items : List (Option Item)) (key at : ℕ) (o : Option Item) → AreApart items → get_or items at None ≡ o → IsSomeAnd o (λ x. x.key ≡ key) → Held items key at
its items key at None apart here is = absurd is
its items key at (Some x) apart here is = held_at items key at x apart here is

-- who was passed
others : (items : List (Option Item)) (key at : ℕ) (o : Option Item) → get_or items at None ≡ o → IfSome o (λ x. x.key ≢ key) → (y : Item) → get_or items at None ≡ Some y → y.key ≢ key
others items key at None here is y there = absurd (none-some y (sym here ∙ there))
others items key at (Some x) here is y there = λ same. is (ap (λ (z : Item). z.key) (same_Some x y (sym here ∙ there)) ∙ same)

pub returns-then-has_key-clause-out : goal.returns-then-has_key-clause-out
returns-then-has_key-clause-out c = (its c.args.items.now c.args.key c.loop-at.at (get_or c.args.items.now c.loop-at.at None) c.requires.apart refl c.if-has_key.ensures).out

pub unreachable-requires : goal.unreachable-requires
unreachable-requires c = somewhere c.args.items.now c.args.key c.loop-at.at c.requires.listed c.loop-at-test.false c.loop-at.invariant

pub loop-at-preserved : goal.loop-at-preserved
loop-at-preserved c =
    past_one c.args.items.now c.args.key c.loop-at.at c.loop-at.invariant (others c.args.items.now c.args.key c.loop-at.at (get_or c.args.items.now c.loop-at.at None) refl c.if-has_key.ensures)
