-- What a seat has that has taken the lists out.
use Rattle.std.proofs.Common.{◌≡◌, ℕ, ◌∷◌, sym, ap, ◌∙◌}
use Rattle.atomic_table.specs.Table.{Me, rest}
use Rattle.words_base.specs.Lists.{Listed}
use Rattle.words_base.specs.Waiting.{last_of}
use Rattle.words_cell.specs.Seats.{listing_of, joined_active_of, joined_passive_of}
use Rattle.words_cell.specs.Steps.{IsHeld, IsSame, CanJoinActive, CanJoinPassive}
use Rattle.words_base.proofs.Holding.{same_out}
use Rattle.words_base.proofs.Waiting.{last-pushed}
use Rattle.words_cell.specs.declared.view.View.{View}

-- the lists are out now
pub held_of : {S : Type 0} (active_of passive_of : S → Listed) (m m' : Me S View) (lists : S) → m' ≡ (listing_of (active_of lists) (passive_of lists) m.0, (0, lists) ∷ m.1)
    → IsHeld active_of passive_of m' × IsSame m.0 m'.0 × (rest m'.1 ≡ m.1)
held_of {S} active_of passive_of m m' lists e = (
  (
    lists,
    ap (λ (n : Me S View). n.0.has_lists) e,
    ap (λ (n : Me S View). n.0.active) e,
    ap (λ (n : Me S View). n.0.passive) e,
    ap (λ (n : Me S View). n.1) e ∙ ap (λ (n : Me S View). (0, lists) ∷ rest n.1) (sym e),
  ),
  (
    ap (λ (n : Me S View). n.0.makes) e,
    ap (λ (n : Me S View). n.0.owes) e,
    ap (λ (n : Me S View). n.0.owes_active) e,
    ap (λ (n : Me S View). n.0.owes_passive) e,
    ap (λ (n : Me S View). n.0.in_active) e,
    ap (λ (n : Me S View). n.0.in_passive) e,
    ap (λ (n : Me S View). n.0.fresh) e,
    ap (λ (n : Me S View). n.0.entry) e,
    ap (λ (n : Me S View). n.0.found) e,
    ap (λ (n : Me S View). n.0.taken) e,
  ),
  ap (λ (n : Me S View). rest n.1) e,
)

module _ {S : Type 0} (active_of passive_of : S → Listed) (m : Me S View) (n k : ℕ) where
  pub joined_active_same : CanJoinActive active_of passive_of m n k → (m' : Me S View) → (lists : S) × (m.1 ≡ (0, lists) ∷ rest m.1) × (m' ≡ (joined_active_of (last_of (active_of lists).entries) m.0, rest m.1)) → m' ≡ (joined_active_of k m.0, rest m.1)
  joined_active_same c m' t = t.2 ∙ ap (λ j. (joined_active_of j m.0, rest m.1)) (ap (λ l. last_of (active_of l).entries) (same_out t.0 c.0 m.1 (rest m.1) t.1 c.1.1) ∙ ap last_of (c.2).entries ∙ last-pushed k m.0.active.entries)

  pub joined_passive_same : CanJoinPassive active_of passive_of m n k → (m' : Me S View) → (lists : S) × (m.1 ≡ (0, lists) ∷ rest m.1) × (m' ≡ (joined_passive_of (last_of (passive_of lists).entries) m.0, rest m.1)) → m' ≡ (joined_passive_of k m.0, rest m.1)
  joined_passive_same c m' t = t.2 ∙ ap (λ j. (joined_passive_of j m.0, rest m.1)) (ap (λ l. last_of (passive_of l).entries) (same_out t.0 c.0 m.1 (rest m.1) t.1 c.1.1) ∙ ap last_of (c.3).entries ∙ last-pushed k m.0.passive.entries)
