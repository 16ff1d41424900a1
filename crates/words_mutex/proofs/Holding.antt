-- What a seat has that has taken the list out.
use Rattle.std.proofs.Common.{◌≡◌, ℕ, List, ◌∷◌, sym, ap, ◌∙◌}
use Rattle.atomic_table.specs.Table.{Me, rest}
use Rattle.words_base.specs.Waiting.{last_of}
use Rattle.words_base.proofs.Holding.{same_out}
use Rattle.words_base.proofs.Waiting.{last-pushed}
use Rattle.words_mutex.specs.Seats.{listing_of, joined_of}
use Rattle.words_mutex.specs.Steps.{IsHeld, IsSame, CanJoin}
use Rattle.words_mutex.specs.declared.view.View.{View}

-- the list is out now
pub held_of : {S : Type 0} (entries_of : S → List ℕ) (marked_of : S → ℕ) (m m' : Me S View) (list : S) → m' ≡ (listing_of (entries_of list) (marked_of list) m.0, (0, list) ∷ m.1) → IsHeld entries_of marked_of m' × IsSame m.0 m'.0 × (rest m'.1 ≡ m.1)
held_of {S} entries_of marked_of m m' list e = (
  (list, ap (λ (n : Me S View). n.0.has_list) e, ap (λ (n : Me S View). n.0.entries) e, ap (λ (n : Me S View). n.0.marked) e, ap (λ (n : Me S View). n.1) e ∙ ap (λ (n : Me S View). (0, list) ∷ rest n.1) (sym e)),
  (
    ap (λ (n : Me S View). n.0.holds) e,
    ap (λ (n : Me S View). n.0.starved) e,
    ap (λ (n : Me S View). n.0.owes) e,
    ap (λ (n : Me S View). n.0.listed) e,
    ap (λ (n : Me S View). n.0.fresh) e,
    ap (λ (n : Me S View). n.0.entry) e,
    ap (λ (n : Me S View). n.0.room) e,
    ap (λ (n : Me S View). n.0.deed) e,
    ap (λ (n : Me S View). n.0.found) e,
  ),
  ap (λ (n : Me S View). rest n.1) e,
)

-- whoever stands last has this number
pub joined_same : {S : Type 0} (entries_of : S → List ℕ) (marked_of : S → ℕ) (m : Me S View) (n k : ℕ) → CanJoin entries_of marked_of m n k → (m' : Me S View) → (list : S) × (m.1 ≡ (0, list) ∷ rest m.1) × (m' ≡ (joined_of (last_of (entries_of list)) m.0, rest m.1)) → m' ≡ (joined_of k m.0, rest m.1)
joined_same entries_of marked_of m n k c m' t = t.2 ∙ ap (λ j. (joined_of j m.0, rest m.1)) (ap (λ l. last_of (entries_of l)) (same_out t.0 c.0 m.1 (rest m.1) t.1 c.1.1) ∙ ap last_of c.3 ∙ last-pushed k m.0.entries)
