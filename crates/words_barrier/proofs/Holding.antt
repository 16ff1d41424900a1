-- What a seat has that has taken the list out.
use Rattle.std.proofs.Common.{◌≡◌, ℕ, ◌∷◌, sym, ap, ◌∙◌}
use Rattle.atomic_table.specs.Table.{Me, rest}
use Rattle.words_base.specs.Lists.{Listed}
use Rattle.words_base.specs.Waiting.{last_of}
use Rattle.words_base.proofs.Holding.{same_out}
use Rattle.words_base.proofs.Waiting.{last-pushed}
use Rattle.words_barrier.specs.Seats.{listing_of, joined_of}
use Rattle.words_barrier.specs.Steps.{IsHeld, IsSame, CanJoin}
use Rattle.words_barrier.specs.declared.view.View.{View}

-- the list is out now
pub held_of : {S : Type 0} (listed_of : S → Listed) (m m' : Me S View) (list : S) → m' ≡ (listing_of (listed_of list) m.0, (0, list) ∷ m.1) → IsHeld listed_of m' × IsSame m.0 m'.0 × (rest m'.1 ≡ m.1)
held_of {S} listed_of m m' list e = (
  (
    list,
    ap (λ (n : Me S View). n.0.has_list) e,
    ap (λ (n : Me S View). n.0.list) e,
    ap (λ (n : Me S View). n.1) e ∙ ap (λ (n : Me S View). (0, list) ∷ rest n.1) (sym e),
  ),
  (
    ap (λ (n : Me S View). n.0.owes) e,
    ap (λ (n : Me S View). n.0.listed) e,
    ap (λ (n : Me S View). n.0.fresh) e,
    ap (λ (n : Me S View). n.0.counted) e,
    ap (λ (n : Me S View). n.0.led) e,
    ap (λ (n : Me S View). n.0.entry) e,
    ap (λ (n : Me S View). n.0.found) e,
    ap (λ (n : Me S View). n.0.generation) e,
  ),
  ap (λ (n : Me S View). rest n.1) e,
)

-- whoever stands last has this number
pub joined_same : {S : Type 0} (listed_of : S → Listed) (m : Me S View) (n k : ℕ) → CanJoin listed_of m n k → (m' : Me S View) → (list : S) × (m.1 ≡ (0, list) ∷ rest m.1) × (m' ≡ (joined_of (last_of (listed_of list).entries) m.0, rest m.1)) → m' ≡ (joined_of k m.0, rest m.1)
joined_same listed_of m n k c m' t = t.2 ∙ ap (λ j. (joined_of j m.0, rest m.1)) (ap (λ l. last_of (listed_of l).entries) (same_out t.0 c.0 m.1 (rest m.1) t.1 c.1.1) ∙ ap last_of c.2.entries ∙ last-pushed k m.0.list.entries)
