-- What a seat has that has taken the list out.
use Rattle.std.proofs.Common.{◌≡◌, ℕ, List, ◌∷◌, sym, ap, ◌∙◌}
use Rattle.atomic_table.specs.Table.{Me, rest}
use Rattle.words_permits.specs.Seats.{listing_of}
use Rattle.words_permits.specs.Steps.{IsHeld, IsSame}
use Rattle.words_permits.specs.Waiters.{Waiter, AreWaiters}
use Rattle.words_permits.specs.declared.view.View.{View}

-- the list is out now
pub held_of : {S : Type 0} (waiters_of : S → List Waiter) (marked_of : S → ℕ) (m m' : Me S View) (list : S) → m' ≡ (listing_of (waiters_of list) (marked_of list) m.0, (0, list) ∷ m.1) → AreWaiters (waiters_of list)
    → IsHeld waiters_of marked_of m' × IsSame m.0 m'.0 × (rest m'.1 ≡ m.1)
held_of {S} waiters_of marked_of m m' list e sound = (
  (list, ap (λ (n : Me S View). n.0.has_list) e, ap (λ (n : Me S View). n.0.waiters) e, ap (λ (n : Me S View). n.0.marked) e, ap (λ (n : Me S View). n.1) e ∙ ap (λ (n : Me S View). (0, list) ∷ rest n.1) (sym e), sound),
  (
    ap (λ (n : Me S View). n.0.permits) e,
    ap (λ (n : Me S View). n.0.under_way) e,
    ap (λ (n : Me S View). n.0.found) e,
    ap (λ (n : Me S View). n.0.limit) e,
    ap (λ (n : Me S View). n.0.added) e,
    ap (λ (n : Me S View). n.0.forgotten) e,
    ap (λ (n : Me S View). n.0.owes) e,
    ap (λ (n : Me S View). n.0.seen) e,
    ap (λ (n : Me S View). n.0.listed) e,
    ap (λ (n : Me S View). n.0.fresh) e,
    ap (λ (n : Me S View). n.0.entry) e,
    ap (λ (n : Me S View). n.0.weight) e,
  ),
  ap (λ (n : Me S View). rest n.1) e,
)
