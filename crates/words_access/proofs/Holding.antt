-- What a seat has that has taken the lists out.
use Rattle.std.proofs.Common.{◌≡◌, ℕ, ◌∷◌, sym, ap, ◌∙◌}
use Rattle.atomic_table.specs.Table.{Me, rest}
use Rattle.words_base.specs.Waiting.{last_of}
use Rattle.words_base.specs.Lists.{Listed, Joins}
use Rattle.words_base.proofs.Waiting.{last-pushed}
use Rattle.words_base.proofs.Holding.{same_out}
use Rattle.words_access.specs.Seats.{listing_of, joined_readers_of, joined_writer_of}
use Rattle.words_access.specs.Steps.{IsHeld, IsSame, CanJoinReaders, CanJoinWriter}
use Rattle.words_access.specs.declared.view.View.{View}

-- the lists are out now
pub held_of : {S : Type 0} (readers_of writer_of : S → Listed) (m m' : Me S View) (lists : S) → m' ≡ (listing_of (readers_of lists) (writer_of lists) m.0, (0, lists) ∷ m.1)
    → IsHeld readers_of writer_of m' × IsSame m.0 m'.0 × (rest m'.1 ≡ m.1)
held_of {S} readers_of writer_of m m' lists e = (
  (
    lists,
    ap (λ (n : Me S View). n.0.has_lists) e,
    ap (λ (n : Me S View). n.0.readers) e,
    ap (λ (n : Me S View). n.0.writer) e,
    ap (λ (n : Me S View). n.1) e ∙ ap (λ (n : Me S View). (0, lists) ∷ rest n.1) (sym e),
  ),
  (
    ap (λ (n : Me S View). n.0.marks) e,
    ap (λ (n : Me S View). n.0.reads) e,
    ap (λ (n : Me S View). n.0.writes) e,
    ap (λ (n : Me S View). n.0.owes_readers) e,
    ap (λ (n : Me S View). n.0.owes_writer) e,
    ap (λ (n : Me S View). n.0.in_readers) e,
    ap (λ (n : Me S View). n.0.in_writer) e,
    ap (λ (n : Me S View). n.0.fresh) e,
    ap (λ (n : Me S View). n.0.entry) e,
    ap (λ (n : Me S View). n.0.found) e,
  ),
  ap (λ (n : Me S View). rest n.1) e,
)

-- whoever has joined a list is its last
pub joined_last : (k : ℕ) (old new : Listed) → Joins k old new → last_of new.entries ≡ k
joined_last k old new j = ap last_of j.entries ∙ last-pushed k old.entries

module _ {S : Type 0} (readers_of writer_of : S → Listed) (m : Me S View) (n k : ℕ) where
  pub joined_readers_same : CanJoinReaders readers_of writer_of m n k → (m' : Me S View) → (lists : S) × (m.1 ≡ (0, lists) ∷ rest m.1) × (m' ≡ (joined_readers_of (last_of (readers_of lists).entries) m.0, rest m.1)) → m' ≡ (joined_readers_of k m.0, rest m.1)
  joined_readers_same c m' t = t.2 ∙ ap (λ j. (joined_readers_of j m.0, rest m.1)) (ap (λ l. last_of (readers_of l).entries) (same_out t.0 c.0 m.1 (rest m.1) t.1 c.1.1) ∙ joined_last k _ _ c.2)

  pub joined_writer_same : CanJoinWriter readers_of writer_of m n k → (m' : Me S View) → (lists : S) × (m.1 ≡ (0, lists) ∷ rest m.1) × (m' ≡ (joined_writer_of (last_of (writer_of lists).entries) m.0, rest m.1)) → m' ≡ (joined_writer_of k m.0, rest m.1)
  joined_writer_same c m' t = t.2 ∙ ap (λ j. (joined_writer_of j m.0, rest m.1)) (ap (λ l. last_of (writer_of l).entries) (same_out t.0 c.0 m.1 (rest m.1) t.1 c.1.1) ∙ joined_last k _ _ c.3)
