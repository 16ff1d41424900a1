-- What a listed party has been told.
use Rattle.world_base.proofs.Prelude.{◌≡◌, ℕ, false, List, [], ◌∷◌, Some, refl, arith, nat_tests, Entry, Mark, Waiting, Notified, Additional, mark_at, is_marked, is_marked_at, is_party, entries_of}

unmarked : (m : Mark) → is_marked m ≡ false → m ≡ Waiting
unmarked Waiting h = refl
unmarked Notified h = absurd (cc)
unmarked Additional h = absurd (cc)

-- a party that stands in the list without a mark waits
pub waits_at : (p : ℕ) (l : List (Entry ℕ)) → entries_of p l ≡ 1 → is_marked_at (is_party p) l ≡ false → mark_at (is_party p) l ≡ Some Waiting
waits_at p [] one un = absurd (omega arith)
waits_at p (e ∷ es) one un = grind (arith, nat_tests, unmarked e.mark, waits_at p es)
