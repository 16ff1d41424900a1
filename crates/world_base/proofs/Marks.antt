-- Which list functions mark nobody.
use Rattle.world_base.proofs.Prelude.{◌≡◌, ◌≢◌, ℕ, Bool, true, false, List, [], ◌∷◌, if◌then◌else◌, arith, nat_tests, Entry, is_marked_at, joined, without, is_party}
use Rattle.world_base.specs.Marks.{MarksNobody}
use Rattle.world_base.specs.Steps.{asked}

join_marked : (q p : ℕ) (l : List (Entry ℕ)) → is_marked_at (is_party q) (joined l p) ≡ true → is_marked_at (is_party q) l ≡ true
join_marked q p [] h = grind (arith, nat_tests)
join_marked q p (e ∷ es) h = grind (arith, nat_tests, join_marked q p es)

without_marked : (q p : ℕ) (l : List (Entry ℕ)) → q ≢ p → is_marked_at (is_party q) (without (is_party p) l) ≡ true → is_marked_at (is_party q) l ≡ true
without_marked q p [] apart h = h
without_marked q p (e ∷ es) apart h = grind (arith, nat_tests, without_marked q p es)

pub joined_marks : (p : ℕ) (l : List (Entry ℕ)) → MarksNobody p l (joined l p)
joined_marks p l q apart h = join_marked q p l h

pub asked_marks : (p : ℕ) (l : List (Entry ℕ)) → MarksNobody p l (asked p l)
asked_marks p l q apart h = by_test (is_marked_at (is_party p) l) h where
  by_test : (b : Bool) → is_marked_at (is_party q) (if b then without (is_party p) l else l) ≡ true → is_marked_at (is_party q) l ≡ true
  by_test true h = without_marked q p l apart h
  by_test false h = h

-- one step after another
pub marks_more : (p : ℕ) (k l m : List (Entry ℕ)) → MarksNobody p k l → MarksNobody p l m → MarksNobody p k m
marks_more p k l m first second q apart h = first q apart (second q apart h)
