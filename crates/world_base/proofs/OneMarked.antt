-- A list in which one entry at most is marked stays so where one is notified, and none additionally.
use Rattle.world_base.proofs.Prelude.{◌≡◌, ℕ, ◌+◌, ◌-◌, ◌≤◌, if◌then◌else◌, Bool, true, false, List, [], ◌∷◌, Option, Some, None, refl, arith, nat_tests, Entry, Mark, Waiting, Notified, Additional, notified, is_marked, marked_count, mark_waiting, passed_on, without, mark_at, is_marked_at, is_party}
use Rattle.lock_event.proofs.Marks.{marked_count-joined, marked_count-without}
use Rattle.world_base.specs.Steps.{ListFunction, joins, asks, leaves, notifies, notifies_additionally, asked, list_after}

marks_added : (m : Mark) (n : ℕ) (l : List (Entry ℕ)) → marked_count (mark_waiting m n l) ≤ marked_count l + n
marks_added m n [] = omega arith
marks_added m n (e ∷ es) = grind (arith, nat_tests, marks_added m n es, marks_added m (n - 1) es)

pub one_notified : (l : List (Entry ℕ)) → marked_count l ≤ 1 → marked_count (notified l 1) ≤ 1
one_notified l one = omega (arith, one, marks_added Notified (1 - marked_count l) l)

pub fewer_without : (p : ℕ) (l : List (Entry ℕ)) → marked_count (without (is_party p) l) ≤ marked_count l
fewer_without p l = marked_count-without (is_party p) l

taken_out : (p : ℕ) (m : Mark) (l : List (Entry ℕ)) → is_marked m ≡ true → mark_at (is_party p) l ≡ Some m → marked_count (without (is_party p) l) + 1 ≡ marked_count l
taken_out p m [] told h = absurd (cc h)
taken_out p m (e ∷ es) told h = grind (arith, nat_tests, taken_out p m es told)

one_passed_on : (p : ℕ) (m : Option Mark) (l : List (Entry ℕ)) → mark_at (is_party p) l ≡ m → marked_count l ≤ 1 → marked_count (passed_on m (without (is_party p) l)) ≤ 1
one_passed_on p None l e one = omega (arith, one, fewer_without p l)
one_passed_on p (Some Waiting) l e one = omega (arith, one, fewer_without p l)
one_passed_on p (Some Notified) l e one = one_notified (without (is_party p) l) (omega (arith, one, fewer_without p l))
one_passed_on p (Some Additional) l e one = omega (arith, one, taken_out p Additional l refl e, marks_added Additional 1 (without (is_party p) l))

one_asked : (p : ℕ) (l : List (Entry ℕ)) → marked_count l ≤ 1 → marked_count (asked p l) ≤ 1
one_asked p l one = by_told (is_marked_at (is_party p) l) where
  by_told : (b : Bool) → marked_count (if b then without (is_party p) l else l) ≤ 1
  by_told true = omega (arith, one, fewer_without p l)
  by_told false = one

-- one is notified, if any
abbrev pub NotifiesOne : ListFunction → Type 0
NotifiesOne (notifies n) = n ≡ 1
NotifiesOne (notifies_additionally n) = ⊥
NotifiesOne _ = Unit {0}

pub one_after : (p : ℕ) (f : ListFunction) (l : List (Entry ℕ)) → NotifiesOne f → marked_count l ≤ 1 → marked_count (list_after p f l) ≤ 1
one_after p joins l so one = omega (arith, one, marked_count-joined l p)
one_after p asks l so one = one_asked p l one
one_after p leaves l so one = one_passed_on p (mark_at (is_party p) l) l refl one
one_after p (notifies n) l so one = omega (arith, one, so, marks_added Notified (n - marked_count l) l)
one_after p (notifies_additionally n) l so one = absurd so
