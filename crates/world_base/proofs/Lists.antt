-- What one list function does to a list, in numbers.
use Rattle.world_base.proofs.Prelude.{◌≡◌, ◌≢◌, ℕ, zero, suc, ◌+◌, ◌-◌, ◌<◌, ◌≤◌, if◌then◌else◌, Bool, true, false, List, [], ◌∷◌, length, refl, arith, ap, ◌∙◌, nat_tests, Entry, Mark, Waiting, Notified, Additional, entry, notified, is_marked, marked_count, mark_waiting, without, mark_at, is_listed, is_marked_at, is_party, entries_of, is_unmarked}
use Rattle.lock_event.proofs.Marks.{length-mark_waiting, marked_count-joined, mark_waiting-none}
use Rattle.lock_event.proofs.Counts.{length-joined, length-without, length-passed_on, marked_count-without_marked, marked_count-le-mark_waiting, marked_count-left}
use Rattle.world_base.proofs.of_queue.Rekeyed.{entries_of-joined, entries_of-mark_waiting, entries_of-passed_on, entries_of-without_own, entries_of-without_other}
use Rattle.world_base.proofs.of_queue.Queues.{own_one, other_one}
use Rattle.world_base.proofs.of_queue.Marks.{join_unmarked, without_unmarked, mark_unmarked, pass_unmarked}
use Rattle.world_base.specs.Steps.{ListFunction, joins, asks, leaves, notifies, notifies_additionally, list_after}

-- a listed party's entry is found
pub is_there : (p : ℕ) (l : List (Entry ℕ)) → 0 < entries_of p l → is_listed (is_party p) l ≡ true
is_there p [] h = absurd (omega arith)
is_there p (e ∷ es) h = grind (arith, nat_tests, is_there p es)

-- where a list isn't empty, marking marks some entry
pub mark_some : (m : Mark) → is_marked m ≡ true → (n : ℕ) → 0 < n → (l : List (Entry ℕ)) → 0 < length l → 0 < marked_count (mark_waiting m n l)
mark_some m told n more [] some = absurd (omega arith)
mark_some m told n more (e ∷ es) some = grind (arith, marked_count-le-mark_waiting m n es told)

by_count : (n : ℕ) (l : List (Entry ℕ)) → 0 < length l → (k : ℕ) → marked_count l ≡ k → 0 < marked_count (mark_waiting Notified (suc n - k) l)
by_count n l some zero e = mark_some Notified refl (suc n - 0) (omega arith) l some
by_count n l some (suc k) e = let more : marked_count l ≤ marked_count (mark_waiting Notified (suc n - suc k) l) = marked_count-le-mark_waiting Notified (suc n - suc k) l refl in omega arith

none_more : (k : ℕ) (l : List (Entry ℕ)) → mark_waiting Notified (0 - k) l ≡ l
none_more k l = let none : 0 - k ≡ 0 = omega arith in rw none (mark_waiting-none Notified l)

-- what a list function needs: only a listed party asks or leaves
abbrev pub CanList : ℕ → List (Entry ℕ) → ListFunction → Type 0
CanList p l asks = 0 < entries_of p l
CanList p l leaves = 0 < entries_of p l
CanList p l _ = Unit {0}

-- the length and the marked entries, before and after; `told` says that the party's own entry was marked
abbrev pub Counted : ListFunction → Bool → ℕ → ℕ → ℕ → ℕ → Type 0
Counted joins told size marked size' marked' = (size' ≡ size + 1) × (marked' ≡ marked)
Counted asks true size marked size' marked' = (size' + 1 ≡ size) × (marked' + 1 ≡ marked)
Counted asks false size marked size' marked' = (size' ≡ size) × (marked' ≡ marked)
Counted leaves told size marked size' marked' = (size' + 1 ≡ size) × (0 < size' → 0 < marked → 0 < marked')
Counted (notifies zero) told size marked size' marked' = (size' ≡ size) × (marked' ≡ marked)
Counted (notifies (suc n)) told size marked size' marked' = (size' ≡ size) × (0 < size → 0 < marked')
Counted (notifies_additionally n) told size marked size' marked' = (size' ≡ size) × (marked ≤ marked')

module _ (p : ℕ) (l : List (Entry ℕ)) where
  pub counted : (f : ListFunction) (told : Bool) → is_marked_at (is_party p) l ≡ told → CanList p l f → Counted f told (length l) (marked_count l) (length (list_after p f l)) (marked_count (list_after p f l))
  counted joins told e can = (length-joined l p, marked_count-joined l p)
  counted asks true e can = rw e (length-without (is_party p) l (is_there p l can), marked_count-without_marked (is_party p) l e)
  counted asks false e can = rw e (refl, refl)
  counted leaves told e can =
      let size : length (list_after p leaves l) ≡ length (without (is_party p) l) = length-passed_on (mark_at (is_party p) l) (without (is_party p) l) in
      let fewer : length (without (is_party p) l) + 1 ≡ length l = length-without (is_party p) l (is_there p l can) in
      (omega arith, λ some some_marked. marked_count-left (is_party p) l (omega arith) some_marked)
  counted (notifies zero) told e can = let same = none_more (marked_count l) l in (ap length same, ap marked_count same)
  counted (notifies (suc n)) told e can = (length-mark_waiting Notified (suc n - marked_count l) l, λ some. by_count n l some (marked_count l) refl)
  counted (notifies_additionally n) told e can = (length-mark_waiting Additional n l, marked_count-le-mark_waiting Additional n l refl)

  -- the list grows and shrinks by the party's own entry
  pub own : (f : ListFunction) → CanList p l f → entries_of p (list_after p f l) + length l ≡ entries_of p l + length (list_after p f l)
  own joins can =
      let mine : entries_of p (list_after p joins l) ≡ entries_of p (entry p Waiting ∷ l) = entries_of-joined p p l in
      omega (arith, own_one p l, length-joined l p)
  own asks can = by_told (is_marked_at (is_party p) l) where
    by_told : (b : Bool) → entries_of p (if b then without (is_party p) l else l) + length l ≡ entries_of p l + length (if b then without (is_party p) l else l)
    by_told true = omega (arith, entries_of-without_own p l can, length-without (is_party p) l (is_there p l can))
    by_told false = refl
  own leaves can =
      let size : length (list_after p leaves l) ≡ length (without (is_party p) l) = length-passed_on (mark_at (is_party p) l) (without (is_party p) l) in
      let mine : entries_of p (list_after p leaves l) ≡ entries_of p (without (is_party p) l) = entries_of-passed_on p (mark_at (is_party p) l) (without (is_party p) l) in
      omega (arith, entries_of-without_own p l can, length-without (is_party p) l (is_there p l can))
  own (notifies n) can = omega (arith, entries_of-mark_waiting p Notified (n - marked_count l) l, length-mark_waiting Notified (n - marked_count l) l)
  own (notifies_additionally n) can = omega (arith, entries_of-mark_waiting p Additional n l, length-mark_waiting Additional n l)

  -- and the other parties keep theirs
  pub others : (f : ListFunction) (j : ℕ) → j ≢ p → entries_of j (list_after p f l) ≡ entries_of j l
  others joins j apart = entries_of-joined j p l ∙ other_one j p l apart
  others asks j apart = by_told (is_marked_at (is_party p) l) where
    by_told : (b : Bool) → entries_of j (if b then without (is_party p) l else l) ≡ entries_of j l
    by_told true = entries_of-without_other j p l apart
    by_told false = refl
  others leaves j apart = entries_of-passed_on j (mark_at (is_party p) l) (without (is_party p) l) ∙ entries_of-without_other j p l apart
  others (notifies n) j apart = entries_of-mark_waiting j Notified (n - marked_count l) l
  others (notifies_additionally n) j apart = entries_of-mark_waiting j Additional n l

-- how many entries a party with one entry at most has then
module _ (p : ℕ) (l : List (Entry ℕ)) where
  pub joined_own : entries_of p l ≡ 0 → entries_of p (list_after p joins l) ≡ 1
  joined_own none = entries_of-joined p p l ∙ (own_one p l ∙ ap (λ n. 1 + n) none)

  pub asked_own : is_marked_at (is_party p) l ≡ true → entries_of p l ≡ 1 → entries_of p (list_after p asks l) ≡ 0
  asked_own e one = rw e (omega (arith, one, entries_of-without_own p l (omega (arith, one))))

  pub asked_not : is_marked_at (is_party p) l ≡ false → entries_of p l ≡ 1 → entries_of p (list_after p asks l) ≡ 1
  asked_not e one = rw e one

  pub left_own : entries_of p l ≡ 1 → entries_of p (list_after p leaves l) ≡ 0
  left_own one =
      let mine : entries_of p (list_after p leaves l) ≡ entries_of p (without (is_party p) l) = entries_of-passed_on p (mark_at (is_party p) l) (without (is_party p) l) in
      omega (arith, one, mine, entries_of-without_own p l (omega (arith, one)))

  pub notified_own : (n k : ℕ) → entries_of p l ≡ k → entries_of p (list_after p (notifies n) l) ≡ k
  notified_own n k so_many = entries_of-mark_waiting p Notified (n - marked_count l) l ∙ so_many

  pub notified_additionally_own : (n k : ℕ) → entries_of p l ≡ k → entries_of p (list_after p (notifies_additionally n) l) ≡ k
  notified_additionally_own n k so_many = entries_of-mark_waiting p Additional n l ∙ so_many

-- One list function of this party at most made one list of another.
pub data OneAtMost (p : ℕ) (l m : List (Entry ℕ)) : Type 0 where
  unchanged : m ≡ l → OneAtMost p l m
  done : (f : ListFunction) → CanList p l f → m ≡ list_after p f l → OneAtMost p l m

module _ (p : ℕ) (l m : List (Entry ℕ)) where
  pub counted_by : (f : ListFunction) (told : Bool) → is_marked_at (is_party p) l ≡ told → CanList p l f → m ≡ list_after p f l → Counted f told (length l) (marked_count l) (length m) (marked_count m)
  counted_by f told t can e = rw e (counted p l f told t can)

  pub own_by : OneAtMost p l m → entries_of p m + length l ≡ entries_of p l + length m
  own_by (unchanged e) = rw e refl
  own_by (done f can e) = rw e (own p l f can)

  pub others_by : OneAtMost p l m → (j : ℕ) → j ≢ p → entries_of j m ≡ entries_of j l
  others_by (unchanged e) j apart = rw e refl
  others_by (done f can e) j apart = rw e (others p l f j apart)

-- a list that was notified and isn't empty has a marked entry
pub notified_marked : (l m : List (Entry ℕ)) → m ≡ notified l 1 → 0 < length m → 0 < marked_count m
notified_marked l m e some = let c = counted_by 0 l m (notifies 1) (is_marked_at (is_party 0) l) refl tt e in c.1 (omega (arith, c.0))

-- a party that isn't listed isn't marked
pub unlisted_unmarked : (p : ℕ) (l : List (Entry ℕ)) → entries_of p l ≡ 0 → is_marked_at (is_party p) l ≡ false
unlisted_unmarked p [] none = refl
unlisted_unmarked p (e ∷ es) none = grind (arith, nat_tests, unlisted_unmarked p es)

-- a party that has just joined isn't marked
pub joined_unmarked : (p : ℕ) (l : List (Entry ℕ)) → entries_of p l ≡ 0 → is_marked_at (is_party p) (list_after p joins l) ≡ false
joined_unmarked p [] none = grind (arith, nat_tests)
joined_unmarked p (e ∷ es) none = grind (arith, nat_tests, joined_unmarked p es)

-- who has an unmarked entry after another party's list function had one before
pub unmarked_before : (p : ℕ) (f : ListFunction) (l : List (Entry ℕ)) (j : ℕ) → j ≢ p → is_unmarked j (list_after p f l) ≡ true → is_unmarked j l ≡ true
unmarked_before p joins l j apart h = join_unmarked j p l apart h
unmarked_before p asks l j apart h = by_told (is_marked_at (is_party p) l) h where
  by_told : (b : Bool) → is_unmarked j (if b then without (is_party p) l else l) ≡ true → is_unmarked j l ≡ true
  by_told true h = without_unmarked j p l apart h
  by_told false h = h
unmarked_before p leaves l j apart h = without_unmarked j p l apart (pass_unmarked j (mark_at (is_party p) l) (without (is_party p) l) h)
unmarked_before p (notifies n) l j apart h = mark_unmarked j Notified (n - marked_count l) l refl h
unmarked_before p (notifies_additionally n) l j apart h = mark_unmarked j Additional n l refl h
