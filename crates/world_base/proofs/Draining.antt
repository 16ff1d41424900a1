-- Polls in turn that each give one what it waits for: what they leave to the others, counted.
use Rattle.world_base.proofs.Prelude.{◌≡◌, ◌≢◌, ℕ, zero, suc, ◌+◌, ◌-◌, ◌<◌, ◌&&◌, if◌then◌else◌, Bool, true, false, List, [], ◌∷◌, length, get_or, refl, arith, ap, nat_tests, sum_by, sum_by-cons, list_all, Entry, Notified, Additional, marked_count, is_marked_at, mark_at, without, is_party, entries_of, Standing, forgotten, is_outside}
use Rattle.lock_event.proofs.Counts.{length-joined, length-passed_on}
use Rattle.world_base.specs.Rosters.{bit, is_on, how_many}
use Rattle.world_base.specs.Steps.{ListFunction, joins, asks, leaves, notifies, notifies_additionally, list_after}
use Rattle.world_base.proofs.Equations.{both}
use Rattle.world_base.proofs.Lists.{own}
use Rattle.world_base.proofs.of_queue.Rekeyed.{entries_of-passed_on}

-- ---- sums over lists that differ at one place

pub same_sum : {A : Type 0} (f : A → ℕ) (d : A) (xs ys : List A) → length ys ≡ length xs → ((q : ℕ) → get_or ys q d ≡ get_or xs q d) → sum_by f ys ≡ sum_by f xs
same_sum f d [] [] e same = refl
same_sum f d [] (y ∷ ys) e same = absurd (omega (arith, e))
same_sum f d (x ∷ xs) [] e same = absurd (omega (arith, e))
same_sum f d (x ∷ xs) (y ∷ ys) e same =
    let rest : sum_by f ys ≡ sum_by f xs = same_sum f d xs ys (omega (arith, e)) (λ q. same (suc q)) in
    omega (arith, rest, ap f (same 0), sum_by-cons f x xs, sum_by-cons f y ys)

pub moved_sum : {A : Type 0} (f : A → ℕ) (d : A) (xs ys : List A) (p : ℕ) → length ys ≡ length xs → ((q : ℕ) → q ≢ p → get_or ys q d ≡ get_or xs q d) → sum_by f ys + f (get_or xs p d) ≡ sum_by f xs + f (get_or ys p d)
moved_sum f d [] [] p e same = refl
moved_sum f d [] (y ∷ ys) p e same = absurd (omega (arith, e))
moved_sum f d (x ∷ xs) [] p e same = absurd (omega (arith, e))
moved_sum f d (x ∷ xs) (y ∷ ys) zero e same =
    let rest : sum_by f ys ≡ sum_by f xs = same_sum f d xs ys (omega (arith, e)) (λ q. same (suc q) (λ h. absurd (omega (arith, h)))) in
    omega (arith, rest, sum_by-cons f x xs, sum_by-cons f y ys)
moved_sum f d (x ∷ xs) (y ∷ ys) (suc p) e same =
    let rest : sum_by f ys + f (get_or xs p d) ≡ sum_by f xs + f (get_or ys p d) = moved_sum f d xs ys p (omega (arith, e)) (λ q apart. same (suc q) (λ h. apart (omega (arith, h)))) in
    omega (arith, rest, ap f (same 0 (λ h. absurd (omega (arith, h)))), sum_by-cons f x xs, sum_by-cons f y ys)

how_many_sum : (bs : List Bool) → how_many bs ≡ sum_by bit bs
how_many_sum [] = refl
how_many_sum (true ∷ bs) = omega (arith, how_many_sum bs, sum_by-cons bit true bs)
how_many_sum (false ∷ bs) = omega (arith, how_many_sum bs, sum_by-cons bit false bs)

pub moved_count : (bs cs : List Bool) (p : ℕ) → length cs ≡ length bs → ((q : ℕ) → q ≢ p → is_on cs q ≡ is_on bs q) → how_many cs + bit (is_on bs p) ≡ how_many bs + bit (is_on cs p)
moved_count bs cs p e same = let moved : sum_by bit cs + bit (is_on bs p) ≡ sum_by bit bs + bit (is_on cs p) = moved_sum bit false bs cs p e same in omega (arith, moved, how_many_sum bs, how_many_sum cs)

-- ---- lists

-- a list grows and shrinks by the party's own entry
pub without_long : (p : ℕ) (l : List (Entry ℕ)) → entries_of p (without (is_party p) l) + length l ≡ entries_of p l + length (without (is_party p) l)
without_long p [] = refl
without_long p (e ∷ es) = grind (arith, nat_tests, without_long p es)

pub list_long : (p : ℕ) (f : ListFunction) (l : List (Entry ℕ)) → entries_of p (list_after p f l) + length l ≡ entries_of p l + length (list_after p f l)
list_long p joins l = own p l joins tt
list_long p asks l = by_told (is_marked_at (is_party p) l) where
  by_told : (b : Bool) → entries_of p (if b then without (is_party p) l else l) + length l ≡ entries_of p l + length (if b then without (is_party p) l else l)
  by_told true = without_long p l
  by_told false = refl
list_long p leaves l =
    let size : length (list_after p leaves l) ≡ length (without (is_party p) l) = length-passed_on (mark_at (is_party p) l) (without (is_party p) l) in
    let mine : entries_of p (list_after p leaves l) ≡ entries_of p (without (is_party p) l) = entries_of-passed_on p (mark_at (is_party p) l) (without (is_party p) l) in
    omega (arith, size, mine, without_long p l)
list_long p (notifies n) l = own p l (notifies n) tt
list_long p (notifies_additionally n) l = own p l (notifies_additionally n) tt

-- the first entry is somebody's
pub first_listed : (l : List (Entry ℕ)) → 0 < length l → (q : ℕ) × (0 < entries_of q l)
first_listed [] some = absurd (omega (arith, some))
first_listed (e ∷ es) some = (e.key, grind (arith, nat_tests))

-- ---- standings

pub outside_all : (ss : List Standing) → ((q : ℕ) → is_outside (get_or ss q forgotten) ≡ true) → list_all is_outside ss ≡ true
outside_all [] each = refl
outside_all (s ∷ ss) each = let here : is_outside s ≡ true = each 0 in let rest : list_all is_outside ss ≡ true = outside_all ss (λ q. each (suc q)) in rw (here, rest)

pub outside_each : (ss : List Standing) → list_all is_outside ss ≡ true → (q : ℕ) → is_outside (get_or ss q forgotten) ≡ true
outside_each [] all q = refl
outside_each (s ∷ ss) all zero = (both (is_outside s) (list_all is_outside ss) all).0
outside_each (s ∷ ss) all (suc q) = outside_each ss (both (is_outside s) (list_all is_outside ss) all).1 q
