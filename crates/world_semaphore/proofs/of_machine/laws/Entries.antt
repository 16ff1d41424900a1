-- What a list function does to the list, in numbers and party by party.
use Rattle.world_semaphore.proofs.Prelude.{◌≡◌, ◌≢◌, ℕ, ◌+◌, ◌<◌, ◌≤◌, ◌==◌, if◌then◌else◌, Bool, true, false, List, [], ◌∷◌, length, nat_le, refl, arith, ◌∙◌, le-leb, leb-true, nat_tests, Entry, entry, is_marked_at, marked_count, without, is_enough, fit_first, fitted, is_wanted, length-joined, length-without, is_party, entries_of, is_there, Effect, ListFunction, nothing, changes, does, joins, asks, removes, fits, list_after, entries_after}
use Rattle.lock_event.specs.declared.event.Mark.TheVariants.{Waiting}
use Rattle.world_base.proofs.of_queue.Queues.{own_one, other_one}
use Rattle.world_base.proofs.of_queue.Rekeyed.{entries_of-joined, entries_of-without_own, entries_of-without_other}

module _ (size : ℕ → ℕ) (a : ℕ) where
  length-fit_first : (l : List (Entry ℕ)) → length (fit_first size a l) ≡ length l
  length-fit_first [] = refl
  length-fit_first (e ∷ es) = grind (arith, length-fit_first es)

  pub length-fitted : (l : List (Entry ℕ)) → length (fitted size a l) ≡ length l
  length-fitted l = grind (arith, length-fit_first l)

  entries_of-fit_first : (p : ℕ) (l : List (Entry ℕ)) → entries_of p (fit_first size a l) ≡ entries_of p l
  entries_of-fit_first p [] = refl
  entries_of-fit_first p (e ∷ es) = grind (arith, entries_of-fit_first p es)

  pub entries_of-fitted : (p : ℕ) (l : List (Entry ℕ)) → entries_of p (fitted size a l) ≡ entries_of p l
  entries_of-fitted p l = grind (arith, entries_of-fit_first p l)

  marked_count-fit_first : (l : List (Entry ℕ)) → marked_count l ≤ marked_count (fit_first size a l)
  marked_count-fit_first [] = omega arith
  marked_count-fit_first (e ∷ es) = grind (arith, marked_count-fit_first es)

  pub marked_count-fitted : (l : List (Entry ℕ)) → marked_count l ≤ marked_count (fitted size a l)
  marked_count-fitted l = grind (arith, marked_count-fit_first l)

  first_marks : (l : List (Entry ℕ)) → is_wanted size a l ≡ true → 0 < marked_count (fit_first size a l)
  first_marks [] h = absurd (cc h)
  first_marks (e ∷ es) h = grind (arith, first_marks es)

  -- whoever is wanted leaves a mark
  pub fitted_marks : (l : List (Entry ℕ)) → is_wanted size a l ≡ true → 0 < marked_count (fitted size a l)
  fitted_marks l h = grind (arith, first_marks l h)

  -- a party that is listed and for whom so many are enough is wanted
  pub wanted_so : (p : ℕ) (l : List (Entry ℕ)) → 0 < entries_of p l → size p ≤ a → is_wanted size a l ≡ true
  wanted_so p [] some few = absurd (omega arith)
  wanted_so p (e ∷ es) some few =
      let fits : nat_le (size p) a ≡ true = le-leb (size p) a few in
      grind (arith, nat_tests, wanted_so p es)

  -- and who is wanted is listed
  pub wanted_who : (l : List (Entry ℕ)) → is_wanted size a l ≡ true → (p : ℕ) × (0 < entries_of p l) × (size p ≤ a)
  wanted_who [] h = absurd (cc h)
  wanted_who (e ∷ es) h = by_first (is_enough size a e) refl (wanted_who es) where
    by_first : (b : Bool) → is_enough size a e ≡ b → (is_wanted size a es ≡ true → (p : ℕ) × (0 < entries_of p es) × (size p ≤ a)) → (p : ℕ) × (0 < entries_of p (e ∷ es)) × (size p ≤ a)
    by_first true is more = (e.key, grind (arith, nat_tests), leb-true (size e.key) a is)
    by_first false is more =
        let less : is_wanted size a es ≡ true = grind arith in
        let found = more less in
        (found.0, (let some : 0 < entries_of found.0 es = found.1 in grind (arith, nat_tests)), found.2)

-- weights that agree on who is listed tell alike
pub fitted-agree : (f g : ℕ → ℕ) (a : ℕ) (l : List (Entry ℕ)) → ((p : ℕ) → 0 < entries_of p l → f p ≡ g p) → fitted f a l ≡ fitted g a l
fitted-agree f g a l same = by_count (marked_count l == 0) (first l same) where
  first : (l : List (Entry ℕ)) → ((p : ℕ) → 0 < entries_of p l → f p ≡ g p) → fit_first f a l ≡ fit_first g a l
  first [] same = refl
  first (e ∷ es) same =
      let here : f e.key ≡ g e.key = same e.key (grind (arith, nat_tests)) in
      let more : fit_first f a es ≡ fit_first g a es = first es (λ p some. same p (grind (arith, nat_tests))) in
      grind arith

  by_count : (b : Bool) → fit_first f a l ≡ fit_first g a l → (if b then fit_first f a l else l) ≡ (if b then fit_first g a l else l)
  by_count true e = e
  by_count false e = refl

-- ---- whose the entries are, after a list function of one party

-- what a list function needs: only a listed party asks or is removed
abbrev pub CanList : ℕ → List (Entry ℕ) → ListFunction → Type 0
CanList p l joins = Unit {0}
CanList p l asks = 0 < entries_of p l
CanList p l removes = 0 < entries_of p l
CanList p l (fits a) = Unit {0}

abbrev pub CanOf : ℕ → List (Entry ℕ) → Effect → Type 0
CanOf p l (does f) = CanList p l f
CanOf p l _ = Unit {0}

module _ (size : ℕ → ℕ) (p : ℕ) (l : List (Entry ℕ)) where
  -- the list grows and shrinks by the party's own entry
  own_list : (f : ListFunction) → CanList p l f → entries_of p (list_after size p f l) + length l ≡ entries_of p l + length (list_after size p f l)
  own_list joins can =
      let mine : entries_of p (list_after size p joins l) ≡ entries_of p (entry p Waiting ∷ l) = entries_of-joined p p l in
      omega (arith, mine, own_one p l, length-joined l p)
  own_list asks can = by_told (is_marked_at (is_party p) l) where
    by_told : (b : Bool) → entries_of p (if b then without (is_party p) l else l) + length l ≡ entries_of p l + length (if b then without (is_party p) l else l)
    by_told true = omega (arith, entries_of-without_own p l can, length-without (is_party p) l (is_there p l can))
    by_told false = refl
  own_list removes can = omega (arith, entries_of-without_own p l can, length-without (is_party p) l (is_there p l can))
  own_list (fits a) can = omega (arith, entries_of-fitted size a p l, length-fitted size a l)

  pub own : (d : Effect) → CanOf p l d → entries_of p (entries_after size p d l) + length l ≡ entries_of p l + length (entries_after size p d l)
  own nothing can = refl
  own (changes c) can = refl
  own (does f) can = own_list f can

  -- and the other parties keep theirs
  others_list : (f : ListFunction) (j : ℕ) → j ≢ p → entries_of j (list_after size p f l) ≡ entries_of j l
  others_list joins j apart = entries_of-joined j p l ∙ other_one j p l apart
  others_list asks j apart = by_told (is_marked_at (is_party p) l) where
    by_told : (b : Bool) → entries_of j (if b then without (is_party p) l else l) ≡ entries_of j l
    by_told true = entries_of-without_other j p l apart
    by_told false = refl
  others_list removes j apart = entries_of-without_other j p l apart
  others_list (fits a) j apart = entries_of-fitted size a j l

  pub others : (d : Effect) (j : ℕ) → j ≢ p → entries_of j (entries_after size p d l) ≡ entries_of j l
  others nothing j apart = refl
  others (changes c) j apart = refl
  others (does f) j apart = others_list f j apart
