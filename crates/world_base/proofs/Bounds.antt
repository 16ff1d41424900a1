-- Polls in turn: each that gives way leaves one entry less of a party that isn't starved.
use Rattle.world_base.proofs.Prelude.{◌≡◌, ℕ, zero, suc, ◌+◌, ◌<◌, ◌≤◌, if◌then◌else◌, Bool, true, false, List, [], ◌∷◌, length, get_or, refl, arith, nat_tests, Entry, is_marked, marked_count, is_marked_at, IsMarkedFirst, is_party, entries_of, Answer, Inputs}
use Rattle.world_base.specs.Rosters.{is_on, how_many}
use Rattle.world_base.specs.Bounds.{unstarved_in, GaveWay, PolledInTurn, OneTakes}

-- a party whose entry is marked is listed, and where one is the list isn't empty
pub marked_listed : (p : ℕ) (l : List (Entry ℕ)) → is_marked_at (is_party p) l ≡ true → 0 < entries_of p l
marked_listed p [] h = absurd (cc)
marked_listed p (e ∷ es) h = grind (arith, nat_tests, marked_listed p es)

pub some_listed : (p : ℕ) (l : List (Entry ℕ)) → 0 < entries_of p l → 0 < length l
some_listed p [] h = absurd (omega arith)
some_listed p (e ∷ es) h = omega arith

-- where some are true, one is
some_true : (bs : List Bool) → 0 < how_many bs → (q : ℕ) × (get_or bs q false ≡ true)
some_true [] h = absurd (omega arith)
some_true (true ∷ bs) h = (0, refl)
some_true (false ∷ bs) h = let found = some_true bs (omega arith) in (suc found.0, found.1)

one_at_most : (b : Bool) → (if b then 0 else 1) ≤ 1
one_at_most true = omega arith
one_at_most false = omega arith

no_more : (s : List Bool) (es : List (Entry ℕ)) → unstarved_in s es ≤ length es
no_more s [] = omega arith
no_more s (e ∷ es) = omega (arith, one_at_most (is_on s e.key), no_more s es)

-- where a starved party is listed, some entry is of a starved party
fewer_listed : (s : List Bool) (q : ℕ) → is_on s q ≡ true → (es : List (Entry ℕ)) → 0 < entries_of q es → unstarved_in s es < length es
fewer_listed s q starving [] h = absurd (omega arith)
fewer_listed s q starving (e ∷ es) h = grind (arith, nat_tests, one_at_most (is_on s e.key), no_more s es, fewer_listed s q starving es)

-- Polls that pass over something, each of which leaves it free and gives way in this list.
module _ {W : Type 0} (PassesOver : W → ℕ → Inputs → Answer → W → Type 0) (starved : W → List Bool) (list : W → List (Entry ℕ)) (IsFree : W → Type 0)
    (gives : (w : W) (p : ℕ) (inputs : Inputs) (a : Answer) (v : W) → IsFree w → PassesOver w p inputs a v → IsFree v × GaveWay p (starved w) (list w) (starved v) (list v)) where
  -- no more of them than there are entries of parties that aren't starved
  in_turn : (n : ℕ) (w v : W) → IsFree w → PolledInTurn PassesOver n w v → n ≤ unstarved_in (starved w) (list w)
  in_turn zero w v free t = omega arith
  in_turn (suc n) w v free t =
      let one = gives w t.0 t.1 t.2 t.3 free t.4 in
      let most : n ≤ unstarved_in (starved t.3) (list t.3) = in_turn n t.3 v one.0 t.5 in
      let less : unstarved_in (starved t.3) (list t.3) + 1 ≡ unstarved_in (starved w) (list w) = one.1.fewer in
      omega arith

  some_starved : (w : W) → ((q : ℕ) → is_on (starved w) q ≡ true → 0 < entries_of q (list w)) → 0 < how_many (starved w) → unstarved_in (starved w) (list w) < length (list w)
  some_starved w listed some =
      let found = some_true (starved w) some in
      fewer_listed (starved w) found.0 found.1 (list w) (listed found.0 found.1)

  -- and fewer than the list has entries, where each starved party is listed
  pub one_takes : (w : W) → IsFree w → 0 < length (list w) → ((q : ℕ) → is_on (starved w) q ≡ true → 0 < entries_of q (list w)) → OneTakes PassesOver list w
  one_takes w free some listed zero v t = some
  one_takes w free some listed (suc n) v t =
      let most : suc n ≤ unstarved_in (starved w) (list w) = in_turn (suc n) w v free t in
      let gave = gives w t.0 t.1 t.2 t.3 free t.4 in
      let less : unstarved_in (starved w) (list w) < length (list w) = some_starved w listed gave.1.some_starved in
      omega arith

own_first : (e : Entry ℕ) (es : List (Entry ℕ)) → is_marked e.mark ≡ true → (is_marked_at (is_party e.key) (e ∷ es) ≡ true) × (0 < entries_of e.key (e ∷ es))
own_first e es h = (grind (arith, nat_tests), grind (arith, nat_tests))

head_marked : (e : Entry ℕ) (es : List (Entry ℕ)) → (is_marked e.mark ≡ false → marked_count es ≡ 0) → 0 < marked_count (e ∷ es) → is_marked e.mark ≡ true
head_marked e es first some = grind arith

-- where some entry is marked, the first one is
pub first_marked : (l : List (Entry ℕ)) → IsMarkedFirst l → 0 < marked_count l → (q : ℕ) × (is_marked_at (is_party q) l ≡ true) × (0 < entries_of q l)
first_marked [] first some = absurd (omega arith)
first_marked (e ∷ es) first some = let own = own_first e es (head_marked e es first.0 some) in (e.key, own.0, own.1)
