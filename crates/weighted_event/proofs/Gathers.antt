-- Who stands in places, in their order.
use Rattle.std.proofs.Common.{◌≡◌, ℕ, zero, suc, ◌<◌, ◌≤◌, true, false, List, [], ◌∷◌, ◌++◌, length, get_or, set, take, is_some, Option, Some, None, refl, sym, ap, inl, inr, arith, eq-eqb, ne_eqb}
use Rattle.std.specs.List.{All}
use Rattle.std.proofs.lemmas.Bool.{cases_eq, false≢true}
use Rattle.std.proofs.lemmas.Option.{none-some, same_Some}
use Rattle.weighted_event.specs.declared.row.Item.{Item}
use Rattle.weighted_event.specs.Rows.{is_in, without, StandsFirst, gathered, weight_in}

all_vacant : (ps : List (Option Item)) → ((at : ℕ) → get_or ps at None ≡ None) → gathered ps ≡ []
all_vacant [] vacant = refl
all_vacant (None ∷ ps) vacant = all_vacant ps (λ at. vacant (suc at))
all_vacant (Some y ∷ ps) vacant = absurd (none-some y (sym (vacant zero)))

-- an item in the first of the empty places at the end stands last
pub gathered-put : (ps : List (Option Item)) (end : ℕ) (x : Item) → end < length ps → ((at : ℕ) → end ≤ at → get_or ps at None ≡ None) → gathered (set ps end (Some x)) ≡ gathered ps ++ x ∷ []
gathered-put [] end x within vacant = absurd (omega (arith, within))
gathered-put (None ∷ ps) zero x within vacant = let none : gathered ps ≡ [] = all_vacant ps (λ at. vacant (suc at) (omega arith)) in rw none refl
gathered-put (Some y ∷ ps) zero x within vacant = absurd (none-some y (sym (vacant zero (omega arith))))
gathered-put (None ∷ ps) (suc end) x within vacant = gathered-put ps end x (omega (arith, within)) (λ at h. vacant (suc at) (omega (arith, h)))
gathered-put (Some y ∷ ps) (suc end) x within vacant = ap (λ xs. y ∷ xs) (gathered-put ps end x (omega (arith, within)) (λ at h. vacant (suc at) (omega (arith, h))))

-- the first item of its key leaves
pub gathered-out : (ps : List (Option Item)) (at : ℕ) (x : Item) → get_or ps at None ≡ Some x → ((q : ℕ) (y : Item) → q < at → get_or ps q None ≡ Some y → y.key ≡ x.key → ⊥) → gathered (set ps at None) ≡ without x.key (gathered ps)
gathered-out [] at x here alone = absurd (none-some x here)
gathered-out (None ∷ ps) zero x here alone = absurd (none-some x here)
gathered-out (Some y ∷ ps) zero x here alone = let same : y.key ≡ x.key = ap (λ (z : Item). z.key) (same_Some y x here) in rw (eq-eqb y.key x.key same) refl
gathered-out (None ∷ ps) (suc at) x here alone = gathered-out ps at x here (λ q y h is same. alone (suc q) y (omega (arith, h)) is same)
gathered-out (Some y ∷ ps) (suc at) x here alone =
    rw (ne_eqb y.key x.key (λ same. alone zero y (omega arith) refl same)) (ap (λ xs. y ∷ xs) (gathered-out ps at x here (λ q z h is same. alone (suc q) z (omega (arith, h)) is same)))

-- the first item is taken out, and put before the others
to_front : (ps : List (Option Item)) (from : ℕ) (x : Item) → get_or ps from None ≡ Some x → ((q : ℕ) → q < from → get_or ps q None ≡ None) → x ∷ gathered (set ps from None) ≡ gathered ps
to_front [] from x here gap = absurd (none-some x here)
to_front (None ∷ ps) zero x here gap = absurd (none-some x here)
to_front (Some y ∷ ps) zero x here gap = ap (λ (z : Item). z ∷ gathered ps) (sym (same_Some y x here))
to_front (None ∷ ps) (suc from) x here gap = to_front ps from x here (λ q h. gap (suc q) (omega (arith, h)))
to_front (Some y ∷ ps) (suc from) x here gap = absurd (none-some y (sym (gap zero (omega arith))))

-- an item moves to an empty place, past empty places alone
pub gathered-shift : (ps : List (Option Item)) (to from : ℕ) (x : Item) → to < from → get_or ps from None ≡ Some x → ((q : ℕ) → to ≤ q → q < from → get_or ps q None ≡ None) → gathered (set (set ps to (Some x)) from None) ≡ gathered ps
gathered-shift [] to from x before here gap = absurd (none-some x here)
gathered-shift (o ∷ ps) to zero x before here gap = absurd (omega (arith, before))
gathered-shift (None ∷ ps) zero (suc from) x before here gap = to_front ps from x here (λ q h. gap (suc q) (omega arith) (omega (arith, h)))
gathered-shift (Some y ∷ ps) zero (suc from) x before here gap = absurd (none-some y (sym (gap zero (omega arith) (omega arith))))
gathered-shift (None ∷ ps) (suc to) (suc from) x before here gap = gathered-shift ps to from x (omega (arith, before)) here (λ q l h. gap (suc q) (omega (arith, l)) (omega (arith, h)))
gathered-shift (Some y ∷ ps) (suc to) (suc from) x before here gap = ap (λ xs. y ∷ xs) (gathered-shift ps to from x (omega (arith, before)) here (λ q l h. gap (suc q) (omega (arith, l)) (omega (arith, h))))

-- ---- keys

pub record Stands (ps : List (Option Item)) (key : ℕ) : Type 0 where
  pub at : ℕ
  pub it : Item
  pub here : get_or ps at None ≡ Some it
  pub its : it.key ≡ key

pub in_place : (ps : List (Option Item)) (key : ℕ) → is_in key (gathered ps) ≡ true → Stands ps key
in_place [] key h = absurd (false≢true h)
in_place (None ∷ ps) key h = let rest = in_place ps key h in record { at = suc (rest.at); it = rest.it; here = rest.here; its = rest.its }
in_place (Some y ∷ ps) key h = elim (cases_eq y.key key) [
  | inl same ↦ record { at = zero; it = y; here = refl; its = same }
  | inr other ↦
      let rest = in_place ps key (rw (ne_eqb y.key key other) at h) in
      record { at = suc (rest.at); it = rest.it; here = rest.here; its = rest.its }
]

pub is_in-gathered : (ps : List (Option Item)) (at : ℕ) (x : Item) → get_or ps at None ≡ Some x → is_in x.key (gathered ps) ≡ true
is_in-gathered [] at x here = absurd (none-some x here)
is_in-gathered (None ∷ ps) zero x here = absurd (none-some x here)
is_in-gathered (Some y ∷ ps) zero x here = rw (eq-eqb y.key x.key (ap (λ (z : Item). z.key) (same_Some y x here))) refl
is_in-gathered (None ∷ ps) (suc at) x here = is_in-gathered ps at x here
is_in-gathered (Some y ∷ ps) (suc at) x here = elim (cases_eq y.key x.key) [
  | inl same ↦ rw (eq-eqb y.key x.key same) refl
  | inr other ↦ rw (ne_eqb y.key x.key other) (is_in-gathered ps at x here)
]

pub not_yet : (ps : List (Option Item)) (n key : ℕ) → ((q : ℕ) (y : Item) → q < n → get_or ps q None ≡ Some y → y.key ≡ key → ⊥) → is_in key (gathered (take n ps)) ≡ false
not_yet ps zero key alone = refl
not_yet [] (suc n) key alone = refl
not_yet (None ∷ ps) (suc n) key alone = not_yet ps n key (λ q y h is same. alone (suc q) y (omega (arith, h)) is same)
not_yet (Some y ∷ ps) (suc n) key alone = rw (ne_eqb y.key key (λ same. alone zero y (omega arith) refl same)) (not_yet ps n key (λ q z h is same. alone (suc q) z (omega (arith, h)) is same))

-- ---- how many

pub filled : (ps : List (Option Item)) (n : ℕ) → ((q : ℕ) → q < n → is_some (get_or ps q None) ≡ true) → n ≤ length (gathered ps)
filled ps zero full = omega arith
filled [] (suc n) full = absurd (false≢true (full zero (omega arith)))
filled (None ∷ ps) (suc n) full = absurd (false≢true (full zero (omega arith)))
filled (Some y ∷ ps) (suc n) full = omega (arith, filled ps n (λ q h. full (suc q) (omega (arith, h))))

pub fewer : (ps : List (Option Item)) (n : ℕ) → length (gathered (take n ps)) ≤ length (gathered ps)
fewer ps zero = omega arith
fewer [] (suc n) = omega arith
fewer (None ∷ ps) (suc n) = fewer ps n
fewer (Some y ∷ ps) (suc n) = omega (arith, fewer ps n)

pub without-shorter : (key : ℕ) (xs : List Item) → length (without key xs) ≤ length xs
without-shorter key [] = omega arith
without-shorter key (x ∷ xs) = elim (cases_eq x.key key) [
  | inl same ↦ rw (eq-eqb x.key key same) (omega arith)
  | inr other ↦ rw (ne_eqb x.key key other) (omega (arith, without-shorter key xs))
]

-- ---- one place more

pub take_item : (ps : List (Option Item)) (n : ℕ) (x : Item) → get_or ps n None ≡ Some x → gathered (take (suc n) ps) ≡ gathered (take n ps) ++ x ∷ []
take_item [] n x here = absurd (none-some x here)
take_item (None ∷ ps) zero x here = absurd (none-some x here)
take_item (Some y ∷ ps) zero x here = ap (λ (z : Item). z ∷ []) (same_Some y x here)
take_item (None ∷ ps) (suc n) x here = take_item ps n x here
take_item (Some y ∷ ps) (suc n) x here = ap (λ xs. y ∷ xs) (take_item ps n x here)

pub take_vacant : (ps : List (Option Item)) (n : ℕ) → get_or ps n None ≡ None → gathered (take (suc n) ps) ≡ gathered (take n ps)
take_vacant [] zero here = refl
take_vacant [] (suc n) here = refl
take_vacant (None ∷ ps) zero here = refl
take_vacant (Some y ∷ ps) zero here = absurd (none-some y (sym here))
take_vacant (None ∷ ps) (suc n) here = take_vacant ps n here
take_vacant (Some y ∷ ps) (suc n) here = ap (λ xs. y ∷ xs) (take_vacant ps n here)

-- ---- the first that fits

heavy-nil : (a : ℕ) → All (λ (y : Item). a < y.weight) []
heavy-nil a k d h = absurd (omega (arith, h))

heavy-cons : (a : ℕ) (x : Item) (xs : List Item) → a < x.weight → All (λ (y : Item). a < y.weight) xs → All (λ (y : Item). a < y.weight) (x ∷ xs)
heavy-cons a x xs here rest zero d h = here
heavy-cons a x xs here rest (suc k) d h = rest k d (omega (arith, h))

pub stands_first : (a : ℕ) (ps : List (Option Item)) (at : ℕ) (x : Item) → get_or ps at None ≡ Some x → x.weight ≤ a → ((q : ℕ) → q < at → a < weight_in (get_or ps q None)) → StandsFirst a (gathered ps) x
stands_first a [] at x here enough heavier = absurd (none-some x here)
stands_first a (None ∷ ps) zero x here enough heavier = absurd (none-some x here)
stands_first a (Some y ∷ ps) zero x here enough heavier =
    record { before = []; after = gathered ps; stands = ap (λ (z : Item). z ∷ gathered ps) (same_Some y x here); heavier = heavy-nil a; enough = enough }
stands_first a (None ∷ ps) (suc at) x here enough heavier = stands_first a ps at x here enough (λ q h. heavier (suc q) (omega (arith, h)))
stands_first a (Some y ∷ ps) (suc at) x here enough heavier =
    let rest = stands_first a ps at x here enough (λ q h. heavier (suc q) (omega (arith, h))) in
    record { before = y ∷ rest.before; after = rest.after; stands = ap (λ xs. y ∷ xs) rest.stands; heavier = heavy-cons a y rest.before (heavier zero (omega arith)) rest.heavier; enough = rest.enough }

pub none_fits : (a : ℕ) (ps : List (Option Item)) → ((q : ℕ) → q < length ps → a < weight_in (get_or ps q None)) → All (λ y. a < y.weight) (gathered ps)
none_fits a [] heavier = heavy-nil a
none_fits a (None ∷ ps) heavier = none_fits a ps (λ q h. heavier (suc q) (omega (arith, h)))
none_fits a (Some y ∷ ps) heavier = heavy-cons a y (gathered ps) (heavier zero (omega arith)) (none_fits a ps (λ q h. heavier (suc q) (omega (arith, h))))
