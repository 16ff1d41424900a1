-- Rows stay rows: an item joins, moves or leaves.
use Rattle.std.proofs.Common.{◌≡◌, ◌≢◌, ℕ, zero, suc, ◌+◌, ◌-◌, ◌*◌, ◌^◌, ◌<◌, ◌≤◌, List, [], ◌∷◌, ◌++◌, length, map, get_or, set, take, replicate, is_some, Option, Some, None, true, false, refl, sym, ap, ◌∙◌, subst, inl, inr, arith}
use Rattle.std.proofs.lemmas.Bool.{cases_eq, cases_lt, true≢false}
use Rattle.std.proofs.lemmas.Option.{none-some, same_Some}
use Rattle.std.proofs.lemmas.List.{get_or-set_same, get_or-set_other, length-set, length-map, length-replicate, map-set, set_comm, get_or-map, get_or_read}
use Rattle.std.proofs.lemmas.Nat.{pow-add}
use Rattle.weighted_event.specs.Trees.{IsFirstPlace}
use Rattle.weighted_event.specs.declared.row.Item.{Item}
use Rattle.weighted_event.specs.Rows.{is_in, without, gathered, weight_in, IsPlaced, AreNoted, AreApart, IsRow, IsFirstFit}
use Rattle.weighted_event.proofs.Gathers.{is_in-gathered, stands_first, none_fits, gathered-shift, gathered-out, filled, in_place}

-- where an item stands there is a place
pub within : (ps : List (Option Item)) (at : ℕ) (x : Item) → get_or ps at None ≡ Some x → at < length ps
within [] at x here = absurd (none-some x here)
within (o ∷ ps) zero x here = omega arith
within (o ∷ ps) (suc at) x here = omega (arith, within ps at x here)

-- another item's key leads where it led
elsewhere : (places : List ℕ) (at key to : ℕ) (o : Option Item) → IsPlaced places at o → ((y : Item) → o ≡ Some y → y.key ≢ key) → IsPlaced (set places key to) at o
elsewhere places at key to None is other = tt
elsewhere places at key to (Some y) is other =
    λ low. get_or-set_other places key y.key to 0 (other y refl) ∙ is (omega (arith, low, length-set places key to))

pub nobody : (items : List (Option Item)) (from : ℕ) → get_or (set items from None) from None ≡ None
nobody [] from = refl
nobody (o ∷ ps) zero = refl
nobody (o ∷ ps) (suc from) = nobody ps from

-- nobody stands in a place that was left
left_empty : (places : List ℕ) (items : List (Option Item)) (from at : ℕ) → IsPlaced places at (get_or items at None) → IsPlaced places at (get_or (set items from None) at None)
left_empty places items from at is = elim (cases_eq at from) [
  | inl same ↦ rw (same) (subst (IsPlaced places from) (sym (nobody items from)) tt)
  | inr other ↦ rw (get_or-set_other items from at None None other) is
]

stays_there : (items : List (Option Item)) (from at : ℕ) (x : Item) → get_or (set items from None) at None ≡ Some x → get_or items at None ≡ Some x
stays_there items from at x here = elim (cases_eq at from) [
  | inl same ↦ absurd (none-some x (sym (nobody items from) ∙ (ap (λ (k : ℕ). get_or (set items from None) k None) (sym same) ∙ here)))
  | inr other ↦ sym (get_or-set_other items from at None None other) ∙ here
]

-- an item leaves
pub IsRow-out : (weights : List ℕ) (items : List (Option Item)) (places : List ℕ) (end from : ℕ) → IsRow weights items places end → IsRow (set weights from 18446744073709551616) (set items from None) places end
IsRow-out weights items places end from row = record {
  weighed = ap (λ ws. set ws from 18446744073709551616) row.weighed ∙ sym (map-set weight_in items from None);
  apart = λ at other x y here there same. row.apart at other x y (stays_there items from at x here) (stays_there items from other y there) same;
  placed = λ at. left_empty places items from at (row.placed at);
  vacant = λ at past. elim (cases_eq at from) [
    | inl same ↦ rw same (nobody items from)
    | inr other ↦ get_or-set_other items from at None None other ∙ row.vacant at past
  ];
  within = omega (arith, row.within, length-set items from None);
  room = length-set items from None ∙ row.room;
}

-- an item is written into an empty place, and its key leads there
pub IsRow-put : (weights : List ℕ) (items : List (Option Item)) (places : List ℕ) (end at next : ℕ) (x : Item) → IsRow weights items places end → at < length items → ((q : ℕ) (y : Item) → get_or items q None ≡ Some y → y.key ≢ x.key) → at < next → end ≤ next → next ≤ length items
    → IsRow (set weights at x.weight) (set items at (Some x)) (set places x.key at) next
IsRow-put weights items places end at next x row there alone after grown last = record {
  weighed = ap (λ ws. set ws at x.weight) row.weighed ∙ sym (map-set weight_in items at (Some x));
  apart = λ q r y z here other same. elim (cases_eq q at) [
    | inl q_is ↦ elim (cases_eq r at) [
      | inl r_is ↦ q_is ∙ sym r_is
      | inr r_not ↦
          let it : x ≡ y = same_Some x y (sym (get_or-set_same items at (Some x) None there) ∙ (ap (λ (k : ℕ). get_or (set items at (Some x)) k None) (sym q_is) ∙ here)) in
          absurd (alone r z (sym (get_or-set_other items at r (Some x) None r_not) ∙ other) (sym same ∙ ap (λ (i : Item). i.key) (sym it)))
    ]
    | inr q_not ↦ elim (cases_eq r at) [
      | inl r_is ↦
          let it : x ≡ z = same_Some x z (sym (get_or-set_same items at (Some x) None there) ∙ (ap (λ (k : ℕ). get_or (set items at (Some x)) k None) (sym r_is) ∙ other)) in
          absurd (alone q y (sym (get_or-set_other items at q (Some x) None q_not) ∙ here) (same ∙ ap (λ (i : Item). i.key) (sym it)))
      | inr r_not ↦ row.apart q r y z (sym (get_or-set_other items at q (Some x) None q_not) ∙ here) (sym (get_or-set_other items at r (Some x) None r_not) ∙ other) same
    ]
  ];
  placed = λ q. elim (cases_eq q at) [
    | inl same ↦
        rw same (subst (IsPlaced (set places x.key at) at) (sym (get_or-set_same items at (Some x) None there)) (λ low. get_or-set_same places x.key at 0 (omega (arith, low, length-set places x.key at))))
    | inr other ↦ rw (get_or-set_other items at q (Some x) None other) (elsewhere places q x.key at (get_or items q None) (row.placed q) (λ y is. alone q y is))
  ];
  vacant = λ q past. get_or-set_other items at q (Some x) None (λ e. absurd (omega (arith, e, past, after))) ∙ row.vacant q (omega arith);
  within = omega (arith, last, length-set items at (Some x));
  room = length-set items at (Some x) ∙ (row.room ∙ ap (λ (n : ℕ). 2 * n) (sym (length-set places x.key at)));
}

-- nobody has a key that isn't in
pub none_has : (ps : List (Option Item)) (key : ℕ) → is_in key (gathered ps) ≡ false → (q : ℕ) (y : Item) → get_or ps q None ≡ Some y → y.key ≢ key
none_has ps key fresh q y here same = true≢false (sym (is_in-gathered ps q y here) ∙ (ap (λ (k : ℕ). is_in k (gathered ps)) same ∙ fresh))

-- what a place weighs
pub weight_there : (weights : List ℕ) (items : List (Option Item)) (q : ℕ) → weights ≡ map weight_in items → q < length items → get_or weights q 0 ≡ weight_in (get_or items q None)
weight_there weights items q is there = ap (λ ws. get_or ws q 0) is ∙ get_or-map weight_in items q None 0 there

-- an item moves to an empty place
pub IsRow-shift : (weights : List ℕ) (items : List (Option Item)) (places : List ℕ) (to from : ℕ) (x : Item) → IsRow weights items places (length items) → to < from → get_or items from None ≡ Some x
    → IsRow (set (set weights to x.weight) from 18446744073709551616) (set (set items to (Some x)) from None) (set places x.key to) (length items)
IsRow-shift weights items places to from x row before here =
    let last : from < length items = within items from x here in
    let apart : (to ≡ from → ⊥) = λ e. absurd (omega (arith, e, before)) in
    let out = IsRow-out weights items places (length items) from row in
    let same : length (set items from None) ≡ length items = length-set items from None in
    let other : (q : ℕ) (y : Item) → get_or (set items from None) q None ≡ Some y → y.key ≢ x.key = λ q y there keyed.
    elim (cases_eq q from) [
      | inl it ↦ none-some y (sym (nobody items from) ∙ (ap (λ (k : ℕ). get_or (set items from None) k None) (sym it) ∙ there))
      | inr not ↦ not (row.apart q from y x (sym (get_or-set_other items from q None None not) ∙ there) here keyed)
    ] in
    let put = IsRow-put (set weights from 18446744073709551616) (set items from None) places (length items) to (length items) x out (omega (arith, same)) other (omega arith) (omega arith) (omega (arith, same)) in
    rw (set_comm weights to from x.weight 18446744073709551616 apart, set_comm items to from (Some x) None apart) put

-- ---- an empty row

pub weigh_nothing : (n : ℕ) → replicate n 18446744073709551616 ≡ map weight_in (replicate n None)
weigh_nothing zero = refl
weigh_nothing (suc n) = ap (λ ws. 18446744073709551616 ∷ ws) (weigh_nothing n)

pub gather_nobody : (n : ℕ) → gathered (replicate n None) ≡ []
gather_nobody zero = refl
gather_nobody (suc n) = gather_nobody n

pub nobody_there : (n at : ℕ) (o : Option Item) → get_or (replicate n o) at o ≡ o
nobody_there zero at o = refl
nobody_there (suc n) zero o = refl
nobody_there (suc n) (suc at) o = nobody_there n at o

pub IsRow-empty : (room : ℕ) → IsRow (replicate (2 * room) 18446744073709551616) (replicate (2 * room) None) (replicate room 0) 0
IsRow-empty room = record {
  weighed = weigh_nothing (2 * room);
  apart = λ at other x y here there same. absurd (none-some x (sym (nobody_there (2 * room) at None) ∙ here));
  placed = λ at. subst (IsPlaced (replicate room 0) at) (sym (nobody_there (2 * room) at None)) tt;
  vacant = λ at past. nobody_there (2 * room) at None;
  within = omega arith;
  room = length-replicate (2 * room) None ∙ ap (λ (n : ℕ). 2 * n) (sym (length-replicate room 0));
}

take_none : {X : Type 0} (n : ℕ) (xs : List X) → xs ≡ [] → take n xs ≡ []
take_none zero xs none = refl
take_none (suc n) [] none = refl
take_none (suc n) (x ∷ xs) none = absurd (cc none)

pub all_new : {X : Type 0} (n l : ℕ) (v : X) (xs ys : List X) → xs ≡ [] → l ≡ 0 → ys ≡ take n xs ++ replicate (n - l) v → ys ≡ replicate n v
all_new n l v xs ys none short is =
    let nothing : take n xs ≡ [] = take_none n xs none in
    let e : n - l ≡ n = omega arith in
    is ∙ rw (nothing, e) refl

pub twice_up : (k room : ℕ) → room ≡ 2 ^ k → 2 ^ (k + 2) ≡ 2 * (2 * room)
twice_up k room is = omega (arith, pow-add 2 k 2, is)

-- ---- a search

pub row_found : (weights : List ℕ) (items : List (Option Item)) (places : List ℕ) (end a at : ℕ) (o : Option Item) → IsRow weights items places end → a < 18446744073709551616 → IsFirstPlace a weights (Some at) → o ≡ get_or items at o → IsFirstFit a (gathered items) o
row_found weights items places end a at o row small found read =
    let many : length weights ≡ length items = ap length row.weighed ∙ length-map items weight_in in
    let there : at < length items = omega (arith, found.0, many) in
    let here : o ≡ get_or items at None = get_or_read items at o there read None in
    let its : get_or weights at 0 ≡ weight_in o = weight_there weights items at row.weighed there ∙ ap weight_in (sym here) in
    told o here its
  where
    told : (o : Option Item) → o ≡ get_or items at None → get_or weights at 0 ≡ weight_in o → IsFirstFit a (gathered items) o
    told None here its = absurd (omega (arith, found.1, its, small))
    told (Some x) here its =
        let many : length weights ≡ length items = ap length row.weighed ∙ length-map items weight_in in
        stands_first a items at x (sym here) (omega (arith, found.1, its)) (λ q before. subst (λ (w : ℕ). a < w) (weight_there weights items q row.weighed (omega (arith, found.0, many, before))) (found.2 q before))

pub row_none : (weights : List ℕ) (items : List (Option Item)) (places : List ℕ) (end a : ℕ) → IsRow weights items places end → IsFirstPlace a weights None → IsFirstFit a (gathered items) None
row_none weights items places end a row found =
    let many : length weights ≡ length items = ap length row.weighed ∙ length-map items weight_in in
    none_fits a items (λ q there. subst (λ (w : ℕ). a < w) (weight_there weights items q row.weighed there) (found q (omega (arith, many))))

-- ---- the items move together

-- the places below `to` are full, and those from there up to `from` are empty
pub record Packed (all : List Item) (weights : List ℕ) (items : List (Option Item)) (places : List ℕ) (to from : ℕ) : Type 0 where
  pub row : IsRow weights items places (length items)
  pub same : gathered items ≡ all
  pub before : to ≤ from
  pub gap : (q : ℕ) → to ≤ q → q < from → get_or items q None ≡ None
  pub full : (q : ℕ) → q < to → is_some (get_or items q None) ≡ true

pub Packed-skip : (all : List Item) (weights : List ℕ) (items : List (Option Item)) (places : List ℕ) (to from : ℕ) → Packed all weights items places to from → get_or items from None ≡ None → Packed all weights items places to (from + 1)
Packed-skip all weights items places to from was none = record {
  row = was.row;
  same = was.same;
  before = omega (arith, was.before);
  gap = λ q low high. elim (cases_eq q from) [ inl is ↦ rw is none | inr not ↦ was.gap q low (omega arith) ];
  full = was.full;
}

pub Packed-keep : (all : List Item) (weights : List ℕ) (items : List (Option Item)) (places : List ℕ) (to from : ℕ) (x : Item) → Packed all weights items places to from → from ≤ to → get_or items from None ≡ Some x → Packed all weights items places (to + 1) (from + 1)
Packed-keep all weights items places to from x was here there = record {
  row = was.row;
  same = was.same;
  before = omega (arith, was.before);
  gap = λ q low high. absurd (omega (arith, low, high, here));
  full = λ q below. elim (cases_eq q from) [ inl is ↦ rw (is, there) refl | inr not ↦ was.full q (omega (arith, was.before)) ];
}

pub Packed-move : (all : List Item) (weights later : List ℕ) (items after : List (Option Item)) (places moved : List ℕ) (to from : ℕ) (x : Item) → Packed all weights items places to from → to < from → get_or items from None ≡ Some x
    → IsRow later after moved (length items) → after ≡ set (set items to (Some x)) from None → Packed all later after moved (to + 1) (from + 1)
Packed-move all weights later items after places moved to from x was before there row is =
    let many : length after ≡ length items = ap length is ∙ (length-set (set items to (Some x)) from None ∙ length-set items to (Some x)) in
    let last : from < length items = within items from x there in
    record {
      row = subst (IsRow later after moved) (sym many) row;
      same = ap gathered is ∙ (gathered-shift items to from x before there was.gap ∙ was.same);
      before = omega (arith, before);
      gap = λ q low high. rw is (elim (cases_eq q from) [
        | inl it ↦ rw it (nobody (set items to (Some x)) from)
        | inr not ↦ get_or-set_other (set items to (Some x)) from q None None not ∙ (get_or-set_other items to q (Some x) None (λ e. absurd (omega (arith, e, low))) ∙ was.gap q (omega (arith, low)) (omega (arith, high, not)))
      ]);
      full = λ q below. rw is (rw (get_or-set_other (set items to (Some x)) from q None None (λ e. absurd (omega (arith, e, below, before)))) (elim (cases_eq q to) [
        | inl it ↦ rw (it, get_or-set_same items to (Some x) None (omega arith)) refl
        | inr not ↦ rw (get_or-set_other items to q (Some x) None not) (was.full q (omega (arith, below, not)))
      ]));
    }

-- all are together once the last place is behind
pub Packed-all : (all : List Item) (weights : List ℕ) (items : List (Option Item)) (places : List ℕ) (to from : ℕ) → Packed all weights items places to from → length items ≤ from → from ≤ length items → (IsRow weights items places to) × (to ≤ length all)
Packed-all all weights items places to from was past last = (
  record {
    weighed = was.row.weighed;
    apart = was.row.apart;
    placed = was.row.placed;
    vacant = λ q low. elim (cases_lt q from) [ inl there ↦ was.gap q low there | inr beyond ↦ was.row.vacant q (omega (arith, past, beyond)) ];
    within = omega (arith, was.before, last);
    room = was.row.room;
  },
  omega (arith, filled items to was.full, ap length was.same),
)

-- ---- an item is found by its key

pub record Held (items : List (Option Item)) (key at : ℕ) : Type 0 where
  pub there : at < length items
  pub out : gathered (set items at None) ≡ without key (gathered items)

pub held_at : (items : List (Option Item)) (key at : ℕ) (x : Item) → AreApart items → get_or items at None ≡ Some x → x.key ≡ key → Held items key at
held_at items key at x apart here its =
    let alone : (q : ℕ) (y : Item) → q < at → get_or items q None ≡ Some y → y.key ≡ x.key → ⊥ = λ q y before there same. absurd (omega (arith, before, apart q at y x there here same)) in
    record { there = within items at x here; out = gathered-out items at x here alone ∙ ap (λ (k : ℕ). without k (gathered items)) its }

-- an item whose key is noted
pub noted : (items : List (Option Item)) (places : List ℕ) (key : ℕ) → AreApart items → AreNoted places items → is_in key (gathered items) ≡ true → key < length places → Held items key (get_or places key 0)
noted items places key apart placed listed low =
    let s = in_place items key listed in
    let its : s.it.key < length places → get_or places s.it.key 0 ≡ s.at = subst (IsPlaced places s.at) s.here (placed s.at) in
    let leads : get_or places key 0 ≡ s.at = ap (λ (k : ℕ). get_or places k 0) (sym s.its) ∙ its (subst (λ (k : ℕ). k < length places) (sym s.its) low) in
    subst (Held items key) (sym leads) (held_at items key s.at s.it apart s.here s.its)

-- an item that is nowhere isn't in
pub somewhere : (items : List (Option Item)) (key n : ℕ) → is_in key (gathered items) ≡ true → length items ≤ n → ((q : ℕ) (y : Item) → q < n → get_or items q None ≡ Some y → y.key ≢ key) → ⊥
somewhere items key n listed past none =
    let s = in_place items key listed in none s.at s.it (omega (arith, within items s.at s.it s.here, past)) s.here s.its

-- one place more has another key
pub past_one : (items : List (Option Item)) (key n : ℕ) → ((q : ℕ) (y : Item) → q < n → get_or items q None ≡ Some y → y.key ≢ key) → ((y : Item) → get_or items n None ≡ Some y → y.key ≢ key) → (q : ℕ) (y : Item) → q < n + 1 → get_or items q None ≡ Some y → y.key ≢ key
past_one items key n before here q y low there = elim (cases_eq q n) [
  | inl same ↦ here y (ap (λ (k : ℕ). get_or items k None) (sym same) ∙ there)
  | inr other ↦ before q y (omega (arith, low, other)) there
]
