-- Nodes that weigh as much as their lighter child: what a search knows, and what a write changes.
use Rattle.std.proofs.Common.{◌≡◌, ℕ, zero, suc, ◌+◌, ◌-◌, ◌*◌, ◌/◌, ◌^◌, ◌<◌, ◌≤◌, min, List, length, get_or, set, drop, Some, ap, ◌∙◌, arith, inl, inr}
use Rattle.std.proofs.lemmas.Bool.{cases_eq}
use Rattle.std.proofs.lemmas.List.{get_or-set_same, get_or-set_other, get_or-drop, length-drop}
use Rattle.std.proofs.Math.Nat.{pow-succ', pow-le-pow_right}
use Rattle.weighted_event.specs.Trees.{AreLeastBut, AreLeast, IsTree, IsFirstPlace}

-- a node weighs at least as much as its parent
pub parent : (nodes : List ℕ) (places : ℕ) → AreLeast nodes places → (k : ℕ) → 2 ≤ k → k < 2 * places → get_or nodes (k / 2) 0 ≤ get_or nodes k 0
parent nodes places least k low high =
    let here : get_or nodes (k / 2) 0 ≡ min (get_or nodes (2 * (k / 2)) 0) (get_or nodes (2 * (k / 2) + 1) 0) = least (k / 2) (omega arith) (omega arith) in
    elim (cases_eq k (2 * (k / 2))) [
      | inl even ↦ let same : get_or nodes k 0 ≡ get_or nodes (2 * (k / 2)) 0 = ap (λ (i : ℕ). get_or nodes i 0) even in omega arith
      | inr odd ↦
          let it : k ≡ 2 * (k / 2) + 1 = omega arith in
          let same : get_or nodes k 0 ≡ get_or nodes (2 * (k / 2) + 1) 0 = ap (λ (i : ℕ). get_or nodes i 0) it in omega arith
    ]

-- no node weighs less than the root
under_root : (nodes : List ℕ) (places a : ℕ) → AreLeast nodes places → a < get_or nodes 1 0 → (n k : ℕ) → k ≤ n → 0 < k → k < 2 * places → a < get_or nodes k 0
under_root nodes places a least root zero k under some within = absurd (omega (arith, under, some))
under_root nodes places a least root (suc n) k under some within =
    elim (cases_eq k 1) [
      | inl one ↦ let same : get_or nodes k 0 ≡ get_or nodes 1 0 = ap (λ (i : ℕ). get_or nodes i 0) one in omega arith
      | inr more ↦
          let above : a < get_or nodes (k / 2) 0 = under_root nodes places a least root n (k / 2) (omega arith) (omega arith) (omega arith) in
          let lighter : get_or nodes (k / 2) 0 ≤ get_or nodes k 0 = parent nodes places least k (omega arith) within in
          omega arith
    ]

pub none_below : (nodes : List ℕ) (places a : ℕ) → AreLeast nodes places → length nodes ≡ 2 * places → a < get_or nodes 1 0 → (k : ℕ) → k < length (drop places nodes) → a < get_or (drop places nodes) k 0
none_below nodes places a least count root k within =
    let there : k < places = omega (arith, length-drop places nodes) in
    rw (get_or-drop places nodes k 0) (under_root nodes places a least root (places + k) (places + k) (omega arith) (omega arith) (omega arith))

-- where a search is: at this node of a level of so many nodes
pub record Reached (nodes : List ℕ) (a level at : ℕ) : Type 0 where
  pub low : level ≤ at
  pub high : at < 2 * level
  pub enough : get_or nodes at 0 ≤ a
  pub heavier : (k : ℕ) → level ≤ k → k < at → a < get_or nodes k 0

heavier_below : (nodes : List ℕ) (places a level at : ℕ) → AreLeast nodes places → at < places → 0 < level → Reached nodes a level at → (k : ℕ) → 2 * level ≤ k → k < 2 * at → a < get_or nodes k 0
heavier_below nodes places a level at least within some here k low high =
    let above : a < get_or nodes (k / 2) 0 = here.heavier (k / 2) (omega arith) (omega arith) in
    let lighter : get_or nodes (k / 2) 0 ≤ get_or nodes k 0 = parent nodes places least k (omega arith) (omega arith) in
    omega arith

pub to_left : (nodes : List ℕ) (places a level at : ℕ) → AreLeast nodes places → at < places → 0 < level → Reached nodes a level at → get_or nodes (2 * at) 0 ≤ a → Reached nodes a (2 * level) (2 * at)
to_left nodes places a level at least within some here left =
    record { low = omega (arith, here.low); high = omega (arith, here.high); enough = left; heavier = heavier_below nodes places a level at least within some here }

pub to_right : (nodes : List ℕ) (places a level at : ℕ) → AreLeast nodes places → at < places → 0 < level → Reached nodes a level at → a < get_or nodes (2 * at) 0 → Reached nodes a (2 * level) (2 * at + 1)
to_right nodes places a level at least within some here left =
    let it : get_or nodes at 0 ≡ min (get_or nodes (2 * at) 0) (get_or nodes (2 * at + 1) 0) = least at (omega (arith, here.low)) within in
    record {
      low = omega (arith, here.low);
      high = omega (arith, here.high);
      enough = omega (arith, here.enough);
      heavier = λ k low high. elim (cases_eq k (2 * at)) [
        | inl same ↦ let is : get_or nodes k 0 ≡ get_or nodes (2 * at) 0 = ap (λ (i : ℕ). get_or nodes i 0) same in omega arith
        | inr other ↦ heavier_below nodes places a level at least within some here k low (omega arith)
      ];
    }

-- ---- a write

-- a place is written: its parent alone may weigh too much or too little now
pub written : (nodes : List ℕ) (places at w : ℕ) → places ≤ at → AreLeast nodes places → AreLeastBut (set nodes at w) places (at / 2)
written nodes places at w leaf least k some within other =
    let left : get_or (set nodes at w) (2 * k) 0 ≡ get_or nodes (2 * k) 0 = get_or-set_other nodes at (2 * k) w 0 (λ e. other (omega (arith, e))) in
    let right : get_or (set nodes at w) (2 * k + 1) 0 ≡ get_or nodes (2 * k + 1) 0 = get_or-set_other nodes at (2 * k + 1) w 0 (λ e. other (omega (arith, e))) in
    let here : get_or (set nodes at w) k 0 ≡ get_or nodes k 0 = get_or-set_other nodes at k w 0 (λ e. absurd (omega (arith, e, leaf, within))) in
    let was : get_or nodes k 0 ≡ min (get_or nodes (2 * k) 0) (get_or nodes (2 * k + 1) 0) = least k some within in
    omega arith

-- a node is mended, and its parent may be wrong
pub mended : (nodes : List ℕ) (places at w : ℕ) → length nodes ≡ 2 * places → 0 < at → at < places → w ≡ min (get_or nodes (2 * at) 0) (get_or nodes (2 * at + 1) 0) → AreLeastBut nodes places at → AreLeastBut (set nodes at w) places (at / 2)
mended nodes places at w count some within is least k positive below other =
    let left : get_or (set nodes at w) (2 * k) 0 ≡ get_or nodes (2 * k) 0 = get_or-set_other nodes at (2 * k) w 0 (λ e. other (omega (arith, e))) in
    let right : get_or (set nodes at w) (2 * k + 1) 0 ≡ get_or nodes (2 * k + 1) 0 = get_or-set_other nodes at (2 * k + 1) w 0 (λ e. other (omega (arith, e))) in
    elim (cases_eq k at) [
      | inl same ↦
          let here : get_or (set nodes at w) k 0 ≡ w = ap (λ (i : ℕ). get_or (set nodes at w) i 0) same ∙ get_or-set_same nodes at w 0 (omega arith) in
          let l : get_or nodes (2 * k) 0 ≡ get_or nodes (2 * at) 0 = ap (λ (i : ℕ). get_or nodes (2 * i) 0) same in
          let r : get_or nodes (2 * k + 1) 0 ≡ get_or nodes (2 * at + 1) 0 = ap (λ (i : ℕ). get_or nodes (2 * i + 1) 0) same in
          omega arith
      | inr apart ↦
          let here : get_or (set nodes at w) k 0 ≡ get_or nodes k 0 = get_or-set_other nodes at k w 0 apart in
          let was : get_or nodes k 0 ≡ min (get_or nodes (2 * k) 0) (get_or nodes (2 * k + 1) 0) = least k positive below apart in
          omega arith
    ]

-- a node that is right already ends the way up
pub right_already : (nodes : List ℕ) (places at : ℕ) → get_or nodes at 0 ≡ min (get_or nodes (2 * at) 0) (get_or nodes (2 * at + 1) 0) → AreLeastBut nodes places at → AreLeast nodes places
right_already nodes places at is least k some within =
    elim (cases_eq k at) [
      | inl same ↦
          let here : get_or nodes k 0 ≡ get_or nodes at 0 = ap (λ (i : ℕ). get_or nodes i 0) same in
          let l : get_or nodes (2 * k) 0 ≡ get_or nodes (2 * at) 0 = ap (λ (i : ℕ). get_or nodes (2 * i) 0) same in
          let r : get_or nodes (2 * k + 1) 0 ≡ get_or nodes (2 * at + 1) 0 = ap (λ (i : ℕ). get_or nodes (2 * i + 1) 0) same in
          omega arith
      | inr apart ↦ least k some within apart
    ]

pub at_the_top : (nodes : List ℕ) (places odd : ℕ) → odd ≡ 0 → AreLeastBut nodes places odd → AreLeast nodes places
at_the_top nodes places odd is least k some within = least k some within (λ e. absurd (omega (arith, e, is, some)))

-- ---- levels

pub some_path : (path places : ℕ) → 2 ^ path ≡ 2 * places → 1 ≤ path
some_path zero places h = absurd (omega (arith, h))
some_path (suc path) places h = omega arith

pub level_up : (c : ℕ) → 1 ≤ c → 2 ^ c ≡ 2 * 2 ^ (c - 1)
level_up zero some = absurd (omega (arith, some))
level_up (suc c) some = let e : suc c - 1 ≡ c = omega arith in rw e (pow-succ' 2 c)

pub last_level : (path places : ℕ) → 2 ^ path ≡ 2 * places → 2 ^ (path - 1) ≡ places
last_level path places h = omega (arith, level_up path (some_path path places h), h)

pub above_places : (c path places level at : ℕ) → 1 ≤ c → c < path → 2 ^ path ≡ 2 * places → level ≡ 2 ^ (c - 1) → at < 2 * level → at < places
above_places c path places level at some within whole is high =
    let up : 2 ^ c ≡ 2 * 2 ^ (c - 1) = level_up c some in
    let last : 2 ^ (path - 1) ≡ places = last_level path places whole in
    let few : 2 ^ c ≤ 2 ^ (path - 1) = pow-le-pow_right {n = 2} (omega arith) {i = c} {j = path - 1} (omega arith) in
    omega arith

pub places_found : (nodes : List ℕ) (places a level at : ℕ) → length nodes ≡ 2 * places → level ≡ places → Reached nodes a level at → IsFirstPlace a (drop places nodes) (Some (at - places))
places_found nodes places a level at count last here =
    let e : places + (at - places) ≡ at = omega (arith, here.low) in (
      omega (arith, length-drop places nodes, here.low, here.high),
      rw (get_or-drop places nodes (at - places) 0, e) here.enough,
      λ k before. rw (get_or-drop places nodes k 0) (here.heavier (places + k) (omega arith) (omega (arith, here.low))),
    )

-- a search looks at few nodes
pub few_nodes : (nodes : List ℕ) (places path visits : ℕ) → IsTree nodes places path → visits ≤ path → 2 ^ visits ≤ 2 * length (drop places nodes) + 1
few_nodes nodes places path visits tree few =
    let most : 2 ^ visits ≤ 2 ^ path = pow-le-pow_right {n = 2} (omega arith) {i = visits} {j = path} few in
    let count : length (drop places nodes) ≡ places = omega (arith, length-drop places nodes, tree.count) in
    elim (cases_eq places 0) [
      | inl none ↦ let no : 2 ^ path ≡ 1 = ap (λ (n : ℕ). 2 ^ n) (tree.none none) in omega arith
      | inr some ↦ let whole : 2 ^ path ≡ 2 * places = tree.complete (omega arith) in omega arith
    ]
