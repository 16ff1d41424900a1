-- The weights beside the entries go with them.
use Rattle.std.proofs.Common.{◌≡◌, ℕ, zero, suc, ◌+◌, ◌*◌, ◌^◌, ◌<◌, ◌≤◌, min, max, true, false, nat_le, List, [], ◌∷◌, ◌++◌, length, take, slice_get, Option, Some, None, refl, sym, ap, ◌∙◌, inl, inr, arith, eq-eqb, ne_eqb}
use Rattle.std.specs.List.{All}
use Rattle.std.proofs.lemmas.Bool.{cases_eq, cases_lt, true≢false}
use Rattle.std.proofs.lemmas.Option.{none-some, same_Some}
use Rattle.std.proofs.lemmas.List.{length_push}
use Rattle.std.proofs.Math.Nat.{pow-le-pow_right, pow-succ'}
use Rattle.weighted_event.specs.declared.row.Item.{Item}
use Rattle.weighted_event.specs.Rows.{item, IsFirstFit, StandsFirst}
use Rattle.weighted_event.specs.Rows as rows
use Rattle.lock_event.specs.declared.event.Mark.TheVariants.{Waiting, Notified}
use Rattle.lock_event.specs.declared.event.Entry.{Entry}
use Rattle.lock_event.specs.declared.event.Slot.{Slot}
use Rattle.weighted_event.specs.declared.weighted.Load.{Load}
use Rattle.weighted_event.specs.declared.weighted.Kind.{Kind}
use Rattle.weighted_event.specs.declared.weighted.Kind.TheVariants.{Alike, Few, Ranked}
use Rattle.weighted_event.specs.declared.weighted.Ranks.{Ranks}
use Rattle.lock_event.specs.Lists.{entry, marked_count}
use Rattle.lock_event.specs.Chains.{number, is_in, AreApart, cut_out, rewritten, at_slot, with_mark, with_waker}
use Rattle.lock_event.specs.Lines.{passed}
use Rattle.weighted_event.specs.Loads.{weight_of, weight_in, laden, first_fit, IsOneMarked}
use Rattle.weighted_event.specs.Ranks.{ranked, AreAlike, IsRanked, FitsOne, IsWeighted, OnRanked, joined_ranks, left_ranks}
use Rattle.weighted_event.proofs.Loads.{IsOneMarked-out, IsOneMarked-put, IsOneMarked-told}

-- a list that isn't longer than the way in the tree has few visits, and so has the way
pub few_visits : (visits path slots room : ℕ) → visits ≤ max 8 (path + 1) → 2 ^ path ≤ 4 * room + 1 → room ≤ 2 * slots + 1 → 2 ^ visits ≤ 256 * (min slots room + 1)
few_visits visits path slots room few logarithm lean =
    elim (cases_lt 8 visits) [
      | inl many ↦
          let most : 2 ^ visits ≤ 2 ^ suc path = pow-le-pow_right {n = 2} (omega arith) {i = visits} {j = suc path} (omega arith) in
          let twice : 2 ^ suc path ≡ 2 * 2 ^ path = pow-succ' 2 path in
          omega arith
      | inr eight ↦
          let most : 2 ^ visits ≤ 2 ^ 8 = pow-le-pow_right {n = 2} (omega arith) {i = visits} {j = 8} eight in
          let is : 2 ^ 8 ≡ 256 = refl in
          omega arith
    ]

pub no_visit : (slots room : ℕ) → 2 ^ 0 ≤ 256 * (min slots room + 1)
no_visit slots room = omega arith

module _ {W : Type 0} where
  pub length-ranked : (es : List (Entry (Slot (Load W)))) → length (ranked es) ≡ length es
  length-ranked [] = refl
  length-ranked (e ∷ es) = ap suc (length-ranked es)

  pub at_slot-in : (key : ℕ) (es : List (Entry (Slot (Load W)))) (e : Entry (Slot (Load W))) → at_slot key es ≡ Some e → is_in key es ≡ true
  at_slot-in key [] e at = absurd (none-some e at)
  at_slot-in key (d ∷ es) e at = elim (cases_eq (number d) key) [
    | inl same ↦ rw (eq-eqb (number d) key same) refl
    | inr other ↦ rw (ne_eqb (number d) key other) (at_slot-in key es e (rw (ne_eqb (number d) key other) at at))
  ]

  is_in-ranked : (key : ℕ) (es : List (Entry (Slot (Load W)))) → rows.is_in key (ranked es) ≡ is_in key es
  is_in-ranked key [] = refl
  is_in-ranked key (e ∷ es) = elim (cases_eq (number e) key) [
    | inl same ↦ rw (eq-eqb (number e) key same) refl
    | inr other ↦ rw (ne_eqb (number e) key other) (is_in-ranked key es)
  ]

  -- ---- an entry leaves

  without-ranked : (key : ℕ) (es : List (Entry (Slot (Load W)))) → rows.without key (ranked es) ≡ ranked (cut_out key es)
  without-ranked key [] = refl
  without-ranked key (e ∷ es) = elim (cases_eq (number e) key) [
    | inl same ↦ rw (eq-eqb (number e) key same) refl
    | inr other ↦ rw (ne_eqb (number e) key other) (ap (λ xs. item (number e) (weight_of e.key) ∷ xs) (without-ranked key es))
  ]

  alike-out : (w key : ℕ) (es : List (Entry (Slot (Load W)))) → AreAlike w es → AreAlike w (cut_out key es)
  alike-out w key [] all = tt
  alike-out w key (e ∷ es) all = elim (cases_eq (number e) key) [
    | inl same ↦ rw (eq-eqb (number e) key same) all.1
    | inr other ↦ rw (ne_eqb (number e) key other) (all.0, alike-out w key es all.1)
  ]

  shorter : (key : ℕ) (es : List (Entry (Slot (Load W)))) → length (cut_out key es) ≤ length es
  shorter key [] = omega arith
  shorter key (e ∷ es) = elim (cases_eq (number e) key) [
    | inl same ↦ rw (eq-eqb (number e) key same) (omega arith)
    | inr other ↦ rw (ne_eqb (number e) key other) (omega (arith, shorter key es))
  ]

  IsRanked-out : (key : ℕ) (es : List (Entry (Slot (Load W)))) (items : List Item) (kind : Kind) → IsRanked es items kind → IsRanked (cut_out key es) (left_ranks kind key items) kind
  IsRanked-out key es items (Alike w) is = (is.0, alike-out w key es is.1)
  IsRanked-out key es items Few is = (is.0, omega (arith, is.1, shorter key es))
  IsRanked-out key es items Ranked is = ap (rows.without key) is ∙ without-ranked key es

  pub IsRanked-listed : (key : ℕ) (es : List (Entry (Slot (Load W)))) (items : List Item) (kind : Kind) → IsRanked es items kind → is_in key es ≡ true → OnRanked kind (rows.is_in key items ≡ true)
  IsRanked-listed key es items (Alike w) is listed = tt
  IsRanked-listed key es items Few is listed = tt
  IsRanked-listed key es items Ranked is listed = ap (rows.is_in key) is ∙ (is_in-ranked key es ∙ listed)

  pub IsWeighted-out : (key : ℕ) (es : List (Entry (Slot (Load W)))) (room : ℕ) (marked : Option ℕ) (ranks later : Ranks) → AreApart es → IsWeighted es room marked ranks
      → later.row.items ≡ left_ranks ranks.kind key ranks.row.items → later.kind ≡ ranks.kind → later.row.room ≡ ranks.row.room → IsWeighted (cut_out key es) room (passed key None marked) later
  IsWeighted-out key es room marked ranks later apart was items kind same = record {
    one = IsOneMarked-out key es marked apart was.one;
    ranks_are = rw (items, kind) (IsRanked-out key es ranks.row.items ranks.kind was.ranks_are);
    lean = omega (arith, same, was.lean);
  }

  -- ---- what an entry carries changes, with its weight as it was

  ranked-put : (key : ℕ) (x : Option (Load W)) (es : List (Entry (Slot (Load W)))) (e : Entry (Slot (Load W))) → at_slot key es ≡ Some e → weight_in x ≡ weight_of e.key → ranked (rewritten key (with_waker x) es) ≡ ranked es
  ranked-put key x [] e at weight = refl
  ranked-put key x (d ∷ es) e at weight = elim (cases_eq (number d) key) [
    | inl same ↦
        let it : d ≡ e = same_Some d e (rw (eq-eqb (number d) key same) at at) in
        let its : weight_in x ≡ weight_of d.key = weight ∙ ap (λ (y : Entry (Slot (Load W))). weight_of y.key) (sym it) in
        rw (eq-eqb (number d) key same) (ap (λ (w : ℕ). item (number d) w ∷ ranked es) its)
    | inr other ↦ rw (ne_eqb (number d) key other) (ap (λ xs. item (number d) (weight_of d.key) ∷ xs) (ranked-put key x es e (rw (ne_eqb (number d) key other) at at) weight))
  ]

  alike-put : (w key : ℕ) (x : Option (Load W)) (es : List (Entry (Slot (Load W)))) (e : Entry (Slot (Load W))) → at_slot key es ≡ Some e → weight_in x ≡ weight_of e.key → AreAlike w es → AreAlike w (rewritten key (with_waker x) es)
  alike-put w key x [] e at weight all = tt
  alike-put w key x (d ∷ es) e at weight all = elim (cases_eq (number d) key) [
    | inl same ↦
        let it : d ≡ e = same_Some d e (rw (eq-eqb (number d) key same) at at) in
        let its : weight_in x ≡ weight_of d.key = weight ∙ ap (λ (y : Entry (Slot (Load W))). weight_of y.key) (sym it) in
        rw (eq-eqb (number d) key same) (its ∙ all.0, all.1)
    | inr other ↦ rw (ne_eqb (number d) key other) (all.0, alike-put w key x es e (rw (ne_eqb (number d) key other) at at) weight all.1)
  ]

  length-rewritten : (key : ℕ) (g : Entry (Slot (Load W)) → Entry (Slot (Load W))) (es : List (Entry (Slot (Load W)))) → length (rewritten key g es) ≡ length es
  length-rewritten key g [] = refl
  length-rewritten key g (e ∷ es) = elim (cases_eq (number e) key) [
    | inl same ↦ rw (eq-eqb (number e) key same) refl
    | inr other ↦ rw (ne_eqb (number e) key other) (ap suc (length-rewritten key g es))
  ]

  IsRanked-put : (key : ℕ) (x : Option (Load W)) (es : List (Entry (Slot (Load W)))) (items : List Item) (kind : Kind) (e : Entry (Slot (Load W))) → at_slot key es ≡ Some e → weight_in x ≡ weight_of e.key → IsRanked es items kind → IsRanked (rewritten key (with_waker x) es) items kind
  IsRanked-put key x es items (Alike w) e at weight is = (is.0, alike-put w key x es e at weight is.1)
  IsRanked-put key x es items Few e at weight is = (is.0, omega (arith, is.1, length-rewritten key (with_waker x) es))
  IsRanked-put key x es items Ranked e at weight is = is ∙ sym (ranked-put key x es e at weight)

  pub IsWeighted-put : (key : ℕ) (x : Option (Load W)) (es : List (Entry (Slot (Load W)))) (room : ℕ) (marked : Option ℕ) (ranks : Ranks) (e : Entry (Slot (Load W))) → at_slot key es ≡ Some e → weight_in x ≡ weight_of e.key → IsWeighted es room marked ranks → IsWeighted (rewritten key (with_waker x) es) room marked ranks
  IsWeighted-put key x es room marked ranks e at weight was = record {
    one = IsOneMarked-put key x es marked was.one;
    ranks_are = IsRanked-put key x es ranks.row.items ranks.kind e at weight was.ranks_are;
    lean = was.lean;
  }

  -- ---- an entry is notified

  ranked-told : (key : ℕ) (es : List (Entry (Slot (Load W)))) → ranked (rewritten key (with_mark Notified) es) ≡ ranked es
  ranked-told key [] = refl
  ranked-told key (e ∷ es) = elim (cases_eq (number e) key) [
    | inl same ↦ rw (eq-eqb (number e) key same) refl
    | inr other ↦ rw (ne_eqb (number e) key other) (ap (λ xs. item (number e) (weight_of e.key) ∷ xs) (ranked-told key es))
  ]

  alike-told : (w key : ℕ) (es : List (Entry (Slot (Load W)))) → AreAlike w es → AreAlike w (rewritten key (with_mark Notified) es)
  alike-told w key [] all = tt
  alike-told w key (e ∷ es) all = elim (cases_eq (number e) key) [
    | inl same ↦ rw (eq-eqb (number e) key same) all
    | inr other ↦ rw (ne_eqb (number e) key other) (all.0, alike-told w key es all.1)
  ]

  IsRanked-told : (key : ℕ) (es : List (Entry (Slot (Load W)))) (items : List Item) (kind : Kind) → IsRanked es items kind → IsRanked (rewritten key (with_mark Notified) es) items kind
  IsRanked-told key es items (Alike w) is = (is.0, alike-told w key es is.1)
  IsRanked-told key es items Few is = (is.0, omega (arith, is.1, length-rewritten key (with_mark Notified) es))
  IsRanked-told key es items Ranked is = is ∙ sym (ranked-told key es)

  pub IsWeighted-told : (key : ℕ) (es : List (Entry (Slot (Load W)))) (room : ℕ) (marked : Option ℕ) (ranks : Ranks) → is_in key es ≡ true → marked_count es ≡ 0 → IsWeighted es room marked ranks → IsWeighted (rewritten key (with_mark Notified) es) room (Some key) ranks
  IsWeighted-told key es room marked ranks listed none was =
      let it = IsOneMarked-told key es listed none in
      record {
        one = (sym it.0, omega (arith, it.1));
        ranks_are = IsRanked-told key es ranks.row.items ranks.kind was.ranks_are;
        lean = was.lean;
      }

  -- ---- an entry joins

  ranked-push : (es : List (Entry (Slot (Load W)))) (e : Entry (Slot (Load W))) → ranked (es ++ e ∷ []) ≡ ranked es ++ item (number e) (weight_of e.key) ∷ []
  ranked-push [] e = refl
  ranked-push (d ∷ es) e = ap (λ xs. item (number d) (weight_of d.key) ∷ xs) (ranked-push es e)

  alike-push : (w : ℕ) (es : List (Entry (Slot (Load W)))) (e : Entry (Slot (Load W))) → AreAlike w es → weight_of e.key ≡ w → AreAlike w (es ++ e ∷ [])
  alike-push w [] e all its = (its, tt)
  alike-push w (d ∷ es) e all its = (all.0, alike-push w es e all.1 its)

  pub IsRanked-joined : (es : List (Entry (Slot (Load W)))) (items : List Item) (kind : Kind) (room key w : ℕ) (waker : Option W) → IsRanked es items kind → FitsOne w es room kind → IsRanked (es ++ entry (laden (record { number = key }) w waker) Waiting ∷ []) (joined_ranks kind key w items) kind
  IsRanked-joined es items (Alike common) room key w waker is fits = (is.0, alike-push common es (entry (laden (record { number = key }) w waker) Waiting) is.1 (sym fits))
  IsRanked-joined es items Few room key w waker is fits = (is.0, omega (arith, fits, length_push es (entry (laden (record { number = key }) w waker) Waiting)))
  IsRanked-joined es items Ranked room key w waker is fits = ap (λ xs. xs ++ item key w ∷ []) is ∙ sym (ranked-push es (entry (laden (record { number = key }) w waker) Waiting))

  pub IsRanked-room : (es : List (Entry (Slot (Load W)))) (items : List Item) (kind : Kind) (room w : ℕ) → IsRanked es items kind → FitsOne w es room kind → OnRanked kind (length items < room)
  IsRanked-room es items (Alike common) room w is fits = tt
  IsRanked-room es items Few room w is fits = tt
  IsRanked-room es items Ranked room w is fits = omega (arith, fits, ap length is, length-ranked es)

  pub IsRanked-fresh : (es : List (Entry (Slot (Load W)))) (items : List Item) (kind : Kind) (key : ℕ) → IsRanked es items kind → is_in key es ≡ false → OnRanked kind (rows.is_in key items ≡ false)
  IsRanked-fresh es items (Alike common) key is none = tt
  IsRanked-fresh es items Few key is none = tt
  IsRanked-fresh es items Ranked key is none = ap (rows.is_in key) is ∙ (is_in-ranked key es ∙ none)

  pub IsWeighted-joined : (es later : List (Entry (Slot (Load W)))) (room : ℕ) (marked : Option ℕ) (ranks after : Ranks) (key w : ℕ) (waker : Option W) → IsOneMarked later marked → later ≡ es ++ entry (laden (record { number = key }) w waker) Waiting ∷ []
      → IsRanked es ranks.row.items ranks.kind → FitsOne w es ranks.row.room ranks.kind → after.row.items ≡ joined_ranks ranks.kind key w ranks.row.items → after.kind ≡ ranks.kind → after.row.room ≡ ranks.row.room → ranks.row.room ≤ 2 * room + 1
      → IsWeighted later room marked after
  IsWeighted-joined es later room marked ranks after key w waker one is ranks_are fits items kind same lean = record {
    one = one;
    ranks_are = rw (items, kind, is) (IsRanked-joined es ranks.row.items ranks.kind ranks.row.room key w waker ranks_are fits);
    lean = omega (arith, same, lean);
  }

  -- the slots have got more room
  pub IsWeighted-roomier : (es later : List (Entry (Slot (Load W)))) (room more : ℕ) (marked : Option ℕ) (ranks : Ranks) → later ≡ es → room ≤ more → IsWeighted es room marked ranks → IsWeighted later more marked ranks
  IsWeighted-roomier es later room more marked ranks same grown was = rw same (record { one = was.one; ranks_are = was.ranks_are; lean = omega (arith, was.lean, grown) })

  -- the row has got more room, or the ranks are of another kind
  pub IsWeighted-settled : (es later : List (Entry (Slot (Load W)))) (room more : ℕ) (marked : Option ℕ) (ranks after : Ranks) → later ≡ es → room ≤ more → IsWeighted es room marked ranks → IsRanked later after.row.items after.kind → (ranks.row.room ≤ 2 * more + 1 → after.row.room ≤ 2 * more + 1)
      → IsWeighted later more marked after
  IsWeighted-settled es later room more marked ranks after same grown was ranks_are lean =
      record { one = rw same was.one; ranks_are = ranks_are; lean = lean (omega (arith, was.lean, grown)) }

  -- ---- all entries come into the row

  pub take_ranked : (es : List (Entry (Slot (Load W)))) (i : ℕ) (e : Entry (Slot (Load W))) → slice_get es i ≡ Some e → ranked (take (suc i) es) ≡ ranked (take i es) ++ item (number e) (weight_of e.key) ∷ []
  take_ranked [] i e here = absurd (none-some e here)
  take_ranked (d ∷ es) zero e here = ap (λ (x : Entry (Slot (Load W))). item (number x) (weight_of x.key) ∷ []) (same_Some d e here)
  take_ranked (d ∷ es) (suc i) e here = ap (λ xs. item (number d) (weight_of d.key) ∷ xs) (take_ranked es i e here)

  get-in : (es : List (Entry (Slot (Load W)))) (i : ℕ) (e : Entry (Slot (Load W))) → slice_get es i ≡ Some e → is_in (number e) es ≡ true
  get-in [] i e here = absurd (none-some e here)
  get-in (d ∷ es) zero e here = rw (eq-eqb (number d) (number e) (ap (λ (x : Entry (Slot (Load W))). number x) (same_Some d e here))) refl
  get-in (d ∷ es) (suc i) e here = elim (cases_eq (number d) (number e)) [
    | inl same ↦ rw (eq-eqb (number d) (number e) same) refl
    | inr other ↦ rw (ne_eqb (number d) (number e) other) (get-in es i e here)
  ]

  pub not_yet_in : (es : List (Entry (Slot (Load W)))) (i : ℕ) (e : Entry (Slot (Load W))) → AreApart es → slice_get es i ≡ Some e → rows.is_in (number e) (ranked (take i es)) ≡ false
  not_yet_in es zero e apart here = refl
  not_yet_in [] (suc i) e apart here = refl
  not_yet_in (d ∷ es) (suc i) e apart here =
      let other : (number d ≡ number e → ⊥) = λ same. true≢false (sym (get-in es i e here) ∙ (ap (λ (k : ℕ). is_in k es) (sym same) ∙ apart.0)) in
      rw (ne_eqb (number d) (number e) other) (not_yet_in es i e apart.1 here)

  -- ---- a search

  pub none_alike : (w a : ℕ) (es : List (Entry (Slot (Load W)))) → AreAlike w es → a < w → first_fit a es ≡ None
  none_alike w a [] all short = refl
  none_alike w a (e ∷ es) all short =
      let heavy : nat_le (weight_of e.key) a ≡ false = grind (arith, all.0, short) in
      rw heavy (none_alike w a es all.1 short)

  none_fit : (a : ℕ) (es : List (Entry (Slot (Load W)))) → All (λ (x : Item). a < x.weight) (ranked es) → first_fit a es ≡ None
  none_fit a [] all = refl
  none_fit a (e ∷ es) all =
      let here : a < weight_of e.key = all 0 (item (number e) (weight_of e.key)) (omega arith) in
      let heavy : nat_le (weight_of e.key) a ≡ false = grind (arith, here) in
      rw heavy (none_fit a es (λ k d h. all (suc k) d (omega (arith, h))))

  stands : (a : ℕ) (es : List (Entry (Slot (Load W)))) (before after : List Item) (x : Item) → ranked es ≡ before ++ x ∷ after → All (λ (y : Item). a < y.weight) before → x.weight ≤ a → first_fit a es ≡ Some x.key
  stands a [] [] after x is heavier enough = absurd (cc is)
  stands a [] (y ∷ before) after x is heavier enough = absurd (cc is)
  stands a (e ∷ es) [] after x is heavier enough =
      let it : item (number e) (weight_of e.key) ≡ x = cc is in
      let light : nat_le (weight_of e.key) a ≡ true = grind (arith, ap (λ (y : Item). y.weight) it, enough) in
      rw light (ap (λ (y : Item). Some y.key) it)
  stands a (e ∷ es) (y ∷ before) after x is heavier enough =
      let it : item (number e) (weight_of e.key) ≡ y = cc is in
      let rest : ranked es ≡ before ++ x ∷ after = cc is in
      let over : a < y.weight = heavier 0 y (omega arith) in
      let heavy : nat_le (weight_of e.key) a ≡ false = grind (arith, ap (λ (z : Item). z.weight) it, over) in
      rw heavy (stands a es before after x rest (λ k d h. heavier (suc k) d (omega (arith, h))) enough)

  pub found_none : (a : ℕ) (es : List (Entry (Slot (Load W)))) (items : List Item) → items ≡ ranked es → IsFirstFit a items None → first_fit a es ≡ None
  found_none a es items is all = none_fit a es (rw is at all)

  pub found_some : (a : ℕ) (es : List (Entry (Slot (Load W)))) (items : List Item) (x : Item) → items ≡ ranked es → IsFirstFit a items (Some x) → first_fit a es ≡ Some x.key
  found_some a es items x is first = stands a es first.before first.after x (sym is ∙ first.stands) first.heavier first.enough
