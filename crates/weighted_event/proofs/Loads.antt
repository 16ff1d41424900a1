-- How the one marked entry and its slot change, and where a walk finds the first entry that fits.
use Rattle.std.proofs.Common.{◌≡◌, ℕ, zero, suc, ◌+◌, ◌<◌, ◌≤◌, true, false, nat_le, if◌then◌else◌, List, [], ◌∷◌, ◌++◌, length, drop, slice_get, is_some, Option, Some, None, refl, sym, ap, ◌∙◌, subst, inl, inr, arith, eq-eqb, ne_eqb}
use Rattle.std.proofs.lemmas.Bool.{cases_eq, true≢false, false≢true}
use Rattle.std.proofs.lemmas.Option.{none-some, same_Some}
use Rattle.lock_event.specs.declared.event.Mark.TheVariants.{Waiting, Notified}
use Rattle.lock_event.specs.declared.event.Entry.{Entry}
use Rattle.lock_event.specs.declared.event.EntryId.{EntryId}
use Rattle.lock_event.specs.declared.event.Slot.{Slot}
use Rattle.weighted_event.specs.declared.weighted.Load.{Load}
use Rattle.lock_event.specs.Lists.{entry, is_marked, marked_count, is_marked_at, without}
use Rattle.lock_event.specs.Slots.{has_id}
use Rattle.lock_event.specs.Nodes.{fresh_entry}
use Rattle.lock_event.specs.Chains.{number, first_of, is_in, AreApart, cut_out, rewritten, at_slot, after_slot, with_mark, with_waker}
use Rattle.lock_event.specs.Lines.{passed}
use Rattle.weighted_event.specs.Weights.{is_enough, fit_first, fitted}
use Rattle.weighted_event.specs.Loads.{load, weight_of, weight_at, waker_in, first_marked, IsOneMarked, first_fit, marked_waker, without_marked_waker, told, laden, kept_at}
use Rattle.lock_event.proofs.Lines.{by_mark}
use Rattle.lock_event.proofs.Chains.{place}

enough : (w a : ℕ) → w ≤ a → nat_le w a ≡ true
enough w a h = grind (arith, h)

too_few : (w a : ℕ) → a < w → nat_le w a ≡ false
too_few w a h = grind (arith, h)

same_slot : (key : ℕ) → passed key None (Some key) ≡ None
same_slot key = rw (eq-eqb key key refl) refl

other_slot : (key : ℕ) (at : Option ℕ) → (at ≡ Some key → ⊥) → passed key None at ≡ at
other_slot key None other = refl
other_slot key (Some k) other = rw (ne_eqb k key (λ same. other (ap Some same))) refl

module _ {W : Type 0} where
  apart_from : (es : List (Entry (Slot (Load W)))) (key other : ℕ) → is_in key es ≡ true → is_in other es ≡ false → key ≡ other → ⊥
  apart_from es key other has hasnt same = true≢false (sym has ∙ (ap (λ k. is_in k es) same ∙ hasnt))

  pub first_marked-in : (es : List (Entry (Slot (Load W)))) (key : ℕ) → first_marked es ≡ Some key → is_in key es ≡ true
  first_marked-in [] key h = absurd (none-some key h)
  first_marked-in (e ∷ es) key h = elim (by_mark (is_marked e.mark)) [
    | inl it ↦ let here : Some (number e) ≡ Some key = rw it at h in rw (eq-eqb (number e) key (same_Some (number e) key here)) refl
    | inr waits ↦
        let later : first_marked es ≡ Some key = rw waits at h in
        elim (cases_eq (number e) key) [
          | inl same ↦ rw (eq-eqb (number e) key same) refl
          | inr other ↦ rw (ne_eqb (number e) key other) (first_marked-in es key later)
        ]
  ]

  pub none_marked : (es : List (Entry (Slot (Load W)))) → first_marked es ≡ None → marked_count es ≡ 0
  none_marked [] h = refl
  none_marked (e ∷ es) h = elim (by_mark (is_marked e.mark)) [
    | inl it ↦ let here : Some (number e) ≡ None = rw it at h in absurd (none-some (number e) (sym here))
    | inr waits ↦ rw waits (none_marked es (rw waits at h))
  ]

  pub some_marked : (es : List (Entry (Slot (Load W)))) (key : ℕ) → first_marked es ≡ Some key → 0 < marked_count es
  some_marked [] key h = absurd (none-some key h)
  some_marked (e ∷ es) key h = elim (by_mark (is_marked e.mark)) [
    | inl it ↦ rw it (omega arith)
    | inr waits ↦ rw waits (some_marked es key (rw waits at h))
  ]

  pub nobody_marked : (es : List (Entry (Slot (Load W)))) → marked_count es ≡ 0 → first_marked es ≡ None
  nobody_marked [] h = refl
  nobody_marked (e ∷ es) h = elim (by_mark (is_marked e.mark)) [
    | inl it ↦ absurd (omega (arith, rw it at h))
    | inr waits ↦ rw waits (nobody_marked es (rw waits at h))
  ]

  pub some_there : (es : List (Entry (Slot (Load W)))) (o : Option ℕ) → o ≡ first_marked es → is_some o ≡ true → 0 < marked_count es
  some_there es None is h = absurd (false≢true h)
  some_there es (Some key) is h = some_marked es key (sym is)

  pub none_there : (es : List (Entry (Slot (Load W)))) (o : Option ℕ) → o ≡ first_marked es → is_some o ≡ false → marked_count es ≡ 0
  none_there es None is h = none_marked es (sym is)
  none_there es (Some key) is h = absurd (true≢false h)

  pub listed-at : (es : List (Entry (Slot (Load W)))) (key : ℕ) → is_in key es ≡ true → (e : Entry (Slot (Load W))) × (at_slot key es ≡ Some e)
  listed-at [] key has = absurd (false≢true has)
  listed-at (e ∷ es) key has = elim (cases_eq (number e) key) [
    | inl same ↦ (e, rw (eq-eqb (number e) key same) refl)
    | inr other ↦ let rest = listed-at es key (rw (ne_eqb (number e) key other) at has) in (rest.0, rw (ne_eqb (number e) key other) rest.1)
  ]

  -- ---- an entry joins

  pub IsOneMarked-push : (es : List (Entry (Slot (Load W)))) (key : ℕ) (marked : Option ℕ) → IsOneMarked es marked → IsOneMarked (es ++ fresh_entry key ∷ []) marked
  IsOneMarked-push es key marked one = (one.0 ∙ sym (first es), omega (arith, one.1, count es))
    where
      first : (es : List (Entry (Slot (Load W)))) → first_marked (es ++ fresh_entry key ∷ []) ≡ first_marked es
      first [] = refl
      first (e ∷ es) = elim (by_mark (is_marked e.mark)) [ inl it ↦ rw it refl | inr waits ↦ rw waits (first es) ]

      count : (es : List (Entry (Slot (Load W)))) → marked_count (es ++ fresh_entry key ∷ []) ≡ marked_count es
      count [] = refl
      count (e ∷ es) = elim (by_mark (is_marked e.mark)) [ inl it ↦ rw it (ap (λ n. 1 + n) (count es)) | inr waits ↦ rw waits (count es) ]

  pub put-joined : (es : List (Entry (Slot (Load W)))) (key w : ℕ) (waker : Option W) → is_in key es ≡ false
      → rewritten key (with_waker (Some (load w waker))) (es ++ fresh_entry key ∷ []) ≡ es ++ entry (laden (record { number = key }) w waker) Waiting ∷ []
  put-joined [] key w waker none = rw (eq-eqb key key refl) refl
  put-joined (e ∷ es) key w waker none = elim (cases_eq (number e) key) [
    | inl same ↦ let in_it : true ≡ false = rw (eq-eqb (number e) key same) at none in absurd (true≢false in_it)
    | inr other ↦ rw (ne_eqb (number e) key other) (ap (λ xs. e ∷ xs) (put-joined es key w waker (rw (ne_eqb (number e) key other) at none)))
  ]

  pub in-push : (es : List (Entry (Slot (Load W)))) (key : ℕ) → is_in key (es ++ fresh_entry key ∷ []) ≡ true
  in-push [] key = rw (eq-eqb key key refl) refl
  in-push (e ∷ es) key = elim (cases_eq (number e) key) [
    | inl same ↦ rw (eq-eqb (number e) key same) refl
    | inr other ↦ rw (ne_eqb (number e) key other) (in-push es key)
  ]

  -- ---- what an entry carries changes

  first_marked-put : (key : ℕ) (x : Option (Load W)) (es : List (Entry (Slot (Load W)))) → first_marked (rewritten key (with_waker x) es) ≡ first_marked es
  first_marked-put key x [] = refl
  first_marked-put key x (e ∷ es) = elim (cases_eq (number e) key) [
    | inl same ↦ rw (eq-eqb (number e) key same) refl
    | inr other ↦ rw (ne_eqb (number e) key other) (elim (by_mark (is_marked e.mark)) [ inl it ↦ rw it refl | inr waits ↦ rw waits (first_marked-put key x es) ])
  ]

  marked_count-put : (key : ℕ) (x : Option (Load W)) (es : List (Entry (Slot (Load W)))) → marked_count (rewritten key (with_waker x) es) ≡ marked_count es
  marked_count-put key x [] = refl
  marked_count-put key x (e ∷ es) = elim (cases_eq (number e) key) [
    | inl same ↦ rw (eq-eqb (number e) key same) refl
    | inr other ↦ rw (ne_eqb (number e) key other) (elim (by_mark (is_marked e.mark)) [ inl it ↦ rw it (ap (λ n. 1 + n) (marked_count-put key x es)) | inr waits ↦ rw waits (marked_count-put key x es) ])
  ]

  pub IsOneMarked-put : (key : ℕ) (x : Option (Load W)) (es : List (Entry (Slot (Load W)))) (marked : Option ℕ) → IsOneMarked es marked → IsOneMarked (rewritten key (with_waker x) es) marked
  IsOneMarked-put key x es marked one = (one.0 ∙ sym (first_marked-put key x es), omega (arith, one.1, marked_count-put key x es))

  -- ---- an entry leaves

  first_marked-out : (key : ℕ) (es : List (Entry (Slot (Load W)))) → AreApart es → marked_count es ≤ 1 → passed key None (first_marked es) ≡ first_marked (cut_out key es)
  first_marked-out key [] apart one = refl
  first_marked-out key (e ∷ es) apart one = elim (cases_eq (number e) key) [
    | inl same ↦ elim (by_mark (is_marked e.mark)) [
      | inl it ↦
          let few : 1 + marked_count es ≤ 1 = rw it at one in
          rw (eq-eqb (number e) key same, it, same) (same_slot key ∙ sym (nobody_marked es (omega (arith, few))))
      | inr waits ↦
          let other : (first_marked es ≡ Some key → ⊥) = λ is. apart_from es key (number e) (first_marked-in es key is) apart.0 (sym same) in
          rw (eq-eqb (number e) key same, waits) (other_slot key (first_marked es) other)
    ]
    | inr other ↦ elim (by_mark (is_marked e.mark)) [
      | inl it ↦ rw (ne_eqb (number e) key other, it) (other_slot key (Some (number e)) (λ same. other (same_Some (number e) key same)))
      | inr waits ↦ rw (ne_eqb (number e) key other, waits) (first_marked-out key es apart.1 (rw waits at one))
    ]
  ]

  marked_count-out : (key : ℕ) (es : List (Entry (Slot (Load W)))) → marked_count (cut_out key es) ≤ marked_count es
  marked_count-out key [] = omega arith
  marked_count-out key (e ∷ es) = elim (cases_eq (number e) key) [
    | inl same ↦ rw (eq-eqb (number e) key same) (elim (by_mark (is_marked e.mark)) [ inl it ↦ rw it (omega arith) | inr waits ↦ rw waits (omega arith) ])
    | inr other ↦ rw (ne_eqb (number e) key other) (elim (by_mark (is_marked e.mark)) [ inl it ↦ rw it (omega (arith, marked_count-out key es)) | inr waits ↦ rw waits (marked_count-out key es) ])
  ]

  pub IsOneMarked-out : (key : ℕ) (es : List (Entry (Slot (Load W)))) (marked : Option ℕ) → AreApart es → IsOneMarked es marked → IsOneMarked (cut_out key es) (passed key None marked)
  IsOneMarked-out key es marked apart one = (ap (passed key None) one.0 ∙ first_marked-out key es apart one.1, omega (arith, one.1, marked_count-out key es))

  -- ---- an entry is notified

  not_there : (key : ℕ) (e : Entry (Slot (Load W))) (es : List (Entry (Slot (Load W)))) → is_in key (e ∷ es) ≡ true → (number e ≡ key → ⊥) → is_in key es ≡ true
  not_there key e es has other = rw (ne_eqb (number e) key other) at has

  pub IsOneMarked-told : (key : ℕ) (es : List (Entry (Slot (Load W)))) → is_in key es ≡ true → marked_count es ≡ 0 → (first_marked (rewritten key (with_mark Notified) es) ≡ Some key) × (marked_count (rewritten key (with_mark Notified) es) ≡ 1)
  IsOneMarked-told key [] has none = absurd (false≢true has)
  IsOneMarked-told key (e ∷ es) has none = elim (by_mark (is_marked e.mark)) [
    | inl it ↦ absurd (omega (arith, rw it at none))
    | inr waits ↦
        let later : marked_count es ≡ 0 = rw waits at none in
        elim (cases_eq (number e) key) [
          | inl same ↦ rw (eq-eqb (number e) key same) (ap Some same, ap (λ n. 1 + n) later)
          | inr other ↦ rw (ne_eqb (number e) key other, waits) (IsOneMarked-told key es (not_there key e es has other) later)
        ]
  ]

  -- ---- a walk

  pub fit_at : (a : ℕ) (es : List (Entry (Slot (Load W)))) (i : ℕ) (e : Entry (Slot (Load W))) → slice_get es i ≡ Some e → first_fit a (drop i es) ≡ (if is_enough weight_of a e then Some (number e) else first_fit a (drop (suc i) es))
  fit_at a [] i e h = absurd (none-some e h)
  fit_at a (d ∷ es) zero e h = ap (λ (x : Entry (Slot (Load W))). if is_enough weight_of a x then Some (number x) else first_fit a es) (same_Some d e h)
  fit_at a (d ∷ es) (suc i) e h = fit_at a es i e h

  pub fit_done : (a : ℕ) (es : List (Entry (Slot (Load W)))) (i : ℕ) → length es ≤ i → first_fit a (drop i es) ≡ None
  fit_done a [] zero h = refl
  fit_done a [] (suc i) h = refl
  fit_done a (e ∷ es) zero h = absurd (omega (arith, h))
  fit_done a (e ∷ es) (suc i) h = fit_done a es i (omega (arith, h))

  -- the place where a walk is
  pub record Walked (a i key : ℕ) (es : List (Entry (Slot (Load W)))) (e : Entry (Slot (Load W))) : Type 0 where
    pub has : is_in key es ≡ true
    pub next : after_slot key es ≡ first_of (drop (suc i) es) None
    pub fits : weight_of e.key ≤ a → first_fit a (drop i es) ≡ Some key
    pub short : a < weight_of e.key → first_fit a (drop i es) ≡ first_fit a (drop (suc i) es)

  pub has_place : (es : List (Entry (Slot (Load W)))) (i key : ℕ) → i < length es → AreApart es → first_of (drop i es) None ≡ Some key → is_in key es ≡ true
  has_place es i key within apart is = let here = place es i within apart in subst (λ (k : ℕ). is_in k es ≡ true) (same_Some (number here.e) key (sym here.slot ∙ is)) here.has

  pub walked : (a : ℕ) (es : List (Entry (Slot (Load W)))) (i key : ℕ) (e : Entry (Slot (Load W))) → i < length es → AreApart es → first_of (drop i es) None ≡ Some key → at_slot key es ≡ Some e → Walked a i key es e
  walked a es i key e within apart is at =
      let here = place es i within apart in
      let same : number here.e ≡ key = same_Some (number here.e) key (sym here.slot ∙ is) in
      let it : here.e ≡ e = same_Some here.e e (sym here.at ∙ (ap (λ k. at_slot k es) same ∙ at)) in
      let found : first_fit a (drop i es) ≡ (if nat_le (weight_of e.key) a then Some key else first_fit a (drop (suc i) es)) =
      fit_at a es i here.e here.here ∙ (ap (λ (x : Entry (Slot (Load W))). if is_enough weight_of a x then Some (number here.e) else first_fit a (drop (suc i) es)) it ∙ ap (λ k. if nat_le (weight_of e.key) a then Some k else first_fit a (drop (suc i) es)) same) in
      record {
        has = has_place es i key within apart is;
        next = ap (λ k. after_slot k es) (sym same) ∙ here.next;
        fits = λ h. found ∙ ap (λ b. if b then Some key else first_fit a (drop (suc i) es)) (enough (weight_of e.key) a h);
        short = λ h. found ∙ ap (λ b. if b then Some key else first_fit a (drop (suc i) es)) (too_few (weight_of e.key) a h);
      }

  pub first_fit-in : (a : ℕ) (es : List (Entry (Slot (Load W)))) (key : ℕ) → first_fit a es ≡ Some key → is_in key es ≡ true
  first_fit-in a [] key h = absurd (none-some key h)
  first_fit-in a (e ∷ es) key h = elim (by_mark (is_enough weight_of a e)) [
    | inl it ↦ let here : Some (number e) ≡ Some key = rw it at h in rw (eq-eqb (number e) key (same_Some (number e) key here)) refl
    | inr short ↦
        let later : first_fit a es ≡ Some key = rw short at h in
        elim (cases_eq (number e) key) [
          | inl same ↦ rw (eq-eqb (number e) key same) refl
          | inr other ↦ rw (ne_eqb (number e) key other) (first_fit-in a es key later)
        ]
  ]

  past : (es : List (Entry (Slot (Load W)))) (a : ℕ) (e : Entry (Slot (Load W))) (o : Option ℕ) → first_fit a es ≡ o → told o es ≡ fit_first weight_of a es → is_in (number e) es ≡ false → told o (e ∷ es) ≡ e ∷ fit_first weight_of a es
  past es a e None is rest apart = ap (λ xs. e ∷ xs) rest
  past es a e (Some key) is rest apart = rw (ne_eqb (number e) key (λ same. apart_from es key (number e) (first_fit-in a es key is) apart (sym same))) (ap (λ xs. e ∷ xs) rest)

  -- what is found is what is to be notified
  told_first : (a : ℕ) (es : List (Entry (Slot (Load W)))) (o : Option ℕ) → first_fit a es ≡ o → marked_count es ≡ 0 → AreApart es → told o es ≡ fit_first weight_of a es
  told_first a [] None is none apart = refl
  told_first a [] (Some key) is none apart = refl
  told_first a (e ∷ es) o is none apart = elim (by_mark (is_marked e.mark)) [
    | inl it ↦ absurd (omega (arith, rw it at none))
    | inr waits ↦
        let later : marked_count es ≡ 0 = rw waits at none in
        elim (by_mark (is_enough weight_of a e)) [
          | inl it ↦
              let here : Some (number e) ≡ o = rw it at is in
              rw (← here, waits, it, eq-eqb (number e) (number e) refl) refl
          | inr short ↦
              let next : first_fit a es ≡ o = rw short at is in
              rw (waits, short) (past es a e o next (told_first a es o next later apart.1) apart.0)
        ]
  ]

  pub told-fitted : (a : ℕ) (es : List (Entry (Slot (Load W)))) → marked_count es ≡ 0 → AreApart es → told (first_fit a es) es ≡ fitted weight_of a es
  told-fitted a es none apart = rw none (told_first a es (first_fit a es) refl none apart)

  pub not-fitted : (a : ℕ) (es : List (Entry (Slot (Load W)))) → 0 < marked_count es → fitted weight_of a es ≡ es
  not-fitted a es some = grind (arith, some)

  -- ---- the marked entry's waker

  pub emptied-is : (key : ℕ) (es : List (Entry (Slot (Load W)))) (e : Entry (Slot (Load W))) → first_marked es ≡ Some key → AreApart es → at_slot key es ≡ Some e
      → (marked_waker es ≡ waker_in e.key.waker) × (rewritten key (with_waker (Some (load (weight_of e.key) None))) es ≡ without_marked_waker es)
  emptied-is key [] e first apart at = absurd (none-some key first)
  emptied-is key (d ∷ es) e first apart at = elim (by_mark (is_marked d.mark)) [
    | inl it ↦
        let here : number d ≡ key = same_Some (number d) key (rw it at first) in
        let same : d ≡ e = same_Some d e (rw (eq-eqb (number d) key here) at at) in
        rw (eq-eqb (number d) key here, it) (ap (λ (x : Entry (Slot (Load W))). waker_in x.key.waker) same, ap (λ (x : Entry (Slot (Load W))). with_waker (Some (load (weight_of x.key) None)) d ∷ es) (sym same))
    | inr waits ↦
        let later : first_marked es ≡ Some key = rw waits at first in
        let other : (number d ≡ key → ⊥) = λ same. apart_from es key (number d) (first_marked-in es key later) apart.0 (sym same) in
        let rest = emptied-is key es e later apart.1 (rw (ne_eqb (number d) key other) at at) in
        rw (ne_eqb (number d) key other, waits) (rest.0, ap (λ xs. d ∷ xs) rest.1)
  ]

  pub nothing_emptied : (es : List (Entry (Slot (Load W)))) → first_marked es ≡ None → (marked_waker es ≡ None) × (without_marked_waker es ≡ es)
  nothing_emptied [] h = (refl, refl)
  nothing_emptied (e ∷ es) h = elim (by_mark (is_marked e.mark)) [
    | inl it ↦ let here : Some (number e) ≡ None = rw it at h in absurd (none-some (number e) (sym here))
    | inr waits ↦ let rest = nothing_emptied es (rw waits at h) in rw waits (rest.0, ap (λ xs. e ∷ xs) rest.1)
  ]

  pub weight_at-is : (id : EntryId) (es : List (Entry (Slot (Load W)))) (e : Entry (Slot (Load W))) → at_slot id.number es ≡ Some e → weight_at id es ≡ weight_of e.key
  weight_at-is id [] e at = absurd (none-some e at)
  weight_at-is id (d ∷ es) e at = elim (cases_eq (number d) id.number) [
    | inl same ↦ rw (eq-eqb (number d) id.number same) (ap (λ (x : Entry (Slot (Load W))). weight_of x.key) (same_Some d e (rw (eq-eqb (number d) id.number same) at at)))
    | inr other ↦ rw (ne_eqb (number d) id.number other) (weight_at-is id es e (rw (ne_eqb (number d) id.number other) at at))
  ]

  pub kept_at-is : (id : EntryId) (es : List (Entry (Slot (Load W)))) (e : Entry (Slot (Load W))) → at_slot id.number es ≡ Some e → kept_at id es ≡ waker_in e.key.waker
  kept_at-is id [] e at = absurd (none-some e at)
  kept_at-is id (d ∷ es) e at = elim (cases_eq (number d) id.number) [
    | inl same ↦ rw (eq-eqb (number d) id.number same) (ap (λ (x : Entry (Slot (Load W))). waker_in x.key.waker) (same_Some d e (rw (eq-eqb (number d) id.number same) at at)))
    | inr other ↦ rw (ne_eqb (number d) id.number other) (kept_at-is id es e (rw (ne_eqb (number d) id.number other) at at))
  ]

  pub record Unlisted (id : EntryId) (es : List (Entry (Slot (Load W)))) : Type 0 where
    pub marked : is_marked_at (has_id id) es ≡ false
    pub kept : kept_at id es ≡ None
    pub stays : without (has_id id) es ≡ es

  -- no entry has this id
  pub unlisted : (id : EntryId) (es : List (Entry (Slot (Load W)))) → is_in id.number es ≡ false → Unlisted id es
  unlisted id [] none = record { marked = refl; kept = refl; stays = refl }
  unlisted id (d ∷ es) none = elim (cases_eq (number d) id.number) [
    | inl same ↦ let in_it : true ≡ false = rw (eq-eqb (number d) id.number same) at none in absurd (true≢false in_it)
    | inr other ↦
        let rest = unlisted id es (rw (ne_eqb (number d) id.number other) at none) in
        record {
          marked = rw (ne_eqb (number d) id.number other) rest.marked;
          kept = rw (ne_eqb (number d) id.number other) rest.kept;
          stays = rw (ne_eqb (number d) id.number other) (ap (λ xs. d ∷ xs) rest.stays);
        }
  ]
