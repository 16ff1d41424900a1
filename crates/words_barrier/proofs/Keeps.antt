-- Each step on the table keeps its rule: of one state.
use Rattle.std.proofs.Common.{◌≡◌, ℕ, zero, suc, ◌%◌, ◌<◌, true, false, List, [], ◌∷◌, ◌++◌, length, get_or, set, sym, refl, ap, ◌∙◌, subst, arith, ◌⊎◌, ⊎_elim, inl, inr, length-set, get_or-set_same, get_or-set_other}
use mathlib.Core.Option.{some, some-injective, some-ne-none}
use lib.ListN.{get_elem?}
use Rattle.atomic_table.specs.Table.{State, Me, keeps, takes, gives, stepped, put_back, rest, opening}
use Rattle.atomic_table.proofs.Lists.{set_here, at_set}
use Rattle.words_base.specs.Sums.{weight, number}
use Rattle.words_base.proofs.Sums.{number-set, number-at}
use Rattle.words_barrier.specs.Rule.{first_view, has_list_out, Owes, WaitsFor, IsEntryOf, LosesNone, SaysEmpty, Ruled}
use Rattle.words_barrier.specs.Seats.{saw_of, counted_of, finished_by, eased_of, listing_of, back, joined_of, gone_of, paid_of}
use Rattle.words_base.specs.Lists.{Listed, nobody, Stays, PaysAll, Joins, Leaves}
use Rattle.words_base.specs.Waiting.{Has, IsNew, Matched, all_but, SomeSeat}
use Rattle.words_barrier.specs.declared.view.View.{View}
use Rattle.words_barrier.proofs.Flags.{never}
use Rattle.words_base.proofs.Matched.{nobody_stands, kept, joined, left}
use Rattle.words_base.proofs.Views.{own, stays, all_stay}

module _ (S : Type 0) (listed_of : S → Listed) where
  abbrev R : State S View → Type 0
  R = Ruled listed_of

  module _ (list : S) (none_there : listed_of list ≡ nobody) where
    none_out : (i : ℕ) (v : View) → get_elem? (first_view ∷ []) i ≡ some v → v.has_list ≡ true → v.list ≡ nobody
    none_out zero v e is = never (ap (λ (u : View). u.has_list) (some-injective first_view v e) ∙ is)
    none_out (suc i) v e is = absurd (some-ne-none v (sym e))

    -- a barrier of which no generation is finished, and nobody waits
    pub opens : R (opening (0 ∷ 0 ∷ []) (list ∷ []) first_view)
    opens = record {
      two_words = omega arith;
      list_word = (omega arith, refl);
      list = nobody;
      matched = nobody_stands IsEntryOf first_view [] refl (λ n q. never q.0);
      wakes = inr (λ n h. absurd h);
      unlisted = λ _. refl;
      home = λ _. (list, refl, none_there);
      out = none_out;
    }

  module _ (s : State S View) (id : ℕ) (me : Me S View) (r : R s) (at : get_elem? s.views id ≡ some me.0) where
    abbrev x : ℕ
    x = get_or s.words 0 0

    abbrev y : ℕ
    y = get_or s.words 1 0

    abbrev after : View → List View
    after w = set s.views id w

    one_word : 0 < length s.words
    one_word = let t = r.two_words in omega arith

    mine : (P : View → Type 0) (w : View) → P w → SomeSeat P (after w)
    mine = own s.views id me.0 at

    out_set : (w : View) → (w.has_list ≡ true → w.list ≡ r.list) → (i : ℕ) (v : View) → get_elem? (after w) i ≡ some v → v.has_list ≡ true → v.list ≡ r.list
    out_set w good i v e is = ⊎_elim (λ here. subst (λ (u : View). u.list ≡ r.list) here.1 (good (ap (λ (u : View). u.has_list) here.1 ∙ is))) (λ else. r.out i v else.1 is) (at_set s.views id i w v e)

    -- what a step leaves of a seat that doesn't touch the list
    abbrev KeepsList : View → Type 0
    KeepsList w = (w.has_list ≡ me.0.has_list) × (w.list ≡ me.0.list) × (w.listed ≡ me.0.listed) × (w.entry ≡ me.0.entry)

    -- the seats keep their entries
    matched_as : (w : View) → w.listed ≡ me.0.listed → w.entry ≡ me.0.entry → Matched IsEntryOf r.list.entries (after w)
    matched_as w l e = kept IsEntryOf r.list.entries s.views id me.0 at r.matched w (λ n is. (l ∙ is.0, e ∙ is.1)) (λ n is. (sym l ∙ is.0, sym e ∙ is.1))

    out_left : (w : View) → KeepsList w → (i : ℕ) (v : View) → get_elem? (after w) i ≡ some v → v.has_list ≡ true → v.list ≡ r.list
    out_left w left = out_set w (λ is. left.1 ∙ r.out id me.0 at (sym left.0 ∙ is))

    same_out : (w : View) → w.has_list ≡ me.0.has_list → number has_list_out (after w) ≡ number has_list_out s.views
    same_out w e = let c = number-set has_list_out s.views id me.0 w at in let e' : weight (has_list_out w) ≡ weight (has_list_out me.0) = ap weight e in omega arith

    -- the word 0 becomes n; what is known of the list stays
    moved : (n : ℕ) (w : View) → KeepsList w → LosesNone n r.list.waiting (after w) → R (stepped s 0 n id me.1 w keeps)
    moved n w left wakes =
        let same = same_out w left.0 in let one = r.list_word.0 in let is = r.list_word.1 in
        let here : get_or (set s.words 0 n) 0 0 ≡ n = get_or-set_same s.words 0 n 0 one_word in
        let there : get_or (set s.words 0 n) 1 0 ≡ y = get_or-set_other s.words 0 1 n 0 (λ q. omega arith) in record {
          two_words = subst (λ (z : ℕ). 1 < z) (sym (length-set s.words 0 n)) r.two_words;
          list_word = (omega arith, ap (λ k. k % 2) there ∙ is ∙ sym same);
          list = r.list;
          matched = matched_as w left.2 left.3;
          wakes = subst (λ k. LosesNone k r.list.waiting (after w)) (sym here) wakes;
          unlisted = λ low. r.unlisted (subst SaysEmpty there low);
          home = λ absent. r.home (sym same ∙ absent);
          out = out_left w left;
        }

    -- who owes and who waits stay
    abbrev IsAs : View → Type 0
    IsAs w = (Owes me.0 → Owes w) × ((n : ℕ) → WaitsFor x n me.0 → WaitsFor x n w)

    wakes_as : (w : View) → IsAs w → LosesNone x r.list.waiting (after w)
    wakes_as w is = ⊎_elim (λ c. inl (stays s.views id me.0 at Owes w is.0 c)) (λ all. inr (all_stay s.views id me.0 at (WaitsFor x) r.list.waiting w is.1 all)) r.wakes

    -- a look
    pub sees : R (stepped s 0 x id me.1 (saw_of x me.0) keeps)
    sees = let w : View = saw_of x me.0 in moved x w (refl, refl, refl, refl) (wakes_as w ((λ o. o), λ n f. (f.0, f.1, inr refl)))

    -- a look by which its arrival is counted
    pub counts : R (stepped s 0 x id me.1 (counted_of x me.0) keeps)
    counts = let w : View = counted_of x me.0 in moved x w (refl, refl, refl, refl) (wakes_as w ((λ o. o), λ n f. (f.0, f.1, inr refl)))

    -- one generation more is finished
    pub finishes : (n : ℕ) → R (stepped s 0 n id me.1 (finished_by me.0) keeps)
    finishes n = let w : View = finished_by me.0 in moved n w (refl, refl, refl, refl) (inl (mine Owes w refl))

    -- the list's word becomes n, and who has the list out stays
    beside : (n : ℕ) → get_or (set s.words 1 n) 0 0 ≡ x
    beside n = get_or-set_other s.words 1 0 n 0 (λ q. omega arith)

    at_list : (n : ℕ) (w : View) → n % 2 ≡ y % 2 → (SaysEmpty n → SaysEmpty y) → KeepsList w → LosesNone x r.list.waiting (after w) → R (stepped s 1 n id me.1 w keeps)
    at_list n w parity below left wakes =
        let same = same_out w left.0 in let one = r.list_word.0 in let is = r.list_word.1 in
        let here : get_or (set s.words 1 n) 1 0 ≡ n = get_or-set_same s.words 1 n 0 r.two_words in let there = beside n in record {
          two_words = subst (λ (z : ℕ). 1 < z) (sym (length-set s.words 1 n)) r.two_words;
          list_word = (omega arith, ap (λ k. k % 2) here ∙ parity ∙ is ∙ sym same);
          list = r.list;
          matched = matched_as w left.2 left.3;
          wakes = subst (λ k. LosesNone k r.list.waiting (after w)) (sym there) wakes;
          unlisted = λ low. r.unlisted (below (subst SaysEmpty here low));
          home = λ absent. r.home (sym same ∙ absent);
          out = out_left w left;
        }

    -- the list's word is read, or set by another that finds it out
    pub busy : (n : ℕ) → n % 2 ≡ y % 2 → (SaysEmpty n → SaysEmpty y) → R (stepped s 1 n id me.1 me.0 keeps)
    busy n parity below = at_list n me.0 parity below (refl, refl, refl, refl) (wakes_as me.0 ((λ o. o), λ k f. f))

    -- the list is empty
    pub eases : SaysEmpty y → R (stepped s 1 y id me.1 (eased_of me.0) keeps)
    eases low = let z = r.unlisted low in at_list y (eased_of me.0) refl (λ l. l) (refl, refl, refl, refl) (inr (λ n h. absurd (subst (Has n) z h)))

    abbrev pub listing : S → View
    listing list = listing_of (listed_of list) me.0

    -- the seat takes the list out
    pub grabbed : y % 2 ≡ 0 → (n : ℕ) → n % 2 ≡ 1 → (SaysEmpty n → SaysEmpty y) → (list : S) × (get_elem? s.homes 0 ≡ some (some list)) × R (stepped s 1 n id me.1 (listing list) (takes 0 list))
    grabbed even n odd below = let h = r.home (sym r.list_word.1 ∙ even) in let w : View = listing h.0 in
        let c = number-set has_list_out s.views id me.0 w at in let c' : weight (has_list_out w) ≡ 1 = refl in
        let m = number-at has_list_out s.views id me.0 at in let is = r.list_word.1 in
        let one : number has_list_out (after w) ≡ 1 = omega arith in
        let here : get_or (set s.words 1 n) 1 0 ≡ n = get_or-set_same s.words 1 n 0 r.two_words in let there = beside n in (
          h.0,
          h.1,
          record {
            two_words = subst (λ (z : ℕ). 1 < z) (sym (length-set s.words 1 n)) r.two_words;
            list_word = (omega arith, ap (λ k. k % 2) here ∙ odd ∙ sym one);
            list = r.list;
            matched = matched_as w refl refl;
            wakes = subst (λ k. LosesNone k r.list.waiting (after w)) (sym there) (wakes_as w ((λ o. o), λ k f. f));
            unlisted = λ low. r.unlisted (below (subst SaysEmpty here low));
            home = λ absent. absurd (omega arith);
            out = out_set w (λ _. h.2);
          },
        )

    -- the seat gives the list back, and has this view then
    module _ (list : S) (n : ℕ) (is_out : me.0.has_list ≡ true) (has : me.1 ≡ (0, list) ∷ rest me.1) (wide : 0 < length s.homes) (four : n % 4 ≡ 0) (low : SaysEmpty n → (listed_of list).waiting ≡ []) where
      abbrev new : Listed
      new = listed_of list

      returned : (w : View) → w.has_list ≡ false → Matched IsEntryOf new.entries (after w) → LosesNone x new.waiting (after w) → R (stepped s 1 n id me.1 w gives)
      returned w off matched wakes =
          let c = number-set has_list_out s.views id me.0 w at in let c' : weight (has_list_out w) ≡ 0 = ap weight off in let l : weight (has_list_out me.0) ≡ 1 = ap weight is_out in
          let one = r.list_word.0 in
          let none_out : number has_list_out (after w) ≡ 0 = omega arith in
          let here : get_or (set s.words 1 n) 1 0 ≡ n = get_or-set_same s.words 1 n 0 r.two_words in let there = beside n in record {
            two_words = subst (λ (z : ℕ). 1 < z) (sym (length-set s.words 1 n)) r.two_words;
            list_word = (omega arith, ap (λ k. k % 2) here ∙ (omega arith));
            list = new;
            matched = matched;
            wakes = subst (λ k. LosesNone k new.waiting (after w)) (sym there) wakes;
            unlisted = λ below. low (subst SaysEmpty here below);
            home = λ _. (list, subst (λ (t : List (ℕ × S)). get_elem? (put_back s.homes t) 0 ≡ some (some list)) (sym has) (set_here s.homes 0 (some list) wide), refl);
            out = λ i v e is. let m = number-at has_list_out (after w) i v e in let q : weight (has_list_out v) ≡ 1 = ap weight is in absurd (omega arith);
          }

      known : me.0.list ≡ r.list
      known = r.out id me.0 at is_out

      known-entries : me.0.list.entries ≡ r.list.entries
      known-entries = ap (λ (l : Listed). l.entries) known

      -- who waits now waited before, and not by the seat's own entry unless that stands, or is the seat's own
      abbrev Stands : View → Type 0
      Stands w = (k : ℕ) → Has k new.waiting → (Has k me.0.list.waiting × (WaitsFor x k me.0 → WaitsFor x k w)) ⊎ WaitsFor x k w

      stand : (w : View) → (Owes me.0 → Owes w) → Stands w → LosesNone x new.waiting (after w)
      stand w owed all = ⊎_elim (λ c. inl (stays s.views id me.0 at Owes w owed c))
          (λ old. inr (λ k h. ⊎_elim (λ t. stays s.views id me.0 at (WaitsFor x k) w t.1 (old k (subst (λ (l : Listed). Has k l.waiting) known t.0))) (λ p. mine (WaitsFor x k) w p) (all k h))) r.wakes

      -- no others, without its own, and with its own
      same_stand : (w : View) → w.listed ≡ me.0.listed → w.entry ≡ me.0.entry → new.entries ≡ me.0.list.entries → Matched IsEntryOf new.entries (after w)
      same_stand w l e same = subst (λ es. Matched IsEntryOf es (after w)) (sym (same ∙ known-entries)) (matched_as w l e)

      left_stand : (w : View) → w.listed ≡ false → me.0.listed ≡ true → new.entries ≡ all_but me.0.entry me.0.list.entries → Matched IsEntryOf new.entries (after w)
      left_stand w off was gone = subst (λ es. Matched IsEntryOf es (after w)) (sym (gone ∙ ap (all_but me.0.entry) known-entries))
          (left IsEntryOf r.list.entries s.views id me.0 at r.matched me.0.entry w (was, refl) (λ n is. sym is.1) (λ n is. never (sym off ∙ is.0)))

      joined_stand : (k : ℕ) (w : View) → w.listed ≡ true → w.entry ≡ k → me.0.listed ≡ false → new.entries ≡ me.0.list.entries ++ k ∷ [] → IsNew k me.0.list.entries → Matched IsEntryOf new.entries (after w)
      joined_stand k w l e away longer fresh = subst (λ es. Matched IsEntryOf es (after w)) (sym (longer ∙ ap (λ (es : List ℕ). es ++ k ∷ []) known-entries))
          (joined IsEntryOf r.list.entries s.views id me.0 at r.matched k w (λ n is. never (sym away ∙ is.0)) (l, e) (λ n is. sym is.1 ∙ e) (λ h. fresh (subst (Has k) (sym known-entries) h)))

      -- its entry has joined
      pub joins : (k : ℕ) → Joins k me.0.list new → me.0.listed ≡ false → R (stepped s 1 n id me.1 (joined_of k me.0) gives)
      joins k j away = let w : View = joined_of k me.0 in
          returned w refl (joined_stand k w refl refl away j.entries j.fresh) (stand w (λ o. o) (λ i h. ⊎_elim (λ old. inl (old, λ f. never (sym away ∙ f.0))) (λ e. inr (refl, sym e, inl refl)) (j.joined i h)))

      -- its entry has left
      pub leaves : Leaves me.0.entry me.0.list new → me.0.listed ≡ true → R (stepped s 1 n id me.1 (gone_of me.0) gives)
      leaves g was = let w : View = gone_of me.0 in
          returned w refl (left_stand w refl was g.entries) (stand w (λ o. o) (λ i h. let l = g.left i h in inl (l.0, λ f. absurd (l.1 (sym f.1)))))

      -- all are notified
      pub pays : PaysAll me.0.list new → R (stepped s 1 n id me.1 (paid_of me.0) gives)
      pays p = let w : View = paid_of me.0 in returned w refl (same_stand w refl refl p.entries) (inr (λ k h. absurd (p.none_waits k h)))

      -- nothing has changed
      pub remains : Stays me.0.list new → R (stepped s 1 n id me.1 (back me.0) gives)
      remains st = let w : View = back me.0 in returned w refl (same_stand w refl refl st.entries) (stand w (λ o. o) (λ i h. inl (st.fewer i h, λ f. f)))
