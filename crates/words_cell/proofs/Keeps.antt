-- Each step on the table keeps its rule: of one state.
use Rattle.std.proofs.Common.{◌≡◌, ◌≢◌, ℕ, zero, suc, ◌+◌, ◌*◌, ◌-◌, ◌%◌, ◌^◌, ◌<◌, ◌≤◌, Bool, true, false, List, [], ◌∷◌, length, get_or, set, sym, refl, ap, ◌∙◌, subst, arith, ◌⊎◌, ⊎_elim, inl, inr, length-set, get_or-set_same, get_or-set_other}
use mathlib.Core.Option.{some, some-injective, some-ne-none}
use lib.ListN.{get_elem?}
use Rattle.atomic_table.specs.Table.{State, Me, keeps, takes, gives, stepped, put_back, rest, opening}
use Rattle.atomic_table.proofs.Lists.{set_here, at_set}
use Rattle.words_base.specs.Sums.{weight, number, total}
use Rattle.words_base.proofs.Sums.{number-set, number-at, total-set}
use Rattle.words_base.specs.Lists.{Listed, nobody, Stays, Pays, PaysAll, Joins, Leaves, HandsOn}
use Rattle.words_base.specs.Waiting.{Has, NoneWaits, Fewer, LeftBy, StaysTold, SomeSeat, AreOf, Matched, all_but}
use Rattle.words_cell.specs.Rule.{first_view, makes_of, has_lists_out, filled_of, taken_of, Owes, OwesActive, OwesPassive, IsActiveEntryOf, IsPassiveEntryOf, IsFreshActive, IsFreshPassive, LosesNoneEmpty, LosesNoneFull, IsCell, SaysEmpty, Ruled}
use Rattle.words_cell.specs.Seats.{saw_of, saw_full_of, claimed_of, missed_of, late_of, filled_by, emptied_by, taken_by, having_found, eased_of, listing_of, back, joined_active_of, joined_passive_of, told_of, gone_of, paid_of, paid_active_of, paid_passive_of}
use Rattle.words_cell.specs.Steps.{LeftIf}
use Rattle.words_cell.specs.declared.view.View.{View}
use Rattle.words_cell.proofs.Flags.{never}
use Rattle.words_base.proofs.Matched as matched
use Rattle.words_base.proofs.Views.{own, apart, stays, all_stay as fresh_stays}

-- none that waits is new, and none is the seat's where it stands
left_if : (b : Bool) (k : ℕ) (Left : Listed → Listed → Type 0) (old new : Listed) → (Left old new → LeftBy k old.waiting new.waiting) → LeftIf b Left old new → (n : ℕ) → Has n new.waiting → Has n old.waiting × (b ≡ true → n ≢ k)
left_if true k Left old new left f n h = let l = left f n h in (l.0, λ _. l.1)
left_if false k Left old new left f n h = (f.fewer n h, λ b. never b)

told_if : (b : Bool) (k : ℕ) (old new : Listed) → LeftIf b (HandsOn k) old new → StaysTold old.notified new.waiting new.notified
told_if true k old new f = f.told
told_if false k old new f = f.told

module _ (S : Type 0) (active_of passive_of : S → Listed) where
  module _ (lists : S) (a : active_of lists ≡ nobody) (p : passive_of lists ≡ nobody) where
    none_out : (i : ℕ) (v : View) → get_elem? (first_view ∷ []) i ≡ some v → v.has_lists ≡ true → (v.active ≡ nobody) × (v.passive ≡ nobody)
    none_out zero v e is = never (ap (λ (u : View). u.has_lists) (some-injective first_view v e) ∙ is)
    none_out (suc i) v e is = absurd (some-ne-none v (sym e))

    -- an empty cell, and a full one
    pub opens_empty : Ruled active_of passive_of false (opening (0 ∷ 0 ∷ []) (lists ∷ []) first_view)
    opens_empty = record {
      two_words = omega arith;
      cell = record { full = 0; one_maker = omega arith; word = refl; values = refl };
      list_word = (omega arith, refl);
      active = nobody;
      passive = nobody;
      active_match = matched.nobody_stands IsActiveEntryOf first_view [] refl (λ n is. never is.0);
      passive_match = matched.nobody_stands IsPassiveEntryOf first_view [] refl (λ n is. never is.0);
      empty = λ _. inr (inr (λ n h. absurd h));
      filled = λ e. absurd (omega (arith, e));
      unlisted = λ _. (refl, refl);
      home = λ _. (lists, refl, a, p);
      out = none_out;
    }

    pub opens_full : Ruled active_of passive_of true (opening (2 ∷ 0 ∷ []) (lists ∷ []) first_view)
    opens_full = record {
      two_words = omega arith;
      cell = record { full = 1; one_maker = omega arith; word = refl; values = refl };
      list_word = (omega arith, refl);
      active = nobody;
      passive = nobody;
      active_match = matched.nobody_stands IsActiveEntryOf first_view [] refl (λ n is. never is.0);
      passive_match = matched.nobody_stands IsPassiveEntryOf first_view [] refl (λ n is. never is.0);
      empty = λ e. absurd (omega (arith, e));
      filled = λ _. (inr (λ n h. absurd h), inr (λ n h. absurd h));
      unlisted = λ _. (refl, refl);
      home = λ _. (lists, refl, a, p);
      out = none_out;
    }

  module _ (start : Bool) where
    abbrev R : State S View → Type 0
    R = Ruled active_of passive_of start

    module _ (s : State S View) (id : ℕ) (me : Me S View) (r : R s) (at : get_elem? s.views id ≡ some me.0) where
      abbrev x : ℕ
      x = get_or s.words 0 0

      abbrev y : ℕ
      y = get_or s.words 1 0

      abbrev after : View → List View
      after w = set s.views id w

      one_word : 0 < length s.words
      one_word = let t = r.two_words in omega arith

      mine : (P : View → Type 0) (w : View) → P w → SomeSeat P (after w)
      mine = own s.views id me.0 at

      some_stays : (P : View → Type 0) (w : View) → (P me.0 → P w) → SomeSeat P s.views → SomeSeat P (after w)
      some_stays = stays s.views id me.0 at

      all_stay : (P : ℕ → View → Type 0) (waiting : List ℕ) (w : View) → ((n : ℕ) → P n me.0 → P n w) → AreOf P waiting s.views → AreOf P waiting (after w)
      all_stay = fresh_stays s.views id me.0 at

      out_set : (w : View) → (w.has_lists ≡ true → (w.active ≡ r.active) × (w.passive ≡ r.passive)) → (i : ℕ) (v : View) → get_elem? (after w) i ≡ some v → v.has_lists ≡ true → (v.active ≡ r.active) × (v.passive ≡ r.passive)
      out_set w good i v e is = ⊎_elim (λ here. subst (λ (u : View). (u.active ≡ r.active) × (u.passive ≡ r.passive)) here.1 (good (ap (λ (u : View). u.has_lists) here.1 ∙ is))) (λ else. r.out i v else.1 is) (at_set s.views id i w v e)

      -- what a step on the word 0 leaves of a seat, and what one on the word 1 does
      abbrev KeepsLists : View → Type 0
      KeepsLists w = (w.has_lists ≡ me.0.has_lists) × (w.active ≡ me.0.active) × (w.passive ≡ me.0.passive) × (w.in_active ≡ me.0.in_active) × (w.in_passive ≡ me.0.in_passive) × (w.entry ≡ me.0.entry)

      abbrev Does : View → Type 0
      Does w = (w.makes ≡ me.0.makes) × (w.filled ≡ me.0.filled) × (w.taken ≡ me.0.taken)

      out_left : (w : View) → KeepsLists w → (i : ℕ) (v : View) → get_elem? (after w) i ≡ some v → v.has_lists ≡ true → (v.active ≡ r.active) × (v.passive ≡ r.passive)
      out_left w left = out_set w (λ is. let o = r.out id me.0 at (sym left.0 ∙ is) in (left.1 ∙ o.0, left.2 ∙ o.1))

      -- the entry of this number, of the list in which the flag says that it stands, is the seat's
      abbrev IsEntry : (View → Bool) → ℕ → View → Type 0
      IsEntry flag n v = (flag v ≡ true) × (v.entry ≡ n)

      -- the entries of a list stay, and the seat stands in it as it did, or doesn't and didn't
      matched_as : (flag : View → Bool) (entries : List ℕ) (w : View) → flag w ≡ flag me.0 → w.entry ≡ me.0.entry → Matched (IsEntry flag) entries s.views → Matched (IsEntry flag) entries (after w)
      matched_as flag entries w same entry m = matched.kept (IsEntry flag) entries s.views id me.0 at m w (λ n q. (same ∙ q.0, entry ∙ q.1)) (λ n q. (sym same ∙ q.0, sym entry ∙ q.1))

      matched_away : (flag : View → Bool) (entries : List ℕ) (w : View) → flag me.0 ≡ false → flag w ≡ false → Matched (IsEntry flag) entries s.views → Matched (IsEntry flag) entries (after w)
      matched_away flag entries w away still m = matched.kept (IsEntry flag) entries s.views id me.0 at m w (λ n q. never (sym away ∙ q.0)) (λ n q. never (sym still ∙ q.0))

      same_out : (w : View) → w.has_lists ≡ me.0.has_lists → number has_lists_out (after w) ≡ number has_lists_out s.views
      same_out w e = let c = number-set has_lists_out s.views id me.0 w at in let e' : weight (has_lists_out w) ≡ weight (has_lists_out me.0) = ap weight e in omega arith

      -- the cell's word becomes n; what is known of the lists stays
      moved : (n : ℕ) (w : View) → IsCell start (set s.words 0 n) (after w) → KeepsLists w → (n ≡ 0 → LosesNoneEmpty r.active (after w)) → (n ≡ 2 → LosesNoneFull r.active r.passive (after w)) → R (stepped s 0 n id me.1 w keeps)
      moved n w cell left empty filled =
          let same = same_out w left.0 in let one = r.list_word.0 in let is = r.list_word.1 in
          let here : get_or (set s.words 0 n) 0 0 ≡ n = get_or-set_same s.words 0 n 0 one_word in
          let there : get_or (set s.words 0 n) 1 0 ≡ y = get_or-set_other s.words 0 1 n 0 (λ q. omega arith) in record {
            two_words = subst (λ (z : ℕ). 1 < z) (sym (length-set s.words 0 n)) r.two_words;
            cell = cell;
            list_word = (omega arith, ap (λ k. k % 2) there ∙ is ∙ sym same);
            active = r.active;
            passive = r.passive;
            active_match = matched_as (λ v. v.in_active) r.active.entries w left.3 left.5 r.active_match;
            passive_match = matched_as (λ v. v.in_passive) r.passive.entries w left.4 left.5 r.passive_match;
            empty = λ e. empty (sym here ∙ e);
            filled = λ e. filled (sym here ∙ e);
            unlisted = λ low. r.unlisted (subst SaysEmpty there low);
            home = λ absent. r.home (sym same ∙ absent);
            out = out_left w left;
          }

      cell_of : (w : View) (n f : ℕ) → number makes_of (after w) + f ≤ 1 → n ≡ number makes_of (after w) + 2 * f → f + total taken_of (after w) ≡ weight start + total filled_of (after w) → IsCell start (set s.words 0 n) (after w)
      cell_of w n f one is values = record { full = f; one_maker = one; word = get_or-set_same s.words 0 n 0 one_word ∙ is; values = values }

      cell_same : (words : List ℕ) (w : View) → get_or words 0 0 ≡ x → Does w → IsCell start words (after w)
      cell_same words w is does =
          let ms = number-set makes_of s.views id me.0 w at in let ts = total-set taken_of s.views id me.0 w at in let fs = total-set filled_of s.views id me.0 w at in
          let m' : weight (makes_of w) ≡ weight (makes_of me.0) = ap weight does.0 in let f' : filled_of w ≡ filled_of me.0 = does.1 in let t' : taken_of w ≡ taken_of me.0 = does.2 in
          let one = r.cell.one_maker in let word = r.cell.word in let values = r.cell.values in
          record { full = r.cell.full; one_maker = omega arith; word = is ∙ (omega arith); values = omega arith }

      -- the cell's word stays
      unmoved : (w : View) → KeepsLists w → Does w → (x ≡ 0 → LosesNoneEmpty r.active (after w)) → (x ≡ 2 → LosesNoneFull r.active r.passive (after w)) → R (stepped s 0 x id me.1 w keeps)
      unmoved w left does = moved x w (cell_same (set s.words 0 x) w (get_or-set_same s.words 0 x 0 one_word) does) left

      pub few : x ≤ 2
      few = let one = r.cell.one_maker in let is = r.cell.word in omega arith

      -- who owes and who is fresh stay
      abbrev IsAs : View → Type 0
      IsAs w = (Owes me.0 → Owes w) × (OwesActive me.0 → OwesActive w) × (OwesPassive me.0 → OwesPassive w) × ((n : ℕ) → IsFreshActive n me.0 → IsFreshActive n w) × ((n : ℕ) → IsFreshPassive n me.0 → IsFreshPassive n w)

      empty_as : (w : View) → IsAs w → x ≡ 0 → LosesNoneEmpty r.active (after w)
      empty_as w is e = ⊎_elim (λ m. inl m)
          (λ b. inr (⊎_elim (λ c. inl (some_stays (λ v. Owes v ⊎ OwesActive v) w (λ o. ⊎_elim (λ q. inl (is.0 q)) (λ q. inr (is.1 q)) o) c)) (λ all. inr (all_stay IsFreshActive r.active.waiting w is.3 all)) b)) (r.empty e)

      full_as : (w : View) → IsAs w → x ≡ 2 → LosesNoneFull r.active r.passive (after w)
      full_as w is e = let f = r.filled e in (
        ⊎_elim (λ c. inl (some_stays OwesActive w is.1 c)) (λ all. inr (all_stay IsFreshActive r.active.waiting w is.3 all)) f.0,
        ⊎_elim (λ c. inl (some_stays OwesPassive w is.2 c)) (λ all. inr (all_stay IsFreshPassive r.passive.waiting w is.4 all)) f.1,
      )

      -- a look that doesn't find the cell full, by a seat that is not of those that would make
      pub sees : x ≢ 2 → me.0.in_active ≡ false → R (stepped s 0 x id me.1 (saw_of x me.0) keeps)
      sees ne away = let w : View = saw_of x me.0 in unmoved w (refl, refl, refl, refl, refl, refl) (refl, refl, refl)
          (λ e. ⊎_elim (λ m. inl m)
          (λ b. inr (⊎_elim (λ c. inl (some_stays (λ v. Owes v ⊎ OwesActive v) w (λ o. o) c)) (λ all. inr (all_stay IsFreshActive r.active.waiting w (λ n f. never (sym away ∙ f.1.0)) all)) b)) (r.empty e))
          (λ e. absurd (ne e))

      pub sees_full : x ≡ 2 → R (stepped s 0 x id me.1 (saw_full_of me.0) keeps)
      sees_full is = let w : View = saw_full_of me.0 in unmoved w (refl, refl, refl, refl, refl, refl) (refl, refl, refl) (empty_as w ((λ o. o), (λ o. o), (λ o. o), (λ n f. f), λ n f. f)) (full_as w ((λ o. o), (λ o. o), (λ o. o), (λ n f. f), λ n f. f))

      -- the seat gets the right to make
      pub claims : x ≡ 0 → R (stepped s 0 1 id me.1 (claimed_of me.0) keeps)
      claims is =
          let w : View = claimed_of me.0 in
          let ms = number-set makes_of s.views id me.0 w at in let ts = total-set taken_of s.views id me.0 w at in let fs = total-set filled_of s.views id me.0 w at in
          let m = number-at makes_of s.views id me.0 at in let m' : weight (makes_of w) ≡ 1 = refl in
          let one = r.cell.one_maker in let word = r.cell.word in let values = r.cell.values in
          moved 1 w (cell_of w 1 0 (omega arith) (omega arith) (omega arith)) (refl, refl, refl, refl, refl, refl) (λ e. absurd (omega (arith, e))) (λ e. absurd (omega (arith, e)))

      -- another makes
      pub misses : x ≡ 1 → R (stepped s 0 x id me.1 (missed_of me.0) keeps)
      misses is = unmoved (missed_of me.0) (refl, refl, refl, refl, refl, refl) (refl, refl, refl) (λ e. absurd (omega (arith, e, is))) (λ e. absurd (omega (arith, e, is)))

      -- the cell is full
      pub comes_late : x ≡ 2 → R (stepped s 0 x id me.1 (late_of me.0) keeps)
      comes_late is = let w : View = late_of me.0 in unmoved w (refl, refl, refl, refl, refl, refl) (refl, refl, refl) (λ e. absurd (omega (arith, e, is)))
          (λ e. let f = r.filled e in (
            ⊎_elim (λ c. inl (some_stays OwesActive w (λ o. o) c)) (λ all. inr (all_stay IsFreshActive r.active.waiting w (λ n q. q) all)) f.0,
            ⊎_elim (λ c. inl (some_stays OwesPassive w (λ o. o) c)) (λ all. inr (all_stay IsFreshPassive r.passive.waiting w (λ n q. q) all)) f.1,
          ))

      pub fills : me.0.makes ≡ true → R (stepped s 0 ((x + 1) % 2 ^ 64) id me.1 (filled_by me.0) keeps)
      fills makes =
          let w : View = filled_by me.0 in
          let ms = number-set makes_of s.views id me.0 w at in let ts = total-set taken_of s.views id me.0 w at in let fs = total-set filled_of s.views id me.0 w at in
          let m = number-at makes_of s.views id me.0 at in let did : weight (makes_of me.0) ≡ 1 = ap weight makes in let m' : weight (makes_of w) ≡ 0 = refl in
          let one = r.cell.one_maker in let word = r.cell.word in let values = r.cell.values in
          let up : (x + 1) % 18446744073709551616 ≡ 2 = omega arith in
          moved ((x + 1) % 2 ^ 64) w (cell_of w ((x + 1) % 2 ^ 64) 1 (omega arith) (up ∙ (omega arith)) (omega arith)) (refl, refl, refl, refl, refl, refl) (λ e. absurd (omega (arith, e, up)))
          (λ _. (inl (mine OwesActive w refl), inl (mine OwesPassive w refl)))

      pub empties : me.0.makes ≡ true → R (stepped s 0 ((x + (2 ^ 64 - 1)) % 2 ^ 64) id me.1 (emptied_by me.0) keeps)
      empties makes =
          let w : View = emptied_by me.0 in
          let ms = number-set makes_of s.views id me.0 w at in let ts = total-set taken_of s.views id me.0 w at in let fs = total-set filled_of s.views id me.0 w at in
          let m = number-at makes_of s.views id me.0 at in let did : weight (makes_of me.0) ≡ 1 = ap weight makes in let m' : weight (makes_of w) ≡ 0 = refl in
          let one = r.cell.one_maker in let word = r.cell.word in let values = r.cell.values in
          let down : (x + 18446744073709551615) % 18446744073709551616 ≡ 0 = omega arith in
          moved ((x + (2 ^ 64 - 1)) % 2 ^ 64) w (cell_of w ((x + (2 ^ 64 - 1)) % 2 ^ 64) 0 (omega arith) (down ∙ (omega arith)) (omega arith)) (refl, refl, refl, refl, refl, refl)
          (λ _. inr (inl (mine (λ v. Owes v ⊎ OwesActive v) w (inl refl)))) (λ e. absurd (omega (arith, e, down)))

      pub takes_value : x ≡ 2 → R (stepped s 0 0 id me.1 (taken_by me.0) keeps)
      takes_value is =
          let w : View = taken_by me.0 in
          let ms = number-set makes_of s.views id me.0 w at in let ts = total-set taken_of s.views id me.0 w at in let fs = total-set filled_of s.views id me.0 w at in
          let m' : weight (makes_of w) ≡ weight (makes_of me.0) = refl in let f' : filled_of w ≡ filled_of me.0 = refl in let t' : taken_of w ≡ taken_of me.0 + 1 = refl in
          let one = r.cell.one_maker in let word = r.cell.word in let values = r.cell.values in
          moved 0 w (cell_of w 0 0 (omega arith) (omega arith) (omega arith)) (refl, refl, refl, refl, refl, refl)
          (λ _. inr (⊎_elim (λ c. inl (some_stays (λ v. Owes v ⊎ OwesActive v) w (λ o. o) (c.0, c.1, c.2, inr c.3))) (λ all. inr (all_stay IsFreshActive r.active.waiting w (λ n f. f) all)) (r.filled is).0))
          (λ e. absurd (omega (arith, e)))

      pub finds : (n : ℕ) → R (stepped s 0 x id me.1 (having_found n me.0) keeps)
      finds n = let w : View = having_found n me.0 in unmoved w (refl, refl, refl, refl, refl, refl) (refl, refl, refl) (empty_as w ((λ o. o), (λ o. o), (λ o. o), (λ n f. f), λ n f. f)) (full_as w ((λ o. o), (λ o. o), (λ o. o), (λ n f. f), λ n f. f))

      -- the word of the lists becomes n, and who has them out stays
      beside : (n : ℕ) → get_or (set s.words 1 n) 0 0 ≡ x
      beside n = get_or-set_other s.words 1 0 n 0 (λ q. omega arith)

      at_list : (n : ℕ) (w : View) → n % 2 ≡ y % 2 → (SaysEmpty n → SaysEmpty y) → KeepsLists w → Does w → (x ≡ 0 → LosesNoneEmpty r.active (after w)) → (x ≡ 2 → LosesNoneFull r.active r.passive (after w)) → R (stepped s 1 n id me.1 w keeps)
      at_list n w parity below left does empty filled =
          let same = same_out w left.0 in let one = r.list_word.0 in let is = r.list_word.1 in
          let here : get_or (set s.words 1 n) 1 0 ≡ n = get_or-set_same s.words 1 n 0 r.two_words in let there = beside n in record {
            two_words = subst (λ (z : ℕ). 1 < z) (sym (length-set s.words 1 n)) r.two_words;
            cell = cell_same (set s.words 1 n) w there does;
            list_word = (omega arith, ap (λ k. k % 2) here ∙ parity ∙ is ∙ sym same);
            active = r.active;
            passive = r.passive;
            active_match = matched_as (λ v. v.in_active) r.active.entries w left.3 left.5 r.active_match;
            passive_match = matched_as (λ v. v.in_passive) r.passive.entries w left.4 left.5 r.passive_match;
            empty = λ e. empty (sym there ∙ e);
            filled = λ e. filled (sym there ∙ e);
            unlisted = λ low. r.unlisted (below (subst SaysEmpty here low));
            home = λ absent. r.home (sym same ∙ absent);
            out = out_left w left;
          }

      -- the lists' word is read, or set by another that finds them out
      pub busy : (n : ℕ) → n % 2 ≡ y % 2 → (SaysEmpty n → SaysEmpty y) → R (stepped s 1 n id me.1 me.0 keeps)
      busy n parity below = let w : View = me.0 in at_list n w parity below (refl, refl, refl, refl, refl, refl) (refl, refl, refl) (empty_as w ((λ o. o), (λ o. o), (λ o. o), (λ n f. f), λ n f. f)) (full_as w ((λ o. o), (λ o. o), (λ o. o), (λ n f. f), λ n f. f))

      -- the lists are empty
      pub eases : SaysEmpty y → R (stepped s 1 y id me.1 (eased_of me.0) keeps)
      eases low = let z = r.unlisted low in at_list y (eased_of me.0) refl (λ l. l) (refl, refl, refl, refl, refl, refl) (refl, refl, refl) (λ _. inr (inr (λ n h. absurd (subst (Has n) z.0 h))))
          (λ _. (inr (λ n h. absurd (subst (Has n) z.0 h)), inr (λ n h. absurd (subst (Has n) z.1 h))))

      abbrev pub listing : S → View
      listing lists = listing_of (active_of lists) (passive_of lists) me.0

      -- the seat takes the lists out
      pub grabbed : y % 2 ≡ 0 → (n : ℕ) → n % 2 ≡ 1 → (SaysEmpty n → SaysEmpty y) → (lists : S) × (get_elem? s.homes 0 ≡ some (some lists)) × R (stepped s 1 n id me.1 (listing lists) (takes 0 lists))
      grabbed even n odd below = let h = r.home (sym r.list_word.1 ∙ even) in let w : View = listing h.0 in
          let c = number-set has_lists_out s.views id me.0 w at in let c' : weight (has_lists_out w) ≡ 1 = refl in
          let m = number-at has_lists_out s.views id me.0 at in let is = r.list_word.1 in
          let one : number has_lists_out (after w) ≡ 1 = omega arith in
          let here : get_or (set s.words 1 n) 1 0 ≡ n = get_or-set_same s.words 1 n 0 r.two_words in let there = beside n in (
            h.0,
            h.1,
            record {
              two_words = subst (λ (z : ℕ). 1 < z) (sym (length-set s.words 1 n)) r.two_words;
              cell = cell_same (set s.words 1 n) w there (refl, refl, refl);
              list_word = (omega arith, ap (λ k. k % 2) here ∙ odd ∙ sym one);
              active = r.active;
              passive = r.passive;
              active_match = matched_as (λ v. v.in_active) r.active.entries w refl refl r.active_match;
              passive_match = matched_as (λ v. v.in_passive) r.passive.entries w refl refl r.passive_match;
              empty = λ e. empty_as w ((λ o. o), (λ o. o), (λ o. o), (λ n f. f), λ n f. f) (sym there ∙ e);
              filled = λ e. full_as w ((λ o. o), (λ o. o), (λ o. o), (λ n f. f), λ n f. f) (sym there ∙ e);
              unlisted = λ low. r.unlisted (below (subst SaysEmpty here low));
              home = λ absent. absurd (omega arith);
              out = out_set w (λ _. (h.2, h.3));
            },
          )

      -- the seat gives the lists back, and has this view then
      module _ (lists : S) (n : ℕ) (is_out : me.0.has_lists ≡ true) (has : me.1 ≡ (0, lists) ∷ rest me.1) (wide : 0 < length s.homes) (four : n % 4 ≡ 0) (low : SaysEmpty n → ((active_of lists).waiting ≡ []) × ((passive_of lists).waiting ≡ [])) where
        abbrev new_active : Listed
        new_active = active_of lists

        abbrev new_passive : Listed
        new_passive = passive_of lists

        known : (me.0.active ≡ r.active) × (me.0.passive ≡ r.passive)
        known = r.out id me.0 at is_out

        -- who is listed now was before, or is the seat's own
        abbrev Stands : (ℕ → View → Type 0) → View → List ℕ → List ℕ → Type 0
        Stands P w old new = (k : ℕ) → Has k new → (Has k old × (P k me.0 → P k w)) ⊎ P k w

        stand : (P : ℕ → View → Type 0) (w : View) (old new : List ℕ) → Stands P w old new → AreOf P old s.views → AreOf P new (after w)
        stand P w old new all were k h = ⊎_elim (λ t. some_stays (P k) w t.1 (were k t.0)) (λ p. mine (P k) w p) (all k h)

        fewer : (P : ℕ → View → Type 0) (w : View) (old new : List ℕ) → Fewer old new → ((k : ℕ) → P k me.0 → P k w) → Stands P w old new
        fewer P w old new all good k h = inl (all k h, good k)

        active_known : Matched IsActiveEntryOf me.0.active.entries s.views
        active_known = subst (λ (l : Listed). Matched IsActiveEntryOf l.entries s.views) (sym known.0) r.active_match

        passive_known : Matched IsPassiveEntryOf me.0.passive.entries s.views
        passive_known = subst (λ (l : Listed). Matched IsPassiveEntryOf l.entries s.views) (sym known.1) r.passive_match

        abbrev Match : View → Type 0
        Match w = Matched IsActiveEntryOf new_active.entries (after w) × Matched IsPassiveEntryOf new_passive.entries (after w)

        -- of one list: the seat stands in it as it did, or nowhere; or it has joined it, or left it
        module _ (flag : View → Bool) (old new : Listed) (m : Matched (IsEntry flag) old.entries s.views) (w : View) where
          same_match : new.entries ≡ old.entries → flag w ≡ flag me.0 → w.entry ≡ me.0.entry → Matched (IsEntry flag) new.entries (after w)
          same_match same stands entry = matched_as flag new.entries w stands entry (subst (λ l. Matched (IsEntry flag) l s.views) (sym same) m)

          away_match : new.entries ≡ old.entries → flag me.0 ≡ false → flag w ≡ false → Matched (IsEntry flag) new.entries (after w)
          away_match same away still = matched_away flag new.entries w away still (subst (λ l. Matched (IsEntry flag) l s.views) (sym same) m)

          joined_match : (k : ℕ) → Joins k old new → flag me.0 ≡ false → flag w ≡ true → w.entry ≡ k → Matched (IsEntry flag) new.entries (after w)
          joined_match k j away stands entry = subst (λ l. Matched (IsEntry flag) l (after w)) (sym j.entries)
              (matched.joined (IsEntry flag) old.entries s.views id me.0 at m k w (λ n q. never (sym away ∙ q.0)) (stands, entry) (λ n q. sym q.1 ∙ entry) j.fresh)

          left_match : new.entries ≡ all_but me.0.entry old.entries → flag me.0 ≡ true → flag w ≡ false → Matched (IsEntry flag) new.entries (after w)
          left_match same stood gone = subst (λ l. Matched (IsEntry flag) l (after w)) (sym same)
              (matched.left (IsEntry flag) old.entries s.views id me.0 at m me.0.entry w (stood, refl) (λ n q. sym q.1) (λ n q. never (sym gone ∙ q.0)))

          left_if_match : (b : Bool) (Left : Listed → Listed → Type 0) → flag me.0 ≡ b → flag w ≡ false → (Left old new → new.entries ≡ all_but me.0.entry old.entries) → LeftIf b Left old new → Matched (IsEntry flag) new.entries (after w)
          left_if_match true Left stood gone left f = left_match (left f) stood gone
          left_if_match false Left away gone left f = away_match f.entries away gone

        -- the same entries, and the seat stands where it stood
        keeps_match : (w : View) → w.in_active ≡ me.0.in_active → w.in_passive ≡ me.0.in_passive → w.entry ≡ me.0.entry → new_active.entries ≡ me.0.active.entries → new_passive.entries ≡ me.0.passive.entries → Match w
        keeps_match w in_active in_passive entry active passive = (
          same_match (λ v. v.in_active) me.0.active new_active active_known w active in_active entry,
          same_match (λ v. v.in_passive) me.0.passive new_passive passive_known w passive in_passive entry,
        )

        returned : (w : View) → w.has_lists ≡ false → Does w → Match w → (x ≡ 0 → LosesNoneEmpty new_active (after w)) → (x ≡ 2 → LosesNoneFull new_active new_passive (after w)) → R (stepped s 1 n id me.1 w gives)
        returned w off does match empty filled =
            let c = number-set has_lists_out s.views id me.0 w at in let c' : weight (has_lists_out w) ≡ 0 = ap weight off in let l : weight (has_lists_out me.0) ≡ 1 = ap weight is_out in
            let one = r.list_word.0 in
            let none_out : number has_lists_out (after w) ≡ 0 = omega arith in
            let here : get_or (set s.words 1 n) 1 0 ≡ n = get_or-set_same s.words 1 n 0 r.two_words in let there = beside n in record {
              two_words = subst (λ (z : ℕ). 1 < z) (sym (length-set s.words 1 n)) r.two_words;
              cell = cell_same (set s.words 1 n) w there does;
              list_word = (omega arith, ap (λ k. k % 2) here ∙ (omega arith));
              active = new_active;
              passive = new_passive;
              active_match = match.0;
              passive_match = match.1;
              empty = λ e. empty (sym there ∙ e);
              filled = λ e. filled (sym there ∙ e);
              unlisted = λ below. low (subst SaysEmpty here below);
              home = λ _. (lists, subst (λ (t : List (ℕ × S)). get_elem? (put_back s.homes t) 0 ≡ some (some lists)) (sym has) (set_here s.homes 0 (some lists) wide), refl, refl);
              out = λ i v e is. let m = number-at has_lists_out (after w) i v e in let q : weight (has_lists_out v) ≡ 1 = ap weight is in absurd (omega arith);
            }

        -- one is notified, or the seat owes, or nobody waits
        abbrev Ends : View → Type 0
        Ends w = (0 < new_active.notified) ⊎ ((Owes w ⊎ OwesActive w) ⊎ NoneWaits new_active.waiting)

        ends : (w : View) → Ends w → LosesNoneEmpty new_active (after w)
        ends w e = ⊎_elim (λ m. inl m) (λ b. inr (⊎_elim (λ o. inl (mine (λ v. Owes v ⊎ OwesActive v) w o)) (λ none. inr (λ k h. absurd (none k h))) b)) e

        emptying : (w : View) → (0 < me.0.active.notified → Ends w) → (Owes me.0 ⊎ OwesActive me.0 → Ends w) → Stands IsFreshActive w me.0.active.waiting new_active.waiting → x ≡ 0 → LosesNoneEmpty new_active (after w)
        emptying w told owed all e = let k = known in ⊎_elim (λ m. ends w (told (subst (λ (l : Listed). 0 < l.notified) (sym k.0) m)))
            (λ b. ⊎_elim (λ c. ⊎_elim (λ o. ends w (owed o)) (λ other. inr (inl (other w))) (apart s.views id me.0 at (λ v. Owes v ⊎ OwesActive v) c))
            (λ fresh. inr (inr (stand IsFreshActive w me.0.active.waiting new_active.waiting all (subst (λ (l : Listed). AreOf IsFreshActive l.waiting s.views) (sym k.0) fresh)))) b) (r.empty e)

        half : (O : View → Type 0) (P : ℕ → View → Type 0) (w : View) (old new : List ℕ) → (O me.0 → O w ⊎ NoneWaits new) → Stands P w old new → SomeSeat O s.views ⊎ AreOf P old s.views → SomeSeat O (after w) ⊎ AreOf P new (after w)
        half O P w old new duty all f = ⊎_elim (λ c. ⊎_elim (λ own_duty. ⊎_elim (λ q. inl (mine O w q)) (λ none. inr (λ k h. absurd (none k h))) (duty own_duty)) (λ other. inl (other w)) (apart s.views id me.0 at O c))
            (λ fresh. inr (stand P w old new all fresh)) f

        filling : (w : View) → (OwesActive me.0 → OwesActive w ⊎ NoneWaits new_active.waiting) → (OwesPassive me.0 → OwesPassive w ⊎ NoneWaits new_passive.waiting) → Stands IsFreshActive w me.0.active.waiting new_active.waiting → Stands IsFreshPassive w me.0.passive.waiting new_passive.waiting → x ≡ 2 → LosesNoneFull new_active new_passive (after w)
        filling w active passive all_active all_passive e = let k = known in let f = r.filled e in (
          half OwesActive IsFreshActive w me.0.active.waiting new_active.waiting active all_active (subst (λ (l : Listed). SomeSeat OwesActive s.views ⊎ AreOf IsFreshActive l.waiting s.views) (sym k.0) f.0),
          half OwesPassive IsFreshPassive w me.0.passive.waiting new_passive.waiting passive all_passive (subst (λ (l : Listed). SomeSeat OwesPassive s.views ⊎ AreOf IsFreshPassive l.waiting s.views) (sym k.1) f.1),
        )

        told_still : (w : View) → StaysTold me.0.active.notified new_active.waiting new_active.notified → 0 < me.0.active.notified → Ends w
        told_still w kept m = ⊎_elim (λ a. inl a) (λ none. inr (inr none)) (kept m)

        abbrev Active : View → Type 0
        Active w = Stands IsFreshActive w me.0.active.waiting new_active.waiting

        abbrev Passive : View → Type 0
        Passive w = Stands IsFreshPassive w me.0.passive.waiting new_passive.waiting

        active_fewer : (w : View) → Fewer me.0.active.waiting new_active.waiting → ((k : ℕ) → IsFreshActive k me.0 → IsFreshActive k w) → Active w
        active_fewer w = fewer IsFreshActive w me.0.active.waiting new_active.waiting

        passive_fewer : (w : View) → Fewer me.0.passive.waiting new_passive.waiting → ((k : ℕ) → IsFreshPassive k me.0 → IsFreshPassive k w) → Passive w
        passive_fewer w = fewer IsFreshPassive w me.0.passive.waiting new_passive.waiting

        -- its entry has joined
        pub joins_active : (k : ℕ) → Joins k me.0.active new_active → Stays me.0.passive new_passive → me.0.in_active ≡ false → me.0.in_passive ≡ false → R (stepped s 1 n id me.1 (joined_active_of k me.0) gives)
        joins_active k joins stay away off = let w : View = joined_active_of k me.0 in
            let act : Active w = λ j h. ⊎_elim (λ old. inl (old, λ f. never (sym away ∙ f.1.0))) (λ e. inr (refl, (refl, sym e))) (joins.joined j h) in
            let pas = passive_fewer w stay.fewer (λ j f. never (sym off ∙ f.1.0)) in
            let match : Match w = (joined_match (λ v. v.in_active) me.0.active new_active active_known w k joins away refl refl, away_match (λ v. v.in_passive) me.0.passive new_passive passive_known w stay.entries off off) in
            returned w refl (refl, refl, refl) match (emptying w (λ m. inl (let more = joins.notified in omega arith)) (λ o. inr (inl o)) act) (filling w (λ o. inl o) (λ o. inl o) act pas)

        pub joins_passive : (k : ℕ) → Stays me.0.active new_active → Joins k me.0.passive new_passive → me.0.in_active ≡ false → me.0.in_passive ≡ false → R (stepped s 1 n id me.1 (joined_passive_of k me.0) gives)
        joins_passive k stay joins away off = let w : View = joined_passive_of k me.0 in
            let act = active_fewer w stay.fewer (λ j f. never (sym away ∙ f.1.0)) in
            let pas : Passive w = λ j h. ⊎_elim (λ old. inl (old, λ f. never (sym off ∙ f.1.0))) (λ e. inr (refl, (refl, sym e))) (joins.joined j h) in
            let match : Match w = (away_match (λ v. v.in_active) me.0.active new_active active_known w stay.entries away away, joined_match (λ v. v.in_passive) me.0.passive new_passive passive_known w k joins off refl refl) in
            returned w refl (refl, refl, refl) match (emptying w (told_still w stay.told) (λ o. inr (inl o)) act) (filling w (λ o. inl o) (λ o. inl o) act pas)

        -- its entry was notified, and has left: it owes
        pub hears : Leaves me.0.entry me.0.active new_active → Stays me.0.passive new_passive → me.0.in_active ≡ true → R (stepped s 1 n id me.1 (told_of me.0) gives)
        hears leave stay was = let w : View = told_of me.0 in
            let act : Active w = λ j h. let l = leave.left j h in inl (l.0, λ f. absurd (l.1 (sym f.1.1))) in let pas = passive_fewer w stay.fewer (λ j f. f) in
            let match : Match w = (left_match (λ v. v.in_active) me.0.active new_active active_known w leave.entries was refl, same_match (λ v. v.in_passive) me.0.passive new_passive passive_known w stay.entries refl refl) in
            returned w refl (refl, refl, refl) match (emptying w (λ _. inr (inl (inl refl))) (λ _. inr (inl (inl refl))) act) (filling w (λ o. inl o) (λ o. inl o) act pas)

        -- its entry has left, and what it was told has gone on
        pub leaves : LeftIf me.0.in_active (HandsOn me.0.entry) me.0.active new_active → LeftIf me.0.in_passive (Leaves me.0.entry) me.0.passive new_passive → R (stepped s 1 n id me.1 (gone_of me.0) gives)
        leaves active passive = let w : View = gone_of me.0 in
            let a = left_if me.0.in_active me.0.entry (HandsOn me.0.entry) me.0.active new_active (λ l. l.leaves.left) active in let p = left_if me.0.in_passive me.0.entry (Leaves me.0.entry) me.0.passive new_passive (λ l. l.left) passive in
            let act : Active w = λ j h. let l = a j h in inl (l.0, λ f. absurd (l.1 f.1.0 (sym f.1.1))) in let pas : Passive w = λ j h. let l = p j h in inl (l.0, λ f. absurd (l.1 f.1.0 (sym f.1.1))) in
            let match : Match w = (
              left_if_match (λ v. v.in_active) me.0.active new_active active_known w me.0.in_active (HandsOn me.0.entry) refl refl (λ l. l.leaves.entries) active,
              left_if_match (λ v. v.in_passive) me.0.passive new_passive passive_known w me.0.in_passive (Leaves me.0.entry) refl refl (λ l. l.entries) passive,
            ) in
            returned w refl (refl, refl, refl) match (emptying w (told_still w (told_if me.0.in_active me.0.entry me.0.active new_active active)) (λ o. inr (inl o)) act) (filling w (λ o. inl o) (λ o. inl o) act pas)

        -- it has notified one that would make
        pub pays : Pays me.0.active new_active → Stays me.0.passive new_passive → R (stepped s 1 n id me.1 (paid_of me.0) gives)
        pays pay stay = let w : View = paid_of me.0 in
            let end : Ends w = ⊎_elim (λ a. inl a) (λ none. inr (inr none)) pay.settled in
            let act = active_fewer w pay.fewer (λ j f. f) in let pas = passive_fewer w stay.fewer (λ j f. f) in
            returned w refl (refl, refl, refl) (keeps_match w refl refl refl pay.entries stay.entries) (emptying w (λ _. end) (λ _. end) act) (filling w (λ o. inl o) (λ o. inl o) act pas)

        -- all that would make
        pub pays_active : PaysAll me.0.active new_active → Stays me.0.passive new_passive → R (stepped s 1 n id me.1 (paid_active_of me.0) gives)
        pays_active pay stay = let w : View = paid_active_of me.0 in
            let end : Ends w = inr (inr pay.none_waits) in
            let act : Active w = λ j h. absurd (pay.none_waits j h) in let pas = passive_fewer w stay.fewer (λ j f. f) in
            returned w refl (refl, refl, refl) (keeps_match w refl refl refl pay.entries stay.entries) (emptying w (λ _. end) (λ _. end) act) (filling w (λ _. inr pay.none_waits) (λ o. inl o) act pas)

        -- all that wait
        pub pays_passive : Stays me.0.active new_active → PaysAll me.0.passive new_passive → R (stepped s 1 n id me.1 (paid_passive_of me.0) gives)
        pays_passive stay pay = let w : View = paid_passive_of me.0 in
            let act = active_fewer w stay.fewer (λ j f. f) in let pas : Passive w = λ j h. absurd (pay.none_waits j h) in
            returned w refl (refl, refl, refl) (keeps_match w refl refl refl stay.entries pay.entries) (emptying w (told_still w stay.told) (λ o. inr (inl o)) act) (filling w (λ o. inl o) (λ _. inr pay.none_waits) act pas)

        -- nothing has changed
        pub remains : Stays me.0.active new_active → Stays me.0.passive new_passive → R (stepped s 1 n id me.1 (back me.0) gives)
        remains active passive = let w : View = back me.0 in
            let act = active_fewer w active.fewer (λ j f. f) in let pas = passive_fewer w passive.fewer (λ j f. f) in
            returned w refl (refl, refl, refl) (keeps_match w refl refl refl active.entries passive.entries) (emptying w (told_still w active.told) (λ o. inr (inl o)) act) (filling w (λ o. inl o) (λ o. inl o) act pas)
