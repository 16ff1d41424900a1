-- Each step on the table keeps its rule.
use Rattle.std.proofs.Common.{◌≡◌, ◌≢◌, ℕ, zero, suc, ◌+◌, ◌-◌, ◌%◌, ◌^◌, ◌<◌, ◌≤◌, leb, eqb, bit_or, lt_of_not-le, true, false, List, [], ◌∷◌, ◌++◌, length, get_or, set, sym, refl, ap, ◌∙◌, subst, arith, ⊎_elim, inl, inr, length-set, get_or-set_same, get_or-set_other}
use Rattle.std.proofs.lemmas.Bool.{le-leb}
use mathlib.Core.Option.{none, some, some-injective, some-ne-none}
use mathlib.Core.Logic.{dite}
use native.Mathlib.Decide.{dec_le, ℕ_discrete}
use prog.Atomic.{either}
use lib.ListN.{get_elem?}
use Rattle.atomic_table.specs.Table.{State, Me, Act, step, keeps, takes, gives, stepped, homes_after, put_back, rest, opening, Enters, Allows}
use Rattle.atomic_table.proofs.Lists.{set_here, set_else, at_set, at_snoc}
use Rattle.words_base.specs.Sums.{weight, number, total}
use Rattle.words_base.proofs.Sums.{number-set, number-at, number-none, total-set, total-at, total-snoc}
use Rattle.words_base.proofs.Exchanges.{exchanged}
use Rattle.words_base.specs.Waiting.{Matched}
use Rattle.words_base.proofs.Matched.{nobody_stands, longer, kept, joined, left}
use Rattle.words_mutex.proofs.Flags.{never, and_true, many-owes, SetsLow}
use Rattle.words_permits.specs.Rule.{permits_of, under_way_of, added_of, forgotten_of, has_list_out, SaysEmpty, OwesOf, IsEntryOf, IsNumberOf, IsFreshIn, AreOfSeats, LosesNone, Ruled}
use Rattle.words_permits.specs.Seats.{first_view, looking, having_taken, having_given, having_given_new, having_lowered, having_raised, having_found_limit, peeking, listing_of, back, joined_of, told_of, gone_of, paid_of}
use Rattle.words_permits.specs.Steps.{Takes, Gives, GivesNew, Raises, Says, Grabbed, newest, CanJoin, CanHear, CanLeave, CanPay, CanStay}
use Rattle.words_permits.specs.Waiters.{Waiter, waiter, StandsIn, last_or, HasNo, numbers, all_but, AreWaiters}
use Rattle.words_permits.specs.declared.view.View.{View}
use Rattle.words_permits.proofs.Owners.{some-set, some-mine, some-snoc, stands-snoc, nobody-stands, last-snoc, sound-snoc, numbers-snoc, numbers-but, new-number, left-by, sound-but}

-- who has joined last
pub newest-is : {S : Type 0} (waiters_of : S → List Waiter) (marked_of : S → ℕ) (me : Me S View) (new : ℕ) (w : Waiter) → CanJoin waiters_of marked_of me new w → newest waiters_of me.1 ≡ w
newest-is waiters_of marked_of me new w c = ap (newest waiters_of) c.1.1 ∙ (ap (last_or (waiter 0 0)) c.2 ∙ last-snoc (waiter 0 0) me.0.waiters w)

-- nothing is enough for nobody
of_nothing : (n : ℕ) (l : List Waiter) (marked : ℕ) (views : List View) → ((w : Waiter) → StandsIn l w → 0 < w.weight) → n ≡ 0 → LosesNone views n l marked
of_nothing n l marked views counts is = inr (inr (λ e stands few. let some = counts e stands in absurd (omega arith)))

abbrev IsSeat : {S : Type 0} → Me S View → Me S View → Type 0
IsSeat m m' = m' ≡ m

module _ (S : Type 0) (waiters_of : S → List Waiter) (marked_of : S → ℕ) (start : ℕ) where
  abbrev St : Type 0
  St = State S View

  abbrev M : Type 0
  M = Me S View

  abbrev R : St → Type 0
  R = Ruled waiters_of marked_of start

  -- the table at the start
  pub opens : (n : ℕ) (list : S) → n ≡ start → n < 2 ^ 64 → waiters_of list ≡ [] → R (opening (n ∷ 0 ∷ n ∷ []) (list ∷ []) first_view)
  opens n list is fits empty = record {
    words = omega arith;
    fits = fits;
    permits = omega arith;
    limit = omega arith;
    one_out = omega arith;
    is_out = refl;
    waiters = [];
    marked = marked_of list;
    sound = ((λ w s. nobody-stands [] w refl s), λ _. omega arith);
    standing = λ w s. nobody-stands [] w refl s;
    matched = nobody_stands IsNumberOf first_view [] refl (λ n q. never q.0);
    wakes = inr (inr (λ w s _. nobody-stands [] w refl s));
    unlisted = λ _. refl;
    home = λ _. (list, refl, empty, refl);
    out = out;
  }
    where
      out : (i : ℕ) (v : View) → get_elem? (first_view ∷ []) i ≡ some v → v.has_list ≡ true → (v.waiters ≡ []) × (v.marked ≡ marked_of list)
      out zero v e is = never (ap (λ (u : View). u.has_list) (some-injective first_view v e) ∙ is)
      out (suc i) v e is = absurd (some-ne-none v (sym e))

  module _ (s : St) (id : ℕ) (me : M) (r : R s) (at : get_elem? s.views id ≡ some me.0) where
    abbrev x : ℕ
    x = get_or s.words 0 0

    abbrev y : ℕ
    y = get_or s.words 1 0

    abbrev z : ℕ
    z = get_or s.words 2 0

    abbrev after : View → List View
    after w = set s.views id w

    -- what a step leaves of a seat that isn't of the list
    abbrev pub Leaves : View → Type 0
    Leaves w = (w.has_list ≡ me.0.has_list) × (w.waiters ≡ me.0.waiters) × (w.marked ≡ me.0.marked) × ((e : Waiter) → IsEntryOf e me.0 → IsEntryOf e w) × (w.listed ≡ me.0.listed) × (w.entry ≡ me.0.entry)

    -- what a step leaves of a seat that isn't of the list's word
    abbrev pub Counts : View → Type 0
    Counts w = (w.permits ≡ me.0.permits) × (w.under_way ≡ me.0.under_way) × (w.added ≡ me.0.added) × (w.forgotten ≡ me.0.forgotten)

    out_set : (w : View) → Leaves w → (i : ℕ) (v : View) → get_elem? (after w) i ≡ some v → v.has_list ≡ true → (v.waiters ≡ r.waiters) × (v.marked ≡ r.marked)
    out_set w left i v e is = ⊎_elim
        (λ here. let o = r.out id me.0 at (sym left.0 ∙ (ap (λ (u : View). u.has_list) here.1 ∙ is)) in subst (λ (u : View). (u.waiters ≡ r.waiters) × (u.marked ≡ r.marked)) here.1 (left.1 ∙ o.0, left.2 ∙ o.1))
        (λ else. r.out i v else.1 is) (at_set s.views id i w v e)

    same_out : (w : View) → w.has_list ≡ me.0.has_list → number has_list_out (after w) ≡ number has_list_out s.views
    same_out w hs = let h = number-set has_list_out s.views id me.0 w at in let h' : weight (has_list_out w) ≡ weight (has_list_out me.0) = ap weight hs in omega arith

    -- who stands in the list stood there, and the seat's own entry is its own, if it still stands there
    stand-by : (l : List Waiter) (w : View) → ((e : Waiter) → StandsIn l e → StandsIn r.waiters e × (IsEntryOf e me.0 → IsEntryOf e w)) → AreOfSeats (after w) l
    stand-by l w good e stands = let g = good e stands in some-set (IsEntryOf e) (IsEntryOf e) s.views id me.0 w at g.1 (λ u f. f) (r.standing e g.0)

    matched-as : (w : View) → w.listed ≡ me.0.listed → w.entry ≡ me.0.entry → Matched IsNumberOf (numbers r.waiters) (after w)
    matched-as w l e = kept IsNumberOf (numbers r.waiters) s.views id me.0 at r.matched w (λ n is. (l ∙ is.0, e ∙ is.1)) (λ n is. (sym l ∙ is.0, sym e ∙ is.1))

    stand-still : (w : View) → Leaves w → AreOfSeats (after w) r.waiters
    stand-still w left = stand-by r.waiters w (λ e stands. (stands, left.3 e))

    -- no more are available than before, and the seat's duty and its entry are as they were, as far as the rule asks
    wakes-by : (b : ℕ) (w : View) → b ≤ x → (OwesOf x me.0 → OwesOf b w) → ((e : Waiter) → e.weight ≤ b → IsFreshIn e me.0 → IsFreshIn e w) → LosesNone (after w) b r.waiters r.marked
    wakes-by b w less owes fresh = ⊎_elim (λ m. inl m)
        (λ more. inr (⊎_elim
        (λ k. inl (some-set (OwesOf x) (OwesOf b) s.views id me.0 w at owes (λ u o. (o.0, ⊎_elim (λ unseen. inl unseen) (λ seen. inr (omega arith)) o.1)) k))
        (λ each. inr (λ e stands few. some-set (IsFreshIn e) (IsFreshIn e) s.views id me.0 w at (fresh e few) (λ u f. f) (each e stands (omega arith)))) more)) r.wakes

    wakes-owing : (b : ℕ) (l : List Waiter) (m : ℕ) (w : View) → OwesOf b w → LosesNone (after w) b l m
    wakes-owing b l m w owes = inr (inl (some-mine (OwesOf b) s.views id me.0 w at owes))

    -- the available permits become n
    first_word : (w : View) (n : ℕ) → n + w.permits + w.under_way ≡ x + me.0.permits + me.0.under_way → w.added ≡ me.0.added → w.forgotten ≡ me.0.forgotten → Leaves w → LosesNone (after w) n r.waiters r.marked
        → R (stepped s 0 n id me.1 w keeps)
    first_word w n same adds forgets left wakes =
        let ps = total-set permits_of s.views id me.0 w at in let us = total-set under_way_of s.views id me.0 w at in let is = r.permits in
        let ds = total-set added_of s.views id me.0 w at in let fs = total-set forgotten_of s.views id me.0 w at in let was = r.limit in let wide = r.words in
        let here : get_or (set s.words 0 n) 0 0 ≡ n = get_or-set_same s.words 0 n 0 (omega arith) in
        let beside : get_or (set s.words 0 n) 1 0 ≡ y = get_or-set_other s.words 0 1 n 0 (λ q. omega arith) in
        let there : get_or (set s.words 0 n) 2 0 ≡ z = get_or-set_other s.words 0 2 n 0 (λ q. omega arith) in
        let outs = same_out w left.0 in let one = r.one_out in let odd = r.is_out in
        let sum : n + total permits_of (after w) + total under_way_of (after w) ≡ z = omega arith in
        let told : z + total forgotten_of (after w) ≡ start + total added_of (after w) = omega arith in record {
          words = subst (λ (k : ℕ). 2 < k) (sym (length-set s.words 0 n)) r.words;
          fits = subst (λ (k : ℕ). k < 2 ^ 64) (sym there) r.fits;
          permits = ap (λ k. k + total permits_of (after w) + total under_way_of (after w)) here ∙ (sum ∙ sym there);
          limit = ap (λ k. k + total forgotten_of (after w)) there ∙ told;
          one_out = omega arith;
          is_out = ap (λ (k : ℕ). k % 2) beside ∙ (odd ∙ sym outs);
          waiters = r.waiters;
          marked = r.marked;
          sound = r.sound;
          standing = stand-still w left;
          matched = matched-as w left.4 left.5;
          wakes = subst (λ (k : ℕ). LosesNone (after w) k r.waiters r.marked) (sym here) wakes;
          unlisted = λ low. r.unlisted (subst SaysEmpty beside low);
          home = λ absent. r.home (sym outs ∙ absent);
          out = out_set w left;
        }

    -- the limit becomes n
    third_word : (w : View) (n : ℕ) → n < 2 ^ 64 → n + me.0.permits + me.0.under_way ≡ z + w.permits + w.under_way → n + me.0.added + w.forgotten ≡ z + w.added + me.0.forgotten → Leaves w → LosesNone (after w) x r.waiters r.marked
        → R (stepped s 2 n id me.1 w keeps)
    third_word w n fits same since left wakes =
        let ps = total-set permits_of s.views id me.0 w at in let us = total-set under_way_of s.views id me.0 w at in let is = r.permits in
        let ds = total-set added_of s.views id me.0 w at in let fs = total-set forgotten_of s.views id me.0 w at in let was = r.limit in
        let here : get_or (set s.words 2 n) 2 0 ≡ n = get_or-set_same s.words 2 n 0 r.words in
        let beside : get_or (set s.words 2 n) 1 0 ≡ y = get_or-set_other s.words 2 1 n 0 (λ q. omega arith) in
        let there : get_or (set s.words 2 n) 0 0 ≡ x = get_or-set_other s.words 2 0 n 0 (λ q. omega arith) in
        let outs = same_out w left.0 in let one = r.one_out in let odd = r.is_out in
        let sum : x + total permits_of (after w) + total under_way_of (after w) ≡ n = omega arith in
        let told : n + total forgotten_of (after w) ≡ start + total added_of (after w) = omega arith in record {
          words = subst (λ (k : ℕ). 2 < k) (sym (length-set s.words 2 n)) r.words;
          fits = subst (λ (k : ℕ). k < 2 ^ 64) (sym here) fits;
          permits = ap (λ k. k + total permits_of (after w) + total under_way_of (after w)) there ∙ (sum ∙ sym here);
          limit = ap (λ k. k + total forgotten_of (after w)) here ∙ told;
          one_out = omega arith;
          is_out = ap (λ (k : ℕ). k % 2) beside ∙ (odd ∙ sym outs);
          waiters = r.waiters;
          marked = r.marked;
          sound = r.sound;
          standing = stand-still w left;
          matched = matched-as w left.4 left.5;
          wakes = subst (λ (k : ℕ). LosesNone (after w) k r.waiters r.marked) (sym there) wakes;
          unlisted = λ low. r.unlisted (subst SaysEmpty beside low);
          home = λ absent. r.home (sym outs ∙ absent);
          out = out_set w left;
        }

    -- the list's word becomes n, and this stands in the list now
    list_word : (w : View) (n : ℕ) (a : Act S) (l : List Waiter) (m : ℕ) → Counts w → number has_list_out (after w) ≤ 1 → n % 2 ≡ number has_list_out (after w) → AreWaiters l → AreOfSeats (after w) l → Matched IsNumberOf (numbers l) (after w) → LosesNone (after w) x l m → (SaysEmpty n → l ≡ [])
        → (number has_list_out (after w) ≡ 0 → (list : S) × (get_elem? (homes_after s.homes me.1 a) 0 ≡ some (some list)) × (waiters_of list ≡ l) × (marked_of list ≡ m))
        → ((i : ℕ) (v : View) → get_elem? (after w) i ≡ some v → v.has_list ≡ true → (v.waiters ≡ l) × (v.marked ≡ m)) → R (stepped s 1 n id me.1 w a)
    list_word w n a l m counts one odd sound standing matched wakes low home out =
        let ps = total-set permits_of s.views id me.0 w at in let us = total-set under_way_of s.views id me.0 w at in let is = r.permits in
        let ds = total-set added_of s.views id me.0 w at in let fs = total-set forgotten_of s.views id me.0 w at in let was = r.limit in let wide = r.words in
        let cp = counts.0 in let cu = counts.1 in let ca = counts.2 in let cf = counts.3 in
        let here : get_or (set s.words 1 n) 1 0 ≡ n = get_or-set_same s.words 1 n 0 (omega arith) in
        let beside : get_or (set s.words 1 n) 0 0 ≡ x = get_or-set_other s.words 1 0 n 0 (λ q. omega arith) in
        let there : get_or (set s.words 1 n) 2 0 ≡ z = get_or-set_other s.words 1 2 n 0 (λ q. omega arith) in
        let sum : x + total permits_of (after w) + total under_way_of (after w) ≡ z = omega arith in
        let told : z + total forgotten_of (after w) ≡ start + total added_of (after w) = omega arith in record {
          words = subst (λ (k : ℕ). 2 < k) (sym (length-set s.words 1 n)) r.words;
          fits = subst (λ (k : ℕ). k < 2 ^ 64) (sym there) r.fits;
          permits = ap (λ k. k + total permits_of (after w) + total under_way_of (after w)) beside ∙ (sum ∙ sym there);
          limit = ap (λ k. k + total forgotten_of (after w)) there ∙ told;
          one_out = one;
          is_out = ap (λ (k : ℕ). k % 2) here ∙ odd;
          waiters = l;
          marked = m;
          sound = sound;
          standing = standing;
          matched = matched;
          wakes = subst (λ (k : ℕ). LosesNone (after w) k l m) (sym beside) wakes;
          unlisted = λ empty. low (subst SaysEmpty here empty);
          home = home;
          out = out;
        }

    -- ---- on the available permits
    still-wakes : LosesNone (after me.0) x r.waiters r.marked
    still-wakes = wakes-by x me.0 (omega arith) (λ o. o) (λ _ _ f. f)

    -- nothing changes
    pub still : R (stepped s 0 x id me.1 me.0 keeps)
    still = first_word me.0 x refl refl refl (refl, refl, refl, (λ _ f. f), refl, refl) still-wakes

    pub sees : R (stepped s 0 x id me.1 (looking x me.0) keeps)
    sees = let w : View = looking x me.0 in first_word w x refl refl refl (refl, refl, refl, (λ _ f. f), refl, refl) (dite (ℕ_discrete x 0)
        (λ none. of_nothing x r.waiters r.marked (after w) r.sound.0 none)
        (λ some. wakes-by x w (omega arith) (λ o. (and_true me.0.owes (leb 1 x) (le-leb 1 x (omega arith)) ∙ o.0, inr (omega arith)))
        (λ e few f. (f.0, and_true me.0.fresh (leb me.0.weight x) (le-leb me.0.weight x (let k = f.0.2 in omega arith)) ∙ f.1))))

    pub takes_some : (k n : ℕ) → n + k ≡ x → R (stepped s 0 n id me.1 (having_taken k n me.0) keeps)
    takes_some k n less = let w : View = having_taken k n me.0 in first_word w n (omega arith) refl refl (refl, refl, refl, (λ _ f. f), refl, refl) (dite (ℕ_discrete n 0)
        (λ none. of_nothing n r.waiters r.marked (after w) r.sound.0 none)
        (λ some. wakes-by n w (omega arith) (λ o. (and_true me.0.owes (leb 1 n) (le-leb 1 n (omega arith)) ∙ o.0, inr (omega arith))) (λ _ _ f. f)))

    pub gives_some : (k n : ℕ) → k ≤ me.0.permits → x + k ≡ n → R (stepped s 0 n id me.1 (having_given k n me.0) keeps)
    gives_some k n has more = let w : View = having_given k n me.0 in first_word w n (omega arith) refl refl (refl, refl, refl, (λ _ f. f), refl, refl) (wakes-owing n r.waiters r.marked w (refl, inr (omega arith)))

    pub gives_added : (k n : ℕ) → k ≤ me.0.under_way → x + k ≡ n → R (stepped s 0 n id me.1 (having_given_new k n me.0) keeps)
    gives_added k n has more = let w : View = having_given_new k n me.0 in first_word w n (omega arith) refl refl (refl, refl, refl, (λ _ f. f), refl, refl) (wakes-owing n r.waiters r.marked w (refl, inr (omega arith)))

    -- what the seat has, what is available and what is under way is no more than the limit
    pub within : (x + me.0.permits + me.0.under_way ≤ z) × (z < 18446744073709551616)
    within = let ps = total-at permits_of s.views id me.0 at in let us = total-at under_way_of s.views id me.0 at in let is = r.permits in (omega arith, r.fits)

    -- ---- on the limit
    pub limit_still : R (stepped s 2 z id me.1 me.0 keeps)
    limit_still = third_word me.0 z r.fits refl refl (refl, refl, refl, (λ _ f. f), refl, refl) still-wakes

    pub sees_limit : R (stepped s 2 z id me.1 (having_found_limit z me.0) keeps)
    sees_limit = let w : View = having_found_limit z me.0 in third_word w z r.fits refl refl (refl, refl, refl, (λ _ f. f), refl, refl) (wakes-by x w (omega arith) (λ o. o) (λ _ _ f. f))

    pub raises_by : (k n : ℕ) → n < 2 ^ 64 → z + k ≡ n → R (stepped s 2 n id me.1 (having_raised k me.0) keeps)
    raises_by k n fits more = let w : View = having_raised k me.0 in third_word w n fits (omega arith) (omega arith) (refl, refl, refl, (λ _ f. f), refl, refl) (wakes-by x w (omega arith) (λ o. o) (λ _ _ f. f))

    pub lowers_by : (k n : ℕ) → n < 2 ^ 64 → k ≤ me.0.permits → n + k ≡ z → R (stepped s 2 n id me.1 (having_lowered k me.0) keeps)
    lowers_by k n fits has less = let w : View = having_lowered k me.0 in third_word w n fits (omega arith) (omega arith) (refl, refl, refl, (λ _ f. f), refl, refl) (wakes-by x w (omega arith) (λ o. o) (λ _ _ f. f))

    -- ---- on the list
    -- who has the list out stays
    at_list : (n : ℕ) (w : View) → n % 2 ≡ y % 2 → (SaysEmpty n → SaysEmpty y) → Leaves w → Counts w → LosesNone (after w) x r.waiters r.marked → R (stepped s 1 n id me.1 w keeps)
    at_list n w parity below left counts wakes = let outs = same_out w left.0 in let one = r.one_out in let odd = r.is_out in
        list_word w n keeps r.waiters r.marked counts (omega arith) (omega arith) r.sound (stand-still w left) (matched-as w left.4 left.5) wakes (λ low. r.unlisted (below low)) (λ absent. r.home (sym outs ∙ absent)) (out_set w left)

    pub peeked : R (stepped s 1 y id me.1 (peeking y me.0) keeps)
    peeked = let w : View = peeking y me.0 in at_list y w refl (λ low. low) (refl, refl, refl, (λ _ f. f), refl, refl) (refl, refl, refl, refl)
        (dite (dec_le 4 (y % 8)) (λ many. wakes-by x w (omega arith) (λ o. (many-owes (y % 8) me.0.owes many ∙ o.0, o.1)) (λ _ _ f. f))
        (λ few. inr (inr (λ e stands _. nobody-stands r.waiters e (r.unlisted (lt_of_not-le few)) stands))))

    -- the list's lock is taken by another
    pub busy : (n : ℕ) → n % 2 ≡ y % 2 → (SaysEmpty n → SaysEmpty y) → R (stepped s 1 n id me.1 me.0 keeps)
    busy n parity below = at_list n me.0 parity below (refl, refl, refl, (λ _ f. f), refl, refl) (refl, refl, refl, refl) still-wakes

    lies : y % 2 ≡ 0 → (list : S) × (get_elem? s.homes 0 ≡ some (some list)) × (waiters_of list ≡ r.waiters) × (marked_of list ≡ r.marked)
    lies even = r.home (sym r.is_out ∙ even)

    abbrev pub listing : S → View
    listing list = listing_of (waiters_of list) (marked_of list) me.0

    -- the seat takes the list out
    pub grabbed : y % 2 ≡ 0 → (n : ℕ) → n % 2 ≡ 1 → (SaysEmpty n → SaysEmpty y) → (list : S) × (get_elem? s.homes 0 ≡ some (some list)) × R (stepped s 1 n id me.1 (listing list) (takes 0 list)) × AreWaiters (waiters_of list)
    grabbed even n odd below = let h = lies even in let w : View = listing h.0 in
        let c = number-set has_list_out s.views id me.0 w at in let c' : weight (has_list_out w) ≡ 1 = refl in
        let m = number-at has_list_out s.views id me.0 at in let is = r.is_out in
        let one : number has_list_out (after w) ≡ 1 = omega arith in (
          h.0,
          h.1,
          list_word w n (takes 0 h.0) r.waiters r.marked (refl, refl, refl, refl) (omega arith) (omega arith) r.sound (stand-by r.waiters w (λ e stands. (stands, λ f. f))) (matched-as w refl refl) (wakes-by x w (omega arith) (λ o. o) (λ _ _ f. f)) (λ low. r.unlisted (below low)) (λ absent. absurd (omega arith))
              (λ i v e has. ⊎_elim (λ here. subst (λ (u : View). (u.waiters ≡ r.waiters) × (u.marked ≡ r.marked)) here.1 (h.2, h.3))
              (λ else. let n = number-at has_list_out s.views i v else.1 in let q : weight (has_list_out v) ≡ 1 = ap weight has in absurd (omega arith)) (at_set s.views id i w v e)),
          subst AreWaiters (sym h.2) r.sound,
        )

    -- the seat gives the list back, and has this view then
    module _ (list : S) (n : ℕ) (lists : me.0.has_list ≡ true) (has : me.1 ≡ (0, list) ∷ rest me.1) (wide : 0 < length s.homes) (says : Says (waiters_of list) n) where
      returned : (w : View) → w.has_list ≡ false → Counts w → AreWaiters (waiters_of list) → AreOfSeats (after w) (waiters_of list) → Matched IsNumberOf (numbers (waiters_of list)) (after w) → LosesNone (after w) x (waiters_of list) (marked_of list) → R (stepped s 1 n id me.1 w gives)
      returned w off counts sound standing matched wakes =
          let c = number-set has_list_out s.views id me.0 w at in let c' : weight (has_list_out w) ≡ 0 = ap weight off in let l : weight (has_list_out me.0) ≡ 1 = ap weight lists in
          let one = r.one_out in let four = says.0 in
          let nobody : number has_list_out (after w) ≡ 0 = omega arith in
          list_word w n gives (waiters_of list) (marked_of list) counts (omega arith) (omega arith) sound standing matched wakes says.1
          (λ _. (list, subst (λ (t : List (ℕ × S)). get_elem? (put_back s.homes t) 0 ≡ some (some list)) (sym has) (set_here s.homes 0 (some list) wide), refl, refl))
          (λ i v e is. let m = number-at has_list_out (after w) i v e in let q : weight (has_list_out v) ≡ 1 = ap weight is in absurd (omega arith))

      known : (me.0.waiters ≡ r.waiters) × (me.0.marked ≡ r.marked)
      known = r.out id me.0 at lists

      -- the same stand in the list
      stood : (l : List Waiter) → l ≡ me.0.waiters → (e : Waiter) → StandsIn l e → StandsIn r.waiters e
      stood l same e = subst (λ (m : List Waiter). StandsIn m e) (same ∙ known.0)

      -- each stood in the list when it was taken out
      knew : (e : Waiter) → StandsIn me.0.waiters e → StandsIn r.waiters e
      knew e = subst (λ (m : List Waiter). StandsIn m e) known.0

      -- the seat's own entry has left
      gone-sound : waiters_of list ≡ all_but me.0.entry me.0.waiters → AreWaiters (waiters_of list)
      gone-sound gone = subst AreWaiters (sym (gone ∙ ap (all_but me.0.entry) known.0)) (sound-but me.0.entry r.waiters r.sound)

      others : waiters_of list ≡ all_but me.0.entry me.0.waiters → (e : Waiter) → StandsIn (waiters_of list) e → StandsIn me.0.waiters e × (e.entry ≢ me.0.entry)
      others gone e stands = left-by me.0.entry me.0.waiters e (subst (λ (l : List Waiter). StandsIn l e) gone stands)

      left-alone : waiters_of list ≡ all_but me.0.entry me.0.waiters → (w : View) → AreOfSeats (after w) (waiters_of list)
      left-alone gone w = stand-by (waiters_of list) w (λ e stands. let o = others gone e stands in (knew e o.0, λ f. absurd (o.1 (sym f.1))))

      -- nobody has joined or left
      unmoved : (w : View) → ((e : Waiter) → IsEntryOf e me.0 → IsEntryOf e w) → waiters_of list ≡ me.0.waiters → AreOfSeats (after w) (waiters_of list)
      unmoved w own same = stand-by (waiters_of list) w (λ e stands. (stood (waiters_of list) same e stands, own e))

      matched-still : (w : View) → w.listed ≡ me.0.listed → w.entry ≡ me.0.entry → waiters_of list ≡ me.0.waiters → Matched IsNumberOf (numbers (waiters_of list)) (after w)
      matched-still w l e same = subst (λ (es : List Waiter). Matched IsNumberOf (numbers es) (after w)) (sym (same ∙ known.0)) (matched-as w l e)

      matched-left : (w : View) → w.listed ≡ false → me.0.listed ≡ true → waiters_of list ≡ all_but me.0.entry me.0.waiters → Matched IsNumberOf (numbers (waiters_of list)) (after w)
      matched-left w off was gone = subst (λ ns. Matched IsNumberOf ns (after w)) (sym (ap numbers (gone ∙ ap (all_but me.0.entry) known.0) ∙ numbers-but me.0.entry r.waiters))
          (left IsNumberOf (numbers r.waiters) s.views id me.0 at r.matched me.0.entry w (was, refl) (λ n is. sym is.1) (λ n is. never (sym off ∙ is.0)))

      matched-joined : (j : Waiter) → waiters_of list ≡ me.0.waiters ++ j ∷ [] → HasNo j.entry me.0.waiters → me.0.listed ≡ false → Matched IsNumberOf (numbers (waiters_of list)) (after (joined_of j me.0))
      matched-joined j longer absent away = subst (λ ns. Matched IsNumberOf ns (after (joined_of j me.0))) (sym (ap numbers (longer ∙ ap (λ (es : List Waiter). es ++ j ∷ []) known.0) ∙ numbers-snoc r.waiters j))
          (joined IsNumberOf (numbers r.waiters) s.views id me.0 at r.matched j.entry (joined_of j me.0) (λ n is. never (sym away ∙ is.0)) (refl, refl) (λ n is. sym is.1) (new-number j.entry r.waiters (subst (HasNo j.entry) known.0 absent)))

      -- its entry has joined: it has not looked yet
      pub joins : (j : Waiter) → waiters_of list ≡ me.0.waiters ++ j ∷ [] → marked_of list ≡ me.0.marked → HasNo j.entry me.0.waiters → 0 < j.weight → me.0.listed ≡ false → R (stepped s 1 n id me.1 (joined_of j me.0) gives)
      joins j longer same absent counts away = let w : View = joined_of j me.0 in
          returned w refl (refl, refl, refl, refl) (subst AreWaiters (sym longer) (sound-snoc me.0.waiters j (subst AreWaiters (sym known.0) r.sound) absent counts))
          (λ e stands. ⊎_elim
          (λ old. some-set (IsEntryOf e) (IsEntryOf e) s.views id me.0 w at (λ f. never (sym away ∙ f.0)) (λ u f. f) (r.standing e (knew e old)))
          (λ new. some-mine (IsEntryOf e) s.views id me.0 w at (refl, ap (λ (u : Waiter). u.entry) new, ap (λ (u : Waiter). u.weight) new))
          (stands-snoc me.0.waiters j e (subst (λ (m : List Waiter). StandsIn m e) longer stands)))
          (matched-joined j longer absent away)
          (⊎_elim (λ m. inl (let k = known.1 in omega arith))
          (λ more. inr (⊎_elim
          (λ k. inl (some-set (OwesOf x) (OwesOf x) s.views id me.0 w at (λ o. (o.0, inl refl)) (λ u o. o) k))
          (λ each. inr (λ e stands few. ⊎_elim
          (λ old. some-set (IsFreshIn e) (IsFreshIn e) s.views id me.0 w at (λ f. never (sym away ∙ f.0.0)) (λ u f. f) (each e (knew e old) few))
          (λ new. some-mine (IsFreshIn e) s.views id me.0 w at ((refl, ap (λ (u : Waiter). u.entry) new, ap (λ (u : Waiter). u.weight) new), refl))
          (stands-snoc me.0.waiters j e (subst (λ (m : List Waiter). StandsIn m e) longer stands)))) more)) r.wakes)

      -- its entry was notified, and has left: it owes
      pub hears : waiters_of list ≡ all_but me.0.entry me.0.waiters → me.0.listed ≡ true → R (stepped s 1 n id me.1 (told_of me.0) gives)
      hears gone was = let w : View = told_of me.0 in returned w refl (refl, refl, refl, refl) (gone-sound gone) (left-alone gone w) (matched-left w refl was gone) (wakes-owing x (waiters_of list) (marked_of list) w (refl, inl refl))

      -- its entry has left
      pub leaves : waiters_of list ≡ all_but me.0.entry me.0.waiters → me.0.listed ≡ true → marked_of list ≡ me.0.marked → R (stepped s 1 n id me.1 (gone_of me.0) gives)
      leaves gone was same = let w : View = gone_of me.0 in
          returned w refl (refl, refl, refl, refl) (gone-sound gone) (left-alone gone w) (matched-left w refl was gone)
          (⊎_elim (λ m. inl (let k = known.1 in omega arith))
          (λ more. inr (⊎_elim
          (λ k. inl (some-set (OwesOf x) (OwesOf x) s.views id me.0 w at (λ o. o) (λ u o. o) k))
          (λ each. inr (λ e stands few. let o = others gone e stands in
          some-set (IsFreshIn e) (IsFreshIn e) s.views id me.0 w at (λ f. absurd (o.1 (sym f.0.1))) (λ u f. f) (each e (knew e o.0) few))) more)) r.wakes)

      -- it has notified of as many as it saw
      pub pays : waiters_of list ≡ me.0.waiters → me.0.marked ≤ marked_of list → ((e : Waiter) → StandsIn (waiters_of list) e → e.weight ≤ me.0.found → 1 ≤ marked_of list) → me.0.seen ≡ true → R (stepped s 1 n id me.1 (paid_of me.0) gives)
      pays same more fits seen = let w : View = paid_of me.0 in
          returned w refl (refl, refl, refl, refl) (subst AreWaiters (sym (same ∙ known.0)) r.sound) (unmoved w (λ _ f. f) same) (matched-still w refl refl same)
          (dite (dec_le 1 (marked_of list)) (λ m. inl m)
          (λ none. inr (⊎_elim (λ m. absurd (none (let k = known.1 in omega arith)))
          (λ rest. ⊎_elim
          (λ k. dite (ℕ_discrete k.0 id)
          (λ mine. let is : k.1 ≡ me.0 = some-injective k.1 me.0 (sym k.2 ∙ (ap (λ (i : ℕ). get_elem? s.views i) mine ∙ at)) in
          let o : OwesOf x me.0 = subst (OwesOf x) is k.3 in
          inr (λ e stands few. absurd (none (fits e stands (⊎_elim (λ un. never (sym un ∙ seen)) (λ le. omega arith) o.1)))))
          (λ other. inl (k.0, k.1, set_else s.views id k.0 w other ∙ k.2, k.3)))
          (λ each. inr (λ e stands few. some-set (IsFreshIn e) (IsFreshIn e) s.views id me.0 w at (λ f. f) (λ u f. f) (each e (stood (waiters_of list) same e stands) few))) rest) r.wakes)))

      -- nothing has changed
      pub stays : waiters_of list ≡ me.0.waiters → marked_of list ≡ me.0.marked → R (stepped s 1 n id me.1 (back me.0) gives)
      stays same marks = let w : View = back me.0 in
          returned w refl (refl, refl, refl, refl) (subst AreWaiters (sym (same ∙ known.0)) r.sound) (unmoved w (λ _ f. f) same) (matched-still w refl refl same)
          (subst (λ (l : List Waiter). LosesNone (after w) x l (marked_of list)) (sym (same ∙ known.0)) (subst (λ (m : ℕ). LosesNone (after w) x r.waiters m) (sym (marks ∙ known.1)) (wakes-by x w (omega arith) (λ o. o) (λ _ _ f. f))))

  -- ---- the steps
  module _ (slots id : ℕ) (me : M) where
    -- a look that changes nothing for the seat
    pub reads : Allows R slots id me 0 (λ n. n) (λ _ m'. m' ≡ me)
    reads s r _ at _ = (me.0, keeps, tt, still s id me r at, refl)

    pub looked : Allows R slots id me 0 (λ n. n) (λ n m'. m' ≡ (looking n me.0, me.1))
    looked s r _ at _ = (looking (get_or s.words 0 0) me.0, keeps, tt, sees s id me r at, refl)

    pub taken : (old new : ℕ) → new ≤ old → Allows R slots id me 0 (λ n. either (eqb n old) new n) (Takes (step slots 0 old new none) me)
    taken old new less = exchanged R slots id me 0 old new (having_taken (old - new) new me.0) (λ _. me.0) (λ s r at hit. takes_some s id me r at (old - new) new (omega arith)) (λ s r at. still s id me r at)

    pub given : (k : ℕ) → k ≤ me.0.permits → Allows R slots id me 0 (λ n. (n + k) % 2 ^ 64) (Gives (step slots 0 k 0 none) me)
    given k has s r _ at _ = let n : ℕ = get_or s.words 0 0 in let b = within s id me r at in let fits = b.1 in let le = b.0 in let up : n + k ≡ (n + k) % 18446744073709551616 = omega arith in
        (having_given k (n + k) me.0, keeps, tt, subst (λ (j : ℕ). R (stepped s 0 j id me.1 (having_given k (n + k) me.0) keeps)) up (gives_some s id me r at k (n + k) has refl), (refl, omega arith))

    pub given_new : (k : ℕ) → k ≤ me.0.under_way → Allows R slots id me 0 (λ n. (n + k) % 2 ^ 64) (GivesNew (step slots 0 k 0 none) me)
    given_new k has s r _ at _ = let n : ℕ = get_or s.words 0 0 in let b = within s id me r at in let fits = b.1 in let le = b.0 in let up : n + k ≡ (n + k) % 18446744073709551616 = omega arith in
        (having_given_new k (n + k) me.0, keeps, tt, subst (λ (j : ℕ). R (stepped s 0 j id me.1 (having_given_new k (n + k) me.0) keeps)) up (gives_added s id me r at k (n + k) has refl), (refl, omega arith))

    pub limit_seen : Allows R slots id me 2 (λ n. n) (λ n m'. m' ≡ (having_found_limit n me.0, me.1))
    limit_seen s r _ at _ = (having_found_limit (get_or s.words 2 0) me.0, keeps, tt, sees_limit s id me r at, refl)

    pub raised : (old new : ℕ) → old ≤ new → new < 2 ^ 64 → Allows R slots id me 2 (λ n. either (eqb n old) new n) (Raises (step slots 2 old new none) me)
    raised old new more fits = exchanged R slots id me 2 old new (having_raised (new - old) me.0) (λ _. me.0) (λ s r at hit. raises_by s id me r at (new - old) new fits (omega arith)) (λ s r at. limit_still s id me r at)

    pub lowered : (k : ℕ) → k ≤ me.0.permits → Allows R slots id me 2 (λ n. (n + (2 ^ 64 - k)) % 2 ^ 64) (λ _ m'. m' ≡ (having_lowered k me.0, me.1))
    lowered k has s r _ at _ = let n : ℕ = get_or s.words 2 0 in let b = within s id me r at in let fits = b.1 in let le = b.0 in let down : n - k ≡ (n + (18446744073709551616 - k)) % 18446744073709551616 = omega arith in
        (having_lowered k me.0, keeps, tt, subst (λ (j : ℕ). R (stepped s 2 j id me.1 (having_lowered k me.0) keeps)) down (lowers_by s id me r at k (n - k) (omega arith) has (omega arith)), refl)

    pub peeks : Allows R slots id me 1 (λ n. n) (λ n m'. m' ≡ (peeking n me.0, me.1))
    peeks s r _ at _ = (peeking (get_or s.words 1 0) me.0, keeps, tt, peeked s id me r at, refl)

    pub grabs : (k : ℕ) → SetsLow k → Allows R slots id me 1 (λ n. bit_or n k) (λ n m'. Grabbed waiters_of marked_of me n m')
    grabs k bits s r _ at _ = let n : ℕ = get_or s.words 1 0 in let b = bits n in dite (ℕ_discrete (n % 2) 0)
        (λ even. let g = grabbed s id me r at even (bit_or n k) b.0 b.1 in (
          listing_of (waiters_of g.0) (marked_of g.0) me.0,
          takes 0 g.0,
          g.1,
          g.2,
          ((λ _. (g.0, refl, g.3)), λ odd. absurd (omega (arith, even, odd))),
        ))
        (λ ne. (me.0, keeps, tt, busy s id me r at (bit_or n k) (let o = b.0 in let z : ℕ = bit_or n k in omega (arith, ne)) b.1, ((λ even. absurd (ne even)), λ _. refl)))

    pub gives-joined : (new : ℕ) (w : Waiter) → CanJoin waiters_of marked_of me new w → 0 < slots → me.0.listed ≡ false → Allows R slots id me 1 (λ _. new) (λ _ m'. m' ≡ (joined_of (newest waiters_of me.1) me.0, rest me.1))
    gives-joined new w c wide away s r len at _ = (
      joined_of w me.0,
      gives,
      tt,
      joins s id me r at c.0 new c.1.0 c.1.1 (subst (λ (z : ℕ). 0 < z) (sym len) wide) c.1.2 w c.2 c.3 c.4 c.5 away,
      ap (λ (u : Waiter). (joined_of u me.0, rest me.1)) (sym (newest-is waiters_of marked_of me new w c)),
    )

    pub gives-told : (new : ℕ) → CanHear waiters_of marked_of me new me.0.entry → 0 < slots → me.0.listed ≡ true → Allows R slots id me 1 (λ _. new) (λ _ m'. m' ≡ (told_of me.0, rest me.1))
    gives-told new c wide was s r len at _ = (told_of me.0, gives, tt, hears s id me r at c.0 new c.1.0 c.1.1 (subst (λ (z : ℕ). 0 < z) (sym len) wide) c.1.2 c.2 was, refl)

    pub gives-gone : (new : ℕ) → CanLeave waiters_of marked_of me new me.0.entry → 0 < slots → me.0.listed ≡ true → Allows R slots id me 1 (λ _. new) (λ _ m'. m' ≡ (gone_of me.0, rest me.1))
    gives-gone new c wide was s r len at _ =
        (gone_of me.0, gives, tt, leaves s id me r at c.0 new c.1.0 c.1.1 (subst (λ (z : ℕ). 0 < z) (sym len) wide) c.1.2 c.2 was c.3, refl)

    pub gives-paid : (new available : ℕ) → CanPay waiters_of marked_of me new available → available ≡ me.0.found → 0 < slots → me.0.seen ≡ true → Allows R slots id me 1 (λ _. new) (λ _ m'. m' ≡ (paid_of me.0, rest me.1))
    gives-paid new available c found wide seen s r len at _ =
        (paid_of me.0, gives, tt, pays s id me r at c.0 new c.1.0 c.1.1 (subst (λ (z : ℕ). 0 < z) (sym len) wide) c.1.2 c.2 c.3 (λ w stands few. c.4 w stands (subst (λ (n : ℕ). w.weight ≤ n) (sym found) few)) seen, refl)

    pub gives-same : (new : ℕ) → CanStay waiters_of marked_of me new → 0 < slots → Allows R slots id me 1 (λ _. new) (λ _ m'. m' ≡ (back me.0, rest me.1))
    gives-same new c wide s r len at _ = (back me.0, gives, tt, stays s id me r at c.0 new c.1.0 c.1.1 (subst (λ (z : ℕ). 0 < z) (sym len) wide) c.1.2 c.2 c.3, refl)

  -- a new seat that has nothing
  enters : (s : St) (r : R s) (w : View) → w.permits ≡ 0 → w.under_way ≡ 0 → w.added ≡ 0 → w.forgotten ≡ 0 → w.has_list ≡ false → w.listed ≡ false → R record { words = s.words; homes = s.homes; views = s.views ++ w ∷ [] }
  enters s r w np nu na nf off away =
      let ps = total-snoc permits_of s.views w in let us = total-snoc under_way_of s.views w in let is = r.permits in
      let ds = total-snoc added_of s.views w in let fs = total-snoc forgotten_of s.views w in let was = r.limit in
      let outs = number-none has_list_out s.views w off in let one = r.one_out in let odd = r.is_out in record {
        words = r.words;
        fits = r.fits;
        permits = omega arith;
        limit = omega arith;
        one_out = omega arith;
        is_out = odd ∙ sym outs;
        waiters = r.waiters;
        marked = r.marked;
        sound = r.sound;
        standing = λ e stands. some-snoc (IsEntryOf e) s.views w (r.standing e stands);
        matched = longer IsNumberOf (numbers r.waiters) s.views w (λ n q. never (sym away ∙ q.0)) r.matched;
        wakes = ⊎_elim (λ m. inl m) (λ more. inr (⊎_elim (λ k. inl (some-snoc (OwesOf (get_or s.words 0 0)) s.views w k)) (λ each. inr (λ e stands few. some-snoc (IsFreshIn e) s.views w (each e stands few))) more)) r.wakes;
        unlisted = r.unlisted;
        home = λ absent. r.home (sym outs ∙ absent);
        out = λ j v e has. ⊎_elim (λ old. r.out j v old has) (λ same. never (sym off ∙ (ap (λ (u : View). u.has_list) same ∙ has))) (at_snoc s.views w v j e);
      }

  pub sits : (slots i : ℕ) → Enters R slots i (λ n w. IsSeat {S = S} (first_view, []) (w, []))
  sits slots i s r _ _ = (first_view, enters s r first_view refl refl refl refl refl refl, refl)

  -- nor has one that looks as it sits down
  pub sits_looking : (slots i : ℕ) → Enters R slots i (λ n w. IsSeat {S = S} (looking n first_view, []) (w, []))
  sits_looking slots i s r _ _ = let w : View = looking (get_or s.words i 0) first_view in (w, enters s r w refl refl refl refl refl refl, refl)
