-- Each step on the table keeps its rule: of one state.
use Rattle.std.proofs.Common.{◌≡◌, ◌≢◌, ℕ, zero, suc, ◌+◌, ◌*◌, ◌-◌, ◌/◌, ◌%◌, ◌^◌, ◌<◌, ◌≤◌, Bool, true, false, List, [], ◌∷◌, ◌++◌, length, get_or, set, sym, refl, ap, ◌∙◌, subst, arith, ◌⊎◌, ⊎_elim, inl, inr, length-set, get_or-set_same, get_or-set_other}
use mathlib.Core.Option.{some, some-injective, some-ne-none}
use lib.ListN.{get_elem?}
use Rattle.atomic_table.specs.Table.{State, Me, keeps, takes, gives, stepped, put_back, rest, opening}
use Rattle.atomic_table.proofs.Lists.{set_here, set_else, at_set}
use Rattle.words_base.specs.Sums.{weight, number}
use Rattle.words_base.specs.Waiting.{Has, NoneWaits, SomeSeat, all_but, Matched}
use Rattle.words_base.specs.Lists.{Listed, nobody, IsSettled, Stays, Pays, Joins, Leaves, HandsOn}
use Rattle.words_base.proofs.Sums.{number-set, number-at}
use Rattle.words_access.specs.Rule.{first_view, marks_of, reads_of, writes_of, has_lists_out, OwesReaders, TellsWriter, IsEntryOfReaders, IsEntryOfWriter, IsFreshReader, IsFreshWriter, LosesNone, Nested, AllNested, IsState, SaysEmpty, Ruled}
use Rattle.words_access.specs.Seats.{having_found, saw_writer_of, saw_readers_of, reading_of, left_of, last_left_of, writing_of, marking_of, upgraded_of, down_of, unmarked_of, eased_of, listing_of, back, joined_readers_of, joined_writer_of, told_reader_of, told_writer_of, gone_reader_of, gone_writer_of, paid_readers_of, paid_writer_of}
use Rattle.words_access.specs.declared.view.View.{View}
use Rattle.words_access.proofs.Flags.{never, count_le, weight_le}
use Rattle.words_base.proofs.Views.{own, apart, stays, all_stay}
use Rattle.words_base.proofs.Matched as matched

pub nested_set : (vs : List View) (id : ℕ) (w : View) → AllNested vs → Nested w → AllNested (set vs id w)
nested_set vs id w all good j v e = ⊎_elim (λ here. subst Nested here.1 good) (λ else. all j v else.1) (at_set vs id j w v e)

writes_le : (vs : List View) → AllNested vs → number writes_of vs ≤ number marks_of vs
writes_le vs all = count_le writes_of marks_of vs (λ i v e. (all i v e).0)

-- which seats stand in a list
abbrev in_readers : View → Bool
in_readers v = v.in_readers

abbrev in_writer : View → Bool
in_writer v = v.in_writer

module _ (S : Type 0) (readers_of writer_of : S → Listed) where
  abbrev R : State S View → Type 0
  R = Ruled readers_of writer_of

  module _ (lists : S) (a : readers_of lists ≡ nobody) (p : writer_of lists ≡ nobody) where
    nobody_out : (i : ℕ) (v : View) → get_elem? (first_view ∷ []) i ≡ some v → v.has_lists ≡ true → (v.readers ≡ readers_of lists) × (v.writer ≡ writer_of lists)
    nobody_out zero v e is = never (ap (λ (u : View). u.has_lists) (some-injective first_view v e) ∙ is)
    nobody_out (suc i) v e is = absurd (some-ne-none v (sym e))

    only : AllNested (first_view ∷ [])
    only zero v e = subst Nested (some-injective first_view v e) (omega arith, omega arith)
    only (suc i) v e = absurd (some-ne-none v (sym e))

    -- a free lock
    pub opens : R (opening (0 ∷ 0 ∷ []) (lists ∷ []) first_view)
    opens = record {
      two_words = omega arith;
      state = record { one_marks = omega arith; few = omega arith; word = refl; alone = λ some_one. refl };
      nested = only;
      list_word = (omega arith, refl);
      readers = readers_of lists;
      writer = writer_of lists;
      clear = λ _. inr (inr (λ n h. absurd (subst (λ (l : Listed). Has n l.waiting) a h)));
      left = λ e. absurd (omega (arith, e));
      readers_match = matched.nobody_stands IsEntryOfReaders first_view (readers_of lists).entries (ap (λ (l : Listed). l.entries) a) (λ n f. never f.0);
      writer_matches = matched.nobody_stands IsEntryOfWriter first_view (writer_of lists).entries (ap (λ (l : Listed). l.entries) p) (λ n f. never f.0);
      unlisted = λ _. (ap (λ (l : Listed). l.waiting) a, ap (λ (l : Listed). l.waiting) p);
      home = λ _. (lists, refl, refl, refl);
      out = nobody_out;
    }

  module _ (s : State S View) (id : ℕ) (me : Me S View) (r : R s) (at : get_elem? s.views id ≡ some me.0) where
    abbrev x : ℕ
    x = get_or s.words 0 0

    abbrev y : ℕ
    y = get_or s.words 1 0

    abbrev after : View → List View
    after w = set s.views id w

    one_word : 0 < length s.words
    one_word = let t = r.two_words in omega arith

    mine : Nested me.0
    mine = r.nested id me.0 at

    its : (P : View → Type 0) (w : View) → P w → SomeSeat P (after w)
    its = own s.views id me.0 at

    -- what a step leaves of a seat while the lists stay where they are, and what one on the word 1 does
    abbrev LeavesLists : View → Type 0
    LeavesLists w = (w.has_lists ≡ me.0.has_lists) × (w.readers ≡ me.0.readers) × (w.writer ≡ me.0.writer) × (w.in_readers ≡ me.0.in_readers) × (w.in_writer ≡ me.0.in_writer) × (w.entry ≡ me.0.entry)

    abbrev Does : View → Type 0
    Does w = (w.marks ≡ me.0.marks) × (w.reads ≡ me.0.reads) × (w.writes ≡ me.0.writes)

    out_set : (w : View) → (w.has_lists ≡ true → (w.readers ≡ r.readers) × (w.writer ≡ r.writer)) → (i : ℕ) (v : View) → get_elem? (after w) i ≡ some v → v.has_lists ≡ true → (v.readers ≡ r.readers) × (v.writer ≡ r.writer)
    out_set w good i v e is = ⊎_elim (λ here. subst (λ (u : View). (u.readers ≡ r.readers) × (u.writer ≡ r.writer)) here.1 (good (ap (λ (u : View). u.has_lists) here.1 ∙ is))) (λ else. r.out i v else.1 is) (at_set s.views id i w v e)

    pub out_left : (w : View) → LeavesLists w → (i : ℕ) (v : View) → get_elem? (after w) i ≡ some v → v.has_lists ≡ true → (v.readers ≡ r.readers) × (v.writer ≡ r.writer)
    out_left w left = out_set w (λ is. let o = r.out id me.0 at (sym left.0 ∙ is) in (left.1 ∙ o.0, left.2 ∙ o.1))

    -- who stands in a list stays there
    pub readers_stand : (w : View) → LeavesLists w → Matched IsEntryOfReaders r.readers.entries (after w)
    readers_stand w left = matched.kept IsEntryOfReaders r.readers.entries s.views id me.0 at r.readers_match w (λ n f. (left.3 ∙ f.0, left.5 ∙ f.1)) (λ n f. (sym left.3 ∙ f.0, sym left.5 ∙ f.1))

    pub writer_stands : (w : View) → LeavesLists w → Matched IsEntryOfWriter r.writer.entries (after w)
    writer_stands w left = matched.kept IsEntryOfWriter r.writer.entries s.views id me.0 at r.writer_matches w (λ n f. (left.4 ∙ f.0, left.5 ∙ f.1)) (λ n f. (sym left.4 ∙ f.0, sym left.5 ∙ f.1))

    pub same : (f : View → Bool) (w : View) → f w ≡ f me.0 → number f (after w) ≡ number f s.views
    same f w e = let c = number-set f s.views id me.0 w at in let e' : weight (f w) ≡ weight (f me.0) = ap weight e in omega arith

    -- the state becomes n; what is known of the lists stays
    moved : (n : ℕ) (w : View) → IsState (set s.words 0 n) (after w) → Nested w → LeavesLists w → (n % 2 ≡ 0 → LosesNone OwesReaders IsFreshReader r.readers (after w)) → (n ≡ 1 → LosesNone TellsWriter IsFreshWriter r.writer (after w)) → R (stepped s 0 n id me.1 w keeps)
    moved n w state tidy left clear gone =
        let out' = same has_lists_out w left.0 in let one = r.list_word.0 in let is = r.list_word.1 in
        let here : get_or (set s.words 0 n) 0 0 ≡ n = get_or-set_same s.words 0 n 0 one_word in
        let there : get_or (set s.words 0 n) 1 0 ≡ y = get_or-set_other s.words 0 1 n 0 (λ q. omega arith) in record {
          two_words = subst (λ (z : ℕ). 1 < z) (sym (length-set s.words 0 n)) r.two_words;
          state = state;
          nested = nested_set s.views id w r.nested tidy;
          list_word = (omega arith, ap (λ k. k % 2) there ∙ is ∙ sym out');
          readers = r.readers;
          writer = r.writer;
          clear = λ e. clear (subst (λ k. k % 2 ≡ 0) here e);
          left = λ e. gone (sym here ∙ e);
          readers_match = readers_stand w left;
          writer_matches = writer_stands w left;
          unlisted = λ low. r.unlisted (subst SaysEmpty there low);
          home = λ absent. r.home (sym out' ∙ absent);
          out = out_left w left;
        }

    state_of : (w : View) (n : ℕ) → number marks_of (after w) ≤ 1 → number reads_of (after w) ≤ 1073741823 → n ≡ number marks_of (after w) + 2 * number reads_of (after w) → (0 < number writes_of (after w) → number reads_of (after w) ≡ 0) → IsState (set s.words 0 n) (after w)
    state_of w n one few is alone = record { one_marks = one; few = few; word = get_or-set_same s.words 0 n 0 one_word ∙ is; alone = alone }

    pub state_same : (words : List ℕ) (w : View) → get_or words 0 0 ≡ x → Does w → IsState words (after w)
    state_same words w is does =
        let ms = same marks_of w does.0 in let rs = same reads_of w does.1 in let ws = same writes_of w does.2 in
        let one = r.state.one_marks in let few = r.state.few in let word = r.state.word in
        record { one_marks = omega arith; few = omega arith; word = is ∙ (omega arith); alone = λ some_one. rs ∙ r.state.alone (omega arith) }

    tidy_same : (w : View) → Does w → LeavesLists w → Nested w
    tidy_same w does left = let a : weight w.marks ≡ weight me.0.marks = ap weight does.0 in let b : weight w.writes ≡ weight me.0.writes = ap weight does.2 in let c : weight w.in_writer ≡ weight me.0.in_writer = ap weight left.4 in let m = mine.0 in let k = mine.1 in (omega arith, omega arith)

    -- the state stays
    unmoved : (w : View) → LeavesLists w → Does w → (x % 2 ≡ 0 → LosesNone OwesReaders IsFreshReader r.readers (after w)) → (x ≡ 1 → LosesNone TellsWriter IsFreshWriter r.writer (after w)) → R (stepped s 0 x id me.1 w keeps)
    unmoved w left does = moved x w (state_same (set s.words 0 x) w (get_or-set_same s.words 0 x 0 one_word) does) (tidy_same w does left) left

    -- who has to notify and who is fresh stay
    none_lost : (O : View → Type 0) (P : ℕ → View → Type 0) (list : Listed) (w : View) → (O me.0 → O w) → ((n : ℕ) → P n me.0 → P n w) → LosesNone O P list s.views → LosesNone O P list (after w)
    none_lost O P list w tells fresh l = ⊎_elim (λ m. inl m) (λ b. inr (⊎_elim (λ c. inl (stays s.views id me.0 at O w tells c)) (λ all. inr (all_stay s.views id me.0 at P list.waiting w fresh all)) b)) l

    clear_as : (w : View) → (OwesReaders me.0 → OwesReaders w) → ((n : ℕ) → IsFreshReader n me.0 → IsFreshReader n w) → x % 2 ≡ 0 → LosesNone OwesReaders IsFreshReader r.readers (after w)
    clear_as w tells fresh e = none_lost OwesReaders IsFreshReader r.readers w tells fresh (r.clear e)

    pub left_as : (w : View) → (TellsWriter me.0 → TellsWriter w) → ((n : ℕ) → IsFreshWriter n me.0 → IsFreshWriter n w) → x ≡ 1 → LosesNone TellsWriter IsFreshWriter r.writer (after w)
    left_as w tells fresh e = none_lost TellsWriter IsFreshWriter r.writer w tells fresh (r.left e)

    -- ---- the state word
    pub finds : (n : ℕ) → R (stepped s 0 x id me.1 (having_found n me.0) keeps)
    finds n = let w : View = having_found n me.0 in unmoved w (refl, refl, refl, refl, refl, refl) (refl, refl, refl) (clear_as w (λ o. o) (λ k f. f)) (left_as w (λ o. o) (λ k f. f))

    -- a look that found the writer's bit set
    pub sees_writer : x % 2 ≡ 1 → me.0.in_writer ≡ false → R (stepped s 0 x id me.1 (saw_writer_of x me.0) keeps)
    sees_writer odd away = let w : View = saw_writer_of x me.0 in unmoved w (refl, refl, refl, refl, refl, refl) (refl, refl, refl) (λ e. absurd (omega (arith, e, odd))) (left_as w (λ o. o) (λ k f. never (sym away ∙ f.1.0)))

    -- one that found readers inside
    pub sees_readers : 1 < x → x % 2 ≡ 1 → R (stepped s 0 x id me.1 (saw_readers_of x me.0) keeps)
    sees_readers many odd = let w : View = saw_readers_of x me.0 in unmoved w (refl, refl, refl, refl, refl, refl) (refl, refl, refl) (λ e. absurd (omega (arith, e, odd))) (λ e. absurd (omega (arith, e, many)))

    pub bit_of : me.0.marks ≡ true → x % 2 ≡ 1
    bit_of is = let m' : weight (marks_of me.0) ≡ 1 = ap weight is in let m = number-at marks_of s.views id me.0 at in let one = r.state.one_marks in let word = r.state.word in omega arith

    pub enters : x % 2 ≡ 0 → x / 2 < 1073741823 → me.0.reads ≡ false → (n : ℕ) → R (stepped s 0 (x + 2) id me.1 (reading_of n me.0) keeps)
    enters even few not n =
        let w : View = reading_of n me.0 in
        let ms = same marks_of w refl in let ws = same writes_of w refl in let rs = number-set reads_of s.views id me.0 w at in
        let r' : weight (reads_of w) ≡ 1 = refl in let r0 : weight (reads_of me.0) ≡ 0 = ap weight not in
        let one = r.state.one_marks in let word = r.state.word in let le = writes_le s.views r.nested in
        moved (x + 2) w (state_of w (x + 2) (omega arith) (omega arith) (omega arith) (λ some_one. absurd (omega arith))) mine (refl, refl, refl, refl, refl, refl)
        (λ e. clear_as w (λ o. o) (λ k f. f) even) (λ e. absurd (omega (arith, e)))

    -- a reader goes
    module _ (does : me.0.reads ≡ true) where
      some_reads : 2 ≤ x
      some_reads = let r' : weight (reads_of me.0) ≡ 1 = ap weight does in let m = number-at reads_of s.views id me.0 at in let word = r.state.word in omega arith

      pub is_inside : 1 < x
      is_inside = let m = some_reads in omega arith

      down_two : (x + (2 ^ 64 - 2)) % 2 ^ 64 ≡ x - 2
      down_two = let m = some_reads in let one = r.state.one_marks in let few = r.state.few in let word = r.state.word in
          let small : (x + 18446744073709551614) % 18446744073709551616 ≡ x - 2 = omega arith in small

      goes : (w : View) → w.marks ≡ me.0.marks → w.reads ≡ false → w.writes ≡ me.0.writes → LeavesLists w → (x % 2 ≡ 0 → LosesNone OwesReaders IsFreshReader r.readers (after w)) → (x ≡ 3 → LosesNone TellsWriter IsFreshWriter r.writer (after w)) → R (stepped s 0 ((x + (2 ^ 64 - 2)) % 2 ^ 64) id me.1 w keeps)
      goes w m not wr left clear gone =
          let ms = same marks_of w m in let ws = same writes_of w wr in let rs = number-set reads_of s.views id me.0 w at in
          let r0 : weight (reads_of w) ≡ 0 = ap weight not in let r' : weight (reads_of me.0) ≡ 1 = ap weight does in
          let one = r.state.one_marks in let few = r.state.few in let word = r.state.word in let least = some_reads in let n : ℕ = (x + (2 ^ 64 - 2)) % 2 ^ 64 in let is : n ≡ x - 2 = down_two in
          let a : weight w.marks ≡ weight me.0.marks = ap weight m in let b : weight w.writes ≡ weight me.0.writes = ap weight wr in let c : weight w.in_writer ≡ weight me.0.in_writer = ap weight left.4 in let t0 = mine.0 in let t1 = mine.1 in
          moved n w (state_of w n (omega arith) (omega arith) (is ∙ (omega arith)) (λ some_one. let none' = r.state.alone (omega arith) in absurd (omega arith))) (omega arith, omega arith) left
          (λ e. clear (omega (arith, e, is, least))) (λ e. gone (omega (arith, e, is, least)))

      pub leaves_last : x ≡ 3 → R (stepped s 0 ((x + (2 ^ 64 - 2)) % 2 ^ 64) id me.1 (last_left_of x me.0) keeps)
      leaves_last three = let w : View = last_left_of x me.0 in goes w refl refl refl (refl, refl, refl, refl, refl, refl) (λ e. absurd (omega (arith, e, three))) (λ _. inr (inl (its TellsWriter w (inl refl))))

      pub leaves : x ≢ 3 → R (stepped s 0 ((x + (2 ^ 64 - 2)) % 2 ^ 64) id me.1 (left_of x me.0) keeps)
      leaves ne = let w : View = left_of x me.0 in goes w refl refl refl (refl, refl, refl, refl, refl, refl) (clear_as w (λ o. o) (λ k f. f)) (λ e. absurd (ne e))

    -- the seat writes, where nobody else is inside
    wins : number marks_of s.views ≡ weight me.0.marks → number reads_of s.views ≡ weight me.0.reads → R (stepped s 0 1 id me.1 (writing_of me.0) keeps)
    wins own_mark own_read =
        let w : View = writing_of me.0 in
        let ms = number-set marks_of s.views id me.0 w at in let rs = number-set reads_of s.views id me.0 w at in
        let m' : weight (marks_of w) ≡ 1 = refl in let r' : weight (reads_of w) ≡ 0 = refl in let l = weight_le me.0.in_writer in
        let m0 : weight (marks_of me.0) ≡ weight me.0.marks = refl in let r0 : weight (reads_of me.0) ≡ weight me.0.reads = refl in
        moved 1 w (state_of w 1 (omega arith) (omega arith) (omega arith) (λ _. omega arith)) (omega arith, l) (refl, refl, refl, refl, refl, refl) (λ e. absurd (omega (arith, e))) (λ _. inr (inl (its TellsWriter w (inr refl))))

    pub writes_free : x ≡ 0 → R (stepped s 0 1 id me.1 (writing_of me.0) keeps)
    writes_free free = let word = r.state.word in let a = number-at marks_of s.views id me.0 at in let b = number-at reads_of s.views id me.0 at in
        let m0 : weight (marks_of me.0) ≡ weight me.0.marks = refl in let r0 : weight (reads_of me.0) ≡ weight me.0.reads = refl in wins (omega arith) (omega arith)

    pub writes_alone : x ≡ 2 → me.0.reads ≡ true → R (stepped s 0 1 id me.1 (writing_of me.0) keeps)
    writes_alone two does = let word = r.state.word in let one = r.state.one_marks in let a = number-at marks_of s.views id me.0 at in let y' : weight me.0.reads ≡ 1 = ap weight does in
        let m0 : weight (marks_of me.0) ≡ weight me.0.marks = refl in wins (omega arith) (omega arith)

    pub writes_last : x ≡ 1 → me.0.marks ≡ true → R (stepped s 0 x id me.1 (writing_of me.0) keeps)
    writes_last bit is = let word = r.state.word in let one = r.state.one_marks in let b = number-at reads_of s.views id me.0 at in let m' : weight me.0.marks ≡ 1 = ap weight is in
        let r0 : weight (reads_of me.0) ≡ weight me.0.reads = refl in subst (λ n. R (stepped s 0 n id me.1 (writing_of me.0) keeps)) (sym bit) (wins (omega arith) (omega arith))

    -- the seat sets the bit, beside readers
    pub marks : x ≢ 0 → x % 2 ≡ 0 → R (stepped s 0 (x + 1) id me.1 (marking_of me.0) keeps)
    marks ne even =
        let w : View = marking_of me.0 in
        let ms = number-set marks_of s.views id me.0 w at in let rs = same reads_of w refl in let ws = same writes_of w refl in
        let m' : weight (marks_of w) ≡ 1 = refl in let least = number-at marks_of s.views id me.0 at in let one = r.state.one_marks in let few = r.state.few in let word = r.state.word in let le = writes_le s.views r.nested in
        let l = weight_le me.0.in_writer in let l' = weight_le me.0.writes in
        moved (x + 1) w (state_of w (x + 1) (omega arith) (omega arith) (omega arith) (λ some_one. absurd (omega arith))) (l', l) (refl, refl, refl, refl, refl, refl) (λ e. absurd (omega (arith, e, even))) (λ e. absurd (ne (omega (arith, e))))

    pub upgrades : x % 2 ≡ 0 → 2 < x → me.0.reads ≡ true → R (stepped s 0 (x - 1) id me.1 (upgraded_of me.0) keeps)
    upgrades even many does =
        let w : View = upgraded_of me.0 in
        let ms = number-set marks_of s.views id me.0 w at in let rs = number-set reads_of s.views id me.0 w at in let ws = same writes_of w refl in
        let m' : weight (marks_of w) ≡ 1 = refl in let r' : weight (reads_of w) ≡ 0 = refl in let y' : weight (reads_of me.0) ≡ 1 = ap weight does in
        let least = number-at marks_of s.views id me.0 at in let one = r.state.one_marks in let few = r.state.few in let word = r.state.word in let le = writes_le s.views r.nested in
        let l = weight_le me.0.in_writer in let l' = weight_le me.0.writes in
        moved (x - 1) w (state_of w (x - 1) (omega arith) (omega arith) (omega arith) (λ some_one. absurd (omega arith))) (l', l) (refl, refl, refl, refl, refl, refl) (λ e. absurd (omega (arith, e, even, many))) (λ e. absurd (omega (arith, e, many)))

    -- the seat reads in place of writing
    pub downs : me.0.writes ≡ true → me.0.in_writer ≡ false → R (stepped s 0 ((x + 1) % 2 ^ 64) id me.1 (down_of me.0) keeps)
    downs does away =
        let w : View = down_of me.0 in
        let ms = number-set marks_of s.views id me.0 w at in let rs = number-set reads_of s.views id me.0 w at in let ws = number-set writes_of s.views id me.0 w at in
        let m' : weight (marks_of w) ≡ 0 = refl in let r' : weight (reads_of w) ≡ 1 = refl in let w' : weight (writes_of w) ≡ 0 = refl in let y' : weight (writes_of me.0) ≡ 1 = ap weight does in
        let y'' : weight me.0.writes ≡ 1 = ap weight does in let t = mine.0 in let top = weight_le me.0.marks in let m0 : weight (marks_of me.0) ≡ weight me.0.marks = refl in
        let one = r.state.one_marks in let word = r.state.word in let le = writes_le s.views r.nested in let a = number-at writes_of s.views id me.0 at in let none' = r.state.alone (omega arith) in
        let b = number-at reads_of s.views id me.0 at in
        let off : weight me.0.in_writer ≡ 0 = ap weight away in
        let n : ℕ = (x + 1) % 2 ^ 64 in let is : (x + 1) % 18446744073709551616 ≡ 2 = omega arith in
        moved n w (state_of w n (omega arith) (omega arith) (is ∙ (omega arith)) (λ some_one. absurd (omega arith))) (omega arith, omega arith) (refl, refl, refl, refl, refl, refl)
        (λ _. inr (inl (its OwesReaders w refl))) (λ e. absurd (omega (arith, e, is)))

    -- the seat clears the bit
    pub unmarks : me.0.marks ≡ true → me.0.in_writer ≡ false → R (stepped s 0 ((x + (2 ^ 64 - 1)) % 2 ^ 64) id me.1 (unmarked_of me.0) keeps)
    unmarks does away =
        let w : View = unmarked_of me.0 in
        let ms = number-set marks_of s.views id me.0 w at in let rs = same reads_of w refl in
        let m' : weight (marks_of w) ≡ 0 = refl in let y' : weight (marks_of me.0) ≡ 1 = ap weight does in
        let one = r.state.one_marks in let few = r.state.few in let word = r.state.word in
        let off : weight me.0.in_writer ≡ 0 = ap weight away in
        let tidy : Nested w = (omega arith, omega arith) in let le = writes_le (after w) (nested_set s.views id w r.nested tidy) in
        let n : ℕ = (x + (2 ^ 64 - 1)) % 2 ^ 64 in let is : (x + 18446744073709551615) % 18446744073709551616 ≡ x - 1 = omega arith in
        moved n w (state_of w n (omega arith) (omega arith) (is ∙ (omega arith)) (λ some_one. absurd (omega arith))) tidy (refl, refl, refl, refl, refl, refl)
        (λ _. inr (inl (its OwesReaders w refl))) (λ e. let odd = bit_of does in absurd (omega (arith, e, is, odd)))

    -- ---- the word of the lists
    beside : (n : ℕ) → get_or (set s.words 1 n) 0 0 ≡ x
    beside n = get_or-set_other s.words 1 0 n 0 (λ q. omega arith)

    at_list : (n : ℕ) (w : View) → n % 2 ≡ y % 2 → (SaysEmpty n → SaysEmpty y) → LeavesLists w → Does w → (x % 2 ≡ 0 → LosesNone OwesReaders IsFreshReader r.readers (after w)) → (x ≡ 1 → LosesNone TellsWriter IsFreshWriter r.writer (after w)) → R (stepped s 1 n id me.1 w keeps)
    at_list n w parity below left does clear gone =
        let out' = same has_lists_out w left.0 in let one = r.list_word.0 in let is = r.list_word.1 in
        let here : get_or (set s.words 1 n) 1 0 ≡ n = get_or-set_same s.words 1 n 0 r.two_words in let there = beside n in record {
          two_words = subst (λ (z : ℕ). 1 < z) (sym (length-set s.words 1 n)) r.two_words;
          state = state_same (set s.words 1 n) w there does;
          nested = nested_set s.views id w r.nested (tidy_same w does left);
          list_word = (omega arith, ap (λ k. k % 2) here ∙ parity ∙ is ∙ sym out');
          readers = r.readers;
          writer = r.writer;
          clear = λ e. clear (subst (λ k. k % 2 ≡ 0) there e);
          left = λ e. gone (sym there ∙ e);
          readers_match = readers_stand w left;
          writer_matches = writer_stands w left;
          unlisted = λ low. r.unlisted (below (subst SaysEmpty here low));
          home = λ absent. r.home (sym out' ∙ absent);
          out = out_left w left;
        }

    -- the lists' word is read, or set by another that finds them out
    pub busy : (n : ℕ) → n % 2 ≡ y % 2 → (SaysEmpty n → SaysEmpty y) → R (stepped s 1 n id me.1 me.0 keeps)
    busy n parity below = let w : View = me.0 in at_list n w parity below (refl, refl, refl, refl, refl, refl) (refl, refl, refl) (clear_as w (λ o. o) (λ k f. f)) (left_as w (λ o. o) (λ k f. f))

    -- the lists are empty
    pub eases : SaysEmpty y → R (stepped s 1 y id me.1 (eased_of me.0) keeps)
    eases low = let z = r.unlisted low in at_list y (eased_of me.0) refl (λ l. l) (refl, refl, refl, refl, refl, refl) (refl, refl, refl) (λ _. inr (inr (λ n h. absurd (subst (Has n) z.0 h)))) (λ _. inr (inr (λ n h. absurd (subst (Has n) z.1 h))))

    abbrev pub listing : S → View
    listing lists = listing_of (readers_of lists) (writer_of lists) me.0

    -- the seat takes the lists out
    pub grabbed : y % 2 ≡ 0 → (n : ℕ) → n % 2 ≡ 1 → (SaysEmpty n → SaysEmpty y) → (lists : S) × (get_elem? s.homes 0 ≡ some (some lists)) × R (stepped s 1 n id me.1 (listing lists) (takes 0 lists))
    grabbed even n odd below = let h = r.home (sym r.list_word.1 ∙ even) in let w : View = listing h.0 in
        let c = number-set has_lists_out s.views id me.0 w at in let c' : weight (has_lists_out w) ≡ 1 = refl in
        let m = number-at has_lists_out s.views id me.0 at in let is = r.list_word.1 in
        let one : number has_lists_out (after w) ≡ 1 = omega arith in
        let here : get_or (set s.words 1 n) 1 0 ≡ n = get_or-set_same s.words 1 n 0 r.two_words in let there = beside n in (
          h.0,
          h.1,
          record {
            two_words = subst (λ (z : ℕ). 1 < z) (sym (length-set s.words 1 n)) r.two_words;
            state = state_same (set s.words 1 n) w there (refl, refl, refl);
            nested = nested_set s.views id w r.nested mine;
            list_word = (omega arith, ap (λ k. k % 2) here ∙ odd ∙ sym one);
            readers = r.readers;
            writer = r.writer;
            clear = λ e. clear_as w (λ o. o) (λ k f. f) (subst (λ k. k % 2 ≡ 0) there e);
            left = λ e. left_as w (λ o. o) (λ k f. f) (sym there ∙ e);
            readers_match = matched.kept IsEntryOfReaders r.readers.entries s.views id me.0 at r.readers_match w (λ k f. f) (λ k f. f);
            writer_matches = matched.kept IsEntryOfWriter r.writer.entries s.views id me.0 at r.writer_matches w (λ k f. f) (λ k f. f);
            unlisted = λ low. r.unlisted (below (subst SaysEmpty here low));
            home = λ absent. absurd (omega arith);
            out = out_set w (λ _. (h.2, h.3));
          },
        )

    -- a list that becomes another, of those who have to notify it and of those who stand in it
    module _ (Tells : View → Type 0) (stands : View → Bool) (old new : Listed) (w : View) where
      abbrev IsOf : ℕ → View → Type 0
      IsOf n v = (stands v ≡ true) × (v.entry ≡ n)

      abbrev IsFresh : ℕ → View → Type 0
      IsFresh n v = (v.fresh ≡ true) × IsOf n v

      -- no wake-up is lost of it, and its entries and seats are matched, if it was so before
      abbrev Turns : Type 0
      Turns = (LosesNone Tells IsFresh old s.views → LosesNone Tells IsFresh new (after w)) × (Matched IsOf old.entries s.views → Matched IsOf new.entries (after w))

      -- one is notified, or the seat owes, or nobody waits
      abbrev Ends : Type 0
      Ends = (0 < new.notified) ⊎ (Tells w ⊎ NoneWaits new.waiting)

      settled : IsSettled new → Ends
      settled i = ⊎_elim (λ a. inl a) (λ none. inr (inr none)) i

      ends : Ends → LosesNone Tells IsFresh new (after w)
      ends e = ⊎_elim (λ m. inl m) (λ b. inr (⊎_elim (λ o. inl (its Tells w o)) (λ none. inr (λ k h. absurd (none k h))) b)) e

      -- whoever waits now did before, and is fresh if it was; or it is this seat, and is fresh
      abbrev Waits : Type 0
      Waits = (k : ℕ) → Has k new.waiting → (Has k old.waiting × (IsFresh k me.0 → IsFresh k w)) ⊎ IsFresh k w

      turned : (0 < old.notified → Ends) → (Tells me.0 → Ends) → Waits → LosesNone Tells IsFresh old s.views → LosesNone Tells IsFresh new (after w)
      turned told owed waits l = ⊎_elim (λ m. ends (told m))
          (λ b. ⊎_elim (λ c. ⊎_elim (λ o. ends (owed o)) (λ other. inr (inl (other w))) (apart s.views id me.0 at Tells c))
          (λ fresh. inr (inr (λ k h. ⊎_elim (λ t. stays s.views id me.0 at (IsFresh k) w t.1 (fresh k t.0)) (λ p. its (IsFresh k) w p) (waits k h)))) b) l

      with_entries : (entries : List ℕ) → new.entries ≡ entries → Matched IsOf entries (after w) → Matched IsOf new.entries (after w)
      with_entries entries is = subst (λ l. Matched IsOf l (after w)) (sym is)

      -- the seat stands in it if it did, with the same entry, and is fresh if it was
      abbrev StaysIn : Type 0
      StaysIn = (stands w ≡ stands me.0) × (stands me.0 ≡ true → (w.entry ≡ me.0.entry) × (me.0.fresh ≡ true → w.fresh ≡ true))

      same_seat : StaysIn → new.entries ≡ old.entries → Matched IsOf old.entries s.views → Matched IsOf new.entries (after w)
      same_seat is same m = with_entries old.entries same
          (matched.kept IsOf old.entries s.views id me.0 at m w (λ k f. (is.0 ∙ f.0, (is.1 f.0).0 ∙ f.1)) (λ k f. let did = sym is.0 ∙ f.0 in (did, sym (is.1 did).0 ∙ f.1)))

      still_fresh : StaysIn → (k : ℕ) → IsFresh k me.0 → IsFresh k w
      still_fresh is k f = let s' = is.1 f.1.0 in (s'.1 f.0, (is.0 ∙ f.1.0, s'.0 ∙ f.1.1))

      -- the list stays, as far as the rule asks
      list_stays : Stays old new → (Tells me.0 → Tells w) → StaysIn → Turns
      list_stays l tells is = (turned (λ m. settled (l.told m)) (λ o. inr (inl (tells o))) (λ k h. inl (l.fewer k h, still_fresh is k)), same_seat is l.entries)

      -- the seat has notified one
      list_pays : Pays old new → StaysIn → Turns
      list_pays l is = (turned (λ _. settled l.settled) (λ _. settled l.settled) (λ k h. inl (l.fewer k h, still_fresh is k)), same_seat is l.entries)

      -- the seat has joined it
      list_joins : (k : ℕ) → Joins k old new → (Tells me.0 → Tells w) → stands me.0 ≡ false → IsFresh k w → Turns
      list_joins k l tells away is = (
        turned (λ m. inl (let more = l.notified in omega arith)) (λ o. inr (inl (tells o))) (λ n h. ⊎_elim (λ was. inl (was, λ f. never (sym away ∙ f.1.0))) (λ e. inr (is.0, (is.1.0, is.1.1 ∙ sym e))) (l.joined n h)),
        λ m. with_entries (old.entries ++ k ∷ []) l.entries (matched.joined IsOf old.entries s.views id me.0 at m k w (λ n f. never (sym away ∙ f.0)) is.1 (λ n f. sym f.1 ∙ is.1.1) l.fresh),
      )

      -- its entry has left it
      list_leaves : Leaves me.0.entry old new → (0 < old.notified → Ends) → (Tells me.0 → Ends) → stands me.0 ≡ true → stands w ≡ false → Turns
      list_leaves l told owed was gone = (
        turned told owed (λ n h. let t = l.left n h in inl (t.0, λ f. absurd (t.1 (sym f.1.1)))),
        λ m. with_entries (all_but me.0.entry old.entries) l.entries (matched.left IsOf old.entries s.views id me.0 at m me.0.entry w (was, refl) (λ n f. sym f.1) (λ n f. never (sym gone ∙ f.0))),
      )

    -- the seat gives the lists back, and has this view then
    module _ (lists : S) (n : ℕ) (is_out : me.0.has_lists ≡ true) (has : me.1 ≡ (0, lists) ∷ rest me.1) (wide : 0 < length s.homes) (four : n % 4 ≡ 0) (low : SaysEmpty n → ((readers_of lists).waiting ≡ []) × ((writer_of lists).waiting ≡ [])) where
      abbrev new_readers : Listed
      new_readers = readers_of lists

      abbrev new_writer : Listed
      new_writer = writer_of lists

      abbrev ReadersTurn : View → Type 0
      ReadersTurn w = Turns OwesReaders in_readers me.0.readers new_readers w

      abbrev WriterTurns : View → Type 0
      WriterTurns w = Turns TellsWriter in_writer me.0.writer new_writer w

      returned : (w : View) → w.has_lists ≡ false → Does w → Nested w → ReadersTurn w → WriterTurns w → R (stepped s 1 n id me.1 w gives)
      returned w off does tidy readers writer =
          let c = number-set has_lists_out s.views id me.0 w at in let c' : weight (has_lists_out w) ≡ 0 = ap weight off in let l : weight (has_lists_out me.0) ≡ 1 = ap weight is_out in
          let one = r.list_word.0 in let known = r.out id me.0 at is_out in
          let none_out : number has_lists_out (after w) ≡ 0 = omega arith in
          let here : get_or (set s.words 1 n) 1 0 ≡ n = get_or-set_same s.words 1 n 0 r.two_words in let there = beside n in record {
            two_words = subst (λ (z : ℕ). 1 < z) (sym (length-set s.words 1 n)) r.two_words;
            state = state_same (set s.words 1 n) w there does;
            nested = nested_set s.views id w r.nested tidy;
            list_word = (omega arith, ap (λ k. k % 2) here ∙ (omega arith));
            readers = new_readers;
            writer = new_writer;
            clear = λ e. readers.0 (subst (λ l'. LosesNone OwesReaders IsFreshReader l' s.views) (sym known.0) (r.clear (subst (λ k. k % 2 ≡ 0) there e)));
            left = λ e. writer.0 (subst (λ l'. LosesNone TellsWriter IsFreshWriter l' s.views) (sym known.1) (r.left (sym there ∙ e)));
            readers_match = readers.1 (subst (λ (l' : Listed). Matched IsEntryOfReaders l'.entries s.views) (sym known.0) r.readers_match);
            writer_matches = writer.1 (subst (λ (l' : Listed). Matched IsEntryOfWriter l'.entries s.views) (sym known.1) r.writer_matches);
            unlisted = λ below. low (subst SaysEmpty here below);
            home = λ _. (lists, subst (λ (t : List (ℕ × S)). get_elem? (put_back s.homes t) 0 ≡ some (some lists)) (sym has) (set_here s.homes 0 (some lists) wide), refl, refl);
            out = λ i v e is. let m = number-at has_lists_out (after w) i v e in let q : weight (has_lists_out v) ≡ 1 = ap weight is in absurd (omega arith);
          }

      module _ (w : View) where
        readers_stay : Stays me.0.readers new_readers → (OwesReaders me.0 → OwesReaders w) → StaysIn OwesReaders in_readers me.0.readers new_readers w → ReadersTurn w
        readers_stay = list_stays OwesReaders in_readers me.0.readers new_readers w

        writer_stays : Stays me.0.writer new_writer → (TellsWriter me.0 → TellsWriter w) → StaysIn TellsWriter in_writer me.0.writer new_writer w → WriterTurns w
        writer_stays = list_stays TellsWriter in_writer me.0.writer new_writer w

        readers_leave : Leaves me.0.entry me.0.readers new_readers → (0 < me.0.readers.notified → Ends OwesReaders in_readers me.0.readers new_readers w) → (OwesReaders me.0 → OwesReaders w) → me.0.in_readers ≡ true → w.in_readers ≡ false → ReadersTurn w
        readers_leave l told owed = list_leaves OwesReaders in_readers me.0.readers new_readers w l told (λ o. inr (inl (owed o)))

        writer_leaves : Leaves me.0.entry me.0.writer new_writer → (0 < me.0.writer.notified → Ends TellsWriter in_writer me.0.writer new_writer w) → (TellsWriter me.0 → TellsWriter w) → me.0.in_writer ≡ true → w.in_writer ≡ false → WriterTurns w
        writer_leaves l told owed = list_leaves TellsWriter in_writer me.0.writer new_writer w l told (λ o. inr (inl (owed o)))

      -- its entry has joined
      pub joins_readers : (k : ℕ) → Joins k me.0.readers new_readers → Stays me.0.writer new_writer → me.0.in_readers ≡ false → me.0.in_writer ≡ false → R (stepped s 1 n id me.1 (joined_readers_of k me.0) gives)
      joins_readers k readers writer away off = let w : View = joined_readers_of k me.0 in
          returned w refl (refl, refl, refl) mine
          (list_joins OwesReaders in_readers me.0.readers new_readers w k readers (λ o. o) away (refl, (refl, refl)))
          (writer_stays w writer (λ o. o) (refl, λ is. never (sym off ∙ is)))

      pub joins_writer : (k : ℕ) → Stays me.0.readers new_readers → Joins k me.0.writer new_writer → me.0.in_readers ≡ false → me.0.in_writer ≡ false → me.0.marks ≡ true → R (stepped s 1 n id me.1 (joined_writer_of k me.0) gives)
      joins_writer k readers writer away off is = let w : View = joined_writer_of k me.0 in
          let m' : weight me.0.marks ≡ 1 = ap weight is in let t = mine.0 in
          returned w refl (refl, refl, refl) (t, omega arith)
          (readers_stay w readers (λ o. o) (refl, λ stood. never (sym away ∙ stood)))
          (list_joins TellsWriter in_writer me.0.writer new_writer w k writer (λ o. o) off (refl, (refl, refl)))

      -- its entry was notified, and has left: it owes
      pub hears_reader : Leaves me.0.entry me.0.readers new_readers → Stays me.0.writer new_writer → me.0.in_readers ≡ true → R (stepped s 1 n id me.1 (told_reader_of me.0) gives)
      hears_reader readers writer was = let w : View = told_reader_of me.0 in
          returned w refl (refl, refl, refl) mine (readers_leave w readers (λ _. inr (inl refl)) (λ _. refl) was refl) (writer_stays w writer (λ o. o) (refl, λ _. (refl, λ f. f)))

      pub hears_writer : Stays me.0.readers new_readers → Leaves me.0.entry me.0.writer new_writer → me.0.in_writer ≡ true → R (stepped s 1 n id me.1 (told_writer_of me.0) gives)
      hears_writer readers writer was = let w : View = told_writer_of me.0 in let t = mine.0 in
          returned w refl (refl, refl, refl) (t, omega arith) (readers_stay w readers (λ o. o) (refl, λ _. (refl, λ f. f))) (writer_leaves w writer (λ _. inr (inl (inl refl))) (λ _. inl refl) was refl)

      -- its entry has left, and what it was told has gone on
      pub leaves_readers : HandsOn me.0.entry me.0.readers new_readers → Stays me.0.writer new_writer → me.0.in_readers ≡ true → me.0.in_writer ≡ false → R (stepped s 1 n id me.1 (gone_reader_of me.0) gives)
      leaves_readers readers writer was off = let w : View = gone_reader_of me.0 in
          returned w refl (refl, refl, refl) mine
          (readers_leave w readers.leaves (λ m. settled OwesReaders in_readers me.0.readers new_readers w (readers.told m)) (λ o. o) was refl)
          (writer_stays w writer (λ o. o) (refl, λ is. never (sym off ∙ is)))

      pub leaves_writer : Stays me.0.readers new_readers → HandsOn me.0.entry me.0.writer new_writer → me.0.in_writer ≡ true → me.0.in_readers ≡ false → R (stepped s 1 n id me.1 (gone_writer_of me.0) gives)
      leaves_writer readers writer was away = let w : View = gone_writer_of me.0 in let t = mine.0 in
          returned w refl (refl, refl, refl) (t, omega arith)
          (readers_stay w readers (λ o. o) (refl, λ is. never (sym away ∙ is)))
          (writer_leaves w writer.leaves (λ m. settled TellsWriter in_writer me.0.writer new_writer w (writer.told m)) (λ o. o) was refl)

      -- it has notified one
      pub pays_readers : Pays me.0.readers new_readers → Stays me.0.writer new_writer → R (stepped s 1 n id me.1 (paid_readers_of me.0) gives)
      pays_readers readers writer = let w : View = paid_readers_of me.0 in
          returned w refl (refl, refl, refl) mine (list_pays OwesReaders in_readers me.0.readers new_readers w readers (refl, λ _. (refl, λ f. f))) (writer_stays w writer (λ o. o) (refl, λ _. (refl, λ f. f)))

      pub pays_writer : Stays me.0.readers new_readers → Pays me.0.writer new_writer → R (stepped s 1 n id me.1 (paid_writer_of me.0) gives)
      pays_writer readers writer = let w : View = paid_writer_of me.0 in
          returned w refl (refl, refl, refl) mine (readers_stay w readers (λ o. o) (refl, λ _. (refl, λ f. f))) (list_pays TellsWriter in_writer me.0.writer new_writer w writer (refl, λ _. (refl, λ f. f)))

      -- nothing has changed
      pub remains : Stays me.0.readers new_readers → Stays me.0.writer new_writer → R (stepped s 1 n id me.1 (back me.0) gives)
      remains readers writer = let w : View = back me.0 in
          returned w refl (refl, refl, refl) mine (readers_stay w readers (λ o. o) (refl, λ _. (refl, λ f. f))) (writer_stays w writer (λ o. o) (refl, λ _. (refl, λ f. f)))

-- ---- what the rule says of two seats: nobody reads or writes beside who writes
pub alone_with : (S : Type 0) (readers_of writer_of : S → Listed) (s : State S View) → Ruled readers_of writer_of s → (i j : ℕ) (v w : View) → i ≢ j → get_elem? s.views i ≡ some v → get_elem? s.views j ≡ some w → v.writes ≡ true → (w.reads ≡ false) × (w.writes ≡ false)
alone_with S readers_of writer_of s r i j v w apart here there writes = let vs : List View = s.views in
    let v' : weight v.writes ≡ 1 = ap weight writes in let a = number-at writes_of vs i v here in let v0 : weight (writes_of v) ≡ weight v.writes = refl in let clear = r.state.alone (omega arith) in let b = number-at reads_of vs j w there in
    let one = r.state.one_marks in let le = writes_le vs r.nested in
    let u : View = record v { writes = false } in let ws = number-set writes_of vs i v u here in let u' : weight (writes_of u) ≡ 0 = refl in let still_there : get_elem? (set vs i u) j ≡ some w = set_else vs i j u (λ e. apart (sym e)) ∙ there in
    let c = number-at writes_of (set vs i u) j w still_there in let w0 : weight (writes_of w) ≡ weight w.writes = refl in let r0 : weight (reads_of w) ≡ weight w.reads = refl in (off w.reads (omega arith), off w.writes (omega arith))
  where
    off : (b : Bool) → weight b ≡ 0 → b ≡ false
    off true e = absurd (omega arith)
    off false e = refl
