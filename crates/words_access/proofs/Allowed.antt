-- Each step on the table keeps its rule: as the table asks it of a call.
use Rattle.std.proofs.Common.{◌≡◌, ℕ, ◌+◌, ◌-◌, ◌/◌, ◌%◌, ◌^◌, ◌<◌, eqb, bit_or, lt_of_not-le, true, false, List, [], ◌∷◌, ◌++◌, get_or, sym, refl, ap, ◌∙◌, subst, arith, eq-eqb, ne_eqb, ⊎_elim, inl, inr}
use mathlib.Core.Logic.{dite}
use native.Mathlib.Decide.{dec_le, ℕ_discrete}
use prog.Atomic.{either}
use Rattle.atomic_table.specs.Table.{State, Me, keeps, takes, gives, stepped, rest, Enters, Allows}
use Rattle.atomic_table.proofs.Lists.{at_snoc}
use Rattle.words_base.specs.Waiting.{last_of}
use Rattle.words_base.proofs.Sums.{number-none}
use Rattle.words_base.proofs.Exchanges.{exchanged}
use Rattle.words_base.proofs.Matched as matched
use Rattle.words_base.specs.Lists.{Listed}
use Rattle.words_access.specs.Rule.{first_view, marks_of, reads_of, writes_of, has_lists_out, Nested, Ruled, IsEntryOfReaders, IsEntryOfWriter, LosesNone}
use Rattle.words_access.specs.Seats.{having_found, saw_writer_of, saw_readers_of, reading_of, left_of, last_left_of, writing_of, marking_of, upgraded_of, down_of, unmarked_of, eased_of, listing_of, back, joined_readers_of, joined_writer_of, told_reader_of, told_writer_of, gone_reader_of, gone_writer_of, paid_readers_of, paid_writer_of}
use Rattle.words_access.specs.Steps.{Kept, Looked, LookedLeft, Entered, Upgraded, Won, Raised, Marked, Left, Peeked, Grabbed, CanJoinReaders, CanJoinWriter, CanHearReader, CanHearWriter, CanLeaveReaders, CanLeaveWriter, CanPayReaders, CanPayWriter, CanStay}
use Rattle.words_access.specs.declared.view.View.{View}
use Rattle.words_access.proofs.Flags.{never, SetsLow, or_odd, or_even}
use Rattle.words_access.proofs.Holding.{joined_last}
use Rattle.words_base.proofs.Views.{some-longer}
use Rattle.words_access.proofs.Keeps.{finds, sees_writer, sees_readers, bit_of, enters, is_inside, leaves_last, leaves, writes_free, writes_alone, writes_last, marks, upgrades, downs, unmarks, busy, eases, grabbed, joins_readers, joins_writer, hears_reader, hears_writer, leaves_readers, leaves_writer, pays_readers, pays_writer, remains}

module _ (S : Type 0) (readers_of writer_of : S → Listed) where
  abbrev R : State S View → Type 0
  R = Ruled readers_of writer_of

  module _ (slots id : ℕ) (me : Me S View) where
    pub looked : me.0.in_writer ≡ false → Allows R slots id me 0 (λ n. n) (λ n m'. Looked me n m')
    looked away s r _ at _ = let n : ℕ = get_or s.words 0 0 in dite (ℕ_discrete (n % 2) 1)
        (λ odd. (saw_writer_of n me.0, keeps, tt, sees_writer S readers_of writer_of s id me r at odd away, ((λ _. refl), λ even. absurd (omega (arith, even, odd)))))
        (λ ne. (having_found n me.0, keeps, tt, finds S readers_of writer_of s id me r at n, ((λ odd. absurd (ne odd)), λ _. refl)))

    pub looked_left : me.0.marks ≡ true → Allows R slots id me 0 (λ n. n) (λ n m'. LookedLeft me n m')
    looked_left is s r _ at _ = let n : ℕ = get_or s.words 0 0 in let odd : n % 2 ≡ 1 = bit_of S readers_of writer_of s id me r at is in dite (ℕ_discrete n 1)
        (λ bit. (writing_of me.0, keeps, tt, writes_last S readers_of writer_of s id me r at bit is, ((λ _. refl), λ other. absurd (other bit))))
        (λ other. let many : 1 < n = omega (arith, odd, other) in (saw_readers_of n me.0, keeps, tt, sees_readers S readers_of writer_of s id me r at many odd, ((λ bit. absurd (other bit)), λ _. (many, refl))))

    pub entered : (old new : ℕ) → old % 2 ≡ 0 → old / 2 < 1073741823 → new ≡ old + 2 → me.0.reads ≡ false → Allows R slots id me 0 (λ x. either (eqb x old) new x) (λ n m'. Entered old me n m')
    entered old new even few two not = exchanged R slots id me 0 old new (reading_of old me.0) (λ n. having_found n me.0)
        (λ s r at hit. subst (λ n. R (stepped s 0 n id me.1 (reading_of old me.0) keeps)) (ap (λ n. n + 2) hit ∙ sym two) (enters S readers_of writer_of s id me r at (subst (λ n. n % 2 ≡ 0) (sym hit) even) (subst (λ n. n / 2 < 1073741823) (sym hit) few) not old))
        (λ s r at. finds S readers_of writer_of s id me r at (get_or s.words 0 0))

    pub left : me.0.reads ≡ true → Allows R slots id me 0 (λ n. (n + (2 ^ 64 - 2)) % 2 ^ 64) (λ n m'. Left me n m')
    left is s r _ at _ = let n : ℕ = get_or s.words 0 0 in let inside : 1 < n = is_inside S readers_of writer_of s id me r at is in dite (ℕ_discrete n 3)
        (λ three. (last_left_of n me.0, keeps, tt, leaves_last S readers_of writer_of s id me r at is three, (inside, (λ _. refl), λ ne. absurd (ne three))))
        (λ ne. (left_of n me.0, keeps, tt, leaves S readers_of writer_of s id me r at is ne, (inside, (λ three. absurd (ne three)), λ _. refl)))

    pub marked : Allows R slots id me 0 (λ n. bit_or n 1) (λ n m'. Marked me n m')
    marked s r _ at _ = let n : ℕ = get_or s.words 0 0 in dite (ℕ_discrete (n % 2) 1)
        (λ odd. (
          having_found n me.0,
          keeps,
          tt,
          subst (λ k. R (stepped s 0 k id me.1 (having_found n me.0) keeps)) (sym (or_odd n odd)) (finds S readers_of writer_of s id me r at n),
          ((λ free. absurd (omega (arith, odd, free))), (λ _ even. absurd (omega (arith, odd, even))), λ _. refl),
        ))
        (λ not. let even : n % 2 ≡ 0 = omega (arith, not) in dite (ℕ_discrete n 0)
        (λ free. (
          writing_of me.0,
          keeps,
          tt,
          subst (λ k. R (stepped s 0 k id me.1 (writing_of me.0) keeps)) (ap (λ k. k + 1) (sym free) ∙ sym (or_even n even)) (writes_free S readers_of writer_of s id me r at free),
          ((λ _. refl), (λ ne _. absurd (ne free)), λ odd. absurd (not odd)),
        ))
        (λ ne. (
          marking_of me.0,
          keeps,
          tt,
          subst (λ k. R (stepped s 0 k id me.1 (marking_of me.0) keeps)) (sym (or_even n even)) (marks S readers_of writer_of s id me r at ne even),
          ((λ free. absurd (ne free)), (λ _ _. refl), λ odd. absurd (not odd)),
        )))

    pub tries_write : Allows R slots id me 0 (λ x. either (eqb x 0) 1 x) (λ n m'. Won 0 me n m')
    tries_write = exchanged R slots id me 0 0 1 (writing_of me.0) (λ n. having_found n me.0) (λ s r at hit. writes_free S readers_of writer_of s id me r at hit) (λ s r at. finds S readers_of writer_of s id me r at (get_or s.words 0 0))

    pub tries_upgrade : me.0.reads ≡ true → Allows R slots id me 0 (λ x. either (eqb x 2) 1 x) (λ n m'. Raised me n m')
    tries_upgrade does s r _ at _ = let n : ℕ = get_or s.words 0 0 in let inside : 1 < n = is_inside S readers_of writer_of s id me r at does in dite (ℕ_discrete n 2)
        (λ alone. (writing_of me.0, keeps, tt, subst (λ b. R (stepped s 0 (either b 1 n) id me.1 (writing_of me.0) keeps)) (sym (eq-eqb n 2 alone)) (writes_alone S readers_of writer_of s id me r at alone does), ((λ _. refl), λ other. absurd (other alone))))
        (λ other. let many : 2 < n = omega (arith, inside, other) in (having_found n me.0, keeps, tt, subst (λ b. R (stepped s 0 (either b 1 n) id me.1 (having_found n me.0) keeps)) (sym (ne_eqb n 2 other)) (finds S readers_of writer_of s id me r at n), ((λ alone. absurd (other alone)), λ _. (many, refl))))

    pub upgraded : (old new : ℕ) → old % 2 ≡ 0 → 2 < old → new ≡ old - 1 → me.0.reads ≡ true → Allows R slots id me 0 (λ x. either (eqb x old) new x) (λ n m'. Upgraded old me n m')
    upgraded old new even many one does = exchanged R slots id me 0 old new (upgraded_of me.0) (λ n. having_found n me.0)
        (λ s r at hit. subst (λ n. R (stepped s 0 n id me.1 (upgraded_of me.0) keeps)) (ap (λ n. n - 1) hit ∙ sym one) (upgrades S readers_of writer_of s id me r at (subst (λ n. n % 2 ≡ 0) (sym hit) even) (subst (λ n. 2 < n) (sym hit) many) does))
        (λ s r at. finds S readers_of writer_of s id me r at (get_or s.words 0 0))

    pub downed : me.0.writes ≡ true → me.0.in_writer ≡ false → Allows R slots id me 0 (λ n. (n + 1) % 2 ^ 64) (λ _ m'. m' ≡ (down_of me.0, me.1))
    downed does away s r _ at _ = (down_of me.0, keeps, tt, downs S readers_of writer_of s id me r at does away, refl)

    pub unmarked : me.0.marks ≡ true → me.0.in_writer ≡ false → Allows R slots id me 0 (λ n. (n + (2 ^ 64 - 1)) % 2 ^ 64) (λ _ m'. m' ≡ (unmarked_of me.0, me.1))
    unmarked does away s r _ at _ = (unmarked_of me.0, keeps, tt, unmarks S readers_of writer_of s id me r at does away, refl)

    pub peeked : Allows R slots id me 1 (λ n. n) (λ n m'. Peeked me n m')
    peeked s r _ at _ = let n : ℕ = get_or s.words 1 0 in dite (dec_le 4 (n % 8))
        (λ many. (me.0, keeps, tt, busy S readers_of writer_of s id me r at n refl (λ l. l), ((λ _. refl), λ few. absurd (omega (arith, few, many)))))
        (λ not. let few : n % 8 < 4 = lt_of_not-le not in (eased_of me.0, keeps, tt, eases S readers_of writer_of s id me r at few, ((λ many. absurd (not many)), λ _. refl)))

    pub grabs : (k : ℕ) → SetsLow k → Allows R slots id me 1 (λ n. bit_or n k) (λ n m'. Grabbed readers_of writer_of me n m')
    grabs k bits s r _ at _ = let n : ℕ = get_or s.words 1 0 in let b = bits n in dite (ℕ_discrete (n % 2) 0)
        (λ even. let g = grabbed S readers_of writer_of s id me r at even (bit_or n k) b.0 b.1 in (
          listing_of (readers_of g.0) (writer_of g.0) me.0,
          takes 0 g.0,
          g.1,
          g.2,
          ((λ _. (g.0, refl)), λ odd. absurd (omega (arith, even, odd))),
        ))
        (λ ne. (me.0, keeps, tt, busy S readers_of writer_of s id me r at (bit_or n k) (let o = b.0 in let z : ℕ = bit_or n k in omega (arith, ne)) b.1, ((λ even. absurd (ne even)), λ _. refl)))

    module _ (new : ℕ) (wide : 0 < slots) where
      pub given_readers : (k : ℕ) → CanJoinReaders readers_of writer_of me new k → me.0.in_readers ≡ false → me.0.in_writer ≡ false
          → Allows R slots id me 1 (λ _. new) (λ _ m'. (lists : S) × (me.1 ≡ (0, lists) ∷ rest me.1) × (m' ≡ (joined_readers_of (last_of (readers_of lists).entries) me.0, rest me.1)))
      given_readers k c away off s r len at _ = (
        joined_readers_of k me.0,
        gives,
        tt,
        joins_readers S readers_of writer_of s id me r at c.0 new c.1.0 c.1.1 (subst (λ (z : ℕ). 0 < z) (sym len) wide) c.1.2 c.1.3 k c.2 c.3 away off,
        (c.0, c.1.1, ap (λ j. (joined_readers_of j me.0, rest me.1)) (sym (joined_last k _ _ c.2))),
      )

      pub given_writer : (k : ℕ) → CanJoinWriter readers_of writer_of me new k → me.0.in_readers ≡ false → me.0.in_writer ≡ false → me.0.marks ≡ true
          → Allows R slots id me 1 (λ _. new) (λ _ m'. (lists : S) × (me.1 ≡ (0, lists) ∷ rest me.1) × (m' ≡ (joined_writer_of (last_of (writer_of lists).entries) me.0, rest me.1)))
      given_writer k c away off is s r len at _ = (
        joined_writer_of k me.0,
        gives,
        tt,
        joins_writer S readers_of writer_of s id me r at c.0 new c.1.0 c.1.1 (subst (λ (z : ℕ). 0 < z) (sym len) wide) c.1.2 c.1.3 k c.2 c.3 away off is,
        (c.0, c.1.1, ap (λ j. (joined_writer_of j me.0, rest me.1)) (sym (joined_last k _ _ c.3))),
      )

      pub given_told_reader : CanHearReader readers_of writer_of me new → (me.0.in_readers ≡ true) × (me.0.fresh ≡ false) → Allows R slots id me 1 (λ _. new) (λ _ m'. m' ≡ (told_reader_of me.0, rest me.1))
      given_told_reader c stands s r len at _ = (told_reader_of me.0, gives, tt, hears_reader S readers_of writer_of s id me r at c.0 new c.1.0 c.1.1 (subst (λ (z : ℕ). 0 < z) (sym len) wide) c.1.2 c.1.3 c.2 c.3 stands.0, refl)

      pub given_told_writer : CanHearWriter readers_of writer_of me new → (me.0.in_writer ≡ true) × (me.0.fresh ≡ false) → Allows R slots id me 1 (λ _. new) (λ _ m'. m' ≡ (told_writer_of me.0, rest me.1))
      given_told_writer c stands s r len at _ = (told_writer_of me.0, gives, tt, hears_writer S readers_of writer_of s id me r at c.0 new c.1.0 c.1.1 (subst (λ (z : ℕ). 0 < z) (sym len) wide) c.1.2 c.1.3 c.2 c.3 stands.0, refl)

      pub given_left_readers : CanLeaveReaders readers_of writer_of me new → (me.0.in_readers ≡ true) × (me.0.in_writer ≡ false) → Allows R slots id me 1 (λ _. new) (λ _ m'. m' ≡ (gone_reader_of me.0, rest me.1))
      given_left_readers c stands s r len at _ = (gone_reader_of me.0, gives, tt, leaves_readers S readers_of writer_of s id me r at c.0 new c.1.0 c.1.1 (subst (λ (z : ℕ). 0 < z) (sym len) wide) c.1.2 c.1.3 c.2 c.3 stands.0 stands.1, refl)

      pub given_left_writer : CanLeaveWriter readers_of writer_of me new → (me.0.in_writer ≡ true) × (me.0.in_readers ≡ false) → Allows R slots id me 1 (λ _. new) (λ _ m'. m' ≡ (gone_writer_of me.0, rest me.1))
      given_left_writer c stands s r len at _ = (gone_writer_of me.0, gives, tt, leaves_writer S readers_of writer_of s id me r at c.0 new c.1.0 c.1.1 (subst (λ (z : ℕ). 0 < z) (sym len) wide) c.1.2 c.1.3 c.2 c.3 stands.0 stands.1, refl)

      pub given_paid_readers : CanPayReaders readers_of writer_of me new → Allows R slots id me 1 (λ _. new) (λ _ m'. m' ≡ (paid_readers_of me.0, rest me.1))
      given_paid_readers c s r len at _ = (paid_readers_of me.0, gives, tt, pays_readers S readers_of writer_of s id me r at c.0 new c.1.0 c.1.1 (subst (λ (z : ℕ). 0 < z) (sym len) wide) c.1.2 c.1.3 c.2 c.3, refl)

      pub given_paid_writer : CanPayWriter readers_of writer_of me new → Allows R slots id me 1 (λ _. new) (λ _ m'. m' ≡ (paid_writer_of me.0, rest me.1))
      given_paid_writer c s r len at _ = (paid_writer_of me.0, gives, tt, pays_writer S readers_of writer_of s id me r at c.0 new c.1.0 c.1.1 (subst (λ (z : ℕ). 0 < z) (sym len) wide) c.1.2 c.1.3 c.2 c.3, refl)

      pub given_same : CanStay readers_of writer_of me new → Allows R slots id me 1 (λ _. new) (λ _ m'. m' ≡ (back me.0, rest me.1))
      given_same c s r len at _ = (back me.0, gives, tt, remains S readers_of writer_of s id me r at c.0 new c.1.0 c.1.1 (subst (λ (z : ℕ). 0 < z) (sym len) wide) c.1.2 c.1.3 c.2 c.3, refl)

  pub longer : (O : View → Type 0) (P : ℕ → View → Type 0) (list : Listed) (vs : List View) (w : View) → LosesNone O P list vs → LosesNone O P list (vs ++ w ∷ [])
  longer O P list vs w l = ⊎_elim (λ m. inl m) (λ b. inr (⊎_elim (λ c. inl (some-longer O vs w c)) (λ all. inr (λ n h. some-longer (P n) vs w (all n h))) b)) l

  -- a new seat has nothing
  pub sits : (slots i : ℕ) → Enters R slots i (λ n w. Kept {S = S} (first_view, []) (w, []))
  sits slots i s r _ _ = let w : View = first_view in let vs : List View = s.views in
      let o = number-none has_lists_out vs w refl in let ms = number-none marks_of vs w refl in let rs = number-none reads_of vs w refl in let ws = number-none writes_of vs w refl in
      let one = r.state.one_marks in let few = r.state.few in let word = r.state.word in let lw = r.list_word.0 in let is = r.list_word.1 in (
        w,
        record {
          two_words = r.two_words;
          state = record { one_marks = omega arith; few = omega arith; word = omega arith; alone = λ some_one. rs ∙ r.state.alone (omega arith) };
          nested = λ j v e. ⊎_elim (λ old. r.nested j v old) (λ same. subst Nested same (omega arith, omega arith)) (at_snoc vs w v j e);
          list_word = (omega arith, omega arith);
          readers = r.readers;
          writer = r.writer;
          clear = λ e. longer _ _ r.readers vs w (r.clear e);
          left = λ e. longer _ _ r.writer vs w (r.left e);
          readers_match = matched.longer IsEntryOfReaders r.readers.entries vs w (λ n f. never f.0) r.readers_match;
          writer_matches = matched.longer IsEntryOfWriter r.writer.entries vs w (λ n f. never f.0) r.writer_matches;
          unlisted = r.unlisted;
          home = λ absent. r.home (sym o ∙ absent);
          out = λ j v e has. ⊎_elim (λ old. r.out j v old has) (λ same. never (ap (λ (u : View). u.has_lists) same ∙ has)) (at_snoc vs w v j e);
        },
        refl,
      )
