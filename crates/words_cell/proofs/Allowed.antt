-- Each step on the table keeps its rule: as the table asks it of a call.
use Rattle.std.proofs.Common.{◌≡◌, ℕ, ◌+◌, ◌-◌, ◌%◌, ◌^◌, ◌<◌, ◌≤◌, eqb, eq-eqb, ne_eqb, bit_or, lt_of_not-le, Bool, true, false, [], ◌∷◌, get_or, sym, refl, ap, ◌∙◌, subst, arith, ⊎_elim, inl, inr}
use mathlib.Core.Logic.{dite}
use native.Mathlib.Decide.{dec_le, ℕ_discrete}
use prog.Atomic.{either}
use Rattle.atomic_table.specs.Table.{State, Me, keeps, takes, gives, stepped, rest, Enters, Allows}
use Rattle.atomic_table.proofs.Lists.{at_snoc}
use Rattle.words_base.specs.Sums.{weight}
use Rattle.words_base.proofs.Sums.{number-none, number-snoc, total-snoc}
use Rattle.words_base.specs.Lists.{Listed}
use Rattle.words_base.specs.Waiting.{last_of}
use Rattle.words_cell.specs.Rule.{first_view, makes_of, has_lists_out, filled_of, taken_of, IsActiveEntryOf, IsPassiveEntryOf, Ruled}
use Rattle.words_cell.specs.Seats.{saw_of, saw_full_of, claimed_of, missed_of, late_of, filled_by, emptied_by, taken_by, having_found, eased_of, listing_of, back, joined_active_of, joined_passive_of, told_of, gone_of, paid_of, paid_active_of, paid_passive_of}
use Rattle.words_cell.specs.Steps.{Kept, Looked, Claimed, Took, Peeked, Grabbed, CanJoinActive, CanJoinPassive, CanHear, CanLeave, CanPay, CanPayActive, CanPayPassive, CanStay}
use Rattle.words_cell.specs.declared.view.View.{View}
use Rattle.words_cell.proofs.Flags.{never, SetsLow}
use Rattle.words_base.proofs.Matched.{longer}
use Rattle.words_base.proofs.Waiting.{last-pushed}
use Rattle.words_base.proofs.Views.{some-longer}
use Rattle.words_cell.proofs.Keeps.{few, sees, sees_full, claims, misses, comes_late, fills, empties, takes_value, finds, busy, eases, grabbed, joins_active, joins_passive, hears, leaves, pays, pays_active, pays_passive, remains}

module _ (S : Type 0) (active_of passive_of : S → Listed) (start : Bool) where
  abbrev R : State S View → Type 0
  R = Ruled active_of passive_of start

  module _ (slots id : ℕ) (me : Me S View) where
    pub looked : me.0.in_active ≡ false → Allows R slots id me 0 (λ n. n) (λ n m'. Looked me n m')
    looked away s r _ at _ = let n : ℕ = get_or s.words 0 0 in let low : n ≤ 2 = few S active_of passive_of start s id me r at in dite (ℕ_discrete n 2)
        (λ full. (saw_full_of me.0, keeps, tt, sees_full S active_of passive_of start s id me r at full, (low, (λ _. refl), λ ne. absurd (ne full))))
        (λ ne. (saw_of n me.0, keeps, tt, sees S active_of passive_of start s id me r at ne away, (low, (λ full. absurd (ne full)), λ _. refl)))

    pub claimed : Allows R slots id me 0 (λ n. either (eqb n 0) 1 n) (λ n m'. Claimed me n m')
    claimed s r _ at _ = let n : ℕ = get_or s.words 0 0 in let low : n ≤ 2 = few S active_of passive_of start s id me r at in dite (ℕ_discrete n 0)
        (λ hit. (
          claimed_of me.0,
          keeps,
          tt,
          subst (λ b. R (stepped s 0 (either b 1 n) id me.1 (claimed_of me.0) keeps)) (sym (eq-eqb n 0 hit)) (claims S active_of passive_of start s id me r at hit),
          (low, (λ _. refl), (λ e. absurd (omega (arith, e, hit))), λ e. absurd (omega (arith, e, hit))),
        ))
        (λ miss. dite (ℕ_discrete n 1)
        (λ made. (
          missed_of me.0,
          keeps,
          tt,
          subst (λ b. R (stepped s 0 (either b 1 n) id me.1 (missed_of me.0) keeps)) (sym (ne_eqb n 0 miss)) (misses S active_of passive_of start s id me r at made),
          (low, (λ e. absurd (miss e)), (λ _. refl), λ e. absurd (omega (arith, e, made))),
        ))
        (λ not. let full : n ≡ 2 = omega (arith, low, miss, not) in (
          late_of me.0,
          keeps,
          tt,
          subst (λ b. R (stepped s 0 (either b 1 n) id me.1 (late_of me.0) keeps)) (sym (ne_eqb n 0 miss)) (comes_late S active_of passive_of start s id me r at full),
          (low, (λ e. absurd (miss e)), (λ e. absurd (not e)), λ _. refl),
        )))

    pub filled : me.0.makes ≡ true → Allows R slots id me 0 (λ n. (n + 1) % 2 ^ 64) (λ _ m'. m' ≡ (filled_by me.0, me.1))
    filled makes s r _ at _ = (filled_by me.0, keeps, tt, fills S active_of passive_of start s id me r at makes, refl)

    pub emptied : me.0.makes ≡ true → Allows R slots id me 0 (λ n. (n + (2 ^ 64 - 1)) % 2 ^ 64) (λ _ m'. m' ≡ (emptied_by me.0, me.1))
    emptied makes s r _ at _ = (emptied_by me.0, keeps, tt, empties S active_of passive_of start s id me r at makes, refl)

    pub taken : Allows R slots id me 0 (λ n. either (eqb n 2) 0 n) (λ n m'. Took me n m')
    taken s r _ at _ = let n : ℕ = get_or s.words 0 0 in dite (ℕ_discrete n 2)
        (λ hit. (
          taken_by me.0,
          keeps,
          tt,
          subst (λ b. R (stepped s 0 (either b 0 n) id me.1 (taken_by me.0) keeps)) (sym (eq-eqb n 2 hit)) (takes_value S active_of passive_of start s id me r at hit),
          ((λ _. refl), λ miss. absurd (miss hit)),
        ))
        (λ miss. (
          having_found n me.0,
          keeps,
          tt,
          subst (λ b. R (stepped s 0 (either b 0 n) id me.1 (having_found n me.0) keeps)) (sym (ne_eqb n 2 miss)) (finds S active_of passive_of start s id me r at n),
          ((λ hit. absurd (miss hit)), λ _. refl),
        ))

    pub peeked : Allows R slots id me 1 (λ n. n) (λ n m'. Peeked me n m')
    peeked s r _ at _ = let n : ℕ = get_or s.words 1 0 in dite (dec_le 4 (n % 8))
        (λ many. (me.0, keeps, tt, busy S active_of passive_of start s id me r at n refl (λ l. l), ((λ _. refl), λ few. absurd (omega (arith, few, many)))))
        (λ not. let few : n % 8 < 4 = lt_of_not-le not in (eased_of me.0, keeps, tt, eases S active_of passive_of start s id me r at few, ((λ many. absurd (not many)), λ _. refl)))

    pub grabs : (k : ℕ) → SetsLow k → Allows R slots id me 1 (λ n. bit_or n k) (λ n m'. Grabbed active_of passive_of me n m')
    grabs k bits s r _ at _ = let n : ℕ = get_or s.words 1 0 in let b = bits n in dite (ℕ_discrete (n % 2) 0)
        (λ even. let g = grabbed S active_of passive_of start s id me r at even (bit_or n k) b.0 b.1 in (
          listing_of (active_of g.0) (passive_of g.0) me.0,
          takes 0 g.0,
          g.1,
          g.2,
          ((λ _. (g.0, refl)), λ odd. absurd (omega (arith, even, odd))),
        ))
        (λ ne. (me.0, keeps, tt, busy S active_of passive_of start s id me r at (bit_or n k) (let o = b.0 in let z : ℕ = bit_or n k in omega (arith, ne)) b.1, ((λ even. absurd (ne even)), λ _. refl)))

    module _ (new : ℕ) (wide : 0 < slots) where
      pub given_active : (k : ℕ) → CanJoinActive active_of passive_of me new k → me.0.in_active ≡ false → me.0.in_passive ≡ false
          → Allows R slots id me 1 (λ _. new) (λ _ m'. (lists : S) × (me.1 ≡ (0, lists) ∷ rest me.1) × (m' ≡ (joined_active_of (last_of (active_of lists).entries) me.0, rest me.1)))
      given_active k c away off s r len at _ = (
        joined_active_of k me.0,
        gives,
        tt,
        joins_active S active_of passive_of start s id me r at c.0 new c.1.0 c.1.1 (subst (λ (z : ℕ). 0 < z) (sym len) wide) c.1.2 c.1.3 k c.2 c.3 away off,
        (c.0, c.1.1, ap (λ j. (joined_active_of j me.0, rest me.1)) (sym (ap last_of (c.2).entries ∙ last-pushed k me.0.active.entries))),
      )

      pub given_passive : (k : ℕ) → CanJoinPassive active_of passive_of me new k → me.0.in_active ≡ false → me.0.in_passive ≡ false
          → Allows R slots id me 1 (λ _. new) (λ _ m'. (lists : S) × (me.1 ≡ (0, lists) ∷ rest me.1) × (m' ≡ (joined_passive_of (last_of (passive_of lists).entries) me.0, rest me.1)))
      given_passive k c away off s r len at _ = (
        joined_passive_of k me.0,
        gives,
        tt,
        joins_passive S active_of passive_of start s id me r at c.0 new c.1.0 c.1.1 (subst (λ (z : ℕ). 0 < z) (sym len) wide) c.1.2 c.1.3 k c.2 c.3 away off,
        (c.0, c.1.1, ap (λ j. (joined_passive_of j me.0, rest me.1)) (sym (ap last_of (c.3).entries ∙ last-pushed k me.0.passive.entries))),
      )

      pub given_told : CanHear active_of passive_of me new → me.0.in_active ≡ true → Allows R slots id me 1 (λ _. new) (λ _ m'. m' ≡ (told_of me.0, rest me.1))
      given_told c was s r len at _ = (told_of me.0, gives, tt, hears S active_of passive_of start s id me r at c.0 new c.1.0 c.1.1 (subst (λ (z : ℕ). 0 < z) (sym len) wide) c.1.2 c.1.3 c.2 c.3 was, refl)

      pub given_gone : CanLeave active_of passive_of me new → Allows R slots id me 1 (λ _. new) (λ _ m'. m' ≡ (gone_of me.0, rest me.1))
      given_gone c s r len at _ = (gone_of me.0, gives, tt, leaves S active_of passive_of start s id me r at c.0 new c.1.0 c.1.1 (subst (λ (z : ℕ). 0 < z) (sym len) wide) c.1.2 c.1.3 c.2 c.3, refl)

      pub given_paid : CanPay active_of passive_of me new → Allows R slots id me 1 (λ _. new) (λ _ m'. m' ≡ (paid_of me.0, rest me.1))
      given_paid c s r len at _ = (paid_of me.0, gives, tt, pays S active_of passive_of start s id me r at c.0 new c.1.0 c.1.1 (subst (λ (z : ℕ). 0 < z) (sym len) wide) c.1.2 c.1.3 c.2 c.3, refl)

      pub given_paid_active : CanPayActive active_of passive_of me new → Allows R slots id me 1 (λ _. new) (λ _ m'. m' ≡ (paid_active_of me.0, rest me.1))
      given_paid_active c s r len at _ = (paid_active_of me.0, gives, tt, pays_active S active_of passive_of start s id me r at c.0 new c.1.0 c.1.1 (subst (λ (z : ℕ). 0 < z) (sym len) wide) c.1.2 c.1.3 c.2 c.3, refl)

      pub given_paid_passive : CanPayPassive active_of passive_of me new → Allows R slots id me 1 (λ _. new) (λ _ m'. m' ≡ (paid_passive_of me.0, rest me.1))
      given_paid_passive c s r len at _ = (paid_passive_of me.0, gives, tt, pays_passive S active_of passive_of start s id me r at c.0 new c.1.0 c.1.1 (subst (λ (z : ℕ). 0 < z) (sym len) wide) c.1.2 c.1.3 c.2 c.3, refl)

      pub given_same : CanStay active_of passive_of me new → Allows R slots id me 1 (λ _. new) (λ _ m'. m' ≡ (back me.0, rest me.1))
      given_same c s r len at _ = (back me.0, gives, tt, remains S active_of passive_of start s id me r at c.0 new c.1.0 c.1.1 (subst (λ (z : ℕ). 0 < z) (sym len) wide) c.1.2 c.1.3 c.2 c.3, refl)

  -- a new seat has nothing
  pub sits : (slots i : ℕ) → Enters R slots i (λ n w. Kept {S = S} (first_view, []) (w, []))
  sits slots i s r _ _ = let w : View = first_view in
      let o = number-none has_lists_out s.views w refl in let ms = number-snoc makes_of s.views w in let ts = total-snoc taken_of s.views w in let fs = total-snoc filled_of s.views w in
      let m' : weight (makes_of w) ≡ 0 = refl in
      let one = r.cell.one_maker in let word = r.cell.word in let values = r.cell.values in let lw = r.list_word.0 in let is = r.list_word.1 in (
        w,
        record {
          two_words = r.two_words;
          cell = record { full = r.cell.full; one_maker = omega arith; word = omega arith; values = omega arith };
          list_word = (omega arith, omega arith);
          active = r.active;
          passive = r.passive;
          active_match = longer IsActiveEntryOf r.active.entries s.views w (λ n is. never is.0) r.active_match;
          passive_match = longer IsPassiveEntryOf r.passive.entries s.views w (λ n is. never is.0) r.passive_match;
          empty = λ e. ⊎_elim (λ m. inl m) (λ b. inr (⊎_elim (λ c. inl (some-longer _ s.views w c)) (λ all. inr (λ n h. some-longer _ s.views w (all n h))) b)) (r.empty e);
          filled = λ e. let f = r.filled e in (
            ⊎_elim (λ c. inl (some-longer _ s.views w c)) (λ all. inr (λ n h. some-longer _ s.views w (all n h))) f.0,
            ⊎_elim (λ c. inl (some-longer _ s.views w c)) (λ all. inr (λ n h. some-longer _ s.views w (all n h))) f.1,
          );
          unlisted = r.unlisted;
          home = λ absent. r.home (sym o ∙ absent);
          out = λ j v e has. ⊎_elim (λ old. r.out j v old has) (λ same. never (ap (λ (u : View). u.has_lists) same ∙ has)) (at_snoc s.views w v j e);
        },
        refl,
      )
