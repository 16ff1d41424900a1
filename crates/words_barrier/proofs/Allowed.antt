-- Each step on the table keeps its rule: as the table asks it of a call.
use Rattle.std.proofs.Common.{◌≡◌, ℕ, ◌+◌, ◌%◌, ◌<◌, bit_or, lt_of_not-le, false, [], ◌∷◌, get_or, sym, refl, ap, ◌∙◌, subst, arith, ⊎_elim, inl, inr, true}
use mathlib.Core.Logic.{dite}
use native.Mathlib.Decide.{dec_le, ℕ_discrete}
use Rattle.atomic_table.specs.Table.{State, Me, keeps, takes, gives, rest, Enters, Allows}
use Rattle.atomic_table.proofs.Lists.{at_snoc}
use Rattle.words_base.specs.Lists.{Listed}
use Rattle.words_base.specs.Waiting.{last_of}
use Rattle.words_base.proofs.Sums.{number-none}
use Rattle.words_barrier.specs.Rule.{first_view, has_list_out, Owes, WaitsFor, IsEntryOf, Ruled}
use Rattle.words_barrier.specs.Seats.{saw_of, counted_of, finished_by, eased_of, listing_of, back, joined_of, gone_of, paid_of}
use Rattle.words_barrier.specs.Steps.{Looked, Counted, Finished, Peeked, Grabbed, CanJoin, CanLeave, CanPay, CanStay}
use Rattle.words_barrier.specs.declared.view.View.{View}
use Rattle.words_barrier.proofs.Flags.{never, SetsLow}
use Rattle.words_base.proofs.Matched.{longer}
use Rattle.words_base.proofs.Views.{some-longer}
use Rattle.words_base.proofs.Waiting.{last-pushed}
use Rattle.words_barrier.proofs.Keeps.{sees, counts, finishes, busy, eases, grabbed, joins, leaves, pays, remains}

module _ (S : Type 0) (listed_of : S → Listed) where
  abbrev R : State S View → Type 0
  R = Ruled listed_of

  module _ (slots id : ℕ) (me : Me S View) where
    pub looked : Allows R slots id me 0 (λ n. n) (λ n m'. Looked me n m')
    looked s r _ at _ = let n : ℕ = get_or s.words 0 0 in (saw_of n me.0, keeps, tt, sees S listed_of s id me r at, refl)

    pub counted : Allows R slots id me 0 (λ n. n) (λ n m'. Counted me n m')
    counted s r _ at _ = let n : ℕ = get_or s.words 0 0 in (counted_of n me.0, keeps, tt, counts S listed_of s id me r at, refl)

    pub finished : (new : ℕ) → new ≡ me.0.found + 1 → Allows R slots id me 0 (λ _. new) (λ _ m'. Finished me new m')
    finished new next s r _ at _ = (finished_by me.0, keeps, tt, finishes S listed_of s id me r at new, (next, refl))

    pub peeked : Allows R slots id me 1 (λ n. n) (λ n m'. Peeked me n m')
    peeked s r _ at _ = let n : ℕ = get_or s.words 1 0 in dite (dec_le 4 (n % 8))
        (λ many. (me.0, keeps, tt, busy S listed_of s id me r at n refl (λ l. l), ((λ _. refl), λ few. absurd (omega (arith, few, many)))))
        (λ not. let few : n % 8 < 4 = lt_of_not-le not in (eased_of me.0, keeps, tt, eases S listed_of s id me r at few, ((λ many. absurd (not many)), λ _. refl)))

    pub grabs : (k : ℕ) → SetsLow k → Allows R slots id me 1 (λ n. bit_or n k) (λ n m'. Grabbed listed_of me n m')
    grabs k bits s r _ at _ = let n : ℕ = get_or s.words 1 0 in let b = bits n in dite (ℕ_discrete (n % 2) 0)
        (λ even. let g = grabbed S listed_of s id me r at even (bit_or n k) b.0 b.1 in (
          listing_of (listed_of g.0) me.0,
          takes 0 g.0,
          g.1,
          g.2,
          ((λ _. (g.0, refl)), λ odd. absurd (omega (arith, even, odd))),
        ))
        (λ ne. (me.0, keeps, tt, busy S listed_of s id me r at (bit_or n k) (let o = b.0 in let z : ℕ = bit_or n k in omega (arith, ne)) b.1, ((λ even. absurd (ne even)), λ _. refl)))

    module _ (new : ℕ) (wide : 0 < slots) where
      pub given_joined : (k : ℕ) → CanJoin listed_of me new k → me.0.listed ≡ false
          → Allows R slots id me 1 (λ _. new) (λ _ m'. (list : S) × (me.1 ≡ (0, list) ∷ rest me.1) × (m' ≡ (joined_of (last_of (listed_of list).entries) me.0, rest me.1)))
      given_joined k c away s r len at _ = (
        joined_of k me.0,
        gives,
        tt,
        joins S listed_of s id me r at c.0 new c.1.0 c.1.1 (subst (λ (z : ℕ). 0 < z) (sym len) wide) c.1.2 c.1.3 k c.2 away,
        (c.0, c.1.1, ap (λ j. (joined_of j me.0, rest me.1)) (sym (ap last_of c.2.entries ∙ last-pushed k me.0.list.entries))),
      )

      pub given_gone : CanLeave listed_of me new → me.0.listed ≡ true → Allows R slots id me 1 (λ _. new) (λ _ m'. m' ≡ (gone_of me.0, rest me.1))
      given_gone c was s r len at _ = (gone_of me.0, gives, tt, leaves S listed_of s id me r at c.0 new c.1.0 c.1.1 (subst (λ (z : ℕ). 0 < z) (sym len) wide) c.1.2 c.1.3 c.2 was, refl)

      pub given_paid : CanPay listed_of me new → Allows R slots id me 1 (λ _. new) (λ _ m'. m' ≡ (paid_of me.0, rest me.1))
      given_paid c s r len at _ = (paid_of me.0, gives, tt, pays S listed_of s id me r at c.0 new c.1.0 c.1.1 (subst (λ (z : ℕ). 0 < z) (sym len) wide) c.1.2 c.1.3 c.2, refl)

      pub given_same : CanStay listed_of me new → Allows R slots id me 1 (λ _. new) (λ _ m'. m' ≡ (back me.0, rest me.1))
      given_same c s r len at _ = (back me.0, gives, tt, remains S listed_of s id me r at c.0 new c.1.0 c.1.1 (subst (λ (z : ℕ). 0 < z) (sym len) wide) c.1.2 c.1.3 c.2, refl)

  -- a new seat has nothing, and has looked
  pub sits : (slots : ℕ) → Enters R slots 0 (λ n w. Looked {S = S} (first_view, []) n (w, []))
  sits slots s r _ _ = let n : ℕ = get_or s.words 0 0 in let w : View = saw_of n first_view in
      let o = number-none has_list_out s.views w refl in
      let lw = r.list_word.0 in let is = r.list_word.1 in (
        w,
        record {
          two_words = r.two_words;
          list_word = (omega arith, omega arith);
          list = r.list;
          matched = longer IsEntryOf r.list.entries s.views w (λ k q. never q.0) r.matched;
          wakes = ⊎_elim (λ c. inl (some-longer Owes s.views w c)) (λ all. inr (λ k h. some-longer (WaitsFor n k) s.views w (all k h))) r.wakes;
          unlisted = r.unlisted;
          home = λ absent. r.home (sym o ∙ absent);
          out = λ j v e has. ⊎_elim (λ old. r.out j v old has) (λ same. never (ap (λ (u : View). u.has_list) same ∙ has)) (at_snoc s.views w v j e);
        },
        refl,
      )
