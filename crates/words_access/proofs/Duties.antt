-- The duty to the readers goes from one seat to a new one, which has nothing else.
use Rattle.std.proofs.Common.{ℕ, List, [], length, set, sym, refl, ap, ◌∙◌, subst, arith, ⊎_elim, inl, inr}
use Rattle.atomic_table.specs.Table.{Me, Splits}
use Rattle.atomic_table.proofs.Lists.{at_last, at_snoc}
use Rattle.words_base.specs.Lists.{Listed}
use Rattle.words_base.proofs.Sums.{number-none}
use Rattle.words_base.proofs.Matched as matched
use Rattle.words_access.specs.Rule.{marks_of, reads_of, writes_of, has_lists_out, TellsWriter, IsEntryOfReaders, IsEntryOfWriter, IsFreshWriter, Nested, Ruled}
use Rattle.words_access.specs.Seats.{duty_view, relieved_of}
use Rattle.words_access.specs.declared.view.View.{View}
use Rattle.words_access.proofs.Flags.{never}
use Rattle.words_access.proofs.Keeps.{nested_set, same, state_same, left_as, readers_stand, writer_stands, out_left}
use Rattle.words_access.proofs.Allowed.{longer}

module _ (S : Type 0) (readers_of writer_of : S → Listed) where
  pub splits : (id : ℕ) (v : View) → Splits (Ruled readers_of writer_of) id v (relieved_of v) duty_view
  splits id v s r at =
      let me : Me S View = (v, []) in let w : View = relieved_of v in let u : View = duty_view in let vs : List View = set s.views id w in
      let kept = state_same S readers_of writer_of s id me r at s.words w refl (refl, refl, refl) in
      let here = same S readers_of writer_of s id me r at has_lists_out w refl in
      let o = number-none has_lists_out vs u refl in let ms = number-none marks_of vs u refl in let rs = number-none reads_of vs u refl in let ws = number-none writes_of vs u refl in
      let one = kept.one_marks in let few = kept.few in let word = kept.word in let lw = r.list_word.0 in let is = r.list_word.1 in record {
        two_words = r.two_words;
        state = record { one_marks = omega arith; few = omega arith; word = omega arith; alone = λ some_one. rs ∙ kept.alone (omega arith) };
        nested = λ j x e. ⊎_elim (λ old. nested_set s.views id w r.nested (r.nested id v at) j x old) (λ last. subst Nested last (omega arith, omega arith)) (at_snoc vs u x j e);
        list_word = (omega arith, omega arith);
        readers = r.readers;
        writer = r.writer;
        -- the new seat owes the readers, whoever else does
        clear = λ _. inr (inl (length vs, u, at_last vs u (length vs) refl, refl));
        left = λ e. longer S readers_of writer_of TellsWriter IsFreshWriter r.writer vs u (left_as S readers_of writer_of s id me r at w (λ t. t) (λ n f. f) e);
        readers_match = matched.longer IsEntryOfReaders r.readers.entries vs u (λ n f. never f.0) (readers_stand S readers_of writer_of s id me r at w (refl, refl, refl, refl, refl, refl));
        writer_matches = matched.longer IsEntryOfWriter r.writer.entries vs u (λ n f. never f.0) (writer_stands S readers_of writer_of s id me r at w (refl, refl, refl, refl, refl, refl));
        unlisted = r.unlisted;
        home = λ absent. r.home (sym here ∙ sym o ∙ absent);
        out = λ j x e has. ⊎_elim (λ old. out_left S readers_of writer_of s id me r at w (refl, refl, refl, refl, refl, refl) j x old has) (λ last. never (ap (λ (y : View). y.has_lists) last ∙ has)) (at_snoc vs u x j e);
      }
