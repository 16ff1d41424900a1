-- The words of a line, one after another.
use Rattle.std.proofs.Common.{◌≡◌, ℕ, ◌+◌, ◌<◌, ◌≤◌, Bool, true, false, cond, ltb, List, [], ◌∷◌, length, drop, refl, sym, subst, ◌∙◌, ap, arith, drop-drop, false-eqb}
use Rattle.std.specs.Prelude.{◌==◌, Option, Some, None, unwrap_or, filter, All}
use Rattle.std.specs.List.{slice_split, before_first, after_first, position_or_len}
use Rattle.std.proofs.lemmas.List.Elements.{All-cons}
use Rattle.std.proofs.lemmas.List.{take_all, drop_all}
use Rattle.std.proofs.lemmas.List.Sums.{fails_before_first, prefix_len-le-length}
use Rattle.std.proofs.lemmas.List.Splits.{slice_split_none, slice_split_first}
use Rattle.std.proofs.lemmas.Bool.{eqb-true, ltb-true, ltb-false, lt-ltb}
use Rattle.lockrun_script.specs.Lines.{lines_of, words_of, is_byte}

words-cases : (line : List ℕ) (b : Bool) → ltb (position_or_len (is_byte 32) line) (length line) ≡ b → words_of line ≡ cond (ltb 0 (length (before_first (is_byte 32) line))) (before_first (is_byte 32) line ∷ words_of (after_first (is_byte 32) line)) (words_of (after_first (is_byte 32) line))
words-cases line true e = ap (filter (λ piece. ltb 0 (length piece))) (slice_split_first (is_byte 32) line 0 (ltb-true _ _ e))
words-cases line false e =
    let far : length line ≤ position_or_len (is_byte 32) line = ltb-false _ _ e in
    let whole : before_first (is_byte 32) line ≡ line = take_all _ line far in
    let over : after_first (is_byte 32) line ≡ [] = drop_all _ line (omega arith) in
    let split : slice_split (is_byte 32) line ≡ line ∷ [] = slice_split_none (is_byte 32) line (λ k d l. fails_before_first (is_byte 32) line k d (omega arith)) in
    ap (filter (λ piece. ltb 0 (length piece))) split ∙ sym (ap (λ p. cond (ltb 0 (length p)) (p ∷ words_of (after_first (is_byte 32) line)) (words_of (after_first (is_byte 32) line))) whole ∙ ap (λ r. cond (ltb 0 (length line)) (line ∷ words_of r) (words_of r)) over)

-- the first piece of a line is its first word, unless it is empty
pub words-first : (line : List ℕ) → 0 < length (before_first (is_byte 32) line) → words_of line ≡ before_first (is_byte 32) line ∷ words_of (after_first (is_byte 32) line)
words-first line some = words-cases line _ refl ∙ ap (λ b. cond b (before_first (is_byte 32) line ∷ words_of (after_first (is_byte 32) line)) (words_of (after_first (is_byte 32) line))) (lt-ltb 0 _ some)

pub words-skip : (line : List ℕ) → before_first (is_byte 32) line ≡ [] → words_of line ≡ words_of (after_first (is_byte 32) line)
words-skip line none = words-cases line _ refl ∙ ap (λ p. cond (ltb 0 (length p)) (p ∷ words_of (after_first (is_byte 32) line)) (words_of (after_first (is_byte 32) line))) none

-- the place of the first element that passes, by what a search for it found
pub position-found : (p : ℕ → Bool) (xs : List ℕ) (r : Option ℕ) (b : Bool) → ltb (position_or_len p xs) (length xs) ≡ b → r ≡ cond b (Some (position_or_len p xs)) None → unwrap_or r (length xs) ≡ position_or_len p xs
position-found p xs r true e f = ap (λ o. unwrap_or o (length xs)) f
position-found p xs r false e f = ap (λ o. unwrap_or o (length xs)) f ∙ omega (arith, ltb-false _ _ e, prefix_len-le-length (λ x. Rattle.std.specs.Prelude.not (p x)) xs)

-- what follows the element after n others
pub after-drop : (n : ℕ) (xs : List ℕ) (x : ℕ) (ys : List ℕ) → drop n xs ≡ x ∷ ys → ys ≡ drop (n + 1) xs
after-drop n xs x ys e = sym (ap (drop 1) e) ∙ drop-drop 1 n xs

-- a first piece that is not empty is the first of the words
pub words-taken : (line piece after : List ℕ) (words : List (List ℕ)) → words_of line ≡ words → false ≡ (length piece == 0) → piece ≡ before_first (is_byte 32) line → after ≡ after_first (is_byte 32) line → words ≡ piece ∷ words_of after
words-taken line piece after words w some p a =
    sym w ∙ words-first line (omega (arith, false-eqb _ 0 some, ap length p)) ∙ ap (λ x. x ∷ words_of (after_first (is_byte 32) line)) (sym p) ∙ ap (λ x. piece ∷ words_of x) (sym a)

-- an empty line has no words
pub words-none : (line : List ℕ) → true ≡ (length line == 0) → words_of line ≡ []
words-none [] e = refl
words-none (x ∷ xs) e = absurd (omega (arith, eqb-true _ 0 (sym e)))

lines-cases : (P : List ℕ → Type 0) (text : List ℕ) (b : Bool) → ltb (position_or_len (is_byte 10) text) (length text) ≡ b → P (before_first (is_byte 10) text) → All P (lines_of (after_first (is_byte 10) text)) → All P (lines_of text)
lines-cases P text true e first others =
    subst (All P) (sym (slice_split_first (is_byte 10) text 0 (ltb-true _ _ e))) (All-cons P _ _ first others)
lines-cases P text false e first others =
    let far : length text ≤ position_or_len (is_byte 10) text = ltb-false _ _ e in
    let split : lines_of text ≡ text ∷ [] = slice_split_none (is_byte 10) text (λ k d l. fails_before_first (is_byte 10) text k d (omega arith)) in
    subst (All P) (sym split) (All-cons P text [] (subst P (take_all _ text far) first) (λ k d l. absurd (omega arith)))

-- what holds of the first line and of those after it holds of all lines
pub lines-more : (P : List ℕ → Type 0) (text line after : List ℕ) → line ≡ before_first (is_byte 10) text → after ≡ after_first (is_byte 10) text → P line → All P (lines_of after) → All P (lines_of text)
lines-more P text line after l a first others =
    lines-cases P text _ refl (subst P l first) (subst (λ t. All P (lines_of t)) a others)
