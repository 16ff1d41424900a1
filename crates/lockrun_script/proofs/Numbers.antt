-- The numbers of a script.
use Rattle.std.proofs.Common.{◌≡◌, ℕ, ◌<◌, ◌≤◌, List, arith, ap, ◌∙◌, length}
use Rattle.std.specs.Prelude.{◌^◌, OkIff, Option, Some, None, Result, Ok, Err, IfSome, IfNone, MatchResult}
use Rattle.std.specs.Result.{result_ok}
use Rattle.std.specs.Str.{IsUtf8}
use Rattle.std.specs.Str.Parse.{digits_value, ParsesUnsigned}
use Rattle.std.proofs.lemmas.Str.{IsUtf8-from_ascii}
use Rattle.std.proofs.lemmas.Str.Ascii.{IsAscii-from_all}
use Rattle.std.proofs.lemmas.Str.Parse.{IsNumeralModel, numerals_by_value, parse_digits}
use Rattle.std.proofs.lemmas.List.Elements.{All-head, All-tail, All-cons}
use Rattle.lockrun_script.specs.Lines.{IsDigit, IsDecimal, IsNumber, Writes}

-- digits are text
IsUtf8-from_decimal : (word : List ℕ) → IsDecimal word → IsUtf8 word
IsUtf8-from_decimal word h = IsUtf8-from_ascii word (IsAscii-from_all word (λ k d l. let here = h k d l in omega (arith, here)))

-- what the library's `parse` reads as digits is what is meant here
own : IsNumeralModel IsDecimal (digits_value 10)
own = numerals_by_value IsDecimal (record {
  empty = λ k d l. absurd (omega arith);
  parts = λ c cs h. (All-head IsDigit c cs h, All-tail IsDigit c cs h);
  more = λ c cs h t. All-cons IsDigit c cs h t;
})

-- a word that is no text is no number
pub no_text : {A E : Type 0} (P : A → Type 0) (Q : E → Type 0) (word : List ℕ) (r : Result A E) → MatchResult r P (λ e. ¬ IsUtf8 word × Q e) → None ≡ result_ok r → ¬ IsNumber word
no_text P Q word (Ok s) h e = absurd cc
no_text P Q word (Err s) h e = λ n. h.0 (IsUtf8-from_decimal word n.digits)

-- the text of a word is the word
pub text_is : {A E : Type 0} (now : A → List ℕ) (P : Type 0) (Q : E → Type 0) (word : List ℕ) (r : Result A E) (t : A) → MatchResult r (λ s. (now s ≡ word) × P) Q → Some t ≡ result_ok r → now t ≡ word
text_is now P Q word (Ok s) t h e =
    let same : t ≡ s = cc in
    ap now same ∙ h.0
text_is now P Q word (Err s) t h e = absurd cc

-- digits that `parse` refused are no number
pub no_number : {E : Type 0} (word : List ℕ) (r : Result ℕ E) (o : Option ℕ) → IsDecimal word → ParsesUnsigned 64 10 word r → o ≡ result_ok r → IfNone o (¬ IsNumber word)
no_number word r (Some n) d h e = tt
no_number word (Ok n) None d h e = absurd cc
no_number word (Err x) None d h e = λ n. parse_digits own 64 word (Err x) h d (n.some, n.fits)

-- digits write the number that was read of them
written : {E : Type 0} (word : List ℕ) (r : Result ℕ E) (o : Option ℕ) → length word ≤ 20 → IsDecimal word → OkIff r ((0 < length word) × (digits_value 10 word < 2 ^ 64)) (digits_value 10 word) → o ≡ result_ok r → IfSome o (Writes word)
written word r None few d read e = tt
written word (Err x) (Some n) few d read e = absurd cc
written word (Ok m) (Some n) few d read e =
    let same : n ≡ m = cc in
    (record { some = read.0.0; few = few; digits = d; fits = read.0.1 }, same ∙ read.1)

-- digits that `parse` read write the number that it read
pub a_number : {E : Type 0} (word : List ℕ) (r : Result ℕ E) (o : Option ℕ) → length word ≤ 20 → IsDecimal word → ParsesUnsigned 64 10 word r → o ≡ result_ok r → IfSome o (Writes word)
a_number word r o few d h e = written word r o few d (parse_digits own 64 word r h d) e
