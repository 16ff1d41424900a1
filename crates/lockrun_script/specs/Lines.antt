-- Lines, words and numbers of a script, over their bytes.
use Rattle.std.specs.Prelude.{◌≡◌, ◌≢◌, ◌⊎◌, ℕ, ◌<◌, ◌≤◌, ◌^◌, ◌-◌, Bool, List, [], ◌∷◌, length, nat_lt, slice_get, None, Some, All, ◌==◌, filter}
use Rattle.std.specs.List.{slice_split}
use Rattle.std.specs.Str.Parse.{digits_value}

-- a byte is this one
abbrev pub is_byte : ℕ → ℕ → Bool
is_byte this b = b == this

-- the pieces of a text between its line feeds, the byte 10: its lines, and an empty piece after a line feed at its end
abbrev pub lines_of : List ℕ → List (List ℕ)
lines_of text = slice_split (is_byte 10) text

-- the words of a line: the pieces between its spaces, the byte 32, that are not empty
abbrev pub words_of : List ℕ → List (List ℕ)
words_of line = filter (λ piece. nat_lt 0 (length piece)) (slice_split (is_byte 32) line)

-- each byte is printable ASCII
abbrev pub IsPrintable : List ℕ → Type 0
IsPrintable line = All (λ b. (32 ≤ b) × (b ≤ 126)) line

-- an empty line, or a comment: 35 is its first byte
abbrev pub IsSkipped : List ℕ → Type 0
IsSkipped line = IsPrintable line × (slice_get line 0 ≡ None ⊎ slice_get line 0 ≡ Some 35)

-- no space stands at either end
abbrev pub IsTrimmed : List ℕ → Type 0
IsTrimmed line = (slice_get line 0 ≢ Some 32) × (slice_get line (length line - 1) ≢ Some 32)

-- a decimal digit, `0` to `9`
abbrev pub IsDigit : ℕ → Type 0
IsDigit b = (48 ≤ b) × (b ≤ 57)

-- each byte is a decimal digit
abbrev pub IsDecimal : List ℕ → Type 0
IsDecimal word = All IsDigit word

-- a number of a script: 1 to 20 decimal digits, whose value fits 64 bits
pub record IsNumber (word : List ℕ) : Type 0 where
  pub some : 1 ≤ length word
  pub few : length word ≤ 20
  pub digits : IsDecimal word
  pub fits : digits_value 10 word < 2 ^ 64

-- the word is a number, and its digits write n
abbrev pub Writes : List ℕ → ℕ → Type 0
Writes word n = IsNumber word × (n ≡ digits_value 10 word)

-- the first of these words, if there is one, is no number
abbrev pub BeginsWithNoNumber : List (List ℕ) → Type 0
BeginsWithNoNumber [] = Unit {0}
BeginsWithNoNumber (word ∷ words) = ¬ IsNumber word
