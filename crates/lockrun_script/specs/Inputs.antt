-- What inputs of a call words give.
use Rattle.std.specs.Prelude.{◌≡◌, ℕ, Bool, if◌then◌else◌, not, ◌&&◌, List, [], ◌∷◌, ◌++◌, codes, bytes_eq, count_by, filter}
use Rattle.world_base.specs.declared.moves.Inputs.{Inputs}
use Rattle.world_base.specs.declared.moves.Made.{Made}
use Rattle.world_base.specs.declared.moves.Made.TheVariants as made
use Rattle.lockrun_script.specs.Lines.{Writes}

-- the word says what the maker gives: `made=` with a number, or `made=fail`
abbrev pub WritesMade : List ℕ → Made → Type 0
WritesMade word made.Pending = ⊥
WritesMade word (made.Value v) = (digits : List ℕ) × (word ≡ codes "made=" ++ digits) × Writes digits v
WritesMade word made.Fail = word ≡ codes "made=fail"

-- the words say what the maker gives: one does, or none where it is pending
abbrev pub GivesMade : List (List ℕ) → Made → Type 0
GivesMade words made.Pending = words ≡ []
GivesMade words m = (word : List ℕ) × (words ≡ word ∷ []) × WritesMade word m

-- neither `nomem` nor `starving`
abbrev pub is_of_maker : List ℕ → Bool
is_of_maker word = not (bytes_eq word (codes "nomem")) && not (bytes_eq word (codes "starving"))

-- the words give these inputs, in any order: `nomem` stands there once if memory is refused and else not, `starving` once if the party is starving and else not, and all others say what the maker gives
pub record WritesInputs (words : List (List ℕ)) (inputs : Inputs) : Type 0 where
  pub memory : count_by (λ word. bytes_eq word (codes "nomem")) words ≡ (if inputs.memory then 0 else 1)
  pub starving : count_by (λ word. bytes_eq word (codes "starving")) words ≡ (if inputs.starving then 1 else 0)
  pub made : GivesMade (filter is_of_maker words) inputs.made
