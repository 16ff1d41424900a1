-- What every step of a World keeps, and what whole calls within a run promise.
use Rattle.std.specs.Prelude.{◌≡◌, ◌≢◌, ℕ, List, [], ◌∷◌, ◌++◌, length}
use Rattle.world_base.specs.declared.moves.Answer.{Answer}
use Rattle.world_base.specs.declared.moves.Answer.TheVariants as answer
use Rattle.world_base.specs.declared.moves.Call.{Call}
use Rattle.world_base.specs.declared.moves.Inputs.{Inputs}
use Rattle.world_base.specs.declared.moves.Move.{Move}
use Rattle.world_base.specs.declared.moves.What.TheVariants.{Begin}
use Rattle.world_base.specs.Runs.{Runs}
use Rattle.world_base.specs.Whole.{moves_of, answers_of}

-- After a step what is known still tells the World's rights, and all is well.
pub record StepsWell {W Known : Type 0} (Tells IsWell : Known → W → Type 0) (known : Known) (w : W) : Type 0 where
  pub tells : Tells known w
  pub well : IsWell known w

-- The move that begins a call.
abbrev pub beginning : ℕ → Call → Inputs → Move
beginning p c i = record { party = p; what = Begin c i }

-- How many steps are left after this answer, of so many: none unless the call goes on.
abbrev pub left_by : Answer → ℕ → ℕ
left_by answer.Stepped left = left
left_by _ left = 0

-- What is known after these moves with these answers.
abbrev pub known_by : {Known : Type 0} → (Known → Move → Answer → Known) → Known → List Move → List Answer → Known
known_by learn known [] answers = known
known_by learn known (m ∷ ms) [] = known
known_by learn known (m ∷ ms) (a ∷ more) = known_by learn (learn known m a) ms more

module _ {W Known : Type 0} (Legal : W → Move → Answer → W → Type 0) (learn : Known → Move → Answer → Known) (IsWell : Known → W → Type 0) (Promises : W → ℕ → Call → Inputs → Answer → W → Type 0) where
  -- A whole call within a run: it begins at the one World and ends at the other, and keeps its promise.
  pub record KeepsPromise (known : Known) (w : W) (before : List Move) (told : List Answer) (p : ℕ) (c : Call) (i : Inputs) (n : ℕ) (a : Answer) (after : List Move) (more : List Answer) (v : W) : Type 0 where
    pub from : W
    pub to : W
    pub until : Runs Legal learn IsWell known w before told from
    pub kept : Promises from p c i a to
    pub since : Runs Legal learn IsWell (known_by learn (known_by learn known before told) (moves_of p c i n) (answers_of n a)) to after more v

  -- Wherever the moves of a party's whole call stand in a run, answered to its end, the call keeps its promise.
  abbrev pub KeepsPromises : Known → W → List Move → List Answer → W → Type 0
  KeepsPromises known w moves answers v = (before : List Move) (told : List Answer) (p : ℕ) (c : Call) (i : Inputs) (n : ℕ) (a : Answer) (after : List Move) (more : List Answer)
      → moves ≡ before ++ (moves_of p c i n ++ after) → answers ≡ told ++ (answers_of n a ++ more) → length told ≡ length before → a ≢ answer.Stepped
      → KeepsPromise known w before told p c i n a after more v

  -- A run whose answers stand after these, and within which whole calls keep their promises.
  pub record RunsInto (known : Known) (w : W) (moves : List Move) (old new : List Answer) (v : W) : Type 0 where
    pub answers : List Answer
    pub added : new ≡ old ++ answers
    pub runs : Runs Legal learn IsWell known w moves answers v
    pub promised : KeepsPromises known w moves answers v
