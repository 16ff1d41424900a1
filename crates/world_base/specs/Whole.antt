-- A whole call of one party, carried out to its end while the others stand still.
use Rattle.std.specs.Prelude.{◌≡◌, ◌≢◌, ℕ, ◌+◌, ◌≤◌, true, List, [], ◌∷◌, ◌++◌, replicate}
use Rattle.world_base.specs.declared.moves.Answer.{Answer}
use Rattle.world_base.specs.declared.moves.Answer.TheVariants.{Stepped}
use Rattle.world_base.specs.declared.moves.Call.{Call}
use Rattle.world_base.specs.declared.moves.Inputs.{Inputs}
use Rattle.world_base.specs.declared.moves.Move.{Move}
use Rattle.world_base.specs.declared.moves.What.TheVariants.{Begin, Go}
use Rattle.world_base.specs.Standings.{Standing, is_outside, is_possible}

-- The party goes on with its call.
abbrev pub going_on : ℕ → Inputs → Move
going_on p inputs = record { party = p; what = Go inputs }

-- The moves of a whole call: the party begins it, and goes on so many times with the same inputs.
abbrev pub moves_of : ℕ → Call → Inputs → ℕ → List Move
moves_of p c inputs more = record { party = p; what = Begin c inputs } ∷ replicate more (going_on p inputs)

-- Their answers: each but the last is Stepped.
abbrev pub answers_of : ℕ → Answer → List Answer
answers_of more a = replicate more Stepped ++ a ∷ []

-- The call is begun and carried out to its end, whose answer this is: a run of so many steps at most, after which its party is outside the call.
pub record IsWholeCall {W : Type 0} (RunsTo : W → List Move → List Answer → W → Type 0) (standing_of : W → ℕ → Standing) (most_steps : Call → ℕ)
    (old : W) (p : ℕ) (c : Call) (inputs : Inputs) (a : Answer) (new : W) : Type 0 where
  pub more : ℕ
  pub runs : RunsTo old (moves_of p c inputs more) (answers_of more a) new
  pub few : more + 1 ≤ most_steps c
  pub ended : a ≢ Stepped
  pub outside : is_possible a ≡ true → is_outside (standing_of new p) ≡ true
