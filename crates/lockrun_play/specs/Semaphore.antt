-- What a script asks of a semaphore beyond its moves.
use Rattle.std.specs.Prelude.{ℕ, List, ◌++◌, codes}
use Rattle.world_semaphore.specs.State.{World, available}
use Rattle.lockrun_play.specs.declared.played.Reply.{Reply}
use Rattle.lockrun_play.specs.declared.played.Reply.TheVariants.{NotPossible}
use Rattle.lockrun_play.specs.Answers.{list_text}
use Rattle.lockrun_play.specs.States.{semaphore_text}

-- a semaphore has no value
abbrev pub put_gives : World → ℕ → Reply × World
put_gives w v = (NotPossible, w)

abbrev pub take_gives : World → Reply × World
take_gives w = (NotPossible, w)

-- the numbers of the state
abbrev pub numbers_text : World → List ℕ
numbers_text w = semaphore_text (available w.state) w.state.limit

-- the state
abbrev pub text_of : World → List ℕ
text_of w = numbers_text w
    ++ codes " list=" ++ list_text w.entries
