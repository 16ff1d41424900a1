-- What a script asks of a mutex beyond its moves.
use Rattle.std.specs.Prelude.{ℕ, List, ◌++◌, codes, is_some, if◌then◌else◌}
use Rattle.world_base.specs.Rosters.{how_many}
use Rattle.world_mutex.specs.State.{World}
use Rattle.world_mutex.specs.Laws.{is_at_rest}
use Rattle.world_mutex.specs.Lending.{world_with}
use Rattle.lockrun_play.specs.declared.played.Reply.{Reply}
use Rattle.lockrun_play.specs.declared.played.Reply.TheVariants.{Done, NotPossible}
use Rattle.lockrun_play.specs.Answers.{list_text}
use Rattle.lockrun_play.specs.States.{mutex_text}

-- a value is put exactly where nobody is inside a call
abbrev pub put_gives : World → ℕ → Reply × World
put_gives w v = if is_at_rest w then (Done, world_with w v) else (NotPossible, w)

-- no value of a mutex can be taken while the mutex stays
abbrev pub take_gives : World → Reply × World
take_gives w = (NotPossible, w)

-- the numbers of the state
abbrev pub numbers_text : World → List ℕ
numbers_text w = mutex_text (is_some w.state.holder) (how_many w.state.starved) w.state.value

-- the state
abbrev pub text_of : World → List ℕ
text_of w = numbers_text w
    ++ codes " list=" ++ list_text w.entries
