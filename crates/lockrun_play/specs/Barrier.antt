-- What a script asks of a barrier beyond its moves.
use Rattle.std.specs.Prelude.{ℕ, List, ◌++◌, codes, is_some}
use Rattle.world_base.specs.Rosters.{how_many}
use Rattle.world_barrier.specs.Numbers.{generations_of, count_of}
use Rattle.world_barrier.specs.State.{World}
use Rattle.lockrun_play.specs.declared.played.Reply.{Reply}
use Rattle.lockrun_play.specs.declared.played.Reply.TheVariants.{NotPossible}
use Rattle.lockrun_play.specs.Answers.{list_text}
use Rattle.lockrun_play.specs.States.{barrier_text}

-- a barrier has no value
abbrev pub put_gives : World → ℕ → Reply × World
put_gives w v = (NotPossible, w)

abbrev pub take_gives : World → Reply × World
take_gives w = (NotPossible, w)

-- the numbers of the state
abbrev pub numbers_text : World → List ℕ
numbers_text w = barrier_text (count_of w.size w.arrivals) (generations_of w.size w.arrivals) (is_some w.lock.holder) (how_many w.lock.starved)

-- the state
abbrev pub text_of : World → List ℕ
text_of w = numbers_text w
    ++ codes " lock=" ++ list_text w.lock_list
    ++ codes " list=" ++ list_text w.list
