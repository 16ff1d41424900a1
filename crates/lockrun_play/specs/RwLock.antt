-- What a script asks of a read-write lock beyond its moves.
use Rattle.std.specs.Prelude.{ℕ, List, ◌++◌, codes, not, if◌then◌else◌}
use Rattle.lock_event.specs.declared.event.Entry.{Entry}
use Rattle.world_base.specs.Rosters.{how_many}
use Rattle.world_rwlock.specs.State.{World, how_many_read, is_nobody, is_marked}
use Rattle.world_rwlock.specs.Laws.{is_at_rest}
use Rattle.world_rwlock.specs.Lending.{world_with}
use Rattle.lockrun_play.specs.declared.played.Reply.{Reply}
use Rattle.lockrun_play.specs.declared.played.Reply.TheVariants.{Done, NotPossible}
use Rattle.lockrun_play.specs.declared.played.rwlock.Which.{Which}
use Rattle.lockrun_play.specs.declared.played.rwlock.Which.TheVariants as which
use Rattle.lockrun_play.specs.Answers.{list_text}
use Rattle.lockrun_play.specs.States.{rwlock_text}

-- a value is put exactly where nobody is inside a call
abbrev pub put_gives : World → ℕ → Reply × World
put_gives w v = if is_at_rest w then (Done, world_with w v) else (NotPossible, w)

-- no value of a read-write lock can be taken while the lock stays
abbrev pub take_gives : World → Reply × World
take_gives w = (NotPossible, w)

-- each of the lists
abbrev pub list_of : World → Which → List (Entry ℕ)
list_of w which.Turn = w.turn_list
list_of w which.NoReaders = w.no_readers
list_of w which.NoWriter = w.no_writer

-- the numbers of the state
abbrev pub numbers_text : World → List ℕ
numbers_text w = rwlock_text (not (is_nobody w.state.turn)) (how_many w.state.starved) (is_marked w.state.turn) (how_many_read w) w.state.value

-- the state: whether somebody has the turn, how many are starved for it, whether a party waits to write or writes, how many read, the value, and the lists of those that wait for the turn, until no reader is left, and until no writer is
abbrev pub text_of : World → List ℕ
text_of w = numbers_text w
    ++ codes " turnlist=" ++ list_text w.turn_list
    ++ codes " noreaders=" ++ list_text w.no_readers
    ++ codes " nowriter=" ++ list_text w.no_writer
