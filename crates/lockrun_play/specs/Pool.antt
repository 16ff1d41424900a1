-- What a script asks of a pool beyond its moves.
use Rattle.std.specs.Prelude.{ℕ, List, ◌++◌, codes, decimal, map, ◌==◌}
use Rattle.std.specs.List.{join_with_byte}
use Rattle.world_mutex.specs.machine.Mutex.{holders, starved}
use Rattle.world_pool.specs.State.{World, available, limit}
use Rattle.lockrun_play.specs.declared.played.Reply.{Reply}
use Rattle.lockrun_play.specs.declared.played.Reply.TheVariants.{NotPossible}
use Rattle.lockrun_play.specs.Answers.{list_text}
use Rattle.lockrun_play.specs.States.{pool_text, pool_lock_text}

-- a pool's items are neither put nor taken from outside every call
abbrev pub put_gives : World → ℕ → Reply × World
put_gives w v = (NotPossible, w)

abbrev pub take_gives : World → Reply × World
take_gives w = (NotPossible, w)

-- the items in brackets, with a space, the byte 32, between any two
abbrev pub items_text : List ℕ → List ℕ
items_text items = codes "[" ++ join_with_byte 32 (map decimal items) ++ codes "]"

-- the permits and those that wait for one
abbrev pub permits_text : World → List ℕ
permits_text w = pool_text (available w) (limit w) ++ codes " list=" ++ list_text w.semaphore.entries

-- and of the lock of the list whether somebody has it, and how many are starved for it
abbrev pub locked_text : World → List ℕ
locked_text w = permits_text w ++ pool_lock_text (holders w.lock == 1) (starved w.lock)

-- the state
abbrev pub text_of : World → List ℕ
text_of w = locked_text w
    ++ codes " lock=" ++ list_text w.lock.entries
    ++ codes " items=" ++ items_text w.items
