-- What a carried out action leaves: all that it does to the word, to the two lists and to the turn.
use Rattle.std.specs.Prelude.{◌≡◌, ℕ, Bool}
use Rattle.world_base.specs.queue.Queues.{Queue}
use Rattle.world_mutex.specs.machine.Mutex.{Mutex}
use Rattle.world_rwlock.specs.declared.program.word.Word.{Word}
use Rattle.sync_program.specs.declared.rwlock.Action.{Action}
use Rattle.sync_program.specs.declared.rwlock.Found.{Found}
use Rattle.world_rwlock.specs.program.Words.{OnWord}
use Rattle.world_rwlock.specs.program.Parties.{FindsMemory, OnNoWriter, OnNoReaders}
use Rattle.world_rwlock.specs.program.Turns.{OnTurn}

-- the word, the lists and the turn before the action, and then after it
pub record Carried (has_room starving : Bool) (p : ℕ) (a : Action) (f : Found) (v : Word) (l m : Queue) (t : Mutex) (w : Word) (l2 m2 : Queue) (u : Mutex) : Type 0 where
  pub word : OnWord a f v w
  pub no_writer : OnNoWriter p a f l.entries l2.entries
  pub no_readers : OnNoReaders p a f m.entries m2.entries
  pub parties_w : l2.parties ≡ l.parties
  pub parties_r : m2.parties ≡ m.parties
  pub turn : OnTurn has_room starving p a f t u
  pub memory : FindsMemory has_room a f
