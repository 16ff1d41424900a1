-- What a carried out action leaves: all that it does to the word and to the list, and what it heeds of the clock.
use Rattle.std.specs.Prelude.{◌≡◌, ℕ, Bool}
use Rattle.world_base.specs.queue.Queues.{Queue}
use Rattle.world_mutex.specs.declared.program.word.Word.{Word}
use Rattle.lock_program.specs.declared.mutex.Action.{Action}
use Rattle.lock_program.specs.declared.mutex.Action.TheVariants as act
use Rattle.lock_program.specs.declared.mutex.Found.{Found}
use Rattle.lock_program.specs.declared.mutex.Found.TheVariants.{Held}
use Rattle.world_mutex.specs.program.Words.{OnWord}
use Rattle.world_mutex.specs.program.Seats.{OnList}

-- the word and the list before the action, and then after it
pub record Carried (memory starving : Bool) (p : ℕ) (a : Action) (f : Found) (v : Word) (l : Queue) (w : Word) (m : Queue) : Type 0 where
  pub word : OnWord a f v w
  pub list : OnList p memory a f l m
  -- a lock that is found held tells how long its party has waited
  pub clock : (long : Bool) → a ≡ act.Take → f ≡ Held long → long ≡ starving
