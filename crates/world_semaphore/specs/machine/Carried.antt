-- What a carried out action finds, and leaves of the words and of the list.
use Rattle.std.specs.Prelude.{◌≡◌, ℕ, Bool}
use Rattle.world_base.specs.queue.Weighted.{WeightedQueue, weighted_queue, weight_in}
use Rattle.world_semaphore.specs.declared.machine.words.Words.{Words}
use Rattle.sync_program.specs.declared.permits.Action.{Action}
use Rattle.sync_program.specs.declared.permits.Found.{Found}
use Rattle.world_semaphore.specs.machine.Effects.{Finds, effect_of, words_after, entries_after, weights_after}

-- the words and the list before the action, and then after it
pub record Carried (memory : Bool) (p : ℕ) (a : Action) (f : Found) (v : Words) (l : WeightedQueue) (w : Words) (m : WeightedQueue) : Type 0 where
  pub finds : Finds memory p a f v l.entries
  pub words : w ≡ words_after (effect_of a f) v
  pub list : m ≡ weighted_queue l.parties (entries_after (weight_in l.weights) p (effect_of a f) l.entries) (weights_after p a f l.weights)
