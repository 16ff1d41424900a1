-- The words of a barrier: how many parties it waits for, how many generations it may finish, and how far it is.
use Rattle.std.specs.Prelude.{◌≡◌, ◌≢◌, ℕ, zero, suc, ◌+◌, ◌*◌, ◌<◌, ◌≤◌}
use Rattle.sync_program.specs.declared.barrier.Found.{Found}
use Rattle.sync_program.specs.declared.barrier.Found.TheVariants.{MustWait, Leads, Past, Finished, Unfinished}
use Rattle.world_barrier.specs.declared.program.words.Progress.{Progress}
use Rattle.world_barrier.specs.declared.program.words.Words.{Words}

-- so many finished generations, and so many arrivals towards the next one
abbrev pub progress : ℕ → ℕ → Progress
progress generation count = record { generation = generation; count = count }

-- nobody has arrived
abbrev pub new_words : ℕ → ℕ → Words
new_words size most = record { size = size; most = most; progress = progress 0 0 }

abbrev pub with_progress : Words → Progress → Words
with_progress w x = record { size = w.size; most = w.most; progress = x }

-- How many arrivals a barrier for so many parties has counted: a finished generation has one of each party, or one alone where the barrier is for none. Just after an arrival it is that arrival's number.
abbrev pub arrivals_at : ℕ → Progress → ℕ
arrivals_at zero x = x.generation
arrivals_at (suc n) x = suc n * x.generation + x.count

-- What an arrival has to do: wait, since more have to come; lead, since it finishes its generation; or be refused, since it would finish one too many.
abbrev pub FindsLook : Found → Words → Type 0
FindsLook MustWait w = w.progress.count + 1 < w.size
FindsLook Leads w = (w.size ≤ w.progress.count + 1) × (w.progress.generation < w.most)
FindsLook Past w = (w.size ≤ w.progress.count + 1) × (w.most ≤ w.progress.generation)
FindsLook _ w = ⊥

-- Whether the generation of an arrival is finished.
abbrev pub FindsCheck : Progress → Found → Words → Type 0
FindsCheck a Finished w = a.generation ≢ w.progress.generation
FindsCheck a Unfinished w = a.generation ≡ w.progress.generation
FindsCheck a _ w = ⊥

-- ---- What always holds

-- Fewer are counted towards the next generation than it needs, and no generation is past the limit.
pub record IsSound (w : Words) : Type 0 where
  pub unfinished : 0 < w.progress.count → w.progress.count < w.size
  pub within : w.progress.generation ≤ w.most

-- An arrival was counted before, or is the last one.
pub record IsPast (a x : Progress) : Type 0 where
  pub generation : a.generation ≤ x.generation
  pub count : a.generation ≡ x.generation → a.count ≤ x.count

-- What an arrival may be: fewer are counted towards its generation than that needs, at a barrier for so many parties.
abbrev pub IsWithin : ℕ → Progress → Type 0
IsWithin size a = 0 < a.count → a.count < size

-- An arrival that didn't finish its generation, at a barrier for so many parties.
pub record IsFollower (size : ℕ) (a : Progress) : Type 0 where
  pub counted : 0 < a.count
  pub unfinished : a.count < size
