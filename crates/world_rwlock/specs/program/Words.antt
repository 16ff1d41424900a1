-- The word of a read-write lock, and what an action does to it.
use Rattle.std.specs.Prelude.{◌≡◌, ◌≢◌, ℕ, ◌+◌, ◌<◌, ◌≤◌, Bool, true, false}
use Rattle.world_rwlock.specs.declared.program.word.Word.{Word}
use Rattle.sync_program.specs.declared.rwlock.Action.{Action}
use Rattle.sync_program.specs.declared.rwlock.Action.TheVariants as act
use Rattle.sync_program.specs.declared.rwlock.Found.{Found}
use Rattle.sync_program.specs.declared.rwlock.Found.TheVariants.{Done, Writer, Full, NoneLeft, SomeLeft, NotFree}

abbrev pub word : Bool → ℕ → ℕ → Word
word writer readers limit = record { writer = writer; readers = readers; limit = limit }

abbrev pub new_word : ℕ → Word
new_word limit = word false 0 limit

-- actions on the word; one on a list or on the turn leaves the word alone
abbrev pub OnWord : Action → Found → Word → Word → Type 0
OnWord act.Nothing Done v w = w ≡ v
OnWord act.Nothing _ v w = ⊥
OnWord act.Read Done v w = (v.writer ≡ false) × (v.readers < v.limit) × (w ≡ word false (v.readers + 1) v.limit)
OnWord act.Read Writer v w = (v.writer ≡ true) × (w ≡ v)
OnWord act.Read Full v w = (v.writer ≡ false) × (v.limit ≤ v.readers) × (w ≡ v)
OnWord act.Read _ v w = ⊥
OnWord act.Add Done v w = (v.readers < v.limit) × (w ≡ word v.writer (v.readers + 1) v.limit)
OnWord act.Add Full v w = (v.limit ≤ v.readers) × (w ≡ v)
OnWord act.Add _ v w = ⊥
OnWord act.Off NoneLeft v w = (v.readers ≡ 1) × (w ≡ word v.writer 0 v.limit)
OnWord act.Off SomeLeft v w = (0 < w.readers) × (w.readers + 1 ≡ v.readers) × (w ≡ word v.writer w.readers v.limit)
OnWord act.Off _ v w = ⊥
OnWord act.Load NoneLeft v w = (v.readers ≡ 0) × (w ≡ v)
OnWord act.Load SomeLeft v w = (0 < v.readers) × (w ≡ v)
OnWord act.Load _ v w = ⊥
OnWord act.Mark NoneLeft v w = (v.readers ≡ 0) × (w ≡ word true v.readers v.limit)
OnWord act.Mark SomeLeft v w = (0 < v.readers) × (w ≡ word true v.readers v.limit)
OnWord act.Mark _ v w = ⊥
OnWord act.TryWrite Done v w = (v.writer ≡ false) × (v.readers ≡ 0) × (w ≡ word true v.readers v.limit)
OnWord act.TryWrite NotFree v w = (v.writer ≡ false → 0 < v.readers) × (w ≡ v)
OnWord act.TryWrite _ v w = ⊥
OnWord act.TryUpgrade Done v w = (v.writer ≡ false) × (v.readers ≡ 1) × (w ≡ word true 0 v.limit)
OnWord act.TryUpgrade NotFree v w = (v.writer ≡ false → v.readers ≢ 1) × (w ≡ v)
OnWord act.TryUpgrade _ v w = ⊥
OnWord act.Upgrade Done v w = (w.readers + 1 ≡ v.readers) × (w ≡ word true w.readers v.limit)
OnWord act.Upgrade _ v w = ⊥
OnWord act.Down Done v w = w ≡ word false (v.readers + 1) v.limit
OnWord act.Down _ v w = ⊥
OnWord act.Unmark Done v w = w ≡ word false v.readers v.limit
OnWord act.Unmark _ v w = ⊥
OnWord _ f v w = w ≡ v
