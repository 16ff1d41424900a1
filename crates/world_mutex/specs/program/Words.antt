-- The word of a mutex, and what an action does to it.
use Rattle.std.specs.Prelude.{◌≡◌, ◌≢◌, ℕ, ◌+◌, ◌<◌, Bool, true, false}
use Rattle.lock_program.specs.declared.mutex.Action.{Action}
use Rattle.lock_program.specs.declared.mutex.Action.TheVariants as act
use Rattle.lock_program.specs.declared.mutex.Found.{Found}
use Rattle.lock_program.specs.declared.mutex.Found.TheVariants.{Done, Free, Held, SomeStarved, AtLimit, NoMemory, Yes, No}
use Rattle.world_mutex.specs.declared.program.word.Word.{Word}

abbrev pub word : Bool → ℕ → ℕ → Word
word held starved limit = record { held = held; starved = starved; limit = limit }

abbrev pub new_word : ℕ → Word
new_word limit = word false 0 limit

-- actions on the word; a list's action leaves the word alone
abbrev pub OnWord : Action → Found → Word → Word → Type 0
OnWord act.Nothing Done v w = w ≡ v
OnWord act.Take Free v w = (v.held ≡ false) × (v.starved ≡ 0) × (w ≡ word true v.starved v.limit)
OnWord act.Take (Held starving) v w = (v.held ≡ true) × (v.starved ≡ 0) × (w ≡ v)
OnWord act.Take SomeStarved v w = (0 < v.starved) × (w ≡ v)
OnWord act.TakeAlone Free v w = (v.held ≡ false) × (v.starved ≡ 1) × (w ≡ word true v.starved v.limit)
OnWord act.TakeAlone (Held starving) v w = (v.held ≡ true) × (w ≡ v)
OnWord act.TakeAlone SomeStarved v w = (v.held ≡ false) × (v.starved ≢ 1) × (w ≡ v)
OnWord act.Set Free v w = (v.held ≡ false) × (w ≡ word true v.starved v.limit)
OnWord act.Set (Held starving) v w = (v.held ≡ true) × (w ≡ v)
OnWord act.Count Done v w = (v.starved < v.limit) × (w ≡ word v.held (v.starved + 1) v.limit)
OnWord act.Count AtLimit v w = (v.starved ≡ v.limit) × (w ≡ v)
OnWord act.Uncount Done v w = (w.starved + 1 ≡ v.starved) × (w ≡ word v.held w.starved v.limit)
OnWord act.Clear Done v w = (v.held ≡ true) × (w ≡ word false v.starved v.limit)
OnWord act.Join Done v w = w ≡ v
OnWord act.Join NoMemory v w = w ≡ v
OnWord act.Ask Yes v w = w ≡ v
OnWord act.Ask No v w = w ≡ v
OnWord act.Leave Done v w = w ≡ v
OnWord act.Notify Done v w = w ≡ v
OnWord _ _ v w = ⊥
