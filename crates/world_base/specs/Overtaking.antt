-- How often a starved party may be overtaken that waits in a list: by whole calls of others, one after the other, and by their steps as they come. What all Worlds share.
use Rattle.std.specs.Prelude.{◌≡◌, ◌≢◌, ℕ, zero, suc, ◌+◌, ◌<◌, ◌≤◌, ◌==◌, ◌⊎◌, if◌then◌else◌, Bool, true, List, [], ◌∷◌}
use Rattle.lock_event.specs.declared.event.Entry.{Entry}
use Rattle.world_base.specs.queue.Parties.{entries_of}
use Rattle.world_base.specs.declared.moves.Answer.{Answer}
use Rattle.world_base.specs.declared.moves.Call.{Call}
use Rattle.world_base.specs.declared.moves.Inputs.{Inputs}
use Rattle.world_base.specs.declared.moves.Move.{Move}
use Rattle.world_base.specs.Standings.{Standing, is_outside}

-- How many entries stand before the party's.
abbrev pub before : ℕ → List (Entry ℕ) → ℕ
before q [] = 0
before q (e ∷ es) = if e.key == q then 0 else 1 + before q es

-- A World has whole calls, a list in which parties wait for something, and tells who is starved for it and who has it.
module _ {W : Type 0} (Whole : W → ℕ → Call → Inputs → Answer → W → Type 0) (list : W → List (Entry ℕ)) (is_starved : W → ℕ → Bool) (Has : W → ℕ → Type 0) where
  -- A whole call of another party, begun while this one is starved and stands in the list, told or not.
  pub record Passes (q : ℕ) (w : W) (p : ℕ) (c : Call) (inputs : Inputs) (a : Answer) (v : W) : Type 0 where
    pub another : p ≢ q
    pub starved : is_starved w q ≡ true
    pub listed : 0 < entries_of q (list w)
    pub whole : Whole w p c inputs a v

  -- The party has it now, and hadn't before.
  abbrev pub Gets : W → ℕ → W → Type 0
  Gets w p v = (Has w p → ⊥) × Has v p

  -- So many such calls lead from w to v, and n of them got it for their parties.
  abbrev pub Overtaken : ℕ → ℕ → ℕ → W → W → Type 0
  Overtaken q zero n w v = (n ≡ 0) × (v ≡ w)
  Overtaken q (suc calls) n w v = (p : ℕ) × (c : Call) × (inputs : Inputs) × (a : Answer) × (mid : W) × Passes q w p c inputs a mid × (m : ℕ) × Overtaken q calls m mid v × ((n ≡ m) ⊎ ((n ≡ m + 1) × Gets w p mid))

  -- However many calls others make, no more of them get it than entries stood before the starved party's, until it moves itself.
  abbrev pub IsOvertakenSeldom : W → Type 0
  IsOvertakenSeldom w = (q calls n : ℕ) (v : W) → Overtaken q calls n w v → n ≤ before q (list w)

-- How many parties are inside calls.
abbrev pub how_many_inside : List Standing → ℕ
how_many_inside [] = 0
how_many_inside (s ∷ ss) = (if is_outside s then 0 else 1) + how_many_inside ss

-- The same where calls interleave: a World has legal steps, and tells how its parties stand.
module _ {W : Type 0} (Steps : W → Move → Answer → W → Type 0) (list : W → List (Entry ℕ)) (is_starved : W → ℕ → Bool) (Has : W → ℕ → Type 0) (standings : W → List Standing) where
  -- A step of another party, while this one is starved and stands in the list, told or not.
  pub record StepsPast (q : ℕ) (w : W) (m : Move) (a : Answer) (v : W) : Type 0 where
    pub another : m.party ≢ q
    pub starved : is_starved w q ≡ true
    pub listed : 0 < entries_of q (list w)
    pub step : Steps w m a v

  -- So many such steps lead from w to v, and by n of them their parties got it.
  abbrev pub OvertakenInSteps : ℕ → ℕ → ℕ → W → W → Type 0
  OvertakenInSteps q zero n w v = (n ≡ 0) × (v ≡ w)
  OvertakenInSteps q (suc steps) n w v = (m : Move) × (a : Answer) × (mid : W) × StepsPast q w m a mid × (k : ℕ) × OvertakenInSteps q steps k mid v × ((n ≡ k) ⊎ ((n ≡ k + 1) × (Has w m.party → ⊥) × Has mid m.party))

  -- However the others step, no more of them get it than entries stood before the starved party's and parties were inside calls, until it moves itself.
  abbrev pub IsOvertakenSeldomInSteps : W → Type 0
  IsOvertakenSeldomInSteps w = (q steps n : ℕ) (v : W) → OvertakenInSteps q steps n w v → n ≤ before q (list w) + how_many_inside (standings w)
