-- How often something that is free may be passed over by polls in turn. What all Worlds share.
use Rattle.std.specs.Prelude.{◌≡◌, ℕ, zero, suc, ◌+◌, ◌<◌, ◌⊎◌, if◌then◌else◌, Bool, true, false, List, [], ◌∷◌, length}
use Rattle.lock_event.specs.declared.event.Entry.{Entry}
use Rattle.lock_event.specs.Lists.{marked_count, is_marked_at}
use Rattle.world_base.specs.queue.Parties.{is_party}
use Rattle.world_base.specs.declared.moves.Answer.{Answer}
use Rattle.world_base.specs.declared.moves.Inputs.{Inputs}
use Rattle.world_base.specs.declared.standing.Rest.TheVariants.{Pending}
use Rattle.world_base.specs.Rosters.{is_on, how_many}
use Rattle.world_base.specs.Standings.{Standing, outside, forgotten}

-- A solo poll is of a party that stands pending and whose entry in this list is marked, and it finds memory.
pub record IsSolo (stands : Standing) (list : List (Entry ℕ)) (p : ℕ) (inputs : Inputs) : Type 0 where
  pub pending : stands ≡ outside Pending
  pub marked : is_marked_at (is_party p) list ≡ true
  pub memory : inputs.memory ≡ true

-- How many of these entries are of parties that aren't starved, by the roster of those that are.
abbrev pub unstarved_in : List Bool → List (Entry ℕ) → ℕ
unstarved_in starved [] = 0
unstarved_in starved (e ∷ es) = (if is_on starved e.key then 0 else 1) + unstarved_in starved es

-- What giving way does to the roster of starved parties and to the list: the party wasn't starved while another was.
pub record GaveWay (p : ℕ) (starved : List Bool) (list : List (Entry ℕ)) (starved_then : List Bool) (list_then : List (Entry ℕ)) : Type 0 where
  pub was_unstarved : is_on starved p ≡ false
  pub some_starved : 0 < how_many starved
  -- From now on it is starved, in a list as long as before,
  pub is_starved : is_on starved_then p ≡ true
  pub as_long : length list_then ≡ length list
  -- in which some entry is marked;
  pub marked : 0 < marked_count list_then
  -- and one entry less is of a party that isn't starved.
  pub fewer : unstarved_in starved_then list_then + 1 ≡ unstarved_in starved list

-- Some entry of the list is marked, of a party that is pending, or was when it was forgotten.
abbrev pub SomeMarked : (ℕ → Standing) → List (Entry ℕ) → Type 0
SomeMarked stands list = (p : ℕ) × (is_marked_at (is_party p) list ≡ true) × ((stands p ≡ outside Pending) ⊎ (stands p ≡ forgotten))

-- A kind of polls: from this World, of this party with these inputs, answered so, to that World.
module _ {W : Type 0} (Polls : W → ℕ → Inputs → Answer → W → Type 0) where
  -- So many such polls in turn lead from w to v, each on the World that the one before left.
  abbrev pub PolledInTurn : ℕ → W → W → Type 0
  PolledInTurn zero w v = v ≡ w
  PolledInTurn (suc n) w v = (p : ℕ) × (inputs : Inputs) × (a : Answer) × (mid : W) × Polls w p inputs a mid × PolledInTurn n mid v

  -- Of polls that pass over what is free: fewer of them in turn than the list has entries, so that among as many one takes it.
  abbrev pub OneTakes : (W → List (Entry ℕ)) → W → Type 0
  OneTakes list w = (n : ℕ) (v : W) → PolledInTurn n w v → n < length (list w)
