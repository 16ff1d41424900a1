-- How often a free lock may be passed over: whole polls of notified parties, one after the other, each carried out while the others stand still.
use Rattle.std.specs.Prelude.{◌≡◌, ◌≢◌, ℕ, ◌<◌, ◌⊎◌, true, false, length, Some, None}
use Rattle.lock_event.specs.Lists.{marked_count, is_marked_at}
use Rattle.world_base.specs.queue.Parties.{is_party, entries_of}
use Rattle.world_base.specs.declared.moves.Answer.{Answer}
use Rattle.world_base.specs.declared.moves.Answer.TheVariants as answer
use Rattle.world_base.specs.declared.moves.Call.{Call}
use Rattle.world_base.specs.declared.moves.Call.TheVariants as call
use Rattle.world_base.specs.declared.moves.Got.TheVariants.{Value}
use Rattle.world_base.specs.declared.moves.Inputs.{Inputs}
use Rattle.lock_program.specs.declared.refusal.Refusal.TheVariants.{Starved}
use Rattle.world_base.specs.Rosters.{how_many}
use Rattle.world_base.specs.declared.moves.What.TheVariants.{Begin}
use Rattle.world_base.specs.declared.standing.Rest.TheVariants.{Pending}
use Rattle.world_base.specs.Standings.{outside, refused}
use Rattle.world_base.specs.Frame.{is_refusal}
use Rattle.world_base.specs.Bounds as bounds
use Rattle.world_mutex.specs.State.{World, standing_of, is_starved, is_free}
use Rattle.world_mutex.specs.Legal.{is_first_poll}
use Rattle.world_mutex.specs.Laws.{is_at_rest}
use Rattle.world_mutex.specs.Whole.{IsWholeCall}
use Rattle.world_base.specs.Marks.{MarksNobody}

-- A solo poll is of a pending party whose entry is marked, and it finds memory.
abbrev pub IsSolo : World → ℕ → Inputs → Type 0
IsSolo w p inputs = bounds.IsSolo (standing_of w p) w.entries p inputs

-- A pending party whose entry is marked: it was notified, whether or not its poll finds memory.
pub record IsNotified (w : World) (p : ℕ) : Type 0 where
  pub pending : standing_of w p ≡ outside Pending
  pub marked : is_marked_at (is_party p) w.entries ≡ true

-- The poll took the lock: it answers Ready with the value as it was, and its party is the holder.
pub record Takes (w : World) (p : ℕ) (a : Answer) (v : World) : Type 0 where
  pub ready : a ≡ answer.Ready (Value v.state.value)
  pub kept : v.state.value ≡ w.state.value
  pub holder : v.state.holder ≡ Some p

-- The poll left the lock free and gave way to a starved party: it is pending again, with one entry less in the list of a party that isn't starved. A World at rest stays at rest.
pub record GivesWay (w : World) (p : ℕ) (a : Answer) (v : World) : Type 0 where
  pub free : v.state.holder ≡ None
  pub pending : a ≡ answer.Pending
  pub gave_way : bounds.GaveWay p w.state.starved w.entries v.state.starved v.entries
  pub rests : is_at_rest w ≡ true → is_at_rest v ≡ true

-- What a solo poll does to a free lock: it takes it or gives way, unless it is refused, and that only where as many parties are starved as may be, of which it is none; and whatever the limit, it takes it if its party is starved, or if nobody is.
pub record SoloPoll (w : World) (p : ℕ) (a : Answer) (v : World) : Type 0 where
  pub takes_or_gives_way : is_refusal a ≡ false → Takes w p a v ⊎ GivesWay w p a v
  pub refused : is_refusal a ≡ true → (how_many w.state.starved ≡ w.limit) × (is_starved w.state p ≡ false)
  pub takes : (is_starved w.state p ≡ true) ⊎ (how_many w.state.starved ≡ 0) → Takes w p a v

-- What a whole call promises those that wait for too long.
pub record ServesStarved (w : World) (p : ℕ) (c : Call) (inputs : Inputs) (a : Answer) (v : World) : Type 0 where
  -- A notified party that has waited for too long, or beside whom somebody is starved, has the lock at its poll's end or is starved, if it finds memory and fewer are than may be.
  pub counted : c ≡ call.Poll → IsSolo w p inputs → (inputs.starving ≡ true) ⊎ (0 < how_many w.state.starved) → how_many w.state.starved < w.limit → (v.state.holder ≡ Some p) ⊎ (is_starved v.state p ≡ true)
  -- It is starved, where it found the lock held.
  pub held : c ≡ call.Poll → IsSolo w p inputs → (inputs.starving ≡ true) ⊎ (0 < how_many w.state.starved) → how_many w.state.starved < w.limit → w.state.holder ≢ None → is_starved v.state p ≡ true
  -- At rest it doesn't take the lock while another is starved and it isn't.
  pub behind : c ≡ call.Poll → IsNotified w p → is_at_rest w ≡ true → is_starved w.state p ≡ false → 0 < how_many w.state.starved → v.state.holder ≢ Some p
  -- A first poll never takes the lock while somebody is starved: it is pending, and its party is starved from then on; or it is refused.
  pub newcomer : is_first_poll (standing_of w p) (Begin c inputs) (entries_of p w.entries) ≡ true → 0 < how_many w.state.starved → ((a ≡ answer.Pending) × (is_starved v.state p ≡ true)) ⊎ (is_refusal a ≡ true)
  -- So while somebody is starved nobody takes the lock but in a poll for which it was notified.
  pub only_told : 0 < how_many w.state.starved → w.state.holder ≢ Some p → (c ≡ call.Poll → IsNotified w p → ⊥) → v.state.holder ≢ Some p

-- What a whole call promises beside its end.
pub record Promises (w : World) (p : ℕ) (c : Call) (inputs : Inputs) (a : Answer) (v : World) : Type 0 where
  -- A first poll of a free lock where nobody is starved is ready.
  pub first : is_first_poll (standing_of w p) (Begin c inputs) (entries_of p w.entries) ≡ true → is_free w.state ≡ true → a ≡ answer.Ready (Value w.state.value)
  -- A solo poll of a free lock takes it or gives way.
  pub solo : c ≡ call.Poll → IsSolo w p inputs → w.state.holder ≡ None → SoloPoll w p a v
  -- A poll of a notified party takes a free lock if it is starved, or if nobody is. It needs no memory.
  pub notified : c ≡ call.Poll → IsNotified w p → w.state.holder ≡ None → (is_starved w.state p ≡ true) ⊎ (how_many w.state.starved ≡ 0) → Takes w p a v
  -- Where nobody is starved, a party isn't starved at the end that hasn't waited for too long.
  pub unstarved : inputs.starving ≡ false → how_many w.state.starved ≡ 0 → is_starved v.state p ≡ false
  -- Nor has its call notified anybody then that is pending at the end: so waiting parties don't wake one another over a lock that none of them gets.
  pub tells_nobody : inputs.starving ≡ false → how_many w.state.starved ≡ 0 → a ≡ answer.Pending → MarksNobody p w.entries v.entries
  -- Nor is its call refused then for the number of starved parties.
  pub patient : inputs.starving ≡ false → how_many w.state.starved ≡ 0 → a ≢ refused Starved
  -- Nor is a first poll, whatever the clock says: it hasn't waited.
  pub first_patient : is_first_poll (standing_of w p) (Begin c inputs) (entries_of p w.entries) ≡ true → how_many w.state.starved ≡ 0 → a ≢ refused Starved
  -- Nor is its party starved at its end: it hasn't waited.
  pub first_unstarved : is_first_poll (standing_of w p) (Begin c inputs) (entries_of p w.entries) ≡ true → how_many w.state.starved ≡ 0 → is_starved v.state p ≡ false
  -- A refused poll of a party that stood in the list hands on what it was told: some entry is marked, if there is any.
  pub hands_on : c ≡ call.Poll → standing_of w p ≡ outside Pending → 0 < entries_of p w.entries → is_refusal a ≡ true → 0 < length v.entries → 0 < marked_count v.entries
  -- Whoever has waited for too long is counted as starved, and nobody new comes before the starved.
  pub serves_starved : ServesStarved w p c inputs a v

-- A whole solo poll that isn't refused, and doesn't take the lock.
pub record PassesOver (w : World) (p : ℕ) (inputs : Inputs) (a : Answer) (v : World) : Type 0 where
  pub solo : IsSolo w p inputs
  pub unrefused : is_refusal a ≡ false
  pub whole : IsWholeCall w p call.Poll inputs a v
  pub not_taken : v.state.holder ≢ Some p

-- What holds at rest where somebody waits for a free lock: some entry is marked, of a party that is pending, or was when it was forgotten; and fewer solo polls in turn pass the lock over than the list has entries, so that among as many one takes it.
pub record IsBounded (w : World) : Type 0 where
  pub some_marked : bounds.SomeMarked (standing_of w) w.entries
  pub one_takes : bounds.OneTakes PassesOver (λ v. v.entries) w
