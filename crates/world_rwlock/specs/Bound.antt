-- How often what is free may be passed over: whole polls of notified parties, one after the other, each carried out while the others stand still.
use Rattle.std.specs.Prelude.{◌≡◌, ◌≢◌, ℕ, ◌+◌, ◌<◌, ◌≤◌, ◌⊎◌, true, false, List, length, Some}
use Rattle.lock_event.specs.declared.event.Entry.{Entry}
use Rattle.lock_event.specs.Lists.{marked_count, is_marked_at}
use Rattle.world_base.specs.queue.Parties.{is_party, entries_of}
use Rattle.world_base.specs.declared.moves.Answer.{Answer}
use Rattle.world_base.specs.declared.moves.Answer.TheVariants as answer
use Rattle.world_base.specs.declared.moves.Call.{Call}
use Rattle.world_base.specs.declared.moves.Call.TheVariants as call
use Rattle.world_base.specs.declared.moves.Got.TheVariants.{Value}
use Rattle.world_base.specs.declared.moves.Inputs.{Inputs}
use Rattle.world_base.specs.declared.moves.What.TheVariants.{Begin}
use Rattle.world_base.specs.declared.standing.Rest.TheVariants.{Pending}
use Rattle.world_base.specs.Frame.{is_refusal}
use Rattle.world_base.specs.Rights.{upgradable, write}
use Rattle.world_base.specs.Rosters.{how_many}
use Rattle.world_base.specs.Standings.{outside}
use Rattle.world_base.specs.Bounds as bounds
use Rattle.world_rwlock.specs.State.{ListName, list_of, nobody, is_upgradable, waits_to_write, writes, World, standing_of, sought_by, reads, is_starved, how_many_read, is_marked, is_turn_free, is_upgrader, HasTurn}
use Rattle.world_rwlock.specs.Laws.{is_at_rest}
use Rattle.world_rwlock.specs.Legal.{is_first}
use Rattle.world_rwlock.specs.Whole.{IsWholeCall}
use Rattle.lock_program.specs.declared.refusal.Refusal.TheVariants.{Starved, Readers}
use Rattle.world_base.specs.Standings.{refused}
use Rattle.world_base.specs.Marks.{MarksNobody}

-- ---- Solo polls

-- A solo poll for the turn is of a pending party whose entry in that list is marked, and it finds memory.
abbrev pub IsSoloForTurn : World → ℕ → Inputs → Type 0
IsSoloForTurn w p inputs = bounds.IsSolo (standing_of w p) w.turn_list p inputs

-- A pending party was notified for the turn, and its poll finds memory if it is a write's and somebody reads.
pub record IsToldOfTurn (w : World) (p : ℕ) (inputs : Inputs) : Type 0 where
  pub pending : standing_of w p ≡ outside Pending
  pub marked : is_marked_at (is_party p) w.turn_list ≡ true
  pub memory : sought_by w p ≡ Some write → 0 < how_many_read w → inputs.memory ≡ true

-- A pending party was notified to read, whether or not its poll finds memory.
pub record IsToldToRead (w : World) (p : ℕ) : Type 0 where
  pub pending : standing_of w p ≡ outside Pending
  pub marked : is_marked_at (is_party p) w.no_writer ≡ true

-- A solo poll to write is of a pending party that looks for readers first: it has an entry among those that wait until none is left, marked or not, or its future is an upgrade's, in the list or not. It needs no memory.
pub record IsSoloToWrite (w : World) (p : ℕ) : Type 0 where
  pub pending : standing_of w p ≡ outside Pending
  pub looks : (0 < entries_of p w.no_readers) ⊎ (is_upgrader w p ≡ true)

-- ---- What they do

-- The poll took the turn: it is ready, and its party is upgradable or writes; or it is pending, and its party waits to write.
pub record TakesTurn (w : World) (p : ℕ) (a : Answer) (v : World) : Type 0 where
  pub has_turn : HasTurn v.state.turn p
  pub kept : v.state.value ≡ w.state.value
  pub answered : ((a ≡ answer.Ready (Value v.state.value)) × ((v.state.turn ≡ is_upgradable p) ⊎ (v.state.turn ≡ writes p))) ⊎ ((a ≡ answer.Pending) × (v.state.turn ≡ waits_to_write p))

-- The poll left the turn to nobody and gave way to a starved party: it is pending again, with one entry less in the list of a party that isn't starved. Whoever read reads, and a World at rest stays at rest.
pub record GivesTurnWay (w : World) (p : ℕ) (a : Answer) (v : World) : Type 0 where
  pub free : v.state.turn ≡ nobody
  pub pending : a ≡ answer.Pending
  pub gave_way : bounds.GaveWay p w.state.starved w.turn_list v.state.starved v.turn_list
  pub readers : v.state.readers ≡ w.state.readers
  pub rests : is_at_rest w ≡ true → is_at_rest v ≡ true

-- An upgradable read meets the readers' limit, once it has the turn; a write never does.
abbrev pub MeetsReaders : World → ℕ → Type 0
MeetsReaders w p = (sought_by w p ≡ Some upgradable) × (w.readers_limit ≤ how_many_read w)

-- What a solo poll does to a free turn: it takes it or gives way, unless it is refused, and that only where as many parties are starved as may be, of which it is none, or where it meets the readers' limit; and unless it is refused it takes the turn if its party is starved, or if nobody is.
pub record SoloPollForTurn (w : World) (p : ℕ) (a : Answer) (v : World) : Type 0 where
  pub takes_or_gives_way : is_refusal a ≡ false → TakesTurn w p a v ⊎ GivesTurnWay w p a v
  pub refused : is_refusal a ≡ true → ((how_many w.state.starved ≡ w.starved_limit) × (is_starved w p ≡ false)) ⊎ MeetsReaders w p
  pub takes : (is_starved w p ≡ true) ⊎ (how_many w.state.starved ≡ 0) → TakesTurn w p a v ⊎ (MeetsReaders w p × (is_refusal a ≡ true))
  -- At rest it gives way if its party isn't starved, and another is.
  pub behind : is_at_rest w ≡ true → is_starved w p ≡ false → 0 < how_many w.state.starved → is_refusal a ≡ false → GivesTurnWay w p a v

-- The poll is ready with the value as it was, and its party reads.
pub record TakesToRead (w : World) (p : ℕ) (a : Answer) (v : World) : Type 0 where
  pub ready : a ≡ answer.Ready (Value v.state.value)
  pub kept : v.state.value ≡ w.state.value
  pub reads : reads v p ≡ true

-- The poll is ready with the value as it was, and its party writes.
pub record TakesToWrite (w : World) (p : ℕ) (a : Answer) (v : World) : Type 0 where
  pub ready : a ≡ answer.Ready (Value v.state.value)
  pub kept : v.state.value ≡ w.state.value
  pub writes : v.state.turn ≡ writes p

-- The first poll of a future that takes the turn.
abbrev pub IsFirstForTurn : World → ℕ → Call → Inputs → Type 0
IsFirstForTurn w p c inputs = (is_first w (record { party = p; what = Begin c inputs }) upgradable ≡ true) ⊎ ((is_first w (record { party = p; what = Begin c inputs }) write ≡ true) × (is_upgrader w p ≡ false))

-- What a whole call promises: a solo poll of a free turn takes it or gives way; one of a party that was told to read, or that looks for readers to write, takes that where it is free; where nobody is starved, a party isn't starved at the end that hasn't waited for too long; a first poll of what is free is ready; and a refused poll hands on.
pub record Promises (w : World) (p : ℕ) (c : Call) (inputs : Inputs) (a : Answer) (v : World) : Type 0 where
  pub turn : c ≡ call.Poll → IsSoloForTurn w p inputs → w.state.turn ≡ nobody → SoloPollForTurn w p a v
  -- of a party that was notified for it, it takes it without memory too if its party is starved or nobody is, but for a write beside readers
  pub told : c ≡ call.Poll → IsToldOfTurn w p inputs → w.state.turn ≡ nobody → (MeetsReaders w p → ⊥) → (is_starved w p ≡ true) ⊎ (how_many w.state.starved ≡ 0) → TakesTurn w p a v
  pub reading : c ≡ call.Poll → IsToldToRead w p → is_marked w.state.turn ≡ false → how_many_read w < w.readers_limit → TakesToRead w p a v
  -- such a poll of a party that was told to read is refused where as many read as may
  pub full : c ≡ call.Poll → IsToldToRead w p → is_marked w.state.turn ≡ false → w.readers_limit ≤ how_many_read w → a ≡ refused Readers
  pub writing : c ≡ call.Poll → IsSoloToWrite w p → how_many_read w ≡ 0 → TakesToWrite w p a v
  pub unstarved : inputs.starving ≡ false → how_many w.state.starved ≡ 0 → is_starved v p ≡ false
  -- nor is its call refused then for the number of starved parties
  pub patient : inputs.starving ≡ false → how_many w.state.starved ≡ 0 → a ≢ refused Starved
  -- nor has it notified anybody for the turn then, if it waits for the turn at its end: so waiting parties don't wake one another over a turn that none of them gets
  pub tells_nobody : inputs.starving ≡ false → how_many w.state.starved ≡ 0 → a ≡ answer.Pending → 0 < entries_of p v.turn_list → MarksNobody p w.turn_list v.turn_list
  -- a first poll that finds the turn free is ready: of an upgradable read where readers are below their limit, of a write where nobody reads
  pub first_upgradable : is_first w (record { party = p; what = Begin c inputs }) upgradable ≡ true → is_turn_free w.state ≡ true → how_many_read w < w.readers_limit → a ≡ answer.Ready (Value w.state.value)
  pub first_write : is_first w (record { party = p; what = Begin c inputs }) write ≡ true → is_upgrader w p ≡ false → is_turn_free w.state ≡ true → how_many_read w ≡ 0 → a ≡ answer.Ready (Value w.state.value)
  -- where nobody is starved, a first poll for the turn isn't refused for their number, nor is its party starved at the end, whatever the clock says: it hasn't waited
  pub first_patient : IsFirstForTurn w p c inputs → how_many w.state.starved ≡ 0 → (a ≢ refused Starved) × (is_starved v p ≡ false)
  -- beside a starved party it never takes the turn: it is pending, and its party is starved from then on; or it is refused
  pub newcomer : IsFirstForTurn w p c inputs → 0 < how_many w.state.starved → ((a ≡ answer.Pending) × (is_starved v p ≡ true)) ⊎ (is_refusal a ≡ true)
  -- so while somebody is starved nobody takes the turn but in a poll for which it was notified
  pub only_told : 0 < how_many w.state.starved → (HasTurn w.state.turn p → ⊥) → (c ≡ call.Poll → (standing_of w p ≡ outside Pending) × (is_marked_at (is_party p) w.turn_list ≡ true) → ⊥) → HasTurn v.state.turn p → ⊥
  -- and a notified party that has waited for too long, or beside whom somebody is starved, is starved at its poll's end, where it found the turn taken, if it finds memory and fewer are starved than may be
  pub held : c ≡ call.Poll → IsSoloForTurn w p inputs → (inputs.starving ≡ true) ⊎ (0 < how_many w.state.starved) → how_many w.state.starved < w.starved_limit → w.state.turn ≢ nobody → is_starved v p ≡ true
  -- A refused poll of a party that stood in a list hands on what it was told there: some entry of that list is marked, if there is any.
  pub hands_on : (list : ListName) → c ≡ call.Poll → standing_of w p ≡ outside Pending → 0 < entries_of p (list_of w list) → is_refusal a ≡ true → 0 < length (list_of v list) → 0 < marked_count (list_of v list)

-- ---- Polls that pass over what is free

-- A whole solo poll that isn't refused, and doesn't take the turn.
pub record PassesTurnOver (w : World) (p : ℕ) (inputs : Inputs) (a : Answer) (v : World) : Type 0 where
  pub solo : IsSoloForTurn w p inputs
  pub unrefused : is_refusal a ≡ false
  pub whole : IsWholeCall w p call.Poll inputs a v
  pub not_taken : HasTurn v.state.turn p → ⊥

-- A whole solo poll after which its party doesn't read, while readers are below their limit.
pub record PassesReadingOver (w : World) (p : ℕ) (inputs : Inputs) (a : Answer) (v : World) : Type 0 where
  pub told : IsToldToRead w p
  pub readers_limit : how_many_read w < w.readers_limit
  pub whole : IsWholeCall w p call.Poll inputs a v
  pub not_taken : reads v p ≡ false

-- A whole solo poll after which its party doesn't write.
pub record PassesWritingOver (w : World) (p : ℕ) (inputs : Inputs) (a : Answer) (v : World) : Type 0 where
  pub solo : IsSoloToWrite w p
  pub whole : IsWholeCall w p call.Poll inputs a v
  pub not_taken : v.state.turn ≢ writes p

-- ---- Readers in turn

-- A whole poll of a party that was notified to read.
pub record PollsToRead (w : World) (p : ℕ) (inputs : Inputs) (a : Answer) (v : World) : Type 0 where
  pub told : IsToldToRead w p
  pub whole : IsWholeCall w p call.Poll inputs a v

-- After so many of them as many more read, and the list of waiting readers is as much shorter; and while somebody waits there, there is a next party to poll.
pub record ReadersIn (polls : ℕ) (w v : World) : Type 0 where
  pub read : how_many_read v ≡ how_many_read w + polls
  pub left : length v.no_writer + polls ≡ length w.no_writer
  pub next : 0 < length v.no_writer → bounds.SomeMarked (standing_of v) v.no_writer

-- Where nobody writes or waits to write, as after the drop of a writer's guard, as many polls of notified readers in turn as readers wait let all of them in, up to the readers' limit.
abbrev pub LetsReadersIn : World → Type 0
LetsReadersIn w = is_marked w.state.turn ≡ false → (polls : ℕ) (v : World) → how_many_read w + polls ≤ w.readers_limit → bounds.PolledInTurn PollsToRead polls w v → ReadersIn polls w v

-- ---- What holds at rest

-- Where somebody waits for a free turn, some entry is marked, of a party that is pending, or was when it was forgotten; and fewer solo polls in turn pass the turn over than the list has entries, so that among as many one takes it.
pub record IsTurnBounded (w : World) : Type 0 where
  pub some_marked : bounds.SomeMarked (standing_of w) w.turn_list
  pub one_takes : bounds.OneTakes PassesTurnOver (λ v. v.turn_list) w

-- Where somebody waits in another list for what is free, some entry there is marked, too; and no solo poll passes it over.
pub record IsTakenAtOnce (PassesOver : World → ℕ → Inputs → Answer → World → Type 0) (list : List (Entry ℕ)) (w : World) : Type 0 where
  pub some_marked : bounds.SomeMarked (standing_of w) list
  pub none_passes : (p : ℕ) (inputs : Inputs) (a : Answer) (v : World) → PassesOver w p inputs a v → ⊥

abbrev pub IsReadingBounded : World → Type 0
IsReadingBounded w = IsTakenAtOnce PassesReadingOver w.no_writer w

abbrev pub IsWritingBounded : World → Type 0
IsWritingBounded w = IsTakenAtOnce PassesWritingOver w.no_readers w
