-- What whole calls promise, and how often a free inner lock may be passed over: whole polls of notified parties, one after the other, each carried out while the others stand still.
use Rattle.std.specs.Prelude.{◌≡◌, ◌≢◌, ℕ, ◌<◌, ◌⊎◌, true, false, length, Some, None}
use Rattle.lock_event.specs.declared.event.Mark.TheVariants.{Waiting}
use Rattle.lock_event.specs.Lists.{marked_count, is_marked_at}
use Rattle.world_base.specs.queue.Parties.{is_party, entries_of}
use Rattle.world_base.specs.declared.moves.Answer.{Answer}
use Rattle.world_base.specs.declared.moves.Answer.TheVariants as answer
use Rattle.world_base.specs.declared.moves.Call.{Call}
use Rattle.world_base.specs.declared.moves.Call.TheVariants as call
use Rattle.world_base.specs.declared.moves.Got.TheVariants as got
use Rattle.world_base.specs.declared.moves.Inputs.{Inputs}
use Rattle.world_base.specs.declared.moves.What.TheVariants.{Begin}
use Rattle.lock_program.specs.declared.refusal.Refusal.TheVariants as refusal
use Rattle.world_base.specs.declared.standing.Rest.TheVariants.{Pending}
use Rattle.world_base.specs.Rosters.{how_many}
use Rattle.world_base.specs.Standings.{outside, refused}
use Rattle.world_base.specs.Frame.{is_refusal}
use Rattle.world_base.specs.Bounds as bounds
use Rattle.world_barrier.specs.machine.Waits.{Wait, no_wait, uncounted, counted}
use Rattle.world_barrier.specs.declared.world.ListName.TheVariants.{Generation}
use Rattle.world_barrier.specs.Numbers.{Leads, IsFinished, generations_of}
use Rattle.world_barrier.specs.State.{World, standing_of, wait_of, is_starved, is_free, told_in}
use Rattle.world_barrier.specs.Legal.{next_arrival, HasToWait}
use Rattle.world_barrier.specs.AtOnce.{entries_in, is_first_poll}
use Rattle.world_barrier.specs.Changes.{wait_then}
use Rattle.world_barrier.specs.Laws.{is_at_rest}
use Rattle.world_barrier.specs.Whole.{IsWholeCall}
use Rattle.world_base.specs.Marks.{MarksNobody}

-- A solo poll is of a pending party whose entry in the inner lock's list is marked, and it finds memory.
abbrev pub IsSolo : World → ℕ → Inputs → Type 0
IsSolo w p inputs = bounds.IsSolo (standing_of w p) w.lock_list p inputs

-- A pending party was notified in its generation's list, and its poll finds memory if it has to wait again.
pub record IsNotified (w : World) (p : ℕ) (inputs : Inputs) : Type 0 where
  pub pending : standing_of w p ≡ outside Pending
  pub marked : is_marked_at (is_party p) w.list ≡ true
  pub memory : HasToWait w (wait_of w p) → inputs.memory ≡ true

-- A pending party was notified in the inner lock's list, and its poll finds memory if its wait has to wait.
pub record IsToldOfLock (w : World) (p : ℕ) (inputs : Inputs) : Type 0 where
  pub pending : standing_of w p ≡ outside Pending
  pub marked : is_marked_at (is_party p) w.lock_list ≡ true
  pub memory : HasToWait w (wait_of w p) → inputs.memory ≡ true

-- The party is pending, counted as this arrival, and waits in its generation's list.
pub record WaitsOn (p a : ℕ) (given : Answer) (v : World) : Type 0 where
  pub pending : given ≡ answer.Pending
  pub counted : wait_of v p ≡ counted a
  pub waits : told_in Generation v p ≡ Some Waiting

-- An arrival that leads is counted, and its party's wait is ready as the leader's; it is refused where it would finish a generation past the limit.
pub record LeadsNow (w : World) (a : Answer) (v : World) : Type 0 where
  pub leads : Leads w.size (next_arrival w)
  pub within : generations_of w.size w.arrivals < w.generations_limit
  pub ready : a ≡ answer.Ready (got.Leader true)
  pub arrivals : v.arrivals ≡ next_arrival w

pub record IsRefusedToLead (w : World) (p : ℕ) (a : Answer) (v : World) : Type 0 where
  pub leads : Leads w.size (next_arrival w)
  pub limit : generations_of w.size w.arrivals ≡ w.generations_limit
  pub refused : a ≡ refused refusal.Generations
  pub arrivals : v.arrivals ≡ w.arrivals

-- Any other is counted too, and waits for its generation.
pub record ArrivesToWait (w : World) (p : ℕ) (a : Answer) (v : World) : Type 0 where
  pub follows : Leads w.size (next_arrival w) → ⊥
  pub waits : WaitsOn p (next_arrival w) a v
  pub arrivals : v.arrivals ≡ next_arrival w

-- What a poll comes to that has had the inner lock, and has found memory if it had to wait, by what its wait was: one that wasn't counted leads, waits or is refused; a counted one follows if its generation is finished, and else waits on.
abbrev pub ComesTo : Wait → World → ℕ → Answer → World → Type 0
ComesTo uncounted w p a v = LeadsNow w a v ⊎ (IsRefusedToLead w p a v ⊎ ArrivesToWait w p a v)
ComesTo (counted n) w p a v = (v.arrivals ≡ w.arrivals) × ((IsFinished w.size n w.arrivals × (a ≡ answer.Ready (got.Leader false))) ⊎ ((IsFinished w.size n w.arrivals → ⊥) × WaitsOn p n a v))
ComesTo no_wait w p a v = ⊥

-- The poll took the inner lock, did with it what it took it for, and released it: whoever waits for the lock then isn't left without a notified entry.
pub record Takes (w : World) (p : ℕ) (before : Wait) (a : Answer) (v : World) : Type 0 where
  pub comes_to : ComesTo before w p a v
  pub released : v.lock.holder ≡ None
  pub told : 0 < length v.lock_list → 0 < marked_count v.lock_list

-- The poll left the lock free and gave way to a starved party: it is pending again, its wait as it was, with one entry less in the list of a party that isn't starved. A World at rest stays at rest.
pub record GivesWay (w : World) (p : ℕ) (a : Answer) (v : World) : Type 0 where
  pub free : v.lock.holder ≡ None
  pub pending : a ≡ answer.Pending
  pub gave_way : bounds.GaveWay p w.lock.starved w.lock_list v.lock.starved v.lock_list
  pub arrivals : v.arrivals ≡ w.arrivals
  pub wait : wait_of v p ≡ wait_of w p
  pub rests : is_at_rest w ≡ true → is_at_rest v ≡ true

-- What a solo poll does to a free inner lock: it takes it or gives way, unless it is refused as one too many of the starved, and that only where as many are as may be, of which it is none; and whatever the limit, it takes it if its party is starved, or if nobody is.
pub record SoloPoll (w : World) (p : ℕ) (a : Answer) (v : World) : Type 0 where
  pub takes_or_gives_way : a ≢ refused refusal.Starved → Takes w p (wait_of w p) a v ⊎ GivesWay w p a v
  -- At rest it gives way if its party isn't starved, and another is.
  pub behind : is_at_rest w ≡ true → is_starved w.lock p ≡ false → 0 < how_many w.lock.starved → a ≢ refused refusal.Starved → GivesWay w p a v
  pub refused : a ≡ refused refusal.Starved → (how_many w.lock.starved ≡ w.starved_limit) × (is_starved w.lock p ≡ false)
  pub takes : (is_starved w.lock p ≡ true) ⊎ (how_many w.lock.starved ≡ 0) → Takes w p (wait_of w p) a v

-- What a whole call promises beside its end.
pub record Promises (w : World) (p : ℕ) (c : Call) (inputs : Inputs) (a : Answer) (v : World) : Type 0 where
  -- A first poll of a free inner lock where nobody is starved takes it, and so ends as its wait has it then. It needs memory only if it has to wait.
  pub first : is_first_poll (standing_of w p) (Begin c inputs) (entries_in w p) ≡ true → is_free w.lock ≡ true → (HasToWait w (wait_then (Begin c inputs) answer.Stepped (wait_of w p)) → inputs.memory ≡ true) → Takes w p (wait_then (Begin c inputs) answer.Stepped (wait_of w p)) a v
  -- So does a poll of a party that was notified in its generation's list.
  pub notified : c ≡ call.Poll → IsNotified w p inputs → is_free w.lock ≡ true → Takes w p (wait_of w p) a v
  -- And so does one of a party that was notified in the inner lock's list, if it is starved or nobody is. It needs memory only if its wait has to wait.
  pub told : c ≡ call.Poll → IsToldOfLock w p inputs → w.lock.holder ≡ None → (is_starved w.lock p ≡ true) ⊎ (how_many w.lock.starved ≡ 0) → Takes w p (wait_of w p) a v
  -- A solo poll of a free inner lock takes it or gives way.
  pub solo : c ≡ call.Poll → IsSolo w p inputs → w.lock.holder ≡ None → SoloPoll w p a v
  -- Where nobody is starved, a party isn't starved at the end that hasn't waited for too long.
  pub unstarved : inputs.starving ≡ false → how_many w.lock.starved ≡ 0 → is_starved v.lock p ≡ false
  -- Nor is its wait refused then for the number of starved parties.
  pub patient : inputs.starving ≡ false → how_many w.lock.starved ≡ 0 → a ≢ refused refusal.Starved
  -- Nor has its call notified anybody in the inner lock's list then, if it waits there at its end: so waiting parties don't wake one another over a lock that none of them gets.
  pub tells_nobody : inputs.starving ≡ false → how_many w.lock.starved ≡ 0 → a ≡ answer.Pending → 0 < entries_of p v.lock_list → MarksNobody p w.lock_list v.lock_list
  -- Nor is a first poll refused so then, whatever the clock says, nor its party starved at its end: it hasn't waited.
  pub first_patient : is_first_poll (standing_of w p) (Begin c inputs) (entries_in w p) ≡ true → how_many w.lock.starved ≡ 0 → (a ≢ refused refusal.Starved) × (is_starved v.lock p ≡ false)
  -- Beside a starved party a first poll is pending, and its party is starved from then on; or it is refused, and not for what only the lock's holder finds.
  pub newcomer : is_first_poll (standing_of w p) (Begin c inputs) (entries_in w p) ≡ true → 0 < how_many w.lock.starved → ((a ≡ answer.Pending) × (is_starved v.lock p ≡ true)) ⊎ ((a ≡ refused refusal.Memory) ⊎ (a ≡ refused refusal.Starved))
  -- A notified party that has waited for too long, or beside whom somebody is starved, is starved at its poll's end, where it found the lock held, if it finds memory and fewer are starved than may be.
  pub held : c ≡ call.Poll → IsSolo w p inputs → (inputs.starving ≡ true) ⊎ (0 < how_many w.lock.starved) → how_many w.lock.starved < w.starved_limit → w.lock.holder ≢ None → is_starved v.lock p ≡ true
  -- A refused poll of a party that stood in the inner lock's list hands on what it was told: some entry is marked, if there is any.
  pub hands_on : c ≡ call.Poll → standing_of w p ≡ outside Pending → 0 < entries_of p w.lock_list → is_refusal a ≡ true → 0 < length v.lock_list → 0 < marked_count v.lock_list

-- A whole solo poll that isn't refused as one too many of the starved, and doesn't take the inner lock.
pub record PassesOver (w : World) (p : ℕ) (inputs : Inputs) (a : Answer) (v : World) : Type 0 where
  pub solo : IsSolo w p inputs
  pub unrefused : a ≢ refused refusal.Starved
  pub whole : IsWholeCall w p call.Poll inputs a v
  pub not_taken : Takes w p (wait_of w p) a v → ⊥

-- What holds at rest where somebody waits for the inner lock: some entry is marked, of a party that is pending, or was when it was forgotten; and fewer solo polls in turn pass the lock over than the list has entries, so that among as many one takes it.
pub record IsBounded (w : World) : Type 0 where
  pub some_marked : bounds.SomeMarked (standing_of w) w.lock_list
  pub one_takes : bounds.OneTakes PassesOver (λ v. v.lock_list) w
