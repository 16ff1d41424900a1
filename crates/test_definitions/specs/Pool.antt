-- Runs of a pool that no user would accept. Each record is one wrong run: what its steps would be, if it were legal.
use Rattle.std.specs.Prelude.{◌≡◌, ◌≢◌, ℕ, ◌+◌, ◌<◌, ◌≤◌, true, false, length, Some, None}
use Rattle.lock_event.specs.Lists.{marked_count}
use Rattle.world_base.specs.queue.Parties.{entries_of}
use Rattle.world_base.specs.declared.moves.Answer.{Answer}
use Rattle.world_base.specs.declared.moves.Answer.TheVariants as answer
use Rattle.world_base.specs.declared.moves.Call.TheVariants as call
use Rattle.world_base.specs.declared.moves.Got.{Got}
use Rattle.world_base.specs.declared.moves.Got.TheVariants as got
use Rattle.world_base.specs.declared.moves.Inputs.{Inputs}
use Rattle.world_base.specs.declared.moves.Move.{Move}
use Rattle.world_base.specs.declared.standing.Kind.TheVariants as kind
use Rattle.world_base.specs.declared.standing.Rest.TheVariants.{Holding}
use Rattle.world_base.specs.declared.standing.Within.{Within}
use Rattle.world_base.specs.Frame.{is_poll_after_ready}
use Rattle.world_base.specs.Rosters.{how_many}
use Rattle.world_base.specs.Standings.{outside}
use Rattle.world_mutex.specs.machine.Mutex.{holders, starved}
use Rattle.world_semaphore.specs.machine.Permits.{size_of}
use Rattle.world_pool.specs.AtOnce.{AnswersAtOnce, is_first_take, is_try, is_lease_drop}
use Rattle.world_pool.specs.Bound.{IsSolo, Promises}
use Rattle.world_pool.specs.Laws.{IsSound, IsAwake}
use Rattle.world_pool.specs.Legal.{Legal, call_of, is_carrying}
use Rattle.world_pool.specs.State.{World, standing_of, lease_of, gives, available, limit, lost, made, HasPermit, HoldsLock}
use Rattle.world_pool.specs.machine.Machine.{in_list, how_many_leased}

-- A move of a party, and what it leads to.
pub record Step : Type 0 where
  pub old : World
  pub move : Move
  pub answer : Answer
  pub new : World

abbrev pub IsLegal : Step → Type 0
IsLegal s = Legal s.old s.move s.answer s.new

abbrev pub IsAtOnce : Step → Type 0
IsAtOnce s = AnswersAtOnce s.old s.move s.answer s.new

-- Two parties have the same item leased.
pub record LeasedTwice : Type 0 where
  pub world : World
  pub one : ℕ
  pub other : ℕ
  pub item : ℕ
  pub leased : lease_of world one ≡ Some item
  pub leased_too : lease_of world other ≡ Some item
  pub apart : one ≢ other
  pub sound : IsSound world

-- A leased item stands in the list.
pub record LeasedAndListed : Type 0 where
  pub world : World
  pub party : ℕ
  pub item : ℕ
  pub leased : lease_of world party ≡ Some item
  pub listed : 0 < in_list item world.items
  pub sound : IsSound world

-- A give gives its permit back before it has the list's lock: its party has the lease still, and no permit.
pub record GivesPermitFirst : Type 0 where
  pub world : World
  pub party : ℕ
  pub item : ℕ
  pub leased : lease_of world party ≡ Some item
  pub gave : HasPermit world party → ⊥
  pub sound : IsSound world

-- A dropped lease gives its permit back: there are as many permits as before.
pub record DropReturnsPermit : Type 0 where
  pub step : Step
  pub drops : is_lease_drop (standing_of step.old step.move.party) step.move.what ≡ true
  pub returns : limit step.new ≡ limit step.old
  pub at_once : IsAtOnce step

-- A take pops without the lock.
pub record PopsWithoutLock : Type 0 where
  pub step : Step
  pub pops : length step.new.items < length step.old.items
  pub without : HoldsLock step.old step.move.party → ⊥
  pub legal : IsLegal step

-- Or without a permit.
pub record PopsWithoutPermit : Type 0 where
  pub step : Step
  pub pops : length step.new.items < length step.old.items
  pub without : HasPermit step.old step.move.party → ⊥
  pub legal : IsLegal step

-- A lost item comes back: fewer are lost than before.
pub record LostComesBack : Type 0 where
  pub step : Step
  pub fewer : lost step.new < lost step.old
  pub legal : IsLegal step
  pub sound : IsSound step.old
  pub sound_then : IsSound step.new

-- A take sleeps beside an item: at rest a permit is available that it waits for, and nobody in the list was notified.
pub record SleepsBesideAnItem : Type 0 where
  pub world : World
  pub party : ℕ
  pub waits : 0 < entries_of party world.semaphore.entries
  pub enough : size_of world.semaphore party ≤ available world
  pub untold : marked_count world.semaphore.entries ≡ 0
  pub awake : IsAwake world

-- The first step of a take finds a permit available, and doesn't take it.
pub record MissesAPermit : Type 0 where
  pub step : Step
  pub first : is_first_take (standing_of step.old step.move.party) step.move.what ≡ true
  pub one : 1 ≤ available step.old
  pub missed : HasPermit step.new step.move.party → ⊥
  pub at_once : IsAtOnce step

-- A try is in vain at its first step, and a permit was available.
pub record InVainBesideAPermit : Type 0 where
  pub step : Step
  pub tries : is_try (standing_of step.old step.move.party) step.move.what ≡ true
  pub one : 1 ≤ available step.old
  pub vain : step.answer ≡ answer.None
  pub at_once : IsAtOnce step

-- A give's later poll is ready.
pub record GiveIsReady : Type 0 where
  pub step : Step
  pub within : Within
  pub got : Got
  pub call : call_of step.old step.move ≡ Some within
  pub later : within.kind ≡ kind.LaterPoll
  pub first : is_poll_after_ready (standing_of step.old step.move.party) step.move.what ≡ false
  pub gave : gives step.old step.move.party ≡ true
  pub ready : step.answer ≡ answer.Ready got
  pub legal : IsLegal step

-- A party comes to have a lease by an answer that says of none.
pub record HoldsUnsaid : Type 0 where
  pub step : Step
  pub call : call_of step.old step.move ≢ None
  pub first : is_poll_after_ready (standing_of step.old step.move.party) step.move.what ≡ false
  pub holds : standing_of step.new step.move.party ≡ outside Holding
  pub unsaid : is_carrying step.answer ≡ false
  pub legal : IsLegal step

-- A take is ready with another item than is leased.
pub record SaysAnotherItem : Type 0 where
  pub step : Step
  pub item : ℕ
  pub says : step.answer ≡ answer.Ready (got.Value item)
  pub other : lease_of step.new step.move.party ≢ Some item
  pub legal : IsLegal step

-- At rest the list has another number of items than permits are available and pending takes have.
pub record Unbalanced : Type 0 where
  pub world : World
  pub other : length world.items ≢ available world + how_many world.seeking
  pub awake : IsAwake world

-- The items in the list, those leased and the lost ones are fewer than were made.
pub record ItemsVanish : Type 0 where
  pub world : World
  pub fewer : length world.items + how_many_leased world.leases + lost world < made world
  pub sound : IsSound world

-- A party that was notified for the list's lock polls alone, where nobody holds the lock and nobody is starved for it, and waits again.
pub record PassesOverInVain : Type 0 where
  pub old : World
  pub party : ℕ
  pub inputs : Inputs
  pub given : Answer
  pub new : World
  pub solo : IsSolo old party inputs
  pub free : holders old.lock ≡ 0
  pub unstarved : starved old.lock ≡ 0
  pub pending : given ≡ answer.Pending
  pub kept : Promises old party call.Poll inputs given new

-- At rest somebody waits for the list's lock, and nobody was notified.
pub record SleepsForTheLock : Type 0 where
  pub world : World
  pub some : 0 < length world.lock.entries
  pub untold : marked_count world.lock.entries ≡ 0
  pub awake : IsAwake world
