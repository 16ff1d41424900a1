-- Runs of a semaphore that no user would accept. Each record is one wrong run: what its steps would be, if it were legal.
use Rattle.std.specs.Prelude.{◌≡◌, ◌≢◌, ℕ, ◌+◌, ◌<◌, ◌≤◌, true, false, length, Some, None}
use Rattle.lock_event.specs.Lists.{marked_count, is_marked_at}
use Rattle.weighted_event.specs.Weights.{is_wanted}
use Rattle.world_base.specs.queue.Parties.{is_party, entries_of}
use Rattle.world_base.specs.declared.moves.Answer.{Answer}
use Rattle.world_base.specs.declared.moves.Answer.TheVariants as answer
use Rattle.world_base.specs.declared.moves.Call.{Call}
use Rattle.world_base.specs.declared.moves.Call.TheVariants as call
use Rattle.world_base.specs.declared.moves.Got.{Got}
use Rattle.world_base.specs.declared.moves.Got.TheVariants.{Plain}
use Rattle.world_base.specs.declared.moves.Inputs.{Inputs}
use Rattle.world_base.specs.declared.moves.Move.{Move}
use Rattle.world_base.specs.declared.moves.What.TheVariants.{Begin, Go}
use Rattle.lock_program.specs.declared.refusal.Refusal.TheVariants.{Memory}
use Rattle.world_base.specs.declared.standing.Kind.TheVariants as kind
use Rattle.world_base.specs.declared.standing.Rest.TheVariants.{Idle, Pending, Holding}
use Rattle.world_base.specs.declared.standing.Within.{Within}
use Rattle.world_base.specs.Frame.{is_drop, is_refusal}
use Rattle.world_base.specs.Standings.{outside, inside, is_outside, is_possible, may_end, refused}
use Rattle.world_semaphore.specs.machine.Effects.{changes, does, fits, takes, gives_back, gives}
use Rattle.world_semaphore.specs.machine.Seats.{nothing_owed, a_fit, pays}
use Rattle.world_semaphore.specs.AtOnce.{AnswersAtOnce, is_try, is_first_poll, is_enough}
use Rattle.world_semaphore.specs.Bound.{Promises, IsSolo, PollsTold, Drains}
use Rattle.world_semaphore.specs.Legal.{Legal, DecidesOn, added_in, is_forget, is_poll_call, state_after, wanted, wanted_in}
use Rattle.world_semaphore.specs.Laws.{IsSound, IsAwake, IsFreeAndWanted, is_at_rest}
use Rattle.world_base.specs.Ending.{GoesOnFor}
use Rattle.world_base.specs.Standings.{is_decided}
use Rattle.world_base.specs.Bounds.{PolledInTurn}
use Rattle.world_semaphore.specs.Steps.{Steps}
use Rattle.world_semaphore.specs.Whole.{EndsSoon}
use Rattle.world_semaphore.specs.State.{World, share_at, has_permits, held, available, standing_of, size_of, debt_of}

-- A move of a party, and what it leads to.
pub record Step : Type 0 where
  pub old : World
  pub move : Move
  pub answer : Answer
  pub new : World

abbrev pub IsLegal : Step → Type 0
IsLegal s = Legal s.old s.move s.answer s.new

abbrev pub IsAtOnce : Step → Type 0
IsAtOnce s = AnswersAtOnce s.old s.move s.answer s.new

-- A whole call, and where it ends.
pub record Whole : Type 0 where
  pub old : World
  pub party : ℕ
  pub call : Call
  pub inputs : Inputs
  pub answer : Answer
  pub new : World

abbrev pub Keeps : Whole → Type 0
Keeps c = Promises c.old c.party c.call c.inputs c.answer c.new

-- A try is answered None though as many permits are available as it is for.
pub record TriesInVain : Type 0 where
  pub step : Step
  pub tries : is_try step.move.what ≡ true
  pub free : is_enough step.old step.move ≡ true
  pub none : step.answer ≡ answer.None
  pub legal : IsAtOnce step

-- An acquire takes permits and isn't decided, so that it may give them back and wait.
pub record TakesUndecided : Type 0 where
  pub step : Step
  pub within : Within
  pub undecided : standing_of step.new step.move.party ≡ inside within None
  pub took : has_permits step.new.state step.move.party ≡ true
  pub legal : IsLegal step

-- An acquire that goes on gives permits back that its party had.
pub record GivesBackWithin : Type 0 where
  pub step : Step
  pub inputs : Inputs
  pub goes : step.move.what ≡ Go inputs
  pub had : has_permits step.old.state step.move.party ≡ true
  pub gave : has_permits step.new.state step.move.party ≡ false
  pub legal : IsLegal step

-- An add begins with something else than raising the limit, as with giving what it adds.
pub record GivesBeforeItRaises : Type 0 where
  pub step : Step
  pub number : ℕ
  pub some : 0 < number
  pub adds : added_in step.move.what ≡ Some number
  pub fits : step.old.state.limit + number ≤ step.old.most
  pub possible : is_possible step.answer ≡ true
  pub not_raised : step.new.state.limit ≡ step.old.state.limit
  pub legal : IsAtOnce step

-- A party tells of another number of permits than it owes to tell of: of what it found before others took some.
pub record TellsOfOthers : Type 0 where
  pub step : Step
  pub number : ℕ
  pub others : debt_of step.old step.move.party ≢ a_fit number
  pub legal : IsLegal step
  pub tells : legal.one_change.effect ≡ does (fits number)

-- A forget of some permits leaves the limit, so that they may come back.
pub record ForgetsInVain : Type 0 where
  pub step : Step
  pub forgets : is_forget step.move.what ≡ true
  pub possible : is_possible step.answer ≡ true
  pub had : 0 < size_of step.old step.move.party
  pub some : 0 < step.old.state.limit
  pub left : step.new.state.limit ≡ step.old.state.limit
  pub legal : IsAtOnce step

-- An acquire is refused for memory at its first step, where a permit is available.
pub record RefusedThoughFree : Type 0 where
  pub step : Step
  pub first : is_first_poll (standing_of step.old step.move.party) step.move.what (entries_of step.move.party step.old.entries) ≡ true
  pub free : is_enough step.old step.move ≡ true
  pub refused : step.answer ≡ refused Memory
  pub legal : IsAtOnce step

-- Or later in its first poll, carried out whole.
pub record RefusedAtLast : Type 0 where
  pub whole : Whole
  pub first : is_first_poll (standing_of whole.old whole.party) (Begin whole.call whole.inputs) (entries_of whole.party whole.old.entries) ≡ true
  pub free : wanted_in (Begin whole.call whole.inputs) (size_of whole.old whole.party) ≤ available whole.old.state
  pub refused : whole.answer ≡ refused Memory
  pub kept : Keeps whole

-- A party is answered Pending and stands in no list: nobody will ever wake it.
pub record WaitsUnlisted : Type 0 where
  pub step : Step
  pub pending : step.answer ≡ answer.Pending
  pub unlisted : entries_of step.move.party step.new.entries ≡ 0
  pub legal : IsLegal step

-- A call on what a party has, or an add, begins and isn't decided, so that it may take a permit, or wait for one.
pub record GoesOnUndecided : Type 0 where
  pub step : Step
  pub party : ℕ
  pub within : Within
  pub undecided : standing_of step.new party ≡ inside within None
  pub no_poll : is_poll_call within.kind ≡ false
  pub legal : IsLegal step

-- A call is decided on an answer with which it never ends, as a drop on having what it dropped.
pub record DecidesInVain : Type 0 where
  pub step : Step
  pub party : ℕ
  pub within : Within
  pub by : Answer
  pub decided : standing_of step.new party ≡ inside within (Some by)
  pub never : may_end within.kind by ≡ false
  pub legal : IsLegal step

-- A party whose call is to be refused has a permit.
pub record HasRefused : Type 0 where
  pub step : Step
  pub party : ℕ
  pub within : Within
  pub number : ℕ
  pub refused : standing_of step.new party ≡ inside within (Some (answer.Refused number))
  pub has : has_permits step.new.state party ≡ true
  pub legal : IsLegal step

-- A party that adds takes a permit for itself.
pub record AddsAndTakes : Type 0 where
  pub step : Step
  pub party : ℕ
  pub within : Within
  pub got : Got
  pub adding : standing_of step.new party ≡ inside within (Some (answer.Granted got))
  pub has : has_permits step.new.state party ≡ true
  pub legal : IsLegal step

-- Two listed parties are told at the same time.
pub record TellsTwo : Type 0 where
  pub world : World
  pub told : 1 < marked_count world.entries
  pub sound : IsSound world

-- A try finds no permit and notifies.
pub record TriesAndTells : Type 0 where
  pub step : Step
  pub tries : is_try step.move.what ≡ true
  pub none : step.answer ≡ answer.None
  pub told : step.new.entries ≢ step.old.entries
  pub legal : IsAtOnce step

-- The drop of a guard begins, and its permit isn't available yet: whoever is told before it is finds none.
pub record ReturnsLate : Type 0 where
  pub step : Step
  pub drops : is_drop step.move.what ≡ true
  pub holding : standing_of step.old step.move.party ≡ outside Holding
  pub kept : step.new.state ≢ state_after step.move.party (changes (gives_back (size_of step.old step.move.party))) step.old.state
  pub legal : IsAtOnce step

-- A drop ends, and nobody is told in a list where somebody waits for no more than it owes to tell of: another may be inside a call that it never goes on with.
pub record ReturnsSilently : Type 0 where
  pub step : Step
  pub returns : standing_of step.old step.move.party ≡ inside (record { kind = kind.Drop; was = Holding }) (Some answer.GivenBack)
  pub given_back : step.answer ≡ answer.GivenBack
  pub number : ℕ
  pub owes : debt_of step.old step.move.party ≡ a_fit number
  pub some : is_wanted (size_of step.old) number step.old.entries ≡ true
  pub none_told : marked_count step.new.entries ≡ 0
  pub legal : IsAtOnce step

-- So does an add that has given what it adds.
pub record AddsSilently : Type 0 where
  pub step : Step
  pub adding : standing_of step.old step.move.party ≡ inside (record { kind = kind.Add; was = Idle }) (Some (answer.Granted Plain))
  pub number : ℕ
  pub gave : debt_of step.old step.move.party ≡ a_fit number
  pub possible : is_possible step.answer ≡ true
  pub some : is_wanted (size_of step.old) number step.old.entries ≡ true
  pub none_told : marked_count step.new.entries ≡ 0
  pub legal : IsAtOnce step

-- An add tells others before it has given what it adds, so that whoever is told finds too few.
pub record AddsAfterTelling : Type 0 where
  pub step : Step
  pub adding : standing_of step.old step.move.party ≡ inside (record { kind = kind.Add; was = Idle }) (Some (answer.Granted Plain))
  pub under_way : debt_of step.old step.move.party ≡ nothing_owed
  pub possible : is_possible step.answer ≡ true
  pub kept : step.new.state ≢ state_after step.move.party (changes (gives (share_at step.old.state step.move.party).under_way)) step.old.state
  pub legal : IsAtOnce step

-- A pending party polls alone, where as many permits are available as it waits for, and waits again.
pub record PassesOverInVain : Type 0 where
  pub whole : Whole
  pub polls : whole.call ≡ call.Poll
  pub was_pending : standing_of whole.old whole.party ≡ outside Pending
  pub free : size_of whole.old whole.party ≤ available whole.old.state
  pub pending : whole.answer ≡ answer.Pending
  pub kept : Keeps whole

-- A listed party's poll is refused, and nobody else is told of permits that somebody waits for: what it was told is lost.
pub record KeepsItsTold : Type 0 where
  pub whole : Whole
  pub polls : whole.call ≡ call.Poll
  pub was_pending : standing_of whole.old whole.party ≡ outside Pending
  pub listed : 0 < entries_of whole.party whole.old.entries
  pub refused : is_refusal whole.answer ≡ true
  pub some : IsFreeAndWanted whole.new
  pub none_told : marked_count whole.new.entries ≡ 0
  pub kept : Keeps whole

-- A pending party polls, and what was told is lost, whether it took permits or was one that was told in vain: another waits though as many are available, while somebody is inside a call.
pub record TakesWhatWasTold : Type 0 where
  pub whole : Whole
  pub polls : whole.call ≡ call.Poll
  pub was_pending : standing_of whole.old whole.party ≡ outside Pending
  pub told : 0 < marked_count whole.old.entries
  pub some : IsFreeAndWanted whole.new
  pub none_told : marked_count whole.new.entries ≡ 0
  pub kept : Keeps whole

-- A pending future is dropped, and what it was told is lost.
pub record DropsWhatWasTold : Type 0 where
  pub whole : Whole
  pub drops : whole.call ≡ call.Drop
  pub was_pending : standing_of whole.old whole.party ≡ outside Pending
  pub told : 0 < marked_count whole.old.entries
  pub some : IsFreeAndWanted whole.new
  pub none_told : marked_count whole.new.entries ≡ 0
  pub kept : Keeps whole

-- A notified party polls alone, for more permits than there are, and hands over to another for whom there are too few, though somebody waits for no more than there are.
pub record HandsOverInVain : Type 0 where
  pub whole : Whole
  pub other : ℕ
  pub polls : whole.call ≡ call.Poll
  pub solo : IsSolo whole.old whole.party whole.inputs
  pub short : available whole.old.state < size_of whole.old whole.party
  pub some : IsFreeAndWanted whole.new
  pub told : is_marked_at (is_party other) whole.new.entries ≡ true
  pub too_few : available whole.new.state < size_of whole.new other
  pub kept : Keeps whole

-- A poll that isn't decided tells others: it looks in vain, asks, joins and tells the next before it waits, so that two parties wake each other for ever over too few permits.
pub record WakesTheNext : Type 0 where
  pub step : Step
  pub within : Within
  pub many : ℕ
  pub undecided : standing_of step.old step.move.party ≡ inside within None
  pub legal : IsLegal step
  pub tells : legal.one_change.effect ≡ does (fits many)

-- As many permits are available as a party outside every call waits for, and nobody in the list has been told, nor does anybody owe a look or to tell of as many: another may be about to tell of fewer.
pub record SleepsThoughFree : Type 0 where
  pub world : World
  pub party : ℕ
  pub stands : is_outside (standing_of world party) ≡ true
  pub listed : 0 < entries_of party world.entries
  pub free : size_of world party ≤ available world.state
  pub none_told : marked_count world.entries ≡ 0
  pub none_due : (q : ℕ) → pays (size_of world party) (debt_of world q) ≡ true → ⊥
  pub sound : IsSound world

-- Nobody is inside a call, as many permits are available as somebody waits for behind a larger request, and nobody is told.
pub record SleepsBehindALargerOne : Type 0 where
  pub world : World
  pub party : ℕ
  pub listed : 0 < entries_of party world.entries
  pub free : size_of world party ≤ available world.state
  pub none_told : marked_count world.entries ≡ 0
  pub awake : IsAwake world

-- A poll that is to be refused for memory ends, and nobody is told in a list where somebody waits for no more than it owes to tell of.
pub record RefusedSilently : Type 0 where
  pub step : Step
  pub within : Within
  pub refusing : standing_of step.old step.move.party ≡ inside within (Some (refused Memory))
  pub answered : step.answer ≡ refused Memory
  pub number : ℕ
  pub owes : debt_of step.old step.move.party ≡ a_fit number
  pub some : is_wanted (size_of step.old) number step.old.entries ≡ true
  pub none_told : marked_count step.new.entries ≡ 0
  pub legal : IsAtOnce step

-- So does a poll that was told in vain and is to wait on.
pub record WaitsSilently : Type 0 where
  pub step : Step
  pub within : Within
  pub waiting : standing_of step.old step.move.party ≡ inside within (Some answer.Pending)
  pub answered : step.answer ≡ answer.Pending
  pub number : ℕ
  pub owes : debt_of step.old step.move.party ≡ a_fit number
  pub some : is_wanted (size_of step.old) number step.old.entries ≡ true
  pub none_told : marked_count step.new.entries ≡ 0
  pub legal : IsAtOnce step

-- A party takes another number of permits than its call is for.
pub record TakesOthers : Type 0 where
  pub step : Step
  pub number : ℕ
  pub others : wanted step.old step.move ≢ number
  pub legal : IsLegal step
  pub took : legal.one_change.effect ≡ changes (takes number)

-- A party takes more permits than are available.
pub record TakesTooMany : Type 0 where
  pub step : Step
  pub number : ℕ
  pub few : available step.old.state < number
  pub legal : IsLegal step
  pub took : legal.one_change.effect ≡ changes (takes number)

-- An acquire of no permits is to be ready, and its party has no guard.
pub record ReadyWithoutAGuard : Type 0 where
  pub step : Step
  pub got : Got
  pub ready : DecidesOn step.old step.move step.answer step.new (answer.Ready got)
  pub none : has_permits step.new.state step.move.party ≡ false
  pub legal : IsLegal step

-- A party's notified entry is removed, and it goes on with the number of permits that it found before.
pub record GoesOnWithTheOlder : Type 0 where
  pub step : Step
  pub number : ℕ
  pub possible : is_possible step.answer ≡ true
  pub was_told : is_marked_at (is_party step.move.party) step.old.entries ≡ true
  pub gone : is_marked_at (is_party step.move.party) step.new.entries ≡ false
  pub older : debt_of step.new step.move.party ≡ a_fit number
  pub legal : IsLegal step

-- A call that is decided, as that of a guard's drop that has given its right back, goes on after three further steps of its own, whatever others did in between.
pub record EndsLate : Type 0 where
  pub party : ℕ
  pub steps : ℕ
  pub old : World
  pub new : World
  pub decided : is_decided (standing_of old party) ≡ true
  pub goes_on : GoesOnFor Steps standing_of party steps 3 old new
  pub soon : EndsSoon old

-- Two permits are available, everybody listed waits for one, and two notified parties poll in turn; and only one of them has its permit then.
pub record DrainsInVain : Type 0 where
  pub old : World
  pub new : World
  pub at_rest : is_at_rest old ≡ true
  pub ones : (p : ℕ) → 0 < entries_of p old.entries → size_of old p ≡ 1
  pub enough : 2 ≤ available old.state
  pub polled : PolledInTurn PollsTold 2 old new
  pub had : held new.state ≡ held old.state + 1
  pub drains : is_at_rest old ≡ true → Drains old

-- Or one of them polls, others wait still, and nobody there is told of the second permit.
pub record DrainsHalf : Type 0 where
  pub old : World
  pub new : World
  pub at_rest : is_at_rest old ≡ true
  pub ones : (p : ℕ) → 0 < entries_of p old.entries → size_of old p ≡ 1
  pub enough : 2 ≤ available old.state
  pub polled : PolledInTurn PollsTold 1 old new
  pub some : 0 < length new.entries
  pub none_told : (p : ℕ) → is_marked_at (is_party p) new.entries ≡ false
  pub drains : is_at_rest old ≡ true → Drains old
