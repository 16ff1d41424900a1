-- Runs of a mutex that no user would accept. Each record is one wrong run: what its steps would be, if it were legal.
use Rattle.std.specs.Prelude.{◌≡◌, ◌≢◌, ℕ, suc, ◌<◌, true, false, length, Some, None}
use Rattle.lock_event.specs.declared.event.Mark.TheVariants.{Waiting}
use Rattle.lock_event.specs.Lists.{marked_count, is_marked_at}
use Rattle.world_base.specs.queue.Parties.{is_party, entries_of}
use Rattle.world_base.specs.declared.moves.Answer.{Answer}
use Rattle.world_base.specs.declared.moves.Answer.TheVariants as answer
use Rattle.world_base.specs.declared.moves.Call.{Call}
use Rattle.world_base.specs.declared.moves.Call.TheVariants as call
use Rattle.world_base.specs.declared.moves.Got.{Got}
use Rattle.world_base.specs.declared.moves.Inputs.{Inputs}
use Rattle.world_base.specs.declared.moves.Move.{Move}
use Rattle.world_base.specs.declared.moves.What.TheVariants.{Begin, Go}
use Rattle.lock_program.specs.declared.refusal.Refusal.TheVariants.{Memory, Starved}
use Rattle.world_base.specs.declared.standing.Kind.TheVariants.{Drop}
use Rattle.world_base.specs.declared.standing.Rest.{Rest}
use Rattle.world_base.specs.declared.standing.Rest.TheVariants.{Pending, Holding}
use Rattle.world_base.specs.declared.standing.Within.{Within}
use Rattle.world_base.specs.Frame.{is_drop, is_refusal}
use Rattle.world_base.specs.Rosters.{how_many}
use Rattle.world_base.specs.Standings.{outside, inside, may_end, decision, refused}
use Rattle.world_base.specs.Steps.{does, notifies_additionally}
use Rattle.world_mutex.specs.Bound.{IsSolo, IsNotified, Promises}
use Rattle.world_mutex.specs.Legal.{ListName, call_of, DecidesOn, is_first_poll, is_later_poll, Legal, AnswersAtOnce}
use Rattle.world_mutex.specs.State.{World, standing_of, mark_of, is_free, is_starved}
use Rattle.world_base.specs.Standings.{is_outside}
use Rattle.world_base.specs.Steps.{notifies}
use Rattle.world_mutex.specs.Legal.{for_the_lock}
use Rattle.world_mutex.specs.Laws.{IsSound, IsDue, is_at_rest}
use Rattle.world_base.specs.Overtaking as overtaking
use Rattle.world_base.specs.Overtaking.{before, how_many_inside}
use Rattle.world_mutex.specs.Overtaking.{starved_in, Holds, IsOvertakenSeldom, IsOvertakenSeldomInSteps}
use Rattle.world_mutex.specs.Steps.{Steps}
use Rattle.world_base.specs.Ending.{GoesOnFor}
use Rattle.world_base.specs.Standings.{is_decided}
use Rattle.world_mutex.specs.Steps.{Steps}
use Rattle.world_mutex.specs.Whole.{IsWholeCall, EndsSoon, steps_left_of}
use Rattle.world_base.specs.Patience.{StepsInPeace, IsInPeace}
use Rattle.world_mutex.specs.Waking.{Wakes, CountsWhoWakes, StarvesForCause}
use Rattle.world_base.specs.Whole.{going_on}
use Rattle.world_base.specs.any_world.Steps.{left_by}
use Rattle.world_base.specs.Standings.{inputs_of}
use Rattle.world_base.specs.Standings.{is_possible}
use Rattle.lock_event.specs.Lists.{notified}

-- A move of a party, and what it leads to.
pub record Step : Type 0 where
  pub old : World
  pub move : Move
  pub answer : Answer
  pub new : World

abbrev pub IsLegal : Step → Type 0
IsLegal s = Legal s.old s.move s.answer s.new

abbrev pub IsAtOnce : Step → Type 0
IsAtOnce s = AnswersAtOnce s.old s.move s.answer s.new

-- A whole call, and where it ends.
pub record Whole : Type 0 where
  pub old : World
  pub party : ℕ
  pub call : Call
  pub inputs : Inputs
  pub answer : Answer
  pub new : World

abbrev pub Keeps : Whole → Type 0
Keeps c = Promises c.old c.party c.call c.inputs c.answer c.new

-- A try is answered None though the lock is free.
pub record TriesInVain : Type 0 where
  pub step : Step
  pub inputs : Inputs
  pub tries : step.move.what ≡ Begin call.TryLock inputs
  pub free : is_free step.old.state ≡ true
  pub none : step.answer ≡ answer.None
  pub legal : IsAtOnce step

-- A first poll of a free lock takes more than one step, or ends pending: it joins, tells itself, and waits.
pub record PollsUnready : Type 0 where
  pub step : Step
  pub first : is_first_poll (standing_of step.old step.move.party) step.move.what (entries_of step.move.party step.old.entries) ≡ true
  pub free : is_free step.old.state ≡ true
  pub pending : step.answer ≡ answer.Pending
  pub legal : IsAtOnce step

-- A party is answered Pending and stands in no list: nobody will ever wake it.
pub record WaitsUnlisted : Type 0 where
  pub step : Step
  pub pending : step.answer ≡ answer.Pending
  pub unlisted : mark_of step.new step.move.party ≡ None
  pub legal : IsLegal step

-- Or it is listed as notified already, and waits for a wake that came before.
pub record WaitsUnmarked : Type 0 where
  pub step : Step
  pub pending : step.answer ≡ answer.Pending
  pub not_waiting : mark_of step.new step.move.party ≢ Some Waiting
  pub legal : IsLegal step

-- A party's call is decided on Pending while it goes on, so that it may leave the list before it ends.
pub record PendsTooEarly : Type 0 where
  pub step : Step
  pub within : Within
  pub decided : standing_of step.new step.move.party ≡ inside within (Some answer.Pending)
  pub legal : IsLegal step

-- A call is refused for memory at its first step, which is no join.
pub record RefusedAtFirst : Type 0 where
  pub step : Step
  pub rest : Rest
  pub begins : standing_of step.old step.move.party ≡ outside rest
  pub refused : DecidesOn step.old step.move step.answer step.new (refused Memory)
  pub legal : IsLegal step

-- A step takes the lock, and decides that its call is refused for memory.
pub record RefusedHavingTaken : Type 0 where
  pub step : Step
  pub took : step.new.state.holder ≢ step.old.state.holder
  pub refused : DecidesOn step.old step.move step.answer step.new (refused Memory)
  pub legal : IsLegal step

-- A party that holds the lock lets it go in a call that isn't decided.
pub record LetsGoUndecided : Type 0 where
  pub step : Step
  pub within : Within
  pub inputs : Inputs
  pub undecided : standing_of step.old step.move.party ≡ inside within None
  pub goes : step.move.what ≡ Go inputs
  pub held : step.old.state.holder ≡ Some step.move.party
  pub let_go : step.new.state.holder ≡ None
  pub legal : IsLegal step

-- A drop begins and isn't decided, so that it may take the lock, or wait for it, again.
pub record DropsUndecided : Type 0 where
  pub step : Step
  pub rest : Rest
  pub undecided : standing_of step.new step.move.party ≡ inside (record { kind = Drop; was = rest }) None
  pub legal : IsLegal step

-- A call is decided on an answer with which it never ends, as a drop on having what it dropped.
pub record DecidesInVain : Type 0 where
  pub step : Step
  pub party : ℕ
  pub within : Within
  pub by : Answer
  pub decided : standing_of step.new party ≡ inside within (Some by)
  pub never : may_end within.kind by ≡ false
  pub legal : IsLegal step

-- A step takes the lock, and decides that its call is refused since too many are starved.
pub record StarvedHavingTaken : Type 0 where
  pub step : Step
  pub took : step.new.state.holder ≢ step.old.state.holder
  pub refused : DecidesOn step.old step.move step.answer step.new (refused Starved)
  pub legal : IsLegal step

-- A party that is counted as starved is refused since too many are.
pub record StarvedTwice : Type 0 where
  pub step : Step
  pub starved : is_starved step.old.state step.move.party ≡ true
  pub refused : DecidesOn step.old step.move step.answer step.new (refused Starved)
  pub legal : IsLegal step

-- A call is refused for the number of starved parties at its first step, before it has looked at the lock again.
pub record StarvedAtFirst : Type 0 where
  pub step : Step
  pub rest : Rest
  pub begins : standing_of step.old step.move.party ≡ outside rest
  pub refused : DecidesOn step.old step.move step.answer step.new (refused Starved)
  pub legal : IsLegal step

-- A pending party is counted as starved and stands in no list: newcomers leave the lock to it, and nobody ever wakes it.
pub record StarvesUnlisted : Type 0 where
  pub step : Step
  pub party : ℕ
  pub pending : standing_of step.new party ≡ outside Pending
  pub unlisted : entries_of party step.new.entries ≡ 0
  pub starved : is_starved step.new.state party ≡ true
  pub legal : IsLegal step

-- A party whose call is to be refused holds the lock.
pub record HoldsRefused : Type 0 where
  pub step : Step
  pub party : ℕ
  pub within : Within
  pub number : ℕ
  pub refused : standing_of step.new party ≡ inside within (Some (answer.Refused number))
  pub holds : step.new.state.holder ≡ Some party
  pub legal : IsLegal step

-- A party whose call is to be ready has let the lock go again.
pub record ReadyWithout : Type 0 where
  pub step : Step
  pub party : ℕ
  pub within : Within
  pub got : Got
  pub ready : standing_of step.new party ≡ inside within (Some (answer.Ready got))
  pub without : step.new.state.holder ≡ None
  pub legal : IsLegal step

-- One party is told beside another that was told and hasn't looked yet, as if two could have the lock.
pub record TellsMore : Type 0 where
  pub step : Step
  pub list : ListName
  pub more : ℕ
  pub legal : IsLegal step
  pub tells : legal.one_change.effect ≡ does list (notifies_additionally more)

-- A try finds the lock held and leaves something behind: it is counted as starved, or notifies.
pub record TriesAndTells : Type 0 where
  pub step : Step
  pub inputs : Inputs
  pub tries : step.move.what ≡ Begin call.TryLock inputs
  pub none : step.answer ≡ answer.None
  pub told : step.new.entries ≢ step.old.entries
  pub legal : IsAtOnce step

-- A first poll is counted as starved at once, though it has not waited at all.
pub record StarvesAtFirst : Type 0 where
  pub step : Step
  pub first : is_first_poll (standing_of step.old step.move.party) step.move.what (entries_of step.move.party step.old.entries) ≡ true
  pub stepped : step.answer ≡ answer.Stepped
  pub counts : step.new.state ≢ step.old.state
  pub legal : IsAtOnce step

-- A party that waits and wasn't notified polls, and its call goes on: it may be refused, and lose its place.
pub record PollsUntold : Type 0 where
  pub step : Step
  pub polls : is_later_poll (standing_of step.old step.move.party) step.move.what ≡ true
  pub listed : 0 < entries_of step.move.party step.old.entries
  pub untold : is_marked_at (is_party step.move.party) step.old.entries ≡ false
  pub goes_on : step.answer ≡ answer.Stepped
  pub legal : IsAtOnce step

-- The drop of a guard begins, and the lock is held still: whoever is told before it is given back finds it held.
pub record ReleasesLate : Type 0 where
  pub step : Step
  pub inputs : Inputs
  pub drops : step.move.what ≡ Begin call.Drop inputs
  pub holding : standing_of step.old step.move.party ≡ outside Holding
  pub held : step.new.state.holder ≡ Some step.move.party
  pub legal : IsAtOnce step

-- The drop of a guard ends, and nobody is told in a list where somebody waits: another may be inside a call that it never goes on with.
pub record ReleasesSilently : Type 0 where
  pub step : Step
  pub releases : standing_of step.old step.move.party ≡ inside (record { kind = Drop; was = Holding }) (Some answer.GivenBack)
  pub given_back : step.answer ≡ answer.GivenBack
  pub some : 0 < length step.new.entries
  pub none_told : marked_count step.new.entries ≡ 0
  pub legal : IsAtOnce step

-- A notified party polls a free lock alone, where nobody is starved, and waits again: so it may do for ever, or two parties tell each other in turn.
pub record PassesOverInVain : Type 0 where
  pub whole : Whole
  pub polls : whole.call ≡ call.Poll
  pub solo : IsSolo whole.old whole.party whole.inputs
  pub free : whole.old.state.holder ≡ None
  pub unstarved : how_many whole.old.state.starved ≡ 0
  pub pending : whole.answer ≡ answer.Pending
  pub kept : Keeps whole

-- Or it is refused for memory that it doesn't need, and loses its place.
pub record RefusedInVain : Type 0 where
  pub whole : Whole
  pub polls : whole.call ≡ call.Poll
  pub told : IsNotified whole.old whole.party
  pub free : whole.old.state.holder ≡ None
  pub unstarved : how_many whole.old.state.starved ≡ 0
  pub refused : whole.answer ≡ refused Memory
  pub kept : Keeps whole

-- A party is counted as starved, though nobody was and it hasn't waited for too long.
pub record StarvesUnasked : Type 0 where
  pub whole : Whole
  pub patient : whole.inputs.starving ≡ false
  pub unstarved : how_many whole.old.state.starved ≡ 0
  pub starved : is_starved whole.new.state whole.party ≡ true
  pub kept : Keeps whole

-- Or its call is refused since too many are, as where none may be: it was not to be one of them.
pub record StarvedAmongNone : Type 0 where
  pub whole : Whole
  pub patient : whole.inputs.starving ≡ false
  pub unstarved : how_many whole.old.state.starved ≡ 0
  pub refused : whole.answer ≡ refused Starved
  pub kept : Keeps whole

-- A listed party's poll is refused, and nobody else is told: what it was told is lost.
pub record KeepsItsTold : Type 0 where
  pub whole : Whole
  pub polls : whole.call ≡ call.Poll
  pub pending : standing_of whole.old whole.party ≡ outside Pending
  pub listed : 0 < entries_of whole.party whole.old.entries
  pub refused : is_refusal whole.answer ≡ true
  pub some : 0 < length whole.new.entries
  pub none_told : marked_count whole.new.entries ≡ 0
  pub kept : Keeps whole

-- A listed party that isn't starved notifies in a poll that isn't decided, so that it wakes the next before it waits.
pub record WakesTheNext : Type 0 where
  pub step : Step
  pub within : Within
  pub many : ℕ
  pub undecided : standing_of step.old step.move.party ≡ inside within None
  pub unstarved : is_starved step.old.state step.move.party ≡ false
  pub listed : entries_of step.move.party step.old.entries ≡ 1
  pub legal : IsLegal step
  pub notifies : legal.one_change.effect ≡ does for_the_lock (notifies many)

-- The lock is free, a party outside every call waits for it, and nobody there has been told, nor has anybody to tell or to look: another may be inside a poll, but stands in the list itself.
pub record SleepsThoughFree : Type 0 where
  pub world : World
  pub party : ℕ
  pub free : world.state.holder ≡ None
  pub stands : is_outside (standing_of world party) ≡ true
  pub listed : 0 < entries_of party world.entries
  pub none_told : marked_count world.entries ≡ 0
  pub none_due : (q : ℕ) → IsDue world q → ⊥
  pub sound : IsSound world

-- A poll is pending at its end and has told another, while nobody is starved nor has waited for too long: so two parties wake each other for ever over a lock that somebody holds.
pub record WakesInARing : Type 0 where
  pub whole : Whole
  pub other : ℕ
  pub patient : whole.inputs.starving ≡ false
  pub none_starved : how_many whole.old.state.starved ≡ 0
  pub pending : whole.answer ≡ answer.Pending
  pub another : other ≢ whole.party
  pub untold : is_marked_at (is_party other) whole.old.entries ≡ false
  pub told : is_marked_at (is_party other) whole.new.entries ≡ true
  pub kept : Keeps whole

-- A first poll is refused for too many starved parties, though there were none.
pub record StarvedUnwaited : Type 0 where
  pub whole : Whole
  pub first : is_first_poll (standing_of whole.old whole.party) (Begin whole.call whole.inputs) (entries_of whole.party whole.old.entries) ≡ true
  pub none_starved : how_many whole.old.state.starved ≡ 0
  pub is_refused : whole.answer ≡ refused Starved
  pub kept : Keeps whole

-- A call that is to be refused, and whose party stands in no list, goes on or ends, and some other that waits is notified by nobody.
pub record RefusedSilently : Type 0 where
  pub step : Step
  pub within : Within
  pub why : ℕ
  pub refused : standing_of step.old step.move.party ≡ inside within (Some (answer.Refused why))
  pub unlisted : entries_of step.move.party step.old.entries ≡ 0
  pub unstarved : is_starved step.old.state step.move.party ≡ false
  pub possible : is_possible step.answer ≡ true
  pub none_told : step.new.entries ≢ notified step.old.entries 1
  pub legal : IsAtOnce step

-- ---- Whoever has waited for too long

-- A notified party that has waited for too long finds the lock held, and room for one more starved party, and it isn't counted as one: newcomers may overtake it for ever.
pub record NeverStarved : Type 0 where
  pub whole : Whole
  pub polls : whole.call ≡ call.Poll
  pub solo : IsSolo whole.old whole.party whole.inputs
  pub long : whole.inputs.starving ≡ true
  pub room : how_many whole.old.state.starved < whole.old.limit
  pub held : whole.old.state.holder ≢ None
  pub patient : is_starved whole.new.state whole.party ≡ false
  pub kept : Keeps whole

-- A newcomer's first poll is ready while another is starved, whatever it counted itself as on the way.
pub record OvertakesStarved : Type 0 where
  pub whole : Whole
  pub first : is_first_poll (standing_of whole.old whole.party) (Begin whole.call whole.inputs) (entries_of whole.party whole.old.entries) ≡ true
  pub some_starved : 0 < how_many whole.old.state.starved
  pub got : Got
  pub ready : whole.answer ≡ answer.Ready got
  pub kept : Keeps whole

-- Or some other call that nobody told of the lock gets it then.
pub record TakesUntold : Type 0 where
  pub whole : Whole
  pub some_starved : 0 < how_many whole.old.state.starved
  pub without : whole.old.state.holder ≢ Some whole.party
  pub untold : whole.call ≡ call.Poll → IsNotified whole.old whole.party → ⊥
  pub takes : whole.new.state.holder ≡ Some whole.party
  pub kept : Keeps whole

-- At rest a notified party that isn't starved takes the lock before a starved one.
pub record TakesBeforeStarved : Type 0 where
  pub whole : Whole
  pub polls : whole.call ≡ call.Poll
  pub told : IsNotified whole.old whole.party
  pub at_rest : is_at_rest whole.old ≡ true
  pub patient : is_starved whole.old.state whole.party ≡ false
  pub some_starved : 0 < how_many whole.old.state.starved
  pub takes : whole.new.state.holder ≡ Some whole.party
  pub kept : Keeps whole

-- A first poll ends starved, though it hasn't waited and nobody was: its clock alone said so.
pub record CountsUnwaited : Type 0 where
  pub whole : Whole
  pub first : is_first_poll (standing_of whole.old whole.party) (Begin whole.call whole.inputs) (entries_of whole.party whole.old.entries) ≡ true
  pub none_starved : how_many whole.old.state.starved ≡ 0
  pub starved : is_starved whole.new.state whole.party ≡ true
  pub kept : Keeps whole

-- Two parties are told of one lock.
pub record TwoTold : Type 0 where
  pub world : World
  pub two : 1 < marked_count world.entries
  pub sound : IsSound world

-- Calls of others, one after the other, while a starved party waits, so many of which got the lock.
abbrev pub Overtaken : ℕ → ℕ → ℕ → World → World → Type 0
Overtaken = overtaking.Overtaken IsWholeCall (λ w. w.entries) starved_in Holds

abbrev pub Passes : ℕ → World → ℕ → Call → Inputs → Answer → World → Type 0
Passes = overtaking.Passes IsWholeCall (λ w. w.entries) starved_in Holds

-- A starved party with one entry before its own is overtaken twice.
pub record OvertakenTwice : Type 0 where
  pub party : ℕ
  pub calls : ℕ
  pub old : World
  pub new : World
  pub one_before : before party old.entries ≡ 1
  pub overtaken : Overtaken party calls 2 old new
  pub seldom : IsOvertakenSeldom old

-- A starved party that stands first in the list, while nobody is inside a call, is overtaken by steps of others, in whatever order they come.
pub record OvertakenInTheMidst : Type 0 where
  pub party : ℕ
  pub steps : ℕ
  pub old : World
  pub new : World
  pub first : before party old.entries ≡ 0
  pub idle : how_many_inside old.standings ≡ 0
  pub overtaken : overtaking.OvertakenInSteps Steps (λ w. w.entries) starved_in Holds (λ w. w.standings) party steps 1 old new
  pub seldom : IsOvertakenSeldomInSteps old

-- A starved party stands in the list while another polls, takes the lock, and drops its guard.
pub record StandsBy : Type 0 where
  pub party : ℕ
  pub other : ℕ
  pub old : World
  pub mid : World
  pub new : World
  pub inputs : Inputs
  pub later : Inputs
  pub ready : Answer
  pub given_back : Answer
  pub polls : Passes party old other call.Poll inputs ready mid
  pub without : old.state.holder ≢ Some other
  pub gets : mid.state.holder ≡ Some other
  pub drops : Passes party mid other call.Drop later given_back new

-- So it is overtaken once, in two calls.
abbrev pub IsOvertakenOnce : StandsBy → Type 0
IsOvertakenOnce s = Overtaken s.party 2 1 s.old s.new

-- ---- What no table would do

-- A party takes the lock past the starved, and isn't one of them.
pub record TakesPastStarved : Type 0 where
  pub step : Step
  pub without : step.old.state.holder ≢ Some step.move.party
  pub takes : step.new.state.holder ≡ Some step.move.party
  pub some_starved : 0 < how_many step.old.state.starved
  pub patient : is_starved step.old.state step.move.party ≡ false
  pub legal : IsLegal step

-- A call is refused for memory, though the move's input had it.
pub record RefusedBesideMemory : Type 0 where
  pub step : Step
  pub memory : (inputs_of step.move.what).memory ≡ true
  pub refused : DecidesOn step.old step.move step.answer step.new (refused Memory)
  pub legal : IsLegal step

-- A party may make a move, and is answered that it can't.
pub record NeverPossible : Type 0 where
  pub step : Step
  pub within : Within
  pub may : call_of step.old step.move ≡ Some within
  pub impossible : step.answer ≡ answer.NotPossible
  pub legal : IsLegal step

-- A party that gives up its wait has left the list, and is counted as starved still: newcomers leave the lock to it for some steps, though it wants it no more.
pub record LeavesCounted : Type 0 where
  pub step : Step
  pub party : ℕ
  pub within : Within
  pub gives_back : standing_of step.new party ≡ inside within (Some answer.GivenBack)
  pub unlisted : entries_of party step.new.entries ≡ 0
  pub starved : is_starved step.new.state party ≡ true
  pub legal : IsLegal step

-- The drop of a waiting future that isn't starved goes on, so that what it was told reaches nobody for some steps.
pub record DropDawdles : Type 0 where
  pub step : Step
  pub drops : is_drop step.move.what ≡ true
  pub pending : standing_of step.old step.move.party ≡ outside Pending
  pub listed : 0 < entries_of step.move.party step.old.entries
  pub unstarved : is_starved step.old.state step.move.party ≡ false
  pub goes_on : step.answer ≡ answer.Stepped
  pub legal : IsAtOnce step

-- A party goes on for ever with one call, while nobody else moves; `falls` is what every World's steps promise.
pub record GoesOnForEver : Type 0 where
  pub party : ℕ
  pub inputs : Inputs
  pub world : ℕ → World
  pub stepped : (n : ℕ) → Steps (world n) (going_on party inputs) answer.Stepped (world (suc n))
  pub falls : (w : World) (p : ℕ) (i : Inputs) (a : Answer) (v : World) → Steps w (going_on p i) a v → left_by a (steps_left_of v p) < steps_left_of w p

-- A call that is decided, as that of a guard's drop that has given its right back, goes on after two further steps of its own, whatever others did in between.
pub record EndsLate : Type 0 where
  pub party : ℕ
  pub steps : ℕ
  pub old : World
  pub new : World
  pub decided : is_decided (standing_of old party) ≡ true
  pub goes_on : GoesOnFor Steps standing_of party steps 2 old new
  pub soon : EndsSoon old

-- A party wakes another in a poll that isn't decided, others step, a try for instance, and by its next step it waits again, as one that isn't starved: so two waiting parties wake each other for ever over a lock that neither of them gets.
pub record WakesAndWaits : Type 0 where
  pub move : Move
  pub answer : Answer
  pub old : World
  pub woken : World
  pub wakes : Wakes old move answer woken
  pub steps : ℕ
  pub later : World
  pub others : GoesOnFor Steps standing_of move.party steps 0 woken later
  pub inputs : Inputs
  pub next : Answer
  pub new : World
  pub goes_on : Steps later (going_on move.party inputs) next new
  pub unstarved : is_starved new.state move.party ≡ false
  pub unrefused : decision next (standing_of new move.party) ≢ Some (refused Starved)
  pub counts : CountsWhoWakes old

abbrev pub AreInPeace : ℕ → ℕ → World → World → Type 0
AreInPeace = StepsInPeace Steps standing_of (λ w. w.state.starved)

-- A party that was outside every call is counted as starved, though its clock said nothing, and nobody was starved where it stepped, whatever others did in between: as a newcomer's first poll, beside which another tries.
pub record StarvedUnasked : Type 0 where
  pub party : ℕ
  pub steps : ℕ
  pub old : World
  pub new : World
  pub outside : is_outside (standing_of old party) ≡ true
  pub plain : is_starved old.state party ≡ false
  pub in_peace : AreInPeace party steps old new
  pub starved : is_starved new.state party ≡ true
  pub cause : StarvesForCause old

-- Or it is refused so, as one too many of the starved, by one more such step.
pub record RefusedUnasked : Type 0 where
  pub party : ℕ
  pub steps : ℕ
  pub old : World
  pub mid : World
  pub move : Move
  pub new : World
  pub outside : is_outside (standing_of old party) ≡ true
  pub plain : is_starved old.state party ≡ false
  pub in_peace : AreInPeace party steps old mid
  pub own : move.party ≡ party
  pub last : IsInPeace Steps standing_of (λ w. w.state.starved) party mid move
  pub refused : Steps mid move (refused Starved) new
  pub cause : StarvesForCause old

-- A party takes a step of its call, which goes on, and then another steps.
pub record StepsBetween : Type 0 where
  pub party : ℕ
  pub inputs : Inputs
  pub move : Move
  pub answered : Answer
  pub old : World
  pub mid : World
  pub new : World
  pub own : Steps old (going_on party inputs) answer.Stepped mid
  pub another : move.party ≢ party
  pub others : Steps mid move answered new

-- Of these two steps one is its own.
abbrev pub GoesOnOnce : StepsBetween → Type 0
GoesOnOnce s = GoesOnFor Steps standing_of s.party 2 1 s.old s.new
