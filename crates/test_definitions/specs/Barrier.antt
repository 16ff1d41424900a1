-- Runs of a barrier that no user would accept. Each record is one wrong run: what its steps would be, if it were legal.
use Rattle.std.specs.Prelude.{◌≡◌, ◌≢◌, ℕ, ◌<◌, ◌≤◌, ◌⊎◌, Bool, true, false, List, [], ◌∷◌, length, Some, None}
use Rattle.lock_event.specs.Lists.{entry, notified, marked_count, is_marked_at}
use Rattle.lock_event.specs.declared.event.Mark.TheVariants.{Waiting}
use Rattle.world_base.specs.queue.Parties.{is_party, entries_of}
use Rattle.world_base.specs.declared.moves.Answer.{Answer}
use Rattle.world_base.specs.declared.moves.Answer.TheVariants as answer
use Rattle.world_base.specs.declared.moves.Call.{Call}
use Rattle.world_base.specs.declared.moves.Call.TheVariants as call
use Rattle.world_base.specs.declared.moves.Got.TheVariants as got
use Rattle.world_base.specs.declared.moves.Inputs.{Inputs}
use Rattle.world_base.specs.declared.moves.Move.{Move}
use Rattle.world_base.specs.declared.moves.What.TheVariants.{Begin}
use Rattle.lock_program.specs.declared.refusal.Refusal.TheVariants as refusal
use Rattle.world_base.specs.declared.standing.Rest.TheVariants.{Pending}
use Rattle.world_base.specs.Frame.{is_refusal, is_drop}
use Rattle.world_base.specs.Rosters.{how_many}
use Rattle.world_base.specs.Standings.{outside, refused}
use Rattle.world_barrier.specs.machine.Waits.{uncounted, counted}
use Rattle.world_barrier.specs.declared.world.ListName.TheVariants.{Lock}
use Rattle.world_barrier.specs.AtOnce.{AnswersAtOnce, is_first_poll, is_later_poll, entries_in}
use Rattle.world_barrier.specs.Bound.{IsSolo, Promises}
use Rattle.world_barrier.specs.Changes.{wait_then}
use Rattle.world_base.specs.Overtaking as overtaking
use Rattle.world_base.specs.Overtaking.{before, how_many_inside}
use Rattle.world_barrier.specs.Overtaking.{starved_in, HoldsLock, IsOvertakenSeldomInSteps}
use Rattle.world_barrier.specs.Steps.{Steps}
use Rattle.world_base.specs.Ending.{GoesOnFor}
use Rattle.world_barrier.specs.Whole.{EndsSoon}
use Rattle.world_base.specs.Patience.{StepsInPeace, IsInPeace}
use Rattle.world_barrier.specs.Waking.{StarvesForCause}
use Rattle.world_barrier.specs.Laws.{IsSound, IsAwake, is_at_rest}
use Rattle.world_barrier.specs.Legal.{Legal, DecidesOn, HasToWait, next_arrival}
use Rattle.world_barrier.specs.Numbers.{Leads, IsFinished, generations_of}
use Rattle.world_barrier.specs.State.{World, standing_of, wait_of, told_in, is_free}
use Rattle.world_base.specs.declared.standing.Rest.{Rest}
use Rattle.world_base.specs.Standings.{is_outside, is_decided}
use Rattle.world_base.specs.Steps.{does, notifies}
use Rattle.world_barrier.specs.Laws.{IsDue, is_due, is_refused}
use Rattle.world_barrier.specs.State.{is_starved, has_to_tell}
use Rattle.world_base.specs.declared.standing.Within.{Within}
use Rattle.world_base.specs.Standings.{inside}
use Rattle.world_base.specs.Standings.{is_possible}
use Rattle.lock_event.specs.Lists.{notified}

-- A move of a party, and what it leads to.
pub record Step : Type 0 where
  pub old : World
  pub move : Move
  pub answer : Answer
  pub new : World

abbrev pub IsLegal : Step → Type 0
IsLegal s = Legal s.old s.move s.answer s.new

abbrev pub IsAtOnce : Step → Type 0
IsAtOnce s = AnswersAtOnce s.old s.move s.answer s.new

-- The step decides that its party's wait is ready as the leader's, or as a follower's.
abbrev pub DecidesToLead : Step → Type 0
DecidesToLead s = DecidesOn s.old s.move s.answer s.new (answer.Ready (got.Leader true))

abbrev pub DecidesToFollow : Step → Type 0
DecidesToFollow s = DecidesOn s.old s.move s.answer s.new (answer.Ready (got.Leader false))

-- A whole call, and where it ends.
pub record Whole : Type 0 where
  pub old : World
  pub party : ℕ
  pub call : Call
  pub inputs : Inputs
  pub answer : Answer
  pub new : World

abbrev pub Keeps : Whole → Type 0
Keeps c = Promises c.old c.party c.call c.inputs c.answer c.new

-- Two waits of one generation are to be ready as leaders.
pub record TwoLeaders : Type 0 where
  pub first : Step
  pub second : Step
  pub one_barrier : second.new.size ≡ first.new.size
  pub later : first.new.arrivals ≤ second.old.arrivals
  pub same : generations_of second.new.size second.new.arrivals ≡ generations_of first.new.size first.new.arrivals
  pub leads : DecidesToLead first
  pub leads_too : DecidesToLead second
  pub legal : IsLegal first
  pub legal_too : IsLegal second

-- A wait leads whose arrival doesn't finish a generation.
pub record LeadsInTheMidst : Type 0 where
  pub step : Step
  pub leads : DecidesToLead step
  pub unfinished : Leads step.new.size step.new.arrivals → ⊥
  pub legal : IsLegal step

-- An arrival finishes a generation, and isn't to be its leader.
pub record HasNoLeader : Type 0 where
  pub step : Step
  pub counted : step.new.arrivals ≡ next_arrival step.old
  pub finishes : Leads step.new.size step.new.arrivals
  pub no_leader : DecidesToLead step → ⊥
  pub legal : IsLegal step

-- A wait that is counted already is counted once more.
pub record CountedTwice : Type 0 where
  pub step : Step
  pub arrival : ℕ
  pub counted : wait_of step.old step.move.party ≡ counted arrival
  pub more : step.new.arrivals ≢ step.old.arrivals
  pub legal : IsLegal step

-- An arrival is counted no more.
pub record TakenBack : Type 0 where
  pub step : Step
  pub fewer : step.new.arrivals < step.old.arrivals
  pub legal : IsLegal step

-- A wait is to follow, and its generation isn't finished.
pub record FollowsTooSoon : Type 0 where
  pub step : Step
  pub arrival : ℕ
  pub follows : DecidesToFollow step
  pub counted : wait_of step.new step.move.party ≡ counted arrival
  pub unfinished : IsFinished step.new.size arrival step.new.arrivals → ⊥
  pub legal : IsLegal step

-- An arrival that has to wait is counted before its party stands in the list.
pub record CountedUnlisted : Type 0 where
  pub step : Step
  pub counted : step.new.arrivals ≡ next_arrival step.old
  pub waits : Leads step.old.size (next_arrival step.old) → ⊥
  pub unlisted : entries_of step.move.party step.old.list ≡ 0
  pub legal : IsLegal step

-- An arrival is counted by a party that doesn't hold the inner lock.
pub record CountedWithoutLock : Type 0 where
  pub step : Step
  pub counted : step.new.arrivals ≡ next_arrival step.old
  pub without : step.old.lock.holder ≢ Some step.move.party
  pub legal : IsLegal step

-- A wait that isn't counted is answered Pending in its generation's list alone.
pub record WaitsUncounted : Type 0 where
  pub step : Step
  pub pending : step.answer ≡ answer.Pending
  pub not_counted : wait_of step.new step.move.party ≡ uncounted
  pub elsewhere : told_in Lock step.new step.move.party ≢ Some Waiting
  pub legal : IsLegal step

-- A pending party keeps the inner lock.
pub record KeepsTheLock : Type 0 where
  pub step : Step
  pub party : ℕ
  pub pending : standing_of step.new party ≡ outside Pending
  pub holds : step.new.lock.holder ≡ Some party
  pub legal : IsLegal step

-- A wait is to be refused, for memory or for generations, and an arrival is counted by that.
pub record RefusedAndCounted : Type 0 where
  pub step : Step
  pub refusal : DecidesOn step.old step.move step.answer step.new (refused refusal.Memory) ⊎ DecidesOn step.old step.move step.answer step.new (refused refusal.Generations)
  pub counted : step.new.arrivals ≢ step.old.arrivals
  pub legal : IsLegal step

-- A wait is to be refused for generations, and fewer are finished than may be.
pub record RefusedTooSoon : Type 0 where
  pub step : Step
  pub refusal : DecidesOn step.old step.move step.answer step.new (refused refusal.Generations)
  pub fewer : generations_of step.old.size step.old.arrivals < step.old.generations_limit
  pub legal : IsLegal step

-- At rest a counted wait of a finished generation has not been notified.
pub record LeftAsleep : Type 0 where
  pub world : World
  pub party : ℕ
  pub arrival : ℕ
  pub counted : wait_of world party ≡ counted arrival
  pub finished : IsFinished world.size arrival world.arrivals
  pub listed : 0 < entries_of party world.list
  pub unmarked : is_marked_at (is_party party) world.list ≡ false
  pub awake : IsAwake world

-- A counted wait of a finished generation has not been notified while nobody holds the inner lock, though somebody may be inside a call.
pub record LeadsUntold : Type 0 where
  pub world : World
  pub party : ℕ
  pub arrival : ℕ
  pub counted : wait_of world party ≡ counted arrival
  pub finished : IsFinished world.size arrival world.arrivals
  pub free : world.lock.holder ≡ None
  pub listed : 0 < entries_of party world.list
  pub unmarked : is_marked_at (is_party party) world.list ≡ false
  pub sound : IsSound world

-- The first step of a poll that has to take the inner lock makes the wait ready: of a poll of a party that stands in no list, or in the lock's.
pub record ReadyUntried : Type 0 where
  pub step : Step
  pub tries : (is_first_poll (standing_of step.old step.move.party) step.move.what (entries_in step.old step.move.party) ≡ true) ⊎ ((is_later_poll (standing_of step.old step.move.party) step.move.what ≡ true) × (0 < entries_of step.move.party step.old.lock_list))
  pub leads : Bool
  pub ready : step.answer ≡ answer.Ready (got.Leader leads)
  pub legal : IsAtOnce step

-- A wait of a finished generation was notified, and finds the inner lock free. Its poll is refused for memory, which it doesn't need.
pub record RefusedInVain : Type 0 where
  pub whole : Whole
  pub arrival : ℕ
  pub polls : whole.call ≡ call.Poll
  pub was_pending : standing_of whole.old whole.party ≡ outside Pending
  pub marked : is_marked_at (is_party whole.party) whole.old.list ≡ true
  pub counted : wait_of whole.old whole.party ≡ counted arrival
  pub finished : IsFinished whole.old.size arrival whole.old.arrivals
  pub free : is_free whole.old.lock ≡ true
  pub is_refused : whole.answer ≡ refused refusal.Memory
  pub kept : Keeps whole

-- A first poll finds the inner lock free, and memory, and is pending without being counted.
pub record WaitsForNothing : Type 0 where
  pub whole : Whole
  pub first : is_first_poll (standing_of whole.old whole.party) (Begin whole.call whole.inputs) (entries_in whole.old whole.party) ≡ true
  pub free : is_free whole.old.lock ≡ true
  pub memory : whole.inputs.memory ≡ true
  pub new_wait : wait_then (Begin whole.call whole.inputs) answer.Stepped (wait_of whole.old whole.party) ≡ uncounted
  pub pending : whole.answer ≡ answer.Pending
  pub not_counted : wait_of whole.new whole.party ≡ uncounted
  pub kept : Keeps whole

-- A notified party polls alone where the inner lock is free and nobody is starved, and waits again as before.
pub record PassesOverInVain : Type 0 where
  pub whole : Whole
  pub polls : whole.call ≡ call.Poll
  pub solo : IsSolo whole.old whole.party whole.inputs
  pub free : whole.old.lock.holder ≡ None
  pub none_starved : how_many whole.old.lock.starved ≡ 0
  pub was : wait_of whole.old whole.party ≡ uncounted
  pub pending : whole.answer ≡ answer.Pending
  pub is : wait_of whole.new whole.party ≡ uncounted
  pub kept : Keeps whole

-- A poll of a party that waits for the inner lock is refused, and nobody else is told.
pub record KeepsItsTold : Type 0 where
  pub whole : Whole
  pub polls : whole.call ≡ call.Poll
  pub was_pending : standing_of whole.old whole.party ≡ outside Pending
  pub listed : 0 < entries_of whole.party whole.old.lock_list
  pub is_refused : is_refusal whole.answer ≡ true
  pub some : 0 < length whole.new.lock_list
  pub none_told : marked_count whole.new.lock_list ≡ 0
  pub kept : Keeps whole

-- A first poll finds the inner lock free, and its first step doesn't take it.
pub record LooksInVain : Type 0 where
  pub step : Step
  pub first : is_first_poll (standing_of step.old step.move.party) step.move.what (entries_in step.old step.move.party) ≡ true
  pub free : is_free step.old.lock ≡ true
  pub not_taken : step.new.lock.holder ≢ Some step.move.party
  pub legal : IsAtOnce step

-- A party tells more than one in the inner lock's list, as all that wait there.
pub record WakesAll : Type 0 where
  pub step : Step
  pub many : ℕ
  pub more : many ≢ 1
  pub legal : IsLegal step
  pub notifies : legal.one_change.effect ≡ does Lock (notifies many)

-- Nobody holds the inner lock, a party outside every call waits for it, and nobody there has been told, nor has anybody to tell or to look: another may be inside a poll, but stands in the list itself.
pub record SleepsThoughFree : Type 0 where
  pub world : World
  pub party : ℕ
  pub free : world.lock.holder ≡ None
  pub stands : is_outside (standing_of world party) ≡ true
  pub listed : 0 < entries_of party world.lock_list
  pub none_told : marked_count world.lock_list ≡ 0
  pub none_due : (q : ℕ) → IsDue world q → ⊥
  pub sound : IsSound world

-- So beside polls that are decided: whoever would be due has its answer, isn't refused and has nothing to tell.
pub record SleepsBesideAPoll : Type 0 where
  pub world : World
  pub party : ℕ
  pub free : world.lock.holder ≡ None
  pub stands : is_outside (standing_of world party) ≡ true
  pub listed : 0 < entries_of party world.lock_list
  pub none_told : marked_count world.lock_list ≡ 0
  pub decided : (q : ℕ) → is_due (standing_of world q) ≡ true → is_decided (standing_of world q) ≡ true
  pub none_refused : (q : ℕ) → is_refused (standing_of world q) ≡ false
  pub none_tells : (q : ℕ) → has_to_tell world q ≡ false
  pub sound : IsSound world

-- A step takes the inner lock, and decides that its wait is refused for too many starved parties.
pub record StarvedHavingTaken : Type 0 where
  pub step : Step
  pub took : step.new.lock.holder ≢ step.old.lock.holder
  pub refused : DecidesOn step.old step.move step.answer step.new (refused refusal.Starved)
  pub legal : IsLegal step

-- A party is refused for too many starved parties of which it is one.
pub record StarvedTwice : Type 0 where
  pub step : Step
  pub starved : is_starved step.old.lock step.move.party ≡ true
  pub refused : DecidesOn step.old step.move step.answer step.new (refused refusal.Starved)
  pub legal : IsLegal step

-- So is a wait at its first step, which counts nobody.
pub record StarvedAtFirst : Type 0 where
  pub step : Step
  pub rest : Rest
  pub begins : standing_of step.old step.move.party ≡ outside rest
  pub refused : DecidesOn step.old step.move step.answer step.new (refused refusal.Starved)
  pub legal : IsLegal step

-- A whole call's wait is refused for too many starved parties, though there were none, and the party hasn't waited for too long.
pub record StarvedForNothing : Type 0 where
  pub whole : Whole
  pub patient : whole.inputs.starving ≡ false
  pub none_starved : how_many whole.old.lock.starved ≡ 0
  pub is_refused : whole.answer ≡ refused refusal.Starved
  pub kept : Keeps whole

-- A notified party's poll takes the inner lock and releases it, and of those that wait there nobody is told.
pub record ReleasesSilently : Type 0 where
  pub whole : Whole
  pub polls : whole.call ≡ call.Poll
  pub solo : IsSolo whole.old whole.party whole.inputs
  pub free : whole.old.lock.holder ≡ None
  pub none_starved : how_many whole.old.lock.starved ≡ 0
  pub some : 0 < length whole.new.lock_list
  pub none_told : marked_count whole.new.lock_list ≡ 0
  pub kept : Keeps whole

-- A call waits for the inner lock at its end and has told another there, while nobody is starved nor has waited for too long: so two parties wake each other for ever over what neither of them gets.
pub record WakesInARing : Type 0 where
  pub whole : Whole
  pub other : ℕ
  pub patient : whole.inputs.starving ≡ false
  pub none_starved : how_many whole.old.lock.starved ≡ 0
  pub pending : whole.answer ≡ answer.Pending
  pub listed : 0 < entries_of whole.party whole.new.lock_list
  pub another : other ≢ whole.party
  pub untold : is_marked_at (is_party other) whole.old.lock_list ≡ false
  pub told : is_marked_at (is_party other) whole.new.lock_list ≡ true
  pub kept : Keeps whole

-- A wait that is to be refused, and has no more to do with the inner lock, goes on or ends, and some other that waits there is notified by nobody.
pub record RefusedSilently : Type 0 where
  pub step : Step
  pub within : Within
  pub why : ℕ
  pub refused : standing_of step.old step.move.party ≡ inside within (Some (answer.Refused why))
  pub apart : step.old.lock.holder ≢ Some step.move.party
  pub unlisted : entries_of step.move.party step.old.lock_list ≡ 0
  pub unstarved : is_starved step.old.lock step.move.party ≡ false
  pub possible : is_possible step.answer ≡ true
  pub none_told : step.new.lock_list ≢ notified step.old.lock_list 1
  pub legal : IsAtOnce step

-- Steps of other parties than this one lead from one World to another.
abbrev pub Meanwhile : ℕ → List Step → World → World → Type 0
Meanwhile p [] w v = v ≡ w
Meanwhile p (s ∷ ss) w v = (s.old ≡ w) × (s.move.party ≢ p) × IsLegal s × Meanwhile p ss s.new v

-- A step releases the inner lock, and its call is over: those that wait for the lock are told by nobody.
pub record EndsByReleasing : Type 0 where
  pub step : Step
  pub held : step.old.lock.holder ≡ Some step.move.party
  pub released : step.new.lock.holder ≢ Some step.move.party
  pub ended : step.answer ≢ answer.Stepped
  pub legal : IsLegal step

-- A party releases the inner lock, others move, and its next step tells nobody that waits for the lock, or two.
pub record ReleasesUntold : Type 0 where
  pub first : Step
  pub between : List Step
  pub next : Step
  pub held : first.old.lock.holder ≡ Some first.move.party
  pub released : first.new.lock.holder ≢ Some first.move.party
  pub meanwhile : Meanwhile first.move.party between first.new next.old
  pub same : next.move.party ≡ first.move.party
  pub possible : is_possible next.answer ≡ true
  pub untold : next.new.lock_list ≢ notified next.old.lock_list 1
  pub legal : IsLegal first
  pub legal_too : IsLegal next

-- A party was told of the inner lock, finds it free with nobody starved, and has not to wait for its generation. Its poll is refused for memory, which it doesn't need.
pub record RefusedUnneeded : Type 0 where
  pub whole : Whole
  pub polls : whole.call ≡ call.Poll
  pub was_pending : standing_of whole.old whole.party ≡ outside Pending
  pub marked : is_marked_at (is_party whole.party) whole.old.lock_list ≡ true
  pub goes_on : HasToWait whole.old (wait_of whole.old whole.party) → ⊥
  pub free : whole.old.lock.holder ≡ None
  pub none_starved : how_many whole.old.lock.starved ≡ 0
  pub is_refused : whole.answer ≡ refused refusal.Memory
  pub kept : Keeps whole

-- ---- Whoever has waited for too long for the inner lock

-- A first poll is refused for too many starved parties, though there were none.
pub record StarvedUnwaited : Type 0 where
  pub whole : Whole
  pub first : is_first_poll (standing_of whole.old whole.party) (Begin whole.call whole.inputs) (entries_in whole.old whole.party) ≡ true
  pub none_starved : how_many whole.old.lock.starved ≡ 0
  pub is_refused : whole.answer ≡ refused refusal.Starved
  pub kept : Keeps whole

-- Or it ends starved, though it hasn't waited.
pub record CountsUnwaited : Type 0 where
  pub whole : Whole
  pub first : is_first_poll (standing_of whole.old whole.party) (Begin whole.call whole.inputs) (entries_in whole.old whole.party) ≡ true
  pub none_starved : how_many whole.old.lock.starved ≡ 0
  pub starved : is_starved whole.new.lock whole.party ≡ true
  pub kept : Keeps whole

-- A newcomer's first poll has the inner lock while another is starved for it: it leads its generation, or is refused since it would.
pub record OvertakesStarved : Type 0 where
  pub whole : Whole
  pub first : is_first_poll (standing_of whole.old whole.party) (Begin whole.call whole.inputs) (entries_in whole.old whole.party) ≡ true
  pub some_starved : 0 < how_many whole.old.lock.starved
  pub leads : (whole.answer ≡ answer.Ready (got.Leader true)) ⊎ (whole.answer ≡ refused refusal.Generations)
  pub kept : Keeps whole

-- At rest a notified party that isn't starved has the inner lock before a starved one: it isn't starved afterwards.
pub record PassesTheStarved : Type 0 where
  pub whole : Whole
  pub polls : whole.call ≡ call.Poll
  pub solo : IsSolo whole.old whole.party whole.inputs
  pub free : whole.old.lock.holder ≡ None
  pub at_rest : is_at_rest whole.old ≡ true
  pub patient : is_starved whole.old.lock whole.party ≡ false
  pub some_starved : 0 < how_many whole.old.lock.starved
  pub unrefused : whole.answer ≢ refused refusal.Starved
  pub still_patient : is_starved whole.new.lock whole.party ≡ false
  pub kept : Keeps whole

-- A party that is starved for the inner lock and stands first in its list, while nobody is inside a call, is overtaken by steps of others, in whatever order they come.
pub record OvertakenInTheMidst : Type 0 where
  pub party : ℕ
  pub steps : ℕ
  pub old : World
  pub new : World
  pub first : before party old.lock_list ≡ 0
  pub idle : how_many_inside old.standings ≡ 0
  pub overtaken : overtaking.OvertakenInSteps Steps (λ w. w.lock_list) starved_in HoldsLock (λ w. w.standings) party steps 1 old new
  pub seldom : IsOvertakenSeldomInSteps old

-- A notified party that has waited for too long finds the inner lock held, and room for one more starved party, and it isn't counted as one: newcomers may overtake it for ever.
pub record NeverStarved : Type 0 where
  pub whole : Whole
  pub polls : whole.call ≡ call.Poll
  pub solo : IsSolo whole.old whole.party whole.inputs
  pub long : whole.inputs.starving ≡ true
  pub room : how_many whole.old.lock.starved < whole.old.starved_limit
  pub held : whole.old.lock.holder ≢ None
  pub patient : is_starved whole.new.lock whole.party ≡ false
  pub kept : Keeps whole

-- A party that gives up its wait for the inner lock has left the list, and is counted as starved still.
pub record LeavesCounted : Type 0 where
  pub step : Step
  pub party : ℕ
  pub within : Within
  pub gives_back : standing_of step.new party ≡ inside within (Some answer.GivenBack)
  pub unlisted : entries_of party step.new.lock_list ≡ 0
  pub starved : is_starved step.new.lock party ≡ true
  pub legal : IsLegal step

-- The drop of a wait in the inner lock's list that isn't starved goes on, so that what it was told reaches nobody for some steps.
pub record DropDawdles : Type 0 where
  pub step : Step
  pub drops : is_drop step.move.what ≡ true
  pub pending : standing_of step.old step.move.party ≡ outside Pending
  pub listed : 0 < entries_of step.move.party step.old.lock_list
  pub unstarved : is_starved step.old.lock step.move.party ≡ false
  pub goes_on : step.answer ≡ answer.Stepped
  pub legal : IsAtOnce step

-- The drop of a wait that doesn't stand in the inner lock's list goes on.
pub record OtherDropDawdles : Type 0 where
  pub step : Step
  pub drops : is_drop step.move.what ≡ true
  pub unlisted : entries_of step.move.party step.old.lock_list ≡ 0
  pub goes_on : step.answer ≡ answer.Stepped
  pub legal : IsAtOnce step

-- The first step of the drop of a wait that stands in the inner lock's list notifies another there, whatever it was told itself.
pub record DropTells : Type 0 where
  pub step : Step
  pub drops : is_drop step.move.what ≡ true
  pub party : step.move.party ≡ 0
  pub pending : standing_of step.old step.move.party ≡ outside Pending
  pub before : step.old.lock_list ≡ entry 1 Waiting ∷ entry 0 Waiting ∷ []
  pub tells : step.new.lock_list ≡ notified step.old.lock_list 1
  pub legal : IsAtOnce step

-- Two parties are told of one inner lock.
pub record TwoToldOfLock : Type 0 where
  pub world : World
  pub two : 1 < marked_count world.lock_list
  pub sound : IsSound world

-- A call that is decided, as that of a guard's drop that has given its right back, goes on after three further steps of its own, whatever others did in between.
pub record EndsLate : Type 0 where
  pub party : ℕ
  pub steps : ℕ
  pub old : World
  pub new : World
  pub decided : is_decided (standing_of old party) ≡ true
  pub goes_on : GoesOnFor Steps standing_of party steps 3 old new
  pub soon : EndsSoon old

-- A party that was outside every call is counted as starved for the inner lock, though its clock said nothing, and nobody was starved where it stepped.
pub record StarvedUnasked : Type 0 where
  pub party : ℕ
  pub steps : ℕ
  pub old : World
  pub new : World
  pub outside : is_outside (standing_of old party) ≡ true
  pub plain : is_starved old.lock party ≡ false
  pub in_peace : StepsInPeace Steps standing_of (λ w. w.lock.starved) party steps old new
  pub starved : is_starved new.lock party ≡ true
  pub cause : StarvesForCause old

-- Or it is refused so, as one too many of the starved, by one more such step.
pub record RefusedUnasked : Type 0 where
  pub party : ℕ
  pub steps : ℕ
  pub old : World
  pub mid : World
  pub move : Move
  pub new : World
  pub outside : is_outside (standing_of old party) ≡ true
  pub plain : is_starved old.lock party ≡ false
  pub in_peace : StepsInPeace Steps standing_of (λ w. w.lock.starved) party steps old mid
  pub own : move.party ≡ party
  pub last : IsInPeace Steps standing_of (λ w. w.lock.starved) party mid move
  pub refused : Steps mid move (refused refusal.Starved) new
  pub cause : StarvesForCause old
