-- The places of a mutex's calls: the action at each, and what comes after what it finds.
use Rattle.std.specs.Prelude.{Bool, true, false, Option, Some, None}
use Rattle.lock_program.specs.declared.refusal.Refusal.TheVariants.{Memory, Starved}
use Rattle.lock_program.specs.declared.mutex.Place.{Place}
use Rattle.lock_program.specs.declared.mutex.Place.TheVariants.{Out, Holding, Enter, Try, Clear, CancelUncount, CancelLeave, Join, Look, Ask, Retry, PassOn, Count, JoinStarved, LookAlone, PassOnListed, AskStarved, Seize, Uncount, Leave, RefuseUncount, RefuseLeave, RefuseNotifyMemory, RefuseNotifyStarved, ReleaseNotify}
use Rattle.lock_program.specs.declared.mutex.LockCall.{LockCall}
use Rattle.lock_program.specs.declared.mutex.LockCall.TheVariants as call
use Rattle.lock_program.specs.declared.mutex.Action.{Action}
use Rattle.lock_program.specs.declared.mutex.Action.TheVariants as act
use Rattle.lock_program.specs.declared.mutex.Found.{Found}
use Rattle.lock_program.specs.declared.mutex.Found.TheVariants.{Done, Free, Held, AtLimit, Yes}
use Rattle.lock_program.specs.declared.end.End.TheVariants.{Got, Pending, NotFree, GivenBack, Refused}
use Rattle.lock_program.specs.declared.end.Next.{Next}
use Rattle.lock_program.specs.declared.end.Next.TheVariants as next

-- the place at which a call begins
abbrev pub start_of : LockCall → Place → Option Place
start_of call.Lock Out = Some Enter
start_of call.Try Out = Some Try
start_of call.Poll Out = Some Enter
start_of call.Poll Ask = Some Ask
start_of call.Poll AskStarved = Some AskStarved
start_of call.Release Holding = Some Clear
start_of call.Cancel Out = Some Out
start_of call.Cancel Ask = Some CancelLeave
start_of call.Cancel AskStarved = Some CancelUncount
start_of _ _ = None

-- the action at a place
abbrev pub action_of : Place → Action
action_of Out = act.Nothing
action_of Holding = act.Nothing
action_of Enter = act.Take
action_of Try = act.Take
action_of Clear = act.Clear
action_of CancelUncount = act.Uncount
action_of CancelLeave = act.Leave
action_of (Join told) = act.Join
action_of (Look told) = act.Take
action_of Ask = act.Ask
action_of Retry = act.Take
action_of PassOn = act.Notify
action_of (Count listed told) = act.Count
action_of JoinStarved = act.Join
action_of LookAlone = act.TakeAlone
action_of PassOnListed = act.Notify
action_of AskStarved = act.Ask
action_of Seize = act.Set
action_of (Uncount listed) = act.Uncount
action_of Leave = act.Leave
action_of RefuseUncount = act.Uncount
action_of (RefuseLeave told) = act.Leave
action_of RefuseNotifyMemory = act.Notify
action_of RefuseNotifyStarved = act.Notify
action_of ReleaseNotify = act.Notify

abbrev pub after_join : Bool → Found → Next Place Place
after_join told Done = next.Do (Look told)
after_join true _ = next.Do RefuseNotifyMemory
after_join false _ = next.End (Refused Memory) Out

abbrev pub after_count : Bool → Bool → Found → Next Place Place
after_count true told AtLimit = next.Do (RefuseLeave told)
after_count false true AtLimit = next.Do RefuseNotifyStarved
after_count false false AtLimit = next.End (Refused Starved) Out
after_count true told _ = next.Do AskStarved
after_count false told _ = next.Do JoinStarved

-- what comes after a place of a call that is decided, whatever was found there
abbrev pub after_decision : Place → Next Place Place
after_decision (Uncount true) = next.Do Leave
after_decision RefuseUncount = next.Do RefuseNotifyMemory
after_decision (RefuseLeave true) = next.Do RefuseNotifyStarved
after_decision (RefuseLeave false) = next.End (Refused Starved) Out
after_decision RefuseNotifyStarved = next.End (Refused Starved) Out
after_decision RefuseNotifyMemory = next.End (Refused Memory) Out
after_decision Clear = next.Do ReleaseNotify
after_decision CancelUncount = next.Do CancelLeave
after_decision ReleaseNotify = next.End GivenBack Out
after_decision CancelLeave = next.End GivenBack Out
after_decision _ = next.End Got Holding

-- what comes after a place where this was found
abbrev pub next_of : Place → Found → Next Place Place
next_of Out _ = next.End GivenBack Out
next_of Holding _ = next.End Got Holding
next_of Enter Free = next.End Got Holding
next_of Enter _ = next.Do (Join false)
next_of Try Free = next.End Got Holding
next_of Try _ = next.End NotFree Out
next_of (Join told) found = after_join told found
next_of (Look told) Free = next.Do Leave
next_of (Look told) (Held starving) = next.Do Ask
next_of (Look told) _ = next.Do (Count true told)
next_of Ask Yes = next.Do Retry
next_of Ask _ = next.End Pending Ask
next_of Retry Free = next.End Got Holding
next_of Retry (Held true) = next.Do (Count false true)
next_of Retry (Held false) = next.Do (Join true)
next_of Retry _ = next.Do PassOn
next_of PassOn _ = next.Do (Count false true)
next_of (Count listed told) found = after_count listed told found
next_of JoinStarved Done = next.Do LookAlone
next_of JoinStarved _ = next.Do RefuseUncount
next_of LookAlone Free = next.Do (Uncount true)
next_of LookAlone (Held starving) = next.Do AskStarved
next_of LookAlone _ = next.Do PassOnListed
next_of PassOnListed _ = next.Do AskStarved
next_of AskStarved Yes = next.Do Seize
next_of AskStarved _ = next.End Pending AskStarved
next_of Seize Free = next.Do (Uncount false)
next_of Seize _ = next.Do JoinStarved
next_of (Uncount true) _ = next.Do Leave
next_of (Uncount false) _ = next.End Got Holding
next_of Leave _ = next.End Got Holding
next_of RefuseUncount _ = next.Do RefuseNotifyMemory
next_of (RefuseLeave true) _ = next.Do RefuseNotifyStarved
next_of (RefuseLeave false) _ = next.End (Refused Starved) Out
next_of RefuseNotifyMemory _ = next.End (Refused Memory) Out
next_of RefuseNotifyStarved _ = next.End (Refused Starved) Out
next_of ReleaseNotify _ = next.End GivenBack Out
next_of Clear _ = next.Do ReleaseNotify
next_of CancelUncount _ = next.Do CancelLeave
next_of CancelLeave _ = next.End GivenBack Out
