-- The places of a read-write lock's calls: the action at each, and what comes after what it finds.
use Rattle.std.specs.Prelude.{Bool, true, false, Option, Some, None}
use Rattle.sync_program.specs.declared.rwlock.RwLockCall.{RwLockCall}
use Rattle.sync_program.specs.declared.rwlock.RwLockCall.TheVariants as call
use Rattle.lock_program.specs.declared.refusal.Refusal.{Refusal}
use Rattle.lock_program.specs.declared.refusal.Refusal.TheVariants.{Memory, Readers}
use Rattle.lock_program.specs.declared.mutex.LockCall.TheVariants as turn_call
use Rattle.lock_program.specs.declared.mutex.Step.TheVariants as turn_step
use Rattle.lock_program.specs.declared.end.End.TheVariants as turn_end
use Rattle.sync_program.specs.declared.rwlock.Wanted.{Wanted}
use Rattle.sync_program.specs.declared.rwlock.Wanted.TheVariants as wanted
use Rattle.sync_program.specs.declared.rwlock.Purpose.{Purpose}
use Rattle.sync_program.specs.declared.rwlock.Purpose.TheVariants as purpose
use Rattle.sync_program.specs.declared.rwlock.Ending.{Ending}
use Rattle.sync_program.specs.declared.rwlock.Ending.TheVariants as ending
use Rattle.sync_program.specs.declared.rwlock.Place.{Place}
use Rattle.sync_program.specs.declared.rwlock.Place.TheVariants.{Out, Made, Reading, Upgradable, Writing, EnterRead, JoinNoWriter, LookNoWriter, AskNoWriter, PassOn, LeaveNoWriter, RefuseLeave, RefuseNotify, CancelRead, TryRead, EnterTurn, WaitTurn, TakeTurn, TryTurn, CancelTurn, CancellingTurn, ReleaseTurn, ReleasingTurn, Add, TryUpgrade, Upgrade, Mark, TryWrite, JoinNoReaders, LookNoReaders, AskNoReaders, AwaitNoReaders, LookUnlisted, LeaveNoReaders, DropRead, DropReadNotify, DropUpgradable, DropUpgradableNotify, DropWrite, CancelAwait, Unmark, UnmarkNotify, Down, DownNotify, DowngradeNotify}
use Rattle.sync_program.specs.declared.rwlock.Action.{Action}
use Rattle.sync_program.specs.declared.rwlock.Action.TheVariants as act
use Rattle.sync_program.specs.declared.rwlock.Found.{Found}
use Rattle.sync_program.specs.declared.rwlock.Found.TheVariants.{Done, Writer, NoneLeft, Yes, Turn}
use Rattle.lock_program.specs.declared.end.End.TheVariants.{Got, Granted, Pending, Waiting, NotFree, GivenBack, Refused}
use Rattle.lock_program.specs.declared.end.Next.{Next}
use Rattle.lock_program.specs.declared.end.Next.TheVariants as next

-- where a future's first poll begins
abbrev pub first_poll : Wanted → Place
first_poll wanted.Read = EnterRead false
first_poll wanted.UpgradableRead = EnterTurn purpose.UpgradableRead
first_poll wanted.Write = EnterTurn purpose.Write

-- where a later poll begins, and the drop of a future or of a guard
abbrev pub poll_from : Place → Option Place
poll_from (Made w) = Some (first_poll w)
poll_from AskNoWriter = Some AskNoWriter
poll_from (WaitTurn p) = Some (WaitTurn p)
poll_from (AwaitNoReaders upgrade) = Some (AwaitNoReaders upgrade)
poll_from (LookUnlisted true) = Some (LookUnlisted true)
poll_from _ = None

abbrev pub drop_from : Place → Option Place
drop_from (Made w) = Some Out
drop_from AskNoWriter = Some CancelRead
drop_from (WaitTurn p) = Some CancelTurn
drop_from (AwaitNoReaders upgrade) = Some CancelAwait
drop_from (LookUnlisted true) = Some (Unmark false)
drop_from Reading = Some DropRead
drop_from Upgradable = Some DropUpgradable
drop_from Writing = Some DropWrite
drop_from _ = None

-- the place at which a call begins
abbrev pub start_of : RwLockCall → Place → Option Place
start_of call.Read Out = Some (first_poll wanted.Read)
start_of call.UpgradableRead Out = Some (first_poll wanted.UpgradableRead)
start_of call.Write Out = Some (first_poll wanted.Write)
start_of call.TryRead Out = Some TryRead
start_of call.TryUpgradableRead Out = Some (TryTurn purpose.UpgradableRead)
start_of call.TryWrite Out = Some (TryTurn purpose.Write)
start_of call.Poll at = poll_from at
start_of call.Drop at = drop_from at
start_of call.Upgrade Upgradable = Some Upgrade
start_of call.TryUpgrade Upgradable = Some TryUpgrade
start_of call.Downgrade Upgradable = Some (ReleaseTurn ending.Reading)
start_of call.Downgrade Writing = Some (Down false)
start_of call.DowngradeToUpgradable Writing = Some (Down true)
start_of _ _ = None

-- the action at a place
abbrev pub action_of : Place → Action
action_of Out = act.Nothing
action_of (Made w) = act.Nothing
action_of Reading = act.Nothing
action_of Upgradable = act.Nothing
action_of Writing = act.Nothing
action_of (EnterRead told) = act.Read
action_of (JoinNoWriter told) = act.JoinNoWriter
action_of (LookNoWriter told) = act.Read
action_of AskNoWriter = act.AskNoWriter
action_of PassOn = act.NotifyNoWriter
action_of LeaveNoWriter = act.LeaveNoWriter
action_of (RefuseLeave told) = act.LeaveNoWriter
action_of (RefuseNotify refusal) = act.NotifyNoWriter
action_of CancelRead = act.LeaveNoWriter
action_of TryRead = act.Read
action_of (EnterTurn p) = act.Begin turn_call.Lock
action_of (WaitTurn p) = act.Begin turn_call.Poll
action_of (TakeTurn p) = act.Go
action_of (TryTurn p) = act.Begin turn_call.Try
action_of CancelTurn = act.Begin turn_call.Cancel
action_of CancellingTurn = act.Go
action_of (ReleaseTurn e) = act.Begin turn_call.Release
action_of (ReleasingTurn e) = act.Go
action_of (Add trying) = act.Add
action_of TryUpgrade = act.TryUpgrade
action_of Upgrade = act.Upgrade
action_of Mark = act.Mark
action_of TryWrite = act.TryWrite
action_of (JoinNoReaders upgrade) = act.JoinNoReaders
action_of (LookNoReaders upgrade) = act.Load
action_of (AskNoReaders upgrade) = act.AskNoReaders
action_of (AwaitNoReaders upgrade) = act.Load
action_of (LookUnlisted upgrade) = act.Load
action_of LeaveNoReaders = act.LeaveNoReaders
action_of DropRead = act.Off
action_of DropReadNotify = act.NotifyNoReaders
action_of DropUpgradable = act.Off
action_of DropUpgradableNotify = act.NotifyNoReaders
action_of DropWrite = act.Unmark
action_of CancelAwait = act.LeaveNoReaders
action_of (Unmark refused) = act.Unmark
action_of (UnmarkNotify refused) = act.NotifyNoWriter
action_of (Down keeps) = act.Down
action_of DownNotify = act.NotifyNoWriter
action_of DowngradeNotify = act.NotifyNoWriter

-- a read is refused; a notification that it took goes on first
abbrev pub refuse_read : Bool → Refusal → Next Place Place
refuse_read true r = next.Do (RefuseNotify r)
refuse_read false r = next.End (Refused r) (Made wanted.Read)

-- what comes after the places of a read
abbrev pub after_read : Place → Found → Next Place Place
after_read (EnterRead told) Done = next.End Got Reading
after_read (EnterRead told) Writer = next.Do (JoinNoWriter told)
after_read (EnterRead told) _ = refuse_read told Readers
after_read (JoinNoWriter told) Done = next.Do (LookNoWriter told)
after_read (JoinNoWriter told) _ = refuse_read told Memory
after_read (LookNoWriter told) Done = next.Do LeaveNoWriter
after_read (LookNoWriter told) Writer = next.Do AskNoWriter
after_read (LookNoWriter told) _ = next.Do (RefuseLeave told)
after_read AskNoWriter Yes = next.Do PassOn
after_read AskNoWriter _ = next.End Pending AskNoWriter
after_read PassOn _ = next.Do (EnterRead true)
after_read LeaveNoWriter _ = next.End Got Reading
after_read (RefuseLeave told) _ = refuse_read told Readers
after_read (RefuseNotify r) _ = refuse_read false r
after_read TryRead Done = next.End Granted Reading
after_read TryRead _ = next.End NotFree Out
after_read _ _ = next.End GivenBack Out

-- where a call goes on once it has the turn
abbrev pub with_turn : Purpose → Bool → Place
with_turn purpose.UpgradableRead trying = Add trying
with_turn purpose.Write true = TryWrite
with_turn purpose.Write false = Mark

abbrev pub wanted_of : Purpose → Wanted
wanted_of purpose.UpgradableRead = wanted.UpgradableRead
wanted_of purpose.Write = wanted.Write

-- what comes after a step of a poll that takes the turn
abbrev pub after_lock : Purpose → Found → Next Place Place
after_lock p (Turn turn_step.More) = next.Do (TakeTurn p)
after_lock p (Turn (turn_step.End turn_end.Got)) = next.Do (with_turn p false)
after_lock p (Turn (turn_step.End (turn_end.Refused r))) = next.End (Refused r) (Made (wanted_of p))
after_lock p _ = next.End Pending (WaitTurn p)

-- what comes once the turn is released
abbrev pub released : Ending → Next Place Place
released ending.GivenBack = next.End GivenBack Out
released (ending.NotFree p) = next.End NotFree Out
released ending.RefuseReaders = next.End (Refused Readers) (Made wanted.UpgradableRead)
released ending.RefuseMemory = next.End (Refused Memory) (Made wanted.Write)
released ending.Reading = next.End GivenBack Reading
released ending.NotifyReaders = next.Do DowngradeNotify

-- what comes after the places at which a call on the turn takes its steps
abbrev pub after_turn : Place → Found → Next Place Place
after_turn (EnterTurn p) f = after_lock p f
after_turn (WaitTurn p) f = after_lock p f
after_turn (TakeTurn p) f = after_lock p f
after_turn (TryTurn p) (Turn (turn_step.End turn_end.Got)) = next.Do (with_turn p true)
after_turn (TryTurn p) _ = next.End NotFree Out
after_turn CancelTurn (Turn turn_step.More) = next.Do CancellingTurn
after_turn CancellingTurn (Turn turn_step.More) = next.Do CancellingTurn
after_turn (ReleaseTurn e) (Turn turn_step.More) = next.Do (ReleasingTurn e)
after_turn (ReleaseTurn e) _ = released e
after_turn (ReleasingTurn e) _ = released e
after_turn _ _ = next.End GivenBack Out

-- what comes after the places of a party that has the turn, on the way to its right
abbrev pub after_write : Place → Found → Next Place Place
after_write (Add true) Done = next.End Granted Upgradable
after_write (Add false) Done = next.End Got Upgradable
after_write (Add true) _ = next.Do (ReleaseTurn (ending.NotFree purpose.UpgradableRead))
after_write (Add false) _ = next.Do (ReleaseTurn ending.RefuseReaders)
after_write TryUpgrade Done = next.End Granted Writing
after_write TryUpgrade _ = next.End NotFree Upgradable
after_write Upgrade _ = next.End Waiting (LookUnlisted true)
after_write Mark NoneLeft = next.End Got Writing
after_write Mark _ = next.Do (JoinNoReaders false)
after_write TryWrite Done = next.End Granted Writing
after_write TryWrite _ = next.Do (ReleaseTurn (ending.NotFree purpose.Write))
after_write (JoinNoReaders upgrade) Done = next.Do (LookNoReaders upgrade)
after_write (JoinNoReaders true) _ = next.End (Refused Memory) (LookUnlisted true)
after_write (JoinNoReaders false) _ = next.Do (Unmark true)
after_write (LookNoReaders upgrade) NoneLeft = next.Do LeaveNoReaders
after_write (LookNoReaders upgrade) _ = next.Do (AskNoReaders upgrade)
after_write (AskNoReaders upgrade) Yes = next.Do (LookUnlisted upgrade)
after_write (AskNoReaders upgrade) _ = next.End Pending (AwaitNoReaders upgrade)
after_write (AwaitNoReaders upgrade) NoneLeft = next.Do LeaveNoReaders
after_write (AwaitNoReaders upgrade) _ = next.Do (AskNoReaders upgrade)
after_write (LookUnlisted upgrade) NoneLeft = next.End Got Writing
after_write (LookUnlisted upgrade) _ = next.Do (JoinNoReaders upgrade)
after_write _ _ = next.End Got Writing

-- what comes after the places at which a right is given back, or changed for a lesser one
abbrev pub after_giving_back : Place → Found → Next Place Place
after_giving_back DropRead NoneLeft = next.Do DropReadNotify
after_giving_back DropUpgradable NoneLeft = next.Do DropUpgradableNotify
after_giving_back DropUpgradable _ = next.Do (ReleaseTurn ending.GivenBack)
after_giving_back DropUpgradableNotify _ = next.Do (ReleaseTurn ending.GivenBack)
after_giving_back DropWrite _ = next.Do (UnmarkNotify false)
after_giving_back CancelAwait _ = next.Do (Unmark false)
after_giving_back (Unmark refused) _ = next.Do (UnmarkNotify refused)
after_giving_back (UnmarkNotify true) _ = next.Do (ReleaseTurn ending.RefuseMemory)
after_giving_back (UnmarkNotify false) _ = next.Do (ReleaseTurn ending.GivenBack)
after_giving_back (Down true) _ = next.Do DownNotify
after_giving_back (Down false) _ = next.Do (ReleaseTurn ending.NotifyReaders)
after_giving_back DownNotify _ = next.End GivenBack Upgradable
after_giving_back DowngradeNotify _ = next.End GivenBack Reading
after_giving_back _ _ = next.End GivenBack Out

-- what comes after a place where this was found
abbrev pub next_of : Place → Found → Next Place Place
next_of Out f = next.End GivenBack Out
next_of (Made w) f = next.End GivenBack Out
next_of Reading f = next.End Got Reading
next_of Upgradable f = next.End Got Upgradable
next_of Writing f = next.End Got Writing
next_of (EnterRead told) f = after_read (EnterRead told) f
next_of (JoinNoWriter told) f = after_read (JoinNoWriter told) f
next_of (LookNoWriter told) f = after_read (LookNoWriter told) f
next_of AskNoWriter f = after_read AskNoWriter f
next_of PassOn f = after_read PassOn f
next_of LeaveNoWriter f = after_read LeaveNoWriter f
next_of (RefuseLeave told) f = after_read (RefuseLeave told) f
next_of (RefuseNotify r) f = after_read (RefuseNotify r) f
next_of CancelRead f = after_read CancelRead f
next_of TryRead f = after_read TryRead f
next_of (EnterTurn p) f = after_turn (EnterTurn p) f
next_of (WaitTurn p) f = after_turn (WaitTurn p) f
next_of (TakeTurn p) f = after_turn (TakeTurn p) f
next_of (TryTurn p) f = after_turn (TryTurn p) f
next_of CancelTurn f = after_turn CancelTurn f
next_of CancellingTurn f = after_turn CancellingTurn f
next_of (ReleaseTurn e) f = after_turn (ReleaseTurn e) f
next_of (ReleasingTurn e) f = after_turn (ReleasingTurn e) f
next_of (Add trying) f = after_write (Add trying) f
next_of TryUpgrade f = after_write TryUpgrade f
next_of Upgrade f = after_write Upgrade f
next_of Mark f = after_write Mark f
next_of TryWrite f = after_write TryWrite f
next_of (JoinNoReaders upgrade) f = after_write (JoinNoReaders upgrade) f
next_of (LookNoReaders upgrade) f = after_write (LookNoReaders upgrade) f
next_of (AskNoReaders upgrade) f = after_write (AskNoReaders upgrade) f
next_of (AwaitNoReaders upgrade) f = after_write (AwaitNoReaders upgrade) f
next_of (LookUnlisted upgrade) f = after_write (LookUnlisted upgrade) f
next_of LeaveNoReaders f = after_write LeaveNoReaders f
next_of p f = after_giving_back p f
