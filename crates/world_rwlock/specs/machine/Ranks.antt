-- How many steps of a party's call are left, if the others stand still.
use Rattle.std.specs.Prelude.{ℕ, ◌+◌, if◌then◌else◌, Bool, true, false}
use Rattle.lock_event.specs.Lists.{is_marked_at}
use Rattle.world_base.specs.queue.Parties.{is_party}
use Rattle.world_base.specs.declared.moves.Call.{Call}
use Rattle.world_base.specs.declared.moves.Call.TheVariants as call
use Rattle.lock_program.specs.declared.mutex.LockCall.TheVariants as turn_call
use Rattle.world_mutex.specs.machine.Mutex.{steps_left as turn_steps_left}
use Rattle.world_mutex.specs.machine.Effects.{most_steps as most_turn_steps}
use Rattle.sync_program.specs.declared.rwlock.Purpose.{Purpose}
use Rattle.sync_program.specs.declared.rwlock.Purpose.TheVariants as purpose
use Rattle.sync_program.specs.declared.rwlock.Ending.{Ending}
use Rattle.sync_program.specs.declared.rwlock.Ending.TheVariants as ending
use Rattle.sync_program.specs.declared.rwlock.Place.{Place}
use Rattle.sync_program.specs.declared.rwlock.Place.TheVariants.{EnterRead, JoinNoWriter, LookNoWriter, AskNoWriter, PassOn, RefuseLeave, EnterTurn, WaitTurn, TakeTurn, TryTurn, CancelTurn, CancellingTurn, ReleaseTurn, ReleasingTurn, Add, Mark, TryWrite, JoinNoReaders, LookNoReaders, AskNoReaders, AwaitNoReaders, LookUnlisted, DropRead, DropUpgradable, DropUpgradableNotify, DropWrite, CancelAwait, Unmark, UnmarkNotify, Down}
use Rattle.world_rwlock.specs.declared.program.led.Next.{Next}
use Rattle.world_rwlock.specs.declared.program.led.Next.TheVariants as next
use Rattle.world_rwlock.specs.machine.Roles.{bit}
use Rattle.world_rwlock.specs.machine.Machine.{RwLock, place_at}

-- once a poll has the turn
abbrev pub left_with_turn : Purpose → ℕ
left_with_turn purpose.UpgradableRead = 3
left_with_turn purpose.Write = 6

-- once the turn is released
abbrev pub left_released : Ending → ℕ
left_released ending.NotifyReaders = 1
left_released _ = 0

-- where a writer isn't listed: an upgrade keeps bit and turn if it is refused memory, a write gives them back
abbrev pub left_unlisted : Bool → ℕ
left_unlisted true = 4
left_unlisted false = 6

-- How many steps are left at most from a place, by whether the party's own entry is marked, in the list that waits for no writer and in the one that waits for no readers, and by how many steps its call on the turn has left.
abbrev pub left : Place → Bool → Bool → ℕ → ℕ
left (EnterRead told) here there turn = 4 + bit told
left (JoinNoWriter told) here there turn = 3 + bit told
left (LookNoWriter told) here there turn = if here then 8 else 2 + bit told
left AskNoWriter here there turn = if here then 7 else 1
left PassOn here there turn = 6
left (RefuseLeave told) here there turn = 1 + bit told
left (EnterTurn p) here there turn = most_turn_steps turn_call.Lock + left_with_turn p
left (WaitTurn p) here there turn = most_turn_steps turn_call.Poll + left_with_turn p
left (TakeTurn p) here there turn = turn + left_with_turn p
left (TryTurn p) here there turn = most_turn_steps turn_call.Try + 3
left CancelTurn here there turn = most_turn_steps turn_call.Cancel
left CancellingTurn here there turn = turn
left (ReleaseTurn e) here there turn = most_turn_steps turn_call.Release + left_released e
left (ReleasingTurn e) here there turn = turn + left_released e
left (Add trying) here there turn = 3
left Mark here there turn = 6
left TryWrite here there turn = 3
left (JoinNoReaders true) here there turn = 3
left (JoinNoReaders false) here there turn = 5
left (LookNoReaders upgrade) here there turn = if there then left_unlisted upgrade + 2 else 2
left (AskNoReaders upgrade) here there turn = if there then left_unlisted upgrade + 1 else 1
left (AwaitNoReaders upgrade) here there turn = if there then left_unlisted upgrade + 2 else 2
left (LookUnlisted upgrade) here there turn = left_unlisted upgrade
left DropRead here there turn = 2
left DropUpgradable here there turn = 4
left DropUpgradableNotify here there turn = 3
left DropWrite here there turn = 4
left CancelAwait here there turn = 5
left (Unmark refused) here there turn = 4
left (UnmarkNotify refused) here there turn = 3
left (Down true) here there turn = 2
left (Down false) here there turn = 4
left _ here there turn = 1

-- How many steps are left from a place to this party of this lock.
abbrev pub left_from : Place → RwLock → ℕ → ℕ
left_from x v p = left x (is_marked_at (is_party p) v.no_writer) (is_marked_at (is_party p) v.no_readers) (turn_steps_left v.turn p)

-- How many steps the party's call still takes at most if only this party moves, whatever the word, the lists and the turn are.
abbrev pub steps_left : RwLock → ℕ → ℕ
steps_left v p = left_from (place_at v.places p) v p

-- How many steps are left once a step has decided this: none where the call is over.
abbrev pub left_after : Next → RwLock → ℕ → ℕ
left_after (next.Do action q) v p = steps_left v p
left_after _ v p = 0

-- No call takes more steps than this, its first one counted, if only its party moves.
abbrev pub most_steps : Call → ℕ
most_steps call.Read = 4
most_steps call.UpgradableRead = 15
most_steps call.Write = 18
most_steps call.TryUpgradableRead = 4
most_steps call.TryWrite = 4
most_steps call.Poll = 18
most_steps call.Drop = 5
most_steps call.Downgrade = 4
most_steps call.DowngradeToUpgradable = 2
most_steps _ = 1
