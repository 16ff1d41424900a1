-- A lock over a number, the machine of a mutex's World: where its parties may stand, and what one action does to it.
use Rattle.std.specs.Prelude.{◌≡◌, ℕ, if◌then◌else◌, Bool, true, false, Option, Some, None}
use Rattle.world_base.specs.declared.moves.Answer.{Answer}
use Rattle.world_base.specs.declared.moves.Answer.TheVariants.{Stepped, Granted}
use Rattle.world_base.specs.declared.moves.Call.{Call}
use Rattle.world_base.specs.declared.moves.Call.TheVariants as call
use Rattle.world_base.specs.declared.moves.Got.TheVariants.{Value}
use Rattle.world_base.specs.declared.moves.What.{What}
use Rattle.world_base.specs.declared.moves.What.TheVariants.{Begin, Go}
use Rattle.world_base.specs.declared.standing.Kind.{Kind}
use Rattle.world_base.specs.declared.standing.Kind.TheVariants as kind
use Rattle.world_base.specs.declared.standing.Rest.{Rest}
use Rattle.world_base.specs.declared.standing.Rest.TheVariants.{Idle, Pending, Holding}
use Rattle.world_base.specs.declared.standing.Stage.{Stage}
use Rattle.world_base.specs.declared.standing.Stage.TheVariants.{Outside, Inside, Forgotten}
use Rattle.world_base.specs.declared.standing.Within.{Within}
use Rattle.world_base.specs.Frame.{put_in}
use Rattle.world_base.specs.Standings.{inputs_of}
use Rattle.lock_program.specs.declared.end.End.{End}
use Rattle.lock_program.specs.declared.end.End.TheVariants as «end»
use Rattle.world_base.specs.table.Ends.{answer_of}
use Rattle.lock_program.specs.declared.mutex.LockCall.{LockCall}
use Rattle.lock_program.specs.declared.mutex.LockCall.TheVariants as lock_call
use Rattle.world_mutex.specs.declared.program.led.Next.{Next}
use Rattle.world_mutex.specs.declared.program.led.Next.TheVariants as next
use Rattle.lock_program.specs.declared.mutex.Place.{Place}
use Rattle.lock_program.specs.declared.mutex.Place.TheVariants as place
use Rattle.world_mutex.specs.program.Program.{start_of}
use Rattle.world_mutex.specs.machine.Machine.{Lock, place_at, new_lock}
use Rattle.world_mutex.specs.machine.Acts.{Acts}
use Rattle.world_mutex.specs.machine.Courses.{is_taking, is_waiting, is_releasing, is_cancelling, HeedsClock}
use Rattle.world_mutex.specs.machine.Legal.{IsLegal, decision}

-- the lock, and the value
pub record Guarded : Type 0 where
  pub lock : Lock
  pub value : ℕ

-- free, with every party out
abbrev pub new_guarded : ℕ → ℕ → ℕ → Guarded
new_guarded parties limit value = record { lock = new_lock parties limit; value = value }

abbrev pub with_value : Guarded → ℕ → Guarded
with_value g v = record { lock = g.lock; value = v }

abbrev pub place_of : Guarded → ℕ → Place
place_of g p = place_at g.lock.places p

-- The calls of a mutex.
abbrev pub knows : Call → Bool
knows call.Lock = true
knows call.TryLock = true
knows call.Poll = true
knows call.Drop = true
knows (call.Put v) = true
knows _ = false

-- ---- Which parties stand where

-- a place inside a call of this kind, begun by a party that stood so
abbrev pub is_within : Kind → Rest → Place → Bool
is_within kind.FirstPoll Idle x = is_taking x
is_within kind.LaterPoll Pending x = is_taking x
is_within kind.Drop Holding x = is_releasing x
is_within kind.Drop Pending x = is_cancelling x
is_within _ _ x = false

-- a place at which nobody is inside a call
abbrev pub is_outside_place : Place → Bool
is_outside_place place.Out = true
is_outside_place place.Holding = true
is_outside_place x = is_waiting x

-- a stage that goes with a place
abbrev pub goes_with : Stage → Place → Bool
goes_with (Outside Idle) place.Out = true
goes_with (Outside Pending) place.Out = true
goes_with (Outside Pending) x = is_waiting x
goes_with (Outside Holding) place.Holding = true
goes_with (Inside w) x = is_within w.kind w.was x
goes_with Forgotten x = is_outside_place x
goes_with _ _ = false

abbrev pub Stands : Guarded → ℕ → Stage → Type 0
Stands g p stage = goes_with stage (place_of g p) ≡ true

-- ---- One action

-- the lock's call that a party begins which stood so
abbrev pub lock_call_of : Rest → Call → Option LockCall
lock_call_of Idle call.Lock = Some lock_call.Lock
lock_call_of Idle call.TryLock = Some lock_call.Try
lock_call_of Pending call.Poll = Some lock_call.Poll
lock_call_of Pending call.Drop = Some lock_call.Cancel
lock_call_of Holding call.Drop = Some lock_call.Release
lock_call_of _ _ = None

abbrev pub start_by : Option LockCall → Place → Option Place
start_by None x = None
start_by (Some c) x = start_of c x

-- the place whose action a move carries out
abbrev pub place_for : Rest → What → Place → Option Place
place_for was (Begin c inputs) x = start_by (lock_call_of was c) x
place_for was (Go inputs) x = Some x

abbrev pub is_try_kind : Kind → Bool
is_try_kind kind.Try = true
is_try_kind _ = false

-- what a call's end is told as: a try that got the lock is granted; no call on a mutex's machine ends as granted or waiting
abbrev pub end_of : Bool → End → End
end_of trying «end».Got = if trying then «end».Granted else «end».Got
end_of trying «end».Pending = «end».Pending
end_of trying «end».NotFree = «end».NotFree
end_of trying «end».Waiting = «end».NotFree
end_of trying «end».Granted = «end».NotFree
end_of trying «end».GivenBack = «end».GivenBack
end_of trying («end».Refused r) = «end».Refused r

-- what a try's next is answered, or another call's, over this value
abbrev pub answer_by : Bool → ℕ → Next → Answer
answer_by trying v (next.Do action p) = Stepped
answer_by trying v (next.End e) = answer_of (Value v) (end_of trying e)

-- The lock carries out the action of one place.
pub record Carried (g : Guarded) (p : ℕ) (what : What) (from : Place) (next : Next) (h : Guarded) : Type 0 where
  pub acts : Acts (inputs_of what).memory p from next g.lock h.lock
  pub legal : IsLegal (inputs_of what).memory p (decision from) next g.lock h.lock
  pub clock : HeedsClock (inputs_of what).starving from next
  pub value : h.value ≡ g.value

-- So it does for a move, from the place at which the call begins or goes on.
pub record Carries (g : Guarded) (p : ℕ) (w : Within) (what : What) (a : Answer) (h : Guarded) : Type 0 where
  pub from : Place
  pub starts : place_for w.was what (place_of g p) ≡ Some from
  pub next : Next
  pub carried : Carried g p what from next h
  pub answer : a ≡ answer_by (is_try_kind w.kind) g.value next

-- A put leaves its value; any other move is the lock's.
abbrev pub MovesBy : Option ℕ → Guarded → ℕ → Within → What → Answer → Guarded → Type 0
MovesBy (Some v) g p w what a h = (a ≡ Granted (Value v)) × (h ≡ with_value g v)
MovesBy None g p w what a h = Carries g p w what a h

abbrev pub Moves : Guarded → ℕ → Within → What → Answer → Guarded → Type 0
Moves g p w what a h = MovesBy (put_in what) g p w what a h
