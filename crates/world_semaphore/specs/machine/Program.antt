-- What a World's move asks of a semaphore's programs, and where a party stands after what comes next.
use Rattle.std.specs.Prelude.{Option, Some, None}
use Rattle.lock_program.specs.declared.end.Next.{Next as TableNext}
use Rattle.lock_program.specs.declared.end.Next.TheVariants as next
use Rattle.world_base.specs.declared.moves.Call.{Call}
use Rattle.world_base.specs.declared.moves.Call.TheVariants as call
use Rattle.world_base.specs.declared.moves.What.{What}
use Rattle.world_base.specs.declared.moves.What.TheVariants.{Begin, Go}
use Rattle.sync_program.specs.declared.permits.Place.{Place}
use Rattle.sync_program.specs.declared.permits.Position.{Position}
use Rattle.sync_program.specs.declared.permits.Position.TheVariants.{At}
use Rattle.sync_program.specs.declared.permits.SemaphoreCall.{SemaphoreCall}
use Rattle.sync_program.specs.declared.permits.SemaphoreCall.TheVariants as asks
use Rattle.sync_program.specs.Permits as table
pub use Rattle.sync_program.specs.Permits.{action_of, next_of}

-- what comes next after a place
abbrev pub Next : Type 0
Next = TableNext Place Position

-- what a call asks of the programs; nothing, if it is none of theirs
abbrev pub asked_of : Call → Option SemaphoreCall
asked_of (call.Acquire k) = Some (asks.Acquire k)
asked_of (call.TryAcquire k) = Some (asks.TryAcquire k)
asked_of call.Poll = Some asks.Poll
asked_of call.Forget = Some asks.Forget
asked_of (call.AddPermits n) = Some (asks.AddPermits n)
asked_of call.Drop = Some asks.Drop
asked_of _ = None

-- the place at which a call begins
abbrev pub started : Option SemaphoreCall → Position → Option Place
started (Some c) x = table.start_of c x
started None x = None

abbrev pub start_of : Call → Position → Option Place
start_of c x = started (asked_of c) x

-- the place whose action a move carries out
abbrev pub place_for : What → Position → Option Place
place_for (Begin c inputs) x = start_of c x
place_for (Go inputs) (At place) = Some place
place_for (Go inputs) _ = None

-- where a party stands after this
abbrev pub position_after : Next → Position
position_after (next.Do place) = At place
position_after (next.End e x) = x
