-- What a World's move asks of a barrier's programs, and what is told and left after what comes next.
use Rattle.std.specs.Prelude.{Option, Some, None}
use Rattle.lock_program.specs.declared.end.Next.{Next as TableNext}
use Rattle.lock_program.specs.declared.end.Next.TheVariants as next
use Rattle.world_base.specs.declared.moves.Call.{Call}
use Rattle.world_base.specs.declared.moves.Call.TheVariants as call
use Rattle.world_base.specs.declared.moves.Got.{Got}
use Rattle.world_base.specs.declared.moves.Got.TheVariants as got
use Rattle.world_base.specs.declared.moves.What.{What}
use Rattle.world_base.specs.declared.moves.What.TheVariants.{Begin, Go}
use Rattle.sync_program.specs.declared.barrier.BarrierCall.{BarrierCall}
use Rattle.sync_program.specs.declared.barrier.BarrierCall.TheVariants as asks
use Rattle.sync_program.specs.declared.barrier.Left.{Left}
use Rattle.sync_program.specs.declared.barrier.Left.TheVariants.{Ready, Outside}
use Rattle.sync_program.specs.declared.barrier.Place.{Place}
use Rattle.sync_program.specs.declared.barrier.Position.{Position}
use Rattle.sync_program.specs.declared.barrier.Position.TheVariants.{Out, At}
use Rattle.sync_program.specs.Barrier as table
pub use Rattle.sync_program.specs.Barrier.{action_of, with_lock, after_lock, after_cancel, released, after_release, next_of}

-- what comes next after a place
abbrev pub Next : Type 0
Next = TableNext Place Left

-- what a call asks of the programs; nothing, if it is none of theirs
abbrev pub asked_of : Call → Option BarrierCall
asked_of call.Wait = Some asks.Wait
asked_of call.Poll = Some asks.Poll
asked_of call.Drop = Some asks.Drop
asked_of _ = None

-- the place at which a call begins
abbrev pub started : Option BarrierCall → Position → Option Place
started (Some c) x = table.start_of c x
started None x = None

abbrev pub start_of : Call → Position → Option Place
start_of c x = started (asked_of c) x

-- the place whose action a move carries out
abbrev pub place_for : What → Position → Option Place
place_for (Begin c inputs) x = start_of c x
place_for (Go inputs) (At place) = Some place
place_for (Go inputs) _ = None

-- what a call that has ended got, and where its party stands
abbrev pub got_left : Left → Got
got_left (Ready leads) = got.Leader leads
got_left (Outside x) = got.Plain

abbrev pub position_left : Left → Position
position_left (Ready leads) = Out
position_left (Outside x) = x

-- where a party stands after this
abbrev pub position_after : Next → Position
position_after (next.Do place) = At place
position_after (next.End e x) = position_left x
