-- How callers see what stands behind a mutex's World.
use Rattle.std.specs.Prelude.{ℕ, false, Option, Some, None}
use Rattle.world_base.specs.declared.moves.Answer.{Answer}
use Rattle.world_base.specs.table.Tables.{Table}
use Rattle.world_base.specs.table.Views.{standings}
use Rattle.lock_program.specs.declared.end.End.{End}
use Rattle.world_mutex.specs.declared.program.led.Next.TheVariants as next
use Rattle.world_mutex.specs.machine.Legal.{decision}
use Rattle.world_mutex.specs.machine.State.{holder_of, starved_of}
use Rattle.world_mutex.specs.Guarded.{Guarded, place_of, answer_by}
use Rattle.world_mutex.specs.State.{World}

-- the answer of a call that is decided so over this value: only a poll is decided on having the lock before it ends
abbrev pub answer_on : ℕ → Option End → Option Answer
answer_on v None = None
answer_on v (Some e) = Some (answer_by false v (next.End e))

-- the answer on which the call is decided that a party is in
abbrev pub verdict : Guarded → ℕ → Option Answer
verdict g p = answer_on g.value (decision (place_of g p))

abbrev pub view_of : Table Guarded → World
view_of t = record {
  state = record { holder = holder_of t.machine.lock; starved = starved_of t.machine.lock; value = t.machine.value };
  entries = t.machine.lock.entries;
  standings = standings (verdict t.machine) t.stages;
  limit = t.machine.lock.limit;
  opening_value = t.opening;
  behind = t;
}
