-- How callers see what stands behind a barrier's World.
use Rattle.std.specs.Prelude.{ℕ, List, [], ◌∷◌, map, Option}
use Rattle.world_base.specs.declared.moves.Answer.{Answer}
use Rattle.world_base.specs.table.Tables.{Table}
use Rattle.world_base.specs.table.Views.{standings}
use Rattle.world_mutex.specs.machine.Course.{is_releasing}
use Rattle.world_mutex.specs.machine.Mutex.{course_at, holder_of, starved_of}
use Rattle.sync_program.specs.declared.barrier.Position.{Position}
use Rattle.world_barrier.specs.declared.program.words.Progress.{Progress}
use Rattle.world_barrier.specs.program.Words.{progress, arrivals_at}
use Rattle.world_barrier.specs.machine.Waits.{Wait, wait_at, verdict}
use Rattle.world_barrier.specs.machine.Machine.{Barrier, position_at}
use Rattle.world_barrier.specs.State.{World}

-- each party's wait, by where it stands and by its last arrival; one that never arrived has the number 0
abbrev pub waits_of : ℕ → List Position → List Progress → List Wait
waits_of size [] arrivals = []
waits_of size (x ∷ xs) [] = wait_at x (arrivals_at size (progress 0 0)) ∷ waits_of size xs []
waits_of size (x ∷ xs) (a ∷ arrivals) = wait_at x (arrivals_at size a) ∷ waits_of size xs arrivals

-- the answer on which the call is decided that a party is in
abbrev pub verdict_in : Barrier → ℕ → Option Answer
verdict_in s p = verdict (position_at s.positions p) (course_at s.lock.courses p)

abbrev pub view_of : Table Barrier → World
view_of t = record {
  size = t.machine.words.size;
  starved_limit = t.machine.lock.limit;
  generations_limit = t.machine.words.most;
  arrivals = arrivals_at t.machine.words.size t.machine.words.progress;
  waits = waits_of t.machine.words.size t.machine.positions t.machine.arrivals;
  lock = record { holder = holder_of t.machine.lock; starved = starved_of t.machine.lock };
  releasing = map is_releasing t.machine.lock.courses;
  lock_list = t.machine.lock.entries;
  list = t.machine.entries;
  standings = standings (verdict_in t.machine) t.stages;
  behind = t;
}
