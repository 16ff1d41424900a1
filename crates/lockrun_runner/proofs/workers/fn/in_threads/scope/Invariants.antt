use Rattle.std.proofs.Common.{◌≡◌, ◌+◌, vec_len}
use Rattle.std.specs.Prelude.{None}
use Rattle.lockrun_runner.proofs.workers.fn.in_threads.scope.Given as goal

-- unless a worker was stopped, a thread runs for each that was given and isn't left
abbrev pub invariant-loop-one : goal.invariant-loop-one
invariant-loop-one g l = l.stopped ≡ None → vec_len l.running + l.one-iterator.rest.len ≡ l.initial.one-iterator.rest.len
