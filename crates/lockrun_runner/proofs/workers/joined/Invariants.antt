use Rattle.std.proofs.Common.{◌≡◌, ◌+◌, vec_len}
use Rattle.std.specs.Prelude.{None}
use Rattle.lockrun_runner.proofs.workers.joined.Given as goal

-- unless a worker was stopped, each that was joined handed one back
abbrev pub invariant-loop-handle : goal.invariant-loop-handle
invariant-loop-handle g l = l.stopped ≡ None → vec_len l.back + l.handle-iterator.rest.len ≡ l.initial.handle-iterator.rest.len
