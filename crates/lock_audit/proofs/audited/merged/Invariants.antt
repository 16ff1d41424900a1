use Rattle.std.proofs.Common.{◌≡◌, length}
use Rattle.lock_audit.specs.Numbers.{sums}
use Rattle.lock_audit.proofs.audited.merged.Given as goal

-- the shares so far were merged
abbrev pub invariant-loop-share : goal.invariant-loop-share
invariant-loop-share g l = record {
  parts : l.all.parts ≡ length l.yielded;
  counted : l.all.numbers ≡ sums l.yielded;
}
