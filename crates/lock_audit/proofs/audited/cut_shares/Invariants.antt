use Rattle.std.proofs.Common.{◌≡◌, ◌+◌, vec_len}
use Rattle.std.specs.List.{All}
use Rattle.lock_audit.specs.Numbers.{nothing}
use Rattle.lock_audit.proofs.audited.cut_shares.Given as goal

-- each share that was cut off, and what is left, has counted nothing
abbrev pub invariant-loop : goal.invariant-loop
invariant-loop g l = record {
  parts : l.rest.parts + l.counter ≡ l.shares;
  cut : vec_len l.all ≡ l.counter;
  none : l.rest.numbers ≡ nothing;
  nothing : All (λ numbers. numbers ≡ nothing) l.all.items;
}
