use Rattle.std.proofs.Common.{◌≡◌}
use Rattle.mutex_core.proofs.Looking.{seen_of}
use Rattle.mutex_core.proofs.left.find_held.Given as goal

abbrev pub invariant-loop : goal.invariant-loop
invariant-loop g l = (l.inner.table_id ≡ l.initial.inner.table_id) × (l.inner.id ≡ l.initial.inner.id) × (seen_of l.inner.me ≡ seen_of l.initial.inner.me)
