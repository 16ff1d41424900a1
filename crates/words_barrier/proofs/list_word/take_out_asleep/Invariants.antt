use Rattle.std.proofs.Common.{◌≡◌}
use Rattle.words_barrier.proofs.list_word.take_out_asleep.Given as goal

abbrev pub invariant-loop : goal.invariant-loop
invariant-loop g l = (l.inner.table_id ≡ l.initial.inner.table_id) × (l.inner.id ≡ l.initial.inner.id) × (l.inner.me ≡ l.initial.inner.me)
