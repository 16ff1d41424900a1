use Rattle.std.proofs.Common.{rules}
use Rattle.words_barrier.proofs.Allowed.{sits}
use Rattle.barrier_core.proofs.raw.RawBarrier.seat.Goals as goal

pub load_new_seat-finished-requires : goal.load_new_seat-finished-requires
load_new_seat-finished-requires c = (search rules, sits _ _ _)
