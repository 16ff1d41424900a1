use Rattle.std.proofs.Common.{rules}
use Rattle.words_mutex.proofs.Keeps.{sits}
use Rattle.mutex_core.proofs.seat.Seat.sit.Goals as goal

pub load_new_seat-requires : goal.load_new_seat-requires
load_new_seat-requires g c = (search rules, sits _ _ _ _ _ _ _ _)
