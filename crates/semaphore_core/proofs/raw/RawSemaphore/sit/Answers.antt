use Rattle.std.proofs.Common.{rules}
use Rattle.words_permits.proofs.Keeps.{sits}
use Rattle.semaphore_core.proofs.raw.RawSemaphore.sit.Goals as goal

pub load_new_seat-requires : goal.load_new_seat-requires
load_new_seat-requires c = (search rules, sits _ _ _ _ _ _)
