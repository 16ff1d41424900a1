use Rattle.std.proofs.Common.{rules}
use Rattle.words_permits.proofs.Keeps.{sits_looking}
use Rattle.semaphore_core.proofs.raw.RawSemaphore.sit_and_look.Goals as goal

pub load_new_seat-found-requires : goal.load_new_seat-found-requires
load_new_seat-found-requires c = (search rules, sits_looking _ _ _ _ _ _)
