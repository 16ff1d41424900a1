use Rattle.std.proofs.Common.{rules}
use Rattle.words_access.proofs.Duties.{splits}
use Rattle.words_access.proofs.steps.split_duty.Goals as goal

pub split_seat-requires : goal.split_seat-requires
split_seat-requires g c = (search rules, search rules, splits _ _ _ _ _)
