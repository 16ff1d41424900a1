use Rattle.std.proofs.Common.{rules}
use Rattle.words_access.proofs.Allowed.{sits}
use Rattle.access_core.proofs.access.Access.sit_and_look.Goals as goal

pub load_new_seat-seen-requires : goal.load_new_seat-seen-requires
load_new_seat-seen-requires c = (search rules, sits _ _ _ _ _)
