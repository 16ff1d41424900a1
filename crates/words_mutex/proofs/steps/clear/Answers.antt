use Rattle.std.proofs.Common.{rules, arith}
use Rattle.words_mutex.proofs.Keeps.{cleared_by}
use Rattle.words_mutex.proofs.steps.clear.Goals as goal

pub fetch_sub-requires : goal.fetch_sub-requires
fetch_sub-requires g c = let right = c.requires.right in let t = c.requires.table.2 in
    (search rules, search rules, cleared_by _ _ _ _ _ _ _ _ _ right.1.0 right.0 right.1.1 right.1.2 (omega (arith, t)))
