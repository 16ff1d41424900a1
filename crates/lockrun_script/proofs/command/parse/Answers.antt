use Rattle.std.proofs.Common.{subst, sym}
use Rattle.lockrun_script.specs.Commands.{Asks}
use Rattle.lockrun_script.proofs.command.parse.Goals as goal

pub returns-then-is_trimmed-clause-asked : goal.returns-then-is_trimmed-clause-asked
returns-then-is_trimmed-clause-asked c = λ command printable trimmed asks.
    c.whole.ensures.asked command (subst (λ words. Asks words command) (sym c.new.ensures) asks)
