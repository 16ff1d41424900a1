-- What is found of a held word says whether the taker has waited for too long.
use Rattle.world_mutex.proofs.Prelude.{ap, sym, Found, Held}
use Rattle.std.specs.Prelude.{Bool, false}
use Rattle.world_mutex.proofs.program.word.Word.take.Goals as goal

starving_of : Found → Bool
starving_of (Held starving) = starving
starving_of _ = false

pub returns-then-self-clause-clock : goal.returns-then-self-clause-clock
unfolding starving_of
returns-then-self-clause-clock c = λ long held. sym (ap starving_of held)
