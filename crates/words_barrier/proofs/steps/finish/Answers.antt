use Rattle.std.proofs.Common.{◌+◌, rules, sym, ap}
use Rattle.words_barrier.proofs.Allowed.{finished}
use Rattle.words_barrier.proofs.steps.finish.Goals as goal

pub store-requires : goal.store-requires
store-requires g c = (search rules, search rules, finished _ _ _ _ _ _ (ap (λ n. n + 1) (sym c.requires.found.0)))

pub returns-clause-step : goal.returns-clause-step
returns-clause-step g c = c.store.ensures.2.1
