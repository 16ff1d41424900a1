use Rattle.async_once_cell.specs.Closures.{TryGives, TryNeeds}
use Rattle.async_once_cell.proofs.Promises.{same}
use Rattle.async_once_cell.proofs.init.GetOrTryInitPolled.poll_turn.Goals as goal

pub returns-clause-same : goal.returns-clause-same
returns-clause-same g c = same (TryGives (λ f fut. g.F.FnOnce.post f tt fut) g.Fut.Future.gives) (TryNeeds g.Fut.Future.needs) c.args.self.now.cell.raw _ _ _ c.poll.result _ c.poll.ensures.receipt
