-- What is still promised while a poll is pending, was promised before.
use Rattle.std.proofs.Common.{◌≡◌, sym, ap, ◌∙◌, subst}
use Rattle.std.specs.Prelude.{IfOk, Option}
use Rattle.async_once_cell.specs.Faults.{FailedSo}
use Rattle.async_once_cell.specs.Stages.{future, is_over_in}
use Rattle.async_once_cell.proofs.Promises.{pended_fails, refuses_still}
use Rattle.async_once_cell.proofs.blocking.BlockedFuture.poll.Goals as goal

pub returns-in-Pending-clause-same : goal.returns-in-Pending-clause-same
returns-in-Pending-clause-same g c =
    let answer = c.in-Pending.ensures.answer in
    let maker : c.find.new.stage.maker ≡ c.args.self.now.maker = ap (λ s. s.maker) c.in_default.ensures.none ∙ ap (λ i. i.maker) c.self.view_is in
    let over : is_over_in c.find.new.stage ≡ c.args.self.now.is_over = ap (λ s. is_over_in s) c.in_default.ensures.none ∙ ap (λ i. i.is_over) c.self.view_is in
    λ x f. (
      subst (λ (m : Option g.row.M.Denot). IfOk x (FailedSo {T = g.row.T.Denot} g.M.Maker.gives m)) maker (pended_fails g.M.Maker.purpose g.M.Maker.is_new g.M.Maker.gives g.M.Maker.needs c.self.inside.cell.now.raw c.poll_stage.new.cx (future c.self.inside.cell.now c.find.new.stage) (future c.self.inside.cell.now c.poll_stage.new.stage) g.M.Maker.purpose answer.2 x f.0),
      refuses_still _ _ (sym over ∙ answer.0, answer.1) x f.1,
    )
