-- A recorded move goes on with the history.
use Rattle.std.proofs.Common.{◌≡◌, true, [], ◌∷◌, ◌++◌, sym, ap, ◌∙◌, Result, Ok, Err}
use Rattle.std.specs.Result.{is_err, OnErr}
use Rattle.lock_audit.proofs.Replaying.{replays_more, replays_from}
use Rattle.lock_audit.proofs.book.Book.record.Goals as goal

pub invariant_of-self-2 : goal.invariant_of-self-2
invariant_of-self-2 g c =
    let keeps = g.met.W.AnyWorld.keeps_opening c.self.inside.world c.args.m c.step-answer.result c.step-answer.new.self c.step-answer.ensures in
    rw (c.push_reserved.ensures.items, c.reserve.ensures.items)
    (replays_from g.W.AnyWorld.legal _ _ _ _ (sym keeps) (replays_more g.W.AnyWorld.legal _ _ c.self.inside.world c.args.m c.step-answer.result c.step-answer.new.self c.self.invariant c.step-answer.ensures))

pub returns-clause-recorded : goal.returns-clause-recorded
returns-clause-recorded g c = c.push_reserved.ensures.items ∙ ap (λ l. l ++ (c.args.m, c.step-answer.result) ∷ []) (c.reserve.ensures.items ∙ ap (λ v. v.history) c.self.view_is)

pub invariant_of-self : goal.invariant_of-self
invariant_of-self g c = rw c.reserve.ensures.items c.self.invariant

-- what a refusal says holds of one
of_refused : {A E P : Type 0} (r : Result A E) → true ≡ is_err r → OnErr r P → P
of_refused (Ok a) e p = absurd (cc e)
of_refused (Err x) e p = p

pub returns-then-is_err-clause-refused : goal.returns-then-is_err-clause-refused
returns-then-is_err-clause-refused g c =
    let same = of_refused c.reserve.result c.if-is_err.ensures.value c.reserve.ensures.err in
    rw (c.reserve.ensures.items, same) c.self.view_is
