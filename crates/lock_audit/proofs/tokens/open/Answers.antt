-- All ledgers open with nothing, and with all parts.
use Rattle.std.proofs.Common.{ap, ◌∙◌}
use Rattle.lock_audit.specs.Ledgers.{Names}
use Rattle.lock_audit.proofs.Counting.{each_equal}
use Rattle.lock_audit.proofs.tokens.open.Goals as goal

pub returns-clause-totals : goal.returns-clause-totals
returns-clause-totals g c = each_equal _ _ c.open-moves.ensures.total c.open-calls.ensures.total c.open-grants.ensures.total c.open-refusals.ensures.total c.open-gives_back.ensures.total c.open-granted.ensures.total

pub returns-clause-numbers : goal.returns-clause-numbers
returns-clause-numbers g c = each_equal _ _ c.open-moves.ensures.amount c.open-calls.ensures.amount c.open-grants.ensures.amount c.open-refusals.ensures.amount c.open-gives_back.ensures.amount c.open-granted.ensures.amount

pub returns-clause-parts : goal.returns-clause-parts
returns-clause-parts g c = c.open-moves.ensures.parts

pub open-moves-requires : goal.open-moves-requires
open-moves-requires g c = record { name = ap {A = Names} (λ n. n.moves) (c.blanks.view_is ∙ c.requires); parts = ap {A = Names} (λ n. n.parts) (c.blanks.view_is ∙ c.requires) }

pub open-calls-requires : goal.open-calls-requires
open-calls-requires g c = record { name = ap {A = Names} (λ n. n.calls) (c.blanks.view_is ∙ c.requires); parts = c.blanks.invariant.0 ∙ ap {A = Names} (λ n. n.parts) (c.blanks.view_is ∙ c.requires) }

pub open-grants-requires : goal.open-grants-requires
open-grants-requires g c = record { name = ap {A = Names} (λ n. n.grants) (c.blanks.view_is ∙ c.requires); parts = c.blanks.invariant.1 ∙ ap {A = Names} (λ n. n.parts) (c.blanks.view_is ∙ c.requires) }

pub open-refusals-requires : goal.open-refusals-requires
open-refusals-requires g c = record { name = ap {A = Names} (λ n. n.refusals) (c.blanks.view_is ∙ c.requires); parts = c.blanks.invariant.2 ∙ ap {A = Names} (λ n. n.parts) (c.blanks.view_is ∙ c.requires) }

pub open-gives_back-requires : goal.open-gives_back-requires
open-gives_back-requires g c = record { name = ap {A = Names} (λ n. n.gives_back) (c.blanks.view_is ∙ c.requires); parts = c.blanks.invariant.3 ∙ ap {A = Names} (λ n. n.parts) (c.blanks.view_is ∙ c.requires) }

pub open-granted-requires : goal.open-granted-requires
open-granted-requires g c = record { name = ap {A = Names} (λ n. n.granted) (c.blanks.view_is ∙ c.requires); parts = c.blanks.invariant.4 ∙ ap {A = Names} (λ n. n.parts) (c.blanks.view_is ∙ c.requires) }
