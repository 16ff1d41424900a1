-- An action of one party is one of its program, and leaves each party where it may stand.
use Rattle.world_rwlock.proofs.Prelude.{◌≡◌, ◌<◌, ℕ, Option, Some, None, ap, sym, ◌∙◌, refl, subst, put_in, Value, Holding, stage_after, Keeps, Called, Guarded, Does, with_value, parties, knows_there as knows, MovesThere as Moves}
use Rattle.world_base.specs.declared.moves.Answer.TheVariants.{Granted}
use Rattle.world_rwlock.specs.Guarded.{Stands}
use Rattle.world_rwlock.proofs.table.Kept.{acted, kept}
use Rattle.world_rwlock.proofs.guarded.GuardedMachine.act.Goals as goal

pub returns-in-Some-clause-acts : goal.returns-in-Some-clause-acts
returns-in-Some-clause-acts c =
    let some : put_in c.args.what ≡ Some c.in-Some.value = sym c.put.ensures ∙ c.in-Some.is in
    let y : Guarded = record { lock = c.self.inside.lock; value = c.in-Some.value } in
    let D : Option ℕ → Type 0 = λ o. Does o c.args.self.now c.args.party c.args.what (Granted (Value c.in-Some.value)) y in
    subst D (sym some) (refl, ap (λ x. with_value x c.in-Some.value) c.self.view_is)

pub returns-in-None-clause-acts : goal.returns-in-None-clause-acts
returns-in-None-clause-acts c =
    let none : put_in c.args.what ≡ None = sym c.put.ensures ∙ c.in-None.is in
    let x : Guarded = record { lock = c.self.inside.lock; value = c.self.inside.value } in
    let y : Guarded = record { lock = c.carry_out-next.new.lock; value = c.self.inside.value } in
    rw (← c.self.view_is) (acted x y c.args.party c.args._within c.args.what c.answer_to.result c.carry_out-next.result none c.carry_out-next.ensures.acts c.answer_to.ensures refl)

pub returns-in-None-clause-keeps : goal.returns-in-None-clause-keeps
returns-in-None-clause-keeps c =
    let x : Guarded = record { lock = c.self.inside.lock; value = c.self.inside.value } in
    let y : Guarded = record { lock = c.carry_out-next.new.lock; value = c.self.inside.value } in
    let Q : Guarded → Type 0 = λ z. c.args.party < parties z → Called knows Stands z c.args.party c.args._within c.args.what → Moves z c.args.party c.args._within c.args.what c.answer_to.result y
    → Keeps parties Stands z c.args.party (stage_after Holding c.args._within c.answer_to.result) y in
    let q : Q x = kept x y c.args.party c.args._within c.args.what c.answer_to.result c.laws.ensures in
    subst Q c.self.view_is q c.requires.known c.requires.called (returns-in-None-clause-acts c)
