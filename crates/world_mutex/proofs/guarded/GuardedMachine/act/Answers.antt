-- What the lock carries out is one action of its program, and leaves each party where it may stand.
use Rattle.world_mutex.proofs.Prelude.{◌≡◌, ℕ, Option, Some, None, ap, sym, ◌∙◌, refl, subst, Value, put_in, Guarded, MovesBy, with_value, Carries, place_for, place_of, is_try_kind, answer_by, witness}
use Rattle.world_base.specs.declared.moves.Answer.TheVariants.{Granted}
use Rattle.world_mutex.proofs.table.Acts.{carry_keeps}
use Rattle.world_mutex.proofs.guarded.GuardedMachine.act.Goals as goal

pub returns-in-Some-clause-acts : goal.returns-in-Some-clause-acts
returns-in-Some-clause-acts c =
    let some : put_in c.args.what ≡ Some c.in-Some.value = sym c.put.ensures ∙ c.in-Some.is in
    let h : Guarded = record { lock = c.self.inside.lock; value = c.in-Some.value } in
    let P : Option ℕ → Type 0 = λ o. MovesBy o c.args.self.now c.args.party c.args.within c.args.what (Granted (Value c.in-Some.value)) h in
    subst P (sym some) (refl, ap (λ g. with_value g c.in-Some.value) c.self.view_is)

pub returns-in-None-clause-acts : goal.returns-in-None-clause-acts
returns-in-None-clause-acts c =
    let none : put_in c.args.what ≡ None = sym c.put.ensures ∙ c.in-None.is in
    let s = witness (place_for c.args.within.was c.args.what (place_of c.args.self.now c.args.party)) c.carry_out-next.ensures in
    let same : c.self-in-None.inside.value ≡ c.args.self.now.value = ap (λ (g : Guarded). g.value) c.self-in-None.view_is ∙ s.2.value in
    let it : Carries c.args.self.now c.args.party c.args.within c.args.what c.answer_to.result c.carry_out-next.new.self = record {
      from = s.0;
      starts = s.1;
      next = c.carry_out-next.result;
      carried = s.2;
      answer = c.answer_to.ensures ∙ ap (λ v. answer_by (is_try_kind c.args.within.kind) v c.carry_out-next.result) same;
    } in
    let P : Option ℕ → Type 0 = λ o. MovesBy o c.args.self.now c.args.party c.args.within c.args.what c.answer_to.result c.carry_out-next.new.self in
    subst P (sym none) it

pub returns-in-None-clause-keeps : goal.returns-in-None-clause-keeps
returns-in-None-clause-keeps c =
    let none : put_in c.args.what ≡ None = sym c.put.ensures ∙ c.in-None.is in
    let P : Option ℕ → Type 0 = λ o. MovesBy o c.args.self.now c.args.party c.args.within c.args.what c.answer_to.result c.carry_out-next.new.self in
    carry_keeps c.args.self.now c.args.party c.args.within c.args.what c.answer_to.result c.carry_out-next.new.self c.requires.known c.requires.called none (subst P none (returns-in-None-clause-acts c))
