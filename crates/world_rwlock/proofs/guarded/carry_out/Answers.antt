-- A move carries out the action of the place at which its call begins, or goes on.
use Rattle.world_rwlock.proofs.Prelude.{Option, IsSomeAnd, ap, sym, subst, Inputs, inputs_of, is_some_and, Place, Acts, place_at, start_of, place_for}
use Rattle.world_rwlock.proofs.guarded.carry_out.Goals as goal

pub returns-in-Begin : goal.returns-in-Begin
returns-in-Begin c =
    let here : Place = place_at c.args.lock.now.places c.args.party in
    let said : Inputs → Type 0 = λ i. IsSomeAnd (start_of c.in-Begin.call here) (λ from. Acts i.memory i.starving c.args.party from c.begin.result c.args.lock.now c.begin.new.self) in
    let P : Option Place → Type 0 = λ o. IsSomeAnd o (λ from. Acts (inputs_of c.args.what).memory (inputs_of c.args.what).starving c.args.party from c.begin.result c.args.lock.now c.begin.new.self) in
    record { acts = subst P (sym (ap (λ w. place_for w here) c.in-Begin.is)) (subst said c.inputs-inputs.ensures c.begin.ensures.acts) }

pub returns-in-Go : goal.returns-in-Go
returns-in-Go c =
    let here : Place = place_at c.args.lock.now.places c.args.party in
    let said : Inputs → Type 0 = λ i. Acts i.memory i.starving c.args.party here c.go.result c.args.lock.now c.go.new.self in
    let P : Place → Type 0 = λ from. Acts (inputs_of c.args.what).memory (inputs_of c.args.what).starving c.args.party from c.go.result c.args.lock.now c.go.new.self in
    record { acts = is_some_and P (place_for c.args.what here) here (ap (λ w. place_for w here) c.in-Go.is) (subst said c.inputs-inputs.ensures c.go.ensures.acts) }
