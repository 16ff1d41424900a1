-- What the lock does is one action of the machine, from the place at which the call begins or goes on.
use Rattle.world_mutex.proofs.Prelude.{IsSomeAnd, refl, subst, Guarded, Carried, place_of, place_for}
use Rattle.world_mutex.proofs.table.Carrying.{begun, gone_on}
use Rattle.world_mutex.proofs.guarded.Guarded.carry_out.Goals as goal

pub returns-in-Go : goal.returns-in-Go
returns-in-Go c =
    let g : Guarded = record { lock = c.self.inside.lock; value = c.self.inside.value } in
    let h : Guarded = record { lock = c.go.new.self; value = c.self.inside.value } in
    let P : Guarded → Type 0 = λ z. IsSomeAnd (place_for c.args.was c.args.what (place_of z c.args.party)) (λ from. Carried z c.args.party c.args.what from c.go.result h) in
    subst P c.self.view_is (gone_on g h c.args.party c.args.was c.args.what c.inputs-inputs.result c.go.result refl c.inputs-inputs.ensures c.in-Go.field-0 c.in-Go.is c.go.ensures.acts c.go.ensures.legal c.go.ensures.clock)

pub returns-in-Some : goal.returns-in-Some
returns-in-Some c =
    let g : Guarded = record { lock = c.self.inside.lock; value = c.self.inside.value } in
    let h : Guarded = record { lock = c.begin.new.self; value = c.self.inside.value } in
    let P : Guarded → Type 0 = λ z. IsSomeAnd (place_for c.args.was c.args.what (place_of z c.args.party)) (λ from. Carried z c.args.party c.args.what from c.begin.result h) in
    subst P c.self.view_is (begun g h c.args.party c.args.was c.args.what c.inputs-inputs.result c.begin.result refl c.inputs-inputs.ensures c.in-Begin.call c.in-Begin.field-1 c.lock_call.result c.in-Some.call c.in-Begin.is c.lock_call.ensures c.in-Some.is c.begin.ensures.acts c.begin.ensures.legal c.begin.ensures.clock)
