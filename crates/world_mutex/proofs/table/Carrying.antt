-- What the lock does at the beginning of a call, and going on, is one action of the machine.
use Rattle.world_mutex.proofs.Prelude.{◌≡◌, ℕ, Option, Some, IsSomeAnd, ap, sym, ◌∙◌, subst, Call, Inputs, What, Begin, Go, Rest, inputs_of, is_some_and, some_eq, witness, End as LockEnd, LockCall, Next, Place, Acts, HeedsClock, decided_by, IsLegal, decision, start_of, Guarded, Carried, place_of, place_for, start_by, lock_call_of}
use Rattle.world_mutex.proofs.of_machine.legal.Legal.{begins_decided}

module _ (g h : Guarded) (p : ℕ) (was : Rest) (what : What) (inputs : Inputs) (next : Next) (value : h.value ≡ g.value) (as_said : inputs ≡ inputs_of what) where
  -- the place at which a call begins
  pub begins_at : (c : Call) (i : Inputs) (o : Option LockCall) (k : LockCall) (x : Place) → what ≡ Begin c i → o ≡ lock_call_of was c → o ≡ Some k → place_for was what x ≡ start_of k x
  begins_at c i o k x is told some = ap (λ w. place_for was w x) is ∙ ap (λ l. start_by l x) (sym told ∙ some)

  carried : (from : Place) → Acts inputs.memory p from next g.lock h.lock → IsLegal inputs.memory p (decision from) next g.lock h.lock → HeedsClock inputs.starving from next → Carried g p what from next h
  carried from acts legal clock =
      let A : Inputs → Type 0 = λ i. Acts i.memory p from next g.lock h.lock in
      let L : Inputs → Type 0 = λ i. IsLegal i.memory p (decision from) next g.lock h.lock in
      let C : Inputs → Type 0 = λ i. HeedsClock i.starving from next in
      record { acts = subst A as_said acts; legal = subst L as_said legal; clock = subst C as_said clock; value = value }

  pub begun : (c : Call) (i : Inputs) (o : Option LockCall) (k : LockCall) → what ≡ Begin c i → o ≡ lock_call_of was c → o ≡ Some k
      → IsSomeAnd (start_of k (place_of g p)) (λ from. Acts inputs.memory p from next g.lock h.lock)
      → IsLegal inputs.memory p (decided_by k) next g.lock h.lock
      → IsSomeAnd (start_of k (place_of g p)) (λ from. HeedsClock inputs.starving from next)
      → IsSomeAnd (place_for was what (place_of g p)) (λ from. Carried g p what from next h)
  begun c i o k is told some acts legal clock =
      let here : Place = place_of g p in
      let a = witness (start_of k here) acts in
      let b = witness (start_of k here) clock in
      let C : Place → Type 0 = λ x. HeedsClock inputs.starving x next in
      let L : Option LockEnd → Type 0 = λ d. IsLegal inputs.memory p d next g.lock h.lock in
      let it : Carried g p what a.0 next h = carried a.0 a.2 (subst L (sym (begins_decided k here a.0 a.1)) legal) (subst C (some_eq (sym b.1 ∙ a.1)) b.2) in
      is_some_and (λ from. Carried g p what from next h) (place_for was what here) a.0 (begins_at c i o k here is told some ∙ a.1) it

  pub gone_on : (i : Inputs) → what ≡ Go i → Acts inputs.memory p (place_of g p) next g.lock h.lock → IsLegal inputs.memory p (decision (place_of g p)) next g.lock h.lock → HeedsClock inputs.starving (place_of g p) next
      → IsSomeAnd (place_for was what (place_of g p)) (λ from. Carried g p what from next h)
  gone_on i is acts legal clock = is_some_and (λ from. Carried g p what from next h) (place_for was what (place_of g p)) (place_of g p) (ap (λ w. place_for was w (place_of g p)) is) (carried (place_of g p) acts legal clock)
