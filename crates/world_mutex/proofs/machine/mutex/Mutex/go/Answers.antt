-- What the machine did, said of the mutex.
use Rattle.world_mutex.proofs.Prelude.{refl, sym, subst, End, Lock, place_at, seen, step_of, Acts}
use Rattle.std.specs.Prelude.{Option, Bool}
use Rattle.world_mutex.specs.machine.Conduct.{IsLegal}
use Rattle.world_mutex.proofs.of_machine.legal.Clauses.{known_there, is_legal, fairly, left_seen, is_done, same_place, clock, patient, hands_on, goes_here, decided_here, told_here}
use Rattle.world_mutex.proofs.of_machine.legal.Sights.{acts_kept, steps_seen}
use Rattle.world_mutex.proofs.of_machine.legal.Untold.{stays_untold}
use Rattle.world_mutex.proofs.of_machine.legal.Long.{stays_long, long_held, long_free}
use Rattle.world_mutex.proofs.of_machine.legal.InTurn.{serves_in_turn}
use Rattle.world_mutex.proofs.machine.mutex.Mutex.go.Goals as goal

pub invariant_of-self : goal.invariant_of-self
invariant_of-self c = acts_kept c.args.memory c.args.party (place_at c.self.inside.machine.places c.args.party) c.go.result c.self.inside.machine c.go.new.self c.self.invariant c.go.ensures.acts

pub returns : goal.returns
returns c =
    let l : Lock = c.self.inside.machine in
    let k : Lock = c.go.new.self in
    let p = c.args.party in
    let known = known_there l c.args.self.now p c.self.view_is c.requires.known in
    let D : Option End → Type 0 = λ d. IsLegal c.args.memory p d (step_of c.go.result) (seen l) (seen k) in
    rw c.step_after.ensures (rw (← c.self.view_is) (record {
      leads = goes_here l k p c.go.result c.go.ensures.leads;
      legal = subst D (sym (decided_here l p (c.self.invariant p))) (is_legal l k c.go.result p (invariant_of-self c) c.args.memory _ c.go.ensures.legal);
      fair = fairly l k c.go.ensures.fair;
      falls = rw (left_seen l k c.go.result p, steps_seen l p) c.go.ensures.falls;
      clock = clock l k c.args.memory p (place_at l.places p) c.go.result known c.go.ensures.acts c.args.starving refl c.go.ensures.clock;
      patient = patient l k c.args.memory p (place_at l.places p) c.go.result known c.go.ensures.acts c.args.starving (same_place (place_at l.places p)) c.go.ensures.clock (λ h. h);
      hands_on = λ told. hands_on l k c.args.memory p (place_at l.places p) c.go.result known c.go.ensures.acts (told_here l p told);
      untold = λ untold. stays_untold l k c.args.memory p (place_at l.places p) c.go.result known (invariant_of-self c) c.go.ensures.acts (same_place (place_at l.places p)) (c.laws.ensures.owners p) refl untold;
      long = λ found is. (let A : Bool → Type 0 = λ m. Acts m p (place_at l.places p) c.go.result l k in stays_long l k p (place_at l.places p) c.go.result known (subst A found c.go.ensures.acts) (same_place (place_at l.places p)) c.args.starving (long_held l p c.args.starving is) (long_free l p c.args.starving is) refl c.go.ensures.clock is);
      in_turn = serves_in_turn l k c.args.memory p (place_at l.places p) c.go.result known c.go.ensures.acts c.laws.ensures refl refl refl;
      done = is_done l k _ c.go.result c.self.invariant c.go.ensures.acts;
    }))
