-- What the machine did, said of the mutex.
use Rattle.world_mutex.proofs.Prelude.{subst, entries_of, LockCall, start_of, step_of, HasBegun, Lock, place_at, Acts, seen, witness}
use Rattle.world_mutex.proofs.of_machine.callers.Begun.{lock_goes}
use Rattle.world_mutex.proofs.of_machine.callers.Released.{release_goes}
use Rattle.world_mutex.proofs.of_machine.legal.Clauses.{known_there, can_there, begins_here, is_legal, is_unrefused, fairly, left_seen, is_done, at_once, begins_told_on, begins_patient}
use Rattle.world_mutex.proofs.of_machine.legal.Sights.{begins_kept}
use Rattle.world_mutex.proofs.of_machine.laws.Starts.{start_same}
use Rattle.world_mutex.proofs.of_machine.legal.Legal.{begins_fresh}
use Rattle.world_mutex.proofs.of_machine.legal.Untold.{begins_untold}
use Rattle.world_mutex.proofs.of_machine.legal.Long.{begins_long, abandons}
use Rattle.world_mutex.proofs.of_machine.legal.InTurn.{serves_in_turn, heard_at_start}
use Rattle.world_mutex.proofs.machine.mutex.Mutex.begin.Goals as goal

pub begin-requires-clause-known : goal.begin-requires-clause-known
begin-requires-clause-known c = known_there c.self.inside.machine c.args.self.now c.args.party c.self.view_is c.requires.known

pub begin-requires-clause-can : goal.begin-requires-clause-can
begin-requires-clause-can c = can_there c.self.inside.machine c.args.self.now c.args.party c.args.call c.self.view_is c.self.invariant c.requires.can

pub invariant_of-self : goal.invariant_of-self
invariant_of-self c = begins_kept c.args.memory c.args.party c.args.call c.begin.result c.self.inside.machine c.begin.new.self c.self.invariant c.begin.ensures.acts

pub returns : goal.returns
returns c =
    let l : Lock = c.self.inside.machine in
    let k : Lock = c.begin.new.self in
    let p = c.args.party in
    let known = known_there l c.args.self.now p c.self.view_is c.requires.known in
    let b = witness {P = λ from. Acts c.args.memory p from c.begin.result l k} (start_of c.args.call (place_at l.places p)) c.begin.ensures.acts in
    let done : HasBegun c.args.memory p c.args.call (step_of c.begin.result) (seen l) (seen k) = is_done l k _ c.begin.result c.self.invariant c.begin.ensures.acts in
    let D : LockCall → Type 0 = λ z. HasBegun c.args.memory p z (step_of c.begin.result) (seen l) (seen k) in
    rw c.step_after.ensures (rw (← c.self.view_is) (record {
      leads = begins_here k p c.args.call c.begin.result c.begin.ensures.leads;
      legal = is_legal l k c.begin.result p (invariant_of-self c) c.args.memory _ c.begin.ensures.legal;
      at_once = at_once l k c.args.memory p b.0 c.begin.result known b.2 c.args.call b.1 (c.laws.ensures.owners p) c.begin.ensures.at_once;
      fair = fairly l k c.begin.ensures.fair;
      bounded = rw (left_seen l k c.begin.result p) c.begin.ensures.bounded;
      unrefused = is_unrefused l k c.begin.result p (invariant_of-self c) c.begin.ensures.unrefused;
      patient = begins_patient l k c.args.memory p b.0 c.begin.result known b.2 c.args.call c.args.starving b.1;
      hands_on = begins_told_on l k c.args.memory p b.0 c.begin.result known b.2 c.args.call b.1;
      first = λ is. lock_goes c.args.memory p (step_of c.begin.result) (seen l) (seen k) (subst D is done);
      releases = λ is. release_goes c.args.memory p (step_of c.begin.result) (seen l) (seen k) (subst D is done);
      untold = λ fresh. begins_untold l k c.args.memory p b.0 c.begin.result known (invariant_of-self c) b.2 (start_same c.args.call (place_at l.places p) b.0 b.1) (c.laws.ensures.owners p) (begins_fresh c.args.call (place_at l.places p) b.0 (entries_of p l.entries) (c.laws.ensures.owners p) b.1 fresh);
      long = λ found polls b'. begins_long l k c.args.memory p b.0 c.begin.result known b.2 c.args.call b.1 c.args.starving found polls b';
      in_turn = serves_in_turn l k c.args.memory p b.0 c.begin.result known b.2 c.laws.ensures (start_same c.args.call (place_at l.places p) b.0 b.1).starving (heard_at_start c.args.call (place_at l.places p) b.0 b.1) (start_same c.args.call (place_at l.places p) b.0 b.1).holding;
      abandons = λ is waits. abandons l k c.args.memory p b.0 c.begin.result b.2 c.args.call b.1 is waits;
      done = done;
    }))
