-- An action of one party keeps what always holds.
use Rattle.world_rwlock.proofs.Prelude.{◌≡◌, ◌<◌, length, ap, ◌∙◌, set, action_of, next_of, place_after, led_by, OnWord, FindsMemory, OnNoWriter, OnNoReaders, OnTurn, SameRoles, place_at, in_no_writer, in_no_readers, entries_of}
use Rattle.world_rwlock.proofs.of_machine.laws.CanDo.{can_do}
use Rattle.world_rwlock.proofs.of_machine.laws.Machines.{kept}
use Rattle.world_rwlock.proofs.of_machine.laws.Finds.{finds, limit_kept}
use Rattle.world_rwlock.proofs.of_machine.stages.Leads.{turn_fair}
use Rattle.world_rwlock.proofs.of_machine.falls.Alone.{fewer}
use Rattle.world_rwlock.proofs.machine.machine.RwLock.act.Goals as goal

pub carry_out-found-requires : goal.carry_out-found-requires
carry_out-found-requires c =
    let known : c.args.party < length c.self.inside.places.items = rw (ap (λ m. length m.places) c.self.view_is) c.requires.known in
    let same : SameRoles c.args.from (place_at c.self.inside.places.items c.args.party) = rw (ap (λ m. m.places) c.self.view_is) c.requires.begins in
    rw c.action_at.ensures
    (can_do c.args.party c.self.inside.word c.self.inside.places.items c.self.inside.no_writer c.self.inside.no_readers c.self.inside.turn c.self.invariant known c.args.from same)

pub invariant_of-self : goal.invariant_of-self
invariant_of-self c =
    let known : c.args.party < length c.self.inside.places.items = rw (ap (λ m. length m.places) c.self.view_is) c.requires.known in
    let same : SameRoles c.args.from (place_at c.self.inside.places.items c.args.party) = rw (ap (λ m. m.places) c.self.view_is) c.requires.begins in
    let to : c.after.result ≡ place_after (next_of c.args.from c.carry_out-found.result) = c.after.ensures ∙ ap place_after (c.led-next.ensures ∙ ap led_by c.decide.ensures) in
    let ew : OnWord (action_of c.args.from) c.carry_out-found.result c.self.inside.word c.carry_out-found.new.word = rw c.action_at.ensures at c.carry_out-found.ensures.word in
    let el : OnNoWriter c.args.party (action_of c.args.from) c.carry_out-found.result c.self.inside.no_writer.entries c.carry_out-found.new.no_writer.entries = rw c.action_at.ensures at c.carry_out-found.ensures.no_writer in
    let em : OnNoReaders c.args.party (action_of c.args.from) c.carry_out-found.result c.self.inside.no_readers.entries c.carry_out-found.new.no_readers.entries = rw c.action_at.ensures at c.carry_out-found.ensures.no_readers in
    let et : OnTurn c.args.memory c.args.starving c.args.party (action_of c.args.from) c.carry_out-found.result c.self.inside.turn c.carry_out-found.new.turn = rw c.action_at.ensures at c.carry_out-found.ensures.turn in
    rw to
    (kept c.args.memory c.args.starving c.args.party c.self.inside.word c.carry_out-found.new.word c.self.inside.places.items c.self.inside.no_writer c.self.inside.no_readers c.carry_out-found.new.no_writer c.carry_out-found.new.no_readers c.self.inside.turn c.carry_out-found.new.turn
    c.args.from c.carry_out-found.result c.self.invariant c.laws.ensures known same ew el em et c.carry_out-found.ensures.parties_w c.carry_out-found.ensures.parties_r)

pub returns-clause-acts : goal.returns-clause-acts
returns-clause-acts c =
    let ew : OnWord (action_of c.args.from) c.carry_out-found.result c.self.inside.word c.carry_out-found.new.word = rw c.action_at.ensures at c.carry_out-found.ensures.word in
    let el : OnNoWriter c.args.party (action_of c.args.from) c.carry_out-found.result c.self.inside.no_writer.entries c.carry_out-found.new.no_writer.entries = rw c.action_at.ensures at c.carry_out-found.ensures.no_writer in
    let em : OnNoReaders c.args.party (action_of c.args.from) c.carry_out-found.result c.self.inside.no_readers.entries c.carry_out-found.new.no_readers.entries = rw c.action_at.ensures at c.carry_out-found.ensures.no_readers in
    let et : OnTurn c.args.memory c.args.starving c.args.party (action_of c.args.from) c.carry_out-found.result c.self.inside.turn c.carry_out-found.new.turn = rw c.action_at.ensures at c.carry_out-found.ensures.turn in
    let ef : FindsMemory c.args.memory (action_of c.args.from) c.carry_out-found.result = rw c.action_at.ensures at c.carry_out-found.ensures.memory in
    rw (← c.self.view_is)
    (record {
      found = c.carry_out-found.result;
      finds = finds c.args.memory c.args.starving c.args.party c.self.inside.word c.carry_out-found.new.word c.self.inside.places.items c.self.inside.no_writer c.self.inside.no_readers c.carry_out-found.new.no_writer c.carry_out-found.new.no_readers c.self.inside.turn c.carry_out-found.new.turn
          c.self.invariant (action_of c.args.from) c.carry_out-found.result ew el em et ef;
      next_is = (c.led-next.ensures ∙ ap led_by c.decide.ensures);
      no_writer = el;
      no_readers = em;
      turn = et;
      places = ap (set c.self.inside.places.items c.args.party) c.after.ensures;
      limit = limit_kept (action_of c.args.from) c.carry_out-found.result c.self.inside.word c.carry_out-found.new.word ew;
    })

pub returns-clause-fair : goal.returns-clause-fair
returns-clause-fair c =
    let acts = returns-clause-acts c in
    turn_fair c.args.memory c.args.starving c.args.party c.args.self.now.turn c.carry_out-found.new.turn (action_of c.args.from) acts.found acts.turn

pub returns-clause-falls : goal.returns-clause-falls
returns-clause-falls c =
    let own_w : entries_of c.args.party c.self.inside.no_writer.entries ≡ in_no_writer (place_at c.self.inside.places.items c.args.party) = c.self.invariant.no_writer c.args.party in
    let own_r : entries_of c.args.party c.self.inside.no_readers.entries ≡ in_no_readers (place_at c.self.inside.places.items c.args.party) = c.self.invariant.no_readers c.args.party in
    let here : entries_of c.args.party c.args.self.now.no_writer ≡ in_no_writer (place_at c.args.self.now.places c.args.party) = rw (← ap (λ m. m.no_writer) c.self.view_is, ← ap (λ m. m.places) c.self.view_is) own_w in
    let there : entries_of c.args.party c.args.self.now.no_readers ≡ in_no_readers (place_at c.args.self.now.places c.args.party) = rw (← ap (λ m. m.no_readers) c.self.view_is, ← ap (λ m. m.places) c.self.view_is) own_r in
    fewer c.args.memory c.args.starving c.args.party c.args.from c.led-next.result c.args.self.now _ c.requires.known c.requires.begins here there (returns-clause-acts c)
