-- An action of one party keeps what always holds of the mutex.
use Rattle.world_mutex.proofs.Prelude.{◌≡◌, Bool, ◌<◌, ◌≤◌, length, ap, sym, ◌∙◌, arith, sum_by, set, action_of, next_of, place_after, led_by, stands_by, OnWord, OnList, SameRoles, place_at, entries_of, holds, listed, Action, Held}
use Rattle.world_mutex.proofs.of_program.Rests.{stands_there}
use Rattle.world_mutex.proofs.of_machine.laws.CanDo.{can_do}
use Rattle.world_mutex.proofs.of_machine.laws.Laws.{finds}
use Rattle.world_mutex.proofs.of_machine.laws.Owners.{on_parties}
use Rattle.world_mutex.proofs.of_machine.laws.Effects.{limit_kept}
use Rattle.world_mutex.proofs.of_machine.laws.Kept.{after}
use Rattle.world_mutex.proofs.of_machine.legal.Fair.{acts_fairly}
use Rattle.world_mutex.proofs.of_machine.falls.Alone.{fewer}
use Rattle.world_mutex.proofs.of_machine.legal.Legal.{acts_legally, entered}
use Rattle.world_mutex.proofs.of_machine.laws.Locks.{locked}
use Rattle.world_mutex.proofs.of_machine.legal.Courses.{heeds}
use Rattle.world_mutex.proofs.machine.lock.Lock.act.Goals as goal

pub carry_out-found-requires : goal.carry_out-found-requires
carry_out-found-requires c =
    let known : c.args.party < length c.self.inside.places.items = rw (ap (λ l. length l.places) c.self.view_is) c.requires.known in
    let same : SameRoles c.args.from (place_at c.self.inside.places.items c.args.party) = rw (ap (λ l. l.places) c.self.view_is) c.requires.begins in
    rw c.action_at-action.ensures
    (can_do c.args.party c.self.inside.word c.self.inside.places.items c.self.inside.list c.self.invariant known c.args.from same)

pub invariant_of-self : goal.invariant_of-self
invariant_of-self c =
    let known : c.args.party < length c.self.inside.places.items = rw (ap (λ l. length l.places) c.self.view_is) c.requires.known in
    let same : SameRoles c.args.from (place_at c.self.inside.places.items c.args.party) = rw (ap (λ l. l.places) c.self.view_is) c.requires.begins in
    let to : c.after.result ≡ after c.args.from c.carry_out-found.result =
    c.after.ensures ∙ (ap stands_by c.decide-next.ensures ∙ stands_there c.args.from c.carry_out-found.result) in
    let word : OnWord (action_of c.args.from) c.carry_out-found.result c.self.inside.word c.carry_out-found.new.word =
    rw c.action_at-action.ensures at c.carry_out-found.ensures.word in
    let list : OnList c.args.party c.args.memory (action_of c.args.from) c.carry_out-found.result c.self.inside.list c.carry_out-found.new.list =
    rw c.action_at-action.ensures at c.carry_out-found.ensures.list in
    rw to (locked c.args.party c.self.inside.word c.carry_out-found.new.word c.self.inside.places.items c.self.inside.list c.carry_out-found.new.list c.args.memory c.args.from c.carry_out-found.result c.self.invariant known same word list)

pub returns-clause-acts : goal.returns-clause-acts
returns-clause-acts c =
    let known : c.args.party < length c.self.inside.places.items = rw (ap (λ l. length l.places) c.self.view_is) c.requires.known in
    let same : SameRoles c.args.from (place_at c.self.inside.places.items c.args.party) = rw (ap (λ l. l.places) c.self.view_is) c.requires.begins in
    let to : c.after.result ≡ after c.args.from c.carry_out-found.result =
    c.after.ensures ∙ (ap stands_by c.decide-next.ensures ∙ stands_there c.args.from c.carry_out-found.result) in
    let word : OnWord (action_of c.args.from) c.carry_out-found.result c.self.inside.word c.carry_out-found.new.word =
    rw c.action_at-action.ensures at c.carry_out-found.ensures.word in
    let list : OnList c.args.party c.args.memory (action_of c.args.from) c.carry_out-found.result c.self.inside.list c.carry_out-found.new.list =
    rw c.action_at-action.ensures at c.carry_out-found.ensures.list in
    let next_is : c.led.result ≡ next_of c.args.from c.carry_out-found.result = c.led.ensures ∙ ap led_by c.decide-next.ensures in
    let limit : c.carry_out-found.new.word.limit ≡ c.self.inside.word.limit =
    limit_kept c.args.party c.args.memory (action_of c.args.from) c.carry_out-found.result c.self.inside.word c.carry_out-found.new.word word in
    rw (← c.self.view_is)
    (record {
      found = c.carry_out-found.result;
      finds = finds c.self.inside.word c.self.inside.places.items c.self.inside.list c.args.party c.args.memory (action_of c.args.from) c.carry_out-found.result c.carry_out-found.new.word c.self.inside.list c.carry_out-found.new.list c.self.invariant word list;
      next_is = next_is;
      list = on_parties c.args.party c.args.memory c.self.inside.list c.carry_out-found.new.list (action_of c.args.from) c.carry_out-found.result list;
      places = ap (set c.self.inside.places.items c.args.party) (to ∙ sym (ap (place_after c.args.from) next_is));
      limit = limit;
    })

pub returns-clause-fair : goal.returns-clause-fair
returns-clause-fair c = acts_fairly c.args.memory c.args.party c.args.from c.led.result c.args.self.now _ c.requires.known c.requires.begins (returns-clause-acts c)

pub returns-clause-falls : goal.returns-clause-falls
returns-clause-falls c =
    let own : entries_of c.args.party c.self.inside.list.entries ≡ listed (place_at c.self.inside.places.items c.args.party) = c.self.invariant.owners c.args.party in
    let own_now : entries_of c.args.party c.args.self.now.entries ≡ listed (place_at c.args.self.now.places c.args.party) =
    rw (← ap (λ l. l.entries) c.self.view_is, ← ap (λ l. l.places) c.self.view_is) own in
    fewer c.args.memory c.args.party c.args.from c.led.result c.args.self.now _ c.requires.known c.requires.begins own_now (returns-clause-acts c)

pub returns-clause-clock : goal.returns-clause-clock
returns-clause-clock c =
    let found : (long : Bool) → action_of c.args.from ≡ Action.Take → c.carry_out-found.result ≡ Held long → long ≡ c.args.starving =
    λ long a f. c.carry_out-found.ensures.clock long (c.action_at-action.ensures ∙ a) f in
    rw (c.led.ensures ∙ ap led_by c.decide-next.ensures) (heeds c.args.starving c.args.from c.carry_out-found.result found)

-- what the action needs and leaves, said of the value
pub returns-clause-legal : goal.returns-clause-legal
returns-clause-legal c =
    let acts = returns-clause-acts c in
    let then = invariant_of-self c in
    let own : entries_of c.args.party c.self.inside.list.entries ≡ listed (place_at c.self.inside.places.items c.args.party) = c.self.invariant.owners c.args.party in
    let one : sum_by holds c.self.inside.places.items ≤ 1 = omega (arith, c.self.invariant.sound.held, c.self.invariant.sound.one_holder) in
    acts_legally c.args.memory c.args.party c.args.from c.led.result c.args.self.now _ (record {
      there = c.requires.known;
      same = c.requires.begins;
      one = rw (← ap (λ l. l.places) c.self.view_is) one;
      one_then = omega (arith, then.sound.held, then.sound.one_holder);
      own = rw (← ap (λ l. l.entries) c.self.view_is, ← ap (λ l. l.places) c.self.view_is) own;
    }) acts

pub returns-clause-at_once : goal.returns-clause-at_once
returns-clause-at_once c =
    let acts = returns-clause-acts c in
    let then = invariant_of-self c in
    let own : entries_of c.args.party c.self.inside.list.entries ≡ listed (place_at c.self.inside.places.items c.args.party) = c.self.invariant.owners c.args.party in
    let one : sum_by holds c.self.inside.places.items ≤ 1 = omega (arith, c.self.invariant.sound.held, c.self.invariant.sound.one_holder) in
    entered c.args.memory c.args.party c.args.from c.led.result c.args.self.now _ (record {
      there = c.requires.known;
      same = c.requires.begins;
      one = rw (← ap (λ l. l.places) c.self.view_is) one;
      one_then = omega (arith, then.sound.held, then.sound.one_holder);
      own = rw (← ap (λ l. l.entries) c.self.view_is, ← ap (λ l. l.places) c.self.view_is) own;
    }) acts
