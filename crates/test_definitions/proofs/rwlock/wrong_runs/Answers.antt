-- No wrong run of a read-write lock is legal.
use Rattle.std.proofs.Common.{◌≡◌, ◌≢◌, ℕ, zero, suc, ◌<◌, ◌||◌, not, Bool, true, false, List, [], ◌∷◌, Option, Some, None, refl, ap, sym, ◌∙◌, subst, inl, inr, arith}
use Rattle.std.specs.Prelude.{slice_set, nat_lt}
use Rattle.std.proofs.lemmas.Bool.{false≢true, true≢false, and_parts}
use Rattle.std.proofs.lemmas.Bool.Decides.{nat_tests}
use Rattle.world_base.specs.declared.moves.Answer.{Answer}
use Rattle.world_base.specs.declared.moves.Answer.TheVariants as answer
use Rattle.world_base.specs.declared.moves.Move.{Move}
use Rattle.world_base.specs.declared.moves.What.{What}
use Rattle.world_base.specs.declared.moves.What.TheVariants.{Go}
use Rattle.lock_program.specs.declared.refusal.Refusal.{Refusal}
use Rattle.lock_program.specs.declared.refusal.Refusal.TheVariants as refusal
use Rattle.world_base.specs.declared.standing.Rest.{Rest}
use Rattle.world_base.specs.declared.standing.Rest.TheVariants.{Idle, Pending, Holding, Finished}
use Rattle.world_base.specs.declared.standing.Within.{Within}
use Rattle.world_base.specs.Frame.{is_giving_back}
use Rattle.lock_program.specs.Refusals.{number_of}
use Rattle.world_base.specs.Rights.{Right, read, upgradable, write}
use Rattle.world_base.specs.Rosters.{is_on}
use Rattle.world_base.specs.Standings.{Standing, outside, inside, is_decided, is_possible, refused}
use Rattle.world_base.specs.Steps.{Effect, nothing, changes, does}
use Rattle.world_base.proofs.Equations.{none_some, outside_inside}
use Rattle.world_rwlock.specs.Changes.{Change, takes_turn, leaves_turn, starves, recovers, begins_to_read, stops_reading, becomes_upgradable, stops_upgradable, begins_to_wait, begins_to_write, upgrades, upgrades_at_once, unmarks, downgrades, downgrades_to_upgradable, puts, turn_after, readers_after, IsAllowed, gives_up}
use Rattle.world_rwlock.specs.Bound.{IsToldOfTurn}
use Rattle.world_rwlock.specs.Legal.{DecidesOn, HasItsOwn, HasNothing, MayMeet, IsCause, may_read}
use Rattle.world_rwlock.specs.State.{ListName, Turn, nobody, passes, waits_to_write, is_marked, HasTurn, State, World, standing_of, sought_by, how_many_read, is_upgrader}
use Rattle.test_definitions.specs.ReadWrite.{Step, IsLegal}
use Rattle.test_definitions.specs.ReadWriteWakes.{Meanwhile}
use Rattle.test_definitions.proofs.rwlock.wrong_runs.Goals as goal
use Rattle.world_base.specs.Standings.{IsUndecided}
use Rattle.world_base.specs.Steps.{notifies, notifies_additionally}
use Rattle.world_rwlock.specs.Changes.{IsAllowed}
use Rattle.world_rwlock.specs.State.{is_starved, is_for_turn, for_the_turn, for_no_readers, for_no_writer, has_to_tell}
use Rattle.std.proofs.lemmas.List.{get_or-set_other}
use Rattle.lock_event.specs.Lists.{marked_count}
use Rattle.world_base.specs.declared.standing.Kind.TheVariants as kind
use Rattle.world_rwlock.specs.State.{reads}

none_possible : (a : Answer) → a ≡ answer.None → is_possible a ≡ true
none_possible a e = ap is_possible e

pub returns-clause-tries_in_vain : goal.returns-clause-tries_in_vain
returns-clause-tries_in_vain c = λ r. let granted = r.legal.try_read r.inputs r.tries (none_possible r.step.answer r.none) in absurd (cc)

pub returns-clause-reads_unready : goal.returns-clause-reads_unready
returns-clause-reads_unready c = λ r. let ready = r.legal.first_read_ready r.first r.free in absurd (cc)

pub returns-clause-waits_unlisted : goal.returns-clause-waits_unlisted
returns-clause-waits_unlisted c = λ r. none_some (sym r.unlisted ∙ r.legal.waits.waiting r.pending)

pub returns-clause-pends_too_early : goal.returns-clause-pends_too_early
returns-clause-pends_too_early c = λ r. r.legal.waits.not_before r.within r.decided

pub returns-clause-refused_at_first : goal.returns-clause-refused_at_first
returns-clause-refused_at_first c = λ r. let was = r.legal.refused_for_cause.memory r.refused in outside_inside (sym r.begins ∙ was.1)

turn_kept : (p : ℕ) (d : Effect Change ListName) (t : Turn) → d ≡ nothing → turn_after p d t ≡ t
turn_kept p d t e = rw e refl

pub returns-clause-refused_having_moved : goal.returns-clause-refused_having_moved
returns-clause-refused_having_moved c = λ r.
    let one = r.legal.one_change in
    r.moved (ap (λ (s : State). s.turn) one.state ∙ turn_kept r.step.move.party one.effect r.step.old.state.turn (one.refused_idly r.refused))

own_as : (w : World) (p : ℕ) (s : Standing) → standing_of w p ≡ s → HasItsOwn w p (standing_of w p) → HasItsOwn w p s
own_as w p s e h = let P : Standing → Type 0 = λ x. HasItsOwn w p x in subst P e h

has_turn : (w : World) (p : ℕ) → w.state.turn ≡ waits_to_write p → HasTurn w.state.turn p
has_turn w p e = rw e refl

pub returns-clause-reads_with_the_bit : goal.returns-clause-reads_with_the_bit
returns-clause-reads_with_the_bit c = λ r.
    let own = own_as r.step.new r.step.move.party (outside Pending) r.pending (r.legal.leaves_clear.each r.step.move.party) in
    elim own.1 as (λ _. ⊥) [ inl w ↦ absurd (cc (r.seeks, w.1)) | inr n ↦ n.0 (has_turn r.step.new r.step.move.party r.waits) ]

left : (p : ℕ) (d : Effect Change ListName) (t : Turn) → t ≡ passes p → turn_after p d t ≡ nobody → gives_up d ≡ true
left p (changes leaves_turn) t e n = refl
left p (changes takes_turn) t e n = absurd (cc)
left p (changes becomes_upgradable) t e n = absurd (cc)
left p (changes stops_upgradable) t e n = absurd (cc)
left p (changes begins_to_wait) t e n = absurd (cc)
left p (changes begins_to_write) t e n = absurd (cc)
left p (changes upgrades) t e n = absurd (cc)
left p (changes upgrades_at_once) t e n = absurd (cc)
left p (changes unmarks) t e n = absurd (cc)
left p (changes downgrades) t e n = absurd (cc)
left p (changes downgrades_to_upgradable) t e n = absurd (cc)
left p (changes starves) t e n = absurd (cc)
left p (changes recovers) t e n = absurd (cc)
left p (changes begins_to_read) t e n = absurd (cc)
left p (changes stops_reading) t e n = absurd (cc)
left p (changes (puts v)) t e n = absurd (cc)
left p nothing t e n = absurd (cc)
left p (does list f) t e n = absurd (cc)

undecided_going : (s : Standing) (what : What) (u : Within) (i : _) → s ≡ inside u None → what ≡ Go i → is_decided s || is_giving_back what ≡ true → ⊥
undecided_going s what u i e g h = let no : is_decided (inside u None) || is_giving_back (Go i) ≡ true = sym (ap (λ x. is_decided x || is_giving_back (Go i)) e) ∙ (sym (ap (λ x. is_decided s || is_giving_back x) g) ∙ h) in false≢true no

pub returns-clause-lets_go_undecided : goal.returns-clause-lets_go_undecided
returns-clause-lets_go_undecided c = λ r.
    let one = r.legal.one_change in
    let up = left r.step.move.party one.effect r.step.old.state.turn r.had (sym (ap (λ (s : State). s.turn) one.state) ∙ r.left) in
    undecided_going (standing_of r.step.old r.step.move.party) r.step.move.what r.within r.inputs r.undecided r.goes (one.giving_up up)

-- who clears the bit while it waits to write gives it up
unmarks_by : (w : World) (p : ℕ) (d : Effect Change ListName) → w.state.turn ≡ waits_to_write p → IsAllowed p d w → is_marked (turn_after p d w.state.turn) ≡ false → gives_up d ≡ true
unmarks_by w p (changes unmarks) e may n = refl
unmarks_by w p (changes leaves_turn) e may n = refl
unmarks_by w p (changes stops_upgradable) e may n = refl
unmarks_by w p (changes stops_reading) e may n = refl
unmarks_by w p (changes takes_turn) e may n = let other = may.0 in absurd (cc)
unmarks_by w p (changes becomes_upgradable) e may n = let other = may.0 in absurd (cc)
unmarks_by w p (changes downgrades) e may n = absurd (cc)
unmarks_by w p (changes downgrades_to_upgradable) e may n = absurd (cc)
unmarks_by w p (changes begins_to_wait) e may n = absurd (true≢false n)
unmarks_by w p (changes begins_to_write) e may n = absurd (true≢false n)
unmarks_by w p (changes upgrades) e may n = absurd (true≢false n)
unmarks_by w p (changes upgrades_at_once) e may n = absurd (true≢false n)
unmarks_by w p (changes starves) e may n = absurd (true≢false (sym (ap is_marked e) ∙ n))
unmarks_by w p (changes recovers) e may n = absurd (true≢false (sym (ap is_marked e) ∙ n))
unmarks_by w p (changes begins_to_read) e may n = absurd (true≢false (sym (ap is_marked e) ∙ n))
unmarks_by w p (changes (puts v)) e may n = absurd (true≢false (sym (ap is_marked e) ∙ n))
unmarks_by w p nothing e may n = absurd (true≢false (sym (ap is_marked e) ∙ n))
unmarks_by w p (does list f) e may n = absurd (true≢false (sym (ap is_marked e) ∙ n))

pub returns-clause-unmarks_undecided : goal.returns-clause-unmarks_undecided
returns-clause-unmarks_undecided c = λ r.
    let one = r.legal.one_change in
    let up = unmarks_by r.step.old r.step.move.party one.effect r.had one.allowed (sym (ap (λ (s : State). is_marked s.turn) one.state) ∙ r.cleared) in
    undecided_going (standing_of r.step.old r.step.move.party) r.step.move.what r.within r.inputs r.undecided r.goes (one.giving_up up)

stays_on : (rs : List Bool) (p : ℕ) → is_on rs p ≡ true → is_on (slice_set rs p true) p ≡ true
stays_on [] p h = h
stays_on (b ∷ rs) zero h = refl
stays_on (b ∷ rs) (suc p) h = stays_on rs p h

-- who stops reading, and doesn't write or wait to, gives its reading up
stops_by : (p : ℕ) (d : Effect Change ListName) (rs : List Bool) (t : Turn) → is_on rs p ≡ true → is_on (readers_after p d rs) p ≡ false → is_marked (turn_after p d t) ≡ false → gives_up d ≡ true
stops_by p (changes stops_reading) rs t had gone n = refl
stops_by p (changes stops_upgradable) rs t had gone n = refl
stops_by p (changes unmarks) rs t had gone n = refl
stops_by p (changes leaves_turn) rs t had gone n = refl
stops_by p (changes upgrades) rs t had gone n = absurd (true≢false n)
stops_by p (changes upgrades_at_once) rs t had gone n = absurd (true≢false n)
stops_by p (changes begins_to_read) rs t had gone n = absurd (true≢false (sym (stays_on rs p had) ∙ gone))
stops_by p (changes becomes_upgradable) rs t had gone n = absurd (true≢false (sym (stays_on rs p had) ∙ gone))
stops_by p (changes downgrades) rs t had gone n = absurd (true≢false (sym (stays_on rs p had) ∙ gone))
stops_by p (changes downgrades_to_upgradable) rs t had gone n = absurd (true≢false (sym (stays_on rs p had) ∙ gone))
stops_by p (changes takes_turn) rs t had gone n = absurd (true≢false (sym had ∙ gone))
stops_by p (changes starves) rs t had gone n = absurd (true≢false (sym had ∙ gone))
stops_by p (changes recovers) rs t had gone n = absurd (true≢false (sym had ∙ gone))
stops_by p (changes begins_to_wait) rs t had gone n = absurd (true≢false (sym had ∙ gone))
stops_by p (changes begins_to_write) rs t had gone n = absurd (true≢false (sym had ∙ gone))
stops_by p (changes (puts v)) rs t had gone n = absurd (true≢false (sym had ∙ gone))
stops_by p nothing rs t had gone n = absurd (true≢false (sym had ∙ gone))
stops_by p (does list f) rs t had gone n = absurd (true≢false (sym had ∙ gone))

pub returns-clause-stops_reading_undecided : goal.returns-clause-stops_reading_undecided
returns-clause-stops_reading_undecided c = λ r.
    let one = r.legal.one_change in
    let p = r.step.move.party in
    let up = stops_by p one.effect r.step.old.state.readers r.step.old.state.turn r.had (sym (ap (λ (s : State). is_on s.readers p) one.state) ∙ r.stopped) (sym (ap (λ (s : State). is_marked s.turn) one.state) ∙ r.unmarked) in
    undecided_going (standing_of r.step.old p) r.step.move.what r.within r.inputs r.undecided r.goes (one.giving_up up)

pub returns-clause-downgrades_undecided : goal.returns-clause-downgrades_undecided
returns-clause-downgrades_undecided c = λ r.
    let own = own_as r.step.new r.step.move.party (inside r.within None) r.undecided (r.legal.leaves_clear.each r.step.move.party) in
    own.5 r.kind

pub returns-clause-drops_undecided : goal.returns-clause-drops_undecided
returns-clause-drops_undecided c = λ r.
    let own = own_as r.step.new r.step.move.party (inside r.within None) r.undecided (r.legal.leaves_clear.each r.step.move.party) in
    own.4 r.kind

-- whoever is downgraded reads, whatever it is to be answered
reads_then : (w : World) (p : ℕ) (within : Within) (a : Answer) → HasItsOwn w p (inside within (Some a)) → within.kind ≡ kind.Downgrade → reads w p ≡ true
reads_then w p within answer.GivenBack own d = own.0 d
reads_then w p within _ own d = own d

pub returns-clause-downgrades_through_nothing : goal.returns-clause-downgrades_through_nothing
returns-clause-downgrades_through_nothing c = λ r.
    let own = own_as r.step.new r.step.move.party (inside r.within (Some r.to_come)) r.downgrades (r.legal.leaves_clear.each r.step.move.party) in
    true≢false (sym (reads_then r.step.new r.step.move.party r.within r.to_come own r.kind) ∙ r.reads_not)

not_upgrade : (w : World) (p : ℕ) (k : Rest) → (k ≢ Pending) → HasItsOwn w p (outside k) → is_upgrader w p ≡ false
not_upgrade w p Idle n own = own.2
not_upgrade w p Finished n own = own.2
not_upgrade w p Holding n own = own.2
not_upgrade w p Pending n own = absurd (n refl)

pub returns-clause-other_is_upgrade : goal.returns-clause-other_is_upgrade
returns-clause-other_is_upgrade c = λ r.
    let own = own_as r.step.new r.step.move.party (outside r.rest) r.stands (r.legal.leaves_clear.each r.step.move.party) in
    true≢false (sym r.upgrade ∙ not_upgrade r.step.new r.step.move.party r.rest r.not_pending own)

nothing_had : (w : World) (p : ℕ) (k : Rest) → (k ≢ Pending) → (k ≢ Holding) → HasItsOwn w p (outside k) → HasNothing w p
nothing_had w p Idle n h own = own.1
nothing_had w p Finished n h own = own.1
nothing_had w p Holding n h own = absurd (h refl)
nothing_had w p Pending n h own = absurd (n refl)

pub returns-clause-idle_has_turn : goal.returns-clause-idle_has_turn
returns-clause-idle_has_turn c = λ r.
    let own = own_as r.step.new r.step.move.party (outside r.rest) r.stands (r.legal.leaves_clear.each r.step.move.party) in
    (nothing_had r.step.new r.step.move.party r.rest r.not_pending r.not_holding own).1 r.has_turn

pub returns-clause-tries_on : goal.returns-clause-tries_on
returns-clause-tries_on c = λ r. none_some (sym r.undecided ∙ r.legal.try_write_decided r.tries r.goes)

-- a limit is met by who takes what it is for
meets_readers : (m : Move) (old new : World) (r : Refusal) → number_of refusal.Readers ≡ number_of r → IsCause old m new r → MayMeet (sought_by new m.party) old m.party refusal.Readers
meets_readers m old new refusal.Readers e h = h.1
meets_readers m old new _ e h = absurd (cc)

meets_starved : (m : Move) (old new : World) (r : Refusal) → number_of refusal.Starved ≡ number_of r → IsCause old m new r → MayMeet (sought_by new m.party) old m.party refusal.Starved
meets_starved m old new refusal.Starved e h = h.1
meets_starved m old new _ e h = absurd (cc)

meets_as : (o : Option Right) (s : Right) (w : World) (p : ℕ) (r : Refusal) → o ≡ Some s → MayMeet o w p r → MayMeet (Some s) w p r
meets_as o s w p r e h = let P : Option Right → Type 0 = λ x. MayMeet x w p r in subst P e h

starved_without : (o : Option Right) (w : World) (p : ℕ) → MayMeet o w p refusal.Starved → HasTurn w.state.turn p → ⊥
starved_without (Some upgradable) w p h t = h t
starved_without (Some write) w p h t = h t
starved_without _ w p h t = h

readers_met : (s : Step) → IsLegal s → DecidesOn s.old s.move s.answer s.new (refused refusal.Readers) → MayMeet (sought_by s.new s.move.party) s.old s.move.party refusal.Readers
readers_met s legal decides = let why = legal.refused_for_cause.cause (number_of refusal.Readers) decides in meets_readers s.move s.old s.new why.0 why.1 why.2

starved_met : (s : Step) → IsLegal s → DecidesOn s.old s.move s.answer s.new (refused refusal.Starved) → MayMeet (sought_by s.new s.move.party) s.old s.move.party refusal.Starved
starved_met s legal decides = let why = legal.refused_for_cause.cause (number_of refusal.Starved) decides in meets_starved s.move s.old s.new why.0 why.1 why.2

readers_met_as : (s : Step) (r : Right) → sought_by s.new s.move.party ≡ Some r → IsLegal s → DecidesOn s.old s.move s.answer s.new (refused refusal.Readers) → MayMeet (Some r) s.old s.move.party refusal.Readers
readers_met_as s r e legal decides = meets_as (sought_by s.new s.move.party) r s.old s.move.party refusal.Readers e (readers_met s legal decides)

pub returns-clause-write_meets_readers : goal.returns-clause-write_meets_readers
returns-clause-write_meets_readers c = λ r. readers_met_as r.step write r.seeks r.legal r.refused

pub returns-clause-read_meets_starved : goal.returns-clause-read_meets_starved
returns-clause-read_meets_starved c = λ r. meets_as (sought_by r.step.new r.step.move.party) read r.step.old r.step.move.party refusal.Starved r.seeks (starved_met r.step r.legal r.refused)

lacks_memory : (m : Move) (old new : World) (r : Refusal) → number_of refusal.Memory ≡ number_of r → IsCause old m new r → old.state.turn ≢ passes m.party
lacks_memory m old new refusal.Memory e h = h.3
lacks_memory m old new _ e h = absurd (cc)

pub returns-clause-lacks_memory_with_turn : goal.returns-clause-lacks_memory_with_turn
returns-clause-lacks_memory_with_turn c = λ r.
    let why = r.legal.refused_for_cause.cause (number_of refusal.Memory) r.refused in
    lacks_memory r.step.move r.step.old r.step.new why.0 why.1 why.2 r.passes

pub returns-clause-read_meets_readers_beside_writer : goal.returns-clause-read_meets_readers_beside_writer
returns-clause-read_meets_readers_beside_writer c = λ r. true≢false (sym r.writer ∙ readers_met_as r.step read r.seeks r.legal r.refused)

pub returns-clause-meets_readers_without_turn : goal.returns-clause-meets_readers_without_turn
returns-clause-meets_readers_without_turn c = λ r. r.without (readers_met_as r.step upgradable r.seeks r.legal r.refused)

pub returns-clause-meets_starved_with_turn : goal.returns-clause-meets_starved_with_turn
returns-clause-meets_starved_with_turn c = λ r. starved_without (sought_by r.step.new r.step.move.party) r.step.old r.step.move.party (starved_met r.step r.legal r.refused) r.has_turn

pub returns-clause-passes_turn_in_vain : goal.returns-clause-passes_turn_in_vain
returns-clause-passes_turn_in_vain c = λ r. elim ((r.kept.turn r.polls r.solo r.free).takes (inr r.unstarved)) as (λ _. ⊥) [ inl took ↦ r.not_taken took.has_turn | inr met ↦ (let most = met.0.1 in omega (arith, most, r.below)) ]

may_read_parts : (w : World) → may_read w ≡ true → (is_marked w.state.turn ≡ false) × (how_many_read w < w.readers_limit)
may_read_parts w h = let both = and_parts (not (is_marked w.state.turn)) (nat_lt (how_many_read w) w.readers_limit) h in (unmarked (is_marked w.state.turn) both.0, grind (arith, nat_tests, both.1)) where
  unmarked : (b : Bool) → not b ≡ true → b ≡ false
  unmarked true e = absurd (false≢true e)
  unmarked false e = refl

pub returns-clause-passes_reading_in_vain : goal.returns-clause-passes_reading_in_vain
returns-clause-passes_reading_in_vain c = λ r. let free = may_read_parts r.whole.old r.free in let ready = (r.kept.reading r.polls r.told free.0 free.1).ready in absurd (cc (r.pending))

pub returns-clause-passes_writing_in_vain : goal.returns-clause-passes_writing_in_vain
returns-clause-passes_writing_in_vain c = λ r. let ready = (r.kept.writing r.polls r.solo r.free).ready in absurd (cc (r.pending))

pub returns-clause-upgrade_waits_for_nobody : goal.returns-clause-upgrade_waits_for_nobody
returns-clause-upgrade_waits_for_nobody c = λ r.
    let ready = (r.kept.writing r.polls (record { pending = r.was_pending; looks = inr r.upgrade }) r.free).ready in
    absurd (cc (r.pending))

pub returns-clause-upgradable_unready : goal.returns-clause-upgradable_unready
returns-clause-upgradable_unready c = λ r. let ready = r.kept.first_upgradable r.first r.free r.below in absurd (cc (r.pending))

pub returns-clause-write_unready : goal.returns-clause-write_unready
returns-clause-write_unready c = λ r. let ready = r.kept.first_write r.first r.new_write r.free r.alone in absurd (cc (r.pending))

pub returns-clause-starves_unasked : goal.returns-clause-starves_unasked
returns-clause-starves_unasked c = λ r. true≢false (sym r.starved ∙ r.kept.unstarved r.patient r.unstarved)

pub returns-clause-keeps_its_told : goal.returns-clause-keeps_its_told
returns-clause-keeps_its_told c = λ r. let some = r.kept.hands_on r.list r.polls r.pending r.listed r.refused r.some in absurd (omega (arith, some, r.none_told))

pub returns-clause-tries_turn_in_vain : goal.returns-clause-tries_turn_in_vain
returns-clause-tries_turn_in_vain c = λ r. none_some (sym (r.legal.try_goes_on r.tries r.possible r.free) ∙ r.none)

pub returns-clause-starved_having_taken : goal.returns-clause-starved_having_taken
returns-clause-starved_having_taken c = λ r.
    let one = r.legal.one_change in
    r.took (ap (λ (s : State). s.turn) one.state ∙ turn_kept r.step.move.party one.effect r.step.old.state.turn (one.starved_idly r.refused))

-- what a refusal for too many starved parties found
record Fresh (m : Move) (old : World) : Type 0 where
  pub unstarved : is_starved old m.party ≡ false
  pub undecided : IsUndecided (standing_of old m.party)

fresh_then : (m : Move) (old new : World) (r : Refusal) → number_of refusal.Starved ≡ number_of r → IsCause old m new r → Fresh m old
fresh_then m old new refusal.Starved e h = record { unstarved = h.2; undecided = h.3 }
fresh_then m old new _ e h = absurd (cc e)

fresh_in : (s : Step) → IsLegal s → DecidesOn s.old s.move s.answer s.new (refused refusal.Starved) → Fresh s.move s.old
fresh_in s legal d = let why = legal.refused_for_cause.cause (number_of refusal.Starved) d in fresh_then s.move s.old s.new why.0 why.1 why.2

pub returns-clause-starved_twice : goal.returns-clause-starved_twice
returns-clause-starved_twice c = λ r. true≢false (sym r.starved ∙ (fresh_in r.step r.legal r.refused).unstarved)

pub returns-clause-starved_at_first : goal.returns-clause-starved_at_first
returns-clause-starved_at_first c = λ r. let was = (fresh_in r.step r.legal r.refused).undecided in outside_inside (sym r.begins ∙ was.1)

pub returns-clause-decides_in_vain : goal.returns-clause-decides_in_vain
returns-clause-decides_in_vain c = λ r. true≢false (sym (r.legal.leaves_clear.decided r.party r.within r.by r.decided) ∙ r.never)

allowed_at : (s : Step) (legal : IsLegal s) (d : Effect Change ListName) → legal.one_change.effect ≡ d → IsAllowed s.move.party d s.old
allowed_at s legal d e = let P : Effect Change ListName → Type 0 = λ x. IsAllowed s.move.party x s.old in subst P e legal.one_change.allowed

tells_one : (w : World) (p : ℕ) (list : ListName) (n : ℕ) → IsAllowed p (does list (notifies n)) w → n ≡ 1
tells_one w p for_the_turn n h = h.one
tells_one w p for_no_readers n h = h.0
tells_one w p for_no_writer n h = h.0

never_more : (w : World) (p : ℕ) (list : ListName) (n : ℕ) → IsAllowed p (does list (notifies_additionally n)) w → ⊥
never_more w p for_the_turn n h = h
never_more w p for_no_readers n h = h
never_more w p for_no_writer n h = h

pub returns-clause-tells_many : goal.returns-clause-tells_many
returns-clause-tells_many c = λ r. r.more (tells_one r.step.old r.step.move.party r.list r.many (allowed_at r.step r.legal (does r.list (notifies r.many)) r.notifies))

pub returns-clause-tells_more : goal.returns-clause-tells_more
returns-clause-tells_more c = λ r. never_more r.step.old r.step.move.party r.list r.more (allowed_at r.step r.legal (does r.list (notifies_additionally r.more)) r.tells)

pub returns-clause-wakes_a_writer : goal.returns-clause-wakes_a_writer
returns-clause-wakes_a_writer c = λ r. let may = allowed_at r.step r.legal (does for_no_readers (notifies r.many)) r.notifies in true≢false (sym may.1 ∙ r.idle)

pub returns-clause-wakes_a_reader : goal.returns-clause-wakes_a_reader
returns-clause-wakes_a_reader c = λ r.
    let may = allowed_at r.step r.legal (does for_no_writer (notifies r.many)) r.notifies in
    elim may.1 as (λ _. ⊥) [ inl tells ↦ true≢false (sym tells ∙ r.idle) | inr reads ↦ r.sought reads ]

pub returns-clause-wakes_for_the_turn : goal.returns-clause-wakes_for_the_turn
returns-clause-wakes_for_the_turn c = λ r.
    let may = allowed_at r.step r.legal (does for_the_turn (notifies r.many)) r.notifies in
    elim may.cause as (λ _. ⊥) [ inl tells ↦ true≢false (sym tells ∙ r.idle) | inr seeks ↦ true≢false (sym seeks ∙ r.sought) ]

pub returns-clause-not_the_last : goal.returns-clause-not_the_last
returns-clause-not_the_last c = λ r. let last = (r.legal.gives_up.only_last r.idle r.tells).1 in absurd (omega (arith, last, r.others))

pub returns-clause-wakes_the_next : goal.returns-clause-wakes_the_next
returns-clause-wakes_the_next c = λ r.
    let may = allowed_at r.step r.legal (does for_the_turn (notifies r.many)) r.notifies in
    true≢false (sym (may.starved r.listed) ∙ r.unstarved)

pub returns-clause-sleeps_though_free : goal.returns-clause-sleeps_though_free
returns-clause-sleeps_though_free c = λ r. elim (r.sound.turn_told_or_due r.free r.party r.stands r.listed) as (λ _. ⊥) [ inl some ↦ absurd (omega (arith, some, r.none_told)) | inr one ↦ r.none_due one.0 one.1 ]

pub returns-clause-sleeps_though_readable : goal.returns-clause-sleeps_though_readable
returns-clause-sleeps_though_readable c = λ r. elim (r.sound.reading_told_or_due r.free r.party r.stands r.listed) as (λ _. ⊥) [ inl some ↦ absurd (omega (arith, some, r.none_told)) | inr one ↦ r.none_due one.0 one.1 ]

pub returns-clause-sleeps_though_writable : goal.returns-clause-sleeps_though_writable
returns-clause-sleeps_though_writable c = λ r. elim (r.sound.writing_told_or_due r.free r.party r.stands r.listed) as (λ _. ⊥) [ inl some ↦ absurd (omega (arith, some, r.none_told)) | inr one ↦ r.none_due one.0 one.1 ]

pub returns-clause-sleeps_beside_a_drop : goal.returns-clause-sleeps_beside_a_drop
returns-clause-sleeps_beside_a_drop c = λ r. elim (r.sound.turn_told_or_due r.free r.party r.stands r.listed) as (λ _. ⊥) [
  | inl some ↦ absurd (omega (arith, some, r.none_told))
  | inr one ↦ elim (one.1.owes (r.decided one.0 one.1.due)) as (λ _. ⊥) [ inl tells ↦ true≢false (sym tells ∙ r.none_tells one.0) | inr refused ↦ true≢false (sym refused.0 ∙ r.none_refused one.0) ]
]

pub returns-clause-reads_beside_a_drop : goal.returns-clause-reads_beside_a_drop
returns-clause-reads_beside_a_drop c = λ r. elim (r.sound.reading_told_or_due r.free r.party r.stands r.listed) as (λ _. ⊥) [
  | inl some ↦ absurd (omega (arith, some, r.none_told))
  | inr one ↦ elim (one.1.owes (r.decided one.0 one.1.due)) as (λ _. ⊥) [ inl tells ↦ true≢false (sym tells ∙ r.none_tells one.0) | inr refused ↦ true≢false (sym refused.0 ∙ r.none_refused one.0) ]
]

pub returns-clause-writes_beside_a_drop : goal.returns-clause-writes_beside_a_drop
returns-clause-writes_beside_a_drop c = λ r. elim (r.sound.writing_told_or_due r.free r.party r.stands r.listed) as (λ _. ⊥) [
  | inl some ↦ absurd (omega (arith, some, r.none_told))
  | inr one ↦ true≢false (sym one.1.owes ∙ r.none_tells one.0)
]

pub returns-clause-starved_for_nothing : goal.returns-clause-starved_for_nothing
returns-clause-starved_for_nothing c = λ r. r.kept.patient r.patient r.unstarved r.refused

pub returns-clause-wakes_in_a_ring : goal.returns-clause-wakes_in_a_ring
returns-clause-wakes_in_a_ring c = λ r. true≢false (sym (r.kept.tells_nobody r.patient r.none_starved r.pending r.listed r.other r.another r.told) ∙ r.untold)

pub returns-clause-polls_untold : goal.returns-clause-polls_untold
returns-clause-polls_untold c = λ r. let pending = (r.legal.listed_for_turn r.inputs r.polls r.waits r.listed).0 in absurd (cc (r.untold, r.goes_on))

pub returns-clause-polls_untold_to_read : goal.returns-clause-polls_untold_to_read
returns-clause-polls_untold_to_read c = λ r. let pending = (r.legal.listed_to_read r.inputs r.polls r.waits r.listed).0 in absurd (cc (r.untold, r.goes_on))

pub returns-clause-tries_and_tells : goal.returns-clause-tries_and_tells
returns-clause-tries_and_tells c = λ r. let same = ap (λ l. marked_count l) (r.legal.try_read_looks r.inputs r.tries r.possible).no_writer in absurd (omega (arith, same, r.told, r.none_told))

pub returns-clause-refused_silently : goal.returns-clause-refused_silently
returns-clause-refused_silently c = λ r. r.none_told (r.legal.refuses_turn r.within r.why r.refused r.for_turn r.without r.unlisted r.unstarved r.possible).1

pub returns-clause-refused_to_read_silently : goal.returns-clause-refused_to_read_silently
returns-clause-refused_to_read_silently c = λ r. r.none_told (r.legal.refuses_read r.within r.why r.refused r.to_read r.unlisted r.possible).1

pub returns-clause-drops_last_silently : goal.returns-clause-drops_last_silently
returns-clause-drops_last_silently c = λ r. r.ended (r.legal.gives_up.last_reader r.read r.last (inl r.drops)).0

pub returns-clause-ends_without_turn : goal.returns-clause-ends_without_turn
returns-clause-ends_without_turn c = λ r. r.ended (r.legal.gives_up.turn r.had r.lost).0

pub returns-clause-ends_without_bit : goal.returns-clause-ends_without_bit
returns-clause-ends_without_bit c = λ r. r.ended (r.legal.gives_up.bit r.had r.was r.now).0

-- what a party has to tell it has still to tell after steps of others
still_to_tell : (list : ListName) (p : ℕ) (ss : List Step) (w v : World) → Meanwhile p ss w v → has_to_tell list w p ≡ true → has_to_tell list v p ≡ true
still_to_tell list p [] w v e h = ap (λ (x : World). has_to_tell list x p) e ∙ h
still_to_tell list p (s ∷ ss) w v e h =
    let same : has_to_tell list s.new p ≡ has_to_tell list s.old p = e.2.gives_up.others list p (λ is. e.1 (sym is)) in
    still_to_tell list p ss s.new v e.3 (same ∙ (ap (λ (x : World). has_to_tell list x p) e.0 ∙ h))

pub returns-clause-releases_untold : goal.returns-clause-releases_untold
returns-clause-releases_untold c = λ r.
    let left = (r.legal.gives_up.turn r.had r.lost).1 in
    let still = still_to_tell for_the_turn r.first.move.party r.between r.first.new r.next.old r.meanwhile left in
    r.untold (r.legal_too.gives_up.tells_at_once (ap (has_to_tell for_the_turn r.next.old) r.same ∙ still) r.possible)

pub returns-clause-last_reader_untold : goal.returns-clause-last_reader_untold
returns-clause-last_reader_untold c = λ r.
    let left = (r.legal.gives_up.last_reader r.read r.last (inl r.drops)).1 in
    let still = still_to_tell for_no_readers r.first.move.party r.between r.first.new r.next.old r.meanwhile left in
    elim (r.legal_too.gives_up.tells for_no_readers (ap (has_to_tell for_no_readers r.next.old) r.same ∙ still) r.possible) as (λ _. ⊥) [ inl told ↦ r.untold told | inr later ↦ r.ended later.0 ]

pub returns-clause-refused_to_read_unneeded : goal.returns-clause-refused_to_read_unneeded
returns-clause-refused_to_read_unneeded c = λ r.
    let free = may_read_parts r.whole.old r.free in
    let ready = (r.kept.reading r.polls r.told free.0 free.1).ready in
    absurd (cc (r.is_refused))

pub returns-clause-refused_to_write_unneeded : goal.returns-clause-refused_to_write_unneeded
returns-clause-refused_to_write_unneeded c = λ r. let ready = (r.kept.writing r.polls r.solo r.free).ready in absurd (cc (r.is_refused))

pub returns-clause-refused_turn_unneeded : goal.returns-clause-refused_turn_unneeded
returns-clause-refused_turn_unneeded c = λ r.
    let told : IsToldOfTurn r.whole.old r.whole.party r.whole.inputs = record { pending = r.was_pending; marked = r.marked; memory = λ is_write some. absurd (omega (arith, some, r.none_read)) } in
    elim (r.kept.told r.polls told r.free (λ met. (let most = met.1 in omega (arith, r.below, r.none_read, most))) (inr r.none_starved)).answered as (λ _. ⊥) [
      | inl ready ↦ (let is = ready.0 in cc (r.is_refused))
      | inr waits ↦ (let is = waits.0 in cc (r.is_refused))
    ]

pub returns-clause-tries_turn_and_tells : goal.returns-clause-tries_turn_and_tells
returns-clause-tries_turn_and_tells c = λ r. r.tells (r.legal.try_turn_looks r.tries r.possible)

pub returns-clause-enters_turn_and_tells : goal.returns-clause-enters_turn_and_tells
returns-clause-enters_turn_and_tells c = λ r. r.tells (r.legal.first_upgradable_looks r.first)

pub returns-clause-stops_last_silently : goal.returns-clause-stops_last_silently
returns-clause-stops_last_silently c = λ r. true≢false (sym (r.legal.gives_up.last_reader r.read r.last (inr r.unmarked)).1 ∙ r.silent)

wants_turn : (p : ℕ) (w : World) (d : Effect Change ListName) → d ≡ changes starves → IsAllowed p d w → is_for_turn (sought_by w p) ≡ true
wants_turn p w d e may = let A : Effect Change ListName → Type 0 = λ z. IsAllowed p z w in (subst A e may).2

pub returns-clause-read_starves : goal.returns-clause-read_starves
returns-clause-read_starves c = λ r. false≢true (sym (ap is_for_turn r.reader) ∙ wants_turn r.step.move.party r.step.old r.legal.one_change.effect r.counts r.legal.one_change.allowed)

-- a change is of the moving party's own right to read
others_read : (p q : ℕ) (d : Effect Change ListName) (rs : List Bool) → q ≢ p → is_on (readers_after p d rs) q ≡ is_on rs q
others_read p q (changes begins_to_read) rs apart = get_or-set_other rs p q true false apart
others_read p q (changes becomes_upgradable) rs apart = get_or-set_other rs p q true false apart
others_read p q (changes downgrades) rs apart = get_or-set_other rs p q true false apart
others_read p q (changes downgrades_to_upgradable) rs apart = get_or-set_other rs p q true false apart
others_read p q (changes stops_reading) rs apart = get_or-set_other rs p q false false apart
others_read p q (changes stops_upgradable) rs apart = get_or-set_other rs p q false false apart
others_read p q (changes upgrades) rs apart = get_or-set_other rs p q false false apart
others_read p q (changes upgrades_at_once) rs apart = get_or-set_other rs p q false false apart
others_read p q (changes (puts v)) rs apart = refl
others_read p q (changes _) rs apart = refl
others_read p q nothing rs apart = refl
others_read p q (does list f) rs apart = refl

pub returns-clause-reader_lost : goal.returns-clause-reader_lost
returns-clause-reader_lost c = λ r.
    let one = r.legal.one_change in
    let same = ap (λ (s : State). is_on s.readers r.reader) one.state ∙ others_read r.step.move.party r.reader one.effect r.step.old.state.readers r.another in
    true≢false (sym r.read ∙ (sym same ∙ r.lost))

pub returns-clause-starved_unwaited : goal.returns-clause-starved_unwaited
returns-clause-starved_unwaited c = λ r. (r.kept.first_patient r.first r.none_starved).0 r.is_refused

pub returns-clause-counts_unwaited : goal.returns-clause-counts_unwaited
returns-clause-counts_unwaited c = λ r. true≢false (sym r.starved ∙ (r.kept.first_patient r.first r.none_starved).1)

pub returns-clause-overtakes_starved : goal.returns-clause-overtakes_starved
returns-clause-overtakes_starved c = λ r. elim (r.kept.newcomer r.first r.some_starved) as (λ _. ⊥) [ inl waits ↦ (let pending = waits.0 in cc (pending, r.ready)) | inr turned ↦ (let ready = r.ready in cc (turned, ready)) ]

pub returns-clause-takes_turn_untold : goal.returns-clause-takes_turn_untold
returns-clause-takes_turn_untold c = λ r. r.kept.only_told r.some_starved r.without r.untold r.takes

pub returns-clause-two_told : goal.returns-clause-two_told
returns-clause-two_told c = λ r. (let one = r.sound.one_told r.list in absurd (omega (arith, one, r.two)))

pub returns-clause-overtaken_twice : goal.returns-clause-overtaken_twice
returns-clause-overtaken_twice c = λ r. (let few = r.seldom r.party r.calls 2 r.new r.overtaken in absurd (omega (arith, few, r.one_before)))

pub returns-clause-never_starved : goal.returns-clause-never_starved
returns-clause-never_starved c = λ r. true≢false (sym (r.kept.held r.polls r.solo (inl r.long) r.room r.taken) ∙ r.patient)

own_there : (w : World) (p : ℕ) (s : Standing) → standing_of w p ≡ s → HasItsOwn w p (standing_of w p) → HasItsOwn w p s
own_there w p s e own = subst (HasItsOwn w p) e own

pub returns-clause-leaves_counted : goal.returns-clause-leaves_counted
returns-clause-leaves_counted c = λ r. true≢false (sym r.starved ∙ (own_there r.step.new r.party _ r.gives_back (r.legal.leaves_clear.each r.party)).1 r.unlisted)

pub returns-clause-drop_dawdles : goal.returns-clause-drop_dawdles
returns-clause-drop_dawdles c = λ r. (let ended = (r.legal.abandons_turn r.drops r.pending r.listed r.unstarved).0 in absurd (cc (ended, r.goes_on)))

pub returns-clause-readers_drop_dawdles : goal.returns-clause-readers_drop_dawdles
returns-clause-readers_drop_dawdles c = λ r. (let ended = (r.legal.abandons_reading r.drops r.pending r.listed).0 in absurd (cc (ended, r.goes_on)))

pub returns-clause-unlisted_drop_dawdles : goal.returns-clause-unlisted_drop_dawdles
returns-clause-unlisted_drop_dawdles c = λ r. (let ended = (r.legal.abandons_unlisted r.drops r.pending r.unlisted r.plain).0 in absurd (cc (ended, r.goes_on)))

pub returns-clause-unlisted_drop_tells : goal.returns-clause-unlisted_drop_tells
returns-clause-unlisted_drop_tells c = λ r. (let same = (r.legal.abandons_unlisted r.drops r.pending r.unlisted r.plain).1.turn_list in absurd (omega (arith, ap (λ l. marked_count l) same, r.tells)))

pub returns-clause-write_passes_over : goal.returns-clause-write_passes_over
returns-clause-write_passes_over c = λ r. elim ((r.kept.turn r.polls r.solo r.free).takes (inl r.starved)) as (λ _. ⊥) [ inl took ↦ r.without took.has_turn | inr met ↦ (let same : Some write ≡ Some upgradable = sym r.writes ∙ met.0.0 in cc same) ]

pub returns-clause-overtaken_in_the_midst : goal.returns-clause-overtaken_in_the_midst
returns-clause-overtaken_in_the_midst c = λ r. (let few = r.seldom r.party r.steps 1 r.new r.overtaken in absurd (omega (arith, few, r.first, r.idle)))

pub returns-clause-takes_turn_before_starved : goal.returns-clause-takes_turn_before_starved
returns-clause-takes_turn_before_starved c = λ r. (let gives = (r.kept.turn r.polls r.solo r.free).behind r.at_rest r.patient r.some_starved r.unrefused in subst (λ t. HasTurn t r.whole.party) gives.free r.takes)

pub returns-clause-ends_late : goal.returns-clause-ends_late
returns-clause-ends_late c = λ r. (let few = r.soon r.party r.steps 4 r.new r.decided r.goes_on in absurd (omega (arith, few)))

pub returns-clause-readers_left_out : goal.returns-clause-readers_left_out
returns-clause-readers_left_out c = λ r. (let all = (r.lets_in r.at_rest r.unmarked 2 r.new r.below r.polled).read in absurd (omega (arith, all, r.read)))

pub returns-clause-no_next_reader : goal.returns-clause-no_next_reader
returns-clause-no_next_reader c = λ r.
    let next = (r.lets_in r.at_rest r.unmarked 1 r.new r.below r.polled).next r.some in
    true≢false (sym next.1 ∙ r.none_told next.0)

pub returns-clause-owes_no_turn : goal.returns-clause-owes_no_turn
returns-clause-owes_no_turn c = λ r. r.without (r.legal.gives_up.only_turn r.had r.has).0

pub returns-clause-owes_no_bit : goal.returns-clause-owes_no_bit
returns-clause-owes_no_bit c = λ r. true≢false (sym r.marked ∙ (r.legal.gives_up.only_bit r.had r.has).2)

pub returns-clause-waits_at_the_limit : goal.returns-clause-waits_at_the_limit
returns-clause-waits_at_the_limit c = λ r. r.unrefused (r.kept.full r.polls r.told r.unmarked r.full)

pub returns-clause-joins_at_the_limit : goal.returns-clause-joins_at_the_limit
returns-clause-joins_at_the_limit c = λ r. r.unrefused (r.legal.first_read_full r.first r.unmarked r.full)

pub returns-clause-starved_unasked : goal.returns-clause-starved_unasked
returns-clause-starved_unasked c = λ r. true≢false (sym r.starved ∙ (r.cause r.party r.steps r.new r.outside r.plain r.in_peace).unstarved)

pub returns-clause-refused_unasked : goal.returns-clause-refused_unasked
returns-clause-refused_unasked c = λ r. (r.cause r.party r.steps r.mid r.outside r.plain r.in_peace).patient r.move (refused refusal.Starved) r.new r.refused r.own r.last refl
