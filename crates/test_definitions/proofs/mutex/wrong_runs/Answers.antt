-- No wrong run of a mutex is legal.
use Rattle.std.proofs.Common.{◌≡◌, ℕ, zero, suc, ◌+◌, ◌<◌, ◌≤◌, ◌||◌, if◌then◌else◌, Bool, true, false, Some, None, refl, arith, ap, sym, ◌∙◌, subst, inr}
use Rattle.std.proofs.lemmas.Bool.{false≢true, true≢false}
use Rattle.world_base.specs.queue.Parties.{entries_of}
use Rattle.world_base.specs.declared.moves.Answer.{Answer}
use Rattle.world_base.specs.declared.moves.Answer.TheVariants as answer
use Rattle.world_base.specs.declared.moves.Got.TheVariants.{Value}
use Rattle.world_base.specs.declared.moves.Move.{Move}
use Rattle.world_base.specs.declared.moves.What.{What}
use Rattle.world_base.specs.declared.moves.What.TheVariants.{Go}
use Rattle.lock_program.specs.declared.refusal.Refusal.{Refusal}
use Rattle.lock_program.specs.declared.refusal.Refusal.TheVariants as refusal
use Rattle.world_base.specs.declared.standing.Within.{Within}
use Rattle.world_base.specs.Frame.{is_drop}
use Rattle.lock_program.specs.Refusals.{number_of}
use Rattle.world_base.specs.Standings.{Standing, inside, inputs_of, is_decided, is_possible}
use Rattle.world_mutex.specs.Whole.{steps_left_of}
use Rattle.world_base.specs.Steps.{Effect, nothing, changes, does}
use Rattle.world_base.proofs.Equations.{some_none, none_some, outside_inside}
use Rattle.world_base.proofs.Lists.{notified_marked}
use Rattle.world_mutex.specs.Legal.{Change, ListName, takes, releases, starves, recovers, puts, state_after, gives_up, notifies_one, is_try, is_first_poll, HasItsOwn, IsCause}
use Rattle.world_mutex.specs.State.{State, World, standing_of, is_free}
use Rattle.test_definitions.proofs.mutex.wrong_runs.Goals as goal
use Rattle.std.proofs.Common.{inl}
use Rattle.world_mutex.specs.Legal.{for_the_lock, may_tell}

chosen : (b : Bool) (x y : Answer) → b ≡ true → (if b then x else y) ≡ x
chosen true x y e = refl
chosen false x y e = absurd (false≢true e)

none_possible : (a : Answer) → a ≡ answer.None → is_possible a ≡ true
none_possible a e = ap is_possible e

pub returns-clause-tries_in_vain : goal.returns-clause-tries_in_vain
returns-clause-tries_in_vain c = λ r.
    let granted = r.legal.at_once (ap is_try r.tries) (none_possible r.step.answer r.none) in absurd (cc)

pub returns-clause-polls_unready : goal.returns-clause-polls_unready
returns-clause-polls_unready c = λ r. let ready = r.legal.ready r.first in absurd (cc)

pub returns-clause-waits_unlisted : goal.returns-clause-waits_unlisted
returns-clause-waits_unlisted c = λ r. none_some (sym r.unlisted ∙ r.legal.waits.waiting r.pending)

pub returns-clause-waits_unmarked : goal.returns-clause-waits_unmarked
returns-clause-waits_unmarked c = λ r. r.not_waiting (r.legal.waits.waiting r.pending)

pub returns-clause-pends_too_early : goal.returns-clause-pends_too_early
returns-clause-pends_too_early c = λ r. r.legal.waits.not_before r.within r.decided

pub returns-clause-refused_at_first : goal.returns-clause-refused_at_first
returns-clause-refused_at_first c = λ r. let was = r.legal.refused_for_cause.memory r.refused in outside_inside (sym r.begins ∙ was.1)

kept_state : (m : Move) (old new : World) (r : Refusal) → number_of refusal.Memory ≡ number_of r → IsCause old m new r → new.state ≡ old.state
kept_state m old new refusal.Memory e h = h.3
kept_state m old new _ e h = absurd (cc)

pub returns-clause-refused_having_taken : goal.returns-clause-refused_having_taken
returns-clause-refused_having_taken c = λ r.
    let why = r.legal.refused_for_cause.cause (number_of refusal.Memory) r.refused in
    r.took (ap (λ (s : State). s.holder) (kept_state r.step.move r.step.old r.step.new why.0 why.1 why.2))

let_go : (p : ℕ) (d : Effect Change ListName) (s : State) → s.holder ≡ Some p → (state_after p d s).holder ≡ None → gives_up d ≡ true
let_go p (changes releases) s held n = refl
let_go p (changes takes) s held n = absurd (some_none n)
let_go p (changes starves) s held n = absurd (some_none (sym held ∙ n))
let_go p (changes recovers) s held n = absurd (some_none (sym held ∙ n))
let_go p (changes (puts v)) s held n = absurd (some_none (sym held ∙ n))
let_go p nothing s held n = absurd (some_none (sym held ∙ n))
let_go p (does list f) s held n = absurd (some_none (sym held ∙ n))

undecided_going : (s : Standing) (what : What) (u : Within) (i : _) → s ≡ inside u None → what ≡ Go i → is_decided s || is_drop what ≡ true → ⊥
undecided_going s what u i e g h = let no : is_decided (inside u None) || is_drop (Go i) ≡ true = sym (ap (λ x. is_decided x || is_drop (Go i)) e) ∙ (sym (ap (λ x. is_decided s || is_drop x) g) ∙ h) in false≢true no

pub returns-clause-lets_go_undecided : goal.returns-clause-lets_go_undecided
returns-clause-lets_go_undecided c = λ r.
    let one = r.legal.one_change in
    let up = let_go r.step.move.party one.effect r.step.old.state r.held (sym (ap (λ (s : State). s.holder) one.state) ∙ r.let_go) in
    undecided_going (standing_of r.step.old r.step.move.party) r.step.move.what r.within r.inputs r.undecided r.goes (one.giving_up up)

own_at : (w : World) (p : ℕ) (s : Standing) → standing_of w p ≡ s → HasItsOwn w p (standing_of w p) → HasItsOwn w p s
own_at w p s e own = subst (HasItsOwn w p) e own

pub returns-clause-drops_undecided : goal.returns-clause-drops_undecided
returns-clause-drops_undecided c = λ r. (own_at r.step.new r.step.move.party _ r.undecided (r.legal.leaves_clear.each r.step.move.party)).1 refl

-- why a call is refused since too many are starved
starved_cause : (m : Move) (old new : World) (r : Refusal) → number_of refusal.Starved ≡ number_of r → IsCause old m new r → IsCause old m new refusal.Starved
starved_cause m old new refusal.Starved e h = h
starved_cause m old new _ e h = absurd (cc)

pub returns-clause-decides_in_vain : goal.returns-clause-decides_in_vain
returns-clause-decides_in_vain c = λ r. true≢false (sym (r.legal.leaves_clear.decided r.party r.within r.by r.decided) ∙ r.never)

pub returns-clause-starved_having_taken : goal.returns-clause-starved_having_taken
returns-clause-starved_having_taken c = λ r.
    let why = r.legal.refused_for_cause.cause (number_of refusal.Starved) r.refused in
    let is = starved_cause r.step.move r.step.old r.step.new why.0 why.1 why.2 in
    r.took (ap (λ (s : State). s.holder) is.4)

pub returns-clause-starved_twice : goal.returns-clause-starved_twice
returns-clause-starved_twice c = λ r.
    let why = r.legal.refused_for_cause.cause (number_of refusal.Starved) r.refused in
    let is = starved_cause r.step.move r.step.old r.step.new why.0 why.1 why.2 in
    true≢false (sym r.starved ∙ is.1)

pub returns-clause-starved_at_first : goal.returns-clause-starved_at_first
returns-clause-starved_at_first c = λ r.
    let why = r.legal.refused_for_cause.cause (number_of refusal.Starved) r.refused in
    let is = starved_cause r.step.move r.step.old r.step.new why.0 why.1 why.2 in
    outside_inside (sym r.begins ∙ is.2.1)

pub returns-clause-starves_unlisted : goal.returns-clause-starves_unlisted
returns-clause-starves_unlisted c = λ r. true≢false (sym r.starved ∙ (own_at r.step.new r.party _ r.pending (r.legal.leaves_clear.each r.party)).1 r.unlisted)

pub returns-clause-holds_refused : goal.returns-clause-holds_refused
returns-clause-holds_refused c = λ r. (own_at r.step.new r.party _ r.refused (r.legal.leaves_clear.each r.party)) r.holds

pub returns-clause-ready_without : goal.returns-clause-ready_without
returns-clause-ready_without c = λ r. none_some (sym r.without ∙ own_at r.step.new r.party _ r.ready (r.legal.leaves_clear.each r.party))

pub returns-clause-tells_more : goal.returns-clause-tells_more
returns-clause-tells_more c = λ r. true≢false (sym r.legal.one_change.notice ∙ ap notifies_one r.tells)

pub returns-clause-tries_and_tells : goal.returns-clause-tries_and_tells
returns-clause-tries_and_tells c = λ r.
    let first : Bool = is_first_poll (standing_of r.step.old r.step.move.party) r.step.move.what (entries_of r.step.move.party r.step.old.entries) in
    r.told (r.legal.looks (ap (λ x. is_try x || first) r.tries) (none_possible r.step.answer r.none)).1

either_true : (b c : Bool) → c ≡ true → b || c ≡ true
either_true true c e = refl
either_true false c e = e

unlike : (b : Bool) (x y z : State) → b ≡ false → x ≡ (if b then y else z) → x ≡ z
unlike true x y z e h = absurd (true≢false e)
unlike false x y z e h = h

-- a first poll that goes on found the lock not free
not_free : (b : Bool) (v : ℕ) → answer.Stepped ≡ (if b then answer.Ready (Value v) else answer.Stepped) → b ≡ false
not_free true v e = absurd (cc)
not_free false v e = refl

pub returns-clause-starves_at_first : goal.returns-clause-starves_at_first
returns-clause-starves_at_first c = λ r.
    let held = not_free (is_free r.step.old.state) r.step.old.state.value (sym r.stepped ∙ r.legal.ready r.first) in
    let is = r.legal.looks (either_true (is_try r.step.move.what) _ r.first) (ap is_possible r.stepped) in
    r.counts (unlike (is_free r.step.old.state) r.step.new.state _ r.step.old.state held is.0)

pub returns-clause-polls_untold : goal.returns-clause-polls_untold
returns-clause-polls_untold c = λ r. let pending = (r.legal.listed r.polls r.listed).0 in absurd (cc (r.untold, r.goes_on))

pub returns-clause-releases_late : goal.returns-clause-releases_late
returns-clause-releases_late c = λ r. some_none (sym r.held ∙ ap (λ (s : State). s.holder) (r.legal.released (ap is_drop r.drops) r.holding).1)

pub returns-clause-releases_silently : goal.returns-clause-releases_silently
returns-clause-releases_silently c = λ r.
    let told = (r.legal.notifies r.releases (ap is_possible r.given_back)).1 in
    let some = notified_marked r.step.old.entries r.step.new.entries told r.some in
    absurd (omega (arith, some, r.none_told))

pub returns-clause-passes_over_in_vain : goal.returns-clause-passes_over_in_vain
returns-clause-passes_over_in_vain c = λ r. let ready = ((r.kept.solo r.polls r.solo r.free).takes (inr r.unstarved)).ready in absurd (cc (r.pending))

pub returns-clause-refused_in_vain : goal.returns-clause-refused_in_vain
returns-clause-refused_in_vain c = λ r. let ready = (r.kept.notified r.polls r.told r.free (inr r.unstarved)).ready in absurd (cc (r.refused))

pub returns-clause-starves_unasked : goal.returns-clause-starves_unasked
returns-clause-starves_unasked c = λ r. true≢false (sym r.starved ∙ r.kept.unstarved r.patient r.unstarved)

pub returns-clause-starved_among_none : goal.returns-clause-starved_among_none
returns-clause-starved_among_none c = λ r. r.kept.patient r.patient r.unstarved r.refused

pub returns-clause-keeps_its_told : goal.returns-clause-keeps_its_told
returns-clause-keeps_its_told c = λ r. let some = r.kept.hands_on r.polls r.pending r.listed r.refused r.some in absurd (omega (arith, some, r.none_told))

never_tells : (s : Standing) (b : Bool) (n : ℕ) (w : Within) → s ≡ inside w None → b ≡ false → n ≡ 1 → may_tell s b n ≡ true → ⊥
never_tells s b n w e fresh one h = false≢true (sym (ap (λ z. may_tell z b n) e ∙ (ap (λ z. may_tell (inside w None) z n) fresh ∙ ap (may_tell (inside w None) false) one)) ∙ h)

pub returns-clause-wakes_the_next : goal.returns-clause-wakes_the_next
returns-clause-wakes_the_next c = λ r. never_tells _ _ _ r.within r.undecided r.unstarved r.listed (r.legal.one_change.tells for_the_lock r.many r.notifies)

pub returns-clause-sleeps_though_free : goal.returns-clause-sleeps_though_free
returns-clause-sleeps_though_free c = λ r. elim (r.sound.told_or_due r.free r.party r.stands r.listed) as (λ _. ⊥) [ inl some ↦ absurd (omega (arith, some, r.none_told)) | inr one ↦ r.none_due one.0 one.1 ]

pub returns-clause-wakes_in_a_ring : goal.returns-clause-wakes_in_a_ring
returns-clause-wakes_in_a_ring c = λ r. true≢false (sym (r.kept.tells_nobody r.patient r.none_starved r.pending r.other r.another r.told) ∙ r.untold)

pub returns-clause-starved_unwaited : goal.returns-clause-starved_unwaited
returns-clause-starved_unwaited c = λ r. r.kept.first_patient r.first r.none_starved r.is_refused

pub returns-clause-refused_silently : goal.returns-clause-refused_silently
returns-clause-refused_silently c = λ r. r.none_told (r.legal.refuses r.within r.why r.refused r.unlisted r.unstarved r.possible).1

pub returns-clause-never_starved : goal.returns-clause-never_starved
returns-clause-never_starved c = λ r. true≢false (sym (r.kept.serves_starved.held r.polls r.solo (inl r.long) r.room r.held) ∙ r.patient)

pub returns-clause-overtakes_starved : goal.returns-clause-overtakes_starved
returns-clause-overtakes_starved c = λ r. elim (r.kept.serves_starved.newcomer r.first r.some_starved) as (λ _. ⊥) [ inl waits ↦ (let pending = waits.0 in cc (pending, r.ready)) | inr turned ↦ (let ready = r.ready in cc (turned, ready)) ]

pub returns-clause-takes_untold : goal.returns-clause-takes_untold
returns-clause-takes_untold c = λ r. r.kept.serves_starved.only_told r.some_starved r.without r.untold r.takes

pub returns-clause-takes_before_starved : goal.returns-clause-takes_before_starved
returns-clause-takes_before_starved c = λ r. r.kept.serves_starved.behind r.polls r.told r.at_rest r.patient r.some_starved r.takes

pub returns-clause-counts_unwaited : goal.returns-clause-counts_unwaited
returns-clause-counts_unwaited c = λ r. true≢false (sym r.starved ∙ r.kept.first_unstarved r.first r.none_starved)

pub returns-clause-two_told : goal.returns-clause-two_told
returns-clause-two_told c = λ r. (let one = r.sound.one_told in absurd (omega (arith, one, r.two)))

pub returns-clause-overtaken_twice : goal.returns-clause-overtaken_twice
returns-clause-overtaken_twice c = λ r. (let few = r.seldom r.party r.calls 2 r.new r.overtaken in absurd (omega (arith, few, r.one_before)))

pub returns-clause-takes_past_starved : goal.returns-clause-takes_past_starved
returns-clause-takes_past_starved c = λ r. elim (r.legal.taken_fairly r.step.move.party r.takes r.without).1 as (λ _. ⊥) [ inl none ↦ absurd (omega (arith, none, r.some_starved)) | inr starved ↦ true≢false (sym starved ∙ r.patient) ]

-- the input found no memory where a call is refused for it
no_memory : (m : Move) (old new : World) (r : Refusal) → number_of refusal.Memory ≡ number_of r → IsCause old m new r → (inputs_of m.what).memory ≡ false
no_memory m old new refusal.Memory e h = h.0
no_memory m old new _ e h = absurd (cc)

pub returns-clause-refused_beside_memory : goal.returns-clause-refused_beside_memory
returns-clause-refused_beside_memory c = λ r.
    let why = r.legal.refused_for_cause.cause (number_of refusal.Memory) r.refused in
    true≢false (sym r.memory ∙ no_memory r.step.move r.step.old r.step.new why.0 why.1 why.2)

pub returns-clause-never_possible : goal.returns-clause-never_possible
returns-clause-never_possible c = λ r. none_some (sym (r.legal.possible.exactly.0 r.impossible) ∙ r.may)

pub returns-clause-leaves_counted : goal.returns-clause-leaves_counted
returns-clause-leaves_counted c = λ r. true≢false (sym r.starved ∙ (own_at r.step.new r.party _ r.gives_back (r.legal.leaves_clear.each r.party)).1 r.unlisted)

-- each step of one call leaves fewer
fewer_left : (left : ℕ → ℕ) → ((n : ℕ) → left (suc n) < left n) → (n : ℕ) → left n + n ≤ left 0
fewer_left left falls zero = omega arith
fewer_left left falls (suc n) = let before = fewer_left left falls n in let one = falls n in omega (arith, before, one)

pub returns-clause-drop_dawdles : goal.returns-clause-drop_dawdles
returns-clause-drop_dawdles c = λ r. let ended = (r.legal.abandons r.drops r.pending r.listed r.unstarved).0 in absurd (cc (ended, r.goes_on))

pub returns-clause-goes_on_for_ever : goal.returns-clause-goes_on_for_ever
returns-clause-goes_on_for_ever c = λ r.
    let left : ℕ → ℕ = λ n. steps_left_of (r.world n) r.party in
    let low = fewer_left left (λ n. r.falls (r.world n) r.party r.inputs answer.Stepped (r.world (suc n)) (r.stepped n)) (suc (left 0)) in
    absurd (omega (arith, low))

pub returns-clause-overtaken_in_the_midst : goal.returns-clause-overtaken_in_the_midst
returns-clause-overtaken_in_the_midst c = λ r. (let few = r.seldom r.party r.steps 1 r.new r.overtaken in absurd (omega (arith, few, r.first, r.idle)))

pub returns-clause-ends_late : goal.returns-clause-ends_late
returns-clause-ends_late c = λ r. (let few = r.soon r.party r.steps 2 r.new r.decided r.goes_on in absurd (omega (arith, few)))

pub returns-clause-wakes_and_waits : goal.returns-clause-wakes_and_waits
returns-clause-wakes_and_waits c = λ r. elim (r.counts r.move r.answer r.woken r.wakes r.steps r.later r.others r.inputs r.next r.new r.goes_on) as (λ _. ⊥) [ inl starved ↦ true≢false (sym starved ∙ r.unstarved) | inr refused ↦ r.unrefused refused ]

pub returns-clause-starved_unasked : goal.returns-clause-starved_unasked
returns-clause-starved_unasked c = λ r. true≢false (sym r.starved ∙ (r.cause r.party r.steps r.new r.outside r.plain r.in_peace).unstarved)

pub returns-clause-refused_unasked : goal.returns-clause-refused_unasked
returns-clause-refused_unasked c = λ r. (r.cause r.party r.steps r.mid r.outside r.plain r.in_peace).patient r.move (answer.Refused (number_of refusal.Starved)) r.new r.refused r.own r.last refl
