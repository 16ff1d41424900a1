-- No wrong run of a semaphore is legal.
use Rattle.std.proofs.Common.{◌≡◌, ℕ, ◌+◌, ◌-◌, ◌||◌, if◌then◌else◌, inl, inr, Bool, true, false, List, is_some, refl, arith, ap, sym, ◌∙◌, subst}
use Rattle.std.proofs.lemmas.Bool.{false≢true, true≢false}
use Rattle.lock_event.specs.declared.event.Entry.{Entry}
use Rattle.lock_event.specs.Lists.{marked_count}
use Rattle.weighted_event.specs.Weights.{fitted, is_wanted}
use Rattle.world_base.specs.declared.moves.Answer.{Answer}
use Rattle.world_base.specs.declared.moves.Answer.TheVariants as answer
use Rattle.world_base.specs.declared.moves.Inputs.{Inputs}
use Rattle.world_base.specs.declared.moves.Move.{Move}
use Rattle.world_base.specs.declared.moves.What.TheVariants.{Go}
use Rattle.world_base.specs.Frame.{is_drop}
use Rattle.world_base.specs.Standings.{Standing, is_decided, is_possible}
use Rattle.world_base.proofs.Equations.{none_some}
use Rattle.world_semaphore.specs.machine.Seats.{Share}
use Rattle.world_semaphore.specs.machine.Effects.{Effect, nothing, changes, does, fits, takes, gives_back, forgets, raises, gives}
use Rattle.world_semaphore.specs.State.{State, World, has_permits, standing_of, size_of}
use Rattle.world_semaphore.specs.AtOnce.{is_try}
use Rattle.world_semaphore.specs.Legal.{HasItsOwn, IsAllowed, state_after, is_forget, added_in}
use Rattle.world_semaphore.proofs.of_machine.laws.Entries.{fitted_marks}
use Rattle.test_definitions.proofs.semaphore.wrong_runs.Goals as goal

chosen : (b : Bool) (x y : Answer) → b ≡ true → (if b then x else y) ≡ x
chosen true x y e = refl
chosen false x y e = absurd (false≢true e)

none_possible : (a : Answer) → a ≡ answer.None → is_possible a ≡ true
none_possible a e = ap is_possible e

pub returns-clause-tries_in_vain : goal.returns-clause-tries_in_vain
returns-clause-tries_in_vain c = λ r.
    let granted = (r.legal.tried r.tries (none_possible r.step.answer r.none)).0 ∙ chosen _ _ _ r.free in absurd (cc)

own_at : (w : World) (p : ℕ) (s : Standing) → standing_of w p ≡ s → HasItsOwn w p (standing_of w p) → HasItsOwn w p s
own_at w p s e own = subst (HasItsOwn w p) e own

pub returns-clause-takes_undecided : goal.returns-clause-takes_undecided
returns-clause-takes_undecided c = λ r.
    true≢false (sym r.took ∙ ap (λ (s : Share). is_some s.held) (own_at r.step.new r.step.move.party _ r.undecided (r.legal.leaves_clear.each r.step.move.party)).0)

-- a party that goes on neither gives its permits back nor forgets them
keeps : (w : World) (m : Move) (d : Effect) (i : Inputs) → m.what ≡ Go i → IsAllowed w m d → has_permits w.state m.party ≡ true → has_permits (state_after m.party d w.state) m.party ≡ false → ⊥
keeps w m nothing i e h had gave = true≢false (sym had ∙ gave)
keeps w m (does f) i e h had gave = true≢false (sym had ∙ gave)
keeps w m (changes (takes k)) i e h had gave = true≢false (sym had ∙ ap (λ (s : Share). is_some s.held) h.2)
keeps w m (changes (gives_back k)) i e h had gave = false≢true (sym (ap is_drop e) ∙ h.1)
keeps w m (changes (forgets k)) i e h had gave = false≢true (sym (ap is_forget e) ∙ h.1)
keeps w m (changes (raises n)) i e h had gave = none_some (sym (ap added_in e) ∙ h.0)
keeps w m (changes (gives n)) i e h had gave = true≢false (sym had ∙ ap (λ (s : Share). is_some s.held) h)

pub returns-clause-gives_back_within : goal.returns-clause-gives_back_within
returns-clause-gives_back_within c = λ r.
    let one = r.legal.one_change in
    keeps r.step.old r.step.move one.effect r.inputs r.goes one.allowed r.had (sym (ap (λ (s : State). has_permits s r.step.move.party) one.state) ∙ r.gave)

pub returns-clause-gives_before_it_raises : goal.returns-clause-gives_before_it_raises
returns-clause-gives_before_it_raises c = λ r.
    let raised = ((r.legal.added r.number r.adds r.possible).fits r.fits).0 in
    let limit : r.step.new.state.limit ≡ r.step.old.state.limit + r.number = ap (λ (s : State). s.limit) raised in
    absurd (omega (arith, limit, r.some, r.not_raised))

-- what the effect of a legal step is, it is allowed to be
allowed_as : (w : World) (m : Move) (d e : Effect) → d ≡ e → IsAllowed w m d → IsAllowed w m e
allowed_as w m d e is h = subst (IsAllowed w m) is h

pub returns-clause-tells_of_others : goal.returns-clause-tells_of_others
returns-clause-tells_of_others c = λ r. r.others (allowed_as r.step.old r.step.move _ (does (fits r.number)) r.tells r.legal.one_change.allowed).0

pub returns-clause-forgets_in_vain : goal.returns-clause-forgets_in_vain
returns-clause-forgets_in_vain c = λ r.
    let lowered = (r.legal.forgotten r.forgets r.possible).1 in
    let limit : r.step.new.state.limit ≡ r.step.old.state.limit - size_of r.step.old r.step.move.party = ap (λ (s : State). s.limit) lowered in
    absurd (omega (arith, limit, r.some, r.had, r.left))

pub returns-clause-refused_though_free : goal.returns-clause-refused_though_free
returns-clause-refused_though_free c = λ r. let ready = r.legal.ready r.first ∙ chosen _ _ _ r.free in absurd (cc)

pub returns-clause-refused_at_last : goal.returns-clause-refused_at_last
returns-clause-refused_at_last c = λ r. let ready = r.kept.first r.first r.free in absurd (cc (r.refused))

pub returns-clause-waits_unlisted : goal.returns-clause-waits_unlisted
returns-clause-waits_unlisted c = λ r. let one = r.legal.waits.listed r.pending in absurd (omega (arith, one, r.unlisted))

pub returns-clause-goes_on_undecided : goal.returns-clause-goes_on_undecided
returns-clause-goes_on_undecided c = λ r. false≢true (sym r.no_poll ∙ (own_at r.step.new r.party _ r.undecided (r.legal.leaves_clear.each r.party)).1)

pub returns-clause-decides_in_vain : goal.returns-clause-decides_in_vain
returns-clause-decides_in_vain c = λ r. true≢false (sym (r.legal.leaves_clear.decided r.party r.within r.by r.decided) ∙ r.never)

pub returns-clause-has_refused : goal.returns-clause-has_refused
returns-clause-has_refused c = λ r. true≢false (sym r.has ∙ ap (λ (s : Share). is_some s.held) (own_at r.step.new r.party _ r.refused (r.legal.leaves_clear.each r.party)))

pub returns-clause-adds_and_takes : goal.returns-clause-adds_and_takes
returns-clause-adds_and_takes c = λ r. true≢false (sym r.has ∙ ap is_some (own_at r.step.new r.party _ r.adding (r.legal.leaves_clear.each r.party)))

pub returns-clause-tells_two : goal.returns-clause-tells_two
returns-clause-tells_two c = λ r. absurd (omega (arith, r.told, r.sound.one_marked))

either_true : (b c : Bool) → b ≡ true → b || c ≡ true
either_true true c e = refl
either_true false c e = absurd (false≢true e)

pub returns-clause-tries_and_tells : goal.returns-clause-tries_and_tells
returns-clause-tries_and_tells c = λ r. r.told (r.legal.looks (either_true (is_try r.step.move.what) _ r.tries) (none_possible r.step.answer r.none)).1

pub returns-clause-returns_late : goal.returns-clause-returns_late
returns-clause-returns_late c = λ r. r.kept (r.legal.returned r.drops r.holding).1

-- a list that was told of so many, as somebody in it wants, has a marked entry
told_some : (size : ℕ → ℕ) (n : ℕ) (l m : List (Entry ℕ)) → m ≡ fitted size n l → is_wanted size n l ≡ true → marked_count m ≡ 0 → ⊥
told_some size n l m e wanted none = let some = fitted_marks size n l wanted in omega (arith, some, none, ap marked_count e)

pub returns-clause-returns_silently : goal.returns-clause-returns_silently
returns-clause-returns_silently c = λ r. told_some (size_of r.step.old) r.number r.step.old.entries r.step.new.entries ((r.legal.tells _ r.returns (ap is_possible r.given_back)).tells r.number r.owes).1 r.some r.none_told

pub returns-clause-adds_silently : goal.returns-clause-adds_silently
returns-clause-adds_silently c = λ r. told_some (size_of r.step.old) r.number r.step.old.entries r.step.new.entries ((r.legal.gives r.adding r.possible).told r.number r.gave).1 r.some r.none_told

pub returns-clause-adds_after_telling : goal.returns-clause-adds_after_telling
returns-clause-adds_after_telling c = λ r. r.kept ((r.legal.gives r.adding r.possible).given r.under_way).1

pub returns-clause-passes_over_in_vain : goal.returns-clause-passes_over_in_vain
returns-clause-passes_over_in_vain c = λ r. let ready = (r.kept.later r.polls r.was_pending r.free).ready in absurd (cc (r.pending))

pub returns-clause-keeps_its_told : goal.returns-clause-keeps_its_told
returns-clause-keeps_its_told c = λ r. let some = r.kept.hands_on r.polls r.was_pending r.listed r.refused r.some in absurd (omega (arith, some, r.none_told))

pub returns-clause-takes_what_was_told : goal.returns-clause-takes_what_was_told
returns-clause-takes_what_was_told c = λ r. let some = r.kept.passes_on (inl r.polls) r.was_pending r.told r.some in absurd (omega (arith, some, r.none_told))

pub returns-clause-drops_what_was_told : goal.returns-clause-drops_what_was_told
returns-clause-drops_what_was_told c = λ r. let some = r.kept.passes_on (inr r.drops) r.was_pending r.told r.some in absurd (omega (arith, some, r.none_told))

pub returns-clause-hands_over_in_vain : goal.returns-clause-hands_over_in_vain
returns-clause-hands_over_in_vain c = λ r. let enough = (r.kept.hands_over r.polls r.solo r.short).enough r.some r.other r.told in absurd (omega (arith, enough, r.too_few))

pub returns-clause-wakes_the_next : goal.returns-clause-wakes_the_next
returns-clause-wakes_the_next c = λ r. false≢true (sym (ap is_decided r.undecided) ∙ (allowed_as r.step.old r.step.move _ (does (fits r.many)) r.tells r.legal.one_change.allowed).1)

pub returns-clause-sleeps_though_free : goal.returns-clause-sleeps_though_free
returns-clause-sleeps_though_free c = λ r. elim (r.sound.told_or_due r.party r.stands r.listed r.free) as (λ _. ⊥) [ inl some ↦ absurd (omega (arith, some, r.none_told)) | inr one ↦ r.none_due one.0 one.1 ]

pub returns-clause-sleeps_behind_a_larger_one : goal.returns-clause-sleeps_behind_a_larger_one
returns-clause-sleeps_behind_a_larger_one c = λ r. let some = r.awake.marked (r.party, r.listed, r.free) in absurd (omega (arith, some, r.none_told))

pub returns-clause-refused_silently : goal.returns-clause-refused_silently
returns-clause-refused_silently c = λ r. told_some (size_of r.step.old) r.number r.step.old.entries r.step.new.entries ((r.legal.refuses r.within r.refusing (ap is_possible r.answered)).tells r.number r.owes).1 r.some r.none_told

pub returns-clause-waits_silently : goal.returns-clause-waits_silently
returns-clause-waits_silently c = λ r. told_some (size_of r.step.old) r.number r.step.old.entries r.step.new.entries ((r.legal.waits r.within r.waiting (ap is_possible r.answered)).tells r.number r.owes).1 r.some r.none_told

pub returns-clause-takes_others : goal.returns-clause-takes_others
returns-clause-takes_others c = λ r. r.others (allowed_as r.step.old r.step.move _ (changes (takes r.number)) r.took r.legal.one_change.allowed).0

pub returns-clause-takes_too_many : goal.returns-clause-takes_too_many
returns-clause-takes_too_many c = λ r. let few = (allowed_as r.step.old r.step.move _ (changes (takes r.number)) r.took r.legal.one_change.allowed).1 in absurd (omega (arith, few, r.few))

pub returns-clause-ready_without_a_guard : goal.returns-clause-ready_without_a_guard
returns-clause-ready_without_a_guard c = λ r. true≢false (sym (ap (λ (s : Share). is_some s.held) (r.legal.carries.ready r.got r.ready).1) ∙ r.none)

pub returns-clause-goes_on_with_the_older : goal.returns-clause-goes_on_with_the_older
returns-clause-goes_on_with_the_older c = λ r. let look = (r.legal.knows_debts r.possible).own.told r.was_told r.gone in absurd (cc (look, r.older))

pub returns-clause-ends_late : goal.returns-clause-ends_late
returns-clause-ends_late c = λ r. (let few = r.soon r.party r.steps 3 r.new r.decided r.goes_on in absurd (omega (arith, few)))

pub returns-clause-drains_in_vain : goal.returns-clause-drains_in_vain
returns-clause-drains_in_vain c = λ r. (let all = (r.drains r.at_rest r.ones 2 r.new r.enough r.polled).had in absurd (omega (arith, all, r.had)))

pub returns-clause-drains_half : goal.returns-clause-drains_half
returns-clause-drains_half c = λ r.
    let next = (r.drains r.at_rest r.ones 1 r.new (omega (arith, r.enough)) r.polled).next (omega (arith, r.enough)) r.some in
    true≢false (sym next.1 ∙ r.none_told next.0)
