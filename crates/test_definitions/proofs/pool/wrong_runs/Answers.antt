-- No wrong run of a pool is legal.
use Rattle.std.proofs.Common.{inl, inr, refl, ◌∙◌, ◌≡◌, ◌<◌, ◌≤◌, Bool, true, [], ◌∷◌, length, arith, ap, sym, ◌∙◌, subst}
use Rattle.std.proofs.lemmas.Bool.{false≢true}
use Rattle.std.proofs.lemmas.List.{length-append}
use Rattle.world_base.specs.declared.moves.Answer.{Answer}
use Rattle.world_base.specs.declared.moves.Got.{Got}
use Rattle.world_base.specs.declared.moves.Move.{Move}
use Rattle.world_base.specs.declared.standing.Kind.{Kind}
use Rattle.world_base.specs.declared.standing.Within.{Within}
use Rattle.world_base.specs.Standings.{Standing}
use Rattle.world_pool.specs.Bound.{TakesLock}
use Rattle.world_pool.specs.Laws.{IsSound}
use Rattle.world_pool.specs.Legal.{Effect, Does, MayPop, StandsAfter, nothing, in_semaphore, in_lock, pops, pushes, loses}
use Rattle.world_pool.specs.State.{World, limit}
use Rattle.world_pool.specs.machine.Machine.{how_many_leased}
use Rattle.world_pool.proofs.laws.Rights.{one_leases, leased_once}
use Rattle.test_definitions.proofs.pool.wrong_runs.Goals as goal

pub returns-clause-leased_twice : goal.returns-clause-leased_twice
returns-clause-leased_twice c = λ r. r.apart (one_leases r.world.leases r.item (omega (arith, r.sound.different.once r.item)) r.one r.other r.leased r.leased_too)

pub returns-clause-leased_and_listed : goal.returns-clause-leased_and_listed
returns-clause-leased_and_listed c = λ r. absurd (omega (arith, r.sound.different.once r.item, leased_once r.world.leases r.item r.party r.leased, r.listed))

pub returns-clause-gives_permit_first : goal.returns-clause-gives_permit_first
returns-clause-gives_permit_first c = λ r. r.gave (r.sound.permits r.party r.item r.leased)

pub returns-clause-drop_returns_permit : goal.returns-clause-drop_returns_permit
returns-clause-drop_returns_permit c = λ r. absurd (omega (arith, (r.at_once.drops r.drops).1.forgotten, r.returns))

-- an item leaves the list only where its taker may
shrinks : (d : Effect) (w : World) (m : Move) (v : World) → Does d w m v → length v.items < length w.items → MayPop w m.party
shrinks pops w m v h less = h.2.may
shrinks nothing w m v h less = absurd (omega (arith, ap length h.2.0))
shrinks in_semaphore w m v h less = absurd (omega (arith, ap length h.2.0))
shrinks in_lock w m v h less = absurd (omega (arith, ap length h.2.0))
shrinks pushes w m v h less = absurd (omega (arith, ap length h.2.last, length-append w.items (h.2.item ∷ [])))
shrinks loses w m v h less = absurd (omega (arith, ap length h.1.items))

pub returns-clause-pops_without_lock : goal.returns-clause-pops_without_lock
returns-clause-pops_without_lock c = λ r. r.without (shrinks r.legal.one_change.effect r.step.old r.step.move r.step.new r.legal.one_change.does r.pops).lock

pub returns-clause-pops_without_permit : goal.returns-clause-pops_without_permit
returns-clause-pops_without_permit c = λ r. r.without (shrinks r.legal.one_change.effect r.step.old r.step.move r.step.new r.legal.one_change.does r.pops).permit

-- no step raises the limit
never_more : (d : Effect) (w : World) (m : Move) (v : World) → Does d w m v → IsSound w → IsSound v → limit v ≤ limit w
never_more nothing w m v h s t = omega (arith, ap (λ x. x.words.limit) h.0)
never_more in_lock w m v h s t = omega (arith, ap (λ x. x.words.limit) h.0)
never_more pops w m v h s t = omega (arith, ap (λ x. x.words.limit) h.0)
never_more pushes w m v h s t = omega (arith, ap (λ x. x.words.limit) h.0)
never_more loses w m v h s t = omega (arith, h.1.forgotten)
never_more in_semaphore w m v h s t = omega (arith, ap length h.2.0, ap how_many_leased h.2.1, s.counted, t.counted)

pub returns-clause-lost_comes_back : goal.returns-clause-lost_comes_back
returns-clause-lost_comes_back c = λ r.
    let less = never_more r.legal.one_change.effect r.step.old r.step.move r.step.new r.legal.one_change.does r.sound r.sound_then in
    absurd (omega (arith, less, r.legal.one_change.made, r.fewer))

pub returns-clause-sleeps_beside_an_item : goal.returns-clause-sleeps_beside_an_item
returns-clause-sleeps_beside_an_item c = λ r. absurd (omega (arith, r.awake.acquires (r.party, r.waits, r.enough), r.untold))

pub returns-clause-misses_a_permit : goal.returns-clause-misses_a_permit
returns-clause-misses_a_permit c = λ r. r.missed ((r.at_once.takes r.first).1 r.one)

pub returns-clause-in_vain_beside_a_permit : goal.returns-clause-in_vain_beside_a_permit
returns-clause-in_vain_beside_a_permit c = λ r. absurd (omega (arith, (r.at_once.in_vain r.tries).0 r.vain, r.one))

gave_ready : (b : Bool) (w : Within) (a : Answer) (g : Got) (s : Standing) → b ≡ true → w.kind ≡ Kind.LaterPoll → a ≡ Answer.Ready g → StandsAfter b w a s → ⊥
gave_ready b w a g s e k r h =
    let B : Bool → Type 0 = λ x. StandsAfter x w a s in
    let A : Answer → Type 0 = λ x. StandsAfter true w x s in
    let after = subst A r (subst B e h) in
    let later = rw k at after.0 in
    false≢true later

pub returns-clause-give_is_ready : goal.returns-clause-give_is_ready
returns-clause-give_is_ready c = λ r. gave_ready _ r.within r.step.answer r.got _ r.gave r.later r.ready (r.legal.ends_properly.stands r.within r.call r.first)

pub returns-clause-holds_unsaid : goal.returns-clause-holds_unsaid
returns-clause-holds_unsaid c = λ r. false≢true (sym r.unsaid ∙ r.legal.carries.only_so r.call r.first r.holds)

pub returns-clause-says_another_item : goal.returns-clause-says_another_item
returns-clause-says_another_item c = λ r. r.other (r.legal.carries.ready _ r.says).1

pub returns-clause-unbalanced : goal.returns-clause-unbalanced
returns-clause-unbalanced c = λ r. r.other r.awake.balanced

pub returns-clause-items_vanish : goal.returns-clause-items_vanish
returns-clause-items_vanish c = λ r. absurd (omega (arith, r.sound.all, r.fewer))

-- a poll that took the lock isn't pending
never_pending : (a : Answer) → TakesLock a → a ≡ Answer.Pending → ⊥
never_pending a (inl (g, is)) waits = (let never : Answer.Ready g ≡ Answer.Pending = sym is ∙ waits in cc never)
never_pending a (inr is) waits = (let never : Answer.GivenBack ≡ Answer.Pending = sym is ∙ waits in cc never)

pub returns-clause-passes_over_in_vain : goal.returns-clause-passes_over_in_vain
returns-clause-passes_over_in_vain c = λ r. never_pending r.given ((r.kept.solo refl r.solo r.free).takes (inr r.unstarved)) r.pending

pub returns-clause-sleeps_for_the_lock : goal.returns-clause-sleeps_for_the_lock
returns-clause-sleeps_for_the_lock c = λ r. absurd (omega (arith, r.awake.locks r.some, r.untold))
