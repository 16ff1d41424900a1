-- No wrong run of a barrier is legal.
use Rattle.std.proofs.Common.{◌≡◌, ◌≢◌, ◌⊎◌, Some, refl, ℕ, zero, suc, ◌+◌, ◌*◌, ◌/◌, ◌%◌, ◌≤◌, inl, inr, if◌then◌else◌, Bool, true, false, List, [], ◌∷◌, arith, ap, sym, ◌∙◌, subst}
use Rattle.std.proofs.Math.Nat.{mul_comm, div-add-mod}
use Rattle.std.proofs.lemmas.Bool.{false≢true}
use Rattle.std.proofs.lemmas.Nat.{le-div}
use Rattle.lock_event.specs.Lists.{entry, notified, marked_count, is_marked_at}
use Rattle.lock_event.specs.declared.event.Entry.{Entry}
use Rattle.lock_event.specs.declared.event.Mark.TheVariants.{Waiting, Notified}
use Rattle.world_base.specs.queue.Parties.{is_party}
use Rattle.world_base.specs.declared.moves.Answer.{Answer}
use Rattle.world_base.specs.declared.moves.Answer.TheVariants as answer
use Rattle.world_base.specs.declared.moves.Got.TheVariants as got
use Rattle.world_base.specs.declared.moves.Move.{Move}
use Rattle.world_base.specs.declared.moves.What.{What}
use Rattle.lock_program.specs.declared.refusal.Refusal.{Refusal}
use Rattle.lock_program.specs.declared.refusal.Refusal.TheVariants as refusal
use Rattle.world_base.specs.declared.standing.Rest.TheVariants.{Pending}
use Rattle.lock_program.specs.Refusals.{number_of}
use Rattle.world_base.specs.Standings.{Standing, outside, inside, refused, is_possible}
use Rattle.world_base.specs.Frame.{is_drop}
use Rattle.world_base.specs.Steps.{Effect, nothing, changes, does, leaves, list_after}
use Rattle.world_barrier.specs.AtOnce.{is_dropping}
use Rattle.world_barrier.specs.machine.Waits.{Wait, no_wait, uncounted, counted}
use Rattle.world_barrier.specs.Bound.{ComesTo, IsNotified, IsToldOfLock}
use Rattle.world_barrier.specs.Changes.{Change, takes, releases, starves, recovers, arrives, arrivals_after}
use Rattle.world_barrier.specs.declared.world.ListName.{ListName}
use Rattle.world_barrier.specs.Legal.{IsAllowed, MayArrive, IsCause, IsOutOfMemory, IsOutOfGenerations, HasItsOwn, HasToWait, next_arrival}
use Rattle.world_barrier.specs.Numbers.{Leads, IsFinished, generations_of}
use Rattle.world_barrier.specs.State.{World, standing_of, wait_of, has_to_tell}
use Rattle.world_barrier.proofs.Numbers.{next_generation}
use Rattle.test_definitions.specs.Barrier.{Step, Meanwhile}
use Rattle.test_definitions.proofs.barrier.wrong_runs.Goals as goal
use Rattle.world_base.specs.Steps.{notifies}
use Rattle.world_base.proofs.Equations.{outside_inside}
use Rattle.world_barrier.specs.declared.world.ListName.TheVariants.{Lock}
use Rattle.world_barrier.specs.Legal.{Legal, DecidesOn, IsOutOfStarved}
use Rattle.world_barrier.specs.State.{LockState}
use Rattle.std.proofs.lemmas.Bool.{true≢false}

-- ---- Arrivals

-- another number of arrivals comes by one that is counted, and may be
arrives_so : (w : World) (m : Move) (d : Effect Change ListName) (k : ℕ) → IsAllowed w m d → k ≡ arrivals_after d w.arrivals → k ≢ w.arrivals → MayArrive w m.party
arrives_so w m nothing k ok e other = absurd (other e)
arrives_so w m (does list f) k ok e other = absurd (other e)
arrives_so w m (changes takes) k ok e other = absurd (other e)
arrives_so w m (changes releases) k ok e other = absurd (other e)
arrives_so w m (changes starves) k ok e other = absurd (other e)
arrives_so w m (changes recovers) k ok e other = absurd (other e)
arrives_so w m (changes arrives) k ok e other = ok

never_fewer : (d : Effect Change ListName) (k : ℕ) → k ≤ arrivals_after d k
never_fewer nothing k = omega arith
never_fewer (does list f) k = omega arith
never_fewer (changes takes) k = omega arith
never_fewer (changes releases) k = omega arith
never_fewer (changes starves) k = omega arith
never_fewer (changes recovers) k = omega arith
never_fewer (changes arrives) k = omega arith

one_more : (j k : ℕ) → j ≡ k + 1 → j ≢ k
one_more j k e = λ same. absurd (omega (arith, e, same))

-- no generation is finished twice
in_order : (size j k : ℕ) → j ≤ k → generations_of size j ≤ generations_of size k
in_order zero j k h = h
in_order (suc n) j k h =
    let all : suc n * (j / suc n) + j % suc n ≡ j = div-add-mod j (suc n) in
    le-div (j / suc n) k (suc n) (omega arith) (omega (arith, all, mul_comm (j / suc n) (suc n), h))

pub returns-clause-two_leaders : goal.returns-clause-two_leaders
returns-clause-two_leaders c = λ r.
    let now = r.legal_too.carries.ready _ r.leads_too in
    let next : generations_of r.second.new.size r.second.new.arrivals ≡ generations_of r.second.new.size r.second.old.arrivals + 1 =
    ap (generations_of r.second.new.size) now.0.number ∙ next_generation r.second.new.size r.second.old.arrivals (subst (Leads r.second.new.size) now.0.number now.1) in
    let before : generations_of r.first.new.size r.first.new.arrivals ≤ generations_of r.first.new.size r.second.old.arrivals = in_order r.first.new.size r.first.new.arrivals r.second.old.arrivals r.later in
    let sizes : generations_of r.second.new.size r.second.old.arrivals ≡ generations_of r.first.new.size r.second.old.arrivals = ap (λ n. generations_of n r.second.old.arrivals) r.one_barrier in
    absurd (omega (arith, next, before, sizes, r.same))

pub returns-clause-leads_in_the_midst : goal.returns-clause-leads_in_the_midst
returns-clause-leads_in_the_midst c = λ r. r.unfinished (r.legal.carries.ready _ r.leads).1

pub returns-clause-has_no_leader : goal.returns-clause-has_no_leader
returns-clause-has_no_leader c = λ r. r.no_leader (r.legal.carries.led r.counted r.finishes)

wait_twice : (a : ℕ) (x : Wait) → x ≡ counted a → x ≡ uncounted → ⊥
wait_twice a x e f = let never : counted a ≡ uncounted = sym e ∙ f in cc never

pub returns-clause-counted_twice : goal.returns-clause-counted_twice
returns-clause-counted_twice c = λ r.
    let one = r.legal.one_change in
    let may = arrives_so r.step.old r.step.move one.effect r.step.new.arrivals one.allowed one.arrivals r.more in
    wait_twice r.arrival (wait_of r.step.old r.step.move.party) r.counted may.uncounted

pub returns-clause-taken_back : goal.returns-clause-taken_back
returns-clause-taken_back c = λ r.
    let one = r.legal.one_change in
    let least = never_fewer one.effect r.step.old.arrivals in
    absurd (omega (arith, least, one.arrivals, r.fewer))

counted_as : (a b : ℕ) (x : Wait) → x ≡ counted a → x ≡ counted b → b ≡ a
counted_as a b x e f = let same : counted a ≡ counted b = sym e ∙ f in cc same

pub returns-clause-follows_too_soon : goal.returns-clause-follows_too_soon
returns-clause-follows_too_soon c = λ r.
    let said = r.legal.carries.ready _ r.follows in
    let same = counted_as r.arrival said.0 (wait_of r.step.new r.step.move.party) r.counted said.1 in
    r.unfinished (rw (sym same) said.2.1)

pub returns-clause-counted_unlisted : goal.returns-clause-counted_unlisted
returns-clause-counted_unlisted c = λ r.
    let one = r.legal.one_change in
    let may = arrives_so r.step.old r.step.move one.effect r.step.new.arrivals one.allowed one.arrivals (one_more r.step.new.arrivals r.step.old.arrivals r.counted) in
    elim may.joined as (λ _. ⊥) [ inl leads ↦ r.waits leads | inr listed ↦ absurd (omega (arith, listed, r.unlisted)) ]

pub returns-clause-counted_without_lock : goal.returns-clause-counted_without_lock
returns-clause-counted_without_lock c = λ r.
    let one = r.legal.one_change in
    let may = arrives_so r.step.old r.step.move one.effect r.step.new.arrivals one.allowed one.arrivals (one_more r.step.new.arrivals r.step.old.arrivals r.counted) in
    r.without may.holds

pub returns-clause-waits_uncounted : goal.returns-clause-waits_uncounted
returns-clause-waits_uncounted c = λ r.
    elim (r.legal.waits.waiting r.pending) as (λ _. ⊥) [
      | inl there ↦ r.elsewhere there
      | inr here ↦ wait_twice here.0.0 (wait_of r.step.new r.step.move.party) here.0.1 r.not_counted
    ]

pub returns-clause-keeps_the_lock : goal.returns-clause-keeps_the_lock
returns-clause-keeps_the_lock c = λ r.
    let own : HasItsOwn r.step.new r.party (outside Pending) = subst (HasItsOwn r.step.new r.party) r.pending (r.legal.leaves_clear.each r.party) in
    own.0 r.holds

-- why a call is refused for generations
for_generations : (w : World) (m : Move) (v : World) (r : Refusal) → number_of refusal.Generations ≡ number_of r → IsCause w m v r → IsOutOfGenerations w m v
for_generations w m v refusal.Generations e h = h
for_generations w m v refusal.Memory e h = absurd (omega (arith, e))
for_generations w m v refusal.Starved e h = absurd (omega (arith, e))
for_generations w m v refusal.Finished e h = absurd (omega (arith, e))
for_generations w m v _ e h = absurd h

-- why one is refused for memory
for_memory : (w : World) (m : Move) (v : World) (r : Refusal) → number_of refusal.Memory ≡ number_of r → IsCause w m v r → IsOutOfMemory w m v
for_memory w m v refusal.Memory e h = h
for_memory w m v refusal.Starved e h = absurd (omega (arith, e))
for_memory w m v refusal.Generations e h = absurd (omega (arith, e))
for_memory w m v refusal.Finished e h = absurd (omega (arith, e))
for_memory w m v _ e h = absurd h

pub returns-clause-refused_and_counted : goal.returns-clause-refused_and_counted
returns-clause-refused_and_counted c = λ r.
    elim r.refusal as (λ _. ⊥) [
      | inl memory ↦ (let cause = r.legal.refused_for_cause.cause _ memory in
          let out = for_memory r.step.old r.step.move r.step.new cause.0 cause.1 cause.2 in
          r.counted out.unchanged.arrivals)
      | inr generations ↦ (let cause = r.legal.refused_for_cause.cause _ generations in
          let out = for_generations r.step.old r.step.move r.step.new cause.0 cause.1 cause.2 in
          r.counted out.unchanged.arrivals)
    ]

pub returns-clause-refused_too_soon : goal.returns-clause-refused_too_soon
returns-clause-refused_too_soon c = λ r.
    let cause = r.legal.refused_for_cause.cause _ r.refusal in
    let out = for_generations r.step.old r.step.move r.step.new cause.0 cause.1 cause.2 in
    absurd (omega (arith, out.limit, r.fewer))

pub returns-clause-left_asleep : goal.returns-clause-left_asleep
returns-clause-left_asleep c = λ r. false≢true (sym r.unmarked ∙ r.awake.all_marked r.party r.arrival r.counted r.finished r.listed)

pub returns-clause-leads_untold : goal.returns-clause-leads_untold
returns-clause-leads_untold c = λ r. false≢true (sym r.unmarked ∙ r.sound.told r.free r.party r.arrival r.counted r.finished r.listed)

told_or_not : (told leads : Bool) → answer.Ready (got.Leader leads) ≡ (if told then answer.Stepped else answer.Pending) → ⊥
told_or_not true leads e = cc e
told_or_not false leads e = cc e

pub returns-clause-ready_untried : goal.returns-clause-ready_untried
returns-clause-ready_untried c = λ r. elim r.tries as (λ _. ⊥) [
  | inl first ↦ (let never = sym r.ready ∙ (r.legal.first_poll first).goes_on in cc never)
  | inr there ↦ told_or_not (is_marked_at (is_party r.step.move.party) r.step.old.lock_list) r.leads (sym r.ready ∙ r.legal.locking there.0 there.1)
]

-- a finished wait has to wait no more
needs_nothing : (w : World) (n : ℕ) (x : Wait) → x ≡ counted n → IsFinished w.size n w.arrivals → HasToWait w x → ⊥
needs_nothing w n (counted k) e finished waits = let same : n ≡ k = cc e in let P : ℕ → Type 0 = λ z. IsFinished w.size z w.arrivals in waits (subst P same finished)
needs_nothing w n uncounted e finished waits = cc e
needs_nothing w n no_wait e finished waits = cc e

-- and its poll, if it got the inner lock, isn't refused
refused_not : (w : World) (p n : ℕ) (a : Answer) (v : World) (x : Wait) → x ≡ counted n → ComesTo x w p a v → a ≡ refused refusal.Memory → ⊥
refused_not w p n a v (counted k) e h is = elim h.1 as (λ _. ⊥) [
  | inl follows ↦ (let never = sym follows.1 ∙ is in cc never)
  | inr waits ↦ (let never = sym waits.1.pending ∙ is in cc never)
]
refused_not w p n a v uncounted e h is = cc e
refused_not w p n a v no_wait e h is = cc e

pub returns-clause-refused_in_vain : goal.returns-clause-refused_in_vain
returns-clause-refused_in_vain c = λ r.
    let w = r.whole.old in
    let p = r.whole.party in
    let told : IsNotified w p r.whole.inputs = record { pending = r.was_pending; marked = r.marked; memory = λ waits. absurd (needs_nothing w r.arrival (wait_of w p) r.counted r.finished waits) } in
    refused_not w p r.arrival r.whole.answer r.whole.new (wait_of w p) r.counted (r.kept.notified r.polls told r.free).comes_to r.is_refused

-- a wait that wasn't counted, and whose poll got the inner lock, is pending as a counted one
pends_counted : (w : World) (p : ℕ) (a : Answer) (v : World) (x : Wait) → x ≡ uncounted → ComesTo x w p a v → a ≡ answer.Pending → wait_of v p ≡ uncounted → ⊥
pends_counted w p a v uncounted e h pending not = elim h as (λ _. ⊥) [
  | inl led ↦ (let never = sym led.ready ∙ pending in cc never)
  | inr others ↦ (elim others as (λ _. ⊥) [
    | inl late ↦ (let never = sym late.refused ∙ pending in cc never)
    | inr waits ↦ wait_twice (next_arrival w) (wait_of v p) waits.waits.counted not
  ])
]
pends_counted w p a v (counted n) e h pending not = cc e
pends_counted w p a v no_wait e h pending not = absurd h

pub returns-clause-waits_for_nothing : goal.returns-clause-waits_for_nothing
returns-clause-waits_for_nothing c = λ r. pends_counted r.whole.old r.whole.party r.whole.answer r.whole.new _ r.new_wait (r.kept.first r.first r.free (λ _. r.memory)).comes_to r.pending r.not_counted

pub returns-clause-passes_over_in_vain : goal.returns-clause-passes_over_in_vain
returns-clause-passes_over_in_vain c = λ r. pends_counted r.whole.old r.whole.party r.whole.answer r.whole.new _ r.was ((r.kept.solo r.polls r.solo r.free).takes (inr r.none_starved)).comes_to r.pending r.is

pub returns-clause-keeps_its_told : goal.returns-clause-keeps_its_told
returns-clause-keeps_its_told c = λ r. let some = r.kept.hands_on r.polls r.was_pending r.listed r.is_refused r.some in absurd (omega (arith, some, r.none_told))

pub returns-clause-looks_in_vain : goal.returns-clause-looks_in_vain
returns-clause-looks_in_vain c = λ r. r.not_taken ((r.legal.first_poll r.first).takes.1 r.free)

pub returns-clause-wakes_all : goal.returns-clause-wakes_all
returns-clause-wakes_all c = λ r.
    let P : Effect Change ListName → Type 0 = IsAllowed r.step.old r.step.move in
    let allowed : P (does Lock (notifies r.many)) = subst P r.notifies r.legal.one_change.allowed in
    r.more allowed.one

pub returns-clause-sleeps_though_free : goal.returns-clause-sleeps_though_free
returns-clause-sleeps_though_free c = λ r. elim (r.sound.told_or_due r.free r.party r.stands r.listed) as (λ _. ⊥) [ inl some ↦ absurd (omega (arith, some, r.none_told)) | inr one ↦ r.none_due one.0 one.1 ]

pub returns-clause-sleeps_beside_a_poll : goal.returns-clause-sleeps_beside_a_poll
returns-clause-sleeps_beside_a_poll c = λ r. elim (r.sound.told_or_due r.free r.party r.stands r.listed) as (λ _. ⊥) [
  | inl some ↦ absurd (omega (arith, some, r.none_told))
  | inr one ↦ elim (one.1.owes (r.decided one.0 one.1.due)) as (λ _. ⊥) [ inl tells ↦ true≢false (sym tells ∙ r.none_tells one.0) | inr refused ↦ true≢false (sym refused ∙ r.none_refused one.0) ]
]

-- a refusal for too many starved parties has that cause
starved_cause : (m : Move) (old new : World) (r : Refusal) → number_of refusal.Starved ≡ number_of r → IsCause old m new r → IsOutOfStarved old m new
starved_cause m old new refusal.Starved e h = h
starved_cause m old new _ e h = absurd (cc e)

its_cause : (old : World) (m : Move) (a : Answer) (new : World) → Legal old m a new → DecidesOn old m a new (refused refusal.Starved) → IsOutOfStarved old m new
its_cause old m a new legal d = let why = legal.refused_for_cause.cause (number_of refusal.Starved) d in starved_cause m old new why.0 why.1 why.2

pub returns-clause-starved_having_taken : goal.returns-clause-starved_having_taken
returns-clause-starved_having_taken c = λ r. r.took (ap (λ (s : LockState). s.holder) (its_cause _ _ _ _ r.legal r.refused).unchanged.lock)

pub returns-clause-starved_twice : goal.returns-clause-starved_twice
returns-clause-starved_twice c = λ r. true≢false (sym r.starved ∙ (its_cause _ _ _ _ r.legal r.refused).unstarved)

pub returns-clause-starved_at_first : goal.returns-clause-starved_at_first
returns-clause-starved_at_first c = λ r. let was = (its_cause _ _ _ _ r.legal r.refused).undecided in outside_inside (sym r.begins ∙ was.1)

pub returns-clause-starved_for_nothing : goal.returns-clause-starved_for_nothing
returns-clause-starved_for_nothing c = λ r. r.kept.patient r.patient r.none_starved r.is_refused

pub returns-clause-releases_silently : goal.returns-clause-releases_silently
returns-clause-releases_silently c = λ r. let some = ((r.kept.solo r.polls r.solo r.free).takes (inr r.none_starved)).told r.some in absurd (omega (arith, some, r.none_told))

pub returns-clause-wakes_in_a_ring : goal.returns-clause-wakes_in_a_ring
returns-clause-wakes_in_a_ring c = λ r. true≢false (sym (r.kept.tells_nobody r.patient r.none_starved r.pending r.listed r.other r.another r.told) ∙ r.untold)

pub returns-clause-refused_silently : goal.returns-clause-refused_silently
returns-clause-refused_silently c = λ r. r.none_told (r.legal.refuses r.within r.why r.refused r.apart r.unlisted r.unstarved r.possible).1

pub returns-clause-ends_by_releasing : goal.returns-clause-ends_by_releasing
returns-clause-ends_by_releasing c = λ r. r.ended (r.legal.tells_on_release.releases r.held r.released).0

-- what a party has to tell it has still to tell after steps of others
still_to_tell : (p : ℕ) (ss : List Step) (w v : World) → Meanwhile p ss w v → has_to_tell w p ≡ true → has_to_tell v p ≡ true
still_to_tell p [] w v e h = ap (λ (x : World). has_to_tell x p) e ∙ h
still_to_tell p (s ∷ ss) w v e h =
    let same : has_to_tell s.new p ≡ has_to_tell s.old p = e.2.tells_on_release.others p (λ is. e.1 (sym is)) in
    still_to_tell p ss s.new v e.3 (same ∙ (ap (λ (x : World). has_to_tell x p) e.0 ∙ h))

pub returns-clause-releases_untold : goal.returns-clause-releases_untold
returns-clause-releases_untold c = λ r.
    let left = (r.legal.tells_on_release.releases r.held r.released).1 in
    let still = still_to_tell r.first.move.party r.between r.first.new r.next.old r.meanwhile left in
    r.untold (r.legal_too.tells_on_release.tells (ap (has_to_tell r.next.old) r.same ∙ still) r.possible).0

-- a poll that has had the inner lock isn't refused for memory
never_for_memory : (w : World) (p : ℕ) (a : Answer) (v : World) (x : Wait) → ComesTo x w p a v → a ≡ refused refusal.Memory → ⊥
never_for_memory w p a v uncounted h e = elim h as (λ _. ⊥) [
  | inl led ↦ (let never = sym led.ready ∙ e in cc never)
  | inr others ↦ (elim others as (λ _. ⊥) [
    | inl late ↦ (let never = sym late.refused ∙ e in cc never)
    | inr waits ↦ (let never = sym waits.waits.pending ∙ e in cc never)
  ])
]
never_for_memory w p a v (counted n) h e = elim h.1 as (λ _. ⊥) [
  | inl follows ↦ (let never = sym follows.1 ∙ e in cc never)
  | inr waits ↦ (let never = sym waits.1.pending ∙ e in cc never)
]
never_for_memory w p a v no_wait h e = h

pub returns-clause-refused_unneeded : goal.returns-clause-refused_unneeded
returns-clause-refused_unneeded c = λ r.
    let told : IsToldOfLock r.whole.old r.whole.party r.whole.inputs = record { pending = r.was_pending; marked = r.marked; memory = λ must. absurd (r.goes_on must) } in
    never_for_memory _ _ _ _ _ (r.kept.told r.polls told r.free (inr r.none_starved)).comes_to r.is_refused

pub returns-clause-starved_unwaited : goal.returns-clause-starved_unwaited
returns-clause-starved_unwaited c = λ r. (r.kept.first_patient r.first r.none_starved).0 r.is_refused

pub returns-clause-counts_unwaited : goal.returns-clause-counts_unwaited
returns-clause-counts_unwaited c = λ r. false≢true (sym (r.kept.first_patient r.first r.none_starved).1 ∙ r.starved)

pub returns-clause-overtakes_starved : goal.returns-clause-overtakes_starved
returns-clause-overtakes_starved c = λ r. neither r.whole.answer r.leads (r.kept.newcomer r.first r.some_starved) where
  neither : {P : Type 0} (a : Answer) → (a ≡ answer.Ready (got.Leader true)) ⊎ (a ≡ refused refusal.Generations) → ((a ≡ answer.Pending) × P) ⊎ ((a ≡ refused refusal.Memory) ⊎ (a ≡ refused refusal.Starved)) → ⊥
  neither a (inl leads) (inl waits) = cc (leads, waits.0)
  neither a (inl leads) (inr (inl memory)) = cc (leads, memory)
  neither a (inl leads) (inr (inr starved)) = cc (leads, starved)
  neither a (inr past) (inl waits) = cc (past, waits.0)
  neither a (inr past) (inr (inl memory)) = cc (past, memory)
  neither a (inr past) (inr (inr starved)) = cc (past, starved)

pub returns-clause-two_told_of_lock : goal.returns-clause-two_told_of_lock
returns-clause-two_told_of_lock c = λ r. (let one = r.sound.one_told in absurd (omega (arith, one, r.two)))

pub returns-clause-never_starved : goal.returns-clause-never_starved
returns-clause-never_starved c = λ r. true≢false (sym (r.kept.held r.polls r.solo (inl r.long) r.room r.held) ∙ r.patient)

pub returns-clause-leaves_counted : goal.returns-clause-leaves_counted
returns-clause-leaves_counted c = λ r. (
    let own : HasItsOwn r.step.new r.party (inside r.within (Some answer.GivenBack)) = subst (HasItsOwn r.step.new r.party) r.gives_back (r.legal.leaves_clear.each r.party) in
    true≢false (sym r.starved ∙ own.uncounted r.unlisted)
    )

pub returns-clause-drop_dawdles : goal.returns-clause-drop_dawdles
returns-clause-drop_dawdles c = λ r. (let ended = (r.legal.abandons r.drops r.pending r.listed r.unstarved).0 in absurd (cc (ended, r.goes_on)))

pub returns-clause-other_drop_dawdles : goal.returns-clause-other_drop_dawdles
returns-clause-other_drop_dawdles c = λ r. (let ended = (r.legal.abandons_other r.drops r.unlisted (ap is_possible r.goes_on)).0 in absurd (cc (ended, r.goes_on)))

-- neither the list as it was nor without the party is one where the other is marked
tells_none : (p : ℕ) (what : What) (s : Standing) (l n : List (Entry ℕ)) → is_drop what ≡ true → p ≡ 0 → s ≡ outside Pending → l ≡ entry 1 Waiting ∷ entry 0 Waiting ∷ [] → n ≡ notified l 1 → (is_dropping s what ≡ true → (n ≡ l) ⊎ (n ≡ list_after p leaves l)) → ⊥
tells_none p what s l n drops first pending before tells only = cases (only (ap (λ z. is_dropping z what) pending ∙ drops)) where
  marked : n ≡ entry 1 Notified ∷ entry 0 Waiting ∷ []
  marked = tells ∙ ap (λ z. notified z 1) before

  left : list_after p leaves l ≡ entry 1 Waiting ∷ []
  left = ap (λ z. list_after p leaves z) before ∙ ap (λ z. list_after z leaves (entry 1 Waiting ∷ entry 0 Waiting ∷ [])) first

  cases : (n ≡ l) ⊎ (n ≡ list_after p leaves l) → ⊥
  cases (inl e) = let more = ap (λ z. marked_count z) (sym marked ∙ (e ∙ before)) in omega (arith, more)
  cases (inr e) = let more = ap (λ z. marked_count z) (sym marked ∙ (e ∙ left)) in omega (arith, more)

pub returns-clause-drop_tells : goal.returns-clause-drop_tells
returns-clause-drop_tells c = λ r. tells_none r.step.move.party r.step.move.what (standing_of r.step.old r.step.move.party) r.step.old.lock_list r.step.new.lock_list r.drops r.party r.pending r.before r.tells r.legal.only_leaves

pub returns-clause-overtaken_in_the_midst : goal.returns-clause-overtaken_in_the_midst
returns-clause-overtaken_in_the_midst c = λ r. (let few = r.seldom r.party r.steps 1 r.new r.overtaken in absurd (omega (arith, few, r.first, r.idle)))

pub returns-clause-passes_the_starved : goal.returns-clause-passes_the_starved
returns-clause-passes_the_starved c = λ r. (let gives = (r.kept.solo r.polls r.solo r.free).behind r.at_rest r.patient r.some_starved r.unrefused in true≢false (sym gives.gave_way.is_starved ∙ r.still_patient))

pub returns-clause-ends_late : goal.returns-clause-ends_late
returns-clause-ends_late c = λ r. (let few = r.soon r.party r.steps 3 r.new r.decided r.goes_on in absurd (omega (arith, few)))

pub returns-clause-starved_unasked : goal.returns-clause-starved_unasked
returns-clause-starved_unasked c = λ r. true≢false (sym r.starved ∙ (r.cause r.party r.steps r.new r.outside r.plain r.in_peace).unstarved)

pub returns-clause-refused_unasked : goal.returns-clause-refused_unasked
returns-clause-refused_unasked c = λ r. (r.cause r.party r.steps r.mid r.outside r.plain r.in_peace).patient r.move (refused refusal.Starved) r.new r.refused r.own r.last refl
