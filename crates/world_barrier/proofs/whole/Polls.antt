-- Whole polls on a free inner lock: where they begin, and that they take it or give way.
use Rattle.world_barrier.proofs.Prelude.{Refusal, ◌≡◌, ◌≢◌, ℕ, ◌+◌, ◌<◌, ◌==◌, ◌⊎◌, inl, inr, Bool, true, false, Option, Some, None, refl, sym, ap, ◌∙◌, subst, arith, nat_tests, is_marked_at, is_party, entries_of, Answer, Call, Inputs, Begin, Kind, Rest, Stage, Outside, Inside, Forgotten, Within, Account, how_many, outside, moves_of, answers_of, both, stage_at, stands_as, call_at, polls_again, Table, inside_or_past, outside_stage, bit, is_waiting, IsCalled, PollsAlone, SoloPolls, StandsBack, End as LockEnd, Mutex, course_at, holders, starved, holder_of, starved_of, IsStarved, out_unlisted, waiting_listed, Aim, Place, EnterLock, WaitLock, Ask, Position, Out, Made, Locking, Waiting, At, start_of, fits_lock, in_lock, listed, follows, wait_for, wait_at, arrivals_at, IsFollower, Barrier, IsBarrier, knows, goes_with, position_at, arrival_at, World, standing_of, wait_of, is_free, is_starved, view_of, verdict_in, entries_in, is_first_poll, wait_then, HasToWait, IsSolo, IsNotified, IsToldOfLock, SoloPoll, Runs, IsBarrierTable, Stands, refused}
use Rattle.std.specs.Prelude.{is_none}
use Rattle.world_base.proofs.Bounds.{marked_listed}
use Rattle.world_mutex.proofs.of_machine.callers.AloneSeen.{solo_polls as lock_law}
use Rattle.world_mutex.specs.machine.Alone.{Took, GaveWay}
use Rattle.world_mutex.specs.machine.Course.{counted as counted_there}
use Rattle.world_mutex.specs.machine.Mutex.{IsAtRest as LockAtRest}
use Rattle.world_barrier.specs.Laws.{is_at_rest}
use Rattle.world_barrier.proofs.laws.Sound.{courses_rest}
use Rattle.world_mutex.proofs.of_machine.callers.Holders as sees
use Rattle.world_barrier.specs.machine.Machine.{is_out}
use Rattle.world_barrier.specs.Bound.{Takes}
use Rattle.world_barrier.proofs.table.Seen.{wait_seen, standing_seen}
use Rattle.world_barrier.proofs.whole.Served.{Came, IsSupplied, Serves, serves}
use Rattle.world_barrier.proofs.whole.Locked.{GaveUp, Enters, Settles, asks, gets_at_once, Goes, Ends, begins}
use Rattle.world_barrier.proofs.whole.Alone.{EndsAt, whole}
use Rattle.world_barrier.proofs.whole.Walks.{serves_inside, enters_inside, enters_on, goes_inside, takes_on}
use Rattle.world_barrier.proofs.whole.Comes.{has_to_wait, takes_seen, gives_seen, refused_seen}
use Rattle.world_barrier.specs.Bound.{ComesTo}
use Rattle.world_barrier.specs.machine.Waits.{Wait, uncounted, counted, no_wait}

-- ---- the inner lock is free

no_holder : (h : Option ℕ) → is_none h ≡ true → h ≡ None
no_holder None e = refl
no_holder (Some q) e = absurd (cc e)

none_at_all : (n : ℕ) → (n == 0) ≡ true → n ≡ 0
none_at_all n h = grind (arith, nat_tests)

-- Which calls a first poll may be, by how its party stands.
idle_waits : (c : Call) (i : Inputs) (n : ℕ) → is_first_poll (outside Rest.Idle) (Begin c i) n ≡ true → c ≡ Call.Wait
idle_waits Call.Wait i n h = refl
idle_waits _ i n h = absurd (cc h)

finished_waits : (c : Call) (i : Inputs) (n : ℕ) → is_first_poll (outside Rest.Finished) (Begin c i) n ≡ true → c ≡ Call.Wait
finished_waits Call.Wait i n h = refl
finished_waits _ i n h = absurd (cc h)

pending_polls : (c : Call) (i : Inputs) (n : ℕ) → is_first_poll (outside Rest.Pending) (Begin c i) n ≡ true → (c ≡ Call.Poll) × ((n == 0) ≡ true)
pending_polls Call.Poll i n h = (refl, h)
pending_polls _ i n h = absurd (cc h)

-- who has had the inner lock isn't refused as one too many of the starved
never_starved : (before : Wait) (w : World) (p : ℕ) (a : Answer) (v : World) → ComesTo before w p a v → a ≡ refused Refusal.Starved → ⊥
never_starved uncounted w p a v (inl leads) is = cc (leads.ready, is)
never_starved uncounted w p a v (inr (inl back)) is = cc (back.refused, is)
never_starved uncounted w p a v (inr (inr waits)) is = cc (waits.waits.pending, is)
never_starved (counted k) w p a v (same, inl follows) is = cc (follows.1, is)
never_starved (counted k) w p a v (same, inr waits) is = cc (waits.1.pending, is)
never_starved no_wait w p a v never is = never

module _ (t : Table Barrier) where
  abbrev m : Mutex
  m = t.machine.lock

  pub nobody_holds : (view_of t).lock.holder ≡ None → holders m ≡ 0
  nobody_holds e = sees.none_holds 0 m.courses e

  pub nobody_starved : how_many (view_of t).lock.starved ≡ 0 → starved m ≡ 0
  nobody_starved e = sym (sees.how_many_counted m.courses) ∙ e

  pub free_there : is_free (view_of t).lock ≡ true → (holders m ≡ 0) × (starved m ≡ 0)
  free_there h = let two = both (is_none (holder_of m)) (how_many (starved_of m) == 0) h in (nobody_holds (no_holder (holder_of m) two.0), nobody_starved (none_at_all (how_many (starved_of m)) two.1))

-- ---- where a poll begins

-- the call begins at this place, and its wait is for this
pub record Begins (t : Table Barrier) (p : ℕ) (c : Call) (i : Inputs) (from : Aim → Place) : Type 0 where
  pub stage : Stage
  pub within : Within
  pub its_aim : Aim
  pub at : stage_at t.stages p ≡ stage
  pub called : call_at knows stage (Begin c i) ≡ Some within
  pub first : polls_again stage (Begin c i) ≡ false
  pub starts : start_of c (position_at t.machine.positions p) ≡ Some (from its_aim)
  pub follower : its_aim ≡ Aim.Check → IsFollower t.machine.words.size (arrival_at t.machine.arrivals p)
  pub wait : wait_then (Begin c i) Answer.Stepped (wait_of (view_of t) p) ≡ wait_for its_aim (arrivals_at t.machine.words.size (arrival_at t.machine.arrivals p))

module _ (t : Table Barrier) (p : ℕ) (tl : IsBarrier t.machine) (tf : IsBarrierTable t) where
  abbrev here : Position
  here = position_at t.machine.positions p

  abbrev number : ℕ
  number = arrivals_at t.machine.words.size (arrival_at t.machine.arrivals p)

  pub stands_at : (r : Rest) → stage_at t.stages p ≡ Outside r → goes_with (Outside r) here ≡ true
  stands_at r at = elim (inside_or_past t.stages p) as (λ _. goes_with (Outside r) here ≡ true) [
    | inl known ↦ ap (λ z. goes_with z here) (sym at) ∙ tf.stands p known
    | inr past ↦ (let never : Forgotten ≡ Outside r = sym past.1 ∙ at in absurd (cc never))
  ]

  pub at_rest_there : (r : Rest) → standing_of (view_of t) p ≡ outside r → stage_at t.stages p ≡ Outside r
  at_rest_there r e = outside_stage (verdict_in t.machine p) (stage_at t.stages p) r (sym (standing_seen t p) ∙ e)

  linked : (x : Position) → here ≡ x → fits_lock (in_lock x) (course_at t.machine.lock.courses p) ≡ true
  linked x e = let P : Position → Type 0 = λ z. fits_lock (in_lock z) (course_at t.machine.lock.courses p) ≡ true in subst P e (tl.links p)

  its_follower : (x : Position) → here ≡ x → follows x ≡ true → IsFollower t.machine.words.size (arrival_at t.machine.arrivals p)
  its_follower x e h = tl.followers p (ap follows e ∙ h)

  aim_follows : (a : Aim) → here ≡ Made a → a ≡ Aim.Check → IsFollower t.machine.words.size (arrival_at t.machine.arrivals p)
  aim_follows Aim.Check e is = its_follower (Made Aim.Check) e refl
  aim_follows Aim.Arrive e is = absurd (cc is)

  waits_follow : (a : Aim) → here ≡ Locking a → a ≡ Aim.Check → IsFollower t.machine.words.size (arrival_at t.machine.arrivals p)
  waits_follow Aim.Check e is = its_follower (Locking Aim.Check) e refl
  waits_follow Aim.Arrive e is = absurd (cc is)

  wait_here : (x : Position) → here ≡ x → wait_of (view_of t) p ≡ wait_at x number
  wait_here x e = wait_seen t p ∙ ap (λ z. wait_at z number) e

  module _ (i : Inputs) where
    from_out : (r : Rest) (w : Within) → stage_at t.stages p ≡ Outside r → call_at knows (Outside r) (Begin Call.Wait i) ≡ Some w → polls_again (Outside r) (Begin Call.Wait i) ≡ false → here ≡ Out → Begins t p Call.Wait i EnterLock
    from_out r w at called first out = record { stage = Outside r; within = w; its_aim = Aim.Arrive; at = at; called = called; first = first; starts = ap (start_of Call.Wait) out; follower = λ e. absurd (cc e); wait = refl }

    is_out_here : (x : Position) → is_out x ≡ true → x ≡ Out
    is_out_here Out h = refl
    is_out_here _ h = absurd (cc h)

    from_made : (x : Position) → here ≡ x → stage_at t.stages p ≡ Outside Rest.Pending → goes_with (Outside Rest.Pending) x ≡ true → entries_of p t.machine.lock.entries + entries_of p t.machine.entries ≡ 0 → Begins t p Call.Poll i EnterLock
    from_made (Made a) e at fits none = record { stage = Outside Rest.Pending; within = record { kind = Kind.LaterPoll; was = Rest.Pending }; its_aim = a; at = at; called = refl; first = refl; starts = ap (start_of Call.Poll) e; follower = aim_follows a e; wait = wait_here (Made a) e }
    from_made (Locking a) e at fits none = let one = waiting_listed (course_at t.machine.lock.courses p) (linked (Locking a) e) in let there = tl.lock.owners p in absurd (omega (arith, one, there, none))
    from_made Waiting e at fits none = let there : entries_of p t.machine.entries ≡ 1 = tl.owners p ∙ ap listed e in absurd (omega (arith, there, none))
    from_made Out e at fits none = absurd (cc fits)
    from_made (At z) e at fits none = absurd (cc fits)

    pub first_from : (c : Call) (s : Stage) → stage_at t.stages p ≡ s → is_first_poll (stands_as (verdict_in t.machine p) s) (Begin c i) (entries_in (view_of t) p) ≡ true → Begins t p c i EnterLock
    first_from c (Outside Rest.Idle) at h = subst (λ z. Begins t p z i EnterLock) (sym (idle_waits c i (entries_in (view_of t) p) h)) (from_out Rest.Idle _ at refl refl (is_out_here here (stands_at Rest.Idle at)))
    first_from c (Outside Rest.Finished) at h = subst (λ z. Begins t p z i EnterLock) (sym (finished_waits c i (entries_in (view_of t) p) h)) (from_out Rest.Finished _ at refl refl (is_out_here here (stands_at Rest.Finished at)))
    first_from c (Outside Rest.Pending) at h = let polls = pending_polls c i (entries_in (view_of t) p) h in subst (λ z. Begins t p z i EnterLock) (sym polls.0) (from_made here refl at (stands_at Rest.Pending at) (none_at_all (entries_in (view_of t) p) polls.1))
    first_from _ (Outside Rest.Holding) at h = absurd (cc h)
    first_from _ (Inside w) at h = absurd (cc h)
    first_from _ Forgotten at h = absurd (cc h)

    -- of a party that was notified in its generation's list
    from_listed : (x : Position) → here ≡ x → stage_at t.stages p ≡ Outside Rest.Pending → goes_with (Outside Rest.Pending) x ≡ true → 0 < entries_of p t.machine.entries → (k : Begins t p Call.Poll i (λ _. Ask)) × (k.its_aim ≡ Aim.Check)
    from_listed Waiting e at fits some = (record { stage = Outside Rest.Pending; within = record { kind = Kind.LaterPoll; was = Rest.Pending }; its_aim = Aim.Check; at = at; called = refl; first = refl; starts = ap (start_of Call.Poll) e; follower = λ _. its_follower Waiting e refl; wait = wait_here Waiting e }, refl)
    from_listed (Made a) e at fits some = let there : entries_of p t.machine.entries ≡ 0 = tl.owners p ∙ ap listed e in absurd (omega (arith, there, some))
    from_listed (Locking a) e at fits some = let there : entries_of p t.machine.entries ≡ 0 = tl.owners p ∙ ap listed e in absurd (omega (arith, there, some))
    from_listed Out e at fits some = absurd (cc fits)
    from_listed (At z) e at fits some = absurd (cc fits)

    -- of one that waits for the inner lock
    pub from_waiting : (x : Position) → here ≡ x → stage_at t.stages p ≡ Outside Rest.Pending → goes_with (Outside Rest.Pending) x ≡ true → 0 < entries_of p t.machine.lock.entries → (k : Begins t p Call.Poll i WaitLock) × (here ≡ Locking k.its_aim) × (is_waiting (course_at t.machine.lock.courses p) ≡ true)
    from_waiting (Locking a) e at fits some = (record { stage = Outside Rest.Pending; within = record { kind = Kind.LaterPoll; was = Rest.Pending }; its_aim = a; at = at; called = refl; first = refl; starts = ap (start_of Call.Poll) e; follower = waits_follow a e; wait = wait_here (Locking a) e }, e, linked (Locking a) e)
    from_waiting (Made a) e at fits some = let there = tl.lock.owners p in let none = out_unlisted (course_at t.machine.lock.courses p) (linked (Made a) e) in absurd (omega (arith, there, none, some))
    from_waiting Waiting e at fits some = let there = tl.lock.owners p in let none = out_unlisted (course_at t.machine.lock.courses p) (linked Waiting e) in absurd (omega (arith, there, none, some))
    from_waiting Out e at fits some = absurd (cc fits)
    from_waiting (At z) e at fits some = absurd (cc fits)

-- ---- what it comes to

module _ (known : ℕ → Account) (w : World) (p : ℕ) (i : Inputs) (n : ℕ) (a : Answer) (v : World) (stood : Stands w) (stands : Stands v) (ended : a ≢ Answer.Stepped) where
  abbrev t : Table Barrier
  t = w.behind

  abbrev s : Barrier
  s = w.behind.machine

  abbrev IsRun : Call → Type 0
  IsRun c = Runs known w (moves_of p c i n) (answers_of n a) v

  first_comes : (c : Call) → IsRun c → (k : Begins t p c i EnterLock) → IsSupplied p k.its_aim s i → holders s.lock ≡ 0 → starved s.lock ≡ 0 → Came p k.its_aim s a (position_at v.behind.machine.positions p) v.behind.machine
  first_comes c runs k memory free unstarved = (whole t p i (Serves p k.its_aim s) (Came p k.its_aim s) (serves_inside p k.its_aim s) (λ x y from f laws later here so step. serves p k.its_aim s i memory x y laws from f here so step)
      known w c n a v k.stage k.within (EnterLock k.its_aim) refl k.at k.called k.first k.starts (λ f y laws step. gets_at_once p k.its_aim s i f s y free unstarved (refl, refl) step) runs ended).ended

  notified_comes : IsRun Call.Poll → (k : Begins t p Call.Poll i (λ _. Ask)) → IsSupplied p k.its_aim s i → k.its_aim ≡ Aim.Check → is_marked_at (is_party p) s.entries ≡ true → holders s.lock ≡ 0 → starved s.lock ≡ 0 → Came p k.its_aim s a (position_at v.behind.machine.positions p) v.behind.machine
  notified_comes runs k memory checks marked free unstarved = (whole t p i (Enters p k.its_aim s) (Came p k.its_aim s) (enters_inside p k.its_aim s) (λ x y from f laws later here so step. enters_on p k.its_aim s i memory x y from f laws later here so step)
      known w Call.Poll n a v k.stage k.within Ask refl k.at k.called k.first k.starts (λ f y laws step. asks p k.its_aim s i f y marked free unstarved checks step) runs ended).ended

  lock_comes : (May : Type 0) → IsRun Call.Poll → (k : Begins t p Call.Poll i WaitLock) → IsSupplied p k.its_aim s i → Settles p k.its_aim s May i.memory → EndsAt t p i (Goes p k.its_aim s May i.memory) (Ends p k.its_aim s May i.memory) a v
  lock_comes May runs k memory settles = whole t p i (Goes p k.its_aim s May i.memory) (Ends p k.its_aim s May i.memory) (goes_inside p k.its_aim s May i.memory) (λ x y from f laws later here so step. takes_on p k.its_aim s May i memory x y settles from f laws later here so step)
      known w Call.Poll n a v k.stage k.within (WaitLock k.its_aim) refl k.at k.called k.first k.starts (λ f y laws step. begins p k.its_aim s May i settles y f step) runs ended

  -- as callers see it
  as_seen : (P : World → World → Type 0) → P (view_of t) (view_of v.behind) → P w v
  as_seen P h = subst (λ x. P x v) (sym stood.seen) (subst (P (view_of t)) (sym stands.seen) h)

  -- the poll of a wait like this finds memory if it has to wait
  supplied : (c : Call) (from : Aim → Place) (k : Begins t p c i from) → (HasToWait (view_of t) (wait_for k.its_aim (arrivals_at s.words.size (arrival_at s.arrivals p))) → i.memory ≡ true) → IsSupplied p k.its_aim s i
  supplied c from k memory must = memory (has_to_wait p k.its_aim t v.behind a stood.laws stands.laws k.follower must)

  pub first : (c : Call) → IsRun c → is_first_poll (standing_of w p) (Begin c i) (entries_in w p) ≡ true → is_free w.lock ≡ true → (HasToWait w (wait_then (Begin c i) Answer.Stepped (wait_of w p)) → i.memory ≡ true) → Takes w p (wait_then (Begin c i) Answer.Stepped (wait_of w p)) a v
  first c runs is free memory =
      let is' = subst (λ x. is_first_poll (standing_of x p) (Begin c i) (entries_in x p) ≡ true) stood.seen is in
      let is'' = subst (λ z. is_first_poll z (Begin c i) (entries_in (view_of t) p) ≡ true) (standing_seen t p) is' in
      let free' = free_there t (subst (λ x. is_free x.lock ≡ true) stood.seen free) in
      let k = first_from t p stood.laws stood.fits i c (stage_at t.stages p) refl is'' in
      let memory' = subst (λ x. HasToWait x (wait_then (Begin c i) Answer.Stepped (wait_of x p)) → i.memory ≡ true) stood.seen memory in
      let some = supplied c EnterLock k (subst (λ z. HasToWait (view_of t) z → i.memory ≡ true) k.wait memory') in
      as_seen (λ x y. Takes x p (wait_then (Begin c i) Answer.Stepped (wait_of x p)) a y)
      (subst (λ z. Takes (view_of t) p z a (view_of v.behind)) (sym k.wait) (takes_seen p k.its_aim t v.behind a stood.laws stands.laws k.follower (first_comes c runs k some free'.0 free'.1)))

  module _ (runs : IsRun Call.Poll) where
    pub notified : IsNotified w p i → is_free w.lock ≡ true → Takes w p (wait_of w p) a v
    notified solo free =
        let solo' = subst (λ x. IsNotified x p i) stood.seen solo in
        let free' = free_there t (subst (λ x. is_free x.lock ≡ true) stood.seen free) in
        let at = at_rest_there t p stood.laws stood.fits Rest.Pending solo'.pending in
        let found = from_listed t p stood.laws stood.fits i (position_at s.positions p) refl at (stands_at t p stood.laws stood.fits Rest.Pending at) (marked_listed p s.entries solo'.marked) in
        let k = found.0 in
        let some = supplied Call.Poll (λ _. Ask) k (subst (λ z. HasToWait (view_of t) z → i.memory ≡ true) k.wait solo'.memory) in
        as_seen (λ x y. Takes x p (wait_of x p) a y)
        (subst (λ z. Takes (view_of t) p z a (view_of v.behind)) (sym k.wait) (takes_seen p k.its_aim t v.behind a stood.laws stands.laws k.follower (notified_comes runs k some found.1 solo'.marked free'.0 free'.1)))

    why_seen : (is_starved (view_of t).lock p ≡ true) ⊎ (how_many (view_of t).lock.starved ≡ 0) → IsStarved s.lock p ⊎ (starved s.lock ≡ 0)
    why_seen (inl starving) = inl (sym (sees.counted_bit (course_at s.lock.courses p)) ∙ ap bit (sym (sees.starved_at s.lock.courses p) ∙ starving))
    why_seen (inr none) = inr (nobody_starved t none)

    got_not : (e : LockEnd) (new : Mutex) → e ≡ LockEnd.Got → StandsBack p s.lock e new → ⊥
    got_not LockEnd.Got new is back = back
    got_not _ new is back = absurd (cc is)

    -- a poll that has had the inner lock
    came_seen : (k : Begins t p Call.Poll i WaitLock) → Came p k.its_aim s a (position_at v.behind.machine.positions p) v.behind.machine → Takes (view_of t) p (wait_of (view_of t) p) a (view_of v.behind)
    came_seen k came = subst (λ z. Takes (view_of t) p z a (view_of v.behind)) (sym k.wait) (takes_seen p k.its_aim t v.behind a stood.laws stands.laws k.follower came)

    -- it has had it, where it is starved or nobody is
    must_come : (k : Begins t p Call.Poll i WaitLock) → (law : SoloPolls s.lock) → IsCalled s.lock p → (is_starved (view_of t).lock p ≡ true) ⊎ (how_many (view_of t).lock.starved ≡ 0)
        → (Came p k.its_aim s a (position_at v.behind.machine.positions p) v.behind.machine × Unit {0}) ⊎ GaveUp p k.its_aim s i.memory a (position_at v.behind.machine.positions p) v.behind.machine → Takes (view_of t) p (wait_of (view_of t) p) a (view_of v.behind)
    must_come k law called why (inl came) = came_seen k came.0
    must_come k law called why (inr gave) = absurd (got_not gave.to v.behind.machine.lock (law.takes i.memory p gave.to v.behind.machine.lock called (why_seen why) gave.polls).0 gave.gave.stands_back)

    -- it isn't so at rest that its party isn't starved and another is
    abbrev May : Type 0
    May = LockAtRest s.lock.courses → counted_there (course_at s.lock.courses p) ≡ 0 → 0 < starved s.lock → ⊥

    -- what a rest of the World is there
    behind_there : May → is_at_rest (view_of t) ≡ true → is_starved (view_of t).lock p ≡ false → 0 < how_many (view_of t).lock.starved → ⊥
    behind_there may rest plain others = may (courses_rest t stood.laws stood.fits rest) (sym (sees.counted_bit (course_at s.lock.courses p)) ∙ ap bit (sym (sees.starved_at s.lock.courses p) ∙ plain)) (omega (arith, others, sees.how_many_counted s.lock.courses))

    solo_by : (k : Begins t p Call.Poll i WaitLock) → position_at s.positions p ≡ Locking k.its_aim → (law : SoloPolls s.lock) → IsCalled s.lock p → 0 < entries_of p s.lock.entries → EndsAt t p i (Goes p k.its_aim s May i.memory) (Ends p k.its_aim s May i.memory) a v
        → (Came p k.its_aim s a (position_at v.behind.machine.positions p) v.behind.machine × May) ⊎ GaveUp p k.its_aim s i.memory a (position_at v.behind.machine.positions p) v.behind.machine → SoloPoll (view_of t) p a (view_of v.behind)
    solo_by k here law called there end (inl came) = record {
      takes_or_gives_way = λ below. inl (came_seen k came.0);
      refused = λ is. absurd (never_starved (wait_of (view_of t) p) (view_of t) p a (view_of v.behind) (came_seen k came.0).comes_to is);
      takes = λ why. came_seen k came.0;
      behind = λ rest plain others below. absurd (behind_there came.1 rest plain others);
    }
    solo_by k here law called there end (inr gave) = record {
      takes_or_gives_way = λ below. inr (gives_seen p k.its_aim t v.behind a end.elsewhere end.outside here i.memory gave there below);
      refused = refused_seen p k.its_aim t v.behind a end.elsewhere end.outside here i.memory gave;
      takes = λ why. must_come k law called why (inr gave);
      behind = λ rest plain others below. gives_seen p k.its_aim t v.behind a end.elsewhere end.outside here i.memory gave there below;
    }

    takes_where_it_may : (e : LockEnd) (new : Mutex) → SoloPolls s.lock → IsCalled s.lock p → PollsAlone true p e new s.lock → (Took p e new × May) ⊎ GaveWay p s.lock e new
    takes_where_it_may e new law called polls = elim (law.takes_or_gives_way p e new called polls) as (λ _. (Took p e new × May) ⊎ GaveWay p s.lock e new) [
      | inl took ↦ inl (took, λ rest plain others. got_not e new took.0 (law.behind rest p e new called plain others polls).stands_back)
      | inr gave ↦ inr gave
    ]

    pub solo : IsSolo w p i → w.lock.holder ≡ None → SoloPoll w p a v
    solo polls free =
        let solo' = subst (λ x. IsSolo x p i) stood.seen polls in
        let free' = nobody_holds t (subst (λ x. x.lock.holder ≡ None) stood.seen free) in
        let at = at_rest_there t p stood.laws stood.fits Rest.Pending solo'.pending in
        let there = marked_listed p s.lock.entries solo'.marked in
        let found = from_waiting t p stood.laws stood.fits i (position_at s.positions p) refl at (stands_at t p stood.laws stood.fits Rest.Pending at) there in
        let law = lock_law s.lock stood.laws.lock free' in
        let called : IsCalled s.lock p = (found.2, solo'.marked) in
        let M : LockEnd → Mutex → Bool → Type 0 = λ e new m. PollsAlone m p e new s.lock in
        let end = lock_comes May runs found.0 (λ must. solo'.memory) (λ e new polls. takes_where_it_may e new law called (subst (M e new) solo'.memory polls)) in
        as_seen (λ x y. SoloPoll x p a y) (solo_by found.0 found.1 law called there end end.ended)

    -- whether or not it finds memory, unless it has to wait
    pub told : IsToldOfLock w p i → w.lock.holder ≡ None → (is_starved w.lock p ≡ true) ⊎ (how_many w.lock.starved ≡ 0) → Takes w p (wait_of w p) a v
    told polls free why =
        let told' = subst (λ x. IsToldOfLock x p i) stood.seen polls in
        let free' = nobody_holds t (subst (λ x. x.lock.holder ≡ None) stood.seen free) in
        let why' = subst (λ x. (is_starved x.lock p ≡ true) ⊎ (how_many x.lock.starved ≡ 0)) stood.seen why in
        let at = at_rest_there t p stood.laws stood.fits Rest.Pending told'.pending in
        let there = marked_listed p s.lock.entries told'.marked in
        let found = from_waiting t p stood.laws stood.fits i (position_at s.positions p) refl at (stands_at t p stood.laws stood.fits Rest.Pending at) there in
        let k = found.0 in
        let law = lock_law s.lock stood.laws.lock free' in
        let called : IsCalled s.lock p = (found.2, told'.marked) in
        let some = supplied Call.Poll WaitLock k (subst (λ z. HasToWait (view_of t) z → i.memory ≡ true) k.wait told'.memory) in
        let end = lock_comes (Unit {0}) runs k some (λ e new polls. inl (law.takes i.memory p e new called (why_seen why') polls, tt)) in
        as_seen (λ x y. Takes x p (wait_of x p) a y) (must_come k law called why' end.ended)
