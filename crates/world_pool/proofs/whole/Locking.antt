-- A later poll of a party that waits for the list's lock, where nobody holds that: it takes the lock and does what it took it for, or gives way.
use Rattle.world_pool.proofs.Prelude.{◌≡◌, ◌≢◌, ℕ, ◌<◌, ◌⊎◌, inl, inr, Bool, true, false, Option, Some, length, refl, ap, sym, ◌∙◌, subst, arith, some_eq, false≢true, get_or-set_same, Answer, Call, Inputs, Begin, Go, Rest, Stage, Outside, Forgotten, inside_or_past, call_at, polls_again, knows, goes_with, view_of, refused, going_on, beginning, moves_of, answers_of, Table, stage_at, answer_of, got_with, End, Step, Refusal, Mutex, lock_course, Aim, Return, Taker, Found, Next, Place, WaitLock, TakeLock, Pop, Push, ReturnPermit, ReturningPermit, Position, Out, Made, Acquiring, Locking, At, action_of, next_of, position_after, place_for, after_lock, after_return, with_lock, OnLock, fits_lock, in_lock, Pool, Moves, position_at, lease_at, answer_by, World, verdict_in, items_after, HoldsWell, Runs, Steps, StandsWell}
use Rattle.lock_program.specs.declared.end.Next.TheVariants as next
use Rattle.world_base.specs.queue.Parties.{entries_of}
use Rattle.world_base.proofs.Bounds.{marked_listed}
use Rattle.world_base.proofs.of_any_world.Runs.{Onward, along}
use Rattle.world_base.proofs.of_table.Ways.{acted}
use Rattle.world_base.proofs.of_table.Views.{outside_stage}
use Rattle.world_mutex.specs.machine.Alone.{GoesOnAlone, last, further, PollsAlone, at_once, begun, GaveWay, StandsBack, IsCalled, SoloPolls}
use Rattle.world_mutex.specs.machine.Course as lock
use Rattle.world_mutex.specs.machine.Mutex.{holders, starved, IsStarved}
use Rattle.world_mutex.proofs.of_machine.callers.AloneSeen.{solo_polls as lock_law}
use Rattle.world_mutex.proofs.of_machine.callers.Callers.{gave_way as gave_way_seen}
use Rattle.world_pool.specs.Bound.{IsSolo, TakesLock, GivesWay, SoloPoll}
use Rattle.world_pool.proofs.table.Seen.{standing_seen}
use Rattle.world_pool.proofs.step.Stepping.{known_calls}
use Rattle.world_pool.proofs.whole.Free.{Way, Ended, goes_on as goes_its_way, inside_positions, stage_inside, never_stepped}

-- how a call ends that has taken the lock
abbrev end_of : Aim → End
end_of Aim.Take = End.Got
end_of Aim.Give = End.GivenBack

-- a take gives its permit back, since too many are starved
abbrev gives_back : Place → Bool
gives_back (ReturnPermit Return.Starved) = true
gives_back (ReturningPermit Return.Starved) = true
gives_back _ = false

abbrev Back : Next → Type 0
Back (next.Do y) = gives_back y ≡ true
Back (next.End e z) = e ≡ End.Refused Refusal.Starved

returned_back : (f : Found) → Back (after_return Return.Starved f)
returned_back (Found.Permit Step.More) = refl
returned_back _ = refl

stays_back : (x : Place) (f : Found) → gives_back x ≡ true → Back (next_of x f)
stays_back (ReturnPermit Return.Starved) f h = returned_back f
stays_back (ReturningPermit Return.Starved) f h = returned_back f
stays_back _ f h = absurd (false≢true h)

module _ (p : ℕ) (b : Aim) (i : Inputs) (m : Mutex) where
  -- the poll gave way, and was refused as one too many
  abbrev TooMany : Type 0
  TooMany = (new : Mutex) × PollsAlone i.memory p (End.Refused Refusal.Starved) new m × GaveWay p m (End.Refused Refusal.Starved) new

  abbrev Polling : Mutex → Type 0
  Polling x = (e : End) (new : Mutex) → GoesOnAlone i.memory p e new x → PollsAlone i.memory p e new m

  abbrev On : Pool → Type 0
  On s = ((position_at s.positions p ≡ At (TakeLock b)) × Polling s.lock)
      ⊎ (Way p (end_of b) s ⊎ ((x : Place) × (position_at s.positions p ≡ At x) × (gives_back x ≡ true) × TooMany))

  abbrev Done : Answer → Pool → Type 0
  Done a s = Ended (end_of b) a
      ⊎ (((a ≡ Answer.Pending) × PollsAlone i.memory p End.Pending s.lock m × GaveWay p m End.Pending s.lock) ⊎ ((a ≡ refused Refusal.Starved) × TooMany))

  abbrev Goes : Answer → World → Type 0
  Goes a v = Onward (λ (y : World). On y.behind.machine) (λ c (y : World). Done c y.behind.machine) a v

  module _ (a : Answer) (v : World) (l : Option ℕ) where
    abbrev s : Pool
    s = v.behind.machine

    abbrev Leads : Next → Type 0
    Leads n = a ≡ answer_by n l → position_at s.positions p ≡ position_after n → Goes a v

    -- with the lock
    has_lock : (c : Aim) → c ≡ b → Leads (with_lock c)
    has_lock Aim.Take same is at = (let P : Aim → Type 0 = λ d. Way p (end_of d) s in record { going = λ st. inr (inl (subst P same (Pop Taker.Poll, at, tt))); ended = λ ne. absurd (ne is) })
    has_lock Aim.Give same is at = (let P : Aim → Type 0 = λ d. Way p (end_of d) s in record { going = λ st. inr (inl (subst P same (Push, at, tt))); ended = λ ne. absurd (ne is) })

    -- one too many
    one_too_many : (c : Aim) → TooMany → Leads (after_lock c (Found.Lock (Step.End (End.Refused Refusal.Starved))))
    one_too_many Aim.Take many is at = record { going = λ st. inr (inr (ReturnPermit Return.Starved, at, refl, many)); ended = λ ne. absurd (ne is) }
    one_too_many Aim.Give many is at = record { going = λ st. (let never : refused Refusal.Starved ≡ Answer.Stepped = sym is ∙ st in absurd (cc never)); ended = λ ne. inr (inr (is, many)) }

    gave_up : (e : End) → PollsAlone i.memory p e s.lock m → GaveWay p m e s.lock → StandsBack p m e s.lock → Leads (after_lock b (Found.Lock (Step.End e)))
    gave_up End.Pending polls gave back is at = record { going = λ st. (let never : Answer.Pending ≡ Answer.Stepped = sym is ∙ st in absurd (cc never)); ended = λ ne. inr (inl (is, polls, gave)) }
    gave_up (End.Refused Refusal.Starved) polls gave back is at = one_too_many b (s.lock, polls, gave) is at
    gave_up _ polls gave back is at = absurd back

    -- once it gives its permit back
    on_back : (n : Next) → TooMany → Back n → Leads n
    on_back (next.Do y) many h is at = record { going = λ st. inr (inr (y, at, h, many)); ended = λ ne. absurd (ne is) }
    on_back (next.End e z) many h is at = record {
      going = λ st. absurd (never_stepped (got_with l) e (sym is ∙ st));
      ended = λ ne. inr (inr (is ∙ ap (answer_of (got_with l)) h, many));
    }

  -- whoever polls there takes the lock or gives way
  module _ (settles : (e : End) (new : Mutex) → PollsAlone i.memory p e new m → (e ≡ End.Got) ⊎ GaveWay p m e new) where
    module _ (a : Answer) (v : World) (l : Option ℕ) where
      abbrev y : Pool
      y = v.behind.machine

      ends : (e : End) → PollsAlone i.memory p e y.lock m → Leads a v l (after_lock b (Found.Lock (Step.End e)))
      ends e polls is at = elim (settles e y.lock polls) as (λ _. Goes a v) [
        | inl got ↦ (let P : End → Type 0 = λ d. Leads a v l (after_lock b (Found.Lock (Step.End d))) in subst P (sym got) (has_lock a v l b refl) is at)
        | inr gave ↦ gave_up a v l e polls gave gave.stands_back is at
      ]

      on_begin : (f : Found) → OnLock i p (action_of (WaitLock b)) f m y.lock → Leads a v l (after_lock b f)
      on_begin (Found.Lock Step.More) k is at = record { going = λ st. inl (at, λ e new g. begun m y.lock k.done g); ended = λ ne. absurd (ne is) }
      on_begin (Found.Lock (Step.End e)) k is at = ends e (at_once m k.done) is at
      on_begin _ k is at = absurd k

      on_go : (old : Mutex) (f : Found) → OnLock i p (action_of (TakeLock b)) f old y.lock → Polling old → Leads a v l (after_lock b f)
      on_go old (Found.Lock Step.More) k so is at = record { going = λ st. inl (at, λ e new g. so e new (further old y.lock k.done g)); ended = λ ne. absurd (ne is) }
      on_go old (Found.Lock (Step.End e)) k so is at = ends e (so e y.lock (last old k.done)) is at
      on_go old _ k so is at = absurd k

    module _ (x : World) (a : Answer) (v : World) (st : Steps x (going_on p i) a v) where
      abbrev t : Table Pool
      t = x.behind

      abbrev lease : Option ℕ
      lease = lease_at v.behind.machine.leases p

      record Went (z : Place) : Type 0 where
        found : Found
        lock : OnLock i p (action_of z) found t.machine.lock v.behind.machine.lock
        answer : a ≡ answer_by (next_of z found) lease
        at : position_at v.behind.machine.positions p ≡ position_after (next_of z found)

      went : (z : Place) → position_at t.machine.positions p ≡ At z → Went z
      went z here =
          let known : p < length t.stages = omega (arith, st.did.stood.fits.as_many, inside_positions t.machine p z here) in
          let P : Position → Type 0 = λ q. goes_with (stage_at t.stages p) q ≡ true in
          let stage = stage_inside (stage_at t.stages p) z (subst P here (st.did.stood.fits.stands p known)) in
          let call : call_at knows (stage_at t.stages p) (Go i) ≡ Some stage.0 = ap (λ q. call_at knows q (Go i)) stage.1 in
          let first : polls_again (stage_at t.stages p) (Go i) ≡ false = ap (λ q. polls_again q (Go i)) stage.1 in
          let k = acted known_calls Rest.Holding Moves t v.behind (going_on p i) a stage.0 call first st.did.step in
          let from : k.acts.from ≡ z = some_eq (sym k.acts.starts ∙ ap (place_for (Go i)) here) in
          let A : Place → Type 0 = λ q. OnLock i p (action_of q) k.acts.found t.machine.lock v.behind.machine.lock in
          record {
            found = k.acts.found;
            lock = subst A from k.acts.acts.lock;
            answer = k.acts.answer ∙ ap (λ q. answer_by (next_of q k.acts.found) lease) from;
            at = ap (λ ps. position_at ps p) k.acts.acts.positions ∙ (get_or-set_same t.machine.positions p _ Out (inside_positions t.machine p z here) ∙ ap (λ q. position_after (next_of q k.acts.found)) from);
          }

      by_phase : On t.machine → Goes a v
      by_phase (inl phase) = (let k = went (TakeLock b) phase.0 in on_go a v lease t.machine.lock k.found k.lock phase.1 k.answer k.at)
      by_phase (inr (inl way)) = (let o = goes_its_way i p (end_of b) x a v way st in record { going = λ e. inr (inl (o.going e)); ended = λ e. inl (o.ended e) })
      by_phase (inr (inr phase)) = (let k = went phase.0 phase.1 in on_back a v lease (next_of phase.0 k.found) phase.3 (stays_back phase.0 k.found phase.2) k.answer k.at)

    goes_on : (x : World) (a : Answer) (v : World) → On x.behind.machine → Steps x (going_on p i) a v → Goes a v
    goes_on x a v on st = by_phase x a v st on

-- ---- as callers see it

-- where a pending party stands that has an entry in the lock's list
waits_there : (i : Inputs) (x : Position) (c : lock.Course) → goes_with (Outside Rest.Pending) x ≡ true → fits_lock (in_lock x) c ≡ true → 0 < lock.listed c → (b : Aim) × (place_for (Begin Call.Poll i) x ≡ Some (WaitLock b)) × (lock.is_waiting c ≡ true)
waits_there i (Locking a) c g f some = (a, refl, f)
waits_there i (Made Aim.Take) lock.out g f some = absurd (omega (arith, some))
waits_there i (Made Aim.Give) lock.out g f some = absurd (omega (arith, some))
waits_there i Acquiring lock.out g f some = absurd (omega (arith, some))
waits_there i _ _ g f some = absurd (cc)

module _ (known : ℕ → Option ℕ) (w : World) (p : ℕ) (i : Inputs) (n : ℕ) (a : Answer) (v : World) (stood : StandsWell w) (stands : StandsWell v) (ended : a ≢ Answer.Stepped) where
  abbrev m : Mutex
  m = w.behind.machine.lock

  abbrev here : Position
  here = position_at w.behind.machine.positions p

  got_not : (e : End) (new : Mutex) → e ≡ End.Got → StandsBack p m e new → ⊥
  got_not End.Got new is back = back
  got_not _ new is back = absurd (cc is)

  -- what comes of it there
  comes : (b : Aim) → place_for (Begin Call.Poll i) here ≡ Some (WaitLock b) → stage_at w.behind.stages p ≡ Outside Rest.Pending → ((e : End) (new : Mutex) → PollsAlone i.memory p e new m → (e ≡ End.Got) ⊎ GaveWay p m e new)
      → Runs known w (moves_of p Call.Poll i n) (answers_of n a) v → Done p b i m a v.behind.machine
  comes b starts stage settles runs =
      let first : (c : Answer) (x : World) → Steps w (beginning p Call.Poll i) c x → Goes p b i m c x = λ c x s. (
      let call : call_at knows (stage_at w.behind.stages p) (Begin Call.Poll i) ≡ Some _ = ap (λ z. call_at knows z (Begin Call.Poll i)) stage in
      let again : polls_again (stage_at w.behind.stages p) (Begin Call.Poll i) ≡ false = ap (λ z. polls_again z (Begin Call.Poll i)) stage in
      let k = acted known_calls Rest.Holding Moves w.behind x.behind (beginning p Call.Poll i) c _ call again s.did.step in
      let from : k.acts.from ≡ WaitLock b = some_eq (sym k.acts.starts ∙ starts) in
      let B : Place → Type 0 = λ z. OnLock i p (action_of z) k.acts.found m x.behind.machine.lock in
      let inside : p < length w.behind.machine.positions = omega (arith, k.inside, s.did.stood.fits.as_many) in
      let lease = lease_at x.behind.machine.leases p in
      on_begin p b i m settles c x lease k.acts.found (subst B from k.acts.acts.lock)
      (k.acts.answer ∙ ap (λ z. answer_by (next_of z k.acts.found) lease) from)
      (ap (λ ps. position_at ps p) k.acts.acts.positions ∙ (get_or-set_same w.behind.machine.positions p _ Out inside ∙ ap (λ z. position_after (next_of z k.acts.found)) from))
      ) in
      along Steps items_after HoldsWell p i (λ (y : World). On p b i m y.behind.machine) (λ c (y : World). Done p b i m c y.behind.machine) (goes_on p b i m settles) known n w (beginning p Call.Poll i) a v first ended runs

  took : (b : Aim) → Ended (end_of b) a → TakesLock a
  took Aim.Take h = inl (got_with h.0, h.1)
  took Aim.Give h = inr h.1

  -- the two ends of one that gave way
  abbrev Apart : Type 0
  Apart = ((a ≡ Answer.Pending) × PollsAlone i.memory p End.Pending v.behind.machine.lock m × GaveWay p m End.Pending v.behind.machine.lock) ⊎ ((a ≡ refused Refusal.Starved) × TooMany p Aim.Take i m)

  module _ (law : SoloPolls m) (called : IsCalled m p) (there : 0 < entries_of p m.entries) where
    never_gave : IsStarved m p ⊎ (starved m ≡ 0) → Apart → ⊥
    never_gave why (inl (is, polls, gave)) = got_not End.Pending v.behind.machine.lock (law.takes i.memory p End.Pending v.behind.machine.lock called why polls).0 gave.stands_back
    never_gave why (inr (is, many)) = got_not (End.Refused Refusal.Starved) many.0 (law.takes i.memory p (End.Refused Refusal.Starved) many.0 called why many.1).0 many.2.stands_back

    gives_way : (a ≡ Answer.Pending) × PollsAlone i.memory p End.Pending v.behind.machine.lock m × GaveWay p m End.Pending v.behind.machine.lock → GivesWay (view_of w.behind) p a (view_of v.behind)
    gives_way (is, polls, gave) = record { free = gave.free; pending = is; gave_way = gave_way_seen p m v.behind.machine.lock gave there }

    apart : Apart → SoloPoll (view_of w.behind) p a (view_of v.behind)
    apart (inl gave) = record {
      takes_or_gives_way = λ unrefused. inr (gives_way gave);
      refused = λ is. (let never : Answer.Pending ≡ refused Refusal.Starved = sym gave.0 ∙ is in absurd (cc never));
      takes = λ why. absurd (never_gave why (inl gave));
    }
    apart (inr many) = record {
      takes_or_gives_way = λ unrefused. absurd (unrefused many.0);
      refused = λ is. (many.1.2.stands_back.2, many.1.2.unstarved_here);
      takes = λ why. absurd (never_gave why (inr many));
    }

    takes : TakesLock a → SoloPoll (view_of w.behind) p a (view_of v.behind)
    takes (inl (g, is)) = record { takes_or_gives_way = λ unrefused. inl (inl (g, is)); refused = λ no. (let never : Answer.Ready g ≡ refused Refusal.Starved = sym is ∙ no in absurd (cc never)); takes = λ why. inl (g, is) }
    takes (inr is) = record { takes_or_gives_way = λ unrefused. inl (inr is); refused = λ no. (let never : Answer.GivenBack ≡ refused Refusal.Starved = sym is ∙ no in absurd (cc never)); takes = λ why. inr is }

    by_done : (b : Aim) → Done p b i m a v.behind.machine → SoloPoll (view_of w.behind) p a (view_of v.behind)
    by_done b (inl h) = takes (took b h)
    by_done b (inr h) = apart h

  pub solo : IsSolo w p i → holders w.lock ≡ 0 → Runs known w (moves_of p Call.Poll i n) (answers_of n a) v → SoloPoll w p a v
  solo polls free runs =
      let S : World → Type 0 = λ x. IsSolo x p i in
      let F : World → Type 0 = λ x. holders x.lock ≡ 0 in
      let so = subst S stood.seen polls in
      let law = lock_law m stood.laws.mutex (subst F stood.seen free) in
      let stage : stage_at w.behind.stages p ≡ Outside Rest.Pending = outside_stage (verdict_in w.behind.machine p) (stage_at w.behind.stages p) Rest.Pending (sym (standing_seen w.behind p) ∙ so.pending) in
      let there : 0 < entries_of p m.entries = marked_listed p m.entries so.marked in
      let P : Stage → Type 0 = λ z. goes_with z here ≡ true in
      let own = stood.laws.mutex.owners p in
      let found = waits_there i here (lock_course m.courses p) (subst P stage (pending_stands stage)) (stood.laws.locks p) (omega (arith, there, own)) in
      let called : IsCalled m p = (found.2, so.marked) in
      let M : Bool → Type 0 = λ b. (e : End) (new : Mutex) → PollsAlone b p e new m → (e ≡ End.Got) ⊎ GaveWay p m e new in
      let settles : M i.memory = subst M (sym so.memory) (λ e new polled. elim (law.takes_or_gives_way p e new called polled) as (λ _. (e ≡ End.Got) ⊎ GaveWay p m e new) [ inl t ↦ inl t.0 | inr g ↦ inr g ]) in
      let A : World → Type 0 = λ x. SoloPoll x p a v in
      let B : World → Type 0 = λ y. SoloPoll (view_of w.behind) p a y in
      subst A (sym stood.seen) (subst B (sym stands.seen) (by_done law called there found.0 (comes found.0 found.1 stage settles runs)))
    where
      pending_stands : stage_at w.behind.stages p ≡ Outside Rest.Pending → goes_with (stage_at w.behind.stages p) here ≡ true
      pending_stands stage = elim (inside_or_past w.behind.stages p) as (λ _. goes_with (stage_at w.behind.stages p) here ≡ true) [
        | inl inside ↦ stood.fits.stands p inside
        | inr past ↦ (let never : Forgotten ≡ Outside Rest.Pending = sym past.1 ∙ stage in absurd (cc never))
      ]
