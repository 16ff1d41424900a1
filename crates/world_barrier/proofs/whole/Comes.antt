-- What comes of a poll that is carried out alone, as callers see it.
use Rattle.world_barrier.proofs.Prelude.{false, how_many, is_starved, ◌≡◌, ◌≢◌, ℕ, zero, suc, ◌+◌, ◌<◌, inl, inr, Bool, true, List, [], ◌∷◌, refl, sym, ap, ◌∙◌, subst, arith, ℕ_discrete, list_all, entries_of, Answer, Refusal, Stage, is_outside_stage, stage_at, Table, rest_seen, outside_at, LockStep as Step, End as LockEnd, GaveWay, StandsBack, starved, gave_way, none_held, Aim, Ending, Found, Position, Locking, Waiting, Progress, Words, uncounted, counted, wait_for, wait_at, arrivals_at, progress, IsFollower, after_lock, position_after, listed, Barrier, IsBarrier, position_at, arrival_at, answer_by, World, wait_of, view_of, verdict_in, HasToWait, is_at_rest, WaitsOn, ComesTo, GivesWay, refused}
use Rattle.world_base.proofs.of_queue.Told.{waits_at}
use Rattle.world_barrier.specs.Bound.{Takes}
use Rattle.world_barrier.proofs.Numbers as numbers
use Rattle.world_barrier.proofs.table.Seen.{wait_seen}
use Rattle.world_barrier.proofs.whole.Served as served
use Rattle.world_barrier.proofs.whole.Served.{AreNow, Same, Came, end_answer, end_place}
use Rattle.world_barrier.proofs.whole.Locked.{GaveUp}
use Rattle.world_mutex.specs.machine.Mutex.{is_counted}
use Rattle.world_mutex.proofs.of_machine.callers.Holders as sees

module _ (p : ℕ) (b : Aim) (t u : Table Barrier) (a : Answer) where
  abbrev s : Barrier
  s = t.machine

  abbrev y : Barrier
  y = u.machine

  abbrev size : ℕ
  size = s.words.size

  abbrev own : Progress
  own = arrival_at s.arrivals p

  -- the number of the party's arrival, and how many are counted
  abbrev number : ℕ
  number = arrivals_at size own

  abbrev so_far : ℕ
  so_far = arrivals_at size s.words.progress

  abbrev old : World
  old = view_of t

  abbrev new : World
  new = view_of u

  counted_so : (r : Progress) → served.Counted p b s r y → new.arrivals ≡ arrivals_at size r
  counted_so r k = ap (λ w. arrivals_at w.size w.progress) k.0

  same_so : Same p b s y → new.arrivals ≡ so_far
  same_so k = ap (λ w. arrivals_at w.size w.progress) k.0

  -- where the party stands then, and as which arrival
  wait_so : (z : Position) (w : Words) (r : Progress) → position_at y.positions p ≡ z → AreNow p b s w r y → wait_of new p ≡ wait_at z (arrivals_at w.size r)
  wait_so z w r at k = wait_seen u p ∙ (ap (λ x. wait_at x (arrivals_at y.words.size (arrival_at y.arrivals p))) at ∙ ap (wait_at z) (ap (λ n. arrivals_at n (arrival_at y.arrivals p)) (ap (λ v. v.size) k.0) ∙ ap (arrivals_at w.size) k.1))

  waits_on : (n : ℕ) → IsBarrier y → a ≡ Answer.Pending → position_at y.positions p ≡ Waiting → served.IsUnmarked p b s y → wait_of new p ≡ counted n → WaitsOn p n a new
  waits_on n laws is at unmarked wait = record { pending = is; counted = wait; waits = waits_at p y.entries (laws.owners p ∙ ap listed at) unmarked }

  module _ (old_laws : IsBarrier s) (new_laws : IsBarrier y) (follower : b ≡ Aim.Check → IsFollower size own) where
    -- whoever has to wait there has to, as callers see it
    pub has_to_wait : served.MustWait p b s b → HasToWait old (wait_for b number)
    has_to_wait must = by_aim b refl must where
      by_aim : (c : Aim) → b ≡ c → served.MustWait p b s c → HasToWait old (wait_for c number)
      by_aim Aim.Arrive is more = numbers.next_follows size s.words.progress more
      by_aim Aim.Check is unfinished = numbers.is_unfinished size own s.words.progress (follower is) old_laws.sound.unfinished unfinished

    arrives : ComesTo uncounted old p a new → b ≡ Aim.Arrive → ComesTo (wait_for b number) old p a new
    arrives k is = let P : Aim → Type 0 = λ c. ComesTo (wait_for c number) old p a new in subst P (sym is) k

    checks : ComesTo (counted number) old p a new → b ≡ Aim.Check → ComesTo (wait_for b number) old p a new
    checks k is = let P : Aim → Type 0 = λ c. ComesTo (wait_for c number) old p a new in subst P (sym is) k

    comes : (e : Ending) → a ≡ end_answer e → position_at y.positions p ≡ end_place e → served.ComesTo p b s e y → ComesTo (wait_for b number) old p a new
    comes Ending.Wait is at (inl k, unmarked) = arrives (
        let next = numbers.arrived size s.words.progress k.more in
        let n : new.arrivals ≡ so_far + 1 = counted_so (progress s.words.progress.generation (s.words.progress.count + 1)) k.counted ∙ next in
        inr (inr (record {
          follows = numbers.next_follows size s.words.progress k.more;
          waits = waits_on (so_far + 1) new_laws is at unmarked (wait_so Waiting _ _ at k.counted ∙ ap counted next);
          arrivals = n;
        }))
        ) k.arrives
    comes Ending.Wait is at (inr k, unmarked) =
        checks (same_so k.same, inr (numbers.is_unfinished size own s.words.progress (follower k.checks) old_laws.sound.unfinished k.unfinished, waits_on number new_laws is at unmarked (wait_so Waiting _ _ at k.same))) k.checks
    comes Ending.Follow is at k = checks (same_so k.same, inl (numbers.is_finished_apart size own s.words.progress (follower k.checks) (old_laws.past p) k.finished, is)) k.checks
    comes Ending.Lead is at k = arrives (inl (record {
      leads = numbers.next_leads size s.words.progress old_laws.sound.unfinished k.last;
      within = rw (numbers.its_generations size s.words.progress old_laws.sound.unfinished) k.below;
      ready = is;
      arrivals = counted_so (progress (s.words.progress.generation + 1) 0) k.counted ∙ numbers.completed size s.words.progress old_laws.sound.unfinished k.last;
    })) k.arrives
    comes Ending.RefuseGenerations is at k = arrives (inr (inl (record {
      leads = numbers.next_leads size s.words.progress old_laws.sound.unfinished k.last;
      limit = numbers.its_generations size s.words.progress old_laws.sound.unfinished ∙ omega (arith, k.limit, old_laws.sound.within);
      refused = is;
      arrivals = same_so k.same;
    }))) k.arrives
    comes (Ending.RefuseMemory c) is at k = absurd k

    pub takes_seen : Came p b s a (position_at y.positions p) y → Takes old p (wait_for b number) a new
    takes_seen k = record { comes_to = comes k.to k.answer k.place k.comes; released = k.free; told = k.woken }

  -- ---- it gave way

  all_outside : (ss : List Stage) → ((q : ℕ) → is_outside_stage (stage_at ss q) ≡ true) → list_all is_outside_stage ss ≡ true
  all_outside [] h = refl
  all_outside (x ∷ xs) h = rw (h zero) (all_outside xs (λ q. h (suc q)))

  rests_seen : ((q : ℕ) → q ≢ p → stage_at u.stages q ≡ stage_at t.stages q) → is_outside_stage (stage_at u.stages p) ≡ true → is_at_rest old ≡ true → is_at_rest new ≡ true
  rests_seen others outside resting =
      let before : list_all is_outside_stage t.stages ≡ true = sym (rest_seen (verdict_in s) t.stages) ∙ resting in
      let each : (q : ℕ) → is_outside_stage (stage_at u.stages q) ≡ true = λ q. elim (ℕ_discrete q p) as (λ _. is_outside_stage (stage_at u.stages q) ≡ true) [
        | yes e ↦ ap (λ k. is_outside_stage (stage_at u.stages k)) e ∙ outside
        | no apart ↦ ap is_outside_stage (others q apart) ∙ outside_at t.stages before q
      ] in
      rest_seen (verdict_in y) u.stages ∙ all_outside u.stages each

  module _ (others : (q : ℕ) → q ≢ p → stage_at u.stages q ≡ stage_at t.stages q) (outside : is_outside_stage (stage_at u.stages p) ≡ true) (here : position_at s.positions p ≡ Locking b) where
    gives_by : (memory : Bool) (e : LockEnd) → (k : GaveUp p b s memory a (position_at y.positions p) y) → k.to ≡ e → 0 < entries_of p s.lock.entries → a ≢ refused Refusal.Starved → StandsBack p s.lock e y.lock → GivesWay old p a new
    gives_by memory LockEnd.Pending k is there below back =
        let at : position_at y.positions p ≡ Locking b = k.place ∙ ap (λ e. position_after (after_lock b (Found.Lock (Step.End e)))) is in
        record {
          free = none_held 0 y.lock.courses k.gave.free;
          pending = k.answer ∙ ap (λ e. answer_by (after_lock b (Found.Lock (Step.End e)))) is;
          gave_way = gave_way p s.lock y.lock (let P : LockEnd → Type 0 = λ e. GaveWay p s.lock e y.lock in subst P is k.gave) there;
          arrivals = same_so k.same;
          wait = wait_so (Locking b) _ _ at k.same ∙ sym (wait_seen t p ∙ ap (λ x. wait_at x number) here);
          rests = rests_seen others outside;
        }
    gives_by memory (LockEnd.Refused Refusal.Starved) k is there below back = absurd (below (k.answer ∙ ap (λ e. answer_by (after_lock b (Found.Lock (Step.End e)))) is))
    gives_by memory _ k is there below back = absurd back

    pub gives_seen : (memory : Bool) → GaveUp p b s memory a (position_at y.positions p) y → 0 < entries_of p s.lock.entries → a ≢ refused Refusal.Starved → GivesWay old p a new
    gives_seen memory k there below = gives_by memory k.to k refl there below k.gave.stands_back

    -- who is refused met the limit of the starved, and is none of them
    refused_by : (memory : Bool) (e : LockEnd) → (k : GaveUp p b s memory a (position_at y.positions p) y) → k.to ≡ e → a ≡ refused Refusal.Starved → StandsBack p s.lock e y.lock → starved s.lock ≡ s.lock.limit
    refused_by memory LockEnd.Pending k is refused back = absurd (let pends : a ≡ Answer.Pending = k.answer ∙ ap (λ e. answer_by (after_lock b (Found.Lock (Step.End e)))) is in cc (pends, refused))
    refused_by memory (LockEnd.Refused Refusal.Starved) k is refused back = back.2
    refused_by memory _ k is refused back = absurd back

    pub refused_seen : (memory : Bool) → GaveUp p b s memory a (position_at y.positions p) y → a ≡ refused Refusal.Starved → (how_many old.lock.starved ≡ old.starved_limit) × (is_starved old.lock p ≡ false)
    refused_seen memory k refused = (sees.how_many_counted s.lock.courses ∙ refused_by memory k.to k refl refused k.gave.stands_back, sees.starved_at s.lock.courses p ∙ ap is_counted k.gave.unstarved_here)
