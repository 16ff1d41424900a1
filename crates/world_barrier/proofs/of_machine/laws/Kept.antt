-- An action of one party keeps what always holds of a barrier.
use Rattle.world_barrier.proofs.Prelude.{◌≡◌, ◌≢◌, ℕ, ◌+◌, ◌<◌, ◌≤◌, ◌*◌, inl, inr, true, List, length, get_or, Some, refl, arith, ap, sym, subst, ◌∙◌, length-set, get_or-set_same, get_or-set_other, set, ℕ_discrete, sum_by, entries_of, Queue, queue, Inputs, Rest, Stage, Within, some_eq, stage_after, Keeps, Course, is_holding, Mutex, course_at, IsMutex, holder_from, holding_holds, held_at, Ending, Found, Place, Arrive, Complete, ReleaseLock, ReleasingLock, Position, Out, At, Progress, Words, progress, IsPast, IsWithin, IsFollower, action_of, next_of, Finds, CanDo, arrival_after, entries_after, OnLock, InLock, holds_there as holds, fits_lock, listed, in_lock, follows, Sure, HasOutcome, Barrier, IsKept, HasArrived, AreApart, goes_with, answer_by, position_at, arrival_at}
use Rattle.std.proofs.lemmas.List.Sums.{sum_by-set, sum_by-le}
use Rattle.world_barrier.specs.machine.Machine.{Stands}
use Rattle.world_barrier.proofs.of_machine.stages.Starts.{Fits}
use Rattle.world_barrier.proofs.of_machine.stages.Links.{Led, led, links, lands, lock_others, lock_length, lock_stays}
use Rattle.world_barrier.proofs.of_machine.laws.CanDo.{can_do, linked, is_sure, entries_are}
use Rattle.world_barrier.proofs.of_machine.laws.Rows.{then, after, sound_then, past_then, own_past, ahead, within_then, follower_then, sure_then, sure_others, outcome_then, outcome_others}
use Rattle.world_barrier.proofs.of_machine.laws.Listed.{others_listed, own_listed, listed_then}
use Rattle.world_barrier.proofs.of_machine.laws.Told.{all_told}

-- two parties never have the inner lock
one_holds : (m : Mutex) → IsMutex m → (p j : ℕ) → j ≢ p → is_holding (course_at m.courses p) ≡ true → is_holding (course_at m.courses j) ≡ true → ⊥
one_holds m k p j apart hp hj =
    let a : holder_from 0 m.courses ≡ Some (0 + p) = held_at 0 m.courses p (holding_holds (course_at m.courses p) hp) k.one_holder in
    let b : holder_from 0 m.courses ≡ Some (0 + j) = held_at 0 m.courses j (holding_holds (course_at m.courses j) hj) k.one_holder in
    let e : 0 + j ≡ 0 + p = some_eq (sym b ∙ a) in
    apart (omega arith)

-- whoever stands so has the inner lock
has_lock : (y : Position) (c : Course) → fits_lock (in_lock y) c ≡ true → in_lock y ≡ holds → is_holding c ≡ true
has_lock y c link h = let P : InLock → Type 0 = λ l. fits_lock l c ≡ true in subst P h link

-- no party is listed twice, so no list is longer than there are parties
at_most_once : (x : Position) → listed x ≤ 1
at_most_once (At (ReleaseLock Ending.Wait)) = omega arith
at_most_once (At (ReleaseLock Ending.Follow)) = omega arith
at_most_once (At (ReleaseLock Ending.Lead)) = omega arith
at_most_once (At (ReleaseLock Ending.RefuseGenerations)) = omega arith
at_most_once (At (ReleaseLock (Ending.RefuseMemory a))) = omega arith
at_most_once (At (ReleasingLock Ending.Wait)) = omega arith
at_most_once (At (ReleasingLock Ending.Follow)) = omega arith
at_most_once (At (ReleasingLock Ending.Lead)) = omega arith
at_most_once (At (ReleasingLock Ending.RefuseGenerations)) = omega arith
at_most_once (At (ReleasingLock (Ending.RefuseMemory a))) = omega arith
at_most_once (At _) = omega arith
at_most_once _ = omega arith

fits_all : (xs : List Position) (n : ℕ) → sum_by listed xs ≡ n → length xs ≤ 4294967295 → n ≤ 4294967295
fits_all xs n e few =
    let sum : sum_by listed xs ≤ length xs * 1 = sum_by-le listed 1 xs (λ k d h. at_most_once (get_or xs k d)) in
    omega arith

same_size : (x : Place) (w : Words) → (then x w).size ≡ w.size
same_size Arrive w = refl
same_size Complete w = refl
same_size _ w = refl

-- a new arrival is nobody else's
module _ (x : Place) (w : Words) (rs : List Progress) (p : ℕ) (past : (j : ℕ) → IsPast (arrival_at rs j) w.progress) (apart : AreApart rs) (known : p < length rs) where
  abbrev news : Progress
  news = arrival_after (action_of x) w (arrival_at rs p)

  same_party : (k : ℕ) → HasArrived news → news ≡ arrival_at rs k → p ≡ k
  same_party k some e = elim (ahead x (arrival_at rs p) (arrival_at rs k) w (past k)) as (λ _. p ≡ k) [
    | inl same ↦ apart p k (subst HasArrived same some) (sym same ∙ e)
    | inr never ↦ absurd (never (sym e))
  ]

  pub apart_then : AreApart (set rs p news)
  apart_then j k some e = elim (ℕ_discrete j p) as (λ _. j ≡ k) [
    | yes jp ↦ elim (ℕ_discrete k p) as (λ _. j ≡ k) [
      | yes kp ↦ jp ∙ sym kp
      | no off ↦ (
          let mine : arrival_at (set rs p news) j ≡ news = ap (arrival_at (set rs p news)) jp ∙ get_or-set_same rs p news (progress 0 0) known in
          jp ∙ same_party k (subst HasArrived mine some) (sym mine ∙ (e ∙ get_or-set_other rs p k news (progress 0 0) off))
          )
    ]
    | no away ↦ elim (ℕ_discrete k p) as (λ _. j ≡ k) [
      | yes kp ↦ (
          let mine : arrival_at (set rs p news) k ≡ news = ap (arrival_at (set rs p news)) kp ∙ get_or-set_same rs p news (progress 0 0) known in
          let has : HasArrived news = subst HasArrived (e ∙ mine) some in
          sym (kp ∙ same_party j has (sym mine ∙ (sym e ∙ get_or-set_other rs p j news (progress 0 0) away)))
          )
      | no off ↦ (
          let here : arrival_at (set rs p news) j ≡ arrival_at rs j = get_or-set_other rs p j news (progress 0 0) away in
          apart j k (subst HasArrived here some) (sym here ∙ (e ∙ get_or-set_other rs p k news (progress 0 0) off))
          )
    ]
  ]

module _ (i : Inputs) (p : ℕ) (w : Words) (xs : List Position) (rs : List Progress) (q : Queue) (m n : Mutex) (v : Within) (x : Place) (f : Found) where
  abbrev to : Position
  to = after x f

  abbrev mine : Progress
  mine = arrival_at rs p

  abbrev arrival : Progress
  arrival = arrival_after (action_of x) w mine

  pub kept : IsKept w xs rs q m → IsMutex m → p < length xs → Fits v (position_at xs p) x → Finds i p (action_of x) f w mine q.entries → OnLock i p (action_of x) f m n
      → IsKept (then x w) (set xs p to) (set rs p arrival) (queue q.parties (entries_after p (action_of x) f q.entries)) n
  kept k mutex known fit finds lock =
      let can : CanDo p (action_of x) w q m = can_do p w xs rs q m k known v x fit in
      let link : fits_lock (in_lock (At x)) (course_at m.courses p) ≡ true = linked p w xs rs q m k known v x fit in
      let sure : Sure (At x) mine w = is_sure p w xs rs q m k known v x fit in
      let was : entries_of p q.entries ≡ listed (At x) = entries_are p w xs rs q m k known v x fit in
      let now : entries_of p (entries_after p (action_of x) f q.entries) ≡ listed to = listed_then p q.entries i w mine x f finds was in
      let many : p < length rs = rw k.arrivals known in
      let own = own_listed p q.entries (action_of x) f w q.parties m can in
      let sums = sum_by-set listed xs p to Out known in
      let stood : listed (get_or xs p Out) ≡ listed (At x) = sym fit.stands in
      let leads : Led x f (course_at n.courses p) = led i p m n x f lock link in
      let landed : position_at (set xs p to) p ≡ to = get_or-set_same xs p to Out known in
      let arrived : arrival_at (set rs p arrival) p ≡ arrival = get_or-set_same rs p arrival (progress 0 0) many in
      record {
        sound = sound_then x mine w sure k.sound;
        links = λ j. elim (ℕ_discrete j p) as (λ _. fits_lock (in_lock (position_at (set xs p to) j)) (course_at n.courses j) ≡ true) [
          | yes e ↦ (let P : ℕ → Type 0 = λ k. fits_lock (in_lock (position_at (set xs p to) k)) (course_at n.courses k) ≡ true in
              subst P (sym e) (rw landed (links x f (course_at m.courses p) (course_at n.courses p) leads (lock_stays i p m n x f lock) link)))
          | no apart ↦ rw (get_or-set_other xs p j to Out apart, lock_others i p m n (action_of x) f lock j apart) (k.links j)
        ];
        owners = λ j. elim (ℕ_discrete j p) as (λ _. entries_of j (entries_after p (action_of x) f q.entries) ≡ listed (position_at (set xs p to) j)) [
          | yes e ↦ (let P : ℕ → Type 0 = λ k. entries_of k (entries_after p (action_of x) f q.entries) ≡ listed (position_at (set xs p to) k) in
              subst P (sym e) (rw landed now))
          | no apart ↦ rw (get_or-set_other xs p j to Out apart) (others_listed p q.entries (action_of x) f j apart ∙ k.owners j)
        ];
        in_list = omega (arith, own, sums, stood, was, now, k.in_list);
        past = λ j. elim (ℕ_discrete j p) as (λ _. IsPast (arrival_at (set rs p arrival) j) (then x w).progress) [
          | yes e ↦ (let P : ℕ → Type 0 = λ k. IsPast (arrival_at (set rs p arrival) k) (then x w).progress in
              subst P (sym e) (rw arrived (own_past x mine w (k.past p))))
          | no apart ↦ rw (get_or-set_other rs p j arrival (progress 0 0) apart) (past_then x (arrival_at rs j) w (k.past j))
        ];
        apart = apart_then x w rs p k.past k.apart many;
        within = λ j. elim (ℕ_discrete j p) as (λ _. IsWithin (then x w).size (arrival_at (set rs p arrival) j)) [
          | yes e ↦ (let P : ℕ → Type 0 = λ k. IsWithin (then x w).size (arrival_at (set rs p arrival) k) in
              subst P (sym e) (rw arrived (within_then x mine w sure (k.within p))))
          | no apart ↦ rw (get_or-set_other rs p j arrival (progress 0 0) apart) (rw (same_size x w) (k.within j))
        ];
        followers = λ j. elim (ℕ_discrete j p) as (λ _. follows (position_at (set xs p to) j) ≡ true → IsFollower (then x w).size (arrival_at (set rs p arrival) j)) [
          | yes e ↦ (let P : ℕ → Type 0 = λ k. follows (position_at (set xs p to) k) ≡ true → IsFollower (then x w).size (arrival_at (set rs p arrival) k) in
              subst P (sym e) (rw (landed, arrived) (follower_then x f mine w sure (λ h. k.followers p (fit.counted h)))))
          | no apart ↦ rw (get_or-set_other xs p j to Out apart, get_or-set_other rs p j arrival (progress 0 0) apart) (rw (same_size x w) (k.followers j))
        ];
        sure = λ j. elim (ℕ_discrete j p) as (λ _. Sure (position_at (set xs p to) j) (arrival_at (set rs p arrival) j) (then x w)) [
          | yes e ↦ (let P : ℕ → Type 0 = λ k. Sure (position_at (set xs p to) k) (arrival_at (set rs p arrival) k) (then x w) in
              subst P (sym e) (rw (landed, arrived) (sure_then i p mine w q.entries x f finds sure)))
          | no apart ↦ rw (get_or-set_other xs p j to Out apart, get_or-set_other rs p j arrival (progress 0 0) apart)
              (sure_others x (position_at xs j) (arrival_at rs j) w (λ hp hj. one_holds m mutex p j apart (has_lock (At x) (course_at m.courses p) link hp) (has_lock (position_at xs j) (course_at m.courses j) (k.links j) hj)) (k.sure j))
        ];
        outcomes = λ j. elim (ℕ_discrete j p) as (λ _. HasOutcome (position_at (set xs p to) j) (arrival_at (set rs p arrival) j) (then x w)) [
          | yes e ↦ (let P : ℕ → Type 0 = λ k. HasOutcome (position_at (set xs p to) k) (arrival_at (set rs p arrival) k) (then x w) in
              subst P (sym e) (rw (landed, arrived) (outcome_then i p mine w q.entries x f finds (k.past p) (λ h. k.followers p (fit.counted h)) (fit.outcome mine w (k.outcomes p)))))
          | no apart ↦ rw (get_or-set_other xs p j to Out apart, get_or-set_other rs p j arrival (progress 0 0) apart) (outcome_others x (position_at xs j) (arrival_at rs j) w (k.outcomes j))
        ];
        told = all_told i p w xs rs q.entries x f finds sure known many fit.late fit.tells k.told (fits_all xs (length q.entries) k.in_list k.few) now;
        arrivals = length-set rs p arrival ∙ (k.arrivals ∙ sym (length-set xs p to));
        courses = lock_length i p m n (action_of x) f lock ∙ (k.courses ∙ sym (length-set xs p to));
        parties = k.parties ∙ sym (length-set xs p to);
        few = rw (length-set xs p to) k.few;
      }

pub keeps : (i : Inputs) (s t : Barrier) (p : ℕ) (w : Within) (from : Place) (f : Found) (stage : Stage) → p < length s.positions → Fits w (position_at s.positions p) from → fits_lock (in_lock (position_at s.positions p)) (course_at s.lock.courses p) ≡ true
    → OnLock i p (action_of from) f s.lock t.lock → t.positions ≡ set s.positions p (after from f)
    → Keeps (λ (s : Barrier). length s.positions) Stands s p (stage_after Rest.Finished w (answer_by (next_of from f))) t
keeps i s t p w from f stage known fit link lock to = (
    let P : List Position → Type 0 = λ ps. goes_with (stage_after Rest.Finished w (answer_by (next_of from f))) (position_at ps p) ≡ true in
    let linked : fits_lock (in_lock (At from)) (course_at s.lock.courses p) ≡ true = ap (λ l. fits_lock l (course_at s.lock.courses p)) fit.lock ∙ link in
    let leads : Led from f (course_at t.lock.courses p) = led i p s.lock t.lock from f lock linked in
    let set_to : P (set s.positions p (after from f)) = rw (get_or-set_same s.positions p (after from f) Out known) (lands w from f (course_at t.lock.courses p) leads fit.runs) in
    record {
      as_many = ap length to ∙ length-set s.positions p (after from f);
      own = subst P (sym to) set_to;
      others = λ q z apart there. (
          let same : position_at t.positions q ≡ position_at s.positions q = ap (λ ps. position_at ps q) to ∙ get_or-set_other s.positions p q (after from f) Out apart in
          let Q : Position → Type 0 = λ b. goes_with z b ≡ true in
          subst Q (sym same) there
          );
    }
    )
