-- What an action needs is there.
use Rattle.world_semaphore.proofs.Prelude.{◌≡◌, ℕ, ◌+◌, ◌<◌, ◌≤◌, List, length, get_or, refl, arith, sym, ◌∙◌, ap, sum_by, get_or-le-sum_by, entries_of, WeightedQueue, Place, Take, Retake, Join, Ask, Remove, Load, HandOn, PassOn, RefuseFit, Try, Lower, GiveBack, Raise, GiveAdded, FitAdded, CancelRemove, CancelLoad, FitGivenBack, Abandon, Position, Out, Words, action_of, Seat, seat_of, seated, permits_of, permits_at, under_way_at, CanDo, IsKept, position_at}

module _ (p : ℕ) (w : Words) (xs : List Position) (q : WeightedQueue) (kept : IsKept w xs q) (known : p < length xs) where
  module _ (x : Place) (same : seat_of x ≡ seated (position_at xs p)) where
    has_so : (k : ℕ) → permits_of (seat_of x).share ≡ k → w.available + k ≤ w.limit
    has_so k e =
        let one : permits_at (get_or xs p Out) ≤ sum_by permits_at xs = get_or-le-sum_by permits_at xs p Out known in
        let here : permits_at (get_or xs p Out) ≡ k = ap (λ (z : Seat). permits_of z.share) (sym same) ∙ e in
        let sound = kept.sound 1 (omega arith) in
        omega (arith, sound.balanced)

    has_way : (n : ℕ) → (seat_of x).share.under_way ≡ n → w.available + n ≤ w.limit
    has_way n e =
        let one : under_way_at (get_or xs p Out) ≤ sum_by under_way_at xs = get_or-le-sum_by under_way_at xs p Out known in
        let here : under_way_at (get_or xs p Out) ≡ n = ap (λ (z : Seat). z.share.under_way) (sym same) ∙ e in
        let sound = kept.sound 1 (omega arith) in
        omega (arith, sound.balanced)

    entries_are : (n : ℕ) → (seat_of x).listed ≡ n → entries_of p q.entries ≡ n
    entries_are n e = kept.owners p ∙ (ap (λ (z : Seat). z.listed) (sym same) ∙ e)

    inside : p < q.parties
    inside = rw kept.as_many known

    is_listed : (seat_of x).listed ≡ 1 → (p < q.parties) × (0 < entries_of p q.entries)
    is_listed e = let one = entries_are 1 e in (inside, omega arith)

  pub can_do : (x : Place) → seat_of x ≡ seated (position_at xs p) → CanDo p (action_of x) w q
  can_do (Join k told) same = (inside (Join k told) same, entries_are (Join k told) same 0 refl)
  can_do (Ask k told) same = is_listed (Ask k told) same refl
  can_do (Remove k more) same = is_listed (Remove k more) same refl
  can_do CancelRemove same = is_listed CancelRemove same refl
  can_do (GiveBack k) same = has_so (GiveBack k) same k refl
  can_do (Lower k) same = let so = has_so (Lower k) same k refl in omega arith
  can_do (Raise n) same = let sound = kept.sound 1 (omega arith) in sound.limited
  can_do (GiveAdded n) same = has_way (GiveAdded n) same n refl
  can_do (Take k listed told) same = tt
  can_do (Retake k) same = tt
  can_do (Load k) same = tt
  can_do (HandOn k a) same = tt
  can_do (PassOn k a) same = tt
  can_do (RefuseFit k a) same = tt
  can_do (Try k) same = tt
  can_do (FitAdded a) same = tt
  can_do CancelLoad same = tt
  can_do (FitGivenBack a) same = tt
  can_do Abandon same = tt
