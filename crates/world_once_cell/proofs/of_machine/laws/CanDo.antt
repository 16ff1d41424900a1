-- What an action needs is there.
use Rattle.world_once_cell.proofs.Prelude.{◌≡◌, ℕ, ◌<◌, List, length, refl, arith, sym, ◌∙◌, ap, entries_of, Queue, Active, Passive, Place, JoinActive, AskActive, LeaveToMake, LeaveFull, JoinPassive, AskPassive, LeavePassive, CancelLeave, Position, Content, action_of, Seat, seat_of, seated, CanDo, IsKept, position_at}

module _ (p : ℕ) (c : Content) (xs : List Position) (q r : Queue) (kept : IsKept c xs q r) (known : p < length xs) where
  module _ (x : Place) (same : seat_of x ≡ seated (position_at xs p)) where
    active_are : (n : ℕ) → (seat_of x).active ≡ n → entries_of p q.entries ≡ n
    active_are n e = kept.active_owners p ∙ (ap (λ (z : Seat). z.active) (sym same) ∙ e)

    passive_are : (n : ℕ) → (seat_of x).passive ≡ n → entries_of p r.entries ≡ n
    passive_are n e = kept.passive_owners p ∙ (ap (λ (z : Seat). z.passive) (sym same) ∙ e)

    inside_active : p < q.parties
    inside_active = rw kept.active_parties known

    inside_passive : p < r.parties
    inside_passive = rw kept.passive_parties known

    is_active : (seat_of x).active ≡ 1 → (p < q.parties) × (0 < entries_of p q.entries)
    is_active e = let one = active_are 1 e in (inside_active, omega arith)

    is_passive : (seat_of x).passive ≡ 1 → (p < r.parties) × (0 < entries_of p r.entries)
    is_passive e = let one = passive_are 1 e in (inside_passive, omega arith)

  pub can_do : (x : Place) → seat_of x ≡ seated (position_at xs p) → CanDo p (action_of x) q r
  can_do (JoinActive k told) same = (inside_active (JoinActive k told) same, active_are (JoinActive k told) same 0 refl)
  can_do (AskActive k) same = is_active (AskActive k) same refl
  can_do (LeaveToMake k) same = is_active (LeaveToMake k) same refl
  can_do (LeaveFull k v) same = is_active (LeaveFull k v) same refl
  can_do (CancelLeave Active) same = is_active (CancelLeave Active) same refl
  can_do (JoinPassive told) same = (inside_passive (JoinPassive told) same, passive_are (JoinPassive told) same 0 refl)
  can_do AskPassive same = is_passive AskPassive same refl
  can_do (LeavePassive v) same = is_passive (LeavePassive v) same refl
  can_do (CancelLeave Passive) same = is_passive (CancelLeave Passive) same refl
  can_do _ same = tt
