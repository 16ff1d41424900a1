-- Each action can be done where the program does it.
use Rattle.world_rwlock.proofs.Prelude.{◌≡◌, ℕ, ◌<◌, ◌≤◌, true, List, length, get_or, refl, ap, arith, ◌∙◌, sum_by, get_or-le-sum_by, entries_of, Queue, Mutex, turn_at, may_lock, may_try, may_poll, may_cancel, may_release, Word, Place, Out, JoinNoWriter, AskNoWriter, LeaveNoWriter, RefuseLeave, CancelRead, EnterTurn, WaitTurn, TakeTurn, TryTurn, CancelTurn, CancellingTurn, ReleaseTurn, ReleasingTurn, Upgrade, JoinNoReaders, AskNoReaders, LeaveNoReaders, DropRead, DropUpgradable, CancelAwait, Down, action_of, reads, writes, in_no_writer, in_no_readers, fits_turn, IsMachine, SameRoles, place_at}
use Rattle.world_rwlock.specs.program.Effects.{CanDo}

module _ (p : ℕ) (w : Word) (ps : List Place) (l m : Queue) (t : Mutex) (i : IsMachine w ps l m t) (known : p < length ps) where
  here : p < length t.courses
  here = rw i.as_many known

  in_w : p < l.parties
  in_w = rw i.as_many_w known

  in_r : p < m.parties
  in_r = rw i.as_many_r known

  module _ (x : Place) (same : SameRoles x (place_at ps p)) where
    turn : fits_turn x (turn_at t.courses p) ≡ true
    turn = ap (λ h. h (turn_at t.courses p)) same.in_turn ∙ i.in_turn p

    reader : reads x ≡ 1 → 0 < w.readers
    reader e = let one : reads (get_or ps p Out) ≤ sum_by reads ps = get_or-le-sum_by reads ps p Out known in omega (arith, i.sound.readers, same.reading)

    writer : writes x ≡ 1 → w.readers ≡ 0
    writer e = let one : writes (get_or ps p Out) ≤ sum_by writes ps = get_or-le-sum_by writes ps p Out known in i.sound.alone (omega (arith, same.writing))

    stands_w : in_no_writer x ≡ 1 → 0 < entries_of p l.entries
    stands_w e = omega (arith, i.no_writer p, same.standing_w)

    out_w : in_no_writer x ≡ 0 → entries_of p l.entries ≡ 0
    out_w e = omega (arith, i.no_writer p, same.standing_w)

    stands_r : in_no_readers x ≡ 1 → 0 < entries_of p m.entries
    stands_r e = omega (arith, i.no_readers p, same.standing_r)

    out_r : in_no_readers x ≡ 0 → entries_of p m.entries ≡ 0
    out_r e = omega (arith, i.no_readers p, same.standing_r)

  pub can_do : (x : Place) → SameRoles x (place_at ps p) → CanDo p (action_of x) w l m t
  can_do DropRead same = reader DropRead same refl
  can_do DropUpgradable same = reader DropUpgradable same refl
  can_do Upgrade same = reader Upgrade same refl
  can_do (Down keeps) same = writer (Down keeps) same refl
  can_do (JoinNoWriter told) same = (in_w, out_w (JoinNoWriter told) same refl)
  can_do AskNoWriter same = (in_w, stands_w AskNoWriter same refl)
  can_do LeaveNoWriter same = (in_w, stands_w LeaveNoWriter same refl)
  can_do (RefuseLeave told) same = (in_w, stands_w (RefuseLeave told) same refl)
  can_do CancelRead same = (in_w, stands_w CancelRead same refl)
  can_do (JoinNoReaders upgrade) same = (in_r, out_r (JoinNoReaders upgrade) same refl)
  can_do (AskNoReaders upgrade) same = (in_r, stands_r (AskNoReaders upgrade) same refl)
  can_do LeaveNoReaders same = (in_r, stands_r LeaveNoReaders same refl)
  can_do CancelAwait same = (in_r, stands_r CancelAwait same refl)
  can_do (EnterTurn q) same = (here, may_lock (turn_at t.courses p) (turn (EnterTurn q) same))
  can_do (WaitTurn q) same = (here, may_poll (turn_at t.courses p) (turn (WaitTurn q) same))
  can_do (TryTurn q) same = (here, may_try (turn_at t.courses p) (turn (TryTurn q) same))
  can_do CancelTurn same = (here, may_cancel (turn_at t.courses p) (turn CancelTurn same))
  can_do (ReleaseTurn e) same = (here, may_release (turn_at t.courses p) (turn (ReleaseTurn e) same))
  can_do (TakeTurn q) same = here
  can_do CancellingTurn same = here
  can_do (ReleasingTurn e) same = here
  can_do _ same = tt
