-- Each action can be done where the program does it.
use Rattle.world_mutex.proofs.Prelude.{◌≡◌, ℕ, ◌<◌, ◌≤◌, Bool, true, false, List, length, get_or, arith, refl, sum_by, get_or-le-sum_by, Queue, entries_of, Place, Out, Holding, Enter, Try, Clear, CancelUncount, CancelLeave, Join, Look, Ask, Retry, PassOn, Count, JoinStarved, LookAlone, PassOnListed, AskStarved, Seize, Uncount, Leave, RefuseUncount, RefuseLeave, RefuseNotifyMemory, RefuseNotifyStarved, ReleaseNotify, Word, action_of, bit, holds, counted, listed, CanDo, IsLock, place_at, SameRoles}

bit_true : (b : Bool) → 0 < bit b → b ≡ true
bit_true true h = refl
bit_true false h = absurd (omega arith)

-- nobody stands in a list twice
pub once : (x : Place) → listed x ≤ 1
once Out = omega arith
once Holding = omega arith
once Enter = omega arith
once Try = omega arith
once Clear = omega arith
once CancelUncount = omega arith
once CancelLeave = omega arith
once (Join told) = omega arith
once (Look told) = omega arith
once Ask = omega arith
once Retry = omega arith
once PassOn = omega arith
once (Count true told) = omega arith
once (Count false told) = omega arith
once JoinStarved = omega arith
once LookAlone = omega arith
once PassOnListed = omega arith
once AskStarved = omega arith
once Seize = omega arith
once (Uncount true) = omega arith
once (Uncount false) = omega arith
once Leave = omega arith
once RefuseUncount = omega arith
once (RefuseLeave told) = omega arith
once RefuseNotifyMemory = omega arith
once RefuseNotifyStarved = omega arith
once ReleaseNotify = omega arith

module _ (p : ℕ) (w : Word) (places : List Place) (list : Queue) (lock : IsLock w places list) (known : p < length places) where
  module _ (from : Place) (same : SameRoles from (place_at places p)) where
    starving_one : counted from ≡ 1 → 0 < w.starved
    starving_one e =
        let one : counted (get_or places p Out) ≤ sum_by counted places = get_or-le-sum_by counted places p Out known in
        omega (arith, lock.sound.starved, same.starving)

    held_true : holds from ≡ 1 → w.held ≡ true
    held_true e =
        let one : holds (get_or places p Out) ≤ sum_by holds places = get_or-le-sum_by holds places p Out known in
        bit_true w.held (omega (arith, lock.sound.held, same.holding))

    room_for_one : listed from ≡ 0 → (p < list.parties) × (entries_of p list.entries ≡ 0)
    room_for_one e = (rw lock.as_many known, omega (arith, lock.owners p, same.standing))

    seated : listed from ≡ 1 → (p < list.parties) × (0 < entries_of p list.entries)
    seated e = (rw lock.as_many known, omega (arith, lock.owners p, same.standing))

  pub can_do : (from : Place) → SameRoles from (place_at places p) → CanDo p (action_of from) w list
  can_do Out same = tt
  can_do Holding same = tt
  can_do Enter same = tt
  can_do Try same = tt
  can_do Clear same = held_true Clear same refl
  can_do CancelUncount same = starving_one CancelUncount same refl
  can_do CancelLeave same = seated CancelLeave same refl
  can_do (Join told) same = room_for_one (Join told) same refl
  can_do (Look told) same = tt
  can_do Ask same = seated Ask same refl
  can_do Retry same = tt
  can_do PassOn same = tt
  can_do (Count stands told) same = lock.sound.limited
  can_do JoinStarved same = room_for_one JoinStarved same refl
  can_do LookAlone same = tt
  can_do PassOnListed same = tt
  can_do AskStarved same = seated AskStarved same refl
  can_do Seize same = tt
  can_do (Uncount stands) same = starving_one (Uncount stands) same refl
  can_do Leave same = seated Leave same refl
  can_do RefuseUncount same = starving_one RefuseUncount same refl
  can_do (RefuseLeave told) same = seated (RefuseLeave told) same refl
  can_do RefuseNotifyMemory same = tt
  can_do RefuseNotifyStarved same = tt
  can_do ReleaseNotify same = tt
