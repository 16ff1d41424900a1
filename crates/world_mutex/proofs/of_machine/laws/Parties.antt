-- One party goes from one place to another.
use Rattle.world_mutex.proofs.Prelude.{ℕ, ◌+◌, ◌<◌, ◌≤◌, List, [], ◌∷◌, length, get_or, arith, true, false, get_or-set_same, length-set, set, sum_by, sum_by-set, sum_by-le-sum_by, get_or-le-sum_by, sum_by-cons, Place, Out, Holding, Enter, Try, Clear, CancelUncount, CancelLeave, Join, Look, Ask, Retry, PassOn, Count, JoinStarved, LookAlone, PassOnListed, AskStarved, Seize, Uncount, Leave, RefuseUncount, RefuseLeave, RefuseNotifyMemory, RefuseNotifyStarved, ReleaseNotify, holds, counted, listed, waits, owes, counts_of, place_at, SameRoles}
use Rattle.world_mutex.proofs.of_machine.laws.Steps.{IsCounted, Moves}

module _ (ps : List Place) (p : ℕ) (from to : Place) where
  pub moves : p < length ps → SameRoles from (place_at ps p) → Moves from to (counts_of ps) (counts_of (set ps p to))
  moves known same =
      let there : p < length (set ps p to) = rw length-set known in
      let itself : (f : Place → ℕ) → f to ≤ sum_by f (set ps p to) =
      λ f. let here : f (get_or (set ps p to) p Out) ≤ sum_by f (set ps p to) = get_or-le-sum_by f (set ps p to) p Out there in
      rw (get_or-set_same ps p to Out known) at here in
      record {
        holding = omega (arith, sum_by-set holds ps p to Out known);
        starving = omega (arith, sum_by-set counted ps p to Out known);
        listed = omega (arith, sum_by-set listed ps p to Out known);
        waiting = omega (arith, sum_by-set waits ps p to Out known);
        owing = omega (arith, sum_by-set owes ps p to Out known);
        owes_itself = itself owes;
        holds_itself = itself holds;
      }

-- a starved party holds the lock, waits or owes
cares : (x : Place) → counted x ≤ owes x + waits x + holds x
cares Out = omega arith
cares Holding = omega arith
cares Enter = omega arith
cares Try = omega arith
cares Clear = omega arith
cares CancelUncount = omega arith
cares CancelLeave = omega arith
cares (Join told) = omega arith
cares (Look told) = omega arith
cares Ask = omega arith
cares Retry = omega arith
cares PassOn = omega arith
cares (Count true told) = omega arith
cares (Count false told) = omega arith
cares JoinStarved = omega arith
cares LookAlone = omega arith
cares PassOnListed = omega arith
cares AskStarved = omega arith
cares Seize = omega arith
cares (Uncount b) = omega arith
cares Leave = omega arith
cares RefuseUncount = omega arith
cares (RefuseLeave told) = omega arith
cares RefuseNotifyMemory = omega arith
cares RefuseNotifyStarved = omega arith
cares ReleaseNotify = omega arith

-- a party that waits stands in the list
stands : (x : Place) → waits x ≤ listed x
stands Out = omega arith
stands Holding = omega arith
stands Enter = omega arith
stands Try = omega arith
stands Clear = omega arith
stands CancelUncount = omega arith
stands CancelLeave = omega arith
stands (Join told) = omega arith
stands (Look told) = omega arith
stands Ask = omega arith
stands Retry = omega arith
stands PassOn = omega arith
stands (Count true told) = omega arith
stands (Count false told) = omega arith
stands JoinStarved = omega arith
stands LookAlone = omega arith
stands PassOnListed = omega arith
stands AskStarved = omega arith
stands Seize = omega arith
stands (Uncount b) = omega arith
stands Leave = omega arith
stands RefuseUncount = omega arith
stands (RefuseLeave told) = omega arith
stands RefuseNotifyMemory = omega arith
stands RefuseNotifyStarved = omega arith
stands ReleaseNotify = omega arith

sums : (ps : List Place) → sum_by counted ps ≤ sum_by owes ps + sum_by waits ps + sum_by holds ps
sums [] = omega arith
sums (x ∷ xs) =
    omega (arith, sum_by-cons counted x xs, sum_by-cons owes x xs, sum_by-cons waits x xs, sum_by-cons holds x xs, cares x, sums xs)

pub counted_all : (ps : List Place) → IsCounted (counts_of ps)
counted_all ps = record { starving_cared = sums ps; waiting_listed = sum_by-le-sum_by waits listed ps stands }
