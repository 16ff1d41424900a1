-- A debt to a waiting list lives until somebody pays it, and at rest it is paid.
use Rattle.world_base.proofs.Prelude.{◌≡◌, ℕ, ◌+◌, ◌<◌, ◌≤◌, zero, suc, List, [], ◌∷◌, refl, arith, sum_by, sum_by-cons}
use Rattle.world_base.specs.queue.Debts.{IsOwed, Roles, AllRest}

module _ {P : Type 0} (r : Roles P) where
  pub all_rest : (ps : List P) → AllRest r ps → (sum_by r.owes ps ≡ 0) × (sum_by r.waits ps ≡ sum_by r.listed ps)
  all_rest [] h = (refl, refl)
  all_rest (x ∷ xs) h =
      let more = all_rest xs h.1 in
      (omega (arith, sum_by-cons r.owes x xs, h.0.0), omega (arith, sum_by-cons r.waits x xs, sum_by-cons r.listed x xs, h.0.1))

  -- at rest a free right that somebody listed waits for has a marked entry
  pub paid_at_rest : (free : Type 0) (ps : List P) (size marked : ℕ) → AllRest r ps → sum_by r.listed ps ≡ size → IsOwed free (sum_by r.waits ps) (sum_by r.owes ps) marked → free → 0 < size → 0 < marked
  paid_at_rest free ps size marked rest all owed is_free some =
      let sums = all_rest ps rest in
      let due : 0 < sum_by r.owes ps + marked = owed is_free (omega (arith, sums.1)) in
      omega (arith, sums.0)

-- an entry left: what somebody owes is still owed, and a mark goes on to the next
pub still_owed : (owing size m n : ℕ) → (0 < size → 0 < m → 0 < n) → 0 < size → 0 < owing + m → 0 < owing + n
still_owed owing size zero n goes some h = omega arith
still_owed owing size (suc m) n goes some h = let k : 0 < n = goes some (omega arith) in omega arith

-- one party goes from waiting x, owing u to waiting y, owing v; it stops owing, or begins to wait, only where it then owes itself
pub debt_kept : (free : Type 0) (x y u v waiting waiting' owing owing' marked marked' : ℕ)
    → (v ≡ 0 → (u ≡ 0) × (y ≤ x)) → waiting' + x ≡ waiting + y → owing' + u ≡ owing + v → v ≤ owing' → (0 < marked → 0 < marked')
    → IsOwed free waiting owing marked → IsOwed free waiting' owing' marked'
debt_kept free x y u zero waiting waiting' owing owing' zero marked' stays w o itself goes owed f some =
    let same = stays refl in
    let before : 0 < owing + 0 = owed f (omega (arith, same.1)) in
    omega (arith, same.0)
debt_kept free x y u zero waiting waiting' owing owing' (suc m) marked' stays w o itself goes owed f some = let c : 0 < marked' = goes (omega arith) in omega arith
debt_kept free x y u (suc v) waiting waiting' owing owing' marked marked' stays w o itself goes owed f some = omega arith
