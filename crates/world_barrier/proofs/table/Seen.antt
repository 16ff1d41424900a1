-- What callers see of a machine, party by party.
use Rattle.world_barrier.proofs.Prelude.{◌≡◌, ℕ, zero, suc, true, false, List, [], ◌∷◌, map, get_or, Some, refl, same_test, stage_at, stands_as, Table, standings_at, Course, is_releasing, course_at, Position, Progress, no_wait, wait_at, verdict, arrivals_at, Barrier, position_at, arrival_at, standing_of, wait_of, is_held_by, has_to_tell, waits_of, verdict_in, view_of}

wait_in : (size : ℕ) (xs : List Position) (rs : List Progress) (q : ℕ) → get_or (waits_of size xs rs) q no_wait ≡ wait_at (position_at xs q) (arrivals_at size (arrival_at rs q))
wait_in size [] rs q = refl
wait_in size (x ∷ xs) [] zero = refl
wait_in size (x ∷ xs) [] (suc q) = wait_in size xs [] q
wait_in size (x ∷ xs) (a ∷ rs) zero = refl
wait_in size (x ∷ xs) (a ∷ rs) (suc q) = wait_in size xs rs q

telling_in : (cs : List Course) (q : ℕ) → get_or (map is_releasing cs) q false ≡ is_releasing (course_at cs q)
telling_in [] q = refl
telling_in (c ∷ cs) zero = refl
telling_in (c ∷ cs) (suc q) = telling_in cs q

module _ (t : Table Barrier) where
  pub telling_seen : (q : ℕ) → has_to_tell (view_of t) q ≡ is_releasing (course_at t.machine.lock.courses q)
  telling_seen q = telling_in t.machine.lock.courses q

  pub wait_seen : (q : ℕ) → wait_of (view_of t) q ≡ wait_at (position_at t.machine.positions q) (arrivals_at t.machine.words.size (arrival_at t.machine.arrivals q))
  wait_seen q = wait_in t.machine.words.size t.machine.positions t.machine.arrivals q

  pub standing_seen : (q : ℕ) → standing_of (view_of t) q ≡ stands_as (verdict (position_at t.machine.positions q) (course_at t.machine.lock.courses q)) (stage_at t.stages q)
  standing_seen q = standings_at (verdict_in t.machine) t.stages q

pub its_holder : (q : ℕ) → is_held_by (Some q) q ≡ true
its_holder q = same_test q q refl
