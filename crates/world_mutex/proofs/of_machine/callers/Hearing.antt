-- Who has heard a notification and hasn't used it, and what a step leaves before a starved party, as those count it who build on a mutex.
use Rattle.world_mutex.proofs.Prelude.{◌≡◌, ◌≢◌, ℕ, zero, suc, ◌+◌, ◌-◌, ◌<◌, ◌≤◌, ◌⊎◌, inl, inr, true, List, [], ◌∷◌, length, get_or, Some, refl, ap, arith, sum_by, sum_by-cons, entries_of, LockCall, Step, Course, out, holding, waiting, Mutex, course_at}
use Rattle.world_base.specs.Overtaking.{before}
use Rattle.world_base.proofs.Draining.{moved_sum}
use Rattle.world_mutex.specs.machine.Conduct.{ServesInTurn}
use Rattle.world_mutex.specs.machine.Course.{heard, holds, is_resting}
use Rattle.world_mutex.specs.machine.Mutex.{IsStarved, IsMutex, holder_of}
use Rattle.world_mutex.specs.machine.Steps.{LockBegins, LockGoesOn}
use Rattle.world_mutex.proofs.of_machine.callers.Holders as sees

-- ---- a step

-- what is known of it here
pub record Moves (p : ℕ) (m n : Mutex) : Type 0 where
  pub in_turn : ServesInTurn p m n
  pub parties : length n.courses ≡ length m.courses
  pub others : (q : ℕ) → q ≢ p → course_at n.courses q ≡ course_at m.courses q

pub begins : (memory starving : _) (p : ℕ) (c : LockCall) (s : Step) (m n : Mutex) → LockBegins memory starving p c s m n → Moves p m n
begins memory starving p c s m n k = record { in_turn = k.in_turn; parties = k.legal.parties; others = k.legal.others }

pub goes_on : (memory starving : _) (p : ℕ) (s : Step) (m n : Mutex) → LockGoesOn memory starving p s m n → Moves p m n
goes_on memory starving p s m n k = record { in_turn = k.in_turn; parties = k.legal.parties; others = k.legal.others }

-- how many have heard a notification and haven't used it
abbrev pub hearing : Mutex → ℕ
hearing m = sum_by heard m.courses

-- no more such and entries are left before a starved party, and fewer where the party that moved has come to hold the lock
pub moved : (q p : ℕ) (m n : Mutex) → p ≢ q → IsStarved m q → 0 < entries_of q m.entries → (n ≡ m) ⊎ Moves p m n → hearing n + before q n.entries + (holds (course_at n.courses p) - holds (course_at m.courses p)) ≤ hearing m + before q m.entries
moved q p m n apart starving some (inl same) = omega (arith, ap hearing same, ap (λ x. before q x.entries) same, ap (λ x. holds (course_at x.courses p)) same)
moved q p m n apart starving some (inr k) =
    let turn = k.in_turn q apart starving some in
    let sum : sum_by heard n.courses + heard (course_at m.courses p) ≡ sum_by heard m.courses + heard (course_at n.courses p) = moved_sum heard out m.courses n.courses p k.parties k.others in
    omega (arith, turn, sum)

-- ---- parties

pub rests_unheard : (x : Course) → is_resting x ≡ true → heard x ≡ 0
rests_unheard out h = refl
rests_unheard holding h = refl
rests_unheard (waiting starved) h = refl
rests_unheard _ h = absurd (cc h)

pub heard_once : (x : Course) → heard x ≤ 1
heard_once x = grind arith

holds_once : (x : Course) → holds x ≤ 1
holds_once x = grind arith

-- who isn't the holder doesn't hold the lock
pub holds_not : (m : Mutex) (p : ℕ) → IsMutex m → (holder_of m ≡ Some p → ⊥) → holds (course_at m.courses p) ≡ 0
holds_not m p laws before_not = by_holds (holds (course_at m.courses p)) refl where
  by_holds : (n : ℕ) → holds (course_at m.courses p) ≡ n → holds (course_at m.courses p) ≡ 0
  by_holds zero is = is
  by_holds (suc zero) is = absurd (before_not (sees.holds_it m.courses p laws.one_holder is))
  by_holds (suc (suc n)) is = absurd (omega (arith, is, holds_once (course_at m.courses p)))
