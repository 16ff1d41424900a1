-- How many steps are left of a call that is decided, as those know it who build on a mutex: a step of another leaves them as they are.
use Rattle.world_mutex.proofs.Prelude.{◌≡◌, ℕ, Some, ap, sym, ◌∙◌, End, Mutex, course_at}
use Rattle.world_mutex.specs.machine.Course.{decision, last_steps}
use Rattle.world_mutex.specs.machine.Mutex.{IsMutex, steps_left}

pub same_left : (m n : Mutex) (q : ℕ) → IsMutex m → IsMutex n → course_at n.courses q ≡ course_at m.courses q → (e : End) → decision (course_at m.courses q) ≡ Some e → steps_left n q ≡ steps_left m q
same_left m n q old new same e decided = (new.last_left q e (ap decision same ∙ decided)).0 ∙ (ap last_steps same ∙ sym (old.last_left q e decided).0)
