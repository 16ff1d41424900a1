-- Solo polls in turn: each that passes the free lock of the list over gives way.
use Rattle.world_pool.proofs.Prelude.{◌≡◌, ℕ, ◌<◌, ◌⊎◌, inl, inr, true, refl, ap, sym, ◌∙◌, length, Answer, Call, Inputs, lock_course, is_on, World, IsAwake, known_of}
use Rattle.world_base.specs.Bounds.{GaveWay}
use Rattle.world_base.proofs.Bounds.{one_takes}
use Rattle.world_mutex.specs.machine.Course.{bit}
use Rattle.world_mutex.specs.machine.Mutex.{holders, starved_of, IsStarved}
use Rattle.world_mutex.proofs.of_machine.callers.Holders as sees
use Rattle.world_pool.specs.Bound.{TakesLock, GivesWay, PassesOver, IsBounded}
use Rattle.world_pool.proofs.whole.Promises.{keeps_promise}

abbrev IsFree : World → Type 0
IsFree w = holders w.lock ≡ 0

passed : (w : World) (p : ℕ) (a : Answer) (v : World) → (TakesLock a → ⊥) → TakesLock a ⊎ GivesWay w p a v → IsFree v × GaveWay p (starved_of w.lock) w.lock.entries (starved_of v.lock) v.lock.entries
passed w p a v not_taken (inl takes) = absurd (not_taken takes)
passed w p a v not_taken (inr gives) = (gives.free, gives.gave_way)

gives : (w : World) (p : ℕ) (inputs : Inputs) (a : Answer) (v : World) → IsFree w → PassesOver w p inputs a v → IsFree v × GaveWay p (starved_of w.lock) w.lock.entries (starved_of v.lock) v.lock.entries
gives w p inputs a v free over = passed w p a v over.not_taken (((keeps_promise (known_of w) w p Call.Poll inputs over.whole.more a v over.whole.runs over.whole.ended).solo refl over.solo free).takes_or_gives_way over.unrefused)

pub bounded : (w : World) → IsAwake w → 0 < length w.lock.entries → IsBounded w
bounded w awake wanted =
    let counted : (q : ℕ) → is_on (starved_of w.lock) q ≡ true → IsStarved w.lock q = λ q e. sym (sees.counted_bit (lock_course w.lock.courses q)) ∙ ap bit (sym (sees.starved_at w.lock.courses q) ∙ e) in
    record {
      some_called = awake.called_there wanted;
      one_takes = one_takes PassesOver (λ v. starved_of v.lock) (λ v. v.lock.entries) IsFree gives w awake.free wanted (λ q e. awake.starved q (counted q e));
    }
