-- Solo polls in turn: each that passes the free inner lock over gives way.
use Rattle.world_barrier.proofs.Prelude.{◌≡◌, ℕ, ◌⊎◌, inl, inr, None, refl, Answer, Call, Inputs, Lock, GivesWay, PassesOver, IsBounded, IsSound, IsAwake, IsWanted, known_of, World, wait_of}
use Rattle.world_base.specs.Bounds.{GaveWay}
use Rattle.world_base.proofs.Bounds.{one_takes}
use Rattle.world_base.proofs.of_table.Bounds.{first_marked}
use Rattle.world_barrier.specs.Bound.{Takes}
use Rattle.world_barrier.proofs.whole.Promises.{keeps_promise}

abbrev IsFree : World → Type 0
IsFree w = w.lock.holder ≡ None

passed : (w : World) (p : ℕ) (a : Answer) (v : World) → (Takes w p (wait_of w p) a v → ⊥) → Takes w p (wait_of w p) a v ⊎ GivesWay w p a v → IsFree v × GaveWay p w.lock.starved w.lock_list v.lock.starved v.lock_list
passed w p a v not_taken (inl takes) = absurd (not_taken takes)
passed w p a v not_taken (inr gives) = (gives.free, gives.gave_way)

gives : (w : World) (p : ℕ) (inputs : Inputs) (a : Answer) (v : World) → IsFree w → PassesOver w p inputs a v → IsFree v × GaveWay p w.lock.starved w.lock_list v.lock.starved v.lock_list
gives w p inputs a v free over = passed w p a v over.not_taken (((keeps_promise (known_of w) w p Call.Poll inputs over.whole.more a v over.whole.runs over.whole.ended).solo refl over.solo free).takes_or_gives_way over.unrefused)

pub bounded : (w : World) → IsSound w → IsAwake w → IsWanted w → IsBounded w
bounded w sound awake wanted =
    let found = first_marked w.lock_list (sound.in_order Lock) (awake.marked wanted) in
    record {
      some_marked = (found.0, found.1, awake.waiting Lock found.0 found.2);
      one_takes = one_takes PassesOver (λ v. v.lock.starved) (λ v. v.lock_list) IsFree gives w awake.free wanted awake.starved;
    }
