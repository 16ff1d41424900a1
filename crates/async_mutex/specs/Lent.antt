-- A guard, after a write through what it lent.
use Rattle.async_mutex.specs.Guards.{Guarded}

abbrev pub held_with : {T R : Type 0} → Guarded T R → T → Guarded T R
held_with guard w = record guard { value = w }
