-- A call begins with the roles that its party has.
use Rattle.world_mutex.proofs.Prelude.{◌≡◌, Some, refl, none_some, some_eq, Place, Out, Holding, Ask, AskStarved, LockCall, start_of, SameRoles}

pub start_same : (c : LockCall) (at from : Place) → start_of c at ≡ Some from → SameRoles from at
start_same LockCall.Lock Out from e = rw (← some_eq e) (record { holding = refl; starving = refl; standing = refl; waiting = refl; owing = refl; counting = refl; telling = refl; releasing = refl })
start_same LockCall.Lock _ from e = absurd (none_some e)
start_same LockCall.Try Out from e = rw (← some_eq e) (record { holding = refl; starving = refl; standing = refl; waiting = refl; owing = refl; counting = refl; telling = refl; releasing = refl })
start_same LockCall.Try _ from e = absurd (none_some e)
start_same LockCall.Poll Out from e = rw (← some_eq e) (record { holding = refl; starving = refl; standing = refl; waiting = refl; owing = refl; counting = refl; telling = refl; releasing = refl })
start_same LockCall.Poll Ask from e = rw (← some_eq e) (record { holding = refl; starving = refl; standing = refl; waiting = refl; owing = refl; counting = refl; telling = refl; releasing = refl })
start_same LockCall.Poll AskStarved from e = rw (← some_eq e) (record { holding = refl; starving = refl; standing = refl; waiting = refl; owing = refl; counting = refl; telling = refl; releasing = refl })
start_same LockCall.Poll _ from e = absurd (none_some e)
start_same LockCall.Release Holding from e = rw (← some_eq e) (record { holding = refl; starving = refl; standing = refl; waiting = refl; owing = refl; counting = refl; telling = refl; releasing = refl })
start_same LockCall.Release _ from e = absurd (none_some e)
start_same LockCall.Cancel Out from e = rw (← some_eq e) (record { holding = refl; starving = refl; standing = refl; waiting = refl; owing = refl; counting = refl; telling = refl; releasing = refl })
start_same LockCall.Cancel Ask from e = rw (← some_eq e) (record { holding = refl; starving = refl; standing = refl; waiting = refl; owing = refl; counting = refl; telling = refl; releasing = refl })
start_same LockCall.Cancel AskStarved from e = rw (← some_eq e) (record { holding = refl; starving = refl; standing = refl; waiting = refl; owing = refl; counting = refl; telling = refl; releasing = refl })
start_same LockCall.Cancel _ from e = absurd (none_some e)
