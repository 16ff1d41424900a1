-- The changes of a barrier, and what each leaves.
use Rattle.std.specs.Prelude.{ℕ, ◌+◌, Bool, true, false, List, Some, None, slice_set}
use Rattle.lock_event.specs.declared.event.Entry.{Entry}
use Rattle.world_base.specs.declared.moves.Answer.{Answer}
use Rattle.world_base.specs.declared.moves.Answer.TheVariants as answer
use Rattle.world_base.specs.declared.moves.Call.TheVariants as call
use Rattle.world_base.specs.declared.moves.What.{What}
use Rattle.world_base.specs.declared.moves.What.TheVariants.{Begin}
use Rattle.world_base.specs.Steps.{Effect, nothing, changes, does, leaves, list_after, is_parting}
use Rattle.world_barrier.specs.machine.Waits.{Wait, no_wait, uncounted, counted}
use Rattle.world_barrier.specs.declared.world.ListName.{ListName}
use Rattle.world_barrier.specs.declared.world.ListName.TheVariants.{Lock, Generation}
use Rattle.world_barrier.specs.State.{LockState}

-- The party takes the inner lock or gives it back, is counted as starved for it or no more; or its arrival is counted.
pub data Change : Type 0 where
  takes : Change
  releases : Change
  starves : Change
  recovers : Change
  arrives : Change

abbrev pub lock_after : ℕ → Effect Change ListName → LockState → LockState
lock_after p (changes takes) s = record { holder = Some p; starved = s.starved }
lock_after p (changes releases) s = record { holder = None; starved = s.starved }
lock_after p (changes starves) s = record { holder = s.holder; starved = slice_set s.starved p true }
lock_after p (changes recovers) s = record { holder = s.holder; starved = slice_set s.starved p false }
lock_after p _ s = s

abbrev pub arrivals_after : Effect Change ListName → ℕ → ℕ
arrivals_after (changes arrives) k = k + 1
arrivals_after _ k = k

abbrev pub lock_list_after : ℕ → Effect Change ListName → List (Entry ℕ) → List (Entry ℕ)
lock_list_after p (does Lock f) l = list_after p f l
lock_list_after p _ l = l

abbrev pub generation_list_after : ℕ → Effect Change ListName → List (Entry ℕ) → List (Entry ℕ)
generation_list_after p (does Generation f) l = list_after p f l
generation_list_after p _ l = l

-- What becomes of the mover's wait by what it begins and is answered: a first poll begins it, uncounted; Ready ends it, and so does a drop at its first step; anything else leaves it.
abbrev pub wait_then : What → Answer → Wait → Wait
wait_then what answer.NotPossible before = before
wait_then what (answer.Ready got) before = no_wait
wait_then (Begin call.Wait inputs) a before = uncounted
wait_then (Begin call.Drop inputs) a before = no_wait
wait_then what a before = before

-- Where its arrival is counted, it gets the next number.
abbrev pub wait_after : Effect Change ListName → ℕ → What → Answer → Wait → Wait
wait_after (changes arrives) k what a before = counted (k + 1)
wait_after _ k what a before = wait_then what a before

-- Once its call is decided, a party only gives back: the inner lock, its starved count, its entry, notifications.
abbrev pub gives_back : Effect Change ListName → Bool
gives_back nothing = true
gives_back (changes releases) = true
gives_back (changes recovers) = true
gives_back (changes _) = false
gives_back (does list f) = is_parting f

-- What gives something up: the inner lock, the starved count, or a place in a list without asking there.
abbrev pub gives_up : Effect Change ListName → Bool
gives_up (changes releases) = true
gives_up (changes recovers) = true
gives_up (does list leaves) = true
gives_up _ = false
