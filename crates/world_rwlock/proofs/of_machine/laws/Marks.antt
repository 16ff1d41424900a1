-- One entry at most is marked in either list.
use Rattle.world_rwlock.proofs.Prelude.{ℕ, ◌≤◌, List, arith, ap, Entry, marked_count, Action, Found, Done, Yes, No, OnNoWriter, OnNoReaders}
use Rattle.sync_program.specs.declared.rwlock.Found.TheVariants.{NoMemory}
use Rattle.world_base.specs.Steps.{joins, leaves}
use Rattle.world_base.proofs.OneMarked.{fewer_without, one_notified, one_after}

-- an action of one party leaves it so
pub one_marked_w : (p : ℕ) (a : Action) (f : Found) (l m : List (Entry ℕ)) → OnNoWriter p a f l m → marked_count l ≤ 1 → marked_count m ≤ 1
one_marked_w p Action.JoinNoWriter Done l m o one = omega (arith, ap marked_count o, one_after p joins l tt one)
one_marked_w p Action.JoinNoWriter NoMemory l m o one = omega (arith, one, ap marked_count o)
one_marked_w p Action.JoinNoWriter _ l m o one = absurd o
one_marked_w p Action.AskNoWriter Yes l m o one = omega (arith, one, ap marked_count o.1, fewer_without p l)
one_marked_w p Action.AskNoWriter No l m o one = omega (arith, one, ap marked_count o.1)
one_marked_w p Action.AskNoWriter _ l m o one = absurd o
one_marked_w p Action.LeaveNoWriter Done l m o one = omega (arith, ap marked_count o, one_after p leaves l tt one)
one_marked_w p Action.LeaveNoWriter _ l m o one = absurd o
one_marked_w p Action.NotifyNoWriter Done l m o one = omega (arith, ap marked_count o, one_notified l one)
one_marked_w p Action.NotifyNoWriter _ l m o one = absurd o
one_marked_w p _ f l m o one = omega (arith, one, ap marked_count o)

pub one_marked_r : (p : ℕ) (a : Action) (f : Found) (l m : List (Entry ℕ)) → OnNoReaders p a f l m → marked_count l ≤ 1 → marked_count m ≤ 1
one_marked_r p Action.JoinNoReaders Done l m o one = omega (arith, ap marked_count o, one_after p joins l tt one)
one_marked_r p Action.JoinNoReaders NoMemory l m o one = omega (arith, one, ap marked_count o)
one_marked_r p Action.JoinNoReaders _ l m o one = absurd o
one_marked_r p Action.AskNoReaders Yes l m o one = omega (arith, one, ap marked_count o.1, fewer_without p l)
one_marked_r p Action.AskNoReaders No l m o one = omega (arith, one, ap marked_count o.1)
one_marked_r p Action.AskNoReaders _ l m o one = absurd o
one_marked_r p Action.LeaveNoReaders Done l m o one = omega (arith, ap marked_count o, one_after p leaves l tt one)
one_marked_r p Action.LeaveNoReaders _ l m o one = absurd o
one_marked_r p Action.NotifyNoReaders Done l m o one = omega (arith, ap marked_count o, one_notified l one)
one_marked_r p Action.NotifyNoReaders _ l m o one = absurd o
one_marked_r p _ f l m o one = omega (arith, one, ap marked_count o)
