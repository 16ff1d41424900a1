-- One entry at most is marked.
use Rattle.world_mutex.proofs.Prelude.{ℕ, ◌≤◌, List, arith, ap, Entry, marked_count, Action, Found, Done, Yes, OnParties, joins, leaves}
use Rattle.world_base.proofs.OneMarked.{fewer_without, one_notified, one_after}

-- an action of one party leaves it so
pub one_marked : (p : ℕ) (a : Action) (f : Found) (l m : List (Entry ℕ)) → OnParties p a f l m → marked_count l ≤ 1 → marked_count m ≤ 1
one_marked p Action.Join Done l m o one = omega (arith, ap marked_count o, one_after p joins l tt one)
one_marked p Action.Join _ l m o one = omega (arith, one, ap marked_count o)
one_marked p Action.Ask Yes l m o one = omega (arith, one, ap marked_count o.1, fewer_without p l)
one_marked p Action.Ask _ l m o one = omega (arith, one, ap marked_count o.1)
one_marked p Action.Leave f l m o one = omega (arith, ap marked_count o, one_after p leaves l tt one)
one_marked p Action.Notify f l m o one = omega (arith, ap marked_count o, one_notified l one)
one_marked p _ f l m o one = omega (arith, one, ap marked_count o)
