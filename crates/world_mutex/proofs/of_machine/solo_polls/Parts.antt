-- Giving way, place by place, as Worlds say it.
use Rattle.world_mutex.proofs.Prelude.{ℕ, ◌<◌, ap, arith, ◌∙◌, entries_of, some_listed, Pending, Lock, is_counted, starved_of, GaveWay}
use Rattle.world_base.specs.Bounds as bounds
use Rattle.world_mutex.proofs.of_machine.laws.Seen as sees

-- the entries of parties that aren't starved are as many in the roster of the starved
pub gave_way : (p : ℕ) (l m : Lock) → GaveWay p l Pending m → 0 < entries_of p l.entries → bounds.GaveWay p (starved_of l) l.entries (starved_of m) m.entries
gave_way p l m g there = record {
  was_unstarved = sees.starved_at l.places p ∙ ap is_counted g.unstarved_here;
  some_starved = rw (sees.how_many_counted l.places) g.starved_there;
  is_starved = sees.starved_at m.places p ∙ ap is_counted g.stands_back.0;
  as_long = g.stands_back.1;
  marked = g.notified (omega (arith, g.stands_back.1, some_listed p l.entries there));
  fewer = omega (arith, sees.unstarved_counted l.places l.entries, sees.unstarved_counted m.places m.entries, g.fewer);
}
