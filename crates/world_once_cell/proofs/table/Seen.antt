-- What callers see of a machine, party by party.
use Rattle.world_once_cell.proofs.Prelude.{◌≡◌, ℕ, List, stage_at, stands_as, Table, mapped_at, standings_at, Position, Out, task_at, verdict, OnceCell, position_at, standing_of, task_of, view_of}

module _ (t : Table OnceCell) where
  abbrev xs : List Position
  xs = t.machine.positions

  pub task_seen : (q : ℕ) → task_of (view_of t) q ≡ task_at (position_at xs q)
  task_seen q = mapped_at task_at xs q Out

  pub standing_seen : (q : ℕ) → standing_of (view_of t) q ≡ stands_as (verdict (position_at xs q)) (stage_at t.stages q)
  standing_seen q = standings_at (λ p. verdict (position_at xs p)) t.stages q
