-- What callers see of a machine, party by party.
use Rattle.world_semaphore.proofs.Prelude.{◌≡◌, ℕ, List, arith, sum_by, stage_at, stands_as, Table, mapped_at, sum_mapped, standings_at, Position, Out, permits_of, permits_at, under_way_at, share_of, size_at, debt_at, verdict, Semaphore, IsSemaphore, position_at, sizes_of, held, under_way, available, share_at, standing_of, size_of, debt_of, view_of}

module _ (t : Table Semaphore) where
  abbrev xs : List Position
  xs = t.machine.positions

  pub share_seen : (q : ℕ) → share_at (view_of t).state q ≡ share_of (position_at xs q)
  share_seen q = mapped_at share_of xs q Out

  pub size_seen : (q : ℕ) → size_of (view_of t) q ≡ sizes_of xs q
  size_seen q = mapped_at size_at xs q Out

  pub debt_seen : (q : ℕ) → debt_of (view_of t) q ≡ debt_at (position_at xs q)
  debt_seen q = mapped_at debt_at xs q Out

  pub stands_seen : (q : ℕ) → standing_of (view_of t) q ≡ stands_as (verdict (position_at xs q)) (stage_at t.stages q)
  stands_seen q = standings_at (λ p. verdict (position_at xs p)) t.stages q

  pub held_seen : held (view_of t).state ≡ sum_by permits_at xs
  held_seen = sum_mapped share_of permits_of xs

  pub under_way_seen : under_way (view_of t).state ≡ sum_by under_way_at xs
  under_way_seen = sum_mapped share_of (λ x. x.under_way) xs

  pub available_seen : IsSemaphore t.machine → available (view_of t).state ≡ t.machine.words.available
  available_seen laws = omega (arith, held_seen, under_way_seen, laws.balanced)
