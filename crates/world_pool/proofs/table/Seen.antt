-- What callers see of a machine, party by party.
use Rattle.world_pool.proofs.Prelude.{◌≡◌, ℕ, List, [], ◌∷◌, map, refl, arith, sum_by, stage_at, stands_as, Table, standings_at, Position, Out, how_many, is_giving, is_taking_out, as_number, Pool, position_at, standing_of, gives, view_of, verdict_in}
use Rattle.std.proofs.lemmas.List.Sums.{sum_by-cons}
use Rattle.world_base.proofs.of_table.Mapped.{mapped_at}

module _ (t : Table Pool) where
  pub standing_seen : (q : ℕ) → standing_of (view_of t) q ≡ stands_as (verdict_in t.machine q) (stage_at t.stages q)
  standing_seen q = standings_at (verdict_in t.machine) t.stages q

  pub giving_seen : (q : ℕ) → gives (view_of t) q ≡ is_giving (position_at t.machine.positions q)
  giving_seen q = mapped_at is_giving t.machine.positions q Out

pub seekers : (xs : List Position) → how_many (map is_taking_out xs) ≡ sum_by (λ x. as_number (is_taking_out x)) xs
seekers [] = refl
seekers (x ∷ xs) = omega (arith, sum_by-cons (λ x. as_number (is_taking_out x)) x xs, seekers xs)
