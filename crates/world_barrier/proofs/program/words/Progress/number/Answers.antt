-- The number of an arrival is the one that its generation and count stand for.
use Rattle.world_barrier.proofs.Prelude.{ℕ, ◌≡◌, ◌*◌, ◌+◌, zero, suc, refl, Progress, arrivals_at}
use Rattle.world_barrier.proofs.program.words.Progress.number.Goals as goal

of_some : (size : ℕ) (x : Progress) → (size ≡ 0 → ⊥) → size * x.generation + x.count ≡ arrivals_at size x
of_some zero x h = absurd (h refl)
of_some (suc n) x h = refl

pub returns-else-size-eq0 : goal.returns-else-size-eq0
returns-else-size-eq0 c = of_some c.args.size c.args.self c.if-size-eq0.false
