-- Histories that grow.
use Rattle.std.proofs.Common.{◌≡◌, ◌++◌, List, [], ◌∷◌, refl, subst}
use Rattle.world_base.specs.declared.moves.Answer.{Answer}
use Rattle.world_base.specs.declared.moves.Move.{Move}
use Rattle.lock_audit.specs.Histories.{Replays}

module _ {W : Type 0} (legal : W → Move → Answer → W → Type 0) where
  -- a history that replays goes on to replay with one more legal step
  pub replays_more : (first : W) (es : List (Move × Answer)) (last : W) (m : Move) (a : Answer) (new : W) → Replays legal first es last → legal last m a new → Replays legal first (es ++ (m, a) ∷ []) new
  replays_more first [] last m a new replays step = let P : W → Type 0 = λ w. legal w m a new in (new, subst P replays step, refl)
  replays_more first (e ∷ es) last m a new replays step = (replays.0, replays.1, replays_more replays.0 es last m a new replays.2 step)

  -- and so it does from a first World that is the same
  pub replays_from : (first other : W) (es : List (Move × Answer)) (last : W) → first ≡ other → Replays legal first es last → Replays legal other es last
  replays_from first other es last e replays = let P : W → Type 0 = λ w. Replays legal w es last in subst P e replays
