-- What no poll passes over, the first one takes; and where some entry is marked, whose.
use Rattle.world_base.proofs.Prelude.{ℕ, zero, suc, ◌<◌, List, length, Entry, Answer, Inputs}
use Rattle.world_base.specs.Bounds.{OneTakes}
pub use Rattle.world_base.proofs.Bounds.{first_marked}

module _ {W : Type 0} (PassesOver : W → ℕ → Inputs → Answer → W → Type 0) (list : W → List (Entry ℕ)) where
  pub first_takes : (w : W) → ((p : ℕ) (inputs : Inputs) (a : Answer) (v : W) → PassesOver w p inputs a v → ⊥) → 0 < length (list w) → OneTakes PassesOver list w
  first_takes w never some zero v t = some
  first_takes w never some (suc n) v t = absurd (never t.0 t.1 t.2 t.3 t.4)
