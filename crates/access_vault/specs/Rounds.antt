-- A value that is shared for a round: a lifetime of its own.
use Rattle.core.specs.Prelude.{ℕ, [], ◌∷◌}
use base.Fraction.{full_share}
use base.Fml.{Fml, fsep, fex, fbor, flent, flft, fobs}
use denote.RattleType.{RattleType}
use Rattle.lock_place.specs.Held.{RoomId, age, held, seen_at}

-- the lifetime c, for which the value is shared
abbrev pub round : (R : RattleType) → RoomId → R.Denot → ℕ → Fml
round R z x c = fsep (flft (c ∷ []) full_share) (fsep (seen_at R z x (c ∷ age z)) (flent (c ∷ age z) (fbor (age z) (held R z))))

abbrev pub seen_owns : (R : RattleType) → RoomId → R.Denot → Fml
seen_owns R z x = fsep (fobs z.name (R.coded.code x)) (fex ℕ (round R z x))
