-- What a room and its rights own goes to another thread where the value does.
use base.Fraction.{full_share}
use base.Shift.{Keyless}
use denote.RattleType.{RattleType}
use denote.RawPtr.{Ptr}
use denote.Param.Send.{IsSend, part_keyless}
use Rattle.lock_place.specs.Held.{RoomId, held, room_owns, hold_owns}
use Rattle.lock_place.specs.Rests.{rested_owns}
use Rattle.lock_place.specs.Spared.{is_spared_for, spare_owns}
use Rattle.std.specs.Prelude.{ℕ, Option, Some, None}
use mathlib.Core.Bool.{Bool, true, false}

held_keyless : (R : RattleType) → IsSend R → (z : RoomId) → Keyless (held R z)
held_keyless R s z = λ x. (part_keyless R s full_share x _ _, tt)

pub room_keyless : (R : RattleType) → IsSend R → (p : Ptr) (z : RoomId) → Keyless (room_owns R p z)
room_keyless R s p z = (tt, ((λ _. tt), held_keyless R s z))

pub hold_keyless : (R : RattleType) → IsSend R → (z : RoomId) (x : R.Denot) → Keyless (hold_owns R z x)
hold_keyless R s z x = (tt, held_keyless R s z)

waits_keyless : (R : RattleType) → IsSend R → (z : RoomId) (d : ℕ) (x : R.Denot) (y : Bool) → Keyless (is_spared_for R z d x y)
waits_keyless R s z d x true = hold_keyless R s z x
waits_keyless R s z d x false = (tt, tt)

pub spare_keyless : (R : RattleType) → IsSend R → (z : RoomId) (d : ℕ) (v : Option R.Denot) → Keyless (spare_owns R z d v)
spare_keyless R s z d None = tt
spare_keyless R s z d (Some x) = waits_keyless R s z d x

pub rested_keyless : (R : RattleType) → IsSend R → (z : RoomId) (v : Option R.Denot) (d : ℕ) (t : Bool) → Keyless (rested_owns R z v d t)
rested_keyless R s z (Some x) d t = hold_keyless R s z x
rested_keyless R s z None d true = (tt, tt)
rested_keyless R s z None d false = tt
