-- A hold and a spare, after a write through what they lent.
use Rattle.std.specs.Prelude.{Some}
use Rattle.lock_place.specs.declared.room.Hold.{Hold}
use Rattle.lock_place.specs.declared.spare.Spare.{Spare}

abbrev pub hold_with : {T : Type 0} → Hold T → T → Hold T
hold_with it w = record { marker = it.marker; room_id = it.room_id; value = w }

abbrev pub spare_with : {T : Type 0} → Spare T → T → Spare T
spare_with it w = record { marker = it.marker; room_id = it.room_id; deed = it.deed; value = Some w }
