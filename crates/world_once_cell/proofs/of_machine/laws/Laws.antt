-- What always holds of a cell, as callers see it.
use Rattle.world_once_cell.proofs.Prelude.{◌≡◌, ◌<◌, true, List, length, refl, arith, ap, marked_count, IsMarkedFirst, Queue, Position, At, Content, in_active, in_passive_at, waits, owes, is_resting, free_of, IsKept, IsCell}
use Rattle.world_base.specs.queue.Debts.{Roles, Rests}
use Rattle.world_base.proofs.of_queue.Debts.{paid_at_rest}
use Rattle.world_base.proofs.of_table.Resting.{nothing_owed}
use Rattle.world_once_cell.proofs.of_machine.laws.Locks.{fits_all, bounded_passive}

abbrev roles : Roles Position
roles = record { listed = in_active; waits = waits; owes = owes }

-- a resting party owes nothing, and waits where it is listed
rests : (x : Position) → is_resting x ≡ true → Rests roles x
rests (At place) h = absurd (cc)
rests _ h = (refl, refl)

is_free : (c : Content) → c ≡ Content.Empty → 0 < free_of c
is_free c e = let one : free_of c ≡ 1 = ap free_of e in omega arith

pub is_cell : (c : Content) (xs : List Position) (q r : Queue) → IsKept c xs q r → IsMarkedFirst q.entries → IsMarkedFirst r.entries → IsCell (record { content = c; positions = xs; active = q.entries; passive = r.entries })
is_cell c xs q r k ordered ordered_passive = record {
  makers = k.makers;
  active_owners = k.active_owners;
  passive_owners = k.passive_owners;
  active_in_order = ordered;
  passive_in_order = ordered_passive;
  owed = λ empty some. k.sound.owed (is_free c empty) some;
  wakes = λ rest empty some. paid_at_rest roles (0 < free_of c) xs (length q.entries) (marked_count q.entries) (nothing_owed is_resting roles rests xs rest) k.sound.in_list k.sound.owed (is_free c empty) some;
  active_told = k.active_told;
  passive_few = fits_all in_passive_at xs (length r.entries) bounded_passive k.passive_listed k.few;
  passive_told = k.passive_told;
}
