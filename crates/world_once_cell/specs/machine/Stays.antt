-- Whoever stood outside every call may stand as it does once the cell's value was put or taken: forgotten, if it was pending.
use Rattle.std.specs.Prelude.{◌≡◌, ℕ, true, Option, Some}
use Rattle.world_base.specs.declared.standing.Rest.TheVariants as rest
use Rattle.world_base.specs.declared.standing.Stage.{Stage}
use Rattle.world_base.specs.declared.standing.Stage.TheVariants.{Outside, Inside, Forgotten}
use Rattle.world_base.specs.Standings.{is_outside_stage, forgets}
use Rattle.world_base.proofs.Equations.{none_some}
use Rattle.std.proofs.Common.{refl}
use Rattle.world_once_cell.specs.program.Program.{Position}
use Rattle.sync_program.specs.declared.once_cell.Position.TheVariants.{Out, ToMake, WaitingToMake, Making, ToWait, Waiting, At}
use Rattle.world_once_cell.specs.machine.Seats.{value_known, is_resting}
use Rattle.world_once_cell.specs.machine.Machine.{OnceCell, Stands, goes_with, position_at, with_value}

rests_outside : (s : Stage) (x : Position) → goes_with s x ≡ true → is_outside_stage s ≡ true → is_resting x ≡ true
rests_outside (Outside r) Out g o = refl
rests_outside (Outside r) (ToMake k) g o = refl
rests_outside (Outside r) (WaitingToMake k) g o = refl
rests_outside (Outside r) (Making k) g o = refl
rests_outside (Outside r) ToWait g o = refl
rests_outside (Outside r) Waiting g o = refl
rests_outside (Outside rest.Idle) (At y) g o = absurd (cc g)
rests_outside (Outside rest.Pending) (At y) g o = absurd (cc g)
rests_outside (Outside rest.Holding) (At y) g o = absurd (cc g)
rests_outside (Outside rest.Finished) (At y) g o = absurd (cc g)
rests_outside (Inside w) x g o = absurd (cc o)
rests_outside Forgotten x g o = g

still_goes : (s : Stage) (x : Position) → goes_with s x ≡ true → is_outside_stage s ≡ true → goes_with (forgets s) x ≡ true
still_goes (Outside rest.Idle) x g o = g
still_goes (Outside rest.Finished) x g o = g
still_goes (Outside rest.Pending) x g o = rests_outside (Outside rest.Pending) x g o
still_goes (Outside rest.Holding) x g o = absurd (cc g)
still_goes (Inside w) x g o = absurd (cc o)
still_goes Forgotten x g o = g

knows_nothing : (x : Position) (v : ℕ) → is_resting x ≡ true → value_known x ≡ Some v → ⊥
knows_nothing (At y) v h e = cc h
knows_nothing _ v h e = none_some e

pub stays_so : (s : OnceCell) (v : Option ℕ) (p : ℕ) (stage : Stage) → is_outside_stage stage ≡ true → Stands s p stage → Stands (with_value s v) p (forgets stage)
stays_so s v p stage outside h = record {
  goes = still_goes stage (position_at s.positions p) h.goes outside;
  value = λ n e. absurd (knows_nothing (position_at s.positions p) n (rests_outside stage (position_at s.positions p) h.goes outside) e);
}
