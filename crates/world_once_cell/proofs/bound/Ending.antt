-- A call that is decided ends within three further steps of its own, however others step.
use Rattle.world_once_cell.proofs.Prelude.{◌≡◌, ◌≢◌, ℕ, ◌<◌, ◌≤◌, Bool, true, is_some, refl, sym, ap, ◌∙◌, arith, get_or-set_other, Answer, Move, Rest, stage_at, is_decided, Table, NotifyActive, NotifyPassive, FailNotify, LeaveFull, RefuseActive, LeavePassive, RefusePassive, TryFill, TryNotifyActive, TryNotifyPassive, CancelMake, CancelNotify, CancelLeave, Abandon, Position, Out, At, verdict, OnceCell, Moves, knows, position_at, position_after, next_of, World, standing_of, Stands, Steps}
use Rattle.world_base.proofs.Ending.{ends_within}
use Rattle.world_base.proofs.of_table.Views.{some_decided}
use Rattle.world_base.proofs.of_table.Ways.{way, by_way}
use Rattle.world_once_cell.specs.machine.Ranks.{left_at, active_marked, passive_marked}
use Rattle.world_once_cell.specs.Whole.{EndsSoon, steps_left_of}
use Rattle.world_once_cell.proofs.laws.WorldLaws.{falls}
use Rattle.world_once_cell.proofs.step.Stepping.{known_calls}
use Rattle.world_once_cell.proofs.table.Seen.{standing_seen}
use Rattle.world_once_cell.proofs.whole.Whole.{some_at}

-- where a call is decided, as many steps are left as its place says alone, and three at most
steady : (x : Position) (a p b q : Bool) → is_some (verdict x) ≡ true → (left_at x a p ≡ left_at x b q) × (left_at x a p ≤ 3)
steady (At (NotifyActive v)) a p b q d = (refl, omega arith)
steady (At (NotifyPassive v)) a p b q d = (refl, omega arith)
steady (At FailNotify) a p b q d = (refl, omega arith)
steady (At (LeaveFull k v)) a p b q d = (refl, omega arith)
steady (At (RefuseActive k)) a p b q d = (refl, omega arith)
steady (At (LeavePassive v)) a p b q d = (refl, omega arith)
steady (At RefusePassive) a p b q d = (refl, omega arith)
steady (At (TryFill v)) a p b q d = (refl, omega arith)
steady (At (TryNotifyActive v)) a p b q d = (refl, omega arith)
steady (At (TryNotifyPassive v)) a p b q d = (refl, omega arith)
steady (At CancelMake) a p b q d = (refl, omega arith)
steady (At CancelNotify) a p b q d = (refl, omega arith)
steady (At (CancelLeave list)) a p b q d = (refl, omega arith)
steady (At Abandon) a p b q d = (refl, omega arith)
steady _ a p b q d = absurd (cc d)

-- whoever stands decided is at such a place
decided_there : (w : World) (q : ℕ) → Stands w → is_decided (standing_of w q) ≡ true → is_some (verdict (position_at w.behind.machine.positions q)) ≡ true
decided_there w q s h = some_decided (verdict (position_at w.behind.machine.positions q)) (stage_at w.behind.stages q) (ap is_decided (sym (ap (λ x. standing_of x q) s.seen ∙ standing_seen w.behind q)) ∙ h)

module _ (w : World) (m : Move) (a : Answer) (v : World) (s : Steps w m a v) (q : ℕ) where
  abbrev c : OnceCell
  c = w.behind.machine

  abbrev d : OnceCell
  d = v.behind.machine

  -- a step of another leaves a party where it is
  same_place : q ≢ m.party → position_at d.positions q ≡ position_at c.positions q
  same_place apart = by_way known_calls Rest.Finished Moves w.behind v.behind m a (λ b x. position_at x.machine.positions q ≡ position_at c.positions q) (λ e. refl) (λ u e f. refl)
      (λ u e f k. ap (λ ps. position_at ps q) k.acts.acts.positions ∙ get_or-set_other c.positions m.party q (position_after (next_of k.acts.from k.acts.found)) Out apart)
      (way known_calls Rest.Finished Moves w.behind v.behind m a s.did.step)

  keeps : q ≢ m.party → is_decided (standing_of w q) ≡ true → steps_left_of v q ≤ steps_left_of w q
  keeps apart decided =
      let alike = steady (position_at c.positions q) (active_marked d q) (passive_marked d q) (active_marked c q) (passive_marked c q) (decided_there w q s.did.stood decided) in
      omega (arith, ap (λ x. left_at x (active_marked d q) (passive_marked d q)) (same_place apart), alike.0)

  few : is_decided (standing_of w q) ≡ true → steps_left_of w q ≤ 3
  few decided = (steady (position_at c.positions q) (active_marked c q) (passive_marked c q) (active_marked c q) (passive_marked c q) (decided_there w q s.did.stood decided)).1

  some : (0 < steps_left_of w q) × (0 < steps_left_of v q)
  some = (some_at (position_at c.positions q) (active_marked c q) (passive_marked c q), some_at (position_at d.positions q) (active_marked d q) (passive_marked d q))

pub ends_soon : (w : World) → EndsSoon w
ends_soon = ends_within Steps standing_of (λ w p. knows) Rest.Finished steps_left_of 3
    (λ w m a v s. s.legal.possible) (λ w m a v s. s.legal.ends_properly) (λ w m a v s q apart. s.legal.one_change.others q apart)
    (λ w p i v s decided on. falls w p i Answer.Stepped v s) keeps few some (omega arith)
