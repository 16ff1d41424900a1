-- A call that is decided ends within three further steps of its own, however others step.
use Rattle.world_semaphore.proofs.Prelude.{◌≡◌, ◌≢◌, ℕ, ◌<◌, ◌≤◌, true, is_some, refl, sym, ap, ◌∙◌, arith, get_or-set_other, Answer, Inputs, Move, Rest, stage_at, is_decided, going_on, Table, Position, Out, verdict, Semaphore, Moves, knows, position_at, position_after, next_of, World, standing_of, Stands, Steps}
use Rattle.world_base.proofs.Ending.{ends_within}
use Rattle.world_base.proofs.of_table.Views.{some_decided}
use Rattle.world_base.proofs.of_table.Ways.{way, by_way}
use Rattle.world_semaphore.specs.machine.Ranks.{left_at}
use Rattle.world_semaphore.specs.Whole.{EndsSoon}
use Rattle.world_semaphore.proofs.step.Stepping.{known_calls}
use Rattle.world_semaphore.proofs.table.Seen.{stands_seen}
use Rattle.world_semaphore.proofs.whole.Whole.{last_left, few_last, some_at, falls_last}

-- how many steps are left of a call that is decided, be its entry marked or not
abbrev last_left_of : World → ℕ → ℕ
last_left_of w p = last_left w.behind.machine p

-- whoever stands decided is at a place that decides
decided_there : (w : World) (q : ℕ) → Stands w → is_decided (standing_of w q) ≡ true → is_some (verdict (position_at w.behind.machine.positions q)) ≡ true
decided_there w q s h = some_decided (verdict (position_at w.behind.machine.positions q)) (stage_at w.behind.stages q) (ap is_decided (sym (ap (λ x. standing_of x q) s.seen ∙ stands_seen w.behind q)) ∙ h)

falls : (w : World) (p : ℕ) (i : Inputs) (v : World) → Steps w (going_on p i) Answer.Stepped v → is_decided (standing_of w p) ≡ true → last_left_of v p < last_left_of w p
falls w p i v s decided = falls_last w.behind v.behind s.did.stood.laws s.did.stood.fits s.did.stands.laws s.did.stands.fits p i Answer.Stepped s.did.step (decided_there w p s.did.stood decided)

module _ (w : World) (m : Move) (a : Answer) (v : World) (s : Steps w m a v) (q : ℕ) where
  abbrev c : Semaphore
  c = w.behind.machine

  abbrev d : Semaphore
  d = v.behind.machine

  -- a step of another leaves a party where it is
  same_place : q ≢ m.party → position_at d.positions q ≡ position_at c.positions q
  same_place apart = by_way known_calls Rest.Holding Moves w.behind v.behind m a (λ b x. position_at x.machine.positions q ≡ position_at c.positions q) (λ e. refl) (λ u e f. refl)
      (λ u e f k. ap (λ ps. position_at ps q) k.acts.acts.positions ∙ get_or-set_other c.positions m.party q (position_after (next_of k.acts.from k.acts.found)) Out apart)
      (way known_calls Rest.Holding Moves w.behind v.behind m a s.did.step)

  keeps : q ≢ m.party → is_decided (standing_of w q) ≡ true → last_left_of v q ≤ last_left_of w q
  keeps apart decided = omega (arith, ap (λ x. left_at x true) (same_place apart))

  few : is_decided (standing_of w q) ≡ true → last_left_of w q ≤ 3
  few decided = few_last (position_at c.positions q) (decided_there w q s.did.stood decided)

  some : (0 < last_left_of w q) × (0 < last_left_of v q)
  some = (some_at (position_at c.positions q) true, some_at (position_at d.positions q) true)

pub ends_soon : (w : World) → EndsSoon w
ends_soon = ends_within Steps standing_of (λ w p. knows) Rest.Holding last_left_of 3
    (λ w m a v s. s.legal.possible) (λ w m a v s. s.legal.ends_properly) (λ w m a v s q apart. s.legal.one_change.others q apart)
    (λ w p i v s decided on. falls w p i v s decided) keeps few some (omega arith)
