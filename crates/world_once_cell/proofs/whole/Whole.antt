-- A call that is carried out alone ends within its number of steps.
use Rattle.world_once_cell.proofs.Prelude.{◌≡◌, ℕ, ◌+◌, ◌<◌, ◌≤◌, if◌then◌else◌, Bool, true, false, List, Some, refl, arith, ap, sym, ◌∙◌, subst, Entry, is_marked_at, is_party, entries_of, Answer, Call, Inputs, Move, What, Begin, Go, Stage, Within, inputs_of, some_eq, stage_at, call_at, polls_again, Table, Found, Place, Claim, ClaimListed, JoinActive, AskActive, LeaveToMake, Make, Fill, NotifyActive, NotifyPassive, Fail, FailNotify, LeaveFull, RefuseActive, Look, JoinPassive, LookListed, AskPassive, LeavePassive, RefusePassive, Try, TryFill, TryNotifyActive, TryNotifyPassive, CancelMake, CancelNotify, CancelLeave, Abandon, Position, At, Content, action_of, next_of, in_active, in_passive_at, effect_of, active_after, passive_after, Finds, OnceCell, IsCell, knows, goes_with, position_at, answer_by, going_on, left_by, beginning, joined_unmarked, IsCellTable, TableSteps}
use Rattle.sync_program.specs.declared.once_cell.Found.TheVariants as found
use Rattle.world_once_cell.proofs.of_machine.laws.Kept.{after}
use Rattle.world_once_cell.proofs.of_machine.stages.Turns.{Turn, turn}
use Rattle.world_once_cell.specs.machine.Ranks.{left, left_at, active_marked, passive_marked, steps_left}
use Rattle.world_once_cell.specs.Whole.{most_steps_of}
use Rattle.world_once_cell.proofs.step.Acting.{Acting}
use Rattle.world_once_cell.proofs.step.Acting as acting
use Rattle.world_once_cell.proofs.step.Stepping.{by_step}

-- how many steps are left once this was found, by whether the party's own entries are marked then
abbrev pub Left : Place → Found → Bool → Bool → ℕ
Left x f active passive = left_by (answer_by (next_of x f)) (left_at (after x f) active passive)

module _ (i : Inputs) (p : ℕ) (c : Content) (q r : List (Entry ℕ)) where
  abbrev own : Bool
  own = is_marked_at (is_party p) q

  abbrev own_passive : Bool
  own_passive = is_marked_at (is_party p) r

  abbrev active_then : Place → Found → Bool
  active_then x f = is_marked_at (is_party p) (active_after p (effect_of (action_of x) f) q)

  abbrev passive_then : Place → Found → Bool
  passive_then x f = is_marked_at (is_party p) (passive_after p (effect_of (action_of x) f) r)

  leaves_next : (b : Bool) → 5 < (if b then 10 else 6)
  leaves_next true = omega arith
  leaves_next false = omega arith

  ends : (b : Bool) → 1 < (if b then 10 else 6)
  ends true = omega arith
  ends false = omega arith

  asks_next : (b : Bool) → (if b then 9 else 1) < (if b then 10 else 6)
  asks_next true = omega arith
  asks_next false = omega arith

  ends_passive : (b : Bool) → 1 < (if b then 6 else 2)
  ends_passive true = omega arith
  ends_passive false = omega arith

  asks_passive : (b : Bool) → (if b then 5 else 1) < (if b then 6 else 2)
  asks_passive true = omega arith
  asks_passive false = omega arith

  pub fewer : (x : Place) (f : Found) → Finds i p (action_of x) f c q r → entries_of p q ≡ in_active (At x) → entries_of p r ≡ in_passive_at (At x) → Left x f (active_then x f) (passive_then x f) < left x own own_passive
  fewer (Claim m told) found.Empty e n k = omega arith
  fewer (Claim m told) (found.Full u) e n k = omega arith
  fewer (Claim m told) found.BeingMade e n k = omega arith
  fewer (Claim m told) _ e n k = absurd e
  fewer (ClaimListed m) found.Empty e n k = leaves_next own
  fewer (ClaimListed m) (found.Full u) e n k = ends own
  fewer (ClaimListed m) found.BeingMade e n k = asks_next own
  fewer (ClaimListed m) _ e n k = absurd e
  fewer (JoinActive m told) found.Done e n k = let un = joined_unmarked p q n in rw un (omega arith)
  fewer (JoinActive m true) found.NoMemory e n k = omega arith
  fewer (JoinActive m false) found.NoMemory e n k = omega arith
  fewer (JoinActive m told) _ e n k = absurd e
  fewer (AskActive m) found.Yes e n k = rw e (omega arith)
  fewer (AskActive m) found.No e n k = rw e (omega arith)
  fewer (AskActive m) _ e n k = absurd e
  fewer (LeaveToMake m) f e n k = omega arith
  fewer (Make m) (found.Made u) e n k = omega arith
  fewer (Make m) found.Failed e n k = omega arith
  fewer (Make m) _ e n k = omega arith
  fewer (Fill v) f e n k = omega arith
  fewer (NotifyActive v) f e n k = omega arith
  fewer (NotifyPassive v) f e n k = omega arith
  fewer Fail f e n k = omega arith
  fewer FailNotify f e n k = omega arith
  fewer (LeaveFull m v) f e n k = omega arith
  fewer (RefuseActive m) f e n k = omega arith
  fewer (Look told) (found.Full u) e n k = omega arith
  fewer (Look told) _ e n k = omega arith
  fewer (JoinPassive told) found.Done e n k = let un = joined_unmarked p r k in rw un (omega arith)
  fewer (JoinPassive true) found.NoMemory e n k = omega arith
  fewer (JoinPassive false) found.NoMemory e n k = omega arith
  fewer (JoinPassive told) _ e n k = absurd e
  fewer LookListed (found.Full u) e n k = ends_passive own_passive
  fewer LookListed _ e n k = asks_passive own_passive
  fewer AskPassive found.Yes e n k = rw e (omega arith)
  fewer AskPassive found.No e n k = rw e (omega arith)
  fewer AskPassive _ e n k = absurd e
  fewer (LeavePassive v) f e n k = omega arith
  fewer RefusePassive f e n k = omega arith
  fewer (Try v) found.Empty e n k = omega arith
  fewer (Try v) _ e n k = omega arith
  fewer (TryFill v) f e n k = omega arith
  fewer (TryNotifyActive v) f e n k = omega arith
  fewer (TryNotifyPassive v) f e n k = omega arith
  fewer CancelMake f e n k = omega arith
  fewer CancelNotify f e n k = omega arith
  fewer (CancelLeave list) f e n k = omega arith
  fewer Abandon f e n k = omega arith

-- at least one step is left
by_bool : (b : Bool) (m n : ℕ) → 0 < m → 0 < n → 0 < (if b then m else n)
by_bool true m n h k = h
by_bool false m n h k = k

some_left : (x : Place) (a b : Bool) → 0 < left x a b
some_left (ClaimListed k) a b = by_bool a 10 6 (omega arith) (omega arith)
some_left (AskActive k) a b = by_bool a 9 1 (omega arith) (omega arith)
some_left LookListed a b = by_bool b 6 2 (omega arith) (omega arith)
some_left AskPassive a b = by_bool b 5 1 (omega arith) (omega arith)
some_left _ a b = omega arith

pub some_at : (x : Position) (a b : Bool) → 0 < left_at x a b
some_at (At x) a b = some_left x a b
some_at _ a b = omega arith

one_at_least : (c : Call) → 1 ≤ most_steps_of c
one_at_least Call.Initialize = omega arith
one_at_least (Call.Set v) = omega arith
one_at_least Call.Wait = omega arith
one_at_least Call.Poll = omega arith
one_at_least (Call.TrySet v) = omega arith
one_at_least Call.Drop = omega arith
one_at_least _ = omega arith

-- no call has more left where it begins than it may take
abbrev Within_most : Stage → What → Within → Position → Place → Type 0
Within_most s (Begin c i) w x from = (a b : Bool) → left from a b ≤ most_steps_of c
Within_most s (Go i) w x from = x ≡ At from

at_most_nine : (b : Bool) (n : ℕ) → n ≤ 9 → (if b then n else 1) ≤ 9
at_most_nine true n h = h
at_most_nine false n h = omega arith

within_most : (s : Stage) (what : What) (w : Within) (x : Position) → goes_with s x ≡ true → call_at knows s what ≡ Some w → polls_again s what ≡ false → Turn Within_most s what w x
within_most = turn Within_most (record {
  initialize = λ r i g h a b. omega arith;
  set = λ v r i g h a b. omega arith;
  wait = λ r i g h a b. omega arith;
  try = λ v r i g h a b. omega arith;
  poll = λ k i a b. omega arith;
  poll_listed = λ k i a b. at_most_nine a 9 (omega arith);
  poll_maker = λ k i a b. omega arith;
  poll_wait = λ i a b. omega arith;
  poll_waiting = λ i a b. at_most_nine b 5 (omega arith);
  cancel = λ k i a b. omega arith;
  cancel_maker = λ k i a b. omega arith;
  cancel_wait = λ i a b. omega arith;
  abandon = λ k i a b. omega arith;
  abandon_wait = λ i a b. omega arith;
  drop_finished = λ i a b. omega arith;
  go = λ w x i begun here. refl;
})

module _ (t u : Table OnceCell) (m : Move) (a : Answer) where
  abbrev p : ℕ
  p = m.party

  -- one step of the party leaves less to do than there was at its place
  less : (w : Within) (k : Acting t u m a w) → left_by a (steps_left u.machine p) < left k.from (active_marked t.machine p) (passive_marked t.machine p)
  less w k =
      let here = fewer (inputs_of m.what) p t.machine.content t.machine.active t.machine.passive k.from k.found k.acts.finds (acting.own_active t u m a w k) (acting.own_passive t u m a w k) in
      let marks : active_marked u.machine p ≡ is_marked_at (is_party p) (active_after p (effect_of (action_of k.from) k.found) t.machine.active) = ap (is_marked_at (is_party p)) k.acts.active in
      let marks' : passive_marked u.machine p ≡ is_marked_at (is_party p) (passive_after p (effect_of (action_of k.from) k.found) t.machine.passive) = ap (is_marked_at (is_party p)) k.acts.passive in
      let same : left_by a (steps_left u.machine p) ≡ Left k.from k.found (is_marked_at (is_party p) (active_after p (effect_of (action_of k.from) k.found) t.machine.active)) (is_marked_at (is_party p) (passive_after p (effect_of (action_of k.from) k.found) t.machine.passive)) =
      ap (λ b. left_by b (steps_left u.machine p)) k.answer ∙ (ap (λ x. left_by (answer_by (next_of k.from k.found)) (left_at x (active_marked u.machine p) (passive_marked u.machine p))) (acting.lands_at t u m a w k)
      ∙ (ap (λ b. Left k.from k.found b (passive_marked u.machine p)) marks ∙ ap (λ b. Left k.from k.found (is_marked_at (is_party p) (active_after p (effect_of (action_of k.from) k.found) t.machine.active)) b) marks')) in
      rw same here

  pub from_turn : (w : Within) (k : Acting t u m a w) → Within_most (stage_at t.stages p) m.what w (position_at t.machine.positions p) k.from
  from_turn w k =
      let turned = within_most (stage_at t.stages p) m.what w (position_at t.machine.positions p) (k.old_fits.stands p k.inside).goes k.call k.first in
      let same : turned.from ≡ k.from = some_eq (sym turned.starts ∙ k.starts) in
      let P : Place → Type 0 = λ y. Within_most (stage_at t.stages p) m.what w (position_at t.machine.positions p) y in
      subst P same turned.holds

module _ (t u : Table OnceCell) (tl : IsCell t.machine) (tf : IsCellTable t) (ul : IsCell u.machine) (uf : IsCellTable u) (p : ℕ) (i : Inputs) (a : Answer) where
  pub begins_few : (c : Call) → TableSteps t (beginning p c i) a u → 1 + left_by a (steps_left u.machine p) ≤ most_steps_of c
  begins_few c step = by_step t u (beginning p c i) a tl tf ul uf (λ b x. 1 + left_by b (steps_left x.machine p) ≤ most_steps_of c) (λ e. one_at_least c) (λ w e f. one_at_least c)
      (λ w k. let few = from_turn t u (beginning p c i) a w k (active_marked t.machine p) (passive_marked t.machine p) in omega (arith, less t u (beginning p c i) a w k, few)) step

  pub falls : TableSteps t (going_on p i) a u → left_by a (steps_left u.machine p) < steps_left t.machine p
  falls step =
      let some = some_at (position_at t.machine.positions p) (active_marked t.machine p) (passive_marked t.machine p) in
      by_step t u (going_on p i) a tl tf ul uf (λ b x. left_by b (steps_left x.machine p) < steps_left t.machine p) (λ e. some) (λ w e f. some)
      (λ w k. let P : Position → Type 0 = λ x. left_by a (steps_left u.machine p) < left_at x (active_marked t.machine p) (passive_marked t.machine p) in subst P (sym (from_turn t u (going_on p i) a w k)) (less t u (going_on p i) a w k)) step
