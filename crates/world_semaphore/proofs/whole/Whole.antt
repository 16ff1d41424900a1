-- A call that is carried out alone ends within its number of steps.
use Rattle.world_semaphore.proofs.Prelude.{◌≡◌, ℕ, ◌+◌, ◌<◌, ◌≤◌, if◌then◌else◌, Bool, true, false, List, Some, None, is_some, refl, arith, ap, sym, ◌∙◌, subst, Entry, is_marked_at, is_party, entries_of, Answer, Call, Inputs, Move, What, Begin, Go, Stage, Within, inputs_of, going_on, some_eq, left_by, beginning, stage_at, call_at, polls_again, Table, joined_unmarked, Found, Done, Left as Left_there, Short, PastLimit, NoMemory, Yes, No, Place, Take, Retake, Join, Ask, Remove, Load, HandOn, PassOn, RefuseFit, Try, Lower, GiveBack, Raise, GiveAdded, FitAdded, CancelRemove, CancelLoad, FitGivenBack, Abandon, Position, Out, Unlisted, Waiting, Holding, At, Words, Next, action_of, next_of, position_after, seat_of, effect_of, entries_after, Finds, Semaphore, IsSemaphore, answer_by, position_at, sizes_of, verdict, knows, goes_with, IsSemaphoreTable, TableSteps}
use Rattle.world_semaphore.specs.machine.Ranks.{left, left_at, is_own_marked, steps_left}
use Rattle.world_semaphore.proofs.of_machine.stages.Taking.{taken}
use Rattle.world_semaphore.proofs.of_machine.stages.Turns.{Turn, turn}
use Rattle.world_semaphore.specs.Whole.{most_steps_of}
use Rattle.world_semaphore.proofs.step.Acting.{Acting}
use Rattle.world_semaphore.proofs.step.Acting as acting
use Rattle.world_semaphore.proofs.step.Stepping.{by_step}

-- how many steps are left once this was found, by whether the party's own entry is marked then
abbrev pub LeftBy : Next → Bool → ℕ
LeftBy n marked = left_by (answer_by n) (left_at (position_after n) marked)

abbrev pub Left : Place → Found → Bool → ℕ
Left x f marked = LeftBy (next_of x f) marked

module _ (memory : Bool) (size : ℕ → ℕ) (p : ℕ) (w : Words) (l : List (Entry ℕ)) where
  abbrev own : Bool
  own = is_marked_at (is_party p) l

  abbrev told_then : Place → Found → Bool
  told_then x f = is_marked_at (is_party p) (entries_after size p (effect_of (action_of x) f) l)

  pub fewer : (x : Place) (f : Found) → Finds memory p (action_of x) f w l → entries_of p l ≡ (seat_of x).listed → Left x f (told_then x f) < left x own
  fewer (Take k true told) (Left_there a) e n = removes own where
    removes : (b : Bool) → (if b then 3 else 2) < (if b then 7 else 3)
    removes true = omega arith
    removes false = omega arith
  fewer (Take k true told) (Short a) e n = asks own where
    asks : (b : Bool) → (if b then 6 else 2) < (if b then 7 else 3)
    asks true = omega arith
    asks false = omega arith
  fewer (Take k false true) (Left_there a) e n = taken (λ m. LeftBy m own < 5) k a (omega arith) (λ none. omega arith)
  fewer (Take k false false) (Left_there a) e n = omega arith
  fewer (Take k false told) (Short a) e n = omega arith
  fewer (Take k there told) _ e n = absurd e
  fewer (Retake k) (Left_there a) e n = removes own where
    removes : (b : Bool) → (if b then 3 else 2) < (if b then 7 else 3)
    removes true = omega arith
    removes false = omega arith
  fewer (Retake k) (Short a) e n = asks own where
    asks : (b : Bool) → (if b then 6 else 2) < (if b then 7 else 3)
    asks true = omega arith
    asks false = omega arith
  fewer (Retake k) _ e n = absurd e
  fewer (Join k told) Done e n = let un = joined_unmarked p l n in rw un (omega arith)
  fewer (Join k (Some a)) NoMemory e n = omega arith
  fewer (Join k None) NoMemory e n = omega arith
  fewer (Join k told) _ e n = absurd e
  fewer (Ask k told) Yes e n = rw e (omega arith)
  fewer (Ask k (Some a)) No e n = rw e (omega arith)
  fewer (Ask k None) No e n = rw e (omega arith)
  fewer (Ask k told) _ e n = absurd e
  fewer (Remove k more) Yes e n = rw e (omega arith)
  fewer (Remove k (Some a)) No e n = rw e (omega arith)
  fewer (Remove k None) No e n = rw e (omega arith)
  fewer (Remove k more) _ e n = absurd e
  fewer (Load k) f e n = omega arith
  fewer (HandOn k a) f e n = omega arith
  fewer (PassOn k a) f e n = omega arith
  fewer (RefuseFit k a) f e n = omega arith
  fewer (Try k) (Left_there a) e n = omega arith
  fewer (Try k) (Short a) e n = omega arith
  fewer (Try k) _ e n = absurd e
  fewer (Lower k) f e n = omega arith
  fewer (GiveBack k) f e n = omega arith
  fewer (Raise k) Done e n = omega arith
  fewer (Raise k) PastLimit e n = omega arith
  fewer (Raise k) _ e n = absurd e
  fewer (GiveAdded k) f e n = omega arith
  fewer (FitAdded a) f e n = omega arith
  fewer CancelRemove Yes e n = omega arith
  fewer CancelRemove No e n = omega arith
  fewer CancelRemove _ e n = absurd e
  fewer CancelLoad f e n = omega arith
  fewer (FitGivenBack a) f e n = omega arith
  fewer Abandon f e n = omega arith

-- how many steps are left at most of a call that is decided, be its entry marked or not
abbrev pub last_left : Semaphore → ℕ → ℕ
last_left s p = left_at (position_at s.positions p) true

fewer_last : (x : Place) (f : Found) → is_some (verdict (At x)) ≡ true → Left x f true < left x true
fewer_last (Remove k more) Yes d = omega arith
fewer_last (Remove k (Some a)) _ d = omega arith
fewer_last (Remove k None) _ d = omega arith
fewer_last (Load k) f d = omega arith
fewer_last (HandOn k a) f d = omega arith
fewer_last (PassOn k a) f d = omega arith
fewer_last (RefuseFit k a) f d = omega arith
fewer_last (Lower k) f d = omega arith
fewer_last (GiveBack k) f d = omega arith
fewer_last (GiveAdded k) f d = omega arith
fewer_last (FitAdded a) f d = omega arith
fewer_last CancelRemove Yes d = omega arith
fewer_last CancelRemove _ d = omega arith
fewer_last CancelLoad f d = omega arith
fewer_last (FitGivenBack a) f d = omega arith
fewer_last Abandon f d = omega arith
fewer_last _ f d = absurd (cc d)

pub few_last : (x : Position) → is_some (verdict x) ≡ true → left_at x true ≤ 3
few_last (At (Remove k more)) d = omega arith
few_last (At (Load k)) d = omega arith
few_last (At (HandOn k a)) d = omega arith
few_last (At (PassOn k a)) d = omega arith
few_last (At (RefuseFit k a)) d = omega arith
few_last (At (Lower k)) d = omega arith
few_last (At (GiveBack k)) d = omega arith
few_last (At (GiveAdded k)) d = omega arith
few_last (At (FitAdded a)) d = omega arith
few_last (At CancelRemove) d = omega arith
few_last (At CancelLoad) d = omega arith
few_last (At (FitGivenBack a)) d = omega arith
few_last (At Abandon) d = omega arith
few_last _ d = absurd (cc d)

-- at least one step is left
some_left : (x : Place) (b : Bool) → 0 < left x b
some_left (Take k false told) b = omega arith
some_left (Take k true told) true = omega arith
some_left (Take k true told) false = omega arith
some_left (Retake k) true = omega arith
some_left (Retake k) false = omega arith
some_left (Ask k told) true = omega arith
some_left (Ask k told) false = omega arith
some_left (Remove k more) true = omega arith
some_left (Remove k more) false = omega arith
some_left _ b = omega arith

pub some_at : (x : Position) (b : Bool) → 0 < left_at x b
some_at (At x) b = some_left x b
some_at Out b = omega arith
some_at (Unlisted k) b = omega arith
some_at (Waiting k) b = omega arith
some_at (Holding k) b = omega arith

one_at_least : (c : Call) → 1 ≤ most_steps_of c
one_at_least (Call.Acquire k) = omega arith
one_at_least Call.Poll = omega arith
one_at_least Call.Drop = omega arith
one_at_least (Call.AddPermits n) = omega arith
one_at_least _ = omega arith

-- no call has more left where it begins than it may take
abbrev Within_most : Stage → What → Within → Position → Place → Type 0
Within_most s (Begin c i) w x from = (b : Bool) → left from b ≤ most_steps_of c
Within_most s (Go i) w x from = x ≡ At from

at_most_seven : (k : ℕ) (b : Bool) → left (Retake k) b ≤ 7
at_most_seven k true = omega arith
at_most_seven k false = omega arith

within_most : (s : Stage) (what : What) (w : Within) (x : Position) → goes_with s x ≡ true → call_at knows s what ≡ Some w → polls_again s what ≡ false → Turn Within_most s what w x
within_most = turn Within_most (record {
  acquire = λ k i b. omega arith;
  try = λ k i b. omega arith;
  add = λ n i b. omega arith;
  poll = λ k i b. omega arith;
  poll_listed = λ k i b. at_most_seven k b;
  abandon = λ k i b. omega arith;
  cancel = λ k i b. omega arith;
  give_back = λ k i b. omega arith;
  forget = λ k i b. omega arith;
  go = λ w x i begun here. refl;
})

module _ (t u : Table Semaphore) (m : Move) (a : Answer) where
  abbrev p : ℕ
  p = m.party

  -- one step of the party leaves less to do than there was at its place
  less : (w : Within) (k : Acting t u m a w) → left_by a (steps_left u.machine p) < left k.from (is_own_marked t.machine p)
  less w k =
      let own : entries_of p t.machine.entries ≡ (seat_of k.from).listed = acting.own_entries t u m a w k in
      let here = fewer (inputs_of m.what).memory (sizes_of t.machine.positions) p t.machine.words t.machine.entries k.from k.found k.acts.finds own in
      let marks : is_own_marked u.machine p ≡ is_marked_at (is_party p) (entries_after (sizes_of t.machine.positions) p (effect_of (action_of k.from) k.found) t.machine.entries) = ap (is_marked_at (is_party p)) k.acts.entries in
      let same : left_by a (steps_left u.machine p) ≡ Left k.from k.found (is_marked_at (is_party p) (entries_after (sizes_of t.machine.positions) p (effect_of (action_of k.from) k.found) t.machine.entries)) =
      ap (λ b. left_by b (steps_left u.machine p)) k.answer ∙ (ap (λ x. left_by (answer_by (next_of k.from k.found)) (left_at x (is_own_marked u.machine p))) (acting.lands t u m a w k) ∙ ap (λ b. Left k.from k.found b) marks) in
      rw same here

  pub from_turn : (w : Within) (k : Acting t u m a w) → Within_most (stage_at t.stages p) m.what w (position_at t.machine.positions p) k.from
  from_turn w k =
      let turned = within_most (stage_at t.stages p) m.what w (position_at t.machine.positions p) (k.old_fits.stands p k.inside) k.call k.first in
      let same : turned.from ≡ k.from = some_eq (sym turned.starts ∙ k.starts) in
      let P : Place → Type 0 = λ y. Within_most (stage_at t.stages p) m.what w (position_at t.machine.positions p) y in
      subst P same turned.holds

module _ (t u : Table Semaphore) (tl : IsSemaphore t.machine) (tf : IsSemaphoreTable t) (ul : IsSemaphore u.machine) (uf : IsSemaphoreTable u) (p : ℕ) (i : Inputs) (a : Answer) where
  pub begins : (c : Call) → TableSteps t (beginning p c i) a u → 1 + left_by a (steps_left u.machine p) ≤ most_steps_of c
  begins c step = by_step t u (beginning p c i) a tl tf ul uf (λ b x. 1 + left_by b (steps_left x.machine p) ≤ most_steps_of c) (λ e. one_at_least c) (λ w e f. one_at_least c)
      (λ w k. let few = from_turn t u (beginning p c i) a w k (is_own_marked t.machine p) in omega (arith, less t u (beginning p c i) a w k, few)) step

  -- where the call is decided, whatever is marked
  pub falls_last : TableSteps t (going_on p i) a u → is_some (verdict (position_at t.machine.positions p)) ≡ true → left_by a (last_left u.machine p) < last_left t.machine p
  falls_last step decided =
      let some = some_at (position_at t.machine.positions p) true in
      by_step t u (going_on p i) a tl tf ul uf (λ b x. left_by b (last_left x.machine p) < last_left t.machine p) (λ e. some) (λ w e f. some)
      (λ w k. (
      let here : position_at t.machine.positions p ≡ At k.from = from_turn t u (going_on p i) a w k in
      let same : left_by a (last_left u.machine p) ≡ Left k.from k.found true = ap (λ b. left_by b (last_left u.machine p)) k.answer ∙ ap (λ x. left_by (answer_by (next_of k.from k.found)) (left_at x true)) (acting.lands t u (going_on p i) a w k) in
      let D : Position → Type 0 = λ x. is_some (verdict x) ≡ true in
      let less = fewer_last k.from k.found (subst D here decided) in
      omega (arith, same, less, ap (λ x. left_at x true) here)))
      step

  pub falls : TableSteps t (going_on p i) a u → left_by a (steps_left u.machine p) < steps_left t.machine p
  falls step =
      let some = some_at (position_at t.machine.positions p) (is_own_marked t.machine p) in
      by_step t u (going_on p i) a tl tf ul uf (λ b x. left_by b (steps_left x.machine p) < steps_left t.machine p) (λ e. some) (λ w e f. some)
      (λ w k. let P : Position → Type 0 = λ x. left_by a (steps_left u.machine p) < left_at x (is_own_marked t.machine p) in subst P (sym (from_turn t u (going_on p i) a w k)) (less t u (going_on p i) a w k)) step
