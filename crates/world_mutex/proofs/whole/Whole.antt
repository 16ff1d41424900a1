-- A call that is carried out alone ends within its number of steps.
use Rattle.world_mutex.proofs.Prelude.{◌≡◌, ℕ, ◌+◌, ◌<◌, ◌≤◌, Bool, true, false, Option, Some, None, refl, arith, ap, sym, ◌∙◌, subst, Answer, Call, Value, Inputs, Move, What, Begin, Go, Finished, Rest, Stage, Within, put_in, inputs_of, refused, going_on, some_eq, beginning, left_by, stage_at, call_at, polls_again, Table, Acted, way, by_way, End, Next, Place, Ask, AskStarved, IsMutex, Lock, left, steps_left, left_after, is_own_marked, is_open, Guarded, knows, Moves, MovesBy, answer_by, is_try_kind, place_of, with_value, goes_with, IsMutexTable, TableSteps}
use Rattle.world_mutex.proofs.of_machine.falls.Alone.{fewer}
use Rattle.world_mutex.proofs.of_machine.legal.Sights.{some_left}
use Rattle.world_mutex.specs.Whole.{most_steps_of}
use Rattle.world_mutex.proofs.step.Acting as acting
use Rattle.world_mutex.proofs.step.Here.{same_roles}
use Rattle.world_mutex.proofs.step.Stepping.{known_calls, carried}
use Rattle.world_mutex.proofs.table.Turns.{Turn, turn}

one_at_least : (c : Call) → 1 ≤ most_steps_of c
one_at_least Call.Lock = omega arith
one_at_least Call.Poll = omega arith
one_at_least Call.Drop = omega arith
one_at_least _ = omega arith

-- no call has more left where it begins than it may take
abbrev WithinMost : Stage → What → Within → Place → Place → Type 0
WithinMost s (Begin c i) w x from = (m o : Bool) → left from m o ≤ most_steps_of c
WithinMost s (Go i) w x from = x ≡ from

ask_at_most : (m o : Bool) → left Ask m o ≤ 12
ask_at_most m o = grind arith

ask_starved_at_most : (m o : Bool) → left AskStarved m o ≤ 12
ask_starved_at_most m o = grind arith

within_most : (s : Stage) (what : What) (w : Within) (x : Place) → goes_with s x ≡ true → call_at knows s what ≡ Some w → polls_again s what ≡ false → put_in what ≡ None → Turn WithinMost s what w x
within_most = turn WithinMost (record {
  lock = λ i m o. omega arith;
  try = λ i m o. omega arith;
  poll = λ i m o. omega arith;
  poll_listed = λ i m o. ask_at_most m o;
  poll_starved = λ i m o. ask_starved_at_most m o;
  abandon = λ i m o. omega arith;
  cancel = λ i m o. omega arith;
  cancel_starved = λ i m o. omega arith;
  release = λ i m o. omega arith;
  go = λ w x i h. refl;
})

left_said : (trying : Bool) (v : ℕ) (n : Next) (l : Lock) (p : ℕ) → left_by (answer_by trying v n) (steps_left l p) ≡ left_after n l p
left_said trying v (Next.Do a q) l p = refl
left_said true v (Next.End End.Got) l p = refl
left_said false v (Next.End End.Got) l p = refl
left_said trying v (Next.End End.Pending) l p = refl
left_said trying v (Next.End End.NotFree) l p = refl
left_said trying v (Next.End End.Granted) l p = refl
left_said trying v (Next.End End.Waiting) l p = refl
left_said trying v (Next.End End.GivenBack) l p = refl
left_said trying v (Next.End (End.Refused r)) l p = refl

module _ (t u : Table Guarded) (m : Move) (a : Answer) where
  abbrev p : ℕ
  p = m.party

  abbrev Left : Answer → Table Guarded → ℕ
  Left b x = left_by b (steps_left x.machine.lock p)

  -- one step of the party leaves less to do than there was at its place
  less : (w : Within) (k : acting.Acting t u m a w) → Left a u < left k.carries.from (is_own_marked t.machine.lock p) (is_open t.machine.lock)
  less w k =
      let said : Left a u ≡ left_after k.carries.next u.machine.lock p = ap (λ b. Left b u) k.carries.answer ∙ left_said (is_try_kind w.kind) t.machine.value k.carries.next u.machine.lock p in
      let few = fewer (inputs_of m.what).memory p k.carries.from k.carries.next t.machine.lock u.machine.lock (acting.there t u m a w k) (same_roles (stage_at t.stages p) w (place_of t.machine p) k.carries.from k.here.begins) (k.old_laws.owners p) k.carries.carried.acts in
      omega arith

  pub from_turn : (w : Within) (k : acting.Acting t u m a w) → WithinMost (stage_at t.stages p) m.what w (place_of t.machine p) k.carries.from
  from_turn w k =
      let turned = within_most (stage_at t.stages p) m.what w (place_of t.machine p) (k.old_fits.stands p k.inside) k.call k.first k.none in
      let P : Place → Type 0 = WithinMost (stage_at t.stages p) m.what w (place_of t.machine p) in
      subst P (some_eq (sym turned.starts ∙ k.carries.starts)) turned.holds

  module _ (tl : IsMutex t.machine.lock) (tf : IsMutexTable t) (ul : IsMutex u.machine.lock) (uf : IsMutexTable u) (P : Answer → Table Guarded → Type 0) where
    -- what holds where nothing is left, and where the lock acted, holds of each step
    by_put : (w : Within) → call_at knows (stage_at t.stages p) m.what ≡ Some w → polls_again (stage_at t.stages p) m.what ≡ false → (d : Acted known_calls Rest.Holding Moves w t m a u) → ((n : ℕ) → u.machine ≡ with_value t.machine n → P (Answer.Granted (Value n)) u) → (acting.Acting t u m a w → P a u) → (o : Option ℕ) → put_in m.what ≡ o → P a u
    by_put w e f d put act None none = act (carried t u m a tl tf ul uf w e f d none)
    by_put w e f d put act (Some n) some = (let Q : Option ℕ → Type 0 = λ o. MovesBy o t.machine p w m.what a u.machine in let k : Q (Some n) = subst Q some d.acts in let A : Answer → Type 0 = λ b. P b u in subst A (sym k.0) (put n k.1))

    pub by_step : P Answer.NotPossible t → P (refused Finished) t → ((n : ℕ) → u.machine ≡ with_value t.machine n → P (Answer.Granted (Value n)) u) → ((w : Within) → acting.Acting t u m a w → P a u) → TableSteps t m a u → P a u
    by_step none again put act step = by_way known_calls Rest.Holding Moves t u m a P (λ e. none) (λ w e f. again) (λ w e f d. by_put w e f d put (act w) (put_in m.what) refl) (way known_calls Rest.Holding Moves t u m a step)

pub begins : (t u : Table Guarded) (p : ℕ) (c : Call) (i : Inputs) (a : Answer) → IsMutex t.machine.lock → IsMutexTable t → IsMutex u.machine.lock → IsMutexTable u → TableSteps t (beginning p c i) a u → 1 + left_by a (steps_left u.machine.lock p) ≤ most_steps_of c
begins t u p c i a tl tf ul uf step = by_step t u (beginning p c i) a tl tf ul uf (λ b x. 1 + left_by b (steps_left x.machine.lock p) ≤ most_steps_of c) (one_at_least c) (one_at_least c) (λ n e. one_at_least c)
    (λ w k. let few = from_turn t u (beginning p c i) a w k (is_own_marked t.machine.lock p) (is_open t.machine.lock) in omega (arith, less t u (beginning p c i) a w k, few)) step

pub falls : (t u : Table Guarded) (p : ℕ) (i : Inputs) (a : Answer) → IsMutex t.machine.lock → IsMutexTable t → IsMutex u.machine.lock → IsMutexTable u → TableSteps t (going_on p i) a u → left_by a (steps_left u.machine.lock p) < steps_left t.machine.lock p
falls t u p i a tl tf ul uf step =
    let some = some_left (place_of t.machine p) (is_own_marked t.machine.lock p) (is_open t.machine.lock) in
    by_step t u (going_on p i) a tl tf ul uf (λ b x. left_by b (steps_left x.machine.lock p) < steps_left t.machine.lock p) some some (λ n e. some)
    (λ w k. let P : Place → Type 0 = λ y. left_by a (steps_left u.machine.lock p) < left y (is_own_marked t.machine.lock p) (is_open t.machine.lock) in subst P (sym (from_turn t u (going_on p i) a w k)) (less t u (going_on p i) a w k)) step
