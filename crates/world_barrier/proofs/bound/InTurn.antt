-- However the others step, a party that is starved for the inner lock and waits in its list is overtaken at most as often as entries stand before its own and parties are inside calls.
use Rattle.world_barrier.proofs.Prelude.{◌≡◌, ◌≢◌, ℕ, ◌+◌, ◌-◌, ◌<◌, ◌≤◌, ◌⊎◌, inl, inr, if◌then◌else◌, Bool, true, false, List, length, Option, Some, None, refl, sym, ap, ◌∙◌, arith, entries_of, Answer, Call, Inputs, inputs_of, action_of, What, Move, Rest, Stage, Within, stage_at, call_at, polls_again, is_outside_stage, Table, Action, Found, Mutex, Course, holds, holder_of, course_at, OnLock, Position, position_at, in_lock, fits_lock, Barrier, Out, is_resting, knows, Moves, goes_with, verdict_in, World, Stands}
use Rattle.world_base.specs.Overtaking.{before, how_many_inside, StepsPast}
use Rattle.world_base.specs.table.Tables.{Does}
use Rattle.world_base.proofs.Overtaking.{few_inside, seldom_in_steps}
use Rattle.world_base.proofs.of_table.Mapped.{past_last}
use Rattle.world_base.proofs.of_table.Past.{inside_or_past}
use Rattle.world_mutex.specs.machine.Course.{bit, heard, counted, out}
use Rattle.world_mutex.proofs.of_machine.callers.Hearing.{hearing, moved, begins, goes_on, rests_unheard, heard_once, holds_not}
use Rattle.world_mutex.proofs.of_machine.callers.Hearing as mutex
use Rattle.world_mutex.proofs.of_machine.callers.Holders as sees
use Rattle.world_barrier.specs.Overtaking.{starved_in, HoldsLock, IsOvertakenSeldomInSteps}
use Rattle.world_barrier.specs.State.{is_starved}
use Rattle.world_barrier.specs.Steps.{Steps}
use Rattle.world_barrier.proofs.laws.Sound.{resting, rests_in_lock}

abbrev known_calls : Barrier → ℕ → Call → Bool
known_calls s p = knows

-- ---- what a step does to the inner lock

on_lock : (i : Inputs) (p : ℕ) (a : Action) (f : Found) (m n : Mutex) → OnLock i p a f m n → (n ≡ m) ⊎ mutex.Moves p m n
on_lock i p (Action.Begin c) (Found.Lock s) m n o = inr (begins i.memory i.starving p c s m n o)
on_lock i p (Action.Begin c) _ m n o = absurd o
on_lock i p Action.Go (Found.Lock s) m n o = inr (goes_on i.memory i.starving p s m n o)
on_lock i p Action.Go _ m n o = absurd o
on_lock i p _ f m n o = inl o

-- a party of the table moves, or nothing changes there
abbrev IsMoved : ℕ → Table Barrier → Table Barrier → Type 0
IsMoved p t u = (u.machine.lock ≡ t.machine.lock) ⊎ mutex.Moves p t.machine.lock u.machine.lock

pub acts_or_not : (o : Option Within) (again : Bool) (t : Table Barrier) (m : Move) (a : Answer) (u : Table Barrier) → Does known_calls Rest.Finished Moves o again t m a u → IsMoved m.party t u
acts_or_not None again t m a u d = inl (ap (λ x. x.machine.lock) d.1)
acts_or_not (Some w) true t m a u d = inl (ap (λ x. x.machine.lock) d.1)
acts_or_not (Some w) false t m a u d = on_lock (inputs_of m.what) m.party (action_of d.acts.from) d.acts.found t.machine.lock u.machine.lock d.acts.acts.lock

-- ---- who has heard a notification for it, and hasn't used it

abbrev hearing_in : World → ℕ
hearing_in w = hearing w.behind.machine.lock

inside_only : (s : Stage) (x : Position) (c : Course) → goes_with s x ≡ true → fits_lock (in_lock x) c ≡ true → heard c ≤ (if is_outside_stage s then 0 else 1)
inside_only s x c fits there = by_stage (is_outside_stage s) refl where
  by_stage : (b : Bool) → is_outside_stage s ≡ b → heard c ≤ (if b then 0 else 1)
  by_stage true outside = omega (arith, rests_unheard c (rests_in_lock x c (resting s x fits outside) there))
  by_stage false outside = heard_once c

few_hear : (w : World) → Stands w → hearing_in w ≤ how_many_inside w.standings
few_hear w stood =
    let t = w.behind in
    let s = t.machine in
    let each : (p : ℕ) → heard (course_at s.lock.courses p) ≤ (if is_outside_stage (stage_at t.stages p) then 0 else 1) = λ p. elim (inside_or_past t.stages p) as (λ _. heard (course_at s.lock.courses p) ≤ (if is_outside_stage (stage_at t.stages p) then 0 else 1)) [
      | inl known ↦ inside_only (stage_at t.stages p) (position_at s.positions p) (course_at s.lock.courses p) (stood.fits.stands p known) (stood.laws.links p)
      | inr past ↦ (let none = rests_unheard (course_at s.lock.courses p) (rests_in_lock (position_at s.positions p) (course_at s.lock.courses p) (ap is_resting (past_last s.positions p Out (omega (arith, past.0, stood.fits.as_many)))) (stood.laws.links p)) in omega (arith, none))
    ] in
    let few : hearing_in w ≤ how_many_inside _ = few_inside heard (verdict_in s) 0 s.lock.courses t.stages out each in
    rw (ap (λ x. x.standings) stood.seen) few

-- ---- a step of another

abbrev IsPast : ℕ → World → Move → Answer → World → Type 0
IsPast = StepsPast Steps (λ w. w.lock_list) starved_in HoldsLock (λ w. w.standings)

module _ (q : ℕ) (w : World) (m : Move) (a : Answer) (v : World) (by : IsPast q w m a v) where
  abbrev l : Mutex
  l = w.behind.machine.lock

  abbrev k : Mutex
  k = v.behind.machine.lock

  abbrev p : ℕ
  p = m.party

  entries_then : w.lock_list ≡ l.entries
  entries_then = ap (λ x. x.lock_list) by.step.did.stood.seen

  entries_now : v.lock_list ≡ k.entries
  entries_now = ap (λ x. x.lock_list) by.step.did.stands.seen

  starved_there : counted (course_at l.courses q) ≡ 1
  starved_there = sym (sees.counted_bit (course_at l.courses q)) ∙ ap bit (sym (sees.starved_at l.courses q) ∙ (sym (ap (λ x. is_starved x.lock q) by.step.did.stood.seen) ∙ by.starved))

  there : 0 < entries_of q l.entries
  there = omega (arith, by.listed, ap (entries_of q) entries_then)

  moves : IsMoved p w.behind v.behind → hearing k + before q k.entries + (holds (course_at k.courses p) - holds (course_at l.courses p)) ≤ hearing l + before q l.entries
  moves (inl same) = omega (arith, ap hearing same, ap (λ x. before q x.entries) same, ap (λ x. holds (course_at x.courses p)) same)
  moves (inr d) = moved q p l k by.another starved_there there (inr d)

  moved_so : hearing_in v + before q v.lock_list + (holds (course_at k.courses p) - holds (course_at l.courses p)) ≤ hearing_in w + before q w.lock_list
  moved_so =
      let t = w.behind in
      let it = moves (acts_or_not (call_at (known_calls t.machine p) (stage_at t.stages p) m.what) (polls_again (stage_at t.stages p) m.what) t m a v.behind by.step.did.step) in
      omega (arith, it, ap (before q) entries_then, ap (before q) entries_now)

  never_more : hearing_in v + before q v.lock_list ≤ hearing_in w + before q w.lock_list
  never_more = omega (arith, moved_so)

  got : (HoldsLock w p → ⊥) → HoldsLock v p → hearing_in v + before q v.lock_list + 1 ≤ hearing_in w + before q w.lock_list
  got before_not now =
      let has : holds (course_at k.courses p) ≡ 1 = sees.is_held_by k.courses p (sym (ap (λ x. x.lock.holder) by.step.did.stands.seen) ∙ now) in
      let had : holds (course_at l.courses p) ≡ 0 = holds_not l p by.step.did.stood.laws.lock (λ is. before_not (ap (λ x. x.lock.holder) by.step.did.stood.seen ∙ is)) in
      omega (arith, moved_so, has, had)

-- ---- steps in turn

pub overtaken_in_steps : (w : World) → IsOvertakenSeldomInSteps w
overtaken_in_steps w q steps n v h = seldom_in_steps Steps (λ y. y.lock_list) starved_in HoldsLock (λ y. y.standings) hearing_in
    (λ q w m a v by. few_hear w by.step.did.stood) never_more got q steps n w v h
