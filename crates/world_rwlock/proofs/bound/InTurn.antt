-- However the others step, a party that is starved for the turn and waits in its list is overtaken at most as often as entries stand before its own and parties are inside calls.
use Rattle.world_rwlock.proofs.Prelude.{◌≡◌, ◌≢◌, ℕ, ◌+◌, ◌-◌, ◌<◌, ◌≤◌, ◌⊎◌, inl, inr, if◌then◌else◌, Bool, true, false, List, length, Option, Some, None, refl, sym, ap, ◌∙◌, arith, entries_of, Answer, What, Move, Rest, Stage, Within, stage_at, call_at, polls_again, is_outside_stage, put_in, Table, Action, Found, Mutex, TurnCourse, counted, holds, holder_of, turn_at, Place, place_at, OnTurn, RwLock, Guarded, is_resting, World, Stands, goes_with, fits_turn, verdict_of, subst, turn_by, share_of, view_of}
use Rattle.world_base.specs.Overtaking.{before, how_many_inside, StepsPast}
use Rattle.world_base.specs.table.Tables.{Does}
use Rattle.world_base.proofs.Overtaking.{few_inside, seldom_in_steps}
use Rattle.world_base.proofs.of_table.Mapped.{past_last}
use Rattle.world_base.proofs.of_table.Past.{inside_or_past}
use Rattle.world_mutex.specs.machine.Course.{bit, heard, out as turn_out}
use Rattle.world_mutex.proofs.of_machine.callers.Hearing.{hearing, moved, begins, goes_on, rests_unheard, heard_once, holds_not}
use Rattle.world_mutex.proofs.of_machine.callers.Hearing as turn
use Rattle.world_mutex.proofs.of_machine.callers.Holders as sees
use Rattle.world_rwlock.specs.Guarded.{Does as DoesBy, Moves, knows}
use Rattle.world_rwlock.specs.Overtaking.{HasItsTurn, IsOvertakenSeldomInSteps}
use Rattle.world_rwlock.specs.State.{is_starved}
use Rattle.world_rwlock.specs.Steps.{Steps}
use Rattle.world_rwlock.proofs.laws.Sound.{rests}
use Rattle.world_rwlock.proofs.of_machine.laws.Laws.{rests_t}
use Rattle.world_rwlock.proofs.step.Owns.{has_as, holder_has}

-- ---- what a step does to the turn

on_turn : (memory starving : Bool) (p : ℕ) (a : Action) (f : Found) (m n : Mutex) → OnTurn memory starving p a f m n → (n ≡ m) ⊎ turn.Moves p m n
on_turn memory starving p (Action.Begin c) (Found.Turn s) m n o = inr (begins memory starving p c s m n o)
on_turn memory starving p (Action.Begin c) _ m n o = absurd o
on_turn memory starving p Action.Go (Found.Turn s) m n o = inr (goes_on memory starving p s m n o)
on_turn memory starving p Action.Go _ m n o = absurd o
on_turn memory starving p _ f m n o = inl o

-- a party of the table moves, or nothing changes there
abbrev IsMoved : ℕ → Table Guarded → Table Guarded → Type 0
IsMoved p t u = (u.machine.lock.turn ≡ t.machine.lock.turn) ⊎ turn.Moves p t.machine.lock.turn u.machine.lock.turn

turn_by_put : (o : Option ℕ) (t u : Table Guarded) (p : ℕ) (what : What) (a : Answer) → DoesBy o t.machine p what a u.machine → IsMoved p t u
turn_by_put (Some v) t u p what a d = inl (ap (λ x. x.lock.turn) d.1)
turn_by_put None t u p what a d = on_turn _ _ p _ d.acts.found t.machine.lock.turn u.machine.lock.turn d.acts.turn

pub acts_or_not : (o : Option Within) (again : Bool) (t : Table Guarded) (m : Move) (a : Answer) (u : Table Guarded) → Does knows Rest.Holding Moves o again t m a u → IsMoved m.party t u
acts_or_not None again t m a u d = inl (ap (λ x. x.machine.lock.turn) d.1)
acts_or_not (Some w) true t m a u d = inl (ap (λ x. x.machine.lock.turn) d.1)
acts_or_not (Some w) false t m a u d = turn_by_put (put_in m.what) t u m.party m.what a d.acts

-- ---- who has heard a notification for it, and hasn't used it

abbrev hearing_in : World → ℕ
hearing_in w = hearing w.behind.machine.lock.turn

inside_only : (s : Stage) (x : Place) (c : TurnCourse) → goes_with s x ≡ true → fits_turn x c ≡ true → heard c ≤ (if is_outside_stage s then 0 else 1)
inside_only s x c fits there = by_stage (is_outside_stage s) refl where
  by_stage : (b : Bool) → is_outside_stage s ≡ b → heard c ≤ (if b then 0 else 1)
  by_stage true outside = omega (arith, rests_unheard c (rests_t x c (rests s x fits outside) there))
  by_stage false outside = heard_once c

few_hear : (w : World) → Stands w → hearing_in w ≤ how_many_inside w.standings
few_hear w stood =
    let t = w.behind in
    let v = t.machine.lock in
    let each : (p : ℕ) → heard (turn_at v.turn.courses p) ≤ (if is_outside_stage (stage_at t.stages p) then 0 else 1) = λ p. elim (inside_or_past t.stages p) as (λ _. heard (turn_at v.turn.courses p) ≤ (if is_outside_stage (stage_at t.stages p) then 0 else 1)) [
      | inl known ↦ inside_only (stage_at t.stages p) (place_at v.places p) (turn_at v.turn.courses p) (stood.fits.stands p known) (stood.laws.in_turn p)
      | inr past ↦ (let none = rests_unheard (turn_at v.turn.courses p) (rests_t (place_at v.places p) (turn_at v.turn.courses p) (ap is_resting (past_last v.places p Place.Out (omega (arith, past.0, stood.fits.as_many)))) (stood.laws.in_turn p)) in omega (arith, none))
    ] in
    let few : hearing_in w ≤ how_many_inside _ = few_inside heard (verdict_of t.machine) 0 v.turn.courses t.stages turn_out each in
    rw (ap (λ x. x.standings) stood.seen) few

-- ---- a step of another

-- a World as it is seen
abbrev shown : World → World
shown w = view_of w.behind

abbrev IsPast : ℕ → World → Move → Answer → World → Type 0
IsPast = StepsPast Steps (λ w. w.turn_list) is_starved HasItsTurn (λ w. w.standings)

module _ (q : ℕ) (w : World) (m : Move) (a : Answer) (v : World) (by : IsPast q w m a v) where
  abbrev l : Mutex
  l = w.behind.machine.lock.turn

  abbrev k : Mutex
  k = v.behind.machine.lock.turn

  abbrev p : ℕ
  p = m.party

  entries_then : w.turn_list ≡ l.entries
  entries_then = ap (λ x. x.turn_list) by.step.did.stood.seen

  entries_now : v.turn_list ≡ k.entries
  entries_now = ap (λ x. x.turn_list) by.step.did.stands.seen

  starved_there : counted (turn_at l.courses q) ≡ 1
  starved_there = sym (sees.counted_bit (turn_at l.courses q)) ∙ ap bit (sym (sees.starved_at l.courses q) ∙ (sym (ap (λ x. is_starved x q) by.step.did.stood.seen) ∙ by.starved))

  there : 0 < entries_of q l.entries
  there = omega (arith, by.listed, ap (entries_of q) entries_then)

  moves : IsMoved p w.behind v.behind → hearing k + before q k.entries + (holds (turn_at k.courses p) - holds (turn_at l.courses p)) ≤ hearing l + before q l.entries
  moves (inl same) = omega (arith, ap hearing same, ap (λ x. before q x.entries) same, ap (λ x. holds (turn_at x.courses p)) same)
  moves (inr d) = moved q p l k by.another starved_there there (inr d)

  moved_so : hearing_in v + before q v.turn_list + (holds (turn_at k.courses p) - holds (turn_at l.courses p)) ≤ hearing_in w + before q w.turn_list
  moved_so =
      let t = w.behind in
      let it = moves (acts_or_not (call_at (knows t.machine p) (stage_at t.stages p) m.what) (polls_again (stage_at t.stages p) m.what) t m a v.behind by.step.did.step) in
      omega (arith, it, ap (before q) entries_then, ap (before q) entries_now)

  never_more : hearing_in v + before q v.turn_list ≤ hearing_in w + before q w.turn_list
  never_more = omega (arith, moved_so)

  got : (HasItsTurn w p → ⊥) → HasItsTurn v p → hearing_in v + before q v.turn_list + 1 ≤ hearing_in w + before q w.turn_list
  got before_not now =
      let lw = w.behind.machine.lock in
      let lv = v.behind.machine.lock in
      let now_so : HasItsTurn (shown v) p = subst (λ x. HasItsTurn x p) by.step.did.stands.seen now in
      let has : holds (turn_at k.courses p) ≡ 1 = sees.is_held_by k.courses p (holder_has (holder_of k) lv.places p now_so) in
      let had : holds (turn_at l.courses p) ≡ 0 = holds_not l p by.step.did.stood.laws.turn (λ is. before_not (subst (λ x. HasItsTurn x p) (sym by.step.did.stood.seen) (has_as (turn_by (holder_of l) lw.places) p (share_of (place_at lw.places p)) (ap (λ h. turn_by h lw.places) is)))) in
      omega (arith, moved_so, has, had)

-- ---- steps in turn

pub overtaken_in_steps : (w : World) → IsOvertakenSeldomInSteps w
overtaken_in_steps w q steps n v h = seldom_in_steps Steps (λ y. y.turn_list) is_starved HasItsTurn (λ y. y.standings) hearing_in
    (λ q w m a v by. few_hear w by.step.did.stood) never_more got q steps n w v h
