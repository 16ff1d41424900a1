-- However the others step, a starved party that waits in the list is overtaken at most as often as entries stand before its own and parties are inside calls.
use Rattle.world_mutex.proofs.Prelude.{◌≡◌, ◌≢◌, ℕ, zero, suc, List, Table, bit, get_or-set_same, place_after, call_at, polls_again, ◌+◌, ◌-◌, ◌<◌, ◌≤◌, ◌⊎◌, inl, inr, if◌then◌else◌, Bool, true, false, length, Option, Some, None, refl, sym, ap, ◌∙◌, subst, arith, some_eq, sum_by, sum_by-set, set, entries_of, Answer, What, Begin, Go, Move, Rest, Stage, Within, stage_at, is_outside_stage, inputs_of, put_in, LockCall, Place, Next, Acts, start_of, holds, counted, Lock, IsMutex, place_at, Guarded, place_of, Carries, MovesBy, World, Stands, Steps, is_starved, goes_with, is_resting}
use Rattle.world_base.specs.Overtaking.{before, how_many_inside, StepsPast}
use Rattle.world_base.specs.table.Tables.{Does}
use Rattle.world_base.proofs.Overtaking.{few_inside, seldom_in_steps}
use Rattle.world_base.proofs.of_table.Mapped.{past_last}
use Rattle.world_base.proofs.of_table.Past.{inside_or_past}
use Rattle.world_mutex.specs.Guarded.{Moves, lock_call_of, start_by, place_for}
use Rattle.world_mutex.specs.Overtaking.{starved_in, Holds, IsOvertakenSeldomInSteps}
use Rattle.world_mutex.specs.View.{verdict}
use Rattle.world_mutex.proofs.of_machine.laws.Seen as sees
use Rattle.world_mutex.proofs.of_machine.laws.Starts.{start_same}
use Rattle.world_mutex.proofs.of_machine.legal.InTurn.{heard, heard_at_start, in_turn}
use Rattle.world_mutex.proofs.step.Due.{resting}
use Rattle.world_mutex.proofs.step.Stepping.{known_calls}

-- ---- what a step does to the lock

-- what a call begins with
pub record SameAt (from x : Place) : Type 0 where
  pub counts : counted from ≡ counted x
  pub hears : heard from ≡ heard x
  pub holding : holds from ≡ holds x

same_by : (o : Option LockCall) (x from : Place) → start_by o x ≡ Some from → SameAt from x
same_by None x from e = absurd (cc e)
same_by (Some c) x from e = let same = start_same c x from e in record { counts = same.starving; hears = heard_at_start c x from e; holding = same.holding }

same_for : (was : Rest) (what : What) (x from : Place) → place_for was what x ≡ Some from → SameAt from x
same_for was (Begin c i) x from e = same_by (lock_call_of was c) x from e
same_for was (Go i) x from e = let is : x ≡ from = some_eq e in record { counts = ap counted (sym is); hears = ap heard (sym is); holding = ap holds (sym is) }

-- an action of the lock, from a place like the party's, which is one of its parties
pub record Acted (p : ℕ) (stages : List Stage) (l k : Lock) : Type 0 where
  pub inside : p < length stages
  pub memory : Bool
  pub from : Place
  pub next : Next
  pub acts : Acts memory p from next l k
  pub same : SameAt from (place_at l.places p)

acted_by : (o : Option ℕ) (g : Guarded) (p : ℕ) (ss : List Stage) (w : Within) (what : What) (a : Answer) (h : Guarded) → p < length ss → MovesBy o g p w what a h → (h.lock ≡ g.lock) ⊎ Acted p ss g.lock h.lock
acted_by (Some v) g p ss w what a h inside d = inl (ap (λ x. x.lock) d.1)
acted_by None g p ss w what a h inside d = inr (record { inside = inside; memory = (inputs_of what).memory; from = d.from; next = d.next; acts = d.carried.acts; same = same_for w.was what (place_of g p) d.from d.starts })

-- a step is one such action, or changes nothing there
pub acts_or_not : (o : Option Within) (again : Bool) (t : Table Guarded) (m : Move) (a : Answer) (u : Table Guarded) → Does known_calls Rest.Holding Moves o again t m a u → (u.machine.lock ≡ t.machine.lock) ⊎ Acted m.party t.stages t.machine.lock u.machine.lock
acts_or_not None again t m a u d = inl (ap (λ x. x.machine.lock) d.1)
acts_or_not (Some w) true t m a u d = inl (ap (λ x. x.machine.lock) d.1)
acts_or_not (Some w) false t m a u d = acted_by (put_in m.what) t.machine m.party t.stages w m.what a u.machine d.inside d.acts

-- ---- who has heard a notification, and hasn't used it

abbrev hearing : World → ℕ
hearing w = sum_by heard w.behind.machine.lock.places

rests_unheard : (x : Place) → is_resting x ≡ true → heard x ≡ 0
rests_unheard Place.Out h = refl
rests_unheard Place.Holding h = refl
rests_unheard Place.Ask h = refl
rests_unheard Place.AskStarved h = refl
rests_unheard _ h = absurd (cc h)

heard_once : (x : Place) → heard x ≤ 1
heard_once x = grind arith

holds_once : (x : Place) → holds x ≤ 1
holds_once x = grind arith

inside_only : (s : Stage) (x : Place) → goes_with s x ≡ true → heard x ≤ (if is_outside_stage s then 0 else 1)
inside_only s x fits = by_stage (is_outside_stage s) refl where
  by_stage : (b : Bool) → is_outside_stage s ≡ b → heard x ≤ (if b then 0 else 1)
  by_stage true outside = omega (arith, rests_unheard x (resting s x fits outside))
  by_stage false outside = heard_once x

few_hear : (w : World) → Stands w → hearing w ≤ how_many_inside w.standings
few_hear w stood =
    let t = w.behind in
    let each : (p : ℕ) → heard (place_at t.machine.lock.places p) ≤ (if is_outside_stage (stage_at t.stages p) then 0 else 1) = λ p. elim (inside_or_past t.stages p) as (λ _. heard (place_at t.machine.lock.places p) ≤ (if is_outside_stage (stage_at t.stages p) then 0 else 1)) [
      | inl known ↦ inside_only (stage_at t.stages p) (place_at t.machine.lock.places p) (stood.fits.stands p known)
      | inr past ↦ (let none : heard (place_at t.machine.lock.places p) ≡ 0 = ap heard (past_last t.machine.lock.places p Place.Out (omega (arith, past.0, stood.fits.as_many))) in omega (arith, none))
    ] in
    let few : hearing w ≤ how_many_inside _ = few_inside heard (verdict t.machine) 0 t.machine.lock.places t.stages Place.Out each in
    rw (ap (λ x. x.standings) stood.seen) few

-- ---- a step of another

abbrev IsPast : ℕ → World → Move → Answer → World → Type 0
IsPast = StepsPast Steps (λ w. w.entries) starved_in Holds (λ w. w.standings)

module _ (q : ℕ) (w : World) (m : Move) (a : Answer) (v : World) (by : IsPast q w m a v) where
  abbrev l : Lock
  l = w.behind.machine.lock

  abbrev k : Lock
  k = v.behind.machine.lock

  abbrev p : ℕ
  p = m.party

  entries_then : w.entries ≡ l.entries
  entries_then = ap (λ x. x.entries) by.step.did.stood.seen

  entries_now : v.entries ≡ k.entries
  entries_now = ap (λ x. x.entries) by.step.did.stands.seen

  starved_there : counted (place_at l.places q) ≡ 1
  starved_there = sym (sees.counted_bit (place_at l.places q)) ∙ ap bit (sym (sees.starved_at l.places q) ∙ (sym (ap (λ x. is_starved x.state q) by.step.did.stood.seen) ∙ by.starved))

  -- no more are left before it, and fewer where the party has come to hold the lock
  moves : (k ≡ l) ⊎ Acted p w.behind.stages l k → hearing v + before q k.entries + (holds (place_at k.places p) - holds (place_at l.places p)) ≤ hearing w + before q l.entries
  moves (inl same) = omega (arith, ap (λ x. sum_by heard x.places) same, ap (λ x. before q x.entries) same, ap (λ x. holds (place_at x.places p)) same)
  moves (inr d) =
      let to : Place = place_after d.from d.next in
      let there : 0 < entries_of q l.entries = omega (arith, by.listed, ap (entries_of q) entries_then) in
      let known : p < length l.places = omega (arith, d.inside, by.step.did.stood.fits.as_many) in
      let turn = in_turn l k d.memory p d.from d.next known d.acts by.step.did.stood.laws d.same.counts q by.another starved_there there in
      let sum : sum_by heard (set l.places p to) + heard (place_at l.places p) ≡ sum_by heard l.places + heard to = sum_by-set heard l.places p to Place.Out known in
      let here : place_at k.places p ≡ to = ap (λ ps. place_at ps p) d.acts.places ∙ get_or-set_same l.places p to Place.Out known in
      omega (arith, turn, sum, ap (sum_by heard) d.acts.places, ap heard here, d.same.hears, d.same.holding)

  moved : hearing v + before q v.entries + (holds (place_at k.places p) - holds (place_at l.places p)) ≤ hearing w + before q w.entries
  moved =
      let t = w.behind in
      let it = moves (acts_or_not (call_at (known_calls t.machine p) (stage_at t.stages p) m.what) (polls_again (stage_at t.stages p) m.what) t m a v.behind by.step.did.step) in
      omega (arith, it, ap (before q) entries_then, ap (before q) entries_now)

  never_more : hearing v + before q v.entries ≤ hearing w + before q w.entries
  never_more = omega (arith, moved)

  got : (Holds w p → ⊥) → Holds v p → hearing v + before q v.entries + 1 ≤ hearing w + before q w.entries
  got before_not now =
      let has : holds (place_at k.places p) ≡ 1 = sees.is_held_by k.places p (sym (ap (λ x. x.state.holder) by.step.did.stands.seen) ∙ now) in
      let one : sum_by holds l.places ≤ 1 = by.step.did.stood.laws.one_holder in
      let had : holds (place_at l.places p) ≡ 0 = by_holds (holds (place_at l.places p)) refl one in
      omega (arith, moved, has, had) where
        by_holds : (n : ℕ) → holds (place_at l.places p) ≡ n → sum_by holds l.places ≤ 1 → holds (place_at l.places p) ≡ 0
        by_holds zero is one = is
        by_holds (suc zero) is one = absurd (before_not (ap (λ x. x.state.holder) by.step.did.stood.seen ∙ sees.holds_it l.places p one is))
        by_holds (suc (suc n)) is one = absurd (omega (arith, is, holds_once (place_at l.places p)))

-- ---- steps in turn

pub overtaken_in_steps : (w : World) → IsOvertakenSeldomInSteps w
overtaken_in_steps w q steps n v h = seldom_in_steps Steps (λ y. y.entries) starved_in Holds (λ y. y.standings) hearing
    (λ q w m a v by. few_hear w by.step.did.stood) never_more got q steps n w v h
