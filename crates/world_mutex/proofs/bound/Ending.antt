-- A call that is decided ends within two further steps of its own, however others step.
use Rattle.world_mutex.proofs.Prelude.{◌≡◌, ◌≢◌, ℕ, ◌<◌, ◌≤◌, ◌⊎◌, inl, inr, Bool, true, false, Option, Some, None, is_some, refl, sym, ap, ◌∙◌, arith, get_or-set_other, Answer, Inputs, Move, Rest, Stage, stage_at, stands_as, call_at, polls_again, is_decided, going_on, End, Place, decision, left, place_at, is_own_marked, is_open, Lock, knows, World, standing_of, Stands, Steps, answer_on}
use Rattle.world_base.specs.declared.standing.Rest.TheVariants.{Holding}
use Rattle.world_base.proofs.Ending.{ends_within}
use Rattle.world_base.proofs.of_table.Views.{none_decided}
use Rattle.world_mutex.proofs.bound.InTurn.{Acted, acts_or_not}
use Rattle.world_mutex.proofs.laws.WorldLaws.{falls}
use Rattle.world_mutex.proofs.of_machine.legal.Sights.{some_left}
use Rattle.world_mutex.proofs.step.Stepping.{known_calls}
use Rattle.world_mutex.proofs.table.Seen.{stands_seen}
use Rattle.world_mutex.specs.Whole.{EndsSoon, steps_left_of}

-- where a call is decided, as many steps are left as its place says alone, and two at most
steady : (x : Place) (m o n u : Bool) → is_some (decision x) ≡ true → (left x m o ≡ left x n u) × (left x m o ≤ 2)
steady Place.Out m o n u d = (refl, omega arith)
steady (Place.Uncount true) m o n u d = (refl, omega arith)
steady (Place.Uncount false) m o n u d = (refl, omega arith)
steady Place.Leave m o n u d = (refl, omega arith)
steady Place.RefuseUncount m o n u d = (refl, omega arith)
steady (Place.RefuseLeave told) m o n u d = (refl, omega arith)
steady Place.RefuseNotifyMemory m o n u d = (refl, omega arith)
steady Place.RefuseNotifyStarved m o n u d = (refl, omega arith)
steady Place.Clear m o n u d = (refl, omega arith)
steady Place.ReleaseNotify m o n u d = (refl, omega arith)
steady Place.CancelUncount m o n u d = (refl, omega arith)
steady Place.CancelLeave m o n u d = (refl, omega arith)
steady _ m o n u d = absurd (cc d)

decided_by : (v : ℕ) (s : Stage) (o : Option End) → is_decided (stands_as (answer_on v o) s) ≡ true → is_some o ≡ true
decided_by v s None h = absurd (none_decided s h)
decided_by v s (Some e) h = refl

-- whoever stands decided is at such a place
decided_there : (w : World) (q : ℕ) → Stands w → is_decided (standing_of w q) ≡ true → is_some (decision (place_at w.behind.machine.lock.places q)) ≡ true
decided_there w q s h =
    let stands : standing_of w q ≡ stands_as (answer_on w.behind.machine.value (decision (place_at w.behind.machine.lock.places q))) (stage_at w.behind.stages q) = ap (λ x. standing_of x q) s.seen ∙ stands_seen w.behind q in
    decided_by w.behind.machine.value (stage_at w.behind.stages q) (decision (place_at w.behind.machine.lock.places q)) (ap is_decided (sym stands) ∙ h)

-- a step of another leaves a party at its place
same_place : (q p : ℕ) (stages : _) (l k : Lock) → q ≢ p → (k ≡ l) ⊎ Acted p stages l k → place_at k.places q ≡ place_at l.places q
same_place q p stages l k apart (inl same) = ap (λ x. place_at x.places q) same
same_place q p stages l k apart (inr d) = ap (λ ps. place_at ps q) d.acts.places ∙ get_or-set_other l.places p q _ Place.Out apart

pub same_at : (w : World) (m : Move) (a : Answer) (v : World) → Steps w m a v → (q : ℕ) → q ≢ m.party → place_at v.behind.machine.lock.places q ≡ place_at w.behind.machine.lock.places q
same_at w m a v s q apart =
    let t = w.behind in
    same_place q m.party t.stages t.machine.lock v.behind.machine.lock apart (acts_or_not (call_at (known_calls t.machine m.party) (stage_at t.stages m.party) m.what) (polls_again (stage_at t.stages m.party) m.what) t m a v.behind s.did.step)

module _ (w : World) (m : Move) (a : Answer) (v : World) (s : Steps w m a v) (q : ℕ) where
  abbrev l : Lock
  l = w.behind.machine.lock

  abbrev k : Lock
  k = v.behind.machine.lock

  keeps : q ≢ m.party → is_decided (standing_of w q) ≡ true → steps_left_of v q ≤ steps_left_of w q
  keeps apart decided =
      let same = same_at w m a v s q apart in
      let alike = steady (place_at l.places q) (is_own_marked k q) (is_open k) (is_own_marked l q) (is_open l) (decided_there w q s.did.stood decided) in
      omega (arith, ap (λ x. left x (is_own_marked k q) (is_open k)) same, alike.0)

  few : is_decided (standing_of w q) ≡ true → steps_left_of w q ≤ 2
  few decided = (steady (place_at l.places q) (is_own_marked l q) (is_open l) (is_own_marked l q) (is_open l) (decided_there w q s.did.stood decided)).1

  some : (0 < steps_left_of w q) × (0 < steps_left_of v q)
  some = (some_left (place_at l.places q) (is_own_marked l q) (is_open l), some_left (place_at k.places q) (is_own_marked k q) (is_open k))

pub ends_soon : (w : World) → EndsSoon w
ends_soon = ends_within Steps standing_of (λ w p. knows) Holding steps_left_of 2
    (λ w m a v s. s.legal.possible) (λ w m a v s. s.legal.ends_properly) (λ w m a v s q apart. s.legal.one_change.others q apart)
    (λ w p i v s decided on. falls w p i Answer.Stepped v s) keeps few some (omega arith)
