-- What a whole call of a barrier promises beside its end.
use Rattle.world_barrier.proofs.Prelude.{◌≡◌, ◌≢◌, ℕ, false, sym, ap, ◌∙◌, subst, true≢false, Answer, Call, Inputs, What, Begin, Go, Rest, Within, Account, accounts_after, how_many, inputs_of, going_on, moves_of, answers_of, beginning, Onward, along, Table, Acted, onward, is_counting, course_at, starved, action_of, Barrier, Moves, position_at, World, is_starved, Promises, Runs, HoldsWell, Stands, Steps, refl, knows, standing_of}
use Rattle.world_mutex.proofs.of_machine.callers.Holders as sees
use Rattle.world_barrier.proofs.whole.Alone.{known_calls}
use Rattle.world_barrier.proofs.whole.Handing.{hands_on}
use Rattle.world_barrier.proofs.whole.Polls.{nobody_starved, first, notified, told, solo}
use Rattle.world_base.proofs.of_any_world.Unsaid.{unsaid}
use Rattle.world_barrier.proofs.whole.Ring.{counts_none, begins_uncounted, tells_nobody_at_end}
use Rattle.world_barrier.proofs.whole.Counted.{held}
use Rattle.world_barrier.proofs.whole.Newcomers.{newcomer, first_patient}
use Rattle.world_barrier.proofs.whole.Patient.{starved_refusal, midway, counting}

-- ---- nobody is made starved that hasn't waited for too long, while nobody is

module _ (p : ℕ) (i : Inputs) (patient : i.starving ≡ false) where
  abbrev Unstarved : Table Barrier → Type 0
  Unstarved t = starved t.machine.lock ≡ 0

  abbrev Unstarving : Table Barrier → Type 0
  Unstarving t = Unstarved t × (is_counting (course_at t.machine.lock.courses p) ≡ false)

  abbrev Left : Answer → World → Type 0
  Left = Onward (λ y. Unstarving y.behind) (λ b y. Unstarved y.behind)

  of_world : (a : Answer) (v : World) → Onward Unstarving (λ b y. Unstarved y) a v.behind → Left a v
  of_world a v o = record { going = o.going; ended = o.ended }

  acted_unstarved : (t u : Table Barrier) (what : What) (a : Answer) (w : Within) → (inputs_of what).starving ≡ false → (k : Acted known_calls Rest.Finished Moves w t (record { party = p; what = what }) a u) → Unstarved t → is_counting (course_at t.machine.lock.courses p) ≡ false → Onward Unstarving (λ b y. Unstarved y) a u
  acted_unstarved t u what a w quiet k none not_next =
      let it = counts_none (inputs_of what) p (action_of k.acts.from) k.acts.found t.machine.lock u.machine.lock quiet k.acts.acts.lock none not_next in
      record { going = λ e. it; ended = λ e. it.0 }

  steps_unstarved : (x : World) (what : What) (a : Answer) (v : World) → (inputs_of what).starving ≡ false → Unstarved x.behind
      → ((w : Within) → Acted known_calls Rest.Finished Moves w x.behind (record { party = p; what = what }) a v.behind → is_counting (course_at x.behind.machine.lock.courses p) ≡ false) → Steps x (record { party = p; what = what }) a v → Left a v
  steps_unstarved x what a v quiet none not_next s = of_world a v
      (onward known_calls Rest.Finished Moves x.behind v.behind (record { party = p; what = what }) a Unstarving (λ b y. Unstarved y) (λ y. y) none none
      (λ w e f k. acted_unstarved x.behind v.behind what a w quiet k none (not_next w k)) s.did.step)

  goes_unstarved : (x : World) (a : Answer) (v : World) → Unstarving x.behind → Steps x (going_on p i) a v → Left a v
  goes_unstarved x a v g s = steps_unstarved x (Go i) a v patient g.0 (λ w k. g.1) s

  first_unstarved : (c : Call) (x : World) → Unstarved x.behind → (a : Answer) (v : World) → Steps x (beginning p c i) a v → Left a v
  first_unstarved c x none a v s = steps_unstarved x (Begin c i) a v patient none (λ w k. begins_uncounted c (position_at x.behind.machine.positions p) k.acts.from (course_at x.behind.machine.lock.courses p) k.acts.starts (s.did.stood.laws.links p)) s

not_counted : (w : World) (p : ℕ) → Stands w → starved w.behind.machine.lock ≡ 0 → is_starved w.lock p ≡ false
not_counted w p s none = ap (λ x. is_starved x.lock p) s.seen ∙ sees.none_starved w.behind.machine.lock.courses p none

-- ---- the promises

module _ (known : ℕ → Account) (w : World) (p : ℕ) (c : Call) (i : Inputs) (n : ℕ) (a : Answer) (v : World) (stood : Stands w) (stands : Stands v) (ended : a ≢ Answer.Stepped) (runs : Runs known w (moves_of p c i n) (answers_of n a) v) where
  unstarved : i.starving ≡ false → how_many w.lock.starved ≡ 0 → is_starved v.lock p ≡ false
  unstarved patient none =
      let zero : starved w.behind.machine.lock ≡ 0 = nobody_starved w.behind (subst (λ x. how_many x.lock.starved ≡ 0) stood.seen none) in
      not_counted v p stands (along Steps accounts_after HoldsWell p i (λ y. Unstarving p i patient y.behind) (λ b y. Unstarved p i patient y.behind) (goes_unstarved p i patient) known n w (beginning p c i) a v (first_unstarved p i patient c w zero) ended runs)

  unrefused : i.starving ≡ false → how_many w.lock.starved ≡ 0 → a ≢ starved_refusal
  unrefused patient none =
      let zero : starved w.behind.machine.lock ≡ 0 = nobody_starved w.behind (subst (λ x. how_many x.lock.starved ≡ 0) stood.seen none) in
      unsaid Steps standing_of (λ x p. knows) Rest.Finished (λ x m b y s. s.legal.possible) (λ x m b y s. s.legal.ends_properly) starved_refusal refl (λ x m b y s d. midway x y m b s d) p i (λ y. Unstarving p i patient y.behind) (λ b y. Unstarved p i patient y.behind) (goes_unstarved p i patient)
      (λ x b y g s d. true≢false (sym (counting x y (going_on p i) b s d) ∙ g.1)) accounts_after HoldsWell known w c n a v (first_unstarved p i patient c w zero) ended runs

  as_poll : c ≡ Call.Poll → Runs known w (moves_of p Call.Poll i n) (answers_of n a) v
  as_poll is = let R : Call → Type 0 = λ x. Runs known w (moves_of p x i n) (answers_of n a) v in subst R is runs

  kept : Promises w p c i a v
  kept = record {
    first = λ is free memory. first known w p i n a v stood stands ended c runs is free memory;
    notified = λ is told free. notified known w p i n a v stood stands ended (as_poll is) told free;
    told = λ is called free why. told known w p i n a v stood stands ended (as_poll is) called free why;
    solo = λ is called free. solo known w p i n a v stood stands ended (as_poll is) called free;
    unstarved = unstarved;
    patient = unrefused;
    tells_nobody = λ patient none. tells_nobody_at_end known w p c i n a v stood stands runs ended patient none;
    first_patient = λ is. first_patient known w p c i n a v stood stands ended runs is;
    newcomer = λ is. newcomer known w p c i n a v stood stands ended runs is;
    held = λ is. held known w p i n a v stood stands ended (as_poll is);
    hands_on = λ is. hands_on known w p i n a v stood stands ended (as_poll is);
  }

-- both Worlds stand as they are seen
both_stand : (known : ℕ → Account) (w : World) (p : ℕ) (c : Call) (i : Inputs) (n : ℕ) (a : Answer) (v : World) → a ≢ Answer.Stepped → Runs known w (moves_of p c i n) (answers_of n a) v → Stands w × Stands v
both_stand known w p c i n a v ended runs = along Steps accounts_after HoldsWell p i (λ y. Stands w) (λ b y. Stands w × Stands y) (λ x b y g s. record { going = λ e. g; ended = λ e. (g, s.did.stands) })
    known n w (beginning p c i) a v (λ b y s. record { going = λ e. s.did.stood; ended = λ e. (s.did.stood, s.did.stands) }) ended runs

pub keeps_promise : (known : ℕ → Account) (w : World) (p : ℕ) (c : Call) (i : Inputs) (n : ℕ) (a : Answer) (v : World) → Runs known w (moves_of p c i n) (answers_of n a) v → a ≢ Answer.Stepped → Promises w p c i a v
keeps_promise known w p c i n a v runs ended = let both = both_stand known w p c i n a v ended runs in kept known w p c i n a v both.0 both.1 ended runs
