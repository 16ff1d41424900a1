-- Where nobody is starved for the turn, a whole call starves nobody that hasn't waited for too long.
use Rattle.world_rwlock.proofs.Prelude.{◌≡◌, ◌≢◌, ℕ, Bool, true, false, refl, ap, sym, ◌∙◌, subst, true≢false, Account, accounts_after, Answer, Call, Value, Inputs, Refusal, What, Begin, Go, Stage, Within, how_many, inputs_of, refused, going_on, moves_of, answers_of, beginning, along, Onward, TurnCourse, is_counting, starved, Mutex, turn_at, out_uncounted, holding_uncounted, waiting_uncounted, Action, Found, Turn, Place, place_at, action_of, fits_turn, OnTurn, stage_at, Runs, HoldsWell, World, is_starved, Stands, Moved, Rest, knows_of, standing_of}
use Rattle.world_mutex.proofs.of_machine.callers.Holders as sees
use Rattle.world_rwlock.proofs.step.Acting.{Acting, Way, impossible, over, puts, acts, way}
use Rattle.world_rwlock.proofs.table.Begun.{ForMoves, turn}
use Rattle.world_rwlock.proofs.bound.Alone.{laws}
use Rattle.world_base.proofs.of_any_world.Unsaid.{unsaid}
use Rattle.world_rwlock.proofs.whole.Patient.{starved_refusal, midway, counting}

-- ---- whoever begins a call isn't about to be counted

abbrev Rests : Stage → What → Place → Within → Place → Type 0
Rests s (Begin c i) x w from = (t : TurnCourse) → fits_turn x t ≡ true → is_counting t ≡ false
Rests s (Go i) x w from = Unit {0}

rests : ForMoves Rests
rests = record {
  read = λ i t h. out_uncounted t h;
  upgradable = λ i t h. out_uncounted t h;
  write = λ i t h. out_uncounted t h;
  try_read = λ i t h. out_uncounted t h;
  try_upgradable = λ i t h. out_uncounted t h;
  try_write = λ i t h. out_uncounted t h;
  poll_made = λ q i t h. out_uncounted t h;
  poll_no_writer = λ i t h. out_uncounted t h;
  poll_turn = λ q i t h. waiting_uncounted t h;
  poll_no_readers = λ q i t h. holding_uncounted t h;
  poll_upgrade = λ i t h. holding_uncounted t h;
  drop_made = λ q i t h. out_uncounted t h;
  drop_no_writer = λ i t h. out_uncounted t h;
  drop_turn = λ q i t h. waiting_uncounted t h;
  drop_no_readers = λ q i t h. holding_uncounted t h;
  drop_upgrade = λ i t h. holding_uncounted t h;
  drop_reader = λ i t h. out_uncounted t h;
  drop_upgradable = λ i t h. holding_uncounted t h;
  drop_writer = λ i t h. holding_uncounted t h;
  upgrade = λ i t h. holding_uncounted t h;
  try_upgrade = λ i t h. holding_uncounted t h;
  downgrade_upgradable = λ i t h. holding_uncounted t h;
  downgrade_writer = λ i t h. holding_uncounted t h;
  to_upgradable = λ i t h. holding_uncounted t h;
  go = λ w i x here on. tt;
}

-- ---- what a step did to the turn

-- so isn't its party
pub begins_quiet : (x v : World) (p : ℕ) (c : Call) (i : Inputs) (a : Answer) (w : Within) → Acting x.behind v.behind (beginning p c i) a w → is_counting (turn_at x.behind.machine.lock.turn.courses p) ≡ false
begins_quiet x v p c i a w k =
    let here = place_at x.behind.machine.lock.places p in
    (turn Rests rests (stage_at x.behind.stages p) (Begin c i) here w (k.old.fits.stands p k.inside) k.call k.first k.no_put).holds (turn_at x.behind.machine.lock.turn.courses p) (k.old.lock.in_turn p)

module _ (memory : Bool) (p : ℕ) (l k : Mutex) (none : starved l ≡ 0) (not_next : is_counting (turn_at l.courses p) ≡ false) where
  abbrev Still : Type 0
  Still = (starved k ≡ 0) × (is_counting (turn_at k.courses p) ≡ false)

  unmoved : k ≡ l → Still
  unmoved e = (ap starved e ∙ none, ap (λ t. is_counting (turn_at t.courses p)) e ∙ not_next)

  pub turn_uncounted : (a : Action) (f : Found) → OnTurn memory false p a f l k → Still
  turn_uncounted (Action.Begin c) (Turn n) o = o.patient refl none not_next
  turn_uncounted (Action.Begin c) _ o = absurd o
  turn_uncounted Action.Go (Turn n) o = o.patient refl none not_next
  turn_uncounted Action.Go _ o = absurd o
  turn_uncounted _ f o = unmoved o

-- ---- along a whole call

record Unstarved (p : ℕ) (x : World) : Type 0 where
  pub stands : Stands x
  pub none : starved x.behind.machine.lock.turn ≡ 0

record Unstarving (p : ℕ) (x : World) : Type 0 where
  pub now : Unstarved p x
  pub not_next : is_counting (turn_at x.behind.machine.lock.turn.courses p) ≡ false

module _ (p : ℕ) (i : Inputs) (patient : i.starving ≡ false) where
  abbrev Then : Answer → World → Type 0
  Then = Onward (Unstarving p) (λ b y. Unstarved p y)

  stepped : (x v : World) (what : What) (a : Answer) (w : Within) → (inputs_of what).starving ≡ false → Stands v → starved x.behind.machine.lock.turn ≡ 0 → is_counting (turn_at x.behind.machine.lock.turn.courses p) ≡ false → Acting x.behind v.behind (record { party = p; what = what }) a w → Then a v
  stepped x v what a w quiet stands_then none not_next c =
      let O : Bool → Type 0 = λ b. OnTurn (inputs_of what).memory b p (action_of c.from) c.acts.found x.behind.machine.lock.turn v.behind.machine.lock.turn in
      let it = turn_uncounted (inputs_of what).memory p x.behind.machine.lock.turn v.behind.machine.lock.turn none not_next (action_of c.from) c.acts.found (subst O quiet c.acts.turn) in
      let now : Unstarved p v = record { stands = stands_then; none = it.0 } in
      record { going = λ e. record { now = now; not_next = it.1 }; ended = λ e. now }

  -- where nothing was done the call doesn't go on
  stays : (x v : World) (a b : Answer) → Stands v → starved x.behind.machine.lock.turn ≡ 0 → v.behind.machine.lock ≡ x.behind.machine.lock → a ≡ b → b ≢ Answer.Stepped → Then a v
  stays x v a b stands_then none same is not_stepped = record {
    going = λ e. absurd (not_stepped (sym is ∙ e));
    ended = λ e. record { stands = stands_then; none = ap (λ l. starved l.turn) same ∙ none };
  }

  by_way : (x v : World) (what : What) (a : Answer) → (inputs_of what).starving ≡ false → Stands v → starved x.behind.machine.lock.turn ≡ 0 → ((w : Within) → Acting x.behind v.behind (record { party = p; what = what }) a w → is_counting (turn_at x.behind.machine.lock.turn.courses p) ≡ false) → Way x.behind v.behind (record { party = p; what = what }) a → Then a v
  by_way x v what a quiet sv none not_next (impossible e ea eu) = stays x v a Answer.NotPossible sv none (ap (λ t. t.machine.lock) eu) ea (λ h. cc)
  by_way x v what a quiet sv none not_next (over w e f ea eu) = stays x v a (refused Refusal.Finished) sv none (ap (λ t. t.machine.lock) eu) ea (λ h. cc)
  by_way x v what a quiet sv none not_next (puts w n in_table o e ea eu) = stays x v a (Answer.Granted (Value n)) sv none (ap (λ t. t.machine.lock) eu) ea (λ h. cc)
  by_way x v what a quiet sv none not_next (acts w c) = stepped x v what a w quiet sv none (not_next w c) c

  onward : (x : World) (a : Answer) (v : World) → Unstarving p x → Moved x (going_on p i) a v → Then a v
  onward x a v g s = by_way x v (Go i) a patient s.did.stands g.now.none (λ w c. g.not_next) (way x.behind v.behind (going_on p i) a (laws x s.did.stood) (laws v s.did.stands) s.did.step)

  first : (c : Call) (x : World) → starved x.behind.machine.lock.turn ≡ 0 → (a : Answer) (v : World) → Moved x (beginning p c i) a v → Then a v
  first c x none a v s = by_way x v (Begin c i) a patient s.did.stands none (λ w k. begins_quiet x v p c i a w k) (way x.behind v.behind (beginning p c i) a (laws x s.did.stood) (laws v s.did.stands) s.did.step)

pub starved_behind : (w : World) → Stands w → how_many w.state.starved ≡ starved w.behind.machine.lock.turn
starved_behind w s = ap (λ x. how_many x.state.starved) s.seen ∙ sees.how_many_counted w.behind.machine.lock.turn.courses

not_counted : (w : World) (p : ℕ) → Unstarved p w → is_starved w p ≡ false
not_counted w p k = ap (λ x. is_starved x p) k.stands.seen ∙ sees.none_starved w.behind.machine.lock.turn.courses p k.none

pub unstarved_at_end : (known : ℕ → Account) (w : World) (p : ℕ) (c : Call) (i : Inputs) (n : ℕ) (a : Answer) (v : World) → Stands w → i.starving ≡ false → how_many w.state.starved ≡ 0 → Runs known w (moves_of p c i n) (answers_of n a) v → a ≢ Answer.Stepped → is_starved v p ≡ false
unstarved_at_end known w p c i n a v stood patient none runs ended =
    let zero : starved w.behind.machine.lock.turn ≡ 0 = sym (starved_behind w stood) ∙ none in
    not_counted v p (along Moved accounts_after HoldsWell p i (Unstarving p) (λ b y. Unstarved p y) (onward p i patient) known n w (beginning p c i) a v (first p i patient c w zero) ended runs)

pub patient_at_end : (known : ℕ → Account) (w : World) (p : ℕ) (c : Call) (i : Inputs) (n : ℕ) (a : Answer) (v : World) → Stands w → i.starving ≡ false → how_many w.state.starved ≡ 0 → Runs known w (moves_of p c i n) (answers_of n a) v → a ≢ Answer.Stepped → a ≢ starved_refusal
patient_at_end known w p c i n a v stood patient none runs ended =
    let zero : starved w.behind.machine.lock.turn ≡ 0 = sym (starved_behind w stood) ∙ none in
    unsaid Moved standing_of knows_of Rest.Holding (λ x m b y s. s.legal.possible) (λ x m b y s. s.legal.ends_properly) starved_refusal refl (λ x m b y s d. midway x y m b s d) p i (Unstarving p) (λ b y. Unstarved p y) (onward p i patient)
    (λ x b y g s d. true≢false (sym (counting x y (going_on p i) b s d) ∙ g.not_next)) accounts_after HoldsWell known w c n a v (first p i patient c w zero) ended runs
