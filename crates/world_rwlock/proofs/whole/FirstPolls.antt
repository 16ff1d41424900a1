-- A first poll that finds the turn free takes it, and is ready at its next step where what it takes the turn for is free.
use Rattle.world_rwlock.proofs.Prelude.{◌≡◌, ◌≢◌, ℕ, ◌<◌, Bool, true, false, length, Some, None, refl, arith, ap, sym, ◌∙◌, subst, get_or-set_same, length-set, set, sum_by, sum_by-set, Account, accounts_after, Answer, Call, Value, Inputs, Go, Inside, Forgotten, Within, upgradable, write, going_on, moves_of, answers_of, beginning, along, Onward, LockCall, Mutex, holder_of, holders, starved, Action, Got, Found, Done, Full, NoneLeft, SomeLeft, Turn, Place, Purpose, Finds, readers, RwLock, place_at, action_of, next_of, place_after, with_turn, go_to, ends, reads, OnTurn, is_first, stage_at, stage_after, call_at, polls_again, Holding, some_eq, Runs, HoldsWell, World, is_turn_free, is_upgrader, how_many_read, Stands, Moved, knows_at, answer_by, view_of}
use Rattle.world_mutex.proofs.of_machine.callers.Holders as sees
use Rattle.world_rwlock.specs.State as state
use Rattle.world_rwlock.proofs.step.Acting.{Acting, Way, impossible, over, puts, acts, way, acting}
use Rattle.world_rwlock.proofs.bound.Alone.{laws}
use Rattle.world_rwlock.proofs.step.Instants.{begins, passer_holds, turn_is_free}
use Rattle.world_rwlock.proofs.table.Views as view
use Rattle.world_rwlock.proofs.of_machine.solo_polls.SoloTurns.{reads_not}

-- what the turn is taken for: whether it is free, and where its party stands then
abbrev IsFreeFor : Purpose → RwLock → Type 0
IsFreeFor Purpose.UpgradableRead l = readers l < l.limit
IsFreeFor Purpose.Write l = readers l ≡ 0

abbrev got_at : Purpose → Place
got_at Purpose.UpgradableRead = Place.Upgradable
got_at Purpose.Write = Place.Writing

-- a poll that has the turn gets what is free
gets : (memory : Bool) (q : Purpose) (l : RwLock) (f : Found) → Finds memory (action_of (with_turn q false)) f l → IsFreeFor q l → next_of (with_turn q false) f ≡ ends Got (got_at q)
gets memory Purpose.UpgradableRead l Done e free = refl
gets memory Purpose.UpgradableRead l Full e free = absurd (omega (arith, e, free))
gets memory Purpose.UpgradableRead l _ e free = absurd e
gets memory Purpose.Write l NoneLeft e free = refl
gets memory Purpose.Write l SomeLeft e free = absurd (omega (arith, e, free))
gets memory Purpose.Write l _ e free = absurd e

-- a first poll takes a free turn
enters : (memory starving : Bool) (p : ℕ) (q : Purpose) (f : Found) (t u : Mutex) → OnTurn memory starving p (Action.Begin LockCall.Lock) f t u → holders t ≡ 0 → starved t ≡ 0 → next_of (Place.EnterTurn q) f ≡ go_to (with_turn q false)
enters memory starving p q (Turn n) t u o free none = ap (λ k. next_of (Place.EnterTurn q) (Turn k)) (o.at_once.ends refl free none)
enters memory starving p q _ t u o free none = absurd o

still_free : (q : Purpose) (l k : RwLock) → readers k ≡ readers l → k.limit ≡ l.limit → IsFreeFor q l → IsFreeFor q k
still_free Purpose.UpgradableRead l k same limit free = omega (arith, same, limit, free)
still_free Purpose.Write l k same limit free = same ∙ free

-- a poll that has just taken the turn
record WithTurn (q : Purpose) (p n : ℕ) (x : World) : Type 0 where
  pub stands : Stands x
  pub known : p < length x.behind.stages
  pub call : Within
  pub inside : stage_at x.behind.stages p ≡ Inside call
  pub here : place_at x.behind.machine.lock.places p ≡ with_turn q false
  pub free : IsFreeFor q x.behind.machine.lock
  pub value : x.behind.machine.value ≡ n

module _ (q : Purpose) (p n : ℕ) (i : Inputs) where
  abbrev Then : Answer → World → Type 0
  Then b x = Onward (WithTurn q p n) (λ a y. a ≡ Answer.Ready (Value n)) b x

  onward : (x : World) (a : Answer) (v : World) → WithTurn q p n x → Moved x (going_on p i) a v → Then a v
  onward x a v g s =
      let t = x.behind in
      let here = place_at t.machine.lock.places p in
      let c = acting t v.behind (going_on p i) a (laws x s.did.stood) (laws v s.did.stands) g.call (ap (λ s. call_at (knows_at here) s (Go i)) g.inside) (ap (λ s. polls_again s (Go i)) g.inside) refl s.did.step in
      let at : c.from ≡ with_turn q false = sym (some_eq c.starts) ∙ g.here in
      let F : Place → Type 0 = λ y. Finds i.memory (action_of y) c.acts.found t.machine.lock in
      let N : next_of c.from c.acts.found ≡ ends Got (got_at q) = ap (λ y. next_of y c.acts.found) at ∙ gets i.memory q t.machine.lock c.acts.found (subst F at c.acts.finds) g.free in
      let ready : a ≡ Answer.Ready (Value n) = c.answer ∙ (ap (answer_by t.machine.value) (c.acts.next_is ∙ N) ∙ ap (λ k. Answer.Ready (Value k)) g.value) in
      record { going = λ e. absurd (cc); ended = λ e. ready }

  module _ (c : Call) (w : World) (stood : Stands w) (free : holders w.behind.machine.lock.turn ≡ 0) (none : starved w.behind.machine.lock.turn ≡ 0) (open_to : IsFreeFor q w.behind.machine.lock) (is : w.behind.machine.value ≡ n) where
    -- the first step takes the turn, so that something was done
    never : (x : World) → Stands x → x.state.turn ≡ state.passes p → x.behind.machine.lock ≡ w.behind.machine.lock → ⊥
    never x sx passes same =
        let held : holder_of x.behind.machine.lock.turn ≡ Some p = passer_holds (holder_of x.behind.machine.lock.turn) x.behind.machine.lock.places p (sym (ap (λ y. y.state.turn) sx.seen) ∙ passes) in
        let nobody : holder_of w.behind.machine.lock.turn ≡ None = sees.none_held 0 w.behind.machine.lock.turn.courses free in
        let both : Some p ≡ None = sym held ∙ (ap (λ l. holder_of l.turn) same ∙ nobody) in
        cc

    takes : (x : World) (a : Answer) (pw : Within) → Stands x → (b : Acting w.behind x.behind (beginning p c i) a pw) → b.from ≡ Place.EnterTurn q → Then a x
    takes x a pw sx b at =
        let t = w.behind in
        let u = x.behind in
        let y : Place = with_turn q false in
        let f = b.acts.found in
        let O : Place → Type 0 = λ z. OnTurn i.memory i.starving p (action_of z) f t.machine.lock.turn u.machine.lock.turn in
        let next : b.next ≡ go_to y = b.acts.next_is ∙ (ap (λ z. next_of z f) at ∙ enters i.memory i.starving p q f t.machine.lock.turn u.machine.lock.turn (subst O at b.acts.turn) free none) in
        let stepped : a ≡ Answer.Stepped = b.answer ∙ ap (answer_by t.machine.value) next in
        let there : p < length t.machine.lock.places = omega (arith, b.inside, stood.fits.as_many, stood.laws.as_many) in
        let places : u.machine.lock.places ≡ set t.machine.lock.places p y = b.acts.places ∙ ap (λ k. set t.machine.lock.places p (place_after k)) next in
        let stages : u.stages ≡ set t.stages p (Inside pw) = b.stages ∙ ap (λ k. set t.stages p (stage_after Holding pw k)) stepped in
        let sum = sum_by-set reads t.machine.lock.places p y Place.Out there in
        let none_here : reads (place_at t.machine.lock.places p) ≡ 0 = sym b.moves.same.reading ∙ ap reads at in
        let same : readers u.machine.lock ≡ readers t.machine.lock = ap (sum_by reads) places ∙ omega (arith, sum, none_here, reads_not q) in
        record {
          going = λ e. record {
            stands = sx;
            known = omega (arith, ap length stages, length-set t.stages p (Inside pw), b.inside);
            call = pw;
            inside = ap (λ ss. stage_at ss p) stages ∙ get_or-set_same t.stages p (Inside pw) Forgotten b.inside;
            here = ap (λ ps. place_at ps p) places ∙ get_or-set_same t.machine.lock.places p y Place.Out there;
            free = still_free q t.machine.lock u.machine.lock same b.acts.limit open_to;
            value = b.value ∙ is;
          };
          ended = λ e. absurd (e stepped);
        }

    first_by : (x : World) (a : Answer) → Stands x → x.state.turn ≡ state.passes p → ((pw : Within) (b : Acting w.behind x.behind (beginning p c i) a pw) → b.from ≡ Place.EnterTurn q) → Way w.behind x.behind (beginning p c i) a → Then a x
    first_by x a sx passes at (impossible e ea eu) = absurd (never x sx passes (ap (λ t. t.machine.lock) eu))
    first_by x a sx passes at (over pw e f ea eu) = absurd (never x sx passes (ap (λ t. t.machine.lock) eu))
    first_by x a sx passes at (puts pw v inside o e ea eu) = absurd (never x sx passes (ap (λ t. t.machine.lock) eu))
    first_by x a sx passes at (acts pw b) = takes x a pw sx b (at pw b)

module _ (known : ℕ → Account) (w : World) (p : ℕ) (c : Call) (i : Inputs) (k : ℕ) (a : Answer) (v : World) (stood : Stands w) (runs : Runs known w (moves_of p c i k) (answers_of k a) v) (ended : a ≢ Answer.Stepped) where
  value_is : w.behind.machine.value ≡ w.state.value
  value_is = sym (ap (λ x. x.state.value) stood.seen)

  free_turn : is_turn_free w.state ≡ true → (holders w.behind.machine.lock.turn ≡ 0) × (starved w.behind.machine.lock.turn ≡ 0)
  free_turn h = turn_is_free w.behind (subst (λ x. is_turn_free x.state ≡ true) stood.seen h)

  pub upgradable_ready : is_first w (beginning p c i) upgradable ≡ true → is_turn_free w.state ≡ true → how_many_read w < w.readers_limit → a ≡ Answer.Ready (Value w.state.value)
  upgradable_ready first free below =
      let t = free_turn free in
      let here : is_first (view_of w.behind) (beginning p c i) upgradable ≡ true = subst (λ x. is_first x (beginning p c i) upgradable ≡ true) stood.seen first in
      let few : how_many_read (view_of w.behind) < w.behind.machine.lock.limit = subst (λ x. how_many_read x < x.readers_limit) stood.seen below in
      along Moved accounts_after HoldsWell p i (WithTurn Purpose.UpgradableRead p w.state.value) (λ b x. b ≡ Answer.Ready (Value w.state.value)) (onward Purpose.UpgradableRead p w.state.value i) known k w (beginning p c i) a v
      (λ b x s. first_by Purpose.UpgradableRead p w.state.value i c w stood t.0 t.1 (rw view.how_many-read at few) value_is x b s.did.stands ((s.at_once.first_upgradable first).1 free) (λ pw y. (begins w.behind x.behind (beginning p c i) b pw y).first_upgradable here) (way w.behind x.behind (beginning p c i) b (laws w stood) (laws x s.did.stands) s.did.step))
      ended runs

  pub write_ready : is_first w (beginning p c i) write ≡ true → is_upgrader w p ≡ false → is_turn_free w.state ≡ true → how_many_read w ≡ 0 → a ≡ Answer.Ready (Value w.state.value)
  write_ready first new free none =
      let t = free_turn free in
      let here : is_first (view_of w.behind) (beginning p c i) write ≡ true = subst (λ x. is_first x (beginning p c i) write ≡ true) stood.seen first in
      let new_here : is_upgrader (view_of w.behind) p ≡ false = subst (λ x. is_upgrader x p ≡ false) stood.seen new in
      let none_here : how_many_read (view_of w.behind) ≡ 0 = subst (λ x. how_many_read x ≡ 0) stood.seen none in
      along Moved accounts_after HoldsWell p i (WithTurn Purpose.Write p w.state.value) (λ b x. b ≡ Answer.Ready (Value w.state.value)) (onward Purpose.Write p w.state.value i) known k w (beginning p c i) a v
      (λ b x s. first_by Purpose.Write p w.state.value i c w stood t.0 t.1 (sym (view.how_many-read w.behind.machine.lock.places) ∙ none_here) value_is x b s.did.stands ((s.at_once.first_write first new).1 free) (λ pw y. (begins w.behind x.behind (beginning p c i) b pw y).first_write here new_here) (way w.behind x.behind (beginning p c i) b (laws w stood) (laws x s.did.stands) s.did.step))
      ended runs
