-- Where everybody listed waits for one permit, each poll of a notified party takes one, while any are available, and leaves everybody else as he was.
use Rattle.world_semaphore.proofs.Prelude.{◌≡◌, ◌≢◌, ℕ, without, zero, suc, ◌+◌, ◌<◌, ◌≤◌, inl, if◌then◌else◌, Bool, true, false, List, length, Some, is_some, refl, arith, ap, sym, ◌∙◌, subst, get_or-set_other, length-set, ℕ_discrete, Entry, is_marked_at, is_party, entries_of, Answer, Call, Inputs, Move, What, Begin, Go, Rest, Standing, outside, forgotten, is_outside, is_possible, going_on, beginning, Plain, Effect, nothing, changes, does, takes, gives_back, forgets, raises, gives, nothing_had, guard_of, permits_of, Share, entries_after, marked_listed, State, World, share_at, available, held, under_way, standing_of, size_of, state_after, IsAllowed, HasItsOwn, IsSound, IsAwake, is_at_rest, IsFreeAndWanted, Stands, Steps, known_of, learn, HoldsWell, Takes, knows, added_in, is_forget}
use Rattle.world_base.specs.Bounds.{SomeMarked, PolledInTurn}
use Rattle.world_base.proofs.Draining.{moved_sum, without_long, first_listed, outside_all, outside_each}
use Rattle.world_base.proofs.of_any_world.Endings.{ends_at}
use Rattle.world_base.proofs.of_any_world.Runs.{Onward, along, last_of}
use Rattle.lock_event.proofs.Counts.{length-joined}
use Rattle.world_base.proofs.of_queue.Queues.{own_one}
use Rattle.world_base.proofs.of_queue.Rekeyed.{entries_of-joined}
use Rattle.world_semaphore.specs.Bound.{PollsTold, Drained, Drains}
use Rattle.world_semaphore.specs.machine.Effects.{ListFunction, joins, asks, removes, fits, list_after, Change, limit_after, share_after}
use Rattle.world_semaphore.proofs.bound.Bound.{some_marked}
use Rattle.world_semaphore.proofs.laws.Sound.{sound, awake}
use Rattle.world_semaphore.proofs.of_machine.laws.Entries.{others, length-fitted, entries_of-fitted}
use Rattle.world_semaphore.proofs.whole.Promises.{keeps_promises}

-- the list grows and shrinks by the party's own entry
list_long : (size : ℕ → ℕ) (p : ℕ) (f : ListFunction) (l : List (Entry ℕ)) → entries_of p (list_after size p f l) + length l ≡ entries_of p l + length (list_after size p f l)
list_long size p joins l =
    let mine = entries_of-joined p p l in
    omega (arith, mine, own_one p l, length-joined l p)
list_long size p asks l = by_told (is_marked_at (is_party p) l) where
  by_told : (b : Bool) → entries_of p (if b then without (is_party p) l else l) + length l ≡ entries_of p l + length (if b then without (is_party p) l else l)
  by_told true = without_long p l
  by_told false = refl
list_long size p removes l = without_long p l
list_long size p (fits a) l = omega (arith, length-fitted size a l, entries_of-fitted size a p l)

entries_long : (size : ℕ → ℕ) (p : ℕ) (d : Effect) (l : List (Entry ℕ)) → entries_of p (entries_after size p d l) + length l ≡ entries_of p l + length (entries_after size p d l)
entries_long size p nothing l = refl
entries_long size p (changes c) l = refl
entries_long size p (does f) l = list_long size p f l

-- What a poll of this party leaves as it was: the limit, and all that the others have.
record IsSame (p : ℕ) (w x : World) : Type 0 where
  pub standing : (q : ℕ) → q ≢ p → standing_of x q ≡ standing_of w q
  pub size : (q : ℕ) → q ≢ p → size_of x q ≡ size_of w q
  pub parties : length x.state.shares ≡ length w.state.shares
  pub share : (q : ℕ) → q ≢ p → share_at x.state q ≡ share_at w.state q
  pub limit : x.state.limit ≡ w.state.limit
  pub entries : (q : ℕ) → q ≢ p → entries_of q x.entries ≡ entries_of q w.entries
  pub long : length x.entries + entries_of p w.entries ≡ length w.entries + entries_of p x.entries

-- a poll neither adds nor forgets
record IsPolling (what : What) : Type 0 where
  pub adds : (n : ℕ) → added_in what ≡ Some n → ⊥
  pub forgets : is_forget what ≡ true → ⊥

record SameState (p : ℕ) (s t : State) : Type 0 where
  pub parties : length t.shares ≡ length s.shares
  pub share : (q : ℕ) → q ≢ p → share_at t q ≡ share_at s q
  pub limit : t.limit ≡ s.limit

changed : (p : ℕ) (c : Change) (s t : State) → limit_after c s.limit ≡ s.limit → t ≡ state_after p (changes c) s → SameState p s t
changed p c s t limit e = record {
  parties = ap (λ (x : State). length x.shares) e ∙ length-set s.shares p (share_after c (share_at s p));
  share = λ q apart. ap (λ x. share_at x q) e ∙ get_or-set_other s.shares p q (share_after c (share_at s p)) nothing_had apart;
  limit = ap (λ (x : State). x.limit) e ∙ limit;
}

by_effect : (x : World) (p : ℕ) (what : What) (d : Effect) (t : State) → IsPolling what → IsAllowed x (record { party = p; what = what }) d → t ≡ state_after p d x.state → SameState p x.state t
by_effect x p what nothing t polls may e = record { parties = ap (λ (y : State). length y.shares) e; share = λ q apart. ap (λ y. share_at y q) e; limit = ap (λ (y : State). y.limit) e }
by_effect x p what (does f) t polls may e = record { parties = ap (λ (y : State). length y.shares) e; share = λ q apart. ap (λ y. share_at y q) e; limit = ap (λ (y : State). y.limit) e }
by_effect x p what (changes (takes k)) t polls may e = changed p (takes k) x.state t refl e
by_effect x p what (changes (gives_back k)) t polls may e = changed p (gives_back k) x.state t refl e
by_effect x p what (changes (forgets k)) t polls may e = absurd (polls.forgets may.1)
by_effect x p what (changes (raises n)) t polls may e = absurd (polls.adds n may.0)
by_effect x p what (changes (gives n)) t polls may e = changed p (gives n) x.state t refl e

module _ (p : ℕ) (i : Inputs) (w : World) where
  on_step : (what : What) → IsPolling what → (x : World) (b : Answer) (y : World) → IsSame p w x → Steps x (record { party = p; what = what }) b y → Onward (IsSame p w) (λ c z. IsSame p w z) b y
  on_step what polls x b y g s =
      let one = s.legal.one_change in
      let state = by_effect x p what one.effect y.state polls one.allowed one.state in
      let es : y.entries ≡ entries_after (size_of x) p one.effect x.entries = one.entries in
      let long = entries_long (size_of x) p one.effect x.entries in
      let so : IsSame p w y = record {
        standing = λ q apart. one.others q apart ∙ g.standing q apart;
        size = λ q apart. s.legal.knows_sizes.others q apart ∙ g.size q apart;
        parties = state.parties ∙ g.parties;
        share = λ q apart. state.share q apart ∙ g.share q apart;
        limit = state.limit ∙ g.limit;
        entries = λ q apart. ap (entries_of q) es ∙ (others (size_of x) p x.entries one.effect q apart ∙ g.entries q apart);
        long = omega (arith, long, g.long, ap length es, ap (entries_of p) es);
      } in
      record { going = λ e. so; ended = λ e. so }

going_polls : (i : Inputs) → IsPolling (Go i)
going_polls i = record { adds = λ n e. cc e; forgets = λ e. cc e }

beginning_polls : (i : Inputs) → IsPolling (Begin Call.Poll i)
beginning_polls i = record { adds = λ n e. cc e; forgets = λ e. cc e }

-- what holds of a World at rest in which everybody waits for one permit
record IsGood (w : World) : Type 0 where
  pub rests : is_at_rest w ≡ true
  pub sound : IsSound w
  pub awake : IsAwake w
  pub ones : (q : ℕ) → 0 < entries_of q w.entries → size_of w q ≡ 1

-- whoever has a permit has something
had_apart : nothing_had ≡ guard_of 1 → ⊥
had_apart e = let none : false ≡ true = ap (λ (z : Share). is_some z.held) e in cc none

-- whoever is outside every call with a guard stands as one that holds it
holds_so : (w : World) (p : ℕ) (r : Rest) → HasItsOwn w p (outside r) → share_at w.state p ≡ guard_of 1 → entries_of p w.entries ≡ 0
holds_so w p Rest.Holding own has = own.0
holds_so w p Rest.Idle own has = absurd (had_apart (sym own.1 ∙ has))
holds_so w p Rest.Finished own has = absurd (had_apart (sym own.1 ∙ has))
holds_so w p Rest.Pending own has = absurd (had_apart (sym own ∙ has))

module _ (w : World) (p : ℕ) (i : Inputs) (a : Answer) (v : World) (o : PollsTold w p i a v) (good : IsGood w) (some : 1 ≤ available w.state) where
  listed : 0 < entries_of p w.entries
  listed = marked_listed p w.entries o.marked

  took : Takes p (size_of w p) a v
  took = (keeps_promises (known_of w) w p Call.Poll i o.whole.more a v o.whole.runs o.whole.ended).later refl o.pending (omega (arith, some, good.ones p listed))

  same : IsSame p w v
  same = along Steps learn HoldsWell p i (IsSame p w) (λ c z. IsSame p w z) (λ x b y g s. on_step p i w (Go i) (going_polls i) x b y g s) (known_of w) o.whole.more w (beginning p Call.Poll i) a v
      (λ b x s. on_step p i w (Begin Call.Poll i) (beginning_polls i) w b x (record { standing = λ q apart. refl; size = λ q apart. refl; parties = refl; share = λ q apart. refl; limit = refl; entries = λ q apart. refl; long = omega arith }) s) o.whole.ended o.whole.runs

  now : Stands v
  now = (last_of Steps learn HoldsWell (known_of w) w p i o.whole.more (Begin Call.Poll i) a v o.whole.runs).legal.did.stands

  good_sound : IsSound v
  good_sound = subst IsSound (sym now.seen) (sound v.behind now.laws now.fits)

  stands_out : (r : Rest) × (standing_of v p ≡ outside r)
  stands_out =
      let one = last_of Steps learn HoldsWell (known_of w) w p i o.whole.more (Begin Call.Poll i) a v o.whole.runs in
      ends_at standing_of (λ x q. knows) Rest.Holding one.from (record { party = p; what = one.what }) a v one.legal.legal.possible one.legal.legal.ends_properly o.whole.ended (ap is_possible took.ready)

  has : share_at v.state p ≡ guard_of 1
  has = took.permits_had ∙ ap guard_of (good.ones p listed)

  gone : entries_of p v.entries ≡ 0
  gone = let P : Standing → Type 0 = HasItsOwn v p in holds_so v p stands_out.0 (subst P stands_out.1 (good_sound.each p)) has

  had_none : share_at w.state p ≡ nothing_had
  had_none = let P : Standing → Type 0 = HasItsOwn w p in subst P o.pending (good.sound.each p)

  one_more : held v.state ≡ held w.state + 1
  one_more =
      let sum = moved_sum permits_of nothing_had w.state.shares v.state.shares p same.parties same.share in
      omega (arith, sum, ap permits_of has, ap permits_of had_none)

  as_much : under_way v.state ≡ under_way w.state
  as_much =
      let sum = moved_sum (λ (x : Share). x.under_way) nothing_had w.state.shares v.state.shares p same.parties same.share in
      omega (arith, sum, ap (λ (x : Share). x.under_way) has, ap (λ (x : Share). x.under_way) had_none)

  one_fewer : available v.state + 1 ≡ available w.state
  one_fewer = omega (arith, one_more, as_much, same.limit, good.sound.balanced, good_sound.balanced)

  one_left : length v.entries + 1 ≡ length w.entries
  one_left = omega (arith, same.long, gone, good.sound.once p, listed)

  rests_on : is_at_rest v ≡ true
  rests_on = outside_all v.standings each where
    each : (q : ℕ) → is_outside (standing_of v q) ≡ true
    each q = elim (ℕ_discrete q p) as (λ _. is_outside (standing_of v q) ≡ true) [
      | yes is ↦ ap (λ z. is_outside (standing_of v z)) is ∙ ap is_outside stands_out.1
      | no apart ↦ ap is_outside (same.standing q apart) ∙ outside_each w.standings good.rests q
    ]

  ones_on : (q : ℕ) → 0 < entries_of q v.entries → size_of v q ≡ 1
  ones_on q there = elim (ℕ_discrete q p) as (λ _. size_of v q ≡ 1) [
    | yes is ↦ absurd (omega (arith, there, ap (λ z. entries_of z v.entries) is, gone))
    | no apart ↦ same.size q apart ∙ good.ones q (omega (arith, there, same.entries q apart))
  ]

  good_on : IsGood v
  good_on = record {
    rests = rests_on;
    sound = good_sound;
    awake = (let A : World → Type 0 = λ x. is_at_rest x ≡ true → IsAwake x in subst A (sym now.seen) (awake v.behind now.laws now.fits)) rests_on;
    ones = ones_on;
  }

-- there is a next party to poll
marked_next : (w : World) → IsGood w → 0 < available w.state → 0 < length w.entries → SomeMarked (standing_of w) w.entries
marked_next w good some there =
    let first = first_listed w.entries there in
    let free : IsFreeAndWanted w = (first.0, first.1, omega (arith, some, good.ones first.0 first.1)) in
    let marked = some_marked w.entries good.sound.once (good.awake.marked free) in
    (marked.0, marked.1, inl (good.awake.pending marked.0 (marked_listed marked.0 w.entries marked.1)))

drained : (n : ℕ) (w v : World) → IsGood w → n ≤ available w.state → PolledInTurn PollsTold n w v → Drained n w v
drained zero w v good few t =
    let P : World → Type 0 = Drained 0 w in
    subst P (sym t) (record { had = omega arith; left = omega arith; next = λ some there. marked_next w good some there })
drained (suc n) w v good few t =
    let p : ℕ = t.0 in
    let mid : World = t.3 in
    let o = t.4 in
    let some : 1 ≤ available w.state = omega (arith, few) in
    let fewer = one_fewer w p t.1 t.2 mid o good some in
    let later : Drained n mid v = drained n mid v (good_on w p t.1 t.2 mid o good some) (omega (arith, few, fewer)) t.5 in
    record {
      had = omega (arith, later.had, one_more w p t.1 t.2 mid o good some);
      left = omega (arith, later.left, one_left w p t.1 t.2 mid o good some);
      next = λ more there. later.next (omega (arith, more, fewer)) there;
    }

pub drains : (w : World) → is_at_rest w ≡ true → IsSound w → IsAwake w → Drains w
drains w rests sound awake ones n v few t = drained n w v (record { rests = rests; sound = sound; awake = awake; ones = ones }) few t
