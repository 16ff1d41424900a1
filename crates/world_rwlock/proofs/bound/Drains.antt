-- Where nobody writes or waits to write, each poll of a notified reader lets it in, below the readers' limit, and leaves everybody else as he was.
use Rattle.world_rwlock.proofs.Prelude.{◌≡◌, ◌≢◌, ℕ, zero, suc, ◌+◌, ◌<◌, ◌≤◌, ◌⊎◌, inl, inr, Bool, true, false, List, length, Some, refl, arith, ap, sym, ◌∙◌, subst, get_or-set_other, length-set, set, ℕ_discrete, some_eq, Right, read, answers_of, first_of, Entry, is_marked_at, is_party, entries_of, Account, accounts_after, Answer, Call, Inputs, Move, What, Begin, Go, Rest, Standing, outside, forgotten, is_outside, is_possible, going_on, beginning, how_many, is_on, Effect, nothing, changes, does, Change, takes_turn, leaves_turn, starves, recovers, begins_to_read, stops_reading, becomes_upgradable, stops_upgradable, begins_to_wait, begins_to_write, upgrades_at_once, unmarks, downgrades_to_upgradable, puts, turn_after, readers_after, IsAllowed, ListFunction, list_after, ListName, for_the_turn, for_no_readers, for_no_writer, World, State, nobody, standing_of, how_many_read, is_marked, HasTurn, entries_in, knows_of, HasItsOwn, IsSound, IsAwake, is_at_rest, Stands, Moved as Steps, Runs, HoldsWell, accounts_of, TakesToRead}
use Rattle.world_base.specs.Bounds.{SomeMarked, PolledInTurn}
use Rattle.world_base.specs.Rosters.{bit}
use Rattle.world_base.proofs.Bounds.{marked_listed}
use Rattle.world_base.proofs.Draining.{moved_count, list_long, outside_all, outside_each}
use Rattle.world_base.proofs.Lists.{others}
use Rattle.world_base.proofs.of_any_world.Endings.{ends_at}
use Rattle.world_base.proofs.of_any_world.Runs.{Onward, along, last_of}
use Rattle.world_rwlock.specs.Bound.{PollsToRead, ReadersIn, LetsReadersIn}
use Rattle.world_rwlock.specs.Changes.{May, entries_after, upgrades, downgrades}
use Rattle.world_rwlock.specs.State.{Turn, reads, passes, is_upgradable, waits_to_write, writes, sought_by}
use Rattle.world_rwlock.specs.Legal.{HasJust}
use Rattle.world_rwlock.specs.Stages.{sought_at}
use Rattle.world_rwlock.proofs.bound.AloneSeen.{reading_there}
use Rattle.world_rwlock.proofs.bound.Bound.{some_marked}
use Rattle.world_rwlock.proofs.laws.WorldLaws.{keeps_promise, sound_now, awake_now}
use Rattle.world_rwlock.proofs.step.Idle.{sought_is}

-- the turn is as it was, or the party has taken it
abbrev SameTurn : ℕ → Turn → Turn → Type 0
SameTurn p old new = (new ≡ old) ⊎ ((old ≡ nobody) × HasTurn new p)

has_by : (p : ℕ) (t s : Turn) → t ≡ s → HasTurn s p → HasTurn t p
has_by p t s e h = subst (λ x. HasTurn x p) (sym e) h

-- a party that hadn't the turn before, and has it where it changes something of it, had taken it
keeps_own : (p : ℕ) (old mid new : Turn) → (HasTurn old p → ⊥) → HasTurn mid p → HasTurn new p → SameTurn p old mid → SameTurn p old new
keeps_own p old mid new without had has (inl same) = absurd (without (has_by p old mid (sym same) had))
keeps_own p old mid new without had has (inr h) = inr (h.0, has)

turn_on : (p : ℕ) (c : Change) (x : World) (old : Turn) → May p c x → (HasTurn old p → ⊥) → SameTurn p old x.state.turn → SameTurn p old (turn_after p (changes c) x.state.turn)
turn_on p takes_turn x old may without (inl same) = inr (sym same ∙ may.0, refl)
turn_on p takes_turn x old may without (inr h) = inr (h.0, refl)
turn_on p leaves_turn x old may without (inl same) = absurd (elim may as (λ _. ⊥) [
  | inl e ↦ without (has_by p old x.state.turn (sym same) (has_by p x.state.turn (passes p) e refl))
  | inr e ↦ without (has_by p old x.state.turn (sym same) (has_by p x.state.turn (is_upgradable p) e refl))
])
turn_on p leaves_turn x old may without (inr h) = inl (sym h.0)
turn_on p becomes_upgradable x old may without g = keeps_own p old x.state.turn (is_upgradable p) without (has_by p x.state.turn (passes p) may.0 refl) refl g
turn_on p stops_upgradable x old may without g = keeps_own p old x.state.turn (passes p) without (has_by p x.state.turn (is_upgradable p) may refl) refl g
turn_on p begins_to_wait x old may without g = keeps_own p old x.state.turn (waits_to_write p) without (has_by p x.state.turn (passes p) may.0 refl) refl g
turn_on p begins_to_write x old may without g = elim may.0 as (λ _. SameTurn p old (writes p)) [
  | inl e ↦ keeps_own p old x.state.turn (writes p) without (has_by p x.state.turn (passes p) e refl) refl g
  | inr e ↦ keeps_own p old x.state.turn (writes p) without (has_by p x.state.turn (waits_to_write p) e refl) refl g
]
turn_on p upgrades x old may without g = keeps_own p old x.state.turn (waits_to_write p) without (has_by p x.state.turn (is_upgradable p) may refl) refl g
turn_on p upgrades_at_once x old may without g = keeps_own p old x.state.turn (writes p) without (has_by p x.state.turn (is_upgradable p) may.0 refl) refl g
turn_on p unmarks x old may without g = elim may as (λ _. SameTurn p old (passes p)) [
  | inl e ↦ keeps_own p old x.state.turn (passes p) without (has_by p x.state.turn (waits_to_write p) e refl) refl g
  | inr e ↦ keeps_own p old x.state.turn (passes p) without (has_by p x.state.turn (writes p) e refl) refl g
]
turn_on p downgrades x old may without g = keeps_own p old x.state.turn (passes p) without (has_by p x.state.turn (writes p) may refl) refl g
turn_on p downgrades_to_upgradable x old may without g = keeps_own p old x.state.turn (is_upgradable p) without (has_by p x.state.turn (writes p) may refl) refl g
turn_on p starves x old may without g = g
turn_on p recovers x old may without g = g
turn_on p begins_to_read x old may without g = g
turn_on p stops_reading x old may without g = g
turn_on p (puts v) x old may without g = g

turn_by_effect : (p : ℕ) (d : Effect Change ListName) (x : World) (old : Turn) → IsAllowed p d x → (HasTurn old p → ⊥) → SameTurn p old x.state.turn → SameTurn p old (turn_after p d x.state.turn)
turn_by_effect p nothing x old may without g = g
turn_by_effect p (changes c) x old may without g = turn_on p c x old may without g
turn_by_effect p (does list f) x old may without g = g

-- of the readers a step changes its own party alone
abbrev SameReaders : ℕ → List Bool → List Bool → Type 0
SameReaders p old new = (length new ≡ length old) × ((q : ℕ) → q ≢ p → is_on new q ≡ is_on old q)

set_readers : (p : ℕ) (rs : List Bool) (b : Bool) → SameReaders p rs (set rs p b)
set_readers p rs b = (length-set rs p b, λ q apart. get_or-set_other rs p q b false apart)

readers_by : (p : ℕ) (d : Effect Change ListName) (rs : List Bool) → SameReaders p rs (readers_after p d rs)
readers_by p (changes begins_to_read) rs = set_readers p rs true
readers_by p (changes becomes_upgradable) rs = set_readers p rs true
readers_by p (changes downgrades) rs = set_readers p rs true
readers_by p (changes downgrades_to_upgradable) rs = set_readers p rs true
readers_by p (changes stops_reading) rs = set_readers p rs false
readers_by p (changes stops_upgradable) rs = set_readers p rs false
readers_by p (changes upgrades) rs = set_readers p rs false
readers_by p (changes upgrades_at_once) rs = set_readers p rs false
readers_by p _ rs = (refl, λ q apart. refl)

-- the list grows and shrinks by the party's own entry, and the others keep theirs
entries_long : (p : ℕ) (d : Effect Change ListName) (l : List (Entry ℕ)) → entries_of p (entries_after p d for_no_writer l) + length l ≡ entries_of p l + length (entries_after p d for_no_writer l)
entries_long p (does for_no_writer f) l = list_long p f l
entries_long p (does for_the_turn f) l = refl
entries_long p (does for_no_readers f) l = refl
entries_long p nothing l = refl
entries_long p (changes c) l = refl

entries_others : (p : ℕ) (d : Effect Change ListName) (l : List (Entry ℕ)) (q : ℕ) → q ≢ p → entries_of q (entries_after p d for_no_writer l) ≡ entries_of q l
entries_others p (does for_no_writer f) l q apart = others p l f q apart
entries_others p (does for_the_turn f) l q apart = refl
entries_others p (does for_no_readers f) l q apart = refl
entries_others p nothing l q apart = refl
entries_others p (changes c) l q apart = refl

-- What a poll of this party leaves as it was, if it takes no turn: the turn, and all that the others have.
record IsSame (p : ℕ) (w x : World) : Type 0 where
  pub standing : (q : ℕ) → q ≢ p → standing_of x q ≡ standing_of w q
  pub readers : SameReaders p w.state.readers x.state.readers
  pub turn : SameTurn p w.state.turn x.state.turn
  pub limit : x.readers_limit ≡ w.readers_limit
  pub entries : (q : ℕ) → q ≢ p → entries_of q x.no_writer ≡ entries_of q w.no_writer
  pub long : length x.no_writer + entries_of p w.no_writer ≡ length w.no_writer + entries_of p x.no_writer

module _ (p : ℕ) (w : World) (without : HasTurn w.state.turn p → ⊥) where
  on_step : (what : What) (x : World) (b : Answer) (y : World) → IsSame p w x → Steps x (record { party = p; what = what }) b y → Onward (IsSame p w) (λ c z. IsSame p w z) b y
  on_step what x b y g s =
      let one = s.legal.one_change in
      let d = one.effect in
      let readers_now : y.state.readers ≡ readers_after p d x.state.readers = ap (λ (z : State). z.readers) one.state in
      let turn_now : y.state.turn ≡ turn_after p d x.state.turn = ap (λ (z : State). z.turn) one.state in
      let es : y.no_writer ≡ entries_after p d for_no_writer x.no_writer = one.lists for_no_writer in
      let step_readers = readers_by p d x.state.readers in
      let long = entries_long p d x.no_writer in
      let so : IsSame p w y = record {
        standing = λ q apart. one.others q apart ∙ g.standing q apart;
        readers = (ap length readers_now ∙ (step_readers.0 ∙ g.readers.0), λ q apart. ap (λ r. is_on r q) readers_now ∙ (step_readers.1 q apart ∙ g.readers.1 q apart));
        turn = subst (SameTurn p w.state.turn) (sym turn_now) (turn_by_effect p d x w.state.turn one.allowed without g.turn);
        limit = one.readers_limit ∙ g.limit;
        entries = λ q apart. ap (entries_of q) es ∙ (entries_others p d x.no_writer q apart ∙ g.entries q apart);
        long = omega (arith, long, g.long, ap length es, ap (entries_of p) es);
      } in
      record { going = λ e. so; ended = λ e. so }

-- ---- one poll

-- what holds of a World at rest in which nobody writes or waits to
record IsGood (w : World) : Type 0 where
  pub rests : is_at_rest w ≡ true
  pub sound : IsSound w
  pub awake : IsAwake w
  pub unmarked : is_marked w.state.turn ≡ false

-- whoever is pending and hasn't the bit hasn't the turn
without_turn : (w : World) (p : ℕ) → HasItsOwn w p (outside Rest.Pending) → is_marked w.state.turn ≡ false → HasTurn w.state.turn p → ⊥
without_turn w p own unmarked has = elim own.1 as (λ _. ⊥) [
  | inl waits ↦ (let set : is_marked w.state.turn ≡ true = ap is_marked waits.0 in cc (unmarked))
  | inr none ↦ none.0 has
]

-- whoever has come to read stands in no list, and hasn't the turn
read_so : (w : World) (p : ℕ) (r : Right) → sought_by w p ≡ Some read → sought_by w p ≡ Some r → HasJust w p r → HasTurn w.state.turn p → ⊥
read_so w p r is some just = let same : r ≡ read = some_eq (sym some ∙ is) in (let P : Right → Type 0 = HasJust w p in subst P same just).1

reads_so : (w : World) (p : ℕ) (r : Rest) → HasItsOwn w p (outside r) → reads w p ≡ true → sought_by w p ≡ Some read → (entries_of p w.no_writer ≡ 0) × (HasTurn w.state.turn p → ⊥)
reads_so w p Rest.Holding own has is = (omega (arith, own.0.0), read_so w p own.1.0 is own.1.1 own.1.2)
reads_so w p Rest.Idle own has is = absurd (let none = own.1.0 in cc (none, has))
reads_so w p Rest.Finished own has is = absurd (let none = own.1.0 in cc (none, has))
reads_so w p Rest.Pending own has is = absurd (let none = own.0 in cc (none, has))

module _ (w : World) (p : ℕ) (i : Inputs) (a : Answer) (v : World) (o : PollsToRead w p i a v) (good : IsGood w) (below : how_many_read w < w.readers_limit) where
  took : TakesToRead w p a v
  took = (keeps_promise (accounts_of w) w p Call.Poll i o.whole.more a v o.whole.runs o.whole.ended).reading refl o.told good.unmarked below

  pending_own : HasItsOwn w p (outside Rest.Pending)
  pending_own = let P : Standing → Type 0 = HasItsOwn w p in subst P o.told.pending (good.sound.each p)

  without : HasTurn w.state.turn p → ⊥
  without = without_turn w p pending_own good.unmarked

  same : IsSame p w v
  same = along Steps accounts_after HoldsWell p i (IsSame p w) (λ c z. IsSame p w z) (λ x b y g s. on_step p w without (Go i) x b y g s) (accounts_of w) o.whole.more w (beginning p Call.Poll i) a v
      (λ b x s. on_step p w without (Begin Call.Poll i) w b x (record { standing = λ q apart. refl; readers = (refl, λ q apart. refl); turn = inl refl; limit = refl; entries = λ q apart. refl; long = omega arith }) s) o.whole.ended o.whole.runs

  stood : Stands w
  stood = (first_of Steps accounts_after HoldsWell (accounts_of w) w (beginning p Call.Poll i) _ (answers_of o.whole.more a) v o.whole.runs).2.did.stood

  now : Stands v
  now = (last_of Steps accounts_after HoldsWell (accounts_of w) w p i o.whole.more (Begin Call.Poll i) a v o.whole.runs).legal.did.stands

  good_sound : IsSound v
  good_sound = sound_now v now

  stands_out : (r : Rest) × (standing_of v p ≡ outside r)
  stands_out =
      let one = last_of Steps accounts_after HoldsWell (accounts_of w) w p i o.whole.more (Begin Call.Poll i) a v o.whole.runs in
      ends_at standing_of knows_of Rest.Holding one.from (record { party = p; what = one.what }) a v one.legal.legal.possible one.legal.legal.ends_properly o.whole.ended (ap is_possible took.ready)

  seeks : sought_by v p ≡ Some read
  seeks = ap (λ x. sought_by x p) now.seen ∙ (sought_is v.behind p ∙ ap sought_at (reading_there (accounts_of w) w p i o.whole.more a v stood o.whole.runs o.whole.ended o.told good.unmarked below))

  in_now : (entries_of p v.no_writer ≡ 0) × (HasTurn v.state.turn p → ⊥)
  in_now = let P : Standing → Type 0 = HasItsOwn v p in reads_so v p stands_out.0 (subst P stands_out.1 (good_sound.each p)) took.reads seeks

  same_turn : v.state.turn ≡ w.state.turn
  same_turn = elim same.turn as (λ _. v.state.turn ≡ w.state.turn) [ inl is ↦ is | inr taken ↦ absurd (in_now.1 taken.1) ]

  one_more : how_many_read v ≡ how_many_read w + 1
  one_more =
      let moved = moved_count w.state.readers v.state.readers p same.readers.0 same.readers.1 in
      let before : bit (is_on w.state.readers p) ≡ 0 = ap bit pending_own.0 in
      let after : bit (is_on v.state.readers p) ≡ 1 = ap bit took.reads in
      omega (arith, moved, before, after)

  one_left : length v.no_writer + 1 ≡ length w.no_writer
  one_left = omega (arith, same.long, in_now.0, marked_listed p w.no_writer o.told.marked, good.sound.once p)

  rests_on : is_at_rest v ≡ true
  rests_on = outside_all v.standings each where
    each : (q : ℕ) → is_outside (standing_of v q) ≡ true
    each q = elim (ℕ_discrete q p) as (λ _. is_outside (standing_of v q) ≡ true) [
      | yes is ↦ ap (λ z. is_outside (standing_of v z)) is ∙ ap is_outside stands_out.1
      | no apart ↦ ap is_outside (same.standing q apart) ∙ outside_each w.standings good.rests q
    ]

  good_on : IsGood v
  good_on = record {
    rests = rests_on;
    sound = good_sound;
    awake = awake_now v now rests_on;
    unmarked = ap is_marked same_turn ∙ good.unmarked;
  }

-- ---- polls in turn

readers_in : (n : ℕ) (w v : World) → IsGood w → how_many_read w + n ≤ w.readers_limit → PolledInTurn PollsToRead n w v → ReadersIn n w v
readers_in zero w v good few t =
    let P : World → Type 0 = ReadersIn 0 w in
    subst P (sym t) (record { read = omega arith; left = omega arith; next = λ there. some_marked w good.awake w.no_writer (λ p. omega arith) (good.sound.in_order for_no_writer) (good.awake.reading_marked (good.unmarked, there)) })
readers_in (suc n) w v good few t =
    let mid : World = t.3 in
    let o = t.4 in
    let below : how_many_read w < w.readers_limit = omega (arith, few) in
    let more = one_more w t.0 t.1 t.2 mid o good below in
    let later : ReadersIn n mid v = readers_in n mid v (good_on w t.0 t.1 t.2 mid o good below) (omega (arith, few, more, (same w t.0 t.1 t.2 mid o good below).limit)) t.5 in
    record {
      read = omega (arith, later.read, more);
      left = omega (arith, later.left, one_left w t.0 t.1 t.2 mid o good below);
      next = later.next;
    }

pub lets_in : (w : World) → is_at_rest w ≡ true → IsSound w → IsAwake w → LetsReadersIn w
lets_in w rests sound awake unmarked n v few t = readers_in n w v (record { rests = rests; sound = sound; awake = awake; unmarked = unmarked }) few t
