-- What one action does, as callers see it: its effect, that the effect is allowed, and why the call is decided. Here for the actions on the word and on the two lists.
use Rattle.world_rwlock.proofs.Prelude.{◌≡◌, ◌≢◌, ℕ, ◌+◌, ◌<◌, ◌≤◌, ◌==◌, ◌⊎◌, inl, inr, Bool, true, false, List, map, length, Option, Some, None, refl, arith, ap, sym, ◌∙◌, subst, get_or-set_same, get_or-set_other, set, ℕ_discrete, map-set, entries_of, Answer, Value, Move, Refusal, Stage, number_of, Right, read, upgradable, how_many, inputs_of, Effect, nothing, changes, does, listed, turn_at, holder_of, starved_of, out_unlisted, holding_unlisted, out_free, Found, No, Next, Place, action_of, next_of, place_after, has_turn, in_no_writer, in_no_readers, fits_turn, OnNoWriter, OnNoReaders, RwLock, SameRoles, place_at, IsRwLock, Finds, Change, takes_turn, leaves_turn, starves, recovers, begins_to_read, stops_reading, becomes_upgradable, stops_upgradable, begins_to_wait, begins_to_write, upgrades_at_once, unmarks, downgrades_to_upgradable, puts, turn_after, readers_after, starved_after, value_after, IsAllowed, gives_back, entries_after, ListName, for_the_turn, for_no_readers, for_no_writer, World, list_of, told_in, entries_in, how_many_read, MayMeet, IsCause, answer_by, strays, course_of, sought_at, Share, passing, upgrading, waiting, writing, turn_as, share_of, turn_by, is_reading, verdict, seen, notifies, notifies_additionally, is_starved, is_counting, owes_in, owing_at, has_to_tell, mapped_at}
use Rattle.std.proofs.Math.Seq.{map-set_same}
use Rattle.lock_event.specs.declared.event.Mark.{Mark}
use Rattle.world_base.proofs.of_queue.Told.{waits_at}
use Rattle.world_rwlock.proofs.of_machine.stages.Leads.{steps_in_turn}
use Rattle.world_rwlock.specs.Changes.{upgrades, downgrades}
use Rattle.world_rwlock.specs.State as state
use Rattle.world_rwlock.proofs.step.Rows.{is_midway, effect_at, verdict_then, is_after_ready, Reads, Shares, Finding, is_got, WaitsAt, JoinsAt, MeetsReaders, Refuses, Reason, Judged, Room, keeps_what_it_has, lacks_memory, KeepsUpgrade, RefusedAt, Row, row}
use Rattle.world_rwlock.proofs.step.Owns as owns
use Rattle.world_rwlock.proofs.laws.Sound.{none_marked}
use Rattle.world_rwlock.proofs.table.Views as view
use Rattle.world_rwlock.proofs.table.Views.{Fits}

-- a party waits in the list of the place where it stands
abbrev pub WaitsIn : RwLock → ℕ → Place → Type 0
WaitsIn k p Place.AskNoWriter = told_in k.no_writer p ≡ Some Mark.Waiting
WaitsIn k p (Place.AwaitNoReaders u) = told_in k.no_readers p ≡ Some Mark.Waiting
WaitsIn k p (Place.WaitTurn q) = told_in k.turn.entries p ≡ Some Mark.Waiting
WaitsIn k p _ = ⊥

-- why a call is refused, but that it takes what there is a limit for; and that one that is refused as starved was about to be counted
abbrev pub CauseAs : Move → World → World → Refusal → Type 0
CauseAs m old new Refusal.Memory = IsCause old m new Refusal.Memory
CauseAs m old new Refusal.Starved = (how_many old.state.starved ≡ old.starved_limit) × (is_starved old m.party ≡ false) × (is_counting (turn_at old.behind.machine.lock.turn.courses m.party) ≡ true)
CauseAs m old new Refusal.Readers = old.readers_limit ≤ how_many_read old
CauseAs m old new _ = ⊥

-- a refusal for memory, or since too many are starved, does nothing else, and comes from a join, or from within a call on the turn; and whoever meets a limit takes what it is for
abbrev pub Fitting : World → ℕ → Place → Place → Effect Change ListName → Refusal → Type 0
Fitting old p x to d Refusal.Memory = (d ≡ nothing) × (lacks_memory x ≡ true)
Fitting old p x to d Refusal.Readers = MayMeet (sought_at to) old p Refusal.Readers
Fitting old p x to d Refusal.Starved = (d ≡ nothing) × (lacks_memory x ≡ true) × MayMeet (sought_at to) old p Refusal.Starved
Fitting old p x to d _ = Unit {0}

-- why a call is decided on an answer
abbrev pub ReasonAs : Move → World → RwLock → World → ℕ → Place → Place → Effect Change ListName → Answer → Type 0
ReasonAs m old k new v x to d Answer.Pending = WaitsIn k m.party to
ReasonAs m old k new v x to d (Answer.Ready got) = (got ≡ Value v) × (is_got to ≡ true)
ReasonAs m old k new v x to d (Answer.Granted got) = (got ≡ Value v) × (is_got to ≡ true)
ReasonAs m old k new v x to d (Answer.Refused n) = (r : Refusal) × (n ≡ number_of r) × CauseAs m old new r × Fitting old m.party x to d r
ReasonAs m old k new v x to d _ = Unit {0}

abbrev pub JudgedAs : Move → World → RwLock → World → ℕ → Place → Place → Effect Change ListName → Option Answer → Option Answer → Type 0
JudgedAs m old k new v x to d (Some b) o = (o ≡ Some b) × (gives_back d ≡ true)
JudgedAs m old k new v x to d None None = Unit {0}
JudgedAs m old k new v x to d None (Some b) = ReasonAs m old k new v x to d b

pub record Facts (m : Move) (l k : RwLock) (ss : List Stage) (opening : ℕ) (ts : List Stage) (v : ℕ) (x : Place) (n : Next) : Type 0 where
  pub effect : Effect Change ListName
  pub readers : map is_reading k.places ≡ readers_after m.party effect (map is_reading l.places)
  pub turn : turn_by (holder_of k.turn) k.places ≡ turn_after m.party effect (turn_by (holder_of l.turn) l.places)
  pub starved : starved_of k.turn ≡ starved_after m.party effect (starved_of l.turn)
  pub valued : value_after effect v ≡ v
  pub allowed : IsAllowed m.party effect (seen l ss opening v)
  pub lists : (list : ListName) → list_of (seen k ts opening v) list ≡ entries_after m.party effect list (list_of (seen l ss opening v) list)
  pub starved_limit : k.turn.limit ≡ l.turn.limit
  pub others : (q : ℕ) → q ≢ m.party → turn_at k.turn.courses q ≡ turn_at l.turn.courses q
  pub judged : JudgedAs m (seen l ss opening v) k (seen k ts opening v) v x (place_after n) effect (verdict v x (turn_at l.turn.courses m.party)) (verdict_then v (turn_at k.turn.courses m.party) n)
  pub room : Room (inputs_of m.what).memory effect
  pub holds_on : keeps_what_it_has (verdict v x (turn_at l.turn.courses m.party)) effect ≡ true
  pub over : is_after_ready (answer_by v n) ≡ false
  pub upgrade : KeepsUpgrade v x n
  pub refused : RefusedAt x n

-- ---- an action on the word or on a list

readers_by : (d : Effect Change ListName) (p : ℕ) (xs : List Place) (to : Place) → Reads d (is_reading (place_at xs p)) (is_reading to) → map is_reading (set xs p to) ≡ readers_after p d (map is_reading xs)
readers_by (changes begins_to_read) p xs to h = map-set is_reading xs p to ∙ ap (set (map is_reading xs) p) h
readers_by (changes becomes_upgradable) p xs to h = map-set is_reading xs p to ∙ ap (set (map is_reading xs) p) h
readers_by (changes downgrades) p xs to h = map-set is_reading xs p to ∙ ap (set (map is_reading xs) p) h
readers_by (changes downgrades_to_upgradable) p xs to h = map-set is_reading xs p to ∙ ap (set (map is_reading xs) p) h
readers_by (changes stops_reading) p xs to h = map-set is_reading xs p to ∙ ap (set (map is_reading xs) p) h
readers_by (changes stops_upgradable) p xs to h = map-set is_reading xs p to ∙ ap (set (map is_reading xs) p) h
readers_by (changes upgrades) p xs to h = map-set is_reading xs p to ∙ ap (set (map is_reading xs) p) h
readers_by (changes upgrades_at_once) p xs to h = map-set is_reading xs p to ∙ ap (set (map is_reading xs) p) h
readers_by (changes takes_turn) p xs to h = map-set_same is_reading xs p to Place.Out h
readers_by (changes leaves_turn) p xs to h = map-set_same is_reading xs p to Place.Out h
readers_by (changes starves) p xs to h = map-set_same is_reading xs p to Place.Out h
readers_by (changes recovers) p xs to h = map-set_same is_reading xs p to Place.Out h
readers_by (changes begins_to_wait) p xs to h = map-set_same is_reading xs p to Place.Out h
readers_by (changes begins_to_write) p xs to h = map-set_same is_reading xs p to Place.Out h
readers_by (changes unmarks) p xs to h = map-set_same is_reading xs p to Place.Out h
readers_by (changes (puts u)) p xs to h = map-set_same is_reading xs p to Place.Out h
readers_by nothing p xs to h = map-set_same is_reading xs p to Place.Out h
readers_by (does list g) p xs to h = map-set_same is_reading xs p to Place.Out h

-- who has the turn for what, where one party goes on to a place of the same share
pub turn_kept : (h : Option ℕ) (xs : List Place) (p : ℕ) (to : Place) → p < length xs → share_of to ≡ share_of (place_at xs p) → turn_by h (set xs p to) ≡ turn_by h xs
turn_kept None xs p to known e = refl
turn_kept (Some q) xs p to known e = elim (ℕ_discrete q p) as (λ _. turn_by (Some q) (set xs p to) ≡ turn_by (Some q) xs) [
  | yes same ↦ (let P : ℕ → Type 0 = λ j. turn_by (Some j) (set xs p to) ≡ turn_by (Some j) xs in
      subst P (sym same) (ap (λ y. turn_as p (share_of y)) (get_or-set_same xs p to Place.Out known) ∙ ap (turn_as p) e))
  | no apart ↦ ap (λ y. turn_as q (share_of y)) (get_or-set_other xs p q to Place.Out apart)
]

pub record Known (m : Move) (l k : RwLock) (ss : List Stage) (v : ℕ) (x : Place) (f : Found) : Type 0 where
  pub laws : IsRwLock l
  pub fits : Fits l ss v
  pub known : m.party < length ss
  pub finds : Finds (inputs_of m.what).memory (action_of x) f l
  pub no_writer : OnNoWriter m.party (action_of x) f l.no_writer k.no_writer
  pub no_readers : OnNoReaders m.party (action_of x) f l.no_readers k.no_readers
  pub places : k.places ≡ set l.places m.party (place_after (next_of x f))
  pub same : SameRoles x (place_at l.places m.party)
  pub share : share_of x ≡ share_of (place_at l.places m.party)
  pub straight : course_of x ≡ strays → ⊥
  pub midway : is_midway x ≡ true → place_at l.places m.party ≡ x

module _ (m : Move) (l k : RwLock) (ss : List Stage) (opening : ℕ) (ts : List Stage) (v : ℕ) (x : Place) (f : Found) (c : Known m l k ss v x f) where
  abbrev p : ℕ
  p = m.party

  abbrev to : Place
  to = place_after (next_of x f)

  pub there : p < length l.places
  there = omega (arith, c.fits.as_many, c.known)

  pub reads_same : is_reading x ≡ is_reading (place_at l.places p)
  reads_same = ap (λ (n : ℕ). n == 1) c.same.reading

  has_here : has_turn x ≡ 1 → has_turn (place_at l.places p) ≡ 1
  has_here h = omega (arith, c.same.turning, c.same.marking, h)

  turn_here : (s : Share) → has_turn x ≡ 1 → share_of x ≡ s → turn_by (holder_of l.turn) l.places ≡ turn_as p s
  turn_here s h e = owns.turn_is l ss opening v c.laws c.fits p (has_here h) ∙ ap (turn_as p) (sym c.share ∙ e)

  abbrev w : World
  w = seen l ss opening v

  -- what its place owes a list it has to tell there
  tells : (list : ListName) → is_midway x ≡ true → owes_in list (owing_at x) ≡ true → has_to_tell list w p ≡ true
  tells list h o = ap (owes_in list) (mapped_at owing_at l.places p Place.Out ∙ ap owing_at (c.midway h)) ∙ o

  allows : (d : Effect Change ListName) → Finding d l x → IsAllowed p d (seen l ss opening v)
  allows (changes begins_to_read) h = (none_marked l h.0, omega (arith, view.how_many-read l.places, h.1))
  allows (changes stops_reading) h = view.reads_at l.places p ∙ (sym reads_same ∙ h)
  allows (changes becomes_upgradable) h = (turn_here passing h.0 h.1, omega (arith, view.how_many-read l.places, h.2))
  allows (changes stops_upgradable) h = turn_here upgrading h.0 h.1
  allows (changes begins_to_wait) h = (turn_here passing h.0 h.1, omega (arith, view.how_many-read l.places, h.2))
  allows (changes begins_to_write) h = (elim h.1 as (λ _. (turn_by (holder_of l.turn) l.places ≡ turn_as p passing) ⊎ (turn_by (holder_of l.turn) l.places ≡ turn_as p waiting)) [ inl e ↦ inl (turn_here passing h.0 e) | inr e ↦ inr (turn_here waiting h.0 e) ], view.how_many-read l.places ∙ h.2)
  allows (changes upgrades) h = turn_here upgrading h.0 h.1
  allows (changes upgrades_at_once) h = (turn_here upgrading h.0 h.1, view.how_many-read l.places ∙ h.2)
  allows (changes unmarks) h = elim h.1 as (λ _. (turn_by (holder_of l.turn) l.places ≡ turn_as p waiting) ⊎ (turn_by (holder_of l.turn) l.places ≡ turn_as p writing)) [ inl e ↦ inl (turn_here waiting h.0 e) | inr e ↦ inr (turn_here writing h.0 e) ]
  allows (changes downgrades) h = turn_here writing h.0 h.1
  allows (changes downgrades_to_upgradable) h = turn_here writing h.0 h.1
  allows (changes takes_turn) h = absurd h
  allows (changes leaves_turn) h = absurd h
  allows (changes starves) h = absurd h
  allows (changes recovers) h = absurd h
  allows (changes (puts u)) h = absurd h
  allows nothing h = tt
  allows (does for_the_turn g) h = absurd h
  allows (does for_no_readers (notifies k)) h = (h.0, tells for_no_readers h.2 h.1)
  allows (does for_no_readers (notifies_additionally k)) h = h
  allows (does for_no_readers _) h = tt
  allows (does for_no_writer (notifies k)) h = (h.0, elim h.1 as (λ _. (has_to_tell for_no_writer w p ≡ true) ⊎ (state.sought_by w p ≡ Some read)) [ inl owed ↦ inl (tells for_no_writer h.2 owed) | inr reader ↦ inr (view.seeks_at l.places p ∙ (ap sought_at (c.midway h.2) ∙ reader)) ])
  allows (does for_no_writer (notifies_additionally k)) h = h
  allows (does for_no_writer _) h = tt

  module _ (still : k.turn ≡ l.turn) (word : steps_in_turn x ≡ false) where
    abbrev memory : Bool
    memory = (inputs_of m.what).memory

    r : Row memory l v x f
    r = row memory l v x f c.finds c.straight word

    turned : Shares (effect_at x f) x to → turn_by (holder_of l.turn) (set l.places p to) ≡ turn_after p (effect_at x f) (turn_by (holder_of l.turn) l.places)
    turned (inl h) =
        let holder = owns.holder_is l ss opening v c.laws c.fits p (has_here h.0) in
        let P : Option ℕ → Type 0 = λ o. turn_by o (set l.places p to) ≡ turn_after p (effect_at x f) (turn_by o l.places) in
        subst P (sym holder) (ap (λ y. turn_as p (share_of y)) (get_or-set_same l.places p to Place.Out there) ∙ (sym (h.1 p) ∙ ap (λ s. turn_after p (effect_at x f) (turn_as p s)) c.share))
    turned (inr h) = turn_kept (holder_of l.turn) l.places p to there (h.1 ∙ c.share) ∙ sym (h.0 p (turn_by (holder_of l.turn) l.places))

    unlisted : in_no_writer x + in_no_readers x ≡ 0 → JoinsAt x (turn_at l.turn.courses p) → entries_in (seen l ss opening v) p ≡ 0
    unlisted e h =
        let none : listed (turn_at l.turn.courses p) ≡ 0 = elim h as (λ _. listed (turn_at l.turn.courses p) ≡ 0) [ inl o ↦ out_unlisted (turn_at l.turn.courses p) o | inr o ↦ holding_unlisted (turn_at l.turn.courses p) o.0 ] in
        omega (arith, c.laws.owners_no_writer p, c.laws.owners_no_readers p, c.laws.turn.owners p, none, e, c.same.standing_w, c.same.standing_r)

    fit : fits_turn x (turn_at l.turn.courses p) ≡ true
    fit = rw c.same.in_turn (c.laws.in_turn p)

    joins_apart : JoinsAt x (turn_at l.turn.courses p) → turn_by (holder_of l.turn) l.places ≢ state.passes p
    joins_apart (inl o) e = owns.no_turn l ss opening v c.laws c.fits p (out_free (turn_at l.turn.courses p) o) (owns.has_as (turn_by (holder_of l.turn) l.places) p passing e)
    joins_apart (inr h) e = let turn = turn_here waiting h.1 h.2 in absurd (cc)

    cause : (q : Refusal) → Refuses memory l x f q → CauseAs m (seen l ss opening v) (seen k ts opening v) q
    cause Refusal.Memory h = (h.0, unlisted h.1 (h.3 (turn_at l.turn.courses p) fit), by_list, joins_apart (h.3 (turn_at l.turn.courses p) fit)) where
      by_list : (list : ListName) → list_of (seen k ts opening v) list ≡ list_of (seen l ss opening v) list
      by_list for_the_turn = ap (λ t. t.entries) still
      by_list for_no_readers = r.no_readers p l.no_readers k.no_readers c.no_readers ∙ ap (λ (d : Effect Change ListName). entries_after p d for_no_readers l.no_readers) h.2
      by_list for_no_writer = r.no_writer p l.no_writer k.no_writer c.no_writer ∙ ap (λ (d : Effect Change ListName). entries_after p d for_no_writer l.no_writer) h.2
    cause Refusal.Readers h = omega (arith, view.how_many-read l.places, h.0)
    cause Refusal.Starved h = absurd h
    cause Refusal.Permits h = absurd h
    cause Refusal.Generations h = absurd h
    cause Refusal.Finished h = absurd h

    waits_here : (y : Place) (g : Found) → OnNoWriter p (action_of y) g l.no_writer k.no_writer → OnNoReaders p (action_of y) g l.no_readers k.no_readers → in_no_writer y ≡ entries_of p l.no_writer → in_no_readers y ≡ entries_of p l.no_readers → WaitsAt y g → WaitsIn k p (place_after (next_of y g))
    waits_here Place.AskNoWriter g ow or ew er h =
        let ow2 : OnNoWriter p (action_of Place.AskNoWriter) No l.no_writer k.no_writer = rw h at ow in
        let P : Found → Type 0 = λ g. WaitsIn k p (place_after (next_of Place.AskNoWriter g)) in
        subst P (sym h) (rw (ow2.1) (waits_at p l.no_writer (sym ew) ow2.0))
    waits_here (Place.AskNoReaders u) g ow or ew er h =
        let or2 : OnNoReaders p (action_of (Place.AskNoReaders u)) No l.no_readers k.no_readers = rw h at or in
        let P : Found → Type 0 = λ g. WaitsIn k p (place_after (next_of (Place.AskNoReaders u) g)) in
        subst P (sym h) (rw (or2.1) (waits_at p l.no_readers (sym er) or2.0))
    waits_here _ g ow or ew er h = absurd h

    meets_readers : (o : Option Right) → MeetsReaders l x o → MayMeet o (seen l ss opening v) p Refusal.Readers
    meets_readers (Some read) h = none_marked l h
    meets_readers (Some upgradable) h = owns.has_as (turn_by (holder_of l.turn) l.places) p (share_of x) (turn_here (share_of x) h refl)
    meets_readers _ h = absurd h

    fitting : (q : Refusal) → Refuses memory l x f q → Fitting (seen l ss opening v) p x to (effect_at x f) q
    fitting Refusal.Memory h = (h.2, h.4)
    fitting Refusal.Readers h = meets_readers (sought_at to) h.1
    fitting Refusal.Starved h = absurd h
    fitting Refusal.Permits h = tt
    fitting Refusal.Generations h = tt
    fitting Refusal.Finished h = tt

    reasons : (b : Answer) → Reason memory l v x f b → ReasonAs m (seen l ss opening v) k (seen k ts opening v) v x to (effect_at x f) b
    reasons Answer.Pending h = waits_here x f c.no_writer c.no_readers (c.same.standing_w ∙ sym (c.laws.owners_no_writer p)) (c.same.standing_r ∙ sym (c.laws.owners_no_readers p)) h
    reasons (Answer.Ready got) h = h
    reasons (Answer.Granted got) h = h
    reasons (Answer.Refused n) h = (h.0, h.1, cause h.0 h.2, fitting h.0 h.2)
    reasons Answer.Stepped h = tt
    reasons Answer.None h = tt
    reasons Answer.GivenBack h = tt
    reasons Answer.Waiting h = tt
    reasons Answer.NotPossible h = tt

    judges : (was now : Option Answer) → Judged memory l v x f was now → JudgedAs m (seen l ss opening v) k (seen k ts opening v) v x to (effect_at x f) was now
    judges (Some b) o h = h
    judges None None h = tt
    judges None (Some b) h = reasons b h

    pub on_word : Facts m l k ss opening ts v x (next_of x f)
    on_word = record {
      effect = effect_at x f;
      readers = ap (map is_reading) c.places ∙ readers_by (effect_at x f) p l.places to (reads_on (effect_at x f) r.reading);
      turn = ap (λ t. turn_by (holder_of t) k.places) still ∙ (ap (turn_by (holder_of l.turn)) c.places ∙ turned r.sharing);
      starved = ap starved_of still ∙ sym (r.starving p (starved_of l.turn));
      valued = r.valued v;
      allowed = allows (effect_at x f) r.finding;
      lists = by_list;
      starved_limit = ap (λ t. t.limit) still;
      others = λ q apart. ap (λ t. turn_at t.courses q) still;
      judged = judges (verdict v x (turn_at l.turn.courses p)) (verdict_then v (turn_at k.turn.courses p) (next_of x f)) (r.judged (turn_at l.turn.courses p) (turn_at k.turn.courses p));
      room = r.room;
      holds_on = r.holds_on (turn_at l.turn.courses p);
      over = r.over;
      upgrade = r.upgrade;
      refused = r.refused;
    } where
      by_list : (list : ListName) → list_of (seen k ts opening v) list ≡ entries_after p (effect_at x f) list (list_of (seen l ss opening v) list)
      by_list for_the_turn = ap (λ t. t.entries) still ∙ sym (r.unturned p l.turn.entries)
      by_list for_no_readers = r.no_readers p l.no_readers k.no_readers c.no_readers
      by_list for_no_writer = r.no_writer p l.no_writer k.no_writer c.no_writer

      reads_on : (d : Effect Change ListName) → Reads d (is_reading x) (is_reading to) → Reads d (is_reading (place_at l.places p)) (is_reading to)
      reads_on d h = subst (λ (b : Bool). Reads d b (is_reading to)) reads_same h
