-- What one action on the turn does, as callers see it.
use Rattle.world_rwlock.proofs.Prelude.{◌≡◌, ◌≢◌, ℕ, zero, suc, ◌+◌, ◌<◌, ◌⊎◌, inl, inr, Bool, true, false, List, [], ◌∷◌, length, Option, Some, None, refl, arith, ap, sym, ◌∙◌, get_or, get_or-set_same, set, ℕ_discrete, cases_Bool, false≢true, Entry, Move, Stage, how_many, inputs_of, Effect, ListFunction, nothing, changes, does, joins, none_some, TurnCourse, holds, counted, TurnStep, End as TurnEnd, Mutex, turn_at, is_holder, is_counted, holder_of, starved_of, TakenFairly, IsLegal, Found, Place, next_of, place_after, RwLock, place_at, IsRwLock, Change, takes_turn, leaves_turn, starves, recovers, turn_after, readers_after, starved_after, value_after, IsAllowed, gives_back, gives_up, entries_after, ListName, for_the_turn, for_no_readers, for_no_writer, World, passing, upgrading, turn_as, share_of, turn_by, seen, asks, leaves, notifies, notifies_additionally, MayDo, listed, may_tell, taking, releasing, undecided, called, counting, has_lock, giving_up, HasTurn, Share, waiting, writing, sought_by, is_for_turn, is_out, is_holding, is_waiting, is_cancelling, fits_turn, owes_in, owing_at, has_to_tell, mapped_at, sought_at, Purpose}
use Rattle.world_mutex.specs.machine.Course as turn_roles
use Rattle.world_mutex.specs.machine.Effects as mutex
use Rattle.world_mutex.proofs.of_machine.callers.Holders as sees
use Rattle.world_rwlock.specs.State as state
use Rattle.world_rwlock.proofs.table.Views as view
use Rattle.world_rwlock.proofs.step.Facts.{Known, turn_kept, there}

-- ---- rosters

-- a party that is put on a roster was on it, or adds one
pub put_on : (xs ys : List Bool) (p : ℕ) → ys ≡ set xs p true → (ys ≡ xs) ⊎ ((get_or xs p false ≡ false) × (how_many ys ≡ how_many xs + 1))
put_on [] ys p e = inl e
put_on (true ∷ xs) ys zero e = inl e
put_on (false ∷ xs) ys zero e = inr (refl, rw e (omega arith))
put_on (b ∷ xs) ys (suc p) e = elim (put_on xs (set xs p true) p refl) as (λ _. (ys ≡ b ∷ xs) ⊎ ((get_or xs p false ≡ false) × (how_many ys ≡ how_many (b ∷ xs) + 1))) [
  | inl h ↦ inl (e ∙ ap (λ l. b ∷ l) h)
  | inr h ↦ inr (h.0, rw e (omega (arith, h.1)))
]

-- a party that is put off a roster was on it, or nothing changes
pub put_off : (xs ys : List Bool) (p : ℕ) → ys ≡ set xs p false → (ys ≡ xs) ⊎ (get_or xs p false ≡ true)
put_off [] ys p e = inl e
put_off (true ∷ xs) ys zero e = inr refl
put_off (false ∷ xs) ys zero e = inl e
put_off (b ∷ xs) ys (suc p) e = elim (put_off xs (set xs p false) p refl) as (λ _. (ys ≡ b ∷ xs) ⊎ (get_or xs p false ≡ true)) [
  | inl h ↦ inl (e ∙ ap (λ l. b ∷ l) h)
  | inr h ↦ inr h
]

-- ---- the effect

-- what the mutex says of the action, whichever call it belongs to
pub record TurnDid (memory : Bool) (p : ℕ) (decided : Option TurnEnd) (n : TurnStep) (old new : Mutex) : Type 0 where
  pub legal : IsLegal memory p decided n old new
  pub fair : TakenFairly old new

-- the effect on the turn, as the World has it
pub record TurnMoved (p : ℕ) (l k : RwLock) (w : World) (mutex_effect : Effect mutex.Change mutex.ListName) : Type 0 where
  pub effect : Effect Change ListName
  pub readers : (rs : List Bool) → readers_after p effect rs ≡ rs
  pub turn : turn_by (holder_of k.turn) k.places ≡ turn_after p effect (turn_by (holder_of l.turn) l.places)
  pub starved : starved_of k.turn ≡ starved_after p effect (starved_of l.turn)
  pub valued : (u : ℕ) → value_after effect u ≡ u
  pub allowed : IsAllowed p effect w
  pub turn_list : k.turn.entries ≡ entries_after p effect for_the_turn l.turn.entries
  pub no_readers : (es : List (Entry ℕ)) → entries_after p effect for_no_readers es ≡ es
  pub no_writer : (es : List (Entry ℕ)) → entries_after p effect for_no_writer es ≡ es
  pub parting : mutex.gives_back mutex_effect ≡ true → gives_back effect ≡ true
  pub giving_up : gives_up effect ≡ true → mutex.is_release mutex_effect ≡ true
  pub joining : (list : ListName) → effect ≡ does list joins → mutex_effect ≡ does mutex.for_the_lock joins
  pub idle : mutex_effect ≡ nothing → effect ≡ nothing

-- who may notify in the turn's list hasn't the turn, and stands there only while it is starved
tells_free : (c : TurnCourse) → may_tell c ≡ true → holds c ≡ 0
tells_free (taking has_lock a b d) h = absurd (cc h)
tells_free (taking _ a b d) h = refl
tells_free releasing h = refl
tells_free _ h = absurd (cc h)

tells_starved : (c : TurnCourse) → may_tell c ≡ true → 0 < listed c → counted c ≡ 1
tells_starved (taking undecided true true d) h some = refl
tells_starved (taking undecided true false d) h some = absurd (cc h)
tells_starved (taking undecided false b d) h some = absurd (cc h)
tells_starved (taking counting a true d) h some = absurd (cc h)
tells_starved (taking counting a false d) h some = absurd (omega arith)
tells_starved (taking (giving_up r) a true d) h some = absurd (cc h)
tells_starved (taking (giving_up r) a false d) h some = absurd (omega arith)
tells_starved (taking called a b d) h some = absurd (cc h)
tells_starved (taking has_lock a b d) h some = absurd (cc h)
tells_starved releasing h some = absurd (omega arith)
tells_starved _ h some = absurd (cc h)

-- it has released the turn, or polls for it
record Telling (c : TurnCourse) : Type 0 where
  pub not_out : is_out c ≡ false
  pub not_holding : is_holding c ≡ false
  pub not_waiting : is_waiting c ≡ false
  pub not_cancelling : is_cancelling c ≡ false

telling : (c : TurnCourse) → may_tell c ≡ true → Telling c
telling (taking a b d e) h = record { not_out = refl; not_holding = refl; not_waiting = refl; not_cancelling = refl }
telling releasing h = record { not_out = refl; not_holding = refl; not_waiting = refl; not_cancelling = refl }
telling _ h = absurd (cc h)

tells_cause : (y : Place) (c : TurnCourse) → fits_turn y c ≡ true → Telling c → (owes_in for_the_turn (owing_at y) ≡ true) ⊎ (is_for_turn (sought_at y) ≡ true)
tells_cause (Place.TakeTurn Purpose.UpgradableRead) c f h = inr refl
tells_cause (Place.TakeTurn Purpose.Write) c f h = inr refl
tells_cause (Place.ReleasingTurn e) c f h = inl refl
tells_cause (Place.WaitTurn q) c f h = absurd (false≢true (sym h.not_waiting ∙ f))
tells_cause Place.CancelTurn c f h = absurd (false≢true (sym h.not_waiting ∙ f))
tells_cause Place.CancellingTurn c f h = absurd (false≢true (sym h.not_cancelling ∙ f))
tells_cause _ c f h = absurd (cc (f, h.not_out, h.not_holding))

has_holder : (h : Option ℕ) (xs : List Place) (p : ℕ) → HasTurn (turn_by h xs) p → h ≡ Some p
has_holder None xs p y = absurd y
has_holder (Some q) xs p y = ap Some (by_share (share_of (place_at xs q)) y) where
  by_share : (s : Share) → HasTurn (turn_as q s) p → q ≡ p
  by_share passing y = y
  by_share upgrading y = y
  by_share waiting y = y
  by_share writing y = y

joins_there : (g : ListFunction) (list : ListName) → Path (Effect Change ListName) (does for_the_turn g) (does list joins) → Path (Effect mutex.Change mutex.ListName) (does mutex.for_the_lock g) (does mutex.for_the_lock joins)
joins_there g list e = cc

-- what tells one effect from another: `cc` finds each, but reads all that is in scope first
nothing_joins : (list : ListName) → Path (Effect Change ListName) nothing (does list joins) → ⊥
nothing_joins list e = cc

change_joins : (c : Change) (list : ListName) → Path (Effect Change ListName) (changes c) (does list joins) → ⊥
change_joins c list e = cc

change_idle : (c : mutex.Change) → Path (Effect mutex.Change mutex.ListName) (changes c) nothing → ⊥
change_idle c e = cc

does_idle : (f : ListFunction) → Path (Effect mutex.Change mutex.ListName) (does mutex.for_the_lock f) nothing → ⊥
does_idle f e = cc

module _ (m : Move) (l k : RwLock) (ss : List Stage) (opening : ℕ) (ts : List Stage) (v : ℕ) (x : Place) (f : Found) (c : Known m l k ss v x f) (afterwards : IsRwLock k)
    (passes_on : share_of (place_after (next_of x f)) ≡ passing) where
  abbrev p : ℕ
  p = m.party

  abbrev to : Place
  to = place_after (next_of x f)

  abbrev here : Place
  here = place_at l.places p

  abbrev t : TurnCourse
  t = turn_at l.turn.courses p

  abbrev u : TurnCourse
  u = turn_at k.turn.courses p

  abbrev memory : Bool
  memory = (inputs_of m.what).memory

  abbrev w : World
  w = seen l ss opening v

  known_place : p < length l.places
  known_place = there m l k ss opening ts v x f c

  held_by : (h : Bool) → is_holder t ≡ h → h ≡ true → holder_of l.turn ≡ Some p
  held_by h e y = sees.holds_it l.turn.courses p c.laws.turn.one_holder (sym (sees.holds_bit t) ∙ ap turn_roles.bit (e ∙ y))

  -- the turn with no holder is seen as nobody's
  turn_none : (h : Option ℕ) (xs : List Place) → h ≡ None → turn_by h xs ≡ state.nobody
  turn_none h xs e = ap (λ o. turn_by o xs) e

  turn_own : (h : Option ℕ) → h ≡ Some p → turn_by h k.places ≡ state.passes p
  turn_own h e = ap (λ o. turn_by o k.places) e ∙ (ap (λ y. turn_as p (share_of y)) (ap (λ xs. place_at xs p) c.places ∙ get_or-set_same l.places p to Place.Out known_place) ∙ ap (turn_as p) passes_on)

  module _ (decided : Option TurnEnd) (n : TurnStep) (did : TurnDid memory p decided n l.turn k.turn) where
    -- the turn stays with whoever has it, if the share of the party that moved is as it was
    stays : share_of x ≡ passing → holder_of k.turn ≡ holder_of l.turn → turn_by (holder_of k.turn) k.places ≡ turn_by (holder_of l.turn) l.places
    stays s e = ap (λ o. turn_by o k.places) e ∙ (ap (turn_by (holder_of l.turn)) c.places ∙ turn_kept (holder_of l.turn) l.places p to known_place (passes_on ∙ (sym s ∙ c.share)))

    -- whoever else held the turn still does
    others_hold : (q : ℕ) → q ≢ p → holder_of l.turn ≡ Some q → holder_of k.turn ≡ Some q
    others_hold q apart e = sees.holds_it k.turn.courses q afterwards.turn.one_holder (ap holds (did.legal.others q apart) ∙ sees.is_held_by l.turn.courses q e)

    left_nobody : (h : Option ℕ) → holder_of l.turn ≡ h → holder_of k.turn ≡ None → (is_holder t ≡ false) → h ≡ None
    left_nobody None e n0 out = refl
    left_nobody (Some q) e n0 out = elim (ℕ_discrete q p) as (λ _. Some q ≡ None) [
      | yes same ↦ (let one : holds t ≡ 1 = sees.is_held_by l.turn.courses p (e ∙ ap Some same) in
          let none : holds t ≡ 0 = sym (sees.holds_bit t) ∙ ap turn_roles.bit out in absurd (omega (arith, one, none)))
      | no apart ↦ (absurd (none_some (sym n0 ∙ others_hold q apart e)))
    ]

    took_free : is_holder t ≡ false → holder_of k.turn ≡ Some p → (turn_by (holder_of l.turn) l.places ≡ state.nobody) × ((how_many (starved_of l.turn) ≡ 0) ⊎ (get_or (starved_of l.turn) p false ≡ true))
    took_free out e =
        let none : holds t ≡ 0 = sym (sees.holds_bit t) ∙ ap turn_roles.bit out in
        let free = did.fair p none (sees.is_held_by k.turn.courses p e) in (
          turn_none (holder_of l.turn) l.places (sees.none_held 0 l.turn.courses free.0),
          elim free.1 as (λ _. (how_many (starved_of l.turn) ≡ 0) ⊎ (get_or (starved_of l.turn) p false ≡ true)) [
            | inl e0 ↦ inl (sees.how_many_counted l.turn.courses ∙ e0)
            | inr own ↦ inr (sees.starved_at l.turn.courses p ∙ sees.is_one (is_counted t) (sees.counted_bit t ∙ own))
          ],
        )

    -- it notifies where it may
    lists_so : (g : ListFunction) → MayDo p (does mutex.for_the_lock g) l.turn → IsAllowed p (does for_the_turn g) w
    lists_so (notifies n) may = record {
      one = may.0;
      cause = elim (tells_cause here t (c.laws.in_turn p) (telling t may.1)) as (λ _. (has_to_tell for_the_turn w p ≡ true) ⊎ (is_for_turn (sought_by w p) ≡ true)) [
        | inl owed ↦ inl (ap (owes_in for_the_turn) (mapped_at owing_at l.places p Place.Out) ∙ owed)
        | inr sought ↦ inr (ap is_for_turn (view.seeks_at l.places p) ∙ sought)
      ];
      without_turn = λ h. (let one : holds t ≡ 1 = sees.is_held_by l.turn.courses p (has_holder (holder_of l.turn) l.places p h) in let none = tells_free t may.1 in omega (arith, one, none));
      starved = λ some. sees.starved_at l.turn.courses p ∙ sees.is_one (is_counted t) (sees.counted_bit t ∙ tells_starved t may.1 (omega (arith, some, c.laws.turn.owners p)));
    }
    lists_so (notifies_additionally n) may = may
    lists_so joins may = tt
    lists_so asks may = tt
    lists_so leaves may = tt

    -- whoever is counted wants the turn
    wants : how_many (starved_of k.turn) ≡ how_many (starved_of l.turn) + 1 → (starved_of k.turn ≡ starved_of l.turn) ⊎ ((mutex.gives_back (changes mutex.starves) ≡ true) ⊎ (is_for_turn (sought_by w p) ≡ true)) → is_for_turn (sought_by w p) ≡ true
    wants more (inl same) = absurd (omega (arith, more, ap how_many same))
    wants more (inr (inl back)) = absurd (false≢true back)
    wants more (inr (inr wanted)) = wanted

    -- why its party may be counted as starved, if it is
    abbrev pub MayCount : Type 0
    MayCount = (starved_of k.turn ≡ starved_of l.turn) ⊎ ((mutex.gives_back did.legal.effect ≡ true) ⊎ (is_for_turn (sought_by w p) ≡ true))

    -- where the party only passes, each effect of the mutex is one of the turn, or nothing
    moved_by : (d : Effect mutex.Change mutex.ListName) → ((starved_of k.turn ≡ starved_of l.turn) ⊎ ((mutex.gives_back d ≡ true) ⊎ (is_for_turn (sought_by w p) ≡ true))) → MayDo p d l.turn → holder_of k.turn ≡ mutex.holder_after p d (holder_of l.turn) → starved_of k.turn ≡ mutex.starved_after p d (starved_of l.turn) → k.turn.entries ≡ mutex.entries_after p d l.turn.entries
        → share_of x ≡ passing → TurnMoved p l k w d
    moved_by nothing why may h s e own = record { effect = nothing; readers = λ rs. refl; turn = stays own h; starved = s; valued = λ n. refl; allowed = tt; turn_list = e; no_readers = λ es. refl; no_writer = λ es. refl; parting = λ g. refl; giving_up = λ g. absurd (false≢true g); joining = λ list j. absurd (nothing_joins list j); idle = λ i. refl }
    moved_by (does mutex.for_the_lock g) why may h s e own = record { effect = does for_the_turn g; readers = λ rs. refl; turn = stays own h; starved = s; valued = λ n. refl; allowed = lists_so g may; turn_list = e; no_readers = λ es. refl; no_writer = λ es. refl; parting = λ b. b; giving_up = λ g. absurd (false≢true g); joining = λ list j. joins_there g list j; idle = λ i. absurd (does_idle g i) }
    moved_by (changes mutex.takes) why may h s e own = elim (cases_Bool (is_holder t)) as (λ _. TurnMoved p l k w (changes mutex.takes)) [
      | inl held ↦ record { effect = nothing; readers = λ rs. refl; turn = stays own (h ∙ sym (held_by (is_holder t) refl held)); starved = s; valued = λ n. refl; allowed = tt; turn_list = e; no_readers = λ es. refl; no_writer = λ es. refl; parting = λ g. refl; giving_up = λ g. absurd (false≢true g); joining = λ list j. absurd (nothing_joins list j); idle = λ i. refl }
      | inr out ↦ record { effect = changes takes_turn; readers = λ rs. refl; turn = turn_own (holder_of k.turn) h; starved = s; valued = λ n. refl; allowed = took_free out h; turn_list = e; no_readers = λ es. refl; no_writer = λ es. refl; parting = λ g. absurd (false≢true g); giving_up = λ g. absurd (false≢true g); joining = λ list j. absurd (change_joins takes_turn list j); idle = λ i. absurd (change_idle mutex.takes i) }
    ]
    moved_by (changes mutex.releases) why may h s e own = elim (cases_Bool (is_holder t)) as (λ _. TurnMoved p l k w (changes mutex.releases)) [
      | inl held ↦ record { effect = changes leaves_turn; readers = λ rs. refl; turn = turn_none (holder_of k.turn) k.places h; starved = s; valued = λ n. refl; allowed = inl (ap (λ o. turn_by o l.places) (held_by (is_holder t) refl held) ∙ ap (turn_as p) (sym c.share ∙ own)); turn_list = e; no_readers = λ es. refl; no_writer = λ es. refl; parting = λ g. refl; giving_up = λ g. refl; joining = λ list j. absurd (change_joins leaves_turn list j); idle = λ i. absurd (change_idle mutex.releases i) }
      | inr out ↦ record { effect = nothing; readers = λ rs. refl; turn = stays own (h ∙ sym (left_nobody (holder_of l.turn) refl h out)); starved = s; valued = λ n. refl; allowed = tt; turn_list = e; no_readers = λ es. refl; no_writer = λ es. refl; parting = λ g. refl; giving_up = λ g. absurd (false≢true g); joining = λ list j. absurd (nothing_joins list j); idle = λ i. refl }
    ]
    moved_by (changes mutex.starves) why may h s e own = elim (put_on (starved_of l.turn) (starved_of k.turn) p s) as (λ _. TurnMoved p l k w (changes mutex.starves)) [
      | inl same ↦ record { effect = nothing; readers = λ rs. refl; turn = stays own h; starved = same; valued = λ n. refl; allowed = tt; turn_list = e; no_readers = λ es. refl; no_writer = λ es. refl; parting = λ g. absurd (false≢true g); giving_up = λ g. absurd (false≢true g); joining = λ list j. absurd (nothing_joins list j); idle = λ i. refl }
      | inr one ↦ record { effect = changes starves; readers = λ rs. refl; turn = stays own h; starved = s; valued = λ n. refl; allowed = (one.0, omega (arith, one.1, sees.how_many_counted k.turn.courses, afterwards.turn.few_starved, did.legal.limit), wants one.1 why); turn_list = e; no_readers = λ es. refl; no_writer = λ es. refl; parting = λ g. absurd (false≢true g); giving_up = λ g. absurd (false≢true g); joining = λ list j. absurd (change_joins starves list j); idle = λ i. absurd (change_idle mutex.starves i) }
    ]
    moved_by (changes mutex.recovers) why may h s e own = elim (put_off (starved_of l.turn) (starved_of k.turn) p s) as (λ _. TurnMoved p l k w (changes mutex.recovers)) [
      | inl same ↦ record { effect = nothing; readers = λ rs. refl; turn = stays own h; starved = same; valued = λ n. refl; allowed = tt; turn_list = e; no_readers = λ es. refl; no_writer = λ es. refl; parting = λ g. refl; giving_up = λ g. absurd (false≢true g); joining = λ list j. absurd (nothing_joins list j); idle = λ i. refl }
      | inr one ↦ record { effect = changes recovers; readers = λ rs. refl; turn = stays own h; starved = s; valued = λ n. refl; allowed = one; turn_list = e; no_readers = λ es. refl; no_writer = λ es. refl; parting = λ g. refl; giving_up = λ g. absurd (false≢true g); joining = λ list j. absurd (change_joins recovers list j); idle = λ i. absurd (change_idle mutex.recovers i) }
    ]

    -- where the party had the turn for an upgradable right and has it no more, it left it
    still_holds : (h : Option ℕ) → holder_of k.turn ≡ h → h ≡ Some p → holds u ≡ 0 → ⊥
    still_holds h e y none = let one = sees.is_held_by k.turn.courses p (e ∙ y) in absurd (omega (arith, one, none))

    left_by : (d : Effect mutex.Change mutex.ListName) → holder_of k.turn ≡ mutex.holder_after p d (holder_of l.turn) → starved_of k.turn ≡ mutex.starved_after p d (starved_of l.turn) → k.turn.entries ≡ mutex.entries_after p d l.turn.entries
        → share_of x ≡ upgrading → holder_of l.turn ≡ Some p → holds u ≡ 0 → TurnMoved p l k w d
    left_by (changes mutex.releases) h s e own held none = record { effect = changes leaves_turn; readers = λ rs. refl; turn = turn_none (holder_of k.turn) k.places h; starved = s; valued = λ n. refl; allowed = inr (ap (λ o. turn_by o l.places) held ∙ ap (turn_as p) (sym c.share ∙ own)); turn_list = e; no_readers = λ es. refl; no_writer = λ es. refl; parting = λ g. refl; giving_up = λ g. refl; joining = λ list j. absurd (change_joins leaves_turn list j); idle = λ i. absurd (change_idle mutex.releases i) }
    left_by (changes mutex.takes) h s e own held none = absurd (still_holds (Some p) h refl none)
    left_by (changes mutex.starves) h s e own held none = absurd (still_holds (holder_of l.turn) h held none)
    left_by (changes mutex.recovers) h s e own held none = absurd (still_holds (holder_of l.turn) h held none)
    left_by nothing h s e own held none = absurd (still_holds (holder_of l.turn) h held none)
    left_by (does mutex.for_the_lock g) h s e own held none = absurd (still_holds (holder_of l.turn) h held none)

    pub moved : MayCount → share_of x ≡ passing → TurnMoved p l k w did.legal.effect
    moved why own = moved_by did.legal.effect why did.legal.allowed did.legal.holder did.legal.starved did.legal.entries own

    pub left : share_of x ≡ upgrading → holder_of l.turn ≡ Some p → holds u ≡ 0 → TurnMoved p l k w did.legal.effect
    left own held none = left_by did.legal.effect did.legal.holder did.legal.starved did.legal.entries own held none
