-- One step of a call is legal.
use Rattle.world_rwlock.proofs.Prelude.{◌≡◌, ◌≢◌, ℕ, ◌<◌, ◌⊎◌, ◌||◌, ◌==◌, if◌then◌else◌, inl, inr, Bool, true, false, List, map, length, Option, Some, None, refl, arith, ap, sym, ◌∙◌, subst, get_or-set_same, get_or-set_other, set, nat_tests, map-set, false≢true, cases_Bool, Answer, Value, Move, Refusal, Rest, Stage, Within, sought_after, is_poll_after_ready, put_in, is_drop, is_giving_back, is_refusal, number_of, Right, read, upgradable, write, Standing, inside, IsUndecided, is_decided, is_possible, refused, Effect, nothing, does, joins, some_eq, decided_inside, chosen, same_test, TurnCourse, turn_at, out_free, waiting_free, Next, Place, Purpose, place_after, fits_turn, RwLock, place_at, IsRwLock, Change, gives_back, gives_up, ListName, State, World, standing_of, sought_by, is_upgrader, told_in, HasTurn, IsClear, knows_of, call_of, DecidesOn, IsPossible, ChangesOneThing, HasSought, LeavesClear, Carries, Waits, list_for, MayMeet, IsCause, IsRefusedForCause, IsValueKept, EndsProperly, KeepsUpgrades, Legal, stage_at, sought_at, Guarded, answer_by, is_upgrade, verdict, verdict_of, standing_at, seen, Table, decided_after, stands_seen, entries_after, list_of, is_counting}
use Rattle.lock_event.specs.declared.event.Mark.{Mark}
use Rattle.world_base.specs.Standings.{decision}
use Rattle.world_rwlock.specs.State as state
use Rattle.world_rwlock.proofs.table.Kept.{Walks}
use Rattle.world_rwlock.proofs.table.Stages.{stage_then, always_possible, may_end_so}
use Rattle.world_rwlock.proofs.step.Rows.{Room, keeps_what_it_has, lacks_memory, verdict_then, is_after_ready, is_got, is_made}
use Rattle.world_rwlock.proofs.step.Facts.{WaitsIn, CauseAs, Fitting, ReasonAs, JudgedAs, Facts}
use Rattle.world_rwlock.proofs.table.Calls.{Moves}
use Rattle.world_rwlock.proofs.step.Endings as ends
use Rattle.world_rwlock.proofs.step.Owns as owns
use Rattle.world_base.proofs.of_table.Acting as acting
use Rattle.world_rwlock.proofs.table.Views as view
use Rattle.world_rwlock.proofs.table.Views.{Fits}
use Rattle.world_rwlock.proofs.step.Decided.{decided}

-- a step keeps what was decided
keep : (m : Move) (old : World) (k : RwLock) (new : World) (v : ℕ) (x to : Place) (d : Effect Change ListName) (was now : Option Answer) (b : Answer) → JudgedAs m old k new v x to d was now → was ≡ Some b → (now ≡ Some b) × (gives_back d ≡ true)
keep m old k new v x to d (Some c) now b j e = (j.0 ∙ e, j.1)
keep m old k new v x to d None now b j e = absurd (cc)

-- what a step decides was decided, or has a reason
judge : (m : Move) (old : World) (k : RwLock) (new : World) (v : ℕ) (x to : Place) (d : Effect Change ListName) (was now : Option Answer) (b : Answer) → JudgedAs m old k new v x to d was now → now ≡ Some b → (was ≡ Some b) ⊎ ReasonAs m old k new v x to d b
judge m old k new v x to d (Some c) now b j e = inl (sym j.0 ∙ e)
judge m old k new v x to d None None b j e = absurd (cc)
judge m old k new v x to d None (Some c) b j e = let P : Answer → Type 0 = λ a. ReasonAs m old k new v x to d a in inr (subst P (some_eq e) j)

-- a refusal for memory is that one
idle_memory : (w : World) (p : ℕ) (x to : Place) (d : Effect Change ListName) (r : Refusal) → number_of Refusal.Memory ≡ number_of r → Fitting w p x to d r → (d ≡ nothing) × (lacks_memory x ≡ true)
idle_memory w p x to d Refusal.Memory e h = h
idle_memory w p x to d _ e h = absurd (cc)

idle_starved : (w : World) (p : ℕ) (x to : Place) (d : Effect Change ListName) (r : Refusal) → number_of Refusal.Starved ≡ number_of r → Fitting w p x to d r → d ≡ nothing
idle_starved w p x to d Refusal.Starved e h = h.0
idle_starved w p x to d _ e h = absurd (cc e)

counts_by : (m : Move) (old new : World) (r : Refusal) → number_of Refusal.Starved ≡ number_of r → CauseAs m old new r → is_counting (turn_at old.behind.machine.lock.turn.courses m.party) ≡ true
counts_by m old new Refusal.Starved e h = h.2
counts_by m old new _ e h = absurd (cc e)

found_room : {memory : Bool} (d : Effect Change ListName) (list : ListName) → Room memory d → d ≡ does list joins → memory ≡ true
found_room {memory} d list r e = let P : Effect Change ListName → Type 0 = Room memory in subst P e r

-- whoever gives something up was decided
given_up : (o : Option Answer) (d : Effect Change ListName) → keeps_what_it_has o d ≡ true → gives_up d ≡ true → (b : Answer) × (o ≡ Some b)
given_up (Some b) d h g = (b, refl)
given_up None d h g = absurd (cc)

-- what is answered Pending was decided then
pending_now : (v : ℕ) (t : TurnCourse) (n : Next) → answer_by v n ≡ Answer.Pending → verdict_then v t n ≡ Some Answer.Pending
pending_now v t (Next.Do a q) e = absurd (cc)
pending_now v t (Next.Wait q) e = absurd (cc)
pending_now v t (Next.End y q) e = ap (λ (b : Answer). decided_after b (verdict v q t)) e

undecided_inside : (s : Standing) (w : Within) (a : Option Answer) → s ≡ inside w a → is_decided s ≡ false → IsUndecided s
undecided_inside s w None e h = (w, e)
undecided_inside s w (Some b) e h = absurd (cc)

or_split : (a b : Bool) → a || b ≡ true → (a ≡ true) ⊎ (b ≡ true)
or_split true b h = inl refl
or_split false b h = inr h

same_is : (p q : ℕ) → (q == p) ≡ true → q ≡ p
same_is p q h = grind (arith, nat_tests)

-- the list in which a write waits
writer_listed : (w : World) (p : ℕ) → w.state.turn ≡ state.waits_to_write p → list_for (Some write) w.state.turn p w ≡ w.no_readers
writer_listed w p e = rw e (chosen (p == p) w.no_readers w.turn_list (same_test p p refl))

out_of_turn : (w : World) (p : ℕ) (t : state.Turn) → (HasTurn t p → ⊥) → list_for (Some write) t p w ≡ w.turn_list
out_of_turn w p state.nobody n = refl
out_of_turn w p (state.passes q) n = refl
out_of_turn w p (state.is_upgradable q) n = refl
out_of_turn w p (state.writes q) n = refl
out_of_turn w p (state.waits_to_write q) n = by_test (q == p) refl where
  by_test : (b : Bool) → (q == p) ≡ b → (if b then w.no_readers else w.turn_list) ≡ w.turn_list
  by_test true h = absurd (n (same_is p q h))
  by_test false h = refl

module _ (m : Move) (l k : RwLock) (ss : List Stage) (opening : ℕ) (v : ℕ) (x : Place) (n : Next) (w : Within) where
  abbrev p : ℕ
  p = m.party

  abbrev to : Place
  to = place_after n

  abbrev t : TurnCourse
  t = turn_at l.turn.courses p

  abbrev u : TurnCourse
  u = turn_at k.turn.courses p

  abbrev here : Place
  here = place_at l.places p

  abbrev ts : List Stage
  ts = set ss p (stage_then w v n)

  abbrev before : Table Guarded
  before = record { machine = record { lock = l; value = v }; stages = ss; opening = opening }

  abbrev after : Table Guarded
  after = record { machine = record { lock = k; value = v }; stages = ts; opening = opening }

  abbrev old : World
  old = seen l ss opening v

  abbrev new : World
  new = seen k ts opening v

  abbrev said : Answer
  said = answer_by v n

  pub record Known : Type 0 where
    pub laws : IsRwLock l
    pub fits : Fits l ss v
    pub new_laws : IsRwLock k
    pub new_fits : Fits k ts v
    pub known : p < length ss
    pub places : k.places ≡ set l.places p to
    pub limit : k.limit ≡ l.limit
    pub facts : Facts m l k ss opening ts v x n
    pub moves : Moves v t (stage_at ss p) m.what here w x
    pub call : call_of old m ≡ Some w
    pub no_put : put_in m.what ≡ None
    pub not_over : is_poll_after_ready (standing_of old p) m.what ≡ false
    pub walks : Walks x n

  module _ (c : Known) where
    abbrev d : Effect Change ListName
    d = c.facts.effect

    there : p < length l.places
    there = omega (arith, c.fits.as_many, c.known)

    lands : place_at k.places p ≡ to
    lands = ap (λ xs. place_at xs p) c.places ∙ get_or-set_same l.places p to Place.Out there

    stood : standing_of old p ≡ standing_at v (stage_at ss p) here t
    stood = acting.stood verdict_of before p

    stands : standing_of new p ≡ standing_at v (stage_then w v n) to u
    stands = acting.stands verdict_of Rest.Holding before after p w said c.known refl ∙ ap (λ y. standing_at v (stage_then w v n) y u) lands

    others : (q : ℕ) → q ≢ p → standing_of new q ≡ standing_of old q
    others q apart =
        acting.others_stand verdict_of Rest.Holding before after p w said c.known refl q apart
        (ap (λ y. verdict v y (turn_at k.turn.courses q)) (ap (λ xs. place_at xs q) c.places ∙ get_or-set_other l.places p q to Place.Out apart) ∙ ap (verdict v (place_at l.places q)) (c.facts.others q apart))

    always : is_possible said ≡ true
    always = always_possible v n

    possible : IsPossible old m said new
    possible = acting.possible_so standing_of knows_of Rest.Holding old m said new w c.call always

    decides : decision said (standing_of new p) ≡ verdict_then v u n
    decides = acting.decides verdict_of Rest.Holding before after p w said c.known refl ∙ ap (λ y. decided_after said (verdict v y u)) lands

    keeps_to : (b : Answer) → verdict v x t ≡ Some b → (verdict_then v u n ≡ Some b) × (gives_back d ≡ true)
    keeps_to b e = keep m old k new v x to d (verdict v x t) (verdict_then v u n) b c.facts.judged e

    parting : is_decided (standing_of old p) || is_drop m.what ≡ true → gives_back d ≡ true
    parting h = elim (or_split (is_decided (standing_of old p)) (is_drop m.what) h) as (λ _. gives_back d ≡ true) [
      | inl y ↦ (let it = decided_inside (standing_of old p) y in (keeps_to it.1 (c.moves.decided it.0 it.1 (sym stood ∙ it.2))).1)
      | inr y ↦ (keeps_to Answer.GivenBack (c.moves.drop_is y).0).1
    ]

    giving_up : gives_up d ≡ true → is_decided (standing_of old p) || is_giving_back m.what ≡ true
    giving_up g =
        let was = given_up (verdict v x t) d c.facts.holds_on g in
        by_standing (is_decided (standing_of old p)) refl was.0 was.1
      where
        by_standing : (b : Bool) → is_decided (standing_of old p) ≡ b → (a : Answer) → verdict v x t ≡ Some a → b || is_giving_back m.what ≡ true
        by_standing true e a is = refl
        by_standing false e a is = let undecided : is_decided (standing_at v (stage_at ss p) here t) ≡ false = sym (ap is_decided stood) ∙ e in (c.moves.gives undecided a is).1

    made : (r : List Bool) (a : state.Turn) (s : List Bool) (n1 : ℕ) (q : List Bool) (b : state.Turn) (z : List Bool) (n2 : ℕ) → r ≡ q → a ≡ b → s ≡ z → n1 ≡ n2 → Path State (record { readers = r; turn = a; starved = s; value = n1 }) (record { readers = q; turn = b; starved = z; value = n2 })
    made r a s n1 q b z n2 e f g h = cc

    reason : (b : Answer) → DecidesOn old m said new b → (Answer.GivenBack ≡ b) ⊎ ReasonAs m old k new v x to d b
    reason b y =
        let undecided : is_decided (standing_at v (stage_at ss p) here t) ≡ false = rw stood at y.0 in
        elim (judge m old k new v x to d (verdict v x t) (verdict_then v u n) b c.facts.judged (sym decides ∙ y.1)) as (λ _. (Answer.GivenBack ≡ b) ⊎ ReasonAs m old k new v x to d b) [
          | inl e ↦ inl (c.moves.gives undecided b e).0
          | inr z ↦ inr z
        ]

    one_change : ChangesOneThing old m said new
    one_change = record {
      effect = d;
      state = made _ _ _ _ _ _ _ _ c.facts.readers c.facts.turn c.facts.starved (sym c.facts.valued);
      allowed = c.facts.allowed;
      lists = c.facts.lists;
      starved_limit = c.facts.starved_limit;
      readers_limit = c.limit;
      opening_value = refl;
      sought = ap (map sought_at) c.places ∙ (map-set sought_at l.places p to ∙ ap (set (map sought_at l.places) p) (c.moves.sought n c.walks.seeks ∙ ap (λ o. sought_after o m.what said) (sym (view.seeks_at l.places p))));
      others = others;
      parties = acting.as_many verdict_of Rest.Holding before after p w said c.known refl;
      found_memory = λ list e. found_room d list c.facts.room e;
      refused_idly = λ y. elim (reason (refused Refusal.Memory) y) as (λ _. d ≡ nothing) [ inl e ↦ absurd (cc) | inr z ↦ (idle_memory old p x to d z.0 z.1 z.3).0 ];
      starved_idly = λ y. elim (reason (refused Refusal.Starved) y) as (λ _. d ≡ nothing) [ inl e ↦ absurd (cc) | inr z ↦ idle_starved old p x to d z.0 z.1 z.3 ];
      parting = parting;
      giving_up = giving_up;
    }

    -- ---- what the party has then

    fits_there : (y : Place) → to ≡ y → fits_turn y u ≡ true
    fits_there y e = let P : Place → Type 0 = λ z. fits_turn z u ≡ true in subst P (lands ∙ e) (c.new_laws.in_turn p)

    got_has : (y : Place) → to ≡ y → is_got y ≡ true → HasSought new p
    got_has Place.Reading e h = owns.reading k ts opening v c.new_laws c.new_fits p Place.Reading (lands ∙ e) refl (fits_there Place.Reading e) refl
    got_has Place.LeaveNoWriter e h = owns.reading k ts opening v c.new_laws c.new_fits p Place.LeaveNoWriter (lands ∙ e) refl (fits_there Place.LeaveNoWriter e) refl
    got_has Place.Upgradable e h = owns.upgradable_has k ts opening v c.new_laws c.new_fits p Place.Upgradable (lands ∙ e) refl refl refl refl
    got_has Place.Writing e h = owns.writing_has k ts opening v c.new_laws c.new_fits p Place.Writing (lands ∙ e) refl refl refl refl
    got_has Place.LeaveNoReaders e h = owns.writing_has k ts opening v c.new_laws c.new_fits p Place.LeaveNoReaders (lands ∙ e) refl refl refl refl
    got_has _ e h = absurd (false≢true h)

    carries : Carries old m said new
    carries = record {
      ready = λ got y. elim (reason (Answer.Ready got) y) as (λ _. (got ≡ Value v) × HasSought new p) [ inl e ↦ absurd (cc) | inr z ↦ (z.0, got_has to refl z.1) ];
      granted = λ got y. elim (reason (Answer.Granted got) y) as (λ _. (got ≡ Value v) × HasSought new p) [ inl e ↦ absurd (cc) | inr z ↦ (z.0, got_has to refl z.1) ];
    }

    seeks_right : (y : Place) (r : Right) → to ≡ y → sought_at y ≡ Some r → sought_by new p ≡ Some r
    seeks_right y r e a = owns.seeks_just k ts opening v c.new_laws c.new_fits p y r (lands ∙ e) a

    waits_there : (y : Place) → to ≡ y → WaitsIn k p y → told_in (list_for (sought_by new p) new.state.turn p new) p ≡ Some Mark.Waiting
    waits_there Place.AskNoWriter e h = rw (seeks_right Place.AskNoWriter read e refl) h
    waits_there (Place.AwaitNoReaders up) e h =
        let turn = owns.turn_at_place k ts opening v c.new_laws c.new_fits p (Place.AwaitNoReaders up) (lands ∙ e) refl in
        rw (seeks_right (Place.AwaitNoReaders up) write e refl) (ap (λ es. told_in es p) (writer_listed new p turn) ∙ h)
    waits_there (Place.WaitTurn Purpose.UpgradableRead) e h = rw (seeks_right (Place.WaitTurn Purpose.UpgradableRead) upgradable e refl) h
    waits_there (Place.WaitTurn Purpose.Write) e h =
        let free = owns.no_turn k ts opening v c.new_laws c.new_fits p (waiting_free u (fits_there (Place.WaitTurn Purpose.Write) e)) in
        rw (seeks_right (Place.WaitTurn Purpose.Write) write e refl) (ap (λ es. told_in es p) (out_of_turn new p new.state.turn free) ∙ h)
    waits_there _ e h = absurd h

    waits : Waits m said new
    waits = record {
      waiting = λ e.
          elim (judge m old k new v x to d (verdict v x t) (verdict_then v u n) Answer.Pending c.facts.judged (pending_now v u n e)) as (λ _. told_in (list_for (sought_by new p) new.state.turn p new) p ≡ Some Mark.Waiting) [
            | inl was ↦ absurd (owns.pending_undecided v x t was)
            | inr z ↦ waits_there to refl z
          ];
      not_before = λ y e. owns.not_pending k ts opening v c.new_laws c.new_fits p y e;
    }

    -- whoever meets a limit seeks what there is a limit for
    met : (r : Refusal) → MayMeet (sought_at to) old p r → MayMeet (sought_by new p) old p r
    met r h = rw (owns.seeks_as k ts opening v c.new_laws c.new_fits p, lands) h

    -- whoever acts there is inside its call
    is_within : lacks_memory x ≡ true → is_decided (standing_of old p) ≡ false → IsUndecided (standing_of old p)
    is_within lacks fresh = let it = c.moves.lacking lacks in undecided_inside (standing_of old p) w it.0 (stood ∙ it.1) fresh

    cause : (r : Refusal) → is_decided (standing_of old p) ≡ false → CauseAs m old new r → Fitting old p x to d r → IsCause old m new r
    cause Refusal.Memory fresh h f = h
    cause Refusal.Starved fresh h f = (h.0, met Refusal.Starved f.2, h.1, is_within f.1 fresh, λ list. c.facts.lists list ∙ ap (λ y. entries_after p y list (list_of old list)) f.0)
    cause Refusal.Readers fresh h f = (h, met Refusal.Readers f)
    cause _ fresh h f = absurd h

    -- who is refused for want of memory was inside its call, and undecided
    lacked : DecidesOn old m said new (refused Refusal.Memory) → IsUndecided (standing_of old p)
    lacked y =
        let lacks : lacks_memory x ≡ true = elim (reason (refused Refusal.Memory) y) as (λ _. lacks_memory x ≡ true) [ inl e ↦ absurd (cc) | inr z ↦ (idle_memory old p x to d z.0 z.1 z.3).1 ] in
        let it = c.moves.lacking lacks in
        undecided_inside (standing_of old p) w it.0 (stood ∙ it.1) y.0

    -- who is refused for too many starved parties was about to be counted
    pub counts : DecidesOn old m said new (refused Refusal.Starved) → is_counting t ≡ true
    counts y = elim (reason (refused Refusal.Starved) y) as (λ _. is_counting t ≡ true) [ inl e ↦ absurd (cc) | inr z ↦ counts_by m old new z.0 z.1 z.2 ]

    refused_for_cause : IsRefusedForCause old m said new
    refused_for_cause = record {
      cause = λ r y. elim (reason (Answer.Refused r) y) as (λ _. (q : Refusal) × (r ≡ number_of q) × IsCause old m new q) [ inl e ↦ absurd (cc) | inr z ↦ (z.0, z.1, cause z.0 y.0 z.2 z.3) ];
      memory = λ y. lacked y;
      after_ready = (
        (λ e. let never : is_after_ready (answer_by v n) ≡ true = ap is_after_ready e in absurd (false≢true (sym c.facts.over ∙ never))),
        (λ e. absurd (false≢true (sym c.not_over ∙ e))),
      );
    }

    -- ---- refusals and upgrades

    -- a drop isn't refused
    not_drop : is_refusal said ≡ true → is_drop m.what ≡ false
    not_drop h = elim (cases_Bool (is_drop m.what)) as (λ _. is_drop m.what ≡ false) [
      | inl y ↦ (let it = keeps_to Answer.GivenBack (c.moves.drop_is y).0 in absurd (ends.given_not_refused v u n it.0 h))
      | inr y ↦ y
    ]

    upgrade_was : is_drop m.what ≡ false → is_upgrader old p ≡ is_upgrade x
    upgrade_was h = view.upgrades_at l.places p ∙ sym (c.moves.upgrade h)

    upgrade_is : is_upgrader new p ≡ is_upgrade to
    upgrade_is = view.upgrades_at k.places p ∙ ap is_upgrade lands

    refused_at : is_refusal said ≡ true → ((is_made to ≡ true) × (is_upgrade x ≡ false)) ⊎ ((to ≡ Place.LookUnlisted true) × (is_upgrade x ≡ true))
    refused_at h = ends.refused_where v x n c.facts.refused h

    made_clear : (y : Place) → to ≡ y → is_made y ≡ true → IsClear new p × (HasTurn new.state.turn p → ⊥)
    made_clear (Place.Made q) e h = let o = fits_there (Place.Made q) e in (owns.out_clear k ts opening v c.new_laws c.new_fits p (Place.Made q) (lands ∙ e) refl refl o, owns.no_turn k ts opening v c.new_laws c.new_fits p (out_free u o))
    made_clear _ e h = absurd (false≢true h)

    upgrade_clear : to ≡ Place.LookUnlisted true → IsClear new p × (new.state.turn ≡ state.waits_to_write p)
    upgrade_clear e = (owns.holding_clear k ts opening v c.new_laws c.new_fits p (Place.LookUnlisted true) (lands ∙ e) refl refl (fits_there (Place.LookUnlisted true) e), owns.turn_at_place k ts opening v c.new_laws c.new_fits p (Place.LookUnlisted true) (lands ∙ e) refl)

    leaves_clear : LeavesClear old m said new
    leaves_clear = record {
      each = owns.each k ts opening v c.new_laws c.new_fits;
      decided = decided k ts opening v c.new_laws c.new_fits;
      refused = λ h. elim (refused_at h) as (λ _. IsClear new p) [ inl y ↦ (made_clear to refl y.0).0 | inr y ↦ (upgrade_clear y.0).0 ];
      gives_up_turn = λ h e. elim (refused_at h) as (λ _. HasTurn new.state.turn p → ⊥) [ inl y ↦ (made_clear to refl y.0).1 | inr y ↦ absurd (false≢true (sym e ∙ upgrade_was (not_drop h) ∙ y.1)) ];
      keeps_turn = λ h e. elim (refused_at h) as (λ _. new.state.turn ≡ state.waits_to_write p) [ inl y ↦ absurd (false≢true (sym y.1 ∙ sym (upgrade_was (not_drop h)) ∙ e)) | inr y ↦ (upgrade_clear y.0).1 ];
    }

    value_kept : IsValueKept old m said new
    value_kept = record { put = λ r e h. let never = c.no_put in absurd (cc); kept = λ h. refl }

    ends_properly : EndsProperly old m said new
    ends_properly =
        acting.ends_so standing_of knows_of Rest.Holding old m said new w c.call always (rw stands (stands_seen Rest.Holding w said (verdict v to u) always (may_end_so w v x n c.moves.course c.walks.keeps)))
        (λ y b e. decides ∙ (keeps_to b (c.moves.decided y b (sym stood ∙ e))).0)

    keeps_upgrades : KeepsUpgrades old m said new
    keeps_upgrades = record {
      begins = λ e. upgrade_is ∙ ends.waiting_upgrades v x n c.facts.upgrade e;
      pending = λ e h. upgrade_is ∙ ends.pending_upgrades w x c.moves.course v u n c.walks.keeps c.facts.upgrade (c.moves.upgrade) (λ y. (c.moves.drop_is y).1) e (sym stands ∙ h) ∙ sym (view.upgrades_at l.places p);
      undecided = λ y h. upgrade_is ∙ ends.undecided_upgrades w x v u n c.facts.upgrade c.moves.upgrade (λ y. (keeps_to Answer.GivenBack (c.moves.drop_is y).0).0) y (sym stands ∙ h) ∙ sym (view.upgrades_at l.places p);
      others = λ q apart. view.upgrades_at k.places q ∙ (ap is_upgrade (ap (λ xs. place_at xs q) c.places ∙ get_or-set_other l.places p q to Place.Out apart) ∙ sym (view.upgrades_at l.places q));
    }

    pub step_legal : Legal old m said new
    step_legal = record {
      possible = possible;
      one_change = one_change;
      carries = carries;
      waits = waits;
      refused_for_cause = refused_for_cause;
      leaves_clear = leaves_clear;
      value_kept = value_kept;
      ends_properly = ends_properly;
      keeps_upgrades = keeps_upgrades;
    }
