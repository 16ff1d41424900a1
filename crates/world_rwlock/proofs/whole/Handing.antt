-- A refused poll of a party that stood in a list leaves some entry of that list marked, unless the list is empty.
use Rattle.world_rwlock.proofs.Prelude.{◌≡◌, ◌≢◌, ℕ, ◌<◌, ◌≤◌, Bool, true, false, List, [], ◌∷◌, length, Some, refl, arith, ap, sym, ◌∙◌, subst, get_or-set_same, ℕ_discrete, false≢true, nat_tests, Entry, marked_count, entries_of, Account, accounts_after, Answer, Call, Inputs, What, Begin, Go, Kind, Rest, Within, within, is_refusal, outside, inputs_of, Effect, nothing, changes, does, going_on, moves_of, answers_of, some_eq, beginning, along, Onward, Got, Granted, Pending, NotFree, GivenBack, Refused, call_at, polls_again, others, notified_marked, TurnCourse, is_waiting, is_told, listed, TurnStep, End, HandsOn, Mutex, turn_at, out_unlisted, holding_unlisted, Action, Found, Done, Writer, NoneLeft, Yes, Turn, Ending, Next, Place, Purpose, start_of, action_of, next_of, place_after, after_lock, in_no_writer, in_no_readers, has_turn, fits_turn, OnNoWriter, OnTurn, place_at, Change, entries_after, knows_at, answer_by, Runs, HoldsWell, is_future, ListName, for_the_turn, for_no_readers, for_no_writer, World, list_of, standing_of, Stands, Moved, view_of}
use Rattle.world_mutex.proofs.of_machine.callers.Released.{released_marks}
use Rattle.world_rwlock.proofs.step.Acting.{Acting, Way, impossible, over, puts, acts, way, acting, fit}
use Rattle.world_rwlock.proofs.table.Begun.{at_future}
use Rattle.world_rwlock.proofs.bound.Alone.{laws}
use Rattle.world_rwlock.proofs.bound.AloneSeen.{at_stage, future}

-- some entry is marked, unless the list is empty
abbrev IsHanded : List (Entry ℕ) → Type 0
IsHanded l = 0 < length l → 0 < marked_count l

-- ---- a reader

-- a poll of a listed reader is at one of these places
abbrev reads_on : Place → Bool
reads_on Place.AskNoWriter = true
reads_on Place.PassOn = true
reads_on (Place.EnterRead told) = told
reads_on (Place.JoinNoWriter told) = told
reads_on (Place.LookNoWriter told) = told
reads_on Place.LeaveNoWriter = true
reads_on (Place.RefuseLeave told) = told
reads_on (Place.RefuseNotify r) = true
reads_on _ = false

-- its call goes on so, and where it is refused its party notifies
abbrev ReadsOn : Action → Next → Type 0
ReadsOn a (Next.Do b q) = reads_on q ≡ true
ReadsOn a (Next.End (Refused r) q) = a ≡ Action.NotifyNoWriter
ReadsOn a _ = Unit {0}

goes_reading : (x : Place) (f : Found) → reads_on x ≡ true → ReadsOn (action_of x) (next_of x f)
goes_reading Place.AskNoWriter Yes h = refl
goes_reading Place.AskNoWriter _ h = tt
goes_reading Place.PassOn f h = refl
goes_reading (Place.EnterRead true) Done h = tt
goes_reading (Place.EnterRead true) Writer h = refl
goes_reading (Place.EnterRead true) _ h = refl
goes_reading (Place.JoinNoWriter true) Done h = refl
goes_reading (Place.JoinNoWriter true) _ h = refl
goes_reading (Place.LookNoWriter true) Done h = refl
goes_reading (Place.LookNoWriter true) Writer h = refl
goes_reading (Place.LookNoWriter true) _ h = refl
goes_reading Place.LeaveNoWriter f h = tt
goes_reading (Place.RefuseLeave true) f h = refl
goes_reading (Place.RefuseNotify r) f h = refl
goes_reading _ f h = absurd (cc)

-- ---- a party that waits for the turn

-- once it has the turn
abbrev has_on : Place → Bool
has_on (Place.Add trying) = true
has_on Place.Mark = true
has_on (Place.JoinNoReaders false) = true
has_on (Place.LookNoReaders false) = true
has_on (Place.AskNoReaders false) = true
has_on (Place.LookUnlisted false) = true
has_on Place.LeaveNoReaders = true
has_on (Place.Unmark true) = true
has_on (Place.UnmarkNotify true) = true
has_on (Place.ReleaseTurn Ending.RefuseReaders) = true
has_on (Place.ReleaseTurn Ending.RefuseMemory) = true
has_on (Place.ReleasingTurn Ending.RefuseReaders) = true
has_on (Place.ReleasingTurn Ending.RefuseMemory) = true
has_on _ = false

abbrev TakesOn : Place → TurnCourse → Type 0
TakesOn (Place.WaitTurn q) t = is_waiting t ≡ true
TakesOn (Place.TakeTurn q) t = is_told t ≡ true
TakesOn (Place.Add trying) t = trying ≡ false
TakesOn x t = has_on x ≡ true

abbrev TurnsOn : Next → TurnCourse → List (Entry ℕ) → Type 0
TurnsOn (Next.Do b q) t l = TakesOn q t
TurnsOn (Next.End (Refused r) q) t l = IsHanded l
TurnsOn _ t l = Unit {0}

polled : (q : Purpose) (n : TurnStep) (u : TurnCourse) (l : List (Entry ℕ)) → HandsOn n u l → TurnsOn (after_lock q (Turn n)) u l
polled q TurnStep.More u l h = h
polled Purpose.UpgradableRead (TurnStep.End End.Got) u l h = refl
polled Purpose.Write (TurnStep.End End.Got) u l h = refl
polled q (TurnStep.End End.Pending) u l h = tt
polled q (TurnStep.End End.NotFree) u l h = tt
polled q (TurnStep.End End.Granted) u l h = tt
polled q (TurnStep.End End.Waiting) u l h = tt
polled q (TurnStep.End End.GivenBack) u l h = tt
polled q (TurnStep.End (End.Refused r)) u l h = h

goes_taking : (memory starving : Bool) (p : ℕ) (x : Place) (f : Found) (l k : Mutex) → OnTurn memory starving p (action_of x) f l k → fits_turn x (turn_at l.courses p) ≡ true → TakesOn x (turn_at l.courses p) → TurnsOn (next_of x f) (turn_at k.courses p) k.entries
goes_taking memory starving p (Place.WaitTurn q) (Turn n) l k o fits h = polled q n (turn_at k.courses p) k.entries (o.hands_on h)
goes_taking memory starving p (Place.WaitTurn q) _ l k o fits h = absurd o
goes_taking memory starving p (Place.TakeTurn q) (Turn n) l k o fits h = polled q n (turn_at k.courses p) k.entries (o.hands_on h)
goes_taking memory starving p (Place.TakeTurn q) _ l k o fits h = absurd o
goes_taking memory starving p (Place.Add true) f l k o fits h = absurd (cc)
goes_taking memory starving p (Place.Add false) Done l k o fits h = tt
goes_taking memory starving p (Place.Add false) _ l k o fits h = refl
goes_taking memory starving p Place.Mark NoneLeft l k o fits h = tt
goes_taking memory starving p Place.Mark _ l k o fits h = refl
goes_taking memory starving p (Place.JoinNoReaders false) Done l k o fits h = refl
goes_taking memory starving p (Place.JoinNoReaders false) _ l k o fits h = refl
goes_taking memory starving p (Place.LookNoReaders false) NoneLeft l k o fits h = refl
goes_taking memory starving p (Place.LookNoReaders false) _ l k o fits h = refl
goes_taking memory starving p (Place.AskNoReaders false) Yes l k o fits h = refl
goes_taking memory starving p (Place.AskNoReaders false) _ l k o fits h = tt
goes_taking memory starving p (Place.LookUnlisted false) NoneLeft l k o fits h = tt
goes_taking memory starving p (Place.LookUnlisted false) _ l k o fits h = refl
goes_taking memory starving p Place.LeaveNoReaders f l k o fits h = tt
goes_taking memory starving p (Place.Unmark true) f l k o fits h = refl
goes_taking memory starving p (Place.UnmarkNotify true) f l k o fits h = refl
goes_taking memory starving p (Place.ReleaseTurn Ending.RefuseReaders) (Turn n) l k o fits h = rw (o.releases refl) refl
goes_taking memory starving p (Place.ReleaseTurn Ending.RefuseMemory) (Turn n) l k o fits h = rw (o.releases refl) refl
goes_taking memory starving p (Place.ReleaseTurn e) (Turn n) l k o fits h = absurd (cc)
goes_taking memory starving p (Place.ReleaseTurn e) _ l k o fits h = absurd o
goes_taking memory starving p (Place.ReleasingTurn Ending.RefuseReaders) (Turn n) l k o fits h = released_marks memory p _ n l k fits o.legal
goes_taking memory starving p (Place.ReleasingTurn Ending.RefuseMemory) (Turn n) l k o fits h = released_marks memory p _ n l k fits o.legal
goes_taking memory starving p (Place.ReleasingTurn e) (Turn n) l k o fits h = absurd (cc)
goes_taking memory starving p (Place.ReleasingTurn e) _ l k o fits h = absurd o
goes_taking memory starving p _ f l k o fits h = absurd (cc)

-- ---- along a whole call

-- at the end of a refused call the list is handed on
abbrev AtEnd : ListName → Answer → World → Type 0
AtEnd list a x = is_refusal a ≡ true → IsHanded (list_of x list)

-- a move that isn't carried out by the lock ends no call by a refusal, nor goes on with it
record Ends (a : Answer) : Type 0 where
  pub stays : a ≢ Answer.Stepped
  pub refuses : is_refusal a ≡ false

ended : (On : World → Type 0) (list : ListName) (a b : Answer) (v : World) → a ≡ b → Ends b → Onward On (AtEnd list) a v
ended On list a b v is e = record { going = λ s. absurd (e.stays (sym is ∙ s)); ended = λ n r. absurd (false≢true (sym e.refuses ∙ (sym (ap is_refusal is) ∙ r))) }

by_way : (On : World → Type 0) (list : ListName) (t u : _) (m : _) (a : Answer) (v : World) → ((w : Within) → Acting t u m a w → Onward On (AtEnd list) a v) → Way t u m a → Onward On (AtEnd list) a v
by_way On list t u m a v acted (impossible e ea eu) = ended On list a Answer.NotPossible v ea (record { stays = λ h. cc; refuses = refl })
by_way On list t u m a v acted (over w e f ea eu) = ended On list a _ v ea (record { stays = λ h. cc; refuses = refl })
by_way On list t u m a v acted (puts w n inside o e ea eu) = ended On list a _ v ea (record { stays = λ h. cc; refuses = refl })
by_way On list t u m a v acted (acts w c) = acted w c

-- a program goes on at such a place, and if it is refused this holds
abbrev Said : (Place → Type 0) → Type 0 → Next → Type 0
Said P H (Next.Do b q) = P q
Said P H (Next.End (Refused r) q) = H
Said P H _ = Unit {0}

-- what an answer says of it
answered : (P : Place → Type 0) (H : Type 0) (n : ℕ) (x : Next) (a : Answer) → a ≡ answer_by n x → Said P H x → (a ≡ Answer.Stepped → P (place_after x)) × (is_refusal a ≡ true → H)
answered P H n (Next.Do b q) a e s = ((λ h. s), (λ r. absurd (false≢true (sym (ap is_refusal e) ∙ r))))
answered P H n (Next.Wait q) a e s = ((λ h. absurd (cc)), (λ r. absurd (false≢true (sym (ap is_refusal e) ∙ r))))
answered P H n (Next.End Got q) a e s = ((λ h. absurd (cc)), (λ r. absurd (false≢true (sym (ap is_refusal e) ∙ r))))
answered P H n (Next.End Granted q) a e s = ((λ h. absurd (cc)), (λ r. absurd (false≢true (sym (ap is_refusal e) ∙ r))))
answered P H n (Next.End Pending q) a e s = ((λ h. absurd (cc)), (λ r. absurd (false≢true (sym (ap is_refusal e) ∙ r))))
answered P H n (Next.End NotFree q) a e s = ((λ h. absurd (cc)), (λ r. absurd (false≢true (sym (ap is_refusal e) ∙ r))))
answered P H n (Next.End End.Waiting q) a e s = ((λ h. absurd (cc)), (λ r. absurd (false≢true (sym (ap is_refusal e) ∙ r))))
answered P H n (Next.End GivenBack q) a e s = ((λ h. absurd (cc)), (λ r. absurd (false≢true (sym (ap is_refusal e) ∙ r))))
answered P H n (Next.End (Refused r) q) a e s = ((λ h. absurd (cc)), (λ x. s))

module _ (p : ℕ) (i : Inputs) where
  -- where the party stands after an action
  lands : (t u : _) (what : What) (a : Answer) (w : Within) (c : Acting t u (record { party = p; what = what }) a w) → place_at u.machine.lock.places p ≡ place_after c.next
  lands t u what a w c = ap (λ xs. place_at xs p) c.acts.places ∙ get_or-set_same t.machine.lock.places p (place_after c.next) Place.Out (omega (arith, c.old.fits.as_many, c.inside))

  -- ---- a reader

  record Reading (x : World) : Type 0 where
    pub stands : Stands x
    pub reads : reads_on (place_at x.behind.machine.lock.places p) ≡ true

  said_reading : (a : Action) (n : Next) (f : Found) (l m : List (Entry ℕ)) → ReadsOn a n → OnNoWriter p a f l m → Said (λ q. reads_on q ≡ true) (IsHanded m) n
  said_reading a (Next.Do b q) f l m r o = r
  said_reading a (Next.End (Refused k) q) f l m r o = (let P : Action → Type 0 = λ b. OnNoWriter p b f l m in notified_there f (subst P r o)) where
    notified_there : (f : Found) → OnNoWriter p Action.NotifyNoWriter f l m → IsHanded m
    notified_there Done o = notified_marked l m o
    notified_there _ o = absurd o
  said_reading a (Next.End Got q) f l m r o = tt
  said_reading a (Next.End Granted q) f l m r o = tt
  said_reading a (Next.End Pending q) f l m r o = tt
  said_reading a (Next.End NotFree q) f l m r o = tt
  said_reading a (Next.End End.Waiting q) f l m r o = tt
  said_reading a (Next.End GivenBack q) f l m r o = tt
  said_reading a (Next.Wait q) f l m r o = tt

  reading_acted : (x v : World) (what : What) (a : Answer) (w : Within) → Stands v → (c : Acting x.behind v.behind (record { party = p; what = what }) a w) → reads_on c.from ≡ true → Onward Reading (AtEnd for_no_writer) a v
  reading_acted x v what a w sv c on =
      let n : Next = next_of c.from c.acts.found in
      let l = v.behind.machine.lock.no_writer in
      let said = said_reading (action_of c.from) n c.acts.found x.behind.machine.lock.no_writer l (goes_reading c.from c.acts.found on) c.acts.no_writer in
      let both = answered (λ q. reads_on q ≡ true) (IsHanded l) x.behind.machine.value n a (c.answer ∙ ap (answer_by x.behind.machine.value) c.acts.next_is) said in
      let L : World → Type 0 = λ y. IsHanded y.no_writer in
      record {
        going = λ s. record { stands = sv; reads = ap reads_on (lands x.behind v.behind what a w c ∙ ap place_after c.acts.next_is) ∙ both.0 s };
        ended = λ n r. subst L (sym sv.seen) (both.1 r);
      }

  reading_on : (x : World) (a : Answer) (v : World) → Reading x → Moved x (going_on p i) a v → Onward Reading (AtEnd for_no_writer) a v
  reading_on x a v g s =
      by_way Reading for_no_writer x.behind v.behind (going_on p i) a v (λ w c. reading_acted x v (Go i) a w s.did.stands c (ap reads_on (sym (some_eq c.starts)) ∙ g.reads))
      (way x.behind v.behind (going_on p i) a (laws x s.did.stood) (laws v s.did.stands) s.did.step)

  -- ---- a party that waits for the turn

  record Taking (x : World) : Type 0 where
    pub stands : Stands x
    pub takes : TakesOn (place_at x.behind.machine.lock.places p) (turn_at x.behind.machine.lock.turn.courses p)

  said_taking : (n : Next) (t : TurnCourse) (l : List (Entry ℕ)) → TurnsOn n t l → Said (λ q. TakesOn q t) (IsHanded l) n
  said_taking (Next.Do b q) t l h = h
  said_taking (Next.End (Refused k) q) t l h = h
  said_taking (Next.End Got q) t l h = tt
  said_taking (Next.End Granted q) t l h = tt
  said_taking (Next.End Pending q) t l h = tt
  said_taking (Next.End NotFree q) t l h = tt
  said_taking (Next.End End.Waiting q) t l h = tt
  said_taking (Next.End GivenBack q) t l h = tt
  said_taking (Next.Wait q) t l h = tt

  taking_acted : (x v : World) (what : What) (a : Answer) (w : Within) → Stands v → (c : Acting x.behind v.behind (record { party = p; what = what }) a w) → TakesOn c.from (turn_at x.behind.machine.lock.turn.courses p) → Onward Taking (AtEnd for_the_turn) a v
  taking_acted x v what a w sv c on =
      let n : Next = next_of c.from c.acts.found in
      let k = v.behind.machine.lock.turn in
      let t = turn_at k.courses p in
      let said = said_taking n t k.entries (goes_taking (inputs_of what).memory (inputs_of what).starving p c.from c.acts.found x.behind.machine.lock.turn k c.acts.turn (fit x.behind v.behind (record { party = p; what = what }) a w c) on) in
      let both = answered (λ q. TakesOn q t) (IsHanded k.entries) x.behind.machine.value n a (c.answer ∙ ap (answer_by x.behind.machine.value) c.acts.next_is) said in
      let there : place_at v.behind.machine.lock.places p ≡ place_after n = lands x.behind v.behind what a w c ∙ ap place_after c.acts.next_is in
      let T : Place → Type 0 = λ q. TakesOn q t in
      let L : World → Type 0 = λ y. IsHanded y.turn_list in
      record {
        going = λ s. record { stands = sv; takes = subst T (sym there) (both.0 s) };
        ended = λ n r. subst L (sym sv.seen) (both.1 r);
      }

  taking_on : (x : World) (a : Answer) (v : World) → Taking x → Moved x (going_on p i) a v → Onward Taking (AtEnd for_the_turn) a v
  taking_on x a v g s =
      let T : Place → Type 0 = λ q. TakesOn q (turn_at x.behind.machine.lock.turn.courses p) in
      by_way Taking for_the_turn x.behind v.behind (going_on p i) a v (λ w c. taking_acted x v (Go i) a w s.did.stands c (subst T (some_eq c.starts) g.takes))
      (way x.behind v.behind (going_on p i) a (laws x s.did.stood) (laws v s.did.stands) s.did.step)

  -- ---- a party that waits until no reader is left

  -- nobody else stands in its list
  record Alone (x : World) : Type 0 where
    pub only : (q : ℕ) → q ≢ p → entries_of q x.no_readers ≡ 0

  others_kept : (d : Effect Change ListName) (l : List (Entry ℕ)) (q : ℕ) → q ≢ p → entries_of q (entries_after p d for_no_readers l) ≡ entries_of q l
  others_kept (does for_no_readers f) l q apart = others p l f q apart
  others_kept (does for_the_turn f) l q apart = refl
  others_kept (does for_no_writer f) l q apart = refl
  others_kept (changes c) l q apart = refl
  others_kept nothing l q apart = refl

  none_listed : (l : List (Entry ℕ)) → ((q : ℕ) → entries_of q l ≡ 0) → 0 < length l → ⊥
  none_listed [] none h = omega arith
  none_listed (e ∷ es) none h = let no = none e.key in let own : 0 < entries_of e.key (e ∷ es) = grind (arith, nat_tests) in omega (arith, no, own)

  alone_on : (x : World) (what : What) (a : Answer) (v : World) → Alone x → Moved x (record { party = p; what = what }) a v → Onward Alone (AtEnd for_no_readers) a v
  alone_on x what a v g s =
      let d = s.legal.one_change.effect in
      let only : (q : ℕ) → q ≢ p → entries_of q v.no_readers ≡ 0 = λ q apart. ap (entries_of q) (s.legal.one_change.lists for_no_readers) ∙ (others_kept d x.no_readers q apart ∙ g.only q apart) in
      record {
        going = λ e. record { only = only };
        ended = λ e r some. absurd (none_listed v.no_readers (λ q. elim (ℕ_discrete q p) as (λ _. entries_of q v.no_readers ≡ 0) [
          | yes same ↦ (let P : ℕ → Type 0 = λ j. entries_of j v.no_readers ≡ 0 in subst P (sym same) (omega (arith, (s.legal.leaves_clear.refused r).0)))
          | no apart ↦ only q apart
        ]) some);
      }

  -- ---- where they begin

  -- whoever waits until no reader is left has the turn
  waits_with_turn : (x : Place) → in_no_readers x ≤ has_turn x
  waits_with_turn (Place.JoinNoReaders u) = omega arith
  waits_with_turn (Place.LookNoReaders u) = omega arith
  waits_with_turn (Place.AskNoReaders u) = omega arith
  waits_with_turn (Place.AwaitNoReaders u) = omega arith
  waits_with_turn (Place.LookUnlisted u) = omega arith
  waits_with_turn Place.LeaveNoReaders = omega arith
  waits_with_turn Place.CancelAwait = omega arith
  waits_with_turn _ = omega arith

  first_reads : (x : Place) → is_future x ≡ true → (from : Place) → 0 < in_no_writer x → start_of Call.Poll x ≡ Some from → reads_on from ≡ true
  first_reads = at_future (λ x. (from : Place) → 0 < in_no_writer x → start_of Call.Poll x ≡ Some from → reads_on from ≡ true) (record {
    made = λ w from there e. absurd (omega arith);
    no_writer = λ from there e. ap reads_on (sym (some_eq e));
    turn = λ q from there e. absurd (omega arith);
    no_readers = λ u from there e. absurd (omega arith);
    upgrade = λ from there e. absurd (omega arith);
  })

  first_takes : (t : TurnCourse) (x : Place) → is_future x ≡ true → (from : Place) → fits_turn x t ≡ true → 0 < listed t → start_of Call.Poll x ≡ Some from → TakesOn from t
  first_takes t = at_future (λ x. (from : Place) → fits_turn x t ≡ true → 0 < listed t → start_of Call.Poll x ≡ Some from → TakesOn from t) (record {
    made = λ w from fits there e. absurd (omega (arith, there, out_unlisted t fits));
    no_writer = λ from fits there e. absurd (omega (arith, there, out_unlisted t fits));
    turn = λ q from fits there e. (let T : Place → Type 0 = λ y. TakesOn y t in subst T (some_eq e) fits);
    no_readers = λ u from fits there e. absurd (omega (arith, there, holding_unlisted t fits));
    upgrade = λ from fits there e. absurd (omega (arith, there, holding_unlisted t fits));
  })

  module _ (w : World) (stood : Stands w) (pending : standing_of w p ≡ outside Rest.Pending) where
    abbrev here : Place
    here = place_at w.behind.machine.lock.places p

    seen_pending : standing_of (view_of w.behind) p ≡ outside Rest.Pending
    seen_pending = subst (λ x. standing_of x p ≡ outside Rest.Pending) stood.seen pending

    waits : is_future here ≡ true
    waits = future w p i stood.laws stood.fits seen_pending

    first : (a : Answer) (v : World) → Moved w (beginning p Call.Poll i) a v → Acting w.behind v.behind (beginning p Call.Poll i) a (within Kind.LaterPoll Rest.Pending)
    first a v s =
        let stage = (at_stage w p i stood.laws stood.fits seen_pending).1 in
        acting w.behind v.behind (beginning p Call.Poll i) a (laws w s.did.stood) (laws v s.did.stands) (within Kind.LaterPoll Rest.Pending)
        (ap (λ s. call_at (knows_at here) s (Begin Call.Poll i)) stage) (ap (λ s. polls_again s (Begin Call.Poll i)) stage) refl s.did.step

    module _ (known : ℕ → Account) (n : ℕ) (a : Answer) (v : World) (runs : Runs known w (moves_of p Call.Poll i n) (answers_of n a) v) (over_now : a ≢ Answer.Stepped) where
      by_list : (list : ListName) → 0 < entries_of p (list_of w list) → AtEnd list a v
      by_list for_no_writer some =
          let E : World → Type 0 = λ x. 0 < entries_of p x.no_writer in
          let there : 0 < in_no_writer here = omega (arith, stood.laws.owners_no_writer p, subst E stood.seen some) in
          along Moved accounts_after HoldsWell p i Reading (AtEnd for_no_writer) reading_on known n w (beginning p Call.Poll i) a v
          (λ b x s. let c = first b x s in reading_acted w x (Begin Call.Poll i) b _ s.did.stands c (first_reads here waits c.from there c.starts))
          over_now runs
      by_list for_the_turn some =
          let E : World → Type 0 = λ x. 0 < entries_of p x.turn_list in
          let t = turn_at w.behind.machine.lock.turn.courses p in
          let there : 0 < listed t = omega (arith, stood.laws.turn.owners p, subst E stood.seen some) in
          along Moved accounts_after HoldsWell p i Taking (AtEnd for_the_turn) taking_on known n w (beginning p Call.Poll i) a v
          (λ b x s. let c = first b x s in taking_acted w x (Begin Call.Poll i) b _ s.did.stands c (first_takes t here waits c.from (stood.laws.in_turn p) there c.starts))
          over_now runs
      by_list for_no_readers some =
          let E : World → Type 0 = λ x. 0 < entries_of p x.no_readers in
          let l = w.behind.machine.lock in
          let there : 0 < in_no_readers here = omega (arith, stood.laws.owners_no_readers p, subst E stood.seen some) in
          let none : (q : ℕ) → q ≢ p → entries_of q l.no_readers ≡ 0 = λ q apart. omega (arith, stood.laws.owners_no_readers q, stood.laws.turns_apart p q (λ e. apart (sym e)), waits_with_turn here, waits_with_turn (place_at l.places q), there) in
          let N : World → Type 0 = λ x. (q : ℕ) → q ≢ p → entries_of q x.no_readers ≡ 0 in
          let alone : Alone w = record { only = subst N (sym stood.seen) none } in
          along Moved accounts_after HoldsWell p i Alone (AtEnd for_no_readers) (λ x b y g s. alone_on x (Go i) b y g s) known n w (beginning p Call.Poll i) a v (λ b x s. alone_on w (Begin Call.Poll i) b x alone s)
          over_now runs

pub hands_on : (known : ℕ → Account) (w : World) (p : ℕ) (c : Call) (i : Inputs) (n : ℕ) (a : Answer) (v : World) → Stands w → Runs known w (moves_of p c i n) (answers_of n a) v → a ≢ Answer.Stepped
    → (list : ListName) → c ≡ Call.Poll → standing_of w p ≡ outside Rest.Pending → 0 < entries_of p (list_of w list) → is_refusal a ≡ true → 0 < length (list_of v list) → 0 < marked_count (list_of v list)
hands_on known w p c i n a v stood runs over_now list is pending some refused =
    let R : Call → Type 0 = λ x. Runs known w (moves_of p x i n) (answers_of n a) v in
    by_list p i w stood pending known n a v (subst R is runs) over_now list some refused
