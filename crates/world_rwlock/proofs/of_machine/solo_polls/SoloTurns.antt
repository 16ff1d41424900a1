-- Where a poll leads that is carried out alone by a party that waits for the turn, while nobody has it.
use Rattle.world_rwlock.proofs.Prelude.{Ending, ◌≡◌, ℕ, ◌<◌, ◌≤◌, ◌⊎◌, zero, suc, inl, inr, Bool, true, false, List, [], ◌∷◌, length, refl, sym, ap, arith, subst, ◌∙◌, get_or-set_same, length-set, set-set, set, sum_by, sum_by-set, LockCall, TurnStep, End as TurnEnd, Mutex, IsStarved, holders, starved, Purpose, Place, Out, Upgradable, Writing, WaitTurn, TakeTurn, Add, Mark, JoinNoReaders, LookNoReaders, AskNoReaders, LookUnlisted, LeaveNoReaders, Action, Found, Done, Full, NoneLeft, SomeLeft, NoMemory, Yes, Turn, End, Got, Pending, Refused, Next, action_of, next_of, after_lock, with_turn, place_after, go_to, ends, reads, OnTurn, RwLock, place_at, Acts, Finds, IsRwLock, readers, GoesOnAlone, last, step, PollsAlone, at_once, begun, waits_for_turn, IsCalledToTurn, TookTurn, GaveTurnWay, HasEnough, IsAtRest, counted, turn_at, rests_in_turn, out as turn_out}
use Rattle.world_rwlock.proofs.of_machine.laws.Laws.{rests_t}
use Rattle.lock_program.specs.declared.refusal.Refusal.TheVariants.{Readers, Starved}
use Rattle.world_base.proofs.of_table.Resting.{all_at_rest}
use Rattle.world_mutex.specs.machine.Alone as turn
use Rattle.world_mutex.proofs.of_machine.callers.AloneSeen.{solo_polls as turn_law}
use Rattle.sync_program.specs.declared.rwlock.Wanted.{Wanted}
use Rattle.world_rwlock.specs.machine.Solo.{waits_to_write, MeetsReaders}

-- ---- once the turn is got

-- a write that has the turn stands here on its way
abbrev is_on_way : Place → Bool
is_on_way Mark = true
is_on_way (JoinNoReaders false) = true
is_on_way (LookNoReaders false) = true
is_on_way (AskNoReaders false) = true
is_on_way (LookUnlisted false) = true
is_on_way LeaveNoReaders = true
is_on_way _ = false

-- further on its way, to writing, or to waiting until no reader is left
abbrev LeadsOn : Next → Type 0
LeadsOn (Next.Do a to) = is_on_way to ≡ true
LeadsOn (Next.End Got to) = to ≡ Writing
LeadsOn (Next.End Pending to) = waits_to_write to ≡ true
LeadsOn _ = ⊥

leads_on : (x : Place) (f : Found) (v : RwLock) → is_on_way x ≡ true → Finds true (action_of x) f v → LeadsOn (next_of x f)
leads_on Mark NoneLeft v h e = refl
leads_on Mark _ v h e = refl
leads_on (JoinNoReaders false) Done v h e = refl
leads_on (JoinNoReaders false) NoMemory v h e = absurd (cc)
leads_on (JoinNoReaders false) _ v h e = absurd e
leads_on (LookNoReaders false) NoneLeft v h e = refl
leads_on (LookNoReaders false) _ v h e = refl
leads_on (AskNoReaders false) Yes v h e = refl
leads_on (AskNoReaders false) _ v h e = refl
leads_on (LookUnlisted false) NoneLeft v h e = refl
leads_on (LookUnlisted false) _ v h e = refl
leads_on LeaveNoReaders f v h e = refl
leads_on _ f v h e = absurd (cc)

-- where readers are below the limit, an upgradable reader is added
adds : (memory : Bool) (v : RwLock) (f : Found) → Finds memory Action.Add f v → readers v < v.limit → next_of (Add false) f ≡ ends Got Upgradable
adds memory v Done e below = refl
adds memory v Full e below = absurd (omega arith)
adds memory v _ e below = absurd e

-- where no reader is left, a write has the lock as soon as it has marked it
marks_last : (memory : Bool) (v : RwLock) (f : Found) → Finds memory Action.Mark f v → readers v ≡ 0 → next_of Mark f ≡ ends Got Writing
marks_last memory v NoneLeft e none = refl
marks_last memory v SomeLeft e none = absurd (omega arith)
marks_last memory v _ e none = absurd e

none_or_some : (n : ℕ) → (n ≡ 0) ⊎ (0 < n)
none_or_some zero = inl refl
none_or_some (suc n) = inr (omega arith)

end_eq : (x y : End) (to at : Place) → Next.End x to ≡ Next.End y at → (x ≡ y) × (to ≡ at)
end_eq x y to at h = (cc, cc)

-- where as many read as may, it finds that out
fills : (memory : Bool) (v : RwLock) (f : Found) → Finds memory Action.Add f v → v.limit ≤ readers v → next_of (Add false) f ≡ go_to (Place.ReleaseTurn Ending.RefuseReaders)
fills memory v Done e most = absurd (omega (arith, e, most))
fills memory v Full e most = refl
fills memory v _ e most = absurd e

never : {P : Type 0} (a : _) (x : End) (to at : Place) → Next.Do a to ≡ Next.End x at → P
never a x to at h = absurd (cc)

ends_not : {P : Type 0} (x : End) (to : Place) {q : Purpose} → Next.End x to ≡ go_to (TakeTurn q) → P
ends_not x to h = absurd (cc)

-- nothing was done on the two lists
abbrev SameLists : RwLock → RwLock → Type 0
SameLists m mid = (mid.no_writer ≡ m.no_writer) × (mid.no_readers ≡ m.no_readers)

-- what a step in the turn finds there
goes : (memory : Bool) (p : ℕ) (starving : Bool) (t u : Mutex) (f : Found) → OnTurn memory starving p Action.Go f t u → (n : TurnStep) × (f ≡ Turn n) × turn.HasGoneOn memory p n t u
goes memory p starving t u (Turn n) o = (n, refl, o.done)
goes memory p starving t u _ o = absurd o

begins : (memory : Bool) (p : ℕ) (starving : Bool) (t u : Mutex) (f : Found) → OnTurn memory starving p (Action.Begin LockCall.Poll) f t u → (n : TurnStep) × (f ≡ Turn n) × turn.HasBegun memory p LockCall.Poll n t u
begins memory p starving t u (Turn n) o = (n, refl, o.done)
begins memory p starving t u _ o = absurd o

module _ (memory : Bool) (p : ℕ) (e : End) (new : RwLock) where
  -- where an action leaves its party
  lands : (starving : Bool) (x : Place) (n : Next) (m mid : RwLock) → p < length m.places → Acts memory starving p x n m mid → (p < length mid.places) × (place_at mid.places p ≡ place_after n)
  lands starving x n m mid known a = (
    rw (a.places, length-set m.places p (place_after n)) known,
    ap (λ ps. place_at ps p) a.places ∙ get_or-set_same m.places p (place_after n) Out known,
  )

  ended : (x : End) (to : Place) → LeadsOn (Next.End x to) → place_at new.places p ≡ to → TookTurn p x new
  ended Got to leads at = inr (at ∙ leads)
  ended Pending to leads at = ap waits_to_write at ∙ leads
  ended _ to leads at = absurd leads

  goes_to_write : (m : RwLock) → memory ≡ true → p < length m.places → is_on_way (place_at m.places p) ≡ true → GoesOnAlone memory p e new m → TookTurn p e new
  goes_to_write m found known way (last old starving to a) =
      let led : LeadsOn (Next.End e to) = subst LeadsOn (sym a.next_is) (leads_on (place_at m.places p) a.found m way (subst (λ b. Finds b (action_of (place_at m.places p)) a.found m) found a.finds)) in
      ended e to led (lands starving (place_at m.places p) (Next.End e to) m new known a).1
  goes_to_write m found known way (step old mid starving a to acts on) =
      let led : LeadsOn (Next.Do a to) = subst LeadsOn (sym acts.next_is) (leads_on (place_at m.places p) acts.found m way (subst (λ b. Finds b (action_of (place_at m.places p)) acts.found m) found acts.finds)) in
      let there = lands starving (place_at m.places p) (Next.Do a to) m mid known acts in
      goes_to_write mid found there.0 (ap is_on_way there.1 ∙ led) on

  adds_itself : (m : RwLock) → p < length m.places → place_at m.places p ≡ Add false → readers m < m.limit → GoesOnAlone memory p e new m → TookTurn p e new
  adds_itself m known here below (last old starving to a) =
      let acts : Acts memory starving p (Add false) (Next.End e to) m new = rw here at a in
      let is = end_eq e Got to Upgradable (acts.next_is ∙ adds memory m acts.found acts.finds below) in
      let there = lands starving (Add false) (Next.End e to) m new known acts in
      subst (λ x. TookTurn p x new) (sym is.0) (inl (there.1 ∙ is.1))
  adds_itself m known here below (step old mid starving a to b on) =
      let acts : Acts memory starving p (Add false) (Next.Do a to) m mid = rw here at b in
      never a Got to Upgradable (acts.next_is ∙ adds memory m acts.found acts.finds below)

  -- as many read as may: it releases the turn, and is refused
  releases_last : (m : RwLock) → place_at m.places p ≡ Place.ReleasingTurn Ending.RefuseReaders → GoesOnAlone memory p e new m → e ≡ Refused Readers
  releases_last m here (last old starving to a) =
      let acts : Acts memory starving p (Place.ReleasingTurn Ending.RefuseReaders) (Next.End e to) m new = rw here at a in
      (end_eq e (Refused Readers) to (Place.Made Wanted.UpgradableRead) acts.next_is).0
  releases_last m here (step old mid starving a to b on) =
      let acts : Acts memory starving p (Place.ReleasingTurn Ending.RefuseReaders) (Next.Do a to) m mid = rw here at b in
      never a (Refused Readers) to (Place.Made Wanted.UpgradableRead) acts.next_is

  releases_full : (m : RwLock) → p < length m.places → place_at m.places p ≡ Place.ReleaseTurn Ending.RefuseReaders → GoesOnAlone memory p e new m → e ≡ Refused Readers
  releases_full m known here (last old starving to a) =
      let acts : Acts memory starving p (Place.ReleaseTurn Ending.RefuseReaders) (Next.End e to) m new = rw here at a in
      by_last to acts.found acts.next_is where
        by_last : (to : Place) (f : Found) → Next.End e to ≡ next_of (Place.ReleaseTurn Ending.RefuseReaders) f → e ≡ Refused Readers
        by_last to (Turn TurnStep.More) h = absurd (cc h)
        by_last to (Turn (TurnStep.End x)) h = (end_eq e (Refused Readers) to (Place.Made Wanted.UpgradableRead) h).0
        by_last to _ h = (end_eq e (Refused Readers) to (Place.Made Wanted.UpgradableRead) h).0
  releases_full m known here (step old mid starving a to b on) =
      let acts : Acts memory starving p (Place.ReleaseTurn Ending.RefuseReaders) (Next.Do a to) m mid = rw here at b in
      let there = lands starving (Place.ReleaseTurn Ending.RefuseReaders) (Next.Do a to) m mid known acts in
      by_step a to acts.found acts.next_is there.1 where
        by_step : (a : Action) (to : Place) (f : Found) → Next.Do a to ≡ next_of (Place.ReleaseTurn Ending.RefuseReaders) f → place_at mid.places p ≡ to → e ≡ Refused Readers
        by_step a to (Turn TurnStep.More) h at = releases_last mid (at ∙ cc h) on
        by_step a to (Turn (TurnStep.End x)) h at = never a (Refused Readers) to (Place.Made Wanted.UpgradableRead) h
        by_step a to _ h at = never a (Refused Readers) to (Place.Made Wanted.UpgradableRead) h

  meets_readers : (m : RwLock) → p < length m.places → place_at m.places p ≡ Add false → m.limit ≤ readers m → GoesOnAlone memory p e new m → e ≡ Refused Readers
  meets_readers m known here full (last old starving to a) =
      let acts : Acts memory starving p (Add false) (Next.End e to) m new = rw here at a in
      absurd (let h = acts.next_is ∙ fills memory m acts.found acts.finds full in cc h)
  meets_readers m known here full (step old mid starving a to b on) =
      let acts : Acts memory starving p (Add false) (Next.Do a to) m mid = rw here at b in
      let there = lands starving (Add false) (Next.Do a to) m mid known acts in
      let h = acts.next_is ∙ fills memory m acts.found acts.finds full in
      releases_full mid there.0 (there.1 ∙ to_is a to h) on where
        to_is : (a : Action) (to : Place) → Next.Do a to ≡ go_to (Place.ReleaseTurn Ending.RefuseReaders) → to ≡ Place.ReleaseTurn Ending.RefuseReaders
        to_is a to h = cc h

  marks_it : (m : RwLock) → p < length m.places → place_at m.places p ≡ Mark → readers m ≡ 0 → GoesOnAlone memory p e new m → TookTurn p e new
  marks_it m known here none (last old starving to a) =
      let acts : Acts memory starving p Mark (Next.End e to) m new = rw here at a in
      let is = end_eq e Got to Writing (acts.next_is ∙ marks_last memory m acts.found acts.finds none) in
      let there = lands starving Mark (Next.End e to) m new known acts in
      subst (λ x. TookTurn p x new) (sym is.0) (inr (there.1 ∙ is.1))
  marks_it m known here none (step old mid starving a to b on) =
      let acts : Acts memory starving p Mark (Next.Do a to) m mid = rw here at b in
      never a Got to Writing (acts.next_is ∙ marks_last memory m acts.found acts.finds none)

  goes_with_turn : (q : Purpose) (m : RwLock) → p < length m.places → place_at m.places p ≡ with_turn q false → (q ≡ Purpose.UpgradableRead → readers m < m.limit) → (q ≡ Purpose.Write → 0 < readers m → memory ≡ true) → GoesOnAlone memory p e new m → TookTurn p e new
  goes_with_turn Purpose.UpgradableRead m known here below enough g = adds_itself m known here (below refl) g
  goes_with_turn Purpose.Write m known here below enough g = elim (none_or_some (readers m)) as (λ _. TookTurn p e new) [
    | inl none ↦ marks_it m known here none g
    | inr some ↦ goes_to_write m (enough refl some) known (ap is_on_way here) g
  ]

  -- ---- the call on the turn

  -- what is left of a call after an action
  abbrev Rest : Next → RwLock → Type 0
  Rest (Next.Do a q) m = GoesOnAlone memory p e new m
  Rest (Next.End x q) m = (e ≡ x) × (new ≡ m)
  Rest (Next.Wait q) m = ⊥

  -- the poll's call on the turn has ended so, and nothing else was done
  record TurnEnded (Polls : TurnEnd → Mutex → Type 0) (q : Purpose) (from : RwLock) : Type 0 where
    pub turn_end : TurnEnd
    pub mid : RwLock
    pub polls : Polls turn_end mid.turn
    pub rest : Rest (after_lock q (Turn (TurnStep.End turn_end))) mid
    pub places : mid.places ≡ set from.places p (place_after (after_lock q (Turn (TurnStep.End turn_end))))
    pub no_writer : mid.no_writer ≡ from.no_writer
    pub no_readers : mid.no_readers ≡ from.no_readers
    pub limit : mid.limit ≡ from.limit

  -- with this action
  ends_turn : (Polls : TurnEnd → Mutex → Type 0) (q : Purpose) (x : Place) (starving : Bool) (n : Next) (m mid : RwLock) (te : TurnEnd) → Acts memory starving p x n m mid → SameLists m mid → Rest n mid
      → n ≡ after_lock q (Turn (TurnStep.End te)) → Polls te mid.turn → TurnEnded Polls q m
  ends_turn Polls q x starving n m mid te a same rest is polls = record {
    turn_end = te;
    mid = mid;
    polls = polls;
    rest = subst (λ k. Rest k mid) is rest;
    places = a.places ∙ ap (λ k. set m.places p (place_after k)) is;
    no_writer = same.0;
    no_readers = same.1;
    limit = a.limit;
  }

  -- or later
  later : (Polls Then : TurnEnd → Mutex → Type 0) (q : Purpose) (m mid : RwLock) → SameLists m mid → mid.places ≡ set m.places p (TakeTurn q) → mid.limit ≡ m.limit
      → ((te : TurnEnd) (l : Mutex) → Then te l → Polls te l) → TurnEnded Then q mid → TurnEnded Polls q m
  later Polls Then q m mid same places limit onward k =
      let to : Place = place_after (after_lock q (Turn (TurnStep.End k.turn_end))) in
      record {
        turn_end = k.turn_end;
        mid = k.mid;
        polls = onward k.turn_end k.mid.turn k.polls;
        rest = k.rest;
        places = k.places ∙ (ap (λ ps. set ps p to) places ∙ set-set m.places p (TakeTurn q) to);
        no_writer = k.no_writer ∙ same.0;
        no_readers = k.no_readers ∙ same.1;
        limit = k.limit ∙ limit;
      }

  -- the party goes on with its call on the turn, or polls there, and leaves the turn so
  abbrev Goes : RwLock → TurnEnd → Mutex → Type 0
  Goes m te l = turn.GoesOnAlone memory p te l m.turn

  abbrev Polls : RwLock → TurnEnd → Mutex → Type 0
  Polls m te l = turn.PollsAlone memory p te l m.turn

  module _ (q : Purpose) (starving : Bool) (m mid : RwLock) (n : Next) (known : p < length m.places) where
    -- the next action of a call on the turn, and the rest of it
    one_goes : Acts memory starving p (TakeTurn q) n m mid → Rest n mid → (n ≡ go_to (TakeTurn q) → p < length mid.places → place_at mid.places p ≡ TakeTurn q → TurnEnded (Goes mid) q mid)
        → (k : TurnStep) → n ≡ after_lock q (Turn k) → turn.HasGoneOn memory p k m.turn mid.turn → TurnEnded (Goes m) q m
    one_goes acts rest more TurnStep.More is did =
        let there = lands starving (TakeTurn q) n m mid known acts in
        later (Goes m) (Goes mid) q m mid (acts.no_writer, acts.no_readers) (acts.places ∙ ap (λ k. set m.places p (place_after k)) is) acts.limit
        (λ te l g. turn.further m.turn mid.turn did g) (more is there.0 (there.1 ∙ ap place_after is))
    one_goes acts rest more (TurnStep.End te) is did = ends_turn (Goes m) q (TakeTurn q) starving n m mid te acts (acts.no_writer, acts.no_readers) rest is (turn.last m.turn did)

    first_goes : Acts memory starving p (WaitTurn q) n m mid → Rest n mid → (n ≡ go_to (TakeTurn q) → p < length mid.places → place_at mid.places p ≡ TakeTurn q → TurnEnded (Goes mid) q mid)
        → (k : TurnStep) → n ≡ after_lock q (Turn k) → turn.HasBegun memory p LockCall.Poll k m.turn mid.turn → TurnEnded (Polls m) q m
    first_goes acts rest more TurnStep.More is did =
        let there = lands starving (WaitTurn q) n m mid known acts in
        later (Polls m) (Goes mid) q m mid (acts.no_writer, acts.no_readers) (acts.places ∙ ap (λ k. set m.places p (place_after k)) is) acts.limit
        (λ te l g. turn.begun m.turn mid.turn did g) (more is there.0 (there.1 ∙ ap place_after is))
    first_goes acts rest more (TurnStep.End te) is did = ends_turn (Polls m) q (WaitTurn q) starving n m mid te acts (acts.no_writer, acts.no_readers) rest is (turn.at_once m.turn did)

  turn_goes : (q : Purpose) (m : RwLock) → p < length m.places → place_at m.places p ≡ TakeTurn q → GoesOnAlone memory p e new m → TurnEnded (Goes m) q m
  turn_goes q m known here (last old starving to a) =
      let acts : Acts memory starving p (TakeTurn q) (Next.End e to) m new = rw here at a in
      let found = goes memory p starving m.turn new.turn acts.found acts.turn in
      one_goes q starving m new (Next.End e to) known acts (refl, refl) (λ is known_then there. ends_not e to is) found.0 (acts.next_is ∙ ap (next_of (TakeTurn q)) found.1) found.2
  turn_goes q m known here (step old mid starving a to b on) =
      let acts : Acts memory starving p (TakeTurn q) (Next.Do a to) m mid = rw here at b in
      let found = goes memory p starving m.turn mid.turn acts.found acts.turn in
      one_goes q starving m mid (Next.Do a to) known acts on (λ is known_then there. turn_goes q mid known_then there on) found.0 (acts.next_is ∙ ap (next_of (TakeTurn q)) found.1) found.2

  turn_polls : (q : Purpose) (m : RwLock) → p < length m.places → place_at m.places p ≡ WaitTurn q → PollsAlone memory p e new m → TurnEnded (Polls m) q m
  turn_polls q m known here (at_once old starving to b) =
      let acts : Acts memory starving p (WaitTurn q) (Next.End e to) m new = rw here at b in
      let found = begins memory p starving m.turn new.turn acts.found acts.turn in
      first_goes q starving m new (Next.End e to) known acts (refl, refl) (λ is known_then there. ends_not e to is) found.0 (acts.next_is ∙ ap (next_of (WaitTurn q)) found.1) found.2
  turn_polls q m known here (begun old mid starving a to b on) =
      let acts : Acts memory starving p (WaitTurn q) (Next.Do a to) m mid = rw here at b in
      let found = begins memory p starving m.turn mid.turn acts.found acts.turn in
      first_goes q starving m mid (Next.Do a to) known acts on (λ is known_then there. turn_goes q mid known_then there on) found.0 (acts.next_is ∙ ap (next_of (WaitTurn q)) found.1) found.2

-- a party whose place is not Out is one of the lock's
known_waiter : (ps : List Place) (p : ℕ) → waits_for_turn (place_at ps p) ≡ true → p < length ps
known_waiter [] p h = absurd (cc)
known_waiter (x ∷ xs) zero h = omega arith
known_waiter (x ∷ xs) (suc p) h = let more : p < length xs = known_waiter xs p h in omega arith

waiter_at : (x : Place) → waits_for_turn x ≡ true → (q : Purpose) × (x ≡ WaitTurn q)
waiter_at (WaitTurn q) h = (q, refl)
waiter_at _ h = absurd (cc)

-- whoever has just got the turn doesn't read yet
pub reads_not : (q : Purpose) → reads (with_turn q false) ≡ 0
reads_not Purpose.UpgradableRead = refl
reads_not Purpose.Write = refl

reads_or_not : (q : Purpose) (n k : ℕ) → (q ≡ Purpose.UpgradableRead → n < k) ⊎ ((q ≡ Purpose.UpgradableRead) × (k ≤ n))
reads_or_not Purpose.Write n k = inl (λ e. absurd (cc e))
reads_or_not Purpose.UpgradableRead n k = elim (below_or_not n k) as (λ _. (Purpose.UpgradableRead ≡ Purpose.UpgradableRead → n < k) ⊎ ((Purpose.UpgradableRead ≡ Purpose.UpgradableRead) × (k ≤ n))) [ inl few ↦ inl (λ e. few) | inr many ↦ inr (refl, many) ] where
  below_or_not : (n k : ℕ) → (n < k) ⊎ (k ≤ n)
  below_or_not n k = grind arith

module _ (memory : Bool) (p : ℕ) (e : End) (new v : RwLock) (laws : IsRwLock v) (free : holders v.turn ≡ 0) (called : IsCalledToTurn v p) where
  waiter : (q : Purpose) × (place_at v.places p ≡ WaitTurn q)
  waiter = waiter_at (place_at v.places p) called.0

  known : p < length v.places
  known = known_waiter v.places p called.0

  called_there : turn.IsCalled v.turn p
  called_there = (rw waiter.1 at (laws.in_turn p), called.1)

  law : turn.SoloPolls v.turn
  law = turn_law v.turn laws.turn free

  -- the turn was got there
  got : (waiter.0 ≡ Purpose.UpgradableRead → readers v < v.limit) → (te : TurnEnd) (mid : RwLock) → HasEnough memory v p → te ≡ End.Got → Rest memory p e new (after_lock waiter.0 (Turn (TurnStep.End te))) mid → mid.places ≡ set v.places p (place_after (after_lock waiter.0 (Turn (TurnStep.End te)))) → mid.limit ≡ v.limit → TookTurn p e new
  got below End.Got mid enough is rest places limit =
      let to : Place = with_turn waiter.0 false in
      let here : place_at mid.places p ≡ to = ap (λ ps. place_at ps p) places ∙ get_or-set_same v.places p to Out known in
      let size : length mid.places ≡ length v.places = ap length places ∙ length-set v.places p to in
      let sum : readers mid ≡ sum_by reads (set v.places p to) = ap (sum_by reads) places in
      let was : reads (place_at v.places p) ≡ 0 = ap reads waiter.1 in
      let as_many : readers mid ≡ readers v = omega (arith, sum, sum_by-set reads v.places p to Out known, was, reads_not waiter.0) in
      let few : waiter.0 ≡ Purpose.UpgradableRead → readers mid < mid.limit = λ up. (let under = below up in omega (arith, under, as_many, limit)) in
      goes_with_turn memory p e new waiter.0 mid (omega (arith, size, known)) here few (λ is_write some. enough (waiter.1 ∙ ap WaitTurn is_write) (omega (arith, as_many, some))) rest
  got below _ mid enough is rest places limit = absurd (cc)

  -- or it met the readers' limit
  full : waiter.0 ≡ Purpose.UpgradableRead → v.limit ≤ readers v → (te : TurnEnd) (mid : RwLock) → te ≡ End.Got → Rest memory p e new (after_lock waiter.0 (Turn (TurnStep.End te))) mid → mid.places ≡ set v.places p (place_after (after_lock waiter.0 (Turn (TurnStep.End te)))) → mid.limit ≡ v.limit → e ≡ Refused Readers
  full up most End.Got mid is rest places limit =
      let to : Place = with_turn waiter.0 false in
      let here : place_at mid.places p ≡ to = ap (λ ps. place_at ps p) places ∙ get_or-set_same v.places p to Out known in
      let size : length mid.places ≡ length v.places = ap length places ∙ length-set v.places p to in
      let sum : readers mid ≡ sum_by reads (set v.places p to) = ap (sum_by reads) places in
      let was : reads (place_at v.places p) ≡ 0 = ap reads waiter.1 in
      let many : mid.limit ≤ readers mid = omega (arith, sum, sum_by-set reads v.places p to Out known, was, reads_not waiter.0, limit, most) in
      meets_readers memory p e new mid (omega (arith, size, known)) (here ∙ ap (λ q. with_turn q false) up) many rest
  full up most _ mid is rest places limit = absurd (cc)

  got_or_full : (te : TurnEnd) (mid : RwLock) → HasEnough memory v p → te ≡ End.Got → Rest memory p e new (after_lock waiter.0 (Turn (TurnStep.End te))) mid → mid.places ≡ set v.places p (place_after (after_lock waiter.0 (Turn (TurnStep.End te)))) → mid.limit ≡ v.limit → TookTurn p e new ⊎ MeetsReaders p v e
  got_or_full te mid enough is rest places limit = elim (reads_or_not waiter.0 (readers v) v.limit) as (λ _. TookTurn p e new ⊎ MeetsReaders p v e) [
    | inl below ↦ inl (got below te mid enough is rest places limit)
    | inr most ↦ inr (record { wants = waiter.1 ∙ ap WaitTurn most.0; full = most.1; refused = full most.0 most.1 te mid is rest places limit })
  ]

  -- its party gave way there
  gave : (te : TurnEnd) (mid : RwLock) → turn.GaveWay p v.turn te mid.turn → turn.StandsBack p v.turn te mid.turn → Rest memory p e new (after_lock waiter.0 (Turn (TurnStep.End te))) mid → mid.places ≡ set v.places p (place_after (after_lock waiter.0 (Turn (TurnStep.End te))))
      → SameLists v mid → mid.limit ≡ v.limit → GaveTurnWay p v e new
  gave End.Pending mid g back rest places same limit =
      let here : place_at mid.places p ≡ WaitTurn waiter.0 = ap (λ ps. place_at ps p) places ∙ get_or-set_same v.places p (WaitTurn waiter.0) Out known in
      let so : GaveTurnWay p v Pending mid = record {
        stands_back = (g, here ∙ sym waiter.1);
        places = places ∙ ap (set v.places p) (sym here);
        no_writer = same.0;
        no_readers = same.1;
        limit = limit;
      } in
      subst (λ x. GaveTurnWay p v x new) (sym rest.0) (subst (λ m. GaveTurnWay p v Pending m) (sym rest.1) so)
  gave (End.Refused Starved) mid g back rest places same limit =
      let to : Place = place_after (after_lock waiter.0 (Turn (TurnStep.End (End.Refused Starved)))) in
      let here : place_at mid.places p ≡ to = ap (λ ps. place_at ps p) places ∙ get_or-set_same v.places p to Out known in
      let so : GaveTurnWay p v (Refused Starved) mid = record {
        stands_back = (g, rw here refl);
        places = places ∙ ap (set v.places p) (sym here);
        no_writer = same.0;
        no_readers = same.1;
        limit = limit;
      } in
      subst (λ x. GaveTurnWay p v x new) (sym rest.0) (subst (λ m. GaveTurnWay p v (Refused Starved) m) (sym rest.1) so)
  gave _ mid g back rest places same limit = absurd back

  by_turn : HasEnough memory v p → (k : TurnEnded memory p e new (Polls memory p e new v) waiter.0 v) → turn.Took p k.turn_end k.mid.turn ⊎ turn.GaveWay p v.turn k.turn_end k.mid.turn → TookTurn p e new ⊎ (GaveTurnWay p v e new ⊎ MeetsReaders p v e)
  by_turn enough k (inl took) = elim (got_or_full k.turn_end k.mid enough took.0 k.rest k.places k.limit) as (λ _. TookTurn p e new ⊎ (GaveTurnWay p v e new ⊎ MeetsReaders p v e)) [ inl t ↦ inl t | inr f ↦ inr (inr f) ]
  by_turn enough k (inr g) = inr (inl (gave k.turn_end k.mid g g.stands_back k.rest k.places (k.no_writer, k.no_readers) k.limit))

  -- the poll takes the turn or gives way
  pub either : memory ≡ true → PollsAlone memory p e new v → TookTurn p e new ⊎ (GaveTurnWay p v e new ⊎ MeetsReaders p v e)
  either found polls =
      let k = turn_polls memory p e new waiter.0 v known waiter.1 polls in
      by_turn (λ is_write some. found) k (law.takes_or_gives_way p k.turn_end k.mid.turn called_there (subst (λ b. turn.PollsAlone b p k.turn_end k.mid.turn v.turn) found k.polls))

  -- at rest one that isn't starved gives way where another is
  pub must_give_way : memory ≡ true → IsAtRest v → counted (turn_at v.turn.courses p) ≡ 0 → 0 < starved v.turn → PollsAlone memory p e new v → GaveTurnWay p v e new
  must_give_way found rest plain some polls =
      let k = turn_polls memory p e new waiter.0 v known waiter.1 polls in
      let quiet = all_at_rest rests_in_turn turn_out v.turn.courses (λ q i. rests_t (place_at v.places q) (turn_at v.turn.courses q) (rest q) (laws.in_turn q)) in
      let g = law.behind quiet p k.turn_end k.mid.turn called_there plain some (subst (λ b. turn.PollsAlone b p k.turn_end k.mid.turn v.turn) found k.polls) in
      gave k.turn_end k.mid g g.stands_back k.rest k.places (k.no_writer, k.no_readers) k.limit

  -- that of a starved party gives way to nobody, and nobody gives way where none is starved
  pub must_take : HasEnough memory v p → IsStarved v.turn p ⊎ (starved v.turn ≡ 0) → PollsAlone memory p e new v → TookTurn p e new ⊎ MeetsReaders p v e
  must_take enough why polls =
      let k = turn_polls memory p e new waiter.0 v known waiter.1 polls in
      got_or_full k.turn_end k.mid enough (law.takes memory p k.turn_end k.mid.turn called_there why k.polls).0 k.rest k.places k.limit
