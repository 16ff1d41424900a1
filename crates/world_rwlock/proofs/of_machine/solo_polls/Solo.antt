-- Where a poll leads that is carried out alone while the lock is free for it.
use Rattle.world_rwlock.proofs.Prelude.{◌≡◌, ℕ, ◌+◌, ◌<◌, ◌⊎◌, inl, inr, zero, suc, Bool, true, List, [], ◌∷◌, length, get_or, refl, ap, arith, subst, ◌∙◌, get_or-set_same, length-set, set, sum_by, sum_by-set, Entry, is_marked_at, is_party, TurnCourse, listed, turn_at, out_unlisted, holding_unlisted, first_marked, Place, Out, Made, Reading, Upgradable, Writing, EnterRead, AskNoWriter, PassOn, WaitTurn, AwaitNoReaders, LookUnlisted, LeaveNoReaders, Action, Found, Done, Writer, Full, NoneLeft, SomeLeft, Yes, No, End, Got, Next, next_of, place_after, go_to, ends, reads, marks, in_no_writer, in_no_readers, fits_turn, is_resting, OnNoWriter, RwLock, place_at, Acts, Finds, IsRwLock, readers, marked, GoesOnAlone, last, step, PollsAlone, at_once, begun, waits_to_read, looks_for_readers, waits_for_turn, Took, SoloPolls}
use Rattle.lock_program.specs.declared.refusal.Refusal.TheVariants.{Readers}
use Rattle.world_rwlock.proofs.Prelude.{◌≤◌, Refused, Wanted}
use Rattle.world_rwlock.specs.machine.Solo.{waits_to_write}
use Rattle.world_rwlock.proofs.of_machine.solo_polls.SoloTurns.{either, must_take, must_give_way}

module _ (memory : Bool) (p : ℕ) (v : RwLock) where
  -- since v only this party has moved, and it stands at x
  record Reached (x : Place) (m : RwLock) : Type 0 where
    pub known : p < length m.places
    pub here : place_at m.places p ≡ x
    pub sums : (f : Place → ℕ) → sum_by f m.places + f (place_at v.places p) ≡ sum_by f v.places + f x
    pub limit : m.limit ≡ v.limit

  at_start : (x : Place) → p < length v.places → place_at v.places p ≡ x → Reached x v
  at_start x known e = record { known = known; here = e; sums = λ f. ap (λ y. sum_by f v.places + f y) e; limit = refl }

  -- one action on
  reaches : (x : Place) (starving : Bool) (m n : RwLock) (next : Next) → Reached x m → Acts memory starving p x next m n → Reached (place_after next) n
  reaches x starving m n next r a =
      let to : Place = place_after next in
      record {
        known = rw (a.places, length-set m.places p to) r.known;
        here = rw a.places (get_or-set_same m.places p to Out r.known);
        sums = λ f.
            let now : sum_by f n.places ≡ sum_by f (set m.places p to) = ap (sum_by f) a.places in
            let was : f (get_or m.places p Out) ≡ f x = ap f r.here in
            omega (arith, r.sums f, sum_by-set f m.places p to Out r.known);
        limit = a.limit ∙ r.limit;
      }

  module _ (e : End) (new : RwLock) where
    -- what is left of a call after an action
    abbrev Rest : Next → RwLock → Type 0
    Rest (Next.Do a q) m = GoesOnAlone memory p e new m
    Rest (Next.End x q) m = (e ≡ x) × (new ≡ m)
    Rest (Next.Wait q) m = ⊥

    -- the next action of a call from x, and the rest of it
    record Unfolded (x : Place) (m : RwLock) : Type 0 where
      pub next : Next
      pub mid : RwLock
      pub starving : Bool
      pub acts : Acts memory starving p x next m mid
      pub rest : Rest next mid
      pub reached : Reached (place_after next) mid

    unfolds_here : (m : RwLock) → GoesOnAlone memory p e new m → (next : Next) × (mid : RwLock) × (starving : Bool) × Acts memory starving p (place_at m.places p) next m mid × Rest next mid
    unfolds_here m (last old starving to a) = (Next.End e to, new, starving, a, (refl, refl))
    unfolds_here m (step old mid starving a to acts on) = (Next.Do a to, mid, starving, acts, on)

    unfolds : (x : Place) (m : RwLock) → Reached x m → GoesOnAlone memory p e new m → Unfolded x m
    unfolds x m r g =
        let u = unfolds_here m g in
        let acts : Acts memory u.2 p x u.0 m u.1 = rw r.here at u.3 in
        record { next = u.0; mid = u.1; starving = u.2; acts = acts; rest = u.4; reached = reaches x u.2 m u.1 u.0 r acts }

    along : (x : Place) (m : RwLock) (u : Unfolded x m) (n : Next) → u.next ≡ n → Rest n u.mid × Reached (place_after n) u.mid
    along x m u n is = (subst (λ k. Rest k u.mid) is u.rest, subst (λ k. Reached (place_after k) u.mid) is u.reached)

    took : (right : Place) (m : RwLock) → Rest (ends Got right) m → Reached right m → Took p right e new
    took right m rest r = (rest.0, rw rest.1 r.here)

-- a marked entry is found so
asked : (p : ℕ) (l m : List (Entry ℕ)) (f : Found) → OnNoWriter p Action.AskNoWriter f l m → is_marked_at (is_party p) l ≡ true → next_of AskNoWriter f ≡ go_to PassOn
asked p l m Yes e told = refl
asked p l m No e told = absurd (cc)
asked p l m _ e told = absurd e

-- where the bit is clear and readers are below the limit, a reader reads
entered : (memory : Bool) (v : RwLock) (f : Found) → Finds memory Action.Read f v → marked v ≡ 0 → readers v < v.limit → next_of (EnterRead true) f ≡ ends Got Reading
entered memory v Done e free below = refl
entered memory v Writer e free below = absurd (omega arith)
entered memory v Full e free below = absurd (omega arith)
entered memory v _ e free below = absurd e

-- and where as many read as may, one is refused
met : (memory : Bool) (v : RwLock) (f : Found) → Finds memory Action.Read f v → marked v ≡ 0 → v.limit ≤ readers v → next_of (EnterRead true) f ≡ go_to (Place.RefuseNotify Readers)
met memory v Full e free full = refl
met memory v Done e free full = absurd (omega (arith, e.1, full))
met memory v Writer e free full = absurd (omega (arith, e, free))
met memory v _ e free full = absurd e

-- where no reader is left, none is found
none_left : (memory : Bool) (v : RwLock) (upgrade : Bool) (f : Found) → Finds memory Action.Load f v → readers v ≡ 0 → next_of (AwaitNoReaders upgrade) f ≡ go_to LeaveNoReaders
none_left memory v upgrade NoneLeft e none = refl
none_left memory v upgrade SomeLeft e none = absurd (omega arith)
none_left memory v upgrade _ e none = absurd e

none_found : (memory : Bool) (v : RwLock) (f : Found) → Finds memory Action.Load f v → readers v ≡ 0 → next_of (LookUnlisted true) f ≡ ends Got Writing
none_found memory v NoneLeft e none = refl
none_found memory v SomeLeft e none = absurd (omega arith)
none_found memory v _ e none = absurd e

-- a party whose place is not Out is one of the lock's
known_reader : (ps : List Place) (p : ℕ) → waits_to_read (place_at ps p) ≡ true → p < length ps
known_reader [] p h = absurd (cc)
known_reader (x ∷ xs) zero h = omega arith
known_reader (x ∷ xs) (suc p) h = let more : p < length xs = known_reader xs p h in omega arith

known_writer : (ps : List Place) (p : ℕ) → looks_for_readers (place_at ps p) ≡ true → p < length ps
known_writer [] p h = absurd (cc)
known_writer (x ∷ xs) zero h = omega arith
known_writer (x ∷ xs) (suc p) h = let more : p < length xs = known_writer xs p h in omega arith

reader_at : (x : Place) → waits_to_read x ≡ true → x ≡ AskNoWriter
reader_at AskNoWriter h = refl
reader_at _ h = absurd (cc)

pub writer_at : (x : Place) → waits_to_write x ≡ true → (upgrade : Bool) × (x ≡ AwaitNoReaders upgrade)
writer_at (AwaitNoReaders upgrade) h = (upgrade, refl)
writer_at _ h = absurd (cc)

looker_at : (x : Place) → looks_for_readers x ≡ true → ((upgrade : Bool) × (x ≡ AwaitNoReaders upgrade)) ⊎ (x ≡ LookUnlisted true)
looker_at (AwaitNoReaders upgrade) h = inl (upgrade, refl)
looker_at (LookUnlisted true) h = inr refl
looker_at _ h = absurd (cc)

-- the poll of a pending party goes on where it stands
module _ (memory : Bool) (p : ℕ) (e : End) (new : RwLock) where
  reader_goes_on : (v : RwLock) → place_at v.places p ≡ AskNoWriter → PollsAlone memory p e new v → GoesOnAlone memory p e new v
  reader_goes_on v here (at_once old starving to a) = last v starving to (rw here (rw here at a))
  reader_goes_on v here (begun old mid starving a to acts on) = step v mid starving a to (rw here (rw here at acts)) on

  writer_goes_on : (v : RwLock) (upgrade : Bool) → place_at v.places p ≡ AwaitNoReaders upgrade → PollsAlone memory p e new v → GoesOnAlone memory p e new v
  writer_goes_on v upgrade here (at_once old starving to a) = last v starving to (rw here (rw here at a))
  writer_goes_on v upgrade here (begun old mid starving a to acts on) = step v mid starving a to (rw here (rw here at acts)) on

  upgrade_goes_on : (v : RwLock) → place_at v.places p ≡ LookUnlisted true → PollsAlone memory p e new v → GoesOnAlone memory p e new v
  upgrade_goes_on v here (at_once old starving to a) = last v starving to (rw here (rw here at a))
  upgrade_goes_on v here (begun old mid starving a to acts on) = step v mid starving a to (rw here (rw here at acts)) on

  reader_polls : (v : RwLock) → marked v ≡ 0 → readers v < v.limit → waits_to_read (place_at v.places p) ≡ true → is_marked_at (is_party p) v.no_writer ≡ true → PollsAlone memory p e new v → Took p Reading e new
  reader_polls v free below waits told polls =
      let here : place_at v.places p ≡ AskNoWriter = reader_at (place_at v.places p) waits in
      let one = unfolds memory p v e new AskNoWriter v (at_start memory p v AskNoWriter (known_reader v.places p waits) here) (reader_goes_on v here polls) in
      let passed = along memory p v e new AskNoWriter v one (go_to PassOn) (one.acts.next_is ∙ asked p v.no_writer one.mid.no_writer one.acts.found one.acts.no_writer told) in
      let two = unfolds memory p v e new PassOn one.mid passed.1 passed.0 in
      let entering = along memory p v e new PassOn one.mid two (go_to (EnterRead true)) two.acts.next_is in
      let three = unfolds memory p v e new (EnterRead true) two.mid entering.1 entering.0 in
      let was_marked : marks (place_at v.places p) ≡ 0 = ap marks here in
      let was_reading : reads (place_at v.places p) ≡ 0 = ap reads here in
      let free_now : marked two.mid ≡ 0 = omega (arith, entering.1.sums marks) in
      let below_now : readers two.mid < two.mid.limit = omega (arith, entering.1.sums reads, entering.1.limit) in
      let done = along memory p v e new (EnterRead true) two.mid three (ends Got Reading) (three.acts.next_is ∙ entered memory two.mid three.acts.found three.acts.finds free_now below_now) in
      took memory p v e new Reading three.mid done.0 done.1

  reader_refused : (v : RwLock) → marked v ≡ 0 → v.limit ≤ readers v → waits_to_read (place_at v.places p) ≡ true → is_marked_at (is_party p) v.no_writer ≡ true → PollsAlone memory p e new v → e ≡ Refused Readers
  reader_refused v free full waits told polls =
      let here : place_at v.places p ≡ AskNoWriter = reader_at (place_at v.places p) waits in
      let one = unfolds memory p v e new AskNoWriter v (at_start memory p v AskNoWriter (known_reader v.places p waits) here) (reader_goes_on v here polls) in
      let passed = along memory p v e new AskNoWriter v one (go_to PassOn) (one.acts.next_is ∙ asked p v.no_writer one.mid.no_writer one.acts.found one.acts.no_writer told) in
      let two = unfolds memory p v e new PassOn one.mid passed.1 passed.0 in
      let entering = along memory p v e new PassOn one.mid two (go_to (EnterRead true)) two.acts.next_is in
      let three = unfolds memory p v e new (EnterRead true) two.mid entering.1 entering.0 in
      let was_marked : marks (place_at v.places p) ≡ 0 = ap marks here in
      let was_reading : reads (place_at v.places p) ≡ 0 = ap reads here in
      let free_now : marked two.mid ≡ 0 = omega (arith, entering.1.sums marks) in
      let full_now : two.mid.limit ≤ readers two.mid = omega (arith, entering.1.sums reads, entering.1.limit, full) in
      let refusing = along memory p v e new (EnterRead true) two.mid three (go_to (Place.RefuseNotify Readers)) (three.acts.next_is ∙ met memory two.mid three.acts.found three.acts.finds free_now full_now) in
      let four = unfolds memory p v e new (Place.RefuseNotify Readers) three.mid refusing.1 refusing.0 in
      let done = along memory p v e new (Place.RefuseNotify Readers) three.mid four (ends (Refused Readers) (Made Wanted.Read)) four.acts.next_is in
      done.0.0

  listed_polls : (v : RwLock) (upgrade : Bool) → readers v ≡ 0 → p < length v.places → place_at v.places p ≡ AwaitNoReaders upgrade → PollsAlone memory p e new v → Took p Writing e new
  listed_polls v upgrade none known here polls =
      let one = unfolds memory p v e new (AwaitNoReaders upgrade) v (at_start memory p v (AwaitNoReaders upgrade) known here) (writer_goes_on v upgrade here polls) in
      let leaving = along memory p v e new (AwaitNoReaders upgrade) v one (go_to LeaveNoReaders) (one.acts.next_is ∙ none_left memory v upgrade one.acts.found one.acts.finds none) in
      let two = unfolds memory p v e new LeaveNoReaders one.mid leaving.1 leaving.0 in
      let done = along memory p v e new LeaveNoReaders one.mid two (ends Got Writing) two.acts.next_is in
      took memory p v e new Writing two.mid done.0 done.1

  unlisted_polls : (v : RwLock) → readers v ≡ 0 → p < length v.places → place_at v.places p ≡ LookUnlisted true → PollsAlone memory p e new v → Took p Writing e new
  unlisted_polls v none known here polls =
      let one = unfolds memory p v e new (LookUnlisted true) v (at_start memory p v (LookUnlisted true) known here) (upgrade_goes_on v here polls) in
      let done = along memory p v e new (LookUnlisted true) v one (ends Got Writing) (one.acts.next_is ∙ none_found memory v one.acts.found one.acts.finds none) in
      took memory p v e new Writing one.mid done.0 done.1

  writer_polls : (v : RwLock) → readers v ≡ 0 → looks_for_readers (place_at v.places p) ≡ true → PollsAlone memory p e new v → Took p Writing e new
  writer_polls v none looks polls =
      let known = known_writer v.places p looks in
      elim (looker_at (place_at v.places p) looks) as (λ _. Took p Writing e new) [
        | inl at ↦ listed_polls v at.0 none known at.1 polls
        | inr here ↦ unlisted_polls v none known here polls
      ]

-- a listed party that rests is pending there
pending_w : (x : Place) → is_resting x ≡ true → 0 < in_no_writer x → waits_to_read x ≡ true
pending_w AskNoWriter h there = refl
pending_w Out h there = absurd (omega arith)
pending_w (Made w) h there = absurd (omega arith)
pending_w Reading h there = absurd (omega arith)
pending_w Upgradable h there = absurd (omega arith)
pending_w Writing h there = absurd (omega arith)
pending_w (WaitTurn q) h there = absurd (omega arith)
pending_w (AwaitNoReaders upgrade) h there = absurd (omega arith)
pending_w (LookUnlisted upgrade) h there = absurd (omega arith)
pending_w _ h there = absurd (cc)

pending_r : (x : Place) → is_resting x ≡ true → 0 < in_no_readers x → waits_to_write x ≡ true
pending_r (AwaitNoReaders upgrade) h there = refl
pending_r AskNoWriter h there = absurd (omega arith)
pending_r Out h there = absurd (omega arith)
pending_r (Made w) h there = absurd (omega arith)
pending_r Reading h there = absurd (omega arith)
pending_r Upgradable h there = absurd (omega arith)
pending_r Writing h there = absurd (omega arith)
pending_r (WaitTurn q) h there = absurd (omega arith)
pending_r (LookUnlisted upgrade) h there = absurd (omega arith)
pending_r _ h there = absurd (cc)

pending_t : (x : Place) (t : TurnCourse) → is_resting x ≡ true → fits_turn x t ≡ true → 0 < listed t → waits_for_turn x ≡ true
pending_t (WaitTurn q) t h fits there = refl
pending_t AskNoWriter t h fits there = absurd (omega (arith, there, out_unlisted t fits))
pending_t Out t h fits there = absurd (omega (arith, there, out_unlisted t fits))
pending_t (Made w) t h fits there = absurd (omega (arith, there, out_unlisted t fits))
pending_t Reading t h fits there = absurd (omega (arith, there, out_unlisted t fits))
pending_t Upgradable t h fits there = absurd (omega (arith, there, holding_unlisted t fits))
pending_t Writing t h fits there = absurd (omega (arith, there, holding_unlisted t fits))
pending_t (AwaitNoReaders upgrade) t h fits there = absurd (omega (arith, there, holding_unlisted t fits))
pending_t (LookUnlisted upgrade) t h fits there = absurd (omega (arith, there, holding_unlisted t fits))
pending_t _ t h fits there = absurd (cc)

-- what polls do that are carried out alone
pub solo_polls : (v : RwLock) → IsRwLock v → SoloPolls v
solo_polls v laws = record {
  reads = λ free below memory p e new called polls. reader_polls memory p e new v free below called.0 called.1 polls;
  reads_full = λ free full memory p e new called polls. reader_refused memory p e new v free full called.0 called.1 polls;
  writes = λ none memory p e new looks polls. writer_polls memory p e new v none looks polls;
  takes_turn_or_gives_way = λ free p e new called polls. either true p e new v laws free called refl polls;
  takes_turn = λ free memory p e new called enough why polls. must_take memory p e new v laws free called enough why polls;
  behind = λ rest free p e new called plain some polls. must_give_way true p e new v laws free called refl rest plain some polls;
  some_reader_called = λ rest free some.
      let found = first_marked v.no_writer laws.in_order_no_writer (laws.wakes_no_writer rest free some) in
      let there : 0 < in_no_writer (place_at v.places found.0) = omega (arith, laws.owners_no_writer found.0, found.2) in
      (found.0, (pending_w (place_at v.places found.0) (rest found.0) there, found.1));
  some_writer_called = λ rest free some.
      let found = first_marked v.no_readers laws.in_order_no_readers (laws.wakes_no_readers rest free some) in
      let there : 0 < in_no_readers (place_at v.places found.0) = omega (arith, laws.owners_no_readers found.0, found.2) in
      (found.0, (pending_r (place_at v.places found.0) (rest found.0) there, found.1));
  some_turn_called = λ rest free some.
      let found = first_marked v.turn.entries laws.turn.in_order (laws.wakes_turn rest free some) in
      let there : 0 < listed (turn_at v.turn.courses found.0) = omega (arith, laws.turn.owners found.0, found.2) in
      (found.0, (pending_t (place_at v.places found.0) (turn_at v.turn.courses found.0) (rest found.0) (laws.in_turn found.0) there, found.1));
}
