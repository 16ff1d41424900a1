-- What always holds, as callers see it.
use Rattle.world_rwlock.proofs.Prelude.{◌≡◌, ℕ, ◌+◌, ◌<◌, ◌≤◌, suc, true, List, [], ◌∷◌, length, refl, arith, ◌∙◌, sum_by, marked_count, IsMarkedFirst, Queue, TurnCourse, listed, rests_in_turn, Mutex, turn_at, IsMutex, IsTurnAtRest, out_rests, holding_rests, waiting_rests, out_unlisted, holding_unlisted, listed_once, Word, Place, Out, Made, Reading, Upgradable, Writing, LookNoWriter, AskNoWriter, LeaveNoWriter, RefuseLeave, CancelRead, WaitTurn, LookNoReaders, AskNoReaders, AwaitNoReaders, LookUnlisted, LeaveNoReaders, CancelAwait, bit, reads, marks, only_turns, writes, in_no_writer, in_no_readers, fits_turn, is_resting, RwLock, IsMachine, place_at, IsRwLock}
use Rattle.world_base.specs.queue.Debts.{Rests, AllRest}
use Rattle.world_base.proofs.of_queue.Debts.{paid_at_rest}
use Rattle.world_rwlock.specs.machine.Roles.{for_no_writer, for_no_readers}
use Rattle.world_rwlock.proofs.of_machine.laws.Places.{turned, share, shares}
use Rattle.world_rwlock.proofs.of_machine.laws.Machines.{one_turn}

-- a resting party owes nothing, and waits where it is listed
rests_w : (x : Place) → is_resting x ≡ true → Rests for_no_writer x
rests_w Out h = (refl, refl)
rests_w (Made w) h = (refl, refl)
rests_w Reading h = (refl, refl)
rests_w Upgradable h = (refl, refl)
rests_w Writing h = (refl, refl)
rests_w AskNoWriter h = (refl, refl)
rests_w (WaitTurn p) h = (refl, refl)
rests_w (AwaitNoReaders upgrade) h = (refl, refl)
rests_w (LookUnlisted upgrade) h = (refl, refl)
rests_w _ h = absurd (cc)

rests_r : (x : Place) → is_resting x ≡ true → Rests for_no_readers x
rests_r Out h = (refl, refl)
rests_r (Made w) h = (refl, refl)
rests_r Reading h = (refl, refl)
rests_r Upgradable h = (refl, refl)
rests_r Writing h = (refl, refl)
rests_r AskNoWriter h = (refl, refl)
rests_r (WaitTurn p) h = (refl, refl)
rests_r (AwaitNoReaders upgrade) h = (refl, refl)
rests_r (LookUnlisted upgrade) h = (refl, refl)
rests_r _ h = absurd (cc)

-- and it rests in the turn
pub rests_t : (x : Place) (t : TurnCourse) → is_resting x ≡ true → fits_turn x t ≡ true → rests_in_turn t ≡ true
rests_t Out t h e = out_rests t e
rests_t (Made w) t h e = out_rests t e
rests_t Reading t h e = out_rests t e
rests_t Upgradable t h e = holding_rests t e
rests_t Writing t h e = holding_rests t e
rests_t AskNoWriter t h e = out_rests t e
rests_t (WaitTurn p) t h e = waiting_rests t e
rests_t (AwaitNoReaders upgrade) t h e = holding_rests t e
rests_t (LookUnlisted upgrade) t h e = holding_rests t e
rests_t _ t h e = absurd (cc)

all_w : (ps : List Place) → ((p : ℕ) → is_resting (place_at ps p) ≡ true) → AllRest for_no_writer ps
all_w [] h = tt
all_w (x ∷ xs) h = (rests_w x (h 0), all_w xs (λ p. h (suc p)))

all_r : (ps : List Place) → ((p : ℕ) → is_resting (place_at ps p) ≡ true) → AllRest for_no_readers ps
all_r [] h = tt
all_r (x ∷ xs) h = (rests_r x (h 0), all_r xs (λ p. h (suc p)))

all_t : (ps : List Place) (ts : List TurnCourse) → length ts ≡ length ps → ((p : ℕ) → fits_turn (place_at ps p) (turn_at ts p) ≡ true) → ((p : ℕ) → is_resting (place_at ps p) ≡ true) → IsTurnAtRest ts
all_t ps [] e link rest = tt
all_t [] (t ∷ ts) e link rest = absurd (omega arith)
all_t (x ∷ xs) (t ∷ ts) e link rest = (rests_t x t (rest 0) (link 0), all_t xs ts (omega arith) (λ p. link (suc p)) (λ p. rest (suc p)))

-- a party stands in one list at most
one_list : (x : Place) (t : TurnCourse) → fits_turn x t ≡ true → in_no_writer x + in_no_readers x + listed t ≤ 1
one_list (LookNoWriter told) t h = omega (arith, out_unlisted t h)
one_list AskNoWriter t h = omega (arith, out_unlisted t h)
one_list LeaveNoWriter t h = omega (arith, out_unlisted t h)
one_list (RefuseLeave told) t h = omega (arith, out_unlisted t h)
one_list CancelRead t h = omega (arith, out_unlisted t h)
one_list (LookNoReaders upgrade) t h = omega (arith, holding_unlisted t h)
one_list (AskNoReaders upgrade) t h = omega (arith, holding_unlisted t h)
one_list (AwaitNoReaders upgrade) t h = omega (arith, holding_unlisted t h)
one_list LeaveNoReaders t h = omega (arith, holding_unlisted t h)
one_list CancelAwait t h = omega (arith, holding_unlisted t h)
one_list _ t h = omega (arith, listed_once t)

module _ (w : Word) (ps : List Place) (l m : Queue) (t : Mutex) (i : IsMachine w ps l m t) (mutex : IsMutex t) where
  abbrev the_lock : RwLock
  the_lock = record { places = ps; no_writer = l.entries; no_readers = m.entries; turn = t; limit = w.limit }

  -- nobody reads who isn't the one that writes
  apart : (p q : ℕ) → writes (place_at ps p) ≡ 1 → reads (place_at ps q) ≡ 0
  apart p q writing =
      let some : 0 < sum_by writes ps = omega (arith, share writes refl ps p) in
      let none : w.readers ≡ 0 = i.sound.alone some in
      omega (arith, share reads refl ps q, i.sound.readers)

  pub is_rwlock : IsMarkedFirst l.entries → IsMarkedFirst m.entries → IsRwLock the_lock
  is_rwlock order_w order_r = record {
    one_turn = one_turn w ps l m t i mutex;
    turns_apart = λ p q other. omega (arith, one_turn w ps l m t i mutex, shares only_turns refl ps p q other, shares marks refl ps p q other);
    held = λ p. turned (place_at ps p) (turn_at t.courses p) (i.in_turn p);
    in_turn = i.in_turn;
    turn = mutex;
    as_many = i.as_many;
    alone = λ some. i.sound.readers ∙ i.sound.alone some;
    writes_apart = apart;
    owners_no_writer = i.no_writer;
    owners_no_readers = i.no_readers;
    one_entry = λ p. omega (arith, i.no_writer p, i.no_readers p, mutex.owners p, one_list (place_at ps p) (turn_at t.courses p) (i.in_turn p));
    in_order_no_writer = order_w;
    in_order_no_readers = order_r;
    one_told_no_writer = i.one_told_w;
    one_told_no_readers = i.one_told_r;
    owed_no_writer = λ free some. i.sound.no_writer.owed (omega (arith, free, i.sound.writer)) some;
    owed_no_readers = λ free some. i.sound.no_readers.owed (omega (arith, free, i.sound.readers)) some;
    wakes_no_writer = λ rest free some. paid_at_rest for_no_writer (bit w.writer ≡ 0) ps (length l.entries) (marked_count l.entries) (all_w ps rest) i.sound.no_writer.in_list i.sound.no_writer.owed (omega (arith, i.sound.writer)) some;
    wakes_no_readers = λ rest free some. paid_at_rest for_no_readers (w.readers ≡ 0) ps (length m.entries) (marked_count m.entries) (all_r ps rest) i.sound.no_readers.in_list i.sound.no_readers.owed (omega (arith, i.sound.readers)) some;
    wakes_turn = λ rest free some. mutex.wakes (all_t ps t.courses i.as_many i.in_turn rest) free some;
  }
