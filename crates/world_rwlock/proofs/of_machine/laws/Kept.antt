-- Each action keeps what always holds of the numbers.
use Rattle.world_rwlock.proofs.Prelude.{◌≡◌, ℕ, ◌+◌, ◌-◌, ◌<◌, ◌≤◌, zero, suc, true, nat_eq, List, length, refl, ap, arith, nat_tests, Entry, marked_count, Word, Place, Action, Found, Done, Writer, Full, NoneLeft, SomeLeft, Yes, No, bit, reads, marks, only_turns, writes, in_no_writer, waits_no_writer, owes_no_writer, in_no_readers, waits_no_readers, owes_no_readers, OnWord, OnNoWriter, OnNoReaders, Counts, tally_of}
use Rattle.world_base.specs.queue.Debts.{IsOwed}
use Rattle.world_base.proofs.of_queue.Debts.{debt_kept}
use Rattle.sync_program.specs.declared.rwlock.Found.TheVariants.{NotFree}
use Rattle.world_rwlock.specs.machine.Tally.{IsSound}
use Rattle.world_rwlock.proofs.of_machine.laws.Places.{IsCounted}
use Rattle.world_rwlock.proofs.of_machine.laws.Steps.{on, off, sets, clears, in_w, out_w, in_r, out_r, taken_w, taken_r, keeps, Fits}
use Rattle.world_rwlock.proofs.of_machine.laws.Lines.{Line, told}

-- one party goes from x to y
pub record Moves (x y : Place) (a b : Counts) : Type 0 where
  pub reading : b.reading + reads x ≡ a.reading + reads y
  pub marking : b.marking + marks x ≡ a.marking + marks y
  pub writing : b.writing + writes x ≡ a.writing + writes y
  pub standing_w : b.no_writer.listed + in_no_writer x ≡ a.no_writer.listed + in_no_writer y
  pub waiting_w : b.no_writer.waiting + waits_no_writer x ≡ a.no_writer.waiting + waits_no_writer y
  pub owing_w : b.no_writer.owing + owes_no_writer x ≡ a.no_writer.owing + owes_no_writer y
  pub standing_r : b.no_readers.listed + in_no_readers x ≡ a.no_readers.listed + in_no_readers y
  pub waiting_r : b.no_readers.waiting + waits_no_readers x ≡ a.no_readers.waiting + waits_no_readers y
  pub owing_r : b.no_readers.owing + owes_no_readers x ≡ a.no_readers.owing + owes_no_readers y
  pub owes_itself_w : owes_no_writer y ≤ b.no_writer.owing
  pub owes_itself_r : owes_no_readers y ≤ b.no_readers.owing
  pub turns_itself : only_turns x ≤ a.turning
  pub marks_itself : marks x ≤ a.marking

none : (n : ℕ) → nat_eq n 0 ≡ true → n ≡ 0
none n h = grind (arith, nat_tests)

stays : (x y u v : ℕ) → keeps x y u v ≡ true → v ≡ 0 → (u ≡ 0) × (y ≤ x)
stays x y u zero h e = let z : (y - x) + u ≡ 0 = none ((y - x) + u) h in (omega arith, omega arith)
stays x y u (suc v) h e = absurd (omega arith)

-- the word follows what the action adds and takes away
module _ (v w : Word) where
  rd : {u : Word} → w ≡ u → w.readers ≡ u.readers
  rd e = ap (λ w. w.readers) e

  bt : {u : Word} → w ≡ u → bit w.writer ≡ bit u.writer
  bt e = ap (λ w. bit w.writer) e

  pub record Follows (a : Action) (f : Found) : Type 0 where
    pub readers : w.readers + off a f ≡ v.readers + on a f
    pub writer : bit w.writer + clears a f ≡ bit v.writer + sets a f

  pub follows : (a : Action) (f : Found) → OnWord a f v w → (0 < sets a f → bit v.writer ≡ 0) → (0 < clears a f → bit v.writer ≡ 1) → Follows a f
  follows Action.Nothing Done e s c = record { readers = omega (arith, rd e); writer = omega (arith, bt e) }
  follows Action.Nothing _ e s c = absurd e
  follows Action.Read Done e s c = record { readers = omega (arith, rd e.2); writer = omega (arith, bt e.2, ap bit e.0) }
  follows Action.Read Writer e s c = record { readers = omega (arith, rd e.1); writer = omega (arith, bt e.1) }
  follows Action.Read Full e s c = record { readers = omega (arith, rd e.2); writer = omega (arith, bt e.2) }
  follows Action.Read _ e s c = absurd e
  follows Action.Add Done e s c = record { readers = omega (arith, rd e.1); writer = omega (arith, bt e.1) }
  follows Action.Add Full e s c = record { readers = omega (arith, rd e.1); writer = omega (arith, bt e.1) }
  follows Action.Add _ e s c = absurd e
  follows Action.Off NoneLeft e s c = record { readers = omega (arith, rd e.1, e.0); writer = omega (arith, bt e.1) }
  follows Action.Off SomeLeft e s c = record { readers = omega (arith, e.1); writer = omega (arith, bt e.2) }
  follows Action.Off _ e s c = absurd e
  follows Action.Load NoneLeft e s c = record { readers = omega (arith, rd e.1); writer = omega (arith, bt e.1) }
  follows Action.Load SomeLeft e s c = record { readers = omega (arith, rd e.1); writer = omega (arith, bt e.1) }
  follows Action.Load _ e s c = absurd e
  follows Action.Mark NoneLeft e s c = record { readers = omega (arith, rd e.1); writer = omega (arith, bt e.1, s (omega arith)) }
  follows Action.Mark SomeLeft e s c = record { readers = omega (arith, rd e.1); writer = omega (arith, bt e.1, s (omega arith)) }
  follows Action.Mark _ e s c = absurd e
  follows Action.TryWrite Done e s c = record { readers = omega (arith, rd e.2); writer = omega (arith, bt e.2, ap bit e.0) }
  follows Action.TryWrite NotFree e s c = record { readers = omega (arith, rd e.1); writer = omega (arith, bt e.1) }
  follows Action.TryWrite _ e s c = absurd e
  follows Action.TryUpgrade Done e s c = record { readers = omega (arith, rd e.2, e.1); writer = omega (arith, bt e.2, ap bit e.0) }
  follows Action.TryUpgrade NotFree e s c = record { readers = omega (arith, rd e.1); writer = omega (arith, bt e.1) }
  follows Action.TryUpgrade _ e s c = absurd e
  follows Action.Upgrade Done e s c = record { readers = omega (arith, e.0); writer = omega (arith, bt e.1, s (omega arith)) }
  follows Action.Upgrade _ e s c = absurd e
  follows Action.Down Done e s c = record { readers = omega (arith, rd e); writer = omega (arith, bt e, c (omega arith)) }
  follows Action.Down _ e s c = absurd e
  follows Action.Unmark Done e s c = record { readers = omega (arith, rd e); writer = omega (arith, bt e, c (omega arith)) }
  follows Action.Unmark _ e s c = absurd e
  follows _ f e s c = record { readers = omega (arith, rd e); writer = omega (arith, bt e) }

module _ (p : ℕ) (v w : Word) (a b : Counts) (x y : Place) (mv : Moves x y a b) (ca : IsCounted a) (cb : IsCounted b) (turn : a.turning + a.marking ≤ 1) where
  module _ (l m k : List (Entry ℕ)) (i : IsSound (tally_of v l k) a) where
    -- what was owed to the list of those that wait for no writer is still owed
    goes_on_w : (c : Action) (f : Found) → keeps (waits_no_writer x) (waits_no_writer y) (owes_no_writer x) (owes_no_writer y) ≡ true → taken_w c f ≡ 0 → sets c f ≡ 0 → clears c f ≡ 0
        → Line p (in_w c f) (out_w c f) (taken_w c f) l m → Follows v w c f
        → b.no_writer.listed ≡ length m → IsOwed (bit w.writer ≡ 0) b.no_writer.waiting b.no_writer.owing (marked_count m)
    goes_on_w c f h t s k line fo listed free some =
        debt_kept (bit v.writer ≡ 0) (waits_no_writer x) (waits_no_writer y) (owes_no_writer x) (owes_no_writer y) a.no_writer.waiting b.no_writer.waiting a.no_writer.owing b.no_writer.owing (marked_count l) (marked_count m)
        (stays _ _ _ _ h) mv.waiting_w mv.owing_w mv.owes_itself_w (λ some_marked. (let c = line.carry some_marked (omega (arith, cb.waits_w, listed)) in omega (arith, t))) i.no_writer.owed (omega (arith, fo.writer, s, k)) some

    owed_w : (c : Action) (f : Found) → OnWord c f v w → OnNoWriter p c f l m → Fits c f x y → Line p (in_w c f) (out_w c f) (taken_w c f) l m → Follows v w c f
        → b.no_writer.listed ≡ length m → IsOwed (bit w.writer ≡ 0) b.no_writer.waiting b.no_writer.owing (marked_count m)
    owed_w Action.Read Done e el g line fo listed = goes_on_w Action.Read Done g.owed_w refl refl refl line fo listed
    owed_w Action.Read Writer e el g line fo listed = λ free some. absurd (omega (arith, ap bit e.0, fo.writer))
    owed_w Action.Read Full e el g line fo listed = goes_on_w Action.Read Full g.owed_w refl refl refl line fo listed
    owed_w Action.Read _ e el g line fo listed = absurd e
    owed_w Action.Mark f e el g line fo listed = λ free some. absurd (omega (arith, fo.writer))
    owed_w Action.TryWrite Done e el g line fo listed = λ free some. absurd (omega (arith, fo.writer))
    owed_w Action.TryWrite NotFree e el g line fo listed = goes_on_w Action.TryWrite NotFree g.owed_w refl refl refl line fo listed
    owed_w Action.TryWrite _ e el g line fo listed = absurd e
    owed_w Action.TryUpgrade Done e el g line fo listed = λ free some. absurd (omega (arith, fo.writer))
    owed_w Action.TryUpgrade NotFree e el g line fo listed = goes_on_w Action.TryUpgrade NotFree g.owed_w refl refl refl line fo listed
    owed_w Action.TryUpgrade _ e el g line fo listed = absurd e
    owed_w Action.Upgrade f e el g line fo listed = λ free some. absurd (omega (arith, fo.writer))
    owed_w Action.Down f e el g line fo listed = λ free some. omega (arith, g.owed_w, mv.owes_itself_w)
    owed_w Action.Unmark f e el g line fo listed = λ free some. omega (arith, g.owed_w, mv.owes_itself_w)
    owed_w Action.AskNoWriter Yes e el g line fo listed = λ free some. omega (arith, g.owed_w, mv.owes_itself_w)
    owed_w Action.AskNoWriter No e el g line fo listed = goes_on_w Action.AskNoWriter No g.owed_w refl refl refl line fo listed
    owed_w Action.AskNoWriter _ e el g line fo listed = absurd el
    owed_w Action.NotifyNoWriter Done e el g line fo listed = λ free some. (let now : 0 < marked_count m = told p l m el (omega (arith, cb.waits_w, listed)) in omega arith)
    owed_w Action.NotifyNoWriter _ e el g line fo listed = absurd el
    owed_w c f e el g line fo listed = goes_on_w c f g.owed_w refl refl refl line fo listed

  module _ (l m k : List (Entry ℕ)) (i : IsSound (tally_of v k l) a) where
    -- and to the list of those that wait for no readers
    goes_on_r : (c : Action) (f : Found) → keeps (waits_no_readers x) (waits_no_readers y) (owes_no_readers x) (owes_no_readers y) ≡ true → taken_r c f ≡ 0 → on c f ≡ 0 → off c f ≡ 0
        → Line p (in_r c f) (out_r c f) (taken_r c f) l m → Follows v w c f
        → b.no_readers.listed ≡ length m → IsOwed (w.readers ≡ 0) b.no_readers.waiting b.no_readers.owing (marked_count m)
    goes_on_r c f h t s k line fo listed free some =
        debt_kept (v.readers ≡ 0) (waits_no_readers x) (waits_no_readers y) (owes_no_readers x) (owes_no_readers y) a.no_readers.waiting b.no_readers.waiting a.no_readers.owing b.no_readers.owing (marked_count l) (marked_count m)
        (stays _ _ _ _ h) mv.waiting_r mv.owing_r mv.owes_itself_r (λ some_marked. (let c = line.carry some_marked (omega (arith, cb.waits_r, listed)) in omega (arith, t))) i.no_readers.owed (omega (arith, fo.readers, s, k)) some

    owed_r : (c : Action) (f : Found) → OnWord c f v w → OnNoReaders p c f l m → Fits c f x y → Line p (in_r c f) (out_r c f) (taken_r c f) l m → Follows v w c f
        → b.no_readers.listed ≡ length m → IsOwed (w.readers ≡ 0) b.no_readers.waiting b.no_readers.owing (marked_count m)
    owed_r Action.Read Done e el g line fo listed = λ free some. absurd (omega (arith, fo.readers))
    owed_r Action.Read Writer e el g line fo listed = goes_on_r Action.Read Writer g.owed_r refl refl refl line fo listed
    owed_r Action.Read Full e el g line fo listed = goes_on_r Action.Read Full g.owed_r refl refl refl line fo listed
    owed_r Action.Read _ e el g line fo listed = absurd e
    owed_r Action.Add Done e el g line fo listed = λ free some. absurd (omega (arith, fo.readers))
    owed_r Action.Add Full e el g line fo listed = goes_on_r Action.Add Full g.owed_r refl refl refl line fo listed
    owed_r Action.Add _ e el g line fo listed = absurd e
    owed_r Action.Down Done e el g line fo listed = λ free some. absurd (omega (arith, fo.readers))
    owed_r Action.Down _ e el g line fo listed = absurd e
    owed_r Action.Off NoneLeft e el g line fo listed = λ free some. omega (arith, g.owed_r, mv.owes_itself_r)
    owed_r Action.Off SomeLeft e el g line fo listed = λ free some. absurd (omega (arith, e.0))
    owed_r Action.Off _ e el g line fo listed = absurd e
    owed_r Action.Load NoneLeft e el g line fo listed = goes_on_r Action.Load NoneLeft g.owed_r refl refl refl line fo listed
    owed_r Action.Load SomeLeft e el g line fo listed = λ free some. absurd (omega (arith, e.0, fo.readers))
    owed_r Action.Load _ e el g line fo listed = absurd e
    owed_r Action.Mark f e el g line fo listed = λ free some. absurd (omega (arith, g.owed_r, g.set_by_turn, mv.waiting_r, mv.turns_itself, ca.waits_marking, turn))
    owed_r Action.TryWrite Done e el g line fo listed = λ free some. absurd (omega (arith, g.owed_r, g.set_by_turn, mv.waiting_r, mv.turns_itself, ca.waits_marking, turn))
    owed_r Action.TryWrite NotFree e el g line fo listed = goes_on_r Action.TryWrite NotFree g.owed_r refl refl refl line fo listed
    owed_r Action.TryWrite _ e el g line fo listed = absurd e
    owed_r Action.TryUpgrade Done e el g line fo listed = λ free some. absurd (omega (arith, g.owed_r, g.set_by_turn, mv.waiting_r, mv.turns_itself, ca.waits_marking, turn))
    owed_r Action.TryUpgrade NotFree e el g line fo listed = goes_on_r Action.TryUpgrade NotFree g.owed_r refl refl refl line fo listed
    owed_r Action.TryUpgrade _ e el g line fo listed = absurd e
    owed_r Action.Upgrade f e el g line fo listed = λ free some. absurd (omega (arith, g.owed_r, g.set_by_turn, mv.waiting_r, mv.turns_itself, ca.waits_marking, turn))
    owed_r Action.AskNoReaders Yes e el g line fo listed = λ free some. absurd (omega (arith, g.owed_r.0, g.owed_r.1, mv.waiting_r, ca.waits_marking, turn))
    owed_r Action.AskNoReaders No e el g line fo listed = goes_on_r Action.AskNoReaders No g.owed_r refl refl refl line fo listed
    owed_r Action.AskNoReaders _ e el g line fo listed = absurd el
    owed_r Action.NotifyNoReaders Done e el g line fo listed = λ free some. (let now : 0 < marked_count m = told p l m el (omega (arith, cb.waits_r, listed)) in omega arith)
    owed_r Action.NotifyNoReaders _ e el g line fo listed = absurd el
    owed_r c f e el g line fo listed = goes_on_r c f g.owed_r refl refl refl line fo listed

  module _ (l k : List (Entry ℕ)) (i : IsSound (tally_of v l k) a) where
    -- where nobody begins to write, and no reader comes
    goes_on_alone : (c : Action) (f : Found) → writes y - writes x ≡ 0 → on c f ≡ 0 → Follows v w c f → 0 < b.writing → w.readers ≡ 0
    goes_on_alone c f g h fo some = (let none : v.readers ≡ 0 = i.alone (omega (arith, mv.writing)) in omega (arith, fo.readers))

    alone : (c : Action) (f : Found) → OnWord c f v w → Fits c f x y → Follows v w c f → b.marking ≡ bit w.writer → 0 < b.writing → w.readers ≡ 0
    alone Action.Read Done e g fo bears some = absurd (omega (arith, ap bit e.0, fo.writer, cb.writes_marking))
    alone Action.Read Writer e g fo bears some = goes_on_alone Action.Read Writer g.alone refl fo some
    alone Action.Read Full e g fo bears some = goes_on_alone Action.Read Full g.alone refl fo some
    alone Action.Read _ e g fo bears some = absurd e
    alone Action.Add Done e g fo bears some = absurd (omega (arith, fo.writer, cb.writes_marking, i.writer, turn, g.alone, mv.turns_itself))
    alone Action.Add Full e g fo bears some = goes_on_alone Action.Add Full g.alone refl fo some
    alone Action.Add _ e g fo bears some = absurd e
    alone Action.Load NoneLeft e g fo bears some = omega (arith, e.0, fo.readers)
    alone Action.Load SomeLeft e g fo bears some = goes_on_alone Action.Load SomeLeft g.alone refl fo some
    alone Action.Load _ e g fo bears some = absurd e
    alone Action.Mark NoneLeft e g fo bears some = omega (arith, e.0, fo.readers)
    alone Action.Mark SomeLeft e g fo bears some = goes_on_alone Action.Mark SomeLeft g.alone refl fo some
    alone Action.Mark _ e g fo bears some = absurd e
    alone Action.TryWrite Done e g fo bears some = omega (arith, e.1, fo.readers)
    alone Action.TryWrite NotFree e g fo bears some = goes_on_alone Action.TryWrite NotFree g.alone refl fo some
    alone Action.TryWrite _ e g fo bears some = absurd e
    alone Action.TryUpgrade Done e g fo bears some = omega (arith, e.1, fo.readers)
    alone Action.TryUpgrade NotFree e g fo bears some = goes_on_alone Action.TryUpgrade NotFree g.alone refl fo some
    alone Action.TryUpgrade _ e g fo bears some = absurd e
    alone Action.Down f e g fo bears some = absurd (omega (arith, fo.writer, cb.writes_marking, bears, i.writer, turn))
    alone c f e g fo bears some = goes_on_alone c f g.alone refl fo some

  -- the step keeps what always holds
  pub sound : (l m k n : List (Entry ℕ)) → IsSound (tally_of v l k) a → (c : Action) (f : Found) → OnWord c f v w → OnNoWriter p c f l m → OnNoReaders p c f k n → Fits c f x y
      → Line p (in_w c f) (out_w c f) (taken_w c f) l m → Line p (in_r c f) (out_r c f) (taken_r c f) k n → Follows v w c f → IsSound (tally_of w m n) b
  sound l m k n i c f e el er g line_w line_r fo =
      let marking : b.marking ≡ bit w.writer = omega (arith, g.marking, mv.marking, i.writer, fo.writer) in
      let listed_w : b.no_writer.listed ≡ length m = omega (arith, g.standing_w, mv.standing_w, i.no_writer.in_list, line_w.size) in
      let listed_r : b.no_readers.listed ≡ length n = omega (arith, g.standing_r, mv.standing_r, i.no_readers.in_list, line_r.size) in
      record {
        writer = marking;
        readers = omega (arith, g.reading, mv.reading, i.readers, fo.readers);
        alone = alone l k i c f e g fo marking;
        no_writer = record { in_list = listed_w; owed = owed_w l m k i c f e el g line_w fo listed_w };
        no_readers = record { in_list = listed_r; owed = owed_r k n l i c f e er g line_r fo listed_r };
      }
