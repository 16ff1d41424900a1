-- A step of one party keeps what always holds of the lock.
use Rattle.world_rwlock.proofs.Prelude.{◌≡◌, ℕ, ◌+◌, ◌<◌, ◌≤◌, Bool, true, List, length, get_or, sym, subst, ap, arith, ◌∙◌, length-set, get_or-set_same, get_or-set_other, set, ℕ_discrete, sum_by, sum_by-set, get_or-le-sum_by, entries_of, Queue, Mutex, turn_at, IsMutex, Word, Place, Out, Found, action_of, next_of, place_after, reads, marks, only_turns, writes, in_no_writer, waits_no_writer, owes_no_writer, in_no_readers, waits_no_readers, owes_no_readers, fits_turn, OnWord, OnNoWriter, OnNoReaders, OnTurn, counts_of, IsMachine, SameRoles, place_at}
use Rattle.world_rwlock.proofs.of_machine.laws.Steps.{Fits, in_w, out_w, in_r, out_r, taken_w, taken_r}
use Rattle.world_rwlock.proofs.of_machine.laws.Fits.{fits}
use Rattle.world_rwlock.proofs.of_machine.stages.Leads.{led, turn_others, turn_length, turn_stays}
use Rattle.world_rwlock.proofs.of_machine.stages.Links.{links}
use Rattle.world_rwlock.proofs.of_machine.laws.Lines.{Line, line_w, line_r}
use Rattle.world_rwlock.proofs.of_machine.laws.Places.{turned_all, counted}
use Rattle.world_rwlock.proofs.of_machine.laws.Kept.{Moves, Follows, follows, sound}
use Rattle.world_rwlock.proofs.of_machine.laws.Marks.{one_marked_w, one_marked_r}

module _ (ps : List Place) (p : ℕ) (x y : Place) where
  moves : p < length ps → SameRoles x (place_at ps p) → Moves x y (counts_of ps) (counts_of (set ps p y))
  moves known same =
      let there : p < length (set ps p y) = rw length-set known in
      let after : (f : Place → ℕ) → f y ≤ sum_by f (set ps p y) =
      λ f. let here : f (get_or (set ps p y) p Out) ≤ sum_by f (set ps p y) = get_or-le-sum_by f (set ps p y) p Out there in
      rw (get_or-set_same ps p y Out known) at here in
      let before : (f : Place → ℕ) → f (get_or ps p Out) ≤ sum_by f ps = λ f. get_or-le-sum_by f ps p Out known in
      record {
        reading = omega (arith, same.reading, sum_by-set reads ps p y Out known);
        marking = omega (arith, same.marking, sum_by-set marks ps p y Out known);
        writing = omega (arith, same.writing, sum_by-set writes ps p y Out known);
        standing_w = omega (arith, same.standing_w, sum_by-set in_no_writer ps p y Out known);
        waiting_w = omega (arith, same.waiting_w, sum_by-set waits_no_writer ps p y Out known);
        owing_w = omega (arith, same.owing_w, sum_by-set owes_no_writer ps p y Out known);
        standing_r = omega (arith, same.standing_r, sum_by-set in_no_readers ps p y Out known);
        waiting_r = omega (arith, same.waiting_r, sum_by-set waits_no_readers ps p y Out known);
        owing_r = omega (arith, same.owing_r, sum_by-set owes_no_readers ps p y Out known);
        owes_itself_w = after owes_no_writer;
        owes_itself_r = after owes_no_readers;
        turns_itself = omega (arith, same.turning, before only_turns);
        marks_itself = omega (arith, same.marking, before marks);
      }

-- one party at most has the turn
pub one_turn : (w : Word) (ps : List Place) (l m : Queue) (t : Mutex) → IsMachine w ps l m t → IsMutex t → sum_by only_turns ps + sum_by marks ps ≤ 1
one_turn w ps l m t i mutex = omega (arith, turned_all ps t.courses i.as_many i.in_turn, mutex.one_holder)

module _ (memory starving : Bool) (p : ℕ) (v w : Word) (ps : List Place) (l m l' m' : Queue) (t u : Mutex) where
  pub kept : (x : Place) (f : Found) → IsMachine v ps l m t → IsMutex t → p < length ps → SameRoles x (place_at ps p)
      → OnWord (action_of x) f v w → OnNoWriter p (action_of x) f l.entries l'.entries → OnNoReaders p (action_of x) f m.entries m'.entries → OnTurn memory starving p (action_of x) f t u
      → l'.parties ≡ l.parties → m'.parties ≡ m.parties → IsMachine w (set ps p (place_after (next_of x f))) l' m' u
  kept x f i mutex known same ew el em et lp mp =
      let y : Place = place_after (next_of x f) in
      let link : fits_turn x (turn_at t.courses p) ≡ true = ap (λ h. h (turn_at t.courses p)) same.in_turn ∙ i.in_turn p in
      let fit : Fits (action_of x) f x y = fits x f in
      let mv : Moves x y (counts_of ps) (counts_of (set ps p y)) = moves ps p x y known same in
      let turn : sum_by only_turns ps + sum_by marks ps ≤ 1 = one_turn v ps l m t i mutex in
      let fo : Follows v w (action_of x) f = follows v w (action_of x) f ew (λ one. omega (arith, i.sound.writer, turn, fit.set_by_turn, mv.turns_itself)) (λ one. omega (arith, i.sound.writer, turn, fit.cleared_by_own, mv.marks_itself)) in
      let own_w : entries_of p l.entries ≡ in_no_writer x = i.no_writer p ∙ sym same.standing_w in
      let own_r : entries_of p m.entries ≡ in_no_readers x = i.no_readers p ∙ sym same.standing_r in
      let w_line : Line p (in_w (action_of x) f) (out_w (action_of x) f) (taken_w (action_of x) f) l.entries l'.entries = line_w p l.entries l'.entries (action_of x) f el (λ one. omega (arith, fit.left_by_listed_w)) in
      let r_line : Line p (in_r (action_of x) f) (out_r (action_of x) f) (taken_r (action_of x) f) m.entries m'.entries = line_r p m.entries m'.entries (action_of x) f em (λ one. omega (arith, fit.left_by_listed_r)) in
      let size : length (set ps p y) ≡ length ps = length-set ps p y in
      record {
        sound = sound p v w (counts_of ps) (counts_of (set ps p y)) x y mv (counted ps) (counted (set ps p y)) turn l.entries l'.entries m.entries m'.entries i.sound (action_of x) f ew el em fit w_line r_line fo;
        in_turn = λ j. elim (ℕ_discrete j p) as (λ _. fits_turn (place_at (set ps p y) j) (turn_at u.courses j) ≡ true) [
          | yes e ↦ (let P : ℕ → Type 0 = λ n. fits_turn (place_at (set ps p y) n) (turn_at u.courses n) ≡ true in
              subst P (sym e) (rw (get_or-set_same ps p y Out known) (links x f (turn_at t.courses p) (turn_at u.courses p) (led memory starving p t u x f et link) (turn_stays memory starving p t u x f et) link)))
          | no apart ↦ rw (get_or-set_other ps p j y Out apart, turn_others memory starving p t u (action_of x) f et j apart) (i.in_turn j)
        ];
        no_writer = λ j. elim (ℕ_discrete j p) as (λ _. entries_of j l'.entries ≡ in_no_writer (place_at (set ps p y) j)) [
          | yes e ↦ (let P : ℕ → Type 0 = λ n. entries_of n l'.entries ≡ in_no_writer (place_at (set ps p y) n) in
              subst P (sym e) (rw (get_or-set_same ps p y Out known) (omega (arith, w_line.own, fit.standing_w))))
          | no apart ↦ rw (get_or-set_other ps p j y Out apart) (w_line.others j apart ∙ i.no_writer j)
        ];
        no_readers = λ j. elim (ℕ_discrete j p) as (λ _. entries_of j m'.entries ≡ in_no_readers (place_at (set ps p y) j)) [
          | yes e ↦ (let P : ℕ → Type 0 = λ n. entries_of n m'.entries ≡ in_no_readers (place_at (set ps p y) n) in
              subst P (sym e) (rw (get_or-set_same ps p y Out known) (omega (arith, r_line.own, fit.standing_r))))
          | no apart ↦ rw (get_or-set_other ps p j y Out apart) (r_line.others j apart ∙ i.no_readers j)
        ];
        as_many = turn_length memory starving p t u (action_of x) f et ∙ (i.as_many ∙ sym size);
        as_many_w = lp ∙ (i.as_many_w ∙ sym size);
        as_many_r = mp ∙ (i.as_many_r ∙ sym size);
        one_told_w = one_marked_w p (action_of x) f l.entries l'.entries el i.one_told_w;
        one_told_r = one_marked_r p (action_of x) f m.entries m'.entries em i.one_told_r;
      }
