-- Tries and first polls are answered at once.
use Rattle.world_rwlock.proofs.Prelude.{◌≡◌, ℕ, ◌<◌, ◌==◌, ◌↔◌, if◌then◌else◌, Bool, true, false, Option, Some, None, refl, arith, ap, ◌∙◌, nat_tests, false≢true, Answer, Call, Value, Inputs, What, Begin, Refusal, Kind, Rest, Stage, Within, Right, read, upgradable, write, put_in, Standing, outside, inside, TurnCourse, is_out, holds, LockCall, TurnStep as Step, End, Mutex, turn_at, holder_of, holders, starved, out_free, Purpose, OnTurn, Found, Action, Wanted, Place, next_of, place_after, first_poll, in_no_writer, in_no_readers, RwLock, Finds, readers, marked, is_first_poll, is_try_for_turn, knows_at, answer_by, right_for, sought_at, Course, tries, course_of, is_on_course, is_inside, goes_with, is_reading, is_upgrade, verdict, standing_at, call_at, polls_again}
use Rattle.world_rwlock.proofs.Prelude.{◌≤◌, refused}
use Rattle.world_mutex.proofs.of_machine.callers.Holders as sees
use Rattle.world_rwlock.proofs.of_machine.stages.Leads.{Led}
use Rattle.world_rwlock.proofs.table.Begun.{Turn, turn}
use Rattle.world_rwlock.proofs.table.Stages.{on_course}
use Rattle.world_rwlock.proofs.step.Rows.{verdict_then}

-- ---- where tries and first polls begin

abbrev pub waits_for_turn : Place → Bool
waits_for_turn (Place.WaitTurn q) = true
waits_for_turn _ = false

abbrev pub is_try_turn : Place → Bool
is_try_turn (Place.TryTurn q) = true
is_try_turn _ = false

-- what the number of a party's entries says of its place
pub record Lists (n : ℕ) (up : Bool) (x : Place) : Type 0 where
  pub no_writer : n ≡ 0 → in_no_writer x ≡ 0
  pub no_readers : n ≡ 0 → in_no_readers x ≡ 0
  pub turn : n ≡ 0 → waits_for_turn x ≡ false
  pub upgrade : up ≡ is_upgrade x

-- where the moves begin that are answered at once, of a party that stands so, seeks this right, has so many entries, and is an upgrader or isn't
pub record Firsts (s : Standing) (o : Option Right) (what : What) (n : ℕ) (up : Bool) (from : Place) : Type 0 where
  pub try_read : (i : Inputs) → what ≡ Begin Call.TryRead i → from ≡ Place.TryRead
  pub try_upgrade : (i : Inputs) → what ≡ Begin Call.TryUpgrade i → from ≡ Place.TryUpgrade
  pub try_turn : is_try_for_turn what ≡ true → is_try_turn from ≡ true
  pub try_upgradable : (u : Within) → s ≡ inside u None → u.kind ≡ Kind.Try → o ≡ Some upgradable → from ≡ Place.Add true
  pub try_write : (u : Within) → s ≡ inside u None → u.kind ≡ Kind.Try → o ≡ Some write → from ≡ Place.TryWrite
  pub first_read : is_first_poll read s o what n ≡ true → from ≡ Place.EnterRead false
  pub first_upgradable : is_first_poll upgradable s o what n ≡ true → from ≡ Place.EnterTurn Purpose.UpgradableRead
  pub first_write : is_first_poll write s o what n ≡ true → up ≡ false → from ≡ Place.EnterTurn Purpose.Write

is_none : (n : ℕ) → (n == 0) ≡ true → n ≡ 0
is_none n h = grind (arith, nat_tests)

not_one : Path ℕ 1 0 → ⊥
not_one e = omega arith

-- a later poll, and a drop
abbrev pub IsPoll : What → Type 0
IsPoll what = (i : Inputs) × (what ≡ Begin Call.Poll i)

polls_read : (s : Option Right) (what : What) (n : ℕ) → is_first_poll read (outside Rest.Pending) s what n ≡ true → IsPoll what
polls_read (Some read) (Begin Call.Poll i) n h = (i, refl)
polls_read (Some read) _ n h = absurd (false≢true h)
polls_read _ what n h = absurd (false≢true h)

polls_upgradable : (s : Option Right) (what : What) (n : ℕ) → is_first_poll upgradable (outside Rest.Pending) s what n ≡ true → IsPoll what
polls_upgradable (Some upgradable) (Begin Call.Poll i) n h = (i, refl)
polls_upgradable (Some upgradable) _ n h = absurd (false≢true h)
polls_upgradable _ what n h = absurd (false≢true h)

polls_write : (s : Option Right) (what : What) (n : ℕ) → is_first_poll write (outside Rest.Pending) s what n ≡ true → IsPoll what
polls_write (Some write) (Begin Call.Poll i) n h = (i, refl)
polls_write (Some write) _ n h = absurd (false≢true h)
polls_write _ what n h = absurd (false≢true h)

never_drops : (i : Inputs) → IsPoll (Begin Call.Drop i) → ⊥
never_drops i e = let is = e.1 in cc

poll_case : (from : Place) (o : Option Right) (i : Inputs) (n : ℕ) (up : Bool) → (is_first_poll read (outside Rest.Pending) o (Begin Call.Poll i) n ≡ true → from ≡ Place.EnterRead false) → (is_first_poll upgradable (outside Rest.Pending) o (Begin Call.Poll i) n ≡ true → from ≡ Place.EnterTurn Purpose.UpgradableRead)
    → (is_first_poll write (outside Rest.Pending) o (Begin Call.Poll i) n ≡ true → up ≡ false → from ≡ Place.EnterTurn Purpose.Write) → Firsts (outside Rest.Pending) o (Begin Call.Poll i) n up from
poll_case from o i n up f g h = record {
  try_read = λ y e. absurd (cc);
  try_upgrade = λ y e. absurd (cc);
  try_turn = λ e. absurd (false≢true e);
  try_upgradable = λ u e k r. absurd (cc);
  try_write = λ u e k r. absurd (cc);
  first_read = f;
  first_upgradable = g;
  first_write = h;
}

drop_case : (from : Place) (o : Option Right) (i : Inputs) (n : ℕ) (up : Bool) → Firsts (outside Rest.Pending) o (Begin Call.Drop i) n up from
drop_case from o i n up = record {
  try_read = λ y e. absurd (cc);
  try_upgrade = λ y e. absurd (cc);
  try_turn = λ e. absurd (false≢true e);
  try_upgradable = λ u e k r. absurd (cc);
  try_write = λ u e k r. absurd (cc);
  first_read = λ e. absurd (never_drops i (polls_read o (Begin Call.Drop i) n e));
  first_upgradable = λ e. absurd (never_drops i (polls_upgradable o (Begin Call.Drop i) n e));
  first_write = λ e z. absurd (never_drops i (polls_write o (Begin Call.Drop i) n e));
}

-- a try with the turn, by where it stands
tries_from : (v : ℕ) (x : Place) (t : TurnCourse) → is_inside x ≡ true → course_of x ≡ tries → verdict v x t ≡ None → (sought_at x ≡ Some upgradable → x ≡ Place.Add true) × (sought_at x ≡ Some write → x ≡ Place.TryWrite)
tries_from v (Place.Add true) t i c d = ((λ e. refl), (λ e. absurd (cc)))
tries_from v (Place.Add false) t i c d = absurd (cc)
tries_from v Place.TryWrite t i c d = ((λ e. absurd (cc)), (λ e. refl))
tries_from v Place.TryRead t i c d = absurd (cc)
tries_from v (Place.TryTurn q) t i c d = absurd (cc)
tries_from v (Place.ReleaseTurn e) t i c d = absurd (cc)
tries_from v (Place.ReleasingTurn e) t i c d = absurd (cc)
tries_from v (Place.RefuseNotify Refusal.Memory) t i c d = absurd (cc)
tries_from v (Place.RefuseNotify Refusal.Readers) t i c d = absurd (cc)
tries_from v (Place.RefuseNotify _) t i c d = absurd (cc)
tries_from v (Place.Unmark true) t i c d = absurd (cc)
tries_from v (Place.Unmark false) t i c d = absurd (cc)
tries_from v (Place.UnmarkNotify true) t i c d = absurd (cc)
tries_from v (Place.UnmarkNotify false) t i c d = absurd (cc)
tries_from v _ t i c d = absurd (cc)

tries_course : (k : Kind) (r : Rest) (c : Course) → is_on_course k r c ≡ true → k ≡ Kind.Try → c ≡ tries
tries_course = on_course (λ k r c. k ≡ Kind.Try → c ≡ tries) (record { first_poll = λ e. absurd (cc); later_poll = λ e. absurd (cc); try = λ e. refl; drop_future = λ e. absurd (cc); drop_guard = λ e. absurd (cc); downgrade = λ e. absurd (cc); upgrade = λ e. absurd (cc); try_upgrade = λ e. absurd (cc) })

inside_both : (w u : Within) (c d : Option Answer) → inside w c ≡ inside u d → (w ≡ u) × (c ≡ d)
inside_both w u c d e = (cc, cc)

abbrev FirstCase : ℕ → TurnCourse → Stage → What → Place → Within → Place → Type 0
FirstCase v t s what x w from = (n : ℕ) (up : Bool) → Lists n up x → Firsts (standing_at v s x t) (sought_at x) what n up from

pub firsts : (v : ℕ) (t : TurnCourse) (s : Stage) (what : What) (x : Place) (w : Within) → goes_with s x ≡ true → call_at (knows_at x) s what ≡ Some w → polls_again s what ≡ false → put_in what ≡ None → Turn (FirstCase v t) s what x w
firsts v t = turn (FirstCase v t) (record {
  read = λ i n up h. record { try_read = λ y e. absurd (cc); try_upgrade = λ y e. absurd (cc); try_turn = λ e. absurd (false≢true e); try_upgradable = λ u e k r. absurd (cc); try_write = λ u e k r. absurd (cc); first_read = λ e. refl; first_upgradable = λ e. absurd (false≢true e); first_write = λ e z. absurd (false≢true e) };
  upgradable = λ i n up h. record { try_read = λ y e. absurd (cc); try_upgrade = λ y e. absurd (cc); try_turn = λ e. absurd (false≢true e); try_upgradable = λ u e k r. absurd (cc); try_write = λ u e k r. absurd (cc); first_read = λ e. absurd (false≢true e); first_upgradable = λ e. refl; first_write = λ e z. absurd (false≢true e) };
  write = λ i n up h. record { try_read = λ y e. absurd (cc); try_upgrade = λ y e. absurd (cc); try_turn = λ e. absurd (false≢true e); try_upgradable = λ u e k r. absurd (cc); try_write = λ u e k r. absurd (cc); first_read = λ e. absurd (false≢true e); first_upgradable = λ e. absurd (false≢true e); first_write = λ e z. refl };
  try_read = λ i n up h. record { try_read = λ y e. refl; try_upgrade = λ y e. absurd (cc); try_turn = λ e. absurd (false≢true e); try_upgradable = λ u e k r. absurd (cc); try_write = λ u e k r. absurd (cc); first_read = λ e. absurd (false≢true e); first_upgradable = λ e. absurd (false≢true e); first_write = λ e z. absurd (false≢true e) };
  try_upgradable = λ i n up h. record { try_read = λ y e. absurd (cc); try_upgrade = λ y e. absurd (cc); try_turn = λ e. refl; try_upgradable = λ u e k r. absurd (cc); try_write = λ u e k r. absurd (cc); first_read = λ e. absurd (false≢true e); first_upgradable = λ e. absurd (false≢true e); first_write = λ e z. absurd (false≢true e) };
  try_write = λ i n up h. record { try_read = λ y e. absurd (cc); try_upgrade = λ y e. absurd (cc); try_turn = λ e. refl; try_upgradable = λ u e k r. absurd (cc); try_write = λ u e k r. absurd (cc); first_read = λ e. absurd (false≢true e); first_upgradable = λ e. absurd (false≢true e); first_write = λ e z. absurd (false≢true e) };
  poll_made = made;
  poll_no_writer = λ i n up h. poll_case Place.AskNoWriter (Some read) i n up (λ e. absurd (not_one (h.no_writer (is_none n e)))) (λ e. absurd (false≢true e)) (λ e z. absurd (false≢true e));
  poll_turn = waits;
  poll_no_readers = λ b i n up h. poll_case (Place.AwaitNoReaders b) (Some write) i n up (λ e. absurd (false≢true e)) (λ e. absurd (false≢true e)) (λ e z. absurd (not_one (h.no_readers (is_none n e))));
  poll_upgrade = λ i n up h. poll_case (Place.LookUnlisted true) (Some write) i n up (λ e. absurd (false≢true e)) (λ e. absurd (false≢true e)) (λ e y. absurd (cc (h.upgrade, y)));
  drop_made = λ w i n up h. drop_case Place.Out (sought_at (Place.Made w)) i n up;
  drop_no_writer = λ i n up h. drop_case Place.CancelRead (Some read) i n up;
  drop_turn = λ q i n up h. drop_case Place.CancelTurn (Some (right_for q)) i n up;
  drop_no_readers = λ b i n up h. drop_case Place.CancelAwait (Some write) i n up;
  drop_upgrade = λ i n up h. drop_case (Place.Unmark false) (Some write) i n up;
  drop_reader = λ i n up h. record { try_read = λ y e. absurd (cc); try_upgrade = λ y e. absurd (cc); try_turn = λ e. absurd (false≢true e); try_upgradable = λ u e k r. absurd (cc); try_write = λ u e k r. absurd (cc); first_read = λ e. absurd (false≢true e); first_upgradable = λ e. absurd (false≢true e); first_write = λ e z. absurd (false≢true e) };
  drop_upgradable = λ i n up h. record { try_read = λ y e. absurd (cc); try_upgrade = λ y e. absurd (cc); try_turn = λ e. absurd (false≢true e); try_upgradable = λ u e k r. absurd (cc); try_write = λ u e k r. absurd (cc); first_read = λ e. absurd (false≢true e); first_upgradable = λ e. absurd (false≢true e); first_write = λ e z. absurd (false≢true e) };
  drop_writer = λ i n up h. record { try_read = λ y e. absurd (cc); try_upgrade = λ y e. absurd (cc); try_turn = λ e. absurd (false≢true e); try_upgradable = λ u e k r. absurd (cc); try_write = λ u e k r. absurd (cc); first_read = λ e. absurd (false≢true e); first_upgradable = λ e. absurd (false≢true e); first_write = λ e z. absurd (false≢true e) };
  upgrade = λ i n up h. record { try_read = λ y e. absurd (cc); try_upgrade = λ y e. absurd (cc); try_turn = λ e. absurd (false≢true e); try_upgradable = λ u e k r. absurd (cc); try_write = λ u e k r. absurd (cc); first_read = λ e. absurd (false≢true e); first_upgradable = λ e. absurd (false≢true e); first_write = λ e z. absurd (false≢true e) };
  downgrade_upgradable = λ i n up h. record { try_read = λ y e. absurd (cc); try_upgrade = λ y e. absurd (cc); try_turn = λ e. absurd (false≢true e); try_upgradable = λ u e k r. absurd (cc); try_write = λ u e k r. absurd (cc); first_read = λ e. absurd (false≢true e); first_upgradable = λ e. absurd (false≢true e); first_write = λ e z. absurd (false≢true e) };
  downgrade_writer = λ i n up h. record { try_read = λ y e. absurd (cc); try_upgrade = λ y e. absurd (cc); try_turn = λ e. absurd (false≢true e); try_upgradable = λ u e k r. absurd (cc); try_write = λ u e k r. absurd (cc); first_read = λ e. absurd (false≢true e); first_upgradable = λ e. absurd (false≢true e); first_write = λ e z. absurd (false≢true e) };
  to_upgradable = λ i n up h. record { try_read = λ y e. absurd (cc); try_upgrade = λ y e. absurd (cc); try_turn = λ e. absurd (false≢true e); try_upgradable = λ u e k r. absurd (cc); try_write = λ u e k r. absurd (cc); first_read = λ e. absurd (false≢true e); first_upgradable = λ e. absurd (false≢true e); first_write = λ e z. absurd (false≢true e) };
  try_upgrade = λ i n up h. record { try_read = λ y e. absurd (cc); try_upgrade = λ y e. refl; try_turn = λ e. absurd (false≢true e); try_upgradable = λ u e k r. absurd (cc); try_write = λ u e k r. absurd (cc); first_read = λ e. absurd (false≢true e); first_upgradable = λ e. absurd (false≢true e); first_write = λ e z. absurd (false≢true e) };
  go = λ w i x here on n up h.
      let from : (u : Within) → inside w (verdict v x t) ≡ inside u None → u.kind ≡ Kind.Try → (sought_at x ≡ Some upgradable → x ≡ Place.Add true) × (sought_at x ≡ Some write → x ≡ Place.TryWrite) = λ u e k.
      let same = inside_both w u (verdict v x t) None e in
      tries_from v x t here (tries_course w.kind w.was (course_of x) on (ap (λ w. w.kind) same.0 ∙ k)) same.1 in
      record { try_read = λ y e. absurd (cc); try_upgrade = λ y e. absurd (cc); try_turn = λ e. absurd (false≢true e); try_upgradable = λ u e k r. (from u e k).0 r; try_write = λ u e k r. (from u e k).1 r; first_read = λ e. absurd (false≢true e); first_upgradable = λ e. absurd (false≢true e); first_write = λ e z. absurd (false≢true e) };
}) where
  Polled : Place → Place → Type 0
  Polled x from = (i : Inputs) (n : ℕ) (up : Bool) → Lists n up x → Firsts (outside Rest.Pending) (sought_at x) (Begin Call.Poll i) n up from

  made : (w : _) → Polled (Place.Made w) (first_poll w)
  made Wanted.Read i n up h = poll_case (Place.EnterRead false) (Some read) i n up (λ e. refl) (λ e. absurd (false≢true e)) (λ e z. absurd (false≢true e))
  made Wanted.UpgradableRead i n up h = poll_case (Place.EnterTurn Purpose.UpgradableRead) (Some upgradable) i n up (λ e. absurd (false≢true e)) (λ e. refl) (λ e z. absurd (false≢true e))
  made Wanted.Write i n up h = poll_case (Place.EnterTurn Purpose.Write) (Some write) i n up (λ e. absurd (false≢true e)) (λ e. absurd (false≢true e)) (λ e z. refl)

  waits : (q : Purpose) → Polled (Place.WaitTurn q) (Place.WaitTurn q)
  waits Purpose.UpgradableRead i n up h = poll_case (Place.WaitTurn Purpose.UpgradableRead) (Some upgradable) i n up (λ e. absurd (false≢true e)) (λ e. absurd (cc (h.turn (is_none n e)))) (λ e z. absurd (false≢true e))
  waits Purpose.Write i n up h = poll_case (Place.WaitTurn Purpose.Write) (Some write) i n up (λ e. absurd (false≢true e)) (λ e. absurd (false≢true e)) (λ e z. absurd (cc (h.turn (is_none n e))))

-- ---- what they answer

-- reading begins exactly where it may; b is whether it may
pub try_reads : (memory : Bool) (l : RwLock) (v : ℕ) (f : Found) → Finds memory Action.Read f l → (b : Bool) → (marked l ≡ 0 → readers l < l.limit → b ≡ true) → (b ≡ true → (marked l ≡ 0) × (readers l < l.limit))
    → answer_by v (next_of Place.TryRead f) ≡ (if b then Answer.Granted (Value v) else Answer.None)
try_reads memory l v Found.Done e b is means = rw (is e.0 e.1) refl
try_reads memory l v Found.Writer e true is means = let m = means refl in absurd (omega (arith, m.0, e))
try_reads memory l v Found.Writer e false is means = refl
try_reads memory l v Found.Full e true is means = let m = means refl in absurd (omega (arith, m.1, e.1))
try_reads memory l v Found.Full e false is means = refl
try_reads memory l v _ e b is means = absurd e

pub first_reads : (memory : Bool) (l : RwLock) (f : Found) → Finds memory Action.Read f l → (is_reading (place_after (next_of (Place.EnterRead false) f)) ≡ true → (marked l ≡ 0) × (readers l < l.limit)) × (marked l ≡ 0 → readers l < l.limit → is_reading (place_after (next_of (Place.EnterRead false) f)) ≡ true)
first_reads memory l Found.Done e = ((λ h. e), (λ a b. refl))
first_reads memory l Found.Writer e = ((λ h. absurd (cc)), (λ a b. absurd (omega (arith, a, e))))
first_reads memory l Found.Full e = ((λ h. absurd (cc)), (λ a b. absurd (omega (arith, b, e.1))))
first_reads memory l _ e = absurd e

pub try_upgrades : (memory : Bool) (l : RwLock) (v : ℕ) (f : Found) → Finds memory Action.TryUpgrade f l → marked l ≡ 0 → (b : Bool) → (readers l ≡ 1 → b ≡ true) → (b ≡ true → readers l ≡ 1)
    → answer_by v (next_of Place.TryUpgrade f) ≡ (if b then Answer.Granted (Value v) else Answer.None)
try_upgrades memory l v Found.Done e free b is means = rw (is e.1) refl
try_upgrades memory l v Found.NotFree e free true is means = absurd (e free (means refl))
try_upgrades memory l v Found.NotFree e free false is means = refl
try_upgrades memory l v _ e free b is means = absurd e

pub try_adds : (memory : Bool) (l : RwLock) (v : ℕ) (f : Found) → Finds memory Action.Add f l → (answer_by v (next_of (Place.Add true) f) ≡ Answer.Granted (Value v)) ↔ (readers l < l.limit)
try_adds memory l v Found.Done e = ((λ h. e), (λ h. refl))
try_adds memory l v Found.Full e = ((λ h. absurd (cc)), (λ h. absurd (omega (arith, h, e))))
try_adds memory l v _ e = absurd e

-- a try with the turn is decided then; b is whether it is granted
pub added : (memory : Bool) (l : RwLock) (v : ℕ) (u : TurnCourse) (f : Found) → Finds memory Action.Add f l → (b : Bool) → (readers l < l.limit → b ≡ true) → (b ≡ true → readers l < l.limit)
    → verdict_then v u (next_of (Place.Add true) f) ≡ Some (if b then Answer.Granted (Value v) else Answer.None)
added memory l v u Found.Done e b is means = rw (is e) refl
added memory l v u Found.Full e true is means = absurd (omega (arith, means refl, e))
added memory l v u Found.Full e false is means = refl
added memory l v u _ e b is means = absurd e

pub try_written : (memory : Bool) (l : RwLock) (v : ℕ) (u : TurnCourse) (f : Found) → marked l ≡ 0 → Finds memory Action.TryWrite f l → (b : Bool) → (readers l ≡ 0 → b ≡ true) → (b ≡ true → readers l ≡ 0)
    → verdict_then v u (next_of Place.TryWrite f) ≡ Some (if b then Answer.Granted (Value v) else Answer.None)
try_written memory l v u Found.Done free e b is means = rw (is e.1) refl
try_written memory l v u Found.NotFree free e true is means = let none = means refl in absurd (omega (arith, none, e free))
try_written memory l v u Found.NotFree free e false is means = refl
try_written memory l v u _ free e b is means = absurd e

pub first_readies : (memory : Bool) (l : RwLock) (v : ℕ) (f : Found) → Finds memory Action.Read f l → marked l ≡ 0 → readers l < l.limit → answer_by v (next_of (Place.EnterRead false) f) ≡ Answer.Ready (Value v)
first_readies memory l v Found.Done e a b = refl
first_readies memory l v Found.Writer e a b = absurd (omega (arith, a, e))
first_readies memory l v Found.Full e a b = absurd (omega (arith, b, e.1))
first_readies memory l v _ e a b = absurd e

-- or is refused at the readers' limit
pub first_refused : (memory : Bool) (l : RwLock) (v : ℕ) (f : Found) → Finds memory Action.Read f l → marked l ≡ 0 → l.limit ≤ readers l → answer_by v (next_of (Place.EnterRead false) f) ≡ refused Refusal.Readers
first_refused memory l v Found.Full e a b = refl
first_refused memory l v Found.Done e a b = absurd (omega (arith, b, e.1))
first_refused memory l v Found.Writer e a b = absurd (omega (arith, a, e))
first_refused memory l v _ e a b = absurd e

-- the turn's party finds no mark
pub try_writes : (memory : Bool) (l : RwLock) (v : ℕ) (f : Found) → marked l ≡ 0 → Finds memory Action.TryWrite f l → (answer_by v (next_of Place.TryWrite f) ≡ Answer.Granted (Value v)) ↔ (readers l ≡ 0)
try_writes memory l v Found.Done free e = ((λ h. e.1), (λ h. refl))
try_writes memory l v Found.NotFree free e = ((λ h. absurd (cc)), (λ h. absurd (omega (arith, h, e free))))
try_writes memory l v _ free e = absurd e

-- ---- the turn, at once

-- a try takes the turn exactly where it is free; b is whether it is
pub turn_tries : (memory starving : Bool) (p v : ℕ) (l k : Mutex) (pr : Purpose) (f : Found) → OnTurn memory starving p (Action.Begin LockCall.Try) f l k → Led (Place.TryTurn pr) f (turn_at k.courses p) → (b : Bool) → (holders l ≡ 0 → starved l ≡ 0 → b ≡ true) → (b ≡ true → (holders l ≡ 0) × (starved l ≡ 0))
    → (answer_by v (next_of (Place.TryTurn pr) f) ≡ (if b then Answer.Stepped else Answer.None)) × ((holder_of k ≡ Some p) ↔ (b ≡ true))
turn_tries memory starving p v l k pr (Found.Turn (Step.End End.Got)) o led b is means =
    let holder : holder_of k ≡ Some p = o.legal.reason End.Got refl refl in
    let free = (o.at_once.takes refl).0 holder in
    let yes_it : b ≡ true = is free.0 free.1 in
    (rw yes_it refl, ((λ h. yes_it), (λ h. holder)))
turn_tries memory starving p v l k pr (Found.Turn (Step.End End.NotFree)) o led b is means =
    let none : holds (turn_at k.courses p) ≡ 0 = out_free (turn_at k.courses p) (ap is_out led) in
    let never : holder_of k ≡ Some p → ⊥ = λ h. let one = sees.is_held_by k.courses p h in omega (arith, one, none) in
    let not_it : b ≡ false = by_test b (λ h. never ((o.at_once.takes refl).1 (means h))) in
    (rw not_it refl, ((λ h. absurd (never h)), (λ h. absurd (cc))))
  where
    by_test : (b : Bool) → (b ≡ true → ⊥) → b ≡ false
    by_test true h = absurd (h refl)
    by_test false h = refl
turn_tries memory starving p v l k pr (Found.Turn _) o led b is means = absurd led
turn_tries memory starving p v l k pr _ o led b is means = absurd o

-- a try that goes on isn't decided yet
pub try_open : (v : ℕ) (u : TurnCourse) (pr : Purpose) (f : Found) → Led (Place.TryTurn pr) f u → answer_by v (next_of (Place.TryTurn pr) f) ≡ Answer.Stepped → verdict_then v u (next_of (Place.TryTurn pr) f) ≡ None
try_open v u Purpose.UpgradableRead (Found.Turn (Step.End End.Got)) led e = refl
try_open v u Purpose.Write (Found.Turn (Step.End End.Got)) led e = refl
try_open v u Purpose.UpgradableRead (Found.Turn (Step.End End.NotFree)) led e = absurd (cc e)
try_open v u Purpose.Write (Found.Turn (Step.End End.NotFree)) led e = absurd (cc e)
try_open v u pr (Found.Turn _) led e = absurd led
try_open v u pr _ led e = absurd led

-- and so does the first action of a first poll
pub turn_enters : (memory starving : Bool) (p : ℕ) (l k : Mutex) (f : Found) → OnTurn memory starving p (Action.Begin LockCall.Lock) f l k → (holder_of k ≡ Some p) ↔ ((holders l ≡ 0) × (starved l ≡ 0))
turn_enters memory starving p l k (Found.Turn n) o = o.at_once.takes refl
turn_enters memory starving p l k _ o = absurd o
