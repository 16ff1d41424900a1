-- What contracts see of a barrier, and of a seat.
use Rattle.std.specs.Prelude.{◌≡◌, ◌≢◌, ℕ, ◌+◌, Bool, true, false, refl}
use Rattle.std.specs.Coded.{Coded, code_by, coded×, coded_ℕ, coded_bool}
use Rattle.atomic_table.specs.Seated.{TableId, table_id_coded}
use Rattle.lock_program.specs.declared.end.Next.TheVariants.{Do}
use Rattle.sync_program.specs.Barrier.{next_of}
use Rattle.sync_program.specs.declared.barrier.Action.{Action}
use Rattle.sync_program.specs.declared.barrier.Found.{Found}
use Rattle.sync_program.specs.declared.barrier.Place.{Place}
use Rattle.barrier_core.specs.Courses.{Course, course_coded, HasCome, ready, waiting}
use Rattle.mutex_core.specs.Locks.{Lock, lock_coded}
use Rattle.words_barrier.specs.declared.view.View.{View}

-- A barrier: which one it is, how many arrivals make a generation, how many generations may be finished, and its inner lock.
pub record Barrier : Type 0 where
  pub table : TableId
  pub size : ℕ
  pub most : ℕ
  pub inner : Lock

abbrev pub barrier_coded : Coded Barrier
barrier_coded = code_by (TableId × (ℕ × (ℕ × Lock))) (coded× table_id_coded (coded× coded_ℕ (coded× coded_ℕ lock_coded))) (λ b. (b.table, (b.size, (b.most, b.inner)))) (λ p. record { table = p.0; size = p.1.0; most = p.1.1.0; inner = p.1.1.1 }) (λ _. refl)

-- A seat: of which barrier it is, and which number it has there; whether it owes all of the list a notification, has an entry there, and has not looked since it joined; whether its
-- arrival was counted, and whether it has finished a generation; the number of its entry; how many generations it found finished last; in which
-- generation its arrival was counted; and where it is in its program.
pub record Seated : Type 0 where
  pub table : TableId
  pub id : ℕ
  pub owes : Bool
  pub listed : Bool
  pub fresh : Bool
  pub counted : Bool
  pub led : Bool
  pub entry : ℕ
  pub found : ℕ
  pub generation : ℕ
  pub course : Course

abbrev pub seated_coded : Coded Seated
seated_coded = code_by (TableId × (ℕ × (Bool × (Bool × (Bool × (Bool × (Bool × (ℕ × (ℕ × (ℕ × Course)))))))))) (coded× table_id_coded (coded× coded_ℕ (coded× coded_bool (coded× coded_bool (coded× coded_bool (coded× coded_bool (coded× coded_bool (coded× coded_ℕ (coded× coded_ℕ (coded× coded_ℕ course_coded))))))))))
    (λ s. (s.table, (s.id, (s.owes, (s.listed, (s.fresh, (s.counted, (s.led, (s.entry, (s.found, (s.generation, s.course)))))))))))
    (λ p. record { table = p.0; id = p.1.0; owes = p.1.1.0; listed = p.1.1.1.0; fresh = p.1.1.1.1.0; counted = p.1.1.1.1.1.0; led = p.1.1.1.1.1.1.0; entry = p.1.1.1.1.1.1.1.0; found = p.1.1.1.1.1.1.1.1.0; generation = p.1.1.1.1.1.1.1.1.1.0; course = p.1.1.1.1.1.1.1.1.1.1 })
    (λ _. refl)

abbrev pub seated : TableId → ℕ → View → Course → Seated
seated table id v course = record { table = table; id = id; owes = v.owes; listed = v.listed; fresh = v.fresh; counted = v.counted; led = v.led; entry = v.entry; found = v.found; generation = v.generation; course = course }

-- The seat is one of the barrier.
abbrev pub IsOf : Barrier → Seated → Type 0
IsOf barrier seat = seat.table ≡ barrier.table

-- It is the same seat of its barrier.
abbrev pub IsSameSeat : Seated → Seated → Type 0
IsSameSeat s t = t.id ≡ s.id

-- a seat with nothing, which has found so many generations finished, of a party that is here in its program
abbrev pub entering : Barrier → ℕ → ℕ → Course → Seated
entering barrier id n course = record { table = barrier.table; id = id; owes = false; listed = false; fresh = false; counted = false; led = false; entry = 0; found = n; generation = 0; course = course }

-- it has looked, and found so many generations finished
abbrev pub with_look : ℕ → Seated → Seated
with_look n s = record s { found = n; fresh = false }

-- the same, and its arrival is counted in the generation after these
abbrev pub with_count : ℕ → Seated → Seated
with_count n s = record s { found = n; fresh = false; counted = true; generation = n }

-- it has finished one generation more than it found, and owes all of the list a notification
abbrev pub with_finished : Seated → Seated
with_finished s = record s { owes = true; led = true; found = s.found + 1 }

abbrev pub with_joined : ℕ → Seated → Seated
with_joined entry s = record s { listed = true; fresh = true; entry = entry }

abbrev pub with_gone : Seated → Seated
with_gone s = record s { listed = false; fresh = false }

abbrev pub with_paid : Seated → Seated
with_paid s = record s { owes = false }

-- It has no entry, and owes nothing.
abbrev pub IsIdle : Seated → Type 0
IsIdle s = (s.owes ≡ false) × (s.listed ≡ false) × (s.fresh ≡ false)

-- Its arrival was counted in this generation.
abbrev pub IsCountedIn : ℕ → Seated → Type 0
IsCountedIn generation s = (s.counted ≡ true) × (s.generation ≡ generation)

-- It has the entry of this number for the generation that its arrival was counted in: it has found, since it joined, that this one is under way, and owes
-- nothing.
abbrev pub HasEntry : ℕ → ℕ → Seated → Type 0
HasEntry generation entry s = (s.owes ≡ false) × (s.listed ≡ true) × (s.fresh ≡ false) × (s.entry ≡ entry) × IsCountedIn generation s × (s.found ≡ generation)

-- the same, and it waits between two polls
abbrev pub IsWaiting : ℕ → ℕ → Seated → Type 0
IsWaiting generation entry s = HasEntry generation entry s × (s.course ≡ waiting)

-- It has found the generation finished that its arrival was counted in, and its wait has ended so.
abbrev pub HasFollowed : Seated → Type 0
HasFollowed s = IsIdle s × (s.counted ≡ true) × (s.found ≢ s.generation) × (s.course ≡ ready false)

-- It has finished a generation, and its wait has ended so.
abbrev pub HasLed : Seated → Type 0
HasLed s = IsIdle s × (s.led ≡ true) × (s.course ≡ ready true)

-- A wait that leads has ended by it, or one that follows.
abbrev pub HasEnded : Bool → Seated → Type 0
HasEnded true s = HasLed s
HasEnded false s = HasFollowed s

module _ (at : Place) where
  -- its call has come to this place, whose action is this
  abbrev pub IsAt : Action → Seated → Type 0
  IsAt act s = HasCome at act s.course

  -- the action of this place found this
  abbrev pub goes : Found → Seated → Seated
  goes found s = record s { course = next_of at found }

-- it begins a call, at this place
abbrev pub with_begun : Place → Seated → Seated
with_begun at s = record s { course = Do at }
