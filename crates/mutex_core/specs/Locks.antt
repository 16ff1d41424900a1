-- What contracts see of a lock, and of a seat.
use Rattle.std.specs.Prelude.{◌≡◌, ℕ, ◌%◌, ◌≤◌, ◌⊎◌, Bool, true, false, List, [], ◌∷◌, refl}
use Rattle.std.specs.Coded.{Coded, code_by, coded×, coded_ℕ, coded_bool}
use Rattle.atomic_table.specs.Seated.{TableId, table_id_coded}
use Rattle.lock_place.specs.Held.{RoomId, room_id_coded}
use Rattle.lock_program.specs.Mutex.{action_of, next_of}
use Rattle.lock_program.specs.declared.end.Next.TheVariants.{Do}
use Rattle.lock_program.specs.declared.mutex.Action.{Action}
use Rattle.lock_program.specs.declared.mutex.Found.{Found}
use Rattle.lock_program.specs.declared.mutex.Found.TheVariants as finds
use Rattle.lock_program.specs.declared.mutex.Place.{Place}
use Rattle.mutex_core.specs.Courses.{Course, course_coded, unbegun, holding}
use Rattle.words_mutex.specs.declared.view.View.{View}

-- Which right to a value it is: where the value lay when the lock was made, and the spare that the right may wait in.
pub record RightId : Type 0 where
  pub room : RoomId
  pub deed : ℕ

abbrev pub right_id_coded : Coded RightId
right_id_coded = code_by (RoomId × ℕ) (coded× room_id_coded coded_ℕ) (λ l. (l.room, l.deed)) (λ p. record { room = p.0; deed = p.1 }) (λ _. refl)

-- A lock: its table, the right to its value as the lock was made, where the value lies now, with which source its waiters register, how many may be
-- starved, and whether a forgotten seat left it held, and its value was lent past that seat.
pub record Lock : Type 0 where
  pub table : TableId
  pub right : RightId
  pub room : RoomId
  pub source : ℕ
  pub limit : ℕ
  pub is_left : Bool

abbrev pub lock_coded : Coded Lock
lock_coded = code_by (TableId × (RightId × (RoomId × (ℕ × (ℕ × Bool))))) (coded× table_id_coded (coded× right_id_coded (coded× room_id_coded (coded× coded_ℕ (coded× coded_ℕ coded_bool))))) (λ l. (l.table, (l.right, (l.room, (l.source, (l.limit, l.is_left)))))) (λ p. record { table = p.0; right = p.1.0; room = p.1.1.0; source = p.1.1.1.0; limit = p.1.1.1.1.0; is_left = p.1.1.1.1.1 }) (λ _. refl)

-- A seat: of which table it is, which number it has there, and of which right, whether it holds the lock, is counted as starved, owes, has an entry, and has not looked since it joined; the
-- number of its entry; what its last look at the lock's word, or its last step to get the lock, found; and where it is in its program.
pub record Seated : Type 0 where
  pub table : TableId
  pub id : ℕ
  pub right : RightId
  pub holds : Bool
  pub starved : Bool
  pub owes : Bool
  pub listed : Bool
  pub fresh : Bool
  pub entry : ℕ
  pub found : ℕ
  pub course : Course

abbrev pub seated_coded : Coded Seated
seated_coded = code_by (TableId × (ℕ × (RightId × (Bool × (Bool × (Bool × (Bool × (Bool × (ℕ × (ℕ × Course)))))))))) (coded× table_id_coded (coded× coded_ℕ (coded× right_id_coded (coded× coded_bool (coded× coded_bool (coded× coded_bool (coded× coded_bool (coded× coded_bool (coded× coded_ℕ (coded× coded_ℕ course_coded)))))))))) (λ s. (s.table, (s.id, (s.right, (s.holds, (s.starved, (s.owes, (s.listed, (s.fresh, (s.entry, (s.found, s.course))))))))))) (λ p. record { table = p.0; id = p.1.0; right = p.1.1.0; holds = p.1.1.1.0; starved = p.1.1.1.1.0; owes = p.1.1.1.1.1.0; listed = p.1.1.1.1.1.1.0; fresh = p.1.1.1.1.1.1.1.0; entry = p.1.1.1.1.1.1.1.1.0; found = p.1.1.1.1.1.1.1.1.1.0; course = p.1.1.1.1.1.1.1.1.1.1 }) (λ _. refl)

abbrev pub seated : TableId → ℕ → View → Course → Seated
seated table id v course = record { table = table; id = id; right = record { room = v.room; deed = v.deed }; holds = v.holds; starved = v.starved; owes = v.owes; listed = v.listed; fresh = v.fresh; entry = v.entry; found = v.found; course = course }

-- The seat is one of the lock.
abbrev pub IsOf : Lock → Seated → Type 0
IsOf lock seat = (seat.table ≡ lock.table) × (seat.right ≡ lock.right)

-- It is the same seat of its lock.
abbrev pub IsSameSeat : Seated → Seated → Type 0
IsSameSeat s t = t.id ≡ s.id

-- The slots that are out with a seat: the right's, while it holds the lock.
abbrev pub HasSlots : {S : Type 0} → Bool → List (ℕ × S) → Type 0
HasSlots {S} true slots = (right : S) × (slots ≡ (1, right) ∷ [])
HasSlots false slots = slots ≡ []

-- a seat with nothing
abbrev pub entering : Lock → ℕ → Seated
entering lock id = record { table = lock.table; id = id; right = lock.right; holds = false; starved = false; owes = false; listed = false; fresh = false; entry = 0; found = 0; course = unbegun }

-- what its step makes of it that found the word n: it has got the lock, found it held, has looked, or has only seen the word
abbrev pub with_got : ℕ → Seated → Seated
with_got n s = record s { holds = true; owes = false; fresh = false; found = n }

abbrev pub with_held : ℕ → Seated → Seated
with_held n s = record s { owes = false; fresh = false; found = n }

abbrev pub with_look : ℕ → Seated → Seated
with_look n s = record s { fresh = false; found = n }

abbrev pub with_found : ℕ → Seated → Seated
with_found n s = record s { found = n }

abbrev pub with_cleared : Seated → Seated
with_cleared s = record s { holds = false; owes = true }

abbrev pub with_paid : Seated → Seated
with_paid s = record s { owes = false }

abbrev pub with_joined : ℕ → Seated → Seated
with_joined n s = record s { listed = true; fresh = true; entry = n }

abbrev pub with_told : Seated → Seated
with_told s = record s { listed = false; owes = true }

abbrev pub with_gone : Seated → Seated
with_gone s = record s { listed = false }

-- it is counted as starved
abbrev pub with_count : Seated → Seated
with_count s = record s { starved = true }

-- it is counted as starved, and owes a look
abbrev pub with_count_owing : Seated → Seated
with_count_owing s = record s { starved = true; owes = true }

abbrev pub with_uncounted : Seated → Seated
with_uncounted s = record s { starved = false }

-- it holds the lock, has and owes nothing else, and is outside every call
abbrev pub IsHolding : Seated → Type 0
IsHolding s = (s.holds ≡ true) × (s.starved ≡ false) × (s.owes ≡ false) × (s.listed ≡ false) × (s.fresh ≡ false) × (s.course ≡ holding)

-- it doesn't hold the lock, isn't counted as starved, and has no entry
abbrev pub IsAway : Seated → Type 0
IsAway s = (s.holds ≡ false) × (s.starved ≡ false) × (s.listed ≡ false) × (s.fresh ≡ false)

-- it has an entry and nothing else, and has looked since it joined
abbrev pub IsListed : Seated → Type 0
IsListed s = (s.holds ≡ false) × (s.starved ≡ false) × (s.owes ≡ false) × (s.listed ≡ true) × (s.fresh ≡ false)

-- it is counted as starved, has no entry, and owes a look
abbrev pub IsStarving : Seated → Type 0
IsStarving s = (s.holds ≡ false) × (s.starved ≡ true) × (s.owes ≡ true) × (s.listed ≡ false) × (s.fresh ≡ false)

module _ (at : Place) where
  -- its call has come to this place, whose action is this
  abbrev pub IsAt : Action → Seated → Type 0
  IsAt act s = (s.course ≡ Do at) × (action_of at ≡ act)

  -- the action of this place found this
  abbrev pub goes : Found → Seated → Seated
  goes found s = record s { course = next_of at found }

-- What a try made of a seat that is at this place: it found the lock free, from the word n; held, and nobody starved, unless the lock was left held; or
-- others starved, whether it was held or not.
module _ (lock : Lock) (at : Place) (old new : Seated) where
  abbrev pub TakesFrom : ℕ → Type 0
  TakesFrom n = new ≡ goes at finds.Free (with_got n old)

  abbrev pub FindsHeld : Bool → Type 0
  FindsHeld starving = (new ≡ goes at (finds.Held starving) (with_held new.found old)) × (new.found % 2 ≡ 1) × (lock.is_left ≡ false → new.found ≡ 1)

  abbrev pub FindsStarved : Type 0
  FindsStarved = ((new ≡ goes at finds.SomeStarved (with_look new.found old)) ⊎ (new ≡ goes at finds.SomeStarved (with_held new.found old))) × (2 ≤ new.found)

-- it begins a call, at this place
abbrev pub with_begun : Place → Seated → Seated
with_begun at s = record s { course = Do at }
