-- What contracts see of a semaphore, and of a seat.
use Rattle.std.specs.Prelude.{◌≡◌, ℕ, ◌+◌, ◌-◌, ◌<◌, ◌&&◌, leb, Bool, true, false, refl}
use Rattle.std.specs.Coded.{Coded, code_by, coded×, coded_ℕ, coded_bool}
use Rattle.atomic_table.specs.Seated.{TableId, table_id_coded}
use Rattle.lock_program.specs.declared.end.Next.TheVariants.{Do}
use Rattle.semaphore_core.specs.Courses.{Course, course_coded, outside, unbegun, IsHolding}
use Rattle.sync_program.specs.Permits.{action_of, next_of}
use Rattle.sync_program.specs.declared.permits.Action.{Action}
use Rattle.sync_program.specs.declared.permits.Found.{Found}
use Rattle.sync_program.specs.declared.permits.Place.{Place}
use Rattle.words_permits.specs.declared.view.View.{View}

-- Which table it is, and with how many permits it began.
pub record Permits : Type 0 where
  pub table : TableId
  pub start : ℕ

-- A semaphore: which one it is and with how many permits it began, and with which source its waiters register.
pub record Semaphore : Type 0 where
  pub word : Permits
  pub source : ℕ

abbrev pub semaphore_coded : Coded Semaphore
semaphore_coded = code_by (TableId × (ℕ × ℕ)) (coded× table_id_coded (coded× coded_ℕ coded_ℕ)) (λ s. (s.word.table, (s.word.start, s.source))) (λ p. record { word = record { table = p.0; start = p.1.0 }; source = p.1.1 }) (λ _. refl)

-- A seat: of which semaphore it is, and which number it has there; the permits that it has and those that it has under way, what it found last of the available permits and of the
-- limit, and what it has added and forgotten in all; whether it owes a notification, and has looked since; and whether it has an entry, and no look of it
-- found too few since it joined, the number of that entry, and for how many permits it waits; and where it is in its program.
pub record Seated : Type 0 where
  pub table : TableId
  pub id : ℕ
  pub permits : ℕ
  pub under_way : ℕ
  pub found : ℕ
  pub limit : ℕ
  pub added : ℕ
  pub forgotten : ℕ
  pub owes : Bool
  pub seen : Bool
  pub listed : Bool
  pub fresh : Bool
  pub entry : ℕ
  pub weight : ℕ
  pub course : Course

abbrev pub seated_coded : Coded Seated
seated_coded = code_by (TableId × (ℕ × (ℕ × (ℕ × (ℕ × (ℕ × (ℕ × (ℕ × (Bool × (Bool × (Bool × (Bool × (ℕ × (ℕ × Course))))))))))))))
    (coded× table_id_coded (coded× coded_ℕ (coded× coded_ℕ (coded× coded_ℕ (coded× coded_ℕ (coded× coded_ℕ (coded× coded_ℕ (coded× coded_ℕ (coded× coded_bool (coded× coded_bool (coded× coded_bool (coded× coded_bool (coded× coded_ℕ (coded× coded_ℕ course_coded))))))))))))))
    (λ s. (s.table, (s.id, (s.permits, (s.under_way, (s.found, (s.limit, (s.added, (s.forgotten, (s.owes, (s.seen, (s.listed, (s.fresh, (s.entry, (s.weight, s.course)))))))))))))))
    (λ p. record { table = p.0; id = p.1.0; permits = p.1.1.0; under_way = p.1.1.1.0; found = p.1.1.1.1.0; limit = p.1.1.1.1.1.0; added = p.1.1.1.1.1.1.0; forgotten = p.1.1.1.1.1.1.1.0; owes = p.1.1.1.1.1.1.1.1.0; seen = p.1.1.1.1.1.1.1.1.1.0; listed = p.1.1.1.1.1.1.1.1.1.1.0; fresh = p.1.1.1.1.1.1.1.1.1.1.1.0; entry = p.1.1.1.1.1.1.1.1.1.1.1.1.0; weight = p.1.1.1.1.1.1.1.1.1.1.1.1.1.0; course = p.1.1.1.1.1.1.1.1.1.1.1.1.1.1 })
    (λ _. refl)

abbrev pub seated : TableId → ℕ → View → Course → Seated
seated table id v course = record { table = table; id = id; permits = v.permits; under_way = v.under_way; found = v.found; limit = v.limit; added = v.added; forgotten = v.forgotten; owes = v.owes; seen = v.seen; listed = v.listed; fresh = v.fresh; entry = v.entry; weight = v.weight; course = course }

-- The seat is one of the semaphore.
abbrev pub IsOf : Semaphore → Seated → Type 0
IsOf s seat = seat.table ≡ s.word.table

-- It is the same seat of its semaphore.
abbrev pub IsSameSeat : Seated → Seated → Type 0
IsSameSeat s t = t.id ≡ s.id

-- a seat that has nothing, and has done nothing
abbrev pub entering : Semaphore → ℕ → Seated
entering s id = record { table = s.word.table; id = id; permits = 0; under_way = 0; found = 0; limit = 0; added = 0; forgotten = 0; owes = false; seen = false; listed = false; fresh = false; entry = 0; weight = 0; course = unbegun }

-- It has looked, and found a: fewer than it waits for, it is fresh no more; of nothing nobody has to be notified.
abbrev pub with_look : ℕ → Seated → Seated
with_look a s = record s { found = a; seen = true; fresh = s.fresh && leb s.weight a; owes = s.owes && leb 1 a }

-- It has k permits more, and left a: of nothing nobody has to be notified.
abbrev pub with_taken : ℕ → ℕ → Seated → Seated
with_taken k a s = record s { permits = s.permits + k; found = a; seen = true; owes = s.owes && leb 1 a }

-- It has given k permits back, and owes a notification of the a that are available then.
abbrev pub with_given : ℕ → ℕ → Seated → Seated
with_given k a s = record s { permits = s.permits - k; found = a; seen = true; owes = true }

-- it has given k new permits, likewise
abbrev pub with_given_new : ℕ → ℕ → Seated → Seated
with_given_new k a s = record s { under_way = s.under_way - k; found = a; seen = true; owes = true }

-- it has forgotten k of its permits
abbrev pub with_lowered : ℕ → Seated → Seated
with_lowered k s = record s { permits = s.permits - k; forgotten = s.forgotten + k }

-- the same, by a call that has ended
abbrev pub with_forgotten : ℕ → Seated → Seated
with_forgotten k s = record (with_lowered k s) { course = outside }

-- it has found the limit n
abbrev pub with_limit : ℕ → Seated → Seated
with_limit n s = record s { limit = n }

-- it has found the limit n, and added k permits to it, which are under way
abbrev pub with_raised : ℕ → ℕ → Seated → Seated
with_raised k n s = record s { limit = n; under_way = s.under_way + k; added = s.added + k }

-- its entry of this number has joined for k permits
abbrev pub with_joined : ℕ → ℕ → Seated → Seated
with_joined entry k s = record s { listed = true; fresh = true; entry = entry; weight = k; seen = false }

-- its entry was notified, and has left
abbrev pub with_told : Seated → Seated
with_told s = record s { listed = false; fresh = false; owes = true; seen = false }

abbrev pub with_gone : Seated → Seated
with_gone s = record s { listed = false; fresh = false }

abbrev pub with_paid : Seated → Seated
with_paid s = record s { owes = false }

module _ (at : Place) where
  -- its call has come to this place, whose action is this
  abbrev pub IsAt : Action → Seated → Type 0
  IsAt act s = (s.course ≡ Do at) × (action_of at ≡ act)

  -- the action of this place found this
  abbrev pub goes : Found → Seated → Seated
  goes found s = record s { course = next_of at found }

-- it begins a call, at this place
abbrev pub with_begun : Place → Seated → Seated
with_begun at s = record s { course = Do at }

-- The seat has exactly so many permits of the semaphore, has no entry, and owes nothing.
abbrev pub Has : Semaphore → ℕ → Seated → Type 0
Has s k seat = (seat.table ≡ s.word.table) × (seat.permits ≡ k) × (seat.under_way ≡ 0) × (seat.owes ≡ false) × (seat.listed ≡ false) × (seat.fresh ≡ false)

-- The same, outside every call: the last one got it these.
abbrev pub Holds : Semaphore → ℕ → Seated → Type 0
Holds s k seat = Has s k seat × IsHolding k seat.course

-- The seat has nothing, and has neither added nor forgotten any.
abbrev pub IsNew : Semaphore → Seated → Type 0
IsNew s seat = Has s 0 seat × (seat.added ≡ 0) × (seat.forgotten ≡ 0)

-- The seat is one of the semaphore, and has added exactly so many permits in all, and forgotten none.
abbrev pub HasAdded : Semaphore → ℕ → Seated → Type 0
HasAdded s n seat = (seat.table ≡ s.word.table) × (seat.added ≡ n) × (seat.forgotten ≡ 0)

-- The seat has raised the semaphore's limit by exactly so many that it has to give, and has nothing else.
abbrev pub HasUnderWay : Semaphore → ℕ → Seated → Type 0
HasUnderWay s n seat = (seat.table ≡ s.word.table) × (seat.permits ≡ 0) × (seat.under_way ≡ n) × (seat.owes ≡ false) × (seat.listed ≡ false) × (seat.fresh ≡ false)

-- The seat has no permits, and its last look found fewer than so many.
abbrev pub IsShort : Semaphore → ℕ → Seated → Type 0
IsShort s k seat = Has s 0 seat × (seat.found < k)

-- The seat has no permits, and its last look at the limit found one that would pass its greatest value with so many more.
abbrev pub IsPastLimit : Semaphore → ℕ → Seated → Type 0
IsPastLimit s n seat = Has s 0 seat × (18446744073709551615 < seat.limit + n)
