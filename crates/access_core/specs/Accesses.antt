-- What contracts see of a lock's state and lists, and of a seat there.
use Rattle.std.specs.Prelude.{◌≡◌, ⊤, ℕ, suc, ◌/◌, ◌<◌, Bool, true, false, refl}
use Rattle.std.specs.Coded.{Coded, code_by, coded×, coded_ℕ, coded_bool}
use Rattle.atomic_table.specs.Seated.{TableId, table_id_coded}
use Rattle.words_access.specs.declared.view.View.{View}
use Rattle.access_core.specs.declared.lists.Side.{Side}
use Rattle.access_core.specs.declared.lists.Side.TheVariants as sides

-- A state with its lists: its table, with which source its waiters register, and how many may read.
pub record Lock : Type 0 where
  pub table : TableId
  pub source : ℕ
  pub limit : ℕ

abbrev pub lock_coded : Coded Lock
lock_coded = code_by (TableId × (ℕ × ℕ)) (coded× table_id_coded (coded× coded_ℕ coded_ℕ)) (λ l. (l.table, (l.source, l.limit))) (λ p. record { table = p.0; source = p.1.0; limit = p.1.1 }) (λ _. refl)

-- A seat: of which table it is, and which seat there; whether it has set the writer's bit, reads, and writes; what it owes; in which list it has an
-- entry, of which number, and whether it has not looked since it joined, or found its right free; what its last look, or its step into the readers, found; and
-- how many calls it has begun.
pub record Seated : Type 0 where
  pub table : TableId
  pub id : ℕ
  pub marks : Bool
  pub reads : Bool
  pub writes : Bool
  pub owes_readers : Bool
  pub owes_writer : Bool
  pub in_readers : Bool
  pub in_writer : Bool
  pub fresh : Bool
  pub entry : ℕ
  pub found : ℕ
  pub calls : ℕ

abbrev pub seated_coded : Coded Seated
seated_coded = code_by (TableId × (ℕ × (Bool × (Bool × (Bool × (Bool × (Bool × (Bool × (Bool × (Bool × (ℕ × (ℕ × ℕ))))))))))))
    (coded× table_id_coded (coded× coded_ℕ (coded× coded_bool (coded× coded_bool (coded× coded_bool (coded× coded_bool (coded× coded_bool (coded× coded_bool (coded× coded_bool (coded× coded_bool (coded× coded_ℕ (coded× coded_ℕ coded_ℕ))))))))))))
    (λ s. (s.table, (s.id, (s.marks, (s.reads, (s.writes, (s.owes_readers, (s.owes_writer, (s.in_readers, (s.in_writer, (s.fresh, (s.entry, (s.found, s.calls)))))))))))))
    (λ p. record { table = p.0; id = p.1.0; marks = p.1.1.0; reads = p.1.1.1.0; writes = p.1.1.1.1.0; owes_readers = p.1.1.1.1.1.0; owes_writer = p.1.1.1.1.1.1.0; in_readers = p.1.1.1.1.1.1.1.0; in_writer = p.1.1.1.1.1.1.1.1.0; fresh = p.1.1.1.1.1.1.1.1.1.0; entry = p.1.1.1.1.1.1.1.1.1.1.0; found = p.1.1.1.1.1.1.1.1.1.1.1.0; calls = p.1.1.1.1.1.1.1.1.1.1.1.1 })
    (λ _. refl)

abbrev pub seated : TableId → ℕ → View → ℕ → Seated
seated table id v calls = record { table = table; id = id; marks = v.marks; reads = v.reads; writes = v.writes; owes_readers = v.owes_readers; owes_writer = v.owes_writer; in_readers = v.in_readers; in_writer = v.in_writer; fresh = v.fresh; entry = v.entry; found = v.found; calls = calls }

-- The seat is one of the lock.
abbrev pub IsOf : Lock → Seated → Type 0
IsOf lock seat = seat.table ≡ lock.table

-- It is one of the lock, and came in where it found fewer readers than the lock's own limit.
abbrev pub IsLetIn : Lock → Seated → Type 0
IsLetIn lock seat = IsOf lock seat × (seat.found / 2 < lock.limit)

-- a seat with nothing
abbrev pub entering : Lock → ℕ → Seated
entering lock id = record { table = lock.table; id = id; marks = false; reads = false; writes = false; owes_readers = false; owes_writer = false; in_readers = false; in_writer = false; fresh = false; entry = 0; found = 0; calls = 0 }

-- a seat that owes the readers, and has nothing else
abbrev pub owing : Lock → ℕ → Seated
owing lock id = record (entering lock id) { owes_readers = true }

-- it begins a call
abbrev pub with_call : Seated → Seated
with_call s = record s { calls = suc s.calls }

-- The seat is the same one, and has begun no call since; or has begun one, and no more.
abbrev pub IsInCall : Seated → Seated → Type 0
IsInCall s t = (t.table ≡ s.table) × (t.id ≡ s.id) × (t.calls ≡ s.calls)

abbrev pub IsInNextCall : Seated → Seated → Type 0
IsInNextCall s t = IsInCall (with_call s) t

-- what a look and each other step makes of a seat
abbrev pub with_found : ℕ → Seated → Seated
with_found n s = record s { found = n }

abbrev pub with_saw_writer : ℕ → Seated → Seated
with_saw_writer n s = record s { owes_readers = false; fresh = false; found = n }

abbrev pub with_saw_readers : ℕ → Seated → Seated
with_saw_readers n s = record s { owes_writer = false; fresh = false; found = n }

abbrev pub with_reading : ℕ → Seated → Seated
with_reading n s = record s { reads = true; found = n }

abbrev pub with_left : ℕ → Seated → Seated
with_left n s = record s { reads = false; found = n }

abbrev pub with_last_left : ℕ → Seated → Seated
with_last_left n s = record s { reads = false; owes_writer = true; found = n }

abbrev pub with_writing : Seated → Seated
with_writing s = record s { marks = true; reads = false; writes = true; owes_writer = false; fresh = false }

abbrev pub with_mark : Seated → Seated
with_mark s = record s { marks = true }

abbrev pub with_upgrade : Seated → Seated
with_upgrade s = record s { marks = true; reads = false }

abbrev pub with_down : Seated → Seated
with_down s = record s { marks = false; writes = false; reads = true; owes_readers = true }

-- it reads in place of writing, and owes nothing any more
abbrev pub with_downgrade : Seated → Seated
with_downgrade s = record s { marks = false; writes = false; reads = true }

abbrev pub with_unmarked : Seated → Seated
with_unmarked s = record s { marks = false; writes = false; owes_readers = true }

-- another seat owes the readers in its place
abbrev pub with_relief : Seated → Seated
with_relief s = record s { owes_readers = false }

abbrev pub with_ease : Seated → Seated
with_ease s = record s { owes_readers = false; owes_writer = false }

-- what the calls on the list of this name make of it: its entry n has joined; was notified, and has left; has left; and one of the list is notified
abbrev pub with_joined : Side → ℕ → Seated → Seated
with_joined sides.Readers n s = record s { in_readers = true; fresh = true; entry = n }
with_joined sides.Writer n s = record s { in_writer = true; fresh = true; entry = n }

abbrev pub with_told : Side → Seated → Seated
with_told sides.Readers s = record s { in_readers = false; owes_readers = true }
with_told sides.Writer s = record s { in_writer = false; owes_writer = true }

abbrev pub with_gone : Side → Seated → Seated
with_gone sides.Readers s = record s { in_readers = false; fresh = false }
with_gone sides.Writer s = record s { in_writer = false; fresh = false }

abbrev pub with_paid : Side → Seated → Seated
with_paid sides.Readers s = record s { owes_readers = false }
with_paid sides.Writer s = record s { owes_writer = false }

-- It may join the list of this name: the writer's, if it has set the writer's bit.
abbrev pub MayJoin : Side → Seated → Type 0
MayJoin sides.Readers s = ⊤
MayJoin sides.Writer s = s.marks ≡ true

-- It stands in the list of this name, and not in the other; and does so with the entry n.
abbrev pub IsIn : Side → Seated → Type 0
IsIn sides.Readers s = (s.in_readers ≡ true) × (s.in_writer ≡ false)
IsIn sides.Writer s = (s.in_writer ≡ true) × (s.in_readers ≡ false)

abbrev pub StandsIn : Side → ℕ → Seated → Type 0
StandsIn side n s = IsIn side s × (s.entry ≡ n)

-- it owes nothing, stands in no list, and isn't fresh
abbrev pub IsCalm : Seated → Type 0
IsCalm s = (s.owes_readers ≡ false) × (s.owes_writer ≡ false) × (s.in_readers ≡ false) × (s.in_writer ≡ false) × (s.fresh ≡ false)

-- it has and owes nothing; reads; has set the writer's bit; writes; and nothing else
abbrev pub IsIdle : Seated → Type 0
IsIdle s = (s.marks ≡ false) × (s.reads ≡ false) × (s.writes ≡ false) × IsCalm s

abbrev pub IsReading : Seated → Type 0
IsReading s = (s.marks ≡ false) × (s.reads ≡ true) × (s.writes ≡ false) × IsCalm s

abbrev pub IsMarking : Seated → Type 0
IsMarking s = (s.marks ≡ true) × (s.reads ≡ false) × (s.writes ≡ false) × IsCalm s

abbrev pub IsWriting : Seated → Type 0
IsWriting s = (s.marks ≡ true) × (s.reads ≡ false) × (s.writes ≡ true) × IsCalm s

-- It waits in the readers' list with the entry n, and has looked; or has set the bit and waits so in the writer's list. It owes nothing.
abbrev pub WaitsToRead : ℕ → Seated → Type 0
WaitsToRead n s = (s.marks ≡ false) × (s.reads ≡ false) × (s.writes ≡ false) × (s.owes_readers ≡ false) × (s.owes_writer ≡ false) × (s.in_readers ≡ true) × (s.in_writer ≡ false) × (s.fresh ≡ false) × (s.entry ≡ n)

abbrev pub WaitsToWrite : ℕ → Seated → Type 0
WaitsToWrite n s = (s.marks ≡ true) × (s.reads ≡ false) × (s.writes ≡ false) × (s.owes_readers ≡ false) × (s.owes_writer ≡ false) × (s.in_readers ≡ false) × (s.in_writer ≡ true) × (s.fresh ≡ false) × (s.entry ≡ n)
