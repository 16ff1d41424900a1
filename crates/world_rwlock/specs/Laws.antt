-- What always holds of a read-write lock's World, between any two moves.
use Rattle.std.specs.Prelude.{◌≡◌, ℕ, ◌<◌, ◌≤◌, ◌⊎◌, Bool, true, false, length, Option, Some, None}
use Rattle.std.specs.List.{list_all}
use Rattle.lock_event.specs.Lists.{marked_count, IsMarkedFirst}
use Rattle.world_base.specs.queue.Parties.{entries_of}
use Rattle.world_base.specs.declared.moves.Answer.{Answer}
use Rattle.world_base.specs.declared.standing.Kind.{Kind}
use Rattle.world_base.specs.declared.standing.Kind.TheVariants as kind
use Rattle.world_base.specs.declared.standing.Rest.{Rest}
use Rattle.world_base.specs.declared.standing.Rest.TheVariants.{Idle, Pending, Holding}
use Rattle.world_base.specs.declared.standing.Within.{Within}
use Rattle.world_base.specs.Rights.{Right, read, upgradable, write, wait_to_write, excludes}
use Rattle.world_base.specs.Rosters.{how_many}
use Rattle.world_base.specs.Standings.{outside, inside, forgotten, is_outside}
use Rattle.world_rwlock.specs.State.{ListName, list_of, nobody, is_upgradable, waits_to_write, writes, World, standing_of, sought_by, reads, is_starved, is_marked, how_many_read, entries_in, has_to_tell, is_for_turn, for_the_turn, for_no_readers, for_no_writer}
use Rattle.world_rwlock.specs.Legal.{HasItsOwn}
use Rattle.world_base.specs.declared.moves.Answer.TheVariants as answer
use Rattle.world_base.specs.Standings.{Standing, is_decided}

-- The rights in the state.
abbrev pub HasRight : World → ℕ → Right → Type 0
HasRight w p read = reads w p ≡ true
HasRight w p upgradable = w.state.turn ≡ is_upgradable p
HasRight w p wait_to_write = w.state.turn ≡ waits_to_write p
HasRight w p write = w.state.turn ≡ writes p
HasRight w p _ = ⊥

-- The calls of a read-write lock that may take more than one step: a poll or a try of an idle party, a poll of a pending one, a drop of a future or a guard, and a downgrade of a guard.
abbrev pub is_long_call : Kind → Rest → Bool
is_long_call kind.FirstPoll Idle = true
is_long_call kind.LaterPoll Pending = true
is_long_call kind.Try Idle = true
is_long_call kind.Drop Pending = true
is_long_call kind.Drop Holding = true
is_long_call kind.Downgrade Holding = true
is_long_call _ _ = false

abbrev pub is_drop_kind : Kind → Bool
is_drop_kind kind.Drop = true
is_drop_kind k = false

-- Once its call is decided a party has to notify in a list, unless it is refused what it polls for there.
abbrev pub is_refused : Standing → Bool
is_refused (inside within (Some (answer.Refused n))) = true
is_refused t = false

abbrev pub OwesIn : ListName → World → ℕ → Bool → Type 0
OwesIn list w p polls = is_decided (standing_of w p) ≡ true → (has_to_tell list w p ≡ true) ⊎ ((is_refused (standing_of w p) ≡ true) × (polls ≡ true))

-- Whether a party that stands so and seeks this has still to notify in the turn's list, or to look at the turn: one in a poll for the turn that isn't decided; and whoever gives something back, by a drop or a downgrade, in a try in vain or as it is refused.
abbrev pub is_due_for_turn : Standing → Option Right → Bool
is_due_for_turn (inside within None) (Some upgradable) = true
is_due_for_turn (inside within None) (Some write) = true
is_due_for_turn (inside within (Some answer.GivenBack)) s = true
is_due_for_turn (inside within (Some answer.None)) s = true
is_due_for_turn (inside within (Some (answer.Refused n))) s = true
is_due_for_turn t s = false

-- Such a party stands in that list only while its poll isn't decided and it is starved.
pub record IsDueForTurn (w : World) (p : ℕ) : Type 0 where
  pub due : is_due_for_turn (standing_of w p) (sought_by w p) ≡ true
  pub owes : OwesIn for_the_turn w p (is_for_turn (sought_by w p))
  pub unlisted : (is_starved w p ≡ false) ⊎ (is_decided (standing_of w p) ≡ true) → entries_of p w.turn_list ≡ 0

abbrev pub is_to_read : Option Right → Bool
is_to_read (Some read) = true
is_to_read s = false

-- Whether it has still to notify readers, or to look for them: one in the poll of a read that isn't decided, and whoever gives something back or is refused.
abbrev pub is_due_to_readers : Standing → Option Right → Bool
is_due_to_readers (inside within None) (Some read) = true
is_due_to_readers (inside within (Some answer.GivenBack)) s = true
is_due_to_readers (inside within (Some (answer.Refused n))) s = true
is_due_to_readers t s = false

-- Such a party, not in their list.
pub record IsDueToReaders (w : World) (p : ℕ) : Type 0 where
  pub due : is_due_to_readers (standing_of w p) (sought_by w p) ≡ true
  pub owes : OwesIn for_no_writer w p (is_to_read (sought_by w p))
  pub unlisted : entries_of p w.no_writer ≡ 0

-- Whether it has still to notify the one that waits to write: whoever is in a drop.
abbrev pub is_due_to_writer : Standing → Bool
is_due_to_writer (inside within (Some answer.GivenBack)) = is_drop_kind within.kind
is_due_to_writer t = false

-- Such a party, that has to notify there and isn't in its list.
pub record IsDueToWriter (w : World) (p : ℕ) : Type 0 where
  pub due : is_due_to_writer (standing_of w p) ≡ true
  pub owes : has_to_tell for_no_readers w p ≡ true
  pub unlisted : entries_of p w.no_readers ≡ 0

pub record IsSound (w : World) : Type 0 where
  -- Two parties never have rights that exclude each other.
  pub exclusion : (p q : ℕ) (r s : Right) → HasRight w p r → HasRight w q s → excludes r s ≡ true → p ≡ q
  -- An upgradable party reads, and nobody reads while one writes.
  pub upgradable_reads : (p : ℕ) → w.state.turn ≡ is_upgradable p → reads w p ≡ true
  pub none_while_writing : (p : ℕ) → w.state.turn ≡ writes p → how_many_read w ≡ 0
  -- Each party has what its standing says.
  pub each : (p : ℕ) → HasItsOwn w p (standing_of w p)
  -- A party that is inside a call is in one that it could begin and that may take more than one step; and in a drop it seeks nothing.
  pub inside_calls : (p : ℕ) (u : Within) (decided : Option Answer) → standing_of w p ≡ inside u decided → is_long_call u.kind u.was ≡ true
  pub drops_seek_nothing : (p : ℕ) (u : Within) (decided : Option Answer) → standing_of w p ≡ inside u decided → u.kind ≡ kind.Drop → sought_by w p ≡ None
  -- A party outside every call has nothing to tell.
  pub told_before : (list : ListName) (p : ℕ) → has_to_tell list w p ≡ true → is_outside (standing_of w p) ≡ false
  -- It is known of each party what it seeks.
  pub as_many_seek : length w.sought ≡ length w.standings
  pub few_starved : how_many w.state.starved ≤ w.starved_limit
  -- Whenever what a list's parties wait for is free, and one that is outside every call stands there, some entry is marked, or somebody has still to notify there or to look.
  pub turn_told_or_due : w.state.turn ≡ nobody → (p : ℕ) → is_outside (standing_of w p) ≡ true → 0 < entries_of p w.turn_list → (0 < marked_count w.turn_list) ⊎ ((q : ℕ) × IsDueForTurn w q)
  pub reading_told_or_due : is_marked w.state.turn ≡ false → (p : ℕ) → is_outside (standing_of w p) ≡ true → 0 < entries_of p w.no_writer → (0 < marked_count w.no_writer) ⊎ ((q : ℕ) × IsDueToReaders w q)
  pub writing_told_or_due : how_many_read w ≡ 0 → (p : ℕ) → is_outside (standing_of w p) ≡ true → 0 < entries_of p w.no_readers → (0 < marked_count w.no_readers) ⊎ ((q : ℕ) × IsDueToWriter w q)
  -- No party stands in the lists twice, and in each the marked entries stand before the waiting ones.
  pub once : (p : ℕ) → entries_in w p ≤ 1
  pub in_order : (list : ListName) → IsMarkedFirst (list_of w list)
  -- One entry at most is marked in each list: one party at a time is told there.
  pub one_told : (list : ListName) → marked_count (list_of w list) ≤ 1

-- Nobody is inside a call.
abbrev pub is_at_rest : World → Bool
is_at_rest w = list_all is_outside w.standings

-- The turn is free and wanted: nobody has it, and some party waits for it in its list.
abbrev pub IsTurnWanted : World → Type 0
IsTurnWanted w = (w.state.turn ≡ nobody) × (0 < length w.turn_list)

-- Reading is free and wanted: nobody waits to write or writes, and some party waits for that.
abbrev pub IsReadingWanted : World → Type 0
IsReadingWanted w = (is_marked w.state.turn ≡ false) × (0 < length w.no_writer)

-- Writing is free and wanted: no reader is left, and a party waits for that.
abbrev pub IsWritingWanted : World → Type 0
IsWritingWanted w = (how_many_read w ≡ 0) × (0 < length w.no_readers)

-- At rest no notification is lost: where a list is free and wanted some entry there is marked; each entry belongs to a party that is pending, or was when it was forgotten; and each starved party has an entry for the turn.
pub record IsAwake (w : World) : Type 0 where
  pub turn_marked : IsTurnWanted w → 0 < marked_count w.turn_list
  pub reading_marked : IsReadingWanted w → 0 < marked_count w.no_writer
  pub writing_marked : IsWritingWanted w → 0 < marked_count w.no_readers
  pub pending : (p : ℕ) → 0 < entries_in w p → (standing_of w p ≡ outside Pending) ⊎ (standing_of w p ≡ forgotten)
  pub starved : (p : ℕ) → is_starved w p ≡ true → 0 < entries_of p w.turn_list
