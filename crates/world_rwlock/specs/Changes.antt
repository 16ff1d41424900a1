-- What may change of a read-write lock's state in one step, and where.
use Rattle.std.specs.Prelude.{◌≡◌, ℕ, ◌<◌, ◌⊎◌, Bool, true, false, List, Some, slice_set}
use Rattle.lock_event.specs.declared.event.Entry.{Entry}
use Rattle.world_base.specs.Rosters.{how_many}
use Rattle.world_base.specs.Steps.{Effect, nothing, changes, does, leaves, list_after, is_parting}
use Rattle.world_rwlock.specs.State.{ListName, for_the_turn, for_no_readers, for_no_writer, Turn, nobody, passes, is_upgradable, waits_to_write, writes, State, World, reads, is_starved, is_marked, how_many_read}
use Rattle.world_base.specs.Steps.{notifies, notifies_additionally}
use Rattle.world_base.specs.queue.Parties.{entries_of}
use Rattle.world_base.specs.Rights.{read}
use Rattle.world_rwlock.specs.State.{HasTurn, sought_by, is_for_turn, has_to_tell}

-- The changes of the state, each the moving party's own.
pub data Change : Type 0 where
  -- the turn is taken, and left again
  takes_turn : Change
  leaves_turn : Change
  -- the party is counted as starved for the turn, or no more
  starves : Change
  recovers : Change
  -- it reads, or no more
  begins_to_read : Change
  stops_reading : Change
  -- with the turn it becomes upgradable, or no more
  becomes_upgradable : Change
  stops_upgradable : Change
  -- with the turn it waits until no reader is left, and writes
  begins_to_wait : Change
  begins_to_write : Change
  -- an upgradable party waits to write, or writes at once
  upgrades : Change
  upgrades_at_once : Change
  -- it waits or writes no more, and keeps the turn
  unmarks : Change
  -- a writer becomes a reader that still has the turn, or an upgradable one
  downgrades : Change
  downgrades_to_upgradable : Change
  -- a writer leaves a value
  puts : ℕ → Change

abbrev pub turn_after : ℕ → Effect Change ListName → Turn → Turn
turn_after p (changes takes_turn) t = passes p
turn_after p (changes leaves_turn) t = nobody
turn_after p (changes becomes_upgradable) t = is_upgradable p
turn_after p (changes stops_upgradable) t = passes p
turn_after p (changes begins_to_wait) t = waits_to_write p
turn_after p (changes begins_to_write) t = writes p
turn_after p (changes upgrades) t = waits_to_write p
turn_after p (changes upgrades_at_once) t = writes p
turn_after p (changes unmarks) t = passes p
turn_after p (changes downgrades) t = passes p
turn_after p (changes downgrades_to_upgradable) t = is_upgradable p
turn_after p _ t = t

abbrev pub readers_after : ℕ → Effect Change ListName → List Bool → List Bool
readers_after p (changes begins_to_read) rs = slice_set rs p true
readers_after p (changes becomes_upgradable) rs = slice_set rs p true
readers_after p (changes downgrades) rs = slice_set rs p true
readers_after p (changes downgrades_to_upgradable) rs = slice_set rs p true
readers_after p (changes stops_reading) rs = slice_set rs p false
readers_after p (changes stops_upgradable) rs = slice_set rs p false
readers_after p (changes upgrades) rs = slice_set rs p false
readers_after p (changes upgrades_at_once) rs = slice_set rs p false
readers_after p _ rs = rs

abbrev pub starved_after : ℕ → Effect Change ListName → List Bool → List Bool
starved_after p (changes starves) s = slice_set s p true
starved_after p (changes recovers) s = slice_set s p false
starved_after p _ s = s

abbrev pub value_after : Effect Change ListName → ℕ → ℕ
value_after (changes (puts v)) old = v
value_after _ old = old

abbrev pub state_after : ℕ → Effect Change ListName → State → State
state_after p d s = record { readers = readers_after p d s.readers; turn = turn_after p d s.turn; starved = starved_after p d s.starved; value = value_after d s.value }

-- A list function changes its own list alone.
abbrev pub entries_after : ℕ → Effect Change ListName → ListName → List (Entry ℕ) → List (Entry ℕ)
entries_after p (does for_the_turn f) for_the_turn l = list_after p f l
entries_after p (does for_no_readers f) for_no_readers l = list_after p f l
entries_after p (does for_no_writer f) for_no_writer l = list_after p f l
entries_after p d list l = l

-- Where a change may be made. The turn is taken where nobody has it, and nobody is starved for it or the taker is; a party is counted as starved for it that wants it; reading begins beside no writer and below the limit, or by a writer's own downgrade; and writing begins where no reader is left, or the writer was the only one.
abbrev pub May : ℕ → Change → World → Type 0
May p takes_turn w = (w.state.turn ≡ nobody) × ((how_many w.state.starved ≡ 0) ⊎ (is_starved w p ≡ true))
May p leaves_turn w = (w.state.turn ≡ passes p) ⊎ (w.state.turn ≡ is_upgradable p)
May p starves w = (is_starved w p ≡ false) × (how_many w.state.starved < w.starved_limit) × (is_for_turn (sought_by w p) ≡ true)
May p recovers w = is_starved w p ≡ true
May p begins_to_read w = (is_marked w.state.turn ≡ false) × (how_many_read w < w.readers_limit)
May p stops_reading w = reads w p ≡ true
May p becomes_upgradable w = (w.state.turn ≡ passes p) × (how_many_read w < w.readers_limit)
May p stops_upgradable w = w.state.turn ≡ is_upgradable p
May p begins_to_wait w = (w.state.turn ≡ passes p) × (0 < how_many_read w)
May p begins_to_write w = ((w.state.turn ≡ passes p) ⊎ (w.state.turn ≡ waits_to_write p)) × (how_many_read w ≡ 0)
May p upgrades w = w.state.turn ≡ is_upgradable p
May p upgrades_at_once w = (w.state.turn ≡ is_upgradable p) × (how_many_read w ≡ 1)
May p unmarks w = (w.state.turn ≡ waits_to_write p) ⊎ (w.state.turn ≡ writes p)
May p downgrades w = w.state.turn ≡ writes p
May p downgrades_to_upgradable w = w.state.turn ≡ writes p
May p (puts v) w = w.state.turn ≡ writes p

-- In the turn's list one notifies who has to tell there, or seeks the turn; whoever has it notifies nobody, nor does a party that stands there unless it is starved.
pub record MayTell (w : World) (p n : ℕ) : Type 0 where
  pub one : n ≡ 1
  pub cause : (has_to_tell for_the_turn w p ≡ true) ⊎ (is_for_turn (sought_by w p) ≡ true)
  pub without_turn : HasTurn w.state.turn p → ⊥
  pub starved : 0 < entries_of p w.turn_list → is_starved w p ≡ true

-- Beside the changes, one notifies one in each list, and not beside one that was notified before: the writer whoever has to tell it, and readers whoever has to tell them or seeks to read.
abbrev pub IsAllowed : ℕ → Effect Change ListName → World → Type 0
IsAllowed p (changes c) w = May p c w
IsAllowed p (does for_the_turn (notifies n)) w = MayTell w p n
IsAllowed p (does for_no_writer (notifies n)) w = (n ≡ 1) × ((has_to_tell for_no_writer w p ≡ true) ⊎ (sought_by w p ≡ Some read))
IsAllowed p (does for_no_readers (notifies n)) w = (n ≡ 1) × (has_to_tell for_no_readers w p ≡ true)
IsAllowed p (does list (notifies_additionally n)) w = ⊥
IsAllowed p _ w = Unit {0}

-- Once its call is decided, a party only gives back: the turn, its starved count, a right, the writer's bit, its entry, a notification.
abbrev pub gives_back : Effect Change ListName → Bool
gives_back nothing = true
gives_back (changes leaves_turn) = true
gives_back (changes recovers) = true
gives_back (changes stops_reading) = true
gives_back (changes stops_upgradable) = true
gives_back (changes unmarks) = true
gives_back (changes _) = false
gives_back (does list f) = is_parting f

-- What gives something up: the turn, a right, the writer's bit, or a place in a list of readers or of the writer without asking there.
abbrev pub gives_up : Effect Change ListName → Bool
gives_up (changes leaves_turn) = true
gives_up (changes stops_reading) = true
gives_up (changes stops_upgradable) = true
gives_up (changes unmarks) = true
gives_up (does for_no_readers leaves) = true
gives_up (does for_no_writer leaves) = true
gives_up _ = false
