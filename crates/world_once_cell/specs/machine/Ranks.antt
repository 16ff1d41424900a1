-- How many steps of a party's call are left, if the others stand still.
use Rattle.std.specs.Prelude.{ℕ, if◌then◌else◌, Bool}
use Rattle.lock_event.specs.Lists.{is_marked_at}
use Rattle.world_base.specs.queue.Parties.{is_party}
use Rattle.world_once_cell.specs.program.Program.{Place}
use Rattle.sync_program.specs.declared.once_cell.Place.TheVariants.{Claim, ClaimListed, JoinActive, AskActive, LeaveToMake, Make, Fill, NotifyActive, Fail, Look, JoinPassive, LookListed, AskPassive, Try, TryFill, TryNotifyActive, CancelMake}
use Rattle.world_once_cell.specs.program.Program.{Position}
use Rattle.sync_program.specs.declared.once_cell.Position.TheVariants.{At}
use Rattle.world_once_cell.specs.machine.Machine.{OnceCell, position_at}

-- How many steps are left at most from a place, by whether the party's own entry in `active` and its own in `passive` is marked.
abbrev pub left : Place → Bool → Bool → ℕ
left (Claim k told) active passive = 8
left (ClaimListed k) active passive = if active then 10 else 6
left (JoinActive k told) active passive = 7
left (AskActive k) active passive = if active then 9 else 1
left (LeaveToMake k) active passive = 5
left (Make k) active passive = 4
left (Fill v) active passive = 3
left (NotifyActive v) active passive = 2
left Fail active passive = 2
left (Look told) active passive = 4
left (JoinPassive told) active passive = 3
left LookListed active passive = if passive then 6 else 2
left AskPassive active passive = if passive then 5 else 1
left (Try v) active passive = 4
left (TryFill v) active passive = 3
left (TryNotifyActive v) active passive = 2
left CancelMake active passive = 2
left _ active passive = 1

-- Outside every program one step is left, that of a move which does nothing.
abbrev pub left_at : Position → Bool → Bool → ℕ
left_at (At x) active passive = left x active passive
left_at x active passive = 1

-- The party's own entries are marked.
abbrev pub active_marked : OnceCell → ℕ → Bool
active_marked s p = is_marked_at (is_party p) s.active

abbrev pub passive_marked : OnceCell → ℕ → Bool
passive_marked s p = is_marked_at (is_party p) s.passive

-- How many steps the party's call still takes at most if only this party moves, whatever is in the cell and in the lists.
abbrev pub steps_left : OnceCell → ℕ → ℕ
steps_left s p = left_at (position_at s.positions p) (active_marked s p) (passive_marked s p)
