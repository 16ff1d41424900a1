-- What a World's call asks of a read-write lock's programs, and what a step of the machine leads to by their table.
use Rattle.std.specs.Prelude.{Bool, Option, Some, None}
use Rattle.lock_program.specs.declared.end.End.{End}
use Rattle.lock_program.specs.declared.end.End.TheVariants as «end»
use Rattle.lock_program.specs.declared.end.Next.{Next as TableNext}
use Rattle.lock_program.specs.declared.end.Next.TheVariants as row
use Rattle.lock_program.specs.declared.refusal.Refusal.{Refusal}
use Rattle.sync_program.specs.declared.rwlock.Ending.{Ending}
use Rattle.sync_program.specs.declared.rwlock.Found.{Found}
use Rattle.sync_program.specs.declared.rwlock.Place.{Place}
use Rattle.sync_program.specs.declared.rwlock.Purpose.{Purpose}
use Rattle.sync_program.specs.declared.rwlock.RwLockCall.{RwLockCall}
use Rattle.sync_program.specs.declared.rwlock.RwLockCall.TheVariants as asks
use Rattle.sync_program.specs.ReadWrite as table
pub use Rattle.sync_program.specs.ReadWrite.{first_poll, poll_from, drop_from, action_of, with_turn, wanted_of}
use Rattle.world_base.specs.declared.moves.Call.{Call}
use Rattle.world_base.specs.declared.moves.Call.TheVariants as call
use Rattle.world_rwlock.specs.declared.program.led.Next.{Next}
use Rattle.world_rwlock.specs.declared.program.led.Next.TheVariants as next

-- what a call asks of the programs; nothing, if it is none of theirs
abbrev pub asked_of : Call → Option RwLockCall
asked_of call.Read = Some asks.Read
asked_of call.UpgradableRead = Some asks.UpgradableRead
asked_of call.Write = Some asks.Write
asked_of call.TryRead = Some asks.TryRead
asked_of call.TryUpgradableRead = Some asks.TryUpgradableRead
asked_of call.TryWrite = Some asks.TryWrite
asked_of call.Upgrade = Some asks.Upgrade
asked_of call.TryUpgrade = Some asks.TryUpgrade
asked_of call.Downgrade = Some asks.Downgrade
asked_of call.DowngradeToUpgradable = Some asks.DowngradeToUpgradable
asked_of call.Poll = Some asks.Poll
asked_of call.Drop = Some asks.Drop
asked_of _ = None

-- the place at which a call begins
abbrev pub started : Option RwLockCall → Place → Option Place
started (Some c) at = table.start_of c at
started None at = None

abbrev pub start_of : Call → Place → Option Place
start_of c at = started (asked_of c) at

-- what the machine tells of a row
abbrev pub led_by : TableNext Place Place → Next
led_by (row.Do p) = next.Do (table.action_of p) p
led_by (row.End «end».Waiting p) = next.Wait p
led_by (row.End e p) = next.End e p

abbrev pub go_to : Place → Next
go_to p = next.Do (table.action_of p) p

abbrev pub ends : End → Place → Next
ends e p = next.End e p

-- what a step leads to at a place where this was found, by the parts of the table
abbrev pub refuse_read : Bool → Refusal → Next
refuse_read told r = led_by (table.refuse_read told r)

abbrev pub after_read : Place → Found → Next
after_read p f = led_by (table.after_read p f)

abbrev pub after_lock : Purpose → Found → Next
after_lock p f = led_by (table.after_lock p f)

abbrev pub released : Ending → Next
released e = led_by (table.released e)

abbrev pub after_turn : Place → Found → Next
after_turn p f = led_by (table.after_turn p f)

abbrev pub after_write : Place → Found → Next
after_write p f = led_by (table.after_write p f)

abbrev pub after_giving_back : Place → Found → Next
after_giving_back p f = led_by (table.after_giving_back p f)

abbrev pub next_of : Place → Found → Next
next_of p f = led_by (table.next_of p f)

-- where a party stands after this
abbrev pub place_after : Next → Place
place_after (next.Do action p) = p
place_after (next.End e p) = p
place_after (next.Wait p) = p
