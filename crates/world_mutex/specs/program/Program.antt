-- What a step of a mutex's machine leads to, by the table of the mutex's places.
use Rattle.lock_program.specs.declared.end.End.{End}
use Rattle.lock_program.specs.declared.end.End.TheVariants.{Got, Pending}
use Rattle.lock_program.specs.declared.end.Next.{Next as TableNext}
use Rattle.lock_program.specs.declared.end.Next.TheVariants as table
use Rattle.lock_program.specs.declared.mutex.Found.{Found}
use Rattle.lock_program.specs.declared.mutex.Place.{Place}
use Rattle.lock_program.specs.declared.mutex.Place.TheVariants.{Out, Holding}
use Rattle.lock_program.specs.declared.mutex.Step.{Step}
use Rattle.lock_program.specs.declared.mutex.Step.TheVariants as step
use Rattle.lock_program.specs.Mutex as mutex
pub use Rattle.lock_program.specs.Mutex.{start_of, action_of}
use Rattle.world_mutex.specs.declared.program.led.Next.{Next}
use Rattle.world_mutex.specs.declared.program.led.Next.TheVariants as next

-- what the machine tells of a row, and where the party stands after it
abbrev pub led_by : TableNext Place Place → Next
led_by (table.Do p) = next.Do (mutex.action_of p) p
led_by (table.End e p) = next.End e

abbrev pub stands_by : TableNext Place Place → Place
stands_by (table.Do p) = p
stands_by (table.End e p) = p

abbrev pub go_to : Place → Next
go_to p = next.Do (mutex.action_of p) p

abbrev pub ends : End → Next
ends e = next.End e

-- what a step leads to at a place where this was found
abbrev pub next_of : Place → Found → Next
next_of p found = led_by (mutex.next_of p found)

-- where a party stands once its call has ended so
abbrev pub rest_at : Place → End → Place
rest_at p Got = Holding
rest_at p Pending = p
rest_at p e = Out

abbrev pub place_after : Place → Next → Place
place_after p (next.Do action q) = q
place_after p (next.End e) = rest_at p e

-- what is told of what comes next
abbrev pub step_of : Next → Step
step_of (next.Do action p) = step.More
step_of (next.End e) = step.End e
