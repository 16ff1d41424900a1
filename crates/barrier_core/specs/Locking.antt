-- What a whole call on the inner lock came to, as a step of its party's program.
use Rattle.lock_program.specs.declared.end.End.TheVariants as ends
use Rattle.lock_program.specs.declared.mutex.Step.TheVariants as step
use Rattle.mutex_core.specs.declared.turn.Outcome.{Outcome}
use Rattle.mutex_core.specs.declared.turn.Outcome.TheVariants.{Got, Waits, Refused}
use Rattle.sync_program.specs.declared.barrier.Found.{Found}
use Rattle.sync_program.specs.declared.barrier.Found.TheVariants as finds

-- it has the lock
abbrev pub got : Found
got = finds.Lock (step.End ends.Got)

-- it goes on
abbrev pub more : Found
more = finds.Lock step.More

-- it gave back what it had
abbrev pub given_back : Found
given_back = finds.Lock (step.End ends.GivenBack)

-- a poll of the lock went so
abbrev pub polled : {T : Type 0} → Outcome T → Found
polled (Got held) = got
polled (Waits waiting) = finds.Lock (step.End ends.Pending)
polled (Refused refusal) = finds.Lock (step.End (ends.Refused refusal))
