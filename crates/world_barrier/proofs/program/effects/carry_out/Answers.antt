-- All that the inner lock says of its step; and a leader notifies all.
use Rattle.world_barrier.proofs.program.effects.carry_out.Goals as goal

pub returns-in-Go-clause-lock : goal.returns-in-Go-clause-lock
returns-in-Go-clause-lock c = rw c.in-Go.is c.go.ensures

pub returns-in-NotifyAll-clause-list : goal.returns-in-NotifyAll-clause-list
returns-in-NotifyAll-clause-list c = rw c.in-NotifyAll.is c.notify.ensures
