use Rattle.lock_queue.proofs.Changes.{kept_same, kept_on}
use Rattle.lock_queue.proofs.list.all_due.Goals as goal

pub loop-init : goal.loop-init
loop-init c = kept_same c.args.event.now.entries

pub returns-in-Err : goal.returns-in-Err
returns-in-Err c = kept_on c.args.event.now.entries c.loop.event.entries c.next_due.new.event.entries c.loop.invariant c.next_due.ensures.0

pub loop-preserved : goal.loop-preserved
loop-preserved c = kept_on c.args.event.now.entries c.loop.event.entries c.next_due.new.event.entries c.loop.invariant c.next_due.ensures.0

pub returns-in_default : goal.returns-in_default
returns-in_default c = kept_on c.args.event.now.entries c.loop.event.entries c.next_due.new.event.entries c.loop.invariant c.next_due.ensures.0
