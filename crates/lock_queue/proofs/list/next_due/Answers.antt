use Rattle.std.proofs.Common.{sym, subst}
use Rattle.words_base.specs.Lists.{Stays}
use Rattle.lock_queue.specs.Queues.{Becomes}
use Rattle.lock_queue.specs.Sizes.{IsSameSize}
use Rattle.lock_queue.proofs.Changes.{kept_without_waker}
use Rattle.lock_queue.proofs.Sizing.{waker_size}
use Rattle.lock_queue.proofs.list.next_due.Goals as goal

pub returns : goal.returns
returns c = let old = c.args.event.now.entries in let is = sym c.next_waker.ensures.entries in (subst (Becomes Stays old) is (kept_without_waker old), subst (IsSameSize old) is (waker_size old))
