use Rattle.std.proofs.Common.{sym, subst}
use Rattle.words_base.specs.Lists.{Pays}
use Rattle.lock_queue.specs.Queues.{Becomes}
use Rattle.lock_queue.specs.Sizes.{IsOneNotified}
use Rattle.lock_queue.proofs.Changes.{one_told, told_without_waker}
use Rattle.lock_queue.proofs.Sizing.{notified_size, notified_without_waker}
use Rattle.lock_queue.proofs.list.notify.Goals as goal

pub returns : goal.returns
returns c = let old = c.args.event.now.entries in let mid = c.notify.new.self.entries in let last = sym c.next_waker.ensures.entries in let first = sym c.notify.ensures.entries in (
  subst (Becomes Pays old) last (told_without_waker old mid (subst (Becomes Pays old) first (one_told old))),
  subst (IsOneNotified old) last (notified_without_waker old mid (subst (IsOneNotified old) first (notified_size old))),
)
