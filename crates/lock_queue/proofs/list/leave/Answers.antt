use Rattle.std.proofs.Common.{sym, subst}
use Rattle.words_base.specs.Lists.{HandsOn}
use Rattle.lock_event.specs.Slots.{has_id}
use Rattle.lock_queue.specs.Queues.{Becomes}
use Rattle.lock_queue.specs.Sizes.{StaysNotified}
use Rattle.lock_queue.proofs.Sizing.{gone_without_waker, stays_notified}
use Rattle.lock_queue.proofs.Changes.{left_once, left_without_waker}
use Rattle.lock_queue.proofs.list.leave.Goals as goal

pub returns : goal.returns
returns c = let id = c.args.id in let old = c.args.event.now.entries in let mid = c.withdraw-kept.new.self.entries in let last = sym c.next_waker.ensures.entries in (
  subst (Becomes (HandsOn id.number) old) last (left_without_waker old mid id.number (left_once id old mid c.withdraw-kept.ensures.entries c.withdraw-kept.ensures.gone)),
  subst (StaysNotified old) last (gone_without_waker old mid (subst (StaysNotified old) (sym c.withdraw-kept.ensures.entries) (stays_notified (has_id id) old))),
)
