use Rattle.std.proofs.Common.{sym, ap, ◌∙◌, subst}
use Rattle.lock_event.specs.Lists.{notified}
use Rattle.words_base.specs.Lists.{PaysAll}
use Rattle.lock_queue.specs.Queues.{Becomes}
use Rattle.lock_queue.proofs.Changes.{each_told, told_on}
use Rattle.lock_queue.proofs.list.notify_each.Goals as goal

pub returns : goal.returns
returns c = let old = c.args.event.now.entries in let mid = c.notify.new.self.entries in
    told_on old mid c.all_due.new.event.entries (subst (Becomes PaysAll old) (sym (c.notify.ensures.entries ∙ ap (notified old) c.len-all.ensures)) (each_told old)) c.all_due.ensures
