-- An entry that is there and isn't marked would wait.
use Rattle.std.proofs.Common.{None, sym, ◌∙◌, true≢false}
use Rattle.lock_queue.proofs.Keeping.{waits_unmarked}
use Rattle.lock_queue.proofs.Changes.{gone_once}
use Rattle.lock_queue.proofs.list.told.Goals as goal

pub unreachable-requires : goal.unreachable-requires
unreachable-requires c =
    let asked = c.in-Waiting.ensures.asked in
    true≢false (sym (waits_unmarked c.args.id _ asked.0 asked.1) ∙ c.requires)

pub returns-in-Notified : goal.returns-in-Notified
returns-in-Notified c = gone_once c.args.id None c.args.event.now.entries c.ask.new.self.entries c.ask.result c.ask.ensures.asked (c.ask.ensures.gone c.requires)

pub returns-in-Unlisted : goal.returns-in-Unlisted
returns-in-Unlisted c = gone_once c.args.id None c.args.event.now.entries c.ask.new.self.entries c.ask.result c.ask.ensures.asked (c.ask.ensures.gone c.requires)
