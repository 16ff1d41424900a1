use Rattle.std.proofs.Common.{sym}
use Rattle.weighted_event.proofs.Ranks.{none_alike}
use Rattle.weighted_event.proofs.weighted.alike.Goals as goal

pub returns-then-is_some-clause-found : goal.returns-then-is_some-clause-found
returns-then-is_some-clause-found g c = sym (none_alike c.args.weight c.args.a c.args.chain.now.entries c.requires.alike c.if-weight-a.false)
