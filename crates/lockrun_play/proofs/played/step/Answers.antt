use Rattle.std.proofs.Common.{◌≡◌, ℕ, rules}
use Rattle.lockrun_play.proofs.played.step.Goals as goal

-- The move is that of this party.
pub returns-in-Ok-clause-legal : goal.returns-in-Ok-clause-legal
returns-in-Ok-clause-legal g c = λ small.
    let same : ◌≡◌ {A = ℕ} c.args.party c.in-Ok.party = search rules in
    rw same c.step.ensures
