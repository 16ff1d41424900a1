-- What is known of the parties' rights by moves and answers alone, where a run begins and after each step, in any World.
use Rattle.std.specs.Prelude.{◌≡◌, ℕ, true, false, Option, Some, None, is_some}
use Rattle.world_base.specs.declared.standing.Kind.{Kind}
use Rattle.world_base.specs.declared.standing.Kind.TheVariants as kind
use Rattle.world_base.specs.declared.standing.Rest.TheVariants.{Pending, Holding}
use Rattle.world_base.specs.Accounts.{Account}
use Rattle.world_base.specs.Rights.{Right}
use Rattle.world_base.specs.Standings.{Standing, outside, inside, forgotten}

-- What is known of a party that stands so, seeks this right and has that one in the state: a guard has the right that it is for; and whoever is forgotten, what it has in the state. Nobody else has a right by answers: inside a call its answer is still to come.
abbrev pub account_by : Standing → Option Right → Option Right → Account
account_by (outside Holding) seeks right = record { seeks = seeks; has = true }
account_by forgotten seeks right = record { seeks = right; has = is_some right }
account_by s seeks right = record { seeks = seeks; has = false }

-- What a call is for, in a World with one right: a poll and a try are for that.
abbrev pub sought_in : Right → Kind → Option Right
sought_in r kind.FirstPoll = Some r
sought_in r kind.LaterPoll = Some r
sought_in r kind.Try = Some r
sought_in r _ = None

-- What a party seeks that stands so, or has, in such a World.
abbrev pub sought_by : Right → Standing → Option Right
sought_by r (outside Pending) = Some r
sought_by r (outside Holding) = Some r
sought_by r (inside w decided) = sought_in r w.kind
sought_by r _ = None

-- What is known tells each party's right.
abbrev pub TellsAccounts : {W : Type 0} → (W → ℕ → Account) → (ℕ → Account) → W → Type 0
TellsAccounts accounts_of known w = (p : ℕ) → known p ≡ accounts_of w p
