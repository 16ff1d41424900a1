-- What the moves and answers alone tell of a party's rights. All Worlds may share this.
use Rattle.std.specs.Prelude.{◌≡◌, ℕ, ◌==◌, if◌then◌else◌, Bool, true, false, Option, Some, None, is_some}
use Rattle.world_base.specs.declared.moves.Answer.{Answer}
use Rattle.world_base.specs.declared.moves.Answer.TheVariants as answer
use Rattle.world_base.specs.declared.moves.Call.{Call}
use Rattle.world_base.specs.declared.moves.Call.TheVariants as call
use Rattle.world_base.specs.declared.moves.Move.{Move}
use Rattle.world_base.specs.declared.moves.What.{What}
use Rattle.world_base.specs.declared.moves.What.TheVariants.{Begin, Go}
use Rattle.world_base.specs.Rights.{Right, hold, read, upgradable, write, permit}

-- The right that a party's call, future or guard is for, and whether the party has it by its answers.
pub record Account : Type 0 where
  pub seeks : Option Right
  pub has : Bool

-- The right that a call is for, of a party that sought this one before. A drop is for none, and what is polled or put goes on seeking what it sought.
abbrev pub aim : Option Right → Call → Option Right
aim s call.Lock = Some hold
aim s call.TryLock = Some hold
aim s call.Read = Some read
aim s call.TryRead = Some read
aim s call.UpgradableRead = Some upgradable
aim s call.TryUpgradableRead = Some upgradable
aim s call.Write = Some write
aim s call.TryWrite = Some write
aim s call.Upgrade = Some write
aim s call.TryUpgrade = Some write
aim s call.Downgrade = Some read
aim s call.DowngradeToUpgradable = Some upgradable
aim s (call.Acquire k) = Some permit
aim s (call.TryAcquire k) = Some permit
aim s call.Drop = None
aim s call.Forget = None
aim s _ = s

-- The right that is sought after a move with this answer: a try in vain seeks nothing more, but a guard that couldn't be upgraded is what it was.
abbrev pub sought_after : Option Right → What → Answer → Option Right
sought_after s what answer.NotPossible = s
sought_after s (Begin call.TryUpgrade inputs) answer.None = s
sought_after s what answer.None = None
sought_after s (Begin c inputs) a = aim s c
sought_after s (Go inputs) a = s

-- The first event of a call that gives a right up or changes it takes the right away.
abbrev pub takes_away : What → Bool
takes_away (Begin call.Upgrade inputs) = true
takes_away (Begin call.TryUpgrade inputs) = true
takes_away (Begin call.Downgrade inputs) = true
takes_away (Begin call.DowngradeToUpgradable inputs) = true
takes_away (Begin call.Forget inputs) = true
takes_away (Begin call.Drop inputs) = true
takes_away _ = false

-- Ready and Granted give the right that is sought, where one is: not where permits were added. So does GivenBack, at the end of a downgrade but not of a drop.
abbrev pub has_after : Account → What → Answer → Bool
has_after k what (answer.Ready got) = is_some (sought_after k.seeks what (answer.Ready got))
has_after k what (answer.Granted got) = is_some (sought_after k.seeks what (answer.Granted got))
has_after k what answer.GivenBack = is_some (sought_after k.seeks what answer.GivenBack)
has_after k what answer.NotPossible = k.has
has_after k (Begin call.TryUpgrade inputs) answer.None = k.has
has_after k what a = if takes_away what then false else k.has

abbrev pub account_after : Account → What → Answer → Account
account_after k what a = record { seeks = sought_after k.seeks what a; has = has_after k what a }

-- The accounts of all parties after one more move.
abbrev pub accounts_after : (ℕ → Account) → Move → Answer → ℕ → Account
accounts_after known m a p = if m.party == p then account_after (known p) m.what a else known p

-- By its answers the party has this right.
abbrev pub HasByAnswers : Account → Right → Type 0
HasByAnswers k r = (k.has ≡ true) × (k.seeks ≡ Some r)
