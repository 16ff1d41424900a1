-- Which calls a party may make by where it stands, if it is outside every call.
use Rattle.std.specs.Prelude.{Bool, true, false}
use Rattle.world_base.specs.declared.moves.Call.{Call}
use Rattle.world_base.specs.declared.moves.Call.TheVariants as call
use Rattle.sync_program.specs.declared.rwlock.Place.{Place}
use Rattle.sync_program.specs.declared.rwlock.Place.TheVariants.{Upgradable, Writing}

abbrev pub may_upgrade : Place → Bool
may_upgrade Upgradable = true
may_upgrade _ = false

abbrev pub may_downgrade : Place → Bool
may_downgrade Upgradable = true
may_downgrade Writing = true
may_downgrade _ = false

abbrev pub may_put : Place → Bool
may_put Writing = true
may_put _ = false

-- which calls are known of a party that stands here: a guard's own calls of that guard alone
abbrev pub knows_at : Place → Call → Bool
knows_at x call.Read = true
knows_at x call.UpgradableRead = true
knows_at x call.Write = true
knows_at x call.TryRead = true
knows_at x call.TryUpgradableRead = true
knows_at x call.TryWrite = true
knows_at x call.Poll = true
knows_at x call.Drop = true
knows_at x call.Upgrade = may_upgrade x
knows_at x call.TryUpgrade = may_upgrade x
knows_at x call.Downgrade = may_downgrade x
knows_at x call.DowngradeToUpgradable = may_put x
knows_at x (call.Put v) = may_put x
knows_at x _ = false
