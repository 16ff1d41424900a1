-- All parties are idle.
use Rattle.std.proofs.Common.{ℕ, ◌≡◌, ◌-◌, refl, arith}
use lib.Seq.{take-nil}
use Rattle.world_base.proofs.table.table.Table.new.Goals as goal

minus_none : (n : ℕ) → n - 0 ≡ n
minus_none n = omega arith

pub returns : goal.returns
returns g c =
    rw (c.in_ok-resize.ensures.items, c.new-stages.ensures.items, c.new-stages.ensures.len, take-nil c.args.parties, minus_none c.args.parties) refl
