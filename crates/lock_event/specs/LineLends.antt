-- What a line ends as whose entry's waker is lent to be written. No public clause cites this module.
use Rattle.std.specs.Prelude.{ℕ, Option}
use Rattle.std.specs.Borrow.{Lends, MutBor, Fml, RattleType}
use Rattle.std.specs.contracts.option.Option as option
use Rattle.lock_event.specs.Chained.{Chained}
use Rattle.lock_event.specs.ChainLends.{chain_with}
use Rattle.lock_event.specs.contracts.line.Line.{the_row}

abbrev pub LendsLineWaker : (W : RattleType) → ℕ → MutBor (Chained W.Denot) → MutBor (Option W.Denot) → Fml
LendsLineWaker W key s r = Lends (the_row W) (option.the_row W) s r (chain_with s.now key)
