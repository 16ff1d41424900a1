-- What a chain ends as whose entry's waker is lent to be written. No public clause cites this module.
use Rattle.std.specs.Prelude.{ℕ, Option}
use Rattle.std.specs.Borrow.{Lends, MutBor, Fml, RattleType}
use Rattle.std.specs.contracts.option.Option as option
use Rattle.lock_event.specs.Chains.{rewritten, with_waker}
use Rattle.lock_event.specs.Chained.{Chained}
use Rattle.lock_event.specs.contracts.chain.Chain.{the_row}

-- The chain whose entry in this slot keeps w.
abbrev pub chain_with : {W : Type 0} → Chained W → ℕ → Option W → Chained W
chain_with c key w = record c { entries = rewritten key (with_waker w) c.entries }

abbrev pub LendsWaker : (W : RattleType) → ℕ → MutBor (Chained W.Denot) → MutBor (Option W.Denot) → Fml
LendsWaker W key s r = Lends (the_row W) (option.the_row W) s r (chain_with s.now key)
