-- What a step does to the numbers.
use Rattle.world_once_cell.proofs.Prelude.{◌≡◌, ◌+◌, ◌<◌, ◌≤◌, Bool, true, false, ListFunction, joins, asks, leaves, notifies, notifies_additionally, Counted, Action, Found, Active, Position, everyone, in_active, waits, owes, Tally, Counts}
use Rattle.sync_program.specs.declared.once_cell.Action.TheVariants as act
use Rattle.sync_program.specs.declared.once_cell.Found.TheVariants as found

abbrev pub SameList : Tally → Tally → Type 0
SameList s t = (t.size ≡ s.size) × (t.marked ≡ s.marked)

abbrev pub Same : Tally → Tally → Type 0
Same s t = (t.free ≡ s.free) × SameList s t

abbrev pub ListDid : ListFunction → Bool → Tally → Tally → Type 0
ListDid f told s t = (t.free ≡ s.free) × Counted f told s.size s.marked t.size t.marked

-- what an action does to the numbers where it finds this
abbrev pub OnTally : Action → Found → Tally → Tally → Type 0
OnTally act.Claim found.Empty s t = (s.free ≡ 1) × (t.free ≡ 0) × SameList s t
OnTally act.Claim found.BeingMade s t = (s.free ≡ 0) × Same s t
OnTally act.Claim (found.Full v) s t = (s.free ≡ 0) × Same s t
OnTally act.Claim _ s t = ⊥
OnTally (act.Fill v) found.Done s t = (t.free ≡ 0) × SameList s t
OnTally (act.Fill v) _ s t = ⊥
OnTally act.Empty found.Done s t = (t.free ≡ 1) × SameList s t
OnTally act.Empty _ s t = ⊥
OnTally (act.Join Active) found.Done s t = ListDid joins false s t
OnTally (act.Join Active) found.NoMemory s t = Same s t
OnTally (act.Join Active) _ s t = ⊥
OnTally (act.Ask Active) found.Yes s t = ListDid asks true s t
OnTally (act.Ask Active) found.No s t = ListDid asks false s t
OnTally (act.Ask Active) _ s t = ⊥
OnTally (act.Leave Active) found.Done s t = ListDid leaves false s t
OnTally (act.Leave Active) _ s t = ⊥
OnTally (act.Notify Active) found.Done s t = ListDid (notifies 1) false s t
OnTally (act.Notify Active) _ s t = ⊥
OnTally (act.NotifyAll Active) found.Done s t = (0 < s.size → 0 < t.marked) × ListDid (notifies_additionally everyone) false s t
OnTally (act.NotifyAll Active) _ s t = ⊥
OnTally _ _ s t = Same s t

-- one party goes from x to y
pub record Goes (x y : Position) (a b : Counts) : Type 0 where
  pub listed : b.listed + in_active x ≡ a.listed + in_active y
  pub waiting : b.waiting + waits x ≡ a.waiting + waits y
  pub owing : b.owing + owes x ≡ a.owing + owes y
  -- the party is one of those that are counted
  pub owes_itself : owes y ≤ b.owing
