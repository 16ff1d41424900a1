-- What a step does to the numbers.
use Rattle.world_mutex.proofs.Prelude.{◌≡◌, ◌+◌, ◌<◌, ◌≤◌, ◌≢◌, Bool, true, false, ListFunction, joins, asks, leaves, notifies, Counted, Place, Action, Found, Done, Free, Held, SomeStarved, AtLimit, NoMemory, Yes, No, Tally, Counts, holds, counted, listed as stands, waits, owes}

abbrev pub SameWord : Tally → Tally → Type 0
SameWord s t = (t.held ≡ s.held) × (t.starved ≡ s.starved) × (t.limit ≡ s.limit)

abbrev pub SameList : Tally → Tally → Type 0
SameList s t = (t.size ≡ s.size) × (t.marked ≡ s.marked)

abbrev pub ListDid : ListFunction → Bool → Tally → Tally → Type 0
ListDid f told s t = SameWord s t × Counted f told s.size s.marked t.size t.marked

-- what an action does to the numbers where it finds this
abbrev pub OnTally : Action → Found → Tally → Tally → Type 0
OnTally Action.Nothing Done s t = SameWord s t × SameList s t
OnTally Action.Take Free s t = (s.held ≡ 0) × (s.starved ≡ 0) × (t.held ≡ 1) × (t.starved ≡ s.starved) × (t.limit ≡ s.limit) × SameList s t
OnTally Action.Take (Held starving) s t = (s.held ≡ 1) × (s.starved ≡ 0) × SameWord s t × SameList s t
OnTally Action.Take SomeStarved s t = (0 < s.starved) × SameWord s t × SameList s t
OnTally Action.TakeAlone Free s t = (s.held ≡ 0) × (s.starved ≡ 1) × (t.held ≡ 1) × (t.starved ≡ s.starved) × (t.limit ≡ s.limit) × SameList s t
OnTally Action.TakeAlone (Held starving) s t = (s.held ≡ 1) × SameWord s t × SameList s t
OnTally Action.TakeAlone SomeStarved s t = (s.held ≡ 0) × (s.starved ≢ 1) × SameWord s t × SameList s t
OnTally Action.Set Free s t = (s.held ≡ 0) × (t.held ≡ 1) × (t.starved ≡ s.starved) × (t.limit ≡ s.limit) × SameList s t
OnTally Action.Set (Held starving) s t = (s.held ≡ 1) × SameWord s t × SameList s t
OnTally Action.Count Done s t = (s.starved < s.limit) × (t.held ≡ s.held) × (t.starved ≡ s.starved + 1) × (t.limit ≡ s.limit) × SameList s t
OnTally Action.Count AtLimit s t = (s.starved ≡ s.limit) × SameWord s t × SameList s t
OnTally Action.Uncount Done s t = (t.held ≡ s.held) × (t.starved + 1 ≡ s.starved) × (t.limit ≡ s.limit) × SameList s t
OnTally Action.Clear Done s t = (s.held ≡ 1) × (t.held ≡ 0) × (t.starved ≡ s.starved) × (t.limit ≡ s.limit) × SameList s t
OnTally Action.Join Done s t = ListDid joins false s t
OnTally Action.Join NoMemory s t = SameWord s t × SameList s t
OnTally Action.Ask Yes s t = ListDid asks true s t
OnTally Action.Ask No s t = SameWord s t × SameList s t
OnTally Action.Leave Done s t = ListDid leaves false s t
OnTally Action.Notify Done s t = ListDid (notifies 1) false s t
OnTally _ _ s t = ⊥

-- what holds of the numbers because it holds of each place
pub record IsCounted (a : Counts) : Type 0 where
  pub starving_cared : a.starving ≤ a.owing + a.waiting + a.holding
  pub waiting_listed : a.waiting ≤ a.listed

-- one party goes from p to q
pub record Moves (p q : Place) (a b : Counts) : Type 0 where
  pub holding : b.holding + holds p ≡ a.holding + holds q
  pub starving : b.starving + counted p ≡ a.starving + counted q
  pub listed : b.listed + stands p ≡ a.listed + stands q
  pub waiting : b.waiting + waits p ≡ a.waiting + waits q
  pub owing : b.owing + owes p ≡ a.owing + owes q
  -- the party is one of those that are counted
  pub owes_itself : owes q ≤ b.owing
  pub holds_itself : holds q ≤ b.holding
