-- What a step does to the numbers.
use Rattle.world_semaphore.proofs.Prelude.{◌≡◌, ℕ, ◌+◌, ◌<◌, ◌≤◌, Action, Found, Done, Left, Short, Available, PastLimit, NoMemory, Yes, No, Seat, permits_of, bit, pays, Tally, Counts}

abbrev pub SameList : Tally → Tally → Type 0
SameList s t = (t.size ≡ s.size) × (t.marked ≡ s.marked)

-- the words then: so many available, and this limit
abbrev pub Words : Tally → Tally → ℕ → ℕ → Type 0
Words s t available limit = (t.available ≡ available) × (t.limit ≡ limit) × (t.most ≡ s.most)

-- the party's entry was marked, and is gone
abbrev pub Told : Tally → Tally → Type 0
Told s t = Words s t s.available s.limit × (t.size + 1 ≡ s.size) × (t.marked + 1 ≡ s.marked)

-- what an action does to the numbers where it finds this; n is how many wait for s permits
abbrev pub OnTally : ℕ → ℕ → Action → Found → Tally → Tally → Type 0
OnTally s n (Action.Take k) (Left a) t u = (u.available ≡ a) × (a + k ≡ t.available) × (u.limit ≡ t.limit) × (u.most ≡ t.most) × SameList t u
OnTally s n (Action.Take k) (Short a) t u = (t.available ≡ a) × (a < k) × Words t u t.available t.limit × SameList t u
OnTally s n (Action.GiveBack k) (Available a) t u = (a ≡ t.available + k) × Words t u a t.limit × SameList t u
OnTally s n (Action.Give k) (Available a) t u = (a ≡ t.available + k) × Words t u a t.limit × SameList t u
OnTally s n (Action.Raise k) Done t u = (t.limit + k ≤ t.most) × Words t u t.available (t.limit + k) × SameList t u
OnTally s n (Action.Raise k) PastLimit t u = Words t u t.available t.limit × SameList t u
OnTally s n (Action.Lower k) Done t u = (u.available ≡ t.available) × (u.limit + k ≡ t.limit) × (u.most ≡ t.most) × SameList t u
OnTally s n Action.Load (Available a) t u = (a ≡ t.available) × Words t u t.available t.limit × SameList t u
OnTally s n (Action.Join k) Done t u = Words t u t.available t.limit × (u.size ≡ t.size + 1) × (u.marked ≡ t.marked)
OnTally s n (Action.Join k) NoMemory t u = Words t u t.available t.limit × SameList t u
OnTally s n Action.Ask Yes t u = Told t u
OnTally s n Action.Ask No t u = Words t u t.available t.limit × SameList t u
OnTally s n Action.Remove Yes t u = Told t u
OnTally s n Action.Remove No t u = Words t u t.available t.limit × (u.size + 1 ≡ t.size) × (u.marked ≡ t.marked)
OnTally s n (Action.Fit a) Done t u = Words t u t.available t.limit × (u.size ≡ t.size) × (t.marked ≤ u.marked) × (s ≤ a → 0 < n → 0 < u.marked)
OnTally s n Action.Nothing Done t u = Words t u t.available t.limit × SameList t u
OnTally s n _ _ t u = ⊥

-- One party goes from where it has and owes this, and waits for s permits or not, to where it has and owes that. It may have waited where its action's place no longer counts it so.
pub record Goes (s : ℕ) (x y : Seat) (waited waits : ℕ) (a b : Counts) : Type 0 where
  pub held : b.held + permits_of x.share ≡ a.held + permits_of y.share
  pub under_way : b.under_way + x.share.under_way ≡ a.under_way + y.share.under_way
  pub listed : b.listed + x.listed ≡ a.listed + y.listed
  pub waiting : b.waiting + waited ≤ a.waiting + waits
  pub owing : b.owing + bit (pays s x.debt) ≡ a.owing + bit (pays s y.debt)
  -- the party is one of those that are counted
  pub owes_itself : bit (pays s y.debt) ≤ b.owing
