-- Each action of a party, place by place: what it changes, and what it decides.
use Rattle.world_mutex.proofs.Prelude.{◌≡◌, ◌<◌, ◌⊎◌, inl, inr, Bool, true, false, Option, Some, None, refl, Memory, Starved, Effect, nothing, changes, does, joins, asks, leaves, notifies, notifies_additionally, Place, Out, Holding, Enter, Try, Clear, CancelUncount, CancelLeave, Join, Look, Ask, Retry, PassOn, Count, JoinStarved, LookAlone, PassOnListed, AskStarved, Seize, Uncount, Leave, RefuseUncount, RefuseLeave, RefuseNotifyMemory, RefuseNotifyStarved, ReleaseNotify, Action, Next, End, Got, Pending, NotFree, GivenBack, Refused, Found, Done, Free, Held, SomeStarved, AtLimit, NoMemory, Yes, No, action_of, next_of, counted, listed, Lock, Finds, holders, starved, is_holder, is_counted, decision, Change, ListName, takes, releases, starves, recovers, for_the_lock, gives_back, gives_up, is_release, is_counting, may_tell}
use Rattle.world_mutex.proofs.of_machine.laws.Kept.{after}

-- what an action changes that found this
abbrev pub effect_of : Action → Found → Effect Change ListName
effect_of Action.Take Free = changes takes
effect_of Action.TakeAlone Free = changes takes
effect_of Action.Set Free = changes takes
effect_of Action.Count Done = changes starves
effect_of Action.Uncount Done = changes recovers
effect_of Action.Clear Done = changes releases
effect_of Action.Join Done = does for_the_lock joins
effect_of Action.Ask Yes = does for_the_lock asks
effect_of Action.Leave Done = does for_the_lock leaves
effect_of Action.Notify Done = does for_the_lock (notifies 1)
effect_of _ _ = nothing

-- how an effect turns whether its party holds the lock, and whether it is starved
abbrev pub Holds : Effect Change ListName → Bool → Bool → Type 0
Holds (changes takes) b c = (b ≡ false) × (c ≡ true)
Holds (changes releases) b c = (b ≡ true) × (c ≡ false)
Holds _ b c = c ≡ b

abbrev pub Starves : Effect Change ListName → Bool → Bool → Type 0
Starves (changes starves) b c = (b ≡ false) × (c ≡ true)
Starves (changes recovers) b c = (b ≡ true) × (c ≡ false)
Starves _ b c = c ≡ b

-- what an effect found
abbrev pub Finding : Effect Change ListName → Lock → Place → Type 0
Finding (changes takes) l from = (holders l ≡ 0) × ((starved l ≡ 0) ⊎ (counted from ≡ 1))
Finding (changes starves) l from = starved l < l.limit
Finding (does list (notifies n)) l from = (n ≡ 1) × (may_tell from ≡ true)
Finding (does list (notifies_additionally n)) l from = ⊥
Finding _ l from = Unit {0}

abbrev pub decision_by : Next → Option End
decision_by (Next.Do a q) = decision q
decision_by (Next.End e) = Some e

-- why an action decides its call on an end
abbrev pub Reason : Bool → Lock → Place → Found → End → Type 0
Reason memory l from f Got = is_holder (after from f) ≡ true
Reason memory l from f Pending = (action_of from ≡ Action.Ask) × (f ≡ No) × (listed from ≡ 1)
Reason memory l from f NotFree = (holders l ≡ 1) ⊎ (0 < starved l)
Reason memory l from f GivenBack = Unit {0}
Reason memory l from f (Refused Memory) = (memory ≡ false) × (listed from ≡ 0) × (effect_of (action_of from) f ≡ nothing)
Reason memory l from f (Refused Starved) = (starved l ≡ l.limit) × (counted from ≡ 0) × (effect_of (action_of from) f ≡ nothing) × (is_counting from ≡ true)
Reason memory l from f _ = ⊥

abbrev pub Judged : Bool → Lock → Place → Found → Option End → Option End → Type 0
Judged memory l from f (Some e) o = (o ≡ Some e) × (gives_back (effect_of (action_of from) f) ≡ true)
Judged memory l from f None None = Unit {0}
Judged memory l from f None (Some e) = Reason memory l from f e

-- whether a join found memory, and that a party gives nothing up until its call is decided, and keeps the lock that it got
abbrev pub Room : Bool → Effect Change ListName → Type 0
Room memory (does list joins) = memory ≡ true
Room memory _ = Unit {0}

abbrev pub HoldsOn : Option End → Effect Change ListName → Type 0
HoldsOn None d = gives_up d ≡ false
HoldsOn (Some Got) d = is_release d ≡ false
HoldsOn (Some e) d = Unit {0}

pub record Row (memory : Bool) (l : Lock) (from : Place) (f : Found) : Type 0 where
  pub holds : Holds (effect_of (action_of from) f) (is_holder from) (is_holder (after from f))
  pub starves : Starves (effect_of (action_of from) f) (is_counted from) (is_counted (after from f))
  pub finding : Finding (effect_of (action_of from) f) l from
  pub judged : Judged memory l from f (decision from) (decision_by (next_of from f))
  pub room : Room memory (effect_of (action_of from) f)
  pub holds_on : HoldsOn (decision from) (effect_of (action_of from) f)

module _ (memory : Bool) (l : Lock) where
  pub row : (from : Place) (f : Found) → Finds memory (action_of from) f l → Row memory l from f
  row Out Done e = record { holds = refl; starves = refl; finding = tt; judged = (refl, refl); room = tt; holds_on = tt }
  row Out _ e = absurd e
  row Holding Done e = record { holds = refl; starves = refl; finding = tt; judged = refl; room = tt; holds_on = refl }
  row Holding _ e = absurd e
  row Enter Free e = record { holds = (refl, refl); starves = refl; finding = (e.0, inl e.1); judged = refl; room = tt; holds_on = refl }
  row Enter (Held true) e = record { holds = refl; starves = refl; finding = tt; judged = tt; room = tt; holds_on = refl }
  row Enter (Held false) e = record { holds = refl; starves = refl; finding = tt; judged = tt; room = tt; holds_on = refl }
  row Enter SomeStarved e = record { holds = refl; starves = refl; finding = tt; judged = tt; room = tt; holds_on = refl }
  row Enter _ e = absurd e
  row Try Free e = record { holds = (refl, refl); starves = refl; finding = (e.0, inl e.1); judged = refl; room = tt; holds_on = refl }
  row Try (Held true) e = record { holds = refl; starves = refl; finding = tt; judged = inl e.0; room = tt; holds_on = refl }
  row Try (Held false) e = record { holds = refl; starves = refl; finding = tt; judged = inl e.0; room = tt; holds_on = refl }
  row Try SomeStarved e = record { holds = refl; starves = refl; finding = tt; judged = inr e; room = tt; holds_on = refl }
  row Try _ e = absurd e
  row Clear Done e = record { holds = (refl, refl); starves = refl; finding = tt; judged = (refl, refl); room = tt; holds_on = tt }
  row Clear _ e = absurd e
  row CancelUncount Done e = record { holds = refl; starves = (refl, refl); finding = tt; judged = (refl, refl); room = tt; holds_on = tt }
  row CancelUncount _ e = absurd e
  row CancelLeave Done e = record { holds = refl; starves = refl; finding = tt; judged = (refl, refl); room = tt; holds_on = tt }
  row CancelLeave _ e = absurd e
  row (Join true) Done e = record { holds = refl; starves = refl; finding = tt; judged = tt; room = e; holds_on = refl }
  row (Join true) NoMemory e = record { holds = refl; starves = refl; finding = tt; judged = (e, refl, refl); room = tt; holds_on = refl }
  row (Join true) _ e = absurd e
  row (Join false) Done e = record { holds = refl; starves = refl; finding = tt; judged = tt; room = e; holds_on = refl }
  row (Join false) NoMemory e = record { holds = refl; starves = refl; finding = tt; judged = (e, refl, refl); room = tt; holds_on = refl }
  row (Join false) _ e = absurd e
  row (Look told) Free e = record { holds = (refl, refl); starves = refl; finding = (e.0, inl e.1); judged = refl; room = tt; holds_on = refl }
  row (Look told) (Held true) e = record { holds = refl; starves = refl; finding = tt; judged = tt; room = tt; holds_on = refl }
  row (Look told) (Held false) e = record { holds = refl; starves = refl; finding = tt; judged = tt; room = tt; holds_on = refl }
  row (Look told) SomeStarved e = record { holds = refl; starves = refl; finding = tt; judged = tt; room = tt; holds_on = refl }
  row (Look told) _ e = absurd e
  row Ask Yes e = record { holds = refl; starves = refl; finding = tt; judged = tt; room = tt; holds_on = refl }
  row Ask No e = record { holds = refl; starves = refl; finding = tt; judged = (refl, refl, refl); room = tt; holds_on = refl }
  row Ask _ e = absurd e
  row Retry Free e = record { holds = (refl, refl); starves = refl; finding = (e.0, inl e.1); judged = refl; room = tt; holds_on = refl }
  row Retry (Held true) e = record { holds = refl; starves = refl; finding = tt; judged = tt; room = tt; holds_on = refl }
  row Retry (Held false) e = record { holds = refl; starves = refl; finding = tt; judged = tt; room = tt; holds_on = refl }
  row Retry SomeStarved e = record { holds = refl; starves = refl; finding = tt; judged = tt; room = tt; holds_on = refl }
  row Retry _ e = absurd e
  row PassOn Done e = record { holds = refl; starves = refl; finding = (refl, refl); judged = tt; room = tt; holds_on = refl }
  row PassOn _ e = absurd e
  row (Count true told) Done e = record { holds = refl; starves = (refl, refl); finding = e; judged = tt; room = tt; holds_on = refl }
  row (Count true told) AtLimit e = record { holds = refl; starves = refl; finding = tt; judged = (e, refl, refl, refl); room = tt; holds_on = refl }
  row (Count true told) _ e = absurd e
  row (Count false true) Done e = record { holds = refl; starves = (refl, refl); finding = e; judged = tt; room = tt; holds_on = refl }
  row (Count false true) AtLimit e = record { holds = refl; starves = refl; finding = tt; judged = (e, refl, refl, refl); room = tt; holds_on = refl }
  row (Count false true) _ e = absurd e
  row (Count false false) Done e = record { holds = refl; starves = (refl, refl); finding = e; judged = tt; room = tt; holds_on = refl }
  row (Count false false) AtLimit e = record { holds = refl; starves = refl; finding = tt; judged = (e, refl, refl, refl); room = tt; holds_on = refl }
  row (Count false false) _ e = absurd e
  row JoinStarved Done e = record { holds = refl; starves = refl; finding = tt; judged = tt; room = e; holds_on = refl }
  row JoinStarved NoMemory e = record { holds = refl; starves = refl; finding = tt; judged = (e, refl, refl); room = tt; holds_on = refl }
  row JoinStarved _ e = absurd e
  row LookAlone Free e = record { holds = (refl, refl); starves = refl; finding = (e.0, inr refl); judged = refl; room = tt; holds_on = refl }
  row LookAlone (Held b) e = record { holds = refl; starves = refl; finding = tt; judged = tt; room = tt; holds_on = refl }
  row LookAlone SomeStarved e = record { holds = refl; starves = refl; finding = tt; judged = tt; room = tt; holds_on = refl }
  row LookAlone _ e = absurd e
  row PassOnListed Done e = record { holds = refl; starves = refl; finding = (refl, refl); judged = tt; room = tt; holds_on = refl }
  row PassOnListed _ e = absurd e
  row AskStarved Yes e = record { holds = refl; starves = refl; finding = tt; judged = tt; room = tt; holds_on = refl }
  row AskStarved No e = record { holds = refl; starves = refl; finding = tt; judged = (refl, refl, refl); room = tt; holds_on = refl }
  row AskStarved _ e = absurd e
  row Seize Free e = record { holds = (refl, refl); starves = refl; finding = (e, inr refl); judged = refl; room = tt; holds_on = refl }
  row Seize (Held b) e = record { holds = refl; starves = refl; finding = tt; judged = tt; room = tt; holds_on = refl }
  row Seize _ e = absurd e
  row (Uncount true) Done e = record { holds = refl; starves = (refl, refl); finding = tt; judged = (refl, refl); room = tt; holds_on = refl }
  row (Uncount true) _ e = absurd e
  row (Uncount false) Done e = record { holds = refl; starves = (refl, refl); finding = tt; judged = (refl, refl); room = tt; holds_on = refl }
  row (Uncount false) _ e = absurd e
  row Leave Done e = record { holds = refl; starves = refl; finding = tt; judged = (refl, refl); room = tt; holds_on = refl }
  row Leave _ e = absurd e
  row RefuseUncount Done e = record { holds = refl; starves = (refl, refl); finding = tt; judged = (refl, refl); room = tt; holds_on = tt }
  row RefuseUncount _ e = absurd e
  row (RefuseLeave true) Done e = record { holds = refl; starves = refl; finding = tt; judged = (refl, refl); room = tt; holds_on = tt }
  row (RefuseLeave true) _ e = absurd e
  row (RefuseLeave false) Done e = record { holds = refl; starves = refl; finding = tt; judged = (refl, refl); room = tt; holds_on = tt }
  row (RefuseLeave false) _ e = absurd e
  row RefuseNotifyMemory Done e = record { holds = refl; starves = refl; finding = (refl, refl); judged = (refl, refl); room = tt; holds_on = tt }
  row RefuseNotifyMemory _ e = absurd e
  row RefuseNotifyStarved Done e = record { holds = refl; starves = refl; finding = (refl, refl); judged = (refl, refl); room = tt; holds_on = tt }
  row RefuseNotifyStarved _ e = absurd e
  row ReleaseNotify Done e = record { holds = refl; starves = refl; finding = (refl, refl); judged = (refl, refl); room = tt; holds_on = tt }
  row ReleaseNotify _ e = absurd e
