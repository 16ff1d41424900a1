-- What each action on the word or on a list changes and decides, place by place. Written by generators/rwlock_world_rows.py.
use Rattle.world_rwlock.proofs.Prelude.{◌≡◌, ℕ, ◌+◌, ◌<◌, ◌≤◌, ◌==◌, ◌⊎◌, ◌||◌, not, inl, inr, if◌then◌else◌, Bool, true, false, List, Option, Some, None, refl, sym, ◌∙◌, Entry, is_marked_at, without, is_party, Answer, Value, Refusal, number_of, Right, read, upgradable, Effect, nothing, changes, does, joins, asks, leaves, notifies, chosen, TurnCourse, is_out as is_out_there, is_holding, Action, Pending, Refused, Next, Found, Done, Writer, Full, NoneLeft, SomeLeft, NoMemory, Yes, No, Turn, TurnStep as Step, End, Purpose, Ending, Place, Out, Made, Reading, Upgradable, Writing, EnterRead, JoinNoWriter, LookNoWriter, AskNoWriter, PassOn, LeaveNoWriter, RefuseLeave, RefuseNotify, CancelRead, TryRead, EnterTurn, WaitTurn, TakeTurn, TryTurn, CancelTurn, CancellingTurn, ReleaseTurn, ReleasingTurn, Add, TryUpgrade, Upgrade, Mark, TryWrite, JoinNoReaders, LookNoReaders, AskNoReaders, AwaitNoReaders, LookUnlisted, LeaveNoReaders, DropRead, DropReadNotify, DropUpgradable, DropUpgradableNotify, DropWrite, CancelAwait, Unmark, UnmarkNotify, Down, DownNotify, DowngradeNotify, action_of, next_of, place_after, has_turn, in_no_writer, in_no_readers, fits_turn, OnNoWriter, OnNoReaders, RwLock, Finds, readers, marked, Change, begins_to_read, stops_reading, becomes_upgradable, stops_upgradable, begins_to_wait, begins_to_write, upgrades_at_once, unmarks, downgrades_to_upgradable, turn_after, starved_after, value_after, entries_after, gives_back, gives_up, ListName, for_the_turn, for_no_readers, for_no_writer, decided_after, answer_by, strays, course_of, sought_at, passing, upgrading, waiting, writing, turn_as, share_of, is_reading, is_upgrade, verdict, notifies_additionally, owes_in, owing_at, reads}
use Rattle.world_rwlock.proofs.of_machine.stages.Leads.{Led, steps_in_turn}
use Rattle.world_rwlock.specs.Changes.{upgrades, downgrades}
use Rattle.world_rwlock.specs.State as state

-- what an action changes that found this
abbrev pub effect_of : Action → Found → Effect Change ListName
effect_of Action.Read Done = changes begins_to_read
effect_of Action.Add Done = changes becomes_upgradable
effect_of Action.Off _ = changes stops_reading
effect_of Action.Load NoneLeft = changes begins_to_write
effect_of Action.Mark NoneLeft = changes begins_to_write
effect_of Action.Mark _ = changes begins_to_wait
effect_of Action.TryWrite Done = changes begins_to_write
effect_of Action.TryUpgrade Done = changes upgrades_at_once
effect_of Action.Upgrade _ = changes upgrades
effect_of Action.Down _ = changes downgrades
effect_of Action.Unmark _ = changes unmarks
effect_of Action.JoinNoWriter Done = does for_no_writer joins
effect_of Action.AskNoWriter Yes = does for_no_writer asks
effect_of Action.LeaveNoWriter _ = does for_no_writer leaves
effect_of Action.NotifyNoWriter _ = does for_no_writer (notifies 1)
effect_of Action.JoinNoReaders Done = does for_no_readers joins
effect_of Action.AskNoReaders Yes = does for_no_readers asks
effect_of Action.LeaveNoReaders _ = does for_no_readers leaves
effect_of Action.NotifyNoReaders _ = does for_no_readers (notifies 1)
effect_of _ _ = nothing

-- and which right the place is for
abbrev pub effect_at : Place → Found → Effect Change ListName
effect_at DropUpgradable f = changes stops_upgradable
effect_at (Down true) f = changes downgrades_to_upgradable
effect_at x f = effect_of (action_of x) f

-- what the call is decided on then
abbrev pub verdict_then : ℕ → TurnCourse → Next → Option Answer
verdict_then v t n = decided_after (answer_by v n) (verdict v (place_after n) t)

abbrev pub is_after_ready : Answer → Bool
is_after_ready (Answer.Refused n) = n == number_of Refusal.Finished
is_after_ready _ = false

-- how an effect turns whether its party reads
abbrev pub Reads : Effect Change ListName → Bool → Bool → Type 0
Reads (changes begins_to_read) b c = c ≡ true
Reads (changes becomes_upgradable) b c = c ≡ true
Reads (changes downgrades) b c = c ≡ true
Reads (changes downgrades_to_upgradable) b c = c ≡ true
Reads (changes stops_reading) b c = c ≡ false
Reads (changes stops_upgradable) b c = c ≡ false
Reads (changes upgrades) b c = c ≡ false
Reads (changes upgrades_at_once) b c = c ≡ false
Reads _ b c = c ≡ b

-- how it turns for what its party has the turn
abbrev pub Shares : Effect Change ListName → Place → Place → Type 0
Shares d x q = ((has_turn x ≡ 1) × ((p : ℕ) → turn_after p d (turn_as p (share_of x)) ≡ turn_as p (share_of q))) ⊎ (((p : ℕ) (t : state.Turn) → turn_after p d t ≡ t) × (share_of q ≡ share_of x))

-- no call begins at these places: in the midst of a poll that takes the turn, and where readers or the writer are notified
abbrev pub is_midway : Place → Bool
is_midway (TakeTurn q) = true
is_midway PassOn = true
is_midway (RefuseNotify r) = true
is_midway DropReadNotify = true
is_midway DropUpgradableNotify = true
is_midway (UnmarkNotify r) = true
is_midway DownNotify = true
is_midway DowngradeNotify = true
is_midway _ = false

-- what an effect found
abbrev pub Finding : Effect Change ListName → RwLock → Place → Type 0
Finding (changes begins_to_read) l x = (marked l ≡ 0) × (readers l < l.limit)
Finding (changes stops_reading) l x = is_reading x ≡ true
Finding (changes becomes_upgradable) l x = (has_turn x ≡ 1) × (share_of x ≡ passing) × (readers l < l.limit)
Finding (changes stops_upgradable) l x = (has_turn x ≡ 1) × (share_of x ≡ upgrading)
Finding (changes begins_to_wait) l x = (has_turn x ≡ 1) × (share_of x ≡ passing) × (0 < readers l)
Finding (changes begins_to_write) l x = (has_turn x ≡ 1) × ((share_of x ≡ passing) ⊎ (share_of x ≡ waiting)) × (readers l ≡ 0)
Finding (changes upgrades) l x = (has_turn x ≡ 1) × (share_of x ≡ upgrading)
Finding (changes upgrades_at_once) l x = (has_turn x ≡ 1) × (share_of x ≡ upgrading) × (readers l ≡ 1)
Finding (changes unmarks) l x = (has_turn x ≡ 1) × ((share_of x ≡ waiting) ⊎ (share_of x ≡ writing))
Finding (changes downgrades) l x = (has_turn x ≡ 1) × (share_of x ≡ writing)
Finding (changes downgrades_to_upgradable) l x = (has_turn x ≡ 1) × (share_of x ≡ writing)
Finding (changes _) l x = ⊥
Finding (does for_the_turn f) l x = ⊥
Finding (does for_no_writer (notifies n)) l x = (n ≡ 1) × ((owes_in for_no_writer (owing_at x) ≡ true) ⊎ (sought_at x ≡ Some read)) × (is_midway x ≡ true)
Finding (does for_no_readers (notifies n)) l x = (n ≡ 1) × (owes_in for_no_readers (owing_at x) ≡ true) × (is_midway x ≡ true)
Finding (does list (notifies_additionally n)) l x = ⊥
Finding _ l x = Unit {0}

-- a party has the right that it sought here
abbrev pub is_got : Place → Bool
is_got Reading = true
is_got Upgradable = true
is_got Writing = true
is_got LeaveNoWriter = true
is_got LeaveNoReaders = true
is_got _ = false

abbrev pub is_made : Place → Bool
is_made (Made w) = true
is_made _ = false

-- where a party asks in vain
abbrev pub WaitsAt : Place → Found → Type 0
WaitsAt AskNoWriter f = f ≡ No
WaitsAt (AskNoReaders u) f = f ≡ No
WaitsAt _ f = ⊥

-- where a call may be refused for want of memory
abbrev pub lacks_memory : Place → Bool
lacks_memory (JoinNoWriter told) = true
lacks_memory (JoinNoReaders u) = true
lacks_memory (TakeTurn q) = true
lacks_memory _ = false

-- who joins a list hasn't the turn, or waits to write
abbrev pub JoinsAt : Place → TurnCourse → Type 0
JoinsAt x t = (is_out_there t ≡ true) ⊎ ((is_holding t ≡ true) × (has_turn x ≡ 1) × (share_of x ≡ waiting))

-- what a party takes that meets the limit of the readers
abbrev pub MeetsReaders : RwLock → Place → Option Right → Type 0
MeetsReaders l x (Some read) = marked l ≡ 0
MeetsReaders l x (Some upgradable) = has_turn x ≡ 1
MeetsReaders l x s = ⊥

-- why a step refuses its call
abbrev pub Refuses : Bool → RwLock → Place → Found → Refusal → Type 0
Refuses memory l x f Refusal.Memory = (memory ≡ false) × (in_no_writer x + in_no_readers x ≡ 0) × (effect_at x f ≡ nothing) × ((t : TurnCourse) → fits_turn x t ≡ true → JoinsAt x t) × (lacks_memory x ≡ true)
Refuses memory l x f Refusal.Readers = (l.limit ≤ readers l) × MeetsReaders l x (sought_at (place_after (next_of x f)))
Refuses memory l x f _ = ⊥

-- why a step decides its call on an answer
abbrev pub Reason : Bool → RwLock → ℕ → Place → Found → Answer → Type 0
Reason memory l v x f Answer.Pending = WaitsAt x f
Reason memory l v x f (Answer.Ready got) = (got ≡ Value v) × (is_got (place_after (next_of x f)) ≡ true)
Reason memory l v x f (Answer.Granted got) = (got ≡ Value v) × (is_got (place_after (next_of x f)) ≡ true)
Reason memory l v x f (Answer.Refused n) = (r : Refusal) × (n ≡ number_of r) × Refuses memory l x f r
Reason memory l v x f _ = Unit {0}

abbrev pub Judged : Bool → RwLock → ℕ → Place → Found → Option Answer → Option Answer → Type 0
Judged memory l v x f (Some b) o = (o ≡ Some b) × (gives_back (effect_at x f) ≡ true)
Judged memory l v x f None None = Unit {0}
Judged memory l v x f None (Some b) = Reason memory l v x f b

-- whether a join found memory, and that a party gives nothing up until its call is decided
abbrev pub Room : Bool → Effect Change ListName → Type 0
Room memory (does list joins) = memory ≡ true
Room memory _ = Unit {0}

abbrev pub is_judged : Option Answer → Bool
is_judged (Some b) = true
is_judged None = false

abbrev pub keeps_what_it_has : Option Answer → Effect Change ListName → Bool
keeps_what_it_has o d = not (gives_up d) || is_judged o

-- an upgrade's future stays one while its call is undecided or pending
abbrev pub KeepsUpgrade : ℕ → Place → Next → Type 0
KeepsUpgrade v x (Next.Do a q) = (t : TurnCourse) → verdict v q t ≡ None → is_upgrade q ≡ is_upgrade x
KeepsUpgrade v x (Next.Wait q) = is_upgrade q ≡ true
KeepsUpgrade v x (Next.End End.Waiting q) = is_upgrade q ≡ true
KeepsUpgrade v x (Next.End Pending q) = is_upgrade q ≡ is_upgrade x
KeepsUpgrade v x (Next.End (Refused r) q) = is_upgrade q ≡ is_upgrade x
KeepsUpgrade v x (Next.End _ q) = Unit {0}

-- where a party stands after a refusal
abbrev pub RefusedAt : Place → Next → Type 0
RefusedAt x (Next.End (Refused r) q) = ((is_made q ≡ true) × (is_upgrade x ≡ false)) ⊎ ((q ≡ LookUnlisted true) × (is_upgrade x ≡ true))
RefusedAt x _ = Unit {0}

-- only the last reader goes on to tell the one that waits to write
abbrev pub IsLast : RwLock → Place → Place → Type 0
IsLast l x y = (owes_in for_no_readers (owing_at y) ≡ false) ⊎ ((reads x ≡ 1) × (readers l ≡ 1) × (reads y ≡ 0))

pub record Row (memory : Bool) (l : RwLock) (v : ℕ) (x : Place) (f : Found) : Type 0 where
  pub reading : Reads (effect_at x f) (is_reading x) (is_reading (place_after (next_of x f)))
  pub sharing : Shares (effect_at x f) x (place_after (next_of x f))
  pub starving : (p : ℕ) (s : List Bool) → starved_after p (effect_at x f) s ≡ s
  pub valued : (u : ℕ) → value_after (effect_at x f) u ≡ u
  pub unturned : (p : ℕ) (a : List (Entry ℕ)) → entries_after p (effect_at x f) for_the_turn a ≡ a
  pub no_writer : (p : ℕ) (a b : List (Entry ℕ)) → OnNoWriter p (action_of x) f a b → b ≡ entries_after p (effect_at x f) for_no_writer a
  pub no_readers : (p : ℕ) (a b : List (Entry ℕ)) → OnNoReaders p (action_of x) f a b → b ≡ entries_after p (effect_at x f) for_no_readers a
  pub finding : Finding (effect_at x f) l x
  pub judged : (t u : TurnCourse) → Judged memory l v x f (verdict v x t) (verdict_then v u (next_of x f))
  pub room : Room memory (effect_at x f)
  pub holds_on : (t : TurnCourse) → keeps_what_it_has (verdict v x t) (effect_at x f) ≡ true
  pub over : is_after_ready (answer_by v (next_of x f)) ≡ false
  pub upgrade : KeepsUpgrade v x (next_of x f)
  pub refused : RefusedAt x (next_of x f)
  pub last : IsLast l x (place_after (next_of x f))

asks_so : (p : ℕ) (l m : List (Entry ℕ)) → (is_marked_at (is_party p) l ≡ true) × (m ≡ without (is_party p) l) → m ≡ (if is_marked_at (is_party p) l then without (is_party p) l else l)
asks_so p l m o = o.1 ∙ sym (chosen (is_marked_at (is_party p) l) (without (is_party p) l) l o.0)

module _ (memory : Bool) (l : RwLock) (v : ℕ) where
  pub row : (x : Place) (f : Found) → Finds memory (action_of x) f l → (course_of x ≡ strays → ⊥) → steps_in_turn x ≡ false → Row memory l v x f
  row Out Done e n t = record { reading = refl; sharing = inr ((λ p t. refl), refl); starving = λ p s. refl; valued = λ u. refl; unturned = λ p a. refl; no_writer = λ p a b o. o; no_readers = λ p a b o. o; finding = tt; judged = λ t u. (refl, refl); room = tt; holds_on = λ t. refl; over = refl; upgrade = tt; refused = tt; last = inl refl }
  row Out _ e n t = absurd e
  row (Made w) _ e n t = absurd (n refl)
  row Reading Done e n t = record { reading = refl; sharing = inr ((λ p t. refl), refl); starving = λ p s. refl; valued = λ u. refl; unturned = λ p a. refl; no_writer = λ p a b o. o; no_readers = λ p a b o. o; finding = tt; judged = λ t u. (refl, refl); room = tt; holds_on = λ t. refl; over = refl; upgrade = tt; refused = tt; last = inl refl }
  row Reading _ e n t = absurd e
  row Upgradable Done e n t = record { reading = refl; sharing = inr ((λ p t. refl), refl); starving = λ p s. refl; valued = λ u. refl; unturned = λ p a. refl; no_writer = λ p a b o. o; no_readers = λ p a b o. o; finding = tt; judged = λ t u. (refl, refl); room = tt; holds_on = λ t. refl; over = refl; upgrade = tt; refused = tt; last = inl refl }
  row Upgradable _ e n t = absurd e
  row Writing Done e n t = record { reading = refl; sharing = inr ((λ p t. refl), refl); starving = λ p s. refl; valued = λ u. refl; unturned = λ p a. refl; no_writer = λ p a b o. o; no_readers = λ p a b o. o; finding = tt; judged = λ t u. (refl, refl); room = tt; holds_on = λ t. refl; over = refl; upgrade = tt; refused = tt; last = inl refl }
  row Writing _ e n t = absurd e
  row (EnterRead true) Done e n t = record { reading = refl; sharing = inr ((λ p t. refl), refl); starving = λ p s. refl; valued = λ u. refl; unturned = λ p a. refl; no_writer = λ p a b o. o; no_readers = λ p a b o. o; finding = e; judged = λ t u. (refl, refl); room = tt; holds_on = λ t. refl; over = refl; upgrade = tt; refused = tt; last = inl refl }
  row (EnterRead true) Writer e n t = record { reading = refl; sharing = inr ((λ p t. refl), refl); starving = λ p s. refl; valued = λ u. refl; unturned = λ p a. refl; no_writer = λ p a b o. o; no_readers = λ p a b o. o; finding = tt; judged = λ t u. tt; room = tt; holds_on = λ t. refl; over = refl; upgrade = λ t h. refl; refused = tt; last = inl refl }
  row (EnterRead true) Full e n t = record { reading = refl; sharing = inr ((λ p t. refl), refl); starving = λ p s. refl; valued = λ u. refl; unturned = λ p a. refl; no_writer = λ p a b o. o; no_readers = λ p a b o. o; finding = tt; judged = λ t u. (Refusal.Readers, refl, (e.1, e.0)); room = tt; holds_on = λ t. refl; over = refl; upgrade = λ t h. refl; refused = tt; last = inl refl }
  row (EnterRead true) _ e n t = absurd e
  row (EnterRead false) Done e n t = record { reading = refl; sharing = inr ((λ p t. refl), refl); starving = λ p s. refl; valued = λ u. refl; unturned = λ p a. refl; no_writer = λ p a b o. o; no_readers = λ p a b o. o; finding = e; judged = λ t u. (refl, refl); room = tt; holds_on = λ t. refl; over = refl; upgrade = tt; refused = tt; last = inl refl }
  row (EnterRead false) Writer e n t = record { reading = refl; sharing = inr ((λ p t. refl), refl); starving = λ p s. refl; valued = λ u. refl; unturned = λ p a. refl; no_writer = λ p a b o. o; no_readers = λ p a b o. o; finding = tt; judged = λ t u. tt; room = tt; holds_on = λ t. refl; over = refl; upgrade = λ t h. refl; refused = tt; last = inl refl }
  row (EnterRead false) Full e n t = record { reading = refl; sharing = inr ((λ p t. refl), refl); starving = λ p s. refl; valued = λ u. refl; unturned = λ p a. refl; no_writer = λ p a b o. o; no_readers = λ p a b o. o; finding = tt; judged = λ t u. (Refusal.Readers, refl, (e.1, e.0)); room = tt; holds_on = λ t. refl; over = refl; upgrade = refl; refused = inl (refl, refl); last = inl refl }
  row (EnterRead false) _ e n t = absurd e
  row (JoinNoWriter true) Done e n t = record { reading = refl; sharing = inr ((λ p t. refl), refl); starving = λ p s. refl; valued = λ u. refl; unturned = λ p a. refl; no_writer = λ p a b o. o; no_readers = λ p a b o. o; finding = tt; judged = λ t u. tt; room = e; holds_on = λ t. refl; over = refl; upgrade = λ t h. refl; refused = tt; last = inl refl }
  row (JoinNoWriter true) NoMemory e n t = record { reading = refl; sharing = inr ((λ p t. refl), refl); starving = λ p s. refl; valued = λ u. refl; unturned = λ p a. refl; no_writer = λ p a b o. o; no_readers = λ p a b o. o; finding = tt; judged = λ t u. (Refusal.Memory, refl, (e, refl, refl, (λ t h. inl h), refl)); room = tt; holds_on = λ t. refl; over = refl; upgrade = λ t h. refl; refused = tt; last = inl refl }
  row (JoinNoWriter true) _ e n t = absurd e
  row (JoinNoWriter false) Done e n t = record { reading = refl; sharing = inr ((λ p t. refl), refl); starving = λ p s. refl; valued = λ u. refl; unturned = λ p a. refl; no_writer = λ p a b o. o; no_readers = λ p a b o. o; finding = tt; judged = λ t u. tt; room = e; holds_on = λ t. refl; over = refl; upgrade = λ t h. refl; refused = tt; last = inl refl }
  row (JoinNoWriter false) NoMemory e n t = record { reading = refl; sharing = inr ((λ p t. refl), refl); starving = λ p s. refl; valued = λ u. refl; unturned = λ p a. refl; no_writer = λ p a b o. o; no_readers = λ p a b o. o; finding = tt; judged = λ t u. (Refusal.Memory, refl, (e, refl, refl, (λ t h. inl h), refl)); room = tt; holds_on = λ t. refl; over = refl; upgrade = refl; refused = inl (refl, refl); last = inl refl }
  row (JoinNoWriter false) _ e n t = absurd e
  row (LookNoWriter told) Done e n t = record { reading = refl; sharing = inr ((λ p t. refl), refl); starving = λ p s. refl; valued = λ u. refl; unturned = λ p a. refl; no_writer = λ p a b o. o; no_readers = λ p a b o. o; finding = e; judged = λ t u. (refl, refl); room = tt; holds_on = λ t. refl; over = refl; upgrade = λ t h. refl; refused = tt; last = inl refl }
  row (LookNoWriter told) Writer e n t = record { reading = refl; sharing = inr ((λ p t. refl), refl); starving = λ p s. refl; valued = λ u. refl; unturned = λ p a. refl; no_writer = λ p a b o. o; no_readers = λ p a b o. o; finding = tt; judged = λ t u. tt; room = tt; holds_on = λ t. refl; over = refl; upgrade = λ t h. refl; refused = tt; last = inl refl }
  row (LookNoWriter told) Full e n t = record { reading = refl; sharing = inr ((λ p t. refl), refl); starving = λ p s. refl; valued = λ u. refl; unturned = λ p a. refl; no_writer = λ p a b o. o; no_readers = λ p a b o. o; finding = tt; judged = λ t u. (Refusal.Readers, refl, (e.1, e.0)); room = tt; holds_on = λ t. refl; over = refl; upgrade = λ t h. refl; refused = tt; last = inl refl }
  row (LookNoWriter told) _ e n t = absurd e
  row AskNoWriter Yes e n t = record { reading = refl; sharing = inr ((λ p t. refl), refl); starving = λ p s. refl; valued = λ u. refl; unturned = λ p a. refl; no_writer = λ p a b o. asks_so p a b o; no_readers = λ p a b o. o; finding = tt; judged = λ t u. tt; room = tt; holds_on = λ t. refl; over = refl; upgrade = λ t h. refl; refused = tt; last = inl refl }
  row AskNoWriter No e n t = record { reading = refl; sharing = inr ((λ p t. refl), refl); starving = λ p s. refl; valued = λ u. refl; unturned = λ p a. refl; no_writer = λ p a b o. o.1; no_readers = λ p a b o. o; finding = tt; judged = λ t u. refl; room = tt; holds_on = λ t. refl; over = refl; upgrade = refl; refused = tt; last = inl refl }
  row AskNoWriter _ e n t = absurd e
  row PassOn Done e n t = record { reading = refl; sharing = inr ((λ p t. refl), refl); starving = λ p s. refl; valued = λ u. refl; unturned = λ p a. refl; no_writer = λ p a b o. o; no_readers = λ p a b o. o; finding = (refl, inr refl, refl); judged = λ t u. tt; room = tt; holds_on = λ t. refl; over = refl; upgrade = λ t h. refl; refused = tt; last = inl refl }
  row PassOn _ e n t = absurd e
  row LeaveNoWriter Done e n t = record { reading = refl; sharing = inr ((λ p t. refl), refl); starving = λ p s. refl; valued = λ u. refl; unturned = λ p a. refl; no_writer = λ p a b o. o; no_readers = λ p a b o. o; finding = tt; judged = λ t u. (refl, refl); room = tt; holds_on = λ t. refl; over = refl; upgrade = tt; refused = tt; last = inl refl }
  row LeaveNoWriter _ e n t = absurd e
  row (RefuseLeave true) Done e n t = record { reading = refl; sharing = inr ((λ p t. refl), refl); starving = λ p s. refl; valued = λ u. refl; unturned = λ p a. refl; no_writer = λ p a b o. o; no_readers = λ p a b o. o; finding = tt; judged = λ t u. (refl, refl); room = tt; holds_on = λ t. refl; over = refl; upgrade = λ t h. refl; refused = tt; last = inl refl }
  row (RefuseLeave true) _ e n t = absurd e
  row (RefuseLeave false) Done e n t = record { reading = refl; sharing = inr ((λ p t. refl), refl); starving = λ p s. refl; valued = λ u. refl; unturned = λ p a. refl; no_writer = λ p a b o. o; no_readers = λ p a b o. o; finding = tt; judged = λ t u. (refl, refl); room = tt; holds_on = λ t. refl; over = refl; upgrade = refl; refused = inl (refl, refl); last = inl refl }
  row (RefuseLeave false) _ e n t = absurd e
  row (RefuseNotify Refusal.Memory) Done e n t = record { reading = refl; sharing = inr ((λ p t. refl), refl); starving = λ p s. refl; valued = λ u. refl; unturned = λ p a. refl; no_writer = λ p a b o. o; no_readers = λ p a b o. o; finding = (refl, inr refl, refl); judged = λ t u. (refl, refl); room = tt; holds_on = λ t. refl; over = refl; upgrade = refl; refused = inl (refl, refl); last = inl refl }
  row (RefuseNotify Refusal.Memory) _ e n t = absurd e
  row (RefuseNotify Refusal.Readers) Done e n t = record { reading = refl; sharing = inr ((λ p t. refl), refl); starving = λ p s. refl; valued = λ u. refl; unturned = λ p a. refl; no_writer = λ p a b o. o; no_readers = λ p a b o. o; finding = (refl, inr refl, refl); judged = λ t u. (refl, refl); room = tt; holds_on = λ t. refl; over = refl; upgrade = refl; refused = inl (refl, refl); last = inl refl }
  row (RefuseNotify Refusal.Readers) _ e n t = absurd e
  row (RefuseNotify _) _ e n t = absurd (n refl)
  row CancelRead Done e n t = record { reading = refl; sharing = inr ((λ p t. refl), refl); starving = λ p s. refl; valued = λ u. refl; unturned = λ p a. refl; no_writer = λ p a b o. o; no_readers = λ p a b o. o; finding = tt; judged = λ t u. (refl, refl); room = tt; holds_on = λ t. refl; over = refl; upgrade = tt; refused = tt; last = inl refl }
  row CancelRead _ e n t = absurd e
  row TryRead Done e n t = record { reading = refl; sharing = inr ((λ p t. refl), refl); starving = λ p s. refl; valued = λ u. refl; unturned = λ p a. refl; no_writer = λ p a b o. o; no_readers = λ p a b o. o; finding = e; judged = λ t u. (refl, refl); room = tt; holds_on = λ t. refl; over = refl; upgrade = tt; refused = tt; last = inl refl }
  row TryRead Writer e n t = record { reading = refl; sharing = inr ((λ p t. refl), refl); starving = λ p s. refl; valued = λ u. refl; unturned = λ p a. refl; no_writer = λ p a b o. o; no_readers = λ p a b o. o; finding = tt; judged = λ t u. tt; room = tt; holds_on = λ t. refl; over = refl; upgrade = tt; refused = tt; last = inl refl }
  row TryRead Full e n t = record { reading = refl; sharing = inr ((λ p t. refl), refl); starving = λ p s. refl; valued = λ u. refl; unturned = λ p a. refl; no_writer = λ p a b o. o; no_readers = λ p a b o. o; finding = tt; judged = λ t u. tt; room = tt; holds_on = λ t. refl; over = refl; upgrade = tt; refused = tt; last = inl refl }
  row TryRead _ e n t = absurd e
  row (EnterTurn p) f e n t = absurd (cc)
  row (WaitTurn p) f e n t = absurd (cc)
  row (TakeTurn p) f e n t = absurd (cc)
  row (TryTurn p) f e n t = absurd (cc)
  row CancelTurn f e n t = absurd (cc)
  row CancellingTurn f e n t = absurd (cc)
  row (ReleaseTurn k) f e n t = absurd (cc)
  row (ReleasingTurn k) f e n t = absurd (cc)
  row (Add true) Done e n t = record { reading = refl; sharing = inl (refl, λ p. refl); starving = λ p s. refl; valued = λ u. refl; unturned = λ p a. refl; no_writer = λ p a b o. o; no_readers = λ p a b o. o; finding = (refl, refl, e); judged = λ t u. (refl, refl); room = tt; holds_on = λ t. refl; over = refl; upgrade = tt; refused = tt; last = inl refl }
  row (Add true) Full e n t = record { reading = refl; sharing = inr ((λ p t. refl), refl); starving = λ p s. refl; valued = λ u. refl; unturned = λ p a. refl; no_writer = λ p a b o. o; no_readers = λ p a b o. o; finding = tt; judged = λ t u. tt; room = tt; holds_on = λ t. refl; over = refl; upgrade = λ t h. refl; refused = tt; last = inl refl }
  row (Add true) _ e n t = absurd e
  row (Add false) Done e n t = record { reading = refl; sharing = inl (refl, λ p. refl); starving = λ p s. refl; valued = λ u. refl; unturned = λ p a. refl; no_writer = λ p a b o. o; no_readers = λ p a b o. o; finding = (refl, refl, e); judged = λ t u. (refl, refl); room = tt; holds_on = λ t. refl; over = refl; upgrade = tt; refused = tt; last = inl refl }
  row (Add false) Full e n t = record { reading = refl; sharing = inr ((λ p t. refl), refl); starving = λ p s. refl; valued = λ u. refl; unturned = λ p a. refl; no_writer = λ p a b o. o; no_readers = λ p a b o. o; finding = tt; judged = λ t u. (Refusal.Readers, refl, (e, refl)); room = tt; holds_on = λ t. refl; over = refl; upgrade = λ t h. refl; refused = tt; last = inl refl }
  row (Add false) _ e n t = absurd e
  row TryUpgrade Done e n t = record { reading = refl; sharing = inl (refl, λ p. refl); starving = λ p s. refl; valued = λ u. refl; unturned = λ p a. refl; no_writer = λ p a b o. o; no_readers = λ p a b o. o; finding = (refl, refl, e.1); judged = λ t u. (refl, refl); room = tt; holds_on = λ t. refl; over = refl; upgrade = tt; refused = tt; last = inl refl }
  row TryUpgrade Found.NotFree e n t = record { reading = refl; sharing = inr ((λ p t. refl), refl); starving = λ p s. refl; valued = λ u. refl; unturned = λ p a. refl; no_writer = λ p a b o. o; no_readers = λ p a b o. o; finding = tt; judged = λ t u. tt; room = tt; holds_on = λ t. refl; over = refl; upgrade = tt; refused = tt; last = inl refl }
  row TryUpgrade _ e n t = absurd e
  row Upgrade Done e n t = record { reading = refl; sharing = inl (refl, λ p. refl); starving = λ p s. refl; valued = λ u. refl; unturned = λ p a. refl; no_writer = λ p a b o. o; no_readers = λ p a b o. o; finding = (refl, refl); judged = λ t u. tt; room = tt; holds_on = λ t. refl; over = refl; upgrade = refl; refused = tt; last = inl refl }
  row Upgrade _ e n t = absurd e
  row Mark NoneLeft e n t = record { reading = refl; sharing = inl (refl, λ p. refl); starving = λ p s. refl; valued = λ u. refl; unturned = λ p a. refl; no_writer = λ p a b o. o; no_readers = λ p a b o. o; finding = (refl, inl refl, e); judged = λ t u. (refl, refl); room = tt; holds_on = λ t. refl; over = refl; upgrade = tt; refused = tt; last = inl refl }
  row Mark SomeLeft e n t = record { reading = refl; sharing = inl (refl, λ p. refl); starving = λ p s. refl; valued = λ u. refl; unturned = λ p a. refl; no_writer = λ p a b o. o; no_readers = λ p a b o. o; finding = (refl, refl, e); judged = λ t u. tt; room = tt; holds_on = λ t. refl; over = refl; upgrade = λ t h. refl; refused = tt; last = inl refl }
  row Mark _ e n t = absurd e
  row TryWrite Done e n t = record { reading = refl; sharing = inl (refl, λ p. refl); starving = λ p s. refl; valued = λ u. refl; unturned = λ p a. refl; no_writer = λ p a b o. o; no_readers = λ p a b o. o; finding = (refl, inl refl, e.1); judged = λ t u. (refl, refl); room = tt; holds_on = λ t. refl; over = refl; upgrade = tt; refused = tt; last = inl refl }
  row TryWrite Found.NotFree e n t = record { reading = refl; sharing = inr ((λ p t. refl), refl); starving = λ p s. refl; valued = λ u. refl; unturned = λ p a. refl; no_writer = λ p a b o. o; no_readers = λ p a b o. o; finding = tt; judged = λ t u. tt; room = tt; holds_on = λ t. refl; over = refl; upgrade = λ t h. refl; refused = tt; last = inl refl }
  row TryWrite _ e n t = absurd e
  row (JoinNoReaders true) Done e n t = record { reading = refl; sharing = inr ((λ p t. refl), refl); starving = λ p s. refl; valued = λ u. refl; unturned = λ p a. refl; no_writer = λ p a b o. o; no_readers = λ p a b o. o; finding = tt; judged = λ t u. tt; room = e; holds_on = λ t. refl; over = refl; upgrade = λ t h. refl; refused = tt; last = inl refl }
  row (JoinNoReaders true) NoMemory e n t = record { reading = refl; sharing = inr ((λ p t. refl), refl); starving = λ p s. refl; valued = λ u. refl; unturned = λ p a. refl; no_writer = λ p a b o. o; no_readers = λ p a b o. o; finding = tt; judged = λ t u. (Refusal.Memory, refl, (e, refl, refl, (λ t h. inr (h, refl, refl)), refl)); room = tt; holds_on = λ t. refl; over = refl; upgrade = refl; refused = inr (refl, refl); last = inl refl }
  row (JoinNoReaders true) _ e n t = absurd e
  row (JoinNoReaders false) Done e n t = record { reading = refl; sharing = inr ((λ p t. refl), refl); starving = λ p s. refl; valued = λ u. refl; unturned = λ p a. refl; no_writer = λ p a b o. o; no_readers = λ p a b o. o; finding = tt; judged = λ t u. tt; room = e; holds_on = λ t. refl; over = refl; upgrade = λ t h. refl; refused = tt; last = inl refl }
  row (JoinNoReaders false) NoMemory e n t = record { reading = refl; sharing = inr ((λ p t. refl), refl); starving = λ p s. refl; valued = λ u. refl; unturned = λ p a. refl; no_writer = λ p a b o. o; no_readers = λ p a b o. o; finding = tt; judged = λ t u. (Refusal.Memory, refl, (e, refl, refl, (λ t h. inr (h, refl, refl)), refl)); room = tt; holds_on = λ t. refl; over = refl; upgrade = λ t h. refl; refused = tt; last = inl refl }
  row (JoinNoReaders false) _ e n t = absurd e
  row (LookNoReaders u) NoneLeft e n t = record { reading = refl; sharing = inl (refl, λ p. refl); starving = λ p s. refl; valued = λ u. refl; unturned = λ p a. refl; no_writer = λ p a b o. o; no_readers = λ p a b o. o; finding = (refl, inr refl, e); judged = λ t u. (refl, refl); room = tt; holds_on = λ t. refl; over = refl; upgrade = λ t h. absurd (cc); refused = tt; last = inl refl }
  row (LookNoReaders u) SomeLeft e n t = record { reading = refl; sharing = inr ((λ p t. refl), refl); starving = λ p s. refl; valued = λ u. refl; unturned = λ p a. refl; no_writer = λ p a b o. o; no_readers = λ p a b o. o; finding = tt; judged = λ t u. tt; room = tt; holds_on = λ t. refl; over = refl; upgrade = λ t h. refl; refused = tt; last = inl refl }
  row (LookNoReaders u) _ e n t = absurd e
  row (AskNoReaders u) Yes e n t = record { reading = refl; sharing = inr ((λ p t. refl), refl); starving = λ p s. refl; valued = λ u. refl; unturned = λ p a. refl; no_writer = λ p a b o. o; no_readers = λ p a b o. asks_so p a b o; finding = tt; judged = λ t u. tt; room = tt; holds_on = λ t. refl; over = refl; upgrade = λ t h. refl; refused = tt; last = inl refl }
  row (AskNoReaders u) No e n t = record { reading = refl; sharing = inr ((λ p t. refl), refl); starving = λ p s. refl; valued = λ u. refl; unturned = λ p a. refl; no_writer = λ p a b o. o; no_readers = λ p a b o. o.1; finding = tt; judged = λ t u. refl; room = tt; holds_on = λ t. refl; over = refl; upgrade = refl; refused = tt; last = inl refl }
  row (AskNoReaders u) _ e n t = absurd e
  row (AwaitNoReaders u) NoneLeft e n t = record { reading = refl; sharing = inl (refl, λ p. refl); starving = λ p s. refl; valued = λ u. refl; unturned = λ p a. refl; no_writer = λ p a b o. o; no_readers = λ p a b o. o; finding = (refl, inr refl, e); judged = λ t u. (refl, refl); room = tt; holds_on = λ t. refl; over = refl; upgrade = λ t h. absurd (cc); refused = tt; last = inl refl }
  row (AwaitNoReaders u) SomeLeft e n t = record { reading = refl; sharing = inr ((λ p t. refl), refl); starving = λ p s. refl; valued = λ u. refl; unturned = λ p a. refl; no_writer = λ p a b o. o; no_readers = λ p a b o. o; finding = tt; judged = λ t u. tt; room = tt; holds_on = λ t. refl; over = refl; upgrade = λ t h. refl; refused = tt; last = inl refl }
  row (AwaitNoReaders u) _ e n t = absurd e
  row (LookUnlisted u) NoneLeft e n t = record { reading = refl; sharing = inl (refl, λ p. refl); starving = λ p s. refl; valued = λ u. refl; unturned = λ p a. refl; no_writer = λ p a b o. o; no_readers = λ p a b o. o; finding = (refl, inr refl, e); judged = λ t u. (refl, refl); room = tt; holds_on = λ t. refl; over = refl; upgrade = tt; refused = tt; last = inl refl }
  row (LookUnlisted u) SomeLeft e n t = record { reading = refl; sharing = inr ((λ p t. refl), refl); starving = λ p s. refl; valued = λ u. refl; unturned = λ p a. refl; no_writer = λ p a b o. o; no_readers = λ p a b o. o; finding = tt; judged = λ t u. tt; room = tt; holds_on = λ t. refl; over = refl; upgrade = λ t h. refl; refused = tt; last = inl refl }
  row (LookUnlisted u) _ e n t = absurd e
  row LeaveNoReaders Done e n t = record { reading = refl; sharing = inr ((λ p t. refl), refl); starving = λ p s. refl; valued = λ u. refl; unturned = λ p a. refl; no_writer = λ p a b o. o; no_readers = λ p a b o. o; finding = tt; judged = λ t u. (refl, refl); room = tt; holds_on = λ t. refl; over = refl; upgrade = tt; refused = tt; last = inl refl }
  row LeaveNoReaders _ e n t = absurd e
  row DropRead NoneLeft e n t = record { reading = refl; sharing = inr ((λ p t. refl), refl); starving = λ p s. refl; valued = λ u. refl; unturned = λ p a. refl; no_writer = λ p a b o. o; no_readers = λ p a b o. o; finding = refl; judged = λ t u. (refl, refl); room = tt; holds_on = λ t. refl; over = refl; upgrade = λ t h. refl; refused = tt; last = inr (refl, e, refl) }
  row DropRead SomeLeft e n t = record { reading = refl; sharing = inr ((λ p t. refl), refl); starving = λ p s. refl; valued = λ u. refl; unturned = λ p a. refl; no_writer = λ p a b o. o; no_readers = λ p a b o. o; finding = refl; judged = λ t u. (refl, refl); room = tt; holds_on = λ t. refl; over = refl; upgrade = tt; refused = tt; last = inl refl }
  row DropRead _ e n t = absurd e
  row DropReadNotify Done e n t = record { reading = refl; sharing = inr ((λ p t. refl), refl); starving = λ p s. refl; valued = λ u. refl; unturned = λ p a. refl; no_writer = λ p a b o. o; no_readers = λ p a b o. o; finding = (refl, refl, refl); judged = λ t u. (refl, refl); room = tt; holds_on = λ t. refl; over = refl; upgrade = tt; refused = tt; last = inl refl }
  row DropReadNotify _ e n t = absurd e
  row DropUpgradable NoneLeft e n t = record { reading = refl; sharing = inl (refl, λ p. refl); starving = λ p s. refl; valued = λ u. refl; unturned = λ p a. refl; no_writer = λ p a b o. o; no_readers = λ p a b o. o; finding = (refl, refl); judged = λ t u. (refl, refl); room = tt; holds_on = λ t. refl; over = refl; upgrade = λ t h. refl; refused = tt; last = inr (refl, e, refl) }
  row DropUpgradable SomeLeft e n t = record { reading = refl; sharing = inl (refl, λ p. refl); starving = λ p s. refl; valued = λ u. refl; unturned = λ p a. refl; no_writer = λ p a b o. o; no_readers = λ p a b o. o; finding = (refl, refl); judged = λ t u. (refl, refl); room = tt; holds_on = λ t. refl; over = refl; upgrade = λ t h. refl; refused = tt; last = inl refl }
  row DropUpgradable _ e n t = absurd e
  row DropUpgradableNotify Done e n t = record { reading = refl; sharing = inr ((λ p t. refl), refl); starving = λ p s. refl; valued = λ u. refl; unturned = λ p a. refl; no_writer = λ p a b o. o; no_readers = λ p a b o. o; finding = (refl, refl, refl); judged = λ t u. (refl, refl); room = tt; holds_on = λ t. refl; over = refl; upgrade = λ t h. refl; refused = tt; last = inl refl }
  row DropUpgradableNotify _ e n t = absurd e
  row DropWrite Done e n t = record { reading = refl; sharing = inl (refl, λ p. refl); starving = λ p s. refl; valued = λ u. refl; unturned = λ p a. refl; no_writer = λ p a b o. o; no_readers = λ p a b o. o; finding = (refl, inr refl); judged = λ t u. (refl, refl); room = tt; holds_on = λ t. refl; over = refl; upgrade = λ t h. refl; refused = tt; last = inl refl }
  row DropWrite _ e n t = absurd e
  row CancelAwait Done e n t = record { reading = refl; sharing = inr ((λ p t. refl), refl); starving = λ p s. refl; valued = λ u. refl; unturned = λ p a. refl; no_writer = λ p a b o. o; no_readers = λ p a b o. o; finding = tt; judged = λ t u. (refl, refl); room = tt; holds_on = λ t. refl; over = refl; upgrade = λ t h. refl; refused = tt; last = inl refl }
  row CancelAwait _ e n t = absurd e
  row (Unmark true) Done e n t = record { reading = refl; sharing = inl (refl, λ p. refl); starving = λ p s. refl; valued = λ u. refl; unturned = λ p a. refl; no_writer = λ p a b o. o; no_readers = λ p a b o. o; finding = (refl, inl refl); judged = λ t u. (refl, refl); room = tt; holds_on = λ t. refl; over = refl; upgrade = λ t h. refl; refused = tt; last = inl refl }
  row (Unmark true) _ e n t = absurd e
  row (Unmark false) Done e n t = record { reading = refl; sharing = inl (refl, λ p. refl); starving = λ p s. refl; valued = λ u. refl; unturned = λ p a. refl; no_writer = λ p a b o. o; no_readers = λ p a b o. o; finding = (refl, inl refl); judged = λ t u. (refl, refl); room = tt; holds_on = λ t. refl; over = refl; upgrade = λ t h. refl; refused = tt; last = inl refl }
  row (Unmark false) _ e n t = absurd e
  row (UnmarkNotify true) Done e n t = record { reading = refl; sharing = inr ((λ p t. refl), refl); starving = λ p s. refl; valued = λ u. refl; unturned = λ p a. refl; no_writer = λ p a b o. o; no_readers = λ p a b o. o; finding = (refl, inl refl, refl); judged = λ t u. (refl, refl); room = tt; holds_on = λ t. refl; over = refl; upgrade = λ t h. refl; refused = tt; last = inl refl }
  row (UnmarkNotify true) _ e n t = absurd e
  row (UnmarkNotify false) Done e n t = record { reading = refl; sharing = inr ((λ p t. refl), refl); starving = λ p s. refl; valued = λ u. refl; unturned = λ p a. refl; no_writer = λ p a b o. o; no_readers = λ p a b o. o; finding = (refl, inl refl, refl); judged = λ t u. (refl, refl); room = tt; holds_on = λ t. refl; over = refl; upgrade = λ t h. refl; refused = tt; last = inl refl }
  row (UnmarkNotify false) _ e n t = absurd e
  row (Down true) Done e n t = record { reading = refl; sharing = inl (refl, λ p. refl); starving = λ p s. refl; valued = λ u. refl; unturned = λ p a. refl; no_writer = λ p a b o. o; no_readers = λ p a b o. o; finding = (refl, refl); judged = λ t u. tt; room = tt; holds_on = λ t. refl; over = refl; upgrade = λ t h. refl; refused = tt; last = inl refl }
  row (Down true) _ e n t = absurd e
  row (Down false) Done e n t = record { reading = refl; sharing = inl (refl, λ p. refl); starving = λ p s. refl; valued = λ u. refl; unturned = λ p a. refl; no_writer = λ p a b o. o; no_readers = λ p a b o. o; finding = (refl, refl); judged = λ t u. tt; room = tt; holds_on = λ t. refl; over = refl; upgrade = λ t h. refl; refused = tt; last = inl refl }
  row (Down false) _ e n t = absurd e
  row DownNotify Done e n t = record { reading = refl; sharing = inr ((λ p t. refl), refl); starving = λ p s. refl; valued = λ u. refl; unturned = λ p a. refl; no_writer = λ p a b o. o; no_readers = λ p a b o. o; finding = (refl, inl refl, refl); judged = λ t u. (refl, refl); room = tt; holds_on = λ t. refl; over = refl; upgrade = tt; refused = tt; last = inl refl }
  row DownNotify _ e n t = absurd e
  row DowngradeNotify Done e n t = record { reading = refl; sharing = inr ((λ p t. refl), refl); starving = λ p s. refl; valued = λ u. refl; unturned = λ p a. refl; no_writer = λ p a b o. o; no_readers = λ p a b o. o; finding = (refl, inl refl, refl); judged = λ t u. (refl, refl); room = tt; holds_on = λ t. refl; over = refl; upgrade = tt; refused = tt; last = inl refl }
  row DowngradeNotify _ e n t = absurd e

-- ---- actions on the turn

pub record TurnRow (v : ℕ) (x : Place) (f : Found) : Type 0 where
  pub reading : is_reading (place_after (next_of x f)) ≡ is_reading x
  pub sharing : share_of (place_after (next_of x f)) ≡ passing
  pub over : is_after_ready (answer_by v (next_of x f)) ≡ false
  pub upgrade : KeepsUpgrade v x (next_of x f)
  pub refused : RefusedAt x (next_of x f)
  pub unowed : owes_in for_no_readers (owing_at (place_after (next_of x f))) ≡ false

pub turn_row : (v : ℕ) (u : TurnCourse) (x : Place) (f : Found) → steps_in_turn x ≡ true → Led x f u → TurnRow v x f
turn_row v u (EnterTurn Purpose.UpgradableRead) (Turn Step.More) t e = record { reading = refl; sharing = refl; over = refl; upgrade = λ t h. refl; refused = tt; unowed = refl }
turn_row v u (EnterTurn Purpose.UpgradableRead) (Turn (Step.End End.Got)) t e = record { reading = refl; sharing = refl; over = refl; upgrade = λ t h. refl; refused = tt; unowed = refl }
turn_row v u (EnterTurn Purpose.UpgradableRead) (Turn (Step.End End.Pending)) t e = record { reading = refl; sharing = refl; over = refl; upgrade = refl; refused = tt; unowed = refl }
turn_row v u (EnterTurn Purpose.UpgradableRead) (Turn (Step.End (End.Refused Refusal.Memory))) t e = record { reading = refl; sharing = refl; over = refl; upgrade = refl; refused = inl (refl, refl); unowed = refl }
turn_row v u (EnterTurn Purpose.UpgradableRead) (Turn (Step.End (End.Refused Refusal.Starved))) t e = record { reading = refl; sharing = refl; over = refl; upgrade = refl; refused = inl (refl, refl); unowed = refl }
turn_row v u (EnterTurn Purpose.UpgradableRead) (Turn _) t e = absurd e
turn_row v u (EnterTurn Purpose.UpgradableRead) _ t e = absurd e
turn_row v u (EnterTurn Purpose.Write) (Turn Step.More) t e = record { reading = refl; sharing = refl; over = refl; upgrade = λ t h. refl; refused = tt; unowed = refl }
turn_row v u (EnterTurn Purpose.Write) (Turn (Step.End End.Got)) t e = record { reading = refl; sharing = refl; over = refl; upgrade = λ t h. refl; refused = tt; unowed = refl }
turn_row v u (EnterTurn Purpose.Write) (Turn (Step.End End.Pending)) t e = record { reading = refl; sharing = refl; over = refl; upgrade = refl; refused = tt; unowed = refl }
turn_row v u (EnterTurn Purpose.Write) (Turn (Step.End (End.Refused Refusal.Memory))) t e = record { reading = refl; sharing = refl; over = refl; upgrade = refl; refused = inl (refl, refl); unowed = refl }
turn_row v u (EnterTurn Purpose.Write) (Turn (Step.End (End.Refused Refusal.Starved))) t e = record { reading = refl; sharing = refl; over = refl; upgrade = refl; refused = inl (refl, refl); unowed = refl }
turn_row v u (EnterTurn Purpose.Write) (Turn _) t e = absurd e
turn_row v u (EnterTurn Purpose.Write) _ t e = absurd e
turn_row v u (WaitTurn Purpose.UpgradableRead) (Turn Step.More) t e = record { reading = refl; sharing = refl; over = refl; upgrade = λ t h. refl; refused = tt; unowed = refl }
turn_row v u (WaitTurn Purpose.UpgradableRead) (Turn (Step.End End.Got)) t e = record { reading = refl; sharing = refl; over = refl; upgrade = λ t h. refl; refused = tt; unowed = refl }
turn_row v u (WaitTurn Purpose.UpgradableRead) (Turn (Step.End End.Pending)) t e = record { reading = refl; sharing = refl; over = refl; upgrade = refl; refused = tt; unowed = refl }
turn_row v u (WaitTurn Purpose.UpgradableRead) (Turn (Step.End (End.Refused Refusal.Memory))) t e = record { reading = refl; sharing = refl; over = refl; upgrade = refl; refused = inl (refl, refl); unowed = refl }
turn_row v u (WaitTurn Purpose.UpgradableRead) (Turn (Step.End (End.Refused Refusal.Starved))) t e = record { reading = refl; sharing = refl; over = refl; upgrade = refl; refused = inl (refl, refl); unowed = refl }
turn_row v u (WaitTurn Purpose.UpgradableRead) (Turn _) t e = absurd e
turn_row v u (WaitTurn Purpose.UpgradableRead) _ t e = absurd e
turn_row v u (WaitTurn Purpose.Write) (Turn Step.More) t e = record { reading = refl; sharing = refl; over = refl; upgrade = λ t h. refl; refused = tt; unowed = refl }
turn_row v u (WaitTurn Purpose.Write) (Turn (Step.End End.Got)) t e = record { reading = refl; sharing = refl; over = refl; upgrade = λ t h. refl; refused = tt; unowed = refl }
turn_row v u (WaitTurn Purpose.Write) (Turn (Step.End End.Pending)) t e = record { reading = refl; sharing = refl; over = refl; upgrade = refl; refused = tt; unowed = refl }
turn_row v u (WaitTurn Purpose.Write) (Turn (Step.End (End.Refused Refusal.Memory))) t e = record { reading = refl; sharing = refl; over = refl; upgrade = refl; refused = inl (refl, refl); unowed = refl }
turn_row v u (WaitTurn Purpose.Write) (Turn (Step.End (End.Refused Refusal.Starved))) t e = record { reading = refl; sharing = refl; over = refl; upgrade = refl; refused = inl (refl, refl); unowed = refl }
turn_row v u (WaitTurn Purpose.Write) (Turn _) t e = absurd e
turn_row v u (WaitTurn Purpose.Write) _ t e = absurd e
turn_row v u (TakeTurn Purpose.UpgradableRead) (Turn Step.More) t e = record { reading = refl; sharing = refl; over = refl; upgrade = λ t h. refl; refused = tt; unowed = refl }
turn_row v u (TakeTurn Purpose.UpgradableRead) (Turn (Step.End End.Got)) t e = record { reading = refl; sharing = refl; over = refl; upgrade = λ t h. refl; refused = tt; unowed = refl }
turn_row v u (TakeTurn Purpose.UpgradableRead) (Turn (Step.End End.Pending)) t e = record { reading = refl; sharing = refl; over = refl; upgrade = refl; refused = tt; unowed = refl }
turn_row v u (TakeTurn Purpose.UpgradableRead) (Turn (Step.End (End.Refused Refusal.Memory))) t e = record { reading = refl; sharing = refl; over = refl; upgrade = refl; refused = inl (refl, refl); unowed = refl }
turn_row v u (TakeTurn Purpose.UpgradableRead) (Turn (Step.End (End.Refused Refusal.Starved))) t e = record { reading = refl; sharing = refl; over = refl; upgrade = refl; refused = inl (refl, refl); unowed = refl }
turn_row v u (TakeTurn Purpose.UpgradableRead) (Turn _) t e = absurd e
turn_row v u (TakeTurn Purpose.UpgradableRead) _ t e = absurd e
turn_row v u (TakeTurn Purpose.Write) (Turn Step.More) t e = record { reading = refl; sharing = refl; over = refl; upgrade = λ t h. refl; refused = tt; unowed = refl }
turn_row v u (TakeTurn Purpose.Write) (Turn (Step.End End.Got)) t e = record { reading = refl; sharing = refl; over = refl; upgrade = λ t h. refl; refused = tt; unowed = refl }
turn_row v u (TakeTurn Purpose.Write) (Turn (Step.End End.Pending)) t e = record { reading = refl; sharing = refl; over = refl; upgrade = refl; refused = tt; unowed = refl }
turn_row v u (TakeTurn Purpose.Write) (Turn (Step.End (End.Refused Refusal.Memory))) t e = record { reading = refl; sharing = refl; over = refl; upgrade = refl; refused = inl (refl, refl); unowed = refl }
turn_row v u (TakeTurn Purpose.Write) (Turn (Step.End (End.Refused Refusal.Starved))) t e = record { reading = refl; sharing = refl; over = refl; upgrade = refl; refused = inl (refl, refl); unowed = refl }
turn_row v u (TakeTurn Purpose.Write) (Turn _) t e = absurd e
turn_row v u (TakeTurn Purpose.Write) _ t e = absurd e
turn_row v u (TryTurn Purpose.UpgradableRead) (Turn (Step.End End.Got)) t e = record { reading = refl; sharing = refl; over = refl; upgrade = λ t h. refl; refused = tt; unowed = refl }
turn_row v u (TryTurn Purpose.UpgradableRead) (Turn (Step.End End.NotFree)) t e = record { reading = refl; sharing = refl; over = refl; upgrade = tt; refused = tt; unowed = refl }
turn_row v u (TryTurn Purpose.UpgradableRead) (Turn _) t e = absurd e
turn_row v u (TryTurn Purpose.UpgradableRead) _ t e = absurd e
turn_row v u (TryTurn Purpose.Write) (Turn (Step.End End.Got)) t e = record { reading = refl; sharing = refl; over = refl; upgrade = λ t h. refl; refused = tt; unowed = refl }
turn_row v u (TryTurn Purpose.Write) (Turn (Step.End End.NotFree)) t e = record { reading = refl; sharing = refl; over = refl; upgrade = tt; refused = tt; unowed = refl }
turn_row v u (TryTurn Purpose.Write) (Turn _) t e = absurd e
turn_row v u (TryTurn Purpose.Write) _ t e = absurd e
turn_row v u CancelTurn (Turn Step.More) t e = record { reading = refl; sharing = refl; over = refl; upgrade = λ t h. refl; refused = tt; unowed = refl }
turn_row v u CancelTurn (Turn (Step.End End.GivenBack)) t e = record { reading = refl; sharing = refl; over = refl; upgrade = tt; refused = tt; unowed = refl }
turn_row v u CancelTurn (Turn _) t e = absurd e
turn_row v u CancelTurn _ t e = absurd e
turn_row v u CancellingTurn (Turn Step.More) t e = record { reading = refl; sharing = refl; over = refl; upgrade = λ t h. refl; refused = tt; unowed = refl }
turn_row v u CancellingTurn (Turn (Step.End End.GivenBack)) t e = record { reading = refl; sharing = refl; over = refl; upgrade = tt; refused = tt; unowed = refl }
turn_row v u CancellingTurn (Turn _) t e = absurd e
turn_row v u CancellingTurn _ t e = absurd e
turn_row v u (ReleaseTurn Ending.GivenBack) (Turn Step.More) t e = record { reading = refl; sharing = refl; over = refl; upgrade = λ t h. refl; refused = tt; unowed = refl }
turn_row v u (ReleaseTurn Ending.GivenBack) (Turn (Step.End End.GivenBack)) t e = record { reading = refl; sharing = refl; over = refl; upgrade = tt; refused = tt; unowed = refl }
turn_row v u (ReleaseTurn Ending.GivenBack) (Turn _) t e = absurd e
turn_row v u (ReleaseTurn Ending.GivenBack) _ t e = absurd e
turn_row v u (ReleasingTurn Ending.GivenBack) (Turn (Step.End End.GivenBack)) t e = record { reading = refl; sharing = refl; over = refl; upgrade = tt; refused = tt; unowed = refl }
turn_row v u (ReleasingTurn Ending.GivenBack) (Turn _) t e = absurd e
turn_row v u (ReleasingTurn Ending.GivenBack) _ t e = absurd e
turn_row v u (ReleaseTurn (Ending.NotFree p)) (Turn Step.More) t e = record { reading = refl; sharing = refl; over = refl; upgrade = λ t h. refl; refused = tt; unowed = refl }
turn_row v u (ReleaseTurn (Ending.NotFree p)) (Turn (Step.End End.GivenBack)) t e = record { reading = refl; sharing = refl; over = refl; upgrade = tt; refused = tt; unowed = refl }
turn_row v u (ReleaseTurn (Ending.NotFree p)) (Turn _) t e = absurd e
turn_row v u (ReleaseTurn (Ending.NotFree p)) _ t e = absurd e
turn_row v u (ReleasingTurn (Ending.NotFree p)) (Turn (Step.End End.GivenBack)) t e = record { reading = refl; sharing = refl; over = refl; upgrade = tt; refused = tt; unowed = refl }
turn_row v u (ReleasingTurn (Ending.NotFree p)) (Turn _) t e = absurd e
turn_row v u (ReleasingTurn (Ending.NotFree p)) _ t e = absurd e
turn_row v u (ReleaseTurn Ending.RefuseReaders) (Turn Step.More) t e = record { reading = refl; sharing = refl; over = refl; upgrade = λ t h. refl; refused = tt; unowed = refl }
turn_row v u (ReleaseTurn Ending.RefuseReaders) (Turn (Step.End End.GivenBack)) t e = record { reading = refl; sharing = refl; over = refl; upgrade = refl; refused = inl (refl, refl); unowed = refl }
turn_row v u (ReleaseTurn Ending.RefuseReaders) (Turn _) t e = absurd e
turn_row v u (ReleaseTurn Ending.RefuseReaders) _ t e = absurd e
turn_row v u (ReleasingTurn Ending.RefuseReaders) (Turn (Step.End End.GivenBack)) t e = record { reading = refl; sharing = refl; over = refl; upgrade = refl; refused = inl (refl, refl); unowed = refl }
turn_row v u (ReleasingTurn Ending.RefuseReaders) (Turn _) t e = absurd e
turn_row v u (ReleasingTurn Ending.RefuseReaders) _ t e = absurd e
turn_row v u (ReleaseTurn Ending.RefuseMemory) (Turn Step.More) t e = record { reading = refl; sharing = refl; over = refl; upgrade = λ t h. refl; refused = tt; unowed = refl }
turn_row v u (ReleaseTurn Ending.RefuseMemory) (Turn (Step.End End.GivenBack)) t e = record { reading = refl; sharing = refl; over = refl; upgrade = refl; refused = inl (refl, refl); unowed = refl }
turn_row v u (ReleaseTurn Ending.RefuseMemory) (Turn _) t e = absurd e
turn_row v u (ReleaseTurn Ending.RefuseMemory) _ t e = absurd e
turn_row v u (ReleasingTurn Ending.RefuseMemory) (Turn (Step.End End.GivenBack)) t e = record { reading = refl; sharing = refl; over = refl; upgrade = refl; refused = inl (refl, refl); unowed = refl }
turn_row v u (ReleasingTurn Ending.RefuseMemory) (Turn _) t e = absurd e
turn_row v u (ReleasingTurn Ending.RefuseMemory) _ t e = absurd e
turn_row v u (ReleaseTurn Ending.Reading) (Turn Step.More) t e = record { reading = refl; sharing = refl; over = refl; upgrade = λ t h. refl; refused = tt; unowed = refl }
turn_row v u (ReleaseTurn Ending.Reading) (Turn (Step.End End.GivenBack)) t e = record { reading = refl; sharing = refl; over = refl; upgrade = tt; refused = tt; unowed = refl }
turn_row v u (ReleaseTurn Ending.Reading) (Turn _) t e = absurd e
turn_row v u (ReleaseTurn Ending.Reading) _ t e = absurd e
turn_row v u (ReleasingTurn Ending.Reading) (Turn (Step.End End.GivenBack)) t e = record { reading = refl; sharing = refl; over = refl; upgrade = tt; refused = tt; unowed = refl }
turn_row v u (ReleasingTurn Ending.Reading) (Turn _) t e = absurd e
turn_row v u (ReleasingTurn Ending.Reading) _ t e = absurd e
turn_row v u (ReleaseTurn Ending.NotifyReaders) (Turn Step.More) t e = record { reading = refl; sharing = refl; over = refl; upgrade = λ t h. refl; refused = tt; unowed = refl }
turn_row v u (ReleaseTurn Ending.NotifyReaders) (Turn (Step.End End.GivenBack)) t e = record { reading = refl; sharing = refl; over = refl; upgrade = λ t h. refl; refused = tt; unowed = refl }
turn_row v u (ReleaseTurn Ending.NotifyReaders) (Turn _) t e = absurd e
turn_row v u (ReleaseTurn Ending.NotifyReaders) _ t e = absurd e
turn_row v u (ReleasingTurn Ending.NotifyReaders) (Turn (Step.End End.GivenBack)) t e = record { reading = refl; sharing = refl; over = refl; upgrade = λ t h. refl; refused = tt; unowed = refl }
turn_row v u (ReleasingTurn Ending.NotifyReaders) (Turn _) t e = absurd e
turn_row v u (ReleasingTurn Ending.NotifyReaders) _ t e = absurd e
turn_row v u _ f t e = absurd (cc)
