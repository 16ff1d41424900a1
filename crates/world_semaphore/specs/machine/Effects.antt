-- What an action is: one change of the words and of what its party has, or one list function; and what it finds.
use Rattle.std.specs.Prelude.{◌≡◌, ℕ, ◌+◌, ◌-◌, ◌<◌, ◌≤◌, if◌then◌else◌, Bool, true, false, List, slice_set}
use Rattle.lock_event.specs.declared.event.Entry.{Entry}
use Rattle.lock_event.specs.Lists.{joined, without, is_marked_at}
use Rattle.weighted_event.specs.Weights.{fitted}
use Rattle.world_base.specs.queue.Parties.{is_party, entries_of}
use Rattle.world_base.specs.queue.Weighted.{WeightedQueue}
use Rattle.sync_program.specs.declared.permits.Action.{Action}
use Rattle.sync_program.specs.declared.permits.Action.TheVariants as act
use Rattle.sync_program.specs.declared.permits.Found.{Found}
use Rattle.sync_program.specs.declared.permits.Found.TheVariants.{Done, Left, Short, Available, PastLimit, NoMemory, Yes, No}
use Rattle.world_semaphore.specs.declared.machine.words.Words.{Words}
use Rattle.world_semaphore.specs.machine.Seats.{Share, nothing_had, guard_of, under_way_of}

-- The changes of a semaphore: the party takes so many permits, gives back those of its guard or forgets them; it raises the limit by so many, which are then under way, or gives those that are.
pub data Change : Type 0 where
  takes : ℕ → Change
  gives_back : ℕ → Change
  forgets : ℕ → Change
  raises : ℕ → Change
  gives : ℕ → Change

-- What a party may do to the list: it joins; it asks for its notification; its entry is removed; or it has the first entry notified for which so many permits are enough.
pub data ListFunction : Type 0 where
  joins : ListFunction
  asks : ListFunction
  removes : ListFunction
  fits : ℕ → ListFunction

-- A step does nothing, or makes one change of the state, or does one list function: never two of these.
pub data Effect : Type 0 where
  nothing : Effect
  changes : Change → Effect
  does : ListFunction → Effect

-- what the party has after a change
abbrev pub share_after : Change → Share → Share
share_after (takes k) s = guard_of k
share_after (gives_back k) s = nothing_had
share_after (forgets k) s = nothing_had
share_after (raises n) s = under_way_of n
share_after (gives n) s = nothing_had

-- the limit after a change
abbrev pub limit_after : Change → ℕ → ℕ
limit_after (raises n) limit = limit + n
limit_after (forgets k) limit = limit - k
limit_after _ limit = limit

abbrev pub available_after : Change → ℕ → ℕ
available_after (takes k) a = a - k
available_after (gives_back k) a = a + k
available_after (gives n) a = a + n
available_after _ a = a

abbrev pub share_then : Effect → Share → Share
share_then (changes c) s = share_after c s
share_then _ s = s

-- A party whose call is decided may leave the list or tell others, and neither join nor ask.
abbrev pub is_parting : ListFunction → Bool
is_parting joins = false
is_parting asks = false
is_parting _ = true

-- Once its call is decided, a party only gives back: its permits, those that are under way, its entry, a notification.
abbrev pub gives_something_back : Effect → Bool
gives_something_back nothing = true
gives_something_back (changes (takes k)) = false
gives_something_back (changes (raises n)) = false
gives_something_back (changes _) = true
gives_something_back (does f) = is_parting f

-- What gives something up: permits, or a place in the list without asking there.
abbrev pub gives_up : Effect → Bool
gives_up (changes (gives_back k)) = true
gives_up (changes (forgets k)) = true
gives_up (does removes) = true
gives_up _ = false

abbrev pub words : ℕ → ℕ → ℕ → Words
words available limit most = record { available = available; limit = limit; most = most }

abbrev pub words_after : Effect → Words → Words
words_after (changes c) w = words (available_after c w.available) (limit_after c w.limit) w.most
words_after _ w = w

-- The list after a list function of this party, where each party wants so many permits.
abbrev pub list_after : (ℕ → ℕ) → ℕ → ListFunction → List (Entry ℕ) → List (Entry ℕ)
list_after size p joins l = joined l p
list_after size p asks l = if is_marked_at (is_party p) l then without (is_party p) l else l
list_after size p removes l = without (is_party p) l
list_after size p (fits a) l = fitted size a l

abbrev pub entries_after : (ℕ → ℕ) → ℕ → Effect → List (Entry ℕ) → List (Entry ℕ)
entries_after size p (does f) l = list_after size p f l
entries_after size p _ l = l

-- what an action is that found this
abbrev pub effect_of : Action → Found → Effect
effect_of (act.Take k) (Left a) = changes (takes k)
effect_of (act.GiveBack k) (Available a) = changes (gives_back k)
effect_of (act.Give n) (Available a) = changes (gives n)
effect_of (act.Raise n) Done = changes (raises n)
effect_of (act.Lower k) Done = changes (forgets k)
effect_of (act.Join k) Done = does joins
effect_of act.Ask Yes = does asks
effect_of act.Ask No = does asks
effect_of act.Remove Yes = does removes
effect_of act.Remove No = does removes
effect_of (act.Fit a) Done = does (fits a)
effect_of _ _ = nothing

-- the weights of the list after an action: a party joins with its own
abbrev pub weights_after : ℕ → Action → Found → List ℕ → List ℕ
weights_after p (act.Join k) Done ws = slice_set ws p k
weights_after p _ _ ws = ws

-- what a look at the permits finds: so many are left, as k were taken, or there are fewer than k
abbrev pub FindsPermits : ℕ → Found → ℕ → Type 0
FindsPermits k (Left a) available = a + k ≡ available
FindsPermits k (Short a) available = (a ≡ available) × (a < k)
FindsPermits k _ available = ⊥

abbrev pub taken_after : ℕ → Found → Words → Words
taken_after k found w = words_after (effect_of (act.Take k) found) w

-- so many are available
abbrev pub FindsSo : ℕ → Found → Type 0
FindsSo available (Available a) = a ≡ available
FindsSo available _ = ⊥

-- what a party finds whose entry was notified or wasn't
abbrev pub told_by : Bool → Found
told_by true = Yes
told_by false = No

-- whether the limit may be raised by so many
abbrev pub FindsRoom : ℕ → Found → Words → Type 0
FindsRoom n Done w = w.limit + n ≤ w.most
FindsRoom n PastLimit w = w.most < w.limit + n
FindsRoom n _ w = ⊥

abbrev pub raised_after : ℕ → Found → Words → Words
raised_after n found w = words_after (effect_of (act.Raise n) found) w

-- what an action's finding says of the words and of the list
abbrev pub Finds : Bool → ℕ → Action → Found → Words → List (Entry ℕ) → Type 0
Finds memory p (act.Take k) found w l = FindsPermits k found w.available
Finds memory p (act.GiveBack k) found w l = FindsSo (w.available + k) found
Finds memory p (act.Give n) found w l = FindsSo (w.available + n) found
Finds memory p act.Load found w l = FindsSo w.available found
Finds memory p (act.Raise n) found w l = FindsRoom n found w
Finds memory p (act.Join k) Done w l = memory ≡ true
Finds memory p (act.Join k) NoMemory w l = memory ≡ false
Finds memory p (act.Join k) _ w l = ⊥
Finds memory p act.Ask Yes w l = is_marked_at (is_party p) l ≡ true
Finds memory p act.Ask No w l = is_marked_at (is_party p) l ≡ false
Finds memory p act.Ask _ w l = ⊥
Finds memory p act.Remove Yes w l = is_marked_at (is_party p) l ≡ true
Finds memory p act.Remove No w l = is_marked_at (is_party p) l ≡ false
Finds memory p act.Remove _ w l = ⊥
Finds memory p _ Done w l = Unit {0}
Finds memory p _ _ w l = ⊥

-- what an action needs of the words and of the list
abbrev pub CanDo : ℕ → Action → Words → WeightedQueue → Type 0
CanDo p (act.GiveBack k) w q = w.available + k ≤ w.limit
CanDo p (act.Give n) w q = w.available + n ≤ w.limit
CanDo p (act.Raise n) w q = w.limit ≤ w.most
CanDo p (act.Lower k) w q = k ≤ w.limit
CanDo p (act.Join k) w q = (p < q.parties) × (entries_of p q.entries ≡ 0)
CanDo p act.Ask w q = (p < q.parties) × (0 < entries_of p q.entries)
CanDo p act.Remove w q = (p < q.parties) × (0 < entries_of p q.entries)
CanDo p _ w q = Unit {0}
