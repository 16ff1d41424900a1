-- The two lists of a read-write lock as its parties see them.
use Rattle.std.specs.Prelude.{◌≡◌, ℕ, Bool, true, false, List}
use Rattle.lock_event.specs.declared.event.Entry.{Entry}
use Rattle.lock_event.specs.Lists.{joined, notified, left, without, is_marked_at}
use Rattle.world_base.specs.queue.Parties.{is_party}
use Rattle.sync_program.specs.declared.rwlock.Action.{Action}
use Rattle.sync_program.specs.declared.rwlock.Action.TheVariants as act
use Rattle.sync_program.specs.declared.rwlock.Found.{Found}
use Rattle.sync_program.specs.declared.rwlock.Found.TheVariants.{Done, NoMemory, Yes, No}

-- what joining, asking, leaving and notifying do to a list that find this
abbrev pub Joins : ℕ → Found → List (Entry ℕ) → List (Entry ℕ) → Type 0
Joins p Done l m = m ≡ joined l p
Joins p NoMemory l m = m ≡ l
Joins p _ l m = ⊥

abbrev pub Asks : ℕ → Found → List (Entry ℕ) → List (Entry ℕ) → Type 0
Asks p Yes l m = (is_marked_at (is_party p) l ≡ true) × (m ≡ without (is_party p) l)
Asks p No l m = (is_marked_at (is_party p) l ≡ false) × (m ≡ l)
Asks p _ l m = ⊥

abbrev pub Leaves : ℕ → Found → List (Entry ℕ) → List (Entry ℕ) → Type 0
Leaves p Done l m = m ≡ left (is_party p) l
Leaves p _ l m = ⊥

abbrev pub Notifies : Found → List (Entry ℕ) → List (Entry ℕ) → Type 0
Notifies Done l m = m ≡ notified l 1
Notifies _ l m = ⊥

-- a join finds memory exactly where there is some
abbrev pub HasMemory : Bool → Found → Type 0
HasMemory memory Done = memory ≡ true
HasMemory memory NoMemory = memory ≡ false
HasMemory memory _ = Unit {0}

abbrev pub FindsMemory : Bool → Action → Found → Type 0
FindsMemory memory act.JoinNoWriter f = HasMemory memory f
FindsMemory memory act.JoinNoReaders f = HasMemory memory f
FindsMemory memory _ f = Unit {0}

-- the list function that an action is, for this party, on each list
abbrev pub OnNoWriter : ℕ → Action → Found → List (Entry ℕ) → List (Entry ℕ) → Type 0
OnNoWriter p act.JoinNoWriter f l m = Joins p f l m
OnNoWriter p act.AskNoWriter f l m = Asks p f l m
OnNoWriter p act.LeaveNoWriter f l m = Leaves p f l m
OnNoWriter p act.NotifyNoWriter f l m = Notifies f l m
OnNoWriter p _ f l m = m ≡ l

abbrev pub OnNoReaders : ℕ → Action → Found → List (Entry ℕ) → List (Entry ℕ) → Type 0
OnNoReaders p act.JoinNoReaders f l m = Joins p f l m
OnNoReaders p act.AskNoReaders f l m = Asks p f l m
OnNoReaders p act.LeaveNoReaders f l m = Leaves p f l m
OnNoReaders p act.NotifyNoReaders f l m = Notifies f l m
OnNoReaders p _ f l m = m ≡ l
