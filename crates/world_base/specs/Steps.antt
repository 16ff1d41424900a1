-- What one step may change: nothing, one thing of the state, or one list by one list function. All Worlds share this.
use Rattle.std.specs.Prelude.{ℕ, Bool, true, false, if◌then◌else◌, List}
use Rattle.lock_event.specs.declared.event.Entry.{Entry}
use Rattle.lock_event.specs.Lists.{joined, notified, notified_additionally, left, without, is_marked_at}
use Rattle.world_base.specs.queue.Parties.{is_party}

-- The list functions.
pub data ListFunction : Type 0 where
  joins : ListFunction
  asks : ListFunction
  leaves : ListFunction
  notifies : ℕ → ListFunction
  notifies_additionally : ℕ → ListFunction

-- A party that asks leaves the list if it was marked, and else nothing happens.
abbrev pub asked : ℕ → List (Entry ℕ) → List (Entry ℕ)
asked p l = if is_marked_at (is_party p) l then without (is_party p) l else l

-- The list after a list function of this party.
abbrev pub list_after : ℕ → ListFunction → List (Entry ℕ) → List (Entry ℕ)
list_after p joins l = joined l p
list_after p asks l = asked p l
list_after p leaves l = left (is_party p) l
list_after p (notifies n) l = notified l n
list_after p (notifies_additionally n) l = notified_additionally l n

-- A step does nothing, or makes one change of the state, or does one list function on the list of this name: never two of these.
pub data Effect (Change Name : Type 0) : Type 0 where
  nothing : Effect Change Name
  changes : Change → Effect Change Name
  does : Name → ListFunction → Effect Change Name

-- A party whose call is decided may leave a list or notify, and neither join nor ask.
abbrev pub is_parting : ListFunction → Bool
is_parting joins = false
is_parting asks = false
is_parting _ = true
