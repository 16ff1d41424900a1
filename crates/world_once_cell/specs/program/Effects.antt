-- What an action is: one change of the cell, or one list function; and what it finds.
use Rattle.std.specs.Prelude.{◌≡◌, ℕ, ◌<◌, Bool, true, false, List}
use Rattle.lock_event.specs.declared.event.Entry.{Entry}
use Rattle.lock_event.specs.Lists.{is_marked_at}
use Rattle.world_base.specs.queue.Parties.{is_party, entries_of}
use Rattle.world_base.specs.queue.Queues.{Queue}
use Rattle.world_base.specs.declared.moves.Inputs.{Inputs}
use Rattle.world_base.specs.declared.moves.Made.{Made}
use Rattle.world_base.specs.declared.moves.Made.TheVariants as made
use Rattle.world_base.specs.Steps.{Effect, nothing, changes, does, joins, asks, leaves, notifies, notifies_additionally, list_after}
use Rattle.world_once_cell.specs.declared.program.words.Content.{Content}
use Rattle.world_once_cell.specs.declared.program.words.Content.TheVariants as content
use Rattle.world_once_cell.specs.program.Program.{Action}
use Rattle.sync_program.specs.declared.once_cell.Action.TheVariants as act
use Rattle.world_once_cell.specs.program.Program.{Found}
use Rattle.sync_program.specs.declared.once_cell.Found.TheVariants as found
use Rattle.sync_program.specs.declared.once_cell.ListName.{ListName}
use Rattle.sync_program.specs.declared.once_cell.ListName.TheVariants.{Active, Passive}
use Rattle.world_once_cell.specs.program.Program.{Maker}
use Rattle.sync_program.specs.declared.once_cell.Maker.TheVariants.{Closure, Given}

-- The changes of a cell: the party begins to make its value; a value enters; the making ends and no value enters.
pub data Change : Type 0 where
  begins : Change
  fills : ℕ → Change
  empties : Change

-- what is in the cell after a change by this party
abbrev pub changed : ℕ → Change → Content
changed p begins = content.BeingMade p
changed p (fills v) = content.Full v
changed p empties = content.Empty

abbrev pub content_after : ℕ → Effect Change ListName → Content → Content
content_after p (changes c) was = changed p c
content_after p nothing was = was
content_after p (does list f) was = was

-- a list after an effect that may be on it
abbrev pub active_after : ℕ → Effect Change ListName → List (Entry ℕ) → List (Entry ℕ)
active_after p (does Active f) l = list_after p f l
active_after p _ l = l

abbrev pub passive_after : ℕ → Effect Change ListName → List (Entry ℕ) → List (Entry ℕ)
passive_after p (does Passive f) l = list_after p f l
passive_after p _ l = l

-- more than any list has entries
abbrev pub everyone : ℕ
everyone = 18446744073709551615

-- what an action is that found this
abbrev pub effect_of : Action → Found → Effect Change ListName
effect_of act.Claim found.Empty = changes begins
effect_of (act.Fill v) found.Done = changes (fills v)
effect_of act.Empty found.Done = changes empties
effect_of (act.Join list) found.Done = does list joins
effect_of (act.Ask list) found.Yes = does list asks
effect_of (act.Ask list) found.No = does list asks
effect_of (act.Leave list) found.Done = does list leaves
effect_of (act.Notify list) found.Done = does list (notifies 1)
effect_of (act.NotifyAll list) found.Done = does list (notifies_additionally everyone)
effect_of _ _ = nothing

-- what a look at the cell finds
abbrev pub FindsContent : Found → Content → Type 0
FindsContent found.Empty c = c ≡ content.Empty
FindsContent found.BeingMade c = (q : ℕ) × (c ≡ content.BeingMade q)
FindsContent (found.Full v) c = c ≡ content.Full v
FindsContent _ c = ⊥

abbrev pub claimed_after : ℕ → Found → Content → Content
claimed_after p f c = content_after p (effect_of act.Claim f) c

-- what the maker of an initialisation gives: a set has its value, and another maker gives what the move's input says
abbrev pub FindsMade : Maker → Made → Found → Type 0
FindsMade (Given v) m f = f ≡ found.Made v
FindsMade Closure made.Pending f = f ≡ found.NotYet
FindsMade Closure (made.Value v) f = f ≡ found.Made v
FindsMade Closure made.Fail f = f ≡ found.Failed

abbrev pub FindsJoin : Bool → Found → Type 0
FindsJoin memory found.Done = memory ≡ true
FindsJoin memory found.NoMemory = memory ≡ false
FindsJoin memory _ = ⊥

abbrev pub FindsAsk : ℕ → Found → List (Entry ℕ) → Type 0
FindsAsk p found.Yes l = is_marked_at (is_party p) l ≡ true
FindsAsk p found.No l = is_marked_at (is_party p) l ≡ false
FindsAsk p _ l = ⊥

abbrev pub IsDone : Found → Type 0
IsDone found.Done = Unit {0}
IsDone _ = ⊥

-- the list of this name
abbrev pub list_of : {A : Type 0} → ListName → A → A → A
list_of Active active passive = active
list_of Passive active passive = passive

-- what an action's finding says of the inputs, the cell and the lists
abbrev pub Finds : Inputs → ℕ → Action → Found → Content → List (Entry ℕ) → List (Entry ℕ) → Type 0
Finds i p act.Claim f c active passive = FindsContent f c
Finds i p act.Look f c active passive = FindsContent f c
Finds i p (act.Make k) f c active passive = FindsMade k i.made f
Finds i p (act.Join list) f c active passive = FindsJoin i.memory f
Finds i p (act.Ask list) f c active passive = FindsAsk p f (list_of list active passive)
Finds i p _ f c active passive = IsDone f

-- what a list function needs of its list
abbrev pub CanList : ℕ → Action → Queue → Type 0
CanList p (act.Join list) q = (p < q.parties) × (entries_of p q.entries ≡ 0)
CanList p (act.Ask list) q = (p < q.parties) × (0 < entries_of p q.entries)
CanList p (act.Leave list) q = (p < q.parties) × (0 < entries_of p q.entries)
CanList p _ q = Unit {0}

-- what an action needs of the lists
abbrev pub CanDo : ℕ → Action → Queue → Queue → Type 0
CanDo p (act.Join list) active passive = CanList p (act.Join list) (list_of list active passive)
CanDo p (act.Ask list) active passive = CanList p (act.Ask list) (list_of list active passive)
CanDo p (act.Leave list) active passive = CanList p (act.Leave list) (list_of list active passive)
CanDo p _ active passive = Unit {0}
