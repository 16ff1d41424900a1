-- What the words of a cell say is in it.
use Rattle.std.specs.Prelude.{ℕ, Option, Some, None}
use Rattle.world_once_cell.specs.declared.program.words.Content.{Content}
use Rattle.world_once_cell.specs.declared.program.words.Content.TheVariants as content
use Rattle.world_once_cell.specs.declared.program.words.State.{State}
use Rattle.world_once_cell.specs.declared.program.words.State.TheVariants.{Empty, BeingMade, Full}
use Rattle.world_once_cell.specs.declared.program.words.Words.{Words}

-- a full cell's content, by its value: one whose value was taken is empty
abbrev pub full_of : Option ℕ → Content
full_of (Some v) = content.Full v
full_of None = content.Empty

abbrev pub content_by : State → Option ℕ → Content
content_by Empty value = content.Empty
content_by (BeingMade p) value = content.BeingMade p
content_by Full value = full_of value

-- What is in the cell.
abbrev pub content_of : Words → Content
content_of w = content_by w.state w.value

-- what its parties last made of it: it stays full while its value is gone
abbrev pub full_kept : Option ℕ → Content
full_kept (Some v) = content.Full v
full_kept None = content.Full 0

abbrev pub kept_by : State → Option ℕ → Content
kept_by Empty value = content.Empty
kept_by (BeingMade p) value = content.BeingMade p
kept_by Full value = full_kept value

abbrev pub kept_of : Words → Content
kept_of w = kept_by w.state w.value

-- The cell's value, if it is full.
abbrev pub value_in : Content → Option ℕ
value_in content.Empty = None
value_in (content.BeingMade p) = None
value_in (content.Full v) = Some v

-- A cell into which another value was put, or from which it was taken, from outside every call: one that isn't full stays as it is.
abbrev pub refilled : Content → Option ℕ → Content
refilled content.Empty v = content.Empty
refilled (content.BeingMade p) v = content.BeingMade p
refilled (content.Full u) v = full_of v
