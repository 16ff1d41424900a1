-- What the program is asked for, and what a script is.
use Rattle.std.specs.Prelude.{ℕ, ◌≡◌, ◌+◌, ◌≤◌, ◌⊎◌, Option, List, [], ◌∷◌, length, All, codes}
use Rattle.std.specs.Io.KnownBytes.{Consumes, IsAtEnd}
use Rattle.lockrun_play.specs.declared.script.TheConstants.{LIMIT}
use Rattle.lockrun_play.specs.declared.task.Task.{Task}
use Rattle.lockrun_play.specs.declared.task.Task.TheVariants.{Script, Threads}
use Rattle.lockrun_script.specs.declared.command.Command.{Command}
use Rattle.lockrun_script.specs.declared.command.Command.TheVariants.{On}
use Rattle.lockrun_script.specs.declared.command.Request.{Request}
use Rattle.lockrun_script.specs.Commands.{Asks}
use Rattle.lockrun_script.specs.Lines.{lines_of, words_of, IsSkipped, IsPrintable, IsTrimmed, Writes}

-- the arguments that ask for a script: the one word `script`
abbrev pub asked : List (List ℕ)
asked = codes "script" ∷ []

-- a number of workers: 1 to 4 decimal digits, from 1 to 1000
pub record IsWorkers (word : List ℕ) (count : ℕ) : Type 0 where
  pub written : Writes word count
  pub few : length word ≤ 4
  pub from : 1 ≤ count
  pub to : count ≤ 1000

-- what the arguments ask for: a script, or so many workers by the word `threads` and their number
abbrev pub AsksFor : List (List ℕ) → Task → Type 0
AsksFor words Script = words ≡ asked
AsksFor words (Threads count) = (word : List ℕ) × (words ≡ codes "threads" ∷ word ∷ []) × IsWorkers word count

-- a line that asks for a command: its words do, it is printable ASCII, and no space stands at an end
pub record IsCommand (line : List ℕ) : Type 0 where
  pub command : Command
  pub asks : Asks (words_of line) command
  pub printable : IsPrintable line
  pub trimmed : IsTrimmed line

-- a line that a script may have: one that is skipped, or one that asks for a command
abbrev pub IsLine : List ℕ → Type 0
IsLine line = IsSkipped line ⊎ IsCommand line

-- a whole script: it is short enough, and each of its lines is one that a script may have
pub record IsScript (text : List ℕ) : Type 0 where
  pub short : length text ≤ LIMIT
  pub lines : All IsLine (lines_of text)

-- a line that asks something of the World that stands
pub record NeedsWorld (line : List ℕ) : Type 0 where
  pub asked : IsCommand line
  pub request : Request
  pub on : asked.command ≡ On request

-- what was read is what the input lost, and is the whole input unless it is longer than a script
pub record IsStartOfScript (old new : Option (List ℕ)) (text : List ℕ) : Type 0 where
  pub taken : Consumes old new text
  pub whole : length text ≤ LIMIT → IsAtEnd new
  pub most : length text ≤ LIMIT + 1
