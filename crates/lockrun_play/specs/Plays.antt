-- What a script prints: each line's answer in turn, on the World that the lines before it led to.
use Rattle.std.specs.Prelude.{◌≡◌, ◌⊎◌, ℕ, ◌+◌, ◌<◌, List, [], ◌∷◌, ◌++◌, length, Option, Some, None, codes, decimal}
use Rattle.std.specs.Io.KnownBytes.{Appends, Keeps}
use Rattle.lockrun_script.specs.declared.command.Command.{Command}
use Rattle.lockrun_script.specs.declared.command.Command.TheVariants.{New, On}
use Rattle.lockrun_script.specs.declared.command.Model.{Model}
use Rattle.lockrun_play.specs.declared.world.World.{World}
use Rattle.lockrun_script.specs.Lines.{lines_of, IsSkipped}
use Rattle.lockrun_play.specs.Openings.{world_of, HasTooManyPermits}
use Rattle.lockrun_play.specs.declared.fault.Fault.{Fault}
use Rattle.lockrun_play.specs.declared.fault.Fault.TheVariants.{Usage, Read, TooLong, BadLine, Write, Memory, Thread}
use Rattle.lockrun_play.specs.declared.script.TheConstants.{LIMIT}
use Rattle.lockrun_play.specs.Scripts.{IsCommand, IsLine, NeedsWorld}
use Rattle.lockrun_play.specs.Worlds.{CarriesOut}

-- a new World takes the place of any old one; for too many permits it is refused by its number, 4, and the old one stays
abbrev pub Makes : Model → Option World → Option World → List ℕ → Type 0
Makes model old new text = ((¬ HasTooManyPermits model) × (new ≡ Some (world_of model)) × (text ≡ codes "ok"))
    ⊎ (HasTooManyPermits model × (new ≡ old) × (text ≡ codes "refused " ++ decimal 4))

-- a command leads from the World that stands, if one does, to another, and is answered by this text; where none stands only a new one can be asked for
abbrev pub LeadsTo : Command → Option World → Option World → List ℕ → Type 0
LeadsTo (New model) old new text = Makes model old new text
LeadsTo (On request) None new text = ⊥
LeadsTo (On request) (Some old) new text = (v : World) × (new ≡ Some v) × CarriesOut request old v text

-- the line asks for a command that leads so, and the answer is printed with a line feed, the byte 10
pub record IsAnswered (line : List ℕ) (old new : Option World) (bytes : List ℕ) : Type 0 where
  pub asked : IsCommand line
  pub text : List ℕ
  pub leads : LeadsTo asked.command old new text
  pub printed : bytes ≡ text ++ 10 ∷ []

-- the line is skipped: nothing is printed, and nothing changes
pub record IsPassedOver (line : List ℕ) (old new : Option World) (bytes : List ℕ) : Type 0 where
  pub skipped : IsSkipped line
  pub kept : new ≡ old
  pub nothing : bytes ≡ []

-- a line leads so, and these bytes are printed
abbrev pub PlaysLine : List ℕ → Option World → Option World → List ℕ → Type 0
PlaysLine line old new bytes = IsPassedOver line old new bytes ⊎ IsAnswered line old new bytes

-- the lines lead so in turn, and these bytes are printed
abbrev pub Plays : List (List ℕ) → Option World → Option World → List ℕ → Type 0
Plays [] old new bytes = (new ≡ old) × (bytes ≡ [])
Plays (line ∷ lines) old new bytes = (mid : Option World) × (first : List ℕ) × (others : List ℕ)
    × PlaysLine line old mid first × Plays lines mid new others × (bytes ≡ first ++ others)

-- the writer got what the script prints, if no World stands where it begins
pub record IsPlayed (text : List ℕ) (old new : Option (List ℕ)) : Type 0 where
  pub last : Option World
  pub bytes : List ℕ
  pub plays : Plays (lines_of text) None last bytes
  pub printed : Appends old new bytes

-- a line is bad where this World stands, or none: it is none that a script may have, or it asks something of a World though none stands
abbrev pub IsBad : List ℕ → Option World → Type 0
IsBad line world = (¬ IsLine line) ⊎ (NeedsWorld line × (world ≡ None))

-- the script's line of this number, from 1, is bad where it stands, and the writer got what those before it print
pub record StopsAtBadLine (number : ℕ) (text : List ℕ) (old new : Option (List ℕ)) : Type 0 where
  pub before : List (List ℕ)
  pub line : List ℕ
  pub after : List (List ℕ)
  pub stands : lines_of text ≡ before ++ line ∷ after
  pub numbered : number ≡ length before + 1
  pub last : Option World
  pub bytes : List ℕ
  pub plays : Plays before None last bytes
  pub bad : IsBad line last
  pub printed : Appends old new bytes

-- the writer got what some of the script's first lines print, and no more
pub record StopsShort (text : List ℕ) (old new : Option (List ℕ)) : Type 0 where
  pub before : List (List ℕ)
  pub after : List (List ℕ)
  pub stands : lines_of text ≡ before ++ after
  pub last : Option World
  pub bytes : List ℕ
  pub plays : Plays before None last bytes
  pub printed : Appends old new bytes

-- a text is at fault: it is longer than a script may be, and nothing is printed, or one of its lines is bad where it stands
abbrev pub IsAtFault : List ℕ → Option (List ℕ) → Option (List ℕ) → Type 0
IsAtFault text old new = ((LIMIT < length text) × Keeps old new) ⊎ ((number : ℕ) × StopsAtBadLine number text old new)

-- what a fault tells of a script and of what the writer got: the number of the bad line, and else, unless it couldn't be written, that a beginning of the answers was, in whole lines
abbrev pub Tells : Fault → List ℕ → Option (List ℕ) → Option (List ℕ) → Type 0
Tells TooLong text old new = (LIMIT < length text) × Keeps old new
Tells (BadLine n) text old new = StopsAtBadLine n text old new
Tells Memory text old new = StopsShort text old new
Tells Read text old new = Keeps old new
Tells Write text old new = Unit {0}
Tells Usage text old new = ⊥
Tells Thread text old new = ⊥

-- the same of one line, where a bad line's number is one of which this holds
abbrev pub TellsOfLine : (ℕ → Type 0) → Fault → Option (List ℕ) → Option (List ℕ) → Type 0
TellsOfLine IsBadLine (BadLine n) old new = IsBadLine n × Keeps old new
TellsOfLine IsBadLine Memory old new = Keeps old new
TellsOfLine IsBadLine Write old new = Unit {0}
TellsOfLine IsBadLine TooLong old new = ⊥
TellsOfLine IsBadLine Read old new = ⊥
TellsOfLine IsBadLine Usage old new = ⊥
TellsOfLine IsBadLine Thread old new = ⊥

-- the writer got this number as one line
abbrev pub PrintsThis : ℕ → Option (List ℕ) → Option (List ℕ) → Type 0
PrintsThis n old new = Appends old new (decimal n ++ 10 ∷ [])

-- the writer got some number as one line
abbrev pub PrintsNumber : Option (List ℕ) → Option (List ℕ) → Type 0
PrintsNumber old new = (n : ℕ) × PrintsThis n old new
