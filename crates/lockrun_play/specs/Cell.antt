-- What a script asks of a once-cell beyond its moves.
use Rattle.std.specs.Prelude.{ℕ, true, false, Option, Some, None, List, ◌++◌, codes, if◌then◌else◌}
use Rattle.world_once_cell.specs.declared.program.words.Content.{Content}
use Rattle.world_once_cell.specs.declared.program.words.Content.TheVariants.{Empty, BeingMade, Full}
use Rattle.world_once_cell.specs.program.Words.{value_in}
use Rattle.world_once_cell.specs.State.{World}
use Rattle.world_once_cell.specs.Laws.{is_at_rest}
use Rattle.world_once_cell.specs.Lending.{world_with}
use Rattle.lockrun_play.specs.declared.played.Reply.{Reply}
use Rattle.lockrun_play.specs.declared.played.Reply.TheVariants.{Done, Nothing, Value, NotPossible}
use Rattle.lockrun_play.specs.Answers.{list_text}
use Rattle.lockrun_play.specs.States.{cell_text}

-- a value takes the place of the one in the cell, if there is one, exactly where nobody is inside a call
abbrev pub value_put : Option ℕ → World → ℕ → Reply × World
value_put (Some found) w v = (Done, world_with w (Some v))
value_put None w v = (Nothing, world_with w None)

abbrev pub put_gives : World → ℕ → Reply × World
put_gives w v = if is_at_rest w then value_put (value_in w.cell) w v else (NotPossible, w)

-- the value is taken out, if there is one, exactly where nobody is inside a call
abbrev pub reply_of : Option ℕ → Reply
reply_of (Some found) = Value found
reply_of None = Nothing

abbrev pub take_gives : World → Reply × World
take_gives w = if is_at_rest w then (reply_of (value_in w.cell), world_with w None) else (NotPossible, w)

-- what is in the cell
abbrev pub content_text : Content → List ℕ
content_text Empty = cell_text None false
content_text (BeingMade party) = cell_text None true
content_text (Full v) = cell_text (Some v) false

-- the state
abbrev pub text_of : World → List ℕ
text_of w = content_text w.cell ++ codes " active=" ++ list_text w.active ++ codes " passive=" ++ list_text w.passive
