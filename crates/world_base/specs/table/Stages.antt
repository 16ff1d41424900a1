-- Stages of parties: which call a move belongs to, and the stage after an answer.
use Rattle.std.specs.Prelude.{ℕ, ◌&&◌, if◌then◌else◌, Bool, true, false, List, Option, Some, None, slice_index_or}
use Rattle.world_base.specs.declared.moves.Answer.{Answer}
use Rattle.world_base.specs.declared.moves.Answer.TheVariants as answer
use Rattle.world_base.specs.declared.moves.Call.{Call}
use Rattle.world_base.specs.declared.moves.Call.TheVariants.{Poll}
use Rattle.world_base.specs.declared.moves.What.{What}
use Rattle.world_base.specs.declared.moves.What.TheVariants.{Begin, Go}
use Rattle.world_base.specs.declared.standing.Rest.{Rest}
use Rattle.world_base.specs.declared.standing.Rest.TheVariants.{Holding, Finished}
use Rattle.world_base.specs.declared.standing.Stage.{Stage}
use Rattle.world_base.specs.declared.standing.Stage.TheVariants.{Outside, Inside, Forgotten}
use Rattle.world_base.specs.declared.standing.Within.{Within}
use Rattle.world_base.specs.Standings.{Standing, outside, inside, forgotten, kind_of, may_begin, rest_after}

-- A party past the table is at the stage of one that is forgotten: it moves no more.
abbrev pub stage_at : List Stage → ℕ → Stage
stage_at ss p = slice_index_or ss p Forgotten

-- How a party at this stage stands whose call is decided so.
abbrev pub stands_as : Option Answer → Stage → Standing
stands_as d (Outside r) = outside r
stands_as d (Inside w) = inside w d
stands_as d Forgotten = forgotten

-- The call that a move belongs to, where a party at this stage may make it.
abbrev pub call_at : (Call → Bool) → Stage → What → Option Within
call_at knows (Outside r) (Begin c inputs) = if knows c && may_begin r (kind_of c) then Some (record { kind = kind_of c; was = r }) else None
call_at knows (Inside w) (Go inputs) = Some w
call_at knows _ _ = None

-- A poll of a future that has been ready.
abbrev pub polls_again : Stage → What → Bool
polls_again (Outside Holding) (Begin Poll inputs) = true
polls_again (Outside Finished) (Begin Poll inputs) = true
polls_again s what = false

-- The stage after this answer; `ready` is how a party stands whose future has been ready.
abbrev pub stage_after : Rest → Within → Answer → Stage
stage_after ready w answer.Stepped = Inside w
stage_after ready w a = Outside (rest_after ready w a)
