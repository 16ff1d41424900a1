-- What a party is answered whose call has ended.
use Rattle.world_base.specs.declared.moves.Answer.{Answer}
use Rattle.world_base.specs.declared.moves.Answer.TheVariants as answer
use Rattle.world_base.specs.declared.moves.Got.{Got}
use Rattle.world_base.specs.Standings.{refused}
use Rattle.lock_program.specs.declared.end.End.{End}
use Rattle.lock_program.specs.declared.end.End.TheVariants as «end»

-- A poll that got its right is ready, what succeeded at once is granted, and a try in vain is answered None.
abbrev pub answer_of : Got → End → Answer
answer_of got «end».Got = answer.Ready got
answer_of got «end».Granted = answer.Granted got
answer_of got «end».Pending = answer.Pending
answer_of got «end».Waiting = answer.Waiting
answer_of got «end».NotFree = answer.None
answer_of got «end».GivenBack = answer.GivenBack
answer_of got («end».Refused r) = refused r
