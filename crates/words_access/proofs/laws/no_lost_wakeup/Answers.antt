use Rattle.words_access.proofs.Wakeups.{standing, readers, writer, nobody_else, readers_at_rest, writer_at_rest}
use Rattle.words_access.proofs.laws.no_lost_wakeup.Goals as goal

pub returns-clause-standing : goal.returns-clause-standing
returns-clause-standing g c s r = standing _ _ s r

pub returns-clause-readers : goal.returns-clause-readers
returns-clause-readers g c s r = readers _ _ s r

pub returns-clause-writer : goal.returns-clause-writer
returns-clause-writer g c s r = writer _ _ s r

pub returns-clause-nobody_else : goal.returns-clause-nobody_else
returns-clause-nobody_else g c s r = nobody_else _ _ s r

pub returns-clause-readers_at_rest : goal.returns-clause-readers_at_rest
returns-clause-readers_at_rest g c s r is rest = readers_at_rest _ _ s r rest is

pub returns-clause-writer_at_rest : goal.returns-clause-writer_at_rest
returns-clause-writer_at_rest g c s r is none rest = writer_at_rest _ _ s r rest is none
