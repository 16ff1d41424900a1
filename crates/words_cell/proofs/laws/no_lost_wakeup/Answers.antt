use Rattle.words_cell.proofs.Wakeups.{empty, full, empty_at_rest, full_at_rest, standing}
use Rattle.words_cell.proofs.laws.no_lost_wakeup.Goals as goal

pub returns-clause-empty : goal.returns-clause-empty
returns-clause-empty g c start s r = empty _ _ start s r

pub returns-clause-full : goal.returns-clause-full
returns-clause-full g c start s r = full _ _ start s r

pub returns-clause-empty_at_rest : goal.returns-clause-empty_at_rest
returns-clause-empty_at_rest g c start s r is rest = empty_at_rest _ _ start s r rest is

pub returns-clause-full_at_rest : goal.returns-clause-full_at_rest
returns-clause-full_at_rest g c start s r is rest = full_at_rest _ _ start s r rest is

pub returns-clause-standing : goal.returns-clause-standing
returns-clause-standing g c start s r = standing _ _ start s r
