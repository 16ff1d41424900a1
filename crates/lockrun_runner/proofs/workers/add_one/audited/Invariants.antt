use Rattle.lockrun_runner.proofs.workers.add_one.audited.Given as goal

-- the ledgers are those of the blanks
abbrev pub ghosts-book_of : goal.ghosts-book_of
ghosts-book_of g a = record { names = a.blanks }
