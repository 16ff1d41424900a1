-- The whole history is lent.
use Rattle.lock_audit.proofs.book.Book.history.Goals as goal

pub returns : goal.returns
returns g c = rw (← c.self.view_is) c.deref.ensures.value
