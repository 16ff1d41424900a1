-- What came of joining the list again.
use Rattle.std.specs.Prelude.{◌≡◌, ◌≢◌, ℕ}
use Rattle.futures.specs.declared.task.context.Context.{Context}
use Rattle.lock_queue.specs.Receipts.{IsReceipt}
use Rattle.sync_program.specs.Barrier.{next_of}
use Rattle.sync_program.specs.declared.barrier.Found.TheVariants as finds
use Rattle.sync_program.specs.declared.barrier.Place.TheVariants as places
use Rattle.barrier_core.specs.Barriers.{Barrier, Seated, HasEntry, IsCountedIn, IsIdle, IsOf}
use Rattle.barrier_core.specs.declared.calls.Rejoined.{Rejoined}
use Rattle.barrier_core.specs.declared.calls.Rejoined.TheVariants.{Waits, Finished, Refused}

-- An arrival of this generation has an entry with a receipt, and has looked since it joined; or it has none, and found its generation finished; or there
-- was no memory. Its program went on by that, and where it found its generation finished, as from a check that found so.
abbrev pub FindsAgain : Barrier → Context → ℕ → Seated → Rejoined → Type 0
FindsAgain barrier cx generation s (Waits joined) = IsOf barrier s × HasEntry generation joined.id.number s × IsReceipt barrier.inner.source cx joined.whose × (s.course ≡ next_of places.JoinAgain finds.Done)
FindsAgain barrier cx generation s Finished = IsOf barrier s × IsIdle s × IsCountedIn generation s × (s.found ≢ generation) × (s.course ≡ next_of places.Check finds.Finished)
FindsAgain barrier cx generation s Refused = IsOf barrier s × IsIdle s × IsCountedIn generation s × (s.course ≡ next_of places.JoinAgain finds.NoMemory)
