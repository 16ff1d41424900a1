-- A poll that is refused is ready, and asks no registration.
use Rattle.async_driver.proofs.settled.SettledFuture.poll.Goals as goal

pub returns-in-Refused-clause-registered : goal.returns-in-Refused-clause-registered
returns-in-Refused-clause-registered g c = tt
