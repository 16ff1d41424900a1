-- What holds by what an entry heard.
use Rattle.lock_queue.specs.declared.heard.Heard.{Heard}
use Rattle.lock_queue.specs.declared.heard.Heard.TheVariants.{Told, Waits}
use Rattle.lock_queue.specs.declared.whose.Whose.{Whose}

abbrev pub ByHeard : Heard → Type 0 → (Whose → Type 0) → Type 0
ByHeard (Told kept) told waits = told
ByHeard (Waits whose) told waits = waits whose
