-- The list of a mutex as its parties see it.
use Rattle.std.specs.Prelude.{◌≡◌, ℕ, true, false, List}
use Rattle.lock_event.specs.declared.event.Entry.{Entry}
use Rattle.lock_event.specs.Lists.{joined, notified, left, without, is_marked_at}
use Rattle.world_base.specs.queue.Parties.{is_party}
use Rattle.lock_program.specs.declared.mutex.Action.{Action}
use Rattle.lock_program.specs.declared.mutex.Action.TheVariants as act
use Rattle.lock_program.specs.declared.mutex.Found.{Found}
use Rattle.lock_program.specs.declared.mutex.Found.TheVariants.{Done, Yes}

-- the list function that an action is, for this party
abbrev pub OnParties : ℕ → Action → Found → List (Entry ℕ) → List (Entry ℕ) → Type 0
OnParties p act.Join Done l m = m ≡ joined l p
OnParties p act.Join _ l m = m ≡ l
OnParties p act.Ask Yes l m = (is_marked_at (is_party p) l ≡ true) × (m ≡ without (is_party p) l)
OnParties p act.Ask _ l m = (is_marked_at (is_party p) l ≡ false) × (m ≡ l)
OnParties p act.Leave _ l m = m ≡ left (is_party p) l
OnParties p act.Notify _ l m = m ≡ notified l 1
OnParties p _ _ l m = m ≡ l
