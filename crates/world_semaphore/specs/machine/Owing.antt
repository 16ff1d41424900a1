-- How what a party owes those in the list comes and goes.
use Rattle.std.specs.Prelude.{◌≡◌, ℕ, ◌⊎◌, true, false, List}
use Rattle.lock_event.specs.declared.event.Entry.{Entry}
use Rattle.lock_event.specs.Lists.{is_marked_at}
use Rattle.weighted_event.specs.Weights.{fitted}
use Rattle.world_base.specs.queue.Parties.{is_party}
use Rattle.world_semaphore.specs.machine.Seats.{Debt, nothing_owed, a_look, a_fit}

-- What a step of the party does to what it owes, by the list before and after it, how many permits are available then, and how many each party wants.
pub record Owes (p : ℕ) (was is : Debt) (old new : List (Entry ℕ)) (available : ℕ) (size : ℕ → ℕ) : Type 0 where
  -- Who has taken its notified entry out of the list owes a look;
  pub told : is_marked_at (is_party p) old ≡ true → is_marked_at (is_party p) new ≡ false → is ≡ a_look
  -- and nobody else comes to owe one, but who owed to tell of some and has joined again.
  pub looks : is ≡ a_look → (is_marked_at (is_party p) old ≡ true) ⊎ ((n : ℕ) × (was ≡ a_fit n))
  -- Who owes to tell of so many has found them available in this move; or it owed that before, and its entry wasn't notified meanwhile.
  pub finds : (n : ℕ) → is ≡ a_fit n → (n ≡ available) ⊎ ((was ≡ a_fit n) × (is_marked_at (is_party p) old ≡ false))
  -- A look is owed no more once it has found what is available, and nothing once there is none.
  pub looked : was ≡ a_look → is ≡ nothing_owed → available ≡ 0
  -- What is to be told is owed no more once it was told.
  pub fitted : (n : ℕ) → was ≡ a_fit n → is ≡ nothing_owed → new ≡ fitted size n old
