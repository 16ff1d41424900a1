-- What an action does, in numbers.
use Rattle.world_semaphore.proofs.Prelude.{◌≡◌, ℕ, ◌<◌, ◌≤◌, Bool, true, refl, arith, is_wanted, length-joined, length-without, marked_count-without_marked, marked_count-without_waiting, marked_count-joined, is_party, WeightedQueue, is_there, Action, Found, Done, Left, Short, Available, PastLimit, NoMemory, Yes, No, Words, CanDo, Finds, effect_of, words_after, entries_after, tally_of}
use Rattle.world_semaphore.proofs.of_machine.laws.Steps.{OnTally}
use Rattle.world_semaphore.proofs.of_machine.laws.Entries.{length-fitted, marked_count-fitted, fitted_marks}

module _ (p : ℕ) (w : Words) (q : WeightedQueue) (memory : Bool) (size : ℕ → ℕ) (s n : ℕ) (wanted : (c : ℕ) → s ≤ c → 0 < n → is_wanted size c q.entries ≡ true) where
  pub numbers : (a : Action) (f : Found) → Finds memory p a f w q.entries → CanDo p a w q → OnTally s n a f (tally_of w q.entries) (tally_of (words_after (effect_of a f) w) (entries_after size p (effect_of a f) q.entries))
  numbers (Action.Take k) (Left a) e c = (omega arith, e, refl, refl, (refl, refl))
  numbers (Action.Take k) (Short a) e c = (omega (arith, e.0), e.1, (refl, refl, refl), (refl, refl))
  numbers (Action.Take k) _ e c = absurd e
  numbers (Action.GiveBack k) (Available a) e c = (e, (omega (arith, e), refl, refl), (refl, refl))
  numbers (Action.GiveBack k) _ e c = absurd e
  numbers (Action.Give k) (Available a) e c = (e, (omega (arith, e), refl, refl), (refl, refl))
  numbers (Action.Give k) _ e c = absurd e
  numbers (Action.Raise k) Done e c = (e, (refl, refl, refl), (refl, refl))
  numbers (Action.Raise k) PastLimit e c = ((refl, refl, refl), (refl, refl))
  numbers (Action.Raise k) _ e c = absurd e
  numbers (Action.Lower k) Done e c = (refl, omega (arith, c), refl, (refl, refl))
  numbers (Action.Lower k) _ e c = absurd e
  numbers Action.Load (Available a) e c = (e, (refl, refl, refl), (refl, refl))
  numbers Action.Load _ e c = absurd e
  numbers (Action.Join k) Done e c = ((refl, refl, refl), length-joined q.entries p, marked_count-joined q.entries p)
  numbers (Action.Join k) NoMemory e c = ((refl, refl, refl), (refl, refl))
  numbers (Action.Join k) _ e c = absurd e
  numbers Action.Ask Yes e c = rw e ((refl, refl, refl), length-without (is_party p) q.entries (is_there p q.entries c.1), marked_count-without_marked (is_party p) q.entries e)
  numbers Action.Ask No e c = rw e ((refl, refl, refl), (refl, refl))
  numbers Action.Ask _ e c = absurd e
  numbers Action.Remove Yes e c = ((refl, refl, refl), length-without (is_party p) q.entries (is_there p q.entries c.1), marked_count-without_marked (is_party p) q.entries e)
  numbers Action.Remove No e c = ((refl, refl, refl), length-without (is_party p) q.entries (is_there p q.entries c.1), marked_count-without_waiting (is_party p) q.entries e)
  numbers Action.Remove _ e c = absurd e
  numbers (Action.Fit a) Done e c = ((refl, refl, refl), length-fitted size a q.entries, marked_count-fitted size a q.entries, λ few some. fitted_marks size a q.entries (wanted a few some))
  numbers (Action.Fit a) _ e c = absurd e
  numbers Action.Nothing Done e c = ((refl, refl, refl), (refl, refl))
  numbers Action.Nothing _ e c = absurd e
