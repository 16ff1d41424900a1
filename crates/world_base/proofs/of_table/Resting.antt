-- A machine is at rest where each of its parties is, and owes nothing then.
use Rattle.world_base.proofs.Prelude.{◌≡◌, ℕ, zero, suc, ◌<◌, Bool, true, List, [], ◌∷◌, length, arith}
use Rattle.std.specs.Prelude.{slice_index_or}
use Rattle.world_base.specs.queue.Debts.{Roles, Rests, AllRest}
use Rattle.world_base.specs.table.Resting.{AreAtRest}

module _ {P : Type 0} (is_resting : P → Bool) where
  pub all_at_rest : (out : P) (xs : List P) → ((q : ℕ) → q < length xs → is_resting (slice_index_or xs q out) ≡ true) → AreAtRest is_resting xs
  all_at_rest out [] h = tt
  all_at_rest out (x ∷ xs) h = (h 0 (omega arith), all_at_rest out xs (λ q i. h (suc q) (omega arith)))

  -- past the last party everybody is out, and rests
  pub one_at_rest : (out : P) → is_resting out ≡ true → (xs : List P) → AreAtRest is_resting xs → (q : ℕ) → is_resting (slice_index_or xs q out) ≡ true
  one_at_rest out past [] h q = past
  one_at_rest out past (x ∷ xs) h zero = h.0
  one_at_rest out past (x ∷ xs) h (suc q) = one_at_rest out past xs h.1 q

  pub nothing_owed : (r : Roles P) → ((x : P) → is_resting x ≡ true → Rests r x) → (xs : List P) → AreAtRest is_resting xs → AllRest r xs
  nothing_owed r rests [] h = tt
  nothing_owed r rests (x ∷ xs) h = (rests x h.0, nothing_owed r rests xs h.1)
