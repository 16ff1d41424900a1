-- What comes after a look that took the permits, of a party that was told and isn't listed.
use Rattle.world_semaphore.proofs.Prelude.{◌≡◌, ℕ, true, false, Option, Some, None, refl, sym, subst, Left, Take, HandOn, Holding, told_more, after_taking_with, Next, next_of}
use Rattle.lock_program.specs.declared.end.End.TheVariants.{Got}
use Rattle.lock_program.specs.declared.end.Next.TheVariants as next
use Rattle.world_semaphore.proofs.of_machine.laws.Kept.{more_is, no_more}

-- It tells the next of what is left, or there is nothing left.
pub taken : (P : Next → Type 0) (k c : ℕ) → P (next.Do (HandOn k c)) → (c ≡ 0 → P (next.End Got (Holding k))) → P (next_of (Take k false true) (Left c))
taken P k c some none = by_more (told_more true c) refl where
  by_more : (o : Option ℕ) → told_more true c ≡ o → P (after_taking_with k false o)
  by_more (Some d) is = let Q : ℕ → Type 0 = λ d. P (next.Do (HandOn k d)) in subst Q (sym (more_is c d is)) some
  by_more None is = none (no_more c is)
