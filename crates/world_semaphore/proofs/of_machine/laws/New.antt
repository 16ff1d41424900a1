-- A new semaphore.
use Rattle.world_semaphore.proofs.Prelude.{ℕ, ◌≤◌, [], replicate, refl, sym, arith, length-replicate, weighted_queue, Out, words, permits_at, under_way_at, listed, waits, IsKept}
use Rattle.world_base.proofs.Alike.{all_alike, none_of_all}

pub new_is : (n permits most : ℕ) → permits ≤ most → IsKept (words permits permits most) (replicate n Out) (weighted_queue n [] (replicate n 0))
new_is n permits most few = record {
  sound = λ s more. record {
    balanced = omega (arith, none_of_all permits_at Out refl n, none_of_all under_way_at Out refl n);
    limited = few;
    in_list = none_of_all listed Out refl n;
    owed = λ free some. absurd (omega (arith, none_of_all (waits s) Out refl n));
  };
  owners = λ p. rw (all_alike Out n p) refl;
  weighs = λ p. rw (all_alike Out n p) (λ e. absurd (omega arith));
  some = λ p. rw (all_alike Out n p) (λ e. absurd (cc e));
  as_many = sym (length-replicate n Out);
  weighed = rw (length-replicate n Out) (length-replicate n 0);
}
