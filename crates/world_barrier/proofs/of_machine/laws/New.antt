-- A new barrier.
use Rattle.world_barrier.proofs.Prelude.{◌≡◌, ℕ, ◌≤◌, [], length, replicate, refl, sym, arith, ◌∙◌, queue, new_mutex, new_is_out, new_parties, Out, progress, new_words, listed, Outside, IsKept, new_barrier}
use Rattle.std.proofs.lemmas.List.{length-replicate}
use Rattle.world_base.proofs.Alike.{all_alike, none_of_all}
use Rattle.world_base.specs.declared.standing.Rest.TheVariants.{Idle}
use Rattle.world_barrier.specs.machine.Machine.{Stands}

pub new_is : (n many starved most : ℕ) → n ≤ 4294967295 → IsKept (new_words many most) (replicate n Out) (replicate n (progress 0 0)) (queue n []) (new_mutex n starved)
new_is n many starved most few = record {
  sound = record { unfinished = λ h. absurd (omega arith); within = omega arith };
  links = λ p. rw (all_alike Out n p) (new_is_out n starved p);
  owners = λ p. rw (all_alike Out n p) refl;
  in_list = none_of_all listed Out refl n;
  past = λ p. rw (all_alike (progress 0 0) n p) (record { generation = omega arith; count = λ e. omega arith });
  apart = λ p q. rw (all_alike (progress 0 0) n p) (λ some e. absurd (omega arith));
  within = λ p. rw (all_alike (progress 0 0) n p) (λ h. absurd (omega arith));
  followers = λ p. rw (all_alike Out n p) (λ h. absurd (cc h));
  sure = λ p. rw (all_alike Out n p) tt;
  outcomes = λ p. rw (all_alike Out n p) tt;
  told = λ none p u. absurd (cc u);
  arrivals = length-replicate n (progress 0 0) ∙ sym (length-replicate n Out);
  courses = new_parties n starved ∙ sym (length-replicate n Out);
  parties = sym (length-replicate n Out);
  few = rw (length-replicate n Out) few;
}

-- ---- what a table of its parties needs

pub new_parties_are : (n many starved most : ℕ) → length (new_barrier n many starved most).positions ≡ n
new_parties_are n many starved most = length-replicate n Out

pub new_stands : (n many starved most p : ℕ) → Stands (new_barrier n many starved most) p (Outside Idle)
new_stands n many starved most p = rw (all_alike Out n p) refl
