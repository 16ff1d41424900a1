-- A new lock.
use Rattle.world_rwlock.proofs.Prelude.{ℕ, [], replicate, refl, sym, arith, ◌∙◌, length-replicate, queue, new_mutex, new_is_out, new_parties, Out, reads, marks, in_no_writer, waits_no_writer, in_no_readers, waits_no_readers, new_word, IsMachine}
use Rattle.world_base.proofs.Alike.{all_alike, none_of_all}

pub new_is : (n starved limit : ℕ) → IsMachine (new_word limit) (replicate n Out) (queue n []) (queue n []) (new_mutex n starved)
new_is n starved limit = record {
  sound = record {
    writer = none_of_all marks Out refl n;
    readers = none_of_all reads Out refl n;
    alone = λ some. refl;
    no_writer = record { in_list = none_of_all in_no_writer Out refl n; owed = λ free some. absurd (omega (arith, none_of_all waits_no_writer Out refl n)) };
    no_readers = record { in_list = none_of_all in_no_readers Out refl n; owed = λ free some. absurd (omega (arith, none_of_all waits_no_readers Out refl n)) };
  };
  in_turn = λ p. rw (all_alike Out n p) (new_is_out n starved p);
  no_writer = λ p. rw (all_alike Out n p) refl;
  no_readers = λ p. rw (all_alike Out n p) refl;
  as_many = new_parties n starved ∙ sym (length-replicate n Out);
  as_many_w = sym (length-replicate n Out);
  as_many_r = sym (length-replicate n Out);
  one_told_w = omega arith;
  one_told_r = omega arith;
}
