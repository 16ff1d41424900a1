-- A new cell.
use Rattle.world_once_cell.proofs.Prelude.{◌≡◌, ℕ, ◌≤◌, [], replicate, refl, sym, arith, queue, Position, Out, Content, in_active, in_passive_at, waits, IsKept}
use Rattle.std.proofs.lemmas.List.{length-replicate}
use Rattle.world_base.proofs.Alike.{all_alike, none_of_all}

not_full : (v : ℕ) → Content.Empty ≡ Content.Full v → ⊥
not_full v e = cc

pub new_is : (n : ℕ) → n ≤ 4294967295 → IsKept Content.Empty (replicate n Out) (queue n []) (queue n [])
new_is n few = record {
  sound = record { in_list = none_of_all in_active Out refl n; owed = λ free some. absurd (omega (arith, none_of_all waits Out refl n)) };
  makers = λ p. rw (all_alike {A = Position} Out n p) refl;
  active_told = λ v full quiet p h. absurd (not_full v full);
  passive_told = λ v full quiet p h. absurd (not_full v full);
  active_owners = λ p. rw (all_alike {A = Position} Out n p) refl;
  passive_owners = λ p. rw (all_alike {A = Position} Out n p) refl;
  passive_listed = none_of_all in_passive_at Out refl n;
  active_parties = sym (length-replicate {A = Position} n Out);
  passive_parties = sym (length-replicate {A = Position} n Out);
  few = rw (length-replicate {A = Position} n Out) few;
}
