-- A new table is seen as a new World.
use Rattle.world_mutex.proofs.Prelude.{◌≡◌, ℕ, ◌+◌, zero, suc, replicate, None, refl, new_table, mapped_alike, all_idle, Out, is_counted, holder_from, new_guarded, new_world, verdict, view_of}

no_holder : (n k : ℕ) → holder_from k (replicate n Out) ≡ None
no_holder zero k = refl
no_holder (suc n) k = no_holder n (k + 1)

pub starts_new : (parties limit value : ℕ) → view_of (new_table (new_guarded parties limit value) parties value) ≡ new_world parties limit value
starts_new parties limit value = let h = no_holder parties 0 in let s = mapped_alike is_counted parties Out in let i = all_idle parties (verdict (new_guarded parties limit value)) in cc
