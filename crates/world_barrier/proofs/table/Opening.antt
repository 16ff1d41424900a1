-- A new table is seen as a new World.
use Rattle.world_barrier.proofs.Prelude.{◌≡◌, ℕ, zero, suc, ◌∷◌, map, replicate, false, refl, ap, arith, new_table, all_idle, out, is_releasing, new_has_no_holder, new_has_none_starved, Out, no_wait, progress, arrivals_at, new_barrier, new_world, waits_of, verdict_in, view_of}

none_arrived : (size : ℕ) → arrivals_at size (progress 0 0) ≡ 0
none_arrived zero = refl
none_arrived (suc n) = omega arith

no_waits : (size n : ℕ) → waits_of size (replicate n Out) (replicate n (progress 0 0)) ≡ replicate n no_wait
no_waits size zero = refl
no_waits size (suc n) = ap (λ l. no_wait ∷ l) (no_waits size n)

none_releases : (n : ℕ) → map is_releasing (replicate n out) ≡ replicate n false
none_releases zero = refl
none_releases (suc n) = ap (λ l. false ∷ l) (none_releases n)

pub starts_new : (parties size starved most : ℕ) → view_of (new_table (new_barrier parties size starved most) parties 0) ≡ new_world parties size starved most
starts_new parties size starved most =
    let k = none_arrived size in
    let w = no_waits size parties in
    let h = new_has_no_holder parties starved in
    let s = new_has_none_starved parties starved in
    let r = none_releases parties in
    let i = all_idle parties (verdict_in (new_barrier parties size starved most)) in
    cc
