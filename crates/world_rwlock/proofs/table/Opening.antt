-- A new table is seen as a new World.
use Rattle.world_rwlock.proofs.Prelude.{◌≡◌, ℕ, refl, new_table, mapped_alike, all_idle, new_has_no_holder, new_has_none_starved, Place, new_guarded, sought_at, new_world, is_reading, is_upgrade, owing_at, verdict_of, view_of}

pub starts_new : (parties starved readers value : ℕ) → view_of (new_table (new_guarded parties starved readers value) parties value) ≡ new_world parties starved readers value
starts_new parties starved readers value =
    let r = mapped_alike is_reading parties Place.Out in
    let u = mapped_alike is_upgrade parties Place.Out in
    let s = mapped_alike sought_at parties Place.Out in
    let o = mapped_alike owing_at parties Place.Out in
    let h = new_has_no_holder parties starved in
    let c = new_has_none_starved parties starved in
    let i = all_idle parties (verdict_of (new_guarded parties starved readers value)) in
    rw (r, u, s, o, h, c, i) refl
