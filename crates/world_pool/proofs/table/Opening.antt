-- A new table is seen as a new World.
use Rattle.world_pool.proofs.Prelude.{◌≡◌, ℕ, Out, new_table, all_idle, is_giving, is_taking_out, new_pool, new_world, verdict_in, view_of, Outside, Rest, length, Stands, refl}
use Rattle.std.proofs.lemmas.List.{length-replicate}
use Rattle.world_base.proofs.Alike.{all_alike}
use Rattle.world_base.proofs.of_table.Mapped.{mapped_alike}

pub starts_new : (parties items starved : ℕ) → view_of (new_table (new_pool parties items starved) parties 0) ≡ new_world parties items starved
starts_new parties items starved =
    let g = mapped_alike is_giving parties Out in
    let s = mapped_alike is_taking_out parties Out in
    let i = all_idle parties (verdict_in (new_pool parties items starved)) in
    cc

pub new_parties_are : (parties items starved : ℕ) → length (new_pool parties items starved).positions ≡ parties
new_parties_are parties items starved = length-replicate parties Out

pub new_stands : (parties items starved p : ℕ) → Stands (new_pool parties items starved) p (Outside Rest.Idle)
new_stands parties items starved p = rw (all_alike Out parties p) refl
