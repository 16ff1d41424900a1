-- A new table is seen as a new World.
use Rattle.world_semaphore.proofs.Prelude.{◌≡◌, ℕ, List, replicate, Entry, Standing, Table, new_table, mapped_alike, all_idle, Out, Share, Debt, share_of, size_at, debt_at, verdict, Semaphore, new_semaphore, position_at, World, new_world, view_of}

made : (limit : ℕ) (ss ss' : List Share) (es : List (Entry ℕ)) (ts ts' : List Standing) (ns ns' : List ℕ) (ds ds' : List Debt) (most opening : ℕ) (t : Table Semaphore) → ss ≡ ss' → ts ≡ ts' → ns ≡ ns' → ds ≡ ds'
    → Path World (record { state = record { limit = limit; shares = ss }; entries = es; standings = ts; sizes = ns; debts = ds; most = most; opening_permits = opening; behind = t })
    (record { state = record { limit = limit; shares = ss' }; entries = es; standings = ts'; sizes = ns'; debts = ds'; most = most; opening_permits = opening; behind = t })
made limit ss ss' es ts ts' ns ns' ds ds' most opening t e d g h = cc

pub starts_new : (parties permits most : ℕ) → view_of (new_table (new_semaphore parties permits most) parties permits) ≡ new_world parties permits most
starts_new parties permits most = made permits _ _ _ _ _ _ _ _ _ most permits _ (mapped_alike share_of parties Out) (all_idle parties (λ p. verdict (position_at (replicate parties Out) p))) (mapped_alike size_at parties Out) (mapped_alike debt_at parties Out)
