-- A new table is seen as a new World.
use Rattle.world_once_cell.proofs.Prelude.{◌≡◌, ℕ, List, Entry, Standing, Table, Out, Content, Empty, Task, task_at, verdict, OnceCell, position_at, World, view_of, replicate, new_table, mapped_alike, all_idle, new_cell, new_world}

made_so : (c : Content) (es fs : List (Entry ℕ)) (ts ts' : List Standing) (ns ns' : List Task) (t : Table OnceCell) → ts ≡ ts' → ns ≡ ns'
    → Path World (record { cell = c; active = es; passive = fs; standings = ts; tasks = ns; behind = t }) (record { cell = c; active = es; passive = fs; standings = ts'; tasks = ns'; behind = t })
made_so c es fs ts ts' ns ns' t e d = cc

pub starts_new : (parties : ℕ) → view_of (new_table (new_cell parties) parties 0) ≡ new_world parties
starts_new parties = made_so Empty _ _ _ _ _ _ _ (all_idle parties (λ p. verdict (position_at (replicate parties Out) p))) (mapped_alike task_at parties Out)
