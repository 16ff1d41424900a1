-- A value is put in the World as in its table.
use Rattle.world_once_cell.proofs.Prelude.{◌≡◌, ℕ, true, List, Option, ap, sym, ◌∙◌, list_all, Entry, Standing, is_outside_stage, Table, rest_seen, Content, Task, verdict, OnceCell, position_at, World, view_of, is_at_rest, table_with, with_value}
use Rattle.world_base.proofs.of_table.Lending.{lent_seen}
use Rattle.world_once_cell.specs.Lending.{world_with}

same_world : (c : Content) (es fs : List (Entry ℕ)) (ts ts' : List Standing) (ns : List Task) (t : Table OnceCell) → ts ≡ ts'
    → Path World (record { cell = c; active = es; passive = fs; standings = ts; tasks = ns; behind = t }) (record { cell = c; active = es; passive = fs; standings = ts'; tasks = ns; behind = t })
same_world c es fs ts ts' ns t e = cc

pub rests_there : (t : Table OnceCell) (w : World) → view_of t ≡ w → is_at_rest w ≡ true → list_all is_outside_stage t.stages ≡ true
rests_there t w e h = sym (rest_seen (λ p. verdict (position_at t.machine.positions p)) t.stages) ∙ (ap is_at_rest e ∙ h)

pub put_seen : (t : Table OnceCell) (v : Option ℕ) → list_all is_outside_stage t.stages ≡ true → view_of (table_with with_value t v) ≡ world_with (view_of t) v
put_seen t v rests = same_world _ _ _ _ _ _ _ (lent_seen (λ p. verdict (position_at t.machine.positions p)) (λ p. verdict (position_at t.machine.positions p)) t.stages rests)

pub put_here : (t : Table OnceCell) (w : World) (v : Option ℕ) → view_of t ≡ w → is_at_rest w ≡ true → view_of (table_with with_value t v) ≡ world_with w v
put_here t w v e h = put_seen t v (rests_there t w e h) ∙ ap (λ z. world_with z v) e
