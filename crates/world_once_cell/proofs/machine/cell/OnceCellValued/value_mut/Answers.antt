-- What always holds of a cell holds with whatever value is left in it.
use Rattle.world_once_cell.proofs.Prelude.{◌≡◌, sym, ◌∙◌, content_of, kept_of}
use Rattle.world_once_cell.proofs.of_machine.laws.Taken.{settled, put}
use Rattle.world_once_cell.proofs.machine.cell.OnceCellValued.value_mut.Goals as goal

pub invariant_of-self-lent : goal.invariant_of-self-lent
invariant_of-self-lent c w =
    let xs = c.self.inside.positions.items in
    let same : content_of c.self.inside.words ≡ kept_of c.settle.new.self = sym (c.settle.ensures.kept ∙ c.settle.ensures.content) in
    put xs c.self.inside.active c.self.inside.passive c.settle.new.self w (rw (← same) (settled xs c.self.inside.active c.self.inside.passive c.self.inside.words c.self.invariant))
