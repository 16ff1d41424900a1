use Rattle.std.proofs.Common.{false, [], ◌∷◌, ◌++◌, sym, ap, ◌∙◌, subst}
use Rattle.atomic_table.specs.Table.{opening}
use Rattle.words_cell.specs.Rule.{Ruled, first_view}
use Rattle.words_cell.proofs.Keeps.{opens_empty}
use Rattle.cell_core.specs.Contents.{active_of, passive_of}
use Rattle.cell_core.proofs.cell.empty_table.Goals as goal

pub new-requires-2 : goal.new-requires-2
new-requires-2 c = let made = c.new.ensures in
    subst (λ xs. Ruled active_of passive_of false (opening (0 ∷ 0 ∷ []) xs first_view)) (sym (c.push_reserved.ensures.items ∙ ap (λ xs. xs ++ c.new.result ∷ []) c.in_ok-slots.ensures.items))
    (opens_empty _ active_of passive_of c.new.result made.0 made.1)
