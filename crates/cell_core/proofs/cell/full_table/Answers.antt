use Rattle.std.proofs.Common.{true, [], ◌∷◌, ◌++◌, sym, ap, ◌∙◌, subst}
use Rattle.atomic_table.specs.Table.{opening}
use Rattle.words_cell.specs.Rule.{Ruled, first_view}
use Rattle.words_cell.proofs.Keeps.{opens_full}
use Rattle.cell_core.specs.Contents.{active_of, passive_of}
use Rattle.cell_core.proofs.cell.full_table.Goals as goal

pub new-requires-2 : goal.new-requires-2
new-requires-2 c = let made = c.new.ensures in
    subst (λ xs. Ruled active_of passive_of true (opening (2 ∷ 0 ∷ []) xs first_view)) (sym (c.push_reserved.ensures.items ∙ ap (λ xs. xs ++ c.new.result ∷ []) c.in_ok-slots.ensures.items))
    (opens_full _ active_of passive_of c.new.result made.0 made.1)
