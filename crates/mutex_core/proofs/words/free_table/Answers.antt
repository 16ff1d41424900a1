use Rattle.std.proofs.Common.{rules, [], ◌∷◌, ◌++◌, sym, ap, ◌∙◌, subst}
use Rattle.atomic_table.specs.Table.{opening}
use Rattle.words_mutex.specs.Rule.{Ruled, first_view}
use Rattle.words_mutex.proofs.Keeps.{opens}
use Rattle.lock_queue.specs.Entries.{numbers_in}
use Rattle.mutex_core.specs.Cells.{cell_entries, cell_marked, HasRightOf}
use Rattle.mutex_core.proofs.words.free_table.Goals as goal

pub new-requires : goal.new-requires
new-requires g c =
    let room = c.args.spare.now.room_id in let deed = c.args.spare.now.deed in
    let listed = c.push_reserved.ensures.items ∙ ap (λ xs. xs ++ c.list.result ∷ []) c.in_ok-slots.ensures.items in
    subst (λ xs. Ruled cell_entries cell_marked HasRightOf room deed (opening (0 ∷ 0 ∷ []) xs (first_view room deed))) (sym (c.push_reserved-2.ensures.items ∙ ap (λ xs. xs ++ c.of.result ∷ []) listed))
    (opens _ cell_entries cell_marked HasRightOf room deed c.list.result c.of.result (ap numbers_in c.list.ensures) (search rules))
