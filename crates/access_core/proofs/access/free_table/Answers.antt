use Rattle.std.proofs.Common.{[], ◌∷◌, ◌++◌, sym, ap, ◌∙◌, subst}
use Rattle.atomic_table.specs.Table.{opening}
use Rattle.words_access.specs.Rule.{Ruled, first_view}
use Rattle.words_access.proofs.Keeps.{opens}
use Rattle.access_core.specs.Contents.{readers_of, writer_of}
use Rattle.access_core.proofs.access.free_table.Goals as goal

pub new-requires-2 : goal.new-requires-2
new-requires-2 c = let made = c.new.ensures in
    subst (λ xs. Ruled readers_of writer_of (opening (0 ∷ 0 ∷ []) xs first_view)) (sym (c.push_reserved.ensures.items ∙ ap (λ xs. xs ++ c.new.result ∷ []) c.in_ok-slots.ensures.items))
    (opens _ readers_of writer_of c.new.result made.0 made.1)
