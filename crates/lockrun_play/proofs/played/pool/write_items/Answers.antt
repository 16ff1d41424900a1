use Rattle.std.proofs.Common.{◌≡◌, ◌++◌, ◌∷◌, ◌∙◌, ◌≤◌, length, codes, sym, ap, arith}
use Rattle.std.specs.Prelude.{take, map, decimal}
use Rattle.std.specs.List.{join_with_byte}
use Rattle.std.proofs.lemmas.List.{take_all}
use Rattle.lockrun_play.proofs.Texts.{Appends-more, Appends-both, gap_at, gap_first, gap_later, listed_more, listed_all}
use Rattle.lockrun_play.proofs.played.pool.write_items.Goals as goal
use Rattle.lockrun_play.proofs.played.pool.write_items.Goals.{then-index-eq0, else-index-eq0, else-loop-index-test, then-loop-index-test+in_default}

pub loop-index-init : goal.loop-index-init
loop-index-init g c = c.in_ok-write.ensures.bytes

pub loop-index-preserved : goal.loop-index-preserved
loop-index-preserved g c =
    let items = c.args.world.now.items in
    let gap : gap_at c.loop-index.index ≡ c.if-index-eq0.gap.now = elim c.if-index-eq0.branch [
      | then-index-eq0 w ↦ gap_first _ w.if-index-eq0.true ∙ ap (λ s. s.now) (sym w.gap-is)
      | else-index-eq0 w ↦ gap_later _ w.if-index-eq0.false ∙ ap (λ s. s.now) (sym w.gap-is)
    ] in
    let more = listed_more decimal items c.loop-index.index c.in-Some.item (sym c.in-Some.ensures) in
    Appends-more _ _ _ _ _ _ c.loop-index.invariant c.in_ok-write-2.ensures.bytes
    (ap (λ t. 91 ∷ t) (ap (λ s. join_with_byte 32 (map decimal (take c.loop-index.index items)) ++ (s ++ decimal c.in-Some.item)) (sym gap) ∙ more))

pub returns : goal.returns
returns g c =
    let items = c.args.world.now.items in
    let over : length items ≤ c.loop-index.index = elim c.loop-index-test.branch [
      | else-loop-index-test w ↦ omega (arith, w.loop-index-test.false, c.len-index-end.ensures)
      | then-loop-index-test+in_default w ↦ listed_all _ _ (sym w.item.ensures ∙ w.in_default.is)
    ] in
    let all : take c.loop-index.index items ≡ items = take_all _ _ over in
    Appends-both _ _ _ _ _ _ _ c.loop-index.invariant c.write-2.ensures.bytes (ap (λ es. 91 ∷ (join_with_byte 32 (map decimal es) ++ codes "]")) all)
