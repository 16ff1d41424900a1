use Rattle.std.proofs.Common.{◌≡◌, ◌++◌, ◌∷◌, ◌∙◌, ◌≤◌, length, codes, sym, ap, arith}
use Rattle.std.specs.Prelude.{take, map}
use Rattle.std.specs.List.{join_with_byte}
use Rattle.std.proofs.lemmas.List.{take_all}
use Rattle.lockrun_play.specs.Answers.{entry_text}
use Rattle.lockrun_play.proofs.Texts.{Appends-more, Appends-both, gap_at, gap_first, gap_later, listed_more, listed_all}
use Rattle.lockrun_play.proofs.answer.write_list.Goals as goal
use Rattle.lockrun_play.proofs.answer.write_list.Goals.{then-index-eq0, else-index-eq0, else-loop-index-test, then-loop-index-test+in_default}

pub loop-index-init : goal.loop-index-init
loop-index-init g c = c.in_ok-write.ensures.bytes

pub loop-index-preserved : goal.loop-index-preserved
loop-index-preserved g c =
    let gap : gap_at c.loop-index.index ≡ c.if-index-eq0.gap.now = elim c.if-index-eq0.branch [
      | then-index-eq0 w ↦ gap_first _ w.if-index-eq0.true ∙ ap (λ s. s.now) (sym w.gap-is)
      | else-index-eq0 w ↦ gap_later _ w.if-index-eq0.false ∙ ap (λ s. s.now) (sym w.gap-is)
    ] in
    let more = listed_more entry_text (g.L.Listed.entries c.args.list.now) c.loop-index.index c.in-Some.entry (sym c.in-Some.ensures) in
    Appends-more _ _ _ _ _ _ c.loop-index.invariant c.in_ok-write_entry.ensures
    (ap (λ t. 91 ∷ t) (ap (λ s. join_with_byte 32 (map entry_text (take c.loop-index.index (g.L.Listed.entries c.args.list.now))) ++ (s ++ entry_text c.in-Some.entry)) (sym gap) ∙ more))

pub returns : goal.returns
returns g c =
    let over : length (g.L.Listed.entries c.args.list.now) ≤ c.loop-index.index = elim c.loop-index-test.branch [
      | else-loop-index-test w ↦ omega (arith, w.loop-index-test.false, c.waiting-index-end.ensures)
      | then-loop-index-test+in_default w ↦ listed_all _ _ (sym w.entry.ensures ∙ w.in_default.is)
    ] in
    let all : take c.loop-index.index (g.L.Listed.entries c.args.list.now) ≡ g.L.Listed.entries c.args.list.now = take_all _ _ over in
    Appends-both _ _ _ _ _ _ _ c.loop-index.invariant c.write-2.ensures.bytes (ap (λ es. 91 ∷ (join_with_byte 32 (map entry_text es) ++ codes "]")) all)
