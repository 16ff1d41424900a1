-- Each move adds a legal step to the run.
use Rattle.world_base.proofs.Prelude.{◌++◌, ◌∷◌, ◌∙◌, [], List, length-append, append_assoc, take, arith, ap, subst, sym, take_more, take_all, Move, Runs, known_by}
use Rattle.world_base.proofs.of_any_world.Runs.{runs_more, known_more, keeps_promises}
use Rattle.world_base.proofs.any_world.AnyWorld.run_into.Goals as goal

pub loop-m-preserved : goal.loop-m-preserved
loop-m-preserved g c =
    let w = g.Self.AnyWorld in
    let k = c.loop-m.invariant in
    let start = w.known_of c.args.self.now in
    let past = take c.loop-m.m-index c.args.moves.now in
    let a = c.step-answer.result in
    let next = c.step-answer.new.self in
    let well = c.step_laws.ensures.goes_well (known_by w.learn start past k.more) c.loop-m.self _ a next k.tells c.step-answer.ensures in
    let known = known_more w.legal w.learn w.is_well start c.args.self.now past k.more c.loop-m.self _ a k.runs in
    let longer = runs_more w.legal w.learn w.is_well start c.args.self.now past k.more c.loop-m.self _ a next k.runs c.step-answer.ensures well.well in
    let P : List Move → Type 0 = λ ms. Runs w.legal w.learn w.is_well start c.args.self.now ms (k.more ++ a ∷ []) next in
    let Q : List Move → Type 0 = λ ms. w.tells (known_by w.learn start ms (k.more ++ a ∷ [])) next in
    let moves = take_more c.args.moves.now c.loop-m.m-index _ c.loop-m-test.true in
    record {
      more = k.more ++ a ∷ [];
      added = c.push_reserved.ensures.items ∙ ap (λ xs. xs ++ a ∷ []) k.added ∙ append_assoc c.args.answers.now.items k.more (a ∷ []);
      runs = subst P (sym moves) longer;
      tells = subst Q (sym moves) (subst (λ x. w.tells x next) (sym known) well.tells);
      so_far = omega (arith, length-append k.more (a ∷ []), k.so_far);
      room = omega (arith, k.room, c.push_reserved.ensures.capacity);
    }

pub returns-clause-runs : goal.returns-clause-runs
returns-clause-runs g c =
    let w = g.Self.AnyWorld in
    let k = c.loop-m.invariant in
    let start = w.known_of c.args.self.now in
    let P : List Move → Type 0 = λ ms. Runs w.legal w.learn w.is_well start c.args.self.now ms k.more c.loop-m.self in
    let all : Runs w.legal w.learn w.is_well start c.args.self.now c.args.moves.now k.more c.loop-m.self = subst P (take_all c.loop-m.m-index c.args.moves.now c.loop-m-test.false) k.runs in
    record {
      answers = k.more;
      added = k.added;
      runs = all;
      promised = keeps_promises w.legal w.learn w.is_well w.promises (c.step_laws.ensures.keeps_promise) start c.args.self.now c.args.moves.now k.more c.loop-m.self all;
    }
