-- The answers of the run are all that there are.
use Rattle.world_base.proofs.Prelude.{◌≡◌, ◌++◌, List, ap, sym, subst, ◌∙◌, Answer, Runs, KeepsPromises}
use Rattle.world_base.proofs.any_world.AnyWorld.run.Goals as goal

pub returns-clause-runs : goal.returns-clause-runs
returns-clause-runs g c =
    let w = g.Self.AnyWorld in
    let start = c.args.self.now in
    let k = c.in_ok-run_into.ensures.runs in
    let all : k.answers ≡ c.run_into.new.answers.items = sym (k.added ∙ ap (λ l. l ++ k.answers) c.new-answers.ensures.items) in
    subst (λ (told : List Answer). Runs w.legal w.learn w.is_well (w.known_of start) start c.args.moves.now told c.run_into.new.self) all k.runs

pub returns-clause-promised : goal.returns-clause-promised
returns-clause-promised g c =
    let w = g.Self.AnyWorld in
    let start = c.args.self.now in
    let k = c.in_ok-run_into.ensures.runs in
    let all : k.answers ≡ c.run_into.new.answers.items = sym (k.added ∙ ap (λ l. l ++ k.answers) c.new-answers.ensures.items) in
    subst (λ (told : List Answer). KeepsPromises w.legal w.learn w.is_well w.promises (w.known_of start) start c.args.moves.now told c.run_into.new.self) all k.promised
