-- A call that is carried out alone ends.
use Rattle.world_base.proofs.Prelude.{◌≡◌, ◌≤◌, ◌<◌, ◌+◌, ◌++◌, ◌∷◌, [], List, replicate, arith, subst, sym, ap, ◌∙◌, refl, Answer, Move, Begin, Runs, going_on, moves_of, answers_of, left_by, known_by}
use Rattle.world_base.proofs.of_any_world.Runs.{runs_more, known_more, last_of, one_more, stepped_is, not_stepped_is}
use Rattle.world_base.proofs.any_world.AnyWorld.poll_whole.Goals as goal

pub loop-answer-init : goal.loop-answer-init
loop-answer-init g c =
    let w = g.Self.AnyWorld in
    let start = c.args.self.now in
    let next = c.step-answer.new.self in
    let m : Move = record { party = c.args.party; what = Begin c.args.call c.args.inputs } in
    let well = c.step_laws.ensures.goes_well (w.known_of start) start m c.step-answer.result next (c.step_laws.ensures.told_at_first start) c.step-answer.ensures in
    let few : 1 + left_by c.step-answer.result (w.steps_left next c.args.party) ≤ w.most_steps c.args.call = c.step_laws.ensures.begins start c.args.party c.args.call c.args.inputs c.step-answer.result next c.step-answer.ensures in
    record { more = 0; runs = (next, c.step-answer.ensures, well.well, refl); tells = well.tells; few = omega arith }

pub loop-answer-smaller : goal.loop-answer-smaller
loop-answer-smaller g c =
    let w = g.Self.AnyWorld in
    let stepped = stepped_is c.loop-answer.answer (sym c.is_stepped.ensures ∙ c.loop-answer-test.true) in
    let less : left_by c.step-answer-in-loop-answer.result (w.steps_left c.step-answer-in-loop-answer.new.self c.args.party) < w.steps_left c.loop-answer.self c.args.party =
    c.step_laws.ensures.falls c.loop-answer.self c.args.party c.args.inputs c.step-answer-in-loop-answer.result c.step-answer-in-loop-answer.new.self c.step-answer-in-loop-answer.ensures in
    rw stepped less

pub loop-answer-preserved : goal.loop-answer-preserved
loop-answer-preserved g c =
    let w = g.Self.AnyWorld in
    let k = c.loop-answer.invariant in
    let p = c.args.party in
    let i = c.args.inputs in
    let start = w.known_of c.args.self.now in
    let past = moves_of p c.args.call i k.more in
    let told = answers_of k.more c.loop-answer.answer in
    let b = c.step-answer-in-loop-answer.result in
    let next = c.step-answer-in-loop-answer.new.self in
    let stepped = stepped_is c.loop-answer.answer (sym c.is_stepped.ensures ∙ c.loop-answer-test.true) in
    let well = c.step_laws.ensures.goes_well (known_by w.learn start past told) c.loop-answer.self (going_on p i) b next k.tells c.step-answer-in-loop-answer.ensures in
    let known = known_more w.legal w.learn w.is_well start c.args.self.now past told c.loop-answer.self (going_on p i) b k.runs in
    let longer = runs_more w.legal w.learn w.is_well start c.args.self.now past told c.loop-answer.self (going_on p i) b next k.runs c.step-answer-in-loop-answer.ensures well.well in
    let tells = subst (λ x. w.tells x next) (sym known) well.tells in
    let moves : past ++ going_on p i ∷ [] ≡ moves_of p c.args.call i (k.more + 1) = ap (λ ms. record { party = p; what = Begin c.args.call i } ∷ ms) (one_more k.more (going_on p i)) in
    let answers : told ++ b ∷ [] ≡ answers_of (k.more + 1) b = ap (λ x. (replicate k.more Answer.Stepped ++ x ∷ []) ++ b ∷ []) stepped ∙ ap (λ xs. xs ++ b ∷ []) (one_more k.more Answer.Stepped) in
    let R : List Move → Type 0 = λ ms. Runs w.legal w.learn w.is_well start c.args.self.now ms (told ++ b ∷ []) next in
    let S : List Answer → Type 0 = λ s. Runs w.legal w.learn w.is_well start c.args.self.now (moves_of p c.args.call i (k.more + 1)) s next in
    let T : List Move → Type 0 = λ ms. w.tells (known_by w.learn start ms (told ++ b ∷ [])) next in
    let U : List Answer → Type 0 = λ s. w.tells (known_by w.learn start (moves_of p c.args.call i (k.more + 1)) s) next in
    let less : left_by b (w.steps_left next p) < w.steps_left c.loop-answer.self p = c.step_laws.ensures.falls c.loop-answer.self p i b next c.step-answer-in-loop-answer.ensures in
    let was : left_by c.loop-answer.answer (w.steps_left c.loop-answer.self p) ≡ w.steps_left c.loop-answer.self p = ap (λ a. left_by a (w.steps_left c.loop-answer.self p)) stepped in
    let few : k.more + 1 + left_by c.loop-answer.answer (w.steps_left c.loop-answer.self p) ≤ w.most_steps c.args.call = k.few in
    record {
      more = k.more + 1;
      runs = subst S answers (subst R moves longer);
      tells = subst U answers (subst T moves tells);
      few = omega arith;
    }

pub returns : goal.returns
returns g c =
    let w = g.Self.AnyWorld in
    let k = c.loop-answer.invariant in
    let p = c.args.party in
    let few : k.more + 1 + left_by c.loop-answer.answer (w.steps_left c.loop-answer.self p) ≤ w.most_steps c.args.call = k.few in
    let ended = not_stepped_is c.loop-answer.answer (sym c.is_stepped.ensures ∙ c.loop-answer-test.false) in
    let last = last_of w.legal w.learn w.is_well (w.known_of c.args.self.now) c.args.self.now p c.args.inputs k.more (Begin c.args.call c.args.inputs) c.loop-answer.answer c.loop-answer.self k.runs in
    record {
      whole = record {
        more = k.more;
        runs = k.runs;
        few = omega arith;
        ended = ended;
        outside = λ possible. c.step_laws.ensures.ends_outside last.from (record { party = p; what = last.what }) c.loop-answer.answer c.loop-answer.self last.legal ended possible;
      };
      promised = c.step_laws.ensures.keeps_promise (w.known_of c.args.self.now) c.args.self.now p c.args.call c.args.inputs k.more c.loop-answer.answer c.loop-answer.self k.runs ended;
    }
