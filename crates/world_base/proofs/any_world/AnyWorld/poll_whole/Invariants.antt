use Rattle.world_base.proofs.Prelude.{◌≤◌, ◌+◌, ℕ, Runs, moves_of, answers_of, left_by, known_by}
use Rattle.world_base.proofs.any_world.AnyWorld.poll_whole.Given as goal

abbrev pub invariant-loop-answer : goal.invariant-loop-answer
invariant-loop-answer g l =
    let w = g.Self.AnyWorld in
    record {
      more : ℕ;
      runs : Runs w.legal w.learn w.is_well (w.known_of l.fn.self) l.fn.self (moves_of l.fn.party l.fn.call l.fn.inputs more) (answers_of more l.answer) l.self;
      tells : w.tells (known_by w.learn (w.known_of l.fn.self) (moves_of l.fn.party l.fn.call l.fn.inputs more) (answers_of more l.answer)) l.self;
      few : more + 1 + left_by l.answer (w.steps_left l.self l.fn.party) ≤ w.most_steps l.fn.call;
    }

abbrev pub decreases-loop-answer : goal.decreases-loop-answer
decreases-loop-answer g l = left_by l.answer (g.Self.AnyWorld.steps_left l.self l.fn.party)
