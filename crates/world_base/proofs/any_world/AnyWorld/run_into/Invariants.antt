use Rattle.world_base.proofs.Prelude.{◌≡◌, ◌≤◌, ◌+◌, ◌++◌, List, length, take, vec_capacity, Answer, Runs, known_by}
use Rattle.world_base.proofs.any_world.AnyWorld.run_into.Given as goal

abbrev pub invariant-loop-m : goal.invariant-loop-m
invariant-loop-m g l =
    let w = g.Self.AnyWorld in
    record {
      more : List Answer;
      added : l.answers.items ≡ l.fn.answers.items ++ more;
      runs : Runs w.legal w.learn w.is_well (w.known_of l.fn.self) l.fn.self (take l.m-index l.moves) more l.self;
      tells : w.tells (known_by w.learn (w.known_of l.fn.self) (take l.m-index l.moves) more) l.self;
      so_far : length more ≡ l.m-index;
      room : length l.fn.answers.items + length l.moves ≤ vec_capacity l.answers;
    }
