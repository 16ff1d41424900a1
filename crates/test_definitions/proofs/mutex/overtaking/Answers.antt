-- Two calls, one of which takes the lock, are a chain of overtaking.
use Rattle.std.proofs.Common.{refl, inl, inr}
use Rattle.world_base.specs.declared.moves.Call.TheVariants as call
use Rattle.test_definitions.proofs.mutex.overtaking.Goals as goal

pub returns : goal.returns
returns c = record { once = λ s. (s.other, call.Poll, s.inputs, s.ready, s.mid, s.polls, 0, (s.other, call.Drop, s.later, s.given_back, s.new, s.drops, 0, (refl, refl), inl refl), inr (refl, (s.without, s.gets))) }
