-- Two steps, one of which is the party's own, are a chain of its call.
use Rattle.std.proofs.Common.{refl, inl, inr}
use Rattle.world_base.specs.declared.moves.Answer.TheVariants as answer
use Rattle.world_base.specs.Whole.{going_on}
use Rattle.test_definitions.proofs.mutex.ending.Goals as goal

pub returns : goal.returns
returns c = record { once = λ s. (going_on s.party s.inputs, answer.Stepped, s.mid, s.own, 0, (s.move, s.answered, s.new, s.others, 0, (refl, refl), inl ((λ is. absurd (s.another is)), refl)), inr (refl, refl, refl)) }
