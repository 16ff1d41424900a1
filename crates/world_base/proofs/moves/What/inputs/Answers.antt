-- The inputs go on as they came.
use Rattle.std.proofs.Common.{refl, ⊎_elim}
use Rattle.world_base.proofs.moves.What.inputs.Goals as goal

pub returns-in-Begin : goal.returns-in-Begin
returns-in-Begin c = ⊎_elim (λ begins. rw begins.1 refl) (λ goes. rw goes refl) c.in-Begin.is

pub returns-in-Begin-2 : goal.returns-in-Begin-2
returns-in-Begin-2 c = ⊎_elim (λ begins. rw begins.1 refl) (λ goes. rw goes refl) c.in-Begin.is
