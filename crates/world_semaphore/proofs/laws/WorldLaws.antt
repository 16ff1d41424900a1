-- The laws of a semaphore's World: what follows from one step that its table did.
use Rattle.world_semaphore.proofs.Prelude.{◌≡◌, ◌≢◌, ℕ, ◌+◌, ◌<◌, ◌≤◌, true, refl, sym, subst, Answer, Call, Inputs, Move, is_outside, is_possible, going_on, StepsWell, left_by, beginning, knows, World, standing_of, Steps, Known, Tells, HoldsWell, known_of, learn}
use Rattle.world_base.specs.declared.standing.Rest.TheVariants.{Holding}
use Rattle.world_base.proofs.of_any_world.Endings.{ends_outside as outside_at_end}
use Rattle.world_semaphore.specs.Whole.{most_steps_of, steps_left_of}
use Rattle.world_semaphore.proofs.laws.Sound.{sound, awake}
use Rattle.world_semaphore.proofs.rights.Rights.{counted, holds_well}
use Rattle.world_semaphore.proofs.whole.Whole as whole

pub told_at_first : (w : World) → Tells (known_of w) w
told_at_first w = record { rights = λ p. refl; sizes = λ p. refl; limit = refl }

pub goes_well : (k : Known) (w : World) (m : Move) (a : Answer) (v : World) → Tells k w → Steps w m a v → StepsWell Tells HoldsWell (learn k m a) v
goes_well k w m a v tells s =
    let P : World → Type 0 = StepsWell Tells HoldsWell (learn k m a) in
    let Q : World → Type 0 = Tells k in
    subst P (sym s.did.stands.seen) (holds_well k w.behind v.behind m a s.did.stands.fits (subst Q s.did.stood.seen tells) (counted w.behind v.behind m a s.did.stood.laws s.did.stood.fits s.did.stands.laws s.did.stands.fits s.did.step)
    (sound v.behind s.did.stands.laws s.did.stands.fits) (awake v.behind s.did.stands.laws s.did.stands.fits))

pub begins : (w : World) (p : ℕ) (c : Call) (i : Inputs) (a : Answer) (v : World) → Steps w (beginning p c i) a v → 1 + left_by a (steps_left_of v p) ≤ most_steps_of c
begins w p c i a v s = whole.begins w.behind v.behind s.did.stood.laws s.did.stood.fits s.did.stands.laws s.did.stands.fits p i a c s.did.step

pub falls : (w : World) (p : ℕ) (i : Inputs) (a : Answer) (v : World) → Steps w (going_on p i) a v → left_by a (steps_left_of v p) < steps_left_of w p
falls w p i a v s = whole.falls w.behind v.behind s.did.stood.laws s.did.stood.fits s.did.stands.laws s.did.stands.fits p i a s.did.step

pub ends_outside : (w : World) (m : Move) (a : Answer) (v : World) → Steps w m a v → a ≢ Answer.Stepped → is_possible a ≡ true → is_outside (standing_of v m.party) ≡ true
ends_outside w m a v s = outside_at_end standing_of (λ x p. knows) Holding w m a v s.legal.possible s.legal.ends_properly
