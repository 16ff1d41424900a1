-- The laws of a barrier's World: what follows from one step that its table did.
use Rattle.world_barrier.proofs.Prelude.{◌≡◌, ◌≢◌, ℕ, ◌+◌, ◌<◌, ◌≤◌, true, refl, sym, subst, Answer, Call, Inputs, Move, Rest, Account, accounts_after, is_outside, is_possible, going_on, StepsWell, left_by, beginning, knows, World, standing_of, IsSound, IsAwake, is_at_rest, TellsNoRights, HoldsWell, known_of, Stands, Steps}
use Rattle.world_base.proofs.of_any_world.Endings.{ends_outside as outside_at_end}
use Rattle.world_barrier.specs.Whole.{most_steps_of, steps_left_of}
use Rattle.world_barrier.proofs.laws.Sound.{sound, awake}
use Rattle.world_barrier.proofs.rights.Rights.{quiet, holds_well}
use Rattle.world_barrier.proofs.whole.Whole as whole

pub told_at_first : (w : World) → TellsNoRights (known_of w) w
told_at_first w p = refl

pub is_sound : (w : World) → Stands w → IsSound w
is_sound w s = subst IsSound (sym s.seen) (sound w.behind s.laws s.fits)

pub is_awake : (w : World) → Stands w → is_at_rest w ≡ true → IsAwake w
is_awake w s = let P : World → Type 0 = λ x. is_at_rest x ≡ true → IsAwake x in subst P (sym s.seen) (awake w.behind s.laws s.fits)

pub goes_well : (known : ℕ → Account) (w : World) (m : Move) (a : Answer) (v : World) → TellsNoRights known w → Steps w m a v → StepsWell TellsNoRights HoldsWell (accounts_after known m a) v
goes_well known w m a v tells s = holds_well known w m a (quiet w.behind v.behind m a s.did.step) tells v (is_sound v s.did.stands) (is_awake v s.did.stands)

pub begins_few : (w : World) (p : ℕ) (c : Call) (i : Inputs) (a : Answer) (v : World) → Steps w (beginning p c i) a v → 1 + left_by a (steps_left_of v p) ≤ most_steps_of c
begins_few w p c i a v s = whole.begins_few w.behind v.behind s.did.stood.laws s.did.stood.fits p i a c s.did.step

pub falls : (w : World) (p : ℕ) (i : Inputs) (a : Answer) (v : World) → Steps w (going_on p i) a v → left_by a (steps_left_of v p) < steps_left_of w p
falls w p i a v s = whole.falls w.behind v.behind s.did.stood.laws s.did.stood.fits p i a s.did.step

pub ends_outside : (w : World) (m : Move) (a : Answer) (v : World) → Steps w m a v → a ≢ Answer.Stepped → is_possible a ≡ true → is_outside (standing_of v m.party) ≡ true
ends_outside w m a v s = outside_at_end standing_of (λ x p. knows) Rest.Finished w m a v s.legal.possible s.legal.ends_properly
