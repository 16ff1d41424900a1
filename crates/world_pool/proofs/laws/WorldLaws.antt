-- The laws of a pool's World: what follows from one step that its table did.
use Rattle.world_pool.proofs.Prelude.{◌≡◌, ◌≢◌, ℕ, ◌+◌, ◌<◌, ◌≤◌, Bool, true, false, Option, Some, None, refl, sym, ap, subst, ◌∙◌, Answer, Call, Inputs, Move, Within, Standing, outside, inside, is_outside, is_possible, is_poll_after_ready, going_on, StepsWell, left_by, beginning, World, standing_of, gives, call_of, StandsAfter, IsSound, IsAwake, is_at_rest, TellsItems, HoldsWell, items_after, known_of, StandsWell, Steps}
use Rattle.world_pool.specs.Whole.{most_steps_of, steps_left_of}
use Rattle.world_pool.proofs.laws.Sound.{sound, awake}
use Rattle.world_pool.proofs.laws.Rights as rights
use Rattle.world_pool.proofs.laws.Bounds as bounds

pub told_at_first : (w : World) → TellsItems (known_of w) w
told_at_first w p = refl

pub is_sound : (w : World) → StandsWell w → IsSound w
is_sound w s = subst IsSound (sym s.seen) (sound w.behind s.laws s.fits)

pub is_awake : (w : World) → StandsWell w → is_at_rest w ≡ true → IsAwake w
is_awake w s = let P : World → Type 0 = λ x. is_at_rest x ≡ true → IsAwake x in subst P (sym s.seen) (awake w.behind s.laws s.fits)

pub goes_well : (known : ℕ → Option ℕ) (w : World) (m : Move) (a : Answer) (v : World) → TellsItems known w → Steps w m a v → StepsWell TellsItems HoldsWell (items_after known m a) v
goes_well known w m a v tells s = rights.holds_well known w m a tells v s.legal (is_sound v s.did.stands) (is_awake v s.did.stands)

pub begins_few : (w : World) (p : ℕ) (c : Call) (i : Inputs) (a : Answer) (v : World) → Steps w (beginning p c i) a v → 1 + left_by a (steps_left_of v p) ≤ most_steps_of c
begins_few w p c i a v s = bounds.begins_few w.behind v.behind s.did.stood.laws s.did.stood.fits p i a c s.did.step

pub falls : (w : World) (p : ℕ) (i : Inputs) (a : Answer) (v : World) → Steps w (going_on p i) a v → left_by a (steps_left_of v p) < steps_left_of w p
falls w p i a v s = bounds.falls w.behind v.behind s.did.stood.laws s.did.stood.fits p i a s.did.step

by_answer : (b : Bool) (u : Within) (a : Answer) (t : Standing) → a ≢ Answer.Stepped → StandsAfter b u a t → is_outside t ≡ true
by_answer b u Answer.Stepped t e s = absurd (e refl)
by_answer b u _ t e s = ap is_outside s.1

after_poll : (s : Standing) (m : Move) → is_poll_after_ready s m.what ≡ true → is_outside s ≡ true
after_poll (outside r) m h = refl
after_poll (inside w d) m h = absurd (cc h)
after_poll Standing.forgotten m h = refl

pub ends_outside : (w : World) (m : Move) (a : Answer) (v : World) → Steps w m a v → a ≢ Answer.Stepped → is_possible a ≡ true → is_outside (standing_of v m.party) ≡ true
ends_outside w m a v s ended possible = by_call (call_of w m) (is_poll_after_ready (standing_of w m.party) m.what) refl refl where
  by_call : (o : Option Within) (b : Bool) → call_of w m ≡ o → is_poll_after_ready (standing_of w m.party) m.what ≡ b → is_outside (standing_of v m.party) ≡ true
  by_call None b e f = let no = s.legal.possible.exactly.1 e in absurd (cc (no, possible))
  by_call (Some u) true e f = ap (λ x. is_outside (standing_of x m.party)) (s.legal.ends_properly.after_ready f).1 ∙ after_poll (standing_of w m.party) m f
  by_call (Some u) false e f = by_answer (gives w m.party) u a (standing_of v m.party) ended (s.legal.ends_properly.stands u e f)
