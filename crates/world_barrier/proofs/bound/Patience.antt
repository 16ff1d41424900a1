-- Who hasn't waited for too long, and meets nobody that is starved for the inner lock where it steps, isn't counted as starved, nor refused as one too many of them.
use Rattle.world_barrier.proofs.Prelude.{◌≡◌, ◌≢◌, ℕ, true, false, refl, ap, sym, ◌∙◌, true≢false, Answer, Move, Rest, inputs_of, is_outside, how_many, Course, course_at, is_counting, starved, out_uncounted, waiting_uncounted, Position, Out, Made, Locking, Waiting, position_at, fits_lock, in_lock, is_resting, action_of, World, standing_of, is_starved, knows, Moves, Steps}
use Rattle.world_mutex.specs.machine.Mutex.{is_counted}
use Rattle.world_mutex.proofs.of_machine.callers.Holders as sees
use Rattle.world_base.proofs.Patience as base
use Rattle.world_base.proofs.of_table.Ways.{way, by_way}
use Rattle.world_barrier.specs.Steps.{Stands}
use Rattle.world_barrier.specs.Waking.{StarvesForCause}
use Rattle.world_barrier.proofs.bound.Ending.{same_there}
use Rattle.world_barrier.proofs.laws.Sound.{rests_outside}
use Rattle.world_barrier.proofs.whole.Alone.{known_calls}
use Rattle.world_barrier.proofs.whole.Patient.{midway, counting}
use Rattle.world_barrier.proofs.whole.Ring.{counts_none}

abbrev there : World → ℕ → Course
there w q = course_at w.behind.machine.lock.courses q

-- the party isn't counted, nor about to be
record Quiet (c : Course) : Type 0 where
  uncounting : is_counting c ≡ false
  plain : is_counted c ≡ false

abbrev Calm : ℕ → World → Type 0
Calm q w = Quiet (there w q)

-- whoever rests isn't about to be
rest_quiet : (x : Position) (c : Course) → is_resting x ≡ true → fits_lock (in_lock x) c ≡ true → is_counting c ≡ false
rest_quiet Out c h f = out_uncounted c f
rest_quiet (Made a) c h f = out_uncounted c f
rest_quiet (Locking a) c h f = waiting_uncounted c f
rest_quiet Waiting c h f = out_uncounted c f
rest_quiet _ c h f = absurd (cc h)

counted_seen : (w : World) (q : ℕ) → Stands w → is_starved w.lock q ≡ is_counted (there w q)
counted_seen w q s = ap (λ (x : World). is_starved x.lock q) s.seen ∙ sees.starved_at w.behind.machine.lock.courses q

module _ (w : World) (m : Move) (a : Answer) (v : World) (s : Steps w m a v) where
  unstarved : (q : ℕ) → Calm q v → is_starved v.lock q ≡ false
  unstarved q k = counted_seen v q s.did.stands ∙ k.plain

  rests : (q : ℕ) → is_outside (standing_of w q) ≡ true → is_starved w.lock q ≡ false → Calm q w
  rests q out plain =
      let here : is_resting (position_at w.behind.machine.positions q) ≡ true = rests_outside w.behind s.did.stood.laws s.did.stood.fits q (ap is_outside (sym (ap (λ x. standing_of x q) s.did.stood.seen)) ∙ out) in
      record { uncounting = rest_quiet (position_at w.behind.machine.positions q) (there w q) here (s.did.stood.laws.links q); plain = sym (counted_seen w q s.did.stood) ∙ plain }

  keeps : (q : ℕ) → q ≢ m.party → Calm q w → Calm q v
  keeps q apart k = let same = same_there w m a v s q apart in record { uncounting = ap is_counting same ∙ k.uncounting; plain = ap is_counted same ∙ k.plain }

  -- a step of its own
  own : Calm m.party w → how_many w.lock.starved ≡ 0 → (inputs_of m.what).starving ≡ false → Calm m.party v
  own k none patient = by_way known_calls Rest.Finished Moves w.behind v.behind m a (λ b x. Quiet (course_at x.machine.lock.courses m.party)) (λ e. k) (λ u e f. k)
      (λ u e f d. (
      let zero : starved w.behind.machine.lock ≡ 0 = sym (ap (λ (x : World). how_many x.lock.starved) s.did.stood.seen ∙ sees.how_many_counted w.behind.machine.lock.courses) ∙ none in
      let it = counts_none (inputs_of m.what) m.party (action_of d.acts.from) d.acts.found w.behind.machine.lock v.behind.machine.lock patient d.acts.acts.lock zero k.uncounting in
      record { uncounting = it.1; plain = sym (sees.starved_at v.behind.machine.lock.courses m.party) ∙ sees.none_starved v.behind.machine.lock.courses m.party it.0 }))
      (way known_calls Rest.Finished Moves w.behind v.behind m a s.did.step)

pub starves_for_cause : (w : World) → StarvesForCause w
starves_for_cause = base.starves_for_cause Steps standing_of (λ w. w.lock.starved) (λ w p. knows) Rest.Finished Calm
    (λ w m a v s. s.legal.possible) (λ w m a v s. s.legal.ends_properly) (λ w m a v s q apart. s.legal.one_change.others q apart)
    (λ w m a v s d. midway w v m a s d) (λ w m a v s d k. true≢false (sym (counting w v m a s d) ∙ k.uncounting)) own keeps rests unstarved
