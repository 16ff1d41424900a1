-- Who hasn't waited for too long, and meets nobody that is starved for the turn where it steps, isn't counted as starved, nor refused as one too many of them.
use Rattle.world_rwlock.proofs.Prelude.{◌≡◌, ◌≢◌, ℕ, Bool, true, false, refl, ap, sym, ◌∙◌, subst, true≢false, Answer, Move, Rest, inputs_of, is_outside, how_many, TurnCourse, is_counting, starved, turn_at, out_uncounted, holding_uncounted, waiting_uncounted, Place, place_at, fits_turn, is_resting, action_of, OnTurn, RwLock, World, standing_of, is_starved, knows_of, Stands, Moved as Steps}
use Rattle.world_mutex.specs.machine.Mutex.{is_counted}
use Rattle.world_mutex.proofs.of_machine.callers.Holders as sees
use Rattle.world_base.proofs.Patience as base
use Rattle.world_rwlock.specs.Waking.{StarvesForCause}
use Rattle.world_rwlock.proofs.bound.Alone.{laws}
use Rattle.world_rwlock.proofs.bound.Ending.{same_there}
use Rattle.world_rwlock.proofs.laws.Sound.{rests_outside}
use Rattle.world_rwlock.proofs.step.Acting.{Way, impossible, over, puts, acts, way}
use Rattle.world_rwlock.proofs.whole.Patient.{midway, counting}
use Rattle.world_rwlock.proofs.whole.Promises.{turn_uncounted, starved_behind}

abbrev there : World → ℕ → TurnCourse
there w q = turn_at w.behind.machine.lock.turn.courses q

-- the party isn't counted, nor about to be
record Calm (q : ℕ) (w : World) : Type 0 where
  uncounting : is_counting (there w q) ≡ false
  plain : is_counted (there w q) ≡ false

-- whoever rests isn't about to be
rest_quiet : (x : Place) (t : TurnCourse) → is_resting x ≡ true → fits_turn x t ≡ true → is_counting t ≡ false
rest_quiet Place.Out t h f = out_uncounted t f
rest_quiet (Place.Made w) t h f = out_uncounted t f
rest_quiet Place.Reading t h f = out_uncounted t f
rest_quiet Place.AskNoWriter t h f = out_uncounted t f
rest_quiet Place.Upgradable t h f = holding_uncounted t f
rest_quiet Place.Writing t h f = holding_uncounted t f
rest_quiet (Place.AwaitNoReaders u) t h f = holding_uncounted t f
rest_quiet (Place.LookUnlisted true) t h f = holding_uncounted t f
rest_quiet (Place.WaitTurn q) t h f = waiting_uncounted t f
rest_quiet _ t h f = absurd (cc h)

counted_seen : (w : World) (q : ℕ) → Stands w → is_starved w q ≡ is_counted (there w q)
counted_seen w q s = ap (λ x. is_starved x q) s.seen ∙ sees.starved_at w.behind.machine.lock.turn.courses q

module _ (w : World) (m : Move) (a : Answer) (v : World) (s : Steps w m a v) where
  unstarved : (q : ℕ) → Calm q v → is_starved v q ≡ false
  unstarved q k = counted_seen v q s.did.stands ∙ k.plain

  rests : (q : ℕ) → is_outside (standing_of w q) ≡ true → is_starved w q ≡ false → Calm q w
  rests q out plain =
      let here : is_resting (place_at w.behind.machine.lock.places q) ≡ true = rests_outside w.behind s.did.stood.laws s.did.stood.fits q (ap is_outside (sym (ap (λ x. standing_of x q) s.did.stood.seen)) ∙ out) in
      record { uncounting = rest_quiet (place_at w.behind.machine.lock.places q) (there w q) here (s.did.stood.laws.in_turn q); plain = sym (counted_seen w q s.did.stood) ∙ plain }

  keeps : (q : ℕ) → q ≢ m.party → Calm q w → Calm q v
  keeps q apart k = let same = same_there w m a v s q apart in record { uncounting = ap is_counting same ∙ k.uncounting; plain = ap is_counted same ∙ k.plain }

  -- a step of its own
  module _ (k : Calm m.party w) (none : how_many w.state.starved ≡ 0) (patient : (inputs_of m.what).starving ≡ false) where
    zero : starved w.behind.machine.lock.turn ≡ 0
    zero = sym (starved_behind w s.did.stood) ∙ none

    same : v.behind.machine.lock ≡ w.behind.machine.lock → Calm m.party v
    same e = record {
      uncounting = ap (λ (l : RwLock). is_counting (turn_at l.turn.courses m.party)) e ∙ k.uncounting;
      plain = ap (λ (l : RwLock). is_counted (turn_at l.turn.courses m.party)) e ∙ k.plain;
    }

    by_way : Way w.behind v.behind m a → Calm m.party v
    by_way (impossible e ea eu) = same (ap (λ t. t.machine.lock) eu)
    by_way (over u e f ea eu) = same (ap (λ t. t.machine.lock) eu)
    by_way (puts u n in_table o e ea eu) = same (ap (λ t. t.machine.lock) eu)
    by_way (acts u c) =
        let O : Bool → Type 0 = λ b. OnTurn (inputs_of m.what).memory b m.party (action_of c.from) c.acts.found w.behind.machine.lock.turn v.behind.machine.lock.turn in
        let it = turn_uncounted (inputs_of m.what).memory m.party w.behind.machine.lock.turn v.behind.machine.lock.turn zero k.uncounting (action_of c.from) c.acts.found (subst O patient c.acts.turn) in
        record { uncounting = it.1; plain = sym (sees.starved_at v.behind.machine.lock.turn.courses m.party) ∙ sees.none_starved v.behind.machine.lock.turn.courses m.party it.0 }

    own : Calm m.party v
    own = by_way (way w.behind v.behind m a (laws w s.did.stood) (laws v s.did.stands) s.did.step)

pub starves_for_cause : (w : World) → StarvesForCause w
starves_for_cause = base.starves_for_cause Steps standing_of (λ w. w.state.starved) knows_of Rest.Holding Calm
    (λ w m a v s. s.legal.possible) (λ w m a v s. s.legal.ends_properly) (λ w m a v s q apart. s.legal.one_change.others q apart)
    (λ w m a v s d. midway w v m a s d) (λ w m a v s d k. true≢false (sym (counting w v m a s d) ∙ k.uncounting)) own keeps rests unstarved
