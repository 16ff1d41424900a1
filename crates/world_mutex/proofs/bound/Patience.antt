-- Who hasn't waited for too long, and meets nobody that is starved where it steps, isn't counted as starved, nor refused as one too many of them.
use Rattle.world_mutex.proofs.Prelude.{◌≡◌, ◌≢◌, ℕ, zero, suc, ◌<◌, Bool, true, false, length, Option, Some, None, refl, sym, ap, ◌∙◌, subst, arith, some_eq, get_or-set_same, true≢false, Answer, Value, Move, What, Begin, Go, Rest, Within, inputs_of, is_outside, is_outside_stage, is_starved, put_in, refused, stage_at, outside_so, by_stage_or_past, past_last, Starved, LockCall, End, Next, Place, SameRoles, answer_by, place_after, decision, Acts, counted, is_counted, is_counting, is_resting, starved, how_many, Lock, place_at, Guarded, Moves, MovesBy, Carries, HeedsClock, start_by, lock_call_of, place_for, is_try_kind, way, by_way, World, standing_of, Stands, Steps, verdict}
use Rattle.world_base.specs.Patience.{IsInPeace, StepsInPeace, Stays}
use Rattle.std.proofs.Math.Decide.{ℕ_discrete}
use Rattle.world_mutex.specs.Waking.{StarvesForCause}
use Rattle.world_mutex.proofs.bound.Ending.{same_at}
use Rattle.world_mutex.proofs.bound.Waking.{starved_seen}
use Rattle.world_mutex.proofs.of_machine.laws.Seen as sees
use Rattle.world_mutex.proofs.of_machine.laws.Starts.{start_same}
use Rattle.world_mutex.proofs.of_machine.legal.Clauses.{same_place}
use Rattle.world_mutex.proofs.of_machine.legal.Promised.{begins_uncounted, none_counted}
use Rattle.world_mutex.proofs.step.Due.{resting}
use Rattle.world_mutex.proofs.step.Stepping.{known_calls}
use Rattle.world_mutex.proofs.table.Seen.{stands_seen}
use Rattle.world_mutex.proofs.whole.Patient.{is_too_many, refuses_many, Calm, calm, begins_calm}

-- a party stands here that isn't counted, nor about to be, nor to be refused as one too many
record IsQuiet (x : Place) : Type 0 where
  pub plain : is_counted x ≡ false
  pub uncounting : is_counting x ≡ false
  pub few : is_too_many (decision x) ≡ false

rests_quiet : (x : Place) → is_resting x ≡ true → is_counted x ≡ false → IsQuiet x
rests_quiet Place.Out h p = record { plain = refl; uncounting = refl; few = refl }
rests_quiet Place.Holding h p = record { plain = refl; uncounting = refl; few = refl }
rests_quiet Place.Ask h p = record { plain = refl; uncounting = refl; few = refl }
rests_quiet Place.AskStarved h p = absurd (cc p)
rests_quiet _ h p = absurd (cc h)

-- what a call begins with
record From (x from : Place) : Type 0 where
  pub same : SameRoles from x
  pub uncounting : is_counting from ≡ false
  pub few : is_too_many (decision from) ≡ false

from_call : (o : Option LockCall) (x from : Place) → start_by o x ≡ Some from → From x from
from_call None x from e = absurd (cc e)
from_call (Some c) x from e = record { same = start_same c x from e; uncounting = begins_uncounted c x from e; few = begins_calm c x from e }

from_place : (was : Rest) (what : What) (x from : Place) → place_for was what x ≡ Some from → IsQuiet x → From x from
from_place was (Begin c i) x from e q = from_call (lock_call_of was c) x from e
from_place was (Go i) x from e q = let P : Place → Type 0 = From x in subst P (some_eq e) (record { same = same_place x; uncounting = q.uncounting; few = q.few })

-- where a step leaves it, it isn't to be refused so either
few_then : (trying : Bool) (v : ℕ) (from : Place) (n : Next) (a : Answer) (to : Place) → a ≡ answer_by trying v n → to ≡ place_after from n → is_too_many (decision from) ≡ false → Calm a to → is_too_many (decision to) ≡ false
few_then trying v from (Next.Do b q) a to said lands few k = k.going said
few_then trying v from (Next.End End.Got) a to said lands few k = ap (λ x. is_too_many (decision x)) lands
few_then trying v from (Next.End End.Pending) a to said lands few k = ap (λ x. is_too_many (decision x)) lands ∙ few
few_then trying v from (Next.End End.NotFree) a to said lands few k = ap (λ x. is_too_many (decision x)) lands
few_then trying v from (Next.End End.Granted) a to said lands few k = ap (λ x. is_too_many (decision x)) lands
few_then trying v from (Next.End End.Waiting) a to said lands few k = ap (λ x. is_too_many (decision x)) lands
few_then trying v from (Next.End End.GivenBack) a to said lands few k = ap (λ x. is_too_many (decision x)) lands
few_then trying v from (Next.End (End.Refused r)) a to said lands few k = ap (λ x. is_too_many (decision x)) lands

-- ---- a step of its own

module _ (w : World) (p : ℕ) (what : What) (a : Answer) (v : World) (s : Steps w (record { party = p; what = what }) a v) (quiet : IsQuiet (place_at w.behind.machine.lock.places p)) (none : how_many w.state.starved ≡ 0) (patient : (inputs_of what).starving ≡ false) where
  abbrev g : Guarded
  g = w.behind.machine

  abbrev Then : Answer → Lock → Type 0
  Then b l = IsQuiet (place_at l.places p) × (refuses_many b ≡ false)

  nobody : starved g.lock ≡ 0
  nobody = sym (ap (λ (x : World). how_many x.state.starved) s.did.stood.seen ∙ sees.how_many_counted g.lock.places) ∙ none

  by_put : (u : Within) (o : Option ℕ) (h : Guarded) → p < length g.lock.places → MovesBy o g p u what a h → Then a h.lock
  by_put u (Some n) h known d = (let P : Lock → Type 0 = λ l. IsQuiet (place_at l.places p) in subst P (sym (ap (λ (x : Guarded). x.lock) d.1)) quiet, ap refuses_many d.0)
  by_put u None h known d =
      let f = from_place u.was what (place_at g.lock.places p) d.from d.starts quiet in
      let clock : HeedsClock false d.from d.next = subst (λ b. HeedsClock b d.from d.next) patient d.carried.clock in
      let acts = d.carried.acts in
      let counts = none_counted (inputs_of what).memory p d.from d.next g.lock h.lock acts clock known f.same nobody f.uncounting in
      let to : place_at h.lock.places p ≡ place_after d.from d.next = ap (λ ps. place_at ps p) acts.places ∙ get_or-set_same g.lock.places p (place_after d.from d.next) Place.Out known in
      let still = calm (is_try_kind u.kind) g.value d.from d.next acts.found a (place_at h.lock.places p) acts.next_is d.answer to f.uncounting f.few in (
        record {
          plain = sym (sees.starved_at h.lock.places p) ∙ sees.none_starved h.lock.places p counts.0;
          uncounting = counts.1;
          few = few_then (is_try_kind u.kind) g.value d.from d.next a (place_at h.lock.places p) d.answer to f.few still;
        },
        still.answered,
      )

  own : Then a v.behind.machine.lock
  own = by_way known_calls Rest.Holding Moves w.behind v.behind (record { party = p; what = what }) a (λ b y. Then b y.machine.lock) (λ e. (quiet, refl)) (λ u e f. (quiet, refl))
      (λ u e f k. by_put u (put_in what) v.behind.machine (omega (arith, k.inside, s.did.stood.fits.as_many)) k.acts)
      (way known_calls Rest.Holding Moves w.behind v.behind (record { party = p; what = what }) a s.did.step)

-- a step of the party, whoever it is named by
own_step : (w : World) (m : Move) (a : Answer) (v : World) (p : ℕ) → Steps w m a v → m.party ≡ p → IsQuiet (place_at w.behind.machine.lock.places p) → IsInPeace Steps standing_of (λ x. x.state.starved) p w m → IsQuiet (place_at v.behind.machine.lock.places p) × (refuses_many a ≡ false)
own_step w m a v p s is quiet peace = let S : ℕ → Type 0 = λ q. Steps w (record { party = q; what = m.what }) a v in own w p m.what a v (subst S is s) quiet (peace is).0 (peace is).1

-- ---- steps in turn

stays_quiet : (p steps : ℕ) (w v : World) → Stands w → IsQuiet (place_at w.behind.machine.lock.places p) → StepsInPeace Steps standing_of (λ x. x.state.starved) p steps w v → Stands v × IsQuiet (place_at v.behind.machine.lock.places p)
stays_quiet p zero w v stood quiet h = subst (λ x. Stands x × IsQuiet (place_at x.behind.machine.lock.places p)) (sym h) (stood, quiet)
stays_quiet p (suc steps) w v stood quiet h =
    let m : Move = h.0 in
    let mid : World = h.2 in
    let on : IsQuiet (place_at mid.behind.machine.lock.places p) = elim (ℕ_discrete m.party p) as (λ _. IsQuiet (place_at mid.behind.machine.lock.places p)) [
      | yes is ↦ (own_step w m h.1 mid p h.3 is quiet h.4).0
      | no is ↦ subst IsQuiet (sym (same_at w m h.1 mid h.3 p (λ e. is (sym e)))) quiet
    ] in
    stays_quiet p steps mid v h.3.did.stands on h.5

-- whoever is outside every call, and isn't starved, stands so
begins_quiet : (w : World) (p : ℕ) → Stands w → is_outside (standing_of w p) ≡ true → is_starved w.state p ≡ false → IsQuiet (place_at w.behind.machine.lock.places p)
begins_quiet w p s out plain =
    let t = w.behind in
    let x : Place = place_at t.machine.lock.places p in
    let rests : is_resting x ≡ true = by_stage_or_past t.stages p (is_resting x ≡ true)
    (λ past. ap is_resting (past_last t.machine.lock.places p Place.Out (omega (arith, past, s.fits.as_many))))
    (λ inside. resting (stage_at t.stages p) x (s.fits.stands p inside) (sym (outside_so (verdict t.machine p) (stage_at t.stages p)) ∙ (ap is_outside (sym (ap (λ y. standing_of y p) s.seen ∙ stands_seen t p)) ∙ out))) in
    rests_quiet x rests (sym (starved_seen w p s) ∙ plain)

pub starves_for_cause : (w : World) → StarvesForCause w
starves_for_cause w p zero v out plain h = subst (λ x. Stays Steps standing_of (λ y. y.state.starved) p x) (sym h) (record {
  unstarved = plain;
  patient = λ m a x s is peace e. (let few = (own_step w m a x p s is (begins_quiet w p s.did.stood out plain) peace).1 in true≢false (ap refuses_many (sym e) ∙ few));
})
starves_for_cause w p (suc steps) v out plain h =
    let stood : Stands w = h.3.did.stood in
    let on = stays_quiet p (suc steps) w v stood (begins_quiet w p stood out plain) h in
    record {
      unstarved = starved_seen v p on.0 ∙ on.1.plain;
      patient = λ m a x s is peace e. (let few = (own_step v m a x p s is on.1 peace).1 in true≢false (ap refuses_many (sym e) ∙ few));
    }
