-- Nobody is refused for too many starved parties who isn't about to be counted.
use Rattle.world_rwlock.proofs.Prelude.{◌≡◌, ℕ, Bool, true, Option, Some, None, ap, sym, ◌∙◌, subst, Answer, Call, Move, What, Begin, Go, Refusal, Stage, Outside, Inside, Forgotten, Within, put_in, number_of, inside, refused, IsUndecided, none_some, stage_at, call_at, TurnCourse, is_counting, turn_at, Place, place_at, DecidesOn, IsCause, World, standing_of, Stands, Moved as Steps, standing_at, view_of}
use Rattle.world_base.specs.Standings.{decision}
use Rattle.world_rwlock.proofs.bound.Alone.{laws}
use Rattle.world_rwlock.proofs.step.Acting.{Acting, Way, impossible, over, puts, acts, way}
use Rattle.world_rwlock.proofs.step.Acting as acting
use Rattle.world_rwlock.proofs.step.Idle.{stood}

abbrev pub starved_refusal : Answer
starved_refusal = refused Refusal.Starved

-- a party that stands inside a call does so at its stage
inside_stage : (v : ℕ) (s : Stage) (x : Place) (t : TurnCourse) (u : Within) (d : Option Answer) → standing_at v s x t ≡ inside u d → s ≡ Inside u
inside_stage v (Outside r) x t u d e = absurd (cc e)
inside_stage v Forgotten x t u d e = absurd (cc e)
inside_stage v (Inside w) x t u d e = let same : w ≡ u = cc e in ap Inside same

-- and puts nothing there
puts_outside : (knows : Call → Bool) (s : Stage) (u : Within) (what : What) (n : ℕ) (w : Within) → s ≡ Inside u → put_in what ≡ Some n → call_at knows s what ≡ Some w → ⊥
puts_outside knows s u (Begin c i) n w is e f = let C : Stage → Type 0 = λ z. call_at knows z (Begin c i) ≡ Some w in none_some (subst C is f)
puts_outside knows s u (Go i) n w is e f = none_some e

undecided_cause : (m : Move) (old new : World) (r : Refusal) → number_of Refusal.Starved ≡ number_of r → IsCause old m new r → IsUndecided (standing_of old m.party)
undecided_cause m old new Refusal.Starved e h = h.3
undecided_cause m old new _ e h = absurd (cc e)

-- a step that leaves its party as it stood decides nothing
decides_nothing : (x v : World) (p : ℕ) (u : Within) (a : Answer) → Stands x → Stands v → standing_of x p ≡ inside u None → v.behind ≡ x.behind → decision a (standing_of v p) ≡ Some starved_refusal → ⊥
decides_nothing x v p u a sx sv at same d =
    let stays : standing_of v p ≡ inside u None = ap (λ z. standing_of z p) (sv.seen ∙ (ap view_of same ∙ sym sx.seen)) ∙ at in
    none_some (sym (ap (decision a) stays) ∙ d)

module _ (x v : World) (m : Move) (a : Answer) (s : Steps x m a v) (d : DecidesOn x m a v starved_refusal) where
  why : (r : Refusal) × (number_of Refusal.Starved ≡ number_of r) × IsCause x m v r
  why = s.legal.refused_for_cause.cause (number_of Refusal.Starved) d

  pub midway : IsUndecided (standing_of x m.party)
  midway = undecided_cause m x v why.0 why.1 why.2

  by_way : Way x.behind v.behind m a → is_counting (turn_at x.behind.machine.lock.turn.courses m.party) ≡ true
  by_way (impossible e ea eu) = absurd (decides_nothing x v m.party midway.0 a s.did.stood s.did.stands midway.1 eu d.1)
  by_way (over w e f ea eu) = absurd (decides_nothing x v m.party midway.0 a s.did.stood s.did.stands midway.1 eu d.1)
  by_way (puts w n in_table o e ea eu) =
      let t = x.behind in
      let there : standing_of (view_of t) m.party ≡ standing_at t.machine.value (stage_at t.stages m.party) (place_at t.machine.lock.places m.party) (turn_at t.machine.lock.turn.courses m.party) = stood t m.party (laws x s.did.stood) in
      let is = inside_stage t.machine.value (stage_at t.stages m.party) (place_at t.machine.lock.places m.party) (turn_at t.machine.lock.turn.courses m.party) midway.0 None (sym there ∙ (ap (λ z. standing_of z m.party) (sym s.did.stood.seen) ∙ midway.1)) in
      absurd (puts_outside _ (stage_at t.stages m.party) midway.0 m.what n w is o e)
  by_way (acts w c) =
      let D : World → World → Type 0 = λ y z. DecidesOn y m a z starved_refusal in
      let Left : World → Type 0 = λ y. D y v in
      acting.counts x.behind v.behind m a w c (subst (D (view_of x.behind)) s.did.stands.seen (subst Left s.did.stood.seen d))

  pub counting : is_counting (turn_at x.behind.machine.lock.turn.courses m.party) ≡ true
  counting = by_way (way x.behind v.behind m a (laws x s.did.stood) (laws v s.did.stands) s.did.step)
