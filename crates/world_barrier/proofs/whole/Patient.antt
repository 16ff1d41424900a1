-- Nobody is refused for too many starved parties who isn't about to be counted.
use Rattle.world_barrier.proofs.Prelude.{◌≡◌, ℕ, true, Some, ap, sym, ◌∙◌, subst, Answer, Move, Refusal, number_of, refused, IsUndecided, none_some, Table, is_counting, course_at, Barrier, DecidesOn, IsCause, World, standing_of, Steps, view_of}
use Rattle.world_base.specs.Standings.{decision}
use Rattle.world_barrier.proofs.step.Acting as acting
use Rattle.world_barrier.proofs.step.Stepping.{by_step}

abbrev pub starved_refusal : Answer
starved_refusal = refused Refusal.Starved

undecided_cause : (m : Move) (old new : World) (r : Refusal) → number_of Refusal.Starved ≡ number_of r → IsCause old m new r → IsUndecided (standing_of old m.party)
undecided_cause m old new Refusal.Starved e h = h.undecided
undecided_cause m old new _ e h = absurd (cc e)

-- a step that leaves its party as it stood decides nothing
decides_nothing : (w : World) (p : ℕ) (a : Answer) → IsUndecided (standing_of w p) → decision a (standing_of w p) ≡ Some starved_refusal → ⊥
decides_nothing w p a at d = none_some (sym (ap (decision a) at.1) ∙ d)

module _ (x v : World) (m : Move) (a : Answer) (s : Steps x m a v) (d : DecidesOn x m a v starved_refusal) where
  why : (r : Refusal) × (number_of Refusal.Starved ≡ number_of r) × IsCause x m v r
  why = s.legal.refused_for_cause.cause (number_of Refusal.Starved) d

  pub midway : IsUndecided (standing_of x m.party)
  midway = undecided_cause m x v why.0 why.1 why.2

  abbrev Counts : Answer → Table Barrier → Type 0
  Counts b y = IsUndecided (standing_of (view_of x.behind) m.party) → DecidesOn (view_of x.behind) m b (view_of y) starved_refusal → is_counting (course_at x.behind.machine.lock.courses m.party) ≡ true

  pub counting : is_counting (course_at x.behind.machine.lock.courses m.party) ≡ true
  counting =
      let D : World → World → Type 0 = λ y z. DecidesOn y m a z starved_refusal in
      let Left : World → Type 0 = λ y. D y v in
      let U : World → Type 0 = λ y. IsUndecided (standing_of y m.party) in
      by_step x.behind v.behind m a s.did.stood.laws s.did.stood.fits s.did.stands.laws s.did.stands.fits Counts
      (λ e at y. absurd (decides_nothing (view_of x.behind) m.party Answer.NotPossible at y.1))
      (λ w e f at y. absurd (decides_nothing (view_of x.behind) m.party (refused Refusal.Finished) at y.1))
      (λ w k at y. acting.counts x.behind v.behind m a w k y)
      s.did.step (subst U s.did.stood.seen midway) (subst (D (view_of x.behind)) s.did.stands.seen (subst Left s.did.stood.seen d))
