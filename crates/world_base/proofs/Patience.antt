-- Whoever meets nobody starved at its own steps, and hasn't waited for too long, isn't starved nor refused so, where such a step counts nobody.
use Rattle.world_base.proofs.Prelude.{◌≡◌, ◌≢◌, ℕ, zero, suc, Bool, true, false, List, Some, ap, sym, ◌∙◌, subst, refl, Answer, Call, Move, Rest, Within, Standing, inside, is_outside, is_possible, decision, IsPossible, EndsProperly}
use Rattle.std.proofs.Math.Decide.{ℕ_discrete}
use Rattle.lock_program.specs.declared.refusal.Refusal.TheVariants.{Starved}
use Rattle.world_base.specs.Frame.{DecidesOn}
use Rattle.world_base.specs.Patience.{IsInPeace, StepsInPeace, Stays, StarvesForCause}
use Rattle.world_base.specs.Rosters.{how_many, is_on}
use Rattle.world_base.specs.Standings.{IsUndecided, inputs_of, refused}
use Rattle.world_base.proofs.Equations.{outside_says}
use Rattle.world_base.proofs.of_any_world.Endings.{ends_outside}
use Rattle.world_base.proofs.of_any_world.Unsaid.{never}

-- who is inside a call isn't outside
inside_apart : (s : Standing) (u : Within) (b : Answer) → is_outside s ≡ true → s ≡ inside u (Some b) → ⊥
inside_apart s u b out at = let in_call : is_outside (inside u (Some b)) ≡ true = ap is_outside (sym at) ∙ out in cc in_call

-- `Calm` says of a party that it isn't counted, nor about to be: so it stands outside every call, where it isn't starved.
module _ {W : Type 0} (Steps : W → Move → Answer → W → Type 0) (standing_of : W → ℕ → Standing) (starved : W → List Bool) (knows : W → ℕ → Call → Bool) (ready : Rest) (Calm : ℕ → W → Type 0)
    (possible : (w : W) (m : Move) (a : Answer) (v : W) → Steps w m a v → IsPossible standing_of knows w m a v)
    (ends : (w : W) (m : Move) (a : Answer) (v : W) → Steps w m a v → EndsProperly standing_of knows ready w m a v)
    (others : (w : W) (m : Move) (a : Answer) (v : W) → Steps w m a v → (q : ℕ) → q ≢ m.party → standing_of v q ≡ standing_of w q)
    (midway : (w : W) (m : Move) (a : Answer) (v : W) → Steps w m a v → DecidesOn standing_of w m a v (refused Starved) → IsUndecided (standing_of w m.party))
    (counts : (w : W) (m : Move) (a : Answer) (v : W) → Steps w m a v → DecidesOn standing_of w m a v (refused Starved) → Calm m.party w → ⊥)
    (own : (w : W) (m : Move) (a : Answer) (v : W) → Steps w m a v → Calm m.party w → how_many (starved w) ≡ 0 → (inputs_of m.what).starving ≡ false → Calm m.party v)
    (keeps : (w : W) (m : Move) (a : Answer) (v : W) → Steps w m a v → (q : ℕ) → q ≢ m.party → Calm q w → Calm q v)
    (rests : (w : W) (m : Move) (a : Answer) (v : W) → Steps w m a v → (q : ℕ) → is_outside (standing_of w q) ≡ true → is_on (starved w) q ≡ false → Calm q w)
    (unstarved : (w : W) (m : Move) (a : Answer) (v : W) → Steps w m a v → (q : ℕ) → Calm q v → is_on (starved v) q ≡ false) where
  -- it isn't to be refused so either
  record Quiet (p : ℕ) (w : W) : Type 0 where
    calm : Calm p w
    unsaid : (u : Within) → standing_of w p ≡ inside u (Some (refused Starved)) → ⊥
    plain : is_on (starved w) p ≡ false

  own_at : (w : W) (m : Move) (a : Answer) (v : W) → Steps w m a v → how_many (starved w) ≡ 0 → (inputs_of m.what).starving ≡ false → Quiet m.party w → Quiet m.party v × (a ≢ refused Starved)
  own_at w m a v s none patient k = (record { calm = now; unsaid = λ u at. undecided (ap (decision a) at); plain = unstarved w m a v s m.party now }, λ e. undecided (said e)) where
    now : Calm m.party v
    now = own w m a v s k.calm none patient

    undecided : decision a (standing_of v m.party) ≡ Some (refused Starved) → ⊥
    undecided = never Steps standing_of knows ready possible ends (refused Starved) refl midway w m a v s (λ d. counts w m a v s d k.calm) k.unsaid

    said : a ≡ refused Starved → decision a (standing_of v m.party) ≡ Some (refused Starved)
    said e = outside_says (standing_of v m.party) a (ends_outside standing_of knows ready w m a v (possible w m a v s) (ends w m a v s) (λ g. (let not : Answer.Stepped ≡ refused Starved = sym g ∙ e in cc not)) (ap is_possible e)) ∙ ap Some e

  -- a step of the party, whoever it is named by
  own_step : (w : W) (m : Move) (a : Answer) (v : W) (p : ℕ) → Steps w m a v → m.party ≡ p → IsInPeace Steps standing_of starved p w m → Quiet p w → Quiet p v × (a ≢ refused Starved)
  own_step w m a v p s is peace = let P : ℕ → Type 0 = λ q. Quiet q w → Quiet q v × (a ≢ refused Starved) in subst P is (own_at w m a v s (peace is).0 (peace is).1)

  step : (w : W) (m : Move) (a : Answer) (v : W) (p : ℕ) → Steps w m a v → IsInPeace Steps standing_of starved p w m → Quiet p w → Quiet p v
  step w m a v p s peace k = elim (ℕ_discrete m.party p) as (λ _. Quiet p v) [
    | yes is ↦ (own_step w m a v p s is peace k).0
    | no is ↦ (
        let apart : p ≢ m.party = λ e. is (sym e) in
        let now : Calm p v = keeps w m a v s p apart k.calm in
        record { calm = now; unsaid = λ u at. k.unsaid u (sym (others w m a v s p apart) ∙ at); plain = unstarved w m a v s p now })
  ]

  begins : (w : W) (m : Move) (a : Answer) (v : W) (p : ℕ) → Steps w m a v → is_outside (standing_of w p) ≡ true → is_on (starved w) p ≡ false → Quiet p w
  begins w m a v p s out plain = record { calm = rests w m a v s p out plain; unsaid = λ u at. inside_apart (standing_of w p) u (refused Starved) out at; plain = plain }

  stays : (p steps : ℕ) (w v : W) → Quiet p w → StepsInPeace Steps standing_of starved p steps w v → Quiet p v
  stays p zero w v k h = subst (Quiet p) (sym h) k
  stays p (suc steps) w v k h = stays p steps h.2 v (step w h.0 h.1 h.2 p h.3 h.4 k) h.5

  ends_so : (p : ℕ) (v : W) → Quiet p v → Stays Steps standing_of starved p v
  ends_so p v k = record { unstarved = k.plain; patient = λ m a x s is peace. (own_step v m a x p s is peace k).1 }

  pub starves_for_cause : (w : W) → StarvesForCause Steps standing_of starved w
  starves_for_cause w p zero v out plain h = subst (Stays Steps standing_of starved p) (sym h) (record { unstarved = plain; patient = λ m a x s is peace. (own_step w m a x p s is peace (begins w m a x p s out plain)).1 })
  starves_for_cause w p (suc steps) v out plain h = ends_so p v (stays p (suc steps) w v (begins w h.0 h.1 h.2 p h.3 out plain) h)
