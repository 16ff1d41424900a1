-- A possible answer that isn't Stepped leaves its party outside, in any World that ends calls properly.
use Rattle.world_base.proofs.Prelude.{◌≡◌, ◌≢◌, ℕ, Bool, true, Option, Some, None, refl, ap, sym, ◌∙◌, Answer, Call, Inputs, Move, Go, Rest, Within, Standing, inside, outside, call_in, is_outside, is_possible, decision, StandsAfter, Runs, going_on, moves_of, answers_of, call_of, IsPossible, EndsProperly, beginning}
use Rattle.world_base.specs.Standings.{rest_after}
use Rattle.world_base.proofs.Equations.{some_eq, none_some}
use Rattle.world_base.proofs.of_any_world.Runs.{Onward, along}

by_answer : (ready : Rest) (u : Within) (b : Answer) (t : Standing) → b ≢ Answer.Stepped → StandsAfter ready u b t → is_outside t ≡ true
by_answer ready u Answer.Stepped t e s = absurd (e refl)
by_answer ready u _ t e s = ap is_outside s.1

pub ends_outside : {W : Type 0} (standing_of : W → ℕ → Standing) (knows : W → ℕ → Call → Bool) (ready : Rest) (w : W) (m : Move) (a : Answer) (v : W)
    → IsPossible standing_of knows w m a v → EndsProperly standing_of knows ready w m a v → a ≢ Answer.Stepped → is_possible a ≡ true → is_outside (standing_of v m.party) ≡ true
ends_outside standing_of knows ready w m a v only proper ended possible = by_call (call_of standing_of knows w m) refl where
  by_call : (o : Option Within) → call_of standing_of knows w m ≡ o → is_outside (standing_of v m.party) ≡ true
  by_call None e = let no = only.exactly.1 e in absurd (cc)
  by_call (Some u) e = by_answer ready u a (standing_of v m.party) ended (proper.stands u e)

-- and where it stands
stands_at : (ready : Rest) (u : Within) (b : Answer) (t : Standing) → b ≢ Answer.Stepped → StandsAfter ready u b t → (r : Rest) × (t ≡ outside r)
stands_at ready u Answer.Stepped t e s = absurd (e refl)
stands_at ready u b t e s = (rest_after ready u b, s.1)

pub ends_at : {W : Type 0} (standing_of : W → ℕ → Standing) (knows : W → ℕ → Call → Bool) (ready : Rest) (w : W) (m : Move) (a : Answer) (v : W)
    → IsPossible standing_of knows w m a v → EndsProperly standing_of knows ready w m a v → a ≢ Answer.Stepped → is_possible a ≡ true → (r : Rest) × (standing_of v m.party ≡ outside r)
ends_at standing_of knows ready w m a v only proper ended possible = by_call (call_of standing_of knows w m) refl where
  by_call : (o : Option Within) → call_of standing_of knows w m ≡ o → (r : Rest) × (standing_of v m.party ≡ outside r)
  by_call None e = let no = only.exactly.1 e in absurd (cc)
  by_call (Some u) e = stands_at ready u a (standing_of v m.party) ended (proper.stands u e)

-- A call whose first step decides it on an answer ends with that answer, in any World that ends calls properly.
module _ {W Known : Type 0} (Steps : W → Move → Answer → W → Type 0) (learn : Known → Move → Answer → Known) (IsWell : Known → W → Type 0) (standing_of : W → ℕ → Standing) (knows : W → ℕ → Call → Bool) (ready : Rest)
    (possible : (w : W) (m : Move) (a : Answer) (v : W) → Steps w m a v → IsPossible standing_of knows w m a v) (ends : (w : W) (m : Move) (a : Answer) (v : W) → Steps w m a v → EndsProperly standing_of knows ready w m a v) (p : ℕ) (i : Inputs) (b : Answer) where
  abbrev IsGoing : W → Type 0
  IsGoing x = (u : Within) × (standing_of x p ≡ inside u (Some b))

  pub record EndsOn (a : Answer) (x : W) : Type 0 where
    pub answer : a ≡ b
    pub within : Within
    pub stands : StandsAfter ready within a (standing_of x p)

  decided_so : (u : Within) (c : Answer) (x : W) → StandsAfter ready u c (standing_of x p) → decision c (standing_of x p) ≡ Some b → Onward IsGoing EndsOn c x
  decided_so u Answer.Stepped x s d = record { going = λ e. (u, s.1 ∙ ap (inside u) (sym (ap (decision Answer.Stepped) s.1) ∙ d)); ended = λ n. absurd (n refl) }
  decided_so u Answer.Pending x s d = record { going = λ e. absurd (cc (e)); ended = λ n. record { answer = some_eq (sym (ap (decision Answer.Pending) s.1) ∙ d); within = u; stands = s } }
  decided_so u Answer.Waiting x s d = record { going = λ e. absurd (cc (e)); ended = λ n. record { answer = some_eq (sym (ap (decision Answer.Waiting) s.1) ∙ d); within = u; stands = s } }
  decided_so u (Answer.Ready got) x s d = record { going = λ e. absurd (cc (e)); ended = λ n. record { answer = some_eq (sym (ap (decision (Answer.Ready got)) s.1) ∙ d); within = u; stands = s } }
  decided_so u (Answer.Granted got) x s d = record { going = λ e. absurd (cc (e)); ended = λ n. record { answer = some_eq (sym (ap (decision (Answer.Granted got)) s.1) ∙ d); within = u; stands = s } }
  decided_so u Answer.None x s d = record { going = λ e. absurd (cc (e)); ended = λ n. record { answer = some_eq (sym (ap (decision Answer.None) s.1) ∙ d); within = u; stands = s } }
  decided_so u Answer.GivenBack x s d = record { going = λ e. absurd (cc (e)); ended = λ n. record { answer = some_eq (sym (ap (decision Answer.GivenBack) s.1) ∙ d); within = u; stands = s } }
  decided_so u (Answer.Refused n) x s d = record { going = λ e. absurd (cc (e)); ended = λ n'. record { answer = some_eq (sym (ap (decision (Answer.Refused n)) s.1) ∙ d); within = u; stands = s } }
  decided_so u Answer.NotPossible x s d = record { going = λ e. absurd (cc (e)); ended = λ n. record { answer = some_eq (sym (ap (decision Answer.NotPossible) s.1) ∙ d); within = u; stands = s } }

  is_possible_so : (o : Option Within) (u : Within) (c : Answer) → o ≡ Some u → (c ≡ Answer.NotPossible → o ≡ None) → is_possible c ≡ true
  is_possible_so o u Answer.NotPossible e only = absurd (none_some (sym (only refl) ∙ e))
  is_possible_so o u _ e only = refl

  goes_on : (x : W) (c : Answer) (y : W) → IsGoing x → Steps x (going_on p i) c y → Onward IsGoing EndsOn c y
  goes_on x c y g s =
      let called : call_of standing_of knows x (going_on p i) ≡ Some g.0 = ap (λ z. call_in (knows x p) z (Go i)) g.1 in
      let is = is_possible_so (call_of standing_of knows x (going_on p i)) g.0 c called (possible x (going_on p i) c y s).exactly.0 in
      decided_so g.0 c y ((ends x (going_on p i) c y s).stands g.0 called) ((ends x (going_on p i) c y s).as_decided g.0 b g.1 is)

  pub ends_on : (known : Known) (w : W) (c : Call) (n : ℕ) (a : Answer) (v : W) (u : Within) → call_of standing_of knows w (beginning p c i) ≡ Some u → ((e : Answer) (x : W) → Steps w (beginning p c i) e x → decision e (standing_of x p) ≡ Some b)
      → a ≢ Answer.Stepped → Runs Steps learn IsWell known w (moves_of p c i n) (answers_of n a) v → EndsOn a v
  ends_on known w c n a v u called decides ended runs =
      along Steps learn IsWell p i IsGoing EndsOn goes_on known n w (beginning p c i) a v (λ e x s. decided_so u e x ((ends w (beginning p c i) e x s).stands u called) (decides e x s)) ended runs
