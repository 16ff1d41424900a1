-- A call that no step decides on some answer doesn't end with it, in any World that ends calls properly.
use Rattle.world_base.proofs.Prelude.{◌≡◌, ◌≢◌, ℕ, Bool, true, false, Some, None, refl, ap, sym, ◌∙◌, subst, Answer, Call, Inputs, Move, Rest, Within, Standing, inside, is_outside, is_decided, is_possible, decision, Runs, going_on, moves_of, answers_of, IsPossible, EndsProperly, beginning}
use Rattle.std.proofs.lemmas.Bool.{false≢true}
use Rattle.world_base.specs.Frame.{DecidesOn}
use Rattle.world_base.specs.Standings.{IsUndecided}
use Rattle.world_base.proofs.Equations.{some_eq, none_some, decided_inside, outside_says, inside_begins}
use Rattle.world_base.proofs.of_any_world.Endings.{ends_outside}
use Rattle.world_base.proofs.of_any_world.Runs.{Onward, along}

-- on this answer a step decides only a call that is begun
module _ {W : Type 0} (Steps : W → Move → Answer → W → Type 0) (standing_of : W → ℕ → Standing) (knows : W → ℕ → Call → Bool) (ready : Rest)
    (possible : (x : W) (m : Move) (a : Answer) (v : W) → Steps x m a v → IsPossible standing_of knows x m a v) (ends : (x : W) (m : Move) (a : Answer) (v : W) → Steps x m a v → EndsProperly standing_of knows ready x m a v)
    (b : Answer) (can_be : is_possible b ≡ true) (midway : (x : W) (m : Move) (a : Answer) (v : W) → Steps x m a v → DecidesOn standing_of x m a v b → IsUndecided (standing_of x m.party)) where
  -- the party's call isn't decided on it
  abbrev Undone : ℕ → W → Type 0
  Undone p x = (u : Within) → standing_of x p ≡ inside u (Some b) → ⊥

  impossible_is : (a : Answer) → is_possible a ≡ false → a ≡ Answer.NotPossible
  impossible_is Answer.NotPossible h = refl
  impossible_is _ h = absurd (cc h)

  -- nor is it after a step that doesn't decide it so
  pub never : (x : W) (m : Move) (a : Answer) (v : W) → Steps x m a v → (DecidesOn standing_of x m a v b → ⊥) → Undone m.party x → decision a (standing_of v m.party) ≡ Some b → ⊥
  never x m a v s decides_not undone d = by_decided (is_decided (standing_of x m.party)) refl where
    same : (e : Answer) (u : Within) → standing_of x m.party ≡ inside u (Some e) → e ≡ b → ⊥
    same e u at is = undone u (at ∙ ap (λ y. inside u (Some y)) is)

    was_decided : (u : Within) (e : Answer) → standing_of x m.party ≡ inside u (Some e) → (c : Bool) → is_possible a ≡ c → ⊥
    was_decided u e at true can = same e u at (some_eq (sym ((ends x m a v s).as_decided u e at can) ∙ d))
    was_decided u e at false cannot = same e u at (some_eq (sym (ap (decision a) (ap (λ z. standing_of z m.party) ((possible x m a v s).unchanged (impossible_is a cannot)) ∙ at)) ∙ d))

    by_decided : (c : Bool) → is_decided (standing_of x m.party) ≡ c → ⊥
    by_decided true is = let at = decided_inside (standing_of x m.party) is in was_decided at.0 at.1 at.2 (is_possible a) refl
    by_decided false is = decides_not (is, d)

  -- while this holds, the party's further steps don't decide it so
  module _ (p : ℕ) (i : Inputs) (Going : W → Type 0) (AtEnd : Answer → W → Type 0) (onward : (x : W) (a : Answer) (v : W) → Going x → Steps x (going_on p i) a v → Onward Going AtEnd a v)
      (decides_not : (x : W) (a : Answer) (v : W) → Going x → Steps x (going_on p i) a v → DecidesOn standing_of x (going_on p i) a v b → ⊥) where
    abbrev Goes : W → Type 0
    Goes y = Going y × Undone p y

    abbrev Unsaid : Answer → W → Type 0
    Unsaid a y = a ≡ b → ⊥

    said : (x v : W) (m : Move) (a : Answer) → m.party ≡ p → Steps x m a v → (decision a (standing_of v p) ≡ Some b → ⊥) → a ≢ Answer.Stepped → Unsaid a v
    said x v m a is s f ended e =
        let out : is_outside (standing_of v p) ≡ true = subst (λ (q : ℕ). is_outside (standing_of v q) ≡ true) is (ends_outside standing_of knows ready x m a v (possible x m a v s) (ends x m a v s) ended (ap is_possible e ∙ can_be)) in
        f (outside_says (standing_of v p) a out ∙ ap Some e)

    left : (x v : W) (m : Move) (a : Answer) → m.party ≡ p → Steps x m a v → Onward Going AtEnd a v → (decision a (standing_of v p) ≡ Some b → ⊥) → Onward Goes Unsaid a v
    left x v m a is s o f = record { going = λ e. (o.going e, λ u at. f (ap (decision a) at)); ended = said x v m a is s f }

    goes_on : (x : W) (a : Answer) (v : W) → Goes x → Steps x (going_on p i) a v → Onward Goes Unsaid a v
    goes_on x a v g s = left x v (going_on p i) a refl s (onward x a v g.0 s) (never x (going_on p i) a v s (decides_not x a v g.0 s) g.1)

    -- nor does the first step of a call, which isn't begun before
    first_never : (c : Call) (x : W) (a : Answer) (v : W) → Steps x (beginning p c i) a v → is_decided (standing_of x p) ≡ false → decision a (standing_of v p) ≡ Some b → ⊥
    first_never c x a v s fresh d =
        let at = midway x (beginning p c i) a v s (fresh, d) in
        let cannot : a ≡ Answer.NotPossible = (possible x (beginning p c i) a v s).exactly.1 (inside_begins (knows x p) at.0 None (standing_of x p) c i at.1) in
        let stays : standing_of v p ≡ inside at.0 None = ap (λ z. standing_of z p) ((possible x (beginning p c i) a v s).unchanged cannot) ∙ at.1 in
        none_some (sym (ap (decision a) stays) ∙ d)

    begins : (c : Call) (x : W) (a : Answer) (v : W) → Steps x (beginning p c i) a v → Onward Going AtEnd a v → Onward Goes Unsaid a v
    begins c x a v s o = by_decided (is_decided (standing_of x p)) refl where
      by_decided : (d : Bool) → is_decided (standing_of x p) ≡ d → Onward Goes Unsaid a v
      by_decided true is =
          let at = decided_inside (standing_of x p) is in
          let cannot : a ≡ Answer.NotPossible = (possible x (beginning p c i) a v s).exactly.1 (inside_begins (knows x p) at.0 (Some at.1) (standing_of x p) c i at.2) in
          record { going = λ e. (let z = sym cannot ∙ e in absurd (cc z)); ended = λ ended e. false≢true (ap is_possible (sym cannot ∙ e) ∙ can_be) }
      by_decided false is = left x v (beginning p c i) a refl s o (first_never c x a v s is)

    pub unsaid : {Known : Type 0} (learn : Known → Move → Answer → Known) (IsWell : Known → W → Type 0) (known : Known) (w : W) (c : Call) (n : ℕ) (a : Answer) (v : W)
        → ((e : Answer) (x : W) → Steps w (beginning p c i) e x → Onward Going AtEnd e x) → a ≢ Answer.Stepped → Runs Steps learn IsWell known w (moves_of p c i n) (answers_of n a) v → a ≢ b
    unsaid learn IsWell known w c n a v first ended runs =
        along Steps learn IsWell p i Goes Unsaid goes_on known n w (beginning p c i) a v (λ e x s. begins c w e x s (first e x s)) ended runs
