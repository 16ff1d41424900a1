-- As many waits are ready as a leader's along a run as generations are finished in it.
use Rattle.world_barrier.proofs.Prelude.{◌≡◌, ℕ, ◌+◌, ◌⊎◌, inl, inr, if◌then◌else◌, Bool, true, false, List, [], ◌∷◌, Option, Some, refl, arith, ap, sym, ◌∙◌, subst, Answer, Got, Move, Account, accounts_after, is_decided, Effect, nothing, changes, does, ListName, Leads, generations_of, World, standing_of, Change, takes, releases, starves, recovers, arrives, arrivals_after, Legal, Runs, is_leaders, leaders_in, leaders}
use Rattle.world_base.specs.Standings.{decision}
use Rattle.world_barrier.proofs.Numbers.{next_generation, same_generation, leads_or_follows}

one_or_none : (d : Effect Change ListName) (k : ℕ) → (arrivals_after d k ≡ k) ⊎ (arrivals_after d k ≡ k + 1)
one_or_none nothing k = inl refl
one_or_none (changes takes) k = inl refl
one_or_none (changes releases) k = inl refl
one_or_none (changes starves) k = inl refl
one_or_none (changes recovers) k = inl refl
one_or_none (changes arrives) k = inr refl
one_or_none (does list f) k = inl refl

leads_so : (o : Option Answer) → is_leaders o ≡ true → o ≡ Some (Answer.Ready (Got.Leader true))
leads_so (Some (Answer.Ready (Got.Leader true))) h = refl
leads_so _ h = absurd (cc h)

none_leads : (decided leads : Bool) → (decided ≡ false → leads ≡ true → ⊥) → Path ℕ (if decided then 0 else (if leads then 1 else 0)) 0
none_leads true leads never = refl
none_leads false true never = absurd (never refl refl)
none_leads false false never = refl

one_leads : (decided leads : Bool) → decided ≡ false → leads ≡ true → Path ℕ (if decided then 0 else (if leads then 1 else 0)) 1
one_leads false true d l = refl
one_leads true leads d l = absurd (cc d)
one_leads false false d l = absurd (cc l)

module _ (w : World) (m : Move) (a : Answer) (v : World) (l : Legal w m a v) where
  abbrev these : ℕ
  these = leaders_in (standing_of w m.party) a (standing_of v m.party)

  abbrev Finishes : Type 0
  Finishes = generations_of v.size v.arrivals ≡ generations_of w.size w.arrivals + these

  -- a leader's answer is decided where an arrival that leads has just been counted
  none : ((v.arrivals ≡ w.arrivals + 1) → Leads v.size v.arrivals → ⊥) → these ≡ 0
  none never = none_leads (is_decided (standing_of w m.party)) (is_leaders (decision a (standing_of v m.party)))
      (λ d h. (let carried = l.carries.ready (Got.Leader true) (d, leads_so (decision a (standing_of v m.party)) h) in never carried.0.number carried.1))

  same_size : (k : ℕ) → generations_of v.size k ≡ generations_of w.size k
  same_size k = ap (λ n. generations_of n k) l.one_change.size

  counted : v.arrivals ≡ w.arrivals + 1 → Leads w.size (w.arrivals + 1) ⊎ (Leads w.size (w.arrivals + 1) → ⊥) → Finishes
  counted e (inl leads) =
      let so : Leads v.size v.arrivals = subst (λ n. Leads n v.arrivals) (sym l.one_change.size) (subst (Leads w.size) (sym e) leads) in
      let decides = l.carries.led e so in
      let one : these ≡ 1 = one_leads (is_decided (standing_of w m.party)) (is_leaders (decision a (standing_of v m.party))) decides.0 (ap is_leaders decides.1) in
      let more : generations_of v.size v.arrivals ≡ generations_of w.size w.arrivals + 1 = same_size v.arrivals ∙ (ap (generations_of w.size) e ∙ next_generation w.size w.arrivals leads) in
      omega (arith, more, one)
  counted e (inr follows) =
      let zero : these ≡ 0 = none (λ n leads. follows (subst (Leads w.size) e (subst (λ n. Leads n v.arrivals) l.one_change.size leads))) in
      let same : generations_of v.size v.arrivals ≡ generations_of w.size w.arrivals = same_size v.arrivals ∙ (ap (generations_of w.size) e ∙ same_generation w.size w.arrivals follows) in
      omega (arith, same, zero)

  by_effect : (v.arrivals ≡ w.arrivals) ⊎ (v.arrivals ≡ w.arrivals + 1) → Finishes
  by_effect (inl e) =
      let zero : these ≡ 0 = none (λ n leads. omega (arith, e, n)) in
      let same : generations_of v.size v.arrivals ≡ generations_of w.size w.arrivals = same_size v.arrivals ∙ ap (generations_of w.size) e in
      omega (arith, same, zero)
  by_effect (inr e) = counted e (leads_or_follows w.size w.arrivals)

  step : (arrivals_after l.one_change.effect w.arrivals ≡ w.arrivals) ⊎ (arrivals_after l.one_change.effect w.arrivals ≡ w.arrivals + 1) → Finishes
  step (inl e) = by_effect (inl (l.one_change.arrivals ∙ e))
  step (inr e) = by_effect (inr (l.one_change.arrivals ∙ e))

  finishes : Finishes
  finishes = step (one_or_none l.one_change.effect w.arrivals)

pub as_many : (known : ℕ → Account) (w : World) (ms : List Move) (answers : List Answer) (v : World) (run : Runs known w ms answers v) → generations_of v.size v.arrivals ≡ generations_of w.size w.arrivals + leaders known w ms answers v run
as_many known w [] [] v run = let same : generations_of v.size v.arrivals ≡ generations_of w.size w.arrivals = ap (λ x. generations_of x.size x.arrivals) run in omega (arith, same)
as_many known w [] (a ∷ more) v run = absurd run
as_many known w (m ∷ ms) [] v run = absurd run
as_many known w (m ∷ ms) (a ∷ more) v run =
    let now = finishes w m a run.0 run.1.legal in
    let later = as_many (accounts_after known m a) run.0 ms more v run.3 in
    omega (arith, now, later)
