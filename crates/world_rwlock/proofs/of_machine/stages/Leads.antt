-- Where a step in the turn leads its party there.
use Rattle.world_rwlock.proofs.Prelude.{◌≡◌, ◌≢◌, ℕ, Bool, true, false, length, refl, ap, arith, TurnCourse, Takes, Tries, Releases, Cancels, is_out, TurnStep, End, Mutex, turn_at, TakenFairly, Place, EnterTurn, WaitTurn, TakeTurn, TryTurn, CancelTurn, CancellingTurn, ReleaseTurn, ReleasingTurn, Action, Found, Turn, action_of, fits_turn, OnTurn}

-- the action of this place is a step in the turn
abbrev pub steps_in_turn : Place → Bool
steps_in_turn (EnterTurn p) = true
steps_in_turn (WaitTurn p) = true
steps_in_turn (TakeTurn p) = true
steps_in_turn (TryTurn p) = true
steps_in_turn CancelTurn = true
steps_in_turn CancellingTurn = true
steps_in_turn (ReleaseTurn e) = true
steps_in_turn (ReleasingTurn e) = true
steps_in_turn _ = false

-- a release ends with its second action
abbrev pub Ends : TurnStep → TurnCourse → Type 0
Ends (TurnStep.End End.GivenBack) to = is_out to ≡ true
Ends _ to = ⊥

-- what a step at this place finds in the turn, and where it leads there
abbrev pub Led : Place → Found → TurnCourse → Type 0
Led (EnterTurn p) (Turn n) to = Takes n to
Led (EnterTurn p) _ to = ⊥
Led (WaitTurn p) (Turn n) to = Takes n to
Led (WaitTurn p) _ to = ⊥
Led (TakeTurn p) (Turn n) to = Takes n to
Led (TakeTurn p) _ to = ⊥
Led (TryTurn p) (Turn n) to = Tries n to
Led (TryTurn p) _ to = ⊥
Led CancelTurn (Turn n) to = Cancels n to
Led CancelTurn _ to = ⊥
Led CancellingTurn (Turn n) to = Cancels n to
Led CancellingTurn _ to = ⊥
Led (ReleaseTurn e) (Turn n) to = Releases n to
Led (ReleaseTurn e) _ to = ⊥
Led (ReleasingTurn e) (Turn n) to = Ends n to
Led (ReleasingTurn e) _ to = ⊥
Led _ f to = Unit {0}

module _ (memory starving : Bool) (p : ℕ) (t u : Mutex) where
  -- a step moves none but its party in the turn
  pub turn_others : (a : Action) (f : Found) → OnTurn memory starving p a f t u → (j : ℕ) → j ≢ p → turn_at u.courses j ≡ turn_at t.courses j
  turn_others (Action.Begin c) (Turn n) e j apart = e.legal.others j apart
  turn_others (Action.Begin c) _ e j apart = absurd e
  turn_others Action.Go (Turn n) e j apart = e.legal.others j apart
  turn_others Action.Go _ e j apart = absurd e
  turn_others _ f e j apart = ap (λ t. turn_at t.courses j) e

  pub turn_length : (a : Action) (f : Found) → OnTurn memory starving p a f t u → length u.courses ≡ length t.courses
  turn_length (Action.Begin c) (Turn n) e = e.legal.parties
  turn_length (Action.Begin c) _ e = absurd e
  turn_length Action.Go (Turn n) e = e.legal.parties
  turn_length Action.Go _ e = absurd e
  turn_length _ f e = ap (λ t. length t.courses) e

  -- whoever has taken the turn took it fairly
  pub turn_fair : (a : Action) (f : Found) → OnTurn memory starving p a f t u → TakenFairly t u
  turn_fair (Action.Begin c) (Turn n) e = e.fair
  turn_fair (Action.Begin c) _ e = absurd e
  turn_fair Action.Go (Turn n) e = e.fair
  turn_fair Action.Go _ e = absurd e
  turn_fair _ f e = rw e (λ q out holds. absurd (omega (arith, out, holds)))

  -- a step that is not in the turn leaves its party there where it was
  pub turn_stays : (x : Place) (f : Found) → OnTurn memory starving p (action_of x) f t u → steps_in_turn x ≡ false → turn_at u.courses p ≡ turn_at t.courses p
  turn_stays (EnterTurn q) f e h = absurd (cc)
  turn_stays (WaitTurn q) f e h = absurd (cc)
  turn_stays (TakeTurn q) f e h = absurd (cc)
  turn_stays (TryTurn q) f e h = absurd (cc)
  turn_stays CancelTurn f e h = absurd (cc)
  turn_stays CancellingTurn f e h = absurd (cc)
  turn_stays (ReleaseTurn q) f e h = absurd (cc)
  turn_stays (ReleasingTurn q) f e h = absurd (cc)
  turn_stays _ f e h = ap (λ t. turn_at t.courses p) e

  ended : (n : TurnStep) → n ≡ TurnStep.End End.GivenBack → is_out (turn_at u.courses p) ≡ true → Ends n (turn_at u.courses p)
  ended n e o = rw e o

  pub led : (x : Place) (f : Found) → OnTurn memory starving p (action_of x) f t u → fits_turn x (turn_at t.courses p) ≡ true → Led x f (turn_at u.courses p)
  led (EnterTurn q) (Turn n) e link = e.leads
  led (EnterTurn q) _ e link = absurd e
  led (WaitTurn q) (Turn n) e link = e.leads
  led (WaitTurn q) _ e link = absurd e
  led (TakeTurn q) (Turn n) e link = e.leads.takes link
  led (TakeTurn q) _ e link = absurd e
  led (TryTurn q) (Turn n) e link = e.leads
  led (TryTurn q) _ e link = absurd e
  led CancelTurn (Turn n) e link = e.leads
  led CancelTurn _ e link = absurd e
  led CancellingTurn (Turn n) e link = e.leads.cancels link
  led CancellingTurn _ e link = absurd e
  led (ReleaseTurn q) (Turn n) e link = e.leads
  led (ReleaseTurn q) _ e link = absurd e
  led (ReleasingTurn q) (Turn n) e link = (let b = e.leads.releases link in ended n b.0 (rw b.1 refl))
  led (ReleasingTurn q) _ e link = absurd e
  led _ f e link = tt
