-- A lock is taken only where nobody holds it, and where nobody or the taker is starved.
use Rattle.world_mutex.proofs.Prelude.{◌≡◌, ℕ, ◌<◌, ◌⊎◌, inl, inr, Bool, true, false, length, refl, arith, sym, ◌∙◌, subst, get_or-set_same, get_or-set_other, set, ℕ_discrete, Place, Out, Holding, Enter, Try, Clear, CancelUncount, CancelLeave, Join, Look, Ask, Retry, PassOn, Count, JoinStarved, LookAlone, PassOnListed, AskStarved, Seize, Uncount, Leave, RefuseUncount, RefuseLeave, RefuseNotifyMemory, RefuseNotifyStarved, ReleaseNotify, Next, Found, Done, Free, Held, SomeStarved, AtLimit, NoMemory, Yes, No, action_of, place_after, holds, counted, Lock, place_at, SameRoles, Acts, Finds, holders, starved, TakenFairly}
use Rattle.world_mutex.proofs.of_machine.laws.Kept.{after}

module _ (memory : Bool) (l : Lock) where
  fair : (from : Place) (f : Found) → Finds memory (action_of from) f l → holds from ≡ 0 → holds (after from f) ≡ 1 → (holders l ≡ 0) × ((starved l ≡ 0) ⊎ (counted from ≡ 1))
  fair Out Done e h t = absurd (omega arith)
  fair Out _ e h t = absurd e
  fair Holding Done e h t = absurd (omega arith)
  fair Holding _ e h t = absurd e
  fair Enter Free e h t = (e.0, inl e.1)
  fair Enter (Held true) e h t = absurd (omega arith)
  fair Enter (Held false) e h t = absurd (omega arith)
  fair Enter SomeStarved e h t = absurd (omega arith)
  fair Enter _ e h t = absurd e
  fair Try Free e h t = (e.0, inl e.1)
  fair Try (Held true) e h t = absurd (omega arith)
  fair Try (Held false) e h t = absurd (omega arith)
  fair Try SomeStarved e h t = absurd (omega arith)
  fair Try _ e h t = absurd e
  fair Clear Done e h t = absurd (omega arith)
  fair Clear _ e h t = absurd e
  fair CancelUncount Done e h t = absurd (omega arith)
  fair CancelUncount _ e h t = absurd e
  fair CancelLeave Done e h t = absurd (omega arith)
  fair CancelLeave _ e h t = absurd e
  fair (Join true) Done e h t = absurd (omega arith)
  fair (Join true) NoMemory e h t = absurd (omega arith)
  fair (Join true) _ e h t = absurd e
  fair (Join false) Done e h t = absurd (omega arith)
  fair (Join false) NoMemory e h t = absurd (omega arith)
  fair (Join false) _ e h t = absurd e
  fair (Look told) Free e h t = (e.0, inl e.1)
  fair (Look told) (Held true) e h t = absurd (omega arith)
  fair (Look told) (Held false) e h t = absurd (omega arith)
  fair (Look told) SomeStarved e h t = absurd (omega arith)
  fair (Look told) _ e h t = absurd e
  fair Ask Yes e h t = absurd (omega arith)
  fair Ask No e h t = absurd (omega arith)
  fair Ask _ e h t = absurd e
  fair Retry Free e h t = (e.0, inl e.1)
  fair Retry (Held true) e h t = absurd (omega arith)
  fair Retry (Held false) e h t = absurd (omega arith)
  fair Retry SomeStarved e h t = absurd (omega arith)
  fair Retry _ e h t = absurd e
  fair PassOn Done e h t = absurd (omega arith)
  fair PassOn _ e h t = absurd e
  fair (Count true told) Done e h t = absurd (omega arith)
  fair (Count true told) AtLimit e h t = absurd (omega arith)
  fair (Count true told) _ e h t = absurd e
  fair (Count false true) Done e h t = absurd (omega arith)
  fair (Count false true) AtLimit e h t = absurd (omega arith)
  fair (Count false true) _ e h t = absurd e
  fair (Count false false) Done e h t = absurd (omega arith)
  fair (Count false false) AtLimit e h t = absurd (omega arith)
  fair (Count false false) _ e h t = absurd e
  fair JoinStarved Done e h t = absurd (omega arith)
  fair JoinStarved NoMemory e h t = absurd (omega arith)
  fair JoinStarved _ e h t = absurd e
  fair LookAlone Free e h t = (e.0, inr refl)
  fair LookAlone (Held b) e h t = absurd (omega arith)
  fair LookAlone SomeStarved e h t = absurd (omega arith)
  fair LookAlone _ e h t = absurd e
  fair PassOnListed Done e h t = absurd (omega arith)
  fair PassOnListed _ e h t = absurd e
  fair AskStarved Yes e h t = absurd (omega arith)
  fair AskStarved No e h t = absurd (omega arith)
  fair AskStarved _ e h t = absurd e
  fair Seize Free e h t = (e, inr refl)
  fair Seize (Held b) e h t = absurd (omega arith)
  fair Seize _ e h t = absurd e
  fair (Uncount true) Done e h t = absurd (omega arith)
  fair (Uncount true) _ e h t = absurd e
  fair (Uncount false) Done e h t = absurd (omega arith)
  fair (Uncount false) _ e h t = absurd e
  fair Leave Done e h t = absurd (omega arith)
  fair Leave _ e h t = absurd e
  fair RefuseUncount Done e h t = absurd (omega arith)
  fair RefuseUncount _ e h t = absurd e
  fair (RefuseLeave true) Done e h t = absurd (omega arith)
  fair (RefuseLeave true) _ e h t = absurd e
  fair (RefuseLeave false) Done e h t = absurd (omega arith)
  fair (RefuseLeave false) _ e h t = absurd e
  fair RefuseNotifyMemory Done e h t = absurd (omega arith)
  fair RefuseNotifyStarved Done e h t = absurd (omega arith)
  fair RefuseNotifyMemory _ e h t = absurd e
  fair RefuseNotifyStarved _ e h t = absurd e
  fair ReleaseNotify Done e h t = absurd (omega arith)
  fair ReleaseNotify _ e h t = absurd e

pub acts_fairly : (memory : Bool) (party : ℕ) (from : Place) (next : Next) (old new : Lock) → party < length old.places → SameRoles from (place_at old.places party) → Acts memory party from next old new → TakenFairly old new
acts_fairly memory party from next old new known same acts p before behind =
    let to : Place = place_after from next in
    let out : holds (place_at old.places p) ≡ 0 = before in
    let now : holds (place_at (set old.places party to) p) ≡ 1 = rw acts.places at behind in
    elim (ℕ_discrete p party) as (λ _. (holders old ≡ 0) × ((starved old ≡ 0) ⊎ (counted (place_at old.places p) ≡ 1))) [
      | yes e ↦
          (let P : ℕ → Type 0 = λ k. holds (place_at old.places k) ≡ 0 → holds (place_at (set old.places party to) k) ≡ 1 → (holders old ≡ 0) × ((starved old ≡ 0) ⊎ (counted (place_at old.places k) ≡ 1)) in
          let here : P party = λ b t.
          let taken : holds (after from acts.found) ≡ 1 = rw (get_or-set_same old.places party to Out known, acts.next_is) at t in
          rw (← same.starving) (fair memory old from acts.found acts.finds (same.holding ∙ b) taken) in
          subst P (sym e) here out now)
      | no apart ↦
          (let still : holds (place_at old.places p) ≡ 1 = rw (get_or-set_other old.places party p to Out apart) at now in
          absurd (omega arith))
    ]
