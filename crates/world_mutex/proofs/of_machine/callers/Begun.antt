-- The first step of a first poll gets the lock or goes on.
use Rattle.world_mutex.proofs.Prelude.{◌≡◌, ℕ, ◌⊎◌, inl, inr, Bool, IsSomeAnd, refl, ap, ◌∙◌, Got, LockCall, Step, Found, Free, Place, Out, Enter, start_of, next_of, step_of, Acts, HasBegun, reveal, place_at, Mutex}

starts_there : (P : Place → Type 0) (x : Place) → IsSomeAnd (start_of LockCall.Lock x) P → P Enter
starts_there P Out h = h
starts_there P _ h = absurd h

goes_or_gets : (f : Found) → (step_of (next_of Enter f) ≡ Step.More) ⊎ (step_of (next_of Enter f) ≡ Step.End Got)
goes_or_gets Free = inr refl
goes_or_gets _ = inl refl

pub lock_goes : (memory : Bool) (p : ℕ) (s : Step) (old new : Mutex) → HasBegun memory p LockCall.Lock s old new → (s ≡ Step.More) ⊎ (s ≡ Step.End Got)
lock_goes memory p s old new d =
    let acts : Acts memory p Enter d.next (reveal old.behind) (reveal new.behind) = starts_there _ (place_at (reveal old.behind).places p) d.does in
    let is : s ≡ step_of (next_of Enter acts.found) = d.step ∙ ap step_of acts.next_is in
    elim (goes_or_gets acts.found) [ inl goes ↦ inl (is ∙ goes) | inr gets ↦ inr (is ∙ gets) ]
