-- What is so where a move begins or goes on.
use Rattle.world_semaphore.proofs.Prelude.{◌≡◌, ℕ, ◌||◌, true, false, Some, is_some, refl, ap, sym, ◌∙◌, Answer, Inputs, What, Go, Stage, Within, is_drop, is_giving_back, inside, is_decided, IsUndecided, decides_so, undecided_so, stands_as, call_at, polls_again, Action, Place, Take, Retake, Join, HandOn, PassOn, RefuseFit, Try, Lower, GiveBack, Raise, FitAdded, FitGivenBack, Position, Out, At, action_of, seat_of, seated, size_at, verdict, verdict_of, knows, goes_with, is_begun, added_in, is_forget, wanted_in}
use Rattle.world_semaphore.specs.machine.Seats.{size_of}
use Rattle.world_semaphore.proofs.of_machine.stages.Turns.{Turn, turn}
use Rattle.world_semaphore.proofs.step.Rows.{is_join}

pub record Here (s : Stage) (what : What) (w : Within) (x : Position) (from : Place) : Type 0 where
  pub same : seat_of from ≡ seated x
  pub decides : is_decided (stands_as (verdict x) s) || is_giving_back what ≡ is_some (verdict_of from)
  pub kept : (u : Within) (b : Answer) → stands_as (verdict x) s ≡ inside u (Some b) → verdict_of from ≡ Some b
  pub undecided : is_decided (stands_as (verdict x) s) ≡ false → (b : Answer) → verdict_of from ≡ Some b → b ≡ Answer.GivenBack
  pub joins : is_join from ≡ true → IsUndecided (stands_as (verdict x) s)
  pub drop : (k : ℕ) → from ≡ GiveBack k → is_drop what ≡ true
  pub forget : (k : ℕ) → from ≡ Lower k → is_forget what ≡ true
  pub raise : (n : ℕ) → from ≡ Raise n → added_in what ≡ Some n
  pub adds : (n : ℕ) → added_in what ≡ Some n → (from ≡ Raise n) × (x ≡ Out)
  pub fits : (a : ℕ) → action_of from ≡ Action.Fit a → is_decided (stands_as (verdict x) s) ≡ true
  pub told : (a : ℕ) → action_of from ≡ Action.Fit a → x ≡ At from
  pub wants : (k : ℕ) → action_of from ≡ Action.Take k → wanted_in what (size_at x) ≡ k
  pub going : (i : Inputs) → what ≡ Go i → (x ≡ At from) × (is_begun from ≡ true)

joins_so : (w : Within) (x : Place) → is_join x ≡ true → IsUndecided (inside w (verdict_of x))
joins_so w (Join k told) h = (w, refl)
joins_so w _ h = absurd (cc)

fits_so : (w : Within) (x : Place) (a : ℕ) → action_of x ≡ Action.Fit a → is_decided (inside w (verdict_of x)) ≡ true
fits_so w (HandOn k c) a e = refl
fits_so w (PassOn k c) a e = refl
fits_so w (RefuseFit k c) a e = refl
fits_so w (FitAdded c) a e = refl
fits_so w (FitGivenBack c) a e = refl
fits_so w _ a e = absurd (cc e)

wants_so : (x : Place) (k : ℕ) → action_of x ≡ Action.Take k → size_of x ≡ k
wants_so (Take n listed told) k e = cc e
wants_so (Retake n) k e = cc e
wants_so (Try n) k e = cc e
wants_so _ k e = absurd (cc e)

-- a place at which a call has begun isn't one at which it only begins
only_begins : (x y : Place) → is_begun y ≡ false → is_begun x ≡ true → x ≡ y → ⊥
only_begins x y isnt is e = let h : is_begun y ≡ true = sym (ap is_begun e) ∙ is in cc

pub here : (s : Stage) (what : What) (w : Within) (x : Position) → goes_with s x ≡ true → call_at knows s what ≡ Some w → polls_again s what ≡ false → Turn Here s what w x
here = turn Here (record {
  acquire = λ k i. record { same = refl; decides = refl; kept = λ u b e. absurd (cc); undecided = λ h b e. cc; joins = λ h. absurd (cc); drop = λ k e. cc; forget = λ k e. cc; raise = λ n e. cc; adds = λ n e. absurd (cc); fits = λ n e. absurd (cc e); told = λ n e. absurd (cc e); wants = λ n e. cc; going = λ i e. absurd (cc) };
  try = λ k i. record { same = refl; decides = refl; kept = λ u b e. absurd (cc); undecided = λ h b e. cc; joins = λ h. absurd (cc); drop = λ k e. cc; forget = λ k e. cc; raise = λ n e. cc; adds = λ n e. absurd (cc); fits = λ n e. absurd (cc e); told = λ n e. absurd (cc e); wants = λ n e. cc; going = λ i e. absurd (cc) };
  add = λ n i. record { same = refl; decides = refl; kept = λ u b e. absurd (cc); undecided = λ h b e. cc; joins = λ h. absurd (cc); drop = λ k e. cc; forget = λ k e. cc; raise = λ k e. cc; adds = λ k e. (cc, refl); fits = λ n e. absurd (cc e); told = λ n e. absurd (cc e); wants = λ n e. cc; going = λ i e. absurd (cc) };
  poll = λ k i. record { same = refl; decides = refl; kept = λ u b e. absurd (cc); undecided = λ h b e. cc; joins = λ h. absurd (cc); drop = λ k e. cc; forget = λ k e. cc; raise = λ n e. cc; adds = λ n e. absurd (cc); fits = λ n e. absurd (cc e); told = λ n e. absurd (cc e); wants = λ n e. cc; going = λ i e. absurd (cc) };
  poll_listed = λ k i. record { same = refl; decides = refl; kept = λ u b e. absurd (cc); undecided = λ h b e. cc; joins = λ h. absurd (cc); drop = λ k e. cc; forget = λ k e. cc; raise = λ n e. cc; adds = λ n e. absurd (cc); fits = λ n e. absurd (cc e); told = λ n e. absurd (cc e); wants = λ n e. cc; going = λ i e. absurd (cc) };
  abandon = λ k i. record { same = refl; decides = refl; kept = λ u b e. absurd (cc); undecided = λ h b e. cc; joins = λ h. absurd (cc); drop = λ k e. cc; forget = λ k e. cc; raise = λ n e. cc; adds = λ n e. absurd (cc); fits = λ n e. absurd (cc e); told = λ n e. absurd (cc e); wants = λ n e. cc; going = λ i e. absurd (cc) };
  cancel = λ k i. record { same = refl; decides = refl; kept = λ u b e. absurd (cc); undecided = λ h b e. cc; joins = λ h. absurd (cc); drop = λ k e. cc; forget = λ k e. cc; raise = λ n e. cc; adds = λ n e. absurd (cc); fits = λ n e. absurd (cc e); told = λ n e. absurd (cc e); wants = λ n e. cc; going = λ i e. absurd (cc) };
  give_back = λ k i. record { same = refl; decides = refl; kept = λ u b e. absurd (cc); undecided = λ h b e. cc; joins = λ h. absurd (cc); drop = λ n e. refl; forget = λ k e. cc; raise = λ n e. cc; adds = λ n e. absurd (cc); fits = λ n e. absurd (cc e); told = λ n e. absurd (cc e); wants = λ n e. cc; going = λ i e. absurd (cc) };
  forget = λ k i. record { same = refl; decides = refl; kept = λ u b e. absurd (cc); undecided = λ h b e. cc; joins = λ h. absurd (cc); drop = λ k e. cc; forget = λ n e. refl; raise = λ n e. cc; adds = λ n e. absurd (cc); fits = λ n e. absurd (cc e); told = λ n e. absurd (cc e); wants = λ n e. cc; going = λ i e. absurd (cc) };
  go = λ w x i begun here. record {
    same = refl;
    decides = decides_so w (verdict_of x);
    kept = λ u b e. cc;
    undecided = λ h b e. undecided_so w (verdict_of x) b h e;
    joins = λ h. joins_so w x h;
    drop = λ k e. absurd (only_begins x (GiveBack k) refl begun e);
    forget = λ k e. absurd (only_begins x (Lower k) refl begun e);
    raise = λ n e. absurd (only_begins x (Raise n) refl begun e);
    adds = λ n e. absurd (cc);
    fits = λ a e. fits_so w x a e;
    told = λ a e. refl;
    wants = λ k e. wants_so x k e;
    going = λ j e. (refl, begun);
  };
})
