-- What is so where a move begins or goes on.
use Rattle.world_once_cell.proofs.Prelude.{◌≡◌, ℕ, ◌||◌, ◌⊎◌, inl, inr, true, false, Some, is_some, refl, ap, sym, ◌∙◌, Answer, Inputs, What, Go, Stage, Within, inside, is_decided, IsUndecided, is_drop, is_giving_back, decides_so, undecided_so, stands_as, call_at, polls_again, Action, Maker, Place, JoinActive, AskActive, LeaveToMake, Make, Fill, NotifyActive, NotifyPassive, Fail, FailNotify, LeaveFull, RefuseActive, JoinPassive, AskPassive, LeavePassive, RefusePassive, Try, TryFill, TryNotifyActive, TryNotifyPassive, CancelMake, CancelNotify, CancelLeave, Position, At, action_of, Task, fills_with, failed, task_at, place_task, seat_of, seated, value_known, verdict, verdict_of, knows, goes_with, is_begun, task_in, or_before, list_for}
use Rattle.sync_program.specs.declared.once_cell.Action.TheVariants as act
use Rattle.world_once_cell.proofs.of_machine.stages.Turns.{Turn, turn}
use Rattle.world_once_cell.proofs.step.Rows.{is_join, is_notify}
use Rattle.world_once_cell.proofs.step.Owns.{active_for}

-- what an action needs of the party's task: who joins, asks or leaves does so in the list of its future; who fills has the value; who empties drops, or its maker failed; who tells all knows what the cell has
abbrev pub TaskFits : Action → What → Position → Type 0
TaskFits (act.Join list) what x = list_for (task_at x) ≡ Some list
TaskFits (act.Ask list) what x = list_for (task_at x) ≡ Some list
TaskFits (act.Leave list) what x = list_for (task_at x) ≡ Some list
TaskFits (act.Fill v) what x = task_at x ≡ fills_with v
TaskFits act.Empty what x = (is_drop what ≡ true) ⊎ (task_at x ≡ failed)
TaskFits (act.NotifyAll list) what x = (v : ℕ) × (task_at x ≡ fills_with v) × (value_known x ≡ Some v)
TaskFits _ what x = Unit {0}

pub record Here (s : Stage) (what : What) (w : Within) (x : Position) (from : Place) : Type 0 where
  pub same : seat_of from ≡ seated x
  pub task : or_before (task_in what) (task_at x) ≡ place_task from
  pub decides : is_decided (stands_as (verdict x) s) || is_giving_back what ≡ is_some (verdict_of from)
  pub kept : (u : Within) (b : Answer) → stands_as (verdict x) s ≡ inside u (Some b) → verdict_of from ≡ Some b
  pub undecided : is_decided (stands_as (verdict x) s) ≡ false → (b : Answer) → verdict_of from ≡ Some b → b ≡ Answer.GivenBack
  pub joins : is_join from ≡ true → IsUndecided (stands_as (verdict x) s)
  pub drop : from ≡ CancelMake → is_drop what ≡ true
  pub tries : (v : ℕ) → from ≡ Try v → task_in what ≡ Some (fills_with v)
  pub notifies : is_notify from ≡ true → is_decided (stands_as (verdict x) s) ≡ true
  pub fits : TaskFits (action_of from) what x
  pub making : (t : Task) → task_in what ≡ Some t → (k : Maker) → from ≡ Make k → ⊥
  pub going : (i : Inputs) → what ≡ Go i → x ≡ At from

joins_so : (w : Within) (x : Place) → is_join x ≡ true → IsUndecided (inside w (verdict_of x))
joins_so w (JoinActive k told) h = (w, refl)
joins_so w (JoinPassive told) h = (w, refl)
joins_so w _ h = absurd (cc)

notifies_so : (w : Within) (x : Place) → is_notify x ≡ true → is_decided (inside w (verdict_of x)) ≡ true
notifies_so w FailNotify h = refl
notifies_so w (RefuseActive k) h = refl
notifies_so w RefusePassive h = refl
notifies_so w CancelNotify h = refl
notifies_so w _ h = absurd (cc h)

-- a place at which a call has begun isn't one at which it only begins
only_begins : (x y : Place) → is_begun y ≡ false → is_begun x ≡ true → x ≡ y → ⊥
only_begins x y isnt is e = let h : is_begun y ≡ true = sym (ap is_begun e) ∙ is in cc

fits_so : (x : Place) (i : Inputs) → is_begun x ≡ true → TaskFits (action_of x) (Go i) (At x)
fits_so (JoinActive k told) i b = active_for k
fits_so (AskActive k) i b = active_for k
fits_so (LeaveToMake k) i b = active_for k
fits_so (LeaveFull k v) i b = active_for k
fits_so (Fill v) i b = refl
fits_so (TryFill v) i b = refl
fits_so Fail i b = inr refl
fits_so CancelMake i b = absurd (cc)
fits_so (CancelLeave list) i b = absurd (cc)
fits_so (NotifyActive v) i b = (v, refl, refl)
fits_so (NotifyPassive v) i b = (v, refl, refl)
fits_so (TryNotifyActive v) i b = (v, refl, refl)
fits_so (TryNotifyPassive v) i b = (v, refl, refl)
fits_so (JoinPassive told) i b = refl
fits_so AskPassive i b = refl
fits_so (LeavePassive v) i b = refl
fits_so _ i b = tt

pub here : (s : Stage) (what : What) (w : Within) (x : Position) → goes_with s x ≡ true → call_at knows s what ≡ Some w → polls_again s what ≡ false → Turn Here s what w x
here = turn Here (record {
  initialize = λ r i g h. record { same = refl; task = refl; decides = refl; kept = λ u b e. absurd (cc); undecided = λ h b e. cc; joins = λ h. absurd (cc); drop = λ e. absurd (cc); tries = λ n e. absurd (cc); notifies = λ h. absurd (cc h); fits = tt; making = λ t e m f. cc; going = λ j e. absurd (cc) };
  set = λ v r i g h. record { same = refl; task = refl; decides = refl; kept = λ u b e. absurd (cc); undecided = λ h b e. cc; joins = λ h. absurd (cc); drop = λ e. absurd (cc); tries = λ n e. absurd (cc); notifies = λ h. absurd (cc h); fits = tt; making = λ t e m f. cc; going = λ j e. absurd (cc) };
  wait = λ r i g h. record { same = refl; task = refl; decides = refl; kept = λ u b e. absurd (cc); undecided = λ h b e. cc; joins = λ h. absurd (cc); drop = λ e. absurd (cc); tries = λ n e. absurd (cc); notifies = λ h. absurd (cc h); fits = tt; making = λ t e m f. cc; going = λ j e. absurd (cc) };
  try = λ v r i g h. record { same = refl; task = refl; decides = refl; kept = λ u b e. absurd (cc); undecided = λ h b e. cc; joins = λ h. absurd (cc); drop = λ e. absurd (cc); tries = λ n e. cc; notifies = λ h. absurd (cc h); fits = tt; making = λ t e m f. cc; going = λ j e. absurd (cc) };
  poll = λ k i. record { same = refl; task = refl; decides = refl; kept = λ u b e. absurd (cc); undecided = λ h b e. cc; joins = λ h. absurd (cc); drop = λ e. absurd (cc); tries = λ n e. absurd (cc); notifies = λ h. absurd (cc h); fits = tt; making = λ t e m f. cc e; going = λ j e. absurd (cc) };
  poll_listed = λ k i. record { same = refl; task = refl; decides = refl; kept = λ u b e. absurd (cc); undecided = λ h b e. cc; joins = λ h. absurd (cc); drop = λ e. absurd (cc); tries = λ n e. absurd (cc); notifies = λ h. absurd (cc h); fits = active_for k; making = λ t e m f. cc e; going = λ j e. absurd (cc) };
  poll_maker = λ k i. record { same = refl; task = refl; decides = refl; kept = λ u b e. absurd (cc); undecided = λ h b e. cc; joins = λ h. absurd (cc); drop = λ e. absurd (cc); tries = λ n e. absurd (cc); notifies = λ h. absurd (cc h); fits = tt; making = λ t e m f. cc e; going = λ j e. absurd (cc) };
  poll_wait = λ i. record { same = refl; task = refl; decides = refl; kept = λ u b e. absurd (cc); undecided = λ h b e. cc; joins = λ h. absurd (cc); drop = λ e. absurd (cc); tries = λ n e. absurd (cc); notifies = λ h. absurd (cc h); fits = tt; making = λ t e m f. cc e; going = λ j e. absurd (cc) };
  poll_waiting = λ i. record { same = refl; task = refl; decides = refl; kept = λ u b e. absurd (cc); undecided = λ h b e. cc; joins = λ h. absurd (cc); drop = λ e. absurd (cc); tries = λ n e. absurd (cc); notifies = λ h. absurd (cc h); fits = refl; making = λ t e m f. cc e; going = λ j e. absurd (cc) };
  cancel = λ k i. record { same = refl; task = refl; decides = refl; kept = λ u b e. absurd (cc); undecided = λ h b e. cc; joins = λ h. absurd (cc); drop = λ e. absurd (cc); tries = λ n e. absurd (cc); notifies = λ h. absurd (cc h); fits = active_for k; making = λ t e m f. cc; going = λ j e. absurd (cc) };
  cancel_maker = λ k i. record { same = refl; task = refl; decides = refl; kept = λ u b e. absurd (cc); undecided = λ h b e. cc; joins = λ h. absurd (cc); drop = λ e. refl; tries = λ n e. absurd (cc); notifies = λ h. absurd (cc h); fits = inl refl; making = λ t e m f. cc; going = λ j e. absurd (cc) };
  cancel_wait = λ i. record { same = refl; task = refl; decides = refl; kept = λ u b e. absurd (cc); undecided = λ h b e. cc; joins = λ h. absurd (cc); drop = λ e. absurd (cc); tries = λ n e. absurd (cc); notifies = λ h. absurd (cc h); fits = refl; making = λ t e m f. cc; going = λ j e. absurd (cc) };
  abandon = λ k i. record { same = refl; task = refl; decides = refl; kept = λ u b e. absurd (cc); undecided = λ h b e. cc; joins = λ h. absurd (cc); drop = λ e. absurd (cc); tries = λ n e. absurd (cc); notifies = λ h. absurd (cc h); fits = tt; making = λ t e m f. cc; going = λ j e. absurd (cc) };
  abandon_wait = λ i. record { same = refl; task = refl; decides = refl; kept = λ u b e. absurd (cc); undecided = λ h b e. cc; joins = λ h. absurd (cc); drop = λ e. absurd (cc); tries = λ n e. absurd (cc); notifies = λ h. absurd (cc h); fits = tt; making = λ t e m f. cc; going = λ j e. absurd (cc) };
  drop_finished = λ i. record { same = refl; task = refl; decides = refl; kept = λ u b e. absurd (cc); undecided = λ h b e. cc; joins = λ h. absurd (cc); drop = λ e. absurd (cc); tries = λ n e. absurd (cc); notifies = λ h. absurd (cc h); fits = tt; making = λ t e m f. cc; going = λ j e. absurd (cc) };
  go = λ w x i begun here. record {
    same = refl;
    task = refl;
    decides = decides_so w (verdict_of x);
    kept = λ u b e. cc;
    undecided = λ h b e. undecided_so w (verdict_of x) b h e;
    joins = λ h. joins_so w x h;
    drop = λ e. absurd (only_begins x CancelMake refl begun e);
    tries = λ v e. absurd (only_begins x (Try v) refl begun e);
    notifies = λ h. notifies_so w x h;
    fits = fits_so x i begun;
    making = λ t e m f. cc e;
    going = λ j e. refl;
  };
})
