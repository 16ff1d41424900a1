-- What parties have, by where they stand.
use Rattle.world_once_cell.proofs.Prelude.{◌≡◌, ◌≢◌, ℕ, ◌<◌, ◌⊎◌, inl, inr, true, false, Some, None, refl, arith, ap, sym, ◌∙◌, subst, entries_of, Answer, Kind, Rest, Stage, Outside, Inside, Forgotten, Within, inside, none_some, both, stage_at, stands_as, Table, past_last, by_stage, by_stage_or_past, ListName, Active, Passive, Maker, Closure, Given, Place, NotifyActive, NotifyPassive, FailNotify, LeaveFull, RefuseActive, LeavePassive, RefusePassive, Try, TryFill, TryNotifyActive, TryNotifyPassive, CancelMake, CancelNotify, CancelLeave, Abandon, Position, Out, ToMake, WaitingToMake, Making, ToWait, Waiting, At, BeingMade, Full, got_of, fills_with, task_by, task_at, place_task, makes_at, in_active, in_passive_at, value_known, verdict, verdict_of, OnceCell, IsCell, goes_with, runs, is_begun, is_trying, is_cancelling, is_abandoning, is_pending, is_maker, position_at, World, is_full, list_in, standing_of, task_of, view_of, makes, list_for, HasByTask, IsClear, HasGranted, HasItsOwn, IsCellTable}
use Rattle.world_once_cell.proofs.of_machine.laws.Contents as contents
use Rattle.world_once_cell.proofs.of_machine.laws.Told.{in_list}
use Rattle.world_once_cell.proofs.table.Seen as seen

-- what a party's position says of it
pub record Facts (w : World) (p : ℕ) (x : Position) : Type 0 where
  pub active : entries_of p w.active ≡ in_active x
  pub passive : entries_of p w.passive ≡ in_passive_at x
  pub makes : makes_at x ≡ is_maker w.cell p
  pub task : task_of w p ≡ task_at x
  pub value : (v : ℕ) → value_known x ≡ Some v → w.cell ≡ Full v

no_lists : (w : World) (p : ℕ) → entries_of p w.active ≡ 0 → entries_of p w.passive ≡ 0 → (list : ListName) → entries_of p (list_in list w) ≡ 0
no_lists w p a b Active = a
no_lists w p a b Passive = b

abbrev ListFits : ListName → Position → Type 0
ListFits list x = 0 < in_list list x → list_for (task_at x) ≡ Some list

-- a pending party stands in the list of its future, and who makes may make
pub active_for : (k : Maker) → list_for (task_by k) ≡ Some Active
active_for Closure = refl
active_for (Given v) = refl

pub may_make : (k : Maker) → makes (task_by k) ≡ true
may_make Closure = refl
may_make (Given v) = refl

pending_lists : (list : ListName) (x : Position) → is_pending x ≡ true → ListFits list x
pending_lists Active (WaitingToMake k) h some = active_for k
pending_lists Passive Waiting h some = refl
pending_lists Active (ToMake k) h some = absurd (omega arith)
pending_lists Active (Making k) h some = absurd (omega arith)
pending_lists Active ToWait h some = absurd (omega arith)
pending_lists Active Waiting h some = absurd (omega arith)
pending_lists Active Out h some = absurd (omega arith)
pending_lists Active (At y) h some = absurd (cc h)
pending_lists Passive (At y) h some = absurd (cc h)
pending_lists Passive _ h some = absurd (omega arith)

pending_makes : (x : Position) → is_pending x ≡ true → makes_at x ≡ true → makes (task_at x) ≡ true
pending_makes (Making k) h m = may_make k
pending_makes (At y) h m = absurd (cc h)
pending_makes _ h m = absurd (cc m)

pending_alone : (list : ListName) (x : Position) → is_pending x ≡ true → makes_at x ≡ true → in_list list x ≡ 0
pending_alone Active (Making k) h m = refl
pending_alone Passive (Making k) h m = refl
pending_alone list (At y) h m = absurd (cc h)
pending_alone list _ h m = absurd (cc m)

listed_as : (w : World) (p : ℕ) (x : Position) → Facts w p x → (list : ListName) → entries_of p (list_in list w) ≡ in_list list x
listed_as w p x k Active = k.active
listed_as w p x k Passive = k.passive

by_task : (w : World) (p : ℕ) (x : Position) → is_pending x ≡ true → Facts w p x → HasByTask w p
by_task w p x h k = record {
  lists = λ list some. (let here : 0 < in_list list x = rw (listed_as w p x k list) at some in ap list_for k.task ∙ pending_lists list x h here);
  making = λ m. ap makes k.task ∙ pending_makes x h (k.makes ∙ m);
  alone = λ m list. listed_as w p x k list ∙ pending_alone list x h (k.makes ∙ m);
}

-- a party that stands so is in no list and doesn't make
clear : (w : World) (p : ℕ) (x : Position) → in_active x ≡ 0 → in_passive_at x ≡ 0 → makes_at x ≡ false → Facts w p x → IsClear w p
clear w p x a b d k = record { lists = no_lists w p (k.active ∙ a) (k.passive ∙ b); making = sym k.makes ∙ d }

granted : (w : World) (p v : ℕ) (y : Place) → place_task y ≡ fills_with v → (w.cell ≡ BeingMade p) ⊎ (w.cell ≡ Full v) → Facts w p (At y) → HasGranted w p
granted w p v y task cell k = record { value = v; task = k.task ∙ task; cell = cell }

-- a call that goes on undecided is a poll
polls_on : (k : Kind) (r : Rest) (y : Place) → is_cancelling y ≡ false → is_abandoning y ≡ false → is_trying y ≡ false → runs k r y ≡ true → (k ≢ Kind.Drop) × (k ≢ Kind.Try)
polls_on Kind.Drop Rest.Pending y a b d h = absurd (cc (a, h))
polls_on Kind.Drop Rest.Finished y a b d h = absurd (cc (b, h))
polls_on Kind.Drop _ y a b d h = absurd (cc h)
polls_on Kind.Try Rest.Idle y a b d h = absurd (cc (d, h))
polls_on Kind.Try Rest.Finished y a b d h = absurd (cc (d, h))
polls_on Kind.Try _ y a b d h = absurd (cc h)
polls_on _ r y a b d h = (λ e. cc e, λ e. cc e)

own_full : (w : World) (p : ℕ) (u : Within) (k : Maker) (v : ℕ) → w.cell ≡ Full v → task_of w p ≡ task_by k → HasItsOwn w p (inside u (Some (Answer.Ready (got_of k v))))
own_full w p u Closure v full task = full
own_full w p u (Given own) v full task = (ap is_full full, task)

own_by : (w : World) (p : ℕ) (s : Stage) (x : Position) → goes_with s x ≡ true → Facts w p x → HasItsOwn w p (stands_as (verdict x) s)
own_by w p (Outside Rest.Idle) Out g k = record { lists = no_lists w p k.active k.passive; making = sym k.makes; task = k.task }
own_by w p (Outside Rest.Idle) _ g k = absurd (cc g)
own_by w p (Outside Rest.Finished) Out g k = record { lists = no_lists w p k.active k.passive; making = sym k.makes; task = k.task }
own_by w p (Outside Rest.Finished) _ g k = absurd (cc g)
own_by w p (Outside Rest.Pending) x g k = by_task w p x g k
own_by w p (Outside Rest.Holding) x g k = absurd (cc g)
own_by w p (Inside u) (At (NotifyActive v)) g k = k.value v refl
own_by w p (Inside u) (At (NotifyPassive v)) g k = k.value v refl
own_by w p (Inside u) (At (LeaveFull m v)) g k = own_full w p u m v (k.value v refl) k.task
own_by w p (Inside u) (At (LeavePassive v)) g k = k.value v refl
own_by w p (Inside u) (At FailNotify) g k = clear w p (At FailNotify) refl refl refl k
own_by w p (Inside u) (At CancelNotify) g k = clear w p (At CancelNotify) refl refl refl k
own_by w p (Inside u) (At (RefuseActive m)) g k = clear w p (At (RefuseActive m)) refl refl refl k
own_by w p (Inside u) (At RefusePassive) g k = clear w p (At RefusePassive) refl refl refl k
own_by w p (Inside u) (At (TryFill v)) g k = granted w p v (TryFill v) refl (inl (contents.maker_is w.cell p (sym k.makes))) k
own_by w p (Inside u) (At (TryNotifyActive v)) g k = granted w p v (TryNotifyActive v) refl (inr (k.value v refl)) k
own_by w p (Inside u) (At (TryNotifyPassive v)) g k = granted w p v (TryNotifyPassive v) refl (inr (k.value v refl)) k
own_by w p (Inside u) (At (Try v)) g k = absurd (cc g)
own_by w p (Inside u) (At CancelMake) g k = absurd (cc g)
own_by w p (Inside u) (At (CancelLeave list)) g k = absurd (cc g)
own_by w p (Inside u) (At Abandon) g k = absurd (cc g)
own_by w p (Inside u) (At y) g k = polls_on u.kind u.was y refl refl refl (both (is_begun y) (runs u.kind u.was y) g).1
own_by w p (Inside u) _ g k = absurd (cc g)
own_by w p Forgotten x g k = tt

-- no call is decided on Pending
pub never_pending : (x : Place) → verdict_of x ≡ Some Answer.Pending → ⊥
never_pending (LeaveFull k v) e = cc e
never_pending _ e = cc e

pends_by : (s : Stage) (x : Position) (u : Within) → stands_as (verdict x) s ≡ inside u (Some Answer.Pending) → ⊥
pends_by (Outside r) x u e = cc
pends_by (Inside w) (At y) u e = never_pending y (cc)
pends_by (Inside w) _ u e = cc
pends_by Forgotten x u e = cc

-- what holds of any World that stands
pub record Standing_well (w : World) : Type 0 where
  pub each : (p : ℕ) → HasItsOwn w p (standing_of w p)
  pub never_pending : (p : ℕ) (u : Within) → standing_of w p ≢ inside u (Some Answer.Pending)

module _ (t : Table OnceCell) (laws : IsCell t.machine) (fits : IsCellTable t) where
  known : (q v : ℕ) → value_known (position_at t.machine.positions q) ≡ Some v → t.machine.content ≡ Full v
  known q v e = by_stage_or_past t.stages q (t.machine.content ≡ Full v)
      (λ past. (let out : value_known (position_at t.machine.positions q) ≡ None = ap value_known (past_last t.machine.positions q Out (omega (arith, past, fits.as_many))) in absurd (none_some (sym out ∙ e))))
      (λ inside. (fits.stands q inside).value v e)

  pub facts : (q : ℕ) → Facts (view_of t) q (position_at t.machine.positions q)
  facts q = record { active = laws.active_owners q; passive = laws.passive_owners q; makes = laws.makers q; task = seen.task_seen t q; value = known q }

  pub each_has : (q : ℕ) → HasItsOwn (view_of t) q (standing_of (view_of t) q)
  each_has q = subst (HasItsOwn (view_of t) q) (sym (seen.standing_seen t q)) (by_stage t.stages q (λ s. HasItsOwn (view_of t) q (stands_as (verdict (position_at t.machine.positions q)) s)) tt
      (λ inside. own_by (view_of t) q (stage_at t.stages q) (position_at t.machine.positions q) (fits.stands q inside).goes (facts q)))

  pub well : Standing_well (view_of t)
  well = record {
    each = each_has;
    never_pending = λ q u e. pends_by (stage_at t.stages q) (position_at t.machine.positions q) u (sym (seen.standing_seen t q) ∙ e);
  }
