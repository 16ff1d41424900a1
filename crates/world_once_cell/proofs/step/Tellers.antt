-- At most one party fills the cell, or has filled it and has still to tell.
use Rattle.world_once_cell.proofs.Prelude.{◌≡◌, ◌≢◌, ℕ, ◌⊎◌, inl, inr, Bool, true, false, Option, Some, None, refl, arith, ap, sym, ◌∙◌, ℕ_discrete, Answer, Call, Move, What, Begin, Rest, Stage, Outside, Inside, Forgotten, is_outside, is_possible, stage_at, stands_as, Table, past_last, by_stage_or_past, Closure, Given, Claim, ClaimListed, JoinActive, AskActive, LeaveToMake, Make, Fill, NotifyActive, NotifyPassive, LeaveFull, RefuseActive, Try, TryFill, TryNotifyActive, TryNotifyPassive, Out, ToMake, WaitingToMake, Making, ToWait, Waiting, At, Content, BeingMade, Full, Maker, Position, Task, no_task, fills_with, task_by, task_at, makes_at, value_known, verdict, OnceCell, IsCell, goes_with, knows, position_at, World, standing_of, task_of, is_empty, is_full, HasOneTeller, new_world, task_in, is_open, view_of, Legal, AnswersAtOnce, is_try, IsCellTable}
use Rattle.std.proofs.lemmas.Bool.{true≢false}
use Rattle.world_base.proofs.Alike.{all_alike}
use Rattle.world_base.proofs.of_any_world.Endings.{ends_outside}
use Rattle.world_once_cell.proofs.of_machine.laws.Contents.{maker_is}
use Rattle.world_once_cell.proofs.table.Seen as seen

-- ---- where whoever fills stands

never_by : (k : Maker) (n : ℕ) → task_by k ≡ fills_with n → ⊥
never_by Closure n e = cc e
never_by (Given v) n e = cc e

pub record Fills (s : Stage) (x : Position) : Type 0 where
  pub where_it_is : (makes_at x ≡ true) ⊎ ((v : ℕ) × (value_known x ≡ Some v))
  pub has_future : is_open (stands_as (verdict x) s) ≡ true
  pub inside : is_outside (stands_as (verdict x) s) ≡ false

fills_inside : (s : Stage) (x : Position) (n : ℕ) → goes_with s x ≡ true → task_at x ≡ fills_with n → Fills s x
fills_inside s Out n g e = absurd (cc e)
fills_inside s (ToMake k) n g e = absurd (never_by k n e)
fills_inside s (WaitingToMake k) n g e = absurd (never_by k n e)
fills_inside s (Making k) n g e = absurd (never_by k n e)
fills_inside s ToWait n g e = absurd (cc e)
fills_inside s Waiting n g e = absurd (cc e)
fills_inside (Outside Rest.Idle) (At y) n g e = absurd (cc g)
fills_inside (Outside Rest.Pending) (At y) n g e = absurd (cc g)
fills_inside (Outside Rest.Holding) (At y) n g e = absurd (cc g)
fills_inside (Outside Rest.Finished) (At y) n g e = absurd (cc g)
fills_inside Forgotten (At y) n g e = absurd (cc g)
fills_inside (Inside w) (At (Claim k told)) n g e = absurd (never_by k n e)
fills_inside (Inside w) (At (ClaimListed k)) n g e = absurd (never_by k n e)
fills_inside (Inside w) (At (JoinActive k told)) n g e = absurd (never_by k n e)
fills_inside (Inside w) (At (AskActive k)) n g e = absurd (never_by k n e)
fills_inside (Inside w) (At (LeaveToMake k)) n g e = absurd (never_by k n e)
fills_inside (Inside w) (At (Make k)) n g e = absurd (never_by k n e)
fills_inside (Inside w) (At (LeaveFull k v)) n g e = absurd (never_by k n e)
fills_inside (Inside w) (At (RefuseActive k)) n g e = absurd (never_by k n e)
fills_inside (Inside w) (At (Try v)) n g e = absurd (cc g)
fills_inside (Inside w) (At (Fill v)) n g e = record { where_it_is = inl refl; has_future = refl; inside = refl }
fills_inside (Inside w) (At (TryFill v)) n g e = record { where_it_is = inl refl; has_future = refl; inside = refl }
fills_inside (Inside w) (At (NotifyActive v)) n g e = record { where_it_is = inr (v, refl); has_future = refl; inside = refl }
fills_inside (Inside w) (At (NotifyPassive v)) n g e = record { where_it_is = inr (v, refl); has_future = refl; inside = refl }
fills_inside (Inside w) (At (TryNotifyActive v)) n g e = record { where_it_is = inr (v, refl); has_future = refl; inside = refl }
fills_inside (Inside w) (At (TryNotifyPassive v)) n g e = record { where_it_is = inr (v, refl); has_future = refl; inside = refl }
fills_inside (Inside w) (At _) n g e = absurd (cc e)

-- Whoever fills is inside a call; it makes the value, or the cell is full.
pub record Filling (w : World) (p : ℕ) : Type 0 where
  pub cell : (w.cell ≡ BeingMade p) ⊎ (is_full w.cell ≡ true)
  pub has_future : is_open (standing_of w p) ≡ true
  pub inside : is_outside (standing_of w p) ≡ false

module _ (t : Table OnceCell) (laws : IsCell t.machine) (fits : IsCellTable t) where
  abbrev x_of : ℕ → Position
  x_of q = position_at t.machine.positions q

  pub filling : (q n : ℕ) → task_of (view_of t) q ≡ fills_with n → Filling (view_of t) q
  filling q n e = by_stage_or_past t.stages q (Filling (view_of t) q)
      (λ past. (let out : x_of q ≡ Out = past_last t.machine.positions q Out (omega (arith, past, fits.as_many)) in let none : task_at Out ≡ fills_with n = sym (ap task_at out) ∙ (sym (seen.task_seen t q) ∙ e) in absurd (cc none)))
      (λ inside. (let k = fills_inside (stage_at t.stages q) (x_of q) n (fits.stands q inside).goes (sym (seen.task_seen t q) ∙ e) in record {
        cell = elim k.where_it_is as (λ _. (t.machine.content ≡ BeingMade q) ⊎ (is_full t.machine.content ≡ true)) [
          | inl makes ↦ inl (maker_is t.machine.content q (sym (laws.makers q) ∙ makes))
          | inr known ↦ inr (ap is_full ((fits.stands q inside).value known.0 known.1))
        ];
        has_future = ap is_open (seen.standing_seen t q) ∙ k.has_future;
        inside = ap is_outside (seen.standing_seen t q) ∙ k.inside;
      }))

-- ---- one step

tries : (what : What) (n : ℕ) → task_in what ≡ Some (fills_with n) → is_try what ≡ true
tries (Begin (Call.TrySet v) i) n e = refl
tries (Begin Call.Initialize i) n e = absurd (cc e)
tries (Begin (Call.Set v) i) n e = absurd (cc e)
tries (Begin Call.Wait i) n e = absurd (cc e)
tries (Begin Call.Drop i) n e = absurd (cc e)
tries _ n e = absurd (cc e)

not_stepped : (a : Answer) → a ≡ Answer.None → a ≢ Answer.Stepped
not_stepped a e h = let never : Answer.None ≡ Answer.Stepped = sym e ∙ h in cc never

same_maker : (p q : ℕ) → BeingMade p ≡ BeingMade q → p ≡ q
same_maker p q e = cc

full_is : (c : Content) → is_full c ≡ true → is_empty c ≡ false
full_is (Full v) h = refl
full_is _ h = absurd (cc h)

module _ (old new : World) (m : Move) (a : Answer) (possible : is_possible a ≡ true) (legal : Legal old m a new) (at_once : AnswersAtOnce old m a new)
    (before : (q n : ℕ) → task_of old q ≡ fills_with n → Filling old q) (after : (q n : ℕ) → task_of new q ≡ fills_with n → Filling new q) (one : HasOneTeller old) where
  abbrev p : ℕ
  p = m.party

  -- who fills now did before, or makes, or has begun to on an empty cell
  abbrev Was : ℕ → Type 0
  Was n = (task_of old p ≡ fills_with n) ⊎ ((old.cell ≡ BeingMade p) ⊎ (is_empty old.cell ≡ true))

  tried : (n : ℕ) → is_try m.what ≡ true → is_outside (standing_of new p) ≡ false → is_empty old.cell ≡ true
  tried n is inside = by_empty (is_empty old.cell) refl where
    by_empty : (b : Bool) → is_empty old.cell ≡ b → is_empty old.cell ≡ true
    by_empty true e = e
    by_empty false e =
        let none : a ≡ Answer.None = rw e at (at_once.tried is possible).answered in
        let out = ends_outside standing_of (λ w q. knows) Rest.Finished old m a new legal.possible legal.ends_properly (not_stepped a none) possible in
        absurd (true≢false (sym out ∙ inside))

  was : (n : ℕ) → task_of new p ≡ fills_with n → Was n
  was n e = by_task (task_in m.what) refl where
    k : Filling new p
    k = after p n e

    by_task : (o : Option Task) → task_in m.what ≡ o → Was n
    by_task None h = elim (legal.knows_task.going h possible k.has_future) as (λ _. Was n) [ inl same ↦ inl (sym same ∙ e) | inr made ↦ inr (inl made.0) ]
    by_task (Some t) h = inr (inr (tried n (tries m.what n (h ∙ ap Some (sym (legal.knows_task.begun t h possible k.has_future) ∙ e))) k.inside))

  others : (q n : ℕ) → q ≢ p → task_of new q ≡ fills_with n → task_of old q ≡ fills_with n
  others q n apart e = sym (legal.knows_task.others q apart) ∙ e

  -- nobody fills beside one that did before
  never_beside : (q u v : ℕ) → q ≢ p → task_of new q ≡ fills_with u → task_of new p ≡ fills_with v → ⊥
  never_beside q u v apart e f =
      let there = others q u apart e in
      let filled = (before q u there).cell in
      elim (was v f) as (λ _. ⊥) [
        | inl same ↦ apart (one q p u v there same)
        | inr now ↦ elim now as (λ _. ⊥) [
          | inl makes ↦ elim filled as (λ _. ⊥) [
            | inl its ↦ apart (same_maker q p (sym its ∙ makes))
            | inr full ↦ true≢false (sym full ∙ ap is_full makes)
          ]
          | inr empty ↦ elim filled as (λ _. ⊥) [
            | inl its ↦ true≢false (sym empty ∙ ap is_empty its)
            | inr full ↦ true≢false (sym empty ∙ full_is old.cell full)
          ]
        ]
      ]

  pub still_one : HasOneTeller new
  still_one q r u v e f = elim (ℕ_discrete q p) as (λ _. q ≡ r) [
    | yes here ↦ elim (ℕ_discrete r p) as (λ _. q ≡ r) [
      | yes also ↦ here ∙ sym also
      | no apart ↦ absurd (never_beside r v u apart f (ap (task_of new) (sym here) ∙ e))
    ]
    | no apart ↦ elim (ℕ_discrete r p) as (λ _. q ≡ r) [
      | yes also ↦ absurd (never_beside q u v apart e (ap (task_of new) (sym also) ∙ f))
      | no other ↦ one q r u v (others q u apart e) (others r v other f)
    ]
  ]

-- ---- a new World

pub none_fills : (parties : ℕ) (t : Table OnceCell) → view_of t ≡ new_world parties → HasOneTeller (view_of t)
none_fills parties t e p q u v f g =
    let none : task_of (view_of t) p ≡ no_task = ap (λ (w : World). task_of w p) e ∙ all_alike no_task parties p in
    let never : no_task ≡ fills_with u = sym none ∙ f in
    absurd (cc never)
