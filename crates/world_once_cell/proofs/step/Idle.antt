-- A move that does nothing is a legal step: one that its party may not make, and a poll of a future that has been ready.
use Rattle.world_once_cell.proofs.Prelude.{◌≡◌, ℕ, inl, Bool, true, false, Option, Some, None, refl, sym, ◌∙◌, subst, entries_of, Answer, Call, Move, What, Begin, Refusal, Rest, Within, Standing, outside, inside, call_in, refused, is_drop, is_poll_after_ready, nothing, none_some, Empty, BeingMade, Full, Task, no_task, fills_with, knows, is_maker, World, standing_of, task_of, task_in, call_of, IsCause, HasItsOwn, ChangesOneThing, Legal, AnswersAtOnce, is_try, is_poll, is_first_making, is_first_wait}
use Rattle.world_base.proofs.of_table.Idle as idle
use Rattle.world_base.proofs.of_table.Idle.{Idle, same_decides}
use Rattle.world_once_cell.proofs.step.Owns.{Standing_well}

-- which moves are possible
module _ (t : Task) (n : ℕ) (b : Bool) where
  pub making_possible : (s : Standing) (what : What) → is_first_making s what t n b ≡ true → call_in knows s what ≡ None → ⊥
  making_possible (outside Rest.Idle) (Begin Call.Initialize i) h e = cc
  making_possible (outside Rest.Idle) (Begin (Call.Set v) i) h e = cc
  making_possible (outside Rest.Finished) (Begin Call.Initialize i) h e = cc
  making_possible (outside Rest.Finished) (Begin (Call.Set v) i) h e = cc
  making_possible (outside Rest.Pending) (Begin Call.Poll i) h e = cc
  making_possible _ _ h e = cc

  pub waiting_possible : (s : Standing) (what : What) → is_first_wait s what t n ≡ true → call_in knows s what ≡ None → ⊥
  waiting_possible (outside Rest.Idle) (Begin Call.Wait i) h e = cc
  waiting_possible (outside Rest.Finished) (Begin Call.Wait i) h e = cc
  waiting_possible (outside Rest.Pending) (Begin Call.Poll i) h e = cc
  waiting_possible _ _ h e = cc

poll_possible : (s : Standing) (what : What) → is_poll what ≡ true → s ≡ outside Rest.Pending → call_in knows s what ≡ None → ⊥
poll_possible s (Begin Call.Poll i) h e none = let P : Standing → Type 0 = λ x. call_in knows x (Begin Call.Poll i) ≡ None in let never : P (outside Rest.Pending) = subst P e none in cc (never)
poll_possible s _ h e none = cc (h)

-- a poll after ready is nothing else
pub record Again (s : Standing) (what : What) : Type 0 where
  pub try : is_try what ≡ false
  pub making : (t : Task) (n : ℕ) (b : Bool) → is_first_making s what t n b ≡ false
  pub waiting : (t : Task) (n : ℕ) → is_first_wait s what t n ≡ false
  pub pending : s ≡ outside Rest.Pending → ⊥
  pub outside : (u : Within) (d : Option Answer) → s ≡ inside u d → ⊥
  pub drop : is_drop what ≡ false
  pub task : task_in what ≡ None

pub again : (s : Standing) (what : What) → is_poll_after_ready s what ≡ true → Again s what
again (outside Rest.Holding) (Begin Call.Poll i) h = record { try = refl; making = λ t n b. refl; waiting = λ t n. refl; pending = λ e. cc; outside = λ u d e. cc e; drop = refl; task = refl }
again (outside Rest.Finished) (Begin Call.Poll i) h = record { try = refl; making = λ t n b. refl; waiting = λ t n. refl; pending = λ e. cc; outside = λ u d e. cc e; drop = refl; task = refl }
again _ _ h = absurd (cc)

idle_maker : (w : World) (p : ℕ) (s : Standing) (what : What) → is_poll_after_ready s what ≡ true → HasItsOwn w p s → is_maker w.cell p ≡ false
idle_maker w p (outside Rest.Finished) what h own = own.making
idle_maker w p (outside Rest.Holding) what h own = absurd own
idle_maker w p _ _ h own = absurd (cc h)

idle_fills : (w : World) (p v : ℕ) (s : Standing) (what : What) → is_poll_after_ready s what ≡ true → HasItsOwn w p s → task_of w p ≡ fills_with v → ⊥
idle_fills w p v (outside Rest.Finished) what h own e = let never : no_task ≡ fills_with v = sym own.task ∙ e in cc never
idle_fills w p v (outside Rest.Holding) what h own e = own
idle_fills w p v _ _ h own e = cc h

module _ (w : World) (m : Move) (well : Standing_well w) where
  abbrev s : Standing
  s = standing_of w m.party

  same_cell : (v : ℕ) → w.cell ≡ BeingMade m.party → w.cell ≡ Full v → ⊥
  same_cell v made full = let never : BeingMade m.party ≡ Full v = sym made ∙ full in cc never

  not_both : w.cell ≡ BeingMade m.party → w.cell ≡ Empty → ⊥
  not_both made empty = let never : BeingMade m.party ≡ Empty = sym made ∙ empty in cc never

  still_one : ChangesOneThing w m w
  still_one = record { effect = nothing; allowed = tt; cell = refl; active = refl; passive = refl; others = λ q apart. refl; parties = refl; found_memory = λ list e. absurd (cc); parting = λ h. refl; giving_up = λ h. absurd (cc) }

  abbrev Still : Answer → Type 0
  Still = Idle standing_of (λ x p. knows) Rest.Finished IsCause w m refl

  pub impossible : call_of w m ≡ None → Legal w m Answer.NotPossible w
  impossible none = let still : Still Answer.NotPossible = idle.impossible standing_of (λ x p. knows) Rest.Finished IsCause w m refl none in record {
    possible = still.possible;
    one_change = still_one;
    knows_task = record { begun = λ t e h o. absurd (cc h); going = λ e h o. inl refl; others = λ q apart. refl };
    carries = record {
      ready = λ g d. (let e = same_decides s Answer.NotPossible (Answer.Ready g) d in absurd (cc));
      granted = λ g d. (let e = same_decides s Answer.NotPossible (Answer.Granted g) d in absurd (cc));
      filled = λ v made full. absurd (same_cell v made full);
      emptied = λ made empty. absurd (not_both made empty);
    };
    waits = record { waiting = λ e. absurd (cc); not_before = well.never_pending m.party };
    refused_for_cause = still.refused_for_cause;
    leaves_clear = record { each = well.each; refused = λ h. absurd (cc); refused_maker = λ h. absurd (cc) };
    tells_others = record { failed = λ e. absurd (cc e); dropped = λ u e h. absurd (cc h); refused = λ u list e h f. absurd (cc h) };
    ends_properly = still.ends_properly;
  }

  pub impossible_at_once : call_of w m ≡ None → AnswersAtOnce w m Answer.NotPossible w
  impossible_at_once none = record {
    tried = λ t h. absurd (cc h);
    making = λ h. absurd (making_possible (task_of w m.party) (entries_of m.party w.active) (is_maker w.cell m.party) s m.what h none);
    waiting = λ h. absurd (waiting_possible (task_of w m.party) (entries_of m.party w.passive) false s m.what h none);
    maker = λ h e made. absurd (poll_possible s m.what h e none);
    dropped = λ d h made. absurd (cc h);
    gone = λ d h unmade. absurd (cc h);
    asked = λ u e h made t none_listed. absurd (cc h);
    filled = λ v h made e. absurd (cc h);
    failed = λ h made e. absurd (cc h);
    told_all = λ v h ended e. absurd (cc h);
    listed = λ h e list some. absurd (poll_possible s m.what h e none);
  }

  module _ (h : is_poll_after_ready s m.what ≡ true) where
    abbrev so : Again s m.what
    so = again s m.what h

    pub over : Legal w m (refused Refusal.Finished) w
    over = let still : Still (refused Refusal.Finished) = idle.over standing_of (λ x p. knows) Rest.Finished IsCause w m refl h refl in record {
      possible = still.possible;
      one_change = still_one;
      knows_task = record { begun = λ t e h o. absurd (none_some (sym so.task ∙ e)); going = λ e h o. inl refl; others = λ q apart. refl };
      carries = record {
        ready = λ g d. (let e = same_decides s (refused Refusal.Finished) (Answer.Ready g) d in absurd (cc));
        granted = λ g d. (let e = same_decides s (refused Refusal.Finished) (Answer.Granted g) d in absurd (cc));
        filled = λ v made full. absurd (same_cell v made full);
        emptied = λ made empty. absurd (not_both made empty);
      };
      waits = record { waiting = λ e. absurd (cc); not_before = well.never_pending m.party };
      refused_for_cause = still.refused_for_cause;
      leaves_clear = record { each = well.each; refused = λ h. absurd (cc); refused_maker = λ h. absurd (cc) };
      tells_others = record { failed = λ e. absurd (cc e); dropped = λ u e g. absurd (so.outside u (Some Answer.GivenBack) e); refused = λ u list e g f. absurd (so.outside u (Some (refused Refusal.Memory)) e) };
      ends_properly = still.ends_properly;
    }

    pub over_at_once : AnswersAtOnce w m (refused Refusal.Finished) w
    over_at_once = record {
      tried = λ t g. (let never = so.try in absurd (cc (t, never)));
      making = λ g. (let never = so.making (task_of w m.party) (entries_of m.party w.active) (is_maker w.cell m.party) in absurd (cc (g, never)));
      waiting = λ g. (let never = so.waiting (task_of w m.party) (entries_of m.party w.passive) in absurd (cc (g, never)));
      maker = λ g e made. absurd (so.pending e);
      dropped = λ d g made. (let never = so.drop in absurd (cc (d, never)));
      gone = λ d g unmade. (let never = so.drop in absurd (cc (d, never)));
      asked = λ u e g made t none_listed. absurd (so.outside u None e);
      filled = λ v g made e. (let never = idle_maker w m.party s m.what h (well.each m.party) in absurd (cc (made, never)));
      told_all = λ v g ended e. absurd (idle_fills w m.party v s m.what h (well.each m.party) e);
      failed = λ g made e. (let never = idle_maker w m.party s m.what h (well.each m.party) in absurd (cc (made, never)));
      listed = λ g e list some. absurd (so.pending e);
    }
