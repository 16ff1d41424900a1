-- A move that does nothing is a legal step: one that its party may not make, and a poll of a future that has been ready.
use Rattle.world_semaphore.proofs.Prelude.{◌≡◌, ◌≢◌, ℕ, ◌||◌, true, false, Option, Some, None, refl, ap, sym, ◌∙◌, subst, false≢true, Answer, Call, Move, What, Begin, Refusal, Rest, Within, Standing, outside, inside, is_outside, call_in, may_end, refused, is_poll_after_ready, is_drop, outside_inside, knows, World, standing_of, size_of, debt_of, nothing, nothing_owed, a_fit, call_of, added_in, is_forget, size_after, KnowsDebts, IsCause, HasItsOwn, Legal, AnswersAtOnce, is_try, is_poll, is_first_poll}
use Rattle.world_base.proofs.of_table.Idle as idle
use Rattle.world_base.proofs.of_table.Idle.{Idle, same_decides}

-- which moves are possible
module _ (n : ℕ) where
  poll_possible : (s : Standing) (what : What) → is_poll s what ≡ true → call_in knows s what ≡ None → ⊥
  poll_possible (outside Rest.Idle) (Begin (Call.Acquire k) i) h e = cc
  poll_possible (outside Rest.Finished) (Begin (Call.Acquire k) i) h e = cc
  poll_possible (outside Rest.Pending) (Begin Call.Poll i) h e = cc
  poll_possible _ _ h e = cc

  first_polls : (s : Standing) (what : What) → is_first_poll s what n ≡ true → is_poll s what ≡ true
  first_polls (outside Rest.Idle) (Begin (Call.Acquire k) i) h = refl
  first_polls (outside Rest.Finished) (Begin (Call.Acquire k) i) h = refl
  first_polls (outside Rest.Pending) (Begin Call.Poll i) h = refl
  first_polls _ _ h = absurd (cc)

  drop_possible : (s : Standing) (what : What) → is_drop what ≡ true → s ≡ outside Rest.Holding → call_in knows s what ≡ None → ⊥
  drop_possible s (Begin Call.Drop i) h e none = let P : Standing → Type 0 = λ x. call_in knows x (Begin Call.Drop i) ≡ None in let never : P (outside Rest.Holding) = subst P e none in cc (never)
  drop_possible s _ h e none = cc (h)

-- a poll after ready is nothing else
record Again (s : Standing) (what : What) : Type 0 where
  pub try : is_try what ≡ false
  pub poll : is_poll s what ≡ false
  pub add : added_in what ≡ None
  pub forget : is_forget what ≡ false
  pub drop : is_drop what ≡ false
  pub outside : (u : Within) (d : Option Answer) → s ≢ inside u d

again : (s : Standing) (what : What) → is_poll_after_ready s what ≡ true → Again s what
again (outside Rest.Holding) (Begin Call.Poll i) h = record { try = refl; poll = refl; add = refl; forget = refl; drop = refl; outside = λ u d. outside_inside }
again (outside Rest.Finished) (Begin Call.Poll i) h = record { try = refl; poll = refl; add = refl; forget = refl; drop = refl; outside = λ u d. outside_inside }
again _ _ h = absurd (cc)

-- what holds of any World that stands
pub record StandsWell (w : World) : Type 0 where
  pub each : (p : ℕ) → HasItsOwn w p (standing_of w p)
  pub paid : (p : ℕ) → is_outside (standing_of w p) ≡ true → debt_of w p ≡ nothing_owed
  pub ends : (p : ℕ) (u : Within) (b : Answer) → standing_of w p ≡ inside u (Some b) → may_end u.kind b ≡ true
  pub pends : (p : ℕ) (u : Within) → standing_of w p ≡ inside u (Some Answer.Pending) → (n : ℕ) × (debt_of w p ≡ a_fit n)

again_out : (s : Standing) (what : What) → is_poll_after_ready s what ≡ true → is_outside s ≡ true
again_out (outside Rest.Holding) (Begin Call.Poll i) h = refl
again_out (outside Rest.Finished) (Begin Call.Poll i) h = refl
again_out _ _ h = absurd (cc)

-- such a move is for no other number of permits
never_sized : (what : What) (n : ℕ) → n ≡ size_after what Answer.NotPossible n
never_sized what n = refl

again_sized : (s : Standing) (what : What) (n : ℕ) → is_poll_after_ready s what ≡ true → n ≡ size_after what (refused Refusal.Finished) n
again_sized (outside Rest.Holding) (Begin Call.Poll i) n h = refl
again_sized (outside Rest.Finished) (Begin Call.Poll i) n h = refl
again_sized _ _ n h = absurd (cc)

module _ (w : World) (m : Move) (well : StandsWell w) where
  abbrev s : Standing
  s = standing_of w m.party

  -- who stands outside every call owes nothing, before and after a move that does nothing
  unmoved : is_outside s ≡ true → KnowsDebts w m w
  unmoved out =
      let none : debt_of w m.party ≡ nothing_owed = well.paid m.party out in
      record {
        own = record {
          told = λ is isnt. absurd (cc (is, isnt));
          looks = λ h. absurd (cc (none, h));
          finds = λ n h. absurd (cc (none, h));
          looked = λ h g. absurd (cc (h, g));
          fitted = λ n h g. absurd (cc (h, g));
        };
        others = λ q apart. refl;
      }

  abbrev Still : Answer → Type 0
  Still = Idle standing_of (λ x p. knows) Rest.Holding IsCause w m refl

  pub impossible : call_of w m ≡ None → Legal w m Answer.NotPossible w
  impossible none = let still : Still Answer.NotPossible = idle.impossible standing_of (λ x p. knows) Rest.Holding IsCause w m refl none in record {
    possible = still.possible;
    one_change = record { effect = nothing; allowed = tt; state = refl; entries = refl; most = refl; opening_permits = refl; others = λ q apart. refl; parties = refl; found_memory = λ e. absurd (cc); parting = λ h. refl; giving_up = λ h. absurd (cc) };
    knows_sizes = record { own = never_sized m.what (size_of w m.party); others = λ q apart. refl };
    knows_debts = λ h. absurd (cc h);
    carries = record { ready = λ got d. (let e = same_decides s Answer.NotPossible (Answer.Ready got) d in absurd (cc)); granted = λ got d. (let e = same_decides s Answer.NotPossible (Answer.Granted got) d in absurd (cc)) };
    waits = record { waiting = λ d. (let e = same_decides s Answer.NotPossible Answer.Pending d in absurd (cc e)); listed = λ e. absurd (cc e); before = well.pends m.party };
    refused_for_cause = still.refused_for_cause;
    leaves_clear = record { each = well.each; decided = well.ends; paid = well.paid; refused = λ h. absurd (cc) };
    ends_properly = still.ends_properly;
  }

  pub impossible_at_once : call_of w m ≡ None → AnswersAtOnce w m Answer.NotPossible w
  impossible_at_once none = record {
    tried = λ t h. absurd (cc);
    polled = λ h. absurd (poll_possible 0 s m.what h none);
    taken = λ h f. absurd (poll_possible 0 s m.what h none);
    ready = λ h. absurd (poll_possible 0 s m.what (first_polls _ s m.what h) none);
    added = λ n e h. absurd (cc);
    forgotten = λ e h. absurd (cc);
    looks = λ e h. absurd (cc);
    returned = λ d e. absurd (drop_possible 0 s m.what d e none);
    tells = λ r e h. absurd (cc);
    gives = λ e h. absurd (cc);
    refuses = λ v e h. absurd (cc);
    waits = λ v e h. absurd (cc);
  }

  module _ (h : is_poll_after_ready s m.what ≡ true) where
    abbrev so : Again s m.what
    so = again s m.what h

    pub over : Legal w m (refused Refusal.Finished) w
    over = let still : Still (refused Refusal.Finished) = idle.over standing_of (λ x p. knows) Rest.Holding IsCause w m refl h refl in record {
      possible = still.possible;
      one_change = record { effect = nothing; allowed = tt; state = refl; entries = refl; most = refl; opening_permits = refl; others = λ q apart. refl; parties = refl; found_memory = λ e. absurd (cc); parting = λ h. refl; giving_up = λ h. absurd (cc) };
      knows_sizes = record { own = again_sized s m.what (size_of w m.party) h; others = λ q apart. refl };
      knows_debts = λ possible. unmoved (again_out s m.what h);
      carries = record { ready = λ got d. (let e = same_decides s (refused Refusal.Finished) (Answer.Ready got) d in absurd (cc)); granted = λ got d. (let e = same_decides s (refused Refusal.Finished) (Answer.Granted got) d in absurd (cc)) };
      waits = record { waiting = λ d. (let e = same_decides s (refused Refusal.Finished) Answer.Pending d in absurd (cc e)); listed = λ e. absurd (cc e); before = well.pends m.party };
      refused_for_cause = still.refused_for_cause;
      leaves_clear = record { each = well.each; decided = well.ends; paid = well.paid; refused = λ h. absurd (cc) };
      ends_properly = still.ends_properly;
    }

    pub over_at_once : AnswersAtOnce w m (refused Refusal.Finished) w
    over_at_once = record {
      tried = λ t g. (let never = so.try in absurd (cc));
      polled = λ g. (let never = so.poll in absurd (cc));
      taken = λ g f. (let never = so.poll in absurd (cc));
      ready = λ g. (let never = so.poll in let polls = first_polls _ s m.what g in absurd (cc));
      added = λ n e g. (let never = so.add in absurd (cc));
      forgotten = λ e g. (let never = so.forget in absurd (cc));
      looks = λ e g. (let never : is_try m.what || is_poll s m.what ≡ false = ap (λ b. b || is_poll s m.what) so.try ∙ so.poll in absurd (false≢true (sym never ∙ e)));
      returned = λ d e. (let never = so.drop in absurd (cc));
      tells = λ r e g. absurd (so.outside _ _ e);
      gives = λ e g. absurd (so.outside _ _ e);
      refuses = λ v e g. absurd (so.outside _ _ e);
      waits = λ v e g. absurd (so.outside _ _ e);
    }
