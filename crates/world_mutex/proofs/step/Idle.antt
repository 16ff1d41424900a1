-- A move that does nothing is a legal step: one that its party may not make, and a poll of a future that has been ready.
use Rattle.world_mutex.proofs.Prelude.{◌≡◌, ◌≢◌, ℕ, ◌||◌, true, false, Option, Some, None, refl, ap, sym, ◌∙◌, subst, false≢true, entries_of, Answer, Call, Move, What, Begin, Refusal, Kind, Rest, Within, is_drop, is_poll_after_ready, put_in, Standing, outside, inside, call_in, may_end, refused, nothing, outside_inside, knows, call_of, is_try, is_first_poll, is_later_poll, IsCause, HasItsOwn, Legal, AnswersAtOnce, World, standing_of}
use Rattle.world_base.proofs.of_table.Idle as idle
use Rattle.world_base.proofs.of_table.Idle.{Idle, same_decides}

first_possible : (s : Standing) (what : What) (n : ℕ) → call_in knows s what ≡ None → is_first_poll s what n ≡ false
first_possible (outside Rest.Idle) (Begin Call.Lock i) n e = absurd (cc)
first_possible (outside Rest.Finished) (Begin Call.Lock i) n e = absurd (cc)
first_possible (outside Rest.Pending) (Begin Call.Poll i) n e = absurd (cc)
first_possible _ _ n e = refl

later_possible : (s : Standing) (what : What) → call_in knows s what ≡ None → is_later_poll s what ≡ false
later_possible (outside Rest.Pending) (Begin Call.Poll i) e = absurd (cc)
later_possible _ _ e = refl

drop_possible : (what : What) → is_drop what ≡ true → call_in knows (outside Rest.Holding) what ≡ None → ⊥
drop_possible (Begin Call.Drop i) d e = cc
drop_possible _ d e = absurd (cc)

cancel_possible : (what : What) → is_drop what ≡ true → call_in knows (outside Rest.Pending) what ≡ None → ⊥
cancel_possible (Begin Call.Drop i) d e = cc
cancel_possible _ d e = absurd (cc)

-- a poll after ready is nothing else
record Again (s : Standing) (what : What) : Type 0 where
  pub try : is_try what ≡ false
  pub first : (n : ℕ) → is_first_poll s what n ≡ false
  pub put : put_in what ≡ None
  pub later : is_later_poll s what ≡ false
  pub drop : is_drop what ≡ false
  pub outside : (u : Within) (d : Option Answer) → s ≢ inside u d

again : (s : Standing) (what : What) → is_poll_after_ready s what ≡ true → Again s what
again (outside Rest.Holding) (Begin Call.Poll i) h = record { try = refl; first = λ n. refl; put = refl; later = refl; drop = refl; outside = λ u d. outside_inside }
again (outside Rest.Finished) (Begin Call.Poll i) h = record { try = refl; first = λ n. refl; put = refl; later = refl; drop = refl; outside = λ u d. outside_inside }
again _ _ h = absurd (cc)

-- what holds of any World that stands
pub record StandsWell (w : World) : Type 0 where
  pub each : (p : ℕ) → HasItsOwn w p (standing_of w p)
  pub ends : (p : ℕ) (u : Within) (b : Answer) → standing_of w p ≡ inside u (Some b) → may_end u.kind b ≡ true
  pub never_pending : (p : ℕ) (u : Within) → standing_of w p ≢ inside u (Some Answer.Pending)

-- a legal step, answered at once where it should be
pub record IsGood (old : World) (m : Move) (a : Answer) (new : World) : Type 0 where
  pub legal : Legal old m a new
  pub at_once : AnswersAtOnce old m a new

module _ (w : World) (m : Move) (well : StandsWell w) where
  abbrev s : Standing
  s = standing_of w m.party

  abbrev Still : Answer → Type 0
  Still = Idle standing_of (λ x p. knows) Rest.Holding IsCause w m refl

  pub impossible : call_of w m ≡ None → IsGood w m Answer.NotPossible w
  impossible none =
      let still : Still Answer.NotPossible = idle.impossible standing_of (λ x p. knows) Rest.Holding IsCause w m refl none in
      record {
        legal = record {
          possible = still.possible;
          one_change = record { effect = nothing; state = refl; entries = refl; limit = refl; opening_value = refl; others = λ q apart. refl; parties = refl; found_memory = λ list e. absurd (cc); parting = λ h. refl; giving_up = λ g. absurd (cc); notice = refl; tells = λ list n e. absurd (cc) };
          taken_fairly = λ q is was. absurd (was is);
          others_keep = record { lock = λ q apart. ((λ h. h), (λ h. h)); starved = λ q apart. refl; limit = λ was is. absurd (cc) };
          carries = record { ready = λ got d. (let e = same_decides s Answer.NotPossible (Answer.Ready got) d in absurd (cc)); granted = λ got d. (let e = same_decides s Answer.NotPossible (Answer.Granted got) d in absurd (cc)) };
          waits = record { waiting = λ e. absurd (cc); not_before = well.never_pending m.party };
          refused_for_cause = still.refused_for_cause;
          leaves_clear = record { each = well.each; decided = well.ends; refused = λ h. absurd (cc) };
          value_kept = record { put = λ v e h. absurd (cc); kept = λ h. refl };
          ends_properly = still.ends_properly;
        };
        at_once = record {
          at_once = λ e h. absurd (cc);
          ready = λ e. absurd (false≢true (sym (first_possible s m.what (entries_of m.party w.entries) none) ∙ e));
          first_poll = λ e. absurd (false≢true (sym (first_possible s m.what (entries_of m.party w.entries) none) ∙ e));
          looks = λ e h. absurd (cc);
          listed = λ e some. absurd (false≢true (sym (later_possible s m.what none) ∙ e));
          released = λ d e. (let C : Standing → Type 0 = λ z. call_in knows z m.what ≡ None in absurd (drop_possible m.what d (subst C e none)));
          abandons = λ d e some plain. (let C : Standing → Type 0 = λ z. call_in knows z m.what ≡ None in absurd (cancel_possible m.what d (subst C e none)));
          notifies = λ e h. absurd (cc);
          refuses = λ within r e none plain possible. absurd (cc);
        };
      }

  pub over : is_poll_after_ready s m.what ≡ true → IsGood w m (refused Refusal.Finished) w
  over h =
      let still : Still (refused Refusal.Finished) = idle.over standing_of (λ x p. knows) Rest.Holding IsCause w m refl h refl in
      let so = again s m.what h in
      record {
        legal = record {
          possible = still.possible;
          one_change = record { effect = nothing; state = refl; entries = refl; limit = refl; opening_value = refl; others = λ q apart. refl; parties = refl; found_memory = λ list e. absurd (cc); parting = λ h. refl; giving_up = λ g. absurd (cc); notice = refl; tells = λ list n e. absurd (cc) };
          taken_fairly = λ q is was. absurd (was is);
          others_keep = record { lock = λ q apart. ((λ h. h), (λ h. h)); starved = λ q apart. refl; limit = λ was is. absurd (cc) };
          carries = record { ready = λ got d. (let e = same_decides s (refused Refusal.Finished) (Answer.Ready got) d in absurd (cc)); granted = λ got d. (let e = same_decides s (refused Refusal.Finished) (Answer.Granted got) d in absurd (cc)) };
          waits = record { waiting = λ e. absurd (cc); not_before = well.never_pending m.party };
          refused_for_cause = still.refused_for_cause;
          leaves_clear = record { each = well.each; decided = well.ends; refused = λ h. absurd (cc) };
          value_kept = record { put = λ v e p. (let never = so.put in absurd (cc)); kept = λ h. refl };
          ends_properly = still.ends_properly;
        };
        at_once = record {
          at_once = λ e p. (let never = so.try in absurd (cc));
          ready = λ e. absurd (false≢true (sym (so.first (entries_of m.party w.entries)) ∙ e));
          first_poll = λ e. absurd (false≢true (sym (so.first (entries_of m.party w.entries)) ∙ e));
          looks = λ e p. absurd (false≢true (sym (ap (λ b. b || is_first_poll s m.what (entries_of m.party w.entries)) so.try ∙ so.first (entries_of m.party w.entries)) ∙ e));
          listed = λ e some. absurd (false≢true (sym so.later ∙ e));
          released = λ d e. absurd (false≢true (sym so.drop ∙ d));
          abandons = λ d e some plain. absurd (false≢true (sym so.drop ∙ d));
          notifies = λ e p. absurd (so.outside (record { kind = Kind.Drop; was = Rest.Holding }) (Some Answer.GivenBack) e);
          refuses = λ within r e none plain possible. absurd (so.outside within (Some (Answer.Refused r)) e);
        };
      }
