-- A move that does nothing is a legal step: one that its party may not make, and a poll of a future that has been ready.
use Rattle.world_barrier.proofs.Prelude.{◌≡◌, ℕ, ◌+◌, inl, true, false, None, refl, arith, sym, ◌∙◌, true≢false, Answer, Call, Move, What, Begin, Refusal, Rest, Standing, outside, call_in, refused, Decides, is_outside, is_possible, is_poll_after_ready, nothing, knows, Wait, World, standing_of, wait_of, has_to_tell, wait_then, call_of, IsCause, ChangesOneThing, TellsOnRelease, Carries, Legal, AnswersAtOnce, is_first_poll, is_later_poll, entries_in, Some, Option, inside, Within, is_drop, subst}
use Rattle.world_base.proofs.of_table.Idle as idle
use Rattle.world_base.proofs.of_table.Idle.{Idle, same_decides}
use Rattle.world_barrier.proofs.step.Owns.{Standing_well}

-- which moves are possible
first_possible : (n : ℕ) (s : Standing) (what : What) → is_first_poll s what n ≡ true → call_in knows s what ≡ None → ⊥
first_possible n (outside Rest.Idle) (Begin Call.Wait i) h e = cc
first_possible n (outside Rest.Finished) (Begin Call.Wait i) h e = cc
first_possible n (outside Rest.Pending) (Begin Call.Poll i) h e = cc
first_possible n _ _ h e = cc

later_possible : (s : Standing) (what : What) → is_later_poll s what ≡ true → call_in knows s what ≡ None → ⊥
later_possible (outside Rest.Pending) (Begin Call.Poll i) h e = cc
later_possible _ _ h e = cc

-- a poll after ready is nothing else
record Again (s : Standing) (what : What) : Type 0 where
  first : (n : ℕ) → is_first_poll s what n ≡ false
  later : is_later_poll s what ≡ false
  wait : (b : Wait) → wait_then what (refused Refusal.Finished) b ≡ b
  dropless : is_drop what ≡ false
  outside : is_outside s ≡ true
  outside_it : (u : Within) (d : Option Answer) → s ≡ inside u d → ⊥

again : (s : Standing) (what : What) → is_poll_after_ready s what ≡ true → Again s what
again (outside Rest.Holding) (Begin Call.Poll i) h = record { first = λ n. refl; later = refl; wait = λ b. refl; dropless = refl; outside = refl; outside_it = λ u d e. cc e }
again (outside Rest.Finished) (Begin Call.Poll i) h = record { first = λ n. refl; later = refl; wait = λ b. refl; dropless = refl; outside = refl; outside_it = λ u d e. cc e }
again _ _ h = absurd (cc)

drop_possible : (what : What) → is_drop what ≡ true → call_in knows (outside Rest.Pending) what ≡ None → ⊥
drop_possible (Begin Call.Drop i) h e = cc e
drop_possible _ h e = cc h

module _ (w : World) (m : Move) (well : Standing_well w) where
  abbrev s : Standing
  s = standing_of w m.party

  never_more : w.arrivals ≡ w.arrivals + 1 → ⊥
  never_more e = omega arith

  still_one : (a : Answer) → wait_then m.what a (wait_of w m.party) ≡ wait_of w m.party → ChangesOneThing w m a w
  still_one a e = record {
    effect = nothing;
    allowed = tt;
    lock = refl;
    arrivals = refl;
    lock_list = refl;
    list = refl;
    wait = sym e;
    other_waits = λ q apart. refl;
    others = λ q apart. refl;
    parties = refl;
    size = refl;
    starved_limit = refl;
    generations_limit = refl;
    found_memory = λ list e. absurd (cc);
    parting = λ h. refl;
    giving_up = λ h. absurd (cc);
  }

  carries_nothing : (a : Answer) → ((g : _) → Decides s a s (Answer.Ready g) → ⊥) → Carries w m a w
  carries_nothing a never = record { ready = λ g d. absurd (never g d); led = λ e leads. absurd (never_more e) }

  tells_nothing : (a : Answer) → (has_to_tell w m.party ≡ true → is_possible a ≡ true → ⊥) → TellsOnRelease w m a w
  tells_nothing a never = record { releases = λ has lost. absurd (lost has); tells = λ tells possible. absurd (never tells possible); only_then = λ not tells. absurd (true≢false (sym tells ∙ not)); others = λ q apart. refl }

  abbrev Still : Answer → Type 0
  Still = Idle standing_of (λ x p. knows) Rest.Finished IsCause w m refl

  pub impossible : call_of w m ≡ None → Legal w m Answer.NotPossible w
  impossible none = let still : Still Answer.NotPossible = idle.impossible standing_of (λ x p. knows) Rest.Finished IsCause w m refl none in record {
    possible = still.possible;
    one_change = still_one Answer.NotPossible refl;
    taken_fairly = λ p now before. absurd (before now);
    others_keep = record { lock = λ q apart. ((λ e. e), (λ e. e)); starved = λ q apart. refl };
    tells_on_release = tells_nothing Answer.NotPossible (λ tells possible. cc possible);
    carries = carries_nothing Answer.NotPossible (λ g d. (let e = same_decides s Answer.NotPossible (Answer.Ready g) d in cc));
    waits = record { waiting = λ e. absurd (cc); not_before = well.never_pending m.party };
    refused_for_cause = still.refused_for_cause;
    leaves_clear = record { each = well.each; uncounted = well.uncounted; refused = λ h. absurd (cc) };
    ends_properly = still.ends_properly;
  }

  pub impossible_at_once : call_of w m ≡ None → AnswersAtOnce w m Answer.NotPossible w
  impossible_at_once none = record {
    first_poll = λ h. absurd (first_possible (entries_in w m.party) s m.what h none);
    locking = λ h some. absurd (later_possible s m.what h none);
    refuses = λ within r at apart unlisted plain possible. absurd (cc);
    listed = λ h some. absurd (later_possible s m.what h none);
    abandons = λ d pending some plain. (let S : Standing → Type 0 = λ z. call_in knows z m.what ≡ None in absurd (drop_possible m.what d (subst S pending none)));
    abandons_other = λ d unlisted possible. absurd (cc possible);
    only_leaves = λ h. inl refl;
  }

  module _ (h : is_poll_after_ready s m.what ≡ true) where
    so : Again s m.what
    so = again s m.what h

    pub over : Legal w m (refused Refusal.Finished) w
    over = let still : Still (refused Refusal.Finished) = idle.over standing_of (λ x p. knows) Rest.Finished IsCause w m refl h refl in record {
      possible = still.possible;
      one_change = still_one (refused Refusal.Finished) (so.wait (wait_of w m.party));
      taken_fairly = λ p now before. absurd (before now);
      others_keep = record { lock = λ q apart. ((λ e. e), (λ e. e)); starved = λ q apart. refl };
      tells_on_release = tells_nothing (refused Refusal.Finished) (λ tells possible. (let within = well.told_before m.party tells in let out = so.outside in cc (within, out)));
      carries = carries_nothing (refused Refusal.Finished) (λ g d. (let e = same_decides s (refused Refusal.Finished) (Answer.Ready g) d in cc));
      waits = record { waiting = λ e. absurd (cc); not_before = well.never_pending m.party };
      refused_for_cause = still.refused_for_cause;
      leaves_clear = record { each = well.each; uncounted = well.uncounted; refused = λ h. absurd (cc) };
      ends_properly = still.ends_properly;
    }

    pub over_at_once : AnswersAtOnce w m (refused Refusal.Finished) w
    over_at_once = record {
      first_poll = λ g. (let never = so.first (entries_in w m.party) in absurd (cc (g, never)));
      locking = λ g some. (let never = so.later in absurd (cc (g, never)));
      refuses = λ within r at apart unlisted plain possible. absurd (so.outside_it within (Some (Answer.Refused r)) at);
      listed = λ g some. (let never = so.later in absurd (cc (g, never)));
      abandons = λ d pending some plain. (let S : Standing → Type 0 = λ z. is_poll_after_ready z m.what ≡ true in absurd (cc (subst S pending h)));
      abandons_other = λ d unlisted possible. (let never = so.dropless in absurd (cc (d, never)));
      only_leaves = λ h. inl refl;
    }
