-- What is so where a move begins or goes on.
use Rattle.world_barrier.proofs.Prelude.{◌≡◌, ℕ, ◌||◌, Bool, true, false, Some, is_some, refl, arith, subst, Answer, Call, Inputs, What, Begin, Go, Kind, Rest, Stage, Outside, Inside, Forgotten, Within, within, inside, is_decided, is_drop, some_eq, both, not_one, stands_as, call_at, polls_again, decides_so, undecided_so, Course, Aim, Place, EnterLock, WaitLock, Ask, CancelLock, CancelLeave, Abandon, Position, Out, Made, Locking, Waiting, At, place_for, listed, wait_at, place_wait, verdict, verdict_of, knows, runs, is_begun, goes_with, wait_then, is_first_poll, is_later_poll}
use Rattle.world_barrier.proofs.of_machine.stages.Starts.{Fits}

-- a place at which a call may begin, and one at which a party's wait isn't what it was before
abbrev pub may_begin_at : Place → Bool
may_begin_at (EnterLock a) = true
may_begin_at (WaitLock a) = true
may_begin_at Ask = true
may_begin_at CancelLock = true
may_begin_at CancelLeave = true
may_begin_at Abandon = true
may_begin_at _ = false

abbrev pub changes_wait : Place → Bool
changes_wait (EnterLock Aim.Arrive) = true
changes_wait CancelLock = true
changes_wait CancelLeave = true
changes_wait Abandon = true
changes_wait _ = false

-- the drop's places at which a call only begins
abbrev pub only_drops : Place → Bool
only_drops CancelLock = true
only_drops CancelLeave = true
only_drops Abandon = true
only_drops _ = false

abbrev pub enters_lock : Place → Bool
enters_lock (EnterLock a) = true
enters_lock _ = false

-- how many entries a party has in both lists that waits in one
abbrev pub HasEntries : Position → ℕ → Type 0
HasEntries (Locking a) n = n ≡ 1
HasEntries Waiting n = n ≡ 1
HasEntries x n = Unit {0}

pub record Here (s : Stage) (what : What) (w : Within) (x : Position) (from : Place) : Type 0 where
  pub fits : Fits w x from
  pub wait : (n : ℕ) → wait_then what Answer.Stepped (wait_at x n) ≡ place_wait from n
  pub before : (n : ℕ) → changes_wait from ≡ false → wait_at x n ≡ place_wait from n
  pub decides : (c : Course) → is_decided (stands_as (verdict x c) s) || is_drop what ≡ is_some (verdict_of from c)
  pub kept : (c : Course) (u : Within) (b : Answer) → stands_as (verdict x c) s ≡ inside u (Some b) → verdict_of from c ≡ Some b
  pub undecided : (c : Course) → is_decided (stands_as (verdict x c) s) ≡ false → (b : Answer) → verdict_of from c ≡ Some b → b ≡ Answer.GivenBack
  pub going : may_begin_at from ≡ false → (c : Course) → stands_as (verdict x c) s ≡ inside w (verdict_of from c)
  pub drops : only_drops from ≡ true → is_drop what ≡ true
  pub first : (c : Course) (n : ℕ) → is_first_poll (stands_as (verdict x c) s) what n ≡ true → HasEntries x n → enters_lock from ≡ true
  pub later : (c : Course) → is_later_poll (stands_as (verdict x c) s) what ≡ true → listed x ≡ 1 → from ≡ Ask

-- where a move begins, and what is so there
pub record Turn (s : Stage) (what : What) (w : Within) (x : Position) : Type 0 where
  pub from : Place
  pub starts : place_for what x ≡ Some from
  pub here : Here s what w x from

turned : (s : Stage) (what : What) (v w : Within) (x : Position) (from : Place) → place_for what x ≡ Some from → Some v ≡ Some w → Here s what v x from → Turn s what w x
turned s what v w x from starts e h = let P : Within → Type 0 = λ u. Here s what u x from in record { from = from; starts = starts; here = subst P (some_eq e) h }

never_begun : (x : Place) → is_begun x ≡ true → only_drops x ≡ true → ⊥
never_begun CancelLock b h = cc b
never_begun CancelLeave b h = cc b
never_begun Abandon b h = cc b
never_begun _ b h = cc h

begins_wait : (r : Rest) (i : Inputs) → runs Kind.FirstPoll r (EnterLock Aim.Arrive) ≡ true → Here (Outside r) (Begin Call.Wait i) (within Kind.FirstPoll r) Out (EnterLock Aim.Arrive)
begins_wait r i g = record {
  fits = record { stands = refl; lock = refl; counted = λ h. h; sure = λ a v h. tt; outcome = λ a v h. tt; late = refl; tells = refl; runs = g };
  wait = λ n. refl;
  before = λ n h. absurd (cc);
  decides = λ c. refl;
  kept = λ c u b e. absurd (cc);
  undecided = λ c h b e. cc;
  going = λ h. absurd (cc);
  drops = λ h. absurd (cc);
  first = λ c n h z. refl;
  later = λ c h l. absurd (cc);
}

polls_made : (m : Aim) (i : Inputs) → Here (Outside Rest.Pending) (Begin Call.Poll i) (within Kind.LaterPoll Rest.Pending) (Made m) (EnterLock m)
polls_made m i = record {
  fits = record { stands = refl; lock = refl; counted = λ h. h; sure = λ a v h. tt; outcome = λ a v h. tt; late = refl; tells = refl; runs = refl };
  wait = λ n. refl;
  before = λ n h. refl;
  decides = λ c. refl;
  kept = λ c u b e. absurd (cc);
  undecided = λ c h b e. cc;
  going = λ h. absurd (cc);
  drops = λ h. absurd (cc);
  first = λ c n h z. refl;
  later = λ c h l. absurd (omega arith);
}

polls_locking : (m : Aim) (i : Inputs) → Here (Outside Rest.Pending) (Begin Call.Poll i) (within Kind.LaterPoll Rest.Pending) (Locking m) (WaitLock m)
polls_locking m i = record {
  fits = record { stands = refl; lock = refl; counted = λ h. h; sure = λ a v h. tt; outcome = λ a v h. tt; late = refl; tells = refl; runs = refl };
  wait = λ n. refl;
  before = λ n h. refl;
  decides = λ c. refl;
  kept = λ c u b e. absurd (cc);
  undecided = λ c h b e. cc;
  going = λ h. absurd (cc);
  drops = λ h. absurd (cc);
  first = λ c n h z. absurd (not_one n h z);
  later = λ c h l. absurd (omega arith);
}

polls_waiting : (i : Inputs) → Here (Outside Rest.Pending) (Begin Call.Poll i) (within Kind.LaterPoll Rest.Pending) Waiting Ask
polls_waiting i = record {
  fits = record { stands = refl; lock = refl; counted = λ h. h; sure = λ a v h. tt; outcome = λ a v h. tt; late = refl; tells = refl; runs = refl };
  wait = λ n. refl;
  before = λ n h. refl;
  decides = λ c. refl;
  kept = λ c u b e. absurd (cc);
  undecided = λ c h b e. cc;
  going = λ h. absurd (cc);
  drops = λ h. absurd (cc);
  first = λ c n h z. absurd (not_one n h z);
  later = λ c h l. refl;
}

drops_made : (m : Aim) (i : Inputs) → Here (Outside Rest.Pending) (Begin Call.Drop i) (within Kind.Drop Rest.Pending) (Made m) Abandon
drops_made m i = record {
  fits = record { stands = refl; lock = refl; counted = λ h. absurd (cc h); sure = λ a v h. tt; outcome = λ a v h. tt; late = refl; tells = refl; runs = refl };
  wait = λ n. refl;
  before = λ n h. absurd (cc);
  decides = λ c. refl;
  kept = λ c u b e. absurd (cc);
  undecided = λ c h b e. cc;
  going = λ h. absurd (cc);
  drops = λ h. refl;
  first = λ c n h z. absurd (cc);
  later = λ c h l. absurd (cc);
}

drops_locking : (m : Aim) (i : Inputs) → Here (Outside Rest.Pending) (Begin Call.Drop i) (within Kind.Drop Rest.Pending) (Locking m) CancelLock
drops_locking m i = record {
  fits = record { stands = refl; lock = refl; counted = λ h. absurd (cc h); sure = λ a v h. tt; outcome = λ a v h. tt; late = refl; tells = refl; runs = refl };
  wait = λ n. refl;
  before = λ n h. absurd (cc);
  decides = λ c. refl;
  kept = λ c u b e. absurd (cc);
  undecided = λ c h b e. cc;
  going = λ h. absurd (cc);
  drops = λ h. refl;
  first = λ c n h z. absurd (cc);
  later = λ c h l. absurd (cc);
}

drops_waiting : (i : Inputs) → Here (Outside Rest.Pending) (Begin Call.Drop i) (within Kind.Drop Rest.Pending) Waiting CancelLeave
drops_waiting i = record {
  fits = record { stands = refl; lock = refl; counted = λ h. h; sure = λ a v h. tt; outcome = λ a v h. tt; late = refl; tells = refl; runs = refl };
  wait = λ n. refl;
  before = λ n h. absurd (cc);
  decides = λ c. refl;
  kept = λ c u b e. absurd (cc);
  undecided = λ c h b e. cc;
  going = λ h. absurd (cc);
  drops = λ h. refl;
  first = λ c n h z. absurd (cc);
  later = λ c h l. absurd (cc);
}

drops_finished : (i : Inputs) → Here (Outside Rest.Finished) (Begin Call.Drop i) (within Kind.Drop Rest.Finished) Out Abandon
drops_finished i = record {
  fits = record { stands = refl; lock = refl; counted = λ h. h; sure = λ a v h. tt; outcome = λ a v h. tt; late = refl; tells = refl; runs = refl };
  wait = λ n. refl;
  before = λ n h. absurd (cc);
  decides = λ c. refl;
  kept = λ c u b e. absurd (cc);
  undecided = λ c h b e. cc;
  going = λ h. absurd (cc);
  drops = λ h. refl;
  first = λ c n h z. absurd (cc);
  later = λ c h l. absurd (cc);
}

goes_on : (v : Within) (x : Place) (i : Inputs) → is_begun x ≡ true → runs v.kind v.was x ≡ true → Here (Inside v) (Go i) v (At x) x
goes_on v x i b g = record {
  fits = record { stands = refl; lock = refl; counted = λ h. h; sure = λ a w h. h; outcome = λ a w h. h; late = refl; tells = refl; runs = g };
  wait = λ n. refl;
  before = λ n h. refl;
  decides = λ c. decides_so v (verdict_of x c);
  kept = λ c u d e. cc;
  undecided = λ c h d e. undecided_so v (verdict_of x c) d h e;
  going = λ h c. refl;
  drops = λ h. absurd (never_begun x b h);
  first = λ c n h z. absurd (cc);
  later = λ c h l. absurd (cc);
}

pub turn : (s : Stage) (what : What) (w : Within) (x : Position) → goes_with s x ≡ true → call_at knows s what ≡ Some w → polls_again s what ≡ false → Turn s what w x
turn (Outside Rest.Idle) (Begin Call.Wait i) w Out g e n = turned _ _ _ w Out (EnterLock Aim.Arrive) refl e (begins_wait Rest.Idle i refl)
turn (Outside Rest.Idle) (Begin _ i) w Out g e n = absurd (cc)
turn (Outside Rest.Finished) (Begin Call.Wait i) w Out g e n = turned _ _ _ w Out (EnterLock Aim.Arrive) refl e (begins_wait Rest.Finished i refl)
turn (Outside Rest.Finished) (Begin Call.Drop i) w Out g e n = turned _ _ _ w Out Abandon refl e (drops_finished i)
turn (Outside Rest.Finished) (Begin _ i) w Out g e n = absurd (cc)
turn (Outside Rest.Pending) (Begin Call.Poll i) w (Made m) g e n = turned _ _ _ w (Made m) (EnterLock m) refl e (polls_made m i)
turn (Outside Rest.Pending) (Begin Call.Poll i) w (Locking m) g e n = turned _ _ _ w (Locking m) (WaitLock m) refl e (polls_locking m i)
turn (Outside Rest.Pending) (Begin Call.Poll i) w Waiting g e n = turned _ _ _ w Waiting Ask refl e (polls_waiting i)
turn (Outside Rest.Pending) (Begin Call.Drop i) w (Made m) g e n = turned _ _ _ w (Made m) Abandon refl e (drops_made m i)
turn (Outside Rest.Pending) (Begin Call.Drop i) w (Locking m) g e n = turned _ _ _ w (Locking m) CancelLock refl e (drops_locking m i)
turn (Outside Rest.Pending) (Begin Call.Drop i) w Waiting g e n = turned _ _ _ w Waiting CancelLeave refl e (drops_waiting i)
turn (Outside Rest.Pending) (Begin _ i) w _ g e n = absurd (cc)
turn (Outside _) (Begin _ i) w _ g e n = absurd (cc)
turn (Outside _) (Go i) w x g e n = absurd (cc)
turn (Inside v) (Go i) w (At x) g e n = let h = both (is_begun x) (runs v.kind v.was x) g in turned _ _ _ w (At x) x refl e (goes_on v x i h.0 h.1)
turn (Inside v) (Go i) w _ g e n = absurd (cc)
turn (Inside v) (Begin _ i) w x g e n = absurd (cc)
turn Forgotten what w x g e n = absurd (cc)
