-- Where a call begins or goes on, and at which stage its party is after its action.
use Rattle.world_once_cell.proofs.Prelude.{◌≡◌, ◌&&◌, true, false, Some, refl, sym, subst, Call, Inputs, What, Begin, Go, Kind, Rest, Stage, Outside, Inside, Forgotten, Within, within, some_eq, none_some, both, call_at, polls_again, stage_after, Found, ListName, Active, Passive, Maker, Closure, Given, Place, Claim, ClaimListed, JoinActive, AskActive, LeaveToMake, Make, Fill, NotifyActive, NotifyPassive, Fail, FailNotify, LeaveFull, RefuseActive, Look, JoinPassive, LookListed, AskPassive, LeavePassive, RefusePassive, Try, TryFill, TryNotifyActive, TryNotifyPassive, CancelMake, CancelNotify, CancelLeave, Abandon, Position, Out, ToMake, WaitingToMake, Making, ToWait, Waiting, At, place_for, next_of, seat_of, seated, value_known, is_late, will_tell, knows, runs, is_polling, is_trying, is_cancelling, is_begun, goes_with, answer_by}
use Rattle.std.proofs.lemmas.Bool.{false≢true}
use Rattle.sync_program.specs.declared.once_cell.Found.TheVariants as found
use Rattle.world_once_cell.proofs.of_machine.laws.Kept.{after}

-- The moves of a cell's parties: each call from where it may begin, and going on.
pub record Moves (P : Stage → What → Within → Position → Place → Type 0) : Type 0 where
  pub initialize : (r : Rest) (i : Inputs) → goes_with (Outside r) Out ≡ true → runs Kind.FirstPoll r (Claim Closure false) ≡ true → P (Outside r) (Begin Call.Initialize i) (within Kind.FirstPoll r) Out (Claim Closure false)
  pub set : (v : _) (r : Rest) (i : Inputs) → goes_with (Outside r) Out ≡ true → runs Kind.FirstPoll r (Claim (Given v) false) ≡ true → P (Outside r) (Begin (Call.Set v) i) (within Kind.FirstPoll r) Out (Claim (Given v) false)
  pub wait : (r : Rest) (i : Inputs) → goes_with (Outside r) Out ≡ true → runs Kind.FirstPoll r (Look false) ≡ true → P (Outside r) (Begin Call.Wait i) (within Kind.FirstPoll r) Out (Look false)
  pub try : (v : _) (r : Rest) (i : Inputs) → goes_with (Outside r) Out ≡ true → runs Kind.Try r (Try v) ≡ true → P (Outside r) (Begin (Call.TrySet v) i) (within Kind.Try r) Out (Try v)
  pub poll : (k : Maker) (i : Inputs) → P (Outside Rest.Pending) (Begin Call.Poll i) (within Kind.LaterPoll Rest.Pending) (ToMake k) (Claim k false)
  pub poll_listed : (k : Maker) (i : Inputs) → P (Outside Rest.Pending) (Begin Call.Poll i) (within Kind.LaterPoll Rest.Pending) (WaitingToMake k) (AskActive k)
  pub poll_maker : (k : Maker) (i : Inputs) → P (Outside Rest.Pending) (Begin Call.Poll i) (within Kind.LaterPoll Rest.Pending) (Making k) (Make k)
  pub poll_wait : (i : Inputs) → P (Outside Rest.Pending) (Begin Call.Poll i) (within Kind.LaterPoll Rest.Pending) ToWait (Look false)
  pub poll_waiting : (i : Inputs) → P (Outside Rest.Pending) (Begin Call.Poll i) (within Kind.LaterPoll Rest.Pending) Waiting AskPassive
  pub cancel : (k : Maker) (i : Inputs) → P (Outside Rest.Pending) (Begin Call.Drop i) (within Kind.Drop Rest.Pending) (WaitingToMake k) (CancelLeave Active)
  pub cancel_maker : (k : Maker) (i : Inputs) → P (Outside Rest.Pending) (Begin Call.Drop i) (within Kind.Drop Rest.Pending) (Making k) CancelMake
  pub cancel_wait : (i : Inputs) → P (Outside Rest.Pending) (Begin Call.Drop i) (within Kind.Drop Rest.Pending) Waiting (CancelLeave Passive)
  pub abandon : (k : Maker) (i : Inputs) → P (Outside Rest.Pending) (Begin Call.Drop i) (within Kind.Drop Rest.Pending) (ToMake k) Abandon
  pub abandon_wait : (i : Inputs) → P (Outside Rest.Pending) (Begin Call.Drop i) (within Kind.Drop Rest.Pending) ToWait Abandon
  pub drop_finished : (i : Inputs) → P (Outside Rest.Finished) (Begin Call.Drop i) (within Kind.Drop Rest.Finished) Out Abandon
  pub go : (w : Within) (x : Place) (i : Inputs) → is_begun x ≡ true → runs w.kind w.was x ≡ true → P (Inside w) (Go i) w (At x) x

-- where a move begins, and what is so there
pub record Turn (P : Stage → What → Within → Position → Place → Type 0) (s : Stage) (what : What) (w : Within) (x : Position) : Type 0 where
  pub from : Place
  pub starts : place_for what x ≡ Some from
  pub holds : P s what w x from

module _ (P : Stage → What → Within → Position → Place → Type 0) (k : Moves P) where
  begun : (s : Stage) (what : What) (v w : Within) (x : Position) (from : Place) → place_for what x ≡ Some from → Some v ≡ Some w → P s what v x from → Turn P s what w x
  begun s what v w x from starts e h = let Q : Within → Type 0 = λ u. P s what u x from in record { from = from; starts = starts; holds = subst Q (some_eq e) h }

  -- one stage after the other, since each case of a match over all of them at once would be told apart from all others
  idle : (what : What) (w : Within) → call_at knows (Outside Rest.Idle) what ≡ Some w → Turn P (Outside Rest.Idle) what w Out
  idle (Begin Call.Initialize i) w e = begun _ _ _ w Out (Claim Closure false) refl e (k.initialize Rest.Idle i refl refl)
  idle (Begin (Call.Set v) i) w e = begun _ _ _ w Out (Claim (Given v) false) refl e (k.set v Rest.Idle i refl refl)
  idle (Begin Call.Wait i) w e = begun _ _ _ w Out (Look false) refl e (k.wait Rest.Idle i refl refl)
  idle (Begin (Call.TrySet v) i) w e = begun _ _ _ w Out (Try v) refl e (k.try v Rest.Idle i refl refl)
  idle (Begin _ i) w e = absurd (none_some e)
  idle (Go i) w e = absurd (none_some e)

  finished : (what : What) (w : Within) → call_at knows (Outside Rest.Finished) what ≡ Some w → polls_again (Outside Rest.Finished) what ≡ false → Turn P (Outside Rest.Finished) what w Out
  finished (Begin Call.Initialize i) w e n = begun _ _ _ w Out (Claim Closure false) refl e (k.initialize Rest.Finished i refl refl)
  finished (Begin (Call.Set v) i) w e n = begun _ _ _ w Out (Claim (Given v) false) refl e (k.set v Rest.Finished i refl refl)
  finished (Begin Call.Wait i) w e n = begun _ _ _ w Out (Look false) refl e (k.wait Rest.Finished i refl refl)
  finished (Begin (Call.TrySet v) i) w e n = begun _ _ _ w Out (Try v) refl e (k.try v Rest.Finished i refl refl)
  finished (Begin Call.Drop i) w e n = begun _ _ _ w Out Abandon refl e (k.drop_finished i)
  finished (Begin Call.Poll i) w e n = absurd (false≢true (sym n))
  finished (Begin _ i) w e n = absurd (none_some e)
  finished (Go i) w e n = absurd (none_some e)

  polled : (i : Inputs) (w : Within) (x : Position) → goes_with (Outside Rest.Pending) x ≡ true → call_at knows (Outside Rest.Pending) (Begin Call.Poll i) ≡ Some w → Turn P (Outside Rest.Pending) (Begin Call.Poll i) w x
  polled i w (ToMake m) g e = begun _ _ _ w (ToMake m) (Claim m false) refl e (k.poll m i)
  polled i w (WaitingToMake m) g e = begun _ _ _ w (WaitingToMake m) (AskActive m) refl e (k.poll_listed m i)
  polled i w (Making m) g e = begun _ _ _ w (Making m) (Make m) refl e (k.poll_maker m i)
  polled i w ToWait g e = begun _ _ _ w ToWait (Look false) refl e (k.poll_wait i)
  polled i w Waiting g e = begun _ _ _ w Waiting AskPassive refl e (k.poll_waiting i)
  polled i w _ g e = absurd (false≢true g)

  dropped : (i : Inputs) (w : Within) (x : Position) → goes_with (Outside Rest.Pending) x ≡ true → call_at knows (Outside Rest.Pending) (Begin Call.Drop i) ≡ Some w → Turn P (Outside Rest.Pending) (Begin Call.Drop i) w x
  dropped i w (ToMake m) g e = begun _ _ _ w (ToMake m) Abandon refl e (k.abandon m i)
  dropped i w (WaitingToMake m) g e = begun _ _ _ w (WaitingToMake m) (CancelLeave Active) refl e (k.cancel m i)
  dropped i w (Making m) g e = begun _ _ _ w (Making m) CancelMake refl e (k.cancel_maker m i)
  dropped i w ToWait g e = begun _ _ _ w ToWait Abandon refl e (k.abandon_wait i)
  dropped i w Waiting g e = begun _ _ _ w Waiting (CancelLeave Passive) refl e (k.cancel_wait i)
  dropped i w _ g e = absurd (false≢true g)

  pending : (what : What) (w : Within) (x : Position) → goes_with (Outside Rest.Pending) x ≡ true → call_at knows (Outside Rest.Pending) what ≡ Some w → Turn P (Outside Rest.Pending) what w x
  pending (Begin Call.Poll i) w x g e = polled i w x g e
  pending (Begin Call.Drop i) w x g e = dropped i w x g e
  pending (Begin _ i) w x g e = absurd (none_some e)
  pending (Go i) w x g e = absurd (none_some e)

  resting : (r : Rest) (what : What) (w : Within) (x : Position) → goes_with (Outside r) x ≡ true → call_at knows (Outside r) what ≡ Some w → polls_again (Outside r) what ≡ false → Turn P (Outside r) what w x
  resting Rest.Idle what w Out g e n = idle what w e
  resting Rest.Finished what w Out g e n = finished what w e n
  resting Rest.Pending what w x g e n = pending what w x g e
  resting _ what w _ g e n = absurd (false≢true g)

  pub turn : (s : Stage) (what : What) (w : Within) (x : Position) → goes_with s x ≡ true → call_at knows s what ≡ Some w → polls_again s what ≡ false → Turn P s what w x
  turn (Outside r) what w x g e n = resting r what w x g e n
  turn (Inside v) (Go i) w (At x) g e n = let h = both (is_begun x) (runs v.kind v.was x) g in begun _ _ _ w (At x) x refl e (k.go v x i h.0 h.1)
  turn (Inside v) (Go i) w _ g e n = absurd (false≢true g)
  turn (Inside v) (Begin c i) w x g e n = absurd (none_some e)
  turn Forgotten what w x g e n = absurd (none_some e)

-- A party has as much where its call begins as where it stood, it is as late and has as much to tell, and its place is one of that call's program.
pub record Fits (w : Within) (x : Position) (from : Place) : Type 0 where
  pub same : seat_of from ≡ seated x
  pub late : (list : ListName) → is_late list x ≡ is_late list (At from)
  pub tells : (list : ListName) → will_tell list x ≡ will_tell list (At from)
  pub value : value_known x ≡ value_known (At from)
  pub runs : runs w.kind w.was from ≡ true

both_lists : (P : ListName → Type 0) → P Active → P Passive → (list : ListName) → P list
both_lists P a b Active = a
both_lists P a b Passive = b

pub fits : (s : Stage) (what : What) (w : Within) (x : Position) → goes_with s x ≡ true → call_at knows s what ≡ Some w → polls_again s what ≡ false → Turn (λ s what w x from. Fits w x from) s what w x
fits = turn (λ s what w x from. Fits w x from) (record {
  initialize = λ r i g h. record { same = refl; late = both_lists _ refl refl; tells = both_lists _ refl refl; value = refl; runs = h };
  set = λ v r i g h. record { same = refl; late = both_lists _ refl refl; tells = both_lists _ refl refl; value = refl; runs = h };
  wait = λ r i g h. record { same = refl; late = both_lists _ refl refl; tells = both_lists _ refl refl; value = refl; runs = h };
  try = λ v r i g h. record { same = refl; late = both_lists _ refl refl; tells = both_lists _ refl refl; value = refl; runs = h };
  poll = λ k i. record { same = refl; late = both_lists _ refl refl; tells = both_lists _ refl refl; value = refl; runs = refl };
  poll_listed = λ k i. record { same = refl; late = both_lists _ refl refl; tells = both_lists _ refl refl; value = refl; runs = refl };
  poll_maker = λ k i. record { same = refl; late = both_lists _ refl refl; tells = both_lists _ refl refl; value = refl; runs = refl };
  poll_wait = λ i. record { same = refl; late = both_lists _ refl refl; tells = both_lists _ refl refl; value = refl; runs = refl };
  poll_waiting = λ i. record { same = refl; late = both_lists _ refl refl; tells = both_lists _ refl refl; value = refl; runs = refl };
  cancel = λ k i. record { same = refl; late = both_lists _ refl refl; tells = both_lists _ refl refl; value = refl; runs = refl };
  cancel_maker = λ k i. record { same = refl; late = both_lists _ refl refl; tells = both_lists _ refl refl; value = refl; runs = refl };
  cancel_wait = λ i. record { same = refl; late = both_lists _ refl refl; tells = both_lists _ refl refl; value = refl; runs = refl };
  abandon = λ k i. record { same = refl; late = both_lists _ refl refl; tells = both_lists _ refl refl; value = refl; runs = refl };
  abandon_wait = λ i. record { same = refl; late = both_lists _ refl refl; tells = both_lists _ refl refl; value = refl; runs = refl };
  drop_finished = λ i. record { same = refl; late = both_lists _ refl refl; tells = both_lists _ refl refl; value = refl; runs = refl };
  go = λ w x i begun here. record { same = refl; late = λ list. refl; tells = λ list. refl; value = refl; runs = here };
})

-- ---- the stage after an action goes with where the party then stands

abbrev pub Lands : Within → Place → Found → Type 0
Lands w x f = goes_with (stage_after Rest.Finished w (answer_by (next_of x f))) (after x f) ≡ true

module _ (w : Within) (inside : (x : Place) → is_begun x && is_polling x ≡ true → goes_with (Inside w) (At x) ≡ true) where
  polls : (x : Place) (f : Found) → is_polling x ≡ true → Lands w x f
  polls (Claim k told) found.Empty h = inside (Make k) refl
  polls (Claim k told) (found.Full u) h = refl
  polls (Claim k told) _ h = inside (JoinActive k told) refl
  polls (ClaimListed k) found.Empty h = inside (LeaveToMake k) refl
  polls (ClaimListed k) (found.Full u) h = inside (LeaveFull k u) refl
  polls (ClaimListed k) _ h = inside (AskActive k) refl
  polls (JoinActive k told) found.Done h = inside (ClaimListed k) refl
  polls (JoinActive k true) _ h = inside (RefuseActive k) refl
  polls (JoinActive k false) _ h = refl
  polls (AskActive k) found.Yes h = inside (Claim k true) refl
  polls (AskActive k) _ h = refl
  polls (LeaveToMake k) f h = inside (Make k) refl
  polls (Make k) (found.Made u) h = inside (Fill u) refl
  polls (Make k) found.Failed h = inside Fail refl
  polls (Make k) _ h = refl
  polls (Fill v) f h = inside (NotifyActive v) refl
  polls (NotifyActive v) f h = inside (NotifyPassive v) refl
  polls (NotifyPassive v) f h = refl
  polls Fail f h = inside FailNotify refl
  polls FailNotify f h = refl
  polls (LeaveFull k v) f h = refl
  polls (RefuseActive k) f h = refl
  polls (Look told) (found.Full u) h = refl
  polls (Look told) _ h = inside (JoinPassive told) refl
  polls (JoinPassive told) found.Done h = inside LookListed refl
  polls (JoinPassive true) _ h = inside RefusePassive refl
  polls (JoinPassive false) _ h = refl
  polls LookListed (found.Full u) h = inside (LeavePassive u) refl
  polls LookListed _ h = inside AskPassive refl
  polls AskPassive found.Yes h = inside (Look true) refl
  polls AskPassive _ h = refl
  polls (LeavePassive v) f h = refl
  polls RefusePassive f h = refl
  polls _ f h = absurd (false≢true h)

tries : (r : Rest) → goes_with (Outside r) Out ≡ true → ((x : Place) → is_begun x && is_trying x ≡ true → goes_with (Inside (within Kind.Try r)) (At x) ≡ true) → (x : Place) (f : Found) → is_trying x ≡ true → Lands (within Kind.Try r) x f
tries r g inside (Try v) found.Empty h = inside (TryFill v) refl
tries r g inside (Try v) _ h = g
tries r g inside (TryFill v) f h = inside (TryNotifyActive v) refl
tries r g inside (TryNotifyActive v) f h = inside (TryNotifyPassive v) refl
tries r g inside (TryNotifyPassive v) f h = g
tries r g inside _ f h = absurd (false≢true h)

cancels : (x : Place) (f : Found) → is_cancelling x ≡ true → Lands (within Kind.Drop Rest.Pending) x f
cancels CancelMake f h = refl
cancels CancelNotify f h = refl
cancels (CancelLeave list) f h = refl
cancels Abandon f h = refl
cancels _ f h = absurd (false≢true h)

abandons : (x : Place) (f : Found) → runs Kind.Drop Rest.Finished x ≡ true → Lands (within Kind.Drop Rest.Finished) x f
abandons Abandon f h = refl
abandons _ f h = absurd (false≢true h)

by_kind : (k : Kind) (r : Rest) (x : Place) (f : Found) → runs k r x ≡ true → Lands (within k r) x f
by_kind Kind.FirstPoll Rest.Idle x f h = polls (within Kind.FirstPoll Rest.Idle) (λ y p. p) x f h
by_kind Kind.FirstPoll Rest.Finished x f h = polls (within Kind.FirstPoll Rest.Finished) (λ y p. p) x f h
by_kind Kind.LaterPoll Rest.Pending x f h = polls (within Kind.LaterPoll Rest.Pending) (λ y p. p) x f h
by_kind Kind.Try Rest.Idle x f h = tries Rest.Idle refl (λ y p. p) x f h
by_kind Kind.Try Rest.Finished x f h = tries Rest.Finished refl (λ y p. p) x f h
by_kind Kind.Drop Rest.Pending x f h = cancels x f h
by_kind Kind.Drop Rest.Finished x f h = abandons x f h
by_kind _ _ x f h = absurd (false≢true h)

pub lands : (w : Within) (x : Place) (f : Found) → runs w.kind w.was x ≡ true → Lands w x f
lands w x f h = by_kind w.kind w.was x f h
