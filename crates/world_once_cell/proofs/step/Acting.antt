-- An action of a party is a legal step, as callers see it.
use Rattle.world_once_cell.proofs.Prelude.{◌≡◌, ◌≢◌, ℕ, ◌<◌, ◌||◌, ◌⊎◌, inl, inr, true, false, List, length, Option, Some, None, is_some, refl, arith, ap, sym, ◌∙◌, subst, get_or-set_same, get_or-set_other, set, Entry, Waits_unmarked, is_marked_at, mark_at, is_party, entries_of, Answer, Call, Got, Inputs, Made, Move, What, Begin, Go, Refusal, Kind, Rest, Stage, Outside, Inside, Forgotten, Within, Standing, inside, inputs_of, call_in, is_possible, is_stepped, is_decided, may_end, decision, refused, IsUndecided, is_drop, is_giving_back, is_poll_after_ready, is_refusal, Effect, nothing, changes, does, joins, asks, leaves, notifies, notifies_additionally, list_after, some_eq, none_some, finished_number, both, notified_marked, stage_at, stands_as, call_at, polls_again, stage_after, Table, call_seen, again_seen, stands_seen, decided_after, decision_seen, later_ends, Action, Found, ListName, Active, Passive, Maker, Closure, Given, Next, Place, Claim, ClaimListed, JoinActive, AskActive, LeaveToMake, Make, Fill, NotifyActive, NotifyPassive, Fail, FailNotify, LeaveFull, RefuseActive, Look, JoinPassive, LookListed, AskPassive, LeavePassive, RefusePassive, Try, TryFill, TryNotifyActive, TryNotifyPassive, CancelMake, CancelNotify, CancelLeave, Abandon, Position, Out, ToMake, WaitingToMake, Making, ToWait, Waiting, At, Content, Empty, BeingMade, place_for, action_of, next_of, position_after, Task, failed, task_at, place_task, Seat, makes_at, in_active, in_passive_at, verdict, verdict_of, Change, begins, fills, empties, effect_of, content_after, active_after, passive_after, Finds, IsDone, OnceCell, IsCell, Acts, knows, goes_with, runs, is_begun, is_polling, is_trying, is_cancelling, is_abandoning, is_maker, position_at, answer_by, World, list_in, standing_of, task_of, view_of, task_in, or_before, task_then, makes, list_for, given, is_open, call_of, DecidesOn, gives_something_back, IsItsList, MayTell, IsAllowed, ChangesOneThing, KnowsTask, Carried, IsGranted, Carries, IsPendingMaker, WaitsInList, Waits, IsCause, IsRefusedForCause, LeavesClear, IsTold, TellsOthers, EndsProperly, Legal, IsCellTable}
use Rattle.world_base.proofs.of_queue.Told.{waits_at}
use Rattle.lock_program.specs.Refusals.{number_of}
use Rattle.lock_program.specs.declared.end.End.{End}
use Rattle.world_base.proofs.of_table.Acting as acting
use Rattle.sync_program.specs.declared.once_cell.Action.TheVariants as act
use Rattle.sync_program.specs.declared.once_cell.Found.TheVariants as found
use Rattle.lock_program.specs.declared.end.Next.TheVariants as next
use Rattle.world_once_cell.proofs.of_machine.laws.Kept.{after}
use Rattle.world_once_cell.proofs.of_machine.stages.Turns.{lands}
use Rattle.world_once_cell.proofs.of_machine.laws.Contents as contents
use Rattle.world_once_cell.proofs.of_machine.laws.Told.{in_list}
use Rattle.world_once_cell.proofs.table.Seen as seen
use Rattle.world_once_cell.proofs.step.Owns as legals
use Rattle.world_once_cell.proofs.step.Owns.{each_has, never_pending}
use Rattle.world_once_cell.proofs.step.Rows.{said, open_at, is_join, is_notify, content_then, AllowedAt, Refuses, Reason, Judged, Room, Row, row}
use Rattle.world_once_cell.proofs.step.Here.{Here, TaskFits}

-- ---- Answers

-- what a call is decided on after this
said_so : (x : Place) (n : Next) → decided_after (answer_by n) (verdict (position_after n)) ≡ said n
said_so x (next.Do y) = refl
said_so x (next.End End.Got y) = refl
said_so x (next.End End.Granted y) = refl
said_so x (next.End End.Pending y) = refl
said_so x (next.End End.NotFree y) = refl
said_so x (next.End End.Waiting y) = refl
said_so x (next.End End.GivenBack y) = refl
said_so x (next.End (End.Refused r) y) = refl

possible_by : (n : Next) → is_possible (answer_by n) ≡ true
possible_by (next.Do y) = refl
possible_by (next.End End.Got y) = refl
possible_by (next.End End.Granted y) = refl
possible_by (next.End End.Pending y) = refl
possible_by (next.End End.NotFree y) = refl
possible_by (next.End End.Waiting y) = refl
possible_by (next.End End.GivenBack y) = refl
possible_by (next.End (End.Refused r) y) = refl

-- what is answered, and doesn't go on, was decided
said_then : (n : Next) (b : Answer) → is_stepped b ≡ false → answer_by n ≡ b → said n ≡ Some b
said_then (next.Do y) b h e = let never : is_stepped Answer.Stepped ≡ false = ap is_stepped e ∙ h in absurd (cc)
said_then (next.End f y) b h e = ap Some e

polls_end : (x : Place) (f : Found) → is_polling x ≡ true → is_stepped (answer_by (next_of x f)) ≡ false → may_end Kind.FirstPoll (answer_by (next_of x f)) ≡ true
polls_end (Claim k told) (found.Full u) h e = refl
polls_end (Claim k told) found.Empty h e = absurd (cc e)
polls_end (Claim k told) _ h e = absurd (cc e)
polls_end (ClaimListed k) found.Empty h e = absurd (cc e)
polls_end (ClaimListed k) (found.Full u) h e = absurd (cc e)
polls_end (ClaimListed k) _ h e = absurd (cc e)
polls_end (JoinActive k told) found.Done h e = absurd (cc e)
polls_end (JoinActive k true) _ h e = absurd (cc e)
polls_end (JoinActive k false) _ h e = refl
polls_end (AskActive k) found.Yes h e = absurd (cc e)
polls_end (AskActive k) _ h e = refl
polls_end (LeaveToMake k) f h e = absurd (cc e)
polls_end (Make k) (found.Made u) h e = absurd (cc e)
polls_end (Make k) found.Failed h e = absurd (cc e)
polls_end (Make k) _ h e = refl
polls_end (Fill v) f h e = absurd (cc e)
polls_end (NotifyActive v) f h e = absurd (cc e)
polls_end (NotifyPassive v) f h e = refl
polls_end Fail f h e = absurd (cc e)
polls_end FailNotify f h e = refl
polls_end (LeaveFull k v) f h e = refl
polls_end (RefuseActive k) f h e = refl
polls_end (Look told) (found.Full u) h e = refl
polls_end (Look told) _ h e = absurd (cc e)
polls_end (JoinPassive told) found.Done h e = absurd (cc e)
polls_end (JoinPassive true) _ h e = absurd (cc e)
polls_end (JoinPassive false) _ h e = refl
polls_end LookListed (found.Full u) h e = absurd (cc e)
polls_end LookListed _ h e = absurd (cc e)
polls_end AskPassive found.Yes h e = absurd (cc e)
polls_end AskPassive _ h e = refl
polls_end (LeavePassive v) f h e = refl
polls_end RefusePassive f h e = refl
polls_end _ f h e = absurd (cc h)

tries_end : (x : Place) (f : Found) → is_trying x ≡ true → is_stepped (answer_by (next_of x f)) ≡ false → may_end Kind.Try (answer_by (next_of x f)) ≡ true
tries_end (Try v) found.Empty h e = absurd (cc e)
tries_end (Try v) _ h e = refl
tries_end (TryFill v) f h e = absurd (cc e)
tries_end (TryNotifyActive v) f h e = absurd (cc e)
tries_end (TryNotifyPassive v) f h e = refl
tries_end _ f h e = absurd (cc h)

cancels_end : (x : Place) (f : Found) → is_cancelling x ≡ true → is_stepped (answer_by (next_of x f)) ≡ false → may_end Kind.Drop (answer_by (next_of x f)) ≡ true
cancels_end CancelMake f h e = absurd (cc e)
cancels_end CancelNotify f h e = refl
cancels_end (CancelLeave list) f h e = refl
cancels_end Abandon f h e = refl
cancels_end _ f h e = absurd (cc h)

abandons_cancel : (x : Place) → is_abandoning x ≡ true → is_cancelling x ≡ true
abandons_cancel Abandon h = refl
abandons_cancel _ h = absurd (cc h)

ends_by : (k : Kind) (r : Rest) (x : Place) (f : Found) → runs k r x ≡ true → is_stepped (answer_by (next_of x f)) ≡ false → may_end k (answer_by (next_of x f)) ≡ true
ends_by Kind.FirstPoll Rest.Idle x f h e = polls_end x f h e
ends_by Kind.FirstPoll Rest.Finished x f h e = polls_end x f h e
ends_by Kind.LaterPoll Rest.Pending x f h e = later_ends (answer_by (next_of x f)) (polls_end x f h e)
ends_by Kind.Try Rest.Idle x f h e = tries_end x f h e
ends_by Kind.Try Rest.Finished x f h e = tries_end x f h e
ends_by Kind.Drop Rest.Pending x f h e = cancels_end x f h e
ends_by Kind.Drop Rest.Finished x f h e = cancels_end x f (abandons_cancel x h) e
ends_by _ _ x f h e = absurd (cc h)

-- where one is answered that its maker failed, one is notified
fails_at : (x : Place) (f : Found) → answer_by (next_of x f) ≡ Answer.Ready Got.Failed → action_of x ≡ act.Notify Active
fails_at FailNotify f e = refl
fails_at (Claim Closure told) (found.Full u) e = absurd (cc e)
fails_at (Claim (Given o) told) (found.Full u) e = absurd (cc e)
fails_at (LeaveFull Closure v) f e = absurd (cc e)
fails_at (LeaveFull (Given o) v) f e = absurd (cc e)
fails_at (Claim k told) found.Empty e = absurd (cc e)
fails_at (Claim k told) _ e = absurd (cc e)
fails_at (ClaimListed k) found.Empty e = absurd (cc e)
fails_at (ClaimListed k) (found.Full u) e = absurd (cc e)
fails_at (ClaimListed k) _ e = absurd (cc e)
fails_at (JoinActive k told) found.Done e = absurd (cc e)
fails_at (JoinActive k true) _ e = absurd (cc e)
fails_at (JoinActive k false) _ e = absurd (cc e)
fails_at (AskActive k) found.Yes e = absurd (cc e)
fails_at (AskActive k) _ e = absurd (cc e)
fails_at (LeaveToMake k) f e = absurd (cc e)
fails_at (Make k) (found.Made u) e = absurd (cc e)
fails_at (Make k) found.Failed e = absurd (cc e)
fails_at (Make k) _ e = absurd (cc e)
fails_at (Fill v) f e = absurd (cc e)
fails_at (NotifyActive v) f e = absurd (cc e)
fails_at (NotifyPassive v) f e = absurd (cc e)
fails_at Fail f e = absurd (cc e)
fails_at (RefuseActive k) f e = absurd (cc e)
fails_at (Look told) (found.Full u) e = absurd (cc e)
fails_at (Look told) _ e = absurd (cc e)
fails_at (JoinPassive told) found.Done e = absurd (cc e)
fails_at (JoinPassive true) _ e = absurd (cc e)
fails_at (JoinPassive false) _ e = absurd (cc e)
fails_at LookListed (found.Full u) e = absurd (cc e)
fails_at LookListed _ e = absurd (cc e)
fails_at AskPassive found.Yes e = absurd (cc e)
fails_at AskPassive _ e = absurd (cc e)
fails_at (LeavePassive v) f e = absurd (cc e)
fails_at RefusePassive f e = absurd (cc e)
fails_at (Try v) found.Empty e = absurd (cc e)
fails_at (Try v) _ e = absurd (cc e)
fails_at (TryFill v) f e = absurd (cc e)
fails_at (TryNotifyActive v) f e = absurd (cc e)
fails_at (TryNotifyPassive v) f e = absurd (cc e)
fails_at CancelMake f e = absurd (cc e)
fails_at CancelNotify f e = absurd (cc e)
fails_at (CancelLeave list) f e = absurd (cc e)
fails_at Abandon f e = absurd (cc e)

-- a dropped maker that has begun notifies one, and so does who was refused
owes_active : (x : Place) → is_begun x ≡ true → verdict_of x ≡ Some Answer.GivenBack → action_of x ≡ act.Notify Active
owes_active CancelNotify b e = refl
owes_active CancelMake b e = absurd (cc b)
owes_active (CancelLeave list) b e = absurd (cc b)
owes_active Abandon b e = absurd (cc b)
owes_active _ b e = absurd (cc e)

owes_list : (list : ListName) (x : Place) → verdict_of x ≡ Some (refused Refusal.Memory) → list_for (place_task x) ≡ Some list → action_of x ≡ act.Notify list
owes_list list (RefuseActive k) e l = ap act.Notify (some_eq (sym (legals.active_for k) ∙ l))
owes_list list RefusePassive e l = ap act.Notify (some_eq l)
owes_list list _ e l = absurd (cc e)

-- a move of a party that is inside a call goes on with it, at a place that the call has come to
inside_goes : (s : Stage) (what : What) (w u : Within) (x : Position) (o d : Option Answer) → goes_with s x ≡ true → call_at knows s what ≡ Some w → stands_as o s ≡ inside u d → ((i : Inputs) × (what ≡ Go i)) × ((y : Place) → x ≡ At y → is_begun y ≡ true)
inside_goes (Inside v) (Go i) w u (At z) o d g c e = ((i, refl), λ y eq. (let same : z ≡ y = cc eq in sym (ap is_begun same) ∙ (both (is_begun z) (runs v.kind v.was z) g).0))
inside_goes (Inside v) (Go i) w u _ o d g c e = absurd (cc g)
inside_goes (Inside v) (Begin b i) w u x o d g c e = absurd (none_some c)
inside_goes (Outside r) what w u x o d g c e = absurd (cc e)
inside_goes Forgotten what w u x o d g c e = absurd (cc e)

-- who is decided is so inside a call
decided_is : (z : Standing) → is_decided z ≡ true → (u : Within) × (d : Answer) × (z ≡ inside u (Some d))
decided_is (inside u (Some d)) h = (u, d, refl)
decided_is _ h = absurd (cc h)

-- who joins or asks doesn't make
joins_unmade : (list : ListName) (x : Place) → action_of x ≡ act.Join list → makes_at (At x) ≡ false
joins_unmade list (JoinActive k told) e = refl
joins_unmade list (JoinPassive told) e = refl
joins_unmade list _ e = absurd (cc e)

asks_unmade : (list : ListName) (x : Place) → action_of x ≡ act.Ask list → makes_at (At x) ≡ false
asks_unmade list (AskActive k) e = refl
asks_unmade list AskPassive e = refl
asks_unmade list _ e = absurd (cc e)

same_list : (list name : ListName) → ◌≡◌ {A = Action} (act.Notify list) (act.Notify name) → name ≡ list
same_list list name e = cc e

notifies_at : (list : ListName) (x : Place) → action_of x ≡ act.Notify list → is_notify x ≡ true
notifies_at list FailNotify e = refl
notifies_at list (RefuseActive k) e = refl
notifies_at list RefusePassive e = refl
notifies_at list CancelNotify e = refl
notifies_at list _ e = absurd (cc e)

notify_effect : (list : ListName) (f : Found) → IsDone f → effect_of (act.Notify list) f ≡ does list (notifies 1)
notify_effect list found.Done h = refl
notify_effect list _ h = absurd h

-- ---- What was decided, and what is decided now

module _ (i : Inputs) (p : ℕ) (c : Content) (x : Place) (f : Found) where
  parted : (v o : Option Answer) → Judged i p c x f v o → is_some v ≡ true → gives_something_back (effect_of (action_of x) f) ≡ true
  parted (Some b) o j h = j.1
  parted None o j h = absurd (cc)

  kept_on : (v o : Option Answer) (b : Answer) → Judged i p c x f v o → v ≡ Some b → o ≡ Some b
  kept_on (Some d) o b j e = j.0 ∙ e
  kept_on None o b j e = absurd (none_some e)

  reasoned : (v o : Option Answer) (b : Answer) → Judged i p c x f v o → ((d : Answer) → v ≡ Some d → d ≡ Answer.GivenBack) → o ≡ Some b → (b ≡ Answer.GivenBack) ⊎ Reason i p c x f b
  reasoned (Some d) o b j late e = inl (some_eq (sym e ∙ j.0) ∙ late d refl)
  reasoned None None b j late e = absurd (none_some e)
  reasoned None (Some d) b j late e = let P : Answer → Type 0 = Reason i p c x f in inr (subst P (some_eq e) j)

  pended : (v o : Option Answer) → Judged i p c x f v o → (v ≡ Some Answer.Pending → ⊥) → o ≡ Some Answer.Pending → Reason i p c x f Answer.Pending
  pended (Some d) o j late e = absurd (late (sym j.0 ∙ e))
  pended None None j late e = absurd (none_some e)
  pended None (Some d) j late e = let P : Answer → Type 0 = Reason i p c x f in subst P (some_eq e) j

  overs : (r : Refusal) → 6 ≡ number_of r → Refuses i p c x f r → ⊥
  overs Refusal.Memory e y = omega arith
  overs _ e y = y

  not_over : (v o : Option Answer) → Judged i p c x f v o → (v ≡ Some (refused Refusal.Finished) → ⊥) → o ≡ Some (refused Refusal.Finished) → ⊥
  not_over (Some d) o j late e = late (sym j.0 ∙ e)
  not_over None None j late e = none_some e
  not_over None (Some d) j late e = let P : Answer → Type 0 = Reason i p c x f in let why = subst P (some_eq e) j in overs why.0 why.1 why.2

never_over : (x : Place) → verdict_of x ≡ Some (refused Refusal.Finished) → ⊥
never_over (RefuseActive k) e = let six : Path ℕ 1 6 = finished_number 1 (some_eq e) in absurd (omega (arith, six))
never_over RefusePassive e = let six : Path ℕ 1 6 = finished_number 1 (some_eq e) in absurd (omega (arith, six))
never_over (LeaveFull k v) e = cc e
never_over _ e = cc

join_unlisted : (x : Place) → is_join x ≡ true → (in_active (At x) ≡ 0) × (in_passive_at (At x) ≡ 0) × (makes_at (At x) ≡ false)
join_unlisted (JoinActive k told) h = (refl, refl, refl)
join_unlisted (JoinPassive told) h = (refl, refl, refl)
join_unlisted _ h = absurd (cc)

room_found : (i : Inputs) (p : ℕ) (c : Content) (d : Effect Change ListName) (list : ListName) → Room i p c d → d ≡ does list joins → i.memory ≡ true
room_found i p c d list h e = let P : Effect Change ListName → Type 0 = Room i p c in subst P e h

-- a party that stands so has a future or a try
open_out : (d : Option Answer) (s : Stage) → goes_with s Out ≡ true → is_open (stands_as d s) ≡ false
open_out d (Outside Rest.Idle) g = refl
open_out d (Outside Rest.Finished) g = refl
open_out d (Outside Rest.Pending) g = absurd (cc g)
open_out d (Outside Rest.Holding) g = absurd (cc g)
open_out d (Inside w) g = absurd (cc g)
open_out d Forgotten g = refl

open_so : (s : Stage) (x : Position) → goes_with s x ≡ true → is_open (stands_as (verdict x) s) ≡ true → open_at x ≡ true
open_so s Out g o = let never = open_out None s g in absurd (cc (never, o))
open_so s (At y) g o = refl
open_so s (ToMake k) g o = refl
open_so s (WaitingToMake k) g o = refl
open_so s (Making k) g o = refl
open_so s ToWait g o = refl
open_so s Waiting g o = refl

not_dropped_by : (what : What) (before : Task) → is_drop what ≡ true → or_before (task_in what) before ≡ failed → before ≡ failed
not_dropped_by (Begin Call.Drop inputs) before h f = absurd (cc f)
not_dropped_by _ before h f = absurd (cc h)

asks_listed : (list : ListName) (y : Place) → action_of y ≡ act.Ask list → in_list list (At y) ≡ 1
asks_listed Active (AskActive z) e = refl
asks_listed Passive AskPassive e = refl
asks_listed _ _ e = absurd (cc e)

asks_task : (list : ListName) (y : Place) → action_of y ≡ act.Ask list → list_for (task_at (after y found.No)) ≡ Some list
asks_task Active (AskActive z) e = legals.active_for z
asks_task Passive AskPassive e = refl
asks_task _ _ e = absurd (cc e)

-- the answer on which the call is decided that a party is in
abbrev verdict_in : OnceCell → ℕ → Option Answer
verdict_in s q = verdict (position_at s.positions q)

module _ (t u : Table OnceCell) (m : Move) (a : Answer) (w : Within) where
  abbrev p : ℕ
  p = m.party

  abbrev xs : List Position
  xs = t.machine.positions

  abbrev x : Position
  x = position_at xs p

  abbrev s : Stage
  s = stage_at t.stages p

  abbrev old : World
  old = view_of t

  abbrev new : World
  new = view_of u

  abbrev i : Inputs
  i = inputs_of m.what

  abbrev c : Content
  c = t.machine.content

  -- a move that the machine carries out
  pub record Acting : Type 0 where
    pub inside : p < length t.stages
    pub old_laws : IsCell t.machine
    pub old_fits : IsCellTable t
    pub new_laws : IsCell u.machine
    pub new_fits : IsCellTable u
    pub call : call_at knows s m.what ≡ Some w
    pub first : polls_again s m.what ≡ false
    pub from : Place
    pub found : Found
    pub here : Here s m.what w x from
    pub starts : place_for m.what x ≡ Some from
    pub runs : runs w.kind w.was from ≡ true
    pub acts : Acts i p from found t.machine u.machine
    pub answer : a ≡ answer_by (next_of from found)
    pub stages : u.stages ≡ set t.stages p (stage_after Rest.Finished w a)
    pub opening : u.opening ≡ t.opening

  module _ (k : Acting) where
    abbrev from : Place
    from = k.from

    abbrev fnd : Found
    fnd = k.found

    abbrev to : Position
    to = after from fnd

    abbrev effect : Effect Change ListName
    effect = effect_of (action_of from) fnd

    r : Row i p c from fnd
    r = row i p c t.machine.active t.machine.passive from fnd k.acts.finds

    there : p < length xs
    there = omega (arith, k.inside, k.old_fits.as_many)

    pub lands_at : position_at u.machine.positions p ≡ to
    lands_at = ap (λ ps. position_at ps p) k.acts.positions ∙ get_or-set_same xs p to Out there

    pub stays : (q : ℕ) → q ≢ p → position_at u.machine.positions q ≡ position_at xs q
    stays q apart = ap (λ ps. position_at ps q) k.acts.positions ∙ get_or-set_other xs p q to Out apart

    pub stood : standing_of old p ≡ stands_as (verdict x) s
    stood = seen.standing_seen t p

    pub stands : standing_of new p ≡ stands_as (verdict to) (stage_after Rest.Finished w a)
    stands = acting.stands verdict_in Rest.Finished t u p w a k.inside k.stages ∙ ap (λ y. stands_as (verdict y) (stage_after Rest.Finished w a)) lands_at

    pub others_stand : (q : ℕ) → q ≢ p → standing_of new q ≡ standing_of old q
    others_stand q apart = acting.others_stand verdict_in Rest.Finished t u p w a k.inside k.stages q apart (ap verdict (stays q apart))

    pub decides : decision a (standing_of new p) ≡ said (next_of from fnd)
    decides = ap (decision a) stands ∙ (decision_seen Rest.Finished w a (verdict to) ∙ (ap (λ b. decided_after b (verdict to)) k.answer ∙ said_so from (next_of from fnd)))

    pub task_old : task_of old p ≡ task_at x
    task_old = seen.task_seen t p

    pub task_new : task_of new p ≡ task_at to
    task_new = seen.task_seen u p ∙ ap task_at lands_at

    pub task_now : task_then m.what (task_of old p) ≡ place_task from
    task_now = ap (task_then m.what) task_old ∙ k.here.task

    pub makes_seen : makes_at (At from) ≡ is_maker c p
    makes_seen = ap (λ (z : Seat). z.makes) k.here.same ∙ k.old_laws.makers p

    maker_of : makes_at (At from) ≡ true → c ≡ BeingMade p
    maker_of h = contents.maker_is c p (sym makes_seen ∙ h)

    fits_now : (b : Action) → action_of from ≡ b → TaskFits b m.what x
    fits_now b e = let P : Action → Type 0 = λ b. TaskFits b m.what x in subst P e k.here.fits

    not_asked : (list : ListName) → is_marked_at (is_party p) (list_in list old) ≡ false → list_after p asks (list_in list old) ≡ list_in list old
    not_asked list e = rw e refl

    pub goes_inside : (v : Within) (d : Option Answer) → standing_of old p ≡ inside v d → (x ≡ At from) × (is_begun from ≡ true)
    goes_inside v d e =
        let so = inside_goes s m.what w v x (verdict x) d (k.old_fits.stands p k.inside).goes k.call (sym stood ∙ e) in
        let at : x ≡ At from = k.here.going so.0.0 so.0.1 in (at, so.1 from at)

    -- whom a party tells, by where it stands
    tells_by : (list : ListName) (y : Place) (v : Within) (d : Answer) → action_of y ≡ act.Notify list → verdict_of y ≡ Some d → task_of old p ≡ place_task y → MayTell old m list (inside v (Some d))
    tells_by list FailNotify v d e h task = let P : Answer → Type 0 = λ z. MayTell old m list (inside v (Some z)) in subst P (some_eq h) (same_list Active list e)
    tells_by list CancelNotify v d e h task = let P : Answer → Type 0 = λ z. MayTell old m list (inside v (Some z)) in subst P (some_eq h) (same_list Active list e)
    tells_by list (RefuseActive z) v d e h task = let P : Answer → Type 0 = λ z. MayTell old m list (inside v (Some z)) in subst P (some_eq h) (ap list_for task ∙ (legals.active_for z ∙ ap Some (sym (same_list Active list e))))
    tells_by list RefusePassive v d e h task = let P : Answer → Type 0 = λ z. MayTell old m list (inside v (Some z)) in subst P (some_eq h) (ap list_for task ∙ ap Some (sym (same_list Passive list e)))
    tells_by list _ v d e h task = absurd (cc e)

    may_tell : (list : ListName) → action_of from ≡ act.Notify list → MayTell old m list (standing_of old p)
    may_tell list e =
        let q = decided_is (standing_of old p) (ap is_decided stood ∙ k.here.notifies (notifies_at list from e)) in
        let at : x ≡ At from = (goes_inside q.0 (Some q.1) q.2).0 in
        let P : Standing → Type 0 = MayTell old m list in
        subst P (sym q.2) (tells_by list from q.0 q.1 e (k.here.kept q.0 q.1 (sym stood ∙ q.2)) (task_old ∙ ap task_at at))

    its_list : (list : ListName) → list_for (task_at x) ≡ Some list → IsItsList old m list
    its_list list h = ap list_for task_old ∙ h

    allowed_so : (d : Effect Change ListName) → AllowedAt i p c d from → IsAllowed old m d
    allowed_so nothing h = tt
    allowed_so (changes begins) h = (h.0, ap makes task_now ∙ h.1)
    allowed_so (changes (fills v)) h = (maker_of h.0, task_old ∙ fits_now (act.Fill v) h.1)
    allowed_so (changes empties) h = (maker_of h.0, elim (fits_now act.Empty h.1) as (λ _. (is_drop m.what ≡ true) ⊎ (task_of old p ≡ failed)) [ inl d ↦ inl d | inr e ↦ inr (task_old ∙ e) ])
    allowed_so (does list joins) h = (its_list list (fits_now (act.Join list) h), sym makes_seen ∙ joins_unmade list from h)
    allowed_so (does list asks) h = (its_list list (fits_now (act.Ask list) h), sym makes_seen ∙ asks_unmade list from h)
    allowed_so (does list leaves) h = its_list list (fits_now (act.Leave list) h)
    allowed_so (does list (notifies n)) h = (h.0, may_tell list h.1)
    allowed_so (does list (notifies_additionally n)) h = let fit = fits_now (act.NotifyAll list) h.1 in (fit.0, h.0, (k.old_fits.stands p k.inside).value fit.0 fit.2, task_old ∙ fit.1)

    decided_there : is_decided (standing_of old p) || is_giving_back m.what ≡ is_some (verdict_of from)
    decided_there = ap (λ z. is_decided z || is_giving_back m.what) stood ∙ k.here.decides

    one_change : ChangesOneThing old m new
    one_change = record {
      effect = effect;
      allowed = allowed_so effect r.allowed;
      cell = k.acts.content;
      active = k.acts.active;
      passive = k.acts.passive;
      others = others_stand;
      parties = acting.as_many verdict_in Rest.Finished t u p w a k.inside k.stages;
      found_memory = λ list e. room_found i p c effect list r.room e;
      parting = λ h. parted i p c from fnd (verdict_of from) (said (next_of from fnd)) r.judged (sym decided_there ∙ h);
      giving_up = λ h. ap (λ b. b || is_maker c p) decided_there ∙ (ap (λ b. is_some (verdict_of from) || b) (sym makes_seen) ∙ r.held_on h);
    }

    goes_new : goes_with (stage_after Rest.Finished w a) to ≡ true
    goes_new = ap (λ b. goes_with (stage_after Rest.Finished w b) to) k.answer ∙ lands w from fnd k.runs

    open_now : is_open (standing_of new p) ≡ true → open_at to ≡ true
    open_now o = open_so (stage_after Rest.Finished w a) to goes_new (ap is_open (sym stands) ∙ o)

    cell_kept : (y : Maker) → from ≡ Make y → new.cell ≡ old.cell
    cell_kept y e = k.acts.content ∙ ap (λ z. content_then i p c z fnd) e

    knows_task : KnowsTask old m a new
    knows_task = record {
      begun = λ b e h o. elim (r.task (open_now o)) as (λ _. task_of new p ≡ b) [
        | inl same ↦ task_new ∙ (same ∙ (sym k.here.task ∙ ap (λ z. or_before z (task_at x)) e))
        | inr gave ↦ absurd (k.here.making b e gave.0.0 gave.0.1)
      ];
      going = λ e h o. (
          let before : place_task from ≡ task_of old p = sym k.here.task ∙ (ap (λ z. or_before z (task_at x)) e ∙ sym task_old) in
          elim (r.task (open_now o)) as (λ _. (task_of new p ≡ task_of old p) ⊎ ((old.cell ≡ BeingMade p) × (new.cell ≡ old.cell) × (task_of new p ≡ given (task_of old p) i.made))) [
            | inl same ↦ inl (task_new ∙ (same ∙ before))
            | inr gave ↦ inr (maker_of (ap (λ z. makes_at (At z)) gave.0.1), cell_kept gave.0.0 gave.0.1, task_new ∙ (gave.1 ∙ ap (λ z. given z i.made) before))
          ]
          );
      others = λ q apart. seen.task_seen u q ∙ (ap task_at (stays q apart) ∙ sym (seen.task_seen t q));
    }

    -- what is decided now, and was not before, has its reason, or is given back
    reason : (b : Answer) → DecidesOn old m a new b → (b ≡ Answer.GivenBack) ⊎ Reason i p c from fnd b
    reason b d = reasoned i p c from fnd (verdict_of from) (said (next_of from fnd)) b r.judged (k.here.undecided (sym (ap is_decided stood) ∙ d.0)) (sym decides ∙ d.1)

    fail_fits : from ≡ Fail → fnd ≡ found.Done → (old.cell ≡ BeingMade p) × (new.cell ≡ Empty) × (task_of old p ≡ failed)
    fail_fits e d = (
      maker_of (ap (λ z. makes_at (At z)) e),
      k.acts.content ∙ (ap (λ z. content_then i p c z fnd) e ∙ ap (content_then i p c Fail) d),
      (elim (fits_now act.Empty (ap action_of e)) as (λ _. task_of old p ≡ failed) [ inl drop ↦ task_old ∙ not_dropped_by m.what (task_at x) drop (k.here.task ∙ ap place_task e) | inr f ↦ task_old ∙ f ]),
    )

    carried : (g : Got) → Reason i p c from fnd (Answer.Ready g) → Carried g old m new
    carried (Got.Value v) y = (k.acts.content ∙ y.0, λ own e. y.1 own (sym task_now ∙ e))
    carried (Got.Taken own) y = (y.0, task_now ∙ y.1)
    carried Got.Failed y = fail_fits y.0 y.1
    carried Got.Plain y = absurd y
    carried (Got.Leader b) y = absurd y

    carries : Carries old m a new
    carries = record {
      ready = λ g d. elim (reason (Answer.Ready g) d) as (λ _. Carried g old m new) [ inl e ↦ absurd (cc) | inr y ↦ carried g y ];
      granted = λ g d. elim (reason (Answer.Granted g) d) as (λ _. IsGranted g old m new) [ inl e ↦ absurd (cc) | inr y ↦ record { plain = y.0; empty = y.1; begun = k.acts.content ∙ y.2; value = (y.3.0, k.here.tries y.3.0 y.3.1) } ];
      filled = λ v making full. elim (r.filled v making (sym k.acts.content ∙ full)) as (λ _. (decision a (standing_of new p) ≡ Some (Answer.Ready (Got.Value v))) ⊎ (decision a (standing_of new p) ≡ Some (Answer.Granted Got.Plain))) [ inl e ↦ inl (decides ∙ e) | inr e ↦ inr (decides ∙ e) ];
      emptied = λ making empty. elim (r.emptied making (sym k.acts.content ∙ empty)) as (λ _. (is_drop m.what ≡ true) ⊎ (decision a (standing_of new p) ≡ Some (Answer.Ready Got.Failed))) [ inl e ↦ inl (k.here.drop e) | inr e ↦ inr (decides ∙ e) ];
    }

    pub own_active : entries_of p t.machine.active ≡ in_active (At from)
    own_active = k.old_laws.active_owners p ∙ ap (λ (z : Seat). z.active) (sym k.here.same)

    pub own_passive : entries_of p t.machine.passive ≡ in_passive_at (At from)
    own_passive = k.old_laws.passive_owners p ∙ ap (λ (z : Seat). z.passive) (sym k.here.same)

    own_entries : (list : ListName) → entries_of p (list_in list old) ≡ in_list list (At from)
    own_entries Active = own_active
    own_entries Passive = own_passive

    list_new : (list : ListName) → action_of from ≡ act.Ask list → fnd ≡ found.No → (list_in list new ≡ list_after p asks (list_in list old)) × (is_marked_at (is_party p) (list_in list old) ≡ false)
    list_new Active e f = (
      k.acts.active ∙ (ap (λ b. active_after p (effect_of b fnd) t.machine.active) e ∙ ap (λ z. active_after p (effect_of (act.Ask Active) z) t.machine.active) f),
      (let P : Action → Found → Type 0 = λ b z. Finds i p b z c t.machine.active t.machine.passive in let Q : Action → Type 0 = λ b. P b fnd in subst (P (act.Ask Active)) f (subst Q e k.acts.finds)),
    )
    list_new Passive e f = (
      k.acts.passive ∙ (ap (λ b. passive_after p (effect_of b fnd) t.machine.passive) e ∙ ap (λ z. passive_after p (effect_of (act.Ask Passive) z) t.machine.passive) f),
      (let P : Action → Found → Type 0 = λ b z. Finds i p b z c t.machine.active t.machine.passive in let Q : Action → Type 0 = λ b. P b fnd in subst (P (act.Ask Passive)) f (subst Q e k.acts.finds)),
    )

    waits_in : (list : ListName) → action_of from ≡ act.Ask list → fnd ≡ found.No → WaitsInList m new
    waits_in list e f =
        let l = list_new list e f in
        let kept : list_in list new ≡ list_in list old = l.0 ∙ not_asked list l.1 in
        let one : entries_of p (list_in list old) ≡ 1 = own_entries list ∙ asks_listed list from e in
        let P : List (Entry ℕ) → Type 0 = λ es. mark_at (is_party p) es ≡ Some Waits_unmarked in
        record {
          list = list;
          its = ap list_for (task_new ∙ ap (λ z. task_at (after from z)) f) ∙ asks_task list from e;
          waits = subst P (sym kept) (waits_at p (list_in list old) one l.1);
        }

    maker_waits : from ≡ Make Closure → fnd ≡ found.NotYet → i.made ≡ Made.Pending → IsPendingMaker m new
    maker_waits e f h = record {
      maker = k.acts.content ∙ (ap (λ z. content_then i p c z fnd) e ∙ maker_of (ap (λ z. makes_at (At z)) e));
      task = task_new ∙ (ap (λ z. task_at (after z fnd)) e ∙ ap (λ z. task_at (after (Make Closure) z)) f);
      input = h;
    }

    waits : Waits m a new
    waits = record {
      waiting = λ e. elim (pended i p c from fnd (verdict_of from) (said (next_of from fnd)) r.judged (never_pending from) (said_then (next_of from fnd) Answer.Pending refl (sym k.answer ∙ e))) as (λ _. IsPendingMaker m new ⊎ WaitsInList m new) [
        | inl y ↦ inl (maker_waits y.0 y.1 y.2)
        | inr y ↦ inr (waits_in y.0 y.1 y.2)
      ];
      not_before = λ v e. (legals.well u k.new_laws k.new_fits).never_pending p v e;
    }

    -- nothing was done: the lists are as before
    nothing_listed : effect ≡ nothing → (new.cell ≡ old.cell) × (new.active ≡ old.active) × (new.passive ≡ old.passive)
    nothing_listed e = (
      k.acts.content ∙ ap (λ (d : Effect Change ListName). content_after p d c) e,
      k.acts.active ∙ ap (λ (d : Effect Change ListName). active_after p d t.machine.active) e,
      k.acts.passive ∙ ap (λ (d : Effect Change ListName). passive_after p d t.machine.passive) e,
    )

    unlisted : is_join from ≡ true → (list : ListName) → entries_of p (list_in list old) ≡ 0
    unlisted h Active = own_active ∙ (join_unlisted from h).0
    unlisted h Passive = own_passive ∙ (join_unlisted from h).1

    cause : (d : Refusal) → Refuses i p c from fnd d → IsCause old m new d
    cause Refusal.Memory y = let n = nothing_listed y.2 in record { input = y.0; unlisted = unlisted y.1; unmade = sym makes_seen ∙ (join_unlisted from y.1).2; cell = n.0; active = n.1; passive = n.2 }
    cause Refusal.Finished y = absurd y
    cause _ y = absurd y

    was_inside : (d : Refusal) → 1 ≡ number_of d → Refuses i p c from fnd d → IsUndecided (standing_of old p)
    was_inside Refusal.Memory e y = let j = k.here.joins y.1 in (j.0, stood ∙ j.1)
    was_inside _ e y = absurd y

    refused_for_cause : IsRefusedForCause old m a new
    refused_for_cause = record {
      cause = λ n d. elim (reason (Answer.Refused n) d) as (λ _. (b : Refusal) × (n ≡ number_of b) × IsCause old m new b) [ inl e ↦ absurd (cc) | inr y ↦ (y.0, y.1, cause y.0 y.2) ];
      memory = λ d. elim (reason (refused Refusal.Memory) d) as (λ _. IsUndecided (standing_of old p)) [ inl e ↦ absurd (cc) | inr y ↦ was_inside y.0 y.1 y.2 ];
      after_ready = (
        (λ e. absurd (not_over i p c from fnd (verdict_of from) (said (next_of from fnd)) r.judged (never_over from) (said_then (next_of from fnd) (refused Refusal.Finished) refl (sym k.answer ∙ e)))),
        (λ e. let never : polls_again s m.what ≡ true = sym (again_seen (verdict x) s m.what) ∙ (ap (λ z. is_poll_after_ready z m.what) (sym stood) ∙ e) in absurd (cc (k.first, never))),
      );
    }

    cleared : is_refusal a ≡ true → (in_active to ≡ 0) × (in_passive_at to ≡ 0) × (makes_at to ≡ false)
    cleared h = r.clear (ap is_refusal (sym k.answer) ∙ h)

    refused_list : is_refusal a ≡ true → (list : ListName) → entries_of p (list_in list new) ≡ 0
    refused_list h Active = k.new_laws.active_owners p ∙ (ap in_active lands_at ∙ (cleared h).0)
    refused_list h Passive = k.new_laws.passive_owners p ∙ (ap in_passive_at lands_at ∙ (cleared h).1)

    leaves_clear : LeavesClear m a new
    leaves_clear = record {
      each = each_has u k.new_laws k.new_fits;
      refused = refused_list;
      refused_maker = λ h. sym (k.new_laws.makers p) ∙ (ap makes_at lands_at ∙ (cleared h).2);
    }

    told_list : (list : ListName) → effect ≡ does list (notifies 1) → list_in list new ≡ list_after p (notifies 1) (list_in list old)
    told_list Active e = k.acts.active ∙ ap (λ (d : Effect Change ListName). active_after p d t.machine.active) e
    told_list Passive e = k.acts.passive ∙ ap (λ (d : Effect Change ListName). passive_after p d t.machine.passive) e

    told : (list : ListName) → action_of from ≡ act.Notify list → IsTold list new
    told list e =
        let P : Action → Type 0 = λ b. Finds i p b fnd c t.machine.active t.machine.passive in
        let is_done : IsDone fnd = subst P e k.acts.finds in
        notified_marked (list_in list old) (list_in list new) (told_list list (ap (λ b. effect_of b fnd) e ∙ notify_effect list fnd is_done))

    tells_others : TellsOthers old m a new
    tells_others = record {
      failed = λ e. told Active (fails_at from fnd (sym k.answer ∙ e));
      dropped = λ v e h. told Active (owes_active from (goes_inside v (Some Answer.GivenBack) e).1 (k.here.kept v Answer.GivenBack (sym stood ∙ e)));
      refused = λ v list e h f. told list (owes_list list from (k.here.kept v (refused Refusal.Memory) (sym stood ∙ e)) (ap list_for (sym (task_old ∙ ap task_at (goes_inside v (Some (refused Refusal.Memory)) e).0)) ∙ f));
    }

    called : call_of old m ≡ Some w
    called = ap (λ z. call_in knows z m.what) stood ∙ (call_seen knows (verdict x) s m.what ∙ k.call)

    pub is_possible_now : is_possible a ≡ true
    is_possible_now = ap is_possible k.answer ∙ possible_by (next_of from fnd)

    may_end_so : is_stepped a ≡ false → may_end w.kind a ≡ true
    may_end_so h = ap (may_end w.kind) k.answer ∙ ends_by w.kind w.was from fnd k.runs (sym (ap is_stepped k.answer) ∙ h)

    ends_properly : EndsProperly old m a new
    ends_properly = acting.ends_so standing_of (λ y q. knows) Rest.Finished old m a new w called is_possible_now (rw stands (stands_seen Rest.Finished w a (verdict to) is_possible_now may_end_so))
        (λ v b e. decides ∙ kept_on i p c from fnd (verdict_of from) (said (next_of from fnd)) b r.judged (k.here.kept v b (sym stood ∙ e)))

    pub legal : Legal old m a new
    legal = record {
      possible = acting.possible_so standing_of (λ y q. knows) Rest.Finished old m a new w called is_possible_now;
      one_change = one_change;
      knows_task = knows_task;
      carries = carries;
      waits = waits;
      refused_for_cause = refused_for_cause;
      leaves_clear = leaves_clear;
      tells_others = tells_others;
      ends_properly = ends_properly;
    }
