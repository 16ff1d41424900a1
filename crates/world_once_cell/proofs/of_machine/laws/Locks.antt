-- An action of one party keeps what always holds of a cell.
use Rattle.world_once_cell.proofs.Prelude.{◌≡◌, ◌≢◌, ℕ, ◌+◌, ◌*◌, ◌<◌, ◌≤◌, true, false, List, length, get_or, Some, refl, arith, ap, sym, subst, ◌∙◌, length-set, get_or-set_same, get_or-set_other, set, ℕ_discrete, sum_by, sum_by-set, sum_by-le, sum_by-le-sum_by, get_or-le-sum_by, Entry, entries_of, Inputs, Effect, nothing, changes, does, some_eq, Queue, queue, What, Rest, Stage, Within, call_at, polls_again, stage_after, Keeps, CanList, joined_own, asked_own, asked_not, left_own, notified_own, notified_additionally_own, Action, Found, ListName, Active, Passive, Place, Claim, ClaimListed, JoinActive, AskActive, LeaveToMake, Make, Fill, NotifyActive, NotifyPassive, Fail, FailNotify, LeaveFull, RefuseActive, Look, JoinPassive, LookListed, AskPassive, LeavePassive, RefusePassive, Try, TryFill, TryNotifyActive, TryNotifyPassive, CancelMake, CancelNotify, CancelLeave, Abandon, Position, Out, WaitingToMake, Waiting, At, Content, place_for, action_of, next_of, Seat, seat_of, seated, makes_at, in_active, in_passive_at, waits, owes, value_known, Change, CanDo, Finds, effect_of, content_after, active_after, passive_after, everyone, Tally, tally_of, counts_of, OnceCell, IsKept, knows, goes_with, answer_by, position_at, is_maker}
use Rattle.std.proofs.lemmas.List.{get_or_default}
use Rattle.world_base.proofs.Lists as lists
use Rattle.sync_program.specs.declared.once_cell.Action.TheVariants as act
use Rattle.sync_program.specs.declared.once_cell.Found.TheVariants as found
use Rattle.world_once_cell.specs.machine.Tally.{IsSound}
use Rattle.world_once_cell.specs.machine.Machine.{Stands}
use Rattle.world_once_cell.proofs.of_machine.laws.Steps.{OnTally, Goes}
use Rattle.world_once_cell.proofs.of_machine.laws.Effects.{numbers}
use Rattle.world_once_cell.proofs.of_machine.laws.Kept.{after, kept}
use Rattle.world_once_cell.proofs.of_machine.laws.CanDo.{can_do}
use Rattle.world_once_cell.proofs.of_machine.stages.Turns.{Fits, fits, lands}
use Rattle.world_once_cell.proofs.of_machine.laws.Contents as contents
use Rattle.world_once_cell.proofs.of_machine.laws.Told.{all_told}

-- a party that waits stands in the list, and no party stands there twice
waits_there : (x : Position) → waits x ≤ in_active x
waits_there (WaitingToMake k) = omega arith
waits_there (At (ClaimListed k)) = omega arith
waits_there (At (AskActive k)) = omega arith
waits_there (At (LeaveToMake k)) = omega arith
waits_there (At (LeaveFull k v)) = omega arith
waits_there (At (CancelLeave Active)) = omega arith
waits_there (At (CancelLeave Passive)) = omega arith
waits_there (At _) = omega arith
waits_there _ = omega arith

module _ (xs : List Position) (p : ℕ) (x : Place) (to : Position) where
  goes : p < length xs → seat_of x ≡ seated (position_at xs p) → Goes (At x) to (counts_of xs) (counts_of (set xs p to))
  goes known same =
      let there : p < length (set xs p to) = rw length-set known in
      let itself : owes (get_or (set xs p to) p Out) ≤ sum_by owes (set xs p to) = get_or-le-sum_by owes (set xs p to) p Out there in
      let itself' : owes to ≤ sum_by owes (set xs p to) = rw (get_or-set_same xs p to Out known) at itself in
      let stands : in_active (get_or xs p Out) ≡ in_active (At x) = ap (λ (z : Seat). z.active) (sym same) in
      let waiting : waits (get_or xs p Out) ≡ waits (At x) = ap (λ (z : Seat). z.waits) (sym same) in
      let owing : owes (get_or xs p Out) ≡ owes (At x) = ap (λ (z : Seat). z.owes) (sym same) in
      record {
        listed = omega (arith, stands, sum_by-set in_active xs p to Out known);
        waiting = omega (arith, waiting, sum_by-set waits xs p to Out known);
        owing = omega (arith, owing, sum_by-set owes xs p to Out known);
        owes_itself = itself';
      }

-- whose the entries are, after what an action does
abbrev CanOf : ListName → ℕ → List (Entry ℕ) → Effect Change ListName → Type 0
CanOf Active p l (does Active f) = CanList p l f
CanOf Passive p l (does Passive f) = CanList p l f
CanOf list p l _ = Unit {0}

module _ (p : ℕ) (l : List (Entry ℕ)) where
  others_active : (d : Effect Change ListName) (j : ℕ) → j ≢ p → entries_of j (active_after p d l) ≡ entries_of j l
  others_active nothing j apart = refl
  others_active (changes c) j apart = refl
  others_active (does Active f) j apart = lists.others p l f j apart
  others_active (does Passive f) j apart = refl

  others_passive : (d : Effect Change ListName) (j : ℕ) → j ≢ p → entries_of j (passive_after p d l) ≡ entries_of j l
  others_passive nothing j apart = refl
  others_passive (changes c) j apart = refl
  others_passive (does Passive f) j apart = lists.others p l f j apart
  others_passive (does Active f) j apart = refl

-- a list grows and shrinks by the party's own entry
module _ (p : ℕ) (l : List (Entry ℕ)) where
  own_active : (d : Effect Change ListName) → CanOf Active p l d → entries_of p (active_after p d l) + length l ≡ entries_of p l + length (active_after p d l)
  own_active nothing can = refl
  own_active (changes c) can = refl
  own_active (does Active f) can = lists.own p l f can
  own_active (does Passive f) can = refl

  own_passive : (d : Effect Change ListName) → CanOf Passive p l d → entries_of p (passive_after p d l) + length l ≡ entries_of p l + length (passive_after p d l)
  own_passive nothing can = refl
  own_passive (changes c) can = refl
  own_passive (does Passive f) can = lists.own p l f can
  own_passive (does Active f) can = refl

module _ (i : Inputs) (p : ℕ) (c : Content) (q r : List (Entry ℕ)) where
  -- the party's entries are told by where it then stands
  active_then : (x : Place) (f : Found) → Finds i p (action_of x) f c q r → entries_of p q ≡ in_active (At x) → entries_of p (active_after p (effect_of (action_of x) f) q) ≡ in_active (after x f)
  active_then (Claim k told) found.Empty e h = h
  active_then (Claim k told) (found.Full u) e h = h
  active_then (Claim k told) _ e h = h
  active_then (ClaimListed k) found.Empty e h = h
  active_then (ClaimListed k) (found.Full u) e h = h
  active_then (ClaimListed k) found.BeingMade e h = h
  active_then (ClaimListed k) _ e h = h
  active_then (JoinActive k true) found.Done e h = joined_own p q h
  active_then (JoinActive k true) _ e h = h
  active_then (JoinActive k false) found.Done e h = joined_own p q h
  active_then (JoinActive k false) _ e h = h
  active_then (AskActive k) found.Yes e h = asked_own p q e h
  active_then (AskActive k) found.No e h = asked_not p q e h
  active_then (AskActive k) _ e h = absurd e
  active_then (LeaveToMake k) found.Done e h = left_own p q h
  active_then (LeaveToMake k) _ e h = absurd e
  active_then (Make k) (found.Made u) e h = h
  active_then (Make k) found.Failed e h = h
  active_then (Make k) _ e h = h
  active_then (Fill v) found.Done e h = h
  active_then (Fill v) _ e h = absurd e
  active_then (NotifyActive v) found.Done e h = notified_additionally_own p q everyone 0 h
  active_then (NotifyActive v) _ e h = absurd e
  active_then (NotifyPassive v) found.Done e h = h
  active_then (NotifyPassive v) _ e h = absurd e
  active_then Fail found.Done e h = h
  active_then Fail _ e h = absurd e
  active_then FailNotify found.Done e h = notified_own p q 1 0 h
  active_then FailNotify _ e h = absurd e
  active_then (LeaveFull k v) found.Done e h = left_own p q h
  active_then (LeaveFull k v) _ e h = absurd e
  active_then (RefuseActive k) found.Done e h = notified_own p q 1 0 h
  active_then (RefuseActive k) _ e h = absurd e
  active_then (Look told) (found.Full u) e h = h
  active_then (Look told) _ e h = h
  active_then (JoinPassive true) found.Done e h = h
  active_then (JoinPassive true) _ e h = h
  active_then (JoinPassive false) found.Done e h = h
  active_then (JoinPassive false) _ e h = h
  active_then LookListed (found.Full u) e h = h
  active_then LookListed found.Empty e h = h
  active_then LookListed found.BeingMade e h = h
  active_then LookListed _ e h = h
  active_then AskPassive found.Yes e h = h
  active_then AskPassive found.No e h = h
  active_then AskPassive _ e h = h
  active_then (LeavePassive v) found.Done e h = h
  active_then (LeavePassive v) _ e h = absurd e
  active_then RefusePassive found.Done e h = h
  active_then RefusePassive _ e h = absurd e
  active_then (Try v) found.Empty e h = h
  active_then (Try v) _ e h = h
  active_then (TryFill v) found.Done e h = h
  active_then (TryFill v) _ e h = absurd e
  active_then (TryNotifyActive v) found.Done e h = notified_additionally_own p q everyone 0 h
  active_then (TryNotifyActive v) _ e h = absurd e
  active_then (TryNotifyPassive v) found.Done e h = h
  active_then (TryNotifyPassive v) _ e h = absurd e
  active_then CancelMake found.Done e h = h
  active_then CancelMake _ e h = absurd e
  active_then CancelNotify found.Done e h = notified_own p q 1 0 h
  active_then CancelNotify _ e h = absurd e
  active_then (CancelLeave Active) found.Done e h = left_own p q h
  active_then (CancelLeave Active) _ e h = absurd e
  active_then (CancelLeave Passive) found.Done e h = h
  active_then (CancelLeave Passive) _ e h = absurd e
  active_then Abandon f e h = h

  passive_then : (x : Place) (f : Found) → Finds i p (action_of x) f c q r → entries_of p r ≡ in_passive_at (At x) → entries_of p (passive_after p (effect_of (action_of x) f) r) ≡ in_passive_at (after x f)
  passive_then (Claim k told) found.Empty e h = h
  passive_then (Claim k told) (found.Full u) e h = h
  passive_then (Claim k told) _ e h = h
  passive_then (ClaimListed k) found.Empty e h = h
  passive_then (ClaimListed k) (found.Full u) e h = h
  passive_then (ClaimListed k) found.BeingMade e h = h
  passive_then (ClaimListed k) _ e h = h
  passive_then (JoinActive k true) found.Done e h = h
  passive_then (JoinActive k true) _ e h = h
  passive_then (JoinActive k false) found.Done e h = h
  passive_then (JoinActive k false) _ e h = h
  passive_then (AskActive k) found.Yes e h = h
  passive_then (AskActive k) found.No e h = h
  passive_then (AskActive k) _ e h = h
  passive_then (LeaveToMake k) found.Done e h = h
  passive_then (LeaveToMake k) _ e h = absurd e
  passive_then (Make k) (found.Made u) e h = h
  passive_then (Make k) found.Failed e h = h
  passive_then (Make k) _ e h = h
  passive_then (Fill v) found.Done e h = h
  passive_then (Fill v) _ e h = absurd e
  passive_then (NotifyActive v) found.Done e h = h
  passive_then (NotifyActive v) _ e h = absurd e
  passive_then (NotifyPassive v) found.Done e h = notified_additionally_own p r everyone 0 h
  passive_then (NotifyPassive v) _ e h = absurd e
  passive_then Fail found.Done e h = h
  passive_then Fail _ e h = absurd e
  passive_then FailNotify found.Done e h = h
  passive_then FailNotify _ e h = absurd e
  passive_then (LeaveFull k v) found.Done e h = h
  passive_then (LeaveFull k v) _ e h = absurd e
  passive_then (RefuseActive k) found.Done e h = h
  passive_then (RefuseActive k) _ e h = absurd e
  passive_then (Look told) (found.Full u) e h = h
  passive_then (Look told) _ e h = h
  passive_then (JoinPassive true) found.Done e h = joined_own p r h
  passive_then (JoinPassive true) _ e h = h
  passive_then (JoinPassive false) found.Done e h = joined_own p r h
  passive_then (JoinPassive false) _ e h = h
  passive_then LookListed (found.Full u) e h = h
  passive_then LookListed found.Empty e h = h
  passive_then LookListed found.BeingMade e h = h
  passive_then LookListed _ e h = h
  passive_then AskPassive found.Yes e h = asked_own p r e h
  passive_then AskPassive found.No e h = asked_not p r e h
  passive_then AskPassive _ e h = absurd e
  passive_then (LeavePassive v) found.Done e h = left_own p r h
  passive_then (LeavePassive v) _ e h = absurd e
  passive_then RefusePassive found.Done e h = notified_own p r 1 0 h
  passive_then RefusePassive _ e h = absurd e
  passive_then (Try v) found.Empty e h = h
  passive_then (Try v) _ e h = h
  passive_then (TryFill v) found.Done e h = h
  passive_then (TryFill v) _ e h = absurd e
  passive_then (TryNotifyActive v) found.Done e h = h
  passive_then (TryNotifyActive v) _ e h = absurd e
  passive_then (TryNotifyPassive v) found.Done e h = notified_additionally_own p r everyone 0 h
  passive_then (TryNotifyPassive v) _ e h = absurd e
  passive_then CancelMake found.Done e h = h
  passive_then CancelMake _ e h = absurd e
  passive_then CancelNotify found.Done e h = h
  passive_then CancelNotify _ e h = absurd e
  passive_then (CancelLeave Active) found.Done e h = h
  passive_then (CancelLeave Active) _ e h = absurd e
  passive_then (CancelLeave Passive) found.Done e h = left_own p r h
  passive_then (CancelLeave Passive) _ e h = absurd e
  passive_then Abandon f e h = h

can_active : (p : ℕ) (q r : Queue) (a : Action) (f : Found) → CanDo p a q r → CanOf Active p q.entries (effect_of a f)
can_active p q r (act.Join Active) found.Done k = tt
can_active p q r (act.Join Active) _ k = tt
can_active p q r (act.Join Passive) found.Done k = tt
can_active p q r (act.Join Passive) _ k = tt
can_active p q r (act.Ask Active) found.Yes k = k.1
can_active p q r (act.Ask Active) found.No k = k.1
can_active p q r (act.Ask Active) _ k = tt
can_active p q r (act.Ask Passive) found.Yes k = tt
can_active p q r (act.Ask Passive) found.No k = tt
can_active p q r (act.Ask Passive) _ k = tt
can_active p q r (act.Leave Active) found.Done k = k.1
can_active p q r (act.Leave Active) _ k = tt
can_active p q r (act.Leave Passive) found.Done k = tt
can_active p q r (act.Leave Passive) _ k = tt
can_active p q r (act.Notify Active) found.Done k = tt
can_active p q r (act.Notify Active) _ k = tt
can_active p q r (act.Notify Passive) found.Done k = tt
can_active p q r (act.Notify Passive) _ k = tt
can_active p q r (act.NotifyAll Active) found.Done k = tt
can_active p q r (act.NotifyAll Active) _ k = tt
can_active p q r (act.NotifyAll Passive) found.Done k = tt
can_active p q r (act.NotifyAll Passive) _ k = tt
can_active p q r act.Claim found.Empty k = tt
can_active p q r act.Claim _ k = tt
can_active p q r act.Look f k = tt
can_active p q r (act.Make m) f k = tt
can_active p q r (act.Fill v) found.Done k = tt
can_active p q r (act.Fill v) _ k = tt
can_active p q r act.Empty found.Done k = tt
can_active p q r act.Empty _ k = tt
can_active p q r act.Nothing f k = tt

can_passive : (p : ℕ) (q r : Queue) (a : Action) (f : Found) → CanDo p a q r → CanOf Passive p r.entries (effect_of a f)
can_passive p q r (act.Join Passive) found.Done k = tt
can_passive p q r (act.Join Passive) _ k = tt
can_passive p q r (act.Join Active) found.Done k = tt
can_passive p q r (act.Join Active) _ k = tt
can_passive p q r (act.Ask Passive) found.Yes k = k.1
can_passive p q r (act.Ask Passive) found.No k = k.1
can_passive p q r (act.Ask Passive) _ k = tt
can_passive p q r (act.Ask Active) found.Yes k = tt
can_passive p q r (act.Ask Active) found.No k = tt
can_passive p q r (act.Ask Active) _ k = tt
can_passive p q r (act.Leave Passive) found.Done k = k.1
can_passive p q r (act.Leave Passive) _ k = tt
can_passive p q r (act.Leave Active) found.Done k = tt
can_passive p q r (act.Leave Active) _ k = tt
can_passive p q r (act.Notify Passive) found.Done k = tt
can_passive p q r (act.Notify Passive) _ k = tt
can_passive p q r (act.Notify Active) found.Done k = tt
can_passive p q r (act.Notify Active) _ k = tt
can_passive p q r (act.NotifyAll Passive) found.Done k = tt
can_passive p q r (act.NotifyAll Passive) _ k = tt
can_passive p q r (act.NotifyAll Active) found.Done k = tt
can_passive p q r (act.NotifyAll Active) _ k = tt
can_passive p q r act.Claim found.Empty k = tt
can_passive p q r act.Claim _ k = tt
can_passive p q r act.Look f k = tt
can_passive p q r (act.Make m) f k = tt
can_passive p q r (act.Fill v) found.Done k = tt
can_passive p q r (act.Fill v) _ k = tt
can_passive p q r act.Empty found.Done k = tt
can_passive p q r act.Empty _ k = tt
can_passive p q r act.Nothing f k = tt

bounded : (x : Position) → in_active x ≤ 1
bounded (WaitingToMake k) = omega arith
bounded (At (ClaimListed k)) = omega arith
bounded (At (AskActive k)) = omega arith
bounded (At (LeaveToMake k)) = omega arith
bounded (At (LeaveFull k v)) = omega arith
bounded (At (CancelLeave Active)) = omega arith
bounded (At (CancelLeave Passive)) = omega arith
bounded (At _) = omega arith
bounded _ = omega arith

pub bounded_passive : (x : Position) → in_passive_at x ≤ 1
bounded_passive Waiting = omega arith
bounded_passive (At LookListed) = omega arith
bounded_passive (At AskPassive) = omega arith
bounded_passive (At (LeavePassive v)) = omega arith
bounded_passive (At (CancelLeave Active)) = omega arith
bounded_passive (At (CancelLeave Passive)) = omega arith
bounded_passive (At _) = omega arith
bounded_passive _ = omega arith

-- no list has more entries than can be notified at once
pub fits_all : (g : Position → ℕ) (xs : List Position) (n : ℕ) → ((x : Position) → g x ≤ 1) → sum_by g xs ≡ n → length xs ≤ 4294967295 → n ≤ everyone
fits_all g xs n most e few =
    let sum : sum_by g xs ≤ length xs * 1 = sum_by-le g 1 xs (λ k d h. most (get_or xs k d)) in
    omega arith

module _ (p : ℕ) (c : Content) (xs : List Position) (q r : Queue) (i : Inputs) where
  pub locked : (w : Within) (x : Place) (f : Found) → IsKept c xs q r → p < length xs → Fits w (position_at xs p) x → Finds i p (action_of x) f c q.entries r.entries
      → IsKept (content_after p (effect_of (action_of x) f) c) (set xs p (after x f)) (queue q.parties (active_after p (effect_of (action_of x) f) q.entries)) (queue r.parties (passive_after p (effect_of (action_of x) f) r.entries))
  locked w x f lock known fit finds =
      let to : Position = after x f in
      let d : Effect Change ListName = effect_of (action_of x) f in
      let can : CanDo p (action_of x) q r = can_do p c xs q r lock known x fit.same in
      let s : Tally = tally_of c q.entries in
      let t : Tally = tally_of (content_after p d c) (active_after p d q.entries) in
      let on_tally : OnTally (action_of x) f s t = numbers p c q r i (action_of x) f finds can in
      let go : Goes (At x) to (counts_of xs) (counts_of (set xs p to)) = goes xs p x to known fit.same in
      let few : sum_by waits (set xs p to) ≤ sum_by in_active (set xs p to) = sum_by-le-sum_by waits in_active (set xs p to) waits_there in
      let sound : IsSound t (counts_of (set xs p to)) = kept s t (counts_of xs) (counts_of (set xs p to)) x f on_tally lock.sound few go in
      let was : entries_of p q.entries ≡ in_active (At x) = lock.active_owners p ∙ ap (λ (z : Seat). z.active) (sym fit.same) in
      let now : entries_of p (active_after p d q.entries) ≡ in_active to = active_then i p c q.entries r.entries x f finds was in
      let was_passive : entries_of p r.entries ≡ in_passive_at (At x) = lock.passive_owners p ∙ ap (λ (z : Seat). z.passive) (sym fit.same) in
      let now_passive : entries_of p (passive_after p d r.entries) ≡ in_passive_at to = passive_then i p c q.entries r.entries x f finds was_passive in
      let mine_passive = own_passive p r.entries d (can_passive p q r (action_of x) f can) in
      let sums = sum_by-set in_passive_at xs p to Out known in
      let stood : in_passive_at (get_or xs p Out) ≡ in_passive_at (At x) = ap (λ (z : Seat). z.passive) (sym fit.same) in
      let makes : makes_at (At x) ≡ is_maker c p = ap (λ (z : Seat). z.makes) fit.same ∙ lock.makers p in
      record {
        sound = sound;
        makers = λ j. elim (ℕ_discrete j p) as (λ _. makes_at (position_at (set xs p to) j) ≡ is_maker (content_after p d c) j) [
          | yes e ↦ (let P : ℕ → Type 0 = λ k. makes_at (position_at (set xs p to) k) ≡ is_maker (content_after p d c) k in
              subst P (sym e) (rw (get_or-set_same xs p to Out known) (contents.maker_then i p c q.entries r.entries x f finds makes)))
          | no apart ↦ rw (get_or-set_other xs p j to Out apart) (lock.makers j ∙ sym (contents.others_make i p c q.entries r.entries x f finds makes j apart))
        ];
        active_told = all_told i p c q.entries r.entries Active xs x f finds known (fit.late Active) (fit.tells Active) lock.active_told (fits_all in_active xs (length q.entries) bounded lock.sound.in_list lock.few) now;
        passive_told = all_told i p c q.entries r.entries Passive xs x f finds known (fit.late Passive) (fit.tells Passive) lock.passive_told (fits_all in_passive_at xs (length r.entries) bounded_passive lock.passive_listed lock.few) now_passive;
        active_owners = λ j. elim (ℕ_discrete j p) as (λ _. entries_of j (active_after p d q.entries) ≡ in_active (position_at (set xs p to) j)) [
          | yes e ↦ (let P : ℕ → Type 0 = λ k. entries_of k (active_after p d q.entries) ≡ in_active (position_at (set xs p to) k) in
              subst P (sym e) (rw (get_or-set_same xs p to Out known) now))
          | no apart ↦ rw (get_or-set_other xs p j to Out apart) (others_active p q.entries d j apart ∙ lock.active_owners j)
        ];
        passive_owners = λ j. elim (ℕ_discrete j p) as (λ _. entries_of j (passive_after p d r.entries) ≡ in_passive_at (position_at (set xs p to) j)) [
          | yes e ↦ (let P : ℕ → Type 0 = λ k. entries_of k (passive_after p d r.entries) ≡ in_passive_at (position_at (set xs p to) k) in
              subst P (sym e) (rw (get_or-set_same xs p to Out known) now_passive))
          | no apart ↦ rw (get_or-set_other xs p j to Out apart) (others_passive p r.entries d j apart ∙ lock.passive_owners j)
        ];
        passive_listed = omega (arith, mine_passive, sums, stood, was_passive, now_passive, lock.passive_listed);
        active_parties = lock.active_parties ∙ sym (length-set xs p to);
        passive_parties = lock.passive_parties ∙ sym (length-set xs p to);
        few = rw (length-set xs p to) lock.few;
      }

-- ---- as the machine's call says it

-- where the party's call begins or goes on
pub record Began (xs : List Position) (p : ℕ) (w : Within) (what : What) (from : Place) : Type 0 where
  pub starts : place_for what (position_at xs p) ≡ Some from
  pub fits : Fits w (position_at xs p) from

pub began : (xs : List Position) (p : ℕ) (read : Position) (w : Within) (what : What) (s : Stage) (from : Place) → p < length xs → read ≡ get_or xs p read → place_for what read ≡ Some from
    → goes_with s (position_at xs p) ≡ true → call_at knows s what ≡ Some w → polls_again s what ≡ false → Began xs p w what from
began xs p read w what s from known is starts stands call first =
    let here : position_at xs p ≡ read = get_or_default xs p Out read known ∙ sym is in
    let t = fits s what w (position_at xs p) stands call first in
    let starts' : place_for what (position_at xs p) ≡ Some from = ap (place_for what) here ∙ starts in
    let same : t.from ≡ from = some_eq (sym t.starts ∙ starts') in
    record { starts = starts'; fits = (let P : Place → Type 0 = Fits w (position_at xs p) in subst P same t.holds) }

-- no party is left without a place to go on from
pub never_lost : (xs : List Position) (p : ℕ) (w : Within) (what : What) (s : Stage) → goes_with s (position_at xs p) ≡ true → call_at knows s what ≡ Some w → polls_again s what ≡ false → (from : Place) × (place_for what (position_at xs p) ≡ Some from)
never_lost xs p w what s stands call first = let t = fits s what w (position_at xs p) stands call first in (t.from, t.starts)

pub keeps : (x y : OnceCell) (p : ℕ) (i : Inputs) (w : Within) (from : Place) (f : Found) (s : Stage) → p < length x.positions → Fits w (position_at x.positions p) from → Stands x p s → ((q : ℕ) → makes_at (position_at x.positions q) ≡ is_maker x.content q)
    → Finds i p (action_of from) f x.content x.active x.passive → y.positions ≡ set x.positions p (after from f) → y.content ≡ content_after p (effect_of (action_of from) f) x.content
    → Keeps (λ (s : OnceCell). length s.positions) Stands x p (stage_after Rest.Finished w (answer_by (next_of from f))) y
keeps x y p i w from f s known fit stood makers finds to content = (
    let P : List Position → Type 0 = λ ps. goes_with (stage_after Rest.Finished w (answer_by (next_of from f))) (position_at ps p) ≡ true in
    let set_to : P (set x.positions p (after from f)) = rw (get_or-set_same x.positions p (after from f) Out known) (lands w from f fit.runs) in
    let here : position_at y.positions p ≡ after from f = ap (λ ps. position_at ps p) to ∙ get_or-set_same x.positions p (after from f) Out known in
    let made : makes_at (At from) ≡ is_maker x.content p = ap (λ (z : Seat). z.makes) fit.same ∙ makers p in
    record {
      as_many = ap length to ∙ length-set x.positions p (after from f);
      own = record {
        goes = subst P (sym to) set_to;
        value = λ v e. content ∙ contents.value_then i p x.content x.active x.passive from f finds (λ u h. stood.value u (fit.value ∙ h)) v (ap value_known (sym here) ∙ e);
      };
      others = λ q z apart there. (
          let same : position_at y.positions q ≡ position_at x.positions q = ap (λ ps. position_at ps q) to ∙ get_or-set_other x.positions p q (after from f) Out apart in
          let Q : Position → Type 0 = λ b. goes_with z b ≡ true in
          record {
            goes = subst Q (sym same) there.goes;
            value = λ v e. content ∙ contents.full_stays i p x.content x.active x.passive from f finds made v (there.value v (ap value_known (sym same) ∙ e));
          }
          );
    }
    )
