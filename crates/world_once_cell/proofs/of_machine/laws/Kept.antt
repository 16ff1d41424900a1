-- Each step keeps what always holds of the numbers.
use Rattle.world_once_cell.proofs.Prelude.{◌≡◌, ◌+◌, ◌<◌, ◌≤◌, true, false, arith, Found, Active, Passive, Place, Claim, ClaimListed, JoinActive, AskActive, LeaveToMake, Make, Fill, NotifyActive, NotifyPassive, Fail, FailNotify, LeaveFull, RefuseActive, Look, JoinPassive, LookListed, AskPassive, LeavePassive, RefusePassive, Try, TryFill, TryNotifyActive, TryNotifyPassive, CancelMake, CancelNotify, CancelLeave, Abandon, Position, At, action_of, next_of, position_after, Tally, Counts}
use Rattle.world_base.proofs.of_queue.Debts.{still_owed}
use Rattle.sync_program.specs.declared.once_cell.Found.TheVariants as found
use Rattle.world_once_cell.specs.machine.Tally.{IsSound}
use Rattle.world_once_cell.proofs.of_machine.laws.Steps.{OnTally, Goes}

abbrev pub after : Place → Found → Position
after x f = position_after (next_of x f)

-- an entry left, and what was owed is still owed
still : (s t : Tally) (a b : Counts) → (t.size + 1 ≡ s.size) → (0 < t.size → 0 < s.marked → 0 < t.marked) → b.listed ≡ t.size → b.waiting ≤ b.listed → b.owing ≡ a.owing → 0 < b.waiting → 0 < a.owing + s.marked → 0 < b.owing + t.marked
still s t a b size passed all few same some owed =
    let now : 0 < a.owing + t.marked = still_owed a.owing t.size s.marked t.marked passed (omega arith) owed in
    omega arith

module _ (s t : Tally) (a b : Counts) where
  -- rows: place, finding
  pub kept : (x : Place) (f : Found) → OnTally (action_of x) f s t → IsSound s a → b.waiting ≤ b.listed → Goes (At x) (after x f) a b → IsSound t b
  kept (Claim k true) found.Empty e i c m = record { in_list = omega arith; owed = λ h w. omega arith }
  kept (Claim k true) found.BeingMade e i c m = record { in_list = omega arith; owed = λ h w. omega arith }
  kept (Claim k true) (found.Full u) e i c m = record { in_list = omega arith; owed = λ h w. omega arith }
  kept (Claim k true) _ e i c m = absurd e
  kept (Claim k false) found.Empty e i c m = record { in_list = omega arith; owed = λ h w. omega arith }
  kept (Claim k false) found.BeingMade e i c m = record { in_list = omega arith; owed = λ h w. omega arith }
  kept (Claim k false) (found.Full u) e i c m = record { in_list = omega arith; owed = λ h w. omega arith }
  kept (Claim k false) _ e i c m = absurd e
  kept (ClaimListed k) found.Empty e i c m = record { in_list = omega arith; owed = λ h w. omega arith }
  kept (ClaimListed k) found.BeingMade e i c m = record { in_list = omega arith; owed = λ h w. omega arith }
  kept (ClaimListed k) (found.Full u) e i c m = record { in_list = omega arith; owed = λ h w. omega arith }
  kept (ClaimListed k) _ e i c m = absurd e
  kept (JoinActive k true) found.Done e i c m = record { in_list = omega arith; owed = λ h w. omega arith }
  kept (JoinActive k true) found.NoMemory e i c m = record { in_list = omega arith; owed = λ h w. omega arith }
  kept (JoinActive k true) _ e i c m = absurd e
  kept (JoinActive k false) found.Done e i c m = record { in_list = omega arith; owed = λ h w. omega arith }
  kept (JoinActive k false) found.NoMemory e i c m = record { in_list = omega arith; owed = λ h w. omega arith }
  kept (JoinActive k false) _ e i c m = absurd e
  kept (AskActive k) found.Yes e i c m = record { in_list = omega arith; owed = λ h w. omega arith }
  kept (AskActive k) found.No e i c m = record { in_list = omega arith; owed = λ h w. omega arith }
  kept (AskActive k) _ e i c m = absurd e
  kept (LeaveToMake k) found.Done e i c m = record { in_list = omega arith; owed = λ h w. still s t a b e.1.0 e.1.1 (omega arith) c (omega arith) w (i.owed (omega arith) (omega arith)) }
  kept (LeaveToMake k) _ e i c m = absurd e
  kept (Make k) (found.Made u) e i c m = record { in_list = omega arith; owed = λ h w. omega arith }
  kept (Make k) found.Failed e i c m = record { in_list = omega arith; owed = λ h w. omega arith }
  kept (Make k) _ e i c m = record { in_list = omega arith; owed = λ h w. omega arith }
  kept (Fill v) found.Done e i c m = record { in_list = omega arith; owed = λ h w. omega arith }
  kept (Fill v) _ e i c m = absurd e
  kept (NotifyActive v) found.Done e i c m = record { in_list = omega arith; owed = λ h w. omega arith }
  kept (NotifyActive v) _ e i c m = absurd e
  kept (NotifyPassive v) f e i c m = record { in_list = omega arith; owed = λ h w. omega arith }
  kept Fail found.Done e i c m = record { in_list = omega arith; owed = λ h w. omega arith }
  kept Fail _ e i c m = absurd e
  kept FailNotify found.Done e i c m = record { in_list = omega arith; owed = λ h w. omega arith }
  kept FailNotify _ e i c m = absurd e
  kept (LeaveFull k v) found.Done e i c m = record { in_list = omega arith; owed = λ h w. still s t a b e.1.0 e.1.1 (omega arith) c (omega arith) w (i.owed (omega arith) (omega arith)) }
  kept (LeaveFull k v) _ e i c m = absurd e
  kept (RefuseActive k) found.Done e i c m = record { in_list = omega arith; owed = λ h w. omega arith }
  kept (RefuseActive k) _ e i c m = absurd e
  kept (Look true) (found.Full u) e i c m = record { in_list = omega arith; owed = λ h w. omega arith }
  kept (Look true) _ e i c m = record { in_list = omega arith; owed = λ h w. omega arith }
  kept (Look false) (found.Full u) e i c m = record { in_list = omega arith; owed = λ h w. omega arith }
  kept (Look false) _ e i c m = record { in_list = omega arith; owed = λ h w. omega arith }
  kept (JoinPassive true) found.Done e i c m = record { in_list = omega arith; owed = λ h w. omega arith }
  kept (JoinPassive true) _ e i c m = record { in_list = omega arith; owed = λ h w. omega arith }
  kept (JoinPassive false) found.Done e i c m = record { in_list = omega arith; owed = λ h w. omega arith }
  kept (JoinPassive false) _ e i c m = record { in_list = omega arith; owed = λ h w. omega arith }
  kept LookListed (found.Full u) e i c m = record { in_list = omega arith; owed = λ h w. omega arith }
  kept LookListed _ e i c m = record { in_list = omega arith; owed = λ h w. omega arith }
  kept AskPassive found.Yes e i c m = record { in_list = omega arith; owed = λ h w. omega arith }
  kept AskPassive _ e i c m = record { in_list = omega arith; owed = λ h w. omega arith }
  kept (LeavePassive v) f e i c m = record { in_list = omega arith; owed = λ h w. omega arith }
  kept RefusePassive f e i c m = record { in_list = omega arith; owed = λ h w. omega arith }
  kept (Try v) found.Empty e i c m = record { in_list = omega arith; owed = λ h w. omega arith }
  kept (Try v) found.BeingMade e i c m = record { in_list = omega arith; owed = λ h w. omega arith }
  kept (Try v) (found.Full u) e i c m = record { in_list = omega arith; owed = λ h w. omega arith }
  kept (Try v) _ e i c m = absurd e
  kept (TryFill v) found.Done e i c m = record { in_list = omega arith; owed = λ h w. omega arith }
  kept (TryFill v) _ e i c m = absurd e
  kept (TryNotifyActive v) found.Done e i c m = record { in_list = omega arith; owed = λ h w. omega arith }
  kept (TryNotifyActive v) _ e i c m = absurd e
  kept (TryNotifyPassive v) f e i c m = record { in_list = omega arith; owed = λ h w. omega arith }
  kept CancelMake found.Done e i c m = record { in_list = omega arith; owed = λ h w. omega arith }
  kept CancelMake _ e i c m = absurd e
  kept CancelNotify found.Done e i c m = record { in_list = omega arith; owed = λ h w. omega arith }
  kept CancelNotify _ e i c m = absurd e
  kept (CancelLeave Active) found.Done e i c m = record { in_list = omega arith; owed = λ h w. still s t a b e.1.0 e.1.1 (omega arith) c (omega arith) w (i.owed (omega arith) (omega arith)) }
  kept (CancelLeave Active) _ e i c m = absurd e
  kept (CancelLeave Passive) f e i c m = record { in_list = omega arith; owed = λ h w. omega arith }
  kept Abandon f e i c m = record { in_list = omega arith; owed = λ h w. omega arith }
