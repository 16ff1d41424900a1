-- Each step of a program fits its action. Written by generators/rwlock_rows.py.
use Rattle.world_rwlock.proofs.Prelude.{refl, true, false, TurnStep as Step, End, Purpose, Ending, Place, Out, Made, Reading, Upgradable, Writing, EnterRead, JoinNoWriter, LookNoWriter, AskNoWriter, PassOn, LeaveNoWriter, RefuseLeave, RefuseNotify, CancelRead, TryRead, EnterTurn, WaitTurn, TakeTurn, TryTurn, CancelTurn, CancellingTurn, ReleaseTurn, ReleasingTurn, Add, TryUpgrade, Upgrade, Mark, TryWrite, JoinNoReaders, LookNoReaders, AskNoReaders, AwaitNoReaders, LookUnlisted, LeaveNoReaders, DropRead, DropReadNotify, DropUpgradable, DropUpgradableNotify, DropWrite, CancelAwait, Unmark, UnmarkNotify, Down, DownNotify, DowngradeNotify, Found, Done, Writer, NoneLeft, Yes, Turn, action_of, next_of, place_after}
use Rattle.world_rwlock.proofs.of_machine.laws.Steps.{Fits}

pub fits : (x : Place) (f : Found) → Fits (action_of x) f x (place_after (next_of x f))
fits Out _ = record { reading = refl; marking = refl; standing_w = refl; standing_r = refl; set_by_turn = refl; cleared_by_own = refl; left_by_listed_w = refl; left_by_listed_r = refl; alone = refl; owed_w = refl; owed_r = refl }
fits (Made w) _ = record { reading = refl; marking = refl; standing_w = refl; standing_r = refl; set_by_turn = refl; cleared_by_own = refl; left_by_listed_w = refl; left_by_listed_r = refl; alone = refl; owed_w = refl; owed_r = refl }
fits Reading _ = record { reading = refl; marking = refl; standing_w = refl; standing_r = refl; set_by_turn = refl; cleared_by_own = refl; left_by_listed_w = refl; left_by_listed_r = refl; alone = refl; owed_w = refl; owed_r = refl }
fits Upgradable _ = record { reading = refl; marking = refl; standing_w = refl; standing_r = refl; set_by_turn = refl; cleared_by_own = refl; left_by_listed_w = refl; left_by_listed_r = refl; alone = refl; owed_w = refl; owed_r = refl }
fits Writing _ = record { reading = refl; marking = refl; standing_w = refl; standing_r = refl; set_by_turn = refl; cleared_by_own = refl; left_by_listed_w = refl; left_by_listed_r = refl; alone = refl; owed_w = refl; owed_r = refl }
fits (EnterRead true) Done = record { reading = refl; marking = refl; standing_w = refl; standing_r = refl; set_by_turn = refl; cleared_by_own = refl; left_by_listed_w = refl; left_by_listed_r = refl; alone = tt; owed_w = refl; owed_r = tt }
fits (EnterRead true) Writer = record { reading = refl; marking = refl; standing_w = refl; standing_r = refl; set_by_turn = refl; cleared_by_own = refl; left_by_listed_w = refl; left_by_listed_r = refl; alone = refl; owed_w = tt; owed_r = refl }
fits (EnterRead true) _ = record { reading = refl; marking = refl; standing_w = refl; standing_r = refl; set_by_turn = refl; cleared_by_own = refl; left_by_listed_w = refl; left_by_listed_r = refl; alone = refl; owed_w = refl; owed_r = refl }
fits (EnterRead false) Done = record { reading = refl; marking = refl; standing_w = refl; standing_r = refl; set_by_turn = refl; cleared_by_own = refl; left_by_listed_w = refl; left_by_listed_r = refl; alone = tt; owed_w = refl; owed_r = tt }
fits (EnterRead false) Writer = record { reading = refl; marking = refl; standing_w = refl; standing_r = refl; set_by_turn = refl; cleared_by_own = refl; left_by_listed_w = refl; left_by_listed_r = refl; alone = refl; owed_w = tt; owed_r = refl }
fits (EnterRead false) _ = record { reading = refl; marking = refl; standing_w = refl; standing_r = refl; set_by_turn = refl; cleared_by_own = refl; left_by_listed_w = refl; left_by_listed_r = refl; alone = refl; owed_w = refl; owed_r = refl }
fits (JoinNoWriter true) Done = record { reading = refl; marking = refl; standing_w = refl; standing_r = refl; set_by_turn = refl; cleared_by_own = refl; left_by_listed_w = refl; left_by_listed_r = refl; alone = refl; owed_w = refl; owed_r = refl }
fits (JoinNoWriter true) _ = record { reading = refl; marking = refl; standing_w = refl; standing_r = refl; set_by_turn = refl; cleared_by_own = refl; left_by_listed_w = refl; left_by_listed_r = refl; alone = refl; owed_w = refl; owed_r = refl }
fits (JoinNoWriter false) Done = record { reading = refl; marking = refl; standing_w = refl; standing_r = refl; set_by_turn = refl; cleared_by_own = refl; left_by_listed_w = refl; left_by_listed_r = refl; alone = refl; owed_w = refl; owed_r = refl }
fits (JoinNoWriter false) _ = record { reading = refl; marking = refl; standing_w = refl; standing_r = refl; set_by_turn = refl; cleared_by_own = refl; left_by_listed_w = refl; left_by_listed_r = refl; alone = refl; owed_w = refl; owed_r = refl }
fits (LookNoWriter told) Done = record { reading = refl; marking = refl; standing_w = refl; standing_r = refl; set_by_turn = refl; cleared_by_own = refl; left_by_listed_w = refl; left_by_listed_r = refl; alone = tt; owed_w = refl; owed_r = tt }
fits (LookNoWriter told) Writer = record { reading = refl; marking = refl; standing_w = refl; standing_r = refl; set_by_turn = refl; cleared_by_own = refl; left_by_listed_w = refl; left_by_listed_r = refl; alone = refl; owed_w = tt; owed_r = refl }
fits (LookNoWriter told) _ = record { reading = refl; marking = refl; standing_w = refl; standing_r = refl; set_by_turn = refl; cleared_by_own = refl; left_by_listed_w = refl; left_by_listed_r = refl; alone = refl; owed_w = refl; owed_r = refl }
fits AskNoWriter Yes = record { reading = refl; marking = refl; standing_w = refl; standing_r = refl; set_by_turn = refl; cleared_by_own = refl; left_by_listed_w = refl; left_by_listed_r = refl; alone = refl; owed_w = refl; owed_r = refl }
fits AskNoWriter _ = record { reading = refl; marking = refl; standing_w = refl; standing_r = refl; set_by_turn = refl; cleared_by_own = refl; left_by_listed_w = refl; left_by_listed_r = refl; alone = refl; owed_w = refl; owed_r = refl }
fits PassOn _ = record { reading = refl; marking = refl; standing_w = refl; standing_r = refl; set_by_turn = refl; cleared_by_own = refl; left_by_listed_w = refl; left_by_listed_r = refl; alone = refl; owed_w = tt; owed_r = refl }
fits LeaveNoWriter _ = record { reading = refl; marking = refl; standing_w = refl; standing_r = refl; set_by_turn = refl; cleared_by_own = refl; left_by_listed_w = refl; left_by_listed_r = refl; alone = refl; owed_w = refl; owed_r = refl }
fits (RefuseLeave true) _ = record { reading = refl; marking = refl; standing_w = refl; standing_r = refl; set_by_turn = refl; cleared_by_own = refl; left_by_listed_w = refl; left_by_listed_r = refl; alone = refl; owed_w = refl; owed_r = refl }
fits (RefuseLeave false) _ = record { reading = refl; marking = refl; standing_w = refl; standing_r = refl; set_by_turn = refl; cleared_by_own = refl; left_by_listed_w = refl; left_by_listed_r = refl; alone = refl; owed_w = refl; owed_r = refl }
fits (RefuseNotify r) _ = record { reading = refl; marking = refl; standing_w = refl; standing_r = refl; set_by_turn = refl; cleared_by_own = refl; left_by_listed_w = refl; left_by_listed_r = refl; alone = refl; owed_w = tt; owed_r = refl }
fits CancelRead _ = record { reading = refl; marking = refl; standing_w = refl; standing_r = refl; set_by_turn = refl; cleared_by_own = refl; left_by_listed_w = refl; left_by_listed_r = refl; alone = refl; owed_w = refl; owed_r = refl }
fits TryRead Done = record { reading = refl; marking = refl; standing_w = refl; standing_r = refl; set_by_turn = refl; cleared_by_own = refl; left_by_listed_w = refl; left_by_listed_r = refl; alone = tt; owed_w = refl; owed_r = tt }
fits TryRead Writer = record { reading = refl; marking = refl; standing_w = refl; standing_r = refl; set_by_turn = refl; cleared_by_own = refl; left_by_listed_w = refl; left_by_listed_r = refl; alone = refl; owed_w = tt; owed_r = refl }
fits TryRead _ = record { reading = refl; marking = refl; standing_w = refl; standing_r = refl; set_by_turn = refl; cleared_by_own = refl; left_by_listed_w = refl; left_by_listed_r = refl; alone = refl; owed_w = refl; owed_r = refl }
fits (EnterTurn Purpose.UpgradableRead) (Turn Step.More) = record { reading = refl; marking = refl; standing_w = refl; standing_r = refl; set_by_turn = refl; cleared_by_own = refl; left_by_listed_w = refl; left_by_listed_r = refl; alone = refl; owed_w = refl; owed_r = refl }
fits (EnterTurn Purpose.UpgradableRead) (Turn (Step.End End.Got)) = record { reading = refl; marking = refl; standing_w = refl; standing_r = refl; set_by_turn = refl; cleared_by_own = refl; left_by_listed_w = refl; left_by_listed_r = refl; alone = refl; owed_w = refl; owed_r = refl }
fits (EnterTurn Purpose.UpgradableRead) (Turn (Step.End (End.Refused r))) = record { reading = refl; marking = refl; standing_w = refl; standing_r = refl; set_by_turn = refl; cleared_by_own = refl; left_by_listed_w = refl; left_by_listed_r = refl; alone = refl; owed_w = refl; owed_r = refl }
fits (EnterTurn Purpose.UpgradableRead) _ = record { reading = refl; marking = refl; standing_w = refl; standing_r = refl; set_by_turn = refl; cleared_by_own = refl; left_by_listed_w = refl; left_by_listed_r = refl; alone = refl; owed_w = refl; owed_r = refl }
fits (WaitTurn Purpose.UpgradableRead) (Turn Step.More) = record { reading = refl; marking = refl; standing_w = refl; standing_r = refl; set_by_turn = refl; cleared_by_own = refl; left_by_listed_w = refl; left_by_listed_r = refl; alone = refl; owed_w = refl; owed_r = refl }
fits (WaitTurn Purpose.UpgradableRead) (Turn (Step.End End.Got)) = record { reading = refl; marking = refl; standing_w = refl; standing_r = refl; set_by_turn = refl; cleared_by_own = refl; left_by_listed_w = refl; left_by_listed_r = refl; alone = refl; owed_w = refl; owed_r = refl }
fits (WaitTurn Purpose.UpgradableRead) (Turn (Step.End (End.Refused r))) = record { reading = refl; marking = refl; standing_w = refl; standing_r = refl; set_by_turn = refl; cleared_by_own = refl; left_by_listed_w = refl; left_by_listed_r = refl; alone = refl; owed_w = refl; owed_r = refl }
fits (WaitTurn Purpose.UpgradableRead) _ = record { reading = refl; marking = refl; standing_w = refl; standing_r = refl; set_by_turn = refl; cleared_by_own = refl; left_by_listed_w = refl; left_by_listed_r = refl; alone = refl; owed_w = refl; owed_r = refl }
fits (TakeTurn Purpose.UpgradableRead) (Turn Step.More) = record { reading = refl; marking = refl; standing_w = refl; standing_r = refl; set_by_turn = refl; cleared_by_own = refl; left_by_listed_w = refl; left_by_listed_r = refl; alone = refl; owed_w = refl; owed_r = refl }
fits (TakeTurn Purpose.UpgradableRead) (Turn (Step.End End.Got)) = record { reading = refl; marking = refl; standing_w = refl; standing_r = refl; set_by_turn = refl; cleared_by_own = refl; left_by_listed_w = refl; left_by_listed_r = refl; alone = refl; owed_w = refl; owed_r = refl }
fits (TakeTurn Purpose.UpgradableRead) (Turn (Step.End (End.Refused r))) = record { reading = refl; marking = refl; standing_w = refl; standing_r = refl; set_by_turn = refl; cleared_by_own = refl; left_by_listed_w = refl; left_by_listed_r = refl; alone = refl; owed_w = refl; owed_r = refl }
fits (TakeTurn Purpose.UpgradableRead) _ = record { reading = refl; marking = refl; standing_w = refl; standing_r = refl; set_by_turn = refl; cleared_by_own = refl; left_by_listed_w = refl; left_by_listed_r = refl; alone = refl; owed_w = refl; owed_r = refl }
fits (EnterTurn Purpose.Write) (Turn Step.More) = record { reading = refl; marking = refl; standing_w = refl; standing_r = refl; set_by_turn = refl; cleared_by_own = refl; left_by_listed_w = refl; left_by_listed_r = refl; alone = refl; owed_w = refl; owed_r = refl }
fits (EnterTurn Purpose.Write) (Turn (Step.End End.Got)) = record { reading = refl; marking = refl; standing_w = refl; standing_r = refl; set_by_turn = refl; cleared_by_own = refl; left_by_listed_w = refl; left_by_listed_r = refl; alone = refl; owed_w = refl; owed_r = refl }
fits (EnterTurn Purpose.Write) (Turn (Step.End (End.Refused r))) = record { reading = refl; marking = refl; standing_w = refl; standing_r = refl; set_by_turn = refl; cleared_by_own = refl; left_by_listed_w = refl; left_by_listed_r = refl; alone = refl; owed_w = refl; owed_r = refl }
fits (EnterTurn Purpose.Write) _ = record { reading = refl; marking = refl; standing_w = refl; standing_r = refl; set_by_turn = refl; cleared_by_own = refl; left_by_listed_w = refl; left_by_listed_r = refl; alone = refl; owed_w = refl; owed_r = refl }
fits (WaitTurn Purpose.Write) (Turn Step.More) = record { reading = refl; marking = refl; standing_w = refl; standing_r = refl; set_by_turn = refl; cleared_by_own = refl; left_by_listed_w = refl; left_by_listed_r = refl; alone = refl; owed_w = refl; owed_r = refl }
fits (WaitTurn Purpose.Write) (Turn (Step.End End.Got)) = record { reading = refl; marking = refl; standing_w = refl; standing_r = refl; set_by_turn = refl; cleared_by_own = refl; left_by_listed_w = refl; left_by_listed_r = refl; alone = refl; owed_w = refl; owed_r = refl }
fits (WaitTurn Purpose.Write) (Turn (Step.End (End.Refused r))) = record { reading = refl; marking = refl; standing_w = refl; standing_r = refl; set_by_turn = refl; cleared_by_own = refl; left_by_listed_w = refl; left_by_listed_r = refl; alone = refl; owed_w = refl; owed_r = refl }
fits (WaitTurn Purpose.Write) _ = record { reading = refl; marking = refl; standing_w = refl; standing_r = refl; set_by_turn = refl; cleared_by_own = refl; left_by_listed_w = refl; left_by_listed_r = refl; alone = refl; owed_w = refl; owed_r = refl }
fits (TakeTurn Purpose.Write) (Turn Step.More) = record { reading = refl; marking = refl; standing_w = refl; standing_r = refl; set_by_turn = refl; cleared_by_own = refl; left_by_listed_w = refl; left_by_listed_r = refl; alone = refl; owed_w = refl; owed_r = refl }
fits (TakeTurn Purpose.Write) (Turn (Step.End End.Got)) = record { reading = refl; marking = refl; standing_w = refl; standing_r = refl; set_by_turn = refl; cleared_by_own = refl; left_by_listed_w = refl; left_by_listed_r = refl; alone = refl; owed_w = refl; owed_r = refl }
fits (TakeTurn Purpose.Write) (Turn (Step.End (End.Refused r))) = record { reading = refl; marking = refl; standing_w = refl; standing_r = refl; set_by_turn = refl; cleared_by_own = refl; left_by_listed_w = refl; left_by_listed_r = refl; alone = refl; owed_w = refl; owed_r = refl }
fits (TakeTurn Purpose.Write) _ = record { reading = refl; marking = refl; standing_w = refl; standing_r = refl; set_by_turn = refl; cleared_by_own = refl; left_by_listed_w = refl; left_by_listed_r = refl; alone = refl; owed_w = refl; owed_r = refl }
fits (TryTurn Purpose.UpgradableRead) (Turn (Step.End End.Got)) = record { reading = refl; marking = refl; standing_w = refl; standing_r = refl; set_by_turn = refl; cleared_by_own = refl; left_by_listed_w = refl; left_by_listed_r = refl; alone = refl; owed_w = refl; owed_r = refl }
fits (TryTurn Purpose.UpgradableRead) _ = record { reading = refl; marking = refl; standing_w = refl; standing_r = refl; set_by_turn = refl; cleared_by_own = refl; left_by_listed_w = refl; left_by_listed_r = refl; alone = refl; owed_w = refl; owed_r = refl }
fits (TryTurn Purpose.Write) (Turn (Step.End End.Got)) = record { reading = refl; marking = refl; standing_w = refl; standing_r = refl; set_by_turn = refl; cleared_by_own = refl; left_by_listed_w = refl; left_by_listed_r = refl; alone = refl; owed_w = refl; owed_r = refl }
fits (TryTurn Purpose.Write) _ = record { reading = refl; marking = refl; standing_w = refl; standing_r = refl; set_by_turn = refl; cleared_by_own = refl; left_by_listed_w = refl; left_by_listed_r = refl; alone = refl; owed_w = refl; owed_r = refl }
fits CancelTurn (Turn Step.More) = record { reading = refl; marking = refl; standing_w = refl; standing_r = refl; set_by_turn = refl; cleared_by_own = refl; left_by_listed_w = refl; left_by_listed_r = refl; alone = refl; owed_w = refl; owed_r = refl }
fits CancelTurn _ = record { reading = refl; marking = refl; standing_w = refl; standing_r = refl; set_by_turn = refl; cleared_by_own = refl; left_by_listed_w = refl; left_by_listed_r = refl; alone = refl; owed_w = refl; owed_r = refl }
fits CancellingTurn (Turn Step.More) = record { reading = refl; marking = refl; standing_w = refl; standing_r = refl; set_by_turn = refl; cleared_by_own = refl; left_by_listed_w = refl; left_by_listed_r = refl; alone = refl; owed_w = refl; owed_r = refl }
fits CancellingTurn _ = record { reading = refl; marking = refl; standing_w = refl; standing_r = refl; set_by_turn = refl; cleared_by_own = refl; left_by_listed_w = refl; left_by_listed_r = refl; alone = refl; owed_w = refl; owed_r = refl }
fits (ReleaseTurn Ending.GivenBack) (Turn Step.More) = record { reading = refl; marking = refl; standing_w = refl; standing_r = refl; set_by_turn = refl; cleared_by_own = refl; left_by_listed_w = refl; left_by_listed_r = refl; alone = refl; owed_w = refl; owed_r = refl }
fits (ReleaseTurn Ending.GivenBack) _ = record { reading = refl; marking = refl; standing_w = refl; standing_r = refl; set_by_turn = refl; cleared_by_own = refl; left_by_listed_w = refl; left_by_listed_r = refl; alone = refl; owed_w = refl; owed_r = refl }
fits (ReleaseTurn (Ending.NotFree p)) (Turn Step.More) = record { reading = refl; marking = refl; standing_w = refl; standing_r = refl; set_by_turn = refl; cleared_by_own = refl; left_by_listed_w = refl; left_by_listed_r = refl; alone = refl; owed_w = refl; owed_r = refl }
fits (ReleaseTurn (Ending.NotFree p)) _ = record { reading = refl; marking = refl; standing_w = refl; standing_r = refl; set_by_turn = refl; cleared_by_own = refl; left_by_listed_w = refl; left_by_listed_r = refl; alone = refl; owed_w = refl; owed_r = refl }
fits (ReleaseTurn Ending.RefuseReaders) (Turn Step.More) = record { reading = refl; marking = refl; standing_w = refl; standing_r = refl; set_by_turn = refl; cleared_by_own = refl; left_by_listed_w = refl; left_by_listed_r = refl; alone = refl; owed_w = refl; owed_r = refl }
fits (ReleaseTurn Ending.RefuseReaders) _ = record { reading = refl; marking = refl; standing_w = refl; standing_r = refl; set_by_turn = refl; cleared_by_own = refl; left_by_listed_w = refl; left_by_listed_r = refl; alone = refl; owed_w = refl; owed_r = refl }
fits (ReleaseTurn Ending.RefuseMemory) (Turn Step.More) = record { reading = refl; marking = refl; standing_w = refl; standing_r = refl; set_by_turn = refl; cleared_by_own = refl; left_by_listed_w = refl; left_by_listed_r = refl; alone = refl; owed_w = refl; owed_r = refl }
fits (ReleaseTurn Ending.RefuseMemory) _ = record { reading = refl; marking = refl; standing_w = refl; standing_r = refl; set_by_turn = refl; cleared_by_own = refl; left_by_listed_w = refl; left_by_listed_r = refl; alone = refl; owed_w = refl; owed_r = refl }
fits (ReleaseTurn Ending.Reading) (Turn Step.More) = record { reading = refl; marking = refl; standing_w = refl; standing_r = refl; set_by_turn = refl; cleared_by_own = refl; left_by_listed_w = refl; left_by_listed_r = refl; alone = refl; owed_w = refl; owed_r = refl }
fits (ReleaseTurn Ending.Reading) _ = record { reading = refl; marking = refl; standing_w = refl; standing_r = refl; set_by_turn = refl; cleared_by_own = refl; left_by_listed_w = refl; left_by_listed_r = refl; alone = refl; owed_w = refl; owed_r = refl }
fits (ReleaseTurn Ending.NotifyReaders) (Turn Step.More) = record { reading = refl; marking = refl; standing_w = refl; standing_r = refl; set_by_turn = refl; cleared_by_own = refl; left_by_listed_w = refl; left_by_listed_r = refl; alone = refl; owed_w = refl; owed_r = refl }
fits (ReleaseTurn Ending.NotifyReaders) _ = record { reading = refl; marking = refl; standing_w = refl; standing_r = refl; set_by_turn = refl; cleared_by_own = refl; left_by_listed_w = refl; left_by_listed_r = refl; alone = refl; owed_w = refl; owed_r = refl }
fits (ReleasingTurn Ending.GivenBack) _ = record { reading = refl; marking = refl; standing_w = refl; standing_r = refl; set_by_turn = refl; cleared_by_own = refl; left_by_listed_w = refl; left_by_listed_r = refl; alone = refl; owed_w = refl; owed_r = refl }
fits (ReleasingTurn (Ending.NotFree p)) _ = record { reading = refl; marking = refl; standing_w = refl; standing_r = refl; set_by_turn = refl; cleared_by_own = refl; left_by_listed_w = refl; left_by_listed_r = refl; alone = refl; owed_w = refl; owed_r = refl }
fits (ReleasingTurn Ending.RefuseReaders) _ = record { reading = refl; marking = refl; standing_w = refl; standing_r = refl; set_by_turn = refl; cleared_by_own = refl; left_by_listed_w = refl; left_by_listed_r = refl; alone = refl; owed_w = refl; owed_r = refl }
fits (ReleasingTurn Ending.RefuseMemory) _ = record { reading = refl; marking = refl; standing_w = refl; standing_r = refl; set_by_turn = refl; cleared_by_own = refl; left_by_listed_w = refl; left_by_listed_r = refl; alone = refl; owed_w = refl; owed_r = refl }
fits (ReleasingTurn Ending.Reading) _ = record { reading = refl; marking = refl; standing_w = refl; standing_r = refl; set_by_turn = refl; cleared_by_own = refl; left_by_listed_w = refl; left_by_listed_r = refl; alone = refl; owed_w = refl; owed_r = refl }
fits (ReleasingTurn Ending.NotifyReaders) _ = record { reading = refl; marking = refl; standing_w = refl; standing_r = refl; set_by_turn = refl; cleared_by_own = refl; left_by_listed_w = refl; left_by_listed_r = refl; alone = refl; owed_w = refl; owed_r = refl }
fits (Add true) Done = record { reading = refl; marking = refl; standing_w = refl; standing_r = refl; set_by_turn = refl; cleared_by_own = refl; left_by_listed_w = refl; left_by_listed_r = refl; alone = refl; owed_w = refl; owed_r = tt }
fits (Add true) _ = record { reading = refl; marking = refl; standing_w = refl; standing_r = refl; set_by_turn = refl; cleared_by_own = refl; left_by_listed_w = refl; left_by_listed_r = refl; alone = refl; owed_w = refl; owed_r = refl }
fits (Add false) Done = record { reading = refl; marking = refl; standing_w = refl; standing_r = refl; set_by_turn = refl; cleared_by_own = refl; left_by_listed_w = refl; left_by_listed_r = refl; alone = refl; owed_w = refl; owed_r = tt }
fits (Add false) _ = record { reading = refl; marking = refl; standing_w = refl; standing_r = refl; set_by_turn = refl; cleared_by_own = refl; left_by_listed_w = refl; left_by_listed_r = refl; alone = refl; owed_w = refl; owed_r = refl }
fits TryUpgrade Done = record { reading = refl; marking = refl; standing_w = refl; standing_r = refl; set_by_turn = refl; cleared_by_own = refl; left_by_listed_w = refl; left_by_listed_r = refl; alone = tt; owed_w = tt; owed_r = refl }
fits TryUpgrade _ = record { reading = refl; marking = refl; standing_w = refl; standing_r = refl; set_by_turn = refl; cleared_by_own = refl; left_by_listed_w = refl; left_by_listed_r = refl; alone = refl; owed_w = refl; owed_r = refl }
fits Upgrade _ = record { reading = refl; marking = refl; standing_w = refl; standing_r = refl; set_by_turn = refl; cleared_by_own = refl; left_by_listed_w = refl; left_by_listed_r = refl; alone = refl; owed_w = tt; owed_r = refl }
fits Mark NoneLeft = record { reading = refl; marking = refl; standing_w = refl; standing_r = refl; set_by_turn = refl; cleared_by_own = refl; left_by_listed_w = refl; left_by_listed_r = refl; alone = tt; owed_w = tt; owed_r = refl }
fits Mark _ = record { reading = refl; marking = refl; standing_w = refl; standing_r = refl; set_by_turn = refl; cleared_by_own = refl; left_by_listed_w = refl; left_by_listed_r = refl; alone = refl; owed_w = tt; owed_r = refl }
fits TryWrite Done = record { reading = refl; marking = refl; standing_w = refl; standing_r = refl; set_by_turn = refl; cleared_by_own = refl; left_by_listed_w = refl; left_by_listed_r = refl; alone = tt; owed_w = tt; owed_r = refl }
fits TryWrite _ = record { reading = refl; marking = refl; standing_w = refl; standing_r = refl; set_by_turn = refl; cleared_by_own = refl; left_by_listed_w = refl; left_by_listed_r = refl; alone = refl; owed_w = refl; owed_r = refl }
fits (JoinNoReaders true) Done = record { reading = refl; marking = refl; standing_w = refl; standing_r = refl; set_by_turn = refl; cleared_by_own = refl; left_by_listed_w = refl; left_by_listed_r = refl; alone = refl; owed_w = refl; owed_r = refl }
fits (JoinNoReaders true) _ = record { reading = refl; marking = refl; standing_w = refl; standing_r = refl; set_by_turn = refl; cleared_by_own = refl; left_by_listed_w = refl; left_by_listed_r = refl; alone = refl; owed_w = refl; owed_r = refl }
fits (JoinNoReaders false) Done = record { reading = refl; marking = refl; standing_w = refl; standing_r = refl; set_by_turn = refl; cleared_by_own = refl; left_by_listed_w = refl; left_by_listed_r = refl; alone = refl; owed_w = refl; owed_r = refl }
fits (JoinNoReaders false) _ = record { reading = refl; marking = refl; standing_w = refl; standing_r = refl; set_by_turn = refl; cleared_by_own = refl; left_by_listed_w = refl; left_by_listed_r = refl; alone = refl; owed_w = refl; owed_r = refl }
fits (LookNoReaders upgrade) NoneLeft = record { reading = refl; marking = refl; standing_w = refl; standing_r = refl; set_by_turn = refl; cleared_by_own = refl; left_by_listed_w = refl; left_by_listed_r = refl; alone = tt; owed_w = refl; owed_r = refl }
fits (LookNoReaders upgrade) _ = record { reading = refl; marking = refl; standing_w = refl; standing_r = refl; set_by_turn = refl; cleared_by_own = refl; left_by_listed_w = refl; left_by_listed_r = refl; alone = refl; owed_w = refl; owed_r = tt }
fits (AskNoReaders upgrade) Yes = record { reading = refl; marking = refl; standing_w = refl; standing_r = refl; set_by_turn = refl; cleared_by_own = refl; left_by_listed_w = refl; left_by_listed_r = refl; alone = refl; owed_w = refl; owed_r = (refl, refl) }
fits (AskNoReaders upgrade) _ = record { reading = refl; marking = refl; standing_w = refl; standing_r = refl; set_by_turn = refl; cleared_by_own = refl; left_by_listed_w = refl; left_by_listed_r = refl; alone = refl; owed_w = refl; owed_r = refl }
fits (AwaitNoReaders upgrade) NoneLeft = record { reading = refl; marking = refl; standing_w = refl; standing_r = refl; set_by_turn = refl; cleared_by_own = refl; left_by_listed_w = refl; left_by_listed_r = refl; alone = tt; owed_w = refl; owed_r = refl }
fits (AwaitNoReaders upgrade) _ = record { reading = refl; marking = refl; standing_w = refl; standing_r = refl; set_by_turn = refl; cleared_by_own = refl; left_by_listed_w = refl; left_by_listed_r = refl; alone = refl; owed_w = refl; owed_r = tt }
fits (LookUnlisted upgrade) NoneLeft = record { reading = refl; marking = refl; standing_w = refl; standing_r = refl; set_by_turn = refl; cleared_by_own = refl; left_by_listed_w = refl; left_by_listed_r = refl; alone = tt; owed_w = refl; owed_r = refl }
fits (LookUnlisted upgrade) _ = record { reading = refl; marking = refl; standing_w = refl; standing_r = refl; set_by_turn = refl; cleared_by_own = refl; left_by_listed_w = refl; left_by_listed_r = refl; alone = refl; owed_w = refl; owed_r = tt }
fits LeaveNoReaders _ = record { reading = refl; marking = refl; standing_w = refl; standing_r = refl; set_by_turn = refl; cleared_by_own = refl; left_by_listed_w = refl; left_by_listed_r = refl; alone = refl; owed_w = refl; owed_r = refl }
fits DropRead NoneLeft = record { reading = refl; marking = refl; standing_w = refl; standing_r = refl; set_by_turn = refl; cleared_by_own = refl; left_by_listed_w = refl; left_by_listed_r = refl; alone = refl; owed_w = refl; owed_r = refl }
fits DropRead _ = record { reading = refl; marking = refl; standing_w = refl; standing_r = refl; set_by_turn = refl; cleared_by_own = refl; left_by_listed_w = refl; left_by_listed_r = refl; alone = refl; owed_w = refl; owed_r = tt }
fits DropReadNotify _ = record { reading = refl; marking = refl; standing_w = refl; standing_r = refl; set_by_turn = refl; cleared_by_own = refl; left_by_listed_w = refl; left_by_listed_r = refl; alone = refl; owed_w = refl; owed_r = tt }
fits DropUpgradable NoneLeft = record { reading = refl; marking = refl; standing_w = refl; standing_r = refl; set_by_turn = refl; cleared_by_own = refl; left_by_listed_w = refl; left_by_listed_r = refl; alone = refl; owed_w = refl; owed_r = refl }
fits DropUpgradable _ = record { reading = refl; marking = refl; standing_w = refl; standing_r = refl; set_by_turn = refl; cleared_by_own = refl; left_by_listed_w = refl; left_by_listed_r = refl; alone = refl; owed_w = refl; owed_r = tt }
fits DropUpgradableNotify _ = record { reading = refl; marking = refl; standing_w = refl; standing_r = refl; set_by_turn = refl; cleared_by_own = refl; left_by_listed_w = refl; left_by_listed_r = refl; alone = refl; owed_w = refl; owed_r = tt }
fits DropWrite _ = record { reading = refl; marking = refl; standing_w = refl; standing_r = refl; set_by_turn = refl; cleared_by_own = refl; left_by_listed_w = refl; left_by_listed_r = refl; alone = refl; owed_w = refl; owed_r = refl }
fits CancelAwait _ = record { reading = refl; marking = refl; standing_w = refl; standing_r = refl; set_by_turn = refl; cleared_by_own = refl; left_by_listed_w = refl; left_by_listed_r = refl; alone = refl; owed_w = refl; owed_r = refl }
fits (Unmark refused) _ = record { reading = refl; marking = refl; standing_w = refl; standing_r = refl; set_by_turn = refl; cleared_by_own = refl; left_by_listed_w = refl; left_by_listed_r = refl; alone = refl; owed_w = refl; owed_r = refl }
fits (UnmarkNotify true) _ = record { reading = refl; marking = refl; standing_w = refl; standing_r = refl; set_by_turn = refl; cleared_by_own = refl; left_by_listed_w = refl; left_by_listed_r = refl; alone = refl; owed_w = tt; owed_r = refl }
fits (UnmarkNotify false) _ = record { reading = refl; marking = refl; standing_w = refl; standing_r = refl; set_by_turn = refl; cleared_by_own = refl; left_by_listed_w = refl; left_by_listed_r = refl; alone = refl; owed_w = tt; owed_r = refl }
fits (Down true) _ = record { reading = refl; marking = refl; standing_w = refl; standing_r = refl; set_by_turn = refl; cleared_by_own = refl; left_by_listed_w = refl; left_by_listed_r = refl; alone = tt; owed_w = refl; owed_r = tt }
fits (Down false) _ = record { reading = refl; marking = refl; standing_w = refl; standing_r = refl; set_by_turn = refl; cleared_by_own = refl; left_by_listed_w = refl; left_by_listed_r = refl; alone = tt; owed_w = refl; owed_r = tt }
fits DownNotify _ = record { reading = refl; marking = refl; standing_w = refl; standing_r = refl; set_by_turn = refl; cleared_by_own = refl; left_by_listed_w = refl; left_by_listed_r = refl; alone = refl; owed_w = tt; owed_r = refl }
fits DowngradeNotify _ = record { reading = refl; marking = refl; standing_w = refl; standing_r = refl; set_by_turn = refl; cleared_by_own = refl; left_by_listed_w = refl; left_by_listed_r = refl; alone = refl; owed_w = tt; owed_r = refl }
