-- Where each action leads, place by place. Written by generators/rwlock_world_rows.py.
use Rattle.world_rwlock.proofs.Prelude.{◌≡◌, ◌&&◌, Bool, true, false, refl, Refusal, TurnCourse, TurnStep as Step, Purpose, Ending, End, Got, Granted, Pending, NotFree, GivenBack, Refused, Next, Found, Done, Writer, Full, NoneLeft, SomeLeft, NoMemory, Yes, No, Turn, Place, Out, Made, Reading, Upgradable, Writing, EnterRead, JoinNoWriter, LookNoWriter, AskNoWriter, PassOn, LeaveNoWriter, RefuseLeave, RefuseNotify, CancelRead, TryRead, EnterTurn, WaitTurn, TakeTurn, TryTurn, CancelTurn, CancellingTurn, ReleaseTurn, ReleasingTurn, Add, TryUpgrade, Upgrade, Mark, TryWrite, JoinNoReaders, LookNoReaders, AskNoReaders, AwaitNoReaders, LookUnlisted, LeaveNoReaders, DropRead, DropReadNotify, DropUpgradable, DropUpgradableNotify, DropWrite, CancelAwait, Unmark, UnmarkNotify, Down, DownNotify, DowngradeNotify, action_of, next_of, RwLock, Finds, Course, polls, tries, drops, downgrades, upgrades, tries_upgrade, strays, course_of, is_inside, sought_at, is_future, is_guard}
use Rattle.world_rwlock.proofs.of_machine.stages.Leads.{Led}
use Rattle.world_rwlock.specs.Stages.{is_out}

-- the refusals of a read-write lock's futures
abbrev pub is_ours : Refusal → Bool
is_ours Refusal.Memory = true
is_ours Refusal.Starved = true
is_ours Refusal.Readers = true
is_ours _ = false

-- how a program of this course ends, and where its party stands then
abbrev pub ends_in : Course → End → Place → Bool
ends_in polls Got q = is_guard q
ends_in polls Pending q = is_future q
ends_in polls (Refused r) q = is_future q && is_ours r
ends_in tries Granted q = is_guard q
ends_in tries NotFree q = is_out q
ends_in drops GivenBack q = is_out q
ends_in downgrades GivenBack q = is_guard q
ends_in tries_upgrade Granted q = is_guard q
ends_in tries_upgrade NotFree q = is_guard q
ends_in _ _ q = false

-- a program goes on as it is, or ends so
abbrev pub Keeps : Course → Next → Type 0
Keeps c (Next.Do a q) = (course_of q ≡ c) × (is_inside q ≡ true)
Keeps c (Next.End e q) = ends_in c e q ≡ true
Keeps c (Next.Wait q) = (c ≡ upgrades) × (is_future q ≡ true)

-- where a party stands whose try was in vain
abbrev pub InVain : Course → Place → Type 0
InVain tries_upgrade q = q ≡ Upgradable
InVain _ q = q ≡ Out

-- what is sought goes on to be sought
abbrev pub Seeks : Place → Next → Type 0
Seeks x (Next.End NotFree q) = InVain (course_of x) q
Seeks x (Next.Do a q) = sought_at q ≡ sought_at x
Seeks x (Next.End _ q) = sought_at q ≡ sought_at x
Seeks x (Next.Wait q) = sought_at q ≡ sought_at x

pub record Path (x : Place) (f : Found) : Type 0 where
  pub keeps : Keeps (course_of x) (next_of x f)
  pub seeks : Seeks x (next_of x f)

module _ (memory : Bool) (l : RwLock) (to : TurnCourse) where
  pub path : (x : Place) (f : Found) → Finds memory (action_of x) f l → Led x f to → (course_of x ≡ strays → ⊥) → Path x f
  path Out Done e l n = record { keeps = refl; seeks = refl }
  path Out _ e l n = absurd e
  path (Made w) _ e l n = absurd (n refl)
  path Reading Done e l n = record { keeps = refl; seeks = refl }
  path Reading _ e l n = absurd e
  path Upgradable Done e l n = record { keeps = refl; seeks = refl }
  path Upgradable _ e l n = absurd e
  path Writing Done e l n = record { keeps = refl; seeks = refl }
  path Writing _ e l n = absurd e
  path (EnterRead true) Done e l n = record { keeps = refl; seeks = refl }
  path (EnterRead true) Writer e l n = record { keeps = (refl, refl); seeks = refl }
  path (EnterRead true) Full e l n = record { keeps = (refl, refl); seeks = refl }
  path (EnterRead true) _ e l n = absurd e
  path (EnterRead false) Done e l n = record { keeps = refl; seeks = refl }
  path (EnterRead false) Writer e l n = record { keeps = (refl, refl); seeks = refl }
  path (EnterRead false) Full e l n = record { keeps = refl; seeks = refl }
  path (EnterRead false) _ e l n = absurd e
  path (JoinNoWriter true) Done e l n = record { keeps = (refl, refl); seeks = refl }
  path (JoinNoWriter true) NoMemory e l n = record { keeps = (refl, refl); seeks = refl }
  path (JoinNoWriter true) _ e l n = absurd e
  path (JoinNoWriter false) Done e l n = record { keeps = (refl, refl); seeks = refl }
  path (JoinNoWriter false) NoMemory e l n = record { keeps = refl; seeks = refl }
  path (JoinNoWriter false) _ e l n = absurd e
  path (LookNoWriter told) Done e l n = record { keeps = (refl, refl); seeks = refl }
  path (LookNoWriter told) Writer e l n = record { keeps = (refl, refl); seeks = refl }
  path (LookNoWriter told) Full e l n = record { keeps = (refl, refl); seeks = refl }
  path (LookNoWriter told) _ e l n = absurd e
  path AskNoWriter Yes e l n = record { keeps = (refl, refl); seeks = refl }
  path AskNoWriter No e l n = record { keeps = refl; seeks = refl }
  path AskNoWriter _ e l n = absurd e
  path PassOn Done e l n = record { keeps = (refl, refl); seeks = refl }
  path PassOn _ e l n = absurd e
  path LeaveNoWriter Done e l n = record { keeps = refl; seeks = refl }
  path LeaveNoWriter _ e l n = absurd e
  path (RefuseLeave true) Done e l n = record { keeps = (refl, refl); seeks = refl }
  path (RefuseLeave true) _ e l n = absurd e
  path (RefuseLeave false) Done e l n = record { keeps = refl; seeks = refl }
  path (RefuseLeave false) _ e l n = absurd e
  path (RefuseNotify Refusal.Memory) Done e l n = record { keeps = refl; seeks = refl }
  path (RefuseNotify Refusal.Memory) _ e l n = absurd e
  path (RefuseNotify Refusal.Readers) Done e l n = record { keeps = refl; seeks = refl }
  path (RefuseNotify Refusal.Readers) _ e l n = absurd e
  path (RefuseNotify _) _ e l n = absurd (n refl)
  path CancelRead Done e l n = record { keeps = refl; seeks = refl }
  path CancelRead _ e l n = absurd e
  path TryRead Done e l n = record { keeps = refl; seeks = refl }
  path TryRead Writer e l n = record { keeps = refl; seeks = refl }
  path TryRead Full e l n = record { keeps = refl; seeks = refl }
  path TryRead _ e l n = absurd e
  path (EnterTurn Purpose.UpgradableRead) (Turn Step.More) e l n = record { keeps = (refl, refl); seeks = refl }
  path (EnterTurn Purpose.UpgradableRead) (Turn (Step.End End.Got)) e l n = record { keeps = (refl, refl); seeks = refl }
  path (EnterTurn Purpose.UpgradableRead) (Turn (Step.End End.Pending)) e l n = record { keeps = refl; seeks = refl }
  path (EnterTurn Purpose.UpgradableRead) (Turn (Step.End (End.Refused Refusal.Memory))) e l n = record { keeps = refl; seeks = refl }
  path (EnterTurn Purpose.UpgradableRead) (Turn (Step.End (End.Refused Refusal.Starved))) e l n = record { keeps = refl; seeks = refl }
  path (EnterTurn Purpose.UpgradableRead) (Turn _) e l n = absurd l
  path (EnterTurn Purpose.UpgradableRead) _ e l n = absurd e
  path (EnterTurn Purpose.Write) (Turn Step.More) e l n = record { keeps = (refl, refl); seeks = refl }
  path (EnterTurn Purpose.Write) (Turn (Step.End End.Got)) e l n = record { keeps = (refl, refl); seeks = refl }
  path (EnterTurn Purpose.Write) (Turn (Step.End End.Pending)) e l n = record { keeps = refl; seeks = refl }
  path (EnterTurn Purpose.Write) (Turn (Step.End (End.Refused Refusal.Memory))) e l n = record { keeps = refl; seeks = refl }
  path (EnterTurn Purpose.Write) (Turn (Step.End (End.Refused Refusal.Starved))) e l n = record { keeps = refl; seeks = refl }
  path (EnterTurn Purpose.Write) (Turn _) e l n = absurd l
  path (EnterTurn Purpose.Write) _ e l n = absurd e
  path (WaitTurn Purpose.UpgradableRead) (Turn Step.More) e l n = record { keeps = (refl, refl); seeks = refl }
  path (WaitTurn Purpose.UpgradableRead) (Turn (Step.End End.Got)) e l n = record { keeps = (refl, refl); seeks = refl }
  path (WaitTurn Purpose.UpgradableRead) (Turn (Step.End End.Pending)) e l n = record { keeps = refl; seeks = refl }
  path (WaitTurn Purpose.UpgradableRead) (Turn (Step.End (End.Refused Refusal.Memory))) e l n = record { keeps = refl; seeks = refl }
  path (WaitTurn Purpose.UpgradableRead) (Turn (Step.End (End.Refused Refusal.Starved))) e l n = record { keeps = refl; seeks = refl }
  path (WaitTurn Purpose.UpgradableRead) (Turn _) e l n = absurd l
  path (WaitTurn Purpose.UpgradableRead) _ e l n = absurd e
  path (WaitTurn Purpose.Write) (Turn Step.More) e l n = record { keeps = (refl, refl); seeks = refl }
  path (WaitTurn Purpose.Write) (Turn (Step.End End.Got)) e l n = record { keeps = (refl, refl); seeks = refl }
  path (WaitTurn Purpose.Write) (Turn (Step.End End.Pending)) e l n = record { keeps = refl; seeks = refl }
  path (WaitTurn Purpose.Write) (Turn (Step.End (End.Refused Refusal.Memory))) e l n = record { keeps = refl; seeks = refl }
  path (WaitTurn Purpose.Write) (Turn (Step.End (End.Refused Refusal.Starved))) e l n = record { keeps = refl; seeks = refl }
  path (WaitTurn Purpose.Write) (Turn _) e l n = absurd l
  path (WaitTurn Purpose.Write) _ e l n = absurd e
  path (TakeTurn Purpose.UpgradableRead) (Turn Step.More) e l n = record { keeps = (refl, refl); seeks = refl }
  path (TakeTurn Purpose.UpgradableRead) (Turn (Step.End End.Got)) e l n = record { keeps = (refl, refl); seeks = refl }
  path (TakeTurn Purpose.UpgradableRead) (Turn (Step.End End.Pending)) e l n = record { keeps = refl; seeks = refl }
  path (TakeTurn Purpose.UpgradableRead) (Turn (Step.End (End.Refused Refusal.Memory))) e l n = record { keeps = refl; seeks = refl }
  path (TakeTurn Purpose.UpgradableRead) (Turn (Step.End (End.Refused Refusal.Starved))) e l n = record { keeps = refl; seeks = refl }
  path (TakeTurn Purpose.UpgradableRead) (Turn _) e l n = absurd l
  path (TakeTurn Purpose.UpgradableRead) _ e l n = absurd e
  path (TakeTurn Purpose.Write) (Turn Step.More) e l n = record { keeps = (refl, refl); seeks = refl }
  path (TakeTurn Purpose.Write) (Turn (Step.End End.Got)) e l n = record { keeps = (refl, refl); seeks = refl }
  path (TakeTurn Purpose.Write) (Turn (Step.End End.Pending)) e l n = record { keeps = refl; seeks = refl }
  path (TakeTurn Purpose.Write) (Turn (Step.End (End.Refused Refusal.Memory))) e l n = record { keeps = refl; seeks = refl }
  path (TakeTurn Purpose.Write) (Turn (Step.End (End.Refused Refusal.Starved))) e l n = record { keeps = refl; seeks = refl }
  path (TakeTurn Purpose.Write) (Turn _) e l n = absurd l
  path (TakeTurn Purpose.Write) _ e l n = absurd e
  path (TryTurn Purpose.UpgradableRead) (Turn (Step.End End.Got)) e l n = record { keeps = (refl, refl); seeks = refl }
  path (TryTurn Purpose.UpgradableRead) (Turn (Step.End End.NotFree)) e l n = record { keeps = refl; seeks = refl }
  path (TryTurn Purpose.UpgradableRead) (Turn _) e l n = absurd l
  path (TryTurn Purpose.UpgradableRead) _ e l n = absurd e
  path (TryTurn Purpose.Write) (Turn (Step.End End.Got)) e l n = record { keeps = (refl, refl); seeks = refl }
  path (TryTurn Purpose.Write) (Turn (Step.End End.NotFree)) e l n = record { keeps = refl; seeks = refl }
  path (TryTurn Purpose.Write) (Turn _) e l n = absurd l
  path (TryTurn Purpose.Write) _ e l n = absurd e
  path CancelTurn (Turn Step.More) e l n = record { keeps = (refl, refl); seeks = refl }
  path CancelTurn (Turn (Step.End End.GivenBack)) e l n = record { keeps = refl; seeks = refl }
  path CancelTurn (Turn _) e l n = absurd l
  path CancelTurn _ e l n = absurd e
  path CancellingTurn (Turn Step.More) e l n = record { keeps = (refl, refl); seeks = refl }
  path CancellingTurn (Turn (Step.End End.GivenBack)) e l n = record { keeps = refl; seeks = refl }
  path CancellingTurn (Turn _) e l n = absurd l
  path CancellingTurn _ e l n = absurd e
  path (ReleaseTurn Ending.GivenBack) (Turn Step.More) e l n = record { keeps = (refl, refl); seeks = refl }
  path (ReleaseTurn Ending.GivenBack) (Turn (Step.End End.GivenBack)) e l n = record { keeps = refl; seeks = refl }
  path (ReleaseTurn Ending.GivenBack) (Turn _) e l n = absurd l
  path (ReleaseTurn Ending.GivenBack) _ e l n = absurd e
  path (ReleaseTurn (Ending.NotFree p)) (Turn Step.More) e l n = record { keeps = (refl, refl); seeks = refl }
  path (ReleaseTurn (Ending.NotFree p)) (Turn (Step.End End.GivenBack)) e l n = record { keeps = refl; seeks = refl }
  path (ReleaseTurn (Ending.NotFree p)) (Turn _) e l n = absurd l
  path (ReleaseTurn (Ending.NotFree p)) _ e l n = absurd e
  path (ReleaseTurn Ending.RefuseReaders) (Turn Step.More) e l n = record { keeps = (refl, refl); seeks = refl }
  path (ReleaseTurn Ending.RefuseReaders) (Turn (Step.End End.GivenBack)) e l n = record { keeps = refl; seeks = refl }
  path (ReleaseTurn Ending.RefuseReaders) (Turn _) e l n = absurd l
  path (ReleaseTurn Ending.RefuseReaders) _ e l n = absurd e
  path (ReleaseTurn Ending.RefuseMemory) (Turn Step.More) e l n = record { keeps = (refl, refl); seeks = refl }
  path (ReleaseTurn Ending.RefuseMemory) (Turn (Step.End End.GivenBack)) e l n = record { keeps = refl; seeks = refl }
  path (ReleaseTurn Ending.RefuseMemory) (Turn _) e l n = absurd l
  path (ReleaseTurn Ending.RefuseMemory) _ e l n = absurd e
  path (ReleaseTurn Ending.Reading) (Turn Step.More) e l n = record { keeps = (refl, refl); seeks = refl }
  path (ReleaseTurn Ending.Reading) (Turn (Step.End End.GivenBack)) e l n = record { keeps = refl; seeks = refl }
  path (ReleaseTurn Ending.Reading) (Turn _) e l n = absurd l
  path (ReleaseTurn Ending.Reading) _ e l n = absurd e
  path (ReleaseTurn Ending.NotifyReaders) (Turn Step.More) e l n = record { keeps = (refl, refl); seeks = refl }
  path (ReleaseTurn Ending.NotifyReaders) (Turn (Step.End End.GivenBack)) e l n = record { keeps = (refl, refl); seeks = refl }
  path (ReleaseTurn Ending.NotifyReaders) (Turn _) e l n = absurd l
  path (ReleaseTurn Ending.NotifyReaders) _ e l n = absurd e
  path (ReleasingTurn Ending.GivenBack) (Turn (Step.End End.GivenBack)) e l n = record { keeps = refl; seeks = refl }
  path (ReleasingTurn Ending.GivenBack) (Turn _) e l n = absurd l
  path (ReleasingTurn Ending.GivenBack) _ e l n = absurd e
  path (ReleasingTurn (Ending.NotFree p)) (Turn (Step.End End.GivenBack)) e l n = record { keeps = refl; seeks = refl }
  path (ReleasingTurn (Ending.NotFree p)) (Turn _) e l n = absurd l
  path (ReleasingTurn (Ending.NotFree p)) _ e l n = absurd e
  path (ReleasingTurn Ending.RefuseReaders) (Turn (Step.End End.GivenBack)) e l n = record { keeps = refl; seeks = refl }
  path (ReleasingTurn Ending.RefuseReaders) (Turn _) e l n = absurd l
  path (ReleasingTurn Ending.RefuseReaders) _ e l n = absurd e
  path (ReleasingTurn Ending.RefuseMemory) (Turn (Step.End End.GivenBack)) e l n = record { keeps = refl; seeks = refl }
  path (ReleasingTurn Ending.RefuseMemory) (Turn _) e l n = absurd l
  path (ReleasingTurn Ending.RefuseMemory) _ e l n = absurd e
  path (ReleasingTurn Ending.Reading) (Turn (Step.End End.GivenBack)) e l n = record { keeps = refl; seeks = refl }
  path (ReleasingTurn Ending.Reading) (Turn _) e l n = absurd l
  path (ReleasingTurn Ending.Reading) _ e l n = absurd e
  path (ReleasingTurn Ending.NotifyReaders) (Turn (Step.End End.GivenBack)) e l n = record { keeps = (refl, refl); seeks = refl }
  path (ReleasingTurn Ending.NotifyReaders) (Turn _) e l n = absurd l
  path (ReleasingTurn Ending.NotifyReaders) _ e l n = absurd e
  path (Add true) Done e l n = record { keeps = refl; seeks = refl }
  path (Add true) Full e l n = record { keeps = (refl, refl); seeks = refl }
  path (Add true) _ e l n = absurd e
  path (Add false) Done e l n = record { keeps = refl; seeks = refl }
  path (Add false) Full e l n = record { keeps = (refl, refl); seeks = refl }
  path (Add false) _ e l n = absurd e
  path TryUpgrade Done e l n = record { keeps = refl; seeks = refl }
  path TryUpgrade Found.NotFree e l n = record { keeps = refl; seeks = refl }
  path TryUpgrade _ e l n = absurd e
  path Upgrade Done e l n = record { keeps = (refl, refl); seeks = refl }
  path Upgrade _ e l n = absurd e
  path Mark NoneLeft e l n = record { keeps = refl; seeks = refl }
  path Mark SomeLeft e l n = record { keeps = (refl, refl); seeks = refl }
  path Mark _ e l n = absurd e
  path TryWrite Done e l n = record { keeps = refl; seeks = refl }
  path TryWrite Found.NotFree e l n = record { keeps = (refl, refl); seeks = refl }
  path TryWrite _ e l n = absurd e
  path (JoinNoReaders true) Done e l n = record { keeps = (refl, refl); seeks = refl }
  path (JoinNoReaders true) NoMemory e l n = record { keeps = refl; seeks = refl }
  path (JoinNoReaders true) _ e l n = absurd e
  path (JoinNoReaders false) Done e l n = record { keeps = (refl, refl); seeks = refl }
  path (JoinNoReaders false) NoMemory e l n = record { keeps = (refl, refl); seeks = refl }
  path (JoinNoReaders false) _ e l n = absurd e
  path (LookNoReaders u) NoneLeft e l n = record { keeps = (refl, refl); seeks = refl }
  path (LookNoReaders u) SomeLeft e l n = record { keeps = (refl, refl); seeks = refl }
  path (LookNoReaders u) _ e l n = absurd e
  path (AskNoReaders u) Yes e l n = record { keeps = (refl, refl); seeks = refl }
  path (AskNoReaders u) No e l n = record { keeps = refl; seeks = refl }
  path (AskNoReaders u) _ e l n = absurd e
  path (AwaitNoReaders u) NoneLeft e l n = record { keeps = (refl, refl); seeks = refl }
  path (AwaitNoReaders u) SomeLeft e l n = record { keeps = (refl, refl); seeks = refl }
  path (AwaitNoReaders u) _ e l n = absurd e
  path (LookUnlisted u) NoneLeft e l n = record { keeps = refl; seeks = refl }
  path (LookUnlisted u) SomeLeft e l n = record { keeps = (refl, refl); seeks = refl }
  path (LookUnlisted u) _ e l n = absurd e
  path LeaveNoReaders Done e l n = record { keeps = refl; seeks = refl }
  path LeaveNoReaders _ e l n = absurd e
  path DropRead NoneLeft e l n = record { keeps = (refl, refl); seeks = refl }
  path DropRead SomeLeft e l n = record { keeps = refl; seeks = refl }
  path DropRead _ e l n = absurd e
  path DropReadNotify Done e l n = record { keeps = refl; seeks = refl }
  path DropReadNotify _ e l n = absurd e
  path DropUpgradable NoneLeft e l n = record { keeps = (refl, refl); seeks = refl }
  path DropUpgradable SomeLeft e l n = record { keeps = (refl, refl); seeks = refl }
  path DropUpgradable _ e l n = absurd e
  path DropUpgradableNotify Done e l n = record { keeps = (refl, refl); seeks = refl }
  path DropUpgradableNotify _ e l n = absurd e
  path DropWrite Done e l n = record { keeps = (refl, refl); seeks = refl }
  path DropWrite _ e l n = absurd e
  path CancelAwait Done e l n = record { keeps = (refl, refl); seeks = refl }
  path CancelAwait _ e l n = absurd e
  path (Unmark true) Done e l n = record { keeps = (refl, refl); seeks = refl }
  path (Unmark true) _ e l n = absurd e
  path (Unmark false) Done e l n = record { keeps = (refl, refl); seeks = refl }
  path (Unmark false) _ e l n = absurd e
  path (UnmarkNotify true) Done e l n = record { keeps = (refl, refl); seeks = refl }
  path (UnmarkNotify true) _ e l n = absurd e
  path (UnmarkNotify false) Done e l n = record { keeps = (refl, refl); seeks = refl }
  path (UnmarkNotify false) _ e l n = absurd e
  path (Down true) Done e l n = record { keeps = (refl, refl); seeks = refl }
  path (Down true) _ e l n = absurd e
  path (Down false) Done e l n = record { keeps = (refl, refl); seeks = refl }
  path (Down false) _ e l n = absurd e
  path DownNotify Done e l n = record { keeps = refl; seeks = refl }
  path DownNotify _ e l n = absurd e
  path DowngradeNotify Done e l n = record { keeps = refl; seeks = refl }
  path DowngradeNotify _ e l n = absurd e
