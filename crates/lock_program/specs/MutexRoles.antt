-- What a party at a place of a mutex's calls has and owes, each as 1 or 0, so that sums over the parties count them.
use Rattle.std.specs.Prelude.{ℕ, ◌==◌, Bool, true, false}
use Rattle.lock_program.specs.declared.mutex.Place.{Place}
use Rattle.lock_program.specs.declared.mutex.Place.TheVariants.{Out, Holding, Clear, CancelUncount, CancelLeave, Look, Ask, Retry, PassOn, Count, JoinStarved, LookAlone, PassOnListed, AskStarved, Seize, Uncount, Leave, RefuseUncount, RefuseLeave, RefuseNotifyMemory, RefuseNotifyStarved, ReleaseNotify}

-- 1 for what is so, and 0 for what isn't
abbrev pub bit : Bool → ℕ
bit true = 1
bit false = 0

-- it holds the lock
abbrev pub holds : Place → ℕ
holds Holding = 1
holds Clear = 1
holds (Uncount listed) = 1
holds Leave = 1
holds _ = 0

-- it is counted as starved
abbrev pub counted : Place → ℕ
counted JoinStarved = 1
counted LookAlone = 1
counted PassOnListed = 1
counted AskStarved = 1
counted Seize = 1
counted (Uncount listed) = 1
counted RefuseUncount = 1
counted CancelUncount = 1
counted _ = 0

-- it stands in the list
abbrev pub listed : Place → ℕ
listed (Look told) = 1
listed Ask = 1
listed (Count stands told) = bit stands
listed LookAlone = 1
listed PassOnListed = 1
listed AskStarved = 1
listed (Uncount stands) = bit stands
listed Leave = 1
listed (RefuseLeave told) = 1
listed CancelUncount = 1
listed CancelLeave = 1
listed _ = 0

-- it stands in the list and has looked at the word since it joined
abbrev pub waits : Place → ℕ
waits (Look told) = 0
waits LookAlone = 0
waits (Uncount stands) = 0
waits Leave = 0
waits p = listed p

-- its program still has to notify, or to look on behalf of the others
abbrev pub owes : Place → ℕ
owes Retry = 1
owes PassOn = 1
owes JoinStarved = 1
owes LookAlone = 1
owes PassOnListed = 1
owes Seize = 1
owes RefuseUncount = 1
owes RefuseNotifyMemory = 1
owes RefuseNotifyStarved = 1
owes ReleaseNotify = 1
owes _ = 0

-- it is inside no program: it holds the lock, is out, or waits to be notified
abbrev pub is_resting : Place → Bool
is_resting Out = true
is_resting Holding = true
is_resting Ask = true
is_resting AskStarved = true
is_resting _ = false

abbrev pub is_holder : Place → Bool
is_holder x = holds x == 1

abbrev pub is_counted : Place → Bool
is_counted x = counted x == 1
