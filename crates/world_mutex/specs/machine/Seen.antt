-- How a machine is seen by those who build on a mutex. No clause of theirs reads it.
use Rattle.std.specs.Prelude.{◌≡◌, ℕ, ◌+◌, Bool, true, false, List, [], ◌∷◌, map}
use Rattle.lock_program.specs.declared.refusal.Refusal.TheVariants.{Memory, Starved}
use Rattle.lock_program.specs.declared.mutex.Place.{Place}
use Rattle.lock_program.specs.declared.mutex.Place.TheVariants as place
use Rattle.world_mutex.specs.machine.Machine.{Lock, place_at}
use Rattle.world_mutex.specs.machine.Ranks.{left, is_own_marked, is_open}
use Rattle.world_mutex.specs.machine.Course.{Course, out, holding, waiting, taking, releasing, cancelling, undecided, called, counting, has_lock, gives_up}
use Rattle.world_mutex.specs.machine.Behind.{conceal}
use Rattle.world_mutex.specs.machine.Mutex.{Mutex}

-- The course of a party's call by its place. Nobody is left where a call enters, tries or clears.
abbrev pub course_of : Place → Course
course_of place.Out = out
course_of place.Enter = out
course_of place.Try = out
course_of place.Holding = holding
course_of place.Clear = holding
course_of place.Ask = waiting false
course_of place.AskStarved = waiting true
course_of (place.Join told) = taking undecided false false told
course_of (place.Look told) = taking undecided false true told
course_of place.Retry = taking called false false true
course_of place.PassOn = taking counting false false true
course_of (place.Count listed told) = taking counting false listed told
course_of place.JoinStarved = taking undecided true false true
course_of place.LookAlone = taking undecided true true true
course_of place.PassOnListed = taking undecided true true true
course_of place.Seize = taking undecided true false true
course_of (place.Uncount listed) = taking has_lock true listed true
course_of place.Leave = taking has_lock false true true
course_of place.RefuseUncount = taking (gives_up Memory) true false true
course_of (place.RefuseLeave told) = taking (gives_up Starved) false true told
course_of place.RefuseNotifyMemory = taking (gives_up Memory) false false true
course_of place.RefuseNotifyStarved = taking (gives_up Starved) false false true
course_of place.ReleaseNotify = releasing
course_of place.CancelUncount = cancelling true
course_of place.CancelLeave = cancelling false

-- a party may be left at this place
abbrev pub is_kept : Place → Bool
is_kept place.Enter = false
is_kept place.Try = false
is_kept place.Clear = false
is_kept _ = true

-- Each party is where one may be left.
abbrev pub AreKept : List Place → Type 0
AreKept ps = (p : ℕ) → is_kept (place_at ps p) ≡ true

-- the steps that are left to each party, counted from n
abbrev pub steps_from : Lock → ℕ → List Place → List ℕ
steps_from l n [] = []
steps_from l n (x ∷ xs) = left x (is_own_marked l n) (is_open l) ∷ steps_from l (n + 1) xs

abbrev pub seen : Lock → Mutex
seen l = record { courses = map course_of l.places; entries = l.entries; limit = l.limit; steps = steps_from l 0 l.places; behind = conceal l }
