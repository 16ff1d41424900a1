-- How a machine is seen by those who build on a semaphore. No clause of theirs reads it.
use Rattle.std.specs.Prelude.{◌≡◌, ℕ, Bool, true, false, List, map}
use Rattle.lock_program.specs.declared.end.End.TheVariants.{Got, Granted, Pending, GivenBack, Refused}
use Rattle.lock_program.specs.declared.refusal.Refusal.TheVariants.{Memory}
use Rattle.sync_program.specs.declared.permits.Place.{Place}
use Rattle.sync_program.specs.declared.permits.Place.TheVariants as place
use Rattle.sync_program.specs.declared.permits.Position.{Position}
use Rattle.sync_program.specs.declared.permits.Position.TheVariants as stands
use Rattle.world_semaphore.specs.machine.Course.{Course, out, unlisted, waiting, holding, polling, adding, decided}
use Rattle.world_semaphore.specs.machine.Machine.{Semaphore, position_at, is_begun}
use Rattle.world_semaphore.specs.machine.Permits.{Permits}
use Rattle.world_semaphore.specs.machine.Seats.{a_look, a_fit, look_if, fit_if}

-- The course of a party's call by its place. Nobody is left where a call only begins.
abbrev pub course_in : Place → Course
course_in (place.Take k false told) = polling k false false (look_if told)
course_in (place.Take k true told) = polling k true false (look_if told)
course_in (place.Join k told) = polling k false true (fit_if told)
course_in (place.Ask k told) = polling k true true (fit_if told)
course_in (place.Retake k) = waiting k
course_in (place.Remove k more) = decided Got k true (fit_if more)
course_in (place.Load k) = decided Got k false a_look
course_in (place.HandOn k a) = decided Got k false (a_fit a)
course_in (place.PassOn k a) = decided Pending k true (a_fit a)
course_in (place.RefuseFit k a) = decided (Refused Memory) k false (a_fit a)
course_in (place.Try k) = out
course_in (place.Lower k) = holding k
course_in (place.GiveBack k) = holding k
course_in (place.Raise n) = out
course_in (place.GiveAdded n) = adding n
course_in (place.FitAdded a) = decided Granted 0 false (a_fit a)
course_in place.CancelRemove = waiting 0
course_in place.CancelLoad = decided GivenBack 0 false a_look
course_in (place.FitGivenBack a) = decided GivenBack 0 false (a_fit a)
course_in place.Abandon = unlisted 0

abbrev pub course_of : Position → Course
course_of stands.Out = out
course_of (stands.Unlisted k) = unlisted k
course_of (stands.Waiting k) = waiting k
course_of (stands.Holding k) = holding k
course_of (stands.At place) = course_in place

-- A party may be left there.
abbrev pub is_kept : Position → Bool
is_kept (stands.At place) = is_begun place
is_kept x = true

-- Each party is where one may be left.
abbrev pub AreKept : List Position → Type 0
AreKept xs = (p : ℕ) → is_kept (position_at xs p) ≡ true

abbrev pub seen : Semaphore → Permits
seen s = record { words = s.words; courses = map course_of s.positions; entries = s.entries }
