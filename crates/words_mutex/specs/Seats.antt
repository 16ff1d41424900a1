-- What each step makes of a seat's view.
use Rattle.std.specs.Prelude.{ℕ, ◌+◌, ◌%◌, ◌==◌, ◌&&◌, leb, true, false, List, []}
use Rattle.lock_place.specs.Held.{RoomId}
use Rattle.words_mutex.specs.declared.view.View.{View}

-- what steps make of it that found the word n: held, so that it owes nothing any more; free, and others starved, so that it has looked; or whatever it was
abbrev pub saw_held_of : ℕ → View → View
saw_held_of n v = record v { owes = false; fresh = false; found = n }

abbrev pub saw_starved_of : ℕ → View → View
saw_starved_of n v = record v { fresh = false; found = n }

abbrev pub saw_of : ℕ → View → View
saw_of n v = record v { found = n }

-- it has got the lock from the word n
abbrev pub got_of : ℕ → View → View
got_of n v = record v { holds = true; owes = false; fresh = false; found = n }

abbrev pub cleared_of : View → View
cleared_of v = record v { holds = false; owes = true }

abbrev pub counted_listed_of : View → View
counted_listed_of v = record v { starved = true }

abbrev pub counted_unlisted_of : View → View
counted_unlisted_of v = record v { starved = true; owes = true }

abbrev pub uncounted_of : View → View
uncounted_of v = record v { starved = false }

abbrev pub listing_of : List ℕ → ℕ → View → View
listing_of entries marked v = record v { has_list = true; entries = entries; marked = marked }

-- It has given the list back.
abbrev pub back : View → View
back v = record v { has_list = false; entries = []; marked = 0 }

abbrev pub joined_of : ℕ → View → View
joined_of n v = record v { listed = true; fresh = true; entry = n; has_list = false; entries = []; marked = 0 }

abbrev pub told_of : View → View
told_of v = record v { listed = false; owes = true; has_list = false; entries = []; marked = 0 }

abbrev pub paid_of : View → View
paid_of v = record v { owes = false; has_list = false; entries = []; marked = 0 }

abbrev pub gone_of : View → View
gone_of v = record v { listed = false; has_list = false; entries = []; marked = 0 }

-- A look that found n: held, it owes nothing any more; free and others starved, it has looked.
abbrev pub looking : ℕ → View → View
looking n v = record v { owes = v.owes && (n % 2 == 0); fresh = v.fresh && (n == 0); found = n }

-- Who finds the list empty owes nothing any more.
abbrev pub peeking : ℕ → View → View
peeking n v = record v { owes = v.owes && leb 4 (n % 8) }

-- What two seats that both hold the lock would be as one: a seat of no such lock.
abbrev pub both_of : View → View → View
both_of v w = record v { holds = false; deed = v.deed + 1 }

abbrev pub nowhere : RoomId
nowhere = record { block = 0; offset = 0; atom = 0; name = 0 }

-- what is left of the one that was taken in
abbrev pub spent : View
spent = record { holds = false; starved = false; owes = false; listed = false; fresh = false; has_list = false; entry = 0; entries = []; marked = 0; room = nowhere; deed = 0; found = 0 }
