-- What each step makes of a seat's view.
use Rattle.std.specs.Prelude.{ℕ, ◌+◌, true, false}
use Rattle.words_base.specs.Lists.{Listed, nobody}
use Rattle.words_barrier.specs.declared.view.View.{View}

-- A look found so many generations finished.
abbrev pub saw_of : ℕ → View → View
saw_of n v = record v { found = n; fresh = false }

-- The same, and its arrival is counted in the generation after these.
abbrev pub counted_of : ℕ → View → View
counted_of n v = record v { found = n; fresh = false; counted = true; generation = n }

-- It has finished one generation more than it found, and has to notify all.
abbrev pub finished_by : View → View
finished_by v = record v { owes = true; led = true; found = v.found + 1 }

-- The list is empty: it owes nothing any more.
abbrev pub eased_of : View → View
eased_of v = record v { owes = false }

abbrev pub listing_of : Listed → View → View
listing_of list v = record v { has_list = true; list = list }

-- It has given the list back.
abbrev pub back : View → View
back v = record v { has_list = false; list = nobody }

abbrev pub joined_of : ℕ → View → View
joined_of n v = record v { listed = true; fresh = true; entry = n; has_list = false; list = nobody }

abbrev pub gone_of : View → View
gone_of v = record v { listed = false; fresh = false; has_list = false; list = nobody }

abbrev pub paid_of : View → View
paid_of v = record v { owes = false; has_list = false; list = nobody }
