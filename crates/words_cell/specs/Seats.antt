-- What each step makes of a seat's view.
use Rattle.std.specs.Prelude.{ℕ, ◌+◌, ◌&&◌, not, true, false}
use Rattle.words_base.specs.Lists.{Listed, nobody}
use Rattle.words_cell.specs.declared.view.View.{View}

-- A look found this, and not a full cell.
abbrev pub saw_of : ℕ → View → View
saw_of n v = record v { found = n; fresh = false }

-- A look found the cell full.
abbrev pub saw_full_of : View → View
saw_full_of v = record v { found = 2 }

-- It has found the cell empty, and has the right to make.
abbrev pub claimed_of : View → View
claimed_of v = record v { makes = true; owes = false; fresh = false; found = 0 }

-- A claim found that another makes. Who is in the list owes nothing any more: that other's end notifies.
abbrev pub missed_of : View → View
missed_of v = record v { owes = v.owes && not v.in_active; fresh = false; found = 1 }

-- A claim found the cell full: whoever filled it notifies all.
abbrev pub late_of : View → View
late_of v = record v { owes = false; found = 2 }

-- It has made the cell full, and has to notify all.
abbrev pub filled_by : View → View
filled_by v = record v { makes = false; owes_active = true; owes_passive = true; found = 2; filled = v.filled + 1 }

-- It has given the right to make back, and has to notify one that would make.
abbrev pub emptied_by : View → View
emptied_by v = record v { makes = false; owes = true }

-- It has taken the value out.
abbrev pub taken_by : View → View
taken_by v = record v { found = 2; taken = v.taken + 1 }

abbrev pub having_found : ℕ → View → View
having_found n v = record v { found = n }

-- The lists are empty: it owes nothing any more.
abbrev pub eased_of : View → View
eased_of v = record v { owes = false; owes_active = false; owes_passive = false }

abbrev pub listing_of : Listed → Listed → View → View
listing_of active passive v = record v { has_lists = true; active = active; passive = passive }

-- It has given the lists back.
abbrev pub back : View → View
back v = record v { has_lists = false; active = nobody; passive = nobody }

abbrev pub joined_active_of : ℕ → View → View
joined_active_of n v = record v { in_active = true; fresh = true; entry = n; has_lists = false; active = nobody; passive = nobody }

abbrev pub joined_passive_of : ℕ → View → View
joined_passive_of n v = record v { in_passive = true; fresh = true; entry = n; has_lists = false; active = nobody; passive = nobody }

abbrev pub told_of : View → View
told_of v = record v { in_active = false; owes = true; has_lists = false; active = nobody; passive = nobody }

abbrev pub gone_of : View → View
gone_of v = record v { in_active = false; in_passive = false; fresh = false; has_lists = false; active = nobody; passive = nobody }

abbrev pub paid_of : View → View
paid_of v = record v { owes = false; has_lists = false; active = nobody; passive = nobody }

abbrev pub paid_active_of : View → View
paid_active_of v = record v { owes = false; owes_active = false; has_lists = false; active = nobody; passive = nobody }

abbrev pub paid_passive_of : View → View
paid_passive_of v = record v { owes_passive = false; has_lists = false; active = nobody; passive = nobody }
