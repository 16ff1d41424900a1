-- What each step makes of a seat's view.
use Rattle.std.specs.Prelude.{ℕ, ◌+◌, ◌-◌, ◌%◌, ◌&&◌, leb, true, false, List, []}
use Rattle.words_permits.specs.Waiters.{Waiter}
use Rattle.words_permits.specs.declared.view.View.{View}

-- a seat that has nothing, and has done nothing
abbrev pub first_view : View
first_view = record { permits = 0; under_way = 0; found = 0; limit = 0; added = 0; forgotten = 0; owes = false; seen = false; listed = false; fresh = false; entry = 0; weight = 0; has_list = false; waiters = []; marked = 0 }

-- A look that found a: fewer than it waits for, it has looked in vain. A duty is of as many, and of nothing nobody has to be notified.
abbrev pub looking : ℕ → View → View
looking a v = record v { found = a; seen = true; fresh = v.fresh && leb v.weight a; owes = v.owes && leb 1 a }

-- It has k permits more, and left a: of nothing nobody has to be notified.
abbrev pub having_taken : ℕ → ℕ → View → View
having_taken k a v = record v { permits = v.permits + k; found = a; seen = true; owes = v.owes && leb 1 a }

-- It has given k permits back, and then a are available: it owes a notification of these.
abbrev pub having_given : ℕ → ℕ → View → View
having_given k a v = record v { permits = v.permits - k; found = a; seen = true; owes = true }

-- it has given k new permits, likewise
abbrev pub having_given_new : ℕ → ℕ → View → View
having_given_new k a v = record v { under_way = v.under_way - k; found = a; seen = true; owes = true }

-- it has forgotten k of its permits
abbrev pub having_lowered : ℕ → View → View
having_lowered k v = record v { permits = v.permits - k; forgotten = v.forgotten + k }

-- it has added k permits to the limit, which are under way
abbrev pub having_raised : ℕ → View → View
having_raised k v = record v { under_way = v.under_way + k; added = v.added + k }

-- it has found the limit n
abbrev pub having_found_limit : ℕ → View → View
having_found_limit n v = record v { limit = n }

-- Who finds the list empty owes nothing any more.
abbrev pub peeking : ℕ → View → View
peeking n v = record v { owes = v.owes && leb 4 (n % 8) }

abbrev pub listing_of : List Waiter → ℕ → View → View
listing_of waiters marked v = record v { has_list = true; waiters = waiters; marked = marked }

-- It has given the list back.
abbrev pub back : View → View
back v = record v { has_list = false; waiters = []; marked = 0 }

-- Its entry stands in the list, and it has not looked since.
abbrev pub joined_of : Waiter → View → View
joined_of w v = record v { listed = true; fresh = true; entry = w.entry; weight = w.weight; seen = false; has_list = false; waiters = []; marked = 0 }

-- Its entry was notified, and has left: it owes a look and a notification.
abbrev pub told_of : View → View
told_of v = record v { listed = false; fresh = false; owes = true; seen = false; has_list = false; waiters = []; marked = 0 }

-- Its entry has left.
abbrev pub gone_of : View → View
gone_of v = record v { listed = false; fresh = false; has_list = false; waiters = []; marked = 0 }

-- It has notified.
abbrev pub paid_of : View → View
paid_of v = record v { owes = false; has_list = false; waiters = []; marked = 0 }
