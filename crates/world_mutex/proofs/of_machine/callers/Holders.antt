-- Who holds the lock and who is starved, by the courses of the parties' calls.
use Rattle.world_mutex.proofs.Prelude.{◌≡◌, ℕ, ◌+◌, ◌-◌, ◌≤◌, Bool, true, false, List, map, get_or, refl, Some, None, set, sum_by, Entry, unstarved_in, how_many, Course, out, holding, waiting, taking, releasing, cancelling, undecided, called, counting, has_lock, course_at}
use Rattle.std.specs.Prelude.{is_some}
use Rattle.world_mutex.specs.machine.Course.{bit, gives_up, holds, counted}
use Rattle.world_mutex.specs.machine.Mutex.{is_holder, is_counted, holder_from}
use Rattle.world_mutex.proofs.of_machine.callers.Rosters as rosters
pub use Rattle.world_mutex.proofs.of_machine.callers.Rosters.{is_one}

pub counted_bit : (x : Course) → bit (is_counted x) ≡ counted x
counted_bit out = refl
counted_bit holding = refl
counted_bit (waiting true) = refl
counted_bit (waiting false) = refl
counted_bit (taking progress true listed told) = refl
counted_bit (taking progress false listed told) = refl
counted_bit releasing = refl
counted_bit (cancelling true) = refl
counted_bit (cancelling false) = refl

pub holds_bit : (x : Course) → bit (is_holder x) ≡ holds x
holds_bit out = refl
holds_bit holding = refl
holds_bit (waiting starved) = refl
holds_bit (taking undecided starved listed told) = refl
holds_bit (taking called starved listed told) = refl
holds_bit (taking counting starved listed told) = refl
holds_bit (taking has_lock starved listed told) = refl
holds_bit (taking (gives_up refusal) starved listed told) = refl
holds_bit releasing = refl
holds_bit (cancelling starved) = refl

pub starved_at : (ps : List Course) (p : ℕ) → get_or (map is_counted ps) p false ≡ is_counted (course_at ps p)
starved_at = rosters.on_at counted out counted_bit refl

pub none_starved : (ps : List Course) (p : ℕ) → sum_by counted ps ≡ 0 → get_or (map is_counted ps) p false ≡ false
none_starved = rosters.none_on counted out counted_bit refl

pub none_counted : (ps : List Course) (p : ℕ) → sum_by counted ps ≡ 0 → counted (course_at ps p) ≡ 0
none_counted = rosters.none_there counted out counted_bit refl

pub how_many_counted : (ps : List Course) → how_many (map is_counted ps) ≡ sum_by counted ps
how_many_counted = rosters.how_many_on counted out counted_bit refl

pub unstarved_counted : (ps : List Course) (es : List (Entry ℕ)) → unstarved_in (map is_counted ps) es ≡ sum_by (λ e. 1 - counted (course_at ps e.key)) es
unstarved_counted = rosters.off_listed counted out counted_bit refl

-- the holder: nobody, if none holds the lock
pub none_held : (n : ℕ) (ps : List Course) → sum_by holds ps ≡ 0 → holder_from n ps ≡ None
none_held = rosters.none_held holds out holds_bit refl

-- or whoever does
pub held_at : (n : ℕ) (ps : List Course) (p : ℕ) → holds (course_at ps p) ≡ 1 → sum_by holds ps ≤ 1 → holder_from n ps ≡ Some (n + p)
held_at = rosters.held_at holds out holds_bit refl

-- nobody holds a lock without holder
pub none_holds : (n : ℕ) (ps : List Course) → holder_from n ps ≡ None → sum_by holds ps ≡ 0
none_holds = rosters.none_holds holds out holds_bit refl

-- the holder holds the lock where it stands
pub holder_place : (n : ℕ) (ps : List Course) (k : ℕ) → holder_from n ps ≡ Some k → (p : ℕ) × (k ≡ n + p) × (holds (course_at ps p) ≡ 1)
holder_place = rosters.holder_place holds out holds_bit refl

pub same_holder : (n : ℕ) (ps : List Course) (p : ℕ) (to : Course) → is_holder to ≡ is_holder (course_at ps p) → holder_from n (set ps p to) ≡ holder_from n ps
same_holder = rosters.same_holder holds out holds_bit refl

-- a party is the holder exactly if it holds the lock where it stands
pub is_held_by : (ps : List Course) (p : ℕ) → holder_from 0 ps ≡ Some p → holds (course_at ps p) ≡ 1
is_held_by = rosters.is_held_by holds out holds_bit refl

pub holds_it : (ps : List Course) (p : ℕ) → sum_by holds ps ≤ 1 → holds (course_at ps p) ≡ 1 → holder_from 0 ps ≡ Some p
holds_it = rosters.holds_it holds out holds_bit refl

-- the word is held exactly if some party is seen to hold the lock
pub held_seen : (b : Bool) (ps : List Course) → bit b ≡ sum_by holds ps → b ≡ is_some (holder_from 0 ps)
held_seen = rosters.held_seen holds out holds_bit refl
