-- Who holds the lock and who is starved, party by party.
use Rattle.world_mutex.proofs.Prelude.{◌≡◌, ℕ, ◌+◌, ◌-◌, ◌≤◌, Bool, false, List, map, get_or, refl, Some, None, set, sum_by, Entry, unstarved_in, how_many, Place, Out, Holding, Enter, Try, Clear, CancelUncount, CancelLeave, Join, Look, Ask, Retry, PassOn, Count, JoinStarved, LookAlone, PassOnListed, AskStarved, Seize, Uncount, Leave, RefuseUncount, RefuseLeave, RefuseNotifyMemory, RefuseNotifyStarved, ReleaseNotify, bit, holds, counted, place_at, is_holder, is_counted, holder_from}
use Rattle.std.specs.Prelude.{is_some}
use Rattle.world_mutex.proofs.of_machine.callers.Rosters as rosters
pub use Rattle.world_mutex.proofs.of_machine.callers.Rosters.{is_one}

pub counted_bit : (x : Place) → bit (is_counted x) ≡ counted x
counted_bit Out = refl
counted_bit Holding = refl
counted_bit Enter = refl
counted_bit Try = refl
counted_bit Clear = refl
counted_bit CancelUncount = refl
counted_bit CancelLeave = refl
counted_bit (Join t) = refl
counted_bit (Look t) = refl
counted_bit Ask = refl
counted_bit Retry = refl
counted_bit PassOn = refl
counted_bit (Count b t) = refl
counted_bit JoinStarved = refl
counted_bit LookAlone = refl
counted_bit PassOnListed = refl
counted_bit AskStarved = refl
counted_bit Seize = refl
counted_bit (Uncount b) = refl
counted_bit Leave = refl
counted_bit RefuseUncount = refl
counted_bit (RefuseLeave t) = refl
counted_bit RefuseNotifyMemory = refl
counted_bit RefuseNotifyStarved = refl
counted_bit ReleaseNotify = refl

pub holds_bit : (x : Place) → bit (is_holder x) ≡ holds x
holds_bit Out = refl
holds_bit Holding = refl
holds_bit Enter = refl
holds_bit Try = refl
holds_bit Clear = refl
holds_bit CancelUncount = refl
holds_bit CancelLeave = refl
holds_bit (Join t) = refl
holds_bit (Look t) = refl
holds_bit Ask = refl
holds_bit Retry = refl
holds_bit PassOn = refl
holds_bit (Count b t) = refl
holds_bit JoinStarved = refl
holds_bit LookAlone = refl
holds_bit PassOnListed = refl
holds_bit AskStarved = refl
holds_bit Seize = refl
holds_bit (Uncount b) = refl
holds_bit Leave = refl
holds_bit RefuseUncount = refl
holds_bit (RefuseLeave t) = refl
holds_bit RefuseNotifyMemory = refl
holds_bit RefuseNotifyStarved = refl
holds_bit ReleaseNotify = refl

pub starved_at : (ps : List Place) (p : ℕ) → get_or (map is_counted ps) p false ≡ is_counted (place_at ps p)
starved_at = rosters.on_at counted Out counted_bit refl

pub none_starved : (ps : List Place) (p : ℕ) → sum_by counted ps ≡ 0 → get_or (map is_counted ps) p false ≡ false
none_starved = rosters.none_on counted Out counted_bit refl

pub how_many_counted : (ps : List Place) → how_many (map is_counted ps) ≡ sum_by counted ps
how_many_counted = rosters.how_many_on counted Out counted_bit refl

pub unstarved_counted : (ps : List Place) (es : List (Entry ℕ)) → unstarved_in (map is_counted ps) es ≡ sum_by (λ e. 1 - counted (place_at ps e.key)) es
unstarved_counted = rosters.off_listed counted Out counted_bit refl

-- the holder: nobody, if none holds the lock
pub none_held : (n : ℕ) (ps : List Place) → sum_by holds ps ≡ 0 → holder_from n ps ≡ None
none_held = rosters.none_held holds Out holds_bit refl

-- or whoever does
pub held_at : (n : ℕ) (ps : List Place) (p : ℕ) → holds (place_at ps p) ≡ 1 → sum_by holds ps ≤ 1 → holder_from n ps ≡ Some (n + p)
held_at = rosters.held_at holds Out holds_bit refl

-- nobody holds a lock without holder
pub none_holds : (n : ℕ) (ps : List Place) → holder_from n ps ≡ None → sum_by holds ps ≡ 0
none_holds = rosters.none_holds holds Out holds_bit refl

-- the holder holds the lock where it stands
pub holder_place : (n : ℕ) (ps : List Place) (k : ℕ) → holder_from n ps ≡ Some k → (p : ℕ) × (k ≡ n + p) × (holds (place_at ps p) ≡ 1)
holder_place = rosters.holder_place holds Out holds_bit refl

pub same_holder : (n : ℕ) (ps : List Place) (p : ℕ) (to : Place) → is_holder to ≡ is_holder (place_at ps p) → holder_from n (set ps p to) ≡ holder_from n ps
same_holder = rosters.same_holder holds Out holds_bit refl

-- a party is the holder exactly if it holds the lock where it stands
pub is_held_by : (ps : List Place) (p : ℕ) → holder_from 0 ps ≡ Some p → holds (place_at ps p) ≡ 1
is_held_by = rosters.is_held_by holds Out holds_bit refl

pub holds_it : (ps : List Place) (p : ℕ) → sum_by holds ps ≤ 1 → holds (place_at ps p) ≡ 1 → holder_from 0 ps ≡ Some p
holds_it = rosters.holds_it holds Out holds_bit refl

-- the word is held exactly if some party is seen to hold the lock
pub held_seen : (b : Bool) (ps : List Place) → bit b ≡ sum_by holds ps → b ≡ is_some (holder_from 0 ps)
held_seen = rosters.held_seen holds Out holds_bit refl
