-- What an entry keeps that has asked with a waker, and whose waker it is.
use Rattle.std.proofs.Common.{◌≡◌, ℕ, Bool, true, false, not, ◌||◌, List, [], ◌∷◌, Option, ◌==◌, if◌then◌else◌, refl, ap, eq-eqb}
use Rattle.std.specs.Arc.{arc_value}
use Rattle.futures.specs.Task.{Keeps, Holds, Lasting}
use Rattle.futures.specs.declared.task.context.Context.{Context}
use Rattle.futures.specs.declared.task.waker.Origin.{Origin}
use Rattle.futures.specs.declared.task.waker.Route.{Route}
use Rattle.lock_event.specs.Lists.{entry, is_listed, joined, is_marked, is_marked_at, is_waiting_at, with_key}
use Rattle.lock_event.specs.Slots.{has_id, slot_of, waker_at}
use Rattle.lock_event.specs.declared.event.Entry.{Entry}
use Rattle.lock_event.specs.declared.event.EntryId.{EntryId}
use Rattle.lock_event.specs.declared.event.Slot.{Slot}

pub listed_after : (a b : Bool) → a ≡ false → (a || b) ≡ true → b ≡ true
listed_after true b other h = absurd (cc)
listed_after false b other h = h

pub same_number : (n : ℕ) → (n == n) ≡ true
same_number n = eq-eqb n n refl

-- the entry that has asked keeps what it asked with
module _ {W : Type 0} (id : EntryId) (w : Option W) where
  at_head : (b c : Bool) (e : Entry (Slot W)) (es fs : List (Entry (Slot W))) → has_id id e.key ≡ b → (b ≡ false → waker_at id fs ≡ w)
      → waker_at id (if b then entry (slot_of id w) e.mark ∷ es else e ∷ fs) ≡ w
  at_head true c e es fs is rest = rw (same_number id.number) refl
  at_head false c e es fs is rest = rw is (rest refl)

  pub waker_at-with_key : (l : List (Entry (Slot W))) → is_listed (has_id id) l ≡ true → waker_at id (with_key (has_id id) (slot_of id w) l) ≡ w
  waker_at-with_key [] none = absurd (cc)
  waker_at-with_key (e ∷ es) listed =
      at_head (has_id id e.key) true e es (with_key (has_id id) (slot_of id w) es) refl
      (λ other. waker_at-with_key es (listed_after (has_id id e.key) _ other listed))

-- and waits in the list as before
module _ {W : Type 0} (id : EntryId) (w : Option W) where
  marked_head : (b : Bool) (e : Entry (Slot W)) (es fs : List (Entry (Slot W))) → has_id id e.key ≡ b → (if b then is_marked e.mark else is_marked_at (has_id id) es) ≡ false
      → (b ≡ false → is_marked_at (has_id id) es ≡ false → is_marked_at (has_id id) fs ≡ false)
      → is_marked_at (has_id id) (if b then entry (slot_of id w) e.mark ∷ es else e ∷ fs) ≡ false
  marked_head true e es fs is unmarked rest = rw (same_number id.number) unmarked
  marked_head false e es fs is unmarked rest = rw is (rest refl unmarked)

  pub unmarked-with_key : (l : List (Entry (Slot W))) → is_marked_at (has_id id) l ≡ false → is_marked_at (has_id id) (with_key (has_id id) (slot_of id w) l) ≡ false
  unmarked-with_key [] unmarked = unmarked
  unmarked-with_key (e ∷ es) unmarked =
      marked_head (has_id id e.key) e es (with_key (has_id id) (slot_of id w) es) refl unmarked (λ other. unmarked-with_key es)

  listed_head : (b : Bool) (e : Entry (Slot W)) (es fs : List (Entry (Slot W))) → has_id id e.key ≡ b → (b || is_listed (has_id id) es) ≡ true
      → (is_listed (has_id id) es ≡ true → is_listed (has_id id) fs ≡ true)
      → is_listed (has_id id) (if b then entry (slot_of id w) e.mark ∷ es else e ∷ fs) ≡ true
  listed_head true e es fs is listed rest = rw (same_number id.number) refl
  listed_head false e es fs is listed rest = rw is (rest listed)

  pub listed-with_key : (l : List (Entry (Slot W))) → is_listed (has_id id) l ≡ true → is_listed (has_id id) (with_key (has_id id) (slot_of id w) l) ≡ true
  listed-with_key [] listed = listed
  listed-with_key (e ∷ es) listed =
      listed_head (has_id id e.key) e es (with_key (has_id id) (slot_of id w) es) refl listed (listed-with_key es)

-- what is there and isn't marked waits
module _ {W : Type 0} (id : EntryId) where
  waits_head : (b : Bool) (e : Entry (Slot W)) (es : List (Entry (Slot W))) → (b || is_listed (has_id id) es) ≡ true → (if b then is_marked e.mark else is_marked_at (has_id id) es) ≡ false
      → (is_listed (has_id id) es ≡ true → is_marked_at (has_id id) es ≡ false → is_waiting_at (has_id id) es ≡ true)
      → (if b then not (is_marked e.mark) else is_waiting_at (has_id id) es) ≡ true
  waits_head true e es listed unmarked rest = ap not unmarked
  waits_head false e es listed unmarked rest = rest listed unmarked

  pub waits_unmarked : (l : List (Entry (Slot W))) → is_listed (has_id id) l ≡ true → is_marked_at (has_id id) l ≡ false → is_waiting_at (has_id id) l ≡ true
  waits_unmarked [] listed unmarked = absurd (cc)
  waits_unmarked (e ∷ es) listed unmarked = waits_head (has_id id e.key) e es listed unmarked (waits_unmarked es)

-- what waits is there, and so keeps what is put there
module _ {W : Type 0} (id : EntryId) (w : Option W) where
  there_head : (b c : Bool) (e : Entry (Slot W)) (es : List (Entry (Slot W))) → (if b then c else is_waiting_at (has_id id) es) ≡ true
      → (is_waiting_at (has_id id) es ≡ true → is_listed (has_id id) es ≡ true) → (b || is_listed (has_id id) es) ≡ true
  there_head true c e es waits rest = refl
  there_head false c e es waits rest = rest waits

  pub waits_listed : (l : List (Entry (Slot W))) → is_waiting_at (has_id id) l ≡ true → is_listed (has_id id) l ≡ true
  waits_listed [] waits = absurd (cc)
  waits_listed (e ∷ es) waits = there_head (has_id id e.key) (not (is_marked e.mark)) e es waits (waits_listed es)

  pub waker_at-waiting : (l : List (Entry (Slot W))) → is_waiting_at (has_id id) l ≡ true → waker_at id (with_key (has_id id) (slot_of id w) l) ≡ w
  waker_at-waiting l waits = waker_at-with_key id w l (waits_listed l waits)

-- and isn't marked
module _ {W : Type 0} (id : EntryId) where
  unmarked_there : (b c : Bool) (es : List (Entry (Slot W))) → (if b then not c else is_waiting_at (has_id id) es) ≡ true
      → (is_waiting_at (has_id id) es ≡ true → is_marked_at (has_id id) es ≡ false) → (if b then c else is_marked_at (has_id id) es) ≡ false
  unmarked_there true true es waits rest = absurd (cc)
  unmarked_there true false es waits rest = refl
  unmarked_there false c es waits rest = rest waits

  pub waits_isnt_marked : (l : List (Entry (Slot W))) → is_waiting_at (has_id id) l ≡ true → is_marked_at (has_id id) l ≡ false
  waits_isnt_marked [] waits = absurd (cc)
  waits_isnt_marked (e ∷ es) waits = unmarked_there (has_id id e.key) (is_marked e.mark) es waits (waits_isnt_marked es)

-- what has joined waits
pub neither : (a b : Bool) → (a || b) ≡ false → (a ≡ false) × (b ≡ false)
neither true b h = absurd (cc)
neither false b h = (refl, h)

module _ {W : Type 0} (id : EntryId) (w : Option W) where
  behind : (b c : Bool) (rest : Bool) → b ≡ false → rest ≡ true → (if b then c else rest) ≡ true
  behind true c rest other waits = absurd (cc)
  behind false c rest other waits = waits

  pub waits_joined : (l : List (Entry (Slot W))) → is_listed (has_id id) l ≡ false → is_waiting_at (has_id id) (joined l (slot_of id w)) ≡ true
  waits_joined [] fresh = rw (same_number id.number) refl
  waits_joined (e ∷ es) fresh =
      let apart = neither (has_id id e.key) (is_listed (has_id id) es) fresh in
      behind (has_id id e.key) (not (is_marked e.mark)) (is_waiting_at (has_id id) (joined es (slot_of id w))) apart.0 (waits_joined es apart.1)

abbrev pub origin_of : Context → Origin
origin_of cx = (arc_value {X = Route} cx.route.now).origin

-- a context that keeps what held of it polls the same task
pub same_task : (old new : Context) → Keeps old new → (old.turn.task ≡ new.turn.task) × (origin_of old ≡ origin_of new)
unfolding Holds
same_task old new kept = let same = kept (Lasting.same_task old) refl in (ap (λ (cx : Context). cx.turn.task) same, ap origin_of same)
