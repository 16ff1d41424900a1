-- What an entry with a weight keeps that has asked with a waker.
use Rattle.std.proofs.Common.{◌≡◌, ℕ, Bool, true, false, List, [], ◌∷◌, Option, if◌then◌else◌, refl}
use Rattle.lock_event.specs.Lists.{entry, is_listed, with_key}
use Rattle.weighted_event.specs.Loads.{kept_at, laden}
use Rattle.lock_event.specs.Slots.{has_id}
use Rattle.lock_event.specs.declared.event.Entry.{Entry}
use Rattle.lock_event.specs.declared.event.EntryId.{EntryId}
use Rattle.lock_event.specs.declared.event.Slot.{Slot}
use Rattle.weighted_event.specs.declared.weighted.Load.{Load}
use Rattle.lock_queue.proofs.Keeping.{listed_after, same_number}

module _ {W : Type 0} (id : EntryId) (k : ℕ) (w : Option W) where
  at_head : (b : Bool) (e : Entry (Slot (Load W))) (es fs : List (Entry (Slot (Load W)))) → has_id id e.key ≡ b → (b ≡ false → kept_at id fs ≡ w)
      → kept_at id (if b then entry (laden id k w) e.mark ∷ es else e ∷ fs) ≡ w
  at_head true e es fs is rest = rw (same_number id.number) refl
  at_head false e es fs is rest = rw is (rest refl)

  pub kept_at-with_key : (l : List (Entry (Slot (Load W)))) → is_listed (has_id id) l ≡ true → kept_at id (with_key (has_id id) (laden id k w) l) ≡ w
  kept_at-with_key [] none = absurd (cc)
  kept_at-with_key (e ∷ es) listed =
      at_head (has_id id e.key) e es (with_key (has_id id) (laden id k w) es) refl
      (λ other. kept_at-with_key es (listed_after (has_id id e.key) _ other listed))
