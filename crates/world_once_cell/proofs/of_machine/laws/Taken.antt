-- What always holds of a full cell still holds once its value was put or taken from outside every call.
use Rattle.world_once_cell.proofs.Prelude.{◌≡◌, ℕ, zero, suc, ◌+◌, ◌<◌, true, false, List, [], ◌∷◌, Option, Some, None, refl, arith, sum_by, sum_by-cons, marked_count, is_marked_at, without, is_party, entries_of, Queue, Active, Passive, NotifyActive, TryNotifyActive, AskActive, CancelLeave, Position, WaitingToMake, At, Content, content_by, kept_by, content_of, kept_of, refilled, in_active, waits, owes, is_late, will_tell, IsKept, position_at, else_marked}
use Rattle.lock_event.proofs.Counts.{marked_count-without_marked}
use Rattle.world_once_cell.specs.declared.program.words.State.{State}
use Rattle.world_once_cell.specs.declared.program.words.Words.{Words}

-- where some term of a sum isn't nothing, one party has it
pub some_term : (f : Position → ℕ) (xs : List Position) → 0 < sum_by f xs → (p : ℕ) × (0 < f (position_at xs p))
some_term f [] h = absurd (omega arith)
some_term f (x ∷ xs) h = by_first (f x) refl (some_term f xs) where
  by_first : (n : ℕ) → f x ≡ n → (0 < sum_by f xs → (p : ℕ) × (0 < f (position_at xs p))) → (p : ℕ) × (0 < f (position_at (x ∷ xs) p))
  by_first (suc n) e more = (0, omega (arith, e))
  by_first zero e more = let found = more (omega (arith, e, sum_by-cons f x xs)) in (suc found.0, found.1)

tells_so : (x : Position) → owes x ≡ 0 → will_tell Active x ≡ false
tells_so (At (NotifyActive v)) h = absurd (omega arith)
tells_so (At (TryNotifyActive v)) h = absurd (omega arith)
tells_so (At _) h = refl
tells_so _ h = refl

none_tell : (xs : List Position) → sum_by owes xs ≡ 0 → (k : ℕ) → will_tell Active (position_at xs k) ≡ false
none_tell [] h k = refl
none_tell (x ∷ xs) h zero = tells_so x (omega (arith, sum_by-cons owes x xs))
none_tell (x ∷ xs) h (suc k) = none_tell xs (omega (arith, sum_by-cons owes x xs)) k

-- who waits is listed, and has looked
waits_listed : (x : Position) → 0 < waits x → (0 < in_active x) × (is_late Active x ≡ false)
waits_listed (WaitingToMake k) h = (omega arith, refl)
waits_listed (At (AskActive k)) h = (omega arith, refl)
waits_listed (At (CancelLeave Active)) h = (omega arith, refl)
waits_listed (At (CancelLeave Passive)) h = absurd (omega arith)
waits_listed (At _) h = absurd (omega arith)
waits_listed _ h = absurd (omega arith)

module _ (xs : List Position) (q r : Queue) where
  -- the value was another one
  pub another : (v u : ℕ) → IsKept (Content.Full v) xs q r → IsKept (Content.Full u) xs q r
  another v u k = record {
    sound = k.sound;
    makers = k.makers;
    active_told = λ z e none p h. k.active_told v refl none p h;
    passive_told = λ z e none p h. k.passive_told v refl none p h;
    active_owners = k.active_owners;
    passive_owners = k.passive_owners;
    passive_listed = k.passive_listed;
    active_parties = k.active_parties;
    passive_parties = k.passive_parties;
    few = k.few;
  }

  -- while the cell was full, whoever waits was told, or somebody is about to tell all
  still_owed : (v : ℕ) → IsKept (Content.Full v) xs q r → 0 < sum_by waits xs → 0 < sum_by owes xs + marked_count q.entries
  still_owed v k some = by_owing (sum_by owes xs) refl where
    by_owing : (n : ℕ) → sum_by owes xs ≡ n → 0 < n + marked_count q.entries
    by_owing (suc n) e = omega arith
    by_owing zero e =
        let found = some_term waits xs some in
        let here = waits_listed (position_at xs found.0) found.1 in
        let listed : 0 < entries_of found.0 q.entries = rw (k.active_owners found.0) here.0 in
        let told : is_marked_at (is_party found.0) q.entries ≡ true = else_marked found.0 q.entries listed (λ u. (let late = k.active_told v refl (none_tell xs e) found.0 u in absurd (cc (late, here.1)))) in
        let one : marked_count (without (is_party found.0) q.entries) + 1 ≡ marked_count q.entries = marked_count-without_marked (is_party found.0) q.entries told in
        omega (arith, one)

  -- the value is gone
  pub gone : (v : ℕ) → IsKept (Content.Full v) xs q r → IsKept Content.Empty xs q r
  gone v k = record {
    sound = record { in_list = k.sound.in_list; owed = λ free some. still_owed v k some };
    makers = k.makers;
    active_told = λ z e none p h. absurd (cc e);
    passive_told = λ z e none p h. absurd (cc e);
    active_owners = k.active_owners;
    passive_owners = k.passive_owners;
    passive_listed = k.passive_listed;
    active_parties = k.active_parties;
    passive_parties = k.passive_parties;
    few = k.few;
  }

  -- the state follows the value
  pub settled : (w : Words) → IsKept (kept_of w) xs q r → IsKept (content_of w) xs q r
  settled w k = by_words w.state w.value k where
    by_words : (s : State) (v : Option ℕ) → IsKept (kept_by s v) xs q r → IsKept (content_by s v) xs q r
    by_words State.Empty v k = k
    by_words (State.BeingMade p) v k = k
    by_words State.Full (Some v) k = k
    by_words State.Full None k = gone 0 k

  -- a value is put beside a settled state, or taken from there
  pub put : (w : Words) (v : Option ℕ) → IsKept (kept_of w) xs q r → IsKept (kept_by w.state v) xs q r
  put w v k = by_words w.state w.value v k where
    by_words : (s : State) (u v : Option ℕ) → IsKept (kept_by s u) xs q r → IsKept (kept_by s v) xs q r
    by_words State.Empty u v k = k
    by_words (State.BeingMade p) u v k = k
    by_words State.Full (Some u) (Some v) k = another u v k
    by_words State.Full None (Some v) k = another 0 v k
    by_words State.Full (Some u) None k = another u 0 k
    by_words State.Full None None k = k

-- what is in a settled cell then
pub put_content : (w : Words) (v : Option ℕ) → kept_of w ≡ content_of w → content_by w.state v ≡ refilled (content_of w) v
put_content w v settled = by_words w.state w.value v settled where
  by_words : (s : State) (u v : Option ℕ) → kept_by s u ≡ content_by s u → content_by s v ≡ refilled (content_by s u) v
  by_words State.Empty u v e = refl
  by_words (State.BeingMade p) u v e = refl
  by_words State.Full (Some u) v e = refl
  by_words State.Full None v e = absurd (cc e)
