-- What always holds of a semaphore, as callers see it.
use Rattle.world_semaphore.proofs.Prelude.{◌≡◌, ℕ, zero, suc, ◌<◌, ◌≤◌, true, List, [], ◌∷◌, length, get_or, refl, arith, sum_by, get_or-le-sum_by, sum_by-cons, marked_count, is_wanted, WeightedQueue, same_test, Position, Out, Unlisted, Waiting, Holding, At, Words, listed, waits, owes, size_at, is_short, is_resting, IsKept, IsAtRest, IsSemaphore, position_at, sizes_of}
use Rattle.world_base.proofs.of_table.Resting.{one_at_rest}
use Rattle.world_semaphore.proofs.of_machine.laws.Entries.{wanted_who}

-- a resting party owes nothing, and waits for its size where it is listed
pub rests_waits : (x : Position) → is_resting x ≡ true → 0 < listed x → waits (size_at x) x ≡ 1
rests_waits Out h some = absurd (omega arith)
rests_waits (Unlisted k) h some = absurd (omega arith)
rests_waits (Waiting k) h some = rw (same_test k k refl) refl
rests_waits (Holding k) h some = absurd (omega arith)
rests_waits (At place) h some = absurd (cc h)

pub rests_short : (x : Position) → is_resting x ≡ true → 0 < listed x → is_short x ≡ true
rests_short (Waiting k) h some = refl
rests_short (At place) h some = absurd (cc h)
rests_short _ h some = absurd (omega arith)

rests_owes : (s : ℕ) (x : Position) → is_resting x ≡ true → owes s x ≡ 0
rests_owes s Out h = refl
rests_owes s (Unlisted k) h = refl
rests_owes s (Waiting k) h = refl
rests_owes s (Holding k) h = refl
rests_owes s (At place) h = absurd (cc h)

none_owing : (s : ℕ) (xs : List Position) → IsAtRest xs → sum_by (owes s) xs ≡ 0
none_owing s [] h = refl
none_owing s (x ∷ xs) h = omega (arith, sum_by-cons (owes s) x xs, rests_owes s x h.0, none_owing s xs h.1)

-- whoever is listed is in the table
pub listed_known : (xs : List Position) (p : ℕ) → 0 < listed (position_at xs p) → p < length xs
listed_known [] p some = absurd (omega arith)
listed_known (x ∷ xs) zero some = omega arith
listed_known (x ∷ xs) (suc p) some = let more = listed_known xs p some in omega arith

module _ (w : Words) (xs : List Position) (q : WeightedQueue) (k : IsKept w xs q) where
  wakes : IsAtRest xs → is_wanted (sizes_of xs) w.available q.entries ≡ true → 0 < marked_count q.entries
  wakes rest wanted =
      let who = wanted_who (sizes_of xs) w.available q.entries wanted in
      let p = who.0 in
      let there : 0 < listed (position_at xs p) = rw (← k.owners p) who.1 in
      let known : p < length xs = listed_known xs p there in
      let resting : is_resting (position_at xs p) ≡ true = one_at_rest is_resting Out refl xs rest p in
      let s = sizes_of xs p in
      let some : 0 < s = k.some p (rests_short (position_at xs p) resting there) in
      let one : waits s (get_or xs p Out) ≡ 1 = rests_waits (position_at xs p) resting there in
      let among : waits s (get_or xs p Out) ≤ sum_by (waits s) xs = get_or-le-sum_by (waits s) xs p Out known in
      let sound = k.sound s some in
      let due = sound.owed who.2 (omega (arith, one, among)) in
      omega (arith, due, none_owing s xs rest)

  pub is_semaphore : marked_count q.entries ≤ 1 → IsSemaphore (record { words = w; positions = xs; entries = q.entries })
  is_semaphore one = let first = k.sound 1 (omega arith) in record {
    balanced = first.balanced;
    limited = first.limited;
    owners = k.owners;
    some = k.some;
    one_marked = one;
    owed = λ s more. (let sound = k.sound s more in sound.owed);
    wakes = wakes;
  }
