-- What always holds of a machine, as those see it who build on a semaphore.
use Rattle.world_semaphore.proofs.Prelude.{subst, replicate, zero, suc, false, ◌≡◌, ℕ, ◌<◌, ◌≤◌, ◌⊎◌, inl, inr, true, List, [], ◌∷◌, map, refl, arith, ap, sym, ◌∙◌, sum_by, sum_by-cons, mapped_alike, marked_count, is_marked_at, is_party, entries_of, pays, Place, Take, Retake, Ask, Remove, PassOn, Position, Out, At, permits_of, permits_at, under_way_at, listed, waits, owes, debt_at, size_at, is_short, is_resting, Semaphore, IsSemaphore, position_at, sizes_of, new_semaphore, replicate, subst}
use Rattle.world_base.proofs.Owing.{marked_or_owed}
use Rattle.world_base.proofs.of_table.Resting.{all_at_rest, one_at_rest}
use Rattle.world_semaphore.proofs.laws.Sound.{pays_so}
use Rattle.world_semaphore.proofs.of_machine.callers.Sights.{seen_at, share_seen, listed_seen, debt_seen, size_seen, rests_seen, rank_seen, waits_seen}
use Rattle.world_semaphore.proofs.of_machine.laws.Entries.{wanted_so}
use Rattle.world_semaphore.proofs.of_machine.laws.Laws.{listed_known}
use Rattle.world_semaphore.proofs.whole.Whole.{some_at}
use Rattle.world_semaphore.specs.machine.Course as course
use Rattle.world_semaphore.specs.machine.Course.{Course, out, unlisted, waiting, holding}
use Rattle.world_semaphore.specs.machine.Machine as machine
use Rattle.world_semaphore.specs.machine.Permits.{Permits, IsPermits, IsAtRest, course_at, size_of, new_permits}
use Rattle.world_semaphore.specs.machine.Seen.{course_of, is_kept, AreKept, seen}

held_seen : (xs : List Position) → sum_by (λ x. permits_of (course.share x)) (map course_of xs) ≡ sum_by permits_at xs
held_seen [] = refl
held_seen (x ∷ xs) = omega (arith, sum_by-cons (λ x. permits_of (course.share x)) (course_of x) (map course_of xs), sum_by-cons permits_at x xs, ap permits_of (share_seen x), held_seen xs)

way_seen : (xs : List Position) → sum_by (λ x. (course.share x).under_way) (map course_of xs) ≡ sum_by under_way_at xs
way_seen [] = refl
way_seen (x ∷ xs) = omega (arith, sum_by-cons (λ x. (course.share x).under_way) (course_of x) (map course_of xs), sum_by-cons under_way_at x xs, ap (λ s. s.under_way) (share_seen x), way_seen xs)

-- nothing is under way at rest
rests_way : (x : Course) → course.is_resting x ≡ true → (course.share x).under_way ≡ 0
rests_way out h = refl
rests_way (unlisted k) h = refl
rests_way (waiting k) h = refl
rests_way (holding k) h = refl
rests_way _ h = absurd (cc h)

none_way : (cs : List Course) → IsAtRest cs → sum_by (λ x. (course.share x).under_way) cs ≡ 0
none_way [] h = refl
none_way (c ∷ cs) h = omega (arith, sum_by-cons (λ x. (course.share x).under_way) c cs, rests_way c h.0, none_way cs h.1)

short_kept : (x : Position) → is_kept x ≡ true → 0 < listed x → is_short x ≡ true
short_kept (At (Take k true told)) h l = refl
short_kept (At (Take k false told)) h l = absurd (omega (arith, l))
short_kept (At (Ask k told)) h l = refl
short_kept (At (Remove k more)) h l = refl
short_kept (At (PassOn k a)) h l = refl
short_kept (At (Retake k)) h l = absurd (cc h)
short_kept (At Place.CancelRemove) h l = absurd (cc h)
short_kept (At _) h l = absurd (omega (arith, l))
short_kept (Position.Waiting k) h l = refl
short_kept _ h l = absurd (omega (arith, l))

-- who waits stands in the list
waits_listed : (x : Position) → waits (size_at x) x ≡ 1 → 0 < listed x
waits_listed (At (Retake k)) h = omega arith
waits_listed (At (Ask k told)) h = omega arith
waits_listed (At (PassOn k a)) h = omega arith
waits_listed (At (Take k false told)) h = absurd (omega (arith, h))
waits_listed (At (Take k true told)) h = omega arith
waits_listed (At _) h = absurd (omega (arith, h))
waits_listed (Position.Waiting k) h = omega arith
waits_listed _ h = absurd (omega (arith, h))

module _ (s : Semaphore) (kept : AreKept s.positions) (laws : IsSemaphore s) where
  abbrev xs : List Position
  xs = s.positions

  abbrev m : Permits
  m = seen s

  size_here : (q : ℕ) → size_of m q ≡ sizes_of xs q
  size_here q = ap course.size (seen_at xs q) ∙ size_seen (position_at xs q) (kept q)

  listed_here : (q : ℕ) → course.listed (course_at m.courses q) ≡ listed (position_at xs q)
  listed_here q = ap course.listed (seen_at xs q) ∙ listed_seen (position_at xs q)

  some_wanted : (q : ℕ) → 0 < entries_of q s.entries → 0 < size_of m q
  some_wanted q some = omega (arith, laws.some q (short_kept (position_at xs q) (kept q) (omega (arith, some, laws.owners q))), size_here q)

  told_or_due : (q : ℕ) → course.is_waiting (course_at m.courses q) ≡ true → size_of m q ≤ s.words.available → (0 < marked_count s.entries) ⊎ ((z : ℕ) × (pays (size_of m q) (course.debt (course_at m.courses z)) ≡ true))
  told_or_due q waits_so few =
      let n = size_at (position_at xs q) in
      let one : waits n (position_at xs q) ≡ 1 = waits_seen (position_at xs q) (kept q) (sym (ap course.is_waiting (seen_at xs q)) ∙ waits_so) in
      let there : 0 < listed (position_at xs q) = waits_listed (position_at xs q) one in
      let more : 0 < n = laws.some q (short_kept (position_at xs q) (kept q) there) in
      elim (marked_or_owed Out (n ≤ s.words.available) (waits n) (owes n) xs (marked_count s.entries) q (laws.owed n more) (omega (arith, few, size_here q)) (listed_known xs q there) (omega (arith, one)))
      as (λ _. (0 < marked_count s.entries) ⊎ ((z : ℕ) × (pays (size_of m q) (course.debt (course_at m.courses z)) ≡ true))) [
        | inl marked ↦ inl marked
        | inr who ↦ inr (who.0, ap (pays (size_of m q)) (ap course.debt (seen_at xs who.0) ∙ debt_seen (position_at xs who.0)) ∙ (ap (λ k. pays k (debt_at (position_at xs who.0))) (size_here q) ∙ pays_so (pays n (debt_at (position_at xs who.0))) who.2))
      ]

  rests : IsAtRest m.courses → machine.IsAtRest xs
  rests rest = all_at_rest is_resting Out xs (λ q i. sym (rests_seen (position_at xs q) (kept q)) ∙ (ap course.is_resting (sym (seen_at xs q)) ∙ one_at_rest course.is_resting out refl m.courses rest q))

  pub is_permits : IsPermits m
  is_permits = record {
    balanced = omega (arith, held_seen xs, way_seen xs, laws.balanced);
    all_given = λ rest. omega (arith, held_seen xs, way_seen xs, laws.balanced, none_way m.courses rest);
    limited = laws.limited;
    owners = λ q. laws.owners q ∙ sym (listed_here q);
    some_wanted = some_wanted;
    one_told = laws.one_marked;
    told_or_due = told_or_due;
    wakes = λ rest free. laws.wakes (rests rest) (wanted_so (sizes_of xs) s.words.available free.0 s.entries free.1 (omega (arith, free.2, size_here free.0)));
    some_left = λ q. (let some = some_at (position_at xs q) (is_marked_at (is_party q) s.entries) in omega (arith, some, ap (λ c. course.left c (is_marked_at (is_party q) s.entries)) (seen_at xs q), rank_seen (position_at xs q) (is_marked_at (is_party q) s.entries) (kept q)));
  }

-- ---- a new one

pub seen_new : (parties permits most : ℕ) → seen (new_semaphore parties permits most) ≡ new_permits parties permits most
seen_new parties permits most = ap (λ cs. record { words = (new_permits parties permits most).words; courses = cs; entries = [] }) (mapped_alike course_of parties Out)

new_at : (n p : ℕ) → is_kept (position_at (replicate n Out) p) ≡ true
new_at zero p = refl
new_at (suc n) zero = refl
new_at (suc n) (suc p) = new_at n p

pub kept_new : (s : Semaphore) (parties permits most : ℕ) → s ≡ new_semaphore parties permits most → AreKept s.positions
kept_new s parties permits most e p = let P : Semaphore → Type 0 = λ z. is_kept (position_at z.positions p) ≡ true in subst P (sym e) (new_at parties p)
