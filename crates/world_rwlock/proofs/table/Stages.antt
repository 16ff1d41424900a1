-- A party's stage, and what it seeks, go with its place after each action.
use Rattle.world_rwlock.proofs.Prelude.{◌≡◌, ℕ, true, false, refl, and_parts, Refusal, Kind, Rest, Stage, Within, within, may_end, is_stepped, is_possible, End, Got, Granted, Pending, NotFree, GivenBack, Refused, stage_after, Next, Place, place_after, answer_by, Course, polls, tries, drops, downgrades, upgrades, tries_upgrade, strays, course_of, is_on_course, is_future, goes_with}
use Rattle.world_rwlock.proofs.step.Paths.{ends_in, Keeps}

-- ---- the calls of each course

-- what holds of the calls of each course holds of each call
pub record OnCourses (P : Kind → Rest → Course → Type 0) : Type 0 where
  pub first_poll : P Kind.FirstPoll Rest.Idle polls
  pub later_poll : P Kind.LaterPoll Rest.Pending polls
  pub try : P Kind.Try Rest.Idle tries
  pub drop_future : P Kind.Drop Rest.Pending drops
  pub drop_guard : P Kind.Drop Rest.Holding drops
  pub downgrade : P Kind.Downgrade Rest.Holding downgrades
  pub upgrade : P Kind.Upgrade Rest.Holding upgrades
  pub try_upgrade : P Kind.TryUpgrade Rest.Holding tries_upgrade

pub on_course : (P : Kind → Rest → Course → Type 0) → OnCourses P → (k : Kind) (r : Rest) (c : Course) → is_on_course k r c ≡ true → P k r c
on_course P k Kind.FirstPoll Rest.Idle polls h = k.first_poll
on_course P k Kind.LaterPoll Rest.Pending polls h = k.later_poll
on_course P k Kind.Try Rest.Idle tries h = k.try
on_course P k Kind.Drop Rest.Pending drops h = k.drop_future
on_course P k Kind.Drop Rest.Holding drops h = k.drop_guard
on_course P k Kind.Downgrade Rest.Holding downgrades h = k.downgrade
on_course P k Kind.Upgrade Rest.Holding upgrades h = k.upgrade
on_course P k Kind.TryUpgrade Rest.Holding tries_upgrade h = k.try_upgrade
on_course P k _ _ _ h = absurd (cc)

never_strays : (k : Kind) (r : Rest) (c : Course) → is_on_course k r c ≡ true → c ≡ strays → ⊥
never_strays = on_course (λ k r c. c ≡ strays → ⊥) (record { first_poll = λ e. cc; later_poll = λ e. cc; try = λ e. cc; drop_future = λ e. cc; drop_guard = λ e. cc; downgrade = λ e. cc; upgrade = λ e. cc; try_upgrade = λ e. cc })

pub strays_not : (w : Within) (x : Place) → is_on_course w.kind w.was (course_of x) ≡ true → course_of x ≡ strays → ⊥
strays_not w x h = never_strays w.kind w.was (course_of x) h

-- ---- how a call ends

-- the stage after an action
abbrev pub stage_then : Within → ℕ → Next → Stage
stage_then w v n = stage_after Rest.Holding w (answer_by v n)

-- a call on its course ends by an answer by which it may, and its party stands where it may then
pub record Over (k : Kind) (r : Rest) (v : ℕ) (n : Next) : Type 0 where
  pub ends : may_end k (answer_by v n) ≡ true
  pub fits : goes_with (stage_then (within k r) v n) (place_after n) ≡ true

abbrev EndsSo : Kind → Rest → Course → Type 0
EndsSo k r c = (v : ℕ) (e : End) (q : Place) → ends_in c e q ≡ true → Over k r v (Next.End e q)

first_polled : EndsSo Kind.FirstPoll Rest.Idle polls
first_polled v Got q h = record { ends = refl; fits = h }
first_polled v Pending q h = record { ends = refl; fits = h }
first_polled v (Refused Refusal.Memory) q h = record { ends = refl; fits = (and_parts (is_future q) true h).0 }
first_polled v (Refused Refusal.Starved) q h = record { ends = refl; fits = (and_parts (is_future q) true h).0 }
first_polled v (Refused Refusal.Readers) q h = record { ends = refl; fits = (and_parts (is_future q) true h).0 }
first_polled v (Refused _) q h = let never = (and_parts (is_future q) false h).1 in absurd (cc)
first_polled v _ q h = absurd (cc)

later_polled : EndsSo Kind.LaterPoll Rest.Pending polls
later_polled v Got q h = record { ends = refl; fits = h }
later_polled v Pending q h = record { ends = refl; fits = h }
later_polled v (Refused Refusal.Memory) q h = record { ends = refl; fits = (and_parts (is_future q) true h).0 }
later_polled v (Refused Refusal.Starved) q h = record { ends = refl; fits = (and_parts (is_future q) true h).0 }
later_polled v (Refused Refusal.Readers) q h = record { ends = refl; fits = (and_parts (is_future q) true h).0 }
later_polled v (Refused _) q h = let never = (and_parts (is_future q) false h).1 in absurd (cc)
later_polled v _ q h = absurd (cc)

tried : EndsSo Kind.Try Rest.Idle tries
tried v Granted q h = record { ends = refl; fits = h }
tried v NotFree q h = record { ends = refl; fits = h }
tried v _ q h = absurd (cc)

dropped : (r : Rest) → EndsSo Kind.Drop r drops
dropped r v GivenBack q h = record { ends = refl; fits = h }
dropped r v _ q h = absurd (cc)

downgraded : EndsSo Kind.Downgrade Rest.Holding downgrades
downgraded v GivenBack q h = record { ends = refl; fits = h }
downgraded v _ q h = absurd (cc)

upgraded : EndsSo Kind.Upgrade Rest.Holding upgrades
upgraded v _ q h = absurd (cc)

tried_to_upgrade : EndsSo Kind.TryUpgrade Rest.Holding tries_upgrade
tried_to_upgrade v Granted q h = record { ends = refl; fits = h }
tried_to_upgrade v NotFree q h = record { ends = refl; fits = h }
tried_to_upgrade v _ q h = absurd (cc)

ends_so : (k : Kind) (r : Rest) (c : Course) → is_on_course k r c ≡ true → EndsSo k r c
ends_so = on_course EndsSo (record {
  first_poll = first_polled;
  later_poll = later_polled;
  try = tried;
  drop_future = dropped Rest.Pending;
  drop_guard = dropped Rest.Holding;
  downgrade = downgraded;
  upgrade = upgraded;
  try_upgrade = tried_to_upgrade;
})

abbrev WaitsSo : Kind → Rest → Course → Type 0
WaitsSo k r c = (v : ℕ) (q : Place) → c ≡ upgrades → is_future q ≡ true → Over k r v (Next.Wait q)

waits_so : (k : Kind) (r : Rest) (c : Course) → is_on_course k r c ≡ true → WaitsSo k r c
waits_so = on_course WaitsSo (record {
  first_poll = λ v q e h. absurd (cc);
  later_poll = λ v q e h. absurd (cc);
  try = λ v q e h. absurd (cc);
  drop_future = λ v q e h. absurd (cc);
  drop_guard = λ v q e h. absurd (cc);
  downgrade = λ v q e h. absurd (cc);
  upgrade = λ v q e h. record { ends = refl; fits = h };
  try_upgrade = λ v q e h. absurd (cc);
})

pub stage_fits : (w : Within) (v : ℕ) (x : Place) (n : Next) → is_on_course w.kind w.was (course_of x) ≡ true → Keeps (course_of x) n → goes_with (stage_then w v n) (place_after n) ≡ true
stage_fits w v x (Next.Do a q) h k = rw (k.0, k.1) h
stage_fits w v x (Next.End e q) h k = (ends_so w.kind w.was (course_of x) h v e q k).fits
stage_fits w v x (Next.Wait q) h k = (waits_so w.kind w.was (course_of x) h v q k.0 k.1).fits

pub may_end_so : (w : Within) (v : ℕ) (x : Place) (n : Next) → is_on_course w.kind w.was (course_of x) ≡ true → Keeps (course_of x) n → is_stepped (answer_by v n) ≡ false → may_end w.kind (answer_by v n) ≡ true
may_end_so w v x (Next.Do a q) h k e = absurd (cc)
may_end_so w v x (Next.End e q) h k s = (ends_so w.kind w.was (course_of x) h v e q k).ends
may_end_so w v x (Next.Wait q) h k s = (waits_so w.kind w.was (course_of x) h v q k.0 k.1).ends

pub always_possible : (v : ℕ) (n : Next) → is_possible (answer_by v n) ≡ true
always_possible v (Next.Do a q) = refl
always_possible v (Next.Wait q) = refl
always_possible v (Next.End Got q) = refl
always_possible v (Next.End Granted q) = refl
always_possible v (Next.End Pending q) = refl
always_possible v (Next.End NotFree q) = refl
always_possible v (Next.End End.Waiting q) = refl
always_possible v (Next.End GivenBack q) = refl
always_possible v (Next.End (Refused r) q) = refl
