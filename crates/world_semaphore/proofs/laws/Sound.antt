-- What always holds of a semaphore's World, as callers see it.
use Rattle.world_semaphore.proofs.Prelude.{◌≡◌, ℕ, ◌<◌, ◌≤◌, ◌⊎◌, inl, inr, Bool, true, false, List, length, Option, refl, arith, ap, sym, ◌∙◌, subst, list_all, marked_count, entries_of, Answer, Kind, Rest, Stage, Outside, Inside, Forgotten, Within, outside, inside, is_outside, is_outside_stage, both, stage_at, stands_as, Table, past_last, by_stage_or_past, by_stage_or_past_at, rest_seen, outside_at, outside_so, Place, Take, Retake, Ask, Remove, PassOn, Try, Lower, CancelRemove, Position, Out, Unlisted, Waiting, Holding, At, bit, pays, listed, waits, owes, size_at, debt_at, is_short, verdict, is_resting, Semaphore, IsSemaphore, goes_with, runs, is_begun, position_at, sizes_of, available, standing_of, size_of, debt_of, view_of, IsSound, IsAwake, IsFreeAndWanted, is_at_rest, is_long_call, IsSemaphoreTable}
use Rattle.world_base.proofs.Owing.{marked_or_owed}
use Rattle.world_base.proofs.of_table.Resting.{all_at_rest}
use Rattle.world_semaphore.proofs.of_machine.laws.Entries.{wanted_so}
use Rattle.world_semaphore.proofs.of_machine.laws.Laws.{rests_waits, listed_known}
use Rattle.world_semaphore.proofs.of_machine.laws.Locks.{one_listed}
use Rattle.world_semaphore.proofs.table.Seen as seen
use Rattle.world_semaphore.proofs.step.Owns.{each_has}

-- a call that is begun may take more than one step
long_by : (k : Kind) (r : Rest) (x : Place) → is_begun x ≡ true → runs k r x ≡ true → is_long_call k r ≡ true
long_by Kind.FirstPoll Rest.Idle x b h = refl
long_by Kind.LaterPoll Rest.Pending x b h = refl
long_by Kind.Add Rest.Idle x b h = refl
long_by Kind.Drop Rest.Holding x b h = refl
long_by Kind.Drop Rest.Pending x b h = refl
long_by Kind.Try Rest.Idle (Try k) b h = absurd (cc)
long_by Kind.Try Rest.Idle _ b h = absurd (cc h)
long_by Kind.Forget Rest.Holding (Lower k) b h = absurd (cc)
long_by Kind.Forget Rest.Holding _ b h = absurd (cc h)
long_by _ _ x b h = absurd (cc h)

long_at : (s : Stage) (x : Position) (d : Option Answer) (u : Within) (e : Option Answer) → goes_with s x ≡ true → stands_as d s ≡ inside u e → is_long_call u.kind u.was ≡ true
long_at (Outside r) x d u e g h = absurd (cc h)
long_at Forgotten x d u e g h = absurd (cc h)
long_at (Inside w) (At y) d u e g h =
    let two = both (is_begun y) (runs w.kind w.was y) g in
    let same : w ≡ u = cc h in
    let P : Within → Type 0 = λ v. is_long_call v.kind v.was ≡ true in
    subst P same (long_by w.kind w.was y two.0 two.1)
long_at (Inside w) _ d u e g h = absurd (cc g)

-- outside every call a party rests
resting : (s : Stage) (x : Position) → goes_with s x ≡ true → is_outside_stage s ≡ true → is_resting x ≡ true
resting (Outside r) Out g o = refl
resting (Outside r) (Unlisted k) g o = refl
resting (Outside r) (Waiting k) g o = refl
resting (Outside r) (Holding k) g o = refl
resting (Outside Rest.Idle) (At y) g o = absurd (cc)
resting (Outside Rest.Pending) (At y) g o = absurd (cc)
resting (Outside Rest.Holding) (At y) g o = absurd (cc)
resting (Outside Rest.Finished) (At y) g o = absurd (cc)
resting (Inside w) x g o = absurd (cc)
resting Forgotten x g o = absurd (cc)

waits_so : (s : Stage) (x : Position) (d : Option Answer) → goes_with s x ≡ true → is_outside_stage s ≡ true → 0 < listed x → stands_as d s ≡ outside Rest.Pending
waits_so (Outside Rest.Pending) x d g o l = refl
waits_so (Outside Rest.Idle) Out d g o l = absurd (omega arith)
waits_so (Outside Rest.Idle) _ d g o l = absurd (cc g)
waits_so (Outside Rest.Holding) (Holding k) d g o l = absurd (omega arith)
waits_so (Outside Rest.Holding) _ d g o l = absurd (cc g)
waits_so (Outside Rest.Finished) x d g o l = absurd (cc g)
waits_so (Inside w) x d g o l = absurd (cc o)
waits_so Forgotten x d g o l = absurd (cc g)

-- whoever stands in the list has found too few
short_so : (s : Stage) (x : Position) → goes_with s x ≡ true → 0 < listed x → is_short x ≡ true
short_so s (Waiting k) g l = refl
short_so s Out g l = absurd (omega arith)
short_so s (Unlisted k) g l = absurd (omega arith)
short_so s (Holding k) g l = absurd (omega arith)
short_so s (At (Take k true told)) g l = refl
short_so s (At (Take k false told)) g l = absurd (omega arith)
short_so s (At (Retake k)) g l = refl
short_so s (At (Ask k told)) g l = refl
short_so s (At (Remove k more)) g l = refl
short_so s (At (PassOn k a)) g l = refl
short_so (Inside w) (At CancelRemove) g l = absurd (cc g)
short_so (Outside Rest.Idle) (At CancelRemove) g l = absurd (cc g)
short_so (Outside Rest.Pending) (At CancelRemove) g l = absurd (cc g)
short_so (Outside Rest.Holding) (At CancelRemove) g l = absurd (cc g)
short_so (Outside Rest.Finished) (At CancelRemove) g l = absurd (cc g)
short_so Forgotten (At CancelRemove) g l = absurd (cc g)
short_so s (At _) g l = absurd (omega arith)

pub pays_so : (b : Bool) → 0 < bit b → b ≡ true
pays_so true h = refl
pays_so false h = absurd (omega arith)

module _ (t : Table Semaphore) (laws : IsSemaphore t.machine) (fits : IsSemaphoreTable t) where
  abbrev xs : List Position
  xs = t.machine.positions

  rests_outside : (q : ℕ) → is_outside (standing_of (view_of t) q) ≡ true → is_resting (position_at xs q) ≡ true
  rests_outside q out = by_stage_or_past t.stages q (is_resting (position_at xs q) ≡ true)
      (λ past. ap is_resting (past_last xs q Out (omega (arith, past, fits.as_many))))
      (λ inside. resting (stage_at t.stages q) (position_at xs q) (fits.stands q inside) (sym (outside_so (verdict (position_at xs q)) (stage_at t.stages q)) ∙ (ap is_outside (sym (seen.stands_seen t q)) ∙ out)))

  known_of : (q : ℕ) → 0 < entries_of q t.machine.entries → q < length xs
  known_of q some = listed_known xs q (omega (arith, some, laws.owners q))

  pub some_wanted : (q : ℕ) → 0 < entries_of q t.machine.entries → 0 < size_of (view_of t) q
  some_wanted q some =
      let there = known_of q some in
      let short = short_so (stage_at t.stages q) (position_at xs q) (fits.stands q (omega (arith, there, fits.as_many))) (omega (arith, some, laws.owners q)) in
      omega (arith, laws.some q short, seen.size_seen t q)

  told_or_due : (q : ℕ) → is_outside (standing_of (view_of t) q) ≡ true → 0 < entries_of q t.machine.entries → size_of (view_of t) q ≤ available (view_of t).state
      → (0 < marked_count t.machine.entries) ⊎ ((z : ℕ) × (pays (size_of (view_of t) q) (debt_of (view_of t) z) ≡ true))
  told_or_due q out some few =
      let n = size_at (position_at xs q) in
      let more : 0 < n = omega (arith, some_wanted q some, seen.size_seen t q) in
      let waiting : waits n (position_at xs q) ≡ 1 = rests_waits (position_at xs q) (rests_outside q out) (omega (arith, some, laws.owners q)) in
      elim (marked_or_owed Out (n ≤ t.machine.words.available) (waits n) (owes n) xs (marked_count t.machine.entries) q (laws.owed n more) (omega (arith, few, seen.size_seen t q, seen.available_seen t laws)) (known_of q some) (omega (arith, waiting)))
      as (λ _. (0 < marked_count t.machine.entries) ⊎ ((z : ℕ) × (pays (size_of (view_of t) q) (debt_of (view_of t) z) ≡ true))) [
        | inl marked ↦ inl marked
        | inr one ↦ inr (one.0, ap (pays (size_of (view_of t) q)) (seen.debt_seen t one.0) ∙ (ap (λ s. pays s (debt_at (position_at xs one.0))) (seen.size_seen t q) ∙ pays_so (pays n (debt_at (position_at xs one.0))) one.2))
      ]

  pub sound : IsSound (view_of t)
  sound = record {
    balanced = omega (arith, seen.available_seen t laws, seen.held_seen t, seen.under_way_seen t, laws.balanced);
    limited = laws.limited;
    few_held = omega (arith, seen.held_seen t, laws.balanced);
    each = each_has t laws fits;
    inside_calls = λ q u d e. by_stage_or_past_at t.stages q (is_long_call u.kind u.was ≡ true)
        (λ past. (let h : stands_as (verdict (position_at xs q)) Forgotten ≡ inside u d = ap (stands_as (verdict (position_at xs q))) (sym past) ∙ (sym (seen.stands_seen t q) ∙ e) in absurd (cc (h))))
        (λ inside. long_at (stage_at t.stages q) (position_at xs q) (verdict (position_at xs q)) u d (fits.stands q inside) (sym (seen.stands_seen t q) ∙ e));
    told_or_due = told_or_due;
    some_wanted = some_wanted;
    once = λ q. omega (arith, laws.owners q, one_listed (position_at xs q));
    one_marked = laws.one_marked;
  }

  -- as many are available as somebody listed waits for, as the machine says it
  pub wanted_there : IsFreeAndWanted (view_of t) → (p : ℕ) × (0 < entries_of p t.machine.entries) × (sizes_of xs p ≤ t.machine.words.available)
  wanted_there h = (h.0, h.1, omega (arith, h.2, seen.size_seen t h.0, seen.available_seen t laws))

  module _ (rests : is_at_rest (view_of t) ≡ true) where
    stages_rest : list_all is_outside_stage t.stages ≡ true
    stages_rest = sym (rest_seen (λ q. verdict (position_at xs q)) t.stages) ∙ rests

    pub awake : IsAwake (view_of t)
    awake = record {
      marked = λ h. (let so = wanted_there h in laws.wakes (all_at_rest is_resting Out xs (λ q i. resting (stage_at t.stages q) (position_at xs q) (fits.stands q (omega (arith, i, fits.as_many))) (outside_at t.stages stages_rest q))) (wanted_so (sizes_of xs) t.machine.words.available so.0 t.machine.entries so.1 so.2));
      pending = λ q some. seen.stands_seen t q ∙ by_stage_or_past t.stages q (stands_as (verdict (position_at xs q)) (stage_at t.stages q) ≡ outside Rest.Pending)
          (λ past. (let out : listed (position_at xs q) ≡ 0 = ap listed (past_last xs q Out (omega (arith, past, fits.as_many))) in absurd (omega (arith, out, some, laws.owners q))))
          (λ inside. waits_so (stage_at t.stages q) (position_at xs q) (verdict (position_at xs q)) (fits.stands q inside) (outside_at t.stages stages_rest q) (omega (arith, some, laws.owners q)));
    }
