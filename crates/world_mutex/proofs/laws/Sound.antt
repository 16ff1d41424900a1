-- What always holds of a mutex's World, as callers see it, and that no notification is lost at rest.
use Rattle.world_mutex.proofs.Prelude.{◌≡◌, ℕ, ◌<◌, ◌⊎◌, inl, inr, Bool, true, List, Option, refl, arith, ap, sym, ◌∙◌, subst, nat_tests, list_all, Entry, entries_of, Answer, Kind, Rest, Stage, Outside, Inside, Forgotten, Within, Standing, outside, inside, forgotten, is_outside_stage, stage_at, stands_as, Table, by_stage_or_past_at, rest_seen, outside_at, outside_so, Place, Out, IsMutex, place_at, counted, listed, is_resting, is_counted, Guarded, place_of, is_within, goes_with, with_value, HasRight, IsSound, is_long_call, is_at_rest, IsAwake, World, IsMutexTable, verdict, view_of, false, None, marked_count, is_outside, past_last, by_stage_or_past, is_due_there, holder_of, is_due, IsDue, standing_of}
use Rattle.world_base.specs.Rights.{Right, hold}
use Rattle.world_base.specs.table.Lending.{table_with}
use Rattle.world_base.proofs.of_table.Lending.{lent_seen}
use Rattle.world_base.proofs.of_table.Resting.{all_at_rest}
use Rattle.world_mutex.specs.machine.Acts as lock
use Rattle.world_mutex.proofs.of_machine.laws.CanDo.{once}
use Rattle.world_mutex.proofs.of_machine.laws.Seen as sees
use Rattle.world_mutex.specs.Lending.{world_with}
use Rattle.world_mutex.proofs.step.Owns as owns
use Rattle.world_mutex.proofs.table.Seen as seen
use Rattle.world_mutex.proofs.step.Due.{resting, rest_waits, due_at, due_unlisted}

excluded : (w : World) (p q : ℕ) (r s : Right) → HasRight w p r → HasRight w q s → p ≡ q
excluded w p q hold hold a b = cc
excluded w p q hold _ a b = absurd b
excluded w p q _ s a b = absurd a

-- a stage inside a call is a poll's or a drop's
long_by : (k : Kind) (r : Rest) (x : Place) → is_within k r x ≡ true → is_long_call k r ≡ true
long_by Kind.FirstPoll Rest.Idle x h = refl
long_by Kind.LaterPoll Rest.Pending x h = refl
long_by Kind.Drop Rest.Pending x h = refl
long_by Kind.Drop Rest.Holding x h = refl
long_by _ _ x h = absurd (cc (h))

long_at : (s : Stage) (x : Place) (d : Option Answer) (u : Within) (e : Option Answer) → goes_with s x ≡ true → stands_as d s ≡ inside u e → is_long_call u.kind u.was ≡ true
long_at (Outside r) x d u e g h = absurd (cc h)
long_at Forgotten x d u e g h = absurd (cc h)
long_at (Inside w) x d u e g h =
    let same : w ≡ u = cc h in
    let P : Within → Type 0 = λ v. is_long_call v.kind v.was ≡ true in
    subst P same (long_by w.kind w.was x g)

-- a listed party that is outside every call is pending, or was
pends_so : (s : Stage) (x : Place) (d : Option Answer) → goes_with s x ≡ true → is_outside_stage s ≡ true → 0 < listed x → (stands_as d s ≡ outside Rest.Pending) ⊎ (stands_as d s ≡ forgotten)
pends_so (Outside Rest.Pending) x d g o l = inl refl
pends_so (Outside Rest.Idle) Place.Out d g o l = absurd (omega arith)
pends_so (Outside Rest.Idle) _ d g o l = absurd (cc g)
pends_so (Outside Rest.Holding) Place.Holding d g o l = absurd (omega arith)
pends_so (Outside Rest.Holding) _ d g o l = absurd (cc g)
pends_so (Outside Rest.Finished) x d g o l = absurd (cc g)
pends_so (Inside w) x d g o l = absurd (cc o)
pends_so Forgotten x d g o l = inr refl

one_counted : (x : Place) → is_counted x ≡ true → counted x ≡ 1
one_counted x h = grind (arith, nat_tests)

module _ (t : Table Guarded) (laws : IsMutex t.machine.lock) (fits : IsMutexTable t) where
  abbrev xs : List Place
  xs = t.machine.lock.places

  rests_outside : (q : ℕ) → is_outside (standing_of (view_of t) q) ≡ true → is_resting (place_at xs q) ≡ true
  rests_outside q out = by_stage_or_past t.stages q (is_resting (place_at xs q) ≡ true)
      (λ past. ap is_resting (past_last xs q Place.Out (omega (arith, past, fits.as_many))))
      (λ inside. resting (stage_at t.stages q) (place_at xs q) (fits.stands q inside) (sym (outside_so (verdict t.machine q) (stage_at t.stages q)) ∙ (ap is_outside (sym (seen.stands_seen t q)) ∙ out)))

  due : (q : ℕ) → is_due_there (place_at xs q) ≡ true → IsDue (view_of t) q
  due q h = record {
    due = ap is_due (seen.stands_seen t q) ∙ by_stage_or_past t.stages q (is_due (stands_as (verdict t.machine q) (stage_at t.stages q)) ≡ true)
        (λ past. (let none : is_due_there (place_at xs q) ≡ false = ap is_due_there (past_last xs q Place.Out (omega (arith, past, fits.as_many))) in absurd (cc (none, h))))
        (λ inside. due_at t.machine.value (stage_at t.stages q) (place_at xs q) (fits.stands q inside) h);
    unlisted = λ fresh. laws.owners q ∙ due_unlisted (place_at xs q) h (sym (sees.starved_at xs q) ∙ fresh);
  }

  told_or_due : holder_of t.machine.lock ≡ None → (q : ℕ) → is_outside (standing_of (view_of t) q) ≡ true → 0 < entries_of q t.machine.lock.entries → (0 < marked_count t.machine.lock.entries) ⊎ ((z : ℕ) × IsDue (view_of t) z)
  told_or_due free q out some =
      let waiting = rest_waits (place_at xs q) (rests_outside q out) (omega (arith, some, laws.owners q)) in
      elim (laws.told_or_due (sees.none_holds 0 xs free) q waiting) [ inl marked ↦ inl marked | inr one ↦ inr (one.0, due one.0 one.1) ]

  pub sound : IsSound (view_of t)
  sound = record {
    exclusion = λ p q r s a b e. excluded (view_of t) p q r s a b;
    each = owns.each t laws fits;
    few_starved = rw sees.how_many_counted laws.few_starved;
    inside_calls = λ q u d e. by_stage_or_past_at t.stages q (is_long_call u.kind u.was ≡ true)
        (λ past. (let h : stands_as (verdict t.machine q) Forgotten ≡ inside u d = ap (stands_as (verdict t.machine q)) (sym past) ∙ (sym (seen.stands_seen t q) ∙ e) in absurd (cc (h))))
        (λ inside. long_at (stage_at t.stages q) (place_of t.machine q) (verdict t.machine q) u d (fits.stands q inside) (sym (seen.stands_seen t q) ∙ e));
    told_or_due = told_or_due;
    once = λ p. rw (laws.owners p) (once (place_of t.machine p));
    in_order = laws.in_order;
    one_told = laws.one_told;
  }

  module _ (rests : is_at_rest (view_of t) ≡ true) where
    stages_rest : list_all is_outside_stage t.stages ≡ true
    stages_rest = sym (rest_seen (verdict t.machine) t.stages) ∙ rests

    places_rest : lock.IsAtRest xs
    places_rest = all_at_rest is_resting Out xs (λ q i. resting (stage_at t.stages q) (place_at xs q) (fits.stands q (omega (arith, i, fits.as_many))) (outside_at t.stages stages_rest q))

    pub awake : IsAwake (view_of t)
    awake = record {
      marked = λ free. laws.wakes places_rest (sees.none_holds 0 xs free.0) free.1;
      pending = λ q some.
          let P : Standing → Type 0 = λ z. (z ≡ outside Rest.Pending) ⊎ (z ≡ forgotten) in
          subst P (sym (seen.stands_seen t q)) (by_stage_or_past_at t.stages q (P (stands_as (verdict t.machine q) (stage_at t.stages q)))
          (λ past. inr (ap (stands_as (verdict t.machine q)) past))
          (λ inside. pends_so (stage_at t.stages q) (place_of t.machine q) (verdict t.machine q) (fits.stands q inside) (outside_at t.stages stages_rest q) (omega (arith, some, laws.owners q))));
      starved = λ q counts. (let one : entries_of q t.machine.lock.entries ≡ 1 = laws.starved_listed places_rest q (one_counted (place_of t.machine q) (sym (sees.starved_at xs q) ∙ counts)) in omega arith);
    }

-- ---- a value put at rest

made : (h : Option ℕ) (bs : List Bool) (v : ℕ) (es : List (Entry ℕ)) (zs ys : List Standing) (limit opening : ℕ) (t : Table Guarded) → zs ≡ ys
    → Path World (record { state = record { holder = h; starved = bs; value = v }; entries = es; standings = zs; limit = limit; opening_value = opening; behind = t }) (record { state = record { holder = h; starved = bs; value = v }; entries = es; standings = ys; limit = limit; opening_value = opening; behind = t })
made h bs v es zs ys limit opening t e = cc

-- a table whose value was put is seen as the World in which it was
pub put_seen : (t : Table Guarded) (v : ℕ) → list_all is_outside_stage t.stages ≡ true → view_of (table_with with_value t v) ≡ world_with (view_of t) v
put_seen t v rests = made _ _ v _ _ _ _ _ _ (lent_seen (verdict t.machine) (verdict (with_value t.machine v)) t.stages rests)
