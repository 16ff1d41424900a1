-- What always holds of a once-cell's World, as callers see it.
use Rattle.world_once_cell.proofs.Prelude.{◌≡◌, ◌≢◌, ℕ, zero, suc, ◌+◌, ◌<◌, ◌≤◌, ◌⊎◌, inl, inr, true, false, List, length, Option, Some, refl, arith, ap, sym, ◌∙◌, subst, list_all, sum_by, get_or-le-sum_by, is_marked_at, marked_count, is_party, entries_of, else_marked, Answer, Kind, Rest, Stage, Outside, Inside, Forgotten, Within, inside, is_outside, is_outside_stage, both, stage_at, stands_as, Table, past_last, by_stage_or_past, by_stage_or_past_at, rest_seen, outside_at, outside_so, length-standings, ListName, Active, Passive, Closure, Given, Place, Claim, ClaimListed, AskActive, LeaveToMake, NotifyActive, NotifyPassive, TryNotifyActive, TryNotifyPassive, FailNotify, CancelNotify, LeaveFull, LookListed, AskPassive, LeavePassive, CancelLeave, Abandon, Position, Out, ToMake, WaitingToMake, Making, ToWait, Waiting, At, Content, Empty, Full, fills_with, task_at, makes_at, in_active, in_passive_at, waits, owes, value_known, is_late, will_tell, verdict, is_resting, OnceCell, IsCell, IsAtRest, goes_with, runs, is_begun, is_abandoning, is_maker, position_at, AllTold, list_in, standing_of, task_of, HasOneTeller, view_of, IsDue, is_due, IsSound, IsAwake, IsStillThere, is_at_rest, is_long_call, may_be_maker, IsCellTable}
use Rattle.world_base.proofs.of_table.Resting.{all_at_rest}
use Rattle.world_once_cell.proofs.of_machine.laws.Contents as contents
use Rattle.world_once_cell.proofs.of_machine.laws.Told.{in_list}
use Rattle.world_once_cell.proofs.of_machine.laws.Taken.{some_term}
use Rattle.world_once_cell.proofs.table.Seen as seen
use Rattle.world_once_cell.proofs.step.Owns.{each_has}

-- a call that is begun may take more than one step
abandon_unbegun : (x : Place) → is_abandoning x ≡ true → is_begun x ≡ true → ⊥
abandon_unbegun Abandon h b = cc b
abandon_unbegun _ h b = cc h

long_by : (k : Kind) (r : Rest) (x : Place) → is_begun x ≡ true → runs k r x ≡ true → is_long_call k r ≡ true
long_by Kind.FirstPoll Rest.Idle x b h = refl
long_by Kind.FirstPoll Rest.Finished x b h = refl
long_by Kind.LaterPoll Rest.Pending x b h = refl
long_by Kind.Try Rest.Idle x b h = refl
long_by Kind.Try Rest.Finished x b h = refl
long_by Kind.Drop Rest.Pending x b h = refl
long_by Kind.Drop Rest.Finished x b h = absurd (abandon_unbegun x h b)
long_by _ _ x b h = absurd (cc h)

long_at : (s : Stage) (x : Position) (d : Option Answer) (u : Within) (e : Option Answer) → goes_with s x ≡ true → stands_as d s ≡ inside u e → is_long_call u.kind u.was ≡ true
long_at (Outside r) x d u e g h = absurd (cc h)
long_at Forgotten x d u e g h = absurd (cc h)
long_at (Inside w) (At y) d u e g h =
    let two = both (is_begun y) (runs w.kind w.was y) g in
    let same : w ≡ u = cc h in
    let P : Within → Type 0 = λ v. is_long_call v.kind v.was ≡ true in
    subst P same (long_by w.kind w.was y two.0 two.1)
long_at (Inside w) _ d u e g h = absurd (cc g)

one_listed : (x : Position) → in_active x + in_passive_at x ≤ 1
one_listed (WaitingToMake k) = omega arith
one_listed Waiting = omega arith
one_listed (At (ClaimListed k)) = omega arith
one_listed (At (AskActive k)) = omega arith
one_listed (At (LeaveToMake k)) = omega arith
one_listed (At (LeaveFull k v)) = omega arith
one_listed (At LookListed) = omega arith
one_listed (At AskPassive) = omega arith
one_listed (At (LeavePassive v)) = omega arith
one_listed (At (CancelLeave Active)) = omega arith
one_listed (At (CancelLeave Passive)) = omega arith
one_listed (At _) = omega arith
one_listed _ = omega arith

-- who makes is pending, inside a call, or forgotten
makes_so : (s : Stage) (x : Position) (d : Option Answer) → goes_with s x ≡ true → makes_at x ≡ true → may_be_maker (stands_as d s) ≡ true
makes_so (Outside Rest.Pending) x d g h = refl
makes_so (Inside w) x d g h = refl
makes_so Forgotten x d g h = refl
makes_so (Outside Rest.Idle) Out d g h = absurd (cc h)
makes_so (Outside Rest.Idle) _ d g h = absurd (cc g)
makes_so (Outside Rest.Finished) Out d g h = absurd (cc h)
makes_so (Outside Rest.Finished) _ d g h = absurd (cc g)
makes_so (Outside Rest.Holding) x d g h = absurd (cc g)

-- outside every call a party rests
resting : (s : Stage) (x : Position) → goes_with s x ≡ true → is_outside_stage s ≡ true → is_resting x ≡ true
resting (Outside r) Out g o = refl
resting (Outside r) (ToMake k) g o = refl
resting (Outside r) (WaitingToMake k) g o = refl
resting (Outside r) (Making k) g o = refl
resting (Outside r) ToWait g o = refl
resting (Outside r) Waiting g o = refl
resting (Outside Rest.Idle) (At y) g o = absurd (cc g)
resting (Outside Rest.Pending) (At y) g o = absurd (cc g)
resting (Outside Rest.Holding) (At y) g o = absurd (cc g)
resting (Outside Rest.Finished) (At y) g o = absurd (cc g)
resting (Inside w) x g o = absurd (cc o)
resting Forgotten x g o = g

-- who stands in a list or makes outside every call is pending, or was when it was forgotten
still_there : (s : Stage) (x : Position) (d : Option Answer) → goes_with s x ≡ true → is_outside_stage s ≡ true → (x ≡ Out → ⊥) → IsStillThere (stands_as d s)
still_there (Outside Rest.Pending) x d g o h = inl refl
still_there Forgotten x d g o h = inr refl
still_there (Outside Rest.Idle) Out d g o h = absurd (h refl)
still_there (Outside Rest.Idle) _ d g o h = absurd (cc g)
still_there (Outside Rest.Finished) Out d g o h = absurd (h refl)
still_there (Outside Rest.Finished) _ d g o h = absurd (cc g)
still_there (Outside Rest.Holding) x d g o h = absurd (cc g)
still_there (Inside w) x d g o h = absurd (cc o)

-- outside every call a party has looked, and is about to tell nobody; and who is about to tell has filled the cell
rest_late : (list : ListName) (x : Position) → is_resting x ≡ true → is_late list x ≡ true → ⊥
rest_late Active (At place) h e = cc h
rest_late Active _ h e = cc e
rest_late Passive (At place) h e = cc h
rest_late Passive _ h e = cc e

tells_filled : (list : ListName) (x : Position) → ((n : ℕ) → task_at x ≢ fills_with n) → will_tell list x ≡ false
tells_filled Active (At (NotifyActive v)) h = absurd (h v refl)
tells_filled Active (At (TryNotifyActive v)) h = absurd (h v refl)
tells_filled Active (At _) h = refl
tells_filled Active _ h = refl
tells_filled Passive (At (NotifyActive v)) h = absurd (h v refl)
tells_filled Passive (At (NotifyPassive v)) h = absurd (h v refl)
tells_filled Passive (At (TryNotifyActive v)) h = absurd (h v refl)
tells_filled Passive (At (TryNotifyPassive v)) h = absurd (h v refl)
tells_filled Passive (At _) h = refl
tells_filled Passive _ h = refl

rest_filled : (x : Position) (n : ℕ) → is_resting x ≡ true → task_at x ≡ fills_with n → ⊥
rest_filled (At place) n h e = cc h
rest_filled (ToMake Closure) n h e = cc e
rest_filled (ToMake (Given v)) n h e = cc e
rest_filled (WaitingToMake Closure) n h e = cc e
rest_filled (WaitingToMake (Given v)) n h e = cc e
rest_filled (Making Closure) n h e = cc e
rest_filled (Making (Given v)) n h e = cc e
rest_filled _ n h e = cc e

-- outside every call a party waits where it stands in `active`, and owes nothing
rest_waits : (x : Position) → is_resting x ≡ true → waits x ≡ in_active x
rest_waits (At place) h = absurd (cc h)
rest_waits _ h = refl

rest_owes : (x : Position) → is_resting x ≡ true → owes x ≡ 0
rest_owes (At place) h = absurd (cc h)
rest_owes _ h = refl

-- who owes a notification or a look is in no list, and inside a call
owes_unlisted : (x : Position) → 0 < owes x → in_active x ≡ 0
owes_unlisted (At (Claim k told)) some = refl
owes_unlisted (At (CancelLeave Active)) some = absurd (omega arith)
owes_unlisted (At (CancelLeave Passive)) some = absurd (omega arith)
owes_unlisted (At _) some = omega arith
owes_unlisted _ some = omega arith

due_at : (u : Within) (x : Position) → goes_with (Inside u) x ≡ true → 0 < owes x → ((v : ℕ) → value_known x ≡ Some v → ⊥) → is_due (stands_as (verdict x) (Inside u)) (task_at x) ≡ true
due_at u (At (Claim Closure true)) g some h = refl
due_at u (At (Claim (Given v) true)) g some h = refl
due_at u (At (Claim k false)) g some h = absurd (omega arith)
due_at u (At FailNotify) g some h = refl
due_at u (At CancelNotify) g some h = refl
due_at u (At (NotifyActive v)) g some h = absurd (h v refl)
due_at u (At (TryNotifyActive v)) g some h = absurd (h v refl)
due_at u (At (CancelLeave Active)) g some h = absurd (omega arith)
due_at u (At (CancelLeave Passive)) g some h = absurd (omega arith)
due_at u (At _) g some h = absurd (omega arith)
due_at u _ g some h = absurd (omega arith)

due_so : (s : Stage) (x : Position) → goes_with s x ≡ true → 0 < owes x → ((v : ℕ) → value_known x ≡ Some v → ⊥) → is_due (stands_as (verdict x) s) (task_at x) ≡ true
due_so (Inside u) x g some h = due_at u x g some h
due_so (Outside r) x g some h = let none = rest_owes x (resting (Outside r) x g refl) in absurd (omega (arith, some, none))
due_so Forgotten x g some h = let none = rest_owes x (resting Forgotten x g refl) in absurd (omega (arith, some, none))

empty_full : (c : Content) (v : ℕ) → c ≡ Empty → c ≡ Full v → ⊥
empty_full c v e full = let never : Empty ≡ Full v = sym e ∙ full in cc never

module _ (t : Table OnceCell) (laws : IsCell t.machine) (fits : IsCellTable t) (one : HasOneTeller (view_of t)) where
  abbrev xs : List Position
  xs = t.machine.positions

  listed_seen : (list : ListName) (q : ℕ) → entries_of q (list_in list (view_of t)) ≡ in_list list (position_at xs q)
  listed_seen Active q = laws.active_owners q
  listed_seen Passive q = laws.passive_owners q

  never_out : (list : ListName) → in_list list Out ≡ 0
  never_out Active = refl
  never_out Passive = refl

  all_told : (list : ListName) → AllTold list t.machine.content xs (list_in list (view_of t))
  all_told Active = laws.active_told
  all_told Passive = laws.passive_told

  rests_outside : (q : ℕ) → is_outside (standing_of (view_of t) q) ≡ true → is_resting (position_at xs q) ≡ true
  rests_outside q out = by_stage_or_past t.stages q (is_resting (position_at xs q) ≡ true)
      (λ past. ap is_resting (past_last xs q Out (omega (arith, past, fits.as_many))))
      (λ inside. resting (stage_at t.stages q) (position_at xs q) (fits.stands q inside).goes (sym (outside_so (verdict (position_at xs q)) (stage_at t.stages q)) ∙ (ap is_outside (sym (seen.standing_seen t q)) ∙ out)))

  -- a party that isn't out is in the table
  in_table : (q : ℕ) → (position_at xs q ≡ Out → ⊥) → q < length (view_of t).standings
  in_table q some = by_stage_or_past t.stages q (q < length (view_of t).standings)
      (λ past. absurd (some (past_last xs q Out (omega (arith, past, fits.as_many)))))
      (λ inside. rw (length-standings (λ p. verdict (position_at xs p)) t.stages) inside)

  due : t.machine.content ≡ Empty → (q : ℕ) → 0 < owes (position_at xs q) → IsDue (view_of t) q
  due empty q some = by_stage_or_past t.stages q (IsDue (view_of t) q)
      (λ past. (let none : owes (position_at xs q) ≡ 0 = ap owes (past_last xs q Out (omega (arith, past, fits.as_many))) in absurd (omega (arith, some, none))))
      (λ inside. record {
        due = ap (λ z. is_due z (task_of (view_of t) q)) (seen.standing_seen t q) ∙ (ap (is_due (stands_as (verdict (position_at xs q)) (stage_at t.stages q))) (seen.task_seen t q)
            ∙ due_so (stage_at t.stages q) (position_at xs q) (fits.stands q inside).goes some (λ v e. empty_full t.machine.content v empty ((fits.stands q inside).value v e)));
        unlisted = laws.active_owners q ∙ owes_unlisted (position_at xs q) some;
      })

  told_or_due : t.machine.content ≡ Empty → (q : ℕ) → is_outside (standing_of (view_of t) q) ≡ true → 0 < entries_of q t.machine.active → (0 < marked_count t.machine.active) ⊎ ((z : ℕ) × IsDue (view_of t) z)
  told_or_due empty q out some = by_marked (marked_count t.machine.active) refl where
    waits_there : 0 < waits (position_at xs q)
    waits_there = omega (arith, some, laws.active_owners q, rest_waits (position_at xs q) (rests_outside q out))

    among : 0 < sum_by waits xs
    among = by_stage_or_past t.stages q (0 < sum_by waits xs)
        (λ past. (let none : waits (position_at xs q) ≡ 0 = ap waits (past_last xs q Out (omega (arith, past, fits.as_many))) in absurd (omega (arith, waits_there, none))))
        (λ inside. (let there : q < length xs = omega (arith, inside, fits.as_many) in omega (arith, waits_there, get_or-le-sum_by waits xs q Out there)))

    by_marked : (n : ℕ) → marked_count t.machine.active ≡ n → (0 < marked_count t.machine.active) ⊎ ((z : ℕ) × IsDue (view_of t) z)
    by_marked (suc n) e = inl (omega (arith, e))
    by_marked zero e =
        let owing : 0 < sum_by owes xs = omega (arith, e, laws.owed empty among) in
        let one = some_term owes xs owing in inr (one.0, due empty one.0 one.1)

  told : (v : ℕ) → t.machine.content ≡ Full v → ((q n : ℕ) → task_of (view_of t) q ≢ fills_with n) → (list : ListName) (q : ℕ) → is_outside (standing_of (view_of t) q) ≡ true → 0 < entries_of q (list_in list (view_of t)) → is_marked_at (is_party q) (list_in list (view_of t)) ≡ true
  told v full quiet list q out some =
      let none : (z : ℕ) → will_tell list (position_at xs z) ≡ false = λ z. tells_filled list (position_at xs z) (λ n e. quiet z n (seen.task_seen t z ∙ e)) in
      else_marked q (list_in list (view_of t)) some (λ u. rest_late list (position_at xs q) (rests_outside q out) (all_told list v full none q u))

  pub sound : IsSound (view_of t)
  sound = record {
    each = each_has t laws fits;
    maker = λ q h. by_stage_or_past_at t.stages q (may_be_maker (standing_of (view_of t) q) ≡ true)
        (λ past. ap may_be_maker (seen.standing_seen t q ∙ ap (stands_as (verdict (position_at xs q))) past))
        (λ inside. ap may_be_maker (seen.standing_seen t q) ∙ makes_so (stage_at t.stages q) (position_at xs q) (verdict (position_at xs q)) (fits.stands q inside).goes (laws.makers q ∙ h));
    maker_there = λ q h. in_table q (λ past. (let none : makes_at (position_at xs q) ≡ false = ap makes_at past in let one : makes_at (position_at xs q) ≡ true = laws.makers q ∙ h in cc (one, none)));
    listed_there = λ list q some. in_table q (λ past. (let none : in_list list (position_at xs q) ≡ 0 = ap (in_list list) past ∙ never_out list in let zero_entries : entries_of q (list_in list (view_of t)) ≡ 0 = listed_seen list q ∙ none in absurd (omega (arith, some, zero_entries))));
    inside_calls = λ q u d e. by_stage_or_past_at t.stages q (is_long_call u.kind u.was ≡ true)
        (λ past. (let h : stands_as (verdict (position_at xs q)) Forgotten ≡ inside u d = ap (stands_as (verdict (position_at xs q))) (sym past) ∙ (sym (seen.standing_seen t q) ∙ e) in absurd (cc (h))))
        (λ inside. long_at (stage_at t.stages q) (position_at xs q) (verdict (position_at xs q)) u d (fits.stands q inside).goes (sym (seen.standing_seen t q) ∙ e));
    told_or_due = told_or_due;
    one_teller = one;
    told = told;
    once = λ q. omega (arith, laws.active_owners q, laws.passive_owners q, one_listed (position_at xs q));
    active_in_order = laws.active_in_order;
    passive_in_order = laws.passive_in_order;
  }

  module _ (rests : is_at_rest (view_of t) ≡ true) where
    stages_rest : list_all is_outside_stage t.stages ≡ true
    stages_rest = sym (rest_seen (λ q. verdict (position_at xs q)) t.stages) ∙ rests

    positions_rest : IsAtRest xs
    positions_rest = all_at_rest is_resting Out xs (λ q j. resting (stage_at t.stages q) (position_at xs q) (fits.stands q (omega (arith, j, fits.as_many))).goes (outside_at t.stages stages_rest q))

    there : (q : ℕ) → (position_at xs q ≡ Out → ⊥) → IsStillThere (standing_of (view_of t) q)
    there q some = by_stage_or_past t.stages q (IsStillThere (standing_of (view_of t) q))
        (λ past. absurd (some (past_last xs q Out (omega (arith, past, fits.as_many)))))
        (λ inside. subst IsStillThere (sym (seen.standing_seen t q)) (still_there (stage_at t.stages q) (position_at xs q) (verdict (position_at xs q)) (fits.stands q inside).goes (outside_at t.stages stages_rest q) some))

    every_outside : (q : ℕ) → is_outside (standing_of (view_of t) q) ≡ true
    every_outside q = ap is_outside (seen.standing_seen t q) ∙ (outside_so (verdict (position_at xs q)) (stage_at t.stages q) ∙ outside_at t.stages stages_rest q)

    quiet : (q n : ℕ) → task_of (view_of t) q ≢ fills_with n
    quiet q n e = rest_filled (position_at xs q) n (rests_outside q (every_outside q)) (sym (seen.task_seen t q) ∙ e)

    pub awake : IsAwake (view_of t)
    awake = record {
      marked = λ h. laws.wakes positions_rest h.0 h.1;
      all_marked = λ v full list q some. told v full quiet list q (every_outside q) some;
      waiting = λ list q some. there q (λ out. (let none : in_list list (position_at xs q) ≡ 0 = ap (in_list list) out ∙ never_out list in let zero_entries : entries_of q (list_in list (view_of t)) ≡ 0 = listed_seen list q ∙ none in absurd (omega arith)));
      making = λ q made. there q (λ out. (let one : makes_at (position_at xs q) ≡ true = laws.makers q ∙ (ap (λ z. is_maker z q) made ∙ contents.is_its_maker q) in let none : makes_at (position_at xs q) ≡ false = ap makes_at out in absurd (cc (one, none))));
    }
