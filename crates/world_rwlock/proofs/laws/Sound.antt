-- What always holds of a read-write lock's World, and that no notification is lost at rest.
use Rattle.world_rwlock.proofs.Prelude.{◌≡◌, ℕ, ◌<◌, ◌≤◌, ◌⊎◌, inl, inr, Bool, true, false, List, [], ◌∷◌, length, zero, suc, Option, Some, None, refl, arith, ap, sym, ◌∙◌, subst, list_all, sum_by, sum_by-cons, IsMarkedFirst, entries_of, Rest, Stage, Outside, Inside, Forgotten, outside, forgotten, is_outside_stage, outside_so, Right, read, upgradable, write, wait_to_write, excludes, out as turn_out, counted, rests_in_turn, turn_at, is_counted, holder_of, Ending, Place, bit, reads, marks, has_turn, is_resting, RwLock, place_at, IsRwLock, IsAtRest, writers, marked, stage_at, goes_with, Table, ListName, for_the_turn, for_no_readers, for_no_writer, list_of, nobody, passes, is_upgradable, waits_to_write, World, standing_of, is_marked, entries_in, HasTurn, HasItsOwn, HasRight, IsSound, is_at_rest, IsAwake, Guarded, with_value, IsRwLockTable, verdict_of, Share, passing, upgrading, waiting, writing, turn_as, share_of, turn_by, is_reading, standing_at, view_of, rest_seen, outside_at, inside_or_past, marked_count, is_outside, is_decided, listed, is_due, waits_no_writer, owes_no_writer, waits_no_readers, owes_no_readers, readers, is_due_for_turn, is_due_to_readers, is_due_to_writer, IsDueForTurn, IsDueToReaders, IsDueToWriter, OwesIn, is_refused, is_to_read, is_for_turn, has_to_tell, sought_at}
use Rattle.world_mutex.specs.machine.Mutex as lock
use Rattle.world_mutex.proofs.of_machine.callers.Holders as sees
use Rattle.world_rwlock.proofs.step.Owed.{owes_outside, owes_seen}
use Rattle.world_rwlock.specs.machine.Roles as roles
use Rattle.world_rwlock.proofs.of_machine.laws.Places.{share as share_in}
use Rattle.world_rwlock.proofs.of_machine.laws.Laws.{rests_t}
use Rattle.world_rwlock.specs.State as state
use Rattle.world_rwlock.specs.State.{Turn, writes}
use Rattle.world_rwlock.specs.Lending.{world_with}
use Rattle.world_base.specs.table.Lending.{table_with}
use Rattle.world_rwlock.specs.Stays.{future_rests, guard_rests}
use Rattle.world_rwlock.proofs.table.Begun.{at_out}
use Rattle.world_base.proofs.of_table.Lending.{lent_seen}
use Rattle.world_base.proofs.of_table.Resting.{all_at_rest}
use Rattle.world_rwlock.proofs.table.Views as view
use Rattle.world_rwlock.proofs.table.Views.{Fits}
use Rattle.world_rwlock.proofs.step.Owns as owns
use Rattle.world_rwlock.proofs.rights.Inside as calls
use Rattle.world_base.proofs.Owing.{marked_or_owed}
use Rattle.world_base.proofs.of_table.Acting as acting
use Rattle.world_rwlock.proofs.laws.Due as due

-- ---- rights

-- a party with the turn for a right, and what its place says then
upgrades_there : (x : Place) → share_of x ≡ upgrading → is_reading x ≡ true
upgrades_there Place.Upgradable e = refl
upgrades_there Place.TryUpgrade e = refl
upgrades_there Place.Upgrade e = refl
upgrades_there Place.DropUpgradable e = refl
upgrades_there (Place.ReleaseTurn Ending.Reading) e = refl
upgrades_there Place.DownNotify e = refl
upgrades_there _ e = absurd (cc)

writes_there : (x : Place) → share_of x ≡ writing → roles.writes x ≡ 1
writes_there Place.Writing e = refl
writes_there Place.LeaveNoReaders e = refl
writes_there Place.DropWrite e = refl
writes_there (Place.Down keeps) e = refl
writes_there (Place.ReleaseTurn Ending.Reading) e = absurd (cc)
writes_there _ e = absurd (cc)

pub marks_there : (x : Place) → (share_of x ≡ waiting) ⊎ (share_of x ≡ writing) → marks x ≡ 1
marks_there x (inl e) = waits_mark x e where
  waits_mark : (x : Place) → share_of x ≡ waiting → marks x ≡ 1
  waits_mark (Place.JoinNoReaders u) e = refl
  waits_mark (Place.LookNoReaders u) e = refl
  waits_mark (Place.AskNoReaders u) e = refl
  waits_mark (Place.AwaitNoReaders u) e = refl
  waits_mark (Place.LookUnlisted u) e = refl
  waits_mark Place.CancelAwait e = refl
  waits_mark (Place.Unmark r) e = refl
  waits_mark (Place.ReleaseTurn Ending.Reading) e = absurd (cc)
  waits_mark _ e = absurd (cc)
marks_there x (inr e) = writes_mark x e where
  writes_mark : (x : Place) → share_of x ≡ writing → marks x ≡ 1
  writes_mark Place.Writing e = refl
  writes_mark Place.LeaveNoReaders e = refl
  writes_mark Place.DropWrite e = refl
  writes_mark (Place.Down keeps) e = refl
  writes_mark (Place.ReleaseTurn Ending.Reading) e = absurd (cc)
  writes_mark _ e = absurd (cc)

as_up : (q p : ℕ) (s : Share) → turn_as q s ≡ is_upgradable p → (q ≡ p) × (s ≡ upgrading)
as_up q p passing e = absurd (cc)
as_up q p upgrading e = (cc, refl)
as_up q p waiting e = absurd (cc)
as_up q p writing e = absurd (cc)

as_writes : (q p : ℕ) (s : Share) → turn_as q s ≡ writes p → (q ≡ p) × (s ≡ writing)
as_writes q p passing e = absurd (cc)
as_writes q p upgrading e = absurd (cc)
as_writes q p waiting e = absurd (cc)
as_writes q p writing e = (cc, refl)

up_at : (h : Option ℕ) (xs : List Place) (p : ℕ) → turn_by h xs ≡ is_upgradable p → share_of (place_at xs p) ≡ upgrading
up_at None xs p e = absurd (cc)
up_at (Some q) xs p e = let b = as_up q p (share_of (place_at xs q)) e in subst (λ (j : ℕ). share_of (place_at xs j) ≡ upgrading) b.0 b.1

writes_at : (h : Option ℕ) (xs : List Place) (p : ℕ) → turn_by h xs ≡ writes p → share_of (place_at xs p) ≡ writing
writes_at None xs p e = absurd (cc)
writes_at (Some q) xs p e = let b = as_writes q p (share_of (place_at xs q)) e in subst (λ (j : ℕ). share_of (place_at xs j) ≡ writing) b.0 b.1

-- whoever has the turn has it alone
same_turn : (t : Turn) (p q : ℕ) → HasTurn t p → HasTurn t q → p ≡ q
same_turn nobody p q h k = absurd h
same_turn (passes r) p q h k = sym h ∙ k
same_turn (is_upgradable r) p q h k = sym h ∙ k
same_turn (waits_to_write r) p q h k = sym h ∙ k
same_turn (writes r) p q h k = sym h ∙ k

up_has : (t : Turn) (p : ℕ) → t ≡ is_upgradable p → HasTurn t p
up_has t p e = rw e refl

waits_has : (t : Turn) (p : ℕ) → t ≡ waits_to_write p → HasTurn t p
waits_has t p e = rw e refl

writes_has : (t : Turn) (p : ℕ) → t ≡ writes p → HasTurn t p
writes_has t p e = rw e refl

-- a reader beside a writer there is none
excluded : (w : World) → ((p q : ℕ) → w.state.turn ≡ writes p → state.reads w q ≡ true → ⊥) → (p q : ℕ) (r s : Right) → HasRight w p r → HasRight w q s → excludes r s ≡ true → p ≡ q
excluded w alone p q write read a b e = absurd (alone p q a b)
excluded w alone p q read write a b e = absurd (alone q p b a)
excluded w alone p q write write a b e = same_turn w.state.turn p q (writes_has w.state.turn p a) (writes_has w.state.turn q b)
excluded w alone p q write upgradable a b e = same_turn w.state.turn p q (writes_has w.state.turn p a) (up_has w.state.turn q b)
excluded w alone p q upgradable write a b e = same_turn w.state.turn p q (up_has w.state.turn p a) (writes_has w.state.turn q b)
excluded w alone p q upgradable upgradable a b e = same_turn w.state.turn p q (up_has w.state.turn p a) (up_has w.state.turn q b)
excluded w alone p q upgradable wait_to_write a b e = same_turn w.state.turn p q (up_has w.state.turn p a) (waits_has w.state.turn q b)
excluded w alone p q wait_to_write upgradable a b e = same_turn w.state.turn p q (waits_has w.state.turn p a) (up_has w.state.turn q b)
excluded w alone p q wait_to_write wait_to_write a b e = same_turn w.state.turn p q (waits_has w.state.turn p a) (waits_has w.state.turn q b)
excluded w alone p q wait_to_write write a b e = same_turn w.state.turn p q (waits_has w.state.turn p a) (writes_has w.state.turn q b)
excluded w alone p q write wait_to_write a b e = same_turn w.state.turn p q (writes_has w.state.turn p a) (waits_has w.state.turn q b)
excluded w alone p q read read a b e = absurd (cc)
excluded w alone p q read upgradable a b e = absurd (cc)
excluded w alone p q read wait_to_write a b e = absurd (cc)
excluded w alone p q upgradable read a b e = absurd (cc)
excluded w alone p q wait_to_write read a b e = absurd (cc)
excluded w alone p q read _ a b e = absurd b
excluded w alone p q write _ a b e = absurd b
excluded w alone p q upgradable _ a b e = absurd b
excluded w alone p q wait_to_write _ a b e = absurd b
excluded w alone p q _ s a b e = absurd a

true_one : (b : Bool) (n : ℕ) → bit b ≡ n → b ≡ true → n ≡ 1
true_one b n e h = sym e ∙ ap bit h

past_out : (xs : List Place) (p : ℕ) → (p < length xs) ⊎ (place_at xs p ≡ Place.Out)
past_out [] p = inr refl
past_out (x ∷ xs) zero = inl (omega arith)
past_out (x ∷ xs) (suc p) = elim (past_out xs p) as (λ _. (suc p < length (x ∷ xs)) ⊎ (place_at xs p ≡ Place.Out)) [ inl h ↦ inl (omega arith) | inr h ↦ inr h ]

-- nobody waits to write or writes where nobody is seen to
marks_bit : (x : Place) → marks x ≤ 1
marks_bit Place.Writing = omega arith
marks_bit _ = omega arith

first_or_more : (x : Place) (xs : List Place) (n : ℕ) → marks x ≡ n → 0 < sum_by marks (x ∷ xs) → (0 < sum_by marks xs → (p : ℕ) × (marks (place_at xs p) ≡ 1)) → (p : ℕ) × (marks (place_at (x ∷ xs) p) ≡ 1)
first_or_more x xs zero e h more = let it = more (omega (arith, sum_by-cons marks x xs, e, h)) in (suc it.0, it.1)
first_or_more x xs (suc n) e h more = (0, omega (arith, marks_bit x, e))

marking_place : (xs : List Place) → (0 < sum_by marks xs) → (p : ℕ) × (marks (place_at xs p) ≡ 1)
marking_place [] h = absurd (omega arith)
marking_place (x ∷ xs) h = first_or_more x xs (marks x) refl h (marking_place xs)

marks_share : (x : Place) → marks x ≡ 1 → (share_of x ≡ waiting) ⊎ (share_of x ≡ writing)
marks_share (Place.JoinNoReaders u) e = inl refl
marks_share (Place.LookNoReaders u) e = inl refl
marks_share (Place.AskNoReaders u) e = inl refl
marks_share (Place.AwaitNoReaders u) e = inl refl
marks_share (Place.LookUnlisted u) e = inl refl
marks_share Place.CancelAwait e = inl refl
marks_share (Place.Unmark r) e = inl refl
marks_share Place.Writing e = inr refl
marks_share Place.LeaveNoReaders e = inr refl
marks_share Place.DropWrite e = inr refl
marks_share (Place.Down keeps) e = inr refl
marks_share _ e = absurd (omega arith)

marked_as : (p : ℕ) (s : Share) → (s ≡ waiting) ⊎ (s ≡ writing) → is_marked (turn_as p s) ≡ true
marked_as p s (inl e) = rw e refl
marked_as p s (inr e) = rw e refl

as_marked : (p : ℕ) (s : Share) → is_marked (turn_as p s) ≡ true → (s ≡ waiting) ⊎ (s ≡ writing)
as_marked p passing e = absurd (cc)
as_marked p upgrading e = absurd (cc)
as_marked p waiting e = inl refl
as_marked p writing e = inr refl

has_marks : (x : Place) → marks x ≡ 1 → has_turn x ≡ 1
has_marks (Place.JoinNoReaders u) e = refl
has_marks (Place.LookNoReaders u) e = refl
has_marks (Place.AskNoReaders u) e = refl
has_marks (Place.AwaitNoReaders u) e = refl
has_marks (Place.LookUnlisted u) e = refl
has_marks Place.CancelAwait e = refl
has_marks (Place.Unmark r) e = refl
has_marks Place.Writing e = refl
has_marks Place.LeaveNoReaders e = refl
has_marks Place.DropWrite e = refl
has_marks (Place.Down keeps) e = refl
has_marks _ e = absurd (omega arith)

zero_or : (n : ℕ) → (n ≡ 0) ⊎ (0 < n)
zero_or zero = inl refl
zero_or (suc n) = inr (omega arith)

-- the bit is set exactly where a party is seen to wait to write, or to write
pub bit_seen : (l : RwLock) (ss : List Stage) (opening v : ℕ) (laws : IsRwLock l) (fits : Fits l ss v) → is_marked (turn_by (holder_of l.turn) l.places) ≡ false → marked l ≡ 0
bit_seen l ss opening v laws fits none = elim (zero_or (marked l)) as (λ _. marked l ≡ 0) [
  | inl e ↦ e
  | inr some ↦ (let m = marking_place l.places some in
      let turn = owns.turn_is l ss opening v laws fits m.0 (has_marks (place_at l.places m.0) m.1) in
      let set : is_marked (turn_by (holder_of l.turn) l.places) ≡ true = ap is_marked turn ∙ marked_as m.0 (share_of (place_at l.places m.0)) (marks_share (place_at l.places m.0) m.1) in
      absurd (cc))
]

unmarked_by : (h : Option ℕ) (xs : List Place) → sum_by marks xs ≡ 0 → is_marked (turn_by h xs) ≡ false
unmarked_by None xs e = refl
unmarked_by (Some p) xs e = by_test (is_marked (turn_as p (share_of (place_at xs p)))) refl where
  by_test : (b : Bool) → is_marked (turn_as p (share_of (place_at xs p))) ≡ b → is_marked (turn_as p (share_of (place_at xs p))) ≡ false
  by_test false h = h
  by_test true h = let one = marks_there (place_at xs p) (as_marked p (share_of (place_at xs p)) h) in absurd (omega (arith, one, e, share_in marks refl xs p))

pub none_marked : (l : RwLock) → marked l ≡ 0 → is_marked (turn_by (holder_of l.turn) l.places) ≡ false
none_marked l e = unmarked_by (holder_of l.turn) l.places e

pub nobody_holds : (h : Option ℕ) (xs : List Place) → turn_by h xs ≡ nobody → h ≡ None
nobody_holds None xs e = refl
nobody_holds (Some p) xs e = absurd (by_share (share_of (place_at xs p)) e) where
  by_share : (s : Share) → turn_as p s ≡ nobody → ⊥
  by_share passing e = cc
  by_share upgrading e = cc
  by_share waiting e = cc
  by_share writing e = cc

-- a party that is outside every call rests
pub rests : (s : Stage) (x : Place) → goes_with s x ≡ true → is_outside_stage s ≡ true → is_resting x ≡ true
rests (Outside Rest.Idle) x g o = at_out (λ x. is_resting x ≡ true) refl x g
rests (Outside Rest.Pending) x g o = future_rests x g
rests (Outside Rest.Holding) x g o = guard_rests x g
rests (Outside Rest.Finished) x g o = absurd (cc)
rests (Inside u) x g o = absurd (cc)
rests Forgotten x g o = g

module _ (t : Table Guarded) (laws : IsRwLock t.machine.lock) (fits : IsRwLockTable t) where
  abbrev w : World
  w = view_of t

  alone : (p q : ℕ) → w.state.turn ≡ writes p → state.reads w q ≡ true → ⊥
  alone p q a b =
      let there = writes_there (place_at t.machine.lock.places p) (writes_at (holder_of t.machine.lock.turn) t.machine.lock.places p a) in
      let none : reads (place_at t.machine.lock.places q) ≡ 0 = laws.writes_apart p q there in
      let one : reads (place_at t.machine.lock.places q) ≡ 1 = true_one (is_reading (place_at t.machine.lock.places q)) (reads (place_at t.machine.lock.places q)) (view.reading_bit (place_at t.machine.lock.places q)) (sym (view.reads_at t.machine.lock.places q) ∙ b) in
      omega arith

  abbrev l : RwLock
  l = t.machine.lock

  stood : (q : ℕ) → standing_of w q ≡ standing_at t.machine.value (stage_at t.stages q) (place_at l.places q) (turn_at l.turn.courses q)
  stood q = acting.stood verdict_of t q

  in_table : (q : ℕ) → (place_at l.places q ≡ Place.Out → ⊥) → q < length l.places
  in_table q some = elim (past_out l.places q) as (λ _. q < length l.places) [ inl h ↦ h | inr e ↦ absurd (some e) ]

  rests_there : (q : ℕ) → is_outside_stage (stage_at t.stages q) ≡ true → is_resting (place_at l.places q) ≡ true
  rests_there q out = elim (past_out l.places q) as (λ _. is_resting (place_at l.places q) ≡ true) [
    | inl h ↦ rests (stage_at t.stages q) (place_at l.places q) (fits.stands q (omega (arith, fits.as_many, h))) out
    | inr e ↦ rw e refl
  ]

  pub rests_outside : (q : ℕ) → is_outside (standing_of w q) ≡ true → is_resting (place_at l.places q) ≡ true
  rests_outside q out = rests_there q (sym (outside_so (verdict_of t.machine q) (stage_at t.stages q)) ∙ (sym (ap is_outside (stood q)) ∙ out))

  owes_there : (list : ListName) (polls : Option Right → Bool) (q : ℕ) → due.Owing list t.machine.value (stage_at t.stages q) (place_at l.places q) (turn_at l.turn.courses q) (polls (sought_at (place_at l.places q))) → OwesIn list w q (polls (state.sought_by w q))
  owes_there list polls q have = λ d. elim (have (sym (ap is_decided (stood q)) ∙ d)) as (λ _. (has_to_tell list w q ≡ true) ⊎ ((is_refused (standing_of w q) ≡ true) × (polls (state.sought_by w q) ≡ true))) [
    | inl o ↦ inl (owes_seen t list q ∙ o)
    | inr r ↦ inr (ap is_refused (stood q) ∙ r.0, ap polls (view.seeks_at l.places q) ∙ r.1)
  ]

  due_turn : (q : ℕ) → is_due (turn_at l.turn.courses q) ≡ true → IsDueForTurn w q
  due_turn q h = record {
    due = ap (λ z. is_due_for_turn z (state.sought_by w q)) (stood q) ∙ (ap (is_due_for_turn (standing_at t.machine.value (stage_at t.stages q) (place_at l.places q) (turn_at l.turn.courses q))) (view.seeks_at l.places q)
        ∙ due.due_at t.machine.value (stage_at t.stages q) (place_at l.places q) (turn_at l.turn.courses q) (rests_there q) (laws.in_turn q) h);
    owes = owes_there for_the_turn is_for_turn q (due.owes_for_turn t.machine.value (stage_at t.stages q) (place_at l.places q) (turn_at l.turn.courses q) (rests_there q) (laws.in_turn q) h);
    unlisted = λ why. laws.turn.owners q ∙ elim why as (λ _. listed (turn_at l.turn.courses q) ≡ 0) [
      | inl fresh ↦ due.due_unstarved (turn_at l.turn.courses q) h (sym (sees.counted_bit (turn_at l.turn.courses q)) ∙ ap bit (sym (sees.starved_at l.turn.courses q) ∙ fresh))
      | inr d ↦ due.decided_unlisted t.machine.value (stage_at t.stages q) (place_at l.places q) (turn_at l.turn.courses q) (laws.in_turn q) h (sym (ap is_decided (stood q)) ∙ d)
    ];
  }

  turn_due : w.state.turn ≡ nobody → (q : ℕ) → is_outside (standing_of w q) ≡ true → 0 < entries_of q l.turn.entries → (0 < marked_count l.turn.entries) ⊎ ((z : ℕ) × IsDueForTurn w z)
  turn_due free q out some =
      let waits = due.rest_waits_turn (place_at l.places q) (turn_at l.turn.courses q) (rests_outside q out) (laws.in_turn q) (omega (arith, some, laws.turn.owners q)) in
      elim (laws.turn.told_or_due (sees.none_holds 0 l.turn.courses (nobody_holds (holder_of l.turn) l.places free)) q waits) [ inl marked ↦ inl marked | inr one ↦ inr (one.0, due_turn one.0 one.1) ]

  reading_due : is_marked w.state.turn ≡ false → (q : ℕ) → is_outside (standing_of w q) ≡ true → 0 < entries_of q l.no_writer → (0 < marked_count l.no_writer) ⊎ ((z : ℕ) × IsDueToReaders w z)
  reading_due free q out some =
      let waits : 0 < waits_no_writer (place_at l.places q) = omega (arith, some, laws.owners_no_writer q, due.rest_waits_writer (place_at l.places q) (rests_outside q out)) in
      let there : q < length l.places = in_table q (λ e. (let none : waits_no_writer (place_at l.places q) ≡ 0 = ap waits_no_writer e in absurd (omega (arith, waits, none)))) in
      elim (marked_or_owed Place.Out (marked l ≡ 0) waits_no_writer owes_no_writer l.places (marked_count l.no_writer) q laws.owed_no_writer (bit_seen l t.stages t.opening t.machine.value laws fits free) there waits) [
        | inl marked ↦ inl marked
        | inr one ↦ inr (
          one.0,
          record {
            due = ap (λ z. is_due_to_readers z (state.sought_by w one.0)) (stood one.0) ∙ (ap (is_due_to_readers (standing_at t.machine.value (stage_at t.stages one.0) (place_at l.places one.0) (turn_at l.turn.courses one.0))) (view.seeks_at l.places one.0)
                ∙ due.due_to_readers t.machine.value (stage_at t.stages one.0) (place_at l.places one.0) (turn_at l.turn.courses one.0) (rests_there one.0) one.2);
            owes = owes_there for_no_writer is_to_read one.0 (due.owes_to_readers t.machine.value (stage_at t.stages one.0) (place_at l.places one.0) (turn_at l.turn.courses one.0) (rests_there one.0) one.2);
            unlisted = laws.owners_no_writer one.0 ∙ due.unlisted_to_readers (place_at l.places one.0) one.2;
          },
        )
      ]

  writing_due : state.how_many_read w ≡ 0 → (q : ℕ) → is_outside (standing_of w q) ≡ true → 0 < entries_of q l.no_readers → (0 < marked_count l.no_readers) ⊎ ((z : ℕ) × IsDueToWriter w z)
  writing_due free q out some =
      let waits : 0 < waits_no_readers (place_at l.places q) = omega (arith, some, laws.owners_no_readers q, due.rest_waits_readers (place_at l.places q) (rests_outside q out)) in
      let there : q < length l.places = in_table q (λ e. (let none : waits_no_readers (place_at l.places q) ≡ 0 = ap waits_no_readers e in absurd (omega (arith, waits, none)))) in
      elim (marked_or_owed Place.Out (readers l ≡ 0) waits_no_readers owes_no_readers l.places (marked_count l.no_readers) q laws.owed_no_readers (sym (view.how_many-read l.places) ∙ free) there waits) [
        | inl marked ↦ inl marked
        | inr one ↦ inr (
          one.0,
          record {
            due = ap is_due_to_writer (stood one.0) ∙ due.due_to_writer t.machine.value (stage_at t.stages one.0) (place_at l.places one.0) (turn_at l.turn.courses one.0) (fits.stands one.0 (omega (arith, one.1, fits.as_many))) (rests_there one.0) one.2;
            owes = owes_seen t for_no_readers one.0 ∙ due.owes_to_writer (place_at l.places one.0) one.2;
            unlisted = laws.owners_no_readers one.0 ∙ due.unlisted_to_writer (place_at l.places one.0) one.2;
          },
        )
      ]

  pub sound : IsSound w
  sound = record {
    exclusion = excluded w alone;
    upgradable_reads = λ p e. view.reads_at t.machine.lock.places p ∙ upgrades_there (place_at t.machine.lock.places p) (up_at (holder_of t.machine.lock.turn) t.machine.lock.places p e);
    none_while_writing = λ p e.
        let there = writes_there (place_at t.machine.lock.places p) (writes_at (holder_of t.machine.lock.turn) t.machine.lock.places p e) in
        let some : 0 < writers t.machine.lock = omega (arith, share_in roles.writes refl t.machine.lock.places p, there) in
        view.how_many-read t.machine.lock.places ∙ laws.alone some;
    each = owns.each t.machine.lock t.stages t.opening t.machine.value laws fits;
    inside_calls = calls.inside_calls t.machine.lock t.stages t.opening t.machine.value fits;
    drops_seek_nothing = calls.drops_seek_nothing t.machine.lock t.stages t.opening t.machine.value fits;
    told_before = λ list p h. owes_outside t list p (record { lock = laws; fits = fits }) h;
    as_many_seek = calls.as_many_seek t.machine.lock t.stages t.opening t.machine.value fits;
    few_starved = rw (sees.how_many_counted) laws.turn.few_starved;
    turn_told_or_due = turn_due;
    reading_told_or_due = reading_due;
    writing_told_or_due = writing_due;
    once = λ p. omega (arith, laws.one_entry p);
    in_order = by_list;
    one_told = each_told;
  } where
    by_list : (list : ListName) → IsMarkedFirst (list_of w list)
    by_list for_the_turn = laws.turn.in_order
    by_list for_no_readers = laws.in_order_no_readers
    by_list for_no_writer = laws.in_order_no_writer

    each_told : (list : ListName) → marked_count (list_of (view_of t) list) ≤ 1
    each_told for_the_turn = laws.turn.one_told
    each_told for_no_readers = laws.one_told_no_readers
    each_told for_no_writer = laws.one_told_no_writer

-- ---- at rest

pub all_rest : (l : RwLock) (ss : List Stage) (v : ℕ) → Fits l ss v → list_all is_outside_stage ss ≡ true → IsAtRest l
all_rest l ss v fits resting p = elim (past_out l.places p) as (λ _. is_resting (place_at l.places p) ≡ true) [
  | inl h ↦ (let known : p < length ss = omega (arith, fits.as_many, h) in rests (stage_at ss p) (place_at l.places p) (fits.stands p known) (outside_at ss resting p))
  | inr e ↦ rw e refl
]

module _ (t : Table Guarded) (laws : IsRwLock t.machine.lock) (fits : IsRwLockTable t) where
  abbrev seen_as : World
  seen_as = view_of t

  -- a listed party that is outside every call is pending, or was
  pends : (p : ℕ) (s : Stage) → standing_of seen_as p ≡ standing_at t.machine.value s (place_at t.machine.lock.places p) (turn_at t.machine.lock.turn.courses p) → is_outside_stage s ≡ true → 0 < entries_in seen_as p → HasItsOwn seen_as p (standing_of seen_as p)
      → (standing_of seen_as p ≡ outside Rest.Pending) ⊎ (standing_of seen_as p ≡ forgotten)
  pends p (Outside Rest.Idle) e o some own = let k : HasItsOwn seen_as p (outside Rest.Idle) = rw e at own in absurd (omega (arith, k.0.0, some))
  pends p (Outside Rest.Pending) e o some own = inl e
  pends p (Outside Rest.Holding) e o some own = let k : HasItsOwn seen_as p (outside Rest.Holding) = rw e at own in absurd (omega (arith, k.0.0, some))
  pends p (Outside Rest.Finished) e o some own = let k : HasItsOwn seen_as p (outside Rest.Finished) = rw e at own in absurd (omega (arith, k.0.0, some))
  pends p (Inside u) e o some own = absurd (cc)
  pends p Forgotten e o some own = inr e

  pub awake : is_at_rest seen_as ≡ true → IsAwake seen_as
  awake resting =
      let out : list_all is_outside_stage t.stages ≡ true = sym (rest_seen (verdict_of t.machine) t.stages) ∙ resting in
      let quiet : IsAtRest t.machine.lock = all_rest t.machine.lock t.stages t.machine.value fits out in
      let stood = owns.stood t.machine.lock t.stages t.opening t.machine.value laws fits in
      let each = owns.each t.machine.lock t.stages t.opening t.machine.value laws fits in
      record {
        turn_marked = λ free. laws.wakes_turn quiet (sees.none_holds 0 t.machine.lock.turn.courses (nobody_holds (holder_of t.machine.lock.turn) t.machine.lock.places free.0)) free.1;
        reading_marked = λ free. laws.wakes_no_writer quiet (bit_seen t.machine.lock t.stages t.opening t.machine.value laws fits free.0) free.1;
        writing_marked = λ free. laws.wakes_no_readers quiet (sym (view.how_many-read t.machine.lock.places) ∙ free.0) free.1;
        pending = λ p some. elim (inside_or_past t.stages p) as (λ _. (standing_of seen_as p ≡ outside Rest.Pending) ⊎ (standing_of seen_as p ≡ forgotten)) [
          | inl known ↦ pends p (stage_at t.stages p) (stood p) (outside_at t.stages out p) some (each p)
          | inr past ↦ inr (stood p ∙ ap (λ s. standing_at t.machine.value s (place_at t.machine.lock.places p) (turn_at t.machine.lock.turn.courses p)) past.1)
        ];
        starved = λ p counts.
            let ts = t.machine.lock.turn.courses in
            let one : counted (turn_at ts p) ≡ 1 = true_one (is_counted (turn_at ts p)) (counted (turn_at ts p)) (sees.counted_bit (turn_at ts p)) (sym (sees.starved_at ts p) ∙ counts) in
            let listed_once : entries_of p t.machine.lock.turn.entries ≡ 1 = laws.turn.starved_listed (all_at_rest rests_in_turn turn_out ts (λ q i. rests_t (place_at t.machine.lock.places q) (turn_at ts q) (quiet q) (laws.in_turn q))) p one in
            omega (arith, listed_once);
      }

-- ---- a value put at rest

-- a table whose value was put is seen as the World in which it was
pub put_seen : (t : Table Guarded) (v : ℕ) → list_all is_outside_stage t.stages ≡ true → view_of (table_with with_value t v) ≡ world_with (view_of t) v
put_seen t v resting = let all = lent_seen (verdict_of t.machine) (verdict_of (with_value t.machine v)) t.stages resting in cc

-- ---- the words

bit_is : (b c : Bool) → (c ≡ false → bit b ≡ 0) → (bit b ≡ 0 → c ≡ false) → b ≡ c
bit_is true true h k = refl
bit_is false false h k = refl
bit_is true false h k = absurd (omega (arith, h refl))
bit_is false true h k = sym (k refl)

-- the writer's bit
pub marked_seen : (l : RwLock) (ss : List Stage) (opening v : ℕ) (laws : IsRwLock l) (fits : Fits l ss v) (b : Bool) → bit b ≡ marked l → b ≡ is_marked (turn_by (holder_of l.turn) l.places)
marked_seen l ss opening v laws fits b e = bit_is b (is_marked (turn_by (holder_of l.turn) l.places)) (λ n. e ∙ bit_seen l ss opening v laws fits n) (λ n. none_marked l (sym e ∙ n))

nobody_test : (h : Option ℕ) (xs : List Place) → state.is_nobody (turn_by h xs) ≡ Rattle.std.specs.Prelude.is_none h
nobody_test None xs = refl
nobody_test (Some p) xs = by_share (share_of (place_at xs p)) where
  by_share : (s : Share) → state.is_nobody (turn_as p s) ≡ false
  by_share passing = refl
  by_share upgrading = refl
  by_share waiting = refl
  by_share writing = refl

none_test : (h : Option ℕ) → Rattle.std.specs.Prelude.not (Rattle.std.specs.Prelude.is_some h) ≡ Rattle.std.specs.Prelude.is_none h
none_test None = refl
none_test (Some p) = refl

-- the turn's word
pub held_seen : (l : RwLock) (b : Bool) → bit b ≡ lock.holders l.turn → Rattle.std.specs.Prelude.not b ≡ state.is_nobody (turn_by (holder_of l.turn) l.places)
held_seen l b e = ap Rattle.std.specs.Prelude.not (sees.held_seen b l.turn.courses e) ∙ (none_test (holder_of l.turn) ∙ sym (nobody_test (holder_of l.turn) l.places))
