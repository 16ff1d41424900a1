-- What each party has, by how it stands.
use Rattle.world_rwlock.proofs.Prelude.{◌≡◌, ◌≢◌, ℕ, ◌≤◌, ◌⊎◌, inl, inr, Bool, true, false, List, Option, Some, None, refl, arith, ap, sym, subst, ◌∙◌, and_parts, Answer, Refusal, Kind, Rest, Stage, Outside, Inside, Forgotten, Within, Right, read, upgradable, write, inside, End as TurnEnd, TurnCourse, decision, is_out, is_holding, holds, listed, turn_at, is_holder, is_counted, holder_of, out_unlisted, holding_unlisted, out_free, out_unstarved, holding_unstarved, waiting_free, Ending, Place, has_turn, in_no_writer, in_no_readers, fits_turn, RwLock, place_at, IsRwLock, is_upgradable, waits_to_write, World, standing_of, sought_by, is_upgrader, HasTurn, IsClear, HasSought, HasNothing, HasItsOwn, stage_at, Course, drops, downgrades, course_of, course_until, is_on_course, sought_at, is_inside, goes_with, verdict_of, Share, passing, upgrading, waiting, writing, turn_as, share_of, turn_by, is_reading, is_upgrade, verdict, verdict_until, refused_by, standing_at, seen, standings_at, inside_or_past, nat_tests}
use Rattle.world_mutex.specs.machine.Course.{counted, is_waiting}
use Rattle.world_mutex.proofs.of_machine.callers.Holders as sees
use Rattle.world_rwlock.specs.State as state
use Rattle.world_rwlock.specs.State.{Turn, writes}
use Rattle.world_rwlock.specs.Stages as plans
use Rattle.world_rwlock.proofs.table.Begun.{at_out, at_future, at_guard}
use Rattle.world_rwlock.proofs.table.Views as view
use Rattle.world_rwlock.proofs.table.Views.{Fits}
use Rattle.world_mutex.specs.machine.Course as course

-- ---- the turn

share_has : (q p : ℕ) (s : Share) → HasTurn (turn_as q s) p → q ≡ p
share_has q p passing h = h
share_has q p upgrading h = h
share_has q p waiting h = h
share_has q p writing h = h

pub holder_has : (h : Option ℕ) (xs : List Place) (p : ℕ) → HasTurn (turn_by h xs) p → h ≡ Some p
holder_has None xs p k = absurd k
holder_has (Some q) xs p k = ap Some (share_has q p (share_of (place_at xs q)) k)

-- a party that is seen to have the turn for something
pub has_as : (t : Turn) (p : ℕ) (s : Share) → t ≡ turn_as p s → HasTurn t p
has_as t p passing e = rw e refl
has_as t p upgrading e = rw e refl
has_as t p waiting e = rw e refl
has_as t p writing e = rw e refl

holds_one : (b : Bool) (n : ℕ) → Rattle.world_mutex.specs.machine.Course.bit b ≡ n → 1 ≤ n → n ≡ 1
holds_one true n e h = sym e
holds_one false n e h = absurd (omega (arith, e, h))

apart_up : (t : Turn) (p : ℕ) (s : Share) → t ≡ turn_as p s → (s ≡ upgrading → ⊥) → t ≢ is_upgradable p
apart_up t p passing e n h = cc
apart_up t p upgrading e n h = n refl
apart_up t p waiting e n h = cc
apart_up t p writing e n h = cc

apart_write : (t : Turn) (p : ℕ) (s : Share) → t ≡ turn_as p s → (s ≡ writing → ⊥) → t ≢ writes p
apart_write t p passing e n h = cc
apart_write t p upgrading e n h = cc
apart_write t p waiting e n h = cc
apart_write t p writing e n h = n refl

waits_as : (t : Turn) (p : ℕ) (s : Share) → t ≡ turn_as p s → t ≡ waits_to_write p → s ≡ waiting
waits_as t p passing e h = absurd (cc)
waits_as t p upgrading e h = absurd (cc)
waits_as t p waiting e h = refl
waits_as t p writing e h = absurd (cc)

-- ---- whoever gives back isn't starved, unless it stands in the turn's list

is_plain : (t : TurnCourse) → counted t ≡ 0 → is_counted t ≡ false
is_plain t h = grind (arith, nat_tests)

waiting_one : (t : TurnCourse) → is_waiting t ≡ true → listed t ≡ 0 → ⊥
waiting_one (course.waiting b) h n = omega (arith, n)
waiting_one _ h n = cc h

cancelling_one : (t : TurnCourse) → course.is_cancelling t ≡ true → listed t ≡ 0 → ⊥
cancelling_one (course.cancelling b) h n = omega (arith, n)
cancelling_one _ h n = cc h

holding_plain : (t : TurnCourse) → is_holding t ≡ true → counted t ≡ 0
holding_plain course.holding h = refl
holding_plain _ h = absurd (cc h)

releasing_plain : (t : TurnCourse) → course.is_releasing t ≡ true → counted t ≡ 0
releasing_plain course.releasing h = refl
releasing_plain _ h = absurd (cc h)

out_plain : (t : TurnCourse) → is_out t ≡ true → counted t ≡ 0
out_plain course.out h = refl
out_plain _ h = absurd (cc h)

refused_not_given : (o : Option TurnEnd) → refused_by o ≡ Some Answer.GivenBack → ⊥
refused_not_given None e = cc e
refused_not_given (Some (TurnEnd.Refused r)) e = cc e
refused_not_given (Some _) e = cc e

given_back_plain : (v : ℕ) (x : Place) (t : TurnCourse) → fits_turn x t ≡ true → verdict v x t ≡ Some Answer.GivenBack → listed t ≡ 0 → counted t ≡ 0
given_back_plain v (Place.WaitTurn q) t h e n = absurd (waiting_one t h n)
given_back_plain v (Place.TakeTurn q) t h e n = absurd (refused_not_given (decision t) e)
given_back_plain v Place.CancelTurn t h e n = absurd (waiting_one t h n)
given_back_plain v Place.CancellingTurn t h e n = absurd (cancelling_one t h n)
given_back_plain v (Place.ReleasingTurn e') t h e n = releasing_plain t h
given_back_plain v (Place.Add trying) t h e n = holding_plain t h
given_back_plain v Place.Upgradable t h e n = holding_plain t h
given_back_plain v Place.TryUpgrade t h e n = holding_plain t h
given_back_plain v Place.Upgrade t h e n = holding_plain t h
given_back_plain v Place.Mark t h e n = holding_plain t h
given_back_plain v Place.TryWrite t h e n = holding_plain t h
given_back_plain v (Place.JoinNoReaders u) t h e n = holding_plain t h
given_back_plain v (Place.LookNoReaders u) t h e n = holding_plain t h
given_back_plain v (Place.AskNoReaders u) t h e n = holding_plain t h
given_back_plain v (Place.AwaitNoReaders u) t h e n = holding_plain t h
given_back_plain v (Place.LookUnlisted u) t h e n = holding_plain t h
given_back_plain v Place.LeaveNoReaders t h e n = holding_plain t h
given_back_plain v Place.Writing t h e n = holding_plain t h
given_back_plain v Place.DropUpgradable t h e n = holding_plain t h
given_back_plain v Place.DropUpgradableNotify t h e n = holding_plain t h
given_back_plain v Place.DropWrite t h e n = holding_plain t h
given_back_plain v Place.CancelAwait t h e n = holding_plain t h
given_back_plain v (Place.Unmark r) t h e n = holding_plain t h
given_back_plain v (Place.UnmarkNotify r) t h e n = holding_plain t h
given_back_plain v (Place.Down k) t h e n = holding_plain t h
given_back_plain v Place.DownNotify t h e n = holding_plain t h
given_back_plain v (Place.ReleaseTurn d) t h e n = holding_plain t h
given_back_plain v _ t h e n = out_plain t h

-- a guard that is downgraded reads
downgraded_until : (e : Ending) → course_until e ≡ downgrades → is_reading (Place.ReleaseTurn e) ≡ true
downgraded_until Ending.Reading c = refl
downgraded_until Ending.GivenBack c = absurd (cc)
downgraded_until (Ending.NotFree q) c = absurd (cc)
downgraded_until Ending.RefuseReaders c = absurd (cc)
downgraded_until Ending.RefuseMemory c = absurd (cc)
downgraded_until Ending.NotifyReaders c = refl

downgraded_reads : (x : Place) → is_inside x ≡ true → course_of x ≡ downgrades → is_reading x ≡ true
downgraded_reads (Place.ReleaseTurn e) i c = downgraded_until e c
downgraded_reads (Place.ReleasingTurn e) i c = downgraded_until e c
downgraded_reads (Place.Down keeps) i c = absurd (cc)
downgraded_reads Place.DownNotify i c = refl
downgraded_reads Place.DowngradeNotify i c = refl
downgraded_reads (Place.RefuseNotify Refusal.Memory) i c = absurd (cc)
downgraded_reads (Place.RefuseNotify Refusal.Readers) i c = absurd (cc)
downgraded_reads (Place.RefuseNotify _) i c = absurd (cc)
downgraded_reads (Place.Add true) i c = absurd (cc)
downgraded_reads (Place.Add false) i c = absurd (cc)
downgraded_reads (Place.Unmark true) i c = absurd (cc)
downgraded_reads (Place.Unmark false) i c = absurd (cc)
downgraded_reads (Place.UnmarkNotify true) i c = absurd (cc)
downgraded_reads (Place.UnmarkNotify false) i c = absurd (cc)
downgraded_reads _ i c = absurd (cc)

downgrade_course : (k : Kind) (r : Rest) (c : Course) → is_on_course k r c ≡ true → k ≡ Kind.Downgrade → c ≡ downgrades
downgrade_course Kind.FirstPoll r c h e = absurd (cc)
downgrade_course Kind.LaterPoll r c h e = absurd (cc)
downgrade_course Kind.Try r c h e = absurd (cc)
downgrade_course Kind.Drop r c h e = absurd (cc)
downgrade_course Kind.Upgrade r c h e = absurd (cc)
downgrade_course Kind.TryUpgrade r c h e = absurd (cc)
downgrade_course Kind.Downgrade Rest.Holding downgrades h e = refl
downgrade_course Kind.Downgrade _ _ h e = absurd (cc)
downgrade_course _ _ _ h e = absurd (cc)

drop_course : (k : Kind) (r : Rest) (c : Course) → is_on_course k r c ≡ true → k ≡ Kind.Drop → c ≡ drops
drop_course Kind.FirstPoll r c h e = absurd (cc)
drop_course Kind.LaterPoll r c h e = absurd (cc)
drop_course Kind.Try r c h e = absurd (cc)
drop_course Kind.Downgrade r c h e = absurd (cc)
drop_course Kind.Upgrade r c h e = absurd (cc)
drop_course Kind.TryUpgrade r c h e = absurd (cc)
drop_course Kind.Drop Rest.Pending drops h e = refl
drop_course Kind.Drop Rest.Holding drops h e = refl
drop_course Kind.Drop _ _ h e = absurd (cc)
drop_course _ _ _ h e = absurd (cc)

-- a drop and a downgrade are decided from their first step on
decided_so : (v : ℕ) (x : Place) (t : TurnCourse) → is_inside x ≡ true → verdict v x t ≡ None → (course_of x ≡ drops → ⊥) × (course_of x ≡ downgrades → ⊥)
decided_so v (Place.RefuseNotify r) t i n = absurd (cc)
decided_so v (Place.ReleaseTurn e) t i n = absurd (cc)
decided_so v (Place.ReleasingTurn e) t i n = absurd (cc)
decided_so v (Place.Unmark true) t i n = absurd (cc)
decided_so v (Place.Unmark false) t i n = absurd (cc)
decided_so v (Place.UnmarkNotify true) t i n = absurd (cc)
decided_so v (Place.UnmarkNotify false) t i n = absurd (cc)
decided_so v (Place.Down keeps) t i n = absurd (cc)
decided_so v (Place.Made w) t i n = absurd (cc)
decided_so v Place.Out t i n = absurd (cc)
decided_so v Place.CancelRead t i n = absurd (cc)
decided_so v Place.CancelTurn t i n = absurd (cc)
decided_so v Place.CancellingTurn t i n = absurd (cc)
decided_so v Place.DropRead t i n = absurd (cc)
decided_so v Place.DropReadNotify t i n = absurd (cc)
decided_so v Place.DropUpgradable t i n = absurd (cc)
decided_so v Place.DropUpgradableNotify t i n = absurd (cc)
decided_so v Place.DropWrite t i n = absurd (cc)
decided_so v Place.CancelAwait t i n = absurd (cc)
decided_so v Place.DownNotify t i n = absurd (cc)
decided_so v Place.DowngradeNotify t i n = absurd (cc)
decided_so v (Place.Add true) t i n = ((λ c. cc), (λ c. cc))
decided_so v (Place.Add false) t i n = ((λ c. cc), (λ c. cc))
decided_so v _ t i n = ((λ c. cc), (λ c. cc))

-- an undecided party doesn't read, has the turn for no right, and waits to write only if it seeks to
pub record IsUndecided (x : Place) : Type 0 where
  pub reads : is_reading x ≡ false
  pub share : (share_of x ≡ upgrading → ⊥) × (share_of x ≡ writing → ⊥)
  pub seeks : share_of x ≡ waiting → sought_at x ≡ Some write

-- no call is decided on Pending before that answer
until_not_pending : (e : Ending) → Some (verdict_until e) ≡ Some Answer.Pending → ⊥
until_not_pending Ending.GivenBack h = absurd (cc)
until_not_pending (Ending.NotFree q) h = absurd (cc)
until_not_pending Ending.RefuseReaders h = absurd (cc)
until_not_pending Ending.RefuseMemory h = absurd (cc)
until_not_pending Ending.Reading h = absurd (cc)
until_not_pending Ending.NotifyReaders h = absurd (cc)

refused_not_pending : (o : Option TurnEnd) → refused_by o ≡ Some Answer.Pending → ⊥
refused_not_pending (Some (TurnEnd.Refused r)) h = absurd (cc)
refused_not_pending _ h = absurd (cc)

pub pending_undecided : (v : ℕ) (x : Place) (t : TurnCourse) → verdict v x t ≡ Some Answer.Pending → ⊥
pending_undecided v (Place.TakeTurn p) t h = refused_not_pending (decision t) h
pending_undecided v (Place.ReleaseTurn e) t h = until_not_pending e h
pending_undecided v (Place.ReleasingTurn e) t h = until_not_pending e h
pending_undecided v (Place.Unmark true) t h = absurd (cc)
pending_undecided v (Place.Unmark false) t h = absurd (cc)
pending_undecided v (Place.UnmarkNotify true) t h = absurd (cc)
pending_undecided v (Place.UnmarkNotify false) t h = absurd (cc)
pending_undecided v _ t h = absurd (cc)

decided_as : (w u : Within) (o p : Option Answer) → inside w o ≡ inside u p → o ≡ p
decided_as w u o p e = cc

module _ (l : RwLock) (ss : List Stage) (opening : ℕ) (v : ℕ) (laws : IsRwLock l) (fits : Fits l ss v) where
  abbrev w : World
  w = seen l ss opening v

  pub stood : (q : ℕ) → standing_of w q ≡ standing_at v (stage_at ss q) (place_at l.places q) (turn_at l.turn.courses q)
  stood q = standings_at (verdict_of (record { lock = l; value = v })) ss q

  stands_pending : (s : Stage) (x : Place) (t : TurnCourse) (u : Within) → standing_at v s x t ≢ inside u (Some Answer.Pending)
  stands_pending (Outside r) x t u e = absurd (cc)
  stands_pending (Inside w) x t u e = pending_undecided v x t (decided_as w u (verdict v x t) (Some Answer.Pending) e)
  stands_pending Forgotten x t u e = absurd (cc)

  pub not_pending : (q : ℕ) (u : Within) → standing_of w q ≢ inside u (Some Answer.Pending)
  not_pending q u e = stands_pending (stage_at ss q) (place_at l.places q) (turn_at l.turn.courses q) u (sym (stood q) ∙ e)

  pub reads_as : (q : ℕ) → state.reads w q ≡ is_reading (place_at l.places q)
  reads_as q = view.reads_at l.places q

  pub upgrades_as : (q : ℕ) → is_upgrader w q ≡ is_upgrade (place_at l.places q)
  upgrades_as q = view.upgrades_at l.places q

  pub seeks_as : (q : ℕ) → sought_by w q ≡ sought_at (place_at l.places q)
  seeks_as q = view.seeks_at l.places q

  -- who has the turn where it stands has it
  pub holder_is : (q : ℕ) → has_turn (place_at l.places q) ≡ 1 → holder_of l.turn ≡ Some q
  holder_is q h =
      let some : 1 ≤ holds (turn_at l.turn.courses q) = omega (arith, laws.held q, h) in
      sees.holds_it l.turn.courses q laws.turn.one_holder (holds_one (is_holder (turn_at l.turn.courses q)) (holds (turn_at l.turn.courses q)) (sees.holds_bit (turn_at l.turn.courses q)) some)

  pub turn_is : (q : ℕ) → has_turn (place_at l.places q) ≡ 1 → w.state.turn ≡ turn_as q (share_of (place_at l.places q))
  turn_is q h = ap (λ o. turn_by o l.places) (holder_is q h)

  pub no_turn : (q : ℕ) → holds (turn_at l.turn.courses q) ≡ 0 → HasTurn w.state.turn q → ⊥
  no_turn q none h = let one = sees.is_held_by l.turn.courses q (holder_has (holder_of l.turn) l.places q h) in absurd (omega arith)

  pub clear_at : (q : ℕ) (x : Place) → place_at l.places q ≡ x → in_no_writer x ≡ 0 → in_no_readers x ≡ 0 → listed (turn_at l.turn.courses q) ≡ 0 → is_counted (turn_at l.turn.courses q) ≡ false → IsClear w q
  clear_at q x e nw nr li co = (
    omega (arith, laws.owners_no_writer q, laws.owners_no_readers q, laws.turn.owners q, li, ap in_no_writer e, ap in_no_readers e, nw, nr),
    sees.starved_at l.turn.courses q ∙ co,
  )

  fit_at : (q : ℕ) (x : Place) → place_at l.places q ≡ x → fits_turn x (turn_at l.turn.courses q) ≡ true
  fit_at q x e = let P : Place → Type 0 = λ x. fits_turn x (turn_at l.turn.courses q) ≡ true in subst P e (laws.in_turn q)

  reads_at : (q : ℕ) (x : Place) → place_at l.places q ≡ x → state.reads w q ≡ is_reading x
  reads_at q x e = reads_as q ∙ ap is_reading e

  pub turn_at_place : (q : ℕ) (x : Place) → place_at l.places q ≡ x → has_turn x ≡ 1 → w.state.turn ≡ turn_as q (share_of x)
  turn_at_place q x e h = turn_is q (ap has_turn e ∙ h) ∙ ap (λ y. turn_as q (share_of y)) e

  -- a party at a place that goes with one out of the turn
  pub out_clear : (q : ℕ) (x : Place) → place_at l.places q ≡ x → in_no_writer x ≡ 0 → in_no_readers x ≡ 0 → is_out (turn_at l.turn.courses q) ≡ true → IsClear w q
  out_clear q x e nw nr o = clear_at q x e nw nr (out_unlisted (turn_at l.turn.courses q) o) (out_unstarved (turn_at l.turn.courses q) o)

  pub holding_clear : (q : ℕ) (x : Place) → place_at l.places q ≡ x → in_no_writer x ≡ 0 → in_no_readers x ≡ 0 → is_holding (turn_at l.turn.courses q) ≡ true → IsClear w q
  holding_clear q x e nw nr o = clear_at q x e nw nr (holding_unlisted (turn_at l.turn.courses q) o) (holding_unstarved (turn_at l.turn.courses q) o)

  pub seeks_just : (q : ℕ) (x : Place) (r : Right) → place_at l.places q ≡ x → sought_at x ≡ Some r → sought_by w q ≡ Some r
  seeks_just q x r e h = seeks_as q ∙ (ap sought_at e ∙ h)

  -- ---- a party has just the right that its guard is for

  pub reading : (q : ℕ) (x : Place) → place_at l.places q ≡ x → is_reading x ≡ true → is_out (turn_at l.turn.courses q) ≡ true → sought_at x ≡ Some read → HasSought w q
  reading q x e r o s = (read, seeks_just q x read e s, (reads_at q x e ∙ r, no_turn q (out_free (turn_at l.turn.courses q) o)))

  pub upgradable_has : (q : ℕ) (x : Place) → place_at l.places q ≡ x → is_reading x ≡ true → has_turn x ≡ 1 → share_of x ≡ upgrading → sought_at x ≡ Some upgradable → HasSought w q
  upgradable_has q x e r h u s = (upgradable, seeks_just q x upgradable e s, (reads_at q x e ∙ r, turn_at_place q x e h ∙ ap (turn_as q) u))

  pub writing_has : (q : ℕ) (x : Place) → place_at l.places q ≡ x → is_reading x ≡ false → has_turn x ≡ 1 → share_of x ≡ writing → sought_at x ≡ Some write → HasSought w q
  writing_has q x e r h u s = (write, seeks_just q x write e s, (reads_at q x e ∙ r, turn_at_place q x e h ∙ ap (turn_as q) u))

  guard_has : (q : ℕ) (x : Place) → plans.is_guard x ≡ true → place_at l.places q ≡ x → IsClear w q × HasSought w q × (is_upgrader w q ≡ false)
  guard_has q = at_guard (λ x. place_at l.places q ≡ x → IsClear w q × HasSought w q × (is_upgrader w q ≡ false)) (record {
    reading = λ e. let o = fit_at q Place.Reading e in (out_clear q Place.Reading e refl refl o, reading q Place.Reading e refl o refl, upgrades_as q ∙ ap is_upgrade e);
    upgradable = λ e. let o = fit_at q Place.Upgradable e in (holding_clear q Place.Upgradable e refl refl o, upgradable_has q Place.Upgradable e refl refl refl refl, upgrades_as q ∙ ap is_upgrade e);
    writing = λ e. let o = fit_at q Place.Writing e in (holding_clear q Place.Writing e refl refl o, writing_has q Place.Writing e refl refl refl refl, upgrades_as q ∙ ap is_upgrade e);
  })

  abbrev IsFuture : ℕ → Type 0
  IsFuture q = (state.reads w q ≡ false) × (((w.state.turn ≡ waits_to_write q) × (sought_by w q ≡ Some write)) ⊎ ((HasTurn w.state.turn q → ⊥) × (is_upgrader w q ≡ false)))

  future_has : (q : ℕ) (x : Place) → plans.is_future x ≡ true → place_at l.places q ≡ x → IsFuture q
  future_has q = at_future (λ x. place_at l.places q ≡ x → IsFuture q) (record {
    made = λ m e. (reads_at q (Place.Made m) e, inr (no_turn q (out_free (turn_at l.turn.courses q) (fit_at q (Place.Made m) e)), upgrades_as q ∙ ap is_upgrade e));
    no_writer = λ e. (reads_at q Place.AskNoWriter e, inr (no_turn q (out_free (turn_at l.turn.courses q) (fit_at q Place.AskNoWriter e)), upgrades_as q ∙ ap is_upgrade e));
    turn = λ p e. (reads_at q (Place.WaitTurn p) e, inr (no_turn q (waiting_free (turn_at l.turn.courses q) (fit_at q (Place.WaitTurn p) e)), upgrades_as q ∙ ap is_upgrade e));
    no_readers = λ u e. (reads_at q (Place.AwaitNoReaders u) e, inl (turn_at_place q (Place.AwaitNoReaders u) e refl, seeks_just q (Place.AwaitNoReaders u) write e refl));
    upgrade = λ e. (reads_at q (Place.LookUnlisted true) e, inl (turn_at_place q (Place.LookUnlisted true) e refl, seeks_just q (Place.LookUnlisted true) write e refl));
  })

  out_has : (q : ℕ) (x : Place) → plans.is_out x ≡ true → place_at l.places q ≡ x → IsClear w q × HasNothing w q × (is_upgrader w q ≡ false)
  out_has q = at_out (λ x. place_at l.places q ≡ x → IsClear w q × HasNothing w q × (is_upgrader w q ≡ false)) (λ e.
      let o = fit_at q Place.Out e in (out_clear q Place.Out e refl refl o, (reads_at q Place.Out e, no_turn q (out_free (turn_at l.turn.courses q) o)), upgrades_as q ∙ ap is_upgrade e))

  -- ---- an undecided party has no right

  -- who isn't at a place with a share of its own passes, if it has the turn
  turn_only : (q : ℕ) → HasTurn w.state.turn q → w.state.turn ≡ turn_as q (share_of (place_at l.places q))
  turn_only q h = ap (λ o. turn_by o l.places) (holder_has (holder_of l.turn) l.places q h)

  undecided_has : (q : ℕ) (x : Place) → place_at l.places q ≡ x → IsUndecided x → (state.reads w q ≡ false) × (w.state.turn ≢ is_upgradable q) × (w.state.turn ≢ writes q) × (w.state.turn ≡ waits_to_write q → sought_by w q ≡ Some write)
  undecided_has q x e u = (
    reads_at q x e ∙ u.reads,
    (λ h. apart_up w.state.turn q (share_of (place_at l.places q)) (turn_only q (has_as w.state.turn q upgrading h)) (λ k. u.share.0 (ap share_of (sym e) ∙ k)) h),
    (λ h. apart_write w.state.turn q (share_of (place_at l.places q)) (turn_only q (has_as w.state.turn q writing h)) (λ k. u.share.1 (ap share_of (sym e) ∙ k)) h),
    (λ h.
        let here = waits_as w.state.turn q (share_of (place_at l.places q)) (turn_only q (has_as w.state.turn q waiting h)) h in
        seeks_just q x write e (u.seeks (ap share_of (sym e) ∙ here))),
  )

  pub undecided : (x : Place) (t : TurnCourse) → is_inside x ≡ true → verdict v x t ≡ None → IsUndecided x
  undecided Place.LeaveNoWriter t i n = absurd (cc)
  undecided Place.LeaveNoReaders t i n = absurd (cc)
  undecided (Place.ReleaseTurn e) t i n = absurd (cc)
  undecided (Place.ReleasingTurn e) t i n = absurd (cc)
  undecided Place.DropRead t i n = absurd (cc)
  undecided Place.DropUpgradable t i n = absurd (cc)
  undecided Place.DropWrite t i n = absurd (cc)
  undecided Place.DownNotify t i n = absurd (cc)
  undecided Place.DowngradeNotify t i n = absurd (cc)
  undecided Place.Reading t i n = absurd (cc)
  undecided Place.Upgradable t i n = absurd (cc)
  undecided Place.Writing t i n = absurd (cc)
  undecided Place.Upgrade t i n = absurd (cc)
  undecided Place.TryUpgrade t i n = absurd (cc)
  undecided (Place.Down keeps) t i n = absurd (cc)
  undecided (Place.JoinNoReaders u) t i n = record { reads = refl; share = ((λ e. cc), (λ e. cc)); seeks = λ e. refl }
  undecided (Place.LookNoReaders u) t i n = record { reads = refl; share = ((λ e. cc), (λ e. cc)); seeks = λ e. refl }
  undecided (Place.AskNoReaders u) t i n = record { reads = refl; share = ((λ e. cc), (λ e. cc)); seeks = λ e. refl }
  undecided (Place.AwaitNoReaders u) t i n = record { reads = refl; share = ((λ e. cc), (λ e. cc)); seeks = λ e. refl }
  undecided (Place.LookUnlisted u) t i n = record { reads = refl; share = ((λ e. cc), (λ e. cc)); seeks = λ e. refl }
  undecided Place.CancelAwait t i n = absurd (cc)
  undecided (Place.Unmark true) t i n = absurd (cc)
  undecided (Place.Unmark false) t i n = absurd (cc)
  undecided _ t i n = record { reads = refl; share = ((λ e. cc), (λ e. cc)); seeks = λ e. absurd (cc) }

  has : (q : ℕ) (s : Stage) (x : Place) → place_at l.places q ≡ x → goes_with s x ≡ true → HasItsOwn w q (standing_at v s x (turn_at l.turn.courses q))
  has q (Outside Rest.Idle) x at g = out_has q x g at
  has q (Outside Rest.Pending) x at g = future_has q x g at
  has q (Outside Rest.Holding) x at g = guard_has q x g at
  has q (Outside Rest.Finished) x at g = absurd (cc)
  has q (Inside u) x at g = inside_has (verdict v x (turn_at l.turn.courses q)) refl where
    here : is_inside x ≡ true
    here = (and_parts (is_inside x) (is_on_course u.kind u.was (course_of x)) g).0

    on_course : is_on_course u.kind u.was (course_of x) ≡ true
    on_course = (and_parts (is_inside x) (is_on_course u.kind u.was (course_of x)) g).1

    inside_has : (o : Option Answer) → verdict v x (turn_at l.turn.courses q) ≡ o → HasItsOwn w q (inside u o)
    inside_has None e =
        let has = undecided_has q x at (undecided x (turn_at l.turn.courses q) here e) in
        let so = decided_so v x (turn_at l.turn.courses q) here e in
        (has.0, has.1, has.2, has.3, (λ d. so.0 (drop_course u.kind u.was (course_of x) on_course d)), (λ d. so.1 (downgrade_course u.kind u.was (course_of x) on_course d)))
    inside_has (Some Answer.GivenBack) e = ((λ d. reads_at q x at ∙ downgraded_reads x here (downgrade_course u.kind u.was (course_of x) on_course d)), (λ none. (let plain = given_back_plain v x (turn_at l.turn.courses q) (let F : Place → Type 0 = λ y. fits_turn y (turn_at l.turn.courses q) ≡ true in subst F at (laws.in_turn q)) e (sym (laws.turn.owners q) ∙ none) in sees.starved_at l.turn.courses q ∙ is_plain (turn_at l.turn.courses q) plain)))
    inside_has (Some b) e = λ d. reads_at q x at ∙ downgraded_reads x here (downgrade_course u.kind u.was (course_of x) on_course d)
  has q Forgotten x at g = tt

  pub each : (q : ℕ) → HasItsOwn w q (standing_of w q)
  each q = elim (inside_or_past ss q) as (λ _. HasItsOwn w q (standing_of w q)) [
    | inl known ↦ rw (stood q) (has q (stage_at ss q) (place_at l.places q) refl (fits.stands q known))
    | inr past ↦ rw (stood q, past.1) tt
  ]
