-- A party that moves alone ends its call.
use Rattle.world_rwlock.proofs.Prelude.{◌≡◌, ℕ, ◌<◌, ◌≤◌, Bool, true, false, Some, length, refl, sym, ap, arith, ◌∙◌, get_or-set_same, is_marked_at, is_party, entries_of, Call, some_eq, none_some, turn_steps_left, Wanted, Purpose, Place, Out, Made, Reading, Upgradable, Writing, JoinNoWriter, AskNoWriter, WaitTurn, JoinNoReaders, AwaitNoReaders, LookUnlisted, Action, Next, action_of, place_after, start_of, in_no_writer, in_no_readers, RwLock, SameRoles, place_at, Acts, left, left_from, left_after, most_steps}
use Rattle.world_rwlock.proofs.of_machine.falls.Lowers.{then_left, lowers}
use Rattle.world_rwlock.proofs.of_machine.falls.Falls.{falls}

-- only a party that isn't listed joins
joins_unlisted_w : (x : Place) → action_of x ≡ Action.JoinNoWriter → in_no_writer x ≡ 0
joins_unlisted_w (JoinNoWriter told) e = refl
joins_unlisted_w _ e = absurd (cc)

joins_unlisted_r : (x : Place) → action_of x ≡ Action.JoinNoReaders → in_no_readers x ≡ 0
joins_unlisted_r (JoinNoReaders upgrade) e = refl
joins_unlisted_r _ e = absurd (cc)

seen_then : (next : Next) (v : RwLock) (p : ℕ) → place_at v.places p ≡ place_after next → left_after next v p ≡ then_left next (is_marked_at (is_party p) v.no_writer) (is_marked_at (is_party p) v.no_readers) (turn_steps_left v.turn p)
seen_then (Next.Do action q) v p e = ap (λ x. left x (is_marked_at (is_party p) v.no_writer) (is_marked_at (is_party p) v.no_readers) (turn_steps_left v.turn p)) e
seen_then (Next.End e q) v p _ = refl
seen_then (Next.Wait q) v p _ = refl

module _ (memory starving : Bool) (p : ℕ) (from : Place) (next : Next) (old new : RwLock) where
  -- a party that moves alone has fewer steps left after each
  pub fewer : p < length old.places → SameRoles from (place_at old.places p) → entries_of p old.no_writer ≡ in_no_writer (place_at old.places p) → entries_of p old.no_readers ≡ in_no_readers (place_at old.places p)
      → Acts memory starving p from next old new → left_after next new p < left_from from old p
  fewer known same own_w own_r a =
      let lands : place_at new.places p ≡ place_after next = ap (λ ps. place_at ps p) a.places ∙ get_or-set_same old.places p (place_after next) Out known in
      let lower = lowers memory starving p old.no_writer old.no_readers new.no_writer new.no_readers old.turn new.turn (action_of from) a.found a.no_writer a.no_readers a.turn
      (λ joins. own_w ∙ (sym same.standing_w ∙ joins_unlisted_w from joins)) (λ joins. own_r ∙ (sym same.standing_r ∙ joins_unlisted_r from joins)) in
      rw (seen_then next new p lands, a.next_is)
      (falls (is_marked_at (is_party p) old.no_writer) (is_marked_at (is_party p) old.no_readers) (is_marked_at (is_party p) new.no_writer) (is_marked_at (is_party p) new.no_readers) (turn_steps_left old.turn p) (turn_steps_left new.turn p) from a.found lower)

-- no call begins where it has more steps left than it may take
within : (c : Call) (at from : Place) (here there : Bool) (turn : ℕ) → start_of c at ≡ Some from → left from here there turn ≤ most_steps c
within Call.Read Out from here there turn e = rw (← some_eq e) (omega arith)
within Call.Read _ from here there turn e = absurd (none_some e)
within Call.UpgradableRead Out from here there turn e = rw (← some_eq e) (omega arith)
within Call.UpgradableRead _ from here there turn e = absurd (none_some e)
within Call.Write Out from here there turn e = rw (← some_eq e) (omega arith)
within Call.Write _ from here there turn e = absurd (none_some e)
within Call.TryRead Out from here there turn e = rw (← some_eq e) (omega arith)
within Call.TryRead _ from here there turn e = absurd (none_some e)
within Call.TryUpgradableRead Out from here there turn e = rw (← some_eq e) (omega arith)
within Call.TryUpgradableRead _ from here there turn e = absurd (none_some e)
within Call.TryWrite Out from here there turn e = rw (← some_eq e) (omega arith)
within Call.TryWrite _ from here there turn e = absurd (none_some e)
within Call.Poll (Made Wanted.Read) from here there turn e = rw (← some_eq e) (omega arith)
within Call.Poll (Made Wanted.UpgradableRead) from here there turn e = rw (← some_eq e) (omega arith)
within Call.Poll (Made Wanted.Write) from here there turn e = rw (← some_eq e) (omega arith)
within Call.Poll AskNoWriter from here there turn e = rw (← some_eq e) (grind arith)
within Call.Poll (WaitTurn Purpose.UpgradableRead) from here there turn e = rw (← some_eq e) (omega arith)
within Call.Poll (WaitTurn Purpose.Write) from here there turn e = rw (← some_eq e) (omega arith)
within Call.Poll (AwaitNoReaders true) from here there turn e = rw (← some_eq e) (grind arith)
within Call.Poll (AwaitNoReaders false) from here there turn e = rw (← some_eq e) (grind arith)
within Call.Poll (LookUnlisted true) from here there turn e = rw (← some_eq e) (omega arith)
within Call.Poll _ from here there turn e = absurd (none_some e)
within Call.Drop (Made w) from here there turn e = rw (← some_eq e) (omega arith)
within Call.Drop AskNoWriter from here there turn e = rw (← some_eq e) (omega arith)
within Call.Drop (WaitTurn p) from here there turn e = rw (← some_eq e) (omega arith)
within Call.Drop (AwaitNoReaders upgrade) from here there turn e = rw (← some_eq e) (omega arith)
within Call.Drop (LookUnlisted true) from here there turn e = rw (← some_eq e) (omega arith)
within Call.Drop Reading from here there turn e = rw (← some_eq e) (omega arith)
within Call.Drop Upgradable from here there turn e = rw (← some_eq e) (omega arith)
within Call.Drop Writing from here there turn e = rw (← some_eq e) (omega arith)
within Call.Drop _ from here there turn e = absurd (none_some e)
within Call.Upgrade Upgradable from here there turn e = rw (← some_eq e) (omega arith)
within Call.Upgrade _ from here there turn e = absurd (none_some e)
within Call.TryUpgrade Upgradable from here there turn e = rw (← some_eq e) (omega arith)
within Call.TryUpgrade _ from here there turn e = absurd (none_some e)
within Call.Downgrade Upgradable from here there turn e = rw (← some_eq e) (omega arith)
within Call.Downgrade Writing from here there turn e = rw (← some_eq e) (omega arith)
within Call.Downgrade _ from here there turn e = absurd (none_some e)
within Call.DowngradeToUpgradable Writing from here there turn e = rw (← some_eq e) (omega arith)
within Call.DowngradeToUpgradable _ from here there turn e = absurd (none_some e)
within _ at from here there turn e = absurd (none_some e)

-- a call that has begun has fewer steps left than it may take
pub begun_within : (c : Call) (at from : Place) (v : RwLock) (p k : ℕ) → start_of c at ≡ Some from → k < left_from from v p → k < most_steps c
begun_within c at from v p k e less = omega (arith, within c at from (is_marked_at (is_party p) v.no_writer) (is_marked_at (is_party p) v.no_readers) (turn_steps_left v.turn p) e)
