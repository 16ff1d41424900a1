-- Which action each move carries out: one case for each call and each place at which a party may begin it, and one for a party that goes on.
use Rattle.world_rwlock.proofs.Prelude.{◌≡◌, ◌&&◌, if◌then◌else◌, Bool, true, false, Some, None, refl, ap, subst, false≢true, and_parts, Call, Inputs, What, Begin, Go, Kind, Rest, Idle, Holding, Finished, Stage, Outside, Inside, Forgotten, Within, within, put_in, kind_of, may_begin, some_eq, none_some, some_none, call_at, polls_again, Wanted, Purpose, Ending, Place, first_poll, knows_at, may_upgrade, may_downgrade, may_put, place_for, sought_at, is_future, is_guard, is_inside, is_on_course, course_of, goes_with, knows}
use Rattle.world_base.specs.declared.standing.Rest.TheVariants.{Pending}
use Rattle.world_rwlock.specs.Stages.{is_out}

-- ---- the places of parties that are outside every call

pub at_out : (Q : Place → Type 0) → Q Place.Out → (x : Place) → is_out x ≡ true → Q x
at_out Q k Place.Out h = k
at_out Q k _ h = absurd (false≢true h)

pub record AtFuture (Q : Place → Type 0) : Type 0 where
  pub made : (w : Wanted) → Q (Place.Made w)
  pub no_writer : Q Place.AskNoWriter
  pub turn : (p : Purpose) → Q (Place.WaitTurn p)
  pub no_readers : (upgrade : Bool) → Q (Place.AwaitNoReaders upgrade)
  pub upgrade : Q (Place.LookUnlisted true)

pub at_future : (Q : Place → Type 0) → AtFuture Q → (x : Place) → is_future x ≡ true → Q x
at_future Q k (Place.Made w) h = k.made w
at_future Q k Place.AskNoWriter h = k.no_writer
at_future Q k (Place.WaitTurn p) h = k.turn p
at_future Q k (Place.AwaitNoReaders u) h = k.no_readers u
at_future Q k (Place.LookUnlisted true) h = k.upgrade
at_future Q k _ h = absurd (false≢true h)

pub record AtGuard (Q : Place → Type 0) : Type 0 where
  pub reading : Q Place.Reading
  pub upgradable : Q Place.Upgradable
  pub writing : Q Place.Writing

pub at_guard : (Q : Place → Type 0) → AtGuard Q → (x : Place) → is_guard x ≡ true → Q x
at_guard Q k Place.Reading h = k.reading
at_guard Q k Place.Upgradable h = k.upgradable
at_guard Q k Place.Writing h = k.writing
at_guard Q k _ h = absurd (false≢true h)

-- ---- the moves

-- what holds of each call where it begins, and of a party that goes on
pub record ForMoves (P : Stage → What → Place → Within → Place → Type 0) : Type 0 where
  pub read : (i : Inputs) → P (Outside Idle) (Begin Call.Read i) Place.Out (within Kind.FirstPoll Idle) (Place.EnterRead false)
  pub upgradable : (i : Inputs) → P (Outside Idle) (Begin Call.UpgradableRead i) Place.Out (within Kind.FirstPoll Idle) (Place.EnterTurn Purpose.UpgradableRead)
  pub write : (i : Inputs) → P (Outside Idle) (Begin Call.Write i) Place.Out (within Kind.FirstPoll Idle) (Place.EnterTurn Purpose.Write)
  pub try_read : (i : Inputs) → P (Outside Idle) (Begin Call.TryRead i) Place.Out (within Kind.Try Idle) Place.TryRead
  pub try_upgradable : (i : Inputs) → P (Outside Idle) (Begin Call.TryUpgradableRead i) Place.Out (within Kind.Try Idle) (Place.TryTurn Purpose.UpgradableRead)
  pub try_write : (i : Inputs) → P (Outside Idle) (Begin Call.TryWrite i) Place.Out (within Kind.Try Idle) (Place.TryTurn Purpose.Write)
  pub poll_made : (w : Wanted) (i : Inputs) → P (Outside Pending) (Begin Call.Poll i) (Place.Made w) (within Kind.LaterPoll Pending) (first_poll w)
  pub poll_no_writer : (i : Inputs) → P (Outside Pending) (Begin Call.Poll i) Place.AskNoWriter (within Kind.LaterPoll Pending) Place.AskNoWriter
  pub poll_turn : (p : Purpose) (i : Inputs) → P (Outside Pending) (Begin Call.Poll i) (Place.WaitTurn p) (within Kind.LaterPoll Pending) (Place.WaitTurn p)
  pub poll_no_readers : (u : Bool) (i : Inputs) → P (Outside Pending) (Begin Call.Poll i) (Place.AwaitNoReaders u) (within Kind.LaterPoll Pending) (Place.AwaitNoReaders u)
  pub poll_upgrade : (i : Inputs) → P (Outside Pending) (Begin Call.Poll i) (Place.LookUnlisted true) (within Kind.LaterPoll Pending) (Place.LookUnlisted true)
  pub drop_made : (w : Wanted) (i : Inputs) → P (Outside Pending) (Begin Call.Drop i) (Place.Made w) (within Kind.Drop Pending) Place.Out
  pub drop_no_writer : (i : Inputs) → P (Outside Pending) (Begin Call.Drop i) Place.AskNoWriter (within Kind.Drop Pending) Place.CancelRead
  pub drop_turn : (p : Purpose) (i : Inputs) → P (Outside Pending) (Begin Call.Drop i) (Place.WaitTurn p) (within Kind.Drop Pending) Place.CancelTurn
  pub drop_no_readers : (u : Bool) (i : Inputs) → P (Outside Pending) (Begin Call.Drop i) (Place.AwaitNoReaders u) (within Kind.Drop Pending) Place.CancelAwait
  pub drop_upgrade : (i : Inputs) → P (Outside Pending) (Begin Call.Drop i) (Place.LookUnlisted true) (within Kind.Drop Pending) (Place.Unmark false)
  pub drop_reader : (i : Inputs) → P (Outside Holding) (Begin Call.Drop i) Place.Reading (within Kind.Drop Holding) Place.DropRead
  pub drop_upgradable : (i : Inputs) → P (Outside Holding) (Begin Call.Drop i) Place.Upgradable (within Kind.Drop Holding) Place.DropUpgradable
  pub drop_writer : (i : Inputs) → P (Outside Holding) (Begin Call.Drop i) Place.Writing (within Kind.Drop Holding) Place.DropWrite
  pub upgrade : (i : Inputs) → P (Outside Holding) (Begin Call.Upgrade i) Place.Upgradable (within Kind.Upgrade Holding) Place.Upgrade
  pub try_upgrade : (i : Inputs) → P (Outside Holding) (Begin Call.TryUpgrade i) Place.Upgradable (within Kind.TryUpgrade Holding) Place.TryUpgrade
  pub downgrade_upgradable : (i : Inputs) → P (Outside Holding) (Begin Call.Downgrade i) Place.Upgradable (within Kind.Downgrade Holding) (Place.ReleaseTurn Ending.Reading)
  pub downgrade_writer : (i : Inputs) → P (Outside Holding) (Begin Call.Downgrade i) Place.Writing (within Kind.Downgrade Holding) (Place.Down false)
  pub to_upgradable : (i : Inputs) → P (Outside Holding) (Begin Call.DowngradeToUpgradable i) Place.Writing (within Kind.Downgrade Holding) (Place.Down true)
  pub go : (w : Within) (i : Inputs) (x : Place) → is_inside x ≡ true → is_on_course w.kind w.was (course_of x) ≡ true → P (Inside w) (Go i) x w x

-- the place whose action a move carries out, and what holds there
pub record Turn (P : Stage → What → Place → Within → Place → Type 0) (s : Stage) (what : What) (x : Place) (w : Within) : Type 0 where
  pub from : Place
  pub starts : place_for what x ≡ Some from
  pub holds : P s what x w from

module _ (P : Stage → What → Place → Within → Place → Type 0) (k : ForMoves P) where
  -- a call that is begun by a party that stands here, and is no put
  abbrev Case : Rest → Call → Inputs → Within → Place → Type 0
  Case r c i w x = call_at (knows_at x) (Outside r) (Begin c i) ≡ Some w → polls_again (Outside r) (Begin c i) ≡ false → put_in (Begin c i) ≡ None → Turn P (Outside r) (Begin c i) x w

  so : (r : Rest) (c : Call) (i : Inputs) (v w : Within) (x from : Place) → Some v ≡ Some w → place_for (Begin c i) x ≡ Some from → P (Outside r) (Begin c i) x v from → Turn P (Outside r) (Begin c i) x w
  so r c i v w x from e starts h = let Q : Within → Type 0 = λ y. Turn P (Outside r) (Begin c i) x y in subst Q (some_eq e) (record { from = from; starts = starts; holds = h })

  idle : (c : Call) (i : Inputs) (w : Within) → Case Idle c i w Place.Out
  idle Call.Read i w e f n = so Idle Call.Read i _ w Place.Out (Place.EnterRead false) e refl (k.read i)
  idle Call.UpgradableRead i w e f n = so Idle Call.UpgradableRead i _ w Place.Out (Place.EnterTurn Purpose.UpgradableRead) e refl (k.upgradable i)
  idle Call.Write i w e f n = so Idle Call.Write i _ w Place.Out (Place.EnterTurn Purpose.Write) e refl (k.write i)
  idle Call.TryRead i w e f n = so Idle Call.TryRead i _ w Place.Out Place.TryRead e refl (k.try_read i)
  idle Call.TryUpgradableRead i w e f n = so Idle Call.TryUpgradableRead i _ w Place.Out (Place.TryTurn Purpose.UpgradableRead) e refl (k.try_upgradable i)
  idle Call.TryWrite i w e f n = so Idle Call.TryWrite i _ w Place.Out (Place.TryTurn Purpose.Write) e refl (k.try_write i)
  idle _ i w e f n = absurd (none_some e)

  -- a guard's call that a future's party makes isn't known of it
  never : (b : Bool) (v w : Within) → (if b && false then Some v else None) ≡ Some w → ⊥
  never true v w e = none_some e
  never false v w e = none_some e

  pending : (c : Call) (i : Inputs) (w : Within) (x : Place) → is_future x ≡ true → Case Pending c i w x
  pending Call.Poll i w (Place.Made m) g e f n = so Pending Call.Poll i _ w (Place.Made m) (first_poll m) e refl (k.poll_made m i)
  pending Call.Poll i w Place.AskNoWriter g e f n = so Pending Call.Poll i _ w Place.AskNoWriter Place.AskNoWriter e refl (k.poll_no_writer i)
  pending Call.Poll i w (Place.WaitTurn p) g e f n = so Pending Call.Poll i _ w (Place.WaitTurn p) (Place.WaitTurn p) e refl (k.poll_turn p i)
  pending Call.Poll i w (Place.AwaitNoReaders u) g e f n = so Pending Call.Poll i _ w (Place.AwaitNoReaders u) (Place.AwaitNoReaders u) e refl (k.poll_no_readers u i)
  pending Call.Poll i w (Place.LookUnlisted true) g e f n = so Pending Call.Poll i _ w (Place.LookUnlisted true) (Place.LookUnlisted true) e refl (k.poll_upgrade i)
  pending Call.Poll i w _ g e f n = absurd (false≢true g)
  pending Call.Drop i w (Place.Made m) g e f n = so Pending Call.Drop i _ w (Place.Made m) Place.Out e refl (k.drop_made m i)
  pending Call.Drop i w Place.AskNoWriter g e f n = so Pending Call.Drop i _ w Place.AskNoWriter Place.CancelRead e refl (k.drop_no_writer i)
  pending Call.Drop i w (Place.WaitTurn p) g e f n = so Pending Call.Drop i _ w (Place.WaitTurn p) Place.CancelTurn e refl (k.drop_turn p i)
  pending Call.Drop i w (Place.AwaitNoReaders u) g e f n = so Pending Call.Drop i _ w (Place.AwaitNoReaders u) Place.CancelAwait e refl (k.drop_no_readers u i)
  pending Call.Drop i w (Place.LookUnlisted true) g e f n = so Pending Call.Drop i _ w (Place.LookUnlisted true) (Place.Unmark false) e refl (k.drop_upgrade i)
  pending Call.Drop i w _ g e f n = absurd (false≢true g)
  pending Call.Upgrade i w x g e f n = absurd (never (may_upgrade x) _ w e)
  pending Call.TryUpgrade i w x g e f n = absurd (never (may_upgrade x) _ w e)
  pending Call.Downgrade i w x g e f n = absurd (never (may_downgrade x) _ w e)
  pending Call.DowngradeToUpgradable i w x g e f n = absurd (never (may_put x) _ w e)
  pending (Call.Put v) i w x g e f n = absurd (some_none n)
  pending _ i w x g e f n = absurd (none_some e)

  holding : (c : Call) (i : Inputs) (w : Within) (x : Place) → is_guard x ≡ true → Case Holding c i w x
  holding Call.Drop i w Place.Reading g e f n = so Holding Call.Drop i _ w Place.Reading Place.DropRead e refl (k.drop_reader i)
  holding Call.Drop i w Place.Upgradable g e f n = so Holding Call.Drop i _ w Place.Upgradable Place.DropUpgradable e refl (k.drop_upgradable i)
  holding Call.Drop i w Place.Writing g e f n = so Holding Call.Drop i _ w Place.Writing Place.DropWrite e refl (k.drop_writer i)
  holding Call.Drop i w _ g e f n = absurd (false≢true g)
  holding Call.Upgrade i w Place.Upgradable g e f n = so Holding Call.Upgrade i _ w Place.Upgradable Place.Upgrade e refl (k.upgrade i)
  holding Call.Upgrade i w _ g e f n = absurd (none_some e)
  holding Call.TryUpgrade i w Place.Upgradable g e f n = so Holding Call.TryUpgrade i _ w Place.Upgradable Place.TryUpgrade e refl (k.try_upgrade i)
  holding Call.TryUpgrade i w _ g e f n = absurd (none_some e)
  holding Call.Downgrade i w Place.Upgradable g e f n = so Holding Call.Downgrade i _ w Place.Upgradable (Place.ReleaseTurn Ending.Reading) e refl (k.downgrade_upgradable i)
  holding Call.Downgrade i w Place.Writing g e f n = so Holding Call.Downgrade i _ w Place.Writing (Place.Down false) e refl (k.downgrade_writer i)
  holding Call.Downgrade i w _ g e f n = absurd (none_some e)
  holding Call.DowngradeToUpgradable i w Place.Writing g e f n = so Holding Call.DowngradeToUpgradable i _ w Place.Writing (Place.Down true) e refl (k.to_upgradable i)
  holding Call.DowngradeToUpgradable i w _ g e f n = absurd (none_some e)
  holding Call.Poll i w x g e f n = absurd (cc)
  holding (Call.Put v) i w x g e f n = absurd (some_none n)
  holding _ i w x g e f n = absurd (none_some e)

  pub turn : (s : Stage) (what : What) (x : Place) (w : Within) → goes_with s x ≡ true → call_at (knows_at x) s what ≡ Some w → polls_again s what ≡ false → put_in what ≡ None → Turn P s what x w
  turn (Outside Idle) (Begin c i) x w g e f n = at_out (λ x. Case Idle c i w x) (idle c i w) x g e f n
  turn (Outside Pending) (Begin c i) x w g e f n = pending c i w x g e f n
  turn (Outside Holding) (Begin c i) x w g e f n = holding c i w x g e f n
  turn (Outside Finished) (Begin c i) x w g e f n = absurd (false≢true g)
  turn (Outside r) (Go i) x w g e f n = absurd (none_some e)
  turn (Inside v) (Begin c i) x w g e f n = absurd (none_some e)
  turn (Inside v) (Go i) x w g e f n =
      let on = and_parts (is_inside x) (is_on_course v.kind v.was (course_of x)) g in
      let Q : Within → Type 0 = λ y. Turn P (Inside v) (Go i) x y in
      subst Q (some_eq e) (record { from = x; starts = refl; holds = k.go v i x on.0 on.1 })
  turn Forgotten (Begin c i) x w g e f n = absurd (none_some e)
  turn Forgotten (Go i) x w g e f n = absurd (none_some e)

-- ---- what is known of a party

-- the calls that are known of a party outside every call are those of the right that it has
one_less : (b c : Bool) → b && false ≡ c && false
one_less true true = refl
one_less true false = refl
one_less false true = refl
one_less false false = refl

abbrev Known : Rest → Call → Place → Type 0
Known r c x = knows_at x c && may_begin r (kind_of c) ≡ knows (sought_at x) c && may_begin r (kind_of c)

at_guards : (c : Call) → AtGuard (Known Holding c)
at_guards Call.Upgrade = record { reading = refl; upgradable = refl; writing = refl }
at_guards _ = record { reading = refl; upgradable = refl; writing = refl }

known : (r : Rest) (c : Call) (x : Place) → goes_with (Outside r) x ≡ true → Known r c x
known Holding c x g = at_guard (Known Holding c) (at_guards c) x g
known Finished c x g = absurd (false≢true g)
known Idle Call.Upgrade x g = one_less (may_upgrade x) (knows (sought_at x) Call.Upgrade)
known Idle Call.TryUpgrade x g = one_less (may_upgrade x) (knows (sought_at x) Call.TryUpgrade)
known Idle Call.Downgrade x g = one_less (may_downgrade x) (knows (sought_at x) Call.Downgrade)
known Idle Call.DowngradeToUpgradable x g = one_less (may_put x) (knows (sought_at x) Call.DowngradeToUpgradable)
known Idle (Call.Put v) x g = one_less (may_put x) (knows (sought_at x) (Call.Put v))
known Idle _ x g = refl
known Pending Call.Upgrade x g = one_less (may_upgrade x) (knows (sought_at x) Call.Upgrade)
known Pending Call.TryUpgrade x g = one_less (may_upgrade x) (knows (sought_at x) Call.TryUpgrade)
known Pending Call.Downgrade x g = one_less (may_downgrade x) (knows (sought_at x) Call.Downgrade)
known Pending Call.DowngradeToUpgradable x g = one_less (may_put x) (knows (sought_at x) Call.DowngradeToUpgradable)
known Pending (Call.Put v) x g = one_less (may_put x) (knows (sought_at x) (Call.Put v))
known Pending _ x g = refl

pub known_at : (s : Stage) (what : What) (x : Place) → goes_with s x ≡ true → call_at (knows_at x) s what ≡ call_at (knows (sought_at x)) s what
known_at (Outside r) (Begin c i) x g = ap (λ b. if b then Some (within (kind_of c) r) else None) (known r c x g)
known_at (Outside r) (Go i) x g = refl
known_at (Inside w) (Begin c i) x g = refl
known_at (Inside w) (Go i) x g = refl
known_at Forgotten (Begin c i) x g = refl
known_at Forgotten (Go i) x g = refl
