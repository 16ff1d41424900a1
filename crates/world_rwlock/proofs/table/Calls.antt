-- What each move does, as its party stands: where it acts, in which call, and what it seeks then.
use Rattle.world_rwlock.proofs.Prelude.{◌≡◌, ℕ, true, false, Option, Some, None, refl, sym, ap, ◌∙◌, Answer, Call, Inputs, What, Begin, Go, Refusal, Kind, Rest, Stage, Outside, Within, within, aim, sought_after, is_drop, is_giving_back, put_in, Right, inside, is_decided, some_eq, NotFree, call_at, polls_again, TurnCourse, Wanted, Purpose, Ending, Next, Place, place_after, first_poll, SameRoles, knows_at, answer_by, sought_at, Course, tries_upgrade, course_of, is_on_course, is_inside, goes_with, share_of, is_upgrade, verdict, standing_at}
use Rattle.world_rwlock.proofs.of_machine.stages.Starts.{start_same}
use Rattle.world_rwlock.proofs.table.Begun.{Turn, turn}
use Rattle.world_rwlock.proofs.step.Paths.{InVain, Seeks}
use Rattle.world_rwlock.proofs.step.Rows.{lacks_memory}

-- ---- what is sought after an action

not_free_out : (c : Course) (q : Place) → (c ≡ tries_upgrade → ⊥) → InVain c q → q ≡ Place.Out
not_free_out tries_upgrade q n h = absurd (n refl)
not_free_out _ q n h = h

-- once a call has begun, but a try to upgrade
sought_begun : (o : Option Right) (c : Call) (i : Inputs) (v : ℕ) (from : Place) → sought_after o (Begin c i) Answer.None ≡ None → sought_at from ≡ aim o c → (course_of from ≡ tries_upgrade → ⊥)
    → (n : Next) → Seeks from n → sought_at (place_after n) ≡ sought_after o (Begin c i) (answer_by v n)
sought_begun o c i v from none e up (Next.Do a q) k = k ∙ e
sought_begun o c i v from none e up (Next.Wait q) k = k ∙ e
sought_begun o c i v from none e up (Next.End NotFree q) k = ap sought_at (not_free_out (course_of from) q up k) ∙ sym none
sought_begun o c i v from none e up (Next.End _ q) k = k ∙ e

sought_tried : (i : Inputs) (v : ℕ) (n : Next) → Seeks Place.TryUpgrade n → sought_at (place_after n) ≡ sought_after (sought_at Place.Upgradable) (Begin Call.TryUpgrade i) (answer_by v n)
sought_tried i v (Next.Do a q) k = k
sought_tried i v (Next.Wait q) k = k
sought_tried i v (Next.End NotFree q) k = ap sought_at k
sought_tried i v (Next.End _ q) k = k

-- no upgrade that is tried goes on
not_upgrading : (x : Place) → is_inside x ≡ true → course_of x ≡ tries_upgrade → ⊥
not_upgrading Place.TryUpgrade h e = absurd (cc)
not_upgrading (Place.RefuseNotify Refusal.Memory) h e = cc
not_upgrading (Place.RefuseNotify Refusal.Readers) h e = cc
not_upgrading (Place.RefuseNotify _) h e = cc
not_upgrading (Place.ReleaseTurn Ending.GivenBack) h e = cc
not_upgrading (Place.ReleaseTurn (Ending.NotFree p)) h e = cc
not_upgrading (Place.ReleaseTurn Ending.RefuseReaders) h e = cc
not_upgrading (Place.ReleaseTurn Ending.RefuseMemory) h e = cc
not_upgrading (Place.ReleaseTurn Ending.Reading) h e = cc
not_upgrading (Place.ReleaseTurn Ending.NotifyReaders) h e = cc
not_upgrading (Place.ReleasingTurn Ending.GivenBack) h e = cc
not_upgrading (Place.ReleasingTurn (Ending.NotFree p)) h e = cc
not_upgrading (Place.ReleasingTurn Ending.RefuseReaders) h e = cc
not_upgrading (Place.ReleasingTurn Ending.RefuseMemory) h e = cc
not_upgrading (Place.ReleasingTurn Ending.Reading) h e = cc
not_upgrading (Place.ReleasingTurn Ending.NotifyReaders) h e = cc
not_upgrading (Place.Add true) h e = cc
not_upgrading (Place.Add false) h e = cc
not_upgrading (Place.Unmark true) h e = cc
not_upgrading (Place.Unmark false) h e = cc
not_upgrading (Place.UnmarkNotify true) h e = cc
not_upgrading (Place.UnmarkNotify false) h e = cc
not_upgrading _ h e = cc

sought_on : (i : Inputs) (v : ℕ) (x : Place) → (course_of x ≡ tries_upgrade → ⊥) → (n : Next) → Seeks x n → sought_at (place_after n) ≡ sought_after (sought_at x) (Go i) (answer_by v n)
sought_on i v x up (Next.Do a q) k = k
sought_on i v x up (Next.Wait q) k = k
sought_on i v x up (Next.End NotFree q) k = ap sought_at (not_free_out (course_of x) q up k)
sought_on i v x up (Next.End _ q) k = k

-- ---- a move of a party that stands so

-- a party at this stage that is at x, and at t in the turn, acts at a place, in this call
pub record Moves (v : ℕ) (t : TurnCourse) (s : Stage) (what : What) (x : Place) (w : Within) (from : Place) : Type 0 where
  pub share : share_of from ≡ share_of x
  pub same : SameRoles from x
  pub course : is_on_course w.kind w.was (course_of from) ≡ true
  pub decided : (u : Within) (b : Answer) → standing_at v s x t ≡ inside u (Some b) → verdict v from t ≡ Some b
  pub gives : is_decided (standing_at v s x t) ≡ false → (b : Answer) → verdict v from t ≡ Some b → (Answer.GivenBack ≡ b) × (is_giving_back what ≡ true)
  pub lacking : lacks_memory from ≡ true → (a : Option Answer) × (standing_at v s x t ≡ inside w a)
  pub drop_is : is_drop what ≡ true → (verdict v from t ≡ Some Answer.GivenBack) × (w.kind ≡ Kind.Drop)
  pub upgrade : is_drop what ≡ false → is_upgrade from ≡ is_upgrade x
  pub sought : (n : Next) → Seeks from n → sought_at (place_after n) ≡ sought_after (sought_at x) what (answer_by v n)

same_at : (x : Place) → SameRoles x x
same_at x = record { reading = refl; marking = refl; turning = refl; writing = refl; standing_w = refl; waiting_w = refl; owing_w = refl; standing_r = refl; waiting_r = refl; owing_r = refl; in_turn = refl }

module _ (v : ℕ) (t : TurnCourse) where
  -- a call that begins
  opened : (r : Rest) (c : Call) (i : Inputs) (x : Place) (w : Within) (from : Place) → share_of from ≡ share_of x → SameRoles from x → is_on_course w.kind w.was (course_of from) ≡ true → lacks_memory from ≡ false
      → ((b : Answer) → verdict v from t ≡ Some b → (Answer.GivenBack ≡ b) × (is_giving_back (Begin c i) ≡ true)) → (is_drop (Begin c i) ≡ true → (verdict v from t ≡ Some Answer.GivenBack) × (w.kind ≡ Kind.Drop))
      → (is_drop (Begin c i) ≡ false → is_upgrade from ≡ is_upgrade x) → ((n : Next) → Seeks from n → sought_at (place_after n) ≡ sought_after (sought_at x) (Begin c i) (answer_by v n)) → Moves v t (Outside r) (Begin c i) x w from
  opened r c i x w from share same course lacks gives drop_is upgrade sought = record {
    share = share;
    same = same;
    course = course;
    decided = λ u b d. absurd (cc);
    gives = λ u b d. gives b d;
    lacking = λ h. absurd (cc);
    drop_is = drop_is;
    upgrade = upgrade;
    sought = sought;
  }

  undecided : (w : Within) (o : Option Answer) → is_decided (inside w o) ≡ false → o ≡ None
  undecided w None h = refl
  undecided w (Some a) h = absurd (cc)

  inside_eq : (w u : Within) (o p : Option Answer) → inside w o ≡ inside u p → o ≡ p
  inside_eq w u o p e = cc

  pub moving : (s : Stage) (what : What) (x : Place) (w : Within) → goes_with s x ≡ true → call_at (knows_at x) s what ≡ Some w → polls_again s what ≡ false → put_in what ≡ None → Turn (Moves v t) s what x w
  moving = turn (Moves v t) (record {
    read = λ i. opened Rest.Idle Call.Read i Place.Out (within Kind.FirstPoll Rest.Idle) (Place.EnterRead false) refl (start_same Call.Read Place.Out (Place.EnterRead false) refl) refl refl (λ b d. absurd (cc)) (λ d. absurd (cc)) (λ d. refl) (sought_begun (sought_at Place.Out) Call.Read i v (Place.EnterRead false) refl refl (λ e. absurd (cc)));
    upgradable = λ i. opened Rest.Idle Call.UpgradableRead i Place.Out (within Kind.FirstPoll Rest.Idle) (Place.EnterTurn Purpose.UpgradableRead) refl (start_same Call.UpgradableRead Place.Out (Place.EnterTurn Purpose.UpgradableRead) refl) refl refl (λ b d. absurd (cc)) (λ d. absurd (cc)) (λ d. refl) (sought_begun (sought_at Place.Out) Call.UpgradableRead i v (Place.EnterTurn Purpose.UpgradableRead) refl refl (λ e. absurd (cc)));
    write = λ i. opened Rest.Idle Call.Write i Place.Out (within Kind.FirstPoll Rest.Idle) (Place.EnterTurn Purpose.Write) refl (start_same Call.Write Place.Out (Place.EnterTurn Purpose.Write) refl) refl refl (λ b d. absurd (cc)) (λ d. absurd (cc)) (λ d. refl) (sought_begun (sought_at Place.Out) Call.Write i v (Place.EnterTurn Purpose.Write) refl refl (λ e. absurd (cc)));
    try_read = λ i. opened Rest.Idle Call.TryRead i Place.Out (within Kind.Try Rest.Idle) Place.TryRead refl (start_same Call.TryRead Place.Out Place.TryRead refl) refl refl (λ b d. absurd (cc)) (λ d. absurd (cc)) (λ d. refl) (sought_begun (sought_at Place.Out) Call.TryRead i v Place.TryRead refl refl (λ e. absurd (cc)));
    try_upgradable = λ i. opened Rest.Idle Call.TryUpgradableRead i Place.Out (within Kind.Try Rest.Idle) (Place.TryTurn Purpose.UpgradableRead) refl (start_same Call.TryUpgradableRead Place.Out (Place.TryTurn Purpose.UpgradableRead) refl) refl refl (λ b d. absurd (cc)) (λ d. absurd (cc)) (λ d. refl) (sought_begun (sought_at Place.Out) Call.TryUpgradableRead i v (Place.TryTurn Purpose.UpgradableRead) refl refl (λ e. absurd (cc)));
    try_write = λ i. opened Rest.Idle Call.TryWrite i Place.Out (within Kind.Try Rest.Idle) (Place.TryTurn Purpose.Write) refl (start_same Call.TryWrite Place.Out (Place.TryTurn Purpose.Write) refl) refl refl (λ b d. absurd (cc)) (λ d. absurd (cc)) (λ d. refl) (sought_begun (sought_at Place.Out) Call.TryWrite i v (Place.TryTurn Purpose.Write) refl refl (λ e. absurd (cc)));
    poll_made = made;
    poll_no_writer = λ i. opened Rest.Pending Call.Poll i Place.AskNoWriter (within Kind.LaterPoll Rest.Pending) Place.AskNoWriter refl (same_at Place.AskNoWriter) refl refl (λ b d. absurd (cc)) (λ d. absurd (cc)) (λ d. refl) (sought_begun (sought_at Place.AskNoWriter) Call.Poll i v Place.AskNoWriter refl refl (λ e. absurd (cc)));
    poll_turn = λ p i. opened Rest.Pending Call.Poll i (Place.WaitTurn p) (within Kind.LaterPoll Rest.Pending) (Place.WaitTurn p) refl (same_at (Place.WaitTurn p)) refl refl (λ b d. absurd (cc)) (λ d. absurd (cc)) (λ d. refl) (sought_begun (sought_at (Place.WaitTurn p)) Call.Poll i v (Place.WaitTurn p) refl refl (λ e. absurd (cc)));
    poll_no_readers = λ u i. opened Rest.Pending Call.Poll i (Place.AwaitNoReaders u) (within Kind.LaterPoll Rest.Pending) (Place.AwaitNoReaders u) refl (same_at (Place.AwaitNoReaders u)) refl refl (λ b d. absurd (cc)) (λ d. absurd (cc)) (λ d. refl) (sought_begun (sought_at (Place.AwaitNoReaders u)) Call.Poll i v (Place.AwaitNoReaders u) refl refl (λ e. absurd (cc)));
    poll_upgrade = λ i. opened Rest.Pending Call.Poll i (Place.LookUnlisted true) (within Kind.LaterPoll Rest.Pending) (Place.LookUnlisted true) refl (same_at (Place.LookUnlisted true)) refl refl (λ b d. absurd (cc)) (λ d. absurd (cc)) (λ d. refl) (sought_begun (sought_at (Place.LookUnlisted true)) Call.Poll i v (Place.LookUnlisted true) refl refl (λ e. absurd (cc)));
    drop_made = λ m i. opened Rest.Pending Call.Drop i (Place.Made m) (within Kind.Drop Rest.Pending) Place.Out refl (start_same Call.Drop (Place.Made m) Place.Out refl) refl refl (λ b d. (some_eq d, refl)) (λ d. (refl, refl)) (λ d. absurd (cc)) (sought_begun (sought_at (Place.Made m)) Call.Drop i v Place.Out refl refl (λ e. absurd (cc)));
    drop_no_writer = λ i. opened Rest.Pending Call.Drop i Place.AskNoWriter (within Kind.Drop Rest.Pending) Place.CancelRead refl (start_same Call.Drop Place.AskNoWriter Place.CancelRead refl) refl refl (λ b d. (some_eq d, refl)) (λ d. (refl, refl)) (λ d. absurd (cc)) (sought_begun (sought_at Place.AskNoWriter) Call.Drop i v Place.CancelRead refl refl (λ e. absurd (cc)));
    drop_turn = λ p i. opened Rest.Pending Call.Drop i (Place.WaitTurn p) (within Kind.Drop Rest.Pending) Place.CancelTurn refl (start_same Call.Drop (Place.WaitTurn p) Place.CancelTurn refl) refl refl (λ b d. (some_eq d, refl)) (λ d. (refl, refl)) (λ d. absurd (cc)) (sought_begun (sought_at (Place.WaitTurn p)) Call.Drop i v Place.CancelTurn refl refl (λ e. absurd (cc)));
    drop_no_readers = λ u i. opened Rest.Pending Call.Drop i (Place.AwaitNoReaders u) (within Kind.Drop Rest.Pending) Place.CancelAwait refl (start_same Call.Drop (Place.AwaitNoReaders u) Place.CancelAwait refl) refl refl (λ b d. (some_eq d, refl)) (λ d. (refl, refl)) (λ d. absurd (cc)) (sought_begun (sought_at (Place.AwaitNoReaders u)) Call.Drop i v Place.CancelAwait refl refl (λ e. absurd (cc)));
    drop_upgrade = λ i. opened Rest.Pending Call.Drop i (Place.LookUnlisted true) (within Kind.Drop Rest.Pending) (Place.Unmark false) refl (start_same Call.Drop (Place.LookUnlisted true) (Place.Unmark false) refl) refl refl (λ b d. (some_eq d, refl)) (λ d. (refl, refl)) (λ d. absurd (cc)) (sought_begun (sought_at (Place.LookUnlisted true)) Call.Drop i v (Place.Unmark false) refl refl (λ e. absurd (cc)));
    drop_reader = λ i. opened Rest.Holding Call.Drop i Place.Reading (within Kind.Drop Rest.Holding) Place.DropRead refl (start_same Call.Drop Place.Reading Place.DropRead refl) refl refl (λ b d. (some_eq d, refl)) (λ d. (refl, refl)) (λ d. absurd (cc)) (sought_begun (sought_at Place.Reading) Call.Drop i v Place.DropRead refl refl (λ e. absurd (cc)));
    drop_upgradable = λ i. opened Rest.Holding Call.Drop i Place.Upgradable (within Kind.Drop Rest.Holding) Place.DropUpgradable refl (start_same Call.Drop Place.Upgradable Place.DropUpgradable refl) refl refl (λ b d. (some_eq d, refl)) (λ d. (refl, refl)) (λ d. absurd (cc)) (sought_begun (sought_at Place.Upgradable) Call.Drop i v Place.DropUpgradable refl refl (λ e. absurd (cc)));
    drop_writer = λ i. opened Rest.Holding Call.Drop i Place.Writing (within Kind.Drop Rest.Holding) Place.DropWrite refl (start_same Call.Drop Place.Writing Place.DropWrite refl) refl refl (λ b d. (some_eq d, refl)) (λ d. (refl, refl)) (λ d. absurd (cc)) (sought_begun (sought_at Place.Writing) Call.Drop i v Place.DropWrite refl refl (λ e. absurd (cc)));
    upgrade = λ i. opened Rest.Holding Call.Upgrade i Place.Upgradable (within Kind.Upgrade Rest.Holding) Place.Upgrade refl (start_same Call.Upgrade Place.Upgradable Place.Upgrade refl) refl refl (λ b d. absurd (cc)) (λ d. absurd (cc)) (λ d. refl) (sought_begun (sought_at Place.Upgradable) Call.Upgrade i v Place.Upgrade refl refl (λ e. absurd (cc)));
    try_upgrade = λ i. opened Rest.Holding Call.TryUpgrade i Place.Upgradable (within Kind.TryUpgrade Rest.Holding) Place.TryUpgrade refl (start_same Call.TryUpgrade Place.Upgradable Place.TryUpgrade refl) refl refl (λ b d. absurd (cc)) (λ d. absurd (cc)) (λ d. refl) (sought_tried i v);
    downgrade_upgradable = λ i. opened Rest.Holding Call.Downgrade i Place.Upgradable (within Kind.Downgrade Rest.Holding) (Place.ReleaseTurn Ending.Reading) refl (start_same Call.Downgrade Place.Upgradable (Place.ReleaseTurn Ending.Reading) refl) refl refl (λ b d. (some_eq d, refl)) (λ d. absurd (cc)) (λ d. refl) (sought_begun (sought_at Place.Upgradable) Call.Downgrade i v (Place.ReleaseTurn Ending.Reading) refl refl (λ e. absurd (cc)));
    downgrade_writer = λ i. opened Rest.Holding Call.Downgrade i Place.Writing (within Kind.Downgrade Rest.Holding) (Place.Down false) refl (start_same Call.Downgrade Place.Writing (Place.Down false) refl) refl refl (λ b d. absurd (cc)) (λ d. absurd (cc)) (λ d. refl) (sought_begun (sought_at Place.Writing) Call.Downgrade i v (Place.Down false) refl refl (λ e. absurd (cc)));
    to_upgradable = λ i. opened Rest.Holding Call.DowngradeToUpgradable i Place.Writing (within Kind.Downgrade Rest.Holding) (Place.Down true) refl (start_same Call.DowngradeToUpgradable Place.Writing (Place.Down true) refl) refl refl (λ b d. absurd (cc)) (λ d. absurd (cc)) (λ d. refl) (sought_begun (sought_at Place.Writing) Call.DowngradeToUpgradable i v (Place.Down true) refl refl (λ e. absurd (cc)));
    go = λ w i x here on. record {
      share = refl;
      same = same_at x;
      course = on;
      decided = λ u b d. inside_eq w u (verdict v x t) (Some b) d;
      gives = λ u b some. let none = undecided w (verdict v x t) u in absurd (cc);
      lacking = λ h. (verdict v x t, refl);
      drop_is = λ d. absurd (cc);
      upgrade = λ d. refl;
      sought = sought_on i v x (not_upgrading x here);
    };
  }) where
    made : (m : _) (i : Inputs) → Moves v t (Outside Rest.Pending) (Begin Call.Poll i) (Place.Made m) (within Kind.LaterPoll Rest.Pending) (first_poll m)
    made Wanted.Read i = opened Rest.Pending Call.Poll i (Place.Made Wanted.Read) (within Kind.LaterPoll Rest.Pending) (Place.EnterRead false) refl (start_same Call.Poll (Place.Made Wanted.Read) (Place.EnterRead false) refl) refl refl (λ b d. absurd (cc)) (λ d. absurd (cc)) (λ d. refl) (sought_begun (sought_at (Place.Made Wanted.Read)) Call.Poll i v (Place.EnterRead false) refl refl (λ e. absurd (cc)))
    made Wanted.UpgradableRead i = opened Rest.Pending Call.Poll i (Place.Made Wanted.UpgradableRead) (within Kind.LaterPoll Rest.Pending) (Place.EnterTurn Purpose.UpgradableRead) refl (start_same Call.Poll (Place.Made Wanted.UpgradableRead) (Place.EnterTurn Purpose.UpgradableRead) refl) refl refl (λ b d. absurd (cc)) (λ d. absurd (cc)) (λ d. refl) (sought_begun (sought_at (Place.Made Wanted.UpgradableRead)) Call.Poll i v (Place.EnterTurn Purpose.UpgradableRead) refl refl (λ e. absurd (cc)))
    made Wanted.Write i = opened Rest.Pending Call.Poll i (Place.Made Wanted.Write) (within Kind.LaterPoll Rest.Pending) (Place.EnterTurn Purpose.Write) refl (start_same Call.Poll (Place.Made Wanted.Write) (Place.EnterTurn Purpose.Write) refl) refl refl (λ b d. absurd (cc)) (λ d. absurd (cc)) (λ d. refl) (sought_begun (sought_at (Place.Made Wanted.Write)) Call.Poll i v (Place.EnterTurn Purpose.Write) refl refl (λ e. absurd (cc)))
