-- Who has still to notify in a list, or to look, by the place at which a party stands.
use Rattle.world_rwlock.proofs.Prelude.{◌≡◌, ℕ, ◌<◌, true, false, refl, arith, sym, ◌∙◌, false≢true, Kind, Rest, Stage, Outside, Inside, Forgotten, Within, is_outside_stage, is_decided, none_decided, TurnCourse, out, holding, taking, releasing, undecided, called, counting, has_lock, giving_up as gives_up, is_out, is_holding, is_waiting, is_cancelling, is_releasing, is_due, counted, listed, Ending, Place, Purpose, in_no_writer, waits_no_writer, owes_no_writer, in_no_readers, waits_no_readers, owes_no_readers, fits_turn, is_resting, sought_at, goes_with, is_on_course, drops, standing_at, is_due_for_turn, is_due_to_readers, is_due_to_writer, is_drop_kind, is_refused, is_to_read, Bool, ◌⊎◌, inl, inr, ListName, for_the_turn, for_no_writer, for_no_readers, owes_in, owing_at, is_for_turn}

-- ---- who rests

pub rest_waits_writer : (x : Place) → is_resting x ≡ true → waits_no_writer x ≡ in_no_writer x
rest_waits_writer Place.AskNoWriter h = refl
rest_waits_writer Place.Out h = refl
rest_waits_writer (Place.Made w) h = refl
rest_waits_writer Place.Reading h = refl
rest_waits_writer Place.Upgradable h = refl
rest_waits_writer Place.Writing h = refl
rest_waits_writer (Place.WaitTurn p) h = refl
rest_waits_writer (Place.AwaitNoReaders u) h = refl
rest_waits_writer (Place.LookUnlisted true) h = refl
rest_waits_writer (Place.LookUnlisted false) h = absurd (cc h)
rest_waits_writer _ h = absurd (cc h)

pub rest_waits_readers : (x : Place) → is_resting x ≡ true → waits_no_readers x ≡ in_no_readers x
rest_waits_readers Place.AskNoWriter h = refl
rest_waits_readers Place.Out h = refl
rest_waits_readers (Place.Made w) h = refl
rest_waits_readers Place.Reading h = refl
rest_waits_readers Place.Upgradable h = refl
rest_waits_readers Place.Writing h = refl
rest_waits_readers (Place.WaitTurn p) h = refl
rest_waits_readers (Place.AwaitNoReaders u) h = refl
rest_waits_readers (Place.LookUnlisted true) h = refl
rest_waits_readers (Place.LookUnlisted false) h = absurd (cc h)
rest_waits_readers _ h = absurd (cc h)

rest_owes_writer : (x : Place) → is_resting x ≡ true → owes_no_writer x ≡ 0
rest_owes_writer Place.AskNoWriter h = refl
rest_owes_writer Place.Out h = refl
rest_owes_writer (Place.Made w) h = refl
rest_owes_writer Place.Reading h = refl
rest_owes_writer Place.Upgradable h = refl
rest_owes_writer Place.Writing h = refl
rest_owes_writer (Place.WaitTurn p) h = refl
rest_owes_writer (Place.AwaitNoReaders u) h = refl
rest_owes_writer (Place.LookUnlisted u) h = refl
rest_owes_writer _ h = absurd (cc h)

rest_owes_readers : (x : Place) → is_resting x ≡ true → owes_no_readers x ≡ 0
rest_owes_readers Place.AskNoWriter h = refl
rest_owes_readers Place.Out h = refl
rest_owes_readers (Place.Made w) h = refl
rest_owes_readers Place.Reading h = refl
rest_owes_readers Place.Upgradable h = refl
rest_owes_readers Place.Writing h = refl
rest_owes_readers (Place.WaitTurn p) h = refl
rest_owes_readers (Place.AwaitNoReaders u) h = refl
rest_owes_readers (Place.LookUnlisted u) h = refl
rest_owes_readers _ h = absurd (cc h)

-- who rests in the turn's list waits there
listed_out : (t : TurnCourse) → is_out t ≡ true → listed t ≡ 0
listed_out out h = refl
listed_out _ h = absurd (cc h)

listed_holding : (t : TurnCourse) → is_holding t ≡ true → listed t ≡ 0
listed_holding holding h = refl
listed_holding _ h = absurd (cc h)

pub rest_waits_turn : (x : Place) (t : TurnCourse) → is_resting x ≡ true → fits_turn x t ≡ true → 0 < listed t → is_waiting t ≡ true
rest_waits_turn (Place.WaitTurn p) t h f some = f
rest_waits_turn Place.AskNoWriter t h f some = absurd (omega (arith, some, listed_out t f))
rest_waits_turn Place.Out t h f some = absurd (omega (arith, some, listed_out t f))
rest_waits_turn (Place.Made w) t h f some = absurd (omega (arith, some, listed_out t f))
rest_waits_turn Place.Reading t h f some = absurd (omega (arith, some, listed_out t f))
rest_waits_turn Place.Upgradable t h f some = absurd (omega (arith, some, listed_holding t f))
rest_waits_turn Place.Writing t h f some = absurd (omega (arith, some, listed_holding t f))
rest_waits_turn (Place.AwaitNoReaders u) t h f some = absurd (omega (arith, some, listed_holding t f))
rest_waits_turn (Place.LookUnlisted u) t h f some = absurd (omega (arith, some, listed_holding t f))
rest_waits_turn _ t h f some = absurd (cc h)

-- ---- who is due for the turn

-- who is due there moves
record Moves (t : TurnCourse) : Type 0 where
  pub not_out : is_out t ≡ false
  pub not_holding : is_holding t ≡ false
  pub not_waiting : is_waiting t ≡ false
  pub not_cancelling : is_cancelling t ≡ false

due_moves : (t : TurnCourse) → is_due t ≡ true → Moves t
due_moves (taking progress s l b) h = record { not_out = refl; not_holding = refl; not_waiting = refl; not_cancelling = refl }
due_moves releasing h = record { not_out = refl; not_holding = refl; not_waiting = refl; not_cancelling = refl }
due_moves _ h = absurd (cc h)

polls_due : (v : ℕ) (w : Within) (p : _) (t : TurnCourse) → is_due t ≡ true → is_waiting t ≡ false → is_due_for_turn (standing_at v (Inside w) (Place.TakeTurn p) t) (sought_at (Place.TakeTurn p)) ≡ true
polls_due v w Purpose.UpgradableRead (taking undecided s l b) h n = refl
polls_due v w Purpose.UpgradableRead (taking called s l b) h n = refl
polls_due v w Purpose.UpgradableRead (taking counting s l b) h n = refl
polls_due v w Purpose.UpgradableRead (taking (gives_up r) s l b) h n = refl
polls_due v w Purpose.UpgradableRead (taking has_lock s l b) h n = absurd (cc h)
polls_due v w Purpose.UpgradableRead releasing h n = refl
polls_due v w Purpose.UpgradableRead _ h n = absurd (cc h)
polls_due v w Purpose.Write (taking undecided s l b) h n = refl
polls_due v w Purpose.Write (taking called s l b) h n = refl
polls_due v w Purpose.Write (taking counting s l b) h n = refl
polls_due v w Purpose.Write (taking (gives_up r) s l b) h n = refl
polls_due v w Purpose.Write (taking has_lock s l b) h n = absurd (cc h)
polls_due v w Purpose.Write releasing h n = refl
polls_due v w Purpose.Write _ h n = absurd (cc h)

due_inside : (v : ℕ) (w : Within) (x : Place) (t : TurnCourse) → fits_turn x t ≡ true → is_due t ≡ true → Moves t → is_due_for_turn (standing_at v (Inside w) x t) (sought_at x) ≡ true
due_inside v w (Place.TakeTurn p) t f h m = polls_due v w p t h m.not_waiting
due_inside v w (Place.ReleasingTurn Ending.GivenBack) t f h m = refl
due_inside v w (Place.ReleasingTurn (Ending.NotFree p)) t f h m = refl
due_inside v w (Place.ReleasingTurn Ending.RefuseReaders) t f h m = refl
due_inside v w (Place.ReleasingTurn Ending.RefuseMemory) t f h m = refl
due_inside v w (Place.ReleasingTurn Ending.Reading) t f h m = refl
due_inside v w (Place.ReleasingTurn Ending.NotifyReaders) t f h m = refl
due_inside v w (Place.WaitTurn p) t f h m = absurd (false≢true (sym m.not_waiting ∙ f))
due_inside v w Place.CancelTurn t f h m = absurd (false≢true (sym m.not_waiting ∙ f))
due_inside v w Place.CancellingTurn t f h m = absurd (false≢true (sym m.not_cancelling ∙ f))
due_inside v w _ t f h m = absurd (cc (f, m.not_out, m.not_holding))

-- who rests isn't due there
rest_undue : (x : Place) (t : TurnCourse) → is_resting x ≡ true → fits_turn x t ≡ true → Moves t → ⊥
rest_undue (Place.WaitTurn p) t h f m = false≢true (sym m.not_waiting ∙ f)
rest_undue Place.AskNoWriter t h f m = false≢true (sym m.not_out ∙ f)
rest_undue Place.Out t h f m = false≢true (sym m.not_out ∙ f)
rest_undue (Place.Made w) t h f m = false≢true (sym m.not_out ∙ f)
rest_undue Place.Reading t h f m = false≢true (sym m.not_out ∙ f)
rest_undue Place.Upgradable t h f m = false≢true (sym m.not_holding ∙ f)
rest_undue Place.Writing t h f m = false≢true (sym m.not_holding ∙ f)
rest_undue (Place.AwaitNoReaders u) t h f m = false≢true (sym m.not_holding ∙ f)
rest_undue (Place.LookUnlisted u) t h f m = false≢true (sym m.not_holding ∙ f)
rest_undue _ t h f m = cc h

pub due_at : (v : ℕ) (s : Stage) (x : Place) (t : TurnCourse) → (is_outside_stage s ≡ true → is_resting x ≡ true) → fits_turn x t ≡ true → is_due t ≡ true → is_due_for_turn (standing_at v s x t) (sought_at x) ≡ true
due_at v (Inside w) x t rests f h = due_inside v w x t f h (due_moves t h)
due_at v (Outside r) x t rests f h = absurd (rest_undue x t (rests refl) f (due_moves t h))
due_at v Forgotten x t rests f h = absurd (rest_undue x t (rests refl) f (due_moves t h))

-- such a party is listed there only while it is starved and undecided
pub due_unstarved : (t : TurnCourse) → is_due t ≡ true → counted t ≡ 0 → listed t ≡ 0
due_unstarved (taking undecided true l b) h none = absurd (omega arith)
due_unstarved (taking undecided false l b) h none = absurd (cc h)
due_unstarved (taking called s true b) h none = absurd (cc h)
due_unstarved (taking called s false b) h none = refl
due_unstarved (taking counting s true b) h none = absurd (cc h)
due_unstarved (taking counting s false b) h none = refl
due_unstarved (taking (gives_up r) s true b) h none = absurd (cc h)
due_unstarved (taking (gives_up r) s false b) h none = refl
due_unstarved (taking has_lock s l b) h none = absurd (cc h)
due_unstarved releasing h none = refl
due_unstarved _ h none = absurd (cc h)

listed_releasing : (t : TurnCourse) → is_releasing t ≡ true → listed t ≡ 0
listed_releasing releasing h = refl
listed_releasing _ h = absurd (cc h)

polls_unlisted : (v : ℕ) (s : Stage) (p : _) (t : TurnCourse) → is_due t ≡ true → is_decided (standing_at v s (Place.TakeTurn p) t) ≡ true → listed t ≡ 0
polls_unlisted v s p (taking undecided c l b) h d = absurd (none_decided s d)
polls_unlisted v s p (taking called c l b) h d = absurd (none_decided s d)
polls_unlisted v s p (taking counting c l b) h d = absurd (none_decided s d)
polls_unlisted v s p (taking (gives_up r) c true b) h d = absurd (cc h)
polls_unlisted v s p (taking (gives_up r) c false b) h d = refl
polls_unlisted v s p (taking has_lock c l b) h d = absurd (cc h)
polls_unlisted v s p releasing h d = refl
polls_unlisted v s p _ h d = absurd (cc h)

decided_by : (v : ℕ) (s : Stage) (x : Place) (t : TurnCourse) → fits_turn x t ≡ true → is_due t ≡ true → Moves t → is_decided (standing_at v s x t) ≡ true → listed t ≡ 0
decided_by v s (Place.TakeTurn p) t f h m d = polls_unlisted v s p t h d
decided_by v s (Place.ReleasingTurn e) t f h m d = listed_releasing t f
decided_by v s (Place.WaitTurn p) t f h m d = absurd (false≢true (sym m.not_waiting ∙ f))
decided_by v s Place.CancelTurn t f h m d = absurd (false≢true (sym m.not_waiting ∙ f))
decided_by v s Place.CancellingTurn t f h m d = absurd (false≢true (sym m.not_cancelling ∙ f))
decided_by v s _ t f h m d = absurd (cc (f, m.not_out, m.not_holding))

pub decided_unlisted : (v : ℕ) (s : Stage) (x : Place) (t : TurnCourse) → fits_turn x t ≡ true → is_due t ≡ true → is_decided (standing_at v s x t) ≡ true → listed t ≡ 0
decided_unlisted v s x t f h d = decided_by v s x t f h (due_moves t h) d

-- ---- what a due party owes once it is decided

abbrev pub Owing : ListName → ℕ → Stage → Place → TurnCourse → Bool → Type 0
Owing list v s x t polls = is_decided (standing_at v s x t) ≡ true → (owes_in list (owing_at x) ≡ true) ⊎ ((is_refused (standing_at v s x t) ≡ true) × (polls ≡ true))

polls_owe : (v : ℕ) (w : Within) (p : _) (t : TurnCourse) → is_due t ≡ true → Owing for_the_turn v (Inside w) (Place.TakeTurn p) t (is_for_turn (sought_at (Place.TakeTurn p)))
polls_owe v w p (taking undecided c l b) h = λ d. absurd (none_decided (Inside w) d)
polls_owe v w p (taking called c l b) h = λ d. absurd (none_decided (Inside w) d)
polls_owe v w p (taking counting c l b) h = λ d. absurd (none_decided (Inside w) d)
polls_owe v w Purpose.UpgradableRead (taking (gives_up r) c l b) h = λ d. inr (refl, refl)
polls_owe v w Purpose.Write (taking (gives_up r) c l b) h = λ d. inr (refl, refl)
polls_owe v w p (taking has_lock c l b) h = absurd (cc h)
polls_owe v w p releasing h = λ d. absurd (none_decided (Inside w) d)
polls_owe v w p _ h = absurd (cc h)

owes_by : (v : ℕ) (w : Within) (x : Place) (t : TurnCourse) → fits_turn x t ≡ true → is_due t ≡ true → Moves t → Owing for_the_turn v (Inside w) x t (is_for_turn (sought_at x))
owes_by v w (Place.TakeTurn p) t f h m = polls_owe v w p t h
owes_by v w (Place.ReleasingTurn e) t f h m = λ d. inl refl
owes_by v w (Place.WaitTurn p) t f h m = absurd (false≢true (sym m.not_waiting ∙ f))
owes_by v w Place.CancelTurn t f h m = absurd (false≢true (sym m.not_waiting ∙ f))
owes_by v w Place.CancellingTurn t f h m = absurd (false≢true (sym m.not_cancelling ∙ f))
owes_by v w _ t f h m = absurd (cc (f, m.not_out, m.not_holding))

pub owes_for_turn : (v : ℕ) (s : Stage) (x : Place) (t : TurnCourse) → (is_outside_stage s ≡ true → is_resting x ≡ true) → fits_turn x t ≡ true → is_due t ≡ true → Owing for_the_turn v s x t (is_for_turn (sought_at x))
owes_for_turn v (Inside w) x t rests f h = owes_by v w x t f h (due_moves t h)
owes_for_turn v (Outside r) x t rests f h = absurd (rest_undue x t (rests refl) f (due_moves t h))
owes_for_turn v Forgotten x t rests f h = absurd (rest_undue x t (rests refl) f (due_moves t h))

reads_owe : (v : ℕ) (w : Within) (x : Place) (t : TurnCourse) → 0 < owes_no_writer x → Owing for_no_writer v (Inside w) x t (is_to_read (sought_at x))
reads_owe v w Place.PassOn t some = λ d. absurd (none_decided (Inside w) d)
reads_owe v w (Place.RefuseNotify r) t some = λ d. inr (refl, refl)
reads_owe v w (Place.ReleaseTurn Ending.NotifyReaders) t some = λ d. inl refl
reads_owe v w (Place.ReleasingTurn Ending.NotifyReaders) t some = λ d. inl refl
reads_owe v w (Place.ReleaseTurn _) t some = absurd (omega arith)
reads_owe v w (Place.ReleasingTurn _) t some = absurd (omega arith)
reads_owe v w (Place.UnmarkNotify refused) t some = λ d. inl refl
reads_owe v w Place.DownNotify t some = λ d. inl refl
reads_owe v w Place.DowngradeNotify t some = λ d. inl refl
reads_owe v w _ t some = absurd (omega arith)

pub owes_to_readers : (v : ℕ) (s : Stage) (x : Place) (t : TurnCourse) → (is_outside_stage s ≡ true → is_resting x ≡ true) → 0 < owes_no_writer x → Owing for_no_writer v s x t (is_to_read (sought_at x))
owes_to_readers v (Inside w) x t rests some = reads_owe v w x t some
owes_to_readers v (Outside r) x t rests some = let none = rest_owes_writer x (rests refl) in absurd (omega (arith, some, none))
owes_to_readers v Forgotten x t rests some = let none = rest_owes_writer x (rests refl) in absurd (omega (arith, some, none))

pub owes_to_writer : (x : Place) → 0 < owes_no_readers x → owes_in for_no_readers (owing_at x) ≡ true
owes_to_writer Place.DropReadNotify some = refl
owes_to_writer Place.DropUpgradableNotify some = refl
owes_to_writer _ some = absurd (omega arith)

-- ---- who is due to readers, and to the writer

reads_due : (v : ℕ) (w : Within) (x : Place) (t : TurnCourse) → 0 < owes_no_writer x → is_due_to_readers (standing_at v (Inside w) x t) (sought_at x) ≡ true
reads_due v w Place.PassOn t some = refl
reads_due v w (Place.RefuseNotify r) t some = refl
reads_due v w (Place.ReleaseTurn Ending.NotifyReaders) t some = refl
reads_due v w (Place.ReleasingTurn Ending.NotifyReaders) t some = refl
reads_due v w (Place.ReleaseTurn _) t some = absurd (omega arith)
reads_due v w (Place.ReleasingTurn _) t some = absurd (omega arith)
reads_due v w (Place.UnmarkNotify true) t some = refl
reads_due v w (Place.UnmarkNotify false) t some = refl
reads_due v w Place.DownNotify t some = refl
reads_due v w Place.DowngradeNotify t some = refl
reads_due v w _ t some = absurd (omega arith)

pub due_to_readers : (v : ℕ) (s : Stage) (x : Place) (t : TurnCourse) → (is_outside_stage s ≡ true → is_resting x ≡ true) → 0 < owes_no_writer x → is_due_to_readers (standing_at v s x t) (sought_at x) ≡ true
due_to_readers v (Inside w) x t rests some = reads_due v w x t some
due_to_readers v (Outside r) x t rests some = let none = rest_owes_writer x (rests refl) in absurd (omega (arith, some, none))
due_to_readers v Forgotten x t rests some = let none = rest_owes_writer x (rests refl) in absurd (omega (arith, some, none))

pub unlisted_to_readers : (x : Place) → 0 < owes_no_writer x → in_no_writer x ≡ 0
unlisted_to_readers (Place.LookNoWriter told) some = absurd (omega arith)
unlisted_to_readers (Place.RefuseLeave told) some = absurd (omega arith)
unlisted_to_readers Place.AskNoWriter some = absurd (omega arith)
unlisted_to_readers Place.LeaveNoWriter some = absurd (omega arith)
unlisted_to_readers Place.CancelRead some = absurd (omega arith)
unlisted_to_readers _ some = refl

drops_kind : (k : Kind) (r : Rest) → is_on_course k r drops ≡ true → is_drop_kind k ≡ true
drops_kind Kind.Drop r h = refl
drops_kind Kind.FirstPoll Rest.Idle h = absurd (cc h)
drops_kind Kind.LaterPoll Rest.Pending h = absurd (cc h)
drops_kind Kind.Try Rest.Idle h = absurd (cc h)
drops_kind Kind.Downgrade Rest.Holding h = absurd (cc h)
drops_kind Kind.Upgrade Rest.Holding h = absurd (cc h)
drops_kind Kind.TryUpgrade Rest.Holding h = absurd (cc h)
drops_kind _ r h = absurd (cc h)

writes_due : (v : ℕ) (w : Within) (x : Place) (t : TurnCourse) → goes_with (Inside w) x ≡ true → 0 < owes_no_readers x → is_due_to_writer (standing_at v (Inside w) x t) ≡ true
writes_due v w Place.DropReadNotify t g some = drops_kind w.kind w.was g
writes_due v w Place.DropUpgradableNotify t g some = drops_kind w.kind w.was g
writes_due v w _ t g some = absurd (omega arith)

pub due_to_writer : (v : ℕ) (s : Stage) (x : Place) (t : TurnCourse) → goes_with s x ≡ true → (is_outside_stage s ≡ true → is_resting x ≡ true) → 0 < owes_no_readers x → is_due_to_writer (standing_at v s x t) ≡ true
due_to_writer v (Inside w) x t g rests some = writes_due v w x t g some
due_to_writer v (Outside r) x t g rests some = let none = rest_owes_readers x (rests refl) in absurd (omega (arith, some, none))
due_to_writer v Forgotten x t g rests some = let none = rest_owes_readers x (rests refl) in absurd (omega (arith, some, none))

pub unlisted_to_writer : (x : Place) → 0 < owes_no_readers x → in_no_readers x ≡ 0
unlisted_to_writer Place.DropReadNotify some = refl
unlisted_to_writer Place.DropUpgradableNotify some = refl
unlisted_to_writer _ some = absurd (omega arith)
