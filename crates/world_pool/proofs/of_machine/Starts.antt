-- Where a call begins or goes on.
use Rattle.world_pool.proofs.Prelude.{◌≡◌, ℕ, ◌<◌, List, length, get_or, true, false, Some, refl, subst, ap, sym, ◌∙◌, false≢true, Call, Inputs, What, Begin, Go, Rest, Stage, Outside, Inside, Forgotten, Within, some_eq, none_some, both, call_at, polls_again, Aim, Place, Acquire, WaitPermit, TryPermit, EnterLock, WaitLock, CancelPermit, CancelLock, Lose, Abandon, Position, Out, Made, Acquiring, Locking, Leased, At, place_for, seat_of, seat_at, knows, runs, is_begun, goes_with, position_at}
use Rattle.std.proofs.lemmas.List.{get_or_default}

-- A party has as much where its call begins as where it stood, and its place is one of that call's program.
pub record Fits (w : Within) (x : Position) (from : Place) : Type 0 where
  pub seat : seat_of from ≡ seat_at x
  pub runs : runs w.kind w.was from ≡ true

-- where a move begins, and what is so there
pub record Starts (what : What) (w : Within) (x : Position) : Type 0 where
  pub from : Place
  pub starts : place_for what x ≡ Some from
  pub fits : Fits w x from

begun : (what : What) (v w : Within) (x : Position) (from : Place) → place_for what x ≡ Some from → Some v ≡ Some w → Fits v x from → Starts what w x
begun what v w x from starts e h = let Q : Within → Type 0 = λ u. Fits u x from in record { from = from; starts = starts; fits = subst Q (some_eq e) h }

idle : (what : What) (w : Within) → call_at knows (Outside Rest.Idle) what ≡ Some w → Starts what w Out
idle (Begin Call.Take i) w e = begun _ _ w Out Acquire refl e (record { seat = refl; runs = refl })
idle (Begin Call.TryTake i) w e = begun _ _ w Out TryPermit refl e (record { seat = refl; runs = refl })
idle (Begin _ i) w e = absurd (none_some e)
idle (Go i) w e = absurd (none_some e)

holding : (what : What) (w : Within) → call_at knows (Outside Rest.Holding) what ≡ Some w → polls_again (Outside Rest.Holding) what ≡ false → Starts what w Leased
holding (Begin Call.Give i) w e n = begun _ _ w Leased (EnterLock Aim.Give) refl e (record { seat = refl; runs = refl })
holding (Begin Call.Drop i) w e n = begun _ _ w Leased Lose refl e (record { seat = refl; runs = refl })
holding (Begin Call.Poll i) w e n = absurd (false≢true (sym n))
holding (Begin _ i) w e n = absurd (none_some e)
holding (Go i) w e n = absurd (none_some e)

polled : (i : Inputs) (w : Within) (x : Position) → goes_with (Outside Rest.Pending) x ≡ true → call_at knows (Outside Rest.Pending) (Begin Call.Poll i) ≡ Some w → Starts (Begin Call.Poll i) w x
polled i w (Made Aim.Take) g e = begun _ _ w (Made Aim.Take) Acquire refl e (record { seat = refl; runs = refl })
polled i w (Made Aim.Give) g e = begun _ _ w (Made Aim.Give) (EnterLock Aim.Give) refl e (record { seat = refl; runs = refl })
polled i w Acquiring g e = begun _ _ w Acquiring WaitPermit refl e (record { seat = refl; runs = refl })
polled i w (Locking Aim.Take) g e = begun _ _ w (Locking Aim.Take) (WaitLock Aim.Take) refl e (record { seat = refl; runs = refl })
polled i w (Locking Aim.Give) g e = begun _ _ w (Locking Aim.Give) (WaitLock Aim.Give) refl e (record { seat = refl; runs = refl })
polled i w _ g e = absurd (false≢true g)

dropped : (i : Inputs) (w : Within) (x : Position) → goes_with (Outside Rest.Pending) x ≡ true → call_at knows (Outside Rest.Pending) (Begin Call.Drop i) ≡ Some w → Starts (Begin Call.Drop i) w x
dropped i w (Made Aim.Take) g e = begun _ _ w (Made Aim.Take) Abandon refl e (record { seat = refl; runs = refl })
dropped i w (Made Aim.Give) g e = begun _ _ w (Made Aim.Give) Lose refl e (record { seat = refl; runs = refl })
dropped i w Acquiring g e = begun _ _ w Acquiring CancelPermit refl e (record { seat = refl; runs = refl })
dropped i w (Locking a) g e = begun _ _ w (Locking a) (CancelLock a) refl e (record { seat = refl; runs = refl })
dropped i w _ g e = absurd (false≢true g)

pending : (what : What) (w : Within) (x : Position) → goes_with (Outside Rest.Pending) x ≡ true → call_at knows (Outside Rest.Pending) what ≡ Some w → Starts what w x
pending (Begin Call.Poll i) w x g e = polled i w x g e
pending (Begin Call.Drop i) w x g e = dropped i w x g e
pending (Begin _ i) w x g e = absurd (none_some e)
pending (Go i) w x g e = absurd (none_some e)

resting : (r : Rest) (what : What) (w : Within) (x : Position) → goes_with (Outside r) x ≡ true → call_at knows (Outside r) what ≡ Some w → polls_again (Outside r) what ≡ false → Starts what w x
resting Rest.Idle what w Out g e n = idle what w e
resting Rest.Holding what w Leased g e n = holding what w e n
resting Rest.Pending what w x g e n = pending what w x g e
resting _ what w _ g e n = absurd (false≢true g)

pub starts : (s : Stage) (what : What) (w : Within) (x : Position) → goes_with s x ≡ true → call_at knows s what ≡ Some w → polls_again s what ≡ false → Starts what w x
starts (Outside r) what w x g e n = resting r what w x g e n
starts (Inside v) (Go i) w (At x) g e n = begun _ _ w (At x) x refl e (record { seat = refl; runs = (both (is_begun x) (runs v.kind v.was x) g).1 })
starts (Inside v) (Go i) w _ g e n = absurd (false≢true g)
starts (Inside v) (Begin c i) w x g e n = absurd (none_some e)
starts Forgotten what w x g e n = absurd (none_some e)

-- ---- as the machine's call says it

-- what was read at a party's number is what is said of it there
pub read_at : {A : Type 0} (xs : List A) (i : ℕ) (read d : A) → i < length xs → read ≡ get_or xs i read → read ≡ get_or xs i d
read_at xs i read d known is = is ∙ get_or_default xs i read d known

-- where the party's call begins or goes on
pub record Began (xs : List Position) (p : ℕ) (w : Within) (what : What) (from : Place) : Type 0 where
  pub starts : place_for what (position_at xs p) ≡ Some from
  pub fits : Fits w (position_at xs p) from

pub began : (xs : List Position) (p : ℕ) (read : Position) (w : Within) (what : What) (s : Stage) (from : Place) → p < length xs → read ≡ get_or xs p read → place_for what read ≡ Some from
    → goes_with s (position_at xs p) ≡ true → call_at knows s what ≡ Some w → polls_again s what ≡ false → Began xs p w what from
began xs p read w what s from known is found stands call first =
    let here : position_at xs p ≡ read = sym (read_at xs p read Out known is) in
    let t = starts s what w (position_at xs p) stands call first in
    let starts' : place_for what (position_at xs p) ≡ Some from = ap (place_for what) here ∙ found in
    let same : t.from ≡ from = some_eq (sym t.starts ∙ starts') in
    record { starts = starts'; fits = (let P : Place → Type 0 = Fits w (position_at xs p) in subst P same t.fits) }
