-- What always holds of a barrier's World, as callers see it.
use Rattle.world_barrier.proofs.Prelude.{◌≡◌, ℕ, zero, suc, ◌+◌, ◌<◌, ◌≤◌, inl, inr, true, false, List, Option, Some, None, refl, arith, ap, sym, ◌∙◌, subst, list_all, is_marked_at, IsMarkedFirst, is_party, entries_of, Answer, Kind, Rest, Stage, Outside, Inside, Forgotten, Within, Standing, outside, inside, forgotten, is_outside, is_outside_stage, both, stage_at, stands_as, Table, by_stage_or_past, by_stage_or_past_at, rest_seen, outside_at, outside_so, none_decided, Course, bit, starved_there, listed_there, rests_there, out as out_of_lock, course_at, LockAtRest, out_rests, waiting_rests, out_unlisted, holding_unlisted, listed_once, Aim, Ending, Place, EnterLock, WaitLock, TakeLock, Arrive, NotifyAll, Check, JoinAgain, ReleaseLock, ReleasingLock, Ask, CancelLeave, Abandon, Position, Out, Made, Locking, Waiting, At, Progress, Words, arrivals_at, IsFollower, fits_lock, in_lock, listed, follows, HasOutcome, Outcome, is_resting, counted, wait_for, wait_until, wait_at, Barrier, IsBarrier, HasArrived, IsAtRest, goes_with, is_begun, is_abandoning, runs, position_at, arrival_at, ListName, Lock, Generation, IsFinished, World, list_in, standing_of, wait_of, is_starved, verdict_in, view_of, HasItsOwn, IsSound, IsAwake, IsStillThere, is_at_rest, is_long_call, IsBarrierTable, ◌⊎◌, false≢true, marked_count, is_decided, taking, releasing, undecided, called, counting, has_lock, giving_up, is_out as is_out_there, is_holding, is_waiting, is_cancelling, is_due_there, CancelLock, CancellingLock, verdict, is_due, is_refused, IsDue, is_releasing, has_to_tell}
use Rattle.world_base.proofs.of_table.Mapped.{past_last}
use Rattle.world_base.proofs.of_table.Resting.{all_at_rest, one_at_rest}
use Rattle.world_mutex.proofs.of_machine.callers.Holders as sees
use Rattle.world_barrier.proofs.table.Seen as seen
use Rattle.world_barrier.proofs.step.Locks.{releasing_unlisted}
use Rattle.world_barrier.proofs.step.Owns as owns
use Rattle.world_barrier.proofs.step.Owns.{at_most_once}
use Rattle.world_barrier.proofs.Numbers as numbers

-- ---- calls

abandon_unbegun : (x : Place) → is_abandoning x ≡ true → is_begun x ≡ true → ⊥
abandon_unbegun Abandon h b = cc b
abandon_unbegun _ h b = cc h

long_by : (k : Kind) (r : Rest) (x : Place) → is_begun x ≡ true → runs k r x ≡ true → is_long_call k r ≡ true
long_by Kind.FirstPoll Rest.Idle x b h = refl
long_by Kind.FirstPoll Rest.Finished x b h = refl
long_by Kind.LaterPoll Rest.Pending x b h = refl
long_by Kind.Drop Rest.Pending x b h = refl
long_by Kind.Drop Rest.Finished x b h = absurd (abandon_unbegun x h b)
long_by _ _ x b h = absurd (cc h)

long_at : (s : Stage) (x : Position) (d : Option Answer) (u : Within) (e : Option Answer) → goes_with s x ≡ true → stands_as d s ≡ inside u e → is_long_call u.kind u.was ≡ true
long_at (Outside r) x d u e g h = absurd (cc h)
long_at Forgotten x d u e g h = absurd (cc h)
long_at (Inside w) (At y) d u e g h =
    let two = both (is_begun y) (runs w.kind w.was y) g in
    let same : w ≡ u = cc h in
    let P : Within → Type 0 = λ v. is_long_call v.kind v.was ≡ true in
    subst P same (long_by w.kind w.was y two.0 two.1)
long_at (Inside w) _ d u e g h = absurd (cc g)

-- ---- entries in both lists

-- who stands in the barrier's list stands in no other
unlisted : (x : Position) (c : Course) → fits_lock (in_lock x) c ≡ true → 0 < listed x → listed_there c ≡ 0
unlisted Waiting c link some = out_unlisted c link
unlisted (At Arrive) c link some = holding_unlisted c link
unlisted (At (ReleaseLock e)) c link some = holding_unlisted c link
unlisted (At (ReleasingLock e)) c link some = releasing_unlisted c link
unlisted (At Ask) c link some = out_unlisted c link
unlisted (At CancelLeave) c link some = out_unlisted c link
unlisted (At _) c link some = absurd (omega arith)
unlisted _ c link some = absurd (omega arith)

both_lists : (x : Position) (c : Course) → fits_lock (in_lock x) c ≡ true → listed_there c + listed x ≤ 1
both_lists x c link = by_list (listed x) refl where
  by_list : (n : ℕ) → listed x ≡ n → listed_there c + listed x ≤ 1
  by_list zero e = let one = listed_once c in omega arith
  by_list (suc n) e = let few = at_most_once x in let none = unlisted x c link (omega arith) in omega arith

-- ---- counted waits

same_number : (n a : ℕ) → counted n ≡ counted a → a ≡ n
same_number n a e = cc

counted_for : (m : Aim) (n a : ℕ) (r : Progress) (v : Words) → wait_for m n ≡ counted a → (follows (Made m) ≡ true → IsFollower v.size r) → (a ≡ n) × HasArrived r
counted_for Aim.Arrive n a r v e f = absurd (cc e)
counted_for Aim.Check n a r v e f = let k = (f refl).counted in (same_number n a e, omega arith)

counted_until : (k : Ending) (n a : ℕ) (r : Progress) (v : Words) → wait_until k n ≡ counted a → (follows (At (ReleaseLock k)) ≡ true → IsFollower v.size r) → Outcome k r v → (a ≡ n) × HasArrived r
counted_until Ending.Wait n a r v e f o = let k = (f refl).counted in (same_number n a e, omega arith)
counted_until Ending.Follow n a r v e f o = let k = o.0.counted in (same_number n a e, omega arith)
counted_until Ending.Lead n a r v e f o = let k = o.1 in (same_number n a e, omega arith)
counted_until Ending.RefuseGenerations n a r v e f o = absurd (cc e)
counted_until (Ending.RefuseMemory m) n a r v e f o = counted_for m n a r v e f

counted_by : (x : Position) (n a : ℕ) (r : Progress) (v : Words) → wait_at x n ≡ counted a → (follows x ≡ true → IsFollower v.size r) → HasOutcome x r v → (a ≡ n) × HasArrived r
counted_by Out n a r v e f o = absurd (cc e)
counted_by (Made m) n a r v e f o = counted_for m n a r v e f
counted_by (Locking m) n a r v e f o = counted_for m n a r v e f
counted_by Waiting n a r v e f o = let k = (f refl).counted in (same_number n a e, omega arith)
counted_by (At (EnterLock m)) n a r v e f o = counted_for m n a r v e f
counted_by (At (WaitLock m)) n a r v e f o = counted_for m n a r v e f
counted_by (At (TakeLock m)) n a r v e f o = counted_for m n a r v e f
counted_by (At NotifyAll) n a r v e f o = let k = o.1 in (same_number n a e, omega arith)
counted_by (At Check) n a r v e f o = let k = (f refl).counted in (same_number n a e, omega arith)
counted_by (At JoinAgain) n a r v e f o = let k = (f refl).counted in (same_number n a e, omega arith)
counted_by (At (ReleaseLock k)) n a r v e f o = counted_until k n a r v e f o
counted_by (At (ReleasingLock k)) n a r v e f o = counted_until k n a r v e f o
counted_by (At Ask) n a r v e f o = let k = (f refl).counted in (same_number n a e, omega arith)
counted_by (At _) n a r v e f o = absurd (cc e)

-- a counted party that is listed follows
listed_follows : (x : Position) (n a : ℕ) → wait_at x n ≡ counted a → 0 < listed x → follows x ≡ true
listed_follows Waiting n a e some = refl
listed_follows (At Arrive) n a e some = absurd (cc e)
listed_follows (At (ReleaseLock Ending.Wait)) n a e some = refl
listed_follows (At (ReleaseLock _)) n a e some = absurd (omega arith)
listed_follows (At (ReleasingLock Ending.Wait)) n a e some = refl
listed_follows (At (ReleasingLock _)) n a e some = absurd (omega arith)
listed_follows (At Ask) n a e some = refl
listed_follows (At CancelLeave) n a e some = absurd (cc e)
listed_follows (At _) n a e some = absurd (omega arith)
listed_follows _ n a e some = absurd (omega arith)

-- ---- outside every call

pub resting : (s : Stage) (x : Position) → goes_with s x ≡ true → is_outside_stage s ≡ true → is_resting x ≡ true
resting (Outside r) Out g o = refl
resting (Outside r) (Made a) g o = refl
resting (Outside r) (Locking a) g o = refl
resting (Outside r) Waiting g o = refl
resting (Outside Rest.Idle) (At y) g o = absurd (cc g)
resting (Outside Rest.Pending) (At y) g o = absurd (cc g)
resting (Outside Rest.Holding) (At y) g o = absurd (cc g)
resting (Outside Rest.Finished) (At y) g o = absurd (cc g)
resting (Inside w) x g o = absurd (cc o)
resting Forgotten x g o = g

pub rests_in_lock : (x : Position) (c : Course) → is_resting x ≡ true → fits_lock (in_lock x) c ≡ true → rests_there c ≡ true
rests_in_lock (At y) c h link = absurd (cc h)
rests_in_lock (Locking a) c h link = waiting_rests c link
rests_in_lock Out c h link = out_rests c link
rests_in_lock (Made a) c h link = out_rests c link
rests_in_lock Waiting c h link = out_rests c link

rest_waits : (x : Position) → is_resting x ≡ true → 0 < listed x → x ≡ Waiting
rest_waits Waiting h some = refl
rest_waits (At y) h some = absurd (cc h)
rest_waits _ h some = absurd (omega arith)

-- who stands in a list outside every call is pending, or was when it was forgotten
still_there : (s : Stage) (x : Position) (d : Option Answer) → goes_with s x ≡ true → is_outside_stage s ≡ true → (x ≡ Out → ⊥) → IsStillThere (stands_as d s)
still_there (Outside Rest.Pending) x d g o h = inl refl
still_there Forgotten x d g o h = inr refl
still_there (Outside Rest.Idle) Out d g o h = absurd (h refl)
still_there (Outside Rest.Idle) _ d g o h = absurd (cc g)
still_there (Outside Rest.Finished) Out d g o h = absurd (h refl)
still_there (Outside Rest.Finished) _ d g o h = absurd (cc g)
still_there (Outside Rest.Holding) x d g o h = absurd (cc g)
still_there (Inside w) x d g o h = absurd (cc o)

inside_by : (w : World) (p : ℕ) (s : Standing) → HasItsOwn w p s → w.lock.holder ≡ Some p → is_outside s ≡ false
inside_by w p (outside Rest.Idle) k h = absurd (k.clear.lock h)
inside_by w p (outside Rest.Finished) k h = absurd (k.clear.lock h)
inside_by w p (outside Rest.Pending) k h = absurd (k.0 h)
inside_by w p (outside Rest.Holding) k h = absurd k
inside_by w p (inside u d) k h = refl
inside_by w p forgotten k h = absurd (k h)

-- ---- who has still to notify for the inner lock, or to look

rest_waits_there : (x : Position) (c : Course) → is_resting x ≡ true → fits_lock (in_lock x) c ≡ true → 0 < listed_there c → is_waiting c ≡ true
rest_waits_there (At y) c h link some = absurd (cc h)
rest_waits_there (Locking a) c h link some = link
rest_waits_there Out c h link some = let none = out_unlisted c link in absurd (omega arith)
rest_waits_there (Made a) c h link some = let none = out_unlisted c link in absurd (omega arith)
rest_waits_there Waiting c h link some = let none = out_unlisted c link in absurd (omega arith)

-- who is due there moves
record Moves (c : Course) : Type 0 where
  pub not_out : is_out_there c ≡ false
  pub not_holding : is_holding c ≡ false
  pub not_waiting : is_waiting c ≡ false
  pub not_cancelling : is_cancelling c ≡ false

due_moves : (c : Course) → is_due_there c ≡ true → Moves c
due_moves (taking progress s l b) h = record { not_out = refl; not_holding = refl; not_waiting = refl; not_cancelling = refl }
due_moves releasing h = record { not_out = refl; not_holding = refl; not_waiting = refl; not_cancelling = refl }
due_moves _ h = absurd (cc h)

never_out : (c : Course) → is_due_there c ≡ true → is_out_there c ≡ true → ⊥
never_out c h out = let m = due_moves c h in false≢true (sym m.not_out ∙ out)

polls_due : (u : Within) (a : Aim) (c : Course) → is_due_there c ≡ true → is_due (stands_as (verdict (At (TakeLock a)) c) (Inside u)) ≡ true
polls_due u a (taking undecided s l b) h = refl
polls_due u a (taking called s l b) h = refl
polls_due u a (taking counting s l b) h = refl
polls_due u a (taking (giving_up r) s l b) h = refl
polls_due u a (taking has_lock s l b) h = absurd (cc h)
polls_due u a releasing h = refl
polls_due u a _ h = absurd (cc h)

due_inside : (u : Within) (y : Place) (c : Course) → fits_lock (in_lock (At y)) c ≡ true → is_due_there c ≡ true → Moves c → is_due (stands_as (verdict (At y) c) (Inside u)) ≡ true
due_inside u (TakeLock a) c link h m = polls_due u a c h
due_inside u (ReleasingLock Ending.Wait) c link h m = refl
due_inside u (ReleasingLock Ending.Follow) c link h m = refl
due_inside u (ReleasingLock Ending.Lead) c link h m = refl
due_inside u (ReleasingLock Ending.RefuseGenerations) c link h m = refl
due_inside u (ReleasingLock (Ending.RefuseMemory a)) c link h m = refl
due_inside u (WaitLock a) c link h m = absurd (false≢true (sym m.not_waiting ∙ link))
due_inside u CancelLock c link h m = absurd (false≢true (sym m.not_waiting ∙ link))
due_inside u CancellingLock c link h m = absurd (false≢true (sym m.not_cancelling ∙ link))
due_inside u _ c link h m = absurd (cc (link, m.not_out, m.not_holding))

rest_undue : (x : Position) (c : Course) → is_resting x ≡ true → fits_lock (in_lock x) c ≡ true → Moves c → ⊥
rest_undue (At y) c h link m = cc h
rest_undue (Locking a) c h link m = false≢true (sym m.not_waiting ∙ link)
rest_undue Out c h link m = false≢true (sym m.not_out ∙ link)
rest_undue (Made a) c h link m = false≢true (sym m.not_out ∙ link)
rest_undue Waiting c h link m = false≢true (sym m.not_out ∙ link)

due_at : (s : Stage) (x : Position) (c : Course) → goes_with s x ≡ true → fits_lock (in_lock x) c ≡ true → is_due_there c ≡ true → is_due (stands_as (verdict x c) s) ≡ true
due_at (Inside u) (At y) c g link h = due_inside u y c link h (due_moves c h)
due_at (Inside u) _ c g link h = absurd (cc g)
due_at (Outside r) x c g link h = absurd (rest_undue x c (resting (Outside r) x g refl) link (due_moves c h))
due_at Forgotten x c g link h = absurd (rest_undue x c (resting Forgotten x g refl) link (due_moves c h))

due_unstarved : (c : Course) → is_due_there c ≡ true → starved_there c ≡ 0 → listed_there c ≡ 0
due_unstarved (taking undecided true l b) h none = absurd (omega arith)
due_unstarved (taking undecided false l b) h none = absurd (cc h)
due_unstarved (taking called s true b) h none = absurd (cc h)
due_unstarved (taking called s false b) h none = refl
due_unstarved (taking counting s true b) h none = absurd (cc h)
due_unstarved (taking counting s false b) h none = refl
due_unstarved (taking (giving_up r) s true b) h none = absurd (cc h)
due_unstarved (taking (giving_up r) s false b) h none = refl
due_unstarved (taking has_lock s l b) h none = absurd (cc h)
due_unstarved releasing h none = refl
due_unstarved _ h none = absurd (cc h)

polls_unlisted : (s : Stage) (a : Aim) (c : Course) → is_due_there c ≡ true → is_decided (stands_as (verdict (At (TakeLock a)) c) s) ≡ true → listed_there c ≡ 0
polls_unlisted s a (taking undecided x l b) h d = absurd (none_decided s d)
polls_unlisted s a (taking called x l b) h d = absurd (none_decided s d)
polls_unlisted s a (taking counting x l b) h d = absurd (none_decided s d)
polls_unlisted s a (taking (giving_up r) x true b) h d = absurd (cc h)
polls_unlisted s a (taking (giving_up r) x false b) h d = refl
polls_unlisted s a (taking has_lock x l b) h d = absurd (cc h)
polls_unlisted s a releasing h d = refl
polls_unlisted s a _ h d = absurd (cc h)

decided_by : (s : Stage) (y : Place) (c : Course) → fits_lock (in_lock (At y)) c ≡ true → is_due_there c ≡ true → Moves c → is_decided (stands_as (verdict (At y) c) s) ≡ true → listed_there c ≡ 0
decided_by s (TakeLock a) c link h m d = polls_unlisted s a c h d
decided_by s (ReleasingLock e) c link h m d = releasing_unlisted c link
decided_by s (WaitLock a) c link h m d = absurd (false≢true (sym m.not_waiting ∙ link))
decided_by s CancelLock c link h m d = absurd (false≢true (sym m.not_waiting ∙ link))
decided_by s CancellingLock c link h m d = absurd (false≢true (sym m.not_cancelling ∙ link))
decided_by s _ c link h m d = absurd (cc (link, m.not_out, m.not_holding))

decided_unlisted : (s : Stage) (x : Position) (c : Course) → fits_lock (in_lock x) c ≡ true → is_due_there c ≡ true → is_decided (stands_as (verdict x c) s) ≡ true → listed_there c ≡ 0
decided_unlisted s (At y) c link h d = decided_by s y c link h (due_moves c h) d
decided_unlisted s (Locking a) c link h d = absurd (none_decided s d)
decided_unlisted s Out c link h d = absurd (none_decided s d)
decided_unlisted s (Made a) c link h d = absurd (none_decided s d)
decided_unlisted s Waiting c link h d = absurd (none_decided s d)

-- once it is decided it releases the lock, or is refused
polls_owe : (u : Within) (a : Aim) (c : Course) → is_due_there c ≡ true → is_decided (stands_as (verdict (At (TakeLock a)) c) (Inside u)) ≡ true → is_refused (stands_as (verdict (At (TakeLock a)) c) (Inside u)) ≡ true
polls_owe u a (taking undecided x l b) h d = absurd (none_decided (Inside u) d)
polls_owe u a (taking called x l b) h d = absurd (none_decided (Inside u) d)
polls_owe u a (taking counting x l b) h d = absurd (none_decided (Inside u) d)
polls_owe u a (taking (giving_up r) x l b) h d = refl
polls_owe u a (taking has_lock x l b) h d = absurd (cc h)
polls_owe u a releasing h d = absurd (none_decided (Inside u) d)
polls_owe u a _ h d = absurd (cc h)

owes_inside : (u : Within) (y : Place) (c : Course) → fits_lock (in_lock (At y)) c ≡ true → is_due_there c ≡ true → Moves c → is_decided (stands_as (verdict (At y) c) (Inside u)) ≡ true → (is_releasing c ≡ true) ⊎ (is_refused (stands_as (verdict (At y) c) (Inside u)) ≡ true)
owes_inside u (TakeLock a) c link h m d = inr (polls_owe u a c h d)
owes_inside u (ReleasingLock e) c link h m d = inl link
owes_inside u (WaitLock a) c link h m d = absurd (false≢true (sym m.not_waiting ∙ link))
owes_inside u CancelLock c link h m d = absurd (false≢true (sym m.not_waiting ∙ link))
owes_inside u CancellingLock c link h m d = absurd (false≢true (sym m.not_cancelling ∙ link))
owes_inside u _ c link h m d = absurd (cc (link, m.not_out, m.not_holding))

owes_at : (s : Stage) (x : Position) (c : Course) → goes_with s x ≡ true → fits_lock (in_lock x) c ≡ true → is_due_there c ≡ true → is_decided (stands_as (verdict x c) s) ≡ true → (is_releasing c ≡ true) ⊎ (is_refused (stands_as (verdict x c) s) ≡ true)
owes_at (Inside u) (At y) c g link h d = owes_inside u y c link h (due_moves c h) d
owes_at (Inside u) _ c g link h d = absurd (cc g)
owes_at (Outside r) x c g link h d = absurd (rest_undue x c (resting (Outside r) x g refl) link (due_moves c h))
owes_at Forgotten x c g link h d = absurd (rest_undue x c (resting Forgotten x g refl) link (due_moves c h))

module _ (t : Table Barrier) (laws : IsBarrier t.machine) (fits : IsBarrierTable t) where
  abbrev xs : List Position
  xs = t.machine.positions

  abbrev x_of : ℕ → Position
  x_of q = position_at xs q

  abbrev c_of : ℕ → Course
  c_of q = course_at t.machine.lock.courses q

  abbrev a_of : ℕ → Progress
  a_of q = arrival_at t.machine.arrivals q

  abbrev words : Words
  words = t.machine.words

  number_at : (q a : ℕ) → wait_of (view_of t) q ≡ counted a → (a ≡ arrivals_at words.size (a_of q)) × HasArrived (a_of q)
  number_at q a e = counted_by (x_of q) (arrivals_at words.size (a_of q)) a (a_of q) words (sym (seen.wait_seen t q) ∙ e) (laws.followers q) (laws.outcomes q)

  numbered : (q a : ℕ) → wait_of (view_of t) q ≡ counted a → (0 < a) × (a ≤ (view_of t).arrivals)
  numbered q a e =
      let n = number_at q a e in
      let some = numbers.from_one words.size (a_of q) (laws.within q) n.1 in
      let few = numbers.not_ahead words.size (a_of q) words.progress (laws.within q) (laws.past q) in
      (omega (arith, n.0), omega (arith, n.0))

  one_each : (p q a : ℕ) → wait_of (view_of t) p ≡ counted a → wait_of (view_of t) q ≡ counted a → p ≡ q
  one_each p q a e f =
      let n = number_at p a e in
      let k = number_at q a f in
      laws.apart p q n.1 (numbers.same_arrival words.size (a_of p) (a_of q) (laws.within p) (laws.within q) (sym n.0 ∙ k.0))

  told : (view_of t).lock.holder ≡ None → (q a : ℕ) → wait_of (view_of t) q ≡ counted a → IsFinished words.size a (view_of t).arrivals → 0 < entries_of q t.machine.entries → is_marked_at (is_party q) t.machine.entries ≡ true
  told free q a e finished some =
      let n = number_at q a e in
      let own = laws.owners q in
      let counted_here : wait_at (x_of q) (arrivals_at words.size (a_of q)) ≡ counted a = sym (seen.wait_seen t q) ∙ e in
      let goes : follows (x_of q) ≡ true = listed_follows (x_of q) (arrivals_at words.size (a_of q)) a counted_here (omega arith) in
      let P : ℕ → Type 0 = λ z. IsFinished words.size z (view_of t).arrivals in
      laws.told (sees.none_holds 0 t.machine.lock.courses free) q some (numbers.past_its_generation words.size (a_of q) words.progress (laws.followers q goes) laws.sound.unfinished (laws.past q) (subst P n.0 finished))

  stands_at : (q : ℕ) → (x_of q ≡ Out → ⊥) → goes_with (stage_at t.stages q) (x_of q) ≡ true
  stands_at q some = by_stage_or_past t.stages q (goes_with (stage_at t.stages q) (x_of q) ≡ true)
      (λ past. absurd (some (past_last xs q Out (omega (arith, past, fits.as_many)))))
      (λ inside. fits.stands q inside)

  pub rests_outside : (q : ℕ) → is_outside (standing_of (view_of t) q) ≡ true → is_resting (x_of q) ≡ true
  rests_outside q out = by_stage_or_past t.stages q (is_resting (x_of q) ≡ true)
      (λ past. ap is_resting (past_last xs q Out (omega (arith, past, fits.as_many))))
      (λ inside. resting (stage_at t.stages q) (x_of q) (fits.stands q inside) (sym (outside_so (verdict_in t.machine q) (stage_at t.stages q)) ∙ (ap is_outside (sym (seen.standing_seen t q)) ∙ out)))

  due : (q : ℕ) → is_due_there (c_of q) ≡ true → IsDue (view_of t) q
  due q h =
      let goes = stands_at q (λ e. never_out (c_of q) h (let P : Position → Type 0 = λ x. fits_lock (in_lock x) (c_of q) ≡ true in subst P e (laws.links q))) in
      record {
        due = ap is_due (seen.standing_seen t q) ∙ due_at (stage_at t.stages q) (x_of q) (c_of q) goes (laws.links q) h;
        owes = λ d. elim (owes_at (stage_at t.stages q) (x_of q) (c_of q) goes (laws.links q) h (ap is_decided (sym (seen.standing_seen t q)) ∙ d)) as (λ _. (has_to_tell (view_of t) q ≡ true) ⊎ (is_refused (standing_of (view_of t) q) ≡ true)) [
          | inl o ↦ inl (seen.telling_seen t q ∙ o)
          | inr r ↦ inr (ap is_refused (seen.standing_seen t q) ∙ r)
        ];
        unlisted = λ why. laws.lock.owners q ∙ elim why as (λ _. listed_there (c_of q) ≡ 0) [
          | inl fresh ↦ due_unstarved (c_of q) h (sym (sees.counted_bit (c_of q)) ∙ ap bit (sym (sees.starved_at t.machine.lock.courses q) ∙ fresh))
          | inr d ↦ decided_unlisted (stage_at t.stages q) (x_of q) (c_of q) (laws.links q) h (ap is_decided (sym (seen.standing_seen t q)) ∙ d)
        ];
      }

  told_or_due : (view_of t).lock.holder ≡ None → (q : ℕ) → is_outside (standing_of (view_of t) q) ≡ true → 0 < entries_of q t.machine.lock.entries → (0 < marked_count t.machine.lock.entries) ⊎ ((z : ℕ) × IsDue (view_of t) z)
  told_or_due free q out some =
      let own = laws.lock.owners q in
      let waits = rest_waits_there (x_of q) (c_of q) (rests_outside q out) (laws.links q) (omega arith) in
      elim (laws.lock.told_or_due (sees.none_holds 0 t.machine.lock.courses free) q waits) [ inl marked ↦ inl marked | inr one ↦ inr (one.0, due one.0 one.1) ]

  pub sound : IsSound (view_of t)
  sound = record {
    each = owns.each_has t laws fits;
    uncounted = owns.unlisted t laws fits;
    told_before = λ q h. (owns.told_inside t laws fits q h, owns.told_without t laws fits q h);
    holder_inside = λ q h. inside_by (view_of t) q (standing_of (view_of t) q) (owns.each_has t laws fits q) h;
    inside_calls = λ q u d e. by_stage_or_past_at t.stages q (is_long_call u.kind u.was ≡ true)
        (λ past. (let h : stands_as (verdict_in t.machine q) Forgotten ≡ inside u d = ap (stands_as (verdict_in t.machine q)) (sym past) ∙ (sym (seen.standing_seen t q) ∙ e) in absurd (cc (h))))
        (λ inside. long_at (stage_at t.stages q) (x_of q) (verdict_in t.machine q) u d (fits.stands q inside) (sym (seen.standing_seen t q) ∙ e));
    numbered = numbered;
    one_each = one_each;
    within = (let g = numbers.its_generations words.size words.progress laws.sound.unfinished in let h = laws.sound.within in omega arith);
    few_starved = (let n = sees.how_many_counted t.machine.lock.courses in let few = laws.lock.few_starved in omega arith);
    told_or_due = told_or_due;
    told = told;
    once = λ q. (let l = laws.lock.owners q in let b = laws.owners q in let few = both_lists (x_of q) (c_of q) (laws.links q) in omega arith);
    in_order = in_order;
    one_told = laws.lock.one_told;
  } where
    in_order : (list : ListName) → IsMarkedFirst (list_in list (view_of t))
    in_order Lock = laws.lock.in_order
    in_order Generation = laws.in_order

  module _ (rests : is_at_rest (view_of t) ≡ true) where
    stages_rest : list_all is_outside_stage t.stages ≡ true
    stages_rest = sym (rest_seen (verdict_in t.machine) t.stages) ∙ rests

    positions_rest : IsAtRest xs
    positions_rest = all_at_rest is_resting Out xs (λ q j. resting (stage_at t.stages q) (x_of q) (fits.stands q (omega (arith, j, fits.as_many))) (outside_at t.stages stages_rest q))

    pub courses_rest : LockAtRest t.machine.lock.courses
    courses_rest = all_at_rest rests_there out_of_lock t.machine.lock.courses (λ q j. rests_in_lock (x_of q) (c_of q) (one_at_rest is_resting Out refl xs positions_rest q) (laws.links q))

    waits_there : (q : ℕ) → 0 < entries_of q t.machine.entries → x_of q ≡ Waiting
    waits_there q some = let own = laws.owners q in rest_waits (x_of q) (one_at_rest is_resting Out refl xs positions_rest q) (omega arith)

    is_counted_there : (q : ℕ) → 0 < entries_of q t.machine.entries → (a : ℕ) × (wait_of (view_of t) q ≡ counted a)
    is_counted_there q some = (arrivals_at words.size (a_of q), seen.wait_seen t q ∙ ap (λ x. wait_at x (arrivals_at words.size (a_of q))) (waits_there q some))

    there : (q : ℕ) → (x_of q ≡ Out → ⊥) → IsStillThere (standing_of (view_of t) q)
    there q some = by_stage_or_past t.stages q (IsStillThere (standing_of (view_of t) q))
        (λ past. absurd (some (past_last xs q Out (omega (arith, past, fits.as_many)))))
        (λ inside. subst IsStillThere (sym (seen.standing_seen t q)) (still_there (stage_at t.stages q) (x_of q) (verdict_in t.machine q) (fits.stands q inside) (outside_at t.stages stages_rest q) some))

    out_there : (q : ℕ) → x_of q ≡ Out → listed_there (c_of q) ≡ 0
    out_there q e = out_unlisted (c_of q) (let P : Position → Type 0 = λ x. fits_lock (in_lock x) (c_of q) ≡ true in subst P e (laws.links q))

    waiting : (list : ListName) (q : ℕ) → 0 < entries_of q (list_in list (view_of t)) → IsStillThere (standing_of (view_of t) q)
    waiting Lock q some = there q (λ e. (let none = out_there q e in let own = laws.lock.owners q in omega arith))
    waiting Generation q some = there q (λ e. (let none : listed (x_of q) ≡ 0 = ap listed e in let own = laws.owners q in omega arith))

    is_one_there : (q : ℕ) → is_starved (view_of t).lock q ≡ true → starved_there (c_of q) ≡ 1
    is_one_there q e = sym (sees.counted_bit (c_of q)) ∙ ap bit (sym (sees.starved_at t.machine.lock.courses q) ∙ e)

    free : (view_of t).lock.holder ≡ None
    free = sees.none_held 0 t.machine.lock.courses (laws.lock_free positions_rest)

    pub awake : IsAwake (view_of t)
    awake = record {
      free = free;
      marked = laws.lock_wakes positions_rest;
      all_marked = told free;
      counted = is_counted_there;
      waiting = waiting;
      starved = λ q e. (let one = laws.lock.starved_listed courses_rest q (is_one_there q e) in omega arith);
    }
