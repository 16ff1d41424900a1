-- What each place's action does, finding by finding.
use Rattle.world_barrier.proofs.Prelude.{◌≡◌, inl, inr, true, false, Option, Some, None, refl, ap, subst, Move, Within, is_decided, none_some, changes, Table, Course, decision, End, IsLegal, taking_decided, releasing_decided, cancelling_decided, out_free, waiting_free, Ending, Found, Place, EnterLock, WaitLock, TakeLock, Look, Join, Arrive, Complete, NotifyAll, Check, JoinAgain, ReleaseLock, ReleasingLock, Ask, CancelLock, CancellingLock, CancelLeave, Abandon, Barrier, IsBarrier, World, releases, IsAllowed, ◌∙◌, inside, refused_by}
use Rattle.world_barrier.proofs.step.Turns as turns
use Rattle.world_barrier.proofs.step.Locks.{got_holds, refused_free, undecided_free, cancelling_free}
use Rattle.world_barrier.proofs.step.OwnRows as own
use Rattle.world_barrier.proofs.step.LockRows as locks

module _ (t u : Table Barrier) (m : Move) (w : Within) (laws : IsBarrier t.machine) where
  abbrev c : Course
  c = turns.c t u m w

  abbrev old : World
  old = turns.old t u m w

  abbrev Known : Place → Found → Type 0
  Known = turns.Known t u m w

  abbrev RowAt : Place → Found → Type 0
  RowAt = turns.RowAt t u m w

  -- the holder releases the lock once its call is decided, or once it stands counted in the list
  may_release : (e : Ending) (f : Found) → Known (ReleaseLock e) f → old.lock.holder ≡ Some m.party → IsAllowed old m (changes releases)
  may_release Ending.Wait f x has = (has, inr ((turns.num t u m w, x.before refl), x.owner))
  may_release Ending.Follow f x has = (has, inl (ap is_decided (x.going refl)))
  may_release Ending.Lead f x has = (has, inl (ap is_decided (x.going refl)))
  may_release Ending.RefuseGenerations f x has = (has, inl (ap is_decided (x.going refl)))
  may_release (Ending.RefuseMemory a) f x has = (has, inl (ap is_decided (x.going refl)))

  as_given : (s : _) (o : Option End) → o ≡ Some End.GivenBack → IsLegal (turns.i t u m w).memory m.party o s t.machine.lock u.machine.lock → IsLegal (turns.i t u m w).memory m.party (Some End.GivenBack) s t.machine.lock u.machine.lock
  as_given s o e l = let P : Option End → Type 0 = λ z. IsLegal (turns.i t u m w).memory m.party z s t.machine.lock u.machine.lock in subst P e l

  pub row : (y : Place) (f : Found) → Known y f → RowAt y f
  row (EnterLock a) (Found.Lock s) x = locks.taking t u m w laws x.words_then x.entries_then a true None s x.lock.legal (inl refl) x.lock.leads (λ e. absurd (none_some e)) (λ r e. absurd (none_some e)) (λ e. out_free c x.link) x.owner (λ r h. absurd (x.lock.unrefused r h)) x.after
  row (EnterLock a) _ x = absurd x.lock
  row (WaitLock a) (Found.Lock s) x = locks.taking t u m w laws x.words_then x.entries_then a true None s x.lock.legal (inl refl) x.lock.leads (λ e. absurd (none_some e)) (λ r e. absurd (none_some e)) (λ e. waiting_free c x.link) x.owner (λ r h. absurd (x.lock.unrefused r h)) x.after
  row (WaitLock a) _ x = absurd x.lock
  row (TakeLock a) (Found.Lock s) x = locks.taking t u m w laws x.words_then x.entries_then a false (decision c) s x.lock.legal (taking_decided c x.link) (x.lock.leads.takes x.link) (got_holds c) (refused_free c) (undecided_free c x.link) x.owner (λ r h. (refl, x.before refl, λ none. (w, x.going refl ∙ ap (λ o. inside w (refused_by o)) none))) x.after
  row (TakeLock a) _ x = absurd x.lock
  row Look Found.MustWait x = own.look_waits t u m w laws x
  row Look Found.Leads x = own.look_leads t u m w laws x
  row Look Found.Past x = own.look_past t u m w laws x
  row Look _ x = absurd x.finds
  row Join Found.Done x = own.join_done t u m w laws x
  row Join Found.NoMemory x = own.join_refused t u m w laws x
  row Join _ x = absurd x.finds
  row Arrive Found.Done x = own.arrive t u m w laws x
  row Arrive _ x = absurd x.finds
  row Complete Found.Done x = own.complete t u m w laws x
  row Complete _ x = absurd x.finds
  row NotifyAll Found.Done x = own.notify t u m w laws x
  row NotifyAll _ x = absurd x.finds
  row Check Found.Finished x = own.check_finished t u m w laws x
  row Check Found.Unfinished x = own.check_unfinished t u m w laws x
  row Check _ x = absurd x.finds
  row JoinAgain Found.Done x = own.rejoin_done t u m w laws x
  row JoinAgain Found.NoMemory x = own.rejoin_refused t u m w laws x
  row JoinAgain _ x = absurd x.finds
  row (ReleaseLock e) (Found.Lock s) x = locks.release_row t u m w laws x.words_then x.entries_then e false s x.lock.legal x.after x.link x.lock.leads (may_release e (Found.Lock s) x)
  row (ReleaseLock e) _ x = absurd x.lock
  row (ReleasingLock e) (Found.Lock s) x = locks.releasing_row t u m w laws x.words_then x.entries_then e false s (as_given s (decision c) (releasing_decided c x.link) x.lock.legal) x.after x.link
  row (ReleasingLock e) _ x = absurd x.lock
  row Ask Found.Yes x = own.ask_yes t u m w laws x
  row Ask Found.No x = own.ask_no t u m w laws x
  row Ask _ x = absurd x.finds
  row CancelLock (Found.Lock s) x = locks.cancelling t u m w laws x.words_then x.entries_then true s x.lock.legal (waiting_free c x.link) x.after
  row CancelLock _ x = absurd x.lock
  row CancellingLock (Found.Lock s) x = locks.cancelling t u m w laws x.words_then x.entries_then false s (as_given s (decision c) (cancelling_decided c x.link) x.lock.legal) (cancelling_free c x.link) x.after
  row CancellingLock _ x = absurd x.lock
  row CancelLeave Found.Done x = own.leave t u m w laws x
  row CancelLeave _ x = absurd x.finds
  row Abandon Found.Done x = own.abandon t u m w laws x
  row Abandon _ x = absurd x.finds
