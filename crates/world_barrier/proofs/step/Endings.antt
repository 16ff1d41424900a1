-- How calls end.
use Rattle.world_barrier.proofs.Prelude.{◌≡◌, true, false, Some, refl, ap, ◌∙◌, Answer, Call, Got, What, Begin, Go, Kind, Rest, is_possible, is_stepped, may_end, answer_of, End, decided_after, Course, LockStep as Step, Aim, Ending, Found, Next, Place, EnterLock, WaitLock, TakeLock, Look, Join, Arrive, Complete, NotifyAll, Check, JoinAgain, ReleaseLock, ReleasingLock, Ask, CancelLock, CancellingLock, CancelLeave, Abandon, next_of, position_after, after_lock, after_cancel, after_release, released, got_left, Wait, verdict, runs, is_polling, is_abandoning, answer_by, wait_then}
use Rattle.lock_program.specs.declared.end.Next.TheVariants as next
use Rattle.world_barrier.specs.machine.Machine.{is_cancelling}
use Rattle.world_barrier.proofs.step.Locks.{ends}
use Rattle.world_barrier.proofs.step.Turns.{said}

-- what a call is decided on after this
pub said_so : (n : Next) (c : Course) → decided_after (answer_by n) (verdict (position_after n) c) ≡ said n c
said_so (next.Do y) c = refl
said_so (next.End End.Got x) c = refl
said_so (next.End End.Granted x) c = refl
said_so (next.End End.Pending x) c = refl
said_so (next.End End.NotFree x) c = refl
said_so (next.End End.Waiting x) c = refl
said_so (next.End End.GivenBack x) c = refl
said_so (next.End (End.Refused r) x) c = refl

pub possible_by : (n : Next) → is_possible (answer_by n) ≡ true
possible_by (next.Do y) = refl
possible_by (next.End End.Got x) = refl
possible_by (next.End End.Granted x) = refl
possible_by (next.End End.Pending x) = refl
possible_by (next.End End.NotFree x) = refl
possible_by (next.End End.Waiting x) = refl
possible_by (next.End End.GivenBack x) = refl
possible_by (next.End (End.Refused r) x) = refl

-- what is answered, and doesn't go on, was decided
pub said_then : (n : Next) (c : Course) (b : Answer) → is_stepped b ≡ false → answer_by n ≡ b → said n c ≡ Some b
said_then (next.Do y) c b h e = let never : is_stepped Answer.Stepped ≡ false = ap is_stepped e ∙ h in absurd (cc)
said_then (next.End f x) c b h e = ap Some e

-- ---- by which answers

abbrev Ends : Kind → Next → Type 0
Ends k n = is_stepped (answer_by n) ≡ false → may_end k (answer_by n) ≡ true

lock_ends : (a : Aim) (f : Found) → Ends Kind.FirstPoll (after_lock a f)
lock_ends a (Found.Lock Step.More) e = absurd (cc e)
lock_ends Aim.Arrive (Found.Lock (Step.End End.Got)) e = absurd (cc e)
lock_ends Aim.Check (Found.Lock (Step.End End.Got)) e = absurd (cc e)
lock_ends a (Found.Lock (Step.End (End.Refused r))) e = refl
lock_ends a (Found.Lock (Step.End _)) e = refl
lock_ends a _ e = refl

released_ends : (k : Ending) → Ends Kind.FirstPoll (released k)
released_ends Ending.Wait e = absurd (cc e)
released_ends Ending.Follow e = refl
released_ends Ending.Lead e = refl
released_ends Ending.RefuseGenerations e = refl
released_ends (Ending.RefuseMemory a) e = refl

release_ends : (k : Ending) (f : Found) → Ends Kind.FirstPoll (after_release k f)
release_ends k (Found.Lock Step.More) e = absurd (cc e)
release_ends k (Found.Lock (Step.End x)) e = released_ends k e
release_ends k _ e = released_ends k e

cancel_ends : (f : Found) → Ends Kind.Drop (after_cancel f)
cancel_ends (Found.Lock Step.More) e = absurd (cc e)
cancel_ends (Found.Lock (Step.End x)) e = refl
cancel_ends _ e = refl

polls_end : (x : Place) (f : Found) → is_polling x ≡ true → Ends Kind.FirstPoll (next_of x f)
polls_end (EnterLock a) f h e = lock_ends a f e
polls_end (WaitLock a) f h e = lock_ends a f e
polls_end (TakeLock a) f h e = lock_ends a f e
polls_end (ReleaseLock k) f h e = release_ends k f e
polls_end (ReleasingLock k) f h e = release_ends k f e
polls_end Look Found.MustWait h e = absurd (cc e)
polls_end Look Found.Leads h e = absurd (cc e)
polls_end Look _ h e = absurd (cc e)
polls_end Join Found.Done h e = absurd (cc e)
polls_end Join _ h e = absurd (cc e)
polls_end Arrive f h e = absurd (cc e)
polls_end Complete f h e = absurd (cc e)
polls_end NotifyAll f h e = absurd (cc e)
polls_end Check Found.Finished h e = absurd (cc e)
polls_end Check _ h e = absurd (cc e)
polls_end JoinAgain Found.Done h e = absurd (cc e)
polls_end JoinAgain _ h e = absurd (cc e)
polls_end Ask Found.Yes h e = absurd (cc e)
polls_end Ask _ h e = refl
polls_end _ f h e = absurd (cc h)

later_ends : (a : Answer) → may_end Kind.FirstPoll a ≡ true → may_end Kind.LaterPoll a ≡ true
later_ends Answer.Pending h = refl
later_ends (Answer.Ready g) h = refl
later_ends (Answer.Refused n) h = refl
later_ends _ h = absurd (cc)

drops_end : (x : Place) (f : Found) → is_cancelling x ≡ true → Ends Kind.Drop (next_of x f)
drops_end CancelLock f h e = cancel_ends f e
drops_end CancellingLock f h e = cancel_ends f e
drops_end CancelLeave f h e = refl
drops_end Abandon f h e = refl
drops_end _ f h e = absurd (cc h)

abandons_cancel : (x : Place) → is_abandoning x ≡ true → is_cancelling x ≡ true
abandons_cancel Abandon h = refl
abandons_cancel _ h = absurd (cc h)

pub ends_by : (k : Kind) (r : Rest) (x : Place) (f : Found) → runs k r x ≡ true → Ends k (next_of x f)
ends_by Kind.FirstPoll Rest.Idle x f h e = polls_end x f h e
ends_by Kind.FirstPoll Rest.Finished x f h e = polls_end x f h e
ends_by Kind.LaterPoll Rest.Pending x f h e = later_ends (answer_by (next_of x f)) (polls_end x f h e)
ends_by Kind.Drop Rest.Pending x f h e = drops_end x f h e
ends_by Kind.Drop Rest.Finished x f h e = drops_end x f (abandons_cancel x h) e
ends_by _ _ x f h e = absurd (cc h)

-- ---- what becomes of a wait

at_end : (what : What) (g : Got) (e : End) (b : Wait) → wait_then what (answer_of g e) b ≡ ends (answer_of g e) (wait_then what Answer.Stepped b)
at_end what g End.Got b = refl
at_end (Begin Call.Wait i) g End.Granted b = refl
at_end (Begin Call.Drop i) g End.Granted b = refl
at_end (Begin _ i) g End.Granted b = refl
at_end (Go i) g End.Granted b = refl
at_end (Begin Call.Wait i) g End.Pending b = refl
at_end (Begin Call.Drop i) g End.Pending b = refl
at_end (Begin _ i) g End.Pending b = refl
at_end (Go i) g End.Pending b = refl
at_end (Begin Call.Wait i) g End.NotFree b = refl
at_end (Begin Call.Drop i) g End.NotFree b = refl
at_end (Begin _ i) g End.NotFree b = refl
at_end (Go i) g End.NotFree b = refl
at_end (Begin Call.Wait i) g End.Waiting b = refl
at_end (Begin Call.Drop i) g End.Waiting b = refl
at_end (Begin _ i) g End.Waiting b = refl
at_end (Go i) g End.Waiting b = refl
at_end (Begin Call.Wait i) g End.GivenBack b = refl
at_end (Begin Call.Drop i) g End.GivenBack b = refl
at_end (Begin _ i) g End.GivenBack b = refl
at_end (Go i) g End.GivenBack b = refl
at_end (Begin Call.Wait i) g (End.Refused r) b = refl
at_end (Begin Call.Drop i) g (End.Refused r) b = refl
at_end (Begin _ i) g (End.Refused r) b = refl
at_end (Go i) g (End.Refused r) b = refl

pub wait_goes : (what : What) (n : Next) (b : Wait) → wait_then what (answer_by n) b ≡ ends (answer_by n) (wait_then what Answer.Stepped b)
wait_goes what (next.Do y) b = refl
wait_goes what (next.End e x) b = at_end what (got_left x) e b
