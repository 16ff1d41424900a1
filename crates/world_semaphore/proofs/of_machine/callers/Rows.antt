-- Where each place's action leads, as those see it who build on a semaphore, and why its call is decided there.
use Rattle.world_semaphore.proofs.Prelude.{◌≡◌, ℕ, ◌+◌, ◌<◌, Bool, true, false, List, Option, Some, None, refl, arith, sym, Entry, Refusal, Action, Found, Done, Left, Short, Available, PastLimit, NoMemory, Yes, No, Next, Place, Take, Retake, Join, Ask, Remove, Load, HandOn, PassOn, RefuseFit, Try, Lower, GiveBack, Raise, GiveAdded, FitAdded, CancelRemove, CancelLoad, FitGivenBack, Abandon, At, Words, action_of, next_of, position_after, share_of, guard_of, nothing, effect_of, Finds, gives_something_back, is_polling, is_adding, is_begun, is_some, verdict_of}
use Rattle.lock_program.specs.declared.end.End.{End}
use Rattle.lock_program.specs.declared.end.End.TheVariants.{Got, Pending, NotFree, Refused}
use Rattle.world_semaphore.proofs.of_machine.callers.Sights.{end_of}
use Rattle.world_semaphore.proofs.of_machine.laws.Kept.{after}
use Rattle.world_semaphore.proofs.of_machine.stages.Taking.{taken}
use Rattle.world_semaphore.proofs.step.Rows.{is_join, is_ask}
use Rattle.world_semaphore.specs.machine.Conduct.{Polls, Tries, Adds, Drops, decided_then}
use Rattle.world_semaphore.specs.machine.Course as course
use Rattle.world_semaphore.specs.machine.Done.{step_of}
use Rattle.world_semaphore.specs.machine.Seats.{size_of}
use Rattle.world_semaphore.specs.machine.Seen.{course_of, is_kept}

-- nobody is left where a call only begins
pub kept_after : (x : Place) (f : Found) → is_kept (after x f) ≡ true
kept_after (Take k true told) (Left c) = refl
kept_after (Take k true told) _ = refl
kept_after (Take k false true) (Left c) = taken (λ n. is_kept (position_after n) ≡ true) k c refl (λ none. refl)
kept_after (Take k false false) (Left c) = refl
kept_after (Take k false told) _ = refl
kept_after (Retake k) (Left c) = refl
kept_after (Retake k) _ = refl
kept_after (Join k told) Done = refl
kept_after (Join k (Some a)) _ = refl
kept_after (Join k None) _ = refl
kept_after (Ask k told) Yes = refl
kept_after (Ask k (Some a)) _ = refl
kept_after (Ask k None) _ = refl
kept_after (Remove k more) Yes = refl
kept_after (Remove k (Some a)) _ = refl
kept_after (Remove k None) _ = refl
kept_after (Try k) (Left c) = refl
kept_after (Try k) _ = refl
kept_after (Raise n) Done = refl
kept_after (Raise n) _ = refl
kept_after CancelRemove Yes = refl
kept_after CancelRemove _ = refl
kept_after _ f = refl

-- ---- Where it leads

abbrev PollsSo : ℕ → Next → Type 0
PollsSo k n = Polls k (step_of n) (course_of (position_after n))

pub polls : (x : Place) (f : Found) → is_polling x ≡ true → PollsSo (size_of x) (next_of x f)
polls (Take k true told) (Left c) h = (refl, refl)
polls (Take k true told) _ h = (refl, refl)
polls (Take k false true) (Left c) h = taken (PollsSo k) k c (refl, refl) (λ none. refl)
polls (Take k false false) (Left c) h = refl
polls (Take k false told) _ h = (refl, refl)
polls (Retake k) (Left c) h = (refl, refl)
polls (Retake k) _ h = (refl, refl)
polls (Join k told) Done h = (refl, refl)
polls (Join k (Some a)) _ h = (refl, refl)
polls (Join k None) _ h = refl
polls (Ask k told) Yes h = (refl, refl)
polls (Ask k (Some a)) _ h = (refl, refl)
polls (Ask k None) _ h = refl
polls (Remove k more) Yes h = (refl, refl)
polls (Remove k (Some a)) _ h = (refl, refl)
polls (Remove k None) _ h = refl
polls (Load k) f h = (refl, refl)
polls (HandOn k a) f h = refl
polls (PassOn k a) f h = refl
polls (RefuseFit k a) f h = refl
polls _ f h = absurd (cc h)

pub tries : (k : ℕ) (f : Found) → Tries k (step_of (next_of (Try k) f)) (course_of (after (Try k) f))
tries k (Left c) = refl
tries k _ = refl

pub adds : (x : Place) (f : Found) → is_adding x ≡ true → Adds (step_of (next_of x f)) (course_of (after x f))
adds (Raise n) Done h = refl
adds (Raise n) _ h = refl
adds (GiveAdded n) f h = refl
adds (FitAdded a) f h = refl
adds _ f h = absurd (cc h)

abbrev pub is_dropping : Place → Bool
is_dropping (GiveBack k) = true
is_dropping CancelRemove = true
is_dropping CancelLoad = true
is_dropping (FitGivenBack a) = true
is_dropping Abandon = true
is_dropping _ = false

pub drops : (x : Place) (f : Found) → is_dropping x ≡ true → Drops (step_of (next_of x f)) (course_of (after x f))
drops (GiveBack k) f h = refl
drops CancelRemove Yes h = refl
drops CancelRemove _ h = refl
drops CancelLoad f h = refl
drops (FitGivenBack a) f h = refl
drops Abandon f h = refl
drops _ f h = absurd (cc h)

pub is_poll : (x : Place) → is_begun x ≡ true → course.is_polling (course_of (At x)) ≡ true → is_polling x ≡ true
is_poll (Take k true told) b h = refl
is_poll (Take k false true) b h = refl
is_poll (Take k false false) b h = absurd (cc b)
is_poll (Retake k) b h = absurd (cc b)
is_poll (Join k (Some a)) b h = refl
is_poll (Join k None) b h = refl
is_poll (Ask k (Some a)) b h = refl
is_poll (Ask k None) b h = refl
is_poll (Remove k (Some a)) b h = refl
is_poll (Remove k None) b h = refl
is_poll (Load k) b h = refl
is_poll (HandOn k a) b h = refl
is_poll (PassOn k a) b h = refl
is_poll (RefuseFit k a) b h = refl
is_poll (Try k) b h = absurd (cc b)
is_poll (Lower k) b h = absurd (cc b)
is_poll (GiveBack k) b h = absurd (cc b)
is_poll (Raise n) b h = absurd (cc b)
is_poll (GiveAdded n) b h = absurd (cc h)
is_poll (FitAdded a) b h = absurd (cc h)
is_poll CancelRemove b h = absurd (cc b)
is_poll CancelLoad b h = absurd (cc h)
is_poll (FitGivenBack a) b h = absurd (cc h)
is_poll Abandon b h = absurd (cc b)

pub is_add : (x : Place) → is_begun x ≡ true → course.is_adding (course_of (At x)) ≡ true → is_adding x ≡ true
is_add (Take k true told) b h = absurd (cc h)
is_add (Take k false true) b h = absurd (cc h)
is_add (Take k false false) b h = absurd (cc b)
is_add (Retake k) b h = absurd (cc b)
is_add (Join k (Some a)) b h = absurd (cc h)
is_add (Join k None) b h = absurd (cc h)
is_add (Ask k (Some a)) b h = absurd (cc h)
is_add (Ask k None) b h = absurd (cc h)
is_add (Remove k (Some a)) b h = absurd (cc h)
is_add (Remove k None) b h = absurd (cc h)
is_add (Load k) b h = absurd (cc h)
is_add (HandOn k a) b h = absurd (cc h)
is_add (PassOn k a) b h = absurd (cc h)
is_add (RefuseFit k a) b h = absurd (cc h)
is_add (Try k) b h = absurd (cc b)
is_add (Lower k) b h = absurd (cc b)
is_add (GiveBack k) b h = absurd (cc b)
is_add (Raise n) b h = absurd (cc b)
is_add (GiveAdded n) b h = refl
is_add (FitAdded a) b h = refl
is_add CancelRemove b h = absurd (cc b)
is_add CancelLoad b h = absurd (cc h)
is_add (FitGivenBack a) b h = absurd (cc h)
is_add Abandon b h = absurd (cc b)

pub is_drop : (x : Place) → is_begun x ≡ true → course.is_dropping (course_of (At x)) ≡ true → is_dropping x ≡ true
is_drop (Take k true told) b h = absurd (cc h)
is_drop (Take k false true) b h = absurd (cc h)
is_drop (Take k false false) b h = absurd (cc b)
is_drop (Retake k) b h = absurd (cc b)
is_drop (Join k (Some a)) b h = absurd (cc h)
is_drop (Join k None) b h = absurd (cc h)
is_drop (Ask k (Some a)) b h = absurd (cc h)
is_drop (Ask k None) b h = absurd (cc h)
is_drop (Remove k (Some a)) b h = absurd (cc h)
is_drop (Remove k None) b h = absurd (cc h)
is_drop (Load k) b h = absurd (cc h)
is_drop (HandOn k a) b h = absurd (cc h)
is_drop (PassOn k a) b h = absurd (cc h)
is_drop (RefuseFit k a) b h = absurd (cc h)
is_drop (Try k) b h = absurd (cc b)
is_drop (Lower k) b h = absurd (cc b)
is_drop (GiveBack k) b h = absurd (cc b)
is_drop (Raise n) b h = absurd (cc b)
is_drop (GiveAdded n) b h = absurd (cc h)
is_drop (FitAdded a) b h = absurd (cc h)
is_drop CancelRemove b h = absurd (cc b)
is_drop CancelLoad b h = refl
is_drop (FitGivenBack a) b h = refl
is_drop Abandon b h = absurd (cc b)

-- ---- Why it is decided

-- for how many permits the call is
abbrev pub size_for : Place → ℕ
size_for (Raise n) = n
size_for x = size_of x

abbrev pub Why : Bool → Words → Place → Found → Next → End → Type 0
Why memory w x f n Got = share_of (position_after n) ≡ guard_of (size_for x)
Why memory w x f n Pending = (is_ask x ≡ true) × (f ≡ No)
Why memory w x f n NotFree = w.available < size_for x
Why memory w x f n (Refused Refusal.Memory) = (memory ≡ false) × (is_join x ≡ true) × (effect_of (action_of x) f ≡ nothing)
Why memory w x f n (Refused Refusal.Permits) = (w.most < w.limit + size_for x) × (effect_of (action_of x) f ≡ nothing)
Why memory w x f n (Refused _) = ⊥
Why memory w x f n _ = Unit {0}

-- what was decided is kept, and its party only gives back; what is decided now has its reason
abbrev pub Judged : Bool → Words → Place → Found → Next → Option End → Option End → Type 0
Judged memory w x f n (Some e) o = (o ≡ Some e) × (gives_something_back (effect_of (action_of x) f) ≡ true)
Judged memory w x f n None None = Unit {0}
Judged memory w x f n None (Some e) = Why memory w x f n e

abbrev pub JudgedBy : Bool → Words → Place → Found → Next → Type 0
JudgedBy memory w x f n = Judged memory w x f n (end_of x) (decided_then (step_of n) (course_of (position_after n)))

pub judged : (memory : Bool) (p : ℕ) (w : Words) (l : List (Entry ℕ)) (x : Place) (f : Found) → Finds memory p (action_of x) f w l → JudgedBy memory w x f (next_of x f)
judged memory p w l (Take k true told) (Left a) e = refl
judged memory p w l (Take k false true) (Left a) e = taken (JudgedBy memory w (Take k false true) (Left a)) k a refl (λ none. refl)
judged memory p w l (Take k false false) (Left a) e = refl
judged memory p w l (Take k true told) (Short a) e = tt
judged memory p w l (Take k false told) (Short a) e = tt
judged memory p w l (Take k there told) _ e = absurd e
judged memory p w l (Retake k) (Left a) e = refl
judged memory p w l (Retake k) (Short a) e = tt
judged memory p w l (Retake k) _ e = absurd e
judged memory p w l (Join k told) Done e = tt
judged memory p w l (Join k (Some a)) NoMemory e = (e, refl, refl)
judged memory p w l (Join k None) NoMemory e = (e, refl, refl)
judged memory p w l (Join k told) _ e = absurd e
judged memory p w l (Ask k told) Yes e = tt
judged memory p w l (Ask k (Some a)) No e = (refl, refl)
judged memory p w l (Ask k None) No e = (refl, refl)
judged memory p w l (Ask k told) _ e = absurd e
judged memory p w l (Remove k more) Yes e = (refl, refl)
judged memory p w l (Remove k (Some a)) No e = (refl, refl)
judged memory p w l (Remove k None) No e = (refl, refl)
judged memory p w l (Remove k more) _ e = absurd e
judged memory p w l (Load k) (Available a) e = (refl, refl)
judged memory p w l (Load k) _ e = absurd e
judged memory p w l (HandOn k a) Done e = (refl, refl)
judged memory p w l (HandOn k a) _ e = absurd e
judged memory p w l (PassOn k a) Done e = (refl, refl)
judged memory p w l (PassOn k a) _ e = absurd e
judged memory p w l (RefuseFit k a) Done e = (refl, refl)
judged memory p w l (RefuseFit k a) _ e = absurd e
judged memory p w l (FitAdded a) Done e = (refl, refl)
judged memory p w l (FitAdded a) _ e = absurd e
judged memory p w l (FitGivenBack a) Done e = (refl, refl)
judged memory p w l (FitGivenBack a) _ e = absurd e
judged memory p w l (Try k) (Left a) e = tt
judged memory p w l (Try k) (Short a) e = (let is = e.0 in let few = e.1 in omega arith)
judged memory p w l (Try k) _ e = absurd e
judged memory p w l (Lower k) Done e = (refl, refl)
judged memory p w l (Lower k) _ e = absurd e
judged memory p w l (GiveBack k) (Available a) e = (refl, refl)
judged memory p w l (GiveBack k) _ e = absurd e
judged memory p w l (Raise n) Done e = tt
judged memory p w l (Raise n) PastLimit e = (e, refl)
judged memory p w l (Raise n) _ e = absurd e
judged memory p w l (GiveAdded n) (Available a) e = (refl, refl)
judged memory p w l (GiveAdded n) _ e = absurd e
judged memory p w l CancelRemove Yes e = (refl, refl)
judged memory p w l CancelRemove No e = (refl, refl)
judged memory p w l CancelRemove _ e = absurd e
judged memory p w l CancelLoad (Available a) e = (refl, refl)
judged memory p w l CancelLoad _ e = absurd e
judged memory p w l Abandon Done e = (refl, refl)
judged memory p w l Abandon _ e = absurd e

-- ---- What a place says

pub wants : (x : Place) (n : ℕ) → action_of x ≡ Action.Take n → (n ≡ size_for x) × (end_of x ≡ None)
wants (Take k listed told) n e = (sym (cc e), refl)
wants (Retake k) n e = (sym (cc e), refl)
wants (Try k) n e = (sym (cc e), refl)
wants _ n e = absurd (cc e)

pub ends_so : (x : Place) → is_some (verdict_of x) ≡ is_some (end_of x)
ends_so (Take k true told) = refl
ends_so (Take k false told) = refl
ends_so (Retake k) = refl
ends_so (Join k told) = refl
ends_so (Ask k told) = refl
ends_so (Remove k more) = refl
ends_so (Load k) = refl
ends_so (HandOn k a) = refl
ends_so (PassOn k a) = refl
ends_so (RefuseFit k a) = refl
ends_so (Try k) = refl
ends_so (Lower k) = refl
ends_so (GiveBack k) = refl
ends_so (Raise n) = refl
ends_so (GiveAdded n) = refl
ends_so (FitAdded a) = refl
ends_so CancelRemove = refl
ends_so CancelLoad = refl
ends_so (FitGivenBack a) = refl
ends_so Abandon = refl

pub size_begun : (x : Place) → is_begun x ≡ true → size_for x ≡ size_of x
size_begun (Raise n) h = absurd (cc h)
size_begun _ h = refl
