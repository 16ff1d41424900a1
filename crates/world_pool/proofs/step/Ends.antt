-- How a call ends.
use Rattle.world_pool.proofs.Prelude.{◌≡◌, ℕ, Bool, true, false, Option, Some, refl, ap, sym, ◌∙◌, subst, false≢true, some_eq, none_some, Answer, Call, Inputs, What, Begin, Go, Kind, Rest, Stage, Outside, Inside, Forgotten, Within, call_at, stands_as, stage_after, is_stepped, is_possible, End, Step, Refusal, Course, Takes, Tries, Aim, Ending, Found, Place, Acquire, WaitPermit, TakePermit, TryPermit, TryLock, EnterLock, WaitLock, TakeLock, Pop, Push, ReleaseLock, ReleasingLock, ReturnPermit, ReturningPermit, CancelPermit, CancellingPermit, CancelLock, CancellingLock, Lose, Abandon, Position, Made, Acquiring, Locking, At, Return, Taker, Next, place_for, next_of, after_permit, after_lock, after_release, after_return, after_cancel, after_cancel_permit, is_take, is_try, is_give, is_drop, is_poll, is_lose, runs, knows, is_giving, answer_by, StandsAfter, ends}
use Rattle.lock_program.specs.declared.end.Next.TheVariants as next
use Rattle.world_pool.specs.machine.Roles.{is_giving_at}
use Rattle.world_semaphore.specs.machine.Course as permit
use Rattle.world_semaphore.specs.machine.Conduct.{Polls, Tries as TriesPermit}
use Rattle.world_pool.proofs.of_machine.Links.{LedPermit, LedLock}

-- a step goes on, or ends its call by an answer with which such a call may end
abbrev pub EndsBy : Bool → Kind → Next → Option ℕ → Type 0
EndsBy b k n l = is_stepped (answer_by n l) ≡ false → ends b k (answer_by n l) ≡ true

going : (a : Answer) → a ≡ Answer.Stepped → is_stepped a ≡ false → ⊥
going a e h = cc (e, h)

module _ (l : Option ℕ) where
  -- a take's poll, by a kind by which it may end so
  module _ (b : Bool) (k : Kind) (pends : ends b k Answer.Pending ≡ true) (readies : (g : _) → ends b k (Answer.Ready g) ≡ true) (refuses : (n : ℕ) → ends b k (Answer.Refused n) ≡ true) where
    permit_ends : (s : Step) (to : permit.Course) → Polls 1 s to → EndsBy b k (after_permit (Found.Permit s)) l
    permit_ends Step.More to h g = absurd (cc g)
    permit_ends (Step.End End.Got) to h g = absurd (cc g)
    permit_ends (Step.End End.Pending) to h g = pends
    permit_ends (Step.End (End.Refused Refusal.Memory)) to h g = refuses _
    permit_ends (Step.End (End.Refused _)) to h g = absurd h
    permit_ends (Step.End _) to h g = absurd h

    lock_ends : (n : Step) (to : Course) → Takes n to → EndsBy b k (after_lock Aim.Take (Found.Lock n)) l
    lock_ends Step.More to h g = absurd (cc g)
    lock_ends (Step.End End.Got) to h g = absurd (cc g)
    lock_ends (Step.End End.Pending) to h g = pends
    lock_ends (Step.End (End.Refused Refusal.Memory)) to h g = absurd (cc g)
    lock_ends (Step.End (End.Refused Refusal.Starved)) to h g = absurd (cc g)
    lock_ends (Step.End _) to h g = absurd h

    release_ends : (n : Step) → EndsBy b k (after_release (Ending.Leased Taker.Poll) (Found.Lock n)) l
    release_ends Step.More g = absurd (cc g)
    release_ends (Step.End e) g = readies _

    no_memory : (s : Step) → EndsBy b k (after_return Return.NoMemory (Found.Permit s)) l
    no_memory Step.More g = absurd (cc g)
    no_memory (Step.End e) g = refuses _

    too_many : (s : Step) → EndsBy b k (after_return Return.Starved (Found.Permit s)) l
    too_many Step.More g = absurd (cc g)
    too_many (Step.End e) g = refuses _

    take_ends : (x : Place) (f : Found) (at : permit.Course) (to : Course) → LedPermit x f at → LedLock x f to → is_take x ≡ true → EndsBy b k (next_of x f) l
    take_ends Acquire (Found.Permit s) at to h e t = permit_ends s at h
    take_ends Acquire _ at to h e t = absurd h
    take_ends WaitPermit (Found.Permit s) at to h e t = permit_ends s at h
    take_ends WaitPermit _ at to h e t = absurd h
    take_ends TakePermit (Found.Permit s) at to h e t = permit_ends s at h
    take_ends TakePermit _ at to h e t = absurd h
    take_ends (EnterLock Aim.Take) (Found.Lock n) at to h e t = lock_ends n to e
    take_ends (EnterLock Aim.Take) _ at to h e t = absurd e
    take_ends (WaitLock Aim.Take) (Found.Lock n) at to h e t = lock_ends n to e
    take_ends (WaitLock Aim.Take) _ at to h e t = absurd e
    take_ends (TakeLock Aim.Take) (Found.Lock n) at to h e t = lock_ends n to e
    take_ends (TakeLock Aim.Take) _ at to h e t = absurd e
    take_ends (Pop Taker.Poll) f at to h e t = λ g. absurd (cc g)
    take_ends (ReleaseLock (Ending.Leased Taker.Poll)) (Found.Lock n) at to h e t = release_ends n
    take_ends (ReleaseLock (Ending.Leased Taker.Poll)) _ at to h e t = absurd e
    take_ends (ReleasingLock (Ending.Leased Taker.Poll)) (Found.Lock n) at to h e t = release_ends n
    take_ends (ReleasingLock (Ending.Leased Taker.Poll)) _ at to h e t = absurd e
    take_ends (ReturnPermit Return.NoMemory) (Found.Permit s) at to h e t = no_memory s
    take_ends (ReturnPermit Return.NoMemory) _ at to h e t = absurd h
    take_ends (ReturnPermit Return.Starved) (Found.Permit s) at to h e t = too_many s
    take_ends (ReturnPermit Return.Starved) _ at to h e t = absurd h
    take_ends (ReturningPermit Return.NoMemory) (Found.Permit s) at to h e t = no_memory s
    take_ends (ReturningPermit Return.NoMemory) _ at to h e t = absurd h
    take_ends (ReturningPermit Return.Starved) (Found.Permit s) at to h e t = too_many s
    take_ends (ReturningPermit Return.Starved) _ at to h e t = absurd h
    take_ends _ f at to h e t = absurd (cc)

  -- a give's poll
  module _ (b : Bool) (k : Kind) (pends : ends b k Answer.Pending ≡ true) (gives : ends b k Answer.GivenBack ≡ true) (refuses : (n : ℕ) → ends b k (Answer.Refused n) ≡ true) where
    lock_gives : (n : Step) (to : Course) → Takes n to → EndsBy b k (after_lock Aim.Give (Found.Lock n)) l
    lock_gives Step.More to h g = absurd (cc g)
    lock_gives (Step.End End.Got) to h g = absurd (cc g)
    lock_gives (Step.End End.Pending) to h g = pends
    lock_gives (Step.End (End.Refused Refusal.Memory)) to h g = refuses _
    lock_gives (Step.End (End.Refused Refusal.Starved)) to h g = refuses _
    lock_gives (Step.End _) to h g = absurd h

    release_gives : (n : Step) → EndsBy b k (after_release Ending.Given (Found.Lock n)) l
    release_gives Step.More g = absurd (cc g)
    release_gives (Step.End e) g = absurd (cc g)

    returns : (s : Step) → EndsBy b k (after_return Return.Given (Found.Permit s)) l
    returns Step.More g = absurd (cc g)
    returns (Step.End e) g = gives

    give_ends : (x : Place) (f : Found) (at : permit.Course) (to : Course) → LedPermit x f at → LedLock x f to → is_give x ≡ true → EndsBy b k (next_of x f) l
    give_ends (EnterLock Aim.Give) (Found.Lock n) at to h e t = lock_gives n to e
    give_ends (EnterLock Aim.Give) _ at to h e t = absurd e
    give_ends (WaitLock Aim.Give) (Found.Lock n) at to h e t = lock_gives n to e
    give_ends (WaitLock Aim.Give) _ at to h e t = absurd e
    give_ends (TakeLock Aim.Give) (Found.Lock n) at to h e t = lock_gives n to e
    give_ends (TakeLock Aim.Give) _ at to h e t = absurd e
    give_ends Push f at to h e t = λ g. absurd (cc g)
    give_ends (ReleaseLock Ending.Given) (Found.Lock n) at to h e t = release_gives n
    give_ends (ReleaseLock Ending.Given) _ at to h e t = absurd e
    give_ends (ReleasingLock Ending.Given) (Found.Lock n) at to h e t = release_gives n
    give_ends (ReleasingLock Ending.Given) _ at to h e t = absurd e
    give_ends (ReturnPermit Return.Given) (Found.Permit s) at to h e t = returns s
    give_ends (ReturnPermit Return.Given) _ at to h e t = absurd h
    give_ends (ReturningPermit Return.Given) (Found.Permit s) at to h e t = returns s
    give_ends (ReturningPermit Return.Given) _ at to h e t = absurd h
    give_ends _ f at to h e t = absurd (cc)

  try_lock : (b : Bool) (n : Step) (to : Course) → Tries n to → EndsBy b Kind.Try (next_of TryLock (Found.Lock n)) l
  try_lock b (Step.End End.Got) to h g = absurd (cc g)
  try_lock b (Step.End End.NotFree) to h g = absurd (cc g)
  try_lock b _ to h g = absurd h

  try_permit : (b : Bool) (s : Step) (at : permit.Course) → TriesPermit 1 s at → EndsBy b Kind.Try (next_of TryPermit (Found.Permit s)) l
  try_permit b (Step.End End.Granted) at h g = absurd (cc g)
  try_permit true (Step.End End.NotFree) at h g = refl
  try_permit false (Step.End End.NotFree) at h g = refl
  try_permit b _ at h g = absurd h

  release_tried : (b : Bool) (n : Step) → EndsBy b Kind.Try (after_release (Ending.Leased Taker.Try) (Found.Lock n)) l
  release_tried b Step.More g = absurd (cc g)
  release_tried true (Step.End e) g = refl
  release_tried false (Step.End e) g = refl

  in_vain : (b : Bool) (s : Step) → EndsBy b Kind.Try (after_return Return.InVain (Found.Permit s)) l
  in_vain b Step.More g = absurd (cc g)
  in_vain true (Step.End e) g = refl
  in_vain false (Step.End e) g = refl

  try_ends : (b : Bool) (x : Place) (f : Found) (at : permit.Course) (to : Course) → LedPermit x f at → LedLock x f to → is_try x ≡ true → EndsBy b Kind.Try (next_of x f) l
  try_ends b TryPermit (Found.Permit s) at to h e t = try_permit b s at h
  try_ends b TryPermit _ at to h e t = absurd h
  try_ends b TryLock (Found.Lock n) at to h e t = try_lock b n to e
  try_ends b TryLock _ at to h e t = absurd e
  try_ends b (Pop Taker.Try) f at to h e t = λ g. absurd (cc g)
  try_ends b (ReleaseLock (Ending.Leased Taker.Try)) (Found.Lock n) at to h e t = release_tried b n
  try_ends b (ReleaseLock (Ending.Leased Taker.Try)) _ at to h e t = absurd e
  try_ends b (ReleasingLock (Ending.Leased Taker.Try)) (Found.Lock n) at to h e t = release_tried b n
  try_ends b (ReleasingLock (Ending.Leased Taker.Try)) _ at to h e t = absurd e
  try_ends b (ReturnPermit Return.InVain) (Found.Permit s) at to h e t = in_vain b s
  try_ends b (ReturnPermit Return.InVain) _ at to h e t = absurd h
  try_ends b (ReturningPermit Return.InVain) (Found.Permit s) at to h e t = in_vain b s
  try_ends b (ReturningPermit Return.InVain) _ at to h e t = absurd h
  try_ends b _ f at to h e t = absurd (cc)

  given_back : (b : Bool) → ends b Kind.Drop Answer.GivenBack ≡ true
  given_back true = refl
  given_back false = refl

  cancel_permit : (b : Bool) (s : Step) → EndsBy b Kind.Drop (after_cancel_permit (Found.Permit s)) l
  cancel_permit b Step.More g = absurd (cc g)
  cancel_permit b (Step.End e) g = given_back b

  cancel_lock : (b : Bool) (a : Aim) (n : Step) → EndsBy b Kind.Drop (after_cancel a (Found.Lock n)) l
  cancel_lock b a Step.More g = absurd (cc g)
  cancel_lock b Aim.Take (Step.End e) g = absurd (cc g)
  cancel_lock b Aim.Give (Step.End e) g = absurd (cc g)

  return_dropped : (b : Bool) (s : Step) → EndsBy b Kind.Drop (after_return Return.Dropped (Found.Permit s)) l
  return_dropped b Step.More g = absurd (cc g)
  return_dropped b (Step.End e) g = given_back b

  drop_ends : (b : Bool) (x : Place) (f : Found) (at : permit.Course) (to : Course) → LedPermit x f at → LedLock x f to → is_drop x ≡ true → EndsBy b Kind.Drop (next_of x f) l
  drop_ends b CancelPermit (Found.Permit s) at to h e t = cancel_permit b s
  drop_ends b CancelPermit _ at to h e t = absurd h
  drop_ends b CancellingPermit (Found.Permit s) at to h e t = cancel_permit b s
  drop_ends b CancellingPermit _ at to h e t = absurd h
  drop_ends b (CancelLock a) (Found.Lock n) at to h e t = cancel_lock b a n
  drop_ends b (CancelLock a) _ at to h e t = absurd e
  drop_ends b (CancellingLock a) (Found.Lock n) at to h e t = cancel_lock b a n
  drop_ends b (CancellingLock a) _ at to h e t = absurd e
  drop_ends b (ReturnPermit Return.Dropped) (Found.Permit s) at to h e t = return_dropped b s
  drop_ends b (ReturnPermit Return.Dropped) _ at to h e t = absurd h
  drop_ends b (ReturningPermit Return.Dropped) (Found.Permit s) at to h e t = return_dropped b s
  drop_ends b (ReturningPermit Return.Dropped) _ at to h e t = absurd h
  drop_ends b Lose f at to h e t = λ g. given_back b
  drop_ends b Abandon f at to h e t = λ g. given_back b
  drop_ends b _ f at to h e t = absurd (cc)

  lose_ends : (b : Bool) (x : Place) (f : Found) → is_lose x ≡ true → EndsBy b Kind.Drop (next_of x f) l
  lose_ends b Lose f t = λ g. given_back b
  lose_ends b _ f t = absurd (cc)

  first_ends : (b : Bool) (x : Place) (f : Found) (at : permit.Course) (to : Course) → LedPermit x f at → LedLock x f to → is_take x ≡ true → EndsBy b Kind.FirstPoll (next_of x f) l
  first_ends true = take_ends true Kind.FirstPoll refl (λ g. refl) (λ n. refl)
  first_ends false = take_ends false Kind.FirstPoll refl (λ g. refl) (λ n. refl)

  gives_end : (b : Bool) (x : Place) (f : Found) (at : permit.Course) (to : Course) → LedPermit x f at → LedLock x f to → is_give x ≡ true → EndsBy b Kind.Give (next_of x f) l
  gives_end true = give_ends true Kind.Give refl refl (λ n. refl)
  gives_end false = give_ends false Kind.Give refl refl (λ n. refl)

  -- a later poll of a give, and of a take
  takes_give_not : (x : Place) → is_take x ≡ true → is_giving_at x ≡ false
  takes_give_not (EnterLock Aim.Take) h = refl
  takes_give_not (WaitLock Aim.Take) h = refl
  takes_give_not (TakeLock Aim.Take) h = refl
  takes_give_not (EnterLock Aim.Give) h = absurd (false≢true h)
  takes_give_not (WaitLock Aim.Give) h = absurd (false≢true h)
  takes_give_not (TakeLock Aim.Give) h = absurd (false≢true h)
  takes_give_not (ReleaseLock (Ending.Leased k)) h = refl
  takes_give_not (ReleasingLock (Ending.Leased k)) h = refl
  takes_give_not (ReturnPermit Return.NoMemory) h = refl
  takes_give_not (ReturnPermit Return.Starved) h = refl
  takes_give_not (ReturningPermit Return.NoMemory) h = refl
  takes_give_not (ReturningPermit Return.Starved) h = refl
  takes_give_not Acquire h = refl
  takes_give_not WaitPermit h = refl
  takes_give_not TakePermit h = refl
  takes_give_not (Pop k) h = refl
  takes_give_not _ h = absurd (cc)

  gives_give : (x : Place) → is_give x ≡ true → is_giving_at x ≡ true
  gives_give (EnterLock Aim.Give) h = refl
  gives_give (WaitLock Aim.Give) h = refl
  gives_give (TakeLock Aim.Give) h = refl
  gives_give Push h = refl
  gives_give (ReleaseLock Ending.Given) h = refl
  gives_give (ReleasingLock Ending.Given) h = refl
  gives_give (ReturnPermit Return.Given) h = refl
  gives_give (ReturningPermit Return.Given) h = refl
  gives_give _ h = absurd (cc)

  poll_ends : (b t : Bool) (x : Place) (f : Found) (at : permit.Course) (to : Course) → b ≡ is_giving_at x → is_take x ≡ t → LedPermit x f at → LedLock x f to → is_poll x ≡ true → EndsBy b Kind.LaterPoll (next_of x f) l
  poll_ends b true x f at to e t h k p = (let P : Bool → Type 0 = λ z. EndsBy z Kind.LaterPoll (next_of x f) l in subst P (sym (e ∙ takes_give_not x t)) (take_ends false Kind.LaterPoll refl (λ g. refl) (λ n. refl) x f at to h k t))
  poll_ends b false x f at to e t h k p = (let gv : is_give x ≡ true = rw t at p in let P : Bool → Type 0 = λ z. EndsBy z Kind.LaterPoll (next_of x f) l in subst P (sym (e ∙ gives_give x gv)) (give_ends true Kind.LaterPoll refl refl (λ n. refl) x f at to h k gv))

  pub ends_by : (b : Bool) (k : Kind) (r : Rest) (x : Place) (f : Found) (at : permit.Course) (to : Course) → (k ≡ Kind.LaterPoll → b ≡ is_giving_at x) → LedPermit x f at → LedLock x f to → runs k r x ≡ true → EndsBy b k (next_of x f) l
  ends_by b Kind.FirstPoll Rest.Idle x f at to e h k t = first_ends b x f at to h k t
  ends_by b Kind.Try Rest.Idle x f at to e h k t = try_ends b x f at to h k t
  ends_by b Kind.LaterPoll Rest.Pending x f at to e h k t = poll_ends b (is_take x) x f at to (e refl) refl h k t
  ends_by b Kind.Give Rest.Holding x f at to e h k t = gives_end b x f at to h k t
  ends_by b Kind.Drop Rest.Pending x f at to e h k t = drop_ends b x f at to h k t
  ends_by b Kind.Drop Rest.Holding x f at to e h k t = lose_ends b x f t
  ends_by b _ _ x f at to e h k t = absurd (cc)

-- ---- whether a later poll is a give's

begun_later : (c : Call) (i : Inputs) (x : Position) (from : Place) → place_for (Begin c i) x ≡ Some from → c ≡ Call.Poll → is_giving x ≡ is_giving_at from
begun_later Call.Poll i (Made Aim.Take) from e k = ap is_giving_at (some_eq e)
begun_later Call.Poll i (Made Aim.Give) from e k = ap is_giving_at (some_eq e)
begun_later Call.Poll i Acquiring from e k = ap is_giving_at (some_eq e)
begun_later Call.Poll i (Locking Aim.Take) from e k = ap is_giving_at (some_eq e)
begun_later Call.Poll i (Locking Aim.Give) from e k = ap is_giving_at (some_eq e)
begun_later Call.Poll i _ from e k = absurd (none_some e)
begun_later _ i x from e k = absurd (cc k)

is_poll_call : (r : Rest) (c : Call) (i : Inputs) (w : Within) → call_at knows (Outside r) (Begin c i) ≡ Some w → w.kind ≡ Kind.LaterPoll → c ≡ Call.Poll
is_poll_call Rest.Idle Call.Take i w e k = (let same = ap (λ (z : Within). z.kind) (some_eq e) in absurd (cc (same, k)))
is_poll_call Rest.Idle Call.TryTake i w e k = (let same = ap (λ (z : Within). z.kind) (some_eq e) in absurd (cc (same, k)))
is_poll_call r Call.Poll i w e k = refl
is_poll_call Rest.Holding Call.Give i w e k = (let same = ap (λ (z : Within). z.kind) (some_eq e) in absurd (cc (same, k)))
is_poll_call Rest.Holding Call.Drop i w e k = (let same = ap (λ (z : Within). z.kind) (some_eq e) in absurd (cc (same, k)))
is_poll_call Rest.Pending Call.Drop i w e k = (let same = ap (λ (z : Within). z.kind) (some_eq e) in absurd (cc (same, k)))
is_poll_call Rest.Finished Call.Take i w e k = (let same = ap (λ (z : Within). z.kind) (some_eq e) in absurd (cc (same, k)))
is_poll_call Rest.Finished Call.TryTake i w e k = (let same = ap (λ (z : Within). z.kind) (some_eq e) in absurd (cc (same, k)))
is_poll_call Rest.Finished Call.Drop i w e k = (let same = ap (λ (z : Within). z.kind) (some_eq e) in absurd (cc (same, k)))
is_poll_call r _ i w e k = absurd (none_some e)

pub later_gives : (s : Stage) (what : What) (w : Within) (x : Position) (from : Place) → call_at knows s what ≡ Some w → place_for what x ≡ Some from → w.kind ≡ Kind.LaterPoll → is_giving x ≡ is_giving_at from
later_gives (Outside r) (Begin c i) w x from e st k = begun_later c i x from st (is_poll_call r c i w e k)
later_gives (Inside v) (Go i) w (At y) from e st k = ap is_giving_at (some_eq st)
later_gives (Inside v) (Go i) w _ from e st k = absurd (none_some st)
later_gives (Outside r) (Go i) w x from e st k = absurd (none_some e)
later_gives (Inside v) (Begin c i) w x from e st k = absurd (none_some e)
later_gives Forgotten what w x from e st k = absurd (none_some e)

-- ---- as callers see it

pub stands_then : (b : Bool) (w : Within) (a : Answer) (d : Option Answer) → is_possible a ≡ true → (is_stepped a ≡ false → ends b w.kind a ≡ true) → StandsAfter b w a (stands_as d (stage_after Rest.Holding w a))
stands_then b w Answer.Stepped d h e = (d, refl)
stands_then b w Answer.NotPossible d h e = absurd (cc)
stands_then b w _ d h e = (e refl, refl)

pub possible_by : (n : Next) (l : Option ℕ) → is_possible (answer_by n l) ≡ true
possible_by (next.Do x) l = refl
possible_by (next.End End.Got x) l = refl
possible_by (next.End End.Granted x) l = refl
possible_by (next.End End.Pending x) l = refl
possible_by (next.End End.Waiting x) l = refl
possible_by (next.End End.NotFree x) l = refl
possible_by (next.End End.GivenBack x) l = refl
possible_by (next.End (End.Refused r) x) l = refl
