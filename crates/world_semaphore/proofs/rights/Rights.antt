-- After each step what is known tells the rights and the limit.
use Rattle.world_semaphore.proofs.Prelude.{◌≡◌, ◌≢◌, ℕ, ◌+◌, ◌<◌, ◌≤◌, ◌↔◌, true, false, get_or, length, Option, Some, None, is_some, refl, arith, ap, sym, ◌∙◌, subst, ℕ_discrete, sum_by, get_or-le-sum_by, Answer, Call, Inputs, Move, What, Begin, Go, Refusal, Kind, Rest, Stage, Outside, Inside, Forgotten, Within, within, Standing, outside, inside, forgotten, is_outside, refused, inputs_of, some_eq, same_test, other_test, StepsWell, stage_at, stands_as, call_at, polls_again, stage_after, Table, past_last, by_stage_or_past, Action, Found, Done, Left, Available, Yes, No, Place, Take, Retake, Join, Ask, Remove, Load, HandOn, PassOn, RefuseFit, Try, Lower, GiveBack, Raise, GiveAdded, FitAdded, CancelRemove, CancelLoad, FitGivenBack, Abandon, Position, Out, Unlisted, Waiting, Holding, At, Words, Next, action_of, next_of, position_after, Seat, Share, guard_of, seat_of, permits_of, permits_at, share_of, size_at, verdict, Effect, nothing, changes, does, takes, gives_back, forgets, raises, gives, effect_of, words_after, Finds, Semaphore, IsSemaphore, answer_by, position_at, knows, goes_with, runs, is_begun, is_polling, World, share_at, has_permits, standing_of, size_of, size_after, view_of, HasItsOwn, IsSound, IsAwake, is_at_rest, IsSemaphoreTable, TableSteps, Known, Tells, HoldsWell, accounts_of, learn, added_by, forgotten_by}
use Rattle.world_base.specs.Accounts.{Account, account_after, HasByAnswers}
use Rattle.world_base.specs.Rights.{Right, permit}
use Rattle.world_base.specs.table.Rights.{account_by, sought_by, TellsAccounts}
use Rattle.world_base.proofs.of_table.Rights.{tells_on, idle_account, again_account}
use Rattle.world_semaphore.proofs.of_machine.laws.Kept.{after}
use Rattle.world_semaphore.proofs.of_machine.stages.Taking.{taken}
use Rattle.world_semaphore.proofs.of_machine.stages.Turns.{Turn, turn}
use Rattle.world_semaphore.proofs.table.Seen as seen
use Rattle.world_semaphore.proofs.step.Acting.{Acting}
use Rattle.world_semaphore.proofs.step.Acting as acting
use Rattle.world_semaphore.proofs.step.Stepping.{by_step}

abbrev account_at : Standing → Account
account_at s = account_by s (sought_by permit s) None

-- an action keeps its party's account
abbrev Kept_by : Stage → What → Within → Position → Next → Type 0
Kept_by s what w x n = account_after (account_at (stands_as (verdict x) s)) what (answer_by n) ≡ account_at (stands_as (verdict (position_after n)) (stage_after Rest.Holding w (answer_by n)))

abbrev Kept_at : Stage → What → Within → Position → Place → Found → Type 0
Kept_at s what w x from f = Kept_by s what w x (next_of from f)

-- and the limit is counted
abbrev limit_by : Effect → ℕ → ℕ
limit_by d l = (words_after d (record { available = 0; limit = l; most = 0 })).limit

abbrev Counts_at : What → Position → Place → Found → Type 0
Counts_at what x from f = (l : ℕ) → ((k : ℕ) → from ≡ Lower k → (k ≤ l) × (f ≡ Done)) → limit_by (effect_of (action_of from) f) l + forgotten_by what (answer_by (next_of from f)) (size_at x) ≡ l + added_by what (answer_by (next_of from f))

pub record Accounted (s : Stage) (what : What) (w : Within) (x : Position) (from : Place) : Type 0 where
  pub account : (f : Found) → Kept_at s what w x from f
  pub limit : (f : Found) → Counts_at what x from f

first_polls : (i : Inputs) (x : Place) (f : Found) → is_polling x ≡ true → Kept_at (Inside (within Kind.FirstPoll Rest.Idle)) (Go i) (within Kind.FirstPoll Rest.Idle) (At x) x f
first_polls i (Take k true told) (Left a) h = refl
first_polls i (Take k false true) (Left a) h = taken (Kept_by (Inside (within Kind.FirstPoll Rest.Idle)) (Go i) (within Kind.FirstPoll Rest.Idle) (At (Take k false true))) k a refl (λ none. refl)
first_polls i (Take k false false) (Left a) h = refl
first_polls i (Take k true told) _ h = refl
first_polls i (Take k false told) _ h = refl
first_polls i (Retake k) (Left a) h = refl
first_polls i (Retake k) _ h = refl
first_polls i (Join k told) Done h = refl
first_polls i (Join k (Some a)) _ h = refl
first_polls i (Join k None) _ h = refl
first_polls i (Ask k told) Yes h = refl
first_polls i (Ask k (Some a)) _ h = refl
first_polls i (Ask k None) _ h = refl
first_polls i (Remove k more) Yes h = refl
first_polls i (Remove k (Some a)) _ h = refl
first_polls i (Remove k None) _ h = refl
first_polls i (Load k) _ h = refl
first_polls i (HandOn k a) _ h = refl
first_polls i (PassOn k a) _ h = refl
first_polls i (RefuseFit k a) _ h = refl
first_polls i _ f h = absurd (cc h)

later_polls : (i : Inputs) (x : Place) (f : Found) → is_polling x ≡ true → Kept_at (Inside (within Kind.LaterPoll Rest.Pending)) (Go i) (within Kind.LaterPoll Rest.Pending) (At x) x f
later_polls i (Take k true told) (Left a) h = refl
later_polls i (Take k false true) (Left a) h = taken (Kept_by (Inside (within Kind.LaterPoll Rest.Pending)) (Go i) (within Kind.LaterPoll Rest.Pending) (At (Take k false true))) k a refl (λ none. refl)
later_polls i (Take k false false) (Left a) h = refl
later_polls i (Take k true told) _ h = refl
later_polls i (Take k false told) _ h = refl
later_polls i (Retake k) (Left a) h = refl
later_polls i (Retake k) _ h = refl
later_polls i (Join k told) Done h = refl
later_polls i (Join k (Some a)) _ h = refl
later_polls i (Join k None) _ h = refl
later_polls i (Ask k told) Yes h = refl
later_polls i (Ask k (Some a)) _ h = refl
later_polls i (Ask k None) _ h = refl
later_polls i (Remove k more) Yes h = refl
later_polls i (Remove k (Some a)) _ h = refl
later_polls i (Remove k None) _ h = refl
later_polls i (Load k) _ h = refl
later_polls i (HandOn k a) _ h = refl
later_polls i (PassOn k a) _ h = refl
later_polls i (RefuseFit k a) _ h = refl
later_polls i _ f h = absurd (cc h)

goes : (k : Kind) (r : Rest) (i : Inputs) (x : Place) (f : Found) → is_begun x ≡ true → runs k r x ≡ true → Kept_at (Inside (within k r)) (Go i) (within k r) (At x) x f
goes Kind.FirstPoll Rest.Idle i x f b h = first_polls i x f h
goes Kind.LaterPoll Rest.Pending i x f b h = later_polls i x f h
goes Kind.Add Rest.Idle i (Raise n) f b h = absurd (cc b)
goes Kind.Add Rest.Idle i (GiveAdded n) f b h = refl
goes Kind.Add Rest.Idle i (FitAdded a) f b h = refl
goes Kind.Add Rest.Idle i _ f b h = absurd (cc h)
goes Kind.Drop Rest.Holding i (GiveBack k) f b h = absurd (cc b)
goes Kind.Drop Rest.Holding i (FitGivenBack a) f b h = refl
goes Kind.Drop Rest.Holding i _ f b h = absurd (cc h)
goes Kind.Drop Rest.Pending i CancelRemove f b h = absurd (cc b)
goes Kind.Drop Rest.Pending i CancelLoad f b h = refl
goes Kind.Drop Rest.Pending i (FitGivenBack a) f b h = refl
goes Kind.Drop Rest.Pending i Abandon f b h = absurd (cc b)
goes Kind.Drop Rest.Pending i _ f b h = absurd (cc h)
goes Kind.Try Rest.Idle i (Try k) f b h = absurd (cc b)
goes Kind.Try Rest.Idle i _ f b h = absurd (cc h)
goes Kind.Forget Rest.Holding i (Lower k) f b h = absurd (cc b)
goes Kind.Forget Rest.Holding i _ f b h = absurd (cc h)
goes _ _ i x f b h = absurd (cc h)

goes_limit : (i : Inputs) (x : Place) (f : Found) → is_begun x ≡ true → Counts_at (Go i) (At x) x f
goes_limit i (Take k listed told) (Left a) b l h = refl
goes_limit i (Take k listed told) _ b l h = refl
goes_limit i (Join k told) Done b l h = refl
goes_limit i (Join k told) _ b l h = refl
goes_limit i (Ask k told) Yes b l h = refl
goes_limit i (Ask k told) No b l h = refl
goes_limit i (Ask k told) _ b l h = refl
goes_limit i (Remove k more) Yes b l h = refl
goes_limit i (Remove k more) No b l h = refl
goes_limit i (Remove k more) _ b l h = refl
goes_limit i (Load k) f b l h = refl
goes_limit i (HandOn k a) Done b l h = refl
goes_limit i (HandOn k a) _ b l h = refl
goes_limit i (PassOn k a) Done b l h = refl
goes_limit i (PassOn k a) _ b l h = refl
goes_limit i (RefuseFit k a) Done b l h = refl
goes_limit i (RefuseFit k a) _ b l h = refl
goes_limit i (FitGivenBack a) Done b l h = refl
goes_limit i (FitGivenBack a) _ b l h = refl
goes_limit i CancelLoad f b l h = refl
goes_limit i (GiveAdded n) (Available a) b l h = refl
goes_limit i (GiveAdded n) _ b l h = refl
goes_limit i (FitAdded a) Done b l h = refl
goes_limit i (FitAdded a) _ b l h = refl
goes_limit i _ f b l h = absurd (cc b)

take_account : (i : Inputs) (k : ℕ) (f : Found) → Kept_at (Outside Rest.Idle) (Begin (Call.Acquire k) i) (within Kind.FirstPoll Rest.Idle) Out (Take k false false) f
take_account i k (Left a) = refl
take_account i k _ = refl

poll_account : (i : Inputs) (k : ℕ) (f : Found) → Kept_at (Outside Rest.Pending) (Begin Call.Poll i) (within Kind.LaterPoll Rest.Pending) (Unlisted k) (Take k false false) f
poll_account i k (Left a) = refl
poll_account i k _ = refl

retake_account : (i : Inputs) (k : ℕ) (f : Found) → Kept_at (Outside Rest.Pending) (Begin Call.Poll i) (within Kind.LaterPoll Rest.Pending) (Waiting k) (Retake k) f
retake_account i k (Left a) = refl
retake_account i k _ = refl

try_account : (i : Inputs) (k : ℕ) (f : Found) → Kept_at (Outside Rest.Idle) (Begin (Call.TryAcquire k) i) (within Kind.Try Rest.Idle) Out (Try k) f
try_account i k (Left a) = refl
try_account i k _ = refl

add_account : (n : ℕ) (i : Inputs) (f : Found) → Kept_at (Outside Rest.Idle) (Begin (Call.AddPermits n) i) (within Kind.Add Rest.Idle) Out (Raise n) f
add_account n i Done = refl
add_account n i _ = refl

cancel_account : (i : Inputs) (k : ℕ) (f : Found) → Kept_at (Outside Rest.Pending) (Begin Call.Drop i) (within Kind.Drop Rest.Pending) (Waiting k) CancelRemove f
cancel_account i k Yes = refl
cancel_account i k _ = refl

take_limit : (i : Inputs) (k : ℕ) (f : Found) → Counts_at (Begin (Call.Acquire k) i) Out (Take k false false) f
take_limit i k (Left a) l h = refl
take_limit i k _ l h = refl

poll_limit : (i : Inputs) (k : ℕ) (f : Found) → Counts_at (Begin Call.Poll i) (Unlisted k) (Take k false false) f
poll_limit i k (Left a) l h = refl
poll_limit i k _ l h = refl

retake_limit : (i : Inputs) (k : ℕ) (f : Found) → Counts_at (Begin Call.Poll i) (Waiting k) (Retake k) f
retake_limit i k (Left a) l h = refl
retake_limit i k _ l h = refl

try_limit : (i : Inputs) (k : ℕ) (f : Found) → Counts_at (Begin (Call.TryAcquire k) i) Out (Try k) f
try_limit i k (Left a) l h = refl
try_limit i k _ l h = refl

add_limit : (n : ℕ) (i : Inputs) (f : Found) → Counts_at (Begin (Call.AddPermits n) i) Out (Raise n) f
add_limit n i Done l h = omega arith
add_limit n i _ l h = omega arith

abandon_limit : (i : Inputs) (k : ℕ) (f : Found) → Counts_at (Begin Call.Drop i) (Unlisted k) Abandon f
abandon_limit i k f l h = refl

cancel_limit : (i : Inputs) (k : ℕ) (f : Found) → Counts_at (Begin Call.Drop i) (Waiting k) CancelRemove f
cancel_limit i k Yes l h = refl
cancel_limit i k No l h = refl
cancel_limit i k _ l h = refl

give_limit : (i : Inputs) (k : ℕ) (f : Found) → Counts_at (Begin Call.Drop i) (Holding k) (GiveBack k) f
give_limit i k (Available a) l h = refl
give_limit i k _ l h = refl

forget_limit : (i : Inputs) (k : ℕ) (f : Found) → Counts_at (Begin Call.Forget i) (Holding k) (Lower k) f
forget_limit i k Done l h = let some = (h k refl).0 in omega arith
forget_limit i k _ l h = absurd (cc ((h k refl).1))

pub accounted : (s : Stage) (what : What) (w : Within) (x : Position) → goes_with s x ≡ true → call_at knows s what ≡ Some w → polls_again s what ≡ false → Turn Accounted s what w x
accounted = turn Accounted (record {
  acquire = λ k i. record { account = take_account i k; limit = take_limit i k };
  try = λ k i. record { account = try_account i k; limit = try_limit i k };
  add = λ n i. record { account = add_account n i; limit = add_limit n i };
  poll = λ k i. record { account = poll_account i k; limit = poll_limit i k };
  poll_listed = λ k i. record { account = retake_account i k; limit = retake_limit i k };
  abandon = λ k i. record { account = λ f. refl; limit = abandon_limit i k };
  cancel = λ k i. record { account = cancel_account i k; limit = cancel_limit i k };
  give_back = λ k i. record { account = λ f. refl; limit = give_limit i k };
  forget = λ k i. record { account = λ f. refl; limit = forget_limit i k };
  go = λ w x i begun here. record { account = λ f. goes w.kind w.was i x f begun here; limit = λ f. goes_limit i x f begun };
})

-- a World's limit is at least what a party's guard has
some_limit : (s : Semaphore) (laws : IsSemaphore s) (p k : ℕ) → p < length s.positions → permits_at (position_at s.positions p) ≡ k → k ≤ s.words.limit
some_limit s laws p k known one =
    let most : permits_at (get_or s.positions p Out) ≤ sum_by permits_at s.positions = get_or-le-sum_by permits_at s.positions p Out known in
    omega (arith, most, one, laws.balanced)

limit_seen : (d : Effect) (w : Words) → (words_after d w).limit ≡ limit_by d w.limit
limit_seen nothing w = refl
limit_seen (changes (takes k)) w = refl
limit_seen (changes (gives_back k)) w = refl
limit_seen (changes (forgets k)) w = refl
limit_seen (changes (raises n)) w = refl
limit_seen (changes (gives n)) w = refl
limit_seen (does f) w = refl

module _ (t u : Table Semaphore) (m : Move) (a : Answer) where
  abbrev p : ℕ
  p = m.party

  abbrev old : World
  old = view_of t

  abbrev new : World
  new = view_of u

  -- what a step does to the account of its party, to those of the others, and to the limit
  pub record Counted_on : Type 0 where
    pub own : account_after (accounts_of old p) m.what a ≡ accounts_of new p
    pub others : (q : ℕ) → q ≢ p → accounts_of new q ≡ accounts_of old q
    pub limit : new.state.limit + forgotten_by m.what a (size_of old p) ≡ old.state.limit + added_by m.what a
    pub sized : size_of new p ≡ size_after m.what a (size_of old p)
    pub others_sized : (q : ℕ) → q ≢ p → size_of new q ≡ size_of old q

  module _ (w : Within) (k : Acting t u m a w) where
    so : Accounted (stage_at t.stages p) m.what w (position_at t.machine.positions p) k.from
    so =
        let turned = accounted (stage_at t.stages p) m.what w (position_at t.machine.positions p) (k.old_fits.stands p k.inside) k.call k.first in
        let P : Place → Type 0 = λ y. Accounted (stage_at t.stages p) m.what w (position_at t.machine.positions p) y in
        subst P (some_eq (sym turned.starts ∙ k.starts)) turned.holds

    lower_done : (y : Place) (n : ℕ) → y ≡ Lower n → Finds (inputs_of m.what).memory p (action_of y) k.found t.machine.words t.machine.entries → k.found ≡ Done
    lower_done y n e finds = let P : Place → Type 0 = λ y. Finds (inputs_of m.what).memory p (action_of y) k.found t.machine.words t.machine.entries in done_only k.found (subst P e finds) where
      done_only : (f : Found) → Finds (inputs_of m.what).memory p (Action.Lower n) f t.machine.words t.machine.entries → f ≡ Done
      done_only Done h = refl
      done_only _ h = absurd h

    lowers_some : (n : ℕ) → k.from ≡ Lower n → n ≤ t.machine.words.limit
    lowers_some n e = some_limit t.machine k.old_laws p n (omega (arith, k.inside, k.old_fits.as_many)) (ap (λ (z : Seat). permits_of z.share) (sym k.here.same ∙ ap seat_of e))

    pub counted_acting : Counted_on
    counted_acting = record {
      own = ap (λ z. account_after (account_at z) m.what a) (acting.stood t u m a w k)
          ∙ (ap (account_after (account_at (stands_as (verdict (position_at t.machine.positions p)) (stage_at t.stages p))) m.what) k.answer
          ∙ (so.account k.found
          ∙ (ap (λ b. account_at (stands_as (verdict (after k.from k.found)) (stage_after Rest.Holding w b))) (sym k.answer) ∙ ap account_at (sym (acting.stands t u m a w k)))));
      others = λ q apart. ap account_at (acting.others_stand t u m a w k q apart);
      limit =
          let is : u.machine.words.limit ≡ limit_by (effect_of (action_of k.from) k.found) t.machine.words.limit = ap (λ (v : Words). v.limit) k.acts.words ∙ limit_seen (effect_of (action_of k.from) k.found) t.machine.words in
          let counts : limit_by (effect_of (action_of k.from) k.found) t.machine.words.limit + forgotten_by m.what (answer_by (next_of k.from k.found)) (size_at (position_at t.machine.positions p)) ≡ t.machine.words.limit + added_by m.what (answer_by (next_of k.from k.found)) =
          so.limit k.found t.machine.words.limit (λ n e. (lowers_some n e, lower_done k.from n e k.acts.finds)) in
          let P : Answer → ℕ → Type 0 = λ b n. u.machine.words.limit + forgotten_by m.what b n ≡ t.machine.words.limit + added_by m.what b in
          let Q : Answer → Type 0 = λ b. P b (size_at (position_at t.machine.positions p)) in
          subst (P a) (sym (seen.size_seen t p)) (subst Q (sym k.answer) (rw is counts));
      sized = (acting.knows_sizes t u m a w k).own;
      others_sized = (acting.knows_sizes t u m a w k).others;
    }

  -- a move that does nothing
  none_added : (what : What) (n : ℕ) → (added_by what Answer.NotPossible ≡ 0) × (forgotten_by what Answer.NotPossible n ≡ 0)
  none_added (Begin (Call.AddPermits j) i) n = (refl, refl)
  none_added (Begin Call.Forget i) n = (refl, refl)
  none_added _ n = (refl, refl)

  again_limit : (s : Stage) (what : What) (n : ℕ) → polls_again s what ≡ true → (forgotten_by what (refused Refusal.Finished) n ≡ 0) × (added_by what (refused Refusal.Finished) ≡ 0) × (n ≡ size_after what (refused Refusal.Finished) n)
  again_limit (Outside Rest.Holding) (Begin Call.Poll i) n h = (refl, refl, refl)
  again_limit (Outside Rest.Finished) (Begin Call.Poll i) n h = (refl, refl, refl)
  again_limit _ _ n h = absurd (cc h)

  abbrev On : Answer → Table Semaphore → Type 0
  On b x = (account_after (accounts_of old p) m.what b ≡ accounts_of (view_of x) p) × ((q : ℕ) → q ≢ p → accounts_of (view_of x) q ≡ accounts_of old q) × (x.machine.words.limit + forgotten_by m.what b (size_of old p) ≡ t.machine.words.limit + added_by m.what b)
      × (size_of (view_of x) p ≡ size_after m.what b (size_of old p)) × ((q : ℕ) → q ≢ p → size_of (view_of x) q ≡ size_of old q)

  pub counted : IsSemaphore t.machine → IsSemaphoreTable t → IsSemaphore u.machine → IsSemaphoreTable u → TableSteps t m a u → Counted_on
  counted tl tf ul uf step =
      let all = by_step t u m a tl tf ul uf On
      (λ e. (idle_account (accounts_of old p) m.what, λ q apart. refl, (let none = none_added m.what (size_of old p) in omega (arith, none.0, none.1)), refl, λ q apart. refl))
      (λ w e f. (again_account (accounts_of old p) (stage_at t.stages p) m.what f, λ q apart. refl, (let same = again_limit (stage_at t.stages p) m.what (size_of old p) f in omega (arith, same.0, same.1)), (again_limit (stage_at t.stages p) m.what (size_of old p) f).2, λ q apart. refl))
      (λ w k. let on = counted_acting w k in (on.own, on.others, on.limit, on.sized, on.others_sized)) step in
      record { own = all.0; others = all.1; limit = all.2; sized = all.3; others_sized = all.4 }

-- ---- what is known, and that all is well

-- what a guard has
held_of : (w : World) (p k : ℕ) → share_at w.state p ≡ guard_of k → (share_at w.state p).held ≡ Some k
held_of w p k h = ap (λ (z : Share). z.held) h

own_right : (w : World) (p : ℕ) (s : Standing) → is_outside s ≡ true → (s ≡ forgotten → has_permits w.state p ≡ false) → HasItsOwn w p s → (has_permits w.state p ≡ true) ↔ HasByAnswers (account_at s) permit
own_right w p (outside Rest.Idle) o past own = ((λ h. absurd (cc (ap (λ (z : Share). is_some z.held) own.1, h))), (λ h. absurd (cc (h.0))))
own_right w p (outside Rest.Finished) o past own = ((λ h. absurd (cc (ap (λ (z : Share). is_some z.held) own.1, h))), (λ h. absurd (cc (h.0))))
own_right w p (outside Rest.Pending) o past own = ((λ h. absurd (cc (ap (λ (z : Share). is_some z.held) own, h))), (λ h. absurd (cc (h.0))))
own_right w p (outside Rest.Holding) o past own = ((λ h. (refl, refl)), (λ h. ap (λ (z : Share). is_some z.held) own.1))
own_right w p (inside u d) o past own = absurd (cc o)
own_right w p forgotten o past own = ((λ h. absurd (cc (past refl, h))), (λ h. absurd (cc (h.0))))

own_told : (w : World) (p : ℕ) (r : Right) (s : Standing) → HasItsOwn w p s → HasByAnswers (account_at s) r → (r ≡ permit) × ((share_at w.state p).held ≡ Some (size_of w p))
own_told w p r (outside Rest.Idle) own h = absurd (cc (h.0))
own_told w p r (outside Rest.Finished) own h = absurd (cc (h.0))
own_told w p r (outside Rest.Pending) own h = absurd (cc (h.0))
own_told w p r (outside Rest.Holding) own h = (sym (some_eq h.1), held_of w p (size_of w p) own.1)
own_told w p r (inside u d) own h = absurd (cc (h.0))
own_told w p r forgotten own h = absurd (cc (h.0))

-- a party past the table has nothing
past_has : (t : Table Semaphore) (laws : IsSemaphoreTable t) (q : ℕ) → standing_of (view_of t) q ≡ forgotten → has_permits (view_of t).state q ≡ false
past_has t fits q e = ap (λ (z : Share). is_some z.held) (seen.share_seen t q) ∙ by_stage_or_past t.stages q (is_some (share_of (position_at t.machine.positions q)).held ≡ false)
    (λ past. ap (λ x. is_some (share_of x).held) (past_last t.machine.positions q Out (omega (arith, past, fits.as_many))))
    (λ inside. never (stage_at t.stages q) (position_at t.machine.positions q) (verdict (position_at t.machine.positions q)) (fits.stands q inside) (sym (seen.stands_seen t q) ∙ e)) where
      never : (s : Stage) (x : Position) (d : Option Answer) → goes_with s x ≡ true → stands_as d s ≡ forgotten → is_some (share_of x).held ≡ false
      never (Outside r) x d g h = absurd (cc h)
      never (Inside w) x d g h = absurd (cc h)
      never Forgotten x d g h = absurd (cc g)

-- what is known tells the sizes on
sizes_on : (k : Known) (t u : Table Semaphore) (m : Move) (a : Answer) → Tells k (view_of t) → Counted_on t u m a → (q : ℕ) → (learn k m a).sizes q ≡ size_of (view_of u) q
sizes_on k t u m a tells on q = elim (ℕ_discrete m.party q) as (λ _. (learn k m a).sizes q ≡ size_of (view_of u) q) [
  | yes e ↦ rw (same_test m.party q e) (ap (size_after m.what a) (tells.sizes q) ∙ (let P : ℕ → Type 0 = λ j. size_after m.what a (size_of (view_of t) j) ≡ size_of (view_of u) j in subst P e (sym on.sized)))
  | no apart ↦ rw (other_test m.party q apart) (tells.sizes q ∙ sym (on.others_sized q (λ e. apart (sym e))))
]

pub holds_well : (k : Known) (t u : Table Semaphore) (m : Move) (a : Answer) → IsSemaphoreTable u → Tells k (view_of t) → Counted_on t u m a → IsSound (view_of u) → (is_at_rest (view_of u) ≡ true → IsAwake (view_of u)) → StepsWell Tells HoldsWell (learn k m a) (view_of u)
holds_well k t u m a fits tells on sound awake =
    let rights : TellsAccounts accounts_of (learn k m a).accounts (view_of u) = tells_on accounts_of k.accounts (view_of t) m a (view_of u) tells.rights on.own on.others in
    let sizes : (q : ℕ) → (learn k m a).sizes q ≡ size_of (view_of u) q = sizes_on k t u m a tells on in
    let gone : forgotten_by m.what a (k.sizes m.party) ≡ forgotten_by m.what a (size_of (view_of t) m.party) = ap (forgotten_by m.what a) (tells.sizes m.party) in
    let limit : (view_of u).state.limit + (k.forgotten + forgotten_by m.what a (k.sizes m.party)) ≡ k.start + (k.added + added_by m.what a) = omega (arith, on.limit, tells.limit, gone) in
    record {
      tells = record { rights = rights; sizes = sizes; limit = limit };
      well = record {
        rights = λ q out. (let P : Account → Type 0 = λ z. (has_permits (view_of u).state q ≡ true) ↔ HasByAnswers z permit in subst P (sym (rights q)) (own_right (view_of u) q (standing_of (view_of u) q) out (past_has u fits q) (sound.each q)));
        told = λ q r h. (let P : Account → Type 0 = λ z. HasByAnswers z r in let own = own_told (view_of u) q r (standing_of (view_of u) q) (sound.each q) (subst P (rights q) h) in (own.0, own.1 ∙ ap Some (sym (sizes q))));
        limit = limit;
        sound = sound;
        awake = awake;
      };
    }
