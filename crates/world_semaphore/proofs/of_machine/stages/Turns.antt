-- Where a call begins or goes on, and at which stage its party is after its action.
use Rattle.world_semaphore.proofs.Prelude.{◌≡◌, ℕ, ◌&&◌, true, false, Some, None, refl, sym, subst, arith, false≢true, Call, Inputs, What, Begin, Go, Kind, Rest, Stage, Outside, Inside, Forgotten, Within, within, some_eq, none_some, both, call_at, polls_again, stage_after, Found, Done, Left, Yes, Place, Take, Retake, Join, Ask, Remove, Load, HandOn, PassOn, RefuseFit, Try, Lower, GiveBack, Raise, GiveAdded, FitAdded, CancelRemove, CancelLoad, FitGivenBack, Abandon, Position, Out, Unlisted, Waiting, Holding, At, told_more, is_told, Next, place_for, next_of, position_after, knows, runs, is_polling, is_begun, goes_with, answer_by}
use Rattle.world_semaphore.specs.machine.Machine.{StandsAt}
use Rattle.world_semaphore.proofs.of_machine.stages.Taking.{taken}

-- The moves of a semaphore's parties: each call from where it may begin, and going on.
pub record Moves (P : Stage → What → Within → Position → Place → Type 0) : Type 0 where
  pub acquire : (k : ℕ) (i : Inputs) → P (Outside Rest.Idle) (Begin (Call.Acquire k) i) (record { kind = Kind.FirstPoll; was = Rest.Idle }) Out (Take k false false)
  pub try : (k : ℕ) (i : Inputs) → P (Outside Rest.Idle) (Begin (Call.TryAcquire k) i) (record { kind = Kind.Try; was = Rest.Idle }) Out (Try k)
  pub add : (n : ℕ) (i : Inputs) → P (Outside Rest.Idle) (Begin (Call.AddPermits n) i) (record { kind = Kind.Add; was = Rest.Idle }) Out (Raise n)
  pub poll : (k : ℕ) (i : Inputs) → P (Outside Rest.Pending) (Begin Call.Poll i) (record { kind = Kind.LaterPoll; was = Rest.Pending }) (Unlisted k) (Take k false false)
  pub poll_listed : (k : ℕ) (i : Inputs) → P (Outside Rest.Pending) (Begin Call.Poll i) (record { kind = Kind.LaterPoll; was = Rest.Pending }) (Waiting k) (Retake k)
  pub abandon : (k : ℕ) (i : Inputs) → P (Outside Rest.Pending) (Begin Call.Drop i) (record { kind = Kind.Drop; was = Rest.Pending }) (Unlisted k) Abandon
  pub cancel : (k : ℕ) (i : Inputs) → P (Outside Rest.Pending) (Begin Call.Drop i) (record { kind = Kind.Drop; was = Rest.Pending }) (Waiting k) CancelRemove
  pub give_back : (k : ℕ) (i : Inputs) → P (Outside Rest.Holding) (Begin Call.Drop i) (record { kind = Kind.Drop; was = Rest.Holding }) (Holding k) (GiveBack k)
  pub forget : (k : ℕ) (i : Inputs) → P (Outside Rest.Holding) (Begin Call.Forget i) (record { kind = Kind.Forget; was = Rest.Holding }) (Holding k) (Lower k)
  pub go : (w : Within) (x : Place) (i : Inputs) → is_begun x ≡ true → runs w.kind w.was x ≡ true → P (Inside w) (Go i) w (At x) x

-- where a move begins, and what is so there
pub record Turn (P : Stage → What → Within → Position → Place → Type 0) (s : Stage) (what : What) (w : Within) (x : Position) : Type 0 where
  pub from : Place
  pub starts : place_for what x ≡ Some from
  pub holds : P s what w x from

module _ (P : Stage → What → Within → Position → Place → Type 0) (k : Moves P) where
  begun : (s : Stage) (what : What) (v w : Within) (x : Position) (from : Place) → place_for what x ≡ Some from → Some v ≡ Some w → P s what v x from → Turn P s what w x
  begun s what v w x from starts e h = let Q : Within → Type 0 = λ u. P s what u x from in record { from = from; starts = starts; holds = subst Q (some_eq e) h }

  -- one stage after the other, since each case of a match over all of them at once would be told apart from all others
  idle : (what : What) (w : Within) → call_at knows (Outside Rest.Idle) what ≡ Some w → Turn P (Outside Rest.Idle) what w Out
  idle (Begin (Call.Acquire n) i) w e = begun _ _ _ w Out (Take n false false) refl e (k.acquire n i)
  idle (Begin (Call.TryAcquire n) i) w e = begun _ _ _ w Out (Try n) refl e (k.try n i)
  idle (Begin (Call.AddPermits n) i) w e = begun _ _ _ w Out (Raise n) refl e (k.add n i)
  idle (Begin _ i) w e = absurd (none_some e)
  idle (Go i) w e = absurd (none_some e)

  polled : (i : Inputs) (w : Within) (x : Position) → goes_with (Outside Rest.Pending) x ≡ true → call_at knows (Outside Rest.Pending) (Begin Call.Poll i) ≡ Some w → Turn P (Outside Rest.Pending) (Begin Call.Poll i) w x
  polled i w (Unlisted n) g e = begun _ _ _ w (Unlisted n) (Take n false false) refl e (k.poll n i)
  polled i w (Waiting n) g e = begun _ _ _ w (Waiting n) (Retake n) refl e (k.poll_listed n i)
  polled i w _ g e = absurd (false≢true g)

  dropped : (i : Inputs) (w : Within) (x : Position) → goes_with (Outside Rest.Pending) x ≡ true → call_at knows (Outside Rest.Pending) (Begin Call.Drop i) ≡ Some w → Turn P (Outside Rest.Pending) (Begin Call.Drop i) w x
  dropped i w (Unlisted n) g e = begun _ _ _ w (Unlisted n) Abandon refl e (k.abandon n i)
  dropped i w (Waiting n) g e = begun _ _ _ w (Waiting n) CancelRemove refl e (k.cancel n i)
  dropped i w _ g e = absurd (false≢true g)

  pending : (what : What) (w : Within) (x : Position) → goes_with (Outside Rest.Pending) x ≡ true → call_at knows (Outside Rest.Pending) what ≡ Some w → Turn P (Outside Rest.Pending) what w x
  pending (Begin Call.Poll i) w x g e = polled i w x g e
  pending (Begin Call.Drop i) w x g e = dropped i w x g e
  pending (Begin _ i) w x g e = absurd (none_some e)
  pending (Go i) w x g e = absurd (none_some e)

  holding : (n : ℕ) (what : What) (w : Within) → call_at knows (Outside Rest.Holding) what ≡ Some w → polls_again (Outside Rest.Holding) what ≡ false → Turn P (Outside Rest.Holding) what w (Holding n)
  holding n (Begin Call.Drop i) w e first = begun _ _ _ w (Holding n) (GiveBack n) refl e (k.give_back n i)
  holding n (Begin Call.Forget i) w e first = begun _ _ _ w (Holding n) (Lower n) refl e (k.forget n i)
  holding n (Begin Call.Poll i) w e first = absurd (false≢true (sym first))
  holding n (Begin _ i) w e first = absurd (none_some e)
  holding n (Go i) w e first = absurd (none_some e)

  resting : (r : Rest) (what : What) (w : Within) (x : Position) → goes_with (Outside r) x ≡ true → call_at knows (Outside r) what ≡ Some w → polls_again (Outside r) what ≡ false → Turn P (Outside r) what w x
  resting Rest.Idle what w Out g e n = idle what w e
  resting Rest.Pending what w x g e n = pending what w x g e
  resting Rest.Holding what w (Holding m) g e n = holding m what w e n
  resting _ what w _ g e n = absurd (false≢true g)

  pub turn : (s : Stage) (what : What) (w : Within) (x : Position) → goes_with s x ≡ true → call_at knows s what ≡ Some w → polls_again s what ≡ false → Turn P s what w x
  turn (Outside r) what w x g e n = resting r what w x g e n
  turn (Inside v) (Go i) w (At x) g e n = let h = both (is_begun x) (runs v.kind v.was x) g in begun _ _ _ w (At x) x refl e (k.go v x i h.0 h.1)
  turn (Inside v) (Go i) w _ g e n = absurd (false≢true g)
  turn (Inside v) (Begin c i) w x g e n = absurd (none_some e)
  turn Forgotten what w x g e n = absurd (none_some e)

-- A party may act where its call begins, and its place is one of that call's program.
pub record Fits (w : Within) (x : Position) (from : Place) : Type 0 where
  pub stands : StandsAt from x
  pub runs : runs w.kind w.was from ≡ true

pub fits : (s : Stage) (what : What) (w : Within) (x : Position) → goes_with s x ≡ true → call_at knows s what ≡ Some w → polls_again s what ≡ false → Turn (λ s what w x from. Fits w x from) s what w x
fits = turn (λ s what w x from. Fits w x from) (record {
  acquire = λ k i. record { stands = record { same = refl; waits = λ s. omega arith; short = λ h. absurd (cc h) }; runs = refl };
  try = λ k i. record { stands = record { same = refl; waits = λ s. omega arith; short = λ h. absurd (cc h) }; runs = refl };
  add = λ n i. record { stands = record { same = refl; waits = λ s. omega arith; short = λ h. absurd (cc h) }; runs = refl };
  poll = λ k i. record { stands = record { same = refl; waits = λ s. omega arith; short = λ h. absurd (cc h) }; runs = refl };
  poll_listed = λ k i. record { stands = record { same = refl; waits = λ s. omega arith; short = λ h. (refl, refl) }; runs = refl };
  abandon = λ k i. record { stands = record { same = refl; waits = λ s. omega arith; short = λ h. absurd (cc h) }; runs = refl };
  cancel = λ k i. record { stands = record { same = refl; waits = λ s. omega arith; short = λ h. absurd (cc h) }; runs = refl };
  give_back = λ k i. record { stands = record { same = refl; waits = λ s. omega arith; short = λ h. absurd (cc h) }; runs = refl };
  forget = λ k i. record { stands = record { same = refl; waits = λ s. omega arith; short = λ h. absurd (cc h) }; runs = refl };
  go = λ w x i begun here. record { stands = record { same = refl; waits = λ s. omega arith; short = λ h. (h, refl) }; runs = here };
})

-- ---- the stage after an action goes with where the party then stands

abbrev LandsBy : Within → Next → Type 0
LandsBy w n = goes_with (stage_after Rest.Holding w (answer_by n)) (position_after n) ≡ true

abbrev pub Lands : Within → Place → Found → Type 0
Lands w x f = LandsBy w (next_of x f)

module _ (w : Within) (inside : (x : Place) → is_begun x && is_polling x ≡ true → goes_with (Inside w) (At x) ≡ true) where
  polls : (x : Place) (f : Found) → is_polling x ≡ true → Lands w x f
  polls (Take k true told) (Left a) h = inside (Remove k (told_more told a)) refl
  polls (Take k false true) (Left a) h = taken (LandsBy w) k a (inside (HandOn k a) refl) (λ none. refl)
  polls (Take k false false) (Left a) h = refl
  polls (Take k true told) _ h = inside (Ask k _) refl
  polls (Take k false told) _ h = inside (Join k _) refl
  polls (Retake k) (Left a) h = inside (Remove k None) refl
  polls (Retake k) _ h = inside (Ask k None) refl
  polls (Join k told) Done h = inside (Take k true (is_told told)) refl
  polls (Join k (Some a)) _ h = inside (RefuseFit k a) refl
  polls (Join k None) _ h = refl
  polls (Ask k told) Yes h = inside (Take k false true) refl
  polls (Ask k (Some a)) _ h = inside (PassOn k a) refl
  polls (Ask k None) _ h = refl
  polls (Remove k more) Yes h = inside (Load k) refl
  polls (Remove k (Some a)) _ h = inside (HandOn k a) refl
  polls (Remove k None) _ h = refl
  polls (Load k) f h = inside (HandOn k _) refl
  polls (HandOn k a) _ h = refl
  polls (PassOn k a) _ h = refl
  polls (RefuseFit k a) _ h = refl
  polls _ f h = absurd (false≢true h)

tries : (x : Place) (f : Found) → runs Kind.Try Rest.Idle x ≡ true → Lands (within Kind.Try Rest.Idle) x f
tries (Try k) (Left a) h = refl
tries (Try k) _ h = refl
tries _ f h = absurd (false≢true h)

adds : (x : Place) (f : Found) → runs Kind.Add Rest.Idle x ≡ true → Lands (within Kind.Add Rest.Idle) x f
adds (Raise n) Done h = refl
adds (Raise n) _ h = refl
adds (GiveAdded n) f h = refl
adds (FitAdded a) f h = refl
adds _ f h = absurd (false≢true h)

cancels : (x : Place) (f : Found) → runs Kind.Drop Rest.Pending x ≡ true → Lands (within Kind.Drop Rest.Pending) x f
cancels CancelRemove Yes h = refl
cancels CancelRemove _ h = refl
cancels CancelLoad f h = refl
cancels (FitGivenBack a) f h = refl
cancels Abandon f h = refl
cancels _ f h = absurd (false≢true h)

returns : (x : Place) (f : Found) → runs Kind.Drop Rest.Holding x ≡ true → Lands (within Kind.Drop Rest.Holding) x f
returns (GiveBack k) f h = refl
returns (FitGivenBack a) f h = refl
returns _ f h = absurd (false≢true h)

forgets : (x : Place) (f : Found) → runs Kind.Forget Rest.Holding x ≡ true → Lands (within Kind.Forget Rest.Holding) x f
forgets (Lower k) f h = refl
forgets _ f h = absurd (false≢true h)

by_kind : (k : Kind) (r : Rest) (x : Place) (f : Found) → runs k r x ≡ true → Lands (within k r) x f
by_kind Kind.FirstPoll Rest.Idle x f h = polls (within Kind.FirstPoll Rest.Idle) (λ y p. p) x f h
by_kind Kind.LaterPoll Rest.Pending x f h = polls (within Kind.LaterPoll Rest.Pending) (λ y p. p) x f h
by_kind Kind.Try Rest.Idle x f h = tries x f h
by_kind Kind.Add Rest.Idle x f h = adds x f h
by_kind Kind.Drop Rest.Pending x f h = cancels x f h
by_kind Kind.Drop Rest.Holding x f h = returns x f h
by_kind Kind.Forget Rest.Holding x f h = forgets x f h
by_kind _ _ x f h = absurd (false≢true h)

pub lands : (w : Within) (x : Place) (f : Found) → runs w.kind w.was x ≡ true → Lands w x f
lands w x f h = by_kind w.kind w.was x f h
