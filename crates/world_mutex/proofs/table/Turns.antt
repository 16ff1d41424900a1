-- Where a call begins or goes on, and at which stage its party is after its action.
use Rattle.world_mutex.proofs.Prelude.{◌≡◌, ℕ, true, false, Some, None, refl, ap, sym, ◌∙◌, subst, false≢true, Call, Inputs, What, Begin, Go, Refusal, Kind, Rest, Stage, Outside, Inside, Forgotten, Within, within, put_in, is_stepped, may_end, some_eq, none_some, call_at, polls_again, stage_after, End, Found, LockCall, Next, Place, Out, Holding, Enter, Try, Clear, CancelUncount, CancelLeave, Ask, AskStarved, is_waiting, Takes, Tries, Releases, Cancels, GoesOn, next_of, place_after, knows, goes_with, is_within, is_try_kind, place_for, answer_by}
use Rattle.world_mutex.proofs.of_machine.legal.Courses.{begins, goes}

-- The moves of a mutex's parties but puts: each call from where it may begin, and going on.
pub record Moves (P : Stage → What → Within → Place → Place → Type 0) : Type 0 where
  pub lock : (i : Inputs) → P (Outside Rest.Idle) (Begin Call.Lock i) (within Kind.FirstPoll Rest.Idle) Out Enter
  pub try : (i : Inputs) → P (Outside Rest.Idle) (Begin Call.TryLock i) (within Kind.Try Rest.Idle) Out Try
  pub poll : (i : Inputs) → P (Outside Rest.Pending) (Begin Call.Poll i) (within Kind.LaterPoll Rest.Pending) Out Enter
  pub poll_listed : (i : Inputs) → P (Outside Rest.Pending) (Begin Call.Poll i) (within Kind.LaterPoll Rest.Pending) Ask Ask
  pub poll_starved : (i : Inputs) → P (Outside Rest.Pending) (Begin Call.Poll i) (within Kind.LaterPoll Rest.Pending) AskStarved AskStarved
  pub abandon : (i : Inputs) → P (Outside Rest.Pending) (Begin Call.Drop i) (within Kind.Drop Rest.Pending) Out Out
  pub cancel : (i : Inputs) → P (Outside Rest.Pending) (Begin Call.Drop i) (within Kind.Drop Rest.Pending) Ask CancelLeave
  pub cancel_starved : (i : Inputs) → P (Outside Rest.Pending) (Begin Call.Drop i) (within Kind.Drop Rest.Pending) AskStarved CancelUncount
  pub release : (i : Inputs) → P (Outside Rest.Holding) (Begin Call.Drop i) (within Kind.Drop Rest.Holding) Holding Clear
  pub go : (w : Within) (x : Place) (i : Inputs) → is_within w.kind w.was x ≡ true → P (Inside w) (Go i) w x x

-- where a move begins, and what is so there
pub record Turn (P : Stage → What → Within → Place → Place → Type 0) (s : Stage) (what : What) (w : Within) (x : Place) : Type 0 where
  pub from : Place
  pub starts : place_for w.was what x ≡ Some from
  pub holds : P s what w x from

module _ (P : Stage → What → Within → Place → Place → Type 0) (k : Moves P) where
  begun : (s : Stage) (what : What) (v w : Within) (x : Place) (from : Place) → place_for v.was what x ≡ Some from → Some v ≡ Some w → P s what v x from → Turn P s what w x
  begun s what v w x from starts e h = let Q : Within → Type 0 = λ u. Turn P s what u x in subst Q (some_eq e) (record { from = from; starts = starts; holds = h })

  pub turn : (s : Stage) (what : What) (w : Within) (x : Place) → goes_with s x ≡ true → call_at knows s what ≡ Some w → polls_again s what ≡ false → put_in what ≡ None → Turn P s what w x
  turn (Outside Rest.Idle) (Begin Call.Lock i) w Out g e n u = begun _ _ _ w Out Enter refl e (k.lock i)
  turn (Outside Rest.Idle) (Begin Call.TryLock i) w Out g e n u = begun _ _ _ w Out Try refl e (k.try i)
  turn (Outside Rest.Idle) (Begin _ i) w Out g e n u = absurd (none_some e)
  turn (Outside Rest.Idle) (Go i) w x g e n u = absurd (none_some e)
  turn (Outside Rest.Idle) (Begin _ i) w _ g e n u = absurd (false≢true g)
  turn (Outside Rest.Pending) (Begin Call.Poll i) w Out g e n u = begun _ _ _ w Out Enter refl e (k.poll i)
  turn (Outside Rest.Pending) (Begin Call.Poll i) w Ask g e n u = begun _ _ _ w Ask Ask refl e (k.poll_listed i)
  turn (Outside Rest.Pending) (Begin Call.Poll i) w AskStarved g e n u = begun _ _ _ w AskStarved AskStarved refl e (k.poll_starved i)
  turn (Outside Rest.Pending) (Begin Call.Drop i) w Out g e n u = begun _ _ _ w Out Out refl e (k.abandon i)
  turn (Outside Rest.Pending) (Begin Call.Drop i) w Ask g e n u = begun _ _ _ w Ask CancelLeave refl e (k.cancel i)
  turn (Outside Rest.Pending) (Begin Call.Drop i) w AskStarved g e n u = begun _ _ _ w AskStarved CancelUncount refl e (k.cancel_starved i)
  turn (Outside Rest.Pending) (Begin Call.Poll i) w _ g e n u = absurd (false≢true g)
  turn (Outside Rest.Pending) (Begin Call.Drop i) w _ g e n u = absurd (false≢true g)
  turn (Outside Rest.Pending) (Begin _ i) w x g e n u = absurd (none_some e)
  turn (Outside Rest.Pending) (Go i) w x g e n u = absurd (none_some e)
  turn (Outside Rest.Holding) (Begin Call.Drop i) w Holding g e n u = begun _ _ _ w Holding Clear refl e (k.release i)
  turn (Outside Rest.Holding) (Begin Call.Poll i) w Holding g e n u = absurd (false≢true (sym n))
  turn (Outside Rest.Holding) (Begin (Call.Put v) i) w Holding g e n u = absurd (none_some (sym u))
  turn (Outside Rest.Holding) (Begin _ i) w Holding g e n u = absurd (none_some e)
  turn (Outside Rest.Holding) (Go i) w x g e n u = absurd (none_some e)
  turn (Outside Rest.Holding) (Begin _ i) w _ g e n u = absurd (false≢true g)
  turn (Outside Rest.Finished) what w x g e n u = absurd (false≢true g)
  turn (Inside v) (Go i) w x g e n u = begun _ _ _ w x x refl e (k.go v x i g)
  turn (Inside v) (Begin _ i) w x g e n u = absurd (none_some e)
  turn Forgotten what w x g e n u = absurd (none_some e)

-- ---- how a call may end, and the stage after an action goes with where the party then stands

pub record Lands (v : ℕ) (w : Within) (n : Next) (y : Place) : Type 0 where
  pub fits : goes_with (stage_after Rest.Holding w (answer_by (is_try_kind w.kind) v n)) y ≡ true
  pub ends : is_stepped (answer_by (is_try_kind w.kind) v n) ≡ false → may_end w.kind (answer_by (is_try_kind w.kind) v n) ≡ true

waiting_fits : (x : Place) → is_waiting x ≡ true → goes_with (Outside Rest.Pending) x ≡ true
waiting_fits Ask h = refl
waiting_fits AskStarved h = refl
waiting_fits _ h = absurd (false≢true h)

at : (r : Rest) (x y : Place) → goes_with (Outside r) y ≡ true → x ≡ y → goes_with (Outside r) x ≡ true
at r x y h e = ap (goes_with (Outside r)) e ∙ h

module _ (v : ℕ) where
  first_lands : (n : Next) (x : Place) → Takes n x → Lands v (within Kind.FirstPoll Rest.Idle) n x
  first_lands (Next.Do a q) x t = record { fits = t; ends = λ h. absurd (false≢true (sym h)) }
  first_lands (Next.End End.Got) x t = record { fits = at Rest.Holding x Holding refl t; ends = λ h. refl }
  first_lands (Next.End End.Pending) x t = record { fits = waiting_fits x t; ends = λ h. refl }
  first_lands (Next.End (End.Refused Refusal.Memory)) x t = record { fits = at Rest.Pending x Out refl t; ends = λ h. refl }
  first_lands (Next.End (End.Refused Refusal.Starved)) x t = record { fits = at Rest.Pending x Out refl t; ends = λ h. refl }
  first_lands (Next.End _) x t = absurd t

  later_lands : (n : Next) (x : Place) → Takes n x → Lands v (within Kind.LaterPoll Rest.Pending) n x
  later_lands (Next.Do a q) x t = record { fits = t; ends = λ h. absurd (false≢true (sym h)) }
  later_lands (Next.End End.Got) x t = record { fits = at Rest.Holding x Holding refl t; ends = λ h. refl }
  later_lands (Next.End End.Pending) x t = record { fits = waiting_fits x t; ends = λ h. refl }
  later_lands (Next.End (End.Refused Refusal.Memory)) x t = record { fits = at Rest.Pending x Out refl t; ends = λ h. refl }
  later_lands (Next.End (End.Refused Refusal.Starved)) x t = record { fits = at Rest.Pending x Out refl t; ends = λ h. refl }
  later_lands (Next.End _) x t = absurd t

  try_lands : (n : Next) (x : Place) → Tries n x → Lands v (within Kind.Try Rest.Idle) n x
  try_lands (Next.End End.Got) x t = record { fits = at Rest.Holding x Holding refl t; ends = λ h. refl }
  try_lands (Next.End End.NotFree) x t = record { fits = at Rest.Idle x Out refl t; ends = λ h. refl }
  try_lands (Next.End _) x t = absurd t
  try_lands (Next.Do a q) x t = absurd t

  release_lands : (n : Next) (x : Place) → Releases n x → Lands v (within Kind.Drop Rest.Holding) n x
  release_lands (Next.Do a q) x t = record { fits = t; ends = λ h. absurd (false≢true (sym h)) }
  release_lands (Next.End End.GivenBack) x t = record { fits = at Rest.Idle x Out refl t; ends = λ h. refl }
  release_lands (Next.End _) x t = absurd t

  cancel_lands : (n : Next) (x : Place) → Cancels n x → Lands v (within Kind.Drop Rest.Pending) n x
  cancel_lands (Next.Do a q) x t = record { fits = t; ends = λ h. absurd (false≢true (sym h)) }
  cancel_lands (Next.End End.GivenBack) x t = record { fits = at Rest.Idle x Out refl t; ends = λ h. refl }
  cancel_lands (Next.End _) x t = absurd t

  released : (n : Next) (x : Place) → (n ≡ Next.End End.GivenBack) × (x ≡ Out) → Lands v (within Kind.Drop Rest.Holding) n x
  released n x t = rw (t.0, t.1) (record { fits = refl; ends = λ h. refl })

  goes_by : (k : Kind) (r : Rest) (x : Place) (n : Next) (y : Place) → is_within k r x ≡ true → GoesOn x n y → Lands v (within k r) n y
  goes_by Kind.FirstPoll Rest.Idle x n y h g = first_lands n y (g.takes h)
  goes_by Kind.LaterPoll Rest.Pending x n y h g = later_lands n y (g.takes h)
  goes_by Kind.Drop Rest.Holding x n y h g = released n y (g.releases h)
  goes_by Kind.Drop Rest.Pending x n y h g = cancel_lands n y (g.cancels h)
  goes_by _ _ x n y h g = absurd (false≢true h)

  pub lands : (s : Stage) (what : What) (w : Within) (x : Place) → goes_with s x ≡ true → call_at knows s what ≡ Some w → polls_again s what ≡ false → put_in what ≡ None
      → Turn (λ s what w x from. (f : Found) → Lands v w (next_of from f) (place_after from (next_of from f))) s what w x
  lands = turn (λ s what w x from. (f : Found) → Lands v w (next_of from f) (place_after from (next_of from f))) (record {
    lock = λ i f. first_lands _ _ (begins LockCall.Lock Out Enter f refl);
    try = λ i f. try_lands _ _ (begins LockCall.Try Out Try f refl);
    poll = λ i f. later_lands _ _ (begins LockCall.Poll Out Enter f refl);
    poll_listed = λ i f. later_lands _ _ (begins LockCall.Poll Ask Ask f refl);
    poll_starved = λ i f. later_lands _ _ (begins LockCall.Poll AskStarved AskStarved f refl);
    abandon = λ i f. cancel_lands _ _ (begins LockCall.Cancel Out Out f refl);
    cancel = λ i f. cancel_lands _ _ (begins LockCall.Cancel Ask CancelLeave f refl);
    cancel_starved = λ i f. cancel_lands _ _ (begins LockCall.Cancel AskStarved CancelUncount f refl);
    release = λ i f. release_lands _ _ (begins LockCall.Release Holding Clear f refl);
    go = λ w x i h f. goes_by w.kind w.was x _ _ h (goes x f);
  })

-- ---- a put

-- only a party that holds the lock puts
pub record Puts (s : Stage) (what : What) (w : Within) (v : ℕ) : Type 0 where
  pub stage : s ≡ Outside Rest.Holding
  pub is : w ≡ within Kind.Put Rest.Holding
  pub inputs : Inputs
  pub move : what ≡ Begin (Call.Put v) inputs

pub puts : (s : Stage) (what : What) (w : Within) (v : ℕ) → call_at knows s what ≡ Some w → put_in what ≡ Some v → Puts s what w v
puts (Outside Rest.Holding) (Begin (Call.Put n) i) w v e u = record { stage = refl; is = sym (some_eq e); inputs = i; move = ap (λ k. Begin (Call.Put k) i) (some_eq u) }
puts (Outside Rest.Idle) (Begin (Call.Put n) i) w v e u = absurd (none_some e)
puts (Outside Rest.Pending) (Begin (Call.Put n) i) w v e u = absurd (none_some e)
puts (Outside Rest.Finished) (Begin (Call.Put n) i) w v e u = absurd (none_some e)
puts (Inside x) (Begin (Call.Put n) i) w v e u = absurd (none_some e)
puts Forgotten (Begin (Call.Put n) i) w v e u = absurd (none_some e)
puts s _ w v e u = absurd (none_some u)
