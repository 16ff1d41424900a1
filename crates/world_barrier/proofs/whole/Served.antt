-- What comes of a poll that has the inner lock and is carried out alone, action by action.
use Rattle.world_barrier.proofs.Prelude.{◌≡◌, ◌≢◌, ℕ, ◌+◌, ◌<◌, ◌≤◌, ◌⊎◌, inl, inr, true, false, length, Some, None, refl, sym, ap, ◌∙◌, subst, arith, if◌then◌else◌, marked_count, is_marked_at, without, is_party, Answer, Inputs, Refusal, refused, Effect, nothing, changes, does, joined_unmarked, LockStep, End, is_holding, is_releasing, holds, Mutex, course_at, IsMutex, holder_of, holding_holds, releasing_free, releasing_decided, holds_it, Action, Aim, Ending, Found, Next, Place, Look, Join, Arrive, Complete, NotifyAll, Check, JoinAgain, ReleaseLock, ReleasingLock, Ask, Position, Out, Made, Waiting, At, Progress, Words, progress, with_progress, action_of, next_of, position_after, released, Finds, words_after, arrival_after, entries_after, LockBegins, LockGoesOn, OnLock, Sure, fits_lock, in_lock, listed, Barrier, IsBarrier, position_at, arrival_at, answer_by, is_own_marked}
use Rattle.world_base.specs.declared.moves.Got.TheVariants.{Leader}
use Rattle.lock_program.specs.declared.mutex.LockCall.{LockCall}
use Rattle.world_mutex.specs.machine.Effects.{Change, takes, releases, starves, recovers, ListName, holder_after, gives_back}
use Rattle.world_mutex.proofs.of_machine.callers.Holders.{is_held_by}
use Rattle.world_mutex.proofs.of_machine.callers.Released.{released_marks}
use Rattle.lock_program.specs.declared.end.Next.TheVariants as next

-- ---- one action of a party

-- what it found and did, party by party
pub record Step (i : Inputs) (p : ℕ) (from : Place) (f : Found) (x y : Barrier) : Type 0 where
  pub finds : Finds i p (action_of from) f x.words (arrival_at x.arrivals p) x.entries
  pub words : y.words ≡ words_after (action_of from) x.words
  pub arrival : arrival_at y.arrivals p ≡ arrival_after (action_of from) x.words (arrival_at x.arrivals p)
  pub entries : y.entries ≡ entries_after p (action_of from) f x.entries
  pub lock : OnLock i p (action_of from) f x.lock y.lock
  pub to : position_at y.positions p ≡ position_after (next_of from f)

-- what a step leaves that decides this: something while the call goes on, by where the party stands, and something where it ends
abbrev pub Then : (Position → Barrier → Type 0) → (Answer → Position → Barrier → Type 0) → Next → Barrier → Type 0
Then Going AtEnd (next.Do place) y = Going (At place) y
Then Going AtEnd n y = AtEnd (answer_by n) (position_after n) y

-- ---- the inner lock is given back

holder_or_none : (p : ℕ) (d : Effect Change ListName) → (holder_after p d (Some p) ≡ None) ⊎ (holder_after p d (Some p) ≡ Some p)
holder_or_none p (changes takes) = inr refl
holder_or_none p (changes releases) = inl refl
holder_or_none p (changes starves) = inr refl
holder_or_none p (changes recovers) = inr refl
holder_or_none p (does list f) = inr refl
holder_or_none p nothing = inr refl

still_none : (p : ℕ) (d : Effect Change ListName) → gives_back d ≡ true → holder_after p d None ≡ None
still_none p (changes takes) h = absurd (cc h)
still_none p (changes releases) h = refl
still_none p (changes starves) h = refl
still_none p (changes recovers) h = refl
still_none p (does list f) h = refl
still_none p nothing h = refl

-- with the first action of its release
begins_free : (i : Inputs) (p : ℕ) (s : LockStep) (m n : Mutex) → IsMutex m → is_holding (course_at m.courses p) ≡ true → LockBegins i p LockCall.Release s m n → s ≡ LockStep.More → holder_of n ≡ None
begins_free i p s m n mutex holds_there o goes = by_effect (holder_or_none p o.legal.effect) where
  held : holder_of n ≡ holder_after p o.legal.effect (Some p)
  held = o.legal.holder ∙ ap (holder_after p o.legal.effect) (holds_it m.courses p mutex.one_holder (holding_holds (course_at m.courses p) holds_there))

  releasing : is_releasing (course_at n.courses p) ≡ true
  releasing = rw goes at o.leads

  by_effect : (holder_after p o.legal.effect (Some p) ≡ None) ⊎ (holder_after p o.legal.effect (Some p) ≡ Some p) → holder_of n ≡ None
  by_effect (inl e) = held ∙ e
  by_effect (inr e) = let one : holds (course_at n.courses p) ≡ 1 = is_held_by n.courses p (held ∙ e) in absurd (omega (arith, one, releasing_free (course_at n.courses p) releasing))

goes_free : (i : Inputs) (p : ℕ) (s : LockStep) (m n : Mutex) → is_releasing (course_at m.courses p) ≡ true → LockGoesOn i p s m n → holder_of m ≡ None → holder_of n ≡ None
goes_free i p s m n releasing o free =
    let given : gives_back o.legal.effect ≡ true = (o.legal.kept End.GivenBack (releasing_decided (course_at m.courses p) releasing)).1 in
    o.legal.holder ∙ (ap (holder_after p o.legal.effect) free ∙ still_none p o.legal.effect given)

-- ---- what comes of the poll

-- how it is answered, and where it leaves its party
abbrev pub end_answer : Ending → Answer
end_answer Ending.Wait = Answer.Pending
end_answer Ending.Follow = Answer.Ready (Leader false)
end_answer Ending.Lead = Answer.Ready (Leader true)
end_answer Ending.RefuseGenerations = refused Refusal.Generations
end_answer (Ending.RefuseMemory a) = refused Refusal.Memory

abbrev pub end_place : Ending → Position
end_place Ending.Wait = Waiting
end_place Ending.Follow = Out
end_place Ending.Lead = Out
end_place Ending.RefuseGenerations = Made Aim.Arrive
end_place (Ending.RefuseMemory a) = Made a

-- by what its wait was at this barrier, when it got the inner lock
module _ (p : ℕ) (b : Aim) (s : Barrier) where
  abbrev own : Progress
  own = arrival_at s.arrivals p

  -- how far the barrier is, and the party's arrival
  abbrev pub AreNow : Words → Progress → Barrier → Type 0
  AreNow w r x = (x.words ≡ w) × (arrival_at x.arrivals p ≡ r)

  abbrev pub Same : Barrier → Type 0
  Same x = AreNow s.words own x

  abbrev pub Counted : Progress → Barrier → Type 0
  Counted r x = AreNow (with_progress s.words r) r x

  abbrev pub IsUnmarked : Barrier → Type 0
  IsUnmarked x = is_own_marked x p ≡ false

  abbrev pub IsFree : Barrier → Type 0
  IsFree x = holder_of x.lock ≡ None

  abbrev pub IsWoken : Barrier → Type 0
  IsWoken x = 0 < length x.lock.entries → 0 < marked_count x.lock.entries

  -- it is counted, and more have to come
  pub record Follows (x : Barrier) : Type 0 where
    pub arrives : b ≡ Aim.Arrive
    pub more : s.words.progress.count + 1 < s.words.size
    pub counted : Counted (progress s.words.progress.generation (s.words.progress.count + 1)) x

  -- it is counted, and leads
  pub record Leads (x : Barrier) : Type 0 where
    pub arrives : b ≡ Aim.Arrive
    pub last : s.words.size ≤ s.words.progress.count + 1
    pub below : s.words.progress.generation < s.words.most
    pub counted : Counted (progress (s.words.progress.generation + 1) 0) x

  -- it isn't counted: it would lead past the limit
  pub record IsPastLimit (x : Barrier) : Type 0 where
    pub arrives : b ≡ Aim.Arrive
    pub last : s.words.size ≤ s.words.progress.count + 1
    pub limit : s.words.most ≤ s.words.progress.generation
    pub same : Same x

  -- it was counted, and its generation isn't finished, or is
  pub record WaitsOn (x : Barrier) : Type 0 where
    pub checks : b ≡ Aim.Check
    pub unfinished : own.generation ≡ s.words.progress.generation
    pub same : Same x

  pub record IsOver (x : Barrier) : Type 0 where
    pub checks : b ≡ Aim.Check
    pub finished : own.generation ≢ s.words.progress.generation
    pub same : Same x

  abbrev pub ComesTo : Ending → Barrier → Type 0
  ComesTo Ending.Wait x = (Follows x ⊎ WaitsOn x) × IsUnmarked x
  ComesTo Ending.Follow x = IsOver x
  ComesTo Ending.Lead x = Leads x
  ComesTo Ending.RefuseGenerations x = IsPastLimit x
  ComesTo (Ending.RefuseMemory a) x = ⊥

  -- it has to wait, by what it took the inner lock for: more have to come, or its generation isn't finished
  abbrev pub MustWait : Aim → Type 0
  MustWait Aim.Arrive = s.words.progress.count + 1 < s.words.size
  MustWait Aim.Check = own.generation ≡ s.words.progress.generation

  -- the poll finds memory if it has to wait
  abbrev pub IsSupplied : Inputs → Type 0
  IsSupplied i = MustWait b → i.memory ≡ true

  -- the call is over
  pub record Came (a : Answer) (at : Position) (x : Barrier) : Type 0 where
    pub to : Ending
    pub answer : a ≡ end_answer to
    pub place : at ≡ end_place to
    pub comes : ComesTo to x
    pub free : IsFree x
    pub woken : IsWoken x

  -- so far, by where the party stands
  abbrev pub Serves : Position → Barrier → Type 0
  Serves (At Look) x = (b ≡ Aim.Arrive) × Same x
  Serves (At Join) x = (b ≡ Aim.Arrive) × Same x
  Serves (At Arrive) x = (b ≡ Aim.Arrive) × Same x × IsUnmarked x
  Serves (At Complete) x = (b ≡ Aim.Arrive) × Same x
  Serves (At NotifyAll) x = Leads x
  Serves (At Check) x = (b ≡ Aim.Check) × Same x
  Serves (At JoinAgain) x = (b ≡ Aim.Check) × Same x
  Serves (At (ReleaseLock e)) x = ComesTo e x
  Serves (At (ReleasingLock e)) x = ComesTo e x × IsFree x
  Serves (At Ask) x = ComesTo Ending.Wait x × IsFree x × IsWoken x
  Serves _ x = ⊥

  abbrev pub ServesThen : Next → Barrier → Type 0
  ServesThen = Then Serves Came

  -- what an action leaves that changes none of that
  follows_kept : (x y : Barrier) → y.words ≡ x.words → arrival_at y.arrivals p ≡ arrival_at x.arrivals p → Follows x → Follows y
  follows_kept x y words arrival k = record { arrives = k.arrives; more = k.more; counted = (words ∙ k.counted.0, arrival ∙ k.counted.1) }

  waits_kept : (x y : Barrier) → y.words ≡ x.words → arrival_at y.arrivals p ≡ arrival_at x.arrivals p → Follows x ⊎ WaitsOn x → Follows y ⊎ WaitsOn y
  waits_kept x y words arrival (inl k) = inl (follows_kept x y words arrival k)
  waits_kept x y words arrival (inr k) = inr (record { checks = k.checks; unfinished = k.unfinished; same = (words ∙ k.same.0, arrival ∙ k.same.1) })

  leads_kept : (x y : Barrier) → y.words ≡ x.words → arrival_at y.arrivals p ≡ arrival_at x.arrivals p → Leads x → Leads y
  leads_kept x y words arrival k = record { arrives = k.arrives; last = k.last; below = k.below; counted = (words ∙ k.counted.0, arrival ∙ k.counted.1) }

  comes_kept : (e : Ending) (x y : Barrier) → y.words ≡ x.words → arrival_at y.arrivals p ≡ arrival_at x.arrivals p → y.entries ≡ x.entries → ComesTo e x → ComesTo e y
  comes_kept Ending.Wait x y words arrival entries k = (waits_kept x y words arrival k.0, ap (is_marked_at (is_party p)) entries ∙ k.1)
  comes_kept Ending.Follow x y words arrival entries k = record { checks = k.checks; finished = k.finished; same = (words ∙ k.same.0, arrival ∙ k.same.1) }
  comes_kept Ending.Lead x y words arrival entries k = leads_kept x y words arrival k
  comes_kept Ending.RefuseGenerations x y words arrival entries k = record { arrives = k.arrives; last = k.last; limit = k.limit; same = (words ∙ k.same.0, arrival ∙ k.same.1) }
  comes_kept (Ending.RefuseMemory a) x y words arrival entries k = k

  -- ---- action by action

  module _ (i : Inputs) (memory : IsSupplied i) (x y : Barrier) (laws : IsBarrier x) where
    lock_at : (from : Place) → position_at x.positions p ≡ At from → fits_lock (in_lock (At from)) (course_at x.lock.courses p) ≡ true
    lock_at from here = let P : Position → Type 0 = λ z. fits_lock (in_lock z) (course_at x.lock.courses p) ≡ true in subst P here (laws.links p)

    sure_at : (from : Place) → position_at x.positions p ≡ At from → Sure (At from) (arrival_at x.arrivals p) x.words
    sure_at from here = let P : Position → Type 0 = λ z. Sure z (arrival_at x.arrivals p) x.words in subst P here (laws.sure p)

    joined : (from : Place) → position_at x.positions p ≡ At from → listed (At from) ≡ 0 → y.entries ≡ entries_after p (action_of Join) Found.Done x.entries → IsUnmarked y
    joined from here none entries = ap (is_marked_at (is_party p)) entries ∙ joined_unmarked p x.entries (laws.owners p ∙ (ap listed here ∙ none))

    lets_go : (e : Ending) (n : LockStep) → position_at x.positions p ≡ At (ReleaseLock e) → ComesTo e x → Step i p (ReleaseLock e) (Found.Lock n) x y → ServesThen (next_of (ReleaseLock e) (Found.Lock n)) y
    lets_go e LockStep.More here so k = (comes_kept e x y k.words k.arrival k.entries so, begins_free i p LockStep.More x.lock y.lock laws.lock (lock_at (ReleaseLock e) here) k.lock refl)
    lets_go e (LockStep.End z) here so k = let never : LockStep.End z ≡ LockStep.More = k.lock.releases refl in absurd (cc never)

    served : (e : Ending) → ComesTo e y → IsFree y → IsWoken y → ServesThen (released e) y
    served Ending.Wait so free woken = (so, free, woken)
    served Ending.Follow so free woken = record { to = Ending.Follow; answer = refl; place = refl; comes = so; free = free; woken = woken }
    served Ending.Lead so free woken = record { to = Ending.Lead; answer = refl; place = refl; comes = so; free = free; woken = woken }
    served Ending.RefuseGenerations so free woken = record { to = Ending.RefuseGenerations; answer = refl; place = refl; comes = so; free = free; woken = woken }
    served (Ending.RefuseMemory a) so free woken = absurd so

    released_now : (e : Ending) (n : LockStep) → position_at x.positions p ≡ At (ReleasingLock e) → ComesTo e x × IsFree x → Step i p (ReleasingLock e) (Found.Lock n) x y → ServesThen (next_of (ReleasingLock e) (Found.Lock n)) y
    released_now e LockStep.More here so k = let never = (k.lock.leads.releases (lock_at (ReleasingLock e) here)).0 in absurd (cc never)
    released_now e (LockStep.End z) here so k =
        let releasing : is_releasing (course_at x.lock.courses p) ≡ true = lock_at (ReleasingLock e) here in
        served e (comes_kept e x y k.words k.arrival k.entries so.0) (goes_free i p (LockStep.End z) x.lock y.lock releasing k.lock so.1) (released_marks i.memory p _ (LockStep.End z) x.lock y.lock releasing k.lock.legal)

    pub serves : (from : Place) (f : Found) → position_at x.positions p ≡ At from → Serves (At from) x → Step i p from f x y → ServesThen (next_of from f) y
    serves Look Found.MustWait here so k = (so.0, (k.words ∙ so.1.0, k.arrival ∙ so.1.1))
    serves Look Found.Leads here so k = (so.0, (k.words ∙ so.1.0, k.arrival ∙ so.1.1))
    serves Look Found.Past here so k = record { arrives = so.0; last = rw so.1.0 at k.finds.0; limit = rw so.1.0 at k.finds.1; same = (k.words ∙ so.1.0, k.arrival ∙ so.1.1) }
    serves Look _ here so k = absurd k.finds
    serves Join Found.Done here so k = (so.0, (k.words ∙ so.1.0, k.arrival ∙ so.1.1), joined Join here refl k.entries)
    serves Join Found.NoMemory here so k = let never : true ≡ false = sym (memory (subst MustWait (sym so.0) (rw so.1.0 at (sure_at Join here)))) ∙ k.finds in absurd (cc never)
    serves Join _ here so k = absurd k.finds
    serves Arrive f here so k =
        let counted : AreNow (with_progress s.words (progress s.words.progress.generation (s.words.progress.count + 1))) (progress s.words.progress.generation (s.words.progress.count + 1)) y =
        (k.words ∙ ap (words_after Action.Arrive) so.1.0, k.arrival ∙ ap (λ w. (words_after Action.Arrive w).progress) so.1.0) in
        (inl (record { arrives = so.0; more = rw so.1.0 at (sure_at Arrive here); counted = counted }), ap (is_marked_at (is_party p)) k.entries ∙ so.2)
    serves Complete f here so k =
        let sure = sure_at Complete here in
        record { arrives = so.0; last = rw so.1.0 at sure.0; below = rw so.1.0 at sure.1; counted = (k.words ∙ ap (words_after Action.Complete) so.1.0, k.arrival ∙ ap (λ w. (words_after Action.Complete w).progress) so.1.0) }
    serves NotifyAll f here so k = leads_kept x y k.words k.arrival so
    serves Check Found.Finished here so k = record { checks = so.0; finished = (rw (so.1.0, so.1.1) at k.finds); same = (k.words ∙ so.1.0, k.arrival ∙ so.1.1) }
    serves Check Found.Unfinished here so k = (so.0, (k.words ∙ so.1.0, k.arrival ∙ so.1.1))
    serves Check _ here so k = absurd k.finds
    serves JoinAgain Found.Done here so k =
        let sure : (arrival_at x.arrivals p).generation ≡ x.words.progress.generation = sure_at JoinAgain here in
        (inr (record { checks = so.0; unfinished = rw (so.1.0, so.1.1) at sure; same = (k.words ∙ so.1.0, k.arrival ∙ so.1.1) }), joined JoinAgain here refl k.entries)
    serves JoinAgain Found.NoMemory here so k =
        let sure : (arrival_at x.arrivals p).generation ≡ x.words.progress.generation = sure_at JoinAgain here in
        let never : true ≡ false = sym (memory (subst MustWait (sym so.0) (rw (so.1.0, so.1.1) at sure))) ∙ k.finds in absurd (cc never)
    serves JoinAgain _ here so k = absurd k.finds
    serves (ReleaseLock e) (Found.Lock n) here so k = lets_go e n here so k
    serves (ReleaseLock e) _ here so k = absurd k.lock
    serves (ReleasingLock e) (Found.Lock n) here so k = released_now e n here so k
    serves (ReleasingLock e) _ here so k = absurd k.lock
    serves Ask Found.Yes here so k = let never : true ≡ false = sym k.finds ∙ so.0.1 in absurd (cc never)
    serves Ask Found.No here so k =
        let same : y.entries ≡ x.entries = k.entries ∙ ap (λ b. if b then without (is_party p) x.entries else x.entries) k.finds in
        let lock : y.lock ≡ x.lock = k.lock in
        record {
          to = Ending.Wait;
          answer = refl;
          place = refl;
          comes = comes_kept Ending.Wait x y k.words k.arrival same so.0;
          free = ap holder_of lock ∙ so.1;
          woken = subst (λ (m : Mutex). 0 < length m.entries → 0 < marked_count m.entries) (sym lock) so.2;
        }
    serves Ask _ here so k = absurd k.finds
    serves _ f here so k = absurd so
