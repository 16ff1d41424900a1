-- How a poll that is carried out alone gets the inner lock, or gives way.
use Rattle.world_barrier.proofs.Prelude.{ap, ◌≡◌, ℕ, ◌⊎◌, inl, inr, Bool, true, false, refl, sym, ◌∙◌, subst, is_marked_at, is_party, Answer, Inputs, LockStep, End as LockEnd, HasBegun, HasGoneOn, GoesOnAlone, last, further, PollsAlone, at_once, begun, GaveWay, StandsBack, Took, Mutex, holders, starved, Aim, Found, Next, Place, EnterLock, WaitLock, TakeLock, Ask, Position, At, with_lock, after_lock, next_of, position_after, Barrier, answer_by}
use Rattle.lock_program.specs.declared.refusal.Refusal.TheVariants.{Starved}
use Rattle.lock_program.specs.declared.mutex.LockCall.{LockCall}
use Rattle.lock_program.specs.declared.end.Next.TheVariants as next
use Rattle.world_barrier.proofs.whole.Served.{Step, Same, Then, Came, Serves, ServesThen}

module _ (p : ℕ) (b : Aim) (s : Barrier) where
  -- whoever has the lock goes on with it
  gets : (a : Aim) (y : Barrier) → a ≡ b → Same p b s y → Serves p b s (At (with_lock a)) y
  gets Aim.Arrive y e same = (sym e, same)
  gets Aim.Check y e same = (sym e, same)

  -- ---- a first poll of a free lock gets it at once

  pub gets_at_once : (i : Inputs) (f : Found) (x y : Barrier) → holders x.lock ≡ 0 → starved x.lock ≡ 0 → Same p b s x → Step i p (EnterLock b) f x y → ServesThen p b s (next_of (EnterLock b) f) y
  gets_at_once i (Found.Lock n) x y free unstarved same k =
      let got : n ≡ LockStep.End LockEnd.Got = k.lock.at_once.ends refl free unstarved in
      let P : LockStep → Type 0 = λ z. ServesThen p b s (after_lock b (Found.Lock z)) y in
      subst P (sym got) (gets b y refl (k.words ∙ same.0, k.arrival ∙ same.1))
  gets_at_once i _ x y free unstarved same k = absurd k.lock

  -- so it does where it is about to begin
  pub record IsFresh (x : Barrier) : Type 0 where
    pub same : Same p b s x
    pub free : holders x.lock ≡ 0
    pub unstarved : starved x.lock ≡ 0

  abbrev pub Enters : Position → Barrier → Type 0
  Enters (At (EnterLock a)) x = (a ≡ b) × IsFresh x
  Enters z x = Serves p b s z x

  abbrev pub EntersThen : Next → Barrier → Type 0
  EntersThen = Then Enters (Came p b s)

  enters_served : (z : Place) (y : Barrier) → Serves p b s (At z) y → Enters (At z) y
  enters_served (EnterLock a) y h = absurd h
  enters_served _ y h = h

  pub then_entered : (n : Next) (y : Barrier) → ServesThen p b s n y → EntersThen n y
  then_entered (next.Do z) y h = enters_served z y h
  then_entered (next.End e x) y h = h

  -- a party that was notified enters
  pub asks : (i : Inputs) (f : Found) (y : Barrier) → is_marked_at (is_party p) s.entries ≡ true → holders s.lock ≡ 0 → starved s.lock ≡ 0 → b ≡ Aim.Check → Step i p Ask f s y → EntersThen (next_of Ask f) y
  asks i Found.Yes y marked free unstarved checks k = (sym checks, record { same = (k.words, k.arrival); free = ap holders k.lock ∙ free; unstarved = ap starved k.lock ∙ unstarved })
  asks i Found.No y marked free unstarved checks k = let never : true ≡ false = sym marked ∙ k.finds in absurd (cc never)
  asks i _ y marked free unstarved checks k = absurd k.finds

  -- ---- a poll of a party that waits there

  -- it is on its way, and whatever comes of it there is what comes of a poll that is carried out alone
  pub record IsTaking (memory : Bool) (x : Barrier) : Type 0 where
    pub same : Same p b s x
    pub entries : x.entries ≡ s.entries
    pub polled : (e : LockEnd) (new : Mutex) → GoesOnAlone memory p e new x.lock → PollsAlone memory p e new s.lock

  -- it gave way, and the call is over
  pub record GaveUp (memory : Bool) (a : Answer) (at : Position) (y : Barrier) : Type 0 where
    pub to : LockEnd
    pub polls : PollsAlone memory p to y.lock s.lock
    pub gave : GaveWay p s.lock to y.lock
    pub answer : a ≡ answer_by (after_lock b (Found.Lock (LockStep.End to)))
    pub place : at ≡ position_after (after_lock b (Found.Lock (LockStep.End to)))
    pub same : Same p b s y
    pub entries : y.entries ≡ s.entries

  -- what is so where such a poll has taken the lock
  module _ (May : Type 0) where
    abbrev pub Goes : Bool → Position → Barrier → Type 0
    Goes memory (At (TakeLock a)) x = (a ≡ b) × IsTaking memory x
    Goes memory z x = Serves p b s z x × May

    abbrev pub Ends : Bool → Answer → Position → Barrier → Type 0
    Ends memory a at y = (Came p b s a at y × May) ⊎ GaveUp memory a at y

    abbrev pub SoloThen : Bool → Next → Barrier → Type 0
    SoloThen memory = Then (Goes memory) (Ends memory)

    goes_served : (memory : Bool) (z : Place) (y : Barrier) → Serves p b s (At z) y → May → Goes memory (At z) y
    goes_served memory (TakeLock a) y h may = absurd h
    goes_served memory _ y h may = (h, may)

    pub then_served : (memory : Bool) (n : Next) (y : Barrier) → ServesThen p b s n y → May → SoloThen memory n y
    then_served memory (next.Do z) y h may = goes_served memory z y h may
    then_served memory (next.End e x) y h may = inl (h, may)

    gets_there : (memory : Bool) (a : Aim) (y : Barrier) → a ≡ b → Same p b s y → May → SoloThen memory (next.Do (with_lock a)) y
    gets_there memory Aim.Arrive y e same may = ((sym e, same), may)
    gets_there memory Aim.Check y e same may = ((sym e, same), may)

    -- whoever polls there takes the lock, where it may, or gives way, with this memory
    abbrev pub Settles : Bool → Type 0
    Settles memory = (e : LockEnd) (new : Mutex) → PollsAlone memory p e new s.lock → (Took p e new × May) ⊎ GaveWay p s.lock e new

  module _ (May : Type 0) (i : Inputs) (settles : Settles May i.memory) (y : Barrier) where
    abbrev Leads : Next → Barrier → Type 0
    Leads = SoloThen May i.memory

    gives_up : (e : LockEnd) → PollsAlone i.memory p e y.lock s.lock → Same p b s y → y.entries ≡ s.entries → GaveWay p s.lock e y.lock → StandsBack p s.lock e y.lock → Leads (after_lock b (Found.Lock (LockStep.End e))) y
    gives_up LockEnd.Pending polls same entries g back = inr (record { to = LockEnd.Pending; polls = polls; gave = g; answer = refl; place = refl; same = same; entries = entries })
    gives_up (LockEnd.Refused Starved) polls same entries g back = inr (record { to = LockEnd.Refused Starved; polls = polls; gave = g; answer = refl; place = refl; same = same; entries = entries })
    gives_up _ polls same entries g back = absurd back

    by_end : (e : LockEnd) → PollsAlone i.memory p e y.lock s.lock → Same p b s y → y.entries ≡ s.entries → (Took p e y.lock × May) ⊎ GaveWay p s.lock e y.lock → Leads (after_lock b (Found.Lock (LockStep.End e))) y
    by_end e polls same entries (inl took) = let P : LockEnd → Type 0 = λ z. Leads (after_lock b (Found.Lock (LockStep.End z))) y in subst P (sym took.0.0) (gets_there May i.memory b y refl same took.1)
    by_end e polls same entries (inr g) = gives_up e polls same entries g g.stands_back

    ends : (e : LockEnd) → PollsAlone i.memory p e y.lock s.lock → Same p b s y → y.entries ≡ s.entries → Leads (after_lock b (Found.Lock (LockStep.End e))) y
    ends e polls same entries = by_end e polls same entries (settles e y.lock polls)

    begins_so : (n : LockStep) → HasBegun i.memory p LockCall.Poll n s.lock y.lock → Same p b s y → y.entries ≡ s.entries → Leads (after_lock b (Found.Lock n)) y
    begins_so LockStep.More did same entries = (refl, record { same = same; entries = entries; polled = λ e new g. begun s.lock y.lock did g })
    begins_so (LockStep.End e) did same entries = ends e (at_once s.lock did) same entries

    pub begins : (f : Found) → Step i p (WaitLock b) f s y → Leads (next_of (WaitLock b) f) y
    begins (Found.Lock n) k = begins_so n k.lock.done (k.words, k.arrival) k.entries
    begins _ k = absurd k.lock

    goes_so : (n : LockStep) (x : Barrier) → IsTaking i.memory x → HasGoneOn i.memory p n x.lock y.lock → Same p b s y → y.entries ≡ s.entries → Leads (after_lock b (Found.Lock n)) y
    goes_so LockStep.More x so did same entries = (refl, record { same = same; entries = entries; polled = λ e new g. so.polled e new (further x.lock y.lock did g) })
    goes_so (LockStep.End e) x so did same entries = ends e (so.polled e y.lock (last x.lock did)) same entries

    pub goes_on : (f : Found) (x : Barrier) → IsTaking i.memory x → Step i p (TakeLock b) f x y → Leads (next_of (TakeLock b) f) y
    goes_on (Found.Lock n) x so k = goes_so n x so k.lock.done (k.words ∙ so.same.0, k.arrival ∙ so.same.1) (k.entries ∙ so.entries)
    goes_on _ x so k = absurd k.lock
