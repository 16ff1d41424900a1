-- Where a poll leads that is carried out alone while the lock is free.
use Rattle.world_mutex.proofs.Prelude.{◌≡◌, ◌≢◌, ℕ, ◌+◌, ◌<◌, ◌⊎◌, inl, inr, Bool, true, false, List, length, get_or, refl, ap, arith, subst, sym, ◌∙◌, get_or-set_same, get_or-set_other, length-set, set, sum_by, sum_by-set, Entry, is_marked_at, joined, notified, without, is_party, Starved, Place, Out, Ask, Retry, PassOn, Count, JoinStarved, LookAlone, PassOnListed, AskStarved, Seize, Uncount, RefuseNotifyStarved, Action, Next, End, Got, Pending, Refused, Found, Done, Free, Held, SomeStarved, AtLimit, NoMemory, Yes, No, next_of, place_after, go_to, ends, holds, counted, OnParties, Lock, place_at, Acts, Finds, holders, starved, GoesOnAlone, last, step, Took}

module _ (p : ℕ) (l : Lock) where
  -- since l only this party has moved, and it stands at x
  pub record Reached (x : Place) (m : Lock) : Type 0 where
    pub known : p < length m.places
    pub here : place_at m.places p ≡ x
    pub sums : (f : Place → ℕ) → sum_by f m.places + f (place_at l.places p) ≡ sum_by f l.places + f x
    pub others : (j : ℕ) → j ≢ p → place_at m.places j ≡ place_at l.places j
    pub limit : m.limit ≡ l.limit

  pub at_start : (x : Place) → p < length l.places → place_at l.places p ≡ x → Reached x l
  at_start x known e = record { known = known; here = e; sums = λ f. ap (λ y. sum_by f l.places + f y) e; others = λ j apart. refl; limit = refl }

  -- one action on
  pub reaches : (memory : Bool) (x : Place) (m n : Lock) (next : Next) → Reached x m → Acts memory p x next m n → Reached (place_after x next) n
  reaches memory x m n next r a =
      let to : Place = place_after x next in
      record {
        known = rw (a.places, length-set m.places p to) r.known;
        here = rw a.places (get_or-set_same m.places p to Out r.known);
        sums = λ f.
            let now : sum_by f n.places ≡ sum_by f (set m.places p to) = ap (sum_by f) a.places in
            let was : f (get_or m.places p Out) ≡ f x = ap f r.here in
            omega (arith, r.sums f, sum_by-set f m.places p to Out r.known);
        others = λ j apart. rw a.places (get_or-set_other m.places p j to Out apart ∙ r.others j apart);
        limit = a.limit ∙ r.limit;
      }

  module _ (memory : Bool) (e : End) (new : Lock) where
    -- what is left of a call after an action
    abbrev pub Rest : Next → Lock → Type 0
    Rest (Next.Do a q) m = GoesOnAlone memory p e new m
    Rest (Next.End x) m = (e ≡ x) × (new ≡ m)

    -- the next action of a call from x, and the rest of it
    pub record Unfolded (x : Place) (m : Lock) : Type 0 where
      pub next : Next
      pub mid : Lock
      pub acts : Acts memory p x next m mid
      pub rest : Rest next mid
      pub reached : Reached (place_after x next) mid

    unfolds_here : (m : Lock) → GoesOnAlone memory p e new m → (next : Next) × (mid : Lock) × Acts memory p (place_at m.places p) next m mid × Rest next mid
    unfolds_here m (last old a) = (Next.End e, new, a, (refl, refl))
    unfolds_here m (step old mid a to acts on) = (Next.Do a to, mid, acts, on)

    pub unfolds : (x : Place) (m : Lock) → Reached x m → GoesOnAlone memory p e new m → Unfolded x m
    unfolds x m r g =
        let u = unfolds_here m g in
        let acts : Acts memory p x u.0 m u.1 = rw r.here at u.2 in
        record { next = u.0; mid = u.1; acts = acts; rest = u.3; reached = reaches memory x m u.1 u.0 r acts }

    pub along : (x : Place) (m : Lock) (u : Unfolded x m) (n : Next) → u.next ≡ n → Rest n u.mid × Reached (place_after x n) u.mid
    along x m u n is = (subst (λ k. Rest k u.mid) is u.rest, subst (λ k. Reached (place_after x k) u.mid) is u.reached)

-- what is found where nobody holds the lock
sets : (memory : Bool) (f : Found) (m : Lock) → Finds memory Action.Set f m → holders m ≡ 0 → next_of Seize f ≡ go_to (Uncount false)
sets memory Free m e h = refl
sets memory (Held b) m e h = absurd (omega arith)
sets memory _ m e h = absurd e

retakes : (memory : Bool) (f : Found) (m : Lock) → Finds memory Action.Take f m → holders m ≡ 0 → ((next_of Retry f ≡ ends Got) × (starved m ≡ 0)) ⊎ ((next_of Retry f ≡ go_to PassOn) × (0 < starved m))
retakes memory Free m e h = inl (refl, e.1)
retakes memory (Held b) m e h = absurd (omega arith)
retakes memory SomeStarved m e h = inr (refl, e)
retakes memory _ m e h = absurd e

looks : (memory : Bool) (f : Found) (m : Lock) → Finds memory Action.TakeAlone f m → holders m ≡ 0 → 1 < starved m → next_of LookAlone f ≡ go_to PassOnListed
looks memory Free m e h some = absurd (omega arith)
looks memory (Held b) m e h some = absurd (omega arith)
looks memory SomeStarved m e h some = refl
looks memory _ m e h some = absurd e

counts : (memory : Bool) (f : Found) (m : Lock) → Finds memory Action.Count f m → (next_of (Count false true) f ≡ go_to JoinStarved) ⊎ ((next_of (Count false true) f ≡ go_to RefuseNotifyStarved) × (starved m ≡ m.limit))
counts memory Done m e = inl refl
counts memory AtLimit m e = inr (refl, e)
counts memory _ m e = absurd e

module _ (p : ℕ) (es fs : List (Entry ℕ)) where
  rejoins : (memory : Bool) → memory ≡ true → (f : Found) (m : Lock) → Finds memory Action.Join f m → OnParties p Action.Join f es fs → (next_of JoinStarved f ≡ go_to LookAlone) × (fs ≡ joined es p)
  rejoins memory has Done m e o = (refl, o)
  rejoins memory has NoMemory m e o = absurd (cc (has, e))
  rejoins memory has _ m e o = absurd e

  -- a party that asks, and what it is told
  asks : (memory : Bool) (f : Found) (m : Lock) → Finds memory Action.Ask f m → OnParties p Action.Ask f es fs
      → ((f ≡ Yes) × (is_marked_at (is_party p) es ≡ true) × (fs ≡ without (is_party p) es)) ⊎ ((f ≡ No) × (is_marked_at (is_party p) es ≡ false) × (fs ≡ es))
  asks memory Yes m e o = inl (refl, o.0, o.1)
  asks memory No m e o = inr (refl, o.0, o.1)
  asks memory _ m e o = absurd e

module _ (memory : Bool) (p : ℕ) (l : Lock) (open_lock : holders l ≡ 0) (outside : holds (place_at l.places p) ≡ 0) (e : End) (new : Lock) where
  free_at : (x : Place) (m : Lock) → holds x ≡ 0 → Reached p l x m → holders m ≡ 0
  free_at x m none r = omega (arith, r.sums holds)

  -- back as a starved party
  abbrev pub Waits : List (Entry ℕ) → Type 0
  Waits es = (e ≡ Pending) × (new.entries ≡ es) × Reached p l AskStarved new

  uncounts : (m : Lock) → Reached p l (Uncount false) m → GoesOnAlone memory p e new m → Took p e new
  uncounts m r g =
      let u = unfolds p l memory e new (Uncount false) m r g in
      let on = along p l memory e new (Uncount false) m u (ends Got) u.acts.next_is in
      (on.0.0, rw on.0.1 on.1.here)

  seizes : (m : Lock) → Reached p l Seize m → GoesOnAlone memory p e new m → Took p e new
  seizes m r g =
      let u = unfolds p l memory e new Seize m r g in
      let on = along p l memory e new Seize m u (go_to (Uncount false)) (u.acts.next_is ∙ sets memory u.acts.found m u.acts.finds (free_at Seize m refl r)) in
      uncounts u.mid on.1 on.0

  asks_so : (m : Lock) (u : Unfolded p l memory e new AskStarved m)
      → ((u.acts.found ≡ Yes) × (is_marked_at (is_party p) m.entries ≡ true) × (u.mid.entries ≡ without (is_party p) m.entries)) ⊎ ((u.acts.found ≡ No) × (is_marked_at (is_party p) m.entries ≡ false) × (u.mid.entries ≡ m.entries))
      → (Took p e new × (is_marked_at (is_party p) m.entries ≡ true)) ⊎ ((is_marked_at (is_party p) m.entries ≡ false) × Waits m.entries)
  asks_so m u (inl told) =
      let on = along p l memory e new AskStarved m u (go_to Seize) (u.acts.next_is ∙ ap (next_of AskStarved) told.0) in
      inl (seizes u.mid on.1 on.0, told.1)
  asks_so m u (inr not_told) =
      let on = along p l memory e new AskStarved m u (ends Pending) (u.acts.next_is ∙ ap (next_of AskStarved) not_told.0) in
      inr (not_told.1, (on.0.0, rw on.0.1 not_told.2, rw on.0.1 on.1))

  -- a starved party asks
  pub asks_starved : (m : Lock) → Reached p l AskStarved m → GoesOnAlone memory p e new m → (Took p e new × (is_marked_at (is_party p) m.entries ≡ true)) ⊎ ((is_marked_at (is_party p) m.entries ≡ false) × Waits m.entries)
  asks_starved m r g =
      let u = unfolds p l memory e new AskStarved m r g in
      asks_so m u (asks p m.entries u.mid.entries memory u.acts.found m u.acts.finds u.acts.list)

  -- it took the lock, notified in this list, or it is back
  abbrev pub Asked : List (Entry ℕ) → Type 0
  Asked es = (Took p e new × (is_marked_at (is_party p) es ≡ true)) ⊎ Waits es

  waits_so : (m mid : Lock) → mid.entries ≡ notified m.entries 1 → (Took p e new × (is_marked_at (is_party p) mid.entries ≡ true)) ⊎ ((is_marked_at (is_party p) mid.entries ≡ false) × Waits mid.entries) → Asked (notified m.entries 1)
  waits_so m mid told (inl took) = inl (took.0, sym (ap (is_marked_at (is_party p)) told) ∙ took.1)
  waits_so m mid told (inr waits) = inr (waits.1.0, waits.1.1 ∙ told, waits.1.2)

  passes_on_listed : (m : Lock) → Reached p l PassOnListed m → GoesOnAlone memory p e new m → Asked (notified m.entries 1)
  passes_on_listed m r g =
      let u = unfolds p l memory e new PassOnListed m r g in
      let on = along p l memory e new PassOnListed m u (go_to AskStarved) u.acts.next_is in
      waits_so m u.mid u.acts.list (asks_starved u.mid on.1 on.0)

  module _ (has : memory ≡ true) (unstarved : counted (place_at l.places p) ≡ 0) where
    looks_alone : (m : Lock) → 0 < starved l → Reached p l LookAlone m → GoesOnAlone memory p e new m → Asked (notified m.entries 1)
    looks_alone m some r g =
        let u = unfolds p l memory e new LookAlone m r g in
        let more : 1 < starved m = omega (arith, r.sums counted) in
        let on = along p l memory e new LookAlone m u (go_to PassOnListed) (u.acts.next_is ∙ looks memory u.acts.found m u.acts.finds (free_at LookAlone m refl r) more) in
        let same : u.mid.entries ≡ m.entries = u.acts.list in
        rw (← same) (passes_on_listed u.mid on.1 on.0)

    joins_starved : (m : Lock) → 0 < starved l → Reached p l JoinStarved m → GoesOnAlone memory p e new m → Asked (notified (joined m.entries p) 1)
    joins_starved m some r g =
        let u = unfolds p l memory e new JoinStarved m r g in
        let did = rejoins p m.entries u.mid.entries memory has u.acts.found m u.acts.finds u.acts.list in
        let on = along p l memory e new JoinStarved m u (go_to LookAlone) (u.acts.next_is ∙ did.0) in
        rw (← did.1) (looks_alone u.mid some on.1 on.0)

    -- how a poll ends that gave way, where its list was this before it was to join again
    abbrev pub Gives : End → List (Entry ℕ) → Type 0
    Gives Pending es = (new.entries ≡ notified (joined es p) 1) × Reached p l AskStarved new
    Gives (Refused Starved) es = (new.entries ≡ notified es 1) × Reached p l Out new × (starved l ≡ l.limit)
    Gives _ es = ⊥

    -- the poll took the lock, and was the first in its list though it had joined last; or it gave way
    abbrev pub Ended : List (Entry ℕ) → Type 0
    Ended es = (Took p e new × (is_marked_at (is_party p) (notified (joined es p) 1) ≡ true)) ⊎ Gives e es

    refuses : (m : Lock) → starved l ≡ l.limit → Reached p l RefuseNotifyStarved m → GoesOnAlone memory p e new m → Gives e m.entries
    refuses m full r g =
        let u = unfolds p l memory e new RefuseNotifyStarved m r g in
        let on = along p l memory e new RefuseNotifyStarved m u (ends (Refused Starved)) u.acts.next_is in
        let told : u.mid.entries ≡ notified m.entries 1 = u.acts.list in
        rw on.0.0 (rw on.0.1 told, rw on.0.1 on.1, full)

    gives_so : (es : List (Entry ℕ)) → Asked (notified (joined es p) 1) → Ended es
    gives_so es (inl took) = inl took
    gives_so es (inr waits) = inr (rw waits.0 (waits.1, waits.2))

    counts_so : (m : Lock) → 0 < starved l → Reached p l (Count false true) m → (u : Unfolded p l memory e new (Count false true) m) →
        (next_of (Count false true) u.acts.found ≡ go_to JoinStarved) ⊎ ((next_of (Count false true) u.acts.found ≡ go_to RefuseNotifyStarved) × (starved m ≡ m.limit))
        → Ended m.entries
    counts_so m some r u (inl counted_so) =
        let on = along p l memory e new (Count false true) m u (go_to JoinStarved) (u.acts.next_is ∙ counted_so) in
        let same : u.mid.entries ≡ m.entries = u.acts.list in
        rw (← same) (gives_so u.mid.entries (joins_starved u.mid some on.1 on.0))
    counts_so m some r u (inr full) =
        let on = along p l memory e new (Count false true) m u (go_to RefuseNotifyStarved) (u.acts.next_is ∙ full.0) in
        let same : u.mid.entries ≡ m.entries = u.acts.list in
        let as_many : starved l ≡ l.limit = omega (arith, r.sums counted, full.1, r.limit) in
        rw (← same) (inr (refuses u.mid as_many on.1 on.0))

    counts_itself : (m : Lock) → 0 < starved l → Reached p l (Count false true) m → GoesOnAlone memory p e new m → Ended m.entries
    counts_itself m some r g =
        let u = unfolds p l memory e new (Count false true) m r g in
        counts_so m some r u (counts memory u.acts.found m u.acts.finds)

    passes_on : (m : Lock) → 0 < starved l → Reached p l PassOn m → GoesOnAlone memory p e new m → Ended (notified m.entries 1)
    passes_on m some r g =
        let u = unfolds p l memory e new PassOn m r g in
        let on = along p l memory e new PassOn m u (go_to (Count false true)) u.acts.next_is in
        let told : u.mid.entries ≡ notified m.entries 1 = u.acts.list in
        rw (← told) (counts_itself u.mid some on.1 on.0)

    -- the poll takes the lock, where nobody is starved or nobody else stood in the list, or gives way to a starved party
    abbrev pub Ends : List (Entry ℕ) → Type 0
    Ends es = (Took p e new × ((starved l ≡ 0) ⊎ (is_marked_at (is_party p) (notified (joined (notified es 1) p) 1) ≡ true))) ⊎ ((0 < starved l) × Gives e (notified es 1))

    with_some : (es : List (Entry ℕ)) → 0 < starved l → Ended (notified es 1) → Ends es
    with_some es some (inl took) = inl (took.0, inr took.1)
    with_some es some (inr gives) = inr (some, gives)

    retries_so : (m : Lock) → Reached p l Retry m → (u : Unfolded p l memory e new Retry m) → ((next_of Retry u.acts.found ≡ ends Got) × (starved m ≡ 0)) ⊎ ((next_of Retry u.acts.found ≡ go_to PassOn) × (0 < starved m)) → Ends m.entries
    retries_so m r u (inl got) =
        let on = along p l memory e new Retry m u (ends Got) (u.acts.next_is ∙ got.0) in
        inl ((on.0.0, rw on.0.1 on.1.here), inl (omega (arith, r.sums counted, got.1)))
    retries_so m r u (inr others) =
        let on = along p l memory e new Retry m u (go_to PassOn) (u.acts.next_is ∙ others.0) in
        let same : u.mid.entries ≡ m.entries = u.acts.list in
        let some : 0 < starved l = omega (arith, r.sums counted, others.1) in
        rw (← same) (with_some u.mid.entries some (passes_on u.mid some on.1 on.0))

    retries : (m : Lock) → Reached p l Retry m → GoesOnAlone memory p e new m → Ends m.entries
    retries m r g =
        let u = unfolds p l memory e new Retry m r g in
        retries_so m r u (retakes memory u.acts.found m u.acts.finds (free_at Retry m refl r))

    first_so : is_marked_at (is_party p) l.entries ≡ true → (u : Unfolded p l memory e new Ask l)
        → ((u.acts.found ≡ Yes) × (is_marked_at (is_party p) l.entries ≡ true) × (u.mid.entries ≡ without (is_party p) l.entries)) ⊎ ((u.acts.found ≡ No) × (is_marked_at (is_party p) l.entries ≡ false) × (u.mid.entries ≡ l.entries))
        → Ends (without (is_party p) l.entries)
    first_so marked u (inl told) =
        let on = along p l memory e new Ask l u (go_to Retry) (u.acts.next_is ∙ ap (next_of Ask) told.0) in
        rw (← told.2) (retries u.mid on.1 on.0)
    first_so marked u (inr not_told) = absurd (cc)

    -- the poll of a party that isn't starved
    pub polls_unstarved : p < length l.places → place_at l.places p ≡ Ask → is_marked_at (is_party p) l.entries ≡ true → GoesOnAlone memory p e new l → Ends (without (is_party p) l.entries)
    polls_unstarved known here marked g =
        let u = unfolds p l memory e new Ask l (at_start p l Ask known here) g in
        first_so marked u (asks p l.entries u.mid.entries memory u.acts.found l u.acts.finds u.acts.list)

  -- the poll of a party that isn't starved, where nobody is, takes the lock at its second action, whether or not there is memory
  module _ (unstarved : counted (place_at l.places p) ≡ 0) (none : starved l ≡ 0) where
    takes_so : (m : Lock) → Reached p l Retry m → (u : Unfolded p l memory e new Retry m) → ((next_of Retry u.acts.found ≡ ends Got) × (starved m ≡ 0)) ⊎ ((next_of Retry u.acts.found ≡ go_to PassOn) × (0 < starved m)) → Took p e new
    takes_so m r u (inl got) =
        let on = along p l memory e new Retry m u (ends Got) (u.acts.next_is ∙ got.0) in
        (on.0.0, rw on.0.1 on.1.here)
    takes_so m r u (inr others) = absurd (omega (arith, r.sums counted, others.1, unstarved, none))

    takes_at_once : (m : Lock) → Reached p l Retry m → GoesOnAlone memory p e new m → Took p e new
    takes_at_once m r g =
        let u = unfolds p l memory e new Retry m r g in
        takes_so m r u (retakes memory u.acts.found m u.acts.finds (free_at Retry m refl r))

    goes_so : is_marked_at (is_party p) l.entries ≡ true → (u : Unfolded p l memory e new Ask l)
        → ((u.acts.found ≡ Yes) × (is_marked_at (is_party p) l.entries ≡ true) × (u.mid.entries ≡ without (is_party p) l.entries)) ⊎ ((u.acts.found ≡ No) × (is_marked_at (is_party p) l.entries ≡ false) × (u.mid.entries ≡ l.entries)) → Took p e new
    goes_so marked u (inl told) =
        let on = along p l memory e new Ask l u (go_to Retry) (u.acts.next_is ∙ ap (next_of Ask) told.0) in
        takes_at_once u.mid on.1 on.0
    goes_so marked u (inr not_told) = absurd (cc)

    pub polls_free : p < length l.places → place_at l.places p ≡ Ask → is_marked_at (is_party p) l.entries ≡ true → GoesOnAlone memory p e new l → Took p e new
    polls_free known here marked g =
        let u = unfolds p l memory e new Ask l (at_start p l Ask known here) g in
        goes_so marked u (asks p l.entries u.mid.entries memory u.acts.found l u.acts.finds u.acts.list)

  took_so : is_marked_at (is_party p) l.entries ≡ true → (Took p e new × (is_marked_at (is_party p) l.entries ≡ true)) ⊎ ((is_marked_at (is_party p) l.entries ≡ false) × Waits l.entries) → Took p e new
  took_so marked (inl took) = took.0
  took_so marked (inr waits) = absurd (cc)

  -- the poll of a starved party takes the lock
  pub polls_starved : p < length l.places → place_at l.places p ≡ AskStarved → is_marked_at (is_party p) l.entries ≡ true → GoesOnAlone memory p e new l → Took p e new
  polls_starved known here marked g = took_so marked (asks_starved l (at_start p l AskStarved known here) g)
