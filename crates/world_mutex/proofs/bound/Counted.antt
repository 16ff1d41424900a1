-- A poll of a notified party that has waited for too long, or beside a starved one, has the lock at its end or is starved; and it is starved, where the lock was held.
use Rattle.world_mutex.proofs.Prelude.{◌≡◌, ◌≢◌, ℕ, zero, suc, ◌+◌, ◌<◌, ◌≤◌, ◌==◌, ◌⊎◌, inl, inr, Bool, true, false, length, Some, None, refl, sym, ap, ◌∙◌, subst, arith, get_or-set_same, true≢false, false≢true, sum_by-set, set, sum_by, is_marked_at, is_party, Answer, Call, Inputs, What, Begin, Go, Rest, Outside, Inside, Account, accounts_after, how_many, inputs_of, going_on, moves_of, answers_of, some_eq, beginning, along, Onward, stage_at, End, Found, Done, Free, Held, SomeStarved, AtLimit, NoMemory, Yes, No, Next, Place, Ask, Retry, PassOn, Count, JoinStarved, LookAlone, PassOnListed, AskStarved, Seize, Uncount, Leave, action_of, next_of, place_after, holds, counted, Finds, holders, starved, is_waiting, HeedsClock, Lock, place_at, OnParties, IsSolo, IsNotified, place_of, answer_by, Runs, HoldsWell, World, is_starved, Stands, Steps, view_of}
use Rattle.world_mutex.proofs.of_machine.laws.Seen as sees
use Rattle.world_mutex.proofs.bound.Alone.{later, Does, still_inside, going, beginning_so}
use Rattle.world_mutex.proofs.bound.Sure.{told_yes, asks_from, at_stage, waits}

-- why such a poll counts its party: the clock, or a starved party
abbrev Why : Bool → ℕ → Type 0
Why long n = (long ≡ true) ⊎ (0 < n)

unheeded : (long : Bool) (n : ℕ) → Why long n → long ≡ false → n ≡ 0 → ⊥
unheeded long n (inl e) f z = true≢false (sym e ∙ f)
unheeded long n (inr some) f z = omega (arith, some, z)

not_held : (b : Bool) → (b ≡ true → ⊥) → b ≡ false
not_held true n = absurd (n refl)
not_held false n = refl

-- ---- the places that such a poll comes by; b says that the lock was held where it began

abbrev IsHeld : Bool → Lock → Type 0
IsHeld b l = b ≡ true → holders l ≡ 1

abbrev OnWay : Bool → Bool → Lock → Place → Type 0
OnWay long b l Retry = (starved l < l.limit) × Why long (starved l) × IsHeld b l
OnWay long b l PassOn = (starved l < l.limit) × IsHeld b l
OnWay long b l (Count false true) = (starved l < l.limit) × IsHeld b l
OnWay long b l JoinStarved = IsHeld b l
OnWay long b l LookAlone = IsHeld b l
OnWay long b l PassOnListed = IsHeld b l
OnWay long b l AskStarved = IsHeld b l
OnWay long b l Seize = IsHeld b l
OnWay long b l (Uncount listed) = b ≡ false
OnWay long b l Leave = b ≡ false
OnWay long b l _ = ⊥

-- how it ends: starved, or with a lock that wasn't held
abbrev EndsAt : Bool → Place → Type 0
EndsAt b x = (counted x ≡ 1) ⊎ ((holds x ≡ 1) × (b ≡ false))

abbrev Then : Bool → Bool → Lock → Place → Next → Type 0
Then long b k from (Next.Do a to) = OnWay long b k to
Then long b k from (Next.End e) = EndsAt b (place_after from (Next.End e))

-- what an action of a party leaves of the sums
record Sums (l k : Lock) (from to : Place) : Type 0 where
  pub holding : holders k + holds from ≡ holders l + holds to
  pub starving : starved k + counted from ≡ starved l + counted to
  pub limit : k.limit ≡ l.limit

goes : (long b : Bool) (l k : Lock) (x : Place) (f : Found) → Finds true (action_of x) f l → HeedsClock long x (next_of x f) → Sums l k x (place_after x (next_of x f)) → OnWay long b l x → Then long b k x (next_of x f)
goes long b l k Retry Free e c s h = inr (refl, not_held b (λ t. omega (arith, h.2 t, e.0)))
goes long b l k Retry (Held true) e c s h = (omega (arith, s.starving, s.limit, h.0), λ t. omega (arith, s.holding, h.2 t))
goes long b l k Retry (Held false) e c s h = absurd (unheeded long (starved l) h.1 c e.1)
goes long b l k Retry SomeStarved e c s h = (omega (arith, s.starving, s.limit, h.0), λ t. omega (arith, s.holding, h.2 t))
goes long b l k Retry _ e c s h = absurd e
goes long b l k PassOn f e c s h = (omega (arith, s.starving, s.limit, h.0), λ t. omega (arith, s.holding, h.1 t))
goes long b l k (Count false true) Done e c s h = λ t. omega (arith, s.holding, h.1 t)
goes long b l k (Count false true) AtLimit e c s h = absurd (omega (arith, e, h.0))
goes long b l k (Count false true) _ e c s h = absurd e
goes long b l k JoinStarved Done e c s h = λ t. omega (arith, s.holding, h t)
goes long b l k JoinStarved NoMemory e c s h = absurd (true≢false e)
goes long b l k JoinStarved _ e c s h = absurd e
goes long b l k LookAlone Free e c s h = not_held b (λ t. omega (arith, h t, e.0))
goes long b l k LookAlone (Held z) e c s h = λ t. omega (arith, s.holding, h t)
goes long b l k LookAlone SomeStarved e c s h = λ t. omega (arith, s.holding, h t)
goes long b l k LookAlone _ e c s h = absurd e
goes long b l k PassOnListed f e c s h = λ t. omega (arith, s.holding, h t)
goes long b l k AskStarved Yes e c s h = λ t. omega (arith, s.holding, h t)
goes long b l k AskStarved No e c s h = inl refl
goes long b l k AskStarved _ e c s h = absurd e
goes long b l k Seize Free e c s h = not_held b (λ t. omega (arith, h t, e))
goes long b l k Seize (Held z) e c s h = λ t. omega (arith, s.holding, h t)
goes long b l k Seize _ e c s h = absurd e
goes long b l k (Uncount true) f e c s h = h
goes long b l k (Uncount false) f e c s h = inr (refl, h)
goes long b l k Leave f e c s h = inr (refl, h)
goes long b l k _ f e c s h = absurd h

-- where it begins
record Begins (long b : Bool) (l : Lock) : Type 0 where
  pub below : starved l < l.limit
  pub why : Why long (starved l)
  pub held : IsHeld b l

begins_so : (long b : Bool) (l k : Lock) (x : Place) (f : Found) → (x ≡ Ask) ⊎ (x ≡ AskStarved) → (x ≡ Ask → f ≡ Yes) → Finds true (action_of x) f l → Sums l k x (place_after x (next_of x f)) → Begins long b l → Then long b k x (next_of x f)
begins_so long b l k Ask Yes asks q e s h = (omega (arith, s.starving, s.limit, h.below), elim h.why as (λ _. Why long (starved k)) [ inl t ↦ inl t | inr some ↦ inr (omega (arith, s.starving, some)) ], λ t. omega (arith, s.holding, h.held t))
begins_so long b l k Ask No asks q e s h = (let n = q refl in absurd (cc n))
begins_so long b l k Ask _ asks q e s h = absurd e
begins_so long b l k AskStarved f asks q e s h = goes long b l k AskStarved f e tt s h.held
begins_so long b l k _ f asks q e s h = absurd (elim asks as (λ _. ⊥) [ inl e ↦ cc | inr e ↦ cc ])

-- ---- along the poll

ends_not : (v : ℕ) (e : End) → answer_by false v (Next.End e) ≡ Answer.Stepped → ⊥
ends_not v End.Got h = cc h
ends_not v End.Pending h = cc h
ends_not v End.NotFree h = cc h
ends_not v End.Granted h = cc h
ends_not v End.Waiting h = cc h
ends_not v End.GivenBack h = cc h
ends_not v (End.Refused r) h = cc h

module _ (p : ℕ) (i : Inputs) (b : Bool) (memory : i.memory ≡ true) where
  record Going (t : World) : Type 0 where
    pub inside : stage_at t.behind.stages p ≡ Inside later
    pub way : OnWay i.starving b t.behind.machine.lock (place_of t.behind.machine p)

  abbrev Ended : Answer → World → Type 0
  Ended a t = EndsAt b (place_of t.behind.machine p)

  abbrev OnTo : Answer → World → Type 0
  OnTo = Onward Going Ended

  module _ (what : What) (same : inputs_of what ≡ i) (x : World) (a : Answer) (v : World) (d : Does p i what x.behind a v.behind) (stood : Stands x) (at : place_of x.behind.machine p ≡ d.carries.from) where
    abbrev l : Lock
    l = x.behind.machine.lock

    abbrev k : Lock
    k = v.behind.machine.lock

    abbrev from : Place
    from = d.carries.from

    abbrev f : Found
    f = d.carries.carried.acts.found

    there : p < length l.places
    there = omega (arith, d.inside, stood.fits.as_many)

    places : k.places ≡ set l.places p (place_after from (next_of from f))
    places = d.carries.carried.acts.places ∙ ap (λ n. set l.places p (place_after from n)) d.carries.carried.acts.next_is

    sum_so : (g : Place → ℕ) → sum_by g k.places + g from ≡ sum_by g l.places + g (place_after from (next_of from f))
    sum_so g =
        let sum : sum_by g (set l.places p (place_after from (next_of from f))) + g (place_at l.places p) ≡ sum_by g l.places + g (place_after from (next_of from f)) = sum_by-set g l.places p (place_after from (next_of from f)) Place.Out there in
        omega (arith, sum, ap (sum_by g) places, ap g at)

    sums : Sums l k from (place_after from (next_of from f))
    sums = record { holding = sum_so holds; starving = sum_so counted; limit = d.carries.carried.acts.limit }

    lands : place_of v.behind.machine p ≡ place_after from d.carries.next
    lands = ap (λ ps. place_at ps p) d.carries.carried.acts.places ∙ get_or-set_same l.places p (place_after from d.carries.next) Place.Out there

    finds : Finds true (action_of from) f l
    finds = let F : Bool → Type 0 = λ m. Finds m (action_of from) f l in subst F (ap (λ (j : Inputs). j.memory) same ∙ memory) d.carries.carried.acts.finds

    heeds : HeedsClock i.starving from (next_of from f)
    heeds =
        let C : Bool → Type 0 = λ z. HeedsClock z from d.carries.next in
        let N : Next → Type 0 = λ n. HeedsClock i.starving from n in
        subst N d.carries.carried.acts.next_is (subst C (ap (λ (j : Inputs). j.starving) same) d.carries.carried.clock)

    by_next : (n : Next) → d.carries.next ≡ n → Then i.starving b k from n → OnTo a v
    by_next (Next.Do act to) is way =
        let stepped : a ≡ Answer.Stepped = d.carries.answer ∙ ap (answer_by false x.behind.machine.value) is in
        let here : place_of v.behind.machine p ≡ to = lands ∙ ap (place_after from) is in
        let D : Answer → Type 0 = λ e. Does p i what x.behind e v.behind in
        let W : Place → Type 0 = OnWay i.starving b k in
        record {
          going = λ e. record { inside = still_inside p i what x.behind v.behind (subst D stepped d); way = subst W (sym here) way };
          ended = λ e. absurd (e stepped);
        }
    by_next (Next.End e) is ends =
        let here : place_of v.behind.machine p ≡ place_after from (Next.End e) = lands ∙ ap (place_after from) is in
        record {
          going = λ s. absurd (ends_not x.behind.machine.value e (sym (d.carries.answer ∙ ap (answer_by false x.behind.machine.value) is) ∙ s));
          ended = λ s. subst (EndsAt b) (sym here) ends;
        }

    leads : Then i.starving b k from (next_of from f) → OnTo a v
    leads h = by_next (next_of from f) d.carries.carried.acts.next_is h

  onward : (x : World) (a : Answer) (v : World) → Going x → Steps x (going_on p i) a v → OnTo a v
  onward x a v g s =
      let d = going p i x v a g.inside s in
      let at : place_of x.behind.machine p ≡ d.carries.from = some_eq d.carries.starts in
      let W : Place → Type 0 = OnWay i.starving b x.behind.machine.lock in
      leads (Go i) refl x a v d s.did.stood at
      (goes i.starving b x.behind.machine.lock v.behind.machine.lock d.carries.from d.carries.carried.acts.found (finds (Go i) refl x a v d s.did.stood at) (heeds (Go i) refl x a v d s.did.stood at) (sums (Go i) refl x a v d s.did.stood at) (subst W at g.way))

  first : (x : World) (a : Answer) (v : World) → stage_at x.behind.stages p ≡ Outside Rest.Pending → is_waiting (place_of x.behind.machine p) ≡ true → is_marked_at (is_party p) x.behind.machine.lock.entries ≡ true → Begins i.starving b x.behind.machine.lock → Steps x (beginning p Call.Poll i) a v → OnTo a v
  first x a v pending waiting marked h s =
      let d = beginning_so p i x v a pending s in
      let from = asks_from (place_of x.behind.machine p) d.carries.from waiting d.carries.starts in
      let it = d.carries.carried.acts in
      let yes : d.carries.from ≡ Ask → it.found ≡ Yes = λ e. (
      let A : Place → Type 0 = λ y. Finds i.memory (action_of y) it.found x.behind.machine.lock in
      let O : Place → Type 0 = λ y. OnParties p (action_of y) it.found x.behind.machine.lock.entries v.behind.machine.lock.entries in
      told_yes i.memory p it.found x.behind.machine.lock x.behind.machine.lock.entries v.behind.machine.lock.entries (subst A e it.finds) (subst O e it.list) marked
      ) in
      leads (Begin Call.Poll i) refl x a v d s.did.stood from.same
      (begins_so i.starving b x.behind.machine.lock v.behind.machine.lock d.carries.from it.found from.asks yes (finds (Begin Call.Poll i) refl x a v d s.did.stood from.same) (sums (Begin Call.Poll i) refl x a v d s.did.stood from.same) h)

-- ---- as callers see it

one_of : (n : ℕ) → n ≤ 1 → (n ≡ 0 → ⊥) → n ≡ 1
one_of zero low some = absurd (some refl)
one_of (suc zero) low some = refl
one_of (suc (suc n)) low some = absurd (omega (arith, low))

why_there : (long : Bool) (n m : ℕ) → n ≡ m → Why long n → Why long m
why_there long n m e (inl t) = inl t
why_there long n m e (inr some) = inr (omega (arith, e, some))

starved_then : (v : World) (p : ℕ) → Stands v → counted (place_of v.behind.machine p) ≡ 1 → is_starved v.state p ≡ true
starved_then v p s one = ap (λ x. is_starved x.state p) s.seen ∙ (sees.starved_at v.behind.machine.lock.places p ∙ ap (λ (n : ℕ). n == 1) one)

holds_then : (v : World) (p : ℕ) → Stands v → holds (place_of v.behind.machine p) ≡ 1 → v.state.holder ≡ Some p
holds_then v p s one = ap (λ x. x.state.holder) s.seen ∙ sees.holds_it v.behind.machine.lock.places p s.laws.one_holder one

module _ (known : ℕ → Account) (w : World) (p : ℕ) (i : Inputs) (n : ℕ) (a : Answer) (v : World) (stood : Stands w) (stands : Stands v) (runs : Runs known w (moves_of p Call.Poll i n) (answers_of n a) v) (ended : a ≢ Answer.Stepped) (solo : IsSolo w p i) (why : Why i.starving (how_many w.state.starved)) (below : how_many w.state.starved < w.limit) where
  many : how_many w.state.starved ≡ starved w.behind.machine.lock
  many = ap (λ x. how_many x.state.starved) stood.seen ∙ sees.how_many_counted w.behind.machine.lock.places

  limit_is : w.limit ≡ w.behind.machine.lock.limit
  limit_is = ap (λ x. x.limit) stood.seen

  ends_as : (b : Bool) → IsHeld b w.behind.machine.lock → EndsAt b (place_of v.behind.machine p)
  ends_as b held =
      let t = w.behind in
      let solo_so = subst (λ x. IsSolo x p i) stood.seen solo in
      let told : IsNotified (view_of t) p = record { pending = solo_so.pending; marked = solo_so.marked } in
      along Steps accounts_after HoldsWell p i (Going p i b solo.memory) (Ended p i b solo.memory) (onward p i b solo.memory) known n w (beginning p Call.Poll i) a v
      (λ c x s. first p i b solo.memory w c x (at_stage t p stood.laws stood.fits told) (waits t p stood.laws stood.fits told) solo_so.marked (record { below = omega (arith, below, many, limit_is); why = why_there i.starving _ _ many why; held = held }) s)
      ended runs

  pub has_or_starved : (v.state.holder ≡ Some p) ⊎ (is_starved v.state p ≡ true)
  has_or_starved = elim (ends_as false (λ e. absurd (false≢true e))) as (λ _. (v.state.holder ≡ Some p) ⊎ (is_starved v.state p ≡ true)) [ inl one ↦ inr (starved_then v p stands one) | inr has ↦ inl (holds_then v p stands has.0) ]

  pub starved_if_held : w.state.holder ≢ None → is_starved v.state p ≡ true
  starved_if_held held =
      let l : Lock = w.behind.machine.lock in
      let one : holders l ≡ 1 = one_of (holders l) stood.laws.one_holder (λ z. held (ap (λ x. x.state.holder) stood.seen ∙ sees.none_held 0 l.places z)) in
      elim (ends_as true (λ e. one)) as (λ _. is_starved v.state p ≡ true) [ inl one ↦ starved_then v p stands one | inr has ↦ absurd (true≢false has.1) ]
