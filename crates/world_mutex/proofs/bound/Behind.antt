-- At rest a notified party that isn't starved doesn't take the lock while somebody is starved: it hands its notification on first, is counted, and waits behind.
use Rattle.world_mutex.proofs.Prelude.{◌≡◌, ◌≢◌, ℕ, zero, suc, ◌+◌, ◌-◌, ◌<◌, ◌≤◌, ◌==◌, ◌⊎◌, inl, inr, Bool, true, false, List, [], ◌∷◌, length, get_or, Some, refl, sym, ap, ◌∙◌, subst, arith, get_or-set_same, true≢false, sum_by-set, set, sum_by, some_listed, joined_unmarked, notified_marked, Entry, notified, mark_waiting, Notified, marked_count, is_marked_at, is_party, entries_of, Answer, Call, Inputs, What, Begin, Go, Rest, Outside, Inside, Account, accounts_after, how_many, going_on, moves_of, answers_of, some_eq, beginning, along, Onward, stage_at, End, Found, Done, Free, Held, SomeStarved, AtLimit, NoMemory, Yes, No, Next, Place, Ask, Retry, PassOn, Count, JoinStarved, LookAlone, PassOnListed, AskStarved, RefuseUncount, RefuseNotifyMemory, RefuseNotifyStarved, action_of, next_of, place_after, holds, counted, listed, Finds, starved, is_waiting, Lock, place_at, OnParties, IsNotified, IsAwake, is_at_rest, place_of, answer_by, Runs, HoldsWell, World, is_starved, Stands, Steps, view_of}
use Rattle.lock_event.proofs.Marks.{marked_count-joined}
use Rattle.world_mutex.proofs.of_machine.solo_polls.Marked.{same_marks}
use Rattle.world_mutex.proofs.laws.Sound.{awake}
use Rattle.world_mutex.proofs.of_machine.laws.Seen as sees
use Rattle.world_mutex.proofs.bound.Alone.{later, Does, still_inside, going, beginning_so}
use Rattle.world_mutex.proofs.bound.Sure.{told_yes, asks_from, at_stage, waits}

-- ---- the places that such a poll comes by

abbrev Quiet : ℕ → List (Entry ℕ) → Type 0
Quiet p es = is_marked_at (is_party p) es ≡ false

abbrev Behind : ℕ → Lock → Place → Type 0
Behind p l Retry = 0 < starved l
Behind p l PassOn = 0 < starved l
Behind p l (Count false true) = (0 < starved l) × (0 < marked_count l.entries)
Behind p l JoinStarved = (1 < starved l) × (0 < marked_count l.entries)
Behind p l LookAlone = (1 < starved l) × (0 < marked_count l.entries) × Quiet p l.entries
Behind p l PassOnListed = (0 < marked_count l.entries) × Quiet p l.entries
Behind p l AskStarved = Quiet p l.entries
Behind p l RefuseUncount = Unit {0}
Behind p l RefuseNotifyMemory = Unit {0}
Behind p l RefuseNotifyStarved = Unit {0}
Behind p l _ = ⊥

abbrev Then : ℕ → Lock → Place → Next → Type 0
Then p k from (Next.Do a to) = Behind p k to
Then p k from (Next.End e) = holds (place_after from (Next.End e)) ≡ 0

goes : (memory : Bool) (p : ℕ) (l k : Lock) (x : Place) (f : Found) → Finds memory (action_of x) f l → OnParties p (action_of x) f l.entries k.entries → starved k + counted x ≡ starved l + counted (place_after x (next_of x f)) → 0 < length k.entries → entries_of p l.entries ≡ listed x → Behind p l x → Then p k x (next_of x f)
goes memory p l k Retry Free e o s some own h = absurd (omega (arith, e.1, h))
goes memory p l k Retry (Held z) e o s some own h = absurd (omega (arith, e.1, h))
goes memory p l k Retry SomeStarved e o s some own h = omega (arith, s, h)
goes memory p l k Retry _ e o s some own h = absurd e
goes memory p l k PassOn f e o s some own h = (omega (arith, s, h), notified_marked l.entries k.entries o some)
goes memory p l k (Count false true) Done e o s some own h = (omega (arith, s, h.0), omega (arith, h.1, ap marked_count o))
goes memory p l k (Count false true) AtLimit e o s some own h = tt
goes memory p l k (Count false true) _ e o s some own h = absurd e
goes memory p l k JoinStarved Done e o s some own h = (omega (arith, s, h.0), omega (arith, h.1, ap marked_count o, marked_count-joined l.entries p), ap (is_marked_at (is_party p)) o ∙ joined_unmarked p l.entries own)
goes memory p l k JoinStarved NoMemory e o s some own h = tt
goes memory p l k JoinStarved _ e o s some own h = absurd e
goes memory p l k LookAlone Free e o s some own h = absurd (omega (arith, e.1, h.0))
goes memory p l k LookAlone (Held z) e o s some own h = ap (is_marked_at (is_party p)) o ∙ h.2
goes memory p l k LookAlone SomeStarved e o s some own h = (omega (arith, h.1, ap marked_count o), ap (is_marked_at (is_party p)) o ∙ h.2)
goes memory p l k LookAlone _ e o s some own h = absurd e
goes memory p l k PassOnListed f e o s some own h = ap (is_marked_at (is_party p)) (o ∙ same_marks l.entries h.0) ∙ h.1
goes memory p l k AskStarved Yes e o s some own h = absurd (true≢false (sym o.0 ∙ h))
goes memory p l k AskStarved No e o s some own h = refl
goes memory p l k AskStarved _ e o s some own h = absurd e
goes memory p l k RefuseUncount f e o s some own h = tt
goes memory p l k RefuseNotifyMemory f e o s some own h = refl
goes memory p l k RefuseNotifyStarved f e o s some own h = refl
goes memory p l k _ f e o s some own h = absurd h

begins_so : (memory : Bool) (p : ℕ) (l k : Lock) (x : Place) (f : Found) → (x ≡ Ask) ⊎ (x ≡ AskStarved) → (x ≡ Ask → f ≡ Yes) → counted x ≡ 0 → Finds memory (action_of x) f l → starved k + counted x ≡ starved l + counted (place_after x (next_of x f)) → 0 < starved l → Then p k x (next_of x f)
begins_so memory p l k Ask Yes asks q plain e s h = omega (arith, s, h)
begins_so memory p l k Ask No asks q plain e s h = (let n = q refl in absurd (cc n))
begins_so memory p l k Ask _ asks q plain e s h = absurd e
begins_so memory p l k AskStarved f asks q plain e s h = absurd (omega (arith, plain))
begins_so memory p l k _ f asks q plain e s h = absurd (elim asks as (λ _. ⊥) [ inl e ↦ cc | inr e ↦ cc ])

-- ---- along the poll; q is another party, which stands in the list

ends_not : (v : ℕ) (e : End) → answer_by false v (Next.End e) ≡ Answer.Stepped → ⊥
ends_not v End.Got h = cc h
ends_not v End.Pending h = cc h
ends_not v End.NotFree h = cc h
ends_not v End.Granted h = cc h
ends_not v End.Waiting h = cc h
ends_not v End.GivenBack h = cc h
ends_not v (End.Refused r) h = cc h

module _ (p q : ℕ) (apart : q ≢ p) (i : Inputs) where
  abbrev Waits : World → Type 0
  Waits t = listed (place_of t.behind.machine q) ≡ 1

  record Going (t : World) : Type 0 where
    pub inside : stage_at t.behind.stages p ≡ Inside later
    pub behind : Behind p t.behind.machine.lock (place_of t.behind.machine p)
    pub waits : Waits t

  abbrev Ended : Answer → World → Type 0
  Ended a t = holds (place_of t.behind.machine p) ≡ 0

  abbrev OnTo : Answer → World → Type 0
  OnTo = Onward Going Ended

  module _ (what : What) (x : World) (a : Answer) (v : World) (d : Does p i what x.behind a v.behind) (stood : Stands x) (stands : Stands v) (at : place_of x.behind.machine p ≡ d.carries.from) (waited : Waits x) where
    abbrev l : Lock
    l = x.behind.machine.lock

    abbrev k : Lock
    k = v.behind.machine.lock

    abbrev from : Place
    from = d.carries.from

    abbrev f : Found
    f = d.carries.carried.acts.found

    there : p < length l.places
    there = omega (arith, d.inside, stood.fits.as_many)

    places : k.places ≡ set l.places p (place_after from (next_of from f))
    places = d.carries.carried.acts.places ∙ ap (λ n. set l.places p (place_after from n)) d.carries.carried.acts.next_is

    sums : starved k + counted from ≡ starved l + counted (place_after from (next_of from f))
    sums =
        let sum : sum_by counted (set l.places p (place_after from (next_of from f))) + counted (place_at l.places p) ≡ sum_by counted l.places + counted (place_after from (next_of from f)) = sum_by-set counted l.places p (place_after from (next_of from f)) Place.Out there in
        omega (arith, sum, ap (sum_by counted) places, ap counted at)

    lands : place_of v.behind.machine p ≡ place_after from d.carries.next
    lands = ap (λ ps. place_at ps p) d.carries.carried.acts.places ∙ get_or-set_same l.places p (place_after from d.carries.next) Place.Out there

    waits_on : Waits v
    waits_on = ap listed (d.carries.carried.legal.others q apart) ∙ waited

    some : 0 < length k.entries
    some = let one : entries_of q k.entries ≡ 1 = stands.laws.owners q ∙ waits_on in some_listed q k.entries (omega (arith, one))

    own : entries_of p l.entries ≡ listed from
    own = stood.laws.owners p ∙ ap listed at

    by_next : (n : Next) → d.carries.next ≡ n → Then p k from n → OnTo a v
    by_next (Next.Do act to) is way =
        let stepped : a ≡ Answer.Stepped = d.carries.answer ∙ ap (answer_by false x.behind.machine.value) is in
        let here : place_of v.behind.machine p ≡ to = lands ∙ ap (place_after from) is in
        let D : Answer → Type 0 = λ e. Does p i what x.behind e v.behind in
        record {
          going = λ e. record { inside = still_inside p i what x.behind v.behind (subst D stepped d); behind = subst (Behind p k) (sym here) way; waits = waits_on };
          ended = λ e. absurd (e stepped);
        }
    by_next (Next.End e) is ends =
        let here : place_of v.behind.machine p ≡ place_after from (Next.End e) = lands ∙ ap (place_after from) is in
        record {
          going = λ s. absurd (ends_not x.behind.machine.value e (sym (d.carries.answer ∙ ap (answer_by false x.behind.machine.value) is) ∙ s));
          ended = λ s. ap holds here ∙ ends;
        }

    leads : Then p k from (next_of from f) → OnTo a v
    leads h = by_next (next_of from f) d.carries.carried.acts.next_is h

  onward : (x : World) (a : Answer) (v : World) → Going x → Steps x (going_on p i) a v → OnTo a v
  onward x a v g s =
      let d = going p i x v a g.inside s in
      let at : place_of x.behind.machine p ≡ d.carries.from = some_eq d.carries.starts in
      leads (Go i) x a v d s.did.stood s.did.stands at g.waits
      (goes i.memory p x.behind.machine.lock v.behind.machine.lock d.carries.from d.carries.carried.acts.found d.carries.carried.acts.finds d.carries.carried.acts.list (sums (Go i) x a v d s.did.stood s.did.stands at g.waits) (some (Go i) x a v d s.did.stood s.did.stands at g.waits) (own (Go i) x a v d s.did.stood s.did.stands at g.waits) (subst (Behind p x.behind.machine.lock) at g.behind))

  first : (x : World) (a : Answer) (v : World) → stage_at x.behind.stages p ≡ Outside Rest.Pending → is_waiting (place_of x.behind.machine p) ≡ true → is_marked_at (is_party p) x.behind.machine.lock.entries ≡ true → counted (place_of x.behind.machine p) ≡ 0 → 0 < starved x.behind.machine.lock → Waits x → Steps x (beginning p Call.Poll i) a v → OnTo a v
  first x a v pending waiting marked plain h waited s =
      let d = beginning_so p i x v a pending s in
      let from = asks_from (place_of x.behind.machine p) d.carries.from waiting d.carries.starts in
      let it = d.carries.carried.acts in
      let yes : d.carries.from ≡ Ask → it.found ≡ Yes = λ e. (
      let A : Place → Type 0 = λ y. Finds i.memory (action_of y) it.found x.behind.machine.lock in
      let O : Place → Type 0 = λ y. OnParties p (action_of y) it.found x.behind.machine.lock.entries v.behind.machine.lock.entries in
      told_yes i.memory p it.found x.behind.machine.lock x.behind.machine.lock.entries v.behind.machine.lock.entries (subst A e it.finds) (subst O e it.list) marked
      ) in
      leads (Begin Call.Poll i) x a v d s.did.stood s.did.stands from.same waited
      (begins_so i.memory p x.behind.machine.lock v.behind.machine.lock d.carries.from it.found from.asks yes (sym (ap counted from.same) ∙ plain) it.finds (sums (Begin Call.Poll i) x a v d s.did.stood s.did.stands from.same waited) h)

-- ---- as callers see it

some_true : (bs : List Bool) → 0 < how_many bs → (q : ℕ) × (get_or bs q false ≡ true)
some_true [] h = absurd (omega arith)
some_true (true ∷ bs) h = (0, refl)
some_true (false ∷ bs) h = let found = some_true bs (omega arith) in (suc found.0, found.1)

one_listed : (x : Place) → 0 < listed x → listed x ≡ 1
one_listed x some = grind (arith, some)

off : (n : ℕ) → (n == 1) ≡ false → n ≤ 1 → n ≡ 0
off zero e low = refl
off (suc zero) e low = absurd (true≢false e)
off (suc (suc n)) e low = absurd (omega (arith, low))

counted_low : (x : Place) → counted x ≤ 1
counted_low x = grind arith

module _ (known : ℕ → Account) (w : World) (p : ℕ) (i : Inputs) (n : ℕ) (a : Answer) (v : World) (stood : Stands w) (stands : Stands v) (runs : Runs known w (moves_of p Call.Poll i n) (answers_of n a) v) (ended : a ≢ Answer.Stepped) (told : IsNotified w p) (resting : is_at_rest w ≡ true) (plain : is_starved w.state p ≡ false) (some : 0 < how_many w.state.starved) where
  pub waits_behind : v.state.holder ≢ Some p
  waits_behind has =
      let t = w.behind in
      let ps = t.machine.lock.places in
      let told_so = subst (λ x. IsNotified x p) stood.seen told in
      let plain_so : is_starved (view_of t).state p ≡ false = sym (ap (λ x. is_starved x.state p) stood.seen) ∙ plain in
      let some_so : 0 < how_many (view_of t).state.starved = subst (λ x. 0 < how_many x.state.starved) stood.seen some in
      let rest_so : is_at_rest (view_of t) ≡ true = sym (ap is_at_rest stood.seen) ∙ resting in
      let wakes : IsAwake (view_of t) = awake t stood.laws stood.fits rest_so in
      let one = some_true (view_of t).state.starved some_so in
      let apart : one.0 ≢ p = λ e. true≢false (sym one.1 ∙ (ap (λ q. is_starved (view_of t).state q) e ∙ plain_so)) in
      let there : 0 < entries_of one.0 t.machine.lock.entries = wakes.starved one.0 one.1 in
      let waited : listed (place_at ps one.0) ≡ 1 = one_listed (place_at ps one.0) (omega (arith, there, stood.laws.owners one.0)) in
      let fresh : counted (place_at ps p) ≡ 0 = off (counted (place_at ps p)) (sym (sees.starved_at ps p) ∙ plain_so) (counted_low (place_at ps p)) in
      let many : 0 < starved t.machine.lock = omega (arith, some_so, sees.how_many_counted ps) in
      let out : holds (place_of v.behind.machine p) ≡ 0 = along Steps accounts_after HoldsWell p i (Going p one.0 apart i) (Ended p one.0 apart i) (onward p one.0 apart i) known n w (beginning p Call.Poll i) a v
      (λ c x s. first p one.0 apart i w c x (at_stage t p stood.laws stood.fits told_so) (waits t p stood.laws stood.fits told_so) told_so.marked fresh many waited s) ended runs in
      let holding : holds (place_of v.behind.machine p) ≡ 1 = sees.is_held_by v.behind.machine.lock.places p (sym (ap (λ x. x.state.holder) stands.seen) ∙ has) in
      omega (arith, out, holding)
