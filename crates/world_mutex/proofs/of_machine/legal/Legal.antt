-- An action of one party is a legal step of the mutex.
use Rattle.world_mutex.proofs.Prelude.{◌≡◌, ℕ, ◌+◌, ◌<◌, ◌≤◌, ◌⊎◌, ◌==◌, ◌↔◌, inl, inr, Bool, true, false, List, map, length, Option, Some, None, refl, arith, ap, sym, ◌∙◌, subst, get_or-set_same, get_or-set_other, length-set, set, nat_tests, map-set_same, sum_by-set, sum_by, Entry, Waiting, mark_at, is_marked_at, without, is_party, entries_of, Effect, nothing, changes, does, joins, notifies, notifies_additionally, some_eq, none_some, some_none, chosen, Place, Out, Holding, Enter, Try, Ask, AskStarved, LockCall, Action, Found, Done, Free, Held, SomeStarved, AtLimit, NoMemory, Yes, No, Next, End, Got, Pending, NotFree, GivenBack, Refused, start_of, action_of, next_of, bit, holds, counted, listed, OnParties, Lock, SameRoles, place_at, Acts, Finds, holders, starved, is_holder, is_counted, holder_of, starved_of, decision, decided_then, IsReason, IsAllowed, IsLegal, Change, ListName, takes, releases, starves, recovers, holder_after, starved_after, entries_after, gives_back, gives_up, is_release, decided_by, is_fresh, Refusal, for_the_lock}
use Rattle.std.proofs.lemmas.List.{map-set}
use Rattle.world_base.proofs.of_queue.Told.{waits_at}
use Rattle.world_mutex.proofs.of_machine.laws.Kept.{after}
use Rattle.world_mutex.proofs.of_machine.legal.Rows.{Row, row, effect_of, decision_by, Holds, Starves, Finding, Room, HoldsOn, Reason, Judged}
use Rattle.world_mutex.proofs.of_machine.laws.Seen as sees
use Rattle.world_mutex.specs.machine.Courses.{is_releasing}

-- what an action does to the list is what its effect does
pub list_is : (memory : Bool) (lock : Lock) (p : ℕ) (a : Action) (f : Found) (l m : List (Entry ℕ)) → Finds memory a f lock → OnParties p a f l m → m ≡ entries_after p (effect_of a f) l
list_is memory lock p Action.Nothing Done l m e o = o
list_is memory lock p Action.Take Free l m e o = o
list_is memory lock p Action.Take (Held b) l m e o = o
list_is memory lock p Action.Take SomeStarved l m e o = o
list_is memory lock p Action.TakeAlone Free l m e o = o
list_is memory lock p Action.TakeAlone (Held b) l m e o = o
list_is memory lock p Action.TakeAlone SomeStarved l m e o = o
list_is memory lock p Action.Set Free l m e o = o
list_is memory lock p Action.Set (Held b) l m e o = o
list_is memory lock p Action.Count Done l m e o = o
list_is memory lock p Action.Count AtLimit l m e o = o
list_is memory lock p Action.Uncount Done l m e o = o
list_is memory lock p Action.Clear Done l m e o = o
list_is memory lock p Action.Join Done l m e o = o
list_is memory lock p Action.Join NoMemory l m e o = o
list_is memory lock p Action.Ask Yes l m e o = o.1 ∙ sym (chosen (is_marked_at (is_party p) l) (without (is_party p) l) l o.0)
list_is memory lock p Action.Ask No l m e o = o.1
list_is memory lock p Action.Leave Done l m e o = o
list_is memory lock p Action.Notify Done l m e o = o
list_is memory lock p Action.Nothing _ l m e o = absurd e
list_is memory lock p Action.Take _ l m e o = absurd e
list_is memory lock p Action.TakeAlone _ l m e o = absurd e
list_is memory lock p Action.Set _ l m e o = absurd e
list_is memory lock p Action.Count _ l m e o = absurd e
list_is memory lock p Action.Uncount _ l m e o = absurd e
list_is memory lock p Action.Clear _ l m e o = absurd e
list_is memory lock p Action.Join _ l m e o = absurd e
list_is memory lock p Action.Ask _ l m e o = absurd e
list_is memory lock p Action.Leave _ l m e o = absurd e
list_is memory lock p Action.Notify _ l m e o = absurd e

-- a party that asked in vain wasn't marked
asked : (p : ℕ) (a : Action) (f : Found) (l m : List (Entry ℕ)) → OnParties p a f l m → a ≡ Action.Ask → f ≡ No → OnParties p Action.Ask No l m
asked p a f l m o ea ef = let P : Action → Found → Type 0 = λ b g. OnParties p b g l m in let o2 : P Action.Ask f = subst (λ (b : Action). P b f) ea o in subst (P Action.Ask) ef o2

-- an action keeps what was decided, and what it decides has a reason
keep : (memory : Bool) (l : Lock) (from : Place) (f : Found) (w o : Option End) (e : End) → Judged memory l from f w o → w ≡ Some e → (o ≡ Some e) × (gives_back (effect_of (action_of from) f) ≡ true)
keep memory l from f (Some c) o e j is = (j.0 ∙ is, j.1)
keep memory l from f None o e j is = absurd (none_some is)

judge : (memory : Bool) (l : Lock) (from : Place) (f : Found) (w o : Option End) (e : End) → Judged memory l from f w o → w ≡ None → o ≡ Some e → Reason memory l from f e
judge memory l from f (Some c) o e j none is = absurd (some_none none)
judge memory l from f None None e j none is = absurd (none_some is)
judge memory l from f None (Some c) e j none is = let P : End → Type 0 = λ a. Reason memory l from f a in subst P (some_eq is) j

-- a join found memory, and until its call is decided a party gives nothing up
found_room : (memory : Bool) (d : Effect Change ListName) (list : ListName) → Room memory d → d ≡ does list joins → memory ≡ true
found_room memory d list r e = let P : Effect Change ListName → Type 0 = Room memory in subst P e r

held_on : (o : Option End) (d : Effect Change ListName) → HoldsOn o d → o ≡ None → gives_up d ≡ false
held_on None d h e = h
held_on (Some c) d h e = absurd (some_none e)

kept_lock : (o : Option End) (d : Effect Change ListName) → HoldsOn o d → o ≡ Some Got → is_release d ≡ false
kept_lock None d h e = absurd (none_some e)
kept_lock (Some Got) d h e = h
kept_lock (Some Pending) d h e = absurd (cc)
kept_lock (Some NotFree) d h e = absurd (cc)
kept_lock (Some GivenBack) d h e = absurd (cc)
kept_lock (Some (Refused r)) d h e = absurd (cc)
kept_lock (Some _) d h e = absurd (cc)

-- an end is decided by what comes next, wherever it leads
then_same : (from : Place) (f : Found) → decided_then (next_of from f) (after from f) ≡ decision_by (next_of from f)
then_same from f = by_next (next_of from f) (after from f) (λ a q e. led from f a q e) where
  by_next : (n : Next) (to : Place) → ((a : Action) (q : Place) → n ≡ Next.Do a q → to ≡ q) → decided_then n to ≡ decision_by n
  by_next (Next.Do a q) to leads = ap decision (leads a q refl)
  by_next (Next.End e) to leads = refl

  led : (from : Place) (f : Found) (a : Action) (q : Place) → next_of from f ≡ Next.Do a q → after from f ≡ q
  led from f a q e = rw e refl

module _ (memory : Bool) (p : ℕ) (from : Place) (f : Found) (l : Lock) (es : List (Entry ℕ)) where
  abbrev to : Place
  to = after from f

  abbrev here : Place
  here = place_at l.places p

  abbrev new : Lock
  new = record { places = set l.places p to; entries = es; limit = l.limit }

  abbrev effect : Effect Change ListName
  effect = effect_of (action_of from) f

  pub record Known : Type 0 where
    pub there : p < length l.places
    pub same : SameRoles from here
    pub one : holders l ≤ 1
    pub one_then : holders new ≤ 1
    pub own : entries_of p l.entries ≡ listed here
    pub finds : Finds memory (action_of from) f l
    pub list : OnParties p (action_of from) f l.entries es

  module _ (k : Known) where
    r : Row memory l from f
    r = row memory l from f k.finds

    lands : place_at new.places p ≡ to
    lands = get_or-set_same l.places p to Out k.there

    holds_from : is_holder from ≡ is_holder here
    holds_from = ap (λ (n : ℕ). n == 1) k.same.holding

    counts_from : is_counted from ≡ is_counted here
    counts_from = ap (λ (n : ℕ). n == 1) k.same.starving

    stands_listed : entries_of p l.entries ≡ listed from
    stands_listed = k.own ∙ sym k.same.standing

    is_there : is_holder here ≡ true → holds here ≡ 1
    is_there h = sym (sees.holds_bit here) ∙ ap bit h

    has_it : is_holder to ≡ true → holder_of new ≡ Some p
    has_it h = sees.holds_it new.places p k.one_then (ap holds lands ∙ (sym (sees.holds_bit to) ∙ ap bit h))

    same_holder : is_holder to ≡ is_holder from → holder_of new ≡ holder_of l
    same_holder h = sees.same_holder 0 l.places p to (h ∙ holds_from)

    gone : is_holder from ≡ true → is_holder to ≡ false → holder_of new ≡ None
    gone h n =
        let sum : sum_by holds new.places + holds here ≡ sum_by holds l.places + holds to = sum_by-set holds l.places p to Out k.there in
        let had : holds here ≡ 1 = is_there (sym holds_from ∙ h) in
        let has : holds to ≡ 0 = sym (sees.holds_bit to) ∙ ap bit n in
        sees.none_held 0 new.places (omega (arith, k.one))

    holder_is : (d : Effect Change ListName) → Holds d (is_holder from) (is_holder to) → holder_of new ≡ holder_after p d (holder_of l)
    holder_is nothing h = same_holder h
    holder_is (changes takes) h = has_it h.1
    holder_is (changes releases) h = gone h.0 h.1
    holder_is (changes starves) h = same_holder h
    holder_is (changes recovers) h = same_holder h
    holder_is (does list g) h = same_holder h

    same_starved : is_counted to ≡ is_counted from → starved_of new ≡ starved_of l
    same_starved h = map-set_same is_counted l.places p to Out (h ∙ counts_from)

    starved_is : (d : Effect Change ListName) → Starves d (is_counted from) (is_counted to) → starved_of new ≡ starved_after p d (starved_of l)
    starved_is nothing s = same_starved s
    starved_is (changes takes) s = same_starved s
    starved_is (changes releases) s = same_starved s
    starved_is (changes starves) s = map-set is_counted l.places p to ∙ ap (set (map is_counted l.places) p) s.1
    starved_is (changes recovers) s = map-set is_counted l.places p to ∙ ap (set (map is_counted l.places) p) s.1
    starved_is (does list g) s = same_starved s

    counts_there : is_counted here ≡ true → counted here ≡ 1
    counts_there h = sym (sees.counted_bit here) ∙ ap bit h

    allowed_so : (d : Effect Change ListName) → Holds d (is_holder from) (is_holder to) → Starves d (is_counted from) (is_counted to) → Finding d l from → IsAllowed p d l
    allowed_so nothing h s i = tt
    allowed_so (changes takes) h s i = (i.0, elim i.1 as (λ _. (starved l ≡ 0) ⊎ (counted here ≡ 1)) [ inl e ↦ inl e | inr e ↦ inr (sym k.same.starving ∙ e) ])
    allowed_so (changes releases) h s i = is_there (sym holds_from ∙ h.0)
    allowed_so (changes starves) h s i = (sym (sees.counted_bit here) ∙ ap bit (sym counts_from ∙ s.0), i)
    allowed_so (changes recovers) h s i = counts_there (sym counts_from ∙ s.0)
    allowed_so (does list (notifies n)) h s i = (i.0, sym k.same.telling ∙ i.1)
    allowed_so (does list (notifies_additionally n)) h s i = i
    allowed_so (does list g) h s i = tt

    list_so : es ≡ entries_after p effect l.entries
    list_so = list_is memory l p (action_of from) f l.entries es k.finds k.list

    waits_there : action_of from ≡ Action.Ask → f ≡ No → listed from ≡ 1 → mark_at (is_party p) es ≡ Some Waiting
    waits_there a g one =
        let o = asked p (action_of from) f l.entries es k.list a g in
        rw o.1 (waits_at p l.entries (stands_listed ∙ one) o.0)

    unchanged : effect ≡ nothing → (es ≡ l.entries) × (holder_of new ≡ holder_of l) × (starved_of new ≡ starved_of l)
    unchanged e = (
      list_so ∙ ap (λ (d : Effect Change ListName). entries_after p d l.entries) e,
      holder_is effect r.holds ∙ ap (λ (d : Effect Change ListName). holder_after p d (holder_of l)) e,
      starved_is effect r.starves ∙ ap (λ (d : Effect Change ListName). starved_after p d (starved_of l)) e,
    )

    reason_is : (e : End) → Reason memory l from f e → IsReason memory p l new e
    reason_is Got y = has_it y
    reason_is Pending y = waits_there y.0 y.1 y.2
    reason_is NotFree y = y
    reason_is GivenBack y = tt
    reason_is (Refused Refusal.Memory) y = let same = unchanged y.2 in (y.0, stands_listed ∙ y.1, same.0, same.1, same.2)
    reason_is (Refused Refusal.Starved) y = let same = unchanged y.2 in (y.0, sym k.same.starving ∙ y.1, same.0, same.1, same.2, sym k.same.counting ∙ y.3)
    reason_is _ y = absurd y

    idle_by : (why : Refusal) → Reason memory l from f (Refused why) → effect ≡ nothing
    idle_by Refusal.Memory y = y.2
    idle_by Refusal.Starved y = y.2
    idle_by _ y = absurd y

    released : (x : Place) (g : Found) → Finds memory (action_of x) g l → is_releasing x ≡ true → effect_of (action_of x) g ≡ does for_the_lock (notifies 1)
    released Place.ReleaseNotify Done e h = refl
    released Place.ReleaseNotify _ e h = absurd e
    released _ g e h = absurd (cc h)

    refused_at : (x : Place) (g : Found) (why : Refusal) → Finds memory (action_of x) g l → decision x ≡ Some (Refused why) → listed x ≡ 0 → counted x ≡ 0 → (effect_of (action_of x) g ≡ does for_the_lock (notifies 1)) × (next_of x g ≡ Next.End (Refused why))
    refused_at Place.RefuseNotifyMemory Done why e d none plain = (refl, ap Next.End (some_eq d))
    refused_at Place.RefuseNotifyMemory _ why e d none plain = absurd e
    refused_at Place.RefuseNotifyStarved Done why e d none plain = (refl, ap Next.End (some_eq d))
    refused_at Place.RefuseNotifyStarved _ why e d none plain = absurd e
    refused_at Place.RefuseUncount g why e d none plain = absurd (omega (arith, plain))
    refused_at (Place.RefuseLeave told) g why e d none plain = absurd (omega (arith, none))
    refused_at Place.Out g why e d none plain = absurd (cc d)
    refused_at Place.Leave g why e d none plain = absurd (cc d)
    refused_at (Place.Uncount b) g why e d none plain = absurd (cc d)
    refused_at Place.Clear g why e d none plain = absurd (cc d)
    refused_at Place.ReleaseNotify g why e d none plain = absurd (cc d)
    refused_at Place.CancelUncount g why e d none plain = absurd (cc d)
    refused_at Place.CancelLeave g why e d none plain = absurd (cc d)
    refused_at _ g why e d none plain = absurd (none_some d)

    decided : decided_then (next_of from f) (place_at new.places p) ≡ decision_by (next_of from f)
    decided = ap (decided_then (next_of from f)) lands ∙ then_same from f

    pub legal : IsLegal memory p (decision from) (next_of from f) l new
    legal = record {
      effect = effect;
      allowed = allowed_so effect r.holds r.starves r.finding;
      holder = holder_is effect r.holds;
      starved = starved_is effect r.starves;
      entries = list_so;
      found_memory = λ list e. found_room memory effect list r.room e;
      limit = refl;
      parties = length-set l.places p to;
      others = λ q apart. get_or-set_other l.places p q to Out apart;
      kept = λ e is. let j = keep memory l from f (decision from) (decision_by (next_of from f)) e r.judged is in (decided ∙ j.0, j.1);
      holds_on = λ none. held_on (decision from) effect r.holds_on none;
      keeps_lock = λ got. kept_lock (decision from) effect r.holds_on got;
      refused_idly = λ why none is. idle_by why (judge memory l from f (decision from) (decision_by (next_of from f)) (Refused why) r.judged none (sym decided ∙ is));
      releases = λ is. released from f k.finds (k.same.releasing ∙ is);
      refuses = λ why d none plain. refused_at from f why k.finds d (k.same.standing ∙ none) (k.same.starving ∙ plain);
      reason = λ e none is. reason_is e (judge memory l from f (decision from) (decision_by (next_of from f)) e r.judged none (sym decided ∙ is));
    }

-- ---- as the machine's calls say it

made : (a b : List Place) (es : List (Entry ℕ)) (n m : ℕ) → a ≡ b → n ≡ m → Path Lock (record { places = a; entries = es; limit = n }) (record { places = b; entries = es; limit = m })
made a b es n m e d = cc

-- what an action needs, and what holds after it
pub record Around (p : ℕ) (from : Place) (old new : Lock) : Type 0 where
  pub there : p < length old.places
  pub same : SameRoles from (place_at old.places p)
  pub one : holders old ≤ 1
  pub one_then : holders new ≤ 1
  pub own : entries_of p old.entries ≡ listed (place_at old.places p)

module _ (memory : Bool) (p : ℕ) (from : Place) (onward : Next) (old new : Lock) (around : Around p from old new) (acts : Acts memory p from onward old new) where
  to_is : new.places ≡ set old.places p (after from acts.found)
  to_is = rw (← acts.next_is) acts.places

  new_is : Path Lock new (record { places = set old.places p (after from acts.found); entries = new.entries; limit = old.limit })
  new_is = made new.places (set old.places p (after from acts.found)) new.entries new.limit old.limit to_is acts.limit

  known : Known memory p from acts.found old new.entries
  known =
      let P : Lock → Type 0 = λ l. holders l ≤ 1 in
      record {
        there = around.there;
        same = around.same;
        one = around.one;
        one_then = subst P new_is around.one_then;
        own = around.own;
        finds = acts.finds;
        list = acts.list;
      }

  pub acts_legally : IsLegal memory p (decision from) onward old new
  acts_legally =
      let P : Next → Lock → Type 0 = λ n l. IsLegal memory p (decision from) n old l in
      let Q : Lock → Type 0 = P (next_of from acts.found) in
      let here : P (next_of from acts.found) new = subst Q (sym new_is) (legal memory p from acts.found old new.entries known) in
      let R : Next → Type 0 = λ n. P n new in
      subst R (sym acts.next_is) here

  -- a party at an entrance has the lock after it exactly if it was free
  abbrev IsEntered : Type 0
  IsEntered = (holder_of new ≡ Some p) ↔ ((holders old ≡ 0) × (starved old ≡ 0))

  now_holds : holds (place_at new.places p) ≡ holds (after from acts.found)
  now_holds = ap holds (rw to_is (get_or-set_same old.places p (after from acts.found) Out around.there))

  pub enters : (at : Place) → (f : Found) → Finds memory (action_of at) f old → (at ≡ Enter) ⊎ (at ≡ Try) → (holds (after at f) ≡ 1) ↔ ((holders old ≡ 0) × (starved old ≡ 0))
  enters Enter Free e h = ((λ t. (e.0, e.1)), (λ t. refl))
  enters Enter (Held b) e h = ((λ t. absurd (omega arith)), (λ t. absurd (omega (arith, e.0, t.0))))
  enters Enter SomeStarved e h = ((λ t. absurd (omega arith)), (λ t. absurd (omega (arith, t.1))))
  enters Enter _ e h = absurd e
  enters Try Free e h = ((λ t. (e.0, e.1)), (λ t. refl))
  enters Try (Held b) e h = ((λ t. absurd (omega arith)), (λ t. absurd (omega (arith, e.0, t.0))))
  enters Try SomeStarved e h = ((λ t. absurd (omega arith)), (λ t. absurd (omega (arith, t.1))))
  enters Try _ e h = absurd e
  enters _ f e h = absurd (elim h as (λ _. ⊥) [ inl e ↦ cc | inr e ↦ cc ])

  pub entered : (from ≡ Enter) ⊎ (from ≡ Try) → IsEntered
  entered h =
      let way = enters from acts.found acts.finds h in (
        (λ held. way.0 (sym now_holds ∙ sees.is_held_by new.places p held)),
        (λ free. sees.holds_it new.places p around.one_then (now_holds ∙ way.1 free)),
      )

-- ---- where calls begin

begun_at : (a b : Place) → Some a ≡ Some b → b ≡ a
begun_at a b e = sym (some_eq e)

pub begins_decided : (c : LockCall) (here from : Place) → start_of c here ≡ Some from → decision from ≡ decided_by c
begins_decided LockCall.Lock Out from e = ap decision (begun_at _ _ e)
begins_decided LockCall.Lock _ from e = absurd (none_some e)
begins_decided LockCall.Try Out from e = ap decision (begun_at _ _ e)
begins_decided LockCall.Try _ from e = absurd (none_some e)
begins_decided LockCall.Poll Out from e = ap decision (begun_at _ _ e)
begins_decided LockCall.Poll Ask from e = ap decision (begun_at _ _ e)
begins_decided LockCall.Poll AskStarved from e = ap decision (begun_at _ _ e)
begins_decided LockCall.Poll _ from e = absurd (none_some e)
begins_decided LockCall.Release Holding from e = ap decision (begun_at _ _ e)
begins_decided LockCall.Release _ from e = absurd (none_some e)
begins_decided LockCall.Cancel Out from e = ap decision (begun_at _ _ e)
begins_decided LockCall.Cancel Ask from e = ap decision (begun_at _ _ e)
begins_decided LockCall.Cancel AskStarved from e = ap decision (begun_at _ _ e)
begins_decided LockCall.Cancel _ from e = absurd (none_some e)

not_fresh : (n : ℕ) → n ≡ 1 → (n == 0) ≡ true → ⊥
not_fresh n e h = grind (arith, nat_tests)

pub begins_fresh : (c : LockCall) (here from : Place) (n : ℕ) → n ≡ listed here → start_of c here ≡ Some from → is_fresh c n ≡ true → (from ≡ Enter) ⊎ (from ≡ Try)
begins_fresh LockCall.Lock Out from n l e h = inl (begun_at _ _ e)
begins_fresh LockCall.Lock _ from n l e h = absurd (none_some e)
begins_fresh LockCall.Try Out from n l e h = inr (begun_at _ _ e)
begins_fresh LockCall.Try _ from n l e h = absurd (none_some e)
begins_fresh LockCall.Poll Out from n l e h = inl (begun_at _ _ e)
begins_fresh LockCall.Poll Ask from n l e h = absurd (not_fresh n l h)
begins_fresh LockCall.Poll AskStarved from n l e h = absurd (not_fresh n l h)
begins_fresh LockCall.Poll _ from n l e h = absurd (cc)
begins_fresh LockCall.Release _ from n l e h = absurd (cc)
begins_fresh LockCall.Cancel _ from n l e h = absurd (cc)
