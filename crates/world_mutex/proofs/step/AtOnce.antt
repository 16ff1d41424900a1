-- What the first step of a try and of a first poll answers at once.
use Rattle.world_mutex.proofs.Prelude.{is_none, ◌≡◌, ℕ, ◌+◌, ◌&&◌, ◌||◌, ◌==◌, ◌⊎◌, ◌↔◌, inl, inr, if◌then◌else◌, Bool, true, false, List, map, Option, Some, None, refl, arith, ap, sym, ◌∙◌, subst, get_or-set_same, false≢true, true≢false, nat_tests, set, map-set_same, sum_by-set, sum_by, Entry, is_marked_at, is_party, entries_of, Answer, Value, Move, Rest, Stage, Outside, Inside, Forgotten, Within, how_many, inside, inputs_of, changes, asked, stage_at, stands_as, Table, outside_stage, Action, Found, Free, Held, SomeStarved, Yes, No, Place, Out, Enter, Try, Clear, Ask, AskStarved, ReleaseNotify, Finds, holders, starved, Lock, SameRoles, place_at, OnParties, is_holder, is_counted, holder_from, action_of, next_of, place_after, bit, holds, Guarded, place_of, answer_by, is_try_kind, state_after, is_try, is_first_poll, is_later_poll, AnswersAtOnce, World, standing_of, is_free, verdict, view_of, notified, some_eq, none_some, Leave, Uncount, CancelUncount, CancelLeave, RefuseUncount, RefuseLeave, RefuseNotifyMemory, RefuseNotifyStarved, listed, counted, decision, is_starved, answer_on}
use Rattle.world_mutex.proofs.of_machine.legal.Legal.{entered}
use Rattle.world_mutex.proofs.of_machine.laws.Seen as sees
use Rattle.world_mutex.specs.Legal.{takes}
use Rattle.world_mutex.proofs.step.Acting.{Acting}
use Rattle.world_mutex.proofs.step.Acting as acting
use Rattle.world_mutex.proofs.step.Here.{standing_at, same_roles}

free_test : (h : Option ℕ) (n : ℕ) → h ≡ None → n ≡ 0 → is_none h && (n == 0) ≡ true
free_test None n h e = rw e refl
free_test (Some p) n h e = absurd (cc)

free_means : (h : Option ℕ) (n : ℕ) → is_none h && (n == 0) ≡ true → (h ≡ None) × (n ≡ 0)
free_means None n t = (refl, grind (arith, nat_tests))
free_means (Some p) n t = absurd (cc)

-- a look at a free lock takes it
module _ (memory : Bool) (l : Lock) (v : ℕ) (free : Bool) (is : (holders l ≡ 0) → (starved l ≡ 0) → free ≡ true) (means : free ≡ true → (holders l ≡ 0) × (starved l ≡ 0)) where
  ready_now : (f : Found) → Finds memory Action.Take f l → answer_by false v (next_of Enter f) ≡ (if free then Answer.Ready (Value v) else Answer.Stepped)
  ready_now Free e = rw (is e.0 e.1) refl
  ready_now (Held b) e = held free refl where
    held : (c : Bool) → free ≡ c → Answer.Stepped ≡ (if c then Answer.Ready (Value v) else Answer.Stepped)
    held true h = let m = means h in absurd (omega (arith, e.0, m.0))
    held false h = refl
  ready_now SomeStarved e = some free refl where
    some : (c : Bool) → free ≡ c → Answer.Stepped ≡ (if c then Answer.Ready (Value v) else Answer.Stepped)
    some true h = let m = means h in absurd (omega (arith, m.1))
    some false h = refl
  ready_now _ e = absurd e

  tried_now : (f : Found) → Finds memory Action.Take f l → answer_by true v (next_of Try f) ≡ (if free then Answer.Granted (Value v) else Answer.None)
  tried_now Free e = rw (is e.0 e.1) refl
  tried_now (Held b) e = held free refl where
    held : (c : Bool) → free ≡ c → Answer.None ≡ (if c then Answer.Granted (Value v) else Answer.None)
    held true h = let m = means h in absurd (omega (arith, e.0, m.0))
    held false h = refl
  tried_now SomeStarved e = some free refl where
    some : (c : Bool) → free ≡ c → Answer.None ≡ (if c then Answer.Granted (Value v) else Answer.None)
    some true h = let m = means h in absurd (omega (arith, m.1))
    some false h = refl
  tried_now _ e = absurd e

-- ---- what the first step leaves

-- at an entrance nobody is counted as starved
abbrev IsEntrance : Place → Type 0
IsEntrance y = (y ≡ Enter) ⊎ (y ≡ Try)

entrance_counts : (y : Place) (f : Found) → IsEntrance y → is_counted (place_after y (next_of y f)) ≡ is_counted y
entrance_counts Enter Free h = refl
entrance_counts Enter _ h = refl
entrance_counts Try Free h = refl
entrance_counts Try _ h = refl
entrance_counts _ f h = absurd (elim h as (λ _. ⊥) [ inl e ↦ cc | inr e ↦ cc ])

entrance_holds : (y : Place) → IsEntrance y → is_holder y ≡ false
entrance_holds Enter h = refl
entrance_holds Try h = refl
entrance_holds _ h = absurd (elim h as (λ _. ⊥) [ inl e ↦ cc | inr e ↦ cc ])

entrance_list : (p : ℕ) (y : Place) (f : Found) (es ms : List (Entry ℕ)) → IsEntrance y → OnParties p (action_of y) f es ms → ms ≡ es
entrance_list p Enter f es ms h o = o
entrance_list p Try f es ms h o = o
entrance_list p _ f es ms h o = absurd (elim h as (λ _. ⊥) [ inl e ↦ cc | inr e ↦ cc ])

-- a poll that asks goes on if its party was notified, and changes the list alone
record Asked (p v : ℕ) (y : Place) (f : Found) (es ms : List (Entry ℕ)) : Type 0 where
  pub answer : answer_by false v (next_of y f) ≡ (if is_marked_at (is_party p) es then Answer.Stepped else Answer.Pending)
  pub entries : ms ≡ asked p es
  pub holds : is_holder (place_after y (next_of y f)) ≡ is_holder y
  pub counts : is_counted (place_after y (next_of y f)) ≡ is_counted y

asks_so : (p v : ℕ) (memory : Bool) (l : Lock) (y : Place) (f : Found) (es ms : List (Entry ℕ)) → (y ≡ Ask) ⊎ (y ≡ AskStarved) → Finds memory (action_of y) f l → OnParties p (action_of y) f es ms → Asked p v y f es ms
asks_so p v memory l Ask Yes es ms h e o = record { answer = rw o.0 refl; entries = rw o.0 o.1; holds = refl; counts = refl }
asks_so p v memory l Ask No es ms h e o = record { answer = rw o.0 refl; entries = rw o.0 o.1; holds = refl; counts = refl }
asks_so p v memory l Ask _ es ms h e o = absurd e
asks_so p v memory l AskStarved Yes es ms h e o = record { answer = rw o.0 refl; entries = rw o.0 o.1; holds = refl; counts = refl }
asks_so p v memory l AskStarved No es ms h e o = record { answer = rw o.0 refl; entries = rw o.0 o.1; holds = refl; counts = refl }
asks_so p v memory l AskStarved _ es ms h e o = absurd e
asks_so p v memory l _ f es ms h e o = absurd (elim h as (λ _. ⊥) [ inl e ↦ cc | inr e ↦ cc ])

not_true : (b : Bool) → (b ≡ true → ⊥) → b ≡ false
not_true true h = absurd (h refl)
not_true false h = refl

inside_at : (s : Stage) (d : Option Answer) (u : Within) (e : Option Answer) → stands_as d s ≡ inside u e → s ≡ Inside u
inside_at (Outside r) d u e h = absurd (cc h)
inside_at (Inside v) d u e h = cc h
inside_at Forgotten d u e h = absurd (cc h)

module _ (t u : Table Guarded) (m : Move) (a : Answer) (w : Within) (k : Acting t u m a w) where
  abbrev p : ℕ
  p = m.party

  abbrev g : Guarded
  g = t.machine

  abbrev old : World
  old = view_of t

  abbrev new : World
  new = view_of u

  abbrev f : Found
  f = k.carries.carried.acts.found

  free_is : holders g.lock ≡ 0 → starved g.lock ≡ 0 → is_free old.state ≡ true
  free_is h s = free_test old.state.holder (how_many old.state.starved) (sees.none_held 0 g.lock.places h) (sees.how_many_counted g.lock.places ∙ s)

  free_says : is_free old.state ≡ true → (holders g.lock ≡ 0) × (starved g.lock ≡ 0)
  free_says t = let m = free_means old.state.holder (how_many old.state.starved) t in (sees.none_holds 0 g.lock.places m.0, sym (sees.how_many_counted g.lock.places) ∙ m.1)

  -- the answer, from this place and of a try or not
  answered : (y : Place) (b : Bool) → k.carries.from ≡ y → is_try_kind w.kind ≡ b → a ≡ answer_by b g.value (next_of y f)
  answered y b from trying = k.carries.answer ∙ (ap (λ c. answer_by c g.value k.carries.next) trying ∙ (ap (answer_by b g.value) k.carries.carried.acts.next_is ∙ ap (λ z. answer_by b g.value (next_of z f)) from))

  finds : (y : Place) → k.carries.from ≡ y → Finds (inputs_of m.what).memory (action_of y) f g.lock
  finds y from = let P : Place → Type 0 = λ z. Finds (inputs_of m.what).memory (action_of z) f g.lock in subst P from k.carries.carried.acts.finds

  pub first_here : is_first_poll (standing_of old p) m.what (entries_of p old.entries) ≡ true → (k.carries.from ≡ Enter) × (is_try_kind w.kind ≡ false)
  first_here first = k.here.first g.value (entries_of p old.entries) (ap (λ z. is_first_poll z m.what (entries_of p old.entries)) (sym (acting.stood t u m a w k)) ∙ first) (k.old_laws.owners p)

  abbrev from : Place
  from = k.carries.from

  abbrev s : Stage
  s = stage_at t.stages p

  on_list : (y : Place) → from ≡ y → OnParties p (action_of y) f old.entries new.entries
  on_list y at = let P : Place → Type 0 = λ z. OnParties p (action_of z) f g.lock.entries u.machine.lock.entries in subst P at k.carries.carried.acts.list

  places : (y : Place) → from ≡ y → u.machine.lock.places ≡ set g.lock.places p (place_after y (next_of y f))
  places y at = k.carries.carried.acts.places ∙ (ap (λ x. set g.lock.places p (place_after from x)) k.carries.carried.acts.next_is ∙ ap (λ z. set g.lock.places p (place_after z (next_of z f))) at)

  -- its party has as much at its place as where it stood
  same : SameRoles from (place_of g p)
  same = same_roles s w (place_of g p) from k.here.begins

  holds_here : (y : Place) → from ≡ y → is_holder y ≡ is_holder (place_of g p)
  holds_here y at = ap is_holder (sym at) ∙ ap (λ (n : ℕ). n == 1) same.holding

  counts_here : (y : Place) → from ≡ y → is_counted y ≡ is_counted (place_of g p)
  counts_here y at = ap is_counted (sym at) ∙ ap (λ (n : ℕ). n == 1) same.starving

  same_holder : (y : Place) → from ≡ y → is_holder (place_after y (next_of y f)) ≡ is_holder y → new.state.holder ≡ old.state.holder
  same_holder y at h = ap (holder_from 0) (places y at) ∙ sees.same_holder 0 g.lock.places p (place_after y (next_of y f)) (h ∙ holds_here y at)

  same_starved : (y : Place) → from ≡ y → is_counted (place_after y (next_of y f)) ≡ is_counted y → new.state.starved ≡ old.state.starved
  same_starved y at h = ap (map is_counted) (places y at) ∙ map-set_same is_counted g.lock.places p (place_after y (next_of y f)) Out (h ∙ counts_here y at)

  goes : (y : Place) → from ≡ y → IsEntrance y → (new.state.holder ≡ Some p) ↔ ((holders g.lock ≡ 0) × (starved g.lock ≡ 0))
  goes y at h =
      let P : Place → Type 0 = IsEntrance in
      entered (inputs_of m.what).memory p from k.carries.next g.lock u.machine.lock
      (record { there = acting.there t u m a w k; same = same; one = k.old_laws.one_holder; one_then = k.new_laws.one_holder; own = k.old_laws.owners p })
      k.carries.carried.acts (subst P (sym at) h)

  lands : (y : Place) → from ≡ y → place_of u.machine p ≡ place_after y (next_of y f)
  lands y at = ap (λ ps. place_at ps p) (places y at) ∙ get_or-set_same g.lock.places p (place_after y (next_of y f)) Out (acting.there t u m a w k)

  looked : (y : Place) → from ≡ y → IsEntrance y → (b : Bool) → is_free old.state ≡ b → new.state ≡ (if b then state_after p (changes takes) old.state else old.state)
  looked y at h true free = acting.made _ _ _ _ _ _ ((goes y at h).1 (free_says free)) (same_starved y at (entrance_counts y f h)) k.carries.carried.value
  looked y at h false free =
      let out : is_holder (place_after y (next_of y f)) ≡ false = not_true (is_holder (place_after y (next_of y f))) (λ one.
      let holds_it : holds (place_of u.machine p) ≡ 1 = ap holds (lands y at) ∙ (sym (sees.holds_bit (place_after y (next_of y f))) ∙ ap bit one) in
      let so = (goes y at h).0 (sees.holds_it u.machine.lock.places p k.new_laws.one_holder holds_it) in
      true≢false (sym (free_is so.0 so.1) ∙ free)) in
      acting.made _ _ _ _ _ _ (same_holder y at (out ∙ sym (entrance_holds y h))) (same_starved y at (entrance_counts y f h)) k.carries.carried.value

  abbrev Looked : Type 0
  Looked = (new.state ≡ (if is_free old.state then state_after p (changes takes) old.state else old.state)) × (new.entries ≡ old.entries)

  looks_at : (y : Place) → from ≡ y → IsEntrance y → Looked
  looks_at y at h = (looked y at h (is_free old.state) refl, entrance_list p y f old.entries new.entries h (on_list y at))

  looks : (b c : Bool) → is_try m.what ≡ b → is_first_poll (standing_of old p) m.what (entries_of p old.entries) ≡ c → b || c ≡ true → Looked
  looks true c tries first h = looks_at Try (k.here.tries tries).0 (inr refl)
  looks false true tries first h = looks_at Enter (first_here first).0 (inl refl)
  looks false false tries first h = absurd (false≢true h)

  listed_at : (y : Place) → from ≡ y → (y ≡ Ask) ⊎ (y ≡ AskStarved) → is_try_kind w.kind ≡ false
      → (a ≡ (if is_marked_at (is_party p) old.entries then Answer.Stepped else Answer.Pending)) × (new.state ≡ old.state) × (new.entries ≡ asked p old.entries)
  listed_at y at h trying =
      let so = asks_so p g.value (inputs_of m.what).memory g.lock y f old.entries new.entries h (finds y at) (on_list y at) in (
        answered y false at trying ∙ so.answer,
        acting.made _ _ _ _ _ _ (same_holder y at so.holds) (same_starved y at so.counts) k.carries.carried.value,
        so.entries,
      )

  -- nobody holds the lock that its holder gave back
  none_then : from ≡ Clear → new.state.holder ≡ None
  none_then at =
      let sum : sum_by holds (set g.lock.places p ReleaseNotify) + holds (place_of g p) ≡ holders g.lock + holds ReleaseNotify = sum_by-set holds g.lock.places p ReleaseNotify Out (acting.there t u m a w k) in
      let had : holds (place_of g p) ≡ 1 = sym same.holding ∙ ap holds at in
      ap (holder_from 0) (places Clear at) ∙ sees.none_held 0 (set g.lock.places p ReleaseNotify) (omega (arith, sum, had, k.old_laws.one_holder))

  -- where a refused party notifies
  refuses_so : (within : Within) (r : ℕ) → standing_of old p ≡ inside within (Some (Answer.Refused r)) → entries_of p old.entries ≡ 0 → is_starved old.state p ≡ false → (a ≡ Answer.Refused r) × (new.entries ≡ notified old.entries 1)
  refuses_so within r at none plain =
      let here : standing_at g.value s (place_of g p) ≡ inside within (Some (Answer.Refused r)) = sym (acting.stood t u m a w k) ∙ at in
      let decided : answer_on g.value (decision from) ≡ Some (Answer.Refused r) = (k.here.kept g.value within (Answer.Refused r) here).0 in
      let unlisted : listed from ≡ 0 = same.standing ∙ (sym (k.old_laws.owners p) ∙ none) in
      let counted_not : is_counted (place_of g p) ≡ false = sym (sees.starved_at g.lock.places p) ∙ plain in
      let plain_there : counted from ≡ 0 = same.starving ∙ (sym (sees.counted_bit (place_of g p)) ∙ ap bit counted_not) in
      refused_at from f refl (answered from (is_try_kind w.kind) refl refl) (on_list from refl) decided unlisted plain_there
    where
      refused_at : (y : Place) (f : Found) → y ≡ y → a ≡ answer_by (is_try_kind w.kind) g.value (next_of y f) → OnParties p (action_of y) f old.entries new.entries → answer_on g.value (decision y) ≡ Some (Answer.Refused r) → listed y ≡ 0 → counted y ≡ 0
          → (a ≡ Answer.Refused r) × (new.entries ≡ notified old.entries 1)
      refused_at RefuseNotifyMemory f same said on d l c = (said ∙ some_eq d, on)
      refused_at RefuseNotifyStarved f same said on d l c = (said ∙ some_eq d, on)
      refused_at RefuseUncount f same said on d l c = absurd (omega (arith, c))
      refused_at (RefuseLeave told) f same said on d l c = absurd (omega (arith, l))
      refused_at Out f same said on d l c = absurd (cc d)
      refused_at Leave f same said on d l c = absurd (cc d)
      refused_at (Uncount b) f same said on d l c = absurd (cc d)
      refused_at Clear f same said on d l c = absurd (cc d)
      refused_at ReleaseNotify f same said on d l c = absurd (cc d)
      refused_at CancelUncount f same said on d l c = absurd (cc d)
      refused_at CancelLeave f same said on d l c = absurd (cc d)
      refused_at _ f same said on d l c = absurd (none_some d)

  pub at_once : AnswersAtOnce old m a new
  at_once = record {
    at_once = λ tries possible. (let at = k.here.tries tries in answered Try true at.0 at.1 ∙ tried_now (inputs_of m.what).memory g.lock g.value (is_free old.state) free_is free_says f (finds Try at.0));
    ready = λ first. (let at = first_here first in answered Enter false at.0 at.1 ∙ ready_now (inputs_of m.what).memory g.lock g.value (is_free old.state) free_is free_says f (finds Enter at.0));
    first_poll = λ first.
        let both = goes Enter (first_here first).0 (inl refl) in
        ((λ held. let so = both.0 held in free_is so.0 so.1), (λ free. both.1 (free_says free)));
    looks = λ which possible. looks (is_try m.what) (is_first_poll (standing_of old p) m.what (entries_of p old.entries)) refl refl which;
    listed = λ later some.
        let seen : is_later_poll (standing_at g.value s (place_of g p)) m.what ≡ true = ap (λ z. is_later_poll z m.what) (sym (acting.stood t u m a w k)) ∙ later in
        let at = k.here.polls g.value seen (omega (arith, some, k.old_laws.owners p)) in
        listed_at from refl at.0 at.1;
    released = λ drops holding.
        let at = k.here.releases drops (outside_stage (verdict g p) s Rest.Holding (sym (acting.stood t u m a w k) ∙ holding)) in (
          answered Clear false at.0 at.1,
          acting.made _ _ _ _ _ _ (none_then at.0) (same_starved Clear at.0 refl) k.carries.carried.value,
        );
    abandons = λ drops pending some plain.
        let counted_not : is_counted (place_of g p) ≡ false = sym (sees.starved_at g.lock.places p) ∙ plain in
        let at = k.here.cancels drops (outside_stage (verdict g p) s Rest.Pending (sym (acting.stood t u m a w k) ∙ pending)) (omega (arith, some, k.old_laws.owners p)) (sym (sees.counted_bit (place_of g p)) ∙ ap bit counted_not) in (
          answered CancelLeave false at.0 at.1,
          acting.made _ _ _ _ _ _ (same_holder CancelLeave at.0 refl) (same_starved CancelLeave at.0 refl) k.carries.carried.value,
          on_list CancelLeave at.0,
        );
    notifies = λ telling possible.
        let at = k.here.tells (inside_at s (verdict g p) _ _ (sym (acting.stood t u m a w k) ∙ telling)) in
        (answered ReleaseNotify false at.0 at.1, on_list ReleaseNotify at.0);
    refuses = λ within r at none plain possible. refuses_so within r at none plain;
  }
