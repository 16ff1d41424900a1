-- What each place's step in the inner lock does, by what it comes to there.
use Rattle.world_barrier.proofs.Prelude.{◌≡◌, ◌≢◌, ℕ, ◌+◌, ◌||◌, ◌⊎◌, inl, inr, Bool, true, false, List, Option, Some, None, is_some, refl, arith, ap, sym, ◌∙◌, subst, entries_of, Answer, Move, Refusal, Within, is_refusal, refused, Effect, nothing, changes, does, joins, asks, leaves, notifies, notifies_additionally, some_eq, none_some, Table, Course, holds, starved_there, decision, is_holding, is_releasing, Takes, Releases, End, LockStep as Step, holders, starved, holder_of, starved_of, IsLegal, IsReason, decided_then, MayDo, IsPolls, holding_holds, releasing_free, Aim, Ending, Found, Next, Made, Words, arrivals_at, position_after, after_lock, after_cancel, after_release, released, with_lock, Wait, no_wait, wait_for, wait_until, wait_at, refused_by, verdict_until, Barrier, IsBarrier, answer_by, ListName, Lock, Generation, LockState, World, list_in, wait_of, is_held_by, is_starved, Change, takes, releases, lock_after, lock_list_after, gives_back, gives_up, IsAllowed, ◌<◌, IsUndecided, listed_there, may_tell, taking as polling, releasing, undecided, called, counting, has_lock, giving_up, standing_of}
use Rattle.std.proofs.Math.Bool.{or-true}
use Rattle.world_mutex.specs.machine.Effects as mutex
use Rattle.world_mutex.specs.machine.Mutex.{is_counted}
use Rattle.world_mutex.proofs.of_machine.callers.Holders as sees
use Rattle.world_mutex.proofs.of_machine.callers.Rosters.{is_zero}
use Rattle.lock_program.specs.declared.end.Next.TheVariants as next
use Rattle.world_barrier.proofs.table.Seen.{its_holder}
use Rattle.world_barrier.proofs.step.Turns as turns
use Rattle.world_barrier.proofs.step.Turns.{said}
use Rattle.world_barrier.proofs.step.Locks.{ends, effect_of, lock_then, entries_then, IsOfLock, is_of_lock, gives_back_so, gives_up_so, joins_so, leaves_none, releasing_unstarved, releasing_unlisted}

-- ---- what is told by where a step leads

taken_wait : (a : Aim) (s : Step) (n : ℕ) → wait_at (position_after (after_lock a (Found.Lock s))) n ≡ ends (answer_by (after_lock a (Found.Lock s))) (wait_for a n)
taken_wait a Step.More n = refl
taken_wait Aim.Arrive (Step.End End.Got) n = refl
taken_wait Aim.Check (Step.End End.Got) n = refl
taken_wait a (Step.End (End.Refused r)) n = refl
taken_wait a (Step.End _) n = refl

released_wait : (e : Ending) (n : ℕ) → wait_at (position_after (released e)) n ≡ ends (answer_by (released e)) (wait_until e n)
released_wait Ending.Wait n = refl
released_wait Ending.Follow n = refl
released_wait Ending.Lead n = refl
released_wait Ending.RefuseGenerations n = refl
released_wait (Ending.RefuseMemory a) n = refl

release_wait : (e : Ending) (s : Step) (n : ℕ) → wait_at (position_after (after_release e (Found.Lock s))) n ≡ ends (answer_by (after_release e (Found.Lock s))) (wait_until e n)
release_wait e Step.More n = refl
release_wait e (Step.End x) n = released_wait e n

cancel_wait : (s : Step) (n : ℕ) → wait_at (position_after (after_cancel (Found.Lock s))) n ≡ ends (answer_by (after_cancel (Found.Lock s))) no_wait
cancel_wait Step.More n = refl
cancel_wait (Step.End x) n = refl

-- who may notify in the inner lock's list hasn't the lock, and stands there only while it is starved
tells_free : (c : Course) → may_tell c ≡ true → holds c ≡ 0
tells_free (polling has_lock a b d) h = absurd (cc h)
tells_free (polling _ a b d) h = refl
tells_free releasing h = refl
tells_free _ h = absurd (cc h)

tells_starved : (c : Course) → may_tell c ≡ true → 0 < listed_there c → starved_there c ≡ 1
tells_starved (polling undecided true true d) h some = refl
tells_starved (polling undecided true false d) h some = absurd (cc h)
tells_starved (polling undecided false b d) h some = absurd (cc h)
tells_starved (polling counting a true d) h some = absurd (cc h)
tells_starved (polling counting a false d) h some = absurd (omega arith)
tells_starved (polling (giving_up r) a true d) h some = absurd (cc h)
tells_starved (polling (giving_up r) a false d) h some = absurd (omega arith)
tells_starved (polling called a b d) h some = absurd (cc h)
tells_starved (polling has_lock a b d) h some = absurd (cc h)
tells_starved releasing h some = absurd (omega arith)
tells_starved _ h some = absurd (cc h)

abbrev Clear : Next → Type 0
Clear n = is_refusal (answer_by n) ≡ true → (for : Aim) × (position_after n ≡ Made for)

taken_clear : (a : Aim) (s : Step) → Clear (after_lock a (Found.Lock s))
taken_clear a Step.More h = absurd (cc h)
taken_clear Aim.Arrive (Step.End End.Got) h = absurd (cc h)
taken_clear Aim.Check (Step.End End.Got) h = absurd (cc h)
taken_clear a (Step.End (End.Refused r)) h = (a, refl)
taken_clear a (Step.End _) h = absurd (cc h)

released_clear : (e : Ending) → Clear (released e)
released_clear Ending.Wait h = absurd (cc h)
released_clear Ending.Follow h = absurd (cc h)
released_clear Ending.Lead h = absurd (cc h)
released_clear Ending.RefuseGenerations h = (Aim.Arrive, refl)
released_clear (Ending.RefuseMemory a) h = (a, refl)

release_clear : (e : Ending) (s : Step) → Clear (after_release e (Found.Lock s))
release_clear e Step.More h = absurd (cc h)
release_clear e (Step.End x) h = released_clear e h

cancel_clear : (s : Step) → Clear (after_cancel (Found.Lock s))
cancel_clear Step.More h = absurd (cc h)
cancel_clear (Step.End x) h = absurd (cc h)

abbrev NotOver : Next → Type 0
NotOver n = answer_by n ≢ refused Refusal.Finished

six : (n : ℕ) → Answer.Refused n ≡ refused Refusal.Finished → n ≡ 6
six n e = cc

taken_over : (a : Aim) (s : Step) (to : Course) → Takes s to → NotOver (after_lock a (Found.Lock s))
taken_over a Step.More to t e = cc e
taken_over Aim.Arrive (Step.End End.Got) to t e = cc e
taken_over Aim.Check (Step.End End.Got) to t e = cc e
taken_over a (Step.End (End.Refused Refusal.Memory)) to t e = let f : Path ℕ 1 6 = six 1 e in omega (arith, f)
taken_over a (Step.End (End.Refused Refusal.Starved)) to t e = let f : Path ℕ 2 6 = six 2 e in omega (arith, f)
taken_over a (Step.End End.Pending) to t e = cc e
taken_over a (Step.End _) to t e = absurd t

released_over : (e : Ending) → NotOver (released e)
released_over Ending.Wait h = cc h
released_over Ending.Follow h = cc h
released_over Ending.Lead h = cc h
released_over Ending.RefuseGenerations h = let f : Path ℕ 5 6 = six 5 h in omega (arith, f)
released_over (Ending.RefuseMemory a) h = let f : Path ℕ 1 6 = six 1 h in omega (arith, f)

release_over : (e : Ending) (s : Step) → NotOver (after_release e (Found.Lock s))
release_over e Step.More h = cc h
release_over e (Step.End x) h = released_over e h

cancel_over : (s : Step) → NotOver (after_cancel (Found.Lock s))
cancel_over Step.More h = cc h
cancel_over (Step.End x) h = cc h

released_said : (e : Ending) (c : Course) → said (released e) c ≡ verdict_until e
released_said Ending.Wait c = refl
released_said Ending.Follow c = refl
released_said Ending.Lead c = refl
released_said Ending.RefuseGenerations c = refl
released_said (Ending.RefuseMemory a) c = refl

release_said : (e : Ending) (s : Step) (c : Course) → said (after_release e (Found.Lock s)) c ≡ verdict_until e
release_said e Step.More c = refl
release_said e (Step.End x) c = released_said e c

cancel_said : (s : Step) (c : Course) → said (after_cancel (Found.Lock s)) c ≡ Some Answer.GivenBack
cancel_said Step.More c = refl
cancel_said (Step.End x) c = refl

same_state : (h l : Option ℕ) (a b : List Bool) → h ≡ l → a ≡ b → Path LockState (record { holder = h; starved = a }) (record { holder = l; starved = b })
same_state h l a b e f = cc

module _ (t u : Table Barrier) (m : Move) (w : Within) (laws : IsBarrier t.machine) where
  abbrev p : ℕ
  p = m.party

  abbrev c : Course
  c = turns.c t u m w

  abbrev d : Course
  d = turns.d t u m w

  abbrev old : World
  old = turns.old t u m w

  abbrev new : World
  new = turns.new t u m w

  abbrev num : ℕ
  num = turns.num t u m w

  abbrev k : ℕ
  k = turns.k t u m w

  abbrev Row : Wait → Option Answer → Next → Bool → Type 0
  Row = turns.Row t u m w

  abbrev Judged : Bool → Option Answer → Option Answer → Type 0
  Judged = turns.Judged t u m w

  abbrev memory : Bool
  memory = (turns.i t u m w).memory

  -- ---- the effect in the inner lock, as one on the barrier

  pub record LockEffect (effect : Effect Change ListName) : Type 0 where
    pub of_lock : IsOfLock effect
    pub allowed : IsAllowed old m effect
    pub lock : new.lock ≡ lock_after p effect old.lock
    pub lock_list : new.lock_list ≡ lock_list_after p effect old.lock_list
    pub memory : (list : ListName) → effect ≡ does list joins → memory ≡ true

  is_starved_so : starved_there c ≡ 1 → is_starved old.lock p ≡ true
  is_starved_so h = sees.starved_at t.machine.lock.courses p ∙ sees.is_one (is_counted c) (sees.counted_bit c ∙ h)

  may_take : holders t.machine.lock ≡ 0 → (starved t.machine.lock ≡ 0) ⊎ (starved_there c ≡ 1) → IsAllowed old m (changes takes)
  may_take none (inl few) = (sees.none_held 0 t.machine.lock.courses none, inl (sees.how_many_counted t.machine.lock.courses ∙ few))
  may_take none (inr own) = (sees.none_held 0 t.machine.lock.courses none, inr (is_starved_so own))

  is_unstarved_so : starved_there c ≡ 0 → is_starved old.lock p ≡ false
  is_unstarved_so h = sees.starved_at t.machine.lock.courses p ∙ is_zero (is_counted c) (sees.counted_bit c ∙ h)

  allowed_so : (x : Effect mutex.Change mutex.ListName) → MayDo p x t.machine.lock → (x ≡ changes mutex.releases → IsAllowed old m (changes releases)) → IsAllowed old m (effect_of x)
  allowed_so nothing may r = tt
  allowed_so (changes mutex.takes) may r = may_take may.0 may.1
  allowed_so (changes mutex.releases) may r = r refl
  allowed_so (changes mutex.starves) may r = (is_unstarved_so may.0, (let n = sees.how_many_counted t.machine.lock.courses in let few = may.1 in omega arith))
  allowed_so (changes mutex.recovers) may r = is_starved_so may
  allowed_so (does mutex.for_the_lock (notifies n)) may r = record {
    one = may.0;
    without_lock = λ h. (let one = sees.is_held_by t.machine.lock.courses p h in let none = tells_free c may.1 in omega arith);
    starved = λ some. is_starved_so (tells_starved c may.1 (let own = laws.lock.owners p in omega arith));
  }
  allowed_so (does mutex.for_the_lock (notifies_additionally n)) may r = may
  allowed_so (does mutex.for_the_lock joins) may r = tt
  allowed_so (does mutex.for_the_lock asks) may r = tt
  allowed_so (does mutex.for_the_lock leaves) may r = tt

  module _ (decided : Option End) (s : Step) (l : IsLegal memory p decided s t.machine.lock u.machine.lock) where
    pub lock_effect : (l.effect ≡ changes mutex.releases → IsAllowed old m (changes releases)) → LockEffect (effect_of l.effect)
    lock_effect r = record {
      of_lock = is_of_lock l.effect;
      allowed = allowed_so l.effect l.allowed r;
      lock = same_state _ _ _ _ l.holder l.starved ∙ lock_then p l.effect (holder_of t.machine.lock) (starved_of t.machine.lock);
      lock_list = l.entries ∙ entries_then p l.effect t.machine.lock.entries;
      memory = λ list e. l.found_memory mutex.for_the_lock (joins_so l.effect list e);
    }

  -- a row from it, where nothing else is done
  module _ (still : u.machine.words ≡ t.machine.words) (unlisted : u.machine.entries ≡ t.machine.entries) where
    same_arrivals : new.arrivals ≡ old.arrivals
    same_arrivals = ap (λ (v : Words). arrivals_at v.size v.progress) still

    never_more : new.arrivals ≡ k + 1 → ⊥
    never_more e = let a : new.arrivals ≡ k = same_arrivals in omega arith

    pub record Told (effect : Effect Change ListName) (b : Wait) (v : Option Answer) (n : Next) (starts : Bool) : Type 0 where
      pub wait : wait_of new p ≡ ends (answer_by n) b
      pub parting : is_some v ≡ true → gives_back effect ≡ true
      pub giving_up : gives_up effect ≡ true → is_some v || is_held_by old.lock.holder p ≡ true
      pub judged : Judged starts v (said n d)
      pub clear : Clear n
      pub not_over : NotOver n

    pub row_of : (effect : Effect Change ListName) (b : Wait) (v : Option Answer) (n : Next) (starts : Bool) → LockEffect effect → Told effect b v n starts → Row b v n starts
    row_of effect b v n starts g x = record {
      effect = effect;
      allowed = g.allowed;
      lock = g.lock;
      arrivals = same_arrivals ∙ sym (g.of_lock.arrivals old.arrivals);
      lock_list = g.lock_list;
      list = unlisted ∙ sym (g.of_lock.list p old.list);
      wait = x.wait ∙ sym (g.of_lock.ends k (answer_by n) b);
      memory = g.memory;
      parting = x.parting;
      giving_up = x.giving_up;
      judged = x.judged;
      led = λ e leads. absurd (never_more e);
      clear = x.clear;
      not_over = x.not_over;
    }

    -- ---- a poll on the inner lock

    module _ (a : Aim) (starts : Bool) where
      why : (r : Refusal) → IsReason memory p t.machine.lock u.machine.lock (End.Refused r) → (old.lock.holder ≡ Some p → ⊥) → entries_of p t.machine.entries ≡ 0 → starts ≡ false → wait_of new p ≡ wait_of old p → IsUndecided (standing_of old p) → turns.Reason t u m w starts (refused r)
      why Refusal.Memory y free none at wait midway = (
        (Refusal.Memory, refl, record { input = y.0; needed = λ h. absurd (free h); unlisted = lists; unchanged = record { arrivals = same_arrivals; lock = same_state _ _ _ _ y.3 y.4; lists = kept; wait = wait } }),
        at,
        λ e. absurd (omega (arith, e)),
      ) where
        lists : (list : ListName) → entries_of p (list_in list old) ≡ 0
        lists Lock = y.1
        lists Generation = none

        kept : (list : ListName) → list_in list new ≡ list_in list old
        kept Lock = y.2
        kept Generation = unlisted
      why Refusal.Starved y free none at wait midway = (
        (
          Refusal.Starved,
          refl,
          record {
            limit = sees.how_many_counted t.machine.lock.courses ∙ y.0;
            without_lock = free;
            unstarved = is_unstarved_so y.1;
            undecided = midway;
            unchanged = record { arrivals = same_arrivals; lock = same_state _ _ _ _ y.3 y.4; lists = kept; wait = wait };
          },
        ),
        at,
        λ e. y.5,
      ) where
        kept : (list : ListName) → list_in list new ≡ list_in list old
        kept Lock = y.2
        kept Generation = unlisted
      why _ y free none at wait midway = absurd y

      -- what a decision of the poll on the inner lock says of the wait
      abbrev Because : End → Type 0
      Because End.Pending = turns.Reason t u m w starts Answer.Pending
      Because (End.Refused r) = turns.Reason t u m w starts (refused r)
      Because _ = Unit {0}

      more : (o : Option End) → ((e : End) → o ≡ Some e → Because e) → Judged starts None (refused_by o)
      more None f = tt
      more (Some (End.Refused r)) f = f (End.Refused r) refl
      more (Some _) f = tt

      got_so : (b : Aim) → Judged starts None (said (next.Do (with_lock b)) d)
      got_so Aim.Arrive = tt
      got_so Aim.Check = tt

      unpolled : {A : Type 0} (e : End) → IsPolls (Some e) → (e ≡ End.Got → ⊥) → ((r : Refusal) → e ≡ End.Refused r → ⊥) → A
      unpolled e (inl h) f g = absurd (none_some (sym h))
      unpolled e (inr (inl h)) f g = absurd (f (some_eq h))
      unpolled e (inr (inr h)) f g = absurd (g h.0 (some_eq h.1))

      judge : (o : Option End) (s : Step) → Takes s d → ((e : End) → o ≡ Some e → decided_then s d ≡ Some e) → IsPolls o → ((e : End) → o ≡ None → decided_then s d ≡ Some e → Because e) → Judged starts (refused_by o) (said (after_lock a (Found.Lock s)) d)
      judge None Step.More h k q r = more (decision d) (λ e. r e refl)
      judge None (Step.End End.Got) h k q r = got_so a
      judge None (Step.End End.Pending) h k q r = r End.Pending refl refl
      judge None (Step.End (End.Refused x)) h k q r = r (End.Refused x) refl refl
      judge None (Step.End _) h k q r = absurd h
      judge (Some (End.Refused x)) Step.More h k q r = ap refused_by (k (End.Refused x) refl)
      judge (Some (End.Refused x)) (Step.End e) h k q r = ap (λ e. said (after_lock a (Found.Lock (Step.End e))) d) (some_eq (k (End.Refused x) refl))
      judge (Some End.Got) Step.More h k q r = let P : Option End → Type 0 = λ o. Judged starts None (refused_by o) in subst P (sym (k End.Got refl)) tt
      judge (Some End.Got) (Step.End e) h k q r = let P : End → Type 0 = λ e. Judged starts None (said (after_lock a (Found.Lock (Step.End e))) d) in subst P (sym (some_eq (k End.Got refl))) (got_so a)
      judge (Some e) s h k q r = unpolled e q (λ x. cc x) (λ x y. cc y)

    module _ (a : Aim) (starts : Bool) (decided : Option End) (s : Step) (l : IsLegal memory p decided s t.machine.lock u.machine.lock) (polls : IsPolls decided) (leads : Takes s d)
        (got : decided ≡ Some End.Got → holds c ≡ 1) (free : (r : Refusal) → decided ≡ Some (End.Refused r) → holds c ≡ 0) (unheld : decided ≡ None → holds c ≡ 0) where
      up : (o : Option End) → decided ≡ o → IsPolls o → gives_up (effect_of l.effect) ≡ true → is_some (refused_by o) || is_held_by old.lock.holder p ≡ true
      up None e q h = let never = l.holds_on e in let is = gives_up_so l.effect in absurd (cc (h, never, is))
      up (Some End.Got) e q h = ap (λ o. is_held_by o p) (sees.holds_it t.machine.lock.courses p laws.lock.one_holder (got e)) ∙ its_holder p
      up (Some (End.Refused r)) e q h = refl
      up (Some x) e q h = unpolled a starts x q (λ y. cc y) (λ r y. cc y)

      back : (o : Option End) → decided ≡ o → is_some (refused_by o) ≡ true → gives_back (effect_of l.effect) ≡ true
      back (Some (End.Refused r)) e h = gives_back_so l.effect ∙ (l.kept (End.Refused r) e).1
      back None e h = absurd (cc h)
      back (Some _) e h = absurd (cc h)

      keeps_it : (o : Option End) → decided ≡ o → IsPolls o → l.effect ≡ changes mutex.releases → ⊥
      keeps_it None e q h = let never : mutex.gives_up (changes mutex.releases) ≡ false = ap mutex.gives_up (sym h) ∙ l.holds_on e in cc never
      keeps_it (Some End.Got) e q h = let never : mutex.is_release (changes mutex.releases) ≡ false = ap mutex.is_release (sym h) ∙ l.keeps_lock e in cc never
      keeps_it (Some (End.Refused r)) e q h = let one : holds c ≡ 1 = (let P : Effect mutex.Change mutex.ListName → Type 0 = λ x. MayDo p x t.machine.lock in subst P h l.allowed) in let none = free r e in omega arith
      keeps_it (Some x) e q h = unpolled a starts x q (λ y. cc y) (λ r y. cc y)

      waits_still : (z : Step) → z ≡ s → (r : Refusal) → decided_then z d ≡ Some (End.Refused r) → wait_of new p ≡ wait_at (position_after (after_lock a (Found.Lock z))) num → wait_of new p ≡ wait_for a num
      waits_still Step.More e r h f = f
      waits_still (Step.End x) e r h f = let P : End → Type 0 = λ x. wait_of new p ≡ wait_at (position_after (after_lock a (Found.Lock (Step.End x)))) num in subst P (some_eq h) f

      pub taking : entries_of p t.machine.entries ≡ 0 → ((r : Refusal) → decided_then s d ≡ Some (End.Refused r) → (starts ≡ false) × (wait_of old p ≡ wait_for a num) × (decided ≡ None → IsUndecided (standing_of old p)))
          → wait_of new p ≡ wait_at (position_after (after_lock a (Found.Lock s))) num → Row (wait_for a num) (refused_by decided) (after_lock a (Found.Lock s)) starts
      taking none refusable after = row_of (effect_of l.effect) (wait_for a num) (refused_by decided) (after_lock a (Found.Lock s)) starts (lock_effect decided s l (λ e. absurd (keeps_it decided refl polls e))) (record {
        wait = after ∙ taken_wait a s num;
        parting = back decided refl;
        giving_up = up decided refl polls;
        judged = judge a starts decided s leads (λ e h. (l.kept e h).0) polls because;
        clear = taken_clear a s;
        not_over = taken_over a s d leads;
      }) where
        because : (e : End) → decided ≡ None → decided_then s d ≡ Some e → Because a starts e
        because End.Pending n h = inl (l.reason End.Pending n h)
        because (End.Refused r) n h = let x = refusable r h in why a starts r (l.reason (End.Refused r) n h) (λ e. (let one = sees.is_held_by t.machine.lock.courses p e in let zero_held = unheld n in omega arith)) none x.0 (waits_still s refl r h after ∙ sym x.1) (x.2 n)
        because _ n h = tt

    -- ---- the drop of a wait in the inner lock's list

    pub cancelling : (starts : Bool) (s : Step) (l : IsLegal memory p (Some End.GivenBack) s t.machine.lock u.machine.lock) → holds c ≡ 0
        → wait_of new p ≡ wait_at (position_after (after_cancel (Found.Lock s))) num → Row no_wait (Some Answer.GivenBack) (after_cancel (Found.Lock s)) starts
    cancelling starts s l none after = row_of (effect_of l.effect) no_wait (Some Answer.GivenBack) (after_cancel (Found.Lock s)) starts (lock_effect (Some End.GivenBack) s l unheld) (record {
      wait = after ∙ cancel_wait s num;
      parting = λ h. gives_back_so l.effect ∙ (l.kept End.GivenBack refl).1;
      giving_up = λ h. refl;
      judged = cancel_said s d;
      clear = cancel_clear s;
      not_over = cancel_over s;
    }) where
      unheld : l.effect ≡ changes mutex.releases → IsAllowed old m (changes releases)
      unheld h = let one : holds c ≡ 1 = (let P : Effect mutex.Change mutex.ListName → Type 0 = λ x. MayDo p x t.machine.lock in subst P h l.allowed) in absurd (omega arith)

    -- ---- the release of the inner lock

    pub releasing_on : (e : Ending) (starts : Bool) (s : Step) (effect : Effect Change ListName) → LockEffect effect → gives_back effect ≡ true → (gives_up effect ≡ true → is_held_by old.lock.holder p ≡ true)
        → wait_of new p ≡ wait_at (position_after (after_release e (Found.Lock s))) num → Row (wait_until e num) (verdict_until e) (after_release e (Found.Lock s)) starts
    releasing_on e starts s effect g backs ups after = row_of effect (wait_until e num) (verdict_until e) (after_release e (Found.Lock s)) starts g (record {
      wait = after ∙ release_wait e s num;
      parting = λ h. backs;
      giving_up = λ h. ap (λ b. is_some (verdict_until e) || b) (ups h) ∙ or-true (is_some (verdict_until e));
      judged = (let P : Option Answer → Type 0 = Judged starts (verdict_until e) in subst P (sym (release_said e s d)) (kept e));
      clear = release_clear e s;
      not_over = release_over e s;
    }) where
      kept : (e : Ending) → Judged starts (verdict_until e) (verdict_until e)
      kept Ending.Wait = tt
      kept Ending.Follow = refl
      kept Ending.Lead = refl
      kept Ending.RefuseGenerations = refl
      kept (Ending.RefuseMemory b) = refl

  -- it begins with the release itself
  must_release : (x : Effect mutex.Change mutex.ListName) → new.lock.holder ≡ mutex.holder_after p x (Some p) → (new.lock.holder ≡ Some p → ⊥) → x ≡ changes mutex.releases
  must_release (changes mutex.releases) e f = refl
  must_release nothing e f = absurd (f e)
  must_release (changes mutex.takes) e f = absurd (f e)
  must_release (changes mutex.starves) e f = absurd (f e)
  must_release (changes mutex.recovers) e f = absurd (f e)
  must_release (does mutex.for_the_lock x) e f = absurd (f e)

  left_free : (s : Step) → Releases s d → holds d ≡ 0
  left_free Step.More h = releasing_free d h
  left_free (Step.End End.GivenBack) h = ap holds h
  left_free (Step.End _) h = absurd h

  -- and once it is released, what is left is to notify
  module _ (s : Step) (l : IsLegal memory p (Some End.GivenBack) s t.machine.lock u.machine.lock) (out_of : is_releasing c ≡ true) where
    pub record Parting : Type 0 where
      pub effect : Effect Change ListName
      pub of : LockEffect effect
      pub backs : gives_back effect ≡ true
      pub keeps : gives_up effect ≡ false

    may_do : (x : Effect mutex.Change mutex.ListName) → l.effect ≡ x → MayDo p x t.machine.lock
    may_do x e = let P : Effect mutex.Change mutex.ListName → Type 0 = λ y. MayDo p y t.machine.lock in subst P e l.allowed

    unheld : l.effect ≡ changes mutex.releases → IsAllowed old m (changes releases)
    unheld e = let one : holds c ≡ 1 = may_do (changes mutex.releases) e in let none = releasing_free c out_of in absurd (omega arith)

    lifted : (x : Effect mutex.Change mutex.ListName) → l.effect ≡ x → LockEffect (effect_of x)
    lifted x e = let P : Effect mutex.Change mutex.ListName → Type 0 = λ y. LockEffect (effect_of y) in subst P e (lock_effect (Some End.GivenBack) s l unheld)

    backs_so : (x : Effect mutex.Change mutex.ListName) → l.effect ≡ x → mutex.gives_back x ≡ true
    backs_so x e = ap mutex.gives_back (sym e) ∙ (l.kept End.GivenBack refl).1

    leaves_nothing : l.effect ≡ does mutex.for_the_lock leaves → LockEffect nothing
    leaves_nothing e = record {
      of_lock = is_of_lock nothing;
      allowed = tt;
      lock = same_state _ _ _ _ (l.holder ∙ ap (λ x. mutex.holder_after p x (holder_of t.machine.lock)) e) (l.starved ∙ ap (λ x. mutex.starved_after p x (starved_of t.machine.lock)) e);
      lock_list = l.entries ∙ (ap (λ x. mutex.entries_after p x t.machine.lock.entries) e ∙ leaves_none p t.machine.lock.entries (laws.lock.owners p ∙ releasing_unlisted c out_of));
      memory = λ list h. absurd (cc h);
    }

    parted : (x : Effect mutex.Change mutex.ListName) → l.effect ≡ x → Parting
    parted nothing e = record { effect = nothing; of = lifted nothing e; backs = refl; keeps = refl }
    parted (changes mutex.takes) e = let no = backs_so (changes mutex.takes) e in absurd (cc no)
    parted (changes mutex.releases) e = let one : holds c ≡ 1 = may_do (changes mutex.releases) e in let none = releasing_free c out_of in absurd (omega arith)
    parted (changes mutex.starves) e = let no = backs_so (changes mutex.starves) e in absurd (cc no)
    parted (changes mutex.recovers) e = let one : starved_there c ≡ 1 = may_do (changes mutex.recovers) e in let none = releasing_unstarved c out_of in absurd (omega arith)
    parted (does mutex.for_the_lock joins) e = let no = backs_so (does mutex.for_the_lock joins) e in absurd (cc no)
    parted (does mutex.for_the_lock asks) e = let no = backs_so (does mutex.for_the_lock asks) e in absurd (cc no)
    parted (does mutex.for_the_lock leaves) e = record { effect = nothing; of = leaves_nothing e; backs = refl; keeps = refl }
    parted (does mutex.for_the_lock (notifies n)) e = record { effect = does Lock (notifies n); of = lifted (does mutex.for_the_lock (notifies n)) e; backs = refl; keeps = refl }
    parted (does mutex.for_the_lock (notifies_additionally n)) e = record { effect = does Lock (notifies_additionally n); of = lifted (does mutex.for_the_lock (notifies_additionally n)) e; backs = refl; keeps = refl }

    pub parting : Parting
    parting = parted l.effect refl

  module _ (still : u.machine.words ≡ t.machine.words) (unlisted : u.machine.entries ≡ t.machine.entries) (e : Ending) (starts : Bool) (s : Step) (l : IsLegal memory p (Some End.GivenBack) s t.machine.lock u.machine.lock)
      (after : wait_of new p ≡ wait_at (position_after (after_release e (Found.Lock s))) num) where
    pub releasing_row : is_releasing c ≡ true → Row (wait_until e num) (verdict_until e) (after_release e (Found.Lock s)) starts
    releasing_row r = let x = parting s l r in releasing_on still unlisted e starts s x.effect x.of x.backs (λ h. absurd (cc (h, x.keeps))) after

    pub release_row : is_holding c ≡ true → Releases s d → ((old.lock.holder ≡ Some p) → IsAllowed old m (changes releases)) → Row (wait_until e num) (verdict_until e) (after_release e (Found.Lock s)) starts
    release_row held leads may =
        let has : old.lock.holder ≡ Some p = sees.holds_it t.machine.lock.courses p laws.lock.one_holder (holding_holds c held) in
        let free : new.lock.holder ≡ Some p → ⊥ = (λ h. (let one = sees.is_held_by u.machine.lock.courses p h in let none = left_free s leads in omega arith)) in
        let is : l.effect ≡ changes mutex.releases = must_release l.effect (l.holder ∙ ap (mutex.holder_after p l.effect) has) free in
        let P : Effect mutex.Change mutex.ListName → Type 0 = λ y. LockEffect (effect_of y) in
        releasing_on still unlisted e starts s (changes releases) (subst P is (lock_effect (Some End.GivenBack) s l (λ h. may has))) refl (λ h. ap (λ o. is_held_by o p) has ∙ its_holder p) after
