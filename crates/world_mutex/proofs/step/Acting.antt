-- What the lock carries out for a party is a legal step, as callers see it.
use Rattle.world_mutex.proofs.Prelude.{◌≡◌, ◌≢◌, ℕ, ◌<◌, ◌⊎◌, ◌↔◌, ◌||◌, inl, inr, Bool, true, false, zero, suc, List, [], ◌∷◌, length, Option, Some, None, is_some, refl, arith, ap, sym, ◌∙◌, subst, get_or-set_same, nat_tests, set, Entry, Waiting, Answer, Value, Move, Refusal, Rest, Stage, Within, is_drop, is_refusal, is_poll_after_ready, put_in, how_many, is_on, inside, inputs_of, call_in, is_possible, is_stepped, may_end, is_decided, decided_on, refused, IsUndecided, Effect, nothing, changes, does, joins, asks, leaves, notifies, notifies_additionally, some_eq, none_some, stage_at, stands_as, call_at, polls_again, stage_after, Table, End, Next, Place, Out, place_after, Lock, place_at, IsMutex, starved, decision, decided_then, IsReason, IsAllowed, IsLegal, counted, listed, holder_of, starved_of, is_counted, Guarded, knows, place_of, is_try_kind, answer_by, Carries, state_after, notifies_one, call_of, DecidesOn, ChangesOneThing, IsTakenFairly, OthersKeepTheirs, CarriesValue, Waits, IsCause, IsRefusedForCause, LeavesClear, IsValueKept, EndsProperly, Legal, State, World, standing_of, is_starved, mark_of, IsMutexTable, answer_on, verdict, view_of, entries_of, may_tell as may_tell_there}
use Rattle.lock_program.specs.Refusals.{number_of}
use Rattle.world_base.proofs.of_table.Acting as acting
use Rattle.world_base.proofs.of_table.Calls.{decided_after, call_seen, again_seen, stands_seen}
use Rattle.world_mutex.specs.machine.Effects as lock
use Rattle.world_mutex.proofs.of_machine.legal.Promised.{begins_unrefused}
use Rattle.world_mutex.proofs.of_machine.laws.Seen as sees
use Rattle.world_mutex.specs.Legal.{Change, ListName, takes, releases, starves, recovers, for_the_lock, entries_after, gives_back, gives_up}
use Rattle.world_mutex.proofs.step.Here.{Here, BeginsOrGoes, standing_at}
use Rattle.world_mutex.proofs.step.Owns as owns
use Rattle.world_mutex.proofs.table.Seen as seen
use Rattle.world_mutex.proofs.table.Turns.{Lands}
use Rattle.world_mutex.specs.Legal.{may_tell}
use Rattle.world_mutex.proofs.step.Due as due

-- ---- the lock's effect, as callers see it

abbrev pub world_effect : Effect lock.Change lock.ListName → Effect Change ListName
world_effect nothing = nothing
world_effect (changes lock.takes) = changes takes
world_effect (changes lock.releases) = changes releases
world_effect (changes lock.starves) = changes starves
world_effect (changes lock.recovers) = changes recovers
world_effect (does lock.for_the_lock f) = does for_the_lock f

record IsSame (p : ℕ) (d : Effect lock.Change lock.ListName) : Type 0 where
  pub state : (h : Option ℕ) (s : List Bool) (v : ℕ) → Path State (record { holder = lock.holder_after p d h; starved = lock.starved_after p d s; value = v }) (state_after p (world_effect d) (record { holder = h; starved = s; value = v }))
  pub entries : (l : List (Entry ℕ)) → lock.entries_after p d l ≡ entries_after p (world_effect d) l
  pub back : lock.gives_back d ≡ gives_back (world_effect d)
  pub up : lock.gives_up d ≡ gives_up (world_effect d)
  pub joins : (list : ListName) → world_effect d ≡ does list joins → d ≡ does lock.for_the_lock joins

same_effect : (p : ℕ) (d : Effect lock.Change lock.ListName) → IsSame p d
same_effect p nothing = record { state = λ h s v. refl; entries = λ l. refl; back = refl; up = refl; joins = λ list e. absurd (cc) }
same_effect p (changes lock.takes) = record { state = λ h s v. refl; entries = λ l. refl; back = refl; up = refl; joins = λ list e. absurd (cc) }
same_effect p (changes lock.releases) = record { state = λ h s v. refl; entries = λ l. refl; back = refl; up = refl; joins = λ list e. absurd (cc) }
same_effect p (changes lock.starves) = record { state = λ h s v. refl; entries = λ l. refl; back = refl; up = refl; joins = λ list e. absurd (cc) }
same_effect p (changes lock.recovers) = record { state = λ h s v. refl; entries = λ l. refl; back = refl; up = refl; joins = λ list e. absurd (cc) }
same_effect p (does lock.for_the_lock f) = record { state = λ h s v. refl; entries = λ l. refl; back = refl; up = refl; joins = λ list e. cc }

pub made : (h g : Option ℕ) (s t : List Bool) (v u : ℕ) → h ≡ g → s ≡ t → v ≡ u → Path State (record { holder = h; starved = s; value = v }) (record { holder = g; starved = t; value = u })
made h g s t v u e d f = cc

some_other : (p q : ℕ) → Some p ≡ Some q → q ≢ p → ⊥
some_other p q e apart = apart (sym (some_eq e))

-- ---- answers

-- what a call is decided on after this
abbrev pub said : Bool → ℕ → Next → Option End → Option Answer
said trying v (Next.Do a q) o = answer_on v o
said trying v (Next.End e) o = Some (answer_by trying v (Next.End e))

-- an answer that a call is decided on comes from the lock's end
pub record Ended (v : ℕ) (n : Next) (to : Place) (b : Answer) : Type 0 where
  pub trying : Bool
  pub ends : End
  pub now : decided_then n to ≡ Some ends
  pub is : b ≡ answer_by trying v (Next.End ends)

ended_by : (trying : Bool) (v : ℕ) (n : Next) (to : Place) (b : Answer) → said trying v n (decision to) ≡ Some b → Ended v n to b
ended_by trying v (Next.End e) to b is = record { trying = trying; ends = e; now = refl; is = sym (some_eq is) }
ended_by trying v (Next.Do a q) to b is = by_end (decision to) refl is where
  by_end : (o : Option End) → decision to ≡ o → answer_on v o ≡ Some b → Ended v (Next.Do a q) to b
  by_end None e h = absurd (none_some h)
  by_end (Some f) e h = record { trying = false; ends = f; now = e; is = sym (some_eq h) }

said_kept : (v : ℕ) (n : Next) (to : Place) (e : End) → decided_then n to ≡ Some e → said false v n (decision to) ≡ answer_on v (Some e)
said_kept v (Next.Do a q) to e is = ap (answer_on v) is
said_kept v (Next.End f) to e is = ap (answer_on v) is

said_so : (trying : Bool) (v : ℕ) (n : Next) (o : Option End) → decided_after (answer_by trying v n) (answer_on v o) ≡ said trying v n o
said_so trying v (Next.Do a q) o = refl
said_so true v (Next.End End.Got) o = refl
said_so false v (Next.End End.Got) o = refl
said_so trying v (Next.End End.Pending) o = refl
said_so trying v (Next.End End.NotFree) o = refl
said_so trying v (Next.End End.Granted) o = refl
said_so trying v (Next.End End.Waiting) o = refl
said_so trying v (Next.End End.GivenBack) o = refl
said_so trying v (Next.End (End.Refused r)) o = refl

-- what an end is answered tells the end
abbrev AsEnd : ℕ → End → Answer → Type 0
AsEnd v e (Answer.Ready got) = (e ≡ End.Got) × (got ≡ Value v)
AsEnd v e (Answer.Granted got) = (e ≡ End.Got) × (got ≡ Value v)
AsEnd v e Answer.Pending = e ≡ End.Pending
AsEnd v e (Answer.Refused n) = (r : Refusal) × (e ≡ End.Refused r) × (n ≡ number_of r)
AsEnd v e _ = Unit {0}

ended_as : (trying : Bool) (v : ℕ) (e : End) (b : Answer) → b ≡ answer_by trying v (Next.End e) → AsEnd v e b
ended_as true v End.Got b is = subst (AsEnd v End.Got) (sym is) (refl, refl)
ended_as false v End.Got b is = subst (AsEnd v End.Got) (sym is) (refl, refl)
ended_as trying v End.Pending b is = subst (AsEnd v End.Pending) (sym is) refl
ended_as trying v End.NotFree b is = subst (AsEnd v End.NotFree) (sym is) tt
ended_as trying v End.Granted b is = subst (AsEnd v End.Granted) (sym is) tt
ended_as trying v End.Waiting b is = subst (AsEnd v End.Waiting) (sym is) tt
ended_as trying v End.GivenBack b is = subst (AsEnd v End.GivenBack) (sym is) tt
ended_as trying v (End.Refused r) b is = subst (AsEnd v (End.Refused r)) (sym is) (r, refl, refl)

ends_at : (trying : Bool) (v : ℕ) (n : Next) (b : Answer) → b ≡ answer_by trying v n → is_stepped b ≡ false → (e : End) × (n ≡ Next.End e)
ends_at trying v (Next.Do a q) b is h = let never : is_stepped Answer.Stepped ≡ false = ap is_stepped (sym is) ∙ h in absurd (cc (never))
ends_at trying v (Next.End e) b is h = (e, refl)

-- a refused party is out
refused_out : (trying : Bool) (v : ℕ) (from : Place) (n : Next) → is_refusal (answer_by trying v n) ≡ true → place_after from n ≡ Out
refused_out trying v from (Next.Do a q) h = absurd (cc (h))
refused_out true v from (Next.End End.Got) h = absurd (cc (h))
refused_out false v from (Next.End End.Got) h = absurd (cc (h))
refused_out trying v from (Next.End End.Pending) h = absurd (cc (h))
refused_out trying v from (Next.End End.NotFree) h = absurd (cc (h))
refused_out trying v from (Next.End End.Granted) h = absurd (cc (h))
refused_out trying v from (Next.End End.Waiting) h = absurd (cc (h))
refused_out trying v from (Next.End End.GivenBack) h = absurd (cc (h))
refused_out trying v from (Next.End (End.Refused r)) h = refl

possible_by : (trying : Bool) (v : ℕ) (n : Next) → is_possible (answer_by trying v n) ≡ true
possible_by trying v (Next.Do a q) = refl
possible_by true v (Next.End End.Got) = refl
possible_by false v (Next.End End.Got) = refl
possible_by trying v (Next.End End.Pending) = refl
possible_by trying v (Next.End End.NotFree) = refl
possible_by trying v (Next.End End.Granted) = refl
possible_by trying v (Next.End End.Waiting) = refl
possible_by trying v (Next.End End.GivenBack) = refl
possible_by trying v (Next.End (End.Refused r)) = refl

number_six : (l k : Lock) (memory : Bool) (p : ℕ) (r : Refusal) → 6 ≡ number_of r → IsReason memory p l k (End.Refused r) → ⊥
number_six l k memory p Refusal.Memory e y = omega arith
number_six l k memory p Refusal.Starved e y = omega arith
number_six l k memory p _ e y = y

abbrev number_on : Option End → ℕ
number_on (Some (End.Refused r)) = number_of r
number_on _ = 0

six_at : (x : Place) → number_on (decision x) ≡ 6 → ⊥
six_at Place.RefuseUncount e = omega (arith, e)
six_at (Place.RefuseLeave told) e = omega (arith, e)
six_at Place.RefuseNotifyMemory e = omega (arith, e)
six_at Place.RefuseNotifyStarved e = omega (arith, e)
six_at _ e = omega (arith, e)

never_six : (x : Place) (r : Refusal) → decision x ≡ Some (End.Refused r) → 6 ≡ number_of r → ⊥
never_six x r e six = six_at x (ap number_on e ∙ sym six)

told_effect : (d : Effect lock.Change lock.ListName) (list : ListName) (n : ℕ) → world_effect d ≡ does list (notifies n) → d ≡ does lock.for_the_lock (notifies n)
told_effect nothing list n e = absurd (cc)
told_effect (changes lock.takes) list n e = absurd (cc)
told_effect (changes lock.releases) list n e = absurd (cc)
told_effect (changes lock.starves) list n e = absurd (cc)
told_effect (changes lock.recovers) list n e = absurd (cc)
told_effect (does lock.for_the_lock f) list n e = cc

one_notified : (p : ℕ) (d : Effect lock.Change lock.ListName) (l : Lock) → IsAllowed p d l → notifies_one (world_effect d) ≡ true
one_notified p (does lock.for_the_lock (notifies n)) l al = let one : n ≡ 1 = al.0 in grind (arith, nat_tests)
one_notified p (does lock.for_the_lock (notifies_additionally n)) l al = absurd al
one_notified p (does lock.for_the_lock joins) l al = refl
one_notified p (does lock.for_the_lock asks) l al = refl
one_notified p (does lock.for_the_lock leaves) l al = refl
one_notified p nothing l al = refl
one_notified p (changes lock.takes) l al = refl
one_notified p (changes lock.releases) l al = refl
one_notified p (changes lock.starves) l al = refl
one_notified p (changes lock.recovers) l al = refl

none_at : (bs : List Bool) (q : ℕ) → is_on (set bs q false) q ≡ true → ⊥
none_at [] q is = cc (is)
none_at (b ∷ bs) zero is = cc (is)
none_at (b ∷ bs) (suc q) is = none_at bs q is

module _ (t u : Table Guarded) (m : Move) (a : Answer) (w : Within) where
  abbrev p : ℕ
  p = m.party

  abbrev g : Guarded
  g = t.machine

  abbrev h : Guarded
  h = u.machine

  abbrev x : Place
  x = place_of g p

  abbrev s : Stage
  s = stage_at t.stages p

  abbrev old : World
  old = view_of t

  abbrev new : World
  new = view_of u

  abbrev memory : Bool
  memory = (inputs_of m.what).memory

  -- a move that the lock carries out
  pub record Acting : Type 0 where
    pub inside : p < length t.stages
    pub old_laws : IsMutex g.lock
    pub old_fits : IsMutexTable t
    pub new_laws : IsMutex h.lock
    pub new_fits : IsMutexTable u
    pub call : call_at knows s m.what ≡ Some w
    pub first : polls_again s m.what ≡ false
    pub none : put_in m.what ≡ None
    pub carries : Carries g p w m.what a h
    pub here : Here s m.what w x carries.from
    pub lands : Lands g.value w carries.next (place_after carries.from carries.next)
    pub stages : u.stages ≡ set t.stages p (stage_after Rest.Holding w a)
    pub opening : u.opening ≡ t.opening

  module _ (k : Acting) where
    abbrev from : Place
    from = k.carries.from

    abbrev n : Next
    n = k.carries.next

    abbrev v : ℕ
    v = g.value

    abbrev to : Place
    to = place_of h p

    abbrev trying : Bool
    trying = is_try_kind w.kind

    abbrev way : IsLegal memory p (decision from) n g.lock h.lock
    way = k.carries.carried.legal

    abbrev d : Effect lock.Change lock.ListName
    d = way.effect

    pub there : p < length g.lock.places
    there = omega (arith, k.inside, k.old_fits.as_many)

    pub lands_at : to ≡ place_after from n
    lands_at = ap (λ ps. place_at ps p) k.carries.carried.acts.places ∙ get_or-set_same g.lock.places p (place_after from n) Out there

    pub stood : standing_of old p ≡ standing_at v s x
    stood = seen.stands_seen t p

    pub stands : standing_of new p ≡ stands_as (verdict h p) (stage_after Rest.Holding w a)
    stands = acting.stands verdict Rest.Holding t u p w a k.inside k.stages

    others_stand : (q : ℕ) → q ≢ p → standing_of new q ≡ standing_of old q
    others_stand q apart = acting.others_stand verdict Rest.Holding t u p w a k.inside k.stages q apart
        (ap (λ y. answer_on h.value (decision y)) (way.others q apart) ∙ ap (λ z. answer_on z (decision (place_of g q))) k.carries.carried.value)

    decides : decided_on a (standing_of new p) ≡ said trying v n (decision to)
    decides = acting.decides verdict Rest.Holding t u p w a k.inside k.stages
        ∙ (ap (λ b. decided_after b (verdict h p)) k.carries.answer ∙ (ap (λ z. decided_after (answer_by trying v n) (answer_on z (decision to))) k.carries.carried.value ∙ said_so trying v n (decision to)))

    pub state_is : new.state ≡ state_after p (world_effect d) old.state
    state_is = made _ _ _ _ _ _ way.holder way.starved k.carries.carried.value ∙ (same_effect p d).state (holder_of g.lock) (starved_of g.lock) v

    decided_there : is_decided (standing_of old p) || is_drop m.what ≡ is_some (decision from)
    decided_there = ap (λ z. is_decided z || is_drop m.what) stood ∙ k.here.decides v

    parting : (o : Option End) → decision from ≡ o → is_some o ≡ true → gives_back (world_effect d) ≡ true
    parting (Some e) is some = sym (same_effect p d).back ∙ (way.kept e is).1
    parting None is some = absurd (cc)

    giving_up : (o : Option End) → decision from ≡ o → gives_up (world_effect d) ≡ true → is_some o ≡ true
    giving_up (Some e) is up = refl
    giving_up None is up = let down = way.holds_on is in let same = (same_effect p d).up in absurd (cc)

    tells_so : may_tell_there x ≡ true → may_tell (standing_of old p) (is_starved old.state p) (entries_of p old.entries) ≡ true
    tells_so h =
        ap (λ z. may_tell z (is_starved old.state p) (entries_of p old.entries)) stood
        ∙ (ap (λ b. may_tell (standing_at v s x) b (entries_of p old.entries)) (sees.starved_at g.lock.places p)
        ∙ (ap (may_tell (standing_at v s x) (is_counted x)) (k.old_laws.owners p) ∙ due.tells_at v s x (k.old_fits.stands p k.inside) h))

    one_change : ChangesOneThing old m new
    one_change = record {
      effect = world_effect d;
      state = state_is;
      entries = way.entries ∙ (same_effect p d).entries g.lock.entries;
      limit = way.limit;
      opening_value = k.opening;
      others = others_stand;
      parties = acting.as_many verdict Rest.Holding t u p w a k.inside k.stages;
      found_memory = λ list e. way.found_memory lock.for_the_lock ((same_effect p d).joins list e);
      parting = λ h. parting (decision from) refl (sym decided_there ∙ h);
      giving_up = λ up. decided_there ∙ giving_up (decision from) refl up;
      notice = one_notified p d g.lock way.allowed;
      tells = λ list n e. (let A : Effect lock.Change lock.ListName → Type 0 = λ c. IsAllowed p c g.lock in let al : A (does lock.for_the_lock (notifies n)) = subst A (told_effect d list n e) way.allowed in tells_so al.1);
    }

    -- ---- who has the lock, and who is starved

    fair_so : (q : ℕ) (d : Effect lock.Change lock.ListName) → lock.holder_after p d (holder_of g.lock) ≡ Some q → holder_of g.lock ≢ Some q → (p ≡ q) × (d ≡ changes lock.takes)
    fair_so q (changes lock.takes) is was = (some_eq is, refl)
    fair_so q (changes lock.releases) is was = absurd (none_some is)
    fair_so q (changes lock.starves) is was = absurd (was is)
    fair_so q (changes lock.recovers) is was = absurd (was is)
    fair_so q nothing is was = absurd (was is)
    fair_so q (does list f) is was = absurd (was is)

    taken_fairly : IsTakenFairly old new
    taken_fairly q is was =
        let f = fair_so q d (sym way.holder ∙ is) was in
        let A : Effect lock.Change lock.ListName → Type 0 = λ e. IsAllowed p e g.lock in
        let allowed : A (changes lock.takes) = subst A f.1 way.allowed in
        let Q : ℕ → Type 0 = λ j. (how_many old.state.starved ≡ 0) ⊎ (is_starved old.state j ≡ true) in (
          sees.none_held 0 g.lock.places allowed.0,
          subst Q f.0 (elim allowed.1 as (λ _. Q p) [
            | inl none ↦ inl (sees.how_many_counted g.lock.places ∙ none)
            | inr own ↦ inr (sees.starved_at g.lock.places p ∙ sees.is_one (is_counted x) (sees.counted_bit x ∙ own))
          ]),
        )

    kept_so : (q : ℕ) → q ≢ p → (d : Effect lock.Change lock.ListName) → IsAllowed p d g.lock → (lock.holder_after p d (holder_of g.lock) ≡ Some q) ↔ (holder_of g.lock ≡ Some q)
    kept_so q apart (changes lock.takes) al = ((λ e. absurd (some_other p q e apart)), (λ e. absurd (none_some (sym (sees.none_held 0 g.lock.places al.0) ∙ e))))
    kept_so q apart (changes lock.releases) al = ((λ e. absurd (none_some e)), (λ e. absurd (some_other p q (sym (sees.holds_it g.lock.places p k.old_laws.one_holder al) ∙ e) apart)))
    kept_so q apart (changes lock.starves) al = ((λ e. e), (λ e. e))
    kept_so q apart (changes lock.recovers) al = ((λ e. e), (λ e. e))
    kept_so q apart nothing al = ((λ e. e), (λ e. e))
    kept_so q apart (does list f) al = ((λ e. e), (λ e. e))

    starves_so : (d : Effect lock.Change lock.ListName) → IsAllowed p d g.lock → is_on (lock.starved_after p d (starved_of g.lock)) p ≡ true → is_on (starved_of g.lock) p ≡ false → starved g.lock < g.lock.limit
    starves_so (changes lock.starves) al is was = al.1
    starves_so (changes lock.recovers) al is was = absurd (none_at (starved_of g.lock) p is)
    starves_so (changes lock.takes) al is was = absurd (cc)
    starves_so (changes lock.releases) al is was = absurd (cc)
    starves_so nothing al is was = absurd (cc)
    starves_so (does list f) al is was = absurd (cc)

    others_keep : OthersKeepTheirs old m new
    others_keep = record {
      lock = λ q apart. let both = kept_so q apart d way.allowed in ((λ e. both.0 (sym way.holder ∙ e)), (λ e. way.holder ∙ both.1 e));
      starved = λ q apart. sees.starved_at h.lock.places q ∙ (ap is_counted (way.others q apart) ∙ sym (sees.starved_at g.lock.places q));
      limit = λ was is. (let few : starved g.lock < g.lock.limit = starves_so d way.allowed (ap (λ bs. is_on bs p) (sym way.starved) ∙ is) was in rw sees.how_many_counted few);
    }

    -- ---- why a call is decided

    pub record Reasoned (b : Answer) : Type 0 where
      pub ended : Ended v n to b
      pub fresh : decision from ≡ None
      pub why : IsReason memory p g.lock h.lock ended.ends

    given_back : (tr : Bool) (e : End) → e ≡ End.GivenBack → answer_by tr v (Next.End e) ≡ Answer.GivenBack
    given_back tr e is = ap (λ z. answer_by tr v (Next.End z)) is

    reason_by : (b : Answer) → DecidesOn old m a new b → (o : Option End) → decision from ≡ o → (b ≡ Answer.GivenBack) ⊎ Reasoned b
    reason_by b on None e = let so = ended_by trying v n to b (sym decides ∙ on.1) in inr (record { ended = so; fresh = e; why = way.reason so.ends e so.now })
    reason_by b on (Some f) e =
        let so = ended_by trying v n to b (sym decides ∙ on.1) in
        let back : f ≡ End.GivenBack = k.here.undecided v (sym (ap is_decided stood) ∙ on.0) f e in
        inl (so.is ∙ given_back so.trying so.ends (some_eq (sym so.now ∙ (way.kept f e).0) ∙ back))

    reason : (b : Answer) → DecidesOn old m a new b → (b ≡ Answer.GivenBack) ⊎ Reasoned b
    reason b on = reason_by b on (decision from) refl

    holder_by : (e : End) → e ≡ End.Got → IsReason memory p g.lock h.lock e → holder_of h.lock ≡ Some p
    holder_by e is y = let P : End → Type 0 = IsReason memory p g.lock h.lock in subst P is y

    carries : CarriesValue old m a new
    carries = record {
      ready = λ got on. elim (reason (Answer.Ready got) on) as (λ _. (got ≡ Value new.state.value) × (new.state.holder ≡ Some p)) [
        | inl e ↦ absurd (cc (e))
        | inr y ↦ (let is = ended_as y.ended.trying v y.ended.ends (Answer.Ready got) y.ended.is in (is.1 ∙ ap Value (sym k.carries.carried.value), holder_by y.ended.ends is.0 y.why))
      ];
      granted = λ got on. elim (reason (Answer.Granted got) on) as (λ _. (got ≡ Value new.state.value) × (new.state.holder ≡ Some p)) [
        | inl e ↦ absurd (cc (e))
        | inr y ↦ (let is = ended_as y.ended.trying v y.ended.ends (Answer.Granted got) y.ended.is in (is.1 ∙ ap Value (sym k.carries.carried.value), holder_by y.ended.ends is.0 y.why))
      ];
    }

    waits_by : (o : Option End) → decision from ≡ o → decided_then n to ≡ Some End.Pending → mark_of new p ≡ Some Waiting
    waits_by None e now = way.reason End.Pending e now
    waits_by (Some f) e now = absurd (seen.never_pending from (e ∙ (sym (way.kept f e).0 ∙ now)))

    waits : Waits m a new
    waits = record {
      waiting = λ e.
          let at = ends_at trying v n Answer.Pending (sym e ∙ k.carries.answer) refl in
          let is : at.0 ≡ End.Pending = ended_as trying v at.0 Answer.Pending (sym e ∙ (k.carries.answer ∙ ap (answer_by trying v) at.1)) in
          waits_by (decision from) refl (ap (λ z. decided_then z to) at.1 ∙ ap Some is);
      not_before = λ within e. owns.not_pending u k.new_laws k.new_fits p within e;
    }

    was_inside : (b : BeginsOrGoes s w x from) → decision from ≡ None → (r : Refusal) → decided_then n to ≡ Some (End.Refused r) → IsUndecided (standing_of old p)
    was_inside (inl b) fresh r now = absurd (begins_unrefused memory p b.0 x from n g.lock h.lock b.1 k.carries.carried.acts there r now)
    was_inside (inr b) fresh r now = (w, stood ∙ (ap (λ z. standing_at v z x) b.0 ∙ ap (λ o. inside w (answer_on v o)) (ap decision (sym b.1) ∙ fresh)))

    not_counted : (y : Place) → counted y ≡ 0 → is_counted y ≡ false
    not_counted y none = grind (arith, nat_tests)

    cause : (c : Refusal) → decision from ≡ None → decided_then n to ≡ Some (End.Refused c) → IsReason memory p g.lock h.lock (End.Refused c) → IsCause old m new c
    cause Refusal.Memory fresh now y = (y.0, y.1, y.2, made _ _ _ _ _ _ y.3 y.4 k.carries.carried.value)
    cause Refusal.Starved fresh now y = (
      sees.how_many_counted g.lock.places ∙ y.0,
      sees.starved_at g.lock.places p ∙ not_counted x y.1,
      was_inside k.here.begins fresh Refusal.Starved now,
      y.2,
      made _ _ _ _ _ _ y.3 y.4 k.carries.carried.value,
    )
    cause Refusal.Finished fresh now y = absurd y
    cause _ fresh now y = absurd y

    never_over : (o : Option End) → decision from ≡ o → (e : End) → decided_then n to ≡ Some e → (r : Refusal) → e ≡ End.Refused r → 6 ≡ number_of r → ⊥
    never_over None is e now r refuses six = let P : End → Type 0 = IsReason memory p g.lock h.lock in number_six g.lock h.lock memory p r six (subst P refuses (way.reason e is now))
    never_over (Some f) is e now r refuses six = never_six from r (is ∙ (sym (way.kept f is).0 ∙ (now ∙ ap Some refuses))) six

    refused_for_cause : IsRefusedForCause old m a new
    refused_for_cause = record {
      cause = λ number on. elim (reason (Answer.Refused number) on) as (λ _. (c : Refusal) × (number ≡ number_of c) × IsCause old m new c) [
        | inl e ↦ absurd (cc (e))
        | inr y ↦ (let is = ended_as y.ended.trying v y.ended.ends (Answer.Refused number) y.ended.is in
            let P : End → Type 0 = IsReason memory p g.lock h.lock in
            (is.0, is.2, cause is.0 y.fresh (y.ended.now ∙ ap Some is.1) (subst P is.1 y.why)))
      ];
      memory = λ on. elim (reason (refused Refusal.Memory) on) as (λ _. IsUndecided (standing_of old p)) [
        | inl e ↦ absurd (cc (e))
        | inr y ↦ (let is = ended_as y.ended.trying v y.ended.ends (refused Refusal.Memory) y.ended.is in was_inside k.here.begins y.fresh is.0 (y.ended.now ∙ ap Some is.1))
      ];
      after_ready = (
        (λ e.
            let at = ends_at trying v n (refused Refusal.Finished) (sym e ∙ k.carries.answer) refl in
            let is = ended_as trying v at.0 (refused Refusal.Finished) (sym e ∙ (k.carries.answer ∙ ap (answer_by trying v) at.1)) in
            absurd (never_over (decision from) refl at.0 (ap (λ z. decided_then z to) at.1) is.0 is.1 is.2)),
        (λ e. let never : polls_again s m.what ≡ true = sym (again_seen (answer_on v (decision x)) s m.what) ∙ (ap (λ z. is_poll_after_ready z m.what) (sym stood) ∙ e) in absurd (cc (k.first, never))),
      );
    }

    leaves_clear : LeavesClear m a new
    leaves_clear = record {
      each = owns.each u k.new_laws k.new_fits;
      decided = owns.ends_well u k.new_laws k.new_fits;
      refused = λ is. (let out : to ≡ Out = lands_at ∙ refused_out trying v from n (ap is_refusal (sym k.carries.answer) ∙ is) in owns.clear_at u k.new_laws k.new_fits p (ap listed out) (ap is_counted out));
    }

    value_kept : IsValueKept old m a new
    value_kept = record { put = λ z e is. absurd (none_some (sym k.none ∙ e)); kept = λ is. k.carries.carried.value }

    pub called : call_of old m ≡ Some w
    called = ap (λ z. call_in knows z m.what) stood ∙ (call_seen knows (answer_on v (decision x)) s m.what ∙ k.call)

    possible : is_possible a ≡ true
    possible = ap is_possible k.carries.answer ∙ possible_by trying v n

    may_end_so : is_stepped a ≡ false → may_end w.kind a ≡ true
    may_end_so is = ap (may_end w.kind) k.carries.answer ∙ k.lands.ends (sym (ap is_stepped k.carries.answer) ∙ is)

    kept_by : (o : Option End) → decision from ≡ o → (b : Answer) → answer_on v o ≡ Some b → trying ≡ false → decided_on a (standing_of new p) ≡ Some b
    kept_by None is b e isnt = absurd (none_some e)
    kept_by (Some f) is b e isnt = decides ∙ (ap (λ z. said z v n (decision to)) isnt ∙ (said_kept v n to f (way.kept f is).0 ∙ e))

    kept : (within : Within) (b : Answer) → standing_of old p ≡ inside within (Some b) → decided_on a (standing_of new p) ≡ Some b
    kept within b e = let so = k.here.kept v within b (sym stood ∙ e) in kept_by (decision from) refl b so.0 so.1

    ends_properly : EndsProperly old m a new
    ends_properly = acting.ends_so standing_of (λ y q. knows) Rest.Holding old m a new w called possible (rw stands (stands_seen Rest.Holding w a (verdict h p) possible may_end_so)) kept

    pub legal : Legal old m a new
    legal = record {
      possible = acting.possible_so standing_of (λ y q. knows) Rest.Holding old m a new w called possible;
      one_change = one_change;
      taken_fairly = taken_fairly;
      others_keep = others_keep;
      carries = carries;
      waits = waits;
      refused_for_cause = refused_for_cause;
      leaves_clear = leaves_clear;
      value_kept = value_kept;
      ends_properly = ends_properly;
    }
