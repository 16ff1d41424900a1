-- A poll of a notified party takes a free lock, found memory or not, if its party is starved or nobody is.
use Rattle.world_mutex.proofs.Prelude.{◌≡◌, ◌≢◌, ℕ, ◌+◌, ◌<◌, ◌⊎◌, inl, inr, Bool, true, false, List, length, Some, None, refl, sym, ap, ◌∙◌, subst, arith, get_or-set_same, true≢false, sum_by-set, set, sum_by, Entry, is_marked_at, is_party, Answer, Call, Value, Inputs, What, Begin, Go, Rest, Outside, Inside, Account, accounts_after, how_many, going_on, moves_of, answers_of, marked_listed, some_eq, beginning, along, Onward, stage_at, Table, by_stage_or_past_at, outside_stage, End, LockCall, Action, Found, Done, Free, Held, SomeStarved, Yes, No, Next, Place, start_of, action_of, next_of, place_after, bit, holds, counted, listed, Acts, Finds, IsMutex, IsStarved, holders, starved, is_waiting, Lock, place_at, OnParties, holder_of, IsNotified, Guarded, place_of, goes_with, answer_by, Runs, HoldsWell, World, is_starved, Stands, Steps, IsMutexTable, verdict, view_of}
use Rattle.world_mutex.proofs.of_machine.laws.Seen as sees
use Rattle.world_mutex.specs.Bound.{Takes}
use Rattle.world_mutex.proofs.bound.Alone.{later, Does, still_inside, going, beginning_so}
use Rattle.world_mutex.proofs.bound.AloneSeen.{waits_listed}
use Rattle.world_mutex.proofs.table.Seen as seen

-- ---- the places that such a poll comes by, and what is so there

abbrev IsSure : Lock → Place → Type 0
IsSure l Place.Retry = (holders l ≡ 0) × (starved l ≡ 0)
IsSure l Place.Seize = holders l ≡ 0
IsSure l (Place.Uncount false) = Unit {0}
IsSure l _ = ⊥

abbrev LeadsTo : Next → Type 0
LeadsTo (Next.Do a to) = to ≡ Place.Uncount false
LeadsTo (Next.End e) = e ≡ End.Got

sure_leads : (memory : Bool) (l : Lock) (from : Place) (f : Found) → Finds memory (action_of from) f l → IsSure l from → LeadsTo (next_of from f)
sure_leads memory l Place.Retry Free e s = refl
sure_leads memory l Place.Retry (Held b) e s = absurd (omega (arith, e.0, s.0))
sure_leads memory l Place.Retry SomeStarved e s = absurd (omega (arith, e, s.1))
sure_leads memory l Place.Retry _ e s = absurd e
sure_leads memory l Place.Seize Free e s = refl
sure_leads memory l Place.Seize (Held b) e s = absurd (omega (arith, e, s))
sure_leads memory l Place.Seize _ e s = absurd e
sure_leads memory l (Place.Uncount false) Done e s = refl
sure_leads memory l (Place.Uncount false) _ e s = absurd e
sure_leads memory l _ f e s = absurd s

-- what holds where the poll begins: the lock is free, and its party is starved or nobody is
record Begins (l : Lock) (p : ℕ) (from : Place) : Type 0 where
  pub asks : (from ≡ Place.Ask) ⊎ (from ≡ Place.AskStarved)
  pub free : holders l ≡ 0
  pub why : IsStarved l p ⊎ (starved l ≡ 0)

pub told_yes : (memory : Bool) (p : ℕ) (f : Found) (l : Lock) (es ms : List (Entry ℕ)) → Finds memory Action.Ask f l → OnParties p Action.Ask f es ms → is_marked_at (is_party p) es ≡ true → f ≡ Yes
told_yes memory p Yes l es ms e o marked = refl
told_yes memory p No l es ms e o marked = absurd (true≢false (sym marked ∙ o.0))
told_yes memory p _ l es ms e o marked = absurd e

-- an action that leaves holders and starved parties as they were
same_sum : (g : Place → ℕ) (l k : Lock) (p : ℕ) (to : Place) → k.places ≡ set l.places p to → p < length l.places → g to ≡ g (place_at l.places p) → sum_by g k.places ≡ sum_by g l.places
same_sum g l k p to at there same =
    let sum : sum_by g (set l.places p to) + g (place_at l.places p) ≡ sum_by g l.places + g to = sum_by-set g l.places p to Place.Out there in
    omega (arith, sum, same, ap (sum_by g) at)

begins_sure : (memory : Bool) (p : ℕ) (from : Place) (n : Next) (l k : Lock) → place_at l.places p ≡ from → p < length l.places → Begins l p from → is_marked_at (is_party p) l.entries ≡ true → Acts memory p from n l k
    → (to : Place) × (a : _) × (n ≡ Next.Do a to) × (place_at k.places p ≡ to) × IsSure k to
begins_sure memory p Place.Ask n l k at there b marked acts =
    let yes = told_yes memory p acts.found l l.entries k.entries acts.finds acts.list marked in
    let is : n ≡ Next.Do Action.Take Place.Retry = acts.next_is ∙ ap (next_of Place.Ask) yes in
    let set_so : k.places ≡ set l.places p Place.Retry = acts.places ∙ ap (λ x. set l.places p (place_after Place.Ask x)) is in
    let none : starved l ≡ 0 = elim b.why as (λ _. starved l ≡ 0) [ inl own ↦ absurd (omega (arith, own, ap counted at)) | inr none ↦ none ] in (
      Place.Retry,
      Action.Take,
      is,
      ap (λ ps. place_at ps p) set_so ∙ get_or-set_same l.places p Place.Retry Place.Out there,
      (same_sum holds l k p Place.Retry set_so there (ap holds (sym at)) ∙ b.free, same_sum counted l k p Place.Retry set_so there (ap counted (sym at)) ∙ none),
    )
begins_sure memory p Place.AskStarved n l k at there b marked acts =
    let yes = told_yes memory p acts.found l l.entries k.entries acts.finds acts.list marked in
    let is : n ≡ Next.Do Action.Set Place.Seize = acts.next_is ∙ ap (next_of Place.AskStarved) yes in
    let set_so : k.places ≡ set l.places p Place.Seize = acts.places ∙ ap (λ x. set l.places p (place_after Place.AskStarved x)) is in
    (Place.Seize, Action.Set, is, ap (λ ps. place_at ps p) set_so ∙ get_or-set_same l.places p Place.Seize Place.Out there, same_sum holds l k p Place.Seize set_so there (ap holds (sym at)) ∙ b.free)
begins_sure memory p _ n l k at there b marked acts = absurd (elim b.asks as (λ _. ⊥) [ inl e ↦ cc | inr e ↦ cc ])

-- a poll of a party that waits begins where it stands
pub record Asks (x from : Place) : Type 0 where
  pub same : x ≡ from
  pub asks : (from ≡ Place.Ask) ⊎ (from ≡ Place.AskStarved)

pub asks_from : (x from : Place) → is_waiting x ≡ true → start_of LockCall.Poll x ≡ Some from → Asks x from
asks_from Place.Ask from w e = record { same = some_eq e; asks = inl (sym (some_eq e)) }
asks_from Place.AskStarved from w e = record { same = some_eq e; asks = inr (sym (some_eq e)) }
asks_from _ from w e = absurd (cc (w))

-- ---- along the poll

module _ (p : ℕ) (i : Inputs) (n : ℕ) where
  record Going (t : Table Guarded) : Type 0 where
    pub inside : stage_at t.stages p ≡ Inside later
    pub sure : IsSure t.machine.lock (place_of t.machine p)
    pub value : t.machine.value ≡ n

  record Taken (a : Answer) (t : Table Guarded) : Type 0 where
    pub ready : a ≡ Answer.Ready (Value n)
    pub value : t.machine.value ≡ n
    pub holder : holder_of t.machine.lock ≡ Some p

  abbrev OnTo : Answer → World → Type 0
  OnTo = Onward (λ y. Going y.behind) (λ b y. Taken b y.behind)

  -- what an action leaves that leads on, or to having the lock
  module _ (what : What) (x : World) (a : Answer) (v : World) (d : Does p i what x.behind a v.behind) (stood : Stands x) (stands : Stands v) (was : x.behind.machine.value ≡ n) where
    there : p < length x.behind.machine.lock.places
    there = omega (arith, d.inside, stood.fits.as_many)

    lands : place_of v.behind.machine p ≡ place_after d.carries.from d.carries.next
    lands = ap (λ ps. place_at ps p) d.carries.carried.acts.places ∙ get_or-set_same x.behind.machine.lock.places p (place_after d.carries.from d.carries.next) Place.Out there

    goes_on : (b : _) (to : Place) → d.carries.next ≡ Next.Do b to → IsSure v.behind.machine.lock to → OnTo a v
    goes_on b to is sure =
        let stepped : a ≡ Answer.Stepped = d.carries.answer ∙ ap (answer_by false x.behind.machine.value) is in
        let at : place_of v.behind.machine p ≡ to = lands ∙ ap (place_after d.carries.from) is in
        let D : Answer → Type 0 = λ e. Does p i what x.behind e v.behind in
        record {
          going = λ e. record {
            inside = still_inside p i what x.behind v.behind (subst D stepped d);
            sure = subst (IsSure v.behind.machine.lock) (sym at) sure;
            value = d.carries.carried.value ∙ was;
          };
          ended = λ e. absurd (e stepped);
        }

    has_it : d.carries.next ≡ Next.End End.Got → OnTo a v
    has_it is =
        let ready : a ≡ Answer.Ready (Value x.behind.machine.value) = d.carries.answer ∙ ap (answer_by false x.behind.machine.value) is in
        let at : place_of v.behind.machine p ≡ Place.Holding = lands ∙ ap (place_after d.carries.from) is in
        record {
          going = λ e. absurd (cc (sym ready ∙ e));
          ended = λ e. record {
            ready = ready ∙ ap (λ k. Answer.Ready (Value k)) was;
            value = d.carries.carried.value ∙ was;
            holder = sees.holds_it v.behind.machine.lock.places p stands.laws.one_holder (ap holds at);
          };
        }

    by_next : (m : Next) → d.carries.next ≡ m → LeadsTo m → OnTo a v
    by_next (Next.Do b to) is leads = goes_on b to is (subst (IsSure v.behind.machine.lock) (sym leads) tt)
    by_next (Next.End e) is leads = has_it (is ∙ ap Next.End leads)

  onward : (x : World) (a : Answer) (v : World) → Going x.behind → Steps x (going_on p i) a v → OnTo a v
  onward x a v g s =
      let d = going p i x v a g.inside s in
      let l : Lock = x.behind.machine.lock in
      let acts = d.carries.carried.acts in
      let sure : IsSure l d.carries.from = subst (IsSure l) (some_eq d.carries.starts) g.sure in
      by_next (Go i) x a v d s.did.stood s.did.stands g.value d.carries.next refl (subst LeadsTo (sym acts.next_is) (sure_leads i.memory l d.carries.from acts.found acts.finds sure))

  first : (x : World) (a : Answer) (v : World) → stage_at x.behind.stages p ≡ Outside Rest.Pending → is_waiting (place_of x.behind.machine p) ≡ true → holders x.behind.machine.lock ≡ 0 → IsStarved x.behind.machine.lock p ⊎ (starved x.behind.machine.lock ≡ 0)
      → is_marked_at (is_party p) x.behind.machine.lock.entries ≡ true → x.behind.machine.value ≡ n → Steps x (beginning p Call.Poll i) a v → OnTo a v
  first x a v pending waits free why marked was s =
      let d = beginning_so p i x v a pending s in
      let l : Lock = x.behind.machine.lock in
      let from = asks_from (place_of x.behind.machine p) d.carries.from waits d.carries.starts in
      let on = begins_sure i.memory p d.carries.from d.carries.next l v.behind.machine.lock from.same (there (Begin Call.Poll i) x a v d s.did.stood s.did.stands was) (record { asks = from.asks; free = free; why = why }) marked d.carries.carried.acts in
      goes_on (Begin Call.Poll i) x a v d s.did.stood s.did.stands was on.1 on.0 on.2 on.4

-- ---- as callers see it

module _ (t : Table Guarded) (p : ℕ) (tm : IsMutex t.machine.lock) (tf : IsMutexTable t) (told : IsNotified (view_of t) p) where
  pub at_stage : stage_at t.stages p ≡ Outside Rest.Pending
  at_stage = outside_stage (verdict t.machine p) (stage_at t.stages p) Rest.Pending (sym (seen.stands_seen t p) ∙ told.pending)

  fits : goes_with (Outside Rest.Pending) (place_of t.machine p) ≡ true
  fits = by_stage_or_past_at t.stages p (goes_with (Outside Rest.Pending) (place_of t.machine p) ≡ true)
      (λ past. absurd (cc (sym past ∙ at_stage)))
      (λ inside. ap (λ s. goes_with s (place_of t.machine p)) (sym at_stage) ∙ tf.stands p inside)

  pub waits : is_waiting (place_of t.machine p) ≡ true
  waits = let some : 0 < listed (place_of t.machine p) = omega (arith, tm.owners p, marked_listed p t.machine.lock.entries told.marked) in waits_listed (place_of t.machine p) fits some

  why : (is_starved (view_of t).state p ≡ true) ⊎ (how_many (view_of t).state.starved ≡ 0) → IsStarved t.machine.lock p ⊎ (starved t.machine.lock ≡ 0)
  why (inl own) = inl (sym (sees.counted_bit (place_of t.machine p)) ∙ ap bit (sym (sees.starved_at t.machine.lock.places p) ∙ own))
  why (inr none) = inr (sym (sees.how_many_counted t.machine.lock.places) ∙ none)

pub notified_takes : (known : ℕ → Account) (w : World) (p : ℕ) (i : Inputs) (k : ℕ) (a : Answer) (v : World) → Stands w → Stands v → Runs known w (moves_of p Call.Poll i k) (answers_of k a) v → a ≢ Answer.Stepped
    → IsNotified w p → w.state.holder ≡ None → (is_starved w.state p ≡ true) ⊎ (how_many w.state.starved ≡ 0) → Takes w p a v
notified_takes known w p i k a v stood stands runs ended told free cause =
    let t = w.behind in
    let n : ℕ = t.machine.value in
    let told_so = subst (λ x. IsNotified x p) stood.seen told in
    let cause_so = subst (λ x. (is_starved x.state p ≡ true) ⊎ (how_many x.state.starved ≡ 0)) stood.seen cause in
    let taken = along Steps accounts_after HoldsWell p i (λ y. Going p i n y.behind) (λ b y. Taken p i n b y.behind) (onward p i n) known k w (beginning p Call.Poll i) a v
    (λ b x s. first p i n w b x (at_stage t p stood.laws stood.fits told_so) (waits t p stood.laws stood.fits told_so) (sees.none_holds 0 t.machine.lock.places (sym (ap (λ x. x.state.holder) stood.seen) ∙ free)) (why t p stood.laws stood.fits told_so cause_so) told_so.marked refl s)
    ended runs in
    subst (λ x. Takes x p a v) (sym stood.seen)
    (subst (Takes (view_of t) p a) (sym stands.seen)
    (record { ready = taken.ready ∙ ap (λ z. Answer.Ready (Value z)) (sym taken.value); kept = taken.value; holder = taken.holder }))
