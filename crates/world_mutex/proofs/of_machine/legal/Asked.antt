-- A poll of a party that stands in the list asks there, and does nothing else; and what takes the lock at once does nothing in the list.
use Rattle.world_mutex.proofs.Prelude.{◌≡◌, ℕ, ◌<◌, ◌==◌, ◌⊎◌, inl, inr, Bool, List, map, Some, if◌then◌else◌, refl, sym, ap, arith, subst, ◌∙◌, map-set_same, Entry, is_marked_at, is_party, asked, some_eq, none_some, Pending, LockCall, Step, Found, Free, Held, SomeStarved, Yes, No, Next, Place, start_of, action_of, next_of, place_after, step_of, Acts, Finds, Asks, Lock, place_at, OnParties, seen, is_holder, is_counted, holder_from}
use Rattle.lock_program.specs.MutexRoles as by
use Rattle.world_mutex.specs.machine.Mutex.{starved_of}
use Rattle.world_mutex.proofs.of_machine.laws.Kept.{after}
use Rattle.world_mutex.proofs.of_machine.laws.Seen.{same_holder}
use Rattle.world_mutex.proofs.of_machine.legal.Sights.{holder_seen, roster_seen}

abbrev IsAsking : Place → Type 0
IsAsking x = (x ≡ Place.Ask) ⊎ (x ≡ Place.AskStarved)

asks_from : (x from : Place) → start_of LockCall.Poll x ≡ Some from → 0 < by.listed x → (x ≡ from) × IsAsking from
asks_from Place.Out from e some = absurd (omega (arith, some))
asks_from Place.Ask from e some = (some_eq e, inl (sym (some_eq e)))
asks_from Place.AskStarved from e some = (some_eq e, inr (sym (some_eq e)))
asks_from _ from e some = absurd (none_some e)

record AskedAt (p : ℕ) (x : Place) (f : Found) (es ms : List (Entry ℕ)) : Type 0 where
  pub step : step_of (next_of x f) ≡ (if is_marked_at (is_party p) es then Step.More else Step.End Pending)
  pub entries : ms ≡ asked p es
  pub holds : is_holder (after x f) ≡ is_holder x
  pub counts : is_counted (after x f) ≡ is_counted x

asked_at : (memory : Bool) (p : ℕ) (l : Lock) (x : Place) (f : Found) (es ms : List (Entry ℕ)) → IsAsking x → Finds memory (action_of x) f l → OnParties p (action_of x) f es ms → AskedAt p x f es ms
asked_at memory p l Place.Ask Yes es ms h e o = record { step = rw o.0 refl; entries = rw o.0 o.1; holds = refl; counts = refl }
asked_at memory p l Place.Ask No es ms h e o = record { step = rw o.0 refl; entries = rw o.0 o.1; holds = refl; counts = refl }
asked_at memory p l Place.Ask _ es ms h e o = absurd e
asked_at memory p l Place.AskStarved Yes es ms h e o = record { step = rw o.0 refl; entries = rw o.0 o.1; holds = refl; counts = refl }
asked_at memory p l Place.AskStarved No es ms h e o = record { step = rw o.0 refl; entries = rw o.0 o.1; holds = refl; counts = refl }
asked_at memory p l Place.AskStarved _ es ms h e o = absurd e
asked_at memory p l _ f es ms h e o = absurd (elim h as (λ _. ⊥) [ inl e ↦ cc | inr e ↦ cc ])

-- the first action of a call that takes the lock at once looks, and counts nobody
record LookedAt (x : Place) (f : Found) (es ms : List (Entry ℕ)) : Type 0 where
  pub entries : ms ≡ es
  pub counts : is_counted (after x f) ≡ is_counted x

looked_at : (memory : Bool) (p : ℕ) (l : Lock) (x : Place) (f : Found) (es ms : List (Entry ℕ)) → (x ≡ Place.Enter) ⊎ (x ≡ Place.Try) → Finds memory (action_of x) f l → OnParties p (action_of x) f es ms → LookedAt x f es ms
looked_at memory p l Place.Enter Free es ms h e o = record { entries = o; counts = refl }
looked_at memory p l Place.Enter (Held b) es ms h e o = record { entries = o; counts = refl }
looked_at memory p l Place.Enter SomeStarved es ms h e o = record { entries = o; counts = refl }
looked_at memory p l Place.Enter _ es ms h e o = absurd e
looked_at memory p l Place.Try Free es ms h e o = record { entries = o; counts = refl }
looked_at memory p l Place.Try (Held b) es ms h e o = record { entries = o; counts = refl }
looked_at memory p l Place.Try SomeStarved es ms h e o = record { entries = o; counts = refl }
looked_at memory p l Place.Try _ es ms h e o = absurd e
looked_at memory p l _ f es ms h e o = absurd (elim h as (λ _. ⊥) [ inl e ↦ cc | inr e ↦ cc ])

is_one : (a b : ℕ) → a ≡ b → (a == 1) ≡ (b == 1)
is_one a b e = ap (λ (n : ℕ). n == 1) e

module _ (l k : Lock) (memory : Bool) (p : ℕ) (from : Place) (n : Next) (did : Acts memory p from n l k) where
  pub looks_here : by.counted from ≡ by.counted (place_at l.places p) → (from ≡ Place.Enter) ⊎ (from ≡ Place.Try) → (k.entries ≡ l.entries) × (starved_of (seen k) ≡ starved_of (seen l))
  looks_here same at =
      let so = looked_at memory p l from did.found l.entries k.entries at did.finds did.list in
      let lands : place_after from n ≡ after from did.found = ap (place_after from) did.next_is in
      (so.entries, roster_seen k.places ∙ (ap (map is_counted) did.places ∙ map-set_same is_counted l.places p (place_after from n) Place.Out (ap is_counted lands ∙ (so.counts ∙ is_one (by.counted from) (by.counted (place_at l.places p)) same)) ∙ sym (roster_seen l.places)))

  asks : place_at l.places p ≡ from → IsAsking from → Asks p (step_of n) (seen l) (seen k)
  asks here at =
      let so = asked_at memory p l from did.found l.entries k.entries at did.finds did.list in
      let lands : place_after from n ≡ after from did.found = ap (place_after from) did.next_is in record {
        step = ap step_of did.next_is ∙ so.step;
        entries = so.entries;
        holder = holder_seen 0 k.places ∙ (ap (holder_from 0) did.places ∙ same_holder 0 l.places p (place_after from n) (ap is_holder lands ∙ (so.holds ∙ ap is_holder (sym here))) ∙ sym (holder_seen 0 l.places));
        starved = roster_seen k.places ∙ (ap (map is_counted) did.places ∙ map-set_same is_counted l.places p (place_after from n) Place.Out (ap is_counted lands ∙ (so.counts ∙ ap is_counted (sym here))) ∙ sym (roster_seen l.places));
      }

  pub asks_here : (c : LockCall) → start_of c (place_at l.places p) ≡ Some from → c ≡ LockCall.Poll → 0 < by.listed (place_at l.places p) → Asks p (step_of n) (seen l) (seen k)
  asks_here c starts polls some =
      let S : LockCall → Type 0 = λ d. start_of d (place_at l.places p) ≡ Some from in
      let at = asks_from (place_at l.places p) from (subst S polls starts) some in
      asks at.0 at.1
