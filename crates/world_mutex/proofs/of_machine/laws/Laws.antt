-- What always holds of a mutex, as callers see it.
use Rattle.world_mutex.proofs.Prelude.{◌≡◌, ℕ, Bool, true, zero, suc, List, [], ◌∷◌, length, refl, ap, arith, sym, ◌∙◌, marked_count, IsMarkedFirst, Queue, Place, Out, Holding, Ask, AskStarved, Action, Found, Done, Free, Held, SomeStarved, AtLimit, NoMemory, Yes, No, Word, bit, counted, listed, waits, owes, is_resting, OnWord, OnList, Lock, IsLock, place_at, Finds, IsMutex, ◌<◌, ◌⊎◌, inl, inr, is_waiting, is_due_there as is_due, Retry, PassOn, JoinStarved, LookAlone, PassOnListed, Seize, RefuseUncount, RefuseNotifyMemory, RefuseNotifyStarved, ReleaseNotify}
use Rattle.world_base.specs.queue.Debts.{Roles, Rests}
use Rattle.world_base.proofs.of_queue.Debts.{paid_at_rest}
use Rattle.world_base.proofs.of_table.Resting.{one_at_rest, nothing_owed}
use Rattle.world_base.proofs.Owing.{marked_or_owed}

abbrev roles : Roles Place
roles = record { listed = listed; waits = waits; owes = owes }

-- a resting party owes nothing, and waits where it is listed
rests : (x : Place) → is_resting x ≡ true → Rests roles x
rests Out h = (refl, refl)
rests Holding h = (refl, refl)
rests Ask h = (refl, refl)
rests AskStarved h = (refl, refl)
rests _ h = absurd (cc)

-- a starved party that rests is listed
starved_rests : (x : Place) → is_resting x ≡ true → counted x ≡ 1 → listed x ≡ 1
starved_rests AskStarved h c = refl
starved_rests Out h c = absurd (omega arith)
starved_rests Holding h c = absurd (omega arith)
starved_rests Ask h c = absurd (omega arith)
starved_rests _ h c = absurd (cc)

-- who waits has looked since it joined, and who owes is due
waits_so : (x : Place) → is_waiting x ≡ true → 0 < waits x
waits_so Ask h = omega arith
waits_so AskStarved h = omega arith
waits_so _ h = absurd (cc h)

in_places : (ps : List Place) (p : ℕ) → 0 < waits (place_at ps p) → p < length ps
in_places [] p h = absurd (omega arith)
in_places (x ∷ xs) zero h = omega arith
in_places (x ∷ xs) (suc p) h = let more = in_places xs p h in omega (arith, more)

owes_due : (x : Place) → 0 < owes x → is_due x ≡ true
owes_due Retry h = refl
owes_due PassOn h = refl
owes_due JoinStarved h = refl
owes_due LookAlone h = refl
owes_due PassOnListed h = refl
owes_due Seize h = refl
owes_due RefuseUncount h = refl
owes_due RefuseNotifyMemory h = refl
owes_due RefuseNotifyStarved h = refl
owes_due ReleaseNotify h = refl
owes_due _ h = absurd (omega arith)

module _ (w : Word) (places : List Place) (list : Queue) where
  abbrev the_lock : Lock
  the_lock = record { places = places; entries = list.entries; limit = w.limit }

  told_or_due : IsLock w places list → bit w.held ≡ 0 → (p : ℕ) → is_waiting (place_at places p) ≡ true → (0 < marked_count list.entries) ⊎ ((q : ℕ) × (is_due (place_at places q) ≡ true))
  told_or_due lock free p waiting =
      let some : 0 < waits (place_at places p) = waits_so (place_at places p) waiting in
      let there : p < length places = in_places places p some in
      elim (marked_or_owed Out (bit w.held ≡ 0) waits owes places (marked_count list.entries) p lock.sound.owed free there some) [
        | inl marked ↦ inl marked
        | inr one ↦ inr (one.0, owes_due (place_at places one.0) one.2)
      ]

  pub is_mutex : IsLock w places list → IsMarkedFirst list.entries → IsMutex the_lock
  is_mutex lock ordered =
      record {
        one_holder = omega (arith, lock.sound.held, lock.sound.one_holder);
        few_starved = omega (arith, lock.sound.starved, lock.sound.limited);
        owners = lock.owners;
        in_order = ordered;
        one_told = lock.one_told;
        told_or_due = λ free p waiting. told_or_due lock (omega (arith, free, lock.sound.held)) p waiting;
        wakes = λ rest free some. paid_at_rest roles (bit w.held ≡ 0) places (length list.entries) (marked_count list.entries) (nothing_owed is_resting roles rests places rest) lock.sound.in_list lock.sound.owed (omega (arith, lock.sound.held)) some;
        starved_listed = λ rest p counts. lock.owners p ∙ starved_rests (place_at places p) (one_at_rest is_resting Out refl places rest p) counts;
      }

  -- what an action found, said of the parties
  pub finds : (p : ℕ) (memory : Bool) (a : Action) (f : Found) (v : Word) (s t : Queue) → IsLock w places list → OnWord a f w v → OnList p memory a f s t → Finds memory a f the_lock
  finds p memory Action.Nothing Done v s t k e l = tt
  finds p memory Action.Nothing _ v s t k e l = absurd e
  finds p memory Action.Take Free v s t k e l = (k.sound.held ∙ ap bit e.0, k.sound.starved ∙ e.1)
  finds p memory Action.Take (Held starving) v s t k e l = (k.sound.held ∙ ap bit e.0, k.sound.starved ∙ e.1)
  finds p memory Action.Take SomeStarved v s t k e l = rw k.sound.starved e.0
  finds p memory Action.Take _ v s t k e l = absurd e
  finds p memory Action.TakeAlone Free v s t k e l = (k.sound.held ∙ ap bit e.0, k.sound.starved ∙ e.1)
  finds p memory Action.TakeAlone (Held starving) v s t k e l = k.sound.held ∙ ap bit e.0
  finds p memory Action.TakeAlone SomeStarved v s t k e l = (k.sound.held ∙ ap bit e.0, λ one. e.1 (sym k.sound.starved ∙ one))
  finds p memory Action.TakeAlone _ v s t k e l = absurd e
  finds p memory Action.Set Free v s t k e l = k.sound.held ∙ ap bit e.0
  finds p memory Action.Set (Held starving) v s t k e l = k.sound.held ∙ ap bit e.0
  finds p memory Action.Set _ v s t k e l = absurd e
  finds p memory Action.Count Done v s t k e l = rw k.sound.starved e.0
  finds p memory Action.Count AtLimit v s t k e l = k.sound.starved ∙ e.0
  finds p memory Action.Count _ v s t k e l = absurd e
  finds p memory Action.Uncount Done v s t k e l = tt
  finds p memory Action.Uncount _ v s t k e l = absurd e
  finds p memory Action.Clear Done v s t k e l = k.sound.held ∙ ap bit e.0
  finds p memory Action.Clear _ v s t k e l = absurd e
  finds p memory Action.Join Done v s t k e l = l.0
  finds p memory Action.Join NoMemory v s t k e l = l.0
  finds p memory Action.Join _ v s t k e l = absurd e
  finds p memory Action.Ask Yes v s t k e l = tt
  finds p memory Action.Ask No v s t k e l = tt
  finds p memory Action.Ask _ v s t k e l = absurd e
  finds p memory Action.Leave Done v s t k e l = tt
  finds p memory Action.Leave _ v s t k e l = absurd e
  finds p memory Action.Notify Done v s t k e l = tt
  finds p memory Action.Notify _ v s t k e l = absurd e
