-- Whom a finished generation has told.
use Rattle.world_barrier.proofs.Prelude.{◌≡◌, ◌≢◌, ℕ, ◌-◌, ◌<◌, ◌≤◌, true, false, Bool, List, [], ◌∷◌, length, refl, ap, arith, sym, ◌∙◌, subst, get_or-set_same, get_or-set_other, set, ℕ_discrete, Entry, marked_count, entries_of, is_unmarked, unmarked_before, Inputs, joins, asks, leaves, notifies, Action, Found, Place, EnterLock, WaitLock, TakeLock, Look, Join, Arrive, Complete, NotifyAll, Check, JoinAgain, ReleaseLock, ReleasingLock, Ask, CancelLock, CancellingLock, CancelLeave, Abandon, Position, Out, At, Progress, Words, progress, action_of, Finds, arrival_after, entries_after, everyone, listed, is_late, will_tell, Sure, position_at, arrival_at, AllTold}
use Rattle.lock_event.specs.declared.event.Mark.{Mark}
use Rattle.world_base.proofs.of_queue.Marks.{never_unlisted, all_marked}
use Rattle.world_barrier.proofs.of_machine.laws.Rows.{then, after, same_generation}
use Rattle.world_barrier.proofs.of_machine.laws.Listed.{lock_listed, cancel_listed}

few_marked : (l : List (Entry ℕ)) → marked_count l ≤ length l
few_marked [] = omega arith
few_marked (e ∷ es) = grind (arith, few_marked es)

-- who is notified with all others is marked
told_everyone : (j : ℕ) (l : List (Entry ℕ)) → length l ≤ 4294967295 → is_unmarked j (entries_after 0 Action.NotifyAll Found.Done l) ≡ true → ⊥
told_everyone j l few u =
    let less : marked_count l ≤ length l = few_marked l in
    let enough : length l ≤ everyone - marked_count l = omega arith in
    all_marked j Mark.Notified (everyone - marked_count l) l refl enough u

others_unmarked : (p : ℕ) (a : Action) (f : Found) (l : List (Entry ℕ)) (j : ℕ) → j ≢ p → is_unmarked j (entries_after p a f l) ≡ true → is_unmarked j l ≡ true
others_unmarked p Action.Join Found.Done l j apart h = unmarked_before p joins l j apart h
others_unmarked p Action.Join _ l j apart h = h
others_unmarked p Action.Ask f l j apart h = unmarked_before p asks l j apart h
others_unmarked p Action.Leave f l j apart h = unmarked_before p leaves l j apart h
others_unmarked p Action.NotifyAll f l j apart h = unmarked_before p (notifies everyone) l j apart h
others_unmarked p _ f l j apart h = h

module _ (i : Inputs) (p : ℕ) (a : Progress) (w : Words) (l : List (Entry ℕ)) where
  abbrev list_then : Place → Found → List (Entry ℕ)
  list_then x f = entries_after p (action_of x) f l

  -- who told all leaves nobody untold
  told_all : (x : Place) (f : Found) → will_tell (At x) ≡ true → length l ≤ 4294967295 → (j : ℕ) → is_unmarked j (list_then x f) ≡ true → ⊥
  told_all NotifyAll f h few j u = told_everyone j l few u
  told_all _ f h few j u = absurd (cc h)

  -- the party itself, while it is listed
  own_told : (x : Place) (f : Found) → Finds i p (action_of x) f w a l → Sure (At x) a w → entries_of p (list_then x f) ≡ listed (after x f) → is_unmarked p (list_then x f) ≡ true → is_late (after x f) ≡ false
      → (is_unmarked p l ≡ true → is_late (At x) ≡ false → a.generation ≡ w.progress.generation) → (arrival_after (action_of x) w a).generation ≡ (then x w).progress.generation
  own_told (EnterLock e) f finds s own u late was = absurd (never_unlisted p _ (own ∙ lock_listed e f) u)
  own_told (WaitLock e) f finds s own u late was = absurd (never_unlisted p _ (own ∙ lock_listed e f) u)
  own_told (TakeLock e) f finds s own u late was = absurd (never_unlisted p _ (own ∙ lock_listed e f) u)
  own_told (ReleaseLock e) f finds s own u late was = was u refl
  own_told (ReleasingLock e) f finds s own u late was = was u refl
  own_told CancelLock f finds s own u late was = absurd (never_unlisted p _ (own ∙ cancel_listed f) u)
  own_told CancellingLock f finds s own u late was = absurd (never_unlisted p _ (own ∙ cancel_listed f) u)
  own_told Look Found.MustWait finds s own u late was = absurd (never_unlisted p _ own u)
  own_told Look Found.Leads finds s own u late was = absurd (never_unlisted p _ own u)
  own_told Look _ finds s own u late was = absurd (never_unlisted p _ own u)
  own_told Join Found.Done finds s own u late was = absurd (cc late)
  own_told Join _ finds s own u late was = absurd (never_unlisted p _ own u)
  own_told Arrive _ finds s own u late was = refl
  own_told Complete _ finds s own u late was = refl
  own_told NotifyAll _ finds s own u late was = absurd (never_unlisted p _ own u)
  own_told Check Found.Finished finds s own u late was = absurd (never_unlisted p _ own u)
  own_told Check _ finds s own u late was = absurd (never_unlisted p _ own u)
  own_told JoinAgain Found.Done finds s own u late was = s
  own_told JoinAgain _ finds s own u late was = absurd (never_unlisted p _ own u)
  own_told Ask Found.Yes finds s own u late was = absurd (never_unlisted p _ own u)
  own_told Ask Found.No finds s own u late was = was (rw finds at u) refl
  own_told Ask _ finds s own u late was = absurd finds
  own_told CancelLeave _ finds s own u late was = absurd (never_unlisted p _ own u)
  own_told Abandon _ finds s own u late was = absurd (never_unlisted p _ own u)

module _ (i : Inputs) (p : ℕ) (w : Words) (xs : List Position) (rs : List Progress) (l : List (Entry ℕ)) (x : Place) (f : Found) where
  abbrev mine : Progress
  mine = arrival_at rs p

  abbrev to : Position
  to = after x f

  abbrev ys : List Position
  ys = set xs p to

  abbrev ss : List Progress
  ss = set rs p (arrival_after (action_of x) w mine)

  module _ (finds : Finds i p (action_of x) f w mine l) (sure : Sure (At x) mine w) (known : p < length xs) (as_many : p < length rs) (late : is_late (position_at xs p) ≡ is_late (At x)) (tells : will_tell (position_at xs p) ≡ will_tell (At x)) where
    landed : position_at ys p ≡ to
    landed = get_or-set_same xs p to Out known

    arrived : arrival_at ss p ≡ arrival_after (action_of x) w mine
    arrived = get_or-set_same rs p (arrival_after (action_of x) w mine) (progress 0 0) as_many

    -- where the party isn't about to tell all, and nobody is then, nobody was
    nobody : will_tell (At x) ≡ false → ((k : ℕ) → will_tell (position_at ys k) ≡ false) → (k : ℕ) → will_tell (position_at xs k) ≡ false
    nobody here none k = elim (ℕ_discrete k p) as (λ _. will_tell (position_at xs k) ≡ false) [
      | yes e ↦ ap (λ j. will_tell (position_at xs j)) e ∙ (tells ∙ here)
      | no apart ↦ ap will_tell (sym (get_or-set_other xs p k to Out apart)) ∙ none k
    ]

    pub all_told : AllTold w xs rs l → length l ≤ 4294967295 → entries_of p (entries_after p (action_of x) f l) ≡ listed to → AllTold (then x w) ys ss (entries_after p (action_of x) f l)
    all_told was few own none j u on_time = by_tell (will_tell (At x)) refl where
      same : (then x w).progress.generation ≡ w.progress.generation
      same = same_generation x f w (sym (ap will_tell landed) ∙ none p)

      by_tell : (b : Bool) → will_tell (At x) ≡ b → (arrival_at ss j).generation ≡ (then x w).progress.generation
      by_tell true is = absurd (told_all i p mine w l x f is few j u)
      by_tell false is = elim (ℕ_discrete j p) as (λ _. (arrival_at ss j).generation ≡ (then x w).progress.generation) [
        | yes e ↦ (let P : ℕ → Type 0 = λ k. is_unmarked k (entries_after p (action_of x) f l) ≡ true in
            let on : is_late to ≡ false = sym (ap is_late landed) ∙ (ap (λ k. is_late (position_at ys k)) (sym e) ∙ on_time) in
            let told : (arrival_after (action_of x) w mine).generation ≡ (then x w).progress.generation = own_told i p mine w l x f finds sure own (subst P e u) on (λ v h. was (nobody is none) p v (late ∙ h)) in
            ap (λ k. (arrival_at ss k).generation) e ∙ (ap (λ r. r.generation) arrived ∙ told))
        | no apart ↦ (let on : is_late (position_at xs j) ≡ false = ap is_late (sym (get_or-set_other xs p j to Out apart)) ∙ on_time in
            ap (λ r. r.generation) (get_or-set_other rs p j (arrival_after (action_of x) w mine) (progress 0 0) apart) ∙ (was (nobody is none) j (others_unmarked p (action_of x) f l j apart u) on ∙ sym same))
      ]
