-- What is known of a list that is about to be given back.
use Rattle.std.proofs.Common.{◌≡◌, ℕ, ◌<◌, ◌≤◌, Bool, true, false, List, [], ◌∷◌, ◌++◌, refl, sym, ap, ◌∙◌, subst, Result, Ok, Err, IfOk, OnErr, MatchBool, MatchResult}
use Rattle.atomic_table.specs.Table.{Me, rest}
use Rattle.words_permits.specs.Steps.{Says, IsHeld, CanJoin, CanHear, CanLeave, CanPay, CanStay, Out}
use Rattle.words_permits.specs.Waiters.{Waiter, waiter, StandsIn, HasNo, all_but, AreWaiters}
use Rattle.words_permits.specs.declared.view.View.{View}
use Rattle.words_base.proofs.Holding.{same_out}
use Rattle.lock_queue.specs.Asking.{ByHeard}
use Rattle.lock_queue.specs.declared.heard.Heard.{Heard}
use Rattle.lock_queue.specs.declared.heard.Heard.TheVariants.{Told, Waits}

module _ {S : Type 0} (waiters_of : S → List Waiter) (marked_of : S → ℕ) (m : Me S View) (held : IsHeld waiters_of marked_of m) where
  -- the slot that the seat took last is the list's
  pub lent : (old : S) × (m.1 ≡ (0, old) ∷ rest m.1)
  lent = (held.0, held.4)

  -- the same list
  same : (now : S) → m.1 ≡ (0, now) ∷ rest m.1 → held.0 ≡ now
  same now e = sym (same_out now held.0 m.1 (rest m.1) e held.4)

  waiters-now : (now : S) → m.1 ≡ (0, now) ∷ rest m.1 → waiters_of now ≡ m.0.waiters
  waiters-now now e = ap waiters_of (sym (same now e)) ∙ sym held.2

  marked-now : (now : S) → m.1 ≡ (0, now) ∷ rest m.1 → marked_of now ≡ m.0.marked
  marked-now now e = ap marked_of (sym (same now e)) ∙ sym held.3

  sound-now : (now : S) → m.1 ≡ (0, now) ∷ rest m.1 → AreWaiters (waiters_of now)
  sound-now now e = subst (λ (l : S). AreWaiters (waiters_of l)) (same now e) held.5

  abbrev After : S → Me S View
  After left = (m.0, (0, left) ∷ rest m.1)

  has : (left : S) (n : ℕ) → Says (waiters_of left) n → Out waiters_of marked_of (After left) n left
  has left n says = (held.1, refl, says)

  pub stays : (now left : S) (n : ℕ) → m.1 ≡ (0, now) ∷ rest m.1 → Says (waiters_of left) n → (waiters_of left ≡ waiters_of now) × (marked_of left ≡ marked_of now) → CanStay waiters_of marked_of (After left) n
  stays now left n e says f = (left, has left n says, f.0 ∙ waiters-now now e, f.1 ∙ marked-now now e)

  abbrev Joins : S → S → ℕ → ℕ → Type 0
  Joins now left entry k = (waiters_of left ≡ waiters_of now ++ waiter entry k ∷ []) × (marked_of left ≡ marked_of now) × HasNo entry (waiters_of now)

  joins : (now left : S) (n entry k : ℕ) → m.1 ≡ (0, now) ∷ rest m.1 → Says (waiters_of left) n → 0 < k → Joins now left entry k → CanJoin waiters_of marked_of (After left) n (waiter entry k)
  joins now left n entry k e says some f = (
    left,
    has left n says,
    f.0 ∙ ap (λ (l : List Waiter). l ++ waiter entry k ∷ []) (waiters-now now e),
    f.1 ∙ marked-now now e,
    subst (HasNo entry) (waiters-now now e) f.2,
    some,
  )

  pub joined : {A B : Type 0} (entry_of : A → ℕ) (k : ℕ) (now left : S) (n : ℕ) (r : Result A B) → m.1 ≡ (0, now) ∷ rest m.1 → Says (waiters_of left) n → 0 < k
      → IfOk r (λ a. Joins now left (entry_of a) k) → OnErr r ((waiters_of left ≡ waiters_of now) × (marked_of left ≡ marked_of now))
      → MatchResult r (λ a. CanJoin waiters_of marked_of (After left) n (waiter (entry_of a) k)) (λ _. CanStay waiters_of marked_of (After left) n)
  joined entry_of k now left n (Ok a) e says some f g = joins now left n (entry_of a) k e says some f
  joined entry_of k now left n (Err b) e says some f g = stays now left n e says g

  pub pays : (available : ℕ) (now left : S) (n : ℕ) → m.1 ≡ (0, now) ∷ rest m.1 → Says (waiters_of left) n
      → (waiters_of left ≡ waiters_of now) × (marked_of now ≤ marked_of left) × ((w : Waiter) → StandsIn (waiters_of left) w → w.weight ≤ available → 1 ≤ marked_of left)
      × (marked_of now ≡ 0 → 1 ≤ marked_of left → (w : Waiter) × StandsIn (waiters_of left) w × (w.weight ≤ available)) → CanPay waiters_of marked_of (After left) n available
  pays available now left n e says f = (left, has left n says, f.0 ∙ waiters-now now e, subst (λ (k : ℕ). k ≤ marked_of left) (marked-now now e) f.1, f.2, (λ before after. f.3 (marked-now now e ∙ before) after))

  abbrev Goes : S → S → ℕ → Type 0
  Goes now left entry = AreWaiters (waiters_of now) → waiters_of left ≡ all_but entry (waiters_of now)

  goes : (entry : ℕ) (now left : S) → m.1 ≡ (0, now) ∷ rest m.1 → Goes now left entry → waiters_of left ≡ all_but entry m.0.waiters
  goes entry now left e f = f (sound-now now e) ∙ ap (all_but entry) (waiters-now now e)

  hears : (entry : ℕ) (now left : S) (n : ℕ) → m.1 ≡ (0, now) ∷ rest m.1 → Says (waiters_of left) n → Goes now left entry → CanHear waiters_of marked_of (After left) n entry
  hears entry now left n e says f = (left, has left n says, goes entry now left e f)

  pub removed : (entry : ℕ) (now left : S) (n : ℕ) (b : Bool) → m.1 ≡ (0, now) ∷ rest m.1 → Says (waiters_of left) n
      → MatchBool b (Goes now left entry) (Goes now left entry × (marked_of left ≡ marked_of now))
      → MatchBool b (CanHear waiters_of marked_of (After left) n entry) (CanLeave waiters_of marked_of (After left) n entry)
  removed entry now left n true e says f = hears entry now left n e says f
  removed entry now left n false e says f = (left, has left n says, goes entry now left e f.0, f.1 ∙ marked-now now e)

  pub asks : (entry : ℕ) (now left : S) (n : ℕ) (h : Heard) → m.1 ≡ (0, now) ∷ rest m.1 → Says (waiters_of left) n
      → ByHeard h (Goes now left entry) (λ _. (waiters_of left ≡ waiters_of now) × (marked_of left ≡ marked_of now))
      → ByHeard h (CanHear waiters_of marked_of (After left) n entry) (λ _. CanStay waiters_of marked_of (After left) n)
  asks entry now left n (Told kept) e says f = hears entry now left n e says f
  asks entry now left n (Waits k) e says f = stays now left n e says f
