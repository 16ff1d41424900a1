-- The items: how many there are of each, what an action makes of them, and that whoever has a permit and the lock finds one.
use Rattle.world_pool.proofs.Prelude.{◌≡◌, ℕ, ◌+◌, ◌<◌, ◌≤◌, zero, suc, Bool, true, false, Option, Some, None, is_some, List, [], ◌∷◌, length, get_or, length-set, get_or-set_same, get_or-set_other, set, replicate, refl, arith, ap, sym, ◌∙◌, subst, sum_by, ℕ_discrete, false≢true, Permits, permit_course, IsPermits, Action, Push, Lose, Aim, Ending, EnterLock, WaitLock, TakeLock, ReleaseLock, ReleasingLock, CancelLock, CancellingLock, Position, Made, Locking, Leased, Out, Acquiring, At, OnItems, InPermits, has, fits_permits, in_permits, is_leased, is_resting, is_taking_out, position_at, lease_at, numbered, as_number, is_item, leases_item, in_list, leased, leases_any, how_many_leased, AreDifferent, how_many_taking_out, IsAtRest}
use Rattle.std.proofs.lemmas.List.Sums.{sum_by-cons, sum_by_push, sum_by-set, get_or-le-sum_by}
use Rattle.std.proofs.lemmas.List.{length-append}
use Rattle.world_base.proofs.Alike.{none_of_all}
use Rattle.world_base.proofs.Equations.{same_test, other_test}
use Rattle.world_base.proofs.of_table.Resting.{all_at_rest, one_at_rest}
use Rattle.world_semaphore.specs.machine.Permits as semaphore
use Rattle.world_semaphore.specs.machine.Seats.{permits_of}
use Rattle.world_pool.proofs.of_machine.Links.{is_one}
use Rattle.world_semaphore.specs.machine.Course as course

-- ---- a new list

pub as_many_numbered : (n : ℕ) → length (numbered n) ≡ n
as_many_numbered zero = refl
as_many_numbered (suc n) = omega (arith, length-append (numbered n) (n ∷ []), as_many_numbered n)

same_item : (i k : ℕ) → k ≡ i → is_item i k ≡ 1
same_item i k e = rw (same_test k i e) refl

other_item : (i k : ℕ) → (k ≡ i → ⊥) → is_item i k ≡ 0
other_item i k e = rw (other_test k i e) refl

none_past : (i n : ℕ) → n ≤ i → in_list i (numbered n) ≡ 0
none_past i zero h = refl
none_past i (suc n) h = omega (arith, sum_by_push (is_item i) (numbered n) n, none_past i n (omega arith), other_item i n (λ e. omega arith))

once_numbered : (i n : ℕ) → in_list i (numbered n) ≤ 1
once_numbered i zero = omega arith
once_numbered i (suc n) = elim (ℕ_discrete n i) as (λ _. in_list i (numbered (suc n)) ≤ 1) [
  | yes e ↦ omega (arith, sum_by_push (is_item i) (numbered n) n, none_past i n (omega arith), same_item i n e)
  | no apart ↦ omega (arith, sum_by_push (is_item i) (numbered n) n, once_numbered i n, other_item i n apart)
]

below_numbered : (i n : ℕ) → 0 < in_list i (numbered n) → i < n
below_numbered i zero h = absurd (omega arith)
below_numbered i (suc n) h = elim (ℕ_discrete n i) as (λ _. i < suc n) [
  | yes e ↦ omega arith
  | no apart ↦ (let less : i < n = below_numbered i n (omega (arith, sum_by_push (is_item i) (numbered n) n, other_item i n apart)) in omega arith)
]

none_leased : (i n : ℕ) → leased i (replicate n None) ≡ 0
none_leased i n = none_of_all (leases_item i) None refl n

pub none_leased_at_all : (n : ℕ) → how_many_leased (replicate n None) ≡ 0
none_leased_at_all n = none_of_all leases_any None refl n

pub different_at_first : (parties items : ℕ) → AreDifferent items (numbered items) (replicate parties None)
different_at_first parties items = record {
  once = λ i. omega (arith, once_numbered i items, none_leased i parties);
  below = λ i h. below_numbered i items (omega (arith, none_leased i parties));
}

-- ---- what an action makes of them

abbrev pub is_pop : Action → Bool
is_pop Action.Pop = true
is_pop _ = false

abbrev pub is_loss : Action → Bool
is_loss Action.Lose = true
is_loss _ = false

-- no item becomes more
pub no_more : (i : ℕ) (a : Action) (items : List ℕ) (lease : Option ℕ) (new : List ℕ) (then : Option ℕ) → OnItems a items lease new then → in_list i new + leases_item i then ≤ in_list i items + leases_item i lease
no_more i Action.Pop items lease new then e =
    let pushed = ap (in_list i) e.1 ∙ sum_by_push (is_item i) new e.0 in
    let mine = ap (leases_item i) e.2 in
    omega arith
no_more i Action.Push items lease new then e =
    let pushed = ap (in_list i) e.2 ∙ sum_by_push (is_item i) items e.0 in
    let mine = ap (leases_item i) e.1 in
    let gone = ap (leases_item i) e.3 in
    omega arith
no_more i Action.Lose items lease new then e =
    let same = ap (in_list i) e.0 in
    let gone = ap (leases_item i) e.1 in
    omega arith
no_more i _ items lease new then e =
    let same = ap (in_list i) e.0 in
    let mine = ap (leases_item i) e.1 in
    omega arith

-- and they are as many, but for one that is lost
pub as_many : (a : Action) (items : List ℕ) (lease : Option ℕ) (new : List ℕ) (then : Option ℕ) → OnItems a items lease new then → (is_pop a ≡ true → is_some lease ≡ false) → (is_loss a ≡ true → is_some lease ≡ true)
    → length new + leases_any then + as_number (is_loss a) ≡ length items + leases_any lease
as_many Action.Pop items lease new then e none some =
    let pushed = ap length e.1 ∙ length-append new (e.0 ∷ []) in
    let mine = ap leases_any e.2 in
    let before = ap as_number (none refl) in
    omega arith
as_many Action.Push items lease new then e none some =
    let pushed = ap length e.2 ∙ length-append items (e.0 ∷ []) in
    let mine = ap leases_any e.1 in
    let gone = ap leases_any e.3 in
    omega arith
as_many Action.Lose items lease new then e none some =
    let same = ap length e.0 in
    let gone = ap leases_any e.1 in
    let before = ap as_number (some refl) in
    omega arith
as_many _ items lease new then e none some =
    let same = ap length e.0 in
    let mine = ap leases_any e.1 in
    omega arith

module _ (made : ℕ) (items new : List ℕ) (leases : List (Option ℕ)) (p : ℕ) (then : Option ℕ) (known : p < length leases) where
  abbrev lease : Option ℕ
  lease = lease_at leases p

  pub different_then : AreDifferent made items leases → ((i : ℕ) → in_list i new + leases_item i then ≤ in_list i items + leases_item i lease) → AreDifferent made new (set leases p then)
  different_then d less = record {
    once = λ i. omega (arith, d.once i, less i, sum_by-set (leases_item i) leases p then None known);
    below = λ i h. d.below i (omega (arith, less i, sum_by-set (leases_item i) leases p then None known));
  }

  pub counted_then : (lost limit limit' : ℕ) → length items + how_many_leased leases ≡ limit → length new + leases_any then + lost ≡ length items + leases_any lease → limit' + lost ≡ limit → length new + how_many_leased (set leases p then) ≡ limit'
  counted_then lost limit limit' was is limits = omega (arith, sum_by-set leases_any leases p then None known)

-- ---- sums over two lists, party by party

pub sum_le : {A B : Type 0} (f : A → ℕ) (g : B → ℕ) (xs : List A) (ys : List B) (d : A) (e : B) → length xs ≡ length ys → ((j : ℕ) → f (get_or xs j d) ≤ g (get_or ys j e)) → sum_by f xs ≤ sum_by g ys
sum_le f g [] [] d e same h = omega arith
sum_le f g [] (y ∷ ys) d e same h = absurd (omega arith)
sum_le f g (x ∷ xs) [] d e same h = absurd (omega arith)
sum_le f g (x ∷ xs) (y ∷ ys) d e same h = omega (arith, sum_by-cons f x xs, sum_by-cons g y ys, h 0, sum_le f g xs ys d e (omega arith) (λ j. h (suc j)))

pub sum_both : {A B C : Type 0} (f : A → ℕ) (g : B → ℕ) (h : C → ℕ) (xs : List A) (ys : List B) (zs : List C) (d : A) (e : B) (c : C) → length ys ≡ length xs → length zs ≡ length xs → ((j : ℕ) → f (get_or xs j d) ≡ g (get_or ys j e) + h (get_or zs j c)) → sum_by f xs ≡ sum_by g ys + sum_by h zs
sum_both f g h [] [] [] d e c s t k = refl
sum_both f g h [] (y ∷ ys) zs d e c s t k = absurd (omega arith)
sum_both f g h [] [] (z ∷ zs) d e c s t k = absurd (omega arith)
sum_both f g h (x ∷ xs) [] zs d e c s t k = absurd (omega arith)
sum_both f g h (x ∷ xs) (y ∷ ys) [] d e c s t k = absurd (omega arith)
sum_both f g h (x ∷ xs) (y ∷ ys) (z ∷ zs) d e c s t k = omega (arith, sum_by-cons f x xs, sum_by-cons g y ys, sum_by-cons h z zs, k 0, sum_both f g h xs ys zs d e c (omega arith) (omega arith) (λ j. k (suc j)))

-- ---- permits and leases

-- how many permits a party has there
abbrev pub permits_in : course.Course → ℕ
permits_in c = permits_of (course.share c)

pub has_one : (c : course.Course) → fits_permits has c ≡ true → permits_in c ≡ 1
has_one (course.holding k) h = is_one k h
has_one _ h = absurd (false≢true h)

pub lease_has : (x : Position) → is_leased x ≡ true → in_permits x ≡ has
lease_has (Made Aim.Give) h = refl
lease_has (Locking a) h = refl
lease_has Leased h = refl
lease_has (At (EnterLock a)) h = refl
lease_has (At (WaitLock a)) h = refl
lease_has (At (TakeLock a)) h = refl
lease_has (At Push) h = refl
lease_has (At (ReleaseLock (Ending.Leased k))) h = refl
lease_has (At (ReleasingLock (Ending.Leased k))) h = refl
lease_has (At (CancelLock a)) h = refl
lease_has (At (CancellingLock a)) h = refl
lease_has (At Lose) h = refl
lease_has _ h = absurd (cc)

module _ (xs : List Position) (ls : List (Option ℕ)) (m : Permits) (sem : IsPermits m) (links : (j : ℕ) → fits_permits (in_permits (position_at xs j)) (permit_course m.courses j) ≡ true)
    (leases : (j : ℕ) → is_some (lease_at ls j) ≡ is_leased (position_at xs j)) (many : length ls ≡ length xs) (courses : length m.courses ≡ length xs) where
  one_permit : (j : ℕ) → in_permits (position_at xs j) ≡ has → permits_in (permit_course m.courses j) ≡ 1
  one_permit j h = let P : InPermits → Type 0 = λ q. fits_permits q (permit_course m.courses j) ≡ true in has_one (permit_course m.courses j) (subst P h (links j))

  covered_by : (j : ℕ) (b : Bool) → is_leased (position_at xs j) ≡ b → as_number b ≤ permits_in (permit_course m.courses j)
  covered_by j true e = let one = one_permit j (lease_has (position_at xs j) e) in omega arith
  covered_by j false e = omega arith

  covered : (j : ℕ) → leases_any (lease_at ls j) ≤ permits_in (permit_course m.courses j)
  covered j = rw (leases j) (covered_by j (is_leased (position_at xs j)) refl)

  -- whoever has a permit and no lease finds an item
  pub finds : (p : ℕ) (items : List ℕ) → p < length xs → in_permits (position_at xs p) ≡ has → is_leased (position_at xs p) ≡ false → length items + how_many_leased ls ≡ m.words.limit → 0 < length items
  finds p items known h none counted =
      let inside : p < length ls = rw many known in
      let one = one_permit p h in
      let bare : leases_any (lease_at ls p) ≡ 0 = ap as_number (leases p ∙ none) in
      let more = sum_by-set leases_any ls p (Some 0) None inside in
      let each : (j : ℕ) → leases_any (lease_at (set ls p (Some 0)) j) ≤ permits_in (permit_course m.courses j) = λ j. elim (ℕ_discrete j p) as (λ _. leases_any (lease_at (set ls p (Some 0)) j) ≤ permits_in (permit_course m.courses j)) [
        | yes e ↦ (let P : ℕ → Type 0 = λ k. leases_any (lease_at (set ls p (Some 0)) k) ≤ permits_in (permit_course m.courses k) in subst P (sym e) (rw (get_or-set_same ls p (Some 0) None inside) (omega arith)))
        | no apart ↦ rw (get_or-set_other ls p j (Some 0) None apart) (covered j)
      ] in
      let less = sum_le leases_any permits_in (set ls p (Some 0)) m.courses None course.out (length-set ls p (Some 0) ∙ (many ∙ sym courses)) each in
      omega (arith, sem.balanced)

  -- whoever puts its item back finds room
  pub has_room : (p : ℕ) (items : List ℕ) (room : ℕ) → p < length xs → is_leased (position_at xs p) ≡ true → length items + how_many_leased ls ≡ m.words.limit → m.words.most ≤ room → length items < room
  has_room p items room known h counted roomy =
      let inside : p < length ls = rw many known in
      let one : leases_any (lease_at ls p) ≡ 1 = ap as_number (leases p ∙ h) in
      let some = get_or-le-sum_by leases_any ls p None inside in
      omega (arith, sem.limited)

  -- at rest
  resting_permits : (x : Position) (c : course.Course) → is_resting x ≡ true → fits_permits (in_permits x) c ≡ true → permits_in c ≡ as_number (is_leased x) + as_number (is_taking_out x)
  resting_permits Out (course.out) r h = refl
  resting_permits (Made Aim.Take) (course.out) r h = refl
  resting_permits Acquiring (course.unlisted k) r h = refl
  resting_permits Acquiring (course.waiting k) r h = refl
  resting_permits (Made Aim.Give) c r h = has_one c h
  resting_permits (Locking Aim.Take) c r h = has_one c h
  resting_permits (Locking Aim.Give) c r h = has_one c h
  resting_permits Leased c r h = has_one c h
  resting_permits _ _ r h = absurd (cc)

  resting_course : (x : Position) (c : course.Course) → is_resting x ≡ true → fits_permits (in_permits x) c ≡ true → course.is_resting c ≡ true
  resting_course Out (course.out) r h = refl
  resting_course (Made Aim.Take) (course.out) r h = refl
  resting_course Acquiring (course.unlisted k) r h = refl
  resting_course Acquiring (course.waiting k) r h = refl
  resting_course (Made Aim.Give) (course.holding k) r h = refl
  resting_course (Locking a) (course.holding k) r h = refl
  resting_course Leased (course.holding k) r h = refl
  resting_course _ _ r h = absurd (cc)

  rests_there : IsAtRest xs → semaphore.IsAtRest m.courses
  rests_there rest = all_at_rest course.is_resting course.out m.courses (λ j i. resting_course (position_at xs j) (permit_course m.courses j) (one_at_rest is_resting Out refl xs rest j) (links j))

  pub balanced_at_rest : (items : List ℕ) → length items + how_many_leased ls ≡ m.words.limit → IsAtRest xs → length items ≡ m.words.available + how_many_taking_out xs
  balanced_at_rest items counted rest =
      let all = sem.all_given (rests_there rest) in
      let each : (j : ℕ) → permits_in (permit_course m.courses j) ≡ leases_any (lease_at ls j) + as_number (is_taking_out (position_at xs j)) = λ j. rw (leases j) (resting_permits (position_at xs j) (permit_course m.courses j) (one_at_rest is_resting Out refl xs rest j) (links j)) in
      let both = sum_both permits_in leases_any (λ x. as_number (is_taking_out x)) m.courses ls xs course.out None Out (many ∙ sym courses) (sym courses) each in
      omega arith
