-- Each step keeps what always holds of the numbers.
use Rattle.world_semaphore.proofs.Prelude.{◌≡◌, ℕ, ◌+◌, ◌<◌, ◌≤◌, ◌⊎◌, inl, inr, true, false, Option, Some, None, nat_le, ◌==◌, refl, arith, le-leb, nat_tests, Action, Found, Done, Left, Short, Available, PastLimit, NoMemory, Yes, No, Place, Take, Retake, Join, Ask, Remove, Load, HandOn, PassOn, RefuseFit, Try, Lower, GiveBack, Raise, GiveAdded, FitAdded, CancelRemove, CancelLoad, FitGivenBack, Abandon, Position, told_more, after_taking_with, action_of, next_of, position_after, seat_of, seated, waits_for, waits, bit, pays, fit_if, Tally, Counts}
use Rattle.world_semaphore.specs.machine.Tally.{IsSound}
use Rattle.world_semaphore.proofs.of_machine.laws.Steps.{OnTally, Goes}

abbrev pub after : Place → Found → Position
after x f = position_after (next_of x f)

-- who is to tell of so many pays for whom they are enough
pub enough : (s c : ℕ) → s ≤ c → bit (nat_le s c) ≡ 1
enough s c h = rw (le-leb s c h) refl

pub pays_or_not : (s c : ℕ) → (s ≤ c) ⊎ (bit (nat_le s c) ≡ 0)
pays_or_not s c = grind (arith, nat_tests)

-- what is told of is what is left
pub more_is : (c d : ℕ) → told_more true c ≡ Some d → d ≡ c
more_is c d h = grind (arith, nat_tests)

pub no_more : (c : ℕ) → told_more true c ≡ None → c ≡ 0
no_more c h = grind (arith, nat_tests)

more_pays : (s c : ℕ) → 0 < s → s ≤ c → bit (pays s (fit_if (told_more true c))) ≡ 1
more_pays s c some few = by_more (told_more true c) refl where
  by_more : (o : Option ℕ) → told_more true c ≡ o → bit (pays s (fit_if o)) ≡ 1
  by_more (Some d) is = enough s d (omega (arith, more_is c d is))
  by_more None is = absurd (omega (arith, no_more c is))

-- who wants more than there are doesn't wait for fewer
waits_else : (s k c : ℕ) → s ≤ c → c < k → bit (k == s) ≡ 0
waits_else s k c few short = grind (arith, nat_tests)

module _ (s : ℕ) (some : 0 < s) (t u : Tally) (a b : Counts) where
  -- rows: place, finding
  pub kept : (x : Place) (f : Found) → OnTally s a.waiting (action_of x) f t u → IsSound s t a → Goes s (seat_of x) (seated (after x f)) (waits_for s x) (waits s (after x f)) a b → IsSound s u b
  kept (Take k false true) (Left c) e i g = by_more (told_more true c) refl e i g where
    by_more : (o : Option ℕ) → told_more true c ≡ o → OnTally s a.waiting (Action.Take k) (Left c) t u → IsSound s t a → Goes s (seat_of (Take k false true)) (seated (position_after (after_taking_with k false o))) 0 (waits s (position_after (after_taking_with k false o))) a b → IsSound s u b
    by_more (Some d) is e i g = let same = more_is c d is in record { balanced = omega arith; limited = omega arith; in_list = omega arith; owed = λ h w. let pays = enough s d (omega arith) in omega (arith, pays) }
    by_more None is e i g = let none = no_more c is in record { balanced = omega arith; limited = omega arith; in_list = omega arith; owed = λ h w. omega arith }
  kept (Take k false true) (Short c) e i g = record { balanced = omega arith; limited = omega arith; in_list = omega arith; owed = λ h w. let pays = enough s c (omega arith) in omega (arith, pays) }
  kept (Take k false false) (Left c) e i g = record { balanced = omega arith; limited = omega arith; in_list = omega arith; owed = λ h w. omega arith }
  kept (Take k false false) (Short c) e i g = record { balanced = omega arith; limited = omega arith; in_list = omega arith; owed = λ h w. omega arith }
  kept (Take k true true) (Left c) e i g = record { balanced = omega arith; limited = omega arith; in_list = omega arith; owed = λ h w. let pays = more_pays s c some (omega arith) in omega (arith, pays) }
  kept (Take k true true) (Short c) e i g = record { balanced = omega arith; limited = omega arith; in_list = omega arith; owed = λ h w. let pays = enough s c (omega arith) in omega (arith, pays) }
  kept (Take k true false) (Left c) e i g = record { balanced = omega arith; limited = omega arith; in_list = omega arith; owed = λ h w. omega arith }
  kept (Take k true false) (Short c) e i g = record { balanced = omega arith; limited = omega arith; in_list = omega arith; owed = λ h w. let none = waits_else s k c (omega arith) (omega arith) in omega (arith, none) }
  kept (Take k listed told) _ e i g = absurd e
  kept (Retake k) (Left c) e i g = record { balanced = omega arith; limited = omega arith; in_list = omega arith; owed = λ h w. omega arith }
  kept (Retake k) (Short c) e i g = record { balanced = omega arith; limited = omega arith; in_list = omega arith; owed = λ h w. omega arith }
  kept (Retake k) _ e i g = absurd e
  kept (Join k (Some c)) Done e i g = record { balanced = omega arith; limited = omega arith; in_list = omega arith; owed = λ h w. omega arith }
  kept (Join k (Some c)) NoMemory e i g = record { balanced = omega arith; limited = omega arith; in_list = omega arith; owed = λ h w. omega arith }
  kept (Join k None) Done e i g = record { balanced = omega arith; limited = omega arith; in_list = omega arith; owed = λ h w. omega arith }
  kept (Join k None) NoMemory e i g = record { balanced = omega arith; limited = omega arith; in_list = omega arith; owed = λ h w. omega arith }
  kept (Join k told) _ e i g = absurd e
  kept (Ask k (Some c)) Yes e i g = record { balanced = omega arith; limited = omega arith; in_list = omega arith; owed = λ h w. omega arith }
  kept (Ask k (Some c)) No e i g = record { balanced = omega arith; limited = omega arith; in_list = omega arith; owed = λ h w. omega arith }
  kept (Ask k None) Yes e i g = record { balanced = omega arith; limited = omega arith; in_list = omega arith; owed = λ h w. omega arith }
  kept (Ask k None) No e i g = record { balanced = omega arith; limited = omega arith; in_list = omega arith; owed = λ h w. omega arith }
  kept (Ask k told) _ e i g = absurd e
  kept (Remove k (Some c)) Yes e i g = record { balanced = omega arith; limited = omega arith; in_list = omega arith; owed = λ h w. omega arith }
  kept (Remove k (Some c)) No e i g = record { balanced = omega arith; limited = omega arith; in_list = omega arith; owed = λ h w. omega arith }
  kept (Remove k None) Yes e i g = record { balanced = omega arith; limited = omega arith; in_list = omega arith; owed = λ h w. omega arith }
  kept (Remove k None) No e i g = record { balanced = omega arith; limited = omega arith; in_list = omega arith; owed = λ h w. omega arith }
  kept (Remove k more) _ e i g = absurd e
  kept (Load k) (Available c) e i g = record { balanced = omega arith; limited = omega arith; in_list = omega arith; owed = λ h w. let pays = enough s c (omega arith) in omega (arith, pays) }
  kept (Load k) _ e i g = absurd e
  kept (HandOn k c) Done e i g = record { balanced = omega arith; limited = omega arith; in_list = omega arith; owed = λ h w. elim (pays_or_not s c) as (λ _. 0 < b.owing + u.marked) [ inl few ↦ (let marks = e.3 few (omega arith) in omega (arith, marks)) | inr none ↦ omega (arith, none) ] }
  kept (HandOn k c) _ e i g = absurd e
  kept (PassOn k c) Done e i g = record { balanced = omega arith; limited = omega arith; in_list = omega arith; owed = λ h w. elim (pays_or_not s c) as (λ _. 0 < b.owing + u.marked) [ inl few ↦ (let marks = e.3 few (omega arith) in omega (arith, marks)) | inr none ↦ omega (arith, none) ] }
  kept (PassOn k c) _ e i g = absurd e
  kept (RefuseFit k c) Done e i g = record { balanced = omega arith; limited = omega arith; in_list = omega arith; owed = λ h w. elim (pays_or_not s c) as (λ _. 0 < b.owing + u.marked) [ inl few ↦ (let marks = e.3 few (omega arith) in omega (arith, marks)) | inr none ↦ omega (arith, none) ] }
  kept (RefuseFit k c) _ e i g = absurd e
  kept (FitAdded c) Done e i g = record { balanced = omega arith; limited = omega arith; in_list = omega arith; owed = λ h w. elim (pays_or_not s c) as (λ _. 0 < b.owing + u.marked) [ inl few ↦ (let marks = e.3 few (omega arith) in omega (arith, marks)) | inr none ↦ omega (arith, none) ] }
  kept (FitAdded c) _ e i g = absurd e
  kept (FitGivenBack c) Done e i g = record { balanced = omega arith; limited = omega arith; in_list = omega arith; owed = λ h w. elim (pays_or_not s c) as (λ _. 0 < b.owing + u.marked) [ inl few ↦ (let marks = e.3 few (omega arith) in omega (arith, marks)) | inr none ↦ omega (arith, none) ] }
  kept (FitGivenBack c) _ e i g = absurd e
  kept (Try k) (Left c) e i g = record { balanced = omega arith; limited = omega arith; in_list = omega arith; owed = λ h w. omega arith }
  kept (Try k) (Short c) e i g = record { balanced = omega arith; limited = omega arith; in_list = omega arith; owed = λ h w. omega arith }
  kept (Try k) _ e i g = absurd e
  kept (Lower k) Done e i g = record { balanced = omega arith; limited = omega arith; in_list = omega arith; owed = λ h w. omega arith }
  kept (Lower k) _ e i g = absurd e
  kept (GiveBack k) (Available c) e i g = record { balanced = omega arith; limited = omega arith; in_list = omega arith; owed = λ h w. let pays = enough s c (omega arith) in omega (arith, pays) }
  kept (GiveBack k) _ e i g = absurd e
  kept (Raise n) Done e i g = record { balanced = omega arith; limited = omega arith; in_list = omega arith; owed = λ h w. omega arith }
  kept (Raise n) PastLimit e i g = record { balanced = omega arith; limited = omega arith; in_list = omega arith; owed = λ h w. omega arith }
  kept (Raise n) _ e i g = absurd e
  kept (GiveAdded n) (Available c) e i g = record { balanced = omega arith; limited = omega arith; in_list = omega arith; owed = λ h w. let pays = enough s c (omega arith) in omega (arith, pays) }
  kept (GiveAdded n) _ e i g = absurd e
  kept CancelRemove Yes e i g = record { balanced = omega arith; limited = omega arith; in_list = omega arith; owed = λ h w. omega arith }
  kept CancelRemove No e i g = record { balanced = omega arith; limited = omega arith; in_list = omega arith; owed = λ h w. omega arith }
  kept CancelRemove _ e i g = absurd e
  kept CancelLoad (Available c) e i g = record { balanced = omega arith; limited = omega arith; in_list = omega arith; owed = λ h w. let pays = enough s c (omega arith) in omega (arith, pays) }
  kept CancelLoad _ e i g = absurd e
  kept Abandon Done e i g = record { balanced = omega arith; limited = omega arith; in_list = omega arith; owed = λ h w. omega arith }
  kept Abandon _ e i g = absurd e
