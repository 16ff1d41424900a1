-- What an action does to what its party owes.
use Rattle.world_semaphore.proofs.Prelude.{◌≡◌, ℕ, ◌<◌, inl, inr, Bool, true, false, List, [], ◌∷◌, Option, Some, None, refl, arith, ap, nat_tests, Entry, is_marked_at, marked_count, fitted, is_party, entries_of, unlisted_unmarked, Found, Done, Left, Short, Available, PastLimit, NoMemory, Yes, No, Place, Take, Retake, Join, Ask, Remove, Load, HandOn, PassOn, RefuseFit, Try, Lower, GiveBack, Raise, GiveAdded, FitAdded, CancelRemove, CancelLoad, FitGivenBack, Abandon, Position, told_more, Words, action_of, position_after, seat_of, debt_at, nothing_owed, a_look, a_fit, fit_if, effect_of, Finds, words_after, entries_after, Owes, Debt, subst}
use Rattle.world_semaphore.proofs.of_machine.laws.Kept.{after, more_is, no_more}
use Rattle.world_semaphore.proofs.of_machine.stages.Taking.{taken}

-- an entry that is notified is the one that stays so
some_marked : (p : ℕ) (l : List (Entry ℕ)) → is_marked_at (is_party p) l ≡ true → 0 < marked_count l
some_marked p [] h = absurd (cc h)
some_marked p (e ∷ es) h = grind (arith, some_marked p es)

pub still_marked : (size : ℕ → ℕ) (a p : ℕ) (l : List (Entry ℕ)) → is_marked_at (is_party p) l ≡ true → is_marked_at (is_party p) (fitted size a l) ≡ false → ⊥
still_marked size a p l m u = grind (arith, nat_tests, some_marked p l m)

-- what is to be told after a look that took the permits
never_looks : (o : Option ℕ) → fit_if o ≡ a_look → ⊥
never_looks None h = cc h
never_looks (Some a) h = cc h

fit_so : (o : Option ℕ) (n : ℕ) → fit_if o ≡ a_fit n → o ≡ Some n
fit_so None n h = absurd (cc h)
fit_so (Some a) n h = cc h

none_so : (o : Option ℕ) → fit_if o ≡ nothing_owed → o ≡ None
none_so None h = refl
none_so (Some a) h = absurd (cc h)

more_so : (told : Bool) (a n : ℕ) → fit_if (told_more told a) ≡ a_fit n → n ≡ a
more_so true a n h = more_is a n (fit_so (told_more true a) n h)
more_so false a n h = absurd (cc h)

none_left : (a : ℕ) → fit_if (told_more true a) ≡ nothing_owed → a ≡ 0
none_left a h = no_more a (none_so (told_more true a) h)

-- what the party of a place owes where it stands then, by the words and the list before
abbrev pub OwedBy : ℕ → Words → List (Entry ℕ) → (ℕ → ℕ) → Place → Found → Position → Type 0
OwedBy p w l size x f y = Owes p (seat_of x).debt (debt_at y) l (entries_after size p (effect_of (action_of x) f) l) (words_after (effect_of (action_of x) f) w).available size

-- the same of debts, entries and permits that are the same
pub owes_so : (p : ℕ) (d e : Debt) {c b : Debt} (l m : List (Entry ℕ)) {n : List (Entry ℕ)} (a : ℕ) {k : ℕ} (size : ℕ → ℕ) → d ≡ c → e ≡ b → m ≡ n → a ≡ k → Owes p d e l m a size → Owes p c b l n k size
owes_so p d e {c} {b} l m {n} a {k} size dc eb mn ak o =
    let A : Debt → Type 0 = λ z. Owes p z e l m a size in
    let B : Debt → Type 0 = λ z. Owes p c z l m a size in
    let C : List (Entry ℕ) → Type 0 = λ z. Owes p c b l z a size in
    let D : ℕ → Type 0 = λ z. Owes p c b l n z size in
    subst D ak (subst C mn (subst B eb (subst A dc o)))

pub owed : (memory : Bool) (p : ℕ) (w : Words) (l : List (Entry ℕ)) (size : ℕ → ℕ) (x : Place) (f : Found) → Finds memory p (action_of x) f w l → entries_of p l ≡ (seat_of x).listed → OwedBy p w l size x f (after x f)
owed memory p w l size (Take k true true) (Left a) e own = record { told = λ m u. absurd (cc (m, u)); looks = λ h. absurd (never_looks (told_more true a) h); finds = λ n h. inl (let so = more_so true a n h in omega (arith, e, so)); looked = λ h g. (let none = none_left a g in omega (arith, e, none)); fitted = λ n h g. absurd (cc h) }
owed memory p w l size (Take k true false) (Left a) e own = record { told = λ m u. absurd (cc (m, u)); looks = λ h. absurd (cc h); finds = λ n h. absurd (cc h); looked = λ h g. absurd (cc h); fitted = λ n h g. absurd (cc h) }
owed memory p w l size (Take k false true) (Left a) e own = taken (λ n. OwedBy p w l size (Take k false true) (Left a) (position_after n)) k a
    (record { told = λ m u. absurd (cc (m, u)); looks = λ h. absurd (cc h); finds = λ n h. inl (let so : a ≡ n = cc h in omega (arith, e, so)); looked = λ h g. absurd (cc g); fitted = λ n h g. absurd (cc h) })
    (λ none. record { told = λ m u. absurd (cc (m, u)); looks = λ h. absurd (cc h); finds = λ n h. absurd (cc h); looked = λ h g. omega (arith, e, none); fitted = λ n h g. absurd (cc h) })
owed memory p w l size (Take k false false) (Left a) e own = record { told = λ m u. absurd (cc (m, u)); looks = λ h. absurd (cc h); finds = λ n h. absurd (cc h); looked = λ h g. absurd (cc h); fitted = λ n h g. absurd (cc h) }
owed memory p w l size (Take k true true) (Short a) e own = record { told = λ m u. absurd (cc (m, u)); looks = λ h. absurd (cc h); finds = λ n h. inl (let so : a ≡ n = cc h in omega (arith, e.0, so)); looked = λ h g. absurd (cc g); fitted = λ n h g. absurd (cc h) }
owed memory p w l size (Take k true false) (Short a) e own = record { told = λ m u. absurd (cc (m, u)); looks = λ h. absurd (cc h); finds = λ n h. absurd (cc h); looked = λ h g. absurd (cc h); fitted = λ n h g. absurd (cc h) }
owed memory p w l size (Take k false true) (Short a) e own = record { told = λ m u. absurd (cc (m, u)); looks = λ h. absurd (cc h); finds = λ n h. inl (let so : a ≡ n = cc h in omega (arith, e.0, so)); looked = λ h g. absurd (cc g); fitted = λ n h g. absurd (cc h) }
owed memory p w l size (Take k false false) (Short a) e own = record { told = λ m u. absurd (cc (m, u)); looks = λ h. absurd (cc h); finds = λ n h. absurd (cc h); looked = λ h g. absurd (cc h); fitted = λ n h g. absurd (cc h) }
owed memory p w l size (Take k there told) _ e own = absurd e
owed memory p w l size (Retake k) (Left a) e own = record { told = λ m u. absurd (cc (m, u)); looks = λ h. absurd (cc h); finds = λ n h. absurd (cc h); looked = λ h g. absurd (cc h); fitted = λ n h g. absurd (cc h) }
owed memory p w l size (Retake k) (Short a) e own = record { told = λ m u. absurd (cc (m, u)); looks = λ h. absurd (cc h); finds = λ n h. absurd (cc h); looked = λ h g. absurd (cc h); fitted = λ n h g. absurd (cc h) }
owed memory p w l size (Retake k) _ e own = absurd e
owed memory p w l size (Join k (Some a)) Done e own = record { told = λ m u. absurd (cc (m, unlisted_unmarked p l own)); looks = λ h. inr (a, refl); finds = λ n h. absurd (cc h); looked = λ h g. absurd (cc h); fitted = λ n h g. absurd (cc g) }
owed memory p w l size (Join k (Some a)) NoMemory e own = record { told = λ m u. absurd (cc (m, u)); looks = λ h. absurd (cc h); finds = λ n h. inr (h, unlisted_unmarked p l own); looked = λ h g. absurd (cc h); fitted = λ n h g. absurd (cc g) }
owed memory p w l size (Join k None) Done e own = record { told = λ m u. absurd (cc (m, unlisted_unmarked p l own)); looks = λ h. absurd (cc h); finds = λ n h. absurd (cc h); looked = λ h g. absurd (cc h); fitted = λ n h g. absurd (cc h) }
owed memory p w l size (Join k None) NoMemory e own = record { told = λ m u. absurd (cc (m, u)); looks = λ h. absurd (cc h); finds = λ n h. absurd (cc h); looked = λ h g. absurd (cc h); fitted = λ n h g. absurd (cc h) }
owed memory p w l size (Join k told) _ e own = absurd e
owed memory p w l size (Ask k (Some a)) Yes e own = record { told = λ m u. refl; looks = λ h. inl e; finds = λ n h. absurd (cc h); looked = λ h g. absurd (cc h); fitted = λ n h g. absurd (cc g) }
owed memory p w l size (Ask k None) Yes e own = record { told = λ m u. refl; looks = λ h. inl e; finds = λ n h. absurd (cc h); looked = λ h g. absurd (cc h); fitted = λ n h g. absurd (cc h) }
owed memory p w l size (Ask k (Some a)) No e own = record { told = λ m u. absurd (cc (m, e)); looks = λ h. absurd (cc h); finds = λ n h. inr (h, e); looked = λ h g. absurd (cc h); fitted = λ n h g. absurd (cc g) }
owed memory p w l size (Ask k None) No e own = record { told = λ m u. absurd (cc (m, e)); looks = λ h. absurd (cc h); finds = λ n h. absurd (cc h); looked = λ h g. absurd (cc h); fitted = λ n h g. absurd (cc h) }
owed memory p w l size (Ask k told) _ e own = absurd e
owed memory p w l size (Remove k (Some a)) Yes e own = record { told = λ m u. refl; looks = λ h. inl e; finds = λ n h. absurd (cc h); looked = λ h g. absurd (cc h); fitted = λ n h g. absurd (cc g) }
owed memory p w l size (Remove k None) Yes e own = record { told = λ m u. refl; looks = λ h. inl e; finds = λ n h. absurd (cc h); looked = λ h g. absurd (cc h); fitted = λ n h g. absurd (cc h) }
owed memory p w l size (Remove k (Some a)) No e own = record { told = λ m u. absurd (cc (m, e)); looks = λ h. absurd (cc h); finds = λ n h. inr (h, e); looked = λ h g. absurd (cc h); fitted = λ n h g. absurd (cc g) }
owed memory p w l size (Remove k None) No e own = record { told = λ m u. absurd (cc (m, e)); looks = λ h. absurd (cc h); finds = λ n h. absurd (cc h); looked = λ h g. absurd (cc h); fitted = λ n h g. absurd (cc h) }
owed memory p w l size (Remove k more) _ e own = absurd e
owed memory p w l size (Load k) (Available a) e own = record { told = λ m u. absurd (cc (m, u)); looks = λ h. absurd (cc h); finds = λ n h. inl (let so : a ≡ n = cc h in omega (arith, e, so)); looked = λ h g. absurd (cc g); fitted = λ n h g. absurd (cc h) }
owed memory p w l size (Load k) _ e own = absurd e
owed memory p w l size CancelLoad (Available a) e own = record { told = λ m u. absurd (cc (m, u)); looks = λ h. absurd (cc h); finds = λ n h. inl (let so : a ≡ n = cc h in omega (arith, e, so)); looked = λ h g. absurd (cc g); fitted = λ n h g. absurd (cc h) }
owed memory p w l size CancelLoad _ e own = absurd e
owed memory p w l size (HandOn k a) Done e own = record { told = λ m u. absurd (still_marked size a p l m u); looks = λ h. absurd (cc h); finds = λ n h. absurd (cc h); looked = λ h g. absurd (cc h); fitted = λ n h g. (let so : a ≡ n = cc h in ap (λ c. fitted size c l) so) }
owed memory p w l size (HandOn k a) _ e own = absurd e
owed memory p w l size (PassOn k a) Done e own = record { told = λ m u. absurd (still_marked size a p l m u); looks = λ h. absurd (cc h); finds = λ n h. absurd (cc h); looked = λ h g. absurd (cc h); fitted = λ n h g. (let so : a ≡ n = cc h in ap (λ c. fitted size c l) so) }
owed memory p w l size (PassOn k a) _ e own = absurd e
owed memory p w l size (RefuseFit k a) Done e own = record { told = λ m u. absurd (still_marked size a p l m u); looks = λ h. absurd (cc h); finds = λ n h. absurd (cc h); looked = λ h g. absurd (cc h); fitted = λ n h g. (let so : a ≡ n = cc h in ap (λ c. fitted size c l) so) }
owed memory p w l size (RefuseFit k a) _ e own = absurd e
owed memory p w l size (FitAdded a) Done e own = record { told = λ m u. absurd (still_marked size a p l m u); looks = λ h. absurd (cc h); finds = λ n h. absurd (cc h); looked = λ h g. absurd (cc h); fitted = λ n h g. (let so : a ≡ n = cc h in ap (λ c. fitted size c l) so) }
owed memory p w l size (FitAdded a) _ e own = absurd e
owed memory p w l size (FitGivenBack a) Done e own = record { told = λ m u. absurd (still_marked size a p l m u); looks = λ h. absurd (cc h); finds = λ n h. absurd (cc h); looked = λ h g. absurd (cc h); fitted = λ n h g. (let so : a ≡ n = cc h in ap (λ c. fitted size c l) so) }
owed memory p w l size (FitGivenBack a) _ e own = absurd e
owed memory p w l size (Try k) (Left a) e own = record { told = λ m u. absurd (cc (m, u)); looks = λ h. absurd (cc h); finds = λ n h. absurd (cc h); looked = λ h g. absurd (cc h); fitted = λ n h g. absurd (cc h) }
owed memory p w l size (Try k) (Short a) e own = record { told = λ m u. absurd (cc (m, u)); looks = λ h. absurd (cc h); finds = λ n h. absurd (cc h); looked = λ h g. absurd (cc h); fitted = λ n h g. absurd (cc h) }
owed memory p w l size (Try k) _ e own = absurd e
owed memory p w l size (Lower k) Done e own = record { told = λ m u. absurd (cc (m, u)); looks = λ h. absurd (cc h); finds = λ n h. absurd (cc h); looked = λ h g. absurd (cc h); fitted = λ n h g. absurd (cc h) }
owed memory p w l size (Lower k) _ e own = absurd e
owed memory p w l size (GiveBack k) (Available a) e own = record { told = λ m u. absurd (cc (m, u)); looks = λ h. absurd (cc h); finds = λ n h. inl (let so : a ≡ n = cc h in omega (arith, e, so)); looked = λ h g. absurd (cc h); fitted = λ n h g. absurd (cc h) }
owed memory p w l size (GiveBack k) _ e own = absurd e
owed memory p w l size (Raise n) Done e own = record { told = λ m u. absurd (cc (m, u)); looks = λ h. absurd (cc h); finds = λ c h. absurd (cc h); looked = λ h g. absurd (cc h); fitted = λ c h g. absurd (cc h) }
owed memory p w l size (Raise n) PastLimit e own = record { told = λ m u. absurd (cc (m, u)); looks = λ h. absurd (cc h); finds = λ c h. absurd (cc h); looked = λ h g. absurd (cc h); fitted = λ c h g. absurd (cc h) }
owed memory p w l size (Raise n) _ e own = absurd e
owed memory p w l size (GiveAdded k) (Available a) e own = record { told = λ m u. absurd (cc (m, u)); looks = λ h. absurd (cc h); finds = λ n h. inl (let so : a ≡ n = cc h in omega (arith, e, so)); looked = λ h g. absurd (cc h); fitted = λ n h g. absurd (cc h) }
owed memory p w l size (GiveAdded k) _ e own = absurd e
owed memory p w l size CancelRemove Yes e own = record { told = λ m u. refl; looks = λ h. inl e; finds = λ n h. absurd (cc h); looked = λ h g. absurd (cc h); fitted = λ n h g. absurd (cc h) }
owed memory p w l size CancelRemove No e own = record { told = λ m u. absurd (cc (m, e)); looks = λ h. absurd (cc h); finds = λ n h. absurd (cc h); looked = λ h g. absurd (cc h); fitted = λ n h g. absurd (cc h) }
owed memory p w l size CancelRemove _ e own = absurd e
owed memory p w l size Abandon Done e own = record { told = λ m u. absurd (cc (m, u)); looks = λ h. absurd (cc h); finds = λ n h. absurd (cc h); looked = λ h g. absurd (cc h); fitted = λ n h g. absurd (cc h) }
owed memory p w l size Abandon _ e own = absurd e
