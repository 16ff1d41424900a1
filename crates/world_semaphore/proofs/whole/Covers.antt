-- While a party goes on alone, whoever was notified before or is owed something stays covered.
use Rattle.world_semaphore.proofs.Prelude.{◌≡◌, ℕ, ◌-◌, ◌<◌, ◌⊎◌, inl, inr, Bool, true, false, List, Option, Some, None, refl, arith, ap, sym, ◌∙◌, subst, Entry, marked_count, marked_count-without_waiting, marked_count-joined, is_party, entries_of, is_stepped, Action, Found, Done, Left, Short, Available, PastLimit, NoMemory, Yes, No, Place, Take, Retake, Join, Ask, Remove, Load, HandOn, PassOn, RefuseFit, Try, Lower, GiveBack, Raise, GiveAdded, FitAdded, CancelRemove, CancelLoad, FitGivenBack, Abandon, At, told_more, Words, Next, action_of, next_of, position_after, Debt, nothing_owed, a_look, a_fit, fit_if, seat_of, effect_of, Finds, words_after, entries_after, answer_by}
use Rattle.world_semaphore.proofs.of_machine.laws.Entries.{marked_count-fitted}
use Rattle.world_semaphore.proofs.of_machine.laws.Kept.{more_is, no_more}
use Rattle.world_semaphore.proofs.of_machine.stages.Taking.{taken}

-- Where so many entries are marked and so many permits are available: an entry is marked; the party owes a look, or to tell of what is available; or nothing is available.
abbrev pub Covered : Debt → ℕ → ℕ → Type 0
Covered d marked available = (0 < marked) ⊎ ((d ≡ a_look) ⊎ ((d ≡ a_fit available) ⊎ (available ≡ 0)))

-- What holds then at the end: an entry is marked, nothing is available, or the party has told of what is.
abbrev pub EndsCovered : Place → ℕ → ℕ → Type 0
EndsCovered x marked available = (0 < marked) ⊎ ((available ≡ 0) ⊎ (action_of x ≡ Action.Fit available))

-- after what comes next
abbrev pub CoversBy : Place → ℕ → ℕ → Next → Type 0
CoversBy x marked available n = ((z : Place) → position_after n ≡ At z → Covered (seat_of z).debt marked available) × (is_stepped (answer_by n) ≡ false → EndsCovered x marked available)

same_debt : (y z : Place) (marked available : ℕ) → Covered (seat_of y).debt marked available → At y ≡ At z → Covered (seat_of z).debt marked available
same_debt y z marked available c e = let P : Place → Type 0 = λ z. Covered (seat_of z).debt marked available in subst P (cc e) c

fit_is : (c n : ℕ) → a_fit c ≡ a_fit n → c ≡ n
fit_is c n e = cc e

-- what goes on covered where the party's debt isn't a look and it hasn't changed
carried : (d e : Debt) (m n a b : ℕ) → (d ≡ a_look → ⊥) → d ≡ e → (0 < m → 0 < n) → a ≡ b → Covered d m a → Covered e n b
carried d e m n a b never same marks words (inl h) = inl (marks h)
carried d e m n a b never same marks words (inr (inl h)) = absurd (never h)
carried d e m n a b never same marks words (inr (inr (inl h))) = inr (inr (inl (sym same ∙ (h ∙ ap a_fit words))))
carried d e m n a b never same marks words (inr (inr (inr h))) = inr (inr (inr (sym words ∙ h)))

-- what ends covered where the party owed nothing
settled : (x : Place) (d : Debt) (m n a b : ℕ) → d ≡ nothing_owed → (0 < m → 0 < n) → (a ≡ 0 → b ≡ 0) → Covered d m a → EndsCovered x n b
settled x d m n a b none marks words (inl h) = inl (marks h)
settled x d m n a b none marks words (inr (inl h)) = absurd (cc (sym none ∙ h))
settled x d m n a b none marks words (inr (inr (inl h))) = absurd (cc (sym none ∙ h))
settled x d m n a b none marks words (inr (inr (inr h))) = inr (inl (words h))

-- and goes on covered
free_on : (d e : Debt) (m n a b : ℕ) → d ≡ nothing_owed → (0 < m → 0 < n) → (a ≡ 0 → b ≡ 0) → Covered d m a → Covered e n b
free_on d e m n a b none marks words (inl h) = inl (marks h)
free_on d e m n a b none marks words (inr (inl h)) = absurd (cc (sym none ∙ h))
free_on d e m n a b none marks words (inr (inr (inl h))) = absurd (cc (sym none ∙ h))
free_on d e m n a b none marks words (inr (inr (inr h))) = inr (inr (inr (words h)))

told_of : (x : Place) (c m n a : ℕ) → action_of x ≡ Action.Fit c → (0 < m → 0 < n) → Covered (a_fit c) m a → EndsCovered x n a
told_of x c m n a act_is marks (inl h) = inl (marks h)
told_of x c m n a act_is marks (inr (inl h)) = absurd (cc h)
told_of x c m n a act_is marks (inr (inr (inl h))) = inr (inr (act_is ∙ ap Action.Fit (fit_is c a h)))
told_of x c m n a act_is marks (inr (inr (inr h))) = inr (inl h)

-- who took permits when it had been told tells of those that are left
more_covers : (c marked available : ℕ) → c ≡ available → Covered (fit_if (told_more true c)) marked available
more_covers c marked available e = by_more (told_more true c) refl where
  by_more : (o : Option ℕ) → told_more true c ≡ o → Covered (fit_if o) marked available
  by_more (Some d) is = inr (inr (inl (ap a_fit (more_is c d is ∙ e))))
  by_more None is = inr (inr (inr (sym e ∙ no_more c is)))

module _ (memory : Bool) (p : ℕ) (w : Words) (l : List (Entry ℕ)) (size : ℕ → ℕ) where
  pub covers : (x : Place) (f : Found) → Finds memory p (action_of x) f w l → entries_of p l ≡ (seat_of x).listed → Covered (seat_of x).debt (marked_count l) w.available
      → CoversBy x (marked_count (entries_after size p (effect_of (action_of x) f) l)) (words_after (effect_of (action_of x) f) w).available (next_of x f)
  covers (Take k true true) (Left c) e own h = ((λ z g. same_debt (Remove k (told_more true c)) z _ _ (more_covers c _ _ (omega (arith, e))) g), λ s. absurd (cc s))
  covers (Take k true false) (Left c) e own h = ((λ z g. same_debt (Remove k None) z _ _ (free_on nothing_owed nothing_owed _ _ _ _ refl (λ m. m) (λ n. omega (arith, e, n)) h) g), λ s. absurd (cc s))
  covers (Take k false true) (Left c) e own h = taken (CoversBy (Take k false true) (marked_count l) (w.available - k)) k c
      ((λ z g. same_debt (HandOn k c) z _ _ (inr (inr (inl (ap a_fit (omega (arith, e)))))) g), λ s. absurd (cc s))
      (λ none. ((λ z g. absurd (cc g)), λ s. inr (inl (omega (arith, e, none)))))
  covers (Take k false false) (Left c) e own h = ((λ z g. absurd (cc g)), λ s. settled (Take k false false) nothing_owed _ _ _ _ refl (λ m. m) (λ n. omega (arith, e, n)) h)
  covers (Take k true true) (Short c) e own h = ((λ z g. same_debt (Ask k (Some c)) z _ _ (inr (inr (inl (ap a_fit e.0)))) g), λ s. absurd (cc s))
  covers (Take k true false) (Short c) e own h = ((λ z g. same_debt (Ask k None) z _ _ (free_on nothing_owed nothing_owed _ _ _ _ refl (λ m. m) (λ n. n) h) g), λ s. absurd (cc s))
  covers (Take k false true) (Short c) e own h = ((λ z g. same_debt (Join k (Some c)) z _ _ (inr (inr (inl (ap a_fit e.0)))) g), λ s. absurd (cc s))
  covers (Take k false false) (Short c) e own h = ((λ z g. same_debt (Join k None) z _ _ (free_on nothing_owed nothing_owed _ _ _ _ refl (λ m. m) (λ n. n) h) g), λ s. absurd (cc s))
  covers (Take k there told) _ e own h = absurd e
  covers (Retake k) (Left c) e own h = ((λ z g. same_debt (Remove k None) z _ _ (free_on nothing_owed nothing_owed _ _ _ _ refl (λ m. m) (λ n. omega (arith, e, n)) h) g), λ s. absurd (cc s))
  covers (Retake k) (Short c) e own h = ((λ z g. same_debt (Ask k None) z _ _ (free_on nothing_owed nothing_owed _ _ _ _ refl (λ m. m) (λ n. n) h) g), λ s. absurd (cc s))
  covers (Retake k) _ e own h = absurd e
  covers (Join k (Some c)) Done e own h = ((λ z g. same_debt (Take k true true) z _ _ (inr (inl refl)) g), λ s. absurd (cc s))
  covers (Join k None) Done e own h = ((λ z g. same_debt (Take k true false) z _ _ (free_on nothing_owed nothing_owed _ _ _ _ refl (λ m. omega (arith, m, marked_count-joined l p)) (λ n. n) h) g), λ s. absurd (cc s))
  covers (Join k (Some c)) NoMemory e own h = ((λ z g. same_debt (RefuseFit k c) z _ _ (h) g), λ s. absurd (cc s))
  covers (Join k None) NoMemory e own h = ((λ z g. absurd (cc g)), λ s. settled (Join k None) nothing_owed _ _ _ _ refl (λ m. m) (λ n. n) h)
  covers (Join k told) _ e own h = absurd e
  covers (Ask k told) Yes e own h = ((λ z g. same_debt (Take k false true) z _ _ (inr (inl refl)) g), λ s. absurd (cc s))
  covers (Ask k (Some c)) No e own h = ((λ z g. same_debt (PassOn k c) z _ _ (carried (a_fit c) (a_fit c) _ _ _ _ (λ g. cc g) refl (λ m. rw e m) refl h) g), λ s. absurd (cc s))
  covers (Ask k None) No e own h = ((λ z g. absurd (cc g)), λ s. settled (Ask k None) nothing_owed _ _ _ _ refl (λ m. rw e m) (λ n. n) h)
  covers (Ask k told) _ e own h = absurd e
  covers (Remove k more) Yes e own h = ((λ z g. same_debt (Load k) z _ _ (inr (inl refl)) g), λ s. absurd (cc s))
  covers (Remove k (Some c)) No e own h = ((λ z g. same_debt (HandOn k c) z _ _ (carried (a_fit c) (a_fit c) _ _ _ _ (λ g. cc g) refl (λ m. omega (arith, m, marked_count-without_waiting (is_party p) l e)) refl h) g), λ s. absurd (cc s))
  covers (Remove k None) No e own h = ((λ z g. absurd (cc g)), λ s. settled (Remove k None) nothing_owed _ _ _ _ refl (λ m. omega (arith, m, marked_count-without_waiting (is_party p) l e)) (λ n. n) h)
  covers (Remove k more) _ e own h = absurd e
  covers (Load k) (Available c) e own h = ((λ z g. same_debt (HandOn k c) z _ _ (inr (inr (inl (ap a_fit e)))) g), λ s. absurd (cc s))
  covers (Load k) _ e own h = absurd e
  covers (HandOn k c) Done e own h = ((λ z g. absurd (cc g)), λ s. told_of (HandOn k c) c _ _ _ refl (λ m. omega (arith, m, marked_count-fitted size c l)) h)
  covers (HandOn k c) _ e own h = absurd e
  covers (PassOn k c) Done e own h = ((λ z g. absurd (cc g)), λ s. told_of (PassOn k c) c _ _ _ refl (λ m. omega (arith, m, marked_count-fitted size c l)) h)
  covers (PassOn k c) _ e own h = absurd e
  covers (RefuseFit k c) Done e own h = ((λ z g. absurd (cc g)), λ s. told_of (RefuseFit k c) c _ _ _ refl (λ m. omega (arith, m, marked_count-fitted size c l)) h)
  covers (RefuseFit k c) _ e own h = absurd e
  covers (FitAdded c) Done e own h = ((λ z g. absurd (cc g)), λ s. told_of (FitAdded c) c _ _ _ refl (λ m. omega (arith, m, marked_count-fitted size c l)) h)
  covers (FitAdded c) _ e own h = absurd e
  covers (FitGivenBack c) Done e own h = ((λ z g. absurd (cc g)), λ s. told_of (FitGivenBack c) c _ _ _ refl (λ m. omega (arith, m, marked_count-fitted size c l)) h)
  covers (FitGivenBack c) _ e own h = absurd e
  covers (Try k) (Left c) e own h = ((λ z g. absurd (cc g)), λ s. settled (Try k) nothing_owed _ _ _ _ refl (λ m. m) (λ n. omega (arith, e, n)) h)
  covers (Try k) (Short c) e own h = ((λ z g. absurd (cc g)), λ s. settled (Try k) nothing_owed _ _ _ _ refl (λ m. m) (λ n. n) h)
  covers (Try k) _ e own h = absurd e
  covers (Lower k) Done e own h = ((λ z g. absurd (cc g)), λ s. settled (Lower k) nothing_owed _ _ _ _ refl (λ m. m) (λ n. n) h)
  covers (Lower k) _ e own h = absurd e
  covers (GiveBack k) (Available c) e own h = ((λ z g. same_debt (FitGivenBack c) z _ _ (inr (inr (inl (ap a_fit e)))) g), λ s. absurd (cc s))
  covers (GiveBack k) _ e own h = absurd e
  covers (Raise n) Done e own h = ((λ z g. same_debt (GiveAdded n) z _ _ (free_on nothing_owed nothing_owed _ _ _ _ refl (λ m. m) (λ n. n) h) g), λ s. absurd (cc s))
  covers (Raise n) PastLimit e own h = ((λ z g. absurd (cc g)), λ s. settled (Raise n) nothing_owed _ _ _ _ refl (λ m. m) (λ n. n) h)
  covers (Raise n) _ e own h = absurd e
  covers (GiveAdded k) (Available c) e own h = ((λ z g. same_debt (FitAdded c) z _ _ (inr (inr (inl (ap a_fit e)))) g), λ s. absurd (cc s))
  covers (GiveAdded k) _ e own h = absurd e
  covers CancelRemove Yes e own h = ((λ z g. same_debt (CancelLoad) z _ _ (inr (inl refl)) g), λ s. absurd (cc s))
  covers CancelRemove No e own h = ((λ z g. absurd (cc g)), λ s. settled CancelRemove nothing_owed _ _ _ _ refl (λ m. omega (arith, m, marked_count-without_waiting (is_party p) l e)) (λ n. n) h)
  covers CancelRemove _ e own h = absurd e
  covers CancelLoad (Available c) e own h = ((λ z g. same_debt (FitGivenBack c) z _ _ (inr (inr (inl (ap a_fit e)))) g), λ s. absurd (cc s))
  covers CancelLoad _ e own h = absurd e
  covers Abandon Done e own h = ((λ z g. absurd (cc g)), λ s. settled Abandon nothing_owed _ _ _ _ refl (λ m. m) (λ n. n) h)
  covers Abandon _ e own h = absurd e
