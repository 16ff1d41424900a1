-- The rights that parties have in the state are those that their accounts tell of.
use Rattle.world_rwlock.proofs.Prelude.{◌≡◌, ◌≢◌, ℕ, ◌==◌, if◌then◌else◌, inl, inr, Bool, true, false, List, [], ◌∷◌, Option, Some, None, is_some, zero, suc, refl, arith, ap, sym, ◌∙◌, subst, nat_tests, Rest, Account, HasByAnswers, Right, read, upgradable, write, is_on, how_many, is_outside, Standing, outside, inside, forgotten, nobody, passes, is_upgradable, waits_to_write, World, standing_of, sought_by, HasTurn, HasJust, HasItsOwn, HasRight, IsSound, same_test, account_by, right_by, right_in, accounts_of, HasJustItsRights, HasItsRights}
use Rattle.world_rwlock.specs.State.{Turn, writes, reads}

is_same : (p q : ℕ) → (p == q) ≡ true → p ≡ q
is_same p q e = grind (arith, nat_tests)

-- ---- the right that a party has in the state

-- just this right, in a state with this turn, where the party reads or doesn't
abbrev HasJustThis : Option Right → Turn → Bool → ℕ → Type 0
HasJustThis None t b p = (b ≡ false) × (t ≢ is_upgradable p) × (t ≢ writes p)
HasJustThis (Some read) t b p = (b ≡ true) × (t ≢ is_upgradable p) × (t ≢ writes p)
HasJustThis (Some upgradable) t b p = (b ≡ true) × (t ≡ is_upgradable p)
HasJustThis (Some write) t b p = (b ≡ false) × (t ≡ writes p)
HasJustThis _ t b p = ⊥

plain : (t : Turn) (b : Bool) (p : ℕ) → t ≢ is_upgradable p → t ≢ writes p → HasJustThis (if b then Some read else None) t b p
plain t true p n m = (refl, n, m)
plain t false p n m = (refl, n, m)

upgradable_eq : (p q : ℕ) → is_upgradable p ≡ is_upgradable q → p ≡ q
upgradable_eq p q e = cc

writes_eq : (p q : ℕ) → writes p ≡ writes q → p ≡ q
writes_eq p q e = cc

right_is : (t : Turn) (b : Bool) (p : ℕ) → (t ≡ is_upgradable p → b ≡ true) → (t ≡ writes p → b ≡ false) → HasJustThis (right_by t b p) t b p
right_is nobody b p up wr = plain nobody b p (λ e. cc) (λ e. cc)
right_is (passes q) b p up wr = plain (passes q) b p (λ e. cc) (λ e. cc)
right_is (waits_to_write q) b p up wr = plain (waits_to_write q) b p (λ e. cc) (λ e. cc)
right_is (is_upgradable q) b p up wr = by_test (q == p) refl where
  by_test : (x : Bool) → (q == p) ≡ x → HasJustThis (if x then Some upgradable else if b then Some read else None) (is_upgradable q) b p
  by_test true e = (up (ap is_upgradable (is_same q p e)), ap is_upgradable (is_same q p e))
  by_test false e = plain (is_upgradable q) b p (λ h. let t = same_test q p (upgradable_eq q p h) in cc) (λ h. cc)
right_is (writes q) b p up wr = by_test (q == p) refl where
  by_test : (x : Bool) → (q == p) ≡ x → HasJustThis (if x then Some write else if b then Some read else None) (writes q) b p
  by_test true e = (wr (ap writes (is_same q p e)), ap writes (is_same q p e))
  by_test false e = plain (writes q) b p (λ h. cc) (λ h. let t = same_test q p (writes_eq q p h) in cc)

none_reads : (rs : List Bool) (p : ℕ) → how_many rs ≡ 0 → is_on rs p ≡ false
none_reads [] p e = refl
none_reads (true ∷ rs) p e = absurd (omega (arith, e))
none_reads (false ∷ rs) zero e = refl
none_reads (false ∷ rs) (suc p) e = none_reads rs p (omega (arith, e))

right_here : (w : World) → IsSound w → (p : ℕ) → HasJustThis (right_in w p) w.state.turn (reads w p) p
right_here w sound p = right_is w.state.turn (reads w p) p (sound.upgradable_reads p) (λ e. none_reads w.state.readers p (sound.none_while_writing p e))

-- ---- the accounts at a World

-- an account that tells of just this right
record Tells (k : Account) (o : Option Right) : Type 0 where
  pub has : k.has ≡ is_some o
  pub seeks : is_some o ≡ true → k.seeks ≡ o

-- by such an account a party has that right alone
right_told : (k : Account) (o : Option Right) (r : Right) → Tells k o → HasByAnswers k r → o ≡ Some r
right_told k o r tells h = sym (tells.seeks (sym tells.has ∙ h.0)) ∙ h.1

-- a party that is told to have a right has it in the state
has_it : (w : World) (p : ℕ) (o : Option Right) (r : Right) → o ≡ Some r → HasJustThis o w.state.turn (reads w p) p → HasRight w p r
has_it w p o r e own = by_right r (let P : Option Right → Type 0 = λ x. HasJustThis x w.state.turn (reads w p) p in subst P e own) where
  by_right : (r : Right) → HasJustThis (Some r) w.state.turn (reads w p) p → HasRight w p r
  by_right read h = h.0
  by_right upgradable h = h.1
  by_right write h = h.1
  by_right _ h = absurd h

just_its : (w : World) (p : ℕ) (k : Account) (o : Option Right) → Tells k o → HasJustThis o w.state.turn (reads w p) p → HasJustItsRights k w p
just_its w p k None tells own = record {
  reading = ((λ h. cc), (λ h. elim h [ inl e ↦ absurd (cc (right_told k None read tells e)) | inr e ↦ absurd (cc (right_told k None upgradable tells e)) ]));
  upgrading = ((λ h. absurd (own.1 h)), (λ e. absurd (cc (right_told k None upgradable tells e))));
  writing = ((λ h. absurd (own.2 h)), (λ e. absurd (cc (right_told k None write tells e))));
  told = λ r h. has_it w p None r (right_told k None r tells h) own;
}
just_its w p k (Some read) tells own = record {
  reading = ((λ h. inl (tells.has, tells.seeks refl)), (λ h. own.0));
  upgrading = ((λ h. absurd (own.1 h)), (λ e. absurd (cc (right_told k (Some read) upgradable tells e))));
  writing = ((λ h. absurd (own.2 h)), (λ e. absurd (cc (right_told k (Some read) write tells e))));
  told = λ r h. has_it w p (Some read) r (right_told k (Some read) r tells h) own;
}
just_its w p k (Some upgradable) tells own = record {
  reading = ((λ h. inr (tells.has, tells.seeks refl)), (λ h. own.0));
  upgrading = ((λ h. (tells.has, tells.seeks refl)), (λ e. own.1));
  writing = ((λ h. absurd (cc (sym h ∙ own.1))), (λ e. absurd (cc (right_told k (Some upgradable) write tells e))));
  told = λ r h. has_it w p (Some upgradable) r (right_told k (Some upgradable) r tells h) own;
}
just_its w p k (Some write) tells own = record {
  reading = ((λ h. absurd (cc (sym h ∙ own.0))), (λ h. elim h [ inl e ↦ absurd (cc (right_told k (Some write) read tells e)) | inr e ↦ absurd (cc (right_told k (Some write) upgradable tells e)) ]));
  upgrading = ((λ h. absurd (cc (sym h ∙ own.1))), (λ e. absurd (cc (right_told k (Some write) upgradable tells e))));
  writing = ((λ h. (tells.has, tells.seeks refl)), (λ e. own.1));
  told = λ r h. has_it w p (Some write) r (right_told k (Some write) r tells h) own;
}
just_its w p k (Some _) tells own = absurd own

has_turn : (t u : Turn) (p : ℕ) → t ≡ u → HasTurn u p → HasTurn t p
has_turn t u p e h = let P : Turn → Type 0 = λ x. HasTurn x p in subst P (sym e) h

-- outside a call a party has in the state what its account tells, and inside it tells of nothing
told_of : (w : World) → IsSound w → (p : ℕ) → (is_outside (standing_of w p) ≡ true → (o : Option Right) × Tells (accounts_of w p) o × HasJustThis o w.state.turn (reads w p) p) × ((r : Right) → HasByAnswers (accounts_of w p) r → is_outside (standing_of w p) ≡ true)
told_of w sound p = by_standing (standing_of w p) (sound.each p) where
  told_none : (k : Account) → k.has ≡ false → reads w p ≡ false → w.state.turn ≢ is_upgradable p → w.state.turn ≢ writes p → (o : Option Right) × Tells k o × HasJustThis o w.state.turn (reads w p) p
  told_none k e idle up wr = (None, record { has = e; seeks = λ h. cc }, (idle, up, wr))

  told_just : (k : Account) (r : Right) → k.has ≡ true → k.seeks ≡ Some r → HasJust w p r → (o : Option Right) × Tells k o × HasJustThis o w.state.turn (reads w p) p
  told_just k read h s own = (Some read, record { has = h; seeks = λ t. s }, (own.0, (λ e. own.1 (has_turn w.state.turn (is_upgradable p) p e refl)), (λ e. own.1 (has_turn w.state.turn (writes p) p e refl))))
  told_just k upgradable h s own = (Some upgradable, record { has = h; seeks = λ t. s }, own)
  told_just k write h s own = (Some write, record { has = h; seeks = λ t. s }, own)
  told_just k _ h s own = absurd own

  by_standing : (s : Standing) → HasItsOwn w p s → (is_outside s ≡ true → (o : Option Right) × Tells (account_by s (sought_by w p) (right_in w p)) o × HasJustThis o w.state.turn (reads w p) p) × ((r : Right) → HasByAnswers (account_by s (sought_by w p) (right_in w p)) r → is_outside s ≡ true)
  by_standing (outside Rest.Idle) own = ((λ out. told_none _ refl own.1.0 (λ e. own.1.1 (has_turn w.state.turn (is_upgradable p) p e refl)) (λ e. own.1.1 (has_turn w.state.turn (writes p) p e refl))), (λ r h. refl))
  by_standing (outside Rest.Finished) own = ((λ out. told_none _ refl own.1.0 (λ e. own.1.1 (has_turn w.state.turn (is_upgradable p) p e refl)) (λ e. own.1.1 (has_turn w.state.turn (writes p) p e refl))), (λ r h. refl))
  by_standing (outside Rest.Pending) own = (
    (λ out. elim own.1 [
      | inl w ↦ (let e = w.0 in told_none _ refl own.0 (λ h. absurd (cc (sym h ∙ e))) (λ h. absurd (cc (sym h ∙ e))))
      | inr n ↦ told_none _ refl own.0 (λ e. n.0 (has_turn w.state.turn (is_upgradable p) p e refl)) (λ e. n.0 (has_turn w.state.turn (writes p) p e refl))
    ]),
    (λ r h. refl),
  )
  by_standing (outside Rest.Holding) own = ((λ out. told_just _ own.1.0 refl own.1.1 own.1.2), (λ r h. refl))
  by_standing (inside u d) own = ((λ out. absurd (cc)), (λ r h. absurd (cc (h.0))))
  by_standing forgotten own = ((λ out. (right_in w p, record { has = refl; seeks = λ h. refl }, right_here w sound p)), (λ r h. refl))

-- the rights at a World are its state's
pub state_rights : (w : World) → IsSound w → HasItsRights (accounts_of w) w
state_rights w sound p out = let told = (told_of w sound p).0 out in just_its w p (accounts_of w p) told.0 told.1 told.2

-- whoever has a right by the answers has it in the state
pub holds_by : (w : World) → IsSound w → (p : ℕ) (r : Right) → HasByAnswers (accounts_of w p) r → HasRight w p r
holds_by w sound p r has =
    let told = (told_of w sound p).0 ((told_of w sound p).1 r has) in
    has_it w p told.0 r (right_told (accounts_of w p) told.0 r told.1 has) told.2
