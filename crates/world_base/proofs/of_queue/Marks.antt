-- Which entries aren't marked.
use Rattle.world_base.proofs.Prelude.{◌≡◌, ◌≢◌, ℕ, ◌-◌, ◌<◌, ◌≤◌, Bool, true, false, List, [], ◌∷◌, length, Option, Some, None, refl, arith, nat_tests, Entry, Mark, Waiting, Notified, Additional, is_marked, is_marked_at, marked_count, joined, mark_waiting, without, passed_on, is_party, entries_of, is_unmarked}

pub never_unlisted : (p : ℕ) (l : List (Entry ℕ)) → entries_of p l ≡ 0 → is_unmarked p l ≡ true → ⊥
never_unlisted p [] none h = absurd (cc)
never_unlisted p (e ∷ es) none h = grind (arith, nat_tests, never_unlisted p es)

marks_else : (p : ℕ) (e : Entry ℕ) (es : List (Entry ℕ)) (m : Mark) → is_party p e.key ≡ true → e.mark ≡ m → (is_unmarked p (e ∷ es) ≡ true → ⊥) → is_marked_at (is_party p) (e ∷ es) ≡ true
marks_else p e es Waiting own is h = absurd (h (grind (arith)))
marks_else p e es Notified own is h = grind (arith)
marks_else p e es Additional own is h = grind (arith)

-- who has an entry, and not an unmarked one, has a marked one
pub else_marked : (p : ℕ) (l : List (Entry ℕ)) → 0 < entries_of p l → (is_unmarked p l ≡ true → ⊥) → is_marked_at (is_party p) l ≡ true
else_marked p [] some h = absurd (omega arith)
else_marked p (e ∷ es) some h = by_test (is_party p e.key) refl (else_marked p es) where
  by_test : (b : Bool) → is_party p e.key ≡ b → (0 < entries_of p es → (is_unmarked p es ≡ true → ⊥) → is_marked_at (is_party p) es ≡ true) → is_marked_at (is_party p) (e ∷ es) ≡ true
  by_test true own further = marks_else p e es e.mark own refl h
  by_test false other further =
      let few : 0 < entries_of p es = grind (arith, nat_tests) in
      let same : is_unmarked p (e ∷ es) ≡ is_unmarked p es = grind (arith) in
      let less : is_unmarked p es ≡ true → ⊥ = λ u. h (rw same u) in
      let more : is_marked_at (is_party p) es ≡ true = further few less in
      grind (arith)

-- who asks and isn't marked is unmarked
pub marked_then : (p : ℕ) (l : List (Entry ℕ)) → is_marked_at (is_party p) l ≡ true → is_unmarked p l ≡ false
marked_then p [] h = refl
marked_then p (e ∷ es) h = grind (arith, marked_then p es)

pub join_unmarked : (j p : ℕ) (l : List (Entry ℕ)) → j ≢ p → is_unmarked j (joined l p) ≡ true → is_unmarked j l ≡ true
join_unmarked j p [] apart h = grind (arith, nat_tests)
join_unmarked j p (e ∷ es) apart h = grind (arith, nat_tests, join_unmarked j p es)

pub without_unmarked : (j p : ℕ) (l : List (Entry ℕ)) → j ≢ p → is_unmarked j (without (is_party p) l) ≡ true → is_unmarked j l ≡ true
without_unmarked j p [] apart h = h
without_unmarked j p (e ∷ es) apart h = grind (arith, nat_tests, without_unmarked j p es)

pub mark_unmarked : (j : ℕ) (m : Mark) (n : ℕ) (l : List (Entry ℕ)) → is_marked m ≡ true → is_unmarked j (mark_waiting m n l) ≡ true → is_unmarked j l ≡ true
mark_unmarked j m n [] told h = h
mark_unmarked j m n (e ∷ es) told h = grind (arith, nat_tests, mark_unmarked j m n es, mark_unmarked j m (n - 1) es)

-- where as many are marked as there are, nobody is unmarked
pub all_marked : (j : ℕ) (m : Mark) (n : ℕ) (l : List (Entry ℕ)) → is_marked m ≡ true → length l ≤ n → is_unmarked j (mark_waiting m n l) ≡ true → ⊥
all_marked j m n [] told few h = absurd (cc)
all_marked j m n (e ∷ es) told few h =
    let less : length es ≤ n - 1 = omega arith in
    let same : length es ≤ n = omega arith in
    grind (arith, nat_tests, all_marked j m n es, all_marked j m (n - 1) es)

pub pass_unmarked : (j : ℕ) (m : Option Mark) (l : List (Entry ℕ)) → is_unmarked j (passed_on m l) ≡ true → is_unmarked j l ≡ true
pass_unmarked j None l h = h
pass_unmarked j (Some Waiting) l h = h
pass_unmarked j (Some Notified) l h = mark_unmarked j Notified (1 - marked_count l) l refl h
pass_unmarked j (Some Additional) l h = mark_unmarked j Additional 1 l refl h
