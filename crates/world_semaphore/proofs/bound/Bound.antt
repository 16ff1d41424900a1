-- Permits that are available are taken by the first or the second solo poll.
use Rattle.world_semaphore.proofs.Prelude.{◌≡◌, ℕ, zero, suc, ◌<◌, ◌≤◌, ◌⊎◌, inl, inr, Bool, true, false, List, [], ◌∷◌, length, is_some, refl, arith, ap, sym, ◌∙◌, nat_tests, Entry, is_marked, is_marked_at, marked_count, is_party, entries_of, Answer, Call, Inputs, marked_listed, some_listed, Share, World, available, has_permits, size_of, IsSound, IsAwake, IsFreeAndWanted, known_of, HandsOver, PassesOver, IsBounded}
use Rattle.world_base.specs.Bounds.{PolledInTurn}
use Rattle.world_semaphore.proofs.whole.Promises.{keeps_promises}

-- where some entry is marked, and no party has two, it is some party's
pub some_marked : (l : List (Entry ℕ)) → ((p : ℕ) → entries_of p l ≤ 1) → 0 < marked_count l → (q : ℕ) × (is_marked_at (is_party q) l ≡ true)
some_marked [] once some = absurd (omega arith)
some_marked (e ∷ es) once some = by_mark (is_marked e.mark) refl (some_marked es) where
  own : is_party e.key e.key ≡ true
  own = grind (arith, nat_tests)

  fewer : (p : ℕ) → entries_of p es ≤ 1
  fewer p = let h = once p in grind (arith, nat_tests)

  by_mark : (b : Bool) → is_marked e.mark ≡ b → (((p : ℕ) → entries_of p es ≤ 1) → 0 < marked_count es → (q : ℕ) × (is_marked_at (is_party q) es ≡ true)) → (q : ℕ) × (is_marked_at (is_party q) (e ∷ es) ≡ true)
  by_mark true is more = (e.key, rw own is)
  by_mark false is more =
      let less : 0 < marked_count es = grind arith in
      let found = more fewer less in
      let listed : 0 < entries_of found.0 es = marked_listed found.0 es found.1 in
      let h = once found.0 in
      let apart : is_party found.0 e.key ≡ false = grind (arith, nat_tests) in
      (found.0, rw apart found.1)

-- two parties in a list are two entries
two_listed : (p q : ℕ) (l : List (Entry ℕ)) → (p ≡ q → ⊥) → 0 < entries_of p l → 0 < entries_of q l → 2 ≤ length l
two_listed p q [] apart one two = absurd (omega arith)
two_listed p q (e ∷ []) apart one two =
    let here : e.key ≡ p = grind (arith, nat_tests) in
    let there : e.key ≡ q = grind (arith, nat_tests) in
    absurd (apart (sym here ∙ there))
two_listed p q (e ∷ f ∷ es) apart one two = omega arith

module _ (w : World) (p : ℕ) (i : Inputs) (a : Answer) (v : World) (o : PassesOver w p i a v) where
  -- whoever is passed over wants more than there are
  short : available w.state < size_of w p
  short = elim (fewer_or_not (size_of w p) (available w.state)) as (λ _. available w.state < size_of w p) [
    | inl few ↦ (
        let kept = keeps_promises (known_of w) w p Call.Poll i o.whole.more a v o.whole.runs o.whole.ended in
        let took = kept.later refl o.solo.pending few in
        let has : has_permits v.state p ≡ true = ap (λ (z : Share). is_some z.held) took.permits_had in
        absurd (cc (has, o.not_taken))
        )
    | inr more ↦ more
  ] where
    fewer_or_not : (k n : ℕ) → (k ≤ n) ⊎ (n < k)
    fewer_or_not k n = grind arith

  hands : HandsOver w a v
  hands = let kept = keeps_promises (known_of w) w p Call.Poll i o.whole.more a v o.whole.runs o.whole.ended in kept.hands_over refl o.solo short

  -- so somebody else is listed too
  two : 2 ≤ length w.entries
  two = two_listed p o.free.0 w.entries (λ same. (let few = o.free.2 in let alike : size_of w o.free.0 ≡ size_of w p = ap (size_of w) (sym same) in omega (arith, few, alike, short))) (marked_listed p w.entries o.solo.marked) o.free.1

-- the second isn't passed over
never_twice : (w : World) (p : ℕ) (i : Inputs) (a : Answer) (mid : World) (q : ℕ) (j : Inputs) (b : Answer) (v : World) → PassesOver w p i a mid → PassesOver mid q j b v → ⊥
never_twice w p i a mid q j b v one two =
    let enough = (hands w p i a mid one).enough two.free q two.solo.marked in
    omega (arith, enough, short mid q j b v two)

one_at_most : (n : ℕ) (w v : World) → PolledInTurn PassesOver n w v → n ≤ 1
one_at_most zero w v t = omega arith
one_at_most (suc zero) w v t = omega arith
one_at_most (suc (suc n)) w v t = absurd (never_twice w t.0 t.1 t.2 t.3 t.5.0 t.5.1 t.5.2 t.5.3 t.4 t.5.4)

fewer_than_listed : (n : ℕ) (w v : World) → IsFreeAndWanted w → PolledInTurn PassesOver n w v → n < length w.entries
fewer_than_listed zero w v free t = some_listed free.0 w.entries free.1
fewer_than_listed (suc n) w v free t = let most = one_at_most (suc n) w v t in omega (arith, most, two w t.0 t.1 t.2 t.3 t.4)

pub bounded : (w : World) → IsSound w → IsAwake w → IsFreeAndWanted w → IsBounded w
bounded w sound awake wanted =
    let some = some_marked w.entries sound.once (awake.marked wanted) in
    record {
      some_marked = (some.0, some.1, inl (awake.pending some.0 (marked_listed some.0 w.entries some.1)));
      one_takes = λ n v t. fewer_than_listed n w v wanted t;
      second_takes = λ n v t. one_at_most n w v t;
    }
