-- A notified party for whom there are too few permits hands over to one for whom there are enough.
use Rattle.world_semaphore.proofs.Prelude.{◌≡◌, ◌≢◌, ℕ, ◌+◌, ◌<◌, ◌≤◌, inl, true, false, Bool, List, [], ◌∷◌, length, Some, None, refl, arith, ap, sym, ◌∙◌, subst, leb-true, nat_tests, Entry, is_marked, is_marked_at, marked_count, is_enough, fit_first, fitted, length-joined, length-without, marked_count-without_marked, marked_count-joined, is_party, entries_of, Answer, Call, Inputs, What, Begin, Rest, Within, outside, inputs_of, is_stepped, moves_of, answers_of, Table, some_eq, none_some, is_there, Action, Found, Done, Left, Short, NoMemory, Yes, No, Place, Take, Retake, Join, Ask, PassOn, Position, Waiting, At, Words, action_of, next_of, place_for, seat_of, size_at, listed, Effect, nothing, changes, does, effect_of, Finds, words_after, entries_after, Semaphore, answer_by, position_at, sizes_of, State, World, standing_of, size_of, state_after, Known, Runs, view_of}
use Rattle.world_semaphore.proofs.of_machine.laws.Entries.{length-fitted}
use Rattle.world_semaphore.proofs.of_machine.laws.Kept.{after}
use Rattle.world_semaphore.proofs.table.Seen as seen
use Rattle.world_semaphore.proofs.step.Acting.{Acting}
use Rattle.world_semaphore.proofs.step.Acting as acting
use Rattle.world_semaphore.proofs.whole.Onwards.{along_acts}
use Rattle.world_semaphore.proofs.whole.Passing.{same_sizes, told_then}

-- ---- who is told where nobody was

pub none_marked : (q : ℕ) (l : List (Entry ℕ)) → marked_count l ≡ 0 → is_marked_at (is_party q) l ≡ false
none_marked q [] none = refl
none_marked q (e ∷ es) none = grind (arith, none_marked q es)

module _ (size : ℕ → ℕ) (a : ℕ) where
  first_enough : (q : ℕ) (l : List (Entry ℕ)) → marked_count l ≡ 0 → is_marked_at (is_party q) (fit_first size a l) ≡ true → size q ≤ a
  first_enough q [] none h = absurd (cc h)
  first_enough q (e ∷ es) none h = by_enough (is_marked e.mark) refl (is_enough size a e) refl (first_enough q es) where
    by_enough : (m : Bool) → is_marked e.mark ≡ m → (b : Bool) → is_enough size a e ≡ b → (marked_count es ≡ 0 → is_marked_at (is_party q) (fit_first size a es) ≡ true → size q ≤ a) → size q ≤ a
    by_enough true is b fits more = let some : marked_count (e ∷ es) ≡ 1 + marked_count es = rw is refl in absurd (omega (arith, some, none))
    by_enough false is true fits more =
        let few : marked_count es ≡ 0 = grind arith in
        let rest : is_marked_at (is_party q) es ≡ false = none_marked q es few in
        let own : e.key ≡ q = grind (arith, nat_tests) in
        let enough : size e.key ≤ a = leb-true (size e.key) a fits in
        omega (arith, enough, ap size own)
    by_enough false is false fits more =
        let few : marked_count es ≡ 0 = grind arith in
        let there : is_marked_at (is_party q) (fit_first size a es) ≡ true = grind (arith, nat_tests) in
        more few there

  -- whoever is told is one for whom so many are enough
  pub told_enough : (q : ℕ) (l : List (Entry ℕ)) → marked_count l ≡ 0 → is_marked_at (is_party q) (fitted size a l) ≡ true → size q ≤ a
  told_enough q l none h = first_enough q l none (let same : fitted size a l ≡ fit_first size a l = rw none refl in subst (λ es. is_marked_at (is_party q) es ≡ true) same h)

-- ---- the places of a poll in vain, of a party that was told

abbrev pub is_change : Effect → Bool
is_change (changes c) = true
is_change _ = false

module _ (k a size : ℕ) where
  -- where the list has so many entries, so many of them marked, and the party's own is or isn't
  abbrev pub IsVain : Place → ℕ → ℕ → Bool → Type 0
  IsVain (Retake n) len marked own = (n ≡ k) × (len ≡ size) × (own ≡ true) × (marked ≡ 1)
  IsVain (Ask n None) len marked own = (n ≡ k) × (len ≡ size) × (own ≡ true) × (marked ≡ 1)
  IsVain (Take n false true) len marked own = (n ≡ k) × (len + 1 ≡ size) × (marked ≡ 0)
  IsVain (Join n (Some c)) len marked own = (n ≡ k) × (c ≡ a) × (len + 1 ≡ size) × (marked ≡ 0)
  IsVain (Take n true true) len marked own = (n ≡ k) × (len ≡ size) × (marked ≡ 0)
  IsVain (Ask n (Some c)) len marked own = (n ≡ k) × (c ≡ a) × (len ≡ size) × (marked ≡ 0)
  IsVain (PassOn n c) len marked own = (n ≡ k) × (c ≡ a) × (len ≡ size) × (marked ≡ 0)
  IsVain _ len marked own = ⊥

  went : (y z : Place) (len marked : ℕ) (own : Bool) → IsVain y len marked own → At y ≡ At z → IsVain z len marked own
  went y z len marked own h e = let P : Place → Type 0 = λ z. IsVain z len marked own in subst P (cc e) h

  -- it goes on so, changes nothing of the state, and ends by telling others
  pub record Vain (x : Place) (f : Found) (len marked : ℕ) (own : Bool) : Type 0 where
    pub unchanged : is_change (effect_of (action_of x) f) ≡ false
    pub going : (z : Place) → after x f ≡ At z → IsVain z len marked own
    pub ends : is_stepped (answer_by (next_of x f)) ≡ false → (action_of x ≡ Action.Fit a) × (answer_by (next_of x f) ≡ Answer.Pending)

  module _ (p : ℕ) (w : Words) (l : List (Entry ℕ)) (sizes : ℕ → ℕ) (few : w.available ≡ a) (short : a < k) where
    abbrev then_list : Place → Found → List (Entry ℕ)
    then_list x f = entries_after sizes p (effect_of (action_of x) f) l

    on : (x : Place) (f : Found) (y : Place) → after x f ≡ At y → is_change (effect_of (action_of x) f) ≡ false → is_stepped (answer_by (next_of x f)) ≡ true
        → IsVain y (length (then_list x f)) (marked_count (then_list x f)) (is_marked_at (is_party p) (then_list x f)) → Vain x f (length (then_list x f)) (marked_count (then_list x f)) (is_marked_at (is_party p) (then_list x f))
    on x f y e same goes h = record { unchanged = same; going = λ z g. went y z _ _ _ h (sym e ∙ g); ends = λ s. absurd (cc (goes, s)) }

    pub vain : (x : Place) (f : Found) → Finds true p (action_of x) f w l → entries_of p l ≡ (seat_of x).listed → IsVain x (length l) (marked_count l) (is_marked_at (is_party p) l)
        → Vain x f (length (then_list x f)) (marked_count (then_list x f)) (is_marked_at (is_party p) (then_list x f))
    vain (Retake n) (Left c) e own h = absurd (omega (arith, e, few, short, h.0))
    vain (Retake n) (Short c) e own h = on (Retake n) (Short c) (Ask n None) refl refl refl h
    vain (Retake n) _ e own h = absurd e
    vain (Ask n None) Yes e own h =
        let gone = length-without (is_party p) l (is_there p l (omega (arith, own))) in
        let less = marked_count-without_marked (is_party p) l e in
        on (Ask n None) Yes (Take n false true) refl refl refl (rw e (h.0, omega (arith, gone, h.1), omega (arith, less, h.3)))
    vain (Ask n None) No e own h = absurd (cc (e, h.2))
    vain (Ask n None) _ e own h = absurd e
    vain (Take n false true) (Left c) e own h = absurd (omega (arith, e, few, short, h.0))
    vain (Take n false true) (Short c) e own h = on (Take n false true) (Short c) (Join n (Some c)) refl refl refl (h.0, omega (arith, e.0, few), h.1, h.2)
    vain (Take n true true) (Left c) e own h = absurd (omega (arith, e, few, short, h.0))
    vain (Take n true true) (Short c) e own h = on (Take n true true) (Short c) (Ask n (Some c)) refl refl refl (h.0, omega (arith, e.0, few), h.1, h.2)
    vain (Take n false false) f e own h = absurd h
    vain (Take n true false) f e own h = absurd h
    vain (Take n there told) _ e own h = absurd e
    vain (Join n (Some c)) Done e own h = on (Join n (Some c)) Done (Take n true true) refl refl refl (h.0, omega (arith, length-joined l p, h.2), omega (arith, marked_count-joined l p, h.3))
    vain (Join n (Some c)) NoMemory e own h = absurd (cc e)
    vain (Join n (Some c)) _ e own h = absurd e
    vain (Join n None) f e own h = absurd h
    vain (Ask n (Some c)) Yes e own h = absurd (cc (e, none_marked p l h.3))
    vain (Ask n (Some c)) No e own h = on (Ask n (Some c)) No (PassOn n c) refl refl refl (rw e h)
    vain (Ask n (Some c)) _ e own h = absurd e
    vain (PassOn n c) Done e own h = record { unchanged = refl; going = λ z g. absurd (cc g); ends = λ s. (ap Action.Fit h.1, refl) }
    vain (PassOn n c) _ e own h = absurd e
    vain _ f e own h = absurd h

-- ---- a whole solo poll of a notified party

-- what is so at its end, by the state, what is available and the list's length
pub record HasHanded (state : State) (a size : ℕ) (b : Answer) (u : Table Semaphore) : Type 0 where
  pub pending : b ≡ Answer.Pending
  pub same : (view_of u).state ≡ state
  pub as_long : length u.machine.entries ≡ size
  pub enough : (q : ℕ) → is_marked_at (is_party q) u.machine.entries ≡ true → size_of (view_of u) q ≤ a

module _ (state : State) (k a size : ℕ) (short : a < k) where
  pub record IsHanding (p : ℕ) (y : Place) (t : Table Semaphore) : Type 0 where
    pub same : (view_of t).state ≡ state
    pub few : t.machine.words.available ≡ a
    pub vain : IsVain k a size y (length t.machine.entries) (marked_count t.machine.entries) (is_marked_at (is_party p) t.machine.entries)

  module _ (p : ℕ) (t u : Table Semaphore) (what : What) (b : Answer) (w : Within) (d : Acting t u (record { party = p; what = what }) b w) (found : (inputs_of what).memory ≡ true) (g : IsHanding p d.from t) where
    abbrev sizes : ℕ → ℕ
    sizes = sizes_of t.machine.positions

    finds : Finds true p (action_of d.from) d.found t.machine.words t.machine.entries
    finds = let P : Bool → Type 0 = λ m. Finds m p (action_of d.from) d.found t.machine.words t.machine.entries in subst P found d.acts.finds

    step : Vain k a size d.from d.found (length (entries_after sizes p (effect_of (action_of d.from) d.found) t.machine.entries)) (marked_count (entries_after sizes p (effect_of (action_of d.from) d.found) t.machine.entries)) (is_marked_at (is_party p) (entries_after sizes p (effect_of (action_of d.from) d.found) t.machine.entries))
    step = vain k a size p t.machine.words t.machine.entries sizes g.few short d.from d.found finds (acting.own_entries t u (record { party = p; what = what }) b w d) g.vain

    state_so : (c : Effect) → is_change c ≡ false → (view_of u).state ≡ state_after p c (view_of t).state → (view_of u).state ≡ (view_of t).state
    state_so nothing h e = e
    state_so (changes c) h e = absurd (cc h)
    state_so (does f) h e = e

    words_so : (c : Effect) → is_change c ≡ false → (words_after c t.machine.words).available ≡ t.machine.words.available
    words_so nothing h = refl
    words_so (changes c) h = absurd (cc h)
    words_so (does f) h = refl

    same_state : (view_of u).state ≡ state
    same_state = state_so (effect_of (action_of d.from) d.found) step.unchanged (acting.state_is t u (record { party = p; what = what }) b w d) ∙ g.same

    same_words : u.machine.words.available ≡ a
    same_words = ap (λ (v : Words). v.available) d.acts.words ∙ (words_so (effect_of (action_of d.from) d.found) step.unchanged ∙ g.few)

    hands_on : (z : Place) → after d.from d.found ≡ At z → IsHanding p z u
    hands_on z e =
        let P : List (Entry ℕ) → Type 0 = λ l. IsVain k a size z (length l) (marked_count l) (is_marked_at (is_party p) l) in
        record { same = same_state; few = same_words; vain = subst P (sym d.acts.entries) (step.going z e) }

    ended : is_stepped (answer_by (next_of d.from d.found)) ≡ false → HasHanded state a size b u
    ended ends =
        let so = step.ends ends in
        let es = told_then p t u what b w d a so.0 in
        let vain = tells_vain d.from so.0 g.vain in
        record {
          pending = d.answer ∙ so.1;
          same = same_state;
          as_long = ap length es ∙ (length-fitted sizes a t.machine.entries ∙ vain.0);
          enough = λ q marked. omega (arith, told_enough sizes a q t.machine.entries vain.1 (sym (ap (is_marked_at (is_party q)) es) ∙ marked), same_sizes p t u what b w d a so.0 q, seen.size_seen u q);
        } where
          tells_vain : (x : Place) → action_of x ≡ Action.Fit a → IsVain k a size x (length t.machine.entries) (marked_count t.machine.entries) (is_marked_at (is_party p) t.machine.entries) → (length t.machine.entries ≡ size) × (marked_count t.machine.entries ≡ 0)
          tells_vain (PassOn n c) e h = (h.2, h.3)
          tells_vain (Take n true told) e h = absurd (cc e)
          tells_vain (Take n false told) e h = absurd (cc e)
          tells_vain (Retake n) e h = absurd (cc e)
          tells_vain (Join n told) e h = absurd (cc e)
          tells_vain (Ask n told) e h = absurd (cc e)
          tells_vain _ e h = absurd h

-- where a notified party's poll begins
begins_vain : (k a size len marked : ℕ) (x : Position) (i : Inputs) (from : Place) → 0 < listed x → size_at x ≡ k → len ≡ size → marked ≡ 1 → place_for (Begin Call.Poll i) x ≡ Some from → IsVain k a size from len marked true
begins_vain k a size len marked (Waiting n) i from some is long one starts = let P : Place → Type 0 = λ z. IsVain k a size z len marked true in subst P (some_eq starts) (is, long, refl, one)
begins_vain k a size len marked (At y) i from some is long one starts = absurd (none_some starts)
begins_vain k a size len marked _ i from some is long one starts = absurd (omega arith)

pub hands_over : (known : Known) (w : World) (p : ℕ) (i : Inputs) (n : ℕ) (b : Answer) (v : World) → Runs known w (moves_of p Call.Poll i n) (answers_of n b) v → b ≢ Answer.Stepped → standing_of w p ≡ outside Rest.Pending
    → i.memory ≡ true → is_marked_at (is_party p) w.behind.machine.entries ≡ true → marked_count w.behind.machine.entries ≡ 1 → 0 < listed (position_at w.behind.machine.positions p)
    → w.behind.machine.words.available < sizes_of w.behind.machine.positions p → HasHanded (view_of w.behind).state w.behind.machine.words.available (length w.behind.machine.entries) b v.behind
hands_over known w p i n b v runs over pending memory marked one there short =
    let state = (view_of w.behind).state in
    let k = sizes_of w.behind.machine.positions p in
    let a = w.behind.machine.words.available in
    let size = length w.behind.machine.entries in
    along_acts p i (λ y t. IsHanding state k a size short p y t) (λ c u. HasHanded state a size c u)
    (λ t u what c x d is g. (hands_on state k a size short p t u what c x d (ap (λ (z : Inputs). z.memory) is ∙ memory) g, ended state k a size short p t u what c x d (ap (λ (z : Inputs). z.memory) is ∙ memory) g))
    Call.Poll (inl refl) known w n b v runs over pending
    (λ from starts. record { same = refl; few = refl; vain = rw marked (begins_vain k a size size (marked_count w.behind.machine.entries) (position_at w.behind.machine.positions p) i from there refl refl one starts) })
