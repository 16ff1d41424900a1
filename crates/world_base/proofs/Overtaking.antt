-- A starved party is overtaken at most as often as entries stand before its own, where each call that gets what they wait for took an entry out that stood before it.
use Rattle.world_base.proofs.Prelude.{◌≡◌, ◌≢◌, ℕ, zero, suc, ◌+◌, ◌-◌, ◌<◌, ◌≤◌, inl, inr, if◌then◌else◌, Bool, true, false, List, [], ◌∷◌, length, sum_by, sum_by-cons, get_or, Option, Some, None, refl, arith, nat_tests, Entry, Mark, Waiting, Notified, Additional, joined, mark_waiting, passed_on, without, marked_count, is_marked_at, mark_at, IsMarkedFirst, is_party, entries_of, Answer, Call, Inputs}
use Rattle.world_base.specs.Overtaking.{before, Passes, Gets, Overtaken, how_many_inside, StepsPast, OvertakenInSteps}
use Rattle.world_base.specs.declared.moves.Move.{Move}
use Rattle.world_base.specs.Standings.{Standing, is_outside, is_outside_stage}
use Rattle.world_base.specs.declared.standing.Stage.{Stage}
use Rattle.world_base.specs.declared.standing.Stage.TheVariants.{Outside, Inside, Forgotten}
use Rattle.world_base.specs.table.Stages.{stage_at, stands_as}
use Rattle.world_base.specs.table.Views.{standings_from}
use Rattle.world_base.specs.Rosters.{how_many}
use Rattle.world_base.specs.Steps.{joins, asks, leaves, notifies, notifies_additionally, asked, list_after}

-- ---- what list functions of others leave before a party

before-joined : (q k : ℕ) (l : List (Entry ℕ)) → 0 < entries_of q l → before q (joined l k) ≡ before q l
before-joined q k [] some = absurd (omega arith)
before-joined q k (e ∷ es) some = grind (arith, nat_tests, before-joined q k es)

before-mark_waiting : (q : ℕ) (m : Mark) (n : ℕ) (l : List (Entry ℕ)) → before q (mark_waiting m n l) ≡ before q l
before-mark_waiting q m n [] = refl
before-mark_waiting q m n (e ∷ es) = grind (arith, nat_tests, before-mark_waiting q m n es, before-mark_waiting q m (n - 1) es)

before-without : (q p : ℕ) (l : List (Entry ℕ)) → p ≢ q → before q (without (is_party p) l) ≤ before q l
before-without q p [] apart = omega arith
before-without q p (e ∷ es) apart = grind (arith, nat_tests, before-without q p es apart)

before-passed_on : (q : ℕ) (m : Option Mark) (l : List (Entry ℕ)) → before q (passed_on m l) ≡ before q l
before-passed_on q None l = refl
before-passed_on q (Some Waiting) l = refl
before-passed_on q (Some Notified) l = before-mark_waiting q Notified (1 - marked_count l) l
before-passed_on q (Some Additional) l = before-mark_waiting q Additional 1 l

asked_before : (q p : ℕ) (l : List (Entry ℕ)) → p ≢ q → before q (asked p l) ≤ before q l
asked_before q p l apart = by_told (is_marked_at (is_party p) l) where
  by_told : (b : Bool) → before q (if b then without (is_party p) l else l) ≤ before q l
  by_told true = before-without q p l apart
  by_told false = omega arith

pub list_before : (q p : ℕ) (f : _) (l : List (Entry ℕ)) → p ≢ q → 0 < entries_of q l → before q (list_after p f l) ≤ before q l
list_before q p joins l apart some = omega (arith, before-joined q p l some)
list_before q p asks l apart some = asked_before q p l apart
list_before q p leaves l apart some = omega (arith, before-passed_on q (mark_at (is_party p) l) (without (is_party p) l), before-without q p l apart)
list_before q p (notifies n) l apart some = omega (arith, before-mark_waiting q Notified (n - marked_count l) l)
list_before q p (notifies_additionally n) l apart some = omega (arith, before-mark_waiting q Additional n l)

pub marked_there : (p : ℕ) (l : List (Entry ℕ)) → is_marked_at (is_party p) l ≡ true → 0 < entries_of p l
marked_there p [] h = absurd (cc h)
marked_there p (e ∷ es) h = grind (arith, nat_tests, marked_there p es)

marked_somewhere : (p : ℕ) (l : List (Entry ℕ)) → is_marked_at (is_party p) l ≡ true → 0 < marked_count l
marked_somewhere p [] h = absurd (cc h)
marked_somewhere p (e ∷ es) h = grind (arith, nat_tests, marked_somewhere p es)

-- where one entry is marked at most, a notified party that asks stood before any other
pub told_before : (q p : ℕ) (l : List (Entry ℕ)) → p ≢ q → is_marked_at (is_party p) l ≡ true → 0 < entries_of q l → marked_count l ≤ 1 → IsMarkedFirst l → before q (without (is_party p) l) + 1 ≤ before q l
told_before q p [] apart told some one first = absurd (cc told)
told_before q p (e ∷ es) apart told some one first = grind (arith, nat_tests, told_before q p es apart, marked_somewhere p es)

-- whoever is on a roster is one of those
pub some_on : (bs : List Bool) (q : ℕ) → get_or bs q false ≡ true → 0 < how_many bs
some_on [] q h = absurd (cc h)
some_on (true ∷ bs) q h = omega arith
some_on (false ∷ bs) zero h = absurd (cc h)
some_on (false ∷ bs) (suc q) h = omega (arith, some_on bs q h)

-- ---- calls in turn

-- Each call of another leaves no more entries before the party, and one fewer where it gets what they wait for.
module _ {W : Type 0} (Whole : W → ℕ → Call → Inputs → Answer → W → Type 0) (list : W → List (Entry ℕ)) (is_starved : W → ℕ → Bool) (Has : W → ℕ → Type 0) (IsGood : W → Type 0)
    (good : (w : W) (p : ℕ) (c : Call) (i : Inputs) (a : Answer) (v : W) → Whole w p c i a v → IsGood w → IsGood v)
    (never_more : (q : ℕ) (w : W) (p : ℕ) (c : Call) (i : Inputs) (a : Answer) (v : W) → Passes Whole list is_starved Has q w p c i a v → before q (list v) ≤ before q (list w))
    (fewer : (q : ℕ) (w : W) (p : ℕ) (c : Call) (i : Inputs) (a : Answer) (v : W) → Passes Whole list is_starved Has q w p c i a v → IsGood w → Gets Whole list is_starved Has w p v → before q (list v) + 1 ≤ before q (list w)) where
  pub seldom : (q calls n : ℕ) (w v : W) → IsGood w → Overtaken Whole list is_starved Has q calls n w v → n ≤ before q (list w)
  seldom q zero n w v g h = omega (arith, h.0)
  seldom q (suc calls) n w v g h =
      let p = h.0 in
      let c = h.1 in
      let i = h.2 in
      let a = h.3 in
      let mid : W = h.4 in
      let by = h.5 in
      let m = h.6 in
      let later : m ≤ before q (list mid) = seldom q calls m mid v (good w p c i a mid by.whole g) h.7 in
      let kept : before q (list mid) ≤ before q (list w) = never_more q w p c i a mid by in
      elim h.8 as (λ _. n ≤ before q (list w)) [
        | inl same ↦ omega (arith, same, later, kept)
        | inr got ↦ (let less = fewer q w p c i a mid by g got.1 in omega (arith, got.0, later, less))
      ]

-- ---- steps as they come

-- Parties have heard what they have not used up yet, at most one each, and only inside calls. No step of another makes this and the entries before the party more, and each that gets what they wait for makes it less.
module _ {W : Type 0} (Steps : W → Move → Answer → W → Type 0) (list : W → List (Entry ℕ)) (is_starved : W → ℕ → Bool) (Has : W → ℕ → Type 0) (standings : W → List Standing) (heard : W → ℕ)
    (inside : (q : ℕ) (w : W) (m : Move) (a : Answer) (v : W) → StepsPast Steps list is_starved Has standings q w m a v → heard w ≤ how_many_inside (standings w))
    (never_more : (q : ℕ) (w : W) (m : Move) (a : Answer) (v : W) → StepsPast Steps list is_starved Has standings q w m a v → heard v + before q (list v) ≤ heard w + before q (list w))
    (fewer : (q : ℕ) (w : W) (m : Move) (a : Answer) (v : W) → StepsPast Steps list is_starved Has standings q w m a v → (Has w m.party → ⊥) → Has v m.party → heard v + before q (list v) + 1 ≤ heard w + before q (list w)) where
  seldom_heard : (q steps n : ℕ) (w v : W) → OvertakenInSteps Steps list is_starved Has standings q steps n w v → n ≤ heard w + before q (list w)
  seldom_heard q zero n w v h = omega (arith, h.0)
  seldom_heard q (suc steps) n w v h =
      let m = h.0 in
      let a = h.1 in
      let mid : W = h.2 in
      let by = h.3 in
      let k = h.4 in
      let later : k ≤ heard mid + before q (list mid) = seldom_heard q steps k mid v h.5 in
      let kept : heard mid + before q (list mid) ≤ heard w + before q (list w) = never_more q w m a mid by in
      elim h.6 as (λ _. n ≤ heard w + before q (list w)) [
        | inl same ↦ omega (arith, same, later, kept)
        | inr got ↦ (let less = fewer q w m a mid by got.1 got.2 in omega (arith, got.0, later, less))
      ]

  pub seldom_in_steps : (q steps n : ℕ) (w v : W) → OvertakenInSteps Steps list is_starved Has standings q steps n w v → n ≤ before q (list w) + how_many_inside (standings w)
  seldom_in_steps q zero n w v h = omega (arith, h.0)
  seldom_in_steps q (suc steps) n w v h =
      let most : n ≤ heard w + before q (list w) = seldom_heard q (suc steps) n w v h in
      omega (arith, most, inside q w h.0 h.1 h.2 h.3)

one_inside : (d : Option Answer) (s : Stage) (k : ℕ) → k ≤ (if is_outside_stage s then 0 else 1) → k ≤ (if is_outside (stands_as d s) then 0 else 1)
one_inside d (Outside r) k h = h
one_inside d (Inside w) k h = h
one_inside d Forgotten k h = h

-- what each party has once at most that is inside a call, and nobody else has, is had by no more than are inside
pub few_inside : {A : Type 0} (f : A → ℕ) (verdict : ℕ → Option Answer) (n : ℕ) (xs : List A) (ss : List Stage) (d : A) → ((p : ℕ) → f (get_or xs p d) ≤ (if is_outside_stage (stage_at ss p) then 0 else 1)) → sum_by f xs ≤ how_many_inside (standings_from n verdict ss)
few_inside f verdict n [] ss d each = omega arith
few_inside f verdict n (x ∷ xs) [] d each =
    let more : sum_by f xs ≤ how_many_inside (standings_from n verdict []) = few_inside f verdict n xs [] d (λ p. each (suc p)) in
    omega (arith, each 0, more, sum_by-cons f x xs)
few_inside f verdict n (x ∷ xs) (s ∷ ss) d each =
    let here = one_inside (verdict n) s (f x) (each 0) in
    let more : sum_by f xs ≤ how_many_inside (standings_from (n + 1) verdict ss) = few_inside f verdict (n + 1) xs ss d (λ p. each (suc p)) in
    omega (arith, here, more, sum_by-cons f x xs)
