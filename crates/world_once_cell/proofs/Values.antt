-- One value at most enters along a run.
use Rattle.world_once_cell.proofs.Prelude.{◌≡◌, ℕ, ◌+◌, ◌≤◌, if◌then◌else◌, Bool, true, false, List, [], ◌∷◌, refl, arith, ap, sym, ◌∙◌, Answer, Move, Effect, nothing, changes, does, ListName, Content, Empty, BeingMade, Full, Change, begins, fills, empties, content_after, World, is_full, IsAllowed, Legal, Steps, Known, Runs, learn, enters, entered}

stays_by : (w : World) (m : Move) (d : Effect Change ListName) (c : Content) → IsAllowed w m d → c ≡ content_after m.party d w.cell → (v : ℕ) → w.cell ≡ Full v → c ≡ Full v
stays_by w m nothing c ok e v full = e ∙ full
stays_by w m (does list f) c ok e v full = e ∙ full
stays_by w m (changes begins) c ok e v full = let never : Empty ≡ Full v = sym ok.0 ∙ full in absurd (cc never)
stays_by w m (changes (fills u)) c ok e v full = let never : BeingMade m.party ≡ Full v = sym ok.0 ∙ full in absurd (cc never)
stays_by w m (changes empties) c ok e v full = let never : BeingMade m.party ≡ Full v = sym ok.0 ∙ full in absurd (cc never)

-- a full cell stays full, with its value
pub stays_full : (w : World) (m : Move) (a : Answer) (u : World) → Legal w m a u → (v : ℕ) → w.cell ≡ Full v → u.cell ≡ Full v
stays_full w m a u l v full = stays_by w m l.one_change.effect u.cell l.one_change.allowed l.one_change.cell v full

its_value : (c : Content) → is_full c ≡ true → (v : ℕ) × (c ≡ Full v)
its_value Empty h = absurd (cc h)
its_value (BeingMade q) h = absurd (cc h)
its_value (Full v) h = (v, refl)

still_full : (w : World) (m : Move) (a : Answer) (u : World) → Steps w m a u → is_full w.cell ≡ true → is_full u.cell ≡ true
still_full w m a u s h = let it = its_value w.cell h in ap is_full (stays_full w m a u s.legal it.0 it.1)

enters_by : (b d : Bool) → b ≡ true → Path ℕ (if b then 0 else (if d then 1 else 0)) 0
enters_by true d h = refl
enters_by false d h = absurd (cc h)

pub none_more : (k : Known) (w : World) (ms : List Move) (answers : List Answer) (v : World) (run : Runs k w ms answers v) → is_full w.cell ≡ true → entered k w ms answers v run ≡ 0
none_more k w [] [] v run h = refl
none_more k w [] (a ∷ more) v run h = absurd run
none_more k w (m ∷ ms) [] v run h = absurd run
none_more k w (m ∷ ms) (a ∷ more) v run h =
    let later : entered (learn k m a) run.0 ms more v run.3 ≡ 0 = none_more (learn k m a) run.0 ms more v run.3 (still_full w m a run.0 run.1 h) in
    let now : enters w.cell run.0.cell ≡ 0 = enters_by (is_full w.cell) (is_full run.0.cell) h in
    omega (arith, now, later)

by_first : (b d : Bool) (n : ℕ) → n ≤ 1 → (b ≡ true → n ≡ 0) → (d ≡ true → n ≡ 0) → (if b then 0 else (if d then 1 else 0)) + n ≤ 1
by_first true d n most was so = omega arith
by_first false true n most was so = let none : n ≡ 0 = so refl in omega arith
by_first false false n most was so = omega arith

pub one_at_most : (k : Known) (w : World) (ms : List Move) (answers : List Answer) (v : World) (run : Runs k w ms answers v) → entered k w ms answers v run ≤ 1
one_at_most k w [] [] v run = omega arith
one_at_most k w [] (a ∷ more) v run = absurd run
one_at_most k w (m ∷ ms) [] v run = absurd run
one_at_most k w (m ∷ ms) (a ∷ more) v run = by_first (is_full w.cell) (is_full run.0.cell) (entered (learn k m a) run.0 ms more v run.3) (one_at_most (learn k m a) run.0 ms more v run.3)
    (λ h. none_more (learn k m a) run.0 ms more v run.3 (still_full w m a run.0 run.1 h)) (λ h. none_more (learn k m a) run.0 ms more v run.3 h)
