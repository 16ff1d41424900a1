-- Runs of any World go on by one step, and are cut in two.
use Rattle.world_base.proofs.Prelude.{◌≡◌, ◌≢◌, ℕ, ◌+◌, true, false, List, [], ◌∷◌, ◌++◌, length, replicate, zero, suc, refl, arith, ap, sym, ◌∙◌, subst, length-append, length-replicate, replicate-append-replicate, Answer, Call, Inputs, Move, What, Go, Runs, is_stepped, going_on, moves_of, answers_of, known_by, beginning, KeepsPromises}

-- what a step leaves: this while its call goes on, and that where it ends
pub record Onward {W : Type 0} (Going : W → Type 0) (AtEnd : Answer → W → Type 0) (a : Answer) (v : W) : Type 0 where
  pub going : a ≡ Answer.Stepped → Going v
  pub ended : a ≢ Answer.Stepped → AtEnd a v

module _ {W Known : Type 0} (Legal : W → Move → Answer → W → Type 0) (learn : Known → Move → Answer → Known) (IsWell : Known → W → Type 0) where
  pub runs_more : (known : Known) (w : W) (ms : List Move) (answers : List Answer) (v : W) (m : Move) (a : Answer) (u : W) → Runs Legal learn IsWell known w ms answers v → Legal v m a u → IsWell (learn (known_by learn known ms answers) m a) u → Runs Legal learn IsWell known w (ms ++ m ∷ []) (answers ++ a ∷ []) u
  runs_more known w [] [] v m a u runs step well = let P : W → Type 0 = λ x. Legal x m a u in (u, subst P runs step, well, refl)
  runs_more known w [] (b ∷ more) v m a u runs step well = absurd runs
  runs_more known w (n ∷ ms) [] v m a u runs step well = absurd runs
  runs_more known w (n ∷ ms) (b ∷ more) v m a u runs step well = (runs.0, runs.1, runs.2, runs_more (learn known n b) runs.0 ms more v m a u runs.3 step well)

  pub known_more : (known : Known) (w : W) (ms : List Move) (answers : List Answer) (v : W) (m : Move) (a : Answer) → Runs Legal learn IsWell known w ms answers v → known_by learn known (ms ++ m ∷ []) (answers ++ a ∷ []) ≡ learn (known_by learn known ms answers) m a
  known_more known w [] [] v m a runs = refl
  known_more known w [] (b ∷ more) v m a runs = absurd runs
  known_more known w (n ∷ ms) [] v m a runs = absurd runs
  known_more known w (n ∷ ms) (b ∷ more) v m a runs = known_more (learn known n b) runs.0 ms more v m a runs.3

  -- the first step of a run
  pub first_of : (known : Known) (w : W) (m : Move) (ms : List Move) (answers : List Answer) (v : W) → Runs Legal learn IsWell known w (m ∷ ms) answers v → (a : Answer) × (u : W) × Legal w m a u
  first_of known w m ms [] v runs = absurd runs
  first_of known w m ms (a ∷ more) v runs = (a, runs.0, runs.1)

  -- the last step of a run
  pub record LastStep (w : W) (p : ℕ) (a : Answer) (v : W) : Type 0 where
    pub from : W
    pub what : What
    pub legal : Legal from (record { party = p; what = what }) a v

  pub last_of : (known : Known) (w : W) (p : ℕ) (i : Inputs) (n : ℕ) (what : What) (a : Answer) (v : W) → Runs Legal learn IsWell known w (record { party = p; what = what } ∷ replicate n (going_on p i)) (replicate n Answer.Stepped ++ a ∷ []) v → LastStep w p a v
  last_of known w p i zero what a v runs = let P : W → Type 0 = λ x. Legal w (record { party = p; what = what }) a x in record { from = w; what = what; legal = subst P (sym runs.3) runs.1 }
  last_of known w p i (suc n) what a v runs = let r = last_of (learn known (record { party = p; what = what }) Answer.Stepped) runs.0 p i n (Go i) a v runs.3 in record { from = r.from; what = r.what; legal = r.legal }

  -- what each step of a whole call keeps holds along it, and what the step that ends it says holds at the end
  module _ (p : ℕ) (i : Inputs) (Going : W → Type 0) (AtEnd : Answer → W → Type 0) where
    pub along : ((x : W) (a : Answer) (v : W) → Going x → Legal x (going_on p i) a v → Onward Going AtEnd a v)
        → (known : Known) (n : ℕ) (w : W) (m : Move) (a : Answer) (v : W) → ((b : Answer) (x : W) → Legal w m b x → Onward Going AtEnd b x)
        → a ≢ Answer.Stepped → Runs Legal learn IsWell known w (m ∷ replicate n (going_on p i)) (replicate n Answer.Stepped ++ a ∷ []) v → AtEnd a v
    along on known zero w m a v first ended runs = let P : W → Type 0 = AtEnd a in subst P (sym runs.3) ((first a runs.0 runs.1).ended ended)
    along on known (suc n) w m a v first ended runs =
        along on (learn known m Answer.Stepped) n runs.0 (going_on p i) a v (λ b x legal. on runs.0 b x ((first Answer.Stepped runs.0 runs.1).going refl) legal) ended runs.3

  -- a call whose first step has one answer, and doesn't go on, is answered so
  pub at_first : (known : Known) (w : W) (p : ℕ) (c : Call) (i : Inputs) (n : ℕ) (a : Answer) (v : W) (r : Answer) → r ≢ Answer.Stepped → ((b : Answer) (x : W) → Legal w (beginning p c i) b x → b ≡ r)
      → a ≢ Answer.Stepped → Runs Legal learn IsWell known w (moves_of p c i n) (answers_of n a) v → a ≡ r
  at_first known w p c i n a v r ends first ended runs =
      along p i (λ x. ⊥) (λ b x. b ≡ r) (λ x b y g s. absurd g) known n w (beginning p c i) a v (λ b x s. record { going = λ e. absurd (ends (sym (first b x s) ∙ e)); ended = λ e. first b x s }) ended runs

  -- a run cut in two
  pub cut : (known : Known) (w : W) (ms ns : List Move) (answers more : List Answer) (v : W) → length answers ≡ length ms → Runs Legal learn IsWell known w (ms ++ ns) (answers ++ more) v
      → (x : W) × Runs Legal learn IsWell known w ms answers x × Runs Legal learn IsWell (known_by learn known ms answers) x ns more v
  cut known w [] ns [] more v e runs = (w, refl, runs)
  cut known w [] ns (a ∷ answers) more v e runs = absurd (omega arith)
  cut known w (m ∷ ms) ns [] more v e runs = absurd (omega arith)
  cut known w (m ∷ ms) ns (a ∷ answers) more v e runs =
      let r = cut (learn known m a) runs.0 ms ns answers more v (omega arith) runs.3 in
      (r.0, (runs.0, runs.1, runs.2, r.1), r.2)

  as_many : (p : ℕ) (c : Call) (i : Inputs) (n : ℕ) (a : Answer) → length (answers_of n a) ≡ length (moves_of p c i n)
  as_many p c i n a = omega (arith, length-append (replicate n Answer.Stepped) (a ∷ []), length-replicate n Answer.Stepped, length-replicate n (going_on p i))

  -- whole calls keep their promises within a run, where they do alone
  pub keeps_promises : (Promises : W → ℕ → Call → Inputs → Answer → W → Type 0)
      (law : (known : Known) (w : W) (p : ℕ) (c : Call) (i : Inputs) (n : ℕ) (a : Answer) (v : W) → Runs Legal learn IsWell known w (moves_of p c i n) (answers_of n a) v → a ≢ Answer.Stepped → Promises w p c i a v)
      (known : Known) (w : W) (ms : List Move) (answers : List Answer) (v : W) → Runs Legal learn IsWell known w ms answers v → KeepsPromises Legal learn IsWell Promises known w ms answers v
  keeps_promises Promises law known w ms answers v runs before told p c i n a after more em ea long ended =
      let M : List Move → Type 0 = λ xs. Runs Legal learn IsWell known w xs answers v in
      let A : List Answer → Type 0 = λ xs. Runs Legal learn IsWell known w (before ++ (moves_of p c i n ++ after)) xs v in
      let one = cut known w before (moves_of p c i n ++ after) told (answers_of n a ++ more) v long (subst A ea (subst M em runs)) in
      let two = cut (known_by learn known before told) one.0 (moves_of p c i n) after (answers_of n a) more v (as_many p c i n a) one.2 in
      record { from = one.0; to = two.0; until = one.1; kept = law (known_by learn known before told) one.0 p c i n a two.0 two.1 ended; since = two.2 }

pub one_more : {A : Type 0} (n : ℕ) (x : A) → replicate n x ++ x ∷ [] ≡ replicate (n + 1) x
one_more n x = replicate-append-replicate n 1 x

pub stepped_is : (a : Answer) → is_stepped a ≡ true → a ≡ Answer.Stepped
stepped_is Answer.Stepped h = refl
stepped_is _ h = absurd (cc)

pub not_stepped_is : (a : Answer) → is_stepped a ≡ false → a ≢ Answer.Stepped
not_stepped_is a h e = let s : is_stepped a ≡ true = ap is_stepped e in absurd (cc)
