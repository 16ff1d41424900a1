-- The parts of a round's token, and the numbers of those who read and write.
use Rattle.std.proofs.Common.{◌≡◌, ℕ, zero, suc, ◌+◌, Bool, true, false, List, [], ◌∷◌, ◌++◌, set, sym, refl, ap, ◌∙◌, subst, arith}
use mathlib.Core.Option.{some, some-injective, some-ne-none}
use mathlib.Mathlib.Data.Part.{◌∈◌}
use lib.ListN.{get_elem?}
use seplogic.Ra.Pcs.{mem-op_comm, op_assoc_left, op_assoc_right}
use base.Fraction.{full_share, op}
use base.Fml.{Share}
use base.Algebras.{pcs, shares}
use Rattle.words_base.specs.Sums.{weight, number}
use Rattle.access_vault.specs.Vault.{Round, Cell, emptied, is_one, cell_reads, pick, Fills}

pub pick_case : {A B Z : Type 0} (b : Bool) → pick b A B → (b ≡ true → A → Z) → (b ≡ false → B → Z) → Z
pick_case true x f g = f refl x
pick_case false x f g = g refl x

pub pick_true : (A B : Type 0) (b : Bool) → b ≡ true → A → pick b A B
pick_true A B true e x = x
pick_true A B false e x = absurd (mathlib.Core.Bool.false≢true e)

pub pick_false : (A B : Type 0) (b : Bool) → b ≡ false → B → pick b A B
pick_false A B false e x = x
pick_false A B true e x = absurd (mathlib.Core.Bool.false≢true (sym e))

pub the_true : (A B : Type 0) (b : Bool) → b ≡ true → pick b A B → A
the_true A B true e x = x
the_true A B false e x = absurd (mathlib.Core.Bool.false≢true e)

-- e1 and e2 are e, and e and p are f: then e1 and p are some g, which with e2 is f
turned : (e e1 e2 p f : Share) → e ∈ op e1 e2 → f ∈ op e p → (g : Share) × (g ∈ op e1 p) × (f ∈ op g e2)
turned e e1 e2 p f m n = let u = op_assoc_left (pcs shares) {a = e1} {b = e2} {c = p} {ab = e} {d = f} m n in
    op_assoc_right (pcs shares) {a = e1} {b = p} {c = e2} {bc = u.0} {d = f} ((mem-op_comm (pcs shares) {a = e2} {b = p} {c = u.0}).0 u.1) u.2

module _ {V : Type 0} (a : Round) where
  -- the part e2 is given to one more who reads
  pub fills_more : (e e1 e2 : Share) (l : List (Cell V)) (x : Cell V) → Fills a e l → e ∈ op e1 e2 → is_one x.kind ≡ true → x.round ≡ a → x.part ≡ e2 → Fills a e1 (l ++ x ∷ [])
  fills_more e e1 e2 [] x f m one here part = pick_true _ _ (is_one x.kind) one (here, (e, subst (λ (p : Share). e ∈ op e1 p) (sym part) m, f))
  fills_more e e1 e2 (y ∷ ys) x f m one here part = pick_case (is_one y.kind) f
      (λ b h. let t = turned e e1 e2 y.part h.1.0 m h.1.1 in pick_true _ _ (is_one y.kind) b (h.0, (t.0, t.1, fills_more h.1.0 t.0 e2 ys x h.1.2 t.2 one here part)))
      (λ b h. pick_false _ _ (is_one y.kind) b (fills_more e e1 e2 ys x h m one here part))

  abbrev Less : Share → List (Cell V) → ℕ → Cell V → Type 0
  Less e l j x = (x.round ≡ a) × ((f : Share) × (f ∈ op e x.part) × Fills a f (set l j (emptied x)))

  -- who read gives its part back
  pub fills_less : (e : Share) (l : List (Cell V)) (j : ℕ) (x : Cell V) → get_elem? l j ≡ some x → is_one x.kind ≡ true → Fills a e l → Less e l j x
  fills_less e [] j x at one f = absurd (some-ne-none x (sym at))
  fills_less e (y ∷ ys) zero x at one f = let same : y ≡ x = some-injective y x at in let h = the_true _ _ (is_one y.kind) (ap (λ (c : Cell V). is_one c.kind) same ∙ one) f in
      (ap (λ (c : Cell V). c.round) (sym same) ∙ h.0, (h.1.0, subst (λ (c : Cell V). h.1.0 ∈ op e c.part) same h.1.1, h.1.2))
  fills_less e (y ∷ ys) (suc j) x at one f = pick_case (is_one y.kind) f
      (λ b h. let r = fills_less h.1.0 ys j x at one h.1.2 in let t = turned h.1.0 e y.part x.part r.1.0 h.1.1 r.1.1 in (r.0, (t.0, t.1, pick_true _ _ (is_one y.kind) b (h.0, (r.1.0, t.2, r.1.2)))))
      (λ b h. let r = fills_less e ys j x at one h in (r.0, (r.1.0, r.1.1, pick_false _ _ (is_one y.kind) b r.1.2)))

  -- where nobody reads this part is the whole
  pub fills_all : (e : Share) (l : List (Cell V)) → number cell_reads l ≡ 0 → Fills a e l → e ≡ full_share
  fills_all e [] nobody f = f
  fills_all e (y ∷ ys) nobody f = pick_case (is_one y.kind) f
      (λ b h. let w : weight (is_one y.kind) ≡ 1 = ap weight b in absurd (omega arith))
      (λ b h. fills_all e ys (omega arith) h)

  -- and the whole fills a list in which nobody reads
  pub whole_fills : (l : List (Cell V)) → number cell_reads l ≡ 0 → Fills a full_share l
  whole_fills [] nobody = refl
  whole_fills (y ∷ ys) nobody = pick_false _ _ (is_one y.kind) (off (is_one y.kind) (omega arith)) (whole_fills ys (omega arith))
    where
      off : (b : Bool) → weight b ≡ 0 → b ≡ false
      off true e = absurd (omega arith)
      off false e = refl

pub number-more : {V : Type 0} (flag : V → Bool) (l : List V) (w : V) → number flag (l ++ w ∷ []) ≡ number flag l + weight (flag w)
number-more flag [] w = omega arith
number-more flag (x ∷ xs) w = let r = number-more flag xs w in omega arith
