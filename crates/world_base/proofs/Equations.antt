-- What equations of options, of standings and of tests say. `cc` finds this too, but reads all that is in scope first, in each case of a long function.
use Rattle.world_base.proofs.Prelude.{◌≡◌, ℕ, ◌==◌, if◌then◌else◌, Bool, true, false, Option, Some, None, IsSomeAnd, refl, arith, ap, sym, subst, nat_tests, none-some, same_Some, Answer, Call, Inputs, Begin, Refusal, Rest, Within, Standing, outside, inside, forgotten, call_in, is_outside, is_decided, decision, refused}
pub use Rattle.std.proofs.lemmas.Bool.{and_parts as both}
use Rattle.world_base.specs.declared.moves.Got.{Got}
use Rattle.world_base.specs.declared.moves.Got.TheVariants.{Value}

pub some_eq : {A : Type 0} {x y : A} → Some x ≡ Some y → x ≡ y
some_eq e = same_Some _ _ e

pub none_some : {A : Type 0} {x : A} → None ≡ Some x → ⊥
none_some e = none-some _ e

pub some_none : {A : Type 0} {x : A} → Some x ≡ None → ⊥
some_none e = none-some _ (sym e)

pub outside_inside : {r : Rest} {w : Within} {d : Option Answer} → outside r ≡ inside w d → ⊥
outside_inside e = cc

-- a call that is decided is one that its party is inside, and that is decided on an answer
pub decided_inside : (s : Standing) → is_decided s ≡ true → (u : Within) × (b : Answer) × (s ≡ inside u (Some b))
decided_inside (inside u (Some b)) h = (u, b, refl)
decided_inside (inside u None) h = absurd (cc h)
decided_inside (outside r) h = absurd (cc h)
decided_inside forgotten h = absurd (cc h)

-- a call that leaves its party outside is decided on its answer
pub outside_says : (s : Standing) (a : Answer) → is_outside s ≡ true → decision a s ≡ Some a
outside_says (outside r) a h = refl
outside_says forgotten a h = refl
outside_says (inside u d) a h = absurd (cc h)

-- inside a call no other begins
pub inside_begins : (knows : Call → Bool) (u : Within) (d : Option Answer) (s : Standing) (c : Call) (i : Inputs) → s ≡ inside u d → call_in knows s (Begin c i) ≡ None
inside_begins knows u d s c i e = ap (λ z. call_in knows z (Begin c i)) e

-- an option with a value of which something holds
pub witness : {A : Type 0} {P : A → Type 0} (o : Option A) → IsSomeAnd o P → (x : A) × (o ≡ Some x) × P x
witness None h = absurd h
witness (Some x) h = (x, refl, h)

pub is_some_and : {A : Type 0} (P : A → Type 0) (o : Option A) (x : A) → o ≡ Some x → P x → IsSomeAnd o P
is_some_and {A} P o x e h = let Q : Option A → Type 0 = λ y. IsSomeAnd y P in subst Q (sym e) h

-- answers told apart
abbrev pub is_refused : Answer → Bool
is_refused (Answer.Refused n) = true
is_refused _ = false

abbrev pub is_granted : Answer → Bool
is_granted (Answer.Granted got) = true
is_granted _ = false

pub granted_eq : (n : ℕ) (got : Got) → Answer.Granted (Value n) ≡ Answer.Granted got → got ≡ Value n
granted_eq n got e = cc

pub finished_number : (n : ℕ) → Answer.Refused n ≡ refused Refusal.Finished → n ≡ 6
finished_number n e = cc

-- what a test chooses
pub chosen : {A : Type 0} (b : Bool) (x y : A) → b ≡ true → (if b then x else y) ≡ x
chosen true x y e = refl
chosen false x y e = absurd (cc)

pub otherwise : {A : Type 0} (b : Bool) (x y : A) → b ≡ false → (if b then x else y) ≡ y
otherwise false x y e = refl
otherwise true x y e = absurd (cc)

-- numbers told apart
pub same_test : (p q : ℕ) → p ≡ q → (p == q) ≡ true
same_test p q e = grind (arith, nat_tests)

pub other_test : (p q : ℕ) → (p ≡ q → ⊥) → (p == q) ≡ false
other_test p q e = grind (arith, nat_tests)

pub not_one : (n : ℕ) → (n == 0) ≡ true → n ≡ 1 → ⊥
not_one n h e = grind (arith, nat_tests)
