-- Numbers of histories and of lists that grow.
use Rattle.std.proofs.Common.{◌≡◌, ℕ, ◌++◌, List, [], ◌∷◌, arith, refl}
use Rattle.world_base.specs.declared.moves.Answer.{Answer}
use Rattle.world_base.specs.declared.moves.Move.{Move}
use Rattle.lock_audit.specs.Numbers.{Numbers, plus, counted, numbers_of, sums}

numbers : ℕ → ℕ → ℕ → ℕ → ℕ → ℕ → Numbers
numbers a b c d e f = record { moves = a; calls = b; grants = c; refusals = d; gives_back = e; granted = f }

joined : (a a' b b' c c' d d' e e' f f' : ℕ) → a ≡ a' → b ≡ b' → c ≡ c' → d ≡ d' → e ≡ e' → f ≡ f' → numbers a b c d e f ≡ numbers a' b' c' d' e' f'
joined a a' b b' c c' d d' e e' f f' ea eb ec ed ee ef = cc

-- numbers are equal if each is
pub each_equal : (n m : Numbers) → n.moves ≡ m.moves → n.calls ≡ m.calls → n.grants ≡ m.grants → n.refusals ≡ m.refusals → n.gives_back ≡ m.gives_back → n.granted ≡ m.granted → n ≡ m
unfolding numbers
each_equal n m a b c d e f = joined n.moves m.moves n.calls m.calls n.grants m.grants n.refusals m.refusals n.gives_back m.gives_back n.granted m.granted a b c d e f

-- three in another order
swapped : (a b c : Numbers) → plus a (plus b c) ≡ plus b (plus a c)
swapped a b c = each_equal _ _ (omega arith) (omega arith) (omega arith) (omega arith) (omega arith) (omega arith)

-- one recorded move more
pub numbers_more : (es : List (Move × Answer)) (m : Move) (a : Answer) → numbers_of (es ++ (m, a) ∷ []) ≡ plus (counted m a) (numbers_of es)
numbers_more [] m a = refl
numbers_more (e ∷ es) m a = rw (numbers_more es m a) (swapped (counted e.0 e.1) (counted m a) (numbers_of es))

-- one more in a list
pub sums_more : (ns : List Numbers) (n : Numbers) → sums (ns ++ n ∷ []) ≡ plus (sums ns) n
sums_more [] n = each_equal _ _ (omega arith) (omega arith) (omega arith) (omega arith) (omega arith) (omega arith)
sums_more (x ∷ ns) n = rw (sums_more ns n) (each_equal _ _ (omega arith) (omega arith) (omega arith) (omega arith) (omega arith) (omega arith))
