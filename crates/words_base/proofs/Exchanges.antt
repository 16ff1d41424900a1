-- An exchange, which changes the word only where it is the one expected.
use Rattle.std.proofs.Common.{◌≡◌, ◌≢◌, ℕ, eqb, get_or, sym, refl, subst, eq-eqb, ne_eqb}
use mathlib.Core.Logic.{dite}
use mathlib.Core.Option.{some}
use native.Mathlib.Decide.{ℕ_discrete}
use lib.ListN.{get_elem?}
use prog.Atomic.{either}
use Rattle.atomic_table.specs.Table.{State, Me, keeps, stepped, Allows}

-- Where the rule is kept by the exchange that is made, and by what the seat knows of one that isn't, the exchange is allowed.
pub exchanged : {S V : Type 0} (R : State S V → Type 0) (slots id : ℕ) (me : Me S V) (i old new : ℕ) (made : V) (missed : ℕ → V)
    → ((s : State S V) → R s → get_elem? s.views id ≡ some me.0 → get_or s.words i 0 ≡ old → R (stepped s i new id me.1 made keeps))
    → ((s : State S V) → R s → get_elem? s.views id ≡ some me.0 → R (stepped s i (get_or s.words i 0) id me.1 (missed (get_or s.words i 0)) keeps))
    → Allows R slots id me i (λ x. either (eqb x old) new x) (λ n m'. (n ≡ old → m' ≡ (made, me.1)) × (n ≢ old → m' ≡ (missed n, me.1)))
exchanged R slots id me i old new made missed does not_made s r _ at _ = let x : ℕ = get_or s.words i 0 in dite (ℕ_discrete x old)
    (λ hit. (made, keeps, tt, subst (λ b. R (stepped s i (either b new x) id me.1 made keeps)) (sym (eq-eqb x old hit)) (does s r at hit), ((λ _. refl), λ miss. absurd (miss hit))))
    (λ miss. (missed x, keeps, tt, subst (λ b. R (stepped s i (either b new x) id me.1 (missed x) keeps)) (sym (ne_eqb x old miss)) (not_made s r at), ((λ hit. absurd (miss hit)), λ _. refl)))
