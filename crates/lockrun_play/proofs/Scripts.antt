-- The lines of a script.
use Rattle.std.proofs.Common.{◌≡◌, ℕ, true, List, [], ◌∷◌, length, refl, sym, arith, inl}
use Rattle.std.specs.Prelude.{◌==◌, All}
use Rattle.std.proofs.lemmas.Bool.{eqb-true}
use Rattle.std.proofs.lemmas.List.Elements.{All-cons}
use Rattle.lockrun_script.specs.Lines.{lines_of}
use Rattle.lockrun_play.specs.Scripts.{IsLine}

-- after a last line feed nothing is left but an empty line
pub lines-none : (text : List ℕ) → true ≡ (length text == 0) → All IsLine (lines_of text)
lines-none [] e = All-cons IsLine [] [] (inl (λ k d l. absurd (omega arith), inl refl)) (λ k d l. absurd (omega arith))
lines-none (b ∷ bs) e = absurd (omega (arith, eqb-true _ 0 (sym e)))
