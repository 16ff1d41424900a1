use Rattle.std.proofs.Common.{◌≡◌, ◌∷◌, ◌∙◌, ℕ, List, ap, subst, sym}
use Rattle.std.specs.Prelude.{Option, None, Some, unwrap_or}
use Rattle.std.specs.Str.Parse.{digits_value}
use Rattle.lockrun_script.specs.Commands.{WritesLimit, WritesLimits}
use Rattle.lockrun_script.specs.Lines.{Writes}
use Rattle.lockrun_script.proofs.command.limits.Goals as goal

-- words whose first one writes a limit write that one and what the others do
both_limits : (words others : List (List ℕ)) (word : List ℕ) (f : ℕ) (s : Option ℕ) → words ≡ word ∷ others → Writes word f → ((l : Option ℕ) → WritesLimit others l → Some s ≡ Some l) → (first second : Option ℕ) → WritesLimits words first second → ◌≡◌ {A = Option (Option ℕ × Option ℕ)} (Some (Some f, s)) (Some (first, second))
both_limits words others word f s e w asked None second (none, last) = absurd cc
both_limits words others word f s e w asked (Some n) second (x, xs, are, writes, limit) =
    let both : word ∷ others ≡ x ∷ xs = sym e ∙ are in
    let same : word ≡ x = cc in
    let rest : others ≡ xs = cc in
    let first_is : f ≡ n = w.1 ∙ ap (digits_value 10) same ∙ sym writes.1 in
    let second_is : Some s ≡ Some second = asked second (subst (λ o. WritesLimit o second) (sym rest) limit) in
    ap (λ a. Some (Some a, s)) first_is ∙ ap (λ o. Some (Some n, unwrap_or o s)) second_is

pub returns-in_ok-second-in-Some-clause-words : goal.returns-in_ok-second-in-Some-clause-words
returns-in_ok-second-in-Some-clause-words c =
    (c.in-Some.word.now, _, c.in-Some.ensures.steps, c.in_ok-first-in-Some.ensures.value, c.in_ok-second-in-Some.ensures.words)

pub returns-in_ok-second-in-Some-clause-asked : goal.returns-in_ok-second-in-Some-clause-asked
returns-in_ok-second-in-Some-clause-asked c =
    both_limits c.args.words.now _ _ _ _ c.in-Some.ensures.steps c.in_ok-first-in-Some.ensures.value c.in_ok-second-in-Some.ensures.asked
