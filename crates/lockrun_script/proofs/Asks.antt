-- The words that commands begin with.
use Rattle.std.proofs.Common.{◌≡◌, ℕ, List, ◌∷◌, sym, subst, ◌∙◌, ap}
use Rattle.std.specs.Prelude.{Option, None, Some, IfSome}
use Rattle.lockrun_script.specs.Verbs.{name_of}
use Rattle.lockrun_script.proofs.Names.{same_name}
use Rattle.lockrun_script.specs.Commands.{verb_of, Asks, Details}
use Rattle.lockrun_script.specs.declared.command.Command.{Command}
use Rattle.lockrun_script.specs.declared.verbs.Verb.{Verb}

-- what is read of the words after a verb is what all words ask for
pub asks_of_verb : (words others : List (List ℕ)) (word : List ℕ) (v : Verb) (r : Option Command) → words ≡ word ∷ others → word ≡ name_of v → IfSome r (λ c. (verb_of c ≡ v) × Details others c) → IfSome r (Asks words)
asks_of_verb words others word v None e n h = tt
asks_of_verb words others word v (Some c) e n (same, h) = (others, e ∙ ap (λ w. w ∷ others) (n ∙ ap name_of (sym same)), h)

-- and what all words ask for begins with that verb
pub asked_of_verb : (words others : List (List ℕ)) (word : List ℕ) (v : Verb) (r : Option Command) → words ≡ word ∷ others → word ≡ name_of v → ((c : Command) → verb_of c ≡ v → Details others c → r ≡ Some c) → (c : Command) → Asks words c → r ≡ Some c
asked_of_verb words others word v r e n asked c (after, a, h) =
    let both : word ∷ others ≡ name_of (verb_of c) ∷ after = sym e ∙ a in
    let first : word ≡ name_of (verb_of c) = cc in
    let rest : after ≡ others = cc in
    asked c (same_name (verb_of c) v (sym first ∙ n)) (subst (λ ws. Details ws c) rest h)
