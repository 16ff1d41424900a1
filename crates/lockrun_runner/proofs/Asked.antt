-- What the arguments ask for.
use Rattle.std.proofs.Common.{◌≡◌, ℕ, List, [], ◌∷◌, length, sym, subst, ◌∙◌, ap, arith, refl}
use Rattle.std.specs.Prelude.{Option, Some, None, IfSome, IfNone, codes}
use Rattle.lockrun_play.specs.declared.task.Task.{Task}
use Rattle.lockrun_play.specs.declared.task.Task.TheVariants.{Script, Threads}
use Rattle.lockrun_play.specs.Scripts.{asked, AsksFor}

-- where they are the one word `script`, they ask for a script
pub only_script : (words : List (List ℕ)) (r : Option Task) → IfSome r (AsksFor words) → IfNone r ((task : Task) → ¬ AsksFor words task) → words ≡ asked → r ≡ Some Script
only_script words None asks none e = absurd (none Script e)
only_script words (Some Script) asks none e = refl
only_script words (Some (Threads count)) (word, two, rest) none e =
    let clash : codes "threads" ∷ word ∷ [] ≡ codes "script" ∷ [] = sym two ∙ e in
    absurd (omega (arith, ap length clash))

-- no words ask for a script and for threads
pub not_both : (words : List (List ℕ)) (count : ℕ) → words ≡ asked → AsksFor words (Threads count) → ⊥
not_both words count e (word, two, rest) =
    let clash : codes "threads" ∷ word ∷ [] ≡ codes "script" ∷ [] = sym two ∙ e in
    omega (arith, ap length clash)

-- what was read of the words is what they ask for
pub asks_of : (words : List (List ℕ)) (r : Option Task) (task : Task) → r ≡ Some task → IfSome r (AsksFor words) → AsksFor words task
asks_of words r task is asks = let P : Option Task → Type 0 = λ o. IfSome o (AsksFor words) in subst P is asks

pub asks_nothing : (words : List (List ℕ)) (r : Option Task) → r ≡ None → IfNone r ((task : Task) → ¬ AsksFor words task) → (task : Task) → ¬ AsksFor words task
asks_nothing words r is none = let P : Option Task → Type 0 = λ o. IfNone o ((task : Task) → ¬ AsksFor words task) in subst P is none
