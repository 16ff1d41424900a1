-- The one word that a script is asked for by.
use Rattle.std.proofs.Common.{◌≡◌, ◌∙◌, ◌≤◌, ◌<◌, ℕ, List, [], ◌∷◌, refl, ap, sym, length, map, arith, String, Global}
use Rattle.std.specs.String.{string_bytes}
use lib.ListN.{get_or}
use Rattle.lockrun_play.proofs.task.parse.Goals as goal

one_word : (words : List (String Global)) (text : List ℕ) (word : String Global) → 1 ≤ length words → length words < 2 → word ≡ get_or words 0 word → string_bytes word ≡ text → map string_bytes words ≡ text ∷ []
one_word [] text word some few is reads = absurd (omega (arith, some))
one_word (x ∷ []) text word some few is reads = ap (λ z. string_bytes z ∷ []) (sym is) ∙ ap (λ z. z ∷ []) reads
one_word (x ∷ y ∷ l) text word some few is reads = absurd (omega (arith, few))

pub returns-in-len1-clause-asks : goal.returns-in-len1-clause-asks
returns-in-len1-clause-asks c = one_word c.args.words.now _ c.word-item.result c.in-len1.len_at_least c.in-len1.len_below c.word-item.is (c.if-is_word.ensures.0 refl)
