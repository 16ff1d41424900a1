-- What several reads took, one after another.
use Rattle.std.proofs.Common.{◌≡◌, ℕ, List, ◌++◌, length, drop, sym, ◌∙◌, ap, append_assoc, take-append-drop}
use Rattle.std.specs.Prelude.{Option, Some, None}
use Rattle.std.specs.Io.{StartsWith, appended_bytes}
use Rattle.std.specs.Io.KnownBytes.{Consumes}

-- what was taken first, and then what was added to it
pub Consumes-more : (a b c : Option (List ℕ)) (old new : List ℕ) → Consumes a b old → StartsWith new old → Consumes b c (appended_bytes old new) → Consumes a c new
Consumes-more None b c old new h s m = tt
Consumes-more (Some xs) None c old new h s m = absurd h
Consumes-more (Some xs) (Some ys) None old new h s m = absurd m
Consumes-more (Some xs) (Some ys) (Some zs) old new h s m =
    let parts : new ≡ old ++ drop (length old) new = sym (take-append-drop (length old) new) ∙ ap (λ f. f ++ drop (length old) new) s in
    h ∙ ap (λ r. old ++ r) m ∙ sym (append_assoc old (drop (length old) new) zs) ∙ ap (λ t. t ++ zs) (sym parts)
