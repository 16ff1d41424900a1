-- The words of inputs that tell of the maker.
use Rattle.std.proofs.Common.{◌≡◌, ℕ, Bool, true, false, cond, List, [], ◌∷◌, ◌++◌, refl, sym, subst, ◌∙◌, ap, arith, not, ◌&&◌}
use Rattle.std.specs.Prelude.{IsTrue, codes, bytes_eq, count_by, filter}
use Rattle.std.proofs.lemmas.List.Elements.{filter-append}
use Rattle.std.proofs.lemmas.List.Sums.{sum_by-append}
use Rattle.world_base.specs.declared.moves.Inputs.{Inputs}
use Rattle.world_base.specs.declared.moves.Made.{Made}
use Rattle.world_base.specs.declared.moves.Made.TheVariants.{Pending, Value, Fail}
use Rattle.lockrun_script.specs.Inputs.{is_of_maker, GivesMade, WritesInputs, WritesMade}

-- the first of some words that tell of the maker is what they give
pub first_gives : (word : List ℕ) (others : List (List ℕ)) (m : Made) → GivesMade (word ∷ others) m → WritesMade word m
first_gives word others Pending h = absurd cc
first_gives word others (Value v) (w, e, h) = let same : word ≡ w = cc in rw same h
first_gives word others Fail (w, e, h) = let same : word ≡ w = cc in rw same h

-- one word that tells of the maker gives what it says
pub one_gives : (word : List ℕ) (m : Made) → WritesMade word m → GivesMade (word ∷ []) m
one_gives word Pending h = absurd h
one_gives word (Value v) h = (word, refl, h)
one_gives word Fail h = (word, refl, h)

-- where the maker is pending, a word that tells of it is the first that does
pub first_of_maker : (passed rest : List (List ℕ)) (word : List ℕ) (i : Inputs) → WritesInputs passed i → i.made ≡ Pending → IsTrue (is_of_maker word) → filter is_of_maker (passed ++ word ∷ rest) ≡ word ∷ filter is_of_maker rest
first_of_maker passed rest word i h p t =
    let none : filter is_of_maker passed ≡ [] = subst (λ m. GivesMade (filter is_of_maker passed) m) p h.made in
    filter-append is_of_maker passed (word ∷ rest) ∙ ap (λ ws. ws ++ filter is_of_maker (word ∷ rest)) none ∙ ap (λ b. cond b (word ∷ filter is_of_maker rest) (filter is_of_maker rest)) t

-- a word that tells of the maker is neither of the others
of_maker : (a b : Bool) → (not a && not b) ≡ true → (a ≡ false) × (b ≡ false)
of_maker true b e = absurd cc
of_maker false true e = absurd cc
of_maker false false e = (refl, refl)

uncounted : (p : List ℕ → Bool) (passed : List (List ℕ)) (word : List ℕ) (n : ℕ) → p word ≡ false → count_by p passed ≡ n → count_by p (passed ++ word ∷ []) ≡ n
uncounted p passed word n e h =
    let last : ◌≡◌ {A = ℕ} (cond (p word) 1 0) 0 = ap (λ b. cond b 1 0) e in
    sum_by-append (λ x. cond (p x) 1 0) passed (word ∷ []) ∙ omega (arith, last, h)

-- a word that tells of the maker is added where none did so
pub maker_added : (passed : List (List ℕ)) (word : List ℕ) (i : Inputs) (m : Made) → WritesInputs passed i → i.made ≡ Pending → IsTrue (is_of_maker word) → WritesMade word m → WritesInputs (passed ++ word ∷ []) (record { memory = i.memory; starving = i.starving; made = m })
maker_added passed word i m h p t w =
    let others = of_maker (bytes_eq word (codes "nomem")) (bytes_eq word (codes "starving")) t in
    record {
      memory = uncounted (λ x. bytes_eq x (codes "nomem")) passed word _ others.0 h.memory;
      starving = uncounted (λ x. bytes_eq x (codes "starving")) passed word _ others.1 h.starving;
      made = subst (λ ws. GivesMade ws m) (sym (first_of_maker passed [] word i h p t)) (one_gives word m w);
    }

-- a word that is none of the maker's is refused
pub maker_refused : (passed rest : List (List ℕ)) (word : List ℕ) (i j : Inputs) → WritesInputs passed i → i.made ≡ Pending → IsTrue (is_of_maker word) → WritesInputs (passed ++ word ∷ rest) j → WritesMade word j.made
maker_refused passed rest word i j h p t a =
    first_gives word _ j.made (subst (λ ws. GivesMade ws j.made) (first_of_maker passed rest word i h p t) a.made)
