-- What writes wrote, one after the other.
use Rattle.std.proofs.Common.{◌≡◌, ℕ, zero, suc, ◌+◌, ◌<◌, ◌≤◌, List, [], ◌∷◌, ◌++◌, ◌∙◌, refl, sym, ap, arith, append_assoc, length}
use Rattle.std.proofs.lemmas.List.{length-take-le, length-map, map-append, take_more}
use Rattle.std.proofs.lemmas.Option.{slice_get_within, get_or_from_slice_get}
use Rattle.std.specs.Prelude.{Option, Some, None, Result, Ok, Err, OnOk, map, take, slice_get}
use Rattle.std.specs.Io.KnownBytes.{Appends}
use Rattle.std.specs.List.{join_with_byte}

-- a text, and then more of it
pub Appends-more : (a b c : Option (List ℕ)) (first more whole : List ℕ) → Appends a b first → Appends b c more → first ++ more ≡ whole → Appends a c whole
Appends-more None b c first more whole x y e = tt
Appends-more (Some xs) None c first more whole x y e = absurd x
Appends-more (Some xs) (Some ys) None first more whole x y e = absurd y
Appends-more (Some xs) (Some ys) (Some zs) first more whole x y e = y ∙ ap (λ l. l ++ more) x ∙ append_assoc xs first more ∙ ap (λ l. xs ++ l) e

-- and more of it after its name
pub Appends-named : (a b c : Option (List ℕ)) (first name more whole : List ℕ) → Appends a b first → Appends b c (name ++ more) → (first ++ name) ++ more ≡ whole → Appends a c whole
Appends-named a b c first name more whole x y e = Appends-more a b c first (name ++ more) whole x y (sym (append_assoc first name more) ∙ e)

-- and more of it, where the writer took that
pub Appends-both : {A E : Type 0} (a b c : Option (List ℕ)) (first more whole : List ℕ) (r : Result A E) → Appends a b first → OnOk r (Appends b c more) → first ++ more ≡ whole → OnOk r (Appends a c whole)
Appends-both a b c first more whole (Ok v) x y e = Appends-more a b c first more whole x y e
Appends-both a b c first more whole (Err v) x y e = tt

-- what stands before the entry at this place: a space, unless it is the first
abbrev pub gap_at : ℕ → List ℕ
gap_at zero = []
gap_at (suc i) = 32 ∷ []

pub gap_first : (i : ℕ) → i ≡ 0 → gap_at i ≡ []
gap_first i e = ap gap_at e

pub gap_later : (i : ℕ) → ¬ (i ≡ 0) → gap_at i ≡ 32 ∷ []
gap_later zero n = absurd (n refl)
gap_later (suc i) n = refl

join_more : (y : List ℕ) (ys : List (List ℕ)) (x : List ℕ) → join_with_byte 32 ((y ∷ ys) ++ x ∷ []) ≡ join_with_byte 32 (y ∷ ys) ++ (32 ∷ x)
join_more y [] x = refl
join_more y (z ∷ ys) x = ap (λ v. y ++ (32 ∷ v)) (join_more z ys x) ∙ sym (append_assoc y (32 ∷ join_with_byte 32 (z ∷ ys)) (32 ∷ x))

join_at : (ys : List (List ℕ)) (x : List ℕ) → join_with_byte 32 (ys ++ x ∷ []) ≡ join_with_byte 32 ys ++ (gap_at (length ys) ++ x)
join_at [] x = refl
join_at (y ∷ ys) x = join_more y ys x

taken : {A : Type 0} (xs : List A) (i : ℕ) (x : A) → slice_get xs i ≡ Some x → take (i + 1) xs ≡ take i xs ++ x ∷ []
taken xs i x e = take_more xs i x (slice_get_within xs i x e) ∙ ap (λ y. take i xs ++ y ∷ []) (get_or_from_slice_get xs i x x e)

-- the texts of the entries up to this one are those before it, its gap, and its own
pub listed_more : {A : Type 0} (text : A → List ℕ) (entries : List A) (i : ℕ) (e : A) → slice_get entries i ≡ Some e → join_with_byte 32 (map text (take i entries)) ++ (gap_at i ++ text e) ≡ join_with_byte 32 (map text (take (i + 1) entries))
listed_more text entries i e s =
    let here : i < length entries = slice_get_within entries i e s in
    let many : length (map text (take i entries)) ≡ i = length-map (take i entries) text ∙ length-take-le i entries (omega arith) in
    let more : map text (take (i + 1) entries) ≡ map text (take i entries) ++ text e ∷ [] = ap (map text) (taken entries i e s) ∙ map-append text (take i entries) (e ∷ []) in
    sym (ap (join_with_byte 32) more ∙ join_at (map text (take i entries)) (text e) ∙ ap (λ n. join_with_byte 32 (map text (take i entries)) ++ (gap_at n ++ text e)) many)

-- where no entry stands, the list is over
pub listed_all : {A : Type 0} (xs : List A) (i : ℕ) → slice_get xs i ≡ None → length xs ≤ i
listed_all [] i e = omega arith
listed_all (x ∷ xs) zero e = absurd cc
listed_all (x ∷ xs) (suc i) e =
    let rest : length xs ≤ i = listed_all xs i e in
    omega arith
