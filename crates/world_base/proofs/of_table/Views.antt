-- How callers see the parties of a table, one by one.
use Rattle.world_base.proofs.Prelude.{◌≡◌, ℕ, zero, suc, ◌+◌, ◌&&◌, true, List, [], ◌∷◌, length, get_or, replicate, Option, Some, None, is_some, refl, arith, ap, ◌∙◌, list_all, Answer, Stage, Outside, Inside, Forgotten, Rest, Idle, Within, outside, inside, forgotten, is_outside, is_outside_stage, is_decided, stage_at, stands_as, standings_from, standings}
use Rattle.world_base.proofs.Equations.{both}

from_at : (n : ℕ) (verdict : ℕ → Option Answer) (ss : List Stage) (p : ℕ) → get_or (standings_from n verdict ss) p forgotten ≡ stands_as (verdict (n + p)) (stage_at ss p)
from_at n verdict [] p = refl
from_at n verdict (s ∷ ss) zero = let same : n ≡ n + 0 = omega arith in ap (λ k. stands_as (verdict k) s) same
from_at n verdict (s ∷ ss) (suc p) = let same : n + 1 + p ≡ n + suc p = omega arith in from_at (n + 1) verdict ss p ∙ ap (λ k. stands_as (verdict k) (stage_at ss p)) same

-- how a party stands
pub standings_at : (verdict : ℕ → Option Answer) (ss : List Stage) (p : ℕ) → get_or (standings verdict ss) p forgotten ≡ stands_as (verdict p) (stage_at ss p)
standings_at verdict ss p = let same : 0 + p ≡ p = omega arith in from_at 0 verdict ss p ∙ ap (λ k. stands_as (verdict k) (stage_at ss p)) same

from_length : (n : ℕ) (verdict : ℕ → Option Answer) (ss : List Stage) → length (standings_from n verdict ss) ≡ length ss
from_length n verdict [] = refl
from_length n verdict (s ∷ ss) = ap suc (from_length (n + 1) verdict ss)

pub length-standings : (verdict : ℕ → Option Answer) (ss : List Stage) → length (standings verdict ss) ≡ length ss
length-standings verdict ss = from_length 0 verdict ss

-- at the beginning everybody is idle
from_idle : (n k : ℕ) (verdict : ℕ → Option Answer) → standings_from n verdict (replicate k (Outside Idle)) ≡ replicate k (outside Idle)
from_idle n zero verdict = refl
from_idle n (suc k) verdict = ap (λ l. outside Idle ∷ l) (from_idle (n + 1) k verdict)

pub all_idle : (k : ℕ) (verdict : ℕ → Option Answer) → standings verdict (replicate k (Outside Idle)) ≡ replicate k (outside Idle)
all_idle k verdict = from_idle 0 k verdict

-- a party stands outside exactly where its stage is outside; and nobody is inside a call exactly where no stage is
pub outside_so : (d : Option Answer) (s : Stage) → is_outside (stands_as d s) ≡ is_outside_stage s
outside_so d (Outside r) = refl
outside_so d (Inside w) = refl
outside_so d Forgotten = refl

from_rest : (n : ℕ) (verdict : ℕ → Option Answer) (ss : List Stage) → list_all is_outside (standings_from n verdict ss) ≡ list_all is_outside_stage ss
from_rest n verdict [] = refl
from_rest n verdict (s ∷ ss) = ap (λ b. b && list_all is_outside (standings_from (n + 1) verdict ss)) (outside_so (verdict n) s) ∙ ap (λ b. is_outside_stage s && b) (from_rest (n + 1) verdict ss)

pub rest_seen : (verdict : ℕ → Option Answer) (ss : List Stage) → list_all is_outside (standings verdict ss) ≡ list_all is_outside_stage ss
rest_seen verdict ss = from_rest 0 verdict ss

pub outside_at : (ss : List Stage) → list_all is_outside_stage ss ≡ true → (p : ℕ) → is_outside_stage (stage_at ss p) ≡ true
outside_at [] all p = refl
outside_at (s ∷ ss) all zero = (both (is_outside_stage s) (list_all is_outside_stage ss) all).0
outside_at (s ∷ ss) all (suc p) = outside_at ss (both (is_outside_stage s) (list_all is_outside_stage ss) all).1 p

-- a party that stands outside is at that stage
pub outside_stage : (d : Option Answer) (s : Stage) (r : Rest) → stands_as d s ≡ outside r → s ≡ Outside r
outside_stage d (Outside k) r e = cc
outside_stage d (Inside w) r e = absurd (cc (e))
outside_stage d Forgotten r e = absurd (cc (e))

-- a party that stands inside a call is there at its stage, and decided as the call is
pub inside_as : (d : Option Answer) (s : Stage) (u : Within) (b : Option Answer) → stands_as d s ≡ inside u b → (s ≡ Inside u) × (d ≡ b)
inside_as d (Outside r) u b h = absurd (cc h)
inside_as d (Inside v) u b h = (cc h, cc h)
inside_as d Forgotten u b h = absurd (cc h)

-- no call is decided where none has its answer
pub none_decided : (s : Stage) → is_decided (stands_as None s) ≡ true → ⊥
none_decided (Inside w) h = cc h
none_decided (Outside r) h = cc h
none_decided Forgotten h = cc h

pub some_decided : (d : Option Answer) (s : Stage) → is_decided (stands_as d s) ≡ true → is_some d ≡ true
some_decided None s h = absurd (none_decided s h)
some_decided (Some a) s h = refl
