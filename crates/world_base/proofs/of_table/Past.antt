-- A party is in the table, or past it.
use Rattle.world_base.proofs.Prelude.{◌≡◌, ℕ, zero, suc, ◌<◌, ◌≤◌, ◌⊎◌, inl, inr, List, [], ◌∷◌, length, refl, arith, sym, subst, Stage, Forgotten, stage_at}

pub inside_or_past : (ss : List Stage) (q : ℕ) → (q < length ss) ⊎ ((length ss ≤ q) × (stage_at ss q ≡ Forgotten))
inside_or_past [] q = inr (omega arith, refl)
inside_or_past (s ∷ ss) zero = inl (omega arith)
inside_or_past (s ∷ ss) (suc q) = elim (inside_or_past ss q) as (λ _. (suc q < length (s ∷ ss)) ⊎ ((length (s ∷ ss) ≤ suc q) × (stage_at ss q ≡ Forgotten))) [ inl h ↦ inl (omega arith) | inr h ↦ inr (omega (arith, h.0), h.1) ]

pub by_stage : (ss : List Stage) (q : ℕ) (P : Stage → Type 0) → P Forgotten → (q < length ss → P (stage_at ss q)) → P (stage_at ss q)
by_stage ss q P past here = elim (inside_or_past ss q) as (λ _. P (stage_at ss q)) [ inl h ↦ here h | inr h ↦ subst P (sym h.1) past ]

pub by_stage_or_past : (ss : List Stage) (q : ℕ) (P : Type 0) → (length ss ≤ q → P) → (q < length ss → P) → P
by_stage_or_past ss q P past here = elim (inside_or_past ss q) as (λ _. P) [ inl h ↦ here h | inr h ↦ past h.0 ]

pub by_stage_or_past_at : (ss : List Stage) (q : ℕ) (P : Type 0) → (stage_at ss q ≡ Forgotten → P) → (q < length ss → P) → P
by_stage_or_past_at ss q P past here = elim (inside_or_past ss q) as (λ _. P) [ inl h ↦ here h | inr h ↦ past h.1 ]
