-- How a wait for a future is refused.
use Rattle.std.specs.Prelude.{◌≡◌, ◌⊎◌}
use Rattle.lock_program.specs.declared.refusal.Refusal.{Refusal}
use Rattle.lock_program.specs.declared.refusal.Refusal.TheVariants.{Memory}

-- as the future is, or for memory
abbrev pub RefusesOrMemory : (Refusal → Type 0) → Refusal → Type 0
RefusesOrMemory refuses refusal = (refusal ≡ Memory) ⊎ refuses refusal
