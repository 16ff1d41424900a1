-- Why a World isn't made.
use Rattle.std.specs.Prelude.{ℕ, ◌<◌, ◌≤◌}
use Rattle.lock_program.specs.declared.refusal.Refusal.{Refusal}
use Rattle.lock_program.specs.declared.refusal.Refusal.TheVariants.{Memory, Permits}

-- There are more permits to begin with than the limit may be; or there are not, and there was no memory.
abbrev pub IsRefusedFor : ℕ → ℕ → Refusal → Type 0
IsRefusedFor permits most Permits = most < permits
IsRefusedFor permits most Memory = permits ≤ most
IsRefusedFor permits most _ = ⊥
