-- What a poll may answer, and a fact of one that is pending, ready or refused.
use Rattle.std.specs.Prelude.{◌≡◌, Bool, true, false, ⊤}
use Rattle.lock_program.specs.declared.refusal.Refusal.{Refusal}
use Rattle.lock_program.specs.declared.refusal.Refusal.TheVariants.{Memory, Finished}
use Rattle.async_driver.specs.declared.turn.Turn.{Turn}
use Rattle.async_driver.specs.declared.turn.Turn.TheVariants.{Ready, Pending, Refused}

abbrev pub OnPending : {G : Type 0} → Turn G → Type 0 → Type 0
OnPending (Ready got) fact = ⊤
OnPending (Refused refusal) fact = ⊤
OnPending Pending fact = fact

abbrev pub OnReady : {G : Type 0} → Turn G → (G → Type 0) → Type 0
OnReady (Ready got) fact = fact got
OnReady (Refused refusal) fact = ⊤
OnReady Pending fact = ⊤

abbrev pub OnRefused : {G : Type 0} → Turn G → (Refusal → Type 0) → Type 0
OnRefused (Ready got) fact = ⊤
OnRefused (Refused refusal) fact = fact refusal
OnRefused Pending fact = ⊤

-- Ready, what was got is this and the future is over. One that is over is refused as finished and stays so; no other is, and none for
-- another reason than these.
abbrev pub IsTurn : {G : Type 0} → (Refusal → Type 0) → (G → Type 0) → Bool → Turn G → Bool → Type 0
IsTurn refuses got was (Ready g) is = (was ≡ false) × (is ≡ true) × got g
IsTurn refuses got was Pending is = (was ≡ false) × (is ≡ false)
IsTurn refuses got was (Refused Finished) is = (was ≡ true) × (is ≡ true)
IsTurn refuses got was (Refused refusal) is = (was ≡ false) × (is ≡ false) × refuses refusal

-- how a future may refuse: as finished if it is over, and else for one of these reasons
abbrev pub CanRefuse : (Refusal → Type 0) → Bool → Refusal → Type 0
CanRefuse refuses true refusal = refusal ≡ Finished
CanRefuse refuses false refusal = refuses refusal

abbrev pub IsForMemory : Refusal → Type 0
IsForMemory refusal = refusal ≡ Memory
