-- Which entries of a list wait, by their numbers, and which seats answer for them.
use Rattle.std.specs.Prelude.{◌≡◌, ◌≢◌, ℕ, ◌<◌, ◌⊎◌, ◌==◌, Bool, true, false, List, [], ◌∷◌}
use mathlib.Core.Option.{some}
use lib.ListN.{get_elem?}

-- The number is in the list.
abbrev pub Has : ℕ → List ℕ → Type 0
Has n [] = ⊥
Has n (k ∷ ks) = (k ≡ n) ⊎ Has n ks

-- No entry has the number.
abbrev pub IsNew : ℕ → List ℕ → Type 0
IsNew n l = Has n l → ⊥

-- Nobody waits: each entry of the list is notified.
abbrev pub NoneWaits : List ℕ → Type 0
NoneWaits waiting = (n : ℕ) → Has n waiting → ⊥

-- What became of a list: nobody waits in it that didn't before; the same, but one with this number, or none with it.
abbrev pub Fewer : List ℕ → List ℕ → Type 0
Fewer old new = (n : ℕ) → Has n new → Has n old

abbrev pub JoinedBy : ℕ → List ℕ → List ℕ → Type 0
JoinedBy k old new = (n : ℕ) → Has n new → Has n old ⊎ (n ≡ k)

abbrev pub LeftBy : ℕ → List ℕ → List ℕ → Type 0
LeftBy k old new = (n : ℕ) → Has n new → Has n old × (n ≢ k)

-- The list with this one at its front, unless this is so.
abbrev pub unless : {A : Type 0} → Bool → A → List A → List A
unless true n ns = ns
unless false n ns = n ∷ ns

-- All of a list but this number.
abbrev pub all_but : ℕ → List ℕ → List ℕ
all_but k [] = []
all_but k (n ∷ ns) = unless (n == k) n (all_but k ns)

-- If one was notified, one is, or nobody waits.
abbrev pub StaysTold : ℕ → List ℕ → ℕ → Type 0
StaysTold old waiting marked = 0 < old → (0 < marked) ⊎ NoneWaits waiting

-- The last one of a list.
abbrev pub last_of : List ℕ → ℕ
last_of [] = 0
last_of (n ∷ []) = n
last_of (n ∷ m ∷ ms) = last_of (m ∷ ms)

module _ {V : Type 0} where
  -- Some seat's view is so.
  abbrev pub SomeSeat : (V → Type 0) → List V → Type 0
  SomeSeat P views = (i : ℕ) × (v : V) × (get_elem? views i ≡ some v) × P v

  -- Each of these entries is of a seat whose view is so.
  abbrev pub AreOf : (ℕ → V → Type 0) → List ℕ → List V → Type 0
  AreOf P waiting views = (n : ℕ) → Has n waiting → SomeSeat (P n) views

  -- The entries of a list and the seats that stand in it belong together: each entry is a seat's, each seat's entry is there, and no two seats have one.
  pub record Matched (IsOf : ℕ → V → Type 0) (entries : List ℕ) (views : List V) : Type 0 where
    pub each : AreOf IsOf entries views
    pub there : (n i : ℕ) (v : V) → get_elem? views i ≡ some v → IsOf n v → Has n entries
    pub apart : (n i j : ℕ) (v w : V) → get_elem? views i ≡ some v → get_elem? views j ≡ some w → IsOf n v → IsOf n w → i ≡ j
