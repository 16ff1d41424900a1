-- What a vault keeps under its invariant. A vault lends its value for reading or for writing against a seat of a table, which it keeps in pledge meanwhile. Its desk is a list of cells, one for each pledge that there ever was.
-- While nobody writes, the value is shared for a round: a lifetime of its own, whose token is cut among those who read. Who writes has the whole token, ends the round, and begins another one before it gives the value back.
-- What the value is has a name of its own. The vault has one half of it, which follows the value. The memo is the other half, without which nobody writes: so it knows the value whatever its owner's right is meanwhile. It waits here for the right to the writer lock's room, of which there is one.
use Rattle.core.specs.Prelude.{◌≡◌, ◌≢◌, ℕ, zero, suc, List, [], ◌∷◌}
use mathlib.Core.Bool.{Bool, true, false}
use mathlib.Core.Option.{some}
use mathlib.Mathlib.Data.Part.{◌∈◌}
use lib.ListN.{get_elem?}
use base.Fraction.{full_share, op}
use base.Share.{three_quarters}
use base.Stored.{Gv, gnil, Coded, coded×, coded_ℕ, coded_via}
use base.SetCodes.{coded_share}
use base.Fml.{Share, Fml, ftrue, fsep, fex, fbor, flent, flft, fobs, fauth}
use denote.RattleType.{RattleType}
use Rattle.atomic_table.specs.Table.{State}
use Rattle.atomic_table.specs.Seated.{TableId, itself, seen, roster}
use Rattle.lock_place.specs.Held.{RoomId, age, held, seen_at}
use Rattle.words_base.specs.Sums.{number}

abbrev pub fact : Type 0 → Fml
fact φ = fex φ (λ _. ftrue)

-- a round: its lifetime, and the code of the value that is shared for it. So two pledges of one round are for one value.
abbrev pub Round : Type 0
Round = ℕ × Gv

abbrev pub round_coded : Coded Round
round_coded = coded× coded_ℕ itself

abbrev pub round_of : (R : RattleType) → ℕ → R.Denot → Round
round_of R a x = (a, R.coded.code x)

-- a pledge: its kind (0 where it is over, 1 to read, 2 to write), the seat's number and view, the part of a token that was given for it, and that token's round
pub record Cell (V : Type 0) : Type 0 where
  pub kind : ℕ
  pub seat : ℕ
  pub view : V
  pub part : Share
  pub round : Round

abbrev pub cell_coded : {V : Type 0} → Coded V → Coded (Cell V)
cell_coded {V} c = coded_via (coded× coded_ℕ (coded× coded_ℕ (coded× c (coded× coded_share round_coded))))
    (λ (x : Cell V). (x.kind, (x.seat, (x.view, (x.part, x.round)))))
    (λ x y e i. record { kind = (e i).0; seat = (e i).1.0; view = (e i).1.1.0; part = (e i).1.1.1.0; round = (e i).1.1.1.1 })

abbrev pub reading : {V : Type 0} → ℕ → V → Share → Round → Cell V
reading id v e r = record { kind = 1; seat = id; view = v; part = e; round = r }

abbrev pub writing : {V : Type 0} → ℕ → V → Cell V
writing id v = record { kind = 2; seat = id; view = v; part = full_share; round = (0, gnil) }

abbrev pub emptied : {V : Type 0} → Cell V → Cell V
emptied x = record x { kind = 0 }

abbrev pub is_one : ℕ → Bool
is_one zero = false
is_one (suc zero) = true
is_one (suc (suc n)) = false

abbrev pub is_more : ℕ → Bool
is_more zero = false
is_more (suc zero) = false
is_more (suc (suc n)) = true

abbrev pub cell_reads : {V : Type 0} → Cell V → Bool
cell_reads x = is_one x.kind

abbrev pub cell_writes : {V : Type 0} → Cell V → Bool
cell_writes x = is_more x.kind

abbrev pub pick : Bool → Type 0 → Type 0 → Type 0
pick true A B = A
pick false A B = B

-- with the parts of those who read, this part of the token of the round a is the whole
abbrev pub Fills : {V : Type 0} → Round → Share → List (Cell V) → Type 0
Fills a e [] = e ≡ full_share
Fills a e (x ∷ xs) = pick (is_one x.kind) ((x.round ≡ a) × ((f : Share) × (f ∈ op e x.part) × Fills a f xs)) (Fills a e xs)

-- What is lent, by which views, and what the table's rule says of these.
pub record Rights (V : Type 0) : Type 0 where
  pub reads : V → Bool
  pub writes : V → Bool

-- nobody reads or writes beside who writes
abbrev pub Excludes : {S V : Type 0} → Rights V → (State S V → Type 0) → Type 0
Excludes {S} {V} k holds = (s : State S V) → holds s → (i j : ℕ) (v w : V) → i ≢ j → get_elem? s.views i ≡ some v → get_elem? s.views j ≡ some w → k.writes v ≡ true → (k.reads w ≡ false) × (k.writes w ≡ false)

module _ {V : Type 0} (c : V → Gv) (k : Rights V) (t : TableId) where
  -- a seat that holds no slot
  abbrev pub seat : ℕ → V → Fml
  seat id v = seen c t.views_name id three_quarters v

  abbrev pub pledged : Cell V → ℕ → Fml
  pledged x zero = ftrue
  pledged x (suc zero) = fsep (fact (k.reads x.view ≡ true)) (seat x.seat x.view)
  pledged x (suc (suc n)) = fsep (fact (k.writes x.view ≡ true)) (seat x.seat x.view)

  abbrev pub pledges : List (Cell V) → Fml
  pledges [] = ftrue
  pledges (x ∷ xs) = fsep (pledged x x.kind) (pledges xs)

-- the memo of this value
abbrev pub memo : (R : RattleType) → ℕ → R.Denot → Fml
memo R μ x = fobs μ (R.coded.code x)

-- the memo waits here, or it was given for the right to this room
abbrev pub keeps : (R : RattleType) → ℕ → RoomId → Bool → Fml
keeps R μ ρ true = fex R.Denot (memo R μ)
keeps R μ ρ false = fex Gv (fobs ρ.name)

module _ (R : RattleType) (z : RoomId) where
  -- the value is shared for the round a, of whose token this is the part e
  abbrev pub is_shared_for : ℕ → Fml
  is_shared_for a = flent (a ∷ age z) (fbor (age z) (held R z))

  abbrev pub sight : ℕ → R.Denot → Fml
  sight a x = seen_at R z x (a ∷ age z)

  abbrev pub stock : ℕ → Share → R.Denot → Fml
  stock a e x = fsep (flft (a ∷ []) e) (fsep (sight a x) (fsep (is_shared_for a) (fobs z.name (R.coded.code x))))

  module _ {V : Type 0} (cv : Coded V) (k : Rights V) (t : TableId) (δ : ℕ) where
    abbrev pub desk : List (Cell V) → Fml
    desk l = roster (cell_coded cv).code δ 0 l

    -- one part of the desk's account of a cell, which goes with what was lent
    abbrev pub pledge : ℕ → Cell V → Fml
    pledge j x = seen (cell_coded cv).code δ j three_quarters x

    module _ (μ : ℕ) where
      -- the value is shared for a round, and known
      abbrev pub shared : ℕ → Share → R.Denot → Fml
      shared a e x = fsep (stock a e x) (fauth μ (R.coded.code x))

      -- nobody writes
      abbrev pub calm_with : List (Cell V) → ℕ × (Share × R.Denot) → Fml
      calm_with l u = fsep (fact ((number cell_writes l ≡ 0) × Fills (round_of R u.0 u.1.1) u.1.0 l)) (shared u.0 u.1.0 u.1.1)

      abbrev pub calm : List (Cell V) → Fml
      calm l = fex (ℕ × (Share × R.Denot)) (calm_with l)

      -- one writes, and has the value
      abbrev pub busy : List (Cell V) → Fml
      busy l = fsep (fact ((number cell_writes l ≡ 1) × (number cell_reads l ≡ 0))) (fex Gv (fauth μ))

      abbrev pub mode : List (Cell V) → Bool → Fml
      mode l true = calm l
      mode l false = busy l

      abbrev pub account_at : List (Cell V) → Bool → Fml
      account_at l b = fsep (desk l) (fsep (pledges cv.code k t l) (mode l b))

      abbrev pub either_way : List (Cell V) → Fml
      either_way l = fex Bool (account_at l)

      -- what is lent
      abbrev pub account : Fml
      account = fex (List (Cell V)) either_way

      abbrev pub vault : RoomId → Fml
      vault ρ = fsep account (fex Bool (keeps R μ ρ))
