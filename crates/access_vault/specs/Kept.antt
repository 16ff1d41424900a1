-- What a vault, a glance, a grip and a memo own.
use Rattle.core.specs.Prelude.{◌≡◌, ℕ, [], ◌∷◌}
use mathlib.Core.Bool.{Bool, true, false}
use base.Fraction.{full_share}
use base.Stored.{Gv, gnum, Coded, coded×, coded_ℕ, coded_via}
use base.Fml.{Lft, Share, Fml, fsep, fex, fbor, flft, finv, fnamed, fobs, fauth}
use denote.RattleType.{RattleType}
use denote.Builtin.{unit}
use denote.RawPtr.{Ptr}
use Rattle.atomic_table.specs.Seated.{TableId, table_id_coded, inner}
use Rattle.atomic_table.specs.Seated as table
use denote.Sharing.{within}
use Rattle.lock_place.specs.Held.{RoomId, room_id_coded, age, held, room_owns, room_shares, hold_owns, seen_at}
use Rattle.words_access.specs.declared.view.View.{View}
use Rattle.words_access.specs.contracts.view.View as view
use Rattle.access_core.specs.contracts.lists.Lists as slot
use Rattle.atomic_table.specs.Table.{State}
use Rattle.words_access.specs.Rule.{Ruled}
use Rattle.access_core.specs.Contents.{readers_of, writer_of}
use Rattle.access_core.specs.declared.lists.Lists.{Lists}
use Rattle.access_vault.specs.Vault.{fact, Rights, reading, writing, round_of, sight, desk, pledge, memo, vault}

-- Which vault it is: where its value lies and in which age, the table whose seats it takes in pledge, its desk, its memo, and the room of the
-- writer lock, for whose right it gives the memo.
pub record VaultId : Type 0 where
  pub room : RoomId
  pub table : TableId
  pub desk : ℕ
  pub memo : ℕ
  pub turn : RoomId

abbrev pub vault_id_coded : Coded VaultId
vault_id_coded = coded_via (coded× room_id_coded (coded× table_id_coded (coded× coded_ℕ (coded× coded_ℕ room_id_coded)))) (λ (z : VaultId). (z.room, (z.table, (z.desk, (z.memo, z.turn)))))
    (λ x y e i. record { room = (e i).0; table = (e i).1.0; desk = (e i).1.1.0; memo = (e i).1.1.1.0; turn = (e i).1.1.1.1 })

abbrev pub rights : Rights View
rights = record { reads = λ v. v.reads; writes = λ v. v.writes }

abbrev pub views : Coded View
views = view.the_row.coded

-- what always holds of the table
abbrev pub IsRuled : State Lists View → Type 0
IsRuled = Ruled readers_of writer_of

abbrev pub body : TableId → Ptr × Ptr → Fml
body t u = inner slot.the_row views.code IsRuled u.0 u.1 t

abbrev pub known_with : TableId → Ptr × Ptr → Fml
known_with t u = finv (fbor (table.age t) (body t u))

-- the table's invariant
abbrev pub known : TableId → Fml
known t = fex (Ptr × Ptr) (known_with t)

module _ (R : RattleType) (z : VaultId) where
  abbrev pub inside : Fml
  inside = vault R z.room views rights z.table z.desk z.memo z.turn

  abbrev pub live_with : (Ptr × Ptr) × (ℕ × ℕ) → Fml
  live_with x = fsep (fact (¬ (x.1.0 ≡ x.1.1))) (fsep (fnamed x.1.0 (fbor (table.age z.table) (body z.table x.0))) (fnamed x.1.1 inside))

  -- the vault's invariant beside the table's
  abbrev pub live : Fml
  live = fex ((Ptr × Ptr) × (ℕ × ℕ)) live_with

  -- an empty desk, and a memo of nothing
  abbrev pub blank : Fml
  blank = fsep (desk R z.room views rights z.table z.desk []) (fex Gv (λ u. fsep (fobs z.memo u) (fauth z.memo u)))

  -- no `&` to it was made yet
  abbrev pub raw : Fml
  raw = fsep (fex R.Denot (hold_owns R z.room)) (fsep blank (known z.table))

  abbrev pub form : Bool → Fml
  form true = raw
  form false = live

  -- what a new age begins with: its token, its value's name, an empty desk and a memo of nothing
  abbrev pub renewal_owns : Fml
  renewal_owns = fsep (flft (age z.room) full_share) (fsep (fsep (fobs z.room.name (gnum 0)) (fauth z.room.name (gnum 0))) blank)

  abbrev pub vault_owns : Ptr → Fml
  vault_owns p = fsep (room_owns R p z.room) (fex Bool form)

  abbrev pub vault_shares : Ptr → Lft → Fml
  vault_shares p κ = fsep (room_shares R p z.room κ) live

  module _ (id : ℕ) (v : View) where
    abbrev pub glance_with : R.Denot → ℕ × (Share × ℕ) → Fml
    glance_with x u = fsep (pledge R z.room views rights z.table z.desk u.0 (reading id v u.1.0 (round_of R u.1.1 x))) (fsep (flft (u.1.1 ∷ []) u.1.0) (sight R z.room u.1.1 x))

    abbrev pub glance_owns : R.Denot → Fml
    glance_owns x = fex (ℕ × (Share × ℕ)) (glance_with x)

    abbrev pub grip_with : R.Denot → ℕ → Fml
    grip_with x j = fsep (pledge R z.room views rights z.table z.desk j (writing id v)) (hold_owns R z.room x)

    abbrev pub grip_owns : R.Denot → Fml
    grip_owns x = fex ℕ (grip_with x)

  -- the memo of this value, and what the right to the writer lock's room has beside the half that is in the vault meanwhile
  abbrev pub memo_owns : R.Denot → Fml
  memo_owns x = fsep (memo R z.memo x) (fbor (age z.turn) (held unit z.turn))

  -- a `&` to a glance shows the value while the age lasts
  abbrev pub glance_shares : R.Denot → Lft → Fml
  glance_shares x κ = within (age z.room) (seen_at R z.room x) κ
