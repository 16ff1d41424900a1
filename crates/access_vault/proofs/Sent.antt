-- What a vault and its rights own goes to another thread where the value does, and where a `&` to it may.
use Rattle.std.proofs.Common.{ℕ, zero, suc, List, [], ◌∷◌}
use mathlib.Core.Bool.{Bool, true, false}
use base.Fml.{Lft}
use base.Shift.{Keyless}
use types.Keyed.{entry_keyless}
use denote.RattleType.{RattleType}
use denote.RawPtr.{Ptr}
use denote.Param.Send.{IsSend, IsSync, plain_send}
use Rattle.atomic_table.specs.Seated.{TableId, halved}
use Rattle.atomic_table.proofs.Sent.{roster_keyless, shares_keyless}
use Rattle.lock_place.specs.Held.{age}
use Rattle.lock_place.proofs.Sent.{room_keyless, hold_keyless}
use Rattle.words_access.specs.declared.view.View.{View}
use Rattle.access_core.proofs.lists.Lists.TheSendSync.{the_send}
use Rattle.access_core.specs.contracts.lists.Lists as slot
use denote.Builtin.{unit}
use Rattle.access_vault.specs.Vault.{Cell, pledged, pledges, keeps, mode}
use Rattle.access_vault.specs.Kept.{VaultId, rights, views, IsRuled, body, inside, live, form, vault_owns, vault_shares, glance_owns, grip_owns, memo_owns}

slot_send : IsSend slot.the_row
slot_send = the_send

pledged_keyless : (t : TableId) (x : Cell View) (n : ℕ) → Keyless (pledged views.code rights t x n)
pledged_keyless t x zero = tt
pledged_keyless t x (suc zero) = ((λ _. tt), entry_keyless halved t.views_name x.seat _)
pledged_keyless t x (suc (suc n)) = ((λ _. tt), entry_keyless halved t.views_name x.seat _)

pledges_keyless : (t : TableId) (l : List (Cell View)) → Keyless (pledges views.code rights t l)
pledges_keyless t [] = tt
pledges_keyless t (x ∷ xs) = (pledged_keyless t x x.kind, pledges_keyless t xs)

body_keyless : (t : TableId) (u : Ptr × Ptr) → Keyless (body t u)
unfolding Rattle.atomic_table.specs.Seated.seal
body_keyless t u = (shares_keyless slot.the_row slot_send views.code t IsRuled u.0 u.1 []).1.1

module _ (R : RattleType) (s : IsSend R) (y : IsSync R) (z : VaultId) where
  mode_keyless : (l : List (Cell View)) (b : Bool) → Keyless (mode R z.room views rights z.table z.desk z.memo l b)
  mode_keyless l true = λ u. ((λ _. tt), ((tt, (y.shared u.1.1 z.room.block z.room.offset (u.0 ∷ age z.room), ((hold_keyless R s z.room u.1.1).1, tt))), tt))
  mode_keyless l false = ((λ _. tt), λ u. tt)

  keeps_keyless : (b : Bool) → Keyless (keeps R z.memo z.turn b)
  keeps_keyless true = λ x. tt
  keeps_keyless false = λ u. tt

  inside_keyless : Keyless (inside R z)
  inside_keyless = ((λ l b. (roster_keyless _ z.desk 0 l, (pledges_keyless z.table l, mode_keyless l b))), keeps_keyless)

  live_keyless : Keyless (live R z)
  live_keyless = λ x. ((λ _. tt), (body_keyless z.table x.0, inside_keyless))

  form_keyless : (b : Bool) → Keyless (form R z b)
  form_keyless true = ((λ x. hold_keyless R s z.room x), ((roster_keyless _ z.desk 0 [], λ u. (tt, tt)), λ u. body_keyless z.table u))
  form_keyless false = live_keyless

  pub vault_keyless : (p : Ptr) → Keyless (vault_owns R z p)
  vault_keyless p = (room_keyless R s p z.room, form_keyless)

  pub shared_keyless : (p : Ptr) (κ : Lft) → Keyless (vault_shares R z p κ)
  shared_keyless p κ = (((λ _. tt), λ _. tt), live_keyless)

pub glance_keyless : (R : RattleType) → IsSync R → (z : VaultId) (id : ℕ) (v : View) (x : R.Denot) → Keyless (glance_owns R z id v x)
glance_keyless R y z id v x = λ u. (entry_keyless halved z.desk u.0 _, (tt, y.shared x z.room.block z.room.offset (u.1.1 ∷ age z.room)))

pub grip_keyless : (R : RattleType) → IsSend R → (z : VaultId) (id : ℕ) (v : View) (x : R.Denot) → Keyless (grip_owns R z id v x)
grip_keyless R s z id v x = λ j. (entry_keyless halved z.desk j _, hold_keyless R s z.room x)

pub memo_keyless : (R : RattleType) (z : VaultId) (x : R.Denot) → Keyless (memo_owns R z x)
memo_keyless R z x = (tt, (hold_keyless unit (plain_send _ _ _ _ _) z.turn tt).1)
