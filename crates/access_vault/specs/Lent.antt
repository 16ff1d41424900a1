-- A grip, after a write through what it lent, and a vault.
use Rattle.std.specs.Prelude.{Some}
use Rattle.access_vault.specs.declared.vault.Grip.{Grip}
use Rattle.access_vault.specs.declared.vault.Vault.{Vault}
use Rattle.access_vault.specs.Kept.{VaultId}

abbrev pub grip_with_value : {T : Type 0} → Grip T → T → Grip T
grip_with_value it w = record { marker = it.marker; vault_id = it.vault_id; id = it.id; view = it.view; value = w }

abbrev pub vault_with : {T : Type 0} → Vault T → VaultId → T → Vault T
vault_with it z w = record { at = it.at; vault_id = z; value = Some w }
