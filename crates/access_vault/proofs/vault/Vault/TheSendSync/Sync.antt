use denote.RattleType.{RattleType}
use denote.Param.Send.{IsSend, IsSync, sendable}
use denote.Struct.Struct.{Struct}
use denote.Struct.Owning.{shape}
use Rattle.access_vault.specs.contracts.vault.Vault.{the_row, the_type}
use Rattle.access_vault.proofs.Sent.{shared_keyless}

pub sync : (T : RattleType) → IsSend T → IsSync T → IsSync (the_row T)
sync T s y = let fields : IsSync (Struct (shape (the_type T))) = search sendable depth 20 in record { shared = λ d b o ν. (fields.shared (d.at, tt) b o ν, shared_keyless T s y d.vault_id d.at ν) }
