use denote.RattleType.{RattleType}
use denote.Param.Send.{IsSend, IsSync}
use Rattle.access_vault.specs.contracts.vault.Vault.{the_row}
use Rattle.access_vault.proofs.Sent.{vault_keyless}

pub send : (T : RattleType) → IsSend T → IsSync T → IsSend (the_row T)
send T s y = record { owned = λ d vs. ((λ vss. (tt, (tt, tt))), vault_keyless T s y d.vault_id d.at); leaving = λ k f vs. tt }
