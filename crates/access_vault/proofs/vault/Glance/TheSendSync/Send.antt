use denote.RattleType.{RattleType}
use denote.Param.Send.{IsSend, IsSync}
use Rattle.access_vault.specs.contracts.vault.Glance.{the_row}
use Rattle.access_vault.proofs.Sent.{glance_keyless}

pub send : (T : RattleType) → IsSync T → IsSend (the_row T)
send T y = record { owned = λ d vs. ((λ vss. (tt, ((λ uss. (tt, tt)), tt))), glance_keyless T y d.vault_id d.id d.view d.value); leaving = λ k f vs. tt }
