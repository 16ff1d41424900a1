use denote.RattleType.{RattleType}
use denote.Param.Send.{IsSend}
use Rattle.access_vault.specs.contracts.vault.Grip.{the_row}
use Rattle.access_vault.proofs.Sent.{grip_keyless}

pub send : (T : RattleType) → IsSend T → IsSend (the_row T)
send T s = record { owned = λ d vs. ((λ vss. (tt, ((λ uss. (tt, tt)), tt))), grip_keyless T s d.vault_id d.id d.view d.value); leaving = λ k f vs. tt }
