use denote.RattleType.{RattleType}
use denote.Param.Send.{IsSend}
use Rattle.access_vault.specs.contracts.memo.Memo.{the_row}
use Rattle.access_vault.proofs.Sent.{memo_keyless}

pub send : (T : RattleType) → IsSend (the_row T)
send T = record { owned = λ d vs. ((λ vss. (tt, ((λ uss. (tt, tt)), tt))), memo_keyless T d.vault_id d.value); leaving = λ k f vs. tt }
