use denote.RattleType.{RattleType}
use denote.Param.Send.{IsSend, Frees}
use Rattle.core.specs.declared.alloc.Allocator.{Ghosts}
use Rattle.lock_place.specs.contracts.send_lease.SendLease.{the_row}
use Rattle.lock_place.proofs.Rights.{right_send}

pub send : (T A : RattleType) (g : Ghosts A.Denot) → IsSend A → Frees g g.dealloc_token → IsSend (the_row T A g)
send T A g s f = right_send T A g f
