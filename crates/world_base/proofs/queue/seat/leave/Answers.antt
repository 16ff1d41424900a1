use Rattle.world_base.proofs.Prelude.{has_id, IsSeatOf}
use Rattle.world_base.proofs.of_queue.Keys.{is_listed-key_at}
use Rattle.world_base.proofs.queue.seat.leave.Goals as goal

pub leave-requires : goal.leave-requires
leave-requires c =
    let mine : IsSeatOf c.args.party c.args.list.now.entries c.in-Some.id = rw c.in-Some.is at c.requires in
    is_listed-key_at (has_id c.in-Some.id) c.args.list.now.entries _ mine
