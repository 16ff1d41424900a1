-- What a whole call of a pool promises beside its end.
use Rattle.world_pool.proofs.Prelude.{◌≢◌, ℕ, Option, subst, sym, Answer, Call, Inputs, Begin, moves_of, answers_of, got_with, World, HasPermit, permit_course, HoldsWell, items_after, Runs, Steps}
use Rattle.world_base.proofs.of_any_world.Runs.{first_of, last_of}
use Rattle.world_pool.specs.Bound.{Promises}
use Rattle.world_pool.proofs.laws.WorldLaws.{is_sound, is_awake}
use Rattle.world_pool.proofs.step.Owns.{one_guard}
use Rattle.world_pool.proofs.whole.Free as free
use Rattle.world_pool.proofs.whole.Acquiring as acquiring
use Rattle.world_pool.proofs.whole.Locking as locking

pub keeps_promise : (known : ℕ → Option ℕ) (w : World) (p : ℕ) (c : Call) (i : Inputs) (n : ℕ) (a : Answer) (v : World) → Runs known w (moves_of p c i n) (answers_of n a) v → a ≢ Answer.Stepped → Promises w p c i a v
keeps_promise known w p c i n a v runs ended =
    let last = last_of Steps items_after HoldsWell known w p i n (Begin c i) a v runs in
    let first = first_of Steps items_after HoldsWell known w _ _ _ v runs in
    let seen = first.2.did.stood.seen in
    let R : Call → Type 0 = λ d. Runs known w (moves_of p d i n) (answers_of n a) v in
    record {
      sound = is_sound v last.legal.did.stands;
      awake = is_awake v last.legal.did.stands;
      takes = λ e idle one lock. (let end = free.takes known w p i n a v seen ended lock idle one (subst R e runs) in (got_with end.0, end.1));
      tries = λ e idle one lock. (let end = free.tries known w p i n a v seen ended lock idle one (subst R e runs) in (got_with end.0, end.1));
      acquires = λ e pending wanting one waits. (
          let has = acquiring.takes known w p i n a v first.2.did.stood ended pending wanting one (subst R e runs) waits in
          let P : World → Type 0 = λ x. HasPermit x p in
          subst P (sym last.legal.did.stands.seen) (one_guard (permit_course v.behind.machine.permits.courses p) has));
      gives = λ e held lock. (free.gives known w p i n a v seen ended lock held (subst R e runs)).1;
      solo = λ e polls lock. locking.solo known w p i n a v first.2.did.stood last.legal.did.stands ended polls lock (subst R e runs);
    }
