use Rattle.std.proofs.Common.{◌≡◌, ◌++◌, ◌==◌, ℕ, Bool, true, false, refl, ap, sym, ◌∙◌}
use Rattle.std.specs.Prelude.{codes}
use Rattle.world_mutex.specs.machine.Course.{bit}
use Rattle.world_mutex.specs.machine.Mutex.{holders, starved}
use Rattle.lockrun_play.specs.Answers.{list_text}
use Rattle.lockrun_play.specs.States.{pool_text, pool_lock_text}
use Rattle.lockrun_play.specs.Pool.{permits_text, locked_text, text_of}
use Rattle.lockrun_play.proofs.Texts.{Appends-more, Appends-named, Appends-both}
use Rattle.lockrun_play.proofs.played.pool.WorldPlayed.show.Goals as goal

-- the lock is held where one party holds it
held : (b : Bool) (n : ℕ) → bit b ≡ n → (n == 1) ≡ b
held true n e = rw (sym e) refl
held false n e = rw (sym e) refl

pub returns : goal.returns
returns g c =
    let w = c.args.self.now in
    let permits = Appends-named _ _ _ _ (codes " list=") (list_text w.semaphore.entries) (permits_text w) c.in_ok-write_pool.ensures c.in_ok-write_list_of.ensures (rw (c.available.ensures, c.limit.ensures) refl) in
    let locked = Appends-more _ _ _ _ _ (locked_text w) permits c.in_ok-write_pool_lock.ensures (rw (held c.is_locked.result (holders w.lock) c.is_locked.ensures, c.starved.ensures) refl) in
    let lock = Appends-named _ _ _ _ (codes " lock=") (list_text w.lock.entries) (locked_text w ++ codes " lock=" ++ list_text w.lock.entries) locked c.in_ok-write_list_of-2.ensures refl in
    let named = Appends-more _ _ _ _ _ (locked_text w ++ codes " lock=" ++ list_text w.lock.entries ++ codes " items=") lock c.in_ok-write.ensures.bytes refl in
    let items = Appends-more _ _ _ _ _ (text_of w) named c.in_ok-write_items.ensures refl in
    Appends-both _ _ _ _ _ _ _ items c.writeln.ensures.bytes refl
