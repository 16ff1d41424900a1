-- The number of a counted wait.
use Rattle.world_barrier.proofs.Prelude.{◌≡◌, true, false, Some, ap, sym, ◌∙◌, is_counted, wait_at, arrivals_at, Barrier, position_at, arrival_at, wait_of}
use Rattle.world_barrier.specs.machine.Waits.{number_of}
use Rattle.world_barrier.proofs.Counted.{numbered, unnumbered}
use Rattle.world_barrier.proofs.table.Seen.{wait_seen}
use Rattle.world_barrier.proofs.world.World.arrival.Goals as goal

pub returns-then-is_counted : goal.returns-then-is_counted
returns-then-is_counted c =
    let t = c.self.inside.table in
    let p = c.args.party in
    let s : Barrier = t.machine in
    let size = c.size.ensures ∙ ap (λ (b : Barrier). b.words.size) c.machine-barrier.ensures in
    let arrival = c.arrival.ensures ∙ ap (λ (b : Barrier). arrival_at b.arrivals p) c.machine-barrier.ensures in
    let number : c.number.result ≡ arrivals_at s.words.size (arrival_at s.arrivals p) = c.number.ensures ∙ (ap (λ n. arrivals_at n c.arrival.result) size ∙ ap (arrivals_at s.words.size) arrival) in
    let counted : is_counted (wait_at (position_at s.positions p) 0) ≡ true = sym (c.is_counted.ensures ∙ ap (λ (b : Barrier). is_counted (wait_at (position_at b.positions p) 0)) c.machine-barrier.ensures) ∙ c.if-is_counted.true in
    ap Some number ∙ (sym (numbered (position_at s.positions p) (arrivals_at s.words.size (arrival_at s.arrivals p)) counted) ∙ (ap number_of (sym (wait_seen t p)) ∙ ap (λ w. number_of (wait_of w p)) c.self.view_is))

pub returns-else-is_counted : goal.returns-else-is_counted
returns-else-is_counted c =
    let t = c.self.inside.table in
    let p = c.args.party in
    let s : Barrier = t.machine in
    let uncounted : is_counted (wait_at (position_at s.positions p) 0) ≡ false = sym (c.is_counted.ensures ∙ ap (λ (b : Barrier). is_counted (wait_at (position_at b.positions p) 0)) c.machine-barrier.ensures) ∙ c.if-is_counted.false in
    sym (unnumbered (position_at s.positions p) (arrivals_at s.words.size (arrival_at s.arrivals p)) uncounted) ∙ (ap number_of (sym (wait_seen t p)) ∙ ap (λ w. number_of (wait_of w p)) c.self.view_is)
