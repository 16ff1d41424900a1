use Rattle.std.proofs.Common.{Option, inl, inr, sym, ap, ◌∙◌}
use Rattle.lock_event.specs.Waiting.{Waiters}
use Rattle.lock_event.specs.EventLends.{event_with}
use Rattle.lock_event.proofs.Ids.{waits_there, named, rewritten-with_key}
use Rattle.lock_event.proofs.event.Event.waker_mut.Goals as goal

pub waker_mut-requires-clause-waits : goal.waker_mut-requires-clause-waits
waker_mut-requires-clause-waits g c =
    let there = waits_there c.args.id c.self.inside.line.entries (sym c.is_waiting.ensures ∙ c.if-is_waiting.true) in
    rw there.at there.unmarked

pub waker_mut-requires-clause-listed : goal.waker_mut-requires-clause-listed
waker_mut-requires-clause-listed g c = (waits_there c.args.id c.self.inside.line.entries (sym c.is_waiting.ensures ∙ c.if-is_waiting.true)).listed

pub returns-then-is_waiting : goal.returns-then-is_waiting
returns-then-is_waiting g c =
    let view = ap (λ v. v.entries) c.self.view_is in
    let waits = sym c.is_waiting.ensures ∙ c.if-is_waiting.true in
    let there = waits_there c.args.id c.self.inside.line.entries waits in
    let ends = λ (w : Option g.row.W.Denot).
    ap {B = Waiters g.row.W.Denot} (λ es. record { entries = es; room = c.self.inside.line.room; visits = c.self.inside.visits }) (rewritten-with_key c.args.id w c.self.inside.line.entries)
    ∙ ap {A = Waiters g.row.W.Denot} {B = Waiters g.row.W.Denot} (λ v. event_with v c.args.id w) c.self.view_is in (
      (λ i. inl (c.waker_mut.result.ghost_name, λ w. ends w i)),
      record {
        writes_back = tt;
        waits = rw (← view) (sym waits);
        waker = rw (← view) (rw there.at at c.waker_mut.ensures.waker ∙ sym (named c.args.id c.self.inside.line.entries there.one there.at).waker);
      },
    )

pub returns-else-is_waiting : goal.returns-else-is_waiting
returns-else-is_waiting g c = (
  ap inr c.self.view_is,
  record { writes_back = tt; waits = rw (← ap (λ v. v.entries) c.self.view_is) (sym (sym c.is_waiting.ensures ∙ c.if-is_waiting.false)); waker = tt },
)
