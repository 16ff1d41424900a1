-- Which task a waker wakes, and which one a context polls.
use Rattle.std.specs.Prelude.{◌≡◌, ℕ, Option, Some, None}
use Rattle.std.specs.Coded.{Coded, coded_option, coded×, coded_ℕ}
use base.Stored.{coded_via}
use Rattle.std.specs.Arc.{arc_value}
use Rattle.futures.specs.declared.task.context.Context.{Context}
use Rattle.futures.specs.declared.task.waker.Waker.{Waker}

-- a task: its number in its queue, and which queue that is
pub record Woken : Type 0 where
  pub task : ℕ
  pub executor : ℕ
  pub queue : ℕ

-- such a task or none is stored as numbers
abbrev pub woken_coded : Coded (Option Woken)
woken_coded = coded_option (coded_via (coded× coded_ℕ (coded× coded_ℕ coded_ℕ)) (λ (t : Woken). (t.task, (t.executor, t.queue)))
    (λ x y e i. record { task = (e i).0; executor = (e i).1.0; queue = (e i).1.1 }))

-- the task that the waker wakes, if there is one
abbrev pub woken_by : Option Waker → Option Woken
woken_by None = None
woken_by (Some waker) = Some (record { task = waker.owed.first.task; executor = (arc_value waker.route).origin.executor; queue = (arc_value waker.route).origin.queue })

-- it is the task that the context polls
abbrev pub IsPolledBy : Context → Woken → Type 0
IsPolledBy cx t = (t.task ≡ cx.turn.task) × (t.executor ≡ (arc_value cx.route.now).origin.executor) × (t.queue ≡ (arc_value cx.route.now).origin.queue)
