-- What each action does: all else stays as it was.
use Rattle.world_mutex.proofs.Prelude.{◌≡◌, Bool, true, false, refl, sym, ap, ◌∙◌, false≢true, Action}
use Rattle.world_mutex.proofs.program.effects.carry_out.Goals as goal

abbrev is_take : Action → Bool
is_take Action.Take = true
is_take _ = false

unheeded : {P : Type 0} (a : Action) → is_take a ≡ false → a ≡ Action.Take → P
unheeded a other is = absurd (false≢true (sym other ∙ ap is_take is))

pub returns-in-Nothing : goal.returns-in-Nothing
returns-in-Nothing c = rw c.in-Nothing.is (record { word = refl; list = refl; clock = λ long. unheeded Action.Nothing refl })

pub returns-in-Take : goal.returns-in-Take
returns-in-Take c = rw c.in-Take.is (record { word = c.take.ensures.word; list = refl; clock = λ long a. c.take.ensures.clock long })

pub returns-in-TakeAlone : goal.returns-in-TakeAlone
returns-in-TakeAlone c = rw c.in-TakeAlone.is (record { word = c.take_alone.ensures; list = refl; clock = λ long. unheeded Action.TakeAlone refl })

pub returns-in-Set : goal.returns-in-Set
returns-in-Set c = rw c.in-Set.is (record { word = c.set.ensures; list = refl; clock = λ long. unheeded Action.Set refl })

pub returns-in-Count : goal.returns-in-Count
returns-in-Count c = rw c.in-Count.is (record { word = c.count.ensures; list = refl; clock = λ long. unheeded Action.Count refl })

pub returns-in-Uncount : goal.returns-in-Uncount
returns-in-Uncount c = rw c.in-Uncount.is (record { word = c.uncount.ensures; list = refl; clock = λ long. unheeded Action.Uncount refl })

pub returns-in-Clear : goal.returns-in-Clear
returns-in-Clear c = rw c.in-Clear.is (record { word = c.clear.ensures; list = refl; clock = λ long. unheeded Action.Clear refl })

pub returns-in-Join : goal.returns-in-Join
returns-in-Join c = rw c.in-Join.is (record { word = refl; list = (c.if-memory.true, c.join.ensures); clock = λ long. unheeded Action.Join refl })

pub returns-in-Join-2 : goal.returns-in-Join-2
returns-in-Join-2 c = rw c.in-Join-2.is (record { word = refl; list = (c.if-memory.false, refl); clock = λ long. unheeded Action.Join refl })

pub returns-then-ask : goal.returns-then-ask
returns-then-ask c = rw c.in-Ask.is (record { word = refl; list = (sym c.if-ask.ensures.answer, c.if-ask.ensures.told refl); clock = λ long. unheeded Action.Ask refl })

pub returns-else-ask : goal.returns-else-ask
returns-else-ask c = rw c.in-Ask.is (record { word = refl; list = (sym c.if-ask.ensures.answer, c.if-ask.ensures.waiting refl); clock = λ long. unheeded Action.Ask refl })

pub returns-in-Leave : goal.returns-in-Leave
returns-in-Leave c = rw c.in-Leave.is (record { word = refl; list = c.leave.ensures; clock = λ long. unheeded Action.Leave refl })

pub returns-in-Notify : goal.returns-in-Notify
returns-in-Notify c = rw c.in-Notify.is (record { word = refl; list = c.notify.ensures; clock = λ long. unheeded Action.Notify refl })
