use Rattle.lockrun_script.proofs.Calls.{same_call}
use Rattle.lockrun_script.proofs.command.plain_call.Goals as goal

pub returns-then-is : goal.returns-then-is
returns-then-is c = let named = c.is.ensures.0 c.if-is.true in record { word = named; asked = same_call c.args.word.now _ named }

pub returns-then-is-2 : goal.returns-then-is-2
returns-then-is-2 c = let named = c.is-2.ensures.0 c.if-is-2.true in record { word = named; asked = same_call c.args.word.now _ named }

pub returns-then-is-3 : goal.returns-then-is-3
returns-then-is-3 c = let named = c.is-3.ensures.0 c.if-is-3.true in record { word = named; asked = same_call c.args.word.now _ named }

pub returns-then-is-4 : goal.returns-then-is-4
returns-then-is-4 c = let named = c.is-4.ensures.0 c.if-is-4.true in record { word = named; asked = same_call c.args.word.now _ named }

pub returns-then-is-5 : goal.returns-then-is-5
returns-then-is-5 c = let named = c.is-5.ensures.0 c.if-is-5.true in record { word = named; asked = same_call c.args.word.now _ named }

pub returns-then-is-6 : goal.returns-then-is-6
returns-then-is-6 c = let named = c.is-6.ensures.0 c.if-is-6.true in record { word = named; asked = same_call c.args.word.now _ named }

pub returns-then-is-7 : goal.returns-then-is-7
returns-then-is-7 c = let named = c.is-7.ensures.0 c.if-is-7.true in record { word = named; asked = same_call c.args.word.now _ named }

pub returns-then-is-8 : goal.returns-then-is-8
returns-then-is-8 c = let named = c.is-8.ensures.0 c.if-is-8.true in record { word = named; asked = same_call c.args.word.now _ named }

pub returns-then-is-9 : goal.returns-then-is-9
returns-then-is-9 c = let named = c.is-9.ensures.0 c.if-is-9.true in record { word = named; asked = same_call c.args.word.now _ named }

pub returns-then-is-10 : goal.returns-then-is-10
returns-then-is-10 c = let named = c.is-10.ensures.0 c.if-is-10.true in record { word = named; asked = same_call c.args.word.now _ named }

pub returns-then-is-11 : goal.returns-then-is-11
returns-then-is-11 c = let named = c.is-11.ensures.0 c.if-is-11.true in record { word = named; asked = same_call c.args.word.now _ named }

pub returns-then-is-12 : goal.returns-then-is-12
returns-then-is-12 c = let named = c.is-12.ensures.0 c.if-is-12.true in record { word = named; asked = same_call c.args.word.now _ named }

pub returns-then-is-13 : goal.returns-then-is-13
returns-then-is-13 c = let named = c.is-13.ensures.0 c.if-is-13.true in record { word = named; asked = same_call c.args.word.now _ named }

pub returns-then-is-14 : goal.returns-then-is-14
returns-then-is-14 c = let named = c.is-14.ensures.0 c.if-is-14.true in record { word = named; asked = same_call c.args.word.now _ named }

pub returns-then-is-15 : goal.returns-then-is-15
returns-then-is-15 c = let named = c.is-15.ensures.0 c.if-is-15.true in record { word = named; asked = same_call c.args.word.now _ named }

pub returns-then-is-16 : goal.returns-then-is-16
returns-then-is-16 c = let named = c.is-16.ensures.0 c.if-is-16.true in record { word = named; asked = same_call c.args.word.now _ named }

pub returns-then-is-17 : goal.returns-then-is-17
returns-then-is-17 c = let named = c.is-17.ensures.0 c.if-is-17.true in record { word = named; asked = same_call c.args.word.now _ named }

pub returns-then-is-18 : goal.returns-then-is-18
returns-then-is-18 c = let named = c.is-18.ensures.0 c.if-is-18.true in record { word = named; asked = same_call c.args.word.now _ named }

pub returns-then-is-19 : goal.returns-then-is-19
returns-then-is-19 c = let named = c.is-19.ensures.0 c.if-is-19.true in record { word = named; asked = same_call c.args.word.now _ named }

pub returns-then-is-20 : goal.returns-then-is-20
returns-then-is-20 c = let named = c.is-20.ensures.0 c.if-is-20.true in record { word = named; asked = same_call c.args.word.now _ named }
