-- What was written before the flush is the number and its line feed.
use Rattle.std.proofs.Common.{◌≡◌, ℕ, List, [], ◌∷◌, ◌++◌, sym, ◌∙◌}
use Rattle.std.specs.Prelude.{Option, Result, Ok, Err, OnOk, OnErr, decimal}
use Rattle.std.specs.Io.KnownBytes.{Appends, Keeps}
use Rattle.lockrun_play.specs.declared.fault.Fault.{Fault}
use Rattle.lockrun_play.specs.declared.fault.Fault.TheVariants.{Write}
use Rattle.lockrun_play.specs.Plays.{PrintsThis}
use Rattle.lockrun_play.proofs.Faults.{Appends-kept}
use Rattle.lockrun_play.proofs.script.print_number.Goals as goal

number_printed : {A E : Type 0} (a b c : Option (List ℕ)) (n : ℕ) (outcome : Result A E) (said ended : Result (Unit {0}) Fault) (done : Unit {0}) → OnOk outcome (Appends a b (decimal n ++ 10 ∷ [])) → OnErr outcome (said ≡ Err Write) → said ≡ Ok done → Keeps b c → OnOk ended (PrintsThis n a c)
number_printed a b c n outcome said (Err fault) done text err is keeps = tt
number_printed a b c n (Ok v) said (Ok u) done text err is keeps = Appends-kept a b c (decimal n ++ 10 ∷ []) text keeps
number_printed a b c n (Err e) said (Ok u) done text err is keeps =
    let clash : Err Write ≡ Ok done = sym err ∙ is in
    absurd cc

pub returns-clause-printed : goal.returns-clause-printed
returns-clause-printed g c =
    number_printed _ _ _ c.args.number c.writeln.result c.written.result c.written-2.result _ c.writeln.ensures.bytes c.written.ensures.err c.in_ok-written.was c.flush.ensures.bytes
