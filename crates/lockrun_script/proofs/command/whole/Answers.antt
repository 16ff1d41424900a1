use Rattle.lockrun_script.proofs.Asks.{asks_of_verb, asked_of_verb}
use Rattle.lockrun_script.proofs.command.whole.Goals as goal

pub returns : goal.returns
returns c = record {
  words = asks_of_verb c.args.words.now _ _ _ _ c.in_ok-next.ensures.steps c.in_ok-verb.ensures.is c.of_verb.ensures.words;
  asked = asked_of_verb c.args.words.now _ _ _ _ c.in_ok-next.ensures.steps c.in_ok-verb.ensures.is c.of_verb.ensures.asked;
}
