use Rattle.std.proofs.Common.{◌≡◌, ℕ, List, ap, refl}
use Rattle.std.specs.Prelude.{Option, None, Some}
use Rattle.world_base.specs.declared.moves.Call.{Call}
use Rattle.world_base.specs.declared.moves.Inputs.{Inputs}
use Rattle.world_base.specs.declared.moves.What.TheVariants.{Begin, Go}
use Rattle.lockrun_script.specs.Commands.{verb_of, AreOfCall, Details}
use Rattle.lockrun_script.specs.declared.command.Command.{Command}
use Rattle.lockrun_script.specs.declared.command.Command.TheVariants.{New, On}
use Rattle.lockrun_script.specs.declared.command.Model.TheVariants.{Mutex, RwLock, Semaphore, Cell, Barrier, Pool}
use Rattle.lockrun_script.specs.declared.command.Request.TheVariants.{Step, Whole, Put, Take, Show}
use Rattle.lockrun_script.specs.declared.verbs.Verb.TheVariants.{Do}
use Rattle.lockrun_script.proofs.command.poll_whole.Goals as goal

abbrev whole : Option (ℕ × Call × Inputs) → Option Command
whole None = None
whole (Some (party, call, inputs)) = Some (On (Whole party call inputs))

-- a command that begins with `do` is the whole call that its words tell of
whole_call : (words : List (List ℕ)) (party : ℕ) (call : Call) (inputs : Inputs) → ((p : ℕ) (k : Call) (i : Inputs) → AreOfCall words p k i → ◌≡◌ {A = Option (ℕ × Call × Inputs)} (Some (party, call, inputs)) (Some (p, k, i))) → (c : Command) → verb_of c ≡ Do → Details words c → Some (On (Whole party call inputs)) ≡ Some c
whole_call words party call inputs asked (On (Whole p k i)) v d = ap whole (asked p k i d)
whole_call words party call inputs asked (On (Step p (Begin k i))) v d = absurd cc
whole_call words party call inputs asked (On (Step p (Go i))) v d = absurd cc
whole_call words party call inputs asked (On (Put value)) v d = absurd cc
whole_call words party call inputs asked (On Take) v d = absurd cc
whole_call words party call inputs asked (On Show) v d = absurd cc
whole_call words party call inputs asked (New (Mutex parties value starved)) v d = absurd cc
whole_call words party call inputs asked (New (RwLock parties value starved readers)) v d = absurd cc
whole_call words party call inputs asked (New (Semaphore parties permits most)) v d = absurd cc
whole_call words party call inputs asked (New (Cell parties)) v d = absurd cc
whole_call words party call inputs asked (New (Barrier parties size starved generations)) v d = absurd cc
whole_call words party call inputs asked (New (Pool parties items)) v d = absurd cc

pub returns-clause-words : goal.returns-clause-words
returns-clause-words c = (refl, c.in_ok-party.ensures.words)

pub returns-clause-asked : goal.returns-clause-asked
returns-clause-asked c = whole_call c.args.words.now _ _ _ c.in_ok-party.ensures.asked
