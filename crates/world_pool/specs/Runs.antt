-- Whole runs of a pool's World, and what the moves and answers alone tell: which item each party has leased.
use Rattle.std.specs.Prelude.{◌≡◌, ℕ, ◌==◌, if◌then◌else◌, true, List, Option, Some, None}
use Rattle.world_base.specs.declared.moves.Answer.{Answer}
use Rattle.world_base.specs.declared.moves.Answer.TheVariants as answer
use Rattle.world_base.specs.declared.moves.Call.TheVariants as call
use Rattle.world_base.specs.declared.moves.Got.{Got}
use Rattle.world_base.specs.declared.moves.Got.TheVariants as got
use Rattle.world_base.specs.declared.moves.Move.{Move}
use Rattle.world_base.specs.declared.moves.What.{What}
use Rattle.world_base.specs.declared.moves.What.TheVariants.{Begin}
use Rattle.world_base.specs.declared.standing.Rest.TheVariants.{Holding}
use Rattle.world_base.specs.Runs as runs
use Rattle.world_base.specs.Standings.{Standing, outside}
use Rattle.world_pool.specs.State.{World, standing_of, lease_of}
use Rattle.world_pool.specs.Steps.{Steps}
use Rattle.world_pool.specs.Laws.{IsSound, IsAwake, is_at_rest}
use Rattle.world_pool.specs.machine.Machine.{in_list}

-- The item of a guard, if it is one.
abbrev pub item_in : Got → Option ℕ
item_in (got.Value i) = Some i
item_in g = None

-- A give and a drop take the item away as they begin.
abbrev pub kept_by : What → Option ℕ → Option ℕ
kept_by (Begin call.Give inputs) item = None
kept_by (Begin call.Drop inputs) item = None
kept_by what item = item

-- The item that a party has by its answers, after one more.
abbrev pub item_after : Option ℕ → What → Answer → Option ℕ
item_after item what (answer.Ready g) = item_in g
item_after item what (answer.Granted g) = item_in g
item_after item what answer.NotPossible = item
item_after item what a = kept_by what item

abbrev pub items_after : (ℕ → Option ℕ) → Move → Answer → ℕ → Option ℕ
items_after known m a p = if m.party == p then item_after (known p) m.what a else known p

-- The item of a party that stands so and has this lease: outside every call with a lease it has it; inside one its answer is still to come.
abbrev pub item_by : Standing → Option ℕ → Option ℕ
item_by (outside Holding) lease = lease
item_by s lease = None

abbrev pub known_of : World → ℕ → Option ℕ
known_of w p = item_by (standing_of w p) (lease_of w p)

-- What is known tells each party's item.
abbrev pub TellsItems : (ℕ → Option ℕ) → World → Type 0
TellsItems known w = (p : ℕ) → known p ≡ known_of w p

-- What holds after each step of a run: an item that a party has by its answers is leased to it, stands in the list no more, and no other party has it; all is sound, and at rest the list is balanced and no notification is lost.
pub record HoldsWell (known : ℕ → Option ℕ) (w : World) : Type 0 where
  pub leased : (p i : ℕ) → known p ≡ Some i → lease_of w p ≡ Some i
  pub outside_list : (p i : ℕ) → known p ≡ Some i → in_list i w.items ≡ 0
  pub exclusion : (p q i : ℕ) → known p ≡ Some i → known q ≡ Some i → p ≡ q
  pub sound : IsSound w
  pub awake : is_at_rest w ≡ true → IsAwake w

-- A chain of legal steps, one answer a move, after each of which all is well.
abbrev pub Runs : (ℕ → Option ℕ) → World → List Move → List Answer → World → Type 0
Runs = runs.Runs Steps items_after HoldsWell

-- A run in which is known what the World has where it begins.
abbrev pub RunsOn : World → List Move → List Answer → World → Type 0
RunsOn w = Runs (known_of w) w
