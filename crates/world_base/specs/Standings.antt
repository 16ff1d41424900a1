-- How a party stands, which moves it may make, and how its calls end. All Worlds share this.
use Rattle.std.specs.Prelude.{◌≡◌, ℕ, ◌==◌, ◌&&◌, ◌||◌, if◌then◌else◌, Bool, true, false, Option, Some, None}
use Rattle.world_base.specs.declared.moves.Answer.{Answer}
use Rattle.world_base.specs.declared.moves.Answer.TheVariants as answer
use Rattle.world_base.specs.declared.moves.Call.{Call}
use Rattle.world_base.specs.declared.moves.Call.TheVariants as call
use Rattle.world_base.specs.declared.moves.Inputs.{Inputs}
use Rattle.world_base.specs.declared.moves.What.{What}
use Rattle.world_base.specs.declared.moves.What.TheVariants.{Begin, Go}
use Rattle.lock_program.specs.declared.refusal.Refusal.{Refusal}
use Rattle.lock_program.specs.declared.refusal.Refusal.TheVariants as refusal
use Rattle.world_base.specs.declared.standing.Kind.{Kind}
use Rattle.world_base.specs.declared.standing.Kind.TheVariants as kind
use Rattle.world_base.specs.declared.standing.Rest.{Rest}
use Rattle.world_base.specs.declared.standing.Rest.TheVariants.{Idle, Pending, Holding, Finished}
use Rattle.world_base.specs.declared.standing.Stage.{Stage}
use Rattle.world_base.specs.declared.standing.Stage.TheVariants.{Outside, Inside, Forgotten}
use Rattle.world_base.specs.declared.standing.Within.{Within}
use Rattle.lock_program.specs.Refusals.{number_of}

-- How a party stands. Inside a call it is undecided, or decided on the answer that will end the call.
pub data Standing : Type 0 where
  outside : Rest → Standing
  inside : Within → Option Answer → Standing
  forgotten : Standing

-- Outside every call.
abbrev pub is_outside : Standing → Bool
is_outside (inside w decided) = false
is_outside s = true

-- Outside every call, as a World keeps it.
abbrev pub is_outside_stage : Stage → Bool
is_outside_stage (Inside w) = false
is_outside_stage s = true

-- Whoever is pending or holds a right when a value is put from outside every call is forgotten.
abbrev pub forgets : Stage → Stage
forgets (Outside Pending) = Forgotten
forgets (Outside Holding) = Forgotten
forgets s = s

-- The kind of a call: a try, one of the calls on what a party has, or the first poll of a future.
abbrev pub kind_of : Call → Kind
kind_of call.TryLock = kind.Try
kind_of call.TryRead = kind.Try
kind_of call.TryUpgradableRead = kind.Try
kind_of call.TryWrite = kind.Try
kind_of (call.TryAcquire k) = kind.Try
kind_of (call.TrySet v) = kind.Try
kind_of call.TryTake = kind.Try
kind_of (call.AddPermits n) = kind.Add
kind_of call.Upgrade = kind.Upgrade
kind_of call.TryUpgrade = kind.TryUpgrade
kind_of call.Downgrade = kind.Downgrade
kind_of call.DowngradeToUpgradable = kind.Downgrade
kind_of call.Forget = kind.Forget
kind_of call.Give = kind.Give
kind_of (call.Put v) = kind.Put
kind_of call.Drop = kind.Drop
kind_of call.Poll = kind.LaterPoll
kind_of _ = kind.FirstPoll

-- Which calls a party that stands so may begin.
abbrev pub may_begin : Rest → Kind → Bool
may_begin Idle kind.FirstPoll = true
may_begin Idle kind.Try = true
may_begin Idle kind.Add = true
may_begin Pending kind.LaterPoll = true
may_begin Pending kind.Drop = true
may_begin Holding kind.LaterPoll = true
may_begin Holding kind.Upgrade = true
may_begin Holding kind.TryUpgrade = true
may_begin Holding kind.Downgrade = true
may_begin Holding kind.Forget = true
may_begin Holding kind.Give = true
may_begin Holding kind.Put = true
may_begin Holding kind.Drop = true
may_begin Finished kind.FirstPoll = true
may_begin Finished kind.Try = true
may_begin Finished kind.Add = true
may_begin Finished kind.LaterPoll = true
may_begin Finished kind.Drop = true
may_begin _ _ = false

-- The call that a move belongs to, where its party may make it: a call that the World knows is begun from outside, and gone on with from inside.
abbrev pub call_in : (Call → Bool) → Standing → What → Option Within
call_in knows (outside r) (Begin c inputs) = if knows c && may_begin r (kind_of c) then Some (record { kind = kind_of c; was = r }) else None
call_in knows (inside w decided) (Go inputs) = Some w
call_in knows _ _ = None

-- The inputs of a move.
abbrev pub inputs_of : What → Inputs
inputs_of (Begin c inputs) = inputs
inputs_of (Go inputs) = inputs

-- Every answer but NotPossible; and Stepped alone.
abbrev pub is_possible : Answer → Bool
is_possible answer.NotPossible = false
is_possible _ = true

abbrev pub is_stepped : Answer → Bool
is_stepped answer.Stepped = true
is_stepped _ = false

-- The answer that names this refusal.
abbrev pub refused : Refusal → Answer
refused r = answer.Refused (number_of r)

-- How a call may end: a poll by Pending, Ready or Refused, a try by Granted or None, and so on.
abbrev pub may_end : Kind → Answer → Bool
may_end kind.FirstPoll answer.Pending = true
may_end kind.FirstPoll (answer.Ready got) = true
may_end kind.FirstPoll (answer.Refused n) = true
may_end kind.LaterPoll answer.Pending = true
may_end kind.LaterPoll (answer.Ready got) = true
may_end kind.LaterPoll (answer.Refused n) = true
may_end kind.Try (answer.Granted got) = true
may_end kind.Try answer.None = true
may_end kind.Add (answer.Granted got) = true
may_end kind.Add (answer.Refused n) = true
may_end kind.Upgrade answer.Waiting = true
may_end kind.TryUpgrade (answer.Granted got) = true
may_end kind.TryUpgrade answer.None = true
may_end kind.Downgrade answer.GivenBack = true
may_end kind.Forget answer.GivenBack = true
may_end kind.Give answer.Pending = true
may_end kind.Give answer.GivenBack = true
may_end kind.Give (answer.Refused n) = true
may_end kind.Put (answer.Granted got) = true
may_end kind.Drop answer.GivenBack = true
may_end _ _ = false

-- A try gives its party a right, in a World where a ready party holds one.
abbrev pub gives_right : Rest → Kind → Bool
gives_right Holding kind.Try = true
gives_right ready k = false

-- The refusals that leave a party as it stood when its call began: too many permits, and a poll of a future that has been ready.
abbrev pub leaves_as_it_was : ℕ → Bool
leaves_as_it_was n = (n == number_of refusal.Permits) || (n == number_of refusal.Finished)

abbrev pub rest_after_giving_back : Kind → Rest
rest_after_giving_back kind.Downgrade = Holding
rest_after_giving_back k = Idle

-- How a party stands once its call has ended so; `ready` is how a party stands in this World when its future has been ready.
abbrev pub rest_after : Rest → Within → Answer → Rest
rest_after ready w answer.Pending = Pending
rest_after ready w answer.Waiting = Pending
rest_after ready w (answer.Ready got) = ready
rest_after ready w (answer.Granted got) = if gives_right ready w.kind then Holding else w.was
rest_after ready w answer.GivenBack = rest_after_giving_back w.kind
rest_after ready w (answer.Refused n) = if leaves_as_it_was n then w.was else Pending
rest_after ready w _ = w.was

-- A party is inside its call exactly while it is answered Stepped; any other answer is one that may end the call, and leaves the party outside.
abbrev pub StandsAfter : Rest → Within → Answer → Standing → Type 0
StandsAfter ready w answer.Stepped t = (decided : Option Answer) × (t ≡ inside w decided)
StandsAfter ready w a t = (may_end w.kind a ≡ true) × (t ≡ outside (rest_after ready w a))

abbrev pub is_decided : Standing → Bool
is_decided (inside w (Some a)) = true
is_decided _ = false

-- Inside a call that isn't decided.
abbrev pub IsUndecided : Standing → Type 0
IsUndecided s = (within : Within) × (s ≡ inside within None)

-- The answer on which a call is decided whose party was answered so and now stands so.
abbrev pub decision : Answer → Standing → Option Answer
decision a (inside w decided) = decided
decision a s = Some a

-- A step of a party that stood as s, was answered a and now stands as t decides its call on the answer b.
abbrev pub Decides : Standing → Answer → Standing → Answer → Type 0
Decides s a t b = (is_decided s ≡ false) × (decision a t ≡ Some b)
