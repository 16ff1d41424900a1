-- What a line's words ask for.
use Rattle.std.specs.Prelude.{◌≡◌, ◌⊎◌, ℕ, ◌≤◌, List, [], ◌∷◌, codes, Option, None, Some}
use Rattle.world_base.specs.declared.moves.Call.{Call}
use Rattle.world_base.specs.declared.moves.Call.TheVariants as call
use Rattle.world_base.specs.declared.moves.Inputs.{Inputs}
use Rattle.world_base.specs.declared.moves.What.TheVariants.{Begin, Go}
use Rattle.lockrun_script.specs.declared.verbs.Verb.{Verb}
use Rattle.lockrun_script.specs.declared.verbs.Verb.TheVariants as verb
use Rattle.lockrun_script.specs.declared.command.Command.{Command}
use Rattle.lockrun_script.specs.declared.command.Command.TheVariants.{New, On}
use Rattle.lockrun_script.specs.declared.command.Model.TheVariants.{Mutex, RwLock, Semaphore, Cell, Barrier, Pool}
use Rattle.lockrun_script.specs.declared.command.Request.TheVariants.{Step, Whole, Put, Take, Show}
use Rattle.lockrun_script.specs.Verbs.{name_of}
use Rattle.lockrun_script.specs.Inputs.{WritesInputs}
use Rattle.lockrun_script.specs.Lines.{Writes, BeginsWithNoNumber}

-- the words write this limit: one number, or no word where none is given
abbrev pub WritesLimit : List (List ℕ) → Option ℕ → Type 0
WritesLimit words None = words ≡ []
WritesLimit words (Some n) = (word : List ℕ) × (words ≡ word ∷ []) × Writes word n

-- the words write these two limits: no word is there, or the first limit's number, and after it none or the second one's
abbrev pub WritesLimits : List (List ℕ) → Option ℕ → Option ℕ → Type 0
WritesLimits words None second = (words ≡ []) × (second ≡ None)
WritesLimits words (Some n) second = (word : List ℕ) × (others : List (List ℕ)) × (words ≡ word ∷ others) × Writes word n × WritesLimit others second

-- the number of parties, from 1 to 64, one more number, and a limit: of a mutex the value, and how many parties may be starved; of a semaphore the permits, and the greatest value of its limit
pub record AreNumbersAndLimit (words : List (List ℕ)) (parties value : ℕ) (limit : Option ℕ) : Type 0 where
  pub first : List ℕ
  pub second : List ℕ
  pub others : List (List ℕ)
  pub are : words ≡ first ∷ second ∷ others
  pub counts : Writes first parties
  pub values : Writes second value
  pub limits : WritesLimit others limit
  pub least : 1 ≤ parties
  pub most : parties ≤ 64

-- the number of parties, from 1 to 64, one more number, and two limits: of a read-write lock the value, how many parties may be starved for the turn, and how many may read; of a barrier for how many parties it waits, how many may be starved for its inner lock, and how many generations it may finish
pub record AreNumbersAndLimits (words : List (List ℕ)) (parties value : ℕ) (limit further : Option ℕ) : Type 0 where
  pub first : List ℕ
  pub second : List ℕ
  pub others : List (List ℕ)
  pub are : words ≡ first ∷ second ∷ others
  pub counts : Writes first parties
  pub values : Writes second value
  pub limits : WritesLimits others limit further
  pub least : 1 ≤ parties
  pub most : parties ≤ 64

-- the number of parties, from 1 to 64, and that of items, at most 64
pub record ArePartiesAndItems (words : List (List ℕ)) (parties items : ℕ) : Type 0 where
  pub first : List ℕ
  pub second : List ℕ
  pub are : words ≡ first ∷ second ∷ []
  pub counts : Writes first parties
  pub holds : Writes second items
  pub least : 1 ≤ parties
  pub most : parties ≤ 64
  pub few : items ≤ 64

-- the word of a call that takes no number
abbrev pub IsWordOf : List ℕ → Call → Type 0
IsWordOf word call.Lock = word ≡ codes "lock"
IsWordOf word call.TryLock = word ≡ codes "trylock"
IsWordOf word call.Read = word ≡ codes "read"
IsWordOf word call.UpgradableRead = word ≡ codes "upread"
IsWordOf word call.Write = word ≡ codes "write"
IsWordOf word call.TryRead = word ≡ codes "tryread"
IsWordOf word call.TryUpgradableRead = word ≡ codes "tryupread"
IsWordOf word call.TryWrite = word ≡ codes "trywrite"
IsWordOf word call.Upgrade = word ≡ codes "upgrade"
IsWordOf word call.TryUpgrade = word ≡ codes "tryupgrade"
IsWordOf word call.Downgrade = word ≡ codes "downgrade"
IsWordOf word call.DowngradeToUpgradable = word ≡ codes "toupgradable"
IsWordOf word call.Forget = word ≡ codes "forget"
IsWordOf word call.Initialize = word ≡ codes "init"
IsWordOf word call.Wait = word ≡ codes "wait"
IsWordOf word call.Poll = word ≡ codes "poll"
IsWordOf word call.Drop = word ≡ codes "drop"
IsWordOf word call.Take = word ≡ codes "take"
IsWordOf word call.TryTake = word ≡ codes "trytake"
IsWordOf word call.Give = word ≡ codes "give"
IsWordOf word _ = ⊥

-- the word is that of a call which takes a number, and this is the call with that number
abbrev pub TakesNumber : List ℕ → ℕ → Call → Type 0
TakesNumber word n (call.Put v) = (word ≡ codes "put") × (v ≡ n)
TakesNumber word n (call.AddPermits v) = (word ≡ codes "add") × (v ≡ n)
TakesNumber word n (call.Set v) = (word ≡ codes "set") × (v ≡ n)
TakesNumber word n (call.TrySet v) = (word ≡ codes "tryset") × (v ≡ n)
TakesNumber word n _ = ⊥

-- the words write so many permits, and the others follow: one number, or none, which stands for one permit
abbrev pub WritesPermits : List (List ℕ) → ℕ → List (List ℕ) → Type 0
WritesPermits words k others = ((word : List ℕ) × (words ≡ word ∷ others) × Writes word k) ⊎ ((words ≡ others) × (k ≡ 1) × BeginsWithNoNumber words)

-- the word is that of a call for so many permits, which the words after it write, and the others follow
abbrev pub AsksPermits : List ℕ → List (List ℕ) → Call → List (List ℕ) → Type 0
AsksPermits word words (call.Acquire k) others = (word ≡ codes "acquire") × WritesPermits words k others
AsksPermits word words (call.TryAcquire k) others = (word ≡ codes "tryacquire") × WritesPermits words k others
AsksPermits word words _ others = ⊥

-- the words begin with those of this call, and the others follow
abbrev pub BeginsWithCall : List (List ℕ) → Call → List (List ℕ) → Type 0
BeginsWithCall words (call.Put v) others = (word : List ℕ) × (words ≡ codes "put" ∷ word ∷ others) × Writes word v
BeginsWithCall words (call.AddPermits n) others = (word : List ℕ) × (words ≡ codes "add" ∷ word ∷ others) × Writes word n
BeginsWithCall words (call.Set v) others = (word : List ℕ) × (words ≡ codes "set" ∷ word ∷ others) × Writes word v
BeginsWithCall words (call.TrySet v) others = (word : List ℕ) × (words ≡ codes "tryset" ∷ word ∷ others) × Writes word v
BeginsWithCall words (call.Acquire k) others = (word : List ℕ) × (after : List (List ℕ)) × (words ≡ word ∷ after) × AsksPermits word after (call.Acquire k) others
BeginsWithCall words (call.TryAcquire k) others = (word : List ℕ) × (after : List (List ℕ)) × (words ≡ word ∷ after) × AsksPermits word after (call.TryAcquire k) others
BeginsWithCall words c others = (word : List ℕ) × (words ≡ word ∷ others) × IsWordOf word c

-- the words after `begin` or `do`: a party's number, its call, and the inputs
pub record AreOfCall (words : List (List ℕ)) (party : ℕ) (call : Call) (inputs : Inputs) : Type 0 where
  pub first : List ℕ
  pub after : List (List ℕ)
  pub others : List (List ℕ)
  pub are : words ≡ first ∷ after
  pub numbers : Writes first party
  pub calls : BeginsWithCall after call others
  pub gives : WritesInputs others inputs

-- the words after `go`: a party's number and the inputs
pub record AreOfGo (words : List (List ℕ)) (party : ℕ) (inputs : Inputs) : Type 0 where
  pub first : List ℕ
  pub others : List (List ℕ)
  pub are : words ≡ first ∷ others
  pub numbers : Writes first party
  pub gives : WritesInputs others inputs

-- what a command begins with
abbrev pub verb_of : Command → Verb
verb_of (New (Mutex parties value starved)) = verb.Mutex
verb_of (New (RwLock parties value starved readers)) = verb.RwLock
verb_of (New (Semaphore parties permits most)) = verb.Semaphore
verb_of (New (Cell parties)) = verb.Cell
verb_of (New (Barrier parties size starved generations)) = verb.Barrier
verb_of (New (Pool parties items)) = verb.Pool
verb_of (On (Step party (Begin call inputs))) = verb.Begin
verb_of (On (Step party (Go inputs))) = verb.Go
verb_of (On (Whole party call inputs)) = verb.Do
verb_of (On (Put value)) = verb.GetMut
verb_of (On Take) = verb.Take
verb_of (On Show) = verb.Show

-- the words after the first one write what the command takes
abbrev pub Details : List (List ℕ) → Command → Type 0
Details words (New (Mutex parties value starved)) = AreNumbersAndLimit words parties value starved
Details words (New (RwLock parties value starved readers)) = AreNumbersAndLimits words parties value starved readers
Details words (New (Semaphore parties permits most)) = AreNumbersAndLimit words parties permits most
Details words (New (Cell parties)) = (word : List ℕ) × (words ≡ word ∷ []) × Writes word parties × (1 ≤ parties) × (parties ≤ 64)
Details words (New (Barrier parties size starved generations)) = AreNumbersAndLimits words parties size starved generations
Details words (New (Pool parties items)) = ArePartiesAndItems words parties items
Details words (On (Step party (Begin call inputs))) = AreOfCall words party call inputs
Details words (On (Step party (Go inputs))) = AreOfGo words party inputs
Details words (On (Whole party call inputs)) = AreOfCall words party call inputs
Details words (On (Put value)) = (word : List ℕ) × (words ≡ word ∷ []) × Writes word value
Details words (On Take) = words ≡ []
Details words (On Show) = words ≡ []

-- the words of a line ask for this command: the first is its name, and the others write what it takes
abbrev pub Asks : List (List ℕ) → Command → Type 0
Asks words c = (others : List (List ℕ)) × (words ≡ name_of (verb_of c) ∷ others) × Details others c
