-- The words that commands begin with.
use Rattle.std.specs.Prelude.{ℕ, List, codes}
use Rattle.lockrun_script.specs.declared.verbs.Verb.{Verb}
use Rattle.lockrun_script.specs.declared.verbs.Verb.TheVariants as verb

-- the first word of each command
abbrev pub name_of : Verb → List ℕ
name_of verb.Mutex = codes "mutex"
name_of verb.RwLock = codes "rwlock"
name_of verb.Semaphore = codes "semaphore"
name_of verb.Cell = codes "cell"
name_of verb.Barrier = codes "barrier"
name_of verb.Pool = codes "pool"
name_of verb.Begin = codes "begin"
name_of verb.Go = codes "go"
name_of verb.Do = codes "do"
name_of verb.GetMut = codes "getmut"
name_of verb.Take = codes "take"
name_of verb.Show = codes "show"
