-- Each word names one verb at most.
use Rattle.std.proofs.Common.{◌≡◌, ℕ, List, refl, sym, ◌∙◌, ap}
use Rattle.std.specs.Prelude.{if◌then◌else◌, Option, None, Some, bytes_eq, codes}
use Rattle.lockrun_script.specs.Verbs.{name_of}
use Rattle.lockrun_script.specs.declared.verbs.Verb.{Verb}
use Rattle.lockrun_script.specs.declared.verbs.Verb.TheVariants.{Mutex, RwLock, Semaphore, Cell, Barrier, Pool, Begin, Go, Do, GetMut, Take, Show}

-- the verb that a word names
verb_named : List ℕ → Option Verb
verb_named word =
    if bytes_eq word (codes "mutex") then Some Mutex else
    if bytes_eq word (codes "rwlock") then Some RwLock else
    if bytes_eq word (codes "semaphore") then Some Semaphore else
    if bytes_eq word (codes "cell") then Some Cell else
    if bytes_eq word (codes "barrier") then Some Barrier else
    if bytes_eq word (codes "pool") then Some Pool else
    if bytes_eq word (codes "begin") then Some Begin else
    if bytes_eq word (codes "go") then Some Go else
    if bytes_eq word (codes "do") then Some Do else
    if bytes_eq word (codes "getmut") then Some GetMut else
    if bytes_eq word (codes "take") then Some Take else
    if bytes_eq word (codes "show") then Some Show else
    None

own_name : (v : Verb) → verb_named (name_of v) ≡ Some v
unfolding verb_named
own_name Mutex = refl
own_name RwLock = refl
own_name Semaphore = refl
own_name Cell = refl
own_name Barrier = refl
own_name Pool = refl
own_name Begin = refl
own_name Go = refl
own_name Do = refl
own_name GetMut = refl
own_name Take = refl
own_name Show = refl

-- a name is of one verb
pub same_name : (v u : Verb) → name_of v ≡ name_of u → v ≡ u
same_name v u e = let same : Some v ≡ Some u = sym (own_name v) ∙ ap verb_named e ∙ own_name u in cc

-- a word names one verb at most
pub same_verb : (word : List ℕ) (v : Verb) → word ≡ name_of v → (u : Verb) → word ≡ name_of u → Some v ≡ Some u
same_verb word v e u f = ap Some (same_name v u (sym e ∙ f))
