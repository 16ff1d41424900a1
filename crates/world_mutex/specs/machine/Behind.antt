-- The machine that stands behind a mutex, shut: those who build on a mutex pass it on, and read nothing of it but where a party stands, for tests.
use Rattle.std.specs.Prelude.{◌≡◌, ℕ, Option, refl, slice_get}
use Rattle.std.specs.Coded.{Coded, code_by}
use Rattle.lock_program.specs.declared.mutex.Place.{Place}
use Rattle.world_mutex.specs.contracts.machine.lock.Lock.{the_row}
use Rattle.world_mutex.specs.machine.Machine.{Lock}

pub record Behind : Type 0 where
  machine : Lock

pub conceal : Lock → Behind
conceal l = record { machine = l }

-- What was concealed. The proofs of this crate alone ask for it, and the reader of places.
pub reveal : Behind → Lock
reveal b = b.machine

pub revealed : (l : Lock) → reveal (conceal l) ≡ l
unfolding conceal reveal
revealed l = refl

-- Where a party stands in the mutex's own program; None past the last.
abbrev pub place_behind : Behind → ℕ → Option Place
place_behind b p = slice_get (reveal b).places p

concealed : (b : Behind) → conceal (reveal b) ≡ b
unfolding conceal reveal
concealed b = refl

pub behind_coded : Coded Behind
behind_coded = code_by Lock the_row.coded reveal conceal concealed
