-- The refusals' numbers, and their kinds as errors of input and output.
use Rattle.std.specs.Prelude.{ℕ}
use Rattle.std.specs.declared.io.ErrorKind.{ErrorKind}
use Rattle.std.specs.declared.io.ErrorKind.TheVariants.{OutOfMemory, QuotaExceeded, InvalidInput}
use Rattle.lock_program.specs.declared.refusal.Refusal.{Refusal}
use Rattle.lock_program.specs.declared.refusal.Refusal.TheVariants.{Memory, Starved, Readers, Permits, Generations, Finished}

-- the numbers by which answers and scripts name the refusals
abbrev pub number_of : Refusal → ℕ
number_of Memory = 1
number_of Starved = 2
number_of Readers = 3
number_of Permits = 4
number_of Generations = 5
number_of Finished = 6

-- what each is as an error of input and output
abbrev pub kind_of : Refusal → ErrorKind
kind_of Memory = OutOfMemory
kind_of Starved = QuotaExceeded
kind_of Readers = QuotaExceeded
kind_of Permits = QuotaExceeded
kind_of Generations = QuotaExceeded
kind_of Finished = InvalidInput
