-- How a run ends.
use Rattle.std.specs.Prelude.{ℕ, List, ◌++◌, codes, decimal}
use Rattle.lockrun_play.specs.declared.fault.Fault.{Fault}
use Rattle.lockrun_play.specs.declared.fault.Fault.TheVariants.{Usage, Read, TooLong, BadLine, Write, Memory, Thread}

-- the status by which a run tells of a fault: 1 for a script that is none, 2 for wrong arguments, 3 for what the system refused
abbrev pub status_of : Fault → ℕ
status_of TooLong = 1
status_of (BadLine n) = 1
status_of Usage = 2
status_of Read = 3
status_of Write = 3
status_of Memory = 3
status_of Thread = 3

-- the line by which a run tells of a fault, without its line feed
abbrev pub text_of : Fault → List ℕ
text_of Usage = codes "usage: lockrun script | lockrun threads K"
text_of Read = codes "lockrun: read failed"
text_of TooLong = codes "lockrun: script too long"
text_of (BadLine n) = codes "lockrun: line " ++ decimal n ++ codes ": bad"
text_of Write = codes "lockrun: write failed"
text_of Memory = codes "lockrun: no memory"
text_of Thread = codes "lockrun: thread failed"
