-- What a step answers, by cases.
use Rattle.access_core.specs.declared.found.Reading.{Reading}
use Rattle.access_core.specs.declared.found.Reading.TheVariants as reading
use Rattle.access_core.specs.declared.found.Entering.{Entering}
use Rattle.access_core.specs.declared.found.Entering.TheVariants as entering
use Rattle.access_core.specs.declared.found.Readers.{Readers}
use Rattle.access_core.specs.declared.found.Readers.TheVariants as readers
use Rattle.access_core.specs.declared.found.Left.{Left}
use Rattle.access_core.specs.declared.found.Left.TheVariants as left
use Rattle.access_core.specs.declared.found.Marking.{Marking}
use Rattle.access_core.specs.declared.found.Marking.TheVariants as marking

abbrev pub OnReading : Reading → Type 0 → Type 0 → Type 0 → Type 0 → Type 0
OnReading reading.Reads reads writer full changed = reads
OnReading reading.Writer reads writer full changed = writer
OnReading reading.Full reads writer full changed = full
OnReading reading.Changed reads writer full changed = changed

abbrev pub OnReaders : Readers → Type 0 → Type 0 → Type 0
OnReaders readers.NoneLeft none_left some_left = none_left
OnReaders readers.SomeLeft none_left some_left = some_left

abbrev pub OnLeft : Left → Type 0 → Type 0 → Type 0 → Type 0
OnLeft left.Readers readers nobody writer = readers
OnLeft left.Nobody readers nobody writer = nobody
OnLeft left.Writer readers nobody writer = writer

abbrev pub OnMarking : Marking → Type 0 → Type 0 → Type 0 → Type 0
OnMarking marking.Writes writes waits was_set = writes
OnMarking marking.Waits writes waits was_set = waits
OnMarking marking.WasSet writes waits was_set = was_set

abbrev pub OnEntering : Entering → Type 0 → Type 0 → Type 0 → Type 0
OnEntering entering.Reads reads writer full = reads
OnEntering entering.Writer reads writer full = writer
OnEntering entering.Full reads writer full = full
