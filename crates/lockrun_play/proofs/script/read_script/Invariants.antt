use Rattle.std.proofs.Common.{◌≡◌, ◌+◌, ◌≤◌, length}
use Rattle.std.specs.Io.KnownBytes.{Consumes}
use Rattle.lockrun_play.specs.declared.script.TheConstants.{LIMIT, CHUNK}
use Rattle.lockrun_play.proofs.script.read_script.Given as goal

-- what was read so far is what the input lost, and is at most one byte longer than a script
abbrev pub invariant-loop : goal.invariant-loop
invariant-loop g l = record {
  taken : Consumes (g.I.Read.remaining l.fn.input) (g.I.Read.remaining l.input) l.text.items;
  most : length l.text.items ≤ LIMIT + 1;
  full : length l.chunk ≡ CHUNK;
}
