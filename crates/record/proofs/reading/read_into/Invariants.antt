use Rattle.std.proofs.Common.{◌-◌, length}
use Rattle.sheet.specs.Sheets.{contents}
use Rattle.record.proofs.Along.{SoFar}
use Rattle.record.proofs.reading.read_into.Given as goal

abbrev pub invariant-loop-placed : goal.invariant-loop-placed
invariant-loop-placed l = SoFar l.bytes l.reader.bytes.now (contents l.initial.sheet) l.reader.at l.reader.stage (contents l.sheet)

abbrev pub decreases-loop-placed : goal.decreases-loop-placed
decreases-loop-placed l = length l.bytes - l.reader.at
