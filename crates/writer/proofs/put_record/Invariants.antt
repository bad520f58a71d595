use Rattle.std.proofs.Common.{take}
use Rattle.writer.specs.Putting.{Puts}
use Rattle.writer.specs.Writing.{lines_bytes}
use Rattle.writer.proofs.put_record.Given as goal

abbrev pub invariant-loop-line : goal.invariant-loop-line
invariant-loop-line l = Puts l.initial.cursor l.cursor (lines_bytes (take l.line-index l.lines))
