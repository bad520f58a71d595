use Rattle.std.proofs.Common.{take}
use Rattle.sheet.specs.Sheets.{contents}
use Rattle.runs.proofs.Laying.{Laying}
use Rattle.runs.proofs.back.lay_each.Given as goal

abbrev pub invariant-loop-mark : goal.invariant-loop-mark
invariant-loop-mark l = Laying (contents l.initial.sheet) (take l.mark-index l.marks) l.first (contents l.sheet)
